-- The loops over what is at or below a path.
use Rattle.std.proofs.Common.{◌≡◌, ℕ, Bool, true, false, cond, ◌||◌, List, [], ◌∷◌, ◌++◌, map, filter, append_assoc, refl, sym, ◌∙◌, ap, subst, Option, Some, None, is_some, Bor}
use Rattle.std.proofs.lemmas.List.{append-nil, map-append}
use Rattle.std.specs.Option.{option_map}
use Rattle.std.specs.List.{list_any}
use Rattle.std.specs.Map.{lookup}
use Rattle.std.specs.BTreeMap.{BTreeMap}
use Rattle.std.specs.Ordering.{is_eq}
use Rattle.std.specs.declared.cmp.Ordering.TheVariants.{Equal}
use Rattle.std.specs.declared.ops.Bound.TheVariants.{Included, Unbounded}
use Rattle.std.specs.BTreeMap.Range.{entries_between}
use Rattle.std.specs.FinMap.{get, is_sorted, keys, from_entries}
use Rattle.std.specs.declared.vec.Vec.{Vec}
use Rattle.dired_text.specs.Paths.{Names, path_cmp, rest_below, is_below}
use Rattle.tree_core.specs.Fields.{child_name}
use Rattle.mem_tree.specs.declared.slots.Slot.{Slot}
use Rattle.mem_tree.specs.Slots.{Slots, placed}
use Rattle.mem_tree.proofs.MapLemmas.{cmp_read}
use Rattle.mem_tree.proofs.KeptMaps.{names, slot_entries, get_slot}
use Rattle.mem_tree.proofs.RunLemmas.{Run, firsts, is_child, run_tail, run_end, run_childless, range_below, range_children}

some_same : {A B : Type 0} (f : A → B) (o : Option A) → is_some (option_map f o) ≡ is_some o
some_same f None = refl
some_same f (Some x) = refl

-- what a test found, at the names of a key
told_below : (p at q : Names) (o : Option (Bor Names)) (b : Bool) → option_map (λ (r : Bor Names). r.now) o ≡ rest_below p at → at ≡ q → is_some o ≡ b → is_below p q ≡ b
told_below p at q o b rest same is = ap (is_below p) (sym same) ∙ ap is_some (sym rest) ∙ some_same (λ (r : Bor Names). r.now) o ∙ is

told_child : (p at q : Names) (o : Option (Bor (List ℕ))) (b : Bool) → option_map (λ (r : Bor (List ℕ)). r.now) o ≡ child_name p at → at ≡ q → is_some o ≡ b → is_child p q ≡ b
told_child p at q o b rest same is = ap (is_child p) (sym same) ∙ ap is_some (sym rest) ∙ some_same (λ (r : Bor (List ℕ)). r.now) o ∙ is

module _ {Z : Type 0} where
  pub keys_are : (es : List (Vec (List ℕ) Z × Slot)) (slots : Slots) → is_sorted path_cmp (placed es) ≡ true → from_entries {R = path_cmp} (placed es) ≡ slots → firsts (placed es) ≡ keys slots
  keys_are es slots sorted view = ap firsts (sym (slot_entries es sorted)) ∙ ap (λ (m : Slots). keys m) view

  module _ (p : Names) (it next : List (Vec (List ℕ) Z × Slot)) (e : Vec (List ℕ) Z × Slot) (step : it ≡ e ∷ next) (run : Run p (placed it)) where
    run_here : Run p ((e.0.items, e.1) ∷ placed next)
    run_here = subst (λ l. Run p (placed l)) step run

    pub next_run : Run p (placed next)
    next_run = run_tail p (e.0.items, e.1) (placed next) run_here

    -- one more is below it
    pub below_more : (found more : List (Bor Names)) (key : Bor Names) (whole : List Names) (o : Option (Bor Names)) (at : Names)
        → map (λ k. k.now) found ++ filter (is_below p) (firsts (placed it)) ≡ whole → more ≡ found ++ key ∷ [] → key.now ≡ e.0.items → option_map (λ (r : Bor Names). r.now) o ≡ rest_below p at → at ≡ e.0.items → is_some o ≡ true
        → map (λ k. k.now) more ++ filter (is_below p) (firsts (placed next)) ≡ whole
    below_more found more key whole o at so_far pushed key_is rest at_is is =
        ap (λ l. map (λ (k : Bor Names). k.now) l ++ filter (is_below p) (firsts (placed next))) pushed
        ∙ ap (λ l. l ++ filter (is_below p) (firsts (placed next))) (map-append (λ (k : Bor Names). k.now) found (key ∷ []))
        ∙ append_assoc (map (λ (k : Bor Names). k.now) found) (key.now ∷ []) (filter (is_below p) (firsts (placed next)))
        ∙ ap (λ q. map (λ (k : Bor Names). k.now) found ++ (q ∷ filter (is_below p) (firsts (placed next)))) key_is
        ∙ ap (λ b. map (λ (k : Bor Names). k.now) found ++ cond b (e.0.items ∷ filter (is_below p) (firsts (placed next))) (filter (is_below p) (firsts (placed next)))) (sym (told_below p at e.0.items o true rest at_is is))
        ∙ ap (λ l. map (λ (k : Bor Names). k.now) found ++ filter (is_below p) (firsts (placed l))) (sym step) ∙ so_far

    -- no more are
    pub below_ends : (found : List (Bor Names)) (whole : List Names) (o : Option (Bor Names)) (at : Names)
        → map (λ k. k.now) found ++ filter (is_below p) (firsts (placed it)) ≡ whole → option_map (λ (r : Bor Names). r.now) o ≡ rest_below p at → at ≡ e.0.items → is_some o ≡ false → map (λ k. k.now) found ≡ whole
    below_ends found whole o at so_far rest at_is is =
        sym (append-nil (map (λ (k : Bor Names). k.now) found))
        ∙ ap (λ l. map (λ (k : Bor Names). k.now) found ++ l) (sym (ap (λ l. filter (is_below p) (firsts (placed l))) step ∙ run_end p (e.0.items, e.1) (placed next) run_here (told_below p at e.0.items o false rest at_is is)))
        ∙ so_far

    -- a child is among them
    pub child_found : (whole : Bool) (o : Option (Bor (List ℕ))) (at : Names) → list_any (is_child p) (firsts (placed it)) ≡ whole → option_map (λ (r : Bor (List ℕ)). r.now) o ≡ child_name p at → at ≡ e.0.items → is_some o ≡ true → true ≡ whole
    child_found whole o at so_far child at_is is =
        sym (ap (λ b. b || list_any (is_child p) (firsts (placed next))) (told_child p at e.0.items o true child at_is is)) ∙ ap (λ l. list_any (is_child p) (firsts (placed l))) (sym step) ∙ so_far

    pub child_passed : (whole : Bool) (o : Option (Bor (List ℕ))) (at : Names) → list_any (is_child p) (firsts (placed it)) ≡ whole → option_map (λ (r : Bor (List ℕ)). r.now) o ≡ child_name p at → at ≡ e.0.items → is_some o ≡ false → list_any (is_child p) (firsts (placed next)) ≡ whole
    child_passed whole o at so_far child at_is is =
        sym (ap (λ b. b || list_any (is_child p) (firsts (placed next))) (told_child p at e.0.items o false child at_is is)) ∙ ap (λ l. list_any (is_child p) (firsts (placed l))) (sym step) ∙ so_far

    pub children_end : (whole : Bool) (o : Option (Bor Names)) (at : Names) → list_any (is_child p) (firsts (placed it)) ≡ whole → option_map (λ (r : Bor Names). r.now) o ≡ rest_below p at → at ≡ e.0.items → is_some o ≡ false → false ≡ whole
    children_end whole o at so_far rest at_is is =
        sym (ap (λ l. list_any (is_child p) (firsts (placed l))) step ∙ run_childless p (e.0.items, e.1) (placed next) run_here (told_below p at e.0.items o false rest at_is is)) ∙ so_far

  -- the path itself stands
  pub not_missing : (m : BTreeMap (Vec (List ℕ) Z) Slot) (p : Names) (slots : Slots) → from_entries {R = path_cmp} (placed m.entries) ≡ slots → None ≡ lookup (λ k. is_eq (path_cmp p k.items)) m.entries → is_some (get slots p) ≡ true → ⊥
  not_missing m p slots view none stands = clash (ap is_some (none ∙ get_slot m p ∙ ap (λ (s : Slots). get s p) view) ∙ stands)
    where
      clash : false ≡ true → ⊥
      clash e = cc

  module _ (es range : List (Vec (List ℕ) Z × Slot)) (first : Vec (List ℕ) Z) (p : Names) (slots : Slots) (same : path_cmp p first.items ≡ Equal)
      (between : range ≡ entries_between (cmp_read names path_cmp) (Included first) Unbounded es) (sorted : is_sorted path_cmp (placed es) ≡ true) (view : from_entries {R = path_cmp} (placed es) ≡ slots) where
    pub all_below : filter (is_below p) (firsts (placed range)) ≡ filter (is_below p) (keys slots)
    all_below = range_below es range first p same between sorted ∙ ap (filter (is_below p)) (keys_are es slots sorted view)

    pub all_children : list_any (is_child p) (firsts (placed range)) ≡ list_any (is_child p) (keys slots)
    all_children = range_children es range first p same between sorted ∙ ap (list_any (is_child p)) (keys_are es slots sorted view)

pub nothing_left : (found whole : List Names) (rest : List Names) → rest ≡ [] → found ++ rest ≡ whole → found ≡ whole
nothing_left found whole rest is so_far = sym (append-nil found) ∙ ap (λ l. found ++ l) (sym is) ∙ so_far
