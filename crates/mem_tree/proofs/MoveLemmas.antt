-- What the moves of a rename come to.
use Rattle.std.proofs.Common.{◌≡◌, ℕ, suc, Bool, true, false, cond, ◌||◌, List, [], ◌∷◌, ◌++◌, map, length, filter, refl, sym, ◌∙◌, ap, subst, Option, Some, None, is_some, IsTrue}
use Rattle.std.proofs.lemmas.Bool.{cond-true, cond-false}
use Rattle.std.proofs.lemmas.Bool.Decides.{same_from_decides, Decides-like}
use Rattle.std.specs.Option.{option_map}
use Rattle.std.specs.List.{AllByRecursion, list_any}
use Rattle.std.specs.FinMap.{find, is_sorted, get, remove, entries, keys, get-insert, get-remove, get-entries}
use Rattle.std.specs.FinMap.Entries.{below_all}
use Rattle.dired_text.specs.Paths.{Names, path_cmp, rest_below, is_below}
use Rattle.dired_text.proofs.PathLemmas.{path_cmp-total, path_cmp-exact, path_decides, rest_below-append, rest_below-some, append_cancel}
use Rattle.tree_core.specs.declared.node.Node.{Node}
use Rattle.tree_core.specs.FileTree.{FileTree, IsTree, IsAbsent, CanRename, moved, moved_rest, moved_entry, after_rename, renamed}
use Rattle.tree_core.proofs.TreeLemmas.{tie, tie-other, same_tree, find-moved, get-renamed, absent_below}
use Rattle.mem_tree.specs.declared.slots.Slot.{Slot}
use Rattle.mem_tree.specs.Slots.{Slots, Files, Keep, Counted, tree_in, times_in, time_at, positive}
use Rattle.mem_tree.specs.Moves.{Pairs, moves_of, is_target, copied_slot, with_copies, without_each, after_move}
use Rattle.mem_tree.specs.MemFields.{is_file_of, paths_of}
use Rattle.mem_tree.specs.Times.{renamed_time}
use Rattle.mem_tree.proofs.MapLemmas.{parts_true, find_under, all_entries}
use Rattle.mem_tree.proofs.Counting.{count_list, AreApart, count-made, sorted_entries}
use Rattle.mem_tree.proofs.TreeOf.{node_in, get-tree, paths-tree, slot_absent}

-- ---- one more in a fold

pub with_copies-push : (pairs : Pairs) (p : Names × Names) (slots : Slots) → with_copies (pairs ++ p ∷ []) slots ≡ copied_slot (get (with_copies pairs slots) p.0) p.1 (with_copies pairs slots)
with_copies-push [] p slots = refl
with_copies-push (q ∷ pairs) p slots = with_copies-push pairs p (copied_slot (get slots q.0) q.1 slots)

pub without_each-push : (paths : List Names) (p : Names) (slots : Slots) → without_each (paths ++ p ∷ []) slots ≡ remove (without_each paths slots) p
without_each-push [] p slots = refl
without_each-push (q ∷ paths) p slots = without_each-push paths p (remove slots q)

-- ---- what stands behind the folds

abbrev pub any_tie : Names → List Names → Bool
any_tie q paths = list_any (tie q) paths

pub get-without_each : (paths : List Names) (slots : Slots) (q : Names) → get (without_each paths slots) q ≡ cond (any_tie q paths) None (get slots q)
get-without_each [] slots q = refl
get-without_each (p ∷ paths) slots q = get-without_each paths (remove slots p) q ∙ ap (cond (any_tie q paths) None) (get-remove path_cmp-total slots p q) ∙ both (any_tie q paths) (tie q p)
  where
    both : (a b : Bool) → cond a None (cond b None (get slots q)) ≡ cond (b || a) None (get slots q)
    both true true = refl
    both true false = refl
    both false true = refl
    both false false = refl

or_false : (a b : Bool) → (a || b) ≡ false → (a ≡ false) × (b ≡ false)
or_false true b is = cc
or_false false b is = (refl, is)

-- what nothing moves to stays
pub copies-others : (pairs : Pairs) (slots : Slots) (q : Names) → is_target q pairs ≡ false → get (with_copies pairs slots) q ≡ get slots q
copies-others [] slots q other = refl
copies-others (p ∷ pairs) slots q other =
    let parts = or_false (tie q p.1) (is_target q pairs) other in
    copies-others pairs (copied_slot (get slots p.0) p.1 slots) q parts.1 ∙ step (get slots p.0) parts.0
  where
    step : (o : Option Slot) → tie q p.1 ≡ false → get (copied_slot o p.1 slots) q ≡ get slots q
    step None f = refl
    step (Some slot) f = get-insert path_cmp-total slots p.1 slot q ∙ cond-false _ (Some slot) _ f

-- ---- copies of what stands to places that are free

module _ (m : Slots) (back : Names → Names) where
  -- from where something stands to where nothing does; `back` leads from there
  pub record IsMove (p : Names × Names) : Type 0 where
    pub leads : back p.1 ≡ p.0
    pub stands : IsTrue (is_some (get m p.0))
    pub free : get m p.1 ≡ None

  -- so far the places that pass `seen` have copies
  pub record Copied (seen : Names → Bool) (now : Slots) : Type 0 where
    pub shows : (q : Names) → get now q ≡ cond (seen q) (get m (back q)) (get m q)
    pub free : (q : Names) → seen q ≡ true → get m q ≡ None

  copied_more : (seen : Names → Bool) (now : Slots) (p : Names × Names) → IsMove p → Copied seen now → Copied (λ q. seen q || tie q p.1) (copied_slot (get now p.0) p.1 now)
  copied_more seen now p move so_far = by (get m p.0) refl move.stands
    where
      unseen : (b : Bool) → seen p.0 ≡ b → seen p.0 ≡ false
      unseen true t = absurd (let none : is_some (get m p.0) ≡ false = ap is_some (so_far.free p.0 t) in let some = move.stands in cc)
      unseen false t = t

      source : get now p.0 ≡ get m p.0
      source = so_far.shows p.0 ∙ cond-false _ _ _ (unseen (seen p.0) refl)

      free_more : (q : Names) (a b : Bool) → seen q ≡ a → tie q p.1 ≡ b → (a || b) ≡ true → get m q ≡ None
      free_more q true b s t is = so_far.free q s
      free_more q false true s t is = ap (get m) ((path_decides q p.1).0 t) ∙ move.free
      free_more q false false s t is = cc

      at : (slot : Slot) → get m p.0 ≡ Some slot → (q : Names) (a b : Bool) → seen q ≡ a → tie q p.1 ≡ b → cond b (Some slot) (cond a (get m (back q)) (get m q)) ≡ cond (a || b) (get m (back q)) (get m q)
      at slot is q a true s t =
          let here : Some slot ≡ get m (back q) = sym (ap (get m) (ap back ((path_decides q p.1).0 t) ∙ move.leads) ∙ is) in here ∙ sym (yes a)
        where
          yes : (a : Bool) → cond (a || true) (get m (back q)) (get m q) ≡ get m (back q)
          yes true = refl
          yes false = refl
      at slot is q true false s t = refl
      at slot is q false false s t = refl

      by : (o : Option Slot) → get m p.0 ≡ o → IsTrue (is_some o) → Copied (λ q. seen q || tie q p.1) (copied_slot (get now p.0) p.1 now)
      by None is stands = cc
      by (Some slot) is stands = subst (λ o. Copied (λ q. seen q || tie q p.1) (copied_slot o p.1 now)) (sym (source ∙ is)) record {
        shows = λ q. get-insert path_cmp-total now p.1 slot q ∙ ap (cond (tie q p.1) (Some slot)) (so_far.shows q) ∙ at slot is q (seen q) (tie q p.1) refl refl;
        free = λ q t. free_more q (seen q) (tie q p.1) refl refl t;
      }

  copied_all : (pairs : Pairs) (seen : Names → Bool) (now : Slots) → AllByRecursion IsMove pairs → Copied seen now → Copied (λ q. seen q || is_target q pairs) (with_copies pairs now)
  copied_all [] seen now moves so_far = record { shows = λ q. so_far.shows q ∙ ap (λ b. cond b (get m (back q)) (get m q)) (sym (or_no (seen q))); free = λ q t. so_far.free q (sym (or_no (seen q)) ∙ t) }
    where
      or_no : (b : Bool) → (b || false) ≡ b
      or_no true = refl
      or_no false = refl
  copied_all (p ∷ pairs) seen now moves so_far =
      let rest = copied_all pairs (λ q. seen q || tie q p.1) (copied_slot (get now p.0) p.1 now) moves.1 (copied_more seen now p moves.0 so_far) in
      record { shows = λ q. rest.shows q ∙ ap (λ b. cond b (get m (back q)) (get m q)) (three (seen q) (tie q p.1) (is_target q pairs)); free = λ q t. rest.free q (three (seen q) (tie q p.1) (is_target q pairs) ∙ t) }
    where
      three : (a b c : Bool) → ((a || b) || c) ≡ (a || (b || c))
      three true b c = refl
      three false b c = refl

  pub all_copied : (pairs : Pairs) → AllByRecursion IsMove pairs → Copied (λ q. is_target q pairs) (with_copies pairs m)
  all_copied pairs moves = copied_all pairs (λ q. false) m moves record { shows = λ q. refl; free = λ q t. cc }

-- ---- the moves of a rename

module _ (from to : Names) (m : Slots) (clear : (r : Names) → get m (to ++ r) ≡ None) where
  abbrev back_from : Names → Names
  back_from q = moved to from q

  abbrev olds_in : List (Names × Slot) → List Names
  olds_in es = filter (is_below from) (map (λ (e : Names × Slot). e.0) es)

  abbrev pairs_in : List (Names × Slot) → Pairs
  pairs_in es = map (λ q. (q, moved from to q)) (olds_in es)

  moved-below : (q r : Names) → rest_below from q ≡ Some r → moved from to q ≡ to ++ r
  moved-below q r is = ap (λ o. moved_rest o to q) is

  back-moved : (r : Names) → back_from (to ++ r) ≡ from ++ r
  back-moved r = ap (λ o. moved_rest o from (to ++ r)) (rest_below-append to r)

  a_move : (e : Names × Slot) (r : Names) → rest_below from e.0 ≡ Some r → get m e.0 ≡ Some e.1 → IsMove m back_from (e.0, moved from to e.0)
  a_move e r is found = record {
    leads = ap back_from (moved-below e.0 r is) ∙ back-moved r ∙ sym (rest_below-some from e.0 r is);
    stands = ap is_some found;
    free = ap (get m) (moved-below e.0 r is) ∙ clear r;
  }

  moves_in : (es : List (Names × Slot)) → AllByRecursion (λ (e : Names × Slot). get m e.0 ≡ Some e.1) es → AllByRecursion (IsMove m back_from) (pairs_in es)
  moves_in [] found = tt
  moves_in (e ∷ es) found = by (rest_below from e.0) refl (moves_in es found.1)
    where
      by : (o : Option Names) → rest_below from e.0 ≡ o → AllByRecursion (IsMove m back_from) (pairs_in es) → AllByRecursion (IsMove m back_from) (map (λ q. (q, moved from to q)) (cond (is_some (rest_below from e.0)) (e.0 ∷ olds_in es) (olds_in es)))
      by None is rest = subst (λ o. AllByRecursion (IsMove m back_from) (map (λ q. (q, moved from to q)) (cond (is_some o) (e.0 ∷ olds_in es) (olds_in es)))) (sym is) rest
      by (Some r) is rest = subst (λ o. AllByRecursion (IsMove m back_from) (map (λ q. (q, moved from to q)) (cond (is_some o) (e.0 ∷ olds_in es) (olds_in es)))) (sym is) (a_move e r is found.0, rest)

  pub are_moves : AllByRecursion (IsMove m back_from) (moves_of from to m)
  are_moves = moves_in (entries m) (all_entries path_cmp-total (λ (e : Names × Slot). get m e.0 ≡ Some e.1) (entries m) (sorted_entries m) (λ e found. get-entries m e.0 ∙ found))

  -- whether something moves to a place, or from it
  not_below : (p q r : Names) → rest_below p q ≡ None → q ≡ p ++ r → ⊥
  not_below p q r none is = let some : rest_below p q ≡ Some r = ap (rest_below p) is ∙ rest_below-append p r in cc

  target_in : (es : List (Names × Slot)) (r : Names) → is_target (to ++ r) (pairs_in es) ≡ is_some (find path_cmp (from ++ r) es)
  target_in [] r = refl
  target_in (e ∷ es) r = by (rest_below from e.0) refl (target_in es r)
    where
      by : (o : Option Names) → rest_below from e.0 ≡ o → is_target (to ++ r) (pairs_in es) ≡ is_some (find path_cmp (from ++ r) es)
          → is_target (to ++ r) (map (λ q. (q, moved from to q)) (cond (is_some (rest_below from e.0)) (e.0 ∷ olds_in es) (olds_in es))) ≡ is_some (cond (tie (from ++ r) e.0) (Some e.1) (find path_cmp (from ++ r) es))
      by None is rest =
          ap (λ o. is_target (to ++ r) (map (λ q. (q, moved from to q)) (cond (is_some o) (e.0 ∷ olds_in es) (olds_in es)))) is ∙ rest
          ∙ ap is_some (sym (cond-false _ (Some e.1) _ (tie-other (from ++ r) e.0 (λ same. not_below from e.0 r is (sym same)))))
      by (Some s) is rest =
          ap (λ o. is_target (to ++ r) (map (λ q. (q, moved from to q)) (cond (is_some o) (e.0 ∷ olds_in es) (olds_in es)))) is
          ∙ (λ i. alike i || rest i)
          ∙ either (tie (from ++ r) e.0)
        where
          e_is : e.0 ≡ from ++ s
          e_is = rest_below-some from e.0 s is

          alike : tie (to ++ r) (moved from to e.0) ≡ tie (from ++ r) e.0
          alike = same_from_decides (tie (to ++ r) (moved from to e.0)) (tie (from ++ r) e.0) (path_decides (to ++ r) (moved from to e.0))
              (Decides-like (tie (from ++ r) e.0)
              (λ same. ap (λ l. to ++ l) (append_cancel from r s (same ∙ e_is)) ∙ sym (moved-below e.0 s is))
              (λ same. ap (λ l. from ++ l) (append_cancel to r s (same ∙ moved-below e.0 s is)) ∙ sym e_is)
              (path_decides (from ++ r) e.0))

          either : (b : Bool) → (b || is_some (find path_cmp (from ++ r) es)) ≡ is_some (cond b (Some e.1) (find path_cmp (from ++ r) es))
          either true = refl
          either false = refl

  other_target : (es : List (Names × Slot)) (q : Names) → rest_below to q ≡ None → is_target q (pairs_in es) ≡ false
  other_target [] q none = refl
  other_target (e ∷ es) q none = by (rest_below from e.0) refl (other_target es q none)
    where
      by : (o : Option Names) → rest_below from e.0 ≡ o → is_target q (pairs_in es) ≡ false → is_target q (map (λ q. (q, moved from to q)) (cond (is_some (rest_below from e.0)) (e.0 ∷ olds_in es) (olds_in es))) ≡ false
      by None is rest = ap (λ o. is_target q (map (λ q. (q, moved from to q)) (cond (is_some o) (e.0 ∷ olds_in es) (olds_in es)))) is ∙ rest
      by (Some s) is rest =
          ap (λ o. is_target q (map (λ q. (q, moved from to q)) (cond (is_some o) (e.0 ∷ olds_in es) (olds_in es)))) is
          ∙ (λ i. tie-other q (moved from to e.0) (λ same. not_below to q s none (same ∙ moved-below e.0 s is)) i || rest i)

  old_in : (es : List (Names × Slot)) (q : Names) → any_tie q (olds_in es) ≡ cond (is_below from q) (is_some (find path_cmp q es)) false
  old_in [] q = nothing (is_below from q)
    where
      nothing : (b : Bool) → false ≡ cond b false false
      nothing true = refl
      nothing false = refl
  old_in (e ∷ es) q = by (is_below from e.0) (tie q e.0) refl refl (old_in es q)
    where
      same_below : tie q e.0 ≡ true → is_below from q ≡ is_below from e.0
      same_below t = ap (is_below from) ((path_decides q e.0).0 t)

      by : (b t : Bool) → is_below from e.0 ≡ b → tie q e.0 ≡ t → any_tie q (olds_in es) ≡ cond (is_below from q) (is_some (find path_cmp q es)) false → any_tie q (cond (is_below from e.0) (e.0 ∷ olds_in es) (olds_in es)) ≡ cond (is_below from q) (is_some (cond (tie q e.0) (Some e.1) (find path_cmp q es))) false
      by true true b t rest =
          ap (λ x. any_tie q (cond x (e.0 ∷ olds_in es) (olds_in es))) b ∙ ap (λ x. x || any_tie q (olds_in es)) t
          ∙ sym ((λ i. cond ((same_below t ∙ b) i) (is_some (cond (t i) (Some e.1) (find path_cmp q es))) false))
      by true false b t rest =
          ap (λ x. any_tie q (cond x (e.0 ∷ olds_in es) (olds_in es))) b ∙ ap (λ x. x || any_tie q (olds_in es)) t ∙ rest
          ∙ ap (λ x. cond (is_below from q) (is_some (cond x (Some e.1) (find path_cmp q es))) false) (sym t)
      by false true b t rest =
          ap (λ x. any_tie q (cond x (e.0 ∷ olds_in es) (olds_in es))) b ∙ rest ∙ ap (λ x. cond x (is_some (find path_cmp q es)) false) (same_below t ∙ b)
          ∙ sym (ap (λ x. cond x (is_some (cond (tie q e.0) (Some e.1) (find path_cmp q es))) false) (same_below t ∙ b))
      by false false b t rest =
          ap (λ x. any_tie q (cond x (e.0 ∷ olds_in es) (olds_in es))) b ∙ rest
          ∙ ap (λ x. cond (is_below from q) (is_some (cond x (Some e.1) (find path_cmp q es))) false) (sym t)

  target_at : (r : Names) → is_target (to ++ r) (moves_of from to m) ≡ is_some (get m (from ++ r))
  target_at r = target_in (entries m) r ∙ ap is_some (sym (get-entries m (from ++ r)))

  old_at : (q : Names) → any_tie q (filter (is_below from) (keys m)) ≡ cond (is_below from q) (is_some (get m q)) false
  old_at q = old_in (entries m) q ∙ ap (λ o. cond (is_below from q) (is_some o) false) (sym (get-entries m q))

  firsts : (l : List Names) → map (λ (p : Names × Names). p.0) (map (λ q. (q, moved from to q)) l) ≡ l
  firsts [] = refl
  firsts (q ∷ l) = ap (λ r. q ∷ r) (firsts l)

  some_or : (o : Option Slot) → cond (is_some o) o None ≡ o
  some_or None = refl
  some_or (Some s) = refl

  none_or : (o : Option Slot) → cond (is_some o) None o ≡ None
  none_or None = refl
  none_or (Some s) = refl

  -- all copied, and then the old ones taken out
  pub moved_all : (q : Names) → get (without_each (map (λ p. p.0) (moves_of from to m)) (with_copies (moves_of from to m) m)) q ≡ after_move (rest_below to q) (rest_below from q) (get m) from q
  moved_all q =
      ap (λ l. get (without_each l (with_copies (moves_of from to m) m)) q) (firsts (filter (is_below from) (keys m)))
      ∙ get-without_each (filter (is_below from) (keys m)) (with_copies (moves_of from to m) m) q
      ∙ (λ i. cond (old_at q i) None ((all_copied m back_from (moves_of from to m) are_moves).shows q i))
      ∙ by (rest_below to q) (rest_below from q) refl refl
    where
      by : (a b : Option Names) → rest_below to q ≡ a → rest_below from q ≡ b
          → cond (cond (is_some (rest_below from q)) (is_some (get m q)) false) None (cond (is_target q (moves_of from to m)) (get m (back_from q)) (get m q)) ≡ after_move (rest_below to q) (rest_below from q) (get m) from q
      by (Some r) b at bf =
          let q_is : q ≡ to ++ r = rest_below-some to q r at in
          let none : get m q ≡ None = ap (get m) q_is ∙ clear r in
          ap (λ o. cond (cond (is_some (rest_below from q)) (is_some o) false) None (cond (is_target q (moves_of from to m)) (get m (back_from q)) o)) none
          ∙ ap (λ x. cond x None (cond (is_target q (moves_of from to m)) (get m (back_from q)) None)) (never (is_some (rest_below from q)))
          ∙ (λ i. cond ((ap (λ p. is_target p (moves_of from to m)) q_is ∙ target_at r) i) (get m ((ap back_from q_is ∙ back-moved r) i)) None)
          ∙ some_or (get m (from ++ r))
          ∙ sym (ap (λ o. after_move o (rest_below from q) (get m) from q) at)
        where
          never : (b : Bool) → cond b false false ≡ false
          never true = refl
          never false = refl
      by None (Some r) at bf =
          (λ i. cond (cond (is_some (bf i)) (is_some (get m q)) false) None (cond (other_target (entries m) q at i) (get m (back_from q)) (get m q)))
          ∙ none_or (get m q) ∙ sym (λ i. after_move (at i) (bf i) (get m) from q)
      by None None at bf =
          (λ i. cond (cond (is_some (bf i)) (is_some (get m q)) false) None (cond (other_target (entries m) q at i) (get m (back_from q)) (get m q)))
          ∙ sym (λ i. after_move (at i) (bf i) (get m) from q)

  -- where some were copied, and all that may have been are taken out
  pub moved_back : (now : Slots) → ((q : Names) → is_target q (moves_of from to m) ≡ false → get now q ≡ get m q) → (q : Names) → get (without_each (map (λ p. p.1) (moves_of from to m)) now) q ≡ get m q
  moved_back now others q = get-without_each (map (λ p. p.1) (moves_of from to m)) now q ∙ by (is_target q (moves_of from to m)) refl
    where
      by : (b : Bool) → is_target q (moves_of from to m) ≡ b → cond (is_target q (moves_of from to m)) None (get now q) ≡ get m q
      by true t = cond-true _ None _ t ∙ sym ((all_copied m back_from (moves_of from to m) are_moves).free q t)
      by false f = cond-false _ None _ f ∙ others q f

-- ---- the tree behind it

clear_rest : (to : Names) (e : Names × Node) (es : List (Names × Node)) → ((r : Names) → find path_cmp (to ++ r) (e ∷ es) ≡ None) → (r : Names) → find path_cmp (to ++ r) es ≡ None
clear_rest to e es clear r = by (tie (to ++ r) e.0) (clear r)
  where
    by : (b : Bool) → cond b (Some e.1) (find path_cmp (to ++ r) es) ≡ None → find path_cmp (to ++ r) es ≡ None
    by true is = cc
    by false is = is

clear_key : (to : Names) (e : Names × Node) (es : List (Names × Node)) → ((r : Names) → find path_cmp (to ++ r) (e ∷ es) ≡ None) → rest_below to e.0 ≡ None
clear_key to e es clear = by (rest_below to e.0) refl
  where
    by : (o : Option Names) → rest_below to e.0 ≡ o → rest_below to e.0 ≡ None
    by None is = is
    by (Some r) is = absurd (clash (sym (cond-true (tie (to ++ r) e.0) (Some e.1) (find path_cmp (to ++ r) es) ((path_decides (to ++ r) e.0).1 (sym (rest_below-some to e.0 r is)))) ∙ clear r))
      where
        clash : Some e.1 ≡ None → ⊥
        clash c = cc

moved_apart : (from to : Names) (es : List (Names × Node)) → is_sorted path_cmp es ≡ true → ((r : Names) → find path_cmp (to ++ r) es ≡ None) → AreApart path_cmp (map (moved_entry from to) es)
moved_apart from to [] s clear = tt
moved_apart from to (e ∷ es) s clear =
    let parts = parts_true (below_all path_cmp e.0 es) (is_sorted path_cmp es) s in
    let rest = clear_rest to e es clear in
    (find-moved from to es rest (moved from to e.0) ∙ by (rest_below from e.0) refl (find_under path_cmp-total e.0 es parts.0) (clear_key to e es clear), moved_apart from to es parts.1 rest)
  where
    by : (o : Option Names) → rest_below from e.0 ≡ o → find path_cmp e.0 es ≡ None → rest_below to e.0 ≡ None → after_rename (rest_below to (moved from to e.0)) (rest_below from (moved from to e.0)) (λ p. find path_cmp p es) from (moved from to e.0) ≡ None
    by None is none off =
        let q_is : moved from to e.0 ≡ e.0 = ap (λ o. moved_rest o to e.0) is in
        ap (λ q. after_rename (rest_below to q) (rest_below from q) (λ p. find path_cmp p es) from q) q_is
        ∙ (λ i. after_rename (off i) (is i) (λ p. find path_cmp p es) from e.0) ∙ none
    by (Some r) is none off =
        let q_is : moved from to e.0 ≡ to ++ r = ap (λ o. moved_rest o to e.0) is in
        ap (λ q. after_rename (rest_below to q) (rest_below from q) (λ p. find path_cmp p es) from q) q_is
        ∙ ap (λ o. after_rename o (rest_below from (to ++ r)) (λ p. find path_cmp p es) from (to ++ r)) (rest_below-append to r)
        ∙ ap (λ p. find path_cmp p es) (sym (rest_below-some from e.0 r is)) ∙ none

-- a rename changes no count
pub paths-renamed : (t : FileTree) (from to : Names) → ((r : Names) → IsAbsent t (to ++ r)) → (n : ℕ) → paths_of n (renamed t from to) ≡ paths_of n t
unfolding renamed
paths-renamed t from to clear n =
    count-made (is_file_of n) path_cmp-total path_cmp-exact (map (moved_entry from to) (entries t)) (moved_apart from to (entries t) (sorted_entries t) (λ r. sym (get-entries t (to ++ r)) ∙ clear r))
    ∙ same (entries t)
  where
    same : (es : List (Names × Node)) → count_list (is_file_of n) (map (moved_entry from to) es) ≡ count_list (is_file_of n) es
    same [] = refl
    same (e ∷ es) = by (is_file_of n e.1) (same es)
      where
        by : (b : Bool) → count_list (is_file_of n) (map (moved_entry from to) es) ≡ count_list (is_file_of n) es
            → length (cond b (moved_entry from to e ∷ filter (λ (e : Names × Node). is_file_of n e.1) (map (moved_entry from to) es)) (filter (λ (e : Names × Node). is_file_of n e.1) (map (moved_entry from to) es)))
            ≡ length (cond b (e ∷ filter (λ (e : Names × Node). is_file_of n e.1) es) (filter (λ (e : Names × Node). is_file_of n e.1) es))
        by true is = ap suc is
        by false is = is

module _ (slots : Slots) (files : Files) (from to : Names) where
  pub slots_clear : IsTree (tree_in slots files) → CanRename (tree_in slots files) from to → (r : Names) → get slots (to ++ r) ≡ None
  slots_clear tree can r = slot_absent slots files (to ++ r) (absent_below (tree_in slots files) tree to can.absent r)

  pub keep_renamed : IsTree (tree_in slots files) → CanRename (tree_in slots files) from to → Counted slots files → (later : Slots)
      → ((q : Names) → get later q ≡ after_move (rest_below to q) (rest_below from q) (get slots) from q)
      → Keep later files (renamed (tree_in slots files) from to) (λ q. renamed_time (rest_below to q) (rest_below from q) (times_in slots) from q)
  keep_renamed tree can counted later shows = record {
    tree = tree_is;
    times = λ i q. (ap time_at (shows q) ∙ timed_at q (rest_below to q) (rest_below from q)) i;
    counted = λ n. counted n ∙ ap positive (sym (paths-tree slots files n) ∙ sym (paths-renamed (tree_in slots files) from to clear n) ∙ ap (paths_of n) (sym tree_is) ∙ paths-tree later files n);
  }
    where
      clear : (r : Names) → IsAbsent (tree_in slots files) (to ++ r)
      clear r = absent_below (tree_in slots files) tree to can.absent r

      at : (q : Names) (a b : Option Names) → option_map (node_in files) (after_move a b (get slots) from q) ≡ after_rename a b (get (tree_in slots files)) from q
      at q (Some r) b = sym (get-tree slots files (from ++ r))
      at q None (Some r) = refl
      at q None None = sym (get-tree slots files q)

      tree_is : tree_in later files ≡ renamed (tree_in slots files) from to
      tree_is = same_tree _ _ (λ q. get-tree later files q ∙ ap (option_map (node_in files)) (shows q) ∙ at q (rest_below to q) (rest_below from q) ∙ sym (get-renamed from to (tree_in slots files) clear q))

      timed_at : (q : Names) (a b : Option Names) → time_at (after_move a b (get slots) from q) ≡ renamed_time a b (times_in slots) from q
      timed_at q (Some r) b = refl
      timed_at q None (Some r) = refl
      timed_at q None None = refl
