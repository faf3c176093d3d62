-- One rename takes a placed tree to the placed tree of one route more.
use Rattle.std.proofs.Common.{◌≡◌, ◌≢◌, ◌⊎◌, inl, inr, ℕ, Bool, true, false, List, [], ◌∷◌, ◌++◌, map, filter, length, refl, sym, ◌∙◌, ap, subst, arith, append_assoc, length-append, Option, Some, None, is_some, IsTrue}
use Rattle.std.specs.FinMap.{get, find}
use Rattle.std.specs.Option.{option_map}
use Rattle.std.proofs.lemmas.List.{append-nil, same_from_push}
use Rattle.std.proofs.lemmas.Bool.{cases_Bool}
use Rattle.std.proofs.lemmas.Option.{none-some}
use Rattle.dired_text.specs.Paths.{Names, path_cmp, rest_below}
use Rattle.dired_text.proofs.PathLemmas.{rest_below-append, rest_below-some, rest_below-same, append_cancel}
use Rattle.tree_core.specs.declared.node.Node.{Node}
use Rattle.tree_core.specs.FileTree.{FileTree, IsTree, Stands, IsAbsent, CanRename, moved, moved_rest, renamed, after_rename}
use Rattle.tree_core.proofs.TreeLemmas.{get-renamed, absent_below, absent_not}
use Rattle.edit_words.specs.declared.row.Route.{Route}
use Rattle.edit_words.specs.declared.row.Route.TheVariants.{Sent}
use Rattle.edit_words.specs.Place.{routed, place}
use Rattle.edit_words.specs.Rows.{is_same_path}
use Rattle.edit_words.proofs.SameLemmas.{same_path, same_itself}
use Rattle.edit_words.specs.Edited.{Entries, placed_entry, IsPlaced, Came}
use Rattle.edit_laws.proofs.PlaceLemmas.{IsApart, by_last, place-push, place-apart, View, sent, near, view, push_not_root, routed-sent}
use Rattle.edit_laws.proofs.PlacedLemmas.{find-placed, source-placed, moved_all}

abbrev pub as_is : Names → Node → Node
as_is p node = node

-- entries, carried along
abbrev pub carried_along : Names → Names → Entries → Entries
carried_along from dest added = map (placed_entry (moved from dest) as_is) added

filter_all : (xs : Entries) → filter (λ (e : Names × Node). true) xs ≡ xs
filter_all [] = refl
filter_all (x ∷ xs) = ap (λ (l : Entries). x ∷ l) (filter_all xs)

pub moved-by : (from dest x : Names) (o : Option Names) → rest_below from x ≡ o → moved from dest x ≡ moved_rest o dest x
moved-by from dest x o e = ap (λ (l : Option Names). moved_rest l dest x) e

module _ (t : FileTree) (from dest : Names) (tree : IsTree t) (can : CanRename t from dest) where
  clear : (r : Names) → IsAbsent t (dest ++ r)
  clear = absent_below t tree dest can.absent

  not_below_dest : (x : Names) → Stands t x → (o : Option Names) → rest_below dest x ≡ o → o ≡ None
  not_below_dest x s None e = refl
  not_below_dest x s (Some r) e = absurd (absent_not _ (clear r) (subst (Stands t) (rest_below-some dest x r e) s))

  shows : (q : Names) (a b : Option Names) → rest_below dest q ≡ a → rest_below from q ≡ b → get (renamed t from dest) q ≡ after_rename a b (get t) from q
  shows q a b e1 e2 = get-renamed from dest t clear q ∙ ap (λ (o : Option Names). after_rename o (rest_below from q) (get t) from q) e1 ∙ ap (λ (o : Option Names). after_rename a o (get t) from q) e2

  -- what stood at x stands where x was moved
  pub get-moved : (x : Names) → Stands t x → get (renamed t from dest) (moved from dest x) ≡ get t x
  get-moved x s = go (rest_below from x) refl
    where
      go : (o : Option Names) → rest_below from x ≡ o → get (renamed t from dest) (moved from dest x) ≡ get t x
      go (Some r) e = ap (get (renamed t from dest)) (moved-by from dest x (Some r) e) ∙ shows (dest ++ r) (Some r) _ (rest_below-append dest r) refl ∙ ap (get t) (sym (rest_below-some from x r e))
      go None e = ap (get (renamed t from dest)) (moved-by from dest x None e) ∙ shows x None None (not_below_dest x s _ refl) e

  -- and nothing else does
  pub came_moved : (q : Names) (node : Node) → get (renamed t from dest) q ≡ Some node → (x : Names) × (moved from dest x ≡ q) × (get t x ≡ Some node)
  came_moved q node e = go (rest_below dest q) (rest_below from q) refl refl
    where
      go : (a b : Option Names) → rest_below dest q ≡ a → rest_below from q ≡ b → (x : Names) × (moved from dest x ≡ q) × (get t x ≡ Some node)
      go (Some r) b ea eb = (from ++ r, moved-by from dest (from ++ r) (Some r) (rest_below-append from r) ∙ sym (rest_below-some dest q r ea), sym (shows q (Some r) b ea eb) ∙ e)
      go None (Some r) ea eb = absurd (none-some node (sym (shows q None (Some r) ea eb) ∙ e))
      go None None ea eb = (q, moved-by from dest q None eb, sym (shows q None None ea eb) ∙ e)

  pub moved_apart : (x y : Names) → Stands t x → Stands t y → moved from dest x ≡ moved from dest y → x ≡ y
  moved_apart x y sx sy same = go (rest_below from x) (rest_below from y) refl refl
    where
      meets : (r z : Names) → Stands t z → dest ++ r ≡ z → ⊥
      meets r z sz e = absent_not _ (clear r) (subst (Stands t) (sym e) sz)

      go : (a b : Option Names) → rest_below from x ≡ a → rest_below from y ≡ b → x ≡ y
      go (Some r) (Some s) ea eb = rest_below-some from x r ea
          ∙ ap (λ (l : Names). from ++ l) (append_cancel dest r s (sym (moved-by from dest x (Some r) ea) ∙ same ∙ moved-by from dest y (Some s) eb)) ∙ sym (rest_below-some from y s eb)
      go (Some r) None ea eb = absurd (meets r y sy (sym (moved-by from dest x (Some r) ea) ∙ same ∙ moved-by from dest y None eb))
      go None (Some s) ea eb = absurd (meets s x sx (sym (moved-by from dest y (Some s) eb) ∙ sym same ∙ moved-by from dest x None ea))
      go None None ea eb = sym (moved-by from dest x None ea) ∙ same ∙ moved-by from dest y None eb

  module _ (added : Entries) (keeps : Names → Bool) (to : Names → Names) (shown : Names → Node → Node) (old : FileTree) (is : IsPlaced added keeps to shown old t) where
    along : carried_along from dest added ≡ moved_all (λ p. true) (moved from dest) as_is added
    along = ap (map (placed_entry (moved from dest) as_is)) (sym (filter_all added))

    some_of : (o : Option Node) → IsTrue (is_some o) → (node : Node) × (o ≡ Some node)
    some_of None s = cc
    some_of (Some node) s = (node, refl)

    added_stands : (x : Names) → IsTrue (is_some (find path_cmp x added)) → Stands t x
    added_stands x s = let n = some_of (find path_cmp x added) s in ap is_some (is.added_stand x n.0 n.1)

    same_option : (o : Option Node) → option_map (λ (n : Node). n) o ≡ o
    same_option None = refl
    same_option (Some n) = refl

    find-along : (x : Names) → Stands t x → find path_cmp (moved from dest x) (carried_along from dest added) ≡ find path_cmp x added
    find-along x s = ap (find path_cmp (moved from dest x)) along
        ∙ find-placed (λ p. true) (moved from dest) as_is added x refl (λ q kept stands same. moved_apart q x (added_stands q stands) s same)
        ∙ same_option (find path_cmp x added)

    pub placed_renamed : IsPlaced (carried_along from dest added) keeps (λ p. moved from dest (to p)) shown old (renamed t from dest)
    placed_renamed = record {
      added_stand = λ q node e.
          let s = source-placed (λ p. true) (moved from dest) as_is added q node (sym (ap (find path_cmp q) along) ∙ e) in
          ap (get (renamed t from dest)) (sym s.here) ∙ get-moved s.path (ap is_some (is.added_stand s.path s.was s.stood)) ∙ is.added_stand s.path s.was s.stood ∙ ap (λ (n : Node). Some n) (sym s.same);
      stay = λ p node kept stood none. by_added p node kept stood none (find path_cmp (to p) added) refl;
      only = λ q node e. let c = came_moved q node e in by_only q node c.0 c.1 c.2 (is.only c.0 node c.2);
    }
      where
        by_added : (p : Names) (node : Node) → keeps p ≡ true → get old p ≡ Some node → find path_cmp (moved from dest (to p)) (carried_along from dest added) ≡ None
            → (o : Option Node) → find path_cmp (to p) added ≡ o → get (renamed t from dest) (moved from dest (to p)) ≡ Some (shown p node)
        by_added p node kept stood none (Some x) e =
            let s : Stands t (to p) = ap is_some (is.added_stand (to p) x e) in
            absurd (none-some x (sym none ∙ find-along (to p) s ∙ e))
        by_added p node kept stood none None e =
            let there = is.stay p node kept stood e in
            get-moved (to p) (ap is_some there) ∙ there

        by_only : (q : Names) (node : Node) (x : Names) → moved from dest x ≡ q → get t x ≡ Some node → IsTrue (is_some (find path_cmp x added)) ⊎ Came keeps to shown old x node
            → IsTrue (is_some (find path_cmp q (carried_along from dest added))) ⊎ Came keeps (λ p. moved from dest (to p)) shown old q node
        by_only q node x at e (inl a) = inl (ap is_some (ap (λ (l : Names). find path_cmp l (carried_along from dest added)) (sym at) ∙ find-along x (ap is_some e)) ∙ a)
        by_only q node x at e (inr c) = inr (record { path = c.path; was = c.was; kept = c.kept; stood = c.stood; here = ap (moved from dest) c.here ∙ at; same = c.same })

-- ---- one route changed

-- nothing else goes to the root
not_at_root : (Kept : Names → Type 0) (route : Names → Route) → IsApart Kept route → (q : Names) (m : List ℕ) → Kept (q ++ m ∷ []) → [] ≡ place route (q ++ m ∷ []) → ⊥
not_at_root Kept route fits q m kept e = go (view (route (q ++ m ∷ [])) m) (e ∙ place-push route q m)
  where
    go : View (route (q ++ m ∷ [])) m → [] ≡ routed (route (q ++ m ∷ [])) (place route q) m → ⊥
    go (sent w is) e = fits.not_root (q ++ m ∷ []) w kept is (sym (e ∙ routed-sent route (q ++ m ∷ []) (place route q) m w is))
    go (near k named) e = push_not_root (place route q) k (sym (e ∙ named (place route q)))

pub rest-push : (from x : Names) (k : List ℕ) → x ++ k ∷ [] ≢ from → (o : Option Names) → rest_below from x ≡ o → (dest : Names) → moved from dest (x ++ k ∷ []) ≡ moved from dest x ++ k ∷ []
rest-push from x k other (Some r) e dest =
    moved-by from dest (x ++ k ∷ []) (Some (r ++ k ∷ [])) (ap (λ (l : Names). rest_below from (l ++ k ∷ [])) (rest_below-some from x r e) ∙ ap (rest_below from) (append_assoc from r (k ∷ [])) ∙ rest_below-append from (r ++ k ∷ []))
    ∙ sym (append_assoc dest r (k ∷ [])) ∙ ap (λ (l : Names). l ++ k ∷ []) (sym (moved-by from dest x (Some r) e))
rest-push from x k other None e dest =
    moved-by from dest (x ++ k ∷ []) None (go (rest_below from (x ++ k ∷ [])) refl) ∙ ap (λ (l : Names). l ++ k ∷ []) (sym (moved-by from dest x None e))
  where
    split : (r : Names) → x ++ k ∷ [] ≡ from ++ r → ⊥
    split = by_last (λ r. x ++ k ∷ [] ≡ from ++ r → ⊥) (λ is. other (is ∙ append-nil from)) (λ r m before is.
        let x_is : x ≡ from ++ r = (same_from_push x (from ++ r) k m (is ∙ sym (append_assoc from r (m ∷ [])))).0 in
        none-some r (sym e ∙ ap (rest_below from) x_is ∙ rest_below-append from r))

    go : (o : Option Names) → rest_below from (x ++ k ∷ []) ≡ o → rest_below from (x ++ k ∷ []) ≡ None
    go None is = is
    go (Some r) is = absurd (split r (rest_below-some from (x ++ k ∷ []) r is))

module _ (Kept : Names → Type 0) (route route' : Names → Route) (fits : IsApart Kept route) (sp : Names) (sn : List ℕ) (kept_s : Kept (sp ++ sn ∷ []))
    (others : (p : Names) → p ≢ sp ++ sn ∷ [] → route' p ≡ route p)
    -- no other path is sent below its place
    (outside : (q w : Names) → Kept q → q ≢ sp ++ sn ∷ [] → route q ≡ Sent w → rest_below (place route (sp ++ sn ∷ [])) w ≡ None) where
  s : Names
  s = sp ++ sn ∷ []

  abbrev from : Names
  from = place route (sp ++ sn ∷ [])

  -- what goes below its place is below it
  below_s : (p : Names) → Kept p → (r : Names) → place route p ≡ from ++ r → (r' : Names) × (p ≡ (sp ++ sn ∷ []) ++ r')
  below_s = by_last (λ p. Kept p → (r : Names) → place route p ≡ from ++ r → (r' : Names) × (p ≡ (sp ++ sn ∷ []) ++ r'))
      (λ kept r e. absurd (not_at_root Kept route fits sp sn kept_s (empty_front from r (sym e))))
      (λ p n before kept r e. by_same p n before kept r e (cases_Bool (is_same_path (p ++ n ∷ []) (sp ++ sn ∷ []))))
    where
      empty_front : (p r : Names) → p ++ r ≡ [] → [] ≡ p
      empty_front [] r e = refl
      empty_front (x ∷ p) r e = cc

      by_same : (p : Names) (n : List ℕ) → (Kept p → (r : Names) → place route p ≡ from ++ r → (r' : Names) × (p ≡ (sp ++ sn ∷ []) ++ r')) → Kept (p ++ n ∷ []) → (r : Names)
          → place route (p ++ n ∷ []) ≡ from ++ r → (is_same_path (p ++ n ∷ []) (sp ++ sn ∷ []) ≡ true) ⊎ (is_same_path (p ++ n ∷ []) (sp ++ sn ∷ []) ≡ false) → (r' : Names) × (p ++ n ∷ [] ≡ (sp ++ sn ∷ []) ++ r')
      by_same p n before kept r e (inl same) = ([], same_path (p ++ n ∷ []) (sp ++ sn ∷ []) same ∙ sym (append-nil (sp ++ sn ∷ [])))
      by_same p n before kept r e (inr other) = by_view (view (route (p ++ n ∷ [])) n) r (sym (place-push route p n) ∙ e)
        where
          not_s : p ++ n ∷ [] ≡ sp ++ sn ∷ [] → ⊥
          not_s is = let both : true ≡ false = sym (ap (is_same_path (p ++ n ∷ [])) (sym is) ∙ same_itself (p ++ n ∷ [])) ∙ other in cc

          by_view : View (route (p ++ n ∷ [])) n → (r : Names) → routed (route (p ++ n ∷ [])) (place route p) n ≡ from ++ r → (r' : Names) × (p ++ n ∷ [] ≡ (sp ++ sn ∷ []) ++ r')
          by_view (sent w is) r at = absurd (none-some r (sym (outside (p ++ n ∷ []) w kept not_s is)
              ∙ ap (rest_below from) (sym (routed-sent route (p ++ n ∷ []) (place route p) n w is) ∙ at) ∙ rest_below-append from r))
          by_view (near k named) r at = by_last (λ r. routed (route (p ++ n ∷ [])) (place route p) n ≡ from ++ r → (r' : Names) × (p ++ n ∷ [] ≡ (sp ++ sn ∷ []) ++ r'))
              (λ at. absurd (not_s (place-apart Kept route fits (p ++ n ∷ []) (sp ++ sn ∷ []) kept kept_s (place-push route p n ∙ at ∙ append-nil from))))
              (λ r m skip at.
              let up : place route p ≡ from ++ r = (same_from_push (place route p) (from ++ r) k m (sym (named (place route p)) ∙ at ∙ sym (append_assoc from r (m ∷ [])))).0 in
              let b = before (fits.up p n kept) r up in
              (b.0 ++ n ∷ [], ap (λ (l : Names). l ++ n ∷ []) b.1 ∙ append_assoc (sp ++ sn ∷ []) b.0 (n ∷ [])))
              r at

  -- its directory's place isn't below it
  parent_outside : rest_below from (place route sp) ≡ None
  parent_outside = go (rest_below from (place route sp)) refl
    where
      go : (o : Option Names) → rest_below from (place route sp) ≡ o → rest_below from (place route sp) ≡ None
      go None e = e
      go (Some r) e = absurd (let b = below_s sp (fits.up sp sn kept_s) r (rest_below-some from (place route sp) r e) in
          let long = ap length b.1 ∙ length-append (sp ++ sn ∷ []) b.0 in let short = length-append sp (sn ∷ []) in omega arith)

  dest : Names
  dest = routed (route' (sp ++ sn ∷ [])) (place route sp) sn

  pub place_moved : (p : Names) → Kept p → place route' p ≡ moved from (routed (route' (sp ++ sn ∷ [])) (place route sp) sn) (place route p)
  place_moved = by_last (λ p. Kept p → place route' p ≡ moved from (routed (route' (sp ++ sn ∷ [])) (place route sp) sn) (place route p))
      (λ kept. sym (moved-by from _ [] None (root_outside (rest_below from []) refl)))
      (λ p n before kept. by_same p n before kept (cases_Bool (is_same_path (p ++ n ∷ []) (sp ++ sn ∷ []))))
    where
      root_outside : (o : Option Names) → rest_below from [] ≡ o → rest_below from [] ≡ None
      root_outside None e = e
      root_outside (Some r) e = absurd (let b = below_s [] (root_kept (sp ++ sn ∷ []) kept_s) r (rest_below-some from [] r e) in
          let long = ap length b.1 ∙ length-append (sp ++ sn ∷ []) b.0 in let short = length-append sp (sn ∷ []) in omega arith)
        where
          root_kept : (p : Names) → Kept p → Kept []
          root_kept = by_last (λ p. Kept p → Kept []) (λ kept. kept) (λ p n before kept. before (fits.up p n kept))

      by_same : (p : Names) (n : List ℕ) → (Kept p → place route' p ≡ moved from (routed (route' (sp ++ sn ∷ [])) (place route sp) sn) (place route p)) → Kept (p ++ n ∷ [])
          → (is_same_path (p ++ n ∷ []) (sp ++ sn ∷ []) ≡ true) ⊎ (is_same_path (p ++ n ∷ []) (sp ++ sn ∷ []) ≡ false)
          → place route' (p ++ n ∷ []) ≡ moved from (routed (route' (sp ++ sn ∷ [])) (place route sp) sn) (place route (p ++ n ∷ []))
      by_same p n before kept (inl same) =
          let is : p ++ n ∷ [] ≡ sp ++ sn ∷ [] = same_path (p ++ n ∷ []) (sp ++ sn ∷ []) same in
          let parts = same_from_push p sp n sn is in
          let up : place route' sp ≡ place route sp = ap (place route') (sym parts.0) ∙ before (fits.up p n kept) ∙ ap (λ (l : Names). moved from (routed (route' (sp ++ sn ∷ [])) (place route sp) sn) (place route l)) parts.0 ∙ moved-by from _ (place route sp) None parent_outside in
          ap (place route') is ∙ place-push route' sp sn ∙ ap (λ (l : Names). routed (route' (sp ++ sn ∷ [])) l sn) up
          ∙ sym (append-nil _) ∙ sym (moved-by from _ from (Some []) (rest_below-same from)) ∙ ap (λ (l : Names). moved from (routed (route' (sp ++ sn ∷ [])) (place route sp) sn) (place route l)) (sym is)
      by_same p n before kept (inr other) = by_view (view (route (p ++ n ∷ [])) n)
        where
          not_s : p ++ n ∷ [] ≡ sp ++ sn ∷ [] → ⊥
          not_s is = let both : true ≡ false = sym (ap (is_same_path (p ++ n ∷ [])) (sym is) ∙ same_itself (p ++ n ∷ [])) ∙ other in cc

          as_before : place route' (p ++ n ∷ []) ≡ routed (route (p ++ n ∷ [])) (place route' p) n
          as_before = place-push route' p n ∙ ap (λ (a : Route). routed a (place route' p) n) (others (p ++ n ∷ []) not_s)

          by_view : View (route (p ++ n ∷ [])) n → place route' (p ++ n ∷ []) ≡ moved from (routed (route' (sp ++ sn ∷ [])) (place route sp) sn) (place route (p ++ n ∷ []))
          by_view (sent w is) =
              let at : place route (p ++ n ∷ []) ≡ w = place-push route p n ∙ routed-sent route (p ++ n ∷ []) (place route p) n w is in
              as_before ∙ routed-sent route (p ++ n ∷ []) (place route' p) n w is
              ∙ sym (moved-by from _ w None (outside (p ++ n ∷ []) w kept not_s is)) ∙ ap (moved from (routed (route' (sp ++ sn ∷ [])) (place route sp) sn)) (sym at)
          by_view (near k named) =
              let at : place route (p ++ n ∷ []) ≡ place route p ++ k ∷ [] = place-push route p n ∙ named (place route p) in
              as_before ∙ named (place route' p) ∙ ap (λ (l : Names). l ++ k ∷ []) (before (fits.up p n kept))
              ∙ sym (rest-push from (place route p) k (λ is. not_s (place-apart Kept route fits (p ++ n ∷ []) (sp ++ sn ∷ []) kept kept_s (at ∙ is))) _ refl _)
              ∙ ap (moved from (routed (route' (sp ++ sn ∷ [])) (place route sp) sn)) (sym at)

-- places that agree on the paths that stand
pub alike_placed : (added added' : Entries) (to to' : Names → Names) (shown : Names → Node → Node) (old t : FileTree)
    → ((q : Names) → find path_cmp q added ≡ find path_cmp q added') → ((p : Names) → Stands old p → to p ≡ to' p)
    → IsPlaced added (λ p. true) to shown old t → IsPlaced added' (λ p. true) to' shown old t
alike_placed added added' to to' shown old t same_added same_place is = record {
  added_stand = λ q node e. is.added_stand q node (same_added q ∙ e);
  stay = λ p node kept stood none.
      let at = same_place p (ap is_some stood) in
      ap (get t) (sym at) ∙ is.stay p node kept stood (ap (λ (l : Names). find path_cmp l added) at ∙ same_added (to' p) ∙ none);
  only = λ q node e. elim (is.only q node e) [
    | inl a ↦ inl (subst (λ (o : Option Node). IsTrue (is_some o)) (same_added q) a)
    | inr c ↦ inr (record { path = c.path; was = c.was; kept = c.kept; stood = c.stood; here = sym (same_place c.path (ap is_some c.stood)) ∙ c.here; same = c.same })
  ];
}

-- One rename does one route: the tree placed by `route` becomes the tree placed by route', which differs at one path s alone.
pub rerouted : (old t : FileTree) (shown : Names → Node → Node) (added added' : Entries) (route route' : Names → Route) (sp : Names) (sn : List ℕ) (from dest : Names)
    → IsTree t → CanRename t from dest → IsApart (Stands old) route → Stands old (sp ++ sn ∷ [])
    → place route (sp ++ sn ∷ []) ≡ from → routed (route' (sp ++ sn ∷ [])) (place route sp) sn ≡ dest
    → ((p : Names) → p ≢ sp ++ sn ∷ [] → route' p ≡ route p)
    → ((q w : Names) → Stands old q → q ≢ sp ++ sn ∷ [] → route q ≡ Sent w → rest_below from w ≡ None)
    → ((q : Names) → find path_cmp q (carried_along from dest added) ≡ find path_cmp q added')
    → IsPlaced added (λ p. true) (place route) shown old t → IsPlaced added' (λ p. true) (place route') shown old (renamed t from dest)
rerouted old t shown added added' route route' sp sn from dest tree can fits stands_s at to others outside along is =
    alike_placed (carried_along from dest added) added' (λ p. moved from dest (place route p)) (place route') shown old (renamed t from dest) along
    (λ p stands. ap (λ (l : Names). moved l dest (place route p)) (sym at)
    ∙ ap (λ (l : Names). moved (place route (sp ++ sn ∷ [])) l (place route p)) (sym to)
    ∙ sym (place_moved (Stands old) route route' fits sp sn stands_s others
    (λ q w stands other sent. ap (λ (l : Names). rest_below l w) at ∙ outside q w stands other sent) p stands))
    (placed_renamed t from dest tree can added (λ p. true) (place route) shown old is)
