-- What blocks a change, and that it is ready where nothing does.
use Rattle.std.proofs.Common.{◌≡◌, ◌≢◌, ◌⊎◌, inl, inr, ℕ, zero, suc, Bool, true, false, ◌&&◌, ◌||◌, not, List, [], ◌∷◌, refl, sym, ◌∙◌, ap, subst, Option, Some, None, is_some}
use Rattle.std.specs.List.{list_any, slice_get}
use Rattle.std.specs.BTreeMap.{BTreeMap, get}
use Rattle.std.proofs.lemmas.Option.{same_Some}
use Rattle.std.proofs.lemmas.Bool.{cases_Bool}
use Rattle.dired_text.specs.Paths.{Names, parent, path_cmp}
use Rattle.edit_words.specs.declared.row.Row.{Row}
use Rattle.edit_words.specs.Place.{IsAbove, is_above}
use Rattle.edit_words.specs.Rows.{is_at, is_elsewhere_of, written, written_of}
use Rattle.edit_words.specs.WellFormed.{IsNoRoot}
use Rattle.edit_words.proofs.AboveLemmas.{above_decides}
use Rattle.edit_words.proofs.SameLemmas.{same_path, same_itself}
use Rattle.plan_moves.specs.Waiting.{is_above_source, is_free, is_in_place, is_unkept}
use Rattle.commit_plan.specs.declared.changes.Stand.{Stand}
use Rattle.commit_plan.specs.declared.changes.Stand.TheVariants.{Left, Waits}
use Rattle.commit_plan.specs.declared.changes.Change.{Change}
use Rattle.commit_plan.specs.Stands.{IsSpelledAt, change, is_ready_at, is_ready_in, is_source_now, keeps_now, waits_at_source, waits_of}
use Rattle.commit_plan.specs.Boards.{AreRooted, Blocks, HasKeepers, IsAtSource, IsBlocker, IsKeeperBelow, IsUnblocked, NoKeeperBelow, NoneAtSource, keeps_above}
use Rattle.commit_plan.proofs.PathOrder.{above_in_dir}
use Rattle.commit_plan.proofs.ReadyLemmas.{any_keeper, any_source, spelled_to}

module _ {X : Type 0} (f : X → Bool) where
  any_at : (xs : List X) (k : ℕ) (x : X) → slice_get xs k ≡ Some x → f x ≡ true → list_any f xs ≡ true
  any_at [] k x e h = cc
  any_at (y ∷ xs) zero x e h = ap (λ (b : Bool). b || list_any f xs) (ap f (same_Some y x e) ∙ h)
  any_at (y ∷ xs) (suc k) x e h = rw (any_at xs k x e h) (or_true (f y))
    where
      or_true : (b : Bool) → (b || true) ≡ true
      or_true true = refl
      or_true false = refl

  none_any : (xs : List X) → ((k : ℕ) (x : X) → slice_get xs k ≡ Some x → f x ≡ false) → list_any f xs ≡ false
  none_any [] h = refl
  none_any (y ∷ xs) h = ap (λ (b : Bool). b || list_any f xs) (h zero y refl) ∙ none_any xs (λ k x. h (suc k) x)

  where_any : (xs : List X) → list_any f xs ≡ false → (k : ℕ) (x : X) → slice_get xs k ≡ Some x → f x ≡ false
  where_any xs none k x e = elim (cases_Bool (f x)) [
    | inl h ↦ let both : true ≡ false = sym (any_at xs k x e h) ∙ none in absurd cc
    | inr h ↦ h
  ]

-- ---- what blocks, and what is ready

and_false : (b : Bool) → (b && false) ≡ false
and_false true = refl
and_false false = refl

pub blocks : (b : Change) (r : Row) (away : Bool) (at to : Names) → IsSpelledAt r (Waits away at to) → (is_source_now to b ≡ true) ⊎ ((away ≡ false) × (keeps_now at b ≡ true)) → Blocks b (change r (Waits away at to))
blocks b r away at to sp (inl source) = λ cs j k eb ec.
    let to_is : to ≡ written r = spelled_to r away at to sp in
    let taken : is_free (waits_of cs) to ≡ false = ap not (sym (any_source to cs) ∙ any_at (is_source_now to) cs j b eb source) in
    let not_free : is_free (waits_of cs) (written r) ≡ false = subst (λ (p : Names). is_free (waits_of cs) p ≡ false) to_is taken in
    ap (is_ready_in (waits_of cs)) ec ∙ ap (λ (x : Bool). x && (away || is_unkept (waits_of cs) r.source)) not_free
blocks b r true at to sp (inr keeper) = λ cs j k eb ec. let no : true ≡ false = keeper.0 in absurd cc
blocks b r false at to sp (inr keeper) = λ cs j k eb ec.
    let kept : is_unkept (waits_of cs) (Some at) ≡ false = ap not (sym (any_keeper at cs) ∙ any_at (keeps_now at) cs j b eb keeper.1) in
    let not_unkept : is_unkept (waits_of cs) r.source ≡ false = ap (is_unkept (waits_of cs)) sp.1 ∙ kept in
    ap (is_ready_in (waits_of cs)) ec ∙ ap (λ (x : Bool). is_free (waits_of cs) (written r) && (false || x)) not_unkept ∙ and_false (is_free (waits_of cs) (written r))

pub unblocked : (cs : List Change) (k : ℕ) (r : Row) (away : Bool) (at to : Names) → IsSpelledAt r (Waits away at to) → slice_get cs k ≡ Some (change r (Waits away at to)) → IsUnblocked cs away at to → is_ready_at cs k ≡ true
unblocked cs k r away at to sp ec none =
    let to_is : to ≡ written r = spelled_to r away at to sp in
    let free_to : is_free (waits_of cs) to ≡ true = ap not (sym (any_source to cs) ∙ none.0) in
    let free : is_free (waits_of cs) (written r) ≡ true = subst (λ (p : Names). is_free (waits_of cs) p ≡ true) to_is free_to in
    ap (is_ready_in (waits_of cs)) ec ∙ ap (λ (x : Bool). x && (away || is_unkept (waits_of cs) r.source)) free ∙ rest away sp none.1
  where
    rest : (away : Bool) → IsSpelledAt r (Waits away at to) → (away ≡ false → list_any (keeps_now at) cs ≡ false) → (away || is_unkept (waits_of cs) r.source) ≡ true
    rest true sp h = refl
    rest false sp h = ap (is_unkept (waits_of cs)) sp.1 ∙ ap not (sym (any_keeper at cs) ∙ h refl)

-- ---- one change

pub is_source_there : (c : Change) (p : Names) → waits_at_source c.stand ≡ true → c.row.source ≡ Some p → is_source_now p c ≡ true
is_source_there c p = go c.stand
  where
    go : (s : Stand) → waits_at_source s ≡ true → c.row.source ≡ Some p → is_source_now p (change c.row s) ≡ true
    go Left w e = cc
    go (Waits true at to) w e = cc
    go (Waits false at to) w e = ap (is_at p) e ∙ same_itself p

pub is_there : (c : Change) (p : Names) → is_source_now p c ≡ true → (waits_at_source c.stand ≡ true) × (c.row.source ≡ Some p)
is_there c p = go c.stand
  where
    at : (o : Option Names) → is_at p o ≡ true → o ≡ Some p
    at None h = cc
    at (Some q) h = ap (λ (x : Names). Some x) (sym (same_path p q h))

    go : (s : Stand) → is_source_now p (change c.row s) ≡ true → (waits_at_source s ≡ true) × (c.row.source ≡ Some p)
    go Left h = cc
    go (Waits true at0 to) h = cc
    go (Waits false at0 to) h = (refl, at c.row.source h)

same_dir : (source to : Option Names) (q : Names) → source ≡ Some q → (is_some source && not (is_elsewhere_of source to)) ≡ true → parent q ≡ parent (written_of source to)
same_dir None to q e h = cc
same_dir (Some s) None q e h = ap parent (sym (same_Some s q e))
same_dir (Some s) (Some w) q e h = ap parent (sym (same_Some s q e)) ∙ same_path (parent s) (parent w) (not_not _ h)
  where
    not_not : (b : Bool) → not (not b) ≡ true → b ≡ true
    not_not true e = refl
    not_not false e = cc

written_rooted : (source to : Option Names) (q : Names) → source ≡ Some q → source ≢ Some [] → to ≢ Some [] → written_of source to ≢ []
written_rooted None to q e a b root = cc
written_rooted (Some s) None q e a b root = a (ap (λ (x : Names). Some x) root)
written_rooted (Some s) (Some w) q e a b root = b (ap (λ (x : Names). Some x) root)

source_rooted : (r : Row) (q : Names) → IsNoRoot r → r.source ≡ Some q → q ≢ []
source_rooted r q n e root = n.0 (e ∙ ap (λ (x : Names). Some x) root)

-- a keeper keeps what is above its source,
pub keeps_below : (c : Change) (s q : Names) → keeps_above c.row c.stand ≡ true → c.row.source ≡ Some q → IsNoRoot c.row → IsAbove s q → keeps_now s c ≡ true
keeps_below c s q = go c.stand
  where
    r : Row
    r = c.row

    go : (t : Stand) → keeps_above c.row t ≡ true → c.row.source ≡ Some q → IsNoRoot c.row → IsAbove s q → keeps_now s (change c.row t) ≡ true
    go Left k e n a = cc
    go (Waits false at to) k e n a =
        let above : is_above_source s c.row.source ≡ true = ap (is_above_source s) e ∙ (above_decides s q).1 a in
        ap (λ (x : Bool). (true && x) || (false && is_in_place c.row && is_above s (written c.row))) above
    go (Waits true at to) k e n a =
        let dir : parent q ≡ parent (written c.row) = same_dir c.row.source c.row.to q e k in
        let above : IsAbove s (written c.row) = above_in_dir (written c.row) q s (written_rooted c.row.source c.row.to q e n.0 n.1) (sym dir) a in
        ap (λ (x : Bool). x && is_above s (written c.row)) k ∙ (above_decides s (written c.row)).1 above

-- and nothing else does.
pub keeps_from : (c : Change) (s : Names) → keeps_now s c ≡ true → IsNoRoot c.row → (q : Names) × (keeps_above c.row c.stand ≡ true) × (c.row.source ≡ Some q) × IsAbove s q
keeps_from c s = go c.stand
  where
    by_source : (o : Option Names) → c.row.source ≡ o → ((true && is_above_source s o) || (false && is_in_place c.row && is_above s (written c.row))) ≡ true → (q : Names) × (c.row.source ≡ Some q) × IsAbove s q
    by_source None e h = cc
    by_source (Some q) e h = (q, e, (above_decides s q).0 (or_false (is_above s q) h))
      where
        or_false : (b : Bool) → (b || false) ≡ true → b ≡ true
        or_false true h = refl
        or_false false h = cc

    both : (a b : Bool) → (a && b) ≡ true → (a ≡ true) × (b ≡ true)
    both true true h = (refl, refl)
    both true false h = cc
    both false b h = cc

    in_place : (o : Option Names) → c.row.source ≡ o → is_in_place c.row ≡ true → (q : Names) × (c.row.source ≡ Some q)
    in_place None e h = let no : false ≡ true = sym (ap (λ (x : Option Names). is_some x && not (is_elsewhere_of x c.row.to)) e) ∙ h in cc
    in_place (Some q) e h = (q, e)

    go : (t : Stand) → keeps_now s (change c.row t) ≡ true → IsNoRoot c.row → (q : Names) × (keeps_above c.row t ≡ true) × (c.row.source ≡ Some q) × IsAbove s q
    go Left h n = cc
    go (Waits false at to) h n = let m = by_source c.row.source refl h in (m.0, refl, m.1, m.2)
    go (Waits true at to) h n =
        let p = both (is_in_place c.row) (is_above s (written c.row)) h in
        let m = in_place c.row.source refl p.0 in
        let dir : parent m.0 ≡ parent (written c.row) = same_dir c.row.source c.row.to m.0 m.1 p.0 in
        (m.0, p.0, m.1, above_in_dir m.0 (written c.row) s (source_rooted c.row m.0 n m.1) dir ((above_decides s (written c.row)).0 p.1))

-- ---- who blocks

pub source_blocks : (cs : List Change) (j : ℕ) (away : Bool) (at to : Names) → IsAtSource cs j to → IsBlocker cs j away at to
source_blocks cs j away at to m = (m.0, m.1, inl (is_source_there m.0 to m.2 m.3))

pub keeper_blocks : (cs : List Change) (m : BTreeMap Names ℕ) (j : ℕ) (at to : Names) → AreRooted cs → HasKeepers cs m → IsKeeperBelow m at j → IsBlocker cs j false at to
keeper_blocks cs m j at to rooted has below =
    let k = (has below.0 j).0 below.1 in
    (k.0, k.1, inr (refl, keeps_below k.0 at below.0 k.2 k.3 (rooted j k.0 k.1) below.2))

pub no_source : (cs : List Change) (to : Names) → NoneAtSource cs to → list_any (is_source_now to) cs ≡ false
no_source cs to none = none_any (is_source_now to) cs (λ k c e. elim (cases_Bool (is_source_now to c)) [
  | inl h ↦ let m = is_there c to h in absurd (none k (c, e, m.0, m.1))
  | inr h ↦ h
])

pub no_keeper : (cs : List Change) (m : BTreeMap Names ℕ) (at : Names) → AreRooted cs → HasKeepers cs m → NoKeeperBelow m at → list_any (keeps_now at) cs ≡ false
no_keeper cs m at rooted has none = none_any (keeps_now at) cs (λ k c e. elim (cases_Bool (keeps_now at c)) [
  | inl h ↦
      let f = keeps_from c at h (rooted k c e) in
      let is : get path_cmp m f.0 ≡ Some k = (has f.0 k).1 (c, e, f.1, f.2) in
      let no : None ≡ Some k = sym (none f.0 f.3) ∙ is in absurd cc
  | inr h ↦ h
])
