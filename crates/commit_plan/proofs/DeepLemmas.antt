-- The deepest of those that wait at their sources.
use Rattle.std.proofs.Common.{◌≡◌, ◌⊎◌, inl, inr, ℕ, ◌==◌, Bool, true, false, cond, if◌then◌else◌, ◌&&◌, ◌||◌, List, [], ◌∷◌, length, refl, sym, ◌∙◌, ap, subst, Contains, Option, Some, None, nat_lt}
use Rattle.std.specs.List.{slice_get}
use Rattle.std.specs.Cmp.{IsStrictWeakOrder, IsTotalOrder, back_total, then_total, on_total, nat_cmp_total}
use Rattle.std.specs.Ordering.{is_lt, ordering_then, ordering_reverse}
use Rattle.std.specs.declared.cmp.Ordering.{Ordering}
use Rattle.std.specs.declared.cmp.Ordering.TheVariants.{Less, Equal, Greater}
use Rattle.std.proofs.lemmas.List.MinMax.{ranks_by}
use Rattle.std.proofs.lemmas.Option.{same_Some}
use Rattle.std.proofs.lemmas.Bool.{cases_Bool}
use Rattle.std.proofs.lemmas.Bool.Decides.{eqb_tells}
use Rattle.dired_text.specs.Paths.{Names, path_cmp}
use Rattle.dired_text.proofs.PathLemmas.{path_cmp-exact, path_cmp-total}
use Rattle.edit_words.specs.declared.row.Row.{Row}
use Rattle.plan_moves.specs.Waiting.{Waiting, deeper, deepest, is_before}
use Rattle.commit_plan.specs.declared.changes.Stand.{Stand}
use Rattle.commit_plan.specs.declared.changes.Stand.TheVariants.{Left, Waits}
use Rattle.commit_plan.specs.declared.changes.Change.{Change}
use Rattle.commit_plan.specs.Stands.{AreSpelled, IsBest, change, waits_at_source, waits_of}
use Rattle.commit_plan.specs.Boards.{IsAtSource, deeper_cmp}
use Rattle.commit_plan.proofs.ChangeLemmas.{contains_cases, contains_head, contains_none, contains_tail, waits, who_waits}
use Rattle.commit_plan.proofs.ReadyLemmas.{spelled_at}

-- ---- the order

pub deeper_total : IsTotalOrder deeper_cmp
deeper_total = then_total (back_total (on_total (λ (p : Names). length p) nat_cmp_total)) path_cmp-total

pub deeper_ranks : IsStrictWeakOrder (λ (x y : Names). is_lt (deeper_cmp x y))
deeper_ranks = ranks_by deeper_total (λ (p : Names). p)

eq_swapped : (a b : ℕ) → (a == b) ≡ (b == a)
eq_swapped a b = go (eqb_tells a b) (eqb_tells b a)
  where
    go : ((a == b) ≡ true) × (a ≡ b) ⊎ ((a == b) ≡ false) × (a ≡ b → ⊥) → ((b == a) ≡ true) × (b ≡ a) ⊎ ((b == a) ≡ false) × (b ≡ a → ⊥) → (a == b) ≡ (b == a)
    go (inl p) (inl q) = p.0 ∙ sym q.0
    go (inl p) (inr q) = absurd (q.1 (sym p.1))
    go (inr p) (inl q) = absurd (p.1 (sym q.1))
    go (inr p) (inr q) = p.0 ∙ sym q.0

before_by : (a b c : Bool) (o : Ordering) → b ≡ c → (a || (b && is_lt o)) ≡ is_lt (ordering_then (cond a Less (cond c Equal Greater)) o)
before_by true b c o e = refl
before_by false true true o e = refl
before_by false true false o e = cc
before_by false false true o e = cc
before_by false false false o e = refl

before_is : (p s : Names) → is_before (Some p) (Some s) ≡ is_lt (deeper_cmp p s)
before_is p s = before_by (nat_lt (length s) (length p)) (length p == length s) (length s == length p) (path_cmp p s) (eq_swapped (length p) (length s))

before_one_way : (a b : Option Names) → is_before a b ≡ true → is_before b a ≡ false
before_one_way None b e = cc
before_one_way (Some p) None e = refl
before_one_way (Some p) (Some s) e = before_is s p ∙ deeper_ranks.one_way p s (sym (before_is p s) ∙ e)

then_second : (a c : Ordering) → ordering_then a c ≡ Equal → c ≡ Equal
then_second Less c e = cc
then_second Equal c e = e
then_second Greater c e = cc

pub comes_before : (p s : Names) → (p ≡ s → ⊥) → is_lt (deeper_cmp s p) ≡ false → is_before (Some p) (Some s) ≡ true
comes_before p s apart e = before_is p s ∙ go (deeper_cmp p s) refl
  where
    go : (o : Ordering) → deeper_cmp p s ≡ o → is_lt o ≡ true
    go Less is = refl
    go Equal is = absurd (apart (path_cmp-exact p s (then_second _ (path_cmp p s) is)))
    go Greater is = let less : is_lt (deeper_cmp s p) ≡ true = ap is_lt (deeper_total.antisymm s p ∙ ap ordering_reverse is) in let both : true ≡ false = sym less ∙ e in absurd cc

-- ---- the deepest

deepest_in : (ws : List Waiting) (u : Waiting) → deepest ws ≡ Some u → Contains ws u × (u.is_away ≡ false)
deepest_in [] u e = cc
deepest_in (v ∷ ws) u e = go (deepest_in ws) (cases_Bool v.is_away) (deepest ws) refl
  where
    there : (x : Waiting) → x ≡ u → Contains (v ∷ ws) x × (x.is_away ≡ false) → Contains (v ∷ ws) u × (u.is_away ≡ false)
    there x same h = subst (λ (y : Waiting). Contains (v ∷ ws) y × (y.is_away ≡ false)) same h

    go : ((x : Waiting) → deepest ws ≡ Some x → Contains ws x × (x.is_away ≡ false)) → (v.is_away ≡ true) ⊎ (v.is_away ≡ false) → (o : Option Waiting) → deepest ws ≡ o → Contains (v ∷ ws) u × (u.is_away ≡ false)
    go more (inl away) o is =
        let e2 : deepest ws ≡ Some u = sym (ap (λ (b : Bool). cond b (deepest ws) (Some (deeper v (deepest ws)))) away) ∙ e in
        let m = more u e2 in (contains_tail v u ws m.0, m.1)
    go more (inr stays) None is =
        let e2 : Some v ≡ Some u = ap (λ (o : Option Waiting). Some (deeper v o)) (sym is) ∙ (sym (ap (λ (b : Bool). cond b (deepest ws) (Some (deeper v (deepest ws)))) stays) ∙ e) in
        there v (same_Some v u e2) (contains_head v ws, stays)
    go more (inr stays) (Some x) is =
        let e2 : Some (deeper v (Some x)) ≡ Some u = ap (λ (o : Option Waiting). Some (deeper v o)) (sym is) ∙ (sym (ap (λ (b : Bool). cond b (deepest ws) (Some (deeper v (deepest ws)))) stays) ∙ e) in
        let m = more x is in
        there (deeper v (Some x)) (same_Some _ u e2) (either (is_before v.row.source x.row.source) m)
      where
        either : (b : Bool) → Contains ws x × (x.is_away ≡ false) → Contains (v ∷ ws) (if b then v else x) × ((if b then v else x).is_away ≡ false)
        either true m = (contains_head v ws, stays)
        either false m = (contains_tail v x ws m.0, m.1)

pub deepest_is : (ws : List Waiting) (w : Waiting) → Contains ws w → w.is_away ≡ false
    → ((v : Waiting) → Contains ws v → v.is_away ≡ false → (v ≡ w) ⊎ (is_before w.row.source v.row.source ≡ true)) → deepest ws ≡ Some w
deepest_is [] w c here h = absurd (contains_none w c)
deepest_is (v ∷ ws) w c here h =
    go (λ in_rest. deepest_is ws w in_rest here (λ u cu. h u (contains_tail v u ws cu))) (cases_Bool v.is_away) (contains_cases v w ws c)
  where
    better : (x : Waiting) → (x ≡ w) ⊎ (is_before w.row.source x.row.source ≡ true) → deeper w (Some x) ≡ w
    better x (inl same) = by (is_before w.row.source x.row.source)
      where
        by : (b : Bool) → (if b then w else x) ≡ w
        by true = refl
        by false = same
    better x (inr before) = ap (λ (b : Bool). if b then w else x) before

    first : (o : Option Waiting) → deepest ws ≡ o → deeper w o ≡ w
    first None is = refl
    first (Some x) is = let m = deepest_in ws x is in better x (h x (contains_tail v x ws m.0) m.1)

    second : (v ≡ w) ⊎ (is_before w.row.source v.row.source ≡ true) → deeper v (Some w) ≡ w
    second (inl same) = by (is_before v.row.source w.row.source)
      where
        by : (b : Bool) → (if b then v else w) ≡ w
        by true = same
        by false = refl
    second (inr before) = ap (λ (b : Bool). if b then v else w) (before_one_way w.row.source v.row.source before)

    go : (Contains ws w → deepest ws ≡ Some w) → (v.is_away ≡ true) ⊎ (v.is_away ≡ false) → (v ≡ w) ⊎ Contains ws w → deepest (v ∷ ws) ≡ Some w
    go more (inl away) (inl same) = let no : true ≡ false = sym away ∙ ap (λ (x : Waiting). x.is_away) same ∙ here in absurd cc
    go more (inl away) (inr later) = ap (λ (b : Bool). cond b (deepest ws) (Some (deeper v (deepest ws)))) away ∙ more later
    go more (inr stays) (inl same) =
        ap (λ (b : Bool). cond b (deepest ws) (Some (deeper v (deepest ws)))) stays
        ∙ (ap (λ (x : Waiting). Some (deeper x (deepest ws))) same ∙ ap (λ (x : Waiting). Some x) (first (deepest ws) refl))
    go more (inr stays) (inr later) =
        ap (λ (b : Bool). cond b (deepest ws) (Some (deeper v (deepest ws)))) stays
        ∙ (ap (λ (o : Option Waiting). Some (deeper v o)) (more later) ∙ ap (λ (x : Waiting). Some x) (second (h v (contains_head v ws) stays)))

pub none_deepest : (ws : List Waiting) → ((v : Waiting) → Contains ws v → v.is_away ≡ false → ⊥) → deepest ws ≡ None
none_deepest ws h = go (deepest ws) refl
  where
    go : (o : Option Waiting) → deepest ws ≡ o → o ≡ None
    go None is = refl
    go (Some u) is = let m = deepest_in ws u is in absurd (h u m.0 m.1)

-- ---- among changes

at_source : (s : Stand) → waits_at_source s ≡ true → (at : Names) × (to : Names) × (s ≡ Waits false at to)
at_source Left e = cc
at_source (Waits true at to) e = cc
at_source (Waits false at to) e = (at, to, refl)

-- whoever waits at its source
pub waits_there : (cs : List Change) (v : Waiting) → AreSpelled cs → Contains (waits_of cs) v → v.is_away ≡ false → (k : ℕ) × (s : Names) × (to : Names) × IsAtSource cs k s × (slice_get cs k ≡ Some (change v.row (Waits false s to)))
waits_there cs v spelled c here =
    let m = who_waits cs v c in
    let e : slice_get cs m.0 ≡ Some (change v.row (Waits false m.1 m.2)) = m.3 ∙ ap (λ (b : Bool). Some (change v.row (Waits b m.1 m.2))) here in
    let sp = spelled_at cs m.0 (change v.row (Waits false m.1 m.2)) spelled e in
    (m.0, m.1, m.2, (change v.row (Waits false m.1 m.2), e, refl, sp.1), e)

pub is_best : (cs : List Change) (i : ℕ) (p : Names) → AreSpelled cs → IsAtSource cs i p → ((k : ℕ) (s : Names) → IsAtSource cs k s → (k ≡ i) ⊎ (is_before (Some p) (Some s) ≡ true)) → IsBest cs cs i
is_best cs i p spelled here h =
    let c = here.0 in
    let s = at_source c.stand here.2 in
    let e : slice_get cs i ≡ Some (change c.row (Waits false s.0 s.1)) = here.1 ∙ ap (λ (t : Stand). Some (change c.row t)) s.2 in
    record {
      row = c.row;
      at = s.0;
      to = s.1;
      is = e;
      best = deepest_is (waits_of cs) (record { row = c.row; is_away = false }) (waits cs i c.row false s.0 s.1 e) refl (λ v cv away.
          let m = waits_there cs v spelled cv away in
          elim (h m.0 m.1 m.3) [
            | inl same ↦
                let f : slice_get cs i ≡ Some (change v.row (Waits false m.1 m.2)) = ap (slice_get cs) (sym same) ∙ m.4 in
                let row : v.row ≡ c.row = ap (λ (x : Change). x.row) (same_Some _ _ (sym f ∙ e)) in
                inl (same_waiting v c.row row away)
            | inr before ↦
                let one : is_before (Some p) v.row.source ≡ true = ap (is_before (Some p)) (source_of m.0 v m.1 m.2 m.3 m.4) ∙ before in
                inr (ap (λ (o : Option Names). is_before o v.row.source) here.3 ∙ one)
          ]);
    }
  where
    same_waiting : (v : Waiting) (r : Row) → v.row ≡ r → v.is_away ≡ false → v ≡ record { row = r; is_away = false }
    same_waiting v r e f = ap (λ (b : Bool). record { row = v.row; is_away = b }) f ∙ ap (λ (x : Row). record { row = x; is_away = false }) e

    source_of : (k : ℕ) (v : Waiting) (s to : Names) → IsAtSource cs k s → slice_get cs k ≡ Some (change v.row (Waits false s to)) → v.row.source ≡ Some s
    source_of k v s to there e = ap (λ (x : Change). x.row.source) (same_Some _ _ (sym e ∙ there.1)) ∙ there.3

pub no_deepest : (cs : List Change) → AreSpelled cs → ((k : ℕ) (s : Names) → IsAtSource cs k s → ⊥) → deepest (waits_of cs) ≡ None
no_deepest cs spelled none = none_deepest (waits_of cs) (λ v c away. let m = waits_there cs v spelled c away in none m.0 m.1 m.3)
