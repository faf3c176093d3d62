-- A journal can spell what a plan puts aside, the directories that it makes, and the modes that it changes.
use Rattle.std.proofs.Common.{◌≡◌, ◌≢◌, ◌⊎◌, inl, inr, ℕ, ◌+◌, ◌≤◌, ◌^◌, not, Bool, true, false, cond, List, [], ◌∷◌, map, length, sym, ◌∙◌, ap, subst, arith, Option, Some, None, is_some}
use Rattle.std.specs.Prelude.{Contains}
use Rattle.std.specs.List.{AllByRecursion}
use Rattle.std.proofs.lemmas.Bool.{cond-true, cond-false, cases_Bool}
use Rattle.std.proofs.lemmas.Option.{cond_some}
use Rattle.std.proofs.lemmas.List.Elements.{Contains-append_cases}
use Rattle.dired_text.specs.Paths.{Names}
use Rattle.commit_steps.specs.declared.step.Step.TheVariants.{MakeDir}
use Rattle.commit_steps.specs.Steps.{IsOutside, IsLawfulStep}
use Rattle.edit_words.specs.declared.row.Row.{Row}
use Rattle.edit_words.specs.Place.{IsAbove, ancestors}
use Rattle.edit_words.specs.Refusals.{missing_above, victim_at, victim_of}
use Rattle.edit_words.specs.Rows.{is_elsewhere, written}
use Rattle.edit_words.specs.Sight.{Sight}
use Rattle.edit_words.proofs.AboveLemmas.{ancestors_above}
use Rattle.edit_laws.proofs.ListLemmas.{contains_head, contains_none, contains_cases, contains_tail, filter_parts, flat_parts, map_parts}
use Rattle.edit_laws.proofs.RowLemmas.{far_to, written-to}
use Rattle.edit_rules.specs.Plans.{AreMissing, AreModes, ModeChange, mode_change_of, mode_changes}
use Rattle.plan_moves.specs.Plan.{held_by, held_paths, holds, is_given_up, listed, mode_step}
use Rattle.plan_ends.proofs.ModeCounts.{map_parts_some, listed_too, as_long, comes_from}
use Rattle.plan_journals.proofs.Told.{IsTold}
use Rattle.plan_journals.proofs.PlanCosts.{missing_within}
use Rattle.plan_journals.proofs.Taken.{AreTaken}
use Rattle.plan_journals.proofs.StepPaths.{held_entry, put_in, outside_above, all_listed, place_outside}

listed_is : (o : Option Names) (p : Names) → Contains (listed o) p → o ≡ Some p
listed_is None p c = absurd (contains_none p c)
listed_is (Some q) p c = elim (contains_cases q p [] c) [
  | inl same ↦ ap (λ (l : Names). Some l) same
  | inr none ↦ absurd (contains_none p none)
]

module _ (sight : Sight) (rs : List Row) (set : AreTaken sight rs) where
  -- ---- what is put aside

  victim_to : (o : Option Names) (p : Names) → victim_at sight rs o ≡ Some p → o ≡ Some p
  victim_to None p e = e
  victim_to (Some q) p e = ap (λ (l : Names). Some l) (cond_some _ q p e).1

  given_from : (b : Bool) (o : Option Names) (p : Names) → Contains (cond b (listed o) []) p → o ≡ Some p
  given_from true o p c = listed_is o p c
  given_from false o p c = absurd (contains_none p c)

  held_outside : (p : Names) → Contains (held_paths sight rs) p → IsOutside p
  held_outside p c =
      let r = flat_parts (held_by sight rs) rs p c in
      elim (Contains-append_cases (listed (victim_of sight rs r.0)) (cond (is_given_up r.0) (listed r.0.source) []) p r.2) [
        | inl victim ↦ set.outside r.0 p r.1 (inr (victim_to r.0.to p (listed_is (victim_of sight rs r.0) p victim)))
        | inr given ↦ set.outside r.0 p r.1 (inl (given_from (is_given_up r.0) r.0.source p given))
      ]

  pub holds_spelled : (n : ℕ) (ps : List Names) → n + length ps ≤ 2 ^ 32 → ((p : Names) → Contains ps p → Contains (held_paths sight rs) p) → AllByRecursion IsLawfulStep (holds n ps)
  holds_spelled n [] few within = tt
  holds_spelled n (p ∷ ps) few within = (
    put_in p _ (held_outside p (within p (contains_head p ps))) (held_entry n (omega arith)),
    holds_spelled (n + 1) ps (omega arith) (λ q c. within q (contains_tail p q ps c)),
  )

  -- ---- the directories

  module _ (told : IsTold sight rs) where
    missing_outside : (r : Row) (p : Names) → Contains rs r → Contains (missing_above sight r) p → IsOutside p
    missing_outside r p c within = by_far (cases_Bool (is_elsewhere r))
      where
        absent : not (is_some (sight.at p)) ≡ true → p ≢ []
        absent none root =
            let there : is_some (sight.at p) ≡ true = ap (λ (l : Names). is_some (sight.at l)) root ∙ told.root r c in
            let both : false ≡ true = sym (ap not there) ∙ none in
            absurd cc

        by_far : (is_elsewhere r ≡ true) ⊎ (is_elsewhere r ≡ false) → IsOutside p
        by_far (inr near) = absurd (contains_none p (subst (λ (l : List Names). Contains l p) (cond-false (is_elsewhere r) _ [] near) within))
        by_far (inl far) =
            let parts = filter_parts (λ (q : Names). not (is_some (sight.at q))) (ancestors (written r)) p (subst (λ (l : List Names). Contains l p) (cond-true (is_elsewhere r) _ [] far) within) in
            let up : IsAbove p (written r) = (ancestors_above (written r) p).0 parts.0 in
            let to = far_to r far in
            outside_above p (up.0 ∷ up.1) (absent parts.1) (subst IsOutside (sym (written-to r to.0 to.1) ∙ up.2) (set.outside r to.0 c (inr to.1)))

    pub dirs_spelled : (dirs : List Names) → AreMissing sight rs dirs → AllByRecursion IsLawfulStep (map MakeDir dirs)
    dirs_spelled dirs are = all_listed IsLawfulStep (map MakeDir dirs) (λ step c.
        let m = map_parts MakeDir dirs step c in
        let r = flat_parts (missing_above sight) rs m.0 (missing_within sight rs dirs are m.0 m.1) in
        subst IsLawfulStep m.2 (missing_outside r.0 m.0 r.1 r.2))

    -- ---- the modes

    mode_spelled : (m : ModeChange) (r : Row) → Contains rs r → mode_change_of sight rs r ≡ Some m → IsLawfulStep (mode_step m)
    mode_spelled m r c is =
        let from = comes_from sight rs r m is in
        let new = set.modes r from.source from.was m.2 c from.at from.shown from.mode in
        let old : m.1 ≡ from.was.mode = from.old_is in (
          subst IsOutside (sym from.place_is) (place_outside sight rs set from.source (set.outside r from.source c (inl from.at))),
          told.modes from.source m.1 (new.seen_as ∙ ap (λ (k : ℕ). Some k) (sym old)),
          new.bits,
          λ same. new.differ (sym old ∙ same),
        )

    pub modes_spelled : (ms : List ModeChange) → AreModes sight rs ms → AllByRecursion IsLawfulStep (map mode_step ms)
    modes_spelled ms are = all_listed IsLawfulStep (map mode_step ms) (λ step c.
        let m = map_parts mode_step ms step c in
        let r = map_parts_some (mode_change_of sight rs) rs m.0 (listed_too ms (mode_changes sight rs) (as_long ms (mode_changes sight rs) are.same) m.0 m.1) in
        subst IsLawfulStep m.2 (mode_spelled m.0 r.0 r.1 r.2))
