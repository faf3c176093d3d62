-- What holds of the changes at first.
use Rattle.std.proofs.Common.{◌≡◌, inl, inr, ℕ, ◌<◌, List, [], length, get_or, nat_lt, refl, sym, ◌∙◌, ap, subst, arith, Contains, All, Some, Vec, Global}
use Rattle.std.specs.List.{slice_get}
use Rattle.std.proofs.lemmas.Bool.{cases_Bool, ltb-true, ltb-false}
use Rattle.std.proofs.lemmas.Option.{get_or_from_slice_get, slice_get_within}
use Rattle.edit_words.specs.declared.row.Row.{Row}
use Rattle.edit_words.specs.WellFormed.{IsNoRoot, LinesRise, SourcesDiffer}
use Rattle.commit_plan.specs.declared.board.Board.{Board}
use Rattle.commit_plan.specs.declared.changes.Change.{Change}
use Rattle.commit_plan.specs.Stands.{AreSpelled, LinesApart, first_changes}
use Rattle.commit_plan.specs.Boards.{AreRooted, HasKeepers, HasOwnSources, IsSound}
use Rattle.commit_plan.proofs.FirstLemmas.{all_spelled, lines_apart, row_at}
use Rattle.commit_plan.proofs.KeeperLemmas.{here_or_apart}
use Rattle.commit_plan.proofs.ListLemmas.{no_waiter}

pub own_sources : (rs : List Row) → SourcesDiffer rs → HasOwnSources (first_changes 0 rs)
own_sources rs differ j k b c p at_j at_k source_b source_c = elim (here_or_apart j k) [
  | inl same ↦ same
  | inr apart ↦ elim (cases_Bool (nat_lt j k)) [
    | inl less ↦ absurd (no_two j k b c at_j at_k source_b source_c (ltb-true j k less))
    | inr not_less ↦ let most = ltb-false j k not_less in absurd (no_two k j c b at_k at_j source_c source_b (omega (arith, most, apart)))
  ]
]
  where
    no_two : (j k : ℕ) (b c : Change) → slice_get (first_changes 0 rs) j ≡ Some b → slice_get (first_changes 0 rs) k ≡ Some c → b.row.source ≡ Some p → c.row.source ≡ Some p → j < k → ⊥
    no_two j k b c at_j at_k source_b source_c less =
        let row_j = row_at 0 rs j b at_j in
        let row_k = row_at 0 rs k c at_k in
        let is_j : get_or rs j b.row ≡ b.row = get_or_from_slice_get rs j b.row b.row row_j in
        let is_k : get_or rs k b.row ≡ c.row = get_or_from_slice_get rs k c.row b.row row_k in
        differ j k b.row less (slice_get_within rs k c.row row_k) p p (ap (λ (r : Row). r.source) is_j ∙ source_b) (ap (λ (r : Row). r.source) is_k ∙ source_c) refl

first_rooted : (rs : List Row) → All IsNoRoot rs → AreRooted (first_changes 0 rs)
first_rooted rs rooted k c e =
    let row = row_at 0 rs k c e in
    subst (λ (r : Row). IsNoRoot r) (get_or_from_slice_get rs k c.row c.row row) (rooted k c.row (slice_get_within rs k c.row row))

pub sound_first : (b : Board) (rs : List Row) → b.changes.items ≡ first_changes 0 rs → LinesRise rs → All IsNoRoot rs → HasKeepers b.changes.items b.keepers → length b.awaiting.items ≡ length b.changes.items
    → All (λ (v : Vec ℕ Global). v.items ≡ []) b.awaiting.items → ((k : ℕ) → Contains b.queue.items k → k < length b.changes.items) → IsSound b
sound_first b rs are lines rooted keepers sized empty within = record {
  spelled = subst (λ (l : List Change). AreSpelled l) (sym are) (all_spelled 0 rs);
  apart = subst (λ (l : List Change). LinesApart l) (sym are) (lines_apart 0 rs lines);
  rooted = subst (λ (l : List Change). AreRooted l) (sym are) (first_rooted rs rooted);
  keepers = keepers;
  sized = sized;
  waiters = λ j k w. absurd (no_waiter b.awaiting.items empty j k w);
  queued = within;
}
