use Rattle.std.proofs.Common.{rules, ap, ◌∙◌, ℕ, ◌==◌, not}
use Rattle.dired_text.specs.Paths.{Names}
use Rattle.std.proofs.lemmas.Map.Made.{filter_same_pairs}
use Rattle.mark_table.specs.PathMarks.{cleared}
use Rattle.mark_table.proofs.MarkLemmas.{cleared-seen, lawful-filter}
use Rattle.mark_table.proofs.mark_map.MarkMap.clear_mark.Goals as goal

pub invariant_of-self : goal.invariant_of-self
invariant_of-self c =
    let kept = filter_same_pairs _ (λ (e : Names × ℕ). not (e.1 == c.args.mark)) _ (λ k v b w f' t. search rules) _ _ c.retain.ensures.filtered in
    rw kept (lawful-filter _ _ c.self.invariant)

pub returns : goal.returns
returns c =
    let kept = filter_same_pairs _ (λ (e : Names × ℕ). not (e.1 == c.args.mark)) _ (λ k v b w f' t. search rules) _ _ c.retain.ensures.filtered in
    cleared-seen c.self.inside.marks c.retain.new.self c.args.mark c.retain.ensures.was_ordered kept ∙ ap (cleared c.args.mark) c.self.view_is
