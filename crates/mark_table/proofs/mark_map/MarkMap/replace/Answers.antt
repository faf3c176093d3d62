use Rattle.std.proofs.Common.{rules, ap, ◌∙◌, ℕ, ◌==◌, cond}
use Rattle.std.proofs.lemmas.Map.Made.{map_same_pairs}
use Rattle.mark_table.specs.PathMarks.{replaced}
use Rattle.mark_table.proofs.MarkLemmas.{replaced-seen, lawful-replaced}
use Rattle.mark_table.proofs.mark_map.MarkMap.replace.Goals as goal

pub invariant_of-self : goal.invariant_of-self
invariant_of-self c =
    let kept = map_same_pairs _ (λ (v : ℕ). cond (v == c.args.old) c.args.new v) _ (λ k v b w f' t. search rules) _ _ c.retain.ensures.filtered in
    rw kept (lawful-replaced _ _ _ c.requires c.self.invariant)

pub returns : goal.returns
returns c =
    let kept = map_same_pairs _ (λ (v : ℕ). cond (v == c.args.old) c.args.new v) _ (λ k v b w f' t. search rules) _ _ c.retain.ensures.filtered in
    replaced-seen c.self.inside.marks c.retain.new.self c.args.old c.args.new kept ∙ ap (replaced c.args.old c.args.new) c.self.view_is
