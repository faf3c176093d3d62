use Rattle.std.proofs.Common.{◌∙◌, ap, map}
use Rattle.std.proofs.lemmas.List.{take_all}
use Rattle.dired_text.specs.Paths.{Names}
use Rattle.mem_tree.specs.Moves.{pairs_of, without_each}
use Rattle.mem_tree.proofs.MoveLoops.{removed_more}
use Rattle.mem_tree.proofs.renaming.remove_olds.Goals as goal

pub loop-one-preserved : goal.loop-one-preserved
loop-one-preserved c =
    removed_more c.args.moves.now c.loop-one.one-index c.one-item.result c.loop-one-test.true c.one-item.is c.loop-one.slots c.remove.new.self c.args.slots.now (λ (p : Names × Names). p.0) c.deref.result.now
    c.loop-one.invariant c.remove.ensures.after c.deref.ensures.value

pub returns : goal.returns
returns c = c.loop-one.invariant ∙ ap (λ l. without_each (map (λ p. p.0) (pairs_of l)) c.args.slots.now) (take_all c.loop-one.one-index c.args.moves.now c.loop-one-test.false)
