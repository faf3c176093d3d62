use Rattle.std.proofs.Common.{refl, ◌∙◌, ap}
use Rattle.std.proofs.lemmas.List.{take_all}
use Rattle.mem_tree.specs.Moves.{pairs_of, with_copies}
use Rattle.mem_tree.proofs.MoveLoops.{copied_found, copied_none, others_stay}
use Rattle.mem_tree.proofs.renaming.copy_slots.Goals.{in-Some+in_ok-copy+in_ok-insert, in_default}
use Rattle.mem_tree.proofs.renaming.copy_slots.Goals as goal

pub loop-one-preserved : goal.loop-one-preserved
loop-one-preserved c = elim c.match-get.branch [
  | in-Some+in_ok-copy+in_ok-insert w ↦
      copied_found c.args.moves.now c.loop-one.one-index c.one-item.result c.loop-one-test.true c.one-item.is c.loop-one.slots c.match-get.slots c.args.slots.now _ _ _ _
      c.loop-one.invariant c.deref.ensures.value w.in-Some.ensures w.in_ok-copy.ensures (w.slots-is ∙ w.in_ok-insert.ensures.ok) w.deref-in-Some.ensures.value
  | in_default w ↦
      copied_none c.args.moves.now c.loop-one.one-index c.one-item.result c.loop-one-test.true c.one-item.is c.loop-one.slots c.match-get.slots c.args.slots.now _
      c.loop-one.invariant c.deref.ensures.value w.in_default.ensures w.slots-is
]

pub returns-in_err-copy-clause-others : goal.returns-in_err-copy-clause-others
returns-in_err-copy-clause-others c = others_stay c.args.moves.now c.loop-one.one-index c.loop-one.slots c.loop-one.slots c.args.slots.now c.loop-one.invariant refl

pub returns-in_err-insert-clause-others : goal.returns-in_err-insert-clause-others
returns-in_err-insert-clause-others c = others_stay c.args.moves.now c.loop-one.one-index c.loop-one.slots c.insert.new.self c.args.slots.now c.loop-one.invariant c.in_err-insert.ensures.err

pub returns-clause-ok : goal.returns-clause-ok
returns-clause-ok c = c.loop-one.invariant ∙ ap (λ l. with_copies (pairs_of l) c.args.slots.now) (take_all c.loop-one.one-index c.args.moves.now c.loop-one-test.false)

pub returns-clause-others : goal.returns-clause-others
returns-clause-others c = others_stay c.args.moves.now c.loop-one.one-index c.loop-one.slots c.loop-one.slots c.args.slots.now c.loop-one.invariant refl
