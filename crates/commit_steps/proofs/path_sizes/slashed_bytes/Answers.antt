use Rattle.std.proofs.Common.{ap, arith, length}
use Rattle.commit_steps.proofs.StepLemmas.{slashed-at, slashed-all}
use Rattle.commit_steps.proofs.path_sizes.slashed_bytes.Goals as goal

pub overflow_add-bytes-in-loop-name : goal.overflow_add-bytes-in-loop-name
overflow_add-bytes-in-loop-name c =
    let more = slashed-at c.args.names.now c.loop-name.name-index c.name-item.result c.loop-name-test.true c.name-item.is in
    let len = ap length c.as_str.ensures.value in
    omega (arith, c.loop-name.invariant)

pub loop-name-preserved : goal.loop-name-preserved
loop-name-preserved c =
    let more = slashed-at c.args.names.now c.loop-name.name-index c.name-item.result c.loop-name-test.true c.name-item.is in
    let len = ap length c.as_str.ensures.value in
    omega (arith, c.loop-name.invariant)

pub returns : goal.returns
returns c =
    let none = slashed-all c.args.names.now c.loop-name.name-index c.loop-name-test.false in
    omega (arith, c.loop-name.invariant)
