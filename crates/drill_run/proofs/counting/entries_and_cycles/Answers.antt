use Rattle.std.proofs.Common.{arith}
use Rattle.drill_run.proofs.EntryLemmas.{cycles_more, entries_more}
use Rattle.drill_run.proofs.counting.entries_and_cycles.Goals as goal

pub loop-number-preserved : goal.loop-number-preserved
loop-number-preserved c =
    let before = c.loop-number.invariant in
    let held = c.entries_in-entries.ensures.held in
    let most = c.entries_in-entries.ensures.few in
    let one = c.cycles_in-cycles.ensures.few in
    let few = before.few in
    let fewer = before.fewer in
    record {
      made = λ numbers. let so_far = before.made numbers in let more = entries_more numbers c.loop-number.number in omega (arith, so_far, held, more);
      turned = let turn = c.cycles_in-cycles.ensures.cycles in let more = cycles_more c.loop-number.number in let so_far = before.turned in omega (arith, so_far, turn, more);
      few = omega (arith, few, most);
      fewer = omega (arith, fewer, one);
    }
