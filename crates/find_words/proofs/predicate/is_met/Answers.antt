use Rattle.std.proofs.Common.{rules}
use Rattle.find_words.proofs.RunLemmas.{value-run}
use Rattle.find_words.proofs.predicate.is_met.Goals as goal

pub loop-operation-init : goal.loop-operation-init
loop-operation-init c =
    let value = value-run c.args.now c.args.name.now c.args.meta.now c.args.predicate.now in
    search (rules, value)
