use Rattle.std.proofs.Common.{arith}
use Rattle.commit_journal.proofs.LawLemmas.{one_place}
use Rattle.commit_journal.proofs.laws.a_fault_has_one_place.Goals as goal

pub returns : goal.returns
returns c = λ first second a b. one_place c.args.bytes.now first second (λ i. omega (arith, c.type_inv.bytes i)) a b
