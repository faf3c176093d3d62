use Rattle.std.proofs.Common.{arith}
use Rattle.commit_journal.proofs.LoopLemmas.{found, only, refused}
use Rattle.commit_journal.proofs.decoding.decode.Goals as goal

pub returns-clause-found : goal.returns-clause-found
returns-clause-found c = found c.args.bytes.now c.read_journal.result (λ i. omega (arith, c.type_inv.bytes i)) c.read_journal.ensures

pub returns-clause-only : goal.returns-clause-only
returns-clause-only c = only c.args.bytes.now c.read_journal.result c.read_journal.ensures

pub returns-clause-refused : goal.returns-clause-refused
returns-clause-refused c = refused c.args.bytes.now c.read_journal.result (λ i. omega (arith, c.type_inv.bytes i)) c.read_journal.ensures
