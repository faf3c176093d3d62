use Rattle.std.proofs.Common.{arith}
use Rattle.commit_journal.proofs.SharingLemmas.{shared-end}
use Rattle.commit_journal.proofs.sharing.shared_bytes.Goals as goal

pub returns-clause-shared : goal.returns-clause-shared
returns-clause-shared c =
    let ended = shared-end c.args.base.now c.args.text.now c.loop-i.i (omega arith) in
    omega (arith, c.loop-i.invariant)
