use Rattle.std.proofs.Common.{◌≡◌, ◌+◌, drop}
use Rattle.commit_journal.specs.Sharing.{shared_bytes as shared_bytes_of}
use Rattle.commit_journal.proofs.sharing.shared_bytes.Given as goal

abbrev pub invariant-loop-i : goal.invariant-loop-i
invariant-loop-i l = shared_bytes_of l.base l.text ≡ l.i + shared_bytes_of (drop l.i l.base) (drop l.i l.text)
