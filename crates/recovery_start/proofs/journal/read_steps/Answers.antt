use Rattle.std.proofs.Common.{inr}
use Rattle.commit_states.specs.Interrupted.{max_journal_bytes}
use Rattle.recovery_start.proofs.EndLemmas.{refused_at}
use Rattle.recovery_start.proofs.journal.read_steps.Goals as goal

pub returns-in-Err-BadJournal-clause-read : goal.returns-in-Err-BadJournal-clause-read
unfolding max_journal_bytes
returns-in-Err-BadJournal-clause-read g c tells =
    let read = c.in-Ok.ensures.read tells in
    let within = c.in-Ok.ensures.within in
    let slice = c.as_slice.ensures in
    let refused = refused_at c.as_slice.result.now c.in-Err-BadJournal.field-0 c.in-Err-BadJournal.offset c.in-Err-BadJournal.field-0-is c.in-Err-BadJournal.ensures.refused in
    (c.as_slice.result.now, rw slice read, inr (rw slice within, refused.0, refused.1))
