use Rattle.std.proofs.Common.{[], Err, append-nil, sym, subst, ◌∙◌}
use Rattle.run_status.specs.declared.status.Status.{Status}
use Rattle.dired_session.specs.Desks.{seen}
use Rattle.dired_session.specs.Ends.{IsWritten, StepsBy}
use Rattle.dired_session.proofs.StepLemmas.{command_step, empty_step, fault_step, fault_written, next_within}
use Rattle.dired_session.proofs.session.Session.step.Goals as goal

pub returns-then-is_empty-clause-fold : goal.returns-then-is_empty-clause-fold
returns-then-is_empty-clause-fold g c = (
  [],
  (
    λ tells. empty_step c.args.script.now c.args.at (seen (g.T.Tree.history c.args.tree.now) (g.T.Tree.fields c.args.tree.now)) c.args.self.now c.line.result.now c.line.ensures
        (sym c.is_empty.ensures ∙ c.if-is_empty.true),
    λ tells. sym (append-nil (g.W.Sink.taken c.args.sink.now)),
  ),
)

pub returns-in-Err-clause-fold : goal.returns-in-Err-clause-fold
returns-in-Err-clause-fold g c =
    let o = seen (g.T.Tree.history c.args.tree.now) (g.T.Tree.fields c.args.tree.now) in
    let taken = g.W.Sink.taken c.args.sink.now in (
      [],
      (
        λ tells. subst (λ (s : Status). StepsBy c.args.script.now c.args.at o c.args.self.now c.args.self.now [] (Err s)) (sym c.status_of_fault.ensures)
            (fault_step c.args.script.now c.args.at o c.args.self.now c.line.result.now c.in-Err.fault c.line.ensures (sym c.is_empty.ensures ∙ c.if-is_empty.false) c.in-Err.ensures.command),
        λ tells. subst (λ (s : Status). IsWritten s [] taken taken) (sym c.status_of_fault.ensures) (fault_written c.in-Err.fault taken),
      ),
    )

pub returns-in-Ok-carry_out-clause-next_line : goal.returns-in-Ok-carry_out-clause-next_line
returns-in-Ok-carry_out-clause-next_line g c = next_within c.args.script.now c.args.at c.in-Ok.read c.in-Ok.ensures.command

pub returns-clause-fold : goal.returns-clause-fold
returns-clause-fold g c =
    let o = seen (g.T.Tree.history c.args.tree.now) (g.T.Tree.fields c.args.tree.now) in
    let done = c.in-Err-carry_out.ensures.done in (
      done.0,
      (
        λ tells. command_step c.args.script.now c.args.at o c.args.self.now c.carry_out.new.self c.line.result.now done.0 c.in-Ok.read (Err c.in-Err-carry_out.refused) c.line.ensures
            (sym c.is_empty.ensures ∙ c.if-is_empty.false) c.in-Ok.ensures.command (done.1.0 tells),
        done.1.1,
      ),
    )
