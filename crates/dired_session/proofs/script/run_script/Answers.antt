use Rattle.std.proofs.Common.{[], ◌++◌, None, append-nil, ap, arith, refl, sym, ◌∙◌}
use Rattle.omit_rules.specs.Values.{values_of}
use Rattle.run_status.specs.declared.status.Status.TheVariants as status
use Rattle.dired_session.specs.Desks.{seen}
use Rattle.dired_session.specs.Ends.{tally}
use Rattle.dired_session.specs.Scripts.{opened, unopened}
use Rattle.dired_session.proofs.RunLemmas.{done_at, looked_more, one_more, same_seen, stopped_at, written_more}
use Rattle.dired_session.proofs.StepLemmas.{unopened_written}
use Rattle.dired_session.proofs.script.run_script.Goals as goal

pub returns-in-Err-clause-runs : goal.returns-in-Err-clause-runs
returns-in-Err-clause-runs g c =
    ([], (λ tells. unopened c.in-Err.ensures.end refl, λ tells. unopened_written c.in-Err.status (g.W.Sink.taken c.args.sink.now) c.in-Err.ensures.end))

pub loop-at-init : goal.loop-at-init
loop-at-init g c = record {
  first = omega arith;
  last = omega arith;
  so_far = ([], (λ tells. ([], (refl, c.in-Ok.ensures.opened tells, refl)), λ tells. sym (append-nil (g.W.Sink.taken c.args.sink.now))));
  looked = c.in-Ok.ensures.looked;
  unchanged = c.in-Ok.ensures.unchanged;
  counts = ap (λ f. tally f (g.W.Sink.faults c.args.sink.now)) c.in-Ok.ensures.faults;
  unused = (refl, refl, refl);
}

pub loop-at-preserved : goal.loop-at-preserved
loop-at-preserved g c =
    let i = c.loop-at.invariant in
    let s = c.in-Ok-step.ensures in
    let o = seen (g.T.Tree.history c.args.tree.now) (g.T.Tree.fields c.args.tree.now) in
    let now = seen (g.T.Tree.history c.loop-at.tree) (g.T.Tree.fields c.loop-at.tree) in
    record {
      first = omega (arith, i.first, s.next_line.0);
      last = s.next_line.1;
      so_far = (
        i.so_far.0 ++ s.fold.0,
        (
          λ tells. one_more o now c.args.script.now c.loop-at.at c.in-Ok-step.next (opened c.args.rules (values_of c.args.settings) o) c.loop-at.session c.step.new.self i.so_far.0 s.fold.0
              (same_seen (g.T.Tree.history c.args.tree.now) (g.T.Tree.history c.loop-at.tree) (g.T.Tree.history c.step.new.tree) (g.T.Tree.fields c.args.tree.now) (g.T.Tree.fields c.loop-at.tree) (g.T.Tree.fields c.step.new.tree) (g.T.Tree.before_failed c.args.tree.now) (g.T.Tree.before_failed c.loop-at.tree) (g.T.Tree.before_failed c.step.new.tree) (i.looked tells)) (i.so_far.1.0 tells) (s.fold.1.0 tells),
          λ tells. written_more status.Done i.so_far.0 s.fold.0 (g.W.Sink.taken c.args.sink.now) (g.W.Sink.taken c.loop-at.sink) (g.W.Sink.taken c.step.new.sink) (i.so_far.1.1 tells) (s.fold.1.1 tells),
        ),
      );
      looked = λ tells. looked_more (g.T.Tree.history c.args.tree.now) (g.T.Tree.history c.loop-at.tree) (g.T.Tree.history c.step.new.tree) (g.T.Tree.fields c.args.tree.now) (g.T.Tree.fields c.loop-at.tree) (g.T.Tree.fields c.step.new.tree) (g.T.Tree.before_failed c.args.tree.now) (g.T.Tree.before_failed c.loop-at.tree) (g.T.Tree.before_failed c.step.new.tree) (i.looked tells) None (s.looked tells);
      unchanged = s.unchanged ∙ i.unchanged;
      counts = s.causes ∙ i.counts;
      unused = (s.unused.0 ∙ i.unused.0, s.unused.1 ∙ i.unused.1, s.unused.2 ∙ i.unused.2);
    }

pub returns-in-Err-step-clause-runs : goal.returns-in-Err-step-clause-runs
returns-in-Err-step-clause-runs g c =
    let i = c.loop-at.invariant in
    let s = c.in-Err-step.ensures in
    let o = seen (g.T.Tree.history c.args.tree.now) (g.T.Tree.fields c.args.tree.now) in
    let now = seen (g.T.Tree.history c.loop-at.tree) (g.T.Tree.fields c.loop-at.tree) in (
      i.so_far.0 ++ s.fold.0,
      (
        λ tells. stopped_at o now c.args.script.now c.loop-at.at (opened c.args.rules (values_of c.args.settings) o) c.loop-at.session c.step.new.self i.so_far.0 s.fold.0 c.in-Err-step.status
            (same_seen (g.T.Tree.history c.args.tree.now) (g.T.Tree.history c.loop-at.tree) (g.T.Tree.history c.loop-at.tree) (g.T.Tree.fields c.args.tree.now) (g.T.Tree.fields c.loop-at.tree) (g.T.Tree.fields c.loop-at.tree)
            (g.T.Tree.before_failed c.args.tree.now) (g.T.Tree.before_failed c.loop-at.tree) (g.T.Tree.before_failed c.loop-at.tree) (i.looked tells))
            (i.so_far.1.0 tells) (s.fold.1.0 tells),
        λ tells. written_more c.in-Err-step.status i.so_far.0 s.fold.0 (g.W.Sink.taken c.args.sink.now) (g.W.Sink.taken c.loop-at.sink) (g.W.Sink.taken c.step.new.sink) (i.so_far.1.1 tells) (s.fold.1.1 tells),
      ),
    )

pub returns-clause-runs : goal.returns-clause-runs
returns-clause-runs g c =
    let i = c.loop-at.invariant in
    let o = seen (g.T.Tree.history c.args.tree.now) (g.T.Tree.fields c.args.tree.now) in (
      i.so_far.0,
      (
        λ tells. done_at o c.args.script.now c.loop-at.at (opened c.args.rules (values_of c.args.settings) o) c.loop-at.session i.so_far.0
            (omega (arith, c.loop-at-test.false, c.lines.ensures.count, i.last)) (i.so_far.1.0 tells),
        i.so_far.1.1,
      ),
    )
