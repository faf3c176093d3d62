use Rattle.std.proofs.Common.{◌≡◌, ℕ, List, [], length, Option, refl, sym, subst, ap, ◌∙◌}
use Rattle.script_words.specs.declared.command.Command.{Command}
use Rattle.tree_core.specs.Looks.{OnlyLooked}
use Rattle.tree_core.specs.declared.node.CallName.{CallName}
use Rattle.dired_session.specs.Desks.{seen, starred_on}
use Rattle.dired_session.specs.Ends.{DoesBy, of_printed, tally}
use Rattle.dired_session.specs.Steps.{buffer_text, change, count_text, does, silently}
use Rattle.dired_session.proofs.StepLemmas.{changes_done, does_other, prints_done, silent_counts, silent_ends, silent_look, silent_written}
use Rattle.dired_session.proofs.session.Session.carry_out.Goals as goal

pub returns-in-Count-clause-done : goal.returns-in-Count-clause-done
returns-in-Count-clause-done g c =
    let o = seen (g.T.Tree.history c.args.tree.now) (g.T.Tree.fields c.args.tree.now) in
    let text = count_text (length (starred_on c.args.self.now)) in (
      of_printed c.count.result text,
      (
        λ tells. subst (λ (asked : Command). DoesBy (does c.args.at asked o c.args.self.now) c.args.self.now (of_printed c.count.result text) c.count.result) (sym c.in-Count.is)
            (prints_done c.count.result text c.args.self.now c.count.ensures.end),
        c.count.ensures.taken,
      ),
    )

pub returns-in-Print-clause-done : goal.returns-in-Print-clause-done
returns-in-Print-clause-done g c =
    let o = seen (g.T.Tree.history c.args.tree.now) (g.T.Tree.fields c.args.tree.now) in
    let text = buffer_text c.args.self.now in (
      of_printed c.print.result text,
      (
        λ tells. subst (λ (asked : Command). DoesBy (does c.args.at asked o c.args.self.now) c.args.self.now (of_printed c.print.result text) c.print.result) (sym c.in-Print.is)
            (prints_done c.print.result text c.args.self.now c.print.ensures.end),
        c.print.ensures.taken,
      ),
    )

pub returns-in_default : goal.returns-in_default
returns-in_default g c =
    let o = seen (g.T.Tree.history c.args.tree.now) (g.T.Tree.fields c.args.tree.now) in
    let ends = c.change.ensures.ends in
    record {
      done = (
        [],
        (
          λ tells. subst (λ w. DoesBy w c.change.new.self [] c.change.result) (sym (does_other c.args.at c.args.command o c.args.self.now c.in_default.not-Count c.in_default.not-Print))
              (changes_done c.change.result (change c.args.at c.args.command c.args.self.now) c.change.new.self c.change.ensures.done ends),
          λ tells. silent_written c.change.result (g.W.Sink.taken c.args.sink.now) ends,
        ),
      );
      looked = λ tells. subst (λ (failed : Option CallName). OnlyLooked failed (g.T.Tree.history c.args.tree.now) (g.T.Tree.history c.args.tree.now) (g.T.Tree.fields c.args.tree.now) (g.T.Tree.fields c.args.tree.now) (g.T.Tree.before_failed c.args.tree.now) (g.T.Tree.before_failed c.args.tree.now)) (sym (silent_look c.change.result ends)) (record { history = refl; fields = refl; before_failed = refl });
      unchanged = refl;
      causes = silent_counts c.change.result (tally (g.T.Tree.faults c.args.tree.now) (g.W.Sink.faults c.args.sink.now)) ends;
      ends = silent_ends c.change.result ends;
    }
