use Rattle.std.proofs.Common.{inl, inr, sym, ap, ◌∙◌, subst}
use Rattle.std.proofs.lemmas.Result.{err_from_is_err_and}
use Rattle.tree_core.specs.History.{current_tree}
use Rattle.tree_core.specs.Looks.{faults_with}
use Rattle.drill_run.specs.Drills.{AreCommitted}
use Rattle.drill_run.specs.Ends.{failed_look}
use Rattle.drill_run.proofs.DrillLemmas.{committed, counted, faults_kept, looked, looked_faults, short_now}
use Rattle.drill_run.proofs.drilling.drill_commit.Goals as goal

pub returns-in_err-checked-clause-drilled : goal.returns-in_err-checked-clause-drilled
returns-in_err-checked-clause-drilled g c =
    let p = err_from_is_err_and c.from_residual.result c.from_residual.ensures.1 in
    looked c.args.groups _ _ _ c.from_residual.result p.0 c.in_err-checked.field-0.0 p.1 p.2 c.in_err-checked.ensures.end (inl c.in_err-checked.ensures.history)

pub returns-in_err-checked-clause-faults : goal.returns-in_err-checked-clause-faults
returns-in_err-checked-clause-faults g c =
    let p = err_from_is_err_and c.from_residual.result c.from_residual.ensures.1 in
    looked_faults _ _ c.from_residual.result p.0 c.in_err-checked.field-0.0 p.1 p.2 c.in_err-checked.ensures.end c.in_err-checked.ensures.faults

pub entries_left-requires-clause-short : goal.entries_left-requires-clause-short
entries_left-requires-clause-short g c =
    short_now c.args.groups (g.T.Tree.history c.args.tree.now) (g.T.Tree.history c.commit.new.tree) _ c.requires.drill
    (committed c.args.groups _ _ _ _ _ c.commit.result c.in_ok-ended.ensures.done c.in_ok-checked.ensures.history c.in_ok-checked.ensures.changes (c.commit.ensures.commit c.requires.told))

pub returns-in_err-counts-2-clause-drilled : goal.returns-in_err-counts-2-clause-drilled
returns-in_err-counts-2-clause-drilled g c =
    let p = err_from_is_err_and c.from_residual-in_err-counts-2.result c.from_residual-in_err-counts-2.ensures.1 in
    let done = committed c.args.groups _ _ _ _ _ c.commit.result c.in_ok-ended.ensures.done c.in_ok-checked.ensures.history c.in_ok-checked.ensures.changes (c.commit.ensures.commit c.requires.told) in
    looked c.args.groups _ _ _ c.from_residual-in_err-counts-2.result p.0 c.in_err-counts-2.field-0.0 p.1 p.2 c.in_err-counts-2.ensures.end
    (inr (_, subst (λ h. AreCommitted c.args.groups (g.T.Tree.history c.args.tree.now) h (g.T.Tree.before_failed c.commit.new.tree)) (sym c.in_err-counts-2.ensures.history) done))

pub returns-in_err-counts-2-clause-faults : goal.returns-in_err-counts-2-clause-faults
returns-in_err-counts-2-clause-faults g c =
    let p = err_from_is_err_and c.from_residual-in_err-counts-2.result c.from_residual-in_err-counts-2.ensures.1 in
    let kept = faults_kept _ _ c.commit.result c.in_ok-ended.ensures.done c.commit.ensures.faults ∙ c.in_ok-checked.ensures.faults in
    looked_faults _ _ c.from_residual-in_err-counts-2.result p.0 c.in_err-counts-2.field-0.0 p.1 p.2 c.in_err-counts-2.ensures.end
    (c.in_err-counts-2.ensures.faults ∙ ap (faults_with (failed_look c.in_err-counts-2.field-0.0)) kept)

pub returns-clause-drilled : goal.returns-clause-drilled
returns-clause-drilled g c =
    let done = committed c.args.groups _ _ _ _ _ c.commit.result c.in_ok-ended.ensures.done c.in_ok-checked.ensures.history c.in_ok-checked.ensures.changes (c.commit.ensures.commit c.requires.told) in (
      (_, subst (λ h. AreCommitted c.args.groups (g.T.Tree.history c.args.tree.now) h (g.T.Tree.before_failed c.commit.new.tree)) (sym c.in_ok-counts-2.ensures.history) done),
      counted c.args.groups (current_tree (g.T.Tree.history c.args.tree.now)) (g.T.Tree.history c.commit.new.tree) (g.T.Tree.history c.entries_left.new.tree) c.in_ok-counts.counts c.in_ok-counts-2.field-0
          (c.in_ok-counts.ensures _ c.requires.drill c.in_ok-checked.ensures.stands) c.in_ok-counts-2.ensures.left c.in_ok-counts-2.ensures.history,
    )
