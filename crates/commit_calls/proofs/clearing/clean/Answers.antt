use Rattle.std.proofs.Common.{◌∙◌, ap, Err}
use Rattle.std.proofs.lemmas.Result.{err_from_is_err_and}
use Rattle.commit_states.specs.Calls.{removals_by, held_items, cleaning_calls}
use Rattle.commit_calls.specs.Parts.{close_up_calls}
use Rattle.commit_calls.proofs.PathLemmas.{cleaned_is}
use Rattle.commit_calls.proofs.RunLemmas.{first_can, first_failed, second_can, second_ran}
use Rattle.commit_calls.proofs.clearing.clean.Goals as goal

pub discard_all-requires-clause-can : goal.discard_all-requires-clause-can
discard_all-requires-clause-can g c tells = first_can (cleaning_calls c.args.held.now c.args.steps) (removals_by (held_items c.args.held.now)) (close_up_calls c.args.marker.now c.args.paths.now.sealed c.args.paths.now.staging) (cleaned_is c.args.held.now c.args.steps c.args.marker.now c.args.paths.now.sealed c.args.paths.now.staging c.requires.marker c.requires.paths.sealed_is c.requires.paths.staging_is) (g.T.Tree.history c.args.tree.now) (c.requires.can tells)

pub returns-in_err-discard_all-clause-ran : goal.returns-in_err-discard_all-clause-ran
returns-in_err-discard_all-clause-ran g c tells =
    first_failed (cleaning_calls c.args.held.now c.args.steps) (removals_by (held_items c.args.held.now)) (close_up_calls c.args.marker.now c.args.paths.now.sealed c.args.paths.now.staging) (cleaned_is c.args.held.now c.args.steps c.args.marker.now c.args.paths.now.sealed c.args.paths.now.staging c.requires.marker c.requires.paths.sealed_is c.requires.paths.staging_is) (g.T.Tree.history c.args.tree.now) (g.T.Tree.history c.discard_all.new.tree) (g.T.Tree.before_failed c.args.tree.now) (g.T.Tree.before_failed c.discard_all.new.tree) c.from_residual.result c.in_err-discard_all.field-0.0
    (let p = err_from_is_err_and c.from_residual.result c.from_residual.ensures.1 in p.1 ∙ ap Err p.2) (c.in_err-discard_all.ensures.ran tells)

pub close_up-requires : goal.close_up-requires
close_up-requires g c = record { can = λ tells. second_can (cleaning_calls c.args.held.now c.args.steps) (removals_by (held_items c.args.held.now)) (close_up_calls c.args.marker.now c.args.paths.now.sealed c.args.paths.now.staging) (cleaned_is c.args.held.now c.args.steps c.args.marker.now c.args.paths.now.sealed c.args.paths.now.staging c.requires.marker c.requires.paths.sealed_is c.requires.paths.staging_is) (g.T.Tree.history c.args.tree.now) (g.T.Tree.history c.discard_all.new.tree) (c.in_ok-discard_all.ensures.ran tells).0 (c.requires.can tells) }

pub returns-clause-ran : goal.returns-clause-ran
returns-clause-ran g c tells =
    second_ran (cleaning_calls c.args.held.now c.args.steps) (removals_by (held_items c.args.held.now)) (close_up_calls c.args.marker.now c.args.paths.now.sealed c.args.paths.now.staging) (cleaned_is c.args.held.now c.args.steps c.args.marker.now c.args.paths.now.sealed c.args.paths.now.staging c.requires.marker c.requires.paths.sealed_is c.requires.paths.staging_is) (g.T.Tree.history c.args.tree.now) (g.T.Tree.history c.discard_all.new.tree) (g.T.Tree.history c.close_up.new.tree) (g.T.Tree.before_failed c.args.tree.now) (g.T.Tree.before_failed c.discard_all.new.tree) (g.T.Tree.before_failed c.close_up.new.tree) c.close_up.result
    (c.in_ok-discard_all.ensures.ran tells).0 (c.in_ok-discard_all.ensures.ran tells).1 (c.close_up.ensures.ran tells)
