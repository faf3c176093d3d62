use Rattle.std.proofs.Common.{◌∙◌, ap, Err}
use Rattle.std.proofs.lemmas.Result.{err_from_is_err_and}
use Rattle.commit_states.specs.Calls.{clearing_calls}
use Rattle.commit_calls.specs.Parts.{remove_calls, close_up_calls}
use Rattle.commit_calls.proofs.PathLemmas.{cleared_is}
use Rattle.commit_calls.proofs.RunLemmas.{first_can, first_failed, second_can, second_ran}
use Rattle.commit_calls.proofs.clearing.clear.Goals as goal

pub remove_all-requires : goal.remove_all-requires
remove_all-requires g c = record { can = λ tells. first_can (clearing_calls c.args.fresh.now) (remove_calls c.args.fresh_paths.now) (close_up_calls c.args.marker.now c.args.paths.now.undone c.args.paths.now.staging) (cleared_is c.args.fresh.now c.args.fresh_paths.now c.args.marker.now c.args.paths.now.undone c.args.paths.now.staging c.requires.fresh_paths c.requires.marker c.requires.paths.undone_is c.requires.paths.staging_is) (g.T.Tree.history c.args.tree.now) (c.requires.can tells) }

pub returns-in_err-remove_all-clause-ran : goal.returns-in_err-remove_all-clause-ran
returns-in_err-remove_all-clause-ran g c tells =
    first_failed (clearing_calls c.args.fresh.now) (remove_calls c.args.fresh_paths.now) (close_up_calls c.args.marker.now c.args.paths.now.undone c.args.paths.now.staging) (cleared_is c.args.fresh.now c.args.fresh_paths.now c.args.marker.now c.args.paths.now.undone c.args.paths.now.staging c.requires.fresh_paths c.requires.marker c.requires.paths.undone_is c.requires.paths.staging_is) (g.T.Tree.history c.args.tree.now) (g.T.Tree.history c.remove_all.new.tree) (g.T.Tree.before_failed c.args.tree.now) (g.T.Tree.before_failed c.remove_all.new.tree) c.from_residual.result c.in_err-remove_all.field-0.0
    (let p = err_from_is_err_and c.from_residual.result c.from_residual.ensures.1 in p.1 ∙ ap Err p.2) (c.in_err-remove_all.ensures.ran tells)

pub close_up-requires : goal.close_up-requires
close_up-requires g c = record { can = λ tells. second_can (clearing_calls c.args.fresh.now) (remove_calls c.args.fresh_paths.now) (close_up_calls c.args.marker.now c.args.paths.now.undone c.args.paths.now.staging) (cleared_is c.args.fresh.now c.args.fresh_paths.now c.args.marker.now c.args.paths.now.undone c.args.paths.now.staging c.requires.fresh_paths c.requires.marker c.requires.paths.undone_is c.requires.paths.staging_is) (g.T.Tree.history c.args.tree.now) (g.T.Tree.history c.remove_all.new.tree) (c.in_ok-remove_all.ensures.ran tells).0 (c.requires.can tells) }

pub returns-clause-ran : goal.returns-clause-ran
returns-clause-ran g c tells =
    second_ran (clearing_calls c.args.fresh.now) (remove_calls c.args.fresh_paths.now) (close_up_calls c.args.marker.now c.args.paths.now.undone c.args.paths.now.staging) (cleared_is c.args.fresh.now c.args.fresh_paths.now c.args.marker.now c.args.paths.now.undone c.args.paths.now.staging c.requires.fresh_paths c.requires.marker c.requires.paths.undone_is c.requires.paths.staging_is) (g.T.Tree.history c.args.tree.now) (g.T.Tree.history c.remove_all.new.tree) (g.T.Tree.history c.close_up.new.tree) (g.T.Tree.before_failed c.args.tree.now) (g.T.Tree.before_failed c.remove_all.new.tree) (g.T.Tree.before_failed c.close_up.new.tree) c.close_up.result
    (c.in_ok-remove_all.ensures.ran tells).0 (c.in_ok-remove_all.ensures.ran tells).1 (c.close_up.ensures.ran tells)
