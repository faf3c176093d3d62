use Rattle.std.proofs.Common.{◌∙◌, [], ◌∷◌, ap, Err}
use Rattle.std.proofs.lemmas.Result.{err_from_is_err_and}
use Rattle.tree_core.specs.declared.node.Change.TheVariants as call
use Rattle.commit_states.specs.Calls.{stage_calls}
use Rattle.commit_calls.specs.Parts.{open_calls}
use Rattle.commit_calls.proofs.PathLemmas.{filled_is}
use Rattle.commit_calls.proofs.RunLemmas.{first_can, first_failed, second_can, second_ran}
use Rattle.commit_calls.proofs.staging.fill.Goals as goal

pub open-requires-clause-can : goal.open-requires-clause-can
open-requires-clause-can g c tells = first_can (stage_calls c.args.fresh.now c.args.journal.now) (open_calls c.args.paths.now.staging c.args.marker.now c.args.fresh.now) (call.WriteFile c.args.paths.now.new_journal c.args.journal.now 0o600 ∷ []) (filled_is c.args.paths.now.staging c.args.marker.now c.args.paths.now.new_journal c.args.fresh.now c.args.journal.now c.requires.paths.staging_is c.requires.marker c.requires.paths.new_is) (g.T.Tree.history c.args.tree.now) (c.requires.can tells)

pub returns-in_err-open-clause-ran : goal.returns-in_err-open-clause-ran
returns-in_err-open-clause-ran g c tells =
    first_failed (stage_calls c.args.fresh.now c.args.journal.now) (open_calls c.args.paths.now.staging c.args.marker.now c.args.fresh.now) (call.WriteFile c.args.paths.now.new_journal c.args.journal.now 0o600 ∷ []) (filled_is c.args.paths.now.staging c.args.marker.now c.args.paths.now.new_journal c.args.fresh.now c.args.journal.now c.requires.paths.staging_is c.requires.marker c.requires.paths.new_is) (g.T.Tree.history c.args.tree.now) (g.T.Tree.history c.open.new.tree) (g.T.Tree.before_failed c.args.tree.now) (g.T.Tree.before_failed c.open.new.tree) c.from_residual.result c.in_err-open.field-0.0
    (let p = err_from_is_err_and c.from_residual.result c.from_residual.ensures.1 in p.1 ∙ ap Err p.2) (c.in_err-open.ensures.ran tells)

pub write_file-requires : goal.write_file-requires
write_file-requires g c = record { can = λ tells. (second_can (stage_calls c.args.fresh.now c.args.journal.now) (open_calls c.args.paths.now.staging c.args.marker.now c.args.fresh.now) (call.WriteFile c.args.paths.now.new_journal c.args.journal.now 0o600 ∷ []) (filled_is c.args.paths.now.staging c.args.marker.now c.args.paths.now.new_journal c.args.fresh.now c.args.journal.now c.requires.paths.staging_is c.requires.marker c.requires.paths.new_is) (g.T.Tree.history c.args.tree.now) (g.T.Tree.history c.open.new.tree) (c.in_ok-open.ensures.ran tells).0 (c.requires.can tells)).0 }

pub returns-clause-ran : goal.returns-clause-ran
returns-clause-ran g c tells =
    second_ran (stage_calls c.args.fresh.now c.args.journal.now) (open_calls c.args.paths.now.staging c.args.marker.now c.args.fresh.now) (call.WriteFile c.args.paths.now.new_journal c.args.journal.now 0o600 ∷ []) (filled_is c.args.paths.now.staging c.args.marker.now c.args.paths.now.new_journal c.args.fresh.now c.args.journal.now c.requires.paths.staging_is c.requires.marker c.requires.paths.new_is) (g.T.Tree.history c.args.tree.now) (g.T.Tree.history c.open.new.tree) (g.T.Tree.history c.write_file.new.tree) (g.T.Tree.before_failed c.args.tree.now) (g.T.Tree.before_failed c.open.new.tree) (g.T.Tree.before_failed c.write_file.new.tree) c.write_file.result
    (c.in_ok-open.ensures.ran tells).0 (c.in_ok-open.ensures.ran tells).1 (c.write_file.ensures.ran tells)
