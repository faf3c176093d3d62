use Rattle.std.proofs.Common.{◌∙◌, [], ◌∷◌, ap, Err}
use Rattle.std.proofs.lemmas.Result.{err_from_is_err_and}
use Rattle.tree_core.specs.declared.node.Change.TheVariants as call
use Rattle.std.proofs.Common.{refl}
use Rattle.commit_calls.specs.Parts.{remove_calls, unstaging_calls}
use Rattle.commit_calls.proofs.RunLemmas.{first_can, first_failed, second_can, second_ran}
use Rattle.commit_calls.proofs.unstaging.unstage.Goals as goal

pub remove_all-requires : goal.remove_all-requires
remove_all-requires g c = record { can = λ tells. first_can (unstaging_calls c.args.entries.now c.args.directory.now) (remove_calls c.args.entries.now) (call.RemoveDir c.args.directory.now ∷ call.Sync ∷ []) refl (g.T.Tree.history c.args.tree.now) (c.requires.can tells) }

pub returns-in_err-remove_all-clause-ran : goal.returns-in_err-remove_all-clause-ran
returns-in_err-remove_all-clause-ran g c tells =
    first_failed (unstaging_calls c.args.entries.now c.args.directory.now) (remove_calls c.args.entries.now) (call.RemoveDir c.args.directory.now ∷ call.Sync ∷ []) refl (g.T.Tree.history c.args.tree.now) (g.T.Tree.history c.remove_all.new.tree) (g.T.Tree.before_failed c.args.tree.now) (g.T.Tree.before_failed c.remove_all.new.tree) c.from_residual.result c.in_err-remove_all.field-0.0
    (let p = err_from_is_err_and c.from_residual.result c.from_residual.ensures.1 in p.1 ∙ ap Err p.2) (c.in_err-remove_all.ensures.ran tells)

pub remove_dir_and_sync-requires : goal.remove_dir_and_sync-requires
remove_dir_and_sync-requires g c = record { can = λ tells. second_can (unstaging_calls c.args.entries.now c.args.directory.now) (remove_calls c.args.entries.now) (call.RemoveDir c.args.directory.now ∷ call.Sync ∷ []) refl (g.T.Tree.history c.args.tree.now) (g.T.Tree.history c.remove_all.new.tree) (c.in_ok-remove_all.ensures.ran tells).0 (c.requires.can tells) }

pub returns-clause-ran : goal.returns-clause-ran
returns-clause-ran g c tells =
    second_ran (unstaging_calls c.args.entries.now c.args.directory.now) (remove_calls c.args.entries.now) (call.RemoveDir c.args.directory.now ∷ call.Sync ∷ []) refl (g.T.Tree.history c.args.tree.now) (g.T.Tree.history c.remove_all.new.tree) (g.T.Tree.history c.remove_dir_and_sync.new.tree) (g.T.Tree.before_failed c.args.tree.now) (g.T.Tree.before_failed c.remove_all.new.tree) (g.T.Tree.before_failed c.remove_dir_and_sync.new.tree) c.remove_dir_and_sync.result
    (c.in_ok-remove_all.ensures.ran tells).0 (c.in_ok-remove_all.ensures.ran tells).1 (c.remove_dir_and_sync.ensures.ran tells)
