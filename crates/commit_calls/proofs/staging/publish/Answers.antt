use Rattle.std.proofs.Common.{List, ◌∷◌, sym, subst}
use Rattle.tree_core.specs.declared.node.Change.{Change}
use Rattle.tree_core.specs.declared.node.Change.TheVariants as call
use Rattle.tree_core.specs.Runs.{CanAll}
use Rattle.commit_states.specs.Calls.{plan_calls}
use Rattle.commit_calls.specs.Parts.{synced_rename_calls}
use Rattle.commit_calls.proofs.RunLemmas.{ran_as}
use Rattle.commit_calls.proofs.PathLemmas.{published_is}
use Rattle.commit_calls.proofs.staging.publish.Goals as goal

pub sync_and_rename-requires : goal.sync_and_rename-requires
sync_and_rename-requires g c = record { can = λ tells. subst (λ (l : List Change). CanAll l (g.T.Tree.history c.args.tree.now)) (sym (published_is c.args.paths.now.new_journal c.args.paths.now.plan c.requires.paths.new_is c.requires.paths.plan_is)) (c.requires.can tells) }

pub returns-clause-ran : goal.returns-clause-ran
returns-clause-ran g c tells = ran_as (synced_rename_calls c.args.paths.now.new_journal c.args.paths.now.plan) (call.Sync ∷ plan_calls) (g.T.Tree.history c.args.tree.now) (g.T.Tree.history c.sync_and_rename.new.tree) (g.T.Tree.before_failed c.args.tree.now) (g.T.Tree.before_failed c.sync_and_rename.new.tree) c.sync_and_rename.result (published_is c.args.paths.now.new_journal c.args.paths.now.plan c.requires.paths.new_is c.requires.paths.plan_is) (c.sync_and_rename.ensures.ran tells)
