use Rattle.std.proofs.Common.{◌≡◌, [], ◌∷◌, sym, ◌∙◌, ap, subst, rules}
use Rattle.commit_run.specs.Sealing.{sealed_rename}
use Rattle.commit_run.proofs.StandLemmas.{at_seal, done_ends, finish_can, rename_can, seal_ends, unclean_ends}
use Rattle.tree_core.specs.declared.node.Change.{Change}
use Rattle.tree_core.specs.declared.node.Change.TheVariants as call
use Rattle.tree_core.specs.FileTree.{CanDo}
use Rattle.tree_core.specs.History.{Then, current_tree}
use Rattle.tree_core.specs.Runs.{FailedIn}
use Rattle.commit_run.proofs.committing.seal_and_clean.Goals as goal

pub rename-requires : goal.rename-requires
rename-requires g c = record {
  can = λ tells.
      let T = g.T.Tree in
      let p = c.args.prepared.now in
      let made : call.Rename p.paths.plan p.paths.sealed ≡ sealed_rename = search rules in
      subst (λ (x : Change). CanDo x (current_tree (T.history c.args.tree.now))) (sym made) (rename_can p c.requires.prepared (T.history c.args.tree.now) (c.requires.begun tells));
}

pub unsealed-requires-clause-begun : goal.unsealed-requires-clause-begun
unsealed-requires-clause-begun g c tells =
    let T = g.T.Tree in
    let p = c.args.prepared.now in
    let made : call.Rename p.paths.plan p.paths.sealed ≡ sealed_rename = search rules in
    let last = T.history c.rename.new.tree in
    let before = T.before_failed c.rename.new.tree in
    at_seal p c.requires.prepared (T.history c.args.tree.now) (c.requires.begun tells) last before c.in-Err.first
    (subst (λ (x : Change). FailedIn (x ∷ []) (T.history c.args.tree.now) last before c.in-Err.first) made (c.in-Err.ensures.ran tells))

pub returns-in-Err-clause-ends : goal.returns-in-Err-clause-ends
returns-in-Err-clause-ends g c tells =
    let T = g.T.Tree in
    let p = c.args.prepared.now in
    let made : call.Rename p.paths.plan p.paths.sealed ≡ sealed_rename = search rules in
    let last = T.history c.rename.new.tree in
    let before = T.before_failed c.rename.new.tree in
    seal_ends p c.requires.prepared (T.history c.args.tree.now) (T.history c.unsealed.new.tree) before (T.before_failed c.unsealed.new.tree) c.in-Err.first last c.unsealed.result
    (subst (λ (x : Change). FailedIn (x ∷ []) (T.history c.args.tree.now) last before c.in-Err.first) made (c.in-Err.ensures.ran tells))
    (c.unsealed.ensures.ends tells)

pub finish-requires-clause-can : goal.finish-requires-clause-can
finish-requires-clause-can g c tells =
    let T = g.T.Tree in
    let p = c.args.prepared.now in
    let made : call.Rename p.paths.plan p.paths.sealed ≡ sealed_rename = search rules in
    let done = (c.in_default.ensures.ran tells).0 ∙ ap (Then (T.history c.args.tree.now)) made in
    finish_can p c.requires.prepared (T.history c.args.tree.now) (c.requires.begun tells) (T.history c.rename.new.tree) done

pub returns-in-Ok-clause-ends : goal.returns-in-Ok-clause-ends
returns-in-Ok-clause-ends g c tells =
    let T = g.T.Tree in
    let p = c.args.prepared.now in
    let made : call.Rename p.paths.plan p.paths.sealed ≡ sealed_rename = search rules in
    let done = (c.in_default.ensures.ran tells).0 ∙ ap (Then (T.history c.args.tree.now)) made in
    done_ends p c.requires.prepared (T.history c.args.tree.now) (T.history c.rename.new.tree) (T.history c.finish.new.tree) (T.before_failed c.rename.new.tree) (T.before_failed c.finish.new.tree) done
    (c.in-Ok.ensures.ran tells).0

pub returns-in-Err-finish-clause-ends : goal.returns-in-Err-finish-clause-ends
returns-in-Err-finish-clause-ends g c tells =
    let T = g.T.Tree in
    let p = c.args.prepared.now in
    let made : call.Rename p.paths.plan p.paths.sealed ≡ sealed_rename = search rules in
    let done = (c.in_default.ensures.ran tells).0 ∙ ap (Then (T.history c.args.tree.now)) made in
    unclean_ends p c.requires.prepared (T.history c.args.tree.now) (T.history c.rename.new.tree) (T.history c.finish.new.tree) (T.before_failed c.rename.new.tree) (T.before_failed c.finish.new.tree) done c.in-Err-finish.first
    (c.in-Err-finish.ensures.ran tells)
