use Rattle.std.proofs.Common.{◌≡◌, List, [], ◌∷◌, ◌++◌, length, refl, sym, ◌∙◌, ap, rules, Err, inl}
use Rattle.commit_run.specs.BeforePlan.{standing_removed, unstaged_all}
use Rattle.commit_run.specs.Preparing.{early_paths}
use Rattle.commit_run.proofs.RestLemmas.{ended_first, ran_ended, ran_left, ran_looked, rest_all, rest_as, rest_can, rest_can_first, rest_next}
use Rattle.commit_steps.specs.Staging.{staging}
use Rattle.dired_text.specs.Paths.{Names}
use Rattle.tree_core.specs.declared.node.Change.TheVariants as call
use Rattle.tree_core.specs.History.{current_tree}
use Rattle.commit_run.proofs.back.unstage_all.Goals as goal

pub remove_standing-requires : goal.remove_standing-requires
remove_standing-requires g c = record {
  can = λ tells.
      let T = g.T.Tree in
      let began = T.history c.args.tree.now in
      let t = current_tree began in
      let ps = c.deref.result.now in
      let count = length c.args.prepared.now.fresh.items in
      let all = unstaged_all count t in
      let early : early_paths count ≡ ps = search rules in
      let cs = standing_removed ps t in
      let ds = call.RemoveDir staging ∷ call.Sync ∷ [] in
      rest_can_first all began began cs ds (c.requires.can tells)
      (rest_as all began began all (cs ++ ds) (rest_all all began began refl) (ap (λ (l : List Names). standing_removed l t ++ ds) early));
}

pub returns-in_err-remove_standing-clause-ran : goal.returns-in_err-remove_standing-clause-ran
returns-in_err-remove_standing-clause-ran g c tells =
    let T = g.T.Tree in
    let began = T.history c.args.tree.now in
    let new = T.history c.remove_standing.new.tree in
    let t = current_tree began in
    let ps = c.deref.result.now in
    let count = length c.args.prepared.now.fresh.items in
    let all = unstaged_all count t in
    let early : early_paths count ≡ ps = search rules in
    let cs = standing_removed ps t in
    let ds = call.RemoveDir staging ∷ call.Sync ∷ [] in
    let first = c.in_err-remove_standing.field-0.0 in
    let is : c.from_residual.result ≡ Err first = search rules in
    ran_ended all began new (T.before_failed c.args.tree.now) (T.before_failed c.remove_standing.new.tree) c.from_residual.result first is
    (ended_first all began began cs ds (rest_as all began began all (cs ++ ds) (rest_all all began began refl) (ap (λ (l : List Names). standing_removed l t ++ ds) early))
    new (T.before_failed c.remove_standing.new.tree) first (c.in_err-remove_standing.ensures.ran tells))

pub remove_dir-requires : goal.remove_dir-requires
remove_dir-requires g c = record {
  can = λ tells.
      let T = g.T.Tree in
      let began = T.history c.args.tree.now in
      let mid = T.history c.remove_standing.new.tree in
      let t = current_tree began in
      let ps = c.deref.result.now in
      let count = length c.args.prepared.now.fresh.items in
      let all = unstaged_all count t in
      let early : early_paths count ≡ ps = search rules in
      let cs = standing_removed ps t in
      let dir : c.args.prepared.now.paths.staging ≡ staging = search rules in
      let last = call.RemoveDir c.args.prepared.now.paths.staging ∷ call.Sync ∷ [] in
      let calls : all ≡ cs ++ last = ap (λ (l : List Names). standing_removed l t ++ call.RemoveDir staging ∷ call.Sync ∷ []) early ∙ ap (λ (p : Names). cs ++ call.RemoveDir p ∷ call.Sync ∷ []) (sym dir) in
      let behind = rest_next all began began mid cs last (rest_as all began began all (cs ++ last) (rest_all all began began refl) calls) (c.in_ok-remove_standing.ensures.ran tells).0 in
      (rest_can all began mid last (c.requires.can tells) behind).0;
}

pub returns-in_err-remove_dir-clause-ran : goal.returns-in_err-remove_dir-clause-ran
returns-in_err-remove_dir-clause-ran g c tells =
    let T = g.T.Tree in
    let began = T.history c.args.tree.now in
    let mid = T.history c.remove_standing.new.tree in
    let t = current_tree began in
    let ps = c.deref.result.now in
    let count = length c.args.prepared.now.fresh.items in
    let all = unstaged_all count t in
    let early : early_paths count ≡ ps = search rules in
    let cs = standing_removed ps t in
    let dir : c.args.prepared.now.paths.staging ≡ staging = search rules in
    let last = call.RemoveDir c.args.prepared.now.paths.staging ∷ call.Sync ∷ [] in
    let calls : all ≡ cs ++ last = ap (λ (l : List Names). standing_removed l t ++ call.RemoveDir staging ∷ call.Sync ∷ []) early ∙ ap (λ (p : Names). cs ++ call.RemoveDir p ∷ call.Sync ∷ []) (sym dir) in
    let behind = rest_next all began began mid cs last (rest_as all began began all (cs ++ last) (rest_all all began began refl) calls) (c.in_ok-remove_standing.ensures.ran tells).0 in
    let first = c.in_err-remove_dir.field-0.0 in
    let is : c.from_residual-in_err-remove_dir.result ≡ Err first = search rules in
    ran_ended all began (T.history c.remove_dir.new.tree) (T.before_failed c.args.tree.now) (T.before_failed c.remove_dir.new.tree) c.from_residual-in_err-remove_dir.result first is
    (ended_first all began mid (call.RemoveDir c.args.prepared.now.paths.staging ∷ []) (call.Sync ∷ []) behind (T.history c.remove_dir.new.tree) (T.before_failed c.remove_dir.new.tree) first (inl (c.in_err-remove_dir.ensures.ran tells)))

pub returns-clause-ran : goal.returns-clause-ran
returns-clause-ran g c tells =
    let T = g.T.Tree in
    let began = T.history c.args.tree.now in
    let mid = T.history c.remove_standing.new.tree in
    let t = current_tree began in
    let ps = c.deref.result.now in
    let count = length c.args.prepared.now.fresh.items in
    let all = unstaged_all count t in
    let early : early_paths count ≡ ps = search rules in
    let cs = standing_removed ps t in
    let dir : c.args.prepared.now.paths.staging ≡ staging = search rules in
    let last = call.RemoveDir c.args.prepared.now.paths.staging ∷ call.Sync ∷ [] in
    let calls : all ≡ cs ++ last = ap (λ (l : List Names). standing_removed l t ++ call.RemoveDir staging ∷ call.Sync ∷ []) early ∙ ap (λ (p : Names). cs ++ call.RemoveDir p ∷ call.Sync ∷ []) (sym dir) in
    let behind = rest_next all began began mid cs last (rest_as all began began all (cs ++ last) (rest_all all began began refl) calls) (c.in_ok-remove_standing.ensures.ran tells).0 in
    let now = T.history c.remove_dir.new.tree in
    let gone = rest_next all began mid now (call.RemoveDir c.args.prepared.now.paths.staging ∷ []) (call.Sync ∷ []) behind (c.in_ok-remove_dir.ensures.ran tells).0 in
    let kept : T.before_failed c.remove_dir.new.tree ≡ T.before_failed c.args.tree.now = (c.in_ok-remove_dir.ensures.ran tells).1 ∙ (c.in_ok-remove_standing.ensures.ran tells).1 in
    ran_left all began now (call.Sync ∷ []) gone (T.history c.sync.new.tree) (T.before_failed c.args.tree.now) (T.before_failed c.remove_dir.new.tree) (T.before_failed c.sync.new.tree) c.sync.result kept
    (ran_looked (call.Sync ∷ []) now (T.history c.sync.new.tree) (T.before_failed c.remove_dir.new.tree) (T.before_failed c.sync.new.tree) c.sync.result (c.sync.ensures.ran tells))
