use Rattle.std.proofs.Common.{◌≡◌, [], ◌∷◌, length, refl, sym, ◌∙◌, ap, subst, rules, Err, List}
use Rattle.commit_calls.specs.Cuts.{cut_at}
use Rattle.commit_calls.proofs.RunLemmas.{first_failed, second_can, second_ran}
use Rattle.commit_run.specs.Sealing.{finish_calls}
use Rattle.commit_run.specs.WayBack.{at_cut}
use Rattle.commit_run.proofs.GroupLemmas.{cut_last}
use Rattle.commit_states.specs.declared.held.Held.{Held}
use Rattle.commit_states.specs.Calls.{cleaning_calls}
use Rattle.commit_steps.specs.Staging.{staged, at_marker}
use Rattle.step_trees.specs.Groups.{groups}
use Rattle.tree_core.specs.declared.node.Change.TheVariants as call
use Rattle.tree_core.specs.Runs.{CanAll, Ran}
use Rattle.commit_run.proofs.committing.finish.Goals as goal

pub returns-in_err-sync-clause-ran : goal.returns-in_err-sync-clause-ran
returns-in_err-sync-clause-ran g c tells =
    let T = g.T.Tree in
    let p = c.args.prepared.now in
    let first = c.in_err-sync.field-0.0 in
    let is : c.from_residual.result ≡ Err first = search rules in
    first_failed (finish_calls p.steps p.held.items) (call.Sync ∷ []) (cleaning_calls p.held.items (length p.steps)) refl (T.history c.args.tree.now) (T.history c.sync.new.tree)
    (T.before_failed c.args.tree.now) (T.before_failed c.sync.new.tree) c.from_residual.result first is (c.in_err-sync.ensures.ran tells)

pub clean-requires-clause-marker : goal.clean-requires-clause-marker
clean-requires-clause-marker g c =
    let p = c.args.prepared.now in
    let gs = groups p.steps in
    let last : c.last_cut.result ≡ length gs = search rules in
    let there : c.at_marker.result.now ≡ at_cut p.steps c.last_cut.result = search rules in
    let many : length c.as_slice.result.now ≡ length p.steps = search rules in
    there ∙ ap (λ n. staged (at_marker (cut_at n gs))) last ∙ ap (λ n. staged (at_marker n)) (cut_last p c.requires.prepared ∙ sym many)

pub clean-requires-clause-can : goal.clean-requires-clause-can
clean-requires-clause-can g c tells =
    let T = g.T.Tree in
    let p = c.args.prepared.now in
    let now = T.history c.sync.new.tree in
    let same : c.deref.result.now ≡ p.held.items = search rules in
    let many : length c.as_slice.result.now ≡ length p.steps = search rules in
    subst (λ (hs : List Held). CanAll (cleaning_calls hs (length c.as_slice.result.now)) now) (sym same)
    (subst (λ n. CanAll (cleaning_calls p.held.items n) now) (sym many)
    (second_can (finish_calls p.steps p.held.items) (call.Sync ∷ []) (cleaning_calls p.held.items (length p.steps)) refl (T.history c.args.tree.now) now (c.in_ok-sync.ensures.ran tells).0 (c.requires.can tells)))

pub returns-clause-ran : goal.returns-clause-ran
returns-clause-ran g c tells =
    let T = g.T.Tree in
    let p = c.args.prepared.now in
    let mid = T.history c.sync.new.tree in
    let now = T.history c.clean.new.tree in
    let between = T.before_failed c.sync.new.tree in
    let after = T.before_failed c.clean.new.tree in
    let same : c.deref.result.now ≡ p.held.items = search rules in
    let many : length c.as_slice.result.now ≡ length p.steps = search rules in
    let cleaned = subst (λ n. Ran (cleaning_calls p.held.items n) mid now between after c.clean.result) many
    (subst (λ (hs : List Held). Ran (cleaning_calls hs (length c.as_slice.result.now)) mid now between after c.clean.result) same (c.clean.ensures.ran tells)) in
    second_ran (finish_calls p.steps p.held.items) (call.Sync ∷ []) (cleaning_calls p.held.items (length p.steps)) refl (T.history c.args.tree.now) mid now (T.before_failed c.args.tree.now) between after c.clean.result
    (c.in_ok-sync.ensures.ran tells).0 (c.in_ok-sync.ensures.ran tells).1 cleaned
