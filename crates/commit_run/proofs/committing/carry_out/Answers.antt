use Rattle.std.proofs.Common.{◌≡◌, ◌<◌, List, length, sym, ◌∙◌, ap, subst, rules}
use Rattle.commit_calls.specs.Cuts.{StoppedIn}
use Rattle.commit_run.specs.Begun.{EndsFrom, synced}
use Rattle.commit_run.proofs.GroupLemmas.{has_groups}
use Rattle.commit_run.proofs.StandLemmas.{group_ends, groups_can, later_ends, stage_can, staging_ends, steps_done, way_back_can, way_before_can}
use Rattle.commit_states.specs.Calls.{calls_from, staging_calls}
use Rattle.commit_steps.specs.declared.step.Step.{Step}
use Rattle.step_trees.specs.Groups.{groups}
use Rattle.tree_core.specs.declared.node.Change.{Change}
use Rattle.tree_core.specs.Runs.{CanAll, FailedIn, then_all}
use Rattle.commit_run.proofs.committing.carry_out.Goals as goal

pub stage-staged-requires-clause-can : goal.stage-staged-requires-clause-can
stage-staged-requires-clause-can g c tells =
    let T = g.T.Tree in
    let p = c.args.prepared.now in
    let made : staging_calls p.fresh.items p.journal ≡ staging_calls c.deref.result.now c.as_slice.result.now = search rules in
    subst (λ (cs : List Change). CanAll cs (T.history c.args.tree.now)) made
    (stage_can p c.requires.prepared (T.history c.args.tree.now) (c.requires.begun tells))

pub back_before_groups-requires-clause-can : goal.back_before_groups-requires-clause-can
back_before_groups-requires-clause-can g c tells =
    let T = g.T.Tree in
    let p = c.args.prepared.now in
    let h = T.history c.args.tree.now in
    let last = T.history c.stage-staged.new.tree in
    let before = T.before_failed c.stage-staged.new.tree in
    let first = c.in-Err.first in
    let made : staging_calls c.deref.result.now c.as_slice.result.now ≡ staging_calls p.fresh.items p.journal = search rules in
    let failed = subst (λ (cs : List Change). FailedIn cs h last before first) made (c.in-Err.ensures.ran tells) in
    way_before_can p c.requires.prepared h (c.requires.begun tells) last before first (has_groups p.steps c.requires.some) failed

pub returns-in-Err-clause-ends : goal.returns-in-Err-clause-ends
returns-in-Err-clause-ends g c tells =
    let T = g.T.Tree in
    let p = c.args.prepared.now in
    let h = T.history c.args.tree.now in
    let last = T.history c.stage-staged.new.tree in
    let before = T.before_failed c.stage-staged.new.tree in
    let now = T.history c.back_before_groups.new.tree in
    let after = T.before_failed c.back_before_groups.new.tree in
    let first = c.in-Err.first in
    let made : staging_calls c.deref.result.now c.as_slice.result.now ≡ staging_calls p.fresh.items p.journal = search rules in
    let failed = subst (λ (cs : List Change). FailedIn cs h last before first) made (c.in-Err.ensures.ran tells) in
    subst (EndsFrom p synced h now after) (sym c.ended.ensures.end)
    (staging_ends p c.requires.prepared h now after (g.met.T.Tree.is_sound c.back_before_groups.new.tree tells) last before first c.back_before_groups.result (has_groups p.steps c.requires.some) failed
    (c.back_before_groups.ensures.ran tells))

pub do_groups-requires-clause-can : goal.do_groups-requires-clause-can
do_groups-requires-clause-can g c tells =
    let T = g.T.Tree in
    let p = c.args.prepared.now in
    let h = T.history c.args.tree.now in
    let mid = T.history c.stage-staged.new.tree in
    let made : staging_calls c.deref.result.now c.as_slice.result.now ≡ staging_calls p.fresh.items p.journal = search rules in
    let all : p.steps ≡ c.as_slice-steps.result.now = search rules in
    let staged = (c.in_default.ensures.ran tells).0 ∙ ap (then_all h) made in
    subst (λ (ss : List Step). CanAll (calls_from 0 (groups ss)) mid) all (groups_can p c.requires.prepared h (c.requires.begun tells) mid staged)

pub back_from-requires-clause-can : goal.back_from-requires-clause-can
back_from-requires-clause-can g c tells =
    let T = g.T.Tree in
    let p = c.args.prepared.now in
    let h = T.history c.args.tree.now in
    let mid = T.history c.stage-staged.new.tree in
    let last = T.history c.do_groups.new.tree in
    let before = T.before_failed c.do_groups.new.tree in
    let s = c.in-Err-do_groups.stopped in
    let made : staging_calls c.deref.result.now c.as_slice.result.now ≡ staging_calls p.fresh.items p.journal = search rules in
    let all : c.as_slice-steps.result.now ≡ p.steps = search rules in
    let staged = (c.in_default.ensures.ran tells).0 ∙ ap (then_all h) made in
    let lt : s.group < length (groups p.steps) = search rules in
    let failed = subst (λ (ss : List Step). StoppedIn (groups ss) s mid last before) all (c.in-Err-do_groups.ensures.stopped tells) in
    way_back_can p c.requires.prepared h (c.requires.begun tells) mid staged last before s lt failed

pub returns-in-Err-do_groups-clause-ends : goal.returns-in-Err-do_groups-clause-ends
returns-in-Err-do_groups-clause-ends g c tells =
    let T = g.T.Tree in
    let p = c.args.prepared.now in
    let h = T.history c.args.tree.now in
    let mid = T.history c.stage-staged.new.tree in
    let last = T.history c.do_groups.new.tree in
    let before = T.before_failed c.do_groups.new.tree in
    let now = T.history c.back_from.new.tree in
    let after = T.before_failed c.back_from.new.tree in
    let s = c.in-Err-do_groups.stopped in
    let made : staging_calls c.deref.result.now c.as_slice.result.now ≡ staging_calls p.fresh.items p.journal = search rules in
    let all : c.as_slice-steps.result.now ≡ p.steps = search rules in
    let staged = (c.in_default.ensures.ran tells).0 ∙ ap (then_all h) made in
    let lt : s.group < length (groups p.steps) = search rules in
    let failed = subst (λ (ss : List Step). StoppedIn (groups ss) s mid last before) all (c.in-Err-do_groups.ensures.stopped tells) in
    subst (EndsFrom p synced h now after) (sym c.ended-in-Err-do_groups.ensures.end)
    (group_ends p c.requires.prepared h now after (g.met.T.Tree.is_sound c.back_from.new.tree tells) mid staged last before s c.back_from.result lt failed (c.back_from.ensures.ran tells))

pub seal_and_clean-requires-clause-begun : goal.seal_and_clean-requires-clause-begun
seal_and_clean-requires-clause-begun g c tells =
    let T = g.T.Tree in
    let p = c.args.prepared.now in
    let h = T.history c.args.tree.now in
    let mid = T.history c.stage-staged.new.tree in
    let now = T.history c.do_groups.new.tree in
    let made : staging_calls c.deref.result.now c.as_slice.result.now ≡ staging_calls p.fresh.items p.journal = search rules in
    let all : c.as_slice-steps.result.now ≡ p.steps = search rules in
    let staged = (c.in_default.ensures.ran tells).0 ∙ ap (then_all h) made in
    let done = (c.in_default-do_groups.ensures.done tells).0 ∙ ap (λ (ss : List Step). then_all mid (calls_from 0 (groups ss))) all in
    steps_done p c.requires.prepared h (c.requires.begun tells) mid staged now done

pub returns-clause-ends : goal.returns-clause-ends
returns-clause-ends g c tells =
    let T = g.T.Tree in
    let p = c.args.prepared.now in
    let h = T.history c.args.tree.now in
    let mid = T.history c.stage-staged.new.tree in
    let last = T.history c.do_groups.new.tree in
    let now = T.history c.seal_and_clean.new.tree in
    let after = T.before_failed c.seal_and_clean.new.tree in
    let made : staging_calls c.deref.result.now c.as_slice.result.now ≡ staging_calls p.fresh.items p.journal = search rules in
    let all : c.as_slice-steps.result.now ≡ p.steps = search rules in
    let staged = (c.in_default.ensures.ran tells).0 ∙ ap (then_all h) made in
    let done = (c.in_default-do_groups.ensures.done tells).0 ∙ ap (λ (ss : List Step). then_all mid (calls_from 0 (groups ss))) all in
    later_ends p c.requires.prepared h now after (g.met.T.Tree.is_sound c.seal_and_clean.new.tree tells) mid staged last c.seal_and_clean.result done (c.seal_and_clean.ensures.ends tells)
