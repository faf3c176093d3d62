use Rattle.std.proofs.Common.{◌≡◌, ◌-◌, List, length, ap, ◌∙◌, arith}
use Rattle.commit_steps.specs.declared.step.Step.{Step}
use Rattle.edit_words.specs.declared.counts.Counts.{Counts}
use Rattle.edit_words.specs.Rows.{rows}
use Rattle.drill_tree.specs.Drill.{drill_edits}
use Rattle.plan_moves.specs.Waiting.{knots, waiting}
use Rattle.drill_run.proofs.CountLemmas.{with_counts}
use Rattle.drill_run.proofs.EntryLemmas.{drill_entries_counted}
use Rattle.drill_run.proofs.StepLemmas.{drill_counted}
use Rattle.drill_run.proofs.counting.counts.Goals as goal

pub overflow_sub-result : goal.overflow_sub-result
overflow_sub-result c =
    let t = c.requires.checked in
    let all = drill_counted c.args.groups t.0 c.args.checked.now c.in_ok-plan.plan.steps t.1 t.2 t.3 c.changes_can_be_made_where_it_stands.ensures.counted c.in_ok-plan.ensures.count in
    let steps = c.in_ok-steps.ensures ∙ ap (λ (l : List Step). length l) c.as_slice.ensures in
    let replaced = ap (λ (k : Counts). k.replaced) c.counts-replaced.ensures in
    let sum = all.2 in
    omega (arith, sum, steps, replaced)

pub overflow_sub-result-2 : goal.overflow_sub-result-2
overflow_sub-result-2 c =
    let t = c.requires.checked in
    let all = drill_counted c.args.groups t.0 c.args.checked.now c.in_ok-plan.plan.steps t.1 t.2 t.3 c.changes_can_be_made_where_it_stands.ensures.counted c.in_ok-plan.ensures.count in
    let steps = c.in_ok-steps.ensures ∙ ap (λ (l : List Step). length l) c.as_slice.ensures in
    let replaced = ap (λ (k : Counts). k.replaced) c.counts-replaced.ensures in
    let renamed = ap (λ (k : Counts). k.renamed) c.counts-edits.ensures in
    let sum = all.2 in
    omega (arith, sum, steps, replaced, renamed)

pub returns : goal.returns
returns c t drill stands =
    let changes = c.requires.checked.3 in
    let all = drill_counted c.args.groups t c.args.checked.now c.in_ok-plan.plan.steps drill stands changes c.changes_can_be_made_where_it_stands.ensures.counted c.in_ok-plan.ensures.count in
    let steps = c.in_ok-steps.ensures ∙ ap (λ (l : List Step). length l) c.as_slice.ensures in
    let replaced = ap (λ (k : Counts). k.replaced) c.counts-replaced.ensures in
    let renamed = ap (λ (k : Counts). k.renamed) c.counts-edits.ensures in
    let sum = all.2 in
    with_counts c.args.groups t _ _ _ _ _ _
    (drill_entries_counted c.args.groups t _ drill c.entries_and_cycles-entries.ensures.entries)
    (renamed ∙ ap (λ (k : Counts). k.renamed) all.0)
    c.entries_and_cycles-entries.ensures.cycles
    (replaced ∙ ap (λ (k : Counts). k.replaced) all.0)
    (let left : c.in_ok-steps.steps - c.counts-replaced.result.replaced - c.counts-edits.result.renamed ≡ knots (waiting (rows (drill_edits c.args.groups))) = omega (arith, sum, steps, replaced, renamed) in left)
    (steps ∙ all.1)
