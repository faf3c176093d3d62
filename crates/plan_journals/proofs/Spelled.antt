-- A journal takes the steps of each plan of checked changes.
use Rattle.std.proofs.Common.{List, ◌++◌, map, sym, subst, arith}
use Rattle.std.specs.List.{AllByRecursion}
use Rattle.commit_steps.specs.declared.step.Step.{Step}
use Rattle.commit_steps.specs.declared.step.Step.TheVariants.{MakeDir}
use Rattle.commit_steps.specs.Steps.{IsLawfulStep}
use Rattle.commit_journal.specs.Spelling.{CanEncode}
use Rattle.edit_check.specs.declared.checked.Checked.{Checked}
use Rattle.edit_check.specs.StandFor.{IsChecked, changes_in, confirmed_in, found_in}
use Rattle.edit_words.specs.declared.row.Row.{Row}
use Rattle.edit_words.specs.Rows.{rows}
use Rattle.edit_words.specs.Sight.{Sight}
use Rattle.plan_moves.specs.Plan.{IsPlan, held_paths, holds, mode_step}
use Rattle.plan_journals.proofs.Told.{IsTold, told}
use Rattle.plan_journals.proofs.Fits.{fits}
use Rattle.plan_journals.proofs.PlanCosts.{few_held}
use Rattle.plan_journals.proofs.Taken.{AreTaken, are_taken}
use Rattle.plan_journals.proofs.StepPaths.{all-append}
use Rattle.plan_journals.proofs.SpelledSteps.{holds_spelled, dirs_spelled, modes_spelled}
use Rattle.plan_journals.proofs.MovesSpelled.{moves_spelled}

steps_spelled : (sight : Sight) (rs : List Row) (steps : List Step) → AreTaken sight rs → IsTold sight rs → IsPlan sight rs steps → AllByRecursion IsLawfulStep steps
steps_spelled sight rs steps set told plan =
    let few = set.few in
    let held_few = few_held sight rs rs in
    let held = holds_spelled sight rs set 0 (held_paths sight rs) (omega arith) (λ p c. c) in
    let made = dirs_spelled sight rs set told plan.dirs plan.missing in
    let moved = moves_spelled sight rs set plan.moves plan.moved in
    let changed = modes_spelled sight rs set told plan.modes plan.changed in
    subst (AllByRecursion IsLawfulStep) (sym plan.steps_are)
    (all-append IsLawfulStep (holds 0 (held_paths sight rs)) (map MakeDir plan.dirs ++ (plan.moves ++ map mode_step plan.modes)) held
    (all-append IsLawfulStep (map MakeDir plan.dirs) (plan.moves ++ map mode_step plan.modes) made
    (all-append IsLawfulStep plan.moves (map mode_step plan.modes) moved changed)))

pub spelled : (checked : Checked) (steps : List Step) → IsChecked checked → IsPlan (found_in checked) (rows (changes_in checked)) steps → CanEncode steps
spelled checked steps is plan =
    let set = are_taken (found_in checked) (confirmed_in checked) (changes_in checked) is.asked is.taken is.above in
    let fit = fits (found_in checked) (confirmed_in checked) (changes_in checked) steps is.asked is.taken plan in
    record { lawful = steps_spelled (found_in checked) (rows (changes_in checked)) steps set (told checked is set) plan; few = fit.few; within = fit.within }
