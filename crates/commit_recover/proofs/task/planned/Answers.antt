use Rattle.std.proofs.Common.{◌≤◌, length, List, sym, ◌∙◌, subst}
use Rattle.std.specs.List.{AllByRecursion}
use Rattle.commit_steps.specs.declared.step.Step.{Step}
use Rattle.recovery_calls.specs.Underway.{AreOnce, NamesAmong}
use Rattle.staging_names.specs.declared.entry_name.EntryName.{EntryName}
use Rattle.commit_recover.proofs.WorkLemmas.{among, marker_within, once}
use Rattle.commit_recover.proofs.task.planned.Goals as goal

pub work_of-requires-clause-once : goal.work_of-requires-clause-once
work_of-requires-clause-once c = subst AreOnce (sym c.deref.ensures.value) (once c.args.left c.requires.sorted_out)

pub work_of-requires-clause-among : goal.work_of-requires-clause-among
work_of-requires-clause-among c =
    subst (λ (es : List EntryName). AllByRecursion (NamesAmong es) c.args.left.steps) (sym c.deref.ensures.value) (among c.args.left c.requires.sorted_out)

pub turn_of-requires-clause-within : goal.turn_of-requires-clause-within
turn_of-requires-clause-within c =
    subst (λ (s : List Step). c.args.marker.number ≤ length s) (sym (c.as_slice-in-At.ensures ∙ c.in_ok-work.ensures.steps))
    (marker_within c.args.left c.requires.sorted_out c.args.marker c.requires.standing)

pub forward_way-requires-clause-within : goal.forward_way-requires-clause-within
forward_way-requires-clause-within c =
    subst (λ (s : List Step). c.args.marker.number ≤ length s) (sym (c.as_slice-in-At-2.ensures ∙ c.in_ok-work.ensures.steps))
    (marker_within c.args.left c.requires.sorted_out c.args.marker c.requires.standing)

pub back_way-requires-clause-within : goal.back_way-requires-clause-within
back_way-requires-clause-within c =
    subst (λ (s : List Step). c.args.marker.number ≤ length s) (sym (c.as_slice-in-Back.ensures ∙ c.in_ok-work.ensures.steps))
    (marker_within c.args.left c.requires.sorted_out c.args.marker c.requires.standing)
