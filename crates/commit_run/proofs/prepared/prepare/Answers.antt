use Rattle.std.proofs.Common.{◌≡◌, All, subst, rules}
use Rattle.std.proofs.lemmas.List.Elements.{recursion_from_All}
use Rattle.commit_journal.specs.declared.version.Version.TheVariants.{Two}
use Rattle.commit_journal.specs.Grammar.{IsJournalOf}
use Rattle.commit_journal.specs.Spelling.{journal_text}
use Rattle.commit_plan.specs.Promises.{HasNames}
use Rattle.commit_plan.proofs.PlanLemmas.{have_names}
use Rattle.commit_run.specs.HeldFrom.{kinds_from}
use Rattle.commit_run.proofs.PreparedLemmas.{counted_result, fits_result, fits_there}
use Rattle.edit_check.specs.StandFor.{changes_in, found_in}
use Rattle.edit_rules.specs.Plans.{victims_of}
use Rattle.edit_words.specs.Edited.{asked_fresh}
use Rattle.edit_words.specs.Rows.{rows}
use Rattle.plan_fits.specs.HeldKinds.{numbered}
use Rattle.plan_fits.specs.Laws.{HasText}
use Rattle.plan_moves.specs.Plan.{IsPlan}
use Rattle.plan_orders.proofs.SpellLemmas.{orders_can_be_spelled}
use Rattle.step_layers.specs.Order.{KeepsOrder}
use Rattle.commit_run.proofs.prepared.prepare.Goals as goal

pub encode-requires : goal.encode-requires
encode-requires c =
    let checked = c.args.checked.now in
    let steps = c.in_ok-planned.field-0.steps in
    let plan : IsPlan (found_in checked) (rows (changes_in checked)) steps = search rules in
    (orders_can_be_spelled checked steps c.in_ok-steps.steps c.what_is_checked.ensures plan c.in_ok-steps.ensures.order).0

pub returns-clause-fits : goal.returns-clause-fits
returns-clause-fits c =
    let checked = c.args.checked.now in
    let sight = found_in checked in
    let rs = rows (changes_in checked) in
    let steps = c.in_ok-planned.field-0.steps in
    let sorted = c.in_ok-steps.steps in
    let fresh = c.in_ok-planned.field-0.fresh.items in
    let can = c.changes_can_be_made_where_it_stands.ensures in
    let plan : IsPlan sight rs steps = search rules in
    let made : c.in_ok-rows.rows.items ≡ rs = search rules in
    let named : All HasNames c.in_ok-rows.rows.items = search rules in
    let texts : All HasText fresh = search rules in
    let asked : fresh ≡ asked_fresh (changes_in checked) = search rules in
    let held : c.in_ok-held.held.items ≡ numbered 0 (kinds_from (victims_of sight rs) rs) = search rules in
    let spelled : IsJournalOf Two sorted c.in_ok-journal.journal = search rules in
    let text : c.in_ok-journal.journal ≡ journal_text Two sorted = search rules in
    fits_result checked c.with_paths.result sorted fresh c.in_ok-held.held.items c.in_ok-journal.journal
    c.with_paths.ensures.steps c.with_paths.ensures.fresh c.with_paths.ensures.held c.with_paths.ensures.journal
    (fits_there checked can.made can.listed c.what_is_checked.ensures steps sorted plan c.in_ok-steps.ensures.order fresh c.in_ok-journal.journal c.in_ok-held.held.items
    asked spelled text held (have_names rs (subst (All HasNames) made named)) (recursion_from_All HasText fresh texts))

pub returns-clause-count : goal.returns-clause-count
returns-clause-count c =
    counted_result c.args.checked.now c.with_paths.result c.in_ok-planned.field-0.steps c.in_ok-steps.steps c.in_ok-planned.ensures.count c.in_ok-steps.ensures.same c.with_paths.ensures.steps
