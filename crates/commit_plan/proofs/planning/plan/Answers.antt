use Rattle.std.proofs.Common.{◌≡◌, ◌≤◌, ◌++◌, [], All, List, map, length, ap, sym, subst, ◌∙◌, arith, rules}
use Rattle.dired_text.specs.Paths.{Names}
use Rattle.commit_steps.specs.declared.step.Step.TheVariants.{MakeDir}
use Rattle.edit_words.specs.declared.row.Row.{Row}
use Rattle.edit_words.specs.Rows.{rows}
use Rattle.edit_words.specs.WellFormed.{AreAsked, LinesRise, SourcesDiffer}
use Rattle.edit_check.specs.StandFor.{changes_in, found_in}
use Rattle.edit_rules.specs.Plans.{victims_of}
use Rattle.plan_moves.specs.Moves.{Moves, fresh_spots}
use Rattle.plan_moves.specs.Plan.{held_paths, holds, mode_step}
use Rattle.plan_moves.specs.Waiting.{waiting}
use Rattle.commit_plan.specs.Holding.{held_from}
use Rattle.commit_plan.specs.Promises.{HasNames}
use Rattle.commit_plan.proofs.HoldLemmas.{few_held, held_are, steps_are}
use Rattle.commit_plan.proofs.PlanLemmas.{counted, have_names, leads, least}
use Rattle.plan_journals.proofs.Spelled.{spelled}
use Rattle.commit_plan.proofs.planning.plan.Goals as goal

pub add_holds-requires : goal.add_holds-requires
add_holds-requires c =
    let made : c.in_ok-rows.rows.items ≡ rows c.changes-changes.result.now = search rules in
    let few : length c.in_ok-rows.rows.items ≤ 262144 = subst (λ (l : List Row). length l ≤ 262144) (sym made) c.changes-changes.ensures.asked.count in
    let held : c.in_ok-held.held.items ≡ held_from c.victims.result.now c.in_ok-rows.rows.items = search rules in
    let short : length c.in_ok-held.held.items ≡ length (held_from c.victims.result.now c.in_ok-rows.rows.items) = ap (λ (l : List Names). length l) held in
    omega (arith, short, few, few_held c.victims.result.now c.in_ok-rows.rows.items)

pub moves-requires-clause-sources : goal.moves-requires-clause-sources
moves-requires-clause-sources c =
    let made : c.in_ok-rows.rows.items ≡ rows c.changes-changes.result.now = search rules in
    subst (λ (l : List Row). SourcesDiffer l) (sym made) c.changes-changes.ensures.asked.sources

pub returns-clause-plan : goal.returns-clause-plan
returns-clause-plan c =
    let sight = found_in c.args.checked.now in
    let rs = rows (changes_in c.args.checked.now) in
    let made : c.in_ok-rows.rows.items ≡ rs = search rules in
    let lines : LinesRise rs = subst (λ (x : _). LinesRise (rows x)) c.changes-changes.ensures.changes c.changes-changes.ensures.asked.lines in
    let victims : c.victims.result.now ≡ victims_of sight rs = search rules in
    let held : c.in_ok-held.held.items ≡ held_from c.victims.result.now c.in_ok-rows.rows.items = search rules in
    let all : c.in_ok-held.held.items ≡ held_paths sight rs =
    held ∙ (ap (λ (l : List Row). held_from c.victims.result.now l) made ∙ (ap (λ (l : List _). held_from l rs) victims ∙ held_are sight rs lines)) in
    let none : c.new-steps.result.items ≡ [] = search rules in
    let first : c.add_holds.new.steps.items ≡ c.new-steps.result.items ++ holds 0 c.in_ok-held.held.items = search rules in
    let second : c.add_dirs.new.steps.items ≡ c.add_holds.new.steps.items ++ map MakeDir c.missing.result.now = search rules in
    let third : c.add_moves.new.steps.items ≡ c.add_dirs.new.steps.items ++ c.in_ok-moves.field-0.items = search rules in
    let fourth : c.from_vec.result ≡ c.add_moves.new.steps.items ++ map mode_step c.modes.result.now = search rules in
    let run : Moves 0 (fresh_spots 0 c.in_ok-rows.rows.items) (waiting c.in_ok-rows.rows.items) c.in_ok-moves.field-0.items = search rules in
    record {
      dirs = c.missing.result.now;
      moves = c.in_ok-moves.field-0.items;
      modes = c.modes.result.now;
      missing = c.missing.ensures;
      moved = subst (λ (l : List Row). Moves 0 (fresh_spots 0 l) (waiting l) c.in_ok-moves.field-0.items) made run;
      changed = c.modes.ensures;
      steps_are = steps_are _ _ _ _ _ (holds 0 c.in_ok-held.held.items) (map MakeDir c.missing.result.now) c.in_ok-moves.field-0.items (map mode_step c.modes.result.now) none first second third fourth
          ∙ ap (λ (l : List Names). holds 0 l ++ (map MakeDir c.missing.result.now ++ (c.in_ok-moves.field-0.items ++ map mode_step c.modes.result.now))) all;
    }

pub returns-clause-leads : goal.returns-clause-leads
returns-clause-leads c =
    let checked = c.args.checked.now in
    let can = c.changes_can_be_made_where_it_stands.ensures in
    let asked : AreAsked (changes_in checked) = subst AreAsked c.changes-changes.ensures.changes c.changes-changes.ensures.asked in
    let made : c.in_ok-rows.rows.items ≡ rows (changes_in checked) = search rules in
    let named : All HasNames c.in_ok-rows.rows.items = search rules in
    leads checked can.made can.listed asked c.from_vec.result (returns-clause-plan c) (have_names (rows (changes_in checked)) (subst (All HasNames) made named))

pub returns-clause-count : goal.returns-clause-count
returns-clause-count c =
    let checked = c.args.checked.now in
    let can = c.changes_can_be_made_where_it_stands.ensures in
    counted checked can.made can.listed (subst AreAsked c.changes-changes.ensures.changes c.changes-changes.ensures.asked) c.from_vec.result (returns-clause-plan c)

pub returns-clause-least : goal.returns-clause-least
returns-clause-least c =
    let checked = c.args.checked.now in
    let can = c.changes_can_be_made_where_it_stands.ensures in
    least checked can.made can.listed (subst AreAsked c.changes-changes.ensures.changes c.changes-changes.ensures.asked) c.from_vec.result (returns-clause-plan c)

pub returns-clause-spelled : goal.returns-clause-spelled
returns-clause-spelled c = spelled c.args.checked.now c.from_vec.result c.what_is_checked.ensures (returns-clause-plan c)
