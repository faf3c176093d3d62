use Rattle.std.proofs.Common.{◌<◌, All, List, length, rules, subst}
use Rattle.std.proofs.lemmas.List.{take_all}
use Rattle.std.proofs.lemmas.List.Elements.{All-more}
use Rattle.edit_words.specs.declared.row.Row.{Row}
use Rattle.commit_plan.specs.Promises.{HasNames}
use Rattle.commit_plan.proofs.planning.read_names.Goals as goal

pub loop-row-preserved : goal.loop-row-preserved
loop-row-preserved c =
    let below : c.loop-row.row-index < length c.args.rows.now = search rules in
    let here : HasNames c.row-item.result = (c.read_path.ensures, c.read_path-in-loop-row.ensures) in
    All-more HasNames c.args.rows.now c.loop-row.row-index c.row-item.result below c.loop-row.invariant (subst HasNames c.row-item.is here)

pub returns : goal.returns
returns c = subst (λ (rs : List Row). All HasNames rs) (take_all c.loop-row.row-index c.args.rows.now c.loop-row-test.false) c.loop-row.invariant
