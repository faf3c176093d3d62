use Rattle.std.proofs.Common.{◌<◌, All, List, length, rules, subst}
use Rattle.std.proofs.lemmas.List.{take_all}
use Rattle.tree_core.specs.declared.edit.Edit.{Edit}
use Rattle.edit_words.specs.WellFormed.{IsEdit}
use Rattle.asked_changes.proofs.AskedLemmas.{all_more}
use Rattle.asked_changes.proofs.asked.are_edits.Goals as goal

pub loop-edit-preserved : goal.loop-edit-preserved
loop-edit-preserved c =
    let within : c.loop-edit.edit-index < length c.args.edits.now = search rules in
    let here : IsEdit c.edit-item.result = search rules in
    all_more IsEdit c.args.edits.now c.loop-edit.edit-index c.edit-item.result within c.edit-item.is c.loop-edit.invariant here

pub returns : goal.returns
returns c t = subst (λ (es : List Edit). All IsEdit es) (take_all c.loop-edit.edit-index c.args.edits.now c.loop-edit-test.false) c.loop-edit.invariant
