use Rattle.std.proofs.Common.{◌<◌, All, List, length, rules, subst}
use Rattle.std.proofs.lemmas.List.{take_all}
use Rattle.tree_core.specs.declared.changes.Creation.{Creation}
use Rattle.asked_changes.specs.Asking.{IsLawfulFresh}
use Rattle.asked_changes.proofs.AskedLemmas.{all_more}
use Rattle.asked_changes.proofs.asked.are_fresh.Goals as goal

pub loop-creation-preserved : goal.loop-creation-preserved
loop-creation-preserved c =
    let within : c.loop-creation.creation-index < length c.args.creations.now = search rules in
    let here : IsLawfulFresh c.creation-item.result.what = search rules in
    all_more (λ (k : Creation). IsLawfulFresh k.what) c.args.creations.now c.loop-creation.creation-index c.creation-item.result within c.creation-item.is c.loop-creation.invariant here

pub returns : goal.returns
returns c t = subst (λ (ks : List Creation). All (λ (k : Creation). IsLawfulFresh k.what) ks) (take_all c.loop-creation.creation-index c.args.creations.now c.loop-creation-test.false) c.loop-creation.invariant
