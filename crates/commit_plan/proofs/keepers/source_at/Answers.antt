use Rattle.std.proofs.Common.{◌≡◌, Some, None, true, false, refl, sym, ◌∙◌, ap, rules, subst}
use Rattle.std.specs.List.{slice_get}
use Rattle.std.specs.BTreeMap.{get}
use Rattle.std.proofs.lemmas.Option.{same_Some, slice_get_read, slice_get_within}
use Rattle.dired_text.specs.Paths.{path_cmp}
use Rattle.commit_plan.specs.declared.changes.Change.{Change}
use Rattle.commit_plan.specs.Stands.{waits_at_source}
use Rattle.commit_plan.proofs.KeeperLemmas.{at_source_keeps}
use Rattle.commit_plan.proofs.keepers.source_at.Goals as goal

pub offset_bounds-changes-i : goal.offset_bounds-changes-i
offset_bounds-changes-i c =
    let found : get path_cmp c.args.keepers.now c.args.path.now ≡ Some c.in-Some.i.now = search rules in
    let keeper = (c.requires c.args.path.now c.in-Some.i.now).0 found in
    let within = slice_get_within c.args.changes.now c.in-Some.i.now keeper.0 keeper.1 in
    search (rules, within)

pub bounds-changes-i : goal.bounds-changes-i
bounds-changes-i c =
    let found : get path_cmp c.args.keepers.now c.args.path.now ≡ Some c.in-Some.i.now = search rules in
    let keeper = (c.requires c.args.path.now c.in-Some.i.now).0 found in
    slice_get_within c.args.changes.now c.in-Some.i.now keeper.0 keeper.1

pub returns-in-Some-clause-some : goal.returns-in-Some-clause-some
returns-in-Some-clause-some c =
    let cs = c.args.changes.now in
    let i = c.in-Some.i.now in
    let x = c.index-changes-i.result in
    let found : get path_cmp c.args.keepers.now c.args.path.now ≡ Some i = search rules in
    let keeper = (c.requires c.args.path.now i).0 found in
    let here : slice_get cs i ≡ Some x = slice_get_read cs _ i x refl (slice_get_within cs i keeper.0 keeper.1) c.index-changes-i.is in
    let same : keeper.0 ≡ x = same_Some _ _ (sym keeper.1 ∙ here) in
    let at : waits_at_source x.stand ≡ true = search rules in
    (x, here, at, subst (λ (y : Change). y.row.source ≡ Some c.args.path.now) same keeper.3)

pub returns-in_default-clause-none : goal.returns-in_default-clause-none
returns-in_default-clause-none c = λ k there.
    let cs = c.args.changes.now in
    let i = c.in-Some.i.now in
    let x = c.index-changes-i.result in
    let found : get path_cmp c.args.keepers.now c.args.path.now ≡ Some i = search rules in
    let keeper = (c.requires c.args.path.now i).0 found in
    let here : slice_get cs i ≡ Some x = slice_get_read cs _ i x refl (slice_get_within cs i keeper.0 keeper.1) c.index-changes-i.is in
    let not : waits_at_source x.stand ≡ false = search rules in
    let own : get path_cmp c.args.keepers.now c.args.path.now ≡ Some k = (c.requires c.args.path.now k).1 (at_source_keeps cs k c.args.path.now there) in
    let same : i ≡ k = same_Some _ _ (sym found ∙ own) in
    let is : x ≡ there.0 = same_Some _ _ (sym here ∙ (ap (slice_get cs) same ∙ there.1)) in
    let both : false ≡ true = sym not ∙ (ap (λ (y : Change). waits_at_source y.stand) is ∙ there.2) in
    absurd cc

pub returns-in_default-2-clause-none : goal.returns-in_default-2-clause-none
returns-in_default-2-clause-none c = λ k there.
    let none : get path_cmp c.args.keepers.now c.args.path.now ≡ None = search rules in
    let own : get path_cmp c.args.keepers.now c.args.path.now ≡ Some k = (c.requires c.args.path.now k).1 (at_source_keeps c.args.changes.now k c.args.path.now there) in
    let both : None ≡ Some k = sym none ∙ own in
    absurd cc
