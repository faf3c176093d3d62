use Rattle.std.proofs.Common.{◌≡◌, ◌∙◌, List, [], drop, refl, ap, rules, Err}
use Rattle.std.proofs.lemmas.List.{drop_all}
use Rattle.commit_states.specs.Calls.{removals_by}
use Rattle.recovery_calls.specs.declared.work.Entry.{Entry}
use Rattle.recovery_calls.specs.Endings.{gone_in, gone_one}
use Rattle.recovery_calls.specs.Works.{HasPath, names_of}
use Rattle.recovery_calls.proofs.GoneLemmas.{all_at, gone_next, gone_split, may_here, may_next, rest_names}
use Rattle.recovery_calls.proofs.RestLemmas.{ended_first, ran_ended, rest_all, rest_as, rest_none}
use Rattle.tree_core.specs.History.{current_tree}
use Rattle.recovery_calls.proofs.ending.remove_gone.Goals as goal

pub loop-entry-init : goal.loop-entry-init
loop-entry-init g c = let T = g.T.Tree in record {
  rest = λ tells. rest_all (removals_by (gone_in c.args.ending (current_tree (T.history c.args.tree.now)) (names_of c.args.entries.now))) (T.history c.args.tree.now) (T.history c.args.tree.now) refl;
  may = λ tells. c.requires.may tells;
  before = λ tells. refl;
  faults = refl;
}

pub offset_bounds-entries-entry-index : goal.offset_bounds-entries-entry-index
offset_bounds-entries-entry-index g c = search rules

pub remove_if_gone-requires-clause-path : goal.remove_if_gone-requires-clause-path
remove_if_gone-requires-clause-path g c = all_at HasPath c.args.entries.now c.loop-entry.entry-index c.entry-item.result c.loop-entry-test.true c.entry-item.is c.requires.paths

pub remove_if_gone-requires-clause-may : goal.remove_if_gone-requires-clause-may
remove_if_gone-requires-clause-may g c tells = (may_here c.args.ending c.args.entries.now c.loop-entry.entry-index c.entry-item.result c.loop-entry-test.true c.entry-item.is (g.T.Tree.history c.loop-entry.tree) (c.loop-entry.invariant.may tells)).0

pub returns-in_err-remove_if_gone-clause-ran : goal.returns-in_err-remove_if_gone-clause-ran
returns-in_err-remove_if_gone-clause-ran g c tells = let T = g.T.Tree in
    let end = c.args.ending in
    let entries = c.args.entries.now in
    let entry = c.entry-item.result in
    let i = c.loop-entry.entry-index in
    let began = T.history c.args.tree.now in
    let now = T.history c.loop-entry.tree in
    let all = removals_by (gone_in end (current_tree began) (names_of entries)) in
    let new = T.history c.remove_if_gone.new.tree in
    let behind = T.before_failed c.remove_if_gone.new.tree in
    let first = c.in_err-remove_if_gone.field-0.0 in
    let is : c.from_residual.result ≡ Err first = search rules in
    ran_ended all began new (T.before_failed c.args.tree.now) behind c.from_residual.result first is
    (ended_first all began now (removals_by (gone_one end (current_tree now) entry.name)) (removals_by (gone_in end (current_tree now) (rest_names end entries i entry c.loop-entry-test.true c.entry-item.is)))
    (gone_split end entries i entry c.loop-entry-test.true c.entry-item.is now all began (c.loop-entry.invariant.rest tells)) new behind first (c.in_err-remove_if_gone.ensures.ran tells))

pub returns-in_err-remove_if_gone-clause-cause : goal.returns-in_err-remove_if_gone-clause-cause
returns-in_err-remove_if_gone-clause-cause g c = search rules

pub loop-entry-preserved : goal.loop-entry-preserved
loop-entry-preserved g c = let T = g.T.Tree in
    let end = c.args.ending in
    let entries = c.args.entries.now in
    let entry = c.entry-item.result in
    let i = c.loop-entry.entry-index in
    let began = T.history c.args.tree.now in
    let now = T.history c.loop-entry.tree in
    let all = removals_by (gone_in end (current_tree began) (names_of entries)) in
    let new = T.history c.remove_if_gone.new.tree in
    record {
      rest = λ tells. gone_next end entries i entry c.loop-entry-test.true c.entry-item.is now all began (c.loop-entry.invariant.rest tells) c.requires.once new (c.in_ok-remove_if_gone.ensures.ran tells).0;
      may = λ tells. may_next end entries i entry c.loop-entry-test.true c.entry-item.is now c.requires.once new (c.in_ok-remove_if_gone.ensures.ran tells).0 (c.loop-entry.invariant.may tells);
      before = λ tells. (c.in_ok-remove_if_gone.ensures.ran tells).1 ∙ c.loop-entry.invariant.before tells;
      faults = search rules;
    }

pub returns-clause-ran : goal.returns-clause-ran
returns-clause-ran g c tells = let T = g.T.Tree in
    let end = c.args.ending in
    let entries = c.args.entries.now in
    let began = T.history c.args.tree.now in
    let now = T.history c.loop-entry.tree in
    let all = removals_by (gone_in end (current_tree began) (names_of entries)) in
    let none : drop c.loop-entry.entry-index entries ≡ [] = drop_all c.loop-entry.entry-index entries c.loop-entry-test.false in (
      rest_none all began now (rest_as all began now (removals_by (gone_in end (current_tree now) (names_of (drop c.loop-entry.entry-index entries)))) [] (c.loop-entry.invariant.rest tells)
          (ap (λ (l : List Entry). removals_by (gone_in end (current_tree now) (names_of l))) none)),
      c.loop-entry.invariant.before tells,
    )

pub returns-clause-cause : goal.returns-clause-cause
returns-clause-cause g c = search rules
