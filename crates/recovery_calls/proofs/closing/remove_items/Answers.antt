use Rattle.std.proofs.Common.{◌≡◌, ◌+◌, ◌∙◌, List, [], ◌∷◌, drop, refl, sym, ap, rules, Err}
use Rattle.std.proofs.lemmas.List.{drop_all}
use Rattle.commit_calls.proofs.RunLemmas.{ran_failed}
use Rattle.commit_states.specs.Calls.{removal_by}
use Rattle.recovery_calls.specs.declared.closing.Item.{Item}
use Rattle.recovery_calls.specs.Closing.{item_calls}
use Rattle.recovery_calls.proofs.ClosingLemmas.{item_left}
use Rattle.tree_core.specs.Runs.{then_all}
use Rattle.tree_core.proofs.Runs.{left_all, left_can, left_failed, left_next}
use Rattle.recovery_calls.proofs.closing.remove_items.Goals as goal

pub loop-item-init : goal.loop-item-init
loop-item-init g c = let T = g.T.Tree in record {
  left = λ tells. left_all (item_calls c.args.items.now) (T.history c.args.tree.now) (c.requires.can tells);
  before = λ tells. refl;
  faults = refl;
}

pub offset_bounds-items-item-index : goal.offset_bounds-items-item-index
offset_bounds-items-item-index g c = search rules

pub remove_item-requires : goal.remove_item-requires
remove_item-requires g c = record {
  can = λ tells.
      let T = g.T.Tree in
      let all = item_calls c.args.items.now in
      let began = T.history c.args.tree.now in
      let now = T.history c.loop-item.tree in
      let item = c.item-item.result in
      let more = item_calls (drop (c.loop-item.item-index + 1) c.args.items.now) in
      let left = item_left all began now c.loop-item.item-index c.args.items.now item c.loop-item-test.true c.item-item.is (c.loop-item.invariant.left tells) in
      (left_can all began now (removal_by item.is_dir item.path ∷ []) more left).0;
}

pub returns-in_err-remove_item-clause-ran : goal.returns-in_err-remove_item-clause-ran
returns-in_err-remove_item-clause-ran g c tells = let T = g.T.Tree in
    let all = item_calls c.args.items.now in
    let began = T.history c.args.tree.now in
    let now = T.history c.loop-item.tree in
    let item = c.item-item.result in
    let more = item_calls (drop (c.loop-item.item-index + 1) c.args.items.now) in
    let left = item_left all began now c.loop-item.item-index c.args.items.now item c.loop-item-test.true c.item-item.is (c.loop-item.invariant.left tells) in
    let new = T.history c.remove_item.new.tree in
    let behind = T.before_failed c.remove_item.new.tree in
    let e = c.in_err-remove_item.field-0.0 in
    let is : c.from_residual.result ≡ Err e = search rules in
    ran_failed all began new (T.before_failed c.args.tree.now) behind c.from_residual.result e is (left_failed all began now new behind e (removal_by item.is_dir item.path ∷ []) more left (c.in_err-remove_item.ensures.ran tells))

pub returns-in_err-remove_item-clause-cause : goal.returns-in_err-remove_item-clause-cause
returns-in_err-remove_item-clause-cause g c = search rules

pub loop-item-preserved : goal.loop-item-preserved
loop-item-preserved g c = record {
  left = λ tells.
      let T = g.T.Tree in
      let all = item_calls c.args.items.now in
      let began = T.history c.args.tree.now in
      let now = T.history c.loop-item.tree in
      let item = c.item-item.result in
      let more = item_calls (drop (c.loop-item.item-index + 1) c.args.items.now) in
      let left = item_left all began now c.loop-item.item-index c.args.items.now item c.loop-item-test.true c.item-item.is (c.loop-item.invariant.left tells) in
      left_next all began now (T.history c.remove_item.new.tree) (removal_by item.is_dir item.path ∷ []) more left (c.in_ok-remove_item.ensures.ran tells).0;
  before = λ tells. (c.in_ok-remove_item.ensures.ran tells).1 ∙ c.loop-item.invariant.before tells;
  faults = search rules;
}

pub returns-clause-ran : goal.returns-clause-ran
returns-clause-ran g c tells = let left = c.loop-item.invariant.left tells in
    let none : drop c.loop-item.item-index c.args.items.now ≡ [] = drop_all c.loop-item.item-index c.args.items.now c.loop-item-test.false in
    (sym (left.ends ∙ ap (λ (l : List Item). then_all (g.T.Tree.history c.loop-item.tree) (item_calls l)) none), c.loop-item.invariant.before tells)

pub returns-clause-cause : goal.returns-clause-cause
returns-clause-cause g c = search rules
