use Rattle.recovery_calls.proofs.ClosingLemmas.{closes_as}
use Rattle.tree_core.specs.declared.node.Change.{Change}
use Rattle.tree_core.specs.Runs.{Ran}
use Rattle.std.proofs.Common.{◌≡◌, List, refl, subst, rules, Err}
use Rattle.commit_calls.proofs.RunLemmas.{first_can, first_failed, second_can, second_ran}
use Rattle.recovery_calls.specs.Closing.{closed_calls, item_calls, last_calls}
use Rattle.recovery_calls.proofs.closing.close.Goals as goal

pub remove_items-requires : goal.remove_items-requires
remove_items-requires g c = record {
  can = λ tells.
      let T = g.T.Tree in
      let cs = item_calls c.args.items.now in
      let ds = last_calls c.args.journal.now c.args.directory.now in
      let all = closed_calls c.args.items.now c.args.journal.now c.args.directory.now in
      let old = T.history c.args.tree.now in
      first_can all cs ds refl old (c.requires.can tells);
}

pub returns-in_err-remove_items-clause-ran : goal.returns-in_err-remove_items-clause-ran
returns-in_err-remove_items-clause-ran g c tells = let T = g.T.Tree in
    let cs = item_calls c.args.items.now in
    let ds = last_calls c.args.journal.now c.args.directory.now in
    let all = closed_calls c.args.items.now c.args.journal.now c.args.directory.now in
    let old = T.history c.args.tree.now in
    let new = T.history c.remove_items.new.tree in
    let e = c.in_err-remove_items.field-0.0 in
    let is : c.from_residual.result ≡ Err e = search rules in
    first_failed all cs ds refl old new (T.before_failed c.args.tree.now) (T.before_failed c.remove_items.new.tree) c.from_residual.result e is (c.in_err-remove_items.ensures.ran tells)

pub remove_last-requires : goal.remove_last-requires
remove_last-requires g c = record {
  can = λ tells.
      let T = g.T.Tree in
      let cs = item_calls c.args.items.now in
      let ds = last_calls c.args.journal.now c.args.directory.now in
      let all = closed_calls c.args.items.now c.args.journal.now c.args.directory.now in
      let old = T.history c.args.tree.now in
      second_can all cs ds refl old (T.history c.remove_items.new.tree) (c.in_ok-remove_items.ensures.ran tells).0 (c.requires.can tells);
}

pub returns-clause-ran : goal.returns-clause-ran
returns-clause-ran g c tells = let T = g.T.Tree in
    let cs = item_calls c.args.items.now in
    let ds = last_calls c.args.journal.now c.args.directory.now in
    let all = closed_calls c.args.items.now c.args.journal.now c.args.directory.now in
    let old = T.history c.args.tree.now in
    let mid = T.history c.remove_items.new.tree in
    let ran = c.in_ok-remove_items.ensures.ran tells in
    second_ran all cs ds refl old mid (T.history c.remove_last.new.tree) (T.before_failed c.args.tree.now) (T.before_failed c.remove_items.new.tree) (T.before_failed c.remove_last.new.tree) c.remove_last.result ran.0 ran.1 (c.remove_last.ensures.ran tells)

pub returns-in_err-remove_items-clause-course : goal.returns-in_err-remove_items-clause-course
returns-in_err-remove_items-clause-course g c tells name xs those = let T = g.T.Tree in
    subst (λ (cs : List Change). Ran cs (T.history c.args.tree.now) (T.history c.remove_items.new.tree) (T.before_failed c.args.tree.now) (T.before_failed c.remove_items.new.tree) c.from_residual.result)
    (closes_as xs name c.args.items.now c.args.journal.now c.args.directory.now those) (returns-in_err-remove_items-clause-ran g c tells)

pub returns-clause-course : goal.returns-clause-course
returns-clause-course g c tells name xs those = let T = g.T.Tree in
    subst (λ (cs : List Change). Ran cs (T.history c.args.tree.now) (T.history c.remove_last.new.tree) (T.before_failed c.args.tree.now) (T.before_failed c.remove_last.new.tree) c.remove_last.result)
    (closes_as xs name c.args.items.now c.args.journal.now c.args.directory.now those) (returns-clause-ran g c tells)
