use Rattle.std.proofs.Common.{IfOk, Result, sym, subst}
use Rattle.commit_plan.specs.Promises.{IsOldTree}
use Rattle.edit_check.specs.declared.checked.Checked.{Checked}
use Rattle.edit_words.specs.declared.fault.CheckFault.{CheckFault}
use Rattle.mem_tree.specs.MemHistory.{history_told}
use Rattle.tree_core.specs.History.{History, current_tree}
use Rattle.commit_cases.proofs.committing.commit_asked.Goals as goal

abbrev IsOldWhereOk : History → Result Checked CheckFault → Type 0
IsOldWhereOk h answer = IfOk answer (λ (k : Checked). IsOldTree k (current_tree h))

pub commit_settled-requires : goal.commit_settled-requires
commit_settled-requires c tells =
    let before = history_told c.check_asked.new.tree in
    let old = subst (IsOldWhereOk before) c.in-Ok.is (c.in_ok-answer.ensures tells) in
    subst (λ (h : History). IsOldTree c.in-Ok.checked (current_tree h)) (sym c.begin.ensures.history) old
