use Rattle.std.proofs.Common.{rules, ◌≡◌, ◌⊎◌, List, None, Some, ap, ◌∙◌, subst}
use Rattle.std.proofs.lemmas.Result.{err_from_is_err_and}
use Rattle.tree_core.specs.FileTree.{IsTree}
use Rattle.tree_core.specs.History.{current_tree}
use Rattle.edit_check.specs.Checks.{IsAnswer}
use Rattle.edit_check.specs.declared.checked.Checked.{Checked}
use Rattle.edit_words.specs.declared.fault.CheckFault.TheVariants as fault
use Rattle.edit_words.specs.declared.row.Row.{Row}
use Rattle.edit_words.specs.Counting.{counts_of}
use Rattle.edit_words.specs.Found.{HasFindings, IsCovered, IsFreeOr, failed_call, sight_in}
use Rattle.edit_words.specs.Refusals.{refusal}
use Rattle.edit_words.specs.Rows.{rows}
use Rattle.edit_words.specs.Sight.{sight_of}
use Rattle.edit_words.specs.WellFormed.{CanBeMade}
use Rattle.edit_check.proofs.CheckLemmas.{answered, end_answered, err_map, faults_by, free, looked_by, looks_by, made, names_none, ok_map}
use Rattle.edit_check.proofs.SameSight.{counts_seen, refusal_seen}
use Rattle.edit_check.proofs.verdict.check.Goals as goal

pub returns-clause-taken : goal.returns-clause-taken
returns-clause-taken g c tells =
    let t = current_tree (g.T.Tree.history c.args.tree.now) in
    let findings = c.in_ok-findings.findings in
    let listed = c.in_ok-table.table.rows.items in
    let rows_are : listed ≡ rows c.args.changes = search rules in
    let covered : IsCovered findings listed = search rules in
    let has : HasFindings findings (sight_of t) = c.in_ok-findings.ensures.found tells in
    let tree : IsTree t = (g.met.T.Tree.is_sound c.args.tree.now tells).tree in
    ok_map c.decide.result (λ _. refusal (sight_in findings) c.args.confirmed.now listed ≡ None) (λ _. CanBeMade t c.args.confirmed.now (rows c.args.changes))
    (λ _ none. subst (λ (rs : List Row). CanBeMade t c.args.confirmed.now rs) rows_are (made findings t c.args.confirmed.now listed tree has covered none))
    c.decide.ensures.taken

pub returns-clause-refused : goal.returns-clause-refused
returns-clause-refused g c tells =
    let t = current_tree (g.T.Tree.history c.args.tree.now) in
    let findings = c.in_ok-findings.findings in
    let listed = c.in_ok-table.table.rows.items in
    let rows_are : listed ≡ rows c.args.changes = search rules in
    let covered : IsCovered findings listed = search rules in
    let has : HasFindings findings (sight_of t) = c.in_ok-findings.ensures.found tells in
    err_map c.decide.result (λ f. (f ≡ fault.Memory) ⊎ (refusal (sight_in findings) c.args.confirmed.now listed ≡ Some f)) (λ f. IsFreeOr f (refusal (sight_of t) c.args.confirmed.now (rows c.args.changes)))
    (λ f cause. free f _ _ (refusal_seen findings (sight_of t) c.args.confirmed.now listed has covered ∙ ap (refusal (sight_of t) c.args.confirmed.now) rows_are) cause)
    c.decide.ensures.refused

pub returns-clause-counts : goal.returns-clause-counts
returns-clause-counts g c tells =
    let t = current_tree (g.T.Tree.history c.args.tree.now) in
    let findings = c.in_ok-findings.findings in
    let listed = c.in_ok-table.table.rows.items in
    let rows_are : listed ≡ rows c.args.changes = search rules in
    let covered : IsCovered findings listed = search rules in
    let has : HasFindings findings (sight_of t) = c.in_ok-findings.ensures.found tells in
    ok_map c.decide.result (λ (k : Checked). k.counts ≡ counts_of (sight_in findings) listed) (λ (k : Checked). k.counts ≡ counts_of (sight_of t) (rows c.args.changes))
    (λ k counted. counted ∙ counts_seen findings (sight_of t) listed has covered ∙ ap (counts_of (sight_of t)) rows_are)
    c.decide.ensures.counts

pub returns-clause-looked : goal.returns-clause-looked
returns-clause-looked g c tells =
    let findings = c.in_ok-findings.findings in
    let listed = c.in_ok-table.table.rows.items in
    looked_by c.decide.result (c.in_ok-findings.ensures.looked tells)
    (err_map c.decide.result (λ f. (f ≡ fault.Memory) ⊎ (refusal (sight_in findings) c.args.confirmed.now listed ≡ Some f)) (λ f. failed_call f ≡ None) (names_none (sight_in findings) c.args.confirmed.now listed) c.decide.ensures.refused)

pub returns-clause-faults : goal.returns-clause-faults
returns-clause-faults g c =
    let findings = c.in_ok-findings.findings in
    let listed = c.in_ok-table.table.rows.items in
    faults_by c.decide.result (g.T.Tree.faults c.args.tree.now) (g.T.Tree.faults c.look_for_rows.new.tree) c.in_ok-findings.ensures.faults
    (err_map c.decide.result (λ f. (f ≡ fault.Memory) ⊎ (refusal (sight_in findings) c.args.confirmed.now listed ≡ Some f)) (λ f. failed_call f ≡ None) (names_none (sight_in findings) c.args.confirmed.now listed) c.decide.ensures.refused)

pub returns-clause-looks : goal.returns-clause-looks
returns-clause-looks g c =
    let findings = c.in_ok-findings.findings in
    let listed = c.in_ok-table.table.rows.items in
    looks_by c.decide.result
    (err_map c.decide.result (λ f. (f ≡ fault.Memory) ⊎ (refusal (sight_in findings) c.args.confirmed.now listed ≡ Some f)) (λ f. failed_call f ≡ None) (names_none (sight_in findings) c.args.confirmed.now listed) c.decide.ensures.refused)

pub returns-clause-answer : goal.returns-clause-answer
returns-clause-answer g c =
    let findings = c.in_ok-findings.findings in
    let listed = c.in_ok-table.table.rows.items in
    let rows_are : listed ≡ rows c.args.changes = search rules in
    err_map c.decide.result (λ f. (f ≡ fault.Memory) ⊎ (refusal (sight_in findings) c.args.confirmed.now listed ≡ Some f)) (IsAnswer c.args.confirmed.now (rows c.args.changes))
    (λ f cause. answered (sight_in findings) c.args.confirmed.now listed (rows c.args.changes) f rows_are cause)
    c.decide.ensures.refused

pub returns-in_err-findings-clause-answer : goal.returns-in_err-findings-clause-answer
returns-in_err-findings-clause-answer g c =
    let rows_are : c.deref.result.now ≡ rows c.args.changes = search rules in
    let e = c.in_err-findings.field-0.0 in
    let p = err_from_is_err_and c.from_residual-in_err-findings.result c.from_residual-in_err-findings.ensures.1 in
    rw (p.1, p.2) (subst (λ (rs : List Row). IsAnswer c.args.confirmed.now rs e) rows_are (end_answered c.args.confirmed.now c.deref.result.now e c.in_err-findings.ensures.end))
