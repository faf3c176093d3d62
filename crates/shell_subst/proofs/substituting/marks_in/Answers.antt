use Rattle.std.proofs.Common.{◌≡◌, ◌||◌, sym, rules}
use Rattle.std.specs.List.{list_any}
use Rattle.shell_subst.specs.Commands.{is_all_names, is_one_name, pieces}
use Rattle.shell_subst.specs.Scan.{token_pieces}
use Rattle.shell_subst.proofs.ScanLemmas.{found-past, or_true, or_false, char-no-all, char-no-one}
use Rattle.shell_subst.proofs.substituting.marks_in.Goals as goal
use Rattle.shell_subst.proofs.substituting.marks_in.Goals.{in-AllNames, in-OneName, in-Char}

pub loop-token-preserved : goal.loop-token-preserved
loop-token-preserved c =
    let old = c.loop-token.marks in
    let all : (old.all_names || list_any is_all_names (token_pieces c.in-Some.token)) ≡ c.match-token.marks.all_names = elim c.match-token.branch [
      | in-AllNames w ↦ rw (w.in-AllNames.is, w.marks-is) (sym (or_true old.all_names))
      | in-OneName w ↦ rw (w.in-OneName.is, w.marks-is) (sym (or_false old.all_names))
      | in-Char w ↦ rw (w.in-Char.is, w.marks-is, char-no-all w.in-Char.field-0) (sym (or_false old.all_names))
    ] in
    let one : (old.one_name || list_any is_one_name (token_pieces c.in-Some.token)) ≡ c.match-token.marks.one_name = elim c.match-token.branch [
      | in-AllNames w ↦ rw (w.in-AllNames.is, w.marks-is) (sym (or_false old.one_name))
      | in-OneName w ↦ rw (w.in-OneName.is, w.marks-is) (sym (or_true old.one_name))
      | in-Char w ↦ rw (w.in-Char.is, w.marks-is, char-no-one w.in-Char.field-0) (sym (or_false old.one_name))
    ] in (
      search rules,
      rw (← all, c.is_blank-after_blank.ensures) (found-past is_all_names (list_any is_all_names (pieces c.args.text.now)) old.all_names c.loop-token.after_blank c.loop-token.rest.now c.in-Some.later.now c.in-Some.token c.loop-token.invariant.1 c.in-Some.ensures),
      rw (← one, c.is_blank-after_blank.ensures) (found-past is_one_name (list_any is_one_name (pieces c.args.text.now)) old.one_name c.loop-token.after_blank c.loop-token.rest.now c.in-Some.later.now c.in-Some.token c.loop-token.invariant.2 c.in-Some.ensures),
    )
