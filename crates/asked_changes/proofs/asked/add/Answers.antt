use Rattle.std.proofs.Common.{◌≡◌, ◌∙◌, ap, cond, true, rules}
use Rattle.std.specs.BTreeSet.{contains}
use Rattle.dired_text.specs.Paths.{Names, path_cmp}
use Rattle.edit_words.specs.Rows.{is_same_path}
use Rattle.asked_changes.proofs.AskedLemmas.{still_in, is_in}
use Rattle.asked_changes.proofs.asked.add.Goals as goal

pub returns-clause-kept : goal.returns-clause-kept
returns-clause-kept c p has =
    let before = contains path_cmp c.args.paths.now p in
    let key : c.in_ok-copy.field-0 ≡ c.args.path.now = search rules in
    c.in_ok-insert.ensures.updates.0 p ∙ still_in (is_same_path c.in_ok-copy.field-0 p) before has

pub returns-clause-noted : goal.returns-clause-noted
returns-clause-noted c =
    let p = c.args.path.now in
    let before = contains path_cmp c.args.paths.now p in
    let key : c.in_ok-copy.field-0 ≡ c.args.path.now = search rules in
    c.in_ok-insert.ensures.updates.0 p ∙ ap (λ (k : Names). cond (is_same_path k p) true before) key ∙ is_in p before
