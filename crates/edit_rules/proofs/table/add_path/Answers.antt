use Rattle.std.proofs.Common.{rules, ◌≡◌, true, cond, ◌∙◌, ap}
use Rattle.std.specs.BTreeSet.{contains}
use Rattle.dired_text.specs.Paths.{Names, path_cmp}
use Rattle.edit_words.specs.Rows.{is_same_path}
use Rattle.edit_words.proofs.SameLemmas.{path_added}
use Rattle.edit_rules.proofs.table.add_path.Goals as goal

pub returns : goal.returns
returns c p =
    let before = contains path_cmp c.args.paths.now p in
    let key : c.in_ok-copy.field-0 ≡ c.args.path.now = search rules in
    c.in_ok-insert.ensures.updates.0 p ∙ ap (λ (k : Names). cond (is_same_path k p) true before) key ∙ path_added c.args.path.now p before
