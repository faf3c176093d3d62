use Rattle.std.proofs.Common.{rules, ◌≡◌, ◌∙◌}
use Rattle.edit_words.specs.Rows.{last_name}
use Rattle.edit_words.proofs.SameLemmas.{last_at}
use Rattle.edit_rules.proofs.table.route.Goals as goal

pub returns-in_ok-copy-in-len1-up : goal.returns-in_ok-copy-in-len1-up
returns-in_ok-copy-in-len1-up c =
    let name : c.name-item.result ≡ last_name c.names.result.now = c.name-item.is ∙ last_at c.names.result.now c.name-item.result c.in-len1-up.len_at_least in
    search (rules, name)
