use Rattle.std.proofs.Common.{rules, ◌≡◌, ◌∙◌, sym}
use Rattle.std.specs.BTreeMap.{get}
use Rattle.std.specs.Option.{option_map}
use Rattle.std.specs.Ordering.{nat_cmp}
use Rattle.edit_words.specs.declared.fault.CheckFault.TheVariants.{ModeClash}
use Rattle.edit_rules.specs.Claims.{other_mode_line}
use Rattle.edit_words.specs.Found.{sight_in}
use Rattle.edit_words.specs.Sight.{number_at}
use Rattle.edit_rules.proofs.RuleLemmas.{mode_rule}
use Rattle.edit_rules.proofs.rules.mode_clash.Goals as goal

pub returns : goal.returns
returns c =
    let row = c.args.row.now in
    let sight = sight_in c.args.findings.now in
    let mapped : c.map.result ≡ option_map (ModeClash row.line) (other_mode_line (λ n. get nat_cmp c.args.file_modes.now.claims n) (number_at sight row.source) row.mode) = search rules in
    mapped ∙ sym (mode_rule sight c.args.file_modes.now.claims c.args.table.now.rows.items row c.requires.file_modes)
