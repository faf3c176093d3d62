use Rattle.std.proofs.Common.{ap, sym, ◌∙◌, Some, option_map}
use Rattle.regex.specs.Strings.{match_span}
use Rattle.rename_regexp.specs.Renames.{replaced_at, with_replaced}
use Rattle.rename_regexp.proofs.RenameLemmas.{renamed-at}
use Rattle.rename_regexp.proofs.replacing.Renamer.renamed.Goals as goal

pub returns-in_ok-text-in-Some-clause-renamed : goal.returns-in_ok-text-in-Some-clause-renamed
returns-in_ok-text-in-Some-clause-renamed c =
    let name = c.args.name.now in
    let template = c.args.self.now.template.now in
    let captures = c.in-Some.captures in
    let whole = match_span c.get_match-whole.result in
    let found = c.in-Some.ensures.found in
    ap Some (
    c.in_ok-text-in-Some.ensures
    ∙ ap (replaced_at name whole captures) c.pieces.ensures
    ∙ renamed-at name found.0 captures template whole found.2 c.get_match-whole.ensures.found
    )
    ∙ sym (ap (option_map (with_replaced name template)) found.1)
