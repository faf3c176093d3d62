use Rattle.std.proofs.Common.{◌≡◌, rules, sym, subst, w64, to_z, of_z}
use Rattle.listing_text.specs.declared.line.Line.{Line}
use Rattle.find_listing.specs.Finds.{line_of as line_of_path, IsLineOf}
use Rattle.find_listing.proofs.LineLemmas.{line_is}
use Rattle.find_listing.proofs.looks.line_of.Goals as goal

pub returns-clause-lawful : goal.returns-clause-lawful
returns-clause-lawful c =
    let made : Line = record { kind = c.args.meta.kind; mode = c.args.meta.mode; links = c.args.meta.links; owner = c.args.meta.owner; group = c.args.meta.group; size = c.args.meta.size; minute = to_z w64 (of_z w64 c.minute_of.result); name = c.in_ok-text.field-0; target = c.args.meta.target } in
    let same : made ≡ line_of_path c.args.path.now c.args.meta = search rules in
    subst (λ (line : Line). IsLineOf c.args.path.now line) (sym same) (line_is c.args.path.now c.args.meta c.requires.some c.requires.names c.requires.short c.requires.lawful)
