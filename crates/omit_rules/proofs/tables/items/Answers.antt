use Rattle.std.proofs.Common.{◌∙◌, ap, sym, map}
use Rattle.toml.specs.View.{view}
use Rattle.omit_rules.specs.Tables.{items_of}
use Rattle.omit_rules.proofs.TableLemmas.{items-seen}
use Rattle.omit_rules.proofs.tables.items.Goals as goal

pub returns-in-Some : goal.returns-in-Some
returns-in-Some c =
    ap (map view) c.as_slice.ensures.value ∙ sym (items-seen (map view c.in-Some.array.now.items)) ∙ ap items_of c.in-Some.ensures
