use Rattle.std.proofs.Common.{rules, ◌≡◌, length, map, refl, ap, sym, ◌∙◌}
use Rattle.std.proofs.lemmas.List.{with_items_is}
use Rattle.std.specs.Vec.{with_items}
use Rattle.path_map.specs.Walks.{value_at}
use Rattle.step_layers.specs.declared.layering.Layering.{Layering}
use Rattle.step_layers.specs.Floors.{raised_all, raised_at}
use Rattle.step_layers.proofs.RaiseLemmas.{aboves, raised_all_length, raised_length}
use Rattle.step_layers.proofs.SoundLemmas.{raised_path}
use Rattle.step_layers.proofs.layering.Layering.raise_path.Goals as goal

pub returns : goal.returns
returns c =
    let old = c.args.self.now in
    let path = c.args.path.now in
    let floor = c.args.floor in
    let under_is : c.raise_all.new.floors ≡ raised_all floor (map (value_at old.numbers) (aboves path)) old.under.items = search rules in
    let at_is : c.raise.new.floors ≡ raised_at floor (value_at old.numbers path) old.at.items = search rules in
    let new : Layering = record { numbers = old.numbers; at = with_items old.at c.raise.new.floors; under = with_items old.under c.raise_all.new.floors; layers = old.layers } in
    let under_long = ap length under_is ∙ raised_all_length floor (map (value_at old.numbers) (aboves path)) old.under.items ∙ sym old.under.ok.0 in
    let at_long = ap length at_is ∙ raised_length floor (value_at old.numbers path) old.at.items ∙ sym old.at.ok.0 in
    raised_path old new path floor c.requires.numbered c.requires.has refl refl (with_items_is old.under c.raise_all.new.floors under_long ∙ under_is) (with_items_is old.at c.raise.new.floors at_long ∙ at_is)
