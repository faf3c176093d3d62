use Rattle.std.proofs.Common.{◌∙◌, ap, sym, flat_map, map, string_bytes}
use Rattle.omit_rules.specs.Faults.{unknown_setting}
use Rattle.omit_rules.proofs.TableLemmas.{keys-seen}
use Rattle.omit_rules.proofs.checking.check_setting_keys.Goals as goal

pub loop-key-init : goal.loop-key-init
loop-key-init c =
    ap (flat_map unknown_setting) (keys-seen c.args.table.now.entries ∙ ap (map string_bytes) (sym (c.into_iter-key-iterator.ensures.into_iter_gives ∙ c.keys-key-items.ensures.rest)))
