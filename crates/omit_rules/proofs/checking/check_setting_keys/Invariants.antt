use Rattle.std.proofs.Common.{◌≡◌, flat_map, map, string_bytes}
use Rattle.toml.specs.View.{table_view}
use Rattle.omit_rules.specs.Faults.{unknown_setting}
use Rattle.omit_rules.specs.Tables.{keys_of}
use Rattle.omit_rules.proofs.checking.check_setting_keys.Given as goal

abbrev pub invariant-loop-key : goal.invariant-loop-key
invariant-loop-key l = flat_map unknown_setting (keys_of (table_view l.table)) ≡ flat_map unknown_setting (map string_bytes l.key-iterator)
