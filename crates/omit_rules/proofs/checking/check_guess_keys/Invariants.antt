use Rattle.std.proofs.Common.{◌≡◌, flat_map, map, string_bytes}
use Rattle.toml.specs.View.{table_view}
use Rattle.omit_rules.specs.Faults.{unknown_of_guess}
use Rattle.omit_rules.specs.Tables.{keys_of}
use Rattle.omit_rules.proofs.checking.check_guess_keys.Given as goal

abbrev pub invariant-loop-key : goal.invariant-loop-key
invariant-loop-key l = flat_map unknown_of_guess (keys_of (table_view l.table)) ≡ flat_map unknown_of_guess (map string_bytes l.key-iterator)
