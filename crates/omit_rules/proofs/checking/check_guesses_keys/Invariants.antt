use Rattle.std.proofs.Common.{◌≡◌, flat_map, map, drop}
use Rattle.toml.specs.View.{view}
use Rattle.omit_rules.specs.Faults.{unknown_in_guess}
use Rattle.omit_rules.proofs.checking.check_guesses_keys.Given as goal

abbrev pub invariant-loop-guess : goal.invariant-loop-guess
invariant-loop-guess l = flat_map unknown_in_guess (map view l.guesses) ≡ flat_map unknown_in_guess (map view (drop l.guess-index l.guesses))
