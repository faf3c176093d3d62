use Rattle.std.proofs.Common.{◌≡◌, flat_map, map, drop, take}
use Rattle.toml.specs.View.{view}
use Rattle.omit_rules.specs.Faults.{bad_in_guess}
use Rattle.omit_rules.specs.Values.{guess_of}
use Rattle.omit_rules.proofs.values.read_guesses.Given as goal

abbrev pub invariant-loop-guess : goal.invariant-loop-guess
invariant-loop-guess l =
    (flat_map bad_in_guess (map view l.guesses) ≡ flat_map bad_in_guess (map view (drop l.guess-index l.guesses)))
    × (l.read.items ≡ map guess_of (map view (take l.guess-index l.guesses)))
