use Rattle.std.proofs.Common.{◌≡◌, take}
use Rattle.edit_words.specs.Place.{ancestors}
use Rattle.edit_words.proofs.above.ancestors.Given as goal

abbrev pub invariant-loop-len : goal.invariant-loop-len
invariant-loop-len l = l.found.items ≡ take l.len (ancestors l.path)
