use Rattle.std.proofs.Common.{◌≡◌, length}
use Rattle.find_words.specs.Reading.{complete}
use Rattle.find_words.proofs.building.Builder.complete.Given as goal

abbrev pub invariant-loop-operation : goal.invariant-loop-operation
invariant-loop-operation l = complete l.fn.self.0 l.fn.self.1 ≡ complete l.self.0 l.self.1

abbrev pub decreases-loop-operation : goal.decreases-loop-operation
decreases-loop-operation l = length l.self.1
