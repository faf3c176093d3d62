use Rattle.std.proofs.Common.{◌≡◌, ◌≤◌, ◌++◌, List, ℕ, length, Some}
use Rattle.find_words.specs.Reading.{run_on, start}
use Rattle.find_words.specs.ReaderStates.{state_of}
use Rattle.find_words.proofs.reading.take_words.Given as goal

abbrev pub invariant-loop-word : goal.invariant-loop-word
invariant-loop-word l = (front : List (List ℕ)) × (l.words ≡ front ++ l.rest) × (run_on (Some start) front ≡ Some (state_of l.reader)) × (l.reader.depth ≤ length front)

abbrev pub decreases-loop-word : goal.decreases-loop-word
decreases-loop-word l = length l.rest
