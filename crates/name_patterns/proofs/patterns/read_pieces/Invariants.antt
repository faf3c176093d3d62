use Rattle.std.proofs.Common.{◌≡◌, length, ◌++◌}
use Rattle.name_patterns.specs.Patterns.{pieces_of}
use Rattle.name_patterns.specs.PatternReading.{pieces_from}
use Rattle.name_patterns.proofs.patterns.read_pieces.Given as goal

abbrev pub invariant-loop-glyph : goal.invariant-loop-glyph
invariant-loop-glyph l = pieces_of l.glyphs ≡ l.pieces.items ++ pieces_from l.sets_begin 0 l.rest

abbrev pub decreases-loop-glyph : goal.decreases-loop-glyph
decreases-loop-glyph l = length l.rest
