use Rattle.std.proofs.Common.{◌≡◌, length, ◌++◌}
use Rattle.name_patterns.specs.Patterns.{glyphs_of}
use Rattle.name_patterns.proofs.patterns.glyphs_of.Given as goal

abbrev pub invariant-loop-glyph : goal.invariant-loop-glyph
invariant-loop-glyph l = glyphs_of l.text ≡ l.glyphs.items ++ glyphs_of l.rest

abbrev pub decreases-loop-glyph : goal.decreases-loop-glyph
decreases-loop-glyph l = length l.rest
