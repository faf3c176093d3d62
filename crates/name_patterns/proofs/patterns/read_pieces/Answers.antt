use Rattle.std.proofs.Common.{◌∙◌, rules}
use Rattle.name_patterns.proofs.BracketLemmas.{plain_rule}
use Rattle.name_patterns.proofs.PatternLemmas.{one_more}
use Rattle.name_patterns.proofs.patterns.read_pieces.Goals as goal

pub loop-glyph-preserved : goal.loop-glyph-preserved
loop-glyph-preserved c =
    one_more _ c.loop-glyph.pieces.items c.loop-glyph.sets_begin c.in-Some.glyph.now c.in-Some.later.now c.loop-glyph.rest.now c.in_ok-piece.piece c.in_ok-piece.taken c.loop-glyph.invariant c.in-Some.ensures.cases.0 c.in_ok-piece.ensures.piece
    ∙ cc (c.in_ok-push.ensures.items, c.behind-rest.ensures, c.sets_behind-sets_begin.ensures)

pub loop-glyph-init : goal.loop-glyph-init
loop-glyph-init c = let plain = plain_rule c.args.glyphs.now in search (rules, plain)
