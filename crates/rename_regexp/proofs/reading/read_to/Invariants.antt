use Rattle.std.proofs.Common.{◌≡◌, ◌+◌, length}
use Rattle.std.specs.Str.{chars}
use denote.Text.{Utf8}
use denote.Shadow.{shadow}
use Rattle.rename_regexp.specs.Templates.{template_of, pieces_from}
use Rattle.rename_regexp.proofs.TemplateLemmas.{behind_pieces}
use Rattle.rename_regexp.proofs.reading.read_to.Given as goal

abbrev pub invariant-loop-pieces : goal.invariant-loop-pieces
invariant-loop-pieces l =
    shadow (Utf8 l.rest)
    × (l.at + length l.rest ≡ length l.text)
    × (template_of l.groups l.text ≡ behind_pieces l.pieces.items (pieces_from l.groups l.at (chars l.rest)))

abbrev pub decreases-loop-pieces : goal.decreases-loop-pieces
decreases-loop-pieces l = length l.rest
