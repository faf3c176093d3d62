use Rattle.std.proofs.Common.{◌≡◌, ◌++◌, flat_map, take}
use Rattle.std.specs.String.{string_bytes}
use Rattle.rename_regexp.specs.Renames.{piece_at}
use Rattle.rename_regexp.proofs.replacing.push_pieces.Given as goal

abbrev pub invariant-loop-piece : goal.invariant-loop-piece
invariant-loop-piece l = string_bytes l.text ≡ string_bytes l.fn.text ++ flat_map (piece_at l.captures) (take l.piece-index l.pieces)
