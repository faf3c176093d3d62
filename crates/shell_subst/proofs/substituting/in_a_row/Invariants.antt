use Rattle.std.proofs.Common.{◌≡◌, take}
use Rattle.std.specs.String.{string_bytes}
use Rattle.shell_subst.specs.Commands.{in_a_row as in_a_row_of}
use Rattle.shell_subst.proofs.substituting.in_a_row.Given as goal

abbrev pub invariant-loop-i : goal.invariant-loop-i
invariant-loop-i l = string_bytes l.row ≡ in_a_row_of (take l.i l.names)
