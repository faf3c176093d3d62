use Rattle.std.proofs.Common.{◌≡◌, ◌||◌, length}
use Rattle.std.specs.List.{list_any}
use denote.Text.{Utf8}
use denote.Shadow.{shadow}
use Rattle.shell_subst.specs.Commands.{is_all_names, is_one_name, pieces, pieces_from}
use Rattle.shell_subst.proofs.substituting.marks_in.Given as goal

abbrev pub invariant-loop-token : goal.invariant-loop-token
invariant-loop-token l =
    shadow (Utf8 l.rest)
    × (list_any is_all_names (pieces l.text) ≡ (l.marks.all_names || list_any is_all_names (pieces_from l.after_blank 0 l.rest)))
    × (list_any is_one_name (pieces l.text) ≡ (l.marks.one_name || list_any is_one_name (pieces_from l.after_blank 0 l.rest)))

abbrev pub decreases-loop-token : goal.decreases-loop-token
decreases-loop-token l = length l.rest
