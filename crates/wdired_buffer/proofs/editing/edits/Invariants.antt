use Rattle.std.proofs.Common.{◌≡◌, ◌+◌, [], length, take, drop}
use Rattle.std.specs.BTreeSet.{contains}
use Rattle.std.specs.List.{list_any}
use Rattle.dired_text.specs.Paths.{Names, path_cmp}
use Rattle.wdired_buffer.specs.Lines.{lines}
use Rattle.wdired_buffer.specs.Edits.{asks_behind, asks_in, in_front_of, section, shows}
use Rattle.wdired_buffer.proofs.editing.edits.Given as goal

abbrev pub invariant-loop-line : goal.invariant-loop-line
invariant-loop-line l = record {
  so_far : asks_behind [] l.before (lines l.after) ≡ in_front_of (asks_in l.edited) (asks_behind (take l.line-index l.before) (drop l.line-index l.before) (lines l.rest));
  left : l.line-index + length (lines l.rest) ≡ length l.before;
  number : l.number ≡ l.line-index + 1;
  dir : l.passed.dir ≡ section [] (take l.line-index l.before);
  shown : (q : Names) → contains path_cmp l.passed.shown q ≡ list_any (shows q) (take l.line-index l.before);
}
