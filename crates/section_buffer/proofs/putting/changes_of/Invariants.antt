use Rattle.std.proofs.Common.{◌≡◌, ◌+◌, drop}
use Rattle.section_buffer.specs.Held.{changes_in}
use Rattle.section_buffer.proofs.putting.changes_of.Given as goal

abbrev pub invariant-loop-change : goal.invariant-loop-change
invariant-loop-change l = l.changes + changes_in (drop l.change-index l.kept) ≡ changes_in l.kept
