use Rattle.std.proofs.Common.{◌≡◌, drop}
use Rattle.section_buffer.specs.Relisting.{dir_after}
use Rattle.section_buffer.proofs.relisting.dir_after.Given as goal

abbrev pub invariant-loop-from : goal.invariant-loop-from
invariant-loop-from l = dir_after (drop l.from-index l.moved) l.dir ≡ dir_after l.moved l.dir
