-- Whether a look failed.
use Rattle.std.specs.Prelude.{Bool, true, false, Result, Ok, Err}
use Rattle.tree_core.specs.declared.meta.LookEnd.{LookEnd}
use Rattle.tree_core.specs.declared.meta.LookEnd.TheVariants as end
use Rattle.tree_core.specs.declared.meta.ReadEnd.{ReadEnd}
use Rattle.tree_core.specs.declared.meta.ReadEnd.TheVariants as read_end

-- whether a look that takes memory failed
abbrev pub look_failed : {T : Type 0} → Result T LookEnd → Bool
look_failed (Ok v) = false
look_failed (Err end.Failed) = true
look_failed (Err end.Memory) = false

abbrev pub read_failed : {T : Type 0} → Result T ReadEnd → Bool
read_failed (Ok v) = false
read_failed (Err read_end.Failed) = true
read_failed (Err read_end.Memory) = false
read_failed (Err read_end.TooLarge) = false
