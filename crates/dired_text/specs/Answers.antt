-- Answers of calls that allocate.
use Rattle.std.specs.Prelude.{◌≡◌, ◌⊎◌, Result, Err}

-- the answer that is wanted, or that memory ran out
abbrev pub IsOrMemory : {T E : Type 0} → E → Result T E → Result T E → Type 0
IsOrMemory memory wanted result = (result ≡ Err memory) ⊎ (result ≡ wanted)
