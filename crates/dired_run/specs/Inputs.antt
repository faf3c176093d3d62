-- What is read.
use Rattle.std.specs.Prelude.{ℕ, ◌+◌, nat_lt, List, length, Option, Some, None, if◌then◌else◌, Result, Ok, Err}
use Rattle.run_status.specs.declared.status.Counted.TheVariants.{BufferBytes}
use Rattle.run_status.specs.declared.status.Status.{Status}
use Rattle.run_status.specs.declared.status.Status.TheVariants.{Missing, TooLarge}

-- the bytes of each name that is there
abbrev pub Files : Type 0
Files = List ℕ → Option (List ℕ)

-- the limit of 32 MiB on the bytes of one buffer
abbrev pub max_buffer_bytes : ℕ
max_buffer_bytes = 67_108_864

abbrev pub bytes_or_refusal : List ℕ → Option (List ℕ) → Result (List ℕ) Status
bytes_or_refusal name None = Err (Missing name)
bytes_or_refusal name (Some bytes) = if nat_lt max_buffer_bytes (length bytes) then Err (TooLarge BufferBytes (max_buffer_bytes + 1)) else Ok bytes

-- the bytes of an input, or its refusal
abbrev pub input_of : Files → List ℕ → Result (List ℕ) Status
input_of files name = bytes_or_refusal name (files name)
