-- Places of faults, in bytes.
use Rattle.std.specs.Prelude.{ℕ, List, length, take, encode_utf8_all}
use Rattle.emacs_regexp.specs.declared.fault.RegexpFault.{RegexpFault}
use Rattle.emacs_regexp.specs.declared.fault.RegexpFault.TheVariants.{Unclosed, Unopened, BadInterval, BadClass, TrailingBackslash, NotInProfile, Memory}

-- how many bytes the characters before a place take
abbrev pub byte_place : List ℕ → ℕ → ℕ
byte_place text at = length (encode_utf8_all (take at text))

-- a fault whose place is counted in characters of a text, with its place in bytes
abbrev pub in_bytes : List ℕ → RegexpFault → RegexpFault
in_bytes text (Unclosed at) = Unclosed (byte_place text at)
in_bytes text (Unopened at) = Unopened (byte_place text at)
in_bytes text (BadInterval at) = BadInterval (byte_place text at)
in_bytes text (BadClass at) = BadClass (byte_place text at)
in_bytes text TrailingBackslash = TrailingBackslash
in_bytes text (NotInProfile at) = NotInProfile (byte_place text at)
in_bytes text Memory = Memory
