use Rattle.std.proofs.Common.{◌≡◌, ◌++◌, drop, string_bytes, flat_map}
use Rattle.case_tables.specs.Fields.{field_byte}
use Rattle.case_tables.proofs.printing.push_field_bytes.Given as goal

abbrev pub invariant-loop-byte : goal.invariant-loop-byte
invariant-loop-byte l =
    string_bytes l.fn.text ++ flat_map field_byte l.bytes ≡ string_bytes l.text ++ flat_map field_byte (drop l.byte-index l.bytes)
