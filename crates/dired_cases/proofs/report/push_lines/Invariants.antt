use Rattle.std.proofs.Common.{◌≡◌, ◌++◌, drop, string_bytes, flat_map}
use Rattle.dired_cases.specs.Reports.{line_byte}
use Rattle.dired_cases.proofs.report.push_lines.Given as goal

abbrev pub invariant-loop-byte : goal.invariant-loop-byte
invariant-loop-byte l =
    string_bytes l.fn.text ++ flat_map line_byte l.bytes ≡ string_bytes l.text ++ flat_map line_byte (drop l.byte-index l.bytes)
