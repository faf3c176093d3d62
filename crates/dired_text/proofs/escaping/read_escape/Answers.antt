use Rattle.std.proofs.Common.{◌≡◌, get_or, Some, arith, rules}
use Rattle.dired_text.specs.Escape.{octal_byte}
use Rattle.dired_text.proofs.UnescapeLemmas.{octal-reads}
use Rattle.dired_text.proofs.escaping.read_escape.Goals as goal

pub returns-in_ok-byte-in-len3-up-clause-read : goal.returns-in_ok-byte-in-len3-up-clause-read
returns-in_ok-byte-in-len3-up-clause-read c =
    let s = c.args.text.now in
    let read : octal_byte (get_or s 0 0) (get_or s 1 0) (get_or s 2 0) ≡ Some c.in_ok-byte-in-len3-up.byte = search rules in
    (3, octal-reads s c.in_ok-byte-in-len3-up.byte (omega arith) read, omega arith, c.text_behind.ensures)
