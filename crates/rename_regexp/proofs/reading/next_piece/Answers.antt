use Rattle.std.proofs.Common.{◌≡◌, ◌++◌, encode_utf8, sym}
use Rattle.rename_regexp.proofs.TemplateLemmas.{cut-char, cut-escape, refused-escape, refused-end}
use Rattle.rename_regexp.proofs.reading.next_piece.Goals as goal

pub returns-then-c-ne92 : goal.returns-then-c-ne92
returns-then-c-ne92 c =
    cut-char c.args.groups c.args.at c.in-Some.c c.args.text.now c.in-Some.later.now c.utf8.text c.in-Some.ensures c.if-c-ne92.true

pub returns-in_default-split_first : goal.returns-in_default-split_first
returns-in_default-split_first c =
    let is : c.args.text.now ≡ encode_utf8 92 ++ c.in-Some.later.now = rw c.if-c-ne92.false at c.in-Some.ensures in
    refused-end c.args.groups c.args.at c.args.text.now c.in-Some.later.now c.utf8.text is c.in_default-split_first.ensures

pub returns-in-Ok : goal.returns-in-Ok
returns-in-Ok c =
    let is : c.args.text.now ≡ encode_utf8 92 ++ c.in-Some.later.now = rw c.if-c-ne92.false at c.in-Some.ensures in
    cut-escape c.args.groups c.args.at c.in-Some-split_first.escaped c.args.text.now c.in-Some.later.now c.in-Some-split_first.behind.now c.in-Ok.piece c.utf8.text is c.in-Some-split_first.ensures (sym c.in-Ok.ensures)

pub returns-in-Err : goal.returns-in-Err
returns-in-Err c =
    let is : c.args.text.now ≡ encode_utf8 92 ++ c.in-Some.later.now = rw c.if-c-ne92.false at c.in-Some.ensures in
    refused-escape c.args.groups c.args.at c.in-Some-split_first.escaped c.args.text.now c.in-Some.later.now c.in-Some-split_first.behind.now c.in-Err.fault c.utf8.text is c.in-Some-split_first.ensures (sym c.in-Err.ensures)
