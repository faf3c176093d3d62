use Rattle.std.proofs.Common.{◌++◌, sym, ap, ◌∙◌, arith, append_assoc, flat_map, encode_utf8_all, encode_utf8}
use Rattle.std.specs.String.{string_bytes}
use Rattle.shell_subst.specs.Quoting.{within_quotes}
use Rattle.shell_subst.proofs.QuoteLemmas.{within-push, within-other}
use Rattle.shell_subst.proofs.quoting.push_within_quotes.Goals as goal

pub loop-c-preserved-in-Continue-1 : goal.loop-c-preserved-in-Continue-1
unfolding lib.Utf8.encode
loop-c-preserved-in-Continue-1 c =
    rw (within-push c.loop-c.yielded c.in-Some.c, c.in-39.is, ← append_assoc, ← c.loop-c.invariant) c.in_ok-push_str-in-39.ensures.bytes

pub loop-c-preserved : goal.loop-c-preserved
loop-c-preserved c =
    let other = within-other c.in-Some.c (λ e. omega arith) in
    c.in_ok-push-in_default.ensures.bytes
    ∙ ap (λ l. l ++ encode_utf8 c.in-Some.c) c.loop-c.invariant
    ∙ append_assoc (string_bytes c.args.word.now) (flat_map within_quotes (encode_utf8_all c.loop-c.yielded)) (encode_utf8 c.in-Some.c)
    ∙ ap (λ l. string_bytes c.args.word.now ++ l) (ap (λ l. flat_map within_quotes (encode_utf8_all c.loop-c.yielded) ++ l) (sym other) ∙ sym (within-push c.loop-c.yielded c.in-Some.c))
