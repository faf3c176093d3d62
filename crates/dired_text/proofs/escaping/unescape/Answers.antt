use Rattle.std.proofs.Common.{◌≡◌, ◌∙◌, [], inr, sym, ap, arith, rules, Err, Ok}
use Rattle.std.specs.String.{string_bytes}
use Rattle.std.proofs.lemmas.List.{append-nil}
use Rattle.dired_text.proofs.PlaceLemmas.{length-parts}
use Rattle.dired_text.proofs.UnescapeLemmas.{raw-refused, escape-refused, escape-read, last-read, length-spells}
use Rattle.dired_text.proofs.escaping.unescape.Goals as goal

pub returns-in_err-push_raw : goal.returns-in_err-push_raw
returns-in_err-push_raw c =
    let e : c.from_residual.result ≡ Err c.in_err-push_raw.field-0.0 = search rules in
    rw e (raw-refused c.loop-raw.place (string_bytes c.loop-raw.plain) c.in-Some.raw.now c.loop-raw.rest.now _ c.args.text.now c.in_err-push_raw.field-0.0 c.loop-raw.invariant.2 c.in-Some.ensures.0 c.in-Some.ensures.1 c.in_err-push_raw.ensures)

pub returns-in_default-read_escape : goal.returns-in_default-read_escape
returns-in_default-read_escape c =
    inr (sym (c.loop-raw.invariant.2 ∙ escape-refused c.loop-raw.place (string_bytes c.loop-raw.plain) c.in-Some.raw.now c.loop-raw.rest.now c.in-Some.escape.now c.in-Some.ensures.0 c.in-Some.ensures.1 c.in_ok-push_raw.ensures.0 c.in_default-read_escape.ensures.read))

pub loop-raw-preserved : goal.loop-raw-preserved
loop-raw-preserved c = (
  search rules,
  omega (
    arith,
    length-parts 92 c.loop-raw.rest.now c.in-Some.raw.now c.in-Some.escape.now c.in-Some.ensures.0,
    length-spells c.in-Some.escape.now c.in-Some-read_escape.later.now c.in-Some-read_escape.byte c.in-Some-read_escape.ensures.read,
  ),
  c.loop-raw.invariant.2 ∙ escape-read c.loop-raw.place (string_bytes c.loop-raw.plain) c.in-Some.raw.now (string_bytes c.push_raw.new.plain) (string_bytes c.push_byte.new.plain) c.loop-raw.rest.now c.in-Some.escape.now c.in-Some-read_escape.later.now c.in-Some-read_escape.byte c.in-Some.ensures.0 c.in-Some.ensures.1 c.in_ok-push_raw.ensures.0 c.in-Some-read_escape.ensures.read c.in_ok-push_raw.ensures.1 c.in_ok-push_byte.ensures.ok,
)

pub returns-in_err-push_raw-2 : goal.returns-in_err-push_raw-2
returns-in_err-push_raw-2 c =
    let e : c.from_residual-in_err-push_raw-2.result ≡ Err c.in_err-push_raw-2.field-0.0 = search rules in
    rw e (raw-refused c.loop-raw.place (string_bytes c.loop-raw.plain) c.loop-raw.rest.now c.loop-raw.rest.now [] c.args.text.now c.in_err-push_raw-2.field-0.0 c.loop-raw.invariant.2 (sym (append-nil c.loop-raw.rest.now)) c.in_default.ensures c.in_err-push_raw-2.ensures)

pub returns : goal.returns
returns c =
    inr (ap Ok (c.from_string.ensures ∙ c.in_ok-push_raw-2.ensures.1) ∙ sym (c.loop-raw.invariant.2 ∙ last-read c.loop-raw.place (string_bytes c.loop-raw.plain) c.loop-raw.rest.now c.in_default.ensures c.in_ok-push_raw-2.ensures.0))
