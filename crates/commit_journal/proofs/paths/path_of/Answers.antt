use Rattle.std.proofs.Common.{◌≡◌, [], Err, Some, sym, ap, ◌∙◌, rules, arith}
use Rattle.dired_text.specs.Paths.{Names}
use Rattle.dired_text.specs.Resolve.{components}
use Rattle.commit_journal.proofs.TextLemmas.{too_long, part_refused, walk_part, walk_on, walk_last, walk_ends, some_named, none_some}
use Rattle.commit_journal.proofs.paths.path_of.Goals as goal

pub returns-then-text-gt-MAX_PATH_BYTES : goal.returns-then-text-gt-MAX_PATH_BYTES
returns-then-text-gt-MAX_PATH_BYTES c = too_long c.args.text.now (omega arith)

pub returns-in_err-name_of : goal.returns-in_err-name_of
returns-in_err-name_of c =
    let e : c.from_residual.result ≡ Err c.in_err-name_of.field-0.0 = search rules in
    rw e (part_refused c.args.text.now c.loop-name.names.items c.in-Some.name.now (components c.in-Some.later.now) c.in_err-name_of.field-0.0
    (walk_part c.args.text.now c.loop-name.names.items c.loop-name.rest.now c.in-Some.name.now c.in-Some.later.now c.loop-name.invariant c.in-Some.ensures.0 c.in-Some.ensures.1)
    c.in_err-name_of.ensures)

pub loop-name-preserved : goal.loop-name-preserved
loop-name-preserved c =
    rw c.in_ok-push.ensures.items (walk_on c.args.text.now c.loop-name.names.items c.loop-name.rest.now c.in-Some.name.now c.in-Some.later.now c.in_ok-name_of.field-0
    c.loop-name.invariant c.in-Some.ensures.0 c.in-Some.ensures.1 c.in_ok-name_of.ensures)

pub returns-in_err-name_of-2 : goal.returns-in_err-name_of-2
returns-in_err-name_of-2 c =
    let e : c.from_residual-in_err-name_of-2.result ≡ Err c.in_err-name_of-2.field-0.0 = search rules in
    rw e (part_refused c.args.text.now c.loop-name.names.items c.loop-name.rest.now [] c.in_err-name_of-2.field-0.0
    (walk_last c.args.text.now c.loop-name.names.items c.loop-name.rest.now c.loop-name.invariant c.in_default.ensures)
    c.in_err-name_of-2.ensures)

pub returns-in-Some-2 : goal.returns-in-Some-2
returns-in-Some-2 c =
    let ends = walk_ends c.args.text.now c.loop-name.names.items c.loop-name.rest.now c.in_ok-name_of-2.field-0 c.loop-name.invariant c.in_default.ensures c.in_ok-name_of-2.ensures (omega arith) in
    let named = some_named c.in_ok-path.field-0 c.in-Some-2.path c.deref.result.now c.in-Some-2.is c.in_ok-path.ensures.path in
    ends.0 ∙ ap (λ (p : Names). Some p) (sym (named.1 ∙ c.deref.ensures.value ∙ c.in_ok-push-2.ensures.items))

pub returns : goal.returns
returns c =
    let ends = walk_ends c.args.text.now c.loop-name.names.items c.loop-name.rest.now c.in_ok-name_of-2.field-0 c.loop-name.invariant c.in_default.ensures c.in_ok-name_of-2.ensures (omega arith) in
    absurd (none_some c.in_ok-path.field-0 c.in-None.is (c.in_ok-path.ensures.some.1 (rw (c.deref.ensures.value ∙ c.in_ok-push-2.ensures.items) ends.1)))
