use Rattle.std.proofs.Common.{◌≡◌, ◌≤◌, ◌∙◌, [], List, sym, ap, subst, arith, length, reverse, vec_capacity, None}
use Rattle.section_rows.specs.Orders.{Ordered, forgotten, put_in}
use Rattle.section_buffer.specs.declared.kept.Kept.{Kept}
use Rattle.section_buffer.specs.Held.{IsBuffer, seen_as}
use Rattle.section_buffer.proofs.BufferLemmas.{made-held, made-seen}
use Rattle.section_buffer.proofs.buffer.Buffer.of_rows.Goals as goal

pub invariant_of-result : goal.invariant_of-result
invariant_of-result c =
    let t : Ordered = c.args.rows in
    let o : Ordered = c.forget.new.self in
    let kept = c.in_ok-kept.kept in
    let is : o ≡ forgotten (put_in None t) = c.forget.ensures ∙ ap forgotten c.put.ensures in
    let wide : length o.order ≤ vec_capacity kept = omega (arith, c.len.ensures, c.in_ok-kept.ensures.exact) in
    let none : reverse kept.items ≡ [] = ap reverse c.in_ok-kept.ensures.items in
    subst (λ (x : List Kept). IsBuffer o x (vec_capacity kept)) (sym none) (made-held c.args.switches t o c.requires.made c.requires.root is (vec_capacity kept) wide)

pub returns : goal.returns
returns c =
    let t : Ordered = c.args.rows in
    let o : Ordered = c.forget.new.self in
    let kept = c.in_ok-kept.kept in
    let is : o ≡ forgotten (put_in None t) = c.forget.ensures ∙ ap forgotten c.put.ensures in
    let none : reverse kept.items ≡ [] = ap reverse c.in_ok-kept.ensures.items in
    ap (λ (x : List Kept). seen_as c.args.switches o x) none ∙ made-seen c.args.switches t o c.requires.made c.requires.root is
