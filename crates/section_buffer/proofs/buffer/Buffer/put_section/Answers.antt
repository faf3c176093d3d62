use Rattle.std.proofs.Common.{rules, ◌≡◌, ◌<◌, ◌≤◌, ◌+◌, ◌-◌, ◌^◌, ◌∙◌, ◌∷◌, ◌++◌, [], List, ap, sym, subst, arith, suc, length, reverse, vec_len, vec_capacity}
use Rattle.section_rows.specs.Orders.{Ordered, given_up}
use Rattle.section_buffer.specs.declared.kept.Kept.{Kept}
use Rattle.section_buffer.specs.declared.kept.Kept.TheVariants.{Insertion}
use Rattle.section_buffer.specs.Buffers.{inserted}
use Rattle.section_buffer.specs.Held.{IsBuffer, changes_in, seen_as}
use Rattle.section_buffer.proofs.BufferLemmas.{held-wider, kept-first}
use Rattle.section_buffer.proofs.InsertLemmas.{behind-stands, changes-back, few-changes, few-kept, given-held, given-seen, grown, put-held, put-seen}
use Rattle.section_buffer.proofs.buffer.Buffer.put_section.Goals as goal

pub changes_of-requires : goal.changes_of-requires
changes_of-requires c =
    let i = c.self.inside in
    let few = few-changes i.rows i.kept.items (vec_capacity i.kept) c.self.invariant in
    subst (λ (xs : List Kept). changes_in xs < 2 ^ 64) (sym c.deref.ensures.value) (omega (arith, few, i.kept.small))

pub overflow_add-held : goal.overflow_add-held
overflow_add-held c =
    let i = c.self.inside in
    let few = few-changes i.rows i.kept.items (vec_capacity i.kept) c.self.invariant in
    let n : c.changes_of.result ≡ changes_in i.kept.items = c.changes_of.ensures ∙ ap changes_in c.deref.ensures.value in
    omega (arith, few, n, c.len.ensures, i.kept.small)

pub overflow_add-held-2 : goal.overflow_add-held-2
overflow_add-held-2 c =
    let i = c.self.inside in
    let few = few-changes i.rows i.kept.items (vec_capacity i.kept) c.self.invariant in
    let n : c.changes_of.result ≡ changes_in i.kept.items = c.changes_of.ensures ∙ ap changes_in c.deref.ensures.value in
    omega (arith, few, n, c.len.ensures, i.kept.small, c.len-2.ensures, c.args.lines.ok.0, c.args.lines.ok.1, c.args.lines.small)

pub overflow_sub-room : goal.overflow_sub-room
overflow_sub-room c =
    let i = c.self.inside in
    let few = few-kept i.rows i.kept.items (vec_capacity i.kept) c.self.invariant in
    let n : c.changes_of.result ≡ changes_in i.kept.items = c.changes_of.ensures ∙ ap changes_in c.deref.ensures.value in
    omega (arith, few, n, c.in-Some.ensures.1, c.len-3.ensures, i.kept.ok.0)

pub invariant_of-self-in_default-make_rows : goal.invariant_of-self-in_default-make_rows
invariant_of-self-in_default-make_rows c =
    let i = c.self.inside in
    let o = i.rows in
    let kept = reverse i.kept.items in
    let room = vec_capacity i.kept in
    let more = vec_capacity c.reserve.new.self in
    let below = c.rows_differ.ensures.below in
    let k = c.in_default-make_rows.ensures in
    let left = grown i.switches o kept room c.self.invariant below k.0 in
    let is : c.give_up.new.self ≡ left = c.give_up.ensures ∙ ap given_up k.1 in
    let held = held-wider left kept room more (given-held i.switches o kept room c.self.invariant below k.0) c.reserve.ensures.capacity in
    subst (λ (t : Ordered). IsBuffer t (reverse c.reserve.new.self.items) more) (sym is)
    (subst (λ (xs : List Kept). IsBuffer left (reverse xs) more) (sym c.reserve.ensures.items) held)

pub returns-in_default-make_rows-clause-err : goal.returns-in_default-make_rows-clause-err
returns-in_default-make_rows-clause-err c =
    let i = c.self.inside in
    let o = i.rows in
    let kept = reverse i.kept.items in
    let room = vec_capacity i.kept in
    let below = c.rows_differ.ensures.below in
    let k = c.in_default-make_rows.ensures in
    let left = grown i.switches o kept room c.self.invariant below k.0 in
    let is : c.give_up.new.self ≡ left = c.give_up.ensures ∙ ap given_up k.1 in
    ap (λ (t : Ordered). seen_as i.switches t (reverse c.reserve.new.self.items)) is
    ∙ (ap (λ (xs : List Kept). seen_as i.switches left (reverse xs)) c.reserve.ensures.items
    ∙ (given-seen i.switches o kept room c.self.invariant below k.0 ∙ c.self.view_is))

pub put-requires-clause-after : goal.put-requires-clause-after
put-requires-clause-after c =
    behind-stands c.self.inside.rows c.args.dir c.place_behind-after.result.0 c.place_behind-after.result.1 c.make_rows.new.rows.order c.place_behind-after.ensures
    (ap (λ (t : Ordered). t.order) c.in-Ok.ensures.1)

pub keep-requires : goal.keep-requires
keep-requires c =
    let i = c.self.inside in
    let few = few-kept i.rows i.kept.items (vec_capacity i.kept) c.self.invariant in
    let n : c.changes_of.result ≡ changes_in i.kept.items = c.changes_of.ensures ∙ ap changes_in c.deref.ensures.value in
    let room : vec_len c.reserve.new.self + (c.in-Some.room - c.len-3.result) ≤ vec_capacity c.reserve.new.self = search rules in
    omega (arith, few, n, room, c.in-Some.ensures.1, c.len-3.ensures, c.reserve.ensures.len, i.kept.ok.0)

pub invariant_of-self-2 : goal.invariant_of-self-2
invariant_of-self-2 c =
    let i = c.self.inside in
    let o = i.rows in
    let kept = reverse i.kept.items in
    let head = c.in-Ok.head in
    let at = c.place_behind-after.result.1 in
    let more = vec_capacity c.keep.new.kept in
    let d = c.rows_differ.ensures in
    let few = few-kept o i.kept.items (vec_capacity i.kept) c.self.invariant in
    let n : c.changes_of.result ≡ changes_in i.kept.items = c.changes_of.ensures ∙ ap changes_in c.deref.ensures.value in
    let room : vec_len c.reserve.new.self + (c.in-Some.room - c.len-3.result) ≤ vec_capacity c.reserve.new.self = search rules in
    let wide : suc (changes_in kept) + length o.order + suc (length c.args.lines.items) ≤ more =
    omega (arith, changes-back i.kept.items, few, n, room, c.in-Some.ensures.1, c.len.ensures, c.len-2.ensures, c.len-3.ensures, c.reserve.ensures.len, c.keep.ensures.capacity, i.kept.ok.0, c.args.lines.ok.0) in
    let f : reverse c.keep.new.kept.items ≡ Insertion at head ∷ kept = kept-first i.kept.items c.keep.new.kept.items (Insertion at head) (c.keep.ensures.items ∙ ap (λ (xs : List Kept). xs ++ Insertion at head ∷ []) c.reserve.ensures.items) in
    subst (λ (xs : List Kept). IsBuffer c.put.new.self xs more) (sym f)
    (put-held i.switches o kept (vec_capacity i.kept) more c.self.invariant d.below d.once c.args.dir c.args.lines.items _ at c.place_behind-after.ensures head c.in-Ok.ensures.0 c.make_rows.new.rows c.put.new.self c.in-Ok.ensures.1 c.put.ensures wide)

pub returns-clause-ok : goal.returns-clause-ok
returns-clause-ok c =
    let i = c.self.inside in
    let o = i.rows in
    let kept = reverse i.kept.items in
    let head = c.in-Ok.head in
    let at = c.place_behind-after.result.1 in
    let more = vec_capacity c.keep.new.kept in
    let d = c.rows_differ.ensures in
    let few = few-kept o i.kept.items (vec_capacity i.kept) c.self.invariant in
    let n : c.changes_of.result ≡ changes_in i.kept.items = c.changes_of.ensures ∙ ap changes_in c.deref.ensures.value in
    let room : vec_len c.reserve.new.self + (c.in-Some.room - c.len-3.result) ≤ vec_capacity c.reserve.new.self = search rules in
    let wide : suc (changes_in kept) + length o.order + suc (length c.args.lines.items) ≤ more =
    omega (arith, changes-back i.kept.items, few, n, room, c.in-Some.ensures.1, c.len.ensures, c.len-2.ensures, c.len-3.ensures, c.reserve.ensures.len, c.keep.ensures.capacity, i.kept.ok.0, c.args.lines.ok.0) in
    let f : reverse c.keep.new.kept.items ≡ Insertion at head ∷ kept = kept-first i.kept.items c.keep.new.kept.items (Insertion at head) (c.keep.ensures.items ∙ ap (λ (xs : List Kept). xs ++ Insertion at head ∷ []) c.reserve.ensures.items) in
    ap (λ (xs : List Kept). seen_as i.switches c.put.new.self xs) f
    ∙ (sym (put-seen i.switches o kept (vec_capacity i.kept) more c.self.invariant d.below d.once c.args.dir c.args.lines.items _ at c.place_behind-after.ensures head c.in-Ok.ensures.0 c.make_rows.new.rows c.put.new.self c.in-Ok.ensures.1 c.put.ensures wide)
    ∙ ap (inserted c.args.dir c.args.lines.items) c.self.view_is)
