use Rattle.std.proofs.Common.{◌≡◌, ◌-◌, ◌∙◌, sym, ap, List, ℕ, [], take, drop, length, arith, nat_eq, ◌==◌, ◌&&◌, true, false}
use Rattle.std.proofs.lemmas.List.{nil_from_length}
use Rattle.std.specs.Cmp.Lexicographic.{pointwise}
use Rattle.dired_text.specs.Paths.{Names}
use Rattle.dired_text.specs.Resolve.{components}
use Rattle.section_buffer.specs.Places.{same_names}
use Rattle.section_buffer.proofs.FindLemmas.{more-parts, names-split, no-parts, one-part}
use Rattle.section_buffer.proofs.finding.+are_parts.Goals as goal

pub returns-in_default : goal.returns-in_default
returns-in_default t c =
    let names = c.args.names.now in
    let e : names ≡ [] = nil_from_length names (omega arith) in
    sym (ap (λ n. same_names n (components c.args.text.now)) e ∙ no-parts c.args.text.now)

pub returns-then-eq : goal.returns-then-eq
returns-then-eq t c =
    let names = c.args.names.now in
    let text = c.args.text.now in
    let first : List ℕ = c.first-item.result in
    let rest : Names = take (length names - 1) (drop 1 names) in
    let split = names-split names first (omega arith) c.first-item.is in
    let same : pointwise nat_eq first text ≡ true = ap (λ x. pointwise nat_eq x text) (sym c.as_str.ensures.value) ∙ (sym c.eq.ensures ∙ c.if-eq.true) in
    let whole : same_names names (components text) ≡ (pointwise nat_eq first text && (length rest == 0)) = ap (λ n. same_names n (components text)) split ∙ one-part first rest text c.in-None.ensures in
    c.is_empty.ensures ∙ sym (whole ∙ ap (λ b. b && (length rest == 0)) same)

pub returns-else-eq : goal.returns-else-eq
returns-else-eq t c =
    let names = c.args.names.now in
    let text = c.args.text.now in
    let first : List ℕ = c.first-item.result in
    let rest : Names = take (length names - 1) (drop 1 names) in
    let split = names-split names first (omega arith) c.first-item.is in
    let same : pointwise nat_eq first text ≡ false = ap (λ x. pointwise nat_eq x text) (sym c.as_str.ensures.value) ∙ (sym c.eq.ensures ∙ c.if-eq.false) in
    let whole : same_names names (components text) ≡ (pointwise nat_eq first text && (length rest == 0)) = ap (λ n. same_names n (components text)) split ∙ one-part first rest text c.in-None.ensures in
    c.if-eq.false ∙ sym (whole ∙ ap (λ b. b && (length rest == 0)) same)

pub returns-then-eq-2 : goal.returns-then-eq-2
returns-then-eq-2 t c =
    let names = c.args.names.now in
    let text = c.args.text.now in
    let part : List ℕ = c.in-Some.part.now in
    let later : List ℕ = c.in-Some.later.now in
    let first : List ℕ = c.first-item.result in
    let rest : Names = take (length names - 1) (drop 1 names) in
    let split = names-split names first (omega arith) c.first-item.is in
    let same : pointwise nat_eq first part ≡ true = ap (λ x. pointwise nat_eq x part) (sym c.as_str-in-Some.ensures.value) ∙ (sym c.eq-in-Some.ensures ∙ c.if-eq-2.true) in
    let whole : same_names names (components text) ≡ (pointwise nat_eq first part && same_names rest (components later)) =
    ap (λ n. same_names n (components text)) split ∙ more-parts first rest text part later c.in-Some.ensures.0 c.in-Some.ensures.1 in
    c.are_parts.ensures ∙ sym (whole ∙ ap (λ b. b && same_names rest (components later)) same)

pub returns-else-eq-2 : goal.returns-else-eq-2
returns-else-eq-2 t c =
    let names = c.args.names.now in
    let text = c.args.text.now in
    let part : List ℕ = c.in-Some.part.now in
    let later : List ℕ = c.in-Some.later.now in
    let first : List ℕ = c.first-item.result in
    let rest : Names = take (length names - 1) (drop 1 names) in
    let split = names-split names first (omega arith) c.first-item.is in
    let same : pointwise nat_eq first part ≡ false = ap (λ x. pointwise nat_eq x part) (sym c.as_str-in-Some.ensures.value) ∙ (sym c.eq-in-Some.ensures ∙ c.if-eq-2.false) in
    let whole : same_names names (components text) ≡ (pointwise nat_eq first part && same_names rest (components later)) =
    ap (λ n. same_names n (components text)) split ∙ more-parts first rest text part later c.in-Some.ensures.0 c.in-Some.ensures.1 in
    c.if-eq-2.false ∙ sym (whole ∙ ap (λ b. b && same_names rest (components later)) same)
