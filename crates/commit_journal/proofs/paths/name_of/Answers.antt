use Rattle.std.proofs.Common.{List, ℕ, Some, sym, ap, ◌∙◌, subst, IsTrue}
use Rattle.dired_text.specs.Paths.{is_name}
use Rattle.commit_journal.proofs.TextLemmas.{name_refused, name_taken, some_named}
use Rattle.commit_journal.proofs.paths.name_of.Goals as goal

pub returns-in_default : goal.returns-in_default
returns-in_default c = name_refused c.args.bytes.now c.in_default.ensures.cases.0

pub returns-in-Some : goal.returns-in-Some
returns-in-Some c =
    let named = some_named c.in_ok-name.field-0 c.in-Some.name c.in-Ok.text.now c.in-Some.is c.in_ok-name.ensures.name in
    let name : IsTrue (is_name c.args.bytes.now) = subst (λ (t : List ℕ). IsTrue (is_name t)) c.in-Ok.ensures.cases.0 (c.in_ok-name.ensures.some.0 named.0) in
    name_taken c.args.bytes.now c.in-Ok.ensures.cases.1 name ∙ ap (λ (t : List ℕ). Some t) (sym (named.1 ∙ c.in-Ok.ensures.cases.0))
