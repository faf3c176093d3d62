use Rattle.std.proofs.Common.{◌≡◌, [], sym, subst, rules, IsTrue}
use Rattle.std.specs.Str.{is_utf8}
use Rattle.std.proofs.lemmas.Str.{is_utf8-from_IsUtf8, IsUtf8-nil}
use Rattle.host_looks.proofs.describing.no_target.Goals as goal

pub returns-clause-text : goal.returns-clause-text
returns-clause-text c =
    let none : c.in_ok-copy_of.field-0 ≡ [] = search rules in
    subst (λ t. IsTrue (is_utf8 t)) (sym none) (is_utf8-from_IsUtf8 [] IsUtf8-nil)
