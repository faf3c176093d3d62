use Rattle.std.proofs.Common.{◌≡◌, sym, subst, rules, IsTrue}
use Rattle.std.specs.String.{string_bytes}
use Rattle.std.specs.Str.{is_utf8}
use Rattle.std.proofs.lemmas.Str.{is_utf8-from_IsUtf8, IsUtf8-string_bytes}
use Rattle.host_looks.proofs.describing.target_at.Goals as goal

pub returns-else-not-is_target-clause-text : goal.returns-else-not-is_target-clause-text
returns-else-not-is_target-clause-text g c =
    let target = c.into_string-target.result in
    let is : c.from_string.result ≡ string_bytes target = search rules in
    subst (λ t. IsTrue (is_utf8 t)) (sym is) (is_utf8-from_IsUtf8 (string_bytes target) (IsUtf8-string_bytes target))
