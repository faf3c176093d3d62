use Rattle.std.proofs.Common.{◌∙◌, subst, IsTrue, List, ℕ}
use Rattle.std.proofs.lemmas.Str.{is_utf8-from_IsUtf8}
use Rattle.std.specs.Str.{is_utf8}
use Rattle.mem_tree.proofs.lawful.is_target.Goals as goal

pub returns-then-bytes-le4095-clause-text : goal.returns-then-bytes-le4095-clause-text
returns-then-bytes-le4095-clause-text c = subst (λ (l : List ℕ). IsTrue (is_utf8 l)) (c.as_bytes-bytes.ensures.value ∙ c.as_str.ensures) (is_utf8-from_IsUtf8 _ c.as_bytes-bytes.ensures.utf8)

pub returns-else-bytes-le4095-clause-text : goal.returns-else-bytes-le4095-clause-text
returns-else-bytes-le4095-clause-text c = subst (λ (l : List ℕ). IsTrue (is_utf8 l)) (c.as_bytes-bytes.ensures.value ∙ c.as_str.ensures) (is_utf8-from_IsUtf8 _ c.as_bytes-bytes.ensures.utf8)
