-- Lines that are UTF-8, and others.
use Rattle.std.proofs.Common.{◌≡◌, ℕ, List, refl, ap, sym, ◌∙◌, Ok, Err}
use Rattle.std.specs.Str.{IsUtf8, is_utf8}
use Rattle.std.proofs.lemmas.Bool.{false_from_ne_true}
use Rattle.std.proofs.lemmas.Str.{IsUtf8-from_is_utf8, is_utf8-from_IsUtf8}
use Rattle.script_words.specs.Lines.{text_of}
use Rattle.script_words.specs.declared.fault.ScriptFault.TheVariants.{NotUtf8}

text-utf8 : (number : ℕ) (line : List ℕ) → IsUtf8 line → text_of number line ≡ Ok line
unfolding text_of
text-utf8 number line utf8 = rw (is_utf8-from_IsUtf8 line utf8) refl

pub text-is : (number : ℕ) (line text : List ℕ) → IsUtf8 text → text ≡ line → Ok text ≡ text_of number line
text-is number line text utf8 same = sym (text-utf8 number text utf8) ∙ ap (text_of number) same

pub text-bad : (number : ℕ) (line : List ℕ) → ¬ (IsUtf8 line) → text_of number line ≡ Err (NotUtf8 number)
unfolding text_of
text-bad number line bad = rw (false_from_ne_true (is_utf8 line) (λ t. bad (IsUtf8-from_is_utf8 line t))) refl
