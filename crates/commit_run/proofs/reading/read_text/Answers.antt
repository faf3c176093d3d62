use Rattle.std.proofs.Common.{◌≡◌, sym, subst, List, ℕ}
use Rattle.std.specs.Str.{is_utf8}
use Rattle.std.proofs.lemmas.Str.{is_utf8-from_IsUtf8}
use Rattle.plan_fits.specs.Laws.{HasText}
use Rattle.commit_run.proofs.reading.read_text.Goals as goal

pub returns-in-Link : goal.returns-in-Link
returns-in-Link c =
    let e = is_utf8-from_IsUtf8 c.as_str-text.result.now c.as_str-text.utf8 in
    subst HasText (sym c.in-Link.is) (subst (λ (t : List ℕ). is_utf8 t ≡ _) c.as_str-text.ensures e)
