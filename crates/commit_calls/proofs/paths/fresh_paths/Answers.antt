use Rattle.std.proofs.Common.{◌++◌, [], ◌∷◌, sym, ◌∙◌, ap}
use Rattle.dired_text.specs.Paths.{Names}
use Rattle.commit_calls.specs.Paths.{fresh_entry_paths}
use Rattle.commit_calls.proofs.PathLemmas.{fresh_more}
use Rattle.commit_calls.proofs.paths.fresh_paths.Goals as goal

pub loop-number-preserved : goal.loop-number-preserved
loop-number-preserved c = record {
  made = c.in_ok-push.ensures.items ∙ ap (λ l. l ++ c.in_ok-numbered_path.field-0 ∷ []) c.loop-number.invariant.made ∙ ap (λ (p : Names). fresh_entry_paths c.loop-number.number ++ p ∷ []) c.in_ok-numbered_path.ensures ∙ sym (fresh_more c.loop-number.number);
}
