use Rattle.std.proofs.Common.{◌≡◌, ◌++◌, ℕ, [], ◌∷◌, take, get_or, false, sym, ◌∙◌, ap, codes, rules}
use Rattle.commit_steps.specs.Staging.{staged, numbered}
use Rattle.dired_text.specs.Paths.{Names}
use Rattle.commit_calls.specs.Paths.{held_entry_paths}
use Rattle.commit_calls.proofs.PathLemmas.{held_more}
use Rattle.commit_calls.proofs.paths.held_paths.Goals as goal

pub loop-one-preserved : goal.loop-one-preserved
loop-one-preserved c = record {
  made =
      let number : c.from.result ≡ (get_or c.args.held.now c.loop-one.one-index record { number = 0; is_dir = false }).number = search rules in
      c.in_ok-push.ensures.items ∙ ap (λ l. l ++ c.in_ok-numbered_path.field-0 ∷ []) c.loop-one.invariant.made
      ∙ ap (λ (p : Names). held_entry_paths (take c.loop-one.one-index c.args.held.now) ++ p ∷ []) c.in_ok-numbered_path.ensures
      ∙ ap (λ (n : ℕ). held_entry_paths (take c.loop-one.one-index c.args.held.now) ++ staged (numbered (codes "h") n) ∷ []) number
      ∙ sym (held_more c.args.held.now c.loop-one.one-index record { number = 0; is_dir = false } c.loop-one-test.true);
}
