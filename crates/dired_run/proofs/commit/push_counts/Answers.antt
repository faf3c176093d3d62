use Rattle.std.proofs.Common.{◌∙◌, ◌++◌, List, ℕ, ap, append_assoc, string_bytes}
use Rattle.dired_run.proofs.commit.push_counts.Goals as goal

-- the pieces in another grouping
pub returns : goal.returns
returns c = c.in_ok-push_str.ensures.bytes ∙ ap (λ (l : List ℕ). string_bytes c.args.text.now ++ l) (c.as_str.ensures.value ∙ (c.in_ok-line.ensures.ok ∙ simp append_assoc))
