use Rattle.std.proofs.Common.{◌≡◌, ℕ, List}
use Rattle.std.proofs.lemmas.Result.{IfOk-weaker}
use Rattle.dired_run.specs.Drills.{IsDrillText, drill_text}
use Rattle.dired_run.proofs.drilling.drilled.Goals as goal

pub returns : goal.returns
returns c =
    let counts = c.in_ok-counts.counts in
    IfOk-weaker c.line.result (λ (text : List ℕ). text ≡ drill_text c.args.groups counts) (λ (text : List ℕ). IsDrillText c.args.groups text)
    (λ text is. record { counts = counts; are_counted = c.in_ok-counts.ensures; line = is }) c.line.ensures
