use Rattle.std.proofs.Common.{◌≡◌, ◌++◌, drop, string_bytes, flat_map}
use Rattle.dired_run.specs.Verdicts.{flagged_text}
use Rattle.dired_run.proofs.commit.summary.Given as goal

abbrev pub invariant-loop-path : goal.invariant-loop-path
invariant-loop-path l = flat_map flagged_text l.flagged ≡ string_bytes l.text ++ flat_map flagged_text (drop l.path-index l.flagged)
