use Rattle.std.proofs.Common.{◌++◌, [], ◌∷◌, take, sym, ◌∙◌, ap}
use Rattle.dired_text.specs.Paths.{Names}
use Rattle.commit_calls.specs.Paths.{back_marker_paths}
use Rattle.commit_calls.proofs.PathLemmas.{back_more}
use Rattle.commit_calls.proofs.paths.back_markers.Goals as goal

pub loop-cut-preserved : goal.loop-cut-preserved
loop-cut-preserved c = record {
  made = c.in_ok-push.ensures.items ∙ ap (λ l. l ++ c.in_ok-numbered_path.field-0 ∷ []) c.loop-cut.invariant.made ∙ ap (λ (p : Names). back_marker_paths (take c.loop-cut.cut-index c.args.cuts.now) ++ p ∷ []) c.in_ok-numbered_path.ensures ∙ sym (back_more c.args.cuts.now c.loop-cut.cut-index c.loop-cut-test.true);
}
