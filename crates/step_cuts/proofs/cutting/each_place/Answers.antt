use Rattle.std.proofs.Common.{rules, ◌≡◌, [], ◌∷◌, ◌++◌, ◌+◌, ◌∙◌, ap}
use Rattle.step_trees.specs.Groups.{singly}
use Rattle.step_cuts.specs.Cuts.{ends_of}
use Rattle.std.proofs.Common.{drop, ℕ, List}
use Rattle.step_cuts.proofs.CutLemmas.{place_more}
use Rattle.step_cuts.proofs.cutting.each_place.Goals as goal

pub loop-place-preserved : goal.loop-place-preserved
loop-place-preserved c =
    let k = c.loop-place.place in
    let steps = c.args.steps.now in
    let pushed : c.push.new.self.items ≡ c.loop-place.ends.items ++ (k + 1) ∷ [] = search rules in
    ap (λ (ends : List ℕ). ends ++ ends_of (k + 1) (singly (drop (k + 1) steps))) pushed ∙ place_more steps k c.loop-place.ends.items c.loop-place-test.true ∙ c.loop-place.invariant
