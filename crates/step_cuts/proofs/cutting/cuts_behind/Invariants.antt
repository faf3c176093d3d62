use Rattle.std.proofs.Common.{[], ◌∷◌}
use Rattle.step_trees.specs.Groups.{grow}
use Rattle.step_cuts.specs.Cuts.{ends_of}
use Rattle.step_cuts.specs.Named.{HasMaps}
use Rattle.step_cuts.proofs.CutLemmas.{SoFar}
use Rattle.step_cuts.proofs.cutting.cuts_behind.Given as goal

abbrev pub invariant-loop-place : goal.invariant-loop-place
invariant-loop-place l = record {
  maps : HasMaps l.group;
  so_far : SoFar l.rest (ends_of 0 (grow (l.first ∷ []) l.rest)) l.place l.ends.items l.group;
}
