use Rattle.std.proofs.Common.{rules, ◌≡◌, [], ◌∷◌, ◌++◌, ◌+◌, ◌<◌, ℕ, List, length, drop, true, false, sym, ◌∙◌, ap, subst}
use Rattle.std.proofs.lemmas.List.{drop_more}
use Rattle.commit_steps.specs.declared.step.Step.{Step}
use Rattle.step_trees.specs.Groups.{all_paths, grow, paths_of}
use Rattle.step_cuts.specs.Cuts.{ends_of}
use Rattle.step_cuts.specs.Named.{HasMaps, Holds}
use Rattle.step_cuts.proofs.CutLemmas.{SoFar, first_step, group_more, step_more}
use Rattle.step_cuts.proofs.cutting.cuts_behind.Goals.{then-not-are_apart+in_ok-push+in_ok-group-2, else-not-are_apart}
use Rattle.step_cuts.proofs.cutting.cuts_behind.Goals as goal

pub loop-place-init : goal.loop-place-init
loop-place-init c =
    let none : c.new-ends.result.items ≡ [] = search rules in
    let first = c.args.first.now in
    let rest = c.args.rest.now in
    let group = c.in_ok-group.group in
    record {
      maps = c.in_ok-group.ensures.maps;
      so_far = subst (λ (ends : List ℕ). SoFar rest (ends_of 0 (grow (first ∷ []) rest)) 0 ends group) (sym none) (first_step first rest group c.in_ok-group.ensures.paths);
    }

pub loop-place-preserved : goal.loop-place-preserved
loop-place-preserved c =
    let first = c.args.first.now in
    let rest = c.args.rest.now in
    let all : List ℕ = ends_of 0 (grow (first ∷ []) rest) in
    let k = c.loop-place.place in
    let ends = c.loop-place.ends.items in
    let old = c.loop-place.group in
    let new = c.add.new.self in
    let s = c.index-rest-place.result in
    let next = c.if-not-are_apart in
    let so_far = c.loop-place.invariant.so_far in
    let less : k < length rest = search rules in
    let is : drop k rest ≡ s ∷ drop (k + 1) rest = drop_more rest k s less ∙ ap (λ (x : Step). x ∷ drop (k + 1) rest) (sym c.index-rest-place.is) in
    let holds : Holds (all_paths so_far.group ++ paths_of s) new = c.in_ok-add.ensures.paths (all_paths so_far.group) so_far.holds in
    elim c.if-not-are_apart.branch [
      | then-not-are_apart+in_ok-push+in_ok-group-2 w ↦
          let differs : new.are_apart ≡ false = search rules in
          let pushed : next.ends.items ≡ ends ++ (k + 1) ∷ [] = search rules in
          let alone = w.in_ok-group-2.group in
          let more : SoFar rest all (k + 1) (ends ++ (k + 1) ∷ []) alone = group_more rest all k ends old new s is so_far holds alone differs w.in_ok-group-2.ensures.paths in
          record {
            maps = subst HasMaps (sym w.group-is) w.in_ok-group-2.ensures.maps;
            so_far = subst (λ n. SoFar rest all (k + 1) next.ends.items n) (sym w.group-is) (subst (λ (es : List ℕ). SoFar rest all (k + 1) es alone) (sym pushed) more);
          }
      | else-not-are_apart w ↦
          let goes_on : new.are_apart ≡ true = search rules in
          let same : next.ends.items ≡ ends = ap (λ v. v.items) w.ends-is in
          let more : SoFar rest all (k + 1) ends new = step_more rest all k ends old new s is so_far holds goes_on in
          record {
            maps = subst HasMaps (sym w.group-is) c.in_ok-add.ensures.maps;
            so_far = subst (λ n. SoFar rest all (k + 1) next.ends.items n) (sym w.group-is) (subst (λ (es : List ℕ). SoFar rest all (k + 1) es new) (sym same) more);
          }
    ]
