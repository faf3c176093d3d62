-- Where a commit stands behind some of its calls, and how it ends from there.
use Rattle.std.proofs.Common.{◌≡◌, ◌<◌, false, true, List, [], ◌∷◌, length, sym, ◌∙◌, ap, subst, is_some, Result}
use Rattle.std.specs.FinMap.{get}
use Rattle.commit_calls.specs.declared.group.Stopped.{Stopped}
use Rattle.commit_calls.specs.Cuts.{StoppedIn}
use Rattle.commit_run.specs.declared.end.CommitEnd.{CommitEnd}
use Rattle.commit_run.specs.declared.end.CommitEnd.TheVariants as end
use Rattle.commit_run.specs.declared.prepared.Prepared.{Prepared}
use Rattle.commit_run.specs.BeforePlan.{way_before}
use Rattle.commit_run.specs.Begun.{EndsFrom, EndsFromSeal, FailedAtSeal, StandsAtSeal, StandsBehind, run_from, stepped, synced}
use Rattle.commit_run.specs.Ends.{MayStand, end_behind}
use Rattle.commit_run.specs.Preparing.{IsPrepared}
use Rattle.commit_run.specs.Sealing.{finish_calls, sealed_rename}
use Rattle.commit_run.specs.WayBack.{way_back}
use Rattle.commit_run.proofs.CommitLemmas.{can_groups, can_last, can_stage, ends_behind, ends_done, home_group, home_seal, home_staging, place_group, place_seal, place_staging, unclean_finish, unclean_seal, unfinished_seal}
use Rattle.commit_states.specs.Calls.{calls_from, staging_calls}
use Rattle.commit_states.specs.Laws.{staged_history}
use Rattle.commit_steps.specs.declared.step.Step.{Step}
use Rattle.commit_steps.specs.Staging.{staged, sealed}
use Rattle.step_looks.specs.Undoing.{RanOrLooked}
use Rattle.step_trees.specs.Groups.{groups}
use Rattle.tree_core.specs.declared.node.CallName.{CallName}
use Rattle.tree_core.specs.declared.node.Change.{Change}
use Rattle.tree_core.specs.FileTree.{FileTree, CanDo}
use Rattle.tree_core.specs.History.{History, Then, IsSound, current_tree}
use Rattle.tree_core.specs.Runs.{CanAll, FailedIn, then_all}
use Rattle.tree_core.proofs.Runs.{safe_can}

module _ (p : Prepared) (is : IsPrepared p) where
  abbrev gs : List (List Step)
  gs = groups p.steps

  abbrev staging_all : List Change
  staging_all = staging_calls p.fresh.items p.journal

  abbrev groups_all : List Change
  groups_all = calls_from 0 (groups p.steps)

  -- ---- each call can be done

  module _ (h : History) (at : StandsBehind p synced h) where
    pub stage_can : CanAll staging_all h
    stage_can = subst (CanAll staging_all) (sym at.3) (can_stage p is at.0 at.1 at.2)

    pub way_before_can : (last : History) (before : FileTree) (first : CallName) → 0 < length gs → FailedIn staging_all h last before first → CanAll (way_before p.steps p.fresh.items last) last
    way_before_can last before first some failed =
        let home = home_staging p is at.0 at.1 at.2 last before first some (subst (λ (x : History). FailedIn staging_all x last before first) at.3 failed) in
        safe_can at.0 (MayStand (run_from p at.0 at.1)) last (way_before p.steps p.fresh.items last) home.safe

    module _ (mid : History) (done : mid ≡ then_all h staging_all) where
      staged_is : mid ≡ staged_history p.fresh.items p.journal at.0
      staged_is = done ∙ ap (λ (x : History). then_all x staging_all) at.3

      pub groups_can : CanAll groups_all mid
      groups_can = subst (CanAll groups_all) (sym staged_is) (can_groups p is at.0 at.1 at.2)

      pub way_back_can : (last : History) (before : FileTree) (s : Stopped) → s.group < length gs → StoppedIn gs s mid last before → CanAll (way_back p.steps p.fresh.items s.group last) last
      way_back_can last before s lt failed =
          let home = home_group p is at.0 at.1 at.2 last before s lt (subst (λ (x : History). StoppedIn gs s x last before) staged_is failed) in
          safe_can at.0 (MayStand (run_from p at.0 at.1)) last (way_back p.steps p.fresh.items s.group last) home.safe

      pub steps_done : (now : History) → now ≡ then_all mid groups_all → StandsBehind p (stepped p) now
      steps_done now all = (at.0, at.1, at.2, all ∙ ap (λ (x : History). then_all x groups_all) staged_is)

  module _ (h : History) (at : StandsBehind p (stepped p) h) where
    pub rename_can : CanDo sealed_rename (current_tree h)
    rename_can = subst (λ (x : History). CanDo sealed_rename (current_tree x)) (sym at.3) (can_last p is at.0 at.1 at.2).0

    pub finish_can : (now : History) → now ≡ Then h sealed_rename → CanAll (finish_calls p.steps p.held.items) now
    finish_can now done =
        subst (CanAll (finish_calls p.steps p.held.items)) (sym (done ∙ ap (λ (x : History). Then x sealed_rename) at.3)) (can_last p is at.0 at.1 at.2).1

    pub at_seal : (last : History) (before : FileTree) (first : CallName) → FailedIn (sealed_rename ∷ []) h last before first → StandsAtSeal p first last before
    at_seal last before first failed = (at.0, at.1, at.2, subst (λ (x : History). FailedIn (sealed_rename ∷ []) x last before first) at.3 failed)

  -- ---- how it ends

  module _ (h now : History) (after : FileTree) (sound : IsSound now) where
    pub staging_ends : {X : Type 0} (last : History) (before : FileTree) (first : CallName) (back : Result X CallName) → 0 < length gs → FailedIn staging_all h last before first
        → RanOrLooked (way_before p.steps p.fresh.items last) last now before after back → EndsFrom p synced h now after (end_behind first back)
    staging_ends last before first back some failed ran = λ begun new b same.
        let f = subst (λ (x : History). FailedIn staging_all x last before first) same failed in
        ends_behind p is begun new b last now (way_before p.steps p.fresh.items last) before after first back
        (home_staging p is begun new b last before first some f) sound ran (place_staging p is begun new b last before first f)

    module _ (mid : History) (done : mid ≡ then_all h staging_all) where
      pub group_ends : {X : Type 0} (last : History) (before : FileTree) (s : Stopped) (back : Result X CallName) → s.group < length gs → StoppedIn gs s mid last before
          → RanOrLooked (way_back p.steps p.fresh.items s.group last) last now before after back → EndsFrom p synced h now after (end_behind s.first back)
      group_ends last before s back lt failed ran = λ begun new b same.
          let f = subst (λ (x : History). StoppedIn gs s x last before) (done ∙ ap (λ (x : History). then_all x staging_all) same) failed in
          ends_behind p is begun new b last now (way_back p.steps p.fresh.items s.group last) before after s.first back
          (home_group p is begun new b last before s lt f) sound ran (place_group p is begun new b last before s lt f)

      pub later_ends : (last : History) (ended : CommitEnd) → last ≡ then_all mid groups_all → EndsFrom p (stepped p) last now after ended → EndsFrom p synced h now after ended
      later_ends last ended all ends = λ begun new b same.
          ends begun new b (all ∙ ap (λ (x : History). then_all x groups_all) (done ∙ ap (λ (x : History). then_all x staging_all) same))

  -- the seal failed
  module _ (h now : History) (before after : FileTree) (first : CallName) where
    pub seal_ends : (last : History) (ended : CommitEnd) → FailedIn (sealed_rename ∷ []) h last before first → EndsFromSeal p first last before now after ended → EndsFrom p (stepped p) h now after ended
    seal_ends last ended failed ends = λ begun new b same. ends begun new b (subst (λ (x : History). FailedIn (sealed_rename ∷ []) x last before first) same failed)

  -- or all behind it was done, or a call of that failed
  module _ (h mid now : History) (before after : FileTree) (done : mid ≡ Then h sealed_rename) where
    mid_from : (begun : History) → h ≡ stepped p begun → mid ≡ Then (stepped p begun) sealed_rename
    mid_from begun same = done ∙ ap (λ (x : History). Then x sealed_rename) same

    pub done_ends : now ≡ then_all mid (finish_calls p.steps p.held.items) → EndsFrom p (stepped p) h now after end.Done
    done_ends all = λ begun new b same. ends_done p is begun new b now after (all ∙ ap (λ (x : History). then_all x (finish_calls p.steps p.held.items)) (mid_from begun same))

    pub unclean_ends : (first : CallName) → FailedIn (finish_calls p.steps p.held.items) mid now after first → EndsFrom p (stepped p) h now after (end.Unclean first)
    unclean_ends first failed = λ begun new b same.
        unclean_finish p is begun new b now after first (subst (λ (x : History). FailedIn (finish_calls p.steps p.held.items) x now after first) (mid_from begun same) failed)

  -- ---- the look at the seal that failed

  module _ (last mid : History) (before between : FileTree) (first : CallName) (same : mid ≡ last) (kept : between ≡ before) where
    seen : (begun : History) → FailedAtSeal p begun first last before → FailedAtSeal p begun first mid between
    seen begun failed =
        subst (λ (x : History). FailedAtSeal p begun first x between) (sym same) (subst (λ (t : FileTree). FailedAtSeal p begun first last t) (sym kept) failed)

    pub sealed_ends : is_some (get (current_tree mid) (staged sealed)) ≡ true → EndsFromSeal p first last before mid between (end.Unclean first)
    sealed_ends there = λ begun new b failed. unclean_seal p is begun new b mid between first (seen begun failed) there

    module _ (none : is_some (get (current_tree mid) (staged sealed)) ≡ false) where
      pub unsealed_can : StandsAtSeal p first last before → CanAll (way_back p.steps p.fresh.items (length gs) mid) mid
      unsealed_can at =
          let home = home_seal p is at.0 at.1 at.2 mid between first (seen at.0 at.3) (λ stands. let no : false ≡ true = sym none ∙ stands in cc) in
          safe_can at.0 (MayStand (run_from p at.0 at.1)) mid (way_back p.steps p.fresh.items (length gs) mid) home.safe

      pub unsealed_ends : {X : Type 0} (now : History) (after : FileTree) (back : Result X CallName) → IsSound now → RanOrLooked (way_back p.steps p.fresh.items (length gs) mid) mid now between after back
          → EndsFromSeal p first last before now after (end_behind first back)
      unsealed_ends now after back sound ran = λ begun new b failed.
          let f = seen begun failed in
          ends_behind p is begun new b mid now (way_back p.steps p.fresh.items (length gs) mid) between after first back
          (home_seal p is begun new b mid between first f (λ stands. let no : false ≡ true = sym none ∙ stands in cc)) sound ran (place_seal p is begun new b mid between first f)

  -- the look itself failed
  module _ (last mid : History) (before after : FileTree) (first second : CallName) (same : mid ≡ last) (sound : IsSound mid) where
    pub blind_ends : EndsFromSeal p first last before mid after (end.Unfinished first second)
    blind_ends = λ begun new b failed.
        unfinished_seal p is begun new b mid before after first second sound (subst (λ (x : History). FailedAtSeal p begun first x before) (sym same) failed)
