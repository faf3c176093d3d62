-- The paths that a commit takes with it.
use Rattle.std.specs.Prelude.{◌≡◌, ℕ, List, map, codes}
use Rattle.std.specs.List.{range_with_len}
use Rattle.dired_text.specs.Paths.{Names}
use Rattle.commit_steps.specs.Staging.{staging, staged, at_marker, back_marker, fresh_name, held, new_journal, plan, sealed, undone}
use Rattle.commit_states.specs.declared.held.Held.{Held}
use Rattle.commit_calls.specs.declared.paths.StagingPaths.{StagingPaths}
use Rattle.commit_calls.specs.declared.paths.Numbered.{Numbered}
use Rattle.commit_calls.specs.declared.paths.Numbered.TheVariants.{At, Back, Fresh, Held as PutAside}

-- the path of the marker at each of these cuts
abbrev pub at_marker_paths : List ℕ → List Names
at_marker_paths cuts = map (λ k. staged (at_marker k)) cuts

-- that of each marker of a way back
abbrev pub back_marker_paths : List ℕ → List Names
back_marker_paths cuts = map (λ k. staged (back_marker k)) cuts

-- the path of each of so many fresh entries
abbrev pub fresh_entry_paths : ℕ → List Names
fresh_entry_paths count = map (λ k. staged (fresh_name k)) (range_with_len 0 count)

-- the path of each thing that is put aside
abbrev pub held_entry_paths : List Held → List Names
held_entry_paths hs = map (λ h. staged (held h.number)) hs

-- the paths of the staging directory and of the journal
pub record ArePaths (p : StagingPaths) : Type 0 where
  pub staging_is : p.staging ≡ staging
  pub new_is : p.new_journal ≡ staged new_journal
  pub plan_is : p.plan ≡ staged plan
  pub sealed_is : p.sealed ≡ staged sealed
  pub undone_is : p.undone ≡ staged undone

-- the letters before the number in a name
abbrev pub letters_of : Numbered → List ℕ
letters_of At = codes "at-"
letters_of Back = codes "back-"
letters_of Fresh = codes "f"
letters_of PutAside = codes "h"
