-- Laws of plans: what holds between two moves, and where they lead.
use Rattle.std.specs.Prelude.{◌≡◌, ◌⊎◌, ℕ, ◌+◌, true, List, [], ◌∷◌, ◌++◌, map, filter, length, Option, Some, None, Contains}
use Rattle.std.specs.List.{zip}
use Rattle.dired_text.specs.Paths.{Names, AreNames}
use Rattle.commit_steps.specs.declared.step.Step.{Step}
use Rattle.commit_steps.specs.declared.step.Step.TheVariants.{MakeDir, Rename, Mode}
use Rattle.commit_steps.specs.Steps.{IsLawfulStep}
use Rattle.commit_steps.specs.Staging.{staging, staged, temporary}
use Rattle.tree_core.specs.FileTree.{FileTree, IsTree, IsFile, CanRename, renamed}
use Rattle.tree_core.specs.declared.node.Node.{Node}
use Rattle.tree_core.specs.declared.node.Node.TheVariants.{Dir}
use Rattle.tree_core.specs.declared.changes.Changes.{Changes}
use Rattle.edit_words.specs.declared.row.Row.{Row}
use Rattle.edit_words.specs.declared.row.Route.{Route}
use Rattle.edit_words.specs.declared.row.Route.TheVariants.{Stays, Sent}
use Rattle.edit_words.specs.Place.{place}
use Rattle.edit_words.specs.Rows.{rows}
use Rattle.edit_words.specs.Edited.{Entries, IsPlaced, is_fresh, missing}
use Rattle.edit_words.specs.WellFormed.{IsWellFormed, CanBeAsked}
use Rattle.plan_moves.specs.Waiting.{Waiting, NoneReady, deepest, is_ready, put_away, waiting, without}
use Rattle.plan_moves.specs.Moves.{Moves, Spots, fresh_spots, with_spot}
use Rattle.edit_words.specs.Sight.{sight_of}
use Rattle.plan_moves.specs.Plan.{held_paths, holds}
use Rattle.plan_moves.specs.SoFar.{IsWaitingWell, Invariant, held_at, same_node}

-- changes that can be asked for, and are well-formed in a tree
pub record ArePlanned (t : FileTree) (changes : Changes) : Type 0 where
  pub tree : IsTree t
  pub asked : CanBeAsked (IsFile t) changes
  pub well_formed : IsWellFormed t (rows changes)

abbrev pub WaitsWellAtFirst : Type 0
WaitsWellAtFirst = (t : FileTree) (changes : Changes) → ArePlanned t changes → IsWaitingWell (rows changes) 0 (fresh_spots 0 (rows changes)) (waiting (rows changes))

abbrev pub WaitsWellAfterCarry : Type 0
WaitsWellAfterCarry =
    (t : FileTree) (changes : Changes) (n : ℕ) (spots : Spots) (ws : List Waiting) (w : Waiting) → ArePlanned t changes → IsWaitingWell (rows changes) n spots ws
    → Contains ws w → is_ready ws w ≡ true → IsWaitingWell (rows changes) n spots (without w ws)

abbrev pub WaitsWellAfterKnot : Type 0
WaitsWellAfterKnot =
    (t : FileTree) (changes : Changes) (n : ℕ) (spots : Spots) (ws : List Waiting) (d : Waiting) → ArePlanned t changes → IsWaitingWell (rows changes) n spots ws
    → NoneReady ws → deepest ws ≡ Some d → IsWaitingWell (rows changes) (n + 1) (with_spot spots d.row.line (staged (temporary n))) (put_away d ws)

-- the paths of the changes are of lawful names
abbrev pub HaveNames : List Row → Type 0
HaveNames rs = (r : Row) (p : Names) → Contains rs r → (r.source ≡ Some p) ⊎ (r.to ≡ Some p) → AreNames p

-- Each step is a rename that a journal can spell, and that can be done where the ones before it have been. The last tree has P.
abbrev pub LeadOn : (FileTree → Type 0) → FileTree → List Step → Type 0
LeadOn P t [] = P t
LeadOn P t (Rename from to ∷ steps) = CanRename t from to × IsLawfulStep (Rename from to) × LeadOn P (renamed t from to) steps
LeadOn P t (MakeDir p ∷ steps) = ⊥
LeadOn P t (Mode p old new ∷ steps) = ⊥

-- what holds behind the last move, where no change waits
pub record NoneWaits (t : FileTree) (rs : List Row) (made : List Node) (now : FileTree) : Type 0 where
  pub number : ℕ
  pub spots : Spots
  pub invariant : Invariant t rs made number spots [] now

-- From a tree between two moves all further moves can be done, in whatever order ready changes are carried out, and then none waits.
abbrev pub MovesLeadOn : Type 0
MovesLeadOn =
    (t now : FileTree) (changes : Changes) (made : List Node) (n : ℕ) (spots : Spots) (ws : List Waiting) (steps : List Step) → ArePlanned t changes → HaveNames (rows changes)
    → length made ≡ length (filter is_fresh (rows changes)) → Invariant t (rows changes) made n spots ws now → Moves n spots ws steps → LeadOn (NoneWaits t (rows changes) made) now steps

-- where paths go when these are put aside, in order
abbrev pub aside_route_by : Option Names → Route
aside_route_by None = Stays
aside_route_by (Some path) = Sent path

abbrev pub aside_route : List Names → Names → Route
aside_route hs p = aside_route_by (held_at 0 hs p)

-- the staging directory and the entries that were made, as a plan finds them
abbrev pub made_at_first : List Row → List Node → Entries
made_at_first rs made = (staging, Dir 0o700) ∷ zip (map (λ (r : Row). fresh_spots 0 rs r.line) (filter is_fresh rs)) made

-- the old tree with these put aside
pub record IsPutAside (t : FileTree) (rs : List Row) (made : List Node) (hs : List Names) (now : FileTree) : Type 0 where
  pub tree : IsTree now
  pub shown : IsPlaced (made_at_first rs made) (λ p. true) (place (aside_route hs)) same_node t now

-- What changes replace or give up can be put aside, one after another.
abbrev pub HoldsLeadOn : Type 0
HoldsLeadOn =
    (t now : FileTree) (changes : Changes) (made : List Node) → ArePlanned t changes → IsPutAside t (rows changes) made [] now
    → LeadOn (IsPutAside t (rows changes) made (held_paths (sight_of t) (rows changes))) now (holds 0 (held_paths (sight_of t) (rows changes)))

-- Where these are put aside and the missing directories are made, all changes wait, as at first.
abbrev pub AllWaitAtFirst : Type 0
AllWaitAtFirst =
    (t now : FileTree) (changes : Changes) (made : List Node) → ArePlanned t changes → IsTree now
    → IsPlaced (made_at_first (rows changes) made ++ map (λ (p : Names). (p, Dir 0o755)) (missing t (rows changes))) (λ p. true) (place (aside_route (held_paths (sight_of t) (rows changes)))) same_node t now
    → Invariant t (rows changes) made 0 (fresh_spots 0 (rows changes)) (waiting (rows changes)) now
