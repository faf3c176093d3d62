-- The tree between two moves: the old tree, placed by what was done so far.
use Rattle.std.specs.Prelude.{◌≡◌, ℕ, ◌+◌, ◌<◌, ◌≤◌, ◌^◌, ◌==◌, Bool, true, false, List, [], ◌∷◌, ◌++◌, map, filter, length, Option, Some, None, if◌then◌else◌, is_some, ◌||◌, Contains}
use Rattle.std.specs.List.{zip}
use Rattle.dired_text.specs.Paths.{Names, parent}
use Rattle.commit_steps.specs.Staging.{staging, staged, held, temporary, fresh_name}
use Rattle.tree_core.specs.declared.node.Node.{Node}
use Rattle.tree_core.specs.declared.node.Node.TheVariants.{Dir}
use Rattle.tree_core.specs.FileTree.{FileTree, IsTree}
use Rattle.edit_words.specs.declared.row.Row.{Row}
use Rattle.edit_words.specs.declared.row.Route.{Route}
use Rattle.edit_words.specs.declared.row.Route.TheVariants.{Stays, Sent}
use Rattle.edit_words.specs.Place.{routed, place, IsAbove}
use Rattle.edit_words.specs.Rows.{row_from, route_to, written, is_same_path, last_name}
use Rattle.edit_words.specs.Edited.{Entries, IsPlaced, placed_tree, is_fresh, missing}
use Rattle.edit_words.specs.Sight.{sight_of}
use Rattle.plan_moves.specs.Waiting.{Waiting, HasDifferentLines, at_sources, is_free, is_in_place}
use Rattle.plan_moves.specs.Moves.{Spots}
use Rattle.plan_moves.specs.Plan.{held_paths}

-- where what is put aside stands; n is the number of the next one
abbrev pub held_at : ℕ → List Names → Names → Option Names
held_at n [] p = None
held_at n (h ∷ hs) p = if is_same_path h p then Some (staged (held n)) else held_at (n + 1) hs p

-- how the change of this line waits: not at all, at its source (false), or away (true)
abbrev pub wait_of : List Waiting → ℕ → Option Bool
wait_of [] line = None
wait_of (w ∷ ws) line = if w.row.line == line then Some w.is_away else wait_of ws line

abbrev pub route_waiting : Option Bool → Names → Names → Option Names → Route
route_waiting None spot p to = route_to p to
route_waiting (Some false) spot p to = Stays
route_waiting (Some true) spot p to = Sent spot

abbrev pub route_so_far_by : Spots → List Waiting → Names → Option Names → Option Row → Route
route_so_far_by spots ws p (Some path) o = Sent path
route_so_far_by spots ws p None None = Stays
route_so_far_by spots ws p None (Some r) = route_waiting (wait_of ws r.line) (spots r.line) p r.to

-- What became of each path so far: what was put aside stands in the staging directory; what waits there stands at its spot; what
-- waits at its source has not moved; every other path went where its change sends it.
abbrev pub route_so_far : FileTree → List Row → Spots → List Waiting → Names → Route
route_so_far t rs spots ws p = route_so_far_by spots ws p (held_at 0 (held_paths (sight_of t) rs) p) (row_from rs p)

-- where an entry that was made stands when it waits no longer
abbrev pub fresh_there : (Names → Route) → Row → Option Names → Names
fresh_there route r None = written r
fresh_there route r (Some s) = routed (route_to s r.to) (place route (parent s)) (last_name s)

abbrev pub fresh_at : (Names → Route) → Spots → Option Bool → Row → Names
fresh_at route spots None r = fresh_there route r r.source
fresh_at route spots (Some away) r = spots r.line

abbrev pub fresh_so_far : FileTree → List Row → Spots → List Waiting → List Names
fresh_so_far t rs spots ws = map (λ (r : Row). fresh_at (route_so_far t rs spots ws) spots (wait_of ws r.line) r) (filter is_fresh rs)

-- the staging directory, the entries and the directories that were made
abbrev pub added_so_far : FileTree → List Row → List Node → Spots → List Waiting → Entries
added_so_far t rs made spots ws = (staging, Dir 0o700) ∷ zip (fresh_so_far t rs spots ws) made ++ map (λ (p : Names). (p, Dir 0o755)) (missing t rs)

abbrev pub same_node : Names → Node → Node
same_node p node = node

-- the tree so far, as a function and as a relation
abbrev pub so_far : FileTree → List Row → List Node → Spots → List Waiting → FileTree
so_far t rs made spots ws = placed_tree (added_so_far t rs made spots ws) (λ p. true) (place (route_so_far t rs spots ws)) same_node t

abbrev pub IsSoFar : FileTree → List Row → List Node → Spots → List Waiting → FileTree → Type 0
IsSoFar t rs made spots ws now = IsPlaced (added_so_far t rs made spots ws) (λ p. true) (place (route_so_far t rs spots ws)) same_node t now

-- where a change that is away waits: put aside as a temporary entry whose number is below n, or as an entry that was made
pub data IsSpot (n : ℕ) (path : Names) : Type 0 where
  put_aside : (m : ℕ) → m < n → path ≡ staged (temporary m) → IsSpot n path
  was_made : (m : ℕ) → m < 2 ^ 32 → path ≡ staged (fresh_name m) → IsSpot n path

-- What else holds between two moves: whatever still waits below a path keeps that path at its place.
pub record IsWaitingWell (rs : List Row) (n : ℕ) (spots : Spots) (ws : List Waiting) : Type 0 where
  pub listed : (w : Waiting) → Contains ws w → Contains rs w.row
  pub different : HasDifferentLines ws
  -- what waits is made, or has a new path
  pub waits : (w : Waiting) → Contains ws w → (is_fresh w.row || is_some w.row.to) ≡ true
  pub fresh_are_away : (w : Waiting) → Contains ws w → is_fresh w.row ≡ true → w.is_away ≡ true
  -- above a source at which a change waits, each edit with a new path waits at its source
  pub above_source : (w : Waiting) (s a : Names) (o : Row) → Contains ws w → w.is_away ≡ false → w.row.source ≡ Some s → IsAbove a s
      → row_from rs a ≡ Some o → is_some o.to ≡ true → wait_of ws o.line ≡ Some false
  -- and so above a path to which one that is away is to be written in place
  pub above_in_place : (w : Waiting) (a : Names) (o : Row) → Contains ws w → w.is_away ≡ true → is_in_place w.row ≡ true
      → IsAbove a (written w.row) → row_from rs a ≡ Some o → is_some o.to ≡ true → wait_of ws o.line ≡ Some false
  -- where a change was written, no other waits at its source
  pub written_free : (r : Row) (w : Names) → Contains rs r → r.to ≡ Some w → wait_of ws r.line ≡ None → is_free ws w ≡ true
  -- those that are away are in the staging directory, each at a spot of its own, and no temporary name from n on is taken
  pub spots_staged : (w : Waiting) → Contains ws w → w.is_away ≡ true → IsSpot n (spots w.row.line)
  -- each that waits at its source may get one of these names
  pub room : n + length (at_sources ws) ≤ length rs
  pub spots_apart : (v w : Waiting) → Contains ws v → Contains ws w → v.is_away ≡ true → w.is_away ≡ true → spots v.row.line ≡ spots w.row.line → v ≡ w

-- what holds between two moves
pub record Invariant (t : FileTree) (rs : List Row) (made : List Node) (n : ℕ) (spots : Spots) (ws : List Waiting) (now : FileTree) : Type 0 where
  pub tree : IsTree now
  pub shown : IsSoFar t rs made spots ws now
  pub well : IsWaitingWell rs n spots ws
