-- What looks have found, and what that says of a tree.
use Rattle.std.specs.Prelude.{◌≡◌, ◌⊎◌, ℕ, Bool, true, false, not, ◌||◌, nat_lt, length, List, [], Option, Some, None, is_some, IsTrue, Contains}
use Rattle.std.specs.List.{list_any}
use Rattle.std.specs.Option.{unwrap_or}
use Rattle.std.specs.BTreeMap.{get}
use Rattle.dired_text.specs.Paths.{Names, path_cmp}
use Rattle.tree_core.specs.declared.node.CallName.{CallName}
use Rattle.tree_core.specs.declared.node.CallName.TheVariants as call
use Rattle.tree_core.specs.FileTree.{IsMode}
use Rattle.edit_words.specs.declared.row.Row.{Row}
use Rattle.edit_words.specs.declared.seen.Seen.{Seen}
use Rattle.edit_words.specs.declared.seen.Seen.TheVariants.{Dir, Link, File}
use Rattle.edit_words.specs.declared.findings.Findings.{Findings}
use Rattle.edit_words.specs.declared.fault.CheckFault.{CheckFault}
use Rattle.edit_words.specs.declared.fault.CheckFault.TheVariants.{Pending, Stale, Reserved, TwoToOne, ModeClash, ParentNotDirectory, MovedParent, ParentTaken, PathTooLong, TargetIsDirectory, NotEmpty, Unconfirmed, PathBytes, TreeFault, Memory}
use Rattle.edit_words.specs.Place.{IsAbove, ancestors}
use Rattle.edit_words.specs.Sight.{Sight, is_dir}
use Rattle.edit_words.specs.Refusals.{staging}

-- the findings as a sight: nothing stands where nobody looked
abbrev pub sight_in : Findings → Sight
sight_in f = record { at = λ p. unwrap_or (get path_cmp f.found p) None; is_empty = λ p. unwrap_or (get path_cmp f.empty p) false }

-- The findings are true of what is seen. Below what was found to be no directory nothing stands.
pub record HasFindings (f : Findings) (sight : Sight) : Type 0 where
  pub at : (p : Names) (found : Option Seen) → get path_cmp f.found p ≡ Some found → sight.at p ≡ found
  pub below : (p u : Names) (found : Option Seen) → IsAbove u p → get path_cmp f.found u ≡ Some found → is_dir found ≡ false → sight.at p ≡ None
  pub empty : (p : Names) (b : Bool) → get path_cmp f.empty p ≡ Some b → sight.is_empty p ≡ b

-- a path was looked at
abbrev pub IsLookedAt : Findings → Names → Type 0
IsLookedAt f p = IsTrue (is_some (get path_cmp f.found p))

abbrev pub is_no_dir : Option (Option Seen) → Bool
is_no_dir None = false
is_no_dir (Some found) = not (is_dir found)

-- what stands at a path is known: it was looked at, or what is no directory was found above it
abbrev pub IsSeen : Findings → Names → Type 0
IsSeen f p = IsTrue (is_some (get path_cmp f.found p) || list_any (λ u. is_no_dir (get path_cmp f.found u)) (ancestors p))

-- the mode of what is seen; a link has none
abbrev pub seen_mode : Option Seen → Option ℕ
seen_mode None = None
seen_mode (Some (Dir mode)) = Some mode
seen_mode (Some (Link target)) = None
seen_mode (Some (File number mode)) = Some mode

-- where there is one, it is at most 0o7777
abbrev pub HasLawfulMode : Option Seen → Type 0
HasLawfulMode found = (mode : ℕ) → seen_mode found ≡ Some mode → IsMode mode

-- What was found can stand in a tree: at the root nothing but a directory was found, and each mode is at most 0o7777.
pub record CanStand (f : Findings) : Type 0 where
  pub root : (found : Option Seen) → get path_cmp f.found [] ≡ Some found → is_dir found ≡ true
  pub modes : (p : Names) (found : Option Seen) → get path_cmp f.found p ≡ Some found → HasLawfulMode found

-- What was found can stand in a tree and is closed upwards: above what was found to stand there are directories. So there are above a
-- path of several names at which nothing was found; the staging directory alone is looked at before the root.
pub record IsClosed (f : Findings) : Type 0 where
  pub can : CanStand f
  pub above : (p u : Names) (found : Option Seen) → get path_cmp f.found p ≡ Some found → IsTrue (is_some found || nat_lt 1 (length p)) → IsAbove u p → is_dir ((sight_in f).at u) ≡ true

-- What stands at each path that a check of these rows asks for is known: the staging directory, sources, new paths, what is above
-- these, and whether a directory that is to be removed is empty.
pub record IsCovered (f : Findings) (rs : List Row) : Type 0 where
  pub staging_seen : IsSeen f staging
  pub sources : (r : Row) (s : Names) → Contains rs r → r.source ≡ Some s → IsSeen f s
  pub new_paths : (r : Row) (w : Names) → Contains rs r → r.to ≡ Some w → IsSeen f w
  pub above : (r : Row) (w u : Names) → Contains rs r → r.to ≡ Some w → IsAbove u w → IsSeen f u
  pub removed : (r : Row) (s : Names) → Contains rs r → r.removes ≡ true → r.source ≡ Some s → is_dir ((sight_in f).at s) ≡ true → IsTrue (is_some (get path_cmp f.empty s))

-- ---- How findings grow.

-- what was found stays
pub record HasGrown (old new : Findings) : Type 0 where
  pub found : (p : Names) (o : Option Seen) → get path_cmp old.found p ≡ Some o → get path_cmp new.found p ≡ Some o
  pub empty : (p : Names) (b : Bool) → get path_cmp old.empty p ≡ Some b → get path_cmp new.empty p ≡ Some b

-- and at most this one is new
pub record HasOneMore (p : Names) (o : Option Seen) (old new : Findings) : Type 0 where
  pub found : (q : Names) (x : Option Seen) → get path_cmp new.found q ≡ Some x → ((q ≡ p) × (x ≡ o)) ⊎ (get path_cmp old.found q ≡ Some x)
  pub empty : (q : Names) (b : Bool) → get path_cmp new.empty q ≡ Some b → get path_cmp old.empty q ≡ Some b

-- ---- What failed.

-- the failed call of the tree that a fault names
abbrev pub failed_call : CheckFault → Option CallName
failed_call Pending = None
failed_call (Stale line) = None
failed_call (Reserved line) = None
failed_call (TwoToOne line other) = None
failed_call (ModeClash line other) = None
failed_call (ParentNotDirectory line path) = None
failed_call (MovedParent line other) = None
failed_call (ParentTaken line other) = None
failed_call (PathTooLong line) = None
failed_call (TargetIsDirectory line path) = None
failed_call (NotEmpty line path) = None
failed_call (Unconfirmed line path) = None
failed_call (PathBytes bytes) = None
failed_call (TreeFault call) = Some call
failed_call Memory = None

-- ---- Faults of looks.

-- the looks of a check
abbrev pub IsLook : CallName → Type 0
IsLook name = (name ≡ call.Kind) ⊎ ((name ≡ call.Meta) ⊎ (name ≡ call.IsEmpty))

abbrev pub IsLookAt : Option CallName → Type 0
IsLookAt None = Unit {0}
IsLookAt (Some name) = IsLook name

-- a fault is want of memory, or names a failed call, or is this one
abbrev pub IsFreeOr : CheckFault → Option CheckFault → Type 0
IsFreeOr fault wanted = (fault ≡ Memory) ⊎ (IsTrue (is_some (failed_call fault)) ⊎ (wanted ≡ Some fault))
