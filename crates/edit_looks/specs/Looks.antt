-- What looks find, and how they end.
use Rattle.std.specs.Prelude.{◌≡◌, ◌⊎◌, Bool, true, false, List, Option, Some, None, IsTrue, is_some, Contains}
use Rattle.std.specs.BTreeMap.{get}
use Rattle.dired_text.specs.Paths.{Names, path_cmp}
use Rattle.tree_core.specs.declared.node.CallName.{CallName}
use Rattle.tree_core.specs.declared.node.Kind.{Kind}
use Rattle.tree_core.specs.declared.node.Kind.TheVariants as kind
use Rattle.tree_core.specs.declared.meta.Meta.{Meta}
use Rattle.edit_words.specs.declared.row.Row.{Row}
use Rattle.edit_words.specs.declared.seen.Seen.{Seen}
use Rattle.edit_words.specs.declared.seen.Seen.TheVariants.{Dir, Link, File}
use Rattle.edit_words.specs.declared.findings.Findings.{Findings}
use Rattle.edit_words.specs.declared.fault.CheckFault.{CheckFault}
use Rattle.edit_words.specs.declared.fault.CheckFault.TheVariants.{Pending, Stale, Memory}
use Rattle.edit_looks.specs.declared.look.SeeEnd.{SeeEnd}
use Rattle.edit_looks.specs.declared.look.SeeEnd.TheVariants as end
use Rattle.edit_words.specs.Place.{IsAbove}
use Rattle.edit_words.specs.Sight.{Sight, is_dir}
use Rattle.edit_words.specs.Refusals.{stale}
use Rattle.edit_words.specs.Found.{sight_in, IsSeen, failed_call}

-- what fields of this kind show
abbrev pub seen_by : Kind → Meta → Seen
seen_by kind.Dir meta = Dir meta.mode
seen_by kind.Link meta = Link meta.target
seen_by kind.File meta = File meta.number meta.mode

-- ---- How looks end.

-- the failed call of the tree that an end names
abbrev pub failed_look : SeeEnd → Option CallName
failed_look (end.Failed call) = Some call
failed_look end.Contradicts = None
failed_look end.Memory = None

abbrev pub contradicts : SeeEnd → Bool
contradicts (end.Failed call) = false
contradicts end.Contradicts = true
contradicts end.Memory = false

-- below what is no directory nothing is seen
abbrev pub IsSeenAsTree : Sight → Type 0
IsSeenAsTree s = (u p : Names) → IsAbove u p → is_dir (s.at u) ≡ false → s.at p ≡ None

-- a fault is want of memory, or names a failed call, or a line of these is stale
abbrev pub IsStaleIn : List Row → CheckFault → Type 0
IsStaleIn rs fault = (fault ≡ Memory) ⊎ (IsTrue (is_some (failed_call fault)) ⊎ ((r : Row) × Contains rs r × (fault ≡ Stale r.line)))

-- or something stands at the staging directory
abbrev pub IsLookEnd : List Row → CheckFault → Type 0
IsLookEnd rs fault = (fault ≡ Pending) ⊎ IsStaleIn rs fault

-- ---- What is found of a row.

-- its source was looked at and is as the row shows it
pub record IsShownIn (f : Findings) (r : Row) : Type 0 where
  pub seen : (s : Names) → r.source ≡ Some s → IsSeen f s
  pub shown : stale (sight_in f) r ≡ None

-- its new path was looked at, and all above that
pub record IsToSeen (f : Findings) (r : Row) : Type 0 where
  pub seen : (w : Names) → r.to ≡ Some w → IsSeen f w
  pub above : (w u : Names) → r.to ≡ Some w → IsAbove u w → IsSeen f u

-- where it removes a directory, it was asked whether that is empty
pub record IsRemovedSeen (f : Findings) (r : Row) : Type 0 where
  pub asked : (s : Names) → r.removes ≡ true → r.source ≡ Some s → is_dir ((sight_in f).at s) ≡ true → IsTrue (is_some (get path_cmp f.empty s))
