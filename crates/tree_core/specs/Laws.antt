-- What holds of trees, of changing calls and of crashes, as statements.
use Rattle.std.specs.Prelude.{◌≡◌, ◌⊎◌, ◌↔◌, false, Err}
use Rattle.dired_text.specs.declared.text.Failed.{Failed}
use Rattle.tree_core.specs.declared.node.Change.{Change}
use Rattle.tree_core.specs.declared.node.Change.TheVariants.{Sync}
use Rattle.tree_core.specs.FileTree.{FileTree, CanDo}
use Rattle.tree_core.specs.History.{History, Then, IsSound, AllAllowed, current_tree, next_number, is_sync, IsApplied, IsCrashState, IsDurable, Performs}
use Rattle.tree_core.specs.SubLists.{synced_tree, pending_calls, ComesBySome}

-- A changing call that can be done leaves a tree of lawful names and texts, whose next number is above all of its numbers.
abbrev pub ChangesLeaveTrees : Type 0
ChangesLeaveTrees = (h : History) (change : Change) → IsSound h → CanDo change (current_tree h) → IsSound (Then h change)

-- A crash leaves what comes of the tree at the last sync by some of the calls done since, and all of that.
abbrev pub CrashesLeaveSome : Type 0
CrashesLeaveSome = (h : History) (c : FileTree) → IsCrashState h c ↔ ComesBySome (pending_calls h) (synced_tree h) c

-- The tree that reads is one of these.
abbrev pub CurrentIsLeft : Type 0
CurrentIsLeft = (h : History) → AllAllowed h → IsCrashState h (current_tree h)

-- Behind a moment where nothing is pending one call leaves only the tree before it, and that with the call applied.
abbrev pub OneCallIsWhole : Type 0
OneCallIsWhole = (h : History) (change : Change) (c : FileTree) → is_sync change ≡ false → IsDurable h → IsCrashState (Then h change) c
    → (c ≡ current_tree h) ⊎ IsApplied change (next_number h) (current_tree h) c

-- Behind a sync that was done nothing is pending.
abbrev pub SyncsAreDurable : Type 0
SyncsAreDurable = (h : History) → IsDurable (Then h Sync)

-- A sync that failed, done or not, leaves nothing that a crash wouldn't have left before it.
abbrev pub FailedSyncsAddNothing : Type 0
FailedSyncsAddNothing = (h new : History) (e : Failed) (c : FileTree) → AllAllowed h → Performs {T = Unit {0}} Sync h new (Err e) → IsCrashState new c → IsCrashState h c
