-- What a listing looks at, and what its end tells.
use Rattle.std.proofs.Common.{◌≡◌, List, subst, Option, Some, None}
use Rattle.dired_text.specs.Paths.{Names}
use Rattle.tree_core.specs.declared.faults.Faults.{Faults}
use Rattle.tree_core.specs.declared.meta.Meta.{Meta}
use Rattle.tree_core.specs.declared.node.CallName.{CallName}
use Rattle.tree_core.specs.Faults.{with_fault}
use Rattle.tree_core.specs.FileTree.{FileTree}
use Rattle.tree_core.specs.History.{History, current_tree}
use Rattle.tree_core.specs.Looks.{OnlyLooked, faults_with}
use Rattle.listing_text.specs.declared.switches.Switches.{Switches}
use Rattle.subdir_list.specs.declared.ends.ListEnd.{ListEnd}
use Rattle.subdir_list.specs.declared.ends.ListEnd.TheVariants.{NotDirectory, TreeFault}
use Rattle.subdir_list.specs.Listings.{Refuses, failed_call}
use Rattle.dired_run.specs.Runs.{IsLookFor}
use Rattle.dired_run.specs.Verdicts.{on_dirs}

pub dirs_look : (switches : Switches) (dirs : List Names) (other : Option Names) (call : CallName) → IsLookFor (on_dirs switches dirs other) call
dirs_look switches dirs None call = tt
dirs_look switches dirs (Some other) call = tt

pub other_named : (e : ListEnd) (dir : Names) (other : Option Names) → e ≡ NotDirectory dir → Refuses e other → other ≡ Some dir
other_named e dir other is refuses = subst (λ (x : ListEnd). Refuses x other) is refuses

pub other_faults : (e : ListEnd) (dir : Names) (old now : Faults) → e ≡ NotDirectory dir → now ≡ faults_with (failed_call e) old → now ≡ old
other_faults e dir old now is faults = subst (λ (x : ListEnd). now ≡ faults_with (failed_call x) old) is faults

pub failed_faults : (e : ListEnd) (call : CallName) (old now : Faults) → e ≡ TreeFault call → now ≡ faults_with (failed_call e) old → now ≡ with_fault call old
failed_faults e call old now is faults = subst (λ (x : ListEnd). now ≡ faults_with (failed_call x) old) is faults

pub failed_look : (e : ListEnd) (call : CallName) (old now : History) (fields fields_now : Names → Meta) (found found_now : FileTree) → e ≡ TreeFault call
    → OnlyLooked (failed_call e) old now fields fields_now found found_now → found_now ≡ current_tree old
failed_look e call old now fields fields_now found found_now is looked =
    (subst (λ (x : ListEnd). OnlyLooked (failed_call x) old now fields fields_now found found_now) is looked).before_failed
