-- How a start ends, by what its parts found.
use Rattle.std.proofs.Common.{◌≡◌, ℕ, true, false, ◌<◌, suc, List, [], ◌∷◌, length, map, Option, Some, None, is_some, refl, sym, ◌∙◌, ap, subst, arith}
use Rattle.std.specs.FinMap.{get}
use Rattle.std.specs.List.{slice_get}
use Rattle.std.specs.Option.{option_map}
use Rattle.commit_journal.specs.declared.fault.JournalFault.{JournalFault}
use Rattle.commit_journal.specs.declared.fault.JournalFault.TheVariants.{BadJournal}
use Rattle.commit_journal.specs.Faults.{IsFault, IsRefused}
use Rattle.commit_journal.specs.Grammar.{IsJournal}
use Rattle.dired_text.specs.Paths.{Names}
use Rattle.commit_steps.specs.declared.step.Step.{Step}
use Rattle.commit_steps.specs.Staging.{staged, staging, staging_name}
use Rattle.staging_names.specs.declared.staged_name.Journal as journal
use Rattle.staging_names.specs.declared.staged_name.StagedName.{StagedName}
use Rattle.staging_names.specs.declared.standing.Found.{Found}
use Rattle.staging_names.specs.declared.standing.Standing.{Standing}
use Rattle.staging_names.specs.Names.{journal_name, name_read}
use Rattle.staging_names.specs.Tests.{beyond_place, foreign_place, journal_of, standing_of}
use Rattle.tree_core.specs.declared.node.Kind.{Kind}
use Rattle.tree_core.specs.declared.node.Kind.TheVariants as kind
use Rattle.tree_core.specs.declared.node.Node.{Node}
use Rattle.tree_core.specs.declared.node.Node.TheVariants.{Dir, Link, File}
use Rattle.tree_core.specs.Fields.{names_in}
use Rattle.tree_core.specs.History.{History, current_tree}
use Rattle.tree_core.specs.FileTree.{FileTree, IsDir, IsFile, is_dir_node, kind_of}
use Rattle.recovery_start.specs.declared.end.StartEnd.{StartEnd}
use Rattle.recovery_start.specs.declared.end.StartEnd.TheVariants as end
use Rattle.recovery_start.specs.Start.{HasSteps, IsEnd, by_count, by_name, no_directory, IsForeignEnd, IsJournalEnd, found_in, is_told, name_found}
use Rattle.recovery_start.proofs.StartLemmas.{journal_file}

-- the names and what stands under them were read, nothing is foreign, and this stands
pub record Read (t : FileTree) (names : List (List ℕ)) (found : List Found) : Type 0 where
  pub dir : IsDir t staging
  pub names_are : names ≡ names_in t staging
  pub found_is : found ≡ found_in t

pub record Sorted (t : FileTree) (found : List Found) (s : Standing) : Type 0 where
  pub none : foreign_place found ≡ None
  pub is : s ≡ standing_of found

pub journal_is : (t : FileTree) (names : List (List ℕ)) (found : List Found) (s : Standing) → Read t names found → Sorted t found s → s.journal ≡ journal_of (found_in t)
journal_is t names found s read sorted = ap (λ (x : Standing). x.journal) sorted.is ∙ ap journal_of read.found_is

none_is : (t : FileTree) (names : List (List ℕ)) (found : List Found) (s : Standing) → Read t names found → Sorted t found s → foreign_place (found_in t) ≡ None
none_is t names found s read sorted = sym (ap foreign_place read.found_is) ∙ sorted.none

pub steps_file : (t : FileTree) (names : List (List ℕ)) (found : List Found) (s : Standing) → Read t names found → Sorted t found s → (j : journal.Journal) → s.journal ≡ Some j → IsFile t (staged (journal_name j))
steps_file t names found s read sorted j e = journal_file t (none_is t names found s read sorted) j (sym (journal_is t names found s read sorted) ∙ e)

pub foreign_name : (t : FileTree) (names : List (List ℕ)) (found : List Found) (place : ℕ) (e : StartEnd) → Read t names found → foreign_place found ≡ Some place → IsForeignEnd (slice_get names place) e → IsEnd t e
foreign_name t names found place (end.Foreign name) read foreign is =
    by_name read.dir place (sym (ap foreign_place read.found_is) ∙ foreign) (sym (ap (λ (l : List (List ℕ)). slice_get l place) read.names_are) ∙ is)
foreign_name t names found place (end.BadJournal offset) read foreign is = absurd is
foreign_name t names found place end.Memory read foreign is = tt
foreign_name t names found place (end.TreeFault call) read foreign is = absurd is

pub foreign_count : (t : FileTree) (names : List (List ℕ)) (found : List Found) (s : Standing) (steps : List Step) (place : ℕ) (e : StartEnd) → Read t names found → Sorted t found s
    → HasSteps t s.journal steps → beyond_place found (length steps) ≡ Some place → IsForeignEnd (slice_get names place) e → IsEnd t e
foreign_count t names found s steps place (end.Foreign name) read sorted has beyond is =
    by_count read.dir (none_is t names found s read sorted) steps (subst (λ (j : Option journal.Journal). HasSteps t j steps) (journal_is t names found s read sorted) has) place
    (sym (ap (λ (l : List Found). beyond_place l (length steps)) read.found_is) ∙ beyond) (sym (ap (λ (l : List (List ℕ)). slice_get l place) read.names_are) ∙ is)
foreign_count t names found s steps place (end.BadJournal offset) read sorted has beyond is = absurd is
foreign_count t names found s steps place end.Memory read sorted has beyond is = tt
foreign_count t names found s steps place (end.TreeFault call) read sorted has beyond is = absurd is

pub journal_end : (t : FileTree) (names : List (List ℕ)) (found : List Found) (s : Standing) (e : StartEnd) → Read t names found → Sorted t found s → IsJournalEnd t s.journal e → IsEnd t e
journal_end t names found s (end.Foreign name) read sorted is = absurd is
journal_end t names found s (end.BadJournal offset) read sorted is =
    let P : Option journal.Journal → Type 0 = λ j. IsJournalEnd t j (end.BadJournal offset) in
    record { dir = read.dir; in_order = none_is t names found s read sorted; bad = subst P (journal_is t names found s read sorted) is }
journal_end t names found s end.Memory read sorted is = tt
journal_end t names found s (end.TreeFault call) read sorted is = tt

pub untold_end : (t : FileTree) (e : StartEnd) → is_told e ≡ false → IsEnd t e
untold_end t (end.Foreign name) e = cc
untold_end t (end.BadJournal offset) e = cc
untold_end t end.Memory e = tt
untold_end t (end.TreeFault call) e = tt

mapped : {X Y : Type 0} (f : X → Y) (xs : List X) → length (map f xs) ≡ length xs
mapped f [] = refl
mapped f (x ∷ xs) = ap suc (mapped f xs)

-- As many names were read as things were found.
pub as_long : (names : List (List ℕ)) (found : List Found) → map name_found found ≡ map name_read names → length found ≡ length names
as_long names found e = sym (mapped name_found found) ∙ ap (λ (l : List StagedName). length l) e ∙ mapped name_read names

pub place_in : (names : List (List ℕ)) (found : List Found) (place : ℕ) → map name_found found ≡ map name_read names → place < length found → place < length names
place_in names found place e within = let long = as_long names found e in omega arith

-- A look at the tree with another history that is the same.
pub same_file : (h k : History) (p : Names) → h ≡ k → IsFile (current_tree k) p → IsFile (current_tree h) p
same_file h k p e file = subst (λ (x : History). IsFile (current_tree x) p) (sym e) file

-- Where the journal is refused at a place, that is the fault.
pub refused_at : (bytes : List ℕ) (fault : JournalFault) (offset : ℕ) → fault ≡ BadJournal offset → IsRefused bytes fault → IsFault bytes offset × ((steps : List Step) → ¬ (IsJournal steps bytes))
refused_at bytes fault offset is refused = subst (IsRefused bytes) is refused

pub same_steps : (h k : History) (j : Option journal.Journal) (steps : List Step) → h ≡ k → HasSteps (current_tree h) j steps → HasSteps (current_tree k) j steps
same_steps h k j steps e has = subst (λ (x : History). HasSteps (current_tree x) j steps) e has

-- Something else than a directory stands at the staging directory's path.
pub not_directory : (t : FileTree) (k : Kind) (e : StartEnd) → option_map kind_of (get t staging) ≡ Some k → (k ≡ kind.Dir → ⊥) → IsForeignEnd (Some staging_name) e → IsEnd t e
not_directory t k (end.Foreign name) seen other is = no_directory (stands (get t staging) seen) (no_dir (get t staging) seen) (same name is)
  where
    stands : (o : Option Node) → option_map kind_of o ≡ Some k → is_some o ≡ true
    stands None e = cc
    stands (Some node) e = refl

    some_kind : (x y : Kind) → Some x ≡ Some y → x ≡ y
    some_kind x y e = cc

    no_dir : (o : Option Node) → option_map kind_of o ≡ Some k → is_dir_node o ≡ false
    no_dir None e = refl
    no_dir (Some (Dir mode)) e = absurd (other (sym (some_kind kind.Dir k e)))
    no_dir (Some (Link target)) e = refl
    no_dir (Some (File number bytes mode)) e = refl

    same : (name : List ℕ) → Some staging_name ≡ Some name → name ≡ staging_name
    same name e = cc
not_directory t k (end.BadJournal offset) seen other is = absurd is
not_directory t k end.Memory seen other is = tt
not_directory t k (end.TreeFault call) seen other is = absurd is
