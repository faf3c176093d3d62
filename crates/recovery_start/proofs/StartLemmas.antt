-- What the tests of names tell of the tree.
use Rattle.std.proofs.Common.{◌≡◌, ℕ, Bool, true, false, List, [], ◌∷◌, map, cond, Option, Some, None, is_some, refl, sym, ◌∙◌, ap, subst}
use Rattle.std.specs.Prelude.{◌↔◌, IsTrue}
use Rattle.std.specs.FinMap.{get}
use Rattle.std.specs.List.{AllByRecursion, find}
use Rattle.std.specs.Option.{option_map}
use Rattle.dired_text.specs.Paths.{Names}
use Rattle.commit_steps.specs.Staging.{staged, staging}
use Rattle.staging_names.specs.declared.staged_name.Journal as journal
use Rattle.staging_names.specs.declared.staged_name.StagedName.{StagedName}
use Rattle.staging_names.specs.declared.staged_name.StagedName.TheVariants.{New, Journal, Marker, Entry, Other}
use Rattle.staging_names.specs.declared.standing.Found.{Found}
use Rattle.staging_names.specs.Laws.{IsExact}
use Rattle.staging_names.specs.Names.{IsSpelled, journal_name, name_read}
use Rattle.staging_names.specs.Tests.{fits_name, fits, foreign_place, is_file, is_journal, journal_at, journal_in, journal_of}
use Rattle.staging_names.proofs.NameLemmas.{reads_spelled}
use Rattle.staging_names.proofs.OrderLemmas.{in_order}
use Rattle.tree_core.specs.declared.node.Node.{Node}
use Rattle.tree_core.specs.declared.node.Node.TheVariants.{Dir, Link, File}
use Rattle.tree_core.proofs.NameLemmas.{names_end}
use Rattle.tree_core.specs.Fields.{names_in}
use Rattle.tree_core.specs.FileTree.{FileTree, IsEmptyAt, IsFile, is_file_node, kind_of}
use Rattle.recovery_start.specs.Start.{found_at, found_in, has_none}

node_file : (o : Option Node) → is_file (option_map kind_of o) ≡ true → is_file_node o ≡ true
node_file None e = cc
node_file (Some (Dir mode)) e = cc
node_file (Some (Link target)) e = cc
node_file (Some (File number bytes mode)) e = refl

journal_spelled : (n : List ℕ) (j : journal.Journal) → name_read n ≡ Journal j → n ≡ journal_name j
journal_spelled n j e =
    let P : StagedName → Type 0 = λ what. IsExact what → IsSpelled n what in
    let spelled : IsExact (Journal j) → IsSpelled n (Journal j) = subst P e (reads_spelled n) in
    spelled tt

same_some : (j k : journal.Journal) → Some j ≡ Some k → j ≡ k
same_some j k e = cc

at_file : (t : FileTree) (n : List ℕ) (j k : journal.Journal) → name_read n ≡ Journal k → journal_in (name_read n) ≡ Some j → is_file (option_map kind_of (get t (staged n))) ≡ true → IsFile t (staged (journal_name j))
at_file t n j k read e file =
    let same : k ≡ j = same_some k j (sym (ap journal_in read) ∙ e) in
    let name : n ≡ journal_name j = journal_spelled n k read ∙ ap journal_name same in
    subst (λ (m : List ℕ). IsFile t (staged m)) name (node_file (get t (staged n)) file)

by_name : (t : FileTree) (row : Option journal.Journal) (j : journal.Journal) (n : List ℕ) (empty : Bool) (rest : Option Found) → (journal_at rest ≡ Some j → IsFile t (staged (journal_name j)))
    → (what : StagedName) → name_read n ≡ what → IsTrue (fits_name row what (option_map kind_of (get t (staged n))) empty)
    → journal_at (cond (is_some (journal_in what)) (Some (found_at t n)) rest) ≡ Some j → IsFile t (staged (journal_name j))
by_name t row j n empty rest later New read fit e = later e
by_name t row j n empty rest later (Journal k) read fit e = at_file t n j k read e fit
by_name t row j n empty rest later (Marker m) read fit e = later e
by_name t row j n empty rest later (Entry m) read fit e = later e
by_name t row j n empty rest later Other read fit e = later e

found_journal : (t : FileTree) (row : Option journal.Journal) (j : journal.Journal) (names : List (List ℕ)) → AllByRecursion (λ f. IsTrue (fits row f)) (map (found_at t) names)
    → journal_at (find is_journal (map (found_at t) names)) ≡ Some j → IsFile t (staged (journal_name j))
found_journal t row j [] all e = cc
found_journal t row j (n ∷ names) all e =
    by_name t row j n (found_at t n).is_empty (find is_journal (map (found_at t) names)) (found_journal t row j names all.1) (name_read n) refl all.0 e

-- The journal that stands is a file.
pub journal_file : (t : FileTree) → foreign_place (found_in t) ≡ None → (j : journal.Journal) → journal_of (found_in t) ≡ Some j → IsFile t (staged (journal_name j))
journal_file t none j e = found_journal t (journal_of (found_in t)) j (names_in t staging) (in_order (found_in t) none).fit e

-- ---- whether a directory is empty

same_truth : (a : Bool) (l : List (List ℕ)) (P : Type 0) → (IsTrue a ↔ P) → ((l ≡ []) ↔ P) → a ≡ has_none l
same_truth true [] P one two = refl
same_truth false [] P one two = one.1 (two.0 refl)
same_truth true (n ∷ l) P one two = let no : n ∷ l ≡ [] = two.1 (one.0 refl) in cc
same_truth false (n ∷ l) P one two = refl

pub empty_is : (t : FileTree) (p : Names) (empty : Bool) → (IsTrue empty ↔ IsEmptyAt t p) → empty ≡ has_none (names_in t p)
empty_is t p empty is = same_truth empty (names_in t p) (IsEmptyAt t p) is (names_end t p)
