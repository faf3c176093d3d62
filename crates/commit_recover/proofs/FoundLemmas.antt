-- What stands in the staging directory is what was found, and fits the row of the journal.
use Rattle.std.proofs.Common.{◌≡◌, ◌⊎◌, inl, inr, ℕ, suc, ◌+◌, ◌-◌, ◌<◌, ◌^◌, Bool, true, false, ◌&&◌, ◌||◌, List, [], ◌∷◌, map, drop, cond, Option, Some, None, is_some, refl, sym, ◌∙◌, ap, subst, arith}
use Rattle.std.specs.Prelude.{is_none, IsTrue}
use Rattle.std.specs.FinMap.{get}
use Rattle.std.specs.List.{AllByRecursion, find, list_any, position}
use Rattle.std.specs.Option.{option_map}
use Rattle.std.specs.Str.{bytes_eq}
use Rattle.std.proofs.lemmas.Slice.Eq.{bytes_eq-Decides}
use Rattle.commit_states.specs.Interrupted.{IsFileNode}
use Rattle.commit_steps.specs.Staging.{staged, staging, new_journal}
use Rattle.commit_steps.proofs.NumberLemmas.{and_both}
use Rattle.recovery_start.proofs.OneLemmas.{position-cons}
use Rattle.recovery_start.specs.Start.{found_at, found_in, has_none, is_held_name}
use Rattle.staging_names.specs.declared.entry_name.EntryName.{EntryName}
use Rattle.staging_names.specs.declared.entry_name.Role.{Role}
use Rattle.staging_names.specs.declared.entry_name.Role.TheVariants.{Fresh, Held, Temporary}
use Rattle.staging_names.specs.declared.staged_name.Journal as journal
use Rattle.staging_names.specs.declared.staged_name.Marker as marker
use Rattle.staging_names.specs.declared.staged_name.StagedName.{StagedName}
use Rattle.staging_names.specs.declared.staged_name.StagedName.TheVariants.{New, Journal, Marker, Entry, Other}
use Rattle.staging_names.specs.declared.standing.Found.{Found}
use Rattle.staging_names.specs.Laws.{IsExact, IsInOrder}
use Rattle.staging_names.specs.Names.{IsSpelled, journal_name, marker_name, name_of, name_read}
use Rattle.staging_names.specs.Tests.{allows_entry, allows_marker, behind_place, fits, fits_name, is_file, is_file_or_link, is_journal, is_kind_for, is_marker, journal_at, journal_in, journal_of, marker_at, marker_in, marker_of, second_position}
use Rattle.staging_names.proofs.NameLemmas.{reads_spelled}
use Rattle.staging_names.proofs.OrderLemmas.{none_at}
use Rattle.step_trees.specs.Entries.{IsFileOrLink}
use Rattle.tree_core.specs.declared.node.Node.{Node}
use Rattle.tree_core.specs.declared.node.Node.TheVariants.{Dir, Link, File}
use Rattle.tree_core.specs.Fields.{names_in}
use Rattle.tree_core.specs.FileTree.{FileTree, IsEmptyAt, Stands, is_dir_node, kind_of}
use Rattle.tree_core.proofs.NameLemmas.{names_end, names_stand}

pub not_both : true ≡ false → ⊥
not_both e = cc

-- ---- at most one

none_map : {X Y : Type 0} (f : X → Y) (o : Option X) → option_map f o ≡ None → o ≡ None
none_map f None e = refl
none_map f (Some x) e = cc

dropped : {X : Type 0} (x : X) (xs : List X) (i : ℕ) → drop (suc i + 1) (x ∷ xs) ≡ drop (i + 1) xs
dropped x xs i = let more : suc i + 1 ≡ suc (i + 1) = omega arith in ap (λ (k : ℕ). drop k (x ∷ xs)) more

rest_of : {X : Type 0} (p : X → Bool) (x : X) (xs : List X) (o : Option ℕ) → behind_place p (x ∷ xs) (option_map suc o) ≡ None → behind_place p xs o ≡ None
rest_of p x xs None e = refl
rest_of p x xs (Some i) e =
    let none : position p (drop (suc i + 1) (x ∷ xs)) ≡ None = none_map (λ (j : ℕ). suc i + 1 + j) (position p (drop (suc i + 1) (x ∷ xs))) e in
    ap (option_map (λ (j : ℕ). i + 1 + j)) (sym (ap (position p) (dropped x xs i)) ∙ none)

-- where no second one passes a test, the first that passes is the only one
only_first : {X : Type 0} (p : X → Bool) (xs : List X) → second_position p xs ≡ None → AllByRecursion (λ y. p y ≡ true → find p xs ≡ Some y) xs
only_first p [] e = tt
only_first {X} p (x ∷ xs) e = by_test (only_first p xs) (p x) refl
  where
    none_pass : (ys : List X) → AllByRecursion (λ y. p y ≡ false) ys → AllByRecursion (λ y. p y ≡ true → find p (x ∷ xs) ≡ Some y) ys
    none_pass [] all = tt
    none_pass (y ∷ ys) all = ((λ yes. absurd (not_both (sym yes ∙ all.0))), none_pass ys all.1)

    moved : find p (x ∷ xs) ≡ find p xs → (ys : List X) → AllByRecursion (λ y. p y ≡ true → find p xs ≡ Some y) ys → AllByRecursion (λ y. p y ≡ true → find p (x ∷ xs) ≡ Some y) ys
    moved same [] all = tt
    moved same (y ∷ ys) all = ((λ yes. same ∙ all.0 yes), moved same ys all.1)

    by_test : (second_position p xs ≡ None → AllByRecursion (λ y. p y ≡ true → find p xs ≡ Some y) xs) → (b : Bool) → p x ≡ b → AllByRecursion (λ y. p y ≡ true → find p (x ∷ xs) ≡ Some y) (x ∷ xs)
    by_test rest true t =
        let first : position p (x ∷ xs) ≡ Some 0 = position-cons p x xs ∙ ap (λ (b : Bool). cond b (Some 0) (option_map suc (position p xs))) t in
        let none : position p xs ≡ None = none_map (λ (j : ℕ). 0 + 1 + j) (position p xs) (sym (ap (behind_place p (x ∷ xs)) first) ∙ e) in
        let found : find p (x ∷ xs) ≡ Some x = ap (λ (b : Bool). cond b (Some x) (find p xs)) t in
        ((λ yes. found), none_pass xs (none_at p xs none))
    by_test rest false t =
        let place : position p (x ∷ xs) ≡ option_map suc (position p xs) = position-cons p x xs ∙ ap (λ (b : Bool). cond b (Some 0) (option_map suc (position p xs))) t in
        let later : second_position p xs ≡ None = rest_of p x xs (position p xs) (sym (ap (behind_place p (x ∷ xs)) place) ∙ e) in
        let same : find p (x ∷ xs) ≡ find p xs = ap (λ (b : Bool). cond b (Some x) (find p xs)) t in
        ((λ yes. absurd (not_both (sym yes ∙ t))), moved same xs (rest later))

-- ---- each name that stands

mapped_at : (f : List ℕ → Found) (P : Found → Type 0) (names : List (List ℕ)) → AllByRecursion P (map f names) → (n : List ℕ) → list_any (bytes_eq n) names ≡ true → P (f n)
mapped_at f P [] all n e = absurd (not_both (sym e))
mapped_at f P (x ∷ names) all n e = by_test (mapped_at f P names all.1 n) (bytes_eq n x) refl
  where
    by_test : (list_any (bytes_eq n) names ≡ true → P (f n)) → (b : Bool) → bytes_eq n x ≡ b → P (f n)
    by_test rest true s = subst (λ (m : List ℕ). P (f m)) (sym ((bytes_eq-Decides n x).0 s)) all.0
    by_test rest false s = rest (sym (ap (λ (b : Bool). b || list_any (bytes_eq n) names) s) ∙ e)

pub at_found : (t : FileTree) (P : Found → Type 0) → AllByRecursion P (found_in t) → (n : List ℕ) → Stands t (staged n) → P (found_at t n)
at_found t P all n stands = mapped_at (found_at t) P (names_in t staging) all n (names_stand t staging n ∙ stands)

-- ---- kinds

file_is : (node : Node) → is_file (Some (kind_of node)) ≡ true → IsFileNode node
file_is (Dir mode) e = absurd (not_both (sym e))
file_is (Link target) e = absurd (not_both (sym e))
file_is (File number bytes mode) e = tt

link_is : (node : Node) → is_file_or_link (Some (kind_of node)) ≡ true → IsFileOrLink node
link_is (Dir mode) e = absurd (not_both (sym e))
link_is (Link target) e = tt
link_is (File number bytes mode) e = tt

either : (a b : Bool) → (a || b) ≡ true → (a ≡ true) ⊎ (b ≡ true)
either true b e = inl refl
either false b e = inr e

none_is : {X : Type 0} (o : Option X) → is_none o ≡ true → o ≡ None
none_is None e = refl
none_is (Some x) e = absurd (not_both (sym e))

nothing_in : (names : List (List ℕ)) → has_none names ≡ true → names ≡ []
nothing_in [] e = refl
nothing_in (n ∷ names) e = absurd (not_both (sym e))

-- what an entry of a role may be
abbrev pub MayBe : FileTree → List ℕ → Node → Role → Type 0
MayBe t name node Fresh = IsFileOrLink node
MayBe t name node Held = IsFileOrLink node ⊎ IsEmptyAt t (staged name)
MayBe t name node Temporary = Unit {0}

may_be : (t : FileTree) (n : List ℕ) (node : Node) (role : Role) → is_kind_for role (Some (kind_of node)) (found_at t n).is_empty ≡ true → MayBe t n node role
may_be t n node Fresh e = link_is node e
may_be t n node Held e = by_either (either (is_file_or_link (Some (kind_of node))) (found_at t n).is_empty e)
  where
    by_either : (is_file_or_link (Some (kind_of node)) ≡ true) ⊎ ((found_at t n).is_empty ≡ true) → MayBe t n node Held
    by_either (inl kind) = inl (link_is node kind)
    by_either (inr empty) =
        inr ((names_end t (staged n)).0 (nothing_in (names_in t (staged n)) (and_both (is_held_name (name_read n) && is_dir_node (get t (staged n))) (has_none (names_in t (staged n))) empty).1))
may_be t n node Temporary e = tt

-- ---- what stands, by its name

pub data Stood (t : FileTree) (name : List ℕ) (node : Node) : Type 0 where
  a_new : name ≡ new_journal → journal_of (found_in t) ≡ None → IsFileNode node → Stood t name node
  a_journal : (j : journal.Journal) → journal_of (found_in t) ≡ Some j → name ≡ journal_name j → IsFileNode node → Stood t name node
  a_marker : (m : marker.Marker) → marker_of (found_in t) ≡ Some m → name_read name ≡ Marker m → name ≡ marker_name m.side m.number → IsTrue (allows_marker (journal_of (found_in t)) m) → IsFileNode node → Stood t name node
  an_entry : (e : EntryName) → name_read name ≡ Entry e → name ≡ name_of e → e.number < 2 ^ 32 → IsTrue (allows_entry (journal_of (found_in t)) e.role) → MayBe t name node e.role → Stood t name node

pub spelled_as : (n : List ℕ) (what : StagedName) → name_read n ≡ what → IsExact what → IsSpelled n what
spelled_as n what e exact =
    let P : StagedName → Type 0 = λ w. IsExact w → IsSpelled n w in
    let right : IsExact what → IsSpelled n what = subst P e (reads_spelled n) in
    right exact

module _ (t : FileTree) (order : IsInOrder (found_in t)) (exact : (m : marker.Marker) → marker_of (found_in t) ≡ Some m → m.number < 2 ^ 64 - 1) where
  pub one_journal : (n : List ℕ) → Stands t (staged n) → (j : journal.Journal) → name_read n ≡ Journal j → journal_of (found_in t) ≡ Some j
  one_journal n stands j e =
      let first : find is_journal (found_in t) ≡ Some (found_at t n) =
      at_found t (λ f. is_journal f ≡ true → find is_journal (found_in t) ≡ Some f) (only_first is_journal (found_in t) order.one_journal) n stands (ap (λ (w : StagedName). is_some (journal_in w)) e) in
      ap journal_at first ∙ ap journal_in e

  pub one_marker : (n : List ℕ) → Stands t (staged n) → (m : marker.Marker) → name_read n ≡ Marker m → marker_of (found_in t) ≡ Some m
  one_marker n stands m e =
      let first : find is_marker (found_in t) ≡ Some (found_at t n) =
      at_found t (λ f. is_marker f ≡ true → find is_marker (found_in t) ≡ Some f) (only_first is_marker (found_in t) order.one_marker) n stands (ap (λ (w : StagedName). is_some (marker_in w)) e) in
      ap marker_at first ∙ ap marker_in e

  module _ (n : List ℕ) (node : Node) (is : get t (staged n) ≡ Some node) where
    abbrev row : Option journal.Journal
    row = journal_of (found_in t)

    stands_here : Stands t (staged n)
    stands_here = ap is_some is

    by_what : (what : StagedName) → name_read n ≡ what → fits_name row what (Some (kind_of node)) (found_at t n).is_empty ≡ true → Stood t n node
    by_what New e fit = let parts = and_both (is_none row) (is_file (Some (kind_of node))) fit in a_new (spelled_as n New e tt) (none_is row parts.0) (file_is node parts.1)
    by_what (Journal j) e fit = a_journal j (one_journal n stands_here j e) (spelled_as n (Journal j) e tt) (file_is node fit)
    by_what (Marker m) e fit =
        let parts = and_both (allows_marker row m) (is_file (Some (kind_of node))) fit in
        let one = one_marker n stands_here m e in
        a_marker m one e (spelled_as n (Marker m) e (exact m one)) parts.0 (file_is node parts.1)
    by_what (Entry x) e fit =
        let parts = and_both (allows_entry row x.role) (is_kind_for x.role (Some (kind_of node)) (found_at t n).is_empty) fit in
        let s = spelled_as n (Entry x) e tt in
        an_entry x e s.0 s.1 parts.0 (may_be t n node x.role parts.1)
    by_what Other e fit = absurd (not_both (sym fit))

    pub stood : Stood t n node
    stood =
        let fit : fits row (found_at t n) ≡ true = at_found t (λ f. IsTrue (fits row f)) order.fit n stands_here in
        by_what (name_read n) refl (sym (ap (λ (o : Option Node). fits_name row (name_read n) (option_map kind_of o) (found_at t n).is_empty) is) ∙ fit)
