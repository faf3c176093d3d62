-- What the tests of names say of a tree whose staging directory holds only what a row allows.
use Rattle.std.proofs.Common.{◌≡◌, ◌≢◌, ◌⊎◌, inl, inr, ℕ, ◌-◌, ◌||◌, Bool, true, false, List, [], ◌∷◌, map, Option, Some, None, is_some, refl, sym, ◌∙◌, ap}
use Rattle.std.specs.Prelude.{IsTrue}
use Rattle.std.specs.List.{AllByRecursion, find, list_any}
use Rattle.std.specs.Ordering.{nat_cmp, is_eq}
use Rattle.std.specs.Cmp.Lexicographic.{slice_cmp}
use Rattle.std.specs.Str.{bytes_eq}
use Rattle.std.specs.declared.cmp.Ordering.TheVariants.{Less}
use Rattle.std.proofs.lemmas.Map.Text.{is_eq-slice_cmp}
use Rattle.std.proofs.lemmas.Slice.Eq.{bytes_eq-Decides}
use Rattle.commit_steps.specs.Staging.{staged, staging}
use Rattle.staging_names.specs.declared.staged_name.Journal as journal
use Rattle.staging_names.specs.declared.staged_name.Journal.TheVariants.{Plan}
use Rattle.staging_names.specs.declared.staged_name.Marker as marker
use Rattle.staging_names.specs.declared.staged_name.StagedName.{StagedName}
use Rattle.staging_names.specs.declared.staged_name.StagedName.TheVariants.{Journal, Marker}
use Rattle.staging_names.specs.declared.standing.Found.{Found}
use Rattle.staging_names.specs.Names.{name_read}
use Rattle.staging_names.specs.Tests.{fits, is_journal, is_marker, journal_at, journal_in, journal_of, marker_at, marker_in, marker_of, behind_place, second_position}
use Rattle.staging_names.proofs.OrderLemmas.{not_foreign}
use Rattle.tree_core.proofs.NameLemmas.{names_stand, names_rise}
use Rattle.tree_core.specs.Fields.{names_in}
use Rattle.tree_core.specs.FileTree.{FileTree, Stands}
use Rattle.recovery_start.specs.Rows.{Shows}
use Rattle.recovery_start.specs.Start.{found_at, found_in}
use Rattle.recovery_start.proofs.OneLemmas.{at_none, found_first, no_second, not_found, only_one}

-- ---- each name in the staging directory

or_left : (a b : Bool) → a ≡ true → (a || b) ≡ true
or_left a b p = cc

or_right : (a b : Bool) → b ≡ true → (a || b) ≡ true
or_right true b p = refl
or_right false b p = p

each : (P : List ℕ → Type 0) (names : List (List ℕ)) → ((n : List ℕ) → list_any (bytes_eq n) names ≡ true → P n) → AllByRecursion P names
each P [] h = tt
each P (x ∷ xs) h = (h x (or_left (bytes_eq x x) (list_any (bytes_eq x) xs) ((bytes_eq-Decides x x).1 refl)), each P xs (λ n e. h n (or_right (bytes_eq n x) (list_any (bytes_eq n) xs) e)))

each_mapped : {X Y : Type 0} (f : X → Y) (P : Y → Type 0) (xs : List X) → AllByRecursion (λ x. P (f x)) xs → AllByRecursion P (map f xs)
each_mapped f P [] all = tt
each_mapped f P (x ∷ xs) all = (all.0, each_mapped f P xs all.1)

each_found : (t : FileTree) (P : Found → Type 0) → ((n : List ℕ) → Stands t (staged n) → P (found_at t n)) → AllByRecursion P (found_in t)
each_found t P h = each_mapped (found_at t) P (names_in t staging) (each (λ n. P (found_at t n)) (names_in t staging) (λ n e. h n (sym (names_stand t staging n) ∙ e)))

-- where none of what stands passes a test that z passes, z is none of the names
none_of_list : (t : FileTree) (p : Found → Bool) (z : List ℕ) → p (found_at t z) ≡ true → (names : List (List ℕ)) → AllByRecursion (λ f. p f ≡ false) (map (found_at t) names) → list_any (bytes_eq z) names ≡ false
none_of_list t p z passes [] all = refl
none_of_list t p z passes (n ∷ names) all = by_test (bytes_eq z n) refl (none_of_list t p z passes names all.1)
  where
    by_test : (b : Bool) → bytes_eq z n ≡ b → list_any (bytes_eq z) names ≡ false → (bytes_eq z n || list_any (bytes_eq z) names) ≡ false
    by_test true e rest = let clash : true ≡ false = sym passes ∙ ap (λ (x : List ℕ). p (found_at t x)) ((bytes_eq-Decides z n).0 e) ∙ all.0 in cc
    by_test false e rest = ap (λ (b : Bool). b || list_any (bytes_eq z) names) e ∙ rest

not_below : (n : List ℕ) → slice_cmp nat_cmp n n ≡ Less → ⊥
not_below n less = let e : true ≡ false = sym (is_eq-slice_cmp n n ∙ (bytes_eq-Decides n n).1 refl) ∙ ap is_eq less in cc

some_reads : {Y : Type 0} (o : Option Y) → is_some o ≡ true → (y : Y) × (o ≡ Some y)
some_reads None e = cc
some_reads (Some y) e = (y, refl)

not_some : {Y : Type 0} (y : Y) → None ≡ Some y → ⊥
not_some y e = cc

same_some : {Y : Type 0} (x y : Y) → Some x ≡ Some y → x ≡ y
same_some x y e = cc

-- ---- what is read of names

abbrev pub reads : {Y : Type 0} → (StagedName → Option Y) → Found → Bool
reads read f = is_some (read f.name)

abbrev pub read_in : {Y : Type 0} → (StagedName → Option Y) → Option Found → Option Y
read_in read None = None
read_in read (Some f) = read f.name

-- Of the names that stand, v is what is read, and each such is read of one name.
pub record Reads {Y : Type 0} (t : FileTree) (read : StagedName → Option Y) (v : Option Y) : Type 0 where
  pub only : (n : List ℕ) → Stands t (staged n) → (y : Y) → read (name_read n) ≡ Some y → v ≡ Some y
  pub one : (n k : List ℕ) (y : Y) → v ≡ Some y → read (name_read n) ≡ Some y → read (name_read k) ≡ Some y → n ≡ k
  pub some : (y : Y) → v ≡ Some y → (z : List ℕ) × Stands t (staged z) × (read (name_read z) ≡ Some y)

pub record One {Y : Type 0} (t : FileTree) (read : StagedName → Option Y) (v : Option Y) : Type 0 where
  pub no_second : second_position (reads read) (found_in t) ≡ None
  pub is : read_in read (find (reads read) (found_in t)) ≡ v

one_none : {Y : Type 0} (t : FileTree) (read : StagedName → Option Y) → Reads t read None → One t read None
one_none t read r =
    let none : AllByRecursion (λ (f : Found). reads read f ≡ false) (found_in t) = each_found t (λ f. reads read f ≡ false) (λ n stands. by_test n stands (reads read (found_at t n)) refl) in
    record { no_second = ap (behind_place (reads read) (found_in t)) (at_none (reads read) (found_in t) none); is = ap (read_in read) (not_found (reads read) (found_in t) none) }
  where
    by_test : (n : List ℕ) → Stands t (staged n) → (b : Bool) → reads read (found_at t n) ≡ b → reads read (found_at t n) ≡ false
    by_test n stands true e = let found = some_reads (read (name_read n)) e in absurd (not_some found.0 (r.only n stands found.0 found.1))
    by_test n stands false e = e

each_name : (t : FileTree) (P : List ℕ → Type 0) → ((n : List ℕ) → Stands t (staged n) → P n) → AllByRecursion P (names_in t staging)
each_name t P h = each P (names_in t staging) (λ n e. h n (sym (names_stand t staging n) ∙ e))

-- z stands, so that not all of what stands fails a test that z passes
some_passes : (t : FileTree) (p : Found → Bool) (z : List ℕ) → Stands t (staged z) → p (found_at t z) ≡ true → AllByRecursion (λ f. p f ≡ false) (found_in t) → ⊥
some_passes t p z stands passes all =
    let none : list_any (bytes_eq z) (names_in t staging) ≡ false = none_of_list t p z passes (names_in t staging) all in
    let clash : true ≡ false = sym stands ∙ sym (names_stand t staging z) ∙ none in not_both clash
  where
    not_both : true ≡ false → ⊥
    not_both e = cc

one_some : {Y : Type 0} (t : FileTree) (read : StagedName → Option Y) (y : Y) → Reads t read (Some y) → One t read (Some y)
one_some t read y r = by_place (r.some y refl)
  where
    same : (z n : List ℕ) → read (name_read z) ≡ Some y → Stands t (staged n) → reads read (found_at t n) ≡ true → n ≡ z
    same z n is stands e =
        let found = some_reads (read (name_read n)) e in
        let this : Some y ≡ Some found.0 = r.only n stands found.0 found.1 in
        r.one n z y refl (found.1 ∙ sym this) is

    by_place : (z : List ℕ) × Stands t (staged z) × (read (name_read z) ≡ Some y) → One t read (Some y)
    by_place (z, stands, is) =
        let all : AllByRecursion (λ (n : List ℕ). reads read (found_at t n) ≡ true → n ≡ z) (names_in t staging) = each_name t (λ n. reads read (found_at t n) ≡ true → n ≡ z) (λ n here e. same z n is here e) in
        record {
          no_second = no_second (reads read) (found_in t) (only_one (slice_cmp nat_cmp) (found_at t) (reads read) not_below z (names_in t staging) all (names_rise t staging));
          is = first z stands is (found_first (found_at t) (reads read) z (names_in t staging) all);
        }
      where
        first : (z : List ℕ) → Stands t (staged z) → read (name_read z) ≡ Some y
            → AllByRecursion (λ f. reads read f ≡ false) (found_in t) ⊎ (find (reads read) (found_in t) ≡ Some (found_at t z)) → read_in read (find (reads read) (found_in t)) ≡ Some y
        first z stands is (inl none) = absurd (some_passes t (reads read) z stands (ap is_some is) none)
        first z stands is (inr found) = ap (read_in read) found ∙ is

pub one_read : {Y : Type 0} (t : FileTree) (read : StagedName → Option Y) (v : Option Y) → Reads t read v → One t read v
one_read t read None r = one_none t read r
one_read t read (Some y) r = one_some t read y r

-- ---- a row

journal_at_is : (o : Option Found) → journal_at o ≡ read_in journal_in o
journal_at_is None = refl
journal_at_is (Some f) = refl

marker_at_is : (o : Option Found) → marker_at o ≡ read_in marker_in o
marker_at_is None = refl
marker_at_is (Some f) = refl

-- Where the names that stand read as this journal and this marker, and each fits, nothing is foreign.
pub shows : (t : FileTree) (j : Option journal.Journal) (m : Option marker.Marker) → Reads t journal_in j → Reads t marker_in m → ((n : List ℕ) → Stands t (staged n) → fits j (found_at t n) ≡ true)
    → (j ≡ Some Plan → m ≢ None) → Shows t j m
shows t j m js ms each_fits marked =
    let a = one_read t journal_in j js in
    let b = one_read t marker_in m ms in
    let ja : journal_of (found_in t) ≡ j = journal_at_is (find is_journal (found_in t)) ∙ a.is in
    let mb : marker_of (found_in t) ≡ m = marker_at_is (find is_marker (found_in t)) ∙ b.is in
    record {
      in_order = not_foreign (found_in t) (record {
        one_journal = a.no_second;
        fit = each_found t (λ f. IsTrue (fits (journal_of (found_in t)) f)) (λ n stands. ap (λ (row : Option journal.Journal). fits row (found_at t n)) ja ∙ each_fits n stands);
        one_marker = b.no_second;
        marked = λ is none. marked (sym ja ∙ is) (sym mb ∙ none);
      });
      standing = ap (λ (row : Option journal.Journal). record { journal = row; marker = marker_of (found_in t) }) ja ∙ ap (λ (one : Option marker.Marker). record { journal = j; marker = one }) mb;
    }
