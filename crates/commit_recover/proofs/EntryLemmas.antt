-- The entries of a start are those that the courses look at: in order, each once, and the steps name no others.
use Rattle.std.proofs.Common.{◌≡◌, ◌⊎◌, inl, inr, ⊎_elim, ℕ, zero, suc, ◌<◌, ◌^◌, Bool, true, false, ◌||◌, List, [], ◌∷◌, ◌++◌, map, cond, Option, Some, None, refl, sym, ◌∙◌, ap, subst, arith}
use Rattle.std.specs.Prelude.{Contains, IsTrue}
use Rattle.std.specs.List.{AllByRecursion, cons_option, list_any}
use Rattle.std.specs.List.Sorted.{IsStrictlySortedBy}
use Rattle.std.specs.Ordering.{nat_cmp}
use Rattle.std.specs.Str.{bytes_eq}
use Rattle.std.specs.declared.cmp.Ordering.TheVariants.{Less}
use Rattle.std.proofs.lemmas.Cmp.{ranked}
use Rattle.std.proofs.lemmas.Map.Keys.{sorted_head, sorted_tail}
use Rattle.std.proofs.lemmas.Slice.Eq.{bytes_eq-Decides}
use Rattle.commit_steps.specs.declared.step.Step.{Step}
use Rattle.commit_steps.specs.declared.step.Step.TheVariants.{MakeDir, Rename, Mode}
use Rattle.commit_steps.specs.Staging.{staged, staging, staging_name, temporary, held, fresh_name, IsEntryName}
use Rattle.commit_steps.specs.Steps.{IsOutside, IsStepPath}
use Rattle.dired_text.specs.Paths.{Names}
use Rattle.recovery_calls.specs.Underway.{AreOnce, IsNamed, NamesAmong, IsAmong as IsPathAmong}
use Rattle.recovery_courses.specs.Ends.{stands_in}
use Rattle.recovery_courses.specs.Laws.{AreEntries, ComeInOrder, ComesBefore, IsAmong, IsOneOf, rank}
use Rattle.recovery_start.specs.Start.{found_at, found_in, name_found}
use Rattle.staging_names.specs.declared.entry_name.EntryName.{EntryName}
use Rattle.staging_names.specs.declared.entry_name.Role.{Role}
use Rattle.staging_names.specs.declared.entry_name.Role.TheVariants.{Fresh, Held, Temporary}
use Rattle.staging_names.specs.declared.staged_name.StagedName.{StagedName}
use Rattle.staging_names.specs.declared.staged_name.StagedName.TheVariants.{New, Journal, Marker, Entry, Other}
use Rattle.staging_names.specs.declared.standing.Found.{Found}
use Rattle.staging_names.specs.Entries.{AreEntries as AreFound, entries_found, entries_named, entries_of_step, entry_at, entry_cmp, entry_in, listed}
use Rattle.staging_names.specs.Names.{name_of, name_read}
use Rattle.staging_names.proofs.NameLemmas.{names_read}
use Rattle.step_trees.specs.Groups.{all_paths}
use Rattle.step_trees.specs.Steps.{IsStep}
use Rattle.tree_core.specs.Fields.{names_in}
use Rattle.tree_core.specs.FileTree.{FileTree}
use Rattle.tree_core.proofs.NameLemmas.{names_stand}
use Rattle.commit_recover.proofs.FoundLemmas.{not_both, spelled_as}

abbrev pub IsSmall : EntryName → Type 0
IsSmall e = e.number < 2 ^ 32

-- ---- one of a list

pub contains_among : (es : List EntryName) (e : EntryName) → Contains es e → IsAmong e es
contains_among [] e (k, lt, is) = absurd (omega arith)
contains_among (f ∷ es) e (zero, lt, is) = inl (sym is)
contains_among (f ∷ es) e (suc k, lt, is) = inr (contains_among es e (k, omega arith, is))

pub among_contains : (es : List EntryName) (e : EntryName) → IsAmong e es → Contains es e
among_contains [] e among = absurd among
among_contains (f ∷ es) e (inl same) = (0, omega arith, sym same)
among_contains (f ∷ es) e (inr more) = let c = among_contains es e more in let lt = c.1 in (suc c.0, omega arith, c.2)

among_left : (es fs : List EntryName) (e : EntryName) → IsAmong e es → IsAmong e (es ++ fs)
among_left [] fs e among = absurd among
among_left (x ∷ es) fs e (inl same) = inl same
among_left (x ∷ es) fs e (inr more) = inr (among_left es fs e more)

among_right : (es fs : List EntryName) (e : EntryName) → IsAmong e fs → IsAmong e (es ++ fs)
among_right [] fs e among = among
among_right (x ∷ es) fs e among = inr (among_right es fs e among)

among_either : (es fs : List EntryName) (e : EntryName) → IsAmong e (es ++ fs) → IsAmong e es ⊎ IsAmong e fs
among_either [] fs e among = inr among
among_either (x ∷ es) fs e (inl same) = inl (inl same)
among_either (x ∷ es) fs e (inr more) = ⊎_elim (λ a. inl (inr a)) (λ b. inr b) (among_either es fs e more)

among_listed : (o : Option EntryName) (e : EntryName) → o ≡ Some e → IsAmong e (listed o)
among_listed o e is = subst (λ (x : Option EntryName). IsAmong e (listed x)) (sym is) (inl refl)

listed_among : (o : Option EntryName) (e : EntryName) → IsAmong e (listed o) → o ≡ Some e
listed_among None e among = absurd among
listed_among (Some x) e (inl same) = ap (λ (y : EntryName). Some y) (sym same)
listed_among (Some x) e (inr more) = absurd more

each_among : (P : EntryName → Type 0) (es : List EntryName) → ((e : EntryName) → IsAmong e es → P e) → AllByRecursion P es
each_among P [] h = tt
each_among P (x ∷ es) h = (h x (inl refl), each_among P es (λ e among. h e (inr among)))

-- ---- names

pub entry_read : (e : EntryName) → IsSmall e → name_read (name_of e) ≡ Entry e
entry_read e small = names_read (name_of e) (Entry e) tt (refl, small)

same_entry : (e f : EntryName) → Entry e ≡ Entry f → e ≡ f
same_entry e f is = cc

pub named_once : (e f : EntryName) → IsSmall e → IsSmall f → name_of e ≡ name_of f → e ≡ f
named_once e f one two same = same_entry e f (sym (entry_read e one) ∙ ap name_read same ∙ entry_read f two)

entry_what : (what : StagedName) (e : EntryName) → entry_in what ≡ Some e → what ≡ Entry e
entry_what New e is = cc
entry_what (Journal j) e is = cc
entry_what (Marker m) e is = cc
entry_what (Entry x) e is = cc
entry_what Other e is = cc

read_small : (n : List ℕ) (e : EntryName) → entry_in (name_read n) ≡ Some e → IsSmall e
read_small n e is = (spelled_as n (Entry e) (entry_what (name_read n) e is) tt).1

pub among_named : (es : List EntryName) (e : EntryName) → IsAmong e es → IsNamed (name_of e) es
among_named [] e among = absurd among
among_named (x ∷ es) e (inl same) = inl (ap name_of same)
among_named (x ∷ es) e (inr more) = inr (among_named es e more)

-- ---- the order

less_is : (m n : ℕ) → nat_cmp m n ≡ Less → m < n
less_is m n less = ranked m n Less (sym less)

by_roles : (r s : Role) (m n : ℕ) → entry_cmp (record { role = r; number = m }) (record { role = s; number = n }) ≡ Less → (rank r < rank s) ⊎ ((r ≡ s) × (m < n))
by_roles Fresh Fresh m n less = inr (refl, less_is m n less)
by_roles Fresh Held m n less = inl (omega arith)
by_roles Fresh Temporary m n less = inl (omega arith)
by_roles Held Fresh m n less = cc
by_roles Held Held m n less = inr (refl, less_is m n less)
by_roles Held Temporary m n less = inl (omega arith)
by_roles Temporary Fresh m n less = cc
by_roles Temporary Held m n less = cc
by_roles Temporary Temporary m n less = inr (refl, less_is m n less)

comes_before : (e f : EntryName) → entry_cmp e f ≡ Less → ComesBefore e f
comes_before e f less = by_roles e.role f.role e.number f.number less

all_before : (e : EntryName) (es : List EntryName) → AllByRecursion (λ f. entry_cmp e f ≡ Less) es → AllByRecursion (ComesBefore e) es
all_before e [] all = tt
all_before e (f ∷ es) all = (comes_before e f all.0, all_before e es all.1)

in_order : (es : List EntryName) → IsStrictlySortedBy entry_cmp es → ComeInOrder es
in_order [] rise = tt
in_order (e ∷ es) rise = (all_before e es (sorted_head entry_cmp e es rise), in_order es (sorted_tail entry_cmp e es rise))

not_itself : (e : EntryName) → ComesBefore e e → ⊥
not_itself e (inl less) = absurd (omega arith)
not_itself e (inr same) = let less = same.1 in absurd (omega arith)

not_later : (e : EntryName) (es : List EntryName) → IsSmall e → AllByRecursion IsSmall es → AllByRecursion (ComesBefore e) es → IsNamed (name_of e) es → ⊥
not_later e [] one small before named = named
not_later e (f ∷ es) one small before (inl same) =
    let is : e ≡ f = named_once e f one small.0 same in
    not_itself e (subst (ComesBefore e) (sym is) before.0)
not_later e (f ∷ es) one small before (inr more) = not_later e es one small.1 before.1 more

once_each : (es : List EntryName) → ComeInOrder es → AllByRecursion IsSmall es → AreOnce es
once_each [] order small = tt
once_each (e ∷ es) order small = (not_later e es small.0 small.1 order.0, once_each es order.1 small.1)

-- ---- what was found

among_cons : (o : Option EntryName) (es : List EntryName) (e : EntryName) → IsAmong e es → IsAmong e (cons_option o es)
among_cons None es e among = among
among_cons (Some x) es e among = inr among

here_cons : (o : Option EntryName) (es : List EntryName) (e : EntryName) → o ≡ Some e → IsAmong e (cons_option o es)
here_cons o es e is = subst (λ (x : Option EntryName). IsAmong e (cons_option x es)) (sym is) (inl refl)

found_among : (t : FileTree) (e : EntryName) → IsSmall e → (names : List (List ℕ)) → list_any (bytes_eq (name_of e)) names ≡ true → IsAmong e (entries_found (map (found_at t) names))
found_among t e small [] any = absurd (not_both (sym any))
found_among t e small (n ∷ names) any = by_test (found_among t e small names) (bytes_eq (name_of e) n) refl
  where
    by_test : (list_any (bytes_eq (name_of e)) names ≡ true → IsAmong e (entries_found (map (found_at t) names))) → (b : Bool) → bytes_eq (name_of e) n ≡ b → IsAmong e (entries_found (map (found_at t) (n ∷ names)))
    by_test rest true s = here_cons (entry_in (name_read n)) (entries_found (map (found_at t) names)) e (ap (λ (m : List ℕ). entry_in (name_read m)) (sym ((bytes_eq-Decides (name_of e) n).0 s)) ∙ ap entry_in (entry_read e small))
    by_test rest false s = among_cons (entry_in (name_read n)) (entries_found (map (found_at t) names)) e
        (rest (sym (ap (λ (b : Bool). b || list_any (bytes_eq (name_of e)) names) s) ∙ any))

found_small : (fs : List Found) (names : List (List ℕ)) → map name_found fs ≡ map name_read names → (e : EntryName) → IsAmong e (entries_found fs) → IsSmall e
found_small [] names same e among = absurd among
found_small (f ∷ fs) [] same e among = cc
found_small (f ∷ fs) (n ∷ names) same e among = by_entry (found_small fs names) (entry_in f.name) refl among
  where
    head : f.name ≡ name_read n
    head = cc

    tail : map name_found fs ≡ map name_read names
    tail = cc

    by_entry : (map name_found fs ≡ map name_read names → (x : EntryName) → IsAmong x (entries_found fs) → IsSmall x) → (o : Option EntryName) → entry_in f.name ≡ o → IsAmong e (cons_option o (entries_found fs)) → IsSmall e
    by_entry rest None is more = rest tail e more
    by_entry rest (Some x) is (inl here) = read_small n e (ap entry_in (sym head) ∙ is ∙ ap (λ (y : EntryName). Some y) (sym here))
    by_entry rest (Some x) is (inr more) = rest tail e more

-- ---- what steps name

at_small : (p : Names) (e : EntryName) → entry_at p ≡ Some e → IsSmall e
at_small [] e is = cc
at_small (x ∷ []) e is = cc
at_small (x ∷ n ∷ []) e is = by_test (bytes_eq x staging_name) is
  where
    by_test : (b : Bool) → cond b (entry_in (name_read n)) None ≡ Some e → IsSmall e
    by_test true s = read_small n e s
    by_test false s = cc
at_small (x ∷ n ∷ m ∷ p) e is = cc

step_small : (s : Step) (e : EntryName) → IsAmong e (entries_of_step s) → IsSmall e
step_small (MakeDir p) e among = absurd among
step_small (Rename from to) e among = ⊎_elim
    (λ a. at_small from e (listed_among (entry_at from) e a))
    (λ b. at_small to e (listed_among (entry_at to) e b))
    (among_either (listed (entry_at from)) (listed (entry_at to)) e among)
step_small (Mode p old new) e among = absurd among

named_small : (steps : List Step) (e : EntryName) → IsAmong e (entries_named steps) → IsSmall e
named_small [] e among = absurd among
named_small (s ∷ steps) e among = ⊎_elim (λ a. step_small s e a) (λ b. named_small steps e b) (among_either (entries_of_step s) (entries_named steps) e among)

not_outside : (p : Names) (name : List ℕ) → IsOutside p → p ≡ staged name → ⊥
not_outside p name out is = subst IsOutside is out refl

at_staged : (name : List ℕ) (e : EntryName) → name_read name ≡ Entry e → entry_at (staged name) ≡ Some e
at_staged name e read = ap (λ (b : Bool). cond b (entry_in (name_read name)) None) ((bytes_eq-Decides staging_name staging_name).1 refl) ∙ ap entry_in read

-- the entry that a path of a step names
pub record IsEntryAt (p : Names) (name : List ℕ) : Type 0 where
  pub entry : EntryName
  pub small : IsSmall entry
  pub named : name ≡ name_of entry
  pub is : entry_at p ≡ Some entry

entry_of_name : (name : List ℕ) → IsEntryName name → (e : EntryName) × IsSmall e × (name ≡ name_of e)
entry_of_name name is = by_role is.named
  where
    by_role : (name ≡ temporary is.number) ⊎ ((name ≡ held is.number) ⊎ (name ≡ fresh_name is.number)) → (e : EntryName) × IsSmall e × (name ≡ name_of e)
    by_role (inl t) = (record { role = Temporary; number = is.number }, is.small, t)
    by_role (inr (inl h)) = (record { role = Held; number = is.number }, is.small, h)
    by_role (inr (inr f)) = (record { role = Fresh; number = is.number }, is.small, f)

path_entry : (p : Names) → IsStepPath p → (name : List ℕ) → p ≡ staged name → IsEntryAt p name
path_entry p (inl out) name is = absurd (not_outside p name out is)
path_entry p (inr entry) name is =
    let same : entry.name ≡ name = (let k : staged entry.name ≡ staged name = sym entry.is ∙ is in cc) in
    let e = entry_of_name name (subst IsEntryName same entry.entry) in
    record { entry = e.0; small = e.1; named = e.2; is = ap entry_at is ∙ at_staged name e.0 (ap name_read e.2 ∙ entry_read e.0 e.1) }

named_at : (p : Names) → IsStepPath p → (e : EntryName) → IsSmall e → staged (name_of e) ≡ p → entry_at p ≡ Some e
named_at p lawful e small is = ap entry_at (sym is) ∙ at_staged (name_of e) e (entry_read e small)

steps_named : (steps : List Step) → AllByRecursion IsStep steps → (e : EntryName) → IsSmall e → IsOneOf (staged (name_of e)) (all_paths steps) → IsAmong e (entries_named steps)
steps_named [] lawful e small of = absurd of
steps_named (MakeDir p ∷ steps) lawful e small (inl same) = absurd (not_outside p (name_of e) lawful.0.lawful (sym same))
steps_named (MakeDir p ∷ steps) lawful e small (inr more) = steps_named steps lawful.1 e small more
steps_named (Rename from to ∷ steps) lawful e small (inl same) =
    among_left (listed (entry_at from) ++ listed (entry_at to)) (entries_named steps) e
    (among_left (listed (entry_at from)) (listed (entry_at to)) e (among_listed (entry_at from) e (named_at from lawful.0.lawful.0 e small same)))
steps_named (Rename from to ∷ steps) lawful e small (inr (inl same)) =
    among_left (listed (entry_at from) ++ listed (entry_at to)) (entries_named steps) e
    (among_right (listed (entry_at from)) (listed (entry_at to)) e (among_listed (entry_at to) e (named_at to lawful.0.lawful.1 e small same)))
steps_named (Rename from to ∷ steps) lawful e small (inr (inr more)) =
    among_right (listed (entry_at from) ++ listed (entry_at to)) (entries_named steps) e (steps_named steps lawful.1 e small more)
steps_named (Mode p old new ∷ steps) lawful e small (inl same) = absurd (not_outside p (name_of e) lawful.0.lawful.0 (sym same))
steps_named (Mode p old new ∷ steps) lawful e small (inr more) = steps_named steps lawful.1 e small more

-- ---- the entries of a start

module _ (fs : List Found) (names : List (List ℕ)) (same : map name_found fs ≡ map name_read names) (steps : List Step) (lawful : AllByRecursion IsStep steps)
    (es : List EntryName) (are : AreFound (entries_found fs ++ entries_named steps) es) where
  abbrev wanted : List EntryName
  wanted = entries_found fs ++ entries_named steps

  wanted_in : (e : EntryName) → IsAmong e wanted → IsAmong e es
  wanted_in e among = contains_among es e ((are.same e).1 (among_contains wanted e among))

  small_in : (e : EntryName) → IsAmong e es → IsSmall e
  small_in e among = ⊎_elim (λ a. found_small fs names same e a) (λ b. named_small steps e b) (among_either (entries_found fs) (entries_named steps) e (contains_among wanted e ((are.same e).0 (among_contains es e among))))

  pub all_small : AllByRecursion IsSmall es
  all_small = each_among IsSmall es small_in

  pub entries_once : AreOnce es
  entries_once = once_each es (in_order es are.rise) all_small

  path_among : (p : Names) → IsStepPath p → ((e : EntryName) → entry_at p ≡ Some e → IsAmong e (entries_named steps)) → IsPathAmong es p
  path_among p step_path gives name is =
      let e = path_entry p step_path name is in
      subst (λ (n : List ℕ). IsNamed n es) (sym e.named) (among_named es e.entry (wanted_in e.entry (among_right (entries_found fs) (entries_named steps) e.entry (gives e.entry e.is))))

  all_among : (ss : List Step) → AllByRecursion IsStep ss → ((e : EntryName) → IsAmong e (entries_named ss) → IsAmong e (entries_named steps)) → AllByRecursion (NamesAmong es) ss
  all_among [] all gives = tt
  all_among (MakeDir p ∷ ss) all gives = ((λ name is. absurd (not_outside p name all.0.lawful is)), all_among ss all.1 gives)
  all_among (Rename from to ∷ ss) all gives = (
    (
      path_among from all.0.lawful.0 (λ e is. gives e (among_left (listed (entry_at from) ++ listed (entry_at to)) (entries_named ss) e (among_left (listed (entry_at from)) (listed (entry_at to)) e (among_listed (entry_at from) e is)))),
      path_among to all.0.lawful.1 (λ e is. gives e (among_left (listed (entry_at from) ++ listed (entry_at to)) (entries_named ss) e (among_right (listed (entry_at from)) (listed (entry_at to)) e (among_listed (entry_at to) e is)))),
    ),
    all_among ss all.1 (λ e among. gives e (among_right (listed (entry_at from) ++ listed (entry_at to)) (entries_named ss) e among)),
  )
  all_among (Mode p old new ∷ ss) all gives = ((λ name is. absurd (not_outside p name all.0.lawful.0 is)), all_among ss all.1 gives)

  pub steps_among : AllByRecursion (NamesAmong es) steps
  steps_among = all_among steps lawful (λ e among. among)

  -- the entry of this name stands, or is named
  pub entry_among : (t : FileTree) → fs ≡ found_in t → (e : EntryName) → IsSmall e → IsTrue (stands_in t e) → IsAmong e es
  entry_among t is e small stands = wanted_in e (among_left (entries_found fs) (entries_named steps) e
      (subst (λ (l : List Found). IsAmong e (entries_found l)) (sym is) (found_among t e small (names_in t staging) (names_stand t staging (name_of e) ∙ stands))))

  pub are_entries : (t : FileTree) → fs ≡ found_in t → AreEntries steps t es
  are_entries t is = record {
    ordered = in_order es are.rise;
    small = all_small;
    standing = λ e small stands. entry_among t is e small stands;
    named = λ e small of. wanted_in e (among_right (entries_found fs) (entries_named steps) e (steps_named steps lawful e small of));
  }
