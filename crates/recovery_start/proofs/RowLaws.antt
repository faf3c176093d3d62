-- The rows, one by one.
use Rattle.std.proofs.Common.{◌≡◌, ◌≢◌, ◌⊎◌, inl, inr, ℕ, ◌<◌, ◌-◌, ◌^◌, ◌&&◌, ◌||◌, Bool, true, false, List, [], ◌∷◌, ◌++◌, Option, Some, None, is_some, refl, sym, ◌∙◌, ap, subst, arith}
use Rattle.std.specs.FinMap.{get}
use Rattle.std.specs.Option.{option_map}
use Rattle.std.specs.Str.{bytes_eq}
use Rattle.std.proofs.lemmas.Slice.Eq.{bytes_eq-Decides}
use Rattle.commit_states.specs.Interrupted.{JournalAt, IsFileNode, IsOne, StandsAs, bare}
use Rattle.commit_steps.specs.Staging.{staged, sealed, undone as undone_journal, plan, new_journal, at_marker, back_marker}
use Rattle.staging_names.specs.declared.entry_name.EntryName.{EntryName}
use Rattle.staging_names.specs.declared.entry_name.Role.TheVariants.{Fresh, Held, Temporary}
use Rattle.staging_names.specs.declared.staged_name.Journal as journal
use Rattle.staging_names.specs.declared.staged_name.Journal.TheVariants.{Plan, Done, Undone}
use Rattle.staging_names.specs.declared.staged_name.Marker as marker
use Rattle.staging_names.specs.declared.staged_name.Side.{Side}
use Rattle.staging_names.specs.declared.staged_name.Side.TheVariants.{At, Back}
use Rattle.staging_names.specs.declared.staged_name.StagedName.{StagedName}
use Rattle.staging_names.specs.declared.staged_name.StagedName.TheVariants.{New, Journal, Marker, Entry, Other}
use Rattle.staging_names.specs.Laws.{IsExact}
use Rattle.staging_names.specs.Names.{IsSpelled, journal_name, marker_name, name_read}
use Rattle.staging_names.specs.Tests.{allows_entry, allows_marker, fits, fits_name, is_file, is_file_or_link, journal_in, marker_in}
use Rattle.staging_names.proofs.NameLemmas.{names_read, reads_spelled}
use Rattle.dired_text.proofs.PathLemmas.{rest_below-append}
use Rattle.dired_text.specs.Paths.{Names}
use Rattle.step_trees.proofs.NameLemmas.{apart_staged}
use Rattle.step_trees.proofs.Without.{apart_at, get-without_out}
use Rattle.step_trees.specs.Entries.{without, HoldsOnly, IsFileOrLink, IsFresh, IsHeld, IsTemporary}
use Rattle.tree_core.specs.declared.node.Node.{Node}
use Rattle.tree_core.specs.declared.node.Node.TheVariants.{Dir, Link, File}
use Rattle.tree_core.specs.Fields.{names_in}
use Rattle.tree_core.specs.FileTree.{FileTree, IsEmptyAt, Stands, is_dir_node, is_file_node, kind_of}
use Rattle.recovery_start.specs.Rows.{Shows, ShowsAtMost}
use Rattle.recovery_start.specs.Start.{found_at, has_none, is_held_name}
use Rattle.recovery_start.proofs.StartLemmas.{empty_is}
use Rattle.recovery_start.proofs.RowLemmas.{Reads, shows}

-- ---- kinds

file_kind : (node : Node) → IsFileNode node → is_file (Some (kind_of node)) ≡ true
file_kind (Dir mode) is = absurd is
file_kind (Link target) is = absurd is
file_kind (File number bytes mode) is = refl

link_kind : (node : Node) → IsFileOrLink node → is_file_or_link (Some (kind_of node)) ≡ true
link_kind (Dir mode) is = absurd is
link_kind (Link target) is = refl
link_kind (File number bytes mode) is = refl

some_node : (o : Option Node) → is_some o ≡ true → (node : Node) × (o ≡ Some node)
some_node None e = cc
some_node (Some node) e = (node, refl)

-- ---- what a name is

-- The name is read as this, and fits the row.
pub record IsWhat (t : FileTree) (row : Option journal.Journal) (n : List ℕ) (what : StagedName) : Type 0 where
  pub read : name_read n ≡ what
  pub fit : fits row (found_at t n) ≡ true

what_is : (t : FileTree) (row : Option journal.Journal) (n : List ℕ) (node : Node) (what : StagedName) → get t (staged n) ≡ Some node → IsExact what → IsSpelled n what
    → fits_name row what (Some (kind_of node)) (found_at t n).is_empty ≡ true → IsWhat t row n what
what_is t row n node what stands exact spelled fit =
    let read : name_read n ≡ what = names_read n what exact spelled in
    record {
      read = read;
      fit = ap (λ (w : StagedName). fits_name row w (option_map kind_of (get t (staged n))) (found_at t n).is_empty) read
          ∙ ap (λ (o : Option Node). fits_name row what (option_map kind_of o) (found_at t n).is_empty) stands ∙ fit;
    }

-- One name that stands: it is what the row allows.
pub record Allowed (t : FileTree) (row : Option journal.Journal) (m : marker.Marker) (n : List ℕ) : Type 0 where
  pub what : StagedName
  pub is : IsWhat t row n what
  pub journal : (y : journal.Journal) → journal_in what ≡ Some y → row ≡ Some y
  pub marker : (y : marker.Marker) → marker_in what ≡ Some y → m ≡ y

journal_what : (what : StagedName) (y : journal.Journal) → journal_in what ≡ Some y → what ≡ Journal y
journal_what New y e = cc
journal_what (Journal j) y e = cc
journal_what (Marker m) y e = cc
journal_what (Entry m) y e = cc
journal_what Other y e = cc

marker_what : (what : StagedName) (y : marker.Marker) → marker_in what ≡ Some y → what ≡ Marker y
marker_what New y e = cc
marker_what (Journal j) y e = cc
marker_what (Marker m) y e = cc
marker_what (Entry m) y e = cc
marker_what Other y e = cc

spelled_as : (n : List ℕ) (what : StagedName) → name_read n ≡ what → IsExact what → IsSpelled n what
spelled_as n what e exact =
    let P : StagedName → Type 0 = λ w. IsExact w → IsSpelled n w in
    let right : IsExact what → IsSpelled n what = subst P e (reads_spelled n) in
    right exact

module _ (t : FileTree) (row : Option journal.Journal) (m : marker.Marker) (small : m.number < 2 ^ 64 - 1) (allowed : (n : List ℕ) → Stands t (staged n) → Allowed t row m n)
    (journal_stands : (j : journal.Journal) → row ≡ Some j → Stands t (staged (journal_name j))) where
  abbrev its_name : List ℕ
  its_name = marker_name m.side m.number

  its_read : name_read its_name ≡ Marker m
  its_read = names_read its_name (Marker m) small refl

  journals : Reads t journal_in row
  journals = record {
    only = λ n stands y e. (allowed n stands).journal y (sym (ap journal_in (allowed n stands).is.read) ∙ e);
    one = λ n k y v e f. spelled_as n (Journal y) (journal_what (name_read n) y e) tt ∙ sym (spelled_as k (Journal y) (journal_what (name_read k) y f) tt);
    some = λ y v. (journal_name y, journal_stands y v, ap journal_in (names_read (journal_name y) (Journal y) tt refl));
  }

  same_marker : (n : List ℕ) → Stands t (staged n) → (y : marker.Marker) → marker_in (name_read n) ≡ Some y → m ≡ y
  same_marker n stands y e = (allowed n stands).marker y (sym (ap marker_in (allowed n stands).is.read) ∙ e)

  marker_named : (n : List ℕ) (y : marker.Marker) → m ≡ y → marker_in (name_read n) ≡ Some y → n ≡ its_name
  marker_named n y same e =
      let read : name_read n ≡ Marker m = marker_what (name_read n) y e ∙ ap (λ (x : marker.Marker). Marker x) (sym same) in
      spelled_as n (Marker m) read small

  some_marker : (x y : marker.Marker) → Some x ≡ Some y → x ≡ y
  some_marker x y e = cc

  marked : Stands t (staged its_name) → Reads t marker_in (Some m)
  marked here = record {
    only = λ n stands y e. ap (λ (x : marker.Marker). Some x) (same_marker n stands y e);
    one = λ n k y v e f. marker_named n y (some_marker m y v) e ∙ sym (marker_named k y (some_marker m y v) f);
    some = λ y v. (its_name, here, ap marker_in its_read ∙ v);
  }

  none_marker : {A : Type 0} (y : A) → None ≡ Some y → ⊥
  none_marker y e = cc

  unmarked : (Stands t (staged its_name) → ⊥) → Reads t marker_in None
  unmarked absent = record {
    only = λ n stands y e. absurd (absent (subst (λ (x : List ℕ). Stands t (staged x)) (marker_named n y (same_marker n stands y e) e) stands));
    one = λ n k y v e f. absurd (none_marker y v);
    some = λ y v. absurd (none_marker y v);
  }

  each_fits : (n : List ℕ) → Stands t (staged n) → fits row (found_at t n) ≡ true
  each_fits n stands = (allowed n stands).is.fit

  pub shows_marked : Stands t (staged its_name) → Shows t row (Some m)
  shows_marked here = shows t row (Some m) journals (marked here) each_fits (λ is none. none_marker m (sym none))

  pub shows_most : (row ≡ Some Plan → ⊥) → ShowsAtMost t row m
  shows_most no_plan = by_test (is_some (get t (staged its_name))) refl
    where
      by_test : (b : Bool) → is_some (get t (staged its_name)) ≡ b → ShowsAtMost t row m
      by_test true e = inr (shows_marked e)
      by_test false e = inl (shows t row None journals (unmarked (λ stands. not_both (sym stands ∙ e))) each_fits (λ is. absurd (no_plan is)))
        where
          not_both : true ≡ false → ⊥
          not_both e = cc

-- ---- without a journal

early : (t : FileTree) → HoldsOnly t (λ name node. IsOne new_journal name node ⊎ (IsOne (at_marker 0) name node ⊎ IsFresh name node))
    → (n : List ℕ) → Stands t (staged n) → Allowed t None (record { side = At; number = 0 }) n
early t only n stands = by_node (some_node (get t (staged n)) stands)
  where
    by_kind : (node : Node) → get t (staged n) ≡ Some node → IsOne new_journal n node ⊎ (IsOne (at_marker 0) n node ⊎ IsFresh n node) → Allowed t None (record { side = At; number = 0 }) n
    by_kind node here (inl one) = record { what = New; is = what_is t None n node New here tt one.named (file_kind node one.kind); journal = λ y e. e; marker = λ y e. cc }
    by_kind node here (inr (inl one)) =
        record { what = Marker (record { side = At; number = 0 }); is = what_is t None n node (Marker (record { side = At; number = 0 })) here (omega arith) one.named (file_kind node one.kind); journal = λ y e. e; marker = λ y e. cc }
    by_kind node here (inr (inr fresh)) =
        record {
          what = Entry (record { role = Fresh; number = fresh.number });
          is = what_is t None n node (Entry (record { role = Fresh; number = fresh.number })) here tt (fresh.named, fresh.small) (link_kind node fresh.kind);
          journal = λ y e. e;
          marker = λ y e. cc;
        }

    by_node : (node : Node) × (get t (staged n) ≡ Some node) → Allowed t None (record { side = At; number = 0 }) n
    by_node (node, here) = by_kind node here (only n node here)

not_plan_none : None ≡ Some Plan → ⊥
not_plan_none e = cc

no_journals : (t : FileTree) (j : journal.Journal) → None ≡ Some j → Stands t (staged (journal_name j))
no_journals t j e = cc

pub early_shows : (t : FileTree) → HoldsOnly t (λ name node. IsOne new_journal name node ⊎ (IsOne (at_marker 0) name node ⊎ IsFresh name node)) → ShowsAtMost t None (record { side = At; number = 0 })
early_shows t only = shows_most t None (record { side = At; number = 0 }) (omega arith) (early t only) (no_journals t) not_plan_none

-- ---- behind the seal, and with all undone

and_all : (a b c : Bool) → a ≡ true → b ≡ true → c ≡ true → (a && b && c) ≡ true
and_all a b c p q r = cc

held_fit : (t : FileTree) (n : List ℕ) (number : ℕ) (node : Node) → name_read n ≡ Entry (record { role = Held; number = number }) → get t (staged n) ≡ Some node → IsFileOrLink node ⊎ IsEmptyAt t (staged n)
    → (is_file_or_link (Some (kind_of node)) || (found_at t n).is_empty) ≡ true
held_fit t n number (Link target) read here kind = refl
held_fit t n number (File m bytes mode) read here kind = refl
held_fit t n number (Dir mode) read here (inl kind) = absurd kind
held_fit t n number (Dir mode) read here (inr empty) =
    and_all (is_held_name (name_read n)) (is_dir_node (get t (staged n))) (has_none (names_in t (staged n)))
    (ap is_held_name read) (ap is_dir_node here) (sym (empty_is t (staged n) true ((λ e. empty), (λ e. refl))))

held_name : (t : FileTree) (row : Option journal.Journal) (m : marker.Marker) (n : List ℕ) (node : Node) → get t (staged n) ≡ Some node → IsHeld t n node → allows_entry row Held ≡ true → Allowed t row m n
held_name t row m n node here held allows =
    let entry : EntryName = record { role = Held; number = held.number } in
    let read : name_read n ≡ Entry entry = names_read n (Entry entry) tt (held.named, held.small) in
    record {
      what = Entry entry;
      is = what_is t row n node (Entry entry) here tt (held.named, held.small) (both (allows_entry row Held) _ allows (held_fit t n held.number node read here held.kind));
      journal = λ y e. cc;
      marker = λ y e. cc;
    }
  where
    both : (a b : Bool) → a ≡ true → b ≡ true → (a && b) ≡ true
    both a b p q = cc

fresh_entry : (t : FileTree) (row : Option journal.Journal) (m : marker.Marker) (n : List ℕ) (node : Node) → get t (staged n) ≡ Some node → IsFresh n node → allows_entry row Fresh ≡ true → Allowed t row m n
fresh_entry t row m n node here fresh allows =
    let entry : EntryName = record { role = Fresh; number = fresh.number } in
    record {
      what = Entry entry;
      is = what_is t row n node (Entry entry) here tt (fresh.named, fresh.small) (both (allows_entry row Fresh) _ allows (link_kind node fresh.kind));
      journal = λ y e. cc;
      marker = λ y e. cc;
    }
  where
    both : (a b : Bool) → a ≡ true → b ≡ true → (a && b) ≡ true
    both a b p q = cc

its_marker : (t : FileTree) (row : Option journal.Journal) (m : marker.Marker) (n : List ℕ) (node : Node) → m.number < 2 ^ 64 - 1 → get t (staged n) ≡ Some node → IsOne (marker_name m.side m.number) n node
    → allows_marker row m ≡ true → Allowed t row m n
its_marker t row m n node small here one allows = record {
  what = Marker m;
  is = what_is t row n node (Marker m) here small one.named (both (allows_marker row m) (is_file (Some (kind_of node))) allows (file_kind node one.kind));
  journal = λ y e. cc;
  marker = λ y e. same m y e;
}
  where
    both : (a b : Bool) → a ≡ true → b ≡ true → (a && b) ≡ true
    both a b p q = cc

    same : (x y : marker.Marker) → Some x ≡ Some y → x ≡ y
    same x y e = cc

its_journal : (t : FileTree) (j : journal.Journal) (m : marker.Marker) (n : List ℕ) (node : Node) → get t (staged n) ≡ Some node → n ≡ journal_name j → IsFileNode node → Allowed t (Some j) m n
its_journal t j m n node here named kind = record {
  what = Journal j;
  is = what_is t (Some j) n node (Journal j) here tt named (file_kind node kind);
  journal = λ y e. e;
  marker = λ y e. cc;
}

-- a journal at its name is a file
journal_node : (Text : List ℕ → Type 0) (t : FileTree) (j : journal.Journal) (n : List ℕ) (node : Node) → JournalAt Text t (journal_name j) → get t (staged n) ≡ Some node → n ≡ journal_name j → IsFileNode node
journal_node Text t j n node at here named =
    let same : Some (File at.number at.bytes at.mode) ≡ Some node = sym at.stands ∙ sym (ap (λ (x : List ℕ). get t (staged x)) named) ∙ here in
    subst IsFileNode (one_node (File at.number at.bytes at.mode) node same) tt
  where
    one_node : (x y : Node) → Some x ≡ Some y → x ≡ y
    one_node x y e = cc

journal_there : (Text : List ℕ → Type 0) (t : FileTree) (j k : journal.Journal) → JournalAt Text t (journal_name j) → Some j ≡ Some k → Stands t (staged (journal_name k))
journal_there Text t j k at e = subst (λ (x : journal.Journal). Stands t (staged (journal_name x))) (one j k e) (ap is_some at.stands)
  where
    one : (x y : journal.Journal) → Some x ≡ Some y → x ≡ y
    one x y e = cc

pub sealed_shows : (Text : List ℕ → Type 0) (t : FileTree) (n : ℕ) → n < 2 ^ 32 → JournalAt Text t sealed
    → HoldsOnly t (λ name node. (name ≡ sealed) ⊎ (IsHeld t name node ⊎ IsOne (at_marker n) name node)) → ShowsAtMost t (Some Done) (record { side = At; number = n })
sealed_shows Text t n small at only = shows_most t (Some Done) (record { side = At; number = n }) (omega arith) (λ name stands. by_node name (some_node (get t (staged name)) stands)) (λ j e. journal_there Text t Done j at e) (λ e. cc)
  where
    by_kind : (name : List ℕ) (node : Node) → get t (staged name) ≡ Some node → (name ≡ sealed) ⊎ (IsHeld t name node ⊎ IsOne (at_marker n) name node) → Allowed t (Some Done) (record { side = At; number = n }) name
    by_kind name node here (inl named) = its_journal t Done (record { side = At; number = n }) name node here named (journal_node Text t Done name node at here named)
    by_kind name node here (inr (inl held)) = held_name t (Some Done) (record { side = At; number = n }) name node here held refl
    by_kind name node here (inr (inr one)) = its_marker t (Some Done) (record { side = At; number = n }) name node (omega arith) here one refl

    by_node : (name : List ℕ) → (node : Node) × (get t (staged name) ≡ Some node) → Allowed t (Some Done) (record { side = At; number = n }) name
    by_node name (node, here) = by_kind name node here (only name node here)

pub undone_shows : (Text : List ℕ → Type 0) (t : FileTree) → JournalAt Text t undone_journal
    → HoldsOnly t (λ name node. (name ≡ undone_journal) ⊎ (IsFresh name node ⊎ IsOne (back_marker 0) name node)) → ShowsAtMost t (Some Undone) (record { side = Back; number = 0 })
undone_shows Text t at only = shows_most t (Some Undone) (record { side = Back; number = 0 }) (omega arith) (λ name stands. by_node name (some_node (get t (staged name)) stands)) (λ j e. journal_there Text t Undone j at e) (λ e. cc)
  where
    by_kind : (name : List ℕ) (node : Node) → get t (staged name) ≡ Some node → (name ≡ undone_journal) ⊎ (IsFresh name node ⊎ IsOne (back_marker 0) name node) → Allowed t (Some Undone) (record { side = Back; number = 0 }) name
    by_kind name node here (inl named) = its_journal t Undone (record { side = Back; number = 0 }) name node here named (journal_node Text t Undone name node at here named)
    by_kind name node here (inr (inl fresh)) = fresh_entry t (Some Undone) (record { side = Back; number = 0 }) name node here fresh refl
    by_kind name node here (inr (inr one)) = its_marker t (Some Undone) (record { side = Back; number = 0 }) name node (omega arith) here one refl

    by_node : (name : List ℕ) → (node : Node) × (get t (staged name) ≡ Some node) → Allowed t (Some Undone) (record { side = Back; number = 0 }) name
    by_node name (node, here) = by_kind name node here (only name node here)

-- ---- on the way

shown : (marker name : List ℕ) (r : Names) (u t : FileTree) → bare plan marker t ≡ u → name ≢ marker → name ≢ plan → get t (staged name ++ r) ≡ get u (staged name ++ r)
shown marker name r u t is no_marker no_plan =
    sym (get-without_out (staged plan) (without (staged marker) t) (staged name ++ r) (apart_at (staged name) (staged plan) (staged name ++ r) r (apart_staged name plan no_plan) (rest_below-append (staged name) r))
    ∙ get-without_out (staged marker) t (staged name ++ r) (apart_at (staged name) (staged marker) (staged name ++ r) r (apart_staged name marker no_marker) (rest_below-append (staged name) r)))
    ∙ ap (λ (x : FileTree). get x (staged name ++ r)) is

waiting : (t : FileTree) (m : marker.Marker) (n : List ℕ) (node : Node) → get t (staged n) ≡ Some node → IsTemporary n → Allowed t (Some Plan) m n
waiting t m n node here w = record {
  what = Entry (record { role = Temporary; number = w.number });
  is = what_is t (Some Plan) n node (Entry (record { role = Temporary; number = w.number })) here tt (w.named, w.small) refl;
  journal = λ y e. cc;
  marker = λ y e. cc;
}

file_of_node : (node : Node) → is_file_node (Some node) ≡ true → IsFileNode node
file_of_node (Dir mode) e = cc
file_of_node (Link target) e = cc
file_of_node (File number bytes mode) e = tt

pub planned_shows : (Text : List ℕ → Type 0) (side : Side) (m : ℕ) (u t : FileTree) → m < 2 ^ 32 → StandsAs Text (marker_name side m) u t
    → HoldsOnly u (λ name node. IsTemporary name ⊎ (IsHeld u name node ⊎ IsFresh name node)) → Shows t (Some Plan) (Some (record { side = side; number = m }))
planned_shows Text side m u t small s only =
    shows_marked t (Some Plan) (record { side = side; number = m }) (omega arith) (λ name stands. by_node name (some_node (get t (staged name)) stands)) (λ j e. journal_there Text t Plan j s.journal e) (file_there (get t (staged (marker_name side m))) s.marked)
  where
    file_there : (o : Option Node) → is_file_node o ≡ true → is_some o ≡ true
    file_there None e = cc
    file_there (Some node) e = refl

    empty_there : (name : List ℕ) → name ≢ marker_name side m → name ≢ plan → IsEmptyAt u (staged name) → IsEmptyAt t (staged name)
    empty_there name no_marker no_plan empty k = shown (marker_name side m) name (k ∷ []) u t s.bare_is no_marker no_plan ∙ empty k

    held_there : (name : List ℕ) (node : Node) → name ≢ marker_name side m → name ≢ plan → IsHeld u name node → IsHeld t name node
    held_there name node no_marker no_plan held = record { number = held.number; small = held.small; named = held.named; kind = by_kind held.kind }
      where
        by_kind : IsFileOrLink node ⊎ IsEmptyAt u (staged name) → IsFileOrLink node ⊎ IsEmptyAt t (staged name)
        by_kind (inl file) = inl file
        by_kind (inr empty) = inr (empty_there name no_marker no_plan empty)

    entry : (name : List ℕ) (node : Node) → name ≢ marker_name side m → name ≢ plan → get t (staged name) ≡ Some node → IsTemporary name ⊎ (IsHeld u name node ⊎ IsFresh name node)
        → Allowed t (Some Plan) (record { side = side; number = m }) name
    entry name node no_marker no_plan here (inl w) = waiting t (record { side = side; number = m }) name node here w
    entry name node no_marker no_plan here (inr (inl held)) = held_name t (Some Plan) (record { side = side; number = m }) name node here (held_there name node no_marker no_plan held) refl
    entry name node no_marker no_plan here (inr (inr fresh)) = fresh_entry t (Some Plan) (record { side = side; number = m }) name node here fresh refl

    by_marker : (name : List ℕ) (node : Node) → get t (staged name) ≡ Some node → name ≢ plan → (b : Bool) → bytes_eq name (marker_name side m) ≡ b → Allowed t (Some Plan) (record { side = side; number = m }) name
    by_marker name node here no_plan true e =
        let named : name ≡ marker_name side m = (bytes_eq-Decides name (marker_name side m)).0 e in
        let same : get t (staged (marker_name side m)) ≡ Some node = sym (ap (λ (x : List ℕ). get t (staged x)) named) ∙ here in
        its_marker t (Some Plan) (record { side = side; number = m }) name node (omega arith) here (record { named = named; kind = file_of_node node (sym (ap is_file_node same) ∙ s.marked) }) refl
    by_marker name node here no_plan false e =
        entry name node (differ name (marker_name side m) e) no_plan here (only name node (sym (shown (marker_name side m) name [] u t s.bare_is (differ name (marker_name side m) e) no_plan) ∙ here))
      where
        differ : (x y : List ℕ) → bytes_eq x y ≡ false → x ≢ y
        differ x y fails is = let clash : true ≡ false = sym ((bytes_eq-Decides x y).1 is) ∙ fails in cc

    by_plan : (name : List ℕ) (node : Node) → get t (staged name) ≡ Some node → (b : Bool) → bytes_eq name plan ≡ b → Allowed t (Some Plan) (record { side = side; number = m }) name
    by_plan name node here true e =
        let named : name ≡ plan = (bytes_eq-Decides name plan).0 e in
        its_journal t Plan (record { side = side; number = m }) name node here named (journal_node Text t Plan name node s.journal here named)
    by_plan name node here false e = by_marker name node here (λ is. not_both (sym ((bytes_eq-Decides name plan).1 is) ∙ e)) (bytes_eq name (marker_name side m)) refl
      where
        not_both : true ≡ false → ⊥
        not_both x = cc

    by_node : (name : List ℕ) → (node : Node) × (get t (staged name) ≡ Some node) → Allowed t (Some Plan) (record { side = side; number = m }) name
    by_node name (node, here) = by_plan name node here (bytes_eq name plan) refl
