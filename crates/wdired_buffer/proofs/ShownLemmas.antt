-- An entry's own line, read as an edited one, shows what it showed.
use Rattle.std.proofs.Common.{◌≡◌, inl, inr, ℕ, ◌+◌, ◌-◌, Bool, true, false, not, ◌&&◌, ◌==◌, List, [], ◌∷◌, length, take, drop, refl, sym, ◌∙◌, ap, arith, Option, Some, None, Result, Ok, Err, if◌then◌else◌, nat_le, option_map, length-drop, ℤ, eq-eqb, eqb-true}
use Rattle.std.specs.Option.{option_and_then}
use Rattle.std.specs.Str.{is_utf8}
use Rattle.std.proofs.lemmas.Bool.{cases_lt, cases_Bool}
use Rattle.std.proofs.lemmas.List.{drop-drop, drop_all}
use Rattle.std.proofs.lemmas.Slice.Eq.{bytes_eq-Decides, slice_eq-Decides}
use Rattle.dired_text.specs.Paths.{Names}
use Rattle.dired_text.specs.Modes.{read_letters}
use Rattle.tree_core.specs.declared.edit.Shown.{Shown}
use Rattle.tree_core.specs.declared.node.Kind.{Kind}
use Rattle.tree_core.specs.declared.node.Kind.TheVariants.{File, Dir, Link}
use Rattle.listing_text.specs.declared.faults.Field.{Field}
use Rattle.listing_text.specs.declared.faults.Field.TheVariants as field
use Rattle.listing_text.specs.declared.faults.LineFault.{LineFault}
use Rattle.listing_text.specs.Numbers.{is_digit, number_of, most_links, most_size}
use Rattle.listing_text.specs.Dates.{minute_of}
use Rattle.listing_text.specs.Listed.{is_link}
use Rattle.listing_text.specs.Fields.{Taken, run_len, mark_in, kind_in, mode_in, number_in, word_in, word_len, is_word, date_in, name_of, plain_of, target_of, arrow_place, is_space}
use Rattle.listing_text.specs.Reading.{Front, ◌>>=◌, front_of, behind_space, spaced, gapped, gap, behind_gap, one, some, or_bad as or_bad_field}
use Rattle.wdired_buffer.specs.declared.faults.BufferCause.{BufferCause}
use Rattle.wdired_buffer.specs.declared.faults.BufferCause.TheVariants as cause
use Rattle.wdired_buffer.specs.declared.faults.BufferFault.{BufferFault}
use Rattle.wdired_buffer.specs.declared.line.BufferLine.{BufferLine}
use Rattle.wdired_buffer.specs.declared.line.BufferLine.TheVariants.{Entry}
use Rattle.wdired_buffer.specs.declared.typed.Typed.{Typed}
use Rattle.wdired_buffer.specs.Headers.{named}
use Rattle.wdired_buffer.specs.Buffer.{or_bad, at_line, shown, link_shown, entry_of}
use Rattle.wdired_buffer.specs.Edits.{typed_of, asked_of, nothing, texts_in, path_typed, mode_typed, target_typed, same_path}
use Rattle.wdired_buffer.specs.EntryLaws.{AllOk, AsksNothing}

-- ---- what was read, from the answer

then_all : {A B E : Type 0} (Q : B → Type 0) (first : Result A E) (next : A → Result B E) → ((a : A) → first ≡ Ok a → AllOk Q (next a)) → AllOk Q (first >>= next)
then_all Q (Ok a) next each = each a refl
then_all Q (Err e) next each = tt

all_at : {B E : Type 0} (Q : B → Type 0) (r : Result B E) (b : B) → AllOk Q r → r ≡ Ok b → Q b
all_at Q (Ok a) b all is = let same : b ≡ a = cc in rw same all
all_at Q (Err e) b all is = cc

field_some : {A : Type 0} (field : Field) (bytes : ℕ) (rest : List ℕ) (o : Option A) (a : A) → or_bad_field field bytes rest o ≡ Ok a → o ≡ Some a
field_some field bytes rest (Some b) a is = cc
field_some field bytes rest None a is = cc

some_at : {A : Type 0} (number : ℕ) (cause : BufferCause) (o : Option A) (a : A) → or_bad number cause o ≡ Ok a → o ≡ Some a
some_at number cause (Some b) a is = cc
some_at number cause None a is = cc

ok_at : {A : Type 0} (number : ℕ) (r : Result A LineFault) (a : A) → at_line number r ≡ Ok a → r ≡ Ok a
ok_at number (Ok b) a is = cc
ok_at number (Err e) a is = cc

-- ---- the ends of a text

abbrev IsEnd : List ℕ → List ℕ → Type 0
IsEnd text rest = (n : ℕ) × (rest ≡ drop n text)

further : (text middle rest : List ℕ) (n : ℕ) → IsEnd text middle → rest ≡ drop n middle → IsEnd text rest
further text middle rest n end is = (end.0 + n, is ∙ ap (drop n) end.1 ∙ drop-drop n end.0 text)

-- an end begins where the text has as many bytes left
end_at : (text rest : List ℕ) → IsEnd text rest → drop (length text - length rest) text ≡ rest
end_at text rest end = elim (cases_lt end.0 (length text)) [
  | inl within ↦
      let shorter : length rest ≡ length text - end.0 = ap length end.1 ∙ length-drop end.0 text in
      let place : length text - length rest ≡ end.0 = omega arith in ap (λ n. drop n text) place ∙ sym end.1
  | inr past ↦
      let none : rest ≡ [] = end.1 ∙ drop_all end.0 text past in
      let place : length text - length rest ≡ length text = omega (arith, ap length none) in
      ap (λ n. drop n text) place ∙ drop_all (length text) text (omega arith) ∙ sym none
]

if_some : {A : Type 0} (test : Bool) (a b : A) → (if test then Some a else None) ≡ Some b → (test ≡ true) × (a ≡ b)
if_some true a b is = (refl, cc)
if_some false a b is = cc

mapped : {A B : Type 0} (f : A → B) (o : Option A) (b : B) → option_map f o ≡ Some b → (a : A) × (b ≡ f a)
mapped f (Some a) b is = (a, cc)
mapped f None b is = cc

mark_end : (text : List ℕ) (t : ℕ × List ℕ) → mark_in text ≡ Some t → t.1 ≡ drop 1 text
unfolding mark_in
mark_end [] t is = cc
mark_end (b ∷ rest) t is = ap (λ (p : ℕ × List ℕ). p.1) (sym (if_some (nat_le 32 b && nat_le b 126) (b, rest) t is).1)

rest_of : {A : Type 0} (a : A) (rest : List ℕ) (t : A × List ℕ) → Some (a, rest) ≡ Some t → t.1 ≡ rest
rest_of a rest t is = let same : t ≡ (a, rest) = cc in ap (λ p. p.1) same

kind_end : (text : List ℕ) (t : Kind × List ℕ) → kind_in text ≡ Some t → t.1 ≡ drop 1 text
unfolding kind_in
kind_end [] t is = cc
kind_end (b ∷ rest) t is = by_tests (b == 45) (b == 100) (b == 108) is
  where
    by_tests : (x y z : Bool) → (if x then Some (File, rest) else if y then Some (Dir, rest) else if z then Some (Link, rest) else None) ≡ Some t → t.1 ≡ rest
    by_tests true y z e = rest_of File rest t e
    by_tests false true z e = rest_of Dir rest t e
    by_tests false false true e = rest_of Link rest t e
    by_tests false false false e = cc

due_some : (due : Bool) (rest r : List ℕ) (field : Field) (bytes : ℕ) → or_bad_field field bytes rest (if due then Some rest else None) ≡ Ok r → (due ≡ true) × (r ≡ rest)
due_some true rest r field bytes is = (refl, cc)
due_some false rest r field bytes is = cc

-- a field begins behind its spaces
spaced_at : {A : Type 0} (field : Field) (due : ℕ → Bool) (take_in : List ℕ → Taken A) (bytes : ℕ) (text : List ℕ) (t : A × List ℕ) → spaced field due take_in bytes text ≡ Ok t → (due (gap text) ≡ true) × (take_in (behind_gap text) ≡ Some t)
unfolding spaced gapped
spaced_at field due take_in bytes text t is = by_due (due (gap text)) is
  where
    by_due : (d : Bool) → (or_bad_field field bytes (behind_gap text) (if d then Some (behind_gap text) else None) >>= λ rest. or_bad_field field bytes rest (take_in rest)) ≡ Ok t → (d ≡ true) × (take_in (behind_gap text) ≡ Some t)
    by_due true e = (refl, field_some field bytes (behind_gap text) (take_in (behind_gap text)) t e)
    by_due false e = cc

mode_at : (kind : Kind) (text : List ℕ) (t : ℕ × List ℕ) → mode_in kind text ≡ Some t → (read_letters (take 9 text) ≡ Some t.0) × (t.1 ≡ drop 9 text)
unfolding mode_in
mode_at kind text t is = by_mode (read_letters (take 9 text)) is
  where
    by_test : (m : ℕ) (test : Bool) → (if test then None else Some (m, drop 9 text)) ≡ Some t → (Some m ≡ Some t.0) × (t.1 ≡ drop 9 text)
    by_test m true e = cc
    by_test m false e = let same : t ≡ (m, drop 9 text) = cc in (ap (λ p. Some p.0) (sym same), ap (λ p. p.1) same)

    by_mode : (o : Option ℕ) → option_and_then (λ mode. if is_link kind && not (mode == 0o777) then None else Some (mode, drop 9 text)) o ≡ Some t → (o ≡ Some t.0) × (t.1 ≡ drop 9 text)
    by_mode (Some m) e = by_test m (is_link kind && not (m == 0o777)) e
    by_mode None e = cc

number_end : (most : ℕ) (text : List ℕ) (t : ℕ × List ℕ) → number_in most text ≡ Some t → t.1 ≡ drop (run_len is_digit text) text
unfolding number_in
number_end most text t is = let m = mapped (λ (number : ℕ). (number, drop (run_len is_digit text) text)) (number_of most (take (run_len is_digit text) text)) t is in ap (λ p. p.1) m.1

word_end : (text : List ℕ) (t : List ℕ × List ℕ) → word_in text ≡ Some t → t.1 ≡ drop (word_len text) text
unfolding word_in
word_end text t is = ap (λ (p : List ℕ × List ℕ). p.1) (sym (if_some (is_word (take (word_len text) text)) (take (word_len text) text, drop (word_len text) text) t is).1)

date_end : (text : List ℕ) (t : ℤ × List ℕ) → date_in text ≡ Some t → t.1 ≡ drop 16 text
unfolding date_in
date_end text t is = let m = mapped (λ (minute : ℤ). (minute, drop 16 text)) (minute_of (take 16 text)) t is in ap (λ p. p.1) m.1

-- ---- the fields before the name

abbrev IsFront : List ℕ → Front → Type 0
IsFront text front = (read_letters (take 9 (drop 3 text)) ≡ Some front.mode) × IsEnd text front.rest

abbrev k_date : ℕ × List ℕ → Kind × List ℕ → ℕ × List ℕ → ℕ × List ℕ → List ℕ × List ℕ → List ℕ × List ℕ → ℕ × List ℕ → ℤ × List ℕ → Result Front LineFault
k_date mark kind mode links owner group size date = Ok (record { mark = mark.0; kind = kind.0; mode = mode.0; links = links.0; owner = owner.0; group = group.0; size = size.0; minute = date.0; rest = date.1 })

abbrev k_size : ℕ → ℕ × List ℕ → Kind × List ℕ → ℕ × List ℕ → ℕ × List ℕ → List ℕ × List ℕ → List ℕ × List ℕ → ℕ × List ℕ → Result Front LineFault
k_size bytes mark kind mode links owner group size = spaced field.Date one date_in bytes size.1 >>= k_date mark kind mode links owner group size

abbrev k_group : ℕ → ℕ × List ℕ → Kind × List ℕ → ℕ × List ℕ → ℕ × List ℕ → List ℕ × List ℕ → List ℕ × List ℕ → Result Front LineFault
k_group bytes mark kind mode links owner group = spaced field.Size some (number_in most_size) bytes group.1 >>= k_size bytes mark kind mode links owner group

abbrev k_owner : ℕ → ℕ × List ℕ → Kind × List ℕ → ℕ × List ℕ → ℕ × List ℕ → List ℕ × List ℕ → Result Front LineFault
k_owner bytes mark kind mode links owner = spaced field.Group some word_in bytes owner.1 >>= k_group bytes mark kind mode links owner

abbrev k_links : ℕ → ℕ × List ℕ → Kind × List ℕ → ℕ × List ℕ → ℕ × List ℕ → Result Front LineFault
k_links bytes mark kind mode links = spaced field.Owner some word_in bytes links.1 >>= k_owner bytes mark kind mode links

abbrev k_mode : ℕ → ℕ × List ℕ → Kind × List ℕ → ℕ × List ℕ → Result Front LineFault
k_mode bytes mark kind mode = spaced field.Links some (number_in most_links) bytes mode.1 >>= k_links bytes mark kind mode

abbrev k_kind : ℕ → ℕ × List ℕ → Kind × List ℕ → Result Front LineFault
k_kind bytes mark kind = or_bad_field field.Mode bytes kind.1 (mode_in kind.0 kind.1) >>= k_mode bytes mark kind

abbrev k_mark : ℕ → ℕ × List ℕ → Result Front LineFault
k_mark bytes mark = spaced field.Kind one kind_in bytes mark.1 >>= k_kind bytes mark

-- what stands behind a field, of which the end of the text is known before it
behind_field : (text before rest : List ℕ) (n : ℕ) → IsEnd text before → rest ≡ drop n (behind_gap before) → IsEnd text rest
behind_field text before rest n end is = further text (behind_gap before) rest n (further text before (behind_gap before) (gap before) end refl) is

fronts : (text : List ℕ) → AllOk (IsFront text) (front_of text)
unfolding front_of
fronts text =
    let bytes = length text in
    then_all (IsFront text) (or_bad_field field.Mark bytes text (mark_in text)) (k_mark bytes) (λ mark mark_is.
    then_all (IsFront text) (spaced field.Kind one kind_in bytes mark.1) (k_kind bytes mark) (λ kind kind_is.
    then_all (IsFront text) (or_bad_field field.Mode bytes kind.1 (mode_in kind.0 kind.1)) (k_mode bytes mark kind) (λ mode mode_is.
    then_all (IsFront text) (spaced field.Links some (number_in most_links) bytes mode.1) (k_links bytes mark kind mode) (λ links links_is.
    then_all (IsFront text) (spaced field.Owner some word_in bytes links.1) (k_owner bytes mark kind mode links) (λ owner owner_is.
    then_all (IsFront text) (spaced field.Group some word_in bytes owner.1) (k_group bytes mark kind mode links owner) (λ group group_is.
    then_all (IsFront text) (spaced field.Size some (number_in most_size) bytes group.1) (k_size bytes mark kind mode links owner group) (λ size size_is.
    then_all (IsFront text) (spaced field.Date one date_in bytes size.1) (k_date mark kind mode links owner group size) (λ date date_is.
    is_front text mark kind mode links owner group size date
    (field_some field.Mark bytes text (mark_in text) mark mark_is) (spaced_at field.Kind one kind_in bytes mark.1 kind kind_is)
    (field_some field.Mode bytes kind.1 (mode_in kind.0 kind.1) mode mode_is)
    (spaced_at field.Links some (number_in most_links) bytes mode.1 links links_is).1 (spaced_at field.Owner some word_in bytes links.1 owner owner_is).1
    (spaced_at field.Group some word_in bytes owner.1 group group_is).1 (spaced_at field.Size some (number_in most_size) bytes group.1 size size_is).1
    (spaced_at field.Date one date_in bytes size.1 date date_is).1))))))))
  where
    is_front : (text : List ℕ) (mark : ℕ × List ℕ) (kind : Kind × List ℕ) (mode links : ℕ × List ℕ) (owner group : List ℕ × List ℕ) (size : ℕ × List ℕ) (date : ℤ × List ℕ) → mark_in text ≡ Some mark → (one (gap mark.1) ≡ true) × (kind_in (behind_gap mark.1) ≡ Some kind) → mode_in kind.0 kind.1 ≡ Some mode → number_in most_links (behind_gap mode.1) ≡ Some links → word_in (behind_gap links.1) ≡ Some owner → word_in (behind_gap owner.1) ≡ Some group → number_in most_size (behind_gap group.1) ≡ Some size → date_in (behind_gap size.1) ≡ Some date → (read_letters (take 9 (drop 3 text)) ≡ Some mode.0) × IsEnd text date.1
    is_front text mark kind mode links owner group size date mark_is kind_is mode_is links_is owner_is group_is size_is date_is =
        let one_space : gap mark.1 ≡ 1 = eqb-true (gap mark.1) 1 kind_is.0 in
        let kind_rest : kind.1 ≡ drop 3 text =
        kind_end (behind_gap mark.1) kind kind_is.1 ∙ ap (λ n. drop 1 (drop n mark.1)) one_space ∙ ap (λ r. drop 1 (drop 1 r)) (mark_end text mark mark_is)
        ∙ ap (drop 1) (drop-drop 1 1 text) ∙ drop-drop 1 2 text in
        let mode_parts = mode_at kind.0 kind.1 mode mode_is in
        let end_mode : IsEnd text mode.1 = further text kind.1 mode.1 9 (3, kind_rest) mode_parts.1 in
        let end_links : IsEnd text links.1 = behind_field text mode.1 links.1 (run_len is_digit (behind_gap mode.1)) end_mode (number_end most_links (behind_gap mode.1) links links_is) in
        let end_owner : IsEnd text owner.1 = behind_field text links.1 owner.1 (word_len (behind_gap links.1)) end_links (word_end (behind_gap links.1) owner owner_is) in
        let end_group : IsEnd text group.1 = behind_field text owner.1 group.1 (word_len (behind_gap owner.1)) end_owner (word_end (behind_gap owner.1) group group_is) in
        let end_size : IsEnd text size.1 = behind_field text group.1 size.1 (run_len is_digit (behind_gap group.1)) end_group (number_end most_size (behind_gap group.1) size size_is) in
        (ap (λ r. read_letters (take 9 r)) (sym kind_rest) ∙ mode_parts.0, behind_field text size.1 date.1 16 end_size (date_end (behind_gap size.1) date date_is))

-- ---- the whole line

same_self : (path : Names) → same_path path path ≡ true
same_self path = (slice_eq-Decides bytes_eq-Decides path path (same_path path path) refl).1 refl

space_end : (text rest : List ℕ) → behind_space text ≡ Some rest → rest ≡ drop 1 text
space_end [] rest is = cc
space_end (b ∷ bs) rest is = sym (if_some (is_space b) bs rest is).1

empty_name : (dir : Names) → named dir [] ≡ None
unfolding named name_of plain_of
empty_name dir = elim (cases_Bool (is_utf8 [])) [ inl text ↦ rw text refl | inr other ↦ rw other refl ]

name_typed : (dir : Names) (text : List ℕ) (path : Names) → named dir text ≡ Some path → path_typed dir text ≡ Some (Some path)
unfolding path_typed
name_typed dir [] path is = let none = empty_name dir in cc
name_typed dir (b ∷ bs) path is = ap (option_map Some) is

own_mode : (kind : Kind) (mode : ℕ) (target letters : List ℕ) → read_letters letters ≡ Some mode → mode_typed (record { kind = kind; mode = mode; target = target }) letters ≡ Some mode
unfolding mode_typed
own_mode File mode target letters is = rw is refl
own_mode Dir mode target letters is = rw is refl
own_mode Link mode target letters is = rw (is, eq-eqb mode mode refl) refl

abbrev own : Names → ℕ → Option (List ℕ) → Typed
own path mode target = record { path = Some path; mode = mode; target = target }

asks_plain : (number : ℕ) (path : Names) (was : Shown) → asked_of number path was (own path was.mode None) ≡ nothing
unfolding asked_of
asks_plain number path was = rw (same_self path, eq-eqb was.mode was.mode refl) refl

asks_link : (number : ℕ) (path : Names) (was : Shown) → asked_of number path was (own path was.mode (Some was.target)) ≡ nothing
unfolding asked_of
asks_link number path was = rw (same_self path, (bytes_eq-Decides was.target was.target).1 refl, eq-eqb was.mode was.mode refl) refl

plain_named : (number : ℕ) (o : Option Names) (names : Names × List ℕ) → (or_bad number (cause.Line field.Name) o >>= λ path. Ok (path, [])) ≡ Ok names → o ≡ Some names.0
plain_named number None names is = cc
plain_named number (Some path) names is = let same : (path, []) ≡ names = cc in ap (λ p. Some p.0) same

link_named : (number : ℕ) (o : Option Names) (t : Option (List ℕ)) (names : Names × List ℕ) → (or_bad number (cause.Line field.Name) o >>= λ path. or_bad number (cause.Line field.Target) t >>= λ target. Ok (path, target)) ≡ Ok names → (o ≡ Some names.0) × (t ≡ Some names.1)
link_named number None t names is = cc
link_named number (Some path) None names is = cc
link_named number (Some path) (Some target) names is = let same : (path, target) ≡ names = cc in (ap (λ p. Some p.0) same, ap (λ p. Some p.1) same)

own_link : (number : ℕ) (dir : Names) (text rest : List ℕ) (mode : ℕ) (names : Names × List ℕ) (place : ℕ) (arrow : Option ℕ) → drop place text ≡ rest → read_letters (take 9 (drop 3 text)) ≡ Some mode → arrow_place rest ≡ arrow → link_shown number dir rest arrow ≡ Ok names → typed_of number dir place (record { kind = Link; mode = mode; target = names.1 }) text ≡ Ok (own names.0 mode (Some names.1))
unfolding typed_of texts_in target_typed link_shown
own_link number dir text rest mode names place None at letters arrow_is is = cc
own_link number dir text rest mode names place (Some arrow) at letters arrow_is is =
    let parts = link_named number (named dir (take arrow rest)) (target_of (drop (arrow + 4) rest)) names is in
    rw (at, arrow_is, name_typed dir (take arrow rest) names.0 parts.0, own_mode Link mode names.1 (take 9 (drop 3 text)) letters, parts.1) refl

own_kind : (number : ℕ) (dir : Names) (text rest : List ℕ) (kind : Kind) (mode : ℕ) (names : Names × List ℕ) (place : ℕ) → drop place text ≡ rest → read_letters (take 9 (drop 3 text)) ≡ Some mode → shown number dir kind rest ≡ Ok names → AsksNothing number dir (Entry text place names.0 (record { kind = kind; mode = mode; target = names.1 }))
unfolding typed_of texts_in target_typed shown
own_kind number dir text rest File mode names place at letters is =
    let path = name_typed dir rest names.0 (plain_named number (named dir rest) names is) in
    (own names.0 mode None, rw (at, path, own_mode File mode names.1 (take 9 (drop 3 text)) letters) refl, asks_plain number names.0 (record { kind = File; mode = mode; target = names.1 }))
own_kind number dir text rest Dir mode names place at letters is =
    let path = name_typed dir rest names.0 (plain_named number (named dir rest) names is) in
    (own names.0 mode None, rw (at, path, own_mode Dir mode names.1 (take 9 (drop 3 text)) letters) refl, asks_plain number names.0 (record { kind = Dir; mode = mode; target = names.1 }))
own_kind number dir text rest Link mode names place at letters is =
    (own names.0 mode (Some names.1), own_link number dir text rest mode names place (arrow_place rest) at letters refl is, asks_link number names.0 (record { kind = Link; mode = mode; target = names.1 }))

own_line : (number : ℕ) (dir : Names) (text : List ℕ) (front : Front) (rest : List ℕ) (names : Names × List ℕ) → IsFront text front → rest ≡ drop 1 front.rest → shown number dir front.kind rest ≡ Ok names → AsksNothing number dir (Entry text (length text - length rest) names.0 (record { kind = front.kind; mode = front.mode; target = names.1 }))
own_line number dir text front rest names fields rest_is is =
    own_kind number dir text rest front.kind front.mode names (length text - length rest) (end_at text rest (further text front.rest rest 1 fields.1 rest_is)) fields.0 is

abbrev k_names : List ℕ → Front → List ℕ → Names × List ℕ → Result BufferLine BufferFault
k_names text front rest names = Ok (Entry text (length text - length rest) names.0 (record { kind = front.kind; mode = front.mode; target = names.1 }))

abbrev k_rest : ℕ → Names → List ℕ → Front → List ℕ → Result BufferLine BufferFault
k_rest number dir text front rest = shown number dir front.kind rest >>= k_names text front rest

abbrev k_front : ℕ → Names → List ℕ → Front → Result BufferLine BufferFault
k_front number dir text front = or_bad number (cause.Line field.Name) (behind_space front.rest) >>= k_rest number dir text front

pub own_lines : (number : ℕ) (dir : Names) (text : List ℕ) → AllOk (AsksNothing number dir) (entry_of number dir text)
unfolding entry_of
own_lines number dir text =
    then_all (AsksNothing number dir) (at_line number (front_of text)) (k_front number dir text) (λ front front_is.
    then_all (AsksNothing number dir) (or_bad number (cause.Line field.Name) (behind_space front.rest)) (k_rest number dir text front) (λ rest rest_is.
    then_all (AsksNothing number dir) (shown number dir front.kind rest) (k_names text front rest) (λ names names_is.
    own_line number dir text front rest names (all_at (IsFront text) (front_of text) front (fronts text) (ok_at number (front_of text) front front_is)) (space_end front.rest rest (some_at number (cause.Line field.Name) (behind_space front.rest) rest rest_is)) names_is)))
