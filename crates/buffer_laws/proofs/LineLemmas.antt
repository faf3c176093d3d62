-- What one line of an edited buffer asks for.
use Rattle.std.proofs.Common.{◌≡◌, ◌≢◌, ◌⊎◌, inl, inr, ℕ, ◌+◌, ◌≤◌, Bool, true, false, ◌==◌, List, [], ◌∷◌, ◌++◌, length, take, drop, refl, sym, ◌∙◌, ap, subst, arith, Option, Some, None, Result, Ok, Err, if◌then◌else◌}
use Rattle.std.proofs.lemmas.Bool.{cases_Bool}
use Rattle.std.specs.Str.{bytes_eq}
use Rattle.dired_text.specs.Modes.{mode_letters}
use Rattle.dired_text.specs.Paths.{Names}
use Rattle.tree_core.specs.declared.edit.Edit.{Edit}
use Rattle.tree_core.specs.declared.edit.Shown.{Shown}
use Rattle.tree_core.specs.declared.node.Kind.{Kind}
use Rattle.tree_core.specs.declared.node.Kind.TheVariants.{File, Dir, Link}
use Rattle.listing_text.specs.declared.line.Line.{Line}
use Rattle.listing_text.specs.Grammar.{IsModeOf, IsNamesText as IsOwnNames}
use Rattle.listing_text.specs.Reading.{◌>>=◌}
use Rattle.wdired_buffer.specs.declared.faults.BufferFault.{BufferFault}
use Rattle.wdired_buffer.specs.declared.faults.EditsFault.{EditsFault}
use Rattle.wdired_buffer.specs.declared.line.BufferLine.{BufferLine}
use Rattle.wdired_buffer.specs.declared.line.BufferLine.TheVariants.{Fixed, Header, Entry}
use Rattle.wdired_buffer.specs.declared.typed.Asked.{Asked}
use Rattle.wdired_buffer.specs.declared.typed.Typed.{Typed}
use Rattle.wdired_buffer.specs.Buffer.{entry_of}
use Rattle.wdired_buffer.specs.EntryLaws.{AllOk, AsksNothing}
use Rattle.wdired_buffer.specs.Edits.{same_path, changed, same_fixed, mode_typed, typed_of, asked_of, nothing, line_asks}
use Rattle.wdired_buffer.proofs.ShownLemmas.{own_lines}
use Rattle.buffer_laws.specs.Buffers.{Row, IsRow, row_line}
use Rattle.buffer_laws.specs.Differences.{Fields, IsNamesText, IsEdited, IsChange, IsDifference, IsEmptied, After, IsAfterLine}
use Rattle.buffer_laws.proofs.HeaderLemmas.{bind_ok, edits_ok, same_bytes, own_bytes}
use Rattle.buffer_laws.proofs.RowLemmas.{RowRead, row-from}
use Rattle.buffer_laws.proofs.SliceLemmas.{InParts, front-of, letters-of, names-of, fixed-same, fixed-own, parts-from, RowParts, row-parts}
use Rattle.buffer_laws.proofs.ChangeLemmas.{change-one, path-change, text-change, mode-change, edit-is, edit-one, emptied-is, emptied-one}
use Rattle.buffer_laws.proofs.EditedLemmas.{target_read, NamesRead, names-read, NamesShown, names-shown, mode-from, mode-is, PartsRead, typed-is, typed-from}

-- ---- by what is read

-- the text is the same outside mode, name and target, and this is asked for by what it shows
pub record Typing (number : ℕ) (dir : Names) (text : List ℕ) (name_at : ℕ) (source : Names) (was : Shown) (after : List ℕ) (asked : Asked) : Type 0 where
  pub typed : Typed
  pub fixed : same_fixed name_at text after ≡ true
  pub typed_is : typed_of number dir name_at was after ≡ Ok typed
  pub asked_is : asked ≡ asked_of number source was typed

all_ok : {B E : Type 0} (Q : B → Type 0) (r : Result B E) (b : B) → AllOk Q r → r ≡ Ok b → Q b
all_ok Q (Ok a) b all is = let same : b ≡ a = cc in rw same all
all_ok Q (Err e) b all is = cc

own_asks : (number : ℕ) (dir : Names) (text : List ℕ) (name_at : ℕ) (source : Names) (was : Shown) → entry_of number dir text ≡ Ok (Entry text name_at source was) → AsksNothing number dir (Entry text name_at source was)
own_asks number dir text name_at source was read = all_ok (AsksNothing number dir) (entry_of number dir text) (Entry text name_at source was) (own_lines number dir text) read

own_typing : (number : ℕ) (dir : Names) (text : List ℕ) (name_at : ℕ) (source : Names) (was : Shown) → entry_of number dir text ≡ Ok (Entry text name_at source was) → Typing number dir text name_at source was text nothing
own_typing number dir text name_at source was read =
    let own = own_asks number dir text name_at source was read in
    record { typed = own.0; fixed = fixed-own text name_at; typed_is = own.1; asked_is = sym own.2 }

pub typing-from : (number : ℕ) (dir : Names) (text : List ℕ) (name_at : ℕ) (source : Names) (was : Shown) (after : List ℕ) (asked : Asked) → entry_of number dir text ≡ Ok (Entry text name_at source was)
    → line_asks number dir (Entry text name_at source was) after ≡ Ok asked → Typing number dir text name_at source was after asked
unfolding line_asks
typing-from number dir text name_at source was after asked read e = elim (cases_Bool (bytes_eq after text)) [
  | inl same ↦
      let got : edits_ok nothing ≡ edits_ok asked = rw same at e in
      let asked_is : nothing ≡ asked = cc in
      let after_is : text ≡ after = sym (same_bytes after text same) in
      subst (λ a. Typing number dir text name_at source was after a) asked_is
      (subst (λ t. Typing number dir text name_at source was t nothing) after_is (own_typing number dir text name_at source was read))
  | inr other ↦ elim (cases_Bool (same_fixed name_at text after)) [
    | inl fixed ↦
        let b = bind_ok (typed_of number dir name_at was after) (λ typed. Ok (asked_of number source was typed)) asked (rw (other, fixed) at e) in
        let asked_is : asked_of number source was b.0 ≡ asked = (let last = b.2 in cc) in
        record { typed = b.0; fixed = fixed; typed_is = b.1; asked_is = sym asked_is }
    | inr bad ↦ let none = rw (other, bad) at e in cc
  ]
]

pub typing-is : (number : ℕ) (dir : Names) (text : List ℕ) (name_at : ℕ) (source : Names) (was : Shown) (after : List ℕ) (asked : Asked) → entry_of number dir text ≡ Ok (Entry text name_at source was)
    → Typing number dir text name_at source was after asked → line_asks number dir (Entry text name_at source was) after ≡ Ok asked
unfolding line_asks
typing-is number dir text name_at source was after asked read h = elim (cases_Bool (bytes_eq after text)) [
  | inl same ↦
      let own = own_asks number dir text name_at source was read in
      let again : edits_ok h.typed ≡ edits_ok own.0 = sym h.typed_is ∙ ap (typed_of number dir name_at was) (same_bytes after text same) ∙ own.1 in
      let typed : h.typed ≡ own.0 = cc in
      let none : asked ≡ nothing = h.asked_is ∙ ap (asked_of number source was) typed ∙ own.2 in
      rw same (ap Ok (sym none))
  | inr other ↦ let fixed = h.fixed in let typed_is = h.typed_is in rw (other, fixed, typed_is) (ap Ok (sym h.asked_is))
]

-- ---- by what is shown

-- the change of a target, as it is computed of an entry
target_change : (kind : Kind) (old target : List ℕ) (typed : Option (List ℕ)) → typed ≡ target_read kind target → (kind ≡ File → target ≡ old) → (kind ≡ Dir → target ≡ old) → IsChange old (Some target) (changed bytes_eq old typed)
target_change File old target typed is file dir = let none : typed ≡ None = is in rw none (inr (ap Some (file refl)))
target_change Dir old target typed is file dir = let none : typed ≡ None = is in rw none (inr (ap Some (dir refl)))
target_change Link old target typed is file dir = subst (λ (o : Option (List ℕ)). IsChange old (Some target) (changed bytes_eq old o)) (sym is) (text-change old (Some target))

-- what is asked for by what a line shows are the differences of its fields
pub record Asks (number : ℕ) (source : Names) (was : Shown) (fields : Fields) (asked : Asked) : Type 0 where
  pub edit : IsDifference number source was fields asked.edit
  pub emptied : IsEmptied source fields.path asked.emptied

asked_differs : (number : ℕ) (source : Names) (was : Shown) (typed : Typed) (target : List ℕ) → IsChange was.target (Some target) (changed bytes_eq was.target typed.target)
    → Asks number source was (record { path = typed.path; mode = typed.mode; target = target }) (asked_of number source was typed)
unfolding asked_of
asked_differs number source was typed target target_is = record {
  edit = edit-is number source was (record { path = typed.path; mode = typed.mode; target = target }) (changed same_path source typed.path) (changed bytes_eq was.target typed.target) (changed ◌==◌ was.mode (Some typed.mode))
      (path-change source typed.path) (mode-change was.mode (Some typed.mode)) target_is;
  emptied = emptied-is source typed.path;
}

-- an answer from its parts
made : Option Edit → Option Names → Asked
made edit emptied = record { edit = edit; emptied = emptied }

made_is : (a : Asked) → made a.edit a.emptied ≡ a
unfolding made
made_is a = refl

asked_one : (number : ℕ) (source : Names) (was : Shown) (fields : Fields) (a b : Asked) → Asks number source was fields a → Asks number source was fields b → a ≡ b
asked_one number source was fields a b is also =
    let edit : a.edit ≡ b.edit = edit-one number source was fields a.edit b.edit is.edit also.edit in
    let emptied : a.emptied ≡ b.emptied = emptied-one source fields.path a.emptied is.emptied ∙ sym (emptied-one source fields.path b.emptied also.emptied) in
    let parts : made a.edit a.emptied ≡ made b.edit b.emptied = cc in
    sym (made_is a) ∙ parts ∙ made_is b

-- ---- the line of a row

-- what isn't a link has no target
plain_target : (kind : Kind) (name target names : List ℕ) → IsOwnNames kind name target names → (kind ≡ File → [] ≡ target) × (kind ≡ Dir → [] ≡ target)
plain_target File name target names h = (λ e. sym h.1, λ e. sym h.1)
plain_target Dir name target names h = (λ e. sym h.1, λ e. sym h.1)
plain_target Link name target names h = (λ e. cc, λ e. cc)

-- an edited line that isn't a link shows no target
shown_target : (kind : Kind) (dir : Names) (path : Option Names) (target names : List ℕ) → IsNamesText kind dir path target names → (kind ≡ File → target ≡ []) × (kind ≡ Dir → target ≡ [])
shown_target File dir path target names h = (λ e. h.1, λ e. h.1)
shown_target Dir dir path target names h = (λ e. h.1, λ e. h.1)
shown_target Link dir path target names h = (λ e. cc, λ e. cc)

abbrev was_of : Row → Shown
was_of row = record { kind = row.line.kind; mode = row.line.mode; target = row.line.target }

row_target : (dir : Names) (row : Row) (path : Option Names) (target names : List ℕ) (typed : Option (List ℕ)) → IsRow dir row → IsNamesText row.line.kind dir path target names → typed ≡ target_read row.line.kind target
    → IsChange row.line.target (Some target) (changed bytes_eq row.line.target typed)
row_target dir row path target names typed h shown is =
    let own = plain_target row.line.kind row.line.name row.line.target h.shown.names h.shown.name in
    let new = shown_target row.line.kind dir path target names shown in
    target_change row.line.kind row.line.target target typed is (λ e. new.0 e ∙ own.0 e) (λ e. new.1 e ∙ own.1 e)

shown_from : (number : ℕ) (dir : Names) (row : Row) (after : List ℕ) (asked : Asked) → IsRow dir row → Typing number dir row.text row.name_at row.path (was_of row) after asked
    → (fields : Fields) × IsEdited dir row.text row.name_at row.line.kind after fields × Asks number row.path (was_of row) fields asked
shown_from number dir row after asked h t =
    let p = row-parts dir row h in
    let q = parts-from row.text after row.name_at p.front (mode_letters row.line.mode) p.middle p.names p.parts p.some t.fixed in
    let r = typed-from number dir row.name_at (was_of row) after t.typed t.typed_is in
    let m = mode-from (was_of row) (take 9 (drop 3 after)) t.typed.mode h.shown.mode r.mode_is in
    let n = names-shown row.line.kind dir t.typed.path t.typed.target (drop row.name_at after) r.path_is r.target_is in
    let fields : Fields = record { path = t.typed.path; mode = t.typed.mode; target = n.target } in
    let letters : after ≡ p.front ++ (mode_letters t.typed.mode ++ (p.middle ++ drop row.name_at after)) =
    q.is ∙ ap (λ (l : List ℕ). p.front ++ (l ++ (p.middle ++ drop row.name_at after))) m.0 in
    let edited : IsEdited dir row.text row.name_at row.line.kind after fields = record {
      front = p.front;
      letters = mode_letters row.line.mode;
      middle = p.middle;
      old_names = p.names;
      names = drop row.name_at after;
      old = p.parts.is;
      new = letters;
      front_length = p.parts.front_length;
      letters_length = p.parts.letters_length;
      place = p.parts.place;
      mode = m.1;
      shown = n.shown;
    } in
    let asks = asked_differs number row.path (was_of row) t.typed n.target (row_target dir row t.typed.path n.target (drop row.name_at after) t.typed.target h n.shown n.typed_is) in
    (fields, edited, subst (Asks number row.path (was_of row) fields) (sym t.asked_is) asks)

shown_is : (number : ℕ) (dir : Names) (row : Row) (after : List ℕ) (asked : Asked) (fields : Fields) → IsRow dir row → IsEdited dir row.text row.name_at row.line.kind after fields
    → Asks number row.path (was_of row) fields asked → Typing number dir row.text row.name_at row.path (was_of row) after asked
shown_is number dir row after asked fields h s asks =
    let old : InParts row.text row.name_at s.front s.letters s.middle s.old_names = record { is = s.old; front_length = s.front_length; letters_length = s.letters_length; place = s.place } in
    let place : length s.front + length (mode_letters fields.mode) + length s.middle ≡ row.name_at = (let l : length (mode_letters fields.mode) ≡ 9 = refl in let m = s.letters_length in let p = s.place in omega arith) in
    let new : InParts after row.name_at s.front (mode_letters fields.mode) s.middle s.names = record { is = s.new; front_length = s.front_length; letters_length = refl; place = place } in
    let n = names-read row.line.kind dir fields.path fields.target s.names s.shown in
    let behind : s.names ≡ drop row.name_at after = sym (names-of after row.name_at s.front (mode_letters fields.mode) s.middle s.names new) in
    let letters : mode_letters fields.mode ≡ take 9 (drop 3 after) = sym (letters-of after row.name_at s.front (mode_letters fields.mode) s.middle s.names new) in
    let typed : Typed = record { path = fields.path; mode = fields.mode; target = target_read row.line.kind fields.target } in
    let names : NamesRead row.line.kind dir fields.path fields.target (drop row.name_at after) = subst (NamesRead row.line.kind dir fields.path fields.target) behind n in
    let read : PartsRead dir row.name_at (was_of row) after typed = record {
      path_is = names.path_is;
      mode_is = ap (mode_typed (was_of row)) (sym letters) ∙ mode-is (was_of row) fields.mode h.shown.mode s.mode;
      target_is = names.target_is;
    } in
    let own : Asks number row.path (was_of row) fields (asked_of number row.path (was_of row) typed) =
    asked_differs number row.path (was_of row) typed fields.target (row_target dir row fields.path fields.target s.names typed.target h s.shown refl) in
    record {
      typed = typed;
      fixed = fixed-same row.text after row.name_at s.front s.letters (mode_letters fields.mode) s.middle s.old_names s.names old new;
      typed_is = typed-is number dir row.name_at (was_of row) after typed read;
      asked_is = asked_one number row.path (was_of row) fields asked (asked_of number row.path (was_of row) typed) asks own;
    }

-- ---- any line

-- an entry's line was read in this directory's section
abbrev pub IsReadLine : ℕ → Names → BufferLine → Type 0
IsReadLine number dir (Fixed text) = Unit {0}
IsReadLine number dir (Header text own) = Unit {0}
IsReadLine number dir (Entry text name_at source was) = entry_of number dir text ≡ Ok (Entry text name_at source was)

abbrev pub after_of : List ℕ → Asked → After
after_of text asked = record { text = text; edit = asked.edit; emptied = asked.emptied }

abbrev pub asked_by : After → Asked
asked_by after = record { edit = after.edit; emptied = after.emptied }

same_from : (text after : List ℕ) (asked : Asked) (fault : EditsFault) → (if bytes_eq after text then Ok nothing else Err fault) ≡ Ok asked → (after ≡ text) × (asked.edit ≡ None) × (asked.emptied ≡ None)
same_from text after asked fault e = elim (cases_Bool (bytes_eq after text)) [
  | inl same ↦
      let got : edits_ok nothing ≡ edits_ok asked = rw same at e in
      let is : nothing ≡ asked = cc in
      (same_bytes after text same, ap (λ (a : Asked). a.edit) (sym is), ap (λ (a : Asked). a.emptied) (sym is))
  | inr other ↦ let none = rw other at e in cc
]

same_is : (text after : List ℕ) (asked : Asked) (fault : EditsFault) → after ≡ text → asked.edit ≡ None → asked.emptied ≡ None → (if bytes_eq after text then Ok nothing else Err fault) ≡ Ok asked
unfolding made
same_is text after asked fault is edit emptied =
    let test : bytes_eq after text ≡ true = ap (λ (t : List ℕ). bytes_eq t text) is ∙ own_bytes text in
    let parts : made None None ≡ made asked.edit asked.emptied = cc in
    rw test (ap Ok (made_is nothing ∙ parts ∙ made_is asked))

-- the entry of a row
entry_from : (number : ℕ) (dir : Names) (line : BufferLine) (row : Row) (after : List ℕ) (asked : Asked) → IsRow dir row → line ≡ row_line row → entry_of number dir row.text ≡ Ok (row_line row) → line_asks number dir line after ≡ Ok asked
    → IsAfterLine number dir line (after_of after asked)
entry_from number dir line row after asked h is read e =
    let asks : line_asks number dir (row_line row) after ≡ Ok asked = ap (λ (l : BufferLine). line_asks number dir l after) (sym is) ∙ e in
    let s = shown_from number dir row after asked h (typing-from number dir row.text row.name_at row.path (was_of row) after asked read asks) in
    subst (λ (l : BufferLine). IsAfterLine number dir l (after_of after asked)) (sym is) (s.0, s.1, s.2.edit, s.2.emptied)

entry_is : (number : ℕ) (dir : Names) (line : BufferLine) (row : Row) (after : After) → IsRow dir row → line ≡ row_line row → entry_of number dir row.text ≡ Ok (row_line row) → IsAfterLine number dir line after
    → line_asks number dir line after.text ≡ Ok (asked_by after)
entry_is number dir line row after h is read shown =
    let own : IsAfterLine number dir (row_line row) after = subst (λ (l : BufferLine). IsAfterLine number dir l after) is shown in
    let typing = shown_is number dir row after.text (asked_by after) own.0 h own.1 (record { edit = own.2; emptied = own.3 }) in
    ap (λ (l : BufferLine). line_asks number dir l after.text) is ∙ typing-is number dir row.text row.name_at row.path (was_of row) after.text (asked_by after) read typing

row_again : (number : ℕ) (dir : Names) (text : List ℕ) (line : BufferLine) → entry_of number dir text ≡ Ok line → (h : RowRead dir text line) → entry_of number dir h.row.text ≡ Ok (row_line h.row)
row_again number dir text line read h = ap (entry_of number dir) h.text_is ∙ read ∙ ap Ok h.line_is

pub after-from : (number : ℕ) (dir : Names) (line : BufferLine) (after : List ℕ) (asked : Asked) → IsReadLine number dir line → line_asks number dir line after ≡ Ok asked → IsAfterLine number dir line (after_of after asked)
unfolding line_asks
after-from number dir (Fixed text) after asked read e = same_from text after asked _ e
after-from number dir (Header text own) after asked read e = same_from text after asked _ e
after-from number dir (Entry text name_at source was) after asked read e =
    let h = row-from number dir text (Entry text name_at source was) read in
    entry_from number dir (Entry text name_at source was) h.row after asked h.is h.line_is (row_again number dir text (Entry text name_at source was) read h) e

pub after-is : (number : ℕ) (dir : Names) (line : BufferLine) (after : After) → IsReadLine number dir line → IsAfterLine number dir line after → line_asks number dir line after.text ≡ Ok (asked_by after)
unfolding line_asks
after-is number dir (Fixed text) after read h = same_is text after.text (asked_by after) _ h.0 h.1 h.2
after-is number dir (Header text own) after read h = same_is text after.text (asked_by after) _ h.0 h.1 h.2
after-is number dir (Entry text name_at source was) after read h =
    let r = row-from number dir text (Entry text name_at source was) read in
    entry_is number dir (Entry text name_at source was) r.row after r.is r.line_is (row_again number dir text (Entry text name_at source was) read r) h
