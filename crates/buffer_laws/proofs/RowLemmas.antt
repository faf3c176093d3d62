-- The lines of files, as they are read and as they are written.
use Rattle.std.proofs.Common.{◌≡◌, ◌⊎◌, inl, inr, ℕ, suc, ◌+◌, ◌-◌, ◌<◌, ◌≤◌, ◌^◌, Bool, true, false, nat_le, List, [], ◌∷◌, ◌++◌, length, refl, sym, ◌∙◌, ap, subst, arith, Option, Some, None, Result, Ok, Err, decimal, append_assoc}
use Rattle.std.proofs.lemmas.Bool.{and_parts, ne_eqb, leb-true, eqb-true}
use Rattle.std.proofs.lemmas.Fmt.{decimal_nonempty}
use Rattle.std.proofs.lemmas.List.{append_cancel_left}
use Rattle.std.proofs.lemmas.Option.{cond_some}
use Rattle.std.specs.List.{list_all}
use Rattle.dired_text.specs.Modes.{mode_letters}
use Rattle.dired_text.specs.Paths.{Names}
use Rattle.dired_text.specs.Resolve.{resolved}
use Rattle.dired_text.specs.declared.resolving.NameError.{NameError}
use Rattle.tree_core.specs.declared.edit.Shown.{Shown}
use Rattle.listing_text.specs.declared.faults.Field.TheVariants as field
use Rattle.listing_text.specs.declared.faults.LineFault.{LineFault}
use Rattle.listing_text.specs.declared.faults.LineFault.TheVariants as line_fault
use Rattle.listing_text.specs.declared.line.Line.{Line}
use Rattle.listing_text.specs.Dates.{minute_text}
use Rattle.listing_text.specs.Fields.{is_space, is_word, is_word_byte}
use Rattle.listing_text.specs.Grammar.{IsLineText}
use Rattle.listing_text.specs.Listed.{spaces, kind_letter}
use Rattle.listing_text.specs.Numbers.{is_digit}
use Rattle.listing_text.specs.Reading.{Front, front_of, behind_space, behind_gap, names_in, line_of, or_bad, ◌>>=◌}
use Rattle.listing_text.proofs.FieldReads.{word-bytes, word-some, decimal-all}
use Rattle.listing_text.proofs.GrammarBack.{front-from, names-from}
use Rattle.listing_text.proofs.GrammarLemmas.{flat, grammar-read}
use Rattle.listing_text.proofs.RunLemmas.{Stops, behind_gap-is, same_Ok, or_bad-from, bind-from}
use Rattle.wdired_buffer.specs.declared.faults.BufferFault.{BufferFault}
use Rattle.wdired_buffer.specs.declared.line.BufferLine.{BufferLine}
use Rattle.wdired_buffer.specs.declared.line.BufferLine.TheVariants.{Fixed, Header, Entry}
use Rattle.wdired_buffer.specs.Buffer.{shown, entry_of}
use Rattle.wdired_buffer.specs.EntryLaws.{IsReadAs, IsEntryOf}
use Rattle.wdired_buffer.proofs.EntryLemmas.{entries_alike}
use Rattle.buffer_laws.specs.Buffers.{Row, IsRow, row_line}
use Rattle.buffer_laws.proofs.HeaderLemmas.{bind_ok, read_ok}

-- ---- a text shows one text of names

digits-stop : (ds rest : List ℕ) → list_all is_digit ds ≡ true → 0 < length ds → Stops is_space (ds ++ rest)
digits-stop [] rest all more = absurd (omega arith)
digits-stop (d ∷ ds) rest all more =
    let parts = and_parts (is_digit d) (list_all is_digit ds) all in
    let low : 48 ≤ d = leb-true 48 d (and_parts (nat_le 48 d) (nat_le d 57) parts.0).0 in
    ne_eqb d 32 (λ e. let same : d ≡ 32 = e in omega arith)

number-stop : (n : ℕ) (rest : List ℕ) → n < 2 ^ 64 → Stops is_space (decimal n ++ rest)
number-stop n rest small = digits-stop (decimal n) rest (decimal-all n small) (decimal_nonempty n small)

bytes-stop : (w rest : List ℕ) → list_all is_word_byte w ≡ true → 1 ≤ length w → Stops is_space (w ++ rest)
bytes-stop [] rest all more = absurd (omega arith)
bytes-stop (b ∷ w) rest all more =
    let parts = and_parts (is_word_byte b) (list_all is_word_byte w) all in
    let low : 33 ≤ b = leb-true 33 b (and_parts (nat_le 33 b) (nat_le b 126) parts.0).0 in
    ne_eqb b 32 (λ e. let same : b ≡ 32 = e in omega arith)

word-stop : (w rest : List ℕ) → is_word w ≡ true → Stops is_space (w ++ rest)
word-stop w rest is = bytes-stop w rest (word-bytes w is) (word-some w is)

-- what follows a field that follows spaces
behind-field : (a b : ℕ) (word x y : List ℕ) → Stops is_space (word ++ x) → Stops is_space (word ++ y)
    → (32 ∷ spaces a) ++ (word ++ x) ≡ (32 ∷ spaces b) ++ (word ++ y) → x ≡ y
behind-field a b word x y stops other e =
    let inner : spaces a ++ (word ++ x) ≡ spaces b ++ (word ++ y) = cc in
    append_cancel_left word x y (sym (behind_gap-is a (word ++ x) stops) ∙ ap behind_gap inner ∙ behind_gap-is b (word ++ y) other)

-- what stands behind the mode of a text, and behind its size
abbrev pub columns_of : (line : Line) → ℕ → ℕ → ℕ → ℕ → List ℕ → List ℕ
columns_of line links owner group size rest =
    (32 ∷ spaces links) ++ (decimal line.links ++ ((32 ∷ spaces owner) ++ (line.owner ++ ((32 ∷ spaces group) ++ (line.group ++ ((32 ∷ spaces size) ++ (decimal line.size ++ rest)))))))

abbrev pub dated : Line → List ℕ → List ℕ
dated line names = (32 ∷ minute_text line.minute) ++ (32 ∷ names)

pub text-parts : (mark : ℕ) (line : Line) (text : List ℕ) (h : IsLineText mark line text)
    → text ≡ mark ∷ 32 ∷ kind_letter line.kind ∷ (mode_letters line.mode ++ columns_of line h.before_links h.before_owner h.before_group h.before_size (dated line h.names))
text-parts mark line text h =
    h.is ∙ flat mark (kind_letter line.kind) (mode_letters line.mode) (32 ∷ spaces h.before_links) (decimal line.links) (32 ∷ spaces h.before_owner) line.owner
    (32 ∷ spaces h.before_group) line.group (32 ∷ spaces h.before_size) (decimal line.size) (32 ∷ minute_text line.minute) (32 ∷ h.names)

pub names-one : (mark : ℕ) (line : Line) (text : List ℕ) (g h : IsLineText mark line text) → g.names ≡ h.names
names-one mark line text g h =
    let letters = mode_letters line.mode in
    let whole : mark ∷ 32 ∷ kind_letter line.kind ∷ (letters ++ columns_of line g.before_links g.before_owner g.before_group g.before_size (dated line g.names))
    ≡ mark ∷ 32 ∷ kind_letter line.kind ∷ (letters ++ columns_of line h.before_links h.before_owner h.before_group h.before_size (dated line h.names)) =
    sym (text-parts mark line text g) ∙ text-parts mark line text h in
    let front : letters ++ columns_of line g.before_links g.before_owner g.before_group g.before_size (dated line g.names)
    ≡ letters ++ columns_of line h.before_links h.before_owner h.before_group h.before_size (dated line h.names) = cc in
    let columns = append_cancel_left letters (columns_of line g.before_links g.before_owner g.before_group g.before_size (dated line g.names)) (columns_of line h.before_links h.before_owner h.before_group h.before_size (dated line h.names)) front in
    let low : line.links < 2 ^ 64 = omega (arith, g.links) in
    let owner = behind-field g.before_links h.before_links (decimal line.links) _ _ (number-stop line.links _ low) (number-stop line.links _ low) columns in
    let group = behind-field g.before_owner h.before_owner line.owner _ _ (word-stop line.owner _ g.owner) (word-stop line.owner _ g.owner) owner in
    let size = behind-field g.before_group h.before_group line.group _ _ (word-stop line.group _ g.group) (word-stop line.group _ g.group) group in
    let date = behind-field g.before_size h.before_size (decimal line.size) (dated line g.names) (dated line h.names) (number-stop line.size _ g.size) (number-stop line.size _ g.size) size in
    let names : 32 ∷ g.names ≡ 32 ∷ h.names = append_cancel_left (32 ∷ minute_text line.minute) (32 ∷ g.names) (32 ∷ h.names) date in cc

-- ---- a line that is read, with the text of its names

pub record LineRead (mark : ℕ) (line : Line) (text : List ℕ) : Type 0 where
  pub front : Front
  pub rest : List ℕ
  pub front_is : front_of text ≡ Ok front
  pub rest_is : behind_space front.rest ≡ Some rest
  pub shown : IsLineText mark line text
  pub names : shown.names ≡ rest

space-from : (text rest : List ℕ) → behind_space text ≡ Some rest → text ≡ 32 ∷ rest
space-from [] rest e = cc
space-from (b ∷ bs) rest e =
    let is = cond_some (is_space b) bs rest e in ap (λ x. x ∷ bs) (eqb-true b 32 is.0) ∙ ap (λ t. 32 ∷ t) is.1

pub line-from : (mark : ℕ) (line : Line) (text : List ℕ) → line_of text ≡ Ok (mark, line) → LineRead mark line text
unfolding line_of
line-from mark line text e =
    let bytes = length text in
    let b1 = bind-from _ (front_of text) (mark, line) e in
    let front = b1.0 in
    let b2 = bind-from _ (or_bad field.Name bytes front.rest (behind_space front.rest)) (mark, line) b1.2 in
    let rest = b2.0 in
    let b3 = bind-from _ (names_in front.kind bytes rest) (mark, line) b2.2 in
    let names = b3.0 in
    let h = front-from text front b1.1 in
    let rest_is : behind_space front.rest ≡ Some rest = or_bad-from field.Name bytes front.rest (behind_space front.rest) rest b2.1 in
    let space = space-from front.rest rest rest_is in
    let read : Line = record { kind = front.kind; mode = front.mode; links = front.links; owner = front.owner; group = front.group; size = front.size; minute = front.minute; name = names.0; target = names.1 } in
    let same : (front.mark, read) ≡ (mark, line) = same_Ok (front.mark, read) (mark, line) b3.2 in
    let shown : IsLineText front.mark read text = record {
      before_links = h.before_links;
      before_owner = h.before_owner;
      before_group = h.before_group;
      before_size = h.before_size;
      names = rest;
      is = subst (λ t. text ≡ front.mark ∷ 32 ∷ kind_letter front.kind ∷ mode_letters front.mode
          ++ 32 ∷ spaces h.before_links ++ decimal front.links ++ 32 ∷ spaces h.before_owner ++ front.owner
          ++ 32 ∷ spaces h.before_group ++ front.group ++ 32 ∷ spaces h.before_size ++ decimal front.size
          ++ 32 ∷ minute_text front.minute ++ t) space h.is;
      mark_low = h.mark_low;
      mark_high = h.mark_high;
      mode = h.mode;
      links = h.links;
      owner = h.owner;
      group = h.group;
      size = h.size;
      minute = h.minute;
      name = names-from front.kind bytes rest names b3.1;
    } in
    subst (λ (x : ℕ × Line). LineRead x.0 x.1 text) same
    (record { front = front; rest = rest; front_is = b1.1; rest_is = rest_is; shown = shown; names = refl {a = rest} })

-- ---- an entry

abbrev entry : List ℕ → ℕ → Front → Names × List ℕ → Result BufferLine BufferFault
entry text place front names = Ok (Entry text place names.0 (record { kind = front.kind; mode = front.mode; target = names.1 }))

place-from : (number : ℕ) (dir : Names) (text rest : List ℕ) (front : Front) (name_at : ℕ) (path : Names) (was : Shown) → front_of text ≡ Ok front → behind_space front.rest ≡ Some rest
    → entry_of number dir text ≡ Ok (Entry text name_at path was) → name_at ≡ length text - length rest
unfolding entry_of
place-from number dir text rest front name_at path was front_is rest_is e =
    let b = bind_ok (shown number dir front.kind rest) (entry text (length text - length rest) front) (Entry text name_at path was) (rw (front_is, rest_is) at e) in
    let last : entry text (length text - length rest) front b.0 ≡ Ok (Entry text name_at path was) = b.2 in cc

-- what was read is the line of a row
pub record RowRead (dir : Names) (text : List ℕ) (line : BufferLine) : Type 0 where
  pub row : Row
  pub is : IsRow dir row
  pub text_is : row.text ≡ text
  pub line_is : line ≡ row_line row

row-found : (number : ℕ) (dir : Names) (text : List ℕ) (line : BufferLine) (mark : ℕ) (shown : Line) (found : Result Names NameError) → entry_of number dir text ≡ Ok line → line_of text ≡ Ok (mark, shown)
    → resolved dir shown.name ≡ found → IsEntryOf number text shown found (entry_of number dir text) → RowRead dir text line
row-found number dir text line mark shown (Err e) read line_is path_is alike = let none = sym read ∙ alike in cc
row-found number dir text line mark shown (Ok path) read line_is path_is alike =
    let h = line-from mark shown text line_is in
    let place = place-from number dir text h.rest h.front alike.0 path (record { kind = shown.kind; mode = shown.mode; target = shown.target }) h.front_is h.rest_is alike.1 in
    let line_same : read_ok line ≡ read_ok (Entry text alike.0 path (record { kind = shown.kind; mode = shown.mode; target = shown.target })) = sym read ∙ alike.1 in
    record {
      row = record { text = text; mark = mark; line = shown; name_at = alike.0; path = path };
      is = record { shown = h.shown; place = place ∙ ap (λ (t : List ℕ). length text - length t) (sym h.names); path = path_is };
      text_is = refl;
      line_is = cc;
    }

row-read : (number : ℕ) (dir : Names) (text : List ℕ) (line : BufferLine) (found : Result (ℕ × Line) LineFault) → entry_of number dir text ≡ Ok line → line_of text ≡ found
    → IsReadAs number dir text found (entry_of number dir text) → RowRead dir text line
row-read number dir text line (Ok (mark, shown)) read line_is alike = row-found number dir text line mark shown (resolved dir shown.name) read line_is refl alike
row-read number dir text line (Err (line_fault.Bad bad place)) read line_is (inl same) = let none = sym read ∙ same in cc
row-read number dir text line (Err (line_fault.Bad bad place)) read line_is (inr other) = let none = sym read ∙ other.1 in cc
row-read number dir text line (Err line_fault.Memory) read line_is alike = let none = sym read ∙ alike in cc

pub row-from : (number : ℕ) (dir : Names) (text : List ℕ) (line : BufferLine) → entry_of number dir text ≡ Ok line → RowRead dir text line
row-from number dir text line read = row-read number dir text line (line_of text) read refl (entries_alike number dir text)

-- and the line of a row is read
pub row-is : (number : ℕ) (dir : Names) (row : Row) → IsRow dir row → entry_of number dir row.text ≡ Ok (row_line row)
row-is number dir row h =
    let text = row.text in
    let was : Shown = record { kind = row.line.kind; mode = row.line.mode; target = row.line.target } in
    let read = grammar-read row.mark row.line text h.shown in
    let alike = subst (λ r. IsReadAs number dir text r (entry_of number dir text)) read (entries_alike number dir text) in
    let entry_is : IsEntryOf number text row.line (Ok row.path) (entry_of number dir text) =
    subst (λ r. IsEntryOf number text row.line r (entry_of number dir text)) h.path alike in
    let g = line-from row.mark row.line text read in
    let place : entry_is.0 ≡ row.name_at =
    place-from number dir text g.rest g.front entry_is.0 row.path was g.front_is g.rest_is entry_is.1
    ∙ ap (λ (t : List ℕ). length text - length t) (sym g.names ∙ names-one row.mark row.line text g.shown h.shown) ∙ sym h.place in
    entry_is.1 ∙ ap (λ (n : ℕ). Ok (Entry text n row.path was)) place
