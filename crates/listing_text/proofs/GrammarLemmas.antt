-- A line of the grammar is read with its fields.
use Rattle.std.proofs.lemmas.List.{append_assoc}
use Rattle.std.proofs.Common.{◌≡◌, ℕ, suc, ◌+◌, ◌<◌, ◌≤◌, ◌^◌, true, nat_le, List, [], ◌∷◌, ◌++◌, length, take, drop, refl, ◌∙◌, ap, subst, arith, Some, ℤ, Ok, decimal}
use Rattle.std.proofs.Math.Seq.{take-append_seam, drop-append-add}
use Rattle.std.proofs.lemmas.Bool.{and_parts, ne_eqb, leb-true, le-leb}
use Rattle.std.proofs.lemmas.Fmt.{decimal_nonempty}
use Rattle.std.specs.List.{list_all}
use Rattle.dired_text.specs.Modes.{mode_letters}
use Rattle.tree_core.specs.declared.node.Kind.{Kind}
use Rattle.tree_core.specs.declared.node.Kind.TheVariants.{File, Dir, Link}
use Rattle.listing_text.specs.declared.faults.Field.TheVariants as field
use Rattle.listing_text.specs.declared.line.Line.{Line}
use Rattle.listing_text.specs.Dates.{minute_text, shown_minute}
use Rattle.listing_text.specs.Fields.{is_space, mark_in, kind_in, mode_in, number_in, word_in, date_in, is_word, is_word_byte, name_of, target_of}
use Rattle.listing_text.specs.Grammar.{IsNamesText, IsLineText}
use Rattle.listing_text.specs.Listed.{spaces, kind_letter, arrow}
use Rattle.listing_text.specs.Numbers.{is_digit, most_links, most_size}
use Rattle.listing_text.specs.Reading.{Front, front_of, spaced, one, some, names_in, link_names, name_at, line_of, behind_space}
use Rattle.listing_text.proofs.FieldReads.{mark-is, kind-is, mode-is, number-is, word-is, word-bytes, word-some, date-is, decimal-all}
use Rattle.listing_text.proofs.MomentLemmas.{minute_text-head}
use Rattle.listing_text.proofs.RunLemmas.{Stops, spaced-is}

-- a text that begins with digits or with a word begins with no space
digits-stop : (ds rest : List ℕ) → list_all is_digit ds ≡ true → 0 < length ds → Stops is_space (ds ++ rest)
digits-stop [] rest all more = absurd (omega arith)
digits-stop (d ∷ ds) rest all more =
    let parts = and_parts (is_digit d) (list_all is_digit ds) all in
    let low : 48 ≤ d = leb-true 48 d (and_parts (nat_le 48 d) (nat_le d 57) parts.0).0 in
    ne_eqb d 32 (λ e. let same : d ≡ 32 = e in omega arith)

number-stop : (n : ℕ) (rest : List ℕ) → n < 2 ^ 64 → Stops is_space (decimal n ++ rest)
number-stop n rest small = digits-stop (decimal n) rest (decimal-all n small) (decimal_nonempty n small)

bytes-stop : (w rest : List ℕ) → list_all is_word_byte w ≡ true → 1 ≤ length w → Stops is_space (w ++ rest)
bytes-stop [] rest all more = absurd (omega arith)
bytes-stop (b ∷ w) rest all more =
    let parts = and_parts (is_word_byte b) (list_all is_word_byte w) all in
    let low : 33 ≤ b = leb-true 33 b (and_parts (nat_le 33 b) (nat_le b 126) parts.0).0 in
    ne_eqb b 32 (λ e. let same : b ≡ 32 = e in omega arith)

word-stop : (w rest : List ℕ) → is_word w ≡ true → Stops is_space (w ++ rest)
word-stop w rest is = bytes-stop w rest (word-bytes w is) (word-some w is)

kind-stop : (kind : Kind) (rest : List ℕ) → Stops is_space (kind_letter kind ∷ rest)
kind-stop File rest = refl
kind-stop Dir rest = refl
kind-stop Link rest = refl

some-more : (n : ℕ) → some (suc n) ≡ true
some-more n = le-leb 1 (suc n) (omega arith)

-- the fields in front of the name, one after another
front-chain : (text : List ℕ) (mark : ℕ × List ℕ) (kind : Kind × List ℕ) (mode links : ℕ × List ℕ) (owner group : List ℕ × List ℕ) (size : ℕ × List ℕ) (date : ℤ × List ℕ)
    → mark_in text ≡ Some mark → spaced field.Kind one kind_in (length text) mark.1 ≡ Ok kind → mode_in kind.0 kind.1 ≡ Some mode
    → spaced field.Links some (number_in most_links) (length text) mode.1 ≡ Ok links
    → spaced field.Owner some word_in (length text) links.1 ≡ Ok owner → spaced field.Group some word_in (length text) owner.1 ≡ Ok group
    → spaced field.Size some (number_in most_size) (length text) group.1 ≡ Ok size → spaced field.Date one date_in (length text) size.1 ≡ Ok date
    → front_of text ≡ Ok (record { mark = mark.0; kind = kind.0; mode = mode.0; links = links.0; owner = owner.0; group = group.0; size = size.0; minute = date.0; rest = date.1 })
unfolding front_of
front-chain text mark kind mode links owner group size date e1 e2 e3 e4 e5 e6 e7 e8 = rw (e1, e2, e3, e4, e5, e6, e7, e8) refl

line-chain : (text rest : List ℕ) (front : Front) (names : List ℕ × List ℕ) → front_of text ≡ Ok front → behind_space front.rest ≡ Some rest → names_in front.kind (length text) rest ≡ Ok names
    → line_of text ≡ Ok (front.mark, record { kind = front.kind; mode = front.mode; links = front.links; owner = front.owner; group = front.group; size = front.size; minute = front.minute; name = names.0; target = names.1 })
unfolding line_of
line-chain text rest front names e1 e2 e3 = rw (e1, e2, e3) refl

name-read : (bytes : ℕ) (rest shown name : List ℕ) → name_of shown ≡ Some name → name_at bytes rest shown ≡ Ok name
name-read bytes rest shown name e = rw e refl

link-read : (bytes : ℕ) (shown behind name target : List ℕ) → name_of shown ≡ Some name → target_of behind ≡ Some target → link_names bytes (shown ++ arrow ++ behind) (Some (length shown)) ≡ Ok (name, target)
unfolding link_names
link-read bytes shown behind name target is_name is_target =
    let same = append_assoc shown arrow behind in
    let front : take (length shown) (shown ++ arrow ++ behind) ≡ shown = ap (take (length shown)) same ∙ take-append_seam shown (arrow ++ behind) in
    let back : drop (length shown + 4) (shown ++ arrow ++ behind) ≡ behind = ap (drop (length shown + 4)) same ∙ drop-append-add shown (arrow ++ behind) 4 in
    rw (front, back, is_name, is_target) refl

pub names-read : (kind : Kind) (bytes : ℕ) (name target text : List ℕ) → IsNamesText kind name target text → names_in kind bytes text ≡ Ok (name, target)
unfolding names_in
names-read File bytes name target text h = rw (h.0, h.1) refl
names-read Dir bytes name target text h = rw (h.0, h.1) refl
names-read Link bytes name target text h =
    ap (link_names bytes text) h.3 ∙ ap (λ t. link_names bytes t (Some (length h.0))) h.2 ∙ link-read bytes h.0 h.1 name target h.4 h.5

-- the parts of a line, one in front of the other
pub flat : (m k : ℕ) (ml a l b o c g d s t n : List ℕ) → m ∷ 32 ∷ k ∷ ml ++ a ++ l ++ b ++ o ++ c ++ g ++ d ++ s ++ t ++ n ≡ m ∷ 32 ∷ k ∷ (ml ++ (a ++ (l ++ (b ++ (o ++ (c ++ (g ++ (d ++ (s ++ (t ++ n))))))))))
flat m k ml a l b o c g d s t n = simp append_assoc refl

-- the whole line
pub grammar-read : (mark : ℕ) (line : Line) (text : List ℕ) → IsLineText mark line text → line_of text ≡ Ok (mark, line)
grammar-read mark line text h =
    let t8 : List ℕ = 32 ∷ h.names in
    let t7 : List ℕ = minute_text line.minute ++ t8 in
    let s7 : List ℕ = 32 ∷ t7 in
    let t6 : List ℕ = decimal line.size ++ s7 in
    let s6 : List ℕ = 32 ∷ spaces h.before_size ++ t6 in
    let t5 : List ℕ = line.group ++ s6 in
    let s5 : List ℕ = 32 ∷ spaces h.before_group ++ t5 in
    let t4 : List ℕ = line.owner ++ s5 in
    let s4 : List ℕ = 32 ∷ spaces h.before_owner ++ t4 in
    let t3 : List ℕ = decimal line.links ++ s4 in
    let s3 : List ℕ = 32 ∷ spaces h.before_links ++ t3 in
    let t2 : List ℕ = mode_letters line.mode ++ s3 in
    let s1 : List ℕ = 32 ∷ kind_letter line.kind ∷ t2 in
    let whole : List ℕ = mark ∷ s1 in
    let bytes = length whole in
    let few_links : line.links < 2 ^ 64 = omega (arith, h.links) in
    let front = front-chain whole (mark, s1) (line.kind, t2) (line.mode, s3) (line.links, s4) (line.owner, s5) (line.group, s6) (line.size, s7) (shown_minute line.minute, t8)
    (mark-is mark s1 h.mark_low h.mark_high)
    (spaced-is field.Kind one kind_in bytes 1 (kind_letter line.kind ∷ t2) (line.kind, t2) (kind-stop line.kind t2) refl (kind-is line.kind t2))
    (mode-is line.kind line.mode s3 h.mode)
    (spaced-is field.Links some (number_in most_links) bytes (suc h.before_links) t3 (line.links, s4) (number-stop line.links s4 few_links) (some-more h.before_links) (number-is most_links line.links s4 (omega (arith, h.links)) few_links refl))
    (spaced-is field.Owner some word_in bytes (suc h.before_owner) t4 (line.owner, s5) (word-stop line.owner s5 h.owner) (some-more h.before_owner) (word-is line.owner s5 h.owner refl))
    (spaced-is field.Group some word_in bytes (suc h.before_group) t5 (line.group, s6) (word-stop line.group s6 h.group) (some-more h.before_group) (word-is line.group s6 h.group refl))
    (spaced-is field.Size some (number_in most_size) bytes (suc h.before_size) t6 (line.size, s7) (number-stop line.size s7 h.size) (some-more h.before_size) (number-is most_size line.size s7 (omega (arith, h.size)) h.size refl))
    (spaced-is field.Date one date_in bytes 1 t7 (shown_minute line.minute, t8) (minute_text-head line.minute t8) refl (date-is line.minute t8)) in
    let read = line-chain whole h.names _ (line.name, line.target) front refl (names-read line.kind bytes line.name line.target h.names h.name) in
    let At : ℤ → Type 0 = λ m. line_of text ≡ Ok (mark, record { kind = line.kind; mode = line.mode; links = line.links; owner = line.owner; group = line.group; size = line.size; minute = m; name = line.name; target = line.target }) in
    let text_is : text ≡ whole = h.is ∙ flat mark (kind_letter line.kind) (mode_letters line.mode) (32 ∷ spaces h.before_links) (decimal line.links) (32 ∷ spaces h.before_owner) line.owner
    (32 ∷ spaces h.before_group) line.group (32 ∷ spaces h.before_size) (decimal line.size) (32 ∷ minute_text line.minute) t8 in
    subst At h.minute (ap line_of text_is ∙ read)
