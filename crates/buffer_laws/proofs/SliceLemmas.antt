-- The parts of a line's text: what stands before its mode, its mode letters, what stands between them and its name, and the rest.
use Rattle.std.proofs.Common.{◌≡◌, ℕ, ◌+◌, ◌-◌, ◌<◌, ◌≤◌, Bool, true, false, ◌&&◌, List, [], ◌∷◌, ◌++◌, length, take, drop, refl, sym, ◌∙◌, ap, subst, arith, append_assoc, length-append, decimal}
use Rattle.std.proofs.Math.Seq.{take-append_seam, drop-append_seam}
use Rattle.std.proofs.lemmas.Bool.{and_parts}
use Rattle.std.proofs.lemmas.List.{take-append-drop, drop-append-le, drop-drop, length-take, length-drop}
use Rattle.std.specs.Str.{bytes_eq}
use Rattle.dired_text.specs.Modes.{mode_letters}
use Rattle.dired_text.specs.Paths.{Names}
use Rattle.listing_text.specs.declared.line.Line.{Line}
use Rattle.listing_text.specs.Dates.{minute_text}
use Rattle.listing_text.specs.Grammar.{IsLineText}
use Rattle.listing_text.specs.Listed.{spaces, kind_letter}
use Rattle.wdired_buffer.specs.Edits.{same_fixed}
use Rattle.buffer_laws.specs.Buffers.{Row, IsRow}
use Rattle.buffer_laws.proofs.HeaderLemmas.{same_bytes, own_bytes}
use Rattle.buffer_laws.proofs.RowLemmas.{columns_of, dated, text-parts}

-- a text in four parts
pub record InParts (text : List ℕ) (name_at : ℕ) (front letters middle names : List ℕ) : Type 0 where
  pub is : text ≡ front ++ (letters ++ (middle ++ names))
  pub front_length : length front ≡ 3
  pub letters_length : length letters ≡ 9
  pub place : length front + length letters + length middle ≡ name_at

take-seam : (n : ℕ) (xs ys : List ℕ) → length xs ≡ n → take n (xs ++ ys) ≡ xs
take-seam n xs ys is = ap (λ k. take k (xs ++ ys)) (sym is) ∙ take-append_seam xs ys

drop-seam : (n : ℕ) (xs ys : List ℕ) → length xs ≡ n → drop n (xs ++ ys) ≡ ys
drop-seam n xs ys is = ap (λ k. drop k (xs ++ ys)) (sym is) ∙ drop-append_seam xs ys

pub front-of : (text : List ℕ) (name_at : ℕ) (front letters middle names : List ℕ) → InParts text name_at front letters middle names → take 3 text ≡ front
front-of text name_at front letters middle names h = ap (take 3) h.is ∙ take-seam 3 front (letters ++ (middle ++ names)) h.front_length

pub letters-of : (text : List ℕ) (name_at : ℕ) (front letters middle names : List ℕ) → InParts text name_at front letters middle names → take 9 (drop 3 text) ≡ letters
letters-of text name_at front letters middle names h =
    ap (λ t. take 9 (drop 3 t)) h.is ∙ ap (take 9) (drop-seam 3 front (letters ++ (middle ++ names)) h.front_length) ∙ take-seam 9 letters (middle ++ names) h.letters_length

-- the same text in two parts, with the name behind
two-parts : (text : List ℕ) (name_at : ℕ) (front letters middle names : List ℕ) → InParts text name_at front letters middle names
    → (text ≡ (front ++ (letters ++ middle)) ++ names) × (length (front ++ (letters ++ middle)) ≡ name_at)
two-parts text name_at front letters middle names h =
    let inner : letters ++ (middle ++ names) ≡ (letters ++ middle) ++ names = sym (append_assoc letters middle names) in
    let outer : front ++ ((letters ++ middle) ++ names) ≡ (front ++ (letters ++ middle)) ++ names = sym (append_assoc front (letters ++ middle) names) in
    let long : length (front ++ (letters ++ middle)) ≡ length front + length (letters ++ middle) = length-append front (letters ++ middle) in
    let more : length (letters ++ middle) ≡ length letters + length middle = length-append letters middle in
    (h.is ∙ ap (λ (t : List ℕ). front ++ t) inner ∙ outer, (let place = h.place in omega arith))

pub names-of : (text : List ℕ) (name_at : ℕ) (front letters middle names : List ℕ) → InParts text name_at front letters middle names → drop name_at text ≡ names
names-of text name_at front letters middle names h =
    let two = two-parts text name_at front letters middle names h in
    ap (drop name_at) two.0 ∙ drop-seam name_at (front ++ (letters ++ middle)) names two.1

pub middle-of : (text : List ℕ) (name_at : ℕ) (front letters middle names : List ℕ) → InParts text name_at front letters middle names → drop 12 (take name_at text) ≡ middle
middle-of text name_at front letters middle names h =
    let two = two-parts text name_at front letters middle names h in
    let taken : take name_at text ≡ front ++ (letters ++ middle) = ap (take name_at) two.0 ∙ take-seam name_at (front ++ (letters ++ middle)) names two.1 in
    let joined : front ++ (letters ++ middle) ≡ (front ++ letters) ++ middle = sym (append_assoc front letters middle) in
    let long : length (front ++ letters) ≡ 12 = (let sum = length-append front letters in let f = h.front_length in let l = h.letters_length in omega arith) in
    ap (drop 12) (taken ∙ joined) ∙ drop-seam 12 (front ++ letters) middle long

-- texts with the same front and the same middle
pub fixed-same : (text after : List ℕ) (name_at : ℕ) (front letters new middle names others : List ℕ) → InParts text name_at front letters middle names → InParts after name_at front new middle others → same_fixed name_at text after ≡ true
fixed-same text after name_at front letters new middle names others h g =
    let start : take 3 after ≡ take 3 text = front-of after name_at front new middle others g ∙ sym (front-of text name_at front letters middle names h) in
    let later : drop 12 (take name_at after) ≡ drop 12 (take name_at text) = middle-of after name_at front new middle others g ∙ sym (middle-of text name_at front letters middle names h) in
    ap (λ t. bytes_eq t (take 3 text) && bytes_eq (drop 12 (take name_at after)) (drop 12 (take name_at text))) start
    ∙ ap (λ t. bytes_eq (take 3 text) (take 3 text) && bytes_eq t (drop 12 (take name_at text))) later
    ∙ rw (own_bytes (take 3 text), own_bytes (drop 12 (take name_at text))) refl

pub fixed-own : (text : List ℕ) (name_at : ℕ) → same_fixed name_at text text ≡ true
fixed-own text name_at = rw (own_bytes (take 3 text), own_bytes (drop 12 (take name_at text))) refl

-- and the other way round: a text with this front and this middle, which isn't empty
pub parts-from : (text after : List ℕ) (name_at : ℕ) (front letters middle names : List ℕ) → InParts text name_at front letters middle names → 1 ≤ length middle → same_fixed name_at text after ≡ true
    → InParts after name_at front (take 9 (drop 3 after)) middle (drop name_at after)
parts-from text after name_at front letters middle names h some same =
    let tests = and_parts (bytes_eq (take 3 after) (take 3 text)) (bytes_eq (drop 12 (take name_at after)) (drop 12 (take name_at text))) same in
    let start : take 3 after ≡ front = same_bytes (take 3 after) (take 3 text) tests.0 ∙ front-of text name_at front letters middle names h in
    let later : drop 12 (take name_at after) ≡ middle =
    same_bytes (drop 12 (take name_at after)) (drop 12 (take name_at text)) tests.1 ∙ middle-of text name_at front letters middle names h in
    let dropped : length (drop 12 (take name_at after)) ≡ length (take name_at after) - 12 = length-drop 12 (take name_at after) in
    let same_length : length (drop 12 (take name_at after)) ≡ length middle = ap length later in
    let long : 12 ≤ length (take name_at after) = omega arith in
    let front_long : length (take 3 after) ≡ 3 = ap length start ∙ h.front_length in
    let taken : length (take name_at after) ≤ length after = (let l = length-take name_at after in omega arith) in
    let letters_long : length (take 9 (drop 3 after)) ≡ 9 = (let l = length-take 9 (drop 3 after) in let d = length-drop 3 after in omega arith) in
    let whole : after ≡ take name_at after ++ drop name_at after = sym (take-append-drop name_at after) in
    let behind : drop 12 after ≡ middle ++ drop name_at after =
    ap (drop 12) whole ∙ drop-append-le 12 (take name_at after) (drop name_at after) long ∙ ap (λ (t : List ℕ). t ++ drop name_at after) later in
    let letters_split : drop 3 after ≡ take 9 (drop 3 after) ++ (middle ++ drop name_at after) =
    sym (take-append-drop 9 (drop 3 after)) ∙ ap (λ (t : List ℕ). take 9 (drop 3 after) ++ t) (drop-drop 9 3 after ∙ behind) in
    record {
      is = sym (take-append-drop 3 after) ∙ ap (λ (t : List ℕ). t ++ drop 3 after) start ∙ ap (λ (t : List ℕ). front ++ t) letters_split;
      front_length = h.front_length;
      letters_length = letters_long;
      place = let p = h.place in let l = h.letters_length in omega arith;
    }

-- ---- the parts of a row's text

columns-behind : (line : Line) (a b c d : ℕ) (names : List ℕ) → columns_of line a b c d (dated line []) ++ names ≡ columns_of line a b c d (dated line names)
columns-behind line a b c d names = simp append_assoc refl

pub record RowParts (row : Row) : Type 0 where
  pub front : List ℕ
  pub middle : List ℕ
  pub names : List ℕ
  pub parts : InParts row.text row.name_at front (mode_letters row.line.mode) middle names
  pub some : 1 ≤ length middle

pub row-parts : (dir : Names) (row : Row) → IsRow dir row → RowParts row
row-parts dir row h =
    let line = row.line in
    let s = h.shown in
    let front : List ℕ = row.mark ∷ 32 ∷ kind_letter line.kind ∷ [] in
    let letters : List ℕ = mode_letters line.mode in
    let middle : List ℕ = columns_of line s.before_links s.before_owner s.before_group s.before_size (dated line []) in
    let is : row.text ≡ front ++ (letters ++ (middle ++ s.names)) =
    text-parts row.mark line row.text s
    ∙ ap (λ (t : List ℕ). front ++ (letters ++ t)) (sym (columns-behind line s.before_links s.before_owner s.before_group s.before_size s.names)) in
    let whole : length row.text ≡ length (front ++ (letters ++ (middle ++ s.names))) = ap length is in
    let outer : length (front ++ (letters ++ (middle ++ s.names))) ≡ length front + length (letters ++ (middle ++ s.names)) = length-append front (letters ++ (middle ++ s.names)) in
    let inner : length (letters ++ (middle ++ s.names)) ≡ length letters + length (middle ++ s.names) = length-append letters (middle ++ s.names) in
    let three : length front ≡ 3 = refl in
    let nine : length letters ≡ 9 = refl in
    let sum : length (middle ++ s.names) ≡ length middle + length s.names = length-append middle s.names in
    let at = h.place in
    record {
      front = front;
      middle = middle;
      names = s.names;
      parts = record { is = is; front_length = refl; letters_length = refl; place = omega arith };
      some = omega arith;
    }
