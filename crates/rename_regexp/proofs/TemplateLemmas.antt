-- Reading pieces, one after another.
use Rattle.std.proofs.Common.{◌≡◌, ◌≢◌, ℕ, suc, ◌+◌, ◌-◌, ◌==◌, false, List, [], ◌∷◌, ◌++◌, length, encode_utf8, refl, ap, ◌∙◌, arith, append_assoc, length-append, Result, Ok, Err}
use Rattle.std.specs.Char.{len_utf8}
use Rattle.std.specs.Str.{IsUtf8, chars}
use Rattle.std.proofs.lemmas.Bool.{ne_eqb}
use Rattle.std.proofs.lemmas.List.{append-nil}
use Rattle.std.proofs.lemmas.Str.{chars_past_char, chars-nil, encode_ascii, IsUtf8-past_char, length-encode, len_utf8_bounds}
use Rattle.rename_regexp.specs.declared.fault.ToFault.{ToFault}
use Rattle.rename_regexp.specs.declared.fault.ToFault.TheVariants.{BadBackslash}
use Rattle.rename_regexp.specs.declared.template.Piece.{Piece}
use Rattle.rename_regexp.specs.declared.template.Piece.TheVariants.{Char}
use Rattle.rename_regexp.specs.Templates.{with_piece, pieces_from, escape_of, Cuts}

-- these pieces in front of others
abbrev pub behind_pieces : List Piece → Result (List Piece) ToFault → Result (List Piece) ToFault
behind_pieces front (Ok pieces) = Ok (front ++ pieces)
behind_pieces front (Err fault) = Err fault

pub behind_none : (read : Result (List Piece) ToFault) → behind_pieces [] read ≡ read
behind_none (Ok pieces) = refl
behind_none (Err fault) = refl

pub behind_one : (front : List Piece) (piece : Piece) (read : Result (List Piece) ToFault) →
    behind_pieces front (with_piece (Ok piece) read) ≡ behind_pieces (front ++ piece ∷ []) read
behind_one front piece (Ok pieces) = ap Ok (simp append_assoc)
behind_one front piece (Err fault) = refl

past-char : (groups at c : ℕ) (cs : List ℕ) → c ≢ 92 →
    pieces_from groups at (c ∷ cs) ≡ with_piece (Ok (Char c)) (pieces_from groups (at + len_utf8 c) cs)
past-char groups at c [] n = let plain : (c == 92) ≡ false = ne_eqb c 92 n in rw plain refl
past-char groups at c (d ∷ cs) n = let plain : (c == 92) ≡ false = ne_eqb c 92 n in rw plain refl

past-escape : (groups at d : ℕ) (cs : List ℕ) (piece : Piece) → escape_of groups at d ≡ Ok piece →
    pieces_from groups at (92 ∷ d ∷ cs) ≡ with_piece (Ok piece) (pieces_from groups (at + 1 + len_utf8 d) cs)
past-escape groups at d cs piece e = ap (λ r. with_piece r (pieces_from groups (at + 1 + len_utf8 d) cs)) e

-- the first character is a piece
pub cut-char : (groups at c : ℕ) (text later : List ℕ) → IsUtf8 text → text ≡ encode_utf8 c ++ later → c ≢ 92 → Cuts groups at text (Char c) later
cut-char groups at c text later u is n =
    let size : length text ≡ len_utf8 c + length later = ap length is ∙ length-append (encode_utf8 c) later ∙ ap (λ k. k + length later) (length-encode c) in
    let taken : at + len_utf8 c ≡ at + (length text - length later) = omega arith in (
      ap (pieces_from groups at) (chars_past_char text later c u is)
          ∙ past-char groups at c (chars later) n
          ∙ ap (λ k. with_piece (Ok (Char c)) (pieces_from groups k (chars later))) taken,
      omega (arith, (len_utf8_bounds c).0),
    )

escape-chars : (d : ℕ) (text later behind : List ℕ) → IsUtf8 text → text ≡ encode_utf8 92 ++ later → later ≡ encode_utf8 d ++ behind →
    chars text ≡ 92 ∷ d ∷ chars behind
escape-chars d text later behind u is next =
    chars_past_char text later 92 u is ∙ ap (λ l. 92 ∷ l) (chars_past_char later behind d (IsUtf8-past_char text later 92 u is) next)

-- a backslash and the character behind it are a piece
pub cut-escape : (groups at d : ℕ) (text later behind : List ℕ) (piece : Piece) → IsUtf8 text → text ≡ encode_utf8 92 ++ later →
    later ≡ encode_utf8 d ++ behind → escape_of groups at d ≡ Ok piece → Cuts groups at text piece behind
cut-escape groups at d text later behind piece u is next e =
    let ascii : encode_utf8 92 ≡ 92 ∷ [] = encode_ascii 92 (omega arith) in
    let size : length text ≡ suc (length later) = ap length (is ∙ ap (λ l. l ++ later) ascii) in
    let size_next : length later ≡ len_utf8 d + length behind = ap length next ∙ length-append (encode_utf8 d) behind ∙ ap (λ k. k + length behind) (length-encode d) in
    let taken : at + 1 + len_utf8 d ≡ at + (length text - length behind) = omega arith in (
      ap (pieces_from groups at) (escape-chars d text later behind u is next)
          ∙ past-escape groups at d (chars behind) piece e
          ∙ ap (λ k. with_piece (Ok piece) (pieces_from groups k (chars behind))) taken,
      omega arith,
    )

-- a backslash and a character that write nothing
pub refused-escape : (groups at d : ℕ) (text later behind : List ℕ) (fault : ToFault) → IsUtf8 text → text ≡ encode_utf8 92 ++ later →
    later ≡ encode_utf8 d ++ behind → escape_of groups at d ≡ Err fault → pieces_from groups at (chars text) ≡ Err fault
refused-escape groups at d text later behind fault u is next e =
    ap (pieces_from groups at) (escape-chars d text later behind u is next)
    ∙ ap (λ r. with_piece r (pieces_from groups (at + 1 + len_utf8 d) (chars behind))) e

-- a backslash at the end
pub refused-end : (groups at : ℕ) (text later : List ℕ) → IsUtf8 text → text ≡ encode_utf8 92 ++ later → later ≡ [] →
    pieces_from groups at (chars text) ≡ Err (BadBackslash at)
refused-end groups at text later u is none =
    ap (pieces_from groups at) (chars_past_char text later 92 u is ∙ ap (λ l. 92 ∷ chars l) none ∙ ap (λ l. 92 ∷ l) chars-nil)

-- where nothing is left, the pieces are all there are
pub read-all : (groups at : ℕ) (rest : List ℕ) (pieces : List Piece) (wanted : Result (List Piece) ToFault) → rest ≡ [] →
    wanted ≡ behind_pieces pieces (pieces_from groups at (chars rest)) → wanted ≡ Ok pieces
read-all groups at rest pieces wanted none e =
    e ∙ ap (λ l. behind_pieces pieces (pieces_from groups at (chars l))) none
    ∙ ap (λ l. behind_pieces pieces (pieces_from groups at l)) chars-nil ∙ ap Ok (append-nil pieces)
