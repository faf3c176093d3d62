-- Lines of paths.
use Rattle.std.proofs.Common.{◌≡◌, ◌≢◌, ℕ, ◌+◌, ◌≤◌, Bool, true, false, ◌&&◌, not, List, [], ◌∷◌, ◌++◌, length, All, refl, sym, ◌∙◌, ap, arith, IsUtf8, nat_le, length-append}
use Rattle.std.proofs.lemmas.Bool.{and_parts, le-leb, leb-true}
use Rattle.std.proofs.lemmas.List.Elements.{recursion_from_All, All-from_recursion}
use Rattle.std.proofs.lemmas.Str.{IsUtf8-from_is_utf8, IsUtf8-from_ascii, IsUtf8-append, IsUtf8-nil}
use Rattle.std.proofs.lemmas.Str.Ascii.{IsAscii-cons, IsAscii-nil}
use Rattle.std.specs.List.{AllByRecursion, list_all}
use Rattle.std.specs.Str.{is_utf8}
use Rattle.dired_text.specs.Paths.{Names, AreNames, is_name, is_name_byte, is_dots, joined, slashed, slash, path_bytes, max_path_bytes}
use Rattle.tree_core.specs.declared.meta.Meta.{Meta}
use Rattle.tree_core.specs.declared.node.Kind.{Kind}
use Rattle.tree_core.specs.declared.node.Kind.TheVariants.{File, Dir, Link}
use Rattle.tree_core.specs.Fields.{IsMeta, IsOfKind, IsOwner}
use Rattle.listing_text.specs.Fields.{is_word, is_word_byte}
use Rattle.listing_text.specs.Grammar.{IsModeOf, IsTargetOf}
use Rattle.find_listing.specs.Finds.{IsLineOf, line_of}
use Rattle.find_listing.proofs.OrderLemmas.{all_append}

-- ---- names and paths

abbrev is_text : List ℕ → Bool
is_text n = is_name n && is_utf8 n

abbrev pub IsWhole : List ℕ → Type 0
IsWhole text = AllByRecursion (λ b. b ≢ 0) text

whole_bytes : (n : List ℕ) → list_all is_name_byte n ≡ true → IsWhole n
whole_bytes [] is = tt
whole_bytes (b ∷ n) is =
    let p = and_parts (is_name_byte b) _ is in
    ((λ zero. let bad : false ≡ true = sym (ap is_name_byte zero) ∙ p.0 in cc), whole_bytes n p.1)

name_parts : (n : List ℕ) → is_name n ≡ true → (1 ≤ length n) × IsWhole n
name_parts n is =
    let p = and_parts (nat_le 1 (length n) && nat_le (length n) 255 && list_all is_name_byte n) (not (is_dots n)) is in
    let q = and_parts (nat_le 1 (length n) && nat_le (length n) 255) (list_all is_name_byte n) p.0 in
    let r = and_parts (nat_le 1 (length n)) (nat_le (length n) 255) q.0 in
    (leb-true 1 (length n) r.0, whole_bytes n q.1)

slash_utf8 : IsUtf8 (slash ∷ [])
slash_utf8 = IsUtf8-from_ascii (slash ∷ []) (IsAscii-cons slash [] (omega arith) IsAscii-nil)

slashed_text : (p : Names) → AreNames p → IsUtf8 (slashed p) × IsWhole (slashed p)
slashed_text [] are = (IsUtf8-nil, tt)
slashed_text (n ∷ p) are =
    let parts = and_parts (is_text n) (list_all is_text p) are in
    let own = and_parts (is_name n) (is_utf8 n) parts.0 in
    let later = slashed_text p parts.1 in (
      IsUtf8-append (slash ∷ []) (n ++ slashed p) slash_utf8 (IsUtf8-append n (slashed p) (IsUtf8-from_is_utf8 n own.1) later.0),
      ((λ zero. cc), all_append (λ b. b ≢ 0) n (slashed p) (name_parts n own.0).1 later.1),
    )

joined_text : (p : Names) → p ≢ [] → AreNames p → IsUtf8 (joined p) × IsWhole (joined p) × (1 ≤ length (joined p))
joined_text [] some are = absurd (some refl)
joined_text (n ∷ p) some are =
    let parts = and_parts (is_text n) (list_all is_text p) are in
    let own = and_parts (is_name n) (is_utf8 n) parts.0 in
    let later = slashed_text p parts.1 in
    let first = name_parts n own.0 in
    let one : 1 ≤ length n = first.0 in (
      IsUtf8-append n (slashed p) (IsUtf8-from_is_utf8 n own.1) later.0,
      all_append (λ b. b ≢ 0) n (slashed p) first.1 later.1,
      omega (arith, length-append n (slashed p)),
    )

-- ---- the other fields

word_bytes : (w : List ℕ) → AllByRecursion (λ b. (33 ≤ b) × (b ≤ 126)) w → list_all is_word_byte w ≡ true
word_bytes [] all = refl
word_bytes (b ∷ w) all = rw (le-leb 33 b all.0.0, le-leb b 126 all.0.1) (word_bytes w all.1)

word_of : (w : List ℕ) → IsOwner w → is_word w ≡ true
word_of w owner = rw (le-leb 1 (length w) owner.0, le-leb (length w) 64 owner.1) (word_bytes w (recursion_from_All _ w owner.2))

mode_of_kind : (k : Kind) (mode : ℕ) (target : List ℕ) → IsOfKind k mode target → IsModeOf k mode
mode_of_kind File mode target is = is.0
mode_of_kind Dir mode target is = is.0
mode_of_kind Link mode target is = is.0

target_of_kind : (k : Kind) (mode : ℕ) (target : List ℕ) → IsUtf8 target → IsOfKind k mode target → IsTargetOf k target
target_of_kind File mode target utf8 is = is.1
target_of_kind Dir mode target utf8 is = is.1
target_of_kind Link mode target utf8 is = (utf8, is.1.2, is.1.0, is.1.1)

-- the line of a path with lawful fields
pub line_is : (p : Names) (meta : Meta) → p ≢ [] → AreNames p → path_bytes p ≤ max_path_bytes → IsMeta meta → IsLineOf p (line_of p meta)
line_is p meta some are short lawful =
    let text = joined_text p some are in
    record {
      some = some;
      names = are;
      short = short;
      named = refl;
      lawful = record {
        mode = mode_of_kind meta.kind meta.mode meta.target lawful.shape;
        links = lawful.links;
        owner = word_of meta.owner lawful.owner;
        group = word_of meta.group lawful.group;
        size = lawful.size;
        name_utf8 = text.0;
        name_whole = All-from_recursion (λ b. b ≢ 0) (joined p) text.1;
        name_some = text.2;
        target = target_of_kind meta.kind meta.mode meta.target (IsUtf8-from_is_utf8 meta.target lawful.text) lawful.shape;
      };
    }
