-- What is read of a line is lawful: no path is the root, and no target has a NUL.
use Rattle.std.proofs.Common.{◌≡◌, ◌≢◌, ℕ, zero, suc, ◌+◌, ◌-◌, ◌*◌, ◌≤◌, Bool, true, false, ◌&&◌, ◌==◌, List, [], ◌∷◌, length, refl, sym, ◌∙◌, ap, subst, arith, Option, Some, None, Result, Ok, Err, if◌then◌else◌, nat_le, option_map}
use Rattle.std.specs.List.{AllByRecursion}
use Rattle.std.specs.Option.{option_and_then}
use Rattle.std.specs.Str.{is_utf8}
use Rattle.std.proofs.lemmas.Bool.{and_parts, leb-true}
use Rattle.std.proofs.lemmas.List.Elements.{All-from_recursion}
use Rattle.std.proofs.lemmas.Option.{same_Some}
use Rattle.dired_text.specs.Paths.{Names, slash, path_bytes, max_path_bytes}
use Rattle.dired_text.specs.Resolve.{resolved, ended, walked, components}
use Rattle.dired_text.specs.declared.resolving.NameError.{NameError}
use Rattle.dired_text.specs.declared.resolving.NameError.TheVariants.{Absolute, TooLong}
use Rattle.dired_text.specs.Escape.{backslash, is_control, is_octal_digit, octal_byte, behind_backslash, behind, in_front, then_read, unescaped_from, unescaped}
use Rattle.dired_text.specs.declared.escaping.EscapeError.{EscapeError}
use Rattle.tree_core.specs.FileTree.{IsTarget}
use Rattle.listing_text.specs.Fields.{name_of, target_of, plain_of, if_read}
use Rattle.wdired_buffer.specs.Headers.{named, if_resolved}

-- ---- a value behind a test

pub if_some : {A : Type 0} (test : Bool) (a b : A) → (if test then Some a else None) ≡ Some b → (test ≡ true) × (a ≡ b)
if_some true a b is = (refl, cc)
if_some false a b is = cc

-- ---- a text without NUL

abbrev Whole : List ℕ → Type 0
Whole text = AllByRecursion (λ b. b ≢ 0) text

octal_some : (c d e b : ℕ) → octal_byte c d e ≡ Some b → b ≢ 0
octal_some c d e b is =
    let n : ℕ = (c - 48) * 64 + (d - 48) * 8 + (e - 48) in
    let parts = if_some (is_octal_digit c && is_octal_digit d && is_octal_digit e && nat_le 1 n && nat_le n 127) n b is in
    let least : 1 ≤ n = leb-true 1 n (and_parts (is_octal_digit c && is_octal_digit d && is_octal_digit e) (nat_le 1 n) (and_parts (is_octal_digit c && is_octal_digit d && is_octal_digit e && nat_le 1 n) (nat_le n 127) parts.0).0).1 in
    let same : n ≡ b = parts.1 in
    λ none. omega arith

abbrev spelling : ℕ → ℕ → ℕ × ℕ
spelling b more = (b, more)

first_same : (a m b n : ℕ) → Some (spelling a m) ≡ Some (spelling b n) → a ≡ b
first_same a m b n is = ap (λ (p : ℕ × ℕ). p.0) (same_Some (spelling a m) (spelling b n) is)

abbrev octal_end : ℕ → ℕ × ℕ
octal_end n = (n, 3)

octal_behind_some : (b more : ℕ) (o : Option ℕ) → ((n : ℕ) → o ≡ Some n → n ≢ 0) → option_map octal_end o ≡ Some (b, more) → b ≢ 0
octal_behind_some b more (Some n) some is = let same : n ≡ b = first_same n 3 b more is in subst (λ m. m ≢ 0) same (some n refl)
octal_behind_some b more None some is = cc

by_letter : (x y z : Bool) (b more : ℕ) (o : Option (ℕ × ℕ)) → (o ≡ Some (b, more) → b ≢ 0) → (if x then Some (backslash, 1) else if y then Some (10, 1) else if z then Some (9, 1) else o) ≡ Some (b, more) → b ≢ 0
by_letter true y z b more o rest is = let same : 92 ≡ b = first_same 92 1 b more is in λ none. omega arith
by_letter false true z b more o rest is = let same : 10 ≡ b = first_same 10 1 b more is in λ none. omega arith
by_letter false false true b more o rest is = let same : 9 ≡ b = first_same 9 1 b more is in λ none. omega arith
by_letter false false false b more o rest is = rest is

behind_backslash_some : (bs : List ℕ) (b more : ℕ) → behind_backslash bs ≡ Some (b, more) → b ≢ 0
behind_backslash_some [] b more is = cc
behind_backslash_some (c ∷ []) b more is = by_letter (c == backslash) (c == 110) (c == 116) b more None (λ e. cc) is
behind_backslash_some (c ∷ d ∷ []) b more is = by_letter (c == backslash) (c == 110) (c == 116) b more None (λ e. cc) is
behind_backslash_some (c ∷ d ∷ e ∷ bs) b more is =
    by_letter (c == backslash) (c == 110) (c == 116) b more (option_map octal_end (octal_byte c d e)) (octal_behind_some b more (octal_byte c d e) (octal_some c d e)) is

-- what a spelling stands for
behind_some : (c : ℕ) (bs : List ℕ) (b more : ℕ) → behind c bs ≡ Some (b, more) → b ≢ 0
behind_some c bs b more is = by_tests (c == backslash) (is_control c) refl is
  where
    by_tests : (x y : Bool) → is_control c ≡ y → (if x then behind_backslash bs else if y then None else Some (c, 0)) ≡ Some (b, more) → b ≢ 0
    by_tests true y control e = behind_backslash_some bs b more e
    by_tests false true control e = cc
    by_tests false false control e = λ none. let here : c ≡ 0 = first_same c 0 b more e ∙ none in let both : true ≡ false = ap is_control (sym here) ∙ control in cc

by_front : (b : ℕ) (text : List ℕ) (r : Result (List ℕ) EscapeError) → b ≢ 0 → ((t : List ℕ) → r ≡ Ok t → Whole t) → in_front (b ∷ []) r ≡ Ok text → Whole text
by_front b text (Ok t) some rest is = let same : b ∷ t ≡ text = cc in subst Whole same (some, rest t refl)
by_front b text (Err e) some rest is = cc

by_read : (place : ℕ) (text : List ℕ) (o : Option (ℕ × ℕ)) (later : ℕ → Result (List ℕ) EscapeError) → ((b more : ℕ) → o ≡ Some (b, more) → b ≢ 0) → ((more : ℕ) (t : List ℕ) → later more ≡ Ok t → Whole t) → then_read place o later ≡ Ok text → Whole text
by_read place text None later some rest is = cc
by_read place text (Some (b, more)) later some rest is = by_front b text (later more) (some b more refl) (rest more) is

whole_from : (place more : ℕ) (bs text : List ℕ) → unescaped_from place more bs ≡ Ok text → Whole text
whole_from place more [] text is = let same : [] ≡ text = cc in subst Whole same tt
whole_from place (suc more) (b ∷ bs) text is = whole_from (place + 1) more bs text is
whole_from place zero (b ∷ bs) text is =
    by_read place text (behind b bs) (λ more. unescaped_from (place + 1) more bs) (behind_some b bs) (λ more t e. whole_from (place + 1) more bs t e) is

by_plain : (r : Result (List ℕ) EscapeError) (text : List ℕ) → ((t : List ℕ) → r ≡ Ok t → Whole t) → if_read r ≡ Some text → Whole text
by_plain (Ok t) text rest is = let same : t ≡ text = cc in subst Whole same (rest t refl)
by_plain (Err e) text rest is = cc

plain_whole : (shown text : List ℕ) → plain_of shown ≡ Some text → Whole text
unfolding plain_of
plain_whole shown text is = by_test (is_utf8 shown) is
  where
    by_test : (x : Bool) → (if x then if_read (unescaped shown) else None) ≡ Some text → Whole text
    by_test true e = by_plain (unescaped shown) text (whole_from 0 0 shown) e
    by_test false e = cc

-- ---- the target of a link

-- what is taken as a target is one
pub target_lawful : (shown target : List ℕ) → target_of shown ≡ Some target → IsTarget target
unfolding target_of
target_lawful shown target is = by_plain_of (plain_of shown) refl is
  where
    by_plain_of : (o : Option (List ℕ)) → plain_of shown ≡ o → option_and_then (λ text. if nat_le 1 (length text) && nat_le (length text) 4095 then Some text else None) o ≡ Some target → IsTarget target
    by_plain_of None from e = cc
    by_plain_of (Some text) from e =
        let parts = if_some (nat_le 1 (length text) && nat_le (length text) 4095) text target e in
        let tests = and_parts (nat_le 1 (length text)) (nat_le (length text) 4095) parts.0 in
        let least : 1 ≤ length text = leb-true 1 (length text) tests.0 in
        let most : length text ≤ 4095 = leb-true (length text) 4095 tests.1 in
        subst IsTarget parts.1 ((omega arith), most, All-from_recursion (λ b. b ≢ 0) text (plain_whole shown text from))

-- ---- the path of a name

ended_some : (bytes : ℕ) (r : Result Names NameError) (path : Names) → ended bytes r ≡ Ok path → path ≢ []
ended_some bytes (Err e) path is = cc
ended_some bytes (Ok []) path is = cc
ended_some bytes (Ok (n ∷ p)) path is = by_test (nat_le (path_bytes (n ∷ p)) max_path_bytes) is
  where
    by_test : (x : Bool) → (if x then Ok (n ∷ p) else Err (TooLong bytes)) ≡ Ok path → path ≢ []
    by_test true e = λ none. let same : n ∷ p ≡ path = cc in cc
    by_test false e = cc

resolved_some : (dir : Names) (name : List ℕ) (path : Names) → resolved dir name ≡ Ok path → path ≢ []
resolved_some dir [] path is = cc
resolved_some dir (b ∷ bs) path is = by_test (b == slash) is
  where
    by_test : (x : Bool) → (if x then Err Absolute else ended (length (b ∷ bs)) (walked dir 0 (components (b ∷ bs)))) ≡ Ok path → path ≢ []
    by_test true e = cc
    by_test false e = ended_some (length (b ∷ bs)) (walked dir 0 (components (b ∷ bs))) path e

by_resolved : (r : Result Names NameError) (path : Names) → if_resolved r ≡ Some path → r ≡ Ok path
by_resolved (Ok p) path is = cc
by_resolved (Err e) path is = cc

-- a name never names the root
pub named_some : (dir : Names) (shown : List ℕ) (path : Names) → named dir shown ≡ Some path → path ≢ []
unfolding named
named_some dir shown path is = by_name (name_of shown) is
  where
    by_name : (o : Option (List ℕ)) → option_and_then (λ name. if_resolved (resolved dir name)) o ≡ Some path → path ≢ []
    by_name None e = cc
    by_name (Some name) e = resolved_some dir name path (by_resolved (resolved dir name) path e)
