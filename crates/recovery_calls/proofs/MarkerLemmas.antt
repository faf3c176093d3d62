-- The names of journals and markers.
use Rattle.std.proofs.Common.{◌≡◌, ◌≢◌, ℕ, ◌==◌, ◌≤◌, ◌<◌, ◌^◌, nat_le, Bool, true, false, ◌&&◌, List, [], ◌∷◌, ◌++◌, length, refl, arith, lit<}
use Rattle.std.proofs.lemmas.Bool.Decides.{nat_tests}
use Rattle.std.proofs.lemmas.Fmt.{IsAscii-decimal, decimal_is_IsNumeral, length-decimal-le}
use Rattle.std.proofs.lemmas.Str.{IsUtf8-from_ascii, IsUtf8-append, is_utf8-from_IsUtf8}
use Rattle.std.specs.Char.{digit_value}
use Rattle.std.specs.List.{list_all}
use Rattle.std.specs.Prelude.{codes, decimal}
use Rattle.std.specs.Str.{IsUtf8, is_utf8}
use Rattle.std.specs.Str.Parse.{AllDigits}
use Rattle.commit_calls.specs.declared.paths.Numbered.TheVariants.{At, Back}
use Rattle.commit_calls.proofs.NameLemmas.{numbered_name}
use Rattle.commit_states.proofs.OwnNames.{ascii_by, sealed_names, staging_names, undone_names}
use Rattle.commit_steps.specs.Staging.{at_marker, back_marker, fresh_name, held, plan, sealed, staged, staging_name, temporary, undone}
use Rattle.dired_text.specs.Paths.{AreNames, is_dots, is_name, is_name_byte}
use Rattle.recovery_calls.specs.declared.ending.Ending.{Ending}
use Rattle.recovery_calls.specs.declared.ending.Ending.TheVariants.{Sealed, Undone}
use Rattle.recovery_calls.specs.Endings.{last_marker, last_name}
use Rattle.recovery_calls.specs.Works.{letter_of}
use Rattle.recovery_courses.specs.Ends.{spelled}
use Rattle.staging_names.specs.declared.entry_name.Role.{Role}
use Rattle.staging_names.specs.declared.entry_name.Role.TheVariants.{Fresh, Held, Temporary}
use Rattle.step_trees.proofs.NameLemmas.{IsOwn, differ, i-at, i-back, i-plan, i-sealed, i-undone, own-at, own-back, own-sealed, own-undone}

both : (a b c d : Bool) → (a && true) ≡ true → b ≡ true → c ≡ true → (a && ((b && c) && true)) ≡ true
both true true true d ea eb ec = refl
both true true false d ea eb ec = cc
both true false c d ea eb ec = cc
both false b c d ea eb ec = cc

names_by : (x : List ℕ) → is_name x ≡ true → IsUtf8 x → AreNames (staged x)
names_by x name utf8 = both (is_name staging_name && is_utf8 staging_name) (is_name x) (is_utf8 x) true staging_names name (is_utf8-from_IsUtf8 x utf8)

pub at_named : (m : ℕ) → m < 2 ^ 64 → AreNames (staged (at_marker m))
unfolding at_marker
at_named m small = names_by (at_marker m) (numbered_name At m small) (IsUtf8-append (codes "at-") (decimal m) (IsUtf8-from_ascii (codes "at-") (ascii_by (codes "at-") refl)) (IsUtf8-from_ascii (decimal m) (IsAscii-decimal m small)))

pub back_named : (m : ℕ) → m < 2 ^ 64 → AreNames (staged (back_marker m))
unfolding back_marker
back_named m small = names_by (back_marker m) (numbered_name Back m small) (IsUtf8-append (codes "back-") (decimal m) (IsUtf8-from_ascii (codes "back-") (ascii_by (codes "back-") refl)) (IsUtf8-from_ascii (decimal m) (IsAscii-decimal m small)))

pub last_named : (end : Ending) → AreNames (staged (last_name end))
last_named Sealed = sealed_names
last_named Undone = undone_names

pub own_last : (end : Ending) → IsOwn (last_name end)
own_last Sealed = own-sealed
own_last Undone = own-undone

pub own_last_marker : (end : Ending) (n : ℕ) → IsOwn (last_marker end n)
own_last_marker Sealed n = own-at n
own_last_marker Undone n = own-back 0

pub at_plan : (m : ℕ) → at_marker m ≢ plan
at_plan m = differ (at_marker m) plan 97 112 (i-at m) i-plan refl

pub back_plan : (m : ℕ) → back_marker m ≢ plan
back_plan m = differ (back_marker m) plan 98 112 (i-back m) i-plan refl

pub back_at : (j m : ℕ) → back_marker j ≢ at_marker m
back_at j m = differ (back_marker j) (at_marker m) 98 97 (i-back j) (i-at m) refl

pub last_plan : (end : Ending) → last_name end ≢ plan
last_plan Sealed = differ sealed plan 100 112 i-sealed i-plan refl
last_plan Undone = differ undone plan 117 112 i-undone i-plan refl

pub last_marker_plan : (end : Ending) (n : ℕ) → last_marker end n ≢ plan
last_marker_plan Sealed n = at_plan n
last_marker_plan Undone n = back_plan 0

pub last_other : (end : Ending) (n : ℕ) → last_name end ≢ last_marker end n
last_other Sealed n = differ sealed (at_marker n) 100 97 i-sealed (i-at n) refl
last_other Undone n = differ undone (back_marker 0) 117 98 i-undone (i-back 0) refl

-- ---- the names of entries

le_holds : (m n : ℕ) → m ≤ n → nat_le m n ≡ true
le_holds m n h = grind (arith, nat_tests)

name_byte : (c : ℕ) → digit_value c < 10 → is_name_byte c ≡ true
name_byte c h = grind (arith, nat_tests)

name_bytes : (ds : List ℕ) → AllDigits 10 ds → list_all is_name_byte ds ≡ true
name_bytes [] all = refl
name_bytes (d ∷ ds) all = rw (name_byte d all.0) (name_bytes ds all.1)

-- a letter, which is no dot, and a number behind it
lettered : (b n : ℕ) → is_name_byte b ≡ true → (b == 46) ≡ false → n < 2 ^ 64 → is_name (b ∷ decimal n) ≡ true
lettered b n e f small =
    let d = decimal_is_IsNumeral n small in
    let most : length (decimal n) ≤ 20 = length-decimal-le 20 n (lit< tt) (omega arith) small in
    let bytes : list_all is_name_byte (b ∷ decimal n) ≡ true = rw (e, name_bytes (decimal n) d.0.1) refl in
    let long : nat_le 1 (length (b ∷ decimal n)) ≡ true = le_holds 1 (length (b ∷ decimal n)) (omega arith) in
    let short : nat_le (length (b ∷ decimal n)) 255 ≡ true = le_holds (length (b ∷ decimal n)) 255 (omega arith) in
    let dots : is_dots (b ∷ decimal n) ≡ false = rw f refl in
    rw (long, short, bytes, dots) refl

pub entry_named : (r : Role) (n : ℕ) → n < 2 ^ 64 → is_name (letter_of r ++ decimal n) ≡ true
entry_named Fresh n small = lettered 102 n refl refl small
entry_named Held n small = lettered 104 n refl refl small
entry_named Temporary n small = lettered 116 n refl refl small

pub spelled_is : (r : Role) (n : ℕ) → spelled r n ≡ letter_of r ++ decimal n
unfolding fresh_name held temporary
spelled_is Fresh n = refl
spelled_is Held n = refl
spelled_is Temporary n = refl
