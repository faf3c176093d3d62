-- Names and paths as texts.
use Rattle.std.proofs.Common.{◌≡◌, ◌≢◌, ℕ, ◌<◌, ◌≤◌, Bool, true, false, cond, eqb, ◌&&◌, not, nat_le, List, [], ◌∷◌, ◌++◌, length, get_or, refl, sym, ap, ◌∙◌, arith, inl, inr, All, IsTrue, Option, None, Some, append_assoc}
use Rattle.std.specs.Option.{IfSome, IsSome}
use Rattle.std.specs.List.{list_all, AllByRecursion}
use Rattle.std.specs.Str.{IsUtf8, is_utf8}
use Rattle.std.proofs.lemmas.Bool.{cases_Bool, eqb-true}
use Rattle.std.proofs.lemmas.Bool.Decides.{nat_tests}
use Rattle.std.proofs.lemmas.List.{append-nil}
use Rattle.std.proofs.lemmas.List.Folds.{list_all-append}
use Rattle.std.proofs.lemmas.List.Sums.{AllPass-from_list_all}
use Rattle.std.proofs.lemmas.Str.{IsUtf8-from_is_utf8, is_utf8-from_IsUtf8}
use Rattle.dired_text.specs.Paths.{Names, slash, slashed, joined, is_name, is_name_byte, is_dots, path_bytes, max_path_bytes}
use Rattle.dired_text.specs.Resolve.{components, with_first}
use Rattle.dired_text.proofs.PathLemmas.{slashed-push}
use Rattle.dired_text.proofs.ResolveLemmas.{components-none, components-at}
use Rattle.commit_steps.specs.Steps.{IsName, IsPath}
use Rattle.commit_journal.specs.declared.fault.Refusal.{Refusal}
use Rattle.commit_journal.specs.declared.fault.Refusal.TheVariants as refusals
use Rattle.commit_journal.specs.Reading.{Fails, is_name_text, name_of, is_path_text, path_of}

pub and_both : (a b : Bool) → (a && b) ≡ true → (a ≡ true) × (b ≡ true)
and_both true b e = (refl, e)
and_both false b e = cc

pub and_make : (a b : Bool) → a ≡ true → b ≡ true → (a && b) ≡ true
and_make a b p q = cc

and_no : (a b : Bool) → a ≡ false → (a && b) ≡ false
and_no a b p = cc

pub le_is : (m n : ℕ) → nat_le m n ≡ true → m ≤ n
le_is m n e = grind (arith, nat_tests)

pub le_holds : (m n : ℕ) → m ≤ n → nat_le m n ≡ true
le_holds m n h = grind (arith, nat_tests)

-- ---- names

pub name_refused : (n : List ℕ) → ¬ (IsUtf8 n) → name_of n ≡ None
name_refused n h = elim (cases_Bool (is_utf8 n)) [
  | inl passes ↦ absurd (h (IsUtf8-from_is_utf8 n passes))
  | inr fails ↦ rw fails refl
]

pub name_taken : (n : List ℕ) → IsUtf8 n → is_name n ≡ true → name_of n ≡ Some n
name_taken n utf8 name = rw (is_utf8-from_IsUtf8 n utf8, name) refl

pub name_is : (n : List ℕ) → is_name_text n ≡ true → IsName n
name_is n e = let p = and_both (is_utf8 n) (is_name n) e in record { name = p.1; utf8 = IsUtf8-from_is_utf8 n p.0 }

pub name_holds : (n : List ℕ) → IsName n → is_name_text n ≡ true
name_holds n h = and_make (is_utf8 n) (is_name n) (is_utf8-from_IsUtf8 n h.utf8) h.name

names_are : (ns : Names) → list_all is_name_text ns ≡ true → AllByRecursion IsName ns
names_are [] e = tt
names_are (n ∷ ns) e = let p = and_both (is_name_text n) (list_all is_name_text ns) e in (name_is n p.0, names_are ns p.1)

names_hold : (ns : Names) → AllByRecursion IsName ns → list_all is_name_text ns ≡ true
names_hold [] h = refl
names_hold (n ∷ ns) h = and_make (is_name_text n) (list_all is_name_text ns) (name_holds n h.0) (names_hold ns h.1)

-- the test of a name, by what reading it gives
name_passes : (n m : List ℕ) → name_of n ≡ Some m → (is_name_text n ≡ true) × (n ≡ m)
name_passes n m e = by_test (is_name_text n) refl e
  where
    by_test : (b : Bool) → is_name_text n ≡ b → cond b (Some n) None ≡ Some m → (is_name_text n ≡ true) × (n ≡ m)
    by_test true is e = (is, cc)
    by_test false is e = cc

name_fails : (n : List ℕ) → name_of n ≡ None → is_name_text n ≡ false
name_fails n e = by_test (is_name_text n) refl e
  where
    by_test : (b : Bool) → is_name_text n ≡ b → cond b (Some n) None ≡ None → is_name_text n ≡ false
    by_test true is e = cc
    by_test false is e = is

-- a name has no slash
byte_passes : (b : ℕ) → is_name_byte b ≡ true → b ≢ slash
byte_passes b e same = grind (arith, nat_tests)

pub no_slash : (n : List ℕ) → IsTrue (is_name n) → All (λ b. b ≢ slash) n
no_slash n name k d within =
    let p = and_both (nat_le 1 (length n) && nat_le (length n) 255 && list_all is_name_byte n) (not (is_dots n)) name in
    let bytes = (and_both (nat_le 1 (length n) && nat_le (length n) 255) (list_all is_name_byte n) p.0).1 in
    byte_passes (get_or n k d) (AllPass-from_list_all is_name_byte n bytes k d within)

-- ---- names joined by `/`, and parts between slashes

pub components_some : (bs : List ℕ) → (c : List ℕ) × (cs : Names) × (components bs ≡ c ∷ cs)
components_some [] = ([], [], refl)
components_some (b ∷ bs) = elim (cases_Bool (eqb b slash)) [
  | inl passes ↦ ([], components bs, rw passes refl)
  | inr fails ↦ let behind = components_some bs in (b ∷ behind.0, behind.1, rw (fails, behind.2) refl)
]

joined-first : (b : ℕ) (cs : Names) → joined (with_first b cs) ≡ b ∷ joined cs
joined-first b [] = refl
joined-first b (c ∷ cs) = refl

pub joined-components : (bs : List ℕ) → joined (components bs) ≡ bs
joined-components [] = refl
joined-components (b ∷ bs) = elim (cases_Bool (eqb b slash)) [
  | inl passes ↦
      let behind = components_some bs in
      let parts : slashed (components bs) ≡ slash ∷ joined (components bs) = rw behind.2 refl in
      rw (passes, parts, joined-components bs) (ap (λ (x : ℕ). x ∷ bs) (sym (eqb-true b slash passes)))
  | inr fails ↦ rw (fails, joined-first b (components bs), joined-components bs) refl
]

pub components-joined : (n : List ℕ) (p : Names) → AllByRecursion IsName (n ∷ p) → components (joined (n ∷ p)) ≡ n ∷ p
components-joined n [] h = ap components (append-nil n) ∙ components-none n (no_slash n h.0.name)
components-joined n (m ∷ p) h =
    components-at n (joined (m ∷ p)) (no_slash n h.0.name) ∙ ap (λ (l : Names). n ∷ l) (components-joined m p h.1)

-- ---- paths

pub path_holds : (p : Names) → p ≢ [] → IsPath p → path_of (joined p) ≡ Some p
unfolding is_path_text
path_holds [] some h = absurd (some refl)
path_holds (n ∷ p) some h =
    let parts = components-joined n p h.names in
    rw (parts, names_hold (n ∷ p) h.names, le_holds (path_bytes (n ∷ p)) max_path_bytes h.short) refl

pub record PathOf (text : List ℕ) (p : Names) : Type 0 where
  pub path : IsPath p
  pub some : p ≢ []
  pub is : joined p ≡ text

pub path_is : (text : List ℕ) (p : Names) → path_of text ≡ Some p → PathOf text p
unfolding is_path_text
path_is text p e = by_test (is_path_text text) refl e
  where
    by_test : (b : Bool) → is_path_text text ≡ b → cond b (Some (components text)) None ≡ Some p → PathOf text p
    by_test true is e =
        let parts : components text ≡ p = cc in
        let back : joined p ≡ text = ap joined (sym parts) ∙ joined-components text in
        let tests = and_both (nat_le (length text) max_path_bytes) (list_all is_name_text (components text)) is in
        let names : AllByRecursion IsName p = names_are p (ap (list_all is_name_text) (sym parts) ∙ tests.1) in
        let first = components_some text in
        record {
          path = record { names = names; short = rw back (le_is (length text) max_path_bytes tests.0) };
          some = λ none. (let clash : first.0 ∷ first.1 ≡ [] = sym first.2 ∙ parts ∙ none in cc);
          is = back;
        }
    by_test false is e = cc

-- ---- a walk over the parts

long_refused : (text : List ℕ) → nat_le (length text) max_path_bytes ≡ false → path_of text ≡ None
unfolding is_path_text
long_refused text e = rw e refl

pub too_long : (text : List ℕ) → max_path_bytes < length text → path_of text ≡ None
too_long text h = long_refused text (grind (arith, nat_tests))

pub part_refused : (text : List ℕ) (front : Names) (c : List ℕ) (more : Names) (e : Refusal) → components text ≡ front ++ c ∷ more
    → Fails e (name_of c) → Fails e (path_of text)
unfolding is_path_text
part_refused text front c more refusals.Memory parts h = tt
part_refused text front c more refusals.Unreadable parts h =
    let fails : list_all is_name_text (c ∷ more) ≡ false = and_no (is_name_text c) (list_all is_name_text more) (name_fails c h) in
    let all : list_all is_name_text (components text) ≡ false =
    ap (list_all is_name_text) parts ∙ list_all-append is_name_text front (c ∷ more) ∙ ap (λ b. list_all is_name_text front && b) fails ∙ and_false (list_all is_name_text front) in
    by_all (list_all is_name_text (components text)) refl all
  where
    and_false : (a : Bool) → (a && false) ≡ false
    and_false true = refl
    and_false false = refl

    by_all : (b : Bool) → list_all is_name_text (components text) ≡ b → b ≡ false → cond (nat_le (length text) max_path_bytes && list_all is_name_text (components text)) (Some (components text)) None ≡ None
    by_all b is fails = rw (is, fails, and_false (nat_le (length text) max_path_bytes)) refl

all_more : (ns : Names) (n : List ℕ) → list_all is_name_text ns ≡ true → is_name_text n ≡ true → list_all is_name_text (ns ++ n ∷ []) ≡ true
all_more ns n all one =
    list_all-append is_name_text ns (n ∷ [])
    ∙ and_make (list_all is_name_text ns) (list_all is_name_text (n ∷ [])) all (and_make (is_name_text n) true one refl)

-- what a loop over the parts keeps
pub record Walked (text : List ℕ) (names : Names) (rest : List ℕ) : Type 0 where
  pub parts : components text ≡ names ++ components rest
  pub lawful : list_all is_name_text names ≡ true

pub walk_part : (text : List ℕ) (names : Names) (rest c later : List ℕ) → Walked text names rest → rest ≡ c ++ slash ∷ later → All (λ b. b ≢ slash) c
    → components text ≡ names ++ c ∷ components later
walk_part text names rest c later w e h = w.parts ∙ ap (λ (l : Names). names ++ l) (ap components e ∙ components-at c later h)

pub walk_on : (text : List ℕ) (names : Names) (rest c later n : List ℕ) → Walked text names rest → rest ≡ c ++ slash ∷ later → All (λ b. b ≢ slash) c
    → name_of c ≡ Some n → Walked text (names ++ n ∷ []) later
walk_on text names rest c later n w e h name =
    let passes = name_passes c n name in
    record {
      parts = walk_part text names rest c later w e h ∙ ap (λ (m : List ℕ). names ++ m ∷ components later) passes.1 ∙ sym (append_assoc names (n ∷ []) (components later));
      lawful = all_more names n w.lawful (ap is_name_text (sym passes.1) ∙ passes.0);
    }

pub walk_last : (text : List ℕ) (names : Names) (rest : List ℕ) → Walked text names rest → All (λ b. b ≢ slash) rest → components text ≡ names ++ rest ∷ []
walk_last text names rest w h = w.parts ∙ ap (λ (l : Names). names ++ l) (components-none rest h)

-- behind the last part
pub walk_ends : (text : List ℕ) (names : Names) (rest n : List ℕ) → Walked text names rest → All (λ b. b ≢ slash) rest → name_of rest ≡ Some n → length text ≤ max_path_bytes
    → (path_of text ≡ Some (names ++ n ∷ [])) × (path_bytes (names ++ n ∷ []) ≤ max_path_bytes)
unfolding is_path_text
walk_ends text names rest n w h name short =
    let passes = name_passes rest n name in
    let parts : components text ≡ names ++ n ∷ [] = walk_last text names rest w h ∙ ap (λ (m : List ℕ). names ++ m ∷ []) passes.1 in
    let all : list_all is_name_text (names ++ n ∷ []) ≡ true = all_more names n w.lawful (ap is_name_text (sym passes.1) ∙ passes.0) in
    let back : joined (names ++ n ∷ []) ≡ text = ap joined (sym parts) ∙ joined-components text in
    (rw (parts, all, le_holds (length text) max_path_bytes short) refl, rw back short)

pub all_push : {X : Type 0} (P : X → Type 0) (xs : List X) (x : X) → AllByRecursion P xs → P x → AllByRecursion P (xs ++ x ∷ [])
all_push P [] x all one = (one, tt)
all_push P (y ∷ xs) x all one = (all.0, all_push P xs x all.1 one)

-- a name that is written behind a slash
pub name_written : (old now pushed out bytes n : List ℕ) (front : Names) → now ≡ old ++ slashed front → pushed ≡ now ++ slash ∷ [] → out ≡ pushed ++ bytes → bytes ≡ n
    → out ≡ old ++ slashed (front ++ n ∷ [])
name_written old now pushed out bytes n front e p o b =
    let parts : out ≡ ((old ++ slashed front) ++ slash ∷ []) ++ n = o ∙ ap (λ (l : List ℕ). l ++ bytes) (p ∙ ap (λ (l : List ℕ). l ++ slash ∷ []) e) ∙ ap (λ (l : List ℕ). ((old ++ slashed front) ++ slash ∷ []) ++ l) b in
    let grouped : ((old ++ slashed front) ++ slash ∷ []) ++ n ≡ old ++ (slashed front ++ (slash ∷ n)) = simp append_assoc in
    parts ∙ grouped ∙ ap (λ (l : List ℕ). old ++ l) (sym (slashed-push front n))

-- what is in a `Some`
pub some_named : {A : Type 0} (o : Option A) (x y : A) → o ≡ Some x → IfSome o (λ z. z ≡ y) → IsSome o × (x ≡ y)
some_named None x y e h = cc
some_named (Some z) x y e h = (refl, (let same : z ≡ x = cc in sym same ∙ h))

pub none_some : {A : Type 0} (o : Option A) → o ≡ None → IsSome o → ⊥
none_some None e h = let clash : false ≡ true = h in cc
none_some (Some x) e h = cc
