-- Texts that begin with bytes of a kind, and with spaces.
use Rattle.std.proofs.Common.{◌≡◌, inl, inr, ℕ, zero, suc, ◌-◌, ◌≤◌, Bool, true, false, not, List, [], ◌∷◌, ◌++◌, length, take, drop, refl, sym, ◌∙◌, ap, subst, arith, Option, Some, None, Result, Ok, Err}
use Rattle.std.proofs.Math.Seq.{take-append_seam, drop-append_seam}
use Rattle.std.proofs.lemmas.Bool.{cases_Bool, and_parts, eqb-true, leb-true}
use Rattle.std.specs.List.{list_all, prefix_len}
use Rattle.std.specs.Result.{result_unwrap_or}
use Rattle.listing_text.specs.declared.faults.Field.{Field}
use Rattle.listing_text.specs.declared.faults.LineFault.{LineFault}
use Rattle.listing_text.specs.Fields.{Taken, run_len, is_space}
use Rattle.listing_text.specs.Listed.{spaces}
use Rattle.listing_text.specs.Reading.{or_bad, gap, behind_gap, gapped, spaced, one, some, ◌>>=◌}

-- the text is empty or begins with a byte of another kind
abbrev pub Stops : (ℕ → Bool) → List ℕ → Type 0
Stops kind [] = Unit {0}
Stops kind (b ∷ bs) = kind b ≡ false

not_not : (b : Bool) → not (not b) ≡ b
not_not true = refl
not_not false = refl

pub prefix-append : (p kind : ℕ → Bool) → ((b : ℕ) → p b ≡ kind b) → (run rest : List ℕ) → list_all kind run ≡ true → Stops kind rest → prefix_len p (run ++ rest) ≡ length run
prefix-append p kind same [] [] all stops = refl
prefix-append p kind same [] (b ∷ bs) all stops = let other : p b ≡ false = same b ∙ stops in rw other refl
prefix-append p kind same (b ∷ run) rest all stops =
    let parts = and_parts (kind b) (list_all kind run) all in
    let is : p b ≡ true = same b ∙ parts.0 in
    let more : prefix_len p (run ++ rest) ≡ length run = prefix-append p kind same run rest parts.1 stops in
    rw is (omega (arith, more))

pub run_len-append : (kind : ℕ → Bool) (run rest : List ℕ) → list_all kind run ≡ true → Stops kind rest → run_len kind (run ++ rest) ≡ length run
run_len-append kind run rest all stops = prefix-append (λ b. not (not (kind b))) kind (λ b. not_not (kind b)) run rest all stops

pub taken-run : (kind : ℕ → Bool) (run rest : List ℕ) → list_all kind run ≡ true → Stops kind rest → take (run_len kind (run ++ rest)) (run ++ rest) ≡ run
taken-run kind run rest all stops = ap (λ n. take n (run ++ rest)) (run_len-append kind run rest all stops) ∙ take-append_seam run rest

pub behind-run : (kind : ℕ → Bool) (run rest : List ℕ) → list_all kind run ≡ true → Stops kind rest → drop (run_len kind (run ++ rest)) (run ++ rest) ≡ rest
behind-run kind run rest all stops = ap (λ n. drop n (run ++ rest)) (run_len-append kind run rest all stops) ∙ drop-append_seam run rest

spaces-all : (n : ℕ) → list_all is_space (spaces n) ≡ true
spaces-all zero = refl
spaces-all (suc n) = spaces-all n

spaces-length : (n : ℕ) → length (spaces n) ≡ n
spaces-length zero = refl
spaces-length (suc n) = ap suc (spaces-length n)

pub gap-is : (n : ℕ) (rest : List ℕ) → Stops is_space rest → gap (spaces n ++ rest) ≡ n
gap-is n rest stops = run_len-append is_space (spaces n) rest (spaces-all n) stops ∙ spaces-length n

pub behind_gap-is : (n : ℕ) (rest : List ℕ) → Stops is_space rest → behind_gap (spaces n ++ rest) ≡ rest
behind_gap-is n rest stops = behind-run is_space (spaces n) rest (spaces-all n) stops

gapped-by : (f : Field) (due : ℕ → Bool) (bytes : ℕ) (text rest : List ℕ) → behind_gap text ≡ rest → due (gap text) ≡ true → gapped f due bytes text ≡ Ok rest
unfolding gapped
gapped-by f due bytes text rest behind is = rw (is, behind) refl

-- a field behind its spaces is read
pub spaced-is : {A : Type 0} (f : Field) (due : ℕ → Bool) (take_in : List ℕ → Taken A) (bytes n : ℕ) (rest : List ℕ) (v : A × List ℕ)
    → Stops is_space rest → due n ≡ true → take_in rest ≡ Some v → spaced f due take_in bytes (spaces n ++ rest) ≡ Ok v
unfolding spaced
spaced-is f due take_in bytes n rest v stops is e =
    rw (gapped-by f due bytes (spaces n ++ rest) rest (behind_gap-is n rest stops) (ap due (gap-is n rest stops) ∙ is), e) refl

abbrev pub fine : {A : Type 0} → A → Result A LineFault
fine a = Ok a

pub same_Ok : {A : Type 0} (a v : A) → fine a ≡ fine v → a ≡ v
same_Ok {A} a v e = ap (λ (r : Result A LineFault). result_unwrap_or r a) e

pub or_bad-from : {A : Type 0} (f : Field) (bytes : ℕ) (rest : List ℕ) (o : Option A) (v : A) → or_bad f bytes rest o ≡ Ok v → o ≡ Some v
or_bad-from f bytes rest None v e = cc
or_bad-from f bytes rest (Some a) v e = ap Some (same_Ok a v e)

pub bind-from : {A B : Type 0} (f : A → Result B LineFault) (r : Result A LineFault) (b : B) → (r >>= f) ≡ Ok b → (a : A) × (r ≡ Ok a) × (f a ≡ Ok b)
bind-from f (Ok a) b e = (a, refl, e)
bind-from f (Err x) b e = cc

gapped-from : (f : Field) (due : ℕ → Bool) (bytes : ℕ) (text rest : List ℕ) → gapped f due bytes text ≡ Ok rest → (due (gap text) ≡ true) × (rest ≡ behind_gap text)
unfolding gapped
gapped-from f due bytes text rest e = elim (cases_Bool (due (gap text))) [
  | inl is ↦ let got : fine (behind_gap text) ≡ fine rest = rw is at e in (is, sym (same_Ok (behind_gap text) rest got))
  | inr other ↦ let none : or_bad f bytes (behind_gap text) None ≡ Ok rest = rw other at e in cc
]

-- and a field that was read stands behind its spaces
pub spaced-from : {A : Type 0} (f : Field) (due : ℕ → Bool) (take_in : List ℕ → Taken A) (bytes : ℕ) (text : List ℕ) (v : A × List ℕ)
    → spaced f due take_in bytes text ≡ Ok v → (due (gap text) ≡ true) × (take_in (behind_gap text) ≡ Some v)
unfolding spaced
spaced-from f due take_in bytes text v e =
    let step = bind-from (λ rest. or_bad f bytes rest (take_in rest)) (gapped f due bytes text) v e in
    let inner = gapped-from f due bytes text step.0 step.1 in
    (inner.0, ap take_in (sym inner.1) ∙ or_bad-from f bytes step.0 (take_in step.0) v step.2)

gap-cons : (b : ℕ) (bs : List ℕ) → is_space b ≡ true → gap (b ∷ bs) ≡ suc (gap bs)
gap-cons b bs is = rw is (omega arith)

gap-none : (b : ℕ) (bs : List ℕ) → is_space b ≡ false → gap (b ∷ bs) ≡ 0
gap-none b bs other = rw other refl

pub gap-split : (text : List ℕ) → text ≡ spaces (gap text) ++ behind_gap text
gap-split [] = refl
gap-split (b ∷ bs) = elim (cases_Bool (is_space b)) [
  | inl is ↦ subst (λ n. (b ∷ bs) ≡ spaces n ++ drop n (b ∷ bs)) (sym (gap-cons b bs is)) (ap (λ x. x ∷ bs) (eqb-true b 32 is) ∙ ap (λ t. 32 ∷ t) (gap-split bs))
  | inr other ↦ subst (λ n. (b ∷ bs) ≡ spaces n ++ drop n (b ∷ bs)) (sym (gap-none b bs other)) refl
]

-- one space, and one or more
pub one-split : (text : List ℕ) → one (gap text) ≡ true → text ≡ 32 ∷ behind_gap text
one-split text is = gap-split text ∙ ap (λ n. spaces n ++ behind_gap text) (eqb-true (gap text) 1 is)

pub some-split : (text : List ℕ) → some (gap text) ≡ true → text ≡ 32 ∷ spaces (gap text - 1) ++ behind_gap text
some-split text is =
    let low : 1 ≤ gap text = leb-true 1 (gap text) is in
    let next : gap text ≡ suc (gap text - 1) = omega arith in
    gap-split text ∙ ap (λ n. spaces n ++ behind_gap text) next
