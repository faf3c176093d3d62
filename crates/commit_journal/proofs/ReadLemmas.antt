-- What is read at the front of bytes stands there, and what stands there is read again.
use Rattle.std.proofs.Common.{◌≡◌, ◌≢◌, ℕ, ◌+◌, ◌-◌, ◌^◌, ◌<◌, ◌≤◌, Bool, true, false, cond, eqb, ltb, ◌&&◌, nat_le, List, [], ◌++◌, length, get_or, take, drop, Option, Some, None, refl, sym, ap, subst, ◌∙◌, append_assoc, arith, inl, inr}
use Rattle.std.specs.Int.{Width, w16, w32, byte_len, from_be_bytes, to_be_bytes}
use Rattle.std.proofs.lemmas.Bool.{cases_lt, ltb-false, le-ltb, eqb-true}
use Rattle.std.proofs.lemmas.Bool.Decides.{nat_tests}
use Rattle.std.proofs.lemmas.List.{take_at, drop_at, take-append-drop, length-append, length-take, length-drop, get_or-drop, get_or-take, get_or_past}
use Rattle.std.proofs.lemmas.Nat.{be_bytes_2, be_bytes_4, from_be_bytes-to_be_bytes_2, from_be_bytes-to_be_bytes_4}
use Rattle.dired_text.specs.Paths.{Names, joined, max_path_bytes}
use Rattle.commit_steps.specs.Steps.{IsPath}
use Rattle.commit_journal.specs.declared.version.Version.{Version}
use Rattle.commit_journal.specs.declared.version.Version.TheVariants.{One, Two}
use Rattle.commit_journal.specs.Grammar.{two_bytes, four_bytes}
use Rattle.commit_journal.specs.Sharing.{shared_bytes}
use Rattle.commit_journal.specs.Spelling.{against, path_text}
use Rattle.commit_journal.specs.Reading.{◌>>=◌, front_at, number_at, whole_at, shared_at, text_at, path_of, path_at}
use Rattle.commit_journal.proofs.SharingLemmas.{shared_is}
use Rattle.commit_journal.proofs.TextLemmas.{and_both, and_make, le_holds, path_holds, path_is}

abbrev pub IsBytes : List ℕ → Type 0
IsBytes bytes = (i : ℕ) → get_or bytes i 0 < 256

pub IsBytes-drop : (n : ℕ) (bytes : List ℕ) → IsBytes bytes → IsBytes (drop n bytes)
IsBytes-drop n bytes h i = rw get_or-drop (h (n + i))

IsBytes-take : (n : ℕ) (bytes : List ℕ) → IsBytes bytes → IsBytes (take n bytes)
IsBytes-take n bytes h i =
    elim (cases_lt i n) [
      | inl lt ↦ rw (get_or-take n bytes i 0 lt) (h i)
      | inr le ↦ rw (get_or_past (take n bytes) i 0 (omega (arith, length-take n bytes))) (omega arith)
    ]

pub bind_some : {A B : Type 0} (o : Option A) (f : A → Option B) (y : B) → (o >>= f) ≡ Some y → (x : A) × (o ≡ Some x) × (f x ≡ Some y)
bind_some (Some x) f y e = (x, refl, e)
bind_some None f y e = absurd cc

pub guard_some : {A : Type 0} (b : Bool) (x y : A) → cond b None (Some x) ≡ Some y → (b ≡ false) × (x ≡ y)
guard_some true x y e = absurd cc
guard_some false x y e = (refl, cc)

pub test_some : {A : Type 0} (b : Bool) (x y : A) → cond b (Some x) None ≡ Some y → (b ≡ true) × (x ≡ y)
test_some true x y e = (refl, cc)
test_some false x y e = absurd cc

abbrev some_of : {A : Type 0} → A → Option A
some_of x = Some x

pub some_is : {A : Type 0} (x y : A) → some_of x ≡ some_of y → x ≡ y
some_is x y e = cc

-- what a reader took from the front
pub record Takes (bytes text rest : List ℕ) : Type 0 where
  pub parts : bytes ≡ text ++ rest
  pub rest_fits : IsBytes rest

pub Takes-then : (a x b y c : List ℕ) → Takes a x b → Takes b y c → Takes a (x ++ y) c
Takes-then a x b y c p q = record { parts = p.parts ∙ ap (λ (t : List ℕ). x ++ t) q.parts ∙ sym (append_assoc x y c); rest_fits = q.rest_fits }

-- ---- numbers

pub record IsWide (w : Width) (limit : ℕ) : Type 0 where
  pub len : (n : ℕ) → length (to_be_bytes w n) ≡ byte_len w
  pub back : (bytes : List ℕ) → length bytes ≡ byte_len w → IsBytes bytes → to_be_bytes w (from_be_bytes w bytes) ≡ bytes
  pub again : (n : ℕ) → n < limit → from_be_bytes w (to_be_bytes w n) ≡ n
  pub below : (bytes : List ℕ) → IsBytes bytes → from_be_bytes w bytes < limit

pub wide16 : IsWide w16 (2 ^ 16)
wide16 = record {
  len = λ n. refl;
  back = λ bytes len fits. be_bytes_2 bytes _ len fits refl;
  again = λ n lt. from_be_bytes-to_be_bytes_2 n lt;
  below = λ bytes fits. omega (arith, fits 0, fits 1);
}

pub wide32 : IsWide w32 (2 ^ 32)
wide32 = record {
  len = λ n. refl;
  back = λ bytes len fits. be_bytes_4 bytes _ len fits refl;
  again = λ n lt. from_be_bytes-to_be_bytes_4 n lt;
  below = λ bytes fits. omega (arith, fits 0, fits 1, fits 2, fits 3);
}

pub number_takes : (w : Width) (limit : ℕ) (wide : IsWide w limit) (bytes : List ℕ) (n : ℕ) (rest : List ℕ) → IsBytes bytes → number_at w bytes ≡ Some (n, rest) → Takes bytes (to_be_bytes w n) rest × (n < limit)
number_takes w limit wide bytes n rest fits e =
    let g = guard_some (ltb (length bytes) (byte_len w)) (from_be_bytes w (take (byte_len w) bytes), drop (byte_len w) bytes) (n, rest) e in
    let long : byte_len w ≤ length bytes = ltb-false _ _ g.0 in
    let n-is : from_be_bytes w (take (byte_len w) bytes) ≡ n = ap (λ (p : ℕ × List ℕ). p.0) g.1 in
    let rest-is : drop (byte_len w) bytes ≡ rest = ap (λ (p : ℕ × List ℕ). p.1) g.1 in
    let front : to_be_bytes w n ≡ take (byte_len w) bytes = rw (← n-is) (wide.back (take (byte_len w) bytes) (omega (arith, length-take (byte_len w) bytes)) (IsBytes-take (byte_len w) bytes fits)) in
    (record { parts = rw (front, ← rest-is) (sym (take-append-drop (byte_len w) bytes)); rest_fits = rw (← rest-is) (IsBytes-drop (byte_len w) bytes fits) }, rw (← n-is) (wide.below (take (byte_len w) bytes) (IsBytes-take (byte_len w) bytes fits)))

pub number_again : (w : Width) (limit : ℕ) (wide : IsWide w limit) (n : ℕ) (rest : List ℕ) → n < limit → number_at w (to_be_bytes w n ++ rest) ≡ Some (n, rest)
number_again w limit wide n rest lt =
    let len = wide.len n in
    let long : ltb (length (to_be_bytes w n ++ rest)) (byte_len w) ≡ false = le-ltb _ _ (omega (arith, length-append (to_be_bytes w n) rest)) in
    rw (long, take_at (to_be_bytes w n) rest (byte_len w) len, drop_at (to_be_bytes w n) rest (byte_len w) len, wide.again n lt) refl

-- ---- so many bytes

pub front_takes : (n : ℕ) (bytes text rest : List ℕ) → IsBytes bytes → front_at n bytes ≡ Some (text, rest) → Takes bytes text rest × (length text ≡ n) × (text ≡ take n bytes)
front_takes n bytes text rest fits e =
    let g = guard_some (ltb (length bytes) n) (take n bytes, drop n bytes) (text, rest) e in
    let long : n ≤ length bytes = ltb-false _ _ g.0 in
    let text-is : take n bytes ≡ text = ap (λ (p : List ℕ × List ℕ). p.0) g.1 in
    let rest-is : drop n bytes ≡ rest = ap (λ (p : List ℕ × List ℕ). p.1) g.1 in
    (record { parts = rw (← text-is, ← rest-is) (sym (take-append-drop n bytes)); rest_fits = rw (← rest-is) (IsBytes-drop n bytes fits) }, rw (← text-is) (omega (arith, length-take n bytes)), sym text-is)

pub front_again : (text rest : List ℕ) (n : ℕ) → length text ≡ n → front_at n (text ++ rest) ≡ Some (text, rest)
front_again text rest n len =
    let long : ltb (length (text ++ rest)) n ≡ false = le-ltb _ _ (omega (arith, length-append text rest)) in
    rw (long, take_at text rest n len, drop_at text rest n len) refl

-- ---- texts, whole and against a base

-- a text that was read is written so against its base
pub record TextRead (v : Version) (base bytes text rest : List ℕ) : Type 0 where
  pub takes : Takes bytes (against v base text) rest

whole_takes : (base bytes text rest : List ℕ) → IsBytes bytes → whole_at bytes ≡ Some (text, rest) → TextRead One base bytes text rest
unfolding whole_at
whole_takes base bytes text rest fits e =
    let a = bind_some (number_at w16 bytes) (λ n. front_at n.0 n.1) (text, rest) e in
    let t0 = number_takes w16 (2 ^ 16) wide16 bytes a.0.0 a.0.1 fits a.1 in
    let t1 = front_takes a.0.0 a.0.1 text rest t0.0.rest_fits a.2 in
    let both = Takes-then bytes (two_bytes a.0.0) a.0.1 text rest t0.0 t1.0 in
    record { takes = subst (λ (k : ℕ). Takes bytes (two_bytes k ++ text) rest) (sym t1.1) both }

whole_again : (text rest : List ℕ) → length text < 2 ^ 16 → whole_at ((two_bytes (length text) ++ text) ++ rest) ≡ Some (text, rest)
unfolding whole_at
whole_again text rest lt =
    ap whole_at (append_assoc (two_bytes (length text)) text rest) ∙ rw (number_again w16 (2 ^ 16) wide16 (length text) (text ++ rest) lt) (front_again text rest (length text) refl)

shared_takes : (base bytes text rest : List ℕ) → IsBytes bytes → shared_at base bytes ≡ Some (text, rest) → TextRead Two base bytes text rest
unfolding shared_at
shared_takes base bytes text rest fits e =
    let a = bind_some (number_at w32 bytes) (λ s. number_at w32 s.1 >>= λ f. front_at f.0 f.1 >>= λ r. front_at s.0 base >>= λ k. cond (nat_le (length k.0 + length r.0) max_path_bytes && eqb (shared_bytes base (k.0 ++ r.0)) s.0) (Some (k.0 ++ r.0, r.1)) None) (text, rest) e in
    let b = bind_some (number_at w32 a.0.1) (λ f. front_at f.0 f.1 >>= λ r. front_at a.0.0 base >>= λ k. cond (nat_le (length k.0 + length r.0) max_path_bytes && eqb (shared_bytes base (k.0 ++ r.0)) a.0.0) (Some (k.0 ++ r.0, r.1)) None) (text, rest) a.2 in
    let c = bind_some (front_at b.0.0 b.0.1) (λ r. front_at a.0.0 base >>= λ k. cond (nat_le (length k.0 + length r.0) max_path_bytes && eqb (shared_bytes base (k.0 ++ r.0)) a.0.0) (Some (k.0 ++ r.0, r.1)) None) (text, rest) b.2 in
    let d = bind_some (front_at a.0.0 base) (λ k. cond (nat_le (length k.0 + length c.0.0) max_path_bytes && eqb (shared_bytes base (k.0 ++ c.0.0)) a.0.0) (Some (k.0 ++ c.0.0, c.0.1)) None) (text, rest) c.2 in
    let g = test_some (nat_le (length d.0.0 + length c.0.0) max_path_bytes && eqb (shared_bytes base (d.0.0 ++ c.0.0)) a.0.0) (d.0.0 ++ c.0.0, c.0.1) (text, rest) d.2 in
    let text-is : d.0.0 ++ c.0.0 ≡ text = ap (λ (p : List ℕ × List ℕ). p.0) g.1 in
    let rest-is : c.0.1 ≡ rest = ap (λ (p : List ℕ × List ℕ). p.1) g.1 in
    let greatest : shared_bytes base (d.0.0 ++ c.0.0) ≡ a.0.0 = eqb-true _ _ (and_both (nat_le (length d.0.0 + length c.0.0) max_path_bytes) _ g.0).1 in
    let kept : length d.0.0 ≡ a.0.0 = kept_len a.0.0 base d.0.0 d.0.1 d.1 in
    let t0 = number_takes w32 (2 ^ 32) wide32 bytes a.0.0 a.0.1 fits a.1 in
    let t1 = number_takes w32 (2 ^ 32) wide32 a.0.1 b.0.0 b.0.1 t0.0.rest_fits b.1 in
    let t2 = front_takes b.0.0 b.0.1 c.0.0 c.0.1 t1.0.rest_fits c.1 in
    let e12 = Takes-then a.0.1 (four_bytes b.0.0) b.0.1 c.0.0 c.0.1 t1.0 t2.0 in
    let e02 = Takes-then bytes (four_bytes a.0.0) a.0.1 (four_bytes b.0.0 ++ c.0.0) c.0.1 t0.0 e12 in
    let further : length (d.0.0 ++ c.0.0) - a.0.0 ≡ b.0.0 = omega (arith, length-append d.0.0 c.0.0, t2.1) in
    let behind : drop a.0.0 (d.0.0 ++ c.0.0) ≡ c.0.0 = drop_at d.0.0 c.0.0 a.0.0 kept in
    let written : against Two base (d.0.0 ++ c.0.0) ≡ four_bytes a.0.0 ++ (four_bytes b.0.0 ++ c.0.0) =
    rw (greatest, further, behind) (append_assoc (four_bytes a.0.0) (four_bytes b.0.0) c.0.0) in
    record { takes = subst (λ (p : List ℕ × List ℕ). Takes bytes (against Two base p.0) p.1) g.1 (subst (λ (t : List ℕ). Takes bytes t c.0.1) (sym written) e02) }
  where
    kept_len : (n : ℕ) (bytes text rest : List ℕ) → front_at n bytes ≡ Some (text, rest) → length text ≡ n
    kept_len n bytes text rest e =
        let g = guard_some (ltb (length bytes) n) (take n bytes, drop n bytes) (text, rest) e in
        let long : n ≤ length bytes = ltb-false _ _ g.0 in
        let text-is : take n bytes ≡ text = ap (λ (p : List ℕ × List ℕ). p.0) g.1 in
        rw (← text-is) (omega (arith, length-take n bytes))

eq_holds : (m n : ℕ) → m ≡ n → eqb m n ≡ true
eq_holds m n h = grind (arith, nat_tests)

shared_again : (base text rest : List ℕ) → length text ≤ max_path_bytes → shared_at base (against Two base text ++ rest) ≡ Some (text, rest)
unfolding shared_at
shared_again base text rest le =
    let n = shared_bytes base text in
    let shared = shared_is base text in
    let regrouped : against Two base text ++ rest ≡ four_bytes n ++ (four_bytes (length text - n) ++ (drop n text ++ rest)) =
    append_assoc (four_bytes n ++ four_bytes (length text - n)) (drop n text) rest ∙ append_assoc (four_bytes n) (four_bytes (length text - n)) (drop n text ++ rest) in
    let front_is : front_at (length text - n) (drop n text ++ rest) ≡ Some (drop n text, rest) = front_again (drop n text) rest (length text - n) (length-drop n text) in
    let kept_is : front_at n base ≡ Some (take n base, drop n base) = kept n base shared.in_base in
    let whole : take n base ++ drop n text ≡ text = ap (λ (l : List ℕ). l ++ drop n text) shared.same ∙ take-append-drop n text in
    let lens : length (take n base) + length (drop n text) ≡ length text = sym (length-append (take n base) (drop n text)) ∙ ap (λ (l : List ℕ). length l) whole in
    let tests : (nat_le (length (take n base) + length (drop n text)) max_path_bytes && eqb (shared_bytes base (take n base ++ drop n text)) n) ≡ true =
    and_make (nat_le (length (take n base) + length (drop n text)) max_path_bytes) _ (le_holds _ max_path_bytes (omega arith)) (eq_holds _ n (ap (shared_bytes base) whole)) in
    ap (shared_at base) regrouped
    ∙ rw (
      number_again w32 (2 ^ 32) wide32 n (four_bytes (length text - n) ++ (drop n text ++ rest)) (omega (arith, shared.in_text)),
      number_again w32 (2 ^ 32) wide32 (length text - n) (drop n text ++ rest) (omega arith),
      front_is,
      kept_is,
      tests,
    ) (ap (λ (l : List ℕ). Some (l, rest)) whole)
  where
    kept : (n : ℕ) (base : List ℕ) → n ≤ length base → front_at n base ≡ Some (take n base, drop n base)
    kept n base le = rw (le-ltb (length base) n le) refl

text_takes : (v : Version) (base bytes text rest : List ℕ) → IsBytes bytes → text_at v base bytes ≡ Some (text, rest) → TextRead v base bytes text rest
text_takes One base bytes text rest fits e = whole_takes base bytes text rest fits e
text_takes Two base bytes text rest fits e = shared_takes base bytes text rest fits e

text_again : (v : Version) (base text rest : List ℕ) → length text ≤ max_path_bytes → text_at v base (against v base text ++ rest) ≡ Some (text, rest)
text_again One base text rest le = whole_again text rest (omega arith)
text_again Two base text rest le = shared_again base text rest le

-- ---- paths

pub record PathRead (v : Version) (base bytes : List ℕ) (p : Names) (text rest : List ℕ) : Type 0 where
  pub takes : Takes bytes (path_text v base p) rest
  pub path : IsPath p
  pub some : p ≢ []
  pub is : joined p ≡ text

pub path_takes : (v : Version) (base bytes : List ℕ) (x : Names × List ℕ × List ℕ) → IsBytes bytes → path_at v base bytes ≡ Some x → PathRead v base bytes x.0 x.1 x.2
unfolding path_at path_text
path_takes v base bytes x fits e =
    let a = bind_some (text_at v base bytes) (λ text. path_of text.0 >>= λ path. Some (path, text.0, text.1)) x e in
    let b = bind_some (path_of a.0.0) (λ path. Some (path, a.0.0, a.0.1)) x a.2 in
    let t = text_takes v base bytes a.0.0 a.0.1 fits a.1 in
    let p = path_is a.0.0 b.0 b.1 in
    let made : Names × List ℕ × List ℕ = (b.0, a.0.0, a.0.1) in
    subst (λ (y : Names × List ℕ × List ℕ). PathRead v base bytes y.0 y.1 y.2) (some_is made x b.2) (record {
      takes = subst (λ (l : List ℕ). Takes bytes (against v base l) a.0.1) (sym p.is) t.takes;
      path = p.path;
      some = p.some;
      is = p.is;
    })

pub path_again : (v : Version) (base : List ℕ) (p : Names) (rest : List ℕ) → p ≢ [] → IsPath p → path_at v base (path_text v base p ++ rest) ≡ Some (p, joined p, rest)
unfolding path_at path_text
path_again v base p rest some h = rw (text_again v base (joined p) rest h.short, path_holds p some h) refl

pub rest_bytes : (bytes text rest : List ℕ) → IsBytes bytes → bytes ≡ text ++ rest → IsBytes rest
rest_bytes bytes text rest fits e = subst IsBytes (ap (drop (length text)) e ∙ drop_at text rest (length text) refl) (IsBytes-drop (length text) bytes fits)
