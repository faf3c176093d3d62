-- What holds of each kind of group, and that groups have different names.
use Rattle.std.proofs.Common.{◌≡◌, ◌≢◌, inl, inr, ℕ, ◌+◌, ◌/◌, ◌%◌, ◌==◌, ◌<◌, ◌≤◌, nat_le, Bool, true, false, not, ◌&&◌, ◌||◌, cond, List, [], ◌∷◌, map, length, refl, sym, ◌∙◌, ap, subst, arith, get_or, Contains}
use Rattle.std.specs.List.{list_all, list_any}
use Rattle.std.proofs.lemmas.Bool.{and_parts, agree_below_at, leb-true}
use Rattle.dired_text.specs.Paths.{Names, parent, slashed}
use Rattle.edit_words.specs.Rows.{is_same_path}
use Rattle.edit_words.specs.Place.{is_above}
use Rattle.edit_words.proofs.SameLemmas.{same_path, same_itself}
use Rattle.edit_laws.proofs.ListLemmas.{any_from, any_parts, contains_cases, contains_none}
use Rattle.drill_tree.specs.declared.group.Group.{Group}
use Rattle.drill_tree.specs.declared.group.Group.TheVariants.{Chain, Cycle, Nested, Replacing, Swallowing}
use Rattle.drill_tree.specs.declared.moves.Move.{Move}
use Rattle.drill_tree.specs.Groups.{Held, group_of, group_name, held, moves}
use Rattle.drill_tree.proofs.ListLemmas.{Apart, apart_of_map}

-- ---- tests of a group

pub all_pass : {X : Type 0} (p : X → Bool) (xs : List X) → list_all p xs ≡ true → (x : X) → Contains xs x → p x ≡ true
all_pass p [] e y c = absurd (contains_none y c)
all_pass p (x ∷ xs) e y c =
    let parts = and_parts (p x) (list_all p xs) e in
    elim (contains_cases x y xs c) [
      | inl same ↦ ap p (sym same) ∙ parts.0
      | inr later ↦ all_pass p xs parts.1 y later
    ]

abbrev pub distinct : List Names → Bool
distinct [] = true
distinct (p ∷ ps) = not (list_any (is_same_path p) ps) && distinct ps

abbrev pub Differ : Names → Names → Type 0
Differ p q = p ≢ q

pub not_both : (b : Bool) → not b ≡ true → b ≡ true → ⊥
not_both true e f = cc
not_both false e f = cc

pub distinct_apart : (ps : List Names) → distinct ps ≡ true → Apart Differ ps
distinct_apart [] e = tt
distinct_apart (p ∷ ps) e =
    let parts = and_parts (not (list_any (is_same_path p) ps)) (distinct ps) e in (
      λ q c same. not_both (list_any (is_same_path p) ps) parts.0 (any_from (is_same_path p) ps q c (subst (λ (r : Names). is_same_path p r ≡ true) same (same_itself p))),
      distinct_apart ps parts.1,
    )

-- one or two names, of few bytes
abbrev pub is_short : Names → Bool
is_short p = nat_le 1 (length p) && (nat_le (length p) 2 && nat_le (length (slashed p)) 4)

abbrev pub is_source_of : Group → Names → Bool
is_source_of group p = list_any (λ (o : Move). is_same_path p o.source) (moves group)

abbrev pub same_bool : Bool → Bool → Bool
same_bool true b = b
same_bool false b = not b

abbrev pub is_of : Move → Held → Bool
is_of m h = is_same_path m.source h.path && same_bool m.is_dir h.is_dir

-- what is above where a move goes is a directory, and a directory that stands there moves itself
abbrev pub is_fine : Group → Move → Held → Bool
is_fine group m h = (not (is_above h.path m.to) || h.is_dir) && (not (h.is_dir && is_same_path h.path m.to) || is_source_of group m.to)

-- it stays in its directory, or goes to the directory of the group
abbrev pub is_near : Move → Bool
is_near m = is_same_path (parent m.source) (parent m.to) || length m.to == 1

abbrev pub is_good : Group → Move → Bool
is_good group m =
    not (is_same_path m.source m.to)
    && (is_short m.source && (is_short m.to && (list_any (is_of m) (held group) && (list_all (is_fine group m) (held group) && is_near m))))

abbrev pub is_lawful : Group → Bool
is_lawful group =
    distinct (map (λ (m : Move). m.source) (moves group))
    && (distinct (map (λ (m : Move). m.to) (moves group))
    && (distinct (map (λ (h : Held). h.path) (held group))
    && (list_all (is_good group) (moves group) && (list_all (λ (h : Held). is_short h.path) (held group) && (nat_le (length (moves group)) 7 && nat_le (length (held group)) 7)))))

-- ---- each group passes

lawful_cycle : (turn : ℕ) → turn < 6 → is_lawful (Cycle (2 + turn)) ≡ true
lawful_cycle turn few = agree_below_at (λ (k : ℕ). is_lawful (Cycle (2 + k))) (λ (k : ℕ). true) 6 turn refl few

either : (P : Group → Type 0) (b : Bool) (x y : Group) → P x → P y → P (cond b x y)
either P true x y p q = p
either P false x y p q = q

abbrev IsLawful : Group → Type 0
IsLawful group = is_lawful group ≡ true

pub lawful : (g : ℕ) → is_lawful (group_of g) ≡ true
lawful g =
    either IsLawful (g % 5 == 0) Chain _ refl
    (either IsLawful (g % 5 == 1) (Cycle (2 + g / 5 % 6)) _ (lawful_cycle (g / 5 % 6) (omega arith))
    (either IsLawful (g % 5 == 2) Nested _ refl (either IsLawful (g % 5 == 3) Replacing Swallowing refl refl)))

-- ---- as facts

pub record IsShort (p : Names) : Type 0 where
  pub some : 1 ≤ length p
  pub few : length p ≤ 2
  pub bytes : length (slashed p) ≤ 4

short_parts : (p : Names) → is_short p ≡ true → IsShort p
short_parts p e =
    let a = and_parts (nat_le 1 (length p)) _ e in
    let b = and_parts (nat_le (length p) 2) (nat_le (length (slashed p)) 4) a.1 in
    record { some = leb-true 1 (length p) a.0; few = leb-true (length p) 2 b.0; bytes = leb-true (length (slashed p)) 4 b.1 }

pub record IsGood (group : Group) (m : Move) : Type 0 where
  pub other : m.source ≢ m.to
  pub source : IsShort m.source
  pub to : IsShort m.to
  pub shown : Held
  pub listed : Contains (held group) shown
  pub path : shown.path ≡ m.source
  pub same : shown.is_dir ≡ m.is_dir
  pub fine : (h : Held) → Contains (held group) h → is_fine group m h ≡ true
  pub near : is_near m ≡ true

same_bools : (a b : Bool) → same_bool a b ≡ true → b ≡ a
same_bools true b e = e
same_bools false true e = cc
same_bools false false e = refl

good_parts : (group : Group) (m : Move) → is_good group m ≡ true → IsGood group m
good_parts group m e =
    let a = and_parts (not (is_same_path m.source m.to)) _ e in
    let b = and_parts (is_short m.source) _ a.1 in
    let c = and_parts (is_short m.to) _ b.1 in
    let d = and_parts (list_any (is_of m) (held group)) _ c.1 in
    let f = and_parts (list_all (is_fine group m) (held group)) (is_near m) d.1 in
    let found = any_parts (is_of m) (held group) d.0 in
    let parts = and_parts (is_same_path m.source found.0.path) (same_bool m.is_dir found.0.is_dir) found.2 in
    record {
      other = λ same. not_both (is_same_path m.source m.to) a.0 (subst (λ (q : Names). is_same_path m.source q ≡ true) same (same_itself m.source));
      source = short_parts m.source b.0;
      to = short_parts m.to c.0;
      shown = found.0;
      listed = found.1;
      path = sym (same_path m.source found.0.path parts.0);
      same = same_bools m.is_dir found.0.is_dir parts.1;
      fine = all_pass (is_fine group m) (held group) f.0;
      near = f.1;
    }

pub record Law (group : Group) : Type 0 where
  pub sources : Apart (λ (m o : Move). m.source ≢ o.source) (moves group)
  pub places : Apart (λ (m o : Move). m.to ≢ o.to) (moves group)
  pub paths : Apart (λ (h i : Held). h.path ≢ i.path) (held group)
  pub good : (m : Move) → Contains (moves group) m → IsGood group m
  pub short : (h : Held) → Contains (held group) h → IsShort h.path
  pub few : length (moves group) ≤ 7
  pub few_held : length (held group) ≤ 7

pub law : (g : ℕ) → Law (group_of g)
law g = of (group_of g) (lawful g)
  where
    of : (group : Group) → is_lawful group ≡ true → Law group
    of group e =
        let a = and_parts (distinct (map (λ (m : Move). m.source) (moves group))) _ e in
        let b = and_parts (distinct (map (λ (m : Move). m.to) (moves group))) _ a.1 in
        let c = and_parts (distinct (map (λ (h : Held). h.path) (held group))) _ b.1 in
        let d = and_parts (list_all (is_good group) (moves group)) _ c.1 in
        let f = and_parts (list_all (λ (h : Held). is_short h.path) (held group)) _ d.1 in
        let i = and_parts (nat_le (length (moves group)) 7) (nat_le (length (held group)) 7) f.1 in
        record {
          sources = apart_of_map (λ (m : Move). m.source) Differ (moves group) (distinct_apart _ a.0);
          places = apart_of_map (λ (m : Move). m.to) Differ (moves group) (distinct_apart _ b.0);
          paths = apart_of_map (λ (h : Held). h.path) Differ (held group) (distinct_apart _ c.0);
          good = λ m l. good_parts group m (all_pass (is_good group) (moves group) d.0 m l);
          short = λ h l. short_parts h.path (all_pass (λ (h : Held). is_short h.path) (held group) f.0 h l);
          few = leb-true (length (moves group)) 7 i.0;
          few_held = leb-true (length (held group)) 7 i.1;
        }

-- ---- names

abbrev byte : ℕ → List ℕ → ℕ
byte k bytes = get_or bytes k 0

-- six digits make one number
digits_number : (g h : ℕ) → g / 100000 ≡ h / 100000 → g / 10000 % 10 ≡ h / 10000 % 10 → g / 1000 % 10 ≡ h / 1000 % 10 → g / 100 % 10 ≡ h / 100 % 10
    → g / 10 % 10 ≡ h / 10 % 10 → g % 10 ≡ h % 10 → g ≡ h
digits_number g h a b c d e f =
    let b1 : g / 10000 ≡ h / 10000 = omega (arith, a, b) in
    let c1 : g / 1000 ≡ h / 1000 = omega (arith, b1, c) in
    let d1 : g / 100 ≡ h / 100 = omega (arith, c1, d) in
    let e1 : g / 10 ≡ h / 10 = omega (arith, d1, e) in
    omega (arith, e1, f)

pub name_injective : (g h : ℕ) → group_name g ≡ group_name h → g ≡ h
name_injective g h e =
    let a : 48 + g / 100000 ≡ 48 + h / 100000 = ap (byte 1) e in
    let b : 48 + g / 10000 % 10 ≡ 48 + h / 10000 % 10 = ap (byte 2) e in
    let c : 48 + g / 1000 % 10 ≡ 48 + h / 1000 % 10 = ap (byte 3) e in
    let d : 48 + g / 100 % 10 ≡ 48 + h / 100 % 10 = ap (byte 4) e in
    let f : 48 + g / 10 % 10 ≡ 48 + h / 10 % 10 = ap (byte 5) e in
    let i : 48 + g % 10 ≡ 48 + h % 10 = ap (byte 6) e in
    digits_number g h (omega (arith, a)) (omega (arith, b)) (omega (arith, c)) (omega (arith, d)) (omega (arith, f)) (omega (arith, i))
