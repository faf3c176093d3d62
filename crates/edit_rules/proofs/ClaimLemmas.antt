-- What claims say of lines.
use Rattle.std.proofs.Common.{◌≡◌, inl, inr, ℕ, ◌≤◌, ◌<◌, ◌==◌, min, Bool, true, false, cond, not, ◌&&◌, ◌||◌, List, [], ◌∷◌, filter, refl, sym, ◌∙◌, ap, subst, arith, Option, Some, None, Contains, Decides, option_map, is_some}
use Rattle.std.specs.List.{find, list_any}
use Rattle.std.specs.Option.{unwrap_or}
use Rattle.std.proofs.lemmas.Bool.{cond-true, cond-false, cond_both, cases_Bool, cases_eq, eq-eqb, ne_eqb, or_left, or_right, or_from, or_cases, and_from, and_right, false≢true}
use Rattle.std.proofs.lemmas.Bool.Decides.{Decides-eqb, Decides-like, same_from_decides}
use Rattle.std.proofs.Math.Bool.{or_assoc, or-false}
use Rattle.dired_text.specs.Paths.{Names}
use Rattle.dired_text.proofs.PathLemmas.{path_decides}
use Rattle.edit_words.specs.declared.row.Row.{Row}
use Rattle.edit_rules.specs.declared.claims.Claim.{Claim}
use Rattle.edit_words.specs.declared.fault.CheckFault.TheVariants.{TwoToOne, ModeClash, MovedParent, ParentTaken}
use Rattle.edit_words.specs.Place.{is_above, ancestors}
use Rattle.edit_words.specs.Rows.{is_same_path, written, line_where}
use Rattle.edit_words.specs.Sight.{Sight, number_at}
use Rattle.edit_words.specs.Refusals.{two_to_one, are_same, differ, mode_clash, is_mover_above, moved_parent, parent_taken}
use Rattle.edit_rules.specs.Claims.{claimed_by, first_line, other_line, claims_behind, lesser, least_line}
use Rattle.edit_rules.specs.Tables.{is_moved_by}
use Rattle.edit_words.specs.WellFormed.{LinesRise}
use Rattle.edit_words.proofs.FindLemmas.{contains_head, contains_tail, contains_none, contains_cases}
use Rattle.edit_words.proofs.AboveLemmas.{above_decides, ancestors_above}
use Rattle.edit_words.proofs.FirstLemmas.{rise_rest, rise_first, no_line, line_of_least}
use Rattle.edit_words.proofs.AlikeLemmas.{line_where_alike}

-- ---- claims of rows

abbrev with_other : ℕ → Claim → Claim
with_other line c = record { line = c.line; value = c.value; other = Some line }

abbrev alone : ℕ → ℕ → Claim
alone line value = record { line = line; value = value; other = None }

abbrev line_if : Row → Option Row → Bool → Option ℕ
line_if r later b = option_map (λ (o : Row). o.line) (cond b (Some r) later)

-- the first line and its value are kept
line_kept : (value line : ℕ) (c : Claim) → (claimed_by value line (Some c)).line ≡ c.line
line_kept value line c = cond_both (c.value == value || is_some c.other) c (with_other line c) (λ (d : Claim). d.line ≡ c.line) (λ e. refl) (λ e. refl)

value_kept : (value line : ℕ) (c : Claim) → (claimed_by value line (Some c)).value ≡ c.value
value_kept value line c = cond_both (c.value == value || is_some c.other) c (with_other line c) (λ (d : Claim). d.value ≡ c.value) (λ e. refl) (λ e. refl)

first_kept : (claims : Row → Bool) (value : Row → ℕ) (c : Claim) (rs : List Row) → first_line (claims_behind claims value (Some c) rs) ≡ Some c.line
first_kept claims value c [] = refl
first_kept claims value c (r ∷ rs) = elim (claims r) as (λ (b : Bool). first_line (claims_behind claims value (cond b (Some (claimed_by (value r) r.line (Some c))) (Some c)) rs) ≡ Some c.line) [
  | true ↦ first_kept claims value (claimed_by (value r) r.line (Some c)) rs ∙ ap (λ (n : ℕ). Some n) (line_kept (value r) r.line c)
  | false ↦ first_kept claims value c rs
]

-- the first line of a claim is that of the first row that makes it
pub first_claimed : (claims : Row → Bool) (value : Row → ℕ) (rs : List Row) → first_line (claims_behind claims value None rs) ≡ line_where claims rs
first_claimed claims value [] = refl
first_claimed claims value (r ∷ rs) = elim (claims r) as (λ (b : Bool). first_line (claims_behind claims value (cond b (Some (claimed_by (value r) r.line None)) None) rs) ≡ line_if r (find claims rs) b) [
  | true ↦ first_kept claims value (alone r.line (value r)) rs
  | false ↦ first_claimed claims value rs
]

-- a claim of another value than this one has its first line for the other
other_far : (claims : Row → Bool) (value : Row → ℕ) (c : Claim) (v : ℕ) (rs : List Row) → (c.value == v) ≡ false → other_line (claims_behind claims value (Some c) rs) v ≡ Some c.line
other_far claims value c v [] apart = cond-false (c.value == v) c.other (Some c.line) apart
other_far claims value c v (r ∷ rs) apart = elim (claims r) as (λ (b : Bool). other_line (claims_behind claims value (cond b (Some (claimed_by (value r) r.line (Some c))) (Some c)) rs) v ≡ Some c.line) [
  | true ↦
      other_far claims value (claimed_by (value r) r.line (Some c)) v rs (ap (λ (n : ℕ). n == v) (value_kept (value r) r.line c) ∙ apart)
      ∙ ap (λ (n : ℕ). Some n) (line_kept (value r) r.line c)
  | false ↦ other_far claims value c v rs apart
]

-- a claim that has another line stays as it is
other_kept : (claims : Row → Bool) (value : Row → ℕ) (c : Claim) (rs : List Row) → is_some c.other ≡ true → claims_behind claims value (Some c) rs ≡ Some c
other_kept claims value c [] has = refl
other_kept claims value c (r ∷ rs) has = elim (claims r) as (λ (b : Bool). claims_behind claims value (cond b (Some (claimed_by (value r) r.line (Some c))) (Some c)) rs ≡ Some c) [
  | true ↦
      ap (λ (d : Claim). claims_behind claims value (Some d) rs) (cond-true (c.value == value r || is_some c.other) c (with_other r.line c) (or_right (c.value == value r) (is_some c.other) has))
      ∙ other_kept claims value c rs has
  | false ↦ other_kept claims value c rs has
]

other_near : (claims : Row → Bool) (value : Row → ℕ) (line v : ℕ) (rs : List Row)
    → other_line (claims_behind claims value (Some (alone line v)) rs) v ≡ line_where (λ (o : Row). claims o && not (value o == v)) rs
other_near claims value line v [] = cond-true (v == v) None (Some line) (eq-eqb v v refl)
other_near claims value line v (r ∷ rs) =
    let test : Row → Bool = λ o. claims o && not (value o == v) in
    elim (claims r) as (λ (b : Bool). other_line (claims_behind claims value (cond b (Some (claimed_by (value r) r.line (Some (alone line v)))) (Some (alone line v))) rs) v ≡ line_if r (find test rs) (b && not (value r == v))) [
      | true ↦ elim (cases_eq (value r) v) [
        | inl same ↦
            ap (λ (d : Claim). other_line (claims_behind claims value (Some d) rs) v) (cond-true (v == value r || false) (alone line v) (with_other r.line (alone line v)) (or_left (v == value r) false (eq-eqb v (value r) (sym same))))
            ∙ other_near claims value line v rs
            ∙ sym (ap (λ (b : Bool). line_if r (find test rs) (not b)) (eq-eqb (value r) v same))
        | inr apart ↦
            ap (λ (d : Claim). other_line (claims_behind claims value (Some d) rs) v) (cond-false (v == value r || false) (alone line v) (with_other r.line (alone line v)) (or_from (v == value r) false (ne_eqb v (value r) (λ e. apart (sym e))) refl))
            ∙ ap (λ (o : Option Claim). other_line o v) (other_kept claims value (with_other r.line (alone line v)) rs refl)
            ∙ cond-true (v == v) (Some r.line) (Some line) (eq-eqb v v refl)
            ∙ sym (ap (λ (b : Bool). line_if r (find test rs) (not b)) (ne_eqb (value r) v apart))
      ]
      | false ↦ other_near claims value line v rs
    ]

-- its line of another value is that of the first row that makes it with another value
pub other_claimed : (claims : Row → Bool) (value : Row → ℕ) (rs : List Row) (v : ℕ)
    → other_line (claims_behind claims value None rs) v ≡ line_where (λ (o : Row). claims o && not (value o == v)) rs
other_claimed claims value [] v = refl
other_claimed claims value (r ∷ rs) v =
    let test : Row → Bool = λ o. claims o && not (value o == v) in
    elim (claims r) as (λ (b : Bool). other_line (claims_behind claims value (cond b (Some (claimed_by (value r) r.line None)) None) rs) v ≡ line_if r (find test rs) (b && not (value r == v))) [
      | true ↦ elim (cases_eq (value r) v) [
        | inl same ↦
            ap (λ (n : ℕ). other_line (claims_behind claims value (Some (alone r.line n)) rs) v) same
            ∙ other_near claims value r.line v rs
            ∙ sym (ap (λ (b : Bool). line_if r (find test rs) (not b)) (eq-eqb (value r) v same))
        | inr apart ↦
            other_far claims value (alone r.line (value r)) v rs (ne_eqb (value r) v apart)
            ∙ sym (ap (λ (b : Bool). line_if r (find test rs) (not b)) (ne_eqb (value r) v apart))
      ]
      | false ↦ other_claimed claims value rs v
    ]

-- ---- lines with the same written path

and_swap : (a b c : Bool) → b ≡ c → (a && b) ≡ (c && a)
and_swap true b true e = e
and_swap true b false e = e
and_swap false b true e = refl
and_swap false b false e = refl

same_path_swap : (p q : Names) → is_same_path p q ≡ is_same_path q p
same_path_swap p q = same_from_decides _ _ (path_decides p q) (Decides-like (is_same_path q p) (λ e. sym e) (λ e. sym e) (path_decides q p))

pub two_to_one_found : (rs : List Row) (r : Row)
    → two_to_one rs r ≡ option_map (TwoToOne r.line) (other_line (claims_behind (λ (o : Row). is_same_path (written o) (written r)) (λ (o : Row). o.line) None rs) r.line)
two_to_one_found rs r =
    let claims : Row → Bool = λ o. is_same_path (written o) (written r) in
    ap (option_map (TwoToOne r.line))
    (line_where_alike (λ (o : Row). not (o.line == r.line) && is_same_path (written r) (written o)) (λ (o : Row). claims o && not (o.line == r.line)) rs
    (λ o c. and_swap (not (o.line == r.line)) (is_same_path (written r) (written o)) (claims o) (same_path_swap (written r) (written o)))
    ∙ sym (other_claimed claims (λ (o : Row). o.line) rs r.line))

-- ---- the least line over paths

line_here : (test : Row → Bool) (r : Row) (rs : List Row) → test r ≡ true → line_where test (r ∷ rs) ≡ Some r.line
line_here test r rs passes = ap (line_if r (find test rs)) passes

line_later : (test : Row → Bool) (r : Row) (rs : List Row) → test r ≡ false → line_where test (r ∷ rs) ≡ line_where test rs
line_later test r rs fails = ap (line_if r (find test rs)) fails

-- no line is found before the first
line_from : (test : Row → Bool) (r : Row) (rs : List Row) → LinesRise (r ∷ rs) → (n : ℕ) → line_where test (r ∷ rs) ≡ Some n → r.line ≤ n
line_from test r rs rise n e =
    let least = (line_of_least test (r ∷ rs) n rise).0 e in
    let here : least.row.line ≡ n = least.here in
    elim (contains_cases r least.row rs least.listed) [
      | inl same ↦ let lines : r.line ≡ least.row.line = ap (λ (o : Row). o.line) same in omega arith
      | inr later ↦ let more : r.line < least.row.line = rise_first r least.row rs rise later in omega arith
    ]

lesser_left : (n : ℕ) (o : Option ℕ) → ((m : ℕ) → o ≡ Some m → n ≤ m) → lesser (Some n) o ≡ Some n
lesser_left n None low = refl
lesser_left n (Some m) low = let under : n ≤ m = low m refl in let is : min n m ≡ n = omega arith in ap (λ (k : ℕ). Some k) is

lesser_right : (n : ℕ) (o : Option ℕ) → ((m : ℕ) → o ≡ Some m → n ≤ m) → lesser o (Some n) ≡ Some n
lesser_right n None low = refl
lesser_right n (Some m) low = let under : n ≤ m = low m refl in let is : min m n ≡ n = omega arith in ap (λ (k : ℕ). Some k) is

-- the lesser of two found lines is the first that passes either test
either_line : (a b : Row → Bool) (rs : List Row) → LinesRise rs → lesser (line_where a rs) (line_where b rs) ≡ line_where (λ (o : Row). a o || b o) rs
either_line a b [] rise = refl
either_line a b (r ∷ rs) rise =
    let both : Row → Bool = λ o. a o || b o in
    elim (cases_Bool (a r)) [
      | inl here ↦
          ap (λ (o : Option ℕ). lesser o (line_where b (r ∷ rs))) (line_here a r rs here)
          ∙ lesser_left r.line (line_where b (r ∷ rs)) (line_from b r rs rise)
          ∙ sym (line_here both r rs (or_left (a r) (b r) here))
      | inr later ↦ elim (cases_Bool (b r)) [
        | inl here ↦
            ap (λ (o : Option ℕ). lesser (line_where a (r ∷ rs)) o) (line_here b r rs here)
            ∙ lesser_right r.line (line_where a (r ∷ rs)) (line_from a r rs rise)
            ∙ sym (line_here both r rs (or_right (a r) (b r) here))
        | inr after ↦
            ap (λ (o : Option ℕ). lesser o (line_where b (r ∷ rs))) (line_later a r rs later)
            ∙ ap (λ (o : Option ℕ). lesser (line_where a rs) o) (line_later b r rs after)
            ∙ either_line a b rs (rise_rest r rs rise)
            ∙ sym (line_later both r rs (or_from (a r) (b r) later after))
      ]
    ]

least_behind : (has : Names → Row → Bool) (line : Names → Option ℕ) (before : Row → Bool) (ps : List Names) (rs : List Row)
    → LinesRise rs → ((p : Names) → line p ≡ line_where (has p) rs)
    → least_line line (line_where before rs) ps ≡ line_where (λ (o : Row). before o || list_any (λ (p : Names). has p o) ps) rs
least_behind has line before [] rs rise each = line_where_alike before (λ (o : Row). before o || false) rs (λ o c. sym (or-false (before o)))
least_behind has line before (p ∷ ps) rs rise each =
    ap (λ (o : Option ℕ). least_line line (lesser (line_where before rs) o) ps) (each p)
    ∙ ap (λ (o : Option ℕ). least_line line o ps) (either_line before (has p) rs rise)
    ∙ least_behind has line (λ (o : Row). before o || has p o) ps rs rise each
    ∙ line_where_alike _ _ rs (λ o c. or_assoc (before o) (has p o) (list_any (λ (q : Names). has q o) ps))

-- the least of the lines of paths is that of the first row that passes the test of one of them
pub least_found : (has : Names → Row → Bool) (line : Names → Option ℕ) (ps : List Names) (rs : List Row)
    → LinesRise rs → ((p : Names) → line p ≡ line_where (has p) rs)
    → least_line line None ps ≡ line_where (λ (o : Row). list_any (λ (p : Names). has p o) ps) rs
least_found has line ps rs rise each =
    ap (λ (o : Option ℕ). least_line line o ps) (sym ((no_line (λ (o : Row). false) rs).1 (λ o c. refl)))
    ∙ least_behind has line (λ (o : Row). false) ps rs rise each

-- the lines themselves decide it
pub least_alike : (f g : Names → Option ℕ) (so_far : Option ℕ) (ps : List Names) → ((p : Names) → f p ≡ g p) → least_line f so_far ps ≡ least_line g so_far ps
least_alike f g so_far [] same = refl
least_alike f g so_far (p ∷ ps) same = ap (λ (o : Option ℕ). least_line f (lesser so_far o) ps) (same p) ∙ least_alike f g (lesser so_far (g p)) ps same

-- ---- lines above a path

path_listed : (u : Names) (ps : List Names) → Decides (list_any (λ (p : Names). is_same_path u p) ps) (Contains ps u)
path_listed u [] = (λ e. absurd (false≢true e), λ c. absurd (contains_none u c))
path_listed u (p ∷ ps) = (
  λ e. elim (or_cases (is_same_path u p) (list_any (λ (q : Names). is_same_path u q) ps) e) [
    | inl here ↦ subst (λ (q : Names). Contains (p ∷ ps) q) (sym ((path_decides u p).0 here)) (contains_head p ps)
    | inr later ↦ contains_tail p u ps ((path_listed u ps).0 later)
  ],
  λ c. elim (contains_cases p u ps c) [
    | inl same ↦ or_left (is_same_path u p) _ ((path_decides u p).1 (sym same))
    | inr later ↦ or_right (is_same_path u p) _ ((path_listed u ps).1 later)
  ],
)

above_listed : (u w : Names) → list_any (λ (p : Names). is_same_path u p) (ancestors w) ≡ is_above u w
above_listed u w = same_from_decides _ _ (path_listed u (ancestors w)) (Decides-like (is_above u w) (ancestors_above w u).1 (ancestors_above w u).0 (above_decides u w))

none_passes : (ps : List Names) → list_any (λ (p : Names). false) ps ≡ false
none_passes [] = refl
none_passes (p ∷ ps) = none_passes ps

moved_above : (w : Names) (source to : Option Names) → list_any (λ (p : Names). is_moved_by p source to) (ancestors w) ≡ is_mover_above w source to
moved_above w None to = none_passes (ancestors w)
moved_above w (Some s) None = none_passes (ancestors w)
moved_above w (Some s) (Some to) = above_listed s w

pub moved_parent_found : (rs : List Row) (r : Row) → LinesRise rs
    → moved_parent rs r ≡ option_map (MovedParent r.line) (least_line (λ (p : Names). line_where (λ (o : Row). is_moved_by p o.source o.to) rs) None (ancestors (written r)))
moved_parent_found rs r rise = ap (option_map (MovedParent r.line)) (sym (
    least_found (λ p o. is_moved_by p o.source o.to) (λ p. line_where (λ (o : Row). is_moved_by p o.source o.to) rs) (ancestors (written r)) rs rise (λ p. refl)
    ∙ line_where_alike _ _ rs (λ o c. moved_above (written r) o.source o.to)))

-- of the paths that pass a test one is u where one of all is, and u passes
passing_listed : (test : Names → Bool) (u : Names) (ps : List Names)
    → list_any (λ (p : Names). is_same_path u p) (filter test ps) ≡ (list_any (λ (p : Names). is_same_path u p) ps && test u)
passing_listed test u [] = refl
passing_listed test u (p ∷ ps) =
    let any : List Names → Bool = λ qs. list_any (λ (q : Names). is_same_path u q) qs in
    let later : any (filter test ps) ≡ (any ps && test u) = passing_listed test u ps in
    elim (cases_Bool (is_same_path u p)) [
      | inl same ↦
          let is : test u ≡ test p = ap test ((path_decides u p).0 same) in
          let listed : any (p ∷ ps) ≡ true = or_left (is_same_path u p) (any ps) same in
          elim (cases_Bool (test p)) [
            | inl passes ↦
                ap any (cond-true (test p) (p ∷ filter test ps) (filter test ps) passes) ∙ or_left (is_same_path u p) (any (filter test ps)) same
                ∙ sym (and_from (any (p ∷ ps)) (test u) listed (is ∙ passes))
            | inr fails ↦
                ap any (cond-false (test p) (p ∷ filter test ps) (filter test ps) fails) ∙ later
                ∙ and_right (any ps) (test u) (is ∙ fails) ∙ sym (and_right (any (p ∷ ps)) (test u) (is ∙ fails))
          ]
      | inr other ↦
          cond_both (test p) (p ∷ filter test ps) (filter test ps) (λ (qs : List Names). any qs ≡ any (filter test ps))
          (λ e. ap (λ (b : Bool). b || any (filter test ps)) other) (λ e. refl)
          ∙ later
          ∙ sym (ap (λ (b : Bool). (b || any ps) && test u) other)
    ]

pub parent_taken_found : (sight : Sight) (rs : List Row) (r : Row) → LinesRise rs
    → parent_taken sight rs r ≡ option_map (ParentTaken r.line)
    (least_line (λ (p : Names). line_where (λ (o : Row). is_same_path (written o) p) rs) None (filter (λ (p : Names). not (is_some (sight.at p))) (ancestors (written r))))
parent_taken_found sight rs r rise =
    let test : Names → Bool = λ p. not (is_some (sight.at p)) in
    ap (option_map (ParentTaken r.line)) (sym (
    least_found (λ p o. is_same_path (written o) p) (λ p. line_where (λ (o : Row). is_same_path (written o) p) rs) (filter test (ancestors (written r))) rs rise (λ p. refl)
    ∙ line_where_alike _ _ rs (λ o c.
    passing_listed test (written o) (ancestors (written r))
    ∙ ap (λ (b : Bool). b && test (written o)) (above_listed (written o) (written r)))))

-- ---- lines with a mode of one file

abbrev pub modes : Sight → List Row → ℕ → Option Claim
modes sight rs number = claims_behind (λ (o : Row). are_same (Some number) (number_at sight o.source) && is_some o.mode) (λ (o : Row). unwrap_or o.mode 0) None rs

number_swap : (m n : ℕ) → (m == n) ≡ (n == m)
number_swap m n = same_from_decides _ _ (Decides-eqb m n) (Decides-like (n == m) (λ e. sym e) (λ e. sym e) (Decides-eqb n m))

other_mode : (same : Bool) (m : ℕ) (mode : Option ℕ) → (same && differ (Some m) mode) ≡ ((same && is_some mode) && not (unwrap_or mode 0 == m))
other_mode true m None = refl
other_mode true m (Some k) = ap (λ (b : Bool). not b) (number_swap m k)
other_mode false m mode = refl

pub mode_clash_found : (sight : Sight) (rs : List Row) (r : Row) (number m : ℕ) → number_at sight r.source ≡ Some number → r.mode ≡ Some m
    → mode_clash sight rs r ≡ option_map (ModeClash r.line) (other_line (modes sight rs number) m)
mode_clash_found sight rs r number m numbered moded =
    let claims : Row → Bool = λ o. are_same (Some number) (number_at sight o.source) && is_some o.mode in
    ap (option_map (ModeClash r.line)) (
    line_where_alike _ (λ (o : Row). claims o && not (unwrap_or o.mode 0 == m)) rs (λ o c.
    ap (λ (n : Option ℕ). are_same n (number_at sight o.source) && differ r.mode o.mode) numbered
    ∙ ap (λ (k : Option ℕ). are_same (Some number) (number_at sight o.source) && differ k o.mode) moded
    ∙ other_mode (are_same (Some number) (number_at sight o.source)) m o.mode)
    ∙ sym (other_claimed claims (λ (o : Row). unwrap_or o.mode 0) rs m))

-- what is no file, or gets no mode, clashes with nothing
pub no_number_no_clash : (sight : Sight) (rs : List Row) (r : Row) → number_at sight r.source ≡ None → mode_clash sight rs r ≡ None
no_number_no_clash sight rs r none =
    ap (option_map (ModeClash r.line)) ((no_line _ rs).1 (λ o c. ap (λ (n : Option ℕ). are_same n (number_at sight o.source) && differ r.mode o.mode) none))

pub no_mode_no_clash : (sight : Sight) (rs : List Row) (r : Row) → r.mode ≡ None → mode_clash sight rs r ≡ None
no_mode_no_clash sight rs r none =
    ap (option_map (ModeClash r.line)) ((no_line _ rs).1 (λ o c. and_right (are_same (number_at sight r.source) (number_at sight o.source)) _ (ap (λ (k : Option ℕ). differ k o.mode) none)))
