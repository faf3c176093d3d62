-- What is found is the first, and of the least line where lines rise.
use Rattle.std.proofs.Common.{◌≡◌, ◌⊎◌, inl, inr, ℕ, suc, ◌<◌, Bool, true, false, List, [], ◌∷◌, ◌++◌, length, refl, sym, ◌∙◌, ap, subst, arith, Option, Some, None, Contains, option_map}
use Rattle.std.specs.List.{find}
use Rattle.std.specs.Option.{option_or}
use Rattle.std.proofs.lemmas.Bool.{cond-true, cond-false, cases_Bool, cases_order, both_ways}
use Rattle.std.proofs.lemmas.Option.{none-some, same_Some}
use Rattle.edit_words.specs.declared.row.Row.{Row}
use Rattle.edit_words.specs.declared.fault.CheckFault.{CheckFault}
use Rattle.edit_words.specs.Rows.{line_where}
use Rattle.edit_words.specs.Refusals.{first_fault}
use Rattle.edit_words.specs.WellFormed.{LinesRise}
use Rattle.edit_words.specs.Laws.{IsFirstFault, FaultOfFirst, FaultOfLeast, IsLeastLine, LineOfLeast, NoLine}
use Rattle.edit_words.proofs.FindLemmas.{contains_head, contains_tail, contains_none, contains_cases, map_none, find_none}

-- ---- rising lines

pub rise_rest : (x : Row) (xs : List Row) → LinesRise (x ∷ xs) → LinesRise xs
rise_rest x xs rise i j d less below = rise (suc i) (suc j) d (omega arith) (let more : suc j < length (x ∷ xs) = omega arith in more)

pub rise_first : (x o : Row) (xs : List Row) → LinesRise (x ∷ xs) → Contains xs o → x.line < o.line
rise_first x o xs rise (k, below, at) =
    let within : suc k < length (x ∷ xs) = omega arith in
    subst (λ (y : Row). x.line < y.line) at (rise 0 (suc k) o (omega arith) within)

-- a row of a lesser line stands before
before_it : (front back : List Row) (r o : Row) → LinesRise (front ++ r ∷ back) → Contains (front ++ r ∷ back) o → o.line < r.line → Contains front o
before_it [] back r o rise listed less = elim (contains_cases r o back listed) [
  | inl same ↦ let lines : r.line ≡ o.line = ap (λ (y : Row). y.line) same in absurd (omega arith)
  | inr later ↦ let more : r.line < o.line = rise_first r o back rise later in absurd (omega arith)
]
before_it (x ∷ front) back r o rise listed less = elim (contains_cases x o (front ++ r ∷ back) listed) [
  | inl same ↦ subst (Contains (x ∷ front)) same (contains_head x front)
  | inr later ↦ contains_tail x o front (before_it front back r o (rise_rest x (front ++ r ∷ back) rise) later less)
]

-- ---- the first fault

first_of_some : (rule : Row → Option CheckFault) (rs : List Row) (fault : CheckFault) → first_fault rule rs ≡ Some fault → IsFirstFault rule rs fault
first_of_some rule [] fault e = absurd (none-some fault e)
first_of_some rule (r ∷ rs) fault e = by_rule (rule r) refl (first_of_some rule rs fault)
  where
    by_rule : (o : Option CheckFault) → rule r ≡ o → (first_fault rule rs ≡ Some fault → IsFirstFault rule rs fault) → IsFirstFault rule (r ∷ rs) fault
    by_rule (Some f) is later = record {
      front = [];
      row = r;
      back = rs;
      is = refl;
      faulty = is ∙ sym (ap (λ (o : Option CheckFault). option_or o (first_fault rule rs)) is) ∙ e;
      before = λ o listed. absurd (contains_none o listed);
    }
    by_rule None is later =
        let more = later (sym (ap (λ (o : Option CheckFault). option_or o (first_fault rule rs)) is) ∙ e) in
        record {
          front = r ∷ more.front;
          row = more.row;
          back = more.back;
          is = ap (λ (l : List Row). r ∷ l) more.is;
          faulty = more.faulty;
          before = λ o listed. elim (contains_cases r o more.front listed) [
            | inl same ↦ ap rule (sym same) ∙ is
            | inr later ↦ more.before o later
          ];
        }

some_at : (rule : Row → Option CheckFault) (front back : List Row) (r : Row) (fault : CheckFault) → rule r ≡ Some fault → ((o : Row) → Contains front o → rule o ≡ None)
    → first_fault rule (front ++ r ∷ back) ≡ Some fault
some_at rule [] back r fault faulty before = ap (λ (o : Option CheckFault). option_or o (first_fault rule back)) faulty
some_at rule (x ∷ front) back r fault faulty before =
    ap (λ (o : Option CheckFault). option_or o (first_fault rule (front ++ r ∷ back))) (before x (contains_head x front))
    ∙ some_at rule front back r fault faulty (λ o listed. before o (contains_tail x o front listed))

pub fault_of_first : FaultOfFirst
fault_of_first rule rs fault = (first_of_some rule rs fault, λ h. ap (first_fault rule) h.is ∙ some_at rule h.front h.back h.row fault h.faulty h.before)

pub fault_of_least : FaultOfLeast
fault_of_least rule rs fault found rise o listed less =
    found.before o (before_it found.front found.back found.row o (subst LinesRise found.is rise) (subst (λ (l : List Row). Contains l o) found.is listed) less)

-- ---- the least line

find_some : (test : Row → Bool) (rs : List Row) (r : Row) → find test rs ≡ Some r → LinesRise rs → IsLeastLine test rs r.line
find_some test [] r e rise = absurd (none-some r e)
find_some test (x ∷ rs) r e rise = by_test (cases_Bool (test x)) (λ at. find_some test rs r at (rise_rest x rs rise))
  where
    by_test : (test x ≡ true) ⊎ (test x ≡ false) → (find test rs ≡ Some r → IsLeastLine test rs r.line) → IsLeastLine test (x ∷ rs) r.line
    by_test (inl passes) later =
        let same : x ≡ r = same_Some x r (sym (cond-true (test x) (Some x) (find test rs) passes) ∙ e) in
        let lines : x.line ≡ r.line = ap (λ (y : Row). y.line) same in
        record {
          row = x;
          listed = contains_head x rs;
          passes = passes;
          here = lines;
          least = λ o listed less. elim (contains_cases x o rs listed) [
            | inl first ↦ let equal : x.line ≡ o.line = ap (λ (y : Row). y.line) first in absurd (omega arith)
            | inr after ↦ let more : x.line < o.line = rise_first x o rs rise after in absurd (omega arith)
          ];
        }
    by_test (inr fails) later =
        let more = later (sym (cond-false (test x) (Some x) (find test rs) fails) ∙ e) in
        record {
          row = more.row;
          listed = contains_tail x more.row rs more.listed;
          passes = more.passes;
          here = more.here;
          least = λ o listed less. elim (contains_cases x o rs listed) [
            | inl first ↦ ap test (sym first) ∙ fails
            | inr after ↦ more.least o after less
          ];
        }

pub no_line : NoLine
no_line test rs = (
  λ e. (find_none test rs).0 ((map_none (λ (r : Row). r.line) (find test rs)).0 e),
  λ all. (map_none (λ (r : Row). r.line) (find test rs)).1 ((find_none test rs).1 all),
)

-- one line at most is the least
one_least : (test : Row → Bool) (rs : List Row) (m n : ℕ) → IsLeastLine test rs m → IsLeastLine test rs n → m ≡ n
one_least test rs m n a b = elim (cases_order m n) [
  | inl same ↦ same
  | inr apart ↦ elim apart [
    | inl less ↦ let under : a.row.line < n = subst (λ (k : ℕ). k < n) (sym a.here) less in absurd (both_ways (test a.row) (b.least a.row a.listed under) a.passes)
    | inr less ↦ let under : b.row.line < m = subst (λ (k : ℕ). k < m) (sym b.here) less in absurd (both_ways (test b.row) (a.least b.row b.listed under) b.passes)
  ]
]

pub line_of_least : LineOfLeast
line_of_least test rs line rise = (λ e. there (find test rs) refl e, λ least. back (find test rs) refl least)
  where
    there : (o : Option Row) → find test rs ≡ o → option_map (λ (r : Row). r.line) o ≡ Some line → IsLeastLine test rs line
    there None is e = absurd (none-some line e)
    there (Some r) is e = subst (IsLeastLine test rs) (same_Some r.line line e) (find_some test rs r is rise)

    back : (o : Option Row) → find test rs ≡ o → IsLeastLine test rs line → line_where test rs ≡ Some line
    back None is least = absurd (both_ways (test least.row) ((find_none test rs).0 is least.row least.listed) least.passes)
    back (Some r) is least = ap (option_map (λ (r : Row). r.line)) is ∙ ap (λ (n : ℕ). Some n) (one_least test rs r.line line (find_some test rs r is rise) least)
