-- What waits at first, and where.
use Rattle.std.proofs.Common.{◌≡◌, ◌⊎◌, inl, inr, ℕ, zero, suc, ◌+◌, ◌*◌, ◌≤◌, Bool, true, false, if◌then◌else◌, not, ◌||◌, List, [], ◌∷◌, length, get_or, refl, sym, ◌∙◌, ap, subst, arith, Option, Some, None, is_some}
use Rattle.std.specs.List.{slice_get}
use Rattle.std.specs.Option.{option_map}
use Rattle.std.specs.Prelude.{codes}
use Rattle.std.proofs.lemmas.Bool.{cases_Bool}
use Rattle.std.proofs.lemmas.Option.{get_or_from_slice_get, same_Some, slice_get_within}
use Rattle.dired_text.specs.Paths.{Names}
use Rattle.commit_steps.specs.Staging.{staged, fresh_name, numbered}
use Rattle.edit_words.specs.declared.row.Row.{Row}
use Rattle.edit_words.specs.Edited.{is_fresh}
use Rattle.edit_words.specs.Rows.{written}
use Rattle.edit_words.specs.WellFormed.{LinesRise}
use Rattle.plan_moves.specs.Waiting.{Waiting, waiting}
use Rattle.plan_moves.specs.Moves.{Moves, fresh_spots}
use Rattle.commit_plan.specs.declared.changes.Stand.{Stand}
use Rattle.commit_plan.specs.declared.changes.Stand.TheVariants.{Left, Waits}
use Rattle.commit_plan.specs.declared.changes.Change.{Change}
use Rattle.commit_plan.specs.Stands.{AreSpelled, LinesApart, IsSpelledAt, Moved, change, first_changes, first_stand, first_stand_by, turns, turns_by, wait_by, waits_of}
use Rattle.commit_plan.proofs.MovedLemmas.{at_of}
use Rattle.commit_plan.proofs.ChangeLemmas.{other_line, same_line}

-- ---- one row

module _ (n : ℕ) (r : Row) where
  fresh_stands : is_fresh r ≡ true → first_stand n r ≡ Waits true (staged (numbered (codes "f") n)) (written r)
  fresh_stands f = rw f refl

  stands_by : is_fresh r ≡ false → first_stand n r ≡ first_stand_by n r r.source r.to
  stands_by f = rw f refl

has_source : (r : Row) → is_fresh r ≡ false → is_some r.source ≡ true
has_source r f = go r.retargets (is_some r.source) f
  where
    go : (a b : Bool) → (a || not b) ≡ false → b ≡ true
    go true b e = cc
    go false true e = refl
    go false false e = cc

spelled_by : (n : ℕ) (r : Row) (source to : Option Names) → r.source ≡ source → r.to ≡ to → IsSpelledAt r (first_stand_by n r source to)
spelled_by n r None to e f = tt
spelled_by n r (Some s) None e f = tt
spelled_by n r (Some s) (Some w) e f = (rw (e, f) refl, e)

pub spelled_first : (n : ℕ) (r : Row) → IsSpelledAt r (first_stand n r)
spelled_first n r = elim (cases_Bool (is_fresh r)) [
  | inl f ↦ subst (λ (s : Stand). IsSpelledAt r s) (sym (fresh_stands n r f)) refl
  | inr f ↦ subst (λ (s : Stand). IsSpelledAt r s) (sym (stands_by n r f)) (spelled_by n r r.source r.to refl refl)
]

pub all_spelled : (n : ℕ) (rs : List Row) → AreSpelled (first_changes n rs)
all_spelled n [] = tt
all_spelled n (r ∷ rs) = (spelled_first n r, all_spelled (if is_fresh r then n + 1 else n) rs)

few_by : (s : Stand) → turns_by s ≤ 2
few_by Left = omega arith
few_by (Waits true at to) = omega arith
few_by (Waits false at to) = omega arith

pub few_turns : (n : ℕ) (rs : List Row) → turns (first_changes n rs) ≤ 2 * length rs
few_turns n [] = omega arith
few_turns n (r ∷ rs) = omega (arith, few_by (first_stand n r), few_turns (if is_fresh r then n + 1 else n) rs)

-- ---- what waits

waits_by : (n : ℕ) (r : Row) (source to : Option Names) (ws : List Waiting) → is_some source ≡ true → wait_by r (first_stand_by n r source to) ws ≡ (if is_some to then (record { row = r; is_away = false }) ∷ ws else ws)
waits_by n r None to ws e = cc
waits_by n r (Some s) None ws e = refl
waits_by n r (Some s) (Some w) ws e = refl

pub waits_first : (n : ℕ) (rs : List Row) → waits_of (first_changes n rs) ≡ waiting rs
waits_first n [] = refl
waits_first n (r ∷ rs) = go (cases_Bool (is_fresh r)) (waits_first (if is_fresh r then n + 1 else n) rs)
  where
    go : (is_fresh r ≡ true) ⊎ (is_fresh r ≡ false) → waits_of (first_changes (if is_fresh r then n + 1 else n) rs) ≡ waiting rs → waits_of (first_changes n (r ∷ rs)) ≡ waiting (r ∷ rs)
    go (inl f) e = ap (λ (s : Stand). wait_by r s (waits_of (first_changes (if is_fresh r then n + 1 else n) rs))) (fresh_stands n r f)
        ∙ (ap (λ (ws : List Waiting). (record { row = r; is_away = true }) ∷ ws) e ∙ rw f refl)
    go (inr f) e = ap (λ (s : Stand). wait_by r s (waits_of (first_changes (if is_fresh r then n + 1 else n) rs))) (stands_by n r f)
        ∙ (waits_by n r r.source r.to _ (has_source r f) ∙ (ap (λ (ws : List Waiting). if is_some r.to then (record { row = r; is_away = false }) ∷ ws else ws) e ∙ rw f refl))

-- ---- where

away_by : (n : ℕ) (r : Row) (source to : Option Names) (at w : Names) → first_stand_by n r source to ≡ Waits true at w → ⊥
away_by n r None to at w e = cc
away_by n r (Some s) None at w e = cc
away_by n r (Some s) (Some v) at w e = cc

abbrev next_fresh : ℕ → Row → ℕ
next_fresh n r = if is_fresh r then n + 1 else n

spots_first : (n : ℕ) (r : Row) (rs : List Row) (at to : Names) → first_stand n r ≡ Waits true at to → fresh_spots n (r ∷ rs) r.line ≡ at
unfolding fresh_name
spots_first n r rs at to e = go (cases_Bool (is_fresh r))
  where
    go : (is_fresh r ≡ true) ⊎ (is_fresh r ≡ false) → fresh_spots n (r ∷ rs) r.line ≡ at
    go (inl f) = let a : staged (numbered (codes "f") n) ≡ at = ap at_of (sym (fresh_stands n r f) ∙ e) in rw (f, same_line r.line) a
    go (inr f) = absurd (away_by n r r.source r.to at to (sym (stands_by n r f) ∙ e))

spots_more : (n : ℕ) (r : Row) (rs : List Row) (line : ℕ) → (r.line ≡ line → ⊥) → fresh_spots n (r ∷ rs) line ≡ fresh_spots (next_fresh n r) rs line
spots_more n r rs line h = go (cases_Bool (is_fresh r))
  where
    go : (is_fresh r ≡ true) ⊎ (is_fresh r ≡ false) → fresh_spots n (r ∷ rs) line ≡ fresh_spots (next_fresh n r) rs line
    go (inl f) = rw (f, other_line r.line line h) refl
    go (inr f) = rw f refl

pub spots_at : (n : ℕ) (rs : List Row) (i : ℕ) (o : Row) (at to : Names) → LinesApart (first_changes n rs) → slice_get (first_changes n rs) i ≡ Some (change o (Waits true at to)) → fresh_spots n rs o.line ≡ at
spots_at n [] i o at to a e = cc
spots_at n (r ∷ rs) zero o at to a e =
    let same : change r (first_stand n r) ≡ change o (Waits true at to) = same_Some _ _ e in
    let row : r ≡ o = ap (λ (c : Change). c.row) same in
    subst (λ (x : Row). fresh_spots n (r ∷ rs) x.line ≡ at) row (spots_first n r rs at to (ap (λ (c : Change). c.stand) same))
spots_at n (r ∷ rs) (suc i) o at to a e =
    spots_more n r rs o.line (λ (z : r.line ≡ o.line). a.0 i (change o (Waits true at to)) e (sym z)) ∙ spots_at (next_fresh n r) rs i o at to a.1 e

-- ---- the lines

pub row_at : (n : ℕ) (rs : List Row) (i : ℕ) (c : Change) → slice_get (first_changes n rs) i ≡ Some c → slice_get rs i ≡ Some c.row
row_at n [] i c e = cc
row_at n (r ∷ rs) zero c e = ap (λ (o : Option Change). option_map (λ (x : Change). x.row) o) e
row_at n (r ∷ rs) (suc i) c e = row_at (next_fresh n r) rs i c e

-- a later row has another line
pub rises : (r : Row) (rs : List Row) → LinesRise (r ∷ rs) → (k : ℕ) (o : Row) → slice_get rs k ≡ Some o → o.line ≡ r.line → ⊥
rises r rs h k o e same =
    let less = h zero (suc k) r (omega arith) (let w = slice_get_within rs k o e in omega arith) in
    let is : get_or rs k r ≡ o = get_or_from_slice_get rs k o r e in
    let line : (get_or rs k r).line ≡ o.line = ap (λ (x : Row). x.line) is in
    omega (arith, less, line, same)

pub rise_tail : (r : Row) (rs : List Row) → LinesRise (r ∷ rs) → LinesRise rs
rise_tail r rs h = λ i j d below within. h (suc i) (suc j) d (omega arith) (omega arith)

pub lines_apart : (n : ℕ) (rs : List Row) → LinesRise rs → LinesApart (first_changes n rs)
lines_apart n [] h = tt
lines_apart n (r ∷ rs) h = (
  (λ k c e same. rises r rs h k c.row (row_at (next_fresh n r) rs k c e) same),
  lines_apart (next_fresh n r) rs (rise_tail r rs h),
)

pub moved_first : (rs : List Row) → LinesRise rs → Moved rs 0 (first_changes 0 rs) []
moved_first rs h = record {
  spots = fresh_spots 0 rs;
  stand = λ i r at to e. spots_at 0 rs i r at to (lines_apart 0 rs h) e;
  rest = λ more run. subst (λ (ws : List Waiting). Moves 0 (fresh_spots 0 rs) ws more) (waits_first 0 rs) run;
}
