-- Which changes are ready.
use Rattle.std.proofs.Common.{◌≡◌, ℕ, zero, suc, ◌<◌, Bool, true, false, not, ◌&&◌, ◌||◌, List, [], ◌∷◌, length, refl, ap, subst, Option, Some}
use Rattle.std.specs.List.{list_any, slice_get}
use Rattle.std.proofs.lemmas.Option.{same_Some, slice_get_within}
use Rattle.dired_text.specs.Paths.{Names}
use Rattle.edit_words.specs.declared.row.Row.{Row}
use Rattle.edit_words.specs.Rows.{is_at, written}
use Rattle.plan_moves.specs.Waiting.{Waiting, keeps_in_place, NoneReady}
use Rattle.commit_plan.specs.declared.changes.Stand.{Stand}
use Rattle.commit_plan.specs.declared.changes.Stand.TheVariants.{Left, Waits}
use Rattle.commit_plan.specs.declared.changes.Change.{Change}
use Rattle.commit_plan.specs.Stands.{AreSpelled, IsSpelledAt, change, is_ready_at, is_ready_in, is_source_now, keeps_now, wait_by, waits_of}
use Rattle.commit_plan.proofs.ChangeLemmas.{who_waits}

-- what holds of one that waits holds of one of the changes
pub any_source : (p : Names) (cs : List Change) → list_any (is_source_now p) cs ≡ list_any (λ (v : Waiting). not v.is_away && is_at p v.row.source) (waits_of cs)
any_source p [] = refl
any_source p (c ∷ cs) = go c.stand (any_source p cs)
  where
    go : (s : Stand) → list_any (is_source_now p) cs ≡ list_any (λ (v : Waiting). not v.is_away && is_at p v.row.source) (waits_of cs)
        → list_any (is_source_now p) (change c.row s ∷ cs) ≡ list_any (λ (v : Waiting). not v.is_away && is_at p v.row.source) (wait_by c.row s (waits_of cs))
    go Left e = e
    go (Waits away at to) e = ap (λ (b : Bool). (not away && is_at p c.row.source) || b) e

pub any_keeper : (s : Names) (cs : List Change) → list_any (keeps_now s) cs ≡ list_any (keeps_in_place s) (waits_of cs)
any_keeper s [] = refl
any_keeper s (c ∷ cs) = go c.stand (any_keeper s cs)
  where
    go : (t : Stand) → list_any (keeps_now s) cs ≡ list_any (keeps_in_place s) (waits_of cs) → list_any (keeps_now s) (change c.row t ∷ cs) ≡ list_any (keeps_in_place s) (wait_by c.row t (waits_of cs))
    go Left e = e
    go (Waits away at to) e = ap (λ (b : Bool). keeps_in_place s (record { row = c.row; is_away = away }) || b) e

pub spelled_at : (cs : List Change) (i : ℕ) (c : Change) → AreSpelled cs → slice_get cs i ≡ Some c → IsSpelledAt c.row c.stand
spelled_at [] i c a e = cc
spelled_at (d ∷ cs) zero c a e = subst (λ (x : Change). IsSpelledAt x.row x.stand) (same_Some _ _ e) a.0
spelled_at (d ∷ cs) (suc i) c a e = spelled_at cs i c a.1 e

pub spelled_to : (r : Row) (away : Bool) (at to : Names) → IsSpelledAt r (Waits away at to) → to ≡ written r
spelled_to r true at to s = s
spelled_to r false at to s = s.0

-- where no change is ready none that waits is
pub none_ready : (cs : List Change) → ((k : ℕ) → k < length cs → is_ready_at cs k ≡ false) → NoneReady (waits_of cs)
none_ready cs h w k =
    let m = who_waits cs w k in
    let e : is_ready_at cs m.0 ≡ false = h m.0 (slice_get_within cs m.0 _ m.3) in
    subst (λ (o : Option Change). is_ready_in (waits_of cs) o ≡ false) m.3 e
