-- What one move more leaves of a run of moves.
use Rattle.std.proofs.Common.{◌≡◌, ◌⊎◌, inl, inr, ℕ, zero, suc, ◌==◌, ◌+◌, ◌<◌, ◌≤◌, Bool, true, false, List, [], ◌∷◌, ◌++◌, refl, sym, ◌∙◌, ap, subst, arith, append_assoc, Option, Some, None}
use Rattle.std.proofs.Math.ListN.{set}
use Rattle.std.specs.List.{slice_get}
use Rattle.std.proofs.lemmas.List.{append-nil}
use Rattle.std.proofs.lemmas.Option.{same_Some}
use Rattle.dired_text.specs.Paths.{Names}
use Rattle.commit_steps.specs.declared.step.Step.{Step}
use Rattle.commit_steps.specs.declared.step.Step.TheVariants.{Rename}
use Rattle.commit_steps.specs.Staging.{staged, temporary}
use Rattle.edit_words.specs.declared.row.Row.{Row}
use Rattle.edit_words.specs.Rows.{written}
use Rattle.plan_moves.specs.Waiting.{Waiting, deepest, is_ready, NoneReady, put_away, waiting, without}
use Rattle.plan_moves.specs.Moves.{Moves, Spots, fresh_spots, spot_of, with_spot}
use Rattle.plan_moves.specs.Moves.Moves.{carry, knot, over}
use Rattle.commit_plan.specs.declared.changes.Stand.{Stand}
use Rattle.commit_plan.specs.declared.changes.Stand.TheVariants.{Left, Waits}
use Rattle.commit_plan.specs.declared.changes.Change.{Change}
use Rattle.commit_plan.specs.Stands.{AreSpelled, HasLine, LinesApart, IsBest, IsCarried, IsPutAway, IsSpelledAt, Moved, change, is_ready_at, is_ready_in, turns, turns_by, waits_of}
use Rattle.commit_plan.proofs.ChangeLemmas.{other_line, same_line, waits, waits_away, waits_left}
use Rattle.commit_plan.proofs.ReadyLemmas.{spelled_at, spelled_to}

-- ---- lists with one change set

pub spelled_set : (cs : List Change) (i : ℕ) (r : Row) (s : Stand) → AreSpelled cs → IsSpelledAt r s → AreSpelled (set cs i (change r s))
spelled_set [] i r s a b = tt
spelled_set (c ∷ cs) zero r s a b = (b, a.1)
spelled_set (c ∷ cs) (suc i) r s a b = (a.0, spelled_set cs i r s a.1 b)

line_set : (line : ℕ) (cs : List Change) (i : ℕ) (c : Change) (s : Stand) → HasLine line cs → slice_get cs i ≡ Some c → HasLine line (set cs i (change c.row s))
line_set line [] i c s h e = h
line_set line (d ∷ cs) zero c s h e = go
  where
    go : HasLine line (change c.row s ∷ cs)
    go zero x f l = h zero c e (ap (λ (y : Change). y.row.line) (same_Some _ _ f) ∙ l)
    go (suc k) x f l = h (suc k) x f l
line_set line (d ∷ cs) (suc i) c s h e = go (line_set line cs i c s (λ k x. h (suc k) x) e)
  where
    go : HasLine line (set cs i (change c.row s)) → HasLine line (d ∷ set cs i (change c.row s))
    go m zero x f l = h zero x f l
    go m (suc k) x f l = m k x f l

pub apart_set : (cs : List Change) (i : ℕ) (c : Change) (s : Stand) → LinesApart cs → slice_get cs i ≡ Some c → LinesApart (set cs i (change c.row s))
apart_set [] i c s a e = tt
apart_set (d ∷ cs) zero c s a e = (subst (λ (x : Change). HasLine x.row.line cs) (same_Some _ _ e) a.0, a.1)
apart_set (d ∷ cs) (suc i) c s a e = (line_set d.row.line cs i c s a.0 e, apart_set cs i c s a.1 e)

pub turns_set : (cs : List Change) (i : ℕ) (c : Change) (s : Stand) → slice_get cs i ≡ Some c → turns (set cs i (change c.row s)) + turns_by c.stand ≡ turns cs + turns_by s
turns_set [] i c s e = cc
turns_set (d ∷ cs) zero c s e = let f : turns_by d.stand ≡ turns_by c.stand = ap (λ (x : Change). turns_by x.stand) (same_Some _ _ e) in omega (arith, f)
turns_set (d ∷ cs) (suc i) c s e = omega (arith, turns_set cs i c s e)

-- the others stand as they did
pub get_set : (cs : List Change) (i k : ℕ) (c d : Change) → slice_get (set cs i d) k ≡ Some c → (d ≡ c) × (i ≡ k) ⊎ (slice_get cs k ≡ Some c)
get_set [] i k c d e = inr e
get_set (x ∷ cs) zero zero c d e = inl (same_Some _ _ e, refl)
get_set (x ∷ cs) zero (suc k) c d e = inr e
get_set (x ∷ cs) (suc i) zero c d e = inr e
get_set (x ∷ cs) (suc i) (suc k) c d e = elim (get_set cs i k c d e) [ inl p ↦ inl (p.0, ap suc p.1) | inr q ↦ inr q ]

abbrev pub at_of : Stand → Names
at_of Left = []
at_of (Waits away at to) = at

abbrev pub to_of : Stand → Names
to_of Left = []
to_of (Waits away at to) = to

-- changes of one line are one
pub same_change : (cs : List Change) (i k : ℕ) (c d : Change) → LinesApart cs → slice_get cs i ≡ Some c → slice_get cs k ≡ Some d → c.row.line ≡ d.row.line → c ≡ d
same_change [] i k c d a e f l = cc
same_change (x ∷ cs) zero zero c d a e f l = sym (same_Some _ _ e) ∙ same_Some _ _ f
same_change (x ∷ cs) zero (suc k) c d a e f l = absurd (a.0 k d f (sym l ∙ sym (ap (λ (y : Change). y.row.line) (same_Some _ _ e))))
same_change (x ∷ cs) (suc i) zero c d a e f l = absurd (a.0 i c e (l ∙ sym (ap (λ (y : Change). y.row.line) (same_Some _ _ f))))
same_change (x ∷ cs) (suc i) (suc k) c d a e f l = same_change cs i k c d a.1 e f l

-- ---- one move more

spot_is : (spots : Spots) (r : Row) (away : Bool) (at to : Names) → IsSpelledAt r (Waits away at to) → (away ≡ true → spots r.line ≡ at) → spot_of spots (record { row = r; is_away = away }) ≡ at
spot_is spots r true at to s h = h refl
spot_is spots r false at to s h = rw s.1 refl

pub moved_carried : (rs : List Row) (n : ℕ) (cs : List Change) (steps : List Step) (i : ℕ) (new : List Change) (step : Step) → AreSpelled cs → LinesApart cs → is_ready_at cs i ≡ true
    → IsCarried cs i new step → Moved rs n cs steps → Moved rs n new (steps ++ step ∷ [])
moved_carried rs n cs steps i new step spelled apart ready by m =
    let r = by.row in
    let w : Waiting = record { row = r; is_away = by.away } in
    let sp = spelled_at cs i (change r (Waits by.away by.at by.to)) spelled by.was in
    let to : by.to ≡ written r = spelled_to r by.away by.at by.to sp in
    let ok : is_ready (waits_of cs) w ≡ true = subst (λ (o : Option Change). is_ready_in (waits_of cs) o ≡ true) by.was ready in
    let at : spot_of m.spots w ≡ by.at = spot_is m.spots r by.away by.at by.to sp (λ (e : by.away ≡ true). m.stand i r by.at by.to (by.was ∙ ap (λ (b : Bool). Some (change r (Waits b by.at by.to))) e)) in
    let left : waits_of new ≡ without w (waits_of cs) = ap waits_of by.now ∙ waits_left cs i r by.away by.at by.to apart by.was in
    record {
      spots = m.spots;
      stand = λ k o at2 to2 e. elim (get_set cs i k (change o (Waits true at2 to2)) (change r Left) (subst (λ (l : List Change). slice_get l k ≡ Some (change o (Waits true at2 to2))) by.now e)) [
        | inl p ↦ let z : Left ≡ Waits true at2 to2 = ap (λ (c : Change). c.stand) p.0 in cc
        | inr q ↦ m.stand k o at2 to2 q
      ];
      rest = λ more run.
          let one : Moves n m.spots (waits_of cs) (Rename (spot_of m.spots w) (written r) ∷ more) =
          carry n m.spots (waits_of cs) w more (waits cs i r by.away by.at by.to by.was) ok (subst (λ (ws : List Waiting). Moves n m.spots ws more) left run) in
          let two : Moves n m.spots (waits_of cs) (step ∷ more) = subst (λ (s : Step). Moves n m.spots (waits_of cs) (s ∷ more)) (ap (λ (p : Names). Rename p (written r)) at ∙ (ap (λ (p : Names). Rename by.at p) (sym to) ∙ sym by.by)) one in
          subst (λ (l : List Step). Moves 0 (fresh_spots 0 rs) (waiting rs) l) (sym (append_assoc steps (step ∷ []) more)) (m.rest (step ∷ more) two);
    }

pub moved_away : (rs : List Row) (n : ℕ) (cs : List Change) (steps : List Step) (i : ℕ) (new : List Change) (step : Step) → AreSpelled cs → LinesApart cs → NoneReady (waits_of cs)
    → (by : IsPutAway cs i (staged (temporary n)) new step) → deepest (waits_of cs) ≡ Some (record { row = by.row; is_away = false })
    → Moved rs n cs steps → Moved rs (n + 1) new (steps ++ step ∷ [])
moved_away rs n cs steps i new step spelled apart none by deep m =
    let r = by.row in
    let spot = staged (temporary n) in
    let w : Waiting = record { row = r; is_away = false } in
    let sp = spelled_at cs i (change r (Waits false by.at by.to)) spelled by.was in
    let at : spot_of m.spots w ≡ by.at = spot_is m.spots r false by.at by.to sp (λ (e : false ≡ true). cc) in
    let left : waits_of new ≡ put_away w (waits_of cs) = ap waits_of by.now ∙ waits_away cs i r by.at by.to spot apart by.was in
    record {
      spots = with_spot m.spots r.line spot;
      stand = λ k o at2 to2 e. by_line k o at2 to2 (elim (get_set cs i k (change o (Waits true at2 to2)) (change r (Waits true spot by.to)) (subst (λ (l : List Change). slice_get l k ≡ Some (change o (Waits true at2 to2))) by.now e)) [
        | inl p ↦ inl p.0
        | inr q ↦ inr q
      ]);
      rest = λ more run.
          let one : Moves n m.spots (waits_of cs) (Rename (spot_of m.spots w) spot ∷ more) =
          knot n m.spots (waits_of cs) w more none deep (subst (λ (ws : List Waiting). Moves (n + 1) (with_spot m.spots r.line spot) ws more) left run) in
          let two : Moves n m.spots (waits_of cs) (step ∷ more) = subst (λ (s : Step). Moves n m.spots (waits_of cs) (s ∷ more)) (ap (λ (p : Names). Rename p spot) at ∙ sym by.by) one in
          subst (λ (l : List Step). Moves 0 (fresh_spots 0 rs) (waiting rs) l) (sym (append_assoc steps (step ∷ []) more)) (m.rest (step ∷ more) two);
    }
  where
    by_line : (k : ℕ) (o : Row) (at2 to2 : Names) → (change by.row (Waits true (staged (temporary n)) by.to) ≡ change o (Waits true at2 to2)) ⊎ (slice_get cs k ≡ Some (change o (Waits true at2 to2)))
        → with_spot m.spots by.row.line (staged (temporary n)) o.line ≡ at2
    by_line k o at2 to2 (inl p) =
        let l : by.row.line ≡ o.line = ap (λ (c : Change). c.row.line) p in
        let a : staged (temporary n) ≡ at2 = ap (λ (c : Change). at_of c.stand) p in
        subst (λ (x : ℕ). with_spot m.spots by.row.line (staged (temporary n)) x ≡ at2) l (rw (same_line by.row.line) a)
    by_line k o at2 to2 (inr q) =
        let other : (o.line == by.row.line) ≡ false = other_line o.line by.row.line (λ (z : o.line ≡ by.row.line).
        let same : change o (Waits true at2 to2) ≡ change by.row (Waits false by.at by.to) = same_change cs k i _ _ apart q by.was z in
        let stands : Waits true at2 to2 ≡ Waits false by.at by.to = ap (λ (c : Change). c.stand) same in
        cc) in
        rw other (m.stand k o at2 to2 q)

-- ---- the changes after a move

pub spelled_carried : (cs : List Change) (i : ℕ) (new : List Change) (step : Step) → AreSpelled cs → IsCarried cs i new step → AreSpelled new
spelled_carried cs i new step a by = subst (λ (l : List Change). AreSpelled l) (sym by.now) (spelled_set cs i by.row Left a tt)

pub apart_carried : (cs : List Change) (i : ℕ) (new : List Change) (step : Step) → LinesApart cs → IsCarried cs i new step → LinesApart new
apart_carried cs i new step a by = subst (λ (l : List Change). LinesApart l) (sym by.now) (apart_set cs i (change by.row (Waits by.away by.at by.to)) Left a by.was)

some_turns : (away : Bool) (at to : Names) → 1 ≤ turns_by (Waits away at to)
some_turns true at to = omega arith
some_turns false at to = omega arith

pub turns_carried : (cs : List Change) (i : ℕ) (new : List Change) (step : Step) → IsCarried cs i new step → turns new < turns cs
turns_carried cs i new step by =
    let e : turns new ≡ turns (set cs i (change by.row Left)) = ap turns by.now in
    omega (arith, e, turns_set cs i (change by.row (Waits by.away by.at by.to)) Left by.was, some_turns by.away by.at by.to)

module _ (cs : List Change) (i : ℕ) (spot : Names) (new : List Change) (step : Step) where
  pub spelled_away : AreSpelled cs → IsPutAway cs i spot new step → AreSpelled new
  spelled_away a by =
      let to = (spelled_at cs i (change by.row (Waits false by.at by.to)) a by.was).0 in
      subst (λ (l : List Change). AreSpelled l) (sym by.now) (spelled_set cs i by.row (Waits true spot by.to) a to)

  pub apart_away : LinesApart cs → IsPutAway cs i spot new step → LinesApart new
  apart_away a by = subst (λ (l : List Change). LinesApart l) (sym by.now) (apart_set cs i (change by.row (Waits false by.at by.to)) (Waits true spot by.to) a by.was)

  pub turns_away : IsPutAway cs i spot new step → turns new + 1 ≡ turns cs
  turns_away by =
      let e : turns new ≡ turns (set cs i (change by.row (Waits true spot by.to))) = ap turns by.now in
      omega (arith, e, turns_set cs i (change by.row (Waits false by.at by.to)) (Waits true spot by.to) by.was)

pub moved_best : (rs : List Row) (n : ℕ) (cs : List Change) (steps : List Step) (i : ℕ) (new : List Change) (step : Step) → AreSpelled cs → LinesApart cs → NoneReady (waits_of cs)
    → IsPutAway cs i (staged (temporary n)) new step → IsBest cs cs i → Moved rs n cs steps → Moved rs (n + 1) new (steps ++ step ∷ [])
moved_best rs n cs steps i new step spelled apart none by best m =
    let same : change best.row (Waits false best.at best.to) ≡ change by.row (Waits false by.at by.to) = same_Some _ _ (sym best.is ∙ by.was) in
    let deep : deepest (waits_of cs) ≡ Some (record { row = by.row; is_away = false }) = best.best ∙ ap (λ (c : Change). Some (record { row = c.row; is_away = false })) same in
    moved_away rs n cs steps i new step spelled apart none by deep m

-- no move is left
pub moved_all : (rs : List Row) (n : ℕ) (cs : List Change) (steps : List Step) → NoneReady (waits_of cs) → deepest (waits_of cs) ≡ None → Moved rs n cs steps → Moves 0 (fresh_spots 0 rs) (waiting rs) steps
moved_all rs n cs steps none deep m =
    subst (λ (l : List Step). Moves 0 (fresh_spots 0 rs) (waiting rs) l) (append-nil steps) (m.rest [] (over n m.spots (waits_of cs) none deep))
