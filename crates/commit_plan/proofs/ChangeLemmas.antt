-- Lists of changes, and those of them that wait.
use Rattle.std.proofs.Common.{◌≡◌, ◌⊎◌, inl, inr, ℕ, zero, suc, ◌==◌, ◌<◌, Bool, true, false, if◌then◌else◌, not, List, [], ◌∷◌, map, filter, refl, sym, ap, subst, arith, Contains, Some}
use Rattle.std.proofs.Math.ListN.{set}
use Rattle.std.specs.List.{slice_get}
use Rattle.std.proofs.lemmas.Option.{same_Some}
use Rattle.std.proofs.lemmas.Bool.Decides.{eqb_tells}
use Rattle.std.proofs.lemmas.List.Elements.{Contains-append_right, Contains-append_left, Contains-push, Contains-append_cases, Contains-push_cases}
use Rattle.dired_text.specs.Paths.{Names}
use Rattle.edit_words.specs.declared.row.Row.{Row}
use Rattle.plan_moves.specs.Waiting.{Waiting, put_away, without}
use Rattle.commit_plan.specs.declared.changes.Stand.{Stand}
use Rattle.commit_plan.specs.declared.changes.Stand.TheVariants.{Left, Waits}
use Rattle.commit_plan.specs.declared.changes.Change.{Change}
use Rattle.commit_plan.specs.Stands.{HasLine, LinesApart, change, wait_by, waits_of}

module _ {X : Type 0} where
  pub contains_head : (x : X) (xs : List X) → Contains (x ∷ xs) x
  contains_head x xs = Contains-append_left (x ∷ []) xs x (Contains-push [] x)

  pub contains_tail : (x y : X) (xs : List X) → Contains xs y → Contains (x ∷ xs) y
  contains_tail x y xs c = Contains-append_right (x ∷ []) xs y c

  pub contains_none : (y : X) → Contains [] y → ⊥
  contains_none y c = let below : c.0 < 0 = c.1 in omega arith

  pub contains_cases : (x y : X) (xs : List X) → Contains (x ∷ xs) y → (x ≡ y) ⊎ Contains xs y
  contains_cases x y xs c = elim (Contains-append_cases (x ∷ []) xs y c) [
    | inl one ↦ elim (Contains-push_cases [] x y one) [ inl no_one ↦ absurd (contains_none y no_one) | inr same ↦ inl same ]
    | inr more ↦ inr more
  ]

pub other_line : (a b : ℕ) → (a ≡ b → ⊥) → (a == b) ≡ false
other_line a b n = elim (eqb_tells a b) [ inl p ↦ absurd (n p.1) | inr p ↦ p.0 ]

pub same_line : (a : ℕ) → (a == a) ≡ true
same_line a = elim (eqb_tells a a) [ inl p ↦ p.0 | inr p ↦ absurd (p.1 refl) ]

-- ---- a change that leaves

unfiltered : (line : ℕ) (cs : List Change) → HasLine line cs → filter (λ (v : Waiting). not (v.row.line == line)) (waits_of cs) ≡ waits_of cs
unfiltered line [] h = refl
unfiltered line (c ∷ cs) h = go c.stand (unfiltered line cs (λ k d. h (suc k) d))
  where
    go : (s : Stand) → filter (λ (v : Waiting). not (v.row.line == line)) (waits_of cs) ≡ waits_of cs
        → filter (λ (v : Waiting). not (v.row.line == line)) (wait_by c.row s (waits_of cs)) ≡ wait_by c.row s (waits_of cs)
    go Left e = e
    go (Waits away at to) e = rw (other_line c.row.line line (h zero c refl)) (ap (λ (ws : List Waiting). (record { row = c.row; is_away = away }) ∷ ws) e)

pub waits_left : (cs : List Change) (i : ℕ) (r : Row) (away : Bool) (at to : Names) → LinesApart cs → slice_get cs i ≡ Some (change r (Waits away at to))
    → waits_of (set cs i (change r Left)) ≡ without (record { row = r; is_away = away }) (waits_of cs)
waits_left [] i r away at to a e = cc
waits_left (c ∷ cs) zero r away at to a e =
    subst (λ (d : Change). waits_of cs ≡ without (record { row = r; is_away = away }) (wait_by d.row d.stand (waits_of cs))) (sym (same_Some _ _ e))
    (rw (same_line r.line) (sym (unfiltered r.line cs (subst (λ (d : Change). HasLine d.row.line cs) (same_Some _ _ e) a.0))))
waits_left (c ∷ cs) (suc i) r away at to a e = go c.stand (waits_left cs i r away at to a.1 e)
  where
    w : Waiting
    w = record { row = r; is_away = away }

    go : (s : Stand) → waits_of (set cs i (change r Left)) ≡ without w (waits_of cs) → wait_by c.row s (waits_of (set cs i (change r Left))) ≡ without w (wait_by c.row s (waits_of cs))
    go Left p = p
    go (Waits b q t) p = rw (other_line c.row.line r.line (λ (z : c.row.line ≡ r.line). a.0 i (change r (Waits away at to)) e (sym z))) (ap (λ (ws : List Waiting). (record { row = c.row; is_away = b }) ∷ ws) p)

-- ---- a change that is put away

abbrev away_by : ℕ → Waiting → Waiting
away_by line v = if v.row.line == line then record v { is_away = true } else v

unmapped : (line : ℕ) (cs : List Change) → HasLine line cs → map (away_by line) (waits_of cs) ≡ waits_of cs
unmapped line [] h = refl
unmapped line (c ∷ cs) h = go c.stand (unmapped line cs (λ k d. h (suc k) d))
  where
    go : (s : Stand) → map (away_by line) (waits_of cs) ≡ waits_of cs → map (away_by line) (wait_by c.row s (waits_of cs)) ≡ wait_by c.row s (waits_of cs)
    go Left e = e
    go (Waits away at to) e = rw (other_line c.row.line line (h zero c refl)) (ap (λ (ws : List Waiting). (record { row = c.row; is_away = away }) ∷ ws) e)

pub waits_away : (cs : List Change) (i : ℕ) (r : Row) (at to spot : Names) → LinesApart cs → slice_get cs i ≡ Some (change r (Waits false at to))
    → waits_of (set cs i (change r (Waits true spot to))) ≡ put_away (record { row = r; is_away = false }) (waits_of cs)
waits_away [] i r at to spot a e = cc
waits_away (c ∷ cs) zero r at to spot a e =
    subst (λ (d : Change). (record { row = r; is_away = true }) ∷ waits_of cs ≡ put_away (record { row = r; is_away = false }) (wait_by d.row d.stand (waits_of cs))) (sym (same_Some _ _ e))
    (rw (same_line r.line) (ap (λ (ws : List Waiting). (record { row = r; is_away = true }) ∷ ws) (sym (unmapped r.line cs (subst (λ (d : Change). HasLine d.row.line cs) (same_Some _ _ e) a.0)))))
waits_away (c ∷ cs) (suc i) r at to spot a e = go c.stand (waits_away cs i r at to spot a.1 e)
  where
    w : Waiting
    w = record { row = r; is_away = false }

    go : (s : Stand) → waits_of (set cs i (change r (Waits true spot to))) ≡ put_away w (waits_of cs)
        → wait_by c.row s (waits_of (set cs i (change r (Waits true spot to)))) ≡ put_away w (wait_by c.row s (waits_of cs))
    go Left p = p
    go (Waits b q t) p = rw (other_line c.row.line r.line (λ (z : c.row.line ≡ r.line). a.0 i (change r (Waits false at to)) e (sym z))) (ap (λ (ws : List Waiting). (record { row = c.row; is_away = b }) ∷ ws) p)

-- ---- who waits

pub waits : (cs : List Change) (i : ℕ) (r : Row) (away : Bool) (at to : Names) → slice_get cs i ≡ Some (change r (Waits away at to)) → Contains (waits_of cs) (record { row = r; is_away = away })
waits [] i r away at to e = cc
waits (c ∷ cs) zero r away at to e = subst (λ (d : Change). Contains (wait_by d.row d.stand (waits_of cs)) (record { row = r; is_away = away })) (sym (same_Some _ _ e)) (contains_head _ (waits_of cs))
waits (c ∷ cs) (suc i) r away at to e = go c.stand (waits cs i r away at to e)
  where
    go : (s : Stand) → Contains (waits_of cs) (record { row = r; is_away = away }) → Contains (wait_by c.row s (waits_of cs)) (record { row = r; is_away = away })
    go Left h = h
    go (Waits b q t) h = contains_tail _ _ (waits_of cs) h

pub who_waits : (cs : List Change) (w : Waiting) → Contains (waits_of cs) w → (i : ℕ) × (at : Names) × (to : Names) × (slice_get cs i ≡ Some (change w.row (Waits w.is_away at to)))
who_waits [] w h = absurd (contains_none w h)
who_waits (c ∷ cs) w h = go (who_waits cs w) c.stand refl h
  where
    later : (Contains (waits_of cs) w → (i : ℕ) × (at : Names) × (to : Names) × (slice_get cs i ≡ Some (change w.row (Waits w.is_away at to))))
        → Contains (waits_of cs) w → (i : ℕ) × (at : Names) × (to : Names) × (slice_get (c ∷ cs) i ≡ Some (change w.row (Waits w.is_away at to)))
    later more k = let m = more k in (suc m.0, m.1, m.2, m.3)

    go : (Contains (waits_of cs) w → (i : ℕ) × (at : Names) × (to : Names) × (slice_get cs i ≡ Some (change w.row (Waits w.is_away at to))))
        → (s : Stand) → c.stand ≡ s → Contains (wait_by c.row s (waits_of cs)) w → (i : ℕ) × (at : Names) × (to : Names) × (slice_get (c ∷ cs) i ≡ Some (change w.row (Waits w.is_away at to)))
    go more Left e k = later more k
    go more (Waits b q t) e k = elim (contains_cases _ w (waits_of cs) k) [
      | inl same ↦ (zero, q, t, subst (λ (v : Waiting). Some c ≡ Some (change v.row (Waits v.is_away q t))) same (ap (λ (s : Stand). Some (change c.row s)) e))
      | inr rest ↦ later more rest
    ]
