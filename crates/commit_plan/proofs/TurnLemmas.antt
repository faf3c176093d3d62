-- Who has a turn, after one change was looked at or left its place.
use Rattle.std.proofs.Common.{◌≡◌, ◌⊎◌, inl, inr, ℕ, ◌<◌, true, false, List, [], ◌∷◌, ◌++◌, length, sym, ◌∙◌, ap, subst, Contains, Some, Vec, Global}
use Rattle.std.proofs.Math.ListN.{set}
use Rattle.std.specs.List.{slice_get}
use Rattle.std.proofs.lemmas.List.Elements.{Contains-append_left, Contains-push}
use Rattle.dired_text.specs.Paths.{Names}
use Rattle.commit_steps.specs.declared.step.Step.{Step}
use Rattle.edit_words.specs.declared.row.Row.{Row}
use Rattle.plan_moves.specs.Waiting.{NoneReady}
use Rattle.commit_plan.specs.declared.board.Board.{Board}
use Rattle.commit_plan.specs.declared.changes.Stand.TheVariants.{Left, Waits}
use Rattle.commit_plan.specs.declared.changes.Change.{Change}
use Rattle.commit_plan.specs.Stands.{IsCarried, IsPutAway, change, is_ready_at, is_ready_in, waits_of}
use Rattle.commit_plan.specs.Boards.{BlocksAt, HasTurn, HaveTurns, IsNoted, IsReleased, Waiter}
use Rattle.commit_plan.specs.Boards.HasTurn.{left, one_of, queues, listed}
use Rattle.commit_plan.proofs.ChangeLemmas.{contains_cases, contains_none}
use Rattle.commit_plan.proofs.ReadyLemmas.{none_ready}
use Rattle.commit_plan.proofs.KeeperLemmas.{here_or_apart, set_apart, set_here, set_long}

-- where nothing is to be looked at, none is ready
pub none_is_ready : (b : Board) → HaveTurns b [] → b.queue.items ≡ [] → NoneReady (waits_of b.changes.items)
none_is_ready b turns none = none_ready b.changes.items (λ k within. by_turn k (turns k within))
  where
    by_turn : (k : ℕ) → HasTurn b [] k → is_ready_at b.changes.items k ≡ false
    by_turn k (left r e) = ap (is_ready_in (waits_of b.changes.items)) e
    by_turn k (one_of c) = absurd (contains_none k c)
    by_turn k (queues c) = absurd (contains_none k (subst (λ (l : List ℕ). Contains l k) none c))
    by_turn k (listed j w m) = m.4 b.changes.items j k m.2 m.3

-- the change i is the first of these, and needs no turn more
pub turns_done : (b : Board) (i : ℕ) (r : Row) (rest : List ℕ) → slice_get b.changes.items i ≡ Some (change r Left) → HaveTurns b (i ∷ rest) → HaveTurns b rest
turns_done b i r rest done turns k within = by_turn (turns k within)
  where
    by_turn : HasTurn b (i ∷ rest) k → HasTurn b rest k
    by_turn (left o e) = left o e
    by_turn (one_of c) = elim (contains_cases i k rest c) [
      | inl same ↦ left r (subst (λ (x : ℕ). slice_get b.changes.items x ≡ Some (change r Left)) same done)
      | inr more ↦ one_of more
    ]
    by_turn (queues c) = queues c
    by_turn (listed j w m) = listed j w m

-- it is noted with one that blocks it
pub turns_noted : (b n : Board) (i j : ℕ) (rest : List ℕ) → n.changes.items ≡ b.changes.items → n.queue.items ≡ b.queue.items → IsNoted b.awaiting.items j i n.awaiting.items → BlocksAt b.changes.items j i
    → HaveTurns b (i ∷ rest) → HaveTurns n rest
turns_noted b n i j rest same_changes same_queue noted blocks turns k within = by_turn (turns k (subst (λ (l : List Change). k < length l) same_changes within))
  where
    by_turn : HasTurn b (i ∷ rest) k → HasTurn n rest k
    by_turn (left o e) = left o (ap (λ (l : List Change). slice_get l k) same_changes ∙ e)
    by_turn (one_of c) = elim (contains_cases i k rest c) [
      | inl same ↦ listed j (subst (λ (x : ℕ). Waiter n.awaiting.items j x) same noted.noted) (subst (λ (x : ℕ). BlocksAt n.changes.items j x) same (subst (λ (l : List Change). BlocksAt l j i) (sym same_changes) blocks))
      | inr more ↦ one_of more
    ]
    by_turn (queues c) = queues (subst (λ (l : List ℕ). Contains l k) (sym same_queue) c)
    by_turn (listed a w m) = listed a (noted.kept a k w) (subst (λ (l : List Change). BlocksAt l a k) (sym same_changes) m)

-- the change i stands otherwise, and those in its list are queued
module _ (b n : Board) (i : ℕ) (d : Change) (changed : n.changes.items ≡ set b.changes.items i d) (queue : List ℕ) (released : IsReleased b.awaiting.items i queue n.awaiting.items n.queue.items)
    (longer : (k : ℕ) → Contains b.queue.items k → Contains queue k) where
  kept_at : (k : ℕ) (c : Change) → (k ≡ i → ⊥) → slice_get b.changes.items k ≡ Some c → slice_get n.changes.items k ≡ Some c
  kept_at k c apart e = ap (λ (l : List Change). slice_get l k) changed ∙ set_apart b.changes.items i k d apart ∙ e

  pub turns_released : (these rest : List ℕ) → ((k : ℕ) → Contains these k → (k ≡ i) ⊎ Contains rest k) → HasTurn n rest i → HaveTurns b these → HaveTurns n rest
  turns_released these rest fewer own turns k within =
      let long : length n.changes.items ≡ length b.changes.items = ap (λ (l : List Change). length l) changed ∙ set_long b.changes.items i d in
      elim (here_or_apart k i) [
        | inl here ↦ subst (λ (x : ℕ). HasTurn n rest x) (sym here) own
        | inr apart ↦ by_turn apart (turns k (subst (λ (x : ℕ). k < x) long within))
      ]
    where
      by_turn : (k ≡ i → ⊥) → HasTurn b these k → HasTurn n rest k
      by_turn apart (left o e) = left o (kept_at k (change o Left) apart e)
      by_turn apart (one_of c) = elim (fewer k c) [ inl same ↦ absurd (apart same) | inr more ↦ one_of more ]
      by_turn apart (queues c) = queues (released.queued k (longer k c))
      by_turn apart (listed j w m) = elim (here_or_apart j i) [
        | inl here ↦ queues (released.moved k (subst (λ (x : ℕ). Waiter b.awaiting.items x k) here w))
        | inr other ↦ listed j (released.kept j k other w) (m.0, m.1, kept_at j m.0 other m.2, kept_at k m.1 apart m.3, m.4)
      ]

-- the change i departs,
pub turns_carried_out : (b n : Board) (i : ℕ) (step : Step) (rest : List ℕ) → IsCarried b.changes.items i n.changes.items step → IsReleased b.awaiting.items i b.queue.items n.awaiting.items n.queue.items
    → HaveTurns b (i ∷ rest) → HaveTurns n rest
turns_carried_out b n i step rest by released turns =
    let d = change by.row Left in
    let here : slice_get n.changes.items i ≡ Some d = ap (λ (l : List Change). slice_get l i) by.now ∙ set_here b.changes.items i _ d by.was in
    turns_released b n i d by.now b.queue.items released (λ k c. c) (i ∷ rest) rest (λ k c. elim (contains_cases i k rest c) [ inl same ↦ inl (sym same) | inr more ↦ inr more ]) (left by.row here) turns

-- or is put away, and is queued
pub turns_put_away : (b n : Board) (i : ℕ) (spot : Names) (step : Step) (queue : List ℕ) → IsPutAway b.changes.items i spot n.changes.items step → queue ≡ b.queue.items ++ i ∷ []
    → IsReleased b.awaiting.items i queue n.awaiting.items n.queue.items → HaveTurns b [] → HaveTurns n []
turns_put_away b n i spot step queue by pushed released turns =
    turns_released b n i (change by.row (Waits true spot by.to)) by.now queue released (λ k c. subst (λ (l : List ℕ). Contains l k) (sym pushed) (Contains-append_left b.queue.items (i ∷ []) k c)) [] []
    (λ k c. inr c) (queues (released.queued i (subst (λ (l : List ℕ). Contains l i) (sym pushed) (Contains-push b.queue.items i)))) turns

-- the queue was taken away
pub turns_taken : (b n : Board) (rest : List ℕ) → HaveTurns b [] → n.changes.items ≡ b.changes.items → n.awaiting.items ≡ b.awaiting.items → rest ≡ b.queue.items → HaveTurns n rest
turns_taken b n rest turns changes awaiting taken k within = by_turn (turns k (subst (λ (l : List Change). k < length l) changes within))
  where
    by_turn : HasTurn b [] k → HasTurn n rest k
    by_turn (left o e) = left o (ap (λ (l : List Change). slice_get l k) changes ∙ e)
    by_turn (one_of c) = absurd (contains_none k c)
    by_turn (queues c) = one_of (subst (λ (l : List ℕ). Contains l k) (sym taken) c)
    by_turn (listed a w m) = listed a (subst (λ (l : List (Vec ℕ Global)). Waiter l a k) (sym awaiting) w) (subst (λ (l : List Change). BlocksAt l a k) (sym changes) m)
