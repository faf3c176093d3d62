-- The moves of a plan on their way, from one source to the next.
use Rattle.std.proofs.Common.{◌≡◌, ◌⊎◌, inl, inr, ℕ, zero, suc, ◌+◌, ◌*◌, ◌<◌, ◌≤◌, true, false, List, [], ◌∷◌, ◌++◌, length, drop, get_or, refl, sym, ◌∙◌, ap, subst, arith, Contains, Option, Some, None}
use Rattle.std.specs.List.{filter_map, cons_option, slice_get}
use Rattle.std.specs.List.Sorted.{IsPermutation, IsSorted}
use Rattle.std.specs.Ordering.{is_lt}
use Rattle.std.proofs.lemmas.List.{get_or-drop, length-drop}
use Rattle.std.proofs.lemmas.List.Sorted.{Contains-permutation, sorted_far}
use Rattle.std.proofs.lemmas.Option.{same_Some}
use Rattle.std.proofs.lemmas.Bool.{cases_Bool}
use Rattle.dired_text.specs.Paths.{Names}
use Rattle.dired_text.proofs.PathLemmas.{path_decides}
use Rattle.commit_steps.specs.declared.step.Step.{Step}
use Rattle.commit_steps.specs.Staging.{staged, temporary}
use Rattle.edit_words.specs.declared.row.Row.{Row}
use Rattle.edit_words.specs.Rows.{is_same_path}
use Rattle.edit_words.specs.WellFormed.{LinesRise}
use Rattle.plan_moves.specs.Moves.{Moves, fresh_spots}
use Rattle.plan_moves.specs.Waiting.{NoneReady, is_before, waiting}
use Rattle.commit_plan.specs.declared.board.Board.{Board}
use Rattle.commit_plan.specs.declared.changes.Change.{Change}
use Rattle.commit_plan.specs.Stands.{IsPutAway, Moved, first_changes, max_rows, turns, waits_of}
use Rattle.commit_plan.specs.Boards.{HaveTurns, IsAtSource, IsRun, IsSound, NoneAtSource, deeper_cmp, source_of}
use Rattle.commit_plan.proofs.ChangeLemmas.{contains_cases, contains_head, contains_none, contains_tail}
use Rattle.commit_plan.proofs.DeepLemmas.{comes_before, deeper_ranks, is_best, no_deepest}
use Rattle.commit_plan.proofs.FirstLemmas.{few_turns, moved_first, row_at}
use Rattle.commit_plan.proofs.KeeperLemmas.{at_source_keeps}
use Rattle.commit_plan.proofs.MovedLemmas.{moved_all, moved_best, turns_away}
use Rattle.commit_plan.proofs.RunLemmas.{stays_put_away}

-- The steps so far lead to these changes, and each that waits at its source has this among these paths.
pub record IsUnderWay (rs : List Row) (n : ℕ) (paths : List Names) (b : Board) (steps : List Step) : Type 0 where
  pub sound : IsSound b
  pub have : HaveTurns b []
  pub moved : Moved rs n b.changes.items steps
  pub few : n + turns b.changes.items ≤ 2 * max_rows
  pub left : (k : ℕ) (s : Names) → IsAtSource b.changes.items k s → Contains paths s

module _ (rs : List Row) (n : ℕ) where
  pub way_run : (paths : List Names) (b c : Board) (before after : List Step) → IsSound c → HaveTurns c [] → IsRun b.changes.items c.changes.items before after → IsUnderWay rs n paths b before → IsUnderWay rs n paths c after
  way_run paths b c before after sound has run way = record {
    sound = sound;
    have = has;
    moved = run.moved rs n way.moved;
    few = omega (arith, way.few, run.fewer);
    left = λ k s here. way.left k s (run.stayed k s here);
  }

  pub way_skip : (p : Names) (paths : List Names) (b : Board) (steps : List Step) → NoneAtSource b.changes.items p → IsUnderWay rs n (p ∷ paths) b steps → IsUnderWay rs n paths b steps
  way_skip p paths b steps none way = record {
    sound = way.sound;
    have = way.have;
    moved = way.moved;
    few = way.few;
    left = λ k s here. elim (contains_cases p s paths (way.left k s here)) [
      | inl same ↦ absurd (none k (subst (λ (x : Names). IsAtSource b.changes.items k x) (sym same) here))
      | inr later ↦ later
    ];
  }

  pub way_away : (p : Names) (paths : List Names) (b c : Board) (steps : List Step) (i : ℕ) (step : Step) → ((s : Names) → Contains paths s → (p ≡ s) ⊎ (is_before (Some p) (Some s) ≡ true)) → NoneReady (waits_of b.changes.items)
      → IsAtSource b.changes.items i p → IsPutAway b.changes.items i (staged (temporary n)) c.changes.items step → IsSound c → HaveTurns c [] → IsUnderWay rs n (p ∷ paths) b steps → IsUnderWay rs (n + 1) paths c (steps ++ step ∷ [])
  way_away p paths b c steps i step order none here by sound has way =
      let cs = b.changes.items in
      let t = turns_away cs i (staged (temporary n)) c.changes.items step by in
      record {
        sound = sound;
        have = has;
        moved = moved_best rs n cs steps i c.changes.items step way.sound.spelled way.sound.apart none by (is_best cs i p way.sound.spelled here others) way.moved;
        few = omega (arith, way.few, t);
        left = λ k s at.
            let was = stays_put_away cs i (staged (temporary n)) c.changes.items step k s by at in
            elim (contains_cases p s paths (way.left k s was.1)) [
              | inl same ↦ absurd (was.0 (one k s was.1 same))
              | inr later ↦ later
            ];
      }
    where
      one : (k : ℕ) (s : Names) → IsAtSource b.changes.items k s → p ≡ s → k ≡ i
      one k s at same =
          let a = (way.sound.keepers s k).1 (at_source_keeps b.changes.items k s at) in
          let there : IsAtSource b.changes.items i s = subst (λ (x : Names). IsAtSource b.changes.items i x) same here in
          let d = (way.sound.keepers s i).1 (at_source_keeps b.changes.items i s there) in
          same_Some k i (sym a ∙ d)

      others : (k : ℕ) (s : Names) → IsAtSource b.changes.items k s → (k ≡ i) ⊎ (is_before (Some p) (Some s) ≡ true)
      others k s at = elim (contains_cases p s paths (way.left k s at)) [
        | inl same ↦ inl (one k s at same)
        | inr later ↦ elim (order s later) [ inl same ↦ inl (one k s at same) | inr before ↦ inr before ]
      ]

  pub way_done : (b : Board) (steps : List Step) → NoneReady (waits_of b.changes.items) → IsUnderWay rs n [] b steps → Moves 0 (fresh_spots 0 rs) (waiting rs) steps
  way_done b steps none way =
      moved_all rs n b.changes.items steps none (no_deepest b.changes.items way.sound.spelled (λ k s here. contains_none s (way.left k s here))) way.moved

  pub way_same : (m : ℕ) (paths : List Names) (b c : Board) (steps others : List Step) → m ≡ n → c ≡ b → others ≡ steps → IsUnderWay rs n paths b steps → IsUnderWay rs m paths c others
  way_same m paths b c steps others number board same way =
      subst (λ (k : ℕ). IsUnderWay rs k paths c others) (sym number) (subst (λ (x : Board). IsUnderWay rs n paths x others) (sym board) (subst (λ (l : List Step). IsUnderWay rs n paths b l) (sym same) way))

-- ---- the paths

source_listed : (rs : List Row) (k : ℕ) (r : Row) (s : Names) → slice_get rs k ≡ Some r → r.source ≡ Some s → Contains (filter_map source_of rs) s
source_listed [] k r s e f = cc
source_listed (x ∷ rs) zero r s e f = by_source x.source (ap (λ (y : Row). y.source) (same_Some x r e) ∙ f)
  where
    by_source : (o : Option Names) → o ≡ Some s → Contains (cons_option o (filter_map source_of rs)) s
    by_source None g = cc
    by_source (Some q) g = subst (λ (y : Names). Contains (y ∷ filter_map source_of rs) s) (sym (same_Some q s g)) (contains_head s (filter_map source_of rs))
source_listed (x ∷ rs) (suc k) r s e f = by_source x.source (source_listed rs k r s e f)
  where
    by_source : (o : Option Names) → Contains (filter_map source_of rs) s → Contains (cons_option o (filter_map source_of rs)) s
    by_source None c = c
    by_source (Some q) c = contains_tail q s (filter_map source_of rs) c

-- at first
pub way_first : (rs : List Row) (paths : List Names) (b : Board) → LinesRise rs → length rs ≤ max_rows → IsPermutation (filter_map source_of rs) paths → b.changes.items ≡ first_changes 0 rs → IsSound b → HaveTurns b []
    → IsUnderWay rs 0 paths b []
way_first rs paths b lines few moved are sound has =
    let t : turns b.changes.items ≡ turns (first_changes 0 rs) = ap turns are in
    record {
      sound = sound;
      have = has;
      moved = subst (λ (l : List Change). Moved rs 0 l []) (sym are) (moved_first rs lines);
      few = omega (arith, t, few_turns 0 rs, few);
      left = λ k s here.
          let at : slice_get (first_changes 0 rs) k ≡ Some here.0 = subst (λ (l : List Change). slice_get l k ≡ Some here.0) are here.1 in
          Contains-permutation _ _ s moved (source_listed rs k here.0.row s (row_at 0 rs k here.0 at) here.3);
    }

-- the paths from one on
pub from_one : (paths : List Names) (i : ℕ) (d : Names) → i < length paths → drop i paths ≡ get_or paths i d ∷ drop (i + 1) paths
from_one paths i d h = let e : suc i ≡ i + 1 = omega arith in go paths i h ∙ ap (λ (j : ℕ). get_or paths i d ∷ drop j paths) e
  where
    go : (l : List Names) (i : ℕ) → i < length l → drop i l ≡ get_or l i d ∷ drop (suc i) l
    go [] i h = absurd (omega (arith, h))
    go (p ∷ l) zero h = refl
    go (p ∷ l) (suc i) h = go l i (omega (arith, h))

pub none_left : (paths : List Names) (i : ℕ) → length paths ≤ i → drop i paths ≡ []
none_left [] zero h = refl
none_left [] (suc i) h = refl
none_left (p ∷ paths) zero h = absurd (omega (arith, h))
none_left (p ∷ paths) (suc i) h = none_left paths i (omega (arith, h))

-- those behind one come behind it
pub rest_behind : (paths : List Names) (i : ℕ) (p : Names) → IsSorted deeper_cmp paths → i < length paths → get_or paths i p ≡ p → (s : Names) → Contains (drop (i + 1) paths) s → (p ≡ s) ⊎ (is_before (Some p) (Some s) ≡ true)
rest_behind paths i p sorted within is s c =
    let long = length-drop (i + 1) paths in
    let less : c.0 < length (drop (i + 1) paths) = c.1 in
    let j = (i + 1) + c.0 in
    let in_list : j < length paths = omega (arith, long, less, within) in
    let at : get_or paths j s ≡ s = sym (get_or-drop (i + 1) paths c.0 s) ∙ c.2 in
    let at_p : get_or paths j p ≡ s = same_element paths j p s in_list ∙ at in
    let far : is_lt (deeper_cmp (get_or paths j p) (get_or paths i p)) ≡ false = sorted_far (λ x y. is_lt (deeper_cmp x y)) deeper_ranks paths sorted i j p (omega arith) in_list in
    let not_less : is_lt (deeper_cmp s p) ≡ false = subst (λ (x : Names). is_lt (deeper_cmp x p) ≡ false) at_p (subst (λ (x : Names). is_lt (deeper_cmp (get_or paths j p) x) ≡ false) is far) in
    elim (same_or_apart p s) [
      | inl same ↦ inl same
      | inr apart ↦ inr (comes_before p s apart not_less)
    ]
  where
    same_element : (l : List Names) (j : ℕ) (d e : Names) → j < length l → get_or l j d ≡ get_or l j e
    same_element [] j d e h = absurd (omega (arith, h))
    same_element (x ∷ l) zero d e h = refl
    same_element (x ∷ l) (suc j) d e h = same_element l j d e (omega (arith, h))

    same_or_apart : (a b : Names) → (a ≡ b) ⊎ (a ≡ b → ⊥)
    same_or_apart a b = elim (cases_Bool (is_same_path a b)) [
      | inl e ↦ inl ((path_decides a b).0 e)
      | inr e ↦ inr (λ same. let both : true ≡ false = sym ((path_decides a b).1 same) ∙ e in cc)
    ]
