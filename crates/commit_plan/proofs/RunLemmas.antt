-- What always holds of the changes while a plan is made, and what runs of ready changes leave.
use Rattle.std.proofs.Common.{◌≡◌, ◌⊎◌, inl, inr, ℕ, ◌+◌, ◌*◌, ◌<◌, ◌≤◌, true, false, List, [], ◌∷◌, ◌++◌, length, get_or, refl, sym, ◌∙◌, ap, subst, arith, Contains, Option, Some, None, Vec, Global, ◌&&◌, if◌then◌else◌, not}
use Rattle.std.proofs.Math.ListN.{set}
use Rattle.std.specs.List.{slice_get}
use Rattle.std.specs.Option.{option_to_list}
use Rattle.std.proofs.lemmas.List.{append-nil}
use Rattle.std.specs.BTreeMap.{BTreeMap, get}
use Rattle.std.proofs.lemmas.Option.{get_or_from_slice_get, same_Some, slice_get_within}
use Rattle.std.proofs.lemmas.List.Elements.{Contains-push_cases}
use Rattle.dired_text.specs.Paths.{Names, path_cmp}
use Rattle.commit_steps.specs.declared.step.Step.{Step}
use Rattle.edit_words.specs.declared.row.Row.{Row}
use Rattle.plan_moves.specs.Waiting.{is_in_place}
use Rattle.commit_plan.specs.declared.board.Board.{Board}
use Rattle.commit_plan.specs.declared.changes.Stand.TheVariants.{Left, Waits}
use Rattle.commit_plan.specs.declared.changes.Change.{Change}
use Rattle.commit_plan.specs.Stands.{AreSpelled, IsCarried, IsPutAway, LinesApart, change, is_ready_at, turns, waits_at_source}
use Rattle.commit_plan.specs.Boards.{AreRooted, HasKeepers, HaveTurns, IsAtSource, IsNoted, IsReleased, IsRun, IsSettled, IsSound, Waiter, is_from, keeps_above}
use Rattle.commit_plan.proofs.KeeperLemmas.{here_or_apart, keepers_departed, keepers_put_away, rooted_set, set_apart, set_here, set_long}
use Rattle.commit_plan.proofs.MovedLemmas.{apart_away, apart_carried, moved_carried, spelled_away, spelled_carried, turns_carried}
use Rattle.commit_plan.proofs.ChangeLemmas.{contains_none, contains_tail}
use Rattle.commit_plan.proofs.TurnLemmas.{turns_taken}

-- ---- who still waits at its source

pub stays_carried : (old : List Change) (i : ℕ) (new : List Change) (step : Step) (k : ℕ) (p : Names) → IsCarried old i new step → IsAtSource new k p → IsAtSource old k p
stays_carried old i new step k p by here =
    let d = change by.row Left in
    let at : slice_get (set old i d) k ≡ Some here.0 = subst (λ (l : List Change). slice_get l k ≡ Some here.0) by.now here.1 in
    elim (here_or_apart k i) [
      | inl same ↦
          let is : d ≡ here.0 = same_Some _ _ (sym (ap (slice_get (set old i d)) same ∙ set_here old i _ d by.was) ∙ at) in
          let no : false ≡ true = ap (λ (c : Change). waits_at_source c.stand) is ∙ here.2 in cc
      | inr apart ↦ (here.0, sym (set_apart old i k d apart) ∙ at, here.2, here.3)
    ]

pub stays_put_away : (old : List Change) (i : ℕ) (spot : Names) (new : List Change) (step : Step) (k : ℕ) (p : Names) → IsPutAway old i spot new step → IsAtSource new k p → (k ≡ i → ⊥) × IsAtSource old k p
stays_put_away old i spot new step k p by here =
    let d = change by.row (Waits true spot by.to) in
    let at : slice_get (set old i d) k ≡ Some here.0 = subst (λ (l : List Change). slice_get l k ≡ Some here.0) by.now here.1 in
    elim (here_or_apart k i) [
      | inl same ↦
          let is : d ≡ here.0 = same_Some _ _ (sym (ap (slice_get (set old i d)) same ∙ set_here old i _ d by.was) ∙ at) in
          let no : false ≡ true = ap (λ (c : Change). waits_at_source c.stand) is ∙ here.2 in cc
      | inr apart ↦ (apart, (here.0, sym (set_apart old i k d apart) ∙ at, here.2, here.3))
    ]

-- ---- runs

pub run_none : (cs : List Change) (steps : List Step) → IsRun cs cs steps steps
run_none cs steps = record { moved = λ rs n m. m; fewer = omega arith; stayed = λ k p here. here }

pub run_same : (a b c : List Change) (x y : List Step) → c ≡ b → IsRun a b x y → IsRun a c x y
run_same a b c x y same run = subst (λ (l : List Change). IsRun a l x y) (sym same) run

pub run_carried : (a b c : List Change) (x y : List Step) (i : ℕ) (step : Step) → AreSpelled b → LinesApart b → is_ready_at b i ≡ true → IsCarried b i c step → IsRun a b x y → IsRun a c x (y ++ step ∷ [])
run_carried a b c x y i step spelled apart ready by run = record {
  moved = λ rs n m. moved_carried rs n b y i c step spelled apart ready by (run.moved rs n m);
  fewer = let less = turns_carried b i c step by in omega (arith, less, run.fewer);
  stayed = λ k p here. run.stayed k p (stays_carried b i c step k p by here);
}

-- ---- what always holds

-- the change i stands otherwise, and those in its list are behind the queue
pub sound_after : (b n : Board) (i : ℕ) (d : Change) (queue : List ℕ) → IsSound b → n.changes.items ≡ set b.changes.items i d → IsReleased b.awaiting.items i queue n.awaiting.items n.queue.items
    → ((k : ℕ) → Contains queue k → k < length b.changes.items) → AreSpelled n.changes.items → LinesApart n.changes.items → AreRooted n.changes.items → HasKeepers n.changes.items n.keepers → IsSound n
sound_after b n i d queue sound changed released within spelled apart rooted keepers =
    let long : length n.changes.items ≡ length b.changes.items = ap (λ (l : List Change). length l) changed ∙ set_long b.changes.items i d in
    record {
      spelled = spelled;
      apart = apart;
      rooted = rooted;
      keepers = keepers;
      sized = released.sized ∙ sound.sized ∙ sym long;
      waiters = λ j k w. subst (λ (x : ℕ). k < x) (sym long) (sound.waiters j k (released.only j k w));
      queued = λ k c. subst (λ (x : ℕ). k < x) (sym long) (elim (released.from k c) [
        | inl old ↦ within k old
        | inr w ↦ sound.waiters i k w
      ]);
    }

-- the change i was noted with another
pub sound_noted : (b n : Board) (i j : ℕ) → IsSound b → n.changes.items ≡ b.changes.items → n.keepers ≡ b.keepers → n.queue.items ≡ b.queue.items → IsNoted b.awaiting.items j i n.awaiting.items → i < length b.changes.items → IsSound n
sound_noted b n i j sound changes keepers queue noted within = record {
  spelled = subst (λ (l : List Change). AreSpelled l) (sym changes) sound.spelled;
  apart = subst (λ (l : List Change). LinesApart l) (sym changes) sound.apart;
  rooted = subst (λ (l : List Change). AreRooted l) (sym changes) sound.rooted;
  keepers = subst (λ (l : List Change). HasKeepers l n.keepers) (sym changes) (subst (λ (m : BTreeMap Names ℕ). HasKeepers b.changes.items m) (sym keepers) sound.keepers);
  sized = noted.sized ∙ sound.sized ∙ ap (λ (l : List Change). length l) (sym changes);
  waiters = λ a k w. subst (λ (l : List Change). k < length l) (sym changes) (elim (noted.only a k w) [
    | inl old ↦ sound.waiters a k old
    | inr same ↦ subst (λ (x : ℕ). x < length b.changes.items) (sym same) within
  ]);
  queued = λ k c. subst (λ (l : List Change). k < length l) (sym changes) (sound.queued k (subst (λ (l : List ℕ). Contains l k) queue c));
}

-- The change i departs: who x was, and what the map has.
pub sound_carried : (b n : Board) (i : ℕ) (step : Step) (x : Change) → IsSound b → IsCarried b.changes.items i n.changes.items step → x ≡ get_or b.changes.items i x
    → ((p : Names) → get path_cmp n.keepers p ≡ (if keeps_above x.row x.stand && is_from x.row.source p then None else get path_cmp b.keepers p))
    → IsReleased b.awaiting.items i b.queue.items n.awaiting.items n.queue.items → IsSound n
sound_carried b n i step x sound by at updated released =
    let cs = b.changes.items in
    let c = change by.row (Waits by.away by.at by.to) in
    let same : x ≡ c = at ∙ get_or_from_slice_get cs i c x by.was in
    let gone = subst (λ (y : Change). (p : Names) → get path_cmp n.keepers p ≡ (if keeps_above y.row y.stand && is_from y.row.source p then None else get path_cmp b.keepers p)) same updated in
    sound_after b n i (change by.row Left) b.queue.items sound by.now released sound.queued (spelled_carried cs i n.changes.items step sound.spelled by) (apart_carried cs i n.changes.items step sound.apart by)
    (subst (λ (l : List Change). AreRooted l) (sym by.now) (rooted_set cs i c Left by.was sound.rooted))
    (subst (λ (l : List Change). HasKeepers l n.keepers) (sym by.now) (keepers_departed cs i c b.keepers n.keepers by.was sound.keepers gone))

-- The change i is put away, and is queued.
pub sound_put_away : (b n : Board) (i : ℕ) (spot : Names) (step : Step) (x : Change) (queue : List ℕ) → IsSound b → IsPutAway b.changes.items i spot n.changes.items step → x ≡ get_or b.changes.items i x
    → ((p : Names) → get path_cmp n.keepers p ≡ (if not (is_in_place x.row) && is_from x.row.source p then None else get path_cmp b.keepers p))
    → queue ≡ b.queue.items ++ i ∷ [] → IsReleased b.awaiting.items i queue n.awaiting.items n.queue.items → IsSound n
sound_put_away b n i spot step x queue sound by at updated pushed released =
    let cs = b.changes.items in
    let c = change by.row (Waits false by.at by.to) in
    let row : x.row ≡ by.row = ap (λ (y : Change). y.row) (at ∙ get_or_from_slice_get cs i c x by.was) in
    let gone = subst (λ (r : Row). (p : Names) → get path_cmp n.keepers p ≡ (if not (is_in_place r) && is_from r.source p then None else get path_cmp b.keepers p)) row updated in
    sound_after b n i (change by.row (Waits true spot by.to)) queue sound by.now released (within by.was) (spelled_away cs i spot n.changes.items step sound.spelled by) (apart_away cs i spot n.changes.items step sound.apart by)
    (subst (λ (l : List Change). AreRooted l) (sym by.now) (rooted_set cs i c (Waits true spot by.to) by.was sound.rooted))
    (subst (λ (l : List Change). HasKeepers l n.keepers) (sym by.now) (keepers_put_away cs i by.row by.at by.to spot b.keepers n.keepers by.was sound.keepers gone))
  where
    within : {c : Change} → slice_get b.changes.items i ≡ Some c → (k : ℕ) → Contains queue k → k < length b.changes.items
    within {c} was k in_queue = elim (Contains-push_cases b.queue.items i k (subst (λ (l : List ℕ). Contains l k) pushed in_queue)) [
      | inl old ↦ sound.queued k old
      | inr same ↦ subst (λ (j : ℕ). j < length b.changes.items) same (slice_get_within b.changes.items i c was)
    ]

-- the queue was taken away
pub sound_taken : (b n : Board) → IsSound b → n.changes.items ≡ b.changes.items → n.keepers ≡ b.keepers → n.awaiting.items ≡ b.awaiting.items → n.queue.items ≡ [] → IsSound n
sound_taken b n sound changes keepers awaiting none = record {
  spelled = subst (λ (l : List Change). AreSpelled l) (sym changes) sound.spelled;
  apart = subst (λ (l : List Change). LinesApart l) (sym changes) sound.apart;
  rooted = subst (λ (l : List Change). AreRooted l) (sym changes) sound.rooted;
  keepers = subst (λ (l : List Change). HasKeepers l n.keepers) (sym changes) (subst (λ (m : BTreeMap Names ℕ). HasKeepers b.changes.items m) (sym keepers) sound.keepers);
  sized = ap (λ (l : List (Vec ℕ Global)). length l) awaiting ∙ sound.sized ∙ ap (λ (l : List Change). length l) (sym changes);
  waiters = λ a k w. subst (λ (l : List Change). k < length l) (sym changes) (sound.waiters a k (subst (λ (l : List (Vec ℕ Global)). Waiter l a k) awaiting w));
  queued = λ k c. absurd (contains_none k (subst (λ (l : List ℕ). Contains l k) none c));
}

-- ---- how much is left

abbrev pub waits_in : List ℕ → ℕ
waits_in [] = 0
waits_in (k ∷ ks) = 1

-- the measure of a loop that empties the queue
abbrev pub rounds : Board → ℕ
rounds b = 2 * turns b.changes.items + waits_in b.queue.items

-- something was carried out, or nothing is queued
abbrev pub HasProgress : ℕ → Board → Type 0
HasProgress before b = (turns b.changes.items < before) ⊎ ((turns b.changes.items ≤ before) × (b.queue.items ≡ []))

few_waits : (ks : List ℕ) → waits_in ks ≤ 1
few_waits [] = omega arith
few_waits (k ∷ ks) = omega arith

pub some_waits : (ks : List ℕ) → (length ks ≡ 0 → ⊥) → waits_in ks ≡ 1
some_waits [] h = absurd (h refl)
some_waits (k ∷ ks) h = refl

pub rounds_fall : (before : ℕ) (old new : Board) → turns old.changes.items ≡ before → waits_in old.queue.items ≡ 1 → HasProgress before new → rounds new < rounds old
rounds_fall before old new t w (inl less) = let f = few_waits new.queue.items in omega (arith, t, w, less, f)
rounds_fall before old new t w (inr p) =
    let none : waits_in new.queue.items ≡ 0 = ap waits_in p.1 in
    let most : turns new.changes.items ≤ before = p.0 in
    omega (arith, t, w, most, none)

pub empty_is : (ks : List ℕ) → length ks ≡ 0 → ks ≡ []
empty_is [] e = refl
empty_is (k ∷ ks) e = absurd (omega (arith, e))

-- ---- one round: all that were queued are looked at

-- What holds while `rest` is still to be looked at, where `before` turns were left when the round began.
pub record IsRound (first : List Change) (none_yet : List Step) (before : ℕ) (b : Board) (rest : List ℕ) (steps : List Step) : Type 0 where
  pub sound : IsSound b
  pub have : HaveTurns b rest
  pub within : (k : ℕ) → Contains rest k → k < length b.changes.items
  pub run : IsRun first b.changes.items none_yet steps
  pub progress : HasProgress before b

module _ (first : List Change) (none_yet : List Step) (before : ℕ) where
  pub round_begins : (b n : Board) (steps : List Step) (rest : List ℕ) → IsSound b → HaveTurns b [] → IsRun first b.changes.items none_yet steps → turns b.changes.items ≡ before
      → n.changes.items ≡ b.changes.items → n.keepers ≡ b.keepers → n.awaiting.items ≡ b.awaiting.items → n.queue.items ≡ [] → rest ≡ b.queue.items → IsRound first none_yet before n rest steps
  round_begins b n steps rest sound have run all changes keepers awaiting none taken = record {
    sound = sound_taken b n sound changes keepers awaiting none;
    have = turns_taken b n rest have changes awaiting taken;
    within = λ k c. subst (λ (l : List Change). k < length l) (sym changes) (sound.queued k (subst (λ (l : List ℕ). Contains l k) taken c));
    run = subst (λ (l : List Change). IsRun first l none_yet steps) (sym changes) run;
    progress = let t : turns n.changes.items ≡ turns b.changes.items = ap turns changes in inr (omega (arith, t, all), none);
  }

  pub round_goes : (b n : Board) (i : ℕ) (rest : List ℕ) (steps longer : List Step) (step : Option Step) → IsSound n → ((rest : List ℕ) → HaveTurns b (i ∷ rest) → HaveTurns n rest) → IsSettled b i n step
      → longer ≡ steps ++ option_to_list step → IsRound first none_yet before b (i ∷ rest) steps → IsRound first none_yet before n rest longer
  round_goes b n i rest steps longer None sound have settled added round = record {
    sound = sound;
    have = have rest round.have;
    within = λ k c. subst (λ (l : List Change). k < length l) (sym settled.0) (round.within k (contains_tail i k rest c));
    run = subst (λ (l : List Step). IsRun first n.changes.items none_yet l) (sym (added ∙ append-nil steps)) (subst (λ (l : List Change). IsRun first l none_yet steps) (sym settled.0) round.run);
    progress = by_progress round.progress;
  }
    where
      t : turns n.changes.items ≡ turns b.changes.items
      t = ap turns settled.0

      by_progress : HasProgress before b → HasProgress before n
      by_progress (inl less) = inl (omega (arith, less, t))
      by_progress (inr p) = let most : turns b.changes.items ≤ before = p.0 in inr (omega (arith, most, t), settled.1 ∙ p.1)
  round_goes b n i rest steps longer (Some step) sound have settled added round = record {
    sound = sound;
    have = have rest round.have;
    within = λ k c.
        let long : length n.changes.items ≡ length b.changes.items = ap (λ (l : List Change). length l) settled.1.now ∙ set_long b.changes.items i (change settled.1.row Left) in
        subst (λ (x : ℕ). k < x) (sym long) (round.within k (contains_tail i k rest c));
    run = subst (λ (l : List Step). IsRun first n.changes.items none_yet l) (sym added) (run_carried first b.changes.items n.changes.items none_yet steps i step round.sound.spelled round.sound.apart settled.0 settled.1 round.run);
    progress = inl (by_progress round.progress);
  }
    where
      less : turns n.changes.items < turns b.changes.items
      less = turns_carried b.changes.items i n.changes.items step settled.1

      by_progress : HasProgress before b → turns n.changes.items < before
      by_progress (inl fewer) = omega (arith, fewer, less)
      by_progress (inr p) = let most : turns b.changes.items ≤ before = p.0 in omega (arith, most, less)
