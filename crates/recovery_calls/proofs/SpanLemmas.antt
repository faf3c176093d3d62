-- The parts of a way that a recovery takes with it: their steps, their places and the markers there.
use Rattle.std.proofs.Common.{◌≡◌, ℕ, zero, suc, ◌+◌, ◌-◌, ◌≤◌, ◌<◌, List, [], ◌∷◌, ◌++◌, length, take, drop, get_or, sym, ◌∙◌, ap, subst, arith}
use Rattle.std.proofs.lemmas.List.{append-nil, length-drop, length-map, length-take-le, take-append-drop}
use Rattle.std.specs.List.{AllByRecursion}
use Rattle.commit_calls.specs.Cuts.{group_at}
use Rattle.commit_steps.specs.declared.step.Step.{Step}
use Rattle.commit_steps.specs.Staging.{at_marker, back_marker, staged}
use Rattle.recovery_calls.specs.declared.way.Way.{Way}
use Rattle.recovery_calls.specs.declared.work.Work.{Work}
use Rattle.recovery_calls.specs.Underway.{NamesAmong}
use Rattle.recovery_calls.specs.Works.{IsWork, LeadsBack, LeadsForward, entries_of, parts_ahead, parts_left, place_of}
use Rattle.recovery_calls.proofs.CutLemmas.{AllSome, ahead_some, joined_ahead, joined_left, left_some, some_at}
use Rattle.recovery_calls.proofs.PartLemmas.{AreSteps}
use Rattle.recovery_calls.proofs.WayLemmas.{at_path, back_path, place_is, place_last, place_more, place_within, places_many, slice_parents, slice_steps}
use Rattle.staging_names.specs.declared.entry_name.EntryName.{EntryName}
use Rattle.step_looks.specs.Looks.{AreParents, parents_of}
use Rattle.step_trees.specs.Groups.{joined}
use Rattle.step_trees.specs.Steps.{IsStep}

all_first : {X : Type 0} (P : X → Type 0) (xs ys : List X) → AllByRecursion P (xs ++ ys) → AllByRecursion P xs
all_first P [] ys all = tt
all_first P (x ∷ xs) ys all = (all.0, all_first P xs ys all.1)

all_last : {X : Type 0} (P : X → Type 0) (xs ys : List X) → AllByRecursion P (xs ++ ys) → AllByRecursion P ys
all_last P [] ys all = all
all_last P (x ∷ xs) ys all = all_last P xs ys all.1

all_group : (P : Step → Type 0) (gs : List (List Step)) (k : ℕ) → AllByRecursion P (joined gs) → AllByRecursion P (group_at k gs)
all_group P [] k all = tt
all_group P (g ∷ gs) zero all = all_first P g (joined gs) all
all_group P (g ∷ gs) (suc k) all = all_group P gs k (all_last P g (joined gs) all)

-- all of these steps, by some of them
all_drop : (P : Step → Type 0) (n : ℕ) (steps : List Step) → AllByRecursion P steps → AllByRecursion P (drop n steps)
all_drop P n steps all = all_last P (take n steps) (drop n steps) (subst (AllByRecursion P) (sym (take-append-drop n steps)) all)

all_take : (P : Step → Type 0) (n : ℕ) (steps : List Step) → AllByRecursion P steps → AllByRecursion P (take n steps)
all_take P n steps all = all_first P (take n steps) (drop n steps) (subst (AllByRecursion P) (sym (take-append-drop n steps)) all)

pub all_steps : (work : Work) → IsWork work → AreSteps (entries_of work) work.steps
all_steps work is = record { lawful = is.steps; among = is.among }

pub steps_slice : (es : List EntryName) (steps : List Step) (from count : ℕ) → AreSteps es steps → AreSteps es (take count (drop from steps))
steps_slice es steps from count are = record {
  lawful = all_take IsStep count (drop from steps) (all_drop IsStep from steps are.lawful);
  among = all_take (NamesAmong es) count (drop from steps) (all_drop (NamesAmong es) from steps are.among);
}

pub parents_many : (work : Work) → IsWork work → length work.parents.items ≡ length work.steps
parents_many work is = ap length is.parents ∙ length-map work.steps parents_of

-- What code reads of part number i, which lies between these two places.
pub record Span (work : Work) (gs : List (List Step)) (k i from end : ℕ) : Type 0 where
  pub from_is : from ≡ place_of k gs i
  pub end_is : end ≡ place_of k gs (i + 1)
  pub long : end ≡ from + length (group_at i gs)
  pub some : 0 < length (group_at i gs)
  pub rises : from ≤ end
  pub within : end ≤ length work.steps
  pub steps : take (end - from) (drop from work.steps) ≡ group_at i gs
  pub parents : AreParents (group_at i gs) (take (end - from) (drop from work.parents.items))
  pub are : AreSteps (entries_of work) (group_at i gs)

span_of : (work : Work) → IsWork work → (gs : List (List Step)) → AllSome gs → (k : ℕ) (behind : List Step) → drop k work.steps ≡ joined gs ++ behind → k + length (joined gs) ≤ length work.steps
    → (i from end : ℕ) → i < length gs → from ≡ place_of k gs i → end ≡ place_of k gs (i + 1) → Span work gs k i from end
span_of work is gs all k behind split le i from end lt from_is end_is =
    let more = place_more k gs i lt in
    let last = place_within k gs (i + 1) in
    let cut = slice_steps work.steps k gs behind split i lt from end from_is end_is in
    record {
      from_is = from_is;
      end_is = end_is;
      long = omega arith;
      some = some_at gs i all lt;
      rises = omega arith;
      within = omega arith;
      steps = cut;
      parents = slice_parents work.steps work.parents.items (end - from) from (group_at i gs) is.parents cut;
      are = subst (AreSteps (entries_of work)) cut (steps_slice (entries_of work) work.steps from (end - from) (all_steps work is));
    }

-- ---- forward

module _ (work : Work) (way : Way) (is : IsWork work) (leads : LeadsForward work.steps way) where
  abbrev pub ahead : List (List Step)
  ahead = parts_ahead work way

  pub ahead_many : length way.places.items ≡ suc (length ahead)
  ahead_many = places_many way.places.items way.from way.from ahead leads.places

  pub ahead_markers : length way.markers.items ≡ suc (length ahead)
  ahead_markers = ap length leads.markers ∙ length-map way.places.items (λ n. staged (at_marker n)) ∙ ahead_many

  ahead_place : (i : ℕ) → i ≤ length ahead → get_or way.places.items i 0 ≡ place_of way.from ahead i
  ahead_place i le = ap (λ (l : List ℕ). get_or l i 0) leads.places ∙ place_is way.from ahead i le

  pub ahead_marker : (i : ℕ) → i ≤ length ahead → get_or way.markers.items i [] ≡ staged (at_marker (place_of way.from ahead i))
  ahead_marker i le = let many = ahead_many in at_path way.places.items way.markers.items i (place_of way.from ahead i) leads.markers (omega arith) (ahead_place i le)

  ahead_count : way.from + length (joined ahead) ≡ length work.steps
  ahead_count =
      let e : length (joined ahead) ≡ length (drop way.from work.steps) = ap length (joined_ahead work.steps way.from leads.within) in
      let d = length-drop way.from work.steps in
      let le = leads.within in
      omega arith

  pub ahead_end : place_of way.from ahead (length ahead) ≡ length work.steps
  ahead_end = place_last way.from ahead ∙ ahead_count

  pub ahead_span : (i from end : ℕ) → i < length ahead → from ≡ get_or way.places.items i 0 → end ≡ get_or way.places.items (i + 1) 0 → Span work ahead way.from i from end
  ahead_span i from end lt from_is end_is =
      let count = ahead_count in
      span_of work is ahead (ahead_some work.steps way.from) way.from [] (sym (joined_ahead work.steps way.from leads.within) ∙ sym (append-nil (joined ahead))) (omega arith) i from end lt
      (from_is ∙ ahead_place i (omega arith)) (end_is ∙ ahead_place (i + 1) (omega arith))

  pub ahead_last : (k : ℕ) → k ≡ length way.places.items - 1 → get_or way.markers.items k [] ≡ staged (at_marker (length work.steps))
  ahead_last k is =
      let many = ahead_many in
      let all : k ≡ length ahead = omega arith in
      ap (λ n. get_or way.markers.items n []) all ∙ ahead_marker (length ahead) (omega arith) ∙ ap (λ n. staged (at_marker n)) ahead_end

-- ---- back

module _ (work : Work) (way : Way) (is : IsWork work) (leads : LeadsBack work.steps way) where
  abbrev pub left : List (List Step)
  left = parts_left work way

  pub left_many : length way.places.items ≡ suc (length left)
  left_many = places_many way.places.items 0 0 left leads.places

  pub left_markers : length way.markers.items ≡ suc (length left)
  left_markers = ap length leads.markers ∙ length-map way.places.items (λ n. staged (back_marker n)) ∙ left_many

  left_place : (i : ℕ) → i ≤ length left → get_or way.places.items i 0 ≡ place_of 0 left i
  left_place i le = ap (λ (l : List ℕ). get_or l i 0) leads.places ∙ place_is 0 left i le

  pub left_marker : (i : ℕ) → i ≤ length left → get_or way.markers.items i [] ≡ staged (back_marker (place_of 0 left i))
  left_marker i le = let many = left_many in back_path way.places.items way.markers.items i (place_of 0 left i) leads.markers (omega arith) (left_place i le)

  left_count : length (joined left) ≡ way.from
  left_count =
      let e : length (joined left) ≡ length (take way.from work.steps) = ap length (joined_left work.steps way.from leads.within) in
      e ∙ length-take-le way.from work.steps leads.within

  pub left_end : place_of 0 left (length left) ≡ way.from
  left_end = place_last 0 left ∙ (let count = left_count in omega arith)

  pub left_span : (i from end : ℕ) → i < length left → from ≡ get_or way.places.items i 0 → end ≡ get_or way.places.items (i + 1) 0 → Span work left 0 i from end
  left_span i from end lt from_is end_is =
      let count = left_count in
      let le = leads.within in
      let split : drop 0 work.steps ≡ joined left ++ drop way.from work.steps =
      sym (take-append-drop way.from work.steps) ∙ ap (λ (l : List Step). l ++ drop way.from work.steps) (sym (joined_left work.steps way.from leads.within)) in
      span_of work is left (left_some work.steps way.from leads.within) 0 (drop way.from work.steps) split (omega arith) i from end lt
      (from_is ∙ left_place i (omega arith)) (end_is ∙ left_place (i + 1) (omega arith))

  pub left_last : (k : ℕ) → k ≡ length way.places.items - 1 → get_or way.markers.items k [] ≡ staged (back_marker way.from)
  left_last k is =
      let many = left_many in
      let all : k ≡ length left = omega arith in
      ap (λ n. get_or way.markers.items n []) all ∙ left_marker (length left) (omega arith) ∙ ap (λ n. staged (back_marker n)) left_end

  pub left_first : get_or way.markers.items 0 [] ≡ staged (back_marker 0)
  left_first = left_marker 0 (omega arith)
