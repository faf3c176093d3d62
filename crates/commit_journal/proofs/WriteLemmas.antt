-- Steps that are written one after the other.
use Rattle.std.proofs.Common.{◌≡◌, ℕ, zero, suc, ◌+◌, ◌-◌, ◌^◌, ◌<◌, ◌≤◌, List, [], ◌∷◌, ◌++◌, length, take, get_or, refl, sym, ap, subst, ◌∙◌, append_assoc, arith}
use Rattle.std.specs.List.{AllByRecursion}
use Rattle.std.proofs.lemmas.List.{append-nil, take_more, take_all}
use Rattle.dired_text.specs.Paths.{joined}
use Rattle.commit_steps.specs.declared.step.Step.{Step}
use Rattle.commit_steps.specs.Steps.{IsLawfulStep, HasPaths, first_path, step_bytes, all_bytes}
use Rattle.commit_journal.specs.declared.version.Version.TheVariants.{Two}
use Rattle.commit_journal.specs.Grammar.{four_bytes, magic, max_all_bytes}
use Rattle.commit_journal.specs.Spelling.{step_text, steps_text, journal_text, CanSpell, CanEncode}
use Rattle.commit_journal.proofs.TextLemmas.{all_push}
use Rattle.commit_journal.proofs.GrammarLemmas.{base_after, steps_text-push, base_after-push, all_bytes-push, all_last}

-- the magic and the count
unfoldable pub head : ℕ → List ℕ
head count = magic Two ++ four_bytes count

-- so many of the steps are written, and the last one's first path is the base
pub record Written (steps : List Step) (i : ℕ) (out base : List ℕ) : Type 0 where
  pub text : out ≡ head (length steps) ++ steps_text Two [] (take i steps)
  pub is_base : base ≡ base_after [] (take i steps)
  pub paths : AllByRecursion HasPaths (take i steps)

pub nothing_written : (steps : List Step) (first out base : List ℕ) → first ≡ magic Two → out ≡ first ++ four_bytes (length steps) → base ≡ [] → Written steps 0 out base
unfolding head steps_text
nothing_written steps first out base f o b = record {
  text = o ∙ ap (λ (l : List ℕ). l ++ four_bytes (length steps)) f ∙ sym (append-nil (magic Two ++ four_bytes (length steps)));
  is_base = b;
  paths = tt;
}

pub one_written : (steps : List Step) (i : ℕ) (out base : List ℕ) (step : Step) (against next last : List ℕ) → Written steps i out base → i < length steps → step ≡ get_or steps i step → against ≡ base
    → next ≡ out ++ step_text Two against step → last ≡ joined (first_path step) → HasPaths step → Written steps (i + 1) next last
one_written steps i out base step against next last w within is b n l paths =
    let front = take i steps in
    let more : take (i + 1) steps ≡ front ++ step ∷ [] = take_more steps i step within ∙ ap (λ (s : Step). front ++ s ∷ []) (sym is) in
    let text : next ≡ head (length steps) ++ steps_text Two [] (front ++ step ∷ []) =
    n ∙ ap (λ (t : List ℕ). t ++ step_text Two against step) w.text ∙ ap (λ (t : List ℕ). (head (length steps) ++ steps_text Two [] front) ++ step_text Two t step) (b ∙ w.is_base)
    ∙ append_assoc (head (length steps)) (steps_text Two [] front) (step_text Two (base_after [] front) step)
    ∙ ap (λ (t : List ℕ). head (length steps) ++ t) (sym (steps_text-push Two [] front step)) in
    record {
      text = text ∙ ap (λ (ss : List Step). head (length steps) ++ steps_text Two [] ss) (sym more);
      is_base = l ∙ sym (base_after-push [] front step) ∙ ap (base_after []) (sym more);
      paths = subst (AllByRecursion HasPaths) (sym more) (all_push HasPaths front step w.paths paths);
    }

pub all_written : (steps : List Step) (i : ℕ) (out base : List ℕ) → Written steps i out base → length steps ≤ i → CanEncode steps → CanSpell Two steps × (out ≡ journal_text Two steps)
unfolding head journal_text
all_written steps i out base w past h =
    let all = take_all i steps past in
    (record { few = h.few; lawful = h.lawful; paths = subst (AllByRecursion HasPaths) all w.paths; within = h.within }, w.text ∙ ap (λ (ss : List Step). magic Two ++ four_bytes (length steps) ++ steps_text Two [] ss) all)

-- ---- whether they can be written

-- so many of the steps are lawful, and so many bytes are left of the sum
pub record Tried (steps : List Step) (i left : ℕ) : Type 0 where
  pub lawful : AllByRecursion IsLawfulStep (take i steps)
  pub spent : all_bytes (take i steps) + left ≡ max_all_bytes

pub nothing_tried : (steps : List Step) → Tried steps 0 max_all_bytes
nothing_tried steps = record { lawful = tt; spent = refl }

one_more : (steps : List Step) (i : ℕ) (step : Step) → i < length steps → step ≡ get_or steps i step → take (i + 1) steps ≡ take i steps ++ step ∷ []
one_more steps i step within is = take_more steps i step within ∙ ap (λ (s : Step). take i steps ++ s ∷ []) (sym is)

pub one_tried : (steps : List Step) (i left : ℕ) (step : Step) (bytes : ℕ) → Tried steps i left → i < length steps → step ≡ get_or steps i step → IsLawfulStep step → bytes ≡ step_bytes step → bytes ≤ left
    → Tried steps (i + 1) (left - bytes)
one_tried steps i left step bytes t within is lawful e le =
    let more = one_more steps i step within is in
    let sum = all_bytes-push (take i steps) step in
    record {
      lawful = subst (AllByRecursion IsLawfulStep) (sym more) (all_push IsLawfulStep (take i steps) step t.lawful lawful);
      spent = (let spent = t.spent in rw more (omega arith));
    }

pub all_tried : (steps : List Step) (i left : ℕ) → Tried steps i left → length steps ≤ i → length steps < 2 ^ 32 → CanEncode steps
all_tried steps i left t past few =
    let all = take_all i steps past in
    let spent = subst (λ (ss : List Step). all_bytes ss + left ≡ max_all_bytes) all t.spent in
    record { lawful = subst (AllByRecursion IsLawfulStep) all t.lawful; few = few; within = omega arith }

all_front : {X : Type 0} (P : X → Type 0) (i : ℕ) (xs : List X) → AllByRecursion P xs → AllByRecursion P (take i xs)
all_front P zero xs all = tt
all_front P (suc i) [] all = tt
all_front P (suc i) (x ∷ xs) all = (all.0, all_front P i xs all.1)

bytes_front : (i : ℕ) (steps : List Step) → all_bytes (take i steps) ≤ all_bytes steps
bytes_front zero steps = omega arith
bytes_front (suc i) [] = omega arith
bytes_front (suc i) (step ∷ steps) = let behind = bytes_front i steps in omega arith

-- the step at a place is lawful and within what is left, where all can be written
pub tried_here : (steps : List Step) (i left : ℕ) (step : Step) → Tried steps i left → i < length steps → step ≡ get_or steps i step → CanEncode steps → IsLawfulStep step × (step_bytes step ≤ left)
tried_here steps i left step t within is h =
    let more = one_more steps i step within is in
    let lawful = subst (AllByRecursion IsLawfulStep) more (all_front IsLawfulStep (i + 1) steps h.lawful) in
    let sum = all_bytes-push (take i steps) step in
    let most = subst (λ (ss : List Step). all_bytes ss ≤ all_bytes steps) more (bytes_front (i + 1) steps) in
    let spent = t.spent in
    let whole = h.within in
    (all_last IsLawfulStep (take i steps) step lawful, omega arith)
