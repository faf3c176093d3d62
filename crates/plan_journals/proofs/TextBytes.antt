-- The bytes of a journal.
use Rattle.std.proofs.Common.{◌≡◌, ℕ, ◌+◌, ◌-◌, ◌≤◌, List, [], ◌∷◌, ◌++◌, length, drop, refl, arith, length-append}
use Rattle.std.proofs.lemmas.List.{length-drop}
use Rattle.dired_text.specs.Paths.{Names, joined, path_bytes}
use Rattle.commit_steps.specs.declared.step.Step.{Step}
use Rattle.commit_steps.specs.declared.step.Step.TheVariants.{MakeDir, Rename, Mode}
use Rattle.commit_steps.specs.Steps.{all_bytes, first_path}
use Rattle.commit_journal.specs.declared.version.Version.TheVariants.{Two}
use Rattle.commit_journal.specs.Grammar.{four_bytes, two_bytes, magic}
use Rattle.commit_journal.specs.Sharing.{shared_bytes}
use Rattle.commit_journal.specs.Spelling.{path_text, step_text, steps_text, journal_text}
use Rattle.edit_words.specs.Refusals.{total}
use Rattle.plan_journals.proofs.MoveCosts.{weight}

pub bytes_are : (steps : List Step) → all_bytes steps ≡ total (weight 0 0) steps
bytes_are [] = refl
bytes_are (MakeDir p ∷ steps) = let more = bytes_are steps in omega arith
bytes_are (Rename from to ∷ steps) = let more = bytes_are steps in omega arith
bytes_are (Mode p old new ∷ steps) = let more = bytes_are steps in omega arith

pub number_is : (steps : List Step) → length steps ≤ total (weight 1 1) steps
number_is [] = omega arith
number_is (MakeDir p ∷ steps) = let more = number_is steps in omega arith
number_is (Rename from to ∷ steps) = let more = number_is steps in omega arith
number_is (Mode p old new ∷ steps) = let more = number_is steps in omega arith

-- two numbers of four bytes, and at most the path
path_text_bytes : (base : List ℕ) (p : Names) → length (path_text Two base p) ≤ path_bytes p + 8
unfolding path_text
path_text_bytes base p =
    let k = shared_bytes base (joined p) in
    let first = length-append (four_bytes k ++ four_bytes (length (joined p) - k)) (drop k (joined p)) in
    let second = length-append (four_bytes k) (four_bytes (length (joined p) - k)) in
    let a : length (four_bytes k) ≡ 4 = refl in
    let b : length (four_bytes (length (joined p) - k)) ≡ 4 = refl in
    let rest = length-drop k (joined p) in
    omega arith

step_text_bytes : (base : List ℕ) (step : Step) → length (step_text Two base step) ≤ weight 17 9 step
unfolding step_text
step_text_bytes base (MakeDir p) = let path = path_text_bytes base p in omega arith
step_text_bytes base (Rename from to) =
    let first = path_text_bytes base from in
    let second = path_text_bytes (joined from) to in
    let both = length-append (path_text Two base from) (path_text Two (joined from) to) in
    omega arith
step_text_bytes base (Mode p old new) =
    let path = path_text_bytes base p in
    let first = length-append (path_text Two base p ++ two_bytes old) (two_bytes new) in
    let second = length-append (path_text Two base p) (two_bytes old) in
    let a : length (two_bytes old) ≡ 2 = refl in
    let b : length (two_bytes new) ≡ 2 = refl in
    omega arith

steps_text_bytes : (base : List ℕ) (steps : List Step) → length (steps_text Two base steps) ≤ total (weight 17 9) steps
unfolding steps_text
steps_text_bytes base [] = omega arith
steps_text_bytes base (step ∷ steps) =
    let one = step_text_bytes base step in
    let more = steps_text_bytes (joined (first_path step)) steps in
    let both = length-append (step_text Two base step) (steps_text Two (joined (first_path step)) steps) in
    omega arith

pub journal_bytes : (steps : List Step) → length (journal_text Two steps) ≤ total (weight 17 9) steps + 8
unfolding journal_text
journal_bytes steps =
    let body = steps_text_bytes [] steps in
    let first = length-append (magic Two ++ four_bytes (length steps)) (steps_text Two [] steps) in
    let second = length-append (magic Two) (four_bytes (length steps)) in
    let a : length (magic Two) ≡ 4 = refl in
    let b : length (four_bytes (length steps)) ≡ 4 = refl in
    omega arith
