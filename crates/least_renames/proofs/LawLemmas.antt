-- The laws, for crates above to cite.
use Rattle.std.proofs.Common.{ℕ, ◌≤◌, List, length, ap, sym, subst}
use Rattle.commit_steps.specs.declared.step.Step.{Step}
use Rattle.edit_words.specs.Rows.{rows}
use Rattle.plan_moves.specs.Waiting.{waiting}
use Rattle.plan_moves.specs.Moves.{Moves, fresh_spots}
use Rattle.least_renames.specs.Laws.{KnotsAreCycles, CyclesAreFound, OneDirectoryIsFlat, MovesAreLeast, PlansAreLeast, PlansAreLeastFromMore, PlansAreMoves}
use Rattle.least_renames.proofs.FlatLemmas.{knots_counted, cycles_found}
use Rattle.least_renames.proofs.LeastLemmas.{one_directory_is_flat, moves_are_least}
use Rattle.least_renames.proofs.PlanLemmas.{plan_is_moves}

pub knots_are_cycles : KnotsAreCycles
knots_are_cycles = λ t changes cycles asked fine flat all. knots_counted t changes asked fine flat cycles all

pub cycles_are_found : CyclesAreFound
cycles_are_found = cycles_found

pub flat_in_one_directory : OneDirectoryIsFlat
flat_in_one_directory = one_directory_is_flat

pub fewest_moves : MovesAreLeast
fewest_moves = λ t changes moves tree asked fine run dir flat others can does.
    moves_are_least t t changes tree asked fine tree (λ p stands. stands) dir flat moves run others can does

pub fewest_steps_from : PlansAreLeastFromMore
fewest_steps_from = λ t start changes steps tree asked fine start_tree more plan dir flat others can does.
    subst (λ (n : ℕ). n ≤ length others) (ap (λ (l : List Step). length l) (sym (plan_is_moves dir t changes flat steps plan)))
    (moves_are_least t start changes tree asked fine start_tree more dir flat plan.moves plan.moved others can does)

pub fewest_steps : PlansAreLeast
fewest_steps = λ t changes steps tree asked fine plan. fewest_steps_from t t changes steps tree asked fine tree (λ p stands. stands) plan

pub steps_are_moves : PlansAreMoves
steps_are_moves = λ dir t changes steps flat plan.
    subst (Moves 0 (fresh_spots 0 (rows changes)) (waiting (rows changes))) (sym (plan_is_moves dir t changes flat steps plan)) plan.moved
