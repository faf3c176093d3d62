use Rattle.std.proofs.Common.{◌≡◌, drop, None, ℕ}
use Rattle.std.specs.BTreeMap.{get}
use Rattle.std.specs.Option.{unwrap_or}
use Rattle.std.specs.Ordering.{nat_cmp}
use Rattle.edit_words.specs.declared.row.Row.{Row}
use Rattle.edit_rules.specs.Claims.{claims_behind}
use Rattle.edit_words.specs.Found.{sight_in}
use Rattle.edit_rules.specs.Tables.{names_mode}
use Rattle.edit_rules.proofs.refusal.file_modes_of.Given as goal

abbrev pub invariant-loop-row : goal.invariant-loop-row
invariant-loop-row l =
    (n : ℕ) → claims_behind (names_mode (sight_in l.findings) n) (λ (o : Row). unwrap_or o.mode 0) (get nat_cmp l.modes.claims n) (drop l.row-index l.rows)
    ≡ claims_behind (names_mode (sight_in l.findings) n) (λ (o : Row). unwrap_or o.mode 0) None l.rows
