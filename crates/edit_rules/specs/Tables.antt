-- What is found of changes by their paths.
use Rattle.std.specs.Prelude.{◌≡◌, ℕ, Bool, false, ◌&&◌, List, Option, Some, None, is_some}
use Rattle.std.specs.Option.{option_map, unwrap_or}
use Rattle.std.specs.Ordering.{nat_cmp}
use Rattle.std.specs.BTreeMap.{BTreeMap, get}
use Rattle.std.specs.BTreeSet.{BTreeSet, contains}
use Rattle.path_map.specs.declared.map.PathMap.{PathMap}
use Rattle.path_map.specs.Walks.{value_at}
use Rattle.dired_text.specs.Paths.{Names, path_cmp}
use Rattle.edit_words.specs.declared.row.Row.{Row}
use Rattle.edit_words.specs.declared.row.Route.{Route}
use Rattle.edit_rules.specs.declared.claims.Claim.{Claim}
use Rattle.edit_rules.specs.declared.table.Table.{Table}
use Rattle.edit_rules.specs.declared.victims.Confirmations.{Confirmations}
use Rattle.tree_core.specs.declared.changes.Confirmed.{Confirmed}
use Rattle.std.specs.List.{list_any}
use Rattle.edit_words.specs.Sight.{Sight, number_at}
use Rattle.edit_words.specs.Refusals.{are_same}
use Rattle.edit_words.specs.Rows.{is_removed, is_written, is_same_path, row_from, route_to, written}
use Rattle.edit_rules.specs.Claims.{claims_behind}

-- what becomes of each source
abbrev pub AreRoutes : PathMap Route → List Row → Type 0
AreRoutes routes rs = (p : Names) → value_at routes p ≡ option_map (λ (r : Row). route_to p r.to) (row_from rs p)

-- the lines that write each path
abbrev pub AreWriters : PathMap Claim → List Row → Type 0
AreWriters claims rs = (p : Names) → value_at claims p ≡ claims_behind (λ (o : Row). is_same_path (written o) p) (λ (o : Row). o.line) None rs

abbrev pub is_moved_by : Names → Option Names → Option Names → Bool
is_moved_by p None to = false
is_moved_by p (Some source) None = false
is_moved_by p (Some source) (Some to) = is_same_path source p

-- the lines that give each source a new path
abbrev pub AreMovers : PathMap Claim → List Row → Type 0
AreMovers claims rs = (p : Names) → value_at claims p ≡ claims_behind (λ (o : Row). is_moved_by p o.source o.to) (λ (o : Row). o.line) None rs

-- the new paths
abbrev pub AreNewPaths : BTreeSet Names → List Row → Type 0
AreNewPaths new_paths rs = (p : Names) → contains path_cmp new_paths p ≡ is_written rs p

-- the paths that are to be removed
abbrev pub AreRemoved : BTreeSet Names → List Row → Type 0
AreRemoved removed rs = (p : Names) → contains path_cmp removed p ≡ is_removed rs p

-- what a table finds is what its rows say
pub record IsTable (table : Table) : Type 0 where
  pub routes : AreRoutes table.routes table.rows.items
  pub writers : AreWriters table.writers.claims table.rows.items
  pub movers : AreMovers table.movers.claims table.rows.items
  pub new_paths : AreNewPaths table.new_paths table.rows.items
  pub removed : AreRemoved table.removed table.rows.items

abbrev pub names_mode : Sight → ℕ → Row → Bool
names_mode sight number o = are_same (Some number) (number_at sight o.source) && is_some o.mode

-- the modes that lines name for each file
abbrev pub AreFileModes : Sight → BTreeMap ℕ Claim → List Row → Type 0
AreFileModes sight claims rs = (number : ℕ) → get nat_cmp claims number ≡ claims_behind (names_mode sight number) (λ (o : Row). unwrap_or o.mode 0) None rs

-- what is confirmed, found by its path
pub record AreConfirmations (confirmations : Confirmations) (confirmed : Confirmed) : Type 0 where
  pub all : confirmations.all ≡ confirmed.all
  pub paths : (p : Names) → contains path_cmp confirmations.paths p ≡ list_any (is_same_path p) confirmed.paths
