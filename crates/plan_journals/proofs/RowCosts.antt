-- What the steps for one change cost.
use Rattle.std.proofs.Common.{◌≡◌, ℕ, ◌+◌, ◌*◌, ◌≤◌, not, ◌||◌, ◌&&◌, Bool, true, false, cond, List, [], length, refl, sym, ◌∙◌, ap, subst, arith, length-append, Option, Some, None, is_some}
use Rattle.std.specs.Prelude.{Contains}
use Rattle.std.proofs.lemmas.Option.{none-some}
use Rattle.dired_text.specs.Paths.{Names, path_bytes}
use Rattle.tree_core.specs.declared.edit.Shown.{Shown}
use Rattle.tree_core.specs.declared.changes.Changes.{Changes}
use Rattle.tree_core.specs.declared.changes.Changes.TheVariants.{Edits, Removals, Creations}
use Rattle.edit_words.specs.declared.row.Row.{Row}
use Rattle.edit_words.specs.Place.{place}
use Rattle.edit_words.specs.Refusals.{total, missing_above, own_bytes_by, own_bytes, row_bytes, victim_at, victim_of}
use Rattle.edit_words.specs.Rows.{rows, edit_row, removal_row, creation_row, written, written_of, is_source, route_of}
use Rattle.edit_words.specs.Sight.{Sight, number_at}
use Rattle.edit_laws.proofs.ListLemmas.{map_parts}
use Rattle.edit_rules.specs.Plans.{ModeChange, mode_change_by, mode_change_of, names_place}
use Rattle.plan_moves.specs.Plan.{held_by, is_given_up, listed}
use Rattle.plan_journals.proofs.Totals.{total-append, total_both, of_some}
use Rattle.plan_journals.proofs.MoveCosts.{way_out, move_cost}

-- what is removed has neither a new path nor a new mode
abbrev pub RemovedAlone : Row → Type 0
RemovedAlone r = r.removes ≡ true → (r.to ≡ None) × (r.mode ≡ None)

pub removed_alone : (changes : Changes) (r : Row) → Contains (rows changes) r → RemovedAlone r
removed_alone (Edits edits) r c removes = let m = map_parts edit_row edits r c in let both : false ≡ true = ap (λ (x : Row). x.removes) m.2 ∙ removes in absurd cc
removed_alone (Removals removals) r c removes = let m = map_parts removal_row removals r c in (ap (λ (x : Row). x.to) (sym m.2), ap (λ (x : Row). x.mode) (sym m.2))
removed_alone (Creations creations) r c removes = let m = map_parts creation_row creations r c in let both : false ≡ true = ap (λ (x : Row). x.removes) m.2 ∙ removes in absurd cc

-- what it costs to put a path aside, to make a directory, and to change a mode
abbrev pub hold_cost : ℕ → Names → ℕ
hold_cost c p = path_bytes p + (26 + c)

abbrev pub dir_cost : ℕ → Names → ℕ
dir_cost d p = path_bytes p + d

abbrev pub mode_cost : ℕ → ModeChange → ℕ
mode_cost c m = path_bytes m.0 + c

module _ (c : ℕ) (sight : Sight) (rs : List Row) where
  victim_cost : (o : Option Names) → total (hold_cost c) (listed (victim_at sight rs o)) ≤ of_some (hold_cost c) o
  victim_cost None = omega arith
  victim_cost (Some p) = go (is_some (sight.at p) && not (is_source rs p))
    where
      go : (b : Bool) → total (hold_cost c) (listed (cond b (Some p) None)) ≤ path_bytes p + (26 + c)
      go true = omega arith
      go false = omega arith

  abbrev place_cost : Bool → Option Names → ℕ
  place_cost true o = 0
  place_cost false None = 0
  place_cost false (Some s) = path_bytes (place (route_of rs) s) + c

  mode_some : (names : Bool) (source : Option Names) (was : Option Shown) (mode : Option ℕ) → of_some (mode_cost c) (mode_change_by rs names source was mode) ≤ place_cost false source
  mode_some names None was mode = omega arith
  mode_some names (Some s) None mode = omega arith
  mode_some names (Some s) (Some was) None = omega arith
  mode_some true (Some s) (Some was) (Some mode) = omega arith
  mode_some false (Some s) (Some was) (Some mode) = omega arith

  mode_none : (names : Bool) (source : Option Names) (was : Option Shown) → of_some (mode_cost c) (mode_change_by rs names source was None) ≤ 0
  mode_none names None was = omega arith
  mode_none names (Some s) None = omega arith
  mode_none names (Some s) (Some was) = omega arith

  mode_changed : (r : Row) → RemovedAlone r → of_some (mode_cost c) (mode_change_of sight rs r) ≤ place_cost r.removes r.source
  mode_changed r alone = go r.removes refl
    where
      go : (b : Bool) → r.removes ≡ b → of_some (mode_cost c) (mode_change_of sight rs r) ≤ place_cost b r.source
      go false e = mode_some (names_place sight rs r (number_at sight r.source)) r.source r.was r.mode
      go true e = subst (λ (o : Option ℕ). of_some (mode_cost c) (mode_change_by rs (names_place sight rs r (number_at sight r.source)) r.source r.was o) ≤ 0) (sym (alone e).1)
          (mode_none (names_place sight rs r (number_at sight r.source)) r.source r.was)

  abbrev moved_by : Bool → Option Names → Option Names → ℕ
  moved_by fresh source to = cond (fresh || is_some to) (way_out c fresh source + (path_bytes (written_of source to) + (26 + c))) 0

  -- the kinds of changes one by one
  by_kind : (source to : Option Names) (retargets removes : Bool) → (removes ≡ true → to ≡ None)
      → of_some (hold_cost c) to + total (hold_cost c) (cond (retargets || removes) (listed source) []) + moved_by (retargets || not (is_some source)) source to + place_cost removes source
      ≤ 2 * own_bytes_by rs (written_of source to) removes source + (104 + 4 * c)
  by_kind None None true true alone = omega arith
  by_kind None None true false alone = omega arith
  by_kind None None false true alone = omega arith
  by_kind None None false false alone = omega arith
  by_kind None (Some w) true true alone = absurd (none-some w (sym (alone refl)))
  by_kind None (Some w) true false alone = omega arith
  by_kind None (Some w) false true alone = absurd (none-some w (sym (alone refl)))
  by_kind None (Some w) false false alone = omega arith
  by_kind (Some s) None true true alone = omega arith
  by_kind (Some s) None true false alone = omega arith
  by_kind (Some s) None false true alone = omega arith
  by_kind (Some s) None false false alone = omega arith
  by_kind (Some s) (Some w) true true alone = absurd (none-some w (sym (alone refl)))
  by_kind (Some s) (Some w) true false alone = omega arith
  by_kind (Some s) (Some w) false true alone = absurd (none-some w (sym (alone refl)))
  by_kind (Some s) (Some w) false false alone = omega arith

  abbrev pub own_cost : Row → ℕ
  own_cost r = total (hold_cost c) (held_by sight rs r) + move_cost c c r + of_some (mode_cost c) (mode_change_of sight rs r)

  own_costs : (r : Row) → RemovedAlone r → own_cost r ≤ 2 * own_bytes rs r + (104 + 4 * c)
  own_costs r alone =
      let both = total-append (hold_cost c) (listed (victim_of sight rs r)) (cond (is_given_up r) (listed r.source) []) in
      let victim = victim_cost r.to in
      let mode = mode_changed r alone in
      let all = by_kind r.source r.to r.retargets r.removes (λ e. (alone e).0) in
      omega arith

  -- with the directories that are made for it
  pub row_costs : (d : ℕ) (r : Row) → RemovedAlone r
      → own_cost r + total (dir_cost d) (missing_above sight r) ≤ 2 * row_bytes sight rs r + ((104 + 4 * c) + total (λ (p : Names). d) (missing_above sight r))
  row_costs d r alone =
      let own = own_costs r alone in
      let both = total_both path_bytes (λ (p : Names). d) (missing_above sight r) in
      omega arith

-- at most two paths are put aside for a change
pub held_few : (sight : Sight) (rs : List Row) (r : Row) → length (held_by sight rs r) ≤ 2
held_few sight rs r =
    let both = length-append (listed (victim_of sight rs r)) (cond (is_given_up r) (listed r.source) []) in
    let victim = one (victim_of sight rs r) in
    let given = one_if (is_given_up r) r.source in
    omega arith
  where
    one : (o : Option Names) → length (listed o) ≤ 1
    one None = omega arith
    one (Some p) = omega arith

    one_if : (b : Bool) (o : Option Names) → length (cond b (listed o) []) ≤ 1
    one_if true o = one o
    one_if false o = omega arith

-- the written path is counted
pub written_counted : (rs : List Row) (r : Row) → path_bytes (written r) ≤ own_bytes rs r
written_counted rs r = go r.removes r.source
  where
    go : (removes : Bool) (source : Option Names) → path_bytes (written r) ≤ own_bytes_by rs (written r) removes source
    go true source = omega arith
    go false None = omega arith
    go false (Some s) = omega arith
