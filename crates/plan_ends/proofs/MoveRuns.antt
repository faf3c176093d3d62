-- The moves can be done one behind the other, and each tree on the way holds only entries.
use Rattle.std.proofs.Common.{◌≡◌, ◌⊎◌, inl, inr, ℕ, ◌+◌, ◌==◌, Bool, true, false, cond, not, List, refl, sym, ◌∙◌, ap, subst, Option, Some, None}
use Rattle.std.specs.Prelude.{Contains}
use Rattle.std.proofs.lemmas.Option.{none-some}
use Rattle.dired_text.specs.Paths.{Names}
use Rattle.commit_steps.specs.declared.step.Step.{Step}
use Rattle.commit_steps.specs.Staging.{staged, temporary, held, fresh_name}
use Rattle.commit_steps.specs.Steps.{IsOutside, IsStepPath}
use Rattle.tree_core.specs.FileTree.{FileTree, renamed}
use Rattle.edit_words.specs.declared.row.Row.{Row}
use Rattle.edit_words.specs.Rows.{written}
use Rattle.edit_laws.proofs.ListLemmas.{filter_parts, map_parts}
use Rattle.edit_laws.proofs.RowLemmas.{written-to, written-none}
use Rattle.plan_moves.specs.Waiting.{Waiting, without, put_away}
use Rattle.plan_moves.specs.Moves.{Moves, over, carry, knot, Spots, spot_of}
use Rattle.plan_laws.specs.Laws.{LeadOn}
use Rattle.plan_laws.proofs.MovesLead.{outside_path}
use Rattle.plan_laws.proofs.Setting.{ArePlannedRows}
use Rattle.plan_laws.proofs.SoFarApart.{not_reserved, source_not_reserved, to_not_root, source_not_root}
use Rattle.plan_laws.proofs.StagedNames.{staged_name, held_no_temporary, temporary_no_fresh}
use Rattle.step_trees.specs.Entries.{IsTemporary}
use Rattle.step_trees.specs.Leads.{HoldsEntries}
use Rattle.step_trees.specs.Steps.{after}
use Rattle.plan_ends.specs.Runs.{IsRun}
use Rattle.plan_ends.proofs.EntriesKept.{out, to_temporary, entries_renamed}

module _ (t : FileTree) (rs : List Row) (set : ArePlannedRows t rs) where
  -- no path that a change writes is in the staging directory
  pub written_outside : (r : Row) → Contains rs r → IsOutside (written r)
  written_outside r listed = by_to r.to refl
    where
      by_source : r.to ≡ None → (s : Option Names) → r.source ≡ s → IsOutside (written r)
      by_source to None source = let w = set.are.created r listed source in absurd (none-some w.0 (sym to ∙ w.1))
      by_source to (Some s) source = subst IsOutside (sym (written-none r s source to)) (outside_path s (source_not_root t rs set r s listed source) (λ rest is. source_not_reserved t rs set r s rest listed source is))

      by_to : (o : Option Names) → r.to ≡ o → IsOutside (written r)
      by_to (Some w) to = subst IsOutside (sym (written-to r w to)) (outside_path w (to_not_root t rs set r w listed to) (λ rest is. not_reserved t rs set r w rest listed to is))
      by_to None to = by_source to r.source refl

  abbrev AreListed : List Waiting → Type 0
  AreListed ws = (w : Waiting) → Contains ws w → Contains rs w.row

  listed_without : (w : Waiting) (ws : List Waiting) → AreListed ws → AreListed (without w ws)
  listed_without w ws all v c = all v (filter_parts (λ (x : Waiting). not (x.row.line == w.row.line)) ws v c).0

  listed_put : (d : Waiting) (ws : List Waiting) → AreListed ws → AreListed (put_away d ws)
  listed_put d ws all v c =
      let m = map_parts (λ (x : Waiting). cond (x.row.line == d.row.line) (record x { is_away = true }) x) ws v c in
      subst (Contains rs) (row_same m.0 (m.0.row.line == d.row.line) ∙ ap (λ (x : Waiting). x.row) m.2) (all m.0 m.1)
    where
      row_same : (x : Waiting) (b : Bool) → x.row ≡ (cond b (record x { is_away = true }) x).row
      row_same x true = refl
      row_same x false = refl

  entry_temporary : (n : ℕ) → IsStepPath (staged (temporary n)) → IsTemporary (temporary n)
  entry_temporary n (inl outside) = absurd (outside refl)
  entry_temporary n (inr entry) = by_name (staged_name _ _ entry.is) entry.entry.named
    where
      by_name : temporary n ≡ entry.name → (entry.name ≡ temporary entry.entry.number) ⊎ ((entry.name ≡ held entry.entry.number) ⊎ (entry.name ≡ fresh_name entry.entry.number)) → IsTemporary (temporary n)
      by_name is (inl put) = record { number = entry.entry.number; small = entry.entry.small; named = is ∙ put }
      by_name is (inr (inl h)) = absurd (held_no_temporary entry.entry.number n (sym h ∙ sym is))
      by_name is (inr (inr f)) = absurd (temporary_no_fresh n entry.entry.number (is ∙ f))

  pub moves_run : (P : FileTree → Type 0) (n : ℕ) (spots : Spots) (ws : List Waiting) (steps : List Step) (now : FileTree) → Moves n spots ws steps → AreListed ws → HoldsEntries now → LeadOn P now steps
      → IsRun now steps × P (after steps now)
  moves_run P n spots ws steps now (over _ _ _ none_ready no_deepest) all holds leads = (holds, leads)
  moves_run P n spots ws steps now (carry _ _ _ w more has is_ready_now moves) all holds (can, lawful, leads) =
      let next = moves_run P n spots (without w ws) more (renamed now (spot_of spots w) (written w.row)) moves (listed_without w ws all)
      (entries_renamed now (spot_of spots w) (written w.row) holds can lawful.0 (out (written_outside w.row (all w has)))) leads in
      ((holds, lawful, (can.stands, can.absent, can.parent_is_dir), next.0), next.1)
  moves_run P n spots ws steps now (knot _ _ _ d more none_ready is_deepest moves) all holds (can, lawful, leads) =
      let next = moves_run P (n + 1) _ (put_away d ws) more (renamed now (spot_of spots d) (staged (temporary n))) moves (listed_put d ws all)
      (entries_renamed now (spot_of spots d) (staged (temporary n)) holds can lawful.0 (to_temporary (temporary n) (entry_temporary n lawful.1) refl)) leads in
      ((holds, lawful, (can.stands, can.absent, can.parent_is_dir), next.0), next.1)
