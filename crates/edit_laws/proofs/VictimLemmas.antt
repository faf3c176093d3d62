-- Victims are what the new paths of rows replace.
use Rattle.std.proofs.Common.{◌≡◌, ◌↔◌, Bool, true, not, ◌&&◌, List, ap, ◌∙◌}
use Rattle.std.specs.Prelude.{Contains}
use Rattle.std.proofs.lemmas.Bool.{and_parts, not-true}
use Rattle.dired_text.specs.Paths.{Names}
use Rattle.tree_core.specs.FileTree.{FileTree, Stands}
use Rattle.edit_words.specs.declared.row.Row.{Row}
use Rattle.edit_words.specs.Rows.{is_at, is_source, is_written, is_victim}
use Rattle.edit_words.specs.WellFormed.{IsVictimOf}
use Rattle.edit_laws.proofs.ListLemmas.{any_parts}
use Rattle.edit_laws.proofs.RowLemmas.{is_at-true, is_written-from}

pub victims_are : (t : FileTree) (rs : List Row) (p : Names) → ((is_victim rs p ≡ true) × Stands t p) ↔ ((r : Row) × Contains rs r × IsVictimOf t rs r p)
victims_are t rs p = (
  λ victim.
      let parts = and_parts (is_written rs p) (not (is_source rs p)) victim.0 in
      let r = any_parts (λ (r : Row). is_at p r.to) rs parts.0 in
      (r.0, r.1, (is_at-true p r.0.to r.2, victim.1, not-true _ parts.1)),
  λ by. (ap (λ (b : Bool). b && not (is_source rs p)) (is_written-from rs by.0 p by.1 by.2.0) ∙ ap not by.2.2, by.2.1),
)
