use Rattle.std.proofs.Common.{List, ap, ◌∙◌, subst, sym}
use Rattle.edit_words.specs.declared.row.Row.{Row}
use Rattle.edit_words.specs.Counting.{counts_of}
use Rattle.edit_words.specs.Found.{sight_in}
use Rattle.edit_words.specs.Sight.{sight_of}
use Rattle.edit_rules.specs.Plans.{AreMissing, AreModes, victims_of}
use Rattle.edit_words.specs.WellFormed.{CanBeMade}
use Rattle.edit_check.proofs.CheckLemmas.{made}
use Rattle.edit_check.proofs.SameSight.{counts_seen, missing_seen, modes_seen, victims_seen}
use Rattle.edit_check.proofs.laws.changes_can_be_made_where_it_stands.Goals as goal

pub returns-clause-made : goal.returns-clause-made
returns-clause-made c t tree stands =
    let k = c.args.checked.now in
    subst (λ (rs : List Row). CanBeMade t k.confirmed rs) k.rows_are (made k.findings t k.confirmed k.table.rows.items tree stands k.covered k.taken)

pub returns-clause-counted : goal.returns-clause-counted
returns-clause-counted c t stands =
    let k = c.args.checked.now in
    k.counted ∙ counts_seen k.findings (sight_of t) k.table.rows.items stands k.covered ∙ ap (counts_of (sight_of t)) k.rows_are

pub returns-clause-listed : goal.returns-clause-listed
returns-clause-listed c t stands =
    let k = c.args.checked.now in
    let s = sight_of t in
    record {
      victims = ap (victims_of (sight_in k.findings)) (sym k.rows_are) ∙ victims_seen k.findings s k.table.rows.items stands k.covered ∙ ap (victims_of s) k.rows_are;
      missing = λ ps missing. subst (λ (rs : List Row). AreMissing s rs ps) k.rows_are
          (missing_seen k.findings s k.table.rows.items ps stands k.covered (subst (λ (rs : List Row). AreMissing (sight_in k.findings) rs ps) (sym k.rows_are) missing));
      modes = λ ms modes. subst (λ (rs : List Row). AreModes s rs ms) k.rows_are
          (modes_seen k.findings s k.table.rows.items ms stands k.covered (subst (λ (rs : List Row). AreModes (sight_in k.findings) rs ms) (sym k.rows_are) modes));
    }
