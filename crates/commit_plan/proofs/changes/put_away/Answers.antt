use Rattle.std.proofs.Common.{◌≡◌, true, false, ap, ◌∙◌, rules}
use Rattle.std.proofs.Math.ListN.{set}
use Rattle.std.proofs.lemmas.List.{get_or-set_same, set-set}
use Rattle.std.proofs.lemmas.Option.{get_or_from_slice_get}
use Rattle.dired_text.specs.Paths.{Names}
use Rattle.commit_steps.specs.declared.step.Step.TheVariants.{Rename}
use Rattle.commit_steps.specs.Staging.{staged, temporary}
use Rattle.edit_words.specs.declared.row.Row.{Row}
use Rattle.commit_plan.specs.declared.changes.Stand.TheVariants.{Waits}
use Rattle.commit_plan.specs.declared.changes.Change.{Change}
use Rattle.commit_plan.specs.Stands.{change}
use Rattle.commit_plan.proofs.MovedLemmas.{at_of, to_of}
use Rattle.commit_plan.proofs.changes.put_away.Goals as goal

pub returns : goal.returns
unfolding temporary
returns c =
    let cs = c.args.changes.now.items in
    let i = c.args.i in
    let w = c.requires.waits in
    let first : c.index_mut.result.now ≡ change w.0 (Waits false w.1 w.2) = c.index_mut.ensures.value ∙ get_or_from_slice_get cs i _ c.index_mut.result.now w.3 in
    let old : Waits c.in-Waits.away c.in-Waits.at c.in-Waits.to ≡ Waits false w.1 w.2 = search (rules, first) in
    let a : Change = change c.index_mut.result.now.row c.replace.new.dest in
    let second : c.index_mut-in-Waits.result.now ≡ a = c.index_mut-in-Waits.ensures.value ∙ get_or-set_same cs i a c.index_mut-in-Waits.result.now c.requires.within in
    let row : c.index_mut-in-Waits.result.now.row ≡ w.0 = ap (λ (x : Change). x.row) second ∙ ap (λ (x : Change). x.row) first in
    let spot : c.in_ok-spot.spot ≡ staged (temporary c.args.number) = search rules in
    let copy : c.in_ok-to_spot.to_spot ≡ staged (temporary c.args.number) = search (rules, spot) in
    record {
      row = w.0;
      at = w.1;
      to = w.2;
      was = w.3;
      now = set-set cs i a _
          ∙ (ap (λ (r : Row). set cs i (change r (Waits true c.in_ok-spot.spot c.in-Waits.to))) row
          ∙ (ap (λ (p : Names). set cs i (change w.0 (Waits true p c.in-Waits.to))) spot
          ∙ ap (λ (p : Names). set cs i (change w.0 (Waits true (staged (temporary c.args.number)) p))) (ap to_of old)));
      by = ap (λ (p : Names). Rename p c.in_ok-to_spot.to_spot) (ap at_of old) ∙ ap (λ (p : Names). Rename w.1 p) copy;
    }
