use Rattle.std.proofs.Common.{◌≡◌, ◌∙◌, ap, sym, subst, List, ℕ}
use Rattle.commit_steps.specs.declared.step.Step.{Step}
use Rattle.commit_journal.specs.declared.version.Version.TheVariants.{Two}
use Rattle.commit_journal.specs.Grammar.{IsJournalOf}
use Rattle.commit_journal.specs.Spelling.{CanEncode, journal_text}
use Rattle.commit_journal.proofs.GrammarLemmas.{journal_spells}
use Rattle.commit_journal.proofs.WriteLemmas.{nothing_written, one_written, all_written}
use Rattle.commit_journal.proofs.encoding.encode.Goals as goal

pub loop-step-init : goal.loop-step-init
loop-step-init c =
    nothing_written c.as_slice-steps.result.now c.in_ok-out.out.items c.push_four.new.out.items c.new-base.result.items c.in_ok-out.ensures.items c.in_ok-push_four.ensures c.new-base.ensures.items

pub loop-step-preserved : goal.loop-step-preserved
loop-step-preserved c =
    one_written c.as_slice-steps.result.now c.loop-step.step-index c.loop-step.out.items c.loop-step.base.items c.step-item.result c.deref.result.now c.push_step.new.out.items c.in_ok-base.base.items
    c.loop-step.invariant c.loop-step-test.true c.step-item.is c.deref.ensures.value c.in_ok-base.ensures.text c.in_ok-base.ensures.first c.in_ok-base.ensures.paths

pub returns-clause-journal : goal.returns-clause-journal
returns-clause-journal c =
    let steps = c.as_slice-steps.result.now in
    let fits : CanEncode steps = subst CanEncode (sym c.as_slice-steps.ensures) c.requires in
    let all = all_written steps c.loop-step.step-index c.loop-step.out.items c.loop-step.base.items c.loop-step.invariant c.loop-step-test.false fits in
    let text : c.from_vec.result ≡ journal_text Two steps = c.from_vec.ensures ∙ all.1 in
    subst (λ (s : List Step). IsJournalOf Two s c.from_vec.result) c.as_slice-steps.ensures (subst (λ (l : List ℕ). IsJournalOf Two steps l) (sym text) (journal_spells Two steps all.0))

pub returns-clause-text : goal.returns-clause-text
returns-clause-text c =
    let steps = c.as_slice-steps.result.now in
    let fits : CanEncode steps = subst CanEncode (sym c.as_slice-steps.ensures) c.requires in
    let all = all_written steps c.loop-step.step-index c.loop-step.out.items c.loop-step.base.items c.loop-step.invariant c.loop-step-test.false fits in
    c.from_vec.ensures ∙ all.1 ∙ ap (journal_text Two) c.as_slice-steps.ensures
