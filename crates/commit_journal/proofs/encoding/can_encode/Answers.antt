use Rattle.std.proofs.Common.{◌∙◌, sym, subst, arith}
use Rattle.std.proofs.lemmas.Bool.{false≢true}
use Rattle.commit_journal.specs.Spelling.{CanEncode}
use Rattle.commit_journal.proofs.TextLemmas.{le_is, le_holds}
use Rattle.commit_journal.proofs.WriteLemmas.{nothing_tried, one_tried, all_tried, tried_here}
use Rattle.commit_journal.proofs.encoding.can_encode.Goals as goal
use Rattle.commit_journal.proofs.encoding.can_encode.Goals.{then-not-is_lawful-via-then-not-is_lawful, then-not-is_lawful-via-else-not-is_lawful+then-left-bytes}

pub loop-step-init : goal.loop-step-init
loop-step-init c = nothing_tried c.as_slice-steps.result.now

pub returns-then-not-is_lawful : goal.returns-then-not-is_lawful
returns-then-not-is_lawful c = (
  λ e. absurd (false≢true e),
  λ h.
      let here = tried_here c.as_slice-steps.result.now c.loop-step.step-index c.loop-step.left c.step-item.result c.loop-step.invariant c.loop-step-test.true c.step-item.is (subst CanEncode (sym c.as_slice-steps.ensures) h) in
      elim c.then-not-is_lawful.branch [
        | then-not-is_lawful-via-then-not-is_lawful w ↦ absurd (false≢true (sym w.if-not-is_lawful.true ∙ c.is_lawful.ensures.lawful.1 here.0))
        | then-not-is_lawful-via-else-not-is_lawful+then-left-bytes w ↦ absurd (let over = w.if-left-bytes.true in let bytes = c.path_bytes-bytes.ensures.bytes in omega (arith, here.1))
      ],
)

pub loop-step-preserved : goal.loop-step-preserved
loop-step-preserved c =
    one_tried c.as_slice-steps.result.now c.loop-step.step-index c.loop-step.left c.step-item.result c.path_bytes-bytes.result c.loop-step.invariant c.loop-step-test.true c.step-item.is
    (c.is_lawful.ensures.lawful.0 c.if-not-is_lawful.false) c.path_bytes-bytes.ensures.bytes c.if-left-bytes.false

pub returns : goal.returns
returns c = (
  λ e. subst CanEncode c.as_slice-steps.ensures (all_tried c.as_slice-steps.result.now c.loop-step.step-index c.loop-step.left c.loop-step.invariant c.loop-step-test.false (let most = le_is _ 4294967295 e in omega arith)),
  λ h. le_holds _ 4294967295 (let few = (subst CanEncode (sym c.as_slice-steps.ensures) h).few in omega arith),
)
