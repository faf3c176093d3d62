use Rattle.std.proofs.Common.{◌≡◌, ◌-◌, ◌∙◌, ap, sym, arith, [], length, ℕ, List, Some, Ok}
use Rattle.std.proofs.lemmas.List.{length-append}
use Rattle.commit_steps.specs.declared.step.Step.{Step}
use Rattle.commit_steps.specs.Steps.{step_bytes}
use Rattle.commit_journal.specs.Grammar.{max_all_bytes}
use Rattle.commit_journal.specs.Reading.{steps_at, next_at, Fails}
use Rattle.commit_journal.specs.Spelling.{step_text}
use Rattle.commit_journal.proofs.StepLemmas.{next_takes}
use Rattle.commit_journal.proofs.LoopLemmas.{starts, goes_on, stops, more_stands, is_done}
use Rattle.commit_journal.proofs.decoding.read_steps.Goals as goal

pub loop-init : goal.loop-init
loop-init c = record {
  read = starts c.args.version c.args.count c.args.from.now c.new-steps.result.items c.new-base.result.items c.new-steps.ensures.items c.new-base.ensures.items;
  within = c.requires;
  fit = λ i. omega (arith, c.type_inv.from i);
}

pub returns-in-Err : goal.returns-in-Err
returns-in-Err c =
    let none : Fails c.in-Err.refusal (next_at c.args.version c.loop.base.items c.loop.left c.loop.rest.now) = rw (← c.deref.ensures.value) c.in-Err.ensures in
    stops c.args.version c.loop.steps.items c.loop.base.items c.loop.left c.args.count c.loop.counter c.args.bytes.now c.loop.rest.now c.in-Err.refusal c.at.result
    (steps_at c.args.version [] max_all_bytes c.args.count c.args.from.now) c.loop-test.true none c.loop.invariant.read c.at.ensures

pub loop-preserved : goal.loop-preserved
loop-preserved c =
    let read = c.in-Ok.read in
    let next : next_at c.args.version c.loop.base.items c.loop.left c.loop.rest.now ≡ Some (read.step, read.first.items, read.rest.now) =
    ap (λ (b : List ℕ). next_at c.args.version b c.loop.left c.loop.rest.now) (sym c.deref.ensures.value) ∙ c.in-Ok.ensures in
    let takes = next_takes c.args.version c.loop.base.items c.loop.left c.loop.rest.now (read.step, read.first.items, read.rest.now) c.loop.invariant.fit next in
    let len = ap (λ (l : List ℕ). length l) takes.read.takes.parts ∙ length-append (step_text c.args.version c.loop.base.items read.step) read.rest.now in
    let pushed = simp c.if-is_err.ensures.negation at c.push.ensures.items in
    let left : c.saturating_sub-left.result ≡ c.loop.left - step_bytes read.step = c.saturating_sub-left.ensures ∙ ap (λ (n : ℕ). c.loop.left - n) c.path_bytes.ensures.bytes in
    record {
      read = rw (pushed, left) (goes_on c.args.version c.loop.steps.items c.loop.base.items c.loop.left c.args.count c.loop.counter c.loop.rest.now read.step read.first.items read.rest.now
          (steps_at c.args.version [] max_all_bytes c.args.count c.args.from.now) c.loop-test.true next c.loop.invariant.read);
      within = omega (arith, c.loop.invariant.within);
      fit = takes.read.takes.rest_fits;
    }

pub returns-then-not-is_empty : goal.returns-then-not-is_empty
returns-then-not-is_empty c =
    more_stands c.args.version c.loop.steps.items c.loop.base.items c.loop.left c.args.count c.loop.counter c.args.bytes.now c.loop.rest.now c.at-then-not-is_empty.result
    (steps_at c.args.version [] max_all_bytes c.args.count c.args.from.now) c.loop-test.false (sym c.is_empty.ensures ∙ c.if-not-is_empty.true) c.loop.invariant.read c.at-then-not-is_empty.ensures

pub returns : goal.returns
returns c =
    is_done c.args.version c.loop.steps.items c.loop.base.items c.loop.left c.args.count c.loop.counter c.loop.rest.now
    (steps_at c.args.version [] max_all_bytes c.args.count c.args.from.now) c.loop-test.false (sym c.is_empty.ensures ∙ c.if-not-is_empty.false) c.loop.invariant.read
    ∙ ap (λ (l : List Step). Ok l) (sym c.from_vec.ensures)
