use Rattle.std.proofs.Common.{◌≡◌, ◌++◌, ◌∷◌, [], List, ℕ, Option, Some, None, refl, sym, subst, ◌∙◌, rules}
use Rattle.std.proofs.lemmas.List.{append-nil}
use Rattle.commit_steps.specs.declared.step.Step.{Step}
use Rattle.commit_plan.specs.Stands.{turns}
use Rattle.commit_plan.specs.Boards.{HaveTurns, IsSettled}
use Rattle.commit_plan.proofs.ChangeLemmas.{contains_head}
use Rattle.commit_plan.proofs.RunLemmas.{IsRound, empty_is, round_begins, round_goes, rounds_fall, some_waits, waits_in}
use Rattle.commit_plan.proofs.board.Board.carry_ready.Goals as goal

pub loop-i-init : goal.loop-i-init
loop-i-init c =
    let b = c.loop-alloc.self in
    let inv = c.loop-alloc.invariant in
    let none : c.replace-queued.new.dest.items ≡ [] = search rules in
    let taken : c.into_iter-i-iterator.result.rest.items ≡ b.queue.items = search rules in
    round_begins c.args.self.now.changes.items c.args.steps.now.items (turns b.changes.items) b _ c.loop-alloc.steps.items c.into_iter-i-iterator.result.rest.items inv.sound inv.have inv.run refl refl refl refl none taken

pub settle-requires-clause-within : goal.settle-requires-clause-within
settle-requires-clause-within c =
    let steps : c.loop-i.i-iterator.rest.items ≡ c.in-Some.i ∷ c.next.new.self.rest.items = search rules in
    let round = subst (λ (l : List ℕ). IsRound c.args.self.now.changes.items c.args.steps.now.items (turns c.loop-alloc.self.changes.items) c.loop-i.self l c.loop-i.steps.items) steps c.loop-i.invariant in
    round.within c.in-Some.i (contains_head c.in-Some.i c.next.new.self.rest.items)

pub loop-i-preserved-in-Continue-branch-3 : goal.loop-i-preserved-in-Continue-branch-3
loop-i-preserved-in-Continue-branch-3 c =
    let steps : c.loop-i.i-iterator.rest.items ≡ c.in-Some.i ∷ c.next.new.self.rest.items = search rules in
    let round = subst (λ (l : List ℕ). IsRound c.args.self.now.changes.items c.args.steps.now.items (turns c.loop-alloc.self.changes.items) c.loop-i.self l c.loop-i.steps.items) steps c.loop-i.invariant in
    let is : c.in_ok-step.field-0 ≡ Some c.in-Some-2.step = search rules in
    let settled = subst (λ (o : Option Step). IsSettled c.loop-i.self c.in-Some.i c.settle.new.self o) is c.in_ok-step.ensures.settled in
    let pushed : c.push.new.self.items ≡ c.loop-i.steps.items ++ c.in-Some-2.step ∷ [] = search rules in
    round_goes c.args.self.now.changes.items c.args.steps.now.items (turns c.loop-alloc.self.changes.items) c.loop-i.self c.settle.new.self c.in-Some.i c.next.new.self.rest.items c.loop-i.steps.items c.push.new.self.items (Some c.in-Some-2.step)
    c.in_ok-step.ensures.sound c.in_ok-step.ensures.turns settled pushed round

pub loop-i-preserved : goal.loop-i-preserved
loop-i-preserved c =
    let steps : c.loop-i.i-iterator.rest.items ≡ c.in-Some.i ∷ c.next.new.self.rest.items = search rules in
    let round = subst (λ (l : List ℕ). IsRound c.args.self.now.changes.items c.args.steps.now.items (turns c.loop-alloc.self.changes.items) c.loop-i.self l c.loop-i.steps.items) steps c.loop-i.invariant in
    let is : c.in_ok-step.field-0 ≡ None = search rules in
    let settled = subst (λ (o : Option Step). IsSettled c.loop-i.self c.in-Some.i c.settle.new.self o) is c.in_ok-step.ensures.settled in
    round_goes c.args.self.now.changes.items c.args.steps.now.items (turns c.loop-alloc.self.changes.items) c.loop-i.self c.settle.new.self c.in-Some.i c.next.new.self.rest.items c.loop-i.steps.items c.loop-i.steps.items None
    c.in_ok-step.ensures.sound c.in_ok-step.ensures.turns settled (sym (append-nil c.loop-i.steps.items)) round

pub loop-alloc-preserved : goal.loop-alloc-preserved
loop-alloc-preserved c =
    let done : c.loop-i.i-iterator.rest.items ≡ [] = empty_is c.loop-i.i-iterator.rest.items (sym c.loop-i.i-iterator.rest.ok.0 ∙ c.in-None.ensures.steps.0) in
    record {
      sound = c.loop-i.invariant.sound;
      have = subst (λ (l : List ℕ). HaveTurns c.loop-i.self l) done c.loop-i.invariant.have;
      run = c.loop-i.invariant.run;
    }

pub loop-alloc-smaller : goal.loop-alloc-smaller
loop-alloc-smaller c =
    let queued : waits_in c.loop-alloc.self.queue.items ≡ 1 = some_waits c.loop-alloc.self.queue.items (search rules) in
    rounds_fall (turns c.loop-alloc.self.changes.items) c.loop-alloc.self c.loop-i.self refl queued c.loop-i.invariant.progress
