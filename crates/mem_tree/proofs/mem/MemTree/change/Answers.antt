use Rattle.std.proofs.Common.{refl, sym, ◌∙◌, ap, subst, rules, arith, inr, if◌then◌else◌}
use Rattle.tree_core.specs.FileTree.{CanDo}
use Rattle.mem_tree.specs.declared.mem.MemTree.{MemTree}
use Rattle.mem_tree.specs.MemHistory.{told, tree_told, history_told}
use Rattle.tree_core.specs.History.{Then}
use Rattle.mem_tree.proofs.RecordLemmas.{keeps-call, keeps_sound, history-push, counted-push, before-push, before-all}
use Rattle.mem_tree.proofs.ScheduleLemmas.{fate-ok, fate-failed, rest-ok, rest-failed, performs-ok, performs-err}
use Rattle.mem_tree.proofs.mem.MemTree.change.Goals as goal

pub invariant_of-self : goal.invariant_of-self
invariant_of-self c =
    let m = c.next_fate-fate.new.self in
    let kept = keeps-call m.store c.do_call.new.store m.began m.first_number m.next_number c.in-Some.later m.attempts.items c.do_call.new.attempts.items _ c.in-Ok.ensures.attempts refl c.in-Some.ensures.some c.in-Ok.ensures.tree c.in-Ok.ensures.times
    record { begins = m.begins; were = m.were; reads = m.reads; timed = m.timed; numbered = m.numbered } (subst (λ (o : MemTree). CanDo c.args.change (tree_told o)) (sym c.next_fate-fate.ensures.counted) c.requires) in
    record { begins = kept.begins; were = kept.were; sound = keeps_sound _ _ _ _ _ kept; reads = kept.reads; timed = kept.timed; numbered = kept.numbered; fits = search rules; counted = counted-push _ _ _ _ m.counted c.in-Ok.ensures.attempts }

pub invariant_of-self-in-Ok : goal.invariant_of-self-in-Ok
invariant_of-self-in-Ok c =
    let m = c.next_fate-fate.new.self in
    let kept = keeps-call m.store c.do_call.new.store m.began m.first_number m.next_number c.in-Some.later m.attempts.items c.do_call.new.attempts.items _ c.in-Ok.ensures.attempts refl c.in-Some.ensures.some c.in-Ok.ensures.tree c.in-Ok.ensures.times
    record { begins = m.begins; were = m.were; reads = m.reads; timed = m.timed; numbered = m.numbered } (subst (λ (o : MemTree). CanDo c.args.change (tree_told o)) (sym c.next_fate-fate.ensures.counted) c.requires) in
    record { begins = kept.begins; were = kept.were; sound = keeps_sound _ _ _ _ _ kept; reads = kept.reads; timed = kept.timed; numbered = kept.numbered; fits = search rules; counted = counted-push _ m.attempts.items _ _ (let is = c.len-before.ensures in omega arith) c.in-Ok.ensures.attempts }

pub returns-then-fate-clause-scheduled : goal.returns-then-fate-clause-scheduled
returns-then-fate-clause-scheduled c =
    let m = c.next_fate-fate.new.self in
    let history = history-push m.began m.first_number m.attempts.items _ _ c.in-Ok.ensures.attempts ∙ ap (λ (o : MemTree). if c.next_fate-fate.result.is_done then Then (history_told o) c.args.change else history_told o) c.next_fate-fate.ensures.counted in
    record {
      fate = inr (inr record {
        short = ap (λ (o : MemTree). o.short) c.next_fate-fate.ensures.counted;
        fate = fate-ok _ c.next_fate-fate.result.is_ok c.next_fate-fate.result.is_done _ _ _ c.next_fate-fate.ensures.ok c.next_fate-fate.ensures.done history c.if-fate.true;
      });
      rest = rest-ok c.args.call _ (told m) _ _ (ap told c.next_fate-fate.ensures.counted) (before-push _ _ _ _ _ _ m.counted c.in-Ok.ensures.attempts);
    }

pub returns-else-fate-clause-scheduled : goal.returns-else-fate-clause-scheduled
returns-else-fate-clause-scheduled c =
    let m = c.next_fate-fate.new.self in
    let history = history-push m.began m.first_number m.attempts.items _ _ c.in-Ok.ensures.attempts ∙ ap (λ (o : MemTree). if c.next_fate-fate.result.is_done then Then (history_told o) c.args.change else history_told o) c.next_fate-fate.ensures.counted in
    record {
      fate = inr (inr record {
        short = ap (λ (o : MemTree). o.short) c.next_fate-fate.ensures.counted;
        fate = fate-failed _ c.next_fate-fate.result.is_ok c.next_fate-fate.result.is_done _ _ _ c.next_fate-fate.ensures.ok c.next_fate-fate.ensures.done history c.if-fate.false;
      });
      rest = rest-failed c.args.call _ (told m) _ _ (ap told c.next_fate-fate.ensures.counted) _
          (before-all m.began m.first_number _ m.attempts.items _ _ (let is = c.len-before.ensures in omega arith) c.in-Ok.ensures.attempts ∙ ap tree_told c.next_fate-fate.ensures.counted) c.note.ensures;
    }

pub returns-then-fate-clause-history : goal.returns-then-fate-clause-history
returns-then-fate-clause-history c = performs-ok c.args.call c.args.change _ _ (returns-then-fate-clause-scheduled c)

pub returns-else-fate-clause-history : goal.returns-else-fate-clause-history
returns-else-fate-clause-history c = performs-err c.args.call c.args.change _ _ (returns-else-fate-clause-scheduled c)
