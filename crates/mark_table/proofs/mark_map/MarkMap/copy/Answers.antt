use Rattle.std.proofs.Common.{sym, ap, ◌∙◌, subst}
use Rattle.std.specs.FinMap as fin
use Rattle.std.proofs.lemmas.Map.Iter.{rest_more, rest_all}
use Rattle.std.specs.Map.Iter.{deref_pair}
use Rattle.dired_text.specs.Paths.{Names}
use Rattle.mark_table.specs.PathMarks.{PathMarks}
use Rattle.mark_table.proofs.MarkLemmas.{Entries, CopiesTo, copy_goes_on, copy_ends, copied_mark, started}
use Rattle.mark_table.proofs.mark_map.MarkMap.copy.Goals as goal

pub loop-path-init : goal.loop-path-init
loop-path-init c =
    started c.self.inside.marks _ _ _ (c.into_iter-path-iterator.ensures.into_iter_gives ∙ c.iter-path-items.ensures.rest) c.iter-path-items.ensures.ordered c.self.invariant c.new-copy.ensures c.self.view_is

pub insert-requires : goal.insert-requires
insert-requires c =
    let rest = rest_more deref_pair _ _ _ _ c.in-Some.is c.next.ensures.steps in
    copied_mark _ c.next.new.self c.loop-path.copy c.args.self.now (subst (λ (es : Entries). CopiesTo es c.loop-path.copy c.args.self.now) rest c.loop-path.invariant)

pub loop-path-preserved : goal.loop-path-preserved
loop-path-preserved c =
    let rest = rest_more deref_pair _ _ _ _ c.in-Some.is c.next.ensures.steps in
    subst (λ (m : PathMarks). CopiesTo c.next.new.self m c.args.self.now)
    (sym (c.in_ok-insert.ensures.ok ∙ ap (λ (p : Names). fin.insert c.loop-path.copy p c.in-Some.mark.now) c.in_ok-copy.ensures))
    (copy_goes_on _ c.next.new.self c.loop-path.copy c.args.self.now (subst (λ (es : Entries). CopiesTo es c.loop-path.copy c.args.self.now) rest c.loop-path.invariant))

pub returns : goal.returns
returns c =
    let rest = rest_all deref_pair _ _ _ c.in-None.is c.next.ensures.steps in
    copy_ends _ _ (subst (λ (es : Entries). CopiesTo es c.loop-path.copy c.args.self.now) rest c.loop-path.invariant)
