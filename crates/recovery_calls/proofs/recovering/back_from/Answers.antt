use Rattle.std.proofs.Common.{◌≡◌, ◌-◌, ◌∙◌, length, None, is_some, true, refl, sym, ap, rules, arith, Err}
use Rattle.recovery_calls.specs.declared.ending.Ending.TheVariants.{Undone}
use Rattle.recovery_calls.specs.Endings.{ended}
use Rattle.recovery_calls.specs.Works.{entries_of, parts_left}
use Rattle.recovery_calls.proofs.CourseLemmas.{course_all, course_as, followed, follows_as, follows_err, follows_last, follows_some, none_of_it}
use Rattle.recovery_calls.proofs.EndingLemmas.{revoking_is}
use Rattle.recovery_calls.proofs.BackLemmas.{undone_is}
use Rattle.recovery_calls.proofs.SpanLemmas.{left_first, left_markers}
use Rattle.recovery_courses.specs.Course.{Course, and_then}
use Rattle.recovery_courses.specs.Ends.{back_from as back_course, revoking}
use Rattle.recovery_courses.specs.Parts.{undone_parts}
use Rattle.tree_core.specs.History.{History}
use Rattle.recovery_calls.proofs.recovering.back_from.Goals as goal

pub undo_parts-requires-clause-work : goal.undo_parts-requires-clause-work
undo_parts-requires-clause-work g c = c.requires.work

pub undo_parts-requires-clause-way : goal.undo_parts-requires-clause-way
undo_parts-requires-clause-way g c = c.requires.way

pub undo_parts-requires-clause-marked : goal.undo_parts-requires-clause-marked
undo_parts-requires-clause-marked g c tells = c.requires.marked tells

pub returns-in_err-strange-clause-follows : goal.returns-in_err-strange-clause-follows
returns-in_err-strange-clause-follows g c tells = let T = g.T.Tree in
    let work = c.args.work.now in
    let way = c.args.way.now in
    let n = length work.steps in
    let es = entries_of work in
    let began = T.history c.args.tree.now in
    let first = T.before_failed c.args.tree.now in
    let mid = T.history c.undo_parts.new.tree in
    let middle = T.before_failed c.undo_parts.new.tree in
    let whole = back_course work.steps way.from es began in
    let course = undone_parts 0 (parts_left work way) began in
    let next = λ (h : History). revoking es h in
    let begin = course_as whole began began whole (and_then course began next) (course_all whole began) (ap (λ (x : Course). and_then x began next) (undone_is work.steps way.from began c.requires.way.within)) in
    let e = c.in_err-strange.field-0.0 in
    let is : c.from_residual.result ≡ Err e = search rules in
    follows_err whole began began mid first first middle course next begin refl c.from_residual.result e is (c.in_err-strange.ensures.follows tells)

pub returns-in_err-strange-clause-cause : goal.returns-in_err-strange-clause-cause
returns-in_err-strange-clause-cause g c = search rules

pub returns-then-is_some-clause-follows : goal.returns-then-is_some-clause-follows
returns-then-is_some-clause-follows g c tells = let T = g.T.Tree in
    let work = c.args.work.now in
    let way = c.args.way.now in
    let n = length work.steps in
    let es = entries_of work in
    let began = T.history c.args.tree.now in
    let first = T.before_failed c.args.tree.now in
    let mid = T.history c.undo_parts.new.tree in
    let middle = T.before_failed c.undo_parts.new.tree in
    let whole = back_course work.steps way.from es began in
    let course = undone_parts 0 (parts_left work way) began in
    let next = λ (h : History). revoking es h in
    let begin = course_as whole began began whole (and_then course began next) (course_all whole began) (ap (λ (x : Course). and_then x began next) (undone_is work.steps way.from began c.requires.way.within)) in
    let some : is_some c.in_ok-strange.strange ≡ true = search rules in
    follows_some whole began began mid first first middle course next begin refl c.in_ok-strange.strange some (c.in_ok-strange.ensures.follows tells)

pub returns-then-is_some-clause-cause : goal.returns-then-is_some-clause-cause
returns-then-is_some-clause-cause g c = search rules

pub marker-requires : goal.marker-requires
marker-requires g c = let markers = left_markers c.args.work.now c.args.way.now c.requires.work c.requires.way in
    omega arith

pub end-requires-clause-work : goal.end-requires-clause-work
end-requires-clause-work g c = c.requires.work

pub end-requires-clause-marker : goal.end-requires-clause-marker
end-requires-clause-marker g c = c.marker.ensures ∙ left_first c.args.work.now c.args.way.now c.requires.work c.requires.way

pub end-requires-clause-marked : goal.end-requires-clause-marked
end-requires-clause-marked g c tells = let none : c.in_ok-strange.strange ≡ None = none_of_it c.in_ok-strange.strange (search rules) in
    c.in_ok-strange.ensures.marked tells none

pub returns-clause-follows : goal.returns-clause-follows
returns-clause-follows g c tells = let T = g.T.Tree in
    let work = c.args.work.now in
    let way = c.args.way.now in
    let n = length work.steps in
    let es = entries_of work in
    let began = T.history c.args.tree.now in
    let first = T.before_failed c.args.tree.now in
    let mid = T.history c.undo_parts.new.tree in
    let middle = T.before_failed c.undo_parts.new.tree in
    let whole = back_course work.steps way.from es began in
    let course = undone_parts 0 (parts_left work way) began in
    let next = λ (h : History). revoking es h in
    let begin = course_as whole began began whole (and_then course began next) (course_all whole began) (ap (λ (x : Course). and_then x began next) (undone_is work.steps way.from began c.requires.way.within)) in
    let none : c.in_ok-strange.strange ≡ None = none_of_it c.in_ok-strange.strange (search rules) in
    let f = c.in_ok-strange.ensures.follows tells in
    let new = T.history c.end.new.tree in
    let behind = T.before_failed c.end.new.tree in
    follows_last whole began mid new first middle behind (next mid) (followed whole began began mid first first middle course next begin refl c.in_ok-strange.strange none f) f.ran.1 c.end.result
    (follows_as (ended Undone n es mid) (next mid) mid new middle behind c.end.result (sym (revoking_is n es mid)) (c.end.ensures.follows tells))

pub returns-clause-cause : goal.returns-clause-cause
returns-clause-cause g c = search rules
