use Rattle.std.proofs.Common.{◌≡◌, ◌-◌, ◌∙◌, length, None, is_some, true, refl, sym, rules, arith, Err}
use Rattle.recovery_calls.specs.declared.ending.Ending.TheVariants.{Sealed}
use Rattle.recovery_calls.specs.Endings.{ended}
use Rattle.recovery_calls.specs.Works.{entries_of, parts_ahead}
use Rattle.recovery_calls.proofs.CourseLemmas.{course_all, followed, follows_as, follows_err, follows_last, follows_some, none_of_it}
use Rattle.recovery_calls.proofs.EndingLemmas.{sealing_is}
use Rattle.recovery_calls.proofs.SpanLemmas.{ahead_last, ahead_many, ahead_markers}
use Rattle.recovery_courses.specs.Ends.{forward_from as forward_course, sealing}
use Rattle.recovery_courses.specs.Parts.{redone_parts}
use Rattle.tree_core.specs.History.{History}
use Rattle.recovery_calls.proofs.recovering.forward_from.Goals as goal

pub redo_parts-requires-clause-work : goal.redo_parts-requires-clause-work
redo_parts-requires-clause-work g c = c.requires.work

pub redo_parts-requires-clause-way : goal.redo_parts-requires-clause-way
redo_parts-requires-clause-way g c = c.requires.way

pub redo_parts-requires-clause-marked : goal.redo_parts-requires-clause-marked
redo_parts-requires-clause-marked g c tells = c.requires.marked tells

pub returns-in_err-strange-clause-follows : goal.returns-in_err-strange-clause-follows
returns-in_err-strange-clause-follows g c tells = let T = g.T.Tree in
    let work = c.args.work.now in
    let way = c.args.way.now in
    let n = length work.steps in
    let es = entries_of work in
    let began = T.history c.args.tree.now in
    let first = T.before_failed c.args.tree.now in
    let mid = T.history c.redo_parts.new.tree in
    let middle = T.before_failed c.redo_parts.new.tree in
    let whole = forward_course work.steps way.from es began in
    let course = redone_parts way.from (parts_ahead work way) began in
    let next = λ (h : History). sealing n es h in
    let begin = course_all whole began in
    let e = c.in_err-strange.field-0.0 in
    let is : c.from_residual.result ≡ Err e = search rules in
    follows_err whole began began mid first first middle course next begin refl c.from_residual.result e is (c.in_err-strange.ensures.follows tells)

pub returns-in_err-strange-clause-cause : goal.returns-in_err-strange-clause-cause
returns-in_err-strange-clause-cause g c = search rules

pub returns-then-is_some-clause-follows : goal.returns-then-is_some-clause-follows
returns-then-is_some-clause-follows g c tells = let T = g.T.Tree in
    let work = c.args.work.now in
    let way = c.args.way.now in
    let n = length work.steps in
    let es = entries_of work in
    let began = T.history c.args.tree.now in
    let first = T.before_failed c.args.tree.now in
    let mid = T.history c.redo_parts.new.tree in
    let middle = T.before_failed c.redo_parts.new.tree in
    let whole = forward_course work.steps way.from es began in
    let course = redone_parts way.from (parts_ahead work way) began in
    let next = λ (h : History). sealing n es h in
    let begin = course_all whole began in
    let some : is_some c.in_ok-strange.strange ≡ true = search rules in
    follows_some whole began began mid first first middle course next begin refl c.in_ok-strange.strange some (c.in_ok-strange.ensures.follows tells)

pub returns-then-is_some-clause-cause : goal.returns-then-is_some-clause-cause
returns-then-is_some-clause-cause g c = search rules

pub parts-requires : goal.parts-requires
parts-requires g c = let many = ahead_many c.args.work.now c.args.way.now c.requires.work c.requires.way in
    omega arith

pub marker-requires : goal.marker-requires
marker-requires g c = let many = ahead_many c.args.work.now c.args.way.now c.requires.work c.requires.way in
    let markers = ahead_markers c.args.work.now c.args.way.now c.requires.work c.requires.way in
    let parts : c.parts.result ≡ length c.args.way.now.places.items - 1 = c.parts.ensures in
    omega arith

pub end-requires-clause-work : goal.end-requires-clause-work
end-requires-clause-work g c = c.requires.work

pub end-requires-clause-marker : goal.end-requires-clause-marker
end-requires-clause-marker g c = c.marker.ensures ∙ ahead_last c.args.work.now c.args.way.now c.requires.work c.requires.way c.parts.result c.parts.ensures

pub end-requires-clause-marked : goal.end-requires-clause-marked
end-requires-clause-marked g c tells = let none : c.in_ok-strange.strange ≡ None = none_of_it c.in_ok-strange.strange (search rules) in
    c.in_ok-strange.ensures.marked tells none

pub returns-clause-follows : goal.returns-clause-follows
returns-clause-follows g c tells = let T = g.T.Tree in
    let work = c.args.work.now in
    let way = c.args.way.now in
    let n = length work.steps in
    let es = entries_of work in
    let began = T.history c.args.tree.now in
    let first = T.before_failed c.args.tree.now in
    let mid = T.history c.redo_parts.new.tree in
    let middle = T.before_failed c.redo_parts.new.tree in
    let whole = forward_course work.steps way.from es began in
    let course = redone_parts way.from (parts_ahead work way) began in
    let next = λ (h : History). sealing n es h in
    let begin = course_all whole began in
    let none : c.in_ok-strange.strange ≡ None = none_of_it c.in_ok-strange.strange (search rules) in
    let f = c.in_ok-strange.ensures.follows tells in
    let new = T.history c.end.new.tree in
    let behind = T.before_failed c.end.new.tree in
    follows_last whole began mid new first middle behind (next mid) (followed whole began began mid first first middle course next begin refl c.in_ok-strange.strange none f) f.ran.1 c.end.result
    (follows_as (ended Sealed n es mid) (next mid) mid new middle behind c.end.result (sym (sealing_is n es mid)) (c.end.ensures.follows tells))

pub returns-clause-cause : goal.returns-clause-cause
returns-clause-cause g c = search rules
