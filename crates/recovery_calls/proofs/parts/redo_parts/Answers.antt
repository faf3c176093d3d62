use Rattle.std.proofs.Common.{◌≡◌, ◌+◌, ◌-◌, ◌<◌, ◌≤◌, length, None, is_some, true, Err, refl, drop, ◌∙◌, ap, subst, rules, arith}
use Rattle.commit_calls.specs.Cuts.{group_at}
use Rattle.commit_steps.specs.Staging.{at_marker}
use Rattle.recovery_calls.specs.Works.{IsMarked, parts_ahead, place_of}
use Rattle.recovery_calls.proofs.CourseLemmas.{follows_done, follows_err, follows_some, none_of_it, some_none}
use Rattle.recovery_calls.proofs.LoopLemmas.{redo_first, redo_last, redo_next, redo_on}
use Rattle.recovery_calls.proofs.SpanLemmas.{ahead_end, ahead_many}
use Rattle.recovery_courses.specs.Parts.{redone_part, redone_parts}
use Rattle.recovery_calls.proofs.parts.redo_parts.Goals as goal

pub parts-k-end-requires : goal.parts-k-end-requires
parts-k-end-requires g c = let many = ahead_many c.args.work.now c.args.way.now c.requires.work c.requires.way in
    omega arith

pub loop-k-init : goal.loop-k-init
loop-k-init g c = let T = g.T.Tree in
    let work = c.args.work.now in
    let way = c.args.way.now in
    let gs = parts_ahead work way in record {
      course = λ tells. redo_first way.from gs (T.history c.args.tree.now);
      marked = λ tells. subst (λ n. IsMarked (at_marker n) work (T.history c.args.tree.now)) (omega arith) (c.requires.marked tells);
      within = omega arith;
      before = λ tells. refl;
      faults = refl;
    }

pub redo_part-requires-clause-part : goal.redo_part-requires-clause-part
redo_part-requires-clause-part g c = let many = ahead_many c.args.work.now c.args.way.now c.requires.work c.requires.way in
    let lt : c.loop-k.k < length (parts_ahead c.args.work.now c.args.way.now) = omega arith in
    lt

pub redo_part-requires-clause-marked : goal.redo_part-requires-clause-marked
redo_part-requires-clause-marked g c tells = c.loop-k.invariant.marked tells

pub returns-in_err-strange-clause-follows : goal.returns-in_err-strange-clause-follows
returns-in_err-strange-clause-follows g c tells = let T = g.T.Tree in
    let work = c.args.work.now in
    let way = c.args.way.now in
    let gs = parts_ahead work way in
    let began = T.history c.args.tree.now in
    let now = T.history c.loop-k.tree in
    let whole = redone_parts way.from gs began in
    let many = ahead_many c.args.work.now c.args.way.now c.requires.work c.requires.way in
    let lt : c.loop-k.k < length (parts_ahead c.args.work.now c.args.way.now) = omega arith in
    let new = T.history c.redo_part.new.tree in
    let behind = T.before_failed c.redo_part.new.tree in
    let first = c.in_err-strange.field-0.0 in
    let is : c.from_residual.result ≡ Err first = search rules in
    follows_err whole began now new (T.before_failed c.args.tree.now) (T.before_failed c.loop-k.tree) behind (redone_part (place_of way.from gs c.loop-k.k) (group_at c.loop-k.k gs) now) (redone_parts (place_of way.from gs c.loop-k.k + length (group_at c.loop-k.k gs)) (drop (c.loop-k.k + 1) gs))
    (redo_on way.from gs c.loop-k.k whole began now lt (c.loop-k.invariant.course tells)) (c.loop-k.invariant.before tells) c.from_residual.result first is (c.in_err-strange.ensures.follows tells)

pub returns-then-is_some-clause-follows : goal.returns-then-is_some-clause-follows
returns-then-is_some-clause-follows g c tells = let T = g.T.Tree in
    let work = c.args.work.now in
    let way = c.args.way.now in
    let gs = parts_ahead work way in
    let began = T.history c.args.tree.now in
    let now = T.history c.loop-k.tree in
    let whole = redone_parts way.from gs began in
    let many = ahead_many c.args.work.now c.args.way.now c.requires.work c.requires.way in
    let lt : c.loop-k.k < length (parts_ahead c.args.work.now c.args.way.now) = omega arith in
    let new = T.history c.redo_part.new.tree in
    let behind = T.before_failed c.redo_part.new.tree in
    let some : is_some c.in_ok-strange.strange ≡ true = search rules in
    follows_some whole began now new (T.before_failed c.args.tree.now) (T.before_failed c.loop-k.tree) behind (redone_part (place_of way.from gs c.loop-k.k) (group_at c.loop-k.k gs) now) (redone_parts (place_of way.from gs c.loop-k.k + length (group_at c.loop-k.k gs)) (drop (c.loop-k.k + 1) gs))
    (redo_on way.from gs c.loop-k.k whole began now lt (c.loop-k.invariant.course tells)) (c.loop-k.invariant.before tells) c.in_ok-strange.strange some (c.in_ok-strange.ensures.follows tells)

pub returns-then-is_some-clause-marked : goal.returns-then-is_some-clause-marked
returns-then-is_some-clause-marked g c tells none = let some : is_some c.in_ok-strange.strange ≡ true = search rules in absurd (some_none c.in_ok-strange.strange some none)

pub loop-k-preserved : goal.loop-k-preserved
loop-k-preserved g c = let T = g.T.Tree in
    let work = c.args.work.now in
    let way = c.args.way.now in
    let gs = parts_ahead work way in
    let began = T.history c.args.tree.now in
    let now = T.history c.loop-k.tree in
    let whole = redone_parts way.from gs began in
    let many = ahead_many c.args.work.now c.args.way.now c.requires.work c.requires.way in
    let lt : c.loop-k.k < length (parts_ahead c.args.work.now c.args.way.now) = omega arith in
    let new = T.history c.redo_part.new.tree in
    let none : c.in_ok-strange.strange ≡ None = none_of_it c.in_ok-strange.strange (search rules) in
    record {
      course = λ tells. redo_next way.from gs c.loop-k.k whole began now new (T.before_failed c.args.tree.now) (T.before_failed c.loop-k.tree) (T.before_failed c.redo_part.new.tree) lt (c.loop-k.invariant.course tells) (c.loop-k.invariant.before tells)
          c.in_ok-strange.strange none (c.in_ok-strange.ensures.follows tells);
      marked = λ tells. c.in_ok-strange.ensures.marked tells none;
      within = omega arith;
      before = λ tells. (c.in_ok-strange.ensures.follows tells).ran.1 ∙ c.loop-k.invariant.before tells;
      faults = search rules;
    }

pub returns-clause-follows : goal.returns-clause-follows
returns-clause-follows g c tells = let T = g.T.Tree in
    let work = c.args.work.now in
    let way = c.args.way.now in
    let gs = parts_ahead work way in
    let began = T.history c.args.tree.now in
    let now = T.history c.loop-k.tree in
    let many = ahead_many c.args.work.now c.args.way.now c.requires.work c.requires.way in
    let long : length (parts_ahead c.args.work.now c.args.way.now) ≤ c.loop-k.k = omega arith in
    follows_done (redone_parts way.from gs began) began now (T.before_failed c.args.tree.now) (T.before_failed c.loop-k.tree)
    (redo_last way.from gs c.loop-k.k (redone_parts way.from gs began) began now long (c.loop-k.invariant.course tells)) (c.loop-k.invariant.before tells)

pub returns-clause-marked : goal.returns-clause-marked
returns-clause-marked g c tells none = let work = c.args.work.now in
    let way = c.args.way.now in
    let many = ahead_many c.args.work.now c.args.way.now c.requires.work c.requires.way in
    let within = c.loop-k.invariant.within in
    let all : c.loop-k.k ≡ length (parts_ahead c.args.work.now c.args.way.now) = omega arith in
    subst (λ n. IsMarked (at_marker n) work (g.T.Tree.history c.loop-k.tree)) (ap (place_of way.from (parts_ahead work way)) all ∙ ahead_end work way c.requires.work c.requires.way) (c.loop-k.invariant.marked tells)
