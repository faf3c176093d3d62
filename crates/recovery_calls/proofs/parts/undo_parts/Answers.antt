use Rattle.std.proofs.Common.{◌≡◌, ◌+◌, ◌-◌, ◌<◌, length, None, is_some, true, Err, refl, take, sym, ◌∙◌, ap, subst, rules, arith}
use Rattle.commit_calls.specs.Cuts.{group_at}
use Rattle.commit_steps.specs.Staging.{back_marker}
use Rattle.recovery_calls.specs.Works.{IsMarked, parts_left, place_of}
use Rattle.recovery_calls.proofs.CourseLemmas.{followed, follows_done, follows_err, follows_some, none_of_it, some_none}
use Rattle.recovery_calls.proofs.LoopLemmas.{undo_first, undo_last, undo_on}
use Rattle.recovery_calls.proofs.SpanLemmas.{left_end, left_many}
use Rattle.recovery_courses.specs.Parts.{undone_part, undone_parts}
use Rattle.recovery_calls.proofs.parts.undo_parts.Goals as goal

pub parts-k-requires : goal.parts-k-requires
parts-k-requires g c = let many = left_many c.args.work.now c.args.way.now c.requires.work c.requires.way in
    omega arith

pub loop-k-init : goal.loop-k-init
loop-k-init g c = let T = g.T.Tree in
    let work = c.args.work.now in
    let way = c.args.way.now in
    let gs = parts_left work way in
    let many = left_many c.args.work.now c.args.way.now c.requires.work c.requires.way in
    let all : length c.args.way.now.places.items - 1 ≡ length (parts_left c.args.work.now c.args.way.now) = omega arith in
    let count : c.parts-k.result ≡ length (parts_left c.args.work.now c.args.way.now) = c.parts-k.ensures ∙ all in record {
      course = λ tells. undo_first gs c.parts-k.result (T.history c.args.tree.now) count;
      marked = λ tells. subst (λ n. IsMarked (back_marker n) work (T.history c.args.tree.now)) (sym (ap (place_of 0 gs) count ∙ left_end work way c.requires.work c.requires.way)) (c.requires.marked tells);
      within = omega arith;
      before = λ tells. refl;
      faults = refl;
    }

pub undo_part-requires-clause-part : goal.undo_part-requires-clause-part
undo_part-requires-clause-part g c = let many = left_many c.args.work.now c.args.way.now c.requires.work c.requires.way in
    let within = c.loop-k.invariant.within in
    let lt : c.loop-k.k - 1 < length (parts_left c.args.work.now c.args.way.now) = omega arith in
    lt

pub undo_part-requires-clause-marked : goal.undo_part-requires-clause-marked
undo_part-requires-clause-marked g c tells = let more : c.loop-k.k ≡ c.loop-k.k - 1 + 1 = omega arith in
    subst (λ n. IsMarked (back_marker (place_of 0 (parts_left c.args.work.now c.args.way.now) n)) c.args.work.now (g.T.Tree.history c.loop-k.tree)) more (c.loop-k.invariant.marked tells)

pub returns-in_err-strange-clause-follows : goal.returns-in_err-strange-clause-follows
returns-in_err-strange-clause-follows g c tells = let T = g.T.Tree in
    let work = c.args.work.now in
    let way = c.args.way.now in
    let gs = parts_left work way in
    let began = T.history c.args.tree.now in
    let now = T.history c.loop-k.tree in
    let whole = undone_parts 0 gs began in
    let many = left_many c.args.work.now c.args.way.now c.requires.work c.requires.way in
    let within = c.loop-k.invariant.within in
    let lt : c.loop-k.k - 1 < length (parts_left c.args.work.now c.args.way.now) = omega arith in
    let new = T.history c.undo_part.new.tree in
    let behind = T.before_failed c.undo_part.new.tree in
    let first = c.in_err-strange.field-0.0 in
    let is : c.from_residual.result ≡ Err first = search rules in
    follows_err whole began now new (T.before_failed c.args.tree.now) (T.before_failed c.loop-k.tree) behind (undone_part (place_of 0 gs (c.loop-k.k - 1)) (group_at (c.loop-k.k - 1) gs) now) (undone_parts 0 (take (c.loop-k.k - 1) gs))
    (undo_on gs c.loop-k.k (c.loop-k.k - 1) whole began now (omega arith) lt (c.loop-k.invariant.course tells)) (c.loop-k.invariant.before tells) c.from_residual.result first is (c.in_err-strange.ensures.follows tells)

pub returns-then-is_some-clause-follows : goal.returns-then-is_some-clause-follows
returns-then-is_some-clause-follows g c tells = let T = g.T.Tree in
    let work = c.args.work.now in
    let way = c.args.way.now in
    let gs = parts_left work way in
    let began = T.history c.args.tree.now in
    let now = T.history c.loop-k.tree in
    let whole = undone_parts 0 gs began in
    let many = left_many c.args.work.now c.args.way.now c.requires.work c.requires.way in
    let within = c.loop-k.invariant.within in
    let lt : c.loop-k.k - 1 < length (parts_left c.args.work.now c.args.way.now) = omega arith in
    let new = T.history c.undo_part.new.tree in
    let behind = T.before_failed c.undo_part.new.tree in
    let some : is_some c.in_ok-strange.strange ≡ true = search rules in
    follows_some whole began now new (T.before_failed c.args.tree.now) (T.before_failed c.loop-k.tree) behind (undone_part (place_of 0 gs (c.loop-k.k - 1)) (group_at (c.loop-k.k - 1) gs) now) (undone_parts 0 (take (c.loop-k.k - 1) gs))
    (undo_on gs c.loop-k.k (c.loop-k.k - 1) whole began now (omega arith) lt (c.loop-k.invariant.course tells)) (c.loop-k.invariant.before tells) c.in_ok-strange.strange some (c.in_ok-strange.ensures.follows tells)

pub returns-then-is_some-clause-marked : goal.returns-then-is_some-clause-marked
returns-then-is_some-clause-marked g c tells none = let some : is_some c.in_ok-strange.strange ≡ true = search rules in absurd (some_none c.in_ok-strange.strange some none)

pub loop-k-preserved : goal.loop-k-preserved
loop-k-preserved g c = let T = g.T.Tree in
    let work = c.args.work.now in
    let way = c.args.way.now in
    let gs = parts_left work way in
    let began = T.history c.args.tree.now in
    let now = T.history c.loop-k.tree in
    let whole = undone_parts 0 gs began in
    let many = left_many c.args.work.now c.args.way.now c.requires.work c.requires.way in
    let within = c.loop-k.invariant.within in
    let lt : c.loop-k.k - 1 < length (parts_left c.args.work.now c.args.way.now) = omega arith in
    let new = T.history c.undo_part.new.tree in
    let none : c.in_ok-strange.strange ≡ None = none_of_it c.in_ok-strange.strange (search rules) in
    record {
      course = λ tells. followed whole began now new (T.before_failed c.args.tree.now) (T.before_failed c.loop-k.tree) (T.before_failed c.undo_part.new.tree) (undone_part (place_of 0 gs (c.loop-k.k - 1)) (group_at (c.loop-k.k - 1) gs) now) (undone_parts 0 (take (c.loop-k.k - 1) gs)) (undo_on gs c.loop-k.k (c.loop-k.k - 1) whole began now (omega arith) lt (c.loop-k.invariant.course tells)) (c.loop-k.invariant.before tells)
          c.in_ok-strange.strange none (c.in_ok-strange.ensures.follows tells);
      marked = λ tells. c.in_ok-strange.ensures.marked tells none;
      within = omega arith;
      before = λ tells. (c.in_ok-strange.ensures.follows tells).ran.1 ∙ c.loop-k.invariant.before tells;
      faults = search rules;
    }

pub returns-clause-follows : goal.returns-clause-follows
returns-clause-follows g c tells = let T = g.T.Tree in
    let gs = parts_left c.args.work.now c.args.way.now in
    let began = T.history c.args.tree.now in
    let now = T.history c.loop-k.tree in
    let zero_is : c.loop-k.k ≡ 0 = search rules in
    follows_done (undone_parts 0 gs began) began now (T.before_failed c.args.tree.now) (T.before_failed c.loop-k.tree)
    (undo_last gs c.loop-k.k (undone_parts 0 gs began) began now zero_is (c.loop-k.invariant.course tells)) (c.loop-k.invariant.before tells)

pub returns-clause-marked : goal.returns-clause-marked
returns-clause-marked g c tells none = let zero_is : c.loop-k.k ≡ 0 = search rules in
    let gs = parts_left c.args.work.now c.args.way.now in
    subst (λ n. IsMarked (back_marker n) c.args.work.now (g.T.Tree.history c.loop-k.tree)) (ap (place_of 0 gs) zero_is) (c.loop-k.invariant.marked tells)
