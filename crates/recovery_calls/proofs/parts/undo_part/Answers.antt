use Rattle.std.proofs.Common.{◌≡◌, ◌+◌, ◌-◌, ◌<◌, ◌^◌, List, length, None, is_some, true, Err, refl, reverse, take, drop, sym, ◌∙◌, ap, subst, rules, arith}
use Rattle.std.specs.List.{AllByRecursion}
use Rattle.commit_calls.specs.Cuts.{group_at}
use Rattle.commit_calls.specs.Parts.{synced_rename_calls}
use Rattle.commit_states.specs.Calls.{undo_calls}
use Rattle.commit_steps.specs.declared.step.Step.{Step}
use Rattle.commit_steps.specs.Staging.{back_marker, plan, staged}
use Rattle.recovery_calls.specs.Underway.{IsUnderway}
use Rattle.recovery_calls.specs.Works.{entries_of, parts_left, place_of}
use Rattle.recovery_calls.proofs.CourseLemmas.{follows_as, none_of_it, some_none, two_done, two_ended, two_failed, two_strange}
use Rattle.recovery_calls.proofs.PartRunLemmas.{back_can, back_moved, undo_there, undone_as}
use Rattle.recovery_calls.proofs.SpanLemmas.{left_many, left_marker, left_markers, left_span, parents_many}
use Rattle.recovery_courses.specs.Course.{going_on, these}
use Rattle.recovery_courses.specs.Parts.{undone_part}
use Rattle.step_looks.specs.Looks.{AreParents}
use Rattle.step_looks.specs.declared.parent_paths.Parents.{Parents}
use Rattle.step_looks.specs.Strictly.{strange_back, to_undo_strictly}
use Rattle.step_trees.specs.Steps.{IsStep}
use Rattle.tree_core.specs.History.{current_tree}
use Rattle.recovery_calls.proofs.parts.undo_part.Goals as goal

pub place-from-requires : goal.place-from-requires
place-from-requires g c = let work = c.args.work.now in
    let way = c.args.way.now in
    let gs = parts_left work way in
    let many = left_many work way c.requires.work c.requires.way in
    let lt = c.requires.part in
    omega arith

pub overflow_add-k : goal.overflow_add-k
overflow_add-k g c = let work = c.args.work.now in
    let way = c.args.way.now in
    let gs = parts_left work way in
    let many = left_many work way c.requires.work c.requires.way in
    let lt = c.requires.part in
    omega arith

pub place-end-requires : goal.place-end-requires
place-end-requires g c = let work = c.args.work.now in
    let way = c.args.way.now in
    let gs = parts_left work way in
    let many = left_many work way c.requires.work c.requires.way in
    let lt = c.requires.part in
    omega arith

pub part-requires-clause-order : goal.part-requires-clause-order
part-requires-clause-order g c = let work = c.args.work.now in
    let way = c.args.way.now in
    let gs = parts_left work way in
    let s = left_span work way c.requires.work c.requires.way c.args.k c.place-from.result c.place-end.result c.requires.part c.place-from.ensures c.place-end.ensures in
    s.rises

pub part-requires-clause-within : goal.part-requires-clause-within
part-requires-clause-within g c = let work = c.args.work.now in
    let way = c.args.way.now in
    let gs = parts_left work way in
    let s = left_span work way c.requires.work c.requires.way c.args.k c.place-from.result c.place-end.result c.requires.part c.place-from.ensures c.place-end.ensures in
    s.within

pub part_parents-requires-clause-order : goal.part_parents-requires-clause-order
part_parents-requires-clause-order g c = let work = c.args.work.now in
    let way = c.args.way.now in
    let gs = parts_left work way in
    let s = left_span work way c.requires.work c.requires.way c.args.k c.place-from.result c.place-end.result c.requires.part c.place-from.ensures c.place-end.ensures in
    s.rises

pub part_parents-requires-clause-within : goal.part_parents-requires-clause-within
part_parents-requires-clause-within g c = let work = c.args.work.now in
    let way = c.args.way.now in
    let gs = parts_left work way in
    let s = left_span work way c.requires.work c.requires.way c.args.k c.place-from.result c.place-end.result c.requires.part c.place-from.ensures c.place-end.ensures in
    let same = parents_many work c.requires.work in
    let within = s.within in
    omega arith

pub undo_strictly-requires-clause-steps : goal.undo_strictly-requires-clause-steps
undo_strictly-requires-clause-steps g c = let work = c.args.work.now in
    let way = c.args.way.now in
    let gs = parts_left work way in
    let s = left_span work way c.requires.work c.requires.way c.args.k c.place-from.result c.place-end.result c.requires.part c.place-from.ensures c.place-end.ensures in
    subst (AllByRecursion IsStep) (sym (c.part.ensures ∙ s.steps)) s.are.lawful

pub undo_strictly-requires-clause-parents : goal.undo_strictly-requires-clause-parents
undo_strictly-requires-clause-parents g c = let work = c.args.work.now in
    let way = c.args.way.now in
    let gs = parts_left work way in
    let s = left_span work way c.requires.work c.requires.way c.args.k c.place-from.result c.place-end.result c.requires.part c.place-from.ensures c.place-end.ensures in
    subst (λ (ps : List Parents). AreParents c.part.result.now ps) (sym c.part_parents.ensures)
    (subst (λ (l : List Step). AreParents l (take (c.place-end.result - c.place-from.result) (drop c.place-from.result work.parents.items))) (sym (c.part.ensures ∙ s.steps)) s.parents)

pub undo_strictly-requires-clause-few : goal.undo_strictly-requires-clause-few
undo_strictly-requires-clause-few g c = let work = c.args.work.now in
    let way = c.args.way.now in
    let gs = parts_left work way in
    let s = left_span work way c.requires.work c.requires.way c.args.k c.place-from.result c.place-end.result c.requires.part c.place-from.ensures c.place-end.ensures in
    let long = s.long in
    let count : length c.part.result.now ≡ length (group_at c.args.k gs) = ap length (c.part.ensures ∙ s.steps) in
    let small : c.place-end.result < 2 ^ 64 = search rules in
    omega arith

pub returns-in_err-strange-clause-follows : goal.returns-in_err-strange-clause-follows
returns-in_err-strange-clause-follows g c tells = let T = g.T.Tree in
    let work = c.args.work.now in
    let way = c.args.way.now in
    let gs = parts_left work way in
    let s = left_span work way c.requires.work c.requires.way c.args.k c.place-from.result c.place-end.result c.requires.part c.place-from.ensures c.place-end.ensures in
    let k = place_of 0 gs c.args.k in
    let part = group_at c.args.k gs in
    let steps = c.part.result.now in
    let same : c.part.result.now ≡ group_at c.args.k (parts_left c.args.work.now c.args.way.now) = c.part.ensures ∙ s.steps in
    let began = T.history c.args.tree.now in
    let mid = T.history c.undo_strictly.new.tree in
    let cs = undo_calls (to_undo_strictly (reverse steps) (current_tree began)) in
    let o = strange_back c.place-from.result (reverse steps) (current_tree began) in
    let behind = T.before_failed c.undo_strictly.new.tree in
    let first = c.in_err-strange.field-0.0 in
    let is : c.from_residual.result ≡ Err first = search rules in
    follows_as (going_on cs o (these (synced_rename_calls (staged (back_marker (k + length part))) (staged (back_marker k))))) (undone_part k part began) began mid (T.before_failed c.args.tree.now) behind c.from_residual.result (undone_as k part steps same c.place-from.result s.from_is (staged (back_marker (k + length part))) (staged (back_marker k)) began refl refl)
    (two_ended cs (synced_rename_calls (staged (back_marker (k + length part))) (staged (back_marker k))) o began (T.before_failed c.args.tree.now) mid behind c.from_residual.result first is (c.in_err-strange.ensures.ran tells))

pub returns-then-is_some-clause-follows : goal.returns-then-is_some-clause-follows
returns-then-is_some-clause-follows g c tells = let T = g.T.Tree in
    let work = c.args.work.now in
    let way = c.args.way.now in
    let gs = parts_left work way in
    let s = left_span work way c.requires.work c.requires.way c.args.k c.place-from.result c.place-end.result c.requires.part c.place-from.ensures c.place-end.ensures in
    let k = place_of 0 gs c.args.k in
    let part = group_at c.args.k gs in
    let steps = c.part.result.now in
    let same : c.part.result.now ≡ group_at c.args.k (parts_left c.args.work.now c.args.way.now) = c.part.ensures ∙ s.steps in
    let began = T.history c.args.tree.now in
    let mid = T.history c.undo_strictly.new.tree in
    let cs = undo_calls (to_undo_strictly (reverse steps) (current_tree began)) in
    let o = strange_back c.place-from.result (reverse steps) (current_tree began) in
    let behind = T.before_failed c.undo_strictly.new.tree in
    let ran = c.in_ok-strange.ensures.ran tells in
    let some : is_some c.in_ok-strange.strange ≡ true = search rules in
    follows_as (going_on cs o (these (synced_rename_calls (staged (back_marker (k + length part))) (staged (back_marker k))))) (undone_part k part began) began mid (T.before_failed c.args.tree.now) behind _ (undone_as k part steps same c.place-from.result s.from_is (staged (back_marker (k + length part))) (staged (back_marker k)) began refl refl)
    (two_strange cs (synced_rename_calls (staged (back_marker (k + length part))) (staged (back_marker k))) o began (T.before_failed c.args.tree.now) mid behind c.in_ok-strange.strange some (c.in_ok-strange.ensures.strange tells) ran.0 ran.1)

pub returns-then-is_some-clause-marked : goal.returns-then-is_some-clause-marked
returns-then-is_some-clause-marked g c tells none = let some : is_some c.in_ok-strange.strange ≡ true = search rules in absurd (some_none c.in_ok-strange.strange some none)

pub overflow_add-k-2 : goal.overflow_add-k-2
overflow_add-k-2 g c = let work = c.args.work.now in
    let way = c.args.way.now in
    let gs = parts_left work way in
    let many = left_many work way c.requires.work c.requires.way in
    let lt = c.requires.part in
    omega arith

pub marker-requires : goal.marker-requires
marker-requires g c = let many = left_markers c.args.work.now c.args.way.now c.requires.work c.requires.way in
    let lt = c.requires.part in
    omega arith

pub marker-requires-2 : goal.marker-requires-2
marker-requires-2 g c = let many = left_markers c.args.work.now c.args.way.now c.requires.work c.requires.way in
    let lt = c.requires.part in
    omega arith

pub sync_and_rename-requires : goal.sync_and_rename-requires
sync_and_rename-requires g c = record {
  can = λ tells.
      let T = g.T.Tree in
      let work = c.args.work.now in
      let way = c.args.way.now in
      let gs = parts_left work way in
      let s = left_span work way c.requires.work c.requires.way c.args.k c.place-from.result c.place-end.result c.requires.part c.place-from.ensures c.place-end.ensures in
      let k = place_of 0 gs c.args.k in
      let part = group_at c.args.k gs in
      let steps = c.part.result.now in
      let same : c.part.result.now ≡ group_at c.args.k (parts_left c.args.work.now c.args.way.now) = c.part.ensures ∙ s.steps in
      let began = T.history c.args.tree.now in
      let mid = T.history c.undo_strictly.new.tree in
      let cs = undo_calls (to_undo_strictly (reverse steps) (current_tree began)) in
      let o = strange_back c.place-from.result (reverse steps) (current_tree began) in
      let middle = T.before_failed c.undo_strictly.new.tree in
      let ran = c.in_ok-strange.ensures.ran tells in
      let none : c.in_ok-strange.strange ≡ None = none_of_it c.in_ok-strange.strange (search rules) in
      let told : strange_back c.place-from.result (reverse c.part.result.now) (current_tree (g.T.Tree.history c.args.tree.now)) ≡ None = sym (c.in_ok-strange.ensures.strange tells) ∙ none in
      let small : c.place-end.result < 2 ^ 64 = search rules in
      let small_from : c.place-from.result < 2 ^ 64 = search rules in
      let end_is : c.place-end.result ≡ place_of 0 gs c.args.k + length part = s.long ∙ ap (λ n. n + length part) s.from_is in
      let many_markers = left_markers work way c.requires.work c.requires.way in
      let lt = c.requires.part in
      let marker : c.marker.result.now ≡ staged (back_marker (place_of 0 gs c.args.k + length part)) = c.marker.ensures ∙ left_marker work way c.requires.work c.requires.way (c.args.k + 1) (omega arith) ∙ ap (λ n. staged (back_marker n)) (sym s.end_is ∙ end_is) in
      let next : c.marker-2.result.now ≡ staged (back_marker (place_of 0 gs c.args.k)) = c.marker-2.ensures ∙ left_marker work way c.requires.work c.requires.way c.args.k (omega arith) in
      let marked = subst (λ n. IsUnderway plan (back_marker n) (entries_of work) (current_tree began)) (sym s.end_is ∙ end_is) (c.requires.marked tells) in
      let u = undo_there (entries_of work) part steps same s.are began mid (g.met.T.Tree.is_sound c.args.tree.now tells) (place_of 0 gs c.args.k + length part) marked ran.0 in
      back_can (entries_of work) (place_of 0 gs c.args.k + length part) (place_of 0 gs c.args.k) (subst (λ n. n < 2 ^ 64) end_is small) (subst (λ n. n < 2 ^ 64) s.from_is small_from) (λ e. let some = s.some in absurd (omega arith)) c.marker.result.now c.marker-2.result.now mid marker next u;
}

pub returns-in_err-sync_and_rename-clause-follows : goal.returns-in_err-sync_and_rename-clause-follows
returns-in_err-sync_and_rename-clause-follows g c tells = let T = g.T.Tree in
    let work = c.args.work.now in
    let way = c.args.way.now in
    let gs = parts_left work way in
    let s = left_span work way c.requires.work c.requires.way c.args.k c.place-from.result c.place-end.result c.requires.part c.place-from.ensures c.place-end.ensures in
    let k = place_of 0 gs c.args.k in
    let part = group_at c.args.k gs in
    let steps = c.part.result.now in
    let same : c.part.result.now ≡ group_at c.args.k (parts_left c.args.work.now c.args.way.now) = c.part.ensures ∙ s.steps in
    let began = T.history c.args.tree.now in
    let mid = T.history c.undo_strictly.new.tree in
    let cs = undo_calls (to_undo_strictly (reverse steps) (current_tree began)) in
    let o = strange_back c.place-from.result (reverse steps) (current_tree began) in
    let middle = T.before_failed c.undo_strictly.new.tree in
    let ran = c.in_ok-strange.ensures.ran tells in
    let none : c.in_ok-strange.strange ≡ None = none_of_it c.in_ok-strange.strange (search rules) in
    let told : strange_back c.place-from.result (reverse c.part.result.now) (current_tree (g.T.Tree.history c.args.tree.now)) ≡ None = sym (c.in_ok-strange.ensures.strange tells) ∙ none in
    let small : c.place-end.result < 2 ^ 64 = search rules in
    let small_from : c.place-from.result < 2 ^ 64 = search rules in
    let end_is : c.place-end.result ≡ place_of 0 gs c.args.k + length part = s.long ∙ ap (λ n. n + length part) s.from_is in
    let many_markers = left_markers work way c.requires.work c.requires.way in
    let lt = c.requires.part in
    let marker : c.marker.result.now ≡ staged (back_marker (place_of 0 gs c.args.k + length part)) = c.marker.ensures ∙ left_marker work way c.requires.work c.requires.way (c.args.k + 1) (omega arith) ∙ ap (λ n. staged (back_marker n)) (sym s.end_is ∙ end_is) in
    let next : c.marker-2.result.now ≡ staged (back_marker (place_of 0 gs c.args.k)) = c.marker-2.ensures ∙ left_marker work way c.requires.work c.requires.way c.args.k (omega arith) in
    let new = T.history c.sync_and_rename.new.tree in
    let behind = T.before_failed c.sync_and_rename.new.tree in
    let first = c.in_err-sync_and_rename.field-0.0 in
    let is : c.from_residual-in_err-sync_and_rename.result ≡ Err first = search rules in
    follows_as (going_on cs o (these (synced_rename_calls c.marker.result.now c.marker-2.result.now))) (undone_part k part began) began new (T.before_failed c.args.tree.now) behind c.from_residual-in_err-sync_and_rename.result (undone_as k part steps same c.place-from.result s.from_is c.marker.result.now c.marker-2.result.now began marker next)
    (two_failed cs (synced_rename_calls c.marker.result.now c.marker-2.result.now) o began (T.before_failed c.args.tree.now) mid told ran.0 new behind c.from_residual-in_err-sync_and_rename.result first is (c.in_err-sync_and_rename.ensures.ran tells))

pub returns-clause-follows : goal.returns-clause-follows
returns-clause-follows g c tells = let T = g.T.Tree in
    let work = c.args.work.now in
    let way = c.args.way.now in
    let gs = parts_left work way in
    let s = left_span work way c.requires.work c.requires.way c.args.k c.place-from.result c.place-end.result c.requires.part c.place-from.ensures c.place-end.ensures in
    let k = place_of 0 gs c.args.k in
    let part = group_at c.args.k gs in
    let steps = c.part.result.now in
    let same : c.part.result.now ≡ group_at c.args.k (parts_left c.args.work.now c.args.way.now) = c.part.ensures ∙ s.steps in
    let began = T.history c.args.tree.now in
    let mid = T.history c.undo_strictly.new.tree in
    let cs = undo_calls (to_undo_strictly (reverse steps) (current_tree began)) in
    let o = strange_back c.place-from.result (reverse steps) (current_tree began) in
    let middle = T.before_failed c.undo_strictly.new.tree in
    let ran = c.in_ok-strange.ensures.ran tells in
    let none : c.in_ok-strange.strange ≡ None = none_of_it c.in_ok-strange.strange (search rules) in
    let told : strange_back c.place-from.result (reverse c.part.result.now) (current_tree (g.T.Tree.history c.args.tree.now)) ≡ None = sym (c.in_ok-strange.ensures.strange tells) ∙ none in
    let small : c.place-end.result < 2 ^ 64 = search rules in
    let small_from : c.place-from.result < 2 ^ 64 = search rules in
    let end_is : c.place-end.result ≡ place_of 0 gs c.args.k + length part = s.long ∙ ap (λ n. n + length part) s.from_is in
    let many_markers = left_markers work way c.requires.work c.requires.way in
    let lt = c.requires.part in
    let marker : c.marker.result.now ≡ staged (back_marker (place_of 0 gs c.args.k + length part)) = c.marker.ensures ∙ left_marker work way c.requires.work c.requires.way (c.args.k + 1) (omega arith) ∙ ap (λ n. staged (back_marker n)) (sym s.end_is ∙ end_is) in
    let next : c.marker-2.result.now ≡ staged (back_marker (place_of 0 gs c.args.k)) = c.marker-2.ensures ∙ left_marker work way c.requires.work c.requires.way c.args.k (omega arith) in
    let new = T.history c.sync_and_rename.new.tree in
    let behind = T.before_failed c.sync_and_rename.new.tree in
    let moved = c.in_ok-sync_and_rename.ensures.ran tells in
    follows_as (going_on cs o (these (synced_rename_calls c.marker.result.now c.marker-2.result.now))) (undone_part k part began) began new (T.before_failed c.args.tree.now) behind _ (undone_as k part steps same c.place-from.result s.from_is c.marker.result.now c.marker-2.result.now began marker next)
    (two_done cs (synced_rename_calls c.marker.result.now c.marker-2.result.now) o began (T.before_failed c.args.tree.now) mid told ran.0 new behind moved.0 (moved.1 ∙ ran.1))

pub returns-clause-marked : goal.returns-clause-marked
returns-clause-marked g c tells is = let T = g.T.Tree in
    let work = c.args.work.now in
    let way = c.args.way.now in
    let gs = parts_left work way in
    let s = left_span work way c.requires.work c.requires.way c.args.k c.place-from.result c.place-end.result c.requires.part c.place-from.ensures c.place-end.ensures in
    let k = place_of 0 gs c.args.k in
    let part = group_at c.args.k gs in
    let steps = c.part.result.now in
    let same : c.part.result.now ≡ group_at c.args.k (parts_left c.args.work.now c.args.way.now) = c.part.ensures ∙ s.steps in
    let began = T.history c.args.tree.now in
    let mid = T.history c.undo_strictly.new.tree in
    let cs = undo_calls (to_undo_strictly (reverse steps) (current_tree began)) in
    let o = strange_back c.place-from.result (reverse steps) (current_tree began) in
    let middle = T.before_failed c.undo_strictly.new.tree in
    let ran = c.in_ok-strange.ensures.ran tells in
    let none : c.in_ok-strange.strange ≡ None = none_of_it c.in_ok-strange.strange (search rules) in
    let told : strange_back c.place-from.result (reverse c.part.result.now) (current_tree (g.T.Tree.history c.args.tree.now)) ≡ None = sym (c.in_ok-strange.ensures.strange tells) ∙ none in
    let small : c.place-end.result < 2 ^ 64 = search rules in
    let small_from : c.place-from.result < 2 ^ 64 = search rules in
    let end_is : c.place-end.result ≡ place_of 0 gs c.args.k + length part = s.long ∙ ap (λ n. n + length part) s.from_is in
    let many_markers = left_markers work way c.requires.work c.requires.way in
    let lt = c.requires.part in
    let marker : c.marker.result.now ≡ staged (back_marker (place_of 0 gs c.args.k + length part)) = c.marker.ensures ∙ left_marker work way c.requires.work c.requires.way (c.args.k + 1) (omega arith) ∙ ap (λ n. staged (back_marker n)) (sym s.end_is ∙ end_is) in
    let next : c.marker-2.result.now ≡ staged (back_marker (place_of 0 gs c.args.k)) = c.marker-2.ensures ∙ left_marker work way c.requires.work c.requires.way c.args.k (omega arith) in
    let marked = subst (λ n. IsUnderway plan (back_marker n) (entries_of work) (current_tree began)) (sym s.end_is ∙ end_is) (c.requires.marked tells) in
    let u = undo_there (entries_of work) part steps same s.are began mid (g.met.T.Tree.is_sound c.args.tree.now tells) (place_of 0 gs c.args.k + length part) marked ran.0 in
    let new = T.history c.sync_and_rename.new.tree in
    let moved = c.in_ok-sync_and_rename.ensures.ran tells in
    back_moved (entries_of work) (place_of 0 gs c.args.k + length part) (place_of 0 gs c.args.k) (subst (λ n. n < 2 ^ 64) end_is small) (subst (λ n. n < 2 ^ 64) s.from_is small_from) (λ e. let some = s.some in absurd (omega arith)) c.marker.result.now c.marker-2.result.now mid marker next u (g.met.T.Tree.is_sound c.undo_strictly.new.tree tells) new moved.0
