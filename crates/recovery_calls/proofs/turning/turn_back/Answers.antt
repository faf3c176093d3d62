use Rattle.std.proofs.Common.{◌≡◌, ◌-◌, ◌<◌, ◌^◌, ◌∙◌, List, length, sym, ap, subst, rules, arith, Err}
use Rattle.std.specs.List.{AllByRecursion}
use Rattle.commit_steps.specs.declared.step.Step.{Step}
use Rattle.commit_steps.specs.Staging.{at_marker}
use Rattle.recovery_calls.specs.declared.turning.Looked.TheVariants.{NoneDone, SomeDone, Strange}
use Rattle.recovery_calls.specs.Looked.{looked_of}
use Rattle.recovery_calls.specs.Works.{IsMarked, entries_of}
use Rattle.recovery_calls.proofs.CourseLemmas.{follows_last, follows_look}
use Rattle.recovery_calls.proofs.SpanLemmas.{all_steps, parents_many, steps_slice}
use Rattle.recovery_calls.proofs.TurnLemmas.{turn_here, turn_next, turn_part, turn_strange}
use Rattle.recovery_calls.proofs.WayLemmas.{slice_parents}
use Rattle.recovery_courses.specs.Parts.{turned_at, turned_from}
use Rattle.step_looks.specs.declared.parent_paths.Parents.{Parents}
use Rattle.step_looks.specs.Looks.{AreParents}
use Rattle.step_trees.specs.Groups.{groups, to_next_cut}
use Rattle.step_trees.specs.Steps.{IsStep}
use Rattle.tree_core.specs.History.{History, current_tree}
use Rattle.recovery_calls.proofs.turning.turn_back.Goals as goal

pub part-steps-requires-clause-order : goal.part-steps-requires-clause-order
part-steps-requires-clause-order g c = let cut = c.requires.turn.cut in
    omega arith

pub part_parents-requires-clause-order : goal.part_parents-requires-clause-order
part_parents-requires-clause-order g c = let cut = c.requires.turn.cut in
    omega arith

pub part-steps-requires-clause-within : goal.part-steps-requires-clause-within
part-steps-requires-clause-within g c = c.requires.turn.next.within

pub part_parents-requires-clause-within : goal.part_parents-requires-clause-within
part_parents-requires-clause-within g c = let same = parents_many c.args.work.now c.requires.work in
    let within = c.requires.turn.next.within in
    omega arith

pub look_at_all-requires-clause-steps : goal.look_at_all-requires-clause-steps
look_at_all-requires-clause-steps g c = subst (AllByRecursion IsStep) (sym c.part-steps.ensures) (steps_slice (entries_of c.args.work.now) c.args.work.now.steps c.args.turn.now.here.from (c.args.turn.now.next.from - c.args.turn.now.here.from) (all_steps c.args.work.now c.requires.work)).lawful

pub look_at_all-requires-clause-parents : goal.look_at_all-requires-clause-parents
look_at_all-requires-clause-parents g c = subst (λ (ps : List Parents). AreParents c.part-steps.result.now ps) (sym c.part_parents.ensures)
    (slice_parents c.args.work.now.steps c.args.work.now.parents.items (c.args.turn.now.next.from - c.args.turn.now.here.from) c.args.turn.now.here.from c.part-steps.result.now c.requires.work.parents (sym c.part-steps.ensures))

pub look_at_all-requires-clause-few : goal.look_at_all-requires-clause-few
look_at_all-requires-clause-few g c = let T = g.T.Tree in
    let work = c.args.work.now in
    let turn = c.args.turn.now in
    let m = turn.here.from in
    let part = to_next_cut m (groups work.steps) in
    let cut = turn_part work.steps m turn.next.from c.requires.turn.here.within c.requires.turn.cut in
    let steps_are : c.part-steps.result.now ≡ to_next_cut c.args.turn.now.here.from (groups c.args.work.now.steps) = c.part-steps.ensures ∙ cut in
    let count : length c.part-steps.result.now ≡ length (to_next_cut c.args.turn.now.here.from (groups c.args.work.now.steps)) = ap length steps_are in
    let cut_is = c.requires.turn.cut in
    let small : c.args.turn.now.next.from < 2 ^ 64 = search rules in
    omega arith

pub returns-in_err-step-clause-follows : goal.returns-in_err-step-clause-follows
returns-in_err-step-clause-follows g c tells = let T = g.T.Tree in
    let work = c.args.work.now in
    let turn = c.args.turn.now in
    let m = turn.here.from in
    let part = to_next_cut m (groups work.steps) in
    let cut = turn_part work.steps m turn.next.from c.requires.turn.here.within c.requires.turn.cut in
    let began = T.history c.args.tree.now in
    let first = T.before_failed c.args.tree.now in
    let mid = T.history c.look_at_all.new.tree in
    let middle = T.before_failed c.look_at_all.new.tree in
    let steps_are : c.part-steps.result.now ≡ to_next_cut c.args.turn.now.here.from (groups c.args.work.now.steps) = c.part-steps.ensures ∙ cut in
    let e = c.in_err-step.field-0.0 in
    let is : c.from_residual.result ≡ Err e = search rules in
    let same : mid ≡ began = search rules in
    let tree : middle ≡ current_tree began = search rules in
    follows_look (turned_from work.steps m began) began mid first middle c.from_residual.result e is same tree

pub returns-in_err-step-clause-marked : goal.returns-in_err-step-clause-marked
returns-in_err-step-clause-marked g c = search rules

pub returns-in_err-step-clause-cause : goal.returns-in_err-step-clause-cause
returns-in_err-step-clause-cause g c = search rules

pub turn_to-requires-clause-work : goal.turn_to-requires-clause-work
turn_to-requires-clause-work g c = c.requires.work

pub turn_to-requires-clause-way : goal.turn_to-requires-clause-way
turn_to-requires-clause-way g c = c.requires.turn.here

pub turn_to-requires-clause-marker : goal.turn_to-requires-clause-marker
turn_to-requires-clause-marker g c = c.requires.turn.marker

pub turn_to-requires-clause-marked : goal.turn_to-requires-clause-marked
turn_to-requires-clause-marked g c tells = let T = g.T.Tree in
    let same : T.history c.look_at_all.new.tree ≡ T.history c.args.tree.now = search rules in
    subst (λ (h : History). IsMarked (at_marker c.args.turn.now.here.from) c.args.work.now h) (sym same) (c.requires.marked tells)

pub turn_to-requires-in-SomeDone-clause-work : goal.turn_to-requires-in-SomeDone-clause-work
turn_to-requires-in-SomeDone-clause-work g c = c.requires.work

pub turn_to-requires-in-SomeDone-clause-way : goal.turn_to-requires-in-SomeDone-clause-way
turn_to-requires-in-SomeDone-clause-way g c = c.requires.turn.next

pub turn_to-requires-in-SomeDone-clause-marker : goal.turn_to-requires-in-SomeDone-clause-marker
turn_to-requires-in-SomeDone-clause-marker g c = c.requires.turn.marker

pub turn_to-requires-in-SomeDone-clause-marked : goal.turn_to-requires-in-SomeDone-clause-marked
turn_to-requires-in-SomeDone-clause-marked g c tells = let T = g.T.Tree in
    let same : T.history c.look_at_all.new.tree ≡ T.history c.args.tree.now = search rules in
    subst (λ (h : History). IsMarked (at_marker c.args.turn.now.here.from) c.args.work.now h) (sym same) (c.requires.marked tells)

pub returns-in-Strange-clause-follows : goal.returns-in-Strange-clause-follows
returns-in-Strange-clause-follows g c tells = let T = g.T.Tree in
    let work = c.args.work.now in
    let turn = c.args.turn.now in
    let m = turn.here.from in
    let part = to_next_cut m (groups work.steps) in
    let cut = turn_part work.steps m turn.next.from c.requires.turn.here.within c.requires.turn.cut in
    let began = T.history c.args.tree.now in
    let first = T.before_failed c.args.tree.now in
    let mid = T.history c.look_at_all.new.tree in
    let middle = T.before_failed c.look_at_all.new.tree in
    let steps_are : c.part-steps.result.now ≡ to_next_cut c.args.turn.now.here.from (groups c.args.work.now.steps) = c.part-steps.ensures ∙ cut in
    let same : mid ≡ began = search rules in
    let tree : middle ≡ first = search rules in
    let seen : looked_of c.args.turn.now.here.from c.part-steps.result.now (current_tree (g.T.Tree.history c.args.tree.now)) ≡ Strange c.in-Strange.step = search rules in
    let told : looked_of m part (current_tree began) ≡ Strange c.in-Strange.step = ap (λ (l : List Step). looked_of m l (current_tree began)) (sym steps_are) ∙ seen in
    turn_strange work.steps m began mid same c.in-Strange.step told mid first middle same tree

pub returns-in-Strange-clause-marked : goal.returns-in-Strange-clause-marked
returns-in-Strange-clause-marked g c tells none = cc

pub returns-in-Strange-clause-cause : goal.returns-in-Strange-clause-cause
returns-in-Strange-clause-cause g c = search rules

pub returns-in-NoneDone-clause-follows : goal.returns-in-NoneDone-clause-follows
returns-in-NoneDone-clause-follows g c tells = let T = g.T.Tree in
    let work = c.args.work.now in
    let turn = c.args.turn.now in
    let m = turn.here.from in
    let part = to_next_cut m (groups work.steps) in
    let cut = turn_part work.steps m turn.next.from c.requires.turn.here.within c.requires.turn.cut in
    let began = T.history c.args.tree.now in
    let first = T.before_failed c.args.tree.now in
    let mid = T.history c.look_at_all.new.tree in
    let middle = T.before_failed c.look_at_all.new.tree in
    let steps_are : c.part-steps.result.now ≡ to_next_cut c.args.turn.now.here.from (groups c.args.work.now.steps) = c.part-steps.ensures ∙ cut in
    let same : mid ≡ began = search rules in
    let tree : middle ≡ first = search rules in
    let seen : looked_of c.args.turn.now.here.from c.part-steps.result.now (current_tree (g.T.Tree.history c.args.tree.now)) ≡ NoneDone = search rules in
    let told : looked_of m part (current_tree began) ≡ NoneDone = ap (λ (l : List Step). looked_of m l (current_tree began)) (sym steps_are) ∙ seen in
    let new = T.history c.turn_to.new.tree in
    let behind = T.before_failed c.turn_to.new.tree in
    follows_last (turned_from work.steps m began) began mid new first middle behind (turned_at work.steps m turn.here.from mid)
    (turn_here work.steps m began mid same told) tree c.turn_to.result (c.turn_to.ensures.follows tells)

pub returns-in-NoneDone-clause-marked : goal.returns-in-NoneDone-clause-marked
returns-in-NoneDone-clause-marked g c tells = c.turn_to.ensures.marked tells

pub returns-in-NoneDone-clause-cause : goal.returns-in-NoneDone-clause-cause
returns-in-NoneDone-clause-cause g c = search rules

pub returns-in-SomeDone-clause-follows : goal.returns-in-SomeDone-clause-follows
returns-in-SomeDone-clause-follows g c tells = let T = g.T.Tree in
    let work = c.args.work.now in
    let turn = c.args.turn.now in
    let m = turn.here.from in
    let part = to_next_cut m (groups work.steps) in
    let cut = turn_part work.steps m turn.next.from c.requires.turn.here.within c.requires.turn.cut in
    let began = T.history c.args.tree.now in
    let first = T.before_failed c.args.tree.now in
    let mid = T.history c.look_at_all.new.tree in
    let middle = T.before_failed c.look_at_all.new.tree in
    let steps_are : c.part-steps.result.now ≡ to_next_cut c.args.turn.now.here.from (groups c.args.work.now.steps) = c.part-steps.ensures ∙ cut in
    let same : mid ≡ began = search rules in
    let tree : middle ≡ first = search rules in
    let seen : looked_of c.args.turn.now.here.from c.part-steps.result.now (current_tree (g.T.Tree.history c.args.tree.now)) ≡ SomeDone = search rules in
    let told : looked_of m part (current_tree began) ≡ SomeDone = ap (λ (l : List Step). looked_of m l (current_tree began)) (sym steps_are) ∙ seen in
    let new = T.history c.turn_to-in-SomeDone.new.tree in
    let behind = T.before_failed c.turn_to-in-SomeDone.new.tree in
    follows_last (turned_from work.steps m began) began mid new first middle behind (turned_at work.steps m turn.next.from mid)
    (turn_next work.steps m began mid same told turn.next.from c.requires.turn.cut) tree c.turn_to-in-SomeDone.result (c.turn_to-in-SomeDone.ensures.follows tells)

pub returns-in-SomeDone-clause-marked : goal.returns-in-SomeDone-clause-marked
returns-in-SomeDone-clause-marked g c tells = c.turn_to-in-SomeDone.ensures.marked tells

pub returns-in-SomeDone-clause-cause : goal.returns-in-SomeDone-clause-cause
returns-in-SomeDone-clause-cause g c = search rules
