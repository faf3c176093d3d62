use Rattle.std.proofs.Common.{◌≡◌, ◌+◌, ◌<◌, ◌≤◌, ◌++◌, ◌∷◌, [], List, ℕ, Option, IfNone, IfSome, Vec, Global, ap, sym, subst, ◌∙◌, arith, rules, length, drop}
use Rattle.std.specs.List.{filter_map}
use Rattle.std.specs.List.Sorted.{IsPermutation, IsSorted}
use Rattle.dired_text.specs.Paths.{Names}
use Rattle.commit_steps.specs.declared.step.Step.{Step}
use Rattle.edit_words.specs.declared.row.Row.{Row}
use Rattle.commit_plan.specs.Boards.{IsAtSource, NoneAtSource, deeper_cmp, source_of}
use Rattle.commit_plan.proofs.TurnLemmas.{none_is_ready}
use Rattle.commit_plan.proofs.WayLemmas.{IsUnderWay, from_one, none_left, rest_behind, way_away, way_done, way_first, way_run, way_same, way_skip}
use Rattle.commit_plan.proofs.moves.moves.Goals.{in-Some+in_ok-put_away+in_ok-push, in_default}
use Rattle.commit_plan.proofs.moves.moves.Goals as goal

pub loop-source-init : goal.loop-source-init
loop-source-init c =
    let rs = c.args.rows.items in
    let paths = c.deref-source-items.result.now in
    let none : c.new-steps.result.items ≡ [] = search rules in
    let of_rows = subst (λ (l : List Row). IsPermutation (filter_map source_of l) c.in_ok-sources.sources.items) c.deref.ensures.value c.in_ok-sources.ensures.paths in
    let perm = subst (λ (l : List Names). IsPermutation (filter_map source_of rs) l) (sym c.deref-source-items.ensures.value) of_rows in
    subst (λ (l : List Step). IsUnderWay rs 0 paths c.in_ok-board.board l) (sym none)
    (way_first rs paths c.in_ok-board.board c.requires.lines c.requires.few perm c.in_ok-board.ensures.changes c.in_ok-board.ensures.sound c.in_ok-board.ensures.turns)

pub loop-source-preserved : goal.loop-source-preserved
loop-source-preserved c =
    let rs = c.args.rows.items in
    let n = c.loop-source.number in
    let paths = c.deref-source-items.result.now in
    let i = c.loop-source.source-index in
    let p = c.source-item.result in
    let rest = drop (i + 1) paths in
    let b = c.carry_ready.new.self in
    let steps = c.carry_ready.new.steps.items in
    let within : i < length paths = omega (arith, c.loop-source-test.true, c.loop-source.auto.source-index-end) in
    let sorted = subst (λ (l : List Names). IsSorted deeper_cmp l) (sym c.deref-source-items.ensures.value) c.in_ok-sources.ensures.sorted in
    let first : drop i paths ≡ p ∷ rest = from_one paths i p within ∙ ap (λ (x : Names). x ∷ rest) (sym c.source-item.is) in
    let before = subst (λ (l : List Names). IsUnderWay rs n l c.loop-source.board c.loop-source.steps.items) first c.loop-source.invariant in
    let way = way_run rs n (p ∷ rest) c.loop-source.board b c.loop-source.steps.items steps c.in_ok-carry_ready.ensures.sound c.in_ok-carry_ready.ensures.turns c.in_ok-carry_ready.ensures.run before in
    let none = none_is_ready b c.in_ok-carry_ready.ensures.turns c.in_ok-carry_ready.ensures.none in
    elim c.match-source_at.branch [
      | in-Some+in_ok-put_away+in_ok-push w ↦
          let here = subst (λ (o : Option ℕ). IfSome o (λ k. IsAtSource b.changes.items k p)) w.in-Some.is c.source_at.ensures.some in
          let pushed : w.push.new.self.items ≡ steps ++ w.in_ok-put_away.field-0 ∷ [] = search rules in
          let next = way_away rs n p rest b w.put_away.new.self steps w.in-Some.i w.in_ok-put_away.field-0 (rest_behind paths i p sorted within (sym c.source-item.is)) none here
          w.in_ok-put_away.ensures.step w.in_ok-put_away.ensures.sound w.in_ok-put_away.ensures.turns way in
          way_same rs (n + 1) _ rest w.put_away.new.self _ (steps ++ w.in_ok-put_away.field-0 ∷ []) _ w.number-is w.board-is (ap (λ (v : Vec Step Global). v.items) w.steps-is ∙ pushed) next
      | in_default w ↦
          let gone = subst (λ (o : Option ℕ). IfNone o (NoneAtSource b.changes.items p)) w.in_default.is c.source_at.ensures.none in
          way_same rs n _ rest b _ steps _ w.number-is w.board-is (ap (λ (v : Vec Step Global). v.items) w.steps-is) (way_skip rs n p rest b steps gone way)
    ]

pub returns : goal.returns
returns c =
    let rs = c.args.rows.items in
    let n = c.loop-source.number in
    let paths = c.deref-source-items.result.now in
    let past : length paths ≤ c.loop-source.source-index = omega (arith, c.loop-source-test.false, c.loop-source.auto.source-index-end) in
    let before = subst (λ (l : List Names). IsUnderWay rs n l c.loop-source.board c.loop-source.steps.items) (none_left paths c.loop-source.source-index past) c.loop-source.invariant in
    let last = c.in_ok-carry_ready-2.ensures in
    let way = way_run rs n [] c.loop-source.board c.carry_ready-2.new.self c.loop-source.steps.items c.carry_ready-2.new.steps.items last.sound last.turns last.run before in
    way_done rs n c.carry_ready-2.new.self c.carry_ready-2.new.steps.items (none_is_ready c.carry_ready-2.new.self last.turns last.none) way
