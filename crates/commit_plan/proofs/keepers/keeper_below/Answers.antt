use Rattle.std.proofs.Common.{◌≡◌, [], true, false, is_some, rules}
use Rattle.dired_text.specs.Paths.{rest_below}
use Rattle.commit_plan.proofs.PathOrder.{below_from, first_is, first_not_below, none_behind}
use Rattle.commit_plan.proofs.keepers.keeper_below.Goals as goal

pub returns-in-Some-clause-some : goal.returns-in-Some-clause-some
returns-in-Some-clause-some c =
    let p = c.args.path.now in
    let q = c.in-Some.source.now in
    let first = first_is c.args.keepers.now p c.range.result (c.range.ensures.in_range tt) (q, c.in-Some.i.now) _ c.in-Some.ensures.steps in
    let some : is_some (rest_below p q) ≡ true = search rules in
    (q, first.1, below_from p q first.0 some)

pub returns-in_default-clause-none : goal.returns-in_default-clause-none
returns-in_default-clause-none c =
    let p = c.args.path.now in
    let q = c.in-Some.source.now in
    let none : is_some (rest_below p q) ≡ false = search rules in
    first_not_below c.args.keepers.now p c.range.result (c.range.ensures.in_range tt) (q, c.in-Some.i.now) _ c.in-Some.ensures.steps none

pub returns-in_default-2-clause-none : goal.returns-in_default-2-clause-none
returns-in_default-2-clause-none c =
    let none : c.range.result ≡ [] = search rules in
    none_behind c.args.keepers.now c.args.path.now c.range.result (c.range.ensures.in_range tt) none
