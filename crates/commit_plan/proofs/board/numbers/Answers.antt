use Rattle.std.proofs.Common.{◌≡◌, ◌++◌, ◌∷◌, ◌+◌, ℕ, [], List, arith, rules, sym, subst}
use Rattle.commit_plan.proofs.ListLemmas.{AreBelow, one_below}
use Rattle.commit_plan.proofs.board.numbers.Goals as goal

pub loop-i-preserved : goal.loop-i-preserved
loop-i-preserved c =
    let pushed : c.push.new.self.items ≡ c.loop-i.all.items ++ c.loop-i.i ∷ [] = search rules in
    subst (λ (l : List ℕ). AreBelow (c.loop-i.i + 1) l) (sym pushed) (one_below c.loop-i.i c.loop-i.all.items c.loop-i.invariant)

pub returns-clause-within : goal.returns-clause-within
returns-clause-within c = λ k in_list. let less = c.loop-i.invariant.within k in_list in omega (arith, less, c.loop-i.auto.i-end, c.loop-i-test.false)
