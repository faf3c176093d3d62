use Rattle.std.proofs.Common.{◌≡◌, ℕ, Bool, true, false, List, Option, Some, None, IfSome, IfNone, sym, subst, ◌∙◌}
use Rattle.commit_plan.specs.declared.changes.Change.{Change}
use Rattle.commit_plan.specs.Boards.{IsBlocker, IsKeeperBelow, IsUnblocked, NoKeeperBelow}
use Rattle.commit_plan.proofs.BlockLemmas.{keeper_blocks, no_keeper, no_source, source_blocks}
use Rattle.commit_plan.proofs.board.blocker.Goals as goal

pub returns-in-Some-clause-some : goal.returns-in-Some-clause-some
returns-in-Some-clause-some c = source_blocks c.args.changes.now c.in-Some.j c.args.away c.args.at.now c.args.to.now c.in-Some.ensures.some

pub returns-in-None-clause-none : goal.returns-in-None-clause-none
returns-in-None-clause-none c = (no_source c.args.changes.now c.args.to.now c.in-None.ensures.none, λ e. let both : true ≡ false = sym c.if-away.true ∙ e in cc)

pub returns-in-None-2-clause-some : goal.returns-in-None-2-clause-some
returns-in-None-2-clause-some c = by_found c.keeper_below.result c.keeper_below.ensures.some
  where
    cs : List Change
    cs = c.args.changes.now

    by_found : (o : Option ℕ) → IfSome o (λ j. IsKeeperBelow c.args.keepers.now c.args.at.now j) → IfSome o (λ j. IsBlocker cs j c.args.away c.args.at.now c.args.to.now)
    by_found None h = tt
    by_found (Some j) h = subst (λ (b : Bool). IsBlocker cs j b c.args.at.now c.args.to.now) (sym c.if-away.false) (keeper_blocks cs c.args.keepers.now j c.args.at.now c.args.to.now c.requires.rooted c.requires.keepers h)

pub returns-in-None-2-clause-none : goal.returns-in-None-2-clause-none
returns-in-None-2-clause-none c = by_found c.keeper_below.result c.keeper_below.ensures.none
  where
    cs : List Change
    cs = c.args.changes.now

    by_found : (o : Option ℕ) → IfNone o (NoKeeperBelow c.args.keepers.now c.args.at.now) → IfNone o (IsUnblocked cs c.args.away c.args.at.now c.args.to.now)
    by_found None h = (no_source cs c.args.to.now c.in-None.ensures.none, λ e. no_keeper cs c.args.keepers.now c.args.at.now c.requires.rooted c.requires.keepers h)
    by_found (Some j) h = tt
