use Rattle.std.proofs.Common.{refl}
use Rattle.dired_run.specs.Runs.{outside}
use Rattle.dired_run.proofs.DecidedLemmas.{inputs_decided, tree_decided}
use Rattle.dired_run.proofs.InputLemmas.{inputs_decide, request_decides}
use Rattle.dired_run.proofs.program.commit_buffers.Goals as goal

pub returns-in-Ok-clause-decides : goal.returns-in-Ok-clause-decides
returns-in-Ok-clause-decides g c tells also =
    let start = outside (g.T.Tree.history c.args.tree.now) (g.T.Tree.fields c.args.tree.now) (g.T.Tree.faults c.args.tree.now) (g.T.Tree.changes c.args.tree.now) (g.T.Tree.before_failed c.args.tree.now) (g.H.Shelf.faults c.args.shelf.now) (g.H.Shelf.last_failed c.args.shelf.now) in
    let now = outside (g.T.Tree.history c.carry_out.new.tree) (g.T.Tree.fields c.carry_out.new.tree) (g.T.Tree.faults c.carry_out.new.tree) (g.T.Tree.changes c.carry_out.new.tree) (g.T.Tree.before_failed c.carry_out.new.tree) (g.H.Shelf.faults c.asked_for.new.shelf) (g.H.Shelf.last_failed c.asked_for.new.shelf) in
    request_decides _ start now c.in-Ok.request _ _ (c.in-Ok.ensures.asked also)
    (c.carry_out.ensures.decides tells (g.H.Shelf.faults c.args.shelf.now) (g.H.Shelf.faults c.asked_for.new.shelf) (g.H.Shelf.last_failed c.args.shelf.now) (g.H.Shelf.last_failed c.asked_for.new.shelf) c.in-Ok.ensures.count)

pub returns-in-Ok-clause-decided : goal.returns-in-Ok-clause-decided
returns-in-Ok-clause-decided g c =
    let start = outside (g.T.Tree.history c.args.tree.now) (g.T.Tree.fields c.args.tree.now) (g.T.Tree.faults c.args.tree.now) (g.T.Tree.changes c.args.tree.now) (g.T.Tree.before_failed c.args.tree.now) (g.H.Shelf.faults c.args.shelf.now) (g.H.Shelf.last_failed c.args.shelf.now) in
    let now = outside (g.T.Tree.history c.carry_out.new.tree) (g.T.Tree.fields c.carry_out.new.tree) (g.T.Tree.faults c.carry_out.new.tree) (g.T.Tree.changes c.carry_out.new.tree) (g.T.Tree.before_failed c.carry_out.new.tree) (g.H.Shelf.faults c.asked_for.new.shelf) (g.H.Shelf.last_failed c.asked_for.new.shelf) in
    tree_decided g.T.Tree.Tells g.H.Shelf.Tells _ start now c.carry_out.result c.carry_out.ensures.end c.carry_out.ensures.calls c.carry_out.ensures.kept c.in-Ok.ensures.count
    (λ tells. c.carry_out.ensures.decides tells (g.H.Shelf.faults c.args.shelf.now) (g.H.Shelf.faults c.asked_for.new.shelf) (g.H.Shelf.last_failed c.args.shelf.now) (g.H.Shelf.last_failed c.asked_for.new.shelf) c.in-Ok.ensures.count)

pub returns-in-Err-clause-decides : goal.returns-in-Err-clause-decides
returns-in-Err-clause-decides g c tells also =
    let start = outside (g.T.Tree.history c.args.tree.now) (g.T.Tree.fields c.args.tree.now) (g.T.Tree.faults c.args.tree.now) (g.T.Tree.changes c.args.tree.now) (g.T.Tree.before_failed c.args.tree.now) (g.H.Shelf.faults c.args.shelf.now) (g.H.Shelf.last_failed c.args.shelf.now) in
    let now = outside (g.T.Tree.history c.args.tree.now) (g.T.Tree.fields c.args.tree.now) (g.T.Tree.faults c.args.tree.now) (g.T.Tree.changes c.args.tree.now) (g.T.Tree.before_failed c.args.tree.now) (g.H.Shelf.faults c.asked_for.new.shelf) (g.H.Shelf.last_failed c.asked_for.new.shelf) in
    inputs_decide _ start now c.in-Err.status c.in-Err.ensures.end (record { history = refl; faults = refl }) (c.in-Err.ensures.asked also) c.in-Err.ensures.count

pub returns-in-Err-clause-decided : goal.returns-in-Err-clause-decided
returns-in-Err-clause-decided g c =
    let start = outside (g.T.Tree.history c.args.tree.now) (g.T.Tree.fields c.args.tree.now) (g.T.Tree.faults c.args.tree.now) (g.T.Tree.changes c.args.tree.now) (g.T.Tree.before_failed c.args.tree.now) (g.H.Shelf.faults c.args.shelf.now) (g.H.Shelf.last_failed c.args.shelf.now) in
    let now = outside (g.T.Tree.history c.args.tree.now) (g.T.Tree.fields c.args.tree.now) (g.T.Tree.faults c.args.tree.now) (g.T.Tree.changes c.args.tree.now) (g.T.Tree.before_failed c.args.tree.now) (g.H.Shelf.faults c.asked_for.new.shelf) (g.H.Shelf.last_failed c.asked_for.new.shelf) in
    inputs_decided g.T.Tree.Tells g.H.Shelf.Tells _ start now c.in-Err.status c.in-Err.ensures.end (record { history = refl; faults = refl }) refl c.in-Err.ensures.asked c.in-Err.ensures.count
