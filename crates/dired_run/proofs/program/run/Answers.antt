use Rattle.std.proofs.Common.{map, string_bytes}
use Rattle.tree_core.specs.History.{current_tree}
use Rattle.dired_run.specs.Runs.{outside, verdict}
use Rattle.dired_run.proofs.CompleteLemmas.{completes}
use Rattle.dired_run.proofs.KeptLemmas.{keeps}
use Rattle.dired_run.proofs.MomentLemmas.{moments_of}
use Rattle.dired_run.proofs.RunLemmas.{outcome_of}
use Rattle.dired_run.proofs.program.run.Goals as goal

pub returns-clause-outcome : goal.returns-clause-outcome
returns-clause-outcome g c =
    let before = outside (g.T.Tree.history c.args.tree.now) (g.T.Tree.fields c.args.tree.now) (g.T.Tree.faults c.args.tree.now) (g.T.Tree.changes c.args.tree.now) (g.T.Tree.before_failed c.args.tree.now) (g.H.Shelf.faults c.args.shelf.now) (g.H.Shelf.last_failed c.args.shelf.now) in
    let now = outside (g.T.Tree.history c.decide-ended.new.tree) (g.T.Tree.fields c.decide-ended.new.tree) (g.T.Tree.faults c.decide-ended.new.tree) (g.T.Tree.changes c.decide-ended.new.tree) (g.T.Tree.before_failed c.decide-ended.new.tree) (g.H.Shelf.faults c.decide-ended.new.shelf) (g.H.Shelf.last_failed c.decide-ended.new.shelf) in
    outcome_of g.T.Tree.Tells g.H.Shelf.Tells g.W.Sink.Tells _ before now c.decide-ended.result _ _ _ _ _ c.decide-ended.ensures.decided c.decide-ended.ensures.decides c.report.ensures

pub returns-clause-any_moment : goal.returns-clause-any_moment
returns-clause-any_moment g c tells also =
    let before = outside (g.T.Tree.history c.args.tree.now) (g.T.Tree.fields c.args.tree.now) (g.T.Tree.faults c.args.tree.now) (g.T.Tree.changes c.args.tree.now) (g.T.Tree.before_failed c.args.tree.now) (g.H.Shelf.faults c.args.shelf.now) (g.H.Shelf.last_failed c.args.shelf.now) in
    let now = outside (g.T.Tree.history c.decide-ended.new.tree) (g.T.Tree.fields c.decide-ended.new.tree) (g.T.Tree.faults c.decide-ended.new.tree) (g.T.Tree.changes c.decide-ended.new.tree) (g.T.Tree.before_failed c.decide-ended.new.tree) (g.H.Shelf.faults c.decide-ended.new.shelf) (g.H.Shelf.last_failed c.decide-ended.new.shelf) in
    moments_of (map string_bytes c.args.words.now) (g.H.Shelf.files c.args.shelf.now) before now _ _ (g.met.T.Tree.is_sound c.args.tree.now tells).tree (c.requires.durable tells) (c.decide-ended.ensures.decides tells also)

pub returns-clause-unconfirmed : goal.returns-clause-unconfirmed
returns-clause-unconfirmed g c tells also done request asked =
    let before = outside (g.T.Tree.history c.args.tree.now) (g.T.Tree.fields c.args.tree.now) (g.T.Tree.faults c.args.tree.now) (g.T.Tree.changes c.args.tree.now) (g.T.Tree.before_failed c.args.tree.now) (g.H.Shelf.faults c.args.shelf.now) (g.H.Shelf.last_failed c.args.shelf.now) in
    let now = outside (g.T.Tree.history c.decide-ended.new.tree) (g.T.Tree.fields c.decide-ended.new.tree) (g.T.Tree.faults c.decide-ended.new.tree) (g.T.Tree.changes c.decide-ended.new.tree) (g.T.Tree.before_failed c.decide-ended.new.tree) (g.H.Shelf.faults c.decide-ended.new.shelf) (g.H.Shelf.last_failed c.decide-ended.new.shelf) in
    let outcome = outcome_of g.T.Tree.Tells g.H.Shelf.Tells g.W.Sink.Tells (verdict (map string_bytes c.args.words.now) (g.H.Shelf.files c.args.shelf.now) (current_tree (g.T.Tree.history c.args.tree.now))) before now c.decide-ended.result _ _ _ _ _ c.decide-ended.ensures.decided c.decide-ended.ensures.decides c.report.ensures in
    keeps (map string_bytes c.args.words.now) (g.H.Shelf.files c.args.shelf.now) before now _ outcome.0 outcome.1 _ _ _ _ _ (g.met.T.Tree.is_sound c.args.tree.now tells) outcome.2.0.decision (outcome.2.1.0 tells also) outcome.2.1.1 done request asked

pub returns-clause-complete : goal.returns-clause-complete
returns-clause-complete g c tells also formed trees reads writes =
    let before = outside (g.T.Tree.history c.args.tree.now) (g.T.Tree.fields c.args.tree.now) (g.T.Tree.faults c.args.tree.now) (g.T.Tree.changes c.args.tree.now) (g.T.Tree.before_failed c.args.tree.now) (g.H.Shelf.faults c.args.shelf.now) (g.H.Shelf.last_failed c.args.shelf.now) in
    let now = outside (g.T.Tree.history c.decide-ended.new.tree) (g.T.Tree.fields c.decide-ended.new.tree) (g.T.Tree.faults c.decide-ended.new.tree) (g.T.Tree.changes c.decide-ended.new.tree) (g.T.Tree.before_failed c.decide-ended.new.tree) (g.H.Shelf.faults c.decide-ended.new.shelf) (g.H.Shelf.last_failed c.decide-ended.new.shelf) in
    let outcome = outcome_of g.T.Tree.Tells g.H.Shelf.Tells g.W.Sink.Tells (verdict (map string_bytes c.args.words.now) (g.H.Shelf.files c.args.shelf.now) (current_tree (g.T.Tree.history c.args.tree.now))) before now c.decide-ended.result _ _ _ _ _ c.decide-ended.ensures.decided c.decide-ended.ensures.decides c.report.ensures in
    completes (map string_bytes c.args.words.now) (g.H.Shelf.files c.args.shelf.now) before now _ outcome.0 outcome.1 _ _ _ _ _ (g.met.T.Tree.is_sound c.args.tree.now tells).tree (c.requires.durable tells) formed trees reads writes (outcome.2.1.0 tells also) outcome.2.1.1
