use Rattle.std.proofs.Common.{ap}
use Rattle.omit_rules.specs.Values.{values_of}
use Rattle.dired_session.specs.Desks.{seen}
use Rattle.dired_session.proofs.SessionLemmas.{opened_is}
use Rattle.dired_session.proofs.session.Session.new.Goals as goal

pub returns-clause-opened : goal.returns-clause-opened
returns-clause-opened g c tells =
    let listed = c.in-Ok.ensures.listed tells in
    opened_is c.args.rules (values_of c.args.settings) (seen (g.T.Tree.history c.args.tree.now) (g.T.Tree.fields c.args.tree.now)) c.in-Ok.views c.kept_old.result c.kept_new.result
    listed.0 listed.1 listed.2 c.kept_old.ensures c.kept_new.ensures
