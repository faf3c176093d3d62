use Rattle.std.proofs.Common.{◌≡◌, ◌++◌, drop}
use Rattle.std.specs.List.{filter_map}
use Rattle.subdir_list.specs.Listings.{line_at}
use Rattle.subdir_list.proofs.lines.lines_of.Given as goal

abbrev pub invariant-loop-name : goal.invariant-loop-name
invariant-loop-name g l =
    let T = g.T.Tree in record {
      lines : T.Tells → filter_map (line_at (T.fields l.fn.tree) l.switches l.dir) l.names ≡ l.lines.items ++ filter_map (line_at (T.fields l.fn.tree) l.switches l.dir) (drop l.name-index l.names);
      history : T.Tells → T.history l.tree ≡ T.history l.fn.tree;
      fields : T.Tells → T.fields l.tree ≡ T.fields l.fn.tree;
      found : T.Tells → T.before_failed l.tree ≡ T.before_failed l.fn.tree;
      faults : T.faults l.tree ≡ T.faults l.fn.tree;
      changes : T.changes l.tree ≡ T.changes l.fn.tree;
    }
