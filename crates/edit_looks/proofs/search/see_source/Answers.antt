use Rattle.std.proofs.Common.{◌≡◌, inr, Some, true, rules}
use Rattle.tree_core.specs.History.{current_tree}
use Rattle.edit_words.specs.Found.{sight_in}
use Rattle.edit_words.specs.Refusals.{is_stale_at}
use Rattle.edit_words.specs.Sight.{sight_of}
use Rattle.edit_looks.proofs.SearchLemmas.{stale_told}
use Rattle.edit_looks.proofs.search.see_source.Goals as goal

pub returns-then-is_stale-clause-refused : goal.returns-then-is_stale-clause-refused
returns-then-is_stale-clause-refused g c tells =
    let t = current_tree (g.T.Tree.history c.args.tree.now) in
    let f = c.see_for.new.findings in
    let row = c.args.row.now in
    let source : row.source ≡ Some c.in-Some.source = search rules in
    let stale_here : is_stale_at (sight_in f) (Some c.in-Some.source) row.was ≡ true = search rules in
    inr (inr (stale_told f (sight_of t) row c.in-Some.source (c.see_for.ensures.told tells) source c.in_ok-see_for.ensures.seen stale_here))
