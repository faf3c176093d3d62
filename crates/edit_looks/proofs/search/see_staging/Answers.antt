use Rattle.std.proofs.Common.{◌≡◌, None, option_map, rules}
use Rattle.std.specs.FinMap.{get}
use Rattle.tree_core.specs.FileTree.{kind_of}
use Rattle.tree_core.specs.History.{current_tree}
use Rattle.edit_words.specs.Refusals.{staging}
use Rattle.edit_words.specs.Sight.{sight_of}
use Rattle.edit_words.proofs.FindingsLemmas.{tree_is_seen}
use Rattle.edit_looks.proofs.LookLemmas.{none_shown}
use Rattle.edit_looks.proofs.search.see_staging.Goals as goal

pub returns-in-Ok-unstaged-clause-told : goal.returns-in-Ok-unstaged-clause-told
returns-in-Ok-unstaged-clause-told g c tells =
    let t = current_tree (g.T.Tree.history c.args.tree.now) in
    let none : None ≡ option_map kind_of (get t staging) = search rules in
    c.in-Ok-unstaged.ensures.told (sight_of t) (tree_is_seen t (g.met.T.Tree.is_sound c.args.tree.now tells).tree) (none_shown (get t staging) none)
