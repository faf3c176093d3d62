use Rattle.std.proofs.Common.{◌≡◌, ◌∙◌, sym, ap, subst, rules, true, List, ◌<◌, length, drop, All, ◌+◌}
use Rattle.std.specs.BTreeSet.{insert_key}
use Rattle.std.specs.FinMap.{get}
use Rattle.std.proofs.lemmas.Map.Views.{All-insert_key}
use Rattle.dired_text.specs.Paths.{Names, path_cmp}
use Rattle.tree_core.specs.FileTree.{IsDir, is_dir_node}
use Rattle.tree_core.specs.History.{History, current_tree}
use Rattle.subdir_list.specs.Listings.{paths_with}
use Rattle.subdir_list.proofs.ListingLemmas.{paths_more, first_more}
use Rattle.subdir_list.proofs.sections.paths_of.Goals as goal

pub loop-dir-preserved : goal.loop-dir-preserved
loop-dir-preserved g c =
    let T = g.T.Tree in
    let dirs = c.args.dirs.now in
    let i = c.loop-dir.dir-index in
    let d : Names = c.dir-item.result in
    let below : i < length dirs = search rules in
    let keys : c.insert-in-loop-dir.new.self.keys ≡ insert_key path_cmp c.loop-dir.paths.keys d = c.in_ok-insert-2.ensures.keys ∙ ap (insert_key path_cmp c.loop-dir.paths.keys) c.in_ok-path.ensures in
    let is_dir : T.Tells → is_dir_node (get (current_tree (T.history c.args.tree.now)) d) ≡ true = λ tells.
    subst (λ (h : History). is_dir_node (get (current_tree h) d) ≡ true) (c.loop-dir.invariant.history tells) (sym (c.in_ok-is_dir.ensures.dir tells) ∙ c.if-not-branch.false) in
    record {
      paths = c.loop-dir.invariant.paths ∙ paths_more c.loop-dir.paths.keys dirs i d below c.dir-item.is ∙ ap (λ (ks : List Names). paths_with ks (drop (i + 1) dirs)) (sym keys);
      dirs = λ tells. subst (λ (ks : List Names). All (λ p. IsDir (current_tree (T.history c.args.tree.now)) p) ks) (sym keys)
          (All-insert_key path_cmp d (λ p. IsDir (current_tree (T.history c.args.tree.now)) p) c.loop-dir.paths.keys (c.loop-dir.invariant.dirs tells) (is_dir tells));
      first = λ tells. c.loop-dir.invariant.first tells ∙ first_more (current_tree (T.history c.args.tree.now)) dirs i d below c.dir-item.is (is_dir tells);
      history = search rules;
      fields = search rules;
      found = search rules;
      faults = search rules;
      changes = search rules;
    }
