use Rattle.std.proofs.Common.{◌≡◌, ◌∙◌, Some, sym, ap}
use Rattle.std.specs.Option.{option_map}
use Rattle.std.specs.FinMap.{get}
use Rattle.tree_core.specs.declared.meta.Meta.{Meta}
use Rattle.tree_core.specs.FileTree.{kind_of}
use Rattle.tree_core.specs.History.{History, current_tree}
use Rattle.find_listing.proofs.WalkLemmas.{kind_shown}
use Rattle.find_listing.proofs.finding.visit.Goals as goal

pub enter-requires : goal.enter-requires
enter-requires g c = record {
  kind = λ tells.
      let T = g.T.Tree in
      let t = current_tree (T.history c.args.tree.now) in
      let fields = T.fields c.args.tree.now in
      let shown : option_map kind_of (get t c.args.path) ≡ Some (fields c.args.path).kind = kind_shown t fields c.args.path (g.met.T.Tree.fields_show c.args.tree.now tells) (c.requires.stands tells) in
      let meta : c.in_ok-meta.meta ≡ fields c.args.path = c.in_ok-meta.ensures.meta tells in
      ap (λ (h : History). option_map kind_of (get (current_tree h) c.args.path)) (c.in_ok-meta.ensures.looked tells).history
      ∙ shown ∙ ap (λ (m : Meta). Some m.kind) (sym meta);
}
