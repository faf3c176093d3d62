use Rattle.std.proofs.Common.{◌≡◌, ◌∙◌, sym, ap, subst, rules, arith, suc, List, [], ◌∷◌, ◌++◌, ℕ, ◌+◌, ◌<◌, length, take}
use Rattle.std.proofs.Math.Seq.{take-suc}
use Rattle.dired_text.specs.Paths.{Names}
use Rattle.tree_core.specs.declared.meta.Meta.{Meta}
use Rattle.tree_core.specs.History.{History, current_tree}
use Rattle.subdir_list.specs.Listings.{AreSections, IsSection}
use Rattle.subdir_list.proofs.ListingLemmas.{sections_more, listing_more}
use Rattle.subdir_list.proofs.sections.list_dirs.Goals as goal

pub loop-path-preserved : goal.loop-path-preserved
loop-path-preserved g c =
    let T = g.T.Tree in
    let paths = c.deref-path-items.result.now in
    let i = c.loop-path.path-index in
    let p : Names = c.path-item.result in
    let section : List ℕ = c.in_ok-section.section in
    let below : i < length paths = search rules in
    let one : i + 1 ≡ suc i = omega arith in
    let first : take (i + 1) paths ≡ take i paths ++ p ∷ [] = ap (λ (n : ℕ). take n paths) one ∙ take-suc paths i p below ∙ ap (λ (q : Names). take i paths ++ q ∷ []) (sym c.path-item.is) in
    let text : c.extend_from_slice-in-loop-path.new.self.items ≡ (c.loop-path.text.items ++ 10 ∷ []) ++ section = search rules in
    record {
      sections = λ tells.
          let t = current_tree (T.history c.args.tree.now) in
          let fields = T.fields c.args.tree.now in
          let before = c.loop-path.invariant.sections tells in
          let here : IsSection c.args.switches.now t fields p section =
          subst (λ (h : History). IsSection c.args.switches.now (current_tree h) fields p section) (c.loop-path.invariant.history tells)
          (subst (λ (f : Names → Meta). IsSection c.args.switches.now (current_tree (T.history c.loop-path.tree)) f p section) (c.loop-path.invariant.fields tells) (c.in_ok-section.ensures.section tells)) in (
            before.0 ++ section ∷ [],
            subst (λ (ps : List Names). AreSections c.args.switches.now t fields ps (before.0 ++ section ∷ [])) (sym first) (sections_more c.args.switches.now t fields (take i paths) before.0 p section before.1 here),
            text ∙ ap (λ (l : List ℕ). (l ++ 10 ∷ []) ++ section) before.2 ∙ sym (listing_more before.0 section),
          );
      history = search rules;
      fields = search rules;
      found = search rules;
      faults = search rules;
      changes = search rules;
    }
