use Rattle.std.proofs.Common.{◌≡◌, ◌∙◌, ◌++◌, List, rules, sym, ap, subst, flat_map, w64, to_z, of_z}
use Rattle.dired_text.specs.Paths.{Names}
use Rattle.tree_core.specs.declared.meta.Meta.{Meta}
use Rattle.tree_core.specs.Fields.{names_in}
use Rattle.tree_core.specs.History.{History, current_tree}
use Rattle.listing_text.specs.declared.line.Line.{Line}
use Rattle.find_listing.specs.declared.walk.Step.{Step}
use Rattle.find_listing.specs.declared.walk.Step.TheVariants.{TooLong, At}
use Rattle.find_listing.specs.Finds.{lines_found, line_if}
use Rattle.find_listing.specs.Walks.{children, pending, IsNext}
use Rattle.find_listing.proofs.WalkLemmas.{IsWalked, lines_below, lines_start, lines_on, lines_past, stand_start, stand_first, stand_past, stand_on, walked_start, walked_past, walked_on, visited_less}
use Rattle.find_listing.proofs.finding.find.Goals as goal

pub loop-lines-init : goal.loop-lines-init
loop-lines-init g c =
    let T = g.T.Tree in
    let t = current_tree (T.history c.args.tree.now) in
    let shown = T.fields c.args.tree.now in
    let now = to_z w64 (of_z w64 c.args.now) in
    let e = c.args.predicate.now in
    let root = c.root-root.result in
    let names = c.in_ok-names.names.items in
    let pend = pending c.new-walk.result in
    record {
      lines = λ tells.
          lines_start t shown now e (g.met.T.Tree.is_sound c.args.tree.now tells).tree root names pend c.root-root.ensures (c.in_ok-names.ensures.names tells) c.new-walk.ensures
          ∙ sym (ap (λ (ls : List Line). ls ++ flat_map (lines_below t shown now e) pend) c.new-lines.ensures.items);
      stand = λ tells. stand_start t root names pend (c.in_ok-names.ensures.names tells) c.new-walk.ensures;
      walked = subst (λ (ls : List Line). IsWalked ls pend) (sym c.new-lines.ensures.items) (walked_start root names pend c.new-walk.ensures c.in_ok-names.ensures.rise);
      history = search rules;
      fields = search rules;
      found = search rules;
      faults = search rules;
      changes = search rules;
    }

pub loop-lines-preserved-in-TooLong : goal.loop-lines-preserved-in-TooLong
loop-lines-preserved-in-TooLong g c =
    let T = g.T.Tree in
    let t = current_tree (T.history c.args.tree.now) in
    let shown = T.fields c.args.tree.now in
    let now = to_z w64 (of_z w64 c.args.now) in
    let e = c.args.predicate.now in
    let before = pending c.loop-lines.walk in
    let after = pending c.next.new.self in
    let lines = c.loop-lines.lines.items in
    let next : IsNext before after TooLong = subst (λ (s : Step). IsNext before after s) c.in-TooLong.is c.in_ok-next.ensures in
    record {
      lines = λ tells. lines_past t shown now e next.0 (lines_found t shown now e) lines before after next.2 (c.loop-lines.invariant.lines tells) next.1;
      stand = λ tells. stand_past t next.0 before after next.1 (c.loop-lines.invariant.stand tells);
      walked = walked_past lines next.0 before after next.1 c.loop-lines.invariant.walked;
      history = search rules;
      fields = search rules;
      found = search rules;
      faults = search rules;
      changes = search rules;
    }

pub loop-lines-smaller : goal.loop-lines-smaller
loop-lines-smaller g c =
    let before = pending c.loop-lines.walk in
    let rest = pending c.next.new.self in
    let p : Names = c.in-At.path in
    let next : IsNext before rest (At p) = subst (λ (s : Step). IsNext before rest s) c.in-At.is c.in_ok-next.ensures in
    visited_less p before rest (pending c.visit.new.walk) next.0 next.1 next.2 c.in_ok-visit-in-At.ensures.entered

pub loop-lines-preserved : goal.loop-lines-preserved
loop-lines-preserved g c =
    let T = g.T.Tree in
    let t = current_tree (T.history c.args.tree.now) in
    let shown = T.fields c.args.tree.now in
    let now = to_z w64 (of_z w64 c.args.now) in
    let e = c.args.predicate.now in
    let before = pending c.loop-lines.walk in
    let rest = pending c.next.new.self in
    let after = pending c.visit.new.walk in
    let old = c.loop-lines.lines.items in
    let new = c.visit.new.lines.items in
    let p : Names = c.in-At.path in
    let next : IsNext before rest (At p) = subst (λ (s : Step). IsNext before rest s) c.in-At.is c.in_ok-next.ensures in
    let entered : T.Tells → after ≡ children p (names_in t p) ++ rest = λ tells.
    c.in_ok-visit-in-At.ensures.names tells ∙ ap (λ (h : History). children p (names_in (current_tree h) p) ++ rest) (c.loop-lines.invariant.history tells) in
    let added : T.Tells → new ≡ old ++ line_if now e p (shown p) = λ tells.
    c.in_ok-visit-in-At.ensures.lines tells ∙ ap (λ (f : Names → Meta). old ++ line_if now e p (f p)) (c.loop-lines.invariant.fields tells) in
    record {
      lines = λ tells.
          lines_on t shown now e p (lines_found t shown now e) old new before rest after (g.met.T.Tree.is_sound c.args.tree.now tells).tree
          (stand_first t p before rest next.0 (c.loop-lines.invariant.stand tells)) next.2 (c.loop-lines.invariant.lines tells) next.0 (added tells) (entered tells);
      stand = λ tells. stand_on t p before rest after next.0 (entered tells) (c.loop-lines.invariant.stand tells);
      walked = walked_on old new p before rest after next.0 c.loop-lines.invariant.walked c.in_ok-visit-in-At.ensures.added c.in_ok-visit-in-At.ensures.entered;
      history = search rules;
      fields = search rules;
      found = search rules;
      faults = search rules;
      changes = search rules;
    }
