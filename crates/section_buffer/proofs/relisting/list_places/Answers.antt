use Rattle.std.proofs.Common.{◌∙◌, ◌<◌, ◌≤◌, ap, subst, rules, length, List}
use Rattle.std.specs.FinMap.{get}
use Rattle.dired_text.specs.Paths.{Names}
use Rattle.listing_text.specs.declared.line.Line.{Line as line_type}
use Rattle.subdir_list.specs.Listings.{IsListed}
use Rattle.tree_core.specs.FileTree.{is_dir_node}
use Rattle.tree_core.specs.History.{History, current_tree}
use Rattle.tree_core.specs.declared.meta.Meta.{Meta}
use Rattle.section_buffer.specs.Relisting.{Place}
use Rattle.section_buffer.proofs.RelistLemmas.{lists-as, so-far-end, so-far-next, so-far-start}
use Rattle.section_buffer.proofs.relisting.list_places.Goals as goal

pub loop-place-init : goal.loop-place-init
loop-place-init g c =
    let T = g.T.Tree in record {
      listed = so-far-start T.Tells c.args.switches.now (current_tree (T.history c.args.tree.now)) (T.fields c.args.tree.now) c.args.places.now c.in_ok-rows.rows c.in_ok-rows.ensures c.requires.root c.requires.sorted;
      history = search rules;
      fields = search rules;
      found = search rules;
      faults = search rules;
      changes = search rules;
    }

pub loop-place-preserved : goal.loop-place-preserved
loop-place-preserved g c =
    let T = g.T.Tree in
    let places : List Place = c.args.places.now in
    let i = c.loop-place.place-index in
    let place : Place = c.place-item.result in
    let below : i < length places = search rules in
    let switches = c.args.switches.now in
    let t = current_tree (T.history c.args.tree.now) in
    let fields = T.fields c.args.tree.now in
    let so_far = c.loop-place.invariant in
    let made = c.in_ok-list_place.ensures.listed in
    record {
      listed = so-far-next T.Tells switches t fields places i place c.loop-place.rows c.list_place.new.rows made.0 below c.place-item.is so_far.listed
          (λ tells. made.1 tells ∙ ap (λ (h : History). is_dir_node (get (current_tree h) place.0)) (so_far.history tells))
          (lists-as made.0 _ (λ (lines : List line_type). T.Tells → IsListed switches t fields place.0 lines) place c.loop-place.rows c.list_place.new.rows
          (λ lines here tells. subst (λ (h : History). IsListed switches (current_tree h) fields place.0 lines) (so_far.history tells)
          (subst (λ (f : Names → Meta). IsListed switches (current_tree (T.history c.loop-place.tree)) f place.0 lines) (so_far.fields tells) (here tells)))
          made.2);
      history = search rules;
      fields = search rules;
      found = search rules;
      faults = search rules;
      changes = search rules;
    }

pub returns-clause-listed : goal.returns-clause-listed
returns-clause-listed g c =
    let T = g.T.Tree in
    let places : List Place = c.args.places.now in
    let i = c.loop-place.place-index in
    let past : length places ≤ i = search rules in
    so-far-end T.Tells c.args.switches.now (current_tree (T.history c.args.tree.now)) (T.fields c.args.tree.now) places i c.loop-place.rows past c.loop-place.invariant.listed
