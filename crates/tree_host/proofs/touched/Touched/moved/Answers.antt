use Rattle.std.proofs.Common.{rules, ◌≡◌, ◌≤◌, true, All, map, sym, subst, ◌∙◌, slice_index_or}
use Rattle.std.proofs.lemmas.List.{map-id}
use Rattle.std.proofs.lemmas.List.Elements.{All-push}
use Rattle.std.proofs.lemmas.Map.Iter.{iter_end}
use Rattle.std.specs.BTreeSet.{btree_set_len}
use Rattle.tree_core.specs.FileTree.{moved as place_after}
use Rattle.tree_host.specs.Notes.{IsNoted, most_notes}
use Rattle.tree_host.proofs.touched.Touched.moved.Goals as goal

pub loop-path-preserved : goal.loop-path-preserved
loop-path-preserved c =
    let place = place_after c.args.from.now c.args.to.now in
    let new = c.note_moved.new.self in
    let kept = c.note_moved.ensures.kept in
    let before = c.loop-path.invariant.0 in
    let here : IsNoted new (place c.in-Some.path) = search rules in
    let all : c.args.self.now.all ≡ true → new.all ≡ true = search rules in
    let few : btree_set_len new.paths ≤ most_notes = search rules in (
      All-push (λ q. IsNoted new (place q)) c.loop-path.yielded c.in-Some.path (λ k d below. kept.0 (place (slice_index_or c.loop-path.yielded k d)) (before k d below)) here,
      all,
      few,
    )

pub returns-clause-moved : goal.returns-clause-moved
returns-clause-moved c =
    let all : map (λ x. x) c.loop-path.yielded ≡ c.args.self.now.paths.keys = search (rules, iter_end) in
    subst (All (λ q. IsNoted c.loop-path.self (place_after c.args.from.now c.args.to.now q))) (sym (map-id _) ∙ all) c.loop-path.invariant.0
