use Rattle.std.proofs.Common.{◌∙◌, ap, sym, map, Bor}
use Rattle.std.proofs.lemmas.List.{take_all}
use Rattle.dired_text.specs.Paths.{Names}
use Rattle.tree_core.specs.FileTree.{moved}
use Rattle.mem_tree.proofs.Answering.{map_map}
use Rattle.mem_tree.proofs.renaming.moves.Goals as goal

pub returns : goal.returns
returns c =
    c.loop-old.invariant ∙ ap (map (λ (k : Bor Names). (k.now, moved c.args.from.now c.args.to.now k.now))) (take_all c.loop-old.old-index _ c.loop-old-test.false ∙ c.deref-old-items.ensures.value)
    ∙ sym (map_map (λ (q : Names). (q, moved c.args.from.now c.args.to.now q)) (λ (k : Bor Names). k.now) c.in_ok-olds.olds.items)
    ∙ ap (map (λ (q : Names). (q, moved c.args.from.now c.args.to.now q))) c.in_ok-olds.ensures
