use Rattle.std.proofs.Common.{◌≡◌, ◌+◌, ◌<◌, ◌++◌, ◌∷◌, [], true, false, get_or, length, List, ap, ◌∙◌, arith, rules}
use Rattle.commit_recover.specs.Items.{is_of, items_by, pairs, placed}
use Rattle.commit_steps.specs.Staging.{staged}
use Rattle.recovery_calls.specs.declared.closing.Item.{Item}
use Rattle.commit_recover.proofs.PushLemmas.{passed_over, path_at, pushed, to_come}
use Rattle.commit_recover.proofs.items.push_those.Goals as goal
use Rattle.commit_recover.proofs.items.push_those.Goals.{then-is_wanted+in_ok-copy+in_ok-push, else-is_wanted}

pub loop-k-preserved : goal.loop-k-preserved
loop-k-preserved c =
    let p = is_of c.args.part in
    let ns = c.args.left.now.names.items in
    let fs = c.args.left.now.found.items in
    let k = c.loop-k.k in
    let xs = c.loop-k.items.items in
    let f = c.index-one.result.now in
    let whole = pairs c.args.items.now.items ++ placed (items_by p ns fs) in
    let lt : k < length fs = omega arith in
    let here : f ≡ get_or fs k f = search rules in
    elim c.if-is_wanted.branch [
      | then-is_wanted+in_ok-copy+in_ok-push w ↦
          (let q = w.in_ok-copy.field-0 in
          let item : Item = record { path = q; is_dir = w.is_dir.result } in
          let passes : p f.name ≡ true = cc in
          let path : q ≡ staged (get_or ns k []) = w.in_ok-copy.ensures ∙ path_at p ns fs c.requires.named c.args.left.now.paths.items c.requires.paths k lt w.index.result.now w.index.ensures in
          let grown : c.if-is_wanted.items.items ≡ xs ++ item ∷ [] = search rules in
          ap (λ (l : List Item). pairs l ++ to_come p ns fs c.requires.named (k + 1)) grown
          ∙ pushed p ns fs c.requires.named k f lt here passes item path w.is_dir.ensures xs whole c.loop-k.invariant)
      | else-is_wanted w ↦
          (let fails : p f.name ≡ false = cc in
          let same : c.if-is_wanted.items.items ≡ xs = cc in
          ap (λ (l : List Item). pairs l ++ to_come p ns fs c.requires.named (k + 1)) same
          ∙ passed_over p ns fs c.requires.named k f lt here fails xs whole c.loop-k.invariant)
    ]
