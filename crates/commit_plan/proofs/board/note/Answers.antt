use Rattle.std.proofs.Common.{◌≡◌, ◌++◌, ◌∷◌, [], Some, ap, sym, ◌∙◌, rules}
use Rattle.std.specs.List.{slice_get}
use Rattle.std.proofs.lemmas.Option.{slice_get-get_or}
use Rattle.commit_plan.proofs.ListLemmas.{noted_set}
use Rattle.commit_plan.proofs.board.note.Goals as goal

pub returns : goal.returns
returns c =
    let v = c.index_mut.result.now in
    let at : slice_get c.args.awaiting.now.items c.args.j ≡ Some v = slice_get-get_or c.args.awaiting.now.items c.args.j v c.requires ∙ ap (λ (x : _). Some x) (sym c.index_mut.ensures.value) in
    let pushed : c.push.new.self.items ≡ v.items ++ c.args.i ∷ [] = search rules in
    noted_set c.args.awaiting.now.items c.args.j v c.push.new.self at c.args.i pushed
