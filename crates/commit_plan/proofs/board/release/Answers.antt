use Rattle.std.proofs.Common.{◌≡◌, ◌++◌, [], Some, ap, sym, ◌∙◌, rules}
use Rattle.std.specs.List.{slice_get}
use Rattle.std.proofs.lemmas.Option.{slice_get-get_or}
use Rattle.commit_plan.proofs.ListLemmas.{released_set}
use Rattle.commit_plan.proofs.board.release.Goals as goal

pub returns : goal.returns
returns c =
    let v = c.index_mut.result.now in
    let at : slice_get c.args.awaiting.now.items c.args.i ≡ Some v = slice_get-get_or c.args.awaiting.now.items c.args.i v c.requires ∙ ap (λ (x : _). Some x) (sym c.index_mut.ensures.value) in
    let none : c.append.new.other.items ≡ [] = search rules in
    let longer : c.append.new.self.items ≡ c.args.queue.now.items ++ v.items = search rules in
    released_set c.args.awaiting.now.items c.args.i v c.append.new.other at c.args.queue.now.items c.append.new.self.items none longer
