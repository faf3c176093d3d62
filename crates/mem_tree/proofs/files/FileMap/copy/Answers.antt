use Rattle.mem_tree.proofs.KeptMaps.{file_copied, files_copied}
use Rattle.mem_tree.proofs.files.FileMap.copy.Goals as goal

pub loop-number-preserved : goal.loop-number-preserved
loop-number-preserved c =
    file_copied c.self.inside.files c.loop-number.yielded (c.in-Some.number, c.in-Some.body) _ _ _ _ _ c.in_ok-copy.field-0 c.self.invariant c.into_iter-number-iterator.ensures.into_iter_gives.0 c.loop-number.yielded_by
    c.in-Some.ensures.steps c.loop-number.invariant c.in_ok-insert.ensures.ok c.in_ok-copy.ensures

pub returns : goal.returns
returns c = files_copied c.self.inside.files c.loop-number.yielded _ _ _ _ c.into_iter-number-iterator.ensures.into_iter_gives.0 c.loop-number.yielded_by c.in-None.ensures.steps.0 c.loop-number.invariant c.self.view_is
