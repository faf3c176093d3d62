use Rattle.std.proofs.Common.{subst, reverse, vec_capacity}
use Rattle.section_buffer.specs.Buffers.{BufferState}
use Rattle.section_buffer.specs.Held.{IsRootFirst}
use Rattle.section_buffer.specs.Rows.{rows_of}
use Rattle.section_buffer.proofs.BackLemmas.{insertion-back}
use Rattle.section_buffer.proofs.UndoLemmas.{seen-root}
use Rattle.section_buffer.proofs.buffer.insertions_come_back.Goals as goal

pub returns : goal.returns
returns c =
    let i = c.buffer.inside in
    let root : IsRootFirst (rows_of c.args.buffer.now.sections) =
    subst (λ (b : BufferState). IsRootFirst (rows_of b.sections)) c.buffer.view_is (seen-root i.switches i.rows (reverse i.kept.items) (vec_capacity i.kept) c.buffer.invariant) in
    λ dir lines. insertion-back c.args.buffer.now dir lines root
