use Rattle.std.proofs.Common.{◌∙◌, sym, ap, reverse}
use Rattle.session_sections.specs.Held.{seen_as}
use Rattle.session_sections.proofs.StateLemmas.{kept-first, undo-done}
use Rattle.session_sections.proofs.undo_buffer.UndoBuffer.undo.Goals as goal

pub returns : goal.returns
returns c =
    let i = c.self.inside in
    let items = c.pop.new.self.items in
    let change = c.in-Some.change in
    let f = kept-first items i.kept.items change c.in-Some.ensures.items in
    undo-done change i.buffer c.take_back.new.buffer (reverse items) c.args.self.now (ap (seen_as i.buffer) (sym f) ∙ c.self.view_is) c.take_back.ensures
