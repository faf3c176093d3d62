use Rattle.std.proofs.Common.{◌≡◌, ◌≤◌, List, length, sym, subst, arith, Ok}
use Rattle.tree_core.specs.declared.changes.Changes.TheVariants.{Edits}
use Rattle.tree_core.specs.declared.edit.Edit.{Edit}
use Rattle.wdired_buffer.specs.declared.line.BufferLine.{BufferLine}
use Rattle.wdired_buffer.specs.Edits.{edits_of, asks_in}
use Rattle.edit_words.specs.WellFormed.{AreAsked, max_changes}
use Rattle.edit_requests.proofs.RequestLemmas.{can_be_asked}
use Rattle.dired_run.proofs.requests.compare.Goals as goal

pub returns-clause-can : goal.returns-clause-can
returns-clause-can c =
    let edited = c.in-Ok-edits.edited in
    let few : length edited.edits.items ≤ max_changes = (let long = c.len.ensures in let within = c.if-len-gt-MAX_EDITS.false in omega arith) in
    subst (λ (es : List Edit). AreAsked (Edits es)) (sym c.from_vec.ensures)
    (can_be_asked c.args.before.now c.args.after.now c.in-Ok.lines.items (asks_in edited) c.in-Ok.ensures.lines
    (subst (λ (l : List BufferLine). edits_of l c.args.after.now ≡ Ok (asks_in edited)) c.deref.ensures.value c.in-Ok-edits.ensures.edits) few)
