use Rattle.std.proofs.Common.{◌≡◌, ◌∙◌, ◌++◌, ◌∷◌, [], ◌&&◌, List, Err, not, sym, ap, subst, reverse}
use Rattle.std.proofs.lemmas.Result.{err_from_is_err_and}
use Rattle.section_buffer.specs.Buffers.{BufferState}
use Rattle.session_sections.specs.declared.kept.Kept.{Kept}
use Rattle.session_sections.specs.declared.kept.Kept.TheVariants.{Kills}
use Rattle.session_sections.specs.Sections.{is_section, without_section}
use Rattle.session_sections.specs.History.{SectionHistory, gains, is_root}
use Rattle.session_sections.specs.Held.{IsHeld, seen_as}
use Rattle.session_sections.proofs.StateLemmas.{held-once, kept-first, refused, section-none, section-steps, step-held, step-seen}
use Rattle.session_sections.proofs.undo_buffer.UndoBuffer.take_out.Goals as goal

pub returns-in_err-kill_section : goal.returns-in_err-kill_section
returns-in_err-kill_section c =
    let i = c.self.inside in
    let dir = c.args.dir.now in
    let h = c.in_err-kill_section.ensures in
    let p = err_from_is_err_and c.from_residual-in_err-kill_section.result c.from_residual-in_err-kill_section.ensures.1 in
    refused _ _ c.from_residual-in_err-kill_section.result c.in_err-kill_section.field-0.0 c.args.self.now _ (p.1 ∙ ap Err p.2) h.0
    (ap (λ (x : SectionHistory). not (is_root dir) && is_section dir x.sections) (sym c.self.view_is) ∙ section-none dir i.buffer h.1)
    (ap (λ (x : BufferState). seen_as x (reverse c.make_room.new.kept.items)) h.2 ∙ (ap (λ (xs : List Kept). seen_as i.buffer (reverse xs)) c.make_room.ensures.items ∙ c.self.view_is))

pub invariant_of-self-2 : goal.invariant_of-self-2
invariant_of-self-2 c =
    let i = c.self.inside in
    let b = i.buffer in
    let ks = reverse i.kept.items in
    let new = c.kill_section.new.self in
    let dir = c.args.dir.now in
    let k = section-steps dir b new (held-once b ks c.self.invariant) c.kills_come_back.ensures c.in_ok-kill_section.ensures in
    let f = kept-first i.kept.items c.keep.new.kept.items (Kills 1) (c.keep.ensures ∙ ap (λ (xs : List Kept). xs ++ Kills 1 ∷ []) c.make_room.ensures.items) in
    subst (λ (xs : List Kept). IsHeld new xs) (sym f) (step-held (Kills 1) b (without_section dir b.sections) new ks k.1 c.self.invariant)

pub returns : goal.returns
returns c =
    let i = c.self.inside in
    let b = i.buffer in
    let ks = reverse i.kept.items in
    let new = c.kill_section.new.self in
    let dir = c.args.dir.now in
    let k = section-steps dir b new (held-once b ks c.self.invariant) c.kills_come_back.ensures c.in_ok-kill_section.ensures in
    let f = kept-first i.kept.items c.keep.new.kept.items (Kills 1) (c.keep.ensures ∙ ap (λ (xs : List Kept). xs ++ Kills 1 ∷ []) c.make_room.ensures.items) in (
      ap (λ (x : SectionHistory). not (is_root dir) && is_section dir x.sections) (sym c.self.view_is) ∙ k.0,
      ap (λ (xs : List Kept). seen_as new xs) f
          ∙ (step-seen (Kills 1) b (without_section dir b.sections) new ks k.1 ∙ ap (λ (h : SectionHistory). gains (without_section dir h.sections) h) c.self.view_is),
    )
