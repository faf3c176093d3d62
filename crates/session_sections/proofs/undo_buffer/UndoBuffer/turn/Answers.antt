use Rattle.std.proofs.Common.{◌≡◌, ◌∙◌, ◌++◌, ◌∷◌, [], List, Err, sym, ap, subst, refl, reverse}
use Rattle.std.proofs.lemmas.Result.{err_from_is_err_and}
use Rattle.dired_text.specs.Paths.{Names}
use Rattle.section_buffer.specs.Buffers.{BufferState}
use Rattle.section_buffer.specs.Sections.{hidden_at}
use Rattle.session_sections.specs.declared.kept.Kept.{Kept}
use Rattle.session_sections.specs.declared.kept.Kept.TheVariants.{Turning}
use Rattle.session_sections.specs.Sections.{is_section, turned}
use Rattle.session_sections.specs.History.{SectionHistory, gains}
use Rattle.session_sections.specs.Held.{IsHeld, seen_as}
use Rattle.session_sections.proofs.StateLemmas.{flip-none, flip-steps, held-once, kept-first, refused, step-held, step-seen}
use Rattle.session_sections.proofs.undo_buffer.UndoBuffer.turn.Goals as goal

pub returns-in_err-flip : goal.returns-in_err-flip
returns-in_err-flip c =
    let i = c.self.inside in
    let dir = c.args.dir.now in
    let h = c.in_err-flip.ensures in
    let p = err_from_is_err_and c.from_residual-in_err-flip.result c.from_residual-in_err-flip.ensures.1 in
    refused _ _ c.from_residual-in_err-flip.result c.in_err-flip.field-0.0 c.args.self.now _ (p.1 ∙ ap Err p.2) h.0
    (ap (λ (x : SectionHistory). is_section dir x.sections) (sym c.self.view_is) ∙ flip-none dir i.buffer (held-once i.buffer (reverse i.kept.items) c.self.invariant) h.1)
    (ap (λ (x : BufferState). seen_as x (reverse c.make_room.new.kept.items)) h.2 ∙ (ap (λ (xs : List Kept). seen_as i.buffer (reverse xs)) c.make_room.ensures.items ∙ c.self.view_is))

pub invariant_of-self-2 : goal.invariant_of-self-2
invariant_of-self-2 c =
    let i = c.self.inside in
    let b = i.buffer in
    let ks = reverse i.kept.items in
    let new = c.flip.new.buffer in
    let dir = c.args.dir.now in
    let k = flip-steps dir b new (hidden_at dir b.sections) (held-once b ks c.self.invariant) refl c.in_ok-flip.ensures in
    let f = kept-first i.kept.items c.keep.new.kept.items (Turning dir)
    (c.keep.ensures ∙ (ap (λ (d : Names). c.make_room.new.kept.items ++ Turning d ∷ []) c.in_ok-copy.ensures ∙ ap (λ (xs : List Kept). xs ++ Turning dir ∷ []) c.make_room.ensures.items)) in
    subst (λ (xs : List Kept). IsHeld new xs) (sym f) (step-held (Turning dir) b (turned dir b.sections) new ks k.1 c.self.invariant)

pub returns : goal.returns
returns c =
    let i = c.self.inside in
    let b = i.buffer in
    let ks = reverse i.kept.items in
    let new = c.flip.new.buffer in
    let dir = c.args.dir.now in
    let k = flip-steps dir b new (hidden_at dir b.sections) (held-once b ks c.self.invariant) refl c.in_ok-flip.ensures in
    let f = kept-first i.kept.items c.keep.new.kept.items (Turning dir)
    (c.keep.ensures ∙ (ap (λ (d : Names). c.make_room.new.kept.items ++ Turning d ∷ []) c.in_ok-copy.ensures ∙ ap (λ (xs : List Kept). xs ++ Turning dir ∷ []) c.make_room.ensures.items)) in (
      ap (λ (x : SectionHistory). is_section dir x.sections) (sym c.self.view_is) ∙ k.0,
      ap (λ (xs : List Kept). seen_as new xs) f
          ∙ (step-seen (Turning dir) b (turned dir b.sections) new ks k.1 ∙ ap (λ (h : SectionHistory). gains (turned dir h.sections) h) c.self.view_is),
    )
