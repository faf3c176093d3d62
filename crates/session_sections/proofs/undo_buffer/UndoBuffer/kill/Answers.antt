use Rattle.std.proofs.Common.{◌≡◌, ℕ, ◌-◌, ◌∙◌, ◌++◌, ◌∷◌, [], List, sym, ap, subst, length, reverse}
use Rattle.section_buffer.specs.Rows.{rows_of}
use Rattle.session_sections.specs.declared.kept.Kept.{Kept}
use Rattle.session_sections.specs.declared.kept.Kept.TheVariants.{Kills}
use Rattle.session_sections.specs.Sections.{without_lines}
use Rattle.session_sections.specs.History.{SectionHistory, gains}
use Rattle.session_sections.specs.Held.{IsHeld, seen_as}
use Rattle.session_sections.proofs.StateLemmas.{held-once, kept-first, lines-steps, step-held, step-seen}
use Rattle.session_sections.proofs.undo_buffer.UndoBuffer.kill.Goals as goal

pub invariant_of-self-2 : goal.invariant_of-self-2
invariant_of-self-2 c =
    let i = c.self.inside in
    let b = i.buffer in
    let ks = reverse i.kept.items in
    let new = c.kill_paths.new.buffer in
    let paths = c.args.paths.now in
    let n = c.row_count-rows.result - c.row_count.result in
    let many : n ≡ length (rows_of b.sections) - length (rows_of new.sections) =
    ap (λ x. x - c.row_count.result) c.row_count-rows.ensures ∙ ap (λ x. length (rows_of b.sections) - x) c.row_count.ensures in
    let s = lines-steps paths b new n (held-once b ks c.self.invariant) c.kills_come_back.ensures c.kill_paths.ensures.kills c.kill_paths.ensures.lines many in
    let f = kept-first i.kept.items c.keep.new.kept.items (Kills n) (c.keep.ensures ∙ ap (λ (xs : List Kept). xs ++ Kills n ∷ []) c.make_room.ensures.items) in
    subst (λ (xs : List Kept). IsHeld new xs) (sym f) (step-held (Kills n) b (without_lines paths b.sections) new ks s c.self.invariant)

pub returns-clause-ok : goal.returns-clause-ok
returns-clause-ok c =
    let i = c.self.inside in
    let b = i.buffer in
    let ks = reverse i.kept.items in
    let new = c.kill_paths.new.buffer in
    let paths = c.args.paths.now in
    let n = c.row_count-rows.result - c.row_count.result in
    let many : n ≡ length (rows_of b.sections) - length (rows_of new.sections) =
    ap (λ x. x - c.row_count.result) c.row_count-rows.ensures ∙ ap (λ x. length (rows_of b.sections) - x) c.row_count.ensures in
    let s = lines-steps paths b new n (held-once b ks c.self.invariant) c.kills_come_back.ensures c.kill_paths.ensures.kills c.kill_paths.ensures.lines many in
    let f = kept-first i.kept.items c.keep.new.kept.items (Kills n) (c.keep.ensures ∙ ap (λ (xs : List Kept). xs ++ Kills n ∷ []) c.make_room.ensures.items) in
    ap (λ (xs : List Kept). seen_as new xs) f
    ∙ (step-seen (Kills n) b (without_lines paths b.sections) new ks s ∙ ap (λ (h : SectionHistory). gains (without_lines paths h.sections) h) c.self.view_is)
