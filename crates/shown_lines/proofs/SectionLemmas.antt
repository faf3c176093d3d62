-- Entries that are gathered section by section.
use Rattle.std.proofs.Common.{◌≡◌, ℕ, ◌+◌, List, [], ◌∷◌, ◌++◌, refl, ap, sym, ◌∙◌, append_assoc, append-nil, Option, arith}
use Rattle.mark_table.specs.PathMarks.{PathMarks}
use Rattle.omit_rules.specs.declared.rules.Rules.{Rules}
use Rattle.section_buffer.specs.declared.section.Section.{Section}
use Rattle.shown_lines.specs.declared.entry.Entry.{Entry}
use Rattle.shown_lines.specs.Shown.{height, shown_from, shown_in}

module _ (rules : Option Rules) (marks : PathMarks) where
  abbrev pub heights : List Section → ℕ
  heights [] = 0
  heights (section ∷ sections) = height rules marks section + heights sections

  pub heights-more : (sections : List Section) (section : Section) → heights (sections ++ section ∷ []) ≡ heights sections + height rules marks section
  heights-more [] section = omega arith
  heights-more (s ∷ sections) section =
      let later = heights-more sections section in
      let same : height rules marks s + (heights sections + height rules marks section) ≡ (height rules marks s + heights sections) + height rules marks section = omega arith in
      ap (λ n. height rules marks s + n) later ∙ same

  pub shown-more : (n : ℕ) (sections : List Section) (section : Section) → shown_from rules marks n (sections ++ section ∷ []) ≡ shown_from rules marks n sections ++ shown_in rules marks (n + heights sections) section
  shown-more n [] section =
      let same : n ≡ n + 0 = omega arith in
      append-nil (shown_in rules marks n section) ∙ ap (λ m. shown_in rules marks m section) same
  shown-more n (s ∷ sections) section =
      let front = shown_in rules marks n s in
      let next = n + height rules marks s in
      let same : next + heights sections ≡ n + heights (s ∷ sections) = omega arith in
      ap (λ later. front ++ later) (shown-more next sections section)
      ∙ (sym (append_assoc front (shown_from rules marks next sections) (shown_in rules marks (next + heights sections) section))
      ∙ ap (λ m. (front ++ shown_from rules marks next sections) ++ shown_in rules marks m section) same)
