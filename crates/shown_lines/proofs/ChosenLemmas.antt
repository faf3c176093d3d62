-- Chosen entries, one more at a time.
use Rattle.std.proofs.Common.{◌≡◌, List, [], ◌∷◌, ◌++◌, refl, ap, sym, ◌∙◌, append-nil, Bool, true, false, if◌then◌else◌, filter, Option, Some}
use Rattle.std.proofs.lemmas.List.Elements.{filter-append}
use Rattle.dired_text.specs.Paths.{Names}
use Rattle.mark_table.specs.PathMarks.{PathMarks, has_mark, star}
use Rattle.shown_lines.specs.declared.entry.Entry.{Entry}
use Rattle.shown_lines.specs.Chosen.{chosen_of, is_current, or_else, starred}

-- what is kept for the case that none has `*`
abbrev pub Keeps : PathMarks → Option Names → List Entry → List Entry → Type 0
Keeps marks current entries own = starred marks entries ≡ [] → own ≡ filter (is_current current) entries

no-end : (xs : List Entry) (e : Entry) → xs ++ e ∷ [] ≡ [] → ⊥
no-end [] e none = cc
no-end (x ∷ xs) e none = cc

module _ (marks : PathMarks) (current : Option Names) (es : List Entry) (e : Entry) where
  abbrev stars : List Entry
  stars = starred marks es

  abbrev own_ones : List Entry
  own_ones = filter (is_current current) es

  pub starred-yes : has_mark marks (Some star) e.path ≡ true → starred marks (es ++ e ∷ []) ≡ stars ++ e ∷ []
  starred-yes is =
      filter-append (λ (e : Entry). has_mark marks (Some star) e.path) es (e ∷ []) ∙ ap (λ (b : Bool). stars ++ (if b then e ∷ [] else [])) is

  pub starred-no : has_mark marks (Some star) e.path ≡ false → starred marks (es ++ e ∷ []) ≡ stars
  starred-no is =
      filter-append (λ (e : Entry). has_mark marks (Some star) e.path) es (e ∷ []) ∙ (ap (λ (b : Bool). stars ++ (if b then e ∷ [] else [])) is ∙ append-nil stars)

  pub keeps-starred : (own : List Entry) → has_mark marks (Some star) e.path ≡ true → Keeps marks current (es ++ e ∷ []) own
  keeps-starred own is none = absurd (no-end stars e (sym (starred-yes is) ∙ none))

  pub keeps-current : (own : List Entry) → has_mark marks (Some star) e.path ≡ false → is_current current e ≡ true → Keeps marks current es own → Keeps marks current (es ++ e ∷ []) (own ++ e ∷ [])
  keeps-current own is here keeps none =
      let before : own ≡ own_ones = keeps (sym (starred-no is) ∙ none) in
      ap (λ xs. xs ++ e ∷ []) before ∙ sym (filter-append (is_current current) es (e ∷ []) ∙ ap (λ (b : Bool). own_ones ++ (if b then e ∷ [] else [])) here)

  pub keeps-other : (own : List Entry) → has_mark marks (Some star) e.path ≡ false → is_current current e ≡ false → Keeps marks current es own → Keeps marks current (es ++ e ∷ []) own
  keeps-other own is elsewhere keeps none =
      let before : own ≡ own_ones = keeps (sym (starred-no is) ∙ none) in
      before ∙ sym (filter-append (is_current current) es (e ∷ []) ∙ (ap (λ (b : Bool). own_ones ++ (if b then e ∷ [] else [])) elsewhere ∙ append-nil own_ones))

or-some : (others es : List Entry) → (es ≡ [] → ⊥) → or_else others es ≡ es
or-some others [] some = absurd (some refl)
or-some others (e ∷ es) some = refl

-- Where some have `*` these are chosen,
pub chosen-starred : (marks : PathMarks) (current : Option Names) (entries : List Entry) → (starred marks entries ≡ [] → ⊥) → chosen_of marks current entries ≡ starred marks entries
chosen-starred marks current entries some = or-some (filter (is_current current) entries) (starred marks entries) some

-- and else those that were kept.
pub chosen-kept : (marks : PathMarks) (current : Option Names) (entries own : List Entry) → starred marks entries ≡ [] → Keeps marks current entries own → chosen_of marks current entries ≡ own
chosen-kept marks current entries own none keeps = ap (or_else (filter (is_current current) entries)) none ∙ sym (keeps none)
