-- What is printed without the paths of the omitted lines.
use Rattle.std.proofs.Common.{◌≡◌, ◌⊎◌, inl, inr, ℕ, List, [], ◌∷◌, ◌++◌, append-nil, refl, ap, sym, ◌∙◌, subst, Bool, true, false, ◌||◌, Option, Some, None, Result, Ok, Err, if◌then◌else◌, codes, flat_map}
use Rattle.std.proofs.lemmas.Cmp.{eq_by_cmp_equiv}
use Rattle.std.proofs.lemmas.Grind.{flat_map-append}
use Rattle.std.proofs.lemmas.List.Elements.{filter_map-append}
use Rattle.std.proofs.lemmas.List.Folds.{list_any-append}
use Rattle.std.specs.List.{cons_option, filter_map}
use Rattle.std.specs.Option.{option_to_list}
use Rattle.std.specs.Ordering.{eq_by_cmp}
use Rattle.dired_text.proofs.PathLemmas.{path_cmp-total, path_decides}
use Rattle.dired_text.specs.Paths.{Names, path_cmp}
use Rattle.dired_text.specs.Resolve.{resolved}
use Rattle.dired_text.specs.declared.resolving.NameError.{NameError}
use Rattle.listing_text.specs.Listed.{header_text_of, section_text_of}
use Rattle.listing_text.specs.declared.line.Line.{Line}
use Rattle.mark_table.specs.PathMarks.{PathMarks, is_among}
use Rattle.omit_rules.specs.declared.rules.Rules.{Rules}
use Rattle.section_buffer.specs.Printed.{is_left_out, mark_at, printed, printed_at, printed_lines, section_printed}
use Rattle.section_buffer.specs.declared.section.Section.{Section}
use Rattle.shown_lines.specs.declared.omitting.Outcome.{Outcome}
use Rattle.shown_lines.specs.declared.omitting.Outcome.TheVariants.{Omitted, Shown, Unnamed}
use Rattle.shown_lines.specs.Outcomes.{outcome_of}
use Rattle.shown_lines.specs.Omitted.{omitted_at, omitted_in, omitted_lines, omitted_of}
use Rattle.shown_lines.specs.Shown.{omits}

or-cases : (a b : Bool) → (a || b) ≡ true → (a ≡ true) ⊎ (b ≡ true)
or-cases true b e = inl refl
or-cases false b e = inr e

or-left : (a b : Bool) → a ≡ true → (a || b) ≡ true
or-left true b e = refl
or-left false b e = cc

or-right : (a b : Bool) → b ≡ true → (a || b) ≡ true
or-right true b e = refl
or-right false b e = e

same-truth : (a b : Bool) → (a ≡ true → b ≡ true) → (b ≡ true → a ≡ true) → a ≡ b
same-truth true true there back = refl
same-truth true false there back = sym (there refl)
same-truth false true there back = back refl
same-truth false false there back = refl

-- each of these paths is among those
abbrev Covers : List Names → List Names → Type 0
Covers ps qs = (p : Names) → is_among p qs ≡ true → is_among p ps ≡ true

covers-front : (ps qs rs : List Names) → Covers ps (qs ++ rs) → Covers ps qs
covers-front ps qs rs covers p e = covers p (list_any-append (eq_by_cmp path_cmp p) qs rs ∙ or-left (is_among p qs) (is_among p rs) e)

covers-back : (ps qs rs : List Names) → Covers ps (qs ++ rs) → Covers ps rs
covers-back ps qs rs covers p e = covers p (list_any-append (eq_by_cmp path_cmp p) qs rs ∙ or-right (is_among p qs) (is_among p rs) e)

covers-option : (ps : List Names) (o : Option Names) (rs : List Names) → Covers ps (cons_option o rs) → Covers ps (option_to_list o) × Covers ps rs
covers-option ps None rs covers = (λ p e. absurd cc, covers)
covers-option ps (Some q) rs covers = (covers-front ps (q ∷ []) rs covers, covers-back ps (q ∷ []) rs covers)

module _ (rules : Option Rules) (marks : PathMarks) where
  abbrev omitted : Names → Bool
  omitted = omits rules marks

  -- ---- each path of an omitted line is omitted

  abbrev Sound : List Names → Type 0
  Sound ps = (p : Names) → is_among p ps ≡ true → omitted p ≡ true

  sound-append : (ps qs : List Names) → Sound ps → Sound qs → Sound (ps ++ qs)
  sound-append ps qs front back p e = elim (or-cases (is_among p ps) (is_among p qs) (sym (list_any-append (eq_by_cmp path_cmp p) ps qs) ∙ e)) [
    | inl here ↦ front p here
    | inr there ↦ back p there
  ]

  sound-if : (q : Names) (b : Bool) → omitted q ≡ b → Sound (option_to_list (if b then Some q else None))
  sound-if q true is p e = elim (or-cases (eq_by_cmp path_cmp p q) false e) [
    | inl same ↦ ap omitted ((path_decides p q).0 same) ∙ is
    | inr never ↦ absurd cc
  ]
  sound-if q false is p e = absurd cc

  sound-at : (path : Result Names NameError) → Sound (option_to_list (omitted_at rules marks path))
  sound-at (Ok q) = sound-if q (omitted q) refl
  sound-at (Err refused) = λ p e. absurd cc

  cons-append : (o : Option Names) (ps : List Names) → cons_option o ps ≡ option_to_list o ++ ps
  cons-append None ps = refl
  cons-append (Some p) ps = refl

  sound-lines : (dir : Names) (lines : List Line) → Sound (omitted_lines rules marks dir lines)
  sound-lines dir [] = λ p e. absurd cc
  sound-lines dir (line ∷ lines) =
      let o = omitted_at rules marks (resolved dir line.name) in
      let later = omitted_lines rules marks dir lines in
      subst Sound (sym (cons-append o later)) (sound-append (option_to_list o) later (sound-at (resolved dir line.name)) (sound-lines dir lines))

  sound-if-shown : (dir : Names) (lines : List Line) (hidden : Bool) → Sound (if hidden then [] else omitted_lines rules marks dir lines)
  sound-if-shown dir lines true = λ p e. absurd cc
  sound-if-shown dir lines false = sound-lines dir lines

  sound : (sections : List Section) → Sound (omitted_of rules marks sections)
  sound [] = λ p e. absurd cc
  sound (section ∷ sections) =
      sound-append (omitted_in rules marks section) (omitted_of rules marks sections) (sound-if-shown section.dir section.lines section.hidden) (sound sections)

  -- ---- so these are the ones that are left out

  module _ (ps : List Names) (only : Sound ps) where
    abbrev among : Names → Bool
    among p = is_among p ps

    covers-if : (q : Names) (b : Bool) → Covers ps (option_to_list (if b then Some q else None)) → b ≡ true → is_among q ps ≡ true
    covers-if q true covers e = covers q (or-left (eq_by_cmp path_cmp q q) false ((eq_by_cmp_equiv path_cmp-total).refl q))
    covers-if q false covers e = cc

    left-same : (path : Result Names NameError) → Covers ps (option_to_list (omitted_at rules marks path)) → is_left_out among path ≡ is_left_out omitted path
    left-same (Ok q) covers = same-truth (is_among q ps) (omitted q) (only q) (covers-if q (omitted q) covers)
    left-same (Err refused) covers = refl

    lines-same : (dir : Names) (lines : List Line) → Covers ps (omitted_lines rules marks dir lines) → printed_lines marks among dir lines ≡ printed_lines marks omitted dir lines
    lines-same dir [] covers = refl
    lines-same dir (line ∷ lines) covers =
        let path = resolved dir line.name in
        let parts = covers-option ps (omitted_at rules marks path) (omitted_lines rules marks dir lines) covers in
        ap (λ (b : Bool). cons_option (if b then None else Some (mark_at marks path, line)) (printed_lines marks among dir lines)) (left-same path parts.0)
        ∙ ap (λ later. cons_option (printed_at marks omitted path line) later) (lines-same dir lines parts.1)

    hidden-same : (dir : Names) (lines : List Line) (hidden : Bool)
        → Covers ps (if hidden then [] else omitted_lines rules marks dir lines)
        → (if hidden then header_text_of dir ++ codes " ...\n" else section_text_of dir (printed_lines marks among dir lines)) ≡ (if hidden then header_text_of dir ++ codes " ...\n" else section_text_of dir (printed_lines marks omitted dir lines))
    hidden-same dir lines true covers = refl
    hidden-same dir lines false covers = ap (section_text_of dir) (lines-same dir lines covers)

    sections-same : (sections : List Section) → Covers ps (omitted_of rules marks sections) → flat_map (λ section. 10 ∷ section_printed marks among section) sections ≡ flat_map (λ section. 10 ∷ section_printed marks omitted section) sections
    sections-same [] covers = refl
    sections-same (section ∷ sections) covers =
        ap (λ text. (10 ∷ text) ++ flat_map (λ section. 10 ∷ section_printed marks among section) sections)
        (hidden-same section.dir section.lines section.hidden (covers-front ps (omitted_in rules marks section) (omitted_of rules marks sections) covers))
        ∙ ap (λ later. (10 ∷ section_printed marks omitted section) ++ later) (sections-same sections (covers-back ps (omitted_in rules marks section) (omitted_of rules marks sections) covers))

  pub printed-omitted : (sections : List Section) → printed marks (λ p. is_among p (omitted_of rules marks sections)) sections ≡ printed marks (omits rules marks) sections
  printed-omitted sections = ap (λ text. codes "dired 1" ++ text) (sections-same (omitted_of rules marks sections) (sound sections) sections (λ p e. e))

  -- ---- one line more

  at-if : (p q : Names) (b : Bool) → Omitted q ≡ (if b then Omitted p else Shown p) → (if b then Some p else None) ≡ Some q
  at-if p q true e = cc
  at-if p q false e = cc

  at-omitted : (path : Result Names NameError) (q : Names) → Omitted q ≡ outcome_of omitted path → omitted_at rules marks path ≡ Some q
  at-omitted (Ok p) q e = at-if p q (omitted p) e
  at-omitted (Err refused) q e = cc

  pub omitted-more : (dir : Names) (lines : List Line) (line : Line) (q : Names) → Omitted q ≡ outcome_of omitted (resolved dir line.name)
      → omitted_lines rules marks dir (lines ++ line ∷ []) ≡ omitted_lines rules marks dir lines ++ q ∷ []
  omitted-more dir lines line q e =
      let h = λ (line : Line). omitted_at rules marks (resolved dir line.name) in
      filter_map-append h lines (line ∷ []) ∙ ap (λ (o : Option Names). filter_map h lines ++ cons_option o []) (at-omitted (resolved dir line.name) q e)

  kept-if : (p q : Names) (b : Bool) → Shown q ≡ (if b then Omitted p else Shown p) → None ≡ (if b then Some p else None)
  kept-if p q true e = cc
  kept-if p q false e = refl

  pub at-shown : (path : Result Names NameError) (q : Names) → Shown q ≡ outcome_of omitted path → None ≡ omitted_at rules marks path
  at-shown (Ok p) q e = kept-if p q (omitted p) e
  at-shown (Err refused) q e = refl

  named-if : (p : Names) (b : Bool) → Unnamed ≡ (if b then Omitted p else Shown p) → ⊥
  named-if p true e = cc
  named-if p false e = cc

  pub at-unnamed : (path : Result Names NameError) → Unnamed ≡ outcome_of omitted path → None ≡ omitted_at rules marks path
  at-unnamed (Ok p) e = absurd (named-if p (omitted p) e)
  at-unnamed (Err refused) e = refl

  pub omitted-same : (dir : Names) (lines : List Line) (line : Line) → None ≡ omitted_at rules marks (resolved dir line.name) → omitted_lines rules marks dir (lines ++ line ∷ []) ≡ omitted_lines rules marks dir lines
  omitted-same dir lines line e =
      let h = λ (line : Line). omitted_at rules marks (resolved dir line.name) in
      filter_map-append h lines (line ∷ []) ∙ (ap (λ (o : Option Names). filter_map h lines ++ cons_option o []) (sym e) ∙ append-nil (filter_map h lines))

  pub of-more : (sections : List Section) (section : Section) → omitted_of rules marks (sections ++ section ∷ []) ≡ omitted_of rules marks sections ++ omitted_in rules marks section
  of-more sections section =
      flat_map-append (omitted_in rules marks) sections (section ∷ []) ∙ ap (λ ps. omitted_of rules marks sections ++ ps) (append-nil (omitted_in rules marks section))
