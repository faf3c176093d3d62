-- Entries that are gathered line by line.
use Rattle.std.proofs.Common.{◌≡◌, ℕ, ◌+◌, List, [], ◌∷◌, ◌++◌, length, refl, ap, sym, ◌∙◌, append_assoc, append-nil, Bool, true, false, Option, Some, None, Result, Ok, Err, if◌then◌else◌, arith}
use Rattle.std.proofs.lemmas.List.{length-append}
use Rattle.std.specs.Option.{option_to_list}
use Rattle.dired_text.specs.Paths.{Names}
use Rattle.dired_text.specs.Resolve.{resolved}
use Rattle.dired_text.specs.declared.resolving.NameError.{NameError}
use Rattle.listing_text.specs.declared.line.Line.{Line}
use Rattle.mark_table.specs.PathMarks.{PathMarks}
use Rattle.omit_rules.specs.declared.rules.Rules.{Rules}
use Rattle.section_buffer.specs.Printed.{mark_at, printed_at}
use Rattle.section_buffer.proofs.PrintLemmas.{lines-none, lines-some}
use Rattle.shown_lines.specs.declared.entry.Entry.{Entry}
use Rattle.shown_lines.specs.declared.omitting.Outcome.{Outcome}
use Rattle.shown_lines.specs.declared.omitting.Outcome.TheVariants.{Omitted, Shown, Unnamed}
use Rattle.shown_lines.specs.Outcomes.{outcome_of}
use Rattle.shown_lines.specs.Shown.{entry_of, numbered, omits, printing}

-- ---- what comes of a line

module _ (omitted : Names → Bool) (marks : PathMarks) (line : Line) where
  abbrev marked : Result Names NameError → Option (ℕ × Line)
  marked path = Some (mark_at marks path, line)

  abbrev printed : Names → Bool → Option (ℕ × Line)
  printed p b = if b then None else marked (Ok p)

  omitted-if : (p q : Names) (b : Bool) → Omitted q ≡ (if b then Omitted p else Shown p) → None ≡ printed p b
  omitted-if p q true e = refl
  omitted-if p q false e = cc

  omitted-none : (path : Result Names NameError) (q : Names) → Omitted q ≡ outcome_of omitted path → None ≡ printed_at marks omitted path line
  omitted-none (Ok p) q e = omitted-if p q (omitted p) e
  omitted-none (Err refused) q e = cc

  shown-if : (p q : Names) (b : Bool) → Shown q ≡ (if b then Omitted p else Shown p) → (◌≡◌ {A = Result Names NameError} (Ok p) (Ok q)) × (marked (Ok p) ≡ printed p b)
  shown-if p q true e = cc
  shown-if p q false e = (cc, refl)

  shown-some : (path : Result Names NameError) (q : Names) → Shown q ≡ outcome_of omitted path → (path ≡ Ok q) × (marked path ≡ printed_at marks omitted path line)
  shown-some (Ok p) q e = shown-if p q (omitted p) e
  shown-some (Err refused) q e = cc

  unnamed-if : (p : Names) (n : ℕ) (b : Bool) → Unnamed ≡ (if b then Omitted p else Shown p) → ([] ≡ option_to_list (entry_of n (Ok p) line)) × (marked (Ok p) ≡ printed p b)
  unnamed-if p n true e = cc
  unnamed-if p n false e = cc

  unnamed-some : (path : Result Names NameError) (n : ℕ) → Unnamed ≡ outcome_of omitted path → ([] ≡ option_to_list (entry_of n path line)) × (marked path ≡ printed_at marks omitted path line)
  unnamed-some (Ok p) n e = unnamed-if p n (omitted p) e
  unnamed-some (Err refused) n e = (refl, refl)

-- ---- one line more

numbered-more : (n : ℕ) (dir : Names) (xs : List (ℕ × Line)) (x : ℕ × Line) → numbered n dir (xs ++ x ∷ []) ≡ numbered n dir xs ++ option_to_list (entry_of (n + length xs) (resolved dir x.1.name) x.1)
numbered-more n dir [] x =
    let same : n ≡ n + 0 = omega arith in
    append-nil (option_to_list (entry_of n (resolved dir x.1.name) x.1)) ∙ ap (λ m. option_to_list (entry_of m (resolved dir x.1.name) x.1)) same
numbered-more n dir (y ∷ xs) x =
    let front = option_to_list (entry_of n (resolved dir y.1.name) y.1) in
    let same : (n + 1) + length xs ≡ n + length (y ∷ xs) = omega arith in
    ap (λ later. front ++ later) (numbered-more (n + 1) dir xs x)
    ∙ (sym (append_assoc front (numbered (n + 1) dir xs) (option_to_list (entry_of ((n + 1) + length xs) (resolved dir x.1.name) x.1)))
    ∙ ap (λ m. (front ++ numbered (n + 1) dir xs) ++ option_to_list (entry_of m (resolved dir x.1.name) x.1)) same)

module _ (rules : Option Rules) (marks : PathMarks) (first : ℕ) (dir : Names) (lines : List Line) (line : Line) where
  abbrev before : List (ℕ × Line)
  before = printing rules marks dir lines

  abbrev after : List (ℕ × Line)
  after = printing rules marks dir (lines ++ line ∷ [])

  abbrev path : Result Names NameError
  path = resolved dir line.name

  -- a line that is omitted changes nothing
  pub line-omitted : (q : Names) → Omitted q ≡ outcome_of (omits rules marks) path → after ≡ before
  line-omitted q e = lines-none marks (omits rules marks) dir lines line (omitted-none (omits rules marks) marks line path q e)

  longer : (x : ℕ × Line) → after ≡ before ++ x ∷ [] → length after ≡ length before + 1
  longer x e = ap length e ∙ length-append before (x ∷ [])

  -- one that prints without a path is counted alone
  pub line-unnamed : Unnamed ≡ outcome_of (omits rules marks) path → (numbered first dir after ≡ numbered first dir before) × (length after ≡ length before + 1)
  line-unnamed e =
      let some = unnamed-some (omits rules marks) marks line path (first + length before) e in
      let more = lines-some marks (omits rules marks) dir lines line (mark_at marks path, line) some.1 in (
        ap (numbered first dir) more ∙ (numbered-more first dir before (mark_at marks path, line) ∙ (ap (λ es. numbered first dir before ++ es) (sym some.0) ∙ append-nil (numbered first dir before))),
        longer (mark_at marks path, line) more,
      )

  -- and another one is an entry
  pub line-shown : (q : Names) → Shown q ≡ outcome_of (omits rules marks) path → (numbered first dir after ≡ numbered first dir before ++ record { path = q; kind = line.kind; mode = line.mode; number = first + length before } ∷ []) × (length after ≡ length before + 1)
  line-shown q e =
      let some = shown-some (omits rules marks) marks line path q e in
      let more = lines-some marks (omits rules marks) dir lines line (mark_at marks path, line) some.1 in (
        ap (numbered first dir) more
            ∙ (numbered-more first dir before (mark_at marks path, line) ∙ ap (λ p. numbered first dir before ++ option_to_list (entry_of (first + length before) p line)) some.0),
        longer (mark_at marks path, line) more,
      )
