-- The line of a path among the entries.
use Rattle.std.proofs.Common.{◌≡◌, ℕ, ◌+◌, List, [], ◌∷◌, ◌++◌, refl, ap, sym, ◌∙◌, Bool, true, false, not, ◌&&◌, ◌||◌, Option, Some, None, Result, Ok, Err, if◌then◌else◌, nat_eq}
use Rattle.std.proofs.lemmas.List.Folds.{list_any-append}
use Rattle.std.proofs.lemmas.Slice.Eq.{slice_eq-Decides}
use Rattle.std.specs.Bool.{Decides}
use Rattle.std.specs.Cmp.{unsigned_Decides}
use Rattle.std.specs.Cmp.Lexicographic.{pointwise}
use Rattle.std.specs.List.{cons_option, list_any}
use Rattle.std.specs.Option.{option_to_list}
use Rattle.dired_text.specs.Paths.{Names}
use Rattle.dired_text.specs.Resolve.{resolved}
use Rattle.dired_text.specs.declared.resolving.NameError.{NameError}
use Rattle.listing_text.specs.declared.line.Line.{Line}
use Rattle.mark_table.specs.PathMarks.{PathMarks}
use Rattle.omit_rules.specs.declared.rules.Rules.{Rules}
use Rattle.section_buffer.specs.Places.{same_names}
use Rattle.section_buffer.specs.Printed.{mark_at, printed_at}
use Rattle.section_buffer.specs.declared.section.Section.{Section}
use Rattle.shown_lines.specs.declared.entry.Entry.{Entry}
use Rattle.shown_lines.specs.Chosen.{has_path, is_current}
use Rattle.shown_lines.specs.Found.{has_line, is_in, is_path}
use Rattle.shown_lines.specs.Shown.{entry_of, height, numbered, omits, printing, shown, shown_from, shown_in}

same_decides : (p q : Names) → Decides (same_names p q) (p ≡ q)
same_decides p q = slice_eq-Decides (λ a b. slice_eq-Decides unsigned_Decides a b (pointwise nat_eq a b) refl) p q (same_names p q) refl

and-false : (b : Bool) → false ≡ (b && false)
and-false true = refl
and-false false = refl

and-or : (b c d : Bool) → ((b && c) || (b && d)) ≡ (b && (c || d))
and-or true c d = refl
and-or false c d = refl

module _ (p : Names) (rules : Option Rules) (marks : PathMarks) where
  abbrev visible : Bool
  visible = not (omits rules marks p)

  skipped-if : (q : Names) (rest : Bool) → omits rules marks q ≡ true → (b : Bool) → same_names q p ≡ b → (visible && rest) ≡ (visible && (b || rest))
  skipped-if q rest is false e = refl
  skipped-if q rest is true e =
      let gone : visible ≡ false = ap not (ap (omits rules marks) (sym ((same_decides q p).0 e)) ∙ is) in
      ap (λ (v : Bool). v && rest) gone ∙ sym (ap (λ (v : Bool). v && true) gone)

  -- an omitted line is none of a path that is visible
  skipped : (q : Names) (rest : Bool) → omits rules marks q ≡ true → (visible && rest) ≡ (visible && (same_names q p || rest))
  skipped q rest is = skipped-if q rest is (same_names q p) refl

  seen-if : (q : Names) (rest : Bool) → omits rules marks q ≡ false → (b : Bool) → same_names q p ≡ b → (b || (visible && rest)) ≡ (visible && (b || rest))
  seen-if q rest is false e = refl
  seen-if q rest is true e = sym (ap (λ (v : Bool). v && true) (ap not (ap (omits rules marks) (sym ((same_decides q p).0 e)) ∙ is)))

  -- and another one makes its path visible
  seen : (q : Names) (rest : Bool) → omits rules marks q ≡ false → (same_names q p || (visible && rest)) ≡ (visible && (same_names q p || rest))
  seen q rest is = seen-if q rest is (same_names q p) refl

  abbrev among : ℕ → Names → List (ℕ × Line) → Bool
  among n dir printed = has_path p (numbered n dir printed)

  ok-line : (n : ℕ) (dir : Names) (line : Line) (later : List (ℕ × Line)) (rest : Bool) (q : Names) → resolved dir line.name ≡ Ok q → ((m : ℕ) → among m dir later ≡ (visible && rest)) → (b : Bool) → omits rules marks q ≡ b
      → among n dir (cons_option (if b then None else Some (mark_at marks (Ok q), line)) later) ≡ (visible && (same_names q p || rest))
  ok-line n dir line later rest q is ih true gone = ih n ∙ skipped q rest gone
  ok-line n dir line later rest q is ih false stays =
      ap (λ (r : Result Names NameError). has_path p (option_to_list (entry_of n r line) ++ numbered (n + 1) dir later)) is
      ∙ (ap (λ (b : Bool). same_names q p || b) (ih (n + 1)) ∙ seen q rest stays)

  one-line : (n : ℕ) (dir : Names) (line : Line) (later : List (ℕ × Line)) (rest : Bool) → ((m : ℕ) → among m dir later ≡ (visible && rest)) → (r : Result Names NameError) → resolved dir line.name ≡ r
      → among n dir (cons_option (printed_at marks (omits rules marks) r line) later) ≡ (visible && (is_path p r || rest))
  one-line n dir line later rest ih (Ok q) is = ok-line n dir line later rest q is ih (omits rules marks q) refl
  one-line n dir line later rest ih (Err refused) is =
      ap (λ (r : Result Names NameError). has_path p (option_to_list (entry_of n r line) ++ numbered (n + 1) dir later)) is ∙ ih (n + 1)

  lines-found : (dir : Names) (lines : List Line) (n : ℕ) → among n dir (printing rules marks dir lines) ≡ (visible && has_line p dir lines)
  lines-found dir [] n = and-false visible
  lines-found dir (line ∷ lines) n = one-line n dir line (printing rules marks dir lines) (has_line p dir lines) (lines-found dir lines) (resolved dir line.name) refl

  section-if : (n : ℕ) (dir : Names) (lines : List Line) (hidden : Bool) → has_path p (if hidden then [] else numbered (n + 2) dir (printing rules marks dir lines)) ≡ (visible && (not hidden && has_line p dir lines))
  section-if n dir lines true = and-false visible
  section-if n dir lines false = lines-found dir lines (n + 2)

  from-found : (sections : List Section) (n : ℕ) → has_path p (shown_from rules marks n sections) ≡ (visible && list_any (is_in p) sections)
  from-found [] n = and-false visible
  from-found (section ∷ sections) n =
      let front = shown_in rules marks n section in
      let later = shown_from rules marks (n + height rules marks section) sections in
      list_any-append (is_current (Some p)) front later
      ∙ (ap (λ (b : Bool). b || has_path p later) (section-if n section.dir section.lines section.hidden)
      ∙ (ap (λ (b : Bool). (visible && is_in p section) || b) (from-found sections (n + height rules marks section))
      ∙ and-or visible (is_in p section) (list_any (is_in p) sections)))

  -- A path's line prints where the path isn't omitted, and a section that isn't hidden has its line.
  pub found : (sections : List Section) → has_path p (shown rules marks sections) ≡ (visible && list_any (is_in p) sections)
  found sections = from-found sections 2
