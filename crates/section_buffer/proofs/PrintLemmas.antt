-- Texts without the same lines.
use Rattle.std.proofs.Common.{◌≡◌, ℕ, List, [], ◌∷◌, ◌++◌, append-nil, append_assoc, refl, ap, sym, ◌∙◌, Bool, true, false, Option, Some, None, Result, Ok, Err, if◌then◌else◌, codes, is_some}
use Rattle.std.proofs.lemmas.List.{flat_map_more}
use Rattle.std.proofs.lemmas.List.Elements.{filter_map-append}
use Rattle.std.specs.FinMap.{get, get-empty, empty}
use Rattle.std.specs.List.{filter_map, flat_map, cons_option}
use Rattle.dired_text.specs.Paths.{Names, path_cmp}
use Rattle.dired_text.specs.Resolve.{resolved}
use Rattle.dired_text.specs.declared.resolving.NameError.{NameError}
use Rattle.listing_text.specs.Listed.{header_text_of, section_text_of}
use Rattle.listing_text.specs.declared.line.Line.{Line as line_type}
use Rattle.mark_table.specs.PathMarks.{PathMarks, flipped, is_among, toggled}
use Rattle.section_buffer.specs.declared.section.Section.{Section}
use Rattle.section_buffer.specs.Printed.{is_left_out, mark_at, printed, printed_at, printed_lines, section_printed}

-- a path that is marked in an empty table, and no other
pub marked-alone : (among : Bool) (found : Option ℕ) → found ≡ (if among then flipped None else None) → is_some found ≡ among
marked-alone true found e = ap is_some e
marked-alone false found e = ap is_some e

pub table-marks : (m : PathMarks) (paths : List Names) → m ≡ empty → ((p : Names) → get (toggled paths m) p ≡ (if is_among p paths then flipped (get m p) else get m p)) → (p : Names) → is_some (get (toggled paths m) p) ≡ is_among p paths
table-marks m paths is law p =
    let e : get m p ≡ None = ap (λ (x : PathMarks). get x p) is ∙ get-empty path_cmp p in
    marked-alone (is_among p paths) (get (toggled paths m) p) (law p ∙ ap (λ (found : Option ℕ). if is_among p paths then flipped found else found) e)

module _ (marks : PathMarks) (p q : Names → Bool) (same : (path : Names) → p path ≡ q path) where
  left-same : (path : Result Names NameError) → is_left_out p path ≡ is_left_out q path
  left-same (Ok path) = same path
  left-same (Err refused) = refl

  lines-same : (dir : Names) (lines : List line_type) → printed_lines marks p dir lines ≡ printed_lines marks q dir lines
  lines-same dir [] = refl
  lines-same dir (line ∷ lines) =
      let path = resolved dir line.name in
      ap (λ (b : Bool). cons_option (if b then None else Some (mark_at marks path, line)) (printed_lines marks p dir lines)) (left-same path)
      ∙ ap (λ later. cons_option (printed_at marks q path line) later) (lines-same dir lines)

  section-same : (section : Section) → section_printed marks p section ≡ section_printed marks q section
  section-same section = ap (λ lines. if section.hidden then header_text_of section.dir ++ codes " ...\n" else section_text_of section.dir lines) (lines-same section.dir section.lines)

  sections-same : (sections : List Section) → flat_map (λ section. 10 ∷ section_printed marks p section) sections ≡ flat_map (λ section. 10 ∷ section_printed marks q section) sections
  sections-same [] = refl
  sections-same (section ∷ sections) =
      ap (λ text. (10 ∷ text) ++ flat_map (λ section. 10 ∷ section_printed marks p section) sections) (section-same section)
      ∙ ap (λ later. (10 ∷ section_printed marks q section) ++ later) (sections-same sections)

  pub printed-same : (sections : List Section) → printed marks p sections ≡ printed marks q sections
  printed-same sections = ap (λ text. codes "dired 1" ++ text) (sections-same sections)

-- one line more
pub lines-none : (marks : PathMarks) (p : Names → Bool) (dir : Names) (lines : List line_type) (line : line_type) → None ≡ printed_at marks p (resolved dir line.name) line → printed_lines marks p dir (lines ++ line ∷ []) ≡ printed_lines marks p dir lines
lines-none marks p dir lines line e =
    let h = λ (line : line_type). printed_at marks p (resolved dir line.name) line in
    filter_map-append h lines (line ∷ []) ∙ (ap (λ (o : Option (ℕ × line_type)). filter_map h lines ++ cons_option o []) (sym e) ∙ append-nil (filter_map h lines))

pub lines-some : (marks : PathMarks) (p : Names → Bool) (dir : Names) (lines : List line_type) (line : line_type) (shown : ℕ × line_type) → Some shown ≡ printed_at marks p (resolved dir line.name) line → printed_lines marks p dir (lines ++ line ∷ []) ≡ printed_lines marks p dir lines ++ shown ∷ []
lines-some marks p dir lines line shown e =
    let h = λ (line : line_type). printed_at marks p (resolved dir line.name) line in
    filter_map-append h lines (line ∷ []) ∙ ap (λ (o : Option (ℕ × line_type)). filter_map h lines ++ cons_option o []) (sym e)

-- one section more
pub printed-more : (marks : PathMarks) (p : Names → Bool) (sections : List Section) (section : Section) → (printed marks p sections ++ 10 ∷ []) ++ section_printed marks p section ≡ printed marks p (sections ++ section ∷ [])
printed-more marks p sections section =
    append_assoc (printed marks p sections) (10 ∷ []) (section_printed marks p section)
    ∙ flat_map_more (λ (s : Section). 10 ∷ section_printed marks p s) (codes "dired 1") sections section
