-- What a session opens with, prints and picks out.
use Rattle.std.proofs.Common.{◌≡◌, inl, inr, ℕ, List, [], ◌∷◌, ◌++◌, true, false, Option, Some, None, Result, Ok, Err, ap, refl, sym, subst, ◌∙◌}
use Rattle.std.proofs.lemmas.Bool.{cases_Bool}
use Rattle.dired_text.specs.Outside.{TakesPartOf}
use Rattle.dired_text.specs.Paths.{Names}
use Rattle.listed_lines.proofs.ListedLemmas.{listing_is_one}
use Rattle.listed_lines.specs.Listed.{listed}
use Rattle.listing_text.specs.declared.line.Line.{Line}
use Rattle.mark_table.specs.PathMarks.{PathMarks, has_mark, is_among, star}
use Rattle.omit_rules.specs.Values.{Values}
use Rattle.omit_rules.specs.declared.rules.Rules.{Rules}
use Rattle.section_buffer.specs.Buffers.{all_lines}
use Rattle.section_buffer.specs.Printed.{PrintsAs, printed}
use Rattle.section_buffer.specs.declared.ends.PrintEnd.{PrintEnd}
use Rattle.section_buffer.specs.declared.ends.PrintEnd.TheVariants.{Failed}
use Rattle.section_buffer.specs.declared.section.Section.{Section}
use Rattle.session_view.specs.Views.{ViewHistory, first_view}
use Rattle.shown_lines.specs.Chosen.{starred}
use Rattle.shown_lines.specs.Shown.{omits}
use Rattle.shown_lines.specs.Tests.{paths}
use Rattle.shown_lines.specs.declared.entry.Entry.{Entry}
use Rattle.subdir_list.specs.Listings.{IsListed}
use Rattle.dired_session.specs.Desks.{Desk, Seen, omitting_by}
use Rattle.dired_session.specs.Scripts.{opened}
use Rattle.dired_session.specs.Steps.{buffer_text}

abbrev opening : Rules → ViewHistory → ℕ → ℕ → Desk
opening rules views oldest newest = record { views = views; current = None; rules = rules; kept = record { oldest = oldest; newest = newest } }

-- a session of the root's lines is the one that a script begins with
pub opened_is : (rules : Rules) (values : Values) (o : Seen) (views : ViewHistory) (oldest newest : ℕ) (lines : List Line)
    → IsListed all_lines o.tree o.fields [] lines → views ≡ first_view all_lines lines → oldest ≡ values.kept_old → newest ≡ values.kept_new
    → opening rules views oldest newest ≡ opened rules values o
opened_is rules values o views oldest newest lines listing is old new =
    ap (λ (v : ViewHistory). opening rules v oldest newest) (is ∙ ap (first_view all_lines) (listing_is_one all_lines o.tree o.fields [] lines listing))
    ∙ ap (λ n. opening rules (first_view all_lines (listed all_lines o.tree o.fields [])) n newest) old
    ∙ ap (λ n. opening rules (first_view all_lines (listed all_lines o.tree o.fields [])) values.kept_old n) new

-- the text that is printed is that of the buffer
pub printed_is : (d : Desk) (m1 m2 : PathMarks) (s1 s2 : List Section) (omitted left : List Names) (r : Option Rules)
    → m1 ≡ d.views.view.marks → m2 ≡ d.views.view.marks → s1 ≡ d.views.view.sections → s2 ≡ d.views.view.sections → left ≡ omitted → r ≡ omitting_by d
    → printed m1 (λ p. is_among p omitted) s1 ≡ printed m1 (omits r m1) s1
    → printed m2 (λ p. is_among p left) s2 ≡ buffer_text d
printed_is d m1 m2 s1 s2 omitted left r em1 em2 es1 es2 eo er e =
    let marks = d.views.view.marks in
    let sections = d.views.view.sections in
    ap (λ (m : PathMarks). printed m (λ p. is_among p left) s2) em2
    ∙ ap (λ (s : List Section). printed marks (λ p. is_among p left) s) es2
    ∙ ap (λ (ps : List Names). printed marks (λ p. is_among p ps) sections) eo
    ∙ sym (ap (λ (m : PathMarks). printed m (λ p. is_among p omitted) s1) em1 ∙ ap (λ (s : List Section). printed marks (λ p. is_among p omitted) s) es1)
    ∙ e
    ∙ ap (λ (m : PathMarks). printed m (omits r m) s1) em1
    ∙ ap (λ (s : List Section). printed marks (omits r marks) s) es1
    ∙ ap (λ (o : Option Rules). printed marks (omits o marks) sections) er

pub part_printed : (end : PrintEnd) (text wanted old new : List ℕ) → end ≡ Failed → text ≡ wanted → PrintsAs (Err end) text old new → TakesPartOf wanted old new
part_printed end text wanted old new is same prints = subst (λ (t : List ℕ). TakesPartOf t old new) same (subst (λ (e : PrintEnd). PrintsAs (Err e) text old new) is prints)

-- one more line, marked or not
pub starred-more : (m : PathMarks) (es : List Entry) (e : Entry) → has_mark m (Some star) e.path ≡ true → paths (starred m (es ++ e ∷ [])) ≡ paths (starred m es) ++ e.path ∷ []
starred-more m [] e is = rw is refl
starred-more m (x ∷ es) e is = elim (cases_Bool (has_mark m (Some star) x.path)) [
  | inl same ↦ rw same (ap (λ (ps : List Names). x.path ∷ ps) (starred-more m es e is))
  | inr other ↦ rw other (starred-more m es e is)
]

pub starred-same : (m : PathMarks) (es : List Entry) (e : Entry) → has_mark m (Some star) e.path ≡ false → paths (starred m (es ++ e ∷ [])) ≡ paths (starred m es)
starred-same m [] e is = rw is refl
starred-same m (x ∷ es) e is = elim (cases_Bool (has_mark m (Some star) x.path)) [
  | inl same ↦ rw same (ap (λ (ps : List Names). x.path ∷ ps) (starred-same m es e is))
  | inr other ↦ rw other (starred-same m es e is)
]
