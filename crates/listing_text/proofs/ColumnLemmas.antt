-- The widest of the lines that are left, and the texts of these lines.
use Rattle.std.proofs.Common.{◌≡◌, ℕ, suc, ◌+◌, ◌<◌, ◌≤◌, min, max, List, [], ◌∷◌, ◌++◌, length, get_or, drop, sym, ◌∙◌, ap, arith, drop-cons, append_assoc}
use Rattle.std.proofs.lemmas.List.{drop_all}
use Rattle.listing_text.specs.declared.line.Line.{Line}
use Rattle.listing_text.specs.declared.line.Widths.{Widths}
use Rattle.listing_text.specs.Listed.{width_of, line_text_of, lines_text}

-- the line at a place comes before those behind it
at_place : (lines : List (ℕ × Line)) (i : ℕ) (x : ℕ × Line) → i < length lines → x ≡ get_or lines i x → drop i lines ≡ x ∷ drop (i + 1) lines
at_place lines i x within is =
    let next : suc i ≡ i + 1 = omega arith in
    drop-cons lines i x within ∙ ap (λ y. y ∷ drop (suc i) lines) (sym is) ∙ ap (λ n. x ∷ drop n lines) next

pub width-step : (column : Line → List ℕ) (lines : List (ℕ × Line)) (i w w₂ : ℕ) (x : ℕ × Line) → i < length lines → x ≡ get_or lines i x
    → w₂ ≡ max w (min (length (column x.1)) 255) → width_of column lines ≡ max w (width_of column (drop i lines)) → width_of column lines ≡ max w₂ (width_of column (drop (i + 1) lines))
width-step column lines i w w₂ x within is wider so_far =
    let here = ap (width_of column) (at_place lines i x within is) in omega arith

pub width-end : (column : Line → List ℕ) (lines : List (ℕ × Line)) (i w : ℕ) → length lines ≤ i → width_of column lines ≡ max w (width_of column (drop i lines)) → w ≡ width_of column lines
width-end column lines i w past so_far = let none = ap (width_of column) (drop_all i lines past) in omega arith

pub lines-step : (widths : Widths) (lines : List (ℕ × Line)) (i : ℕ) (x : ℕ × Line) → i < length lines → x ≡ get_or lines i x
    → lines_text widths (drop i lines) ≡ line_text_of x.0 x.1 widths ++ 10 ∷ lines_text widths (drop (i + 1) lines)
unfolding lines_text
lines-step widths lines i x within is = ap (lines_text widths) (at_place lines i x within is)

pub with-newline : (t line rest : List ℕ) → ((t ++ line) ++ (10 ∷ [])) ++ rest ≡ t ++ (line ++ 10 ∷ rest)
with-newline t line rest = append_assoc (t ++ line) (10 ∷ []) rest ∙ append_assoc t line (10 ∷ rest)

pub lines-end : (widths : Widths) (lines : List (ℕ × Line)) (i : ℕ) → length lines ≤ i → lines_text widths (drop i lines) ≡ []
unfolding lines_text
lines-end widths lines i past = ap (lines_text widths) (drop_all i lines past)
