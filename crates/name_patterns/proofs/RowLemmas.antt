-- Rows: which ends of a name the pieces of a pattern match.
use Rattle.std.proofs.Common.{◌≡◌, ◌∙◌, refl, sym, ap, arith, ℕ, zero, suc, ◌+◌, ◌<◌, Bool, true, false, ◌&&◌, ◌||◌, List, [], ◌∷◌, ◌++◌, length, get_or, if◌then◌else◌, length-append}
use Rattle.name_patterns.specs.declared.patterns.Piece.{Piece}
use Rattle.name_patterns.specs.declared.patterns.Piece.TheVariants.{AnyRun, AnyOne, One, Set}
use Rattle.name_patterns.specs.Patterns.{matches, stands_for}
use Rattle.name_patterns.specs.Rows.{row_of, is_any_run}

pub length-row_of : (pieces : List Piece) (name : List ℕ) → length (row_of pieces name) ≡ length name + 1
length-row_of pieces [] = refl
length-row_of pieces (c ∷ cs) = omega (arith, length-append (row_of pieces cs) (matches pieces (c ∷ cs) ∷ []), length-row_of pieces cs)

front : (xs : List Bool) (b : Bool) (i : ℕ) → i < length xs → get_or (xs ++ b ∷ []) i false ≡ get_or xs i false
front [] b i below = absurd (omega arith)
front (x ∷ xs) b zero below = refl
front (x ∷ xs) b (suc i) below = front xs b i (omega arith)

last : (xs : List Bool) (b : Bool) → get_or (xs ++ b ∷ []) (length xs) false ≡ b
last [] b = refl
last (x ∷ xs) b = last xs b

-- the last of a row is that of the whole name
pub row-whole : (pieces : List Piece) (name : List ℕ) → get_or (row_of pieces name) (length name) false ≡ matches pieces name
row-whole pieces [] = refl
row-whole pieces (c ∷ cs) =
    let place : suc (length cs) ≡ length (row_of pieces cs) = omega (arith, length-row_of pieces cs) in
    ap (λ i. get_or (row_of pieces cs ++ matches pieces (c ∷ cs) ∷ []) i false) place ∙ last (row_of pieces cs) (matches pieces (c ∷ cs))

-- each of a row is that of an end
pub row-at : (pieces : List Piece) (before done : List ℕ) → get_or (row_of pieces (before ++ done)) (length done) false ≡ matches pieces done
row-at pieces [] done = row-whole pieces done
row-at pieces (c ∷ before) done =
    front (row_of pieces (before ++ done)) (matches pieces (c ∷ before ++ done)) (length done)
    (omega (arith, length-row_of pieces (before ++ done), length-append before done))
    ∙ row-at pieces before done

or_false : (a : Bool) → (a || false) ≡ a
or_false true = refl
or_false false = refl

-- the row of a piece begins
pub row-first : (piece : Piece) (pieces : List Piece) → (is_any_run piece && matches pieces []) ≡ matches (piece ∷ pieces) []
row-first AnyRun pieces = sym (or_false (matches pieces []))
row-first AnyOne pieces = refl
row-first (One own) pieces = refl
row-first (Set negated members) pieces = refl

-- and goes on
pub row-next : (piece : Piece) (pieces : List Piece) (c : ℕ) (cs : List ℕ) → (if is_any_run piece then (matches pieces (c ∷ cs) || matches (piece ∷ pieces) cs) else (stands_for piece c && matches pieces cs)) ≡ matches (piece ∷ pieces) (c ∷ cs)
row-next AnyRun pieces c cs = refl
row-next AnyOne pieces c cs = refl
row-next (One own) pieces c cs = refl
row-next (Set false members) pieces c cs = refl
row-next (Set true members) pieces c cs = refl

pub next-is : (piece : Piece) (pieces : List Piece) (c : ℕ) (cs : List ℕ) (result shorter same last : Bool) → result ≡ (if is_any_run piece then (same || last) else (stands_for piece c && shorter)) → shorter ≡ matches pieces cs → same ≡ matches pieces (c ∷ cs) → last ≡ matches (piece ∷ pieces) cs → result ≡ matches (piece ∷ pieces) (c ∷ cs)
next-is piece pieces c cs result shorter same last is a b d =
    is
    ∙ ap (λ (x : Bool). if is_any_run piece then (same || last) else (stands_for piece c && x)) a
    ∙ ap (λ (x : Bool). if is_any_run piece then (x || last) else (stands_for piece c && matches pieces cs)) b
    ∙ ap (λ (x : Bool). if is_any_run piece then (matches pieces (c ∷ cs) || x) else (stands_for piece c && matches pieces cs)) d
    ∙ row-next piece pieces c cs

pub none_left : (pieces : List Piece) → length pieces ≡ 0 → pieces ≡ []
none_left [] e = refl
none_left (piece ∷ pieces) e = absurd (omega (arith, e))
