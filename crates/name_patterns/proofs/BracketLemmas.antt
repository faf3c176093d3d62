-- Behind a `[` that isn't closed none is closed.
use Rattle.std.proofs.Common.{◌≡◌, ◌∙◌, refl, ap, arith, ℕ, zero, suc, ◌+◌, ◌≤◌, Bool, true, false, ◌==◌, List, [], ◌∷◌, length, drop, eqb-true}
use Rattle.std.proofs.lemmas.Bool.{and_parts, ltb-false, le-ltb}
use Rattle.std.specs.List.{AllByRecursion, position_or_len}
use Rattle.name_patterns.specs.declared.patterns.Glyph.{Glyph}
use Rattle.name_patterns.specs.declared.patterns.Piece.{Piece}
use Rattle.name_patterns.specs.declared.patterns.Piece.TheVariants.{AnyRun, AnyOne, One}
use Rattle.name_patterns.specs.Patterns.{is_mark, is_next, is_closed, member_count, members_in, set_of, set_length, pieces_behind, pieces_of}
use Rattle.name_patterns.specs.PatternReading.{pieces_from}

-- none of these is a `]`
abbrev pub NoEnd : List Glyph → Type 0
NoEnd glyphs = AllByRecursion (λ g. is_mark 93 g ≡ false) glyphs

-- each `[` among these is one that isn't closed
abbrev pub NoSet : List Glyph → Type 0
NoSet [] = Unit {0}
NoSet (g ∷ glyphs) = (is_mark 91 g ≡ true → is_closed (members_in glyphs) ≡ false) × NoSet glyphs

ends_out : (glyphs : List Glyph) → length glyphs ≤ position_or_len (is_mark 93) glyphs → NoEnd glyphs
ends_out [] out = tt
ends_out (g ∷ glyphs) out = go (is_mark 93 g) refl (ends_out glyphs) out
  where
    go : (b : Bool) → is_mark 93 g ≡ b → (length glyphs ≤ position_or_len (is_mark 93) glyphs → NoEnd glyphs)
        → length (g ∷ glyphs) ≤ position_or_len (is_mark 93) (g ∷ glyphs) → NoEnd (g ∷ glyphs)
    go true e later is = let bad : suc (length glyphs) ≤ 0 = rw e at is in absurd (omega arith)
    go false e later is = let more : suc (length glyphs) ≤ 1 + position_or_len (is_mark 93) glyphs = rw e at is in (e, later (omega arith))

out_ends : (glyphs : List Glyph) → NoEnd glyphs → length glyphs ≤ position_or_len (is_mark 93) glyphs
out_ends [] none = omega arith
out_ends (g ∷ glyphs) none =
    let later : length glyphs ≤ position_or_len (is_mark 93) glyphs = out_ends glyphs none.1 in
    let place : position_or_len (is_mark 93) (g ∷ glyphs) ≡ 1 + position_or_len (is_mark 93) glyphs = rw (none.0) refl in
    omega arith

-- a set that isn't closed has no `]` behind its first member
unclosed_out : (members : List Glyph) → is_closed members ≡ false → NoEnd (drop 1 members)
unclosed_out [] out = tt
unclosed_out (m ∷ members) out =
    let most : suc (length members) ≤ suc (position_or_len (is_mark 93) members) = ltb-false (member_count (m ∷ members)) (length (m ∷ members)) out in
    ends_out members (omega arith)

out_unclosed : (members : List Glyph) → NoEnd (drop 1 members) → is_closed members ≡ false
out_unclosed [] none = refl
out_unclosed (m ∷ members) none =
    let later : length members ≤ position_or_len (is_mark 93) members = out_ends members none in
    let most : length (m ∷ members) ≤ member_count (m ∷ members) = omega arith in
    le-ltb (member_count (m ∷ members)) (length (m ∷ members)) most

behind_one : (glyphs : List Glyph) → NoEnd glyphs → NoEnd (drop 1 glyphs)
behind_one [] none = tt
behind_one (g ∷ glyphs) none = none.1

members_out : (glyphs : List Glyph) → NoEnd glyphs → NoEnd (drop 1 (members_in glyphs))
members_out glyphs none = go (is_next 33 glyphs) refl
  where
    go : (b : Bool) → is_next 33 glyphs ≡ b → NoEnd (drop 1 (members_in glyphs))
    go true e = rw e (behind_one (drop 1 glyphs) (behind_one glyphs none))
    go false e = rw e (behind_one glyphs none)

none_behind : (glyphs : List Glyph) → NoEnd glyphs → is_closed (members_in glyphs) ≡ false
none_behind glyphs none = out_unclosed (members_in glyphs) (members_out glyphs none)

sets_out : (glyphs : List Glyph) → NoEnd glyphs → NoSet glyphs
sets_out [] none = tt
sets_out (g ∷ glyphs) none = ((λ is. none_behind glyphs none.1), sets_out glyphs none.1)

-- also behind one more glyph
sets_behind_one : (g : Glyph) (glyphs : List Glyph) → NoEnd glyphs → NoSet (g ∷ glyphs)
sets_behind_one g glyphs none = ((λ is. none_behind glyphs none), sets_out glyphs none)

-- a glyph is one mark alone
marks_apart : (g : Glyph) → is_mark 33 g ≡ true → is_mark 91 g ≡ true → ⊥
marks_apart g a b =
    let one : g.character ≡ 33 = eqb-true g.character 33 ((and_parts (g.character == 33) _ a).0) in
    let other : g.character ≡ 91 = eqb-true g.character 91 ((and_parts (g.character == 91) _ b).0) in
    absurd (omega arith)

negated_out : (g : Glyph) (glyphs : List Glyph) → is_mark 33 g ≡ true → NoEnd (drop 1 glyphs) → NoSet (g ∷ glyphs)
negated_out g [] negated none = ((λ is. absurd (marks_apart g negated is)), tt)
negated_out g (m ∷ glyphs) negated none = ((λ is. absurd (marks_apart g negated is)), sets_behind_one m glyphs none)

-- behind a `[` that isn't closed
pub none_closed : (glyphs : List Glyph) → is_closed (members_in glyphs) ≡ false → NoSet glyphs
none_closed [] out = tt
none_closed (g ∷ glyphs) out = go (is_mark 33 g) refl
  where
    go : (b : Bool) → is_mark 33 g ≡ b → NoSet (g ∷ glyphs)
    go true e = negated_out g glyphs e (unclosed_out glyphs (rw e at out))
    go false e = sets_behind_one g glyphs (unclosed_out (g ∷ glyphs) (rw e at out))

-- none is looked at again
pub unset : (glyphs : List Glyph) (more : ℕ) → NoSet glyphs → pieces_behind more glyphs ≡ pieces_from false more glyphs
unset [] zero none = refl
unset [] (suc more) none = refl
unset (g ∷ glyphs) (suc more) none = unset glyphs more none.1
unset (g ∷ glyphs) zero none = go (is_mark 42 g) (is_mark 63 g) (is_mark 91 g) refl refl refl (unset glyphs 0 none.1)
  where
    go : (star question bracket : Bool) → is_mark 42 g ≡ star → is_mark 63 g ≡ question → is_mark 91 g ≡ bracket
        → pieces_behind 0 glyphs ≡ pieces_from false 0 glyphs → pieces_behind 0 (g ∷ glyphs) ≡ pieces_from false 0 (g ∷ glyphs)
    go true question bracket s q b later = rw s (ap (λ (ps : List Piece). AnyRun ∷ ps) later)
    go false true bracket s q b later = rw (s, q) (ap (λ (ps : List Piece). AnyOne ∷ ps) later)
    go false false true s q b later = rw (s, q, b, none.0 b) (ap (λ (ps : List Piece). One g.character ∷ ps) later)
    go false false false s q b later = rw (s, q, b) (ap (λ (ps : List Piece). One g.character ∷ ps) later)

bracket_is : (g : Glyph) → is_mark 91 g ≡ true → g.character ≡ 91
bracket_is g is = eqb-true g.character 91 ((and_parts (g.character == 91) _ is).0)

-- the pieces are those of the plain rule
plain_from : (glyphs : List Glyph) (more : ℕ) → pieces_behind more glyphs ≡ pieces_from true more glyphs
plain_from [] zero = refl
plain_from [] (suc more) = refl
plain_from (g ∷ glyphs) (suc more) = plain_from glyphs more
plain_from (g ∷ glyphs) zero = go (is_mark 42 g) (is_mark 63 g) (is_mark 91 g) (is_closed (members_in glyphs)) refl refl refl refl (plain_from glyphs)
  where
    go : (star question bracket closed : Bool) → is_mark 42 g ≡ star → is_mark 63 g ≡ question → is_mark 91 g ≡ bracket → is_closed (members_in glyphs) ≡ closed
        → ((more : ℕ) → pieces_behind more glyphs ≡ pieces_from true more glyphs) → pieces_behind 0 (g ∷ glyphs) ≡ pieces_from true 0 (g ∷ glyphs)
    go true question bracket closed s q b c later = rw s (ap (λ (ps : List Piece). AnyRun ∷ ps) (later 0))
    go false true bracket closed s q b c later = rw (s, q) (ap (λ (ps : List Piece). AnyOne ∷ ps) (later 0))
    go false false true true s q b c later = rw (s, q, b, c) (ap (λ (ps : List Piece). set_of glyphs ∷ ps) (later (set_length glyphs)))
    go false false true false s q b c later =
        rw (s, q, b, c) (ap (λ (n : ℕ). One n ∷ pieces_behind 0 glyphs) (bracket_is g b) ∙ ap (λ (ps : List Piece). One 91 ∷ ps) (unset glyphs 0 (none_closed glyphs c)))
    go false false false closed s q b c later = rw (s, q, b) (ap (λ (ps : List Piece). One g.character ∷ ps) (later 0))

pub plain_rule : (glyphs : List Glyph) → pieces_of glyphs ≡ pieces_from true 0 glyphs
plain_rule glyphs = plain_from glyphs 0
