-- Which words can go on: what the reader takes begins a predicate, and the reader takes each predicate.
use Rattle.std.proofs.Common.{◌≡◌, inl, inr, ◌∙◌, refl, sym, ap, subst, arith, ℕ, zero, suc, ◌≤◌, Bool, true, false, List, [], ◌∷◌, ◌++◌, length, Option, Some, None, codes, append_assoc, append-nil}
use Rattle.find_words.specs.declared.arguments.Primary.{Primary as Beginning}
use Rattle.find_words.specs.declared.arguments.Primary.TheVariants as primary
use Rattle.find_words.specs.declared.building.Pending.TheVariants.{Open, Not, And, Or}
use Rattle.find_words.specs.declared.reading.Due.{Due}
use Rattle.find_words.specs.declared.reading.Due.TheVariants.{Operand, Operator, Argument}
use Rattle.find_words.specs.Expressions.{Expression}
use Rattle.find_words.specs.Programs.{program_of}
use Rattle.find_words.specs.Grammar.{Syntax, Primary, Group, Negated, Both, Either, words_of, expression_of, IsSyntax, Writes, IsPredicate, CanGoOn}
use Rattle.find_words.specs.Reading.{Built, State, alternative, closed, tested, waiting, at, argued, begun, gone_on, with_word, run_on, start}
use Rattle.find_words.proofs.LayerLemmas.{Layer, InGroup, InNot, InBoth, InEither, Behind, alternated, depth_in, room_in, words_in, program_in}
use Rattle.find_words.proofs.StepLemmas.{IsAt, IsIn, Argued, stepped}

-- ---- the reader takes each predicate

-- where an operand may begin: at first, or behind another
abbrev pub place : Bool → Due
place true = Operand
place false = Operator

-- the reader gets behind these words
abbrev pub Passes : Bool → List (List ℕ) → List (List ℕ) → ℕ → Built → Type 0
Passes first words more depth built = (behind : Built) × (run_on (at (place first) depth built) (words ++ more) ≡ run_on (at Operator depth behind) more)

pub passes : (s : Syntax) (first : Bool) (more : List (List ℕ)) (depth : ℕ) (built : Built) → IsSyntax s → Passes first (words_of s) more depth built
passes (Primary word argument condition) true more depth built is =
    (tested condition built, ap (λ x. run_on (begun x depth built) (argument ∷ more)) is.1 ∙ ap (λ found. run_on (argued found depth built) more) is.2)
passes (Primary word argument condition) false more depth built is =
    (tested condition (waiting And built), ap (λ x. run_on (gone_on x depth built) (argument ∷ more)) is.1 ∙ ap (λ found. run_on (argued found depth (waiting And built)) more) is.2)
passes (Group s) true more depth built is =
    let r = passes s true (codes ")" ∷ more) (suc depth) (waiting Open built) is in
    (closed r.0, ap (run_on (at Operand (suc depth) (waiting Open built))) (append_assoc (words_of s) (codes ")" ∷ []) more) ∙ r.1)
passes (Group s) false more depth built is =
    let r = passes s true (codes ")" ∷ more) (suc depth) (waiting Open (waiting And built)) is in
    (closed r.0, ap (run_on (at Operand (suc depth) (waiting Open (waiting And built)))) (append_assoc (words_of s) (codes ")" ∷ []) more) ∙ r.1)
passes (Negated s) true more depth built is = passes s true more depth (waiting Not built) is.1
passes (Negated s) false more depth built is = passes s true more depth (waiting Not (waiting And built)) is.1
passes (Both s true t) first more depth built is =
    let r = passes s first (codes "-a" ∷ words_of t ++ more) depth built is.2 in
    let q = passes t true more depth (waiting And r.0) is.3 in
    (q.0, ap (run_on (at (place first) depth built)) (append_assoc (words_of s) (codes "-a" ∷ words_of t) more) ∙ r.1 ∙ q.1)
passes (Both s false t) first more depth built is =
    let r = passes s first (words_of t ++ more) depth built is.2 in
    let q = passes t false more depth r.0 is.3 in
    (q.0, ap (run_on (at (place first) depth built)) (append_assoc (words_of s) (words_of t) more) ∙ r.1 ∙ q.1)
passes (Either s t) first more depth built is =
    let r = passes s first (codes "-o" ∷ words_of t ++ more) depth built is.1 in
    let q = passes t true more depth (waiting Or (alternative r.0)) is.2 in
    (q.0, ap (run_on (at (place first) depth built)) (append_assoc (words_of s) (codes "-o" ∷ words_of t) more) ∙ r.1 ∙ q.1)

pub run_none : (words : List (List ℕ)) → run_on None words ≡ None
run_none [] = refl
run_none (word ∷ words) = refl

pub run-append : (found : Option State) (front words : List (List ℕ)) → run_on found (front ++ words) ≡ run_on (run_on found front) words
run-append found [] words = refl
run-append None (word ∷ front) words = sym (run_none words)
run-append (Some state) (word ∷ front) words = run-append (with_word word state) front words

-- what is written ends behind an operand, with no bracket open
pub taken : (words : List (List ℕ)) (e : Expression) → Writes words e → (built : Built) × (run_on (Some start) words ≡ at Operator 0 built)
taken words e w =
    let r = passes w.syntax_of true [] 0 ([], []) w.is_syntax in
    (r.0, ap (run_on (Some start)) (sym w.written ∙ sym (append-nil (words_of w.syntax_of))) ∙ r.1)

-- where the reader can't go on, no predicate begins with these words
pub stuck : (words : List (List ℕ)) (word : List ℕ) → run_on (Some start) (words ++ word ∷ []) ≡ None → CanGoOn (words ++ word ∷ []) → ⊥
stuck words word none (more, e, inl (empty, everything)) = nothing words empty
  where
    nothing : (front : List (List ℕ)) → (front ++ word ∷ []) ++ more ≡ [] → ⊥
    nothing [] same = let l : length ((word ∷ []) ++ more) ≡ 0 = ap length same in omega (arith, l)
    nothing (x ∷ front) same = let l : length ((x ∷ front ++ word ∷ []) ++ more) ≡ 0 = ap length same in omega (arith, l)
stuck words word none (more, e, inr w) =
    let t = taken ((words ++ word ∷ []) ++ more) e w in
    let gone : run_on (Some start) ((words ++ word ∷ []) ++ more) ≡ None = run-append (Some start) (words ++ word ∷ []) more ∙ ap (λ (o : Option State). run_on o more) none ∙ run_none more in
    let no : at Operator 0 t.0 ≡ None = sym t.1 ∙ gone in cc

-- ---- what the reader takes begins a predicate

pub earlier : (words more : List (List ℕ)) → CanGoOn (words ++ more) → CanGoOn words
earlier words more (later, e, is) = (more ++ later, e, subst (λ (l : List (List ℕ)). IsPredicate l e) (append_assoc words more later) is)

-- what ends behind an operand with no bracket open is written
whole_at : (layers : List Layer) (last : Syntax) → 0 ≡ depth_in layers → 2 ≤ room_in layers → layers ≡ []
whole_at [] last e room = refl
whole_at (InGroup ∷ below) last e room = absurd (omega (arith, e))
whole_at (InNot ∷ below) last e room = absurd (omega arith)
whole_at (InBoth s has_joint ∷ below) last e room = absurd (omega arith)
whole_at (InEither s ∷ below) last e room = absurd (omega arith)

-- the program of what was written
pub record Whole (words : List (List ℕ)) (built : Built) : Type 0 where
  pub e : Expression
  pub written : Writes words e
  pub program_is : (alternative built).0 ≡ program_of e

pub whole : (words : List (List ℕ)) (built : Built) → Behind 1 words 0 built → Whole words built
whole words built b =
    let a = alternated words 0 built b in
    let none : a.layers ≡ [] = whole_at a.layers a.last a.depth_is a.loose in record {
      e = expression_of a.last;
      written = record { syntax_of = a.last; is_syntax = a.is_syntax; written = sym (a.words_are ∙ ap (λ (l : List Layer). words_in l ++ words_of a.last) none); says = refl };
      program_is = ap (λ (x : Built). x.0) a.built_is ∙ ap (λ (l : List Layer). program_in l ++ program_of (expression_of a.last)) none;
    }

-- brackets that are open can be closed
closes : (depth : ℕ) (words : List (List ℕ)) (built : Built) → Behind 1 words depth built → CanGoOn words
closes zero words built b =
    let w = whole words built b in
    ([], w.e, inr (subst (λ (l : List (List ℕ)). Writes l w.e) (sym (append-nil words)) w.written))
closes (suc depth) words built b =
    earlier words (codes ")" ∷ []) (closes depth (words ++ codes ")" ∷ []) (closed built) (stepped Operator words (codes ")") (suc depth) built (record { due = Operator; depth = depth; built = closed built }) b refl))

-- an argument that each kind of condition takes
abbrev pub argument_for : Beginning → List ℕ
argument_for primary.Name = codes "0"
argument_for primary.Kind = codes "f"
argument_for primary.Size = codes "0"
argument_for primary.Days = codes "0"
argument_for primary.Mode = codes "0"
argument_for primary.Links = codes "0"

argues : (beginning : Beginning) (words : List (List ℕ)) (depth : ℕ) (built : Built) → Argued beginning words depth built → CanGoOn words
argues primary.Name words depth built a = earlier words (codes "0" ∷ []) (closes depth _ _ (stepped (Argument primary.Name) words (codes "0") depth built _ a refl))
argues primary.Kind words depth built a = earlier words (codes "f" ∷ []) (closes depth _ _ (stepped (Argument primary.Kind) words (codes "f") depth built _ a refl))
argues primary.Size words depth built a = earlier words (codes "0" ∷ []) (closes depth _ _ (stepped (Argument primary.Size) words (codes "0") depth built _ a refl))
argues primary.Days words depth built a = earlier words (codes "0" ∷ []) (closes depth _ _ (stepped (Argument primary.Days) words (codes "0") depth built _ a refl))
argues primary.Mode words depth built a = earlier words (codes "0" ∷ []) (closes depth _ _ (stepped (Argument primary.Mode) words (codes "0") depth built _ a refl))
argues primary.Links words depth built a = earlier words (codes "0" ∷ []) (closes depth _ _ (stepped (Argument primary.Links) words (codes "0") depth built _ a refl))

pub goes_on : (due : Due) (words : List (List ℕ)) (depth : ℕ) (built : Built) → IsAt due words depth built → CanGoOn words
goes_on Operator words depth built b = closes depth words built b
goes_on (Argument beginning) words depth built a = argues beginning words depth built a
goes_on Operand words depth built b =
    earlier words (codes "-links" ∷ []) (argues primary.Links (words ++ codes "-links" ∷ []) depth built (stepped Operand words (codes "-links") depth built (record { due = Argument primary.Links; depth = depth; built = built }) b refl))

-- at first
pub first_in : IsIn [] start
first_in = record { layers = []; are = tt; words_are = refl; depth_is = refl; built_is = refl }
