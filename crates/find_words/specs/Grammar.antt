-- The grammar of predicates (POSIX, "find"): `-o` binds least, then `-a`, which may be left out, then `!`.
use Rattle.std.specs.Prelude.{◌≡◌, ◌⊎◌, ℕ, ◌+◌, ◌-◌, ◌≤◌, Bool, true, false, List, [], ◌∷◌, ◌++◌, length, take, codes, Some}
use Rattle.find_words.specs.declared.arguments.Primary.{Primary as Beginning}
use Rattle.find_words.specs.declared.arguments.Symbol.TheVariants as symbol
use Rattle.find_words.specs.declared.conditions.Condition.{Condition}
use Rattle.find_words.specs.Arguments.{symbol_of, condition_of}
use Rattle.find_words.specs.Expressions.{Expression, Everything, Test, Not, And, Or}
use Rattle.find_words.specs.Words.{Words}

pub data Syntax : Type 0 where
  -- the word that begins a condition, its argument, and the condition
  Primary : List ℕ → List ℕ → Condition → Syntax
  Group : Syntax → Syntax
  Negated : Syntax → Syntax
  -- one behind the other, with `true` a `-a` between them
  Both : Syntax → Bool → Syntax → Syntax
  Either : Syntax → Syntax → Syntax

abbrev pub joint : Bool → List (List ℕ)
joint true = codes "-a" ∷ []
joint false = []

-- how it is written
abbrev pub words_of : Syntax → List (List ℕ)
words_of (Primary word argument condition) = word ∷ argument ∷ []
words_of (Group s) = codes "(" ∷ words_of s ++ codes ")" ∷ []
words_of (Negated s) = codes "!" ∷ words_of s
words_of (Both s has_joint t) = words_of s ++ (joint has_joint ++ words_of t)
words_of (Either s t) = words_of s ++ codes "-o" ∷ words_of t

-- what it says
abbrev pub expression_of : Syntax → Expression
expression_of (Primary word argument condition) = Test condition
expression_of (Group s) = expression_of s
expression_of (Negated s) = Not (expression_of s)
expression_of (Both s has_joint t) = And (expression_of s) (expression_of t)
expression_of (Either s t) = Or (expression_of s) (expression_of t)

-- how little it binds
abbrev pub level_of : Syntax → ℕ
level_of (Primary word argument condition) = 0
level_of (Group s) = 0
level_of (Negated s) = 0
level_of (Both s has_joint t) = 1
level_of (Either s t) = 2

-- each part binds as tightly as its place asks, and conditions are written by their words
abbrev pub IsSyntax : Syntax → Type 0
IsSyntax (Primary word argument condition) =
    (beginning : Beginning) × (symbol_of word ≡ symbol.Begins beginning) × (condition_of beginning argument ≡ Some condition)
IsSyntax (Group s) = IsSyntax s
IsSyntax (Negated s) = (level_of s ≤ 0) × IsSyntax s
IsSyntax (Both s has_joint t) = (level_of s ≤ 1) × (level_of t ≤ 0) × IsSyntax s × IsSyntax t
IsSyntax (Either s t) = (level_of t ≤ 1) × IsSyntax s × IsSyntax t

-- these words write this expression
pub record Writes (words : List (List ℕ)) (e : Expression) : Type 0 where
  pub syntax_of : Syntax
  pub is_syntax : IsSyntax syntax_of
  pub written : words_of syntax_of ≡ words
  pub says : expression_of syntax_of ≡ e

-- no words are true of every path
abbrev pub IsPredicate : List (List ℕ) → Expression → Type 0
IsPredicate words e = ((words ≡ []) × (e ≡ Everything)) ⊎ Writes words e

-- these words begin some predicate
abbrev pub CanGoOn : List (List ℕ) → Type 0
CanGoOn words = (more : List (List ℕ)) × (e : Expression) × IsPredicate (words ++ more) e

-- a text that is a predicate
pub record Reads (words : Words) (e : Expression) : Type 0 where
  pub closed : words.is_closed ≡ true
  pub predicate : IsPredicate words.whole e

-- the first word, counted from 1, at which a text can't go on; where the text ends too early or a quote isn't closed it is the one
-- behind the whole words
pub record IsFirstFault (words : Words) (k : ℕ) : Type 0 where
  pub some : 1 ≤ k
  pub within : k ≤ length words.whole + 1
  pub before : CanGoOn (take (k - 1) words.whole)
  pub fault : k ≤ length words.whole → CanGoOn (take k words.whole) → ⊥
  pub ended : k ≡ length words.whole + 1 → (e : Expression) → Reads words e → ⊥
