-- How a predicate is read, word by word: what is due, and a program with the operators that wait for an operand.
use Rattle.std.specs.Prelude.{◌≡◌, ℕ, zero, suc, Bool, true, false, List, [], ◌∷◌, ◌++◌, Option, Some, None}
use Rattle.find_words.specs.declared.arguments.Symbol.{Symbol}
use Rattle.find_words.specs.declared.arguments.Symbol.TheVariants as symbol
use Rattle.find_words.specs.declared.conditions.Condition.{Condition}
use Rattle.find_words.specs.declared.predicate.Operation.{Operation}
use Rattle.find_words.specs.declared.predicate.Operation.TheVariants as operation
use Rattle.find_words.specs.declared.building.Pending.{Pending}
use Rattle.find_words.specs.declared.building.Pending.TheVariants.{Open, Not, And, Or}
use Rattle.find_words.specs.declared.reading.Due.{Due}
use Rattle.find_words.specs.declared.reading.Due.TheVariants.{Operand, Operator, Argument}
use Rattle.find_words.specs.Arguments.{symbol_of, condition_of}

-- ---- the program

-- a program, and what waits, the last first
abbrev pub Built : Type 0
Built = List Operation × List Pending

-- an operand is complete: each `!` before it and a conjunction are done
abbrev pub complete : List Operation → List Pending → Built
complete program [] = (program, [])
complete program (Not ∷ pending) = complete (program ++ operation.Not ∷ []) pending
complete program (And ∷ pending) = complete (program ++ operation.And ∷ []) pending
complete program (Or ∷ pending) = (program, Or ∷ pending)
complete program (Open ∷ pending) = (program, Open ∷ pending)

-- an alternative is complete
abbrev pub alternative : Built → Built
alternative (program, []) = (program, [])
alternative (program, Or ∷ pending) = (program ++ operation.Or ∷ [], pending)
alternative (program, And ∷ pending) = (program, And ∷ pending)
alternative (program, Not ∷ pending) = (program, Not ∷ pending)
alternative (program, Open ∷ pending) = (program, Open ∷ pending)

abbrev pub waiting : Pending → Built → Built
waiting operator (program, pending) = (program, operator ∷ pending)

abbrev pub tested : Condition → Built → Built
tested condition (program, pending) = complete (program ++ operation.Test condition ∷ []) pending

-- the innermost group ends
abbrev pub leave : Built → Built
leave (program, []) = (program, [])
leave (program, operator ∷ pending) = complete program pending

abbrev pub closed : Built → Built
closed built = leave (alternative built)

-- ---- word by word

pub record State : Type 0 where
  pub due : Due
  -- how many groups are open
  pub depth : ℕ
  pub built : Built

abbrev pub at : Due → ℕ → Built → Option State
at due depth built = Some (record { due = due; depth = depth; built = built })

-- a word where an operand begins
abbrev pub begun : Symbol → ℕ → Built → Option State
begun symbol.Open depth built = at Operand (suc depth) (waiting Open built)
begun symbol.Not depth built = at Operand depth (waiting Not built)
begun (symbol.Begins primary) depth built = at (Argument primary) depth built
begun symbol.Close depth built = None
begun symbol.And depth built = None
begun symbol.Or depth built = None
begun symbol.Unknown depth built = None

abbrev pub group_closed : ℕ → Built → Option State
group_closed zero built = None
group_closed (suc depth) built = at Operator depth (closed built)

-- a word behind an operand
abbrev pub gone_on : Symbol → ℕ → Built → Option State
gone_on symbol.And depth built = at Operand depth (waiting And built)
gone_on symbol.Or depth built = at Operand depth (waiting Or (alternative built))
gone_on symbol.Close depth built = group_closed depth built
gone_on symbol.Open depth built = begun symbol.Open depth (waiting And built)
gone_on symbol.Not depth built = begun symbol.Not depth (waiting And built)
gone_on (symbol.Begins primary) depth built = begun (symbol.Begins primary) depth (waiting And built)
gone_on symbol.Unknown depth built = None

abbrev pub argued : Option Condition → ℕ → Built → Option State
argued None depth built = None
argued (Some condition) depth built = at Operator depth (tested condition built)

-- the state behind one word more, or None where the text can't go on with it
abbrev pub behind_word : Due → List ℕ → ℕ → Built → Option State
behind_word Operand word depth built = begun (symbol_of word) depth built
behind_word Operator word depth built = gone_on (symbol_of word) depth built
behind_word (Argument primary) word depth built = argued (condition_of primary word) depth built

abbrev pub with_word : List ℕ → State → Option State
with_word word state = behind_word state.due word state.depth state.built

abbrev pub start : State
start = record { due = Operand; depth = 0; built = ([], []) }

-- whether a text goes on with a word, and the state behind it
abbrev pub Goes : Bool → Option State → State → Type 0
Goes true found state = found ≡ Some state
Goes false found state = found ≡ None

-- the state behind words
abbrev pub run_on : Option State → List (List ℕ) → Option State
run_on found [] = found
run_on None (word ∷ words) = None
run_on (Some state) (word ∷ words) = run_on (with_word word state) words

-- ---- what waits last

-- a `!` or a conjunction that waits last, as an operation
abbrev pub tight : List Pending → Option Operation
tight [] = None
tight (Not ∷ pending) = Some operation.Not
tight (And ∷ pending) = Some operation.And
tight (Or ∷ pending) = None
tight (Open ∷ pending) = None

-- what is left without it
abbrev pub taken_tight : List Pending → List Pending
taken_tight [] = []
taken_tight (Not ∷ pending) = pending
taken_tight (And ∷ pending) = pending
taken_tight (Or ∷ pending) = Or ∷ pending
taken_tight (Open ∷ pending) = Open ∷ pending
