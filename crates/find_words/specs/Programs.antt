-- Expressions as programs for a stack: each operation behind its operands.
use Rattle.std.specs.Prelude.{◌≡◌, ℕ, ℤ, Bool, true, not, ◌&&◌, ◌||◌, List, [], ◌∷◌, ◌++◌, refl}
use Rattle.std.proofs.Common.{◌∙◌, append_assoc}
use Rattle.std.proofs.lemmas.List.{append-nil}
use Rattle.tree_core.specs.declared.meta.Meta.{Meta}
use Rattle.find_words.specs.declared.predicate.Operation.{Operation}
use Rattle.find_words.specs.declared.predicate.Operation.TheVariants as operation
use Rattle.find_words.specs.Conditions.{holds}
use Rattle.find_words.specs.Expressions.{Expression, Everything, Test, Not, And, Or}

abbrev pub program_of : Expression → List Operation
program_of Everything = operation.Everything ∷ []
program_of (Test condition) = operation.Test condition ∷ []
program_of (Not e) = program_of e ++ operation.Not ∷ []
program_of (And e f) = program_of e ++ (program_of f ++ operation.And ∷ [])
program_of (Or e f) = program_of e ++ (program_of f ++ operation.Or ∷ [])

-- ---- a program read back

-- the expressions behind one more operation, the last one first
abbrev pub with_operation : Operation → List Expression → List Expression
with_operation operation.Everything es = Everything ∷ es
with_operation (operation.Test condition) es = Test condition ∷ es
with_operation operation.Not [] = []
with_operation operation.Not (e ∷ es) = Not e ∷ es
with_operation operation.And [] = []
with_operation operation.And (f ∷ []) = []
with_operation operation.And (f ∷ e ∷ es) = And e f ∷ es
with_operation operation.Or [] = []
with_operation operation.Or (f ∷ []) = []
with_operation operation.Or (f ∷ e ∷ es) = Or e f ∷ es

abbrev pub last_expression : List Expression → Expression
last_expression [] = Everything
last_expression (e ∷ es) = e

abbrev pub expression_from : List Expression → List Operation → Expression
expression_from es [] = last_expression es
expression_from es (o ∷ os) = expression_from (with_operation o es) os

abbrev pub expression_of : List Operation → Expression
expression_of os = expression_from [] os

pub program_behind : (e : Expression) (es : List Expression) (os : List Operation) → expression_from es (program_of e ++ os) ≡ expression_from (e ∷ es) os
program_behind Everything es os = refl
program_behind (Test condition) es os = refl
program_behind (Not e) es os = simp append_assoc (program_behind e es (operation.Not ∷ os))
program_behind (And e f) es os =
    simp append_assoc (program_behind e es (program_of f ++ operation.And ∷ os) ∙ program_behind f (e ∷ es) (operation.And ∷ os))
program_behind (Or e f) es os =
    simp append_assoc (program_behind e es (program_of f ++ operation.Or ∷ os) ∙ program_behind f (e ∷ es) (operation.Or ∷ os))

pub expression_of-program_of : (e : Expression) → expression_of (program_of e) ≡ e
expression_of-program_of e = simp append-nil at (program_behind e [] [])

-- ---- a program carried out

abbrev pub first_of : List Bool → Bool
first_of [] = true
first_of (b ∷ bs) = b

abbrev pub behind_first : List Bool → List Bool
behind_first [] = []
behind_first (b ∷ bs) = bs

-- the stack behind one operation
abbrev pub stack_behind : ℤ → List ℕ → Meta → Operation → List Bool → List Bool
stack_behind now name meta operation.Everything bs = true ∷ bs
stack_behind now name meta (operation.Test condition) bs = holds now name meta condition ∷ bs
stack_behind now name meta operation.Not bs = not (first_of bs) ∷ behind_first bs
stack_behind now name meta operation.And bs = (first_of (behind_first bs) && first_of bs) ∷ behind_first (behind_first bs)
stack_behind now name meta operation.Or bs = (first_of (behind_first bs) || first_of bs) ∷ behind_first (behind_first bs)

-- the value that a program leaves last
abbrev pub run : ℤ → List ℕ → Meta → List Operation → List Bool → Bool
run now name meta [] bs = first_of bs
run now name meta (o ∷ os) bs = run now name meta os (stack_behind now name meta o bs)
