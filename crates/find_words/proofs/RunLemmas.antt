-- What the program of an expression leaves.
use Rattle.std.proofs.Common.{◌≡◌, ◌∙◌, refl, ℕ, ℤ, Bool, List, [], ◌∷◌, ◌++◌, append_assoc, append-nil}
use Rattle.tree_core.specs.declared.meta.Meta.{Meta}
use Rattle.find_words.specs.declared.predicate.Operation.{Operation}
use Rattle.find_words.specs.declared.predicate.Operation.TheVariants as operation
use Rattle.find_words.specs.Expressions.{Expression, Everything, Test, Not, And, Or, value_of}
use Rattle.find_words.specs.Programs.{program_of, run}

-- the program of an expression puts its value on the stack
pub run-program : (now : ℤ) (name : List ℕ) (meta : Meta) (e : Expression) (os : List Operation) (bs : List Bool) → run now name meta (program_of e ++ os) bs ≡ run now name meta os (value_of now name meta e ∷ bs)
run-program now name meta Everything os bs = refl
run-program now name meta (Test condition) os bs = refl
run-program now name meta (Not e) os bs = simp append_assoc (run-program now name meta e (operation.Not ∷ os) bs)
run-program now name meta (And e f) os bs =
    simp append_assoc (run-program now name meta e (program_of f ++ operation.And ∷ os) bs ∙ run-program now name meta f (operation.And ∷ os) (value_of now name meta e ∷ bs))
run-program now name meta (Or e f) os bs =
    simp append_assoc (run-program now name meta e (program_of f ++ operation.Or ∷ os) bs ∙ run-program now name meta f (operation.Or ∷ os) (value_of now name meta e ∷ bs))

pub value-run : (now : ℤ) (name : List ℕ) (meta : Meta) (e : Expression) → run now name meta (program_of e) [] ≡ value_of now name meta e
value-run now name meta e = simp append-nil at (run-program now name meta e [] [])
