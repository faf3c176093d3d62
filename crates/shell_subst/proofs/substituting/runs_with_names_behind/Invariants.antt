use Rattle.std.proofs.Common.{◌≡◌, ◌∷◌, ◌++◌, map, take}
use Rattle.shell_subst.specs.Quoting.{quoted}
use Rattle.shell_subst.proofs.substituting.runs_with_names_behind.Given as goal

abbrev pub invariant-loop-name : goal.invariant-loop-name
invariant-loop-name l = l.texts.items ≡ map (λ name. l.text ++ 32 ∷ quoted name) (take l.name-index l.names)
