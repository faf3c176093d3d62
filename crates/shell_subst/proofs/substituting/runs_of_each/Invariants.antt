use Rattle.std.proofs.Common.{◌≡◌, map, take}
use Rattle.shell_subst.specs.Quoting.{quoted}
use Rattle.shell_subst.specs.Commands.{filled}
use Rattle.shell_subst.proofs.substituting.runs_of_each.Given as goal

abbrev pub invariant-loop-name : goal.invariant-loop-name
invariant-loop-name l = l.texts.items ≡ map (λ name. filled (quoted name) l.text) (take l.name-index l.names)
