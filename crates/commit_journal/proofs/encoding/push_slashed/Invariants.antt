use Rattle.std.proofs.Common.{◌≡◌, ◌++◌, take}
use Rattle.std.specs.List.{AllByRecursion}
use Rattle.dired_text.specs.Paths.{slashed}
use Rattle.commit_steps.specs.Steps.{IsName}
use Rattle.commit_journal.proofs.encoding.push_slashed.Given as goal

abbrev pub invariant-loop-name : goal.invariant-loop-name
invariant-loop-name l = record {
  text : l.text.items ≡ l.fn.text.items ++ slashed (take l.name-index l.names);
  names : AllByRecursion IsName (take l.name-index l.names);
}
