use Rattle.std.proofs.Common.{◌≡◌, map, drop}
use Rattle.command_words.specs.Commands.{paths_of, dir_named}
use Rattle.command_words.proofs.WordLemmas.{with_paths}
use Rattle.command_words.proofs.list.dirs_of.Given as goal

abbrev pub invariant-loop-word : goal.invariant-loop-word
invariant-loop-word l = paths_of dir_named (map (λ w. w.now) l.words) ≡ with_paths l.dirs.items (paths_of dir_named (map (λ w. w.now) (drop l.word-index l.words)))
