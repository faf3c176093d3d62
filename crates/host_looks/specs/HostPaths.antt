-- Paths as the host and its programs take them.
use Rattle.std.specs.Prelude.{◌≡◌, ℕ, ◌-◌, List, [], ◌∷◌, ◌++◌, codes, drop, length, Some}
use Rattle.std.specs.Process.{command_var}
use Rattle.std.specs.declared.process.command.Command.{Command}
use Rattle.dired_text.specs.Paths.{Names, joined}

-- the names joined by `/`, and `.` for the root
abbrev pub host_text : Names → List ℕ
host_text [] = codes "."
host_text (n ∷ p) = joined (n ∷ p)

-- the first name behind `./`, so that no program takes it for an option; `.` where there is none
abbrev pub dotted : Names → List ℕ
dotted [] = codes "."
dotted (n ∷ p) = codes "./" ++ n

-- what stands at a path as it is called in the directory above
abbrev pub entry_text : Names → List ℕ
entry_text p = dotted (drop (length p - 1) p)

-- the program is looked for in the directories of the system alone
abbrev pub IsSearchedInSystem : {A : Type 0} → Command A → Type 0
IsSearchedInSystem c = command_var c (codes "PATH") ≡ Some (Some (codes "/usr/bin:/bin"))
