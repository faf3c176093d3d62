-- Lawful modes, targets and numbers, as tests.
use Rattle.std.specs.Prelude.{ℕ, ◌==◌, Bool, not, ◌&&◌, nat_le, List, length}
use Rattle.std.specs.List.{list_all}
use Rattle.tree_core.specs.declared.node.Node.{Node}
use Rattle.tree_core.specs.declared.node.Node.TheVariants.{Dir, Link, File}

-- the target of a link has 1 to 4,095 bytes, none of them NUL
abbrev pub is_target : List ℕ → Bool
is_target target = nat_le 1 (length target) && nat_le (length target) 4095 && list_all (λ b. not (b == 0)) target

-- a lawful mode, target and number
abbrev pub is_lawful : Node → Bool
is_lawful (Dir mode) = nat_le mode 0o7777
is_lawful (Link target) = is_target target
is_lawful (File number bytes mode) = nat_le mode 0o7777 && nat_le number 9223372036854775807
