-- What stands for the fields of a tree that tells nothing.
use Rattle.std.specs.Prelude.{[], pos}
use Rattle.tree_core.specs.declared.node.Kind.TheVariants as kind
use Rattle.tree_core.specs.declared.meta.Meta.{Meta}

abbrev pub no_fields : Meta
no_fields = record { kind = kind.Dir; mode = 0; links = 0; owner = []; group = []; size = 0; mtime = pos 0; number = 0; target = [] }
