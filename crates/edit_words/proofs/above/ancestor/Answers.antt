use Rattle.std.proofs.Common.{rules, ◌≤◌, take}
use Rattle.dired_text.specs.Paths.{path_bytes}
use Rattle.edit_words.proofs.AncestorLemmas.{ancestor_is_short}
use Rattle.edit_words.proofs.above.ancestor.Goals as goal

pub unreachable-requires : goal.unreachable-requires
unreachable-requires c =
    let short : path_bytes (take c.args.len c.args.path.now) ≤ path_bytes c.args.path.now = ancestor_is_short c.args.len c.args.path.now in
    search (rules, short)
