use Rattle.std.proofs.Common.{rules, ◌≤◌, take}
use Rattle.dired_text.specs.Paths.{path_bytes}
use Rattle.step_looks.proofs.ParentLemmas.{first_is_short}
use Rattle.step_looks.proofs.parent_paths.parent.Goals as goal

pub unreachable-requires : goal.unreachable-requires
unreachable-requires c =
    let short : path_bytes (take c.saturating_sub.result c.args.path.now) ≤ path_bytes c.args.path.now = first_is_short c.saturating_sub.result c.args.path.now in
    search (rules, short)
