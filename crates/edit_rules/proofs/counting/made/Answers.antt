use Rattle.std.proofs.Common.{◌≤◌, List, arith, length, take}
use Rattle.std.specs.List.{flat_map}
use Rattle.dired_text.specs.Paths.{Names}
use Rattle.edit_words.specs.Counting.{different}
use Rattle.edit_words.specs.Found.{sight_in}
use Rattle.edit_words.specs.Refusals.{missing_above}
use Rattle.edit_rules.proofs.CountLemmas.{different_few}
use Rattle.edit_rules.proofs.counting.made.Goals as goal

pub overflow_cast-result : goal.overflow_cast-result
overflow_cast-result c =
    let missing : List Names = flat_map (missing_above (sight_in c.args.findings.now)) (take c.loop-row.row-index c.args.rows.now) in
    let few : different missing ≤ length missing = different_few missing in
    omega (arith, few, c.loop-row.invariant.paths.len)
