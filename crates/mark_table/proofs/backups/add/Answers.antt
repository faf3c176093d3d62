use Rattle.std.proofs.Common.{◌∙◌}
use Rattle.dired_text.specs.Paths.{joined}
use Rattle.mark_table.proofs.RowLemmas.{added}
use Rattle.mark_table.proofs.backups.add.Goals as goal

pub returns : goal.returns
returns c =
    added c.args.backups.now c.insert.new.self (joined c.args.path.now) c.as_bytes-bytes.result.now c.in_ok-stem.stem c.in-Some.len c.in-Some.number c.args.path.now c.in_ok-copy.field-0
    (c.as_bytes-bytes.ensures.value ∙ c.as_str.ensures ∙ c.in_ok-text.ensures) c.in-Some.ensures.value c.in_ok-stem.ensures c.in_ok-copy.ensures c.in_ok-insert.ensures.updates
