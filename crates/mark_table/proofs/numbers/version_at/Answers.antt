use Rattle.std.proofs.Common.{sym, ap, ◌∙◌}
use Rattle.mark_table.specs.Versions.{number_in}
use Rattle.mark_table.proofs.NumberLemmas.{scan_finds, scan_goes_on, to_the_end}
use Rattle.mark_table.proofs.numbers.version_at.Goals as goal

pub returns-in-Some-clause-value : goal.returns-in-Some-clause-value
returns-in-Some-clause-value c =
    sym (scan_finds c.args.text.now c.loop-at.at c.in-Some.number c.loop-at-test.true c.loop-at.invariant (ap number_in (sym (to_the_end c.args.text.now c.loop-at.at)) ∙ sym c.in-Some.ensures))

pub loop-at-preserved : goal.loop-at-preserved
loop-at-preserved c =
    scan_goes_on c.args.text.now c.loop-at.at c.loop-at-test.true c.loop-at.invariant (ap number_in (sym (to_the_end c.args.text.now c.loop-at.at)) ∙ sym c.number_in.ensures ∙ c.in_default.is)
