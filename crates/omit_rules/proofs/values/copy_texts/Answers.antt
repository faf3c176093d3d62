use Rattle.std.proofs.Common.{None, sym, ◌∙◌}
use Rattle.std.proofs.lemmas.List.{append-nil}
use Rattle.omit_rules.proofs.ValueLemmas.{texts-more}
use Rattle.omit_rules.proofs.values.copy_texts.Goals as goal
use Rattle.omit_rules.proofs.values.copy_texts.Goals.{in-Some+in_ok-copy_of+in_ok-push, in_default}

pub loop-value-preserved : goal.loop-value-preserved
loop-value-preserved c =
    let texts = c.loop-value.texts.items in
    elim c.match-as_str.branch [
      | in-Some+in_ok-copy_of+in_ok-push w ↦ rw (w.texts-is, w.in_ok-push.ensures.items, w.in_ok-copy_of.ensures) (texts-more c.args.values.now c.loop-value.value-index c.value-item.result texts _ c.loop-value-test.true c.loop-value.invariant c.value-item.is (rw w.in-Some.is at c.as_str.ensures))
      | in_default w ↦ rw w.texts-is (sym (append-nil texts) ∙ texts-more c.args.values.now c.loop-value.value-index c.value-item.result texts None c.loop-value-test.true c.loop-value.invariant c.value-item.is (rw w.in_default.is at c.as_str.ensures))
    ]
