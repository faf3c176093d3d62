use Rattle.std.proofs.Common.{◌≡◌, ◌&&◌, inl, inr, sym, ◌∙◌, arith, rules}
use Rattle.shell_subst.specs.Commands.{is_blank_next}
use Rattle.shell_subst.proofs.ScanLemmas.{char-stays}
use Rattle.shell_subst.proofs.scanning.next_token.Goals as goal
use Rattle.shell_subst.proofs.scanning.next_token.Goals.{then-after_blank, else-after_blank, in_default-via-in-42+else-is_alone, in_default-via-in-63+else-is_alone-2, in_default-via-in_default-1}

pub returns-in_default : goal.returns-in_default
returns-in_default c =
    let alone : c.if-after_blank.is_alone ≡ (c.args.after_blank && is_blank_next c.in_ok-c.later.now) = elim c.if-after_blank.branch [
      | then-after_blank w ↦ search rules
      | else-after_blank w ↦ search rules
    ] in
    let stays = char-stays c.args.after_blank c.in_ok-c.c c.args.text.now c.in_ok-c.later.now (c.in_ok-c.ensures).0 in (
      elim c.in_default.branch [
        | in_default-via-in-42+else-is_alone w ↦ stays (inl (sym alone ∙ w.if-is_alone.false)) (inr (λ e. omega arith)) (λ e. omega arith)
        | in_default-via-in-63+else-is_alone-2 w ↦ stays (inr (λ e. omega arith)) (inl (sym alone ∙ w.if-is_alone-2.false)) (λ e. omega arith)
        | in_default-via-in_default-1 w ↦ stays (inr (λ e. omega arith)) (inr (λ e. omega arith)) (λ e. omega arith)
      ],
      (c.in_ok-c.ensures).1,
    )
