use Rattle.std.proofs.Common.{◌≡◌, ◌∷◌, [], arith, eqb}
use Rattle.std.proofs.lemmas.Bool.{and_left, and_right, ne_eqb}
use Rattle.dired_text.specs.Escape.{spelled}
use Rattle.dired_text.proofs.EscapeLemmas.{flat_map-plain, spelled-plain}
use Rattle.dired_text.proofs.escaping.push_escaped.Goals as goal
use Rattle.dired_text.proofs.escaping.push_escaped.Goals.{in_default-via-in-62+else-in_link, in_default-via-in_default+else-c-lt32}

pub returns-in_ok-push-in_default : goal.returns-in_ok-push-in_default
returns-in_ok-push-in_default c =
    let plain : spelled c.args.in_link c.args.c ≡ c.args.c ∷ [] = elim c.in_default.branch [
      | in_default-via-in-62+else-in_link w ↦ spelled-plain c.args.in_link c.args.c (omega arith) (λ e. omega arith) (λ e. omega arith) (and_left c.args.in_link (eqb c.args.c 62) w.if-in_link.false)
      | in_default-via-in_default+else-c-lt32 w ↦ spelled-plain c.args.in_link c.args.c (omega arith) (λ e. omega arith) (λ e. omega arith) (and_right c.args.in_link (eqb c.args.c 62) (ne_eqb c.args.c 62 (λ e. omega arith)))
    ] in
    rw (flat_map-plain c.args.in_link c.args.c plain) c.in_ok-push-in_default.ensures.bytes
