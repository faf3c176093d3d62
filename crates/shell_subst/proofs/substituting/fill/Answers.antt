use Rattle.std.proofs.Common.{◌≡◌, ◌++◌, sym, rules, flat_map}
use Rattle.std.specs.String.{string_bytes}
use Rattle.shell_subst.specs.Commands.{filled, put}
use Rattle.shell_subst.specs.Scan.{token_pieces}
use Rattle.shell_subst.proofs.ScanLemmas.{filled-past, put-char}
use Rattle.shell_subst.proofs.substituting.fill.Goals as goal

pub loop-token-preserved-in-Continue-1 : goal.loop-token-preserved-in-Continue-1
loop-token-preserved-in-Continue-1 c =
    let shown = c.args.shown.now in
    let next : string_bytes c.loop-token.command ++ flat_map (put shown) (token_pieces c.in-Some.token) ≡ string_bytes c.push.new.self =
    rw (c.in-Char.is, put-char shown c.in-Char.c) (sym c.in_ok-push-in-Char.ensures.bytes) in (
      search rules,
      rw (← next, c.is_blank-after_blank.ensures) (filled-past shown (filled shown c.args.text.now) (string_bytes c.loop-token.command) c.loop-token.rest.now c.in-Some.later.now c.loop-token.after_blank c.in-Some.token c.loop-token.invariant.1 c.in-Some.ensures),
    )
