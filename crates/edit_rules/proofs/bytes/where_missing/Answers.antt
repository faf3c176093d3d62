use Rattle.std.proofs.Common.{rules, ◌≡◌, ◌<◌, length, option_map}
use Rattle.edit_rules.proofs.StandingLemmas.{missing_step}
use Rattle.edit_rules.proofs.bytes.where_missing.Goals as goal

pub loop-at-preserved : goal.loop-at-preserved
loop-at-preserved c =
    let within : c.loop-at.at < length c.args.above.now = search rules in
    missing_step (option_map (λ f. f.now)) c.args.path.now c.args.above.now c.loop-at.at _ c.requires within c.loop-at.missing.items _ _ c.in_ok-add_missing.ensures c.loop-at.invariant
