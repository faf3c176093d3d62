use Rattle.std.proofs.Common.{rules, ◌≡◌, ◌<◌, Some, length, option_map, take, ◌∙◌, ap, sym}
use Rattle.dired_text.specs.Paths.{Names}
use Rattle.edit_words.specs.declared.fault.CheckFault.TheVariants as faults
use Rattle.edit_rules.proofs.StandingLemmas.{other_flagged, other_passed}
use Rattle.edit_rules.proofs.rules.no_directory.Goals as goal

pub returns-then-is_other : goal.returns-then-is_other
returns-then-is_other c =
    let path = c.args.path.now in
    let at = c.loop-at.at in
    let within : at < length c.args.above.now = search rules in
    let other : c.in_ok-other.other ≡ take at path = search rules in
    ap (λ (q : Names). Some (faults.ParentNotDirectory c.args.row.now.line q)) other
    ∙ ap (option_map (faults.ParentNotDirectory c.args.row.now.line))
    (other_flagged (option_map (λ f. f.now)) path c.args.above.now at _ c.requires within (sym c.is_other.ensures ∙ c.if-is_other.true) ∙ c.loop-at.invariant)

pub loop-at-preserved : goal.loop-at-preserved
loop-at-preserved c =
    let at = c.loop-at.at in
    let within : at < length c.args.above.now = search rules in
    other_passed (option_map (λ f. f.now)) c.args.path.now c.args.above.now at _ c.requires within (sym c.is_other.ensures ∙ c.if-is_other.false) ∙ c.loop-at.invariant
