use Rattle.std.proofs.Common.{rules, ◌≡◌, Some, cond, ap, ◌∙◌}
use Rattle.dired_text.specs.Paths.{Names}
use Rattle.path_map.specs.Walks.{value_at}
use Rattle.edit_rules.specs.declared.claims.Claim.{Claim}
use Rattle.edit_words.specs.Rows.{is_same_path}
use Rattle.edit_rules.specs.Claims.{claimed_by}
use Rattle.edit_words.proofs.SameLemmas.{put_at}
use Rattle.edit_rules.proofs.claims.PathClaims.note.Goals as goal

pub returns-clause-noted : goal.returns-clause-noted
returns-clause-noted c p =
    let old = c.args.self.now.claims in
    let path = c.args.path.now in
    let claim : c.claimed-claim.result ≡ claimed_by c.args.line c.args.line (value_at old path) = search rules in
    c.in_ok-set.ensures.set p
    ∙ ap (λ (v : Claim). cond (is_same_path path p) (Some v) (value_at old p)) claim
    ∙ put_at path p (λ (q : Names). Some (claimed_by c.args.line c.args.line (value_at old q))) (value_at old p)
