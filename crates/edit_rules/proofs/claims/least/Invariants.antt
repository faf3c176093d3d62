use Rattle.std.proofs.Common.{◌≡◌, None, drop, option_map}
use Rattle.edit_rules.specs.Claims.{first_line, least_line}
use Rattle.edit_rules.proofs.claims.least.Given as goal

abbrev pub invariant-loop-claim : goal.invariant-loop-claim
invariant-loop-claim l = least_line (λ claim. first_line (option_map (λ c. c.now) claim)) l.least (drop l.claim-index l.claims) ≡ least_line (λ claim. first_line (option_map (λ c. c.now) claim)) None l.claims
