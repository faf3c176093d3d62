-- The rules by which names are omitted.
use Rattle.omit_rules.specs.declared.omitter.Omitter.{Omitter}
use Rattle.omit_rules.specs.declared.rules.Rules.{Rules}

abbrev pub rules_of : Omitter → Rules
rules_of omitter = omitter.rules.now
