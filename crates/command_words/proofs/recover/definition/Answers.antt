use Rattle.std.proofs.Common.{◌≡◌, ◌∙◌, ap, codes}
use Rattle.std.proofs.lemmas.Result.{IfOk-weaker}
use Rattle.clap.specs.Words.{App, app_of, with_rule}
use Rattle.command_words.specs.Commands.{recover_app, named_flag}
use Rattle.command_words.proofs.recover.definition.Goals as goal

pub returns : goal.returns
returns c =
    IfOk-weaker c.with_named_flag.result _ (λ m. app_of m ≡ recover_app) (λ m is. is ∙ ap (λ (a : App). with_rule a (named_flag (codes "back"))) c.plain.ensures) c.with_named_flag.ensures
