use Rattle.std.proofs.Common.{◌≡◌, ◌∙◌, ap, codes}
use Rattle.std.proofs.lemmas.Result.{IfOk-weaker}
use Rattle.clap.specs.Words.{App, app_of, with_rule}
use Rattle.command_words.specs.Commands.{drill_app, one_word}
use Rattle.command_words.proofs.drill.definition.Goals as goal

pub returns : goal.returns
returns c =
    IfOk-weaker c.with_word.result _ (λ m. app_of m ≡ drill_app) (λ m is. is ∙ ap (λ (a : App). with_rule a (one_word (codes "N"))) c.plain.ensures) c.with_word.ensures
