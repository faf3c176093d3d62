use Rattle.std.proofs.Common.{◌≡◌, ◌∙◌, ap, codes}
use Rattle.std.proofs.lemmas.Result.{IfOk-weaker}
use Rattle.clap.specs.Words.{App, app_of, with_rule}
use Rattle.command_words.specs.Commands.{list_app, flag_rule, more_words}
use Rattle.command_words.proofs.list.definition.Goals as goal

pub returns : goal.returns
returns c =
    let one = c.in_ok-command.ensures ∙ ap (λ (a : App). with_rule a (flag_rule (codes "all") 65)) c.plain.ensures in
    let two = c.in_ok-command-2.ensures ∙ ap (λ (a : App). with_rule a (flag_rule (codes "long") 108)) one in
    let three = c.in_ok-command-3.ensures ∙ ap (λ (a : App). with_rule a (flag_rule (codes "time") 116)) two in
    let four = c.in_ok-command-4.ensures ∙ ap (λ (a : App). with_rule a (flag_rule (codes "size") 83)) three in
    let five = c.in_ok-command-5.ensures ∙ ap (λ (a : App). with_rule a (flag_rule (codes "reverse") 114)) four in
    IfOk-weaker c.with_words.result _ (λ m. app_of m ≡ list_app) (λ m is. is ∙ ap (λ (a : App). with_rule a (more_words (codes "DIR"))) five) c.with_words.ensures
