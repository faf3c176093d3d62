use Rattle.std.proofs.Common.{◌≡◌, ◌∙◌, ap, codes}
use Rattle.std.proofs.lemmas.Result.{IfOk-weaker}
use Rattle.clap.specs.Words.{App, app_of, with_rule}
use Rattle.command_words.specs.Commands.{commit_app, named_flag, one_word, more_words}
use Rattle.command_words.proofs.commit.definition.Goals as goal

pub returns : goal.returns
returns c =
    let one = c.in_ok-command.ensures ∙ ap (λ (a : App). with_rule a (named_flag (codes "all"))) c.plain.ensures in
    let two = c.in_ok-command-2.ensures ∙ ap (λ (a : App). with_rule a (one_word (codes "BEFORE"))) one in
    let three = c.in_ok-command-3.ensures ∙ ap (λ (a : App). with_rule a (one_word (codes "AFTER"))) two in
    IfOk-weaker c.with_words.result _ (λ m. app_of m ≡ commit_app) (λ m is. is ∙ ap (λ (a : App). with_rule a (more_words (codes "CONFIRMED"))) three) c.with_words.ensures
