use Rattle.std.proofs.Common.{◌≡◌, ◌∙◌, sym, ap, ◌+◌, Some, rules}
use Rattle.dired_text.specs.Modes.{read_letters}
use Rattle.dired_text.proofs.ModeLemmas.{mode_of_text, text_of_mode}
use Rattle.dired_text.proofs.modes.read_mode.Goals as goal

pub returns-in_ok-others-in-len9-clause-mode : goal.returns-in_ok-others-in-len9-clause-mode
returns-in_ok-others-in-len9-clause-mode c =
    let m = c.in_ok-user-in-len9.user + c.in_ok-group-in-len9.group + c.in_ok-others-in-len9.others in
    let read : read_letters c.args.text.now ≡ Some m = search rules in
    mode_of_text c.args.text.now m read

pub returns-in_ok-others-in-len9-clause-complete : goal.returns-in_ok-others-in-len9-clause-complete
returns-in_ok-others-in-len9-clause-complete c = λ n bound is.
    let m = c.in_ok-user-in-len9.user + c.in_ok-group-in-len9.group + c.in_ok-others-in-len9.others in
    let read : read_letters c.args.text.now ≡ Some m = search rules in
    sym read ∙ ap read_letters is ∙ text_of_mode n bound
