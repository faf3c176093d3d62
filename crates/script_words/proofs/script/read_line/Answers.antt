use Rattle.std.proofs.Common.{◌≡◌, ℕ, List, Result, Ok, sym, subst, inr, rules}
use Rattle.dired_text.specs.Answers.{IsOrMemory}
use Rattle.script_words.specs.Lines.{text_of}
use Rattle.script_words.specs.declared.fault.ScriptFault.{ScriptFault}
use Rattle.script_words.specs.declared.fault.ScriptFault.TheVariants.{Memory}
use Rattle.script_words.proofs.TextLemmas.{text-is, text-bad}
use Rattle.script_words.proofs.script.read_line.Goals as goal

pub returns-in-Ok : goal.returns-in-Ok
returns-in-Ok c =
    let same : Ok c.in-Ok.text.now ≡ text_of c.args.number c.args.line.now =
    text-is c.args.number c.args.line.now c.in-Ok.text.now (search rules) c.in-Ok.ensures.cases.0 in
    let P : Result (List ℕ) ScriptFault → Type 0 = λ o. IsOrMemory Memory o c.copy.result in
    subst P same c.copy.ensures

pub returns-in-Err : goal.returns-in-Err
returns-in-Err c = inr (sym (text-bad c.args.number c.args.line.now c.in-Err.ensures.cases.0))
