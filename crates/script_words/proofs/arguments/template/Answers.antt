use Rattle.std.proofs.Common.{ℕ, rules, subst, Ok, Err}
use Rattle.dired_text.specs.Answers.{IsOrMemory}
use Rattle.script_words.specs.declared.fault.CommandFault.TheVariants.{Memory as memory, Bad}
use Rattle.script_words.specs.declared.fault.ScriptCause.TheVariants.{BadTo}
use Rattle.script_words.specs.Arguments as argument
use Rattle.script_words.proofs.arguments.template.Goals as goal

pub returns-in-Ok : goal.returns-in-Ok
returns-in-Ok c =
    subst (λ (n : ℕ). IsOrMemory memory (argument.template n c.args.line c.args.text.now) (Ok c.in-Ok.template)) c.groups.ensures (search rules)

pub returns-in-Err : goal.returns-in-Err
returns-in-Err c =
    subst (λ (n : ℕ). IsOrMemory memory (argument.template n c.args.line c.args.text.now) (Err (Bad c.args.line (BadTo c.in-Err.fault)))) c.groups.ensures (search rules)
