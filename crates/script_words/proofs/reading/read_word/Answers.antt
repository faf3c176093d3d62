use Rattle.std.proofs.Common.{◌≡◌, ◌+◌, ◌<◌, ◌≤◌, ℕ, length, sym, subst, arith, Ok, Err}
use Rattle.script_words.specs.Commands.{IsRowRead, IsWordRead}
use Rattle.script_words.specs.Rows.{arguments_of}
use Rattle.script_words.specs.declared.fault.CommandFault.TheVariants.{Bad}
use Rattle.script_words.specs.declared.fault.ScriptCause.TheVariants.{MissingArgument}
use Rattle.script_words.proofs.CommandLemmas.{too_few, word_read}
use Rattle.script_words.proofs.reading.read_word.Goals as goal

pub returns-then-lines-last : goal.returns-then-lines-last
returns-then-lines-last c =
    let few : length c.args.script.now < c.args.at + arguments_of c.args.word = omega arith in
    subst (λ (n : ℕ). IsWordRead c.args.script.now c.args.at c.args.word (Err (Bad (n + 1) MissingArgument))) (sym c.lines-lines.ensures.count) (too_few c.args.script.now c.args.at c.args.word few)

pub returns-in-Ok : goal.returns-in-Ok
returns-in-Ok c =
    let within : c.args.at + arguments_of c.args.word ≤ length c.args.script.now = omega arith in
    let read : IsRowRead c.args.script.now c.args.at c.args.word (Ok c.in-Ok.asked) = c.in-Ok.ensures in
    subst (λ (n : ℕ). IsWordRead c.args.script.now c.args.at c.args.word (Ok (c.in-Ok.asked, c.args.at + n + 1))) (sym c.arguments.ensures.count) (word_read c.args.script.now c.args.at c.args.word (Ok c.in-Ok.asked) within read)

pub returns-in-Err : goal.returns-in-Err
returns-in-Err c =
    let within : c.args.at + arguments_of c.args.word ≤ length c.args.script.now = omega arith in
    let read : IsRowRead c.args.script.now c.args.at c.args.word (Err c.in-Err.fault) = c.in-Err.ensures in
    word_read c.args.script.now c.args.at c.args.word (Err c.in-Err.fault) within read
