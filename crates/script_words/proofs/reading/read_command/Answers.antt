use Rattle.std.proofs.Common.{◌∙◌, sym, ap}
use Rattle.script_words.specs.Words.{word_of}
use Rattle.script_words.proofs.CommandLemmas.{no_word}
use Rattle.script_words.proofs.MarkLemmas.{word_has}
use Rattle.script_words.proofs.reading.read_command.Goals as goal

pub returns-in-Some-clause-marks : goal.returns-in-Some-clause-marks
returns-in-Some-clause-marks c = word_has c.args.script.now c.args.at _ c.read_word.result c.read_word.ensures

pub returns-in-None-clause-command : goal.returns-in-None-clause-command
returns-in-None-clause-command c =
    no_word c.args.script.now c.args.at (sym (c.word_of.ensures ∙ ap word_of c.line.ensures) ∙ c.in-None.is)
