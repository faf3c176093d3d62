-- The words that begin the commands of a script.
use Rattle.std.specs.Prelude.{ℕ, List, [], ◌∷◌, Option, Some, None, codes, if◌then◌else◌}
use Rattle.std.specs.Str.{bytes_eq}
use Rattle.script_words.specs.declared.word.PlainWord.TheVariants as plain
use Rattle.script_words.specs.declared.word.ArgumentWord.TheVariants as argued
use Rattle.script_words.specs.declared.word.Word.{Word}
use Rattle.script_words.specs.declared.word.Word.TheVariants.{Plain, Argument, Find}

abbrev pub words : List (List ℕ × Word)
words =
    (codes "at", Argument argued.At) ∷ (codes "m", Plain plain.Mark) ∷ (codes "d", Plain plain.Flag) ∷ (codes "u", Plain plain.Unmark)
    ∷ (codes "t", Plain plain.Toggle) ∷ (codes "U", Plain plain.UnmarkAll) ∷ (codes "* ?", Argument argued.UnmarkEach)
    ∷ (codes "* c", Argument argued.ReplaceMark) ∷ (codes "* N", Plain plain.CountMarked)
    ∷ (codes "* /", Plain plain.MarkDirectories) ∷ (codes "* @", Plain plain.MarkLinks)
    ∷ (codes "* *", Plain plain.MarkExecutables) ∷ (codes "* s", Plain plain.MarkSection)
    ∷ (codes "mark-extension", Argument argued.MarkEnding)
    ∷ (codes "~", Plain plain.FlagBackups) ∷ (codes "#", Plain plain.FlagAutoSaves) ∷ (codes ".", Plain plain.FlagExcess)
    ∷ (codes "% m", Argument argued.MarkNames) ∷ (codes "% d", Argument argued.FlagNames) ∷ (codes "% g", Argument argued.MarkBytes)
    ∷ (codes "% R", Argument argued.RenameBy) ∷ (codes "R", Argument argued.RenameTo) ∷ (codes "M", Argument argued.SetMode)
    ∷ (codes "x", Plain plain.Remove) ∷ (codes "i", Argument argued.Insert) ∷ (codes "kill-section", Argument argued.TakeOut)
    ∷ (codes "$", Argument argued.Turn) ∷ (codes "k", Plain plain.Kill) ∷ (codes "g", Plain plain.Relist)
    ∷ (codes "s", Argument argued.RelistWith) ∷ (codes "p", Plain plain.Print) ∷ (codes "omit", Plain plain.Omit)
    ∷ (codes "undo", Plain plain.Undo) ∷ (codes "find", Find) ∷ (codes "!", Argument argued.Shell)
    ∷ (codes "confirm", Argument argued.Confirm) ∷ (codes "confirm-all", Plain plain.ConfirmAll) ∷ (codes "edit", Argument argued.Edit) ∷ []

abbrev pub word_in : List (List ℕ × Word) → List ℕ → Option Word
word_in [] line = None
word_in (entry ∷ entries) line = if bytes_eq line entry.0 then Some entry.1 else word_in entries line

-- the word that is a whole line
abbrev pub word_of : List ℕ → Option Word
word_of line = word_in words line
