use Rattle.std.proofs.Common.{◌≡◌, sym, subst, rules, true, false}
use Rattle.find_words.specs.declared.reading.Due.TheVariants.{Operator}
use Rattle.find_words.specs.Expressions.{Expression}
use Rattle.find_words.specs.Grammar.{Reads}
use Rattle.find_words.specs.Programs.{expression_of}
use Rattle.find_words.specs.Reading.{alternative}
use Rattle.find_words.specs.Refusals.{these}
use Rattle.find_words.specs.ReaderStates.{state_of}
use Rattle.find_words.proofs.EndLemmas.{early_unclosed, early_due, early_depth, ended, program_back, reads_back}
use Rattle.find_words.proofs.reading.end_at.Goals as goal

pub returns-then-not-is_closed : goal.returns-then-not-is_closed
returns-then-not-is_closed c =
    let open_quote : c.args.is_closed ≡ false = search rules in
    early_unclosed c.args.words.now c.args.is_closed (state_of c.args.reader) c.requires.taken open_quote

pub returns-then-ne : goal.returns-then-ne
returns-then-ne c =
    early_due c.args.words.now c.args.is_closed (state_of c.args.reader) c.requires.taken c.requires.some (λ due. search (rules, due))

pub returns-then-reader-gt0 : goal.returns-then-reader-gt0
returns-then-reader-gt0 c =
    early_depth c.args.words.now c.args.is_closed (state_of c.args.reader) c.requires.taken c.requires.some (λ none. search (rules, none))

pub end-requires : goal.end-requires
end-requires c =
    let words = c.args.words.now in
    let state = state_of c.args.reader in
    let due : c.args.reader.due ≡ Operator = search rules in
    let depth : c.args.reader.depth ≡ 0 = search rules in
    program_back words c.args.reader.builder (ended words state c.requires.taken due depth)

pub returns : goal.returns
returns c =
    let words = c.args.words.now in
    let state = state_of c.args.reader in
    let due : c.args.reader.due ≡ Operator = search rules in
    let depth : c.args.reader.depth ≡ 0 = search rules in
    let closed : c.args.is_closed ≡ true = search rules in
    subst (λ (e : Expression). Reads (these words c.args.is_closed) e) (sym c.in_ok-end.ensures)
    (subst (λ b. Reads (these words b) (expression_of (alternative c.args.reader.builder).0)) (sym closed) (reads_back words c.args.reader.builder (ended words state c.requires.taken due depth)))
