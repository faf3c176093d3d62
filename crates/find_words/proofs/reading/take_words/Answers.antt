use Rattle.std.proofs.Common.{◌≡◌, ◌+◌, ◌∙◌, sym, ap, rules, arith, List, ℕ, [], ◌∷◌, ◌++◌, suc, length, length-append, append_assoc, true, false}
use Rattle.find_words.specs.ReaderStates.{state_of}
use Rattle.find_words.proofs.EndLemmas.{more_taken, not_taken, goes_true, goes_false}
use Rattle.find_words.proofs.reading.take_words.Goals as goal

pub returns-then-not-branch : goal.returns-then-not-branch
returns-then-not-branch c =
    let inv = c.loop-word.invariant in
    let word = c.in-Some.word.now in
    let later = c.in-Some.later.now in
    let no : c.in_ok-take.field-0 ≡ false = search rules in
    let words_are : c.args.words.now ≡ inv.0 ++ word ∷ later = inv.1 ∙ ap (λ (l : List (List ℕ)). inv.0 ++ l) c.in-Some.ensures.cases.0 in
    let count : length c.args.words.now ≡ length inv.0 + suc (length later) = ap length words_are ∙ length-append inv.0 (word ∷ later) in record {
      front = inv.0;
      word = word;
      later = later;
      state = state_of c.loop-word.reader;
      words_are = words_are;
      place = omega (arith, count);
      takes = inv.2;
      stops = not_taken inv.0 word (state_of c.loop-word.reader) inv.2 (goes_false c.in_ok-take.field-0 word c.as_slice.result.now (state_of c.loop-word.reader) (state_of c.take.new.self) no c.as_slice.ensures c.in_ok-take.ensures.goes);
    }

pub loop-word-preserved : goal.loop-word-preserved
loop-word-preserved c =
    let inv = c.loop-word.invariant in
    let word = c.in-Some.word.now in
    let later = c.in-Some.later.now in
    let goes : c.in_ok-take.field-0 ≡ true = search rules in (
      inv.0 ++ word ∷ [],
      inv.1 ∙ ap (λ (l : List (List ℕ)). inv.0 ++ l) c.in-Some.ensures.cases.0 ∙ sym (append_assoc inv.0 (word ∷ []) later),
      more_taken inv.0 word (state_of c.loop-word.reader) (state_of c.take.new.self) inv.2 (goes_true c.in_ok-take.field-0 word c.as_slice.result.now (state_of c.loop-word.reader) (state_of c.take.new.self) goes c.as_slice.ensures c.in_ok-take.ensures.goes),
      omega (arith, inv.3, c.in_ok-take.ensures.depth, length-append inv.0 (word ∷ [])),
    )
