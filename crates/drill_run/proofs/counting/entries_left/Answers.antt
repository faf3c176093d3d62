use Rattle.std.proofs.Common.{ℕ, [], pos, ◌∙◌, ap, List, length}
use Rattle.std.specs.Str.{chars}
use Rattle.std.proofs.lemmas.Str.{chars-nil}
use Rattle.find_words.specs.Words.{words_of}
use Rattle.tree_core.specs.History.{current_tree}
use Rattle.listing_text.specs.declared.line.Line.{Line}
use Rattle.find_words.specs.Expressions.{Expression}
use Rattle.find_listing.specs.Finds.{lines_found}
use Rattle.drill_run.proofs.LeftLemmas.{all_found, of_nothing}
use Rattle.drill_run.proofs.counting.entries_left.Goals as goal

pub returns-clause-left : goal.returns-clause-left
returns-clause-left g c =
    let told = c.requires.told in
    let t = current_tree (g.T.Tree.history c.args.tree.now) in
    let all = of_nothing (words_of (chars [])) c.in-Ok.everything (ap (λ (cs : List ℕ). (words_of cs).whole) chars-nil) c.in-Ok.ensures in
    c.in_ok-small.ensures ∙ ap (λ (ls : List Line). length ls) c.as_slice.ensures.value
    ∙ ap (λ (ls : List Line). length ls) (c.in_ok-lines.ensures.lines told)
    ∙ ap (λ (e : Expression). length (lines_found t (g.T.Tree.fields c.args.tree.now) (pos 0) e)) all
    ∙ all_found t (g.T.Tree.fields c.args.tree.now) (pos 0) c.requires.short
