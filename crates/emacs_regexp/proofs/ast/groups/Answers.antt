use Rattle.std.proofs.Common.{◌≡◌, count_by, ap, sym, ◌∙◌, arith}
use Rattle.emacs_regexp.specs.Trees.{group_count, is_numbered_open}
use Rattle.emacs_regexp.proofs.CountLemmas.{count_by-tokens_of}
use Rattle.emacs_regexp.proofs.ast.groups.Goals as goal

pub returns-then-count : goal.returns-then-count
returns-then-count c =
    let count : c.numbered-count.result ≡ group_count c.args.ast.now = c.numbered-count.ensures ∙ ap (count_by is_numbered_open) (sym c.tokens.ensures.written) ∙ count_by-tokens_of c.args.ast.now in
    omega arith

pub returns : goal.returns
returns c =
    let count : c.numbered-count.result ≡ group_count c.args.ast.now = c.numbered-count.ensures ∙ ap (count_by is_numbered_open) (sym c.tokens.ensures.written) ∙ count_by-tokens_of c.args.ast.now in
    omega arith
