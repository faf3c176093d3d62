use Rattle.std.proofs.Common.{◌≡◌, ◌+◌, ◌∙◌, ap, sym, rules, List, [], ◌++◌, length, get_or, false}
use Rattle.name_patterns.specs.declared.patterns.Piece.{Piece}
use Rattle.name_patterns.specs.Patterns.{matches}
use Rattle.name_patterns.proofs.RowLemmas.{length-row_of, row-whole, none_left}
use Rattle.name_patterns.proofs.matching.matches.Goals as goal

pub row_before-requires : goal.row_before-requires
row_before-requires c =
    let inv = c.loop-piece.invariant in
    let is : length c.loop-piece.row.items ≡ length c.args.name.now + 1 = ap length inv.2 ∙ length-row_of inv.0 c.args.name.now in
    search (rules, is)

pub at-requires : goal.at-requires
at-requires c =
    let inv = c.loop-piece.invariant in
    let is : length c.loop-piece.row.items ≡ length c.args.name.now + 1 = ap length inv.2 ∙ length-row_of inv.0 c.args.name.now in
    search (rules, is)

pub returns : goal.returns
returns c =
    let inv = c.loop-piece.invariant in
    let name = c.args.name.now in
    let zero : length c.loop-piece.rest.now ≡ 0 = search rules in
    let none : c.loop-piece.rest.now ≡ [] = none_left c.loop-piece.rest.now zero in
    let pattern : c.args.pattern.now ≡ inv.0 = inv.1 ∙ ap (λ (l : List Piece). l ++ inv.0) none in
    let item : c.at.result ≡ get_or c.loop-piece.row.items (length name) false = search rules in
    item ∙ ap (λ xs. get_or xs (length name) false) inv.2 ∙ row-whole inv.0 name ∙ ap (λ ps. matches ps name) (sym pattern)
