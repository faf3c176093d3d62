use Rattle.std.proofs.Common.{◌≡◌, ℕ, ◌+◌, ◌<◌, List, length, max, map, get_or, Option, option_map, drop, ap, sym, ◌∙◌, arith}
use Rattle.std.proofs.lemmas.List.{drop_all, drop_more}
use denote.Bor.{Bor}
use Rattle.step_layers.specs.Floors.{floor_at, highest_of}
use Rattle.step_layers.proofs.floors.highest.Goals as goal

higher : (floors : List ℕ) (numbers : List (Option (Bor ℕ))) (k : ℕ) (d : Option (Bor ℕ)) (top next : ℕ) → k < length numbers → next ≡ max (floor_at floors (option_map (λ n. n.now) (get_or numbers k d))) top
    → max next (highest_of floors (map (option_map (λ n. n.now)) (drop (k + 1) numbers))) ≡ max top (highest_of floors (map (option_map (λ n. n.now)) (drop k numbers)))
higher floors numbers k d top next within is =
    let whole = ap (λ ns. max top (highest_of floors (map (option_map (λ n. n.now)) ns))) (drop_more numbers k d within) in
    omega (arith, is, whole)

pub loop-number-preserved : goal.loop-number-preserved
loop-number-preserved c =
    higher c.args.floors.now c.args.numbers.now c.loop-number.number-index _ c.loop-number.top c.max-top.result c.loop-number-test.true (c.max-top.ensures ∙ ap (λ n. max n c.loop-number.top) c.floor_at.ensures)
    ∙ c.loop-number.invariant

pub returns : goal.returns
returns c =
    let numbers = c.args.numbers.now in
    let floors = c.args.floors.now in
    let done = drop_all c.loop-number.number-index numbers c.loop-number-test.false in
    let whole = ap (λ ns. max c.loop-number.top (highest_of floors (map (option_map (λ n. n.now)) ns))) (sym done) ∙ c.loop-number.invariant in
    omega (arith, whole)
