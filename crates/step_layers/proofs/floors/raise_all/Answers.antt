use Rattle.std.proofs.Common.{◌≡◌, ℕ, ◌+◌, ◌<◌, List, length, map, get_or, Option, option_map, drop, ap, sym, ◌∙◌}
use Rattle.std.proofs.lemmas.List.{drop_all, drop_more}
use denote.Bor.{Bor}
use Rattle.step_layers.specs.Floors.{raised_all, raised_at}
use Rattle.step_layers.proofs.floors.raise_all.Goals as goal

raised_more : (floor : ℕ) (numbers : List (Option (Bor ℕ))) (k : ℕ) (d : Option (Bor ℕ)) (floors next : List ℕ) → k < length numbers → next ≡ raised_at floor (option_map (λ n. n.now) (get_or numbers k d)) floors
    → raised_all floor (map (option_map (λ n. n.now)) (drop (k + 1) numbers)) next ≡ raised_all floor (map (option_map (λ n. n.now)) (drop k numbers)) floors
raised_more floor numbers k d floors next within is =
    ap (raised_all floor (map (option_map (λ n. n.now)) (drop (k + 1) numbers))) is
    ∙ ap (λ ns. raised_all floor (map (option_map (λ n. n.now)) ns) floors) (sym (drop_more numbers k d within))

pub loop-number-preserved : goal.loop-number-preserved
loop-number-preserved c =
    raised_more c.args.floor c.args.numbers.now c.loop-number.number-index _ c.loop-number.floors c.raise.new.floors c.loop-number-test.true c.raise.ensures
    ∙ c.loop-number.invariant

pub returns : goal.returns
returns c =
    let numbers = c.args.numbers.now in
    ap (λ ns. raised_all c.args.floor (map (option_map (λ n. n.now)) ns) c.loop-number.floors) (sym (drop_all c.loop-number.number-index numbers c.loop-number-test.false))
    ∙ c.loop-number.invariant
