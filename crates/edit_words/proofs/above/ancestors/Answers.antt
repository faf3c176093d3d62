use Rattle.std.proofs.Common.{rules, ◌≡◌, ◌≤◌, ◌<◌, ◌++◌, ◌+◌, [], ◌∷◌, length, take}
use Rattle.std.proofs.lemmas.List.{take_all}
use Rattle.edit_words.specs.Place.{ancestors}
use Rattle.edit_words.proofs.AncestorLemmas.{next_ancestor, ancestors_counted}
use Rattle.edit_words.proofs.above.ancestors.Goals as goal

pub loop-len-preserved : goal.loop-len-preserved
loop-len-preserved c =
    let within : c.loop-len.len < length c.args.path.now = search rules in
    let next : take (c.loop-len.len + 1) (ancestors c.args.path.now) ≡ take c.loop-len.len (ancestors c.args.path.now) ++ take c.loop-len.len c.args.path.now ∷ [] = next_ancestor c.loop-len.len c.args.path.now within in
    search (rules, next)

pub returns : goal.returns
returns c =
    let ended : length (ancestors c.args.path.now) ≤ c.loop-len.len = let counted : length (ancestors c.args.path.now) ≡ length c.args.path.now = ancestors_counted c.args.path.now in search (rules, counted) in
    let all : take c.loop-len.len (ancestors c.args.path.now) ≡ ancestors c.args.path.now = take_all c.loop-len.len (ancestors c.args.path.now) ended in
    search (rules, all)
