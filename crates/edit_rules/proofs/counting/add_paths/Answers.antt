use Rattle.std.proofs.Common.{rules, ◌≡◌, ◌+◌, ◌++◌, [], ◌∷◌, List, take, append_assoc, ◌∙◌, sym, ap, subst}
use Rattle.std.proofs.lemmas.List.{take_more}
use Rattle.dired_text.specs.Paths.{Names}
use Rattle.edit_rules.specs.PathSets.{HasPaths}
use Rattle.edit_rules.proofs.CountLemmas.{has_pushed}
use Rattle.edit_rules.proofs.counting.add_paths.Goals as goal

pub loop-path-preserved : goal.loop-path-preserved
loop-path-preserved c ps has =
    let at = c.loop-path.path-index in
    let path = c.path-item.result in
    let key = c.in_ok-copy.field-0 in
    let more = c.args.more.now in
    let new = c.in_ok-insert.ensures in
    let copied : key ≡ path = search rules in
    let next : take (at + 1) more ≡ take at more ++ path ∷ [] = take_more more at path c.loop-path-test.true ∙ ap (λ (p : Names). take at more ++ p ∷ []) (sym c.path-item.is) in
    let pushed : HasPaths c.insert.new.self ((ps ++ take at more) ++ key ∷ []) =
    has_pushed c.loop-path.paths c.insert.new.self key c.in_ok-insert.field-0 (ps ++ take at more) new.updates.0 new.added new.len (c.loop-path.invariant ps has)
    in
    let same : (ps ++ take at more) ++ key ∷ [] ≡ ps ++ take (at + 1) more =
    append_assoc ps (take at more) (key ∷ []) ∙ ap (λ (l : List Names). ps ++ l) (ap (λ (p : Names). take at more ++ p ∷ []) copied ∙ sym next)
    in
    subst (HasPaths c.insert.new.self) same pushed
