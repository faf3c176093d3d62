use Rattle.std.proofs.Common.{rules, ◌≡◌, ◌<◌, ◌+◌, ◌++◌, [], ◌∷◌, ℕ, List, get_or, length, map, option_map, option_and_then, take, ◌∙◌, sym, ap}
use Rattle.std.proofs.lemmas.List.{map-append, take_more}
use Rattle.dired_text.specs.Paths.{Names}
use Rattle.path_map.specs.Walks.{child, firsts, value_at, value_of, walk}
use Rattle.path_map.proofs.ListLemmas.{firsts_pushed}
use Rattle.path_map.proofs.WalkLemmas.{walk_next}
use Rattle.path_map.proofs.map.PathMap.along.Goals as goal

pub loop-name-preserved : goal.loop-name-preserved
loop-name-preserved g c =
    let path = c.args.path.now in
    let self = c.args.self.now in
    let below = self.below.items in
    let k = c.loop-name.name-index in
    let name = c.name-item.result in
    let found = c.value-found.result in
    let made : k < length path = search rules in
    let name_is : name ≡ get_or path k name = search rules in
    let next : c.child-at.result ≡ option_and_then (λ i. child below i name) c.loop-name.at = search rules in
    let at : c.child-at.result ≡ walk below 0 (take (k + 1) path) = next ∙ walk_next below path k name c.loop-name.at made name_is c.loop-name.invariant.at in
    let pushed : c.push-in-loop-name.new.self.items ≡ c.loop-name.values.items ++ found ∷ [] = search rules in
    let shown : option_map (λ v. v.now) found ≡ option_and_then (value_of self.values.items) c.child-at.result = search rules in
    let more : take (k + 1) path ≡ take k path ++ name ∷ [] = take_more path k name made ∙ ap (λ (n : List ℕ). take k path ++ n ∷ []) (sym name_is) in
    record {
      at = at;
      values =
          ap (map (option_map (λ v. v.now))) pushed
          ∙ map-append (option_map (λ v. v.now)) c.loop-name.values.items (found ∷ [])
          ∙ ap (λ o. map (option_map (λ v. v.now)) c.loop-name.values.items ++ o ∷ []) (shown ∙ ap (option_and_then (value_of self.values.items)) at)
          ∙ ap (λ l. l ++ value_at self (take (k + 1) path) ∷ []) c.loop-name.invariant.values
          ∙ ap (λ (q : Names). map (value_at self) (firsts (take k path)) ++ value_at self q ∷ []) more
          ∙ sym (map-append (value_at self) (firsts (take k path)) ((take k path ++ name ∷ []) ∷ []))
          ∙ sym (ap (map (value_at self)) (ap firsts more ∙ firsts_pushed (take k path) name));
    }
