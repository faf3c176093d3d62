use Rattle.std.proofs.Common.{rules, ◌≡◌, ◌++◌, ◌∷◌, [], true, Bool, cond, is_some, length, is_none, option_map, Option, Some, None, refl, sym, ◌∙◌, ap}
use Rattle.dired_text.proofs.PathLemmas.{path_decides}
use Rattle.path_map.specs.Walks.{value_at}
use Rattle.step_layers.proofs.SoundLemmas.{sound_more}
use Rattle.step_layers.proofs.layering.Layering.number.Goals as goal

none_of : {X : Type 0} (o : Option X) → is_none o ≡ true → o ≡ None
none_of None e = refl
none_of (Some x) e = cc

pub returns-in_ok-push-2-clause-sound : goal.returns-in_ok-push-2-clause-sound
returns-in_ok-push-2-clause-sound c =
    let old = c.args.self.now in
    let path = c.args.path.now in
    let no_number : is_none c.get.result ≡ true = search rules in
    let none : value_at old.numbers path ≡ None = sym c.get.ensures ∙ ap (option_map (λ v. v.now)) (none_of c.get.result no_number) in
    let count : c.len.result ≡ length old.at.items = search rules in
    let at_is : c.push.new.self.items ≡ old.at.items ++ 0 ∷ [] = search rules in
    let under_is : c.push-then-is_none.new.self.items ≡ old.under.items ++ 0 ∷ [] = search rules in
    sound_more old _ path c.requires.sound none c.requires.none c.in_ok-set.ensures.map (rw (sym count) c.in_ok-set.ensures.set) at_is under_is refl

pub returns-in_ok-push-2-clause-numbered : goal.returns-in_ok-push-2-clause-numbered
returns-in_ok-push-2-clause-numbered c =
    ap is_some (c.in_ok-set.ensures.set c.args.path.now ∙ ap (λ (b : Bool). cond b (Some c.len.result) (value_at c.args.self.now.numbers c.args.path.now)) ((path_decides c.args.path.now c.args.path.now).1 refl))
