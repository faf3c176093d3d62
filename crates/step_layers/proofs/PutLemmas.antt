-- A step that is put into its layer.
use Rattle.std.proofs.Common.{◌≡◌, ℕ, zero, suc, ◌<◌, List, [], ◌∷◌, ◌++◌, length, get_or, set, refl, ap, arith}
use Rattle.commit_steps.specs.declared.step.Step.{Step}
use Rattle.step_layers.specs.Layers.{put}

pub put_in : (s : Step) (n : ℕ) (ls : List (List Step)) (d : List Step) → n < length ls → put n s ls ≡ set ls n (get_or ls n d ++ s ∷ [])
put_in s n [] d within = absurd (omega (arith, within))
put_in s zero (l ∷ ls) d within = refl
put_in s (suc n) (l ∷ ls) d within = ap (λ (x : List (List Step)). l ∷ x) (put_in s n ls d (omega (arith, within)))

-- an empty layer more
pub put_pad : (s : Step) (n : ℕ) (ls : List (List Step)) → n ≡ length ls → put n s (ls ++ [] ∷ []) ≡ put n s ls
put_pad s zero [] is = refl
put_pad s (suc n) [] is = absurd (omega (arith, is))
put_pad s zero (l ∷ ls) is = absurd (omega (arith, is))
put_pad s (suc n) (l ∷ ls) is = ap (λ (x : List (List Step)). l ∷ x) (put_pad s n ls (omega (arith, is)))
