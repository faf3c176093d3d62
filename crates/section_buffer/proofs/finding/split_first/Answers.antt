use Rattle.std.proofs.Common.{◌≡◌, ◌≢◌, ◌<◌, ℕ, List, ◌∷◌, ◌++◌, length, get_or, All, Option, Some, None, MatchOption, arith}
use Rattle.std.proofs.lemmas.List.Elements.{All-from_get_or}
use Rattle.std.proofs.lemmas.Str.Pattern.{split_parts}
use denote.Ref.{Bor}
use Rattle.dired_text.specs.Paths.{slash}
use Rattle.section_buffer.proofs.finding.split_first.Goals as goal

-- what std says of `split_once`, by elements
parts_all : (c : ℕ) (bs : List ℕ) (r : Option (Bor (List ℕ) × Bor (List ℕ))) → MatchOption r ((i : ℕ) → i < length bs → get_or bs i 0 ≢ c) (λ x. (bs ≡ x.0.now ++ (c ∷ x.1.now)) × ((i : ℕ) → i < length x.0.now → get_or x.0.now i 0 ≢ c)) → MatchOption r (All (λ b. b ≢ c) bs) (λ x. (bs ≡ x.0.now ++ c ∷ x.1.now) × (All (λ b. b ≢ c) x.0.now))
parts_all c bs None h = All-from_get_or (λ b. b ≢ c) bs 0 h
parts_all c bs (Some x) h = (h.0, All-from_get_or (λ b. b ≢ c) x.0.now 0 h.1)

pub returns : goal.returns
returns c = parts_all slash c.args.text.now c.split_once.result (split_parts slash c.args.text.now c.split_once.result c.split_once.ensures.cases (omega arith))
