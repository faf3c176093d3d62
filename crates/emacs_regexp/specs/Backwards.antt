-- Tokens spelled from the last one on, so that a repeat is met before what it repeats.
use Rattle.std.specs.Prelude.{ℕ, zero, suc, ◌+◌, List, [], ◌∷◌, ◌++◌, codes, reverse}
use Rattle.emacs_regexp.specs.declared.spelling.Spelled.{Spelled}
use Rattle.emacs_regexp.specs.declared.token.Token.{Token}
use Rattle.emacs_regexp.specs.declared.token.Token.TheVariants.{Atom as one, Repeat, Open, Close, Or}
use Rattle.emacs_regexp.specs.Spelling.{spelled_atom, spelled_quantifier, open_text}

-- what is spelled, how many repeats are put on the item before it, and on each group that is open, the innermost first
pub record State : Type 0 where
  pub text : List ℕ
  pub repeats : ℕ
  pub outer : List ℕ

-- the state of the code
abbrev pub state_of : Spelled → State
state_of spelled = record { text = spelled.backwards; repeats = spelled.repeats; outer = reverse spelled.outer.items }

-- so many groups without a number begin
abbrev pub fronts : ℕ → List ℕ
fronts zero = []
fronts (suc n) = codes "(?:" ++ fronts n

-- an item is complete: the groups that its repeats are put on begin
abbrev pub with_fronts : State → State
with_fronts state = record { text = fronts state.repeats ++ state.text; repeats = 0; outer = state.outer }

-- the repeats of the group that begins, and the groups round it
abbrev pub opened : List ℕ → List ℕ → State
opened text [] = record { text = text; repeats = 0; outer = [] }
opened text (repeats ∷ outer) = record { text = text; repeats = repeats; outer = outer }

-- one token more, before what is spelled
abbrev pub with_token : Token → State → State
with_token (one atom) state = with_fronts (record { text = spelled_atom atom ++ state.text; repeats = state.repeats; outer = state.outer })
with_token (Repeat quantifier) state =
    record { text = codes ")" ++ (spelled_quantifier quantifier ++ state.text); repeats = state.repeats + 1; outer = state.outer }
with_token (Open is_numbered) state = with_fronts (opened (open_text is_numbered ++ state.text) state.outer)
with_token Close state = record { text = codes ")" ++ state.text; repeats = 0; outer = state.repeats ∷ state.outer }
with_token Or state = record { text = codes "|" ++ state.text; repeats = state.repeats; outer = state.outer }
