-- Reading tokens, one after another.
use Rattle.std.proofs.Common.{◌≡◌, ◌≤◌, ℕ, zero, suc, ◌+◌, List, [], ◌∷◌, ◌++◌, length, drop, refl, ap, sym, ◌∙◌, arith, append_assoc, Result, Ok, Err}
use Rattle.std.proofs.Common.{inl, inr}
use Rattle.dired_text.specs.Answers.{IsOrMemory}
use Rattle.emacs_regexp.specs.declared.fault.RegexpFault.{RegexpFault}
use Rattle.emacs_regexp.specs.declared.lexing.Before.{Before}
use Rattle.emacs_regexp.specs.declared.reading.Nesting.{Nesting}
use Rattle.emacs_regexp.specs.declared.token.Token.{Token}
use Rattle.emacs_regexp.specs.Reading.{tokens_from, then_token, then_nested, with_token, nesting_behind}
use Rattle.emacs_regexp.specs.Tokens.{token_of, before_behind}

-- these tokens in front of others
abbrev pub behind_tokens : List Token → Result (List Token) RegexpFault → Result (List Token) RegexpFault
behind_tokens front (Ok tokens) = Ok (front ++ tokens)
behind_tokens front (Err fault) = Err fault

pub behind_none : (read : Result (List Token) RegexpFault) → behind_tokens [] read ≡ read
behind_none (Ok tokens) = refl
behind_none (Err fault) = refl

pub behind_one : (front : List Token) (token : Token) (read : Result (List Token) RegexpFault) →
    behind_tokens front (with_token token read) ≡ behind_tokens (front ++ token ∷ []) read
behind_one front token (Ok tokens) = ap Ok (simp append_assoc)
behind_one front token (Err fault) = refl

-- the characters that belong to the token before are passed over
pub tokens-past : (nesting : Nesting) (before : Before) (at more : ℕ) (cs : List ℕ) → more ≤ length cs →
    tokens_from nesting before at more cs ≡ tokens_from nesting before (at + more) 0 (drop more cs)
tokens-past nesting before at zero cs h = ap (λ n. tokens_from nesting before n 0 cs) (omega arith)
tokens-past nesting before at (suc more) [] h = absurd (omega arith)
tokens-past nesting before at (suc more) (c ∷ cs) h =
    tokens-past nesting before (at + 1) more cs (omega arith)
    ∙ ap (λ n. tokens_from nesting before n 0 (drop more cs)) (omega arith)

-- one token more
pub tokens-next : (nesting nested : Nesting) (before : Before) (at c : ℕ) (cs : List ℕ) (token : Token) (more : ℕ) →
    token_of before at c cs ≡ Ok (token, more) → nesting_behind at token nesting ≡ Ok nested → more ≤ length cs →
    tokens_from nesting before at 0 (c ∷ cs) ≡ with_token token (tokens_from nested (before_behind token) (at + 1 + more) 0 (drop more cs))
tokens-next nesting nested before at c cs token more e n within =
    ap (λ r. then_token nesting at r (λ nested behind more. tokens_from nested behind (at + 1) more cs)) e
    ∙ ap (λ r. then_nested token r (λ nested. tokens_from nested (before_behind token) (at + 1) more cs)) n
    ∙ ap (with_token token) (tokens-past nested (before_behind token) (at + 1) more cs within)

-- the same behind other tokens
pub behind-next : (nesting nested : Nesting) (before : Before) (at c : ℕ) (cs text : List ℕ) (front : List Token) (token : Token) (more : ℕ) →
    text ≡ c ∷ cs → token_of before at c cs ≡ Ok (token, more) → nesting_behind at token nesting ≡ Ok nested → more ≤ length cs →
    behind_tokens front (tokens_from nesting before at 0 text)
    ≡ behind_tokens (front ++ token ∷ []) (tokens_from nested (before_behind token) (at + 1 + more) 0 (drop more cs))
behind-next nesting nested before at c cs text front token more is e n within =
    rw is (
    ap (behind_tokens front) (tokens-next nesting nested before at c cs token more e n within)
    ∙ behind_one front token (tokens_from nested (before_behind token) (at + 1 + more) 0 (drop more cs))
    )

-- an answer that isn't for want of memory is the one that is wanted
pub wanted : {T E : Type 0} (memory : E) (answer : Result T E) (x : T) → IsOrMemory memory answer (Ok x) → answer ≡ Ok x
wanted memory answer x (inl e) = absurd (cc)
wanted memory answer x (inr e) = sym e
