-- Spelling from the last token on spells the tree.
use Rattle.std.proofs.Common.{◌≡◌, ℕ, zero, suc, ◌+◌, List, [], ◌∷◌, ◌++◌, refl, ap, sym, ◌∙◌, arith, append_assoc, length}
use Rattle.std.specs.Prelude.{codes}
use Rattle.std.proofs.lemmas.List.{append-nil}
use Rattle.emacs_regexp.specs.declared.token.Token.{Token}
use Rattle.emacs_regexp.specs.declared.token.Token.TheVariants.{Repeat, Open, Close, Or}
use Rattle.emacs_regexp.specs.Backwards.{State, with_token, fronts}
use Rattle.emacs_regexp.specs.Spelling.{spelled, spelled_quantifier}
use Rattle.emacs_regexp.specs.Trees.{Tree, Empty, One, Then, Either, Repeated, Group, Sort, Item, Sequence, Regexp, IsTree, Writes, tokens_of}

abbrev pub none_spelled : State
none_spelled = record { text = []; repeats = 0; outer = [] }

-- tokens before what is spelled, the last one first
abbrev pub all_spelled : List Token → State → State
all_spelled [] state = state
all_spelled (token ∷ tokens) state = with_token token (all_spelled tokens state)

pub all_spelled-append : (xs ys : List Token) (state : State) → all_spelled (xs ++ ys) state ≡ all_spelled xs (all_spelled ys state)
all_spelled-append [] ys state = refl
all_spelled-append (x ∷ xs) ys state = ap (with_token x) (all_spelled-append xs ys state)

-- what a tree becomes: an item takes the repeats that are put on it, and nothing is put on the others
abbrev Spells : Sort → Tree → Type 0
Spells Item tree = (text : List ℕ) (repeats : ℕ) (outer : List ℕ) →
    all_spelled (tokens_of tree) (record { text = text; repeats = repeats; outer = outer })
    ≡ record { text = fronts repeats ++ (spelled tree ++ text); repeats = 0; outer = outer }
Spells Sequence tree = (text : List ℕ) (outer : List ℕ) →
    all_spelled (tokens_of tree) (record { text = text; repeats = 0; outer = outer })
    ≡ record { text = spelled tree ++ text; repeats = 0; outer = outer }
Spells Regexp tree = (text : List ℕ) (outer : List ℕ) →
    all_spelled (tokens_of tree) (record { text = text; repeats = 0; outer = outer })
    ≡ record { text = spelled tree ++ text; repeats = 0; outer = outer }

-- one more repeat begins one more group, the innermost
fronts-suc : (repeats : ℕ) (text : List ℕ) → fronts (suc repeats) ++ text ≡ fronts repeats ++ (codes "(?:" ++ text)
fronts-suc zero text = refl
fronts-suc (suc repeats) text = ap (λ l. codes "(?:" ++ l) (fronts-suc repeats text)

fronts-one_more : (repeats : ℕ) (text : List ℕ) → fronts (repeats + 1) ++ text ≡ fronts repeats ++ (codes "(?:" ++ text)
fronts-one_more repeats text =
    let more : repeats + 1 ≡ suc repeats = omega arith in ap (λ n. fronts n ++ text) more ∙ fronts-suc repeats text

two : (first second : List Token) (state : State) (middle : State) (end : State) →
    all_spelled second state ≡ middle → all_spelled first middle ≡ end → all_spelled (first ++ second) state ≡ end
two first second state middle end p q = all_spelled-append first second state ∙ ap (all_spelled first) p ∙ q

abbrev at : List ℕ → ℕ → List ℕ → State
at text repeats outer = record { text = text; repeats = repeats; outer = outer }

spells : (sort : Sort) (tree : Tree) → IsTree sort tree → Spells sort tree
spells Item Empty ok = absurd (ok refl)
spells Sequence Empty ok = λ text outer. refl
spells Regexp Empty ok = λ text outer. refl
spells Item (One atom) ok = λ text repeats outer. refl
spells Sequence (One atom) ok = absurd (cc)
spells Regexp (One atom) ok = absurd (cc)
spells Item (Then first second) ok = absurd (ok.0 refl)
spells Sequence (Then first second) ok = λ text outer.
    two (tokens_of first) (tokens_of second) _ _ _ (spells Item second ok.2 text 0 outer) (spells Sequence first ok.1 (spelled second ++ text) outer)
    ∙ ap (λ l. at l 0 outer) (sym (append_assoc (spelled first) (spelled second) text))
spells Regexp (Then first second) ok = λ text outer.
    two (tokens_of first) (tokens_of second) _ _ _ (spells Item second ok.2 text 0 outer) (spells Sequence first ok.1 (spelled second ++ text) outer)
    ∙ ap (λ l. at l 0 outer) (sym (append_assoc (spelled first) (spelled second) text))
spells Item (Either first second) ok = absurd (cc (ok.0))
spells Sequence (Either first second) ok = absurd (cc (ok.0))
spells Regexp (Either first second) ok = λ text outer.
    two (tokens_of first) (Or ∷ tokens_of second) _ _ _ (ap (with_token Or) (spells Sequence second ok.2 text outer))
    (spells Regexp first ok.1 (codes "|" ++ (spelled second ++ text)) outer)
    ∙ ap (λ l. at l 0 outer) (simp append_assoc)
spells Item (Repeated tree quantifier) ok = λ text repeats outer.
    two (tokens_of tree) (Repeat quantifier ∷ []) _ _ _ refl
    (spells Item tree ok.1 (codes ")" ++ (spelled_quantifier quantifier ++ text)) (repeats + 1) outer)
    ∙ ap (λ l. at l 0 outer) (fronts-one_more repeats _ ∙ simp append_assoc)
spells Sequence (Repeated tree quantifier) ok = absurd (cc (ok.0))
spells Regexp (Repeated tree quantifier) ok = absurd (cc (ok.0))
spells Item (Group is_numbered tree) ok = λ text repeats outer.
    ap (with_token (Open is_numbered)) (two (tokens_of tree) (Close ∷ []) _ _ _ refl (spells Regexp tree ok.1 (codes ")" ++ text) (repeats ∷ outer)))
    ∙ ap (λ l. at l 0 outer) (simp append_assoc)
spells Sequence (Group is_numbered tree) ok = absurd (cc (ok.0))
spells Regexp (Group is_numbered tree) ok = absurd (cc (ok.0))

-- the tokens of a regexp are spelled as the regexp
pub all_spelled-writes : (tokens : List Token) (tree : Tree) → Writes tokens tree → all_spelled tokens none_spelled ≡ at (spelled tree) 0 []
all_spelled-writes tokens tree w =
    ap (λ l. all_spelled l none_spelled) (sym w.written) ∙ spells Regexp tree w.is_regexp [] [] ∙ ap (λ l. at l 0 []) (append-nil (spelled tree))

-- where nothing is left, what is spelled is the tree
pub text-spelled : (rest tokens : List Token) (state : State) (tree : Tree) →
    length rest ≡ 0 → all_spelled rest state ≡ all_spelled tokens none_spelled → Writes tokens tree → state.text ≡ spelled tree
text-spelled [] tokens state tree e all w = ap (λ s. s.text) (all ∙ all_spelled-writes tokens tree w)
text-spelled (token ∷ rest) tokens state tree e all w = absurd (omega arith)
