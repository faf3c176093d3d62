-- The tokens of a text stand in lawful places.
use Rattle.std.specs.Str.{chars}
use Rattle.std.specs.Prelude.{◌↔◌}
use Rattle.std.proofs.Common.{◌≡◌, subst, ◌<◌, ℕ, zero, suc, ◌+◌, ◌-◌, ◌==◌, Bool, true, false, List, [], ◌∷◌, refl, ap, sym, ◌∙◌, arith, Result, Ok, Err, if◌then◌else◌, ◌&&◌, drop}
use Rattle.emacs_regexp.specs.declared.fault.RegexpFault.{RegexpFault}
use Rattle.emacs_regexp.specs.declared.lexing.Before.{Before}
use Rattle.emacs_regexp.specs.declared.lexing.Before.TheVariants.{Start, Caret, Item}
use Rattle.emacs_regexp.specs.declared.reading.Nesting.{Nesting}
use Rattle.emacs_regexp.specs.declared.token.Member.{Member}
use Rattle.emacs_regexp.specs.declared.token.Token.{Token}
use Rattle.emacs_regexp.specs.declared.token.Token.TheVariants.{Atom as one, Repeat, Open, Close, Or}
use Rattle.std.specs.Prelude.{codes}
use Rattle.std.proofs.lemmas.Bool.{ne_eqb}
use Rattle.std.specs.List.{list_any}
use Rattle.emacs_regexp.specs.declared.fault.RegexpFault.TheVariants.{Unclosed, BadInterval, NotInProfile, TrailingBackslash}
use Rattle.emacs_regexp.specs.declared.token.Atom.TheVariants.{Any, LineBegin, LineEnd, TextBegin, TextEnd, Char, Word, NotWord, Boundary, NotBoundary}
use Rattle.emacs_regexp.specs.Intervals.{is_next, is_repeat as is_repeat_char}
use Rattle.emacs_regexp.specs.Reading.{tokens_from, tokens_read, as_regexp, regexp_of, IsRegexpOf, then_token, then_nested, with_token, nesting_behind, end_of, unnested}
use Rattle.emacs_regexp.specs.Sets.{members_from}
use Rattle.emacs_regexp.specs.Tokens.{Read, token_of, set_of, as_set, escape_of, open_of, interval_of, repeat_of, atom_of, is_start, is_item, is_end, before_behind}
use Rattle.emacs_regexp.specs.Trees.{Tree, Writes, tree_of}
use Rattle.emacs_regexp.proofs.TreeLemmas.{Follow, CanFollow, depth_behind, writes-tree_of, tree_of-tokens_of}

-- what is read is no repeat
abbrev is_repeat : Token → Bool
is_repeat (one atom) = false
is_repeat (Repeat quantifier) = true
is_repeat (Open is_numbered) = false
is_repeat Close = false
is_repeat Or = false

abbrev IsFree : Read → Type 0
IsFree (Ok (token, more)) = is_repeat token ≡ false
IsFree (Err fault) = Unit {0}

record NoRepeat (read : Read) : Type 0 where
  pub free : IsFree read

other : (token : Token) (more : ℕ) → is_repeat token ≡ false → NoRepeat (Ok (token, more))
other token more e = record { free = e }

refused : (fault : RegexpFault) → NoRepeat (Err fault)
refused fault = record { free = tt }

pick : (b : Bool) (x y : Read) → NoRepeat x → NoRepeat y → NoRepeat (if b then x else y)
pick true x y p q = p
pick false x y p q = q

set-no_repeat : (is_negated : Bool) (before : ℕ) (read : Result (List Member × ℕ) RegexpFault) → NoRepeat (as_set is_negated before read)
set-no_repeat is_negated before (Ok (members, more)) = other _ _ refl
set-no_repeat is_negated before (Err fault) = refused _

atom-no_repeat : (at c : ℕ) → NoRepeat (atom_of at c)
atom-no_repeat at c =
    pick (c == 119) _ _ (other (one Word) 1 refl) (pick (c == 87) _ _ (other (one NotWord) 1 refl)
    (pick (c == 98) _ _ (other (one Boundary) 1 refl) (pick (c == 66) _ _ (other (one NotBoundary) 1 refl)
    (pick (c == 96) _ _ (other (one TextBegin) 1 refl) (pick (c == 39) _ _ (other (one TextEnd) 1 refl)
    (pick (list_any (λ other. c == other) (codes "sScC<>_=0123456789")) _ _ (refused (NotInProfile at)) (other (one (Char c)) 1 refl)))))))

open-no_repeat : (at : ℕ) (rest : List ℕ) → NoRepeat (open_of at rest)
open-no_repeat at rest =
    pick (is_next 63 rest) _ _ (pick (is_next 58 (drop 1 rest)) _ _ (other (Open false) 3 refl) (refused (NotInProfile at))) (other (Open true) 1 refl)

escape-no_repeat : (before : Before) (at : ℕ) (rest : List ℕ) → is_item before ≡ false → NoRepeat (escape_of before at rest)
escape-no_repeat before at [] e = refused TrailingBackslash
escape-no_repeat before at (c ∷ rest) e =
    let interval : NoRepeat (interval_of before at rest) = rw e (refused (BadInterval at)) in
    pick (c == 40) _ _ (open-no_repeat at rest) (pick (c == 41) _ _ (other Close 1 refl) (pick (c == 124) _ _ (other Or 1 refl)
    (pick (c == 123) _ _ interval (pick (c == 125) _ _ (refused (BadInterval at)) (atom-no_repeat at c)))))

set_of-no_repeat : (at : ℕ) (rest : List ℕ) → NoRepeat (set_of at rest)
set_of-no_repeat at rest =
    pick (is_next 94 rest) _ _ (set-no_repeat true 1 (members_from at true (at + 2) 0 (drop 1 rest))) (set-no_repeat false 0 (members_from at true (at + 1) 0 rest))

last-no_repeat : (before : Before) (c : ℕ) (rest : List ℕ) → is_item before ≡ false →
    NoRepeat (if is_item before && is_repeat_char c then Ok (repeat_of c rest) else Ok (one (Char c), 0))
last-no_repeat before c rest e = rw e (other (one (Char c)) 0 refl)

token-no_repeat : (before : Before) (at c : ℕ) (rest : List ℕ) → is_item before ≡ false → NoRepeat (token_of before at c rest)
token-no_repeat before at c rest e =
    pick (c == 92) _ _ (escape-no_repeat before at rest e) (pick (c == 91) _ _ (set_of-no_repeat at rest)
    (pick (c == 46) _ _ (other (one Any) 0 refl) (pick (c == 94 && is_start before) _ _ (other (one LineBegin) 0 refl)
    (pick (c == 36 && is_end rest) _ _ (other (one LineEnd) 0 refl) (last-no_repeat before c rest e)))))

-- a repeat is read behind an item alone
abbrev RepeatsItem : Before → Read → Type 0
RepeatsItem before (Ok (token, more)) = is_repeat token ≡ true → before ≡ Item
RepeatsItem before (Err fault) = Unit {0}

weaker : (before : Before) (read : Read) → NoRepeat read → RepeatsItem before read
weaker before (Ok (token, more)) f = λ e. absurd (cc (e, f.free))
weaker before (Err fault) f = tt

item : (read : Read) → RepeatsItem Item read
item (Ok (token, more)) = λ e. refl
item (Err fault) = tt

repeats_item : (before : Before) (at c : ℕ) (rest : List ℕ) → RepeatsItem before (token_of before at c rest)
repeats_item Start at c rest = weaker Start _ (token-no_repeat Start at c rest refl)
repeats_item Caret at c rest = weaker Caret _ (token-no_repeat Caret at c rest refl)
repeats_item Item at c rest = item _

with_token-ok : (token : Token) (read : Result (List Token) RegexpFault) (tokens : List Token) → with_token token read ≡ Ok tokens →
    (later : List Token) × (tokens ≡ token ∷ later) × (read ≡ Ok later)
with_token-ok token (Ok later) tokens e = let is : tokens ≡ token ∷ later = cc in (later, is, refl)
with_token-ok token (Err fault) tokens e = absurd (cc)

then_nested-ok : (token : Token) (nested : Result Nesting RegexpFault) (rest : Nesting → Result (List Token) RegexpFault) (tokens : List Token) →
    then_nested token nested rest ≡ Ok tokens →
    (behind : Nesting) × (nested ≡ Ok behind) × ((later : List Token) × (tokens ≡ token ∷ later) × (rest behind ≡ Ok later))
then_nested-ok token (Ok behind) rest tokens e = (behind, refl, with_token-ok token (rest behind) tokens e)
then_nested-ok token (Err fault) rest tokens e = absurd (cc)

abbrev depth_of : Result Nesting RegexpFault → ℕ
depth_of (Ok nesting) = nesting.depth
depth_of (Err fault) = 0

close-depth : (at depth first : ℕ) (nested : Nesting) → nesting_behind at Close (record { depth = depth; first = first }) ≡ Ok nested →
    (0 < depth) × (depth_behind Close depth ≡ nested.depth)
close-depth at zero first nested e = absurd (cc)
close-depth at (suc depth) first nested e =
    let filled : (suc depth == 0) ≡ false = ne_eqb (suc depth) 0 (λ z. omega arith) in
    let less : suc depth - 1 ≡ nested.depth = ap depth_of (rw filled at e) in (omega arith, omega arith)

-- how deep the place behind a token is, and that the token can stand there
nested-depth : (at : ℕ) (token : Token) (nesting nested : Nesting) → nesting_behind at token nesting ≡ Ok nested →
    (before : Before) → (is_repeat token ≡ true → before ≡ Item) → CanFollow nesting.depth before token × (depth_behind token nesting.depth ≡ nested.depth)
nested-depth at (one atom) nesting nested e before r = (tt, let same : nesting ≡ nested = cc in ap (λ n. n.depth) same)
nested-depth at (Repeat quantifier) nesting nested e before r = (r refl, let same : nesting ≡ nested = cc in ap (λ n. n.depth) same)
nested-depth at (Open is_numbered) nesting nested e before r = (tt, let more : nesting.depth + 1 ≡ nested.depth = ap depth_of e in omega arith)
nested-depth at Close nesting nested e before r = close-depth at nesting.depth nesting.first nested e
nested-depth at Or nesting nested e before r = (tt, let same : nesting ≡ nested = cc in ap (λ n. n.depth) same)

follow-token : (nesting : Nesting) (before : Before) (at : ℕ) (read : Read) (rest : Nesting → Before → ℕ → Result (List Token) RegexpFault) (tokens : List Token) →
    RepeatsItem before read →
    ((nested : Nesting) (behind : Before) (more : ℕ) (later : List Token) → rest nested behind more ≡ Ok later → Follow nested.depth behind later) →
    then_token nesting at read rest ≡ Ok tokens → Follow nesting.depth before tokens
follow-token nesting before at (Err fault) rest tokens r f e = absurd (cc)
follow-token nesting before at (Ok (token, more)) rest tokens r f e =
    let parts = then_nested-ok token (nesting_behind at token nesting) (λ nested. rest nested (before_behind token) more) tokens e in
    let depth = nested-depth at token nesting parts.0 parts.1 before r in
    rw parts.2.1 (depth.0, rw depth.1 (f parts.0 (before_behind token) more parts.2.0 parts.2.2))

end-depth : (depth first : ℕ) (before : Before) (tokens : List Token) → end_of (record { depth = depth; first = first }) ≡ Ok tokens → Follow depth before tokens
end-depth zero first before tokens e = let is : tokens ≡ [] = cc in rw is refl
end-depth (suc depth) first before tokens e =
    let filled : (suc depth == 0) ≡ false = ne_eqb (suc depth) 0 (λ z. omega arith) in
    let refused : Err (Unclosed first) ≡ Ok tokens = rw filled at e in absurd (cc)

end-follow : (nesting : Nesting) (before : Before) (tokens : List Token) → end_of nesting ≡ Ok tokens → Follow nesting.depth before tokens
end-follow nesting before tokens e = end-depth nesting.depth nesting.first before tokens e

pub follow-read : (nesting : Nesting) (before : Before) (at more : ℕ) (cs : List ℕ) (tokens : List Token) →
    tokens_from nesting before at more cs ≡ Ok tokens → Follow nesting.depth before tokens
follow-read nesting before at more [] tokens e = end-follow nesting before tokens e
follow-read nesting before at (suc more) (c ∷ cs) tokens e = follow-read nesting before (at + 1) more cs tokens e
follow-read nesting before at zero (c ∷ cs) tokens e =
    follow-token nesting before at (token_of before at c cs) (λ nested behind more. tokens_from nested behind (at + 1) more cs) tokens
    (repeats_item before at c cs) (λ nested behind more later h. follow-read nested behind (at + 1) more cs later h) e

-- the tokens of a text write a regexp
pub read-writes : (text : List ℕ) (tokens : List Token) → tokens_read text ≡ Ok tokens → Writes tokens (tree_of tokens)
read-writes text tokens e = writes-tree_of tokens (follow-read unnested Start 0 0 text tokens e)

tree_of-writes : (tokens : List Token) (tree : Tree) → Writes tokens tree → tree_of tokens ≡ tree
tree_of-writes tokens tree w = ap tree_of (sym w.written) ∙ tree_of-tokens_of tree w.is_regexp

as_regexp-ok : (text : List ℕ) (read : Result (List Token) RegexpFault) (tree : Tree) →
    ((tokens : List Token) → read ≡ Ok tokens → Writes tokens (tree_of tokens)) → as_regexp text read ≡ Ok tree →
    (tokens : List Token) × (read ≡ Ok tokens) × Writes tokens tree
as_regexp-ok text (Ok tokens) tree w e =
    let is : tree_of tokens ≡ tree = cc in (tokens, refl, subst (Writes tokens) is (w tokens refl))
as_regexp-ok text (Err fault) tree w e = absurd (cc)

pub regexp-iff : (text : List ℕ) (tree : Tree) → (regexp_of text ≡ Ok tree) ↔ IsRegexpOf text tree
regexp-iff text tree = (
  (λ e. as_regexp-ok (chars text) (tokens_read (chars text)) tree (read-writes (chars text)) e),
  (λ w. ap (as_regexp (chars text)) w.1 ∙ ap Ok (tree_of-writes w.0 tree w.2)),
)
