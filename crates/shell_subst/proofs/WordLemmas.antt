-- What the shell reads in quoted names.
use Rattle.std.proofs.Common.{◌≡◌, ◌≢◌, inl, inr, ℕ, true, false, ◌==◌, List, [], ◌∷◌, ◌++◌, map, refl, sym, ◌∙◌, ap, subst, All, flat_map, Option, Some, None, append_assoc}
use Rattle.std.specs.List.{list_all}
use Rattle.std.specs.Option.{option_map}
use Rattle.std.proofs.lemmas.Bool.{cases_Bool, ne_eqb, eqb-true, and_parts}
use Rattle.std.proofs.lemmas.List.{append-nil}
use Rattle.std.proofs.lemmas.List.Elements.{All-head, All-tail}
use Rattle.std.proofs.lemmas.Option.{same_Some}
use Rattle.shell_subst.specs.Commands.{in_a_row}
use Rattle.shell_subst.specs.Quoting.{is_plain, argument, quote_mark, within_quotes, written, quoted}
use Rattle.shell_subst.specs.ShellWords.{Place, Between, Bare, Quoted, Escaped, ends_word, past, words_from, words, is_word_end}

-- a byte that isn't plain
not_plain : (b mark : ℕ) → is_plain mark ≡ false → is_plain b ≡ true → b ≢ mark
not_plain b mark other plain e = let no_byte : is_plain mark ≡ true = subst (λ (x : ℕ). is_plain x ≡ true) e plain in cc

-- a plain byte goes on with a word
plain-goes-on : (b : ℕ) → is_plain b ≡ true → ends_word b ≡ false
plain-goes-on b plain = rw (ne_eqb b 32 (not_plain b 32 refl plain), ne_eqb b 9 (not_plain b 9 refl plain), ne_eqb b 10 (not_plain b 10 refl plain)) refl

plain-past : (word : List ℕ) (b : ℕ) → is_plain b ≡ true → past word b ≡ Bare (word ++ b ∷ [])
plain-past word b plain = rw (ne_eqb b 39 (not_plain b 39 refl plain), ne_eqb b 92 (not_plain b 92 refl plain)) refl

plain-run : (word bs rest : List ℕ) → list_all is_plain bs ≡ true → words_from (Bare word) (bs ++ rest) ≡ words_from (Bare (word ++ bs)) rest
plain-run word [] rest plain = rw (append-nil word) refl
plain-run word (b ∷ bs) rest plain =
    let parts = and_parts (is_plain b) (list_all is_plain bs) plain in
    rw (plain-goes-on b parts.0, plain-past word b parts.0) (plain-run (word ++ b ∷ []) bs rest parts.1)
    ∙ ap (λ w. words_from (Bare w) rest) (append_assoc word (b ∷ []) bs)

-- from within quotes behind their end
quoted-run : (word bs rest : List ℕ) → words_from (Quoted word) (flat_map within_quotes bs ++ quote_mark ∷ rest) ≡ words_from (Bare (word ++ bs)) rest
quoted-run word [] rest = rw (append-nil word) refl
quoted-run word (b ∷ bs) rest = elim (cases_Bool (b == 39)) [
  | inl mark ↦
      let is : b ≡ 39 = eqb-true b 39 mark in
      rw is (quoted-run (word ++ 39 ∷ []) bs rest ∙ ap (λ w. words_from (Bare w) rest) (append_assoc word (39 ∷ []) bs))
  | inr other ↦ rw other (rw other (quoted-run (word ++ b ∷ []) bs rest) ∙ ap (λ w. words_from (Bare w) rest) (append_assoc word (b ∷ []) bs))
]

plain-word : (word rest : List ℕ) → word ≢ [] → list_all is_plain word ≡ true → words_from Between (word ++ rest) ≡ words_from (Bare word) rest
plain-word [] rest some plain = absurd (some refl)
plain-word (b ∷ bs) rest some plain =
    let parts = and_parts (is_plain b) (list_all is_plain bs) plain in
    rw (plain-goes-on b parts.0, plain-past [] b parts.0) (plain-run (b ∷ []) bs rest parts.1)

-- a written word is read as that word
written-word : (word rest : List ℕ) → word ≢ [] → words_from Between (written word ++ rest) ≡ words_from (Bare word) rest
written-word word rest some = elim (cases_Bool (list_all is_plain word)) [
  | inl plain ↦ rw plain (plain-word word rest some plain)
  | inr other ↦ rw (other, append_assoc (flat_map within_quotes word) (quote_mark ∷ []) rest) (quoted-run [] word rest)
]

argument-some : (name : List ℕ) → name ≢ [] → argument name ≢ []
argument-some [] some e = some refl
argument-some (b ∷ bs) some e = elim (cases_Bool (b == 45)) [
  | inl dash ↦ let front : 46 ∷ 47 ∷ b ∷ bs ≡ [] = rw dash at e in cc
  | inr other ↦ let same : b ∷ bs ≡ [] = rw other at e in cc
]

quoted-word : (name rest : List ℕ) → name ≢ [] → words_from Between (quoted name ++ rest) ≡ words_from (Bare (argument name)) rest
quoted-word name rest some = written-word (argument name) rest (argument-some name some)

pub one-word : (name : List ℕ) → name ≢ [] → words (quoted name) ≡ Some (argument name ∷ [])
one-word name some = ap words (sym (append-nil (quoted name))) ∙ quoted-word name [] some

rest-words : (word : List ℕ) (names : List (List ℕ)) → All (λ name. name ≢ []) names → words_from (Bare word) (flat_map (λ next. 32 ∷ quoted next) names) ≡ Some (word ∷ map argument names)
rest-words word [] some = refl
rest-words word (name ∷ names) some =
    ap (option_map (λ ws. word ∷ ws))
    (quoted-word name (flat_map (λ next. 32 ∷ quoted next) names) (All-head (λ (n : List ℕ). n ≢ []) name names some)
    ∙ rest-words (argument name) names (All-tail (λ (n : List ℕ). n ≢ []) name names some))

-- names in a row are their words
pub row-words : (names : List (List ℕ)) → All (λ name. name ≢ []) names → words (in_a_row names) ≡ Some (map argument names)
row-words [] some = refl
row-words (name ∷ names) some =
    quoted-word name (flat_map (λ next. 32 ∷ quoted next) names) (All-head (λ (n : List ℕ). n ≢ []) name names some)
    ∙ rest-words (argument name) names (All-tail (λ (n : List ℕ). n ≢ []) name names some)

map-nothing : (x : Option (List (List ℕ))) → x ≡ option_map (λ ws. [] ++ ws) x
map-nothing None = refl
map-nothing (Some ws) = refl

map-twice : (word : List ℕ) (first : List (List ℕ)) (x : Option (List (List ℕ))) → option_map (λ ws. word ∷ ws) (option_map (λ ws. first ++ ws) x) ≡ option_map (λ ws. (word ∷ first) ++ ws) x
map-twice word first None = refl
map-twice word first (Some ws) = refl

map-behind : (first : List (List ℕ)) (word : List ℕ) (x : Option (List (List ℕ))) → option_map (λ ws. first ++ ws) (option_map (λ ws. word ∷ ws) x) ≡ option_map (λ ws. first ++ word ∷ ws) x
map-behind first word None = refl
map-behind first word (Some ws) = refl

map-some : (word : List ℕ) (x : Option (List (List ℕ))) (ws : List (List ℕ)) → option_map (λ vs. word ∷ vs) x ≡ Some ws → (vs : List (List ℕ)) × (x ≡ Some vs) × (word ∷ vs ≡ ws)
map-some word None ws e = absurd (cc)
map-some word (Some vs) ws e = (vs, refl, same_Some (word ∷ vs) ws e)

-- behind a complete text and a byte that ends a word, reading begins anew
gap-run : (place : Place) (front : List ℕ) (gap : ℕ) (rest : List ℕ) (ws : List (List ℕ)) → ends_word gap ≡ true → words_from place front ≡ Some ws → words_from place (front ++ gap ∷ rest) ≡ option_map (λ vs. ws ++ vs) (words_from Between rest)
gap-run Between [] gap rest ws ends is =
    let none : [] ≡ ws = same_Some [] ws is in
    rw ends (map-nothing (words_from Between rest) ∙ ap (λ (us : List (List ℕ)). option_map (λ vs. us ++ vs) (words_from Between rest)) none)
gap-run Between (b ∷ bs) gap rest ws ends is = elim (cases_Bool (ends_word b)) [
  | inl gap_byte ↦ let more : words_from Between bs ≡ Some ws = rw gap_byte at is in rw gap_byte (gap-run Between bs gap rest ws ends more)
  | inr other ↦ let more : words_from (past [] b) bs ≡ Some ws = rw other at is in rw other (gap-run (past [] b) bs gap rest ws ends more)
]
gap-run (Bare word) [] gap rest ws ends is =
    let one : word ∷ [] ≡ ws = same_Some (word ∷ []) ws is in
    rw ends (ap (λ (us : List (List ℕ)). option_map (λ vs. us ++ vs) (words_from Between rest)) one)
gap-run (Bare word) (b ∷ bs) gap rest ws ends is = elim (cases_Bool (ends_word b)) [
  | inl gap_byte ↦
      let told : option_map (λ vs. word ∷ vs) (words_from Between bs) ≡ Some ws = rw gap_byte at is in
      let parts = map-some word (words_from Between bs) ws told in
      rw gap_byte
      (ap (option_map (λ vs. word ∷ vs)) (gap-run Between bs gap rest parts.0 ends parts.1)
      ∙ map-twice word parts.0 (words_from Between rest)
      ∙ ap (λ (us : List (List ℕ)). option_map (λ vs. us ++ vs) (words_from Between rest)) parts.2)
  | inr other ↦ let more : words_from (past word b) bs ≡ Some ws = rw other at is in rw other (gap-run (past word b) bs gap rest ws ends more)
]
gap-run (Quoted word) [] gap rest ws ends is = absurd (cc)
gap-run (Quoted word) (b ∷ bs) gap rest ws ends is = elim (cases_Bool (b == 39)) [
  | inl mark ↦ let more : words_from (Bare word) bs ≡ Some ws = rw mark at is in rw mark (gap-run (Bare word) bs gap rest ws ends more)
  | inr other ↦ let more : words_from (Quoted (word ++ b ∷ [])) bs ≡ Some ws = rw other at is in rw other (gap-run (Quoted (word ++ b ∷ [])) bs gap rest ws ends more)
]
gap-run (Escaped word) [] gap rest ws ends is = absurd (cc)
gap-run (Escaped word) (b ∷ bs) gap rest ws ends is = gap-run (Bare (word ++ b ∷ [])) bs gap rest ws ends is

word-end : (word after : List ℕ) → is_word_end after ≡ true → words_from (Bare word) after ≡ option_map (λ ws. word ∷ ws) (words after)
word-end word [] ends = refl
word-end word (b ∷ bs) ends = rw ends refl

-- a quoted name at the start of a text
pub word-first : (name after : List ℕ) → name ≢ [] → is_word_end after ≡ true → words (quoted name ++ after) ≡ option_map (λ ws. argument name ∷ ws) (words after)
word-first name after some ends = quoted-word name after some ∙ word-end (argument name) after ends

-- and behind other words
pub word-behind : (front name after : List ℕ) (gap : ℕ) (before : List (List ℕ)) → name ≢ [] → ends_word gap ≡ true → is_word_end after ≡ true → words front ≡ Some before → words (front ++ gap ∷ (quoted name ++ after)) ≡ option_map (λ ws. before ++ argument name ∷ ws) (words after)
word-behind front name after gap before some is_gap ends is =
    gap-run Between front gap (quoted name ++ after) before is_gap is
    ∙ ap (option_map (λ ws. before ++ ws)) (word-first name after some ends)
    ∙ map-behind before (argument name) (words after)
