-- One word more: what is read stays what the grammar writes.
use Rattle.std.proofs.Common.{◌≡◌, ◌⊎◌, inl, inr, ◌∙◌, refl, sym, ap, subst, arith, ℕ, zero, suc, Bool, true, false, List, [], ◌∷◌, ◌++◌, Option, Some, None, codes, append_assoc, append-nil}
use Rattle.std.specs.Str.{bytes_eq}
use Rattle.std.proofs.lemmas.Bool.{cases_Bool}
use Rattle.std.proofs.lemmas.Option.{same_Some}
use Rattle.std.proofs.lemmas.Slice.Eq.{bytes_eq-Decides}
use Rattle.find_words.specs.declared.arguments.Primary.{Primary as Beginning}
use Rattle.find_words.specs.declared.arguments.Primary.TheVariants as primary
use Rattle.find_words.specs.declared.arguments.Symbol.{Symbol}
use Rattle.find_words.specs.declared.arguments.Symbol.TheVariants as symbol
use Rattle.find_words.specs.declared.building.Pending.TheVariants.{Open, Not, And, Or}
use Rattle.find_words.specs.declared.conditions.Condition.{Condition}
use Rattle.find_words.specs.declared.reading.Due.{Due}
use Rattle.find_words.specs.declared.reading.Due.TheVariants.{Operand, Operator, Argument}
use Rattle.find_words.specs.Arguments.{symbol_in, symbols, symbol_of, condition_of}
use Rattle.find_words.specs.Grammar.{Primary, words_of, joint}
use Rattle.find_words.specs.Reading.{Built, State, waiting, alternative, tested, begun, gone_on, group_closed, argued, behind_word}
use Rattle.find_words.proofs.LayerLemmas.{InGroup, InNot, InBoth, InEither, Before, Behind, completed, alternated, left, words_in}

-- ---- words of the table

abbrev pub text_of : Symbol → List ℕ
text_of symbol.Open = codes "("
text_of symbol.Close = codes ")"
text_of symbol.Not = codes "!"
text_of symbol.And = codes "-a"
text_of symbol.Or = codes "-o"
text_of (symbol.Begins primary.Name) = codes "-name"
text_of (symbol.Begins primary.Kind) = codes "-type"
text_of (symbol.Begins primary.Size) = codes "-size"
text_of (symbol.Begins primary.Days) = codes "-mtime"
text_of (symbol.Begins primary.Mode) = codes "-perm"
text_of (symbol.Begins primary.Links) = codes "-links"
text_of symbol.Unknown = []

abbrev pub AreTexts : List (List ℕ × Symbol) → Type 0
AreTexts [] = Unit {0}
AreTexts (entry ∷ entries) = (text_of entry.1 ≡ entry.0) × AreTexts entries

in_table : (entries : List (List ℕ × Symbol)) (word : List ℕ) → AreTexts entries → (symbol_in entries word ≡ symbol.Unknown) ⊎ (word ≡ text_of (symbol_in entries word))
in_table [] word are = inl refl
in_table (entry ∷ entries) word are = elim (cases_Bool (bytes_eq word entry.0)) [
  | inl same ↦ inr (rw same ((bytes_eq-Decides word entry.0).0 same ∙ sym are.0))
  | inr other ↦ rw other (in_table entries word are.1)
]

-- a word that is known is that of its symbol
pub symbol_text : (word : List ℕ) (s : Symbol) → symbol_of word ≡ s → (s ≡ symbol.Unknown → ⊥) → word ≡ text_of s
symbol_text word s is known = elim (in_table symbols word (refl, (refl, (refl, (refl, (refl, (refl, (refl, (refl, (refl, (refl, (refl, tt)))))))))))) [
  | inl unknown ↦ absurd (known (sym is ∙ unknown))
  | inr same ↦ same ∙ ap text_of is
]

-- ---- what is read

-- the word that begins a condition was taken
pub record Argued (beginning : Beginning) (words : List (List ℕ)) (depth : ℕ) (built : Built) : Type 0 where
  pub front : List (List ℕ)
  pub word : List ℕ
  pub words_are : words ≡ front ++ word ∷ []
  pub begins : symbol_of word ≡ symbol.Begins beginning
  pub before : Before front depth built

abbrev pub IsAt : Due → List (List ℕ) → ℕ → Built → Type 0
IsAt Operand words depth built = Before words depth built
IsAt Operator words depth built = Behind 1 words depth built
IsAt (Argument beginning) words depth built = Argued beginning words depth built

abbrev pub IsIn : List (List ℕ) → State → Type 0
IsIn words state = IsAt state.due words state.depth state.built

-- something waits
opened : (words : List (List ℕ)) (depth : ℕ) (built : Built) → Before words depth built → Before (words ++ codes "(" ∷ []) (suc depth) (waiting Open built)
opened words depth built b = record { layers = InGroup ∷ b.layers; are = b.are; words_are = ap (λ (l : List (List ℕ)). l ++ codes "(" ∷ []) b.words_are; depth_is = ap suc b.depth_is; built_is = ap (waiting Open) b.built_is }

negated : (words : List (List ℕ)) (depth : ℕ) (built : Built) → Before words depth built → Before (words ++ codes "!" ∷ []) depth (waiting Not built)
negated words depth built b = record { layers = InNot ∷ b.layers; are = b.are; words_are = ap (λ (l : List (List ℕ)). l ++ codes "!" ∷ []) b.words_are; depth_is = b.depth_is; built_is = ap (waiting Not) b.built_is }

joined : (has_joint : Bool) (words : List (List ℕ)) (depth : ℕ) (built : Built) → Behind 1 words depth built → Before (words ++ joint has_joint) depth (waiting And built)
joined has_joint words depth built b = record {
  layers = InBoth b.last has_joint ∷ b.layers;
  are = (b.tight, b.is_syntax, b.loose, b.are);
  words_are = ap (λ (l : List (List ℕ)). l ++ joint has_joint) b.words_are ∙ append_assoc (words_in b.layers) (words_of b.last) (joint has_joint);
  depth_is = b.depth_is;
  built_is = ap (waiting And) b.built_is;
}

next_to : (words : List (List ℕ)) (depth : ℕ) (built : Built) → Behind 1 words depth built → Before words depth (waiting And built)
next_to words depth built b = subst (λ (l : List (List ℕ)). Before l depth (waiting And built)) (append-nil words) (joined false words depth built b)

either : (words : List (List ℕ)) (depth : ℕ) (built : Built) → Behind 1 words depth built → Before (words ++ codes "-o" ∷ []) depth (waiting Or (alternative built))
either words depth built b =
    let a = alternated words depth built b in record {
      layers = InEither a.last ∷ a.layers;
      are = (a.is_syntax, a.loose, a.are);
      words_are = ap (λ (l : List (List ℕ)). l ++ codes "-o" ∷ []) a.words_are ∙ append_assoc (words_in a.layers) (words_of a.last) (codes "-o" ∷ []);
      depth_is = a.depth_is;
      built_is = ap (waiting Or) a.built_is;
    }

tried : (beginning : Beginning) (words : List (List ℕ)) (argument : List ℕ) (condition : Condition) (depth : ℕ) (built : Built) → Argued beginning words depth built → condition_of beginning argument ≡ Some condition → Behind 1 (words ++ argument ∷ []) depth (tested condition built)
tried beginning words argument condition depth built a is =
    let b = a.before in
    let r = completed b.layers (Primary a.word argument condition) b.are (beginning, a.begins, is) (omega arith) in record {
      layers = r.layers;
      last = r.last;
      are = r.are;
      is_syntax = r.is_syntax;
      tight = r.tight;
      loose = r.loose;
      words_are = ap (λ (l : List (List ℕ)). l ++ argument ∷ []) (a.words_are ∙ ap (λ (l : List (List ℕ)). l ++ a.word ∷ []) b.words_are) ∙ append_assoc (words_in b.layers) (a.word ∷ []) (argument ∷ []) ∙ r.words_are;
      depth_is = b.depth_is ∙ r.depth_is;
      built_is = ap (tested condition) b.built_is ∙ r.built_is;
    }

-- ---- one word more

same_state : (words : List (List ℕ)) (state other : State) → Some state ≡ Some other → IsIn words state → IsIn words other
same_state words state other e is = subst (IsIn words) (same_Some state other e) is

put : (words : List (List ℕ)) (word text : List ℕ) (state : State) → word ≡ text → IsIn (words ++ text ∷ []) state → IsIn (words ++ word ∷ []) state
put words word text state is held = subst (λ (w : List ℕ). IsIn (words ++ w ∷ []) state) (sym is) held

pub begun_in : (s : Symbol) (words : List (List ℕ)) (word : List ℕ) (depth : ℕ) (built : Built) (state : State) → symbol_of word ≡ s → Before words depth built → begun s depth built ≡ Some state → IsIn (words ++ word ∷ []) state
begun_in symbol.Open words word depth built state is b e =
    put words word (codes "(") state (symbol_text word symbol.Open is (λ no. cc)) (same_state (words ++ codes "(" ∷ []) _ state e (opened words depth built b))
begun_in symbol.Not words word depth built state is b e =
    put words word (codes "!") state (symbol_text word symbol.Not is (λ no. cc)) (same_state (words ++ codes "!" ∷ []) _ state e (negated words depth built b))
begun_in (symbol.Begins beginning) words word depth built state is b e =
    same_state (words ++ word ∷ []) _ state e (record { front = words; word = word; words_are = refl; begins = is; before = b })
begun_in symbol.Close words word depth built state is b e = absurd (cc)
begun_in symbol.And words word depth built state is b e = absurd (cc)
begun_in symbol.Or words word depth built state is b e = absurd (cc)
begun_in symbol.Unknown words word depth built state is b e = absurd (cc)

closed_in : (words : List (List ℕ)) (depth : ℕ) (built : Built) (state : State) → Behind 1 words depth built → group_closed depth built ≡ Some state → IsIn (words ++ codes ")" ∷ []) state
closed_in words zero built state b e = absurd (cc)
closed_in words (suc depth) built state b e = same_state (words ++ codes ")" ∷ []) _ state e (left words depth built b)

gone_on_in : (s : Symbol) (words : List (List ℕ)) (word : List ℕ) (depth : ℕ) (built : Built) (state : State) → symbol_of word ≡ s → Behind 1 words depth built → gone_on s depth built ≡ Some state → IsIn (words ++ word ∷ []) state
gone_on_in symbol.And words word depth built state is b e =
    put words word (codes "-a") state (symbol_text word symbol.And is (λ no. cc)) (same_state (words ++ codes "-a" ∷ []) _ state e (joined true words depth built b))
gone_on_in symbol.Or words word depth built state is b e =
    put words word (codes "-o") state (symbol_text word symbol.Or is (λ no. cc)) (same_state (words ++ codes "-o" ∷ []) _ state e (either words depth built b))
gone_on_in symbol.Close words word depth built state is b e =
    put words word (codes ")") state (symbol_text word symbol.Close is (λ no. cc)) (closed_in words depth built state b e)
gone_on_in symbol.Open words word depth built state is b e = begun_in symbol.Open words word depth (waiting And built) state is (next_to words depth built b) e
gone_on_in symbol.Not words word depth built state is b e = begun_in symbol.Not words word depth (waiting And built) state is (next_to words depth built b) e
gone_on_in (symbol.Begins beginning) words word depth built state is b e = begun_in (symbol.Begins beginning) words word depth (waiting And built) state is (next_to words depth built b) e
gone_on_in symbol.Unknown words word depth built state is b e = absurd (cc)

argued_in : (found : Option Condition) (beginning : Beginning) (words : List (List ℕ)) (word : List ℕ) (depth : ℕ) (built : Built) (state : State) → condition_of beginning word ≡ found → Argued beginning words depth built → argued found depth built ≡ Some state → IsIn (words ++ word ∷ []) state
argued_in None beginning words word depth built state is a e = absurd (cc)
argued_in (Some condition) beginning words word depth built state is a e = same_state (words ++ word ∷ []) _ state e (tried beginning words word condition depth built a is)

pub stepped : (due : Due) (words : List (List ℕ)) (word : List ℕ) (depth : ℕ) (built : Built) (state : State) → IsAt due words depth built → behind_word due word depth built ≡ Some state → IsIn (words ++ word ∷ []) state
stepped Operand words word depth built state b e = begun_in (symbol_of word) words word depth built state refl b e
stepped Operator words word depth built state b e = gone_on_in (symbol_of word) words word depth built state refl b e
stepped (Argument beginning) words word depth built state a e = argued_in (condition_of beginning word) beginning words word depth built state refl a e
