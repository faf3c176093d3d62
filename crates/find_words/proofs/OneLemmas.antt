-- That a text writes one predicate, or can't go on at one word.
use Rattle.std.proofs.Common.{◌≡◌, inl, inr, ◌∙◌, refl, sym, ap, subst, arith, ℕ, zero, suc, ◌-◌, ◌≤◌, ◌<◌, Bool, true, false, nat_lt, nat_le, List, [], ◌∷◌, ◌++◌, length, take, Some, codes, append_assoc, append-nil}
use Rattle.std.proofs.lemmas.Bool.{cases_Bool, ltb-true, ltb-false, leb-true, leb-false}
use Rattle.std.proofs.lemmas.Option.{same_Some}
use Rattle.find_words.specs.declared.building.Pending.{Pending}
use Rattle.find_words.specs.declared.building.Pending.TheVariants.{Open, Not, And, Or}
use Rattle.find_words.specs.declared.predicate.Operation.{Operation}
use Rattle.find_words.specs.declared.predicate.Operation.TheVariants as operation
use Rattle.find_words.specs.declared.reading.Due.TheVariants.{Operand, Operator}
use Rattle.find_words.specs.Expressions.{Expression}
use Rattle.find_words.specs.Programs.{program_of, expression_of as expression_by, expression_of-program_of}
use Rattle.find_words.specs.Words.{Words}
use Rattle.find_words.specs.Grammar.{Syntax, Primary, Group, Negated, Both, Either, words_of, level_of, IsSyntax, Writes, IsPredicate, CanGoOn, Reads, IsFirstFault}
use Rattle.find_words.specs.Reading.{Built, State, complete, alternative, leave, closed, tested, waiting, at, argued, begun, gone_on, run_on, start}
use Rattle.find_words.proofs.LayerLemmas.{program}
use Rattle.find_words.proofs.GoLemmas.{earlier}

-- ---- what a reader has built behind a syntax

-- how loosely an operand may bind before what waits
abbrev pub room_of : List Pending → ℕ
room_of [] = 2
room_of (Open ∷ pending) = 2
room_of (Not ∷ pending) = 0
room_of (And ∷ pending) = 0
room_of (Or ∷ pending) = 1

complete_in : (pending : List Pending) (os : List Operation) → 1 ≤ room_of pending → complete os pending ≡ (os, pending)
complete_in [] os room = refl
complete_in (Open ∷ pending) os room = refl
complete_in (Not ∷ pending) os room = absurd (omega arith)
complete_in (And ∷ pending) os room = absurd (omega arith)
complete_in (Or ∷ pending) os room = refl

alternative_in : (pending : List Pending) (os : List Operation) → 2 ≤ room_of pending → alternative (os, pending) ≡ (os, pending)
alternative_in [] os room = refl
alternative_in (Open ∷ pending) os room = refl
alternative_in (Not ∷ pending) os room = absurd (omega arith)
alternative_in (And ∷ pending) os room = absurd (omega arith)
alternative_in (Or ∷ pending) os room = absurd (omega arith)

-- what comes of a syntax behind what was built
pub record Comes (s : Syntax) (built behind : Built) : Type 0 where
  pub tight : level_of s ≤ 0 → behind ≡ complete (built.0 ++ program s) built.1
  pub both : level_of s ≤ 1 → 1 ≤ room_of built.1 → behind ≡ (built.0 ++ program s, built.1)
  pub either : 2 ≤ room_of built.1 → alternative behind ≡ (built.0 ++ program s, built.1)

tight_comes : (s : Syntax) (built behind : Built) → behind ≡ complete (built.0 ++ program s) built.1 → Comes s built behind
tight_comes s built behind is = record {
  tight = λ level. is;
  both = λ level room. is ∙ complete_in built.1 (built.0 ++ program s) room;
  either = λ room. ap alternative (is ∙ complete_in built.1 (built.0 ++ program s) (omega arith)) ∙ alternative_in built.1 (built.0 ++ program s) room;
}

both_comes : (s : Syntax) (built behind : Built) → (level_of s ≤ 0 → ⊥) → (1 ≤ room_of built.1 → behind ≡ (built.0 ++ program s, built.1)) → Comes s built behind
both_comes s built behind loose is = record {
  tight = λ level. absurd (loose level);
  both = λ level room. is room;
  either = λ room. ap alternative (is (omega arith)) ∙ alternative_in built.1 (built.0 ++ program s) room;
}

-- a conjunction is complete
joined : (a b : Syntax) (has_joint : Bool) (built one two : Built) → level_of a ≤ 1 → level_of b ≤ 0 → Comes a built one → Comes b (waiting And one) two → Comes (Both a has_joint b) built two
joined a b has_joint built one two level tight first second =
    both_comes (Both a has_joint b) built two (λ no. absurd (omega arith)) (λ room.
    second.tight tight
    ∙ ap (λ (x : Built). complete ((x.0 ++ program b) ++ operation.And ∷ []) x.1) (first.both level room)
    ∙ complete_in built.1 (((built.0 ++ program a) ++ program b) ++ operation.And ∷ []) room
    ∙ ap (λ (os : List Operation). (os, built.1)) (append_assoc (built.0 ++ program a) (program b) (operation.And ∷ []) ∙ append_assoc built.0 (program a) (program b ++ operation.And ∷ [])))

-- an alternative is
parted : (a b : Syntax) (built one two : Built) → level_of b ≤ 1 → Comes a built one → Comes b (waiting Or (alternative one)) two → Comes (Either a b) built two
parted a b built one two level first second = record {
  tight = λ no. absurd (omega arith);
  both = λ no room. absurd (omega arith);
  either = λ room.
      ap alternative (second.both level (omega arith))
      ∙ ap (λ (x : Built). ((x.0 ++ program b) ++ operation.Or ∷ [], x.1)) (first.either room)
      ∙ ap (λ (os : List Operation). (os, built.1)) (append_assoc (built.0 ++ program a) (program b) (operation.Or ∷ []) ∙ append_assoc built.0 (program a) (program b ++ operation.Or ∷ []));
}

-- an operand behind another one is read as behind a `-a`
next_to : (s : Syntax) (more : List (List ℕ)) (depth : ℕ) (built : Built) → IsSyntax s → level_of s ≤ 0
    → run_on (at Operator depth built) (words_of s ++ more) ≡ run_on (at Operand depth (waiting And built)) (words_of s ++ more)
next_to (Primary word argument condition) more depth built is level =
    ap (λ x. run_on (gone_on x depth built) (argument ∷ more)) is.1 ∙ sym (ap (λ x. run_on (begun x depth (waiting And built)) (argument ∷ more)) is.1)
next_to (Group s) more depth built is level = refl
next_to (Negated s) more depth built is level = refl
next_to (Both s has_joint t) more depth built is level = absurd (omega arith)
next_to (Either s t) more depth built is level = absurd (omega arith)

-- the reader gets behind a syntax
pub record Passes (s : Syntax) (more : List (List ℕ)) (depth : ℕ) (built : Built) : Type 0 where
  pub behind : Built
  pub runs : run_on (at Operand depth built) (words_of s ++ more) ≡ run_on (at Operator depth behind) more
  pub comes : Comes s built behind

pub passes : (s : Syntax) (more : List (List ℕ)) (depth : ℕ) (built : Built) → IsSyntax s → Passes s more depth built
passes (Primary word argument condition) more depth built is = record {
  behind = tested condition built;
  runs = ap (λ x. run_on (begun x depth built) (argument ∷ more)) is.1 ∙ ap (λ found. run_on (argued found depth built) more) is.2;
  comes = tight_comes (Primary word argument condition) built (tested condition built) refl;
}
passes (Group s) more depth built is =
    let r = passes s (codes ")" ∷ more) (suc depth) (waiting Open built) is in record {
      behind = closed r.behind;
      runs = ap (run_on (at Operand (suc depth) (waiting Open built))) (append_assoc (words_of s) (codes ")" ∷ []) more) ∙ r.runs;
      comes = tight_comes (Group s) built (closed r.behind) (ap leave (r.comes.either (omega arith)));
    }
passes (Negated s) more depth built is =
    let r = passes s more depth (waiting Not built) is.1 in record {
      behind = r.behind;
      runs = r.runs;
      comes = tight_comes (Negated s) built r.behind
          (r.comes.tight is.0 ∙ ap (λ (os : List Operation). complete os built.1) (append_assoc built.0 (program s) (operation.Not ∷ [])));
    }
passes (Both s true t) more depth built is =
    let r = passes s (codes "-a" ∷ words_of t ++ more) depth built is.2 in
    let q = passes t more depth (waiting And r.behind) is.3 in record {
      behind = q.behind;
      runs = ap (run_on (at Operand depth built)) (append_assoc (words_of s) (codes "-a" ∷ words_of t) more) ∙ r.runs ∙ q.runs;
      comes = joined s t true built r.behind q.behind is.0 is.1 r.comes q.comes;
    }
passes (Both s false t) more depth built is =
    let r = passes s (words_of t ++ more) depth built is.2 in
    let q = passes t more depth (waiting And r.behind) is.3 in record {
      behind = q.behind;
      runs = ap (run_on (at Operand depth built)) (append_assoc (words_of s) (words_of t) more) ∙ r.runs ∙ next_to t more depth r.behind is.3 is.1 ∙ q.runs;
      comes = joined s t false built r.behind q.behind is.0 is.1 r.comes q.comes;
    }
passes (Either s t) more depth built is =
    let r = passes s (codes "-o" ∷ words_of t ++ more) depth built is.1 in
    let q = passes t more depth (waiting Or (alternative r.behind)) is.2 in record {
      behind = q.behind;
      runs = ap (run_on (at Operand depth built)) (append_assoc (words_of s) (codes "-o" ∷ words_of t) more) ∙ r.runs ∙ q.runs;
      comes = parted s t built r.behind q.behind is.0 r.comes q.comes;
    }

-- ---- one predicate

-- behind an operand, with no bracket open
abbrev ended_with : Built → State
ended_with built = record { due = Operator; depth = 0; built = built }

-- the reader ends with the program of what was written
pub record Ends (words : List (List ℕ)) (e : Expression) : Type 0 where
  pub behind : Built
  pub runs : run_on (Some start) words ≡ at Operator 0 behind
  pub program_is : (alternative behind).0 ≡ program_of e

ends : (words : List (List ℕ)) (e : Expression) → Writes words e → Ends words e
ends words e w =
    let r = passes w.syntax_of [] 0 ([], []) w.is_syntax in record {
      behind = r.behind;
      runs = ap (run_on (Some start)) (sym w.written ∙ sym (append-nil (words_of w.syntax_of))) ∙ r.runs;
      program_is = ap (λ (x : Built). x.0) (r.comes.either (omega arith)) ∙ ap program_of w.says;
    }

same_written : (words : List (List ℕ)) (e f : Expression) → Writes words e → Writes words f → e ≡ f
same_written words e f w v =
    let a = ends words e w in
    let b = ends words f v in
    let state_is = same_Some (ended_with a.behind) (ended_with b.behind) (sym a.runs ∙ b.runs) in
    let programs : program_of e ≡ program_of f = sym a.program_is ∙ ap (λ (s : State). (alternative s.built).0) state_is ∙ b.program_is in
    sym (expression_of-program_of e) ∙ ap expression_by programs ∙ expression_of-program_of f

nothing_written : (words : List (List ℕ)) (e : Expression) → words ≡ [] → Writes words e → ⊥
nothing_written words e empty w =
    let a = ends words e w in
    let state_is = same_Some start (ended_with a.behind) (sym (ap (run_on (Some start)) empty) ∙ a.runs) in
    let no : Operand ≡ Operator = ap (λ (s : State). s.due) state_is in absurd (cc)

one_predicate : (words : List (List ℕ)) (e f : Expression) → IsPredicate words e → IsPredicate words f → e ≡ f
one_predicate words e f (inl (empty, is)) (inl (none, other)) = is ∙ sym other
one_predicate words e f (inl (empty, is)) (inr v) = absurd (nothing_written words f empty v)
one_predicate words e f (inr w) (inl (empty, is)) = absurd (nothing_written words e empty w)
one_predicate words e f (inr w) (inr v) = same_written words e f w v

pub reads_one : (words : Words) (e f : Expression) → Reads words e → Reads words f → e ≡ f
reads_one words e f r s = one_predicate words.whole e f r.predicate s.predicate

-- ---- one first fault

-- what stands behind fewer words
front_of : (j k : ℕ) (words : List (List ℕ)) → j ≤ k → (more : List (List ℕ)) × (take k words ≡ take j words ++ more)
front_of zero k words less = (take k words, refl)
front_of (suc j) zero words less = absurd (omega arith)
front_of (suc j) (suc k) [] less = ([], refl)
front_of (suc j) (suc k) (word ∷ words) less =
    let r = front_of j k words (omega arith) in (r.0, ap (λ (l : List (List ℕ)). word ∷ l) r.1)

behind_of : (k : ℕ) (words : List (List ℕ)) → (more : List (List ℕ)) × (words ≡ take k words ++ more)
behind_of zero words = (words, refl)
behind_of (suc k) [] = ([], refl)
behind_of (suc k) (word ∷ words) = let r = behind_of k words in (r.0, ap (λ (l : List (List ℕ)). word ∷ l) r.1)

not_before : (words : Words) (j k : ℕ) → IsFirstFault words j → IsFirstFault words k → j < k → ⊥
not_before words j k f g less =
    let within : j ≤ length words.whole = omega (arith, g.within) in
    let r = front_of j (k - 1) words.whole (omega arith) in
    f.fault within (earlier (take j words.whole) r.0 (subst CanGoOn r.1 g.before))

not_earlier : (words : Words) (j k : ℕ) → IsFirstFault words j → IsFirstFault words k → k ≤ j
not_earlier words j k f g = elim (cases_Bool (nat_lt j k)) [
  | inl less ↦ absurd (not_before words j k f g (ltb-true j k less))
  | inr other ↦ ltb-false j k other
]

pub one_fault : (words : Words) (j k : ℕ) → IsFirstFault words j → IsFirstFault words k → j ≡ k
one_fault words j k f g =
    let one : k ≤ j = not_earlier words j k f g in
    let two : j ≤ k = not_earlier words k j g f in omega arith

pub no_fault : (words : Words) (e : Expression) (k : ℕ) → Reads words e → IsFirstFault words k → ⊥
no_fault words e k r f = elim (cases_Bool (nat_le k (length words.whole))) [
  | inl less ↦ let more = behind_of k words.whole in
      let goes : CanGoOn words.whole = ([], e, subst (λ (l : List (List ℕ)). IsPredicate l e) (sym (append-nil words.whole)) r.predicate) in
      f.fault (leb-true k (length words.whole) less) (earlier (take k words.whole) more.0 (subst CanGoOn more.1 goes))
  | inr other ↦ let past : length words.whole < k = leb-false k (length words.whole) other in
      f.ended (omega (arith, f.within)) e r
]
