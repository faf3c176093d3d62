-- What the reader answers for whole texts.
use Rattle.std.proofs.Common.{◌≡◌, inl, inr, ◌∙◌, refl, sym, ap, subst, arith, ℕ, suc, ◌+◌, ◌-◌, ◌≤◌, Bool, true, false, List, [], ◌∷◌, ◌++◌, length, take, Option, Some, None, append_assoc, append-nil, length-append}
use Rattle.std.proofs.lemmas.Option.{same_Some}
use Rattle.find_words.specs.declared.reading.Due.{Due}
use Rattle.find_words.specs.declared.reading.Due.TheVariants.{Operator}
use Rattle.find_words.specs.Expressions.{Expression}
use Rattle.find_words.specs.Programs.{program_of, expression_of, expression_of-program_of}
use Rattle.find_words.specs.Words.{Words}
use Rattle.find_words.specs.Grammar.{Writes, IsPredicate, CanGoOn, Reads, IsFirstFault}
use Rattle.find_words.specs.Refusals.{Stops, StopsAt, Refuses}
use Rattle.find_words.specs.declared.fault.FindFault.{FindFault}
use Rattle.find_words.specs.declared.fault.FindFault.TheVariants as fault
use Rattle.find_words.specs.Reading.{Built, State, Goes, alternative, with_word, run_on, start}
use Rattle.find_words.proofs.LayerLemmas.{Behind}
use Rattle.find_words.proofs.StepLemmas.{IsAt, IsIn, stepped}
use Rattle.find_words.proofs.GoLemmas.{Whole, whole, taken, stuck, goes_on, first_in, run-append, run_none}

none_some : {A : Type 0} (x : A) → None ≡ Some x → ⊥
none_some x e = absurd (cc)

-- what was read stays what the grammar writes
run_in : (front words : List (List ℕ)) (state found : State) → IsIn front state → run_on (Some state) words ≡ Some found → IsIn (front ++ words) found
run_in front [] state found is e = subst (λ (l : List (List ℕ)). IsIn l found) (sym (append-nil front)) (subst (IsIn front) (same_Some state found e) is)
run_in front (word ∷ words) state found is e = by_next (with_word word state) refl e (λ next held r. run_in (front ++ word ∷ []) words next found held r)
  where
    by_next : (next : Option State) → with_word word state ≡ next → run_on next words ≡ Some found → ((after : State) → IsIn (front ++ word ∷ []) after → run_on (Some after) words ≡ Some found → IsIn ((front ++ word ∷ []) ++ words) found) → IsIn (front ++ word ∷ words) found
    by_next None n r go = absurd (none_some found (sym (run_none words) ∙ r))
    by_next (Some next) n r go =
        subst (λ (l : List (List ℕ)). IsIn l found) (append_assoc front (word ∷ []) words)
        (go next (stepped state.due front word state.depth state.built next is n) r)

pub read_in : (words : List (List ℕ)) (found : State) → run_on (Some start) words ≡ Some found → IsIn words found
read_in words found e = run_in [] words start found first_in e

pub can : (words : List (List ℕ)) (found : State) → run_on (Some start) words ≡ Some found → CanGoOn words
can words found e = goes_on found.due words found.depth found.built (read_in words found e)

take_front : (front later : List (List ℕ)) → take (length front) (front ++ later) ≡ front
take_front [] later = refl
take_front (x ∷ front) later = ap (λ (l : List (List ℕ)). x ∷ l) (take_front front later)

-- the first word that isn't taken
pub stops_first : (words : List (List ℕ)) (is_closed : Bool) (k : ℕ) → Stops words k → IsFirstFault (record { whole = words; is_closed = is_closed }) k
stops_first words is_closed k s =
    let count : length words ≡ length s.front + suc (length s.later) = ap length s.words_are ∙ length-append s.front (s.word ∷ s.later) in
    let before : take (k - 1) words ≡ s.front =
    ap (λ (n : ℕ). take n words) (let n : k - 1 ≡ length s.front = omega (arith, s.place) in n) ∙ ap (take (length s.front)) s.words_are ∙ take_front s.front (s.word ∷ s.later) in
    let longer : length (s.front ++ s.word ∷ []) ≡ k = length-append s.front (s.word ∷ []) ∙ sym s.place in
    let with_it : take k words ≡ s.front ++ s.word ∷ [] =
    ap (λ (n : ℕ). take n words) (sym longer) ∙ ap (take (length (s.front ++ s.word ∷ []))) (s.words_are ∙ sym (append_assoc s.front (s.word ∷ []) s.later)) ∙ take_front (s.front ++ s.word ∷ []) s.later in record {
      some = omega (arith, s.place);
      within = omega (arith, s.place, count);
      before = subst CanGoOn (sym before) (can s.front s.state s.takes);
      fault = λ within goes. stuck s.front s.word s.stops (subst CanGoOn with_it goes);
      ended = λ is e reads. absurd (omega (arith, s.place, count, is));
    }

take_all : (words : List (List ℕ)) → take (length words) words ≡ words
take_all [] = refl
take_all (x ∷ words) = ap (λ (l : List (List ℕ)). x ∷ l) (take_all words)

-- where a text ends too early
pub ends_early : (words : List (List ℕ)) (is_closed : Bool) (found : State) → run_on (Some start) words ≡ Some found → ((e : Expression) → Reads (record { whole = words; is_closed = is_closed }) e → ⊥) → IsFirstFault (record { whole = words; is_closed = is_closed }) (length words + 1)
ends_early words is_closed found run unread = record {
  some = omega arith;
  within = omega arith;
  before = subst CanGoOn (sym (ap (λ (n : ℕ). take n words) (let n : (length words + 1) - 1 ≡ length words = omega arith in n) ∙ take_all words)) (can words found run);
  fault = λ within. absurd (omega arith);
  ended = λ is. unread;
}

-- it does where a quote isn't closed
pub unclosed : (words : List (List ℕ)) (e : Expression) → Reads (record { whole = words; is_closed = false }) e → ⊥
unclosed words e r = let no : false ≡ true = r.closed in absurd (cc)

-- and where the reader isn't behind an operand, or a bracket is open
pub unended : (words : List (List ℕ)) (is_closed : Bool) (found : State) → run_on (Some start) words ≡ Some found → (words ≡ [] → is_closed ≡ true → ⊥) → (found.due ≡ Operator → found.depth ≡ 0 → ⊥) → (e : Expression) → Reads (record { whole = words; is_closed = is_closed }) e → ⊥
unended words is_closed found run some unfinished e r = by_case r.predicate
  where
    by_case : IsPredicate words e → ⊥
    by_case (inl (empty, everything)) = some empty r.closed
    by_case (inr w) =
        let t = taken words e w in
        let same = same_Some found (record { due = Operator; depth = 0; built = t.0 }) (sym run ∙ t.1) in
        unfinished (ap (λ (s : State). s.due) same) (ap (λ (s : State). s.depth) same)

-- what was read to its end
pub ended : (words : List (List ℕ)) (found : State) → run_on (Some start) words ≡ Some found → found.due ≡ Operator → found.depth ≡ 0 → Whole words found.built
ended words found run due depth =
    let is : IsAt found.due words found.depth found.built = read_in words found run in
    whole words found.built (subst (λ (d : ℕ). Behind 1 words d found.built) depth (subst (λ (d : Due). IsAt d words found.depth found.built) due is))

pub program_back : (words : List (List ℕ)) (built : Built) → Whole words built → program_of (expression_of (alternative built).0) ≡ (alternative built).0
program_back words built w =
    ap (λ os. program_of (expression_of os)) w.program_is ∙ ap program_of (expression_of-program_of w.e) ∙ sym w.program_is

pub reads_back : (words : List (List ℕ)) (built : Built) → Whole words built → Reads (record { whole = words; is_closed = true }) (expression_of (alternative built).0)
reads_back words built w =
    record { closed = refl; predicate = inr (subst (Writes words) (sym (ap expression_of w.program_is ∙ expression_of-program_of w.e)) w.written) }

-- one word more is taken, or isn't
pub more_taken : (front : List (List ℕ)) (word : List ℕ) (state next : State) → run_on (Some start) front ≡ Some state → with_word word state ≡ Some next → run_on (Some start) (front ++ word ∷ []) ≡ Some next
more_taken front word state next takes goes = run-append (Some start) front (word ∷ []) ∙ ap (λ (o : Option State). run_on o (word ∷ [])) takes ∙ goes

pub not_taken : (front : List (List ℕ)) (word : List ℕ) (state : State) → run_on (Some start) front ≡ Some state → with_word word state ≡ None → run_on (Some start) (front ++ word ∷ []) ≡ None
not_taken front word state takes stops = run-append (Some start) front (word ∷ []) ∙ ap (λ (o : Option State). run_on o (word ∷ [])) takes ∙ stops

pub refused : (end : FindFault) (words : Words) → StopsAt end words.whole → Refuses end words
refused (fault.Bad k) words stops = stops_first words.whole words.is_closed k stops
refused fault.Memory words stops = tt

pub goes_true : (goes : Bool) (word other : List ℕ) (state next : State) → goes ≡ true → other ≡ word → Goes goes (with_word other state) next → with_word word state ≡ Some next
goes_true true word other state next is same g = ap (λ (w : List ℕ). with_word w state) (sym same) ∙ g
goes_true false word other state next is same g = absurd (cc)

pub goes_false : (goes : Bool) (word other : List ℕ) (state next : State) → goes ≡ false → other ≡ word → Goes goes (with_word other state) next → with_word word state ≡ None
goes_false true word other state next is same g = absurd (cc)
goes_false false word other state next is same g = ap (λ (w : List ℕ). with_word w state) (sym same) ∙ g

-- ---- the ends of a text

some_words : (words : List (List ℕ)) → 1 ≤ length words → words ≡ [] → ⊥
some_words words some empty = let none : length words ≡ 0 = ap length empty in absurd (omega (arith, some, none))

pub early_unclosed : (words : List (List ℕ)) (is_closed : Bool) (found : State) → run_on (Some start) words ≡ Some found → is_closed ≡ false → IsFirstFault (record { whole = words; is_closed = is_closed }) (length words + 1)
early_unclosed words is_closed found run is = ends_early words is_closed found run (λ e r. let closed : is_closed ≡ true = r.closed in let no : false ≡ true = sym is ∙ closed in absurd (cc))

pub early_due : (words : List (List ℕ)) (is_closed : Bool) (found : State) → run_on (Some start) words ≡ Some found → 1 ≤ length words → (found.due ≡ Operator → ⊥) → IsFirstFault (record { whole = words; is_closed = is_closed }) (length words + 1)
early_due words is_closed found run some other =
    ends_early words is_closed found run (unended words is_closed found run (λ empty closed. some_words words some empty) (λ due depth. other due))

pub early_depth : (words : List (List ℕ)) (is_closed : Bool) (found : State) → run_on (Some start) words ≡ Some found → 1 ≤ length words → (found.depth ≡ 0 → ⊥) → IsFirstFault (record { whole = words; is_closed = is_closed }) (length words + 1)
early_depth words is_closed found run some other =
    ends_early words is_closed found run (unended words is_closed found run (λ empty closed. some_words words some empty) (λ due depth. other depth))
