-- Names are read as they are spelled, and only so.
use Rattle.std.proofs.Common.{◌≡◌, ℕ, zero, suc, ◌<◌, ◌≤◌, ◌-◌, ◌^◌, Bool, true, false, nat_le, List, [], ◌∷◌, ◌++◌, length, take, drop, cond, Option, Some, None, refl, sym, ◌∙◌, ap, arith}
use Rattle.std.specs.Prelude.{codes}
use Rattle.std.specs.Fmt.{decimal}
use Rattle.std.specs.Str.{bytes_eq}
use Rattle.std.proofs.lemmas.Bool.Decides.{nat_tests}
use Rattle.std.proofs.lemmas.Slice.Eq.{bytes_eq-Decides}
use Rattle.commit_steps.specs.Staging.{temporary, held, fresh_name, at_marker, back_marker, new_journal, plan, sealed, undone as undone_journal}
use Rattle.staging_names.specs.declared.entry_name.Role.{Role}
use Rattle.staging_names.specs.declared.entry_name.Role.TheVariants.{Fresh, Held, Temporary}
use Rattle.staging_names.specs.declared.staged_name.Journal as journal
use Rattle.staging_names.specs.declared.staged_name.Journal.TheVariants.{Plan, Done, Undone}
use Rattle.staging_names.specs.declared.staged_name.Side.{Side}
use Rattle.staging_names.specs.declared.staged_name.Side.TheVariants.{At, Back}
use Rattle.staging_names.specs.declared.staged_name.StagedName.{StagedName}
use Rattle.staging_names.specs.declared.staged_name.StagedName.TheVariants.{New, Journal, Marker, Entry, Other}
use Rattle.staging_names.specs.Laws.{IsExact}
use Rattle.staging_names.specs.Names.{spelled, marker_name, journal_name, IsSpelled, rest_behind, journal_named, marker_numbered, marker_of, entry_numbered, entry_of, read_of, numbered_read, journal_or, name_read}
use Rattle.staging_names.specs.Numbers.{number_read}
use Rattle.staging_names.proofs.NumberLemmas.{decimal_read, decimal_was}

-- ---- as they are spelled

read_marker : (side : Side) (m : ℕ) → m < 2 ^ 64 → name_read (marker_name side m) ≡ Marker (record { side = side; number = m })
unfolding name_read at_marker back_marker new_journal plan sealed undone_journal
read_marker At m small = ap (marker_numbered At) (decimal_read m small)
read_marker Back m small = ap (marker_numbered Back) (decimal_read m small)

le_holds : (m n : ℕ) → m ≤ n → nat_le m n ≡ true
le_holds m n h = grind (arith, nat_tests)

le_is : (m n : ℕ) → nat_le m n ≡ true → m ≤ n
le_is m n e = grind (arith, nat_tests)

entry_small : (role : Role) (n : ℕ) → n < 2 ^ 32 → entry_of role (decimal n) ≡ Entry (record { role = role; number = n })
entry_small role n small =
    ap (entry_numbered role) (decimal_read n (omega arith))
    ∙ ap (λ (b : Bool). cond b (Entry (record { role = role; number = n })) Other) (le_holds n 4_294_967_295 (omega arith))

read_entry : (role : Role) (n : ℕ) → n < 2 ^ 32 → name_read (spelled role n) ≡ Entry (record { role = role; number = n })
unfolding name_read temporary held fresh_name new_journal plan sealed undone_journal
read_entry Fresh n small = entry_small Fresh n small
read_entry Held n small = entry_small Held n small
read_entry Temporary n small = entry_small Temporary n small

read_journal : (j : journal.Journal) → name_read (journal_name j) ≡ Journal j
unfolding name_read new_journal plan sealed undone_journal
read_journal Plan = refl
read_journal Done = refl
read_journal Undone = refl

read_new : name_read new_journal ≡ New
unfolding name_read new_journal
read_new = refl

pub names_read : (name : List ℕ) (what : StagedName) → IsExact what → IsSpelled name what → name_read name ≡ what
names_read name New exact is = ap name_read is ∙ read_new
names_read name (Journal j) exact is = ap name_read is ∙ read_journal j
names_read name (Marker m) exact is = ap name_read is ∙ read_marker m.side m.number (omega arith)
names_read name (Entry e) exact is = ap name_read is.0 ∙ read_entry e.role e.number is.1
names_read name Other exact is = absurd exact

-- ---- as they are read

-- What is read, where it is told exactly, is how the name is spelled.
abbrev IsRight : List ℕ → StagedName → Type 0
IsRight name what = IsExact what → IsSpelled name what

marker_right : (side : Side) (front name ds : List ℕ) → ((n : ℕ) → marker_name side n ≡ front ++ decimal n) → name ≡ front ++ ds
    → (o : Option ℕ) → number_read ds ≡ o → IsRight name (marker_numbered side o)
marker_right side front name ds spells is None e = λ exact. absurd exact
marker_right side front name ds spells is (Some n) e = λ exact. is ∙ ap (λ (d : List ℕ). front ++ d) (decimal_was ds n e exact) ∙ sym (spells n)

entry_right_by : (role : Role) (front name ds : List ℕ) → ((n : ℕ) → spelled role n ≡ front ++ decimal n) → name ≡ front ++ ds → (n : ℕ) → number_read ds ≡ Some n
    → (b : Bool) → nat_le n 4_294_967_295 ≡ b → IsRight name (cond b (Entry (record { role = role; number = n })) Other)
entry_right_by role front name ds spells is n e true small =
    λ exact. let most : n ≤ 4_294_967_295 = le_is n 4_294_967_295 small in
    (is ∙ ap (λ (d : List ℕ). front ++ d) (decimal_was ds n e (omega arith)) ∙ sym (spells n), omega arith)
entry_right_by role front name ds spells is n e false small = λ exact. absurd exact

entry_right : (role : Role) (front name ds : List ℕ) → ((n : ℕ) → spelled role n ≡ front ++ decimal n) → name ≡ front ++ ds
    → (o : Option ℕ) → number_read ds ≡ o → IsRight name (entry_numbered role o)
entry_right role front name ds spells is None e = λ exact. absurd exact
entry_right role front name ds spells is (Some n) e = entry_right_by role front name ds spells is n e (nat_le n 4_294_967_295) refl

join_back : (k : ℕ) (name : List ℕ) → take k name ++ drop k name ≡ name
join_back zero [] = refl
join_back zero (x ∷ xs) = refl
join_back (suc k) [] = refl
join_back (suc k) (x ∷ xs) = ap (λ (l : List ℕ). x ∷ l) (join_back k xs)

front_right : (front name : List ℕ) (read : List ℕ → StagedName) (next : StagedName) → ((ds : List ℕ) → name ≡ front ++ ds → IsRight name (read ds)) → IsRight name next
    → (b : Bool) → bytes_eq (take (length front) name) front ≡ b → IsRight name (read_of (cond b (Some (drop (length front) name)) None) read next)
front_right front name read next right else_right true e =
    right (drop (length front) name) (sym (join_back (length front) name) ∙ ap (λ (l : List ℕ). l ++ drop (length front) name) ((bytes_eq-Decides (take (length front) name) front).0 e))
front_right front name read next right else_right false e = else_right

behind_right : (front name : List ℕ) (read : List ℕ → StagedName) (next : StagedName) → ((ds : List ℕ) → name ≡ front ++ ds → IsRight name (read ds)) → IsRight name next
    → IsRight name (read_of (rest_behind front name) read next)
behind_right front name read next right else_right = front_right front name read next right else_right (bytes_eq (take (length front) name) front) refl

spells_at : (n : ℕ) → marker_name At n ≡ codes "at-" ++ decimal n
unfolding at_marker
spells_at n = refl

spells_back : (n : ℕ) → marker_name Back n ≡ codes "back-" ++ decimal n
unfolding back_marker
spells_back n = refl

spells_temporary : (n : ℕ) → spelled Temporary n ≡ codes "t" ++ decimal n
unfolding temporary
spells_temporary n = refl

spells_held : (n : ℕ) → spelled Held n ≡ codes "h" ++ decimal n
unfolding held
spells_held n = refl

spells_fresh : (n : ℕ) → spelled Fresh n ≡ codes "f" ++ decimal n
unfolding fresh_name
spells_fresh n = refl

numbered_right : (name : List ℕ) → IsRight name (numbered_read name)
numbered_right name =
    behind_right (codes "at-") name (marker_of At) _ (λ ds is. marker_right At (codes "at-") name ds spells_at is (number_read ds) refl)
    (behind_right (codes "back-") name (marker_of Back) _ (λ ds is. marker_right Back (codes "back-") name ds spells_back is (number_read ds) refl)
    (behind_right (codes "t") name (entry_of Temporary) _ (λ ds is. entry_right Temporary (codes "t") name ds spells_temporary is (number_read ds) refl)
    (behind_right (codes "h") name (entry_of Held) _ (λ ds is. entry_right Held (codes "h") name ds spells_held is (number_read ds) refl)
    (behind_right (codes "f") name (entry_of Fresh) Other (λ ds is. entry_right Fresh (codes "f") name ds spells_fresh is (number_read ds) refl)
    (λ exact. absurd exact)))))

-- where a text is one of these it is spelled so, and else it is right all the same
text_right : (name text : List ℕ) (one next : StagedName) → (name ≡ text → IsSpelled name one) → IsRight name next
    → (b : Bool) → bytes_eq name text ≡ b → IsRight name (cond b one next)
text_right name text one next is else_right true e = λ exact. is ((bytes_eq-Decides name text).0 e)
text_right name text one next is else_right false e = else_right

journal_chosen : (a b c : Bool) (next : StagedName)
    → journal_or (cond a (Some Plan) (cond b (Some Done) (cond c (Some Undone) None))) next ≡ cond a (Journal Plan) (cond b (Journal Done) (cond c (Journal Undone) next))
journal_chosen true b c next = refl
journal_chosen false true c next = refl
journal_chosen false false true next = refl
journal_chosen false false false next = refl

journal_right : (name : List ℕ) (next : StagedName) → IsRight name next → IsRight name (journal_or (journal_named name) next)
journal_right name next right =
    rw (journal_chosen (bytes_eq name plan) (bytes_eq name sealed) (bytes_eq name undone_journal) next)
    (text_right name plan (Journal Plan) _ (λ is. is)
    (text_right name sealed (Journal Done) _ (λ is. is)
    (text_right name undone_journal (Journal Undone) next (λ is. is) right (bytes_eq name undone_journal) refl)
    (bytes_eq name sealed) refl)
    (bytes_eq name plan) refl)

pub reads_spelled : (name : List ℕ) → IsExact (name_read name) → IsSpelled name (name_read name)
unfolding name_read
reads_spelled name =
    text_right name new_journal New (journal_or (journal_named name) (numbered_read name)) (λ is. is)
    (journal_right name (numbered_read name) (numbered_right name)) (bytes_eq name new_journal) refl
