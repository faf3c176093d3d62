-- What one line asks for can be asked.
use Rattle.std.proofs.Common.{◌≡◌, ◌≢◌, ◌⊎◌, inl, inr, ℕ, Bool, true, false, not, ◌&&◌, ◌||◌, ◌==◌, List, [], ◌∷◌, take, drop, refl, sym, ◌∙◌, ap, subst, Option, Some, None, is_some, option_map, IsTrue, eq-eqb, eqb-true, Result, Ok, Err, if◌then◌else◌}
use Rattle.std.specs.Str.{bytes_eq}
use Rattle.std.proofs.lemmas.Option.{same_Some}
use Rattle.std.proofs.lemmas.Slice.Eq.{bytes_eq-Decides, slice_eq-Decides}
use Rattle.dired_text.specs.Paths.{Names}
use Rattle.dired_text.specs.Modes.{read_letters}
use Rattle.dired_text.proofs.ModeLemmas.{mode_of_text}
use Rattle.tree_core.specs.declared.edit.Edit.{Edit}
use Rattle.tree_core.specs.declared.edit.Shown.{Shown}
use Rattle.tree_core.specs.declared.node.Kind.{Kind}
use Rattle.tree_core.specs.declared.node.Kind.TheVariants.{File, Dir, Link}
use Rattle.tree_core.specs.FileTree.{IsMode, IsTarget}
use Rattle.listing_text.specs.Fields.{target_of}
use Rattle.listing_text.specs.Listed.{is_link}
use Rattle.listing_text.specs.Reading.{◌>>=◌}
use Rattle.wdired_buffer.specs.declared.faults.EditsFault.{EditsFault}
use Rattle.wdired_buffer.specs.declared.faults.EditsFault.TheVariants.{Faulty}
use Rattle.wdired_buffer.specs.declared.faults.LineCause.{LineCause}
use Rattle.wdired_buffer.specs.declared.faults.LineCause.TheVariants as cause
use Rattle.wdired_buffer.specs.declared.line.BufferLine.{BufferLine}
use Rattle.wdired_buffer.specs.declared.line.BufferLine.TheVariants.{Fixed, Header, Entry}
use Rattle.wdired_buffer.specs.declared.typed.Asked.{Asked}
use Rattle.wdired_buffer.specs.declared.typed.Typed.{Typed}
use Rattle.wdired_buffer.specs.EntryLaws.{AllOk}
use Rattle.wdired_buffer.specs.Headers.{named}
use Rattle.wdired_buffer.specs.Edits.{or_faulty, same_path, texts_in, path_typed, kept, mode_typed, target_typed, typed_of, changed, if_any, if_emptied, asked_of, nothing, same_fixed, line_asks}
use Rattle.edit_words.specs.Rows.{edit_row}
use Rattle.edit_words.specs.WellFormed.{IsEdit, IsNoRoot}
use Rattle.edit_requests.proofs.ReadLemmas.{named_some, target_lawful}
use Rattle.edit_requests.proofs.LineLemmas.{then_all, all_at, HasSource}

some_ok : {A : Type 0} (number : ℕ) (cause : LineCause) (o : Option A) (a : A) → or_faulty number cause o ≡ Ok a → o ≡ Some a
some_ok number cause (Some b) a is = cc
some_ok number cause None a is = cc

-- ---- what a line shows now

-- A path that isn't the root, the target of a link, and a mode, which a link keeps.
record IsTyped (was : Shown) (typed : Typed) : Type 0 where
  path : (p : Names) → typed.path ≡ Some p → p ≢ []
  target : (t : List ℕ) → typed.target ≡ Some t → (was.kind ≡ Link) × IsTarget t
  mode : IsMode typed.mode
  kept : was.kind ≡ Link → typed.mode ≡ was.mode

-- each of the three by itself
path_some : (dir : Names) (text : List ℕ) (typed : Option Names) (p : Names) → path_typed dir text ≡ Some typed → typed ≡ Some p → p ≢ []
unfolding path_typed
path_some dir [] typed p is some = cc
path_some dir (b ∷ bs) typed p is some = by_named (named dir (b ∷ bs)) refl is
  where
    by_named : (o : Option Names) → named dir (b ∷ bs) ≡ o → option_map Some o ≡ Some typed → p ≢ []
    by_named None from e = cc
    by_named (Some q) from e = let same : q ≡ p = cc in subst (λ r. r ≢ []) same (named_some dir (b ∷ bs) q from)

target_some : (kind : Kind) (text : Option (List ℕ)) (typed : Option (List ℕ)) (t : List ℕ) → target_typed kind text ≡ Some typed → typed ≡ Some t → (kind ≡ Link) × IsTarget t
unfolding target_typed
target_some File text typed t is some = cc
target_some Dir text typed t is some = cc
target_some Link None typed t is some = cc
target_some Link (Some text) typed t is some = by_target (target_of text) refl is
  where
    by_target : (o : Option (List ℕ)) → target_of text ≡ o → option_map Some o ≡ Some typed → (Link ≡ Link) × IsTarget t
    by_target None from e = cc
    by_target (Some read) from e = let same : read ≡ t = cc in (refl, subst IsTarget same (target_lawful text read from))

mode_lawful : (was : Shown) (letters : List ℕ) (mode : ℕ) → mode_typed was letters ≡ Some mode → IsMode mode × (was.kind ≡ Link → mode ≡ was.mode)
unfolding mode_typed
mode_lawful was letters mode is = by_read (read_letters letters) refl is
  where
    by_test : (read : ℕ) (x y : Bool) → (read == was.mode) ≡ y → is_link was.kind ≡ x → IsMode read → (if x && not y then None else Some read) ≡ Some mode → IsMode mode × (was.kind ≡ Link → mode ≡ was.mode)
    by_test read true true same link lawful e = let is_read : read ≡ mode = cc in (subst IsMode is_read lawful, λ _. sym is_read ∙ eqb-true read was.mode same)
    by_test read true false same link lawful e = cc
    by_test read false y same link lawful e = let is_read : read ≡ mode = cc in (subst IsMode is_read lawful, λ kind. absurd (let both : true ≡ false = sym (ap is_link kind) ∙ link in cc))

    by_read : (o : Option ℕ) → read_letters letters ≡ o → kept was o ≡ Some mode → IsMode mode × (was.kind ≡ Link → mode ≡ was.mode)
    by_read None from e = cc
    by_read (Some read) from e = by_test read (is_link was.kind) (read == was.mode) refl refl (mode_of_text letters read from).0 e

abbrev k_target : Option Names → ℕ → Option (List ℕ) → Result Typed EditsFault
k_target path mode target = Ok (record { path = path; mode = mode; target = target })

abbrev k_mode : ℕ → Shown → List ℕ × Option (List ℕ) → Option Names → ℕ → Result Typed EditsFault
k_mode number was texts path mode = or_faulty number cause.BadTarget (target_typed was.kind texts.1) >>= k_target path mode

abbrev k_path : ℕ → Shown → List ℕ → List ℕ × Option (List ℕ) → Option Names → Result Typed EditsFault
k_path number was after texts path = or_faulty number cause.BadMode (mode_typed was (take 9 (drop 3 after))) >>= k_mode number was texts path

-- all that a new line shows
typed_lawful : (number : ℕ) (dir : Names) (name_at : ℕ) (was : Shown) (after : List ℕ) → AllOk (IsTyped was) (typed_of number dir name_at was after)
unfolding typed_of
typed_lawful number dir name_at was after =
    let texts = texts_in was.kind (drop name_at after) in
    let letters : List ℕ = take 9 (drop 3 after) in
    then_all (IsTyped was) (or_faulty number cause.BadName (path_typed dir texts.0)) (k_path number was after texts) (λ path path_is.
    then_all (IsTyped was) (or_faulty number cause.BadMode (mode_typed was letters)) (k_mode number was texts path) (λ mode mode_is.
    then_all (IsTyped was) (or_faulty number cause.BadTarget (target_typed was.kind texts.1)) (k_target path mode) (λ target target_is.
    let modes = mode_lawful was letters mode (some_ok number cause.BadMode (mode_typed was letters) mode mode_is) in
    record {
      path = λ p is. path_some dir texts.0 path p (some_ok number cause.BadName (path_typed dir texts.0) path path_is) is;
      target = λ t is. target_some was.kind texts.1 target t (some_ok number cause.BadTarget (target_typed was.kind texts.1) target target_is) is;
      mode = modes.0;
      kept = modes.1;
    })))

-- ---- what a line asks for

changed_some : {A : Type 0} (same : A → A → Bool) (old : A) (o : Option A) (new : A) → changed same old o ≡ Some new → (o ≡ Some new) × (same new old ≡ false)
changed_some same old None new is = cc
changed_some same old (Some a) new is = by_test (same a old) refl is
  where
    by_test : (x : Bool) → same a old ≡ x → (if x then None else Some a) ≡ Some new → (Some a ≡ Some new) × (same new old ≡ false)
    by_test true from e = cc
    by_test false from e = let here : a ≡ new = cc in (ap Some here, ap (λ b. same b old) (sym here) ∙ from)

any_some : (edit asked : Edit) → if_any edit ≡ Some asked → (edit ≡ asked) × ((is_some edit.to || is_some edit.target || is_some edit.mode) ≡ true)
any_some edit asked is = by_test (is_some edit.to || is_some edit.target || is_some edit.mode) refl is
  where
    by_test : (x : Bool) → (is_some edit.to || is_some edit.target || is_some edit.mode) ≡ x → (if x then Some edit else None) ≡ Some asked → (edit ≡ asked) × ((is_some edit.to || is_some edit.target || is_some edit.mode) ≡ true)
    by_test true from e = (cc, from)
    by_test false from e = cc

-- an edit of a line with this number
pub record IsOfNumber (number : ℕ) (line : BufferLine) (edit : Edit) : Type 0 where
  pub numbered : edit.line ≡ number
  pub is : (text : List ℕ) × (name_at : ℕ) × (line ≡ Entry text name_at edit.source edit.was)
  pub not_root : IsNoRoot (edit_row edit)
  pub lawful : IsEdit edit

pub same_self : (path : Names) → same_path path path ≡ true
same_self path = (slice_eq-Decides bytes_eq-Decides path path (same_path path path) refl).1 refl

pub test_false : (b : Bool) → b ≡ false → b ≡ true → ⊥
test_false b no' yes' = let both : true ≡ false = sym yes' ∙ no' in cc

-- the edit of an entry's line, before it is known whether it asks for anything
abbrev edit_of : ℕ → Names → Shown → Typed → Edit
edit_of number source was typed = record {
  source = source;
  was = was;
  to = changed same_path source typed.path;
  target = changed bytes_eq was.target typed.target;
  mode = changed ◌==◌ was.mode (Some typed.mode);
  line = number;
}

-- where it does, it is lawful
typed_edit : (number : ℕ) (source : Names) (was : Shown) (typed : Typed) → IsTyped was typed → (is_some (edit_of number source was typed).to || is_some (edit_of number source was typed).target || is_some (edit_of number source was typed).mode) ≡ true → IsEdit (edit_of number source was typed)
typed_edit number source was typed is asks = record {
  asks = asks;
  to = λ same. test_false (same_path source source) (changed_some same_path source typed.path source same).1 (same_self source);
  target = λ target here.
      let parts = changed_some bytes_eq was.target typed.target target here in
      let lawful = is.target target parts.0 in
      (lawful.0, (λ same. test_false (bytes_eq target was.target) parts.1 ((bytes_eq-Decides target was.target).1 same)), lawful.1);
  mode = λ mode here.
      let parts = changed_some ◌==◌ was.mode (Some typed.mode) mode here in
      let typed_is : typed.mode ≡ mode = same_Some typed.mode mode parts.0 in
      let differs : mode ≢ was.mode = (λ same. test_false (mode == was.mode) parts.1 (eq-eqb mode was.mode same)) in
      ((λ link. differs (sym typed_is ∙ is.kept link)), differs, subst IsMode typed_is is.mode);
}

asked_edit : (number : ℕ) (text : List ℕ) (name_at : ℕ) (source : Names) (was : Shown) (typed : Typed) (edit : Edit) → source ≢ [] → IsTyped was typed → (asked_of number source was typed).edit ≡ Some edit → IsOfNumber number (Entry text name_at source was) edit
unfolding asked_of
asked_edit number text name_at source was typed edit some typed_is is =
    let parts = any_some (edit_of number source was typed) edit is in
    subst (IsOfNumber number (Entry text name_at source was)) parts.0 (record {
      numbered = refl;
      is = (text, name_at, refl);
      not_root = ((λ e. some (same_Some source [] e)), λ e. typed_is.path [] (changed_some same_path source typed.path [] e).0 refl);
      lawful = typed_edit number source was typed typed_is parts.1;
    })

-- a name that was emptied is that of its line
abbrev pub IsSourceOf : BufferLine → Names → Type 0
IsSourceOf line path = (path ≢ []) × ((text : List ℕ) × (name_at : ℕ) × (was : Shown) × (line ≡ Entry text name_at path was))

asked_emptied : (number : ℕ) (text : List ℕ) (name_at : ℕ) (source : Names) (was : Shown) (typed : Typed) (path : Names) → source ≢ [] → (asked_of number source was typed).emptied ≡ Some path → IsSourceOf (Entry text name_at source was) path
unfolding asked_of
asked_emptied number text name_at source was typed path some is = by_path typed.path is
  where
    by_path : (o : Option Names) → if_emptied source o ≡ Some path → IsSourceOf (Entry text name_at source was) path
    by_path None e = let same : source ≡ path = cc in subst (IsSourceOf (Entry text name_at source was)) same (some, (text, name_at, was, refl))
    by_path (Some other) e = cc

-- what one line asks for
pub record IsAskedOf (number : ℕ) (line : BufferLine) (asked : Asked) : Type 0 where
  pub edit : (edit : Edit) → asked.edit ≡ Some edit → IsOfNumber number line edit
  pub emptied : (path : Names) → asked.emptied ≡ Some path → IsSourceOf line path

nothing_asked : (number : ℕ) (line : BufferLine) → IsAskedOf number line nothing
nothing_asked number line = record { edit = λ edit is. cc; emptied = λ path is. cc }

same_or_fault : (number : ℕ) (line : BufferLine) (same : Bool) (e : EditsFault) → AllOk (IsAskedOf number line) (if same then Ok nothing else Err e)
same_or_fault number line true e = nothing_asked number line
same_or_fault number line false e = tt

pub line_asked : (number : ℕ) (dir : Names) (line : BufferLine) (after : List ℕ) → HasSource line → AllOk (IsAskedOf number line) (line_asks number dir line after)
unfolding line_asks
line_asked number dir (Fixed text) after has = same_or_fault number (Fixed text) (bytes_eq after text) (Faulty number cause.Fixed)
line_asked number dir (Header text own) after has = same_or_fault number (Header text own) (bytes_eq after text) (Faulty number cause.Fixed)
line_asked number dir (Entry text name_at source was) after has = by_tests (bytes_eq after text) (same_fixed name_at text after)
  where
    by_tests : (x y : Bool) → AllOk (IsAskedOf number (Entry text name_at source was)) (if x then Ok nothing else if y then (typed_of number dir name_at was after >>= λ typed. Ok (asked_of number source was typed)) else Err (Faulty number cause.Fixed))
    by_tests true y = nothing_asked number (Entry text name_at source was)
    by_tests false true =
        then_all (IsAskedOf number (Entry text name_at source was)) (typed_of number dir name_at was after) (λ typed. Ok (asked_of number source was typed)) (λ typed is.
        let lawful = all_at (IsTyped was) (typed_of number dir name_at was after) typed (typed_lawful number dir name_at was after) is in
        record {
          edit = λ edit here. asked_edit number text name_at source was typed edit has lawful here;
          emptied = λ path here. asked_emptied number text name_at source was typed path has here;
        })
    by_tests false false = tt
