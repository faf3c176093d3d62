-- What an edited line of an entry shows, as it is read and as it is said.
use Rattle.std.proofs.Common.{◌≡◌, ◌≢◌, ◌⊎◌, inl, inr, ℕ, suc, ◌+◌, ◌≤◌, Bool, true, false, not, ◌&&◌, ◌==◌, List, [], ◌∷◌, ◌++◌, length, take, drop, refl, sym, ◌∙◌, ap, subst, arith, Option, Some, None, Result, Ok, Err, option_map, if◌then◌else◌, append_assoc, eq-eqb}
use Rattle.std.proofs.Math.Seq.{take-append_seam, drop-append_seam, drop-append-add}
use Rattle.std.proofs.lemmas.Bool.{cases_Bool, eqb-true}
use Rattle.std.proofs.lemmas.List.{take-append-drop, length-take}
use Rattle.std.proofs.lemmas.Option.{same_Some}
use Rattle.std.specs.Option.{option_and_then}
use Rattle.std.specs.Str.{bytes_eq, is_utf8}
use Rattle.dired_text.specs.Modes.{mode_letters, read_letters}
use Rattle.dired_text.specs.Paths.{Names}
use Rattle.dired_text.specs.Resolve.{resolved}
use Rattle.dired_text.specs.declared.resolving.NameError.{NameError}
use Rattle.dired_text.proofs.ModeLemmas.{mode_of_text, text_of_mode}
use Rattle.tree_core.specs.declared.edit.Shown.{Shown}
use Rattle.tree_core.specs.declared.node.Kind.{Kind}
use Rattle.tree_core.specs.declared.node.Kind.TheVariants.{File, Dir, Link}
use Rattle.listing_text.specs.Fields.{name_of, plain_of, target_of, arrow_place}
use Rattle.listing_text.specs.Grammar.{IsModeOf}
use Rattle.listing_text.specs.Listed.{arrow, is_link}
use Rattle.listing_text.specs.Reading.{◌>>=◌}
use Rattle.listing_text.proofs.FieldReads.{map-some}
use Rattle.wdired_buffer.specs.declared.faults.EditsFault.{EditsFault}
use Rattle.wdired_buffer.specs.declared.faults.LineCause.{LineCause}
use Rattle.wdired_buffer.specs.declared.faults.LineCause.TheVariants as cause
use Rattle.wdired_buffer.specs.declared.typed.Typed.{Typed}
use Rattle.wdired_buffer.specs.Headers.{named, if_resolved}
use Rattle.wdired_buffer.specs.Edits.{or_faulty, texts_in, link_texts, path_typed, kept, mode_typed, target_typed, typed_of}
use Rattle.buffer_laws.specs.Differences.{Fields, IsNameText, IsNamesText}
use Rattle.buffer_laws.proofs.HeaderLemmas.{bind_ok, bind_some, same_bytes}

-- ---- the path

resolved_is : (r : Result Names NameError) (path : Names) → if_resolved r ≡ Some path → r ≡ Ok path
resolved_is (Ok p) path e = ap Ok (same_Some p path e)
resolved_is (Err x) path e = cc

named-from : (dir : Names) (shown : List ℕ) (path : Names) → named dir shown ≡ Some path → IsNameText dir (Some path) shown
unfolding named
named-from dir shown path e =
    let b = bind_some (name_of shown) (λ name. if_resolved (resolved dir name)) path e in
    (b.0, b.1, resolved_is (resolved dir b.0) path b.2)

named-is : (dir : Names) (shown : List ℕ) (path : Names) → IsNameText dir (Some path) shown → named dir shown ≡ Some path
unfolding named
named-is dir shown path h = ap (option_and_then (λ name. if_resolved (resolved dir name))) h.1 ∙ ap if_resolved h.2

none_empty : name_of [] ≡ None
unfolding name_of plain_of
none_empty = elim (cases_Bool (is_utf8 [])) [ inl text ↦ rw text refl | inr other ↦ rw other refl ]

path-from : (dir : Names) (shown : List ℕ) (path : Option Names) → path_typed dir shown ≡ Some path → IsNameText dir path shown
unfolding path_typed
path-from dir [] None e = refl
path-from dir [] (Some p) e = cc
path-from dir (b ∷ bs) path e =
    let inner = map-some Some (named dir (b ∷ bs)) path e in
    subst (λ (o : Option Names). IsNameText dir o (b ∷ bs)) inner.2 (named-from dir (b ∷ bs) inner.0 inner.1)

path-is : (dir : Names) (shown : List ℕ) (path : Option Names) → IsNameText dir path shown → path_typed dir shown ≡ Some path
unfolding path_typed
path-is dir [] None is = refl
path-is dir [] (Some p) is = let none : None ≡ Some is.0 = sym none_empty ∙ is.1 in cc
path-is dir (b ∷ bs) None is = cc
path-is dir (b ∷ bs) (Some p) is = ap (option_map Some) (named-is dir (b ∷ bs) p is)

-- ---- the mode

kept-from : (was : Shown) (o : Option ℕ) (mode : ℕ) → kept was o ≡ Some mode → (o ≡ Some mode) × ((is_link was.kind && not (mode == was.mode)) ≡ false)
kept-from was None mode e = cc
kept-from was (Some m) mode e = elim (cases_Bool (is_link was.kind && not (m == was.mode))) [
  | inl bad ↦ let none : None ≡ Some mode = rw bad at e in cc
  | inr good ↦
      let same : Some m ≡ Some mode = rw good at e in
      let is : m ≡ mode = same_Some m mode same in
      (same, subst (λ (n : ℕ). (is_link was.kind && not (n == was.mode)) ≡ false) is good)
]

link_mode : (kind : Kind) (mode own : ℕ) → mode ≤ 0o7777 → IsModeOf kind own → (is_link kind && not (mode == own)) ≡ false → IsModeOf kind mode
link_mode File mode own low is good = low
link_mode Dir mode own low is good = low
link_mode Link mode own low is good = elim (cases_Bool (mode == own)) [
  | inl same ↦ eqb-true mode own same ∙ is
  | inr other ↦ let no : true ≡ false = rw other at good in cc
]

pub mode-from : (was : Shown) (letters : List ℕ) (mode : ℕ) → IsModeOf was.kind was.mode → mode_typed was letters ≡ Some mode → (letters ≡ mode_letters mode) × IsModeOf was.kind mode
unfolding mode_typed
mode-from was letters mode own e =
    let parts = kept-from was (read_letters letters) mode e in
    let read = mode_of_text letters mode parts.0 in
    (sym read.1, link_mode was.kind mode was.mode read.0 own parts.1)

low_mode : (kind : Kind) (mode : ℕ) → IsModeOf kind mode → mode ≤ 0o7777
low_mode File mode is = is
low_mode Dir mode is = is
low_mode Link mode is = omega arith

own_mode : (kind : Kind) (mode own : ℕ) → IsModeOf kind mode → IsModeOf kind own → (is_link kind && not (mode == own)) ≡ false
own_mode File mode own is also = refl
own_mode Dir mode own is also = refl
own_mode Link mode own is also = let same : mode ≡ own = is ∙ sym also in rw (eq-eqb mode own same) refl

pub mode-is : (was : Shown) (mode : ℕ) → IsModeOf was.kind was.mode → IsModeOf was.kind mode → mode_typed was (mode_letters mode) ≡ Some mode
unfolding mode_typed
mode-is was mode own is = rw (text_of_mode mode (low_mode was.kind mode is), own_mode was.kind mode was.mode is own) refl

-- ---- name and target

arrow-here : (text : List ℕ) → bytes_eq (take 4 text) arrow ≡ true → text ≡ arrow ++ drop 4 text
arrow-here text is = sym (take-append-drop 4 text) ∙ ap (λ (t : List ℕ). t ++ drop 4 text) (same_bytes (take 4 text) arrow is)

arrow-found : (text : List ℕ) (place : ℕ) → arrow_place text ≡ Some place → (place ≤ length text) × (drop place text ≡ arrow ++ drop (place + 4) text)
unfolding arrow_place
arrow-found [] place e = cc
arrow-found (b ∷ bs) place e = elim (cases_Bool (bytes_eq (take 4 (b ∷ bs)) arrow)) [
  | inl is ↦ let got : Some 0 ≡ Some place = rw is at e in
      subst (λ n. (n ≤ length (b ∷ bs)) × (drop n (b ∷ bs) ≡ arrow ++ drop (n + 4) (b ∷ bs))) (same_Some 0 place got) (omega arith, arrow-here (b ∷ bs) is)
  | inr other ↦ let got : option_map suc (arrow_place bs) ≡ Some place = rw other at e in
      let inner = map-some suc (arrow_place bs) place got in
      let found = arrow-found bs inner.0 inner.1 in
      let next : suc (inner.0 + 4) ≡ suc inner.0 + 4 = omega arith in
      subst (λ n. (n ≤ length (b ∷ bs)) × (drop n (b ∷ bs) ≡ arrow ++ drop (n + 4) (b ∷ bs))) inner.2
      (omega (arith, found.0), found.1 ∙ ap (λ n. arrow ++ drop n (b ∷ bs)) next)
]

-- the target that is read of an entry: a link has one
abbrev pub target_read : Kind → List ℕ → Option (List ℕ)
target_read File target = None
target_read Dir target = None
target_read Link target = Some target

-- what is read of the names of an edited line
pub record NamesRead (kind : Kind) (dir : Names) (path : Option Names) (target : List ℕ) (names : List ℕ) : Type 0 where
  pub path_is : path_typed dir (texts_in kind names).0 ≡ Some path
  pub target_is : target_typed kind (texts_in kind names).1 ≡ Some (target_read kind target)

link_is : (dir : Names) (path : Option Names) (target names name_shown target_shown : List ℕ) → names ≡ name_shown ++ (arrow ++ target_shown) → arrow_place names ≡ Some (length name_shown)
    → IsNameText dir path name_shown → target_of target_shown ≡ Some target → NamesRead Link dir path target names
unfolding texts_in target_typed
link_is dir path target names name_shown target_shown is place path_is target_is =
    let front : take (length name_shown) names ≡ name_shown = ap (take (length name_shown)) is ∙ take-append_seam name_shown (arrow ++ target_shown) in
    let back : drop (length name_shown + 4) names ≡ target_shown = ap (drop (length name_shown + 4)) is ∙ drop-append-add name_shown (arrow ++ target_shown) 4 in
    record {
      path_is = ap (λ (o : Option ℕ). path_typed dir (link_texts names o).0) place ∙ ap (path_typed dir) front ∙ path-is dir name_shown path path_is;
      target_is = ap (λ (o : Option ℕ). target_typed Link (link_texts names o).1) place ∙ ap (λ (t : List ℕ). option_map Some (target_of t)) back ∙ ap (option_map Some) target_is;
    }

pub names-read : (kind : Kind) (dir : Names) (path : Option Names) (target names : List ℕ) → IsNamesText kind dir path target names → NamesRead kind dir path target names
unfolding texts_in target_typed
names-read File dir path target names h = record { path_is = path-is dir names path h.0; target_is = refl }
names-read Dir dir path target names h = record { path_is = path-is dir names path h.0; target_is = refl }
names-read Link dir path target names (name_shown, target_shown, is, place, path_is, target_is) = link_is dir path target names name_shown target_shown is place path_is target_is

-- and the other way round
pub record NamesShown (kind : Kind) (dir : Names) (path : Option Names) (typed : Option (List ℕ)) (names : List ℕ) : Type 0 where
  pub target : List ℕ
  pub typed_is : typed ≡ target_read kind target
  pub shown : IsNamesText kind dir path target names

link_from : (dir : Names) (path : Option Names) (typed : Option (List ℕ)) (names : List ℕ) (place : Option ℕ) → arrow_place names ≡ place → path_typed dir (link_texts names place).0 ≡ Some path
    → target_typed Link (link_texts names place).1 ≡ Some typed → NamesShown Link dir path typed names
unfolding target_typed
link_from dir path typed names None is path_is target_is = cc
link_from dir path typed names (Some place) is path_is target_is =
    let found = arrow-found names place is in
    let inner = map-some Some (target_of (drop (place + 4) names)) typed target_is in
    let long : length (take place names) ≡ place = (let l = length-take place names in let low = found.0 in omega arith) in
    let whole : names ≡ take place names ++ (arrow ++ drop (place + 4) names) =
    sym (take-append-drop place names) ∙ ap (λ (t : List ℕ). take place names ++ t) found.1 in
    record {
      target = inner.0;
      typed_is = sym inner.2;
      shown = (take place names, drop (place + 4) names, whole, is ∙ ap Some (sym long), path-from dir (take place names) path path_is, inner.1);
    }

pub names-shown : (kind : Kind) (dir : Names) (path : Option Names) (typed : Option (List ℕ)) (names : List ℕ) → path_typed dir (texts_in kind names).0 ≡ Some path
    → target_typed kind (texts_in kind names).1 ≡ Some typed → NamesShown kind dir path typed names
unfolding texts_in target_typed
names-shown File dir path typed names path_is target_is = record { target = []; typed_is = sym (same_Some None typed target_is); shown = (path-from dir names path path_is, refl) }
names-shown Dir dir path typed names path_is target_is = record { target = []; typed_is = sym (same_Some None typed target_is); shown = (path-from dir names path path_is, refl) }
names-shown Link dir path typed names path_is target_is = link_from dir path typed names (arrow_place names) refl path_is target_is

-- ---- the whole line

-- what is read of the parts of an edited line
pub record PartsRead (dir : Names) (name_at : ℕ) (was : Shown) (after : List ℕ) (typed : Typed) : Type 0 where
  pub path_is : path_typed dir (texts_in was.kind (drop name_at after)).0 ≡ Some typed.path
  pub mode_is : mode_typed was (take 9 (drop 3 after)) ≡ Some typed.mode
  pub target_is : target_typed was.kind (texts_in was.kind (drop name_at after)).1 ≡ Some typed.target

pub typed-is : (number : ℕ) (dir : Names) (name_at : ℕ) (was : Shown) (after : List ℕ) (typed : Typed) → PartsRead dir name_at was after typed → typed_of number dir name_at was after ≡ Ok typed
unfolding typed_of
typed-is number dir name_at was after typed h = rw (h.path_is, h.mode_is, h.target_is) refl

faulty_some : {A : Type 0} (number : ℕ) (c : LineCause) (o : Option A) (a : A) → or_faulty number c o ≡ Ok a → o ≡ Some a
faulty_some number c (Some b) a e = cc
faulty_some number c None a e = cc

pub typed-from : (number : ℕ) (dir : Names) (name_at : ℕ) (was : Shown) (after : List ℕ) (typed : Typed) → typed_of number dir name_at was after ≡ Ok typed → PartsRead dir name_at was after typed
unfolding typed_of
typed-from number dir name_at was after typed e =
    let texts = texts_in was.kind (drop name_at after) in
    let first = or_faulty number cause.BadName (path_typed dir texts.0) in
    let second = or_faulty number cause.BadMode (mode_typed was (take 9 (drop 3 after))) in
    let third = or_faulty number cause.BadTarget (target_typed was.kind texts.1) in
    let b1 = bind_ok first (λ path. second >>= λ mode. third >>= λ target. Ok (record { path = path; mode = mode; target = target })) typed e in
    let b2 = bind_ok second (λ mode. third >>= λ target. Ok (record { path = b1.0; mode = mode; target = target })) typed b1.2 in
    let b3 = bind_ok third (λ target. Ok (record { path = b1.0; mode = b2.0; target = target })) typed b2.2 in
    let read : Typed = record { path = b1.0; mode = b2.0; target = b3.0 } in
    let same : read ≡ typed = cc in
    subst (PartsRead dir name_at was after) same (record {
      path_is = faulty_some number cause.BadName (path_typed dir texts.0) b1.0 b1.1;
      mode_is = faulty_some number cause.BadMode (mode_typed was (take 9 (drop 3 after))) b2.0 b2.1;
      target_is = faulty_some number cause.BadTarget (target_typed was.kind texts.1) b3.0 b3.1;
    })
