-- What a check hands on, by what was found.
use Rattle.std.proofs.Common.{◌≡◌, ◌⊎◌, Bool, true, false, ◌||◌, cond, List, [], ◌∷◌, Option, Some, None, refl, sym, ◌∙◌, ap, inl, inr, is_some, IsTrue, IfErr, Result, Ok, Err, IfOk, subst}
use Rattle.std.specs.BTreeMap.{get}
use Rattle.std.specs.Option.{option_map, option_or, unwrap_or}
use Rattle.std.proofs.lemmas.Bool.{false≢true}
use Rattle.std.proofs.lemmas.Option.{none-some}
use Rattle.tree_core.specs.declared.node.CallName.{CallName}
use Rattle.tree_core.specs.declared.faults.Faults.{Faults}
use Rattle.tree_core.specs.declared.changes.Confirmed.{Confirmed}
use Rattle.tree_core.specs.declared.meta.Meta.{Meta}
use Rattle.tree_core.specs.FileTree.{FileTree, IsTree}
use Rattle.tree_core.specs.History.{History}
use Rattle.tree_core.specs.Looks.{OnlyLooked, failed_in, faults_with}
use Rattle.dired_text.specs.Paths.{Names, path_cmp}
use Rattle.edit_words.specs.declared.row.Row.{Row}
use Rattle.edit_words.specs.declared.findings.Findings.{Findings}
use Rattle.edit_words.specs.declared.fault.CheckFault.{CheckFault}
use Rattle.edit_words.specs.declared.fault.CheckFault.TheVariants as fault
use Rattle.edit_words.specs.Found.{sight_in, HasFindings, HasLawfulMode, IsClosed, IsCovered, IsFreeOr, IsLookAt, IsSeen, failed_call}
use Rattle.edit_words.specs.Place.{IsAbove}
use Rattle.edit_check.specs.Checks.{IsAnswer}
use Rattle.edit_looks.specs.Looks.{IsLookEnd}
use Rattle.edit_words.specs.declared.seen.Seen.{Seen}
use Rattle.edit_words.specs.declared.seen.Seen.TheVariants.{Dir}
use Rattle.edit_words.specs.Sight.{Sight, is_dir, sight_of}
use Rattle.edit_words.specs.Refusals.{first_fault, fault_if, refusal, parents, across, changed_bytes}
use Rattle.edit_words.specs.Rows.{is_elsewhere}
use Rattle.edit_words.specs.WellFormed.{CanBeMade}
use Rattle.edit_check.proofs.SameSight.{refusal_seen}
use Rattle.edit_words.proofs.WellFormedLemmas.{taken_alone}

-- ---- What was found can stand in a tree.

-- a directory was found at the root, if that was looked at
root_dir : (f : Findings) → IsClosed f → IsSeen f [] → is_dir ((sight_in f).at []) ≡ true
root_dir f closed seen = by_found (get path_cmp f.found []) refl seen
  where
    by_found : (o : Option (Option Seen)) → get path_cmp f.found [] ≡ o → IsTrue (is_some o || false) → is_dir ((sight_in f).at []) ≡ true
    by_found None e is = absurd (false≢true is)
    by_found (Some found) e is = ap (λ (o : Option (Option Seen)). is_dir (unwrap_or o None)) e ∙ closed.can.root found e

-- and so it is where a path was looked at, and all above it
pub root_found : (f : Findings) (w : Names) → IsClosed f → IsSeen f w → ((u : Names) → IsAbove u w → IsSeen f u) → is_dir ((sight_in f).at []) ≡ true
root_found f [] closed seen above = root_dir f closed seen
root_found f (name ∷ rest) closed seen above = root_dir f closed (above [] (name, rest, refl))

pub modes_found : (f : Findings) → IsClosed f → (p : Names) → HasLawfulMode ((sight_in f).at p)
modes_found f closed p = by_found (get path_cmp f.found p) refl
  where
    by_found : (o : Option (Option Seen)) → get path_cmp f.found p ≡ o → HasLawfulMode (unwrap_or o None)
    by_found None e = λ mode no. absurd (none-some mode no)
    by_found (Some found) e = closed.can.modes p found e

-- ---- No fault of the changes names a call of the tree.

abbrev NamesNoCall : Option CheckFault → Type 0
NamesNoCall o = (f : CheckFault) → o ≡ Some f → failed_call f ≡ None

none_names : NamesNoCall None
none_names f e = cc

or_names : (a b : Option CheckFault) → NamesNoCall a → NamesNoCall b → NamesNoCall (option_or a b)
or_names None b no_a no_b = no_b
or_names (Some x) b no_a no_b = no_a

if_names : (b : Bool) (x : CheckFault) → failed_call x ≡ None → NamesNoCall (fault_if b x)
if_names true x none f e = let same : x ≡ f = cc in subst (λ (y : CheckFault). failed_call y ≡ None) same none
if_names false x none f e = cc

map_names : {A : Type 0} (g : A → CheckFault) (o : Option A) → ((a : A) → failed_call (g a) ≡ None) → NamesNoCall (option_map g o)
map_names g None none f e = cc
map_names g (Some a) none f e = let same : g a ≡ f = cc in subst (λ (y : CheckFault). failed_call y ≡ None) same (none a)

cond_names : (b : Bool) (o : Option CheckFault) → NamesNoCall o → NamesNoCall (cond b o None)
cond_names true o names = names
cond_names false o names = none_names

first_names : (rule : Row → Option CheckFault) (rs : List Row) → ((r : Row) → NamesNoCall (rule r)) → NamesNoCall (first_fault rule rs)
first_names rule [] names = none_names
first_names rule (r ∷ rs) names = or_names (rule r) _ (names r) (first_names rule rs names)

parents_names : (s : Sight) (rs : List Row) (r : Row) → NamesNoCall (parents s rs r)
parents_names s rs r = cond_names (is_elsewhere r) _ (or_names _ _ (map_names (fault.ParentNotDirectory r.line) _ (λ a. refl)) (or_names _ _ (map_names (fault.MovedParent r.line) _ (λ a. refl)) (map_names (fault.ParentTaken r.line) _ (λ a. refl))))

across_names : (s : Sight) (rs : List Row) (r : Row) → NamesNoCall (across s rs r)
across_names s rs r =
    or_names _ _ (if_names _ (fault.Reserved r.line) refl)
    (or_names _ _ (map_names (fault.TwoToOne r.line) _ (λ a. refl))
    (or_names _ _ (map_names (fault.ModeClash r.line) _ (λ a. refl))
    (or_names _ _ (parents_names s rs r) (if_names _ (fault.PathTooLong r.line) refl))))

pub refusal_names_no_call : (s : Sight) (confirmed : Confirmed) (rs : List Row) (f : CheckFault) → refusal s confirmed rs ≡ Some f → failed_call f ≡ None
refusal_names_no_call s confirmed rs =
    or_names _ _
    (or_names _ _ (if_names _ fault.Pending refl)
    (or_names _ _ (first_names _ rs (λ r. if_names _ (fault.Stale r.line) refl))
    (or_names _ _ (first_names _ rs (across_names s rs))
    (or_names _ _ (first_names _ rs (λ r. map_names (fault.TargetIsDirectory r.line) _ (λ a. refl)))
    (first_names _ rs (λ r. cond_names r.removes _ (map_names (fault.NotEmpty r.line) _ (λ a. refl))))))))
    (or_names _ _ (first_names _ rs (λ r. map_names (fault.Unconfirmed r.line) _ (λ a. refl)))
    (if_names _ (fault.PathBytes (changed_bytes s rs)) refl))

-- ---- What a decision by findings says of the tree that has them.

abbrev pub Decided : {A : Type 0} → Result A CheckFault → Option CheckFault → Type 0
Decided result wanted = IfErr result (λ f. (f ≡ fault.Memory) ⊎ (wanted ≡ Some f))

pub made : (f : Findings) (t : FileTree) (confirmed : Confirmed) (rs : List Row) → IsTree t → HasFindings f (sight_of t) → IsCovered f rs
    → refusal (sight_in f) confirmed rs ≡ None → CanBeMade t confirmed rs
made f t confirmed rs tree has covered none = (taken_alone t confirmed rs tree).0 (sym (refusal_seen f (sight_of t) confirmed rs has covered) ∙ none)

pub free : (f : CheckFault) (a b : Option CheckFault) → a ≡ b → (f ≡ fault.Memory) ⊎ (a ≡ Some f) → IsFreeOr f b
free f a b same (inl memory) = inl memory
free f a b same (inr is) = inr (inr (sym same ∙ is))

pub names_none : (s : Sight) (confirmed : Confirmed) (rs : List Row) (f : CheckFault) → (f ≡ fault.Memory) ⊎ (refusal s confirmed rs ≡ Some f) → failed_call f ≡ None
names_none s confirmed rs f (inl memory) = ap failed_call memory
names_none s confirmed rs f (inr is) = refusal_names_no_call s confirmed rs f is

-- ---- Over results.

pub err_map : {A : Type 0} (result : Result A CheckFault) (P Q : CheckFault → Type 0) → ((f : CheckFault) → P f → Q f) → IfErr result P → IfErr result Q
err_map (Ok a) P Q by held = tt
err_map (Err f) P Q by held = by f held

pub ok_map : {A : Type 0} (result : Result A CheckFault) (P Q : A → Type 0) → ((a : A) → P a → Q a) → IfOk result P → IfOk result Q
ok_map (Ok a) P Q by held = by a held
ok_map (Err f) P Q by held = tt

pub looked_by : {A : Type 0} (result : Result A CheckFault) {h i : History} {f g : Names → Meta} {b d : FileTree} → OnlyLooked None h i f g b d → IfErr result (λ f. failed_call f ≡ None)
    → OnlyLooked (failed_in failed_call result) h i f g b d
looked_by (Ok a) looked none = looked
looked_by (Err e) {h} {i} {f} {g} {b} {d} looked none = subst (λ (o : Option CallName). OnlyLooked o h i f g b d) (sym none) looked

pub faults_by : {A : Type 0} (result : Result A CheckFault) (old new : Faults) → new ≡ old → IfErr result (λ f. failed_call f ≡ None) → new ≡ faults_with (failed_in failed_call result) old
faults_by (Ok a) old new same none = same
faults_by (Err f) old new same none = subst (λ (o : Option CallName). new ≡ faults_with o old) (sym none) same

pub looks_by : {A : Type 0} (result : Result A CheckFault) → IfErr result (λ f. failed_call f ≡ None) → IsLookAt (failed_in failed_call result)
looks_by (Ok a) none = tt
looks_by (Err f) none = subst IsLookAt (sym none) tt

-- ---- Answers, whatever the tree tells.

pub answered : (s : Sight) (confirmed : Confirmed) (rs os : List Row) (f : CheckFault) → rs ≡ os → (f ≡ fault.Memory) ⊎ (refusal s confirmed rs ≡ Some f) → IsAnswer confirmed os f
answered s confirmed rs os f same (inl memory) = inl (inl memory)
answered s confirmed rs os f same (inr is) = inr (s, sym (ap (refusal s confirmed) same) ∙ is)

-- something stands everywhere
abbrev full : Sight
full = record { at = λ p. Some (Dir 0); is_empty = λ p. false }

pub end_answered : (confirmed : Confirmed) (rs : List Row) (f : CheckFault) → IsLookEnd rs f → IsAnswer confirmed rs f
end_answered confirmed rs f (inl pending) = inr (full, ap (λ (x : CheckFault). Some x) (sym pending))
end_answered confirmed rs f (inr stale) = inl stale
