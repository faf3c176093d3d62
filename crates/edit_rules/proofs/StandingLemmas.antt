-- What stands at the paths above a path.
use Rattle.std.proofs.Common.{◌≡◌, ◌⊎◌, inl, inr, ◌<◌, ◌≤◌, ◌+◌, ℕ, zero, suc, Bool, true, false, cond, not, List, [], ◌∷◌, ◌++◌, length, length-append, map, take, drop, filter, get_or, Option, Some, None, is_some, option_map, refl, sym, ◌∙◌, ap, ap₂, subst, arith, append_assoc, append-nil}
use Rattle.std.proofs.lemmas.Bool.{cases_Bool, false≢true}
use Rattle.std.proofs.lemmas.List.{take-map, take_more, drop_more, length-map}
use Rattle.std.proofs.lemmas.Option.{same_Some, slice_get-get_or}
use Rattle.std.specs.BTreeMap.{get}
use Rattle.std.specs.List.{find}
use Rattle.std.specs.Option.{unwrap_or, option_or}
use Rattle.dired_text.specs.Paths.{Names, path_bytes, path_cmp, slashed}
use Rattle.edit_words.specs.declared.findings.Findings.{Findings}
use Rattle.edit_words.specs.declared.seen.Seen.{Seen}
use Rattle.edit_words.specs.declared.seen.Seen.TheVariants as seen
use Rattle.edit_words.specs.Found.{sight_in}
use Rattle.edit_words.specs.Place.{ancestors}
use Rattle.edit_words.specs.Refusals.{total}
use Rattle.edit_words.specs.Sight.{is_other}
use Rattle.edit_words.proofs.AncestorLemmas.{ancestors_counted}
use Rattle.edit_words.specs.Rows.{is_same_path}
use Rattle.edit_words.proofs.SameLemmas.{same_path, same_swapped}
use Rattle.edit_words.proofs.AlikeLemmas.{find_alike, filter_alike}
use Rattle.path_map.specs.declared.map.PathMap.{PathMap}
use Rattle.path_map.specs.Walks.{firsts, value_at}
use Rattle.edit_rules.specs.declared.claims.Claim.{Claim}
use Rattle.edit_rules.specs.declared.standing.Found.{Found}
use Rattle.edit_rules.specs.Claims.{first_line, least_line, lesser}
use Rattle.edit_rules.specs.Standing.{IsStanding, bytes_from, bytes_missing, found_as, is_other_found, is_standing, least_missing, other_in, paths_missing}

-- ---- the paths above a path, from a path down

pub firsts_above : (p : Names) → take (length p) (firsts p) ≡ ancestors p
firsts_above [] = refl
firsts_above (n ∷ p) = ap (λ (qs : List Names). [] ∷ qs) (take-map (λ (q : Names). n ∷ q) (length p) (firsts p) ∙ ap (map (λ (q : Names). n ∷ q)) (firsts_above p))

-- this path and those with more of these names, but for the last
abbrev down : Names → Names → List Names
down old [] = []
down old (n ∷ p) = old ∷ down (old ++ n ∷ []) p

shifted : (old : Names) (n : List ℕ) (qs : List Names) → map (λ (q : Names). (old ++ n ∷ []) ++ q) qs ≡ map (λ (q : Names). old ++ q) (map (λ (q : Names). n ∷ q) qs)
shifted old n [] = refl
shifted old n (q ∷ qs) = ap₂ (λ (r : Names) (rs : List Names). r ∷ rs) (append_assoc old (n ∷ []) q) (shifted old n qs)

down_is : (old p : Names) → down old p ≡ map (λ (q : Names). old ++ q) (ancestors p)
down_is old [] = refl
down_is old (n ∷ p) = ap₂ (λ (r : Names) (rs : List Names). r ∷ rs) (sym (append-nil old)) (down_is (old ++ n ∷ []) p ∙ shifted old n (ancestors p))

map_same : (qs : List Names) → map (λ (q : Names). q) qs ≡ qs
map_same [] = refl
map_same (q ∷ qs) = ap (λ (rs : List Names). q ∷ rs) (map_same qs)

down_from_root : (p : Names) → down [] p ≡ ancestors p
down_from_root p = down_is [] p ∙ map_same (ancestors p)

-- ---- what is found at these

other_found : (f : Names → Option Found) (old p : Names) → other_in old p (map f (down old p)) ≡ find (λ (q : Names). is_other_found (f q)) (down old p)
other_found f old [] = refl
other_found f old (n ∷ p) = ap (λ (o : Option Names). cond (is_other_found (f old)) (Some old) o) (other_found f (old ++ n ∷ []) p)

paths_found : (f : Names → Option Found) (old p : Names) → paths_missing old p (map f (down old p)) ≡ filter (λ (q : Names). not (is_standing (f q))) (down old p)
paths_found f old [] = refl
paths_found f old (n ∷ p) = go (is_standing (f old)) (paths_found f (old ++ n ∷ []) p)
  where
    go : (b : Bool) → paths_missing (old ++ n ∷ []) p (map f (down (old ++ n ∷ []) p)) ≡ filter (λ (q : Names). not (is_standing (f q))) (down (old ++ n ∷ []) p)
        → cond b [] (old ∷ []) ++ paths_missing (old ++ n ∷ []) p (map f (down (old ++ n ∷ []) p))
        ≡ cond (not b) (old ∷ filter (λ (q : Names). not (is_standing (f q))) (down (old ++ n ∷ []) p)) (filter (λ (q : Names). not (is_standing (f q))) (down (old ++ n ∷ []) p))
    go true later = later
    go false later = ap (λ (rs : List Names). old ∷ rs) later

slashed_pushed : (p : Names) (n : List ℕ) → length (slashed (p ++ n ∷ [])) ≡ length (slashed p) + 1 + length n
slashed_pushed [] n = let e : length (n ++ []) ≡ length n + 0 = length-append n [] in omega (arith, e)
slashed_pushed (m ∷ p) n =
    let later : length (slashed (p ++ n ∷ [])) ≡ length (slashed p) + 1 + length n = slashed_pushed p n in
    let a : length (m ++ slashed (p ++ n ∷ [])) ≡ length m + length (slashed (p ++ n ∷ [])) = length-append m (slashed (p ++ n ∷ [])) in
    let b : length (m ++ slashed p) ≡ length m + length (slashed p) = length-append m (slashed p) in
    omega (arith, later, a, b)

bytes_pushed : (m : List ℕ) (p : Names) (n : List ℕ) → path_bytes (m ∷ p ++ n ∷ []) ≡ path_bytes (m ∷ p) + 1 + length n
bytes_pushed m p n =
    let later : length (slashed (p ++ n ∷ [])) ≡ length (slashed p) + 1 + length n = slashed_pushed p n in
    let a : length (m ++ slashed (p ++ n ∷ [])) ≡ length m + length (slashed (p ++ n ∷ [])) = length-append m (slashed (p ++ n ∷ [])) in
    let b : length (m ++ slashed p) ≡ length m + length (slashed p) = length-append m (slashed p) in
    omega (arith, later, a, b)

bytes_found : (f : Names → Option Found) (m : List ℕ) (old p : Names) → bytes_from (path_bytes (m ∷ old)) p (map f (down (m ∷ old) p)) ≡ total path_bytes (filter (λ (q : Names). not (is_standing (f q))) (down (m ∷ old) p))
bytes_found f m old [] = refl
bytes_found f m old (n ∷ p) =
    ap (λ (k : ℕ). cond (is_standing (f (m ∷ old))) 0 (path_bytes (m ∷ old)) + bytes_from k p (map f (down (m ∷ old ++ n ∷ []) p))) (sym (bytes_pushed m old n))
    ∙ go (is_standing (f (m ∷ old))) (bytes_found f m (old ++ n ∷ []) p)
  where
    go : (b : Bool) → bytes_from (path_bytes (m ∷ old ++ n ∷ [])) p (map f (down (m ∷ old ++ n ∷ []) p)) ≡ total path_bytes (filter (λ (q : Names). not (is_standing (f q))) (down (m ∷ old ++ n ∷ []) p))
        → cond b 0 (path_bytes (m ∷ old)) + bytes_from (path_bytes (m ∷ old ++ n ∷ [])) p (map f (down (m ∷ old ++ n ∷ []) p))
        ≡ total path_bytes (cond (not b) ((m ∷ old) ∷ filter (λ (q : Names). not (is_standing (f q))) (down (m ∷ old ++ n ∷ []) p)) (filter (λ (q : Names). not (is_standing (f q))) (down (m ∷ old ++ n ∷ []) p)))
    go true later = omega (arith, later)
    go false later = ap (λ (k : ℕ). path_bytes (m ∷ old) + k) later

all_bytes_found : (f : Names → Option Found) (p : Names) → bytes_missing p (map f (down [] p)) ≡ total path_bytes (filter (λ (q : Names). not (is_standing (f q))) (down [] p))
all_bytes_found f [] = refl
all_bytes_found f (n ∷ p) = ap (λ (k : ℕ). bytes_from k p (map f (down (n ∷ []) p))) one ∙ go (is_standing (f [])) (bytes_found f n [] p)
  where
    one : length n ≡ path_bytes (n ∷ [])
    one = let e : length (n ++ []) ≡ length n + 0 = length-append n [] in omega (arith, e)

    go : (b : Bool) → bytes_from (path_bytes (n ∷ [])) p (map f (down (n ∷ []) p)) ≡ total path_bytes (filter (λ (q : Names). not (is_standing (f q))) (down (n ∷ []) p))
        → bytes_from (path_bytes (n ∷ [])) p (map f (down (n ∷ []) p))
        ≡ total path_bytes (cond (not b) ([] ∷ filter (λ (q : Names). not (is_standing (f q))) (down (n ∷ []) p)) (filter (λ (q : Names). not (is_standing (f q))) (down (n ∷ []) p)))
    go true later = later
    go false later = omega (arith, later)

least_found_missing : (g : Names → Option Claim) (f : Names → Option Found) (so_far : Option ℕ) (ps : List Names)
    → least_missing so_far (map g ps) (map f ps) ≡ least_line (λ (p : Names). first_line (g p)) so_far (filter (λ (p : Names). not (is_standing (f p))) ps)
least_found_missing g f so_far [] = refl
least_found_missing g f so_far (p ∷ ps) = go (λ (o : Option ℕ). least_found_missing g f o ps) (is_standing (f p))
  where
    go : ((o : Option ℕ) → least_missing o (map g ps) (map f ps) ≡ least_line (λ (p : Names). first_line (g p)) o (filter (λ (p : Names). not (is_standing (f p))) ps)) → (b : Bool)
        → least_missing (cond b so_far (lesser so_far (first_line (g p)))) (map g ps) (map f ps)
        ≡ least_line (λ (p : Names). first_line (g p)) so_far (cond (not b) (p ∷ filter (λ (p : Names). not (is_standing (f p))) ps) (filter (λ (p : Names). not (is_standing (f p))) ps))
    go later true = later so_far
    go later false = later (lesser so_far (first_line (g p)))

pub least_map : {A B : Type 0} (f : B → Option ℕ) (g : A → B) (so_far : Option ℕ) (xs : List A) → least_line f so_far (map g xs) ≡ least_line (λ (x : A). f (g x)) so_far xs
least_map f g so_far [] = refl
least_map f g so_far (x ∷ xs) = least_map f g (lesser so_far (f (g x))) xs

-- ---- by the findings

other_by : (o : Option (Option Seen)) → is_other_found (option_map found_as o) ≡ is_other (unwrap_or o None)
other_by None = refl
other_by (Some None) = refl
other_by (Some (Some (seen.Dir mode))) = refl
other_by (Some (Some (seen.Link target))) = refl
other_by (Some (Some (seen.File number mode))) = refl

stands_by : (o : Option (Option Seen)) → is_standing (option_map found_as o) ≡ is_some (unwrap_or o None)
stands_by None = refl
stands_by (Some None) = refl
stands_by (Some (Some (seen.Dir mode))) = refl
stands_by (Some (Some (seen.Link target))) = refl
stands_by (Some (Some (seen.File number mode))) = refl

module _ (m : PathMap Found) (f : Findings) (is : IsStanding m f) where
  other_at : (p : Names) → is_other_found (value_at m p) ≡ is_other ((sight_in f).at p)
  other_at p = ap is_other_found (is p) ∙ other_by (get path_cmp f.found p)

  stands_at : (p : Names) → is_standing (value_at m p) ≡ is_some ((sight_in f).at p)
  stands_at p = ap is_standing (is p) ∙ stands_by (get path_cmp f.found p)

  missing_alike : (ps : List Names) → filter (λ (q : Names). not (is_standing (value_at m q))) ps ≡ filter (λ (q : Names). not (is_some ((sight_in f).at q))) ps
  missing_alike ps = filter_alike _ _ ps (λ q listed. ap not (stands_at q))

  pub other_rule : (p : Names) (found : List (Option Found)) → found ≡ map (value_at m) (take (length p) (firsts p)) → other_in [] p found ≡ find (λ (q : Names). is_other ((sight_in f).at q)) (ancestors p)
  other_rule p found e =
      ap (other_in [] p) (e ∙ ap (map (value_at m)) (firsts_above p ∙ sym (down_from_root p)))
      ∙ other_found (value_at m) [] p
      ∙ find_alike _ _ (down [] p) (λ q listed. other_at q)
      ∙ ap (find (λ (q : Names). is_other ((sight_in f).at q))) (down_from_root p)

  pub paths_rule : (p : Names) (found : List (Option Found)) → found ≡ map (value_at m) (take (length p) (firsts p)) → paths_missing [] p found ≡ filter (λ (q : Names). not (is_some ((sight_in f).at q))) (ancestors p)
  paths_rule p found e =
      ap (paths_missing [] p) (e ∙ ap (map (value_at m)) (firsts_above p ∙ sym (down_from_root p)))
      ∙ paths_found (value_at m) [] p
      ∙ missing_alike (down [] p)
      ∙ ap (filter (λ (q : Names). not (is_some ((sight_in f).at q)))) (down_from_root p)

  pub bytes_rule : (p : Names) (found : List (Option Found)) → found ≡ map (value_at m) (take (length p) (firsts p)) → bytes_missing p found ≡ total path_bytes (filter (λ (q : Names). not (is_some ((sight_in f).at q))) (ancestors p))
  bytes_rule p found e =
      ap (bytes_missing p) (e ∙ ap (map (value_at m)) (firsts_above p ∙ sym (down_from_root p)))
      ∙ all_bytes_found (value_at m) p
      ∙ ap (total path_bytes) (missing_alike (down [] p) ∙ ap (filter (λ (q : Names). not (is_some ((sight_in f).at q)))) (down_from_root p))

  pub least_rule : (g : Names → Option Claim) (p : Names) (found : List (Option Found)) → found ≡ map (value_at m) (take (length p) (firsts p))
      → least_missing None (map g (ancestors p)) found ≡ least_line (λ (q : Names). first_line (g q)) None (filter (λ (q : Names). not (is_some ((sight_in f).at q))) (ancestors p))
  least_rule g p found e =
      ap (least_missing None (map g (ancestors p))) (e ∙ ap (map (value_at m)) (firsts_above p))
      ∙ least_found_missing g (value_at m) None (ancestors p)
      ∙ ap (least_line (λ (q : Names). first_line (g q)) None) (missing_alike (ancestors p))

-- as many are found as the path has names
pub as_many : (m : PathMap Found) (p : Names) (found : List (Option Found)) → found ≡ map (value_at m) (take (length p) (firsts p)) → length found ≡ length p
as_many m p found e = ap length e ∙ length-map (take (length p) (firsts p)) (value_at m) ∙ ap length (firsts_above p) ∙ ancestors_counted p

-- ---- step by step

module _ (path : Names) (found : List (Option Found)) (k : ℕ) (x : Option Found) (long : length found ≡ length path) (less : k < length path) (is : x ≡ get_or found k x) where
  abbrev name : List ℕ
  name = get_or path k []

  more : take (k + 1) path ≡ take k path ++ name ∷ []
  more = take_more path k [] less

  names : drop k path ≡ name ∷ drop (k + 1) path
  names = drop_more path k [] less

  founds : drop k found ≡ x ∷ drop (k + 1) found
  founds = let within : k < length found = omega (arith, long, less) in drop_more found k x within ∙ ap (λ (y : Option Found). y ∷ drop (k + 1) found) (sym is)

  pub paths_next : paths_missing (take k path) (drop k path) (drop k found) ≡ cond (is_standing x) [] (take k path ∷ []) ++ paths_missing (take (k + 1) path) (drop (k + 1) path) (drop (k + 1) found)
  paths_next =
      ap₂ (paths_missing (take k path)) names founds
      ∙ ap (λ (q : Names). cond (is_standing x) [] (take k path ∷ []) ++ paths_missing q (drop (k + 1) path) (drop (k + 1) found)) (sym more)

  pub other_next : other_in (take k path) (drop k path) (drop k found) ≡ cond (is_other_found x) (Some (take k path)) (other_in (take (k + 1) path) (drop (k + 1) path) (drop (k + 1) found))
  other_next =
      ap₂ (other_in (take k path)) names founds
      ∙ ap (λ (q : Names). cond (is_other_found x) (Some (take k path)) (other_in q (drop (k + 1) path) (drop (k + 1) found))) (sym more)

-- what is shown of an element
pub shown_at : {A B : Type 0} (h : A → B) (xs : List A) (k : ℕ) (x : A) → k < length xs → x ≡ get_or xs k x → h x ≡ get_or (map h xs) k (h x)
shown_at h [] k x less is = absurd (omega (arith, less))
shown_at h (y ∷ ys) zero x less is = ap h is
shown_at h (y ∷ ys) (suc k) x less is = shown_at h ys k x (omega (arith, less)) is

-- ---- what is noted where nothing was

pub got_none : {A B : Type 0} (h : A → B) (o : Option A) (v : Option B) → is_some o ≡ false → option_map h o ≡ v → v ≡ None
got_none h None v none is = sym is
got_none h (Some a) v none is = absurd (false≢true (sym none))

pub got_some : {A B : Type 0} (h : A → B) (o : Option A) (v : Option B) → is_some o ≡ true → option_map h o ≡ v → is_some v ≡ true
got_some h None v some is = absurd (false≢true some)
got_some h (Some a) v some is = ap is_some (sym is)

or_none : {A : Type 0} (o : Option A) → option_or o None ≡ o
or_none None = refl
or_none (Some a) = refl

or_some : {A : Type 0} (o b : Option A) → is_some o ≡ true → o ≡ option_or o b
or_some None b some = absurd (false≢true some)
or_some (Some a) b some = refl

pub first_noted : {V : Type 0} (old : Names → Option V) (w : Names → V) (path p : Names) (v : V) → old path ≡ None → v ≡ w path
    → cond (is_same_path path p) (Some v) (old p) ≡ option_or (old p) (cond (is_same_path p path) (Some (w p)) None)
first_noted {V} old w path p v none is = go (cases_Bool (is_same_path path p))
  where
    go : (is_same_path path p ≡ true) ⊎ (is_same_path path p ≡ false) → cond (is_same_path path p) (Some v) (old p) ≡ option_or (old p) (cond (is_same_path p path) (Some (w p)) None)
    go (inl same) =
        let e : path ≡ p = same_path path p same in
        let there : old p ≡ None = sym (ap old e) ∙ none in
        let back : is_same_path p path ≡ true = same_swapped p path ∙ same in
        ap (λ b. cond b (Some v) (old p)) same ∙ ap (λ (x : V). Some x) (is ∙ ap w e) ∙ sym (ap (λ b. option_or (old p) (cond b (Some (w p)) None)) back ∙ ap (λ o. option_or o (Some (w p))) there)
    go (inr differs) =
        let back : is_same_path p path ≡ false = same_swapped p path ∙ differs in
        ap (λ b. cond b (Some v) (old p)) differs ∙ sym (ap (λ b. option_or (old p) (cond b (Some (w p)) None)) back ∙ or_none (old p))

pub first_kept : {V : Type 0} (old : Names → Option V) (w : Names → V) (path p : Names) → is_some (old path) ≡ true → old p ≡ option_or (old p) (cond (is_same_path p path) (Some (w p)) None)
first_kept old w path p some = go (cases_Bool (is_same_path p path))
  where
    go : (is_same_path p path ≡ true) ⊎ (is_same_path p path ≡ false) → old p ≡ option_or (old p) (cond (is_same_path p path) (Some (w p)) None)
    go (inl same) = or_some (old p) _ (ap (λ q. is_some (old q)) (same_path p path same) ∙ some)
    go (inr differs) = sym (ap (λ b. option_or (old p) (cond b (Some (w p)) None)) differs ∙ or_none (old p))

-- the least line of the claims above a path
pub least_above : {A : Type 0} (h : A → Option Claim) (items : List A) (m : PathMap Claim) (p : Names) → map h items ≡ map (value_at m) (take (length p) (firsts p))
    → least_line (λ (a : A). first_line (h a)) None items ≡ least_line (λ (q : Names). first_line (value_at m q)) None (ancestors p)
least_above h items m p e =
    sym (least_map first_line h None items)
    ∙ ap (least_line first_line None) (e ∙ ap (map (value_at m)) (firsts_above p))
    ∙ least_map first_line (value_at m) None (ancestors p)

-- ---- step by step, in a list that shows them

module _ {A : Type 0} (h : A → Option Found) (path : Names) (above : List A) (at : ℕ) (d : A) (long : length above ≡ length path) (within : at < length above) where
  as_long : length (map h above) ≡ length path
  as_long = length-map above h ∙ long

  less : at < length path
  less = omega (arith, long, within)

  any_default : get_or above at d ≡ get_or above at (get_or above at d)
  any_default = same_Some (get_or above at d) (get_or above at (get_or above at d)) (sym (slice_get-get_or above at d within) ∙ slice_get-get_or above at (get_or above at d) within)

  shown : h (get_or above at d) ≡ get_or (map h above) at (h (get_or above at d))
  shown = shown_at h above at (get_or above at d) within any_default

  pub other_flagged : is_other_found (h (get_or above at d)) ≡ true → Some (take at path) ≡ other_in (take at path) (drop at path) (drop at (map h above))
  other_flagged flagged =
      sym (other_next path (map h above) at (h (get_or above at d)) as_long less shown
      ∙ ap (λ b. cond b (Some (take at path)) (other_in (take (at + 1) path) (drop (at + 1) path) (drop (at + 1) (map h above)))) flagged)

  pub other_passed : is_other_found (h (get_or above at d)) ≡ false → other_in (take (at + 1) path) (drop (at + 1) path) (drop (at + 1) (map h above)) ≡ other_in (take at path) (drop at path) (drop at (map h above))
  other_passed passed =
      sym (other_next path (map h above) at (h (get_or above at d)) as_long less shown
      ∙ ap (λ b. cond b (Some (take at path)) (other_in (take (at + 1) path) (drop (at + 1) path) (drop (at + 1) (map h above)))) passed)

  pub missing_step : (old new all : List Names) → new ≡ old ++ cond (is_standing (h (get_or above at d))) [] (take at path ∷ [])
      → old ++ paths_missing (take at path) (drop at path) (drop at (map h above)) ≡ all
      → new ++ paths_missing (take (at + 1) path) (drop (at + 1) path) (drop (at + 1) (map h above)) ≡ all
  missing_step old new all added so_far =
      ap (λ l. l ++ paths_missing (take (at + 1) path) (drop (at + 1) path) (drop (at + 1) (map h above))) added
      ∙ append_assoc old (cond (is_standing (h (get_or above at d))) [] (take at path ∷ [])) (paths_missing (take (at + 1) path) (drop (at + 1) path) (drop (at + 1) (map h above)))
      ∙ sym (ap (λ l. old ++ l) (paths_next path (map h above) at (h (get_or above at d)) as_long less shown))
      ∙ so_far
