-- Items that are pushed one after another.
use Rattle.std.proofs.Common.{◌≡◌, ℕ, zero, suc, ◌+◌, ◌<◌, ◌≤◌, Bool, true, false, List, [], ◌∷◌, ◌++◌, length, map, drop, get_or, cond, refl, sym, ◌∙◌, ap, arith, append_assoc}
use Rattle.std.proofs.lemmas.List.{append-nil, drop_all, get_or-map, length-map, map-append, map_push}
use Rattle.commit_recover.specs.Items.{is_dir_kind, items_by, pairs, placed}
use Rattle.commit_states.specs.Calls.{Items}
use Rattle.commit_steps.specs.Staging.{staged}
use Rattle.dired_text.specs.Paths.{Names}
use Rattle.recovery_calls.specs.declared.closing.Item.{Item}
use Rattle.staging_names.specs.declared.staged_name.StagedName.{StagedName}
use Rattle.staging_names.specs.declared.standing.Found.{Found}

module _ (p : StagedName → Bool) where
  -- the item of one name, where it passes
  abbrev pub one_item : List ℕ → Found → Items
  one_item n f = cond (p f.name) ((n, is_dir_kind f.kind) ∷ []) []

  by_one : (n : List ℕ) (f : Found) (ns : List (List ℕ)) (fs : List Found) → items_by p (n ∷ ns) (f ∷ fs) ≡ one_item n f ++ items_by p ns fs
  by_one n f ns fs = by_test (p f.name)
    where
      by_test : (b : Bool) → cond b ((n, is_dir_kind f.kind) ∷ items_by p ns fs) (items_by p ns fs) ≡ cond b ((n, is_dir_kind f.kind) ∷ []) [] ++ items_by p ns fs
      by_test true = refl
      by_test false = refl

  next : {X : Type 0} (x : X) (xs : List X) (k : ℕ) → drop (suc k + 1) (x ∷ xs) ≡ drop (k + 1) xs
  next x xs k = let more : suc k + 1 ≡ suc (k + 1) = omega arith in ap (λ (i : ℕ). drop i (x ∷ xs)) more

  pub items_at : (ns : List (List ℕ)) (fs : List Found) (k : ℕ) (n : List ℕ) (f : Found) → length fs ≡ length ns → k < length fs
      → items_by p (drop k ns) (drop k fs) ≡ one_item (get_or ns k n) (get_or fs k f) ++ items_by p (drop (k + 1) ns) (drop (k + 1) fs)
  items_at ns [] k n f same lt = absurd (omega arith)
  items_at [] (g ∷ fs) k n f same lt = absurd (omega arith)
  items_at (m ∷ ns) (g ∷ fs) zero n f same lt = by_one m g ns fs
  items_at (m ∷ ns) (g ∷ fs) (suc k) n f same lt =
      items_at ns fs k n f (omega arith) (omega arith)
      ∙ ap (λ (ms : List (List ℕ)). one_item (get_or ns k n) (get_or fs k f) ++ items_by p ms (drop (k + 1) fs)) (sym (next m ns k))
      ∙ ap (λ (gs : List Found). one_item (get_or ns k n) (get_or fs k f) ++ items_by p (drop (suc k + 1) (m ∷ ns)) gs) (sym (next g fs k))

-- an item with its path
abbrev pub place : List ℕ × Bool → Names × Bool
place x = (staged x.0, x.1)

abbrev pub pair : Item → Names × Bool
pair i = (i.path, i.is_dir)

module _ (p : StagedName → Bool) (ns : List (List ℕ)) (fs : List Found) (same : length fs ≡ length ns) where
  -- what is still to be pushed at place k
  abbrev pub to_come : ℕ → List (Names × Bool)
  to_come k = placed (items_by p (drop k ns) (drop k fs))

  come_at : (k : ℕ) (f : Found) → k < length fs → f ≡ get_or fs k f → to_come k ≡ placed (one_item p (get_or ns k []) f) ++ to_come (k + 1)
  come_at k f lt is =
      ap placed (items_at p ns fs k [] f same lt ∙ ap (λ (g : Found). one_item p (get_or ns k []) g ++ items_by p (drop (k + 1) ns) (drop (k + 1) fs)) (sym is))
      ∙ map-append place (one_item p (get_or ns k []) f) (items_by p (drop (k + 1) ns) (drop (k + 1) fs))

  by_test : (k : ℕ) (f : Found) → k < length fs → f ≡ get_or fs k f → (b : Bool) → p f.name ≡ b → to_come k ≡ placed (cond b ((get_or ns k [], is_dir_kind f.kind) ∷ []) []) ++ to_come (k + 1)
  by_test k f lt is b test = come_at k f lt is ∙ ap (λ (x : Bool). placed (cond x ((get_or ns k [], is_dir_kind f.kind) ∷ []) []) ++ to_come (k + 1)) test

  -- this one doesn't pass
  pub passed_over : (k : ℕ) (f : Found) → k < length fs → f ≡ get_or fs k f → p f.name ≡ false → (xs : List Item) (whole : List (Names × Bool))
      → pairs xs ++ to_come k ≡ whole → pairs xs ++ to_come (k + 1) ≡ whole
  passed_over k f lt is fails xs whole all = ap (λ (l : List (Names × Bool)). pairs xs ++ l) (sym (by_test k f lt is false fails)) ∙ all

  -- this one is pushed
  pub pushed : (k : ℕ) (f : Found) → k < length fs → f ≡ get_or fs k f → p f.name ≡ true → (item : Item) → item.path ≡ staged (get_or ns k []) → item.is_dir ≡ is_dir_kind f.kind
      → (xs : List Item) (whole : List (Names × Bool)) → pairs xs ++ to_come k ≡ whole → pairs (xs ++ item ∷ []) ++ to_come (k + 1) ≡ whole
  pushed k f lt is passes item path dir xs whole all =
      ap (λ (l : List (Names × Bool)). l ++ to_come (k + 1)) (map_push pair xs item)
      ∙ append_assoc (pairs xs) (pair item ∷ []) (to_come (k + 1))
      ∙ ap (λ (q : Names). pairs xs ++ (q, item.is_dir) ∷ to_come (k + 1)) path
      ∙ ap (λ (d : Bool). pairs xs ++ (staged (get_or ns k []), d) ∷ to_come (k + 1)) dir
      ∙ ap (λ (l : List (Names × Bool)). pairs xs ++ l) (sym (by_test k f lt is true passes)) ∙ all

  -- nothing is left
  pub all_come : (k : ℕ) → length fs ≤ k → (xs : List Item) (whole : List (Names × Bool)) → pairs xs ++ to_come k ≡ whole → pairs xs ≡ whole
  all_come k past xs whole all =
      sym (append-nil (pairs xs)) ∙ ap (λ (l : List (Names × Bool)). pairs xs ++ l) (sym (ap (λ (ms : List (List ℕ)). placed (items_by p ms (drop k fs))) (drop_all k ns (omega arith)))) ∙ all

  -- ---- their paths

  pub path_at : (ps : List Names) → ps ≡ map staged ns → (k : ℕ) → k < length fs → (q : Names) → q ≡ get_or ps k q → q ≡ staged (get_or ns k [])
  path_at ps are k lt q is = is ∙ ap (λ (l : List Names). get_or l k q) are ∙ get_or-map staged ns k [] q (omega arith)

  pub path_within : (ps : List Names) → ps ≡ map staged ns → (k : ℕ) → k < length fs → k < length ps
  path_within ps are k lt = let long : length ps ≡ length ns = ap length are ∙ length-map ns staged in omega arith
