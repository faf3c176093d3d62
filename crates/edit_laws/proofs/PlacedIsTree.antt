-- A tree whose paths went to their places is a tree.
use Rattle.std.proofs.Common.{◌≡◌, ◌⊎◌, inl, inr, ℕ, Bool, true, List, [], ◌∷◌, ◌++◌, refl, sym, ◌∙◌, ap, subst, Option, Some, None, is_some, IsTrue}
use Rattle.std.specs.FinMap.{get, find}
use Rattle.std.proofs.lemmas.List.{same_from_push}
use Rattle.dired_text.specs.Paths.{Names, path_cmp}
use Rattle.tree_core.specs.declared.node.Node.{Node}
use Rattle.tree_core.specs.declared.node.Node.TheVariants.{Dir, Link, File}
use Rattle.tree_core.specs.FileTree.{FileTree, IsTree, IsDir, Stands, IsLawful, is_dir_node}
use Rattle.tree_core.proofs.TreeLemmas.{dir_stands}
use Rattle.edit_words.specs.declared.row.Route.{Route}
use Rattle.edit_words.specs.declared.row.Route.TheVariants.{Sent}
use Rattle.edit_words.specs.Place.{routed, place, IsAbove}
use Rattle.edit_words.specs.Edited.{Entries, IsPlaced, Came}
use Rattle.edit_laws.proofs.PlaceLemmas.{by_last, place-push, View, sent, near, view, IsApart, push_not_root, routed-sent}

abbrev pub IsDirNode : Option Node → Type 0
IsDirNode o = IsTrue (is_dir_node o)

-- the directory in an option
some_dir : (o : Option Node) → IsDirNode o → (mode : ℕ) × (o ≡ Some (Dir mode))
some_dir None d = cc
some_dir (Some (Dir mode)) d = (mode, refl)
some_dir (Some (Link target)) d = cc
some_dir (Some (File number bytes mode)) d = cc

pub some_of : {X : Type 0} (o : Option X) → IsTrue (is_some o) → (x : X) × (o ≡ Some x)
some_of None s = cc
some_of (Some x) s = (x, refl)

pub record Stayed (keeps : Names → Bool) (t : FileTree) (p : Names) : Type 0 where
  pub kept : keeps p ≡ true
  pub stands : Stands t p

-- What makes a tree of it.
pub record IsHeldUp (added : Entries) (keeps : Names → Bool) (route : Names → Route) (shown : Names → Node → Node) (named : ℕ → ℕ → ℕ) (t : FileTree) : Type 0 where
  pub root : keeps [] ≡ true
  -- nothing is added where a directory goes, which stays one
  pub directories : (p : Names) → keeps p ≡ true → IsDir t p → find path_cmp (place route p) added ≡ None
  pub as_before : (p : Names) (mode : ℕ) → IsDirNode (Some (shown p (Dir mode)))
  -- a file stays one, of the same bytes, and its new mode is that of its number
  pub files : (p : Names) (node : Node) (number : ℕ) (bytes : List ℕ) (mode : ℕ) → shown p node ≡ File number bytes mode
      → (m : ℕ) × (node ≡ File number bytes m) × (mode ≡ named number m)
  -- above a path to which something is sent stands a directory that is added, or one that keeps its place
  pub above_sent : (p w u : Names) → Stayed keeps t p → route p ≡ Sent w → IsAbove u w
      → IsDirNode (find path_cmp u added) ⊎ (Stayed keeps t u × IsDir t u × (place route u ≡ u))
  -- and above what is added one that is added, or one that goes there
  pub above_added : (q : Names) (n : List ℕ) → IsTrue (is_some (find path_cmp (q ++ n ∷ []) added))
      → IsDirNode (find path_cmp q added) ⊎ ((p : Names) × Stayed keeps t p × IsDir t p × (place route p ≡ q))
  -- files of one number are alike where one is added and the other is, too, or was there
  pub added_alike : (q : Names) (number : ℕ) (b c : List ℕ) (m k : ℕ) → find path_cmp q added ≡ Some (File number b m)
      → ((r : Names) → find path_cmp r added ≡ Some (File number c k) → (b ≡ c) × (m ≡ k))
      × ((r : Names) (o : ℕ) → get t r ≡ Some (File number c o) → k ≡ named number o → (b ≡ c) × (m ≡ k))
  -- modes and targets are lawful
  pub shown_lawful : (p : Names) (node : Node) → IsLawful node → IsLawful (shown p node)
  pub added_lawful : (q : Names) (node : Node) → find path_cmp q added ≡ Some node → IsLawful node

module _ (added : Entries) (keeps : Names → Bool) (route : Names → Route) (shown : Names → Node → Node) (named : ℕ → ℕ → ℕ) (t new : FileTree)
    (tree : IsTree t) (apart : IsApart (Stayed keeps t) route) (up : IsHeldUp added keeps route shown named t) (is : IsPlaced added keeps (place route) shown t new) where
  -- a directory that stays is one at its place
  dir_at : (p : Names) → Stayed keeps t p → IsDir t p → IsDir new (place route p)
  dir_at p stayed dir =
      let d = some_dir (get t p) dir in
      subst IsDirNode (sym (is.stay p (Dir d.0) stayed.kept d.1 (up.directories p stayed.kept dir))) (up.as_before p d.0)

  dir_there : (u q : Names) → Stayed keeps t u → IsDir t u → place route u ≡ q → IsDir new q
  dir_there u q stayed dir at = subst (λ (l : Names). IsDir new l) at (dir_at u stayed dir)

  dir_added : (q : Names) → IsDirNode (find path_cmp q added) → IsDir new q
  dir_added q dir = let d = some_dir (find path_cmp q added) dir in subst IsDirNode (sym (is.added_stand q (Dir d.0) d.1)) refl

  above : (q : Names) (n : List ℕ) (node : Node) → Came keeps (place route) shown t (q ++ n ∷ []) node → IsDir new q
  above q n node came = by_last (λ p. Stayed keeps t p → place route p ≡ q ++ n ∷ [] → IsDir new q)
      (λ stayed at. absurd (push_not_root q n (sym at)))
      (λ p m before stayed at. go p m stayed (view (route (p ++ m ∷ [])) m) (sym (place-push route p m) ∙ at))
      came.path (record { kept = came.kept; stands = ap is_some came.stood }) came.here
    where
      go : (p : Names) (m : List ℕ) → Stayed keeps t (p ++ m ∷ []) → View (route (p ++ m ∷ [])) m → routed (route (p ++ m ∷ [])) (place route p) m ≡ q ++ n ∷ [] → IsDir new q
      go p m stayed (sent w away) at =
          let w_is : w ≡ q ++ n ∷ [] = sym (routed-sent route (p ++ m ∷ []) (place route p) m w away) ∙ at in
          elim (up.above_sent (p ++ m ∷ []) w q stayed away (n, [], w_is)) [
            | inl dir ↦ dir_added q dir
            | inr (stayed_q, dir, at_q) ↦ dir_there q q stayed_q dir at_q
          ]
      go p m stayed (near k near_by) at =
          let at_q : place route p ≡ q = (same_from_push (place route p) q k n (sym (near_by (place route p)) ∙ at)).0 in
          dir_there p q (apart.up p m stayed) (tree.parents p m stayed.stands) at_q

  -- what is a file there was one before, or was added
  pub data WasFile (number : ℕ) (bytes : List ℕ) (mode : ℕ) : Type 0 where
    was_added : (q : Names) → find path_cmp q added ≡ Some (File number bytes mode) → WasFile number bytes mode
    was_there : (p : Names) (m : ℕ) → get t p ≡ Some (File number bytes m) → mode ≡ named number m → WasFile number bytes mode

  was_file : (q : Names) (number : ℕ) (bytes : List ℕ) (mode : ℕ) → get new q ≡ Some (File number bytes mode) → WasFile number bytes mode
  was_file q number bytes mode e = elim (is.only q (File number bytes mode) e) [
    | inl s ↦ let a = some_of (find path_cmp q added) s in was_added q (a.1 ∙ (sym (is.added_stand q a.0 a.1) ∙ e))
    | inr came ↦ let f = up.files came.path came.was number bytes mode (sym came.same) in was_there came.path f.0 (came.stood ∙ ap (λ (n : Node). Some n) f.1) f.2
  ]

  alike : (number : ℕ) (b c : List ℕ) (m k : ℕ) → WasFile number b m → WasFile number c k → (b ≡ c) × (m ≡ k)
  alike number b c m k (was_added q e) (was_added r e') = (up.added_alike q number b c m k e).0 r e'
  alike number b c m k (was_added q e) (was_there p o e' is_k) = (up.added_alike q number b c m k e).1 p o e' is_k
  alike number b c m k (was_there p o e is_m) (was_added q e') = let same = (up.added_alike q number c b k m e').1 p o e is_m in (sym same.0, sym same.1)
  alike number b c m k (was_there p o e is_m) (was_there q o' e' is_k) =
      let same = tree.alike p q number b c o o' e e' in (same.0, is_m ∙ ap (named number) same.1 ∙ sym is_k)

  pub placed_is_tree : IsTree new
  placed_is_tree = record {
    root = dir_at [] (record { kept = up.root; stands = dir_stands _ tree.root }) tree.root;
    parents = λ q n stands. let s = some_of (get new (q ++ n ∷ [])) stands in elim (is.only (q ++ n ∷ []) s.0 s.1) [
      | inl a ↦ elim (up.above_added q n a) [ inl dir ↦ dir_added q dir | inr (p, stayed, dir, at) ↦ dir_there p q stayed dir at ]
      | inr came ↦ above q n s.0 came
    ];
    alike = λ p q number b c m k e e'. alike number b c m k (was_file p number b m e) (was_file q number c k e');
    lawful = λ q node e. elim (is.only q node e) [
      | inl s ↦ let a = some_of (find path_cmp q added) s in up.added_lawful q node (a.1 ∙ (sym (is.added_stand q a.0 a.1) ∙ e))
      | inr came ↦ subst IsLawful (sym came.same) (up.shown_lawful came.path came.was (tree.lawful came.path came.was came.stood))
    ];
  }
