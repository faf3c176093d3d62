-- What changes ask for can be made, and the entries that a commit makes are such as the changes ask for.
use Rattle.std.proofs.Common.{◌≡◌, ◌⊎◌, inl, inr, ⊎_elim, ℕ, ◌+◌, ◌≤◌, true, false, List, [], ◌∷◌, map, refl, sym, ◌∙◌, ap, arith, Option, Some, None, All}
use Rattle.std.specs.FinMap.{get}
use Rattle.std.specs.List.{AllByRecursion, AllZip, AllPairs, filter_map, cons_option}
use Rattle.std.specs.Option.{option_map}
use Rattle.std.proofs.lemmas.List.Elements.{All-from_recursion, All-tail, All-head}
use Rattle.std.proofs.lemmas.List.Kept.{AllPairs-cons}
use Rattle.dired_text.specs.Paths.{Names}
use Rattle.tree_core.specs.declared.node.Node.{Node}
use Rattle.tree_core.specs.declared.node.Node.TheVariants.{Link, File}
use Rattle.tree_core.specs.declared.edit.Edit.{Edit}
use Rattle.tree_core.specs.declared.changes.Creation.{Creation}
use Rattle.tree_core.specs.declared.changes.Fresh.{Fresh}
use Rattle.tree_core.specs.declared.changes.Fresh.TheVariants as fresh
use Rattle.tree_core.specs.declared.changes.Changes.{Changes}
use Rattle.tree_core.specs.declared.changes.Changes.TheVariants.{Edits, Removals, Creations}
use Rattle.tree_core.specs.FileTree.{FileTree, IsFile, is_file_node}
use Rattle.commit_states.specs.Calls.{node_or, fresh_node, fresh_nodes, number_behind, IsLawfulFresh, AreLawfulFresh}
use Rattle.edit_words.specs.Edited.{asked_fresh, AreMadeFor, HasFileNumber, HasOtherNumber, IsMadeFor}
use Rattle.edit_words.specs.WellFormed.{AreLawful, IsEdit, IsFreshIn}
use Rattle.plan_fits.specs.Laws.{AreBelow, HasText}

-- ---- what is asked for is lawful

abbrev AreFreshIn : (Names → Type 0) → List Fresh → Type 0
AreFreshIn is_file fs = AllByRecursion (IsFreshIn is_file) fs

asked_link : (is_file : Names → Type 0) (e : Edit) (o : Option (List ℕ)) (fs : List Fresh) → IsEdit e → e.target ≡ o → AreFreshIn is_file fs → AreFreshIn is_file (cons_option (option_map fresh.Link o) fs)
asked_link is_file e None fs lawful is more = more
asked_link is_file e (Some target) fs lawful is more = ((lawful.target target is).2, more)

asked_links : (is_file : Names → Type 0) (edits : List Edit) → All IsEdit edits → AreFreshIn is_file (filter_map (λ (e : Edit). option_map fresh.Link e.target) edits)
asked_links is_file [] lawful = tt
asked_links is_file (e ∷ edits) lawful =
    asked_link is_file e e.target (filter_map (λ (x : Edit). option_map fresh.Link x.target) edits) (All-head IsEdit e edits lawful) refl (asked_links is_file edits (All-tail IsEdit e edits lawful))

asked_creations : (is_file : Names → Type 0) (cs : List Creation) → All (λ (c : Creation). IsFreshIn is_file c.what) cs → AreFreshIn is_file (map (λ (c : Creation). c.what) cs)
asked_creations is_file [] lawful = tt
asked_creations is_file (c ∷ cs) lawful = (All-head (λ (x : Creation). IsFreshIn is_file x.what) c cs lawful, asked_creations is_file cs (All-tail (λ (x : Creation). IsFreshIn is_file x.what) c cs lawful))

asked_are : (is_file : Names → Type 0) (changes : Changes) → AreLawful is_file changes → AreFreshIn is_file (asked_fresh changes)
asked_are is_file (Edits edits) lawful = asked_links is_file edits lawful
asked_are is_file (Removals removals) lawful = tt
asked_are is_file (Creations creations) lawful = asked_creations is_file creations lawful

lawful_one : (t : FileTree) (f : Fresh) → IsFreshIn (IsFile t) f → HasText f → IsLawfulFresh t f
lawful_one t (fresh.Link target) is text = (is, text)
lawful_one t (fresh.File bytes mode) is text = is
lawful_one t (fresh.Same path) is text = is

lawful_each : (t : FileTree) (fs : List Fresh) → AreFreshIn (IsFile t) fs → AllByRecursion HasText fs → AreLawfulFresh t fs
lawful_each t [] are texts = tt
lawful_each t (f ∷ fs) are texts = (lawful_one t f are.0 texts.0, lawful_each t fs are.1 texts.1)

pub asked_can_be_made : (t : FileTree) (changes : Changes) → AreLawful (IsFile t) changes → AllByRecursion HasText (asked_fresh changes) → AreLawfulFresh t (asked_fresh changes)
asked_can_be_made t changes lawful texts = lawful_each t (asked_fresh changes) (asked_are (IsFile t) changes lawful) texts

-- ---- the entries

module _ (t : FileTree) where
  file_there : (p : Names) → IsFile t p → get t p ≡ Some (node_or (get t p))
  file_there p is = by_node (get t p) refl
    where
      by_node : (o : Option Node) → get t p ≡ o → get t p ≡ Some (node_or (get t p))
      by_node None e = let no_way : false ≡ true = sym (ap is_file_node e) ∙ is in absurd cc
      by_node (Some node) e = e ∙ ap (λ (o : Option Node). Some (node_or o)) (sym e)

  module _ (next : ℕ) (below : AreBelow t next) where
    new_number : (n : ℕ) → next ≤ n → HasFileNumber t n → ⊥
    new_number n least (p, bytes, mode, at) = let less = below p n bytes mode at in omega arith

    made_one : (n : ℕ) (f : Fresh) → next ≤ n → IsLawfulFresh t f → IsMadeFor t f (fresh_node t n f)
    made_one n (fresh.Link target) least lawful = refl
    made_one n (fresh.File bytes mode) least lawful = (n, refl, new_number n least)
    made_one n (fresh.Same path) least lawful = file_there path lawful

    further : (f : Fresh) (n : ℕ) → n ≤ number_behind f n
    further (fresh.Link target) n = omega arith
    further (fresh.File bytes mode) n = omega arith
    further (fresh.Same path) n = omega arith

    made_each : (n : ℕ) (fs : List Fresh) → next ≤ n → AreLawfulFresh t fs → AllZip (IsMadeFor t) fs (fresh_nodes t n fs)
    made_each n [] least lawful = tt
    made_each n (f ∷ fs) least lawful = let more = further f n in (made_one n f least lawful.0, made_each (number_behind f n) fs (omega arith) lawful.1)

    -- an entry of a new file has a number from n on
    from_on : (n : ℕ) (f : Fresh) (number : ℕ) (b : List ℕ) (m : ℕ) → IsLawfulFresh t f → fresh_node t n f ≡ File number b m → (n ≤ number) ⊎ HasFileNumber t number
    from_on n (fresh.Link target) number b m lawful is = absurd (let e : Link target ≡ File number b m = is in cc)
    from_on n (fresh.File bytes mode) number b m lawful is = inl (let e : File n bytes mode ≡ File number b m = is in let same : n ≡ number = cc in omega arith)
    from_on n (fresh.Same path) number b m lawful is = inr (path, b, m, file_there path lawful ∙ ap (λ (x : Node). Some x) is)

    from_each : (n : ℕ) (fs : List Fresh) → AreLawfulFresh t fs → All (λ (y : Node). (number : ℕ) (b : List ℕ) (m : ℕ) → y ≡ File number b m → (n ≤ number) ⊎ HasFileNumber t number) (fresh_nodes t n fs)
    from_each n fs lawful = All-from_recursion (λ (y : Node). (number : ℕ) (b : List ℕ) (m : ℕ) → y ≡ File number b m → (n ≤ number) ⊎ HasFileNumber t number) (fresh_nodes t n fs) (go n fs (omega arith) lawful)
      where
        go : (k : ℕ) (fs : List Fresh) → n ≤ k → AreLawfulFresh t fs → AllByRecursion (λ (y : Node). (number : ℕ) (b : List ℕ) (m : ℕ) → y ≡ File number b m → (n ≤ number) ⊎ HasFileNumber t number) (fresh_nodes t k fs)
        go k [] least lawful = tt
        go k (f ∷ fs) least lawful = let more = further f k in (
          λ number b m is. ⊎_elim (λ from. inl (omega arith)) (λ has. inr has) (from_on k f number b m lawful.0 is),
          go (number_behind f k) fs (omega arith) lawful.1,
        )

    -- no later entry is of the file of this one, unless it is a file of the tree
    apart_one : (n : ℕ) (f : Fresh) (y : Node) → IsLawfulFresh t f → ((number : ℕ) (b : List ℕ) (m : ℕ) → y ≡ File number b m → (number_behind f n ≤ number) ⊎ HasFileNumber t number)
        → HasOtherNumber t (fresh_node t n f) y
    apart_one n (fresh.Link target) y lawful later number c d m k is other = absurd (let e : Link target ≡ File number c m = is in cc)
    apart_one n (fresh.File bytes mode) y lawful later number c d m k is other = ⊎_elim
        (λ above. let e : File n bytes mode ≡ File number c m = is in let same : n ≡ number = cc in let a : n + 1 ≤ number = above in absurd (omega arith))
        (λ has. has) (later number d k other)
    apart_one n (fresh.Same path) y lawful later number c d m k is other = (path, c, m, file_there path lawful ∙ ap (λ (x : Node). Some x) is)

    apart_each : (n : ℕ) (fs : List Fresh) → AreLawfulFresh t fs → AllPairs (HasOtherNumber t) (fresh_nodes t n fs)
    apart_each n [] lawful = λ i j d lt within. absurd (omega arith)
    apart_each n (f ∷ fs) lawful = AllPairs-cons (HasOtherNumber t) (fresh_node t n f) (fresh_nodes t (number_behind f n) fs)
        (λ k d within. apart_one n f _ lawful.0 (from_each (number_behind f n) fs lawful.1 k d within))
        (apart_each (number_behind f n) fs lawful.1)

    pub made_as_asked : (changes : Changes) (n : ℕ) → next ≤ n → AreLawfulFresh t (asked_fresh changes) → AreMadeFor t changes (fresh_nodes t n (asked_fresh changes))
    made_as_asked changes n least lawful = record { each = made_each n (asked_fresh changes) least lawful; numbers = apart_each n (asked_fresh changes) lawful }
