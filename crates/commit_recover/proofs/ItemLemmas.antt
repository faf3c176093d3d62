-- What was read besides a journal, and the calls that remove it.
use Rattle.std.proofs.Common.{◌≡◌, ◌⊎◌, inl, inr, ⊎_elim, Bool, true, false, ℕ, List, [], ◌∷◌, ◌++◌, map, cond, Option, Some, None, refl, sym, ◌∙◌, ap, subst, append_assoc}
use Rattle.std.specs.FinMap.{get}
use Rattle.std.specs.List.{AllByRecursion}
use Rattle.std.specs.Option.{option_map}
use Rattle.commit_calls.specs.Parts.{remove_calls, unstaging_calls}
use Rattle.commit_recover.specs.Items.{AreItems, is_dir_kind, is_entry_name, is_marker_name, items_by}
use Rattle.commit_states.proofs.ReadLemmas.{IsItem}
use Rattle.commit_states.proofs.ReadNameLemmas.{names_read}
use Rattle.commit_states.specs.Calls.{Items, close_calls, removal_by, removals_by, unstage_calls}
use Rattle.commit_states.specs.Reads.{AreOnce, AreRead, IsNamed, items_in}
use Rattle.commit_steps.specs.Staging.{staged, staging}
use Rattle.dired_text.specs.Paths.{Names}
use Rattle.recovery_calls.specs.declared.closing.Item.{Item}
use Rattle.recovery_calls.specs.Closing.{closed_calls, item_calls, last_calls}
use Rattle.recovery_start.specs.Start.{found_at}
use Rattle.staging_names.specs.declared.staged_name.StagedName.{StagedName}
use Rattle.staging_names.specs.declared.staged_name.StagedName.TheVariants.{New, Journal, Marker, Entry, Other}
use Rattle.staging_names.specs.Names.{name_read}
use Rattle.tree_core.specs.declared.node.Change.{Change}
use Rattle.tree_core.specs.declared.node.Change.TheVariants as call
use Rattle.tree_core.specs.declared.node.Node.{Node}
use Rattle.tree_core.specs.declared.node.Node.TheVariants.{Dir, Link, File}
use Rattle.tree_core.specs.Fields.{names_in}
use Rattle.tree_core.specs.FileTree.{FileTree, Stands, is_dir_node, kind_of}
use Rattle.commit_recover.proofs.FoundLemmas.{not_both}

-- ---- those of a list of items whose names pass a test

abbrev pub part : (List ℕ → Bool) → Items → Items
part p [] = []
part p (x ∷ xs) = cond (p x.0) (x ∷ part p xs) (part p xs)

node_dir : (o : Option Node) → is_dir_kind (option_map kind_of o) ≡ is_dir_node o
node_dir None = refl
node_dir (Some (Dir mode)) = refl
node_dir (Some (Link target)) = refl
node_dir (Some (File number bytes mode)) = refl

pub items_part : (t : FileTree) (p : StagedName → Bool) (names : List (List ℕ)) → items_by p names (map (found_at t) names) ≡ part (λ n. p (name_read n)) (items_in t names)
items_part t p [] = refl
items_part t p (n ∷ names) =
    ap (λ (b : Bool). cond (p (name_read n)) ((n, b) ∷ items_by p names (map (found_at t) names)) (items_by p names (map (found_at t) names))) (node_dir (get t (staged n)))
    ∙ ap (λ (xs : Items). cond (p (name_read n)) ((n, is_dir_node (get t (staged n))) ∷ xs) xs) (items_part t p names)

module _ (p : List ℕ → Bool) where
  part_named : (xs : Items) (n : List ℕ) → IsNamed n (part p xs) → IsNamed n xs
  part_named [] n named = named
  part_named (x ∷ xs) n named = by_test (part_named xs n) (p x.0) named
    where
      by_test : (IsNamed n (part p xs) → IsNamed n xs) → (b : Bool) → IsNamed n (cond b (x ∷ part p xs) (part p xs)) → IsNamed n (x ∷ xs)
      by_test rest true (inl same) = inl same
      by_test rest true (inr more) = inr (rest more)
      by_test rest false more = inr (rest more)

  part_passes : (xs : Items) (n : List ℕ) → IsNamed n (part p xs) → p n ≡ true
  part_passes [] n named = absurd named
  part_passes (x ∷ xs) n named = by_test (part_passes xs n) (p x.0) refl named
    where
      by_test : (IsNamed n (part p xs) → p n ≡ true) → (b : Bool) → p x.0 ≡ b → IsNamed n (cond b (x ∷ part p xs) (part p xs)) → p n ≡ true
      by_test rest true e (inl same) = ap p same ∙ e
      by_test rest true e (inr more) = rest more
      by_test rest false e more = rest more

  named_part : (xs : Items) (n : List ℕ) → IsNamed n xs → p n ≡ true → IsNamed n (part p xs)
  named_part [] n named pass = named
  named_part (x ∷ xs) n named pass = by_test (λ more. named_part xs n more pass) (p x.0) refl named
    where
      by_test : (IsNamed n xs → IsNamed n (part p xs)) → (b : Bool) → p x.0 ≡ b → IsNamed n (x ∷ xs) → IsNamed n (cond b (x ∷ part p xs) (part p xs))
      by_test rest true e (inl same) = inl same
      by_test rest true e (inr more) = inr (rest more)
      by_test rest false e (inl same) = absurd (not_both (sym pass ∙ ap p same ∙ e))
      by_test rest false e (inr more) = rest more

  once_part : (xs : Items) → AreOnce xs → AreOnce (part p xs)
  once_part [] once = tt
  once_part (x ∷ xs) once = by_test (once_part xs once.1) (p x.0)
    where
      by_test : AreOnce (part p xs) → (b : Bool) → AreOnce (cond b (x ∷ part p xs) (part p xs))
      by_test rest true = ((λ named. once.0 (part_named xs x.0 named)), rest)
      by_test rest false = rest

  each_part : (t : FileTree) (Left : List ℕ → Type 0) → ((n : List ℕ) → p n ≡ true → Left n → ⊥) → (xs : Items) → AllByRecursion (IsItem t (λ n. ⊥)) xs → AllByRecursion (IsItem t Left) (part p xs)
  each_part t Left other [] each = tt
  each_part t Left other (x ∷ xs) each = by_test (each_part t Left other xs each.1) (p x.0) refl
    where
      by_test : AllByRecursion (IsItem t Left) (part p xs) → (b : Bool) → p x.0 ≡ b → AllByRecursion (IsItem t Left) (cond b (x ∷ part p xs) (part p xs))
      by_test rest true e = (((λ left. other x.0 e left), (each.0).1, (each.0).2), rest)
      by_test rest false e = rest

-- ---- one part behind another

named_left : (xs ys : Items) (n : List ℕ) → IsNamed n xs → IsNamed n (xs ++ ys)
named_left [] ys n named = absurd named
named_left (x ∷ xs) ys n (inl same) = inl same
named_left (x ∷ xs) ys n (inr more) = inr (named_left xs ys n more)

named_right : (xs ys : Items) (n : List ℕ) → IsNamed n ys → IsNamed n (xs ++ ys)
named_right [] ys n named = named
named_right (x ∷ xs) ys n named = inr (named_right xs ys n named)

named_either : (xs ys : Items) (n : List ℕ) → IsNamed n (xs ++ ys) → IsNamed n xs ⊎ IsNamed n ys
named_either [] ys n named = inr named
named_either (x ∷ xs) ys n (inl same) = inl (inl same)
named_either (x ∷ xs) ys n (inr more) = ⊎_elim (λ a. inl (inr a)) (λ b. inr b) (named_either xs ys n more)

once_both : (xs ys : Items) → AreOnce xs → AreOnce ys → ((n : List ℕ) → IsNamed n xs → IsNamed n ys → ⊥) → AreOnce (xs ++ ys)
once_both [] ys one two apart = two
once_both (x ∷ xs) ys one two apart =
    ((λ named. ⊎_elim (λ a. one.0 a) (λ b. apart x.0 (inl refl) b) (named_either xs ys x.0 named)), once_both xs ys one.1 two (λ n a b. apart n (inr a) b))

each_both : (t : FileTree) (Left : List ℕ → Type 0) (xs ys : Items) → AllByRecursion (IsItem t Left) xs → AllByRecursion (IsItem t Left) ys → AllByRecursion (IsItem t Left) (xs ++ ys)
each_both t Left [] ys one two = two
each_both t Left (x ∷ xs) ys one two = (one.0, each_both t Left xs ys one.1 two)

entry_or_marker : (what : StagedName) → is_entry_name what ≡ true → is_marker_name what ≡ true → ⊥
entry_or_marker New one two = cc
entry_or_marker (Journal j) one two = cc
entry_or_marker (Marker m) one two = cc
entry_or_marker (Entry e) one two = cc
entry_or_marker Other one two = cc

-- The entries and then the markers are all that stands, but for one name that is neither.
pub both_read : (t : FileTree) (journal : List ℕ) → is_entry_name (name_read journal) ≡ false → is_marker_name (name_read journal) ≡ false
    → ((n : List ℕ) → Stands t (staged n) → (n ≡ journal) ⊎ ((is_entry_name (name_read n) ≡ true) ⊎ (is_marker_name (name_read n) ≡ true)))
    → AreRead t (λ n. n ≡ journal) (items_by is_entry_name (names_in t staging) (map (found_at t) (names_in t staging)) ++ items_by is_marker_name (names_in t staging) (map (found_at t) (names_in t staging)))
both_read t journal no_entry no_marker cover =
    subst (AreRead t (λ n. n ≡ journal)) (sym (ap (λ (xs : Items). xs ++ items_by is_marker_name (names_in t staging) (map (found_at t) (names_in t staging))) (items_part t is_entry_name (names_in t staging))
    ∙ ap (λ (xs : Items). part p all ++ xs) (items_part t is_marker_name (names_in t staging))))
    (record {
      each = each_both t (λ n. n ≡ journal) (part p all) (part q all) (each_part p t (λ n. n ≡ journal) (λ n pass same. not_both (sym pass ∙ ap p same ∙ no_entry)) all r.each)
          (each_part q t (λ n. n ≡ journal) (λ n pass same. not_both (sym pass ∙ ap q same ∙ no_marker)) all r.each);
      once = once_both (part p all) (part q all) (once_part p all r.once) (once_part q all r.once) (λ n a b. entry_or_marker (name_read n) (part_passes p all n a) (part_passes q all n b));
      all = λ n stands. by_cover n (in_all n stands) (cover n stands);
    })
  where
    p : List ℕ → Bool
    p n = is_entry_name (name_read n)

    q : List ℕ → Bool
    q n = is_marker_name (name_read n)

    all : Items
    all = items_in t (names_in t staging)

    r : AreRead t (λ n. ⊥) all
    r = names_read t

    in_all : (n : List ℕ) → Stands t (staged n) → IsNamed n all
    in_all n stands = ⊎_elim (λ nothing. absurd nothing) (λ named. named) (r.all n stands)

    by_cover : (n : List ℕ) → IsNamed n all → (n ≡ journal) ⊎ ((is_entry_name (name_read n) ≡ true) ⊎ (is_marker_name (name_read n) ≡ true)) → (n ≡ journal) ⊎ IsNamed n (part p all ++ part q all)
    by_cover n named (inl same) = inl same
    by_cover n named (inr (inl entry)) = inr (named_left (part p all) (part q all) n (named_part p all n named entry))
    by_cover n named (inr (inr marker)) = inr (named_right (part p all) (part q all) n (named_part q all n named marker))

-- ---- their calls

calls_same : (xs : Items) (items : List Item) → AreItems xs items → item_calls items ≡ removals_by xs
calls_same [] [] are = refl
calls_same [] (i ∷ items) are = cc
calls_same (x ∷ xs) [] are = cc
calls_same (x ∷ xs) (i ∷ items) are =
    let tail : AreItems xs items = cc in
    let head : (i.path, i.is_dir) ≡ (staged x.0, x.1) = cc in
    ap (λ (y : Names × Bool). removal_by y.1 y.0 ∷ item_calls items) head ∙ ap (λ (cs : List Change). removal_by x.1 (staged x.0) ∷ cs) (calls_same xs items tail)

pub closed_same : (journal : List ℕ) (xs : Items) (items : List Item) (at dir : Names) → AreItems xs items → at ≡ staged journal → dir ≡ staging → closed_calls items at dir ≡ close_calls journal xs
closed_same journal xs items at dir are at_is dir_is =
    ap (λ (cs : List Change). cs ++ last_calls at dir) (calls_same xs items are)
    ∙ ap (λ (p : Names). removals_by xs ++ last_calls p dir) at_is
    ∙ ap (λ (p : Names). removals_by xs ++ last_calls (staged journal) p) dir_is
    ∙ sym (append_assoc (removals_by xs) (call.Sync ∷ []) (call.Remove (staged journal) ∷ call.RemoveDir staging ∷ call.Sync ∷ []))

names_same : (names : List (List ℕ)) → remove_calls (map staged names) ++ call.RemoveDir staging ∷ call.Sync ∷ [] ≡ unstage_calls names ++ call.Sync ∷ []
names_same [] = refl
names_same (n ∷ names) = ap (λ (cs : List Change). call.Remove (staged n) ∷ cs) (names_same names)

pub clear_same : (names : List (List ℕ)) (paths : List Names) (dir : Names) → paths ≡ map staged names → dir ≡ staging → unstaging_calls paths dir ≡ unstage_calls names ++ call.Sync ∷ []
clear_same names paths dir paths_are dir_is =
    ap (λ (ps : List Names). remove_calls ps ++ call.RemoveDir dir ∷ call.Sync ∷ []) paths_are
    ∙ ap (λ (p : Names). remove_calls (map staged names) ++ call.RemoveDir p ∷ call.Sync ∷ []) dir_is ∙ names_same names
