-- Stores that are built from entries.
use Rattle.std.proofs.Common.{◌≡◌, ℕ, ◌+◌, ◌<◌, ◌==◌, pos, max, Bool, true, false, cond, not, ◌&&◌, ◌||◌, List, [], ◌∷◌, ◌++◌, length, take, drop, get_or, refl, sym, ◌∙◌, ap, subst, arith, Option, Some, None, is_some, IsTrue, if◌then◌else◌}
use Rattle.std.proofs.lemmas.List.{drop_more, take_more, length-take-le}
use Rattle.std.proofs.lemmas.Bool.{cond-true, cond-false, eqb-true, eq-eqb}
use Rattle.std.proofs.lemmas.List.Folds.{list_all-append}
use Rattle.std.proofs.lemmas.Option.{same_Some}
use Rattle.std.proofs.lemmas.Slice.Eq.{bytes_eq-Decides}
use Rattle.std.proofs.Math.Nat.{le-max_left, le-max_right}
use Rattle.std.specs.Str.{bytes_eq}
use Rattle.std.specs.List.{list_all, AllByRecursion}
use Rattle.std.specs.Option.{option_map}
use Rattle.std.specs.Cmp.{nat_cmp_total}
use Rattle.std.specs.FinMap.{get, insert, empty, get-empty, get-insert}
use Rattle.std.specs.Str.{is_utf8}
use Rattle.dired_text.specs.Paths.{Names, AreNames, path_cmp, parent}
use Rattle.dired_text.proofs.PathLemmas.{path_cmp-total, path_cmp-exact}
use Rattle.tree_core.specs.declared.node.Node.{Node}
use Rattle.tree_core.specs.declared.node.Node.TheVariants.{Dir, Link, File}
use Rattle.tree_core.specs.FileTree.{FileTree, AreTexts, IsAbsent, is_dir_node, root_tree}
use Rattle.tree_core.specs.History.{Began, IsSound}
use Rattle.tree_core.proofs.Sound.{Agrees, Above, by_place, get-inserted, inserted_tree, above_insert, root_sound}
use Rattle.mem_tree.specs.declared.build.Entry.{Entry}
use Rattle.mem_tree.specs.declared.files.FileBody.{FileBody}
use Rattle.mem_tree.specs.Mem.{is_same_path}
use Rattle.mem_tree.specs.MemFields.{is_file_of, paths_of}
use Rattle.mem_tree.specs.FieldLaws.{IsText}
use Rattle.mem_tree.specs.Lawful.{is_lawful}
use Rattle.mem_tree.specs.Slots.{Slots, Files, Counted, tree_in, times_in, timed, places_of, positive, fits, same_body, put_body, raised_body, with_node}
use Rattle.mem_tree.specs.Built.{built, above, next_of, times_built, is_good, first_bad, agree, HasTexts}
use Rattle.mem_tree.proofs.MapLemmas.{parts_true}
use Rattle.mem_tree.proofs.Counting.{count_none}
use Rattle.mem_tree.proofs.TreeOf.{same_path_decides, number_tie, paths-tree}
use Rattle.mem_tree.proofs.LawfulLemmas.{lawful_from}

-- one entry more at the end
built-push : (t : FileTree) (es : List Entry) (e : Entry) → built t (es ++ e ∷ []) ≡ insert (built t es) e.path e.node
built-push t [] e = refl
built-push t (f ∷ es) e = built-push (insert t f.path f.node) es e

next_of-push : (es : List Entry) (e : Entry) → next_of (es ++ e ∷ []) ≡ max (next_of es) (above e.node)
next_of-push [] e = max_zero (above e.node)
  where
    max_zero : (n : ℕ) → max n 0 ≡ max 0 n
    max_zero n = omega arith
next_of-push (f ∷ es) e = ap (max (above f.node)) (next_of-push es e) ∙ regroup (above f.node) (next_of es) (above e.node)
  where
    regroup : (a b c : ℕ) → max a (max b c) ≡ max (max a b) c
    regroup a b c = omega arith

-- ---- the tests

absent_from : (o : Option Node) → not (is_some o) ≡ true → o ≡ None
absent_from None t = refl
absent_from (Some node) t = cc

agree_file : (n m : Bool) (bytes mode : Bool) → n ≡ true → (not n || (bytes && mode)) ≡ true → (bytes ≡ true) × (mode ≡ true)
agree_file true m bytes mode same t = parts_true bytes mode t
agree_file false m bytes mode same t = cc

-- what holds of the nodes of a tree and of those that are added holds of the nodes behind it
all_built : (es : List Entry) (t : FileTree) (node : Node) → ((q : Names) (n : Node) → get t q ≡ Some n → agree n node ≡ true)
    → list_all (λ (f : Entry). agree f.node node) es ≡ true → (q : Names) (n : Node) → get (built t es) q ≡ Some n → agree n node ≡ true
all_built [] t node old new = old
all_built (e ∷ es) t node old new =
    let parts = parts_true (agree e.node node) (list_all (λ (f : Entry). agree f.node node) es) new in
    all_built es (insert t e.path e.node) node
    (λ q n. by_place t e.path e.node q (λ o. o ≡ Some n → agree n node ≡ true) (λ _ here. subst (λ k. agree k node ≡ true) (same_Some _ _ here) parts.0) (λ _ there. old q n there)) parts.1

root_agrees : (node : Node) (q : Names) (n : Node) → get root_tree q ≡ Some n → agree n node ≡ true
root_agrees node q n = by_place empty [] (Dir 0o755) q (λ o. o ≡ Some n → agree n node ≡ true) (λ _ here. subst (λ k. agree k node ≡ true) (same_Some _ _ here) refl) (λ _ there. none q n there)
  where
    none : (q : Names) (n : Node) → get {R = path_cmp} (empty {X = Node}) q ≡ Some n → agree n node ≡ true
    none q n e = let nothing : get {R = path_cmp} (empty {X = Node}) q ≡ None = get-empty path_cmp q in cc

agrees_from : (es : List Entry) (node : Node) → list_all (λ (f : Entry). agree f.node node) es ≡ true → Agrees (built root_tree es) node
agrees_from es node t q number b c m k is at_q =
    let test : agree (File number c k) (File number b m) ≡ true = subst (λ n. agree (File number c k) n ≡ true) is (all_built es root_tree node (root_agrees node) t q _ at_q) in
    let parts = agree_file (number == number) true (bytes_eq c b) (k == m) (eq-eqb number number refl) test in
    (sym ((bytes_eq-Decides c b).0 parts.0), sym (eqb-true k m parts.1))

link_is : (node : Node) (target : List ℕ) → IsText node → node ≡ Link target → IsTrue (is_utf8 target)
link_is node target text is = subst IsText is text

texts_with : (t : FileTree) (p : Names) (node : Node) → AreTexts t → AreNames p → IsText node → AreTexts (insert t p node)
texts_with t p node texts named text = record {
  names = λ q. by_place t p node q (λ o. IsTrue (is_some o) → AreNames q) (λ is _. subst AreNames (sym is) named) (λ _ stands. texts.names q stands);
  targets = λ q target. by_place t p node q (λ o. o ≡ Some (Link target) → IsTrue (is_utf8 target)) (λ _ here. link_is node target text (same_Some _ _ here)) (λ _ there. texts.targets q target there);
}

-- one entry more, which is good
module _ (es : List Entry) (e : Entry) (next : ℕ) (sound : IsSound (Began (built root_tree es) next)) (good : is_good es e ≡ true) (texts : HasTexts e) where
  good_parts : (((not (is_some (get (built root_tree es) e.path))) ≡ true) × (is_dir_node (get (built root_tree es) (parent e.path)) ≡ true)) × ((is_lawful e.node ≡ true) × (list_all (λ (f : Entry). agree f.node e.node) es ≡ true))
  good_parts = let one = parts_true _ _ good in let two = parts_true _ _ one.0 in let three = parts_true _ _ two.0 in ((three.0, three.1), (two.1, one.1))

  good_absent : IsAbsent (built root_tree es) e.path
  good_absent = absent_from _ good_parts.0.0

  new_above : (n : ℕ) (b : List ℕ) (m : ℕ) → e.node ≡ File n b m → n < max next (above e.node)
  new_above n b m is = let more : above e.node ≡ n + 1 = ap above is in let le = le-max_right next (above e.node) in omega arith

  old_above : Above (max next (above e.node)) (built root_tree es)
  old_above q n b m at_q = let less = sound.above q n b m at_q in let le = le-max_left next (above e.node) in omega arith

  good_sound : IsSound (Began (insert (built root_tree es) e.path e.node) (max next (above e.node)))
  good_sound = record {
    allowed = tt;
    texts = texts_with (built root_tree es) e.path e.node sound.texts texts.0 texts.1;
    tree = inserted_tree (built root_tree es) e.path e.node sound.tree record { named = texts.0; absent = good_absent; parent_is_dir = good_parts.0.1 } (agrees_from es e.node good_parts.1.1) (lawful_from e.node good_parts.1.0);
    above = above_insert (built root_tree es) e.path e.node _ old_above new_above;
  }

-- ---- the bodies that are kept

same_and : (b : Bool) → b ≡ (b && true)
same_and true = refl
same_and false = refl

twice : (b : Bool) → b ≡ (b && b)
twice true = refl
twice false = refl

get-file : (files : Files) (k : ℕ) (body : FileBody) (n : ℕ) → get (insert files k body) n ≡ cond (n == k) (Some body) (get files n)
get-file files k body n = get-insert nat_cmp_total files k body n ∙ ap (λ b. cond b (Some body) (get files n)) (sym (number_tie n k))

turned : (n k : ℕ) → (k == n) ≡ (n == k)
turned n k = by (k == n) (n == k) refl refl
  where
    by : (a b : Bool) → (k == n) ≡ a → (n == k) ≡ b → (k == n) ≡ (n == k)
    by true true p q = p ∙ sym q
    by false false p q = p ∙ sym q
    by true false p q = absurd (let same : n ≡ k = sym (eqb-true k n p) in let t : (n == k) ≡ true = eq-eqb n k same in cc)
    by false true p q = absurd (let same : k ≡ n = sym (eqb-true n k q) in let t : (k == n) ≡ true = eq-eqb k n same in cc)

-- one body put in, which shows the file
body_more : (files : Files) (n : ℕ) (new : FileBody) (b : List ℕ) (m : ℕ) → new.bytes ≡ b → new.mode ≡ m → ((c : List ℕ) (l : ℕ) → (bytes_eq b c && m == l) ≡ (same_body (get files n) c l && (bytes_eq b c && m == l)))
    → (k : ℕ) (c : List ℕ) (l : ℕ) → same_body (get (insert files n new) k) c l ≡ (same_body (get files k) c l && (not (n == k) || (bytes_eq b c && m == l)))
body_more files n new b m b_is m_is same k c l = ap (λ o. same_body o c l) (get-file files n new k) ∙ by (k == n) refl
  where
    by : (t : Bool) → (k == n) ≡ t → same_body (cond (k == n) (Some new) (get files k)) c l ≡ (same_body (get files k) c l && (not (n == k) || (bytes_eq b c && m == l)))
    by true t =
        ap (λ o. same_body o c l) (cond-true _ (Some new) _ t) ∙ (λ i. bytes_eq (b_is i) c && m_is i == l) ∙ same c l
        ∙ ap (λ o. same_body o c l && (bytes_eq b c && m == l)) (ap (get files) (sym (eqb-true k n t)))
        ∙ ap (λ x. same_body (get files k) c l && (not x || (bytes_eq b c && m == l))) (sym (sym (turned n k) ∙ t))
    by false t =
        ap (λ o. same_body o c l) (cond-false _ (Some new) _ t) ∙ same_and (same_body (get files k) c l)
        ∙ ap (λ x. same_body (get files k) c l && (not x || (bytes_eq b c && m == l))) (sym (sym (turned n k) ∙ t))

put_more : (files : Files) (n : ℕ) (b : List ℕ) (m : ℕ) (o : Option FileBody) → get files n ≡ o → same_body o b m ≡ true
    → (k : ℕ) (c : List ℕ) (l : ℕ) → same_body (get (put_body o n b m files) k) c l ≡ (same_body (get files k) c l && (not (n == k) || (bytes_eq b c && m == l)))
put_more files n b m None at fit k c l = body_more files n (record { bytes = b; mode = m; paths = 1 }) b m refl refl (λ c l. ap (λ o. same_body o c l && (bytes_eq b c && m == l)) (sym at)) k c l
put_more files n b m (Some body) at fit k c l =
    let parts = parts_true (bytes_eq body.bytes b) (body.mode == m) fit in
    let b_is : body.bytes ≡ b = (bytes_eq-Decides body.bytes b).0 parts.0 in
    let m_is : body.mode ≡ m = eqb-true body.mode m parts.1 in
    ap (λ o. same_body (get (raised_body o n files) k) c l) at
    ∙ body_more files n (record body { paths = body.paths + 1 }) b m b_is m_is
    (λ c l. twice (bytes_eq b c && m == l) ∙ ap (λ x. x && (bytes_eq b c && m == l)) (sym ((λ i. bytes_eq (b_is i) c && m_is i == l))) ∙ ap (λ o. same_body o c l && (bytes_eq b c && m == l)) (sym at)) k c l

fits_more : (files : Files) (e node : Node) → fits files e ≡ true → fits (with_node e files) node ≡ (fits files node && agree e node)
fits_more files (Dir mode) node fit = same_and (fits files node)
fits_more files (Link target) node fit = same_and (fits files node)
fits_more files (File n b m) (Dir mode) fit = refl
fits_more files (File n b m) (Link target) fit = refl
fits_more files (File n b m) (File k c l) fit = put_more files n b m (get files n) refl fit k c l

-- the root alone has no file
root_fits : (slots : Slots) (files : Files) → Counted slots files → tree_in slots files ≡ root_tree → (node : Node) → true ≡ fits files node
root_fits slots files counted root (Dir mode) = refl
root_fits slots files counted root (Link target) = refl
root_fits slots files counted root (File n b m) = by (get files n) (counted n)
  where
    none : places_of n slots ≡ 0
    none = sym (paths-tree slots files n) ∙ ap (paths_of n) root
        ∙ count_none (is_file_of n) path_cmp-total path_cmp-exact root_tree (λ q node at_q. by_place empty [] (Dir 0o755) q (λ o. o ≡ Some node → is_file_of n node ≡ false) (λ _ here. sym (ap (is_file_of n) (same_Some _ _ here))) (λ _ there. absurd (nothing q node (sym (get-empty path_cmp q) ∙ there))) at_q)
      where
        nothing : (q : Names) (node : Node) → None ≡ Some node → ⊥
        nothing q node e = cc

    by : (o : Option FileBody) → option_map (λ (body : FileBody). body.paths) o ≡ positive (places_of n slots) → true ≡ same_body o b m
    by None is = refl
    by (Some body) is = absurd (clash (is ∙ ap positive none))
      where
        clash : Some body.paths ≡ None → ⊥
        clash e = cc

-- ---- times

stays : (es : List Entry) (t : FileTree) (p : Names) → is_some (get t p) ≡ true → is_some (get (built t es) p) ≡ true
stays [] t p stands = stands
stays (e ∷ es) t p stands = stays es (insert t e.path e.node) p (by_place t e.path e.node p (λ o. is_some o ≡ true) (λ _. refl) (λ _. stands))

others : (es : List Entry) (t : FileTree) (p : Names) → get (built t es) p ≡ None → AllByRecursion (λ (f : Entry). is_same_path f.path p ≡ false) es
others [] t p absent = tt
others (e ∷ es) t p absent = (by (is_same_path e.path p) refl, others es (insert t e.path e.node) p absent)
  where
    by : (b : Bool) → is_same_path e.path p ≡ b → is_same_path e.path p ≡ false
    by true same = absurd (clash (sym (stays es (insert t e.path e.node) p (ap (λ q. is_some (get (insert t e.path e.node) q)) (sym ((same_path_decides e.path p).0 same)) ∙ ap is_some (get-inserted t e.path e.node))) ∙ ap is_some absent))
      where
        clash : true ≡ false → ⊥
        clash c = cc
    by false other = other

times_built-push : (es : List Entry) (e : Entry) → AllByRecursion (λ (f : Entry). is_same_path f.path e.path ≡ false) es → (q : Names) → times_built (es ++ e ∷ []) q ≡ (if is_same_path e.path q then e.mtime else times_built es q)
times_built-push [] e apart q = refl
times_built-push (f ∷ es) e apart q = ap (λ t. if is_same_path f.path q then f.mtime else t) (times_built-push es e apart.1 q) ∙ by (is_same_path f.path q) (is_same_path e.path q) refl refl
  where
    by : (a b : Bool) → is_same_path f.path q ≡ a → is_same_path e.path q ≡ b
        → (if is_same_path f.path q then f.mtime else if is_same_path e.path q then e.mtime else times_built es q) ≡ (if is_same_path e.path q then e.mtime else if is_same_path f.path q then f.mtime else times_built es q)
    by true true p r =
        absurd (let one : f.path ≡ q = (same_path_decides f.path q).0 p in let two : e.path ≡ q = (same_path_decides e.path q).0 r in
        let both : is_same_path f.path e.path ≡ true = (same_path_decides f.path e.path).1 (one ∙ sym two) in let no = apart.0 in cc)
    by true false p r = (λ i. if p i then f.mtime else if r i then e.mtime else times_built es q) ∙ sym (λ i. if r i then e.mtime else if p i then f.mtime else times_built es q)
    by false true p r = (λ i. if p i then f.mtime else if r i then e.mtime else times_built es q) ∙ sym (λ i. if r i then e.mtime else if p i then f.mtime else times_built es q)
    by false false p r = (λ i. if p i then f.mtime else if r i then e.mtime else times_built es q) ∙ sym (λ i. if r i then e.mtime else if p i then f.mtime else times_built es q)

-- ---- the loop

-- the slots and files keep the first n entries, which are good
pub record Builds (entries : List Entry) (slots : Slots) (files : Files) (next n : ℕ) : Type 0 where
  pub tree : tree_in slots files ≡ built root_tree (take n entries)
  pub number : next ≡ next_of (take n entries)
  pub sound : IsSound (Began (tree_in slots files) next)
  pub good : first_bad [] entries ≡ first_bad (take n entries) (drop n entries)
  pub times : times_in slots ≡ times_built (take n entries)
  pub bodies : (node : Node) → list_all (λ (f : Entry). agree f.node node) (take n entries) ≡ fits files node

pub builds_root : (entries : List Entry) (slots : Slots) (files : Files) → Counted slots files → tree_in slots files ≡ root_tree → times_in slots ≡ (λ (q : Names). pos 0) → Builds entries slots files 0 0
builds_root entries slots files counted root times = record { tree = root; number = refl; sound = subst (λ t. IsSound (Began t 0)) (sym root) root_sound; good = refl; times = times; bodies = root_fits slots files counted root }

-- the test is the one of the definition
pub test_told : (entries : List Entry) (slots : Slots) (files : Files) (next i : ℕ) (e : Entry) → Builds entries slots files next i
    → ((not (is_some (get (tree_in slots files) e.path)) && is_dir_node (get (tree_in slots files) (parent e.path))) && is_lawful e.node && fits files e.node) ≡ is_good (take i entries) e
test_told entries slots files next i e so_far =
    (λ j. (not (is_some (get (so_far.tree j) e.path)) && is_dir_node (get (so_far.tree j) (parent e.path))) && is_lawful e.node && sym (so_far.bodies e.node) j)

module _ (entries : List Entry) (slots more : Slots) (files later_files : Files) (next later i : ℕ) (e : Entry) (so_far : Builds entries slots files next i) (within : i < length entries) (is : e ≡ get_or entries i e)
    (good : is_good (take i entries) e ≡ true) (made : tree_in more later_files ≡ insert (tree_in slots files) e.path e.node) (timed_is : times_in more ≡ timed e.path e.mtime (times_in slots))
    (kept : later_files ≡ with_node e.node files) (later_is : later ≡ max next (above e.node)) (texts : HasTexts e) where
  front : take (i + 1) entries ≡ take i entries ++ e ∷ []
  front = take_more entries i e within ∙ ap (λ x. take i entries ++ x ∷ []) (sym is)

  rest : drop i entries ≡ e ∷ drop (i + 1) entries
  rest = drop_more entries i e within ∙ ap (λ x. x ∷ drop (i + 1) entries) (sym is)

  was : IsSound (Began (built root_tree (take i entries)) next)
  was = subst (λ t. IsSound (Began t next)) so_far.tree so_far.sound

  tree_is : tree_in more later_files ≡ insert (built root_tree (take i entries)) e.path e.node
  tree_is = made ∙ ap (λ t. insert t e.path e.node) so_far.tree

  fit : fits files e.node ≡ true
  fit = sym (so_far.bodies e.node) ∙ (good_parts (take i entries) e next was good texts).1.1

  goes_on : (g : Bool) → g ≡ true → (if g then first_bad (take i entries ++ e ∷ []) (drop (i + 1) entries) else Some (length (take i entries))) ≡ first_bad (take i entries ++ e ∷ []) (drop (i + 1) entries)
  goes_on true t = refl
  goes_on false t = cc

  pub builds_next : Builds entries more later_files later (i + 1)
  builds_next = record {
    tree = tree_is ∙ sym (built-push root_tree (take i entries) e) ∙ ap (built root_tree) (sym front);
    number = later_is ∙ ap (λ n. max n (above e.node)) so_far.number ∙ sym (next_of-push (take i entries) e) ∙ ap next_of (sym front);
    sound = subst (λ t. IsSound (Began t later)) (sym tree_is) (subst (λ n. IsSound (Began (insert (built root_tree (take i entries)) e.path e.node) n)) (sym later_is) (good_sound (take i entries) e next was good texts));
    good = so_far.good ∙ ap (first_bad (take i entries)) rest ∙ goes_on (is_good (take i entries) e) good ∙ ap (λ l. first_bad l (drop (i + 1) entries)) (sym front);
    times = timed_is ∙ (λ j q. if is_same_path e.path q then e.mtime else so_far.times j q)
        ∙ (λ j q. (sym (times_built-push (take i entries) e (others (take i entries) root_tree e.path (good_absent (take i entries) e next was good texts)) q)) j) ∙ ap times_built (sym front);
    bodies = λ node. ap (list_all (λ (f : Entry). agree f.node node)) front ∙ list_all-append (λ (f : Entry). agree f.node node) (take i entries) (e ∷ [])
        ∙ (λ j. so_far.bodies node j && sym (same_and (agree e.node node)) j) ∙ sym (fits_more files e.node node fit) ∙ ap (λ (f : Files). fits f node) (sym kept);
  }

-- an entry that is not good is the first one
pub stops_at : (entries : List Entry) (slots : Slots) (files : Files) (next i : ℕ) (e : Entry) → Builds entries slots files next i → i < length entries → e ≡ get_or entries i e → is_good (take i entries) e ≡ false → first_bad [] entries ≡ Some i
stops_at entries slots files next i e so_far within is bad =
    so_far.good ∙ ap (first_bad (take i entries)) (drop_more entries i e within ∙ ap (λ x. x ∷ drop (i + 1) entries) (sym is))
    ∙ ap (λ b. if b then first_bad (take i entries ++ e ∷ []) (drop (i + 1) entries) else Some (length (take i entries))) bad
    ∙ ap (λ (n : ℕ). Some n) (length-take-le i entries (omega arith))
