-- Two steps that are apart can be done in either order, and neither changes what a look at the other tells.
use Rattle.std.proofs.Common.{◌≡◌, ◌≢◌, ⊎_elim, ℕ, ◌-◌, ◌==◌, Bool, true, false, cond, [], ◌++◌, length, drop, refl, sym, ◌∙◌, ap, Option, Some, None, is_some, if◌then◌else◌, append_assoc}
use Rattle.std.proofs.lemmas.Bool.{cond-false, cases_Bool, eqb-true}
use Rattle.std.proofs.lemmas.List.{take-append-drop}
use Rattle.std.proofs.lemmas.Option.{none-some}
use Rattle.std.specs.Option.{option_map}
use Rattle.std.specs.FinMap.{get, insert}
use Rattle.dired_text.specs.Paths.{Names, rest_below, parent}
use Rattle.dired_text.proofs.PathLemmas.{rest_below-append, rest_below-some, rest_below-same}
use Rattle.tree_core.specs.declared.node.Node.{Node}
use Rattle.tree_core.specs.declared.node.Node.TheVariants.{Dir, Link, File}
use Rattle.tree_core.specs.FileTree.{FileTree, IsAbsent, renamed, after_rename, set_mode_of, with_nodes, with_file_mode, is_dir_node}
use Rattle.tree_core.proofs.TreeLemmas.{same_tree, get-with_nodes, get-renamed, tie}
use Rattle.tree_core.proofs.Sound.{shows, get-inserted, get-inserted_other, by_place}
use Rattle.commit_steps.specs.declared.step.Step.{Step}
use Rattle.commit_steps.specs.declared.step.Step.TheVariants.{MakeDir, Rename, Mode}
use Rattle.step_trees.proofs.StepLemmas.{IsClearStep}
use Rattle.step_trees.proofs.Without.{renamed-out, renamed-to, renamed-from, IsClear, apart_at}
use Rattle.step_trees.specs.Leads.{number_of, file_of, SetOther}
use Rattle.step_trees.specs.Steps.{step_done}
use Rattle.step_trees.specs.Apart.{IsApartStep, IsApart, AreApart}

-- ---- paths

pub out_differs : (p q : Names) → rest_below p q ≡ None → q ≢ p
out_differs p q out same = none-some [] (sym out ∙ ap (rest_below p) same ∙ rest_below-same p)

pub out_below : (p x r : Names) → IsApart p x → rest_below x (p ++ r) ≡ None
out_below p x r apart = apart_at p x (p ++ r) r apart (rest_below-append p r)

pub apart_turned : (p q : Names) → IsApart p q → IsApart q p
apart_turned p q apart = (apart.1, apart.0)

-- what a path isn't below, its parent isn't below
pub out_parent : (p q : Names) → rest_below p q ≡ None → rest_below p (parent q) ≡ None
out_parent p q out = by_rest (rest_below p (parent q)) refl
  where
    by_rest : (o : Option Names) → rest_below p (parent q) ≡ o → o ≡ None
    by_rest None e = refl
    by_rest (Some r) e = absurd (none-some (r ++ drop (length q - 1) q)
        (sym out ∙ ap (rest_below p) (sym (take-append-drop (length q - 1) q) ∙ ap (λ (l : Names). l ++ drop (length q - 1) q) (rest_below-some p (parent q) r e) ∙ append_assoc p r (drop (length q - 1) q))
        ∙ rest_below-append p (r ++ drop (length q - 1) q)))

-- q is none of the step's paths, nor below one
abbrev pub IsOut : Step → Names → Type 0
IsOut (MakeDir p) q = rest_below p q ≡ None
IsOut (Rename from to) q = (rest_below from q ≡ None) × (rest_below to q ≡ None)
IsOut (Mode p old new) q = rest_below p q ≡ None

pub out_of : (s : Step) (q : Names) → IsApartStep q s → IsOut s q
out_of (MakeDir p) q apart = apart.1
out_of (Rename from to) q apart = (apart.0.1, apart.1.1)
out_of (Mode p old new) q apart = apart.1

pub out_parent_of : (s : Step) (q : Names) → IsOut s q → IsOut s (parent q)
out_parent_of (MakeDir p) q out = out_parent p q out
out_parent_of (Rename from to) q out = (out_parent from q out.0, out_parent to q out.1)
out_parent_of (Mode p old new) q out = out_parent p q out

pub out_under : (s : Step) (q r : Names) → IsApartStep q s → IsOut s (q ++ r)
out_under (MakeDir p) q r apart = out_below q p r apart
out_under (Rename from to) q r apart = (out_below q from r apart.0, out_below q to r apart.1)
out_under (Mode p old new) q r apart = out_below q p r apart

-- ---- what a step leaves elsewhere

-- the node but for the mode of a file
abbrev shape : Node → Node
shape (Dir mode) = Dir mode
shape (Link target) = Link target
shape (File number bytes mode) = File number bytes 0

abbrev form : Option Node → Option Node
form o = option_map shape o

some_form : (o : Option Node) → is_some (form o) ≡ is_some o
some_form None = refl
some_form (Some node) = refl

dir_form : (o : Option Node) → is_dir_node (form o) ≡ is_dir_node o
dir_form None = refl
dir_form (Some (Dir mode)) = refl
dir_form (Some (Link target)) = refl
dir_form (Some (File number bytes mode)) = refl

number_form : (o : Option Node) → number_of (form o) ≡ number_of o
number_form None = refl
number_form (Some (Dir mode)) = refl
number_form (Some (Link target)) = refl
number_form (Some (File number bytes mode)) = refl

none_form : (o : Option Node) → form o ≡ None → o ≡ None
none_form None e = refl
none_form (Some node) e = cc

form_mode : (n mode : ℕ) (o : Option Node) → form (option_map (with_file_mode n mode) o) ≡ form o
form_mode n mode None = refl
form_mode n mode (Some (Dir m)) = refl
form_mode n mode (Some (Link target)) = refl
form_mode n mode (Some (File k b m)) = refl

form_set : (t : FileTree) (p : Names) (mode : ℕ) (q : Names) → q ≢ p → (o : Option Node) → form (get (set_mode_of o t p mode) q) ≡ form (get t q)
form_set t p mode q other None = refl
form_set t p mode q other (Some (Dir m)) = ap form (get-inserted_other t p (Dir mode) q other)
form_set t p mode q other (Some (Link target)) = refl
form_set t p mode q other (Some (File n b m)) = ap form (get-with_nodes (with_file_mode n mode) t q) ∙ form_mode n mode (get t q)

-- but for the mode of a hard link of a file
pub form_step : (s : Step) (t : FileTree) (q : Names) → IsClearStep s t → IsOut s q → form (get (step_done s t) q) ≡ form (get t q)
form_step (MakeDir p) t q clear out = ap form (get-inserted_other t p (Dir 0o755) q (out_differs p q out))
form_step (Rename from to) t q clear out = ap form (renamed-out t from to clear q out.1 out.0)
form_step (Mode p old new) t q clear out = form_set t p new q (out_differs p q out) (get t p)

other_mode : (n mode : ℕ) (o : Option Node) → (number_of o ≡ Some n → ⊥) → option_map (with_file_mode n mode) o ≡ o
other_mode n mode None other = refl
other_mode n mode (Some (Dir m)) other = refl
other_mode n mode (Some (Link target)) other = refl
other_mode n mode (Some (File k b m)) other = ap (λ x. Some (File k b x)) (⊎_elim
    (λ same. absurd (other (ap (λ x. Some x) (eqb-true k n same))))
    (λ no. cond-false (k == n) mode m no)
    (cases_Bool (k == n)))

same_set : (t : FileTree) (p : Names) (mode : ℕ) (q : Names) → q ≢ p → (o : Option Node) → ((n : ℕ) → number_of o ≡ Some n → number_of (get t q) ≡ Some n → ⊥) → get (set_mode_of o t p mode) q ≡ get t q
same_set t p mode q other None apart = refl
same_set t p mode q other (Some (Dir m)) apart = get-inserted_other t p (Dir mode) q other
same_set t p mode q other (Some (Link target)) apart = refl
same_set t p mode q other (Some (File n b m)) apart = get-with_nodes (with_file_mode n mode) t q ∙ other_mode n mode (get t q) (apart n refl)

-- where that isn't one
pub same_step : (s : Step) (t : FileTree) (q : Names) → IsClearStep s t → IsOut s q → ((n : ℕ) → file_of t s ≡ Some n → number_of (get t q) ≡ Some n → ⊥) → get (step_done s t) q ≡ get t q
same_step (MakeDir p) t q clear out other = get-inserted_other t p (Dir 0o755) q (out_differs p q out)
same_step (Rename from to) t q clear out other = renamed-out t from to clear q out.1 out.0
same_step (Mode p old new) t q clear out other = same_set t p new q (out_differs p q out) (get t p) other

-- ---- two steps in either order

insert_insert : (t : FileTree) (p q : Names) (a b : Node) → p ≢ q → insert (insert t p a) q b ≡ insert (insert t q b) p a
insert_insert t p q a b other = same_tree _ _ (λ x. by_place (insert t p a) q b x (λ o. o ≡ get (insert (insert t q b) p a) x)
    (λ same. sym (get-inserted_other (insert t q b) p a x (λ e. other (sym e ∙ same)) ∙ ap (get (insert t q b)) same ∙ get-inserted t q b))
    (λ no_q. by_place t p a x (λ o. o ≡ get (insert (insert t q b) p a) x)
    (λ same. sym (ap (get (insert (insert t q b) p a)) same ∙ get-inserted (insert t q b) p a))
    (λ no_p. sym (get-inserted_other (insert t q b) p a x no_p ∙ get-inserted_other t q b x no_q))))

nodes_insert : (t : FileTree) (n mode : ℕ) (q : Names) (m : ℕ) → with_nodes (with_file_mode n mode) (insert t q (Dir m)) ≡ insert (with_nodes (with_file_mode n mode) t) q (Dir m)
nodes_insert t n mode q m = same_tree _ _ (λ x. get-with_nodes (with_file_mode n mode) (insert t q (Dir m)) x ∙ by_place t q (Dir m) x (λ o. option_map (with_file_mode n mode) o ≡ get (insert (with_nodes (with_file_mode n mode) t) q (Dir m)) x)
    (λ same. sym (ap (get (insert (with_nodes (with_file_mode n mode) t) q (Dir m))) same ∙ get-inserted (with_nodes (with_file_mode n mode) t) q (Dir m)))
    (λ other. sym (get-inserted_other (with_nodes (with_file_mode n mode) t) q (Dir m) x other ∙ get-with_nodes (with_file_mode n mode) t x)))

nodes_nodes : (t : FileTree) (n m a b : ℕ) → n ≢ m → with_nodes (with_file_mode n a) (with_nodes (with_file_mode m b) t) ≡ with_nodes (with_file_mode m b) (with_nodes (with_file_mode n a) t)
nodes_nodes t n m a b other = same_tree _ _ (λ x.
    get-with_nodes (with_file_mode n a) (with_nodes (with_file_mode m b) t) x ∙ ap (option_map (with_file_mode n a)) (get-with_nodes (with_file_mode m b) t x) ∙ by_node (get t x)
    ∙ sym (get-with_nodes (with_file_mode m b) (with_nodes (with_file_mode n a) t) x ∙ ap (option_map (with_file_mode m b)) (get-with_nodes (with_file_mode n a) t x)))
  where
    by_number : (k x : ℕ) (c d : Bool) → (c ≡ true → k ≡ n) → (d ≡ true → k ≡ m) → (if c then a else if d then b else x) ≡ (if d then b else if c then a else x)
    by_number k x true true is_n is_m = absurd (other (sym (is_n refl) ∙ is_m refl))
    by_number k x true false is_n is_m = refl
    by_number k x false true is_n is_m = refl
    by_number k x false false is_n is_m = refl

    by_node : (o : Option Node) → option_map (with_file_mode n a) (option_map (with_file_mode m b) o) ≡ option_map (with_file_mode m b) (option_map (with_file_mode n a) o)
    by_node None = refl
    by_node (Some (Dir k)) = refl
    by_node (Some (Link target)) = refl
    by_node (Some (File k c x)) = ap (λ y. Some (File k c y)) (by_number k x (k == n) (k == m) (eqb-true k n) (eqb-true k m))

-- a rename and a place apart from it
module _ (t : FileTree) (from to : Names) (clear : IsClear t to) where
  pub clear_insert : (p : Names) (node : Node) → IsApart to p → IsClear (insert t p node) to
  clear_insert p node apart r = get-inserted_other t p node (to ++ r) (out_differs p (to ++ r) (out_below to p r apart)) ∙ clear r

  pub clear_nodes : (f : Node → Node) → IsClear (with_nodes f t) to
  clear_nodes f r = get-with_nodes f t (to ++ r) ∙ ap (option_map f) (clear r)

  shown : (q : Names) (a b : Option Names) → rest_below to q ≡ a → rest_below from q ≡ b → get (renamed t from to) q ≡ after_rename a b (get t) from q
  shown q a b e1 e2 = get-renamed from to t clear q ∙ ap (λ (o : Option Names). after_rename o (rest_below from q) (get t) from q) e1 ∙ ap (λ (o : Option Names). after_rename a o (get t) from q) e2

  rename_insert : (p : Names) (node : Node) → IsApart from p → IsApart to p → insert (renamed t from to) p node ≡ renamed (insert t p node) from to
  rename_insert p node apart_from apart_to = same_tree _ _ (λ x. by_rest x (rest_below to x) (rest_below from x) refl refl)
    where
      there : IsClear (insert t p node) to
      there = clear_insert p node apart_to

      by_rest : (x : Names) (a b : Option Names) → rest_below to x ≡ a → rest_below from x ≡ b → get (insert (renamed t from to) p node) x ≡ get (renamed (insert t p node) from to) x
      by_rest x (Some r) b ea eb =
          let x_is : x ≡ to ++ r = rest_below-some to x r ea in
          get-inserted_other (renamed t from to) p node x (out_differs p x (apart_at to p x r apart_to ea)) ∙ ap (get (renamed t from to)) x_is ∙ renamed-to t from to clear r
          ∙ sym (ap (get (renamed (insert t p node) from to)) x_is ∙ renamed-to (insert t p node) from to there r ∙ get-inserted_other t p node (from ++ r) (out_differs p (from ++ r) (out_below from p r apart_from)))
      by_rest x None (Some r) ea eb =
          get-inserted_other (renamed t from to) p node x (out_differs p x (apart_at from p x r apart_from eb)) ∙ renamed-from t from to clear x r ea eb
          ∙ sym (renamed-from (insert t p node) from to there x r ea eb)
      by_rest x None None ea eb =
          shows (renamed t from to) p node x ∙ ap (λ (o : Option Node). cond (tie x p) (Some node) o) (renamed-out t from to clear x ea eb)
          ∙ sym (renamed-out (insert t p node) from to there x ea eb ∙ shows t p node x)

  rename_nodes : (f : Node → Node) → with_nodes f (renamed t from to) ≡ renamed (with_nodes f t) from to
  rename_nodes f = same_tree _ _ (λ x. by_rest x (rest_below to x) (rest_below from x) refl refl)
    where
      there : IsClear (with_nodes f t) to
      there = clear_nodes f

      by_rest : (x : Names) (a b : Option Names) → rest_below to x ≡ a → rest_below from x ≡ b → get (with_nodes f (renamed t from to)) x ≡ get (renamed (with_nodes f t) from to) x
      by_rest x (Some r) b ea eb =
          let x_is : x ≡ to ++ r = rest_below-some to x r ea in
          get-with_nodes f (renamed t from to) x ∙ ap (option_map f) (ap (get (renamed t from to)) x_is ∙ renamed-to t from to clear r)
          ∙ sym (ap (get (renamed (with_nodes f t) from to)) x_is ∙ renamed-to (with_nodes f t) from to there r ∙ get-with_nodes f t (from ++ r))
      by_rest x None (Some r) ea eb =
          get-with_nodes f (renamed t from to) x ∙ ap (option_map f) (renamed-from t from to clear x r ea eb) ∙ sym (renamed-from (with_nodes f t) from to there x r ea eb)
      by_rest x None None ea eb =
          get-with_nodes f (renamed t from to) x ∙ ap (option_map f) (renamed-out t from to clear x ea eb) ∙ sym (renamed-out (with_nodes f t) from to there x ea eb ∙ get-with_nodes f t x)

-- two renames
clear_renamed : (t : FileTree) (a b d : Names) → IsClear t b → IsClear t d → IsApart d a → IsApart d b → IsClear (renamed t a b) d
clear_renamed t a b d clear_b clear_d apart_a apart_b r = renamed-out t a b clear_b (d ++ r) (out_below d b r apart_b) (out_below d a r apart_a) ∙ clear_d r

rename_rename : (t : FileTree) (a b c d : Names) → IsClear t b → IsClear t d → IsApart a c → IsApart a d → IsApart b c → IsApart b d → renamed (renamed t a b) c d ≡ renamed (renamed t c d) a b
rename_rename t a b c d clear_b clear_d ac ad bc bd = same_tree _ _ (λ x. by_rest x (rest_below d x) (rest_below c x) (rest_below b x) (rest_below a x) refl refl refl refl)
  where
    then_d : IsClear (renamed t a b) d
    then_d = clear_renamed t a b d clear_b clear_d (apart_turned a d ad) (apart_turned b d bd)

    then_b : IsClear (renamed t c d) b
    then_b = clear_renamed t c d b clear_d clear_b bc bd

    by_rest : (x : Names) (rd rc rb ra : Option Names) → rest_below d x ≡ rd → rest_below c x ≡ rc → rest_below b x ≡ rb → rest_below a x ≡ ra → get (renamed (renamed t a b) c d) x ≡ get (renamed (renamed t c d) a b) x
    by_rest x (Some r) rc rb ra ed ec eb ea =
        let x_is : x ≡ d ++ r = rest_below-some d x r ed in
        ap (get (renamed (renamed t a b) c d)) x_is ∙ renamed-to (renamed t a b) c d then_d r
        ∙ renamed-out t a b clear_b (c ++ r) (out_below c b r (apart_turned b c bc)) (out_below c a r (apart_turned a c ac))
        ∙ sym (renamed-out (renamed t c d) a b then_b x (apart_at d b x r (apart_turned b d bd) ed) (apart_at d a x r (apart_turned a d ad) ed) ∙ ap (get (renamed t c d)) x_is ∙ renamed-to t c d clear_d r)
    by_rest x None (Some r) rb ra ed ec eb ea =
        renamed-from (renamed t a b) c d then_d x r ed ec
        ∙ sym (renamed-out (renamed t c d) a b then_b x (apart_at c b x r (apart_turned b c bc) ec) (apart_at c a x r (apart_turned a c ac) ec) ∙ renamed-from t c d clear_d x r ed ec)
    by_rest x None None (Some r) ra ed ec eb ea =
        let x_is : x ≡ b ++ r = rest_below-some b x r eb in
        renamed-out (renamed t a b) c d then_d x ed ec ∙ ap (get (renamed t a b)) x_is ∙ renamed-to t a b clear_b r
        ∙ sym (ap (get (renamed (renamed t c d) a b)) x_is ∙ renamed-to (renamed t c d) a b then_b r ∙ renamed-out t c d clear_d (a ++ r) (out_below a d r ad) (out_below a c r ac))
    by_rest x None None None (Some r) ed ec eb ea =
        renamed-out (renamed t a b) c d then_d x ed ec ∙ renamed-from t a b clear_b x r eb ea ∙ sym (renamed-from (renamed t c d) a b then_b x r eb ea)
    by_rest x None None None None ed ec eb ea =
        renamed-out (renamed t a b) c d then_d x ed ec ∙ renamed-out t a b clear_b x eb ea ∙ sym (renamed-out (renamed t c d) a b then_b x eb ea ∙ renamed-out t c d clear_d x ed ec)

-- a mode and a directory or a rename
mode_insert : (t : FileTree) (p : Names) (mode : ℕ) (q : Names) (m : ℕ) → q ≢ p → (o : Option Node) → set_mode_of o (insert t q (Dir m)) p mode ≡ insert (set_mode_of o t p mode) q (Dir m)
mode_insert t p mode q m other None = refl
mode_insert t p mode q m other (Some (Dir k)) = insert_insert t q p (Dir m) (Dir mode) other
mode_insert t p mode q m other (Some (Link target)) = refl
mode_insert t p mode q m other (Some (File n b k)) = nodes_insert t n mode q m

mode_rename : (t : FileTree) (p : Names) (mode : ℕ) (from to : Names) → IsClear t to → IsApart from p → IsApart to p → (o : Option Node) → set_mode_of o (renamed t from to) p mode ≡ renamed (set_mode_of o t p mode) from to
mode_rename t p mode from to clear apart_from apart_to None = refl
mode_rename t p mode from to clear apart_from apart_to (Some (Dir k)) = rename_insert t from to clear p (Dir mode) apart_from apart_to
mode_rename t p mode from to clear apart_from apart_to (Some (Link target)) = refl
mode_rename t p mode from to clear apart_from apart_to (Some (File n b k)) = rename_nodes t from to clear (with_file_mode n mode)

mode_mode : (t : FileTree) (p : Names) (a : ℕ) (q : Names) (b : ℕ) → p ≢ q → (o u : Option Node) → ((n : ℕ) → number_of o ≡ Some n → number_of u ≡ Some n → ⊥)
    → set_mode_of u (set_mode_of o t p a) q b ≡ set_mode_of o (set_mode_of u t q b) p a
mode_mode t p a q b other None u apart = refl
mode_mode t p a q b other (Some (Link target)) u apart = refl
mode_mode t p a q b other (Some (Dir k)) u apart = mode_insert t q b p a other u
mode_mode t p a q b other (Some (File n c k)) None apart = refl
mode_mode t p a q b other (Some (File n c k)) (Some (Link target)) apart = refl
mode_mode t p a q b other (Some (File n c k)) (Some (Dir x)) apart = sym (nodes_insert t n a q b)
mode_mode t p a q b other (Some (File n c k)) (Some (File m d x)) apart = nodes_nodes t m n b a (λ same. apart m (ap (λ y. Some y) (sym same)) refl)

pub other_turned : (t : FileTree) (s u : Step) → SetOther t s u → SetOther t u s
other_turned t s u other n e f = other n f e

-- Two steps that are apart can be done in either order.
pub commute : (s u : Step) (t : FileTree) → IsClearStep s t → IsClearStep u t → AreApart s u → SetOther t s u → step_done u (step_done s t) ≡ step_done s (step_done u t)
commute (MakeDir p) (MakeDir q) t cs cu apart other = insert_insert t p q (Dir 0o755) (Dir 0o755) (λ same. out_differs q p apart.1 same)
commute (MakeDir p) (Rename from to) t cs cu apart other = sym (rename_insert t from to cu p (Dir 0o755) (apart_turned p from apart.0) (apart_turned p to apart.1))
commute (MakeDir p) (Mode q old new) t cs cu apart other = ap (λ o. set_mode_of o (insert t p (Dir 0o755)) q new) (get-inserted_other t p (Dir 0o755) q (out_differs p q apart.0)) ∙ mode_insert t q new p 0o755 (out_differs q p apart.1) (get t q)
commute (Rename from to) (MakeDir q) t cs cu apart other = rename_insert t from to cs q (Dir 0o755) apart.0 apart.1
commute (Rename from to) (Rename c d) t cs cu apart other = rename_rename t from to c d cs cu apart.0.0 apart.0.1 apart.1.0 apart.1.1
commute (Rename from to) (Mode q old new) t cs cu apart other = ap (λ o. set_mode_of o (renamed t from to) q new) (renamed-out t from to cs q apart.1.0 apart.0.0) ∙ mode_rename t q new from to cs apart.0 apart.1 (get t q)
commute (Mode p old new) (MakeDir q) t cs cu apart other = sym (ap (λ o. set_mode_of o (insert t q (Dir 0o755)) p new) (get-inserted_other t q (Dir 0o755) p (out_differs q p apart.1)) ∙ mode_insert t p new q 0o755 (out_differs p q apart.0) (get t p))
commute (Mode p old new) (Rename from to) t cs cu apart other = sym (ap (λ o. set_mode_of o (renamed t from to) p new) (renamed-out t from to cu p apart.1.1 apart.0.1) ∙ mode_rename t p new from to cu (apart_turned p from apart.0) (apart_turned p to apart.1) (get t p))
commute (Mode p old new) (Mode q old2 new2) t cs cu apart other =
    ap (λ o. set_mode_of o (set_mode_of (get t p) t p new) q new2) (same_set t p new q (out_differs p q apart.0) (get t p) other)
    ∙ mode_mode t p new q new2 (out_differs q p apart.1) (get t p) (get t q) other
    ∙ sym (ap (λ o. set_mode_of o (set_mode_of (get t q) t q new2) p new) (same_set t q new2 p (out_differs q p apart.1) (get t q) (λ n e f. other n f e)))

-- ---- what looks tell elsewhere

pub some_kept : (s : Step) (t : FileTree) (q : Names) → IsClearStep s t → IsOut s q → is_some (get (step_done s t) q) ≡ is_some (get t q)
some_kept s t q clear out = sym (some_form (get (step_done s t) q)) ∙ ap is_some (form_step s t q clear out) ∙ some_form (get t q)

pub dir_kept : (s : Step) (t : FileTree) (q : Names) → IsClearStep s t → IsOut s q → is_dir_node (get (step_done s t) q) ≡ is_dir_node (get t q)
dir_kept s t q clear out = sym (dir_form (get (step_done s t) q)) ∙ ap is_dir_node (form_step s t q clear out) ∙ dir_form (get t q)

pub number_kept : (s : Step) (t : FileTree) (q : Names) → IsClearStep s t → IsOut s q → number_of (get (step_done s t) q) ≡ number_of (get t q)
number_kept s t q clear out = sym (number_form (get (step_done s t) q)) ∙ ap number_of (form_step s t q clear out) ∙ number_form (get t q)

pub absent_there : (s : Step) (t : FileTree) (q : Names) → IsClearStep s t → IsOut s q → IsAbsent t q → IsAbsent (step_done s t) q
absent_there s t q clear out absent = none_form (get (step_done s t) q) (form_step s t q clear out ∙ ap form absent)

pub absent_back : (s : Step) (t : FileTree) (q : Names) → IsClearStep s t → IsOut s q → IsAbsent (step_done s t) q → IsAbsent t q
absent_back s t q clear out absent = none_form (get t q) (sym (form_step s t q clear out) ∙ ap form absent)
