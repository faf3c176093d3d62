-- That a changing call is allowed is one fact, and so is that each call of a record was.
use Rattle.std.specs.Prelude.{◌≡◌, ◌⊎◌, ℕ, List, [], ◌∷◌, Option, refl}
use Rattle.std.specs.Coded.{Coded, Coded-set, code_by, coded×, coded⊎, coded_ℕ, coded_list, coded_option, ×_prop, Unit-prop}
use Rattle.std.proofs.Common.{inl, inr}
use Rattle.std.proofs.Props.{props}
use Rattle.tree_core.specs.declared.node.Node.{Node}
use Rattle.tree_core.specs.declared.node.Node.TheVariants.{Dir, Link, File}
use Rattle.tree_core.specs.declared.node.Change.{Change}
use Rattle.tree_core.specs.declared.node.Change.TheVariants.{MakeDir, MakeLink, MakeHard, WriteFile, Rename, SetMode, Remove, RemoveDir, Sync}
use Rattle.std.specs.FinMap.{code}
use Rattle.dired_text.specs.Paths.{Names, path_cmp}
use Rattle.mem_tree.specs.declared.attempt.Attempt.{Attempt}
use Rattle.tree_core.specs.FileTree.{FileTree, CanDo, IsLawful}
use Rattle.tree_core.specs.History.{History, Began, Then, IsSound, AllAllowed, current_tree}
use Rattle.mem_tree.specs.Records.{Was, AllWere, history_with}
use Rattle.mem_tree.specs.Times.{Times}

abbrev Parts : Type 0
Parts = ℕ ⊎ (List ℕ ⊎ (ℕ × (List ℕ × ℕ)))

abbrev to_parts : Node → Parts
to_parts (Dir mode) = inl mode
to_parts (Link target) = inr (inl target)
to_parts (File number bytes mode) = inr (inr (number, (bytes, mode)))

abbrev from_parts : Parts → Node
from_parts (inl mode) = Dir mode
from_parts (inr (inl target)) = Link target
from_parts (inr (inr p)) = File p.0 p.1.0 p.1.1

same_parts : (node : Node) → from_parts (to_parts node) ≡ node
same_parts (Dir mode) = refl
same_parts (Link target) = refl
same_parts (File number bytes mode) = refl

node_code : Coded Node
node_code = code_by Parts (coded⊎ coded_ℕ (coded⊎ (coded_list coded_ℕ) (coded× coded_ℕ (coded× (coded_list coded_ℕ) coded_ℕ)))) to_parts from_parts same_parts

node_prop : (a b : Option Node) → IsProp (a ≡ b)
node_prop a b = Coded-set (coded_option node_code) a b

IsLawful-prop : (node : Node) → IsProp (IsLawful node)
IsLawful-prop (Dir mode) = hlevel props
IsLawful-prop (Link target) = hlevel props
IsLawful-prop (File number bytes mode) = hlevel props

CanDo-prop : (change : Change) (t : FileTree) → IsProp (CanDo change t)
CanDo-prop (MakeDir p mode) t = hlevel (props, node_prop)
CanDo-prop (MakeLink p target) t = hlevel (props, node_prop)
CanDo-prop (MakeHard p old) t = hlevel (props, node_prop)
CanDo-prop (WriteFile p bytes mode) t = hlevel (props, node_prop)
CanDo-prop (Rename from to) t = hlevel (props, node_prop)
CanDo-prop (SetMode p mode) t = hlevel (props, node_prop)
CanDo-prop (Remove p) t = hlevel (props, node_prop)
CanDo-prop (RemoveDir p) t = hlevel (props, node_prop)
CanDo-prop Sync t = Unit-prop

AllAllowed-prop : (h : History) → IsProp (AllAllowed h)
AllAllowed-prop (Began t next) = Unit-prop
AllAllowed-prop (Then h change) = ×_prop (CanDo-prop change (current_tree h)) (AllAllowed-prop h)

pub IsSound-prop : (h : History) → IsProp (IsSound h)
IsSound-prop h = hlevel (props, node_prop, IsLawful-prop, AllAllowed-prop)

Was-prop : (h : History) (a : Attempt) → IsProp (Was h a)
Was-prop h a = hlevel (props, CanDo-prop a.change (current_tree h))

pub AllWere-prop : (h : History) (attempts : List Attempt) → IsProp (AllWere h attempts)
AllWere-prop h [] = Unit-prop
AllWere-prop h (a ∷ left) = ×_prop (Was-prop h a) (AllWere-prop (history_with h a) left)

pub FileTree-prop : (a b : FileTree) → IsProp (a ≡ b)
FileTree-prop a b = Coded-set (code {R = path_cmp} (coded_list (coded_list coded_ℕ)) node_code) a b

pub Times-prop : (a b : Times) → IsProp (a ≡ b)
Times-prop a b = hlevel props
