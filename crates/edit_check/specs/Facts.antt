-- That what a check keeps is one fact.
use Rattle.std.specs.Prelude.{◌≡◌, ℕ, zero, suc, List, refl}
use Rattle.std.specs.Coded.{Coded, Coded-set, code_by, coded_ℕ, Unit-prop}
use Rattle.std.specs.List.Sorted.{IsStrictlySortedBy-prop}
use Rattle.std.proofs.Props.{props}
use Rattle.dired_text.specs.Paths.{Names}
use Rattle.tree_core.specs.declared.node.Kind.{Kind}
use Rattle.tree_core.specs.declared.node.Kind.TheVariants as kind
use Rattle.tree_core.specs.declared.edit.Edit.{Edit}
use Rattle.tree_core.specs.declared.changes.Fresh.{Fresh}
use Rattle.tree_core.specs.declared.changes.Fresh.TheVariants as fresh
use Rattle.tree_core.specs.declared.changes.Creation.{Creation}
use Rattle.tree_core.specs.declared.changes.Changes.{Changes}
use Rattle.tree_core.specs.declared.changes.Changes.TheVariants.{Edits, Removals, Creations}
use Rattle.edit_words.specs.declared.row.Row.{Row}
use Rattle.edit_words.specs.declared.findings.Findings.{Findings}
use Rattle.edit_words.specs.Found.{CanStand, IsClosed, IsCovered}
use Rattle.edit_words.specs.WellFormed.{AreAsked, AreLawful, IsEdit, IsFreshIn}
use Rattle.edit_words.specs.Sight.{Sight}
use Rattle.edit_rules.specs.Plans.{AreMissing, AreModes, ModeChange}
use Rattle.edit_rules.specs.declared.table.Table.{Table}
use Rattle.edit_rules.specs.Tables.{IsTable}

pub IsTable-prop : (table : Table) → IsProp (IsTable table)
IsTable-prop table = hlevel props

pub IsCovered-prop : (f : Findings) (rs : List Row) → IsProp (IsCovered f rs)
IsCovered-prop f rs = hlevel props

CanStand-prop : (f : Findings) → IsProp (CanStand f)
CanStand-prop f = hlevel props

pub IsClosed-prop : (f : Findings) → IsProp (IsClosed f)
IsClosed-prop f = hlevel (props, CanStand-prop)

pub AreMissing-prop : (sight : Sight) (rs : List Row) (ps : List Names) → IsProp (AreMissing sight rs ps)
AreMissing-prop sight rs ps = hlevel (props, IsStrictlySortedBy-prop)

pub AreModes-prop : (sight : Sight) (rs : List Row) (ms : List ModeChange) → IsProp (AreModes sight rs ms)
AreModes-prop sight rs ms = hlevel props

-- ---- What can be asked for is one fact.

abbrev number_of : Kind → ℕ
number_of kind.File = 0
number_of kind.Dir = 1
number_of kind.Link = 2

abbrev kind_of : ℕ → Kind
kind_of zero = kind.File
kind_of (suc zero) = kind.Dir
kind_of (suc (suc n)) = kind.Link

same_kind : (k : Kind) → kind_of (number_of k) ≡ k
same_kind kind.File = refl
same_kind kind.Dir = refl
same_kind kind.Link = refl

kind_code : Coded Kind
kind_code = code_by ℕ coded_ℕ number_of kind_of same_kind

kind_prop : (a b : Kind) → IsProp (a ≡ b)
kind_prop a b = Coded-set kind_code a b

IsEdit-prop : (e : Edit) → IsProp (IsEdit e)
IsEdit-prop e = hlevel (props, kind_prop)

IsFreshIn-prop : (f : Fresh) → IsProp (IsFreshIn (λ p. Unit {0}) f)
IsFreshIn-prop (fresh.Link target) = hlevel props
IsFreshIn-prop (fresh.File bytes mode) = hlevel props
IsFreshIn-prop (fresh.Same path) = Unit-prop

AreLawful-prop : (changes : Changes) → IsProp (AreLawful (λ p. Unit {0}) changes)
AreLawful-prop (Edits edits) = hlevel (props, IsEdit-prop)
AreLawful-prop (Removals removals) = Unit-prop
AreLawful-prop (Creations creations) = hlevel (props, IsFreshIn-prop)

pub AreAsked-prop : (changes : Changes) → IsProp (AreAsked changes)
AreAsked-prop changes = hlevel (props, AreLawful-prop)
