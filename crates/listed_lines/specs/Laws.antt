-- What a listing of a directory is, as statements.
use Rattle.std.specs.Prelude.{◌≡◌, List, IsPermutation, IsSorted}
use Rattle.dired_text.specs.Paths.{Names}
use Rattle.tree_core.specs.declared.meta.Meta.{Meta}
use Rattle.tree_core.specs.FileTree.{FileTree}
use Rattle.listing_text.specs.declared.line.Line.{Line}
use Rattle.listing_text.specs.declared.switches.Switches.{Switches}
use Rattle.listing_text.specs.Order.{line_cmp}
use Rattle.subdir_list.specs.Listings.{IsListed}
use Rattle.listed_lines.specs.Listed.{in_order, listed}

-- what a sort by the switches makes of lines
abbrev pub OrderIsOne : Type 0
OrderIsOne = (switches : Switches) (lines sorted : List Line) → IsPermutation lines sorted → IsSorted (line_cmp switches) sorted → sorted ≡ in_order switches lines

-- the lines of a listing are the listed ones
abbrev pub ListingIsOne : Type 0
ListingIsOne = (switches : Switches) (t : FileTree) (fields : Names → Meta) (dir : Names) (lines : List Line) → IsListed switches t fields dir lines → lines ≡ listed switches t fields dir

-- the listed lines are those of a listing
abbrev pub ListedIsListing : Type 0
ListedIsListing = (switches : Switches) (t : FileTree) (fields : Names → Meta) (dir : Names) → IsListed switches t fields dir (listed switches t fields dir)

-- two listings of a directory are one
abbrev pub ListingsAgree : Type 0
ListingsAgree = (switches : Switches) (t : FileTree) (fields : Names → Meta) (dir : Names) (a b : List Line) → IsListed switches t fields dir a → IsListed switches t fields dir b → a ≡ b
