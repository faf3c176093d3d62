-- The lines of a directory as a function of the tree and the switches.
use Rattle.std.specs.Prelude.{List, [], ◌∷◌, if◌then◌else◌}
use Rattle.std.specs.Ordering.{is_lt}
use Rattle.dired_text.specs.Paths.{Names}
use Rattle.tree_core.specs.declared.meta.Meta.{Meta}
use Rattle.tree_core.specs.FileTree.{FileTree}
use Rattle.listing_text.specs.declared.line.Line.{Line}
use Rattle.listing_text.specs.declared.switches.Switches.{Switches}
use Rattle.listing_text.specs.Order.{line_cmp}
use Rattle.subdir_list.specs.Listings.{lines_in}

-- a line among lines in order, behind those that come before it
abbrev pub placed : Switches → Line → List Line → List Line
placed switches line [] = line ∷ []
placed switches line (next ∷ later) = if is_lt (line_cmp switches next line) then next ∷ placed switches line later else line ∷ next ∷ later

-- these lines, in the order of the switches
abbrev pub in_order : Switches → List Line → List Line
in_order switches [] = []
in_order switches (line ∷ lines) = placed switches line (in_order switches lines)

-- the lines of a directory, in the order of its listing
abbrev pub listed : Switches → FileTree → (Names → Meta) → Names → List Line
listed switches t fields dir = in_order switches (lines_in t fields switches dir)
