use Rattle.std.proofs.Common.{◌≡◌, ◌∙◌, List, sym, ap, subst}
use Rattle.std.specs.List.Sorted.{IsStrictlySortedBy}
use Rattle.dired_text.specs.Paths.{path_cmp}
use Rattle.tree_core.specs.History.{current_tree}
use Rattle.section_rows.specs.Orders.{values_in}
use Rattle.section_buffer.specs.declared.section.Section.{Section}
use Rattle.section_buffer.specs.Buffers.{BufferState}
use Rattle.section_buffer.specs.Relisting.{AreListed, IsRootPlace, Place, dirs_of, places_after, standing}
use Rattle.section_buffer.proofs.RelistLemmas.{listed-sections, root-stays-first}
use Rattle.section_buffer.proofs.buffer.Buffer.revert_with.Goals as goal

pub list_places-requires-clause-root : goal.list_places-requires-clause-root
list_places-requires-clause-root g c =
    let o = c.self.inside.rows in
    subst IsRootPlace (sym (c.deref.ensures.value ∙ c.in_ok-places.ensures.all))
    (root-stays-first c.args.moved.now (values_in o.values o.order) c.requires.root c.self.invariant.root)

pub returns-clause-listed : goal.returns-clause-listed
returns-clause-listed g c = λ tells.
    let T = g.T.Tree in
    let t = current_tree (T.history c.args.tree.now) in
    let fields = T.fields c.args.tree.now in
    let switches = c.args.switches in
    let moved = c.args.moved.now in
    let rows = c.in_ok-rows.rows in
    let r = c.in_ok-rows.ensures.listed in
    let is = c.drop.view_is ∙ c.in_ok-again.ensures in
    let sections = ap (λ (b : BufferState). b.sections) is ∙ listed-sections _ rows r in
    let places : c.deref.result.now ≡ places_after moved c.args.self.now.sections =
    c.deref.ensures.value ∙ (c.in_ok-places.ensures.all ∙ ap (λ (b : BufferState). places_after moved b.sections) c.self.view_is) in
    subst (λ (ss : List Section). AreListed switches t fields (standing t (places_after moved c.args.self.now.sections)) ss) (sym sections)
    (subst (λ (ps : List Place). AreListed switches t fields (standing t ps) r.sections) places (r.are tells))

pub returns-clause-relisted : goal.returns-clause-relisted
returns-clause-relisted g c =
    let rows = c.in_ok-rows.rows in
    let r = c.in_ok-rows.ensures.listed in
    let is = c.drop.view_is ∙ c.in_ok-again.ensures in
    let sections = ap (λ (b : BufferState). b.sections) is ∙ listed-sections _ rows r in
    record {
      switches_are = ap (λ (b : BufferState). b.switches) is;
      in_order = subst (λ (ss : List Section). IsStrictlySortedBy path_cmp (dirs_of ss)) (sym sections) r.in_order;
      no_events = ap (λ (b : BufferState). b.events) is;
    }
