use Rattle.std.proofs.Common.{◌≡◌, ◌∙◌, sym, ap, subst, refl, true, false}
use Rattle.dired_text.specs.Paths.{Names}
use Rattle.tree_core.specs.History.{History, current_tree}
use Rattle.tree_core.specs.declared.meta.Meta.{Meta}
use Rattle.subdir_list.specs.Listings.{IsListed}
use Rattle.section_buffer.specs.Buffers.{rows_of_section}
use Rattle.section_buffer.specs.Held.{with_made}
use Rattle.section_buffer.proofs.relisting.list_place.Goals as goal

pub returns-then-not-stands-clause-listed : goal.returns-then-not-stands-clause-listed
returns-then-not-stands-clause-listed g c = (
  false,
  λ tells. sym c.if-not-stands.true ∙ c.in_ok-stands.ensures.dir tells,
  (λ e. let f : false ≡ true = sym c.if-not-stands.true ∙ c.in_ok-stands.ensures.root e in cc, refl),
)

pub returns-clause-listed : goal.returns-clause-listed
returns-clause-listed g c =
    let T = g.T.Tree in
    let dir : Names = c.args.place.now.0 in
    let lines = c.in_ok-lines.lines.items in
    let are : T.Tells → IsListed c.args.switches.now (current_tree (T.history c.args.tree.now)) (T.fields c.args.tree.now) dir lines = λ tells.
    let looked = c.in_ok-stands.ensures.looked tells in
    subst (λ (h : History). IsListed c.args.switches.now (current_tree h) (T.fields c.args.tree.now) dir lines) looked.history
    (subst (λ (f : Names → Meta). IsListed c.args.switches.now (current_tree (T.history c.is_dir.new.tree)) f dir lines) looked.fields (c.in_ok-lines.ensures.lines tells)) in
    let made = c.in_ok-make_rows.ensures.1 ∙ ap (λ (d : Names). with_made (rows_of_section d c.args.place.now.1 lines) c.args.rows.now) c.in_ok-copy.ensures in
    (true, λ tells. sym c.if-not-stands.false ∙ c.in_ok-stands.ensures.dir tells, (lines, are, made))
