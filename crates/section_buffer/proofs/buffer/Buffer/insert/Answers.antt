use Rattle.std.proofs.Common.{◌≡◌, ◌∙◌, sym, ap, subst, rules, true, false, Some, None, Err}
use Rattle.std.specs.FinMap.{get}
use Rattle.std.specs.Option.{option_map}
use Rattle.dired_text.specs.Paths.{Names}
use Rattle.subdir_list.specs.Listings.{IsListed}
use Rattle.tree_core.specs.FileTree.{kind_of}
use Rattle.tree_core.specs.History.{History, current_tree}
use Rattle.tree_core.specs.declared.meta.Meta.{Meta}
use Rattle.tree_core.specs.declared.node.Kind.{Kind}
use Rattle.tree_core.specs.declared.node.Kind.TheVariants as kind
use Rattle.section_buffer.specs.declared.ends.BufferEnd.TheVariants.{Memory}
use Rattle.section_buffer.specs.Buffers.{BufferState}
use Rattle.section_buffer.specs.Making.{EndsAs, insert_refusal, is_among_sections}
use Rattle.section_buffer.proofs.BackLemmas.{ends-so, refused-there, was-there}
use Rattle.section_buffer.proofs.buffer.Buffer.insert.Goals as goal

pub returns-then-is_some-clause-end : goal.returns-then-is_some-clause-end
returns-then-is_some-clause-end g c = λ tells.
    let node = get (current_tree (g.T.Tree.history c.args.tree.now)) c.args.dir.now in
    let is_dir : Some kind.Dir ≡ option_map kind_of node = sym (c.in-Some-Dir.is ∙ ap (λ (k : Kind). Some k) c.in-Some-Dir.field-0-is) ∙ c.in_ok-kind_at.ensures.kind tells in
    let same = sym (ap (λ (b : BufferState). b.sections) c.self.view_is) in
    refused-there c.self.inside.rows c.args.self.now.sections c.args.dir.now c.head_row.result true node same c.head_row.ensures (sym c.is_some.ensures ∙ c.if-is_some.true) is_dir

pub returns-in_err-lines-clause-end : goal.returns-in_err-lines-clause-end
returns-in_err-lines-clause-end g c = λ tells.
    let node = get (current_tree (g.T.Tree.history c.args.tree.now)) c.args.dir.now in
    let is_dir : Some kind.Dir ≡ option_map kind_of node = sym (c.in-Some-Dir.is ∙ ap (λ (k : Kind). Some k) c.in-Some-Dir.field-0-is) ∙ c.in_ok-kind_at.ensures.kind tells in
    let same = sym (ap (λ (b : BufferState). b.sections) c.self.view_is) in
    let refusal = insert_refusal node (is_among_sections c.args.dir.now c.args.self.now.sections) in
    let none : refusal ≡ None = refused-there c.self.inside.rows c.args.self.now.sections c.args.dir.now c.head_row.result false node same c.head_row.ensures (sym c.is_some.ensures ∙ c.if-is_some.false) is_dir in
    let e : c.from_residual-in_err-lines.result ≡ Err c.in_err-lines.field-0.0 = search rules in
    subst (λ r. EndsAs refusal r) (sym e) (ends-so refusal c.in_err-lines.field-0.0 c.in_err-lines.ensures.end none)

pub returns-in_err-copy-clause-end : goal.returns-in_err-copy-clause-end
returns-in_err-copy-clause-end g c = λ tells.
    let node = get (current_tree (g.T.Tree.history c.args.tree.now)) c.args.dir.now in
    let is_dir : Some kind.Dir ≡ option_map kind_of node = sym (c.in-Some-Dir.is ∙ ap (λ (k : Kind). Some k) c.in-Some-Dir.field-0-is) ∙ c.in_ok-kind_at.ensures.kind tells in
    let same = sym (ap (λ (b : BufferState). b.sections) c.self.view_is) in
    let refusal = insert_refusal node (is_among_sections c.args.dir.now c.args.self.now.sections) in
    let none : refusal ≡ None = refused-there c.self.inside.rows c.args.self.now.sections c.args.dir.now c.head_row.result false node same c.head_row.ensures (sym c.is_some.ensures ∙ c.if-is_some.false) is_dir in
    let e : c.from_residual-in_err-copy.result ≡ Err Memory = search rules in
    subst (λ r. EndsAs refusal r) (sym e) none

pub returns-in_err-put_section-clause-end : goal.returns-in_err-put_section-clause-end
returns-in_err-put_section-clause-end g c = λ tells.
    let node = get (current_tree (g.T.Tree.history c.args.tree.now)) c.args.dir.now in
    let is_dir : Some kind.Dir ≡ option_map kind_of node = sym (c.in-Some-Dir.is ∙ ap (λ (k : Kind). Some k) c.in-Some-Dir.field-0-is) ∙ c.in_ok-kind_at.ensures.kind tells in
    let same = sym (ap (λ (b : BufferState). b.sections) c.self.view_is) in
    let refusal = insert_refusal node (is_among_sections c.args.dir.now c.args.self.now.sections) in
    let none : refusal ≡ None = refused-there c.self.inside.rows c.args.self.now.sections c.args.dir.now c.head_row.result false node same c.head_row.ensures (sym c.is_some.ensures ∙ c.if-is_some.false) is_dir in
    let e : c.from_residual-in_err-put_section.result ≡ Err Memory = search rules in
    subst (λ r. EndsAs refusal r) (sym e) none

pub returns-clause-put : goal.returns-clause-put
returns-clause-put g c =
    let T = g.T.Tree in
    let dir : Names = c.args.dir.now in
    let lines = c.in_ok-lines.lines.items in
    record {
      lines = lines;
      are = λ tells.
          let looked = c.in_ok-kind_at.ensures.looked tells in
          subst (λ (h : History). IsListed c.args.self.now.switches (current_tree h) (T.fields c.args.tree.now) dir lines) looked.history
          (subst (λ (f : Names → Meta). IsListed c.args.self.now.switches (current_tree (T.history c.kind_at.new.tree)) f dir lines) looked.fields
          (subst (λ (b : BufferState). IsListed b.switches (current_tree (T.history c.kind_at.new.tree)) (T.fields c.kind_at.new.tree) dir lines) c.self.view_is (c.in_ok-lines.ensures.lines tells)));
      was_not_there =
          was-there c.self.inside.rows c.args.self.now.sections dir c.head_row.result false (sym (ap (λ (b : BufferState). b.sections) c.self.view_is)) c.head_row.ensures (sym c.is_some.ensures ∙ c.if-is_some.false);
      is = search rules;
    }

pub returns-clause-end : goal.returns-clause-end
returns-clause-end g c = λ tells.
    let node = get (current_tree (g.T.Tree.history c.args.tree.now)) c.args.dir.now in
    let is_dir : Some kind.Dir ≡ option_map kind_of node = sym (c.in-Some-Dir.is ∙ ap (λ (k : Kind). Some k) c.in-Some-Dir.field-0-is) ∙ c.in_ok-kind_at.ensures.kind tells in
    let same = sym (ap (λ (b : BufferState). b.sections) c.self.view_is) in
    refused-there c.self.inside.rows c.args.self.now.sections c.args.dir.now c.head_row.result false node same c.head_row.ensures (sym c.is_some.ensures ∙ c.if-is_some.false) is_dir
