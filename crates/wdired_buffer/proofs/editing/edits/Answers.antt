use Rattle.std.proofs.Common.{◌≡◌, inl, inr, Err, ◌∙◌, sym, ap, ◌<◌, ◌+◌, [], ◌∷◌, ◌++◌, ◌||◌, take, drop, length, arith, rules}
use Rattle.std.specs.BTreeSet.{contains}
use Rattle.std.specs.List.{list_any}
use Rattle.std.proofs.lemmas.List.{drop_more, take_more, drop_all}
use Rattle.std.proofs.lemmas.Result.{err_from_is_err_and}
use Rattle.dired_text.specs.Paths.{path_cmp}
use Rattle.wdired_buffer.specs.declared.faults.EditsFault.TheVariants.{Memory}
use Rattle.wdired_buffer.specs.declared.line.BufferLine.{BufferLine}
use Rattle.wdired_buffer.specs.Lines.{lines}
use Rattle.wdired_buffer.specs.Edits.{asks_behind, asks_in, asks_once, in_front_of, section, shows}
use Rattle.wdired_buffer.proofs.EditLemmas.{section-push, shows-push, twice_is, asks_taken, asks_refused, asks_twice, asks_done, same_count, counted, answer_is, same_asks, both}
use Rattle.wdired_buffer.proofs.editing.edits.Goals as goal

pub returns-in_err-asked-clause-refused : goal.returns-in_err-asked-clause-refused
returns-in_err-asked-clause-refused c =
    let before = c.args.before.now in
    let index = c.loop-line.line-index in
    let rest = c.loop-line.rest.now in
    let behind = c.in-Some.behind.now in
    let first : lines rest ≡ c.in-Some.text.now ∷ lines behind = search rules in
    let below : index < length before = omega arith in
    let is : drop index before ≡ c.line-item.result ∷ drop (index + 1) before =
    drop_more before index c.line-item.result below ∙ ap (λ (l : BufferLine). l ∷ drop (index + 1) before) (sym c.line-item.is) in
    let p = err_from_is_err_and c.from_residual.result c.from_residual.ensures.1 in rw (p.1, p.2) (elim c.in_err-asked.ensures [
      | inl full ↦ inl cc
      | inr line ↦ inr (same_count before c.args.after.now c.count_lines-count.result c.count_lines-count.ensures.count c.if-count-before.false
          ∙ c.loop-line.invariant.so_far
          ∙ asks_refused (asks_in c.loop-line.edited) c.in_err-asked.field-0.0 c.loop-line.number c.loop-line.passed.dir (take index before) (drop (index + 1) before) (drop index before) c.line-item.result rest c.in-Some.text.now behind is first (counted before index c.loop-line.number c.loop-line.invariant.number below) c.loop-line.invariant.dir (sym line))
    ])

pub returns-in_err-pass-clause-refused : goal.returns-in_err-pass-clause-refused
returns-in_err-pass-clause-refused c =
    let before = c.args.before.now in
    let index = c.loop-line.line-index in
    let rest = c.loop-line.rest.now in
    let behind = c.in-Some.behind.now in
    let line = c.line-item.result in
    let first : lines rest ≡ c.in-Some.text.now ∷ lines behind = search rules in
    let below : index < length before = omega arith in
    let is : drop index before ≡ line ∷ drop (index + 1) before =
    drop_more before index line below ∙ ap (λ (l : BufferLine). l ∷ drop (index + 1) before) (sym c.line-item.is) in
    let asked = answer_is Memory c.in_ok-asked.asked _ c.in_ok-asked.ensures in
    let p = err_from_is_err_and c.from_residual-in_err-pass.result c.from_residual-in_err-pass.ensures.1 in rw (p.1, p.2) (elim c.in_err-pass.ensures.twice [
      | inl full ↦ inl full
      | inr again ↦ inr (same_count before c.args.after.now c.count_lines-count.result c.count_lines-count.ensures.count c.if-count-before.false
          ∙ c.loop-line.invariant.so_far
          ∙ asks_twice (asks_in c.loop-line.edited) c.in_ok-asked.asked c.loop-line.number c.loop-line.passed.dir (take index before) (drop (index + 1) before) (drop index before) line rest c.in-Some.text.now behind is first (counted before index c.loop-line.number c.loop-line.invariant.number below) c.loop-line.invariant.dir asked (sym (twice_is (contains path_cmp c.loop-line.passed.shown) (take index before) line c.loop-line.invariant.shown) ∙ again.1)
          ∙ ap Err (sym again.0))
    ])

pub loop-line-preserved : goal.loop-line-preserved
loop-line-preserved c =
    let before = c.args.before.now in
    let index = c.loop-line.line-index in
    let rest = c.loop-line.rest.now in
    let behind = c.in-Some.behind.now in
    let line = c.line-item.result in
    let first : lines rest ≡ c.in-Some.text.now ∷ lines behind = search rules in
    let below : index < length before = omega arith in
    let is : drop index before ≡ line ∷ drop (index + 1) before =
    drop_more before index line below ∙ ap (λ (l : BufferLine). l ∷ drop (index + 1) before) (sym c.line-item.is) in
    let more : take (index + 1) before ≡ take index before ++ line ∷ [] =
    take_more before index line below ∙ ap (λ (l : BufferLine). take index before ++ l ∷ []) (sym c.line-item.is) in
    let asked = answer_is Memory c.in_ok-asked.asked _ c.in_ok-asked.ensures in
    let fresh = sym (twice_is (contains path_cmp c.loop-line.passed.shown) (take index before) line c.loop-line.invariant.shown) ∙ c.in_ok-pass.ensures.ok in
    let pushed : both (asks_in c.loop-line.edited) (asks_once c.in_ok-asked.asked) ≡ asks_in c.push.new.self = same_asks _ _ _ _ (sym c.in_ok-push.ensures.edits) (sym c.in_ok-push.ensures.emptied) in
    record {
      so_far = c.loop-line.invariant.so_far
          ∙ asks_taken (asks_in c.loop-line.edited) c.in_ok-asked.asked c.loop-line.number c.loop-line.passed.dir (take index before) (drop (index + 1) before) (drop index before) line rest c.in-Some.text.now behind is first (counted before index c.loop-line.number c.loop-line.invariant.number below) c.loop-line.invariant.dir asked fresh
          ∙ ap (λ done. in_front_of done (asks_behind (take index before ++ line ∷ []) (drop (index + 1) before) (lines behind))) pushed
          ∙ ap (λ earlier. in_front_of (asks_in c.push.new.self) (asks_behind earlier (drop (index + 1) before) (lines behind))) (sym more);
      left = omega (arith, ap length first);
      number = omega arith;
      dir = c.in_ok-pass.ensures.dir ∙ ap (λ d. section d (line ∷ [])) c.loop-line.invariant.dir ∙ sym (section-push [] (take index before) line) ∙ ap (section []) (sym more);
      shown = λ q. c.in_ok-pass.ensures.shown q ∙ ap (λ b. b || shows q line) (c.loop-line.invariant.shown q) ∙ sym (shows-push q (take index before) line) ∙ ap (list_any (shows q)) (sym more);
    }

pub returns-clause-edits : goal.returns-clause-edits
returns-clause-edits c =
    let before = c.args.before.now in
    let index = c.loop-line.line-index in
    same_count before c.args.after.now c.count_lines-count.result c.count_lines-count.ensures.count c.if-count-before.false
    ∙ c.loop-line.invariant.so_far
    ∙ asks_done (asks_in c.loop-line.edited) (take index before) (drop index before) c.loop-line.rest.now (drop_all index before c.loop-line-test.false)
