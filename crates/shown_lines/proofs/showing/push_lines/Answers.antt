use Rattle.std.proofs.Common.{◌≡◌, ◌+◌, ◌++◌, ℕ, List, [], ◌∷◌, length, append_assoc, ap, sym, ◌∙◌, Option, Result, arith}
use Rattle.std.specs.Option.{option_map}
use Rattle.dired_text.specs.Paths.{Names}
use Rattle.dired_text.specs.Resolve.{resolved}
use Rattle.listing_text.specs.declared.line.Line.{Line}
use Rattle.mark_table.specs.PathMarks.{PathMarks}
use Rattle.omit_rules.specs.Omitters.{rules_of}
use Rattle.omit_rules.specs.declared.rules.Rules.{Rules}
use Rattle.shown_lines.specs.declared.entry.Entry.{Entry}
use Rattle.shown_lines.specs.declared.omitting.Outcome.{Outcome}
use Rattle.shown_lines.specs.Outcomes.{outcome_of}
use Rattle.shown_lines.specs.Shown.{numbered, omits, printing}
use Rattle.shown_lines.proofs.LineLemmas.{line-omitted, line-shown, line-unnamed}
use Rattle.shown_lines.proofs.showing.push_lines.Goals as goal
use Rattle.shown_lines.proofs.showing.push_lines.Goals.{in-Omitted, in-Unnamed+in_ok-number-in-Unnamed, in-Shown+in_ok-push-in-Shown+in_ok-number-in-Shown}

pub loop-line-preserved : goal.loop-line-preserved
loop-line-preserved c =
    let rules : Option Rules = option_map rules_of c.args.omitter.now in
    let marks : PathMarks = c.args.marks.now.marks in
    let dir : Names = c.args.dir.now in
    let first : ℕ = c.args.first in
    let line : Line = c.in-Some.line in
    let lines : List Line = c.loop-line.yielded in
    let old : List Entry = c.args.entries.now.items in
    let before : List (ℕ × Line) = printing rules marks dir lines in
    let outcome : c.in_ok-decide.field-0 ≡ outcome_of (omits rules marks) (resolved dir line.name) =
    c.in_ok-decide.ensures.outcome ∙ ap (λ (r : Option Rules). outcome_of (omits r marks) (resolved dir line.name)) c.loop-line.invariant.same in
    let next : (first + length before) + 1 ≡ first + (length before + 1) = omega arith in
    elim c.match-branch-2.branch [
      | in-Omitted w ↦
          let same = line-omitted rules marks first dir lines line w.in-Omitted.field-0 (sym w.in-Omitted.is ∙ outcome) in
          record {
            entries = ap (λ v. v.items) w.entries-is ∙ (c.loop-line.invariant.entries ∙ ap (λ (xs : List (ℕ × Line)). old ++ numbered first dir xs) (sym same));
            number = w.number-is ∙ (c.loop-line.invariant.number ∙ ap (λ (xs : List (ℕ × Line)). first + length xs) (sym same));
            same = c.decide.ensures.same ∙ c.loop-line.invariant.same;
          }
      | in-Unnamed+in_ok-number-in-Unnamed w ↦
          let one = line-unnamed rules marks first dir lines line (sym w.in-Unnamed.is ∙ outcome) in
          record {
            entries = ap (λ v. v.items) w.entries-is ∙ (c.loop-line.invariant.entries ∙ ap (λ (es : List Entry). old ++ es) (sym one.0));
            number = w.number-is ∙ (w.in_ok-number-in-Unnamed.ensures ∙ (ap (λ n. n + 1) c.loop-line.invariant.number ∙ (next ∙ ap (λ n. first + n) (sym one.1))));
            same = c.decide.ensures.same ∙ c.loop-line.invariant.same;
          }
      | in-Shown+in_ok-push-in-Shown+in_ok-number-in-Shown w ↦
          let one = line-shown rules marks first dir lines line w.in-Shown.path (sym w.in-Shown.is ∙ outcome) in
          let entry : ℕ → Entry = λ n. record { path = w.in-Shown.path; kind = line.kind; mode = line.mode; number = n } in
          let pushed : w.push.new.self.items ≡ c.loop-line.entries.items ++ entry c.loop-line.number ∷ [] = w.in_ok-push-in-Shown.ensures.items in
          record {
            entries = ap (λ v. v.items) w.entries-is
                ∙ (pushed
                ∙ (ap (λ (es : List Entry). es ++ entry c.loop-line.number ∷ []) c.loop-line.invariant.entries
                ∙ (append_assoc old (numbered first dir before) (entry c.loop-line.number ∷ [])
                ∙ ap (λ (es : List Entry). old ++ es) (ap (λ n. numbered first dir before ++ entry n ∷ []) c.loop-line.invariant.number ∙ sym one.0))));
            number = w.number-is ∙ (w.in_ok-number-in-Shown.ensures ∙ (ap (λ n. n + 1) c.loop-line.invariant.number ∙ (next ∙ ap (λ n. first + n) (sym one.1))));
            same = c.decide.ensures.same ∙ c.loop-line.invariant.same;
          }
    ]
