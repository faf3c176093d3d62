-- The steps of a script, one more at their end.
use Rattle.std.proofs.Common.{◌≡◌, inl, inr, ℕ, ◌+◌, ◌≤◌, List, [], ◌∷◌, ◌++◌, length, take, refl, sym, ◌∙◌, ap, subst, arith, Option, Some, None, Result, Ok, Err, append-nil, append_assoc, le_antisymm}
use Rattle.std.proofs.lemmas.List.{length-append}
use Rattle.std.proofs.Math.Seq.{take-append-add}
use Rattle.dired_text.specs.Outside.{TakesPartOf}
use Rattle.dired_text.specs.Paths.{Names}
use Rattle.run_status.specs.declared.status.Status.{Status}
use Rattle.run_status.specs.declared.status.Status.TheVariants as status
use Rattle.tree_core.specs.FileTree.{FileTree}
use Rattle.tree_core.specs.History.{History, current_tree}
use Rattle.tree_core.specs.Looks.{OnlyLooked, found_by}
use Rattle.tree_core.specs.declared.meta.Meta.{Meta}
use Rattle.tree_core.specs.declared.node.CallName.{CallName}
use Rattle.find_words.specs.Expressions.{Expression}
use Rattle.find_words.specs.declared.fault.FindFault.{FindFault}
use Rattle.script_words.specs.Commands.{SaysAt}
use Rattle.script_words.specs.Lines.{line_at}
use Rattle.script_words.specs.Words.{word_of}
use Rattle.dired_session.specs.Desks.{Desk, Seen, seen}
use Rattle.dired_session.specs.Ends.{IsWritten, StepsBy}
use Rattle.dired_session.specs.Scripts.{Reaches, Runs, done, stopped}
use Rattle.dired_session.specs.Steps.{Did, step}

abbrev Saying : Type 0
Saying = Result Expression FindFault

-- where steps lead to a line, and its step to another one, they lead there
pub reaches_more : (saids : List Saying) (said : Saying) (o : Seen) (lines : List (List ℕ)) (at mid next : ℕ) (start before : Desk) (did : Did) (text : List ℕ)
    → Reaches saids o lines at start mid before text → SaysAt lines mid (word_of (line_at lines mid)) said → step said lines mid o before ≡ Ok (did, next)
    → Reaches (saids ++ said ∷ []) o lines at start next did.desk (text ++ did.printed)
reaches_more [] said o lines at mid next start before did text so_far says e = (
  did,
  next,
  [],
  subst (λ n. SaysAt lines n (word_of (line_at lines n)) said) so_far.0 says,
  ap (λ n. step said lines n o start) (sym so_far.0) ∙ ap (λ (d : Desk). step said lines mid o d) (sym so_far.1) ∙ e,
  (refl, refl, refl),
  ap (λ (t : List ℕ). t ++ did.printed) so_far.2 ∙ sym (append-nil did.printed),
)
reaches_more (first ∷ saids) said o lines at mid next start before did text so_far says e = (
  so_far.0,
  so_far.1,
  so_far.2 ++ did.printed,
  so_far.3,
  so_far.4,
  reaches_more saids said o lines so_far.1 mid next so_far.0.desk before did so_far.2 so_far.5 says e,
  ap (λ (t : List ℕ). t ++ did.printed) so_far.6 ∙ append_assoc so_far.0.printed so_far.2 did.printed,
)

-- with the step of the line that was reached
pub one_more : (o now : Seen) (lines : List (List ℕ)) (at next : ℕ) (start d later : Desk) (text more : List ℕ)
    → now ≡ o → (saids : List Saying) × Reaches saids o lines 1 start at d text → StepsBy lines at now d later more (Ok next)
    → (saids : List Saying) × Reaches saids o lines 1 start next later (text ++ more)
one_more o now lines at next start d later text more same reached (inl (e, none)) = cc
one_more o now lines at next start d later text more same reached (inr (said, says, e)) =
    (reached.0 ++ said ∷ [], reaches_more reached.0 said o lines 1 at next start d (record { desk = later; printed = more }) text reached.1 says (ap (λ (s : Seen). step said lines at s d) (sym same) ∙ e))

pub stopped_at : (o now : Seen) (lines : List (List ℕ)) (at : ℕ) (start d later : Desk) (text more : List ℕ) (ended : Status)
    → now ≡ o → (saids : List Saying) × Reaches saids o lines 1 start at d text → StepsBy lines at now d later more (Err ended)
    → Runs o lines start ended (text ++ more)
stopped_at o now lines at start d later text more ended same reached steps =
    stopped reached.0 at d later text more reached.1 (subst (λ (s : Seen). StepsBy lines at s d later more (Err ended)) same steps) refl

pub done_at : (o : Seen) (lines : List (List ℕ)) (at : ℕ) (start d : Desk) (text : List ℕ) → at ≡ length lines + 1
    → (saids : List Saying) × Reaches saids o lines 1 start at d text → Runs o lines start status.Done text
done_at o lines at start d text last reached = done reached.0 d refl (subst (λ n. Reaches reached.0 o lines 1 start n d text) last reached.1)

-- ---- what was looked at

module _ (h0 h1 h2 : History) (f0 f1 f2 : Names → Meta) (b0 b1 b2 : FileTree) (first : OnlyLooked None h0 h1 f0 f1 b0 b1) where
  pub same_seen : seen h1 f1 ≡ seen h0 f0
  same_seen = ap (λ (h : History). seen h f1) first.history ∙ ap (λ (f : Names → Meta). seen h0 f) first.fields

  pub looked_more : (failed : Option CallName) → OnlyLooked failed h1 h2 f1 f2 b1 b2 → OnlyLooked failed h0 h2 f0 f2 b0 b2
  looked_more failed second = record {
    history = second.history ∙ first.history;
    fields = second.fields ∙ first.fields;
    before_failed = second.before_failed ∙ ap (λ (h : History). found_by failed (current_tree h) b1) first.history ∙ ap (λ (b : FileTree). found_by failed (current_tree h0) b) first.before_failed;
  }

-- ---- what was written

part_more : (text more taken0 taken now : List ℕ) → taken ≡ taken0 ++ text → TakesPartOf more taken now → TakesPartOf (text ++ more) taken0 now
part_more text more taken0 taken now is (n, within, e) = (
  length text + n,
  omega (arith, within, length-append text more),
  e ∙ ap (λ (l : List ℕ). l ++ take n more) is ∙ append_assoc taken0 text (take n more) ∙ ap (λ (l : List ℕ). taken0 ++ l) (sym (take-append-add text more n)),
)

all_more : (text more taken0 taken now : List ℕ) → taken ≡ taken0 ++ text → now ≡ taken ++ more → now ≡ taken0 ++ (text ++ more)
all_more text more taken0 taken now is e = e ∙ ap (λ (l : List ℕ). l ++ more) is ∙ append_assoc taken0 text more

pub written_more : (ended : Status) (text more taken0 taken now : List ℕ) → taken ≡ taken0 ++ text → IsWritten ended more taken now → IsWritten ended (text ++ more) taken0 now
written_more status.Done text more taken0 taken now is e = all_more text more taken0 taken now is e
written_more status.Usage text more taken0 taken now is e = all_more text more taken0 taken now is e
written_more status.Memory text more taken0 taken now is e = all_more text more taken0 taken now is e
written_more (status.ReadFault name) text more taken0 taken now is e = all_more text more taken0 taken now is e
written_more (status.TreeFault first) text more taken0 taken now is e = all_more text more taken0 taken now is e
written_more (status.WriteFault held) text more taken0 taken now is e = part_more text more taken0 taken now is e
written_more (status.Missing name) text more taken0 taken now is e = all_more text more taken0 taken now is e
written_more (status.BadBuffer name line cause) text more taken0 taken now is e = all_more text more taken0 taken now is e
written_more (status.Faulty line cause) text more taken0 taken now is e = all_more text more taken0 taken now is e
written_more (status.Unconfirmed line path) text more taken0 taken now is e = all_more text more taken0 taken now is e
written_more (status.Stale line) text more taken0 taken now is e = all_more text more taken0 taken now is e
written_more status.Pending text more taken0 taken now is e = all_more text more taken0 taken now is e
written_more (status.RolledBack first) text more taken0 taken now is e = all_more text more taken0 taken now is e
written_more (status.Unfinished first second) text more taken0 taken now is e = all_more text more taken0 taken now is e
written_more (status.Unclean first) text more taken0 taken now is e = all_more text more taken0 taken now is e
written_more (status.BadJournal offset) text more taken0 taken now is e = all_more text more taken0 taken now is e
written_more (status.Foreign name) text more taken0 taken now is e = all_more text more taken0 taken now is e
written_more (status.BadScript line cause) text more taken0 taken now is e = all_more text more taken0 taken now is e
written_more (status.TooLarge what number) text more taken0 taken now is e = all_more text more taken0 taken now is e
written_more (status.Strange step) text more taken0 taken now is e = all_more text more taken0 taken now is e
