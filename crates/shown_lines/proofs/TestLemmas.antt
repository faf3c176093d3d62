-- Entries that pass a test by a table.
use Rattle.std.proofs.Common.{◌≡◌, List, [], ◌∷◌, refl, ap, ◌∙◌, Bool, if◌then◌else◌, filter, Option}
use Rattle.regex.specs.Patterns.{Re}
use Rattle.dired_text.specs.Paths.{Names}
use Rattle.mark_table.specs.PathMarks.{is_among}
use Rattle.script_words.specs.declared.command.Test.{Test}
use Rattle.script_words.specs.declared.command.Test.TheVariants.{IsDirectory, IsLink, IsExecutable, InSection, EndsWith, IsBackup, IsAutoSave, IsExcess, NameMatches}
use Rattle.shown_lines.specs.declared.entry.Entry.{Entry}
use Rattle.shown_lines.specs.Named.{named, passes_by}
use Rattle.shown_lines.specs.Tests.{passes, passing_of, paths}

filter-same : (p q : Entry → Bool) → ((e : Entry) → p e ≡ q e) → (es : List Entry) → filter p es ≡ filter q es
filter-same p q same [] = refl
filter-same p q same (e ∷ es) =
    ap (λ (b : Bool). if b then e ∷ filter p es else filter p es) (same e) ∙ ap (λ later. if q e then e ∷ later else later) (filter-same p q same es)

module _ (re : Option Re) (section excess : List Names) (is_named : Names → Bool) where
  by-table : (test : Test) → ((p : Names) → is_named p ≡ is_among p (named section excess test)) → (e : Entry) → passes_by re is_named test e ≡ passes re section excess test e
  by-table IsDirectory table e = refl
  by-table IsLink table e = refl
  by-table IsExecutable table e = refl
  by-table InSection table e = table e.path
  by-table (EndsWith text) table e = refl
  by-table IsBackup table e = refl
  by-table IsAutoSave table e = refl
  by-table IsExcess table e = table e.path
  by-table NameMatches table e = refl

  pub passing-by : (test : Test) (entries : List Entry) → ((p : Names) → is_named p ≡ is_among p (named section excess test)) → paths (filter (passes_by re is_named test) entries) ≡ passing_of re section excess test entries
  passing-by test entries table = ap paths (filter-same (passes_by re is_named test) (passes re section excess test) (by-table test table) entries)
