-- Reading from left to right. Where an item can't be read, what is left from there on is kept.
use Rattle.std.specs.Prelude.{◌≡◌, ℕ, zero, suc, ◌+◌, ◌-◌, ◌==◌, Bool, true, ◌&&◌, nat_le, nat_lt, List, [], ◌∷◌, ◌++◌, length, take, drop, Option, Some, None, option_and_then, Result, Ok, Err, if◌then◌else◌}
use Rattle.std.specs.List.{list_all}
use Rattle.std.specs.Int.{Width, w16, w32, byte_len, from_be_bytes}
use Rattle.std.specs.Str.{is_utf8, bytes_eq}
use Rattle.dired_text.specs.Paths.{Names, is_name, max_path_bytes}
use Rattle.dired_text.specs.Resolve.{components}
use Rattle.commit_steps.specs.declared.step.Step.{Step}
use Rattle.commit_steps.specs.declared.step.Step.TheVariants.{MakeDir, Rename, Mode}
use Rattle.commit_steps.specs.Steps.{step_bytes}
use Rattle.commit_steps.specs.Tests.{is_lawful_step}
use Rattle.commit_journal.specs.declared.version.Version.{Version}
use Rattle.commit_journal.specs.declared.version.Version.TheVariants.{One, Two}
use Rattle.commit_journal.specs.declared.fault.Refusal.{Refusal}
use Rattle.commit_journal.specs.declared.fault.Refusal.TheVariants as refusals
use Rattle.commit_journal.specs.declared.fault.JournalFault.{JournalFault}
use Rattle.commit_journal.specs.declared.fault.JournalFault.TheVariants as faults
use Rattle.commit_journal.specs.Grammar.{magic, max_all_bytes}
use Rattle.commit_journal.specs.Sharing.{shared_bytes}

infixl 10 ◌>>=◌
abbrev pub ◌>>=◌ : {A B : Type 0} → Option A → (A → Option B) → Option B
o >>= f = option_and_then f o

-- what a function returned, seen by view, is what reading gives, unless memory ran out
abbrev pub Fails : {Y : Type 0} → Refusal → Option Y → Type 0
Fails refusals.Memory read = Unit {0}
Fails refusals.Unreadable read = read ≡ None

abbrev pub Gives : {X Y : Type 0} → (X → Y) → Result X Refusal → Option Y → Type 0
Gives view (Ok x) read = read ≡ Some (view x)
Gives view (Err e) read = Fails e read

-- so many bytes, and the rest
abbrev pub front_at : ℕ → List ℕ → Option (List ℕ × List ℕ)
front_at n bytes = if nat_lt (length bytes) n then None else Some (take n bytes, drop n bytes)

abbrev pub number_at : Width → List ℕ → Option (ℕ × List ℕ)
number_at w bytes = if nat_lt (length bytes) (byte_len w) then None else Some (from_be_bytes w (take (byte_len w) bytes), drop (byte_len w) bytes)

-- a text that is written whole
unfoldable pub whole_at : List ℕ → Option (List ℕ × List ℕ)
whole_at bytes = do
  n ← number_at w16 bytes
  front_at n.0 n.1

-- a text that is written by what it shares with a base
unfoldable pub shared_at : List ℕ → List ℕ → Option (List ℕ × List ℕ)
shared_at base bytes = do
  shared ← number_at w32 bytes
  further ← number_at w32 shared.1
  front ← front_at further.0 further.1
  kept ← front_at shared.0 base
  if nat_le (length kept.0 + length front.0) max_path_bytes && (shared_bytes base (kept.0 ++ front.0) == shared.0) then Some (kept.0 ++ front.0, front.1) else None

abbrev pub text_at : Version → List ℕ → List ℕ → Option (List ℕ × List ℕ)
text_at One base bytes = whole_at bytes
text_at Two base bytes = shared_at base bytes

-- whether bytes are a name, and are a path's names joined by `/`
abbrev pub is_name_text : List ℕ → Bool
is_name_text n = is_utf8 n && is_name n

abbrev pub name_of : List ℕ → Option (List ℕ)
name_of n = if is_name_text n then Some n else None

unfoldable pub is_path_text : List ℕ → Bool
is_path_text text = nat_le (length text) max_path_bytes && list_all is_name_text (components text)

abbrev pub path_of : List ℕ → Option Names
path_of text = if is_path_text text then Some (components text) else None

-- a path, its text, and the rest
unfoldable pub path_at : Version → List ℕ → List ℕ → Option (Names × List ℕ × List ℕ)
path_at v base bytes = do
  text ← text_at v base bytes
  path ← path_of text.0
  Some (path, text.0, text.1)

-- a step, the text of its first path, and the rest
unfoldable pub make_dir_at : Version → List ℕ → List ℕ → Option (Step × List ℕ × List ℕ)
make_dir_at v base bytes = do
  p ← path_at v base bytes
  Some (MakeDir p.0, p.1, p.2)

unfoldable pub rename_at : Version → List ℕ → List ℕ → Option (Step × List ℕ × List ℕ)
rename_at v base bytes = do
  from ← path_at v base bytes
  to ← path_at v from.1 from.2
  Some (Rename from.0 to.0, from.1, to.2)

unfoldable pub mode_at : Version → List ℕ → List ℕ → Option (Step × List ℕ × List ℕ)
mode_at v base bytes = do
  p ← path_at v base bytes
  old ← number_at w16 p.2
  new ← number_at w16 old.1
  Some (Mode p.0 old.0 new.0, p.1, new.1)

unfoldable pub step_at : Version → List ℕ → List ℕ → Option (Step × List ℕ × List ℕ)
step_at v base [] = None
step_at v base (b ∷ rest) =
    if b == 68 then make_dir_at v base rest else if b == 82 then rename_at v base rest else if b == 77 then mode_at v base rest else None

-- whether so many bytes are no more than what is left of the sum
abbrev pub fits : Version → ℕ → ℕ → Bool
fits One left n = true
fits Two left n = nat_le n left

-- a lawful step that doesn't pass the sum
unfoldable pub next_at : Version → List ℕ → ℕ → List ℕ → Option (Step × List ℕ × List ℕ)
next_at v base left bytes = do
  step ← step_at v base bytes
  if is_lawful_step step.0 && fits v left (step_bytes step.0) then Some step else None

abbrev pub with_front : List Step → Result (List Step) (List ℕ) → Result (List Step) (List ℕ)
with_front front (Ok steps) = Ok (front ++ steps)
with_front front (Err rest) = Err rest

-- f of what was read, or what is left
abbrev pub or_stop : {A : Type 0} → List ℕ → Option A → (A → Result (List Step) (List ℕ)) → Result (List Step) (List ℕ)
or_stop bytes None f = Err bytes
or_stop bytes (Some x) f = f x

-- so many steps, and nothing behind them
unfoldable pub steps_at : Version → List ℕ → ℕ → ℕ → List ℕ → Result (List Step) (List ℕ)
steps_at v base left zero bytes = if length bytes == 0 then Ok [] else Err bytes
steps_at v base left (suc n) bytes =
    or_stop bytes (next_at v base left bytes) (λ x. with_front (x.0 ∷ []) (steps_at v x.1 (left - step_bytes x.0) n x.2))

unfoldable pub magic_at : List ℕ → Option (Version × List ℕ)
magic_at bytes = do
  front ← front_at 4 bytes
  if bytes_eq front.0 (magic One) then Some (One, front.1) else if bytes_eq front.0 (magic Two) then Some (Two, front.1) else None

unfoldable pub journal_at : List ℕ → Result (List Step) (List ℕ)
journal_at bytes =
    or_stop bytes (magic_at bytes) (λ m. or_stop m.1 (number_at w32 m.1) (λ n. steps_at m.0 [] max_all_bytes n.0 n.1))

-- what was returned is what reading gives, and a fault is where the rest begins; or memory ran out
abbrev pub StopsAt : List ℕ → JournalFault → Result (List Step) (List ℕ) → Type 0
StopsAt bytes faults.Memory read = Unit {0}
StopsAt bytes (faults.BadJournal offset) read = (rest : List ℕ) × (read ≡ Err rest) × (offset + length rest ≡ length bytes)

abbrev pub GivesSteps : List ℕ → Result (List Step) JournalFault → Result (List Step) (List ℕ) → Type 0
GivesSteps bytes (Ok steps) read = read ≡ Ok steps
GivesSteps bytes (Err e) read = StopsAt bytes e read

-- the fault of a journal whose rest begins with an item that is not read
abbrev pub IsFaultAt : Refusal → List ℕ → List ℕ → JournalFault → Type 0
IsFaultAt refusals.Memory bytes rest e = e ≡ faults.Memory
IsFaultAt refusals.Unreadable bytes rest e = (offset : ℕ) × (e ≡ faults.BadJournal offset) × (offset + length rest ≡ length bytes)
