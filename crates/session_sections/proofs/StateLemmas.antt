-- What changes of a buffer leave, and how they are taken back.
use Rattle.std.proofs.Common.{◌≡◌, ℕ, zero, suc, ◌+◌, ◌-◌, ◌<◌, ◌≤◌, List, [], ◌∷◌, ◌++◌, length, map, drop, reverse, refl, ap, sym, subst, ◌∙◌, arith, length-append, Some, None, Option, Result, Ok, Err, Bool, true, false, not, ◌&&◌, is_some, if◌then◌else◌}
use Rattle.std.specs.Option.{option_map}
use Rattle.std.specs.Result.{is_ok}
use Rattle.std.proofs.lemmas.List.{reverse-append}
use Rattle.dired_text.specs.Paths.{Names}
use Rattle.section_rows.specs.declared.row.BufferRow.{BufferRow}
use Rattle.section_buffer.specs.declared.section.Section.{Section}
use Rattle.section_buffer.specs.declared.ends.BufferEnd.{BufferEnd}
use Rattle.section_buffer.specs.declared.ends.BufferEnd.TheVariants.{NotThere}
use Rattle.section_buffer.specs.Buffers.{Asked, BufferState, Event, Inserted, Killed, KillsComeBack, Leads, LineOf, SectionOf, all_killed, all_unkilled, and_then, killed, killed_as, line_killed, section_killed, turned as turned_state, turned_in, unkilled, unkilled_by}
use Rattle.section_buffer.specs.Places.{head_place, line_place}
use Rattle.section_buffer.specs.Rows.{lines_of, rows_of, sections_of, without_rows}
use Rattle.section_buffer.specs.Sections.{hidden_at}
use Rattle.section_buffer.proofs.RowLemmas.{rows-sections}
use Rattle.session_sections.specs.declared.kept.Kept.{Kept}
use Rattle.session_sections.specs.declared.kept.Kept.TheVariants.{Kills, Turning}
use Rattle.session_sections.specs.Sections.{has_dir, is_section, turned, without_lines, without_section}
use Rattle.session_sections.specs.History.{Changes, SectionHistory, Undoes, gains, is_root}
use Rattle.session_sections.specs.Held.{AreOnce, IsHeld, LinesKilled, back, earlier_of, flipped, flipped_by, or_same, seen_as, unkilled_times}
use Rattle.session_sections.proofs.SectionLemmas as sec
use Rattle.session_sections.proofs.LineLemmas as line

abbrev moved : BufferState → List Section → BufferState
moved b sections = record { switches = b.switches; sections = sections; events = b.events }

no-state : (b : BufferState) → None ≡ Some b → ⊥
no-state b e = cc

some-state : (b c : BufferState) → Some b ≡ Some c → b ≡ c
some-state b c e = cc

-- ---- a change, and the buffer from before

-- From one buffer to the other, whose sections are these. What is kept leads back.
pub record Steps (k : Kept) (old : BufferState) (sections : List Section) (new : BufferState) : Type 0 where
  pub back_is : back k new ≡ old
  pub switches : new.switches ≡ old.switches
  pub sections_are : new.sections ≡ sections
  pub once : AreOnce sections

pub held-once : (b : BufferState) (ks : List Kept) → IsHeld b ks → AreOnce b.sections
held-once b [] h = h
held-once b (k ∷ ks) h = h.0

pub step-held : (k : Kept) (old : BufferState) (sections : List Section) (new : BufferState) (ks : List Kept) → Steps k old sections new → IsHeld old ks → IsHeld new (k ∷ ks)
step-held k old sections new ks s h = (
  subst (λ x. AreOnce x) (sym s.sections_are) s.once,
  subst (λ x. IsHeld x ks) (sym s.back_is) h,
)

abbrev history : BufferState → List Section → List (List Section) → SectionHistory
history b sections earlier = record { switches = b.switches; sections = sections; earlier = earlier }

pub step-seen : (k : Kept) (old : BufferState) (sections : List Section) (new : BufferState) (ks : List Kept) → Steps k old sections new → seen_as new (k ∷ ks) ≡ gains sections (seen_as old ks)
step-seen k old sections new ks s =
    ap (λ (x : BufferState). history new new.sections (x.sections ∷ earlier_of x ks)) s.back_is
    ∙ (ap (λ x. history new x (old.sections ∷ earlier_of old ks)) s.sections_are
    ∙ ap (λ x. record { switches = x; sections = sections; earlier = old.sections ∷ earlier_of old ks }) s.switches)

-- ---- turning

flip-by : (dir : Names) (b : BufferState) (h : Bool) → AreOnce b.sections → hidden_at dir b.sections ≡ Some h → turned_state dir (not h) b ≡ Some (moved b (turned dir b.sections))
flip-by dir b h once e = ap (option_map (moved b)) (sec.turned-some dir b.sections h once e)

flip-back : (dir : Names) (b : BufferState) (h : Bool) → AreOnce b.sections → hidden_at dir b.sections ≡ Some h → flipped dir (moved b (turned dir b.sections)) ≡ Some b
flip-back dir b h once e =
    let after = moved b (turned dir b.sections) in
    let is = sec.hidden-turned dir b.sections h e in
    ap (λ o. flipped_by dir o after) is
    ∙ (flip-by dir after (not h) (sec.turned-once dir b.sections once) is ∙ ap (λ x. Some (moved b x)) (sec.turned-twice dir b.sections))

pub flip-steps : (dir : Names) (b c : BufferState) (h : Option Bool) → AreOnce b.sections → hidden_at dir b.sections ≡ h → flipped_by dir h b ≡ Some c → (is_section dir b.sections ≡ true) × Steps (Turning dir) b (turned dir b.sections) c
flip-steps dir b c None once e f = absurd (no-state c f)
flip-steps dir b c (Some h) once e f =
    let is : moved b (turned dir b.sections) ≡ c = some-state (moved b (turned dir b.sections)) c (sym (flip-by dir b h once e) ∙ f) in
    let after = moved b (turned dir b.sections) in
    let goes : Steps (Turning dir) b (turned dir b.sections) after = record {
      back_is = ap (λ o. or_same o after) (flip-back dir b h once e);
      switches = refl;
      sections_are = refl;
      once = sec.turned-once dir b.sections once;
    } in
    (sec.some-there dir b.sections h e, subst (λ x. Steps (Turning dir) b (turned dir b.sections) x) is goes)

flip-none-by : (dir : Names) (b : BufferState) (h : Option Bool) → AreOnce b.sections → hidden_at dir b.sections ≡ h → flipped_by dir h b ≡ None → is_section dir b.sections ≡ false
flip-none-by dir b None once e f = sec.none-there dir b.sections e
flip-none-by dir b (Some h) once e f = absurd (no-state (moved b (turned dir b.sections)) (sym f ∙ flip-by dir b h once e))

pub flip-none : (dir : Names) (b : BufferState) → AreOnce b.sections → flipped dir b ≡ None → is_section dir b.sections ≡ false
flip-none dir b once f = flip-none-by dir b (hidden_at dir b.sections) once refl f

pub flip-as : (dir : Names) (b : BufferState) (h : Option Bool) → h ≡ hidden_at dir b.sections → flipped_by dir h b ≡ flipped dir b
flip-as dir b h e = ap (λ o. flipped_by dir o b) e

-- ---- kills

times-step : (n : ℕ) (b c : BufferState) (middle : Option BufferState) → ((m : BufferState) → all_unkilled n c ≡ Some m → unkilled_times n c ≡ m) → all_unkilled n c ≡ middle → and_then middle unkilled ≡ Some b → unkilled_times (suc n) c ≡ b
times-step n b c None deep e f = absurd (no-state b f)
times-step n b c (Some m) deep e f = ap (λ x. or_same (unkilled x) x) (deep m e) ∙ ap (λ o. or_same o m) f

pub times-back : (n : ℕ) (b c : BufferState) → all_unkilled n c ≡ Some b → unkilled_times n c ≡ b
times-back zero b c e = some-state c b e
times-back (suc n) b c e = times-step n b c (all_unkilled n c) (λ m f. times-back n m c f) refl e

-- a section
killed-steps : (name : List ℕ) (dir : Names) (b c : BufferState) (place : Option ℕ) → AreOnce b.sections → head_place (name ∷ dir) (rows_of b.sections) ≡ place → option_map (λ at. killed at (suc (length (lines_of (drop (suc at) (rows_of b.sections))))) b) place ≡ Some c → unkilled c ≡ Some b → (is_section (name ∷ dir) b.sections ≡ true) × Steps (Kills 1) b (without_section (name ∷ dir) b.sections) c
killed-steps name dir b c None once e f undo = absurd (no-state c f)
killed-steps name dir b c (Some at) once e f undo =
    let d = name ∷ dir in
    let ss = b.sections in
    let found = sec.section-found d ss at e in
    let is : killed at (suc (length (lines_of (drop (suc at) (rows_of ss))))) b ≡ c = some-state (killed at (suc (length (lines_of (drop (suc at) (rows_of ss))))) b) c f in
    let out : sections_of (without_rows at (suc (length (lines_of (drop (suc at) (rows_of ss))))) (rows_of ss)) ≡ without_section d ss =
    ap (λ n. sections_of (without_rows at (suc n) (rows_of ss))) (sec.many d ss at found)
    ∙ (ap sections_of (sec.rest-rows d ss at found) ∙ (rows-sections (found.front ++ found.behind) ∙ sym (sec.out d ss at found once))) in (
      sec.there d ss at found,
      record {
        back_is = ap (λ o. or_same o c) undo;
        switches = ap (λ (x : BufferState). x.switches) (sym is);
        sections_are = ap (λ (x : BufferState). x.sections) (sym is) ∙ out;
        once = sec.out-once d ss once;
      },
    )

section-undo : (dir : Names) (b c : BufferState) → KillsComeBack b → section_killed dir b ≡ Some c → unkilled c ≡ Some b
section-undo dir b c law e = law (SectionOf dir ∷ []) c (ap (λ o. and_then o (all_killed [])) e)

pub section-steps : (dir : Names) (b c : BufferState) → AreOnce b.sections → KillsComeBack b → section_killed dir b ≡ Some c → ((not (is_root dir) && is_section dir b.sections) ≡ true) × Steps (Kills 1) b (without_section dir b.sections) c
section-steps [] b c once law e = absurd (no-state c e)
section-steps (name ∷ dir) b c once law e =
    killed-steps name dir b c (head_place (name ∷ dir) (rows_of b.sections)) once refl e (section-undo (name ∷ dir) b c law e)

killed-none : (name : List ℕ) (dir : Names) (b : BufferState) (place : Option ℕ) → head_place (name ∷ dir) (rows_of b.sections) ≡ place → option_map (λ at. killed at (suc (length (lines_of (drop (suc at) (rows_of b.sections))))) b) place ≡ None → is_section (name ∷ dir) b.sections ≡ false
killed-none name dir b None e f = sec.section-missing (name ∷ dir) b.sections e
killed-none name dir b (Some at) e f = absurd (no-state (killed at (suc (length (lines_of (drop (suc at) (rows_of b.sections))))) b) (sym f))

pub section-none : (dir : Names) (b : BufferState) → section_killed dir b ≡ None → (not (is_root dir) && is_section dir b.sections) ≡ false
section-none [] b e = refl
section-none (name ∷ dir) b e = killed-none name dir b (head_place (name ∷ dir) (rows_of b.sections)) refl e

-- lines
pub none-killed : (b : BufferState) → LinesKilled b b
none-killed b = let n : length (rows_of b.sections) ≡ 0 + length (rows_of b.sections) = omega arith in record { kills = []; lead = refl; fewer = n; switches = refl }

append-step : (x : Asked) (xs ys : List Asked) (next : Option BufferState) → ((c : BufferState) → all_killed (xs ++ ys) c ≡ and_then (all_killed xs c) (all_killed ys)) → and_then next (all_killed (xs ++ ys)) ≡ and_then (and_then next (all_killed xs)) (all_killed ys)
append-step x xs ys None deep = refl
append-step x xs ys (Some c) deep = deep c

all-append : (xs ys : List Asked) (b : BufferState) → all_killed (xs ++ ys) b ≡ and_then (all_killed xs b) (all_killed ys)
all-append [] ys b = refl
all-append (x ∷ xs) ys b = append-step x xs ys (killed_as x b) (λ c. all-append xs ys c)

pub more-killed : (a b c : BufferState) → LinesKilled a b → LinesKilled b c → LinesKilled a c
more-killed a b c h k = record {
  kills = h.kills ++ k.kills;
  lead = all-append h.kills k.kills a ∙ (ap (λ o. and_then o (all_killed k.kills)) h.lead ∙ k.lead);
  fewer = omega (arith, h.fewer, k.fewer, length-append h.kills k.kills);
  switches = k.switches ∙ h.switches;
}

-- one line of a path
pub record LineKilled (path : Names) (b c : BufferState) : Type 0 where
  pub same : without_lines (path ∷ []) c.sections ≡ without_lines (path ∷ []) b.sections
  pub fewer : length (rows_of c.sections) < length (rows_of b.sections)
  pub kill : LinesKilled b c

line-step : (path : Names) (b c : BufferState) (place : Option ℕ) → line_place path [] true (rows_of b.sections) ≡ place → option_map (λ at. killed at 1 b) place ≡ Some c → line_killed path b ≡ Some c → LineKilled path b c
line-step path b c None e f g = absurd (no-state c f)
line-step path b c (Some at) e f g =
    let ss = b.sections in
    let found = line.line-found path ss at e in
    let rest = line.rest path ss at found in
    let is : killed at 1 b ≡ c = some-state (killed at 1 b) c f in
    let sections : c.sections ≡ rest = ap (λ (x : BufferState). x.sections) (sym is) ∙ line.rest-sections path ss at found in
    let rows : length (rows_of c.sections) ≡ length (rows_of rest) = ap (λ x. length (rows_of x)) sections in
    let fewer : length (rows_of ss) ≡ suc (length (rows_of rest)) = line.rest-fewer path ss at found in
    let many : length (rows_of ss) ≡ length (LineOf path ∷ []) + length (rows_of c.sections) = omega (arith, rows, fewer) in
    record {
      same = ap (without_lines (path ∷ [])) sections ∙ line.rest-same path ss at found;
      fewer = omega (arith, rows, fewer);
      kill = record { kills = LineOf path ∷ []; lead = ap (λ o. and_then o (all_killed [])) g; fewer = many; switches = ap (λ (x : BufferState). x.switches) (sym is) };
    }

pub line-kill : (path : Names) (b c : BufferState) → line_killed path b ≡ Some c → LineKilled path b c
line-kill path b c e = line-step path b c (line_place path [] true (rows_of b.sections)) refl e e

line-end-by : (path : Names) (b : BufferState) (place : Option ℕ) → line_place path [] true (rows_of b.sections) ≡ place → option_map (λ at. killed at 1 b) place ≡ None → without_lines (path ∷ []) b.sections ≡ b.sections
line-end-by path b None e f = line.none-stay path b.sections e
line-end-by path b (Some at) e f = absurd (no-state (killed at 1 b) (sym f))

pub line-end : (path : Names) (b : BufferState) → line_killed path b ≡ None → without_lines (path ∷ []) b.sections ≡ b.sections
line-end path b e = line-end-by path b (line_place path [] true (rows_of b.sections)) refl e

-- lines of paths, as one change
pub lines-steps : (paths : List Names) (b c : BufferState) (count : ℕ) → AreOnce b.sections → KillsComeBack b → LinesKilled b c → c.sections ≡ without_lines paths b.sections → count ≡ length (rows_of b.sections) - length (rows_of c.sections) → Steps (Kills count) b (without_lines paths b.sections) c
lines-steps paths b c count once law h sections e =
    let n : count ≡ length h.kills = omega (arith, e, h.fewer) in
    record {
      back_is = ap (λ n. unkilled_times n c) n ∙ times-back (length h.kills) b c (law h.kills c h.lead);
      switches = h.switches;
      sections_are = sections;
      once = sec.lines-once paths b.sections once;
    }

-- ---- undoing

unkilled-switches : (b : BufferState) (es : List Event) → (or_same (unkilled_by es b) b).switches ≡ b.switches
unkilled-switches b [] = refl
unkilled-switches b (Inserted at count dir ∷ es) = refl
unkilled-switches b (Killed at rows ∷ es) = refl

times-switches : (n : ℕ) (b : BufferState) → (unkilled_times n b).switches ≡ b.switches
times-switches zero b = refl
times-switches (suc n) b = unkilled-switches (unkilled_times n b) (unkilled_times n b).events ∙ times-switches n b

turned-switches : (b : BufferState) (o : Option (List Section)) → (or_same (option_map (moved b) o) b).switches ≡ b.switches
turned-switches b None = refl
turned-switches b (Some sections) = refl

flip-switches : (dir : Names) (b : BufferState) (h : Option Bool) → (or_same (flipped_by dir h b) b).switches ≡ b.switches
flip-switches dir b None = refl
flip-switches dir b (Some hidden) = turned-switches b (turned_in dir (not hidden) b.sections)

pub back-switches : (k : Kept) (b : BufferState) → (back k b).switches ≡ b.switches
back-switches (Kills n) b = times-switches n b
back-switches (Turning dir) b = flip-switches dir b (hidden_at dir b.sections)

pub undo-done : (k : Kept) (b new : BufferState) (ks : List Kept) (h : SectionHistory) → seen_as b (k ∷ ks) ≡ h → new ≡ back k b → Undoes h.earlier (Ok tt) h (seen_as new ks)
undo-done k b new ks h e is =
    let seen : seen_as (back k b) ks ≡ record { switches = b.switches; sections = (back k b).sections; earlier = earlier_of (back k b) ks } =
    ap (λ s. record { switches = s; sections = (back k b).sections; earlier = earlier_of (back k b) ks }) (back-switches k b) in
    subst (λ (x : SectionHistory). Undoes x.earlier (Ok tt) x (seen_as new ks)) e (refl, ap (λ (x : BufferState). seen_as x ks) is ∙ seen)

pub kept-first : (items later : List Kept) (change : Kept) → later ≡ items ++ change ∷ [] → reverse later ≡ change ∷ reverse items
kept-first items later change e = ap reverse e ∙ reverse-append items (change ∷ [])

-- ---- answers of the buffer

pub leads-done : (wanted : Option BufferState) (result : Result (Unit {0}) BufferEnd) (old new : BufferState) → Leads wanted result old new → is_ok result ≡ true → wanted ≡ Some new
leads-done wanted (Ok done) old new h e = h
leads-done wanted (Err end) old new h e = absurd (sec.no-true e)

pub leads-not : (wanted : Option BufferState) (result : Result (Unit {0}) BufferEnd) (old new : BufferState) → Leads wanted result old new → is_ok result ≡ false → (wanted ≡ None) × (new ≡ old)
leads-not wanted (Ok done) old new h e = absurd (sec.no-true (sym e))
leads-not wanted (Err end) old new h e = (h.1, h.2)

pub refused : (there : Bool) (sections : List Section) (result : Result (Unit {0}) BufferEnd) (end : BufferEnd) (old new : SectionHistory) → result ≡ Err end → end ≡ NotThere → there ≡ false → new ≡ old → Changes there sections result old new
refused there sections result end old new e f missing same =
    subst (λ (r : Result (Unit {0}) BufferEnd). Changes there sections r old new) (sym (e ∙ ap (λ x. Err x) f)) (missing, same)
