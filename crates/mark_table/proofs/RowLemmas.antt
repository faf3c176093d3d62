-- Versions with the paths of their backups, in order.
use Rattle.std.proofs.Common.{◌≡◌, ℕ, zero, suc, ◌+◌, ◌-◌, ◌<◌, ◌≤◌, ◌==◌, Bool, true, false, cond, ◌&&◌, nat_le, nat_lt, List, [], ◌∷◌, length, take, get_or, refl, sym, ◌∙◌, ap, arith, Option, Some, None}
use Rattle.std.specs.List.Sorted.{IsStrictlySortedBy}
use Rattle.std.specs.Map.{keys_of}
use Rattle.std.specs.Option.{option_or}
use Rattle.std.specs.Ordering.{eq_by_cmp, is_eq}
use Rattle.std.specs.Cmp.{tied_itself}
use Rattle.std.proofs.lemmas.Bool.Decides.{same_from_decides, Decides-eqb}
use Rattle.std.proofs.lemmas.Slice.Eq.{bytes_eq-Decides}
use Rattle.std.specs.Str.{bytes_eq}
use Rattle.std.proofs.Math.ListN.{get_or-map}
use Rattle.std.proofs.lemmas.Map.Entries.{length-keys_of}
use Rattle.std.specs.FinMap.{from_entries, insert, entries, get, get-insert, get-empty, empty}
use Rattle.std.specs.BTreeMap.{BTreeMap, Updates, IsOrdered}
use Rattle.dired_text.specs.Paths.{Names, joined}
use Rattle.mark_table.specs.Versions.{version_in}
use Rattle.mark_table.proofs.NumberLemmas.{and_both}
use Rattle.mark_table.proofs.TextLemmas.{and_make}
use Rattle.mark_table.proofs.MapLemmas.{inserted, entries-made}
use Rattle.mark_table.specs.declared.version.Version.{Version}
use Rattle.mark_table.specs.Excess.{version_cmp, older, newer, Versions, with_backup, with_backups, backups, is_of, path_of}
use Rattle.mark_table.proofs.VersionLemmas.{older_at, older_past, newer_at, newer_past, leb_fails, lt_fails, version_cmp-total, version_cmp-exact, tie_is, same_version}

abbrev pub Row : Type 0
Row = Version × Names

key_at : (rows : List Row) (i : ℕ) (row : Row) → row ≡ get_or rows i row → row.0 ≡ get_or (keys_of rows) i row.0
key_at rows i row is = ap (λ (r : Row). r.0) is ∙ sym (get_or-map (λ (r : Row). r.0) rows i row)

any_row : (rows : List Row) (i : ℕ) (d e : Row) → i < length rows → d ≡ get_or rows i d → e ≡ get_or rows i e → d ≡ e
any_row [] i d e within d_is e_is = absurd (omega arith)
any_row (r ∷ rows) zero d e within d_is e_is = d_is ∙ sym e_is
any_row (r ∷ rows) (suc i) d e within d_is e_is = any_row rows i d e (omega arith) d_is e_is

-- what is read of a row by whatever default
own : (rows : List Row) (i : ℕ) (d : Row) → i < length rows → get_or rows i d ≡ get_or rows i (get_or rows i d)
own [] i d within = absurd (omega arith)
own (r ∷ rows) zero d within = refl
own (r ∷ rows) (suc i) d within = own rows i d (omega arith)

pub row_older : (rows : List Row) (at k : ℕ) (d e row : Row) → IsStrictlySortedBy version_cmp (keys_of rows) → at < length rows → k ≤ at → row ≡ get_or rows at row
    → bytes_eq (get_or rows (at - k) d).0.stem (get_or rows at e).0.stem ≡ nat_le k (older (keys_of rows) row.0)
row_older rows at k d e row s within le row_is =
    let len : length (keys_of rows) ≡ length rows = length-keys_of rows in
    let y_is = own rows (at - k) d (omega arith) in
    let v_is = own rows at e within in
    older_at (keys_of rows) at k (get_or rows (at - k) d).0 (get_or rows at e).0 s (omega arith) le (key_at rows (at - k) _ y_is) (key_at rows at _ v_is)
    ∙ ap (λ (r : Row). nat_le k (older (keys_of rows) r.0)) (any_row rows at (get_or rows at e) row within v_is row_is)

pub row_older_past : (rows : List Row) (at k : ℕ) (row : Row) → IsStrictlySortedBy version_cmp (keys_of rows) → at < length rows → at < k → row ≡ get_or rows at row
    → nat_le k at ≡ nat_le k (older (keys_of rows) row.0)
row_older_past rows at k row s within past row_is =
    let len : length (keys_of rows) ≡ length rows = length-keys_of rows in
    leb_fails k at past ∙ older_past (keys_of rows) at k row.0 s (omega arith) past (key_at rows at row row_is)

pub row_newer : (rows : List Row) (at k : ℕ) (d e row : Row) → IsStrictlySortedBy version_cmp (keys_of rows) → at < length rows → k < length rows - at → row ≡ get_or rows at row
    → bytes_eq (get_or rows (at + k) d).0.stem (get_or rows at e).0.stem ≡ nat_le k (newer (keys_of rows) row.0)
row_newer rows at k d e row s within lt row_is =
    let len : length (keys_of rows) ≡ length rows = length-keys_of rows in
    let y_is = own rows (at + k) d (omega arith) in
    let v_is = own rows at e within in
    newer_at (keys_of rows) at k (get_or rows (at + k) d).0 (get_or rows at e).0 s (omega arith) (omega arith) (key_at rows (at + k) _ y_is) (key_at rows at _ v_is)
    ∙ ap (λ (r : Row). nat_le k (newer (keys_of rows) r.0)) (any_row rows at (get_or rows at e) row within v_is row_is)

pub row_newer_past : (rows : List Row) (at k : ℕ) (row : Row) → IsStrictlySortedBy version_cmp (keys_of rows) → at < length rows → length rows - at ≤ k → row ≡ get_or rows at row
    → nat_lt k (length rows - at) ≡ nat_le k (newer (keys_of rows) row.0)
row_newer_past rows at k row s within past row_is =
    let len : length (keys_of rows) ≡ length rows = length-keys_of rows in
    lt_fails k (length rows - at) past ∙ newer_past (keys_of rows) at k row.0 s (omega arith) (omega arith) (key_at rows at row row_is)

-- ---- one path more

pub added : (a b : BTreeMap Version Names) (text bytes stem : List ℕ) (len n : ℕ) (p copy : Names) → bytes ≡ text → Some (take len bytes, n) ≡ version_in bytes → stem ≡ take len bytes → copy ≡ p
    → Updates version_cmp a b (record { stem = stem; number = n }) (Some copy) → from_entries {R = version_cmp} b.entries ≡ with_backup (version_in text) p (from_entries a.entries)
added a b text bytes stem len n p copy same reads cut copies u =
    let key : Version = record { stem = stem; number = n } in
    inserted version_cmp-total version_cmp-exact a b key copy u
    ∙ ap (λ (q : Names). insert (from_entries {R = version_cmp} a.entries) key q) copies
    ∙ ap (λ (t : List ℕ). with_backup (Some (t, n)) p (from_entries a.entries)) cut
    ∙ ap (λ o. with_backup o p (from_entries a.entries)) (reads ∙ ap version_in same)

pub in_order : (a : BTreeMap Version Names) (vs : Versions) → IsOrdered version_cmp a → from_entries {R = version_cmp} a.entries ≡ vs → a.entries ≡ entries vs
in_order a vs ordered is = sym (entries-made version_cmp-total version_cmp-exact a.entries ordered) ∙ ap entries is

-- ---- the path of a version

or_assoc : (a b c : Option Names) → option_or (option_or a b) c ≡ option_or a (option_or b c)
or_assoc None b c = refl
or_assoc (Some p) b c = refl

or_none : (o : Option Names) → option_or o None ≡ o
or_none None = refl
or_none (Some p) = refl

tied_is : (v w : Version) → eq_by_cmp version_cmp v w ≡ (bytes_eq v.stem w.stem && v.number == w.number)
tied_is v w = same_from_decides (eq_by_cmp version_cmp v w) (bytes_eq v.stem w.stem && v.number == w.number)
    (λ t. tie_is v w t, λ e. ap (λ (u : Version). is_eq (version_cmp v u)) (sym e) ∙ ap is_eq (tied_itself version_cmp-total v)) (
      λ t. let parts = and_both (bytes_eq v.stem w.stem) (v.number == w.number) t in same_version v w ((bytes_eq-Decides v.stem w.stem).0 parts.0) ((Decides-eqb v.number w.number).0 parts.1),
      λ e. and_make (bytes_eq v.stem w.stem) (v.number == w.number) ((bytes_eq-Decides v.stem w.stem).1 (ap (λ (u : Version). u.stem) e)) ((Decides-eqb v.number w.number).1 (ap (λ (u : Version). u.number) e)),
    )

one_or : (t : Bool) (p : Names) (o : Option Names) → cond t (Some p) o ≡ option_or (cond t (Some p) None) o
one_or true p o = refl
one_or false p o = refl

get-with_backup : (o : Option (List ℕ × ℕ)) (p : Names) (vs : Versions) (v : Version) → get (with_backup o p vs) v ≡ option_or (cond (is_of v o) (Some p) None) (get vs v)
get-with_backup None p vs v = refl
get-with_backup (Some w) p vs v =
    get-insert version_cmp-total vs (record { stem = w.0; number = w.1 }) p v
    ∙ ap (λ (t : Bool). cond t (Some p) (get vs v)) (tied_is v (record { stem = w.0; number = w.1 }))
    ∙ one_or (is_of v (Some w)) p (get vs v)

get-with_backups : (ps : List Names) (vs : Versions) (v : Version) → get (with_backups ps vs) v ≡ option_or (path_of ps v) (get vs v)
get-with_backups [] vs v = refl
get-with_backups (p ∷ ps) vs v =
    get-with_backups ps (with_backup (version_in (joined p)) p vs) v
    ∙ ap (option_or (path_of ps v)) (get-with_backup (version_in (joined p)) p vs v)
    ∙ sym (or_assoc (path_of ps v) (cond (is_of v (version_in (joined p))) (Some p) None) (get vs v))

pub get-backups : (ps : List Names) (v : Version) → get (backups ps) v ≡ path_of ps v
get-backups ps v = get-with_backups ps empty v ∙ ap (option_or (path_of ps v)) (get-empty version_cmp v) ∙ or_none (path_of ps v)
