-- A line that is read is one of the grammar.
use Rattle.std.proofs.lemmas.Option.{same_Some, cond_some}
use Rattle.std.proofs.lemmas.List.{append_assoc}
use Rattle.listing_text.proofs.FieldReads.{map-some}
use Rattle.listing_text.proofs.GrammarLemmas.{flat}
use Rattle.std.proofs.Common.{◌≡◌, inl, inr, ℕ, suc, ◌+◌, ◌-◌, ◌<◌, ◌≤◌, ◌^◌, true, List, [], ◌∷◌, ◌++◌, length, take, drop, refl, sym, ◌∙◌, ap, subst, arith, Option, Some, None, ℤ, Ok, decimal, option_map}
use Rattle.std.proofs.lemmas.Bool.{cases_Bool, eqb-true}
use Rattle.std.proofs.lemmas.List.{take-append-drop, length-take}
use Rattle.std.proofs.lemmas.Slice.Eq.{bytes_eq-Decides}
use Rattle.std.specs.Str.{bytes_eq}
use Rattle.dired_text.specs.Modes.{mode_letters}
use Rattle.tree_core.specs.declared.node.Kind.{Kind}
use Rattle.tree_core.specs.declared.node.Kind.TheVariants.{File, Dir, Link}
use Rattle.listing_text.specs.declared.faults.Field.TheVariants as field
use Rattle.listing_text.specs.declared.line.Line.{Line}
use Rattle.listing_text.specs.Dates.{minute_text, shown_minute}
use Rattle.listing_text.specs.Fields.{is_space, mark_in, kind_in, mode_in, number_in, word_in, date_in, is_word, name_of, target_of, arrow_place}
use Rattle.listing_text.specs.Grammar.{IsModeOf, IsNamesText, IsLineText}
use Rattle.listing_text.specs.Listed.{spaces, kind_letter, arrow}
use Rattle.listing_text.specs.Numbers.{most_links, most_size}
use Rattle.listing_text.specs.Reading.{Front, front_of, spaced, gap, behind_gap, one, some, names_in, link_names, name_at, line_of, behind_space, or_bad, ◌>>=◌}
use Rattle.listing_text.proofs.FieldReads.{mark-from, kind-from, mode-from, number-from, word-from, date-from}
use Rattle.listing_text.proofs.RunLemmas.{fine, same_Ok, or_bad-from, bind-from, spaced-from, one-split, some-split}

-- the fields in front of the name, and the text from the date's space on
pub record FrontText (front : Front) (text : List ℕ) : Type 0 where
  pub before_links : ℕ
  pub before_owner : ℕ
  pub before_group : ℕ
  pub before_size : ℕ
  pub is : text ≡ front.mark ∷ 32 ∷ kind_letter front.kind ∷ mode_letters front.mode
      ++ 32 ∷ spaces before_links ++ decimal front.links ++ 32 ∷ spaces before_owner ++ front.owner
      ++ 32 ∷ spaces before_group ++ front.group ++ 32 ∷ spaces before_size ++ decimal front.size
      ++ 32 ∷ minute_text front.minute ++ front.rest
  pub mark_low : 32 ≤ front.mark
  pub mark_high : front.mark ≤ 126
  pub mode : IsModeOf front.kind front.mode
  pub links : front.links < 2 ^ 32
  pub owner : is_word front.owner ≡ true
  pub group : is_word front.group ≡ true
  pub size : front.size < 2 ^ 64
  pub minute : shown_minute front.minute ≡ front.minute

links-fit : most_links < 2 ^ 64
links-fit = omega arith

size-fits : most_size < 2 ^ 64
size-fits = omega arith

links-low : (n : ℕ) → n ≤ most_links → n < 2 ^ 32
links-low n h = omega arith

size-low : (n : ℕ) → n ≤ most_size → n < 2 ^ 64
size-low n h = omega arith

-- what each field took off, one after another
record FrontSteps (text : List ℕ) (front : Front) : Type 0 where
  mark : ℕ × List ℕ
  kind : Kind × List ℕ
  mode : ℕ × List ℕ
  links : ℕ × List ℕ
  owner : List ℕ × List ℕ
  group : List ℕ × List ℕ
  size : ℕ × List ℕ
  date : ℤ × List ℕ
  is_mark : mark_in text ≡ Some mark
  is_kind : spaced field.Kind one kind_in (length text) mark.1 ≡ Ok kind
  is_mode : mode_in kind.0 kind.1 ≡ Some mode
  is_links : spaced field.Links some (number_in most_links) (length text) mode.1 ≡ Ok links
  is_owner : spaced field.Owner some word_in (length text) links.1 ≡ Ok owner
  is_group : spaced field.Group some word_in (length text) owner.1 ≡ Ok group
  is_size : spaced field.Size some (number_in most_size) (length text) group.1 ≡ Ok size
  is_date : spaced field.Date one date_in (length text) size.1 ≡ Ok date
  read : record { mark = mark.0; kind = kind.0; mode = mode.0; links = links.0; owner = owner.0; group = group.0; size = size.0; minute = date.0; rest = date.1 } ≡ front

front-steps : (text : List ℕ) (front : Front) → front_of text ≡ Ok front → FrontSteps text front
unfolding front_of
front-steps text front e =
    let b1 = bind-from _ (or_bad field.Mark (length text) text (mark_in text)) front e in
    let mark = b1.0 in
    let b2 = bind-from _ (spaced field.Kind one kind_in (length text) mark.1) front b1.2 in
    let kind = b2.0 in
    let b3 = bind-from _ (or_bad field.Mode (length text) kind.1 (mode_in kind.0 kind.1)) front b2.2 in
    let mode = b3.0 in
    let b4 = bind-from _ (spaced field.Links some (number_in most_links) (length text) mode.1) front b3.2 in
    let links = b4.0 in
    let b5 = bind-from _ (spaced field.Owner some word_in (length text) links.1) front b4.2 in
    let owner = b5.0 in
    let b6 = bind-from _ (spaced field.Group some word_in (length text) owner.1) front b5.2 in
    let group = b6.0 in
    let b7 = bind-from _ (spaced field.Size some (number_in most_size) (length text) group.1) front b6.2 in
    let size = b7.0 in
    let b8 = bind-from _ (spaced field.Date one date_in (length text) size.1) front b7.2 in
    record {
      mark = mark;
      kind = kind;
      mode = mode;
      links = links;
      owner = owner;
      group = group;
      size = size;
      date = b8.0;
      is_mark = or_bad-from field.Mark (length text) text (mark_in text) mark b1.1;
      is_kind = b2.1;
      is_mode = or_bad-from field.Mode (length text) kind.1 (mode_in kind.0 kind.1) mode b3.1;
      is_links = b4.1;
      is_owner = b5.1;
      is_group = b6.1;
      is_size = b7.1;
      is_date = b8.1;
      read = same_Ok _ front b8.2;
    }

-- the parts of a text, joined
parts-joined : (m k : ℕ) (text t1 i1 t2 ml t3 a i3 l t4 b i4 o t5 c i5 g t6 d i6 s t7 i7 t n : List ℕ)
    → text ≡ m ∷ t1 → t1 ≡ 32 ∷ i1 → i1 ≡ k ∷ t2 → t2 ≡ ml ++ t3 → t3 ≡ a ++ i3 → i3 ≡ l ++ t4 → t4 ≡ b ++ i4 → i4 ≡ o ++ t5 → t5 ≡ c ++ i5 → i5 ≡ g ++ t6
    → t6 ≡ d ++ i6 → i6 ≡ s ++ t7 → t7 ≡ 32 ∷ i7 → i7 ≡ t ++ n → text ≡ m ∷ 32 ∷ k ∷ ml ++ a ++ l ++ b ++ o ++ c ++ g ++ d ++ s ++ 32 ∷ t ++ n
parts-joined m k text t1 i1 t2 ml t3 a i3 l t4 b i4 o t5 c i5 g t6 d i6 s t7 i7 t n e0 e1 e2 e3 e4 e5 e6 e7 e8 e9 e10 e11 e12 e13 =
    let p12 : t7 ≡ (32 ∷ t) ++ n = e12 ∙ ap (λ x. 32 ∷ x) e13 in
    let p11 : i6 ≡ s ++ ((32 ∷ t) ++ n) = e11 ∙ ap (λ x. s ++ x) p12 in
    let p10 : t6 ≡ d ++ (s ++ ((32 ∷ t) ++ n)) = e10 ∙ ap (λ x. d ++ x) p11 in
    let p9 : i5 ≡ g ++ (d ++ (s ++ ((32 ∷ t) ++ n))) = e9 ∙ ap (λ x. g ++ x) p10 in
    let p8 : t5 ≡ c ++ (g ++ (d ++ (s ++ ((32 ∷ t) ++ n)))) = e8 ∙ ap (λ x. c ++ x) p9 in
    let p7 : i4 ≡ o ++ (c ++ (g ++ (d ++ (s ++ ((32 ∷ t) ++ n))))) = e7 ∙ ap (λ x. o ++ x) p8 in
    let p6 : t4 ≡ b ++ (o ++ (c ++ (g ++ (d ++ (s ++ ((32 ∷ t) ++ n)))))) = e6 ∙ ap (λ x. b ++ x) p7 in
    let p5 : i3 ≡ l ++ (b ++ (o ++ (c ++ (g ++ (d ++ (s ++ ((32 ∷ t) ++ n))))))) = e5 ∙ ap (λ x. l ++ x) p6 in
    let p4 : t3 ≡ a ++ (l ++ (b ++ (o ++ (c ++ (g ++ (d ++ (s ++ ((32 ∷ t) ++ n)))))))) = e4 ∙ ap (λ x. a ++ x) p5 in
    let p3 : t2 ≡ ml ++ (a ++ (l ++ (b ++ (o ++ (c ++ (g ++ (d ++ (s ++ ((32 ∷ t) ++ n))))))))) = e3 ∙ ap (λ x. ml ++ x) p4 in
    e0 ∙ ap (λ x. m ∷ x) (e1 ∙ ap (λ x. 32 ∷ x) (e2 ∙ ap (λ x. k ∷ x) p3)) ∙ sym (flat m k ml a l b o c g d s (32 ∷ t) n)

shown-steps : (text : List ℕ) (front : Front) (h : FrontSteps text front)
    → FrontText (record { mark = h.mark.0; kind = h.kind.0; mode = h.mode.0; links = h.links.0; owner = h.owner.0; group = h.group.0; size = h.size.0; minute = h.date.0; rest = h.date.1 }) text
shown-steps text front h =
    let e1 = mark-from text h.mark h.is_mark in
    let g2 = spaced-from field.Kind one kind_in (length text) h.mark.1 h.kind h.is_kind in
    let e2 = kind-from (behind_gap h.mark.1) h.kind g2.1 in
    let e3 = mode-from h.kind.0 h.kind.1 h.mode h.is_mode in
    let g4 = spaced-from field.Links some (number_in most_links) (length text) h.mode.1 h.links h.is_links in
    let e4 = number-from most_links (behind_gap h.mode.1) h.links links-fit g4.1 in
    let g5 = spaced-from field.Owner some word_in (length text) h.links.1 h.owner h.is_owner in
    let e5 = word-from (behind_gap h.links.1) h.owner g5.1 in
    let g6 = spaced-from field.Group some word_in (length text) h.owner.1 h.group h.is_group in
    let e6 = word-from (behind_gap h.owner.1) h.group g6.1 in
    let g7 = spaced-from field.Size some (number_in most_size) (length text) h.group.1 h.size h.is_size in
    let e7 = number-from most_size (behind_gap h.group.1) h.size size-fits g7.1 in
    let g8 = spaced-from field.Date one date_in (length text) h.size.1 h.date h.is_date in
    let e8 = date-from (behind_gap h.size.1) h.date g8.1 in
    record {
      before_links = gap h.mode.1 - 1;
      before_owner = gap h.links.1 - 1;
      before_group = gap h.owner.1 - 1;
      before_size = gap h.group.1 - 1;
      is = parts-joined h.mark.0 (kind_letter h.kind.0) text h.mark.1 (behind_gap h.mark.1) h.kind.1 (mode_letters h.mode.0) h.mode.1 (32 ∷ spaces (gap h.mode.1 - 1)) (behind_gap h.mode.1)
          (decimal h.links.0) h.links.1 (32 ∷ spaces (gap h.links.1 - 1)) (behind_gap h.links.1) h.owner.0 h.owner.1 (32 ∷ spaces (gap h.owner.1 - 1)) (behind_gap h.owner.1) h.group.0 h.group.1
          (32 ∷ spaces (gap h.group.1 - 1)) (behind_gap h.group.1) (decimal h.size.0) h.size.1 (behind_gap h.size.1) (minute_text h.date.0) h.date.1
          e1.0 (one-split h.mark.1 g2.0) e2 e3.0 (some-split h.mode.1 g4.0) e4.0 (some-split h.links.1 g5.0) e5.0 (some-split h.owner.1 g6.0) e6.0 (some-split h.group.1 g7.0) e7.0
          (one-split h.size.1 g8.0) e8.0;
      mark_low = e1.1;
      mark_high = e1.2;
      mode = e3.1;
      links = links-low h.links.0 e4.1;
      owner = e5.1;
      group = e6.1;
      size = size-low h.size.0 e7.1;
      minute = e8.1;
    }

pub front-from : (text : List ℕ) (front : Front) → front_of text ≡ Ok front → FrontText front text
front-from text front e =
    let h = front-steps text front e in
    subst (λ f. FrontText f text) h.read (shown-steps text front h)

-- an arrow that was found
bytes-same : (xs ys : List ℕ) → bytes_eq xs ys ≡ true → xs ≡ ys
bytes-same xs ys is = (bytes_eq-Decides xs ys).0 is

found-here : (text : List ℕ) → bytes_eq (take 4 text) arrow ≡ true → text ≡ arrow ++ drop 4 text
found-here text is = sym (take-append-drop 4 text) ∙ ap (λ t. t ++ drop 4 text) (bytes-same (take 4 text) arrow is)

arrow-found : (text : List ℕ) (place : ℕ) → arrow_place text ≡ Some place → (place ≤ length text) × (drop place text ≡ arrow ++ drop (place + 4) text)
unfolding arrow_place
arrow-found [] place e = cc
arrow-found (b ∷ bs) place e = elim (cases_Bool (bytes_eq (take 4 (b ∷ bs)) arrow)) [
  | inl is ↦ let got : Some 0 ≡ Some place = rw is at e in
      subst (λ n. (n ≤ length (b ∷ bs)) × (drop n (b ∷ bs) ≡ arrow ++ drop (n + 4) (b ∷ bs))) (same_Some 0 place got) (omega arith, found-here (b ∷ bs) is)
  | inr other ↦ let got : option_map suc (arrow_place bs) ≡ Some place = rw other at e in
      let inner = map-some suc (arrow_place bs) place got in
      let found = arrow-found bs inner.0 inner.1 in
      let next : suc (inner.0 + 4) ≡ suc inner.0 + 4 = omega arith in
      subst (λ n. (n ≤ length (b ∷ bs)) × (drop n (b ∷ bs) ≡ arrow ++ drop (n + 4) (b ∷ bs))) inner.2
      (omega (arith, found.0), found.1 ∙ ap (λ n. arrow ++ drop n (b ∷ bs)) next)
]

name-from : (bytes : ℕ) (rest shown name : List ℕ) → name_at bytes rest shown ≡ Ok name → name_of shown ≡ Some name
name-from bytes rest shown name e = or_bad-from field.Name bytes rest (name_of shown) name e

plain-from : (bytes : ℕ) (text : List ℕ) (v : List ℕ × List ℕ) → (name_at bytes text text >>= λ name. Ok (name, [])) ≡ Ok v → (name_of text ≡ Some v.0) × (v.1 ≡ [])
plain-from bytes text v e =
    let b = bind-from (λ name. fine (name, [])) (name_at bytes text text) v e in
    let same : (b.0, []) ≡ v = same_Ok (b.0, []) v b.2 in
    let Names : List ℕ × List ℕ → Type 0 = λ x. (name_of text ≡ Some x.0) × (x.1 ≡ []) in
    subst Names same (name-from bytes text text b.0 b.1, refl)

link-from : (bytes : ℕ) (text : List ℕ) (o : Option ℕ) → arrow_place text ≡ o → (v : List ℕ × List ℕ) → link_names bytes text o ≡ Ok v → IsNamesText Link v.0 v.1 text
unfolding link_names
link-from bytes text None is v e = cc
link-from bytes text (Some place) is v e =
    let found = arrow-found text place is in
    let b1 = bind-from _ (name_at bytes text (take place text)) v e in
    let b2 = bind-from _ (or_bad field.Target bytes (drop (place + 4) text) (target_of (drop (place + 4) text))) v b1.2 in
    let same : (b1.0, b2.0) ≡ v = same_Ok (b1.0, b2.0) v b2.2 in
    let len : place ≡ length (take place text) = omega (arith, length-take place text, found.0) in
    let shown : IsNamesText Link b1.0 b2.0 text = (
      take place text,
      drop (place + 4) text,
      sym (take-append-drop place text) ∙ ap (λ t. take place text ++ t) found.1 ∙ sym (append_assoc (take place text) arrow (drop (place + 4) text)),
      is ∙ ap Some len,
      name-from bytes text (take place text) b1.0 b1.1,
      or_bad-from field.Target bytes (drop (place + 4) text) (target_of (drop (place + 4) text)) b2.0 b2.1,
    ) in
    subst (λ (x : List ℕ × List ℕ). IsNamesText Link x.0 x.1 text) same shown

pub names-from : (kind : Kind) (bytes : ℕ) (text : List ℕ) (v : List ℕ × List ℕ) → names_in kind bytes text ≡ Ok v → IsNamesText kind v.0 v.1 text
unfolding names_in
names-from File bytes text v e = plain-from bytes text v e
names-from Dir bytes text v e = plain-from bytes text v e
names-from Link bytes text v e = link-from bytes text (arrow_place text) refl v e

space-from : (text rest : List ℕ) → behind_space text ≡ Some rest → text ≡ 32 ∷ rest
space-from [] rest e = cc
space-from (b ∷ bs) rest e =
    let is = cond_some (is_space b) bs rest e in ap (λ x. x ∷ bs) (eqb-true b 32 is.0) ∙ ap (λ t. 32 ∷ t) is.1

pub grammar-from : (mark : ℕ) (line : Line) (text : List ℕ) → line_of text ≡ Ok (mark, line) → IsLineText mark line text
unfolding line_of
grammar-from mark line text e =
    let bytes = length text in
    let b1 = bind-from _ (front_of text) (mark, line) e in
    let front = b1.0 in
    let b2 = bind-from _ (or_bad field.Name bytes front.rest (behind_space front.rest)) (mark, line) b1.2 in
    let rest = b2.0 in
    let b3 = bind-from _ (names_in front.kind bytes rest) (mark, line) b2.2 in
    let names = b3.0 in
    let h = front-from text front b1.1 in
    let space = space-from front.rest rest (or_bad-from field.Name bytes front.rest (behind_space front.rest) rest b2.1) in
    let read : Line = record { kind = front.kind; mode = front.mode; links = front.links; owner = front.owner; group = front.group; size = front.size; minute = front.minute; name = names.0; target = names.1 } in
    let same : (front.mark, read) ≡ (mark, line) = same_Ok (front.mark, read) (mark, line) b3.2 in
    let shown : IsLineText front.mark read text = record {
      before_links = h.before_links;
      before_owner = h.before_owner;
      before_group = h.before_group;
      before_size = h.before_size;
      names = rest;
      is = subst (λ t. text ≡ front.mark ∷ 32 ∷ kind_letter front.kind ∷ mode_letters front.mode
          ++ 32 ∷ spaces h.before_links ++ decimal front.links ++ 32 ∷ spaces h.before_owner ++ front.owner
          ++ 32 ∷ spaces h.before_group ++ front.group ++ 32 ∷ spaces h.before_size ++ decimal front.size
          ++ 32 ∷ minute_text front.minute ++ t) space h.is;
      mark_low = h.mark_low;
      mark_high = h.mark_high;
      mode = h.mode;
      links = h.links;
      owner = h.owner;
      group = h.group;
      size = h.size;
      minute = h.minute;
      name = names-from front.kind bytes rest names b3.1;
    } in
    subst (λ (x : ℕ × Line). IsLineText x.0 x.1 text) same shown
