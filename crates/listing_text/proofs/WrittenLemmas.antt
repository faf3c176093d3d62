-- A line that is written is one of the grammar.
use Rattle.std.proofs.Common.{false, true}
use Rattle.std.proofs.Common.{◌≡◌, ◌≢◌, ℕ, zero, suc, ◌+◌, ◌-◌, ◌%◌, ◌≤◌, List, ◌∷◌, ◌++◌, length, refl, sym, ◌∙◌, ap, arith, All, IsUtf8, decimal, append_assoc}
use Rattle.std.proofs.lemmas.List.{append-nil}
use Rattle.dired_text.specs.Escape.{escaped}
use Rattle.dired_text.specs.Modes.{mode_letters}
use Rattle.tree_core.specs.declared.node.Kind.{Kind}
use Rattle.tree_core.specs.declared.node.Kind.TheVariants.{File, Dir, Link}
use Rattle.listing_text.specs.declared.line.Line.{Line}
use Rattle.listing_text.specs.declared.line.Widths.{Widths}
use Rattle.listing_text.specs.Dates.{minute_text}
use Rattle.listing_text.specs.Fields.{arrow_place, name_of}
use Rattle.listing_text.specs.Grammar.{IsModeOf, IsNamesText, IsTargetOf, IsLineText, IsLawful, as_shown}
use Rattle.listing_text.specs.Listed.{spaces, kind_letter, is_link, arrow, target_text, names_text, columns_text, start_text, line_text_of}
use Rattle.listing_text.proofs.GrammarLemmas.{flat}
use Rattle.listing_text.proofs.MomentLemmas.{minute_text-shown, shown-again}
use Rattle.listing_text.proofs.NameLemmas.{name-back, target-back, arrow-first, escaped-other}

-- spaces in front of a space and further ones
spaces-shift : (n : ℕ) (t : List ℕ) → spaces n ++ (32 ∷ t) ≡ 32 ∷ (spaces n ++ t)
spaces-shift zero t = refl
spaces-shift (suc n) t = ap (λ x. 32 ∷ x) (spaces-shift n t)

spaces-add : (u z : ℕ) (t : List ℕ) → spaces u ++ (spaces z ++ t) ≡ spaces (u + z) ++ t
spaces-add zero z t = let same : z ≡ 0 + z = omega arith in ap (λ n. spaces n ++ t) same
spaces-add (suc u) z t = let same : suc (u + z) ≡ suc u + z = omega arith in ap (λ x. 32 ∷ x) (spaces-add u z t) ∙ ap (λ n. spaces n ++ t) same

spaces-merge : (u z : ℕ) (t : List ℕ) → spaces u ++ (32 ∷ (spaces z ++ t)) ≡ 32 ∷ (spaces (u + z) ++ t)
spaces-merge u z t = spaces-shift u (spaces z ++ t) ∙ ap (λ x. 32 ∷ x) (spaces-add u z t)

-- the columns as they are written, and as the grammar has them
opened : (start x l o y g u z s t n : List ℕ) → start ++ (32 ∷ (x ++ l) ++ 32 ∷ (o ++ y) ++ 32 ∷ (g ++ u) ++ 32 ∷ (z ++ s)) ++ t ++ n
    ≡ start ++ (32 ∷ (x ++ (l ++ (32 ∷ (o ++ (y ++ (32 ∷ (g ++ (u ++ (32 ∷ (z ++ (s ++ (t ++ n)))))))))))))
opened start x l o y g u z s t n = simp append_assoc refl

as-written : (m k : ℕ) (ml : List ℕ) (x y u z : ℕ) (l o g s t n : List ℕ)
    → m ∷ 32 ∷ k ∷ ml ++ (32 ∷ (spaces x ++ l) ++ 32 ∷ (o ++ spaces y) ++ 32 ∷ (g ++ spaces u) ++ 32 ∷ (spaces z ++ s)) ++ t ++ n
    ≡ m ∷ 32 ∷ k ∷ ml ++ 32 ∷ spaces x ++ l ++ 32 ∷ spaces 0 ++ o ++ 32 ∷ spaces y ++ g ++ 32 ∷ spaces (u + z) ++ s ++ t ++ n
as-written m k ml x y u z l o g s t n =
    opened (m ∷ 32 ∷ k ∷ ml) (spaces x) l o (spaces y) g (spaces u) (spaces z) s t n
    ∙ ap (λ r. m ∷ 32 ∷ k ∷ (ml ++ (32 ∷ (spaces x ++ (l ++ (32 ∷ (o ++ r))))))) (spaces-shift y (g ++ (spaces u ++ (32 ∷ (spaces z ++ (s ++ (t ++ n))))))
    ∙ ap (λ r. 32 ∷ (spaces y ++ (g ++ r))) (spaces-merge u z (s ++ (t ++ n))))
    ∙ sym (flat m k ml (32 ∷ spaces x) l (32 ∷ spaces 0) o (32 ∷ spaces y) g (32 ∷ spaces (u + z)) s t n)

mode-small : (kind : Kind) (mode : ℕ) → IsModeOf kind mode → mode % 0o10000 ≡ mode
mode-small File mode h = omega arith
mode-small Dir mode h = omega arith
mode-small Link mode h = omega arith

names-written : (kind : Kind) (name target : List ℕ) → IsUtf8 name → All (λ b. b ≢ 0) name → 1 ≤ length name → IsTargetOf kind target → IsNamesText kind name target (escaped (is_link kind) name ++ target_text kind target)
names-written File name target utf8 whole more h = (ap name_of (append-nil (escaped false name)) ∙ name-back false name utf8 whole more, h)
names-written Dir name target utf8 whole more h = (ap name_of (append-nil (escaped false name)) ∙ name-back false name utf8 whole more, h)
names-written Link name target utf8 whole more h =
    let same = append_assoc (escaped true name) arrow (escaped false target) in (
      escaped true name,
      escaped false target,
      sym same,
      ap arrow_place (sym same) ∙ arrow-first (escaped true name) (escaped false target) (escaped-other name),
      name-back true name utf8 whole more,
      target-back target h.0 h.1 h.2 h.3,
    )

pub line-written : (mark : ℕ) (line : Line) (widths : Widths) → 32 ≤ mark → mark ≤ 126 → IsLawful line → IsLineText mark (as_shown line) (line_text_of mark line widths)
unfolding line_text_of start_text columns_text names_text
line-written mark line widths low high h = record {
  before_links = widths.links - length (decimal line.links);
  before_owner = 0;
  before_group = widths.owner - length line.owner;
  before_size = widths.group - length line.group + (widths.size - length (decimal line.size));
  names = names_text line;
  is = as-written mark (kind_letter line.kind) (mode_letters (line.mode % 0o10000)) (widths.links - length (decimal line.links)) (widths.owner - length line.owner)
      (widths.group - length line.group) (widths.size - length (decimal line.size)) (decimal line.links) line.owner line.group (decimal line.size) (32 ∷ minute_text line.minute) (32 ∷ names_text line)
      ∙ ap (λ ml. mark ∷ 32 ∷ kind_letter line.kind ∷ ml ++ 32 ∷ spaces (widths.links - length (decimal line.links)) ++ decimal line.links ++ 32 ∷ spaces 0 ++ line.owner
      ++ 32 ∷ spaces (widths.owner - length line.owner) ++ line.group ++ 32 ∷ spaces (widths.group - length line.group + (widths.size - length (decimal line.size))) ++ decimal line.size
      ++ 32 ∷ minute_text line.minute ++ 32 ∷ names_text line) (ap mode_letters (mode-small line.kind line.mode h.mode))
      ∙ ap (λ date. mark ∷ 32 ∷ kind_letter line.kind ∷ mode_letters line.mode ++ 32 ∷ spaces (widths.links - length (decimal line.links)) ++ decimal line.links ++ 32 ∷ spaces 0 ++ line.owner
      ++ 32 ∷ spaces (widths.owner - length line.owner) ++ line.group ++ 32 ∷ spaces (widths.group - length line.group + (widths.size - length (decimal line.size))) ++ decimal line.size
      ++ 32 ∷ date ++ 32 ∷ names_text line) (sym (minute_text-shown line.minute));
  mark_low = low;
  mark_high = high;
  mode = h.mode;
  links = h.links;
  owner = h.owner;
  group = h.group;
  size = h.size;
  minute = shown-again line.minute;
  name = names-written line.kind line.name line.target h.name_utf8 h.name_whole h.name_some h.target;
}
