-- What is open while a predicate is read, and what becomes of it with one word more.
use Rattle.std.proofs.Common.{◌≡◌, ◌∙◌, refl, ap, arith, ℕ, suc, ◌≤◌, Bool, List, [], ◌∷◌, ◌++◌, codes, append_assoc}
use Rattle.find_words.specs.declared.predicate.Operation.{Operation}
use Rattle.find_words.specs.declared.predicate.Operation.TheVariants as operation
use Rattle.find_words.specs.declared.building.Pending.{Pending}
use Rattle.find_words.specs.declared.building.Pending.TheVariants.{Open, Not, And, Or}
use Rattle.find_words.specs.Programs.{program_of}
use Rattle.find_words.specs.Grammar.{Syntax, Group, Negated, Both, Either, words_of, joint, expression_of, level_of, IsSyntax}
use Rattle.find_words.specs.Reading.{Built, complete, alternative, leave, closed}

-- what an operand that is read stands in: a bracket, a `!`, or behind an operator with its left side
pub data Layer : Type 0 where
  InGroup : Layer
  InNot : Layer
  InBoth : Syntax → Bool → Layer
  InEither : Syntax → Layer

abbrev pub program : Syntax → List Operation
program s = program_of (expression_of s)

abbrev pub pending_in : List Layer → List Pending
pending_in [] = []
pending_in (InGroup ∷ below) = Open ∷ pending_in below
pending_in (InNot ∷ below) = Not ∷ pending_in below
pending_in (InBoth s has_joint ∷ below) = And ∷ pending_in below
pending_in (InEither s ∷ below) = Or ∷ pending_in below

abbrev pub program_in : List Layer → List Operation
program_in [] = []
program_in (InGroup ∷ below) = program_in below
program_in (InNot ∷ below) = program_in below
program_in (InBoth s has_joint ∷ below) = program_in below ++ program s
program_in (InEither s ∷ below) = program_in below ++ program s

abbrev pub words_in : List Layer → List (List ℕ)
words_in [] = []
words_in (InGroup ∷ below) = words_in below ++ codes "(" ∷ []
words_in (InNot ∷ below) = words_in below ++ codes "!" ∷ []
words_in (InBoth s has_joint ∷ below) = words_in below ++ (words_of s ++ joint has_joint)
words_in (InEither s ∷ below) = words_in below ++ (words_of s ++ codes "-o" ∷ [])

-- how loosely what is read may bind
abbrev pub room_in : List Layer → ℕ
room_in [] = 2
room_in (InGroup ∷ below) = 2
room_in (InNot ∷ below) = 0
room_in (InBoth s has_joint ∷ below) = 0
room_in (InEither s ∷ below) = 1

abbrev pub depth_in : List Layer → ℕ
depth_in [] = 0
depth_in (InGroup ∷ below) = suc (depth_in below)
depth_in (InNot ∷ below) = depth_in below
depth_in (InBoth s has_joint ∷ below) = depth_in below
depth_in (InEither s ∷ below) = depth_in below

abbrev pub AreLayers : List Layer → Type 0
AreLayers [] = Unit {0}
AreLayers (InGroup ∷ below) = AreLayers below
AreLayers (InNot ∷ below) = AreLayers below
AreLayers (InBoth s has_joint ∷ below) = (level_of s ≤ 1) × IsSyntax s × (1 ≤ room_in below) × AreLayers below
AreLayers (InEither s ∷ below) = IsSyntax s × (2 ≤ room_in below) × AreLayers below

-- before an operand
pub record Before (words : List (List ℕ)) (depth : ℕ) (built : Built) : Type 0 where
  pub layers : List Layer
  pub are : AreLayers layers
  pub words_are : words ≡ words_in layers
  pub depth_is : depth ≡ depth_in layers
  pub built_is : built ≡ (program_in layers, pending_in layers)

-- behind an operand; what is read has this room
pub record Behind (room : ℕ) (words : List (List ℕ)) (depth : ℕ) (built : Built) : Type 0 where
  pub layers : List Layer
  pub last : Syntax
  pub are : AreLayers layers
  pub is_syntax : IsSyntax last
  pub tight : level_of last ≤ room
  pub loose : room ≤ room_in layers
  pub words_are : words ≡ words_in layers ++ words_of last
  pub depth_is : depth ≡ depth_in layers
  pub built_is : built ≡ (program_in layers ++ program last, pending_in layers)

done : (below : List Layer) (p : List Operation) → 1 ≤ room_in below → complete p (pending_in below) ≡ (p, pending_in below)
done [] p room = refl
done (InGroup ∷ below) p room = refl
done (InNot ∷ below) p room = absurd (omega arith)
done (InBoth s has_joint ∷ below) p room = absurd (omega arith)
done (InEither s ∷ below) p room = refl

-- an operand is complete
pub completed : (layers : List Layer) (s : Syntax) → AreLayers layers → IsSyntax s → level_of s ≤ 0 → Behind 1 (words_in layers ++ words_of s) (depth_in layers) (complete (program_in layers ++ program s) (pending_in layers))
completed [] s are is level = record { layers = []; last = s; are = are; is_syntax = is; tight = omega arith; loose = omega arith; words_are = refl; depth_is = refl; built_is = refl }
completed (InGroup ∷ below) s are is level = record { layers = InGroup ∷ below; last = s; are = are; is_syntax = is; tight = omega arith; loose = omega arith; words_are = refl; depth_is = refl; built_is = refl }
completed (InEither a ∷ below) s are is level = record { layers = InEither a ∷ below; last = s; are = are; is_syntax = is; tight = omega arith; loose = omega arith; words_are = refl; depth_is = refl; built_is = refl }
completed (InNot ∷ below) s are is level =
    let r = completed below (Negated s) are (level, is) (omega arith) in record {
      layers = r.layers;
      last = r.last;
      are = r.are;
      is_syntax = r.is_syntax;
      tight = r.tight;
      loose = r.loose;
      words_are = append_assoc (words_in below) (codes "!" ∷ []) (words_of s) ∙ r.words_are;
      depth_is = r.depth_is;
      built_is = ap (λ (p : List Operation). complete p (pending_in below)) (append_assoc (program_in below) (program s) (operation.Not ∷ [])) ∙ r.built_is;
    }
completed (InBoth a has_joint ∷ below) s are is level = record {
  layers = below;
  last = Both a has_joint s;
  are = are.3;
  is_syntax = (are.0, level, are.1, is);
  tight = omega arith;
  loose = are.2;
  words_are = append_assoc (words_in below) (words_of a ++ joint has_joint) (words_of s) ∙ ap (λ (l : List (List ℕ)). words_in below ++ l) (append_assoc (words_of a) (joint has_joint) (words_of s));
  depth_is = refl;
  built_is = done below (((program_in below ++ program a) ++ program s) ++ operation.And ∷ []) are.2
      ∙ ap (λ (p : List Operation). (p, pending_in below)) (append_assoc (program_in below ++ program a) (program s) (operation.And ∷ []) ∙ append_assoc (program_in below) (program a) (program s ++ operation.And ∷ []));
}

-- an alternative is complete
alternated_at : (layers : List Layer) (s : Syntax) → AreLayers layers → IsSyntax s → level_of s ≤ 1 → 1 ≤ room_in layers → Behind 2 (words_in layers ++ words_of s) (depth_in layers) (alternative (program_in layers ++ program s, pending_in layers))
alternated_at [] s are is level room = record { layers = []; last = s; are = are; is_syntax = is; tight = omega arith; loose = omega arith; words_are = refl; depth_is = refl; built_is = refl }
alternated_at (InGroup ∷ below) s are is level room = record { layers = InGroup ∷ below; last = s; are = are; is_syntax = is; tight = omega arith; loose = omega arith; words_are = refl; depth_is = refl; built_is = refl }
alternated_at (InNot ∷ below) s are is level room = absurd (omega arith)
alternated_at (InBoth a has_joint ∷ below) s are is level room = absurd (omega arith)
alternated_at (InEither a ∷ below) s are is level room = record {
  layers = below;
  last = Either a s;
  are = are.2;
  is_syntax = (level, are.0, is);
  tight = omega arith;
  loose = are.1;
  words_are = append_assoc (words_in below) (words_of a ++ codes "-o" ∷ []) (words_of s) ∙ ap (λ (l : List (List ℕ)). words_in below ++ l) (append_assoc (words_of a) (codes "-o" ∷ []) (words_of s));
  depth_is = refl;
  built_is = ap (λ (p : List Operation). (p, pending_in below)) (append_assoc (program_in below ++ program a) (program s) (operation.Or ∷ []) ∙ append_assoc (program_in below) (program a) (program s ++ operation.Or ∷ []));
}

pub alternated : (words : List (List ℕ)) (depth : ℕ) (built : Built) → Behind 1 words depth built → Behind 2 words depth (alternative built)
alternated words depth built b =
    let r = alternated_at b.layers b.last b.are b.is_syntax b.tight b.loose in record {
      layers = r.layers;
      last = r.last;
      are = r.are;
      is_syntax = r.is_syntax;
      tight = r.tight;
      loose = r.loose;
      words_are = b.words_are ∙ r.words_are;
      depth_is = b.depth_is ∙ r.depth_is;
      built_is = ap alternative b.built_is ∙ r.built_is;
    }

left_at : (layers : List Layer) (s : Syntax) (depth : ℕ) → AreLayers layers → IsSyntax s → 2 ≤ room_in layers → suc depth ≡ depth_in layers → Behind 1 ((words_in layers ++ words_of s) ++ codes ")" ∷ []) depth (leave (program_in layers ++ program s, pending_in layers))
left_at [] s depth are is room e = absurd (omega (arith, e))
left_at (InNot ∷ below) s depth are is room e = absurd (omega arith)
left_at (InBoth a has_joint ∷ below) s depth are is room e = absurd (omega arith)
left_at (InEither a ∷ below) s depth are is room e = absurd (omega arith)
left_at (InGroup ∷ below) s depth are is room e =
    let r = completed below (Group s) are is (omega arith) in
    let depth_is : depth ≡ depth_in below = omega (arith, e) in record {
      layers = r.layers;
      last = r.last;
      are = r.are;
      is_syntax = r.is_syntax;
      tight = r.tight;
      loose = r.loose;
      words_are = append_assoc (words_in below ++ codes "(" ∷ []) (words_of s) (codes ")" ∷ []) ∙ append_assoc (words_in below) (codes "(" ∷ []) (words_of s ++ codes ")" ∷ []) ∙ r.words_are;
      depth_is = depth_is ∙ r.depth_is;
      built_is = r.built_is;
    }

-- a group ends
pub left : (words : List (List ℕ)) (depth : ℕ) (built : Built) → Behind 1 words (suc depth) built → Behind 1 (words ++ codes ")" ∷ []) depth (closed built)
left words depth built b =
    let a = alternated words (suc depth) built b in
    let r = left_at a.layers a.last depth a.are a.is_syntax a.loose a.depth_is in record {
      layers = r.layers;
      last = r.last;
      are = r.are;
      is_syntax = r.is_syntax;
      tight = r.tight;
      loose = r.loose;
      words_are = ap (λ (l : List (List ℕ)). l ++ codes ")" ∷ []) a.words_are ∙ r.words_are;
      depth_is = r.depth_is;
      built_is = ap leave a.built_is ∙ r.built_is;
    }
