-- Every expression is read.
use Rattle.std.proofs.Common.{arith, ◌≡◌, ◌<◌, ◌≤◌, ℕ, List, [], ◌∷◌, ◌++◌, refl, ap, ◌∙◌, Bool, true, false, IsTrue, append_assoc, ◌⊎◌, inl, inr, Option, Some, None}
use Rattle.std.proofs.lemmas.Bool.Decides.{nat_tests}
use Rattle.tree.specs.declared.ops.Op.{Op}
use Rattle.tree.specs.declared.ops.Op.TheVariants.{Pow}
use Rattle.tree.specs.OperatorTable.{Sign, Plus, Minus, Negation, level_of, left_least, right_least, stands_between, sign_level}
use Rattle.f90_grammar.specs.Words.{Word90}
use Rattle.f90_grammar.specs.Words as words
use Rattle.f90_grammar.specs.Phrases.{Phrase90, Literal, Truth, Name, Listed, Paren, Signed, Joined, Values, Looped, ListPart, Value, Range, Strided, ListParts, One, Then, Phrases90, Sole, More, Turn, Innermost, Round, phrase_level90, written90, written_part, written_parts, written_values, written_turn, IsExpression90, IsPart, AreParts, AreExpressions90, IsTurn}
use Rattle.reading.specs.Signs.{sign_word}
use Rattle.f90_laws.proofs.unique.Machine.{Frame, Before, After, Within, Among, From, By, Items, First, Last, Body, Of, Nested, closed_turn, State, Wants, Has, HasTurn, Step, Go, run, went, begin, go_on, close, halted, least, frame_least, join, into, with_part, with_value}

-- what follows doesn't go on where an operand of this level stands
abbrev pub Follows : ℕ → List Word90 → Type 0
Follows n (words.Operator o ∷ ws) = IsTrue (stands_between o) → left_least o ≤ n
Follows n ws = Unit {0}

level_least : (p : Op) → level_of p ≤ left_least p
level_least Pow = omega arith
level_least p = omega arith

below_pow : (p : Op) → left_least p ≤ 9 → level_of p < 9
below_pow Pow h = absurd (omega arith)
below_pow p h = omega arith

apart : (o p : Op) → left_least p ≤ level_of o → level_of p < right_least o
apart Pow p h = below_pow p h
apart o p h = omega (arith, level_least p)

least_right : (o : Op) → level_of o ≤ right_least o
least_right Pow = omega arith
least_right o = omega arith

stays : (n : ℕ) (fs : List Frame) (m : Phrase90) → least fs ≤ n → close n fs m ≡ record { frames = fs; phrase = m }
stays n [] m h = refl
stays n (f ∷ fs) m h = grind (arith, nat_tests)

closes : (n : ℕ) (f : Frame) (fs : List Frame) (m : Phrase90) → n < frame_least f → close n (f ∷ fs) m ≡ close n fs (into f m)
closes n f fs m h = grind (arith, nat_tests)

joins_on : (o : Op) (fs : List Frame) (a : Phrase90) → IsTrue (stands_between o) → least fs ≤ level_of o → left_least o ≤ phrase_level90 a
    → go_on fs a (words.Operator o) ≡ Go (Wants (After o a ∷ fs))
joins_on o fs a j l h = rw (stays (level_of o) fs a l) (grind (arith, nat_tests))

told : (b : Bool) → (IsTrue b) ⊎ (b ≡ false)
told true = inl refl
told false = inr refl

ends : (n : ℕ) (f : Frame) (fs : List Frame) (b : Phrase90) (r : List Word90) → Follows n r → 0 < frame_least f
    → ((p : Op) → left_least p ≤ n → level_of p < frame_least f) → run r (Has (f ∷ fs) b) ≡ run r (Has fs (into f b))
ends n f fs b [] h z a = rw (closes 0 f fs b z) refl
ends n f fs b (words.Operator p ∷ r) h z a = ap (λ (s : Step). went s (words.Operator p) r (run r))
    (elim (told (stands_between p)) [
      | inl j ↦ rw j (ap (join p) (closes (level_of p) f fs b (a p (h j))))
      | inr e ↦ rw e (ap halted (closes 0 f fs b z))
    ])
ends n f fs b (words.Close ∷ r) h z a = rw (closes 0 f fs b z) refl
ends n f fs b (words.CloseList ∷ r) h z a = rw (closes 0 f fs b z) refl
ends n f fs b (words.Comma ∷ r) h z a = rw (closes 0 f fs b z) refl
ends n f fs b (words.Equals ∷ r) h z a = rw (closes 0 f fs b z) refl
ends n f fs b (words.Colon ∷ r) h z a = rw (closes 0 f fs b z) refl
ends n f fs b (t ∷ r) h z a = rw (closes 0 f fs b z) refl

follows_on : (m n : ℕ) (r : List Word90) → m ≤ n → Follows m r → Follows n r
follows_on m n [] l h = tt
follows_on m n (words.Operator p ∷ r) l h = λ j. let k : left_least p ≤ m = h j in omega arith
follows_on m n (t ∷ r) l h = tt

sign_starts : (s : Sign) (fs : List Frame) → least fs ≤ sign_level s → begin fs (words.Operator (sign_word s)) ≡ Go (Wants (Before s ∷ fs))
sign_starts Plus fs h = grind (arith, nat_tests)
sign_starts Minus fs h = grind (arith, nat_tests)
sign_starts Negation fs h = grind (arith, nat_tests)

level_pos : (o : Op) → 0 < right_least o
level_pos Pow = omega arith
level_pos o = omega arith

grouped : (a b r : List Word90) (s : State) → run ((a ++ b) ++ r) s ≡ run (a ++ (b ++ r)) s
grouped a b r s = ap (λ (q : List Word90). run q s) (append_assoc a b r)

-- ---- lists, up to their last part

abbrev front : ListParts → Option ListParts
front (One p) = None
front (Then ps p) = Some ps

abbrev last : ListParts → ListPart
last (One p) = p
last (Then ps p) = p

parts_front : (ps : ListParts) → with_part (front ps) (last ps) ≡ ps
parts_front (One p) = refl
parts_front (Then ps p) = refl

abbrev front_values : Phrases90 → Option Phrases90
front_values (Sole p) = None
front_values (More ps p) = Some ps

abbrev last_value : Phrases90 → Phrase90
last_value (Sole p) = p
last_value (More ps p) = p

values_front : (ps : Phrases90) → with_value (front_values ps) (last_value ps) ≡ ps
values_front (Sole p) = refl
values_front (More ps p) = refl

-- a part that is read but for what ends it
abbrev held_part : List Frame → List ℕ → Option ListParts → ListPart → State
held_part fs x ps (Value p) = Has (Among x ps ∷ fs) p
held_part fs x ps (Range a b) = Has (From x ps a ∷ fs) b
held_part fs x ps (Strided a b c) = Has (By x ps a b ∷ fs) c

shuts : (fs : List Frame) (x : List ℕ) (ps : Option ListParts) (p : ListPart) (r : List Word90) → run (words.Close ∷ r) (held_part fs x ps p) ≡ run r (Has fs (Listed x (with_part ps p)))
shuts fs x ps (Value p) r = refl
shuts fs x ps (Range a b) r = refl
shuts fs x ps (Strided a b c) r = refl

parts_on : (fs : List Frame) (x : List ℕ) (ps : Option ListParts) (p : ListPart) (r : List Word90) → run (words.Comma ∷ r) (held_part fs x ps p) ≡ run r (Wants (Among x (Some (with_part ps p)) ∷ fs))
parts_on fs x ps (Value p) r = refl
parts_on fs x ps (Range a b) r = refl
parts_on fs x ps (Strided a b c) r = refl

-- a phrase is read wherever it may stand
abbrev IsRead : Phrase90 → Type 0
IsRead p = (fs : List Frame) (r : List Word90) → least fs ≤ phrase_level90 p → Follows (phrase_level90 p) r → run (written90 p ++ r) (Wants fs) ≡ run r (Has fs p)

reads_bounds : (body : Body) (x : List ℕ) (a b : Phrase90) (fs : List Frame) (r : List Word90) → IsRead a → IsRead b
    → run ((written90 a ++ words.Comma ∷ (written90 b ++ words.Close ∷ [])) ++ r) (Wants (First body x ∷ fs)) ≡ run r (HasTurn fs (closed_turn body x a b))
reads_bounds body x a b fs r ra rb =
    grouped (written90 a) (words.Comma ∷ (written90 b ++ words.Close ∷ [])) r (Wants (First body x ∷ fs))
    ∙ (ra (First body x ∷ fs) (words.Comma ∷ ((written90 b ++ words.Close ∷ []) ++ r)) (omega arith) tt
    ∙ (grouped (written90 b) (words.Close ∷ []) r (Wants (Last body x a ∷ fs))
    ∙ rb (Last body x a ∷ fs) (words.Close ∷ r) (omega arith) tt))

mutual
  pub reads : (p : Phrase90) (fs : List Frame) (r : List Word90) → IsExpression90 p → least fs ≤ phrase_level90 p → Follows (phrase_level90 p) r
      → run (written90 p ++ r) (Wants fs) ≡ run r (Has fs p)
  reads (Literal t) fs r h l k = refl
  reads (Truth b) fs r h l k = refl
  reads (Name x) fs r h l k = refl
  reads (Listed x ps) fs r h l k =
      grouped (written_parts ps) (words.Close ∷ []) r (Wants (Among x None ∷ fs))
      ∙ (reads_parts ps x fs (words.Close ∷ r) h tt
      ∙ (shuts fs x (front ps) (last ps) r ∙ ap (λ (q : ListParts). run r (Has fs (Listed x q))) (parts_front ps)))
  reads (Paren p) fs r h l k = grouped (written90 p) (words.Close ∷ []) r (Wants (Within ∷ fs)) ∙ reads p (Within ∷ fs) (words.Close ∷ r) h (omega arith) tt
  reads (Signed s p) fs r h l k =
      rw (sign_starts s fs l)
      (reads p (Before s ∷ fs) r h.2 h.0 (follows_on (sign_level s) (phrase_level90 p) r (omega (arith, h.0)) k)
      ∙ ends (sign_level s) (Before s) fs p r k (omega arith) (λ q e. omega (arith, level_least q)))
  reads (Joined o a b) fs r h l k =
      grouped (written90 a) (words.Operator o ∷ written90 b) r (Wants fs)
      ∙ (reads a fs (words.Operator o ∷ (written90 b ++ r)) h.4 (omega (arith, h.1, level_least o)) (λ _. h.1)
      ∙ rw (joins_on o fs a h.0 l h.1)
      (reads b (After o a ∷ fs) r h.5 h.2 (follows_on (level_of o) (phrase_level90 b) r (omega (arith, h.2, least_right o)) k)
      ∙ ends (level_of o) (After o a) fs b r k (level_pos o) (apart o)))
  reads (Values ps) fs r h l k =
      grouped (written_values ps) (words.CloseList ∷ []) r (Wants (Items None ∷ fs))
      ∙ (reads_values ps fs (words.CloseList ∷ r) h tt ∙ ap (λ (q : Phrases90). run r (Has fs (Values q))) (values_front ps))
  reads (Looped t) fs r h l k =
      grouped (written_turn t) (words.CloseList ∷ []) r (Wants (Items None ∷ fs)) ∙ reads_turn t (Items None ∷ fs) (words.CloseList ∷ r) h

  reads_part : (p : ListPart) (x : List ℕ) (ps : Option ListParts) (fs : List Frame) (r : List Word90) → IsPart p → Follows 0 r
      → run (written_part p ++ r) (Wants (Among x ps ∷ fs)) ≡ run r (held_part fs x ps p)
  reads_part (Value p) x ps fs r h k = reads p (Among x ps ∷ fs) r h (omega arith) (follows_on 0 (phrase_level90 p) r (omega arith) k)
  reads_part (Range a b) x ps fs r h k =
      grouped (written90 a) (words.Colon ∷ written90 b) r (Wants (Among x ps ∷ fs))
      ∙ (reads a (Among x ps ∷ fs) (words.Colon ∷ (written90 b ++ r)) h.0 (omega arith) tt
      ∙ reads b (From x ps a ∷ fs) r h.1 (omega arith) (follows_on 0 (phrase_level90 b) r (omega arith) k))
  reads_part (Strided a b c) x ps fs r h k =
      grouped (written90 a) (words.Colon ∷ (written90 b ++ words.Colon ∷ written90 c)) r (Wants (Among x ps ∷ fs))
      ∙ (reads a (Among x ps ∷ fs) (words.Colon ∷ ((written90 b ++ words.Colon ∷ written90 c) ++ r)) h.0 (omega arith) tt
      ∙ (grouped (written90 b) (words.Colon ∷ written90 c) r (Wants (From x ps a ∷ fs))
      ∙ (reads b (From x ps a ∷ fs) (words.Colon ∷ (written90 c ++ r)) h.1 (omega arith) tt
      ∙ reads c (By x ps a b ∷ fs) r h.2 (omega arith) (follows_on 0 (phrase_level90 c) r (omega arith) k))))

  reads_parts : (ps : ListParts) (x : List ℕ) (fs : List Frame) (r : List Word90) → AreParts ps → Follows 0 r
      → run (written_parts ps ++ r) (Wants (Among x None ∷ fs)) ≡ run r (held_part fs x (front ps) (last ps))
  reads_parts (One p) x fs r h k = reads_part p x None fs r h k
  reads_parts (Then ps p) x fs r h k =
      grouped (written_parts ps) (words.Comma ∷ written_part p) r (Wants (Among x None ∷ fs))
      ∙ (reads_parts ps x fs (words.Comma ∷ (written_part p ++ r)) h.0 tt
      ∙ (parts_on fs x (front ps) (last ps) (written_part p ++ r)
      ∙ (ap (λ (q : ListParts). run (written_part p ++ r) (Wants (Among x (Some q) ∷ fs))) (parts_front ps)
      ∙ reads_part p x (Some ps) fs r h.1 k)))

  reads_values : (ps : Phrases90) (fs : List Frame) (r : List Word90) → AreExpressions90 ps → Follows 0 r
      → run (written_values ps ++ r) (Wants (Items None ∷ fs)) ≡ run r (Has (Items (front_values ps) ∷ fs) (last_value ps))
  reads_values (Sole p) fs r h k = reads p (Items None ∷ fs) r h (omega arith) (follows_on 0 (phrase_level90 p) r (omega arith) k)
  reads_values (More ps p) fs r h k =
      grouped (written_values ps) (words.Comma ∷ written90 p) r (Wants (Items None ∷ fs))
      ∙ (reads_values ps fs (words.Comma ∷ (written90 p ++ r)) h.0 tt
      ∙ (ap (λ (q : Phrases90). run (written90 p ++ r) (Wants (Items (Some q) ∷ fs))) (values_front ps)
      ∙ reads p (Items (Some ps) ∷ fs) r h.1 (omega arith) (follows_on 0 (phrase_level90 p) r (omega arith) k)))

  reads_turn : (t : Turn) (fs : List Frame) (r : List Word90) → IsTurn t → run (written_turn t ++ r) (Wants fs) ≡ run r (HasTurn fs t)
  reads_turn (Innermost p x a b) fs r h =
      grouped (written90 p) (words.Comma ∷ (words.Name x ∷ (words.Equals ∷ (written90 a ++ words.Comma ∷ (written90 b ++ words.Close ∷ []))))) r (Wants (Within ∷ fs))
      ∙ (reads p (Within ∷ fs) (words.Comma ∷ (words.Name x ∷ (words.Equals ∷ ((written90 a ++ words.Comma ∷ (written90 b ++ words.Close ∷ [])) ++ r)))) h.0 (omega arith) tt
      ∙ reads_bounds (Of p) x a b fs r (λ gs q l k. reads a gs q h.1 l k) (λ gs q l k. reads b gs q h.2 l k))
  reads_turn (Round t x a b) fs r h =
      grouped (written_turn t) (words.Comma ∷ (words.Name x ∷ (words.Equals ∷ (written90 a ++ words.Comma ∷ (written90 b ++ words.Close ∷ []))))) r (Wants (Within ∷ fs))
      ∙ (reads_turn t (Within ∷ fs) (words.Comma ∷ (words.Name x ∷ (words.Equals ∷ ((written90 a ++ words.Comma ∷ (written90 b ++ words.Close ∷ [])) ++ r)))) h.0
      ∙ reads_bounds (Nested t) x a b fs r (λ gs q l k. reads a gs q h.1 l k) (λ gs q l k. reads b gs q h.2 l k))
