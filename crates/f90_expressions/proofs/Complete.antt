-- Every expression is read.
use Rattle.std.proofs.Common.{arith, ◌≡◌, ◌<◌, ◌≤◌, ℕ, ◌+◌, List, [], ◌∷◌, ◌++◌, refl, sym, ap, ◌∙◌, Bool, true, false, ◌&&◌, IsTrue, append_assoc, ◌⊎◌, inl, inr, max}
use mathlib.Core.Path.{ap₂}
use Rattle.std.proofs.lemmas.Bool.{cond-true, le-leb}
use Rattle.std.specs.Prelude.{nat_le}
use Rattle.tree.specs.declared.ops.Op.{Op}
use Rattle.tree.specs.declared.ops.Op.TheVariants.{Pow}
use Rattle.tree.specs.OperatorTable.{Sign, Plus, Minus, Negation, level_of, left_least, right_least, stands_between, sign_level}
use Rattle.f90_grammar.specs.Words.{Word90}
use Rattle.f90_grammar.specs.Words as words
use Rattle.f90_grammar.specs.Phrases as phrases
use Rattle.f90_grammar.specs.Phrases.{Phrase90, ListPart, Value, Range, Strided, ListParts, Phrases90, Turn, phrase_level90, phrase_depth90, begins_with_sign90, written90, written_part, written_parts, written_values, written_turn, IsExpression90, IsPart, AreParts, AreExpressions90, IsTurn, depth_of_part, depth_of_parts, depth_of_values, depth_of_turn}
use Rattle.reading.specs.Signs.{sign_word}
use Rattle.f90_laws.specs.unique.Unique.{EndsExpression}
use Rattle.f90_expressions.specs.Flat as flats
use Rattle.f90_expressions.specs.Flat.{Node, flat, flat_part, flat_parts, flat_values, flat_turn, placed, placed_part, placed_parts, placed_values, placed_turn}
use Rattle.f90_expressions.specs.Machine.{Info, info, counted, deeper, info_of, signed, joined, enclosed, Frame, Before, After, Within, Among, From, By, Items, First, Last, State, Wants, Has, HasTurn, Step, Go, run, went, begin, go_on, close, halted, least, frame_least, join, into, emitted, answer, turn_node}
use Rattle.f90_expressions.proofs.Stacks.{stays, closes}

-- ---- what is known of a phrase

info_same : (l k d e : ℕ) (s t g h : Bool) → l ≡ k → d ≡ e → s ≡ t → g ≡ h → info l d s g ≡ info k e t h
info_same l k d e s t g h a b c f = rw (a, b, c, f) refl

counted_deeper : (n : ℕ) → counted (n + 1) ≡ deeper (counted n)
counted_deeper n = omega arith

pub counted_max : (m n : ℕ) → counted (max m n) ≡ max (counted m) (counted n)
counted_max m n = omega arith

pub signed_is : (s : Sign) (p : Phrase90) → signed s (info_of p) ≡ info_of (phrases.Signed s p)
signed_is Plus p = info_same 7 7 _ _ true true _ _ refl (omega arith) refl refl
signed_is Minus p = info_same 7 7 _ _ true true _ _ refl (sym (counted_deeper (phrase_depth90 p))) refl refl
signed_is Negation p = info_same 5 5 _ _ false false _ _ refl (sym (counted_deeper (phrase_depth90 p))) refl refl

pub joined_is : (o : Op) (a b : Phrase90) → joined o (info_of a) (info_of b) ≡ info_of (phrases.Joined o a b)
joined_is o a b =
    info_same (level_of o) (level_of o) _ _ _ _ _ _ refl
    (ap deeper (sym (counted_max (phrase_depth90 a) (phrase_depth90 b))) ∙ sym (counted_deeper (max (phrase_depth90 a) (phrase_depth90 b)))) refl refl

pub enclosed_is : (n : ℕ) (g : Bool) → enclosed (counted n) g ≡ info 10 (counted (n + 1)) false g
enclosed_is n g = info_same 10 10 _ _ false false g g refl (sym (counted_deeper n)) refl refl

-- ---- levels

-- what follows doesn't go on where an operand of this level stands
abbrev pub Follows : ℕ → List Word90 → Type 0
Follows n (words.Operator o ∷ ws) = IsTrue (stands_between o) → left_least o ≤ n
Follows n ws = Unit {0}

level_least : (p : Op) → level_of p ≤ left_least p
level_least Pow = omega arith
level_least p = omega arith

below_pow : (p : Op) → left_least p ≤ 9 → level_of p < 9
below_pow Pow h = absurd (omega arith)
below_pow p h = omega arith

apart : (o p : Op) → left_least p ≤ level_of o → level_of p < right_least o
apart Pow p h = below_pow p h
apart o p h = omega (arith, level_least p)

least_right : (o : Op) → level_of o ≤ right_least o
least_right Pow = omega arith
least_right o = omega arith

follows_on : (m n : ℕ) (r : List Word90) → m ≤ n → Follows m r → Follows n r
follows_on m n [] l h = tt
follows_on m n (words.Operator p ∷ r) l h = λ j. let k : left_least p ≤ m = h j in omega arith
follows_on m n (t ∷ r) l h = tt

level_pos : (o : Op) → 0 < right_least o
level_pos Pow = omega arith
level_pos o = omega arith

told : (b : Bool) → (IsTrue b) ⊎ (b ≡ false)
told true = inl refl
told false = inr refl

-- ---- steps

joins_on : (o : Op) (fs : List Frame) (a : Info) (ns : List Node) → IsTrue (stands_between o) → least fs ≤ level_of o → left_least o ≤ a.level
    → go_on fs a (words.Operator o) ns ≡ Go (Wants (After o a ∷ fs)) ns
joins_on o fs a ns j l h =
    cond-true (stands_between o) (join o (close (level_of o) fs a ns)) (halted (close 0 fs a ns)) j
    ∙ (ap (join o) (stays (level_of o) fs a ns l) ∙ cond-true (nat_le (left_least o) a.level) _ _ (le-leb (left_least o) a.level h))

ends : (n : ℕ) (f : Frame) (fs : List Frame) (b : Info) (ns : List Node) (r : List Word90) → Follows n r → 0 < frame_least f
    → ((p : Op) → left_least p ≤ n → level_of p < frame_least f) → run r (Has (f ∷ fs) b) ns ≡ run r (Has fs (into f b)) (ns ++ emitted f)
ends n f fs b ns [] h z a = rw (closes 0 f fs b ns z) refl
ends n f fs b ns (words.Operator p ∷ r) h z a = ap (λ (s : Step). went s (words.Operator p) r (run r))
    (elim (told (stands_between p)) [
      | inl j ↦ rw j (ap (join p) (closes (level_of p) f fs b ns (a p (h j))))
      | inr e ↦ rw e (ap halted (closes 0 f fs b ns z))
    ])
ends n f fs b ns (words.Close ∷ r) h z a = rw (closes 0 f fs b ns z) refl
ends n f fs b ns (words.CloseList ∷ r) h z a = rw (closes 0 f fs b ns z) refl
ends n f fs b ns (words.Comma ∷ r) h z a = rw (closes 0 f fs b ns z) refl
ends n f fs b ns (words.Equals ∷ r) h z a = rw (closes 0 f fs b ns z) refl
ends n f fs b ns (words.Colon ∷ r) h z a = rw (closes 0 f fs b ns z) refl
ends n f fs b ns (t ∷ r) h z a = rw (closes 0 f fs b ns z) refl

sign_starts : (s : Sign) (fs : List Frame) (ns : List Node) → least fs ≤ sign_level s
    → begin fs (words.Operator (sign_word s)) ns ≡ Go (Wants (Before s ∷ fs)) ns
sign_starts Plus fs ns h = cond-true (nat_le (least fs) 7) _ _ (le-leb (least fs) 7 h)
sign_starts Minus fs ns h = cond-true (nat_le (least fs) 7) _ _ (le-leb (least fs) 7 h)
sign_starts Negation fs ns h = cond-true (nat_le (least fs) 5) _ _ (le-leb (least fs) 5 h)

grouped : (a b r : List Word90) (s : State) (ns : List Node) → run ((a ++ b) ++ r) s ns ≡ run (a ++ (b ++ r)) s ns
grouped a b r s ns = ap (λ (q : List Word90). run q s ns) (append_assoc a b r)

-- nodes in other groups
regrouped : (r : List Word90) (s : State) (ns ms : List Node) → ns ≡ ms → run r s ns ≡ run r s ms
regrouped r s ns ms e = ap (run r s) e

has_info : (r : List Word90) (fs : List Frame) (m k : Info) (ns ms : List Node) → m ≡ k → ns ≡ ms → run r (Has fs m) ns ≡ run r (Has fs k) ms
has_info r fs m k ns ms e f = ap₂ (λ (x : Info) (us : List Node). run r (Has fs x) us) e f

-- ---- lists, up to their last part: depth and signs of the parts before it

abbrev front_depth : ListParts → ℕ
front_depth (phrases.One p) = 0
front_depth (phrases.Then ps p) = depth_of_parts ps

abbrev front_placed : ListParts → Bool
front_placed (phrases.One p) = true
front_placed (phrases.Then ps p) = placed_parts ps

abbrev front_flat : ListParts → List Node
front_flat (phrases.One p) = []
front_flat (phrases.Then ps p) = flat_parts ps

abbrev last : ListParts → ListPart
last (phrases.One p) = p
last (phrases.Then ps p) = p

abbrev part_node : ListPart → Node
part_node (Value p) = flats.One
part_node (Range a b) = flats.Bounds
part_node (Strided a b c) = flats.Stride

-- what stands before it
abbrev unmarked : ListPart → List Node
unmarked (Value p) = flat p
unmarked (Range a b) = flat a ++ flat b
unmarked (Strided a b c) = flat a ++ (flat b ++ flat c)

marked : (p : ListPart) → unmarked p ++ part_node p ∷ [] ≡ flat_part p
marked (Value p) = refl
marked (Range a b) = append_assoc (flat a) (flat b) (flats.Bounds ∷ [])
marked (Strided a b c) =
    append_assoc (flat a) (flat b ++ flat c) (flats.Stride ∷ []) ∙ ap (λ (ns : List Node). flat a ++ ns) (append_assoc (flat b) (flat c) (flats.Stride ∷ []))

parts_depth : (ps : ListParts) → max (counted (front_depth ps)) (counted (depth_of_part (last ps))) ≡ counted (depth_of_parts ps)
parts_depth (phrases.One p) = omega arith
parts_depth (phrases.Then ps p) = sym (counted_max (depth_of_parts ps) (depth_of_part p))

parts_placed : (ps : ListParts) → (front_placed ps && placed_part (last ps)) ≡ placed_parts ps
parts_placed (phrases.One p) = refl
parts_placed (phrases.Then ps p) = refl

parts_flat : (ps : ListParts) → front_flat ps ++ (unmarked (last ps) ++ part_node (last ps) ∷ []) ≡ flat_parts ps
parts_flat (phrases.One p) = marked p
parts_flat (phrases.Then ps p) = ap (λ (ns : List Node). flat_parts ps ++ ns) (marked p)

and_assoc : (a b c : Bool) → ((a && b) && c) ≡ (a && (b && c))
and_assoc true b c = refl
and_assoc false b c = refl

-- a part that is read but for what ends it
abbrev held_part : List Frame → List ℕ → ℕ → Bool → ListPart → State
held_part fs x d g (Value p) = Has (Among x d g ∷ fs) (info_of p)
held_part fs x d g (Range a b) = Has (From x (max d (counted (phrase_depth90 a))) (g && placed a) ∷ fs) (info_of b)
held_part fs x d g (Strided a b c) =
    Has (By x (max (max d (counted (phrase_depth90 a))) (counted (phrase_depth90 b))) ((g && placed a) && placed b) ∷ fs) (info_of c)

abbrev with_depth : ℕ → ListPart → ℕ
with_depth d p = max d (counted (depth_of_part p))

range_depth : (d : ℕ) (a b : Phrase90) → max (max d (counted (phrase_depth90 a))) (counted (phrase_depth90 b)) ≡ with_depth d (Range a b)
range_depth d a b = omega arith

strided_depth : (d : ℕ) (a b c : Phrase90) → max (max (max d (counted (phrase_depth90 a))) (counted (phrase_depth90 b))) (counted (phrase_depth90 c)) ≡ with_depth d (Strided a b c)
strided_depth d a b c = omega arith

strided_placed : (g a b c : Bool) → (((g && a) && b) && c) ≡ (g && ((a && b) && c))
strided_placed true a b c = refl
strided_placed false a b c = refl

shuts : (fs : List Frame) (x : List ℕ) (d : ℕ) (g : Bool) (p : ListPart) (r : List Word90) (ns : List Node)
    → run (words.Close ∷ r) (held_part fs x d g p) ns
    ≡ run r (Has fs (enclosed (with_depth d p) (g && placed_part p))) (ns ++ part_node p ∷ flats.Listed x ∷ [])
shuts fs x d g (Value p) r ns = refl
shuts fs x d g (Range a b) r ns =
    ap₂ (λ (e : ℕ) (h : Bool). run r (Has fs (enclosed e h)) (ns ++ flats.Bounds ∷ flats.Listed x ∷ [])) (range_depth d a b) (and_assoc g (placed a) (placed b))
shuts fs x d g (Strided a b c) r ns =
    ap₂ (λ (e : ℕ) (h : Bool). run r (Has fs (enclosed e h)) (ns ++ flats.Stride ∷ flats.Listed x ∷ [])) (strided_depth d a b c)
    (strided_placed g (placed a) (placed b) (placed c))

parts_on : (fs : List Frame) (x : List ℕ) (d : ℕ) (g : Bool) (p : ListPart) (r : List Word90) (ns : List Node)
    → run (words.Comma ∷ r) (held_part fs x d g p) ns
    ≡ run r (Wants (Among x (with_depth d p) (g && placed_part p) ∷ fs)) (ns ++ part_node p ∷ [])
parts_on fs x d g (Value p) r ns = refl
parts_on fs x d g (Range a b) r ns =
    ap₂ (λ (e : ℕ) (h : Bool). run r (Wants (Among x e h ∷ fs)) (ns ++ flats.Bounds ∷ [])) (range_depth d a b) (and_assoc g (placed a) (placed b))
parts_on fs x d g (Strided a b c) r ns =
    ap₂ (λ (e : ℕ) (h : Bool). run r (Wants (Among x e h ∷ fs)) (ns ++ flats.Stride ∷ [])) (strided_depth d a b c)
    (strided_placed g (placed a) (placed b) (placed c))

-- ---- values of a constructor

abbrev some_before : Phrases90 → Bool
some_before (phrases.Sole p) = false
some_before (phrases.More ps p) = true

abbrev values_depth : Phrases90 → ℕ
values_depth (phrases.Sole p) = 0
values_depth (phrases.More ps p) = depth_of_values ps

abbrev values_placed : Phrases90 → Bool
values_placed (phrases.Sole p) = true
values_placed (phrases.More ps p) = placed_values ps

abbrev values_flat : Phrases90 → List Node
values_flat (phrases.Sole p) = []
values_flat (phrases.More ps p) = flat_values ps

abbrev last_value : Phrases90 → Phrase90
last_value (phrases.Sole p) = p
last_value (phrases.More ps p) = p

all_depth : (ps : Phrases90) → max (counted (values_depth ps)) (counted (phrase_depth90 (last_value ps))) ≡ counted (depth_of_values ps)
all_depth (phrases.Sole p) = omega arith
all_depth (phrases.More ps p) = sym (counted_max (depth_of_values ps) (phrase_depth90 p))

all_placed : (ps : Phrases90) → (values_placed ps && placed (last_value ps)) ≡ placed_values ps
all_placed (phrases.Sole p) = refl
all_placed (phrases.More ps p) = refl

all_flat : (ps : Phrases90) → values_flat ps ++ flat (last_value ps) ≡ flat_values ps
all_flat (phrases.Sole p) = refl
all_flat (phrases.More ps p) = refl

-- ---- turns

-- a phrase is read wherever it may stand
abbrev IsRead : Phrase90 → Type 0
IsRead p = (fs : List Frame) (r : List Word90) (ns : List Node) → least fs ≤ phrase_level90 p → Follows (phrase_level90 p) r
    → run (written90 p ++ r) (Wants fs) ns ≡ run r (Has fs (info_of p)) (ns ++ flat p)

bounds_nodes : (ns a b : List Node) (n : Node) → ((ns ++ a) ++ b) ++ n ∷ [] ≡ ns ++ (a ++ (b ++ n ∷ []))
bounds_nodes ns a b n = simp append_assoc

reads_bounds : (k : Bool) (x : List ℕ) (d : ℕ) (g : Bool) (a b : Phrase90) (fs : List Frame) (r : List Word90) (ns : List Node) → IsRead a → IsRead b
    → run ((written90 a ++ words.Comma ∷ (written90 b ++ words.Close ∷ [])) ++ r) (Wants (First k x d g ∷ fs)) ns
    ≡ run r (HasTurn fs (deeper (max (max d (counted (phrase_depth90 a))) (counted (phrase_depth90 b)))) ((g && placed a) && placed b))
    (ns ++ (flat a ++ (flat b ++ turn_node k x ∷ [])))
reads_bounds k x d g a b fs r ns ra rb =
    grouped (written90 a) (words.Comma ∷ (written90 b ++ words.Close ∷ [])) r (Wants (First k x d g ∷ fs)) ns
    ∙ (ra (First k x d g ∷ fs) (words.Comma ∷ ((written90 b ++ words.Close ∷ []) ++ r)) ns (omega arith) tt
    ∙ (grouped (written90 b) (words.Close ∷ []) r (Wants (Last k x (max d (counted (phrase_depth90 a))) (g && placed a) ∷ fs)) (ns ++ flat a)
    ∙ (rb (Last k x (max d (counted (phrase_depth90 a))) (g && placed a) ∷ fs) (words.Close ∷ r) (ns ++ flat a) (omega arith) tt
    ∙ regrouped r (HasTurn fs (deeper (max (max d (counted (phrase_depth90 a))) (counted (phrase_depth90 b)))) ((g && placed a) && placed b))
    _ _ (bounds_nodes ns (flat a) (flat b) (turn_node k x)))))

has_turn : (r : List Word90) (fs : List Frame) (d e : ℕ) (g : Bool) (ns ms : List Node) → d ≡ e → ns ≡ ms
    → run r (HasTurn fs d g) ns ≡ run r (HasTurn fs e g) ms
has_turn r fs d e g ns ms a b = ap₂ (λ (x : ℕ) (us : List Node). run r (HasTurn fs x g) us) a b

turn_depth : (m a b : ℕ) → deeper (max (max (counted m) (counted a)) (counted b)) ≡ counted (max m (max a b) + 1)
turn_depth m a b = omega arith

turn_nodes : (ns t a b : List Node) (n : Node) → (ns ++ t) ++ (a ++ (b ++ n ∷ [])) ≡ ns ++ (t ++ (a ++ (b ++ n ∷ [])))
turn_nodes ns t a b n = append_assoc ns t (a ++ (b ++ n ∷ []))

listed_nodes : (ns f u : List Node) (b p l : Node) → ((ns ++ b ∷ []) ++ (f ++ u)) ++ p ∷ l ∷ [] ≡ ns ++ (b ∷ ((f ++ (u ++ p ∷ [])) ++ l ∷ []))
listed_nodes ns f u b p l = simp append_assoc

part_nodes : (ns f u : List Node) (p : Node) → (ns ++ (f ++ u)) ++ p ∷ [] ≡ ns ++ (f ++ (u ++ p ∷ []))
part_nodes ns f u p = simp append_assoc

three_nodes : (ns a b c : List Node) → ((ns ++ a) ++ b) ++ c ≡ ns ++ (a ++ (b ++ c))
three_nodes ns a b c = simp append_assoc

values_nodes : (ns f u : List Node) (b v : Node) → ((ns ++ b ∷ []) ++ (f ++ u)) ++ v ∷ [] ≡ ns ++ (b ∷ ((f ++ u) ++ v ∷ []))
values_nodes ns f u b v = simp append_assoc

mutual
  pub reads : (p : Phrase90) (fs : List Frame) (r : List Word90) (ns : List Node) → IsExpression90 p → least fs ≤ phrase_level90 p → Follows (phrase_level90 p) r
      → run (written90 p ++ r) (Wants fs) ns ≡ run r (Has fs (info_of p)) (ns ++ flat p)
  reads (phrases.Literal t) fs r ns h l k = refl
  reads (phrases.Truth b) fs r ns h l k = refl
  reads (phrases.Name x) fs r ns h l k = refl
  reads (phrases.Listed x ps) fs r ns h l k =
      grouped (written_parts ps) (words.Close ∷ []) r (Wants (Among x 0 true ∷ fs)) (ns ++ flats.Begin ∷ [])
      ∙ (reads_parts ps x fs (words.Close ∷ r) (ns ++ flats.Begin ∷ []) h tt
      ∙ (shuts fs x (counted (front_depth ps)) (front_placed ps) (last ps) r ((ns ++ flats.Begin ∷ []) ++ (front_flat ps ++ unmarked (last ps)))
      ∙ has_info r fs _ _ _ _
      (ap₂ enclosed (parts_depth ps) (parts_placed ps) ∙ enclosed_is (depth_of_parts ps) (placed_parts ps))
      (listed_nodes ns (front_flat ps) (unmarked (last ps)) flats.Begin (part_node (last ps)) (flats.Listed x)
      ∙ ap (λ (us : List Node). ns ++ (flats.Begin ∷ (us ++ flats.Listed x ∷ []))) (parts_flat ps))))
  reads (phrases.Paren p) fs r ns h l k =
      grouped (written90 p) (words.Close ∷ []) r (Wants (Within ∷ fs)) ns
      ∙ (reads p (Within ∷ fs) (words.Close ∷ r) ns h (omega arith) tt
      ∙ has_info r fs _ _ _ _ (enclosed_is (phrase_depth90 p) (placed p)) (append_assoc ns (flat p) (flats.Parenthesis ∷ [])))
  reads (phrases.Signed s p) fs r ns h l k =
      rw (sign_starts s fs ns l)
      (reads p (Before s ∷ fs) r ns h.2 h.0 (follows_on (sign_level s) (phrase_level90 p) r (omega (arith, h.0)) k)
      ∙ (ends (sign_level s) (Before s) fs (info_of p) (ns ++ flat p) r k (omega arith) (λ q e. omega (arith, level_least q))
      ∙ has_info r fs _ _ _ _ (signed_is s p) (append_assoc ns (flat p) (flats.Prefix s ∷ []))))
  reads (phrases.Joined o a b) fs r ns h l k =
      grouped (written90 a) (words.Operator o ∷ written90 b) r (Wants fs) ns
      ∙ (reads a fs (words.Operator o ∷ (written90 b ++ r)) ns h.4 (omega (arith, h.1, level_least o)) (λ _. h.1)
      ∙ rw (joins_on o fs (info_of a) (ns ++ flat a) h.0 l h.1)
      (reads b (After o (info_of a) ∷ fs) r (ns ++ flat a) h.5 h.2 (follows_on (level_of o) (phrase_level90 b) r (omega (arith, h.2, least_right o)) k)
      ∙ (ends (level_of o) (After o (info_of a)) fs (info_of b) ((ns ++ flat a) ++ flat b) r k (level_pos o) (apart o)
      ∙ has_info r fs _ _ _ _ (joined_is o a b) (bounds_nodes ns (flat a) (flat b) (flats.Infix o)))))
  reads (phrases.Values ps) fs r ns h l k =
      grouped (written_values ps) (words.CloseList ∷ []) r (Wants (Items false 0 true ∷ fs)) (ns ++ flats.Begin ∷ [])
      ∙ (reads_values ps fs (words.CloseList ∷ r) (ns ++ flats.Begin ∷ []) h tt
      ∙ has_info r fs _ _ _ _
      (ap₂ enclosed (all_depth ps) (all_placed ps) ∙ enclosed_is (depth_of_values ps) (placed_values ps))
      (values_nodes ns (values_flat ps) (flat (last_value ps)) flats.Begin flats.Values
      ∙ ap (λ (us : List Node). ns ++ (flats.Begin ∷ (us ++ flats.Values ∷ []))) (all_flat ps)))
  reads (phrases.Looped t) fs r ns h l k =
      grouped (written_turn t) (words.CloseList ∷ []) r (Wants (Items false 0 true ∷ fs)) (ns ++ flats.Begin ∷ [])
      ∙ (reads_turn t (Items false 0 true ∷ fs) (words.CloseList ∷ r) (ns ++ flats.Begin ∷ []) h
      ∙ has_info r fs _ _ _ _ (enclosed_is (depth_of_turn t) (placed_turn t)) (values_nodes ns [] (flat_turn t) flats.Begin flats.Looped))

  reads_part : (p : ListPart) (x : List ℕ) (d : ℕ) (g : Bool) (fs : List Frame) (r : List Word90) (ns : List Node) → IsPart p → Follows 0 r
      → run (written_part p ++ r) (Wants (Among x d g ∷ fs)) ns ≡ run r (held_part fs x d g p) (ns ++ unmarked p)
  reads_part (Value p) x d g fs r ns h k = reads p (Among x d g ∷ fs) r ns h (omega arith) (follows_on 0 (phrase_level90 p) r (omega arith) k)
  reads_part (Range a b) x d g fs r ns h k =
      grouped (written90 a) (words.Colon ∷ written90 b) r (Wants (Among x d g ∷ fs)) ns
      ∙ (reads a (Among x d g ∷ fs) (words.Colon ∷ (written90 b ++ r)) ns h.0 (omega arith) tt
      ∙ (reads b (From x (max d (counted (phrase_depth90 a))) (g && placed a) ∷ fs) r (ns ++ flat a) h.1 (omega arith) (follows_on 0 (phrase_level90 b) r (omega arith) k)
      ∙ regrouped r (held_part fs x d g (Range a b)) _ _ (append_assoc ns (flat a) (flat b))))
  reads_part (Strided a b c) x d g fs r ns h k =
      grouped (written90 a) (words.Colon ∷ (written90 b ++ words.Colon ∷ written90 c)) r (Wants (Among x d g ∷ fs)) ns
      ∙ (reads a (Among x d g ∷ fs) (words.Colon ∷ ((written90 b ++ words.Colon ∷ written90 c) ++ r)) ns h.0 (omega arith) tt
      ∙ (grouped (written90 b) (words.Colon ∷ written90 c) r (Wants (From x (max d (counted (phrase_depth90 a))) (g && placed a) ∷ fs)) (ns ++ flat a)
      ∙ (reads b (From x (max d (counted (phrase_depth90 a))) (g && placed a) ∷ fs) (words.Colon ∷ (written90 c ++ r)) (ns ++ flat a) h.1 (omega arith) tt
      ∙ (reads c (By x (max (max d (counted (phrase_depth90 a))) (counted (phrase_depth90 b))) ((g && placed a) && placed b) ∷ fs) r ((ns ++ flat a) ++ flat b) h.2 (omega arith)
      (follows_on 0 (phrase_level90 c) r (omega arith) k)
      ∙ regrouped r (held_part fs x d g (Strided a b c)) _ _ (three_nodes ns (flat a) (flat b) (flat c))))))

  reads_parts : (ps : ListParts) (x : List ℕ) (fs : List Frame) (r : List Word90) (ns : List Node) → AreParts ps → Follows 0 r
      → run (written_parts ps ++ r) (Wants (Among x 0 true ∷ fs)) ns
      ≡ run r (held_part fs x (counted (front_depth ps)) (front_placed ps) (last ps)) (ns ++ (front_flat ps ++ unmarked (last ps)))
  reads_parts (phrases.One p) x fs r ns h k = reads_part p x 0 true fs r ns h k
  reads_parts (phrases.Then ps p) x fs r ns h k =
      let front = ns ++ (front_flat ps ++ unmarked (last ps)) in
      grouped (written_parts ps) (words.Comma ∷ written_part p) r (Wants (Among x 0 true ∷ fs)) ns
      ∙ (reads_parts ps x fs (words.Comma ∷ (written_part p ++ r)) ns h.0 tt
      ∙ (parts_on fs x (counted (front_depth ps)) (front_placed ps) (last ps) (written_part p ++ r) front
      ∙ (among_info (written_part p ++ r) x fs _ _ _ _ _ _ (parts_depth ps) (parts_placed ps)
      (part_nodes ns (front_flat ps) (unmarked (last ps)) (part_node (last ps)) ∙ ap (λ (us : List Node). ns ++ us) (parts_flat ps))
      ∙ (reads_part p x (counted (depth_of_parts ps)) (placed_parts ps) fs r (ns ++ flat_parts ps) h.1 k
      ∙ regrouped r (held_part fs x (counted (depth_of_parts ps)) (placed_parts ps) p) _ _ (append_assoc ns (flat_parts ps) (unmarked p))))))
    where
      among_info : (q : List Word90) (x : List ℕ) (fs : List Frame) (d e : ℕ) (g h : Bool) (us vs : List Node) → d ≡ e → g ≡ h → us ≡ vs
          → run q (Wants (Among x d g ∷ fs)) us ≡ run q (Wants (Among x e h ∷ fs)) vs
      among_info q x fs d e g h us vs a b c = rw (a, b, c) refl

  reads_values : (ps : Phrases90) (fs : List Frame) (r : List Word90) (ns : List Node) → AreExpressions90 ps → Follows 0 r
      → run (written_values ps ++ r) (Wants (Items false 0 true ∷ fs)) ns
      ≡ run r (Has (Items (some_before ps) (counted (values_depth ps)) (values_placed ps) ∷ fs) (info_of (last_value ps)))
      (ns ++ (values_flat ps ++ flat (last_value ps)))
  reads_values (phrases.Sole p) fs r ns h k = reads p (Items false 0 true ∷ fs) r ns h (omega arith) (follows_on 0 (phrase_level90 p) r (omega arith) k)
  reads_values (phrases.More ps p) fs r ns h k =
      grouped (written_values ps) (words.Comma ∷ written90 p) r (Wants (Items false 0 true ∷ fs)) ns
      ∙ (reads_values ps fs (words.Comma ∷ (written90 p ++ r)) ns h.0 tt
      ∙ (items_info (written90 p ++ r) fs _ _ _ _ _ _ (all_depth ps) (all_placed ps) (ap (λ (us : List Node). ns ++ us) (all_flat ps))
      ∙ (reads p (Items true (counted (depth_of_values ps)) (placed_values ps) ∷ fs) r (ns ++ flat_values ps) h.1 (omega arith)
      (follows_on 0 (phrase_level90 p) r (omega arith) k)
      ∙ regrouped r (Has (Items true (counted (depth_of_values ps)) (placed_values ps) ∷ fs) (info_of p)) _ _ (append_assoc ns (flat_values ps) (flat p)))))
    where
      items_info : (q : List Word90) (fs : List Frame) (d e : ℕ) (g h : Bool) (us vs : List Node) → d ≡ e → g ≡ h → us ≡ vs
          → run q (Wants (Items true d g ∷ fs)) us ≡ run q (Wants (Items true e h ∷ fs)) vs
      items_info q fs d e g h us vs a b c = rw (a, b, c) refl

  reads_turn : (t : Turn) (fs : List Frame) (r : List Word90) (ns : List Node) → IsTurn t
      → run (written_turn t ++ r) (Wants fs) ns ≡ run r (HasTurn fs (counted (depth_of_turn t)) (placed_turn t)) (ns ++ flat_turn t)
  reads_turn (phrases.Innermost p x a b) fs r ns h =
      grouped (written90 p) (words.Comma ∷ (words.Name x ∷ (words.Equals ∷ (written90 a ++ words.Comma ∷ (written90 b ++ words.Close ∷ []))))) r (Wants (Within ∷ fs)) ns
      ∙ (reads p (Within ∷ fs) (words.Comma ∷ (words.Name x ∷ (words.Equals ∷ ((written90 a ++ words.Comma ∷ (written90 b ++ words.Close ∷ [])) ++ r)))) ns h.0 (omega arith) tt
      ∙ (reads_bounds false x (counted (phrase_depth90 p)) (placed p) a b fs r (ns ++ flat p) (λ gs q us l k. reads a gs q us h.1 l k) (λ gs q us l k. reads b gs q us h.2 l k)
      ∙ has_turn r fs _ _ _ _ _ (turn_depth (phrase_depth90 p) (phrase_depth90 a) (phrase_depth90 b)) (turn_nodes ns (flat p) (flat a) (flat b) (flats.Inner x))))
  reads_turn (phrases.Round t x a b) fs r ns h =
      grouped (written_turn t) (words.Comma ∷ (words.Name x ∷ (words.Equals ∷ (written90 a ++ words.Comma ∷ (written90 b ++ words.Close ∷ []))))) r (Wants (Within ∷ fs)) ns
      ∙ (reads_turn t (Within ∷ fs) (words.Comma ∷ (words.Name x ∷ (words.Equals ∷ ((written90 a ++ words.Comma ∷ (written90 b ++ words.Close ∷ [])) ++ r)))) ns h.0
      ∙ (reads_bounds true x (counted (depth_of_turn t)) (placed_turn t) a b fs r (ns ++ flat_turn t) (λ gs q us l k. reads a gs q us h.1 l k)
      (λ gs q us l k. reads b gs q us h.2 l k)
      ∙ has_turn r fs _ _ _ _ _ (turn_depth (depth_of_turn t) (phrase_depth90 a) (phrase_depth90 b)) (turn_nodes ns (flat_turn t) (flat a) (flat b) (flats.Outer x))))

-- ---- a whole expression

ends_follow : (n : ℕ) (r : List Word90) → EndsExpression r → Follows n r
ends_follow n [] h = tt
ends_follow n (words.Operator o ∷ ws) h = λ j. absurd (cc)
ends_follow n (w ∷ ws) h = tt

stops : (m : Info) (r : List Word90) (ns : List Node) → EndsExpression r → run r (Has [] m) ns ≡ answer m ns r
stops m [] ns h = refl
stops m (words.Operator o ∷ ws) ns h = rw h refl
stops m (w ∷ ws) ns h = refl

pub is_run : (p : Phrase90) (r : List Word90) (ns : List Node) → IsExpression90 p → EndsExpression r
    → run (written90 p ++ r) (Wants []) ns ≡ answer (info_of p) (ns ++ flat p) r
is_run p r ns h e = reads p [] r ns h (omega arith) (ends_follow (phrase_level90 p) r e) ∙ stops (info_of p) r (ns ++ flat p) e
