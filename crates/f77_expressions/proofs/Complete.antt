-- Every expression is read.
use Rattle.std.proofs.Common.{arith, ◌≡◌, ◌<◌, ◌≤◌, ℕ, List, [], ◌∷◌, ◌++◌, max, min, refl, ap, ◌∙◌, Bool, true, false, IsTrue, append_assoc, ◌⊎◌, inl, inr}
use Rattle.std.proofs.lemmas.Bool.Decides.{nat_tests}
use Rattle.std.specs.Prelude.{Some, ◌&&◌}
use Rattle.tree.specs.declared.ops.Op.{Op}
use Rattle.tree.specs.declared.ops.Op.TheVariants.{Pow}
use Rattle.tree.specs.Plain.{Expression, Subscript, Only}
use Rattle.f77_grammar.specs.expressions.Words.{Word77}
use Rattle.f77_grammar.specs.expressions.Words as words
use Rattle.tree.specs.OperatorTable.{Sign, Plus, Minus, Negation, level_of, left_least, right_least, stands_between, sign_level}
use Rattle.f77_grammar.specs.expressions.Phrases.{Phrase77, Phrases77, phrase_level77, phrase_depth77, depths, tree77_of, trees77_of, begins_with_sign77, written77, written_list, IsExpression77, Literal, WideLiteral, Truth, Name, Listed, Paren, Signed, Joined, One, Then}
use Rattle.reading.specs.Signs.{sign_word}
use Rattle.f77_expressions.proofs.Placing.{IsGrouped, AreGrouped, is_placed, are_placed, is_grouped, signs_placed}
use Rattle.f77_expressions.specs.Reading.{Ends}
use Rattle.f77_expressions.specs.Reader.{Operand, Frame, State, Wants, Has, Step, run, went, begin, go_on, close, least, frame_least, join, Before, After, Within, Among, joined_operand, signed_operand, into, Go, Held, listed_operand, paren_operand, checked, read}

abbrev pub operand_of : Phrase77 → Operand
operand_of p = record { level = phrase_level77 p; depth = min (phrase_depth77 p) 401; begins_with_sign = begins_with_sign77 p; placed = is_placed p; tree = tree77_of p }

-- what follows doesn't go on where an begin of this level stands
abbrev pub Follows : ℕ → List Word77 → Type 0
Follows n (words.Operator o ∷ ts) = IsTrue (stands_between o) → left_least o ≤ n
Follows n ts = Unit {0}

level_least : (p : Op) → level_of p ≤ left_least p
level_least Pow = omega arith
level_least p = omega arith

below_pow : (p : Op) → left_least p ≤ 9 → level_of p < 9
below_pow Pow h = absurd (omega arith)
below_pow p h = omega arith

-- an go_on that may stand behind another doesn't take its right begin
pub apart : (o p : Op) → left_least p ≤ level_of o → level_of p < right_least o
apart Pow p h = below_pow p h
apart o p h = omega (arith, level_least p)

least_right : (o : Op) → level_of o ≤ right_least o
least_right Pow = omega arith
least_right o = omega arith

pub stays : (n : ℕ) (fs : List Frame) (m : Operand) → least fs ≤ n → close n fs m ≡ record { frames = fs; operand = m }
stays n [] m h = refl
stays n (f ∷ fs) m h = grind (arith, nat_tests)

-- an go_on that is applied where one more is due is applied by what follows
pub closes : (n : ℕ) (f : Frame) (fs : List Frame) (m : Operand) → n < frame_least f → close n (f ∷ fs) m ≡ close n fs (into f m)
closes n f fs m h = grind (arith, nat_tests)

pub joins_on : (o : Op) (fs : List Frame) (a : Operand) → IsTrue (stands_between o) → least fs ≤ level_of o → left_least o ≤ a.level
    → go_on fs a (words.Operator o) ≡ Go (Wants (After o a ∷ fs))
joins_on o fs a j l h = rw (stays (level_of o) fs a l) (grind (arith, nat_tests))

told : (b : Bool) → (IsTrue b) ⊎ (b ≡ false)
told true = inl refl
told false = inr refl

joins_not : (p : Op) (h g : Held) → stands_between p ≡ false → join p h ≡ join p g
joins_not p h g e = simp e

-- An begin in a sign's or go_on's frame is applied by what follows, where that doesn't take it.
pub ends : (n : ℕ) (f : Frame) (fs : List Frame) (b : Operand) (r : List Word77) → Follows n r → 0 < frame_least f
    → ((p : Op) → left_least p ≤ n → level_of p < frame_least f) → run r (Has (f ∷ fs) b) ≡ run r (Has fs (into f b))
ends n f fs b [] h z a = rw (closes 0 f fs b z) refl
ends n f fs b (words.Operator p ∷ r) h z a = ap (λ (s : Step). went s (words.Operator p) r (run r))
    (elim (told (stands_between p)) [ inl j ↦ ap (join p) (closes (level_of p) f fs b (a p (h j))) | inr e ↦ joins_not p _ _ e ])
ends n f fs b (words.Close ∷ r) h z a = rw (closes 0 f fs b z) refl
ends n f fs b (words.Comma ∷ r) h z a = rw (closes 0 f fs b z) refl
ends n f fs b (words.Equals ∷ r) h z a = rw (closes 0 f fs b z) refl
ends n f fs b (words.Colon ∷ r) h z a = rw (closes 0 f fs b z) refl
ends n f fs b (t ∷ r) h z a = refl

-- what may follow an begin of a level may follow one of a higher level
follows_on : (m n : ℕ) (r : List Word77) → m ≤ n → Follows m r → Follows n r
follows_on m n [] l h = tt
follows_on m n (words.Operator p ∷ r) l h = λ j. let k : left_least p ≤ m = h j in omega arith
follows_on m n (t ∷ r) l h = tt

sign_starts : (s : Sign) (fs : List Frame) → least fs ≤ sign_level s → begin fs (words.Operator (sign_word s)) ≡ Go (Wants (Before s ∷ fs))
sign_starts Plus fs h = grind (arith, nat_tests)
sign_starts Minus fs h = grind (arith, nat_tests)
sign_starts Negation fs h = grind (arith, nat_tests)

level_pos : (o : Op) → 0 < right_least o
level_pos Pow = omega arith
level_pos o = omega arith

-- the frame of a list, once a list of expressions but its last has been read
abbrev front : Phrases77 → List Subscript
front (One p) = []
front (Then ps p) = trees77_of ps

abbrev front_depth : Phrases77 → ℕ
front_depth (One p) = 0
front_depth (Then ps p) = min (depths ps) 401

abbrev last : Phrases77 → Phrase77
last (One p) = p
last (Then ps p) = p

trees_front : (ps : Phrases77) → front ps ++ Only (tree77_of (last ps)) ∷ [] ≡ trees77_of ps
trees_front (One p) = refl
trees_front (Then ps p) = refl

abbrev front_placed : Phrases77 → Bool
front_placed (One p) = true
front_placed (Then ps p) = are_placed ps

placed_front : (ps : Phrases77) → (front_placed ps && is_placed (last ps)) ≡ are_placed ps
placed_front (One p) = refl
placed_front (Then ps p) = refl

depths_front : (ps : Phrases77) → max (front_depth ps) (min (phrase_depth77 (last ps)) 401) ≡ min (depths ps) 401
depths_front (One p) = omega arith
depths_front (Then ps p) = omega arith

pub same_operand : (l d e : ℕ) (b g : Bool) (t : Expression) → d ≡ e
    → ◌≡◌ {A = Operand} (record { level = l; depth = d; begins_with_sign = b; placed = g; tree = t }) (record { level = l; depth = e; begins_with_sign = b; placed = g; tree = t })
same_operand l d e b g t h = ap (λ (x : ℕ). let m : Operand = record { level = l; depth = x; begins_with_sign = b; placed = g; tree = t } in m) h

pub signed_is : (s : Sign) (p : Phrase77) → signed_operand s (operand_of p) ≡ operand_of (Signed s p)
signed_is Plus p = same_operand _ _ _ _ _ _ (omega arith)
signed_is Minus p = same_operand _ _ _ _ _ _ (omega arith)
signed_is Negation p = same_operand _ _ _ _ _ _ (omega arith)

pub joined_is : (o : Op) (a b : Phrase77) → joined_operand o (operand_of a) (operand_of b) ≡ operand_of (Joined o a b)
joined_is o a b = same_operand _ _ _ _ _ _ (omega arith)

pub paren_is : (p : Phrase77) → paren_operand (operand_of p) ≡ operand_of (Paren p)
paren_is p = same_operand _ _ _ _ _ _ (omega arith)

grouped : (a b r : List Word77) (s : State) → run ((a ++ b) ++ r) s ≡ run (a ++ (b ++ r)) s
grouped a b r s = ap (λ (q : List Word77). run q s) (append_assoc a b r)

listed_all : (x : List ℕ) (ps : Phrases77)
    → listed_operand x (front ps ++ Only (tree77_of (last ps)) ∷ []) (max (front_depth ps) (operand_of (last ps)).depth) (front_placed ps && is_placed (last ps)) ≡ operand_of (Listed x ps)
listed_all x ps = rw (trees_front ps, depths_front ps, placed_front ps) (same_operand _ _ _ _ _ _ (omega arith))

among_all : (x : List ℕ) (ps : Phrases77)
    → Among x (front ps ++ Only (tree77_of (last ps)) ∷ []) (max (front_depth ps) (operand_of (last ps)).depth) (front_placed ps && is_placed (last ps))
    ≡ Among x (trees77_of ps) (min (depths ps) 401) (are_placed ps)
among_all x ps = rw (trees_front ps, depths_front ps, placed_front ps) refl

-- Reading an expression leaves it as the begin.
mutual
  pub reads : (p : Phrase77) (fs : List Frame) (r : List Word77) → IsGrouped p → least fs ≤ phrase_level77 p → Follows (phrase_level77 p) r
      → run (written77 p ++ r) (Wants fs) ≡ run r (Has fs (operand_of p))
  reads (Literal n) fs r h l k = refl
  reads WideLiteral fs r h l k = refl
  reads (Truth b) fs r h l k = refl
  reads (Name x) fs r h l k = refl
  reads (Listed x ps) fs r h l k =
      grouped (written_list ps) (words.Close ∷ []) r (Wants (Among x [] 0 true ∷ fs))
      ∙ (reads_list ps x fs (words.Close ∷ r) h tt ∙ ap (λ (m : Operand). run r (Has fs m)) (listed_all x ps))
  reads (Paren p) fs r h l k =
      grouped (written77 p) (words.Close ∷ []) r (Wants (Within ∷ fs))
      ∙ (reads p (Within ∷ fs) (words.Close ∷ r) h (omega arith) tt ∙ ap (λ (m : Operand). run r (Has fs m)) (paren_is p))
  reads (Signed s p) fs r h l k =
      rw (sign_starts s fs l)
      (reads p (Before s ∷ fs) r h.1 h.0 (follows_on (sign_level s) (phrase_level77 p) r (omega (arith, h.0)) k)
      ∙ ends (sign_level s) (Before s) fs (operand_of p) r k (omega arith) (λ q e. omega (arith, level_least q))
      ∙ ap (λ (m : Operand). run r (Has fs m)) (signed_is s p))
  reads (Joined o a b) fs r h l k =
      grouped (written77 a) (words.Operator o ∷ written77 b) r (Wants fs)
      ∙ (reads a fs (words.Operator o ∷ (written77 b ++ r)) h.3 (omega (arith, h.1, level_least o)) (λ _. h.1)
      ∙ rw (joins_on o fs (operand_of a) h.0 l h.1)
      (reads b (After o (operand_of a) ∷ fs) r h.4 h.2 (follows_on (level_of o) (phrase_level77 b) r (omega (arith, h.2, least_right o)) k)
      ∙ ends (level_of o) (After o (operand_of a)) fs (operand_of b) r k (level_pos o) (apart o)
      ∙ ap (λ (m : Operand). run r (Has fs m)) (joined_is o a b)))

  pub reads_list : (ps : Phrases77) (x : List ℕ) (fs : List Frame) (r : List Word77) → AreGrouped ps → Follows 0 r
      → run (written_list ps ++ r) (Wants (Among x [] 0 true ∷ fs)) ≡ run r (Has (Among x (front ps) (front_depth ps) (front_placed ps) ∷ fs) (operand_of (last ps)))
  reads_list (One p) x fs r h k = reads p (Among x [] 0 true ∷ fs) r h (omega arith) (follows_on 0 (phrase_level77 p) r (omega arith) k)
  reads_list (Then ps p) x fs r h k =
      grouped (written_list ps) (words.Comma ∷ written77 p) r (Wants (Among x [] 0 true ∷ fs))
      ∙ (reads_list ps x fs (words.Comma ∷ (written77 p ++ r)) h.0 tt
      ∙ (ap (λ (f : Frame). run (written77 p ++ r) (Wants (f ∷ fs))) (among_all x ps)
      ∙ reads p (Among x (trees77_of ps) (min (depths ps) 401) (are_placed ps) ∷ fs) r h.1 (omega arith) (follows_on 0 (phrase_level77 p) r (omega arith) k)))

stops : (m : Operand) (r : List Word77) → Ends r → run r (Has [] m) ≡ Some (record { operand = m; rest = r })
stops m [] h = refl
stops m (words.Close ∷ ts) h = refl
stops m (words.Comma ∷ ts) h = refl
stops m (words.Equals ∷ ts) h = refl
stops m (words.Colon ∷ ts) h = refl
stops m (t ∷ ts) h = absurd h

ends_follow : (n : ℕ) (r : List Word77) → Ends r → Follows n r
ends_follow n [] h = tt
ends_follow n (words.Operator o ∷ ts) h = absurd h
ends_follow n (t ∷ ts) h = tt

runs : (p : Phrase77) (r : List Word77) → IsGrouped p → Ends r → run (written77 p ++ r) (Wants []) ≡ Some (record { operand = operand_of p; rest = r })
runs p r h e = reads p [] r h (omega arith) (ends_follow (phrase_level77 p) r e) ∙ stops (operand_of p) r e

passes : (m : Operand) (r : List Word77) → IsTrue m.placed → checked (Some (record { operand = m; rest = r })) ≡ Some (record { operand = m; rest = r })
passes m r h = rw h refl

-- Each expression is read, with the rest behind it.
pub is_read : (p : Phrase77) (r : List Word77) → IsExpression77 p → Ends r → read (written77 p ++ r) ≡ Some (record { operand = operand_of p; rest = r })
is_read p r h e = ap checked (runs p r (is_grouped p h) e) ∙ passes (operand_of p) r (signs_placed p h)
