-- An expression's tree is no deeper than the expression as it is written.
use Rattle.std.proofs.Common.{◌≡◌, ◌⊎◌, inl, inr, ℕ, ◌+◌, ◌<◌, ◌≤◌, max, nat_le, cond, pos, Bool, true, false, IsTrue, Option, Some, None, List, [], ◌∷◌, ◌++◌, refl, sym, ap, subst, ◌∙◌, arith, length, length-append}
use Rattle.std.proofs.lemmas.Bool.Decides.{leb_tells, nat_tests}
use Rattle.tree.specs.declared.ops.Op.{Op}
use Rattle.tree.specs.declared.ops.Op.TheVariants.{Neg, Not}
use Rattle.tree.specs.declared.functions.Intrinsic.{Intrinsic}
use Rattle.tree.specs.declared.functions.Intrinsic.TheVariants.{Elemental, Reduction, Spread, Transpose, Reshape}
use Rattle.tree.specs.OperatorTable.{Sign, Plus, Minus, Negation, level_of, left_least, right_least, sign_level}
use Rattle.tree.specs.Plain as tree
use Rattle.tree.specs.Plain.{Expression, Expressions, Subscript, Subscripts, Loops, Item, Items}
use Rattle.meaning.specs.Depths.{enclosed, depth_of, depth_of_each, depth_of_subscripts, depth_of_subscript, depth_under, depth_of_item, depth_of_items}
use Rattle.meaning.specs.Depths as depths
use Rattle.meaning.specs.Value.{named}
use Rattle.f90_grammar.specs.Items.{IsReference90}
use Rattle.reading.specs.Signs.{reference_in, signed, argument_of}
use Rattle.f90_grammar.specs.Contents.{VariableSuitsCalls}
use Rattle.f90_grammar.specs.Phrases as phrases
use Rattle.f90_grammar.specs.Phrases.{Phrase90, Literal, Truth, Name, Listed, Paren, Signed, Joined, Values, Looped, ListPart, Value, Range, Strided, ListParts, One, Then, Phrases90, Turn, Innermost, Round, phrase_level90, IsExpression90, IsPart, AreParts, AreExpressions90, IsTurn, phrase_depth90, depth_of_part, depth_of_parts, depth_of_values, depth_of_turn, AreValues, HasLiteralDimension, IsShape, SuitsFunction, arguments90_of, list_in, called, tree_of, tree_of_part, trees_of_parts, trees_of_values, looped, SuitsCalls, PartSuitsCalls, PartsSuitCalls, ValuesSuitCalls, TurnSuitsCalls}

-- within n, and with room for a parenthesis where it would need one at the level l
record Fits (n l : ℕ) (e : Expression) : Type 0 where
  within : depth_of e ≤ n
  room : depths.level e < l → depth_of e + 1 ≤ n

enclosed-le : (least own d n l : ℕ) → least ≤ l → d ≤ n → (own < l → d + 1 ≤ n) → enclosed least own d ≤ n
enclosed-le least own d n l h w r = by (leb_tells least own)
  where
    by : ((nat_le least own ≡ true) × (least ≤ own)) ⊎ ((nat_le least own ≡ false) × (own < least)) → enclosed least own d ≤ n
    by (inl t) = rw t.0 w
    by (inr t) = let lt = t.1 in let k : d + 1 ≤ n = r (omega arith) in rw t.0 (omega arith)

-- the depth of an expression without operators
fits_top : (n : ℕ) (e : Expression) → depths.level e ≡ 10 → depth_of e ≤ n → Fits n 10 e
fits_top n e t h = record { within = h; room = λ l. omega (arith, t) }

-- ---- lists

depth_of_subscript_list : List Subscript → ℕ
depth_of_subscript_list ss = depth_of_subscripts (tree.subscripts ss)

append_subscripts : (n : ℕ) (ss : List Subscript) (s : Subscript) → depth_of_subscripts (tree.subscripts ss) ≤ n + 1 → depth_of_subscript s ≤ n
    → depth_of_subscripts (tree.subscripts (ss ++ s ∷ [])) ≤ n + 1
append_subscripts n [] s h g = omega arith
append_subscripts n (t ∷ ss) s h g = let more : depth_of_subscripts (tree.subscripts (ss ++ s ∷ [])) ≤ n + 1 = append_subscripts n ss s (omega arith) g in omega arith

append_each : (n : ℕ) (es : List Expression) (e : Expression) → depth_of_each (tree.expressions es) ≤ n → depth_of e ≤ n → depth_of_each (tree.expressions (es ++ e ∷ [])) ≤ n
append_each n [] e h g = omega arith
append_each n (f ∷ es) e h g = let more : depth_of_each (tree.expressions (es ++ e ∷ [])) ≤ n = append_each n es e (omega arith) g in omega arith

argument-le : (s : Subscript) → depth_of (argument_of s) ≤ depth_of_subscript s
argument-le (tree.Only e) = omega arith
argument-le (tree.Section a b c) = omega arith

arguments-le : (ss : List Subscript) (n : ℕ) → depth_of_subscripts (tree.subscripts ss) ≤ n + 1 → depth_of_each (tree.expressions (arguments90_of ss)) ≤ n
arguments-le [] n h = omega arith
arguments-le (s ∷ ss) n h = omega (arith, argument-le s, arguments-le ss n (omega arith))

under-le : (ls : Loops) (m n : ℕ) → m ≤ n → depth_under ls m ≤ depth_under ls n
under-le tree.no_loops m n h = h
under-le (tree.loop x a b ls) m n h = under-le ls (1 + max m (max (depth_of a) (depth_of b))) (1 + max n (max (depth_of a) (depth_of b))) (omega arith)

list-le : (e : Expression) → 1 + depth_of_each (list_in e) ≤ max (depth_of e) 1
list-le (tree.Number n) = omega arith
list-le (tree.Logic b) = omega arith
list-le (tree.Named x ss) = omega arith
list-le (tree.Unary o a) = omega arith
list-le (tree.Binary o a b) = omega arith
list-le (tree.Apply f es) = omega arith
list-le (tree.Constructor es tree.no_loops) = omega arith
list-le (tree.Constructor es (tree.loop x a b ls)) = omega (arith, grows ls (1 + max (depth_of_each es) (max (depth_of a) (depth_of b))))
  where
    grows : (ls : Loops) (m : ℕ) → m ≤ depth_under ls m
    grows tree.no_loops m = omega arith
    grows (tree.loop x a b ls) m = omega (arith, grows ls (1 + max m (max (depth_of a) (depth_of b))))
list-le (tree.Spread a d n) = omega arith
list-le (tree.Transpose a) = omega arith
list-le (tree.Reshape a es) = omega arith
list-le (tree.Reduce r a) = omega arith

-- ---- calls

record Tops (n : ℕ) (e : Expression) : Type 0 where
  within : depth_of e ≤ n
  top : depths.level e ≡ 10

called_tops : (f : Option Intrinsic) (x : List ℕ) (ss : List Subscript) (n : ℕ) → depth_of_subscripts (tree.subscripts ss) ≤ n + 1
    → (f ≡ Some Reshape → length ss ≡ 2 → 1 ≤ n) → Tops (n + 1) (called f x ss)
called_tops None x ss n h r = record { within = h; top = refl }
called_tops (Some (Elemental g)) x ss n h r = record { within = omega (arith, arguments-le ss n h); top = refl }
called_tops (Some (Reduction g)) x [] n h r = record { within = h; top = refl }
called_tops (Some (Reduction g)) x (s ∷ []) n h r = record { within = omega (arith, argument-le s, h); top = refl }
called_tops (Some (Reduction g)) x (s ∷ t ∷ ss) n h r = record { within = h; top = refl }
called_tops (Some Spread) x [] n h r = record { within = h; top = refl }
called_tops (Some Spread) x (s ∷ []) n h r = record { within = h; top = refl }
called_tops (Some Spread) x (s ∷ t ∷ []) n h r = record { within = h; top = refl }
called_tops (Some Spread) x (s ∷ t ∷ u ∷ []) n h r = record { within = omega (arith, argument-le s, argument-le u, h); top = refl }
called_tops (Some Spread) x (s ∷ t ∷ u ∷ v ∷ ss) n h r = record { within = h; top = refl }
called_tops (Some Transpose) x [] n h r = record { within = h; top = refl }
called_tops (Some Transpose) x (s ∷ []) n h r = record { within = omega (arith, argument-le s, h); top = refl }
called_tops (Some Transpose) x (s ∷ t ∷ ss) n h r = record { within = h; top = refl }
called_tops (Some Reshape) x [] n h r = record { within = h; top = refl }
called_tops (Some Reshape) x (s ∷ []) n h r = record { within = h; top = refl }
called_tops (Some Reshape) x (s ∷ t ∷ []) n h r =
    let one : 1 ≤ n = r refl refl in
    record { within = omega (arith, argument-le s, argument-le t, list-le (argument_of t), h, one); top = refl }
called_tops (Some Reshape) x (s ∷ t ∷ u ∷ ss) n h r = record { within = h; top = refl }

module _ (function : List ℕ → Option Intrinsic) where
  some_parts : (ps : ListParts) → 1 ≤ length (trees_of_parts function ps)
  some_parts (One p) = omega arith
  some_parts (Then ps p) = omega (arith, length-append (trees_of_parts function ps) (tree_of_part function p ∷ []))

  shape_deep : (ps : ListParts) → IsShape ps → length (trees_of_parts function ps) ≡ 2 → 1 ≤ depth_of_parts ps
  shape_deep (One p) h e = absurd (omega (arith, e))
  shape_deep (Then (One p) (Value (Values vs))) h e = omega arith
  shape_deep (Then (One p) (Value (Literal t))) h e = absurd h
  shape_deep (Then (One p) (Value (Truth b))) h e = absurd h
  shape_deep (Then (One p) (Value (Name x))) h e = absurd h
  shape_deep (Then (One p) (Value (Listed x ps))) h e = absurd h
  shape_deep (Then (One p) (Value (Paren q))) h e = absurd h
  shape_deep (Then (One p) (Value (Signed s q))) h e = absurd h
  shape_deep (Then (One p) (Value (Joined o a b))) h e = absurd h
  shape_deep (Then (One p) (Value (Looped t))) h e = absurd h
  shape_deep (Then (One p) (Range a b)) h e = absurd h
  shape_deep (Then (One p) (Strided a b c)) h e = absurd h
  shape_deep (Then (Then ps p) q) h e =
      absurd (omega (arith, e, some_parts ps, length-append (trees_of_parts function ps) (tree_of_part function p ∷ []), length-append (trees_of_parts function ps ++ tree_of_part function p ∷ []) (tree_of_part function q ∷ [])))

  reshape_deep : (f : Option Intrinsic) (ps : ListParts) → SuitsFunction f ps → f ≡ Some Reshape → length (trees_of_parts function ps) ≡ 2 → 1 ≤ depth_of_parts ps
  reshape_deep None ps h e l = cc
  reshape_deep (Some (Elemental g)) ps h e l = cc
  reshape_deep (Some (Reduction g)) ps h e l = cc
  reshape_deep (Some Spread) ps h e l = cc
  reshape_deep (Some Transpose) ps h e l = cc
  reshape_deep (Some Reshape) ps h e l = shape_deep ps h.1 l

  looped_top : (t : Turn) (ls : Loops) → depths.level (looped function t ls) ≡ 10
  looped_top (Innermost p x a b) ls = refl
  looped_top (Round t x a b) ls = looped_top t (tree.loop x (tree_of function a) (tree_of function b) ls)

  -- ---- every expression

  mutual
    fits : (p : Phrase90) → IsExpression90 p → SuitsCalls function p → Fits (phrase_depth90 p) (phrase_level90 p) (tree_of function p)
    fits (Literal t) h c = fits_top 0 (tree_of function (Literal t)) refl (omega arith)
    fits (Truth b) h c = fits_top 0 (tree.Logic b) refl (omega arith)
    fits (Name x) h c = fits_top 0 (tree.Named x tree.no_subscripts) refl (omega arith)
    fits (Listed x ps) h c =
        let t = called_tops (function x) x (trees_of_parts function ps) (depth_of_parts ps) (parts_fit ps h c.1) (reshape_deep (function x) ps c.0) in
        fits_top (depth_of_parts ps + 1) (called (function x) x (trees_of_parts function ps)) t.top t.within
    fits (Paren p) h c = let f = fits p h c in let w : depth_of (tree_of function p) ≤ phrase_depth90 p = f.within in record { within = omega arith; room = λ l. omega arith }
    fits (Signed Plus p) h c = let f = fits p h.2 c in let k : sign_level Plus + 1 ≤ phrase_level90 p = h.0 in
        record { within = omega (arith, f.within); room = λ l. omega (arith, f.room (omega (arith, l))) }
    fits (Signed Minus p) h c = let f = fits p h.2 c in let k : sign_level Minus + 1 ≤ phrase_level90 p = h.0 in
        record {
          within = omega (arith, enclosed-le (right_least Neg) (depths.level (tree_of function p)) (depth_of (tree_of function p)) (phrase_depth90 p) (phrase_level90 p) (omega arith) f.within f.room);
          room = λ l. absurd (omega arith);
        }
    fits (Signed Negation p) h c = let f = fits p h.2 c in let k : sign_level Negation + 1 ≤ phrase_level90 p = h.0 in
        record {
          within = omega (arith, enclosed-le (right_least Not) (depths.level (tree_of function p)) (depth_of (tree_of function p)) (phrase_depth90 p) (phrase_level90 p) (omega arith) f.within f.room);
          room = λ l. absurd (omega arith);
        }
    fits (Joined o a b) h c = let f = fits a h.4 c.0 in let g = fits b h.5 c.1 in
        record {
          within = omega (
            arith,
            enclosed-le (left_least o) (depths.level (tree_of function a)) (depth_of (tree_of function a)) (phrase_depth90 a) (phrase_level90 a) h.1 f.within f.room,
            enclosed-le (right_least o) (depths.level (tree_of function b)) (depth_of (tree_of function b)) (phrase_depth90 b) (phrase_level90 b) h.2 g.within g.room,
          );
          room = λ l. absurd (omega (arith, l));
        }
    fits (Values ps) h c = fits_top (depth_of_values ps + 1) (tree_of function (Values ps)) refl (omega (arith, values_fit ps h c))
    fits (Looped t) h c = fits_top (depth_of_turn t + 1) (looped function t tree.no_loops) (looped_top t tree.no_loops) (omega (arith, turn_fits t tree.no_loops h c))

    turn_fits : (t : Turn) (ls : Loops) → IsTurn t → TurnSuitsCalls function t → depth_of (looped function t ls) ≤ 1 + depth_under ls (depth_of_turn t)
    turn_fits (Innermost p x a b) ls h c =
        let m = 1 + max (max (depth_of (tree_of function p)) 0) (max (depth_of (tree_of function a)) (depth_of (tree_of function b))) in
        let w : m ≤ depth_of_turn (Innermost p x a b) = omega (arith, (fits p h.0 c.0).within, (fits a h.1 c.1).within, (fits b h.2 c.2).within) in
        omega (arith, under-le ls m (depth_of_turn (Innermost p x a b)) w)
    turn_fits (Round t x a b) ls h c =
        let m = 1 + max (depth_of_turn t) (max (depth_of (tree_of function a)) (depth_of (tree_of function b))) in
        let w : m ≤ depth_of_turn (Round t x a b) = omega (arith, (fits a h.1 c.1).within, (fits b h.2 c.2).within) in
        omega (arith, turn_fits t (tree.loop x (tree_of function a) (tree_of function b) ls) h.0 c.0, under-le ls m (depth_of_turn (Round t x a b)) w)

    part_fits : (p : ListPart) → IsPart p → PartSuitsCalls function p → depth_of_subscript (tree_of_part function p) ≤ depth_of_part p
    part_fits (Value p) h c = (fits p h c).within
    part_fits (Range a b) h c = omega (arith, (fits a h.0 c.0).within, (fits b h.1 c.1).within)
    part_fits (Strided a b s) h c = omega (arith, (fits a h.0 c.0).within, (fits b h.1 c.1).within, (fits s h.2 c.2).within)

    pub parts_fit : (ps : ListParts) → AreParts ps → PartsSuitCalls function ps → depth_of_subscripts (tree.subscripts (trees_of_parts function ps)) ≤ depth_of_parts ps + 1
    parts_fit (One p) h c = omega (arith, part_fits p h c)
    parts_fit (Then ps p) h c =
        append_subscripts (max (depth_of_parts ps) (depth_of_part p)) (trees_of_parts function ps) (tree_of_part function p) (omega (arith, parts_fit ps h.0 c.0)) (omega (arith, part_fits p h.1 c.1))

    values_fit : (ps : Phrases90) → AreExpressions90 ps → ValuesSuitCalls function ps → depth_of_each (tree.expressions (trees_of_values function ps)) ≤ depth_of_values ps
    values_fit (phrases.Sole p) h c = omega (arith, (fits p h c).within)
    values_fit (phrases.More ps p) h c =
        append_each (max (depth_of_values ps) (phrase_depth90 p)) (trees_of_values function ps) (tree_of function p) (omega (arith, values_fit ps h.0 c.0)) (omega (arith, (fits p h.1 c.1).within))

  -- ---- what is stored into, and lists

  pub shallow : (p : Phrase90) → IsExpression90 p → SuitsCalls function p → depth_of (tree_of function p) ≤ phrase_depth90 p
  shallow p h c = (fits p h c).within

  named_depth : (e : Expression) → depth_of (named (reference_in e)) ≤ depth_of e
  named_depth (tree.Number n) = omega arith
  named_depth (tree.Logic b) = omega arith
  named_depth (tree.Named x ss) = omega arith
  named_depth (tree.Unary o a) = omega arith
  named_depth (tree.Binary o a b) = omega arith
  named_depth (tree.Apply f es) = omega arith
  named_depth (tree.Constructor es ls) = omega arith
  named_depth (tree.Spread a d n) = omega arith
  named_depth (tree.Transpose a) = omega arith
  named_depth (tree.Reshape a es) = omega arith
  named_depth (tree.Reduce r a) = omega arith

  -- a call is no variable
  called_named : (f : Option Intrinsic) (x : List ℕ) (ss : List Subscript) (n : ℕ) → depth_of_subscripts (tree.subscripts ss) ≤ n
      → depth_of (named (reference_in (called f x ss))) ≤ n
  called_named None x ss n h = h
  called_named (Some (Elemental g)) x ss n h = omega arith
  called_named (Some (Reduction g)) x [] n h = h
  called_named (Some (Reduction g)) x (s ∷ []) n h = omega arith
  called_named (Some (Reduction g)) x (s ∷ t ∷ ss) n h = h
  called_named (Some Spread) x [] n h = h
  called_named (Some Spread) x (s ∷ []) n h = h
  called_named (Some Spread) x (s ∷ t ∷ []) n h = h
  called_named (Some Spread) x (s ∷ t ∷ u ∷ []) n h = omega arith
  called_named (Some Spread) x (s ∷ t ∷ u ∷ v ∷ ss) n h = h
  called_named (Some Transpose) x [] n h = h
  called_named (Some Transpose) x (s ∷ []) n h = omega arith
  called_named (Some Transpose) x (s ∷ t ∷ ss) n h = h
  called_named (Some Reshape) x [] n h = h
  called_named (Some Reshape) x (s ∷ []) n h = h
  called_named (Some Reshape) x (s ∷ t ∷ []) n h = omega arith
  called_named (Some Reshape) x (s ∷ t ∷ u ∷ ss) n h = h

  pub shallow_variable : (p : Phrase90) → IsReference90 p → IsExpression90 p → VariableSuitsCalls function p
      → depth_of (named (reference_in (tree_of function p))) ≤ phrase_depth90 p
  shallow_variable (Name x) r h c = omega arith
  shallow_variable (Listed x ps) r h c = called_named (function x) x (trees_of_parts function ps) (depth_of_parts ps + 1) (parts_fit ps h c)
  shallow_variable (Literal t) r h c = absurd r
  shallow_variable (Truth b) r h c = absurd r
  shallow_variable (Paren p) r h c = absurd r
  shallow_variable (Signed s p) r h c = absurd r
  shallow_variable (Joined o a b) r h c = absurd r
  shallow_variable (Values ps) r h c = absurd r
  shallow_variable (Looped t) r h c = absurd r
