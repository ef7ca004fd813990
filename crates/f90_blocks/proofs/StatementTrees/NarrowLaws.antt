-- Literals that aren't too great are held as they are.
use Rattle.std.proofs.Common.{arith, ◌≡◌, ap, refl, ℕ, pos, Bool, true, false, ◌||◌, List, [], ◌∷◌, ◌++◌, Option}
use Rattle.std.proofs.Common.{Some, None}
use Rattle.std.specs.Prelude.{min, nat_lt}
use Rattle.std.specs.List.{AllByRecursion}
use Rattle.std.proofs.lemmas.Bool.Decides.{nat_tests}
use Rattle.tree.specs.Limits.{greatest_literal}
use Rattle.tree.specs.OperatorTable.{Sign, Plus, Minus, Negation}
use Rattle.tree.specs.Plain as tree
use Rattle.tree.specs.Plain.{Expression, Subscript, Loops}
use Rattle.tree.specs.declared.functions.Intrinsic.{Intrinsic}
use Rattle.tree.specs.declared.functions.Intrinsic.TheVariants as intrinsics
use Rattle.f90_grammar.specs.Contents.{has_wide_literal90, part_has_wide_literal, parts_have_wide_literal}
use Rattle.f90_grammar.specs.Contents.{values_have_wide_literal, turn_has_wide_literal}
use Rattle.f90_grammar.specs.Phrases as phrases
use Rattle.f90_grammar.specs.Phrases.{Phrase90, tree_of, tree_of_part, trees_of_parts, trees_of_values, looped, called}
use Rattle.f90_grammar.specs.Phrases.{arguments90_of, list_in}
use Rattle.reading.specs.Signs.{signed, argument_of}
use Rattle.f90_trees.specs.Building.{held_number}
use Rattle.f90_blocks.specs.statement_trees.Uncut.{IsNarrow, AreNarrow, IsNarrowSubscript, AreNarrowSubscripts, AreNarrowLoops}
use Rattle.f90_blocks.specs.statement_trees.Uncut.{LiteralsStay}

narrow_number : (n : ℕ) → nat_lt greatest_literal n ≡ false → held_number (pos n) ≡ pos n
narrow_number n h = ap pos (at n greatest_literal h)
  where
    at : (m g : ℕ) → nat_lt g m ≡ false → min m g ≡ m
    at m g e = grind (arith, nat_tests)

left : (a b : Bool) → (a || b) ≡ false → a ≡ false
left true b h = h
left false b h = refl

right : (a b : Bool) → (a || b) ≡ false → b ≡ false
right true true h = h
right true false h = refl
right false b h = h

-- ---- lists

narrow_list : (es : List Expression) → AllByRecursion IsNarrow es → AreNarrow (tree.expressions es)
narrow_list [] h = tt
narrow_list (e ∷ es) h = (h.0, narrow_list es h.1)

narrow_subscripts : (ss : List Subscript) → AllByRecursion IsNarrowSubscript ss
    → AreNarrowSubscripts (tree.subscripts ss)
narrow_subscripts [] h = tt
narrow_subscripts (s ∷ ss) h = (h.0, narrow_subscripts ss h.1)

all_more : {A : Type 0} (good : A → Type 0) (xs : List A) (x : A) → AllByRecursion good xs → good x
    → AllByRecursion good (xs ++ x ∷ [])
all_more good [] x h g = (g, tt)
all_more good (y ∷ xs) x h g = (h.0, all_more good xs x h.1 g)

-- ---- calls

narrow_argument : (s : Subscript) → IsNarrowSubscript s → IsNarrow (argument_of s)
narrow_argument (tree.Only e) h = h
narrow_argument (tree.Section a b c) h = h.0

narrow_arguments : (ss : List Subscript) → AllByRecursion IsNarrowSubscript ss
    → AreNarrow (tree.expressions (arguments90_of ss))
narrow_arguments [] h = tt
narrow_arguments (s ∷ ss) h = (narrow_argument s h.0, narrow_arguments ss h.1)

narrow_values : (e : Expression) → IsNarrow e → AreNarrow (list_in e)
narrow_values (tree.Number z) h = tt
narrow_values (tree.Logic b) h = tt
narrow_values (tree.Named x ss) h = tt
narrow_values (tree.Unary o a) h = tt
narrow_values (tree.Binary o a b) h = tt
narrow_values (tree.Apply f es) h = tt
narrow_values (tree.Constructor es ls) h = h.0
narrow_values (tree.Spread a d n) h = tt
narrow_values (tree.Transpose a) h = tt
narrow_values (tree.Reshape a es) h = tt
narrow_values (tree.Reduce r a) h = tt

narrow_call : (f : Option Intrinsic) (x : List ℕ) (ss : List Subscript) → AllByRecursion IsNarrowSubscript ss
    → IsNarrow (called f x ss)
narrow_call None x ss h = narrow_subscripts ss h
narrow_call (Some (intrinsics.Elemental f)) x ss h = narrow_arguments ss h
narrow_call (Some (intrinsics.Reduction r)) x [] h = tt
narrow_call (Some (intrinsics.Reduction r)) x (s ∷ []) h = narrow_argument s h.0
narrow_call (Some (intrinsics.Reduction r)) x (s ∷ t ∷ ss) h = narrow_subscripts (s ∷ t ∷ ss) h
narrow_call (Some intrinsics.Spread) x [] h = tt
narrow_call (Some intrinsics.Spread) x (s ∷ []) h = narrow_subscripts (s ∷ []) h
narrow_call (Some intrinsics.Spread) x (s ∷ d ∷ []) h = narrow_subscripts (s ∷ d ∷ []) h
narrow_call (Some intrinsics.Spread) x (s ∷ d ∷ n ∷ []) h = (narrow_argument s h.0, narrow_argument n h.1.1.0)
narrow_call (Some intrinsics.Spread) x (s ∷ d ∷ n ∷ m ∷ ss) h = narrow_subscripts (s ∷ d ∷ n ∷ m ∷ ss) h
narrow_call (Some intrinsics.Transpose) x [] h = tt
narrow_call (Some intrinsics.Transpose) x (s ∷ []) h = narrow_argument s h.0
narrow_call (Some intrinsics.Transpose) x (s ∷ t ∷ ss) h = narrow_subscripts (s ∷ t ∷ ss) h
narrow_call (Some intrinsics.Reshape) x [] h = tt
narrow_call (Some intrinsics.Reshape) x (s ∷ []) h = narrow_subscripts (s ∷ []) h
narrow_call (Some intrinsics.Reshape) x (s ∷ ns ∷ []) h =
    (narrow_argument s h.0, narrow_values (argument_of ns) (narrow_argument ns h.1.0))
narrow_call (Some intrinsics.Reshape) x (s ∷ ns ∷ t ∷ ss) h = narrow_subscripts (s ∷ ns ∷ t ∷ ss) h

narrow_sign : (s : Sign) (e : Expression) → IsNarrow e → IsNarrow (signed s e)
narrow_sign Plus e h = h
narrow_sign Minus e h = h
narrow_sign Negation e h = h

-- ---- expressions

module _ (f : List ℕ → Option Intrinsic) where
  mutual
    narrow : (p : Phrase90) → has_wide_literal90 p ≡ false → IsNarrow (tree_of f p)
    narrow (phrases.Literal t) h = narrow_number (phrases.value_of_digits t) h
    narrow (phrases.Truth b) h = tt
    narrow (phrases.Name x) h = tt
    narrow (phrases.Listed x ps) h = narrow_call (f x) x (trees_of_parts f ps) (narrow_parts ps h)
    narrow (phrases.Paren p) h = narrow p h
    narrow (phrases.Signed s p) h = narrow_sign s (tree_of f p) (narrow p h)
    narrow (phrases.Joined o a b) h = (narrow a (left _ _ h), narrow b (right _ _ h))
    narrow (phrases.Values ps) h = (narrow_list (trees_of_values f ps) (narrow_each ps h), tt)
    narrow (phrases.Looped t) h = narrow_turn t tree.no_loops h tt

    narrow_part : (p : phrases.ListPart) → part_has_wide_literal p ≡ false → IsNarrowSubscript (tree_of_part f p)
    narrow_part (phrases.Value p) h = narrow p h
    narrow_part (phrases.Range a b) h = (narrow a (left _ _ h), narrow b (right _ _ h), refl)
    narrow_part (phrases.Strided a b c) h =
        (narrow a (left _ _ h), narrow b (left _ _ (right _ _ h)), narrow c (right _ _ (right _ _ h)))

    narrow_parts : (ps : phrases.ListParts) → parts_have_wide_literal ps ≡ false
        → AllByRecursion IsNarrowSubscript (trees_of_parts f ps)
    narrow_parts (phrases.One p) h = (narrow_part p h, tt)
    narrow_parts (phrases.Then ps p) h =
        all_more IsNarrowSubscript (trees_of_parts f ps) (tree_of_part f p) (narrow_parts ps (left _ _ h))
        (narrow_part p (right _ _ h))

    narrow_each : (ps : phrases.Phrases90) → values_have_wide_literal ps ≡ false
        → AllByRecursion IsNarrow (trees_of_values f ps)
    narrow_each (phrases.Sole p) h = (narrow p h, tt)
    narrow_each (phrases.More ps p) h =
        all_more IsNarrow (trees_of_values f ps) (tree_of f p) (narrow_each ps (left _ _ h)) (narrow p (right _ _ h))

    narrow_turn : (t : phrases.Turn) (ls : Loops) → turn_has_wide_literal t ≡ false → AreNarrowLoops ls
        → IsNarrow (looped f t ls)
    narrow_turn (phrases.Innermost p x a b) ls h l =
        ((narrow p (left _ _ h), tt), (narrow a (left _ _ (right _ _ h)), narrow b (right _ _ (right _ _ h)), l))
    narrow_turn (phrases.Round t x a b) ls h l =
        narrow_turn t (tree.loop x (tree_of f a) (tree_of f b) ls) (left _ _ h) (
          narrow a (left _ _
              (right _ _ h)),
          narrow b (right _ _ (right _ _ h)),
          l,
        )

pub literals_stay : LiteralsStay
literals_stay f p h = narrow f p h
