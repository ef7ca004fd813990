-- Reads of a statement that are copied right before it, and what is read in their places. A reference within one that
-- is copied stays.
use Rattle.std.specs.Prelude.{ℕ, suc, ◌+◌, Bool, true, false, not, ◌&&◌, ◌==◌, if◌then◌else◌}
use Rattle.std.specs.Prelude.{List, [], ◌∷◌, ◌++◌, length}
use Rattle.tree.specs.Plain.{Expression, Number, Logic, Named, Unary, Binary, Apply, Constructor, Spread, Transpose}
use Rattle.tree.specs.Plain.{Reshape, Reduce, Expressions, no_expressions, expression, Subscript, Only, Section}
use Rattle.tree.specs.Plain.{Subscripts, no_subscripts, subscript, Reference}
use Rattle.nest.specs.Plain.{Guarded}
use Rattle.node_splitting.specs.Counts.{count, count_subscript, first_in_left, first_in_right, is_counter, is_item}

abbrev pub read_as_expression : Reference → Expression
read_as_expression r = Named r.name r.subscripts

-- the reference itself, or what is copied in it
abbrev pub itself_or : Bool → Reference → List Reference → List Reference
itself_or true r inside = r ∷ []
itself_or false r inside = inside

abbrev pub read_or : Bool → Reference → Expression → Expression
read_or true r e = read_as_expression r
read_or false r e = e

-- may: whether the reference with a number may be copied
module _ (loops : List (List ℕ)) (may : ℕ → Bool) where
  abbrev pub is_copied : ℕ → List ℕ → Subscripts → Bool
  is_copied q x ss = not (is_counter loops x ss) && may q

  -- the number of the first reference in a name's subscripts, where its own one is q
  abbrev pub behind : ℕ → List ℕ → Subscripts → ℕ
  behind q x ss = if is_counter loops x ss then q else suc q

  -- what is copied of an expression whose first reference has the number q, in the order of the references
  abbrev mutual
    pub reads_of : ℕ → Expression → List Reference
    reads_of q (Number n) = []
    reads_of q (Logic b) = []
    reads_of q (Named x ss) =
        itself_or (is_copied q x ss) (record { name = x; subscripts = ss }) (reads_in (behind q x ss) ss)
    reads_of q (Unary o a) = reads_of q a
    reads_of q (Binary o a b) = reads_of q a ++ reads_of (q + count loops a) b
    reads_of q (Apply f es) = reads_of_all q es
    reads_of q (Constructor es ls) = []
    reads_of q (Spread a n e) = []
    reads_of q (Transpose a) = []
    reads_of q (Reshape a es) = []
    reads_of q (Reduce r a) = []

    pub reads_of_all : ℕ → Expressions → List Reference
    reads_of_all q no_expressions = []
    reads_of_all q (expression e es) = reads_of q e ++ reads_of_all (q + count loops e) es

    pub reads_of_subscript : ℕ → Subscript → List Reference
    reads_of_subscript q (Only e) = reads_of q e
    reads_of_subscript q (Section a b s) = []

    pub reads_in : ℕ → Subscripts → List Reference
    reads_in q no_subscripts = []
    reads_in q (subscript s ss) = reads_of_subscript q s ++ reads_in (q + count_subscript loops s) ss

  -- The expression with what is read in place of each of them: by how many copies there are before, the element of the
  -- next one
  module _ (element : ℕ → Reference) where
    abbrev mutual
      pub split_of : ℕ → ℕ → Expression → Expression
      split_of q c (Number n) = Number n
      split_of q c (Logic b) = Logic b
      split_of q c (Named x ss) =
          read_or (is_copied q x ss) (element c) (Named x (split_in (behind q x ss) c ss))
      split_of q c (Unary o a) = Unary o (split_of q c a)
      split_of q c (Binary o a b) =
          Binary o (split_of q c a) (split_of (q + count loops a) (c + length (reads_of q a)) b)
      split_of q c (Apply f es) = Apply f (split_of_all q c es)
      split_of q c (Constructor es ls) = Constructor es ls
      split_of q c (Spread a n e) = Spread a n e
      split_of q c (Transpose a) = Transpose a
      split_of q c (Reshape a es) = Reshape a es
      split_of q c (Reduce r a) = Reduce r a

      pub split_of_all : ℕ → ℕ → Expressions → Expressions
      split_of_all q c no_expressions = no_expressions
      split_of_all q c (expression e es) =
          expression (split_of q c e) (split_of_all (q + count loops e) (c + length (reads_of q e)) es)

      pub split_of_subscript : ℕ → ℕ → Subscript → Subscript
      split_of_subscript q c (Only e) = Only (split_of q c e)
      split_of_subscript q c (Section a b s) = Section a b s

      pub split_in : ℕ → ℕ → Subscripts → Subscripts
      split_in q c no_subscripts = no_subscripts
      split_in q c (subscript s ss) =
          subscript (split_of_subscript q c s)
          (split_in (q + count_subscript loops s) (c + length (reads_of_subscript q s)) ss)

-- ---- a statement

-- the right side as a whole isn't copied
abbrev pub but_whole : List (List ℕ) → (ℕ → Bool) → Guarded → ℕ → Bool
but_whole loops may g q = may q && not (is_item g.right && (q == first_in_right loops g))

module _ (loops : List (List ℕ)) (may : ℕ → Bool) (g : Guarded) where
  abbrev pub reads_in_left : List Reference
  reads_in_left = reads_in loops (but_whole loops may g) (first_in_left loops g) g.left.subscripts

  abbrev pub reads_in_right : List Reference
  reads_in_right = reads_of loops (but_whole loops may g) (first_in_right loops g) g.right

  -- of the subscripts of the left side and of the right side; the guard stays as it is
  abbrev pub reads_in_statement : List Reference
  reads_in_statement = reads_in_left ++ reads_in_right

  abbrev pub split_left : (ℕ → Reference) → ℕ → Reference
  split_left element c = record {
    name = g.left.name;
    subscripts = split_in loops (but_whole loops may g) element (first_in_left loops g) c g.left.subscripts;
  }

  abbrev pub split_right : (ℕ → Reference) → ℕ → Expression
  split_right element c =
      split_of loops (but_whole loops may g) element (first_in_right loops g) (c + length reads_in_left) g.right

  abbrev pub split_statement : (ℕ → Reference) → ℕ → Guarded
  split_statement element c = record g { left = split_left element c; right = split_right element c }

-- what is read is copied under the statement's guard
abbrev pub read_copied : (ℕ → Reference) → Guarded → ℕ → Reference → Guarded
read_copied element g c r = record { line = g.line; guard = g.guard; left = element c; right = read_as_expression r }

abbrev pub copies_of : (ℕ → Reference) → Guarded → ℕ → List Reference → List Guarded
copies_of element g c [] = []
copies_of element g c (r ∷ rs) = read_copied element g c r ∷ copies_of element g (suc c) rs

-- each copy in the order of the references, and then the statement
abbrev pub with_copies : List (List ℕ) → (ℕ → Bool) → (ℕ → Reference) → ℕ → Guarded → List Guarded
with_copies loops may element c g =
    copies_of element g c (reads_in_statement loops may g) ++ split_statement loops may g element c ∷ []
