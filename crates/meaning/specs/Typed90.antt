-- Expressions and lists of a Fortran 90 program's tree whose kinds and ranks suit, by the declarations (ISO/IEC
-- 1539:1991, sections 4.5, 6.2, 7.1, 9.4.2 and 13.13).
use Rattle.std.specs.Prelude.{◌≡◌, ◌⊎◌, ℕ, ◌+◌, ◌<◌, ◌≤◌, max, not, IsTrue, Some, None, List, codes, Contains}
use Rattle.std.specs.Option.{IsSomeAnd}
use Rattle.tree.specs.Plain.{Expression, Number, Logic, Named, Unary, Binary, Apply, Constructor, Spread, Transpose}
use Rattle.tree.specs.Plain.{Reshape, Reduce, Expressions, no_expressions, expression, Subscript, Only, Section}
use Rattle.tree.specs.Plain.{Subscripts, no_subscripts, subscript, Loops, no_loops, loop, Declaration}
use Rattle.tree.specs.declared.ops.Kind.{Kind}
use Rattle.tree.specs.declared.ops.Kind.TheVariants.{Integer, Logical}
use Rattle.tree.specs.Limits.{array_dimensions}
use Rattle.tree.specs.Functions.{name_of_function, name_of_reduction, suits_number}
use Rattle.meaning.specs.Typed.{number_of_arguments, number_of_subscripts}
use Rattle.tree.specs.OperatorTable.{operand_kind, result_kind_of, is_unary}
use Rattle.meaning.specs.Typed.{rank_of_extent, declared, IsLiteral}

-- the ranks of two operands: they are equal, or one is that of a scalar
abbrev pub Conform : ℕ → ℕ → Type 0
Conform m n = (m ≡ 0) ⊎ ((n ≡ 0) ⊎ (m ≡ n))

-- without subscripts a name has all of its dimensions, else a subscript for each
abbrev pub SuitsDimensions : Subscripts → ℕ → Type 0
SuitsDimensions no_subscripts n = Unit {0}
SuitsDimensions (subscript p ps) n = number_of_subscripts (subscript p ps) ≡ n

-- a constructor has a list of one or more values, or one value under loops
abbrev pub SuitsLoops : Loops → ℕ → Type 0
SuitsLoops no_loops n = 1 ≤ n
SuitsLoops (loop x a b ls) n = n ≡ 1

-- by the declarations `ds`
module _ (ds : List Declaration) where
  -- no variable hides the name of a function that is called
  abbrev pub IsFree : List ℕ → Type 0
  IsFree x = declared ds x ≡ None

  abbrev pub rank_of_name : List ℕ → ℕ
  rank_of_name x = elim (declared ds x) [ None ↦ 0 | Some d ↦ rank_of_extent d.extent ]

  -- ---- ranks: how many dimensions an expression has in which all suits, 0 for a scalar

  abbrev mutual
    pub rank_of : Expression → ℕ
    rank_of (Number n) = 0
    rank_of (Logic b) = 0
    rank_of (Named x no_subscripts) = rank_of_name x
    rank_of (Named x (subscript p ps)) = rank_of_subscript p + rank_of_subscripts ps
    rank_of (Unary o a) = rank_of a
    rank_of (Binary o a b) = max (rank_of a) (rank_of b)
    rank_of (Apply f es) = rank_of_each es
    rank_of (Constructor es ls) = 1
    rank_of (Spread a d n) = rank_of a + 1
    rank_of (Transpose a) = 2
    rank_of (Reshape a es) = number_of_arguments es
    rank_of (Reduce r a) = 0

    pub rank_of_each : Expressions → ℕ
    rank_of_each no_expressions = 0
    rank_of_each (expression e es) = max (rank_of e) (rank_of_each es)

    -- of sections and of subscripts of rank one
    pub rank_of_subscripts : Subscripts → ℕ
    rank_of_subscripts no_subscripts = 0
    rank_of_subscripts (subscript p ps) = rank_of_subscript p + rank_of_subscripts ps

    pub rank_of_subscript : Subscript → ℕ
    rank_of_subscript (Only e) = rank_of e
    rank_of_subscript (Section a b c) = 1

  abbrev pub IsIntegerScalar : List ℕ → Type 0
  IsIntegerScalar x = IsSomeAnd (declared ds x) (λ d. (d.kind ≡ Integer) × (rank_of_extent d.extent ≡ 0))

  -- ---- kinds

  abbrev mutual
    -- e has the kind k, and all in it suits
    pub HasKind : Expression → Kind → Type 0
    HasKind (Number n) k = IsLiteral n × (k ≡ Integer)
    HasKind (Logic b) k = k ≡ Logical
    HasKind (Named x ps) k =
        IsSomeAnd (declared ds x) (λ d. (k ≡ d.kind) × SuitsDimensions ps (rank_of_extent d.extent)) × AreSubscripts ps
    HasKind (Unary o a) k = IsTrue (is_unary o) × (k ≡ result_kind_of o) × HasKind a (operand_kind o)
    HasKind (Binary o a b) k =
        IsTrue (not (is_unary o)) × (k ≡ result_kind_of o)
        × HasKind a (operand_kind o) × HasKind b (operand_kind o) × Conform (rank_of a) (rank_of b)
    HasKind (Apply f es) k =
        IsTrue (suits_number f (number_of_arguments es)) × IsFree (name_of_function f) × (k ≡ Integer) × AreArguments es
    HasKind (Constructor es ls) k = AreScalars es k × SuitsLoops ls (number_of_arguments es) × AreLoops ls
    HasKind (Spread a d n) k =
        IsFree (codes "SPREAD") × (1 ≤ d) × (d ≤ rank_of a + 1) × (rank_of a < array_dimensions)
        × HasKind a k × HasKind n Integer × (rank_of n ≡ 0)
    HasKind (Transpose a) k = IsFree (codes "TRANSPOSE") × (rank_of a ≡ 2) × HasKind a k
    HasKind (Reshape a es) k =
        IsFree (codes "RESHAPE") × (1 ≤ rank_of a)
        × (1 ≤ number_of_arguments es) × (number_of_arguments es ≤ array_dimensions)
        × HasKind a k × AreScalars es Integer
    HasKind (Reduce r a) k = IsFree (name_of_reduction r) × (1 ≤ rank_of a) × (k ≡ Integer) × HasKind a Integer

    -- arguments are INTEGER, and their ranks suit
    pub AreArguments : Expressions → Type 0
    AreArguments no_expressions = Unit {0}
    AreArguments (expression e es) = HasKind e Integer × Conform (rank_of e) (rank_of_each es) × AreArguments es

    pub AreScalars : Expressions → Kind → Type 0
    AreScalars no_expressions k = Unit {0}
    AreScalars (expression e es) k = (HasKind e k × (rank_of e ≡ 0)) × AreScalars es k

    pub AreSubscripts : Subscripts → Type 0
    AreSubscripts no_subscripts = Unit {0}
    AreSubscripts (subscript p ps) = IsSubscript p × AreSubscripts ps

    pub IsSubscript : Subscript → Type 0
    IsSubscript (Only e) = HasKind e Integer × (rank_of e ≤ 1)
    IsSubscript (Section a b c) =
        (HasKind a Integer × (rank_of a ≡ 0)) × (HasKind b Integer × (rank_of b ≡ 0))
        × (HasKind c Integer × (rank_of c ≡ 0))

    -- a loop of a constructor has a variable of one INTEGER, which may be a DO variable
    pub AreLoops : Loops → Type 0
    AreLoops no_loops = Unit {0}
    AreLoops (loop x a b ls) =
        IsIntegerScalar x × (HasKind a Integer × (rank_of a ≡ 0)) × (HasKind b Integer × (rank_of b ≡ 0)) × AreLoops ls

  abbrev pub IsScalar : Expression → Kind → Type 0
  IsScalar e k = HasKind e k × (rank_of e ≡ 0)

  -- ---- items of lists

  -- a variable of one INTEGER, which isn't the DO variable of a loop or list round it
  pub record IsDoVariable (x : List ℕ) (around : List (List ℕ)) : Type 0 where
    pub integer : IsIntegerScalar x
    pub free : ¬ Contains around x

  abbrev pub HasSomeKind : Expression → Type 0
  HasSomeKind e = HasKind e Integer ⊎ HasKind e Logical
