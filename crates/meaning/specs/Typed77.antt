-- Expressions and lists of a FORTRAN 77 program's tree whose kinds suit, by the declarations (ANSI X3.9-1978, sections
-- 5.4, 6, 11.10.1, 12.8.2 and 15.10).
use Rattle.std.specs.Prelude.{◌≡◌, ◌⊎◌, ℕ, ◌+◌, ◌≤◌, not, IsTrue, None, List, ◌∷◌, length, Contains}
use Rattle.std.specs.Option.{IsSomeAnd}
use Rattle.tree.specs.Plain.{Expression, Number, Logic, Named, Unary, Binary, Apply, Expressions, no_expressions}
use Rattle.tree.specs.Plain.{expression, Subscript, Only, Subscripts, no_subscripts, subscript, Item, Single}
use Rattle.tree.specs.Plain.{Constant, ImpliedDo, Items, no_items, item, Declaration}
use Rattle.tree.specs.declared.ops.Kind.{Kind}
use Rattle.tree.specs.declared.ops.Kind.TheVariants.{Integer, Logical}
use Rattle.tree.specs.Limits.{expression_depth77}
use Rattle.tree.specs.Functions.{name_of_function, suits_number}
use Rattle.meaning.specs.Depths.{depth_of}
pub use Rattle.meaning.specs.Typed.{number_of_arguments}
pub use Rattle.tree.specs.OperatorTable.{operand_kind, is_relation, result_kind_of, is_unary}
pub use Rattle.meaning.specs.Typed.{number_of_subscripts, dimensions, declared, IsLiteral, has_item, IsText}

-- How deep an expression is in its text is limited in a source. A symbolic constant with a negative value stands in the
-- tree as the negative of a literal, which may add an operator and a parenthesis
abbrev pub deepest : ℕ
deepest = expression_depth77 + 2

-- ---- kinds, by the declarations `ds`
module _ (ds : List Declaration) where
  abbrev mutual
    -- e has the kind k, and all in it suits. A name is declared, and has as many subscripts as dimensions. No variable
    -- hides the name of a function that is called
    pub HasKind : Expression → Kind → Type 0
    HasKind (Number n) k = IsLiteral n × (k ≡ Integer)
    HasKind (Logic b) k = k ≡ Logical
    HasKind (Named x ps) k =
        IsSomeAnd (declared ds x) (λ d. (k ≡ d.kind) × (number_of_subscripts ps ≡ length (dimensions d.extent)))
        × AreSubscripts ps
    HasKind (Unary o a) k = IsTrue (is_unary o) × (k ≡ result_kind_of o) × HasKind a (operand_kind o)
    HasKind (Binary o a b) k =
        IsTrue (not (is_unary o)) × (k ≡ result_kind_of o) × HasKind a (operand_kind o) × HasKind b (operand_kind o)
    HasKind (Apply f es) k =
        IsTrue (suits_number f (number_of_arguments es)) × (declared ds (name_of_function f) ≡ None)
        × (k ≡ Integer) × AreArguments es
    HasKind _ k = ⊥

    -- arguments are INTEGER values
    pub AreArguments : Expressions → Type 0
    AreArguments no_expressions = Unit {0}
    AreArguments (expression e es) = HasKind e Integer × AreArguments es

    pub AreSubscripts : Subscripts → Type 0
    AreSubscripts no_subscripts = Unit {0}
    AreSubscripts (subscript p ps) = IsSubscript p × AreSubscripts ps

    pub IsSubscript : Subscript → Type 0
    IsSubscript (Only e) = HasKind e Integer
    IsSubscript _ = ⊥

  -- an expression of this kind, not too deep
  pub record IsWhole (e : Expression) (k : Kind) : Type 0 where
    pub suits : HasKind e k
    pub depth : depth_of e ≤ deepest

  -- a variable of one INTEGER, which isn't the DO variable of a loop or list round it (section 11.10)
  pub record IsDoVariable (x : List ℕ) (around : List (List ℕ)) : Type 0 where
    pub integer : HasKind (Named x no_subscripts) Integer
    pub free : ¬ Contains around x

  -- a scalar, an element, or a whole array, which has no subscripts
  abbrev pub IsDeclared : List ℕ → Type 0
  IsDeclared x = IsSomeAnd (declared ds x) (λ d. Unit {0})

  abbrev pub IsElementOrWhole : List ℕ → Subscripts → Type 0
  IsElementOrWhole x no_subscripts = IsDeclared x
  IsElementOrWhole x (subscript p ps) =
      HasKind (Named x (subscript p ps)) Integer ⊎ HasKind (Named x (subscript p ps)) Logical

  -- an expression of an output list: a whole array stands there by itself (section 12.8.2.2)
  abbrev pub IsOutput : Expression → Type 0
  IsOutput (Named x ps) = IsElementOrWhole x ps
  IsOutput e = HasKind e Integer ⊎ HasKind e Logical

  -- a variable of an input list, which isn't a DO variable round it (section 12.8.2.1)
  abbrev pub IsInput : Expression → List (List ℕ) → Type 0
  IsInput (Named x ps) around = IsElementOrWhole x ps × (Contains around x → ⊥)
  IsInput e around = ⊥

  abbrev mutual
    pub IsOutputItem : Item → List (List ℕ) → Type 0
    IsOutputItem (Single e) around = IsOutput e
    IsOutputItem (Constant t) around = IsText t
    IsOutputItem (ImpliedDo is x a b c) around =
        IsTrue (has_item is) × IsDoVariable x around
        × HasKind a Integer × HasKind b Integer × HasKind c Integer × AreOutputItems is (x ∷ around)

    pub AreOutputItems : Items → List (List ℕ) → Type 0
    AreOutputItems no_items around = Unit {0}
    AreOutputItems (item i is) around = IsOutputItem i around × AreOutputItems is around

  abbrev mutual
    pub IsInputItem : Item → List (List ℕ) → Type 0
    IsInputItem (Single e) around = IsInput e around
    IsInputItem (Constant t) around = ⊥
    IsInputItem (ImpliedDo is x a b c) around =
        IsTrue (has_item is) × IsDoVariable x around
        × HasKind a Integer × HasKind b Integer × HasKind c Integer × AreInputItems is (x ∷ around)

    pub AreInputItems : Items → List (List ℕ) → Type 0
    AreInputItems no_items around = Unit {0}
    AreInputItems (item i is) around = IsInputItem i around × AreInputItems is around
