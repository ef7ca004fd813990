-- The trees of expressions that texts have.
use Rattle.std.specs.Prelude.{◌≡◌, ℕ, ◌^◌, ◌<◌, ℤ, pos, negsuc, Bool, true, false, IsTrue, Option, Some, None, List}
use Rattle.std.specs.Prelude.{codes}
use Rattle.tree.specs.declared.ops.Op.{Op}
use Rattle.tree.specs.declared.ops.Op.TheVariants.{Neg, Not}
use Rattle.tree.specs.Plain as tree
use Rattle.tree.specs.Plain.{Expression, Expressions, Subscript, Subscripts, Loops}
use Rattle.tree.specs.OperatorTable.{stands_between}
use Rattle.f90_grammar.specs.Phrases.{Phrase90}
use Rattle.tree.specs.Functions.{name_of_function, name_of_reduction}
use Rattle.tree.specs.declared.functions.Intrinsic.{Intrinsic}
use Rattle.tree.specs.declared.functions.Intrinsic.TheVariants.{Elemental, Reduction, Spread, Transpose, Reshape}
use Rattle.f90_grammar.specs.Printing.{phrase_of}

abbrev pub IsLiteral : ℤ → Type 0
IsLiteral (pos n) = n < 2 ^ 127
IsLiteral (negsuc n) = ⊥

abbrev pub is_negating : Op → Bool
is_negating Neg = true
is_negating Not = true
is_negating o = false

abbrev pub HasSome : Expressions → Type 0
HasSome tree.no_expressions = ⊥
HasSome (tree.expression e es) = Unit {0}

-- under loops one value stands
abbrev pub SuitsLoops : Loops → Expressions → Type 0
SuitsLoops tree.no_loops es = HasSome es
SuitsLoops (tree.loop x a b ls) (tree.expression e tree.no_expressions) = Unit {0}
SuitsLoops (tree.loop x a b ls) es = ⊥

abbrev pub IsOpen : Subscripts → Option Intrinsic → Type 0
IsOpen tree.no_subscripts f = Unit {0}
IsOpen (tree.subscript s ss) f = f ≡ None

module _ (function : List ℕ → Option Intrinsic) where
  abbrev mutual
    pub IsSource : Expression → Type 0
    IsSource (tree.Number n) = IsLiteral n
    IsSource (tree.Logic b) = Unit {0}
    IsSource (tree.Named x ss) = IsOpen ss (function x) × AreSource ss
    IsSource (tree.Unary o a) = IsTrue (is_negating o) × IsSource a
    IsSource (tree.Binary o a b) = IsTrue (stands_between o) × IsSource a × IsSource b
    IsSource (tree.Apply f es) = (function (name_of_function f) ≡ Some (Elemental f)) × HasSome es × EachIsSource es
    IsSource (tree.Constructor es ls) = SuitsLoops ls es × EachIsSource es × LoopsAreSource ls
    IsSource (tree.Spread a d n) = (function (codes "SPREAD") ≡ Some Spread) × (d < 2 ^ 127) × IsSource a × IsSource n
    IsSource (tree.Transpose a) = (function (codes "TRANSPOSE") ≡ Some Transpose) × IsSource a
    IsSource (tree.Reshape a es) = (function (codes "RESHAPE") ≡ Some Reshape) × HasSome es × IsSource a
        × EachIsSource es
    IsSource (tree.Reduce r a) = (function (name_of_reduction r) ≡ Some (Reduction r)) × IsSource a

    pub EachIsSource : Expressions → Type 0
    EachIsSource tree.no_expressions = Unit {0}
    EachIsSource (tree.expression e es) = IsSource e × EachIsSource es

    pub IsSourceSubscript : Subscript → Type 0
    IsSourceSubscript (tree.Only e) = IsSource e
    IsSourceSubscript (tree.Section a b c) = IsSource a × IsSource b × IsSource c

    pub AreSource : Subscripts → Type 0
    AreSource tree.no_subscripts = Unit {0}
    AreSource (tree.subscript s ss) = IsSourceSubscript s × AreSource ss

    pub LoopsAreSource : Loops → Type 0
    LoopsAreSource tree.no_loops = Unit {0}
    LoopsAreSource (tree.loop x a b ls) = IsSource a × IsSource b × LoopsAreSource ls

-- what is written is read as the tree again
abbrev pub PrintedIsReadBack : ((List ℕ → Option Intrinsic) → Phrase90 → Expression) → Type 0
PrintedIsReadBack tree_of = (function : List ℕ → Option Intrinsic) (e : Expression) → IsSource function e
    → tree_of function (phrase_of e) ≡ e
