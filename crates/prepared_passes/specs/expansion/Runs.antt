-- The runs of a nest and of the expanded one: the loops, what stands behind them, and the last values.
use Rattle.std.specs.Prelude.{◌≡◌, ⊤, None, ℕ, ◌≤◌, ℤ, pos, List, [], length}
use Rattle.std.specs.List.{AllByRecursion}
use Rattle.tree.specs.OperatorTable.{result_kind_of}
use Rattle.tree.specs.Plain.{Arms, Assignment, Binary, Block, Declaration, Expression, If, Named, Number, Statement}
use Rattle.tree.specs.Plain.{Unary, arm, no_arms, no_statements, no_subscripts, statement, subscript}
use Rattle.tree.specs.declared.ops.Kind.TheVariants.{Integer}
use Rattle.meaning.specs.Reads.{names_in, names_in_subscripts}
use Rattle.meaning.specs.Run.{Act, Going, State, does, does_all}
use Rattle.meaning.specs.Store.{Store}
use Rattle.rewrite.specs.Following.{IsSound, sequential}
use Rattle.nest.specs.Blocks.{statement_of_part}
use Rattle.nest.specs.Bodies.{nest_loops}
use Rattle.nest.specs.Plain.{Loop, Nest, Parts, Turns}
use Rattle.nest_order.specs.orders.Lists.{In}
use Rattle.nest_steps.specs.Leading.{Led}
use Rattle.scalar_expand.specs.Endings.{AreSettled}
use Rattle.scalar_expand.specs.Expanded.{expanded, named_private}
use Rattle.scalar_expand.specs.Laws.{AreAlike}
use Rattle.scalar_expand.specs.Numbers.{ends_of, limits_of}
use Rattle.scalar_expand.specs.Privates.{private_scalars}
use Rattle.scalar_expand.specs.Stores.{arrays}
use Rattle.pass_laws.specs.prepared_nests.Made.{AreOf64Bits}
use Rattle.pass_laws.specs.prepared_nests.Nests.{IsPrepared}
use Rattle.prepared_passes.specs.expansion.Laws.{MayBeExpanded, counters_of, value_among}

-- ---- what stands behind the loops

abbrev pub IsNothing : Block → Type 0
IsNothing no_statements = ⊤
IsNothing (statement c cs) = ⊥

abbrev pub HasNoArms : Arms → Type 0
HasNoArms no_arms = ⊤
HasNoArms (arm test body more) = ⊥

-- assignments, and IFs with one arm and no ELSE in which such statements stand, that read such names, and give values
-- to such names by such right sides
module _ (Read : List ℕ → Type 0) (Written : List ℕ → Expression → Type 0) where
  abbrev mutual
    pub IsFree : Statement → Type 0
    IsFree (Assignment line mark left right) =
        Written left.name right × AllByRecursion Read (names_in_subscripts left.subscripts)
        × AllByRecursion Read (names_in right)
    IsFree (If line arms other) = IsFreeArm arms × IsNothing other
    IsFree _ = ⊥

    pub IsFreeArm : Arms → Type 0
    IsFreeArm no_arms = ⊥
    IsFreeArm (arm test body more) = AllByRecursion Read (names_in test) × AreFree body × HasNoArms more

    pub AreFree : Block → Type 0
    AreFree no_statements = ⊤
    AreFree (statement c cs) = IsFree c × AreFree cs

-- neither a private scalar's name nor that of an array
abbrev pub IsOther : Nest → List ℕ → Type 0
IsOther m z = (named_private (private_scalars m) z ≡ None) × (¬ In z (arrays (private_scalars m)))

-- no loop's trip depends on it
abbrev pub StandsInNoTrip : Nest → List ℕ → Type 0
StandsInNoTrip m z = (l : Loop) → In l (nest_loops m) → ¬ In z (names_in l.last)

-- a number wherever the symbols hold numbers: a literal, a symbol, or what an operator makes
abbrev pub IsNumberBy : List (List ℕ) → Expression → Type 0
IsNumberBy symbols (Number z) = ⊤
IsNumberBy symbols (Named x no_subscripts) = In x symbols
IsNumberBy symbols (Named x (subscript p ps)) = ⊥
IsNumberBy symbols (Unary o a) = result_kind_of o ≡ Integer
IsNumberBy symbols (Binary o a b) = result_kind_of o ≡ Integer
IsNumberBy symbols _ = ⊥

-- neither a private scalar, nor an array, nor a counter gets a value, and a symbol only where it stands in no trip, and
-- gets a number
abbrev pub MayGet : Nest → List ℕ → Expression → Type 0
MayGet m z e =
    IsOther m z × (¬ In z (counters_of m)) × (In z m.symbols → StandsInNoTrip m z × IsNumberBy m.symbols e)

-- what stands behind the loops reads no private scalar and no array, and gives such names values
abbrev pub IsFreeBehind : Nest → Type 0
IsFreeBehind m = AreFree (IsOther m) (MayGet m) m.after

-- ---- runs

-- the loops, and what stands behind them
abbrev pub runs_in : ℕ → Nest → Act
runs_in bits m s =
    does_all (sequential bits) None m.after (does (sequential bits) None (statement_of_part m.line m.body) s)

-- The second run has gone on, too. The stores are alike but for the arrays, and for private scalars that the program
-- doesn't declare; symbols that stand in trips hold what they held, the others what both stores hold
pub record IsSettled (bits : ℕ) (m : Nest) (values : ℕ → ℤ) (s t : State) : Type 0 where
  pub value : List ℕ → ℤ
  pub kept : (z : List ℕ) (l : Loop) → In l (nest_loops m) → In z (names_in l.last)
      → value z ≡ value_among m.symbols 0 values z
  pub led : Led
      (AreSettled bits m (limits_of (length m.symbols) values (pos 1)) (ends_of (length m.symbols) values)
      (counters_of m) value)
      s t

-- Where the arrays are allocated by their extents, and a prepared nest of one loop meets no fault, the expanded nest
-- meets none
abbrev pub PreparedNestRunsExpanded : Type 0
PreparedNestRunsExpanded =
    (bits : ℕ) (es : List Declaration) (around : List (List ℕ)) (deepest : ℕ) (m : Nest) (loop : Loop) (body : Parts)
    (values : ℕ → ℤ) (s : State) (u : Store) (n : ℕ) → 31 ≤ bits → IsPrepared es around deepest m
    → m.body ≡ Turns loop body → MayBeExpanded es m → IsFreeBehind m → AreOf64Bits values → s.way ≡ Going
    → AreAlike bits m (limits_of (length m.symbols) values (pos 1)) (ends_of (length m.symbols) values) (counters_of m)
    (value_among m.symbols 0 values) [] s.store u
    → IsSound (runs_in bits m s).way
    → IsSettled bits m values (runs_in bits m s) (runs_in bits (expanded m) (record s { store = u; steps = n }))
