-- Scalars and arrays that passes make, with the extents of these arrays.
use Rattle.std.specs.Prelude.{◌≡◌, ℕ, ◌≤◌, ◌^◌, ℤ, pos, nat_abs, Ok, IsSomeAnd, All, Contains, List, [], ◌∷◌, length}
use Rattle.tree.specs.Names.{IsSourceName}
use Rattle.tree.specs.Plain.{Declaration, Expression, Extent, Given, Later}
use Rattle.tree.specs.declared.ops.Kind.TheVariants.{Integer}
use Rattle.meaning.specs.Depths.{depth_of}
use Rattle.meaning.specs.Dialect.{Dialect}
use Rattle.meaning.specs.Reads.{names_in}
use Rattle.meaning.specs.Store.{Store}
use Rattle.meaning.specs.Typed.{declared}
use Rattle.meaning.specs.Typed90.{IsScalar}
use Rattle.meaning.specs.Value.{number_of}
use Rattle.linear_forms.specs.Linear.{HaveValues}
use Rattle.nest.specs.Plain.{Made}
use Rattle.nest_order.specs.facts.Facts.{values_from}
use Rattle.nest_order.specs.runs.Touched.{IsPlain}
use Rattle.pass_laws.specs.prepared_nests.After.{CountsNone}

-- ---- numbers by the symbols' values

-- e has the number z wherever the symbols have these values, the k-th one v k
abbrev pub HasNumberBy : List (List ℕ) → (ℕ → ℤ) → Expression → ℤ → Type 0
HasNumberBy symbols v e z =
    (lang : Dialect) (s : Store) → HaveValues symbols s (values_from v 0 symbols) → number_of lang e s ≡ Ok z

abbrev pub AreOf64Bits : (ℕ → ℤ) → Type 0
AreOf64Bits v = (k : ℕ) → nat_abs (v k) ≤ 2 ^ 63

-- ---- extents

-- an INTEGER expression over symbols alone, which has a number whatever these are
pub record IsPreparedExtent (es : List Declaration) (symbols : List (List ℕ)) (deepest : ℕ) (e : Expression)
    : Type 0 where
  pub plain : IsPlain e
  pub names : All (Contains symbols) (names_in e)
  pub kind : IsScalar es e Integer
  pub deep : depth_of e ≤ deepest
  pub value : (v : ℕ → ℤ) → AreOf64Bits v → (z : ℤ) × HasNumberBy symbols v e z

-- a scalar where there are none, else allocated later
abbrev pub extent_for : List Expression → Extent
extent_for [] = Given []
extent_for (e ∷ es) = Later (length (e ∷ es))

-- from 1 to the extents' numbers
abbrev pub AreBoundsBy : List (List ℕ) → (ℕ → ℤ) → List Expression → List (ℤ × ℤ) → Type 0
AreBoundsBy symbols v [] [] = Unit {0}
AreBoundsBy symbols v (e ∷ es) (b ∷ bs) =
    (b.0 ≡ pos 1) × HasNumberBy symbols v e b.1 × AreBoundsBy symbols v es bs
AreBoundsBy symbols v _ _ = ⊥

-- ---- what is made

-- it has a name that FORTRAN 77 hasn't, which counts no loop, and is declared by its kind and its extents
pub record IsPreparedMade (es : List Declaration) (symbols : List (List ℕ)) (deepest : ℕ) (a : Made) : Type 0 where
  pub made : ¬ IsSourceName a.name
  pub counter : CountsNone a.name
  pub declaration : IsSomeAnd (declared es a.name)
      (λ (d : Declaration). (d.kind ≡ a.kind) × (d.extent ≡ extent_for a.extents))
  pub extents : All (IsPreparedExtent es symbols deepest) a.extents
  pub few : length a.extents ≤ 7
