-- The stores of a nest's run and of the run of its normal form, within the same loops at the same turns.
use Rattle.std.specs.Prelude.{◌≡◌, ⊤, ℕ, ℤ, pos, Bool, true, false, Some, None, All, List, [], ◌∷◌, ◌++◌, map}
use Rattle.std.specs.Prelude.{length, slice_index_or, Contains}
use Rattle.meaning.specs.Reads.{names_in, names_in_subscripts}
use Rattle.meaning.specs.Store.{Store, Cell}
use Rattle.linear_forms.specs.Laws.{HoldsSized}
use Rattle.linear_forms.specs.Linear.{HaveValues}
use Rattle.nest_order.specs.orders.Lists.{Distinct}
use Rattle.nest_order.specs.runs.Touched.{ArePlain, IsPlain}
use Rattle.nest.specs.Plain.{Guarded, Loop}
use Rattle.last_values.specs.normal_forms.NormalLoops.{counters_of, normal_loop, variables_of}
use Rattle.last_values.specs.normal_forms.Numbers.{values_from, variable_numbers}
use Rattle.last_values.specs.declared.normal_forms.loops.NormalLoop.{NormalLoop}

-- ---- the loops round what is looked at, from the outside in

-- the iteration of a loop by its place; 0 past the innermost one
abbrev pub iteration_at : List ℕ → ℕ → ℤ
iteration_at is k = slice_index_or (map pos is) k (pos 0)

-- each is the normal form of a loop under those before it
abbrev pub AreNormalLoops : List (List ℕ) → List NormalLoop → List NormalLoop → Type 0
AreNormalLoops symbols outer [] = ⊤
AreNormalLoops symbols outer (r ∷ rs) =
    ((l : Loop) × (normal_loop symbols outer l ≡ Some r)) × AreNormalLoops symbols (outer ++ r ∷ []) rs

-- Names that the two stores needn't have in common: among them the variables and counters of these loops, and no
-- symbol. No two of the variables and counters have one name
pub record AreApart (symbols : List (List ℕ)) (apart : List ℕ → Bool) (round : List NormalLoop) : Type 0 where
  pub loops : AreNormalLoops symbols [] round
  pub variables : All (λ x. apart x ≡ true) (variables_of round)
  pub counters : All (λ x. apart x ≡ true) (counters_of round)
  pub common : All (λ x. apart x ≡ false) symbols
  pub once : Distinct (variables_of round ++ counters_of round)

-- ---- the stores

module _ (symbols : List (List ℕ)) (values : ℕ → ℤ) where
  -- the numbers that the variables have at these iterations
  abbrev pub numbers_round : List NormalLoop → List ℕ → List ℤ
  numbers_round round is = variable_numbers (length symbols) (iteration_at is) values round

  -- They have all other names in common; in the one the variables have their numbers, in the other one the counters are
  -- at the iterations; the symbols have their values
  pub record IsBeside (apart : List ℕ → Bool) (round : List NormalLoop) (is : List ℕ) (s t : Store) : Type 0 where
    pub bounds : (x : List ℕ) → apart x ≡ false → s.bounds x ≡ t.bounds x
    pub held : (c : Cell) → apart c.name ≡ false → s.held c ≡ t.held c
    pub variables : HaveValues (variables_of round) s (numbers_round round is)
    pub counters : HaveValues (counters_of round) t (map pos is)
    pub known : HaveValues symbols s (values_from (length symbols) 0 values)
    pub sized : HoldsSized s
    pub sized_beside : HoldsSized t

-- ---- what is looked at

-- of the names that are apart, only the loops' variables
abbrev pub NamesSuit : (List ℕ → Bool) → List NormalLoop → List (List ℕ) → Type 0
NamesSuit apart round xs = (x : List ℕ) → Contains xs x → apart x ≡ true → Contains (variables_of round) x

-- an assignment without a guard and without array forms, which stores in a name that both stores have, and in no symbol
pub record SuitsStatement (symbols : List (List ℕ)) (apart : List ℕ → Bool) (round : List NormalLoop) (g : Guarded)
    : Type 0 where
  pub unguarded : g.guard ≡ None
  pub plain_left : ArePlain g.left.subscripts
  pub plain_right : IsPlain g.right
  pub left : apart g.left.name ≡ false
  pub kept : ¬ (Contains symbols g.left.name)
  pub subscripts : NamesSuit apart round (names_in_subscripts g.left.subscripts)
  pub right : NamesSuit apart round (names_in g.right)
