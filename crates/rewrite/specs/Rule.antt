-- The laws of a rule, each of which speaks of one node. `like` says what the stores of the two runs have in common.
use Rattle.std.specs.Prelude.{◌≡◌, Result, Ok, ℕ, ℤ, IsTrue, List}
use Rattle.tree.specs.Steps.{◌>>=◌}
use Rattle.tree.specs.Plain.{Expression, Named, no_subscripts, Reference}
use Rattle.tree.specs.declared.ops.Value.{Value}
use Rattle.tree.specs.declared.ops.Fault.{Fault}
use Rattle.meaning.specs.Dialect.{Dialect}
use Rattle.meaning.specs.Store.{Store, Cell, put, cell_at}
use Rattle.meaning.specs.Value.{value_of, subscript_values, cell_named, item_values, is_in_range}
use Rattle.rewrite.specs.Making.{Making}
use Rattle.rewrite.specs.Suits.{Suiting}

-- The value of an expression whose parts were made already, where the first run has the store s and the second one u: a
-- name is looked up in s, and the parts have their values in u
abbrev pub value_between : Dialect → Expression → Store → Store → Result Value Fault
value_between lang (Named x ps) s u = do
  is ← subscript_values lang ps u
  c ← cell_at x is s
  Ok (s.held c)
value_between lang e s u = value_of lang e u

-- v may be put into the cell c of the first store and into d of the second one
abbrev pub StayAlike : (Store → Store → Type 0) → Store → Store → Cell → Cell → Value → Type 0
StayAlike like s u c d v = like (put c v s) (put d v u)

-- the two stores have the name in common, and stay alike when a cell of it gets another value
pub record HaveInCommon (lang : Dialect) (like : Store → Store → Type 0) (s u : Store) (x : List ℕ) : Type 0 where
  pub bounds : s.bounds x ≡ u.bounds x
  pub held : (c : Cell) → c.name ≡ x → s.held c ≡ u.held c
  pub put : (c : Cell) (v : Value) → c.name ≡ x → IsTrue (is_in_range lang.bits v) → StayAlike like s u c c v

-- where an assignment of the first run lands in the cell c, that of the second one lands in `cell`
pub record Assigned (lang : Dialect) (like : Store → Store → Type 0) (s u : Store) (c : Cell) (r : Reference) : Type 0
  where
    pub cell : Cell
    pub named : cell_named lang r u ≡ Ok cell
    pub put : (v : Value) → IsTrue (is_in_range lang.bits v) → StayAlike like s u c cell v

pub record IsRule (lang : Dialect) (m : Making) (suits : Suiting) (like : Store → Store → Type 0) : Type 0 where
  -- a value is kept where there is one, so that no fault comes that wasn't there
  pub value : (first e : Expression) (s u : Store) (v : Value) → IsTrue (suits.expression e) → like s u
      → value_between lang e s u ≡ Ok v → value_of lang (m.expression first e) u ≡ Ok v
  -- so are the values of a bare name in an output list, which may be an array
  pub printed : (x : List ℕ) (s u : Store) (vs : List Value) → IsTrue (suits.expression (Named x no_subscripts))
      → like s u → item_values lang (Named x no_subscripts) s ≡ Ok vs
      → item_values lang (m.expression (Named x no_subscripts) (Named x no_subscripts)) u ≡ Ok vs
  -- where a left side lands
  pub assigned : (r : Reference) (s u : Store) (is : List ℤ) (c : Cell) → IsTrue (suits.left r) → like s u
      → subscript_values lang r.subscripts u ≡ Ok is → cell_at r.name is s ≡ Ok c
      → Assigned lang like s u c (m.left r)
  -- a variable of a loop or of an input list
  pub variable : (x : List ℕ) (s u : Store) → IsTrue (suits.variable x) → like s u → HaveInCommon lang like s u x
