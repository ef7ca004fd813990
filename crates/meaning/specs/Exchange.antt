-- When two assignments may be exchanged.
use Rattle.std.specs.Prelude.{◌≡◌, false, ◌≢◌, Ok, Option, None, ℕ, List, ◌++◌, IsTrue, Contains}
use Rattle.tree.specs.Plain.{Expression, Reference, Assignment}
use Rattle.tree.specs.declared.ops.Value.{Value}
use Rattle.tree.specs.declared.stmts.Mark.{Mark}
use Rattle.meaning.specs.Store.{Store, Cell}
use Rattle.meaning.specs.Value.{value_of, cell_named, is_array, named, is_in_range}
use Rattle.meaning.specs.CellsRead.{cells_read, cells_read_by}
use Rattle.meaning.specs.Run.{State, does}
use Rattle.meaning.specs.Dialect.{Dialect}

-- in the store s, the assignment of e to r meets no fault, and stores v in the cell c
pub record Assigns (lang : Dialect) (r : Reference) (e : Expression) (s : Store) (c : Cell) (v : Value) : Type 0 where
  pub scalar : is_array lang (named r) s ≡ false
  pub value : value_of lang e s ≡ Ok v
  pub cell : cell_named lang r s ≡ Ok c
  pub range : IsTrue (is_in_range lang.bits v)

-- the cells that it reads: those of the right side and of the left subscripts
abbrev pub cells_read_to_assign : Dialect → Reference → Expression → Store → List Cell
cells_read_to_assign lang r e s = cells_read lang e s ++ cells_read_by lang r.subscripts s

-- Two assignments that store in different cells, neither of which the other one reads, may be exchanged
abbrev pub AssignmentsExchange : Type 0
AssignmentsExchange =
    (lang : Dialect) (line₁ line₂ : ℕ) (mark₁ mark₂ : Option Mark) (r₁ r₂ : Reference) (e₁ e₂ : Expression)
    (s : State) (c₁ c₂ : Cell) (v₁ v₂ : Value)
    → Assigns lang r₁ e₁ s.store c₁ v₁ → Assigns lang r₂ e₂ s.store c₂ v₂
    → c₁ ≢ c₂
    → ¬ Contains (cells_read_to_assign lang r₁ e₁ s.store) c₂
    → ¬ Contains (cells_read_to_assign lang r₂ e₂ s.store) c₁
    → does lang None (Assignment line₂ mark₂ r₂ e₂) (does lang None (Assignment line₁ mark₁ r₁ e₁) s)
    ≡ does lang None (Assignment line₁ mark₁ r₁ e₁) (does lang None (Assignment line₂ mark₂ r₂ e₂) s)
