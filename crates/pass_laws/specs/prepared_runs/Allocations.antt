-- ALLOCATE before and DEALLOCATE behind what a nest is run as, for the arrays that passes made.
use Rattle.std.specs.Prelude.{◌≡◌, ℕ, ℤ, None, Some, All, IsSomeAnd, Contains, List, [], ◌∷◌}
use Rattle.std.specs.List.{flat_map}
use Rattle.tree.specs.Plain.{Block, Expression, Program}
use Rattle.meaning.specs.Dialect.{fortran90}
use Rattle.tree.specs.declared.width.Width.{Width}
use Rattle.meaning.specs.Holding.{HoldsProgram}
use Rattle.meaning.specs.Profile90.{AreDeclarations}
use Rattle.meaning.specs.Run.{State, Going, does_all}
use Rattle.meaning.specs.Store.{Cell, Store}
use Rattle.nest.specs.Allocations.{allocations_then, deallocations}
use Rattle.nest.specs.Plain.{Made, Nest}
use Rattle.nest_order.specs.runs.Guarded.{variable_cell}
use Rattle.nest_order.specs.runs.Touched.{nth_of}
use Rattle.pass_laws.specs.prepared_nests.Made.{AreBoundsBy, AreOf64Bits}
use Rattle.tree.specs.declared.ops.Value.TheVariants.{Int}
use Rattle.pass_laws.specs.prepared_nests.Nests.{IsPrepared}

-- ---- arrays among what is made

-- a made scalar has no extents
abbrev pub name_of_array : List ℕ → List Expression → List (List ℕ)
name_of_array x [] = []
name_of_array x (e ∷ es) = x ∷ []

abbrev pub made_arrays : Nest → List (List ℕ)
made_arrays m = flat_map (λ (a : Made). name_of_array a.name a.extents) m.made

-- ---- stores

-- none of these arrays is allocated
abbrev pub AreFree : List (List ℕ) → Store → Type 0
AreFree xs s = All (λ x. s.bounds x ≡ None) xs

-- all names but these have the bounds and values that they had
pub record IsSameBut (xs : List (List ℕ)) (s t : Store) : Type 0 where
  pub bounds : (x : List ℕ) → ¬ Contains xs x → t.bounds x ≡ s.bounds x
  pub held : (c : Cell) → ¬ Contains xs c.name → t.held c ≡ s.held c

-- the symbols hold these numbers, the k-th one v k
abbrev pub HoldSymbols : List (List ℕ) → (ℕ → ℤ) → Store → Type 0
HoldSymbols symbols v s = (k : ℕ) (x : List ℕ) → nth_of symbols k ≡ Some x → s.held (variable_cell x) ≡ Int (v k)

-- what passes made is there: arrays with bounds from 1 to the numbers of their extents
abbrev pub HasMade : Nest → (ℕ → ℤ) → Store → Type 0
HasMade m v s = All (λ (a : Made). IsSomeAnd (s.bounds a.name) (AreBoundsBy m.symbols v a.extents)) m.made

-- ---- the frame

-- where the arrays come to be: the run goes on from a moment that differs in them alone
pub record IsAllocated (width : Width) (q : Program) (m : Nest) (v : ℕ → ℤ) (t : State) : Type 0 where
  pub state : State
  pub going : state.way ≡ Going
  pub rest : state ≡ record t { store = state.store; steps = state.steps }
  pub others : IsSameBut (made_arrays m) t.store state.store
  pub program : HoldsProgram (fortran90 width) q state.store
  pub made : HasMade m v state.store
  pub runs : (b : Block)
      → does_all (fortran90 width) None (allocations_then m.line m.made b) t ≡ does_all (fortran90 width) None b state

-- The arrays of a prepared nest come to be in a store that holds the program, where none of them is allocated and the
-- symbols have values of 64 bits. Made scalars have been there all the time
abbrev pub ArraysAreAllocated : (width : Width) → Type 0
ArraysAreAllocated width = (q : Program) (around : List (List ℕ)) (deepest : ℕ) (m : Nest) (v : ℕ → ℤ) (t : State)
    → AreDeclarations q.declarations → IsPrepared q.declarations around deepest m → AreOf64Bits v
    → HoldsProgram (fortran90 width) q t.store → HoldSymbols m.symbols v t.store → AreFree (made_arrays m) t.store
    → t.way ≡ Going → IsAllocated width q m v t

-- where they are let go: nothing else is changed, and the run goes on
pub record IsDeallocated (width : Width) (m : Nest) (t : State) : Type 0 where
  pub going : (does_all (fortran90 width) None (deallocations m.line m.made) t).way ≡ Going
  pub rest : does_all (fortran90 width) None (deallocations m.line m.made) t
      ≡ record t {
        store = (does_all (fortran90 width) None (deallocations m.line m.made) t).store;
        steps = (does_all (fortran90 width) None (deallocations m.line m.made) t).steps;
      }
  pub others : IsSameBut (made_arrays m) t.store (does_all (fortran90 width) None (deallocations m.line m.made) t).store
  pub free : AreFree (made_arrays m) (does_all (fortran90 width) None (deallocations m.line m.made) t).store

abbrev pub ArraysAreDeallocated : (width : Width) → Type 0
ArraysAreDeallocated width = (q : Program) (around : List (List ℕ)) (deepest : ℕ) (m : Nest) (v : ℕ → ℤ) (t : State)
    → IsPrepared q.declarations around deepest m → AreOf64Bits v → HasMade m v t.store → t.way ≡ Going
    → IsDeallocated width m t
