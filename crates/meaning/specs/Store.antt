-- Cells and stores: what stands for the storage of variables and array elements (ANSI X3.9-1978, sections 2.11 to 2.13
-- and 5).
use Rattle.std.specs.Prelude.{◌≡◌, Result, Ok, Err, Option, Some, None, ℕ, zero, suc, ◌+◌, ℤ, pos, negsuc, ◌+ℤ◌, ◌-ℤ◌}
use Rattle.std.specs.Prelude.{int_le, Bool, true, false, ◌&&◌, if◌then◌else◌, List, [], ◌∷◌, map, Contains}
use Rattle.std.specs.Str.{bytes_eq}
use Rattle.std.specs.List.{flat_map}
use Rattle.std.specs.Cmp.Lexicographic.{pointwise}
use Rattle.std.specs.Ordering.{int_eq}
use Rattle.tree.specs.Plain.{Given, Later, Declaration, Program}
use Rattle.tree.specs.declared.ops.Kind.{Kind}
use Rattle.tree.specs.declared.ops.Kind.TheVariants.{Integer, Logical}
use Rattle.tree.specs.declared.ops.Value.{Value}
use Rattle.tree.specs.declared.ops.Value.TheVariants.{Int, Truth}
use Rattle.tree.specs.declared.ops.Fault.{Fault}
use Rattle.tree.specs.declared.ops.Fault.TheVariants.{Bounds, Allocated}

-- a variable or an array element: a name with its subscripts, none for a scalar
pub record Cell : Type 0 where
  pub name : List ℕ
  pub subscripts : List ℤ

abbrev pub same_cell : Cell → Cell → Bool
same_cell c d = bytes_eq c.name d.name && pointwise int_eq c.subscripts d.subscripts

-- the bounds of each name that has cells now, the lower one first, none for a scalar; and what each cell holds
pub record Store : Type 0 where
  pub bounds : List ℕ → Option (List (ℤ × ℤ))
  pub held : Cell → Value

-- the store after v is put into the cell c
abbrev pub put : Cell → Value → Store → Store
put c v s = record { bounds = s.bounds; held = λ d. if same_cell c d then v else s.held d }

-- ---- the cells of a name (section 5.4)

-- each subscript stands within the bounds of its dimension, and there are as many
abbrev pub is_within : List (ℤ × ℤ) → List ℤ → Bool
is_within [] [] = true
is_within (b ∷ bs) (i ∷ is) = int_le b.0 i && (int_le i b.1 && is_within bs is)
is_within _ _ = false

abbrev pub bounds_in : Option (List (ℤ × ℤ)) → Result (List (ℤ × ℤ)) Fault
bounds_in (Some bs) = Ok bs
bounds_in None = Err Allocated

abbrev pub stored_bounds : List ℕ → Store → Result (List (ℤ × ℤ)) Fault
stored_bounds x s = bounds_in (s.bounds x)

abbrev pub cell_in : Option (List (ℤ × ℤ)) → List ℕ → List ℤ → Result Cell Fault
cell_in (Some bs) x is = if is_within bs is then Ok (record { name = x; subscripts = is }) else Err Bounds
cell_in None x is = Err Allocated

-- the cell of the name x with these subscripts, where it has one
abbrev pub cell_at : List ℕ → List ℤ → Store → Result Cell Fault
cell_at x is s = cell_in (s.bounds x) x is

-- z and the numbers after it, k in all
abbrev pub numbers_from : ℤ → ℕ → List ℤ
numbers_from z zero = []
numbers_from z (suc k) = z ∷ numbers_from (z +ℤ pos 1) k

-- how many numbers a dimension has
abbrev pub size_of : ℤ × ℤ → ℕ
size_of b = elim (b.1 -ℤ b.0) [ pos n ↦ n + 1 | negsuc n ↦ 0 ]

-- all lists that take one element of each list, the first one running fastest: column-major order (section 5.2.5)
abbrev pub column_major : {A : Type 0} → List (List A) → List (List A)
column_major [] = [] ∷ []
column_major (xs ∷ more) = flat_map (λ rest. map (λ x. x ∷ rest) xs) (column_major more)

-- all cells of the name x
abbrev pub cells_of : List ℕ → List (ℤ × ℤ) → List Cell
cells_of x bs =
    map (λ is. record { name = x; subscripts = is }) (column_major (map (λ b. numbers_from b.0 (size_of b)) bs))

-- ---- the opening store: each variable holds 0 or `.FALSE.`

abbrev pub nought : Kind → Value
nought Integer = Int (pos 0)
nought Logical = Truth false

-- 0 or `.FALSE.`, as the value before
abbrev pub nought_like : Value → Value
nought_like (Int z) = Int (pos 0)
nought_like (Truth b) = Truth false

abbrev pub opening_bounds : List Declaration → List ℕ → Option (List (ℤ × ℤ))
opening_bounds [] x = None
opening_bounds (d ∷ ds) x =
    if bytes_eq d.name x then elim d.extent [ Given bs ↦ Some bs | Later n ↦ None ] else opening_bounds ds x

abbrev pub opening_value : List Declaration → List ℕ → Value
opening_value [] x = Int (pos 0)
opening_value (d ∷ ds) x = if bytes_eq d.name x then nought d.kind else opening_value ds x

abbrev pub opening_store : Program → Store
opening_store p = record { bounds = opening_bounds p.declarations; held = λ c. opening_value p.declarations c.name }

-- ---- ALLOCATE and DEALLOCATE (ISO/IEC 1539:1991, section 6.3)

abbrev pub with_bounds : List ℕ → Option (List (ℤ × ℤ)) → Store → Store
with_bounds x b s = record { bounds = λ y. if bytes_eq x y then b else s.bounds y; held = s.held }

-- the array x has elements now, each of them 0 or `.FALSE.`
abbrev pub allocated : List ℕ → List (ℤ × ℤ) → Store → Store
allocated x bs s = record {
  bounds = (with_bounds x (Some bs) s).bounds;
  held = λ c. if bytes_eq x c.name then nought_like (s.held c) else s.held c;
}

-- ---- agreement

abbrev pub names_of : Program → List (List ℕ)
names_of p = map (λ (d : Declaration). d.name) p.declarations

-- c is a cell of the store
abbrev pub IsCell : Store → Cell → Type 0
IsCell s c = cell_at c.name c.subscripts s ≡ Ok c

-- Each name that p declares has the same cells in both stores, and each of these holds the same value. What is no cell
-- now, since it isn't allocated,
-- has one kind in both
pub record Agree (p : Program) (s t : Store) : Type 0 where
  pub bounds : (x : List ℕ) → Contains (names_of p) x → s.bounds x ≡ t.bounds x
  pub held : (c : Cell) → Contains (names_of p) c.name → IsCell s c → s.held c ≡ t.held c
  pub kinds : (c : Cell) → Contains (names_of p) c.name → nought_like (s.held c) ≡ nought_like (t.held c)
