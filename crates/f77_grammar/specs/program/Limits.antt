-- The values of symbolic constants and bounds (ANSI X3.9-1978, sections 5.1, 6.7 and 8.6), and the limits of a program.
-- A dialect `d` says which range INTEGER has.
use Rattle.std.specs.Prelude.{Result, Ok, Err, ℕ, ◌+◌, ◌*◌, nat_lt, nat_le, ℤ, pos, int_lt, Bool, true, false}
use Rattle.std.specs.Prelude.{◌&&◌, ◌||◌, None, Some, is_none, is_err, if◌then◌else◌, List, [], ◌∷◌, map, length, sum}
use Rattle.std.specs.Str.{bytes_eq}
use Rattle.std.specs.List.{list_any, filter, flat_map}
use Rattle.tree.specs.Limits.{program_names77, block_depth77, most_array_elements}
use Rattle.tree.specs.Steps.{◌>>=◌}
use Rattle.tree.specs.Plain.{Expression}
use Rattle.tree.specs.declared.ops.Value.{Value}
use Rattle.tree.specs.declared.ops.Value.TheVariants.{Int}
use Rattle.tree.specs.declared.ops.Fault.{Fault}
use Rattle.tree.specs.declared.ops.Fault.TheVariants.{Overflow}
use Rattle.meaning.specs.Store.{Store, size_of}
use Rattle.meaning.specs.Value.{value_of, number_of, is_in_range}
use Rattle.meaning.specs.Dialect.{Dialect}
use Rattle.f77_grammar.specs.Statement77.{Entity, NamedConstant, Labelled, Statement77, Declare, Dimension, Constants}
use Rattle.f77_grammar.specs.Statement77.{Program, ImplicitNone, Assign, Go, Test, If, ElseIf, Else, EndIf, Do, EndDo}
use Rattle.f77_grammar.specs.Statement77.{Continue, Stop, Read, Print, End}
use Rattle.meaning.specs.Names.{is_among}
use Rattle.f77_grammar.specs.program.Text.{Place77, open_loops, open_ifs}
use Rattle.f77_grammar.specs.program.Uses.{Use77, uses_in_text, is_variable, is_constant_name}

-- ---- symbolic constants: each has the value of its expression, where the constants before it have theirs

abbrev pub in_range : Dialect → Value → Result Value Fault
in_range d v = if is_in_range d.bits v then Ok v else Err Overflow

abbrev pub named_constant_value : Dialect → Expression → Store → Result Value Fault
named_constant_value d e s = do
  v ← value_of d e s
  in_range d v

-- no name has a value
abbrev pub no_values : Store
no_values = record { bounds = λ x. None; held = λ c. Int (pos 0) }

abbrev pub with_named_value : List ℕ → Result Value Fault → Store → Store
with_named_value x (Ok v) s =
    record {
      bounds = λ y. if bytes_eq x y then Some [] else s.bounds y;
      held = λ c. if bytes_eq x c.name then v else s.held c;
    }
with_named_value x (Err fault) s = s

abbrev pub with_named_constant : Dialect → NamedConstant → Store → Store
with_named_constant d c s = with_named_value c.name (named_constant_value d c.value s) s

abbrev pub with_constants : Dialect → List NamedConstant → Store → Store
with_constants d [] s = s
with_constants d (c ∷ cs) s = with_constants d cs (with_named_constant d c s)

abbrev pub definitions_of : Statement77 → List NamedConstant
definitions_of (Constants cs) = cs
definitions_of _ = []

-- the values of all symbolic constants of a program; one whose expression faults, or leaves the range of INTEGER, has
-- none
abbrev pub constants_of : Dialect → List Labelled → Store
constants_of d text = with_constants d (flat_map (λ (x : Labelled). definitions_of x.statement) text) no_values

-- ---- arrays

abbrev pub entities_of : Statement77 → List Entity
entities_of (Declare k es) = es
entities_of (Dimension es) = es
entities_of _ = []

-- the bounds that a statement declares, a list for each of its arrays
abbrev pub bounds_declared : Statement77 → List (List (Expression × Expression))
bounds_declared s = map (λ (e : Entity). e.bounds) (entities_of s)

abbrev pub has_bounds : List (Expression × Expression) → Bool
has_bounds [] = false
has_bounds (b ∷ bs) = true

abbrev pub bounds_among : List Entity → List ℕ → List (Expression × Expression)
bounds_among [] x = []
bounds_among (e ∷ es) x = if has_bounds e.bounds && bytes_eq e.name x then e.bounds else bounds_among es x

-- the bounds that a declaration gives the name, none for a scalar
abbrev pub bounds_of_name : List Labelled → List ℕ → List (Expression × Expression)
bounds_of_name text x = bounds_among (flat_map (λ (y : Labelled). entities_of y.statement) text) x

-- the numbers that two bounds have
abbrev pub dimension_of : Dialect → Store → Expression × Expression → Result (ℤ × ℤ) Fault
dimension_of d s b = do
  lower ← number_of d b.0 s
  upper ← number_of d b.1 s
  Ok (lower, upper)

abbrev pub size_in : Result (ℤ × ℤ) Fault → ℕ
size_in (Ok b) = size_of b
size_in (Err fault) = 0

abbrev pub product_of_sizes : Dialect → Store → List (Expression × Expression) → ℕ
product_of_sizes d s [] = 1
product_of_sizes d s (b ∷ bs) = size_in (dimension_of d s b) * product_of_sizes d s bs

-- the number of elements, exact; 0 where a bound faults or an upper bound is below its lower bound, and for a scalar
abbrev pub elements : Dialect → Store → List (Expression × Expression) → ℕ
elements d s [] = 0
elements d s (b ∷ bs) = product_of_sizes d s (b ∷ bs)

-- the elements of all arrays that these statements declare
abbrev pub declared_elements : Dialect → Store → List Labelled → ℕ
declared_elements d s text = sum (map (elements d s) (flat_map (λ (x : Labelled). bounds_declared x.statement) text))

-- ---- the five limits, at a place

-- each name once
abbrev pub once : List (List ℕ) → List (List ℕ)
once [] = []
once (x ∷ xs) = if is_among xs x then once xs else x ∷ once xs

-- the variables and symbolic constants that stand in these statements
abbrev pub counted_names : List Use77 → List Labelled → List (List ℕ)
counted_names us text =
    let is_counted = λ (u : Use77). is_variable us u.name || is_constant_name us u.name in
    once (map (λ (u : Use77). u.name) (filter is_counted (uses_in_text text)))

-- a variable or symbolic constant beyond their limit stands here, or stood before
abbrev pub has_many_names : List Use77 → Place77 → Bool
has_many_names us p = nat_lt program_names77 (length (counted_names us (p.here ∷ p.before)))

-- a block IF, a logical IF or a loop
abbrev pub opens_block77 : Statement77 → Bool
opens_block77 (If c) = true
opens_block77 (Test c s) = true
opens_block77 (Do label x a b c) = true
opens_block77 (Program x) = false
opens_block77 ImplicitNone = false
opens_block77 (Declare k es) = false
opens_block77 (Dimension es) = false
opens_block77 (Constants ds) = false
opens_block77 (Assign left e) = false
opens_block77 (Go n) = false
opens_block77 (ElseIf c) = false
opens_block77 Else = false
opens_block77 EndIf = false
opens_block77 EndDo = false
opens_block77 Continue = false
opens_block77 Stop = false
opens_block77 (Read is) = false
opens_block77 (Print is) = false
opens_block77 End = false

-- what is opened here stands in as many blocks as there may be
abbrev pub has_many_blocks : Place77 → Bool
has_many_blocks p = opens_block77 p.here.statement && nat_le block_depth77 (length (open_ifs p) + length (open_loops p))

abbrev pub is_reversed : Result (ℤ × ℤ) Fault → Bool
is_reversed (Ok b) = int_lt b.1 b.0
is_reversed (Err fault) = false

-- an upper bound is below its lower bound
abbrev pub has_reversed_bounds : Dialect → Store → Place77 → Bool
has_reversed_bounds d s p =
    list_any (λ bs. list_any (λ b. is_reversed (dimension_of d s b)) bs) (bounds_declared p.here.statement)

-- the arrays declared up to here have too many elements
abbrev pub has_many_elements : Dialect → Store → Place77 → Bool
has_many_elements d s p = nat_lt most_array_elements (declared_elements d s (p.here ∷ p.before))

abbrev pub is_no_constant : Dialect → Store → Expression → Bool
is_no_constant d s e = is_err (named_constant_value d e s)

-- a symbolic constant or a bound faults, or leaves the range of INTEGER
abbrev pub has_bad_constant : Dialect → Store → Place77 → Bool
has_bad_constant d s p =
    list_any (λ (c : NamedConstant). is_none (s.bounds c.name)) (definitions_of p.here.statement)
    || list_any (λ bs. list_any (λ b. is_no_constant d s b.0 || is_no_constant d s b.1) bs)
    (bounds_declared p.here.statement)
