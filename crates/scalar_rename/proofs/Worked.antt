-- Worked nests: two ranges with an assignment under a guard, and three ranges in an inner loop of a second nest.
use Rattle.std.proofs.Common.{◌≡◌, refl, ap, ap₂, ℕ, pos, Some, None, List, [], ◌∷◌, ◌++◌, arith}
use Rattle.std.proofs.lemmas.Fmt.{decimal_digit}
use Rattle.std.specs.Prelude.{codes}
use Rattle.tree.specs.Plain.{Declaration, Expression, Given, Number, Named, Binary, Unary, Only, Reference, no_statements, no_subscripts, subscript}
use Rattle.tree.specs.declared.ops.Kind.{Kind}
use Rattle.tree.specs.declared.ops.Kind.TheVariants.{Integer, Logical}
use Rattle.tree.specs.declared.ops.Op.TheVariants.{Add, Not}
use Rattle.nest.specs.Plain.{Loop, Made, Nest, Part, Run, Turns, no_parts, part}
use Rattle.scalar_rename.specs.Ranges.{range_name}
use Rattle.scalar_rename.specs.Renamed.{renamed}

name : List ℕ → Expression
name x = Named x no_subscripts

item : List ℕ → Expression
item x = Named x (subscript (Only (name (codes "FV_LOOP_1"))) no_subscripts)

place : List ℕ → Reference
place x = record { name = x; subscripts = subscript (Only (name (codes "FV_LOOP_1"))) no_subscripts }

whole : List ℕ → Reference
whole x = record { name = x; subscripts = no_subscripts }

always : Reference → Expression → Part
always r e = Run (record { line = 3; guard = None; left = r; right = e })

under : Expression → Reference → Expression → Part
under g r e = Run (record { line = 3; guard = Some g; left = r; right = e })

loop : ℕ → List ℕ → Loop
loop number variable = record { number = number; variable = variable; first = Number (pos 1); last = Number (pos 10); step = pos 1; trip = None }

declared : List ℕ → Kind → Declaration
declared x k = record { name = x; kind = k; extent = Given [] }

array : List ℕ → Declaration
array x = record { name = x; kind = Integer; extent = Given ((pos 1, pos 10) ∷ []) }

made : List ℕ → Kind → Made
made x k = record { name = x; kind = k; extents = [] }

nest : ℕ → List Declaration → List Made → Part → Nest
nest number ds as' body = record {
  number = number;
  line = 2;
  title = None;
  body = body;
  declarations = ds;
  symbols = [];
  made = as';
  after = no_statements;
  masks = 0;
  copies = 0;
}

first_range : List ℕ
first_range = range_name 1 (codes "T") 1

-- T = A(I), B(I) = T where a mask is true T = 3, T = T + C(I), C(I) = T: what is guarded stays in its range, the right
-- side of the assignment that begins the last range has the name of the one before, and the last range is T itself
two-ranges : renamed (nest 1 (array (codes "A") ∷ array (codes "B") ∷ array (codes "C") ∷ declared (codes "T") Integer ∷ []) (made (codes "FV_MASK_1") Logical ∷ [])
    (Turns (loop 1 (codes "FV_LOOP_1")) (part (always (whole (codes "T")) (item (codes "A"))) (part (under (name (codes "FV_MASK_1")) (whole (codes "T")) (Number (pos 3)))
    (part (always (place (codes "B")) (name (codes "T"))) (part (always (whole (codes "T")) (Binary Add (name (codes "T")) (item (codes "C")))) (part (always (place (codes "C")) (name (codes "T"))) no_parts)))))))
    ≡ nest 1 (array (codes "A") ∷ array (codes "B") ∷ array (codes "C") ∷ declared (codes "T") Integer ∷ []) (made (codes "FV_MASK_1") Logical ∷ made first_range Integer ∷ [])
    (Turns (loop 1 (codes "FV_LOOP_1")) (part (always (whole first_range) (item (codes "A"))) (part (under (name (codes "FV_MASK_1")) (whole first_range) (Number (pos 3)))
    (part (always (place (codes "B")) (name first_range)) (part (always (whole (codes "T")) (Binary Add (name first_range) (item (codes "C")))) (part (always (place (codes "C")) (name (codes "T"))) no_parts))))))
unfolding renamed name item place whole always under loop declared array made nest first_range
two-ranges = refl

first_logical_range : List ℕ
first_logical_range = range_name 2 (codes "L") 1

second_logical_range : List ℕ
second_logical_range = range_name 2 (codes "L") 2

-- L = M, L = .NOT. L, a loop without L, L = L, in a loop of the second nest of a program
three-ranges : renamed (nest 2 (declared (codes "L") Logical ∷ declared (codes "M") Logical ∷ []) []
    (Turns (loop 2 (codes "FV_LOOP_2")) (part (Turns (loop 3 (codes "FV_LOOP_3")) (part (always (whole (codes "L")) (name (codes "M"))) (part (always (whole (codes "L")) (Unary Not (name (codes "L"))))
    (part (Turns (loop 4 (codes "FV_LOOP_4")) (part (always (whole (codes "M")) (name (codes "M"))) no_parts)) (part (always (whole (codes "L")) (name (codes "L"))) no_parts))))) no_parts)))
    ≡ nest 2 (declared (codes "L") Logical ∷ declared (codes "M") Logical ∷ []) (made first_logical_range Logical ∷ made second_logical_range Logical ∷ [])
    (Turns (loop 2 (codes "FV_LOOP_2")) (part (Turns (loop 3 (codes "FV_LOOP_3")) (part (always (whole first_logical_range) (name (codes "M"))) (part (always (whole second_logical_range) (Unary Not (name first_logical_range)))
    (part (Turns (loop 4 (codes "FV_LOOP_4")) (part (always (whole (codes "M")) (name (codes "M"))) no_parts)) (part (always (whole (codes "L")) (name second_logical_range)) no_parts))))) no_parts))
unfolding renamed name item place whole always under loop declared array made nest first_logical_range second_logical_range
three-ranges = refl

-- where the first statement with T reads it, or gives it a value under a guard, nothing is renamed
not-renamed : renamed (nest 1 (declared (codes "M") Logical ∷ declared (codes "T") Integer ∷ declared (codes "U") Integer ∷ []) []
    (Turns (loop 1 (codes "FV_LOOP_1")) (part (always (whole (codes "T")) (name (codes "T"))) (part (always (whole (codes "T")) (Number (pos 1)))
    (part (under (name (codes "M")) (whole (codes "U")) (Number (pos 1))) (part (always (whole (codes "U")) (Number (pos 1))) (part (always (whole (codes "U")) (Number (pos 2))) no_parts)))))))
    ≡ nest 1 (declared (codes "M") Logical ∷ declared (codes "T") Integer ∷ declared (codes "U") Integer ∷ []) []
    (Turns (loop 1 (codes "FV_LOOP_1")) (part (always (whole (codes "T")) (name (codes "T"))) (part (always (whole (codes "T")) (Number (pos 1)))
    (part (under (name (codes "M")) (whole (codes "U")) (Number (pos 1))) (part (always (whole (codes "U")) (Number (pos 1))) (part (always (whole (codes "U")) (Number (pos 2))) no_parts))))))
unfolding renamed name item place whole always under loop declared array made nest
not-renamed = refl

-- ---- the names

first-of-T : range_name 1 (codes "T") 1 ≡ codes "FV_NAME_T_1"
first-of-T = ap (λ d. ((codes "FV_NAME_" ++ codes "T") ++ (codes "_" ++ d)) ++ []) (decimal_digit 1 (omega arith))

first-of-L : range_name 2 (codes "L") 1 ≡ codes "FV_NAME_L_1_2"
first-of-L = ap₂ (λ d e. ((codes "FV_NAME_" ++ codes "L") ++ (codes "_" ++ d)) ++ (codes "_" ++ e)) (decimal_digit 1 (omega arith)) (decimal_digit 2 (omega arith))

second-of-L : range_name 2 (codes "L") 2 ≡ codes "FV_NAME_L_2_2"
second-of-L = ap₂ (λ d e. ((codes "FV_NAME_" ++ codes "L") ++ (codes "_" ++ d)) ++ (codes "_" ++ e)) (decimal_digit 2 (omega arith)) (decimal_digit 2 (omega arith))
