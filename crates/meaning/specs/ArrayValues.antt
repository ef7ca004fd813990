-- Arrays as values (ISO/IEC 1539:1991, sections 2.4.5, 7.1.5 and 13.13).
use Rattle.std.specs.Prelude.{Result, Ok, Err, ℕ, zero, suc, ◌+◌, ◌*◌, ◌-◌, nat_le}
use Rattle.std.specs.Prelude.{if◌then◌else◌, List, [], ◌∷◌, ◌++◌, map, length, take, drop}
use Rattle.std.specs.Str.{bytes_eq}
use Rattle.tree.specs.Steps.{◌>>=◌}
use Rattle.tree.specs.declared.ops.Value.{Value}
use Rattle.tree.specs.declared.ops.Fault.{Fault}
use Rattle.tree.specs.declared.ops.Fault.TheVariants.{Shape}
use Rattle.meaning.specs.Store.{column_major}

-- an array whose elements are known, in column-major order; a scalar has no extents and one element
pub record Array : Type 0 where
  pub extents : List ℕ
  pub values : List Value

-- An array whose elements are computed when they are asked for, and may then be faults. Positions count from 0; a
-- scalar has
-- its element at each position
pub record Elements (A : Type 0) : Type 0 where
  pub extents : List ℕ
  pub at : List ℕ → Result A Fault

-- f for each of a list in turn, up to the first fault
abbrev pub each : {A B : Type 0} → (A → Result B Fault) → List A → Result (List B) Fault
each f [] = Ok []
each f (x ∷ xs) = do
  y ← f x
  ys ← each f xs
  Ok (y ∷ ys)

-- ---- positions

-- k and the numbers after it, n in all
abbrev pub counted : ℕ → ℕ → List ℕ
counted k zero = []
counted k (suc n) = k ∷ counted (k + 1) n

-- all positions, in column-major order
abbrev pub positions : List ℕ → List (List ℕ)
positions ns = column_major (map (counted 0) ns)

-- the place of a position in that order
abbrev pub place_of : List ℕ → List ℕ → ℕ
place_of [] is = 0
place_of (n ∷ ns) [] = 0
place_of (n ∷ ns) (i ∷ is) = i + n * place_of ns is

abbrev pub size : List ℕ → ℕ
size [] = 1
size (n ∷ ns) = n * size ns

abbrev pub value_at_index : List Value → ℕ → Result Value Fault
value_at_index [] n = Err Shape
value_at_index (v ∷ vs) zero = Ok v
value_at_index (v ∷ vs) (suc n) = value_at_index vs n

abbrev pub settled : Array → Elements Value
settled a = record { extents = a.extents; at = λ is. value_at_index a.values (place_of a.extents is) }

abbrev pub scalar_array : Value → Array
scalar_array v = record { extents = []; values = v ∷ [] }

-- all elements, in column-major order
abbrev pub in_whole : Elements Value → Result Array Fault
in_whole g = do
  vs ← each g.at (positions g.extents)
  Ok (record { extents = g.extents; values = vs })

-- ---- operations, position by position

-- the extents of two operands: they conform where they are equal or one is a scalar
abbrev pub conform : List ℕ → List ℕ → Result (List ℕ) Fault
conform [] ns = Ok ns
conform (m ∷ ms) [] = Ok (m ∷ ms)
conform (m ∷ ms) (n ∷ ns) = if bytes_eq (m ∷ ms) (n ∷ ns) then Ok (m ∷ ms) else Err Shape

abbrev pub mapped : {A B : Type 0} → (A → Result B Fault) → Elements A → Elements B
mapped f g = record { extents = g.extents; at = λ is. (do x ← g.at is; f x) }

abbrev pub paired : {A B C : Type 0} → (A → B → Result C Fault) → Elements A → Elements B → Result (Elements C) Fault
paired f g h = do
  ns ← conform g.extents h.extents
  Ok (record { extents = ns; at = λ is. (do x ← g.at is; y ← h.at is; f x y) })

-- ---- SPREAD, TRANSPOSE, RESHAPE

abbrev pub with_extent : ℕ → ℕ → List ℕ → List ℕ
with_extent d n ns = take (d - 1) ns ++ n ∷ drop (d - 1) ns

abbrev pub without_dimension : ℕ → List ℕ → List ℕ
without_dimension d is = take (d - 1) is ++ drop d is

abbrev pub swapped : List ℕ → List ℕ
swapped (i ∷ j ∷ is) = j ∷ i ∷ is
swapped is = is

-- n copies along the new dimension d
abbrev pub spread : ℕ → ℕ → Array → Elements Value
spread d n a = record { extents = with_extent d n a.extents; at = λ is. (settled a).at (without_dimension d is) }

abbrev pub transposed : Array → Elements Value
transposed a = record { extents = swapped a.extents; at = λ is. (settled a).at (swapped is) }

abbrev pub reshaped : List ℕ → Array → Result (Elements Value) Fault
reshaped ns a =
    if nat_le (size ns) (length a.values) then Ok (settled (record { extents = ns; values = a.values })) else Err Shape
