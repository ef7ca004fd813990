-- A symbol that comes in among the symbols of a nest, in byte order; and what the places of symbols in a form are by
-- the new list.
use Rattle.std.specs.Prelude.{ℕ, ◌+◌, nat_le, ℤ, pos, if◌then◌else◌, List, [], ◌∷◌, insert, map}
use Rattle.std.specs.Cmp.Lexicographic.{slice_cmp}
use Rattle.std.specs.Ordering.{nat_cmp, int_eq}
use Rattle.std.specs.declared.cmp.Ordering.{Ordering}
use Rattle.std.specs.declared.cmp.Ordering.TheVariants.{Less, Equal, Greater}
use Rattle.nest.specs.declared.parts.Trip.{Trip}
use Rattle.subscripts.specs.declared.affine.Affine.{Affine}

-- ---- names

-- by where the first name stands to x, and how many of those behind it stand before x
abbrev pub place_by : Ordering → ℕ → ℕ
place_by Less k = k + 1
place_by Equal k = 0
place_by Greater k = 0

-- how many of the names, which are in byte order, stand before x
abbrev pub place_among : List (List ℕ) → List ℕ → ℕ
place_among [] x = 0
place_among (y ∷ ys) x = place_by (slice_cmp nat_cmp y x) (place_among ys x)

-- with x at its place
abbrev pub with_name_placed : List (List ℕ) → List ℕ → List (List ℕ)
with_name_placed xs x = insert xs (place_among xs x) x

-- ---- forms, where a symbol has come in at a place

-- what stood there or behind it stands one place further
abbrev pub shifted_place : ℕ → ℕ → ℕ
shifted_place at j = if nat_le at j then j + 1 else j

-- a term that isn't in use stays
abbrev pub shifted_term : ℕ → ℕ × ℤ → ℕ × ℤ
shifted_term at t = if int_eq t.1 (pos 0) then t else (shifted_place at t.0, t.1)

abbrev pub shifted : ℕ → Affine → Affine
shifted at a = record a { syms = map (shifted_term at) a.syms }

abbrev pub shifted_trip : ℕ → Trip → Trip
shifted_trip at t = record t { top = shifted at t.top }
