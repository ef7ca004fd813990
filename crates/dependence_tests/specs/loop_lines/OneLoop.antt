-- The one loop of a pairing: the iterations that it picks out of two lists of iterations, and its line.
use Rattle.std.specs.Prelude.{◌≡◌, ℕ, ℤ, pos, List, [], ◌∷◌, ◌-ℤ◌, ◌<◌, length, slice_index_or, slice_set}
use Rattle.subscripts.specs.Classes.{Loop, Shared, First, Second, at_place, first_of, second_of}
use Rattle.subscripts.specs.declared.affine.Dir.{Dir}
use Rattle.subscripts.specs.declared.affine.Dir.TheVariants.{Any}
use Rattle.subscripts.specs.declared.affine.Dirs.{Dirs}
use Rattle.subscripts.specs.declared.pairing.Pairing.{Pairing}
use Rattle.dependence_tests.specs.declared.loop_lines.line_points.points.Line.{Line}

-- the lists of a pairing are of seven places
pub record HasSevenLists (p : Pairing) : Type 0 where
  pub from_loops : length p.from.loops ≡ 7
  pub to_loops : length p.to.loops ≡ 7
  pub from_spans : length p.from_spans ≡ 7
  pub to_spans : length p.to_spans ≡ 7

-- the lists of a pairing and of directions are of seven places
pub record HasSevenPlaces (p : Pairing) (d : Dirs) : Type 0 where
  pub from_loops : length p.from.loops ≡ 7
  pub to_loops : length p.to.loops ≡ 7
  pub from_spans : length p.from_spans ≡ 7
  pub to_spans : length p.to_spans ≡ 7
  pub dirs : length d.at ≡ 7

-- one of the seven places of a list
abbrev pub IsWithinPlaces : Loop → Type 0
IsWithinPlaces (Shared k) = k < 7
IsWithinPlaces (First k) = k < 7
IsWithinPlaces (Second k) = k < 7

-- neither side has a coefficient at the place
pub record HasNoneAt (p : Pairing) (k : ℕ) : Type 0 where
  pub first : at_place p.from.loops k ≡ pos 0
  pub second : at_place p.to.loops k ≡ pos 0

-- the direction of a loop; none is asked for of one that stands round one reference alone
abbrev pub dir_of : Dirs → Loop → Dir
dir_of d (Shared k) = slice_index_or d.at k Any
dir_of d (First k) = Any
dir_of d (Second k) = Any

-- the first iterations of seven loops
abbrev pub ones : List ℤ
ones = pos 1 ∷ pos 1 ∷ pos 1 ∷ pos 1 ∷ pos 1 ∷ pos 1 ∷ pos 1 ∷ []

-- the iterations round either reference in which the loop has this one and each other loop its first one
abbrev pub first_point : Loop → ℤ → List ℤ
first_point (Shared k) i = slice_set ones k i
first_point (First k) i = slice_set ones k i
first_point (Second k) i = ones

abbrev pub second_point : Loop → ℤ → List ℤ
second_point (Shared k) j = slice_set ones k j
second_point (First k) j = ones
second_point (Second k) j = slice_set ones k j

-- the line of a pairing of one loop
pub record IsLineOf (p : Pairing) (l : Loop) (line : Line) : Type 0 where
  pub first : line.first ≡ first_of p l
  pub second : line.second ≡ pos 0 -ℤ second_of p l
  pub constant : line.constant ≡ p.to.constant -ℤ p.from.constant

-- the loop's iteration in each list; 1 in that of a reference that it doesn't stand round
abbrev pub first_at : Loop → List ℤ → ℤ
first_at (Shared k) x = at_place x k
first_at (First k) x = at_place x k
first_at (Second k) x = pos 1

abbrev pub second_at : Loop → List ℤ → ℤ
second_at (Shared k) y = at_place y k
second_at (First k) y = pos 1
second_at (Second k) y = at_place y k
