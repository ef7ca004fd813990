-- The numbers of nests and of their outermost loops.
use Rattle.std.specs.Prelude.{ℕ, ◌<◌, List, [], ◌∷◌}
use Rattle.find_nests.specs.Found.{Found, InNest, Kept}
use Rattle.nest.specs.Plain.{Nest, Part, Run, Turns, Choice, Label, Jump}

abbrev pub number_of_part : Part → ℕ
number_of_part (Run s) = 0
number_of_part (Turns l ps) = l.number
number_of_part (Choice bs ps) = 0
number_of_part (Label k) = 0
number_of_part (Jump k) = 0

-- the number of the outermost loop
abbrev pub loop_number : Nest → ℕ
loop_number n = number_of_part n.body

-- the nests among what was found
abbrev pub nests_among : List Found → List Nest
nests_among [] = []
nests_among (InNest n ∷ fs) = n ∷ nests_among fs
nests_among (Kept line r ∷ fs) = nests_among fs

-- the one nest has the lesser number, and so has its outermost loop
pub record ComesBefore (n m : Nest) : Type 0 where
  pub nests : n.number < m.number
  pub loops : loop_number n < loop_number m
