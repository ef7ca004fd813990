-- What the search finds, as plain nests.
use Rattle.nest.specs.View.{nest_of}
use Rattle.find_nests.specs.declared.search.Found.{Found as Found'}
use Rattle.find_nests.specs.declared.search.Found.TheVariants.{Nest as Nest', Kept as Kept'}
use Rattle.find_nests.specs.Found.{Found, InNest, Kept}

abbrev pub found_of : Found' → Found
found_of (Nest' n) = InNest (nest_of n)
found_of (Kept' line r) = Kept line r
