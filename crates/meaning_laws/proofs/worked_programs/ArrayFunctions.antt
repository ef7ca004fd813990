-- SPREAD, TRANSPOSE, RESHAPE, and the reductions, computed.
use Rattle.std.proofs.Common.{refl, [], ◌∷◌}
use Rattle.meaning.specs.declared.End.TheVariants.{Done, Fault}
use Rattle.tree.specs.declared.ops.Fault.TheVariants.{Overflow, Shape}
use Rattle.meaning_laws.specs.worked_programs.Words.{lines}
use Rattle.meaning_laws.specs.worked_programs.Comes.{Comes}
use Rattle.meaning_laws.specs.worked_programs.ArrayFunctions as decks
use Rattle.meaning_laws.proofs.worked_programs.Computing.{computed}

pub spread_twice : Comes decks.spread_twice [] (lines (" 1 1 2 2 1 1 2 2 1 1 2 2" ∷ " 1 1 1 1 1 1 2 2 2 2 2 2" ∷ [])) Done 5
unfolding computed
spread_twice = record { written_is = refl; ending_is = refl; steps_are = refl }

pub spread_beside_an_array : Comes decks.spread_beside_an_array [] (lines (" 11 21 12 22 13 23" ∷ [])) Done 15
unfolding computed
spread_beside_an_array = record { written_is = refl; ending_is = refl; steps_are = refl }

pub spread_to_nothing : Comes decks.spread_to_nothing [] (lines (" 0 8" ∷ [])) Done 1
unfolding computed
spread_to_nothing = record { written_is = refl; ending_is = refl; steps_are = refl }

pub transposed : Comes decks.transposed [] (lines (" 2 6 10 4 8 12" ∷ " 1 2 3 4 5 6" ∷ [])) Done 16
unfolding computed
transposed = record { written_is = refl; ending_is = refl; steps_are = refl }

pub reshaped_with_too_few : Comes decks.reshaped_with_too_few [] (lines (" 0 0 0" ∷ [])) (Fault Shape 3) 2
unfolding computed
reshaped_with_too_few = record { written_is = refl; ending_is = refl; steps_are = refl }

pub reductions_of_nothing : Comes decks.reductions_of_nothing [] (lines (" 0 -2147483648 2147483647" ∷ [])) Done 1
unfolding computed
reductions_of_nothing = record { written_is = refl; ending_is = refl; steps_are = refl }

pub partial_sum_past_128_bits : Comes decks.partial_sum_past_128_bits [] (lines (" 0" ∷ [])) (Fault Overflow 2) 2
unfolding computed
partial_sum_past_128_bits = record { written_is = refl; ending_is = refl; steps_are = refl }
