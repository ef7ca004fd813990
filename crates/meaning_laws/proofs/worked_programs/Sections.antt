-- What sections select and store: strides of either sign, nothing at all, both sides of one array, computed.
use Rattle.std.proofs.Common.{refl, [], ◌∷◌}
use Rattle.meaning.specs.declared.End.TheVariants.{Done}
use Rattle.meaning_laws.specs.worked_programs.Words.{lines}
use Rattle.meaning_laws.specs.worked_programs.Comes.{Comes}
use Rattle.meaning_laws.specs.worked_programs.Sections as decks
use Rattle.meaning_laws.proofs.worked_programs.Computing.{computed}

pub overlap_to_the_right : Comes decks.overlap_to_the_right [] (lines (" 1 1 2 3 4" ∷ [])) Done 12
unfolding computed
overlap_to_the_right = record { written_is = refl; ending_is = refl; steps_are = refl }

pub overlap_to_the_left : Comes decks.overlap_to_the_left [] (lines (" 3 5 7 9 5" ∷ [])) Done 12
unfolding computed
overlap_to_the_left = record { written_is = refl; ending_is = refl; steps_are = refl }

pub reversed_in_place : Comes decks.reversed_in_place [] (lines (" 5 4 3 2 1 1 4 5 2" ∷ [])) Done 13
unfolding computed
reversed_in_place = record { written_is = refl; ending_is = refl; steps_are = refl }

pub strides_on_both_sides : Comes decks.strides_on_both_sides [] (lines (" 1 50 5 20 2 50 5 10 3" ∷ [])) Done 20
unfolding computed
strides_on_both_sides = record { written_is = refl; ending_is = refl; steps_are = refl }

pub no_elements : Comes decks.no_elements [] (lines (" 7 7 7" ∷ "" ∷ [])) Done 12
unfolding computed
no_elements = record { written_is = refl; ending_is = refl; steps_are = refl }

pub rows_and_columns : Comes decks.rows_and_columns [] (lines (" 1 5 103 103 5 1" ∷ " 1 103 5 5 103 1" ∷ [])) Done 16
unfolding computed
rows_and_columns = record { written_is = refl; ending_is = refl; steps_are = refl }

pub element_named_twice : Comes decks.element_named_twice [] (lines (" 41 0 21 0" ∷ [])) Done 14
unfolding computed
element_named_twice = record { written_is = refl; ending_is = refl; steps_are = refl }
