-- WHERE: what is performed where the mask is true, and what is performed anyhow, computed.
use Rattle.std.proofs.Common.{refl, [], ◌∷◌}
use Rattle.meaning.specs.declared.End.TheVariants.{Done, Fault}
use Rattle.tree.specs.declared.ops.Fault.TheVariants.{ZeroDivide}
use Rattle.meaning_laws.specs.worked_programs.Words.{lines}
use Rattle.meaning_laws.specs.worked_programs.Comes.{Comes}
use Rattle.meaning_laws.specs.worked_programs.Masks as decks
use Rattle.meaning_laws.proofs.worked_programs.Computing.{computed}

pub guarded_division : Comes decks.guarded_division (lines ("4 0 -5 0" ∷ [])) (lines (" 25 1 -20 1" ∷ " 25 33 -20 33" ∷ [])) Done 23
unfolding computed
guarded_division = record { written_is = refl; ending_is = refl; steps_are = refl }

pub scalars_under_a_false_mask : Comes decks.scalars_under_a_false_mask [] (lines (" 0 0 0" ∷ [])) Done 2
unfolding computed
scalars_under_a_false_mask = record { written_is = refl; ending_is = refl; steps_are = refl }

pub scalars_under_a_true_mask : Comes decks.scalars_under_a_true_mask [] [] (Fault ZeroDivide 2) 1
unfolding computed
scalars_under_a_true_mask = record { written_is = refl; ending_is = refl; steps_are = refl }

pub subscript_under_a_false_mask : Comes decks.subscript_under_a_false_mask [] [] (Fault ZeroDivide 2) 1
unfolding computed
subscript_under_a_false_mask = record { written_is = refl; ending_is = refl; steps_are = refl }

pub sum_under_a_false_mask : Comes decks.sum_under_a_false_mask [] [] (Fault ZeroDivide 2) 1
unfolding computed
sum_under_a_false_mask = record { written_is = refl; ending_is = refl; steps_are = refl }

pub mask_is_known_first : Comes decks.mask_is_known_first [] (lines (" 1 1 0 0" ∷ [])) Done 8
unfolding computed
mask_is_known_first = record { written_is = refl; ending_is = refl; steps_are = refl }
