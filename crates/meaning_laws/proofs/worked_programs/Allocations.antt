-- ALLOCATE and DEALLOCATE, computed.
use Rattle.std.proofs.Common.{refl, [], ◌∷◌}
use Rattle.meaning.specs.declared.End.TheVariants.{Done, Fault}
use Rattle.tree.specs.declared.ops.Fault.TheVariants.{Allocated, Bounds, ZeroDivide}
use Rattle.meaning_laws.specs.worked_programs.Words.{lines}
use Rattle.meaning_laws.specs.worked_programs.Comes.{Comes}
use Rattle.meaning_laws.specs.worked_programs.Allocations as decks
use Rattle.meaning_laws.proofs.worked_programs.Computing.{computed}

pub allocated_twice : Comes decks.allocated_twice [] (lines (" 4 4" ∷ [])) (Fault Allocated 5) 6
unfolding computed
allocated_twice = record { written_is = refl; ending_is = refl; steps_are = refl }

pub allocated_again : Comes decks.allocated_again [] (lines (" 0 5" ∷ [])) Done 9
unfolding computed
allocated_again = record { written_is = refl; ending_is = refl; steps_are = refl }

pub extents_come_first : Comes decks.extents_come_first [] [] (Fault ZeroDivide 4) 2
unfolding computed
extents_come_first = record { written_is = refl; ending_is = refl; steps_are = refl }

pub negative_extent : Comes decks.negative_extent [] (lines (" 0" ∷ [])) (Fault Bounds 4) 3
unfolding computed
negative_extent = record { written_is = refl; ending_is = refl; steps_are = refl }

pub not_allocated : Comes decks.not_allocated [] [] (Fault ZeroDivide 3) 1
unfolding computed
not_allocated = record { written_is = refl; ending_is = refl; steps_are = refl }

pub used_before_allocate : Comes decks.used_before_allocate [] [] (Fault Allocated 2) 1
unfolding computed
used_before_allocate = record { written_is = refl; ending_is = refl; steps_are = refl }

pub deallocated_twice : Comes decks.deallocated_twice [] [] (Fault Allocated 4) 3
unfolding computed
deallocated_twice = record { written_is = refl; ending_is = refl; steps_are = refl }
