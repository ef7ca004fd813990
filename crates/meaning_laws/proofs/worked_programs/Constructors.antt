-- Constructors with loops, of which the first one is the innermost, computed.
use Rattle.std.proofs.Common.{refl, [], ◌∷◌}
use Rattle.meaning.specs.declared.End.TheVariants.{Done, Fault}
use Rattle.tree.specs.declared.ops.Fault.TheVariants.{ZeroDivide}
use Rattle.meaning_laws.specs.worked_programs.Words.{lines}
use Rattle.meaning_laws.specs.worked_programs.Comes.{Comes}
use Rattle.meaning_laws.specs.worked_programs.Constructors as decks
use Rattle.meaning_laws.proofs.worked_programs.Computing.{computed}

pub two_loops : Comes decks.two_loops [] (lines (" 11 12 13 22 23 33" ∷ " 7 0" ∷ [])) Done 4
unfolding computed
two_loops = record { written_is = refl; ending_is = refl; steps_are = refl }

pub inner_hides_outer : Comes decks.inner_hides_outer [] (lines (" 1 1 2 1 2 3" ∷ [])) Done 1
unfolding computed
inner_hides_outer = record { written_is = refl; ending_is = refl; steps_are = refl }

pub loop_without_turns : Comes decks.loop_without_turns [] (lines (" 0" ∷ [])) (Fault ZeroDivide 3) 2
unfolding computed
loop_without_turns = record { written_is = refl; ending_is = refl; steps_are = refl }
