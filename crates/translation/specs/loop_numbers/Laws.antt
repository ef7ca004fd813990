-- No two nests of a program have one number, nor have their outermost loops.
use Rattle.std.specs.Prelude.{◌≡◌, ◌≤◌, [], Contains}
use Rattle.components.specs.Lists.{Pairwise}
use Rattle.find_nests.specs.Found.{InNest, found_in}
use Rattle.find_nests.specs.Loops.{SurroundedLoop, loops_in_block}
use Rattle.meaning.specs.Dialect.{fortran77}
use Rattle.tree.specs.declared.width.Width.{Width}
use Rattle.meaning.specs.Profile77.{IsProgram77}
use Rattle.tree.specs.Plain.{Program}
use Rattle.find_nests.specs.nest_parts.Numbers.{next_loop_number}
use Rattle.nest.specs.Plain.{Nest}
use Rattle.translation.specs.loop_numbers.Numbers.{ComesBefore, loop_number, nests_among}

-- a loop is known by its number
abbrev pub LoopsAreNumbered : (width : Width) → Type 0
LoopsAreNumbered width = (p : Program) (l m : SurroundedLoop) → IsProgram77 (fortran77 width) p
    → Contains (loops_in_block 0 [] p.body) l → Contains (loops_in_block 0 [] p.body) m
    → next_loop_number l.loop.before ≡ next_loop_number m.loop.before → l ≡ m

-- nests are numbered in the order of their outermost loops
abbrev pub NestsAreNumbered : (width : Width) → Type 0
NestsAreNumbered width = (p : Program) → IsProgram77 (fortran77 width) p
    → Pairwise ComesBefore (nests_among (found_in p))

-- a number counts from 1
abbrev pub LoopNumbersCount : Type 0
LoopNumbersCount = (p : Program) (n : Nest) → Contains (found_in p) (InNest n) → 1 ≤ loop_number n
