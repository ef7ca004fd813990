-- A program in which loops that gather have their forms keeps the meaning that the program keeps.
use Rattle.std.specs.Prelude.{◌≡◌, ℕ, true, All, List, Contains}
use Rattle.tree.specs.Plain.{Program}
use Rattle.meaning.specs.Keeping.{KeepsMeaning}
use Rattle.tree.specs.declared.width.Width.{Width}
use Rattle.meaning.specs.Profile90.{IsProgram90}
use Rattle.meaning.specs.Reads.{names_in_block}
use Rattle.meaning.specs.Store.{names_of}
use Rattle.reductions.specs.Finding.{is_source}
use Rattle.reductions.specs.Reduced.{reduced_program}

-- q has names of FORTRAN 77 alone, and p declares them too
abbrev pub HasSourceNames : Program → Program → Type 0
HasSourceNames q p = (x : List ℕ) → Contains (names_of q) x → (is_source x ≡ true) × Contains (names_of p) x

-- Where p keeps the meaning of a source q, so does the reduced program, if it declares what stands in it
abbrev pub ReducedKeepsMeaning : Width → Type 0
ReducedKeepsMeaning width = (q p : Program) (input : List ℕ) → HasSourceNames q p → IsProgram90 p
    → All (Contains (names_of (reduced_program p))) (names_in_block (reduced_program p).body)
    → KeepsMeaning width q p input → KeepsMeaning width q (reduced_program p) input
