-- The marked statements of a reduced program: one that isn't gathered stays as it is, and a form has the mark of the
-- statement in its loop, one level further out.
use Rattle.std.specs.Prelude.{◌≡◌, ℕ, List, [], map, Contains}
use Rattle.tree.specs.Plain.{Program}
use Rattle.tree.specs.declared.functions.Red.{Red}
use Rattle.tree.specs.declared.stmts.Mark.{Mark}
use Rattle.emission.specs.emission_marks.Marks.{Marked, marked_in}
use Rattle.reductions.specs.Finding.{context_of}
use Rattle.reductions.specs.Reduced.{done_in_block, outward, reduced_program}
use Rattle.translation.specs.program_marks.Marks.{mark_numbers_of}

-- the nest and the statement
abbrev pub done_numbers_of : Mark × Red → ℕ × ℕ
done_numbers_of d = (d.0.nest, d.0.stmt)

-- of a form: it stands in the place of a marked statement
pub record IsFormed (before after : List Marked) (d : Mark × Red) : Type 0 where
  pub statement : Marked
  pub stood : Contains before statement
  pub mark : d.0 ≡ outward statement.mark
  pub form : Marked
  pub stands : Contains after form
  pub form_mark : form.mark ≡ d.0

-- What is marked before and after, where this is done: the same statements of nests, in their order; one that has no
-- form stays, with all that stands round it
pub record AreMarksKept (before after : List Marked) (done : List (Mark × Red)) : Type 0 where
  pub numbers : map mark_numbers_of after ≡ map mark_numbers_of before
  pub others : (x : Marked) → Contains before x → (Contains (map done_numbers_of done) (mark_numbers_of x) → ⊥)
      → Contains after x
  pub formed : (d : Mark × Red) → Contains done d → IsFormed before after d

abbrev pub ReducedProgramKeepsMarks : Type 0
ReducedProgramKeepsMarks = (p : Program)
    → AreMarksKept (marked_in [] p.body) (marked_in [] (reduced_program p).body)
    (done_in_block (context_of p) p.body)
