-- In a run of FORTRAN 77 no array comes or goes: each name keeps its bounds.
use Rattle.std.proofs.Common.{◌≡◌, ℕ, ℤ, List, None, Option, refl}
use Rattle.meaning.proofs.Kept.{IsKeptByParts, Keeps, Keeps-allocate, Keeps-assignment, Keeps-counts_step, Keeps-deallocate}
use Rattle.meaning.proofs.Kept.{Keeps-either, Keeps-evaluates, Keeps-loops, Keeps-nothing, Keeps-print, Keeps-read, Keeps-then}
use Rattle.meaning.proofs.Kept.{Keeps-where}
use Rattle.meaning.specs.Dialect.{fortran77}
use Rattle.tree.specs.declared.width.Width.{Width}
use Rattle.meaning.specs.Run.{Act, Going, State, arrives, chooses, does, does_all, goes, nothing}
use Rattle.tree.specs.Plain.{Allocate, Arms, Assignment, Block, Deallocate, Do, GoTo, If, Label, Print, Read, Statement}
use Rattle.tree.specs.Plain.{Stop, Where, arm, no_arms, no_statements, statement}

module _ (width : Width) (x : List ℕ) (bs : Option (List (ℤ × ℤ))) where
  abbrev HasBounds : State → Type 0
  HasBounds s = s.store.bounds x ≡ bs

  abbrev Keep : Act → Type 0
  Keep f = Keeps HasBounds f

  kept : IsKeptByParts (fortran77 width) None HasBounds
  kept = record {
    failed = λ f l s h. h;
    cut = λ s n h. h;
    written = λ t s h. h;
    stored = λ c v s e h. h;
    allocated = λ y cs s e h. cc;
    deallocated = λ y s e h. cc;
    input = λ rest b s h. h;
    step = λ s h. h;
  }

  mutual
    statement_keeps : (c : Statement) → Keep (does (fortran77 width) None c)
    statement_keeps (Assignment line m r e) = Keeps-assignment (fortran77 width) None HasBounds kept line m r e
    statement_keeps (Where line m k r e) = Keeps-where (fortran77 width) None HasBounds kept line m k r e
    statement_keeps (If line arms other) = arms_keep line arms (does_all (fortran77 width) None other) (block_keeps other)
    statement_keeps (Do line y a b c body) = Keeps-loops (fortran77 width) None HasBounds kept line y a b c _ (block_keeps body)
    statement_keeps (Label l) = record {
      at = λ s. (Keeps-either (fortran77 width) None HasBounds kept (arrives l s.way) (goes Going) nothing
          (λ e. record { at = λ s h. h }) (λ e. Keeps-nothing (fortran77 width) None HasBounds kept)).at s;
    }
    statement_keeps (GoTo line l) = Keeps-counts_step (fortran77 width) None HasBounds kept _ (record { at = λ s h. h })
    statement_keeps (Stop line) = Keeps-counts_step (fortran77 width) None HasBounds kept _ (record { at = λ s h. h })
    statement_keeps (Read line is) = Keeps-read (fortran77 width) None HasBounds kept line is
    statement_keeps (Print line is) = Keeps-print (fortran77 width) None HasBounds kept line is
    statement_keeps (Allocate line y es) = Keeps-allocate (fortran77 width) None HasBounds kept line y es
    statement_keeps (Deallocate line y) = Keeps-deallocate (fortran77 width) None HasBounds kept line y

    arms_keep : (line : ℕ) (arms : Arms) (f : Act) → Keep f → Keep (chooses (fortran77 width) None line arms f)
    arms_keep line no_arms f h = h
    arms_keep line (arm test body more) f h =
        Keeps-counts_step (fortran77 width) None HasBounds kept _ (Keeps-evaluates (fortran77 width) None HasBounds kept line _ _ (λ b.
        Keeps-either (fortran77 width) None HasBounds kept b _ _ (λ e. block_keeps body) (λ e. arms_keep line more f h)))

    block_keeps : (b : Block) → Keep (does_all (fortran77 width) None b)
    block_keeps no_statements = Keeps-nothing (fortran77 width) None HasBounds kept
    block_keeps (statement c cs) = Keeps-then (fortran77 width) None HasBounds kept _ _ (statement_keeps c) (block_keeps cs)

pub sequential_keeps_bounds : (width : Width) (b : Block) (s : State) (x : List ℕ)
    → (does_all (fortran77 width) None b s).store.bounds x ≡ s.store.bounds x
sequential_keeps_bounds width b s x = (block_keeps width x (s.store.bounds x) b).at s refl
