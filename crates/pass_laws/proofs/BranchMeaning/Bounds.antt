-- A nest that was made of a program of FORTRAN 77 keeps the bounds of all names.
use Rattle.std.proofs.Common.{◌≡◌, refl, ℕ, ℤ, None, Option, List}
use Rattle.meaning.specs.Run.{Act, State, arrives, does, does_all, goes, nothing, Going}
use Rattle.meaning.proofs.Kept.{IsKeptByParts, Keeps, Keeps-either, Keeps-nothing, Keeps-then}
use Rattle.rewrite.specs.Following.{sequential}
use Rattle.nest.specs.Blocks.{block_of_parts, statement_of_part}
use Rattle.nest.specs.Plain.{Branches, no_branches, branch, Part, Run, Turns, Choice, Label, Jump, Parts, no_parts}
use Rattle.nest.specs.Plain.{part}
use Rattle.pass_laws.proofs.BranchMeaning.Ways.{choice_keeps, choosing, jump_keeps, loop_keeps, run_keeps}

module _ (bits line : ℕ) (x : List ℕ) (bs : Option (List (ℤ × ℤ))) where
  abbrev HasBounds : State → Type 0
  HasBounds s = s.store.bounds x ≡ bs

  kept : IsKeptByParts (sequential bits) None (λ s. s.store.bounds x ≡ bs)
  kept = record {
    failed = λ f l s h. h;
    cut = λ s n h. h;
    written = λ t s h. h;
    stored = λ c v s e h. h;
    allocated = λ y cs s e h. cc;
    deallocated = λ y s e h. cc;
    input = λ rest b s h. h;
    step = λ s h. h;
  }

  label_keeps : (k : ℕ) → Keeps HasBounds (does (sequential bits) None (statement_of_part line (Label k)))
  label_keeps k = record {
    at = λ s h. (Keeps-either (sequential bits) None HasBounds kept (arrives k s.way) (goes Going) nothing (λ e. record { at = λ t g. g }) (λ e. Keeps-nothing (sequential bits) None HasBounds kept)).at s h;
  }

  mutual
    part_keeps : (p : Part) → Keeps HasBounds (does (sequential bits) None (statement_of_part line p))
    part_keeps (Run g) = run_keeps bits line HasBounds kept g
    part_keeps (Turns l ps) = loop_keeps bits line HasBounds kept l ps (parts_keep ps)
    part_keeps (Choice cs ps) = branches_keep cs (does_all (sequential bits) None (block_of_parts line ps)) (parts_keep ps)
    part_keeps (Label k) = label_keeps k
    part_keeps (Jump k) = jump_keeps bits line HasBounds kept k (λ s h. h)

    branches_keep : (cs : Branches) (other : Act) → Keeps HasBounds other → Keeps HasBounds (choosing bits line cs other)
    branches_keep no_branches other h = h
    branches_keep (branch test ps cs) other h = choice_keeps bits line HasBounds kept test ps cs other (parts_keep ps) (branches_keep cs other h)

    parts_keep : (ps : Parts) → Keeps HasBounds (does_all (sequential bits) None (block_of_parts line ps))
    parts_keep no_parts = Keeps-nothing (sequential bits) None HasBounds kept
    parts_keep (part p ps) = Keeps-then (sequential bits) None HasBounds kept _ _ (part_keeps p) (parts_keep ps)

pub same_bounds : (bits line : ℕ) (p : Part) (s : State) (x : List ℕ) → (does (sequential bits) None (statement_of_part line p) s).store.bounds x ≡ s.store.bounds x
same_bounds bits line p s x = (part_keeps bits line x (s.store.bounds x) p).at s refl
