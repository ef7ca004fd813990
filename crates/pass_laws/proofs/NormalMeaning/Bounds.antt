-- Loops and statements alone keep the bounds of all names.
use Rattle.std.proofs.Common.{◌≡◌, refl, ℕ, ℤ, None, Option, List}
use Rattle.tree.specs.Plain.{Block}
use Rattle.meaning.specs.Run.{State, does, does_all}
use Rattle.meaning.proofs.Kept.{IsKeptByParts, Keeps, Keeps-assignment, Keeps-loops, Keeps-nothing, Keeps-then}
use Rattle.rewrite.specs.Following.{sequential}
use Rattle.nest.specs.Blocks.{block_of_parts, numeral, statement_of_part, under_guard, assignment_of}
use Rattle.nest.specs.Plain.{Guarded, Part, Run, Turns, Choice, Label, Jump, Parts, no_parts, part}
use Rattle.pass_laws.specs.normal_runs.Sources.{AreStraight, IsStraight}
use Rattle.std.proofs.Common.{subst, sym}

module _ (bits line : ℕ) (x : List ℕ) (bs : Option (List (ℤ × ℤ))) where
  abbrev HasBounds : State → Type 0
  HasBounds s = s.store.bounds x ≡ bs

  kept : IsKeptByParts (sequential bits) None HasBounds
  kept = record {
    failed = λ f l s h. h;
    cut = λ s n h. h;
    written = λ t s h. h;
    stored = λ c v s e h. h;
    allocated = λ y cs s e h. cc;
    deallocated = λ y s e h. cc;
    input = λ rest b s h. h;
    step = λ s h. h;
  }

  statement_keeps : (g : Guarded) → g.guard ≡ None → Keeps HasBounds (does (sequential bits) None (statement_of_part line (Run g)))
  statement_keeps g none =
      subst (λ o. Keeps HasBounds (does (sequential bits) None (under_guard g.line o (assignment_of g)))) (sym none)
      (Keeps-assignment (sequential bits) None HasBounds kept g.line None g.left g.right)

  mutual
    pub part_keeps : (p : Part) → IsStraight p → Keeps HasBounds (does (sequential bits) None (statement_of_part line p))
    part_keeps (Run g) h = statement_keeps g h.unguarded
    part_keeps (Turns l ps) h =
        Keeps-loops (sequential bits) None HasBounds kept line l.variable l.first l.last (numeral l.step) _ (parts_keep ps h)
    part_keeps (Choice bs' ps) h = absurd h
    part_keeps (Label k) h = absurd h
    part_keeps (Jump k) h = absurd h

    parts_keep : (ps : Parts) → AreStraight ps → Keeps HasBounds (does_all (sequential bits) None (block_of_parts line ps))
    parts_keep no_parts h = Keeps-nothing (sequential bits) None HasBounds kept
    parts_keep (part p ps) h = Keeps-then (sequential bits) None HasBounds kept _ _ (part_keeps p h.0) (parts_keep ps h.1)

pub same_bounds : (bits line : ℕ) (p : Part) (s : State) (x : List ℕ) → IsStraight p
    → (does (sequential bits) None (statement_of_part line p) s).store.bounds x ≡ s.store.bounds x
same_bounds bits line p s x h = (part_keeps bits line x (s.store.bounds x) p h).at s refl
