-- Loops from 1 by 1 and statements alone go on where they meet no fault, and read and write no lines. What comes
-- after them leaves a run that has met a fault as it is.
use Rattle.std.proofs.Common.{◌≡◌, refl, sym, subst, ℕ, Option, Some, None}
use Rattle.meaning.specs.Run.{Cut, Failed, Going, Jumping, State, Stopped, Way, does, does_all, either, evaluates}
use Rattle.meaning.specs.Run.{nothing}
use Rattle.meaning.specs.Value.{truth_of}
use Rattle.meaning.proofs.Kept.{IsKeptByParts, Keeps, Keeps-assignment, Keeps-counts_step, Keeps-either}
use Rattle.meaning.proofs.Kept.{Keeps-evaluates, Keeps-loops, Keeps-nothing, Keeps-then}
use Rattle.rewrite.specs.Following.{IsSound, sequential}
use Rattle.tree.specs.Plain.{Allocate, Assignment, Block, Deallocate, Do, Expression, GoTo, If, Label, Print, Read}
use Rattle.tree.specs.Plain.{Statement, Stop, Where, arm, no_arms, no_statements, statement}
use Rattle.nest_order.specs.runs.Quiet.{AreQuiet, IsQuiet}
use Rattle.nest_order.specs.shapes.Shapes.{ArePlain, IsPlain}
use Rattle.nest.specs.Blocks.{assignment_of, block_of_parts, guarded_statement, numeral, statement_of_part}
use Rattle.nest.specs.Blocks.{under_guard}
use Rattle.nest.specs.Plain.{Choice, Guarded, Jump, Part, Parts, Run, Turns, no_parts, part}
use Rattle.nest.specs.Plain as tree
use Rattle.pass_laws.specs.prepared_nests.After.{AreEndings, IsEnding}

-- ---- an IF with one arm

module _ (bits : ℕ) (P : State → Type 0) (kept : IsKeptByParts (sequential bits) None P) where
  only_where_keeps : (line : ℕ) (test : Expression) (body : Block) → Keeps P (does_all (sequential bits) None body)
      → Keeps P (does (sequential bits) None (If line (arm test body no_arms) no_statements))
  only_where_keeps line test body h =
      Keeps-counts_step (sequential bits) None P kept
      (evaluates line (truth_of (sequential bits) test) (λ b. either b (does_all (sequential bits) None body) nothing))
      (Keeps-evaluates (sequential bits) None P kept line (truth_of (sequential bits) test)
      (λ b. either b (does_all (sequential bits) None body) nothing)
      (λ b. Keeps-either (sequential bits) None P kept b (does_all (sequential bits) None body) nothing (λ e. h)
      (λ e. Keeps-nothing (sequential bits) None P kept)))

-- ---- loops and statements alone

module _ (bits line : ℕ) where
  abbrev GoesIfSound : State → Type 0
  GoesIfSound s = IsSound s.way → s.way ≡ Going

  kept : IsKeptByParts (sequential bits) None GoesIfSound
  kept = record {
    failed = λ f l s h g. absurd g;
    cut = λ s n h g. absurd g;
    written = λ t s h. h;
    stored = λ c v s e h. h;
    allocated = λ y cs s e h. h;
    deallocated = λ y s e h. h;
    input = λ rest b s h. h;
    step = λ s h. h;
  }

  statement_keeps : (g : Guarded) → Keeps GoesIfSound (does (sequential bits) None (guarded_statement g))
  statement_keeps g = by g.guard
    where
      alone : Keeps GoesIfSound (does (sequential bits) None (assignment_of g))
      alone = Keeps-assignment (sequential bits) None GoesIfSound kept g.line None g.left g.right

      by : (o : Option Expression)
          → Keeps GoesIfSound (does (sequential bits) None (under_guard g.line o (assignment_of g)))
      by None = alone
      by (Some e) =
          only_where_keeps bits GoesIfSound kept g.line e (statement (assignment_of g) no_statements)
          (Keeps-then (sequential bits) None GoesIfSound kept
          (does (sequential bits) None (assignment_of g)) nothing alone
          (Keeps-nothing (sequential bits) None GoesIfSound kept))

  mutual
    part_keeps : (p : Part) → IsPlain p → Keeps GoesIfSound (does (sequential bits) None (statement_of_part line p))
    part_keeps (Run g) h = statement_keeps g
    part_keeps (Turns l ps) h =
        Keeps-loops (sequential bits) None GoesIfSound kept line l.variable l.first l.last (numeral l.step) _
        (parts_keep ps h.1)
    part_keeps (Choice bs ps) h = absurd h
    part_keeps (tree.Label k) h = absurd h
    part_keeps (Jump k) h = absurd h

    parts_keep : (ps : Parts) → ArePlain ps
        → Keeps GoesIfSound (does_all (sequential bits) None (block_of_parts line ps))
    parts_keep no_parts h = Keeps-nothing (sequential bits) None GoesIfSound kept
    parts_keep (part p ps) h =
        Keeps-then (sequential bits) None GoesIfSound kept _ _ (part_keeps p h.0) (parts_keep ps h.1)

pub goes_if_sound : (bits line : ℕ) (p : Part) (s : State) → IsPlain p → s.way ≡ Going
    → IsSound (does (sequential bits) None (statement_of_part line p) s).way
    → (does (sequential bits) None (statement_of_part line p) s).way ≡ Going
goes_if_sound bits line p s h going = (part_keeps bits line p h).at s (λ g. going)

module _ (line : ℕ) where
  statement_quiet : (g : Guarded) → IsQuiet (guarded_statement g)
  statement_quiet g = by g.guard
    where
      by : (o : Option Expression) → IsQuiet (under_guard g.line o (assignment_of g))
      by None = tt
      by (Some e) = (((tt, tt), tt), tt)

  mutual
    pub part_quiet : (p : Part) → IsPlain p → IsQuiet (statement_of_part line p)
    part_quiet (Run g) h = statement_quiet g
    part_quiet (Turns l ps) h = parts_quiet ps h.1
    part_quiet (Choice bs ps) h = absurd h
    part_quiet (tree.Label k) h = absurd h
    part_quiet (Jump k) h = absurd h

    parts_quiet : (ps : Parts) → ArePlain ps → AreQuiet (block_of_parts line ps)
    parts_quiet no_parts h = tt
    parts_quiet (part p ps) h = (part_quiet p h.0, parts_quiet ps h.1)

-- ---- what comes after

module _ (bits : ℕ) (P : State → Type 0) (kept : IsKeptByParts (sequential bits) None P) where
  mutual
    ending_keeps : (c : Statement) → IsEnding c → Keeps P (does (sequential bits) None c)
    ending_keeps (Assignment line mark left right) h =
        Keeps-assignment (sequential bits) None P kept line mark left right
    ending_keeps (If line no_arms other) h = absurd h.0
    ending_keeps (If line (arm test body (arm u d ms)) other) h = absurd h.0.1
    ending_keeps (If line (arm test body no_arms) (statement c cs)) h = absurd h.1
    ending_keeps (If line (arm test body no_arms) no_statements) h =
        only_where_keeps bits P kept line test body (endings_keep body h.0.0)
    ending_keeps (Where line mark mask left right) h = absurd h
    ending_keeps (Do line x a b c body) h = absurd h
    ending_keeps (Label n) h = absurd h
    ending_keeps (GoTo line n) h = absurd h
    ending_keeps (Stop line) h = absurd h
    ending_keeps (Read line is) h = absurd h
    ending_keeps (Print line is) h = absurd h
    ending_keeps (Allocate line x es) h = absurd h
    ending_keeps (Deallocate line x) h = absurd h

    endings_keep : (b : Block) → AreEndings b → Keeps P (does_all (sequential bits) None b)
    endings_keep no_statements h = Keeps-nothing (sequential bits) None P kept
    endings_keep (statement c cs) h =
        Keeps-then (sequential bits) None P kept _ _ (ending_keeps c h.0) (endings_keep cs h.1)

module _ (bits : ℕ) where
  abbrev IsFaulty : State → Type 0
  IsFaulty s = IsSound s.way → ⊥

  faulty_kept : IsKeptByParts (sequential bits) None IsFaulty
  faulty_kept = record {
    failed = λ f l s h g. g;
    cut = λ s n h g. g;
    written = λ t s h. h;
    stored = λ c v s e h. h;
    allocated = λ y cs s e h. h;
    deallocated = λ y s e h. h;
    input = λ rest b s h. h;
    step = λ s h. h;
  }

  -- where they end without fault, so did what was run before
  pub sound_before : (b : Block) → AreEndings b → (s : State) → IsSound (does_all (sequential bits) None b s).way
      → IsSound s.way
  sound_before b h s sound = by s.way refl
    where
      not_faulty : (IsSound s.way → ⊥) → IsSound s.way
      not_faulty never = absurd ((endings_keep bits IsFaulty faulty_kept b h).at s never sound)

      by : (w : Way) → s.way ≡ w → IsSound s.way
      by Going e = subst IsSound (sym e) tt
      by (Jumping n) e = subst IsSound (sym e) tt
      by Stopped e = subst IsSound (sym e) tt
      by (Failed f n) e = not_faulty (λ k. subst IsSound e k)
      by Cut e = not_faulty (λ k. subst IsSound e k)

-- they go on where they meet no fault
pub ending_goes : (bits line : ℕ) (b : Block) (s : State) → AreEndings b → s.way ≡ Going
    → IsSound (does_all (sequential bits) None b s).way → (does_all (sequential bits) None b s).way ≡ Going
ending_goes bits line b s h going = (endings_keep bits (GoesIfSound bits line) (kept bits line) b h).at s (λ g. going)
