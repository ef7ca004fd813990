-- A part of a nest without STOP doesn't stop.
use Rattle.std.proofs.Common.{◌≡◌, sym, subst, ℕ, Bool, true, false, None}
use Rattle.meaning.specs.Run.{State, Way, Going, Jumping, Stopped, Failed, Cut, Act, arrives, either, goes, nothing, does, does_all}
use Rattle.meaning.proofs.Kept.{IsKeptByParts, Keeps, Keeps-nothing, Keeps-then}
use Rattle.rewrite.specs.Following.{IsSound, sequential}
use Rattle.nest.specs.Blocks.{block_of_parts, statement_of_part}
use Rattle.nest.specs.Plain.{Branches, no_branches, branch, Part, Run, Turns, Choice, Label, Jump, Parts, no_parts, part}
use Rattle.pass_laws.proofs.BranchMeaning.Ways.{IsOn, choosing, choice_keeps, jump_keeps, loop_keeps, run_keeps}

abbrev pub IsNotStopped : Way → Type 0
IsNotStopped Going = Unit {0}
IsNotStopped (Jumping k) = Unit {0}
IsNotStopped Stopped = ⊥
IsNotStopped (Failed f line) = Unit {0}
IsNotStopped Cut = Unit {0}

pub sound_on : (w : Way) → IsSound w → IsNotStopped w → IsOn w
sound_on Going h n = tt
sound_on (Jumping k) h n = tt
sound_on Stopped h n = absurd n
sound_on (Failed f line) h n = absurd h
sound_on Cut h n = absurd h

pub going_not_stopped : (w : Way) → w ≡ Going → IsNotStopped w
going_not_stopped w e = subst IsNotStopped (sym e) tt

module _ (bits line : ℕ) where
  abbrev P : State → Type 0
  P s = IsNotStopped s.way

  kept : IsKeptByParts (sequential bits) None (λ s. IsNotStopped s.way)
  kept = record {
    failed = λ f l s h. tt;
    cut = λ s n h. tt;
    written = λ t s h. h;
    stored = λ c v s e h. h;
    allocated = λ x bs s e h. h;
    deallocated = λ x s e h. h;
    input = λ rest b s h. h;
    step = λ s h. h;
  }

  label_keeps : (k : ℕ) → Keeps P (does (sequential bits) None (statement_of_part line (Label k)))
  label_keeps k = record { at = λ s h. by (arrives k s.way) s h }
    where
      by : (b : Bool) (s : State) → IsNotStopped s.way → IsNotStopped (either b (goes Going) nothing s).way
      by true s h = tt
      by false s h = h

  mutual
    part_keeps : (p : Part) → Keeps P (does (sequential bits) None (statement_of_part line p))
    part_keeps (Run g) = run_keeps bits line P kept g
    part_keeps (Turns l ps) = loop_keeps bits line P kept l ps (parts_keep ps)
    part_keeps (Choice bs ps) = branches_keep bs _ (parts_keep ps)
    part_keeps (Label k) = label_keeps k
    part_keeps (Jump k) = jump_keeps bits line P kept k (λ s h. tt)

    parts_keep : (ps : Parts) → Keeps P (does_all (sequential bits) None (block_of_parts line ps))
    parts_keep no_parts = Keeps-nothing (sequential bits) None P kept
    parts_keep (part p ps) = Keeps-then (sequential bits) None P kept _ _ (part_keeps p) (parts_keep ps)

    branches_keep : (bs : Branches) (other : Act) → Keeps P other → Keeps P (choosing bits line bs other)
    branches_keep no_branches other h = h
    branches_keep (branch test ps bs) other h = choice_keeps bits line P kept test ps bs other (parts_keep ps) (branches_keep bs other h)

  pub not_stopped : (ps : Parts) (s : State) → s.way ≡ Going → IsNotStopped (does_all (sequential bits) None (block_of_parts line ps) s).way
  not_stopped ps s e = (parts_keep ps).at s (going_not_stopped s.way e)
