-- How a machine's run ends.
use Rattle.std.proofs.Common.{◌≡◌, refl, sym, ap, ◌∙◌, subst, ℕ, List, [], length, Result, Ok, Err, Option, Some, None, append-nil}
use Rattle.std.specs.Prelude.{MatchResult}
use Rattle.std.specs.Io.KnownBytes.{append_known}
use Rattle.tree.specs.Plain.{Declaration, Program, Block}
use Rattle.meaning.specs.Dialect.{fortran90}
use Rattle.tree.specs.declared.width.Width.{Width}
use Rattle.meaning.specs.Jumps.{AllJumpsForward}
use Rattle.meaning.specs.Run.{run, does_all}
use Rattle.meaning.specs.declared.End.TheVariants.{WriteFault}
use Rattle.machine.specs.declared.progress.Halt.TheVariants.{Jump, Stop, Fault, Limit}
use Rattle.machine.specs.declared.progress.Left.TheVariants.{Halted, Unwritten}
use Rattle.machine.specs.Acts.{Runs}
use Rattle.machine.specs.Endings.{IsOpening, Ends, IsLeftAt, ended}
use Rattle.machine.specs.Moments.{Seen}
use Rattle.machine.specs.Storage.{opening_of}
use Rattle.machine.proofs.MachineLaws.{opens, runs_to_end, left_at as left_off}
use Rattle.machine.proofs.Telling.{nothing_given}
use Rattle.meaning.specs.Holding.{HoldsProgram}
use Rattle.meaning_laws.proofs.profiles.TargetRuns.{opening_store_holds}
use Rattle.array_expressions.specs.declared.transfers.unfinished.Unfinished.{Unfinished}
use Rattle.array_expressions.specs.declared.transfers.unfinished.Unfinished.TheVariants.{Left, Memory}
use Rattle.array_expressions.specs.transfers.Unfinished.{ended_by}
use Rattle.run90.specs.Machine.{HasFrontOf, ending_of}
use Rattle.run90.specs.Opening.{opening_moment}
use Rattle.run90.specs.Suiting.{Suits}

with_nothing : (bytes : Option (List ℕ)) → bytes ≡ append_known bytes []
with_nothing None = refl
with_nothing (Some xs) = ap (λ ys. let o : Option (List ℕ) = Some ys in o) (sym (append-nil xs))

-- nothing went out
pub no_front : (text : List ℕ) (bytes : Option (List ℕ)) → HasFrontOf text bytes bytes
no_front text bytes = record { front = []; rest = text; whole = refl; taken = with_nothing bytes }

module _ (width : Width) (p : Program) (limit : Option ℕ) (ds : List Declaration) (m : Seen) (is : m ≡ opening_moment limit ds) (names : ds ≡ p.declarations) where
  pub opening : IsOpening limit m
  opening = subst (IsOpening limit) (sym is) (opens ds (opening_of ds) limit refl)

  pub named : m.names ≡ p.declarations
  named = ap (λ (n : Seen). n.names) is ∙ names

  pub suits_opening : Suits width p m
  suits_opening = record {
    names = named;
    holds = subst (HoldsProgram (fortran90 width) p) (sym (ap (λ (n : Seen). n.store) is ∙ ap opening_of names)) (opening_store_holds (fortran90 width) p);
  }

-- where a write has failed
pub only_unwritten : (r : Result (Unit {0}) Unfinished) → ending_of r ≡ Ok WriteFault → r ≡ Err (Left Unwritten)
only_unwritten (Ok x) e = cc
only_unwritten (Err (Left (Halted (Jump n)))) e = cc
only_unwritten (Err (Left (Halted Stop))) e = cc
only_unwritten (Err (Left (Halted (Fault f line)))) e = cc
only_unwritten (Err (Left (Halted Limit))) e = cc
only_unwritten (Err (Left Unwritten)) e = refl
only_unwritten (Err Memory) e = cc

module _ (width : Width) (p : Program) (limit : Option ℕ) (input : List ℕ) (old new : Seen) (b : Block) (names : old.names ≡ p.declarations) (body : b ≡ p.body) (forward : AllJumpsForward p) (o : IsOpening limit old) where
  ends : (before now : Option (List ℕ)) (r : Result (Unit {0}) Unfinished) → Runs (λ limit. does_all (fortran90 width) limit b) input old before new now (ended_by r) → Ends p.declarations (run (fortran90 width) limit p input) new before now (ended (ended_by r))
  ends before now r h = runs_to_end (fortran90 width) p limit input old new b before now (ended_by r) names body forward o h

  pub run_ends : (before now : Option (List ℕ)) (r : Result (Unit {0}) Unfinished) → Runs (λ limit. does_all (fortran90 width) limit b) input old before new now (ended_by r)
      → MatchResult (ending_of r) (λ end. Ends p.declarations (run (fortran90 width) limit p input) new before now end) (λ _. HasFrontOf (run (fortran90 width) limit p input).written before now)
  run_ends before now (Ok x) h = ends before now (Ok x) h
  run_ends before now (Err (Left l)) h = ends before now (Err (Left l)) h
  run_ends before now (Err Memory) h = (let q = ends before now (Err Memory) h in record { front = q.front; rest = q.rest; whole = q.whole; taken = q.taken })

  pub run_left : (before now : Option (List ℕ)) (r : Result (Unit {0}) Unfinished) → Runs (λ limit. does_all (fortran90 width) limit b) input old before new now (ended_by r) → ending_of r ≡ Ok WriteFault
      → IsLeftAt (fortran90 width) limit p input new.store before now
  run_left before now r h e = left_off (fortran90 width) p limit input old new b before now (ended_by r) names body o h (ap (λ r. ended (ended_by r)) (only_unwritten r e))

  -- a run that writes nothing gives nothing
  pub run_gives_nothing : (after : List ℕ) (r : Result (Unit {0}) Unfinished) → Runs (λ limit. does_all (fortran90 width) limit b) input old (Some []) new (Some after) (ended_by r) → (run (fortran90 width) limit p input).written ≡ [] → length after ≡ 0
  run_gives_nothing after r h w = nothing_given p.declarations (run (fortran90 width) limit p input) new after (ended (ended_by r)) w (ends (Some []) (Some after) r h)
