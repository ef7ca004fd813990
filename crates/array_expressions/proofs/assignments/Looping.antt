-- How a loop begins.
use Rattle.std.proofs.Common.{refl, ℕ, ℤ, List, Result, Ok, Err, Option}
use Rattle.tree.specs.Plain.{Expression}
use Rattle.meaning.specs.Dialect.{fortran90}
use Rattle.tree.specs.declared.width.Width.{Width}
use Rattle.meaning.specs.Value.{number_of, increment_of, trip_count}
use Rattle.meaning.specs.Run.{sets_variable, repeated, turn, evaluates, then, loops}
use Rattle.machine.specs.declared.progress.Left.{Left}
use Rattle.machine.specs.Moments.{Seen}
use Rattle.machine.specs.Acts.{LimitedAct, Runs}
use Rattle.machine.proofs.ActLaws.{Runs-fault}
use Rattle.array_expressions.specs.declared.assignments.causes.Stuck.{Stuck}
use Rattle.array_expressions.specs.declared.assignments.causes.Stuck.TheVariants.{Halted, Memory}
use Rattle.array_expressions.specs.assignments.Causes.{AnswersAt}
use Rattle.array_expressions.specs.assignments.Loops.{BeginsLoop}
use Rattle.array_expressions.proofs.assignments.Lacking.{Runs-lacking, Runs-answers, Extends-loops}

module _ (width : Width) (line : ℕ) (x : List ℕ) (first last step : Expression) (old : Seen) where
  abbrev turns : ℤ → ℤ → LimitedAct → ℤ → LimitedAct
  turns m1 m2 body m3 limit =
      then (sets_variable (fortran90 width) limit line x m1) (evaluates line (λ s. trip_count m1 m2 m3) (λ n. repeated n (turn (fortran90 width) limit line x m3 (body limit))))

  abbrev with_last : ℤ → LimitedAct → ℤ → LimitedAct
  with_last m1 body m2 limit = evaluates line (increment_of (fortran90 width) step) (λ m3. turns m1 m2 body m3 limit)

  abbrev with_first : LimitedAct → ℤ → LimitedAct
  with_first body m1 limit = evaluates line (number_of (fortran90 width) last) (λ m2. with_last m1 body m2 limit)

  abbrev Begins : Stuck → Type 0
  Begins e = BeginsLoop width line x first last step old old (Err e)

  -- there was no memory for a parameter
  lacks : Begins Memory
  unfolding BeginsLoop
  lacks body input bytes e = Runs-lacking (λ limit. loops (fortran90 width) limit line x first last step (body limit)) input old old bytes (Extends-loops (fortran90 width) line x first last step body e) refl refl

  pub first_stuck : (e : Stuck) → AnswersAt line (λ (z : ℤ). z) (number_of (fortran90 width) first old.store) (Err e) → Begins e
  unfolding BeginsLoop
  first_stuck (Halted h) a = λ body input bytes. Runs-fault line (number_of (fortran90 width) first) h (with_first body) input old bytes a
  first_stuck Memory a = lacks

  module _ (m1 : ℤ) (a : AnswersAt line (λ (z : ℤ). z) (number_of (fortran90 width) first old.store) (Ok m1)) where
    first_goes : (body : LimitedAct) (input : List ℕ) (new : Seen) (before now : Option (List ℕ)) (r : Result (Unit {0}) Left) → Runs (with_first body m1) input old before new now r
        → Runs (λ limit. loops (fortran90 width) limit line x first last step (body limit)) input old before new now r
    first_goes body input new before now r h = Runs-answers line (λ (z : ℤ). z) (number_of (fortran90 width) first) (with_first body) input old m1 new before now r a h

    pub last_stuck : (e : Stuck) → AnswersAt line (λ (z : ℤ). z) (number_of (fortran90 width) last old.store) (Err e) → Begins e
    unfolding BeginsLoop
    last_stuck (Halted h) b = λ body input bytes. first_goes body input old bytes bytes _ (Runs-fault line (number_of (fortran90 width) last) h (with_last m1 body) input old bytes b)
    last_stuck Memory b = lacks

    module _ (m2 : ℤ) (b : AnswersAt line (λ (z : ℤ). z) (number_of (fortran90 width) last old.store) (Ok m2)) where
      last_goes : (body : LimitedAct) (input : List ℕ) (new : Seen) (before now : Option (List ℕ)) (r : Result (Unit {0}) Left) → Runs (with_last m1 body m2) input old before new now r
          → Runs (λ limit. loops (fortran90 width) limit line x first last step (body limit)) input old before new now r
      last_goes body input new before now r h = first_goes body input new before now r (Runs-answers line (λ (z : ℤ). z) (number_of (fortran90 width) last) (with_last m1 body) input old m2 new before now r b h)

      pub step_stuck : (e : Stuck) → AnswersAt line (λ (z : ℤ). z) (increment_of (fortran90 width) step old.store) (Err e) → Begins e
      unfolding BeginsLoop
      step_stuck (Halted h) d = λ body input bytes. last_goes body input old bytes bytes _ (Runs-fault line (increment_of (fortran90 width) step) h (turns m1 m2 body) input old bytes d)
      step_stuck Memory d = lacks

      module _ (m3 : ℤ) (d : AnswersAt line (λ (z : ℤ). z) (increment_of (fortran90 width) step old.store) (Ok m3)) where
        pub with_parameters : (body : LimitedAct) (input : List ℕ) (new : Seen) (before now : Option (List ℕ)) (r : Result (Unit {0}) Left) → Runs (turns m1 m2 body m3) input old before new now r
            → Runs (λ limit. loops (fortran90 width) limit line x first last step (body limit)) input old before new now r
        with_parameters body input new before now r h = last_goes body input new before now r (Runs-answers line (λ (z : ℤ). z) (increment_of (fortran90 width) step) (turns m1 m2 body) input old m3 new before now r d h)
