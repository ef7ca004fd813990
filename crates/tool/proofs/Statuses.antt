-- Which outcome a status tells of.
use Rattle.std.proofs.Common.{◌≡◌, ℕ, true, false, [], ◌∷◌, Option, refl, ap, sym, ◌∙◌, arith, inl, inr}
use Rattle.std.specs.Prelude.{not}
use Rattle.tree.specs.declared.ops.Fault.{Fault}
use Rattle.tree.specs.declared.refusals.Refusal.{Refusal}
use Rattle.tool.specs.declared.commands.commands.Request.{Request}
use Rattle.tool.specs.declared.report.outcome.Outcome.{Outcome}
use Rattle.tool.specs.declared.report.outcome.Outcome.TheVariants.{Done, Usage, Refused, Faulted, StepLimit, ReadFault, WriteFault, OutOfMemory}
use Rattle.tool.specs.report.Notes.{status_of}
use Rattle.tool.specs.Answers.{IsOneOf}
use Rattle.tool.specs.Endings.{is_silent, writes_early, gives_all}

pub is_done : (o : Outcome) (s : ℕ) → s ≡ status_of o → s ≡ 0 → o ≡ Done
is_done Done s e q = refl
is_done Usage s e q = absurd (omega (arith, e, q))
is_done (Refused r) s e q = absurd (omega (arith, e, q))
is_done (Faulted f l) s e q = absurd (omega (arith, e, q))
is_done StepLimit s e q = absurd (omega (arith, e, q))
is_done ReadFault s e q = absurd (omega (arith, e, q))
is_done WriteFault s e q = absurd (omega (arith, e, q))
is_done OutOfMemory s e q = absurd (omega (arith, e, q))

pub is_usage : (o : Outcome) (s : ℕ) → s ≡ status_of o → s ≡ 1 → o ≡ Usage
is_usage Done s e q = absurd (omega (arith, e, q))
is_usage Usage s e q = refl
is_usage (Refused r) s e q = absurd (omega (arith, e, q))
is_usage (Faulted f l) s e q = absurd (omega (arith, e, q))
is_usage StepLimit s e q = absurd (omega (arith, e, q))
is_usage ReadFault s e q = absurd (omega (arith, e, q))
is_usage WriteFault s e q = absurd (omega (arith, e, q))
is_usage OutOfMemory s e q = absurd (omega (arith, e, q))

pub is_refused : (o : Outcome) (s : ℕ) → s ≡ status_of o → s ≡ 2 → (r : Refusal) × (o ≡ Refused r)
is_refused Done s e q = absurd (omega (arith, e, q))
is_refused Usage s e q = absurd (omega (arith, e, q))
is_refused (Refused r) s e q = (r, refl)
is_refused (Faulted f l) s e q = absurd (omega (arith, e, q))
is_refused StepLimit s e q = absurd (omega (arith, e, q))
is_refused ReadFault s e q = absurd (omega (arith, e, q))
is_refused WriteFault s e q = absurd (omega (arith, e, q))
is_refused OutOfMemory s e q = absurd (omega (arith, e, q))

pub is_faulted : (o : Outcome) (s : ℕ) → s ≡ status_of o → s ≡ 3 → (f : Fault) × (l : ℕ) × (o ≡ Faulted f l)
is_faulted Done s e q = absurd (omega (arith, e, q))
is_faulted Usage s e q = absurd (omega (arith, e, q))
is_faulted (Refused r) s e q = absurd (omega (arith, e, q))
is_faulted (Faulted f l) s e q = (f, l, refl)
is_faulted StepLimit s e q = absurd (omega (arith, e, q))
is_faulted ReadFault s e q = absurd (omega (arith, e, q))
is_faulted WriteFault s e q = absurd (omega (arith, e, q))
is_faulted OutOfMemory s e q = absurd (omega (arith, e, q))

pub is_limited : (o : Outcome) (s : ℕ) → s ≡ status_of o → s ≡ 4 → o ≡ StepLimit
is_limited Done s e q = absurd (omega (arith, e, q))
is_limited Usage s e q = absurd (omega (arith, e, q))
is_limited (Refused r) s e q = absurd (omega (arith, e, q))
is_limited (Faulted f l) s e q = absurd (omega (arith, e, q))
is_limited StepLimit s e q = refl
is_limited ReadFault s e q = absurd (omega (arith, e, q))
is_limited WriteFault s e q = absurd (omega (arith, e, q))
is_limited OutOfMemory s e q = absurd (omega (arith, e, q))

pub is_read_fault : (o : Outcome) (s : ℕ) → s ≡ status_of o → s ≡ 5 → o ≡ ReadFault
is_read_fault Done s e q = absurd (omega (arith, e, q))
is_read_fault Usage s e q = absurd (omega (arith, e, q))
is_read_fault (Refused r) s e q = absurd (omega (arith, e, q))
is_read_fault (Faulted f l) s e q = absurd (omega (arith, e, q))
is_read_fault StepLimit s e q = absurd (omega (arith, e, q))
is_read_fault ReadFault s e q = refl
is_read_fault WriteFault s e q = absurd (omega (arith, e, q))
is_read_fault OutOfMemory s e q = absurd (omega (arith, e, q))

pub is_write_fault : (o : Outcome) (s : ℕ) → s ≡ status_of o → s ≡ 6 → o ≡ WriteFault
is_write_fault Done s e q = absurd (omega (arith, e, q))
is_write_fault Usage s e q = absurd (omega (arith, e, q))
is_write_fault (Refused r) s e q = absurd (omega (arith, e, q))
is_write_fault (Faulted f l) s e q = absurd (omega (arith, e, q))
is_write_fault StepLimit s e q = absurd (omega (arith, e, q))
is_write_fault ReadFault s e q = absurd (omega (arith, e, q))
is_write_fault WriteFault s e q = refl
is_write_fault OutOfMemory s e q = absurd (omega (arith, e, q))

pub is_out_of_memory : (o : Outcome) (s : ℕ) → s ≡ status_of o → s ≡ 7 → o ≡ OutOfMemory
is_out_of_memory Done s e q = absurd (omega (arith, e, q))
is_out_of_memory Usage s e q = absurd (omega (arith, e, q))
is_out_of_memory (Refused r) s e q = absurd (omega (arith, e, q))
is_out_of_memory (Faulted f l) s e q = absurd (omega (arith, e, q))
is_out_of_memory StepLimit s e q = absurd (omega (arith, e, q))
is_out_of_memory ReadFault s e q = absurd (omega (arith, e, q))
is_out_of_memory WriteFault s e q = absurd (omega (arith, e, q))
is_out_of_memory OutOfMemory s e q = refl

pub answers : (o : Outcome) (s : ℕ) → s ≡ status_of o → IsOneOf (0 ∷ 1 ∷ 2 ∷ 3 ∷ 4 ∷ 5 ∷ 6 ∷ 7 ∷ []) s
answers Done s e = inl e
answers Usage s e = inr (inl e)
answers (Refused r) s e = inr (inr (inl e))
answers (Faulted f l) s e = inr (inr (inr (inl e)))
answers StepLimit s e = inr (inr (inr (inr (inl e))))
answers ReadFault s e = inr (inr (inr (inr (inr (inl e)))))
answers WriteFault s e = inr (inr (inr (inr (inr (inr (inl e))))))
answers OutOfMemory s e = inr (inr (inr (inr (inr (inr (inr (e)))))))

-- ---- nothing was written

none_silent : (s n : ℕ) → s ≡ n → (n ≡ 1 → ⊥) → (n ≡ 2 → ⊥) → (n ≡ 5 → ⊥) → IsOneOf (1 ∷ 2 ∷ 5 ∷ []) s → ⊥
none_silent s n e a b c (inl q) = a (sym e ∙ q)
none_silent s n e a b c (inr (inl q)) = b (sym e ∙ q)
none_silent s n e a b c (inr (inr q)) = c (sym e ∙ q)

pub silent : (k : Option Request) (o : Outcome) (s : ℕ) → s ≡ status_of o → IsOneOf (1 ∷ 2 ∷ 5 ∷ []) s → is_silent k o ≡ true
silent k Done s e m = absurd (none_silent s 0 e (λ q. omega (arith, q)) (λ q. omega (arith, q)) (λ q. omega (arith, q)) m)
silent k Usage s e m = refl
silent k (Refused r) s e m = refl
silent k (Faulted fault line) s e m = absurd (none_silent s 3 e (λ q. omega (arith, q)) (λ q. omega (arith, q)) (λ q. omega (arith, q)) m)
silent k StepLimit s e m = absurd (none_silent s 4 e (λ q. omega (arith, q)) (λ q. omega (arith, q)) (λ q. omega (arith, q)) m)
silent k ReadFault s e m = refl
silent k WriteFault s e m = absurd (none_silent s 6 e (λ q. omega (arith, q)) (λ q. omega (arith, q)) (λ q. omega (arith, q)) m)
silent k OutOfMemory s e m = absurd (none_silent s 7 e (λ q. omega (arith, q)) (λ q. omega (arith, q)) (λ q. omega (arith, q)) m)

pub silent_without_memory : (k : Option Request) (o : Outcome) (s : ℕ) → s ≡ status_of o → writes_early k ≡ false → s ≡ 7 → is_silent k o ≡ true
silent_without_memory k o s e late q = ap (is_silent k) (is_out_of_memory o s e q) ∙ ap not late

-- a status that comes with the whole text tells of such an outcome
pub whole_text : (o : Outcome) (s : ℕ) → s ≡ status_of o → IsOneOf (0 ∷ 3 ∷ 4 ∷ []) s → gives_all o ≡ true
whole_text o s e (inl q) = ap gives_all (is_done o s e q)
whole_text o s e (inr (inl q)) = ap gives_all (is_faulted o s e q).2
whole_text o s e (inr (inr q)) = ap gives_all (is_limited o s e q)
