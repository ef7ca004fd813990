-- What is held back is passed on after the command's work, and that may fail.
use Rattle.std.proofs.Common.{◌≡◌, ◌≤◌, ◌⊎◌, ℕ, List, [], true, Option, refl, sym, subst, inl, inr}
use Rattle.streams.proofs.Chained.{part_whole}
use Rattle.streams.proofs.Counts.{rose_then_later, later_then_rose}
use Rattle.streams.specs.Causes.{Rose}
use Rattle.meaning.specs.declared.End.{End}
use Rattle.tool.specs.declared.commands.commands.Command.{Command}
use Rattle.tool.specs.declared.commands.commands.Command.TheVariants.{Vectorise, Graph, Run77, Run90}
use Rattle.tool.specs.declared.report.outcome.Outcome.{Outcome}
use Rattle.tool.specs.declared.report.outcome.Outcome.TheVariants.{Done, Usage, Refused, Faulted, StepLimit, ReadFault, WriteFault, OutOfMemory}
use Rattle.tool.specs.Endings.{gives_all}
use Rattle.tool.specs.Works.{Writing, Comes, ComesFor, WithoutMemory, Works}

module _ (before now : Option (List ℕ)) (f f' f'' : ℕ) where
  abbrev old : Writing
  old = record { before = before; now = now; faults_before = f; faults_now = f' }

  abbrev new : Writing
  new = record { before = before; now = now; faults_before = f; faults_now = f'' }

  comes_later : (e : Option End) (text : List ℕ) (o : Outcome) → f' ≤ f'' → Comes e text old o → Comes e text new o
  comes_later e text Done later h = record { ending_is = h.ending_is; all = h.all }
  comes_later e text Usage later h = absurd h
  comes_later e text (Refused r) later h = absurd h
  comes_later e text (Faulted fault line) later h = record { ending_is = h.ending_is; all = h.all }
  comes_later e text StepLimit later h = record { ending_is = h.ending_is; all = h.all }
  comes_later e text ReadFault later h = absurd h
  comes_later e text WriteFault later h = record { fault = rose_then_later f f' f'' h.fault later; front = h.front }
  comes_later e text OutOfMemory later h = absurd h

  comes_unpassed : (e : Option End) (text : List ℕ) (o : Outcome) → gives_all o ≡ true → f ≤ f' → Rose f' f'' → Comes e text old o → Comes e text new WriteFault
  comes_unpassed e text Done all later fault h = record { fault = later_then_rose f f' f'' later fault; front = part_whole before now text h.all }
  comes_unpassed e text Usage all later fault h = absurd h
  comes_unpassed e text (Refused r) all later fault h = absurd h
  comes_unpassed e text (Faulted kind line) all later fault h = record { fault = later_then_rose f f' f'' later fault; front = part_whole before now text h.all }
  comes_unpassed e text StepLimit all later fault h = record { fault = later_then_rose f f' f'' later fault; front = part_whole before now text h.all }
  comes_unpassed e text ReadFault all later fault h = absurd h
  comes_unpassed e text WriteFault all later fault h = cc
  comes_unpassed e text OutOfMemory all later fault h = absurd h

  without_later : (k : Command) (deck : List ℕ) → WithoutMemory k deck old → WithoutMemory k deck new
  without_later (Vectorise w) deck h = h
  without_later (Graph w) deck h = h
  without_later (Run77 options) deck h = h
  without_later (Run90 options) deck (inl same) = inl same
  without_later (Run90 options) deck (inr h) = inr (record { program = h.program; read = h.read; text = h.text; has_text = h.has_text; front = h.front })

  for_later : (k : Command) (deck : List ℕ) (o : Outcome) → f' ≤ f'' → ComesFor k deck old o → ComesFor k deck new o
  for_later k deck o later h = record { program = h.program; read = h.read; text = h.text; has_text = h.has_text; comes = comes_later _ h.text o later h.comes }

  works_later : (k : Command) (deck : List ℕ) (o : Outcome) → f' ≤ f'' → Works k deck old o → Works k deck new o
  works_later k deck Done later h = for_later k deck Done later h
  works_later k deck Usage later h = absurd h
  works_later k deck (Refused r) later h = h
  works_later k deck (Faulted fault line) later h = for_later k deck (Faulted fault line) later h
  works_later k deck StepLimit later h = for_later k deck StepLimit later h
  works_later k deck ReadFault later h = absurd h
  works_later k deck WriteFault later h = for_later k deck WriteFault later h
  works_later k deck OutOfMemory later h = without_later k deck h

  for_unpassed : (k : Command) (deck : List ℕ) (o : Outcome) → gives_all o ≡ true → f ≤ f' → Rose f' f'' → ComesFor k deck old o → ComesFor k deck new WriteFault
  for_unpassed k deck o all later fault h = record { program = h.program; read = h.read; text = h.text; has_text = h.has_text; comes = comes_unpassed _ h.text o all later fault h.comes }

  works_unpassed : (k : Command) (deck : List ℕ) (o : Outcome) → gives_all o ≡ true → f ≤ f' → Rose f' f'' → Works k deck old o → Works k deck new WriteFault
  works_unpassed k deck Done all later fault h = for_unpassed k deck Done all later fault h
  works_unpassed k deck Usage all later fault h = absurd h
  works_unpassed k deck (Refused r) all later fault h = cc
  works_unpassed k deck (Faulted kind line) all later fault h = for_unpassed k deck (Faulted kind line) all later fault h
  works_unpassed k deck StepLimit all later fault h = for_unpassed k deck StepLimit all later fault h
  works_unpassed k deck ReadFault all later fault h = absurd h
  works_unpassed k deck WriteFault all later fault h = cc
  works_unpassed k deck OutOfMemory all later fault h = cc

  works_passed_on : (k : Command) (deck : List ℕ) (o o' : Outcome) → f ≤ f' → f' ≤ f'' → (o' ≡ o) ⊎ ((o' ≡ WriteFault) × (gives_all o ≡ true))
      → (gives_all o ≡ true → o' ≡ WriteFault → Rose f' f'') → Works k deck old o → Works k deck new o'
  works_passed_on k deck o o' earlier later (inl same) fault h = subst (λ (o : Outcome). Works k deck new o) (sym same) (works_later k deck o later h)
  works_passed_on k deck o o' earlier later (inr failed) fault h =
      subst (λ (o : Outcome). Works k deck new o) (sym failed.0) (works_unpassed k deck o failed.1 earlier (fault failed.1 failed.0) h)

-- the command's work, and then the passing on
pub passed_works : (k : Command) (deck : List ℕ) (before between now : Option (List ℕ)) (f f' f'' : ℕ) (o o' : Outcome) → now ≡ between → f ≤ f' → f' ≤ f''
    → (o' ≡ o) ⊎ ((o' ≡ WriteFault) × (gives_all o ≡ true)) → (gives_all o ≡ true → o' ≡ WriteFault → Rose f' f'')
    → Works k deck (record { before = before; now = between; faults_before = f; faults_now = f' }) o
    → Works k deck (record { before = before; now = now; faults_before = f; faults_now = f'' }) o'
passed_works k deck before between now f f' f'' o o' same earlier later ends fault h =
    subst (λ (t : Option (List ℕ)). Works k deck (record { before = before; now = t; faults_before = f; faults_now = f'' }) o') (sym same)
    (works_passed_on before between f f' f'' k deck o o' earlier later ends fault h)
