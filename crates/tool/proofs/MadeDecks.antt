-- What the status of `make` says, by how its work ended.
use Rattle.std.proofs.Common.{◌≡◌, ◌⊎◌, ℕ, List, [], ◌∷◌, Option, None, Some, refl, ap, sym, ◌∙◌, subst, arith, inl, inr}
use Rattle.std.specs.Prelude.{IsSome}
use Rattle.tree.specs.Plain.{Program}
use Rattle.tree.specs.declared.ops.Fault.{Fault as Kind}
use Rattle.tree.specs.declared.refusals.Refusal.{Refusal}
use Rattle.streams.specs.Causes.{Rose}
use Rattle.meaning.specs.Deck.{source_of, input_of, data_line77}
use Rattle.meaning.specs.Dialect.{fortran77}
use Rattle.meaning.specs.Profile77.{IsProgram77}
use Rattle.meaning.specs.Run.{State, Way, Going, Jumping, Stopped, Failed, Cut, run}
use Rattle.meaning.specs.Sequential.{sequential_run, ending, end_of, EndsWell}
use Rattle.tree.specs.declared.width.Width.TheVariants.{Plain}
use Rattle.meaning.specs.declared.End.{End}
use Rattle.meaning.specs.declared.End.TheVariants as end
use Rattle.meaning.proofs.Arriving.{every_run_ends}
use Rattle.meaning.proofs.Kept.{whole_run_is_not_cut}
use Rattle.f77_read.proofs.SourceLaws.{read_is_source_program}
use Rattle.run77.proofs.JumpLaws.{jumps_forward}
use Rattle.tool.specs.declared.commands.commands.Command.TheVariants.{Vectorise}
use Rattle.tool.specs.declared.report.outcome.Outcome.{Outcome}
use Rattle.tool.specs.declared.report.outcome.Outcome.TheVariants.{Done, Usage, Refused, Faulted, StepLimit, ReadFault, WriteFault, OutOfMemory}
use Rattle.tool.specs.report.Notes.{status_of}
use Rattle.tool.specs.Answers.{IsOneOf}
use Rattle.tool.specs.Decks.{IsRefused, IsReadAs, IsRefusedFor}
use Rattle.tool.specs.Given.{GivesWhere, GivesPartWhere}
use Rattle.tool.specs.Making.{IsSummary, IsSummaryTo, IsFaultedSummary, GivesAtMostSummary, RunsWell, RunsIntoFault, Summarises}
use Rattle.tool.specs.Translates.{Translates}
use Rattle.tool.proofs.Summaries.{translation_runs_well}
use Rattle.tool.proofs.Statuses as tells

-- ---- the sequential run of a deck that is read

-- it ends, and where it doesn't end well it ends by a fault
into_fault : (deck : List ℕ) (p : Program) → IsReadAs (Vectorise Plain) deck p → (EndsWell (sequential_run Plain p (input_of data_line77 deck)) → ⊥) → RunsIntoFault deck
into_fault deck p read unwell = by (sequential_run Plain p input).way refl
  where
    input : List ℕ
    input = input_of data_line77 deck

    source : IsProgram77 (fortran77 Plain) p
    source = read_is_source_program (fortran77 Plain) (source_of data_line77 deck) read.reads.source.cards p (omega arith) read.reads.source.are_cards read.reads.source.program

    some : IsSome (end_of (sequential_run Plain p input).way)
    some = every_run_ends (fortran77 Plain) None p input (jumps_forward Plain p source)

    by : (w : Way) → (sequential_run Plain p input).way ≡ w → RunsIntoFault deck
    by Going e = absurd (unwell (ap end_of e))
    by (Jumping n) e = let none : IsSome (end_of (Jumping n)) = subst (λ (w : Way). IsSome (end_of w)) e some in absurd (cc)
    by Stopped e = absurd (unwell (ap end_of e))
    by (Failed fault line) e = record { program = p; read = read; fault = fault; line = line; ends = ap end_of e }
    by Cut e = absurd (whole_run_is_not_cut (fortran77 Plain) p input e)

-- ---- of a summary

not_refused : (deck text : List ℕ) → IsSummary deck text → (r : Refusal) → IsRefused (Vectorise Plain) deck r → ⊥
not_refused deck text h r refused = h.translates.0.read.accepted r refused

-- a run that ends by a fault isn't one that ends well
no_fault : (fault : Kind) (line : ℕ) (o : Option End) → o ≡ Some (end.Fault fault line) → o ≡ Some end.Done → ⊥
no_fault fault line o e d = cc

-- where its run ends by a fault, the deck's run doesn't end well
not_well : (deck : List ℕ) (fault : Kind) (line : ℕ) (text : List ℕ) → IsFaultedSummary fault line deck text → RunsWell deck → ⊥
not_well deck fault line text h well =
    no_fault fault line _ h.ends (translation_runs_well deck h.summary.translation h.summary.program h.summary.translates h.summary.conforms well)

faults_too : (deck : List ℕ) (fault : Kind) (line : ℕ) (text : List ℕ) → IsFaultedSummary fault line deck text → RunsIntoFault deck
faults_too deck fault line text h =
    let d : Translates Plain deck h.summary.translation = h.summary.translates.0 in
    into_fault deck d.program d.read (λ well. not_well deck fault line text h (record { program = d.program; reads = d.read.reads; ends = well }))

-- ---- by how the work ended

module _ (deck : List ℕ) (before now : Option (List ℕ)) (f f' : ℕ) where
  abbrev Ended : Outcome → Type 0
  Ended o = Summarises deck before now f f' o

  at_outcome : (o o' : Outcome) → o ≡ o' → Ended o → Ended o'
  at_outcome o o' e h = subst (λ (o : Outcome). Ended o) e h

  pub answers : (o : Outcome) (s : ℕ) → s ≡ status_of o → Ended o → IsOneOf (0 ∷ 2 ∷ 3 ∷ 6 ∷ 7 ∷ []) s
  answers Done s e h = inl e
  answers Usage s e h = absurd h
  answers (Refused r) s e h = inr (inl e)
  answers (Faulted fault line) s e h = inr (inr (inl e))
  answers StepLimit s e h = absurd h
  answers ReadFault s e h = absurd h
  answers WriteFault s e h = inr (inr (inr (inl e)))
  answers OutOfMemory s e h = inr (inr (inr (inr e)))

  pub done : (o : Outcome) (s : ℕ) → s ≡ status_of o → Ended o → s ≡ 0 → GivesWhere before now (IsSummaryTo end.Done deck)
  done o s e h q = at_outcome o Done (tells.is_done o s e q) h

  pub faulted : (o : Outcome) (s : ℕ) → s ≡ status_of o → Ended o → s ≡ 3 → (fault : Kind) × (line : ℕ) × GivesWhere before now (IsFaultedSummary fault line deck)
  faulted o s e h q =
      let g = tells.is_faulted o s e q in
      (g.0, g.1, at_outcome o (Faulted g.0 g.1) g.2 h)

  pub runs_into_fault : (o : Outcome) (s : ℕ) → s ≡ status_of o → Ended o → s ≡ 3 → RunsIntoFault deck
  runs_into_fault o s e h q =
      let g = faulted o s e h q in
      faults_too deck g.0 g.1 g.2.0 g.2.1

  pub part : (o : Outcome) (s : ℕ) → s ≡ status_of o → Ended o → s ≡ 6 → GivesPartWhere before now (IsSummary deck)
  part o s e h q =
      let given : Ended WriteFault = at_outcome o WriteFault (tells.is_write_fault o s e q) h in
      given.1

  pub little : (o : Outcome) (s : ℕ) → s ≡ status_of o → Ended o → s ≡ 7 → GivesAtMostSummary deck before now
  little o s e h q = at_outcome o OutOfMemory (tells.is_out_of_memory o s e q) h

  pub refused : (o : Outcome) (s : ℕ) → s ≡ status_of o → Ended o → s ≡ 2 → (r : Refusal) × IsRefusedFor (Vectorise Plain) r deck
  refused o s e h q =
      let g = tells.is_refused o s e q in
      let given : Ended (Refused g.0) = at_outcome o (Refused g.0) g.1 h in
      (g.0, given.0)

  pub never_done : (o : Outcome) (s : ℕ) → s ≡ status_of o → Ended o → (r : Refusal) → IsRefused (Vectorise Plain) deck r → IsOneOf (2 ∷ 7 ∷ []) s
  never_done Done s e h r refused = absurd (not_refused deck h.0 h.1.summary r refused)
  never_done Usage s e h r refused = absurd h
  never_done (Refused q) s e h r refused = inl e
  never_done (Faulted fault line) s e h r refused = absurd (not_refused deck h.0 h.1.summary r refused)
  never_done StepLimit s e h r refused = absurd h
  never_done ReadFault s e h r refused = absurd h
  never_done WriteFault s e h r refused = absurd (not_refused deck h.1.0 h.1.1 r refused)
  never_done OutOfMemory s e h r refused = inr e

  pub complete : (o : Outcome) (s : ℕ) → s ≡ status_of o → Ended o → RunsWell deck → (Rose f f' → ⊥) → IsOneOf (0 ∷ 7 ∷ []) s
  complete Done s e h well still = inl e
  complete Usage s e h well still = absurd h
  complete (Refused r) s e h well still = absurd (h.0.unread well.program well.reads)
  complete (Faulted fault line) s e h well still = absurd (not_well deck fault line h.0 h.1 well)
  complete StepLimit s e h well still = absurd h
  complete ReadFault s e h well still = absurd h
  complete WriteFault s e h well still = absurd (still h.0)
  complete OutOfMemory s e h well still = inr e
