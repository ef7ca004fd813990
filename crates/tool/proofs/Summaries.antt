-- What is known of a translation, and the summaries that are given of it.
use Rattle.std.proofs.Common.{◌≡◌, ◌≤◌, ◌<◌, ◌^◌, ◌⊎◌, ◌++◌, ℕ, Bool, List, [], length, true, false, Option, None, Some, append-nil, refl, ap, sym, ◌∙◌, subst, arith, inl, inr}
use Rattle.tree.specs.Limits.{deck_bytes}
use Rattle.tree.specs.Plain.{Program}
use Rattle.tree.specs.declared.refusals.Refusal.{Refusal}
use Rattle.streams.proofs.Chained.{gives_more, part_none, part_whole, part_after, part_before}
use Rattle.streams.proofs.Counts.{rose_then_later, later_then_rose}
use Rattle.streams.specs.Causes.{Rose}
use Rattle.streams.specs.Streams.{Gives, GivesPart}
use Rattle.meaning.specs.Array.{array_run}
use Rattle.meaning.specs.Deck.{source_of, input_of, data_line77, data_line90}
use Rattle.meaning.specs.Dialect.{fortran90}
use Rattle.meaning.specs.Run.{State}
use Rattle.meaning.specs.Sequential.{sequential_run, ending, EndsWell}
use Rattle.tree.specs.declared.width.Width.TheVariants.{Plain}
use Rattle.meaning.specs.declared.End.{End}
use Rattle.meaning.specs.declared.End.TheVariants as end
use Rattle.f90_grammar.specs.Refusals.{Conforms90}
use Rattle.tool.specs.commands.Command.{no_options}
use Rattle.tool.specs.declared.commands.commands.Command.TheVariants.{Vectorise, Run90}
use Rattle.tool.specs.declared.commands.commands.Request.TheVariants.{Make}
use Rattle.tool.specs.declared.report.outcome.Outcome.{Outcome}
use Rattle.tool.specs.declared.report.outcome.Outcome.TheVariants.{Done, Usage, Refused, Faulted, StepLimit, ReadFault, WriteFault, OutOfMemory}
use Rattle.tool.specs.Counts.{counts_text}
use Rattle.tool.specs.Decks.{IsReadAs, IsRefusedFor}
use Rattle.tool.specs.Endings.{gives_all, is_silent}
use Rattle.tool.specs.Running.{final_part, run_text, text_of_run}
use Rattle.tool.specs.Given.{GivesWhere, GivesPartWhere}
use Rattle.tool.specs.Translates.{Translates}
use Rattle.tool.specs.Translation.{IsTranslationOf, IsUntranslated}
use Rattle.tool.specs.Making.{IsTranslated, IsSummary, IsSummaryTo, RunsWell, Summarises, run_in}
use Rattle.tool.specs.Works.{Writing, Works, ComesFor, FrontFor}
use Rattle.tool.proofs.Headline.{Holds, holds}
use Rattle.tool.proofs.Limits.{exceeded}

-- ---- a translation

-- what is given for a deck by `vectorise` is one
pub is_translated : (deck text : List ℕ) → IsTranslationOf Plain deck text → IsTranslated Plain deck text
is_translated deck text h =
    let all : Holds Plain deck text = holds Plain deck text h.program h.read h.written in
    (all.translates, all.listed, all.marked, all.printed, all.vectorised)

-- its array run ends without fault where the deck's run does
pub translation_runs_well : (deck text : List ℕ) (q : Program) → IsTranslated Plain deck text → Conforms90 (source_of data_line90 text) q → RunsWell deck → EndsWell (run_in text q)
translation_runs_well deck text q all conforms well =
    let h : Translates Plain deck text = all.0 in
    let input : List ℕ = input_of data_line77 deck in
    let same : well.program ≡ h.program = h.read.only well.program well.reads in
    let one : q ≡ h.translation = h.accepted.only q conforms in
    subst (λ (q : Program). EndsWell (run_in text q)) (sym one)
    (subst (λ (t : List ℕ). EndsWell (array_run Plain h.translation t)) (sym h.input)
    ((h.keeps input).ends (subst (λ (p : Program). EndsWell (sequential_run Plain p input)) same well.ends)))

-- ---- the counts alone were given

module _ (deck t : List ℕ) (translates : IsTranslated Plain deck t) where
  -- a summary by the program of the translation
  summary_of : IsSummary deck (counts_text t ++ (run_in t translates.0.translation).written)
  summary_of = record {
    translation = t;
    translates = translates;
    program = translates.0.translation;
    conforms = translates.0.accepted.conforms;
    text_is = refl;
  }

  counts_alone : (before now : Option (List ℕ)) → GivesPart before (counts_text t) now → GivesPartWhere before now (IsSummary deck)
  counts_alone before now part =
      let more : List ℕ = (run_in t translates.0.translation).written in
      (counts_text t ++ more, summary_of, part_before before now (counts_text t) more part)

  -- the sink failed
  pub counts_cut : (before now : Option (List ℕ)) (f f' : ℕ) (counts : List ℕ) → counts ≡ counts_text t → Rose f f' → GivesPart before counts now
      → Summarises deck before now f f' WriteFault
  counts_cut before now f f' counts same fault part =
      (fault, counts_alone before now (subst (λ (c : List ℕ). GivesPart before c now) same part))

  -- ---- the counts were given, and then the translation was run

  lines_are : (p : Program) (s : State) (e : Option End) → s.written ++ final_part no_options p s e ≡ s.written
  lines_are p s None = append-nil s.written
  lines_are p s (Some end.Done) = append-nil s.written
  lines_are p s (Some (end.Fault fault line)) = append-nil s.written
  lines_are p s (Some end.StepLimit) = append-nil s.written
  lines_are p s (Some end.WriteFault) = append-nil s.written

  lines_alone : (q : Program) (text : List ℕ) → text ≡ text_of_run (Run90 no_options) t q → text ≡ (run_in t q).written
  lines_alone q text e = e ∙ lines_are q (run_in t q) (ending (run_in t q))

  abbrev summary : (q : Program) → IsReadAs (Run90 no_options) t q → IsSummary deck (counts_text t ++ (run_in t q).written)
  summary q read = record { translation = t; translates = translates; program = q; conforms = read.reads.source.conforms; text_is = refl }

  module _ (before between now : Option (List ℕ)) (f f' f'' : ℕ) (counts : List ℕ) (same : counts ≡ counts_text t) (first : Gives before counts between) where
    abbrev after : Writing
    after = record { before = between; now = now; faults_before = f'; faults_now = f'' }

    counts_given : Gives before (counts_text t) between
    counts_given = subst (λ (c : List ℕ). Gives before c between) same first

    all_given : (q : Program) (e : End) (text : List ℕ) → IsReadAs (Run90 no_options) t q → text ≡ text_of_run (Run90 no_options) t q → ending (run_in t q) ≡ Some e → Gives between text now
        → GivesWhere before now (IsSummaryTo e deck)
    all_given q e text read is ended given = (
      counts_text t ++ (run_in t q).written,
      record { summary = summary q read; ends = ended },
      gives_more before between now (counts_text t) (run_in t q).written counts_given (subst (λ (l : List ℕ). Gives between l now) (lines_alone q text is) given),
    )

    front_given : (q : Program) (text : List ℕ) → IsReadAs (Run90 no_options) t q → text ≡ text_of_run (Run90 no_options) t q → GivesPart between text now → GivesPartWhere before now (IsSummary deck)
    front_given q text read is part = (
      counts_text t ++ (run_in t q).written,
      summary q read,
      part_after before between now (counts_text t) (run_in t q).written counts_given (subst (λ (l : List ℕ). GivesPart between l now) (lines_alone q text is) part),
    )

    counts_only : now ≡ between → GivesPartWhere before now (IsSummary deck)
    counts_only still =
        counts_alone before now (part_whole before now (counts_text t) (subst (λ (n : Option (List ℕ)). Gives before (counts_text t) n) (sym still) counts_given))

    -- the machine doesn't take the translation
    pub not_taken : (r : Refusal) → Works (Run90 no_options) t after (Refused r) → Summarises deck before now f f'' OutOfMemory
    not_taken r h = inr (counts_only h.1)

    without_memory : (now ≡ between) ⊎ FrontFor (Run90 no_options) t after → GivesPartWhere before now (IsSummary deck)
    without_memory (inl still) = counts_only still
    without_memory (inr h) = front_given h.program h.text h.read h.has_text h.front

    -- the run came to an end
    pub ran : (o : Outcome) → ((r : Refusal) → o ≡ Refused r → ⊥) → f ≤ f' → Works (Run90 no_options) t after o → Summarises deck before now f f'' o
    ran Done other later h = all_given h.program end.Done h.text h.read h.has_text h.comes.ending_is h.comes.all
    ran Usage other later h = h
    ran (Refused r) other later h = absurd (other r refl)
    ran (Faulted fault line) other later h = all_given h.program (end.Fault fault line) h.text h.read h.has_text h.comes.ending_is h.comes.all
    ran StepLimit other later h = exceeded (fortran90 Plain) None h.program (input_of data_line90 t) h.comes.ending_is
    ran ReadFault other later h = h
    ran WriteFault other later h = (later_then_rose f f' f'' later h.comes.fault, front_given h.program h.text h.read h.has_text h.comes.front)
    ran OutOfMemory other later h = inr (without_memory h)

-- the run of a translation says something, unless it isn't taken
pub run_spoken : (t : List ℕ) (w : Writing) (n : ℕ) (o : Outcome) → ((r : Refusal) → o ≡ Refused r → ⊥) → Works (Run90 no_options) t w o → is_silent (Some (Make n)) o ≡ false
run_spoken t w n Done other h = refl
run_spoken t w n Usage other h = absurd h
run_spoken t w n (Refused r) other h = absurd (other r refl)
run_spoken t w n (Faulted fault line) other h = refl
run_spoken t w n StepLimit other h = refl
run_spoken t w n ReadFault other h = absurd h
run_spoken t w n WriteFault other h = refl
run_spoken t w n OutOfMemory other h = refl

-- ---- a deck that has no translation

pub untranslated : (deck : List ℕ) (taken : Option (List ℕ)) (f f' : ℕ) (o : Outcome) → IsUntranslated Plain deck o → Summarises deck taken taken f f' o
untranslated deck taken f f' Done h = absurd h
untranslated deck taken f f' Usage h = h
untranslated deck taken f f' (Refused r) h = (h, refl)
untranslated deck taken f f' (Faulted fault line) h = absurd h
untranslated deck taken f f' StepLimit h = h
untranslated deck taken f f' ReadFault h = h
untranslated deck taken f f' WriteFault h = absurd h
untranslated deck taken f f' OutOfMemory h = inl refl

pub untranslated_gives_none : (deck : List ℕ) (o : Outcome) → IsUntranslated Plain deck o → gives_all o ≡ true → ⊥
untranslated_gives_none deck Done h all = h
untranslated_gives_none deck Usage h all = h
untranslated_gives_none deck (Refused r) h all = cc
untranslated_gives_none deck (Faulted fault line) h all = h
untranslated_gives_none deck StepLimit h all = h
untranslated_gives_none deck ReadFault h all = h
untranslated_gives_none deck WriteFault h all = h
untranslated_gives_none deck OutOfMemory h all = cc

-- ---- what is held back is passed on, and that may fail

never : {P : Type 0} → ◌≡◌ {A = Bool} false true → P
never e = absurd (cc)

module _ (deck : List ℕ) (before now : Option (List ℕ)) (f f' f'' : ℕ) where
  later_on : (o : Outcome) → f' ≤ f'' → Summarises deck before now f f' o → Summarises deck before now f f'' o
  later_on Done later h = h
  later_on Usage later h = h
  later_on (Refused r) later h = h
  later_on (Faulted fault line) later h = h
  later_on StepLimit later h = h
  later_on ReadFault later h = h
  later_on WriteFault later h = (rose_then_later f f' f'' h.0 later, h.1)
  later_on OutOfMemory later h = h

  -- all of a summary is a front of it
  whole_is_front : (e : End) → GivesWhere before now (IsSummaryTo e deck) → GivesPartWhere before now (IsSummary deck)
  whole_is_front e h = (h.0, h.1.summary, part_whole before now h.0 h.2)

  unpassed : (o : Outcome) → gives_all o ≡ true → f ≤ f' → Rose f' f'' → Summarises deck before now f f' o → Summarises deck before now f f'' WriteFault
  unpassed Done all later fault h = (later_then_rose f f' f'' later fault, whole_is_front end.Done h)
  unpassed Usage all later fault h = absurd h
  unpassed (Refused r) all later fault h = never all
  unpassed (Faulted kind line) all later fault h = (later_then_rose f f' f'' later fault, whole_is_front (end.Fault kind line) h)
  unpassed StepLimit all later fault h = absurd h
  unpassed ReadFault all later fault h = absurd h
  unpassed WriteFault all later fault h = never all
  unpassed OutOfMemory all later fault h = never all

  passed_on : (o o' : Outcome) → f ≤ f' → f' ≤ f'' → (o' ≡ o) ⊎ ((o' ≡ WriteFault) × (gives_all o ≡ true)) → (gives_all o ≡ true → o' ≡ WriteFault → Rose f' f'')
      → Summarises deck before now f f' o → Summarises deck before now f f'' o'
  passed_on o o' earlier later (inl same) fault h = subst (λ (o : Outcome). Summarises deck before now f f'' o) (sym same) (later_on o later h)
  passed_on o o' earlier later (inr failed) fault h =
      subst (λ (o : Outcome). Summarises deck before now f f'' o) (sym failed.0) (unpassed o failed.1 earlier (fault failed.1 failed.0) h)

pub summary_passed_on : (deck : List ℕ) (before between now : Option (List ℕ)) (f f' f'' : ℕ) (o o' : Outcome) → now ≡ between → f ≤ f' → f' ≤ f''
    → (o' ≡ o) ⊎ ((o' ≡ WriteFault) × (gives_all o ≡ true)) → (gives_all o ≡ true → o' ≡ WriteFault → Rose f' f'')
    → Summarises deck before between f f' o → Summarises deck before now f f'' o'
summary_passed_on deck before between now f f' f'' o o' same earlier later ends fault h =
    subst (λ (n : Option (List ℕ)). Summarises deck before n f f'' o') (sym same) (passed_on deck before between f f' f'' o o' earlier later ends fault h)

-- ---- the deck that is made

module _ (d deck given : List ℕ) (at : deck ≡ given) (is : given ≡ d) where
  as_made : deck ≡ d
  as_made = at ∙ is

  pub translated_as : (items text : List ℕ) → items ≡ text → IsTranslationOf Plain deck text → IsTranslated Plain d items
  translated_as items text same h =
      subst (λ (t : List ℕ). IsTranslated Plain d t) (sym same)
      (is_translated d text (subst (λ (x : List ℕ). IsTranslationOf Plain x text) as_made h))

  pub untranslated_as : (taken : Option (List ℕ)) (f : ℕ) (o : Outcome) → IsUntranslated Plain deck o → Summarises d taken taken f f o
  untranslated_as taken f o h = untranslated d taken f f o (subst (λ (x : List ℕ). IsUntranslated Plain x o) as_made h)

-- it has few bytes
pub short_enough : (deck given : List ℕ) → deck ≡ given → length given < 2 ^ 24 → length deck ≤ deck_bytes
short_enough deck given at short = let same : length deck ≡ length given = ap (λ (t : List ℕ). length t) at in omega (arith, short, same)
