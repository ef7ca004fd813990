-- What a machine's run, and the showing of its store, have given of the run's text.
use Rattle.std.proofs.Common.{◌≡◌, ◌≤◌, ◌++◌, ℕ, List, [], Bool, true, false, Option, Some, refl, ap, sym, ◌∙◌, subst, append_assoc, append-nil}
use Rattle.std.specs.Prelude.{not, cond}
use Rattle.streams.proofs.Chained.{gives_more, both_none}
use Rattle.streams.proofs.Counts.{later_then_rose}
use Rattle.streams.specs.Causes.{Rose}
use Rattle.streams.specs.Streams.{Gives, GivesPart}
use Rattle.tree.specs.Plain.{Declaration, Program}
use Rattle.meaning.specs.Run.{State}
use Rattle.meaning.specs.Sequential.{ending}
use Rattle.meaning.specs.Steps.{final_lines}
use Rattle.meaning.specs.Store.{Store}
use Rattle.meaning.specs.declared.End.{End}
use Rattle.meaning.specs.declared.End.TheVariants as end
use Rattle.machine.specs.Moments.{Seen}
use Rattle.machine.specs.Acts.{HasFront}
use Rattle.machine.specs.Endings.{Ends, EndsWith}
use Rattle.run90.specs.Machine.{HasFrontOf}
use Rattle.tool.specs.declared.commands.commands.Options.{Options}
use Rattle.tool.specs.Running.{run_text, final_part}
use Rattle.tool.specs.Works.{Writing, GaveAll, GaveFront}

pub ends_at : (names : List Declaration) (s : State) (m : Seen) (before now : Option (List ℕ)) (e e' : End) → e ≡ e' → Ends names s m before now e → Ends names s m before now e'
ends_at names s m before now e e' q h = subst (λ (e : End). Ends names s m before now e) q h

-- there was no memory in the run
pub run_stopped : (options : Options) (p : Program) (s : State) (before now : Option (List ℕ)) → HasFrontOf s.written before now → GivesPart before (run_text options p s) now
run_stopped options p s before now h = (
  h.front,
  h.rest ++ final_part options p s (ending s),
  ap (λ t. t ++ final_part options p s (ending s)) h.whole ∙ append_assoc h.front h.rest (final_part options p s (ending s)),
  h.taken,
)

-- a write failed in the run
pub run_cut : (options : Options) (p : Program) (s : State) (names : List Declaration) (m : Seen) (w : Writing) → HasFront names w.before m w.now s → Rose w.faults_before w.faults_now
    → GaveFront (run_text options p s) w
run_cut options p s names m w h fault = record {
  fault = fault;
  front = (
    h.front,
    h.rest ++ final_part options p s (ending s),
    ap (λ t. t ++ final_part options p s (ending s)) h.whole ∙ append_assoc h.front h.rest (final_part options p s (ending s)),
    h.taken,
  );
}

asked : (options : Options) → not options.final_store ≡ false → options.final_store ≡ true
asked options e = by options.final_store e
  where
    by : (b : Bool) → not b ≡ false → b ≡ true
    by true e = refl
    by false e = absurd (cc)

-- the run ended so, and no store is shown
pub run_whole : (options : Options) (p : Program) (s : State) (m : Seen) (w : Writing) (e : End) → final_part options p s (Some e) ≡ [] → EndsWith s m w.before w.now e
    → GaveAll (ending s) (run_text options p s) w e
run_whole options p s m w e none h = record {
  ending_is = h.ending;
  all = subst (λ (t : List ℕ). Gives w.before t w.now)
      (sym (ap (λ o. s.written ++ final_part options p s o) h.ending ∙ ap (λ t. s.written ++ t) none ∙ append-nil s.written)) h.taken;
}

-- the final store isn't asked for
pub unasked : (options : Options) (p : Program) (s : State) → not options.final_store ≡ true → final_part options p s (Some end.Done) ≡ []
unasked options p s e = by options.final_store e
  where
    by : (b : Bool) → not b ≡ true → cond b (final_lines p s.store) [] ≡ []
    by true e = absurd (cc)
    by false e = refl

-- the run's text, where the final store is asked for
shown_text : (options : Options) (p : Program) (s : State) (store : Store) → not options.final_store ≡ false → ending s ≡ Some end.Done → store ≡ s.store
    → run_text options p s ≡ s.written ++ final_lines p store
shown_text options p s store e ended same =
    ap (λ o. s.written ++ final_part options p s o) ended
    ∙ ap (λ b. s.written ++ cond b (final_lines p s.store) []) (asked options e)
    ∙ ap (λ t. s.written ++ final_lines p t) (sym same)

-- the store was shown behind the run's output
pub store_shown : (options : Options) (p : Program) (s : State) (m : Seen) (between : Option (List ℕ)) (w : Writing) → not options.final_store ≡ false
    → EndsWith s m w.before between end.Done → Gives between (final_lines p m.store) w.now → GaveAll (ending s) (run_text options p s) w end.Done
store_shown options p s m between w e h shown = record {
  ending_is = h.ending;
  all = subst (λ (t : List ℕ). Gives w.before t w.now) (sym (shown_text options p s m.store e h.ending h.store))
      (gives_more w.before between w.now s.written (final_lines p m.store) h.taken shown);
}

-- a write failed as the store was shown
pub store_cut : (options : Options) (p : Program) (s : State) (m : Seen) (between : Option (List ℕ)) (w : Writing) (faults : ℕ) → not options.final_store ≡ false
    → EndsWith s m w.before between end.Done → GivesPart between (final_lines p m.store) w.now → w.faults_before ≤ faults → Rose faults w.faults_now
    → GaveFront (run_text options p s) w
store_cut options p s m between w faults e h shown later fault = record {
  fault = later_then_rose w.faults_before faults w.faults_now later fault;
  front = (
    s.written ++ shown.0,
    shown.1,
    shown_text options p s m.store e h.ending h.store ∙ ap (λ t. s.written ++ t) shown.2 ∙ sym (append_assoc s.written shown.0 shown.1),
    gives_more w.before between w.now s.written shown.0 h.taken shown.3,
  );
}

-- a run without a text has written nothing, and has no store to show
pub unwritten : (options : Options) (p : Program) (s : State) → run_text options p s ≡ [] → s.written ≡ []
unwritten options p s none = (both_none s.written (final_part options p s (ending s)) none).0

pub unshown : (options : Options) (p : Program) (s : State) (store : Store) → not options.final_store ≡ false → ending s ≡ Some end.Done → store ≡ s.store → run_text options p s ≡ [] → final_lines p store ≡ []
unshown options p s store e ended same none =
    (both_none s.written (final_lines p store) (sym (shown_text options p s store e ended same) ∙ none)).1
