-- What is done keeps moments that suit the program.
use Rattle.std.proofs.Common.{◌≡◌, refl, sym, ap, ◌∙◌, subst, ◌⊎◌, inl, inr, zero, suc, ℕ, ℤ, ◌-◌, ◌+ℤ◌, List, [], drop, Result, Ok, Err, Option, Some, None, append-nil, arith}
use Rattle.std.specs.Io.KnownBytes.{append_known}
use Rattle.tree.specs.Steps.{◌>>=◌}
use Rattle.tree.specs.Operators.{as_number}
use Rattle.tree.specs.Plain.{Program, Expression, Statement, Do, Stop, Block, no_statements, statement}
use Rattle.tree.specs.declared.ops.Value.TheVariants.{Int}
use Rattle.meaning.specs.Blocks.{Surroundings}
use Rattle.meaning.specs.Dialect.{fortran90}
use Rattle.tree.specs.declared.width.Width.{Width}
use Rattle.meaning.specs.Holding.{HoldsProgram}
use Rattle.meaning.specs.Profile90.{IsStatement, IsBlock}
use Rattle.meaning.specs.Store.{Cell}
use Rattle.meaning.specs.Texts.{without_cr}
use Rattle.meaning.specs.Typed90.{IsIntegerScalar}
use Rattle.meaning.specs.Value.{exact}
use Rattle.meaning.specs.Run.{State, Way, Going, Jumping, Stopped, Failed, Cut, goes, does, does_all, increases, sets_variable, loops, repeated, turn}
use Rattle.meaning.proofs.Kept.{Keeps}
use Rattle.machine.specs.declared.steps.Turns.{Turns}
use Rattle.machine.specs.declared.progress.Halt.TheVariants.{Stop as Stop', Limit}
use Rattle.machine.specs.declared.progress.Left.{Left}
use Rattle.machine.specs.declared.progress.Left.TheVariants.{Halted, Unwritten}
use Rattle.machine.specs.Acts.{LimitedAct, Outcome, Runs}
use Rattle.machine.specs.Moments.{Seen, Stands, CountsStep, seen_at, steps_left}
use Rattle.machine.proofs.ActLaws.{Runs-counts_step, Runs-cut, Runs-goes}
use Rattle.machine.proofs.BlockLaws.{Extends-does_all}
use Rattle.machine.proofs.StepLaws.{step_unlimited, step_missing, step_taken}
use Rattle.machine.proofs.TurnLaws.{turn_cut, turn_left, no_turn}
use Rattle.meaning_laws.proofs.profiles.Answering.{AnyFault, AnyValue}
use Rattle.meaning_laws.proofs.profiles.Parts.{Good, keeps_evaluates, keeps_checks_range, keeps_stores, Allowed}
use Rattle.meaning_laws.proofs.profiles.Stores.{Fits}
use Rattle.meaning_laws.proofs.profiles.TargetRuns.{any_rest, statements_keep_stores}
use Rattle.meaning_laws.proofs.profiles.ValueKinds.{any, cell_is, integer_fits}
use Rattle.array_expressions.specs.assignments.Loops.{BeginsLoop}
use Rattle.run90.specs.Suiting.{Suits}

-- ---- a moment of a run that a machine's moment stands for

whole : (limit : Option ℕ) → limit ≡ steps_left limit 0
whole None = refl
whole (Some n) = ap (λ k. let o : Option ℕ = Some k in o) (let e : n ≡ n - 0 = omega arith in e)

with_nothing : (bytes : Option (List ℕ)) → bytes ≡ append_known bytes []
with_nothing None = refl
with_nothing (Some xs) = ap (λ ys. let o : Option (List ℕ) = Some ys in o) (sym (append-nil xs))

abbrev first : Seen → List ℕ → State
first m input = record { store = m.store; written = []; input = without_cr (drop m.progress.at input); had_value = m.progress.had_value; steps = 0; way = Going }

stands_first : (m : Seen) (input : List ℕ) → Stands m.names m.progress.left input m Going (first m input)
stands_first m input = record { names_are = refl; store = refl; input_left = refl; had_value = refl; steps = whole m.progress.left; way_is = refl }

-- ---- acts that keep stores which hold the program

abbrev pub HasEnded : Result (Unit {0}) Left → Type 0
HasEnded (Ok x) = Unit {0}
HasEnded (Err (Halted h)) = Unit {0}
HasEnded (Err Unwritten) = ⊥

abbrev pub KeepsStores : (width : Width) → Program → LimitedAct → Type 0
KeepsStores width p act = (limit : Option ℕ) (s : State) → HoldsProgram (fortran90 width) p s.store → HoldsProgram (fortran90 width) p (act limit s).store

pub suits_after : (width : Width) (p : Program) (act : LimitedAct) → KeepsStores width p act → (input : List ℕ) (old new : Seen) (before now : Option (List ℕ)) (r : Result (Unit {0}) Left) → HasEnded r
    → Runs act input old before new now r → Suits width p old → Suits width p new
unfolding Runs
suits_after width p act keeps input old new before now r e h s = by r e (h old.names old.progress.left before (first old input) (stands_first old input) (with_nothing before)).0
  where
    suits : {way : Way} → Stands old.names old.progress.left input new way (act old.progress.left (first old input)) → Suits width p new
    suits d = record { names = d.names_are ∙ s.names; holds = subst (HoldsProgram (fortran90 width) p) d.store (keeps old.progress.left (first old input) s.holds) }

    by : (r : Result (Unit {0}) Left) → HasEnded r → Outcome old.names old.progress.left input before new now r (act old.progress.left (first old input)) → Suits width p new
    by (Ok x) e o = suits o.stands
    by (Err (Halted t)) e o = suits o.stands
    by (Err Unwritten) e o = absurd e

-- nothing but a step was counted
pub step_same : (old new : Seen) → CountsStep old new (Ok tt) → (new.names ≡ old.names) × (new.store ≡ old.store)
unfolding CountsStep
step_same old new c =
    let d = (c old.names old.progress.left [] (first old []) (stands_first old [])).1 in
    (d.names_are, sym d.store)

pub suits_same : (width : Width) (p : Program) (old new : Seen) → new.names ≡ old.names → new.store ≡ old.store → Suits width p old → Suits width p new
suits_same width p old new n st s = record { names = n ∙ s.names; holds = subst (HoldsProgram (fortran90 width) p) (sym st) s.holds }

pub suits_step : (width : Width) (p : Program) (old new : Seen) → CountsStep old new (Ok tt) → Suits width p old → Suits width p new
suits_step width p old new c s = (let e = step_same old new c in suits_same width p old new e.0 e.1 s)

pub keeps_statement : (width : Width) (p : Program) (c : Statement) (w : Surroundings) → IsStatement p.declarations c w → KeepsStores width p (λ limit. does (fortran90 width) limit c)
keeps_statement width p c w is limit s h = statements_keep_stores (fortran90 width) limit p (statement c no_statements) w s (is, tt) h

pub keeps_block : (width : Width) (p : Program) (cs : Block) (w : Surroundings) → IsBlock p.declarations cs w → KeepsStores width p (λ limit. does_all (fortran90 width) limit cs)
keeps_block width p cs w is limit s h = statements_keep_stores (fortran90 width) limit p cs w s is h

any_way : (w : Way) → Allowed AnyFault w
any_way Going = tt
any_way (Jumping n) = tt
any_way Stopped = tt
any_way (Failed f line) = tt
any_way Cut = tt

pub keeps_increases : (width : Width) (p : Program) (line : ℕ) (x : List ℕ) (d : ℤ) → IsIntegerScalar p.declarations x → KeepsStores width p (λ limit. increases (fortran90 width) limit line x d)
keeps_increases width p line x d i limit s h = (keeps.at s (record { store = h; way = any_way s.way })).store
  where
    sets : (z : ℤ) → Keeps (Good (fortran90 width) limit p AnyFault any_rest) (sets_variable (fortran90 width) limit line x z)
    sets z = keeps_evaluates (fortran90 width) limit p AnyFault any_rest (λ (c : Cell). c.name ≡ x) line _ _ (λ s q. cell_is (fortran90 width) p (s.bounds x) x []) (λ c e.
        keeps_checks_range (fortran90 width) limit p AnyFault any_rest line (Int z) _ (λ r. keeps_stores (fortran90 width) limit p AnyFault any_rest c (Int z) (subst (λ y. Fits (fortran90 width) p y (Int z)) (sym e) (integer_fits (fortran90 width) p x z i r))))

    keeps : Keeps (Good (fortran90 width) limit p AnyFault any_rest) (increases (fortran90 width) limit line x d)
    keeps = keeps_evaluates (fortran90 width) limit p AnyFault any_rest (λ (c : Cell). c.name ≡ x) line _ _ (λ s q. cell_is (fortran90 width) p (s.bounds x) x []) (λ c e.
        keeps_evaluates (fortran90 width) limit p AnyFault any_rest AnyValue line _ _ (λ s q. any (as_number (s.held c) >>= λ z. exact (z +ℤ d))) (λ z u. sets z))

-- ---- a loop that has begun

-- a further step is counted, or none is left
abbrev Steps : Seen → Type 0
Steps m = CountsStep m m (Err Limit) ⊎ ((t : Seen) × (t.names ≡ m.names) × (t.store ≡ m.store) × CountsStep m t (Ok tt))

steps : (m : Seen) → Steps m
steps m = by m.progress.left refl
  where
    by : (l : Option ℕ) → m.progress.left ≡ l → CountsStep m m (Err Limit) ⊎ ((t : Seen) × (t.names ≡ m.names) × (t.store ≡ m.store) × CountsStep m t (Ok tt))
    by None e = inr (m, refl, refl, step_unlimited m e)
    by (Some zero) e = inl (step_missing m e)
    by (Some (suc k)) e =
        let t = seen_at m.names m.store (record m.progress { left = Some (suc k - 1) }) in
        inr (t, refl, refl, step_taken m t (suc k) e (omega arith) refl refl refl refl refl)

module _ (width : Width) (p : Program) (w : Surroundings) (line : ℕ) (x : List ℕ) (a b c : Expression) (body : Block) (is : IsStatement p.declarations (Do line x a b c body) w) (old new : Seen) (t : Turns)
    (begun : BeginsLoop width line x a b c old new (Ok t)) (suits : Suits width p old) where
  -- a loop that stops at once
  abbrev stopping : Block
  stopping = statement (Stop line) no_statements

  abbrev stops : LimitedAct
  stops limit = does_all (fortran90 width) limit stopping

  keeps : KeepsStores width p (λ limit. loops (fortran90 width) limit line x a b c (stops limit))
  keeps = keeps_statement width p (Do line x a b c stopping) w (is.0, is.1, is.2, is.3, is.4, (is.0, tt))

  after : (end : Seen) (r : Result (Unit {0}) Left) → HasEnded r → Runs (λ limit. repeated t.count (turn (fortran90 width) limit line x t.step (stops limit))) [] new None end None r → Suits width p end
  unfolding BeginsLoop
  after end r e h = suits_after width p (λ limit. loops (fortran90 width) limit line x a b c (stops limit)) keeps [] old end None None r e (begun stops [] None None end r h) suits

  at_stop : (m : Seen) → Steps m → (end : Seen) × (end.names ≡ m.names) × (end.store ≡ m.store) × ((r : Result (Unit {0}) Left) × (left : Left) × (r ≡ Err left) × HasEnded r × Runs stops [] m None end None r)
  at_stop m (inl c) = (m, refl, refl, (Err (Halted Limit), Halted Limit, refl, tt, Runs-cut (fortran90 width) (λ limit. goes Stopped) [] m m None Limit c))
  at_stop m (inr s) = (s.0, s.1, s.2, (Err (Halted Stop'), Halted Stop', refl, tt, Runs-counts_step (fortran90 width) (λ limit. goes Stopped) [] m s.0 s.0 None None (Err (Halted Stop')) s.3 (Runs-goes [] s.0 None Stop')))

  pub loop_suits : Suits width p new
  loop_suits = by t.count refl
    where
      turning : (n : ℕ) → t.count ≡ suc n → Steps new → Suits width p new
      turning n e (inl c) = after new (Err (Halted Limit)) tt
          (subst (λ k. Runs (λ limit. repeated k (turn (fortran90 width) limit line x t.step (stops limit))) [] new None new None (Err (Halted Limit))) (sym e)
          (turn_cut (fortran90 width) line x t.step stops [] n new new None Limit c))
      turning n e (inr s) =
          let q = at_stop s.0 (steps s.0) in
          let r = q.3 in
          let h = subst (λ o. HasEnded o × Runs stops [] s.0 None q.0 None o) r.2 (r.3, r.4) in
          suits_same width p q.0 new (sym (q.1 ∙ s.1)) (sym (q.2 ∙ s.2))
          (after q.0 (Err r.1) h.0
          (subst (λ k. Runs (λ limit. repeated k (turn (fortran90 width) limit line x t.step (stops limit))) [] new None q.0 None (Err r.1)) (sym e)
          (turn_left (fortran90 width) line x t.step stops [] n new s.0 q.0 None None r.1 (Extends-does_all (fortran90 width) stopping) s.3 h.1)))

      by : (n : ℕ) → t.count ≡ n → Suits width p new
      by zero e = after new (Ok tt) tt
          (subst (λ k. Runs (λ limit. repeated k (turn (fortran90 width) limit line x t.step (stops limit))) [] new None new None (Ok tt)) (sym e) (no_turn (fortran90 width) line x t.step stops [] 0 new None refl))
      by (suc n) e = turning n e (steps new)
