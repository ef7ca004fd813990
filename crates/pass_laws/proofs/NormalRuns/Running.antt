-- What loops, assignments and conditions do where nothing hinders them, and what a loop has done where the run goes on.
use Rattle.std.proofs.Common.{◌≡◌, refl, sym, ap, ap₂, ◌∙◌, subst, ℕ, zero, suc, ◌+◌, ◌^◌, ℤ, pos, negsuc, ◌+ℤ◌, Bool}
use Rattle.std.proofs.Common.{true, false, cond, List, [], Result, Ok, Err, Some, None}
use Rattle.std.specs.Prelude.{nat_lt, int_le}
use Rattle.std.specs.Ordering.{int_eq}
use Rattle.tree.specs.Operators.{as_number, fits, as_truth, apply}
use Rattle.tree.specs.Plain.{Expression, If, Do, no_arms, arm, Block, no_statements}
use Rattle.tree.specs.declared.ops.Value.{Value}
use Rattle.tree.specs.declared.ops.Value.TheVariants.{Int, Truth}
use Rattle.tree.specs.declared.ops.Fault.{Fault}
use Rattle.tree.specs.declared.ops.Fault.TheVariants.{Overflow, ZeroStep}
use Rattle.meaning.specs.Store.{Store, Cell, put, cell_at}
use Rattle.meaning.specs.Value.{value_of, truth_of, number_of, is_in_range, increment_of, exact, trip_count}
use Rattle.meaning.specs.Run.{State, Going, Act, does, does_all, either, then, nothing, repeated, while_going}
use Rattle.meaning.specs.Run.{evaluates, counts_step, stores, checks_range, sets_variable, increases, turn}
use Rattle.rewrite.specs.Following.{sequential}
use Rattle.last_values.specs.Endings.{assigned}
use Rattle.nest_order.specs.runs.Guarded.{variable_cell}
use Rattle.nest_order.proofs.runs.Ending.{answered_by, counted, set}
use Rattle.nest_order.proofs.runs.Going.{moved}
use Rattle.nest.specs.Blocks.{numeral}
use Rattle.last_values.specs.normal_forms.Texts.{at_least_one}
use Rattle.tree.specs.declared.ops.Op.TheVariants.{Ge}
use Rattle.tree.specs.Steps as results

pub back : (s t : State) → s ≡ t → s.way ≡ Going → t.way ≡ Going
back s t e w = subst (λ (z : State). z.way ≡ Going) e w

-- ---- the increment of a nest's loop

pub increment_is : (bits : ℕ) (z : ℤ) (s : Store) (k : ℤ) → increment_of (sequential bits) (numeral z) s ≡ Ok k → k ≡ z
increment_is bits (pos n) s k h = by (int_eq (pos n) (pos 0)) h
  where
    by : (b : Bool) → ◌≡◌ {A = Result ℤ Fault} (cond b (Err ZeroStep) (Ok (pos n))) (Ok k) → k ≡ pos n
    by true e = cc
    by false e = cc
increment_is bits (negsuc n) s k h = by (nat_lt n (2 ^ 127)) h
  where
    by : (b : Bool) → (results.◌>>=◌ (results.◌>>=◌ (cond b (Ok (Int (negsuc n))) (Err Overflow)) as_number) (λ z. cond (int_eq z (pos 0)) (Err ZeroStep) (Ok z))) ≡ Ok k → k ≡ negsuc n
    by true e = cc
    by false e = cc

exactly : (z n : ℤ) → exact z ≡ Ok n → n ≡ z
exactly z n e = by (fits 127 z) e
  where
    by : (b : Bool) → cond b (Ok z) (Err Overflow) ≡ Ok n → n ≡ z
    by true e = cc
    by false e = cc

-- ---- a loop that has gone on

pub record LoopDone (bits line : ℕ) (x : List ℕ) (first last : Expression) (step : ℤ) (body : Block) (s t : State) : Type 0 where
  pub low : ℤ
  pub high : ℤ
  pub turns : ℕ
  pub cell : Cell
  pub from : s.way ≡ Going
  pub begins : number_of (sequential bits) first s.store ≡ Ok low
  pub ends : number_of (sequential bits) last s.store ≡ Ok high
  pub counts : trip_count low high step ≡ Ok turns
  pub place : cell_at x [] s.store ≡ Ok cell
  pub range : is_in_range bits (Int low) ≡ true
  pub is : t ≡ repeated turns (turn (sequential bits) None line x step (does_all (sequential bits) None body)) (record s { store = put cell (Int low) s.store })

pub loop_done : (bits line : ℕ) (x : List ℕ) (first last : Expression) (step : ℤ) (body : Block) (s : State) → (does (sequential bits) None (Do line x first last (numeral step) body) s).way ≡ Going
    → LoopDone bits line x first last step body s (does (sequential bits) None (Do line x first last (numeral step) body) s)
loop_done bits line x first last step body s w =
    let all : Act = does (sequential bits) None (Do line x first last (numeral step) body) in
    let many : ℕ → Act = λ n. repeated n (turn (sequential bits) None line x step (does_all (sequential bits) None body)) in
    let k3 : ℤ → ℤ → ℤ → Act = λ m1 m2 m3. then (sets_variable (sequential bits) None line x m1) (evaluates line (λ s. trip_count m1 m2 m3) (λ n. repeated n (turn (sequential bits) None line x m3 (does_all (sequential bits) None body)))) in
    let k2 : ℤ → ℤ → Act = λ m1 m2. evaluates line (increment_of (sequential bits) (numeral step)) (k3 m1 m2) in
    let k1 : ℤ → Act = λ m1. evaluates line (number_of (sequential bits) last) (k2 m1) in
    let a = answered_by line (number_of (sequential bits) first) k1 s w in
    let w1 = back (all s) (k1 a.answer s) a.is w in
    let b = answered_by line (number_of (sequential bits) last) (k2 a.answer) s w1 in
    let w2 = back (k1 a.answer s) (k2 a.answer b.answer s) b.is w1 in
    let c = answered_by line (increment_of (sequential bits) (numeral step)) (k3 a.answer b.answer) s w2 in
    let by : c.answer ≡ step = increment_is bits step s.store c.answer c.gave in
    let e3 : k2 a.answer b.answer s ≡ k3 a.answer b.answer step s = c.is ∙ ap (λ m. k3 a.answer b.answer m s) by in
    let w3 = back (k2 a.answer b.answer s) (k3 a.answer b.answer step s) e3 w2 in
    let s1 : State = sets_variable (sequential bits) None line x a.answer s in
    let d = answered_by line (λ s. trip_count a.answer b.answer step) many s1 w3 in
    let v = set bits line x a.answer s d.from in
    record {
      low = a.answer;
      high = b.answer;
      turns = d.answer;
      cell = v.cell;
      from = a.from;
      begins = a.gave;
      ends = b.gave;
      counts = d.gave;
      place = v.place;
      range = v.range;
      is = a.is ∙ (b.is ∙ (e3 ∙ (d.is ∙ ap (many d.answer) v.is)));
    }

-- ---- a turn that has gone on

pub record TurnDone (bits line : ℕ) (x : List ℕ) (step : ℤ) (body : Act) (s t : State) : Type 0 where
  pub cell : Cell
  pub number : ℤ
  pub from : s.way ≡ Going
  pub within : (body (record s { steps = s.steps + 1 })).way ≡ Going
  pub place : cell_at x [] (body (record s { steps = s.steps + 1 })).store ≡ Ok cell
  pub gives : as_number ((body (record s { steps = s.steps + 1 })).store.held cell) ≡ Ok number
  pub range : is_in_range bits (Int (number +ℤ step)) ≡ true
  pub is : t ≡ record (body (record s { steps = s.steps + 1 })) { store = put cell (Int (number +ℤ step)) (body (record s { steps = s.steps + 1 })).store }

pub turn_done : (bits line : ℕ) (x : List ℕ) (step : ℤ) (body : Act) (s : State) → (turn (sequential bits) None line x step body s).way ≡ Going → TurnDone bits line x step body s (turn (sequential bits) None line x step body s)
turn_done bits line x step body s w =
    let a = counted bits (then body (increases (sequential bits) None line x step)) s w in
    let s1 : State = record s { steps = s.steps + 1 } in
    let u : State = body s1 in
    let w1 = back (turn (sequential bits) None line x step body s) (increases (sequential bits) None line x step u) a.1 w in
    let k2 : ℤ → Act = λ z. sets_variable (sequential bits) None line x z in
    let more : Cell → Store → Result ℤ Fault = λ c s. results.◌>>=◌ (as_number (s.held c)) λ z. exact (z +ℤ step) in
    let k1 : Cell → Act = λ c. evaluates line (more c) k2 in
    let b = answered_by line (cell_at x []) k1 u w1 in
    let w2 = back (increases (sequential bits) None line x step u) (k1 b.answer u) b.is w1 in
    let c = answered_by line (more b.answer) k2 u w2 in
    let w3 = back (k1 b.answer u) (k2 c.answer u) c.is w2 in
    let d = set bits line x c.answer u w3 in
    let m = known (as_number (u.store.held b.answer)) c.answer refl c.gave in
    let same : d.cell ≡ b.answer = same_cells (cell_at x [] u.store) d.cell b.answer d.place b.gave in
    record {
      cell = b.answer;
      number = m.0;
      from = a.0;
      within = b.from;
      place = b.gave;
      gives = m.1;
      range = ap (λ z. is_in_range bits (Int z)) (sym m.2) ∙ d.range;
      is = a.1 ∙ (b.is ∙ (c.is ∙ (d.is ∙ ap₂ (λ (c : Cell) (z : ℤ). let t : State = record u { store = put c (Int z) u.store } in t) same m.2)));
    }
  where
    known : (r : Result ℤ Fault) (z : ℤ) {q : Result ℤ Fault} → q ≡ r → (results.◌>>=◌ r (λ z. exact (z +ℤ step))) ≡ Ok z → (n : ℤ) × (q ≡ Ok n) × (z ≡ n +ℤ step)
    known (Ok n) z f e = (n, f, exactly (n +ℤ step) z e)
    known (Err h) z f e = cc

    same_cells : (r : Result Cell Fault) (c d : Cell) → r ≡ Ok c → r ≡ Ok d → c ≡ d
    same_cells r c d e f = cc

pub turns_from : (bits line : ℕ) (x : List ℕ) (step : ℤ) (body : Act) (k : ℕ) (s : State) → (repeated k (turn (sequential bits) None line x step body) s).way ≡ Going → s.way ≡ Going
turns_from bits line x step body zero s w = w
turns_from bits line x step body (suc k) s w =
    (turn_done bits line x step body s (turns_from bits line x step body k (turn (sequential bits) None line x step body s) w)).from

-- ---- an assignment to a scalar, and an IF without an ELSE part

pub scalar_assigned : (bits line : ℕ) (v : List ℕ) (e : Expression) (t : State) (z : ℤ) → t.way ≡ Going → value_of (sequential bits) e t.store ≡ Ok (Int z) → t.store.bounds v ≡ Some [] → is_in_range bits (Int z) ≡ true
    → does (sequential bits) None (assigned line v e) t ≡ moved t (t.steps + 1 + 1) (put (variable_cell v) (Int z) t.store)
unfolding while_going evaluates counts_step stores checks_range
scalar_assigned bits line v e t z w f g h = rw (w, f, g, h) refl

pub condition_done : (bits line : ℕ) (test : Expression) (body : Block) (s : State) (b : Bool) → s.way ≡ Going → truth_of (sequential bits) test s.store ≡ Ok b
    → does (sequential bits) None (If line (arm test body no_arms) no_statements) s ≡ either b (does_all (sequential bits) None body) nothing (moved s (s.steps + 1) s.store)
unfolding while_going evaluates counts_step
condition_done bits line test body s b w f = rw (w, f) refl

-- whether a trip is at least one
pub at_least_one_is : (bits : ℕ) (e : Expression) (s : Store) (z : ℤ) → number_of (sequential bits) e s ≡ Ok z → truth_of (sequential bits) (at_least_one e) s ≡ Ok (int_le (pos 1) z)
at_least_one_is bits e s z h = by (value_of (sequential bits) e s) h
  where
    by : (r : Result Value Fault) → (results.◌>>=◌ r as_number) ≡ Ok z
        → (results.◌>>=◌ (results.◌>>=◌ r (λ x. apply Ge x (Int (pos 1)))) as_truth) ≡ Ok (int_le (pos 1) z)
    by (Ok (Int y)) e = let same : y ≡ z = cc in ap (λ z. Ok (int_le (pos 1) z)) same
    by (Ok (Truth b)) e = cc
    by (Err f) e = cc
