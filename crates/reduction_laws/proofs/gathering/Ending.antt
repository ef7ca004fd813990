-- What statements have done where the run goes on after them.
use Rattle.std.proofs.Common.{◌≡◌, refl, sym, ap, ap₂, ◌∙◌, subst, ℕ, suc, ◌+◌, ℤ, pos, negsuc, ◌+ℤ◌, ◌-ℤ◌, Bool, true, false, cond, List, [], Result, Ok, Err, Option, None, int_div, neg_ℤ}
use Rattle.std.proofs.Math.IntN.{ -ℤ-+ℤ_cancel}
use Rattle.std.proofs.Math.Nat.{div-one}
use Rattle.tree.specs.Operators.{as_number, fits}
use Rattle.tree.specs.Steps as results
use Rattle.tree.specs.Plain.{Expression, Number, Logic, Reference, Assignment, If, Do, no_arms, arm, Block, no_statements}
use Rattle.tree.specs.declared.ops.Value.{Value}
use Rattle.tree.specs.declared.ops.Value.TheVariants.{Int}
use Rattle.tree.specs.declared.ops.Fault.{Fault}
use Rattle.tree.specs.declared.ops.Fault.TheVariants.{Overflow, TripCount}
use Rattle.tree.specs.declared.stmts.Mark.{Mark}
use Rattle.meaning.specs.Store.{Store, Cell, put, cell_at}
use Rattle.meaning.specs.Value.{value_of, truth_of, number_of, cell_named, is_array, named, is_in_range, increment_of, exact, as_count, trip_count}
use Rattle.meaning.specs.Run.{State, Way, Going, Jumping, Stopped, Failed, Cut, Act, does, does_all, on_way, answered, goes, either, then, nothing, repeated, while_going, evaluates, counts_step, stores, checks_range, sets_variable, increases, turn, assigns, array_assigns}
use Rattle.meaning.specs.Dialect.{Dialect}

-- the number of turns of a loop from 1 to z by 1
abbrev pub turns_to : ℤ → ℕ
turns_to (pos n) = n
turns_to (negsuc n) = 0

-- an act that is done while the run is going alone
pub going : (k : Act) (s : State) → (while_going k s).way ≡ Going → (s.way ≡ Going) × (while_going k s ≡ k s)
unfolding while_going
going k s e = by s.way refl e
  where
    by : (w : Way) → s.way ≡ w → (on_way w k s).way ≡ Going → (w ≡ Going) × (on_way w k s ≡ k s)
    by Going f e = (refl, refl)
    by (Jumping n) f e = cc
    by Stopped f e = cc
    by (Failed g n) f e = cc
    by Cut f e = cc

-- a question that had an answer
pub record Answered {A : Type 0} (line : ℕ) (f : Store → Result A Fault) (k : A → Act) (s : State) : Type 0 where
  pub answer : A
  pub from : s.way ≡ Going
  pub gave : f s.store ≡ Ok answer
  pub is : evaluates line f k s ≡ k answer s

pub answered_by : {A : Type 0} (line : ℕ) (f : Store → Result A Fault) (k : A → Act) (s : State) → (evaluates line f k s).way ≡ Going → Answered line f k s
unfolding evaluates
answered_by {A} line f k s e =
    let h = going (λ s. answered line (f s.store) k s) s e in
    by h.0 (f s.store) refl h.1 (ap (λ (t : State). t.way) (sym h.1) ∙ e)
  where
    by : s.way ≡ Going → (r : Result A Fault) → f s.store ≡ r → while_going (λ s. answered line (f s.store) k s) s ≡ answered line r k s → (answered line r k s).way ≡ Going → Answered line f k s
    by w (Ok x) g h e = record { answer = x; from = w; gave = g; is = h }
    by w (Err f) g h e = cc

pub counted : (lang : Dialect) (k : Act) (s : State) → (counts_step lang None k s).way ≡ Going → (s.way ≡ Going) × (counts_step lang None k s ≡ k (record s { steps = s.steps + 1 }))
unfolding counts_step
counted lang k s e = going (λ s. k (record s { steps = s.steps + 1 })) s e

pub ranged : (lang : Dialect) (line : ℕ) (v : Value) (k : Act) (s : State) → (checks_range lang None line v k s).way ≡ Going → (s.way ≡ Going) × (is_in_range lang.bits v ≡ true) × (checks_range lang None line v k s ≡ k s)
unfolding checks_range
ranged lang line v k s e =
    let h = going (either (is_in_range lang.bits v) k (goes (Failed Overflow line))) s e in
    by h.0 (is_in_range lang.bits v) refl h.1 (ap (λ (t : State). t.way) (sym h.1) ∙ e)
  where
    by : s.way ≡ Going → (b : Bool) → is_in_range lang.bits v ≡ b → while_going (either (is_in_range lang.bits v) k (goes (Failed Overflow line))) s ≡ either b k (goes (Failed Overflow line)) s → (either b k (goes (Failed Overflow line)) s).way ≡ Going
        → (s.way ≡ Going) × (is_in_range lang.bits v ≡ true) × (while_going (either (is_in_range lang.bits v) k (goes (Failed Overflow line))) s ≡ k s)
    by w true g h e = (w, g, h)
    by w false g h e = cc

pub stored : (c : Cell) (v : Value) (s : State) → (stores c v s).way ≡ Going → (s.way ≡ Going) × (stores c v s ≡ record s { store = put c v s.store })
unfolding stores
stored c v s e = going (λ s. record s { store = put c v s.store }) s e

back : (s t : State) → s ≡ t → s.way ≡ Going → t.way ≡ Going
back s t e w = subst (λ (z : State). z.way ≡ Going) e w

-- ---- assignments

pub record Assigned (lang : Dialect) (r : Reference) (e : Expression) (s t : State) : Type 0 where
  pub value : Value
  pub cell : Cell
  pub from : s.way ≡ Going
  pub gives : value_of lang e s.store ≡ Ok value
  pub place : cell_named lang r s.store ≡ Ok cell
  pub range : is_in_range lang.bits value ≡ true
  pub store : t.store ≡ put cell value s.store

pub assigned : (lang : Dialect) (line : ℕ) (m : Option Mark) (r : Reference) (e : Expression) (s : State) → is_array lang (named r) s.store ≡ false → (does lang None (Assignment line m r e) s).way ≡ Going → Assigned lang r e s (does lang None (Assignment line m r e) s)
assigned lang line m r e s scalar w =
    let keep : Value → Act = λ v. evaluates line (cell_named lang r) (λ c. checks_range lang None line v (counts_step lang None (stores c v))) in
    let first : Act = λ s. either (is_array lang (named r) s.store) (array_assigns lang None line (Logic true) r e) (assigns lang None line r e) s in
    let a0 = counted lang first s w in
    let s1 : State = record s { steps = s.steps + 1 } in
    let q : first s1 ≡ evaluates line (value_of lang e) keep s1 = ap (λ b. either b (array_assigns lang None line (Logic true) r e) (assigns lang None line r e) s1) scalar in
    let a : (s.way ≡ Going) × (does lang None (Assignment line m r e) s ≡ evaluates line (value_of lang e) keep s1) = (a0.0, a0.1 ∙ q) in
    let b = answered_by line (value_of lang e) keep s1 (back (does lang None (Assignment line m r e) s) (evaluates line (value_of lang e) keep s1) a.1 w) in
    let w2 = back (evaluates line (value_of lang e) keep s1) (keep b.answer s1) b.is (back (does lang None (Assignment line m r e) s) (evaluates line (value_of lang e) keep s1) a.1 w) in
    let last : Cell → Act = λ c. checks_range lang None line b.answer (counts_step lang None (stores c b.answer)) in
    let c = answered_by line (cell_named lang r) last s1 w2 in
    let w3 = back (keep b.answer s1) (last c.answer s1) c.is w2 in
    let d = ranged lang line b.answer (counts_step lang None (stores c.answer b.answer)) s1 w3 in
    let w4 = back (last c.answer s1) (counts_step lang None (stores c.answer b.answer) s1) d.2 w3 in
    let f = counted lang (stores c.answer b.answer) s1 w4 in
    let s2 : State = record s1 { steps = s1.steps + 1 } in
    let w5 = back (counts_step lang None (stores c.answer b.answer) s1) (stores c.answer b.answer s2) f.1 w4 in
    let g = stored c.answer b.answer s2 w5 in
    record {
      value = b.answer;
      cell = c.answer;
      from = a.0;
      gives = b.gave;
      place = c.gave;
      range = d.1;
      store = ap (λ (t : State). t.store) (a.1 ∙ (b.is ∙ (c.is ∙ (d.2 ∙ (f.1 ∙ g.1)))));
    }

-- ---- an IF of one arm

pub record Chosen (lang : Dialect) (test : Expression) (body : Block) (s t : State) : Type 0 where
  pub truth : Bool
  pub from : s.way ≡ Going
  pub gives : truth_of lang test s.store ≡ Ok truth
  pub is : t ≡ either truth (does_all lang None body) nothing (record s { steps = s.steps + 1 })

pub chosen : (lang : Dialect) (line : ℕ) (test : Expression) (body : Block) (s : State) → (does lang None (If line (arm test body no_arms) no_statements) s).way ≡ Going
    → Chosen lang test body s (does lang None (If line (arm test body no_arms) no_statements) s)
chosen lang line test body s w =
    let k : Bool → Act = λ b. either b (does_all lang None body) nothing in
    let a = counted lang (evaluates line (truth_of lang test) k) s w in
    let s1 : State = record s { steps = s.steps + 1 } in
    let w1 = back (does lang None (If line (arm test body no_arms) no_statements) s) (evaluates line (truth_of lang test) k s1) a.1 w in
    let b = answered_by line (truth_of lang test) k s1 w1 in
    record { truth = b.answer; from = a.0; gives = b.gave; is = a.1 ∙ b.is }

-- ---- loops from 1 to z by 1

pub record Set (lang : Dialect) (x : List ℕ) (z : ℤ) (s t : State) : Type 0 where
  pub cell : Cell
  pub from : s.way ≡ Going
  pub place : cell_at x [] s.store ≡ Ok cell
  pub range : is_in_range lang.bits (Int z) ≡ true
  pub is : t ≡ record s { store = put cell (Int z) s.store }

pub set : (lang : Dialect) (line : ℕ) (x : List ℕ) (z : ℤ) (s : State) → (sets_variable lang None line x z s).way ≡ Going → Set lang x z s (sets_variable lang None line x z s)
set lang line x z s w =
    let k : Cell → Act = λ c. checks_range lang None line (Int z) (stores c (Int z)) in
    let a = answered_by line (cell_at x []) k s w in
    let w1 = back (sets_variable lang None line x z s) (k a.answer s) a.is w in
    let b = ranged lang line (Int z) (stores a.answer (Int z)) s w1 in
    let w2 = back (k a.answer s) (stores a.answer (Int z) s) b.2 w1 in
    let c = stored a.answer (Int z) s w2 in
    record { cell = a.answer; from = a.from; place = a.gave; range = b.1; is = a.is ∙ (b.2 ∙ c.1) }

exactly : (z n : ℤ) → exact z ≡ Ok n → n ≡ z
exactly z n e = by (fits 127 z) e
  where
    by : (b : Bool) → cond b (Ok z) (Err Overflow) ≡ Ok n → n ≡ z
    by true e = cc
    by false e = cc

counts : (z : ℤ) (n : ℕ) → as_count z ≡ Ok n → n ≡ turns_to z
counts (pos k) n e = by (Rattle.std.specs.Prelude.nat_le k 2147483646) e
  where
    by : (b : Bool) → cond b (Ok k) (Err TripCount) ≡ Ok n → n ≡ k
    by true e = cc
    by false e = cc
counts (negsuc k) n e = cc

pub by_one : (z : ℤ) → int_div z (pos 1) ≡ z
by_one (pos n) = ap pos (div-one n)
by_one (negsuc n) = ap (λ k. neg_ℤ (pos k)) (div-one (suc n))

pub count_from_one : (z : ℤ) (n : ℕ) → trip_count (pos 1) z (pos 1) ≡ Ok n → n ≡ turns_to z
count_from_one z n e = by (exact (z -ℤ pos 1)) refl e
  where
    last : (q : Result ℤ Fault) (w : ℤ) → exact w ≡ q → w ≡ z → (results.◌>>=◌ q as_count) ≡ Ok n → n ≡ turns_to z
    last (Ok q) w f g e = counts z n (ap as_count (sym (exactly w q f ∙ g)) ∙ e)
    last (Err h) w f g e = cc

    middle : (b : Result ℤ Fault) (a : ℤ) → exact (a +ℤ pos 1) ≡ b → a ≡ z -ℤ pos 1 → (results.◌>>=◌ b (λ b. results.◌>>=◌ (exact (int_div b (pos 1))) as_count)) ≡ Ok n → n ≡ turns_to z
    middle (Ok b) a f g e = last (exact (int_div b (pos 1))) (int_div b (pos 1)) refl (by_one b ∙ (exactly (a +ℤ pos 1) b f ∙ (ap (λ k. k +ℤ pos 1) g ∙ -ℤ-+ℤ_cancel z (pos 1)))) e
    middle (Err h) a f g e = cc

    by : (a : Result ℤ Fault) → exact (z -ℤ pos 1) ≡ a → (results.◌>>=◌ a (λ a. results.◌>>=◌ (exact (a +ℤ pos 1)) (λ b. results.◌>>=◌ (exact (int_div b (pos 1))) as_count))) ≡ Ok n → n ≡ turns_to z
    by (Ok a) f e = middle (exact (a +ℤ pos 1)) a refl (exactly (z -ℤ pos 1) a f) e
    by (Err h) f e = cc

pub record Looped (lang : Dialect) (line : ℕ) (x : List ℕ) (e : Expression) (body : Block) (s t : State) : Type 0 where
  pub top : ℤ
  pub cell : Cell
  pub from : s.way ≡ Going
  pub gives : number_of lang e s.store ≡ Ok top
  pub place : cell_at x [] s.store ≡ Ok cell
  pub counts : trip_count (pos 1) top (pos 1) ≡ Ok (turns_to top)
  pub range : is_in_range lang.bits (Int (pos 1)) ≡ true
  pub is : t ≡ repeated (turns_to top) (turn lang None line x (pos 1) (does_all lang None body)) (record s { store = put cell (Int (pos 1)) s.store })

pub looped : (lang : Dialect) (line : ℕ) (x : List ℕ) (e : Expression) (body : Block) (s : State) → (does lang None (Do line x (Number (pos 1)) e (Number (pos 1)) body) s).way ≡ Going
    → Looped lang line x e body s (does lang None (Do line x (Number (pos 1)) e (Number (pos 1)) body) s)
looped lang line x e body s w =
    let all : Act = does lang None (Do line x (Number (pos 1)) e (Number (pos 1)) body) in
    let many : ℕ → Act = λ n. repeated n (turn lang None line x (pos 1) (does_all lang None body)) in
    let k3 : ℤ → ℤ → ℤ → Act = λ m1 m2 m3. then (sets_variable lang None line x m1) (evaluates line (λ s. trip_count m1 m2 m3) (λ n. repeated n (turn lang None line x m3 (does_all lang None body)))) in
    let k2 : ℤ → ℤ → Act = λ m1 m2. evaluates line (increment_of lang (Number (pos 1))) (k3 m1 m2) in
    let k1 : ℤ → Act = λ m1. evaluates line (number_of lang e) (k2 m1) in
    let a = answered_by line (number_of lang (Number (pos 1))) k1 s w in
    let one : a.answer ≡ pos 1 = ok_same (pos 1) a.answer a.gave in
    let e1 : all s ≡ k1 (pos 1) s = a.is ∙ ap (λ m. k1 m s) one in
    let w1 = back (all s) (k1 (pos 1) s) e1 w in
    let b = answered_by line (number_of lang e) (k2 (pos 1)) s w1 in
    let w2 = back (k1 (pos 1) s) (k2 (pos 1) b.answer s) b.is w1 in
    let c = answered_by line (increment_of lang (Number (pos 1))) (k3 (pos 1) b.answer) s w2 in
    let step : c.answer ≡ pos 1 = ok_same (pos 1) c.answer c.gave in
    let e3 : k2 (pos 1) b.answer s ≡ k3 (pos 1) b.answer (pos 1) s = c.is ∙ ap (λ m. k3 (pos 1) b.answer m s) step in
    let w3 = back (k2 (pos 1) b.answer s) (k3 (pos 1) b.answer (pos 1) s) e3 w2 in
    let s1 : State = sets_variable lang None line x (pos 1) s in
    let d = answered_by line (λ s. trip_count (pos 1) b.answer (pos 1)) many s1 w3 in
    let n = count_from_one b.answer d.answer d.gave in
    let v = set lang line x (pos 1) s d.from in
    record {
      top = b.answer;
      cell = v.cell;
      from = a.from;
      gives = b.gave;
      place = v.place;
      counts = d.gave ∙ ap Ok n;
      range = v.range;
      is = e1 ∙ (b.is ∙ (e3 ∙ (d.is ∙ (ap (λ k. many k s1) n ∙ ap (many (turns_to b.answer)) v.is))));
    }
  where
    ok_same : (z w : ℤ) → ◌≡◌ {A = Result ℤ Fault} (Ok z) (Ok w) → w ≡ z
    ok_same z w e = cc

pub record Turned (lang : Dialect) (line : ℕ) (x : List ℕ) (body : Act) (s t : State) : Type 0 where
  pub cell : Cell
  pub number : ℤ
  pub from : s.way ≡ Going
  pub within : (body (record s { steps = s.steps + 1 })).way ≡ Going
  pub place : cell_at x [] (body (record s { steps = s.steps + 1 })).store ≡ Ok cell
  pub gives : as_number ((body (record s { steps = s.steps + 1 })).store.held cell) ≡ Ok number
  pub range : is_in_range lang.bits (Int (number +ℤ pos 1)) ≡ true
  pub is : t ≡ record (body (record s { steps = s.steps + 1 })) { store = put cell (Int (number +ℤ pos 1)) (body (record s { steps = s.steps + 1 })).store }

pub turned : (lang : Dialect) (line : ℕ) (x : List ℕ) (body : Act) (s : State) → (turn lang None line x (pos 1) body s).way ≡ Going → Turned lang line x body s (turn lang None line x (pos 1) body s)
turned lang line x body s w =
    let a = counted lang (then body (increases lang None line x (pos 1))) s w in
    let s1 : State = record s { steps = s.steps + 1 } in
    let u : State = body s1 in
    let w1 = back (turn lang None line x (pos 1) body s) (increases lang None line x (pos 1) u) a.1 w in
    let k2 : ℤ → Act = λ z. sets_variable lang None line x z in
    let more : Cell → Store → Result ℤ Fault = λ c s. results.◌>>=◌ (as_number (s.held c)) λ z. exact (z +ℤ pos 1) in
    let k1 : Cell → Act = λ c. evaluates line (more c) k2 in
    let b = answered_by line (cell_at x []) k1 u w1 in
    let w2 = back (increases lang None line x (pos 1) u) (k1 b.answer u) b.is w1 in
    let c = answered_by line (more b.answer) k2 u w2 in
    let w3 = back (k1 b.answer u) (k2 c.answer u) c.is w2 in
    let d = set lang line x c.answer u w3 in
    let m = known (as_number (u.store.held b.answer)) c.answer refl c.gave in
    let same : d.cell ≡ b.answer = same_cells (cell_at x [] u.store) d.cell b.answer d.place b.gave in
    record {
      cell = b.answer;
      number = m.0;
      from = a.0;
      within = b.from;
      place = b.gave;
      gives = m.1;
      range = ap (λ z. is_in_range lang.bits (Int z)) (sym m.2) ∙ d.range;
      is = a.1 ∙ (b.is ∙ (c.is ∙ (d.is ∙ ap₂ (λ (c : Cell) (z : ℤ). let t : State = record u { store = put c (Int z) u.store } in t) same m.2)));
    }
  where
    known : (r : Result ℤ Fault) (z : ℤ) {q : Result ℤ Fault} → q ≡ r → (results.◌>>=◌ r (λ z. exact (z +ℤ pos 1))) ≡ Ok z → (n : ℤ) × (q ≡ Ok n) × (z ≡ n +ℤ pos 1)
    known (Ok n) z f e = (n, f, exactly (n +ℤ pos 1) z e)
    known (Err h) z f e = cc

    same_cells : (r : Result Cell Fault) (c d : Cell) → r ≡ Ok c → r ≡ Ok d → c ≡ d
    same_cells r c d e f = cc
