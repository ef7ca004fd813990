-- The parts of loops, where the run is going and where it isn't, with any limit of steps.
use Rattle.std.proofs.Common.{◌≡◌, refl, sym, ap, ap₂, ◌∙◌, subst, ℕ, zero, suc, ◌+◌, ℤ, ◌+ℤ◌, Bool, true, false, cond, List, [], Result, Ok, Err, Option, Some}
use mathlib.Core.Path.{fun_ext}
use Rattle.tree.specs.Operators.{as_number}
use Rattle.tree.specs.Steps as results
use Rattle.tree.specs.declared.ops.Value.{Value}
use Rattle.tree.specs.declared.ops.Value.TheVariants.{Int}
use Rattle.tree.specs.declared.ops.Fault.{Fault}
use Rattle.tree.specs.declared.ops.Fault.TheVariants.{Overflow}
use Rattle.meaning.specs.Dialect.{Dialect}
use Rattle.meaning.specs.Store.{Store, Cell, put, same_cell, cell_at}
use Rattle.meaning.specs.Value.{is_in_range, exact}
use Rattle.meaning.specs.Run.{State, Way, Going, Jumping, Stopped, Failed, Cut, Act, on_way, answered, goes, either, then, repeated, while_going, evaluates, counts_step, stores, checks_range, sets_variable, increases, turn, is_allowed}
use Rattle.meaning.proofs.Exchanges.{same_cell-same}
use Rattle.nest_order.specs.runs.Guarded.{variable_cell}
use Rattle.nest_order.proofs.runs.Ending.{going, answered_by, stored}

abbrev pub is_going : Way → Bool
is_going Going = true
is_going _ = false

pub going_is : (w : Way) → is_going w ≡ true → w ≡ Going
going_is Going e = refl
going_is (Jumping n) e = cc
going_is Stopped e = cc
going_is (Failed f n) e = cc
going_is Cut e = cc

pub is_going_at : (w : Way) → w ≡ Going → is_going w ≡ true
is_going_at w e = ap is_going e

-- ---- where it isn't going, nothing is done

idle : (k : Act) (s : State) → is_going s.way ≡ false → while_going k s ≡ s
unfolding while_going
idle k s e = by s.way e
  where
    by : (w : Way) → is_going w ≡ false → on_way w k s ≡ s
    by Going e = cc
    by (Jumping n) e = refl
    by Stopped e = refl
    by (Failed f n) e = refl
    by Cut e = refl

pub asks_idle : {A : Type 0} (line : ℕ) (f : Store → Result A Fault) (k : A → Act) (s : State) → is_going s.way ≡ false → evaluates line f k s ≡ s
unfolding evaluates
asks_idle line f k s e = idle (λ s. answered line (f s.store) k s) s e

module _ (lang : Dialect) (limit : Option ℕ) where
  counts_idle : (k : Act) (s : State) → is_going s.way ≡ false → counts_step lang limit k s ≡ s
  unfolding counts_step
  counts_idle k s e = idle (λ s. either (is_allowed limit s.steps) (λ t. k (record t { steps = t.steps + 1 })) (goes Cut) s) s e

  pub turns_idle : (line n : ℕ) (x : List ℕ) (m3 : ℤ) (body : Act) (s : State) → is_going s.way ≡ false → repeated n (turn lang limit line x m3 body) s ≡ s
  turns_idle line zero x m3 body s e = refl
  turns_idle line (suc n) x m3 body s e =
      ap (repeated n (turn lang limit line x m3 body)) (counts_idle (then body (increases lang limit line x m3)) s e) ∙ turns_idle line n x m3 body s e

  -- ---- where it is going

  pub asks : {A : Type 0} (line : ℕ) (f : Store → Result A Fault) (k : A → Act) (s : State) (a : A) → s.way ≡ Going → f s.store ≡ Ok a → evaluates line f k s ≡ k a s
  unfolding evaluates while_going
  asks line f k s a w e = rw (w, e) refl

  -- the same value again
  same_store : (c : Cell) (s : Store) → put c (s.held c) s ≡ s
  same_store c s = ap (λ (h : Cell → Value). let t : Store = record { bounds = s.bounds; held = h } in t) (fun_ext (λ d. by d (same_cell c d) refl))
    where
      by : (d : Cell) (b : Bool) → same_cell c d ≡ b → cond b (s.held c) (s.held d) ≡ s.held d
      by d true e = ap s.held (same_cell-same c d e)
      by d false e = refl

  sets_at : (line : ℕ) (x : List ℕ) (z : ℤ) (s : State) → s.way ≡ Going → s.store.bounds x ≡ Some [] → is_in_range lang.bits (Int z) ≡ true
      → sets_variable lang limit line x z s ≡ record s { store = put (variable_cell x) (Int z) s.store }
  unfolding evaluates while_going checks_range stores
  sets_at line x z s w b r = rw (w, b, r) refl

  pub sets_again : (line : ℕ) (x : List ℕ) (z : ℤ) (s : State) → s.way ≡ Going → s.store.bounds x ≡ Some [] → s.store.held (variable_cell x) ≡ Int z → is_in_range lang.bits (Int z) ≡ true
      → sets_variable lang limit line x z s ≡ s
  sets_again line x z s w b h r =
      sets_at line x z s w b r ∙ ap (λ (t : Store). let u : State = record s { store = t } in u) (ap (λ v. put (variable_cell x) v s.store) (sym h) ∙ same_store (variable_cell x) s.store)

  -- ---- what a turn has done that goes on

  counted : (k : Act) (s : State) → (counts_step lang limit k s).way ≡ Going → (s.way ≡ Going) × (counts_step lang limit k s ≡ k (record s { steps = s.steps + 1 }))
  unfolding counts_step
  counted k s e =
      let one : Act = λ s. either (is_allowed limit s.steps) (λ t. k (record t { steps = t.steps + 1 })) (goes Cut) s in
      let h = going one s e in
      by h.0 (is_allowed limit s.steps) refl h.1 (ap (λ (t : State). t.way) (sym h.1) ∙ e)
    where
      by : s.way ≡ Going → (b : Bool) → is_allowed limit s.steps ≡ b
          → while_going (λ s. either (is_allowed limit s.steps) (λ t. k (record t { steps = t.steps + 1 })) (goes Cut) s) s ≡ either b (λ t. k (record t { steps = t.steps + 1 })) (goes Cut) s
          → (either b (λ t. k (record t { steps = t.steps + 1 })) (goes Cut) s).way ≡ Going
          → (s.way ≡ Going) × (while_going (λ s. either (is_allowed limit s.steps) (λ t. k (record t { steps = t.steps + 1 })) (goes Cut) s) s ≡ k (record s { steps = s.steps + 1 }))
      by w true g h e = (w, h)
      by w false g h e = cc

  ranged : (line : ℕ) (v : Value) (k : Act) (s : State) → (checks_range lang limit line v k s).way ≡ Going → (s.way ≡ Going) × (is_in_range lang.bits v ≡ true) × (checks_range lang limit line v k s ≡ k s)
  unfolding checks_range
  ranged line v k s e =
      let h = going (either (is_in_range lang.bits v) k (goes (Failed Overflow line))) s e in
      by h.0 (is_in_range lang.bits v) refl h.1 (ap (λ (t : State). t.way) (sym h.1) ∙ e)
    where
      by : s.way ≡ Going → (b : Bool) → is_in_range lang.bits v ≡ b → while_going (either (is_in_range lang.bits v) k (goes (Failed Overflow line))) s ≡ either b k (goes (Failed Overflow line)) s → (either b k (goes (Failed Overflow line)) s).way ≡ Going
          → (s.way ≡ Going) × (is_in_range lang.bits v ≡ true) × (while_going (either (is_in_range lang.bits v) k (goes (Failed Overflow line))) s ≡ k s)
      by w true g h e = (w, g, h)
      by w false g h e = cc

  back : (s t : State) → s ≡ t → s.way ≡ Going → t.way ≡ Going
  back s t e w = subst (λ (z : State). z.way ≡ Going) e w

  pub record Set (x : List ℕ) (z : ℤ) (s t : State) : Type 0 where
    pub cell : Cell
    pub from : s.way ≡ Going
    pub place : cell_at x [] s.store ≡ Ok cell
    pub range : is_in_range lang.bits (Int z) ≡ true
    pub is : t ≡ record s { store = put cell (Int z) s.store }

  pub set : (line : ℕ) (x : List ℕ) (z : ℤ) (s : State) → (sets_variable lang limit line x z s).way ≡ Going → Set x z s (sets_variable lang limit line x z s)
  set line x z s w =
      let k : Cell → Act = λ c. checks_range lang limit line (Int z) (stores c (Int z)) in
      let a = answered_by line (cell_at x []) k s w in
      let w1 = back (sets_variable lang limit line x z s) (k a.answer s) a.is w in
      let b = ranged line (Int z) (stores a.answer (Int z)) s w1 in
      let w2 = back (k a.answer s) (stores a.answer (Int z) s) b.2 w1 in
      let c = stored a.answer (Int z) s w2 in
      record { cell = a.answer; from = a.from; place = a.gave; range = b.1; is = a.is ∙ (b.2 ∙ c.1) }

  pub record Turned (line : ℕ) (x : List ℕ) (m3 : ℤ) (body : Act) (s t : State) : Type 0 where
    pub cell : Cell
    pub number : ℤ
    pub from : s.way ≡ Going
    pub place : cell_at x [] (body (record s { steps = s.steps + 1 })).store ≡ Ok cell
    pub gives : as_number ((body (record s { steps = s.steps + 1 })).store.held cell) ≡ Ok number
    pub range : is_in_range lang.bits (Int (number +ℤ m3)) ≡ true
    pub is : t ≡ record (body (record s { steps = s.steps + 1 })) { store = put cell (Int (number +ℤ m3)) (body (record s { steps = s.steps + 1 })).store }

  exactly : (z n : ℤ) → exact z ≡ Ok n → n ≡ z
  exactly z n e = by (Rattle.tree.specs.Operators.fits 127 z) e
    where
      by : (b : Bool) → cond b (Ok z) (Err Overflow) ≡ Ok n → n ≡ z
      by true e = cc
      by false e = cc

  pub turned : (line : ℕ) (x : List ℕ) (m3 : ℤ) (body : Act) (s : State) → (turn lang limit line x m3 body s).way ≡ Going → Turned line x m3 body s (turn lang limit line x m3 body s)
  turned line x m3 body s w =
      let a = counted (then body (increases lang limit line x m3)) s w in
      let s1 : State = record s { steps = s.steps + 1 } in
      let u : State = body s1 in
      let w1 = back (turn lang limit line x m3 body s) (increases lang limit line x m3 u) a.1 w in
      let k2 : ℤ → Act = λ z. sets_variable lang limit line x z in
      let more : Cell → Store → Result ℤ Fault = λ c s. results.◌>>=◌ (as_number (s.held c)) λ z. exact (z +ℤ m3) in
      let k1 : Cell → Act = λ c. evaluates line (more c) k2 in
      let b = answered_by line (cell_at x []) k1 u w1 in
      let w2 = back (increases lang limit line x m3 u) (k1 b.answer u) b.is w1 in
      let c = answered_by line (more b.answer) k2 u w2 in
      let w3 = back (k1 b.answer u) (k2 c.answer u) c.is w2 in
      let d = set line x c.answer u w3 in
      let m = known (as_number (u.store.held b.answer)) c.answer refl c.gave in
      let same : d.cell ≡ b.answer = same_cells (cell_at x [] u.store) d.cell b.answer d.place b.gave in
      record {
        cell = b.answer;
        number = m.0;
        from = a.0;
        place = b.gave;
        gives = m.1;
        range = ap (λ z. is_in_range lang.bits (Int z)) (sym m.2) ∙ d.range;
        is = a.1 ∙ (b.is ∙ (c.is ∙ (d.is ∙ ap₂ (λ (c : Cell) (z : ℤ). let t : State = record u { store = put c (Int z) u.store } in t) same m.2)));
      }
    where
      known : (r : Result ℤ Fault) (z : ℤ) {q : Result ℤ Fault} → q ≡ r → (results.◌>>=◌ r (λ z. exact (z +ℤ m3))) ≡ Ok z → (n : ℤ) × (q ≡ Ok n) × (z ≡ n +ℤ m3)
      known (Ok n) z f e = (n, f, exactly (n +ℤ m3) z e)
      known (Err h) z f e = cc

      same_cells : (r : Result Cell Fault) (c d : Cell) → r ≡ Ok c → r ≡ Ok d → c ≡ d
      same_cells r c d e f = cc
