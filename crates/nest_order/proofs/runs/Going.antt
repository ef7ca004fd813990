-- What statements do where nothing hinders them.
use Rattle.std.proofs.Common.{◌≡◌, refl, ap, ◌∙◌, ℕ, ◌+◌, ◌≤◌, ◌^◌, nat_le, nat_lt, ℤ, pos, negsuc, ◌+ℤ◌, ◌-ℤ◌, int_div, Bool, true, false, cond, List, [], Result, Ok, Err, Option, Some, None, arith}
use Rattle.tree.specs.Steps.{◌>>=◌}
use Rattle.tree.specs.Plain.{Expression, Number, Reference, Assignment, If, Do, no_arms, arm, Block, no_statements, statement}
use Rattle.tree.specs.declared.ops.Value.{Value}
use Rattle.tree.specs.declared.ops.Value.TheVariants.{Int}
use Rattle.tree.specs.declared.ops.Fault.{Fault}
use Rattle.tree.specs.declared.ops.Fault.TheVariants.{Overflow, TripCount}
use Rattle.tree.specs.declared.stmts.Mark.{Mark}
use Rattle.meaning.specs.Dialect.{Dialect}
use Rattle.meaning.specs.Store.{Store, Cell, put, cell_at}
use Rattle.meaning.specs.Value.{value_of, truth_of, number_of, cell_named, is_array, named, is_in_range, exact, as_count, trip_count}
use Rattle.meaning.specs.Run.{State, Going, Act, does, does_all, nothing, either, repeated, while_going, evaluates, counts_step, stores, checks_range, turn}
use Rattle.meaning_laws.specs.arrays.Instances.{after}
use Rattle.nest_order.specs.runs.Blocks.{guarded_statement}
use Rattle.nest_order.specs.runs.Guarded.{GuardedAssignment, assigned_if, dialect, effect, sequential, variable_cell}
use Rattle.nest_order.proofs.runs.Results.{ok_same, both_ok}
use Rattle.nest_order.proofs.runs.Dialects.{value_kept, truth_kept, cell_kept, no_array}

-- the moment after k steps, with the store t
abbrev pub moved : State → ℕ → Store → State
moved s k t = record s { store = t; steps = k; way = Going }

assigns_at : (lang : Dialect) (line : ℕ) (m : Option Mark) (r : Reference) (e : Expression) (s : State) (c : Cell) (v : Value) → s.way ≡ Going
    → is_array lang (named r) s.store ≡ false → value_of lang e s.store ≡ Ok v → cell_named lang r s.store ≡ Ok c → is_in_range lang.bits v ≡ true
    → does lang None (Assignment line m r e) s ≡ moved s (s.steps + 1 + 1) (put c v s.store)
unfolding while_going evaluates counts_step stores checks_range
assigns_at lang line m r e s c v w a f g h = rw (w, a, f, g, h) refl

chooses_at : (lang : Dialect) (line : ℕ) (test : Expression) (body : Block) (s : State) (b : Bool) → s.way ≡ Going → truth_of lang test s.store ≡ Ok b
    → does lang None (If line (arm test body no_arms) no_statements) s ≡ either b (does_all lang None body) nothing (moved s (s.steps + 1) s.store)
unfolding while_going evaluates counts_step
chooses_at lang line test body s b w f = rw (w, f) refl

pub loops_at : (lang : Dialect) (line : ℕ) (x : List ℕ) (e : Expression) (body : Block) (s : State) (z : ℤ) (k : ℕ) → s.way ≡ Going
    → number_of lang e s.store ≡ Ok z → trip_count (pos 1) z (pos 1) ≡ Ok k → cell_at x [] s.store ≡ Ok (variable_cell x) → is_in_range lang.bits (Int (pos 1)) ≡ true
    → does lang None (Do line x (Number (pos 1)) e (Number (pos 1)) body) s ≡ repeated k (turn lang None line x (pos 1) (does_all lang None body)) (moved s s.steps (put (variable_cell x) (Int (pos 1)) s.store))
unfolding while_going evaluates counts_step stores checks_range
loops_at lang line x e body s z k w f g h r = rw (w, f, h, r, g) refl

pub turns_at : (lang : Dialect) (line : ℕ) (x : List ℕ) (body : Act) (s : State) (i : ℤ) → s.way ≡ Going → (u : State) → body (moved s (s.steps + 1) s.store) ≡ u → u.way ≡ Going
    → cell_at x [] u.store ≡ Ok (variable_cell x) → u.store.held (variable_cell x) ≡ Int i → exact (i +ℤ pos 1) ≡ Ok (i +ℤ pos 1) → is_in_range lang.bits (Int (i +ℤ pos 1)) ≡ true
    → turn lang None line x (pos 1) body s ≡ record u { store = put (variable_cell x) (Int (i +ℤ pos 1)) u.store; way = Going }
unfolding while_going evaluates counts_step stores checks_range
turns_at lang line x body s i w u b v f g h r = rw (w, b, v, f, g, h, f, r) refl

-- ---- a guarded assignment

pub record Went (s t : State) (w : Option (Cell × Value)) : Type 0 where
  pub way : t.way ≡ Going
  pub store : t.store ≡ after w s.store

module _ (bits : ℕ) (arrays : Bool) where
  assignment_went : (line : ℕ) (m : Option Mark) (r : Reference) (e : Expression) (s : State) (w : Option (Cell × Value)) → s.way ≡ Going → assigned_if (sequential bits) true r e s.store ≡ Ok w
      → Went s (does (dialect bits arrays) None (Assignment line m r e) s) w
  assignment_went line m r e s w g f =
      let p = both_ok (value_of (sequential bits) e s.store) (λ x. do d ← cell_named (sequential bits) r s.store; cond (is_in_range bits x) (Ok (Some (d, x))) (Err Overflow)) w f in
      let q = both_ok (cell_named (sequential bits) r s.store) (λ d. cond (is_in_range bits p.0) (Ok (Some (d, p.0))) (Err Overflow)) w p.2 in
      on p.0 q.0 p.1 q.1 (is_in_range bits p.0) refl q.2
    where
      on : (x : Value) (d : Cell) → value_of (sequential bits) e s.store ≡ Ok x → cell_named (sequential bits) r s.store ≡ Ok d → (b : Bool) → is_in_range bits x ≡ b
          → ◌≡◌ {A = Result (Option (Cell × Value)) Fault} (cond b (Ok (Some (d, x))) (Err Overflow)) (Ok w) → Went s (does (dialect bits arrays) None (Assignment line m r e) s) w
      on x d v c true range h =
          let is : Some (d, x) ≡ w = ok_same {F = Fault} (Some (d, x)) w h in
          let a = assigns_at (dialect bits arrays) line m r e s d x g (no_array bits arrays s.store r d c) (value_kept bits arrays s.store e x v) (cell_kept bits arrays s.store r d c) range in
          record { way = ap (λ (t : State). t.way) a; store = ap (λ (t : State). t.store) a ∙ ap (λ o. after o s.store) is }
      on x d v c false range h = cc

  pub guarded_went : (line : ℕ) (m : Option Mark) (g : GuardedAssignment) (s : State) (w : Option (Cell × Value)) → s.way ≡ Going → effect (sequential bits) g s.store ≡ Ok w
      → Went s (does (dialect bits arrays) None (guarded_statement line m g) s) w
  guarded_went line m g s w way e = by g.guard e
    where
      by : (o : Option Expression) → effect (sequential bits) (record { guard = o; left = g.left; right = g.right }) s.store ≡ Ok w
          → Went s (does (dialect bits arrays) None (guarded_statement line m (record { guard = o; left = g.left; right = g.right })) s) w
      by None e = assignment_went line m g.left g.right s w way e
      by (Some t) e =
          let a = both_ok (truth_of (sequential bits) t s.store) (λ b. assigned_if (sequential bits) b g.left g.right s.store) w e in
          on a.0 a.1 a.2
        where
          on : (b : Bool) → truth_of (sequential bits) t s.store ≡ Ok b → assigned_if (sequential bits) b g.left g.right s.store ≡ Ok w
              → Went s (does (dialect bits arrays) None (guarded_statement line m (record { guard = Some t; left = g.left; right = g.right })) s) w
          on true f e =
              let h = chooses_at (dialect bits arrays) line t (statement (Assignment line m g.left g.right) no_statements) s true way (truth_kept bits arrays s.store t true f) in
              let a = assignment_went line m g.left g.right (moved s (s.steps + 1) s.store) w refl e in
              record { way = ap (λ (z : State). z.way) h ∙ a.way; store = ap (λ (z : State). z.store) h ∙ a.store }
          on false f e =
              let h = chooses_at (dialect bits arrays) line t (statement (Assignment line m g.left g.right) no_statements) s false way (truth_kept bits arrays s.store t false f) in
              record { way = ap (λ (z : State). z.way) h; store = ap (λ (z : State). z.store) h ∙ ap (λ o. after o s.store) (ok_same {F = Fault} None w e) }

-- ---- trips

bounded : (z : ℤ) (n : ℕ) → as_count z ≡ Ok n → n ≤ 2147483646
bounded (pos k) n e = by (nat_le k 2147483646) refl e
  where
    by : (b : Bool) → nat_le k 2147483646 ≡ b → ◌≡◌ {A = Result ℕ Fault} (cond b (Ok k) (Err TripCount)) (Ok n) → n ≤ 2147483646
    by true f e = let g : k ≡ n = ok_same {F = Fault} k n e in let h : k ≤ 2147483646 = grind arith in omega arith
    by false f e = cc
bounded (negsuc k) n e = let g : 0 ≡ n = ok_same {F = Fault} 0 n e in omega arith

pub trip_bounded : (z : ℤ) (n : ℕ) → trip_count (pos 1) z (pos 1) ≡ Ok n → n ≤ 2147483646
trip_bounded z n e =
    let a = both_ok (exact (z -ℤ pos 1)) (λ a. do b ← exact (a +ℤ pos 1); q ← exact (int_div b (pos 1)); as_count q) n e in
    let b = both_ok (exact (a.0 +ℤ pos 1)) (λ b. do q ← exact (int_div b (pos 1)); as_count q) n a.2 in
    let q = both_ok (exact (int_div b.0 (pos 1))) as_count n b.2 in
    bounded q.0 n q.2

pub small_exact : (k : ℕ) → k ≤ 2147483647 → exact (pos k) ≡ Ok (pos k)
small_exact k h = ap (λ b. cond b (Ok (pos k)) (Err Overflow)) (let e : nat_lt k (2 ^ 127) ≡ true = grind arith in e)
