-- A store in which a nest may be run stays one.
use Rattle.std.proofs.Common.{◌≡◌, refl, sym, ap, ◌∙◌, subst, inl, inr, ℕ, zero, suc, ℤ, Bool, true, false, cond, List, [], ◌∷◌, Result, Ok, Err, Option, Some, None}
use Rattle.tree.specs.Steps.{◌>>=◌}
use Rattle.std.specs.Prelude.{IfSome}
use Rattle.tree.specs.OperationFaults.{kind_of}
use Rattle.tree.specs.Plain.{Declaration, Program, Reference, Expression}
use Rattle.tree.specs.declared.ops.Kind.TheVariants.{Integer}
use Rattle.tree.specs.declared.ops.Value.{Value}
use Rattle.tree.specs.declared.ops.Value.TheVariants.{Int}
use Rattle.tree.specs.declared.ops.Fault.{Fault}
use Rattle.tree.specs.declared.ops.Fault.TheVariants.{Overflow}
use Rattle.meaning.specs.Dialect.{Dialect}
use Rattle.meaning.specs.Holding.{HoldsProgram, IsStorable}
use Rattle.meaning.specs.Store.{Store, Cell, put, same_cell, cell_at}
use Rattle.meaning.specs.Typed.{declared}
use Rattle.meaning.specs.Value.{value_of, cell_named, subscript_values, is_in_range}
use Rattle.meaning.proofs.Exchanges.{same_cell-same, unread}
use Rattle.nest_order.specs.orders.Lists.{In}
use Rattle.nest_order.specs.orders.Nests.{IsInstance}
use Rattle.nest_order.specs.orders.Shapes.{Instance, loops_of_shape}
use Rattle.nest_order.specs.runs.Guarded.{GuardedAssignment, assigned_if, at_iterations, effect, guard_holds, sequential, variable_cell}
use Rattle.nest_order.specs.runs.Nests.{RunNest, effect_of, variables_round}
use Rattle.nest_order.specs.runs.Stores.{HoldsNest, IsNestIn, Setting}
use Rattle.nest_order.specs.runs.Touched.{nth_of}
use Rattle.nest_order.proofs.runs.Results.{ok_same, both_ok}
use Rattle.nest_order.proofs.runs.Variables.{var, cell_name}

pub some_map : {A : Type 0} (o : Option A) (P Q : A → Type 0) → ((x : A) → P x → Q x) → IfSome o P → IfSome o Q
some_map None P Q f h = tt
some_map (Some x) P Q f h = f x h

pub nth-In : {X : Type 0} (xs : List X) (k : ℕ) (x : X) → nth_of xs k ≡ Some x → In x xs
nth-In [] k x e = cc
nth-In {X = X} (y ∷ xs) zero x e = inl (same e)
  where
    same : ◌≡◌ {A = Option X} (Some y) (Some x) → x ≡ y
    same e = cc
nth-In (y ∷ xs) (suc k) x e = inr (nth-In xs k x e)

pub HoldsProgram-put : (lang : Dialect) (p : Program) (c : Cell) (v : Value) (s : Store) → HoldsProgram lang p s
    → IfSome (declared p.declarations c.name) (λ (d : Declaration). kind_of v ≡ d.kind) → is_in_range lang.bits v ≡ true → HoldsProgram lang p (put c v s)
HoldsProgram-put lang p c v s h kind range = record { bounds = h.bounds; kinds = λ d. by d (same_cell c d) refl }
  where
    by : (d : Cell) (b : Bool) → same_cell c d ≡ b → IfSome (declared p.declarations d.name) (λ (e : Declaration). IsStorable lang e.kind (cond b v (s.held d)))
    by d true f =
        let there = subst (λ (z : Cell). IfSome (declared p.declarations z.name) (λ (e : Declaration). kind_of v ≡ e.kind)) (same_cell-same c d f) kind in
        some_map (declared p.declarations d.name) (λ (e : Declaration). kind_of v ≡ e.kind) (λ (e : Declaration). IsStorable lang e.kind v) (λ e k. record { kind = k; within = range }) there
    by d false f = h.kinds d

-- ---- what an effect has gone through

abbrev unsome : {A : Type 0} → A → Option A → A
unsome d None = d
unsome d (Some x) = x

pub record Stored (bits : ℕ) (left : Reference) (right : Expression) (s : Store) (c : Cell) (v : Value) : Type 0 where
  pub gives : value_of (sequential bits) right s ≡ Ok v
  pub place : cell_named (sequential bits) left s ≡ Ok c
  pub range : is_in_range bits v ≡ true

pub assigned_stored : (bits : ℕ) (left : Reference) (right : Expression) (s : Store) (c : Cell) (v : Value) → assigned_if (sequential bits) true left right s ≡ Ok (Some (c, v)) → Stored bits left right s c v
assigned_stored bits left right s c v e =
    let p = both_ok (value_of (sequential bits) right s) (λ x. do d ← cell_named (sequential bits) left s; cond (is_in_range bits x) (Ok (Some (d, x))) (Err Overflow)) (Some (c, v)) e in
    let q = both_ok (cell_named (sequential bits) left s) (λ d. cond (is_in_range bits p.0) (Ok (Some (d, p.0))) (Err Overflow)) (Some (c, v)) p.2 in
    on p.0 q.0 p.1 q.1 (is_in_range bits p.0) refl q.2
  where
    on : (x : Value) (d : Cell) → value_of (sequential bits) right s ≡ Ok x → cell_named (sequential bits) left s ≡ Ok d → (b : Bool) → is_in_range bits x ≡ b
        → ◌≡◌ {A = Result (Option (Cell × Value)) Fault} (cond b (Ok (Some (d, x))) (Err Overflow)) (Ok (Some (c, v))) → Stored bits left right s c v
    on x d f g true r h =
        let same : ◌≡◌ {A = Option (Cell × Value)} (Some (d, x)) (Some (c, v)) = ok_same {F = Fault} (Some (d, x)) (Some (c, v)) h in
        let pair : ◌≡◌ {A = Cell × Value} (d, x) (c, v) = ap (unsome (d, x)) same in
        let cell : d ≡ c = ap (λ (w : Cell × Value). w.0) pair in
        let value : x ≡ v = ap (λ (w : Cell × Value). w.1) pair in
        record { gives = f ∙ ap Ok value; place = g ∙ ap Ok cell; range = ap (is_in_range bits) (sym value) ∙ r }
    on x d f g false r h = cc

pub effect_stored : (bits : ℕ) (g : GuardedAssignment) (s : Store) (c : Cell) (v : Value) → effect (sequential bits) g s ≡ Ok (Some (c, v)) → Stored bits g.left g.right s c v
effect_stored bits g s c v e =
    let a = both_ok (guard_holds (sequential bits) g.guard s) (λ b. assigned_if (sequential bits) b g.left g.right s) (Some (c, v)) e in
    by a.0 a.2
  where
    by : (b : Bool) → assigned_if (sequential bits) b g.left g.right s ≡ Ok (Some (c, v)) → Stored bits g.left g.right s c v
    by true f = assigned_stored bits g.left g.right s c v f
    by false f = cc

pub named_cell : (bits : ℕ) (r : Reference) (s : Store) (c : Cell) → cell_named (sequential bits) r s ≡ Ok c → c.name ≡ r.name
named_cell bits r s c e =
    let a = both_ok (subscript_values (sequential bits) r.subscripts s) (λ is. cell_at r.name is s) c e in
    (cell_name (s.bounds r.name) r.name a.0 c a.2).0

-- ---- writes

module _ (bits : ℕ) (n : RunNest) (w : Setting) (ok : IsNestIn bits n w) where
  put_inside : (c : Cell) (v : Value) (s : Store) → HoldsNest bits n w s → IfSome (declared w.program.declarations c.name) (λ (d : Declaration). kind_of v ≡ d.kind) → is_in_range bits v ≡ true
      → ((x : List ℕ) → In x n.symbols → ¬ (c.name ≡ x)) → HoldsNest bits n w (put c v s)
  put_inside c v s h kind range other = record {
    program = HoldsProgram-put (sequential bits) w.program c v s h.program kind range;
    bounds = h.bounds;
    symbols = λ k x e. sym (unread c (variable_cell x) v s (λ f. other x (nth-In n.symbols k x e) (ap (λ (d : Cell). d.name) f))) ∙ h.symbols k x e;
  }

  -- a loop variable gets a number
  pub variable_inside : (l : ℕ) → In l (loops_of_shape n.shape) → (z : ℤ) (s : Store) → is_in_range bits (Int z) ≡ true → HoldsNest bits n w s → HoldsNest bits n w (put (var n l) (Int z) s)
  variable_inside l i z s range h = put_inside (var n l) (Int z) s h
      (some_map (declared w.program.declarations (n.variable_at l)) (λ (d : Declaration). d.kind ≡ Integer) (λ (d : Declaration). kind_of (Int z) ≡ d.kind) (λ d e. sym e) (ok.integer l i))
      range (λ x j. ok.text.others l x i j)

  -- an instance stores a value
  pub instance_inside : (x : Instance) → IsInstance n.loops_of (n.turns_of w.values) n.shape x → (s : Store) (c : Cell) (v : Value) → HoldsNest bits n w s
      → effect_of n (sequential bits) x s ≡ Ok (Some (c, v)) → HoldsNest bits n w (put c v s)
  instance_inside x is s c v h e =
      let st = effect_stored bits (n.statement_at x.statement) (at_iterations (variables_round n x.statement) x.iterations s) c v e in
      let name = named_cell bits (n.statement_at x.statement).left (at_iterations (variables_round n x.statement) x.iterations s) c st.place in
      put_inside c v s h (ok.typed x s c v is h e) st.range (λ y j f. ok.text.symbols x.statement y is.0 j (sym name ∙ f))

  -- which isn't a loop's variable
  pub written_elsewhere : (x : Instance) → IsInstance n.loops_of (n.turns_of w.values) n.shape x → (s : Store) (c : Cell) (v : Value) → effect_of n (sequential bits) x s ≡ Ok (Some (c, v))
      → (l : ℕ) → In l (loops_of_shape n.shape) → ¬ (c ≡ var n l)
  written_elsewhere x is s c v e l i f =
      let st = effect_stored bits (n.statement_at x.statement) (at_iterations (variables_round n x.statement) x.iterations s) c v e in
      let name = named_cell bits (n.statement_at x.statement).left (at_iterations (variables_round n x.statement) x.iterations s) c st.place in
      ok.text.unwritten x.statement l is.0 i (sym name ∙ ap (λ (d : Cell). d.name) f)
