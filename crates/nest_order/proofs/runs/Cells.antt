-- The cells that references name.
use Rattle.std.proofs.Common.{◌≡◌, refl, sym, ap, ap₂, ◌∙◌, ◌⊎◌, inl, inr, subst, ℕ, ℤ, Bool, true, false, cond, List, [], ◌∷◌, ◌++◌, Result, Ok, Err, Option, Some, None, arith}
use Rattle.tree.specs.Steps.{◌>>=◌}
use Rattle.tree.specs.Operators.{apply, call, as_number}
use Rattle.tree.specs.Plain.{Expression, Number, Logic, Named, Unary, Binary, Apply, Constructor, Spread, Transpose, Reshape, Reduce, Expressions, no_expressions, expression, Subscript, Only, Section, Subscripts, no_subscripts, subscript, Reference}
use Rattle.tree.specs.declared.ops.Value.{Value}
use Rattle.tree.specs.declared.ops.Fault.{Fault}
use Rattle.tree.specs.declared.ops.Fault.TheVariants.{Overflow}
use Rattle.meaning.specs.Store.{Store, Cell, cell_at, cell_in}
use Rattle.meaning.specs.Value.{value_of, values_of, subscript_value, subscript_values, cell_named, is_in_range}
use Rattle.meaning_laws.specs.arrays.Instances.{after}
use Rattle.nest_order.specs.orders.Lists.{In}
use Rattle.nest_order.specs.orders.Nests.{IsInstance}
use Rattle.nest_order.specs.orders.Orders.{and_then, runs}
use Rattle.nest_order.specs.orders.Shapes.{Instance, statements}
use Rattle.nest_order.proofs.orders.Lists.{In-append}
use Rattle.nest_order.specs.runs.Guarded.{GuardedAssignment, assigned_if, at_iterations, effect, sequential}
use Rattle.nest_order.specs.runs.Nests.{RunNest, acts, effect_of, variables_round}
use Rattle.nest_order.specs.runs.Stores.{Setting, HoldsNest, IsNestIn}
use Rattle.nest_order.specs.runs.Touched.{MayName, IsPlain, EachIsPlain, ArePlain, IsPlainSubscript, touched_in, references_in_each, touched_in_subscripts, touched_in_subscript, references_read}
use Rattle.nest_order.proofs.runs.Holding.{instance_inside}
use Rattle.nest_order.proofs.runs.Results.{both_ok, ok_same}
use Rattle.nest_order.proofs.runs.Touching.{named_may}
use Rattle.nest_order.proofs.runs.Variables.{bounds_there, cell_name}
use Rattle.nest_order.specs.runs.Cells.{NamesCell}
use Rattle.nest_order.specs.runs.Laws.{UnguardedInstancesNameCells}

module _ (bits : ℕ) (t : Store) where
  abbrev pub NamesOne : Reference → Type 0
  NamesOne r = (c : Cell) × (cell_named (sequential bits) r t ≡ Ok c)

  abbrev EachNamesOne : List Reference → Type 0
  EachNamesOne rs = (r : Reference) → In r rs → NamesOne r

  either_one : (xs ys : List Reference) → EachNamesOne xs → EachNamesOne ys → EachNamesOne (xs ++ ys)
  either_one xs ys f g r i = by (In-append r xs ys i)
    where
      by : In r xs ⊎ In r ys → NamesOne r
      by (inl j) = f r j
      by (inr j) = g r j

  first_one : (q : Reference) (rs : List Reference) → NamesOne q → EachNamesOne rs → EachNamesOne (q ∷ rs)
  first_one q rs f g r (inl e) = subst NamesOne (sym e) f
  first_one q rs f g r (inr i) = g r i

  mutual
    pub named_by : (e : Expression) (v : Value) → value_of (sequential bits) e t ≡ Ok v → EachNamesOne (touched_in e)
    named_by (Number m) v h = λ r i. absurd i
    named_by (Logic b) v h = λ r i. absurd i
    named_by (Named x ps) v h =
        let is = both_ok (subscript_values (sequential bits) ps t) (λ is. do c ← cell_at x is t; Ok (t.held c)) v h in
        let c = both_ok (cell_at x is.0 t) (λ c. Ok (t.held c)) v is.2 in
        first_one (record { name = x; subscripts = ps }) (touched_in_subscripts ps) (c.0, ap (λ (r : Result (List ℤ) Fault). do is ← r; cell_at x is t) is.1 ∙ c.1) (named_by_subscripts ps is.0 is.1)
    named_by (Unary o a) v h = let w = both_ok (value_of (sequential bits) a t) (λ w. apply o w w) v h in named_by a w.0 w.1
    named_by (Binary o a b) v h =
        let w = both_ok (value_of (sequential bits) a t) (λ w. do z ← value_of (sequential bits) b t; apply o w z) v h in
        let z = both_ok (value_of (sequential bits) b t) (λ z. apply o w.0 z) v w.2 in
        either_one (touched_in a) (touched_in b) (named_by a w.0 w.1) (named_by b z.0 z.1)
    named_by (Apply f es) v h = let vs = both_ok (values_of (sequential bits) es t) (λ vs. call f vs) v h in named_by_each es vs.0 vs.1
    named_by (Constructor es ls) v h = λ r i. absurd i
    named_by (Spread a j e) v h = λ r i. absurd i
    named_by (Transpose a) v h = λ r i. absurd i
    named_by (Reshape a es) v h = λ r i. absurd i
    named_by (Reduce o a) v h = λ r i. absurd i

    named_by_each : (es : Expressions) (vs : List Value) → values_of (sequential bits) es t ≡ Ok vs → EachNamesOne (references_in_each es)
    named_by_each no_expressions vs h = λ r i. absurd i
    named_by_each (expression e es) vs h =
        let w = both_ok (value_of (sequential bits) e t) (λ w. do ws ← values_of (sequential bits) es t; Ok (w ∷ ws)) vs h in
        let ws = both_ok (values_of (sequential bits) es t) (λ ws. Ok (w.0 ∷ ws)) vs w.2 in
        either_one (touched_in e) (references_in_each es) (named_by e w.0 w.1) (named_by_each es ws.0 ws.1)

    pub named_by_subscripts : (ps : Subscripts) (is : List ℤ) → subscript_values (sequential bits) ps t ≡ Ok is → EachNamesOne (touched_in_subscripts ps)
    named_by_subscripts no_subscripts is h = λ r i. absurd i
    named_by_subscripts (subscript q ps) is h =
        let i = both_ok (subscript_value (sequential bits) q t) (λ i. do js ← subscript_values (sequential bits) ps t; Ok (i ∷ js)) is h in
        let js = both_ok (subscript_values (sequential bits) ps t) (λ js. Ok (i.0 ∷ js)) is i.2 in
        either_one (touched_in_subscript q) (touched_in_subscripts ps) (named_by_subscript q i.0 i.1) (named_by_subscripts ps js.0 js.1)

    named_by_subscript : (q : Subscript) (i : ℤ) → subscript_value (sequential bits) q t ≡ Ok i → EachNamesOne (touched_in_subscript q)
    named_by_subscript (Only e) i h = let w = both_ok (value_of (sequential bits) e t) (λ w. as_number w) i h in named_by e w.0 w.1
    named_by_subscript (Section a b c) i h = λ r j. absurd j

  -- of an assignment that is done
  assigned_names : (g : GuardedAssignment) (o : Option (Cell × Value)) → g.guard ≡ None → effect (sequential bits) g t ≡ Ok o → EachNamesOne (g.left ∷ references_read g)
  assigned_names g o e h = by g.guard e h
    where
      by : (q : Option Expression) → q ≡ None → effect (sequential bits) (record { guard = q; left = g.left; right = g.right }) t ≡ Ok o → EachNamesOne (g.left ∷ references_read (record { guard = q; left = g.left; right = g.right }))
      by (Some c) e h = let z : ⊥ = cc in absurd z
      by None e h =
          let v = both_ok (value_of (sequential bits) g.right t) (λ v. do c ← cell_named (sequential bits) g.left t; cond (is_in_range bits v) (Ok (Some (c, v))) (Err Overflow)) o h in
          let c = both_ok (cell_named (sequential bits) g.left t) (λ c. cond (is_in_range bits v.0) (Ok (Some (c, v.0))) (Err Overflow)) o v.2 in
          let is = both_ok (subscript_values (sequential bits) g.left.subscripts t) (λ is. cell_at g.left.name is t) c.0 c.1 in
          first_one g.left (touched_in_subscripts g.left.subscripts ++ touched_in g.right) (c.0, c.1)
          (either_one (touched_in_subscripts g.left.subscripts) (touched_in g.right) (named_by_subscripts g.left.subscripts is.0 is.1) (named_by g.right v.0 v.1))

module _ (bits : ℕ) (n : RunNest) (w : Setting) (ok : IsNestIn bits n w) where
  abbrev IsIt : Instance → Type 0
  IsIt = IsInstance n.loops_of (n.turns_of w.values) n.shape

  abbrev there : Instance → Store → Store
  there x t = at_iterations (variables_round n x.statement) x.iterations t

  names : (x : Instance) (t : Store) (o : Option (Cell × Value)) → IsIt x → HoldsNest bits n w t → (n.statement_at x.statement).guard ≡ None → effect_of n (sequential bits) x t ≡ Ok o
      → (r : Reference) → In r ((n.statement_at x.statement).left ∷ references_read (n.statement_at x.statement)) → NamesCell n w x r
  names x t o is inside g e r i =
      let c = assigned_names bits (there x t) (n.statement_at x.statement) o g e r i in
      let zs = both_ok (subscript_values (sequential bits) r.subscripts (there x t)) (λ zs. cell_at r.name zs (there x t)) c.0 c.1 in
      let m = cell_name ((there x t).bounds r.name) r.name zs.0 c.0 zs.2 in
      record {
        cell = c.0;
        may = named_may bits n w.values x.statement x.iterations (there x t) (λ e f z l g. ok.linear x t e f z is inside l g) r c.0 c.1;
        within = ap (λ b. cell_in b r.name c.0.subscripts) (sym (bounds_there n (variables_round n x.statement) x.iterations t r.name ∙ inside.bounds r.name)) ∙ (ap (λ ks. cell_at r.name ks (there x t)) (sym m.1) ∙ zs.2);
      }

  inside_after : (x : Instance) (t : Store) (o : Option (Cell × Value)) → IsIt x → HoldsNest bits n w t → effect_of n (sequential bits) x t ≡ Ok o → HoldsNest bits n w (after o t)
  inside_after x t None is inside e = inside
  inside_after x t (Some p) is inside e = instance_inside bits n w ok x is t p.0 p.1 inside e

  in_run : (xs : List Instance) (s u : Store) → HoldsNest bits n w s → ((x : Instance) → In x xs → IsIt x) → runs (acts n (sequential bits)) xs s ≡ Ok u
      → (x : Instance) → In x xs → (n.statement_at x.statement).guard ≡ None → (r : Reference) → In r ((n.statement_at x.statement).left ∷ references_read (n.statement_at x.statement)) → NamesCell n w x r
  in_run [] s u inside are e x i g r j = absurd i
  in_run (y ∷ ys) s u inside are e x i g r j = by (effect_of n (sequential bits) y s) refl e i (λ m h f k. in_run ys m u h (λ z l. are z (inr l)) f x k g r j)
    where
      by : (q : Result (Option (Cell × Value)) Fault) → effect_of n (sequential bits) y s ≡ q → and_then (do o ← q; Ok (after o s)) (runs (acts n (sequential bits)) ys) ≡ Ok u → (x ≡ y) ⊎ In x ys
          → ((m : Store) → HoldsNest bits n w m → runs (acts n (sequential bits)) ys m ≡ Ok u → In x ys → NamesCell n w x r) → NamesCell n w x r
      by (Err f) h e i more = cc
      by (Ok o) h e (inr k) more = more (after o s) (inside_after y s o (are y (inl refl)) inside h) e k
      by (Ok o) h e (inl q) more =
          names x s o (are x (inl q)) inside g (ap (λ z. effect_of n (sequential bits) z s) q ∙ h) r j

pub unguarded_instances_name_cells : UnguardedInstancesNameCells
unguarded_instances_name_cells bits n w xs s u ok inside are e x i g r j = in_run bits n w ok xs s u inside are e x i g r j
