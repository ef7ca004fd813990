-- What a guarded assignment stores depends on the cells of its names.
use Rattle.std.proofs.Common.{◌≡◌, refl, sym, ap, ap₂, ◌∙◌, ◌⊎◌, inl, inr, subst, ℕ, ℤ, Bool, true, false, cond, List, ◌∷◌, ◌++◌, map, length, Result, Ok, Err, Option, Some, None}
use Rattle.tree.specs.Steps.{◌>>=◌}
use mathlib.Core.Path.{fun_ext}
use Rattle.std.specs.List.{AllByRecursion}
use Rattle.tree.specs.Operators.{apply, call, as_number, as_truth}
use Rattle.tree.specs.Plain.{Expression, Number, Logic, Named, Unary, Binary, Apply, Constructor, Spread, Transpose, Reshape, Reduce, Expressions, no_expressions, expression, Subscript, Only, Section, Subscripts, no_subscripts, subscript, Reference}
use Rattle.tree.specs.declared.ops.Value.{Value}
use Rattle.tree.specs.declared.ops.Fault.{Fault}
use Rattle.tree.specs.declared.ops.Fault.TheVariants.{Overflow}
use Rattle.meaning.specs.Reads.{names_in, names_in_each, names_in_subscripts, names_in_subscript}
use Rattle.meaning.specs.Store.{Store, Cell, cell_at, cell_in}
use Rattle.meaning.specs.Value.{value_of, values_of, subscript_value, subscript_values, number_of, cell_named, is_in_range}
use Rattle.meaning.proofs.CellFrame.{first_part, second_part}
use Rattle.nest_order.specs.orders.Lists.{In}
use Rattle.nest_order.specs.orders.Shapes.{statements}
use Rattle.nest_order.proofs.orders.Membership.{map-In}
use Rattle.nest_order.specs.runs.Guarded.{GuardedAssignment, assigned_if, at_iterations, effect, guard_holds, names_of, names_of_guard, sequential}
use Rattle.nest_order.specs.runs.Nests.{AreAt, Near, RunNest, is_nest_variable, variables_round}
use Rattle.nest_order.specs.runs.Stores.{IsNestText}
use Rattle.nest_order.proofs.runs.Results.{each_of}
use Rattle.nest_order.proofs.runs.Variables.{var, variable_from, bounds_there, held_there, held_both, cell_name}

module _ (bits : ℕ) (s t : Store) where
  -- a name has the same bounds in both, and each of its cells the same value
  abbrev pub Alike : List ℕ → Type 0
  Alike x = (s.bounds x ≡ t.bounds x) × ((is : List ℤ) (c : Cell) → cell_at x is s ≡ Ok c → s.held c ≡ t.held c)

  abbrev AreAlike : List (List ℕ) → Type 0
  AreAlike xs = AllByRecursion Alike xs

  -- the element with these subscripts, where they have values
  abbrev fetched : List ℕ → Store → Store → Result (List ℤ) Fault → Result Value Fault
  fetched x u v r = do
    is ← r
    c ← cell_at x is u
    Ok (v.held c)

  element_alike : (x : List ℕ) (r : Result (List ℤ) Fault) → Alike x → fetched x s s r ≡ fetched x t t r
  element_alike x (Err f) a = refl
  element_alike x (Ok is) a = by (cell_at x is s) refl ∙ ap (held_by t) (ap (λ b. cell_in b x is) a.0)
    where
      held_by : Store → Result Cell Fault → Result Value Fault
      held_by u q = do
        c ← q
        Ok (u.held c)

      by : (q : Result Cell Fault) → cell_at x is s ≡ q → held_by s q ≡ held_by t q
      by (Err f) e = refl
      by (Ok c) e = ap Ok (a.1 is c e)

  mutual
    pub value_alike : (e : Expression) → AreAlike (names_in e) → value_of (sequential bits) e s ≡ value_of (sequential bits) e t
    value_alike (Number n) h = refl
    value_alike (Logic b) h = refl
    value_alike (Named x ps) h = element_alike x (subscript_values (sequential bits) ps s) h.0 ∙ ap (fetched x t t) (subscripts_alike ps h.1)
    value_alike (Unary o a) h = ap (λ r. do x ← r; apply o x x) (value_alike a h)
    value_alike (Binary o a b) h = ap₂ (λ r q. do x ← r; y ← q; apply o x y) (value_alike a (first_part Alike (names_in a) (names_in b) h)) (value_alike b (second_part Alike (names_in a) (names_in b) h))
    value_alike (Apply f es) h = ap (λ r. do xs ← r; call f xs) (values_alike es h)
    value_alike (Constructor es ls) h = refl
    value_alike (Spread a k e) h = refl
    value_alike (Transpose a) h = refl
    value_alike (Reshape a es) h = refl
    value_alike (Reduce r a) h = refl

    values_alike : (es : Expressions) → AreAlike (names_in_each es) → values_of (sequential bits) es s ≡ values_of (sequential bits) es t
    values_alike no_expressions h = refl
    values_alike (expression e es) h = ap₂ (λ r q. do x ← r; xs ← q; Ok (x ∷ xs)) (value_alike e (first_part Alike (names_in e) (names_in_each es) h)) (values_alike es (second_part Alike (names_in e) (names_in_each es) h))

    subscripts_alike : (ps : Subscripts) → AreAlike (names_in_subscripts ps) → subscript_values (sequential bits) ps s ≡ subscript_values (sequential bits) ps t
    subscripts_alike no_subscripts h = refl
    subscripts_alike (subscript p ps) h = ap₂ (λ r q. do i ← r; is ← q; Ok (i ∷ is)) (subscript_alike p (first_part Alike (names_in_subscript p) (names_in_subscripts ps) h)) (subscripts_alike ps (second_part Alike (names_in_subscript p) (names_in_subscripts ps) h))

    subscript_alike : (p : Subscript) → AreAlike (names_in_subscript p) → subscript_value (sequential bits) p s ≡ subscript_value (sequential bits) p t
    subscript_alike (Only e) h = ap (λ r. do x ← r; as_number x) (value_alike e h)
    subscript_alike (Section a b c) h = refl

  pub number_alike : (e : Expression) → AreAlike (names_in e) → number_of (sequential bits) e s ≡ number_of (sequential bits) e t
  number_alike e h = ap (λ r. do x ← r; as_number x) (value_alike e h)

  cell_alike : (r : Reference) → Alike r.name → AreAlike (names_in_subscripts r.subscripts) → cell_named (sequential bits) r s ≡ cell_named (sequential bits) r t
  cell_alike r a h = ap₂ (λ q o. do is ← q; cell_in o r.name is) (subscripts_alike r.subscripts h) a.0

  guard_alike : (g : Option Expression) → AreAlike (names_of_guard g) → guard_holds (sequential bits) g s ≡ guard_holds (sequential bits) g t
  guard_alike None h = refl
  guard_alike (Some e) h = ap (λ r. do x ← r; as_truth x) (value_alike e h)

  assigned_alike : (b : Bool) (r : Reference) (e : Expression) → AreAlike (names_in e) → Alike r.name → AreAlike (names_in_subscripts r.subscripts) → assigned_if (sequential bits) b r e s ≡ assigned_if (sequential bits) b r e t
  assigned_alike false r e h a k = refl
  assigned_alike true r e h a k = ap₂ (λ p q. do v ← p; d ← q; cond (is_in_range bits v) (Ok (Some (d, v))) (Err Overflow)) (value_alike e h) (cell_alike r a k)

  pub effect_alike : (g : GuardedAssignment) → AreAlike (names_of g) → effect (sequential bits) g s ≡ effect (sequential bits) g t
  effect_alike g h =
      let rest = second_part Alike (names_of_guard g.guard) (names_in g.right ++ (g.left.name ∷ names_in_subscripts g.left.subscripts)) h in
      let left = second_part Alike (names_in g.right) (g.left.name ∷ names_in_subscripts g.left.subscripts) rest in
      ap₂ (λ p q. do x ← p; q x)
      (guard_alike g.guard (first_part Alike (names_of_guard g.guard) (names_in g.right ++ (g.left.name ∷ names_in_subscripts g.left.subscripts)) h))
      (fun_ext (λ x. assigned_alike x g.left g.right (first_part Alike (names_in g.right) (g.left.name ∷ names_in_subscripts g.left.subscripts) rest) left.0 left.1))

-- ---- an instance in two stores

module _ (bits : ℕ) (n : RunNest) (text : IsNestText n) where
  -- a cell of a name in a statement is a variable of the statement's loops, or no loop's variable
  own_or_other : (s : ℕ) → In s (statements n.shape) → (t u : Store) → Near n t u → (x : List ℕ) → In x (names_of (n.statement_at s)) → (c : Cell) → c.name ≡ x → (t.held c ≡ u.held c) ⊎ In c (map (var n) (n.loops_of s))
  own_or_other s i t u near x j c e = by (is_nest_variable n c) refl
    where
      by : (b : Bool) → is_nest_variable n c ≡ b → (t.held c ≡ u.held c) ⊎ In c (map (var n) (n.loops_of s))
      by true f =
          let v = variable_from n c f in
          let name : x ≡ n.variable_at v.0 = sym e ∙ ap (λ (d : Cell). d.name) v.2 in
          let own = text.own s v.0 i v.1 (subst (λ y. In y (names_of (n.statement_at s))) name j) in
          inr (subst (λ d. In d (map (var n) (n.loops_of s))) (sym v.2) (map-In (var n) v.0 (n.loops_of s) own))
      by false f = inl (near.held c f)

  -- the loops are at its iterations already
  pub effect_there : (s : ℕ) → In s (statements n.shape) → (is : List ℕ) (t u : Store) → Near n t u → AreAt n (n.loops_of s) is u
      → effect (sequential bits) (n.statement_at s) (at_iterations (variables_round n s) is t) ≡ effect (sequential bits) (n.statement_at s) u
  effect_there s i is t u near at = effect_alike bits (at_iterations (variables_round n s) is t) u (n.statement_at s)
      (each_of (Alike bits (at_iterations (variables_round n s) is t) u) (names_of (n.statement_at s)) (λ x j. (
        bounds_there n (variables_round n s) is t x ∙ near.bounds x,
        λ zs c e. held_there n (n.loops_of s) is u t c at (own_or_other s i t u near x j c (cell_name ((at_iterations (variables_round n s) is t).bounds x) x zs c e).0),
      )))

  -- two stores that are near
  pub effect_near : (s : ℕ) → In s (statements n.shape) → (is : List ℕ) (t u : Store) → Near n t u → length (n.loops_of s) ≡ length is
      → effect (sequential bits) (n.statement_at s) (at_iterations (variables_round n s) is t) ≡ effect (sequential bits) (n.statement_at s) (at_iterations (variables_round n s) is u)
  effect_near s i is t u near len = effect_alike bits (at_iterations (variables_round n s) is t) (at_iterations (variables_round n s) is u) (n.statement_at s)
      (each_of (Alike bits (at_iterations (variables_round n s) is t) (at_iterations (variables_round n s) is u)) (names_of (n.statement_at s)) (λ x j. (
        bounds_there n (variables_round n s) is t x ∙ (near.bounds x ∙ sym (bounds_there n (variables_round n s) is u x)),
        λ zs c e. held_both n (n.loops_of s) is u t c len (own_or_other s i t u near x j c (cell_name ((at_iterations (variables_round n s) is t).bounds x) x zs c e).0),
      )))
