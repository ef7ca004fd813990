-- The only statement that writes an induction lets it grow by its step.
use Rattle.std.proofs.Common.{◌≡◌, refl, sym, ap, ◌∙◌, subst, ℕ, ℤ, neg_ℤ, ◌+ℤ◌, ◌-ℤ◌, Bool, true, false, ◌&&◌, cond, Option, Some, None, Result, Ok, Err, List, [], arith}
use Rattle.std.specs.Prelude.{is_none}
use Rattle.std.specs.Option.{option_and_then, option_map}
use Rattle.std.proofs.lemmas.Int.{ints}
use Rattle.std.proofs.lemmas.Slice.Eq.{bytes_eq-Decides}
use Rattle.tree.specs.Operators.{apply, fits, ranged}
use Rattle.tree.specs.Steps.{◌>>=◌}
use Rattle.tree.specs.declared.ops.Fault.{Fault}
use Rattle.tree.specs.declared.ops.Fault.TheVariants.{Overflow}
use Rattle.tree.specs.declared.ops.Op.{Op}
use Rattle.tree.specs.declared.ops.Op.TheVariants.{Add, Sub}
use Rattle.tree.specs.declared.ops.Value.{Value}
use Rattle.tree.specs.declared.ops.Value.TheVariants.{Int, Truth}
use Rattle.tree.specs.Plain.{Expression, Number, Logic, Named, Unary, Binary, Apply, Constructor, Spread, Transpose, Reshape, Reduce, Subscripts, no_subscripts, subscript}
use Rattle.meaning.specs.Dialect.{fortran77}
use Rattle.tree.specs.declared.width.Width.TheVariants.{Plain}
use Rattle.meaning.specs.Store.{Store, cell_in}
use Rattle.meaning.specs.Value.{value_of}
use Rattle.rewrite.specs.Following.{sequential}
use Rattle.rewrite.specs.Substituting.{is_variable_alone}
use Rattle.linear_forms.specs.Linear.{as_constant, constant_of, is_limited, known, no_store}
use Rattle.linear_forms.proofs.Storeless.{storeless}
use Rattle.nest_steps.specs.Statements.{cell_of}
use Rattle.inductions.specs.Growing.{form_before, form_behind, is_bare_name, is_outermost, limited_step, step_by, step_in, growth_of}
use Rattle.inductions.specs.Laws.{IsGrowth, TheWriteGrows}

-- ---- values

-- a number that an operator gives is the exact one
ranged-is : (z : ℤ) (v : Value) → ranged (Ok z) ≡ Ok v → v ≡ Int z
ranged-is z v h = by (fits 127 z) h
  where
    by : (b : Bool) → ◌≡◌ {A = Result Value Fault} (cond b (Ok (Int z)) (Err Overflow)) (Ok v) → v ≡ Int z
    by true g = let same : Int z ≡ v = cc in sym same
    by false g = absurd cc

both : (a b : Bool) → (a && b) ≡ true → (a ≡ true) × (b ≡ true)
both true b h = (refl, h)
both false b h = absurd cc

-- a constant is a number, whatever names hold
constant-value : (bits : ℕ) (e : Expression) (c : ℤ) (s : Store) → constant_of e ≡ Some c → value_of (sequential bits) e s ≡ Ok (Int c)
constant-value bits e c s h = by (value_of (fortran77 Plain) e no_store) refl h
  where
    by : (r : Result Value Fault) → value_of (fortran77 Plain) e no_store ≡ r → as_constant (known r) ≡ Some c → value_of (sequential bits) e s ≡ Ok (Int c)
    by (Ok (Int z)) q g = let same : z ≡ c = cc in storeless (sequential bits) s e (Int c) (q ∙ ap (λ y. Ok (Int y)) same)
    by (Ok (Truth b)) q g = absurd cc
    by (Err f) q g = absurd cc

is-scalar : (x : List ℕ) (e : Expression) → is_variable_alone x e ≡ true → e ≡ Named x no_subscripts
is-scalar x (Named y no_subscripts) h = ap (λ z. Named z no_subscripts) ((bytes_eq-Decides y x).0 h)
is-scalar x (Named y (subscript p ps)) h = absurd cc
is-scalar x (Number n) h = absurd cc
is-scalar x (Logic b) h = absurd cc
is-scalar x (Unary o a) h = absurd cc
is-scalar x (Binary o a b) h = absurd cc
is-scalar x (Apply f es) h = absurd cc
is-scalar x (Constructor es ls) h = absurd cc
is-scalar x (Spread a n b) h = absurd cc
is-scalar x (Transpose a) h = absurd cc
is-scalar x (Reshape a es) h = absurd cc
is-scalar x (Reduce r a) h = absurd cc

module _ (bits : ℕ) (x : List ℕ) (z : ℤ) (s : Store) (bounds : s.bounds x ≡ Some []) (held : s.held (cell_of x) ≡ Int z) where
  scalar-value : (e : Expression) → is_variable_alone x e ≡ true → value_of (sequential bits) e s ≡ Ok (Int z)
  scalar-value e h =
      ap (λ a. value_of (sequential bits) a s) (is-scalar x e h)
      ∙ (ap (λ b. do c ← cell_in b x []; Ok (s.held c)) bounds ∙ ap Ok held)

  pair-value : (o : Op) (a b : Expression) (m n : ℤ) (v : Value) → value_of (sequential bits) a s ≡ Ok (Int m) → value_of (sequential bits) b s ≡ Ok (Int n)
      → value_of (sequential bits) (Binary o a b) s ≡ Ok v → apply o (Int m) (Int n) ≡ Ok v
  pair-value o a b m n v f g h =
      sym (ap (λ r. do p ← r; q ← value_of (sequential bits) b s; apply o p q) f ∙ ap (λ r. do q ← r; apply o (Int m) q) g) ∙ h

  by-step : (o : Op) (a b : Expression) (c : ℤ) (v : Value) → step_by x o a b ≡ Some c → value_of (sequential bits) (Binary o a b) s ≡ Ok v → v ≡ Int (z +ℤ c)
  by-step Add a b c v h e = first (is_variable_alone x a) refl h
    where
      turned : (m n : ℤ) → m +ℤ n ≡ n +ℤ m
      turned m n = omega (arith, ints)

      second : (q : Bool) → is_variable_alone x b ≡ q → cond q (constant_of a) None ≡ Some c → v ≡ Int (z +ℤ c)
      second true g k = ranged-is (c +ℤ z) v (pair-value Add a b c z v (constant-value bits a c s k) (scalar-value b g) e) ∙ ap Int (turned c z)
      second false g k = absurd cc

      first : (q : Bool) → is_variable_alone x a ≡ q → cond q (constant_of b) (cond (is_variable_alone x b) (constant_of a) None) ≡ Some c → v ≡ Int (z +ℤ c)
      first true g k = ranged-is (z +ℤ c) v (pair-value Add a b z c v (scalar-value a g) (constant-value bits b c s k) e)
      first false g k = second (is_variable_alone x b) refl k
  by-step Sub a b c v h e = first (is_variable_alone x a) refl h
    where
      less : (m n : ℤ) → m -ℤ n ≡ m +ℤ neg_ℤ n
      less m n = omega (arith, ints)

      some : (o : Option ℤ) → constant_of b ≡ o → is_variable_alone x a ≡ true → option_map neg_ℤ o ≡ Some c → v ≡ Int (z +ℤ c)
      some (Some n) g k f =
          let same : neg_ℤ n ≡ c = cc in
          ranged-is (z -ℤ n) v (pair-value Sub a b z n v (scalar-value a k) (constant-value bits b n s g) e) ∙ ap Int (less z n ∙ ap (λ y. z +ℤ y) same)
      some None g k f = absurd cc

      first : (q : Bool) → is_variable_alone x a ≡ q → cond q (option_map neg_ℤ (constant_of b)) None ≡ Some c → v ≡ Int (z +ℤ c)
      first true g k = some (constant_of b) refl g k
      first false g k = absurd cc
  by-step o a b c v h e = absurd cc

  by-right : (e : Expression) (c : ℤ) (v : Value) → step_in x e ≡ Some c → value_of (sequential bits) e s ≡ Ok v → v ≡ Int (z +ℤ c)
  by-right (Binary o a b) c v h e = by-step o a b c v h e
  by-right e c v h f = absurd cc

-- ---- statements

bare-is : (ps : Subscripts) → is_bare_name ps ≡ true → ps ≡ no_subscripts
bare-is no_subscripts h = refl
bare-is (subscript p ps) h = absurd cc

none-is : (o : Option Expression) → is_none o ≡ true → o ≡ None
none-is None h = refl
none-is (Some e) h = absurd cc

-- the step that a limited one is
limited-same : (c d : ℤ) → limited_step c ≡ Some d → c ≡ d
limited-same c d h = by (is_limited 1 (form_before c) && is_limited 1 (form_behind c)) h
  where
    by : (b : Bool) → cond b (Some c) None ≡ Some d → c ≡ d
    by true g = cc
    by false g = absurd cc

limited-both : (c d : ℤ) → limited_step c ≡ Some d → (is_limited 1 (form_before d) ≡ true) × (is_limited 1 (form_behind d) ≡ true)
limited-both c d h = by (is_limited 1 (form_before c) && is_limited 1 (form_behind c)) refl h
  where
    by : (b : Bool) → (is_limited 1 (form_before c) && is_limited 1 (form_behind c)) ≡ b → cond b (Some c) None ≡ Some d
        → (is_limited 1 (form_before d) ≡ true) × (is_limited 1 (form_behind d) ≡ true)
    by true e g =
        let p = both (is_limited 1 (form_before c)) (is_limited 1 (form_behind c)) e in
        let same : c ≡ d = cc in
        (subst (λ z. is_limited 1 (form_before z) ≡ true) same p.0, subst (λ z. is_limited 1 (form_behind z) ≡ true) same p.1)
    by false e g = absurd cc

pub the_write_grows : TheWriteGrows
the_write_grows bits d s h w = outer (is_outermost s.loops) refl h
  where
    right : (o : Option ℤ) → step_in d.name s.statement.right ≡ o → option_and_then limited_step o ≡ Some d.step → is_outermost s.loops ≡ true
        → is_none s.statement.guard ≡ true → is_bare_name s.statement.left.subscripts ≡ true → IsGrowth bits d s
    right (Some c) e g o n b = record {
      grows = record {
        unguarded = none-is s.statement.guard n;
        left = (λ i. record { name = (bytes_eq-Decides s.statement.left.name d.name).0 w i; subscripts = bare-is s.statement.left.subscripts b i });
        right = λ z v t r k l f. by-right bits d.name z t k l s.statement.right d.step v (e ∙ ap Some (limited-same c d.step g)) f;
      };
      outermost = o;
      before = (limited-both c d.step g).0;
      behind = (limited-both c d.step g).1;
    }
    right None e g o n b = absurd cc

    bare : (q : Bool) → (is_none s.statement.guard && is_bare_name s.statement.left.subscripts) ≡ q
        → cond q (option_and_then limited_step (step_in d.name s.statement.right)) None ≡ Some d.step → is_outermost s.loops ≡ true → IsGrowth bits d s
    bare true e g o =
        let p = both (is_none s.statement.guard) (is_bare_name s.statement.left.subscripts) e in
        right (step_in d.name s.statement.right) refl g o p.0 p.1
    bare false e g o = absurd cc

    outer : (q : Bool) → is_outermost s.loops ≡ q → cond q (growth_of d.name s.statement) None ≡ Some d.step → IsGrowth bits d s
    outer true e g = bare (is_none s.statement.guard && is_bare_name s.statement.left.subscripts) refl g e
    outer false e g = absurd cc
