-- Which names stand in an expression with a linear form.
use Rattle.std.proofs.Common.{◌≡◌, refl, sym, ap, ◌∙◌, ℕ, ℤ, Bool, true, false, cond, ◌||◌, List, [], ◌∷◌, ◌++◌, Option, Some, None, Ok, pos}
use Rattle.std.specs.Str.{bytes_eq}
use Rattle.std.proofs.lemmas.Slice.Eq.{bytes_eq-Decides}
use Rattle.tree.specs.Operators.{apply, call}
use Rattle.tree.specs.Steps.{◌>>=◌}
use Rattle.tree.specs.declared.ops.Op.{Op}
use Rattle.tree.specs.declared.ops.Op.TheVariants.{Neg}
use Rattle.tree.specs.declared.ops.Value.{Value}
use Rattle.tree.specs.declared.ops.Value.TheVariants.{Int}
use Rattle.tree.specs.Plain.{Expression, Number, Logic, Named, Unary, Binary, Apply, Constructor, Spread, Transpose, Reshape, Reduce, Expressions, no_expressions, expression, no_subscripts, subscript}
use Rattle.meaning.specs.Dialect.{fortran77}
use Rattle.tree.specs.declared.width.Width.TheVariants.{Plain}
use Rattle.meaning.specs.Reads.{names_in, names_in_each}
use Rattle.meaning.specs.Store.{cell_at}
use Rattle.meaning.specs.Value.{value_of, values_of, subscript_values}
use Rattle.linear_forms.specs.Linear.{Form, no_store, limited, unit, with_zero, with_no_constant, form_of_sign, form_of_pair, constant_of, constant_or, linear, form_of}
use Rattle.linear_forms.proofs.LinearLaws.{limited-is, as_constant-is}
use Rattle.linear_forms.proofs.Parts.{parted}
use Rattle.nest.specs.statement_loops.Names.{is_among}

nothing_joined : (xs ys : List (List ℕ)) → xs ≡ [] → ys ≡ [] → xs ++ ys ≡ []
nothing_joined xs ys h k = ap (λ zs. zs ++ ys) h ∙ k

-- ---- a constant has no names

mutual
  no_names : (e : Expression) (v : Value) → value_of (fortran77 Plain) e no_store ≡ Ok v → names_in e ≡ []
  no_names (Number n) v h = refl
  no_names (Logic b) v h = refl
  no_names (Named x ps) v h =
      let p = parted (subscript_values (fortran77 Plain) ps no_store) (λ is. do c ← cell_at x is no_store; Ok (no_store.held c)) v h in
      let e = p.second in cc
  no_names (Unary o a) v h =
      let p = parted (value_of (fortran77 Plain) a no_store) (λ x. apply o x x) v h in
      no_names a p.part p.first
  no_names (Binary o a b) v h =
      let p = parted (value_of (fortran77 Plain) a no_store) (λ x. do y ← value_of (fortran77 Plain) b no_store; apply o x y) v h in
      let q = parted (value_of (fortran77 Plain) b no_store) (λ y. apply o p.part y) v p.second in
      nothing_joined (names_in a) (names_in b) (no_names a p.part p.first) (no_names b q.part q.first)
  no_names (Apply f es) v h =
      let p = parted (values_of (fortran77 Plain) es no_store) (λ xs. call f xs) v h in
      no_names_each es p.part p.first
  no_names (Constructor es ls) v h = cc
  no_names (Spread a k b) v h = cc
  no_names (Transpose a) v h = cc
  no_names (Reshape a es) v h = cc
  no_names (Reduce r a) v h = cc

  no_names_each : (es : Expressions) (vs : List Value) → values_of (fortran77 Plain) es no_store ≡ Ok vs → names_in_each es ≡ []
  no_names_each no_expressions vs h = refl
  no_names_each (expression e es) vs h =
      let p = parted (value_of (fortran77 Plain) e no_store) (λ x. do xs ← values_of (fortran77 Plain) es no_store; Ok (x ∷ xs)) vs h in
      let q = parted (values_of (fortran77 Plain) es no_store) (λ xs. Ok (p.part ∷ xs)) vs p.second in
      nothing_joined (names_in e) (names_in_each es) (no_names e p.part p.first) (no_names_each es q.part q.first)

-- ---- a linear expression has names of its places alone

module _ (loops : ℕ) (names : List (List ℕ)) (v : List ℕ) (free : is_among names v ≡ false) where
  free_joined : (xs ys : List (List ℕ)) → is_among xs v ≡ false → is_among ys v ≡ false → is_among (xs ++ ys) v ≡ false
  free_joined [] ys h k = k
  free_joined (x ∷ xs) ys h k = by (bytes_eq x v) h (λ g. free_joined xs ys g k)
    where
      by : (b : Bool) → (b || is_among xs v) ≡ false → (is_among xs v ≡ false → is_among (xs ++ ys) v ≡ false) → (b || is_among (xs ++ ys) v) ≡ false
      by true g more = let no : ⊥ = cc in absurd no
      by false g more = more g

  free_constant : (e : Expression) (z : ℤ) → constant_of e ≡ Some z → is_among (names_in e) v ≡ false
  free_constant e z h = ap (λ xs. is_among xs v) (no_names e (Int z) (as_constant-is (value_of (fortran77 Plain) e no_store) z h))

  free_unit : (ys : List (List ℕ)) (x : List ℕ) (cs : List ℤ) → is_among ys v ≡ false → unit ys x ≡ Some cs → bytes_eq x v ≡ false
  free_unit [] x cs f h = let no : ⊥ = cc in absurd no
  free_unit (y ∷ ys) x cs f h = by (bytes_eq y x) refl (bytes_eq y v) refl f h (λ ds g e. free_unit ys x ds g e)
    where
      later : (o : Option (List ℤ)) → unit ys x ≡ o → with_zero o ≡ Some cs → is_among ys v ≡ false
          → ((ds : List ℤ) → is_among ys v ≡ false → unit ys x ≡ Some ds → bytes_eq x v ≡ false) → bytes_eq x v ≡ false
      later None e k g more = let no : ⊥ = cc in absurd no
      later (Some ds) e k g more = more ds g e

      by : (b : Bool) → bytes_eq y x ≡ b → (c : Bool) → bytes_eq y v ≡ c → (c || is_among ys v) ≡ false → cond b (Some (pos 1 ∷ [])) (with_zero (unit ys x)) ≡ Some cs
          → ((ds : List ℤ) → is_among ys v ≡ false → unit ys x ≡ Some ds → bytes_eq x v ≡ false) → bytes_eq x v ≡ false
      by b e true g f k more = let no : ⊥ = cc in absurd no
      by true e false g f k more = ap (λ z. bytes_eq z v) (sym ((bytes_eq-Decides y x).0 e)) ∙ g
      by false e false g f k more = later (unit ys x) refl k f more

  free_node : (e : Expression) (o : Option ℤ) (p : Option Form) (f : Form) → constant_of e ≡ o → ((g : Form) → p ≡ Some g → is_among (names_in e) v ≡ false)
      → limited loops (constant_or o p) ≡ Some f → is_among (names_in e) v ≡ false
  free_node e (Some z) p f c more h = free_constant e z c
  free_node e None p f c more h = more f (limited-is loops p f h)

  no_form : (e : Expression) (g : Form) → ◌≡◌ {A = Option Form} None (Some g) → is_among (names_in e) v ≡ false
  no_form e g h = let no : ⊥ = cc in absurd no

  free_sign : (o : Op) (p : Option Form) (g : Form) (b : Bool) → ((f : Form) → p ≡ Some f → b ≡ false) → form_of_sign o p ≡ Some g → b ≡ false
  free_sign Neg None g b more h = let no : ⊥ = cc in absurd no
  free_sign Neg (Some f) g b more h = more f refl
  free_sign o p g b more h = let no : ⊥ = cc in absurd no

  free_pair : (o : Op) (k l : Option ℤ) (p q : Option Form) (g : Form) (b : Bool) → ((f : Form) (h : Form) → p ≡ Some f → q ≡ Some h → b ≡ false) → form_of_pair o k l p q ≡ Some g → b ≡ false
  free_pair o k l None q g b more h = let no : ⊥ = cc in absurd no
  free_pair o k l (Some f) None g b more h = let no : ⊥ = cc in absurd no
  free_pair o k l (Some f) (Some i) g b more h = more f i refl refl

  free_linear : (e : Expression) (f : Form) → linear loops names e ≡ Some f → is_among (names_in e) v ≡ false
  free_linear (Number n) f h = refl
  free_linear (Logic b) f h = refl
  free_linear (Named x (subscript p ps)) f h = let e = limited-is loops None f h in let no : ⊥ = cc in absurd no
  free_linear (Named x no_subscripts) f h = by (unit names x) refl (limited-is loops (with_no_constant (unit names x)) f h)
    where
      by : (o : Option (List ℤ)) → unit names x ≡ o → with_no_constant o ≡ Some f → (bytes_eq x v || false) ≡ false
      by None e k = let no : ⊥ = cc in absurd no
      by (Some cs) e k = ap (λ b. b || false) (free_unit names x cs free e)
  free_linear (Unary o a) f h =
      free_node (Unary o a) (constant_of (Unary o a)) (form_of_sign o (linear loops names a)) f refl
      (λ g e. free_sign o (linear loops names a) g (is_among (names_in a) v) (λ k i. free_linear a k i) e) h
  free_linear (Binary o a b) f h =
      free_node (Binary o a b) (constant_of (Binary o a b)) (form_of_pair o (constant_of a) (constant_of b) (linear loops names a) (linear loops names b)) f refl
      (λ g e. free_pair o (constant_of a) (constant_of b) (linear loops names a) (linear loops names b) g (is_among (names_in a ++ names_in b) v)
      (λ k m i j. free_joined (names_in a) (names_in b) (free_linear a k i) (free_linear b m j)) e) h
  free_linear (Apply c es) f h = free_node (Apply c es) (constant_of (Apply c es)) None f refl (no_form (Apply c es)) h
  free_linear (Constructor es ls) f h = let no : ⊥ = cc in absurd no
  free_linear (Spread a k b) f h = let no : ⊥ = cc in absurd no
  free_linear (Transpose a) f h = let no : ⊥ = cc in absurd no
  free_linear (Reshape a es) f h = let no : ⊥ = cc in absurd no
  free_linear (Reduce r a) f h = let no : ⊥ = cc in absurd no

pub free_form : (symbols : List (List ℕ)) (v : List ℕ) (e : Expression) (f : Form) → is_among symbols v ≡ false → form_of [] symbols e ≡ Some f → is_among (names_in e) v ≡ false
free_form symbols v e f free h = free_linear 0 symbols v free e f h
