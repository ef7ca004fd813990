-- A name that stands in the canonical text of a form has a coefficient other than 0 in the form of the text.
use Rattle.std.proofs.Common.{◌≡◌, ◌⊎◌, inl, inr, refl, sym, ap, ◌∙◌, subst, ℕ, zero, suc, ℤ, pos, negsuc, ◌+ℤ◌, ◌*ℤ◌}
use Rattle.std.proofs.Common.{Bool, true, false, cond}
use Rattle.std.proofs.Common.{List, [], ◌∷◌, ◌++◌, map, Option, Some, None, Err, arith}
use Rattle.std.specs.Prelude.{◌==◌}
use Rattle.std.specs.Ordering.{int_eq}
use Rattle.std.specs.Str.{bytes_eq}
use Rattle.std.proofs.lemmas.Bool.{eqb-true}
use Rattle.std.proofs.lemmas.Bool.Decides.{Decides-int_eq}
use Rattle.std.proofs.lemmas.Int.{ints}
use Rattle.std.proofs.Math.IntN.{*ℤ-zero, +ℤ_idl}
use mathlib.Core.Path.{ap₂}
use Rattle.tree.specs.Operators.{apply}
use Rattle.tree.specs.Steps.{◌>>=◌}
use Rattle.tree.specs.Plain.{Expression, Number, Unary, Binary}
use Rattle.tree.specs.declared.ops.Fault.{Fault}
use Rattle.tree.specs.declared.ops.Fault.TheVariants.{Allocated}
use Rattle.tree.specs.declared.ops.Op.{Op}
use Rattle.tree.specs.declared.ops.Op.TheVariants.{Mul, Neg, Add, Sub}
use Rattle.meaning.specs.Dialect.{fortran77}
use Rattle.tree.specs.declared.width.Width.TheVariants.{Plain}
use Rattle.meaning.specs.Reads.{names_in}
use Rattle.meaning.specs.Value.{value_of}
use Rattle.linear_forms.specs.Expressed.{term, with_term, with_terms, with_constant, expressed, variable, variables}
use Rattle.linear_forms.specs.Linear.{Form, sum, multiple, constant_form, no_store, known, as_constant, constant_of}
use Rattle.linear_forms.specs.Linear.{limited, unit, with_no_constant, form_of_sign, form_of_two, form_of_pair}
use Rattle.linear_forms.specs.Linear.{constant_or, linear}
use Rattle.linear_forms.proofs.LinearLaws.{limited-is}
use Rattle.array_form.specs.forms.Loops.{is_among, coefficient}
use Rattle.pass_laws.proofs.NormalFacts.CanonicalCoefficients.{Zeros, Later, at-nil, at-added, at-multiple, at-other, at-itself}

pub free_joined : (y : List ℕ) (xs zs : List (List ℕ)) → is_among xs y ≡ false → is_among zs y ≡ false → is_among (xs ++ zs) y ≡ false
free_joined y [] zs h k = k
free_joined y (x ∷ xs) zs h k = by (bytes_eq x y) h (λ g. free_joined y xs zs g k)
  where
    by : (b : Bool) → cond b true (is_among xs y) ≡ false → (is_among xs y ≡ false → is_among (xs ++ zs) y ≡ false) → cond b true (is_among (xs ++ zs) y) ≡ false
    by true g more = absurd cc
    by false g more = more g

-- the parts of the form of two
record Two (o : Op) (k l : Option ℤ) (p q : Option Form) (g : Form) : Type 0 where
  first : Form
  second : Form
  first_is : p ≡ Some first
  second_is : q ≡ Some second
  is : form_of_two o k l first second ≡ Some g

two : (o : Op) (k l : Option ℤ) (p q : Option Form) (g : Form) → form_of_pair o k l p q ≡ Some g → Two o k l p q g
two o k l None q g h = absurd cc
two o k l (Some f) None g h = absurd cc
two o k l (Some f) (Some i) g h = record { first = f; second = i; first_is = refl; second_is = refl; is = h }

-- the name y in forms over these names, of which the first ones are those of loops
module _ (y : List ℕ) (loops : ℕ) (names : List (List ℕ)) where
  abbrev part_form : Expression → Option Form
  part_form e = linear loops names e

  abbrev at : Form → ℤ
  at f = coefficient names y f.coefficients

  -- the coefficient of y in the form of an expression, if it has one
  abbrev Gives : Expression → ℤ → Type 0
  Gives e z = (f : Form) → part_form e ≡ Some f → at f ≡ z

  -- an expression that isn't constant
  record Has (e : Expression) (z : ℤ) : Type 0 where
    stuck : Fault
    no_value : value_of (fortran77 Plain) e no_store ≡ Err stuck
    gives : Gives e z

  no_constant : (e : Expression) (f : Fault) → value_of (fortran77 Plain) e no_store ≡ Err f → constant_of e ≡ None
  no_constant e f h = ap (λ r. as_constant (known r)) h

  no_pair : (o : Op) (e t : Expression) (f : Fault) → value_of (fortran77 Plain) e no_store ≡ Err f → value_of (fortran77 Plain) (Binary o e t) no_store ≡ Err f
  no_pair o e t f h = ap (λ r. do x ← r; y ← value_of (fortran77 Plain) t no_store; apply o x y) h

  abbrev pair : Op → Expression → Expression → Option Form
  pair o e t = form_of_pair o (constant_of e) (constant_of t) (part_form e) (part_form t)

  of_two : (o : Op) (e t : Expression) (c : Fault) (f : Form) → value_of (fortran77 Plain) (Binary o e t) no_store ≡ Err c → part_form (Binary o e t) ≡ Some f
      → Two o (constant_of e) (constant_of t) (part_form e) (part_form t) f
  of_two o e t c f n h =
      two o (constant_of e) (constant_of t) (part_form e) (part_form t) f
      (limited-is loops (pair o e t) f (sym (ap (λ k. limited loops (constant_or k (pair o e t))) (no_constant (Binary o e t) c n)) ∙ h))

  sum_has : (e t : Expression) (a b : ℤ) → Has e a → Gives t b → Has (Binary Add e t) (a +ℤ b)
  sum_has e t a b h k = record {
    stuck = h.stuck;
    no_value = no_pair Add e t h.stuck h.no_value;
    gives = λ f g. given f (of_two Add e t h.stuck f (no_pair Add e t h.stuck h.no_value) g);
  }
    where
      given : (f : Form) → Two Add (constant_of e) (constant_of t) (part_form e) (part_form t) f → at f ≡ a +ℤ b
      given f w =
          let made = w.is in
          let same : sum w.first w.second ≡ f = cc in
          sym (ap at same) ∙ (at-added y names w.first.coefficients w.second.coefficients ∙ ap₂ (λ p q. p +ℤ q) (h.gives w.first w.first_is) (k w.second w.second_is))

  difference_has : (e t : Expression) (a b : ℤ) → Has e a → Gives t b → Has (Binary Sub e t) (a +ℤ negsuc 0 *ℤ b)
  difference_has e t a b h k = record {
    stuck = h.stuck;
    no_value = no_pair Sub e t h.stuck h.no_value;
    gives = λ f g. given f (of_two Sub e t h.stuck f (no_pair Sub e t h.stuck h.no_value) g);
  }
    where
      given : (f : Form) → Two Sub (constant_of e) (constant_of t) (part_form e) (part_form t) f → at f ≡ a +ℤ negsuc 0 *ℤ b
      given f w =
          let made = w.is in
          let same : sum w.first (multiple (negsuc 0) w.second) ≡ f = cc in
          sym (ap at same)
          ∙ (at-added y names w.first.coefficients (map (λ a. negsuc 0 *ℤ a) w.second.coefficients)
          ∙ ap₂ (λ p q. p +ℤ q) (h.gives w.first w.first_is)
          (at-multiple y (negsuc 0) names w.second.coefficients ∙ ap (λ q. negsuc 0 *ℤ q) (k w.second w.second_is)))

  negative_has : (t : Expression) (b : ℤ) → Has t b → Has (Unary Neg t) (negsuc 0 *ℤ b)
  negative_has t b h = record { stuck = h.stuck; no_value = none; gives = λ f g. given f g }
    where
      none : value_of (fortran77 Plain) (Unary Neg t) no_store ≡ Err h.stuck
      none = ap (λ r. do x ← r; apply Neg x x) h.no_value

      turned : (o : Option Form) (f : Form) → part_form t ≡ o → form_of_sign Neg o ≡ Some f → at f ≡ negsuc 0 *ℤ b
      turned None f e g = absurd cc
      turned (Some i) f e g =
          let same : multiple (negsuc 0) i ≡ f = cc in
          sym (ap at same) ∙ (at-multiple y (negsuc 0) names i.coefficients ∙ ap (λ q. negsuc 0 *ℤ q) (h.gives i e))

      given : (f : Form) → part_form (Unary Neg t) ≡ Some f → at f ≡ negsuc 0 *ℤ b
      given f g =
          turned (part_form t) f refl
          (limited-is loops (form_of_sign Neg (part_form t)) f
          (sym (ap (λ k. limited loops (constant_or k (form_of_sign Neg (part_form t)))) (no_constant (Unary Neg t) h.stuck none)) ∙ g))

  -- ---- a term

  variable_has : (x : List ℕ) (a : ℤ) → ((us : List ℤ) → unit names x ≡ Some us → coefficient names y us ≡ a) → Has (variable x) a
  variable_has x a h = record { stuck = Allocated; no_value = refl; gives = λ f g. given f (unit names x) refl (limited-is loops (with_no_constant (unit names x)) f g) }
    where
      given : (f : Form) (o : Option (List ℤ)) → unit names x ≡ o → with_no_constant o ≡ Some f → at f ≡ a
      given f None e g = absurd cc
      given f (Some us) e g =
          let i : Form = record { coefficients = us; constant = pos 0 } in
          let same : i ≡ f = cc in
          sym (ap at same) ∙ h us e

  one_times : (n : ℕ) (a : ℤ) → n ≡ 1 → a ≡ pos n *ℤ a
  one_times n a h = subst (λ m. a ≡ pos m *ℤ a) (sym h) (once a)
    where
      once : (a : ℤ) → a ≡ pos 1 *ℤ a
      once a = omega (arith, ints)

  times_has : (n : ℕ) (x : List ℕ) (a : ℤ) → Has (variable x) a → Has (Binary Mul (Number (pos n)) (variable x)) (pos n *ℤ a)
  times_has n x a h = record {
    stuck = Allocated;
    no_value = refl;
    gives = λ f g. given f (of_two Mul (Number (pos n)) (variable x) Allocated f refl g);
  }
    where
      given : (f : Form) → Two Mul (Some (pos n)) (constant_of (variable x)) (part_form (Number (pos n))) (part_form (variable x)) f → at f ≡ pos n *ℤ a
      given f w =
          let made = w.is in
          let same : multiple (pos n) w.second ≡ f = cc in
          sym (ap at same) ∙ (at-multiple y (pos n) names w.second.coefficients ∙ ap (λ q. pos n *ℤ q) (h.gives w.second w.second_is))

  term_has : (n : ℕ) (x : List ℕ) (a b : ℤ) → Has (variable x) a → pos n *ℤ a ≡ b → Has (term n (variable x)) b
  term_has n x a b h e = by (n == 1) refl
    where
      by : (q : Bool) → (n == 1) ≡ q → Has (cond q (variable x) (Binary Mul (Number (pos n)) (variable x))) b
      by true q = subst (Has (variable x)) (one_times n a (eqb-true n 1 q) ∙ e) h
      by false q = subst (Has (Binary Mul (Number (pos n)) (variable x))) e (times_has n x a h)

  term_other : (n : ℕ) (x : List ℕ) → bytes_eq x y ≡ false → Has (term n (variable x)) (pos 0)
  term_other n x e = term_has n x (pos 0) (pos 0) (variable_has x (pos 0) (λ us h. at-other y names x us e h)) (*ℤ-zero (pos n))

  term_itself : (n : ℕ) (x : List ℕ) → bytes_eq x y ≡ true → Has (term n (variable x)) (pos n)
  term_itself n x e = term_has n x (pos 1) (pos n) (variable_has x (pos 1) (λ us h. at-itself y names x us e h)) (times_one n)
    where
      times_one : (n : ℕ) → pos n *ℤ pos 1 ≡ pos n
      times_one n = omega (arith, ints)

  -- ---- what stands so far

  abbrev IsAt : Option Expression → ℤ → Type 0
  IsAt None z = z ≡ pos 0
  IsAt (Some e) z = Has e z

  abbrev names_so_far : Option Expression → List (List ℕ)
  names_so_far None = []
  names_so_far (Some e) = names_in e

  abbrev IsFree : Option Expression → Type 0
  IsFree o = is_among (names_so_far o) y ≡ false

  sum_nothing : (z : ℤ) → z +ℤ pos 0 ≡ z
  sum_nothing z = omega (arith, ints)

  minus_nothing : (z : ℤ) → z +ℤ negsuc 0 *ℤ pos 0 ≡ z
  minus_nothing z = ap (λ w. z +ℤ w) (*ℤ-zero (negsuc 0)) ∙ sum_nothing z

  turned_sign : (n : ℕ) → negsuc 0 *ℤ pos (suc n) ≡ negsuc n
  turned_sign n = omega (arith, ints)

  step_other : (o : Option Expression) (c : ℤ) (x : List ℕ) (z : ℤ) → bytes_eq x y ≡ false → IsAt o z → IsAt (with_term o c (variable x)) z
  step_other o (pos zero) x z e h = h
  step_other None (pos (suc n)) x z e h = subst (Has (term (suc n) (variable x))) (sym h) (term_other (suc n) x e)
  step_other (Some t) (pos (suc n)) x z e h =
      subst (Has (Binary Add t (term (suc n) (variable x)))) (sum_nothing z) (sum_has t (term (suc n) (variable x)) z (pos 0) h (term_other (suc n) x e).gives)
  step_other None (negsuc n) x z e h =
      subst (Has (Unary Neg (term (suc n) (variable x)))) (*ℤ-zero (negsuc 0) ∙ sym h) (negative_has (term (suc n) (variable x)) (pos 0) (term_other (suc n) x e))
  step_other (Some t) (negsuc n) x z e h =
      subst (Has (Binary Sub t (term (suc n) (variable x)))) (minus_nothing z) (difference_has t (term (suc n) (variable x)) z (pos 0) h (term_other (suc n) x e).gives)

  step_itself : (o : Option Expression) (c : ℤ) (x : List ℕ) → bytes_eq x y ≡ true → IsAt o (pos 0) → IsAt (with_term o c (variable x)) c
  step_itself o (pos zero) x e h = h
  step_itself None (pos (suc n)) x e h = term_itself (suc n) x e
  step_itself (Some t) (pos (suc n)) x e h =
      subst (Has (Binary Add t (term (suc n) (variable x)))) (+ℤ_idl (pos (suc n))) (sum_has t (term (suc n) (variable x)) (pos 0) (pos (suc n)) h (term_itself (suc n) x e).gives)
  step_itself None (negsuc n) x e h =
      subst (Has (Unary Neg (term (suc n) (variable x)))) (turned_sign n) (negative_has (term (suc n) (variable x)) (pos (suc n)) (term_itself (suc n) x e))
  step_itself (Some t) (negsuc n) x e h =
      subst (Has (Binary Sub t (term (suc n) (variable x)))) (+ℤ_idl (negsuc 0 *ℤ pos (suc n)) ∙ turned_sign n)
      (difference_has t (term (suc n) (variable x)) (pos 0) (pos (suc n)) h (term_itself (suc n) x e).gives)

  term_names : (n : ℕ) (x : List ℕ) → bytes_eq x y ≡ false → is_among (names_in (term n (variable x))) y ≡ false
  term_names n x e = by (n == 1)
    where
      by : (q : Bool) → is_among (names_in (cond q (variable x) (Binary Mul (Number (pos n)) (variable x)))) y ≡ false
      by true = ap (λ b. cond b true false) e
      by false = ap (λ b. cond b true false) e

  step_free : (o : Option Expression) (c : ℤ) (x : List ℕ) → bytes_eq x y ≡ false → IsFree o → IsFree (with_term o c (variable x))
  step_free o (pos zero) x e h = h
  step_free None (pos (suc n)) x e h = term_names (suc n) x e
  step_free (Some t) (pos (suc n)) x e h = free_joined y (names_in t) (names_in (term (suc n) (variable x))) h (term_names (suc n) x e)
  step_free None (negsuc n) x e h = term_names (suc n) x e
  step_free (Some t) (negsuc n) x e h = free_joined y (names_in t) (names_in (term (suc n) (variable x))) h (term_names (suc n) x e)

  -- ---- all terms

  walk_zeros : (xs : List (List ℕ)) (cs : List ℤ) (o : Option Expression) (z : ℤ) → Zeros y xs cs → IsAt o z → IsAt (with_terms o cs (variables xs)) z
  walk_zeros xs [] o z q h = h
  walk_zeros [] (c ∷ cs) o z q h = h
  walk_zeros (x ∷ xs) (c ∷ cs) o z q h = walk_zeros xs cs (with_term o c (variable x)) z q.1 (one (bytes_eq x y) refl)
    where
      one : (b : Bool) → bytes_eq x y ≡ b → IsAt (with_term o c (variable x)) z
      one true e = subst (λ k. IsAt (with_term o k (variable x)) z) (sym (q.0 e)) h
      one false e = step_other o c x z e h

  free_zeros : (xs : List (List ℕ)) (cs : List ℤ) (o : Option Expression) → Zeros y xs cs → IsFree o → IsFree (with_terms o cs (variables xs))
  free_zeros xs [] o q h = h
  free_zeros [] (c ∷ cs) o q h = h
  free_zeros (x ∷ xs) (c ∷ cs) o q h = free_zeros xs cs (with_term o c (variable x)) q.1 (one (bytes_eq x y) refl)
    where
      one : (b : Bool) → bytes_eq x y ≡ b → IsFree (with_term o c (variable x))
      one true e = subst (λ k. IsFree (with_term o k (variable x))) (sym (q.0 e)) h
      one false e = step_free o c x e h

  -- y stands in it, with a coefficient other than 0
  record Stands (o : Option Expression) : Type 0 where
    number : ℤ
    nonzero : int_eq number (pos 0) ≡ false
    is : IsAt o number

  walk : (xs : List (List ℕ)) (cs : List ℤ) (o : Option Expression) → Later y xs cs → IsAt o (pos 0) → IsFree o
      → IsFree (with_terms o cs (variables xs)) ⊎ Stands (with_terms o cs (variables xs))
  walk xs [] o q h f = inl f
  walk [] (c ∷ cs) o q h f = inl f
  walk (x ∷ xs) (c ∷ cs) o q h f = by (bytes_eq x y) refl (λ i g. walk xs cs (with_term o c (variable x)) q.1 i g)
    where
      here : bytes_eq x y ≡ true → (b : Bool) → int_eq c (pos 0) ≡ b
          → IsFree (with_terms (with_term o c (variable x)) cs (variables xs)) ⊎ Stands (with_terms (with_term o c (variable x)) cs (variables xs))
      here e true n =
          inl (free_zeros xs cs (with_term o c (variable x)) (q.0 e)
          (subst (λ k. IsFree (with_term o k (variable x))) (sym ((Decides-int_eq c (pos 0)).0 n)) f))
      here e false n =
          inr (record { number = c; nonzero = n; is = walk_zeros xs cs (with_term o c (variable x)) c (q.0 e) (step_itself o c x e h) })

      by : (b : Bool) → bytes_eq x y ≡ b
          → (IsAt (with_term o c (variable x)) (pos 0) → IsFree (with_term o c (variable x))
          → IsFree (with_terms (with_term o c (variable x)) cs (variables xs)) ⊎ Stands (with_terms (with_term o c (variable x)) cs (variables xs)))
          → IsFree (with_terms (with_term o c (variable x)) cs (variables xs)) ⊎ Stands (with_terms (with_term o c (variable x)) cs (variables xs))
      by true e more = here e (int_eq c (pos 0)) refl
      by false e more = more (step_other o c x (pos 0) e h) (step_free o c x e f)

  -- ---- the constant

  -- y doesn't stand in an expression, or its coefficient isn't 0
  abbrev Moves : Expression → Type 0
  Moves e = (is_among (names_in e) y ≡ false) ⊎ ((f : Form) → part_form e ≡ Some f → int_eq (at f) (pos 0) ≡ false)

  number_gives : (n : ℕ) → Gives (Number (pos n)) (pos 0)
  number_gives n f h =
      let found = limited-is loops (Some (constant_form (pos n))) f h in
      let same : constant_form (pos n) ≡ f = cc in
      sym (ap at same) ∙ at-nil y names

  moves : (e : Expression) (z : ℤ) → int_eq z (pos 0) ≡ false → Has e z → Moves e
  moves e z n h = inr (λ f g. ap (λ w. int_eq w (pos 0)) (h.gives f g) ∙ n)

  whole : (o : Option Expression) (k : ℤ) → IsFree o ⊎ Stands o → Moves (with_constant o k)
  whole None (pos n) h = inl refl
  whole None (negsuc n) h = inl refl
  whole (Some e) (pos zero) (inl h) = inl h
  whole (Some e) (pos zero) (inr s) = moves e s.number s.nonzero s.is
  whole (Some e) (pos (suc n)) (inl h) = inl (free_joined y (names_in e) [] h refl)
  whole (Some e) (pos (suc n)) (inr s) =
      moves (Binary Add e (Number (pos (suc n)))) s.number s.nonzero
      (subst (Has (Binary Add e (Number (pos (suc n))))) (sum_nothing s.number) (sum_has e (Number (pos (suc n))) s.number (pos 0) s.is (number_gives (suc n))))
  whole (Some e) (negsuc n) (inl h) = inl (free_joined y (names_in e) [] h refl)
  whole (Some e) (negsuc n) (inr s) =
      moves (Binary Sub e (Number (pos (suc n)))) s.number s.nonzero
      (subst (Has (Binary Sub e (Number (pos (suc n))))) (minus_nothing s.number) (difference_has e (Number (pos (suc n))) s.number (pos 0) s.is (number_gives (suc n))))

  pub text_moves : (g : Form) → Later y names g.coefficients → Moves (expressed (variables names) g)
  text_moves g h = whole (with_terms None g.coefficients (variables names)) g.constant (walk names g.coefficients None h refl refl)
