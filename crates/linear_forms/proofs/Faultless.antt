-- An expression that has a linear form has the number of it as its value, and meets no fault.
use Rattle.std.proofs.Common.{◌≡◌, refl, sym, ap, ◌∙◌, ℕ, ◌≤◌, ℤ, pos, negsuc, ◌+ℤ◌, ◌-ℤ◌, ◌*ℤ◌, neg_ℤ, Bool, true, false, cond, List, [], ◌++◌, length, Result, Ok, Err, Option, Some, None, arith}
use Rattle.std.specs.Prelude.{nat_le}
use Rattle.std.proofs.lemmas.Bool.{leb-true}
use Rattle.std.proofs.lemmas.Int.{ints}
use Rattle.std.proofs.Math.IntN.{*ℤ_comm, +ℤ_idl}
use mathlib.Core.Path.{ap₂}
use Rattle.tree.specs.Operators.{apply, number, fits}
use Rattle.tree.specs.Steps.{◌>>=◌}
use Rattle.tree.specs.declared.ops.Op.{Op}
use Rattle.tree.specs.declared.ops.Op.TheVariants.{Mul, Neg, Add, Sub}
use Rattle.tree.specs.declared.ops.Fault.{Fault}
use Rattle.tree.specs.declared.ops.Fault.TheVariants.{Overflow}
use Rattle.tree.specs.declared.ops.Value.{Value}
use Rattle.tree.specs.declared.ops.Value.TheVariants.{Int}
use Rattle.tree.specs.Plain.{Expression, Number, Logic, Named, Unary, Binary, Apply, Constructor, Spread, Transpose, Reshape, Reduce, Subscripts, no_subscripts, subscript}
use Rattle.meaning.specs.Dialect.{Dialect}
use Rattle.meaning.specs.Store.{Store, cell_in}
use Rattle.meaning.specs.Value.{value_of}
use Rattle.linear_forms.specs.Laws.{AreSized, LinearHasValue}
use Rattle.linear_forms.specs.Linear.{Form, weighted, number_at, HaveValues, sum, multiple, constant_form, limited, is_limited, constant_of, unit, with_no_constant, form_of_name, form_of_sign, form_of_product, form_of_two, form_of_pair, constant_or, linear}
use Rattle.linear_forms.proofs.LinearLaws.{number_at-sum, number_at-multiple, minus, limited-is, constant-value, unit-is}
use Rattle.linear_forms.proofs.Sizes.{limited_fits}

pub limited-holds : (loops : ℕ) (o : Option Form) (f : Form) → limited loops o ≡ Some f → is_limited loops f ≡ true
limited-holds loops None f h = cc
limited-holds loops (Some g) f h = by (is_limited loops g) refl h
  where
    by : (b : Bool) → is_limited loops g ≡ b → cond b (Some g) None ≡ Some f → is_limited loops f ≡ true
    by true k e = let same : g ≡ f = cc in ap (is_limited loops) (sym same) ∙ k
    by false k e = cc

fitting : (z y : ℤ) → z ≡ y → fits 127 y ≡ true → ◌≡◌ {A = Result Value Fault} (number z) (Ok (Int y))
fitting z y e h = ap number e ∙ ap (λ b. cond b (Ok (Int y)) (Err Overflow)) h

module _ (lang : Dialect) (loops : ℕ) (few : loops ≤ 7) (names : List (List ℕ)) (s : Store) (xs : List ℤ) (values : HaveValues names s xs) (sized : AreSized xs) where
  abbrev HasNumber : Expression → Form → Type 0
  HasNumber e f = value_of lang e s ≡ Ok (Int (number_at f xs))

  abbrev IsFormed : Expression → Type 0
  IsFormed e = (f : Form) → linear loops names e ≡ Some f → HasNumber e f

  constant-number : (e : Expression) (z : ℤ) (f : Form) → constant_of e ≡ Some z → Some (constant_form z) ≡ Some f → HasNumber e f
  constant-number e z f h g =
      let same : constant_form z ≡ f = cc in
      constant-value lang loops names s xs values e z h ∙ (ap (λ z. Ok (Int z)) (sym (+ℤ_idl z)) ∙ ap (λ f. Ok (Int (number_at f xs))) same)

  only_constant : (e : Expression) (f : Form) (o : Option ℤ) → constant_of e ≡ o → constant_or o None ≡ Some f → HasNumber e f
  only_constant e f (Some z) g h = constant-number e z f g h
  only_constant e f None g h = cc

  name-number : (x : List ℕ) (ps : Subscripts) (f : Form) → form_of_name names x ps ≡ Some f → HasNumber (Named x ps) f
  name-number x no_subscripts f h = by (unit names x) refl h
    where
      by : (o : Option (List ℤ)) → unit names x ≡ o → with_no_constant o ≡ Some f → HasNumber (Named x no_subscripts) f
      by (Some cs) g k =
          let one = unit-is lang loops names s xs values names xs values x cs g in
          let same : ◌≡◌ {A = Form} (record { coefficients = cs; constant = pos 0 }) f = cc in
          let whole : weighted cs xs ≡ weighted cs xs +ℤ pos 0 = omega (arith, ints) in
          ap (λ b. do c ← cell_in b x []; Ok (s.held c)) one.bounds ∙ (ap Ok one.held ∙ (ap (λ z. Ok (Int z)) whole ∙ ap (λ f. Ok (Int (number_at f xs))) same))
      by None g k = cc
  name-number x (subscript p ps) f h = cc

  sign-number : (o : Op) (q : Option Form) (a : Expression) (f : Form) → form_of_sign o q ≡ Some f → is_limited loops f ≡ true → ((g : Form) → q ≡ Some g → HasNumber a g) → HasNumber (Unary o a) f
  sign-number Neg (Some g) a f h l k =
      let same : multiple (negsuc 0) g ≡ f = cc in
      let size = limited_fits loops f xs few l sized in
      ap (λ r. do x ← r; apply Neg x x) (k g refl)
      ∙ fitting (neg_ℤ (number_at g xs)) (number_at f xs) (sym (number_at-multiple (negsuc 0) g xs ∙ minus (number_at g xs)) ∙ ap (λ f. number_at f xs) same) size
  sign-number Neg None a f h l k = cc
  sign-number o q a f h l k = cc

  product-number : (k l : Option ℤ) (f g h : Form) (p q : ℤ) → ((z : ℤ) → k ≡ Some z → p ≡ z) → ((z : ℤ) → l ≡ Some z → q ≡ z)
      → form_of_product k l f g ≡ Some h → is_limited loops h ≡ true → p ≡ number_at f xs → q ≡ number_at g xs → ◌≡◌ {A = Result Value Fault} (number (p *ℤ q)) (Ok (Int (number_at h xs)))
  product-number (Some n) l f g h p q a b e m i j =
      let same : multiple n g ≡ h = cc in
      fitting (p *ℤ q) (number_at h xs) (ap₂ (λ p q. p *ℤ q) (a n refl) j ∙ (sym (number_at-multiple n g xs) ∙ ap (λ f. number_at f xs) same)) (limited_fits loops h xs few m sized)
  product-number None (Some n) f g h p q a b e m i j =
      let same : multiple n f ≡ h = cc in
      fitting (p *ℤ q) (number_at h xs) (*ℤ_comm p q ∙ (ap₂ (λ p q. p *ℤ q) (b n refl) i ∙ (sym (number_at-multiple n f xs) ∙ ap (λ f. number_at f xs) same))) (limited_fits loops h xs few m sized)
  product-number None None f g h p q a b e m i j = cc

  two-number : (o : Op) (k l : Option ℤ) (f g h : Form) (p q : ℤ) → ((z : ℤ) → k ≡ Some z → p ≡ z) → ((z : ℤ) → l ≡ Some z → q ≡ z)
      → form_of_two o k l f g ≡ Some h → is_limited loops h ≡ true → p ≡ number_at f xs → q ≡ number_at g xs → apply o (Int p) (Int q) ≡ Ok (Int (number_at h xs))
  two-number Add k l f g h p q a b e m i j =
      let same : sum f g ≡ h = cc in
      fitting (p +ℤ q) (number_at h xs) (ap₂ (λ p q. p +ℤ q) i j ∙ (sym (number_at-sum f g xs) ∙ ap (λ f. number_at f xs) same)) (limited_fits loops h xs few m sized)
  two-number Sub k l f g h p q a b e m i j =
      let same : sum f (multiple (negsuc 0) g) ≡ h = cc in
      fitting (p -ℤ q) (number_at h xs) (ap₂ (λ p q. p -ℤ q) i j ∙ (ap (λ z. number_at f xs +ℤ z) (sym (number_at-multiple (negsuc 0) g xs ∙ minus (number_at g xs))) ∙ (sym (number_at-sum f (multiple (negsuc 0) g) xs) ∙ ap (λ f. number_at f xs) same)))
      (limited_fits loops h xs few m sized)
  two-number Mul k l f g h p q a b e m i j = product-number k l f g h p q a b e m i j
  two-number o k l f g h p q a b e m i j = cc

  int-is : (p q : ℤ) → ◌≡◌ {A = Result Value Fault} (Ok (Int p)) (Ok (Int q)) → p ≡ q
  int-is p q h = cc

  constant-is : (e : Expression) (p : ℤ) → value_of lang e s ≡ Ok (Int p) → (z : ℤ) → constant_of e ≡ Some z → p ≡ z
  constant-is e p h z g = int-is p z (sym h ∙ constant-value lang loops names s xs values e z g)

  unary-formed : (o : Op) (a : Expression) → IsFormed a → (f : Form) → is_limited loops f ≡ true → (c : Option ℤ) → constant_of (Unary o a) ≡ c → constant_or c (form_of_sign o (linear loops names a)) ≡ Some f → HasNumber (Unary o a) f
  unary-formed o a more f m (Some z) g e = constant-number (Unary o a) z f g e
  unary-formed o a more f m None g e = sign-number o (linear loops names a) a f e m more

  pair-formed : (o : Op) (a b : Expression) → IsFormed a → IsFormed b → (f : Form) → is_limited loops f ≡ true → (q r : Option Form) → linear loops names a ≡ q → linear loops names b ≡ r
      → form_of_pair o (constant_of a) (constant_of b) q r ≡ Some f → HasNumber (Binary o a b) f
  pair-formed o a b left right f m (Some f1) (Some g1) i j e =
      let one = left f1 i in
      let two = right g1 j in
      ap₂ (λ p q. do x ← p; y ← q; apply o x y) one two
      ∙ two-number o (constant_of a) (constant_of b) f1 g1 f (number_at f1 xs) (number_at g1 xs) (constant-is a (number_at f1 xs) one) (constant-is b (number_at g1 xs) two) e m refl refl
  pair-formed o a b left right f m (Some f1) None i j e = cc
  pair-formed o a b left right f m None r i j e = cc

  binary-formed : (o : Op) (a b : Expression) → IsFormed a → IsFormed b → (f : Form) → is_limited loops f ≡ true → (c : Option ℤ) → constant_of (Binary o a b) ≡ c
      → constant_or c (form_of_pair o (constant_of a) (constant_of b) (linear loops names a) (linear loops names b)) ≡ Some f → HasNumber (Binary o a b) f
  binary-formed o a b left right f m (Some z) g e = constant-number (Binary o a b) z f g e
  binary-formed o a b left right f m None g e = pair-formed o a b left right f m (linear loops names a) (linear loops names b) refl refl e

  pub has_number : (e : Expression) → IsFormed e
  has_number (Number n) f h = only_constant (Number n) f (constant_of (Number n)) refl (limited-is loops _ f h)
  has_number (Logic b) f h = cc
  has_number (Named x ps) f h = name-number x ps f (limited-is loops _ f h)
  has_number (Unary o a) f h =
      let whole = (constant_or (constant_of (Unary o a)) (form_of_sign o (linear loops names a))) in
      unary-formed o a (has_number a) f (limited-holds loops whole f h) (constant_of (Unary o a)) refl (limited-is loops whole f h)
  has_number (Binary o a b) f h =
      let whole = (constant_or (constant_of (Binary o a b)) (form_of_pair o (constant_of a) (constant_of b) (linear loops names a) (linear loops names b))) in
      binary-formed o a b (has_number a) (has_number b) f (limited-holds loops whole f h) (constant_of (Binary o a b)) refl (limited-is loops whole f h)
  has_number (Apply c es) f h = only_constant (Apply c es) f (constant_of (Apply c es)) refl (limited-is loops _ f h)
  has_number (Constructor es ls) f h = cc
  has_number (Spread a i b) f h = cc
  has_number (Transpose a) f h = cc
  has_number (Reshape a es) f h = cc
  has_number (Reduce r a) f h = cc

pub linear_has_value : LinearHasValue
linear_has_value lang loops symbols e f s xs h v z = by (nat_le (length loops) 7) refl h
  where
    by : (b : Bool) → nat_le (length loops) 7 ≡ b → cond b (linear (length loops) (loops ++ symbols) e) None ≡ Some f → value_of lang e s ≡ Ok (Int (number_at f xs))
    by true k e' = has_number lang (length loops) (leb-true (length loops) 7 k) (loops ++ symbols) s xs v z e f e'
    by false k e' = cc
