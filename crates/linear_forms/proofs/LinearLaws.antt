-- The value of an expression is the number that its linear form is.
use Rattle.std.proofs.Common.{◌≡◌, refl, sym, ap, ◌∙◌, subst, ℕ, ℤ, pos, negsuc, ◌+ℤ◌, ◌-ℤ◌, ◌*ℤ◌, neg_ℤ, Bool, true, false, cond, List, [], ◌∷◌, map, Result, Ok, Err, Option, Some, None, arith}
use Rattle.std.specs.Str.{bytes_eq}
use Rattle.std.proofs.lemmas.Int.{ints}
use Rattle.std.proofs.lemmas.Slice.Eq.{bytes_eq-Decides}
use Rattle.std.proofs.Math.IntN.{*ℤ_comm, *ℤ-zero, +ℤ_idl, zero-*ℤ}
use mathlib.Core.Path.{ap₂}
use Rattle.tree.specs.Operators.{apply, number, fits}
use Rattle.tree.specs.Steps.{◌>>=◌}
use Rattle.tree.specs.declared.ops.Op.{Op}
use Rattle.tree.specs.declared.ops.Op.TheVariants.{Mul, Neg, Add, Sub}
use Rattle.tree.specs.declared.ops.Fault.{Fault}
use Rattle.tree.specs.declared.ops.Fault.TheVariants.{Overflow}
use Rattle.tree.specs.declared.ops.Value.{Value}
use Rattle.tree.specs.declared.ops.Value.TheVariants.{Int, Truth}
use Rattle.tree.specs.Plain.{Expression, Number, Logic, Named, Unary, Binary, Apply, Constructor, Spread, Transpose, Reshape, Reduce, Subscripts, no_subscripts, subscript}
use Rattle.meaning.specs.Dialect.{Dialect, fortran77}
use Rattle.tree.specs.declared.width.Width.TheVariants.{Plain}
use Rattle.meaning.specs.Store.{Store, cell_in}
use Rattle.meaning.specs.Value.{value_of}
use Rattle.linear_forms.proofs.Parts.{parted}
use Rattle.linear_forms.specs.Linear.{Form, weighted, number_at, HaveValues, added, sum, multiple, constant_form, limited, is_limited, no_store, known, as_constant, constant_of, with_zero, unit, with_no_constant, form_of_name, form_of_sign, form_of_product, form_of_two, form_of_pair, constant_or, linear}
use Rattle.linear_forms.proofs.Ring.{spread, spread_left, gathered}
use Rattle.linear_forms.proofs.Storeless.{storeless}

-- ---- numbers of forms

four : (p q r t : ℤ) → (p +ℤ q) +ℤ (r +ℤ t) ≡ (p +ℤ r) +ℤ (q +ℤ t)
four p q r t = omega (arith, ints)

weighted-added : (cs ds xs : List ℤ) → weighted (added cs ds) xs ≡ weighted cs xs +ℤ weighted ds xs
weighted-added [] ds xs = sym (+ℤ_idl (weighted ds xs))
weighted-added (c ∷ cs) [] xs = omega (arith, ints)
weighted-added (c ∷ cs) (d ∷ ds) [] = refl
weighted-added (c ∷ cs) (d ∷ ds) (x ∷ xs) =
    ap₂ (λ p q. p +ℤ q) (spread c d x) (weighted-added cs ds xs) ∙ four (c *ℤ x) (d *ℤ x) (weighted cs xs) (weighted ds xs)

pub number_at-sum : (f g : Form) (xs : List ℤ) → number_at (sum f g) xs ≡ number_at f xs +ℤ number_at g xs
number_at-sum f g xs = ap (λ z. z +ℤ (f.constant +ℤ g.constant)) (weighted-added f.coefficients g.coefficients xs) ∙ four (weighted f.coefficients xs) (weighted g.coefficients xs) f.constant g.constant

weighted-multiple : (n : ℤ) (cs xs : List ℤ) → weighted (map (λ a. n *ℤ a) cs) xs ≡ n *ℤ weighted cs xs
weighted-multiple n [] xs = sym (*ℤ-zero n)
weighted-multiple n (c ∷ cs) [] = sym (*ℤ-zero n)
weighted-multiple n (c ∷ cs) (x ∷ xs) = ap₂ (λ p q. p +ℤ q) (gathered n c x) (weighted-multiple n cs xs) ∙ sym (spread_left n (c *ℤ x) (weighted cs xs))

pub number_at-multiple : (n : ℤ) (f : Form) (xs : List ℤ) → number_at (multiple n f) xs ≡ n *ℤ number_at f xs
number_at-multiple n f xs = ap (λ z. z +ℤ n *ℤ f.constant) (weighted-multiple n f.coefficients xs) ∙ sym (spread_left n (weighted f.coefficients xs) f.constant)

pub minus : (z : ℤ) → negsuc 0 *ℤ z ≡ neg_ℤ z
minus z = omega (arith, ints)

-- ---- what was answered

is_form : (o : Option Form) (f g : Form) → o ≡ Some f → o ≡ Some g → f ≡ g
is_form o f g h k = let e = sym h ∙ k in cc

pub limited-is : (loops : ℕ) (o : Option Form) (f : Form) → limited loops o ≡ Some f → o ≡ Some f
limited-is loops None f h = cc
limited-is loops (Some g) f h = by (is_limited loops g) h
  where
    by : (b : Bool) → cond b (Some g) None ≡ Some f → Some g ≡ Some f
    by true e = e
    by false e = cc

pub number-is : (z : ℤ) (v : Value) → number z ≡ Ok v → v ≡ Int z
number-is z v h = by (fits 127 z) h
  where
    by : (b : Bool) → ◌≡◌ {A = Result Value Fault} (cond b (Ok (Int z)) (Err Overflow)) (Ok v) → v ≡ Int z
    by true e = cc
    by false e = cc

pub as_constant-is : (r : Result Value Fault) (z : ℤ) → as_constant (known r) ≡ Some z → r ≡ Ok (Int z)
as_constant-is (Ok (Int y)) z h = cc
as_constant-is (Ok (Truth b)) z h = cc
as_constant-is (Err f) z h = cc

module _ (lang : Dialect) (loops : ℕ) (names : List (List ℕ)) (s : Store) (xs : List ℤ) (values : HaveValues names s xs) where
  pub constant-value : (e : Expression) (z : ℤ) → constant_of e ≡ Some z → value_of lang e s ≡ Ok (Int z)
  constant-value e z h = storeless lang s e (Int z) (as_constant-is (value_of (fortran77 Plain) e no_store) z h)

  same_answer : (e : Expression) (v w : Value) → value_of lang e s ≡ Ok v → value_of lang e s ≡ Ok w → v ≡ w
  same_answer e v w h k = let e = sym h ∙ k in cc

  constant-number : (e : Expression) (z : ℤ) (f : Form) (v : Value) → constant_of e ≡ Some z → Some (constant_form z) ≡ Some f → value_of lang e s ≡ Ok v → v ≡ Int (number_at f xs)
  constant-number e z f v h g k =
      let same : constant_form z ≡ f = cc in
      same_answer e v (Int z) k (constant-value e z h) ∙ (ap Int (sym (+ℤ_idl z)) ∙ ap (λ f. Int (number_at f xs)) same)

  -- a name is 1 times itself
  pub record Held (x : List ℕ) (z : ℤ) : Type 0 where
    pub bounds : s.bounds x ≡ Some []
    pub held : s.held (record { name = x; subscripts = [] }) ≡ Int z

  pub unit-is : (ys : List (List ℕ)) (zs : List ℤ) → HaveValues ys s zs → (x : List ℕ) (cs : List ℤ) → unit ys x ≡ Some cs → Held x (weighted cs zs)
  unit-is [] [] h x cs e = cc
  unit-is (y ∷ ys) (z ∷ zs) h x cs e = by (unit-is ys zs h.2 x) (bytes_eq y x) refl e
    where
      later : ((ds : List ℤ) → unit ys x ≡ Some ds → Held x (weighted ds zs)) → (o : Option (List ℤ)) → unit ys x ≡ o → with_zero o ≡ Some cs → Held x (weighted cs (z ∷ zs))
      later more (Some ds) g k =
          let one = more ds g in
          let same : pos 0 ∷ ds ≡ cs = cc in
          record {
            bounds = one.bounds;
            held = one.held ∙ (ap Int (sym (+ℤ_idl (weighted ds zs)) ∙ ap (λ p. p +ℤ weighted ds zs) (sym (zero-*ℤ z))) ∙ ap (λ cs. Int (weighted cs (z ∷ zs))) same);
          }
      later more None g k = cc

      by : ((ds : List ℤ) → unit ys x ≡ Some ds → Held x (weighted ds zs)) → (b : Bool) → bytes_eq y x ≡ b → cond b (Some (pos 1 ∷ [])) (with_zero (unit ys x)) ≡ Some cs → Held x (weighted cs (z ∷ zs))
      by more true g k =
          let named = (bytes_eq-Decides y x).0 g in
          let same : pos 1 ∷ [] ≡ cs = cc in
          let one : z ≡ pos 1 *ℤ z +ℤ pos 0 = omega (arith, ints) in
          record {
            bounds = subst (λ (w : List ℕ). s.bounds w ≡ Some []) named h.0;
            held = subst (λ (w : List ℕ). s.held (record { name = w; subscripts = [] }) ≡ Int z) named h.1 ∙ (ap Int one ∙ ap (λ cs. Int (weighted cs (z ∷ zs))) same);
          }
      by more false g k = later more (unit ys x) refl k
  unit-is [] (z ∷ zs) h x cs e = absurd h
  unit-is (y ∷ ys) [] h x cs e = absurd h

  name-number : (x : List ℕ) (ps : Subscripts) (f : Form) (v : Value) → form_of_name names x ps ≡ Some f → value_of lang (Named x ps) s ≡ Ok v → v ≡ Int (number_at f xs)
  name-number x no_subscripts f v h e = by (unit names x) refl h
    where
      by : (o : Option (List ℤ)) → unit names x ≡ o → with_no_constant o ≡ Some f → v ≡ Int (number_at f xs)
      by (Some cs) g k =
          let one = unit-is names xs values x cs g in
          let same : ◌≡◌ {A = Form} (record { coefficients = cs; constant = pos 0 }) f = cc in
          let here : Ok (s.held (record { name = x; subscripts = [] })) ≡ Ok v = sym (ap (λ b. do c ← cell_in b x []; Ok (s.held c)) one.bounds) ∙ e in
          let this : v ≡ s.held (record { name = x; subscripts = [] }) = cc in
          let whole : weighted cs xs ≡ weighted cs xs +ℤ pos 0 = omega (arith, ints) in
          this ∙ (one.held ∙ (ap Int whole ∙ ap (λ f. Int (number_at f xs)) same))
      by None g k = cc
  name-number x (subscript p ps) f v h e = cc

  -- ---- signs, sums and products

  sign-number : (o : Op) (q : Option Form) (f : Form) (v : Value) (z : Value) → form_of_sign o q ≡ Some f → ((g : Form) → q ≡ Some g → z ≡ Int (number_at g xs)) → apply o z z ≡ Ok v → v ≡ Int (number_at f xs)
  sign-number Neg (Some g) f v z h k e =
      let same : multiple (negsuc 0) g ≡ f = cc in
      let is = k g refl in
      number-is (neg_ℤ (number_at g xs)) v (subst (λ (z : Value). apply Neg z z ≡ Ok v) is e)
      ∙ (ap Int (sym (number_at-multiple (negsuc 0) g xs ∙ minus (number_at g xs))) ∙ ap (λ f. Int (number_at f xs)) same)
  sign-number Neg None f v z h k e = cc
  sign-number o q f v z h k e = cc

  product-number : (k l : Option ℤ) (f g h : Form) (p q : ℤ) (v : Value) → ((z : ℤ) → k ≡ Some z → p ≡ z) → ((z : ℤ) → l ≡ Some z → q ≡ z)
      → form_of_product k l f g ≡ Some h → p ≡ number_at f xs → q ≡ number_at g xs → number (p *ℤ q) ≡ Ok v → v ≡ Int (number_at h xs)
  product-number (Some n) l f g h p q v a b e i j c =
      let same : multiple n g ≡ h = cc in
      number-is (p *ℤ q) v c ∙ (ap Int (ap₂ (λ p q. p *ℤ q) (a n refl) j ∙ sym (number_at-multiple n g xs)) ∙ ap (λ f. Int (number_at f xs)) same)
  product-number None (Some n) f g h p q v a b e i j c =
      let same : multiple n f ≡ h = cc in
      number-is (p *ℤ q) v c ∙ (ap Int (*ℤ_comm p q ∙ (ap₂ (λ p q. p *ℤ q) (b n refl) i ∙ sym (number_at-multiple n f xs))) ∙ ap (λ f. Int (number_at f xs)) same)
  product-number None None f g h p q v a b e i j c = cc

  two-number : (o : Op) (k l : Option ℤ) (f g h : Form) (p q : ℤ) (v : Value) → ((z : ℤ) → k ≡ Some z → p ≡ z) → ((z : ℤ) → l ≡ Some z → q ≡ z)
      → form_of_two o k l f g ≡ Some h → p ≡ number_at f xs → q ≡ number_at g xs → apply o (Int p) (Int q) ≡ Ok v → v ≡ Int (number_at h xs)
  two-number Add k l f g h p q v a b e i j c =
      let same : sum f g ≡ h = cc in
      number-is (p +ℤ q) v c ∙ (ap Int (ap₂ (λ p q. p +ℤ q) i j ∙ sym (number_at-sum f g xs)) ∙ ap (λ f. Int (number_at f xs)) same)
  two-number Sub k l f g h p q v a b e i j c =
      let same : sum f (multiple (negsuc 0) g) ≡ h = cc in
      number-is (p -ℤ q) v c ∙ (ap Int (ap₂ (λ p q. p -ℤ q) i j ∙ (ap (λ z. number_at f xs +ℤ z) (sym (number_at-multiple (negsuc 0) g xs ∙ minus (number_at g xs))) ∙ sym (number_at-sum f (multiple (negsuc 0) g) xs)))
      ∙ ap (λ f. Int (number_at f xs)) same)
  two-number Mul k l f g h p q v a b e i j c = product-number k l f g h p q v a b e i j c
  two-number o k l f g h p q v a b e i j c = cc

  int-is : (p q : ℤ) → Int p ≡ Int q → p ≡ q
  int-is p q h = cc

  constant-is : (e : Expression) (p : ℤ) → value_of lang e s ≡ Ok (Int p) → (z : ℤ) → constant_of e ≡ Some z → p ≡ z
  constant-is e p h z g = int-is p z (same_answer e (Int p) (Int z) h (constant-value e z g))

  -- an expression's value is that of its form
  abbrev IsFormed : Expression → Type 0
  IsFormed e = (f : Form) → linear loops names e ≡ Some f → (v : Value) → value_of lang e s ≡ Ok v → v ≡ Int (number_at f xs)

  only_constant : (e : Expression) (f : Form) (o : Option ℤ) → constant_of e ≡ o → constant_or o None ≡ Some f → (v : Value) → value_of lang e s ≡ Ok v → v ≡ Int (number_at f xs)
  only_constant e f (Some z) g h v k = constant-number e z f v g h k
  only_constant e f None g h v k = cc

  unary-formed : (o : Op) (a : Expression) → IsFormed a → (f : Form) (v : Value) → value_of lang (Unary o a) s ≡ Ok v → (c : Option ℤ) → constant_of (Unary o a) ≡ c
      → constant_or c (form_of_sign o (linear loops names a)) ≡ Some f → v ≡ Int (number_at f xs)
  unary-formed o a more f v k (Some z) g e = constant-number (Unary o a) z f v g e k
  unary-formed o a more f v k None g e =
      let p = parted (value_of lang a s) (λ x. apply o x x) v k in
      sign-number o (linear loops names a) f v p.part e (λ g i. more g i p.part p.first) p.second

  pair-formed : (o : Op) (a b : Expression) → IsFormed a → IsFormed b → (f : Form) (v : Value) → value_of lang (Binary o a b) s ≡ Ok v → (q r : Option Form) → linear loops names a ≡ q → linear loops names b ≡ r
      → form_of_pair o (constant_of a) (constant_of b) q r ≡ Some f → v ≡ Int (number_at f xs)
  pair-formed o a b left right f v k (Some f1) (Some g1) i j e =
      let p = parted (value_of lang a s) (λ x. do y ← value_of lang b s; apply o x y) v k in
      let q = parted (value_of lang b s) (λ y. apply o p.part y) v p.second in
      let one = left f1 i p.part p.first in
      let two = right g1 j q.part q.first in
      let x = number_at f1 xs in
      let y = number_at g1 xs in
      two-number o (constant_of a) (constant_of b) f1 g1 f x y v
      (constant-is a x (p.first ∙ ap Ok one)) (constant-is b y (q.first ∙ ap Ok two)) e refl refl
      (ap₂ (λ x y. apply o x y) (sym one) (sym two) ∙ q.second)
  pair-formed o a b left right f v k (Some f1) None i j e = cc
  pair-formed o a b left right f v k None r i j e = cc

  binary-formed : (o : Op) (a b : Expression) → IsFormed a → IsFormed b → (f : Form) (v : Value) → value_of lang (Binary o a b) s ≡ Ok v → (c : Option ℤ) → constant_of (Binary o a b) ≡ c
      → constant_or c (form_of_pair o (constant_of a) (constant_of b) (linear loops names a) (linear loops names b)) ≡ Some f → v ≡ Int (number_at f xs)
  binary-formed o a b left right f v k (Some z) g e = constant-number (Binary o a b) z f v g e k
  binary-formed o a b left right f v k None g e = pair-formed o a b left right f v k (linear loops names a) (linear loops names b) refl refl e

  pub linear_is_value : (e : Expression) → IsFormed e
  linear_is_value (Number n) f h v k = only_constant (Number n) f (constant_of (Number n)) refl (limited-is loops _ f h) v k
  linear_is_value (Logic b) f h v k = cc
  linear_is_value (Named x ps) f h v k = name-number x ps f v (limited-is loops _ f h) k
  linear_is_value (Unary o a) f h v k = unary-formed o a (linear_is_value a) f v k (constant_of (Unary o a)) refl (limited-is loops _ f h)
  linear_is_value (Binary o a b) f h v k = binary-formed o a b (linear_is_value a) (linear_is_value b) f v k (constant_of (Binary o a b)) refl (limited-is loops _ f h)
  linear_is_value (Apply c es) f h v k = only_constant (Apply c es) f (constant_of (Apply c es)) refl (limited-is loops _ f h) v k
  linear_is_value (Constructor es ls) f h v k = cc
  linear_is_value (Spread a i b) f h v k = cc
  linear_is_value (Transpose a) f h v k = cc
  linear_is_value (Reshape a es) f h v k = cc
  linear_is_value (Reduce r a) f h v k = cc
