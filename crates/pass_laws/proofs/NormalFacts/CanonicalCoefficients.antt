-- The coefficient of a name in linear forms. Where a name stands twice among the places of a form, all but the first of
-- them have the coefficient 0.
use Rattle.std.proofs.Common.{◌≡◌, refl, sym, ap, ◌∙◌, subst, ℕ, ℤ, pos, negsuc, ◌+ℤ◌, ◌*ℤ◌, Bool, true, false, cond}
use Rattle.std.proofs.Common.{List, [], ◌∷◌, map, Option, Some, None, arith}
use Rattle.std.specs.Str.{bytes_eq}
use Rattle.std.proofs.lemmas.Int.{ints}
use Rattle.std.proofs.lemmas.Slice.Eq.{bytes_eq-Decides}
use Rattle.std.proofs.Math.IntN.{*ℤ-zero, +ℤ_idl}
use mathlib.Core.Path.{ap₂}
use Rattle.tree.specs.Plain.{Expression, Number, Logic, Named, Unary, Binary, Apply, Constructor, Spread, Transpose}
use Rattle.tree.specs.Plain.{Reshape, Reduce, no_subscripts, subscript}
use Rattle.tree.specs.declared.ops.Op.{Op}
use Rattle.tree.specs.declared.ops.Op.TheVariants.{Mul, Neg, Add, Sub}
use Rattle.linear_forms.specs.Linear.{Form, added, sum, multiple, constant_form, constant_of, limited, unit, with_zero}
use Rattle.linear_forms.specs.Linear.{with_no_constant, form_of_sign, form_of_product, form_of_two, form_of_pair}
use Rattle.linear_forms.specs.Linear.{constant_or, linear}
use Rattle.linear_forms.proofs.LinearLaws.{limited-is}
use Rattle.array_form.specs.forms.Loops.{coefficient}

no_sum : pos 0 +ℤ pos 0 ≡ pos 0
no_sum = omega (arith, ints)

plus_nothing : (z : ℤ) → z ≡ z +ℤ pos 0
plus_nothing z = omega (arith, ints)

other_byte : (x y z : List ℕ) → bytes_eq z x ≡ false → bytes_eq z y ≡ true → bytes_eq x y ≡ false
other_byte x y z e g = by (bytes_eq x y) refl
  where
    by : (b : Bool) → bytes_eq x y ≡ b → b ≡ false
    by false k = refl
    by true k =
        let same : z ≡ x = (bytes_eq-Decides z y).0 g ∙ sym ((bytes_eq-Decides x y).0 k) in
        let both : true ≡ false = sym ((bytes_eq-Decides z x).1 same) ∙ e in
        absurd cc

-- the name y
module _ (y : List ℕ) where
  -- ---- its coefficient

  pub at-nil : (xs : List (List ℕ)) → coefficient xs y [] ≡ pos 0
  at-nil [] = refl
  at-nil (x ∷ xs) = refl

  pub at-added : (xs : List (List ℕ)) (cs ds : List ℤ) → coefficient xs y (added cs ds) ≡ coefficient xs y cs +ℤ coefficient xs y ds
  at-added [] cs ds = sym no_sum
  at-added (x ∷ xs) [] ds = sym (+ℤ_idl (coefficient (x ∷ xs) y ds))
  at-added (x ∷ xs) (c ∷ cs) [] = plus_nothing (coefficient (x ∷ xs) y (c ∷ cs))
  at-added (x ∷ xs) (c ∷ cs) (d ∷ ds) = by (bytes_eq x y) (at-added xs cs ds)
    where
      by : (b : Bool) → coefficient xs y (added cs ds) ≡ coefficient xs y cs +ℤ coefficient xs y ds
          → cond b (c +ℤ d) (coefficient xs y (added cs ds)) ≡ cond b c (coefficient xs y cs) +ℤ cond b d (coefficient xs y ds)
      by true h = refl
      by false h = h

  pub at-multiple : (m : ℤ) (xs : List (List ℕ)) (cs : List ℤ) → coefficient xs y (map (λ a. m *ℤ a) cs) ≡ m *ℤ coefficient xs y cs
  at-multiple m [] cs = sym (*ℤ-zero m)
  at-multiple m (x ∷ xs) [] = sym (*ℤ-zero m)
  at-multiple m (x ∷ xs) (c ∷ cs) = by (bytes_eq x y) (at-multiple m xs cs)
    where
      by : (b : Bool) → coefficient xs y (map (λ a. m *ℤ a) cs) ≡ m *ℤ coefficient xs y cs
          → cond b (m *ℤ c) (coefficient xs y (map (λ a. m *ℤ a) cs)) ≡ m *ℤ cond b c (coefficient xs y cs)
      by true h = refl
      by false h = h

  -- ---- each of its places has the coefficient 0

  abbrev pub Zeros : List (List ℕ) → List ℤ → Type 0
  Zeros [] cs = Unit {0}
  Zeros (x ∷ xs) [] = Unit {0}
  Zeros (x ∷ xs) (c ∷ cs) = (bytes_eq x y ≡ true → c ≡ pos 0) × Zeros xs cs

  zeros-nil : (xs : List (List ℕ)) → Zeros xs []
  zeros-nil [] = tt
  zeros-nil (x ∷ xs) = tt

  zeros-added : (xs : List (List ℕ)) (cs ds : List ℤ) → Zeros xs cs → Zeros xs ds → Zeros xs (added cs ds)
  zeros-added [] cs ds h k = tt
  zeros-added (x ∷ xs) [] ds h k = k
  zeros-added (x ∷ xs) (c ∷ cs) [] h k = h
  zeros-added (x ∷ xs) (c ∷ cs) (d ∷ ds) h k =
      ((λ e. ap₂ (λ p q. p +ℤ q) (h.0 e) (k.0 e) ∙ no_sum), zeros-added xs cs ds h.1 k.1)

  zeros-multiple : (m : ℤ) (xs : List (List ℕ)) (cs : List ℤ) → Zeros xs cs → Zeros xs (map (λ a. m *ℤ a) cs)
  zeros-multiple m [] cs h = tt
  zeros-multiple m (x ∷ xs) [] h = tt
  zeros-multiple m (x ∷ xs) (c ∷ cs) h = ((λ e. ap (λ a. m *ℤ a) (h.0 e) ∙ *ℤ-zero m), zeros-multiple m xs cs h.1)

  zeros-unit : (xs : List (List ℕ)) (x : List ℕ) (us : List ℤ) → bytes_eq x y ≡ false → unit xs x ≡ Some us → Zeros xs us
  zeros-unit [] x us n h = tt
  zeros-unit (z ∷ zs) x us n h = by (bytes_eq z x) refl h (λ vs e. zeros-unit zs x vs n e)
    where
      later : (o : Option (List ℤ)) → unit zs x ≡ o → with_zero o ≡ Some us → ((vs : List ℤ) → unit zs x ≡ Some vs → Zeros zs vs) → Zeros (z ∷ zs) us
      later None e k more = absurd cc
      later (Some vs) e k more = let same : pos 0 ∷ vs ≡ us = cc in subst (Zeros (z ∷ zs)) same ((λ g. refl), more vs e)

      first : bytes_eq z x ≡ true → bytes_eq z y ≡ true → pos 1 ≡ pos 0
      first e g =
          let same : bytes_eq x y ≡ true = subst (λ w. bytes_eq w y ≡ true) ((bytes_eq-Decides z x).0 e) g in
          let both : true ≡ false = sym same ∙ n in
          absurd cc

      by : (b : Bool) → bytes_eq z x ≡ b → cond b (Some (pos 1 ∷ [])) (with_zero (unit zs x)) ≡ Some us
          → ((vs : List ℤ) → unit zs x ≡ Some vs → Zeros zs vs) → Zeros (z ∷ zs) us
      by true e k more = let same : pos 1 ∷ [] ≡ us = cc in subst (Zeros (z ∷ zs)) same (first e, zeros-nil zs)
      by false e k more = later (unit zs x) refl k more

  zeros-at : (xs : List (List ℕ)) (cs : List ℤ) → Zeros xs cs → coefficient xs y cs ≡ pos 0
  zeros-at [] cs h = refl
  zeros-at (x ∷ xs) [] h = refl
  zeros-at (x ∷ xs) (c ∷ cs) h = by (bytes_eq x y) h.0 (zeros-at xs cs h.1)
    where
      by : (b : Bool) → (b ≡ true → c ≡ pos 0) → coefficient xs y cs ≡ pos 0 → cond b c (coefficient xs y cs) ≡ pos 0
      by true h more = h refl
      by false h more = more

  pub at-other : (xs : List (List ℕ)) (x : List ℕ) (us : List ℤ) → bytes_eq x y ≡ false → unit xs x ≡ Some us → coefficient xs y us ≡ pos 0
  at-other xs x us n h = zeros-at xs us (zeros-unit xs x us n h)

  pub at-itself : (xs : List (List ℕ)) (x : List ℕ) (us : List ℤ) → bytes_eq x y ≡ true → unit xs x ≡ Some us → coefficient xs y us ≡ pos 1
  at-itself [] x us g h = absurd cc
  at-itself (z ∷ zs) x us g h = by (bytes_eq z x) refl h (λ vs e. at-itself zs x vs g e)
    where
      same_byte : bytes_eq z x ≡ true → bytes_eq z y ≡ true
      same_byte e = (bytes_eq-Decides z y).1 ((bytes_eq-Decides z x).0 e ∙ (bytes_eq-Decides x y).0 g)

      not_same : bytes_eq z x ≡ false → bytes_eq z y ≡ false
      not_same e = but (bytes_eq z y) refl
        where
          but : (b : Bool) → bytes_eq z y ≡ b → b ≡ false
          but false k = refl
          but true k =
              let same : bytes_eq z x ≡ true = (bytes_eq-Decides z x).1 ((bytes_eq-Decides z y).0 k ∙ sym ((bytes_eq-Decides x y).0 g)) in
              let both : true ≡ false = sym same ∙ e in
              absurd cc

      later : bytes_eq z x ≡ false → (o : Option (List ℤ)) → unit zs x ≡ o → with_zero o ≡ Some us
          → ((vs : List ℤ) → unit zs x ≡ Some vs → coefficient zs y vs ≡ pos 1) → coefficient (z ∷ zs) y us ≡ pos 1
      later n None e k more = absurd cc
      later n (Some vs) e k more =
          let same : pos 0 ∷ vs ≡ us = cc in
          subst (λ ws. coefficient (z ∷ zs) y ws ≡ pos 1) same (ap (λ b. cond b (pos 0) (coefficient zs y vs)) (not_same n) ∙ more vs e)

      by : (b : Bool) → bytes_eq z x ≡ b → cond b (Some (pos 1 ∷ [])) (with_zero (unit zs x)) ≡ Some us
          → ((vs : List ℤ) → unit zs x ≡ Some vs → coefficient zs y vs ≡ pos 1) → coefficient (z ∷ zs) y us ≡ pos 1
      by true e k more =
          let same : pos 1 ∷ [] ≡ us = cc in
          subst (λ ws. coefficient (z ∷ zs) y ws ≡ pos 1) same (ap (λ b. cond b (pos 1) (coefficient zs y [])) (same_byte e))
      by false e k more = later e (unit zs x) refl k more

  -- ---- each of its places behind the first one has

  abbrev pub Later : List (List ℕ) → List ℤ → Type 0
  Later [] cs = Unit {0}
  Later (x ∷ xs) [] = Unit {0}
  Later (x ∷ xs) (c ∷ cs) = (bytes_eq x y ≡ true → Zeros xs cs) × Later xs cs

  later-nil : (xs : List (List ℕ)) → Later xs []
  later-nil [] = tt
  later-nil (x ∷ xs) = tt

  later-added : (xs : List (List ℕ)) (cs ds : List ℤ) → Later xs cs → Later xs ds → Later xs (added cs ds)
  later-added [] cs ds h k = tt
  later-added (x ∷ xs) [] ds h k = k
  later-added (x ∷ xs) (c ∷ cs) [] h k = h
  later-added (x ∷ xs) (c ∷ cs) (d ∷ ds) h k = ((λ e. zeros-added xs cs ds (h.0 e) (k.0 e)), later-added xs cs ds h.1 k.1)

  later-multiple : (m : ℤ) (xs : List (List ℕ)) (cs : List ℤ) → Later xs cs → Later xs (map (λ a. m *ℤ a) cs)
  later-multiple m [] cs h = tt
  later-multiple m (x ∷ xs) [] h = tt
  later-multiple m (x ∷ xs) (c ∷ cs) h = ((λ e. zeros-multiple m xs cs (h.0 e)), later-multiple m xs cs h.1)

  later-unit : (xs : List (List ℕ)) (x : List ℕ) (us : List ℤ) → unit xs x ≡ Some us → Later xs us
  later-unit [] x us h = tt
  later-unit (z ∷ zs) x us h = by (bytes_eq z x) refl h (λ vs e. later-unit zs x vs e)
    where
      later : bytes_eq z x ≡ false → (o : Option (List ℤ)) → unit zs x ≡ o → with_zero o ≡ Some us
          → ((vs : List ℤ) → unit zs x ≡ Some vs → Later zs vs) → Later (z ∷ zs) us
      later n None e k more = absurd cc
      later n (Some vs) e k more =
          let same : pos 0 ∷ vs ≡ us = cc in
          subst (Later (z ∷ zs)) same ((λ g. zeros-unit zs x vs (other_byte x y z n g) e), more vs e)

      by : (b : Bool) → bytes_eq z x ≡ b → cond b (Some (pos 1 ∷ [])) (with_zero (unit zs x)) ≡ Some us
          → ((vs : List ℤ) → unit zs x ≡ Some vs → Later zs vs) → Later (z ∷ zs) us
      by true e k more =
          let same : pos 1 ∷ [] ≡ us = cc in
          subst (Later (z ∷ zs)) same ((λ g. zeros-nil zs), later-nil zs)
      by false e k more = later e (unit zs x) refl k more

  -- ---- so it is in each linear form

  module _ (loops : ℕ) (names : List (List ℕ)) where
    abbrev IsOnce : Form → Type 0
    IsOnce f = Later names f.coefficients

    once_node : (c : Option ℤ) (p : Option Form) (f : Form) → ((g : Form) → p ≡ Some g → IsOnce g) → limited loops (constant_or c p) ≡ Some f → IsOnce f
    once_node (Some z) p f more h =
        let found = limited-is loops (Some (constant_form z)) f h in
        let same : constant_form z ≡ f = cc in
        subst IsOnce same (later-nil names)
    once_node None p f more h = more f (limited-is loops p f h)

    no_form : (g : Form) → ◌≡◌ {A = Option Form} None (Some g) → IsOnce g
    no_form g h = absurd cc

    once_sign : (o : Op) (p : Option Form) (g : Form) → ((f : Form) → p ≡ Some f → IsOnce f) → form_of_sign o p ≡ Some g → IsOnce g
    once_sign Neg None g more h = absurd cc
    once_sign Neg (Some f) g more h =
        let same : multiple (negsuc 0) f ≡ g = cc in
        subst IsOnce same (later-multiple (negsuc 0) names f.coefficients (more f refl))
    once_sign o p g more h = absurd cc

    once_product : (k l : Option ℤ) (f i g : Form) → IsOnce f → IsOnce i → form_of_product k l f i ≡ Some g → IsOnce g
    once_product (Some m) l f i g p q h =
        let same : multiple m i ≡ g = cc in
        subst IsOnce same (later-multiple m names i.coefficients q)
    once_product None (Some m) f i g p q h =
        let same : multiple m f ≡ g = cc in
        subst IsOnce same (later-multiple m names f.coefficients p)
    once_product None None f i g p q h = absurd cc

    once_two : (o : Op) (k l : Option ℤ) (f i g : Form) → IsOnce f → IsOnce i → form_of_two o k l f i ≡ Some g → IsOnce g
    once_two Add k l f i g p q h =
        let same : sum f i ≡ g = cc in
        subst IsOnce same (later-added names f.coefficients i.coefficients p q)
    once_two Sub k l f i g p q h =
        let same : sum f (multiple (negsuc 0) i) ≡ g = cc in
        subst IsOnce same
        (later-added names f.coefficients (map (λ a. negsuc 0 *ℤ a) i.coefficients) p (later-multiple (negsuc 0) names i.coefficients q))
    once_two Mul k l f i g p q h = once_product k l f i g p q h
    once_two o k l f i g p q h = absurd cc

    once_pair : (o : Op) (k l : Option ℤ) (p q : Option Form) (g : Form) → ((f : Form) → p ≡ Some f → IsOnce f) → ((f : Form) → q ≡ Some f → IsOnce f)
        → form_of_pair o k l p q ≡ Some g → IsOnce g
    once_pair o k l None q g a b h = absurd cc
    once_pair o k l (Some f) None g a b h = absurd cc
    once_pair o k l (Some f) (Some i) g a b h = once_two o k l f i g (a f refl) (b i refl) h

    pub once_linear : (e : Expression) (f : Form) → linear loops names e ≡ Some f → IsOnce f
    once_linear (Number n) f h = once_node (constant_of (Number n)) None f no_form h
    once_linear (Logic b) f h = absurd cc
    once_linear (Named x (subscript p ps)) f h = no_form f (limited-is loops None f h)
    once_linear (Named x no_subscripts) f h = by (unit names x) refl (limited-is loops (with_no_constant (unit names x)) f h)
      where
        by : (o : Option (List ℤ)) → unit names x ≡ o → with_no_constant o ≡ Some f → IsOnce f
        by None e k = absurd cc
        by (Some us) e k =
            let g : Form = record { coefficients = us; constant = pos 0 } in
            let same : g ≡ f = cc in
            subst IsOnce same (later-unit names x us e)
    once_linear (Unary o a) f h =
        once_node (constant_of (Unary o a)) (form_of_sign o (linear loops names a)) f
        (λ g e. once_sign o (linear loops names a) g (λ k i. once_linear a k i) e) h
    once_linear (Binary o a b) f h =
        once_node (constant_of (Binary o a b)) (form_of_pair o (constant_of a) (constant_of b) (linear loops names a) (linear loops names b)) f
        (λ g e. once_pair o (constant_of a) (constant_of b) (linear loops names a) (linear loops names b) g
        (λ k i. once_linear a k i) (λ k i. once_linear b k i) e) h
    once_linear (Apply c es) f h = once_node (constant_of (Apply c es)) None f no_form h
    once_linear (Constructor es ls) f h = absurd cc
    once_linear (Spread a k b) f h = absurd cc
    once_linear (Transpose a) f h = absurd cc
    once_linear (Reshape a es) f h = absurd cc
    once_linear (Reduce r a) f h = absurd cc
