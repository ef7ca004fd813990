-- The canonical text of a form keeps the value of the expression, where it has one.
use Rattle.std.proofs.Common.{◌≡◌, refl, sym, ap, ◌∙◌, subst, ℕ, zero, suc, ◌^◌, ◌≤◌, ℤ, pos, negsuc, ◌+ℤ◌, ◌-ℤ◌, ◌*ℤ◌, neg_ℤ, Bool, true, false, cond, List, [], ◌∷◌, ◌++◌, map, length, Result, Ok, Option, Some, None, arith}
use Rattle.std.specs.Prelude.{nat_abs, nat_le}
use Rattle.std.specs.Str.{bytes_eq}
use Rattle.std.proofs.lemmas.Bool.{leb-true}
use Rattle.std.proofs.lemmas.Int.{ints}
use Rattle.std.proofs.lemmas.Slice.Eq.{bytes_eq-Decides}
use Rattle.std.proofs.Math.IntN.{*ℤ_comm, *ℤ-zero, +ℤ_idl, zero-*ℤ}
use mathlib.Core.Path.{ap₂}
use Rattle.tree.specs.Operators.{apply}
use Rattle.tree.specs.Steps.{◌>>=◌}
use Rattle.tree.specs.declared.ops.Op.{Op}
use Rattle.tree.specs.declared.ops.Op.TheVariants.{Mul, Neg, Add, Sub}
use Rattle.tree.specs.declared.ops.Fault.{Fault}
use Rattle.tree.specs.declared.ops.Value.{Value}
use Rattle.tree.specs.declared.ops.Value.TheVariants.{Int, Truth}
use Rattle.tree.specs.Plain.{Expression, Number, Logic, Named, Unary, Binary, Apply, Constructor, Spread, Transpose, Reshape, Reduce, Subscripts, no_subscripts, subscript}
use Rattle.meaning.specs.Dialect.{Dialect, fortran77}
use Rattle.tree.specs.declared.width.Width.TheVariants.{Plain}
use Rattle.meaning.specs.Store.{Store, Cell, cell_in}
use Rattle.meaning.specs.Value.{value_of}
use Rattle.linear_forms.proofs.Parts.{parted}
use Rattle.linear_forms.specs.Laws.{AreSized, HoldsSized, TextKeepsValue}
use Rattle.linear_forms.specs.Linear.{Form, weighted, number_at, added, sum, multiple, constant_form, is_limited, no_store, constant_of, unit, with_zero, with_no_constant, form_of_name, form_of_sign, form_of_product, form_of_two, form_of_pair, constant_or, linear}
use Rattle.linear_forms.specs.Expressed.{expressed, with_terms, with_constant, variable, variables}
use Rattle.linear_forms.proofs.LinearLaws.{number_at-sum, number_at-multiple, minus, limited-is, as_constant-is, number-is}
use Rattle.linear_forms.proofs.Storeless.{storeless}
use Rattle.linear_forms.proofs.Faultless.{limited-holds}
use Rattle.linear_forms.proofs.Expressed.{EachIsWhere, expressed_is_number}

-- ---- the text of a name by itself is the name

pub unit_text : (ys : List (List ℕ)) (x : List ℕ) (cs : List ℤ) → unit ys x ≡ Some cs → with_terms None cs (variables ys) ≡ Some (variable x)
unit_text [] x cs e = cc
unit_text (y ∷ ys) x cs e = by (unit_text ys x) (bytes_eq y x) refl e
  where
    later : ((ds : List ℤ) → unit ys x ≡ Some ds → with_terms None ds (variables ys) ≡ Some (variable x)) → (o : Option (List ℤ)) → unit ys x ≡ o → with_zero o ≡ Some cs → with_terms None cs (variables (y ∷ ys)) ≡ Some (variable x)
    later more (Some ds) g k =
        let same : pos 0 ∷ ds ≡ cs = cc in
        ap (λ (cs : List ℤ). with_terms None cs (variables (y ∷ ys))) (sym same) ∙ more ds g
    later more None g k = cc

    by : ((ds : List ℤ) → unit ys x ≡ Some ds → with_terms None ds (variables ys) ≡ Some (variable x)) → (b : Bool) → bytes_eq y x ≡ b → cond b (Some (pos 1 ∷ [])) (with_zero (unit ys x)) ≡ Some cs
        → with_terms None cs (variables (y ∷ ys)) ≡ Some (variable x)
    by more true g k =
        let same : pos 1 ∷ [] ≡ cs = cc in
        ap (λ (cs : List ℤ). with_terms None cs (variables (y ∷ ys))) (sym same) ∙ ap (λ x. Some (variable x)) ((bytes_eq-Decides y x).0 g)
    by more false g k = later more (unit ys x) refl k

pub name_text : (loops : ℕ) (names : List (List ℕ)) (x : List ℕ) (ps : Subscripts) (f : Form) → linear loops names (Named x ps) ≡ Some f → expressed (variables names) f ≡ Named x ps
name_text loops names x no_subscripts f h = by (unit names x) refl (limited-is loops (with_no_constant (unit names x)) f h)
  where
    by : (o : Option (List ℤ)) → unit names x ≡ o → with_no_constant o ≡ Some f → expressed (variables names) f ≡ variable x
    by (Some cs) g k =
        let same : ◌≡◌ {A = Form} (record { coefficients = cs; constant = pos 0 }) f = cc in
        ap (expressed (variables names)) (sym same) ∙ ap (λ (o : Option Expression). with_constant o (pos 0)) (unit_text names x cs g)
    by None g k = cc
name_text loops names x (subscript p ps) f h = let e = limited-is loops None f h in cc

-- ---- a form is within its limits

module _ (loops : ℕ) (names : List (List ℕ)) where
  pub text_limited : (e : Expression) (f : Form) → linear loops names e ≡ Some f → is_limited loops f ≡ true
  text_limited (Number n) f h = limited-holds loops (constant_or (constant_of (Number n)) None) f h
  text_limited (Logic b) f h = cc
  text_limited (Named x ps) f h = limited-holds loops (form_of_name names x ps) f h
  text_limited (Unary o a) f h = limited-holds loops (constant_or (constant_of (Unary o a)) (form_of_sign o (linear loops names a))) f h
  text_limited (Binary o a b) f h = limited-holds loops (constant_or (constant_of (Binary o a b)) (form_of_pair o (constant_of a) (constant_of b) (linear loops names a) (linear loops names b))) f h
  text_limited (Apply c es) f h = limited-holds loops (constant_or (constant_of (Apply c es)) None) f h
  text_limited (Constructor es ls) f h = cc
  text_limited (Spread a i b) f h = cc
  text_limited (Transpose a) f h = cc
  text_limited (Reshape a es) f h = cc
  text_limited (Reduce r a) f h = cc

-- ---- what an operation takes and gives

record Takes (x y : Value) : Type 0 where
  first : ℤ
  second : ℤ
  left : x ≡ Int first
  right : y ≡ Int second

takes_two : (o : Op) (k l : Option ℤ) (f g h : Form) (x y v : Value) → form_of_two o k l f g ≡ Some h → apply o x y ≡ Ok v → Takes x y
takes_two o k l f g h (Int p) (Int q) v e a = record { first = p; second = q; left = refl; right = refl }
takes_two Add k l f g h (Int p) (Truth b) v e a = cc
takes_two Sub k l f g h (Int p) (Truth b) v e a = cc
takes_two Mul k l f g h (Int p) (Truth b) v e a = cc
takes_two o k l f g h (Int p) (Truth b) v e a = cc
takes_two Add k l f g h (Truth b) (Int q) v e a = cc
takes_two Sub k l f g h (Truth b) (Int q) v e a = cc
takes_two Mul k l f g h (Truth b) (Int q) v e a = cc
takes_two o k l f g h (Truth b) (Int q) v e a = cc
takes_two Add k l f g h (Truth b) (Truth c) v e a = cc
takes_two Sub k l f g h (Truth b) (Truth c) v e a = cc
takes_two Mul k l f g h (Truth b) (Truth c) v e a = cc
takes_two o k l f g h (Truth b) (Truth c) v e a = cc

int-is : (p q : ℤ) → Int p ≡ Int q → p ≡ q
int-is p q h = cc

-- ---- names that have a value, where their coefficients aren't 0

abbrev as_number : Value → ℤ
as_number (Int z) = z
as_number (Truth b) = pos 0

module _ (lang : Dialect) (s : Store) (sized : HoldsSized s) where
  abbrev alone : List ℕ → Cell
  alone x = record { name = x; subscripts = [] }

  abbrev number_in : List ℕ → ℤ
  number_in x = as_number (s.held (alone x))

  abbrev numbers : List (List ℕ) → List ℤ
  numbers ys = map number_in ys

  number-sized : (v : Value) (c : Cell) → s.held c ≡ v → nat_abs (as_number v) ≤ 2 ^ 63
  number-sized (Int z) c e = sized c z e
  number-sized (Truth b) c e = omega arith

  all-sized : (ys : List (List ℕ)) → AreSized (numbers ys)
  all-sized [] = tt
  all-sized (y ∷ ys) = (number-sized (s.held (alone y)) (alone y) refl, all-sized ys)

  record IsScalar (x : List ℕ) : Type 0 where
    bounds : s.bounds x ≡ Some []
    held : s.held (alone x) ≡ Int (number_in x)

  abbrev Covered : List ℤ → List (List ℕ) → Type 0
  Covered [] ys = Unit {0}
  Covered (c ∷ cs) [] = Unit {0}
  Covered (c ∷ cs) (y ∷ ys) = ((c ≡ pos 0 → ⊥) → IsScalar y) × Covered cs ys

  -- one of two terms isn't 0 where their sum isn't
  one_isnt : (a b : ℤ) (y : List ℕ) → ((a ≡ pos 0 → ⊥) → IsScalar y) → ((b ≡ pos 0 → ⊥) → IsScalar y) → (a +ℤ b ≡ pos 0 → ⊥) → IsScalar y
  one_isnt (pos zero) b y f g n = g (λ e. n (ap (λ b. pos 0 +ℤ b) e))
  one_isnt (pos (suc k)) b y f g n = f (λ e. cc)
  one_isnt (negsuc k) b y f g n = f (λ e. cc)

  covered-added : (cs ds : List ℤ) (ys : List (List ℕ)) → Covered cs ys → Covered ds ys → Covered (added cs ds) ys
  covered-added [] ds ys h k = k
  covered-added (c ∷ cs) [] ys h k = h
  covered-added (c ∷ cs) (d ∷ ds) [] h k = tt
  covered-added (c ∷ cs) (d ∷ ds) (y ∷ ys) h k = (one_isnt c d y h.0 k.0, covered-added cs ds ys h.1 k.1)

  covered-multiple : (n : ℤ) (cs : List ℤ) (ys : List (List ℕ)) → Covered cs ys → Covered (map (λ a. n *ℤ a) cs) ys
  covered-multiple n [] ys h = tt
  covered-multiple n (c ∷ cs) [] h = tt
  covered-multiple n (c ∷ cs) (y ∷ ys) h = (λ k. h.0 (λ e. k (ap (λ c. n *ℤ c) e ∙ *ℤ-zero n)), covered-multiple n cs ys h.1)

  where_covered : (cs : List ℤ) (ys : List (List ℕ)) → Covered cs ys → EachIsWhere lang s cs (variables ys) (numbers ys)
  where_covered [] ys h = tt
  where_covered (c ∷ cs) [] h = tt
  where_covered (c ∷ cs) (y ∷ ys) h = (λ n. let one = h.0 n in ap (λ b. do c ← cell_in b y []; Ok (s.held c)) one.bounds ∙ ap Ok one.held, where_covered cs ys h.1)

  -- ---- a name by itself

  record UnitIs (ys : List (List ℕ)) (x : List ℕ) (cs : List ℤ) : Type 0 where
    value : weighted cs (numbers ys) ≡ number_in x
    covered : Covered cs ys

  unit-is : (ys : List (List ℕ)) (x : List ℕ) (cs : List ℤ) → IsScalar x → unit ys x ≡ Some cs → UnitIs ys x cs
  unit-is [] x cs i e = cc
  unit-is (y ∷ ys) x cs i e = by (λ ds g. unit-is ys x ds i g) (bytes_eq y x) refl e
    where
      later : ((ds : List ℤ) → unit ys x ≡ Some ds → UnitIs ys x ds) → (o : Option (List ℤ)) → unit ys x ≡ o → with_zero o ≡ Some cs → UnitIs (y ∷ ys) x cs
      later next (Some ds) g k =
          let more = next ds g in
          let same : pos 0 ∷ ds ≡ cs = cc in
          subst (UnitIs (y ∷ ys) x) same (record {
            value = ap (λ z. z +ℤ weighted ds (numbers ys)) (zero-*ℤ (number_in y)) ∙ (+ℤ_idl (weighted ds (numbers ys)) ∙ more.value);
            covered = (λ n. absurd (n refl), more.covered);
          })
      later next None g k = cc

      by : ((ds : List ℤ) → unit ys x ≡ Some ds → UnitIs ys x ds) → (b : Bool) → bytes_eq y x ≡ b → cond b (Some (pos 1 ∷ [])) (with_zero (unit ys x)) ≡ Some cs → UnitIs (y ∷ ys) x cs
      by next true g k =
          let named = (bytes_eq-Decides y x).0 g in
          let same : pos 1 ∷ [] ≡ cs = cc in
          let one : pos 1 *ℤ number_in y +ℤ pos 0 ≡ number_in y = omega (arith, ints) in
          subst (UnitIs (y ∷ ys) x) same (record { value = one ∙ ap number_in named; covered = (λ n. subst IsScalar (sym named) i, tt) })
      by next false g k = later next (unit ys x) refl k

  scalar_named : (x : List ℕ) (z : ℤ) → value_of lang (Named x no_subscripts) s ≡ Ok (Int z) → IsScalar x
  scalar_named x z e = by (s.bounds x) refl e
    where
      by : (b : Option (List (ℤ × ℤ))) → s.bounds x ≡ b → ◌≡◌ {A = Result Value Fault} (do c ← cell_in b x []; Ok (s.held c)) (Ok (Int z)) → IsScalar x
      by (Some []) g k =
          let is : s.held (alone x) ≡ Int z = cc in
          record { bounds = g; held = is ∙ ap Int (sym (ap as_number is)) }
      by (Some (b ∷ bs)) g k = cc
      by None g k = cc

  -- ---- all expressions

  module _ (loops : ℕ) (names : List (List ℕ)) where
    record IsNumberOf (f : Form) (z : ℤ) : Type 0 where
      value : z ≡ number_at f (numbers names)
      covered : Covered f.coefficients names

    abbrev IsFormed : Expression → Type 0
    IsFormed e = (f : Form) (z : ℤ) → linear loops names e ≡ Some f → value_of lang e s ≡ Ok (Int z) → IsNumberOf f z

    constant-is : (e : Expression) (k z : ℤ) → constant_of e ≡ Some k → value_of lang e s ≡ Ok (Int z) → z ≡ k
    constant-is e k z h v = let w = storeless lang s e (Int k) (as_constant-is (value_of (fortran77 Plain) e no_store) k h) in let e = sym v ∙ w in cc

    constant_formed : (e : Expression) (k z : ℤ) (f : Form) → constant_of e ≡ Some k → Some (constant_form k) ≡ Some f → value_of lang e s ≡ Ok (Int z) → IsNumberOf f z
    constant_formed e k z f h g v =
        let same : constant_form k ≡ f = cc in
        subst (λ (f : Form). IsNumberOf f z) same (record { value = constant-is e k z h v ∙ sym (+ℤ_idl k); covered = tt })

    only_constant : (e : Expression) (f : Form) (z : ℤ) (o : Option ℤ) → constant_of e ≡ o → constant_or o None ≡ Some f → value_of lang e s ≡ Ok (Int z) → IsNumberOf f z
    only_constant e f z (Some k) g h v = constant_formed e k z f g h v
    only_constant e f z None g h v = cc

    name_formed : (x : List ℕ) (ps : Subscripts) (f : Form) (z : ℤ) → form_of_name names x ps ≡ Some f → value_of lang (Named x ps) s ≡ Ok (Int z) → IsNumberOf f z
    name_formed x no_subscripts f z h v = by (unit names x) refl h
      where
        by : (o : Option (List ℤ)) → unit names x ≡ o → with_no_constant o ≡ Some f → IsNumberOf f z
        by (Some cs) g k =
            let i = scalar_named x z v in
            let u = unit-is names x cs i g in
            let same : ◌≡◌ {A = Form} (record { coefficients = cs; constant = pos 0 }) f = cc in
            let is : z ≡ number_in x =
            (let w = sym v ∙ (ap (λ b. do c ← cell_in b x []; Ok (s.held c)) i.bounds ∙ ap Ok i.held) in cc) in
            let whole : weighted cs (numbers names) ≡ weighted cs (numbers names) +ℤ pos 0 = omega (arith, ints) in
            subst (λ (f : Form). IsNumberOf f z) same (record { value = is ∙ (sym u.value ∙ whole); covered = u.covered })
        by None g k = cc
    name_formed x (subscript p ps) f z h v = cc

    sign_formed : (o : Op) (q : Option Form) (f : Form) (x : Value) (z : ℤ) → form_of_sign o q ≡ Some f
        → ((g : Form) (y : ℤ) → q ≡ Some g → x ≡ Int y → IsNumberOf g y) → apply o x x ≡ Ok (Int z) → IsNumberOf f z
    sign_formed Neg (Some g) f (Int y) z h k e =
        let same : multiple (negsuc 0) g ≡ f = cc in
        let one = k g y refl refl in
        let is = int-is z (neg_ℤ y) (number-is (neg_ℤ y) (Int z) e) in
        subst (λ (f : Form). IsNumberOf f z) same (record {
          value = is ∙ (ap neg_ℤ one.value ∙ sym (number_at-multiple (negsuc 0) g (numbers names) ∙ minus (number_at g (numbers names))));
          covered = covered-multiple (negsuc 0) g.coefficients names one.covered;
        })
    sign_formed Neg (Some g) f (Truth b) z h k e = cc
    sign_formed Neg None f x z h k e = cc
    sign_formed o q f x z h k e = cc

    product_formed : (k l : Option ℤ) (f g h : Form) (p q z : ℤ) → ((n : ℤ) → k ≡ Some n → p ≡ n) → ((n : ℤ) → l ≡ Some n → q ≡ n)
        → form_of_product k l f g ≡ Some h → IsNumberOf f p → IsNumberOf g q → z ≡ p *ℤ q → IsNumberOf h z
    product_formed (Some n) l f g h p q z a b e i j c =
        let same : multiple n g ≡ h = cc in
        subst (λ (f : Form). IsNumberOf f z) same (record {
          value = c ∙ (ap₂ (λ p q. p *ℤ q) (a n refl) j.value ∙ sym (number_at-multiple n g (numbers names)));
          covered = covered-multiple n g.coefficients names j.covered;
        })
    product_formed None (Some n) f g h p q z a b e i j c =
        let same : multiple n f ≡ h = cc in
        subst (λ (f : Form). IsNumberOf f z) same (record {
          value = c ∙ (*ℤ_comm p q ∙ (ap₂ (λ p q. p *ℤ q) (b n refl) i.value ∙ sym (number_at-multiple n f (numbers names))));
          covered = covered-multiple n f.coefficients names i.covered;
        })
    product_formed None None f g h p q z a b e i j c = cc

    two_formed : (o : Op) (k l : Option ℤ) (f g h : Form) (p q z : ℤ) → ((n : ℤ) → k ≡ Some n → p ≡ n) → ((n : ℤ) → l ≡ Some n → q ≡ n)
        → form_of_two o k l f g ≡ Some h → IsNumberOf f p → IsNumberOf g q → apply o (Int p) (Int q) ≡ Ok (Int z) → IsNumberOf h z
    two_formed Add k l f g h p q z a b e i j c =
        let same : sum f g ≡ h = cc in
        subst (λ (f : Form). IsNumberOf f z) same (record {
          value = int-is z (p +ℤ q) (number-is (p +ℤ q) (Int z) c) ∙ (ap₂ (λ p q. p +ℤ q) i.value j.value ∙ sym (number_at-sum f g (numbers names)));
          covered = covered-added f.coefficients g.coefficients names i.covered j.covered;
        })
    two_formed Sub k l f g h p q z a b e i j c =
        let same : sum f (multiple (negsuc 0) g) ≡ h = cc in
        subst (λ (f : Form). IsNumberOf f z) same (record {
          value = int-is z (p -ℤ q) (number-is (p -ℤ q) (Int z) c)
              ∙ (ap₂ (λ p q. p -ℤ q) i.value j.value
              ∙ (ap (λ z. number_at f (numbers names) +ℤ z) (sym (number_at-multiple (negsuc 0) g (numbers names) ∙ minus (number_at g (numbers names))))
              ∙ sym (number_at-sum f (multiple (negsuc 0) g) (numbers names))));
          covered = covered-added f.coefficients (map (λ a. negsuc 0 *ℤ a) g.coefficients) names i.covered (covered-multiple (negsuc 0) g.coefficients names j.covered);
        })
    two_formed Mul k l f g h p q z a b e i j c = product_formed k l f g h p q z a b e i j (int-is z (p *ℤ q) (number-is (p *ℤ q) (Int z) c))
    two_formed o k l f g h p q z a b e i j c = cc

    unary_formed : (o : Op) (a : Expression) → IsFormed a → (f : Form) (z : ℤ) → value_of lang (Unary o a) s ≡ Ok (Int z) → (c : Option ℤ) → constant_of (Unary o a) ≡ c
        → constant_or c (form_of_sign o (linear loops names a)) ≡ Some f → IsNumberOf f z
    unary_formed o a more f z v (Some k) g e = constant_formed (Unary o a) k z f g e v
    unary_formed o a more f z v None g e =
        let p = parted (value_of lang a s) (λ x. apply o x x) (Int z) v in
        sign_formed o (linear loops names a) f p.part z e (λ g y i j. more g y i (p.first ∙ ap Ok j)) p.second

    pair_formed : (o : Op) (a b : Expression) → IsFormed a → IsFormed b → (f : Form) (z : ℤ) → value_of lang (Binary o a b) s ≡ Ok (Int z) → (q r : Option Form) → linear loops names a ≡ q → linear loops names b ≡ r
        → form_of_pair o (constant_of a) (constant_of b) q r ≡ Some f → IsNumberOf f z
    pair_formed o a b left right f z v (Some f1) (Some g1) i j e =
        let p = parted (value_of lang a s) (λ x. do y ← value_of lang b s; apply o x y) (Int z) v in
        let q = parted (value_of lang b s) (λ y. apply o p.part y) (Int z) p.second in
        let t = takes_two o (constant_of a) (constant_of b) f1 g1 f p.part q.part (Int z) e q.second in
        let one = p.first ∙ ap Ok t.left in
        let two = q.first ∙ ap Ok t.right in
        two_formed o (constant_of a) (constant_of b) f1 g1 f t.first t.second z
        (λ n h. constant-is a n t.first h one) (λ n h. constant-is b n t.second h two) e (left f1 t.first i one) (right g1 t.second j two)
        (ap₂ (λ x y. apply o x y) (sym t.left) (sym t.right) ∙ q.second)
    pair_formed o a b left right f z v (Some f1) None i j e = cc
    pair_formed o a b left right f z v None r i j e = cc

    binary_formed : (o : Op) (a b : Expression) → IsFormed a → IsFormed b → (f : Form) (z : ℤ) → value_of lang (Binary o a b) s ≡ Ok (Int z) → (c : Option ℤ) → constant_of (Binary o a b) ≡ c
        → constant_or c (form_of_pair o (constant_of a) (constant_of b) (linear loops names a) (linear loops names b)) ≡ Some f → IsNumberOf f z
    binary_formed o a b left right f z v (Some k) g e = constant_formed (Binary o a b) k z f g e v
    binary_formed o a b left right f z v None g e = pair_formed o a b left right f z v (linear loops names a) (linear loops names b) refl refl e

    formed : (e : Expression) → IsFormed e
    formed (Number n) f z h v = only_constant (Number n) f z (constant_of (Number n)) refl (limited-is loops _ f h) v
    formed (Logic b) f z h v = cc
    formed (Named x ps) f z h v = name_formed x ps f z (limited-is loops _ f h) v
    formed (Unary o a) f z h v = unary_formed o a (formed a) f z v (constant_of (Unary o a)) refl (limited-is loops _ f h)
    formed (Binary o a b) f z h v = binary_formed o a b (formed a) (formed b) f z v (constant_of (Binary o a b)) refl (limited-is loops _ f h)
    formed (Apply c es) f z h v = only_constant (Apply c es) f z (constant_of (Apply c es)) refl (limited-is loops _ f h) v
    formed (Constructor es ls) f z h v = cc
    formed (Spread a i b) f z h v = cc
    formed (Transpose a) f z h v = cc
    formed (Reshape a es) f z h v = cc
    formed (Reduce r a) f z h v = cc

    -- ---- a truth value is that of a name by itself

    not_truth : (o : Op) (k l : Option ℤ) (f g h : Form) (p q : ℤ) (b : Bool) → form_of_two o k l f g ≡ Some h → apply o (Int p) (Int q) ≡ Ok (Truth b) → ⊥
    not_truth Add k l f g h p q b e c = let is = number-is (p +ℤ q) (Truth b) c in cc
    not_truth Sub k l f g h p q b e c = let is = number-is (p -ℤ q) (Truth b) c in cc
    not_truth Mul k l f g h p q b e c = let is = number-is (p *ℤ q) (Truth b) c in cc
    not_truth o k l f g h p q b e c = cc

    sign_not_truth : (o : Op) (q : Option Form) (f : Form) (x : Value) (b : Bool) → form_of_sign o q ≡ Some f → apply o x x ≡ Ok (Truth b) → ⊥
    sign_not_truth Neg (Some g) f (Int y) b h e = let is = number-is (neg_ℤ y) (Truth b) e in cc
    sign_not_truth Neg (Some g) f (Truth c) b h e = cc
    sign_not_truth Neg None f x b h e = cc
    sign_not_truth o q f x b h e = cc

    constant_not_truth : (e : Expression) (k : ℤ) (b : Bool) → constant_of e ≡ Some k → value_of lang e s ≡ Ok (Truth b) → ⊥
    constant_not_truth e k b h v = let w = storeless lang s e (Int k) (as_constant-is (value_of (fortran77 Plain) e no_store) k h) in let e = sym v ∙ w in cc

    only_constant_not_truth : (e : Expression) (f : Form) (b : Bool) (o : Option ℤ) → constant_of e ≡ o → constant_or o None ≡ Some f → value_of lang e s ≡ Ok (Truth b) → ⊥
    only_constant_not_truth e f b (Some k) g h v = constant_not_truth e k b g v
    only_constant_not_truth e f b None g h v = cc

    unary_not_truth : (o : Op) (a : Expression) (f : Form) (b : Bool) → value_of lang (Unary o a) s ≡ Ok (Truth b) → (c : Option ℤ) → constant_of (Unary o a) ≡ c
        → constant_or c (form_of_sign o (linear loops names a)) ≡ Some f → ⊥
    unary_not_truth o a f b v (Some k) g e = constant_not_truth (Unary o a) k b g v
    unary_not_truth o a f b v None g e =
        let p = parted (value_of lang a s) (λ x. apply o x x) (Truth b) v in
        sign_not_truth o (linear loops names a) f p.part b e p.second

    pair_not_truth : (o : Op) (a b : Expression) (f : Form) (t : Bool) → value_of lang (Binary o a b) s ≡ Ok (Truth t) → (q r : Option Form)
        → form_of_pair o (constant_of a) (constant_of b) q r ≡ Some f → ⊥
    pair_not_truth o a b f t v (Some f1) (Some g1) e =
        let p = parted (value_of lang a s) (λ x. do y ← value_of lang b s; apply o x y) (Truth t) v in
        let q = parted (value_of lang b s) (λ y. apply o p.part y) (Truth t) p.second in
        let u = takes_two o (constant_of a) (constant_of b) f1 g1 f p.part q.part (Truth t) e q.second in
        not_truth o (constant_of a) (constant_of b) f1 g1 f u.first u.second t e (ap₂ (λ x y. apply o x y) (sym u.left) (sym u.right) ∙ q.second)
    pair_not_truth o a b f t v (Some f1) None e = cc
    pair_not_truth o a b f t v None r e = cc

    binary_not_truth : (o : Op) (a b : Expression) (f : Form) (t : Bool) → value_of lang (Binary o a b) s ≡ Ok (Truth t) → (c : Option ℤ) → constant_of (Binary o a b) ≡ c
        → constant_or c (form_of_pair o (constant_of a) (constant_of b) (linear loops names a) (linear loops names b)) ≡ Some f → ⊥
    binary_not_truth o a b f t v (Some k) g e = constant_not_truth (Binary o a b) k t g v
    binary_not_truth o a b f t v None g e = pair_not_truth o a b f t v (linear loops names a) (linear loops names b) e

    truth_text : (e : Expression) (f : Form) (b : Bool) → linear loops names e ≡ Some f → value_of lang e s ≡ Ok (Truth b) → value_of lang (expressed (variables names) f) s ≡ Ok (Truth b)
    truth_text (Number n) f b h v = cc
    truth_text (Logic t) f b h v = cc
    truth_text (Named x ps) f b h v = ap (λ (e : Expression). value_of lang e s) (name_text loops names x ps f h) ∙ v
    truth_text (Unary o a) f b h v = absurd (unary_not_truth o a f b v (constant_of (Unary o a)) refl (limited-is loops _ f h))
    truth_text (Binary o a c) f b h v = absurd (binary_not_truth o a c f b v (constant_of (Binary o a c)) refl (limited-is loops _ f h))
    truth_text (Apply c es) f b h v = absurd (only_constant_not_truth (Apply c es) f b (constant_of (Apply c es)) refl (limited-is loops _ f h) v)
    truth_text (Constructor es ls) f b h v = cc
    truth_text (Spread a i c) f b h v = cc
    truth_text (Transpose a) f b h v = cc
    truth_text (Reshape a es) f b h v = cc
    truth_text (Reduce r a) f b h v = cc

    kept : loops ≤ 7 → (e : Expression) (f : Form) (v : Value) → linear loops names e ≡ Some f → value_of lang e s ≡ Ok v → value_of lang (expressed (variables names) f) s ≡ Ok v
    kept few e f (Truth b) h v = truth_text e f b h v
    kept few e f (Int z) h v =
        let is = formed e f z h v in
        expressed_is_number lang s loops few (variables names) f (numbers names) (text_limited loops names e f h) (where_covered f.coefficients names is.covered) (all-sized names)
        ∙ ap (λ z. Ok (Int z)) (sym is.value)

pub text_keeps_value : TextKeepsValue
text_keeps_value lang loops symbols e f s v h sized k = by (nat_le (length loops) 7) refl h
  where
    by : (b : Bool) → nat_le (length loops) 7 ≡ b → cond b (linear (length loops) (loops ++ symbols) e) None ≡ Some f
        → value_of lang (expressed (variables (loops ++ symbols)) f) s ≡ Ok v
    by true n g = kept lang s sized (length loops) (loops ++ symbols) (leb-true (length loops) 7 n) e f v g k
    by false n g = cc
