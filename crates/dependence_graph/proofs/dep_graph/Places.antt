-- A linear form has a coefficient for each place at most.
use Rattle.std.proofs.Common.{◌≡◌, ℕ, zero, suc, ◌+◌, ◌≤◌, refl, sym, ap, ◌∙◌, subst, arith, Option, Some, None, Bool, true, false, cond, List, [], ◌∷◌, ◌++◌, length, map, leb}
use Rattle.std.specs.Prelude.{ℤ, pos, negsuc, ◌*ℤ◌, nat_le}
use Rattle.std.specs.Str.{bytes_eq}
use Rattle.std.proofs.lemmas.List.{length-map}
use Rattle.tree.specs.Limits.{nest_depth}
use Rattle.tree.specs.Plain.{Expression, Number, Logic, Named, Unary, Binary, Apply, Constructor, Spread, Transpose, Reshape, Reduce, Subscripts, no_subscripts, subscript}
use Rattle.tree.specs.declared.ops.Op.{Op}
use Rattle.tree.specs.declared.ops.Op.TheVariants.{Neg, Add, Sub, Mul}
use Rattle.linear_forms.specs.Linear.{Form, added, constant_form, constant_of, constant_or, form_of, form_of_name, form_of_pair, form_of_product, form_of_sign, form_of_two, linear, limited, multiple, sum, unit, with_no_constant, with_zero}
use Rattle.linear_forms.proofs.LinearLaws.{limited-is}

module _ (n : ℕ) where
  abbrev IsShort : Form → Type 0
  IsShort f = length f.coefficients ≤ n

  added_short : (cs ds : List ℤ) → length cs ≤ n → length ds ≤ n → length (added cs ds) ≤ n
  added_short cs ds h k = both cs ds n h k
    where
      both : (as' bs : List ℤ) (m : ℕ) → length as' ≤ m → length bs ≤ m → length (added as' bs) ≤ m
      both [] bs m h k = k
      both (a ∷ as') [] m h k = h
      both (a ∷ as') (b ∷ bs) zero h k = omega arith
      both (a ∷ as') (b ∷ bs) (suc m) h k = let e = both as' bs m (omega arith) (omega arith) in omega arith

  multiple_short : (z : ℤ) (f : Form) → IsShort f → IsShort (multiple z f)
  multiple_short z f h = subst (λ m. m ≤ n) (sym (length-map f.coefficients (λ a. z *ℤ a))) h

  sum_short : (f g : Form) → IsShort f → IsShort g → IsShort (sum f g)
  sum_short f g h k = added_short f.coefficients g.coefficients h k

  some_short : (o : Option Form) (f g : Form) → o ≡ Some f → o ≡ Some g → IsShort f → IsShort g
  some_short o f g e h k = let s : Some f ≡ Some g = sym e ∙ h in let t : f ≡ g = cc in subst IsShort t k

  sign_short : (o : Op) (p : Option Form) (f : Form) → ((g : Form) → p ≡ Some g → IsShort g) → form_of_sign o p ≡ Some f → IsShort f
  sign_short Neg (Some g) f h e = some_short (Some (multiple (negsuc 0) g)) (multiple (negsuc 0) g) f refl e (multiple_short (negsuc 0) g (h g refl))
  sign_short o p f h e = cc

  product_short : (k l : Option ℤ) (f g h : Form) → IsShort f → IsShort g → form_of_product k l f g ≡ Some h → IsShort h
  product_short (Some z) l f g h a b e = some_short (Some (multiple z g)) (multiple z g) h refl e (multiple_short z g b)
  product_short None (Some z) f g h a b e = some_short (Some (multiple z f)) (multiple z f) h refl e (multiple_short z f a)
  product_short None None f g h a b e = cc

  two_short : (o : Op) (k l : Option ℤ) (f g h : Form) → IsShort f → IsShort g → form_of_two o k l f g ≡ Some h → IsShort h
  two_short Add k l f g h a b e = some_short (Some (sum f g)) (sum f g) h refl e (sum_short f g a b)
  two_short Sub k l f g h a b e = some_short (Some (sum f (multiple (negsuc 0) g))) (sum f (multiple (negsuc 0) g)) h refl e (sum_short f (multiple (negsuc 0) g) a (multiple_short (negsuc 0) g b))
  two_short Mul k l f g h a b e = product_short k l f g h a b e
  two_short o k l f g h a b e = cc

  pair_short : (o : Op) (k l : Option ℤ) (p q : Option Form) (h : Form) → ((f : Form) → p ≡ Some f → IsShort f) → ((g : Form) → q ≡ Some g → IsShort g)
      → form_of_pair o k l p q ≡ Some h → IsShort h
  pair_short o k l (Some f) (Some g) h a b e = two_short o k l f g h (a f refl) (b g refl) e
  pair_short o k l (Some f) None h a b e = cc
  pair_short o k l None q h a b e = cc

  constant_short : (c : Option ℤ) (o : Option Form) (f : Form) → ((g : Form) → o ≡ Some g → IsShort g) → constant_or c o ≡ Some f → IsShort f
  constant_short (Some z) o f h e = some_short (Some (constant_form z)) (constant_form z) f refl e (omega arith)
  constant_short None o f h e = h f e

unit_short : (names : List (List ℕ)) (x : List ℕ) (cs : List ℤ) → unit names x ≡ Some cs → length cs ≤ length names
unit_short [] x cs e = cc
unit_short (y ∷ ys) x cs e = by (bytes_eq y x) e (λ ds f. unit_short ys x ds f)
  where
    then : (o : Option (List ℤ)) → unit ys x ≡ o → with_zero o ≡ Some cs → ((ds : List ℤ) → unit ys x ≡ Some ds → length ds ≤ length ys) → length cs ≤ suc (length ys)
    then None f g rest = cc
    then (Some ds) f g rest = let s : pos 0 ∷ ds ≡ cs = cc in let l = rest ds f in subst (λ (es : List ℤ). length es ≤ suc (length ys)) s (omega arith)

    by : (b : Bool) → cond b (Some (pos 1 ∷ [])) (with_zero (unit ys x)) ≡ Some cs → ((ds : List ℤ) → unit ys x ≡ Some ds → length ds ≤ length ys) → length cs ≤ suc (length ys)
    by true g rest = let s : pos 1 ∷ [] ≡ cs = cc in subst (λ (es : List ℤ). length es ≤ suc (length ys)) s (omega arith)
    by false g rest = then (unit ys x) refl g rest

name_short : (names : List (List ℕ)) (x : List ℕ) (ps : Subscripts) (f : Form) → form_of_name names x ps ≡ Some f → length f.coefficients ≤ length names
name_short names x (subscript p ps) f e = cc
name_short names x no_subscripts f e = by (unit names x) refl e
  where
    by : (o : Option (List ℤ)) → unit names x ≡ o → with_no_constant o ≡ Some f → length f.coefficients ≤ length names
    by None g h = cc
    by (Some cs) g h =
        let s : record { coefficients = cs; constant = pos 0 } ≡ f = cc in
        subst (λ (k : Form). length k.coefficients ≤ length names) s (unit_short names x cs g)

linear_short : (loops : ℕ) (names : List (List ℕ)) (e : Expression) (f : Form) → linear loops names e ≡ Some f → length f.coefficients ≤ length names
linear_short loops names (Number m) f h = constant_short (length names) (constant_of (Number m)) None f (λ g e. cc) (limited-is loops _ f h)
linear_short loops names (Logic b) f h = cc
linear_short loops names (Named x ps) f h = name_short names x ps f (limited-is loops _ f h)
linear_short loops names (Unary o a) f h =
    constant_short (length names) (constant_of (Unary o a)) (form_of_sign o (linear loops names a)) f
    (λ g e. sign_short (length names) o (linear loops names a) g (λ k i. linear_short loops names a k i) e) (limited-is loops _ f h)
linear_short loops names (Binary o a b) f h =
    constant_short (length names) (constant_of (Binary o a b)) (form_of_pair o (constant_of a) (constant_of b) (linear loops names a) (linear loops names b)) f
    (λ g e. pair_short (length names) o (constant_of a) (constant_of b) (linear loops names a) (linear loops names b) g
    (λ k i. linear_short loops names a k i) (λ k i. linear_short loops names b k i) e) (limited-is loops _ f h)
linear_short loops names (Apply c es) f h = constant_short (length names) (constant_of (Apply c es)) None f (λ g e. cc) (limited-is loops _ f h)
linear_short loops names (Constructor es ls) f h = cc
linear_short loops names (Spread a i b) f h = cc
linear_short loops names (Transpose a) f h = cc
linear_short loops names (Reshape a es) f h = cc
linear_short loops names (Reduce r a) f h = cc

pub form_short : (loops symbols : List (List ℕ)) (e : Expression) (f : Form) → form_of loops symbols e ≡ Some f → length f.coefficients ≤ length (loops ++ symbols)
form_short loops symbols e f h = by (nat_le (length loops) nest_depth) h
  where
    by : (b : Bool) → cond b (linear (length loops) (loops ++ symbols) e) None ≡ Some f → length f.coefficients ≤ length (loops ++ symbols)
    by true g = linear_short (length loops) (loops ++ symbols) e f g
    by false g = cc
