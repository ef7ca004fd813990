-- The forms of parts of an expression.
use Rattle.std.proofs.Common.{◌≡◌, refl, sym, ap, ◌∙◌, subst, ℕ, zero, suc, ◌≤◌, ℤ, pos, negsuc, ◌*ℤ◌, Bool, true, false, List, [], ◌∷◌, map, take, drop, get_or, replicate, Option, Some, None, arith}
use Rattle.std.specs.Prelude.{is_some}
use Rattle.std.proofs.lemmas.Int.{ints}
use Rattle.std.proofs.Math.IntN.{+ℤ_idl}
use Rattle.tree.specs.declared.ops.Op.{Op}
use Rattle.tree.specs.declared.ops.Op.TheVariants.{Mul, Neg, Add, Sub}
use Rattle.tree.specs.Plain.{Expression, Number, Logic, Named, Unary, Binary, Apply, Constructor, Spread, Transpose, Reshape, Reduce}
use Rattle.subscripts.specs.declared.affine.Affine.{Affine}
use Rattle.linear_forms.specs.Linear.{Form, sum, multiple, constant_form, limited, linear, constant_value, as_constant, constant_of, constant_or, form_of_sign, form_of_product, form_of_two, form_of_pair, form_of_name}
use Rattle.std.specs.declared.boxed.Box.{Box}
use Rattle.std.specs.declared.alloc.Global.{Global}
use Rattle.tree.specs.Plain.{Expressions, expressions}
use Rattle.tree.specs.View.{expression_of, reference_of}
use Rattle.tree.specs.declared.ops.Value.TheVariants.{Int, Truth}
use Rattle.tree.specs.declared.functions.Fun.{Fun}
use Rattle.tree.specs.declared.functions.Red.{Red}
use Rattle.tree.specs.declared.lists.Seq.{Seq}
use Rattle.tree.specs.declared.exprs.Expr.{Expr}
use Rattle.tree.specs.declared.exprs.Expr.TheVariants as exprs
use Rattle.tree.specs.declared.exprs.Ref.{Ref}
use Rattle.tree.specs.declared.exprs.Turn.{Turn}
use Rattle.tree.proofs.Equations.{expression_of-int, expression_of-truth, expression_of-item, expression_of-un, expression_of-bin, expression_of-call, expression_of-list, expression_of-spread, expression_of-transpose, expression_of-reshape, expression_of-reduce}
use Rattle.linear_forms.specs.declared.forms.Part.{Part}
use Rattle.linear_forms.specs.Parts.{HasConstant, IsPartOf}
use Rattle.linear_forms.specs.Places.{padded, terms_from}
use Rattle.linear_forms.specs.Affines.{IsAffineOf, IsFound}
use Rattle.linear_forms.proofs.ConstantLaws.{plain_named}
use Rattle.linear_forms.proofs.LinearLaws.{limited-is}

-- ---- the form 0

zeros_at : (m k : ℕ) → get_or (replicate m (pos 0)) k (pos 0) ≡ pos 0
zeros_at zero k = refl
zeros_at (suc m) zero = refl
zeros_at (suc m) (suc k) = zeros_at m k

take_none : (n k : ℕ) → get_or (take n []) k (pos 0) ≡ pos 0
take_none zero k = refl
take_none (suc n) k = refl

no_terms : (n : ℕ) → padded (terms_from 0 (drop n [])) ≡ replicate 8 (0, pos 0)
no_terms zero = refl
no_terms (suc n) = refl

pub zero_affine : (n : ℕ) → IsAffineOf n (constant_form (pos 0)) (record { loops = replicate 7 (pos 0); syms = replicate 8 (0, pos 0); constant = pos 0 })
zero_affine n = record { loops = λ k. zeros_at 7 k ∙ sym (take_none n k); symbols = sym (no_terms n); constant = refl }

-- 0 and a multiple is the multiple
only_multiple : (c : ℤ) (q : Form) → sum (constant_form (pos 0)) (multiple c q) ≡ multiple c q
only_multiple c q = ap (λ z. let f : Form = record { coefficients = map (λ a. c *ℤ a) q.coefficients; constant = z } in f) (+ℤ_idl (c *ℤ q.constant))

times_one : (cs : List ℤ) → map (λ a. pos 1 *ℤ a) cs ≡ cs
times_one [] = refl
times_one (c ∷ cs) = let one : pos 1 *ℤ c ≡ c = omega (arith, ints) in ap (λ d. d ∷ map (λ a. pos 1 *ℤ a) cs) one ∙ ap (λ l. c ∷ l) (times_one cs)

once : (q : Form) → multiple (pos 1) q ≡ q
once q =
    let one : pos 1 *ℤ q.constant ≡ q.constant = omega (arith, ints) in
    ap (λ l. let f : Form = record { coefficients = l; constant = pos 1 *ℤ q.constant } in f) (times_one q.coefficients)
    ∙ ap (λ z. let f : Form = record { coefficients = q.coefficients; constant = z } in f) one

abbrev Answers : ℕ → Form → Option Affine → Type 0
Answers n f r = IsFound n (limited n (Some f)) r

-- ---- products

pub product_first : (n : ℕ) (k l : Option ℤ) (p q : Form) (c : ℤ) (r : Option Affine) → is_some k ≡ true → HasConstant k p → c ≡ p.constant
    → Answers n (sum (constant_form (pos 0)) (multiple c q)) r → IsFound n (limited n (form_of_product k l p q)) r
product_first n None l p q c r h g e a = cc
product_first n (Some z) l p q c r h g e a = subst (λ f. Answers n f r) (only_multiple c q ∙ ap (λ c. multiple c q) (e ∙ g z refl)) a

pub product_second : (n : ℕ) (k l : Option ℤ) (p q : Form) (c : ℤ) (r : Option Affine) → is_some k ≡ false → is_some l ≡ true → HasConstant l q → c ≡ q.constant
    → Answers n (sum (constant_form (pos 0)) (multiple c p)) r → IsFound n (limited n (form_of_product k l p q)) r
product_second n (Some z) l p q c r i h g e a = cc
product_second n None None p q c r i h g e a = cc
product_second n None (Some z) p q c r i h g e a = subst (λ f. Answers n f r) (only_multiple c p ∙ ap (λ c. multiple c p) (e ∙ g z refl)) a

pub product_none : (n : ℕ) (k l : Option ℤ) (p q : Form) → is_some k ≡ false → is_some l ≡ false → IsFound n (limited n (form_of_product k l p q)) None
product_none n (Some z) l p q h g = cc
product_none n None (Some z) p q h g = cc
product_none n None None p q h g = tt

-- ---- signs

pub whole_known : (n : ℕ) (whole : Option ℤ) (z : ℤ) (o : Option Form) (r : Option Affine) → whole ≡ Some z → Answers n (constant_form z) r → IsFound n (limited n (constant_or whole o)) r
whole_known n whole z o r e a = subst (λ w. IsFound n (limited n (constant_or w o)) r) (sym e) a

sign_none : (op : Op) → form_of_sign op None ≡ None
sign_none Neg = refl
sign_none _ = refl

pub unfound_sign : (n : ℕ) (op : Op) (whole : Option ℤ) (o : Option Form) → whole ≡ None → IsFound n o None → IsFound n (limited n (constant_or whole (form_of_sign op o))) None
unfound_sign n op whole None e h = subst (λ w. IsFound n (limited n (constant_or w (form_of_sign op None))) None) (sym e) (subst (λ o. IsFound n (limited n o) None) (sym (sign_none op)) tt)
unfound_sign n op whole (Some f) e h = absurd h

no_sign : (op : Op) (o : Option Form) → (op ≡ Neg → ⊥) → form_of_sign op o ≡ None
no_sign Neg o h = absurd (h refl)
no_sign _ None h = refl
no_sign _ (Some f) h = refl

-- no other operator has a form with one operand
pub sign_other : (n : ℕ) (op : Op) (whole : Option ℤ) (o : Option Form) → whole ≡ None → (op ≡ Neg → ⊥) → IsFound n (limited n (constant_or whole (form_of_sign op o))) None
sign_other n op whole o e h = subst (λ w. IsFound n (limited n (constant_or w (form_of_sign op o))) None) (sym e) (subst (λ o. IsFound n (limited n o) None) (sym (no_sign op o h)) tt)

pub negated : (n : ℕ) (whole : Option ℤ) (o : Option Form) (a : Affine) (r : Option Affine) → whole ≡ None → IsFound n o (Some a)
    → ((q : Form) → IsAffineOf n q a → Answers n (sum (constant_form (pos 0)) (multiple (negsuc 0) q)) r) → IsFound n (limited n (constant_or whole (form_of_sign Neg o))) r
negated n whole None a r e h g = absurd h
negated n whole (Some q) a r e h g = subst (λ w. IsFound n (limited n (constant_or w (form_of_sign Neg (Some q)))) r) (sym e) (subst (λ f. Answers n f r) (only_multiple (negsuc 0) q) (g q h))

-- ---- two operands

pub unfound_first : (n : ℕ) (op : Op) (whole k l : Option ℤ) (p q : Option Form) → whole ≡ None → IsFound n p None → IsFound n (limited n (constant_or whole (form_of_pair op k l p q))) None
unfound_first n op whole k l None q e h = subst (λ w. IsFound n (limited n (constant_or w (form_of_pair op k l None q))) None) (sym e) tt
unfound_first n op whole k l (Some f) q e h = absurd h

pub unfound_second : (n : ℕ) (op : Op) (whole k l : Option ℤ) (p q : Option Form) → whole ≡ None → IsFound n q None → IsFound n (limited n (constant_or whole (form_of_pair op k l p q))) None
unfound_second n op whole k l p (Some f) e h = absurd h
unfound_second n op whole k l None None e h = subst (λ w. IsFound n (limited n (constant_or w (form_of_pair op k l None None))) None) (sym e) tt
unfound_second n op whole k l (Some f) None e h = subst (λ w. IsFound n (limited n (constant_or w (form_of_pair op k l (Some f) None))) None) (sym e) tt

-- with both forms found
pub both_found : (n : ℕ) (op : Op) (whole k l : Option ℤ) (p q : Option Form) (f g : Affine) (r : Option Affine) → whole ≡ None → IsFound n p (Some f) → IsFound n q (Some g)
    → ((a b : Form) → p ≡ Some a → q ≡ Some b → IsAffineOf n a f → IsAffineOf n b g → IsFound n (limited n (form_of_two op k l a b)) r)
    → IsFound n (limited n (constant_or whole (form_of_pair op k l p q))) r
both_found n op whole k l None q f g r e h i j = absurd h
both_found n op whole k l (Some a) None f g r e h i j = absurd i
both_found n op whole k l (Some a) (Some b) f g r e h i j = subst (λ w. IsFound n (limited n (constant_or w (form_of_two op k l a b))) r) (sym e) (j a b refl refl h i)

pub sum_found : (n : ℕ) (a b : Form) (r : Option Affine) → Answers n (sum a (multiple (pos 1) b)) r → Answers n (sum a b) r
sum_found n a b r h = subst (λ f. Answers n (sum a f) r) (once b) h

-- ---- a constant's form

pub from_constant : (n : ℕ) (c : Option ℤ) (o : Option Form) (f : Form) (z : ℤ) → limited n (constant_or c o) ≡ Some f → c ≡ Some z → f.constant ≡ z
from_constant n None o f z h e = cc
from_constant n (Some y) o f z h e =
    let same : constant_form y ≡ f = let s = limited-is n (Some (constant_form y)) f h in cc in
    let number : y ≡ z = cc in
    sym (ap (λ (f : Form). f.constant) same) ∙ number

pub has_constant : (n : ℕ) (names : List (List ℕ)) (e : Expression) (f : Form) → linear n names e ≡ Some f → HasConstant (constant_of e) f
has_constant n names (Number m) f h z g = from_constant n (constant_of (Number m)) None f z h g
has_constant n names (Logic b) f h z g = cc
has_constant n names (Named x ps) f h z g = let none : as_constant (constant_value (Named x ps)) ≡ None = ap as_constant (plain_named x ps) in cc
has_constant n names (Unary o a) f h z g = from_constant n (constant_of (Unary o a)) (form_of_sign o (linear n names a)) f z h g
has_constant n names (Binary o a b) f h z g = from_constant n (constant_of (Binary o a b)) (form_of_pair o (constant_of a) (constant_of b) (linear n names a) (linear n names b)) f z h g
has_constant n names (Apply c es) f h z g = from_constant n (constant_of (Apply c es)) None f z h g
has_constant n names (Constructor es ls) f h z g = cc
has_constant n names (Spread a i b) f h z g = cc
has_constant n names (Transpose a) f h z g = cc
has_constant n names (Reshape a es) f h z g = cc
has_constant n names (Reduce r a) f h z g = cc

-- ---- parts of a tree

pub constant_call : (n : ℕ) (names : List (List ℕ)) (c : Fun) (es : Expressions) (part : Part) → part.constant ≡ constant_value (Apply c es)
    → IsFound n (limited n (constant_or (as_constant part.constant) None)) part.form → IsPartOf n names (Apply c es) part
constant_call n names c es part h g = record { constant = h; form = subst (λ v. IsFound n (limited n (constant_or (as_constant v) None)) part.form) h g }

pub int_part : (n : ℕ) (names : List (List ℕ)) (m : ℤ) (part : Part) → part.constant ≡ Some (Int m)
    → IsFound n (limited n (constant_or (as_constant part.constant) None)) part.form → IsPartOf n names (expression_of (exprs.Int m)) part
int_part n names m part h g = subst (λ e. IsPartOf n names e part) (sym (expression_of-int m)) (record { constant = h; form = subst (λ v. IsFound n (limited n (constant_or (as_constant v) None)) part.form) h g })

pub truth_part : (n : ℕ) (names : List (List ℕ)) (b : Bool) → IsPartOf n names (expression_of (exprs.Truth b)) (record { constant = Some (Truth b); form = None })
truth_part n names b = subst (λ e. IsPartOf n names e (record { constant = Some (Truth b); form = None })) (sym (expression_of-truth b)) (record { constant = refl; form = tt })

pub item_part : (n : ℕ) (names : List (List ℕ)) (r : Ref) (form : Option Affine) → IsFound n (limited n (form_of_name names (reference_of r).name (reference_of r).subscripts)) form
    → IsPartOf n names (expression_of (exprs.Item r)) (record { constant = None; form = form })
item_part n names r form h = subst (λ e. IsPartOf n names e (record { constant = None; form = form })) (sym (expression_of-item r)) (record { constant = sym (plain_named (reference_of r).name (reference_of r).subscripts); form = h })

pub un_part : (n : ℕ) (names : List (List ℕ)) (o : Op) (a : Box Expr Global) (part : Part) → IsPartOf n names (Unary o (expression_of a.value)) part → IsPartOf n names (expression_of (exprs.Un o a)) part
un_part n names o a part h = subst (λ e. IsPartOf n names e part) (sym (expression_of-un o a)) h

pub bin_part : (n : ℕ) (names : List (List ℕ)) (o : Op) (a b : Box Expr Global) (part : Part) → IsPartOf n names (Binary o (expression_of a.value) (expression_of b.value)) part → IsPartOf n names (expression_of (exprs.Bin o a b)) part
bin_part n names o a b part h = subst (λ e. IsPartOf n names e part) (sym (expression_of-bin o a b)) h

pub call_part : (n : ℕ) (names : List (List ℕ)) (f : Fun) (es : Seq Expr) (part : Part) → part.constant ≡ constant_value (expression_of (exprs.Call f es))
    → IsFound n (limited n (constant_or (as_constant part.constant) None)) part.form → IsPartOf n names (expression_of (exprs.Call f es)) part
call_part n names f es part h g =
    subst (λ e. IsPartOf n names e part) (sym (expression_of-call f es)) (constant_call n names f (expressions (map expression_of es)) part (h ∙ ap constant_value (expression_of-call f es)) g)

pub list_part : (n : ℕ) (names : List (List ℕ)) (es : Seq Expr) (ls : Seq Turn) → IsPartOf n names (expression_of (exprs.List es ls)) (record { constant = None; form = None })
list_part n names es ls = subst (λ e. IsPartOf n names e (record { constant = None; form = None })) (sym (expression_of-list es ls)) (record { constant = refl; form = tt })

pub spread_part : (n : ℕ) (names : List (List ℕ)) (a : Box Expr Global) (d : ℕ) (b : Box Expr Global) → IsPartOf n names (expression_of (exprs.Spread a d b)) (record { constant = None; form = None })
spread_part n names a d b = subst (λ e. IsPartOf n names e (record { constant = None; form = None })) (sym (expression_of-spread a d b)) (record { constant = refl; form = tt })

pub transpose_part : (n : ℕ) (names : List (List ℕ)) (a : Box Expr Global) → IsPartOf n names (expression_of (exprs.Transpose a)) (record { constant = None; form = None })
transpose_part n names a = subst (λ e. IsPartOf n names e (record { constant = None; form = None })) (sym (expression_of-transpose a)) (record { constant = refl; form = tt })

pub reshape_part : (n : ℕ) (names : List (List ℕ)) (a : Box Expr Global) (es : Seq Expr) → IsPartOf n names (expression_of (exprs.Reshape a es)) (record { constant = None; form = None })
reshape_part n names a es = subst (λ e. IsPartOf n names e (record { constant = None; form = None })) (sym (expression_of-reshape a es)) (record { constant = refl; form = tt })

pub reduce_part : (n : ℕ) (names : List (List ℕ)) (r : Red) (a : Box Expr Global) → IsPartOf n names (expression_of (exprs.Reduce r a)) (record { constant = None; form = None })
reduce_part n names r a = subst (λ e. IsPartOf n names e (record { constant = None; form = None })) (sym (expression_of-reduce r a)) (record { constant = refl; form = tt })

pub ruleset part_laws = (int_part, truth_part, item_part, un_part, bin_part, call_part, list_part, spread_part, transpose_part, reshape_part, reduce_part)

-- ---- whole clauses, from what the calls answer

abbrev pub Zero : Affine
Zero = record { loops = replicate 7 (pos 0); syms = replicate 8 (0, pos 0); constant = pos 0 }

-- what a sum with a multiple answers
abbrev pub Combines : Affine → Affine → ℤ → Option Affine → Type 0
Combines f g k r = (n : ℕ) (p q : Form) → n ≤ 7 → IsAffineOf n p f → IsAffineOf n q g → IsFound n (limited n (Some (sum p (multiple k q)))) r

abbrev pub SignClause : Op → Option ℤ → Option Affine → Option Affine → Type 0
SignClause op whole form r = (n : ℕ) (o : Option Form) → n ≤ 7 → IsFound n o form → IsFound n (limited n (constant_or whole (form_of_sign op o))) r

pub sign_whole : (op : Op) (whole : Option ℤ) (form r : Option Affine) (z : ℤ) → whole ≡ Some z → ((n : ℕ) → IsFound n (limited n (Some (constant_form z))) r) → SignClause op whole form r
sign_whole op whole form r z e h n o few a = whole_known n whole z (form_of_sign op o) r e (h n)

pub sign_unfound : (op : Op) (whole : Option ℤ) (form : Option Affine) → whole ≡ None → form ≡ None → SignClause op whole form None
sign_unfound op whole form e g n o few a = unfound_sign n op whole o e (subst (λ (f : Option Affine). IsFound n o f) g a)

pub sign_neg : (whole : Option ℤ) (form : Option Affine) (a : Affine) (r : Option Affine) → whole ≡ None → form ≡ Some a → Combines Zero a (negsuc 0) r → SignClause Neg whole form r
sign_neg whole form a r e g h n o few f =
    negated n whole o a r e (subst (λ (f : Option Affine). IsFound n o f) g f) (λ q i. h n (constant_form (pos 0)) q few (zero_affine n) i)

abbrev pub PairClause : Op → Option ℤ → Option ℤ → Option ℤ → Option Affine → Option Affine → Option Affine → Type 0
PairClause op whole k l f g r = (n : ℕ) (p q : Option Form) → n ≤ 7 → IsFound n p f → IsFound n q g
    → ((a : Form) → p ≡ Some a → HasConstant k a) → ((b : Form) → q ≡ Some b → HasConstant l b)
    → IsFound n (limited n (constant_or whole (form_of_pair op k l p q))) r

pub pair_whole : (op : Op) (whole k l : Option ℤ) (f g r : Option Affine) (z : ℤ) → whole ≡ Some z → ((n : ℕ) → IsFound n (limited n (Some (constant_form z))) r) → PairClause op whole k l f g r
pair_whole op whole k l f g r z e h n p q few a b i j = whole_known n whole z (form_of_pair op k l p q) r e (h n)

pub pair_first : (op : Op) (whole k l : Option ℤ) (f g : Option Affine) → whole ≡ None → f ≡ None → PairClause op whole k l f g None
pair_first op whole k l f g e h n p q few a b i j = unfound_first n op whole k l p q e (subst (λ (f : Option Affine). IsFound n p f) h a)

pub pair_second : (op : Op) (whole k l : Option ℤ) (f g : Option Affine) → whole ≡ None → g ≡ None → PairClause op whole k l f g None
pair_second op whole k l f g e h n p q few a b i j = unfound_second n op whole k l p q e (subst (λ (f : Option Affine). IsFound n q f) h b)

pub pair_add : (whole k l : Option ℤ) (f g : Option Affine) (a b : Affine) (r : Option Affine) → whole ≡ None → f ≡ Some a → g ≡ Some b → Combines a b (pos 1) r → PairClause Add whole k l f g r
pair_add whole k l f g a b r e h i c n p q few x y u v =
    both_found n Add whole k l p q a b r e (subst (λ (f : Option Affine). IsFound n p f) h x) (subst (λ (f : Option Affine). IsFound n q f) i y) (λ p' q' s t j m. sum_found n p' q' r (c n p' q' few j m))

pub pair_sub : (whole k l : Option ℤ) (f g : Option Affine) (a b : Affine) (r : Option Affine) → whole ≡ None → f ≡ Some a → g ≡ Some b → Combines a b (negsuc 0) r → PairClause Sub whole k l f g r
pair_sub whole k l f g a b r e h i c n p q few x y u v =
    both_found n Sub whole k l p q a b r e (subst (λ (f : Option Affine). IsFound n p f) h x) (subst (λ (f : Option Affine). IsFound n q f) i y) (λ p' q' s t j m. c n p' q' few j m)

abbrev pub ProductClause : Option ℤ → Option ℤ → Affine → Affine → Option Affine → Type 0
ProductClause k l a b r = (n : ℕ) (p q : Form) → n ≤ 7 → IsAffineOf n p a → IsAffineOf n q b → HasConstant k p → HasConstant l q → IsFound n (limited n (form_of_product k l p q)) r

pub pair_mul : (whole k l : Option ℤ) (f g : Option Affine) (a b : Affine) (r : Option Affine) → whole ≡ None → f ≡ Some a → g ≡ Some b → ProductClause k l a b r → PairClause Mul whole k l f g r
pair_mul whole k l f g a b r e h i c n p q few x y u v =
    both_found n Mul whole k l p q a b r e (subst (λ (f : Option Affine). IsFound n p f) h x) (subst (λ (f : Option Affine). IsFound n q f) i y) (λ p' q' s t j m. c n p' q' few j m (u p' s) (v q' t))

abbrev pub IsNoPair : Op → Type 0
IsNoPair op = (k l : Option ℤ) (p q : Form) → form_of_two op k l p q ≡ None

pub pair_other : (op : Op) (whole k l : Option ℤ) (f g : Option Affine) (a b : Affine) → whole ≡ None → f ≡ Some a → g ≡ Some b → IsNoPair op → PairClause op whole k l f g None
pair_other op whole k l f g a b e h i c n p q few x y u v =
    both_found n op whole k l p q a b None e (subst (λ (f : Option Affine). IsFound n p f) h x) (subst (λ (f : Option Affine). IsFound n q f) i y) (λ p' q' s t j m. subst (λ o. IsFound n (limited n o) None) (sym (c k l p' q')) tt)

pub product_by_first : (k l : Option ℤ) (a b : Affine) (r : Option Affine) → is_some k ≡ true → Combines Zero b a.constant r → ProductClause k l a b r
product_by_first k l a b r h c n p q few i j u v = product_first n k l p q a.constant r h u i.constant (c n (constant_form (pos 0)) q few (zero_affine n) j)

pub product_by_second : (k l : Option ℤ) (a b : Affine) (r : Option Affine) → is_some k ≡ false → is_some l ≡ true → Combines Zero a b.constant r → ProductClause k l a b r
product_by_second k l a b r g h c n p q few i j u v = product_second n k l p q b.constant r g h v j.constant (c n (constant_form (pos 0)) p few (zero_affine n) i)

pub product_by_none : (k l : Option ℤ) (a b : Affine) → is_some k ≡ false → is_some l ≡ false → ProductClause k l a b None
product_by_none k l a b g h n p q few i j u v = product_none n k l p q g h

pub sign_part : (op : Op) (part made : Part) → ((e : Expression) → part.constant ≡ constant_value e → made.constant ≡ constant_value (Unary op e)) → SignClause op (as_constant made.constant) part.form made.form
    → (n : ℕ) (names : List (List ℕ)) (e : Expression) → n ≤ 7 → IsPartOf n names e part → IsPartOf n names (Unary op e) made
sign_part op part made h c n names e few i =
    let value = h e i.constant in
    record { constant = value; form = subst (λ v. IsFound n (limited n (constant_or (as_constant v) (form_of_sign op (linear n names e)))) made.form) value (c n (linear n names e) few i.form) }

pub pair_part : (op : Op) (a b made : Part) → ((d e : Expression) → a.constant ≡ constant_value d → b.constant ≡ constant_value e → made.constant ≡ constant_value (Binary op d e))
    → PairClause op (as_constant made.constant) (as_constant a.constant) (as_constant b.constant) a.form b.form made.form
    → (n : ℕ) (names : List (List ℕ)) (d e : Expression) → n ≤ 7 → IsPartOf n names d a → IsPartOf n names e b → IsPartOf n names (Binary op d e) made
pair_part op a b made h c n names d e few i j =
    let value = h d e i.constant j.constant in
    let first : (f : Form) → linear n names d ≡ Some f → HasConstant (as_constant a.constant) f = λ f s. subst (λ v. HasConstant (as_constant v) f) (sym i.constant) (has_constant n names d f s) in
    let second : (f : Form) → linear n names e ≡ Some f → HasConstant (as_constant b.constant) f = λ f s. subst (λ v. HasConstant (as_constant v) f) (sym j.constant) (has_constant n names e f s) in
    record {
      constant = value;
      form = subst (λ v. IsFound n (limited n (constant_or (as_constant v) (form_of_pair op (constant_of d) (constant_of e) (linear n names d) (linear n names e)))) made.form) value
          (subst (λ v. IsFound n (limited n (constant_or (as_constant made.constant) (form_of_pair op (as_constant v) (constant_of e) (linear n names d) (linear n names e)))) made.form) i.constant
          (subst (λ v. IsFound n (limited n (constant_or (as_constant made.constant) (form_of_pair op (as_constant a.constant) (as_constant v) (linear n names d) (linear n names e)))) made.form) j.constant
          (c n (linear n names d) (linear n names e) few i.form j.form first second)));
    }
