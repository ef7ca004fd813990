-- How deep the texts of loops from 1 by 1 are.
use Rattle.std.proofs.Common.{◌≡◌, refl, subst, ℕ, zero, suc, ◌+◌, ◌*◌, ◌≤◌, max, ℤ, pos, negsuc, Bool, true, false}
use Rattle.std.proofs.Common.{cond, List, [], ◌∷◌, length, Option, Some, None, arith}
use Rattle.std.specs.Ordering.{int_eq}
use Rattle.std.specs.Prelude.{slice_get, ◌==◌}
use Rattle.components.specs.Lists.{Each}
use Rattle.components.proofs.ListLaws.{Each-append}
use Rattle.meaning.specs.Depths.{depth_of, enclosed, level}
use Rattle.rewrite.proofs.ReplacedProfile.{in_parentheses}
use Rattle.tree.specs.OperatorTable.{left_least, right_least}
use Rattle.tree.specs.Plain.{Binary, Expression, Number, Unary}
use Rattle.tree.specs.declared.ops.Op.{Op}
use Rattle.tree.specs.declared.ops.Op.TheVariants.{Add, Div, Mul, Neg, Sub}
use Rattle.linear_forms.specs.Expressed.{minus_term, plus_term, term, variables, with_constant, with_term, with_terms}
use Rattle.linear_forms.specs.Texts.{places_behind, text_of, with_place, with_symbols}
use Rattle.last_values.specs.normal_forms.NormalLoops.{counters_of}
use Rattle.last_values.specs.normal_forms.Texts.{counter_first, quotient_text, trip_text, variable_text}
use Rattle.last_values.specs.declared.normal_forms.loops.NormalLoop.{NormalLoop}
use Rattle.nest.specs.declared.parts.Trip.{Trip}
use Rattle.subscripts.specs.declared.affine.Affine.{Affine}
use Rattle.pass_laws.proofs.PreparedNests.Normal.LoopSizes.{HasSizes, IsSized}

pub binary_deep : (o : Op) (a b : Expression) (d : ℕ) → depth_of a ≤ d → depth_of b ≤ d → depth_of (Binary o a b) ≤ d + 2
binary_deep o a b d h k =
    joined (enclosed (left_least o) (level a) (depth_of a)) (enclosed (right_least o) (level b) (depth_of b)) (depth_of a) (depth_of b) d
    (in_parentheses (left_least o) (level a) (depth_of a)) (in_parentheses (right_least o) (level b) (depth_of b)) h k
  where
    joined : (x y m n d : ℕ) → x ≤ 1 + m → y ≤ 1 + n → m ≤ d → n ≤ d → 1 + max x y ≤ d + 2
    joined x y m n d e f g i = omega (arith, e, f, g, i)

pub unary_deep : (o : Op) (a : Expression) (d : ℕ) → depth_of a ≤ d → depth_of (Unary o a) ≤ d + 2
unary_deep o a d h = joined (enclosed (right_least o) (level a) (depth_of a)) (depth_of a) d (in_parentheses (right_least o) (level a) (depth_of a)) h
  where
    joined : (x m d : ℕ) → x ≤ 1 + m → m ≤ d → 1 + x ≤ d + 2
    joined x m d e f = omega (arith, e, f)

more_deep : (a b c : ℕ) → a ≤ b → b ≤ c → a ≤ c
more_deep a b c h k = omega (arith, h, k)

abbrev pub SoFar : ℕ → Option Expression → Type 0
SoFar d None = Unit {0}
SoFar d (Some e) = depth_of e ≤ d

abbrev pub AreDeep : ℕ → List Expression → Type 0
AreDeep d ts = Each (λ (t : Expression). depth_of t ≤ d) ts

term_deep : (n : ℕ) (t : Expression) (d : ℕ) → depth_of t ≤ d → depth_of (term n t) ≤ d + 2
term_deep n t d h = by (n == 1)
  where
    by : (b : Bool) → depth_of (cond b t (Binary Mul (Number (pos n)) t)) ≤ d + 2
    by true = omega (arith, h)
    by false = binary_deep Mul (Number (pos n)) t d (omega arith) h

plus_deep : (o : Option Expression) (t : Expression) (k : ℕ) → SoFar k o → depth_of t ≤ k → depth_of (plus_term o t) ≤ k + 2
plus_deep None t k h g = omega (arith, g)
plus_deep (Some e) t k h g = binary_deep Add e t k h g

minus_deep : (o : Option Expression) (t : Expression) (k : ℕ) → SoFar k o → depth_of t ≤ k → depth_of (minus_term o t) ≤ k + 2
minus_deep None t k h g = unary_deep Neg t k g
minus_deep (Some e) t k h g = binary_deep Sub e t k h g

weaker : (o : Option Expression) (j k : ℕ) → j ≤ k → SoFar j o → SoFar k o
weaker None j k h g = tt
weaker (Some e) j k h g = omega (arith, h, g)

pub one_deep : (o : Option Expression) (c : ℤ) (t : Expression) (d k : ℕ) → d + 2 ≤ k → SoFar k o → depth_of t ≤ d → SoFar (k + 2) (with_term o c t)
one_deep o (pos zero) t d k m h g = weaker o k (k + 2) (omega arith) h
one_deep o (pos (suc n)) t d k m h g = plus_deep o (term (suc n) t) k h (more_deep (depth_of (term (suc n) t)) (d + 2) k (term_deep (suc n) t d g) m)
one_deep o (negsuc n) t d k m h g = minus_deep o (term (suc n) t) k h (more_deep (depth_of (term (suc n) t)) (d + 2) k (term_deep (suc n) t d g) m)

pub terms_deep : (o : Option Expression) (cs : List ℤ) (ts : List Expression) (d k : ℕ) → d + 2 ≤ k → SoFar k o → AreDeep d ts → SoFar (k + 2 * length cs) (with_terms o cs ts)
terms_deep o [] ts d k m h g = weaker o k (k + 2 * 0) (omega arith) h
terms_deep o (c ∷ cs) [] d k m h g = weaker o k (k + 2 * suc (length cs)) (omega arith) h
terms_deep o (c ∷ cs) (t ∷ ts) d k m h g =
    weaker (with_terms (with_term o c t) cs ts) ((k + 2) + 2 * length cs) (k + 2 * suc (length cs)) (omega arith)
    (terms_deep (with_term o c t) cs ts d (k + 2) (omega (arith, m)) (one_deep o c t d k m h g.0) g.1)

at_place : (ts : List Expression) (k : ℕ) (t : Expression) (d : ℕ) → AreDeep d ts → slice_get ts k ≡ Some t → depth_of t ≤ d
at_place [] k t d h e = let no : ⊥ = cc in absurd no
at_place (u ∷ ts) zero t d h e = let same : u ≡ t = cc in subst (λ (t : Expression). depth_of t ≤ d) same h.0
at_place (u ∷ ts) (suc k) t d h e = at_place ts k t d h.1 e

place_deep : (o : Option Expression) (c : ℤ) (q : Option Expression) (d k : ℕ) → d + 2 ≤ k → SoFar k o → SoFar d q → SoFar (k + 2) (with_place o c q)
place_deep o c None d k m h g = weaker o k (k + 2) (omega arith) h
place_deep o c (Some t) d k m h g = one_deep o c t d k m h g

got : (ts : List Expression) (k d : ℕ) → AreDeep d ts → SoFar d (slice_get ts k)
got ts k d h = by (slice_get ts k) refl
  where
    by : (q : Option Expression) → slice_get ts k ≡ q → SoFar d q
    by None e = tt
    by (Some t) e = at_place ts k t d h e

symbols_deep : (o : Option Expression) (ss : List (ℕ × ℤ)) (ts : List Expression) (d k : ℕ) → d + 2 ≤ k → SoFar k o → AreDeep d ts → SoFar (k + 2 * length ss) (with_symbols o ss ts)
symbols_deep o [] ts d k m h g = weaker o k (k + 2 * 0) (omega arith) h
symbols_deep o (s ∷ ss) ts d k m h g =
    weaker (with_symbols (with_place o s.1 (slice_get ts s.0)) ss ts) ((k + 2) + 2 * length ss) (k + 2 * suc (length ss)) (omega arith)
    (symbols_deep (with_place o s.1 (slice_get ts s.0)) ss ts d (k + 2) (omega (arith, m)) (place_deep o s.1 (slice_get ts s.0) d k m h (got ts s.0 d g)) g)

pub constant_deep : (o : Option Expression) (z : ℤ) (k : ℕ) → SoFar k o → depth_of (with_constant o z) ≤ k + 2
constant_deep None (pos n) k h = omega arith
constant_deep None (negsuc n) k h = unary_deep Neg (Number (pos (suc n))) k (omega arith)
constant_deep (Some e) (pos zero) k h = omega (arith, h)
constant_deep (Some e) (pos (suc n)) k h = binary_deep Add e (Number (pos (suc n))) k h (omega arith)
constant_deep (Some e) (negsuc n) k h = binary_deep Sub e (Number (pos (suc n))) k h (omega arith)

variables_deep : (xs : List (List ℕ)) (d : ℕ) → AreDeep d (variables xs)
variables_deep [] d = tt
variables_deep (x ∷ xs) d = (omega arith, variables_deep xs d)

pub text_deep : (loops symbols : List (List ℕ)) (trips : List Expression) (a : Affine) (d : ℕ) → IsSized a → AreDeep d trips → depth_of (text_of loops symbols trips a) ≤ d + 34
text_deep loops symbols trips a d s t =
    let few = s.loops in
    let some = s.symbols in
    let k : ℕ = (d + 2) + 2 * length a.loops in
    more_deep (depth_of (text_of loops symbols trips a)) ((k + 2 * length a.syms) + 2) (d + 34)
    (constant_deep (with_symbols (with_terms None a.loops (variables loops)) a.syms (places_behind symbols trips)) a.constant (k + 2 * length a.syms)
    (symbols_deep (with_terms None a.loops (variables loops)) a.syms (places_behind symbols trips) d k (omega arith)
    (terms_deep None a.loops (variables loops) d (d + 2) (omega arith) tt (variables_deep loops d))
    (Each-append (λ (t : Expression). depth_of t ≤ d) (variables symbols) trips (variables_deep symbols d) t)))
    (omega (arith, few, some))

pub value_deep : (symbols : List (List ℕ)) (outer : List NormalLoop) (r : NormalLoop) → HasSizes r → depth_of (variable_text symbols outer r) ≤ 34
unfolding variable_text
value_deep symbols outer r s =
    let some = s.below.symbols in
    let sized : IsSized (counter_first r.step r.below) = record { loops = omega arith; symbols = some } in
    text_deep (r.counter ∷ counters_of outer) symbols [] (counter_first r.step r.below) 0 sized tt

pub quotient_deep : (e : Expression) (z : ℤ) (d : ℕ) → depth_of e ≤ d → depth_of (quotient_text e z) ≤ d + 2
quotient_deep e z d h = by (int_eq z (pos 1))
  where
    by : (b : Bool) → depth_of (cond b e (Binary Div e (Number z))) ≤ d + 2
    by true = omega (arith, h)
    by false = binary_deep Div e (Number z) d h (omega arith)

pub trip_deep : (counters symbols : List (List ℕ)) (trips : List Expression) (t : Trip) (d : ℕ) → IsSized t.top → AreDeep d trips → depth_of (trip_text counters symbols trips t) ≤ d + 36
unfolding trip_text
trip_deep counters symbols trips t d s h =
    more_deep (depth_of (quotient_text (text_of counters symbols trips t.top) t.by)) ((d + 34) + 2) (d + 36)
    (quotient_deep (text_of counters symbols trips t.top) t.by (d + 34) (text_deep counters symbols trips t.top d s h)) (omega arith)
