-- The texts of numbers that stand in array forms: sums of terms, trips, and the bounds of sections. Each is an INTEGER
-- scalar, and not deep.
use Rattle.std.proofs.Common.{◌≡◌, refl, sym, inl, ℕ, zero, suc, ◌+◌, ◌^◌, ◌<◌, ◌≤◌, max, nat_le, ℤ, pos, negsuc, Bool}
use Rattle.std.proofs.Common.{true, false, cond, ◌&&◌, List, [], ◌∷◌, ◌++◌, drop, length, Option, Some, None, Contains}
use Rattle.std.proofs.Common.{arith}
use Rattle.std.specs.Prelude.{◌==◌}
use Rattle.std.specs.Option.{IsSomeAnd}
use Rattle.std.specs.Ordering.{int_eq}
use Rattle.std.proofs.lemmas.Bool.{leb-true, leb-false}
use Rattle.std.proofs.lemmas.Bool.Decides.{Decides-int_eq}
use Rattle.tree.specs.declared.ops.Kind.TheVariants.{Integer}
use Rattle.tree.specs.declared.ops.Op.TheVariants.{Mul, Div, Add}
use Rattle.tree.specs.Plain.{Expression, Number, Binary, Declaration}
use Rattle.meaning.specs.Depths.{level, enclosed, depth_of, depth_of_subscript}
use Rattle.meaning.specs.Typed.{declared, rank_of_extent}
use Rattle.meaning.specs.Typed90.{HasKind, IsIntegerScalar, IsSubscript, rank_of}
use Rattle.rewrite.proofs.ReplacedProfile.{in_parentheses, no_rank}
use Rattle.linear_forms.specs.Expressed.{term, plus_term, minus_term, with_term, with_terms, with_constant, expressed}
use Rattle.linear_forms.specs.Expressed.{variable, variables}
use Rattle.linear_forms.specs.Linear.{Form, sum, multiple, constant_form, is_small, all_small, not_zero, is_limited}
use Rattle.linear_forms.proofs.Sizes.{both, dropped}
use Rattle.meaning_laws.proofs.arrays.Members.{here, there}
use Rattle.array_form.specs.forms.Forms.{number_text, form_trip_text, form_of_trip, terms_with, sum_text, section}
use Rattle.array_form.specs.forms.Loops.{FormTrip, FormLoop, FormSurroundings, form_names_of, coefficient, form_without}
use Rattle.array_form.proofs.forms.Coefficients.{coefficient_small, without_limited}
use Rattle.array_form.specs.profile.Settings.{IsWritable}

-- an INTEGER scalar, at most so deep, that is an operand of a relation without parentheses
pub record IsNumber (ds : List Declaration) (most : ℕ) (e : Expression) : Type 0 where
  pub kind : HasKind ds e Integer
  pub rank : rank_of ds e ≡ 0
  pub depth : depth_of e ≤ most
  pub binds : 7 ≤ level e

-- ---- depths

tight : (least own n : ℕ) → least ≤ own → enclosed least own n ≤ n
tight least own n h = by (nat_le least own) refl
  where
    by : (b : Bool) → nat_le least own ≡ b → cond b n (1 + n) ≤ n
    by true e = omega arith
    by false e = let l = leb-false least own e in absurd (omega (arith, h, l))

pub wrapped : (least own a m : ℕ) → a ≤ m → enclosed least own a ≤ m + 1
wrapped least own a m h = after (enclosed least own a) (in_parentheses least own a)
  where
    after : (x : ℕ) → x ≤ 1 + a → x ≤ m + 1
    after x k = omega (arith, h, k)

unwrapped : (least own a m : ℕ) → least ≤ own → a ≤ m → enclosed least own a ≤ m
unwrapped least own a m h k = after (enclosed least own a) (tight least own a h)
  where
    after : (x : ℕ) → x ≤ a → x ≤ m
    after x l = omega (arith, k, l)

pub joined : (p q m n : ℕ) → p ≤ m → q ≤ m → 1 + m ≤ n → 1 + max p q ≤ n
joined p q m n h k l = omega (arith, h, k, l)

pub no_rank_of_two : (a b : ℕ) → a ≡ 0 → b ≡ 0 → max a b ≡ 0
no_rank_of_two a b h k = omega arith

-- ---- limits

small : (n : ℕ) → nat_le n (2 ^ 40) ≡ true → n ≤ 2 ^ 40
small n h = leb-true n (2 ^ 40) h

literal : (n : ℕ) → n ≤ 2 ^ 40 → n < 2 ^ 127
literal n h = omega (arith, h)

counted : (c : ℤ) (cs : List ℤ) → (c ≡ pos 0 → ⊥) → not_zero (c ∷ cs) ≡ suc (not_zero cs)
counted c cs n = by (int_eq c (pos 0)) refl
  where
    by : (b : Bool) → int_eq c (pos 0) ≡ b → cond b (not_zero cs) (suc (not_zero cs)) ≡ suc (not_zero cs)
    by true e = absurd (n ((Decides-int_eq c (pos 0)).0 e))
    by false e = refl

one_counted : (s k j m : ℕ) → s + j ≤ k → j ≡ suc m → (s + 1) + m ≤ k
one_counted s k j m h e = omega (arith, h, e)

few : (loops most k : ℕ) (cs : List ℤ) → loops ≤ 7 → most + 18 ≤ k → nat_le (not_zero (drop loops cs)) 8 ≡ true
    → (most + 3) + not_zero cs ≤ k
few loops most k cs h room e =
    let behind : not_zero (drop loops cs) ≤ 8 = leb-true (not_zero (drop loops cs)) 8 e in
    let all = dropped loops cs in
    omega (arith, h, room, behind, all)

module _ (ds : List Declaration) where
  abbrev AreNumbers : ℕ → List Expression → Type 0
  AreNumbers most [] = Unit {0}
  AreNumbers most (e ∷ es) = IsNumber ds most e × AreNumbers most es

  deeper : (m n : ℕ) (e : Expression) → m ≤ n → IsNumber ds m e → IsNumber ds n e
  deeper m n e h s = record { kind = s.kind; rank = s.rank; depth = after (depth_of e) s.depth; binds = s.binds }
    where
      after : (d : ℕ) → d ≤ m → d ≤ n
      after d k = omega (arith, h, k)

  numbers_deeper : (m n : ℕ) (es : List Expression) → m ≤ n → AreNumbers m es → AreNumbers n es
  numbers_deeper m n [] h s = tt
  numbers_deeper m n (e ∷ es) h s = (deeper m n e h s.0, numbers_deeper m n es h s.1)

  and_number : (most : ℕ) (es : List Expression) (e : Expression) → AreNumbers most es → IsNumber ds most e
      → AreNumbers most (es ++ e ∷ [])
  and_number most [] e s i = (i, tt)
  and_number most (f ∷ es) e s i = (s.0, and_number most es e s.1 i)

  -- ---- variables and literals

  integer_name : (o : Option Declaration) → IsSomeAnd o (λ d. (d.kind ≡ Integer) × (rank_of_extent d.extent ≡ 0))
      → IsSomeAnd o (λ d. (Integer ≡ d.kind) × Unit {0})
  integer_name (Some d) h = (sym h.0, tt)
  integer_name None h = absurd h

  variable_is : (x : List ℕ) → IsIntegerScalar ds x → IsNumber ds 0 (variable x)
  variable_is x i = record {
    kind = (integer_name (declared ds x) i, tt);
    rank = no_rank (declared ds x) i;
    depth = omega arith;
    binds = omega arith;
  }

  variables_are : (names : List (List ℕ)) → ((x : List ℕ) → Contains names x → IsIntegerScalar ds x)
      → AreNumbers 0 (variables names)
  variables_are [] i = tt
  variables_are (x ∷ xs) i = (variable_is x (i x (here x xs)), variables_are xs (λ y h. i y (there x xs y h)))

  pub number_is : (n : ℕ) → n < 2 ^ 127 → IsNumber ds 0 (Number (pos n))
  number_is n h = record { kind = (h, refl); rank = refl; depth = omega arith; binds = omega arith }

  -- ---- sums of terms

  term_is : (most n : ℕ) (e : Expression) → n ≤ 2 ^ 40 → IsNumber ds most e → IsNumber ds (most + 2) (term n e)
  term_is most n e h i = by (n == 1)
    where
      by : (b : Bool) → IsNumber ds (most + 2) (cond b e (Binary Mul (Number (pos n)) e))
      by true = deeper most (most + 2) e (omega arith) i
      by false = record {
        kind = (refl, refl, (literal n h, refl), i.kind, inl refl);
        rank = no_rank_of_two 0 (rank_of ds e) refl i.rank;
        depth = joined 0 (enclosed 9 (level e) (depth_of e)) (most + 1) (most + 2) (omega arith)
            (wrapped 9 (level e) (depth_of e) most i.depth) (omega arith);
        binds = omega arith;
      }

  -- so far there are such terms, or none
  abbrev IsSoFar : ℕ → Option Expression → Type 0
  IsSoFar n None = Unit {0}
  IsSoFar n (Some e) = IsNumber ds n e

  so_far_deeper : (m n : ℕ) (o : Option Expression) → m ≤ n → IsSoFar m o → IsSoFar n o
  so_far_deeper m n None h s = tt
  so_far_deeper m n (Some e) h s = deeper m n e h s

  plus_is : (u s : ℕ) (o : Option Expression) (t : Expression) → u + 1 ≤ s → IsSoFar s o → IsNumber ds u t
      → IsNumber ds (s + 1) (plus_term o t)
  plus_is u s None t h j i = deeper u (s + 1) t (omega (arith, h)) i
  plus_is u s (Some e) t h j i = record {
    kind = (refl, refl, j.kind, i.kind, inl j.rank);
    rank = no_rank_of_two (rank_of ds e) (rank_of ds t) j.rank i.rank;
    depth = joined (enclosed 7 (level e) (depth_of e)) (enclosed 8 (level t) (depth_of t)) s (s + 1)
        (unwrapped 7 (level e) (depth_of e) s j.binds j.depth)
        (within (enclosed 8 (level t) (depth_of t)) (wrapped 8 (level t) (depth_of t) u i.depth)) (omega arith);
    binds = omega arith;
  }
    where
      within : (x : ℕ) → x ≤ u + 1 → x ≤ s
      within x k = omega (arith, h, k)

  minus_is : (u s : ℕ) (o : Option Expression) (t : Expression) → u + 1 ≤ s → IsSoFar s o → IsNumber ds u t
      → IsNumber ds (s + 1) (minus_term o t)
  minus_is u s None t h j i = record {
    kind = (refl, refl, i.kind);
    rank = i.rank;
    depth = one_more (enclosed 8 (level t) (depth_of t)) (wrapped 8 (level t) (depth_of t) u i.depth);
    binds = omega arith;
  }
    where
      one_more : (x : ℕ) → x ≤ u + 1 → 1 + x ≤ s + 1
      one_more x k = omega (arith, h, k)
  minus_is u s (Some e) t h j i = record {
    kind = (refl, refl, j.kind, i.kind, inl j.rank);
    rank = no_rank_of_two (rank_of ds e) (rank_of ds t) j.rank i.rank;
    depth = joined (enclosed 7 (level e) (depth_of e)) (enclosed 8 (level t) (depth_of t)) s (s + 1)
        (unwrapped 7 (level e) (depth_of e) s j.binds j.depth)
        (within (enclosed 8 (level t) (depth_of t)) (wrapped 8 (level t) (depth_of t) u i.depth)) (omega arith);
    binds = omega arith;
  }
    where
      within : (x : ℕ) → x ≤ u + 1 → x ≤ s
      within x k = omega (arith, h, k)

  -- terms after the first `n`, where k bounds the depth of all
  terms_are : (most s k : ℕ) (cs : List ℤ) (ts : List Expression) (o : Option Expression) → all_small cs ≡ true
      → AreNumbers most ts → most + 3 ≤ s → s + not_zero cs ≤ k → IsSoFar s o
      → IsSoFar k (with_terms o cs ts)
  terms_are most s k [] ts o a i l h j = so_far_deeper s k o (omega (arith, h)) j
  terms_are most s k (c ∷ cs) [] o a i l h j = so_far_deeper s k o (within (not_zero (c ∷ cs)) h) j
    where
      within : (n : ℕ) → s + n ≤ k → s ≤ k
      within n g = omega (arith, g)
  terms_are most s k (pos zero ∷ cs) (t ∷ ts) o a i l h j = terms_are most s k cs ts o
      (both (is_small (pos zero)) (all_small cs) a).1 i.1 l h j
  terms_are most s k (pos (suc m) ∷ cs) (t ∷ ts) o a i l h j =
      let parts = both (is_small (pos (suc m))) (all_small cs) a in
      terms_are most (s + 1) k cs ts (with_term o (pos (suc m)) t) parts.1 i.1 (omega (arith, l))
      (one_counted s k (not_zero (pos (suc m) ∷ cs)) (not_zero cs) h (counted (pos (suc m)) cs (λ e. cc)))
      (plus_is (most + 2) s o (term (suc m) t) (omega (arith, l)) j
      (term_is most (suc m) t (small (suc m) parts.0) i.0))
  terms_are most s k (negsuc m ∷ cs) (t ∷ ts) o a i l h j =
      let parts = both (is_small (negsuc m)) (all_small cs) a in
      terms_are most (s + 1) k cs ts (with_term o (negsuc m) t) parts.1 i.1 (omega (arith, l))
      (one_counted s k (not_zero (negsuc m ∷ cs)) (not_zero cs) h (counted (negsuc m) cs (λ e. cc)))
      (minus_is (most + 2) s o (term (suc m) t) (omega (arith, l)) j
      (term_is most (suc m) t (small (suc m) parts.0) i.0))

  small_is : (n : ℕ) → n ≤ 2 ^ 40 → IsNumber ds 0 (Number (pos n))
  small_is n h = number_is n (literal n h)

  constant_joins : (s : ℕ) (o : Option Expression) (z : ℤ) → 1 ≤ s → is_small z ≡ true → IsSoFar s o
      → IsNumber ds (s + 1) (with_constant o z)
  constant_joins s None (pos m) h a j = plus_is 0 s None (Number (pos m)) h tt (small_is m (small m a))
  constant_joins s None (negsuc m) h a j = minus_is 0 s None (Number (pos (suc m))) h tt
      (small_is (suc m) (small (suc m) a))
  constant_joins s (Some e) (pos zero) h a j = so_far_deeper s (s + 1) (Some e) (omega arith) j
  constant_joins s (Some e) (pos (suc m)) h a j = plus_is 0 s (Some e) (Number (pos (suc m))) h j
      (small_is (suc m) (small (suc m) a))
  constant_joins s (Some e) (negsuc m) h a j = minus_is 0 s (Some e) (Number (pos (suc m))) h j
      (small_is (suc m) (small (suc m) a))

  text_is : (loops most k : ℕ) (ts : List Expression) (f : Form) → loops ≤ 7 → most + 18 ≤ k → AreNumbers most ts
      → is_limited loops f ≡ true → IsNumber ds (k + 1) (expressed ts f)
  text_is loops most k ts f h room i l =
      let eight = nat_le (not_zero (drop loops f.coefficients)) 8 in
      let parts = both (all_small f.coefficients) (is_small f.constant && eight) l in
      let others = both (is_small f.constant) eight parts.1 in
      constant_joins k (with_terms None f.coefficients ts) f.constant (omega (arith, room)) others.0
      (terms_are most (most + 3) k f.coefficients ts None parts.0 i (omega arith)
      (few loops most k f.coefficients h room others.1) tt)

  number_text_is : (z : ℤ) → is_small z ≡ true → IsNumber ds 2 (number_text z)
  number_text_is z h = constant_joins 1 None z (omega arith) h tt

  -- ---- trips

  trip_is : (loops : ℕ) (names : List (List ℕ)) (t : FormTrip) → loops ≤ 7 → AreNumbers 0 (variables names)
      → is_limited loops t.form ≡ true → t.divisor < 2 ^ 127 → IsNumber ds 21 (form_trip_text names t)
  trip_is loops names t h i l d = by (t.divisor == 1)
    where
      whole : Expression
      whole = expressed (variables names) t.form

      text : IsNumber ds 19 whole
      text = text_is loops 0 18 (variables names) t.form h (omega arith) i l

      by : (b : Bool) → IsNumber ds 21 (cond b whole (Binary Div whole (Number (pos t.divisor))))
      by true = deeper 19 21 whole (omega arith) text
      by false = record {
        kind = (refl, refl, text.kind, (d, refl), inl text.rank);
        rank = no_rank_of_two (rank_of ds whole) 0 text.rank refl;
        depth = joined (enclosed 8 (level whole) (depth_of whole)) 0 20 21
            (wrapped 8 (level whole) (depth_of whole) 19 text.depth) (omega arith) (omega arith);
        binds = omega arith;
      }

  -- ---- the bounds of a section

  sum_text_is : (loops : ℕ) (ts : List Expression) (first : Expression) (f r : Form) → loops ≤ 7 → AreNumbers 21 ts
      → IsNumber ds 24 first → is_limited loops r ≡ true → IsNumber ds 42 (sum_text loops ts first f r)
  sum_text_is loops ts first f r h i s l = by (is_limited loops (sum f r)) refl
    where
      by : (b : Bool) → is_limited loops (sum f r) ≡ b
          → IsNumber ds 42 (cond b (expressed ts (sum f r)) (Binary Add first (expressed ts r)))
      by true e = deeper 40 42 (expressed ts (sum f r)) (omega arith)
          (text_is loops 21 39 ts (sum f r) h (omega arith) i e)
      by false e =
          let text : IsNumber ds 40 (expressed ts r) = text_is loops 21 39 ts r h (omega arith) i l in
          plus_is 40 41 (Some first) (expressed ts r) (omega arith) (deeper 24 41 first (omega arith) s) text

  product_is : (a t : Expression) → IsNumber ds 2 a → IsNumber ds 21 t → IsNumber ds 24 (Binary Mul a t)
  product_is a t i j = record {
    kind = (refl, refl, i.kind, j.kind, inl i.rank);
    rank = no_rank_of_two (rank_of ds a) (rank_of ds t) i.rank j.rank;
    depth = joined (enclosed 8 (level a) (depth_of a)) (enclosed 9 (level t) (depth_of t)) 22 24
        (less (enclosed 8 (level a) (depth_of a)) (wrapped 8 (level a) (depth_of a) 2 i.depth))
        (wrapped 9 (level t) (depth_of t) 21 j.depth) (omega arith);
    binds = omega arith;
  }
    where
      less : (x : ℕ) → x ≤ 3 → x ≤ 22
      less x k = omega (arith, k)

  module _ (a : FormSurroundings) (w : IsWritable ds a) where
    pub trip_of_loop : (l : FormLoop) → Contains a.loops l → IsNumber ds 21 (form_trip_text (form_names_of a) l.trip)
    trip_of_loop l c = trip_is (length a.loops) (form_names_of a) l.trip w.few (variables_are (form_names_of a) w.integers)
        (w.limits l c) (w.divisors l c).1

    pub section_is : (l : FormLoop) (f : Form) → Contains a.loops l → is_limited (length a.loops) f ≡ true
        → IsSubscript ds (section a l f) × (depth_of_subscript (section a l f) ≤ 42)
    section_is l f c h =
        let names = form_names_of a in
        let trip = trip_of_loop l c in
        let z = coefficient names l.variable f.coefficients in
        let r = form_without names l.variable f in
        let ts = terms_with names l.trip in
        let terms : AreNumbers 21 ts = and_number 21 (variables names) (form_trip_text names l.trip)
        (numbers_deeper 0 21 (variables names) (omega arith) (variables_are names w.integers)) trip in
        let parts = both (all_small f.coefficients)
        (is_small f.constant && nat_le (not_zero (drop (length a.loops) f.coefficients)) 8) h in
        let step = number_text_is z (coefficient_small names l.variable f.coefficients parts.0) in
        let rest = without_limited (length a.loops) names l.variable f h in
        let product = Binary Mul (number_text z) (form_trip_text names l.trip) in
        let lower = sum_text_is (length a.loops) ts (number_text z) (constant_form z) r w.few terms
        (deeper 2 24 (number_text z) (omega arith) step) rest in
        let upper = sum_text_is (length a.loops) ts product (multiple z (form_of_trip names l.trip)) r w.few terms
        (product_is (number_text z) (form_trip_text names l.trip) step trip) rest in
        let first = sum_text (length a.loops) ts (number_text z) (constant_form z) r in
        let last = sum_text (length a.loops) ts product (multiple z (form_of_trip names l.trip)) r in (
          ((lower.kind, lower.rank), (upper.kind, upper.rank), (step.kind, step.rank)),
          deep (depth_of first) (depth_of last) (depth_of (number_text z)) lower.depth upper.depth step.depth,
        )
      where
        deep : (p q s : ℕ) → p ≤ 42 → q ≤ 42 → s ≤ 2 → max p (max q s) ≤ 42
        deep p q s i j k = omega (arith, i, j, k)
