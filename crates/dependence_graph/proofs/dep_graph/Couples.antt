-- Two kept references are two references of the nest, as they are tested.
use Rattle.std.proofs.Common.{◌≡◌, ℕ, zero, suc, ◌+◌, ◌-◌, ◌<◌, ◌≤◌, refl, sym, ap, ap₂, ◌∙◌, subst, arith, Option, Some, None, Bool, true, false, cond, eqb, List, [], ◌∷◌, ◌++◌, length, map, take, get_or, replicate}
use Rattle.std.specs.Prelude.{ℤ, pos, All, IfSome, IsSome, IsTrue, nat_le, nat_lt}
use Rattle.std.proofs.lemmas.List.{length-append, length-map, length-replicate, length-take}
use Rattle.std.proofs.lemmas.List.Elements.{All-append, All-cons, All-head, All-nil, All-replicate, All-tail}
use Rattle.tree.specs.Limits.{nest_depth}
use Rattle.tree.specs.Plain.{Expression, Number, Logic, Named, Unary, Binary, Apply, Constructor, Spread, Transpose, Reshape, Reduce, Only, Section, Subscript, Subscripts, no_subscripts, subscript, Reference}
use Rattle.subscripts.specs.Iterations.{once}
use Rattle.subscripts.specs.Shapes.{AreSpans, IsForm}
use Rattle.subscripts.specs.declared.affine.Affine.{Affine}
use Rattle.subscripts.specs.declared.affine.Span.{Span}
use Rattle.subscripts.specs.declared.pairing.Pairing.{Pairing}
use Rattle.linear_forms.specs.Linear.{Form, constant_form, constant_of, constant_or, form_of, form_of_name, form_of_pair, form_of_sign, is_limited, linear}
use Rattle.linear_forms.specs.Affines.{IsAffineOf, IsFound}
use Rattle.linear_forms.proofs.Faultless.{limited-holds}
use Rattle.linear_forms.proofs.PartLaws.{zero_affine}
use Rattle.nest.specs.Bodies.{Standing}
use Rattle.nest.specs.Plain.{Loop}
use Rattle.direction_vectors.specs.vector_tests.Refs.{IsRefPair, IsSubscriptOf, padded}
use Rattle.direction_vectors.specs.declared.vector_tests.refs.RefPair.{RefPair}
use Rattle.dependence_graph.specs.nest_graph.References.{variables_round}
use Rattle.dependence_graph.specs.nest_graph.Ready.{AreElements, HaveTrips, subscript_count}
use Rattle.dependence_graph.specs.nest_graph.Indices.{SubscriptPair, linear_subscript_form, paired_forms, pairs_in}
use Rattle.dependence_graph.specs.nest_graph.Paired.{affine_of, pairing_from, refs_of, seven, unknown_of, unknown_pairing}
use Rattle.dependence_graph.specs.nest_graph.Tested.{Both, common_of}
use Rattle.dependence_graph.specs.nest_references.Occurrences.{AreFormsIn, HasSevenLoops, IsFormIn, IsOccurrenceOf}
use Rattle.dependence_graph.specs.declared.nest_references.occurrences.Occurrence.{Occurrence}
use Rattle.dependence_graph.specs.loop_spans.Greatest.{AreSpansOf}
use Rattle.dependence_graph.proofs.loop_spans.TurnLaws.{HaveSameLoops, same_spans, spans_are, spans_end, spans_length}
use Rattle.dependence_graph.specs.dep_graph.Joined.{blank_pairing, common_numbers, pairing_with, pairings_with, ref_pair_of, zero_form}
use Rattle.dependence_graph.proofs.dep_graph.Shapes.{affine_is_form}

-- ---- common loops

pub common_is : (ls ms : List Loop) → common_numbers (map (λ (l : Loop). l.number) ls) (map (λ (l : Loop). l.number) ms) ≡ common_of ls ms
common_is [] ms = refl
common_is (l ∷ ls) [] = refl
common_is (l ∷ ls) (m ∷ ms) = ap (λ (k : ℕ). cond (eqb l.number m.number) (suc k) 0) (common_is ls ms)

pub common_first : (ls ms : List Loop) → common_of ls ms ≤ length ls
common_first [] ms = omega arith
common_first (l ∷ ls) [] = omega arith
common_first (l ∷ ls) (m ∷ ms) = by (eqb l.number m.number) (common_first ls ms)
  where
    by : (b : Bool) → common_of ls ms ≤ length ls → cond b (suc (common_of ls ms)) 0 ≤ suc (length ls)
    by true e = omega arith
    by false e = omega arith

pub common_second : (ls ms : List Loop) → common_of ls ms ≤ length ms
common_second [] ms = omega arith
common_second (l ∷ ls) [] = omega arith
common_second (l ∷ ls) (m ∷ ms) = by (eqb l.number m.number) (common_second ls ms)
  where
    by : (b : Bool) → common_of ls ms ≤ length ms → cond b (suc (common_of ls ms)) 0 ≤ suc (length ms)
    by true e = omega arith
    by false e = omega arith

-- ---- forms

linear_limited : (n : ℕ) (names : List (List ℕ)) (e : Expression) (f : Form) → linear n names e ≡ Some f → is_limited n f ≡ true
linear_limited n names (Number m) f h = limited-holds n (constant_or (constant_of (Number m)) None) f h
linear_limited n names (Logic b) f h = cc
linear_limited n names (Named x ps) f h = limited-holds n (form_of_name names x ps) f h
linear_limited n names (Unary o a) f h = limited-holds n (constant_or (constant_of (Unary o a)) (form_of_sign o (linear n names a))) f h
linear_limited n names (Binary o a b) f h =
    limited-holds n (constant_or (constant_of (Binary o a b)) (form_of_pair o (constant_of a) (constant_of b) (linear n names a) (linear n names b))) f h
linear_limited n names (Apply c es) f h = limited-holds n (constant_or (constant_of (Apply c es)) None) f h
linear_limited n names (Constructor es ls) f h = cc
linear_limited n names (Spread a i b) f h = cc
linear_limited n names (Transpose a) f h = cc
linear_limited n names (Reshape a es) f h = cc
linear_limited n names (Reduce r a) f h = cc

form_limited : (loops symbols : List (List ℕ)) (e : Expression) (f : Form) → form_of loops symbols e ≡ Some f → is_limited (length loops) f ≡ true
form_limited loops symbols e f h = by (nat_le (length loops) nest_depth) h
  where
    by : (b : Bool) → cond b (linear (length loops) (loops ++ symbols) e) None ≡ Some f → is_limited (length loops) f ≡ true
    by true g = linear_limited (length loops) (loops ++ symbols) e f g
    by false g = cc

found_form : (n : ℕ) (loops symbols : List (List ℕ)) (e : Expression) (a : Affine) → n ≡ length loops → IsFound (length loops) (form_of loops symbols e) (Some a) → IsForm n a
found_form n loops symbols e a m h = by (form_of loops symbols e) refl h
  where
    by : (o : Option Form) → form_of loops symbols e ≡ o → IsFound (length loops) o (Some a) → IsForm n a
    by None g i = absurd i
    by (Some f) g i = subst (λ (k : ℕ). IsForm k a) (sym m) (affine_is_form (length loops) f a (form_limited loops symbols e f g) i)

zero_limited : (n : ℕ) → is_limited n (constant_form (pos 0)) ≡ true
zero_limited zero = refl
zero_limited (suc n) = refl

zero_is_form : (n : ℕ) → IsForm n zero_form
zero_is_form n = affine_is_form n (constant_form (pos 0)) zero_form (zero_limited n) (zero_affine n)

-- ---- the pairs of subscripts

formed_count : (loops symbols : List (List ℕ)) (rs : Subscripts) (ps : List (Option Affine)) → AreFormsIn loops symbols rs ps → length ps ≡ subscript_count rs
formed_count loops symbols no_subscripts [] h = refl
formed_count loops symbols no_subscripts (p ∷ ps) h = absurd h
formed_count loops symbols (subscript r rs) [] h = absurd h
formed_count loops symbols (subscript r rs) (p ∷ ps) h = ap suc (formed_count loops symbols rs ps h.1)

pub same_count : (first second symbols : List (List ℕ)) (rs us : Subscripts) (ps qs : List (Option Affine)) → AreFormsIn first symbols rs ps → AreFormsIn second symbols us qs
    → subscript_count rs ≡ subscript_count us → length ps ≡ length qs
same_count first second symbols rs us ps qs h k e = formed_count first symbols rs ps h ∙ e ∙ sym (formed_count second symbols us qs k)

pairs_count : (blank : Pairing) (ps qs : List (Option Affine)) → length (pairings_with blank ps qs) ≤ length ps
pairs_count blank [] qs = omega arith
pairs_count blank (p ∷ ps) [] = omega arith
pairs_count blank (p ∷ ps) (q ∷ qs) = let e = pairs_count blank ps qs in omega arith

-- each subscript's form, by its number of loops
pub record IsGoodForm (n : ℕ) (a : Affine) : Type 0 where
  pub form : IsForm n a
  pub seven : length a.loops ≡ 7

abbrev pub AreGood : ℕ → List (Option Affine) → Type 0
AreGood n ps = All (λ (p : Option Affine). IfSome p (IsGoodForm n)) ps

good_forms : (n : ℕ) (loops symbols : List (List ℕ)) (rs : Subscripts) (ps : List (Option Affine)) → n ≡ length loops → AreFormsIn loops symbols rs ps → All HasSevenLoops ps
    → AreGood n ps
good_forms n loops symbols no_subscripts [] m h s = All-nil (λ (p : Option Affine). IfSome p (IsGoodForm n))
good_forms n loops symbols no_subscripts (p ∷ ps) m h s = absurd h
good_forms n loops symbols (subscript r rs) [] m h s = absurd h
good_forms n loops symbols (subscript r rs) (p ∷ ps) m h s =
    All-cons (λ (o : Option Affine). IfSome o (IsGoodForm n)) p ps (one r p h.0 (All-head HasSevenLoops p ps s)) (good_forms n loops symbols rs ps m h.1 (All-tail HasSevenLoops p ps s))
  where
    one : (t : _) (o : Option Affine) → IsFormIn loops symbols t o → HasSevenLoops o → IfSome o (IsGoodForm n)
    one t None i j = tt
    one (Only e) (Some a) i j = record { form = found_form n loops symbols e a m i; seven = j }
    one (Section x y z) (Some a) i j = cc

padded_spans : (ss : List Span) → length ss ≤ 7 → All (λ (s : Span). IsTrue s.fixed → IsSome s.last) ss → AreSpans (length ss) (padded ss)
padded_spans ss h e = record {
  past_depth = λ k l. past ss (7 - length ss) k l;
  fixed = All-append (λ (s : Span). IsTrue s.fixed → IsSome s.last) ss (replicate (7 - length ss) once) e
      (All-replicate (λ (s : Span). IsTrue s.fixed → IsSome s.last) (7 - length ss) once (λ t. refl));
}
  where
    ones : (m k : ℕ) → get_or (replicate m once) k once ≡ once
    ones zero k = refl
    ones (suc m) zero = refl
    ones (suc m) (suc k) = ones m k

    past : (ts : List Span) (m k : ℕ) → length ts ≤ k → get_or (ts ++ replicate m once) k once ≡ once
    past [] m k l = ones m k
    past (t ∷ ts) m zero l = absurd (omega arith)
    past (t ∷ ts) m (suc k) l = past ts m k (omega arith)

padded_length : (ss : List Span) → length ss ≤ 7 → length (padded ss) ≡ 7
padded_length ss h = length-append ss (replicate (7 - length ss) once) ∙ ap (λ (m : ℕ). length ss + m) (length-replicate (7 - length ss) once) ∙ omega arith

padded_at : (ss : List Span) (m k : ℕ) → k < length ss → get_or (ss ++ replicate m once) k once ≡ get_or ss k once
padded_at [] m k h = absurd (omega arith)
padded_at (s ∷ ss) m zero h = refl
padded_at (s ∷ ss) m (suc k) h = padded_at ss m k (omega arith)

-- what two lists of spans are to each other
pub record AreBeside (common : ℕ) (as' bs : List Span) : Type 0 where
  pub first : length as' ≤ 7
  pub second : length bs ≤ 7
  pub common_first : common ≤ length as'
  pub common_second : common ≤ length bs
  pub first_ends : All (λ (s : Span). IsTrue s.fixed → IsSome s.last) as'
  pub second_ends : All (λ (s : Span). IsTrue s.fixed → IsSome s.last) bs
  pub same : (k : ℕ) → k < common → get_or as' k once ≡ get_or bs k once

module _ (a b : Occurrence) (beside : AreBeside (common_numbers a.loops b.loops) a.spans b.spans) where
  with_forms : (f g : Affine) (known : Bool) → IsGoodForm (length a.spans) f → IsGoodForm (length b.spans) g
      → IsSubscriptOf (ref_pair_of a b) (record (blank_pairing a b) { from = f; to = g; known = known })
  with_forms f g known h k = record {
    pairing = record {
      from_common = beside.common_first;
      to_common = beside.common_second;
      from_depth = beside.first;
      to_depth = beside.second;
      from = h.form;
      to = k.form;
      from_spans = padded_spans a.spans beside.first beside.first_ends;
      to_spans = padded_spans b.spans beside.second beside.second_ends;
      common_spans = λ m l.
          let p = beside.common_first in let q = beside.common_second in
          padded_at a.spans (7 - length a.spans) m (omega arith) ∙ beside.same m l ∙ sym (padded_at b.spans (7 - length b.spans) m (omega arith));
    };
    places = record {
      from_loops = h.seven;
      to_loops = k.seven;
      from_spans = padded_length a.spans beside.first;
      to_spans = padded_length b.spans beside.second;
    };
    common = refl;
    from_depth = refl;
    to_depth = refl;
    from_spans = refl;
    to_spans = refl;
  }

  zero_good : (n : ℕ) → IsGoodForm n zero_form
  zero_good n = record { form = zero_is_form n; seven = refl }

  one_subscript : (p q : Option Affine) → IfSome p (IsGoodForm (length a.spans)) → IfSome q (IsGoodForm (length b.spans))
      → IsSubscriptOf (ref_pair_of a b) (pairing_with (blank_pairing a b) p q)
  one_subscript None q h k = with_forms zero_form zero_form false (zero_good (length a.spans)) (zero_good (length b.spans))
  one_subscript (Some f) None h k = with_forms zero_form zero_form false (zero_good (length a.spans)) (zero_good (length b.spans))
  one_subscript (Some f) (Some g) h k = with_forms f g true h k

  all_subscripts : (ps qs : List (Option Affine)) → AreGood (length a.spans) ps → AreGood (length b.spans) qs
      → All (IsSubscriptOf (ref_pair_of a b)) (pairings_with (blank_pairing a b) ps qs)
  all_subscripts [] qs h k = All-nil (IsSubscriptOf (ref_pair_of a b))
  all_subscripts (p ∷ ps) [] h k = All-nil (IsSubscriptOf (ref_pair_of a b))
  all_subscripts (p ∷ ps) (q ∷ qs) h k =
      All-cons (IsSubscriptOf (ref_pair_of a b)) (pairing_with (blank_pairing a b) p q) (pairings_with (blank_pairing a b) ps qs)
      (one_subscript p q (All-head (λ (o : Option Affine). IfSome o (IsGoodForm (length a.spans))) p ps h) (All-head (λ (o : Option Affine). IfSome o (IsGoodForm (length b.spans))) q qs k))
      (all_subscripts ps qs (All-tail (λ (o : Option Affine). IfSome o (IsGoodForm (length a.spans))) p ps h) (All-tail (λ (o : Option Affine). IfSome o (IsGoodForm (length b.spans))) q qs k))

  pub is_ref_pair : length a.forms ≤ 7 → AreGood (length a.spans) a.forms → AreGood (length b.spans) b.forms → IsRefPair (ref_pair_of a b)
  is_ref_pair c h k = record {
    count = let e = pairs_count (blank_pairing a b) a.forms b.forms in omega arith;
    subscripts = all_subscripts a.forms b.forms h k;
    from_common = beside.common_first;
    to_common = beside.common_second;
    from_depth = beside.first;
    to_depth = beside.second;
    common_spans = beside.same;
    from_ends = beside.first_ends;
    to_ends = beside.second_ends;
  }

-- ---- both references of a nest

pub record AreReadyStatements (s t : Standing) (r u : Reference) : Type 0 where
  pub first_depth : length s.loops ≤ 7
  pub second_depth : length t.loops ≤ 7
  pub first_trips : HaveTrips 0 s.loops
  pub second_trips : HaveTrips 0 t.loops
  pub first_elements : AreElements r.subscripts
  pub second_elements : AreElements u.subscripts
  pub dimensions : subscript_count r.subscripts ≤ 7
  pub ranks : subscript_count r.subscripts ≡ subscript_count u.subscripts
  pub same_loops : HaveSameLoops s.loops t.loops

module _ (symbols : List (List ℕ)) (s t : Standing) (r u : Reference) (a b : Occurrence) (h : IsOccurrenceOf symbols s r a) (k : IsOccurrenceOf symbols t u b) (w : AreReadyStatements s t r u) where
  pub common_numbers_is : common_numbers a.loops b.loops ≡ common_of s.loops t.loops
  common_numbers_is = ap₂ common_numbers h.loops k.loops ∙ common_is s.loops t.loops

  pub first_spans : AreSpansOf [] s.loops a.spans
  first_spans = subst (λ (ss : List Span). AreSpansOf [] s.loops ss) (sym h.spans) (spans_are 0 [] s.loops w.first_trips)

  pub second_spans : AreSpansOf [] t.loops b.spans
  second_spans = subst (λ (ss : List Span). AreSpansOf [] t.loops ss) (sym k.spans) (spans_are 0 [] t.loops w.second_trips)

  pub first_length : length a.spans ≡ length s.loops
  first_length = spans_length [] s.loops a.spans first_spans

  pub second_length : length b.spans ≡ length t.loops
  second_length = spans_length [] t.loops b.spans second_spans

  pub are_beside : AreBeside (common_numbers a.loops b.loops) a.spans b.spans
  are_beside =
      let c = common_numbers_is in let p = common_first s.loops t.loops in let q = common_second s.loops t.loops in
      let m = first_length in let n = second_length in let d = w.first_depth in let e = w.second_depth in
      record {
        first = omega arith;
        second = omega arith;
        common_first = omega arith;
        common_second = omega arith;
        first_ends = spans_end 0 [] s.loops a.spans w.first_trips first_spans;
        second_ends = spans_end 0 [] t.loops b.spans w.second_trips second_spans;
        same = λ j l. same_spans 0 [] s.loops t.loops a.spans b.spans w.first_trips first_spans second_spans w.same_loops j (omega arith);
      }

  pub kept_ref_pair : IsRefPair (ref_pair_of a b)
  kept_ref_pair =
      let n : length a.spans ≡ length (variables_round s) = first_length ∙ sym (length-map s.loops (λ (l : Loop). l.variable)) in
      let m : length b.spans ≡ length (variables_round t) = second_length ∙ sym (length-map t.loops (λ (l : Loop). l.variable)) in
      let c = formed_count (variables_round s) symbols r.subscripts a.forms h.forms in let d = w.dimensions in
      is_ref_pair a b are_beside (omega arith)
      (good_forms (length a.spans) (variables_round s) symbols r.subscripts a.forms n h.forms h.seven)
      (good_forms (length b.spans) (variables_round t) symbols u.subscripts b.forms m k.forms k.seven)

  pub kept_rank : length a.forms ≡ length b.forms
  kept_rank = same_count (variables_round s) (variables_round t) symbols r.subscripts u.subscripts a.forms b.forms h.forms k.forms w.ranks

  pub kept_depth : length a.loops ≡ length a.spans
  kept_depth = ap length h.loops ∙ length-map s.loops (λ (l : Loop). l.number) ∙ sym first_length

-- ---- the pairs of subscripts are the nest's

same_numbers : (xs ys : List ℤ) → length xs ≡ length ys → ((k : ℕ) → get_or xs k (pos 0) ≡ get_or ys k (pos 0)) → xs ≡ ys
same_numbers [] [] h f = refl
same_numbers [] (y ∷ ys) h f = absurd (omega arith)
same_numbers (x ∷ xs) [] h f = absurd (omega arith)
same_numbers (x ∷ xs) (y ∷ ys) h f = ap₂ (λ (z : ℤ) (zs : List ℤ). z ∷ zs) (f 0) (same_numbers xs ys (omega arith) (λ k. f (suc k)))

zeros_at : (m k : ℕ) → get_or (replicate m (pos 0)) k (pos 0) ≡ pos 0
zeros_at zero k = refl
zeros_at (suc m) zero = refl
zeros_at (suc m) (suc k) = zeros_at m k

with_zeros_at : (cs : List ℤ) (m k : ℕ) → get_or (cs ++ replicate m (pos 0)) k (pos 0) ≡ get_or cs k (pos 0)
with_zeros_at [] m k = zeros_at m k
with_zeros_at (c ∷ cs) m zero = refl
with_zeros_at (c ∷ cs) m (suc k) = with_zeros_at cs m k

seven_long : (cs : List ℤ) → length cs ≤ 7 → length (seven cs) ≡ 7
seven_long cs h =
    length-append cs (replicate (7 - length cs) (pos 0)) ∙ ap (λ (m : ℕ). length cs + m) (length-replicate (7 - length cs) (pos 0)) ∙ omega arith

affine_is : (n : ℕ) (f : Form) (a : Affine) → n ≤ 7 → IsAffineOf n f a → length a.loops ≡ 7 → a ≡ affine_of n f
affine_is n f a m h l =
    let cs = take n f.coefficients in
    let few : length cs ≤ 7 = (let e = length-take n f.coefficients in omega (arith, e)) in
    let loops : a.loops ≡ seven cs = same_numbers a.loops (seven cs) (l ∙ sym (seven_long cs few)) (λ k. h.loops k ∙ sym (with_zeros_at cs (7 - length cs) k)) in
    ap (λ (zs : List ℤ). record { loops = zs; syms = a.syms; constant = a.constant }) loops
    ∙ ap₂ (λ (ts : List (ℕ × ℤ)) (z : ℤ). record { loops = seven cs; syms = ts; constant = z }) h.symbols h.constant

-- a form that is found, and its affine form
abbrev as_affine : ℕ → Option Form → Option Affine
as_affine n None = None
as_affine n (Some f) = Some (affine_of n f)

found_is : (n : ℕ) (o : Option Form) (p : Option Affine) → n ≤ 7 → IsFound n o p → HasSevenLoops p → p ≡ as_affine n o
found_is n None None m h l = refl
found_is n None (Some a) m h l = absurd h
found_is n (Some f) None m h l = absurd h
found_is n (Some f) (Some a) m h l = ap (λ (z : Affine). Some z) (affine_is n f a m h l)

form_is : (loops symbols : List (List ℕ)) (s : Subscript) (p : Option Affine) → length loops ≤ 7 → IsFormIn loops symbols s p → HasSevenLoops p
    → p ≡ as_affine (length loops) (linear_subscript_form loops symbols s)
form_is loops symbols (Only e) p m h l = found_is (length loops) (form_of loops symbols e) p m h l
form_is loops symbols (Section a b c) p m h l = h

both_forms : (blank : Pairing) (m n : ℕ) (f g : Option Form) → pairing_with blank (as_affine m f) (as_affine n g) ≡ pairing_from blank m n (paired_forms f g)
both_forms blank m n None g = refl
both_forms blank m n (Some f) None = refl
both_forms blank m n (Some f) (Some g) = refl

module _ (b : Both) (blank : Pairing) (few : length (variables_round b.first) ≤ 7) (fewer : length (variables_round b.second) ≤ 7) where
  abbrev first : List (List ℕ)
  first = variables_round b.first

  abbrev second : List (List ℕ)
  second = variables_round b.second

  one_pairing : (s t : Subscript) (p q : Option Affine) → IsFormIn first b.symbols s p → IsFormIn second b.symbols t q → HasSevenLoops p → HasSevenLoops q
      → pairing_with blank p q ≡ pairing_from blank (length first) (length second) (paired_forms (linear_subscript_form first b.symbols s) (linear_subscript_form second b.symbols t))
  one_pairing s t p q h k l m =
      ap₂ (pairing_with blank) (form_is first b.symbols s p few h l) (form_is second b.symbols t q fewer k m)
      ∙ both_forms blank (length first) (length second) (linear_subscript_form first b.symbols s) (linear_subscript_form second b.symbols t)

  abbrev each_pairing : Option SubscriptPair → Pairing
  each_pairing o = pairing_from blank (length first) (length second) o

  pub all_pairings : (rs us : Subscripts) (ps qs : List (Option Affine)) → AreFormsIn first b.symbols rs ps → AreFormsIn second b.symbols us qs
      → All HasSevenLoops ps → All HasSevenLoops qs → pairings_with blank ps qs ≡ map each_pairing (pairs_in b rs us)
  all_pairings no_subscripts us [] qs h k l m = refl
  all_pairings no_subscripts us (p ∷ ps) qs h k l m = absurd h
  all_pairings (subscript r rs) us [] qs h k l m = absurd h
  all_pairings (subscript r rs) no_subscripts (p ∷ ps) [] h k l m = refl
  all_pairings (subscript r rs) no_subscripts (p ∷ ps) (q ∷ qs) h k l m = absurd k
  all_pairings (subscript r rs) (subscript u us) (p ∷ ps) [] h k l m = absurd k
  all_pairings (subscript r rs) (subscript u us) (p ∷ ps) (q ∷ qs) h k l m =
      ap₂ (λ (x : Pairing) (xs : List Pairing). x ∷ xs) (one_pairing r u p q h.0 k.0 (All-head HasSevenLoops p ps l) (All-head HasSevenLoops q qs m))
      (all_pairings rs us ps qs h.1 k.1 (All-tail HasSevenLoops p ps l) (All-tail HasSevenLoops q qs m))

-- ---- both references as the nest has them

-- two references with these loops, spans and subscripts
abbrev given : ℕ → List Span → List Span → List Pairing → Bool → RefPair
given common from to subs turn = record { subs = subs; from_spans = from; to_spans = to; common = common; same_turn = turn }

module _ (symbols : List (List ℕ)) (s t : Standing) (r u : Reference) (a b : Occurrence) (h : IsOccurrenceOf symbols s r a) (k : IsOccurrenceOf symbols t u b) (w : AreReadyStatements s t r u) where
  abbrev pub kept_both : Both
  kept_both = record { symbols = symbols; first = s; second = t; first_reference = r; second_reference = u }

  round_few : (z : Standing) → length z.loops ≤ 7 → length (variables_round z) ≤ 7
  round_few z d = let e = length-map z.loops (λ (l : Loop). l.variable) in omega (arith, d, e)

  blank_is : blank_pairing a b ≡ unknown_of kept_both
  blank_is =
      ap (λ (c : ℕ). unknown_pairing c a.spans b.spans) (common_numbers_is symbols s t r u a b h k w)
      ∙ ap₂ (λ (x y : List Span). unknown_pairing (common_of s.loops t.loops) x y) h.spans k.spans

  abbrev paired_with : Pairing → List Pairing
  paired_with z = map (pairing_from z (length (variables_round s)) (length (variables_round t))) (pairs_in kept_both r.subscripts u.subscripts)

  subs_are : pairings_with (blank_pairing a b) a.forms b.forms ≡ paired_with (unknown_of kept_both)
  subs_are =
      all_pairings kept_both (blank_pairing a b) (round_few s w.first_depth) (round_few t w.second_depth) r.subscripts u.subscripts a.forms b.forms h.forms k.forms h.seven k.seven
      ∙ ap paired_with blank_is

  pub pair_is : ref_pair_of a b ≡ refs_of kept_both (nat_lt a.place.stmt b.place.stmt)
  pair_is =
      ap₂ (λ (c : ℕ) (ps : List Pairing). given c a.spans b.spans ps (nat_lt a.place.stmt b.place.stmt)) (common_numbers_is symbols s t r u a b h k w) subs_are
      ∙ ap₂ (λ (x y : List Span). given (common_of s.loops t.loops) x y (paired_with (unknown_of kept_both)) (nat_lt a.place.stmt b.place.stmt)) h.spans k.spans
