-- A pair of subscripts, and the pairing that the tests have of it.
use Rattle.std.proofs.Common.{◌≡◌, inl, inr, refl, sym, ap, ap₂, ◌∙◌, subst, ℕ, zero, suc, ◌+◌, ◌-◌, ◌<◌, ◌≤◌, arith, Option, Some, None, List, [], ◌∷◌, ◌++◌, length, map, take, replicate}
use Rattle.std.specs.Prelude.{ℤ, pos, ◌-ℤ◌, ◌<ℤ◌, All, slice_get, unsigned_abs}
use Rattle.std.specs.List.{AllZip}
use Rattle.std.proofs.lemmas.Bool.{cases_lt}
use Rattle.std.proofs.lemmas.Int.{ints}
use Rattle.std.proofs.lemmas.List.{length-append, length-map}
use Rattle.std.proofs.lemmas.List.Elements.{All-append, All-cons, All-head, All-nil, All-replicate, All-tail}
use Rattle.std.proofs.lemmas.Nat.Gcd.{dvd-zero}
use Prim.Native.Nat.{◌∣◌}
use Rattle.linear_forms.specs.Linear.{Form, number_at}
use Rattle.linear_forms.specs.Affines.{IsAffineOf}
use Rattle.tree.specs.Plain.{Only, Section, Subscript, Subscripts, no_subscripts, subscript}
use Rattle.nest.specs.Bodies.{Standing}
use Rattle.nest.specs.Plain.{Loop}
use Rattle.subscripts.specs.Classes as old
use Rattle.subscripts.specs.Forms.{HasNoPair, IsInRegion, WithinSpans, coefficient, value_at}
use Rattle.subscripts.specs.Forms as forms
use Rattle.subscripts.specs.Refutations as ways
use Rattle.subscripts.specs.declared.affine.Dir.{Dir}
use Rattle.subscripts.specs.declared.affine.Dir.TheVariants.{Any}
use Rattle.subscripts.specs.declared.affine.Span.{Span}
use Rattle.subscripts.specs.declared.pairing.Pairing.{Pairing}
use Rattle.dependence_graph.specs.nest_graph.Arcs.{in_places}
use Rattle.dependence_graph.specs.nest_graph.Indices.{Cancels, Contains, First, Index, IsIndex, IsSivIn, IsZiv, Second, Shared, SubscriptPair, coefficient_at, first_of, linear_subscript_form, paired_forms, pairs_in, second_of, symbol_difference}
use Rattle.dependence_graph.specs.nest_graph.Paired.{pairing_of}
use Rattle.dependence_graph.specs.nest_graph.References.{variables_round}
use Rattle.dependence_graph.specs.nest_graph.Refuted.{AreNeverEqual, DividesAll, IsInVector, IsOneSided, IsRefutedByGcd, IsWithin, pair_difference, lasts_round}
use Rattle.dependence_graph.specs.nest_graph.Spans.{span_of, spans_of}
use Rattle.dependence_graph.specs.nest_graph.Tested.{Both, common_of}
use Rattle.dependence_graph.specs.nest_graph.Touched.{symbol_values_from}
use Rattle.dependence_graph.proofs.dep_graph.FormValues.{affine_value}
use Rattle.dependence_graph.proofs.dep_graph.Lasts.{last_in, lasts_are}
use Rattle.dependence_graph.proofs.dep_graph.Lists.{ones, with_ones}
use Rattle.dependence_graph.proofs.dep_graph.Places.{form_short}
use Rattle.dependence_graph.proofs.dep_graph.Regions.{are_within, front_related, front_within, longer_related, padded_within, spans_count, with_ones_is, within_spans}
use Rattle.dependence_graph.proofs.dep_graph.Couples.{common_first, common_second}
use Rattle.dependence_graph.proofs.dep_graph.Symbols.{is_affine, loop_at, loop_past, same_coefficients, same_symbols, symbol_at}

-- ---- loops

abbrev pub old_loop : Index → old.Loop
old_loop (Shared k) = old.Shared k
old_loop (First k) = old.First k
old_loop (Second k) = old.Second k

abbrev pub new_index : old.Loop → Index
new_index (old.Shared k) = Shared k
new_index (old.First k) = First k
new_index (old.Second k) = Second k

pub there_and_back : (l : old.Loop) → old_loop (new_index l) ≡ l
there_and_back (old.Shared k) = refl
there_and_back (old.First k) = refl
there_and_back (old.Second k) = refl

pub back_and_there : (i : Index) → new_index (old_loop i) ≡ i
back_and_there (Shared k) = refl
back_and_there (First k) = refl
back_and_there (Second k) = refl

pub same_loop : (i j : Index) → old_loop i ≡ old_loop j → i ≡ j
same_loop i j e = sym (back_and_there i) ∙ ap new_index e ∙ back_and_there j

pub round_length : (s : Standing) → length (variables_round s) ≡ length s.loops
round_length s = length-map s.loops (λ (l : Loop). l.variable)

pub lasts_round_are : (s : Standing) → map last_in (spans_of [] s.loops) ≡ lasts_round s
lasts_round_are s = lasts_are [] s.loops

pub spans_round : (outer : List Span) (ls : List Loop) → length (spans_of outer ls) ≡ length ls
spans_round outer [] = refl
spans_round outer (l ∷ ls) = ap suc (spans_round (outer ++ span_of outer l.trip ∷ []) ls)

-- statements in at most seven loops
pub record AreShallow (b : Both) : Type 0 where
  pub first : length b.first.loops ≤ 7
  pub second : length b.second.loops ≤ 7

-- forms that have no coefficients past the symbols
pub record AreShort (b : Both) (p : SubscriptPair) : Type 0 where
  pub first : length p.first.coefficients ≤ length b.first.loops + length b.symbols
  pub second : length p.second.coefficients ≤ length b.second.loops + length b.symbols

form_in_short : (loops symbols : List (List ℕ)) (s : Subscript) (f : Form) → linear_subscript_form loops symbols s ≡ Some f → length f.coefficients ≤ length (loops ++ symbols)
form_in_short loops symbols (Only e) f h = form_short loops symbols e f h
form_in_short loops symbols (Section x y z) f h = cc

abbrev made : Form → Form → SubscriptPair
made f g = record { first = f; second = g }

paired_is : (o q : Option Form) (p : SubscriptPair) → paired_forms o q ≡ Some p → (o ≡ Some p.first) × (q ≡ Some p.second)
paired_is None q p e = cc
paired_is (Some f) None p e = cc
paired_is (Some f) (Some g) p e =
    let s : made f g ≡ p = cc in
    (ap (λ (z : SubscriptPair). Some z.first) s, ap (λ (z : SubscriptPair). Some z.second) s)

pub are_short : (b : Both) (rs us : Subscripts) (k : ℕ) (p : SubscriptPair) → slice_get (pairs_in b rs us) k ≡ Some (Some p) → AreShort b p
are_short b no_subscripts us k p e = cc
are_short b (subscript r rs) no_subscripts k p e = cc
are_short b (subscript r rs) (subscript u us) zero p e =
    let o : paired_forms (linear_subscript_form (variables_round b.first) b.symbols r) (linear_subscript_form (variables_round b.second) b.symbols u) ≡ Some p = cc in
    let f = paired_is (linear_subscript_form (variables_round b.first) b.symbols r) (linear_subscript_form (variables_round b.second) b.symbols u) p o in
    let g = form_in_short (variables_round b.first) b.symbols r p.first f.0 in
    let h = form_in_short (variables_round b.second) b.symbols u p.second f.1 in
    let m = round_length b.first in let n = round_length b.second in
    record {
      first = omega (arith, length-append (variables_round b.first) b.symbols);
      second = omega (arith, length-append (variables_round b.second) b.symbols);
    }
are_short b (subscript r rs) (subscript u us) (suc k) p e = are_short b rs us k p e

module _ (b : Both) (shallow : AreShallow b) (p : SubscriptPair) where
  abbrev q : Pairing
  q = pairing_of b (Some p)

  -- ---- coefficients

  shared_first : (k : ℕ) → k < common_of b.first.loops b.second.loops → k < length (variables_round b.first)
  shared_first k h = let c = common_first b.first.loops b.second.loops in let e = round_length b.first in omega arith

  shared_second : (k : ℕ) → k < common_of b.first.loops b.second.loops → k < length (variables_round b.second)
  shared_second k h = let c = common_second b.first.loops b.second.loops in let e = round_length b.second in omega arith

  pub first_is : (i : Index) → IsIndex b i → old.first_of q (old_loop i) ≡ first_of p i
  first_is (Shared k) h = loop_at (length (variables_round b.first)) p.first k (shared_first k h)
  first_is (First k) h = loop_at (length (variables_round b.first)) p.first k (let e = round_length b.first in let l = h.1 in omega arith)
  first_is (Second k) h = refl

  pub second_is : (i : Index) → IsIndex b i → old.second_of q (old_loop i) ≡ second_of p i
  second_is (Shared k) h = loop_at (length (variables_round b.second)) p.second k (shared_second k h)
  second_is (First k) h = refl
  second_is (Second k) h = loop_at (length (variables_round b.second)) p.second k (let e = round_length b.second in let l = h.1 in omega arith)

  loop_of : (i : Index) → IsIndex b i → old.IsLoopOf q (old_loop i)
  loop_of (Shared k) h = h
  loop_of (First k) h = let l = h.1 in let s = shallow.first in (h.0, omega arith)
  loop_of (Second k) h = let l = h.1 in let s = shallow.second in (h.0, omega arith)

  pub matters_of : (i : Index) → Contains b p i → old.Matters q (old_loop i)
  matters_of i h = record {
    loop = loop_of i h.index;
    some = λ e f. h.some (sym (first_is i h.index) ∙ e) (sym (second_is i h.index) ∙ f);
  }

  index_of : (l : old.Loop) → old.Matters q l → IsIndex b (new_index l)
  index_of (old.Shared k) h = h.loop
  index_of (old.First k) h =
      elim (cases_lt k (length b.first.loops)) [
        | inl l ↦ (h.loop.0, l)
        | inr l ↦ absurd (h.some (loop_past (length (variables_round b.first)) p.first k (let e = round_length b.first in omega arith)) refl)
      ]
  index_of (old.Second k) h =
      elim (cases_lt k (length b.second.loops)) [
        | inl l ↦ (h.loop.0, l)
        | inr l ↦ absurd (h.some refl (loop_past (length (variables_round b.second)) p.second k (let e = round_length b.second in omega arith)))
      ]

  pub first_back : (l : old.Loop) → IsIndex b (new_index l) → old.first_of q l ≡ first_of p (new_index l)
  first_back l h = ap (old.first_of q) (sym (there_and_back l)) ∙ first_is (new_index l) h

  pub second_back : (l : old.Loop) → IsIndex b (new_index l) → old.second_of q l ≡ second_of p (new_index l)
  second_back l h = ap (old.second_of q) (sym (there_and_back l)) ∙ second_is (new_index l) h

  pub contains_of : (l : old.Loop) → old.Matters q l → Contains b p (new_index l)
  contains_of l h =
      let i = index_of l h in
      record { index = i; some = λ e f. h.some (first_back l i ∙ e) (second_back l i ∙ f) }

  -- ---- symbols

  first_symbol : (s : ℕ) → coefficient q.from.syms s ≡ coefficient_at p.first (length b.first.loops + s)
  first_symbol s =
      symbol_at (length (variables_round b.first)) p.first s ∙ ap (λ (m : ℕ). coefficient_at p.first (m + s)) (round_length b.first)

  second_symbol : (s : ℕ) → coefficient q.to.syms s ≡ coefficient_at p.second (length b.second.loops + s)
  second_symbol s =
      symbol_at (length (variables_round b.second)) p.second s ∙ ap (λ (m : ℕ). coefficient_at p.second (m + s)) (round_length b.second)

  symbols_differ : (s : ℕ) → coefficient q.from.syms s -ℤ coefficient q.to.syms s ≡ symbol_difference b p s
  symbols_differ s = ap₂ (λ (x y : ℤ). x -ℤ y) (first_symbol s) (second_symbol s)

  no_difference : (x y : ℤ) → x ≡ y → x -ℤ y ≡ pos 0
  no_difference x y e = omega (arith, ints)

  are_same : (x y : ℤ) → x -ℤ y ≡ pos 0 → x ≡ y
  are_same x y e = omega (arith, ints)

  pub cancels_of : old.Cancels q → Cancels b p
  cancels_of h k =
      sym (symbols_differ k) ∙ no_difference (coefficient q.from.syms k) (coefficient q.to.syms k) (same_coefficients q.from.syms q.to.syms h k)

  pub old_cancels : Cancels b p → old.Cancels q
  old_cancels h =
      same_symbols (length (variables_round b.first)) (length (variables_round b.second)) p.first p.second
      (λ k. ap (λ (m : ℕ). coefficient_at p.first (m + k)) (round_length b.first)
      ∙ are_same (coefficient_at p.first (length b.first.loops + k)) (coefficient_at p.second (length b.second.loops + k)) (h k)
      ∙ sym (ap (λ (m : ℕ). coefficient_at p.second (m + k)) (round_length b.second)))

  -- ---- classes

  pub ziv_of : old.IsZiv q → IsZiv b p
  ziv_of h = record { cancels = cancels_of h.cancels; none = λ i c. h.none (old_loop i) (matters_of i c) }

  pub old_ziv : IsZiv b p → old.IsZiv q
  old_ziv h = record { known = refl; cancels = old_cancels h.cancels; none = λ l c. h.none (new_index l) (contains_of l c) }

  pub siv_of : (l : old.Loop) → old.HasOneLoop q l → IsSivIn b p (new_index l)
  siv_of l h = record {
    cancels = cancels_of h.cancels;
    contained = contains_of l h.matters;
    alone = λ j c. sym (back_and_there j) ∙ ap new_index (h.alone (old_loop j) (matters_of j c));
  }

  pub old_siv : (i : Index) → IsSivIn b p i → old.HasOneLoop q (old_loop i)
  old_siv i h = record {
    known = refl;
    cancels = old_cancels h.cancels;
    matters = matters_of i h.contained;
    alone = λ l c. sym (there_and_back l) ∙ ap old_loop (h.alone (new_index l) (contains_of l c));
  }

  pub siv_where : (P Q : ℤ → ℤ → Type 0) → ((x y : ℤ) → P x y → Q x y) → old.IsSivWhere P q → (i : Index) × (IsSivIn b p i × Q (first_of p i) (second_of p i))
  siv_where P Q f h =
      let s = siv_of h.0 h.1.0 in
      let k = s.contained.index in (
        new_index h.0,
        (
          s,
          f (first_of p (new_index h.0)) (second_of p (new_index h.0))
              (subst (λ (x : ℤ). P x (second_of p (new_index h.0))) (first_back h.0 k) (subst (λ (y : ℤ). P (old.first_of q h.0) y) (second_back h.0 k) h.1.1)),
        ),
      )

  -- ---- the GCD test

  front_all : (P : ℤ → Type 0) (xs ys : List ℤ) → All P (xs ++ ys) → All P xs
  front_all P [] ys h = All-nil P
  front_all P (x ∷ xs) ys h = All-cons P x xs (All-head P x (xs ++ ys) h) (front_all P xs ys (All-tail P x (xs ++ ys) h))

  divides_of : (d : ℕ) → ways.DividesAll d q → DividesAll d b p
  divides_of d h =
      let P : ℤ → Type 0 = λ a. d ∣ unsigned_abs a in
      let m = length (variables_round b.first) in let n = length (variables_round b.second) in
      record {
        first = subst (λ (k : ℕ). All P (take k p.first.coefficients)) (round_length b.first)
            (front_all P (take m p.first.coefficients) (replicate (7 - length (take m p.first.coefficients)) (pos 0)) h.first);
        second = subst (λ (k : ℕ). All P (take k p.second.coefficients)) (round_length b.second)
            (front_all P (take n p.second.coefficients) (replicate (7 - length (take n p.second.coefficients)) (pos 0)) h.second);
        symbols = λ k. subst P (symbols_differ k) (h.symbols k);
      }

  old_divides : (d : ℕ) → DividesAll d b p → ways.DividesAll d q
  old_divides d h =
      let P : ℤ → Type 0 = λ a. d ∣ unsigned_abs a in
      let m = length (variables_round b.first) in let n = length (variables_round b.second) in
      record {
        first = All-append P (take m p.first.coefficients) (replicate (7 - length (take m p.first.coefficients)) (pos 0))
            (subst (λ (k : ℕ). All P (take k p.first.coefficients)) (sym (round_length b.first)) h.first)
            (All-replicate P (7 - length (take m p.first.coefficients)) (pos 0) (dvd-zero d));
        second = All-append P (take n p.second.coefficients) (replicate (7 - length (take n p.second.coefficients)) (pos 0))
            (subst (λ (k : ℕ). All P (take k p.second.coefficients)) (sym (round_length b.second)) h.second)
            (All-replicate P (7 - length (take n p.second.coefficients)) (pos 0) (dvd-zero d));
        symbols = λ k. subst P (sym (symbols_differ k)) (h.symbols k);
      }

  pub gcd_of : ways.IsRefutedByGcd q → IsRefutedByGcd b p
  gcd_of h = (h.0, (record { divides = divides_of h.0 h.1.0.divides; greatest = λ d k. h.1.0.greatest d (old_divides d k) }, h.1.1))

  pub old_gcd : IsRefutedByGcd b p → ways.IsRefutedByGcd q
  old_gcd h = (h.0, (record { divides = old_divides h.0 h.1.0.divides; greatest = λ d k. h.1.0.greatest d (divides_of d k) }, h.1.1))

  -- ---- iterations

  module _ (short : AreShort b p) (v : List Dir) (long : length v ≡ common_of b.first.loops b.second.loops) where
    first_count : (x : List ℤ) → WithinSpans (spans_of [] b.first.loops) x → length x ≡ length b.first.loops
    first_count x h = spans_count (spans_of [] b.first.loops) x h ∙ spans_round [] b.first.loops

    second_count : (y : List ℤ) → WithinSpans (spans_of [] b.second.loops) y → length y ≡ length b.second.loops
    second_count y h = spans_count (spans_of [] b.second.loops) y h ∙ spans_round [] b.second.loops

    first_spans : (x : List ℤ) → AllZip IsWithin (lasts_round b.first) x → WithinSpans (spans_of [] b.first.loops) x
    first_spans x h =
        within_spans (spans_of [] b.first.loops) x (subst (λ (os : List (Option ℤ)). AllZip IsWithin os x) (sym (lasts_round_are b.first)) h)

    second_spans : (y : List ℤ) → AllZip IsWithin (lasts_round b.second) y → WithinSpans (spans_of [] b.second.loops) y
    second_spans y h =
        within_spans (spans_of [] b.second.loops) y (subst (λ (os : List (Option ℤ)). AllZip IsWithin os y) (sym (lasts_round_are b.second)) h)

    pub region_of : (x y : List ℤ) → IsInVector b v x y → IsInRegion q (in_places v) (with_ones x) (with_ones y)
    region_of x y h =
        let f = first_spans x h.first in let g = second_spans y h.second in
        let c = common_first b.first.loops b.second.loops in let e = common_second b.first.loops b.second.loops in
        let m = first_count x f in let n = second_count y g in
        record {
          from_within = padded_within (spans_of [] b.first.loops) x f;
          to_within = padded_within (spans_of [] b.second.loops) y g;
          related = longer_related v (7 - length v) x y (ones (length x)) (ones (length y)) (omega arith) (omega arith) h.related;
        }

    abbrev first_front : List ℤ → List ℤ
    first_front x = take (length (spans_of [] b.first.loops)) x

    abbrev second_front : List ℤ → List ℤ
    second_front y = take (length (spans_of [] b.second.loops)) y

    pub region_back : (x y : List ℤ) → IsInRegion q (in_places v) x y → IsInVector b v (first_front x) (second_front y)
    region_back x y h =
        let ss = spans_of [] b.first.loops in let ts = spans_of [] b.second.loops in
        let c = common_first b.first.loops b.second.loops in let e = common_second b.first.loops b.second.loops in
        let m = spans_round [] b.first.loops in let n = spans_round [] b.second.loops in
        record {
          first = subst (λ (os : List (Option ℤ)). AllZip IsWithin os (first_front x)) (lasts_round_are b.first)
              (are_within ss (first_front x) (front_within ss (7 - length ss) x h.from_within));
          second = subst (λ (os : List (Option ℤ)). AllZip IsWithin os (second_front y)) (lasts_round_are b.second)
              (are_within ts (second_front y) (front_within ts (7 - length ts) y h.to_within));
          related = front_related v (replicate (7 - length v) Any) (length ss) (length ts) x y (omega arith) (omega arith) h.related;
        }

    -- ---- the difference of both sides

    first_value : (values : ℕ → ℤ) (x : List ℤ) → length x ≡ length b.first.loops
        → value_at q.from values (with_ones x) ≡ number_at p.first (x ++ symbol_values_from values 0 b.symbols)
    first_value values x e =
        affine_value p.first q.from b.symbols values x (ones (length x))
        (subst (λ (m : ℕ). IsAffineOf m p.first q.from) (round_length b.first ∙ sym e) (is_affine (length (variables_round b.first)) p.first))
        (let s = short.first in omega arith)

    second_value : (values : ℕ → ℤ) (y : List ℤ) → length y ≡ length b.second.loops
        → value_at q.to values (with_ones y) ≡ number_at p.second (y ++ symbol_values_from values 0 b.symbols)
    second_value values y e =
        affine_value p.second q.to b.symbols values y (ones (length y))
        (subst (λ (m : ℕ). IsAffineOf m p.second q.to) (round_length b.second ∙ sym e) (is_affine (length (variables_round b.second)) p.second))
        (let s = short.second in omega arith)

    pub difference_is : (values : ℕ → ℤ) (x y : List ℤ) → IsInVector b v x y
        → forms.difference q values (with_ones x) (with_ones y) ≡ pair_difference b p values x y
    difference_is values x y h =
        ap₂ (λ (z w : ℤ). z -ℤ w) (first_value values x (first_count x (first_spans x h.first))) (second_value values y (second_count y (second_spans y h.second)))

    pub difference_back : (values : ℕ → ℤ) (x y : List ℤ) → IsInRegion q (in_places v) x y
        → forms.difference q values x y ≡ pair_difference b p values (first_front x) (second_front y)
    difference_back values x y h =
        let ss = spans_of [] b.first.loops in let ts = spans_of [] b.second.loops in
        ap₂ (λ (z w : List ℤ). forms.difference q values z w) (with_ones_is ss x h.from_within) (with_ones_is ts y h.to_within)
        ∙ difference_is values (first_front x) (second_front y) (region_back x y h)

    pub never_of : HasNoPair q (in_places v) → AreNeverEqual b v p
    never_of h x y r e =
        h (with_ones x) (with_ones y) (record { region = region_of x y r; equal = λ k. (e.0, difference_is e.0 x y r ∙ e.1) })

    pub sided_of : ways.IsOneSided q (in_places v) → IsOneSided b v p
    sided_of (inl h) = inl (λ values x y r. subst (λ (z : ℤ). pos 0 <ℤ z) (difference_is values x y r) (h values (with_ones x) (with_ones y) (region_of x y r)))
    sided_of (inr h) = inr (λ values x y r. subst (λ (z : ℤ). z <ℤ pos 0) (difference_is values x y r) (h values (with_ones x) (with_ones y) (region_of x y r)))

    pub old_sided : IsOneSided b v p → ways.IsOneSided q (in_places v)
    old_sided (inl h) = inl (λ values x y r. subst (λ (z : ℤ). pos 0 <ℤ z) (sym (difference_back values x y r)) (h values (first_front x) (second_front y) (region_back x y r)))
    old_sided (inr h) = inr (λ values x y r. subst (λ (z : ℤ). z <ℤ pos 0) (sym (difference_back values x y r)) (h values (first_front x) (second_front y) (region_back x y r)))

-- the same of subscripts that aren't both linear
pub region_none : (b : Both) → AreShallow b → (v : List Dir) → length v ≡ common_of b.first.loops b.second.loops → (x y : List ℤ) → IsInVector b v x y
    → IsInRegion (pairing_of b None) (in_places v) (with_ones x) (with_ones y)
region_none b shallow v long x y h =
    let none : Form = record { coefficients = []; constant = pos 0 } in
    let g = region_of b shallow (record { first = none; second = none }) (record { first = omega arith; second = omega arith }) v long x y h in
    record { from_within = g.from_within; to_within = g.to_within; related = g.related }
