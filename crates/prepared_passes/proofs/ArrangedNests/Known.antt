-- What the trips of a chain say of how often its loops turn.
use Rattle.std.proofs.Common.{◌≡◌, refl, sym, ap, ◌∙◌, subst, ℕ, zero, suc, ◌==◌, ℤ, pos, ◌+ℤ◌, ◌*ℤ◌, Bool, true, false, ◌&&◌, cond, Option, Some, None, List, [], ◌∷◌, ◌++◌, arith}
use Rattle.std.specs.Prelude.{int_div, slice_get}
use Rattle.std.specs.List.{list_all}
use Rattle.std.specs.Ordering.{int_eq}
use Rattle.std.proofs.lemmas.Bool.Decides.{Decides-int_eq}
use Rattle.std.proofs.lemmas.Int.{ints}
use Rattle.subscripts.specs.Forms.{over_loops, over_symbols}
use Rattle.subscripts.specs.declared.affine.Span.{Span}
use Rattle.nest.specs.declared.parts.Trip.{Trip}
use Rattle.nest.specs.Plain.{Loop}
use Rattle.dependence_graph.specs.nest_graph.Instances.{turns_at}
use Rattle.dependence_graph.specs.nest_graph.Spans.{ends_at, last_after, span_of, spans_of}
use Rattle.dependence_graph.specs.nest_graph.Trips.{has_no_symbol, has_constant_top}
use Rattle.interchange.specs.Arranged.{is_loop_free, free_trips_of, with_free_trip, if_loop_free as own_trip}
use Rattle.interchange.specs.Orders.{has_constant, passes, same_terms, same_trip}
use Rattle.prepared_passes.proofs.ArrangedNests.Trips.{without_loops}
use Rattle.prepared_passes.proofs.ArrangedNests.Vectors.{and_both}

true_false : true ≡ false → ⊥
true_false e = cc

none_some : {A : Type 0} (x : A) → ◌≡◌ {A = Option A} None (Some x) → ⊥
none_some x e = cc

some_same : {A : Type 0} (x y : A) → ◌≡◌ {A = Option A} (Some x) (Some y) → x ≡ y
some_same x y e = cc

-- ---- a constant trip

no_symbols : (ts : List (ℕ × ℤ)) (v : ℕ → ℤ) → list_all (λ (s : ℕ × ℤ). int_eq s.1 (pos 0)) ts ≡ true → over_symbols ts v ≡ pos 0
no_symbols [] v e = refl
no_symbols (t ∷ ts) v e =
    let h = and_both (int_eq t.1 (pos 0)) (list_all (λ (s : ℕ × ℤ). int_eq s.1 (pos 0)) ts) e in
    ap (λ z. z *ℤ v t.0 +ℤ over_symbols ts v) ((Decides-int_eq t.1 (pos 0)).0 h.0) ∙ (ap (λ z. pos 0 *ℤ v t.0 +ℤ z) (no_symbols ts v h.1) ∙ nothing (v t.0))
  where
    nothing : (x : ℤ) → pos 0 *ℤ x +ℤ pos 0 ≡ pos 0
    nothing x = omega (arith, ints)

pub constant_turns : (t : Trip) (v : ℕ → ℤ) → has_constant_top t ≡ true → turns_at t v [] ≡ int_div t.top.constant t.by
constant_turns t v e =
    let h = and_both (list_all (λ a. int_eq a (pos 0)) t.top.loops) (has_no_symbol t) e in
    ap (λ z. int_div (z +ℤ (over_symbols t.top.syms v +ℤ t.top.constant)) t.by) (without_loops t.top.loops [] h.0)
    ∙ (ap (λ z. int_div (pos 0 +ℤ (z +ℤ t.top.constant)) t.by) (no_symbols t.top.syms v h.1) ∙ ap (λ z. int_div z t.by) (alone t.top.constant))
  where
    alone : (c : ℤ) → pos 0 +ℤ (pos 0 +ℤ c) ≡ c
    alone c = omega (arith, ints)

-- a span says so of a trip
pub span_says : (test : ℤ → Bool) (outer : List Span) (t : Trip) → has_constant test (Some (span_of outer (Some t))) ≡ true → (has_constant_top t ≡ true) × (test (int_div t.top.constant t.by) ≡ true)
span_says test outer t e = by (has_constant_top t) refl e
  where
    by : (b : Bool) → has_constant_top t ≡ b → has_constant test (Some (cond b (record { last = Some (int_div t.top.constant t.by); fixed = true }) (ends_at (last_after outer t)))) ≡ true → (has_constant_top t ≡ true) × (test (int_div t.top.constant t.by) ≡ true)
    by true f h = (f, (and_both (test (int_div t.top.constant t.by)) true h).0)
    by false f h = absurd (true_false (sym (and_both (passes test (last_after outer t)) false h).1))

pub no_span : (test : ℤ → Bool) (outer : List Span) → has_constant test (Some (span_of outer None)) ≡ true → ⊥
no_span test outer e = true_false (sym e)

-- the span at a place is that of the loop there
pub span_at : (outer : List Span) (ls : List Loop) (k : ℕ) (s : Span) → slice_get (spans_of outer ls) k ≡ Some s → (l : Loop) × (slice_get ls k ≡ Some l) × ((before : List Span) × (s ≡ span_of before l.trip))
span_at outer [] k s e = absurd (none_some s e)
span_at outer (l ∷ ls) zero s e = (l, refl, (outer, sym (some_same (span_of outer l.trip) s e)))
span_at outer (l ∷ ls) (suc k) s e = span_at (outer ++ span_of outer l.trip ∷ []) ls k s e

-- ---- trips without a loop's variable

own_is : (o : Option Trip) (t : Trip) → own_trip o ≡ Some t → (o ≡ Some t) × (is_loop_free t ≡ true)
own_is None t e = absurd (none_some t e)
own_is (Some u) t e = by (is_loop_free u) refl e
  where
    by : (b : Bool) → is_loop_free u ≡ b → cond b (Some u) None ≡ Some t → (Some u ≡ Some t) × (is_loop_free t ≡ true)
    by true f h = (h, ap is_loop_free (sym (some_same u t h)) ∙ f)
    by false f h = absurd (none_some t h)

with_is : (o : Option Trip) (p : Option (List Trip)) (ts : List Trip) → with_free_trip o p ≡ Some ts → (t : Trip) × ((us : List Trip) × (o ≡ Some t) × (p ≡ Some us) × (ts ≡ t ∷ us))
with_is None p ts e = absurd (none_some ts e)
with_is (Some t) None ts e = absurd (none_some ts e)
with_is (Some t) (Some us) ts e = (t, (us, refl, refl, sym (some_same (t ∷ us) ts e)))

pub trip_at : (ls : List Loop) (ts : List Trip) (k : ℕ) (l : Loop) → free_trips_of ls ≡ Some ts → slice_get ls k ≡ Some l → (t : Trip) × (slice_get ts k ≡ Some t) × (l.trip ≡ Some t) × (is_loop_free t ≡ true)
trip_at [] ts k l e f = absurd (none_some l f)
trip_at (x ∷ ls) ts zero l e f =
    let h = with_is (own_trip x.trip) (free_trips_of ls) ts e in
    let o = own_is x.trip h.0 h.1.1 in
    (h.0, ap (λ zs. slice_get zs 0) h.1.3, ap (λ (y : Loop). y.trip) (sym (some_same x l f)) ∙ o.0, o.1)
trip_at (x ∷ ls) ts (suc k) l e f =
    let h = with_is (own_trip x.trip) (free_trips_of ls) ts e in
    let r = trip_at ls h.1.0 k l h.1.2 f in
    (r.0, ap (λ zs. slice_get zs (suc k)) h.1.3 ∙ r.1, r.2, r.3)

-- and back: where there is a trip there is a loop
pub loop_at : (ls : List Loop) (ts : List Trip) (k : ℕ) (t : Trip) → free_trips_of ls ≡ Some ts → slice_get ts k ≡ Some t → (l : Loop) × (slice_get ls k ≡ Some l) × (l.trip ≡ Some t) × (is_loop_free t ≡ true)
loop_at [] ts k t e f = absurd (none_some t (ap (λ zs. slice_get zs k) (some_same [] ts e) ∙ f))
loop_at (x ∷ ls) ts zero t e f =
    let h = with_is (own_trip x.trip) (free_trips_of ls) ts e in
    let o = own_is x.trip h.0 h.1.1 in
    let g : h.0 ≡ t = some_same h.0 t (sym (ap (λ zs. slice_get zs 0) h.1.3) ∙ f) in
    (x, refl, o.0 ∙ ap Some g, subst (λ u. is_loop_free u ≡ true) g o.1)
loop_at (x ∷ ls) ts (suc k) t e f =
    let h = with_is (own_trip x.trip) (free_trips_of ls) ts e in
    loop_at ls h.1.0 k t h.1.2 (sym (ap (λ zs. slice_get zs (suc k)) h.1.3) ∙ f)

-- ---- equal trips

terms_same : (ts us : List (ℕ × ℤ)) → same_terms ts us ≡ true → ts ≡ us
terms_same [] [] e = refl
terms_same [] (u ∷ us) e = absurd (true_false (sym e))
terms_same (t ∷ ts) [] e = absurd (true_false (sym e))
terms_same (t ∷ ts) (u ∷ us) e =
    let h = and_both (t.0 == u.0) (int_eq t.1 u.1 && same_terms ts us) e in
    let k = and_both (int_eq t.1 u.1) (same_terms ts us) h.1 in
    pair t u (number t.0 u.0 h.0) ((Decides-int_eq t.1 u.1).0 k.0) (terms_same ts us k.1)
  where
    number : (a b : ℕ) → (a == b) ≡ true → a ≡ b
    number a b e = grind (arith, e)

    pair : (t u : ℕ × ℤ) → t.0 ≡ u.0 → t.1 ≡ u.1 → ts ≡ us → t ∷ ts ≡ u ∷ us
    pair t u a b c = ap (λ n. (n, t.1) ∷ ts) a ∙ (ap (λ z. (u.0, z) ∷ ts) b ∙ ap (λ zs. u ∷ zs) c)

pub same_number : (t u : Trip) (v : ℕ → ℤ) → is_loop_free t ≡ true → is_loop_free u ≡ true → same_trip (Some t) (Some u) ≡ true → turns_at t v [] ≡ turns_at u v []
same_number t u v f g e =
    let h = and_both (same_terms t.top.syms u.top.syms) (int_eq t.top.constant u.top.constant && int_eq t.by u.by) e in
    let k = and_both (int_eq t.top.constant u.top.constant) (int_eq t.by u.by) h.1 in
    ap (λ z. int_div (z +ℤ (over_symbols t.top.syms v +ℤ t.top.constant)) t.by) (without_loops t.top.loops [] f ∙ sym (without_loops u.top.loops [] g))
    ∙ (ap (λ ts. int_div (over_loops u.top.loops [] +ℤ (over_symbols ts v +ℤ t.top.constant)) t.by) (terms_same t.top.syms u.top.syms h.0)
    ∙ (ap (λ z. int_div (over_loops u.top.loops [] +ℤ (over_symbols u.top.syms v +ℤ z)) t.by) ((Decides-int_eq t.top.constant u.top.constant).0 k.0)
    ∙ ap (int_div (over_loops u.top.loops [] +ℤ (over_symbols u.top.syms v +ℤ u.top.constant))) ((Decides-int_eq t.by u.by).0 k.1)))
