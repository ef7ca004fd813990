-- Iterations within their trips are within the spans, and the other way where the trips are constants.
use Rattle.std.proofs.Common.{◌≡◌, ℕ, zero, suc, ◌+◌, ◌<◌, ◌≤◌, ◌^◌, refl, sym, ap, ◌∙◌, subst, arith, rules, Option, Some, None, Bool, true, false, not, ◌&&◌, cond, List, [], ◌∷◌, ◌++◌, length, get_or, leb, inl, inr, eqb}
use Rattle.std.specs.Prelude.{ℤ, pos, negsuc, ◌≤ℤ◌, ◌<ℤ◌, int_div, All, IsSome, IsSomeAnd, IfSome, IsTrue, slice_get}
use Rattle.std.specs.List.{list_any}
use Rattle.std.proofs.lemmas.Bool.{cases_Bool, cond-true, cond-false, or_cases, eqb-true}
use Rattle.std.proofs.lemmas.Int.{ints}
use Rattle.std.proofs.lemmas.List.Elements.{All-head, All-tail, All-cons, All-nil}
use Rattle.subscripts.specs.Forms.{WithinSpans}
use Rattle.subscripts.specs.Iterations.{WithinSpan, once}
use Rattle.subscripts.specs.declared.affine.Span.{Span}
use Rattle.nest.specs.Plain.{Loop}
use Rattle.nest.specs.declared.parts.Trip.{Trip}
use Rattle.dependence_graph.specs.nest_graph.Instances.{AreTurns, IsWithinTrip, turns_at}
use Rattle.dependence_graph.specs.nest_graph.Ready.{HasTrip, HaveTrips, IsTripIn}
use Rattle.dependence_graph.specs.nest_graph.Spans.{capped, greatest_trip, has_no_symbol, has_no_turn, has_constant_top, is_open, last_after, span_after, span_of, spans_of}
use Rattle.dependence_graph.specs.nest_graph.Tested.{common_of}
use Rattle.dependence_graph.specs.loop_spans.Greatest.{AreSpansOf, HasNoSymbol, IsConstant, IsSpan, IsSpanOf, no_values}
use Rattle.dependence_graph.proofs.loop_spans.SpanLaws.{all_end, at_varying, constant_at, constant_is, fixed_is_constant, is_greatest, last_closed, last_open_loop, last_open_trip, no_symbol_is, none_within, same_trip, span_is, span_unique}

-- ---- one loop

capped_high : (m i : ℤ) → i ≤ℤ m → IfSome (capped m) (λ n. i ≤ℤ n)
capped_high (negsuc n) i h = omega (arith, ints)
capped_high (pos n) i h = by (leb n (2 ^ 40))
  where
    by : (b : Bool) → IfSome (cond b (Some (pos n)) None) (λ (z : ℤ). i ≤ℤ z)
    by true = h
    by false = tt

last_high : (outer : List Span) (t : Trip) (values : ℕ → ℤ) (before : List ℤ) (i : ℤ) → pos 1 ≤ℤ t.by → WithinSpans outer before
    → i ≤ℤ turns_at t values before → IfSome (last_after outer t) (λ n. i ≤ℤ n)
last_high outer t values before i p w h =
    elim (cases_Bool (has_no_symbol t)) [
      | inr s ↦ unknown (last_open_trip outer t s)
      | inl s ↦ elim (cases_Bool (list_any is_open outer)) [
        | inl o ↦ unknown (last_open_loop outer t o)
        | inr o ↦ elim (cases_Bool (list_any has_no_turn outer)) [
          | inl e ↦ absurd (none_within outer before e w)
          | inr e ↦
              let k = no_symbol_is t s in let g = is_greatest outer t p k (all_end outer o e) in
              subst (λ (l : Option ℤ). IfSome l (λ (n : ℤ). i ≤ℤ n)) (sym (last_closed outer t s o ∙ cond-false (list_any has_no_turn outer) _ _ e))
              (capped_high (greatest_trip outer t) i
              (most (subst (λ (z : ℤ). i ≤ℤ z) (same_trip t values before k) h) (g.no_greater before w)))
        ]
      ]
    ]
  where
    unknown : last_after outer t ≡ None → IfSome (last_after outer t) (λ (n : ℤ). i ≤ℤ n)
    unknown e = subst (λ (l : Option ℤ). IfSome l (λ (n : ℤ). i ≤ℤ n)) (sym e) tt

    most : {a b c : ℤ} → a ≤ℤ b → b ≤ℤ c → a ≤ℤ c
    most e f = omega (arith, ints)

within_after : (outer : List Span) (t : Trip) (values : ℕ → ℤ) (before : List ℤ) (i : ℤ) → pos 1 ≤ℤ t.by → WithinSpans outer before
    → pos 1 ≤ℤ i → i ≤ℤ turns_at t values before → WithinSpan (span_after outer t) i
within_after outer t values before i p w l h =
    elim (cases_Bool (has_constant_top t)) [
      | inl c ↦ subst (λ (s : Span). WithinSpan s i) (sym (cond-true (has_constant_top t) _ _ c))
          (record { low = l; high = subst (λ (z : ℤ). i ≤ℤ z) (constant_at t values before (constant_is t c)) h })
      | inr c ↦ subst (λ (s : Span). WithinSpan s i) (sym (at_varying outer t c)) (record { low = l; high = last_high outer t values before i p w h })
    ]

one_turn : (d : ℕ) (outer : List Span) (o : Option Trip) (s : Span) (values : ℕ → ℤ) (before : List ℤ) (i : ℤ) → IsSomeAnd o (IsTripIn d) → IsSpanOf outer o s
    → WithinSpans outer before → IsWithinTrip o values before i → WithinSpan s i
one_turn d outer None s values before i p h w t = absurd h
one_turn d outer (Some t) s values before i p h w k =
    subst (λ (r : Span). WithinSpan r i) (sym (span_unique outer t s p.positive h)) (within_after outer t values before i p.positive w k.0 k.1)

fixed_turn : (d : ℕ) (outer : List Span) (o : Option Trip) (s : Span) (values : ℕ → ℤ) (before : List ℤ) (i : ℤ) → IsSomeAnd o (IsTripIn d) → IsSpanOf outer o s
    → s.fixed ≡ true → WithinSpan s i → IsWithinTrip o values before i
fixed_turn d outer None s values before i p h f w = absurd h
fixed_turn d outer (Some t) s values before i p h f w =
    let c = fixed_is_constant outer t s p.positive h f in
    let high : i ≤ℤ int_div t.top.constant t.by = subst (λ (r : Span). IfSome r.last (λ (n : ℤ). i ≤ℤ n)) (h.constant c) w.high in
    (w.low, subst (λ (z : ℤ). i ≤ℤ z) (sym (constant_at t values before c)) high)

span_end : (d : ℕ) (outer : List Span) (o : Option Trip) (s : Span) → IsSomeAnd o (IsTripIn d) → IsSpanOf outer o s → IsTrue s.fixed → IsSome s.last
span_end d outer None s p h f = absurd h
span_end d outer (Some t) s p h f =
    let c = fixed_is_constant outer t s p.positive h f in
    subst (λ (r : Span). IsSome r.last) (sym (h.constant c)) (is_there (int_div t.top.constant t.by))
  where
    is_there : (z : ℤ) → IsSome (Some z)
    is_there z = search rules

one_span : (d e : ℕ) (outer : List Span) (o : Option Trip) (s r : Span) → IsSomeAnd o (IsTripIn d) → IsSpanOf outer o s → IsSpanOf outer o r → s ≡ r
one_span d e outer None s r p h k = absurd h
one_span d e outer (Some t) s r p h k = span_unique outer t s p.positive h ∙ sym (span_unique outer t r p.positive k)

-- ---- a chain

one_span_is : (d : ℕ) (outer : List Span) (o : Option Trip) → IsSomeAnd o (IsTripIn d) → IsSpanOf outer o (span_of outer o)
one_span_is d outer None h = absurd h
one_span_is d outer (Some t) h = span_is outer t h.positive

pub spans_are : (d : ℕ) (outer : List Span) (ls : List Loop) → HaveTrips d ls → AreSpansOf outer ls (spans_of outer ls)
spans_are d outer [] h = tt
spans_are d outer (l ∷ ls) h = (one_span_is d outer l.trip h.0, spans_are (suc d) (outer ++ span_of outer l.trip ∷ []) ls h.1)

within-push : (ss : List Span) (xs : List ℤ) (s : Span) (x : ℤ) → WithinSpans ss xs → WithinSpan s x → WithinSpans (ss ++ s ∷ []) (xs ++ x ∷ [])
within-push [] [] s x h k = (k, tt)
within-push [] (y ∷ xs) s x h k = absurd h
within-push (r ∷ ss) [] s x h k = absurd h
within-push (r ∷ ss) (y ∷ xs) s x h k = (h.0, within-push ss xs s x h.1 k)

pub turns_within : (d : ℕ) (values : ℕ → ℤ) (outer : List Span) (before : List ℤ) (ls : List Loop) (ss : List Span) (x : List ℤ) → HaveTrips d ls
    → AreSpansOf outer ls ss → WithinSpans outer before → AreTurns values before ls x → WithinSpans ss x
turns_within d values outer before [] [] [] p h w t = tt
turns_within d values outer before [] [] (i ∷ x) p h w t = absurd t
turns_within d values outer before [] (s ∷ ss) x p h w t = absurd h
turns_within d values outer before (l ∷ ls) [] x p h w t = absurd h
turns_within d values outer before (l ∷ ls) (s ∷ ss) [] p h w t = absurd t
turns_within d values outer before (l ∷ ls) (s ∷ ss) (i ∷ x) p h w t =
    let k = one_turn d outer l.trip s values before i p.0 h.0 w t.0 in
    (k, turns_within (suc d) values (outer ++ s ∷ []) (before ++ i ∷ []) ls ss x p.1 h.1 (within-push outer before s i w k) t.1)

pub fixed_turns : (d : ℕ) (values : ℕ → ℤ) (outer : List Span) (before : List ℤ) (ls : List Loop) (ss : List Span) (x : List ℤ) → HaveTrips d ls
    → AreSpansOf outer ls ss → All (λ (s : Span). IsTrue s.fixed) ss → WithinSpans ss x → AreTurns values before ls x
fixed_turns d values outer before [] [] [] p h f w = tt
fixed_turns d values outer before [] [] (i ∷ x) p h f w = absurd w
fixed_turns d values outer before [] (s ∷ ss) x p h f w = absurd h
fixed_turns d values outer before (l ∷ ls) [] x p h f w = absurd h
fixed_turns d values outer before (l ∷ ls) (s ∷ ss) [] p h f w = absurd w
fixed_turns d values outer before (l ∷ ls) (s ∷ ss) (i ∷ x) p h f w = (
  fixed_turn d outer l.trip s values before i p.0 h.0 (All-head (λ (r : Span). IsTrue r.fixed) s ss f) w.0,
  fixed_turns (suc d) values (outer ++ s ∷ []) (before ++ i ∷ []) ls ss x p.1 h.1 (All-tail (λ (r : Span). IsTrue r.fixed) s ss f) w.1,
)

pub spans_length : (outer : List Span) (ls : List Loop) (ss : List Span) → AreSpansOf outer ls ss → length ss ≡ length ls
spans_length outer [] [] h = refl
spans_length outer [] (s ∷ ss) h = absurd h
spans_length outer (l ∷ ls) [] h = absurd h
spans_length outer (l ∷ ls) (s ∷ ss) h = ap suc (spans_length (outer ++ s ∷ []) ls ss h.1)

pub spans_end : (d : ℕ) (outer : List Span) (ls : List Loop) (ss : List Span) → HaveTrips d ls → AreSpansOf outer ls ss → All (λ (s : Span). IsTrue s.fixed → IsSome s.last) ss
spans_end d outer [] [] p h = All-nil (λ (s : Span). IsTrue s.fixed → IsSome s.last)
spans_end d outer [] (s ∷ ss) p h = absurd h
spans_end d outer (l ∷ ls) [] p h = absurd h
spans_end d outer (l ∷ ls) (s ∷ ss) p h =
    All-cons (λ (r : Span). IsTrue r.fixed → IsSome r.last) s ss (span_end d outer l.trip s p.0 h.0) (spans_end (suc d) (outer ++ s ∷ []) ls ss p.1 h.1)

-- the first loops of two chains are the same
abbrev pub HaveSameLoops : List Loop → List Loop → Type 0
HaveSameLoops ls ms = (k : ℕ) → k < common_of ls ms → slice_get ls k ≡ slice_get ms k

-- the spans of the loops within two chains, if their first loops are the same
abbrev AreSameWithin : List Span → List Loop → List Loop → List Span → List Span → Type 0
AreSameWithin outer ls ms ss ts = AreSpansOf outer ms ts → HaveSameLoops ls ms → (j : ℕ) → j < common_of ls ms → get_or ss j once ≡ get_or ts j once

pub same_spans : (d : ℕ) (outer : List Span) (ls ms : List Loop) (ss ts : List Span) → HaveTrips d ls → AreSpansOf outer ls ss → AreSpansOf outer ms ts → HaveSameLoops ls ms
    → (k : ℕ) → k < common_of ls ms → get_or ss k once ≡ get_or ts k once
same_spans d outer [] ms ss ts p h g f k l = absurd (omega arith)
same_spans d outer (a ∷ ls) [] ss ts p h g f k l = absurd (omega arith)
same_spans d outer (a ∷ ls) (b ∷ ms) [] ts p h g f k l = absurd h
same_spans d outer (a ∷ ls) (b ∷ ms) (s ∷ ss) [] p h g f k l = absurd g
same_spans d outer (a ∷ ls) (b ∷ ms) (s ∷ ss) (t ∷ ts) p h g f k l =
    by (eqb a.number b.number) refl (λ q r j i. same_spans (suc d) (outer ++ s ∷ []) ls ms ss ts p.1 h.1 q r j i)
  where
    counted : (c : Bool) → eqb a.number b.number ≡ c → common_of (a ∷ ls) (b ∷ ms) ≡ cond c (suc (common_of ls ms)) 0
    counted c e = ap (λ x. cond x (suc (common_of ls ms)) 0) e

    at : AreSameWithin (outer ++ s ∷ []) ls ms ss ts → (j : ℕ) → common_of (a ∷ ls) (b ∷ ms) ≡ suc (common_of ls ms) → a ≡ b → j < common_of (a ∷ ls) (b ∷ ms) → get_or (s ∷ ss) j once ≡ get_or (t ∷ ts) j once
    at rest zero c e i = one_span d d outer a.trip s t p.0 h.0 (subst (λ (m : Loop). IsSpanOf outer m.trip t) (sym e) g.0)
    at rest (suc j) c e i =
        let u : s ≡ t = one_span d d outer a.trip s t p.0 h.0 (subst (λ (m : Loop). IsSpanOf outer m.trip t) (sym e) g.0) in
        rest (subst (λ (r : Span). AreSpansOf (outer ++ r ∷ []) ms ts) (sym u) g.1)
        (λ n m. f (suc n) (omega arith)) j (omega arith)

    by : (c : Bool) → eqb a.number b.number ≡ c → AreSameWithin (outer ++ s ∷ []) ls ms ss ts → get_or (s ∷ ss) k once ≡ get_or (t ∷ ts) k once
    by false e rest = let z = counted false e in absurd (omega arith)
    by true e rest =
        let z = counted true e in
        let i : slice_get (a ∷ ls) 0 ≡ slice_get (b ∷ ms) 0 = f 0 (omega arith) in
        let v : a ≡ b = cc in at rest k z v l
