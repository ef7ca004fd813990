-- What the span of a loop is: a constant trip, or the greatest trip over the iterations of the loops round it.
use Rattle.std.specs.Prelude.{◌≡◌, ℕ, ◌^◌, ℤ, pos, ◌≤ℤ◌, ◌<ℤ◌, int_div, true, IsSomeAnd, All, Any}
use Rattle.std.specs.Prelude.{Option, Some, None, List, [], ◌∷◌, ◌++◌}
use Rattle.subscripts.specs.Forms.{WithinSpans}
use Rattle.subscripts.specs.declared.affine.Span.{Span}
use Rattle.nest.specs.declared.parts.Trip.{Trip}
use Rattle.nest.specs.Plain.{Loop}
use Rattle.dependence_graph.specs.nest_graph.Instances.{turns_at}
use Rattle.dependence_graph.specs.nest_graph.Spans.{ends_at}

-- no symbol has a coefficient
abbrev pub HasNoSymbol : Trip → Type 0
HasNoSymbol t = All (λ s. s.1 ≡ pos 0) t.top.syms

-- no loop has one, and no symbol
pub record IsConstant (t : Trip) : Type 0 where
  pub loops : All (λ a. a ≡ pos 0) t.top.loops
  pub symbols : HasNoSymbol t

abbrev pub no_values : ℕ → ℤ
no_values s = pos 0

-- the greatest trip over iterations within the spans of the loops round it
pub record IsGreatest (outer : List Span) (t : Trip) (m : ℤ) : Type 0 where
  pub at : List ℤ
  pub within : WithinSpans outer at
  pub reached : turns_at t no_values at ≡ m
  pub no_greater : (x : List ℤ) → WithinSpans outer x → turns_at t no_values x ≤ℤ m

abbrev pub is_empty : Span → Type 0
is_empty s = IsSomeAnd s.last (λ last. last <ℤ pos 1)

-- by the spans of the loops round it: the constant trip; else the greatest one, where the trip has no symbol and all
-- those loops have ends, 0 where one of them is empty or the greatest trip is negative, and unknown above 2^40; any
-- other is unknown
pub record IsSpan (outer : List Span) (t : Trip) (s : Span) : Type 0 where
  pub constant : IsConstant t → s ≡ record { last = Some (int_div t.top.constant t.by); fixed = true }
  pub open_trip : (HasNoSymbol t → ⊥) → s ≡ ends_at None
  pub open_loop : (IsConstant t → ⊥) → Any (λ o. o.last ≡ None) outer → s ≡ ends_at None
  pub empty :
      (IsConstant t → ⊥) → HasNoSymbol t → (Any (λ o. o.last ≡ None) outer → ⊥) → Any is_empty outer
      → s ≡ ends_at (Some (pos 0))
  pub negative : (m : ℤ) → (IsConstant t → ⊥) → HasNoSymbol t → (Any (λ o. o.last ≡ None) outer → ⊥)
      → IsGreatest outer t m → m <ℤ pos 0 → s ≡ ends_at (Some (pos 0))
  pub greatest : (m : ℤ) → (IsConstant t → ⊥) → HasNoSymbol t → (Any (λ o. o.last ≡ None) outer → ⊥)
      → IsGreatest outer t m → pos 0 ≤ℤ m → m ≤ℤ pos (2 ^ 40) → s ≡ ends_at (Some m)
  pub too_great : (m : ℤ) → (IsConstant t → ⊥) → HasNoSymbol t → (Any (λ o. o.last ≡ None) outer → ⊥)
      → IsGreatest outer t m → pos (2 ^ 40) <ℤ m → s ≡ ends_at None

abbrev pub IsSpanOf : List Span → Option Trip → Span → Type 0
IsSpanOf outer None s = ⊥
IsSpanOf outer (Some t) s = IsSpan outer t s

-- those of the loops from the outside in
abbrev pub AreSpansOf : List Span → List Loop → List Span → Type 0
AreSpansOf outer [] [] = Unit {0}
AreSpansOf outer [] (s ∷ ss) = ⊥
AreSpansOf outer (l ∷ ls) [] = ⊥
AreSpansOf outer (l ∷ ls) (s ∷ ss) = IsSpanOf outer l.trip s × AreSpansOf (outer ++ s ∷ []) ls ss
