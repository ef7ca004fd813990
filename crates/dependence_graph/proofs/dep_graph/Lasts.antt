-- Spans of loops, and how far the loops go.
use Rattle.std.proofs.Common.{◌≡◌, refl, ap, ap₂, ◌∙◌, ℕ, zero, suc, Bool, true, false, cond, not, ◌&&◌, ◌||◌, Option, Some, None, is_none, List, [], ◌∷◌, ◌++◌, map, get_or}
use Rattle.std.specs.Prelude.{ℤ, pos, negsuc, ◌+ℤ◌, ◌*ℤ◌, int_div, All, IsSomeAnd, IsTrue, slice_get}
use Rattle.std.specs.List.{list_any}
use Rattle.std.proofs.lemmas.List.{map-append}
use Rattle.std.proofs.lemmas.List.Elements.{All-cons, All-head, All-nil, All-tail}
use Rattle.subscripts.specs.Iterations.{once}
use Rattle.subscripts.specs.declared.affine.Span.{Span}
use Rattle.nest.specs.declared.parts.Trip.{Trip}
use Rattle.nest.specs.Plain.{Loop}
use Rattle.dependence_graph.specs.nest_graph.Spans as spans
use Rattle.dependence_graph.specs.nest_graph.Spans.{ends_at, has_no_turn, is_open, last_after, span_of, spans_of}
use Rattle.dependence_graph.specs.nest_graph.Trips.{HasConstantTrip, capped, corner_of_trip, ends_early, greatest_sum_of_trips, has_no_symbol, has_constant_top, last_by, lasts_of}

abbrev pub last_in : Span → Option ℤ
last_in s = s.last

any_open : (ss : List Span) → list_any is_open ss ≡ list_any is_none (map last_in ss)
any_open [] = refl
any_open (s ∷ ss) = ap (λ (b : Bool). is_none s.last || b) (any_open ss)

any_early : (ss : List Span) → list_any has_no_turn ss ≡ list_any ends_early (map last_in ss)
any_early [] = refl
any_early (s ∷ ss) = ap (λ (b : Bool). ends_early s.last || b) (any_early ss)

corners : (a : ℤ) (s : Span) → spans.corner a s ≡ corner_of_trip a s.last
corners (pos n) s = refl
corners (negsuc n) s = refl

sums : (cs : List ℤ) (ss : List Span) → spans.greatest_sum cs ss ≡ greatest_sum_of_trips cs (map last_in ss)
sums [] ss = refl
sums (a ∷ as') [] = refl
sums (a ∷ as') (s ∷ ss) = ap₂ (λ (x y : ℤ). a *ℤ x +ℤ y) (corners a s) (sums as' ss)

last_after_is : (outer : List Span) (t : Trip) → last_after outer t
    ≡ cond (has_no_symbol t && not (list_any is_none (map last_in outer)))
    (cond (list_any ends_early (map last_in outer)) (Some (pos 0)) (capped (int_div (greatest_sum_of_trips t.top.loops (map last_in outer) +ℤ t.top.constant) t.by))) None
last_after_is outer t =
    let rest : Bool → ℤ → Option ℤ = λ c z. cond c (Some (pos 0)) (capped (int_div (z +ℤ t.top.constant) t.by)) in
    ap (λ (x : Bool). cond (has_no_symbol t && not x) (rest (list_any has_no_turn outer) (spans.greatest_sum t.top.loops outer)) None) (any_open outer)
    ∙ ap₂ (λ (c : Bool) (z : ℤ). cond (has_no_symbol t && not (list_any is_none (map last_in outer))) (rest c z) None) (any_early outer) (sums t.top.loops outer)

last_is : (outer : List Span) (o : Option Trip) → (span_of outer o).last ≡ last_by (map last_in outer) o
last_is outer None = refl
last_is outer (Some t) = by (has_constant_top t)
  where
    by : (b : Bool) → (cond b (record { last = Some (int_div t.top.constant t.by); fixed = true }) (ends_at (last_after outer t))).last
        ≡ cond b (Some (int_div t.top.constant t.by)) (cond (has_no_symbol t && not (list_any is_none (map last_in outer)))
        (cond (list_any ends_early (map last_in outer)) (Some (pos 0)) (capped (int_div (greatest_sum_of_trips t.top.loops (map last_in outer) +ℤ t.top.constant) t.by))) None)
    by true = refl
    by false = last_after_is outer t

pub lasts_are : (outer : List Span) (ls : List Loop) → map last_in (spans_of outer ls) ≡ lasts_of (map last_in outer) ls
lasts_are outer [] = refl
lasts_are outer (l ∷ ls) =
    let e = last_is outer l.trip in
    ap₂ (λ (x : Option ℤ) (xs : List (Option ℤ)). x ∷ xs) e
    (lasts_are (outer ++ span_of outer l.trip ∷ []) ls
    ∙ ap (λ (os : List (Option ℤ)). lasts_of os ls)
    (map-append last_in outer (span_of outer l.trip ∷ []) ∙ ap (λ (x : Option ℤ). map last_in outer ++ x ∷ []) e))

-- ---- constant trips

fixed_by : (outer : List Span) (o : Option Trip) → IsSomeAnd o (λ t. IsTrue (has_constant_top t)) → IsTrue (span_of outer o).fixed
fixed_by outer None h = absurd h
fixed_by outer (Some t) h =
    ap (λ (b : Bool). (cond b (record { last = Some (int_div t.top.constant t.by); fixed = true }) (ends_at (last_after outer t))).fixed) h

constant_by : (outer : List Span) (o : Option Trip) → IsTrue (span_of outer o).fixed → IsSomeAnd o (λ t. IsTrue (has_constant_top t))
constant_by outer None h = cc
constant_by outer (Some t) h = by (has_constant_top t) h
  where
    by : (b : Bool) → (cond b (record { last = Some (int_div t.top.constant t.by); fixed = true }) (ends_at (last_after outer t))).fixed ≡ true → b ≡ true
    by true e = refl
    by false e = e

abbrev pub IsFixed : Span → Type 0
IsFixed s = IsTrue s.fixed

pub all_fixed : (outer : List Span) (ls : List Loop) → All HasConstantTrip ls → All IsFixed (spans_of outer ls)
all_fixed outer [] h = All-nil IsFixed
all_fixed outer (l ∷ ls) h =
    All-cons IsFixed (span_of outer l.trip) (spans_of (outer ++ span_of outer l.trip ∷ []) ls) (fixed_by outer l.trip (All-head HasConstantTrip l ls h))
    (all_fixed (outer ++ span_of outer l.trip ∷ []) ls (All-tail HasConstantTrip l ls h))

pub all_constant : (outer : List Span) (ls : List Loop) → All IsFixed (spans_of outer ls) → All HasConstantTrip ls
all_constant outer [] h = All-nil HasConstantTrip
all_constant outer (l ∷ ls) h =
    All-cons HasConstantTrip l ls (constant_by outer l.trip (All-head IsFixed (span_of outer l.trip) (spans_of (outer ++ span_of outer l.trip ∷ []) ls) h))
    (all_constant (outer ++ span_of outer l.trip ∷ []) ls (All-tail IsFixed (span_of outer l.trip) (spans_of (outer ++ span_of outer l.trip ∷ []) ls) h))

pub fixed_at : (outer : List Span) (ls : List Loop) (k : ℕ) → IsSomeAnd (slice_get ls k) HasConstantTrip → IsFixed (get_or (spans_of outer ls) k once)
fixed_at outer [] k h = absurd h
fixed_at outer (l ∷ ls) zero h = fixed_by outer l.trip h
fixed_at outer (l ∷ ls) (suc k) h = fixed_at (outer ++ span_of outer l.trip ∷ []) ls k h
