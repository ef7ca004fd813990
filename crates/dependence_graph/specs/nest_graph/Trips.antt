-- How far a loop goes, as far as that is known before its nest is run: its last iteration, where there is none beyond.
-- A trip that varies with the loops round it alone is greatest at a corner of their iterations.
use Rattle.std.specs.Prelude.{ℕ, zero, suc, ◌^◌, nat_le, ℤ, pos, negsuc, ◌+ℤ◌, ◌*ℤ◌, int_div}
use Rattle.std.specs.Prelude.{Bool, true, false, not, ◌&&◌, if◌then◌else◌, Option, Some, None, is_none, IsSomeAnd}
use Rattle.std.specs.Prelude.{IsTrue, List, [], ◌∷◌, ◌++◌, unwrap_or}
use Rattle.std.specs.List.{list_all, list_any}
use Rattle.std.specs.Ordering.{int_eq}
use Rattle.nest.specs.declared.parts.Trip.{Trip}
use Rattle.nest.specs.Plain.{Loop}

-- no symbol has a coefficient
abbrev pub has_no_symbol : Trip → Bool
has_no_symbol t = list_all (λ (s : ℕ × ℤ). int_eq s.1 (pos 0)) t.top.syms

-- no loop has one, and no symbol
abbrev pub has_constant_top : Trip → Bool
has_constant_top t = list_all (λ a. int_eq a (pos 0)) t.top.loops && has_no_symbol t

abbrev pub HasConstantTrip : Loop → Type 0
HasConstantTrip l = IsSomeAnd l.trip (λ t. IsTrue (has_constant_top t))

-- below 1
abbrev pub is_below_one : ℤ → Bool
is_below_one (pos zero) = true
is_below_one (pos (suc n)) = false
is_below_one (negsuc n) = true

abbrev pub ends_early : Option ℤ → Bool
ends_early None = false
ends_early (Some n) = is_below_one n

-- the last iteration where the coefficient isn't negative, else the first
abbrev pub corner_of_trip : ℤ → Option ℤ → ℤ
corner_of_trip (pos a) last = unwrap_or last (pos 1)
corner_of_trip (negsuc a) last = pos 1

abbrev pub greatest_sum_of_trips : List ℤ → List (Option ℤ) → ℤ
greatest_sum_of_trips [] lasts = pos 0
greatest_sum_of_trips (a ∷ as') [] = pos 0
greatest_sum_of_trips (a ∷ as') (last ∷ lasts) = a *ℤ corner_of_trip a last +ℤ greatest_sum_of_trips as' lasts

-- none where the greatest trip is negative, and unknown where it is above 2^40
abbrev pub capped : ℤ → Option ℤ
capped (pos n) = if nat_le n (2 ^ 40) then Some (pos n) else None
capped (negsuc n) = Some (pos 0)

-- by the last iterations of the loops round it: a constant trip is known, and so is the greatest one, where the trip
-- has no symbol and those loops end; where one of them is empty there is no iteration
abbrev pub last_by : List (Option ℤ) → Option Trip → Option ℤ
last_by outer None = None
last_by outer (Some t) =
    if has_constant_top t then Some (int_div t.top.constant t.by)
    else (if has_no_symbol t && not (list_any is_none outer)
    then (if list_any ends_early outer then Some (pos 0)
    else capped (int_div (greatest_sum_of_trips t.top.loops outer +ℤ t.top.constant) t.by))
    else None)

-- those of the loops from the outside in
abbrev pub lasts_of : List (Option ℤ) → List Loop → List (Option ℤ)
lasts_of outer [] = []
lasts_of outer (l ∷ ls) = last_by outer l.trip ∷ lasts_of (outer ++ last_by outer l.trip ∷ []) ls
