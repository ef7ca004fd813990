-- The store that values stand for, and the places of elements.
use Rattle.std.proofs.Common.{◌≡◌, refl, sym, zero, suc, ℕ, ℤ, ◌+◌, ◌*◌, ◌<◌, ◌≤◌, Bool, true, false, cond, List}
use Rattle.std.proofs.Common.{[], ◌∷◌, Option, Some, None, arith, rules, pos, negsuc, ◌-ℤ◌, ◌≤ℤ◌}
use Rattle.std.proofs.lemmas.Float.{T_from_true}
use Rattle.std.proofs.lemmas.Int.{ints}
use Rattle.std.proofs.lemmas.Nat.{mul-add-lt}
use Rattle.std.proofs.Math.Nat.{mul-le-mul_left}
use Rattle.std.specs.Prelude.{int_le, ◌&&◌, nat_abs, ◌^◌, is_some, IfSome}
use Rattle.tree.specs.Plain.{Declaration, Extent, Given, Later}
use Rattle.tree.specs.declared.ops.Value.{Value}
use Rattle.meaning.specs.Store.{Cell, is_within, opening_bounds, opening_value, size_of}
use Rattle.meaning.specs.Typed.{dimensions}
use Rattle.meaning.specs.Extents.{elements_of}
use Rattle.machine.specs.Storage.{store_of, place, offset, joined, value_at, AreBounds, HasBounds}

-- ---- places

pub store-bounds : (ds : List Declaration) (vs : List Value) (x : List ℕ) → (store_of ds vs).bounds x ≡ opening_bounds ds x
unfolding store_of
store-bounds ds vs x = refl

pub store-held : (ds : List Declaration) (vs : List Value) (c : Cell) → (store_of ds vs).held c ≡ value_at vs (opening_value ds c.name) (place ds c.name c.subscripts)
unfolding store_of
store-held ds vs c = refl

unjoined : (b : ℤ × ℤ) (i : ℤ) (t : Bool) (o : Option ℕ) → t ≡ is_some o → int_le b.0 i && (int_le i b.1 && t) ≡ is_some (joined b i o)
unjoined b i t None e = grind (arith, rules)
unjoined b i t (Some r) e = grind (arith, rules)

-- an element has a place where its subscripts are within the bounds
pub within_offset : (bs : List (ℤ × ℤ)) (is : List ℤ) → is_within bs is ≡ is_some (offset bs is)
within_offset [] [] = refl
within_offset [] (i ∷ is) = refl
within_offset (b ∷ bs) [] = refl
within_offset (b ∷ bs) (i ∷ is) = unjoined b i (is_within bs is) (offset bs is) (within_offset bs is)

-- ---- the elements within bounds

pub both_true : (a b : Bool) → (a && b) ≡ true → (a ≡ true) × (b ≡ true)
both_true true true e = (refl, refl)
both_true true false e = cc
both_true false b e = cc

count_is : (z : ℤ) → pos 0 ≤ℤ z → elim z as (λ _. ℕ) [ pos n ↦ n + 1 | negsuc n ↦ 0 ] ≡ nat_abs z + 1
count_is (pos n) h = refl
count_is (negsuc n) h = absurd (omega (arith, ints))

pub size_is : (b : ℤ × ℤ) → b.0 ≤ℤ b.1 → size_of b ≡ nat_abs (b.1 -ℤ b.0) + 1
size_is b h = count_is (b.1 -ℤ b.0) (omega (arith, ints))

pub number_inside : (b : ℤ × ℤ) (i : ℤ) → (int_le b.0 i && int_le i b.1) ≡ true → nat_abs (i -ℤ b.0) < size_of b
number_inside b i e =
    let both = both_true (int_le b.0 i) (int_le i b.1) e in
    let low : b.0 ≤ℤ i = record { le = T_from_true _ both.0 } in
    let high : i ≤ℤ b.1 = record { le = T_from_true _ both.1 } in
    let size = size_is b (omega (arith, ints)) in
    omega (arith, ints)

offset_joined : (b : ℤ × ℤ) (i : ℤ) (o : Option ℕ) (k e : ℕ) → ((r : ℕ) → o ≡ Some r → r < e) → joined b i o ≡ Some k → k < size_of b * e
offset_joined b i None k e h p = cc
offset_joined b i (Some r) k e h p = by (int_le b.0 i && int_le i b.1) refl p
  where
    by : (t : Bool) → (int_le b.0 i && int_le i b.1) ≡ t → cond t (Some (nat_abs (i -ℤ b.0) + size_of b * r)) None ≡ Some k → k < size_of b * e
    by true t q =
        let same : nat_abs (i -ℤ b.0) + size_of b * r ≡ k = cc in
        let inside : nat_abs (i -ℤ b.0) < size_of b = number_inside b i t in
        let room = mul-add-lt r (size_of b) (nat_abs (i -ℤ b.0)) e (h r refl) inside in
        omega arith
    by false t q = cc

pub offset_below : (bs : List (ℤ × ℤ)) (is : List ℤ) (k : ℕ) → offset bs is ≡ Some k → k < elements_of bs
offset_below [] [] k e = (let same : 0 ≡ k = cc in omega arith)
offset_below [] (i ∷ is) k e = cc
offset_below (b ∷ bs) [] k e = cc
offset_below (b ∷ bs) (i ∷ is) k e = offset_joined b i (offset bs is) k (elements_of bs) (λ r. offset_below bs is r) e

inner_few : (d e : ℕ) → d * e ≤ 2 ^ 22 → 0 < d → e ≤ 2 ^ 22
inner_few zero e h p = absurd (omega arith)
inner_few (suc d) e h p = grind arith

pub inner_bounds : (b : ℤ × ℤ) (bs : List (ℤ × ℤ)) → AreBounds (b ∷ bs) → AreBounds bs
inner_bounds b bs h =
    let positive : 0 < size_of b = (let e = size_is b h.each.0.ordered in omega arith) in
    record { each = h.each.1; dimensions = omega (arith, h.dimensions); few = inner_few (size_of b) (elements_of bs) h.few positive }

pub rest_few : (b : ℤ × ℤ) (bs : List (ℤ × ℤ)) (r : ℕ) → AreBounds (b ∷ bs) → r < elements_of bs → size_of b * r ≤ 2 ^ 22
rest_few b bs r h l = let m : size_of b * r ≤ size_of b * elements_of bs = mul-le-mul_left (size_of b) (omega arith) in omega (arith, h.few)

-- the place of an element, by the place that its other subscripts give
pub joined_below : (b : ℤ × ℤ) (bs : List (ℤ × ℤ)) (i : ℤ) (r : ℕ) (q : Option ℕ) → q ≡ joined b i (Some r) → r < elements_of bs → IfSome q (λ k. k < elements_of (b ∷ bs))
joined_below b bs i r None e l = tt
joined_below b bs i r (Some k) e l = offset_joined b i (Some r) k (elements_of bs) (λ s p. (let same : r ≡ s = cc in omega (arith, l))) (sym e)

pub ruleset offset_laws = (inner_bounds, rest_few, offset_below)

-- ---- bounds of declarations

pub bounds_known : (e : Extent) → HasBounds e → AreBounds (dimensions e)
bounds_known (Given bs) h = h
bounds_known (Later n) h = absurd h
