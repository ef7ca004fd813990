-- The places of what is selected, row by row.
use Rattle.std.proofs.Common.{◌≡◌, refl, sym, ap, ◌∙◌, subst, zero, suc, ℕ, ℤ, ◌+◌, ◌*◌, ◌^◌, ◌-◌, ◌<◌, ◌≤◌, ◌-ℤ◌, Bool, true, false, cond, List, [], ◌∷◌, ◌++◌, map, length, get_or, Option, Some, None, arith}
use Rattle.std.specs.Prelude.{All, min, nat_abs}
use Rattle.std.specs.List.{flat_map}
use Rattle.std.specs.Option.{option_map}
use mathlib.Core.Path.{ap₂}
use Rattle.std.proofs.lemmas.List.{map-append}
use Rattle.std.proofs.Math.Nat.{mul-le-mul_left}
use Rattle.meaning.specs.Store.{size_of, column_major}
use Rattle.meaning.specs.Sections.{Axis, numbers_of, is_within_bounds, all_stand_in}
use Rattle.meaning.specs.Extents.{elements_of}
use Rattle.machine.specs.Storage.{offset, joined}
use Rattle.machine.proofs.StoreLaws.{both_true, number_inside, offset_below}
use Rattle.array_values.specs.storage.array_places.Places.{AxesStand, row, somes, index_in}

one_row : (b : ℤ × ℤ) (bs : List (ℤ × ℤ)) (r : List ℤ) (k : ℕ) (zs : List ℤ) → all_stand_in b zs ≡ true → offset bs r ≡ Some k
    → map (offset (b ∷ bs)) (map (λ x. x ∷ r) zs) ≡ somes (row b zs k)
one_row b bs r k [] h e = refl
one_row b bs r k (z ∷ zs) h e =
    let both = both_true (is_within_bounds b z) (all_stand_in b zs) h in
    ap₂ (λ o os. o ∷ os)
    (ap (joined b z) e ∙ ap (λ (t : Bool). cond t (Some (nat_abs (z -ℤ b.0) + size_of b * k)) None) both.0)
    (one_row b bs r k zs both.1 e)

pub all_rows : (b : ℤ × ℤ) (bs : List (ℤ × ℤ)) (zs : List ℤ) (rs : List (List ℤ)) (ks : List ℕ) → all_stand_in b zs ≡ true → map (offset bs) rs ≡ somes ks
    → map (offset (b ∷ bs)) (flat_map (λ rest. map (λ x. x ∷ rest) zs) rs) ≡ somes (flat_map (row b zs) ks)
all_rows b bs zs [] [] h e = refl
all_rows b bs zs [] (k ∷ ks) h e = cc
all_rows b bs zs (r ∷ rs) [] h e = cc
all_rows b bs zs (r ∷ rs) (k ∷ ks) h e =
    let first : offset bs r ≡ Some k = cc in
    let more : map (offset bs) rs ≡ somes ks = cc in
    map-append (offset (b ∷ bs)) (map (λ x. x ∷ r) zs) (flat_map (λ rest. map (λ x. x ∷ rest) zs) rs)
    ∙ ap₂ (λ os ps. os ++ ps) (one_row b bs r k zs h first) (all_rows b bs zs rs ks h more)
    ∙ sym (map-append (λ k. let o : Option ℕ = Some k in o) (row b zs k) (flat_map (row b zs) ks))

pub places_more : (b : ℤ × ℤ) (bs : List (ℤ × ℤ)) (a : Axis) (axes : List Axis) (ks : List ℕ) → AxesStand (b ∷ bs) (a ∷ axes)
    → map (offset bs) (column_major (map numbers_of axes)) ≡ somes ks
    → map (offset (b ∷ bs)) (column_major (map numbers_of (a ∷ axes))) ≡ somes (flat_map (row b (numbers_of a)) ks)
places_more b bs a axes ks h e = all_rows b bs (numbers_of a) (column_major (map numbers_of axes)) ks h.0 e

pub none_stands : (b : ℤ × ℤ) (zs : List ℤ) → size_of b ≡ 0 → all_stand_in b zs ≡ true → zs ≡ []
none_stands b [] e h = refl
none_stands b (z ∷ zs) e h = (let l = number_inside b z (both_true (is_within_bounds b z) (all_stand_in b zs) h).0 in absurd (omega arith))

pub no_rows : (rs : List (List ℤ)) → flat_map (λ rest. map (λ x. x ∷ rest) (let zs : List ℤ = [] in zs)) rs ≡ []
no_rows [] = refl
no_rows (r ∷ rs) = no_rows rs

pub places_none : (b : ℤ × ℤ) (bs : List (ℤ × ℤ)) (a : Axis) (axes : List Axis) → size_of b ≡ 0 → AxesStand (b ∷ bs) (a ∷ axes)
    → map (offset (b ∷ bs)) (column_major (map numbers_of (a ∷ axes))) ≡ somes []
places_none b bs a axes e h =
    ap (λ zs. map (offset (b ∷ bs)) (flat_map (λ rest. map (λ x. x ∷ rest) zs) (column_major (map numbers_of axes)))) (none_stands b (numbers_of a) e h.0)
    ∙ ap (map (offset (b ∷ bs))) (no_rows (column_major (map numbers_of axes)))

all_more : {A : Type 0} (P : A → Type 0) (x : A) (xs : List A) → P x → All P xs → All P (x ∷ xs)
all_more P x xs p h zero d l = p
all_more P x xs p h (suc k) d l = h k d (omega arith)

pub places_below : (bs : List (ℤ × ℤ)) (rs : List (List ℤ)) (ks : List ℕ) → map (offset bs) rs ≡ somes ks → All (λ k. k < elements_of bs) ks
places_below bs rs [] e = λ k d l. absurd (omega arith)
places_below bs [] (k ∷ ks) e = cc
places_below bs (r ∷ rs) (k ∷ ks) e =
    let first : offset bs r ≡ Some k = cc in
    let more : map (offset bs) rs ≡ somes ks = cc in
    all_more (λ k. k < elements_of bs) k ks (offset_below bs r k first) (places_below bs rs ks more)

pub room_for : (s e r : ℕ) → s * e < 2 ^ 64 → r < e → s * (r + 1) < 2 ^ 64
room_for s e r h l = let m : s * (r + 1) ≤ s * e = mul-le-mul_left s (omega arith) in omega arith

pub inner_room : (s e : ℕ) → s * e < 2 ^ 64 → (s ≡ 0 → ⊥) → e < 2 ^ 64
inner_room zero e h no' = absurd (no' refl)
inner_room (suc s) e h no' = grind arith

pub stand_at : (b : ℤ × ℤ) (zs : List ℤ) (i : ℕ) (d : ℤ) → all_stand_in b zs ≡ true → i < length zs → is_within_bounds b (get_or zs i d) ≡ true
stand_at b [] i d h l = absurd (omega arith)
stand_at b (z ∷ zs) zero d h l = (both_true (is_within_bounds b z) (all_stand_in b zs) h).0
stand_at b (z ∷ zs) (suc i) d h l = stand_at b zs i d (both_true (is_within_bounds b z) (all_stand_in b zs) h).1 (omega arith)

-- ---- one place

joined_by : (b : ℤ × ℤ) (z : ℤ) (k : ℕ) (t : Bool) → is_within_bounds b z ≡ t → joined b z (Some k) ≡ cond t (Some (nat_abs (z -ℤ b.0) + size_of b * k)) None
joined_by b z k t e = ap (λ (t : Bool). cond t (Some (nat_abs (z -ℤ b.0) + size_of b * k)) None) e

pub joined_none : (b : ℤ × ℤ) (z : ℤ) (k : ℕ) → None ≡ index_in b z → joined b z (Some k) ≡ None
joined_none b z k e = by (is_within_bounds b z) refl e
  where
    by : (t : Bool) → is_within_bounds b z ≡ t → None ≡ cond t (Some (nat_abs (z -ℤ b.0))) None → joined b z (Some k) ≡ None
    by true h e = cc
    by false h e = joined_by b z k false h

pub joined_some : (b : ℤ × ℤ) (z : ℤ) (k i : ℕ) → Some i ≡ index_in b z → joined b z (Some k) ≡ Some (i + size_of b * k)
joined_some b z k i e = by (is_within_bounds b z) refl e
  where
    by : (t : Bool) → is_within_bounds b z ≡ t → Some i ≡ cond t (Some (nat_abs (z -ℤ b.0))) None → joined b z (Some k) ≡ Some (i + size_of b * k)
    by true h e = joined_by b z k true h ∙ ap (λ j. let o : Option ℕ = Some (j + size_of b * k) in o) (let same : nat_abs (z -ℤ b.0) ≡ i = cc in same)
    by false h e = cc

pub index_stands : (b : ℤ × ℤ) (z : ℤ) → is_within_bounds b z ≡ true → index_in b z ≡ Some (nat_abs (z -ℤ b.0))
index_stands b z e = ap (λ (t : Bool). cond t (Some (nat_abs (z -ℤ b.0))) None) e

pub index_within : (b : ℤ × ℤ) (z : ℤ) → is_within_bounds b z ≡ true → nat_abs (z -ℤ b.0) < size_of b
index_within b z e = number_inside b z e

pub saturated_fits : (o : Option ℕ) (e p : ℕ) → ((k : ℕ) → o ≡ Some k → k < e) → e < 2 ^ 64 → Some p ≡ option_map (λ j. min j (2 ^ 128 - 1)) o → (p < e) × (Some p ≡ o)
saturated_fits None e p h l q = cc
saturated_fits (Some k) e p h l q =
    let at : p ≡ min k (2 ^ 128 - 1) = cc in
    let below : k < e = h k refl in
    let same : p ≡ k = omega arith in
    (omega arith, ap (λ j. let o : Option ℕ = Some j in o) same)

-- ---- ends

pub end_places : (bs : List (ℤ × ℤ)) (axes : List Axis) (ks : List ℕ) → axes ≡ [] → AxesStand bs axes → ks ≡ 0 ∷ [] → map (offset bs) (column_major (map numbers_of axes)) ≡ somes ks
end_places [] [] ks e h k = ap somes (sym k)
end_places (b ∷ bs) [] ks e h k = absurd h
end_places bs (a ∷ axes) ks e h k = cc

pub end_within : (bs : List (ℤ × ℤ)) (axes : List Axis) (ks : List ℕ) → axes ≡ [] → AxesStand bs axes → ks ≡ 0 ∷ [] → All (λ k. k < elements_of bs) ks
end_within [] [] ks e h k = subst (All (λ k. k < 1)) (sym k) (λ i d l. first i d l)
  where
    first : (i d : ℕ) → i < 1 → get_or (0 ∷ []) i d < 1
    first zero d l = (let e : 0 < 1 = omega arith in e)
    first (suc i) d l = absurd (omega arith)
end_within (b ∷ bs) [] ks e h k = absurd h
end_within bs (a ∷ axes) ks e h k = cc

pub empty_list : {A : Type 0} (xs : List A) → length xs ≡ 0 → xs ≡ []
empty_list [] e = refl
empty_list (x ∷ xs) e = absurd (omega arith)
