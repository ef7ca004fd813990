-- How the terms of two lists are put together, the first list and a multiple of the second one.
use Rattle.std.specs.Prelude.{◌≡◌, Option, Some, ℕ, nat_lt, ℤ, pos, ◌+ℤ◌, ◌*ℤ◌, Bool, true, false, if◌then◌else◌, List}
use Rattle.std.specs.Prelude.{[], ◌∷◌, map, take, slice_index_or}
use Rattle.std.specs.List.{position_or_len}
use Rattle.std.specs.Ordering.{int_eq}
use Rattle.linear_forms.specs.Linear.{is_small}
use Rattle.linear_forms.specs.declared.terms.Terms.{Terms}
use Rattle.linear_forms.specs.Pushing.{pushed, then_pushed}

-- the coefficients of loops, place by place
abbrev pub IsCombined : List ℤ → List ℤ → ℤ → List ℤ → Type 0
IsCombined fs gs k hs = (j : ℕ)
    → (slice_index_or hs j (pos 0) ≡ slice_index_or fs j (pos 0) +ℤ k *ℤ slice_index_or gs j (pos 0))
    × (is_small (slice_index_or hs j (pos 0)) ≡ true)

abbrev pub IsTooLarge : List ℤ → List ℤ → ℤ → Type 0
IsTooLarge fs gs k =
    (j : ℕ) × (is_small (slice_index_or fs j (pos 0) +ℤ k *ℤ slice_index_or gs j (pos 0)) ≡ false)

-- ---- symbols in rising order

-- t, with what comes of more of its list and of the other one
abbrev pub with_rest : ℤ → ℕ × ℤ → (List (ℕ × ℤ) → List (ℕ × ℤ)) → List (ℕ × ℤ) → List (ℕ × ℤ)
with_rest k t more [] = t ∷ more []
with_rest k t more (u ∷ us) =
    if nat_lt t.0 u.0 then t ∷ more (u ∷ us)
    else if nat_lt u.0 t.0 then (u.0, k *ℤ u.1) ∷ with_rest k t more us
    else (t.0, t.1 +ℤ k *ℤ u.1) ∷ more us

abbrev pub merged : ℤ → List (ℕ × ℤ) → List (ℕ × ℤ) → List (ℕ × ℤ)
merged k [] us = map (λ u. (u.0, k *ℤ u.1)) us
merged k (t ∷ ts) us = with_rest k t (merged k ts) us

abbrev pub all_pushed : List (ℕ × ℤ) → Terms → Option Terms
all_pushed [] t = Some t
all_pushed (u ∷ us) t = then_pushed (pushed u.0 u.1 t) (all_pushed us)

-- ---- the terms in use, up to the first coefficient 0

abbrev pub is_unused : ℕ × ℤ → Bool
is_unused t = int_eq t.1 (pos 0)

abbrev pub front_used : List (ℕ × ℤ) → List (ℕ × ℤ)
front_used ts = take (position_or_len is_unused ts) ts
