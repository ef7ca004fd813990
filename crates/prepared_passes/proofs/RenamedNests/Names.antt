-- Names of ranges.
use Rattle.std.proofs.Common.{◌≡◌, refl, sym, ap, ap₂, ◌∙◌, ℕ, ◌<◌, ◌^◌, ◌==◌, Bool, true, false, not, ◌&&◌, List, [], ◌∷◌, ◌++◌, append_assoc, length, length-append, arith}
use Rattle.std.proofs.lemmas.Fmt.{decimal_injective}
use Rattle.std.proofs.lemmas.List.{append_cancel_left, append_cancel_right}
use Rattle.std.proofs.lemmas.Bool.Decides.{Decides-eqb}
use Rattle.std.specs.List.{list_all}
use Rattle.std.specs.Prelude.{codes, decimal, nat_le, slice_index_or}
use Rattle.last_values.specs.normal_forms.NormalLoops.{counter_name}
use Rattle.scalar_expand.specs.Privates.{is_source, number_behind}
use Rattle.scalar_rename.specs.Ranges.{range_name}
use Rattle.tree.specs.Names.{IsSourceName}

-- FORTRAN 77 hasn't it
pub range_long : (n : ℕ) (x : List ℕ) (j : ℕ) → ¬ IsSourceName (range_name n x j)
range_long n x j h =
    let a = h.within in
    let b = length-append ((codes "FV_NAME_" ++ x) ++ (codes "_" ++ decimal j)) (number_behind n) in
    let c = length-append (codes "FV_NAME_" ++ x) (codes "_" ++ decimal j) in
    let d = length-append (codes "FV_NAME_") x in
    omega (arith, a, b, c, d)

-- it counts no loop
pub range_no_counter : (n : ℕ) (x : List ℕ) (j k : ℕ) → ¬ (range_name n x j ≡ counter_name k)
range_no_counter n x j k e = let at : 78 ≡ 76 = ap (λ (y : List ℕ). slice_index_or y 3 0) e in absurd (omega (arith, at))

-- ---- no two of one name

second_true : (a b : Bool) → (a && b) ≡ true → b ≡ true
second_true true b e = e
second_true false b e = cc

first_true : (a b : Bool) → (a && b) ≡ true → a ≡ true
first_true true b e = refl
first_true false b e = cc

no_underscore : (c : ℕ) (cs : List ℕ) → list_all (λ c. not (c == 95)) (c ∷ cs) ≡ true → ¬ (c ≡ 95)
no_underscore c cs e f = by (c == 95) ((Decides-eqb c 95).1 f) (first_true (not (c == 95)) (list_all (λ c. not (c == 95)) cs) e)
  where
    by : (b : Bool) → b ≡ true → not b ≡ true → ⊥
    by true g h = cc
    by false g h = cc

-- the front parts end before the first underscore
pub parted : (x z r q : List ℕ) → list_all (λ c. not (c == 95)) x ≡ true → list_all (λ c. not (c == 95)) z ≡ true → x ++ 95 ∷ r ≡ z ++ 95 ∷ q → (x ≡ z) × (r ≡ q)
parted [] [] r q h k e = let same : r ≡ q = cc in (refl, same)
parted [] (c ∷ z) r q h k e = let same : 95 ≡ c = cc in absurd (no_underscore c z k (sym same))
parted (c ∷ x) [] r q h k e = let same : c ≡ 95 = cc in absurd (no_underscore c x h same)
parted (c ∷ x) (d ∷ z) r q h k e =
    let first : c ≡ d = cc in
    let rest : x ++ 95 ∷ r ≡ z ++ 95 ∷ q = cc in
    let more = parted x z r q (second_true (not (c == 95)) (list_all (λ c. not (c == 95)) x) h) (second_true (not (d == 95)) (list_all (λ c. not (c == 95)) z) k) rest in
    (ap₂ (λ (a : ℕ) (as' : List ℕ). a ∷ as') first more.0, more.1)

pub in_three : (n : ℕ) (x : List ℕ) (j : ℕ) → range_name n x j ≡ codes "FV_NAME_" ++ (x ++ 95 ∷ (decimal j ++ number_behind n))
in_three n x j =
    append_assoc (codes "FV_NAME_" ++ x) (codes "_" ++ decimal j) (number_behind n)
    ∙ append_assoc (codes "FV_NAME_") x (95 ∷ (decimal j ++ number_behind n))

pub plain : (x : List ℕ) → is_source x ≡ true → list_all (λ c. not (c == 95)) x ≡ true
plain x h = second_true (nat_le (length x) 6) (list_all (λ c. not (c == 95)) x) h

rests : (n : ℕ) (x z : List ℕ) (j i : ℕ) → is_source x ≡ true → is_source z ≡ true → range_name n x j ≡ range_name n z i → (x ≡ z) × (decimal j ++ number_behind n ≡ decimal i ++ number_behind n)
rests n x z j i h k e =
    parted x z (decimal j ++ number_behind n) (decimal i ++ number_behind n) (plain x h) (plain z k)
    (append_cancel_left (codes "FV_NAME_") (x ++ 95 ∷ (decimal j ++ number_behind n)) (z ++ 95 ∷ (decimal i ++ number_behind n)) (sym (in_three n x j) ∙ (e ∙ in_three n z i)))

pub one_scalar : (n : ℕ) (x z : List ℕ) (j i : ℕ) → is_source x ≡ true → is_source z ≡ true → range_name n x j ≡ range_name n z i → x ≡ z
one_scalar n x z j i h k e = (rests n x z j i h k e).0

pub one_range : (n : ℕ) (x : List ℕ) (j i : ℕ) → is_source x ≡ true → j < 2 ^ 64 → i < 2 ^ 64 → range_name n x j ≡ range_name n x i → j ≡ i
one_range n x j i h a b e = decimal_injective j i a b (append_cancel_right (decimal j) (decimal i) (number_behind n) (rests n x x j i h h e).1)
