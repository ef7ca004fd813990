-- Names of ranges: Fortran 90 has them, and nests with numbers of their own have ranges with names of their own.
use Rattle.std.proofs.Common.{◌≡◌, ◌⊎◌, inl, inr, refl, sym, ap, ◌∙◌, ℕ, ◌+◌, ◌<◌, ◌≤◌, ◌^◌, Bool, true, false, cond, codes, List, [], ◌∷◌, ◌++◌, length, length-append, arith}
use Rattle.std.specs.Prelude.{decimal, ◌==◌, ◌%◌}
use Rattle.std.specs.List.{list_all}
use Rattle.std.proofs.lemmas.Fmt.{decimal_by_steps, decimal_injective, length-decimal-le}
use Rattle.std.proofs.lemmas.List.Folds.{list_all-append}
use Rattle.if_convert.specs.Masks.{mask_name}
use Rattle.meaning.specs.SymbolicNames.{IsLongName}
use Rattle.nest_order.proofs.orders.Lists.{In-append}
use Rattle.nest_order.specs.orders.Lists.{In}
use Rattle.pass_laws.proofs.PreparedNests.Lists.{within_32}
use Rattle.scalar_expand.specs.Privates.{number_behind}
use Rattle.scalar_rename.specs.Ranges.{range_name}
use Rattle.tree.specs.Names.{IsSourceName}
use Rattle.prepared_passes.proofs.ConvertedNests.MadeNames.{both_true, goes_on, small_number, stands_in_name, ten_digits}
use Rattle.prepared_passes.proofs.ExpandedNests.ArrayNames.{number_tail, one_number, split}
use Rattle.prepared_passes.proofs.ExpandedNests.Names.{fourth, front_cancelled, source_is}
use Rattle.prepared_passes.proofs.RenamedNests.Names.{in_three, parted, plain}
use Rattle.prepared_passes.specs.expansion.Found.{RangeNamesAreApart}

-- ---- numbers of nests

pub begins_right : (n : ℕ) → n ≤ 4294967295 → list_all stands_in_name (number_behind n) ≡ true
begins_right n h = by (n == 1)
  where
    by : (b : Bool) → list_all stands_in_name (cond b [] (codes "_" ++ decimal n)) ≡ true
    by true = refl
    by false = goes_on (codes "_") n refl (omega (arith, h))

pub short_behind : (n : ℕ) → n ≤ 4294967295 → length (number_behind n) ≤ 11
short_behind n h = by (n == 1)
  where
    by : (b : Bool) → length (cond b [] (codes "_" ++ decimal n)) ≤ 11
    by true = omega arith
    by false =
        let most : n ≤ 4294967296 = omega (arith, h) in
        let digits = length-decimal-le 10 n (omega arith) (ten_digits n most) (small_number n most) in
        let all = length-append (codes "_") (decimal n) in
        let one : length (codes "_") ≡ 1 = refl in
        omega (arith, digits, all, one)

-- ---- names of ranges

five_digits : (j : ℕ) → j < 100000 → j < 10 ^ 5
five_digits j h = h

below_32 : (j : ℕ) → j < 100000 → j ≤ 4294967296
below_32 j h = omega (arith, h)

pub range_is_name : (n : ℕ) (x : List ℕ) (j : ℕ) → IsSourceName x → list_all stands_in_name x ≡ true → n ≤ 4294967295 → j < 100000 → IsLongName (range_name n x j)
range_is_name n x j s stands h few = record {
  begins = refl;
  goes_on =
      list_all-append stands_in_name ((codes "FV_NAME_" ++ x) ++ (codes "_" ++ decimal j)) (number_behind n)
      ∙ both_true (list_all stands_in_name ((codes "FV_NAME_" ++ x) ++ (codes "_" ++ decimal j))) (list_all stands_in_name (number_behind n)) front (begins_right n h);
  within =
      let short = s.within in
      let last = short_behind n h in
      let digits = length-decimal-le 5 j (omega arith) (five_digits j few) (small_number j (below_32 j few)) in
      let all = length-append ((codes "FV_NAME_" ++ x) ++ (codes "_" ++ decimal j)) (number_behind n) in
      let both = length-append (codes "FV_NAME_" ++ x) (codes "_" ++ decimal j) in
      let stem = length-append (codes "FV_NAME_") x in
      let middle = length-append (codes "_") (decimal j) in
      let eight : length (codes "FV_NAME_") ≡ 8 = refl in
      let one : length (codes "_") ≡ 1 = refl in
      omega (arith, short, last, digits, all, both, stem, middle, eight, one);
}
  where
    stem : list_all stands_in_name (codes "FV_NAME_" ++ x) ≡ true
    stem = list_all-append stands_in_name (codes "FV_NAME_") x ∙ both_true (list_all stands_in_name (codes "FV_NAME_")) (list_all stands_in_name x) refl stands

    front : list_all stands_in_name ((codes "FV_NAME_" ++ x) ++ (codes "_" ++ decimal j)) ≡ true
    front =
        list_all-append stands_in_name (codes "FV_NAME_" ++ x) (codes "_" ++ decimal j)
        ∙ both_true (list_all stands_in_name (codes "FV_NAME_" ++ x)) (list_all stands_in_name (codes "_" ++ decimal j)) stem (goes_on (codes "_") j refl (below_32 j few))

pub fourth_range : (n : ℕ) (x : List ℕ) (j : ℕ) → fourth (range_name n x j) ≡ 78
fourth_range n x j =
    ap (λ (f : List ℕ). fourth (((f ++ x) ++ (codes "_" ++ decimal j)) ++ number_behind n))
    (let e : codes "FV_NAME_" ≡ 70 ∷ 86 ∷ 95 ∷ 78 ∷ 65 ∷ 77 ∷ 69 ∷ 95 ∷ [] = refl in e)

pub fourth_mask : (j : ℕ) → fourth (mask_name j) ≡ 77
fourth_mask j = ap (λ (f : List ℕ). fourth (f ++ decimal (j + 1))) (let e : codes "FV_MASK_" ≡ 70 ∷ 86 ∷ 95 ∷ 77 ∷ 65 ∷ 83 ∷ 75 ∷ 95 ∷ [] = refl in e)

-- ---- nests with numbers of their own

-- digits are no underscores
no_line : (n : ℕ) → n < 2 ^ 64 → ¬ In 95 (decimal n)
no_line n h = decimal_by_steps (λ m ds. ¬ In 95 ds) one more n h
  where
    one : (m : ℕ) → m < 10 → ¬ In 95 ((48 + m) ∷ [])
    one m l (inl e) = absurd (omega (arith, l, e))
    one m l (inr i) = i

    more : (m : ℕ) (ds : List ℕ) → 10 ≤ m → ¬ In 95 ds → ¬ In 95 (ds ++ (48 + m % 10) ∷ [])
    more m ds l k i = by (In-append 95 ds ((48 + m % 10) ∷ []) i)
      where
        by : In 95 ds ⊎ In 95 ((48 + m % 10) ∷ []) → ⊥
        by (inl j) = k j
        by (inr j) = one (m % 10) (omega arith) j

pub range_names_are_apart : RangeNamesAreApart
range_names_are_apart i j x y a b low high few less s t e =
    let whole : codes "FV_NAME_" ++ (x ++ 95 ∷ (decimal a ++ number_behind i)) ≡ codes "FV_NAME_" ++ (y ++ 95 ∷ (decimal b ++ number_behind j))
    = sym (in_three i x a) ∙ (e ∙ in_three j y b) in
    let r = parted x y (decimal a ++ number_behind i) (decimal b ++ number_behind j) (plain x (source_is x s)) (plain y (source_is y t))
    (front_cancelled (codes "FV_NAME_") (x ++ 95 ∷ (decimal a ++ number_behind i)) (y ++ 95 ∷ (decimal b ++ number_behind j)) whole) in
    let small = small_number a (below_32 a few) in
    let little = small_number b (below_32 b less) in
    let q = split (decimal a) (decimal b) (number_behind i) (number_behind j) (no_line a small) (no_line b little) (number_tail i) (number_tail j) r.1 in
    (one_number i j (within_32 i low) (within_32 j high) q.1, r.0, decimal_injective a b small little q.0)
