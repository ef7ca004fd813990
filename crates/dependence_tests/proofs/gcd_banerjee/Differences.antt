-- The difference of both sides over a region: what loops, symbols and constants add.
use Rattle.std.proofs.Common.{◌≡◌, ℕ, ◌+◌, ◌*◌, ◌≤◌, ◌⊎◌, Bool, true, false, List, ap, arith, sym, ◌∙◌, refl, subst}
use Rattle.std.specs.Prelude.{ℤ, pos, ◌+ℤ◌, ◌-ℤ◌, ◌*ℤ◌, ◌≤ℤ◌, ◌<ℤ◌, IsTrue, ◌↔◌}
use Rattle.std.proofs.lemmas.Int.{ints}
use Rattle.dependence_tests.proofs.gcd_banerjee.Sums.{least_sum, same_least}
use Rattle.dependence_tests.specs.gcd_banerjee.Extremes.{IsAbove, IsDifference, IsLoopsValue, IsSymbolsValue, difference_with, turned}
use Rattle.dependence_tests.specs.gcd_banerjee.Least.{IsLeastOf, IsSumOf, plus_least}
use Rattle.dependence_tests.specs.declared.gcd_banerjee.least.Least.{Least}
use Rattle.dependence_tests.specs.declared.gcd_banerjee.least.Least.TheVariants.{At, Nothing, Unbounded}
use Rattle.subscripts.specs.Forms.{IsInRegion, over_loops, over_symbols}
use Rattle.subscripts.specs.declared.affine.Dirs.{Dirs}
use Rattle.subscripts.specs.declared.pairing.Pairing.{Pairing}

-- the one number
abbrev Is : ℤ → ℤ → Type 0
Is c z = z ≡ c

least_of_one : (c : ℤ) → IsLeastOf (Is c) (At c)
least_of_one c = (refl, λ z e. omega (arith, ints))

turned_sum : (o : Bool) (a b c : ℤ) → (turned o a +ℤ turned o b) +ℤ turned o c ≡ turned o (a +ℤ (b +ℤ c))
turned_sum false a b c = omega (arith, ints)
turned_sum true a b c = omega (arith, ints)

abbrev IsParts : Pairing → Dirs → ℤ → Bool → ℤ → Type 0
IsParts p d c o = IsSumOf (IsSumOf (IsLoopsValue p d o 0) (IsSymbolsValue p o)) (Is (turned o c))

parts_there : (p : Pairing) (d : Dirs) (c : ℤ) (o : Bool) (z : ℤ) → IsParts p d c o z → IsDifference p d c o z
parts_there p d c o z v =
    let l = v.in_first.in_first in
    let s = v.in_first.in_second in
    record {
      values = s.values;
      first = l.first;
      second = l.second;
      region = record { from_within = l.first_within; to_within = l.second_within; related = l.related };
      value =
          v.sum ∙ ap (λ x. x +ℤ v.second) v.in_first.sum
          ∙ ap (λ x. (x +ℤ v.in_first.second) +ℤ v.second) l.value
          ∙ ap (λ x. (turned o (over_loops p.from.loops l.first -ℤ over_loops p.to.loops l.second) +ℤ x) +ℤ v.second) s.value
          ∙ ap (λ x. (turned o (over_loops p.from.loops l.first -ℤ over_loops p.to.loops l.second) +ℤ turned o (over_symbols p.from.syms s.values -ℤ over_symbols p.to.syms s.values)) +ℤ x) v.in_second
          ∙ turned_sum o (over_loops p.from.loops l.first -ℤ over_loops p.to.loops l.second) (over_symbols p.from.syms s.values -ℤ over_symbols p.to.syms s.values) c;
    }

parts_back : (p : Pairing) (d : Dirs) (c : ℤ) (o : Bool) (z : ℤ) → IsDifference p d c o z → IsParts p d c o z
parts_back p d c o z v =
    let a = over_loops p.from.loops v.first -ℤ over_loops p.to.loops v.second in
    let b = over_symbols p.from.syms v.values -ℤ over_symbols p.to.syms v.values in
    record {
      first = turned o a +ℤ turned o b;
      second = turned o c;
      in_first = record {
        first = turned o a;
        second = turned o b;
        in_first = record { first = v.first; second = v.second; first_within = v.region.from_within; second_within = v.region.to_within; related = v.region.related; value = refl };
        in_second = record { values = v.values; value = refl };
        sum = refl;
      };
      in_second = refl;
      sum = v.value ∙ sym (turned_sum o a b c);
    }

pub least_difference : (p : Pairing) (d : Dirs) (c : ℤ) (o : Bool) (l s : Least) → IsLeastOf (IsLoopsValue p d o 0) l → IsLeastOf (IsSymbolsValue p o) s
    → IsLeastOf (IsDifference p d c o) (plus_least (plus_least l s) (At (turned o c)))
least_difference p d c o l s h g =
    same_least (IsParts p d c o) (IsDifference p d c o) (plus_least (plus_least l s) (At (turned o c))) (parts_there p d c o) (parts_back p d c o)
    (least_sum (IsSumOf (IsLoopsValue p d o 0) (IsSymbolsValue p o)) (Is (turned o c)) (plus_least l s) (At (turned o c))
    (least_sum (IsLoopsValue p d o 0) (IsSymbolsValue p o) l s h g) (least_of_one (turned o c)))

-- ---- whether all are above 0

pub above_nothing : (p : Pairing) (d : Dirs) (c : ℤ) (o : Bool) → IsLeastOf (IsDifference p d c o) Nothing → IsAbove p d c o
above_nothing p d c o h v x y r = absurd (h _ (record { values = v; first = x; second = y; region = r; value = refl }))

pub not_above_unbounded : (p : Pairing) (d : Dirs) (c : ℤ) (o : Bool) → IsLeastOf (IsDifference p d c o) Unbounded → IsAbove p d c o → ⊥
not_above_unbounded p d c o h a =
    let k = h (pos 0) in
    let v = k.1.0 in
    let e = v.value in
    let l = k.1.1 in
    let b = a v.values v.first v.second v.region in
    absurd (omega (arith, ints))

pub above_least : (p : Pairing) (d : Dirs) (c : ℤ) (o : Bool) (m : ℤ) → IsLeastOf (IsDifference p d c o) (At m) → pos 0 <ℤ m → IsAbove p d c o
above_least p d c o m h l v x y r = let k = h.1 _ (record { values = v; first = x; second = y; region = r; value = refl }) in omega (arith, ints)

pub least_above : (p : Pairing) (d : Dirs) (c : ℤ) (o : Bool) (m : ℤ) → IsLeastOf (IsDifference p d c o) (At m) → IsAbove p d c o → pos 0 <ℤ m
least_above p d c o m h a = let e = h.0.value in let b = a h.0.values h.0.first h.0.second h.0.region in omega (arith, ints)
