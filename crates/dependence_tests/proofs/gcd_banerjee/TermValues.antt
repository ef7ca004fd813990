-- The iterations of a loop as the points of a triangle.
use Rattle.std.proofs.Common.{◌≡◌, ℕ, ◌+◌, ◌-◌, ◌*◌, ◌≤◌, ap, arith, sym, ◌∙◌, refl, subst}
use Rattle.std.specs.Prelude.{ℤ, pos, negsuc, ◌+ℤ◌, ◌-ℤ◌, ◌*ℤ◌, ◌≤ℤ◌, ◌<ℤ◌, Option, Some, None, IfSome}
use Rattle.std.proofs.lemmas.Int.{ints}
use Rattle.dependence_tests.proofs.gcd_banerjee.Sums.{least_sum, same_least}
use Rattle.dependence_tests.specs.gcd_banerjee.Least.{IsLeastOf, IsSumOf, IsTriangleValue, plus_least}
use Rattle.dependence_tests.specs.declared.gcd_banerjee.least.Least.{Least}
use Rattle.dependence_tests.specs.gcd_banerjee.Terms.{IsAlong, IsBeforeValue, IsTermValue, IsUpTo, room_from}
use Rattle.subscripts.proofs.Ring.{linear, ring}
use Rattle.subscripts.specs.Iterations.{WithinSpan}
use Rattle.subscripts.specs.declared.affine.Dir.TheVariants.{Lt, Eq, Gt, Any}
use Rattle.subscripts.specs.declared.affine.Span.{Span}

-- a number from k on
natural : (z : ℤ) (k : ℕ) → pos k ≤ℤ z → (n : ℕ) × (z ≡ pos k +ℤ pos n)
natural (pos n) k h = (n - k, ap (λ m. pos m) (let l : k ≤ n = omega (arith, ints) in omega arith))
natural (negsuc n) k h = absurd (omega (arith, ints))

along_value : (c i j : ℤ) → c +ℤ (c *ℤ i +ℤ c *ℤ j) ≡ c *ℤ (pos 1 +ℤ (i +ℤ j))
along_value c i j = simp ring (omega (arith, linear))

before_value : (a b i j : ℤ) → ((a -ℤ b) -ℤ b) +ℤ ((a -ℤ b) *ℤ i +ℤ (pos 0 -ℤ b) *ℤ j) ≡ a *ℤ (pos 1 +ℤ i) -ℤ b *ℤ (pos 1 +ℤ (pos 1 +ℤ (i +ℤ j)))
before_value a b i j = simp ring (omega (arith, linear))

room_in : (last : Option ℤ) (start : ℤ) (n : ℕ) (z : ℤ) → z ≡ start +ℤ pos n → IfSome (room_from start last) (λ m. pos n ≤ℤ m) → IfSome last (λ m. z ≤ℤ m)
room_in None start n z e h = tt
room_in (Some m) start n z e h = omega (arith, ints)

room_out : (last : Option ℤ) (start : ℤ) (n : ℕ) (z : ℤ) → z ≡ start +ℤ pos n → IfSome last (λ m. z ≤ℤ m) → IfSome (room_from start last) (λ m. pos n ≤ℤ m)
room_out None start n z e h = tt
room_out (Some m) start n z e h = omega (arith, ints)

pub along_there : (c : ℤ) (last : Option ℤ) (z : ℤ) → IsTriangleValue c (room_from (pos 1) last) c c z → IsAlong c last z
along_there c last z v = record {
  at = pos 1 +ℤ (pos v.u +ℤ pos v.w);
  up_to = record { low = omega (arith, ints); high = room_in last (pos 1) (v.u + v.w) _ (omega (arith, ints)) v.fits };
  value = v.value ∙ along_value c (pos v.u) (pos v.w);
}

pub along_back : (c : ℤ) (last : Option ℤ) (z : ℤ) → IsAlong c last z → IsTriangleValue c (room_from (pos 1) last) c c z
along_back c last z v =
    let n = natural v.at 1 v.up_to.low in
    record {
      u = n.0;
      w = 0;
      fits = room_out last (pos 1) (n.0 + 0) v.at (let e = n.1 in omega (arith, ints)) v.up_to.high;
      value = v.value ∙ ap (λ i. c *ℤ i) (let e = n.1 in let g : v.at ≡ pos 1 +ℤ (pos n.0 +ℤ pos 0) = omega (arith, ints) in g) ∙ sym (along_value c (pos n.0) (pos 0));
    }

pub before_there : (a b : ℤ) (last : Option ℤ) (z : ℤ) → IsTriangleValue ((a -ℤ b) -ℤ b) (room_from (pos 2) last) (a -ℤ b) (pos 0 -ℤ b) z → IsBeforeValue a b last z
before_there a b last z v = record {
  first = pos 1 +ℤ pos v.u;
  second = pos 1 +ℤ (pos 1 +ℤ (pos v.u +ℤ pos v.w));
  low = omega (arith, ints);
  before = omega (arith, ints);
  high = room_in last (pos 2) (v.u + v.w) _ (omega (arith, ints)) v.fits;
  value = v.value ∙ before_value a b (pos v.u) (pos v.w);
}

pub before_back : (a b : ℤ) (last : Option ℤ) (z : ℤ) → IsBeforeValue a b last z → IsTriangleValue ((a -ℤ b) -ℤ b) (room_from (pos 2) last) (a -ℤ b) (pos 0 -ℤ b) z
before_back a b last z v =
    let n = natural v.first 1 v.low in
    let m = natural (v.second -ℤ v.first) 1 (let h = v.before in omega (arith, ints)) in
    let i : v.first ≡ pos 1 +ℤ pos n.0 = n.1 in
    let j : v.second ≡ pos 1 +ℤ (pos 1 +ℤ (pos n.0 +ℤ pos m.0)) = let e = m.1 in omega (arith, ints) in
    record {
      u = n.0;
      w = m.0;
      fits = room_out last (pos 2) (n.0 + m.0) v.second (omega (arith, ints)) v.high;
      value = v.value ∙ ap (λ x. a *ℤ x -ℤ b *ℤ v.second) i ∙ ap (λ y. a *ℤ (pos 1 +ℤ pos n.0) -ℤ b *ℤ y) j ∙ sym (before_value a b (pos n.0) (pos m.0));
    }

-- ---- by the directions

less_times : (a b i : ℤ) → (a -ℤ b) *ℤ i ≡ a *ℤ i -ℤ b *ℤ i
less_times a b i = simp ring (omega (arith, linear))

turned_value : (a b i j : ℤ) → (pos 0 -ℤ b) *ℤ j -ℤ (pos 0 -ℤ a) *ℤ i ≡ a *ℤ i -ℤ b *ℤ j
turned_value a b i j = simp ring (omega (arith, linear))

plus_opposite : (a b i j : ℤ) → a *ℤ i +ℤ (pos 0 -ℤ b) *ℤ j ≡ a *ℤ i -ℤ b *ℤ j
plus_opposite a b i j = simp ring (omega (arith, linear))

lower_too : (last : Option ℤ) (i j : ℤ) → i ≤ℤ j → IfSome last (λ n. j ≤ℤ n) → IfSome last (λ n. i ≤ℤ n)
lower_too None i j l h = tt
lower_too (Some n) i j l h = omega (arith, ints)

pub lt_there : (a b : ℤ) (s t : Span) (z : ℤ) → s ≡ t → IsBeforeValue a b s.last z → IsTermValue a b s t Lt z
lt_there a b s t z e v = record {
  first = v.first;
  second = v.second;
  first_within = record { low = v.low; high = lower_too s.last v.first v.second (let h = v.before in omega (arith, ints)) v.high };
  second_within = subst (λ x. WithinSpan x v.second) e (record { low = let h = v.before in let l = v.low in omega (arith, ints); high = v.high });
  related = v.before;
  value = v.value;
}

pub lt_back : (a b : ℤ) (s t : Span) (z : ℤ) → s ≡ t → IsTermValue a b s t Lt z → IsBeforeValue a b s.last z
lt_back a b s t z e v =
    let w : WithinSpan s v.second = subst (λ x. WithinSpan x v.second) (sym e) v.second_within in
    record { first = v.first; second = v.second; low = v.first_within.low; before = v.related; high = w.high; value = v.value }

pub gt_there : (a b : ℤ) (s t : Span) (z : ℤ) → s ≡ t → IsBeforeValue (pos 0 -ℤ b) (pos 0 -ℤ a) s.last z → IsTermValue a b s t Gt z
gt_there a b s t z e v = record {
  first = v.second;
  second = v.first;
  first_within = record { low = let h = v.before in let l = v.low in omega (arith, ints); high = v.high };
  second_within = subst (λ x. WithinSpan x v.first) e (record { low = v.low; high = lower_too s.last v.first v.second (let h = v.before in omega (arith, ints)) v.high });
  related = v.before;
  value = v.value ∙ turned_value a b v.second v.first;
}

pub gt_back : (a b : ℤ) (s t : Span) (z : ℤ) → s ≡ t → IsTermValue a b s t Gt z → IsBeforeValue (pos 0 -ℤ b) (pos 0 -ℤ a) s.last z
gt_back a b s t z e v = record {
  first = v.second;
  second = v.first;
  low = v.second_within.low;
  before = v.related;
  high = v.first_within.high;
  value = v.value ∙ sym (turned_value a b v.first v.second);
}

pub eq_there : (a b : ℤ) (s t : Span) (z : ℤ) → s ≡ t → IsAlong (a -ℤ b) s.last z → IsTermValue a b s t Eq z
eq_there a b s t z e v =
    let w : WithinSpan s v.at = record { low = v.up_to.low; high = v.up_to.high } in
    record {
      first = v.at;
      second = v.at;
      first_within = w;
      second_within = subst (λ x. WithinSpan x v.at) e w;
      related = refl;
      value = v.value ∙ less_times a b v.at;
    }

pub eq_back : (a b : ℤ) (s t : Span) (z : ℤ) → IsTermValue a b s t Eq z → IsAlong (a -ℤ b) s.last z
eq_back a b s t z v = record {
  at = v.first;
  up_to = record { low = v.first_within.low; high = v.first_within.high };
  value = v.value ∙ ap (λ j. a *ℤ v.first -ℤ b *ℤ j) (sym v.related) ∙ sym (less_times a b v.first);
}

pub any_there : (a b : ℤ) (s t : Span) (z : ℤ) → IsSumOf (IsAlong a s.last) (IsAlong (pos 0 -ℤ b) t.last) z → IsTermValue a b s t Any z
any_there a b s t z v = record {
  first = v.in_first.at;
  second = v.in_second.at;
  first_within = record { low = v.in_first.up_to.low; high = v.in_first.up_to.high };
  second_within = record { low = v.in_second.up_to.low; high = v.in_second.up_to.high };
  related = tt;
  value = v.sum ∙ ap (λ x. x +ℤ v.second) v.in_first.value ∙ ap (λ y. a *ℤ v.in_first.at +ℤ y) v.in_second.value ∙ plus_opposite a b v.in_first.at v.in_second.at;
}

pub any_back : (a b : ℤ) (s t : Span) (z : ℤ) → IsTermValue a b s t Any z → IsSumOf (IsAlong a s.last) (IsAlong (pos 0 -ℤ b) t.last) z
any_back a b s t z v = record {
  first = a *ℤ v.first;
  second = (pos 0 -ℤ b) *ℤ v.second;
  in_first = record { at = v.first; up_to = record { low = v.first_within.low; high = v.first_within.high }; value = refl };
  in_second = record { at = v.second; up_to = record { low = v.second_within.low; high = v.second_within.high }; value = refl };
  sum = v.value ∙ sym (plus_opposite a b v.first v.second);
}

-- ---- the least ones

pub least_of_along : (c : ℤ) (last room : Option ℤ) (l : Least) → room ≡ room_from (pos 1) last → IsLeastOf (IsTriangleValue c room c c) l → IsLeastOf (IsAlong c last) l
least_of_along c last room l e h =
    same_least (IsTriangleValue c (room_from (pos 1) last) c c) (IsAlong c last) l (along_there c last) (along_back c last) (subst (λ r. IsLeastOf (IsTriangleValue c r c c) l) e h)

pub least_of_before : (a b : ℤ) (last room : Option ℤ) (l : Least) → room ≡ room_from (pos 2) last
    → IsLeastOf (IsTriangleValue ((a -ℤ b) -ℤ b) room (a -ℤ b) (pos 0 -ℤ b)) l → IsLeastOf (IsBeforeValue a b last) l
least_of_before a b last room l e h =
    same_least (IsTriangleValue ((a -ℤ b) -ℤ b) (room_from (pos 2) last) (a -ℤ b) (pos 0 -ℤ b)) (IsBeforeValue a b last) l (before_there a b last) (before_back a b last)
    (subst (λ r. IsLeastOf (IsTriangleValue ((a -ℤ b) -ℤ b) r (a -ℤ b) (pos 0 -ℤ b)) l) e h)

pub least_lt : (a b : ℤ) (s t : Span) (l : Least) → s ≡ t → IsLeastOf (IsBeforeValue a b s.last) l → IsLeastOf (IsTermValue a b s t Lt) l
least_lt a b s t l e h = same_least (IsBeforeValue a b s.last) (IsTermValue a b s t Lt) l (λ z. lt_there a b s t z e) (λ z. lt_back a b s t z e) h

pub least_gt : (a b : ℤ) (s t : Span) (l : Least) → s ≡ t → IsLeastOf (IsBeforeValue (pos 0 -ℤ b) (pos 0 -ℤ a) s.last) l → IsLeastOf (IsTermValue a b s t Gt) l
least_gt a b s t l e h = same_least (IsBeforeValue (pos 0 -ℤ b) (pos 0 -ℤ a) s.last) (IsTermValue a b s t Gt) l (λ z. gt_there a b s t z e) (λ z. gt_back a b s t z e) h

pub least_eq : (a b : ℤ) (s t : Span) (l : Least) → s ≡ t → IsLeastOf (IsAlong (a -ℤ b) s.last) l → IsLeastOf (IsTermValue a b s t Eq) l
least_eq a b s t l e h = same_least (IsAlong (a -ℤ b) s.last) (IsTermValue a b s t Eq) l (λ z. eq_there a b s t z e) (λ z. eq_back a b s t z) h

pub least_any : (a b : ℤ) (s t : Span) (l k : Least) → IsLeastOf (IsAlong a s.last) l → IsLeastOf (IsAlong (pos 0 -ℤ b) t.last) k → IsLeastOf (IsTermValue a b s t Any) (plus_least l k)
least_any a b s t l k h g =
    same_least (IsSumOf (IsAlong a s.last) (IsAlong (pos 0 -ℤ b) t.last)) (IsTermValue a b s t Any) (plus_least l k) (any_there a b s t) (any_back a b s t)
    (least_sum (IsAlong a s.last) (IsAlong (pos 0 -ℤ b) t.last) l k h g)
