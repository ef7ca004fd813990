-- Values of a linear form over several loops, one loop after the other.
use Rattle.std.proofs.Common.{◌≡◌, ◌≢◌, ℕ, ◌+◌, ◌-◌, ◌*◌, ◌<◌, ◌≤◌, ◌^◌, Bool, true, false, List, [], ◌∷◌, length, suc, ap, arith, sym, ◌∙◌, refl, subst, get_or, drop}
use Rattle.std.specs.Prelude.{ℤ, pos, ◌+ℤ◌, ◌-ℤ◌, ◌*ℤ◌, ◌≤ℤ◌, unsigned_abs}
use Rattle.std.proofs.Math.Seq.{drop-cons}
use Rattle.std.proofs.lemmas.Int.{ints}
use Rattle.std.proofs.lemmas.List.{drop_all}
use Rattle.dependence_tests.proofs.gcd_banerjee.Sums.{least_sum, same_least}
use Rattle.dependence_tests.specs.gcd_banerjee.Extremes.{IsLinearValue, IsLoopsValue, turned}
use Rattle.dependence_tests.specs.gcd_banerjee.Least.{IsLeastOf, IsSumOf, plus_least}
use Rattle.dependence_tests.specs.gcd_banerjee.Terms.{IsTermValue}
use Rattle.dependence_tests.specs.declared.gcd_banerjee.least.Least.{Least}
use Rattle.dependence_tests.specs.declared.gcd_banerjee.least.Least.TheVariants.{At}
use Rattle.subscripts.proofs.Ring.{linear, ring}
use Rattle.subscripts.specs.Forms.{AreRelated, WithinSpans, over_loops}
use Rattle.subscripts.specs.declared.affine.Dir.{Dir}
use Rattle.subscripts.specs.declared.affine.Dirs.{Dirs}
use Rattle.subscripts.specs.declared.affine.Span.{Span}
use Rattle.subscripts.specs.declared.pairing.Pairing.{Pairing}

turned_zero : (o : Bool) → turned o (pos 0 -ℤ pos 0) ≡ pos 0
turned_zero false = refl
turned_zero true = refl

no_loops_value : (o : Bool) (z : ℤ) (ts us : List ℤ) → z ≡ turned o (over_loops [] ts -ℤ over_loops [] us) → pos 0 ≤ℤ z
no_loops_value o z ts us e = let h = turned_zero o in omega (arith, ints)

-- no loops
pub least_of_none : (o : Bool) → IsLeastOf (IsLinearValue [] [] [] [] [] o) (At (pos 0))
least_of_none o = (
  record { first = []; second = []; first_within = tt; second_within = tt; related = tt; value = sym (turned_zero o) },
  λ z v. no_loops_value o z v.first v.second v.value,
)

-- one more loop in front
front_value : (o : Bool) (a b i j r s : ℤ) → (turned o a *ℤ i -ℤ turned o b *ℤ j) +ℤ turned o (r -ℤ s) ≡ turned o ((a *ℤ i +ℤ r) -ℤ (b *ℤ j +ℤ s))
front_value false a b i j r s = omega (arith, linear)
front_value true a b i j r s = simp ring (omega (arith, linear))

front_there : (a b : ℤ) (s t : Span) (d : Dir) (as' bs : List ℤ) (ss ts : List Span) (ds : List Dir) (o : Bool) (z : ℤ)
    → IsSumOf (IsTermValue (turned o a) (turned o b) s t d) (IsLinearValue as' bs ss ts ds o) z → IsLinearValue (a ∷ as') (b ∷ bs) (s ∷ ss) (t ∷ ts) (d ∷ ds) o z
front_there a b s t d as' bs ss ts ds o z v = record {
  first = v.in_first.first ∷ v.in_second.first;
  second = v.in_first.second ∷ v.in_second.second;
  first_within = (v.in_first.first_within, v.in_second.first_within);
  second_within = (v.in_first.second_within, v.in_second.second_within);
  related = (v.in_first.related, v.in_second.related);
  value =
      v.sum ∙ ap (λ x. x +ℤ v.second) v.in_first.value ∙ ap (λ y. (turned o a *ℤ v.in_first.first -ℤ turned o b *ℤ v.in_first.second) +ℤ y) v.in_second.value
      ∙ front_value o a b v.in_first.first v.in_first.second (over_loops as' v.in_second.first) (over_loops bs v.in_second.second);
}

front_apart : (a b : ℤ) (s t : Span) (d : Dir) (as' bs : List ℤ) (ss ts : List Span) (ds : List Dir) (o : Bool) (z : ℤ) (x y : List ℤ)
    → WithinSpans (s ∷ ss) x → WithinSpans (t ∷ ts) y → AreRelated (d ∷ ds) x y → z ≡ turned o (over_loops (a ∷ as') x -ℤ over_loops (b ∷ bs) y)
    → IsSumOf (IsTermValue (turned o a) (turned o b) s t d) (IsLinearValue as' bs ss ts ds o) z
front_apart a b s t d as' bs ss ts ds o z [] y h g r e = absurd h
front_apart a b s t d as' bs ss ts ds o z (i ∷ x) [] h g r e = absurd g
front_apart a b s t d as' bs ss ts ds o z (i ∷ x) (j ∷ y) h g r e = record {
  first = turned o a *ℤ i -ℤ turned o b *ℤ j;
  second = turned o (over_loops as' x -ℤ over_loops bs y);
  in_first = record { first = i; second = j; first_within = h.0; second_within = g.0; related = r.0; value = refl };
  in_second = record { first = x; second = y; first_within = h.1; second_within = g.1; related = r.1; value = refl };
  sum = e ∙ sym (front_value o a b i j (over_loops as' x) (over_loops bs y));
}

-- the least value of one more loop and of the others
pub least_of_front : (a b : ℤ) (s t : Span) (d : Dir) (as' bs : List ℤ) (ss ts : List Span) (ds : List Dir) (o : Bool) (l r : Least)
    → IsLeastOf (IsTermValue (turned o a) (turned o b) s t d) l → IsLeastOf (IsLinearValue as' bs ss ts ds o) r
    → IsLeastOf (IsLinearValue (a ∷ as') (b ∷ bs) (s ∷ ss) (t ∷ ts) (d ∷ ds) o) (plus_least l r)
least_of_front a b s t d as' bs ss ts ds o l r h g =
    same_least (IsSumOf (IsTermValue (turned o a) (turned o b) s t d) (IsLinearValue as' bs ss ts ds o)) (IsLinearValue (a ∷ as') (b ∷ bs) (s ∷ ss) (t ∷ ts) (d ∷ ds) o) (plus_least l r)
    (front_there a b s t d as' bs ss ts ds o) (λ z v. front_apart a b s t d as' bs ss ts ds o z v.first v.second v.first_within v.second_within v.related v.value)
    (least_sum (IsTermValue (turned o a) (turned o b) s t d) (IsLinearValue as' bs ss ts ds o) l r h g)

-- seven places
pub record HasSeven (p : Pairing) (d : Dirs) : Type 0 where
  pub first : length p.from.loops ≡ 7
  pub second : length p.to.loops ≡ 7
  pub first_spans : length p.from_spans ≡ 7
  pub second_spans : length p.to_spans ≡ 7
  pub dirs : length d.at ≡ 7

-- past the last place
pub least_past : (p : Pairing) (d : Dirs) (o : Bool) → HasSeven p d → IsLeastOf (IsLoopsValue p d o 7) (At (pos 0))
least_past p d o h =
    rw (drop_all 7 p.from.loops (omega arith), drop_all 7 p.to.loops (omega arith), drop_all 7 p.from_spans (omega arith), drop_all 7 p.to_spans (omega arith), drop_all 7 d.at (omega arith))
    (least_of_none o)

-- one place further in front
pub least_before_place : (p : Pairing) (d : Dirs) (o : Bool) (k j : ℕ) (e f : Span) (g : Dir) (l r : Least) → HasSeven p d → k ≡ suc j → j < 7
    → IsLeastOf (IsTermValue (turned o (get_or p.from.loops j (pos 0))) (turned o (get_or p.to.loops j (pos 0))) (get_or p.from_spans j e) (get_or p.to_spans j f) (get_or d.at j g)) l
    → IsLeastOf (IsLoopsValue p d o k) r → IsLeastOf (IsLoopsValue p d o j) (plus_least l r)
least_before_place p d o k j e f g l r h q m a b =
    rw (drop-cons p.from.loops j (pos 0) (omega arith), drop-cons p.to.loops j (pos 0) (omega arith), drop-cons p.from_spans j e (omega arith), drop-cons p.to_spans j f (omega arith), drop-cons d.at j g (omega arith))
    (least_of_front (get_or p.from.loops j (pos 0)) (get_or p.to.loops j (pos 0)) (get_or p.from_spans j e) (get_or p.to_spans j f) (get_or d.at j g)
    (drop (suc j) p.from.loops) (drop (suc j) p.to.loops) (drop (suc j) p.from_spans) (drop (suc j) p.to_spans) (drop (suc j) d.at) o l r a
    (subst (λ n. IsLeastOf (IsLoopsValue p d o n) r) q b))
