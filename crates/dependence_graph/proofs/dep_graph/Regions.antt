-- Iterations of two references, as the tests have them in seven places.
use Rattle.std.proofs.Common.{◌≡◌, refl, sym, ap, ap₂, ◌∙◌, subst, ℕ, zero, suc, ◌-◌, ◌<◌, ◌≤◌, arith, List, [], ◌∷◌, ◌++◌, length, map, take, get_or, replicate}
use Rattle.std.specs.Prelude.{ℤ, pos, ◌≤ℤ◌}
use Rattle.std.specs.List.{AllZip}
use Rattle.std.proofs.lemmas.Int.{ints}
use Rattle.subscripts.specs.Classes.{at_place}
use Rattle.subscripts.specs.Forms.{AreRelated, WithinSpans}
use Rattle.subscripts.specs.Iterations.{IsRelated, WithinSpan, once}
use Rattle.subscripts.specs.declared.affine.Dir.{Dir}
use Rattle.subscripts.specs.declared.affine.Dir.TheVariants.{Any}
use Rattle.subscripts.specs.declared.affine.Span.{Span}
use Rattle.direction_vectors.specs.vector_tests.Refs.{padded}
use Rattle.dependence_graph.specs.nest_graph.Refuted.{IsWithin}
use Rattle.dependence_graph.proofs.dep_graph.Lasts.{last_in}
use Rattle.dependence_graph.proofs.dep_graph.Lists.{with_ones}

-- ---- within spans

pub within_span : (s : Span) (i : ℤ) → IsWithin s.last i → WithinSpan s i
within_span s i h = record { low = h.0; high = h.1 }

pub is_within : (s : Span) (i : ℤ) → WithinSpan s i → IsWithin s.last i
is_within s i h = (h.low, h.high)

pub within_spans : (ss : List Span) (x : List ℤ) → AllZip IsWithin (map last_in ss) x → WithinSpans ss x
within_spans [] [] h = tt
within_spans [] (i ∷ x) h = absurd h
within_spans (s ∷ ss) [] h = absurd h
within_spans (s ∷ ss) (i ∷ x) h = (within_span s i h.0, within_spans ss x h.1)

pub are_within : (ss : List Span) (x : List ℤ) → WithinSpans ss x → AllZip IsWithin (map last_in ss) x
are_within [] [] h = tt
are_within [] (i ∷ x) h = absurd h
are_within (s ∷ ss) [] h = absurd h
are_within (s ∷ ss) (i ∷ x) h = (is_within s i h.0, are_within ss x h.1)

pub spans_count : (ss : List Span) (x : List ℤ) → WithinSpans ss x → length x ≡ length ss
spans_count [] [] h = refl
spans_count [] (i ∷ x) h = absurd h
spans_count (s ∷ ss) [] h = absurd h
spans_count (s ∷ ss) (i ∷ x) h = ap suc (spans_count ss x h.1)

-- ---- in seven places

once_within : WithinSpan once (pos 1)
once_within = record { low = omega (arith, ints); high = omega (arith, ints) }

only_once : (i : ℤ) → WithinSpan once i → i ≡ pos 1
only_once i h = let l = h.low in let k : i ≤ℤ pos 1 = h.high in omega (arith, ints)

ones_within : (m : ℕ) → WithinSpans (replicate m once) (replicate m (pos 1))
ones_within zero = tt
ones_within (suc m) = (once_within, ones_within m)

longer : (ss : List Span) (x : List ℤ) (m : ℕ) → WithinSpans ss x → WithinSpans (ss ++ replicate m once) (x ++ replicate m (pos 1))
longer [] [] m h = ones_within m
longer [] (i ∷ x) m h = absurd h
longer (s ∷ ss) [] m h = absurd h
longer (s ∷ ss) (i ∷ x) m h = (h.0, longer ss x m h.1)

pub padded_within : (ss : List Span) (x : List ℤ) → WithinSpans ss x → WithinSpans (padded ss) (with_ones x)
padded_within ss x h =
    subst (λ (k : ℕ). WithinSpans (padded ss) (x ++ replicate (7 - k) (pos 1))) (sym (spans_count ss x h)) (longer ss x (7 - length ss) h)

all_once : (m : ℕ) (x : List ℤ) → WithinSpans (replicate m once) x → x ≡ replicate m (pos 1)
all_once zero [] h = refl
all_once zero (i ∷ x) h = absurd h
all_once (suc m) [] h = absurd h
all_once (suc m) (i ∷ x) h = ap₂ (λ (y : ℤ) (ys : List ℤ). y ∷ ys) (only_once i h.0) (all_once m x h.1)

pub front_within : (ss : List Span) (m : ℕ) (x : List ℤ) → WithinSpans (ss ++ replicate m once) x → WithinSpans ss (take (length ss) x)
front_within [] m x h = tt
front_within (s ∷ ss) m [] h = absurd h
front_within (s ∷ ss) m (i ∷ x) h = (h.0, front_within ss m x h.1)

front_is : (ss : List Span) (m : ℕ) (x : List ℤ) → WithinSpans (ss ++ replicate m once) x → x ≡ take (length ss) x ++ replicate m (pos 1)
front_is [] m x h = all_once m x h
front_is (s ∷ ss) m [] h = absurd h
front_is (s ∷ ss) m (i ∷ x) h = ap (λ (ys : List ℤ). i ∷ ys) (front_is ss m x h.1)

pub with_ones_is : (ss : List Span) (x : List ℤ) → WithinSpans (padded ss) x → x ≡ with_ones (take (length ss) x)
with_ones_is ss x h =
    front_is ss (7 - length ss) x h
    ∙ ap (λ (k : ℕ). take (length ss) x ++ replicate (7 - k) (pos 1)) (sym (spans_count ss (take (length ss) x) (front_within ss (7 - length ss) x h)))

-- ---- related

any_related : (m : ℕ) (x y : List ℤ) → AreRelated (replicate m Any) x y
any_related zero x y = tt
any_related (suc m) [] y = tt
any_related (suc m) (i ∷ x) [] = tt
any_related (suc m) (i ∷ x) (j ∷ y) = (tt, any_related m x y)

pub longer_related : (v : List Dir) (m : ℕ) (x y xs ys : List ℤ) → length v ≤ length x → length v ≤ length y → AreRelated v x y
    → AreRelated (v ++ replicate m Any) (x ++ xs) (y ++ ys)
longer_related [] m x y xs ys h k r = any_related m (x ++ xs) (y ++ ys)
longer_related (d ∷ v) m [] y xs ys h k r = absurd (omega arith)
longer_related (d ∷ v) m (i ∷ x) [] xs ys h k r = absurd (omega arith)
longer_related (d ∷ v) m (i ∷ x) (j ∷ y) xs ys h k r = (r.0, longer_related v m x y xs ys (omega arith) (omega arith) r.1)

pub front_related : (v ds : List Dir) (m n : ℕ) (x y : List ℤ) → length v ≤ m → length v ≤ n → AreRelated (v ++ ds) x y → AreRelated v (take m x) (take n y)
front_related [] ds m n x y h k r = tt
front_related (d ∷ v) ds zero n x y h k r = absurd (omega arith)
front_related (d ∷ v) ds (suc m) zero x y h k r = absurd (omega arith)
front_related (d ∷ v) ds (suc m) (suc n) [] y h k r = tt
front_related (d ∷ v) ds (suc m) (suc n) (i ∷ x) [] h k r = tt
front_related (d ∷ v) ds (suc m) (suc n) (i ∷ x) (j ∷ y) h k r = (r.0, front_related v ds m n x y (omega arith) (omega arith) r.1)

pub related_at : (v : List Dir) (x y : List ℤ) (k : ℕ) → k < length v → k < length x → k < length y → AreRelated v x y
    → IsRelated (get_or v k Any) (at_place x k) (at_place y k)
related_at [] x y k h l m r = absurd (omega arith)
related_at (d ∷ v) [] y k h l m r = absurd (omega arith)
related_at (d ∷ v) (i ∷ x) [] k h l m r = absurd (omega arith)
related_at (d ∷ v) (i ∷ x) (j ∷ y) zero h l m r = r.0
related_at (d ∷ v) (i ∷ x) (j ∷ y) (suc k) h l m r = related_at v x y k (omega arith) (omega arith) (omega arith) r.1

pub related_from : (v : List Dir) (x y : List ℤ) → ((k : ℕ) → k < length v → IsRelated (get_or v k Any) (at_place x k) (at_place y k)) → AreRelated v x y
related_from [] x y h = tt
related_from (d ∷ v) [] y h = tt
related_from (d ∷ v) (i ∷ x) [] h = tt
related_from (d ∷ v) (i ∷ x) (j ∷ y) h = (h zero (omega arith), related_from v x y (λ k l. h (suc k) (omega arith)))
