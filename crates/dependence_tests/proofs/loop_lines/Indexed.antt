-- Spans, directions and sums over lists of loops, place by place.
use Rattle.std.proofs.Common.{◌≡◌, ℕ, ◌<◌, List, [], ◌∷◌, length, get_or, zero, suc, refl, ap, arith, ◌∙◌, cond, ◌&&◌, true, false, Bool}
use Rattle.std.specs.Prelude.{ℤ, pos, negsuc, ◌+ℤ◌, ◌*ℤ◌}
use Rattle.std.proofs.Math.IntN.{zero-*ℤ, +ℤ_idl, +ℤ_idr}
use Rattle.subscripts.specs.Forms.{over_loops, WithinSpans, AreRelated}
use Rattle.subscripts.specs.Iterations.{WithinSpan, IsRelated, once}
use Rattle.subscripts.specs.Cuts.{spans_that_matter, dirs_that_matter, is_zero}
use Rattle.subscripts.specs.declared.affine.Dir.{Dir}
use Rattle.subscripts.specs.declared.affine.Dir.TheVariants.{Any}
use Rattle.subscripts.specs.declared.affine.Span.{Span}

-- ---- spans

pub same_length : (ss : List Span) (x : List ℤ) → WithinSpans ss x → length x ≡ length ss
same_length [] [] h = refl
same_length [] (i ∷ x) h = absurd h
same_length (s ∷ ss) [] h = absurd h
same_length (s ∷ ss) (i ∷ x) h = ap suc (same_length ss x h.1)

pub within_at : (ss : List Span) (x : List ℤ) (k : ℕ) → WithinSpans ss x → k < length ss → WithinSpan (get_or ss k once) (get_or x k (pos 0))
within_at [] x k h l = absurd (omega arith)
within_at (s ∷ ss) [] k h l = absurd h
within_at (s ∷ ss) (i ∷ x) zero h l = h.0
within_at (s ∷ ss) (i ∷ x) (suc k) h l = within_at ss x k h.1 (omega arith)

pub within_from : (ss : List Span) (x : List ℤ) → length x ≡ length ss → ((k : ℕ) → k < length ss → WithinSpan (get_or ss k once) (get_or x k (pos 0))) → WithinSpans ss x
within_from [] [] e h = tt
within_from [] (i ∷ x) e h = absurd (omega arith)
within_from (s ∷ ss) [] e h = absurd (omega arith)
within_from (s ∷ ss) (i ∷ x) e h = (h 0 (omega arith), within_from ss x (omega arith) (λ k l. h (suc k) (omega arith)))

-- ---- directions

pub related_at : (ds : List Dir) (x y : List ℤ) (k : ℕ) → AreRelated ds x y → k < length ds → k < length x → k < length y
    → IsRelated (get_or ds k Any) (get_or x k (pos 0)) (get_or y k (pos 0))
related_at [] x y k h l m n = absurd (omega arith)
related_at (d ∷ ds) [] y k h l m n = absurd (omega arith)
related_at (d ∷ ds) (i ∷ x) [] k h l m n = absurd (omega arith)
related_at (d ∷ ds) (i ∷ x) (j ∷ y) zero h l m n = h.0
related_at (d ∷ ds) (i ∷ x) (j ∷ y) (suc k) h l m n = related_at ds x y k h.1 (omega arith) (omega arith) (omega arith)

pub related_from : (ds : List Dir) (x y : List ℤ) → ((k : ℕ) → k < length ds → IsRelated (get_or ds k Any) (get_or x k (pos 0)) (get_or y k (pos 0))) → AreRelated ds x y
related_from [] x y h = tt
related_from (d ∷ ds) [] y h = tt
related_from (d ∷ ds) (i ∷ x) [] h = tt
related_from (d ∷ ds) (i ∷ x) (j ∷ y) h = (h 0 (omega arith), related_from ds x y (λ k l. h (suc k) (omega arith)))

-- ---- the loops that matter

is_zero_at : (a : ℤ) → a ≡ pos 0 → is_zero a ≡ true
is_zero_at a e = ap is_zero e

not_zero : (a : ℤ) → (a ≡ pos 0 → ⊥) → is_zero a ≡ false
not_zero (pos zero) h = absurd (h refl)
not_zero (pos (suc n)) h = refl
not_zero (negsuc n) h = refl

both_zero : (a b : ℤ) → a ≡ pos 0 → b ≡ pos 0 → (is_zero a && is_zero b) ≡ true
both_zero a b e f = rw (e, f) refl

one_not_zero : (a b : ℤ) → (a ≡ pos 0 → b ≡ pos 0 → ⊥) → (is_zero a && is_zero b) ≡ false
one_not_zero (pos zero) b h = not_zero b (h refl)
one_not_zero (pos (suc n)) b h = refl
one_not_zero (negsuc n) b h = refl

pub mattering_length : (n : ℕ) (as' bs : List ℤ) (ss : List Span) → length as' ≡ length ss → length bs ≡ length ss → length (spans_that_matter n as' bs ss) ≡ length ss
mattering_length n [] bs ss e f = refl
mattering_length n (a ∷ as') [] ss e f = refl
mattering_length n (a ∷ as') (b ∷ bs) [] e f = absurd (omega arith)
mattering_length zero (a ∷ as') (b ∷ bs) (s ∷ ss) e f = ap suc (mattering_length zero as' bs ss (omega arith) (omega arith))
mattering_length (suc n) (a ∷ as') (b ∷ bs) (s ∷ ss) e f = ap suc (mattering_length n as' bs ss (omega arith) (omega arith))

-- a loop that doesn't matter runs once
pub mattering_once : (n : ℕ) (as' bs : List ℤ) (ss : List Span) (k : ℕ) → length as' ≡ length ss → length bs ≡ length ss → k < length ss
    → get_or as' k (pos 0) ≡ pos 0 → (k < n → get_or bs k (pos 0) ≡ pos 0) → get_or (spans_that_matter n as' bs ss) k once ≡ once
mattering_once n [] bs ss k e f l u v = absurd (omega arith)
mattering_once n (a ∷ as') [] ss k e f l u v = absurd (omega arith)
mattering_once n (a ∷ as') (b ∷ bs) [] k e f l u v = absurd (omega arith)
mattering_once zero (a ∷ as') (b ∷ bs) (s ∷ ss) zero e f l u v = ap (λ (t : Bool). cond t once s) (is_zero_at a u)
mattering_once zero (a ∷ as') (b ∷ bs) (s ∷ ss) (suc k) e f l u v = mattering_once zero as' bs ss k (omega arith) (omega arith) (omega arith) u (λ h. absurd (omega arith))
mattering_once (suc n) (a ∷ as') (b ∷ bs) (s ∷ ss) zero e f l u v = ap (λ (t : Bool). cond t once s) (both_zero a b u (v (omega arith)))
mattering_once (suc n) (a ∷ as') (b ∷ bs) (s ∷ ss) (suc k) e f l u v = mattering_once n as' bs ss k (omega arith) (omega arith) (omega arith) u (λ h. v (omega arith))

-- a loop that matters keeps its span
pub mattering_kept : (n : ℕ) (as' bs : List ℤ) (ss : List Span) (k : ℕ) → length as' ≡ length ss → length bs ≡ length ss → k < length ss
    → (get_or as' k (pos 0) ≡ pos 0 → (k < n → get_or bs k (pos 0) ≡ pos 0) → ⊥) → get_or (spans_that_matter n as' bs ss) k once ≡ get_or ss k once
mattering_kept n [] bs ss k e f l u = absurd (omega arith)
mattering_kept n (a ∷ as') [] ss k e f l u = absurd (omega arith)
mattering_kept n (a ∷ as') (b ∷ bs) [] k e f l u = absurd (omega arith)
mattering_kept zero (a ∷ as') (b ∷ bs) (s ∷ ss) zero e f l u = ap (λ (t : Bool). cond t once s) (not_zero a (λ z. u z (λ h. absurd (omega arith))))
mattering_kept zero (a ∷ as') (b ∷ bs) (s ∷ ss) (suc k) e f l u = mattering_kept zero as' bs ss k (omega arith) (omega arith) (omega arith) (λ z w. u z (λ h. absurd (omega arith)))
mattering_kept (suc n) (a ∷ as') (b ∷ bs) (s ∷ ss) zero e f l u = ap (λ (t : Bool). cond t once s) (one_not_zero a b (λ z w. u z (λ h. w)))
mattering_kept (suc n) (a ∷ as') (b ∷ bs) (s ∷ ss) (suc k) e f l u = mattering_kept n as' bs ss k (omega arith) (omega arith) (omega arith) (λ z w. u z (λ h. w (omega arith)))

pub asked_length : (as' bs : List ℤ) (ds : List Dir) → length as' ≡ length ds → length bs ≡ length ds → length (dirs_that_matter as' bs ds) ≡ length ds
asked_length [] bs ds e f = refl
asked_length (a ∷ as') [] ds e f = refl
asked_length (a ∷ as') (b ∷ bs) [] e f = absurd (omega arith)
asked_length (a ∷ as') (b ∷ bs) (d ∷ ds) e f = ap suc (asked_length as' bs ds (omega arith) (omega arith))

-- nothing is asked of a loop that doesn't matter
pub asked_any : (as' bs : List ℤ) (ds : List Dir) (k : ℕ) → length as' ≡ length ds → length bs ≡ length ds → k < length ds
    → get_or as' k (pos 0) ≡ pos 0 → get_or bs k (pos 0) ≡ pos 0 → get_or (dirs_that_matter as' bs ds) k Any ≡ Any
asked_any [] bs ds k e f l u v = absurd (omega arith)
asked_any (a ∷ as') [] ds k e f l u v = absurd (omega arith)
asked_any (a ∷ as') (b ∷ bs) [] k e f l u v = absurd (omega arith)
asked_any (a ∷ as') (b ∷ bs) (d ∷ ds) zero e f l u v = ap (λ (t : Bool). cond t Any d) (both_zero a b u v)
asked_any (a ∷ as') (b ∷ bs) (d ∷ ds) (suc k) e f l u v = asked_any as' bs ds k (omega arith) (omega arith) (omega arith) u v

pub asked_kept : (as' bs : List ℤ) (ds : List Dir) (k : ℕ) → length as' ≡ length ds → length bs ≡ length ds → k < length ds
    → (get_or as' k (pos 0) ≡ pos 0 → get_or bs k (pos 0) ≡ pos 0 → ⊥) → get_or (dirs_that_matter as' bs ds) k Any ≡ get_or ds k Any
asked_kept [] bs ds k e f l u = absurd (omega arith)
asked_kept (a ∷ as') [] ds k e f l u = absurd (omega arith)
asked_kept (a ∷ as') (b ∷ bs) [] k e f l u = absurd (omega arith)
asked_kept (a ∷ as') (b ∷ bs) (d ∷ ds) zero e f l u = ap (λ (t : Bool). cond t Any d) (one_not_zero a b u)
asked_kept (a ∷ as') (b ∷ bs) (d ∷ ds) (suc k) e f l u = asked_kept as' bs ds k (omega arith) (omega arith) (omega arith) u

-- ---- sums

pub over_none : (as' x : List ℤ) → ((k : ℕ) → k < length as' → get_or as' k (pos 0) ≡ pos 0) → over_loops as' x ≡ pos 0
over_none [] x h = refl
over_none (a ∷ as') [] h = refl
over_none (a ∷ as') (i ∷ x) h =
    ap (λ (z : ℤ). z *ℤ i +ℤ over_loops as' x) (h 0 (omega arith)) ∙ ap (λ (z : ℤ). z +ℤ over_loops as' x) (zero-*ℤ i) ∙ +ℤ_idl (over_loops as' x) ∙ over_none as' x (λ k l. h (suc k) (omega arith))

-- a form in which one loop alone has a coefficient
pub over_one : (k : ℕ) (as' x : List ℤ) → ((m : ℕ) → m < length as' → (m ≡ k → ⊥) → get_or as' m (pos 0) ≡ pos 0) → k < length x → k < length as'
    → over_loops as' x ≡ get_or as' k (pos 0) *ℤ get_or x k (pos 0)
over_one k [] x h l m = absurd (omega arith)
over_one k (a ∷ as') [] h l m = absurd (omega arith)
over_one zero (a ∷ as') (i ∷ x) h l m =
    ap (λ (z : ℤ). a *ℤ i +ℤ z) (over_none as' x (λ n b. h (suc n) (omega arith) (λ e. absurd (omega arith)))) ∙ +ℤ_idr (a *ℤ i)
over_one (suc k) (a ∷ as') (i ∷ x) h l m =
    ap (λ (z : ℤ). z *ℤ i +ℤ over_loops as' x) (h 0 (omega arith) (λ e. absurd (omega arith))) ∙ ap (λ (z : ℤ). z +ℤ over_loops as' x) (zero-*ℤ i) ∙ +ℤ_idl (over_loops as' x)
    ∙ over_one k as' x (λ n b u. h (suc n) (omega arith) (λ e. u (omega arith))) (omega arith) (omega arith)
