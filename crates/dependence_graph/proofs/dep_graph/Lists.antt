-- Iterations of seven places, and what is no later.
use Rattle.std.proofs.Common.{◌≡◌, ◌⊎◌, inl, inr, ℕ, zero, suc, ◌+◌, ◌-◌, ◌<◌, ◌≤◌, refl, sym, ap, ap₂, ◌∙◌, subst, arith, Option, Some, None, List, [], ◌∷◌, ◌++◌, length, take, drop, get_or, replicate, append_assoc}
use Rattle.std.specs.Prelude.{ℤ, pos, negsuc, ◌<ℤ◌, ◌≤ℤ◌, All, IfSome}
use Rattle.std.proofs.lemmas.Int.{ints}
use Rattle.std.proofs.lemmas.List.{append-nil, get_or-replicate, get_or-take, get_or-append-add, length-append, length-replicate, length-drop, length-take, take-append-drop}
use Rattle.subscripts.specs.Cuts.{IsNoLater}
use Rattle.subscripts.specs.Forms.{WithinSpans}
use Rattle.subscripts.specs.Iterations.{WithinSpan, once}
use Rattle.subscripts.specs.declared.affine.Span.{Span}
use Rattle.direction_vectors.specs.vector_tests.Pairs.{IsIteration}

-- 1 in each place past the last loop
abbrev pub ones : ℕ → List ℤ
ones n = replicate (7 - n) (pos 1)

abbrev pub with_ones : List ℤ → List ℤ
with_ones x = x ++ ones (length x)

within_length : (ss : List Span) (x : List ℤ) → WithinSpans ss x → length x ≡ length ss
within_length [] [] w = refl
within_length [] (i ∷ x) w = absurd w
within_length (s ∷ ss) [] w = absurd w
within_length (s ∷ ss) (i ∷ x) w = ap suc (within_length ss x w.1)

pub iterations_count : (ss : List Span) (x : List ℤ) → WithinSpans ss x → length x ≡ length ss
iterations_count ss x w = within_length ss x w

within_once : WithinSpan once (pos 1)
within_once = record { low = omega (arith, ints); high = omega (arith, ints) }

within_padded : (ss : List Span) (x : List ℤ) (m k : ℕ) → WithinSpans ss x → k < length x + m → WithinSpan (get_or ss k once) (get_or (x ++ replicate m (pos 1)) k (pos 0))
within_padded [] [] m k w h = subst (λ (z : ℤ). WithinSpan once z) (sym (get_or-replicate m k (pos 1) (pos 0) (omega arith))) within_once
within_padded [] (i ∷ x) m k w h = absurd w
within_padded (s ∷ ss) [] m k w h = absurd w
within_padded (s ∷ ss) (i ∷ x) m zero w h = w.0
within_padded (s ∷ ss) (i ∷ x) m (suc k) w h = within_padded ss x m k w.1 (omega arith)

pub iteration_of : (ss : List Span) (x : List ℤ) → length ss ≤ 7 → WithinSpans ss x → IsIteration ss (with_ones x)
iteration_of ss x h w =
    let n = within_length ss x w in
    record {
      places = length-append x (ones (length x)) ∙ ap (λ (m : ℕ). length x + m) (length-replicate (7 - length x) (pos 1)) ∙ omega arith;
      within = λ k l. within_padded ss x (7 - length x) k w (omega arith);
    }

take_within : (ss : List Span) (i : List ℤ) → length ss ≤ length i → ((k : ℕ) → k < length ss → WithinSpan (get_or ss k once) (get_or i k (pos 0))) → WithinSpans ss (take (length ss) i)
take_within [] i h f = tt
take_within (s ∷ ss) [] h f = absurd (omega arith)
take_within (s ∷ ss) (z ∷ i) h f = (f zero (omega arith), take_within ss i (omega arith) (λ k l. f (suc k) (omega arith)))

only_once : (z : ℤ) → WithinSpan once z → z ≡ pos 1
only_once z w = let l = w.low in let h : z ≤ℤ pos 1 = w.high in omega (arith, ints)

all_ones : (zs : List ℤ) → ((k : ℕ) → k < length zs → get_or zs k (pos 0) ≡ pos 1) → zs ≡ replicate (length zs) (pos 1)
all_ones [] h = refl
all_ones (z ∷ zs) h = ap₂ (λ y ys. y ∷ ys) (h zero (omega arith)) (all_ones zs (λ k l. h (suc k) (omega arith)))

at_drop : (n k : ℕ) (zs : List ℤ) → get_or (drop n zs) k (pos 0) ≡ get_or zs (n + k) (pos 0)
at_drop zero k zs = let e : k ≡ 0 + k = omega arith in ap (λ (m : ℕ). get_or zs m (pos 0)) e
at_drop (suc n) k [] = refl
at_drop (suc n) k (z ∷ zs) = let e : suc (n + k) ≡ suc n + k = omega arith in at_drop n k zs ∙ ap (λ (m : ℕ). get_or (z ∷ zs) m (pos 0)) e

past_spans : (ss : List Span) (k : ℕ) → length ss ≤ k → get_or ss k once ≡ once
past_spans [] k h = refl
past_spans (s ∷ ss) zero h = absurd (omega arith)
past_spans (s ∷ ss) (suc k) h = past_spans ss k (omega arith)

-- what stands past the loops is 1
pub iteration_front : (ss : List Span) (i : List ℤ) → length ss ≤ 7 → IsIteration ss i → WithinSpans ss (take (length ss) i)
iteration_front ss i h w = take_within ss i (let p = w.places in omega arith) (λ k l. w.within k (omega arith))

pub iteration_is : (ss : List Span) (i : List ℤ) → length ss ≤ 7 → IsIteration ss i → i ≡ with_ones (take (length ss) i)
iteration_is ss i h w =
    let n = length ss in let p = w.places in
    let count : length (drop n i) ≡ 7 - length (take n i) = omega (arith, length-drop n i, length-take n i) in
    sym (take-append-drop n i)
    ∙ ap (λ (zs : List ℤ). take n i ++ zs)
    (all_ones (drop n i) (λ k l. at_drop n k i ∙ only_once (get_or i (n + k) (pos 0))
    (subst (λ (s : Span). WithinSpan s (get_or i (n + k) (pos 0))) (past_spans ss (n + k) (omega arith)) (w.within (n + k) (omega (arith, length-drop n i)))))
    ∙ ap (λ (m : ℕ). replicate m (pos 1)) count)

pub padded_at : (x zs : List ℤ) (k : ℕ) → k < length x → get_or (x ++ zs) k (pos 0) ≡ get_or x k (pos 0)
padded_at [] zs k h = absurd (omega arith)
padded_at (i ∷ x) zs zero h = refl
padded_at (i ∷ x) zs (suc k) h = padded_at x zs k (omega arith)

-- ---- no later

same_front : (ms ys js : List ℤ) → IsNoLater (ms ++ ys) (ms ++ js) → IsNoLater ys js
same_front [] ys js h = h
same_front (m ∷ ms) ys js h = elim h [ inl l ↦ absurd (omega (arith, ints)) | inr r ↦ same_front ms ys js r.1 ]

cut_middle : (xs is ms ys js : List ℤ) → length xs ≡ length is → IsNoLater (xs ++ (ms ++ ys)) (is ++ (ms ++ js)) → IsNoLater (xs ++ ys) (is ++ js)
cut_middle [] [] ms ys js e h = same_front ms ys js h
cut_middle [] (i ∷ is) ms ys js e h = absurd (omega arith)
cut_middle (x ∷ xs) [] ms ys js e h = absurd (omega arith)
cut_middle (x ∷ xs) (i ∷ is) ms ys js e h = elim h [ inl l ↦ inl l | inr r ↦ inr (r.0, cut_middle xs is ms ys js (omega arith) r.1) ]

cut_end : (xs is ms : List ℤ) → length xs ≡ length is → IsNoLater (xs ++ ms) (is ++ ms) → IsNoLater xs is
cut_end [] is ms e h = tt
cut_end (x ∷ xs) [] ms e h = absurd (omega arith)
cut_end (x ∷ xs) (i ∷ is) ms e h = elim h [ inl l ↦ inl l | inr r ↦ inr (r.0, cut_end xs is ms (omega arith) r.1) ]

pub no_later : (x y i j : List ℤ) → length x ≡ length i → length y ≡ length j → IsNoLater (with_ones x ++ with_ones y) (with_ones i ++ with_ones j) → IsNoLater (x ++ y) (i ++ j)
no_later x y i j e f h =
    let m = ones (length x) in let n = ones (length y) in
    let front : IsNoLater ((x ++ m) ++ (y ++ n)) ((i ++ m) ++ (j ++ n)) =
    subst (λ (k : ℕ). IsNoLater ((x ++ m) ++ (y ++ n)) ((i ++ m) ++ (j ++ ones k))) (sym f)
    (subst (λ (k : ℕ). IsNoLater ((x ++ m) ++ (y ++ n)) ((i ++ ones k) ++ (j ++ ones (length j)))) (sym e) h) in
    let middle : IsNoLater (x ++ (m ++ (y ++ n))) (i ++ (m ++ (j ++ n))) =
    subst (λ (zs : List ℤ). IsNoLater zs (i ++ (m ++ (j ++ n)))) (append_assoc x m (y ++ n))
    (subst (λ (zs : List ℤ). IsNoLater ((x ++ m) ++ (y ++ n)) zs) (append_assoc i m (j ++ n)) front) in
    let less : IsNoLater (x ++ (y ++ n)) (i ++ (j ++ n)) = cut_middle x i m (y ++ n) (j ++ n) e middle in
    cut_end (x ++ y) (i ++ j) n (omega (arith, length-append x y, length-append i j))
    (subst (λ (zs : List ℤ). IsNoLater zs ((i ++ j) ++ n)) (sym (append_assoc x y n))
    (subst (λ (zs : List ℤ). IsNoLater (x ++ (y ++ n)) zs) (sym (append_assoc i j n)) less))
