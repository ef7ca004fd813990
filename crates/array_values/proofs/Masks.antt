-- Where a mask is true, place by place.
use Rattle.std.proofs.Common.{◌≡◌, refl, sym, ap, ◌∙◌, ℕ, ◌+◌, ◌-◌, ◌<◌, ◌≤◌, Bool, true, false, cond, List, [], ◌∷◌, ◌++◌, Result, Ok, Err, arith, append_assoc}
use Rattle.std.proofs.lemmas.List.{append-nil}
use Rattle.tree.specs.Steps.{◌>>=◌}
use Rattle.tree.specs.Operators.{as_truth}
use Rattle.tree.specs.declared.ops.Value.{Value}
use Rattle.tree.specs.declared.ops.Fault.{Fault}
use Rattle.meaning.specs.ArrayValues.{Elements, counted, size}
use Rattle.array_values.specs.Positions.{position_at}
use Rattle.array_values.specs.Masks.{true_among, true_places}
use Rattle.array_values.proofs.Steps.{counted_more, counted_none}

unfoldable pub left_true : Elements Value → List ℕ → List ℕ → List ℕ → Result (List ℕ) Fault
left_true mask ns done ks = do
  more ← true_among mask ns ks
  Ok (done ++ more)

module _ (mask : Elements Value) (ns : List ℕ) (n : ℕ) where
  pub true_begun : size ns ≡ n → true_places mask ns ≡ left_true mask ns [] (counted 0 (n - 0))
  unfolding left_true
  true_begun e = by (true_places mask ns) ∙ ap (λ k. left_true mask ns [] (counted 0 k)) (let h : size ns ≡ n - 0 = omega arith in h)
    where
      by : (q : Result (List ℕ) Fault) → q ≡ (q >>= λ ys. Ok ([] ++ ys))
      by (Ok ys) = refl
      by (Err e) = refl

  module _ (whole : Result (List ℕ) Fault) (done : List ℕ) (k : ℕ) (so_far : whole ≡ left_true mask ns done (counted k (n - k))) where
    next : k < n → whole ≡ left_true mask ns done (k ∷ counted (k + 1) (n - (k + 1)))
    next l = so_far ∙ ap (left_true mask ns done) (counted_more k n l)

    pub mask_fault : (e : Fault) → k < n → mask.at (position_at ns k) ≡ Err e → whole ≡ Err e
    unfolding left_true
    mask_fault e l h = next l ∙ ap (λ (r : Result Value Fault). do more ← (do x ← r; b ← as_truth x; more ← true_among mask ns (counted (k + 1) (n - (k + 1))); Ok (cond b (k ∷ more) more)); Ok (done ++ more)) h

    pub truth_fault : (x : Value) (e : Fault) → k < n → mask.at (position_at ns k) ≡ Ok x → as_truth x ≡ Err e → whole ≡ Err e
    unfolding left_true
    truth_fault x e l h t = next l ∙ ap (λ (r : Result Value Fault). do more ← (do x ← r; b ← as_truth x; more ← true_among mask ns (counted (k + 1) (n - (k + 1))); Ok (cond b (k ∷ more) more)); Ok (done ++ more)) h
        ∙ ap (λ (r : Result Bool Fault). do more ← (do b ← r; more ← true_among mask ns (counted (k + 1) (n - (k + 1))); Ok (cond b (k ∷ more) more)); Ok (done ++ more)) t

    opened : (x : Value) (b : Bool) → k < n → mask.at (position_at ns k) ≡ Ok x → as_truth x ≡ Ok b
        → whole ≡ (do more ← (do more ← true_among mask ns (counted (k + 1) (n - (k + 1))); Ok (cond b (k ∷ more) more)); Ok (done ++ more))
    unfolding left_true
    opened x b l h t = next l ∙ ap (λ (r : Result Value Fault). do more ← (do x ← r; b ← as_truth x; more ← true_among mask ns (counted (k + 1) (n - (k + 1))); Ok (cond b (k ∷ more) more)); Ok (done ++ more)) h
        ∙ ap (λ (r : Result Bool Fault). do more ← (do b ← r; more ← true_among mask ns (counted (k + 1) (n - (k + 1))); Ok (cond b (k ∷ more) more)); Ok (done ++ more)) t

    pub mask_true : (x : Value) → k < n → mask.at (position_at ns k) ≡ Ok x → as_truth x ≡ Ok true → whole ≡ left_true mask ns (done ++ k ∷ []) (counted (k + 1) (n - (k + 1)))
    unfolding left_true
    mask_true x l h t = opened x true l h t ∙ by (true_among mask ns (counted (k + 1) (n - (k + 1))))
      where
        by : (q : Result (List ℕ) Fault) → ◌≡◌ {A = Result (List ℕ) Fault} (do more ← (do more ← q; Ok (k ∷ more)); Ok (done ++ more)) (do more ← q; Ok ((done ++ k ∷ []) ++ more))
        by (Ok ys) = ap (λ ys. let r : Result (List ℕ) Fault = Ok ys in r) (sym (append_assoc done (k ∷ []) ys))
        by (Err e) = refl

    pub mask_false : (x : Value) → k < n → mask.at (position_at ns k) ≡ Ok x → as_truth x ≡ Ok false → whole ≡ left_true mask ns done (counted (k + 1) (n - (k + 1)))
    unfolding left_true
    mask_false x l h t = opened x false l h t ∙ by (true_among mask ns (counted (k + 1) (n - (k + 1))))
      where
        by : (q : Result (List ℕ) Fault) → ◌≡◌ {A = Result (List ℕ) Fault} (do more ← (do more ← q; Ok more); Ok (done ++ more)) (do more ← q; Ok (done ++ more))
        by (Ok ys) = refl
        by (Err e) = refl

    pub mask_done : n ≤ k → whole ≡ Ok done
    unfolding left_true
    mask_done l = so_far ∙ ap (left_true mask ns done) (counted_none k n l) ∙ ap (λ ys. let r : Result (List ℕ) Fault = Ok ys in r) (append-nil done)
