-- Lists that a loop has made so far.
use Rattle.std.proofs.Common.{◌≡◌, sym, ap, ◌∙◌, ℕ, zero, suc, ◌+◌, ◌<◌, List, [], ◌∷◌, ◌++◌, append-nil, get_or, length, map, take, Option, Some, None, arith}
use Rattle.std.specs.List.{cons_option, filter_map}
use Rattle.std.proofs.lemmas.List.{map-append}
use Rattle.std.proofs.lemmas.List.Elements.{filter_map-append}

pub one_more : {A : Type 0} (xs : List A) (i : ℕ) (x : A) → i < length xs → x ≡ get_or xs i x → take (i + 1) xs ≡ take i xs ++ x ∷ []
one_more {A = A} xs i x h e = ap (λ n. take n xs) (further i) ∙ by xs i h e
  where
    further : (i : ℕ) → i + 1 ≡ suc i
    further i = omega arith

    by : (xs : List A) (i : ℕ) → i < length xs → x ≡ get_or xs i x → take (suc i) xs ≡ take i xs ++ x ∷ []
    by [] i h e = absurd (omega (arith, h))
    by (y ∷ xs) zero h e = ap (λ z. z ∷ []) (sym e)
    by (y ∷ xs) (suc i) h e = ap (λ ys. y ∷ ys) (by xs i (omega (arith, h)) e)

-- what is chosen of items, of which one is looked at
module _ {A B C : Type 0} (f : B → Option C) (view : A → B) (xs : List A) (i : ℕ) (x : A) (h : i < length xs) (e : x ≡ get_or xs i x) where
  chosen_more : filter_map f (map view (take (i + 1) xs)) ≡ filter_map f (map view (take i xs)) ++ cons_option (f (view x)) []
  chosen_more =
      ap (λ ys. filter_map f (map view ys)) (one_more xs i x h e) ∙ ap (filter_map f) (map-append view (take i xs) (x ∷ []))
      ∙ filter_map-append f (map view (take i xs)) (view x ∷ [])

  pub some_chosen : (old new : List C) (c : C) → f (view x) ≡ Some c → old ≡ filter_map f (map view (take i xs)) → new ≡ old ++ c ∷ [] → new ≡ filter_map f (map view (take (i + 1) xs))
  some_chosen old new c k before now =
      now ∙ ap (λ ys. ys ++ c ∷ []) before ∙ sym (chosen_more ∙ ap (λ o. filter_map f (map view (take i xs)) ++ cons_option o []) k)

  pub none_chosen : (old new : List C) → f (view x) ≡ None → old ≡ filter_map f (map view (take i xs)) → new ≡ old → new ≡ filter_map f (map view (take (i + 1) xs))
  none_chosen old new k before now =
      now ∙ before ∙ sym (chosen_more ∙ (ap (λ o. filter_map f (map view (take i xs)) ++ cons_option o []) k ∙ append-nil (filter_map f (map view (take i xs)))))
