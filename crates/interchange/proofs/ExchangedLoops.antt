-- The loops of a chain in an order that comes about by exchanges.
use Rattle.std.proofs.Common.{◌≡◌, refl, ap, ◌∙◌, subst, inl, inr, ℕ, zero, suc, ◌+◌, ◌<◌, ◌≤◌, Some, List, [], ◌∷◌, length, map, take, get_or, arith}
use Rattle.std.specs.Prelude.{slice_get}
use Rattle.std.specs.List.{cons_option, filter_map, range_with_len}
use Rattle.nest_order.specs.orders.Lists.{In}
use Rattle.interchange.specs.Laws.{LoopsAreExchanged}
use Rattle.interchange_laws.specs.orders.Moves.{rearranged}
use Rattle.interchange_laws.proofs.orders.Moves.{In_rearranged}
use Rattle.interchange_laws.proofs.runs.Acts.{map_rearranged}

range_below : (a n k : ℕ) → In k (range_with_len a n) → k < a + n
range_below a zero k i = absurd i
range_below a (suc n) k (inl e) = omega arith
range_below a (suc n) k (inr i) = let h = range_below (a + 1) n k i in omega arith

shifted : {X : Type 0} (f : ℕ → X) (a n : ℕ) → map f (range_with_len (a + 1) n) ≡ map (λ k. f (suc k)) (range_with_len a n)
shifted f a zero = refl
shifted f a (suc n) = ap (λ z. f z ∷ map f (range_with_len (a + 1 + 1) n)) (let e : a + 1 ≡ suc a = omega arith in e) ∙ ap (λ zs. f (suc a) ∷ zs) (shifted f (a + 1) n)

pub indexed : {X : Type 0} (d : X) (xs : List X) (n : ℕ) → n ≤ length xs → map (λ k. get_or xs k d) (range_with_len 0 n) ≡ take n xs
indexed d xs zero h = refl
indexed d [] (suc n) h = absurd (omega arith)
indexed d (x ∷ xs) (suc n) h = ap (λ zs. x ∷ zs) (shifted (λ k. get_or (x ∷ xs) k d) 0 n ∙ indexed d xs n (omega arith))

got : {X : Type 0} (xs : List X) (k : ℕ) (d : X) → k < length xs → slice_get xs k ≡ Some (get_or xs k d)
got [] k d h = absurd (omega arith)
got (x ∷ xs) zero d h = refl
got (x ∷ xs) (suc k) d h = got xs k d (omega arith)

all_got : {X : Type 0} (d : X) (xs : List X) (ks : List ℕ) → ((k : ℕ) → In k ks → k < length xs) → filter_map (slice_get xs) ks ≡ map (λ k. get_or xs k d) ks
all_got d xs [] h = refl
all_got d xs (k ∷ ks) h =
    ap (λ o. cons_option o (filter_map (slice_get xs) ks)) (got xs k d (h k (inl refl))) ∙ ap (λ zs. get_or xs k d ∷ zs) (all_got d xs ks (λ j i. h j (inr i)))

pub take_all : {X : Type 0} (xs : List X) → take (length xs) xs ≡ xs
take_all [] = refl
take_all (x ∷ xs) = ap (λ zs. x ∷ zs) (take_all xs)

pub loops_are_exchanged : LoopsAreExchanged
loops_are_exchanged l ls ps order e =
    all_got l (l ∷ ls) order (λ k i. (let h = range_below 0 (length (l ∷ ls)) k (In_rearranged k ps (range_with_len 0 (length (l ∷ ls))) (subst (In k) e i)) in omega (arith, h)))
    ∙ (ap (map (λ k. get_or (l ∷ ls) k l)) e
    ∙ (map_rearranged (λ k. get_or (l ∷ ls) k l) ps (range_with_len 0 (length (l ∷ ls)))
    ∙ ap (rearranged ps) (indexed l (l ∷ ls) (length (l ∷ ls)) (omega arith) ∙ take_all (l ∷ ls))))
