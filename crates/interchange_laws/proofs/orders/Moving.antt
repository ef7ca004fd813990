-- A move is exchanges of neighbours.
use Rattle.std.proofs.Common.{◌≡◌, refl, sym, ap, ◌∙◌, ℕ, zero, suc, ◌+◌, List, [], ◌∷◌, ◌++◌, length, arith, append_assoc}
use Rattle.interchange_laws.specs.orders.Laws.{MoveIsRearranged}
use Rattle.interchange_laws.specs.orders.Moves.{move, rearranged, swapped}

-- the last exchange is with the first of those that are passed
move_last : (p k : ℕ) → move p (suc k) ≡ move (suc p) k ++ p ∷ []
move_last p zero = ap (λ z. z ∷ []) (let e : p + 0 ≡ p = omega arith in e)
move_last p (suc k) =
    ap (λ zs. (p + suc k) ∷ zs) (move_last p k) ∙ ap (λ z. z ∷ (move (suc p) k ++ p ∷ [])) (let e : p + suc k ≡ suc p + k = omega arith in e)

one_after : {X : Type 0} (ps qs : List ℕ) (xs : List X) → rearranged (ps ++ qs) xs ≡ rearranged qs (rearranged ps xs)
one_after [] qs xs = refl
one_after (p ∷ ps) qs xs = one_after ps qs (swapped p xs)

-- behind those before it
swapped_behind : {X : Type 0} (outer : List X) (x y : X) (rest : List X) → swapped (length outer) (outer ++ (x ∷ y ∷ rest)) ≡ outer ++ (y ∷ x ∷ rest)
swapped_behind [] x y rest = refl
swapped_behind (z ∷ outer) x y rest = ap (λ zs. z ∷ zs) (swapped_behind outer x y rest)

longer : {X : Type 0} (outer : List X) (x : X) → length (outer ++ x ∷ []) ≡ suc (length outer)
longer [] x = refl
longer (z ∷ outer) x = ap suc (longer outer x)

pub move_is_rearranged : MoveIsRearranged
move_is_rearranged outer [] inner l = refl
move_is_rearranged outer (x ∷ over) inner l =
    let before : rearranged (move (length (outer ++ x ∷ [])) (length over)) ((outer ++ x ∷ []) ++ (over ++ l ∷ inner)) ≡ (outer ++ x ∷ []) ++ (l ∷ (over ++ inner)) = move_is_rearranged (outer ++ x ∷ []) over inner l in
    let there : rearranged (move (suc (length outer)) (length over)) (outer ++ (x ∷ (over ++ l ∷ inner))) ≡ outer ++ (x ∷ l ∷ (over ++ inner)) =
    ap (λ k. rearranged (move k (length over)) (outer ++ (x ∷ (over ++ l ∷ inner)))) (sym (longer outer x))
    ∙ (ap (rearranged (move (length (outer ++ x ∷ [])) (length over))) (sym (append_assoc outer (x ∷ []) (over ++ l ∷ inner))) ∙ (before ∙ append_assoc outer (x ∷ []) (l ∷ (over ++ inner)))) in
    ap (λ ps. rearranged ps (outer ++ (x ∷ (over ++ l ∷ inner)))) (move_last (length outer) (length over))
    ∙ (one_after (move (suc (length outer)) (length over)) (length outer ∷ []) (outer ++ (x ∷ (over ++ l ∷ inner)))
    ∙ (ap (swapped (length outer)) there ∙ swapped_behind outer x l (over ++ inner)))
