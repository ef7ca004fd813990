-- Direction vectors in an order of the loops.
use Rattle.std.proofs.Common.{◌≡◌, refl, sym, ap, ◌∙◌, inl, inr, ℕ, zero, suc, ◌≤◌, Bool, true, false, ◌&&◌, List, [], ◌∷◌, length, map, take, arith}
use Rattle.std.specs.List.{list_all, range_with_len}
use Rattle.subscripts.specs.declared.affine.Dir.{Dir}
use Rattle.subscripts.specs.declared.affine.Dir.TheVariants.{Lt, Eq, Gt, Any}
use Rattle.subscripts.specs.declared.affine.Dirs.{Dirs}
use Rattle.nest_order.specs.orders.Lists.{In}
use Rattle.nest_order.specs.orders.Graphs.{HasLevel}
use Rattle.emission.specs.graph_orders.Arcs.{sign_of}
use Rattle.interchange.specs.Orders.{direction, directions, leads_forward}
use Rattle.interchange_laws.specs.orders.Moves.{rearranged}
use Rattle.interchange.proofs.ExchangedLoops.{indexed}
use Rattle.interchange_laws.proofs.runs.Acts.{map_rearranged}

true_false : true ≡ false → ⊥
true_false e = cc

pub and_both : (a b : Bool) → a && b ≡ true → (a ≡ true) × (b ≡ true)
and_both true b e = (refl, e)
and_both false b e = absurd (true_false (sym e))

pub all_in : {X : Type 0} (test : X → Bool) (xs : List X) → list_all test xs ≡ true → (x : X) → In x xs → test x ≡ true
all_in test [] e x i = absurd i
all_in test (y ∷ xs) e x (inl f) = ap test f ∙ (and_both (test y) (list_all test xs) e).0
all_in test (y ∷ xs) e x (inr i) = all_in test xs (and_both (test y) (list_all test xs) e).1 x i

pub all_from : {X : Type 0} (test : X → Bool) (xs : List X) → ((x : X) → In x xs → test x ≡ true) → list_all test xs ≡ true
all_from test [] h = refl
all_from test (y ∷ xs) h = ap (λ b. b && list_all test xs) (h y (inl refl)) ∙ all_from test xs (λ x i. h x (inr i))

-- ---- forward is to have a level

pub forward_has_level : (ds : List Dir) → leads_forward ds ≡ true → HasLevel (map sign_of ds)
forward_has_level [] e = tt
forward_has_level (Lt ∷ ds) e = tt
forward_has_level (Eq ∷ ds) e = forward_has_level ds e
forward_has_level (Gt ∷ ds) e = absurd (true_false (sym e))
forward_has_level (Any ∷ ds) e = absurd (true_false (sym e))

pub level_is_forward : (ds : List Dir) → HasLevel (map sign_of ds) → leads_forward ds ≡ true
level_is_forward [] h = refl
level_is_forward (Lt ∷ ds) h = refl
level_is_forward (Eq ∷ ds) h = level_is_forward ds h
level_is_forward (Gt ∷ ds) h = absurd h
level_is_forward (Any ∷ ds) h = absurd h

-- ---- the first places

take_length : {X : Type 0} (k : ℕ) (xs : List X) → length (take k xs) ≤ length xs
take_length zero xs = omega arith
take_length (suc k) [] = omega arith
take_length (suc k) (x ∷ xs) = let h = take_length k xs in omega arith

take_again : {X : Type 0} (k : ℕ) (xs : List X) → take (length (take k xs)) xs ≡ take k xs
take_again zero xs = refl
take_again (suc k) [] = refl
take_again (suc k) (x ∷ xs) = ap (λ zs. x ∷ zs) (take_again k xs)

-- the vector with as many places as there are loops
pub directions_at_first : (d : Dirs) (n : ℕ) → length (take d.len d.at) ≡ n → directions d (range_with_len 0 n) ≡ take d.len d.at
directions_at_first d n e =
    ap (λ k. directions d (range_with_len 0 k)) (sym e)
    ∙ (indexed Any d.at (length (take d.len d.at)) (take_length d.len d.at) ∙ take_again d.len d.at)

pub signs_in_order : (d : Dirs) (n : ℕ) (ps order : List ℕ) → length (take d.len d.at) ≡ n → order ≡ rearranged ps (range_with_len 0 n)
    → map sign_of (directions d order) ≡ rearranged ps (map sign_of (take d.len d.at))
signs_in_order d n ps order long e =
    ap (λ o. map sign_of (directions d o)) e
    ∙ (ap (map sign_of) (map_rearranged (direction d) ps (range_with_len 0 n))
    ∙ (ap (λ zs. map sign_of (rearranged ps zs)) (directions_at_first d n long)
    ∙ map_rearranged sign_of ps (take d.len d.at)))
