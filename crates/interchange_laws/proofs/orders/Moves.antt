-- Lemmas on exchanges of neighbours.
use Rattle.std.proofs.Common.{◌≡◌, refl, sym, ap, ◌∙◌, inl, inr, ℕ, zero, suc, List, [], ◌∷◌, length, arith}
use Rattle.nest_order.specs.orders.Lists.{Distinct, Each, In}
use Rattle.nest_order.specs.orders.Graphs.{Sign}
use Rattle.interchange_laws.specs.orders.Moves.{rearranged, restored, swapped}
use Rattle.interchange_laws.specs.orders.Vectors.{AreSigned, IsSigned}

-- twice is nothing
pub swapped_twice : {X : Type 0} (p : ℕ) (xs : List X) → swapped p (swapped p xs) ≡ xs
swapped_twice zero [] = refl
swapped_twice zero (x ∷ []) = refl
swapped_twice zero (x ∷ y ∷ zs) = refl
swapped_twice (suc p) [] = refl
swapped_twice (suc p) (x ∷ xs) = ap (λ zs. x ∷ zs) (swapped_twice p xs)

pub restored_rearranged : {X : Type 0} (ps : List ℕ) (xs : List X) → restored ps (rearranged ps xs) ≡ xs
restored_rearranged [] xs = refl
restored_rearranged (p ∷ ps) xs = ap (swapped p) (restored_rearranged ps (swapped p xs)) ∙ swapped_twice p xs

pub rearranged_restored : {X : Type 0} (ps : List ℕ) (xs : List X) → rearranged ps (restored ps xs) ≡ xs
rearranged_restored [] xs = refl
rearranged_restored (p ∷ ps) xs = ap (rearranged ps) (swapped_twice p (restored ps xs)) ∙ rearranged_restored ps xs

pub swapped_length : {X : Type 0} (p : ℕ) (xs : List X) → length (swapped p xs) ≡ length xs
swapped_length zero [] = refl
swapped_length zero (x ∷ []) = refl
swapped_length zero (x ∷ y ∷ zs) = refl
swapped_length (suc p) [] = refl
swapped_length (suc p) (x ∷ xs) = ap suc (swapped_length p xs)

pub rearranged_length : {X : Type 0} (ps : List ℕ) (xs : List X) → length (rearranged ps xs) ≡ length xs
rearranged_length [] xs = refl
rearranged_length (p ∷ ps) xs = rearranged_length ps (swapped p xs) ∙ swapped_length p xs

-- ---- what stands in a list

pub In_swapped : {X : Type 0} (x : X) (p : ℕ) (xs : List X) → In x (swapped p xs) → In x xs
In_swapped x zero [] i = i
In_swapped x zero (y ∷ []) i = i
In_swapped x zero (y ∷ z ∷ zs) (inl e) = inr (inl e)
In_swapped x zero (y ∷ z ∷ zs) (inr (inl e)) = inl e
In_swapped x zero (y ∷ z ∷ zs) (inr (inr i)) = inr (inr i)
In_swapped x (suc p) [] i = i
In_swapped x (suc p) (y ∷ ys) (inl e) = inl e
In_swapped x (suc p) (y ∷ ys) (inr i) = inr (In_swapped x p ys i)

pub In_rearranged : {X : Type 0} (x : X) (ps : List ℕ) (xs : List X) → In x (rearranged ps xs) → In x xs
In_rearranged x [] xs i = i
In_rearranged x (p ∷ ps) xs i = In_swapped x p xs (In_rearranged x ps (swapped p xs) i)

pub Each_swapped : {X : Type 0} (P : X → Type 0) (p : ℕ) (xs : List X) → Each P xs → Each P (swapped p xs)
Each_swapped P zero [] h = h
Each_swapped P zero (x ∷ []) h = h
Each_swapped P zero (x ∷ y ∷ zs) h = (h.1.0, (h.0, h.1.1))
Each_swapped P (suc p) [] h = h
Each_swapped P (suc p) (x ∷ xs) h = (h.0, Each_swapped P p xs h.1)

Distinct_swapped : {X : Type 0} (p : ℕ) (xs : List X) → Distinct xs → Distinct (swapped p xs)
Distinct_swapped zero [] h = h
Distinct_swapped zero (x ∷ []) h = h
Distinct_swapped zero (x ∷ y ∷ zs) h = (((λ e. h.0.0 (sym e)), h.1.0), (h.0.1, h.1.1))
Distinct_swapped (suc p) [] h = h
Distinct_swapped (suc p) (x ∷ xs) h = (Each_swapped (λ y. ¬ (x ≡ y)) p xs h.0, Distinct_swapped p xs h.1)

pub Distinct_rearranged : {X : Type 0} (ps : List ℕ) (xs : List X) → Distinct xs → Distinct (rearranged ps xs)
Distinct_rearranged [] xs h = h
Distinct_rearranged (p ∷ ps) xs h = Distinct_rearranged ps (swapped p xs) (Distinct_swapped p xs h)

-- ---- related iterations, where there is one sign for each

-- as many of each
abbrev pub Signed : List Sign → List ℕ → List ℕ → Type 0
Signed [] [] [] = Unit {0}
Signed [] [] (j ∷ js) = ⊥
Signed [] (i ∷ is) js = ⊥
Signed (d ∷ ds) [] js = ⊥
Signed (d ∷ ds) (i ∷ is) [] = ⊥
Signed (d ∷ ds) (i ∷ is) (j ∷ js) = IsSigned d i j × Signed ds is js

pub signed_all : (ds : List Sign) (is js : List ℕ) → length ds ≡ length is → length ds ≡ length js → AreSigned ds is js → Signed ds is js
signed_all [] [] [] a b h = tt
signed_all [] [] (j ∷ js) a b h = absurd (let e : 0 ≡ suc (length js) = b in omega arith)
signed_all [] (i ∷ is) js a b h = absurd (let e : 0 ≡ suc (length is) = a in omega arith)
signed_all (d ∷ ds) [] js a b h = absurd h
signed_all (d ∷ ds) (i ∷ is) [] a b h = absurd h
signed_all (d ∷ ds) (i ∷ is) (j ∷ js) a b h = (h.0, signed_all ds is js (let e : suc (length ds) ≡ suc (length is) = a in omega arith) (let e : suc (length ds) ≡ suc (length js) = b in omega arith) h.1)

first_two : (d : Sign) (i j : ℕ) (ds : List Sign) (is js : List ℕ) → IsSigned d i j → Signed ds is js → Signed (swapped zero (d ∷ ds)) (swapped zero (i ∷ is)) (swapped zero (j ∷ js))
first_two d i j [] [] [] a h = (a, tt)
first_two d i j [] [] (l ∷ js) a h = absurd h
first_two d i j [] (k ∷ is) js a h = absurd h
first_two d i j (e ∷ ds) [] js a h = absurd h
first_two d i j (e ∷ ds) (k ∷ is) [] a h = absurd h
first_two d i j (e ∷ ds) (k ∷ is) (l ∷ js) a h = (h.0, (a, h.1))

pub signed_swapped : (p : ℕ) (ds : List Sign) (is js : List ℕ) → Signed ds is js → Signed (swapped p ds) (swapped p is) (swapped p js)
signed_swapped zero [] [] [] h = tt
signed_swapped zero [] [] (j ∷ js) h = absurd h
signed_swapped zero [] (i ∷ is) js h = absurd h
signed_swapped zero (d ∷ ds) [] js h = absurd h
signed_swapped zero (d ∷ ds) (i ∷ is) [] h = absurd h
signed_swapped zero (d ∷ ds) (i ∷ is) (j ∷ js) h = first_two d i j ds is js h.0 h.1
signed_swapped (suc p) [] [] [] h = tt
signed_swapped (suc p) [] [] (j ∷ js) h = absurd h
signed_swapped (suc p) [] (i ∷ is) js h = absurd h
signed_swapped (suc p) (d ∷ ds) [] js h = absurd h
signed_swapped (suc p) (d ∷ ds) (i ∷ is) [] h = absurd h
signed_swapped (suc p) (d ∷ ds) (i ∷ is) (j ∷ js) h = (h.0, signed_swapped p ds is js h.1)

pub signed_rearranged : (ps : List ℕ) (ds : List Sign) (is js : List ℕ) → Signed ds is js → Signed (rearranged ps ds) (rearranged ps is) (rearranged ps js)
signed_rearranged [] ds is js h = h
signed_rearranged (p ∷ ps) ds is js h = signed_rearranged ps (swapped p ds) (swapped p is) (swapped p js) (signed_swapped p ds is js h)
