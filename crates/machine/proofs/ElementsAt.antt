-- The elements of an array by their places: their cells and their lines.
use Rattle.std.proofs.Common.{◌≡◌, refl, sym, ap, ◌∙◌, subst, zero, suc, ℕ, ℤ, pos, ◌+◌, ◌*◌, ◌<◌, ◌+ℤ◌, ◌-ℤ◌, ◌≤ℤ◌, Bool, true, false, cond, List, [], ◌∷◌, ◌++◌, map, get_or, Option, Some, None, arith}
use Rattle.std.specs.Prelude.{int_le, ◌&&◌, nat_abs, ◌/◌, ◌%◌}
use Rattle.std.specs.List.{flat_map, range_with_len}
use mathlib.Core.Path.{ap₂}
use Rattle.std.proofs.lemmas.Int.{ints}
use Rattle.std.proofs.lemmas.Float.{T_from_true}
use Rattle.std.proofs.lemmas.Nat.{div-mul-add, mod-mul-add}
use Rattle.std.proofs.lemmas.List.Folds.{flat_map-map}
use Rattle.std.proofs.lemmas.Simd.{map-map}
use Rattle.tree.specs.declared.ops.Value.{Value}
use Rattle.tree.specs.declared.ops.Value.TheVariants.{Int}
use Rattle.meaning.specs.Store.{Store, Cell, numbers_from, size_of, column_major, cells_of}
use Rattle.meaning.specs.Texts.{final_line}
use Rattle.meaning.specs.Steps.{lines_of_cells}
use Rattle.meaning.specs.Extents.{elements_of}
use Rattle.machine.specs.Storage.{offset, joined}
use Rattle.machine.specs.Showing.{subscripts_at, element, element_line, value_line}
use Rattle.machine.proofs.StoreLaws.{both_true, number_inside}
use Rattle.machine.proofs.ColumnMajor.{elements_in_order}

-- a subscript is the one at its place
number_at : (b : ℤ × ℤ) (i : ℤ) (bs : List (ℤ × ℤ)) (is : List ℤ) (r k : ℕ) → is ≡ subscripts_at bs r → joined b i (Some r) ≡ Some k → i ∷ is ≡ subscripts_at (b ∷ bs) k
number_at b i bs is r k e p = by (int_le b.0 i && int_le i b.1) refl p
  where
    by : (t : Bool) → (int_le b.0 i && int_le i b.1) ≡ t → cond t (Some (nat_abs (i -ℤ b.0) + size_of b * r)) None ≡ Some k → i ∷ is ≡ subscripts_at (b ∷ bs) k
    by true t q =
        let same : nat_abs (i -ℤ b.0) + size_of b * r ≡ k = cc in
        let both = both_true (int_le b.0 i) (int_le i b.1) t in
        let low : b.0 ≤ℤ i = record { le = T_from_true _ both.0 } in
        let inside : nat_abs (i -ℤ b.0) < size_of b = number_inside b i t in
        let whole : k ≡ r * size_of b + nat_abs (i -ℤ b.0) = grind (arith, same) in
        let rest : k % size_of b ≡ nat_abs (i -ℤ b.0) = ap (λ n. n % size_of b) whole ∙ mod-mul-add r (size_of b) (nat_abs (i -ℤ b.0)) inside in
        let over : k / size_of b ≡ r = ap (λ n. n / size_of b) whole ∙ div-mul-add r (size_of b) (nat_abs (i -ℤ b.0)) inside in
        let first : i ≡ b.0 +ℤ pos (nat_abs (i -ℤ b.0)) = omega (arith, ints) in
        ap₂ (λ j js. j ∷ js) (first ∙ ap (λ n. b.0 +ℤ pos n) (sym rest)) (e ∙ ap (subscripts_at bs) (sym over))
    by false t q = cc

subscripts_are : (bs : List (ℤ × ℤ)) (is : List ℤ) (k : ℕ) → offset bs is ≡ Some k → is ≡ subscripts_at bs k
subscripts_are [] [] k e = refl
subscripts_are [] (i ∷ is) k e = cc
subscripts_are (b ∷ bs) [] k e = cc
subscripts_are (b ∷ bs) (i ∷ is) k e = by (λ r. subscripts_are bs is r) (offset bs is) refl e
  where
    by : ((r : ℕ) → offset bs is ≡ Some r → is ≡ subscripts_at bs r) → (o : Option ℕ) → offset bs is ≡ o → joined b i o ≡ Some k → i ∷ is ≡ subscripts_at (b ∷ bs) k
    by inner None h p = cc
    by inner (Some r) h p = number_at b i bs is r k (inner r h) p

each_at : (bs : List (ℤ × ℤ)) (rs : List (List ℤ)) (ks : List ℕ) → map (offset bs) rs ≡ map (λ k. let o : Option ℕ = Some k in o) ks → rs ≡ map (subscripts_at bs) ks
each_at bs [] [] e = refl
each_at bs [] (k ∷ ks) e = cc
each_at bs (r ∷ rs) [] e = cc
each_at bs (r ∷ rs) (k ∷ ks) e =
    let first : offset bs r ≡ Some k = cc in
    let more : map (offset bs) rs ≡ map (λ k. let o : Option ℕ = Some k in o) ks = cc in
    ap₂ (λ s ss. s ∷ ss) (subscripts_are bs r k first) (each_at bs rs ks more)

in_order : (bs : List (ℤ × ℤ)) → column_major (map (λ (b : ℤ × ℤ). numbers_from b.0 (size_of b)) bs) ≡ map (subscripts_at bs) (range_with_len 0 (elements_of bs))
in_order bs = each_at bs (column_major (map (λ (b : ℤ × ℤ). numbers_from b.0 (size_of b)) bs)) (range_with_len 0 (elements_of bs)) (elements_in_order bs)

-- the lines of a name are those of its elements, one after the other
pub lines_are : (x : List ℕ) (bs : List (ℤ × ℤ)) (s : Store) → lines_of_cells x (Some bs) s ≡ flat_map (element_line x bs s) (range_with_len 0 (elements_of bs))
lines_are x bs s =
    ap (λ rs. flat_map (λ c. final_line c (s.held c)) (map (λ is. let c : Cell = record { name = x; subscripts = is } in c) rs)) (in_order bs)
    ∙ flat_map-map (λ c. final_line c (s.held c)) (λ is. let c : Cell = record { name = x; subscripts = is } in c) (map (subscripts_at bs) (range_with_len 0 (elements_of bs)))
    ∙ flat_map-map (λ is. let c : Cell = record { name = x; subscripts = is } in final_line c (s.held c)) (subscripts_at bs) (range_with_len 0 (elements_of bs))

-- ---- the lines of elements with these values

value_there : (h : ℕ → Value) (a n k : ℕ) (d : Value) → k < n → get_or (map h (range_with_len a n)) k d ≡ h (a + k)
value_there h a zero k d l = absurd (omega arith)
value_there h a (suc n) zero d l = ap h (let e : a ≡ a + 0 = omega arith in e)
value_there h a (suc n) (suc k) d l =
    value_there h (a + 1) n k d (omega arith) ∙ ap h (let e : a + 1 + k ≡ a + suc k = omega arith in e)

lines_alike : (f g : ℕ → List ℕ) (a n : ℕ) → ((k : ℕ) → k < n → f (a + k) ≡ g (a + k))
    → flat_map f (range_with_len a n) ≡ flat_map g (range_with_len a n)
lines_alike f g a zero h = refl
lines_alike f g a (suc n) h = ap₂ (λ xs ys. xs ++ ys)
    (subst (λ k. f k ≡ g k) (let e : a + 0 ≡ a = omega arith in e) (h 0 (omega arith)))
    (lines_alike f g (a + 1) n (λ k l. subst (λ j. f j ≡ g j) (let e : a + suc k ≡ a + 1 + k = omega arith in e)
    (h (suc k) (omega arith))))

pub lines_held : (x : List ℕ) (bs : List (ℤ × ℤ)) (vs : List Value) (s : Store)
    → map s.held (cells_of x bs) ≡ vs → lines_of_cells x (Some bs) s ≡ flat_map (value_line x bs vs) (range_with_len 0 (elements_of bs))
lines_held x bs vs s e =
    let ks = range_with_len 0 (elements_of bs) in
    let cells : cells_of x bs ≡ map (element x bs) ks =
    ap (λ rs. map (λ is. let c : Cell = record { name = x; subscripts = is } in c) rs) (in_order bs)
    ∙ map-map (λ is. let c : Cell = record { name = x; subscripts = is } in c) (subscripts_at bs) ks in
    let values : map (λ k. s.held (element x bs k)) ks ≡ vs =
    sym (map-map s.held (element x bs) ks) ∙ ap (map s.held) (sym cells) ∙ e in
    lines_are x bs s
    ∙ lines_alike (element_line x bs s) (value_line x bs vs) 0 (elements_of bs) (λ k l.
    ap (final_line (element x bs (0 + k))) (sym (ap (λ j. get_or vs j (Int (pos 0))) (let e : 0 + k ≡ k = omega arith in e)
    ∙ ap (λ ws. get_or ws k (Int (pos 0))) (sym values)
    ∙ value_there (λ k. s.held (element x bs k)) 0 (elements_of bs) k (Int (pos 0)) l)))
