-- A name comes in at its place among names in byte order.
use Rattle.std.proofs.Common.{◌≡◌, ◌∙◌, ℕ, zero, suc, ◌+◌, ◌≤◌, ◌||◌, Bool, true, false, List, [], ◌∷◌, insert, length, refl, sym, ap, subst, arith, add-one}
use Rattle.std.specs.List.{AllByRecursion}
use Rattle.std.specs.Cmp.Lexicographic.{slice_cmp}
use Rattle.std.specs.Ordering.{nat_cmp, is_eq, ordering_reverse}
use Rattle.std.specs.Str.{bytes_eq}
use Rattle.std.specs.declared.cmp.Ordering.{Ordering}
use Rattle.std.specs.declared.cmp.Ordering.TheVariants.{Less, Equal, Greater}
use Rattle.std.proofs.lemmas.Cmp.{nat_list_cmp_total}
use Rattle.std.proofs.lemmas.Map.Text.{is_eq-slice_cmp}
use Rattle.std.proofs.lemmas.Slice.Eq.{bytes_eq-Decides}
use Rattle.meaning.specs.Names.{IsInByteOrder, is_among}
use Rattle.statement_passes.specs.Symbols.{place_by, place_among, with_name_placed}
use Rattle.statement_passes.specs.Laws.{NamesStayInOrder}

same_name : (x y : List ℕ) → slice_cmp nat_cmp x y ≡ Equal → x ≡ y
same_name x y h = (bytes_eq-Decides x y).0 (sym (is_eq-slice_cmp x y) ∙ ap is_eq h)

turned : (x y : List ℕ) → slice_cmp nat_cmp x y ≡ Greater → slice_cmp nat_cmp y x ≡ Less
turned x y h = nat_list_cmp_total.antisymm y x ∙ ap ordering_reverse h

abbrev Follows : List ℕ → List ℕ → Type 0
Follows x y = slice_cmp nat_cmp x y ≡ Less

-- ---- the place

place_within : (o : Ordering) (k n : ℕ) → k ≤ n → place_by o k ≤ n + 1
place_within Less k n h = omega (arith, h)
place_within Equal k n h = omega arith
place_within Greater k n h = omega arith

pub place_of-within : (xs : List (List ℕ)) (x : List ℕ) → place_among xs x ≤ length xs
place_of-within [] x = omega arith
place_of-within (y ∷ ys) x = let h = place_within (slice_cmp nat_cmp y x) (place_among ys x) (length ys) (place_of-within ys x) in omega (arith, h)

-- by where the first name stands
abbrev placed_by : Ordering → List ℕ → List ℕ → List (List ℕ) → List (List ℕ) → List (List ℕ)
placed_by Less x y ys behind = y ∷ behind
placed_by Equal x y ys behind = x ∷ y ∷ ys
placed_by Greater x y ys behind = x ∷ y ∷ ys

insert-suc : (y : List ℕ) (ys : List (List ℕ)) (k : ℕ) (x : List ℕ) → insert (y ∷ ys) (k + 1) x ≡ y ∷ insert ys k x
insert-suc y ys k x = ap (λ m. insert (y ∷ ys) m x) (add-one k)

by_order : (o : Ordering) (x y : List ℕ) (ys : List (List ℕ)) (k : ℕ) → insert (y ∷ ys) (place_by o k) x ≡ placed_by o x y ys (insert ys k x)
by_order Less x y ys k = insert-suc y ys k x
by_order Equal x y ys k = refl
by_order Greater x y ys k = refl

-- ---- the order

all_weaker : (P Q : List ℕ → Type 0) → ((x : List ℕ) → P x → Q x) → (xs : List (List ℕ)) → AllByRecursion P xs → AllByRecursion Q xs
all_weaker P Q f [] h = tt
all_weaker P Q f (x ∷ xs) h = (f x h.0, all_weaker P Q f xs h.1)

all_inserted : (P : List ℕ → Type 0) (xs : List (List ℕ)) (k : ℕ) (x : List ℕ) → P x → AllByRecursion P xs → AllByRecursion P (insert xs k x)
all_inserted P [] zero x i h = (i, tt)
all_inserted P [] (suc k) x i h = (i, tt)
all_inserted P (y ∷ ys) zero x i h = (i, h)
all_inserted P (y ∷ ys) (suc k) x i h = (h.0, all_inserted P ys k x i h.1)

not_first : (a b : Bool) → (a || b) ≡ false → a ≡ false
not_first true b h = h
not_first false b h = refl

not_rest : (a b : Bool) → (a || b) ≡ false → b ≡ false
not_rest true b h = absurd cc
not_rest false b h = h

differs : true ≡ false → ⊥
differs e = cc

ordered_by : (o : Ordering) (x y : List ℕ) (ys behind : List (List ℕ)) → slice_cmp nat_cmp y x ≡ o → IsInByteOrder (y ∷ ys) → IsInByteOrder behind
    → bytes_eq x y ≡ false → (Follows y x → AllByRecursion (Follows y) behind) → IsInByteOrder (placed_by o x y ys behind)
ordered_by Less x y ys behind q h b other more = (more q, b)
ordered_by Equal x y ys behind q h b other more = absurd (differs (sym ((bytes_eq-Decides x y).1 (sym (same_name y x q))) ∙ other))
ordered_by Greater x y ys behind q h b other more =
    ((turned y x q, all_weaker (Follows y) (Follows x) (λ z l. nat_list_cmp_total.trans x y z (turned y x q) l) ys h.0), h)

pub names_stay_in_order : NamesStayInOrder
names_stay_in_order [] x h n = (tt, tt)
names_stay_in_order (y ∷ ys) x h n =
    subst IsInByteOrder (sym (by_order (slice_cmp nat_cmp y x) x y ys (place_among ys x)))
    (ordered_by (slice_cmp nat_cmp y x) x y ys (with_name_placed ys x) refl h (names_stay_in_order ys x h.1 (not_rest (bytes_eq x y) (is_among ys x) n)) (not_first (bytes_eq x y) (is_among ys x) n)
    (λ l. all_inserted (Follows y) ys (place_among ys x) x l h.0))
