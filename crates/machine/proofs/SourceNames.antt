-- The test for a name that FORTRAN 77 has, and the lines of a name.
use Rattle.std.proofs.Common.{◌≡◌, refl, sym, ap, ◌∙◌, zero, suc, ℕ, ℤ, ◌<◌, Bool, true, false, cond, List, [], ◌∷◌, length, Some, None, arith}
use Rattle.std.specs.Prelude.{nat_le, not, ◌&&◌, ◌||◌, ◌==◌, IsTrue, ◌↔◌, Contains, slice_index_or}
use Rattle.std.specs.List.{list_any}
use Rattle.std.proofs.lemmas.Bool.{leb-true, le-leb}
use Rattle.tree.specs.Names.{IsSourceName}
use Rattle.tree.specs.Plain.{Declaration}
use Rattle.tree.specs.declared.ops.Value.{Value}
use Rattle.meaning.specs.Store.{opening_bounds}
use Rattle.meaning.specs.Steps.{is_source_name, lines_of_name, lines_of_cells}
use Rattle.machine.specs.Storage.{store_of}
use Rattle.machine.proofs.StoreLaws.{store-bounds}

or_true : (b : Bool) → (b || true) ≡ true
or_true true = refl
or_true false = refl

any_at : (xs : List ℕ) (k : ℕ) → k < length xs → slice_index_or xs k 95 ≡ 95 → list_any (λ c. c == 95) xs ≡ true
any_at [] k l e = absurd (omega arith)
any_at (x ∷ xs) zero l e = ap (λ c. c == 95 || list_any (λ c. c == 95) xs) e
any_at (x ∷ xs) (suc k) l e = ap (λ b. x == 95 || b) (any_at xs k (omega arith) e) ∙ or_true (x == 95)

same_number : (x y : ℕ) → (x == y) ≡ true → x ≡ y
same_number x y e = grind arith

has : (xs : List ℕ) → list_any (λ c. c == 95) xs ≡ true → Contains xs 95
has [] e = cc
has (x ∷ xs) e = by (has xs) (x == 95) refl e
  where
    by : (list_any (λ c. c == 95) xs ≡ true → Contains xs 95) → (t : Bool) → (x == 95) ≡ t → (t || list_any (λ c. c == 95) xs) ≡ true → Contains (x ∷ xs) 95
    by more true h p = (0, omega arith, same_number x 95 h)
    by more false h p = (let at = more p in (suc at.0, omega (arith, at.1), at.2))

pub source_is : (x : List ℕ) (b : Bool) → (IsTrue b ↔ IsSourceName x) → is_source_name x ≡ b
source_is x b h = by (nat_le (length x) 6) (list_any (λ c. c == 95) x) b refl refl h
  where
    by : (t u b : Bool) → nat_le (length x) 6 ≡ t → list_any (λ c. c == 95) x ≡ u → (IsTrue b ↔ IsSourceName x) → (t && not u) ≡ b
    by true false true e f h = refl
    by true false false e f h = absurd (let is : false ≡ true = h.1 (record { within = leb-true (length x) 6 e; plain = λ p. (let both : false ≡ true = sym f ∙ any_at x p.0 p.1 p.2 in cc) }) in cc)
    by true true true e f h = absurd ((h.0 refl).plain (has x f))
    by true true false e f h = refl
    by false u true e f h = sym e ∙ le-leb (length x) 6 (h.0 refl).within
    by false u false e f h = refl

module _ (ds : List Declaration) (vs : List Value) (x : List ℕ) (b : Bool) (h : IsTrue b ↔ IsSourceName x) where
  pub no_source_lines : b ≡ false → lines_of_name x (store_of ds vs) ≡ []
  no_source_lines e = ap (λ t. cond t (lines_of_cells x ((store_of ds vs).bounds x) (store_of ds vs)) []) (source_is x b h ∙ e)

  pub unknown_lines : opening_bounds ds x ≡ None → lines_of_name x (store_of ds vs) ≡ []
  unknown_lines e = by (is_source_name x)
    where
      by : (t : Bool) → cond t (lines_of_cells x ((store_of ds vs).bounds x) (store_of ds vs)) [] ≡ []
      by true = ap (λ o. lines_of_cells x o (store_of ds vs)) (store-bounds ds vs x ∙ e)
      by false = refl

  pub known_lines : (bs : List (ℤ × ℤ)) → b ≡ true → opening_bounds ds x ≡ Some bs → lines_of_name x (store_of ds vs) ≡ lines_of_cells x (Some bs) (store_of ds vs)
  known_lines bs e k =
      ap (λ t. cond t (lines_of_cells x ((store_of ds vs).bounds x) (store_of ds vs)) []) (source_is x b h ∙ e)
      ∙ ap (λ o. lines_of_cells x o (store_of ds vs)) (store-bounds ds vs x ∙ k)
