-- Names that hold values, and writes.
use Rattle.std.proofs.Common.{◌≡◌, refl, sym, ap, ◌∙◌, subst, ◌⊎◌, inl, inr, ℕ, suc, ℤ, Bool, true, false, ◌||◌, List}
use Rattle.std.proofs.Common.{[], ◌∷◌, ◌++◌, length, Some, Contains}
use Rattle.std.proofs.lemmas.Slice.Eq.{bytes_eq-Decides}
use Rattle.std.specs.Str.{bytes_eq}
use Rattle.meaning_laws.proofs.arrays.Members.{here, there, nowhere, cases_of}
use Rattle.tree.specs.declared.ops.Value.{Value}
use Rattle.tree.specs.declared.ops.Value.TheVariants.{Int}
use Rattle.meaning.specs.Store.{Store, Cell, put}
use Rattle.meaning.proofs.Exchanges.{unread}
use Rattle.linear_forms.specs.Linear.{HaveValues}
use Rattle.nest_order.specs.runs.Guarded.{variable_cell}
use Rattle.nest_order.proofs.runs.Results.{true_false}
use Rattle.nest.specs.statement_loops.Names.{is_among}

-- ---- names among names

pub among : (names : List (List ℕ)) (x : List ℕ) → Contains names x → is_among names x ≡ true
among [] x m = absurd (nowhere x m)
among (y ∷ ys) x m = by (bytes_eq y x) refl (cases_of y ys x m) (among ys x)
  where
    by : (b : Bool) → bytes_eq y x ≡ b → (y ≡ x) ⊎ Contains ys x → (Contains ys x → is_among ys x ≡ true) → (b || is_among ys x) ≡ true
    by true e c more = refl
    by false e (inl q) more = let same = (bytes_eq-Decides y x).1 q in absurd (let both = sym e ∙ same in cc)
    by false e (inr k) more = more k

pub among_is : (names : List (List ℕ)) (x : List ℕ) → is_among names x ≡ true → Contains names x
among_is [] x e = absurd cc
among_is (y ∷ ys) x e = by (bytes_eq y x) refl e (among_is ys x)
  where
    by : (b : Bool) → bytes_eq y x ≡ b → (b || is_among ys x) ≡ true → (is_among ys x ≡ true → Contains ys x) → Contains (y ∷ ys) x
    by true p e more = subst (Contains (y ∷ ys)) ((bytes_eq-Decides y x).0 p) (here y ys)
    by false p e more = there y ys x (more e)

pub not_among : (names : List (List ℕ)) (x : List ℕ) → is_among names x ≡ false → Contains names x → ⊥
not_among names x h c = true_false (sym (among names x c) ∙ h)

pub none_among : (names : List (List ℕ)) (x : List ℕ) → (Contains names x → ⊥) → is_among names x ≡ false
none_among names x h = by (is_among names x) refl
  where
    by : (b : Bool) → is_among names x ≡ b → b ≡ false
    by true e = absurd (h (among_is names x e))
    by false e = refl

-- ---- writes

-- a cell of another name keeps its value
pub kept : (c d : Cell) (v : Value) (s : Store) → (c.name ≡ d.name → ⊥) → (put c v s).held d ≡ s.held d
kept c d v s apart = sym (unread c d v s (λ e. apart (ap (λ (x : Cell). x.name) e)))

pub values_kept : (ys : List (List ℕ)) (xs : List ℤ) (c : Cell) (v : Value) (s : Store) → (Contains ys c.name → ⊥) → HaveValues ys s xs → HaveValues ys (put c v s) xs
values_kept [] [] c v s apart h = tt
values_kept [] (x ∷ xs) c v s apart h = absurd h
values_kept (y ∷ ys) [] c v s apart h = absurd h
values_kept (y ∷ ys) (x ∷ xs) c v s apart h =
    (h.0, kept c (variable_cell y) v s (λ e. apart (subst (Contains (y ∷ ys)) (sym e) (here y ys))) ∙ h.1, values_kept ys xs c v s (λ m. apart (there y ys c.name m)) h.2)

pub values_more : (ys : List (List ℕ)) (xs : List ℤ) (y : List ℕ) (x : ℤ) (s : Store) → HaveValues ys s xs → s.bounds y ≡ Some [] → s.held (variable_cell y) ≡ Int x → HaveValues (ys ++ y ∷ []) s (xs ++ x ∷ [])
values_more [] [] y x s h b e = (b, e, tt)
values_more [] (z ∷ zs) y x s h b e = absurd h
values_more (w ∷ ws) [] y x s h b e = absurd h
values_more (w ∷ ws) (z ∷ zs) y x s h b e = (h.0, h.1, values_more ws zs y x s h.2 b e)

pub record Front (ys : List (List ℕ)) (xs : List ℤ) (y : List ℕ) (x : ℤ) (s : Store) : Type 0 where
  pub front : HaveValues ys s xs
  pub bare : s.bounds y ≡ Some []
  pub value : s.held (variable_cell y) ≡ Int x

pub values_front : (ys : List (List ℕ)) (xs : List ℤ) (y : List ℕ) (x : ℤ) (s : Store) → HaveValues (ys ++ y ∷ []) s (xs ++ x ∷ []) → Front ys xs y x s
values_front [] [] y x s h = record { front = tt; bare = h.0; value = h.1 }
values_front [] (z ∷ []) y x s h = absurd h.2
values_front [] (z ∷ (u ∷ us)) y x s h = absurd h.2
values_front (w ∷ []) [] y x s h = absurd h.2
values_front (w ∷ (u ∷ us)) [] y x s h = absurd h.2
values_front (w ∷ ws) (z ∷ zs) y x s h = let m = values_front ws zs y x s h.2 in record { front = (h.0, h.1, m.front); bare = m.bare; value = m.value }

pub as_many : (ys : List (List ℕ)) (xs : List ℤ) (s : Store) → HaveValues ys s xs → length ys ≡ length xs
as_many [] [] s h = refl
as_many [] (x ∷ xs) s h = absurd h
as_many (y ∷ ys) [] s h = absurd h
as_many (y ∷ ys) (x ∷ xs) s h = ap suc (as_many ys xs s h.2)
