-- The cells that a reference may touch.
use Rattle.std.specs.Prelude.{◌≡◌, ℕ, suc, ℤ, MatchOption, ⊤, List, [], ◌∷◌, ◌++◌}
use Rattle.meaning.specs.Store.{Cell}
use Rattle.tree.specs.Plain.{Expression, Only, Section, Subscripts, no_subscripts, subscript, Reference}
use Rattle.linear_forms.specs.Linear.{form_of, number_at}

-- the symbols' values, in their order
abbrev pub symbol_values_from : (ℕ → ℤ) → ℕ → List (List ℕ) → List ℤ
symbol_values_from values k [] = []
symbol_values_from values k (s ∷ ss) = values k ∷ symbol_values_from values (suc k) ss

module _ (loops symbols : List (List ℕ)) (values : ℕ → ℤ) (x : List ℤ) where
  -- a linear subscript has its value at the iteration; one that isn't linear may have any
  abbrev pub IsSubscriptAt : Expression → ℤ → Type 0
  IsSubscriptAt e z =
      MatchOption (form_of loops symbols e) ⊤ (λ f. z ≡ number_at f (x ++ symbol_values_from values 0 symbols))

  abbrev pub AreSubscriptsAt : Subscripts → List ℤ → Type 0
  AreSubscriptsAt no_subscripts [] = Unit {0}
  AreSubscriptsAt no_subscripts (z ∷ zs) = ⊥
  AreSubscriptsAt (subscript (Only e) ss) [] = ⊥
  AreSubscriptsAt (subscript (Only e) ss) (z ∷ zs) = IsSubscriptAt e z × AreSubscriptsAt ss zs
  AreSubscriptsAt (subscript (Section a b s) ss) zs = ⊥

  -- the reference may name this cell at the iteration
  pub record Touches (r : Reference) (c : Cell) : Type 0 where
    pub name : c.name ≡ r.name
    pub subscripts : AreSubscriptsAt r.subscripts c.subscripts
