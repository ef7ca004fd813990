-- A scalar variable that an expression stands for, where only one of two runs knows the variable.
use Rattle.std.specs.Prelude.{◌≡◌, Ok, Some, ℕ, ◌+◌, Bool, true, false, not, ◌&&◌, ◌||◌, List, []}
use Rattle.std.specs.Str.{bytes_eq}
use Rattle.tree.specs.declared.ops.Kind.TheVariants.{Integer}
use Rattle.tree.specs.Plain.{Expression, Named, no_subscripts, subscript, Declaration}
use Rattle.meaning.specs.Depths.{depth_of}
use Rattle.meaning.specs.Names.{is_among}
use Rattle.meaning.specs.Reads.{names_in}
use Rattle.meaning.specs.Store.{Store, Cell}
use Rattle.meaning.specs.Typed90.{IsScalar, IsIntegerScalar}
use Rattle.meaning.specs.Value.{value_of}
use Rattle.rewrite.specs.Following.{sequential}
use Rattle.rewrite.specs.Making.{Making}
use Rattle.rewrite.specs.Suits.{Suiting}
use Rattle.rewrite.specs.Profile.{KeepsProfile}
use Rattle.rewrite.specs.Substituting.{substituting}

-- `by` stands for the variable; `news` are further names that the first run doesn't know, `fixed` further ones that
-- keep their values
pub record Replacing : Type 0 where
  pub variable : List ℕ
  pub by : Expression
  pub news : List ℕ → Bool
  pub fixed : List ℕ → Bool

module _ (r : Replacing) where
  -- a name that the two stores needn't have in common
  abbrev pub is_own : List ℕ → Bool
  is_own x = bytes_eq x r.variable || r.news x

  abbrev pub is_fixed : List ℕ → Bool
  is_fixed x = is_among (names_in r.by) x || r.fixed x

  -- a name whose value may change
  abbrev pub is_free : List ℕ → Bool
  is_free x = not (is_own x) && not (is_fixed x)

  abbrev pub is_suited : Expression → Bool
  is_suited (Named x no_subscripts) = bytes_eq x r.variable || not (is_own x)
  is_suited (Named x (subscript p ps)) = not (is_own x)
  is_suited e = true

  abbrev pub replacing : Making
  replacing = substituting r.variable r.by

  abbrev pub replacing_suits : Suiting
  replacing_suits = record { expression = is_suited; left = λ l. is_free l.name; variable = is_free }

  -- all names but the own ones have the same cells and values, and the expression has the variable's value
  pub record ValueStandsFor (bits : ℕ) (s u : Store) : Type 0 where
    pub bounds : (x : List ℕ) → is_own x ≡ false → s.bounds x ≡ u.bounds x
    pub held : (c : Cell) → is_own c.name ≡ false → s.held c ≡ u.held c
    pub scalar : s.bounds r.variable ≡ Some []
    pub value : value_of (sequential bits) r.by u ≡ Ok (s.held (record { name = r.variable; subscripts = [] }))

-- Where the variable and the expression are INTEGER scalars by the declarations, the replacement keeps the profile, and
-- raises a depth by that of the expression in parentheses at most
abbrev pub ReplacingKeepsProfile : Type 0
ReplacingKeepsProfile = (r : Replacing) (es : List Declaration)
    → IsIntegerScalar es r.variable → IsScalar es r.by Integer
    → KeepsProfile es (1 + depth_of r.by) (replacing r) (replacing_suits r)
