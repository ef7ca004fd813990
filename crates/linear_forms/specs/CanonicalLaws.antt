-- Laws of canonical text: what was brought into it once stays as it is, and it keeps the profile.
use Rattle.std.specs.Prelude.{◌≡◌, ℕ, ◌+◌, ◌≤◌, IsTrue, true, false, List, [], ◌∷◌, ◌++◌, length}
use Rattle.tree.specs.Limits.{expression_depth90}
use Rattle.tree.specs.Plain.{Expression, Block, Declaration, Program}
use Rattle.meaning.specs.Names.{is_among}
use Rattle.meaning.specs.Profile90.{AreDeclarations, IsProgram90}
use Rattle.meaning.specs.Store.{Store, Cell}
use Rattle.meaning.specs.Typed90.{IsIntegerScalar}
use Rattle.meaning.specs.Value.{is_in_range}
use Rattle.rewrite.specs.Making.{made}
use Rattle.rewrite.specs.MadeBlocks.{made_block}
use Rattle.rewrite.specs.Suits.{Suiting}
use Rattle.rewrite.specs.Profile.{KeepsProfile, DeclaresAlso, deepest_in, with_block}
use Rattle.linear_forms.specs.Canonical.{canonising}

-- it suits each node
abbrev pub all_suit : Suiting
all_suit = record { expression = λ e. true; left = λ l. true; variable = λ x. true }

-- two stores that have all in common, each number within the range of an INTEGER of at most 64 bits
pub record SameSized (bits : ℕ) (s u : Store) : Type 0 where
  pub bounds : (x : List ℕ) → s.bounds x ≡ u.bounds x
  pub held : (c : Cell) → s.held c ≡ u.held c
  pub few : bits ≤ 63
  pub within : (c : Cell) → IsTrue (is_in_range bits (u.held c))

-- no name stands twice
abbrev pub AreDistinct : List (List ℕ) → Type 0
AreDistinct [] = Unit {0}
AreDistinct (x ∷ xs) = (is_among xs x ≡ false) × AreDistinct xs

-- what was brought into canonical text once stays as it is
abbrev pub CanonicalTextStays : Type 0
CanonicalTextStays =
    (loops symbols : List (List ℕ)) (e : Expression) → length loops ≤ 7 → AreDistinct (loops ++ symbols)
    → made (canonising loops symbols) (made (canonising loops symbols) e) ≡ made (canonising loops symbols) e

abbrev pub CanonicalBlockStays : Type 0
CanonicalBlockStays =
    (loops symbols : List (List ℕ)) (b : Block) → length loops ≤ 7 → AreDistinct (loops ++ symbols)
    → made_block (canonising loops symbols) (made_block (canonising loops symbols) b)
    ≡ made_block (canonising loops symbols) b

-- each name is that of an INTEGER scalar, by the declarations
abbrev pub AreIntegerScalars : List Declaration → List (List ℕ) → Type 0
AreIntegerScalars es [] = Unit {0}
AreIntegerScalars es (x ∷ xs) = IsIntegerScalar es x × AreIntegerScalars es xs

-- Where loops and symbols are INTEGER scalars, canonical text keeps the profile. It has 15 terms and a constant at
-- most, so that it is no deeper than 17, or 18 in parentheses
abbrev pub CanonisingKeepsProfile : Type 0
CanonisingKeepsProfile =
    (loops symbols : List (List ℕ)) (es : List Declaration) → AreIntegerScalars es (loops ++ symbols)
    → KeepsProfile es 18 (canonising loops symbols) all_suit

-- So a block of a program of the profile is brought into one again, in which no depth has risen by more
abbrev pub CanonicalBlockKeepsProfile : Type 0
CanonicalBlockKeepsProfile = (loops symbols : List (List ℕ)) (p : Program) (es : List Declaration) (b : Block)
    → AreIntegerScalars es (loops ++ symbols)
    → IsProgram90 (with_block p p.declarations b) → DeclaresAlso p.declarations es → AreDeclarations es
    → deepest_in b + 18 ≤ expression_depth90
    → let c = made_block (canonising loops symbols) b in
    IsProgram90 (with_block p es c) × (deepest_in c ≤ deepest_in b + 18)
