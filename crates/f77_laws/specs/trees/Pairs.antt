-- Which END IF ends which block IF (ANSI X3.9-1978, sections 11.6 to 11.9), as a relation, and what it has to do with
-- the definitions that count.
--
--        IF (L) THEN
--        IF (M) THEN
--        END IF           ends IF (M) THEN: nothing stands between them
--        END IF           ends IF (L) THEN: what stands between them has all its partners there
use Rattle.std.specs.Prelude.{◌≡◌, ◌↔◌, ℕ, true, false, List, [], ◌∷◌, ◌++◌, reverse}
use Rattle.tree.specs.Plain as tree
use Rattle.meaning.specs.Store.{Store}
use Rattle.f77_grammar.specs.Statement77.{Labelled}
use Rattle.f77_grammar.specs.program.Text.{is_block_if, is_end_if, unended}
use Rattle.f77_grammar.specs.program.Nesting.{has_open_if, has_end_if77, since_if}
use Rattle.f77_grammar.specs.program.Uses.{Use77}
use Rattle.f77_grammar.specs.program.Blocks.{AreBlock77, AreArms77}

-- statements of which each block IF has its END IF among them, and each END IF its block IF
pub data ArePaired : List Labelled → Type 0 where
  nothing : ArePaired []
  other : (x : Labelled) (xs : List Labelled) → is_block_if x.statement ≡ false → is_end_if x.statement ≡ false
      → ArePaired xs → ArePaired (x ∷ xs)
  pair : (x end : Labelled) (between xs : List Labelled) → is_block_if x.statement ≡ true
      → is_end_if end.statement ≡ true → ArePaired between → ArePaired xs → ArePaired (x ∷ (between ++ end ∷ xs))

-- the END IF ends the block IF, where all between them are paired
pub record Ends (end : Labelled) (between : List Labelled) (x : Labelled) : Type 0 where
  pub is_if : is_block_if x.statement ≡ true
  pub is_end : is_end_if end.statement ≡ true
  pub paired : ArePaired between

-- ---- the partners

-- one of the statements after a block IF ends it
pub record IsEnded (x : Labelled) (after : List Labelled) : Type 0 where
  pub between : List Labelled
  pub end : Labelled
  pub later : List Labelled
  pub whole : after ≡ between ++ end ∷ later
  pub ends : Ends end between x

-- an END IF ends one of the statements before it, which stand with the nearest first
pub record IsEnding (end : Labelled) (before : List Labelled) : Type 0 where
  pub between : List Labelled
  pub x : Labelled
  pub earlier : List Labelled
  pub whole : before ≡ reverse between ++ x ∷ earlier
  pub ends : Ends end between x

-- ---- laws

abbrev pub EndIfIsPartner : Type 0
EndIfIsPartner = (x : Labelled) (after : List Labelled) → is_block_if x.statement ≡ true
    → has_end_if77 after 0 ≡ true ↔ IsEnded x after

abbrev pub OpenIfIsPartner : Type 0
OpenIfIsPartner = (end : Labelled) (before : List Labelled) → is_end_if end.statement ≡ true
    → has_open_if before ≡ true ↔ IsEnding end before

abbrev pub OneEnd : Type 0
OneEnd = (x : Labelled) (after : List Labelled) (h k : IsEnded x after) → h.between ≡ k.between

abbrev pub OneIf : Type 0
OneIf = (end : Labelled) (before : List Labelled) (h k : IsEnding end before) → h.between ≡ k.between

-- the statements since the nearest block IF that hasn't ended are those between it and an END IF that stood there
abbrev pub SinceIsBetween : Type 0
SinceIsBetween = (end : Labelled) (before : List Labelled) (h : IsEnding end before)
    → since_if before ≡ reverse h.between

-- What stands in no block IF that has ended: each statement but END IF; before an END IF, what stands so before the
-- block IF that it ends; and nothing before an END IF that ends none
pub record UnendedStandOutside : Type 0 where
  pub kept : (x : Labelled) (before : List Labelled) → is_end_if x.statement ≡ false
      → unended (x ∷ before) ≡ x ∷ unended before
  pub ended : (end : Labelled) (before : List Labelled) (h : IsEnding end before)
      → unended (end ∷ before) ≡ unended h.earlier
  pub alone : (end : Labelled) (before : List Labelled) → is_end_if end.statement ≡ true
      → (IsEnding end before → ⊥) → unended (end ∷ before) ≡ []

-- In a block all are paired, and the last statement of a block IF in it is the END IF that ends it
pub record BlocksArePaired : Type 0 where
  pub paired : (us : List Use77) (s : Store) (named : List ℕ) (text : List Labelled) (cs : List tree.Statement)
      → AreBlock77 us s named text cs → ArePaired text
  pub last : (us : List Use77) (s : Store) (named : List ℕ) (x : Labelled) (first later : List Labelled)
      (body : List tree.Statement) (arms : tree.Arms) (part : tree.Block) → is_block_if x.statement ≡ true
      → AreBlock77 us s named first body → AreArms77 us s named later arms part
      → (between : List Labelled) × (end : Labelled) × (first ++ later ≡ between ++ end ∷ []) × Ends end between x
