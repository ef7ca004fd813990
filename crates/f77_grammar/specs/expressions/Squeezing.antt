-- The symbols of a statement: blanks are dropped and letters made upper case outside character constants, and each
-- constant is one symbol.
use Rattle.std.specs.Prelude.{ℕ, ◌≡◌, false, ◌==◌, List, [], ◌∷◌, ◌++◌}
use Rattle.reading.specs.Characters.{upper, doubled, IsEnded}

-- `Broken` stands for a constant without characters, and for an apostrophe that begins no constant, with all that
-- follows it.
pub data Symbol77 : Type 0 where
  Char : ℕ → Symbol77
  Text : List ℕ → Symbol77
  Broken : Symbol77

pub data Squeezed : List ℕ → List Symbol77 → Type 0 where
  nothing : Squeezed [] []
  blank : {cs : List ℕ} {ss : List Symbol77} → Squeezed cs ss → Squeezed (32 ∷ cs) ss
  character : (c : ℕ) {cs : List ℕ} {ss : List Symbol77} → (c == 32) ≡ false → (c == 39) ≡ false → Squeezed cs ss
      → Squeezed (c ∷ cs) (Char (upper c) ∷ ss)
  constant : (c : ℕ) (t : List ℕ) {cs : List ℕ} {ss : List Symbol77} → IsEnded cs → Squeezed cs ss
      → Squeezed (39 ∷ (doubled (c ∷ t) ++ 39 ∷ cs)) (Text (c ∷ t) ∷ ss)
  empty : {cs : List ℕ} {ss : List Symbol77} → IsEnded cs → Squeezed cs ss → Squeezed (39 ∷ 39 ∷ cs) (Broken ∷ ss)
  endless : (t : List ℕ) → Squeezed (39 ∷ doubled t) (Broken ∷ [])
