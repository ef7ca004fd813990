-- What words may follow in a list of PRINT or READ, where so many implied DO lists are open.
use Rattle.std.specs.Prelude.{◌≡◌, ℕ, zero, suc, Bool, true, false, Option, List, [], ◌∷◌, ◌++◌}
use Rattle.f90_grammar.specs.Phrases.{Phrase90, IsExpression90, written90}
use Rattle.f90_grammar.specs.Items.{Direction, MayStand90, TakesText, written_bounds90}
use Rattle.f90_grammar.specs.Words as words
use Rattle.f90_grammar.specs.Words.{Word90}
use Rattle.f90_statement.specs.items.parts.Bounds.{AreBounds}
use Rattle.f90_statement.specs.items.Flat.{Node, Of, Text, Begin, Turns}

-- an item is due, or a comma stands before it
abbrev pub lead : Bool → List Word90 → List Word90
lead true ws = ws
lead false ws = words.Comma ∷ ws

abbrev pub written_control : List ℕ → Phrase90 → Phrase90 → Option Phrase90 → List Word90 → List Word90
written_control x a b c ws =
    words.Comma ∷ (words.Name x ∷ (words.Equals ∷ (written_bounds90 a b c ++ words.Close ∷ ws)))

-- The words go on so, with these parts: `due` tells whether an item is due, and n lists are open
abbrev pub Follows : Direction → Bool → ℕ → List Word90 → List Node → Type 0
Follows d due n ws (Of p ∷ ns) =
    (us : List Word90) × (ws ≡ lead due (written90 p ++ us)) × IsExpression90 p × MayStand90 d p
    × Follows d false n us ns
Follows d due n ws (Text t ∷ ns) =
    (us : List Word90) × (ws ≡ lead due (words.Constant t ∷ us)) × TakesText d × Follows d false n us ns
Follows d due n ws (Begin ∷ ns) =
    (us : List Word90) × (ws ≡ lead due (words.Open ∷ us)) × Follows d true (suc n) us ns
Follows d true n ws (Turns x a b c ∷ ns) = ⊥
Follows d false zero ws (Turns x a b c ∷ ns) = ⊥
Follows d false (suc n) ws (Turns x a b c ∷ ns) =
    (us : List Word90) × (ws ≡ written_control x a b c us) × AreBounds a b c × Follows d false n us ns
Follows d true n ws [] = ⊥
Follows d false zero ws [] = ws ≡ []
Follows d false (suc n) ws [] = ⊥

-- One part of the list stands in front, and such words follow
pub record Fronts (d : Direction) (due : Bool) (n : ℕ) (ws : List Word90) (part : Node) (next : Bool) (m : ℕ)
    (us : List Word90) : Type 0 where
  pub back : (ns : List Node) → Follows d next m us ns → Follows d due n ws (part ∷ ns)
  pub on : (ns : List Node) → Follows d due n ws ns
      → (more : List Node) × (ns ≡ part ∷ more) × Follows d next m us more
