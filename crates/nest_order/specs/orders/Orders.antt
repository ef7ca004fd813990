-- Actions on a store, one after another, each of which may meet a fault; and when two of them may be exchanged.
use Rattle.std.specs.Prelude.{◌≡◌, List, [], ◌∷◌, Result, Ok, Err}

abbrev pub and_then : {S F : Type 0} → Result S F → (S → Result S F) → Result S F
and_then (Ok s) k = k s
and_then (Err f) k = Err f

module _ {S A F : Type 0} (step : A → S → Result S F) where
  abbrev pub runs : List A → S → Result S F
  runs [] s = Ok s
  runs (a ∷ rest) s = and_then (step a s) (runs rest)

  -- from each store of I from which a and then b meet no fault, b and then a meet none and leave the same store
  abbrev pub MayPass : (S → Type 0) → A → A → Type 0
  MayPass I a b = (s t : S) → I s → runs (a ∷ b ∷ []) s ≡ Ok t → runs (b ∷ a ∷ []) s ≡ Ok t

  -- what is so of a store stays so, whichever of these actions comes next
  abbrev pub Invariant : (A → Type 0) → (S → Type 0) → Type 0
  Invariant IsAction I = (a : A) (s t : S) → IsAction a → I s → step a s ≡ Ok t → I t
