-- What an expression reads, and nothing else, decides its value.
use Rattle.std.specs.Prelude.{ℕ, List}
use Rattle.tree.specs.Plain.{Expression}
use Rattle.meaning.specs.Dialect.{Dialect}
use Rattle.meaning.specs.Value.{value_of, array_of}
use Rattle.nest_order.specs.orders.Lists.{In}
use Rattle.reductions.specs.Reading.{read_in}
use Rattle.reduction_laws.specs.unread.Unread.{IsBlind}

abbrev pub Spared : List (List ℕ) → List (List ℕ) → Type 0
Spared xs ns = (y : List ℕ) → In y ns → ¬ (In y xs)

-- an expression that reads none of the variables has one value, and one array, whatever they hold
abbrev pub UnreadIsBlind : Type 0
UnreadIsBlind = (lang : Dialect) (xs : List (List ℕ)) (e : Expression) → Spared xs (read_in e)
    → IsBlind xs (value_of lang e) × IsBlind xs (array_of lang e)
