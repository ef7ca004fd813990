-- What the clauses of the top call ask of its words and of its three objects.
use Rattle.std.specs.Prelude.{◌≡◌, ℕ, List, Option, Some, IfSome, String}
use Rattle.std.specs.declared.alloc.Global.{Global}
use Rattle.streams.specs.Causes.{Rose}
use Rattle.tool.specs.commands.Command.{texts, request_of}
use Rattle.tool.specs.declared.commands.commands.Command.{Command}
use Rattle.tool.specs.declared.commands.commands.Request.TheVariants.{OnDeck, Make}

-- the words are the command, which is given the deck
abbrev pub Asks : List (String Global) → Command → Type 0
Asks words c = request_of (texts words) ≡ Some (OnDeck c)

-- the words are `make N`, which is given none, with this N
abbrev pub AsksToMake : List (String Global) → ℕ → Type 0
AsksToMake words n = request_of (texts words) ≡ Some (Make n)

-- the bytes that an object tells, where it tells them
abbrev pub IfTold : Option (List ℕ) → (List ℕ → Type 0) → Type 0
IfTold = IfSome

-- the object's count of faults didn't rise in the call
abbrev pub HasNotFailed : ℕ → ℕ → Type 0
HasNotFailed before now = Rose before now → ⊥
