-- What the statements behind the loops of an expanded nest do: each declared private scalar gets its last value.
use Rattle.std.specs.Prelude.{◌≡◌, ⊤, Ok, Some, None, ℕ, ◌≤◌, ℤ, true, List, [], ◌∷◌}
use Rattle.tree.specs.Plain.{block}
use Rattle.tree.specs.declared.ops.Value.TheVariants.{Int}
use Rattle.meaning.specs.Run.{State, Going, does_all}
use Rattle.meaning.specs.Store.{Store}
use Rattle.meaning.specs.Value.{value_of}
use Rattle.rewrite.specs.Following.{sequential}
use Rattle.nest.specs.Plain.{Loop, Nest}
use Rattle.nest_order.specs.orders.Lists.{In}
use Rattle.nest_steps.specs.Leading.{Led}
use Rattle.nest_steps.specs.Statements.{cell_of}
use Rattle.last_values.specs.normal_forms.NormalLoops.{is_positive}
use Rattle.scalar_expand.specs.Expanded.{has_known_end, trip_expression, last_values}
use Rattle.scalar_expand.specs.Laws.{AreAlike, IsExpandable, own_of}
use Rattle.scalar_expand.specs.Numbers.{turns_to}
use Rattle.scalar_expand.specs.Privates.{private_scalars}
use Rattle.scalar_expand.specs.Stores.{AreSo, all_at}
use Rattle.scalar_expand.specs.declared.privates.Private.{Private}
use Rattle.scalar_expand.specs.declared.privates.RoundLoop.{RoundLoop}

-- the texts of these loops' trips have numbers of so many turns; a constant trip above 0 has a turn
abbrev pub TellTurns : ℕ → List (List ℕ) → Store → List RoundLoop → List ℕ → Type 0
TellTurns bits symbols u [] [] = ⊤
TellTurns bits symbols u [] (i ∷ is) = ⊥
TellTurns bits symbols u (l ∷ ls) [] = ⊥
TellTurns bits symbols u (l ∷ ls) (i ∷ is) =
    ((z : ℤ) × (value_of (sequential bits) (trip_expression symbols l) u ≡ Ok (Int z)) × (turns_to z ≡ i))
    × (is_positive l.trip ≡ true → 1 ≤ i) × TellTurns bits symbols u ls is

abbrev pub HoldSymbols : List (List ℕ) → (List ℕ → ℤ) → Store → Type 0
HoldSymbols symbols value u =
    (z : List ℕ) → In z symbols → (u.bounds z ≡ Some []) × (u.held (cell_of z) ≡ Int (value z))

-- where the symbols hold their values, the texts of trips that are the same in all turns have the numbers of the last
-- iteration
abbrev pub TextsTell : ℕ → Nest → (Private → List ℕ) → (List ℕ → ℤ) → Type 0
TextsTell bits m lasts value =
    (u : Store) → HoldSymbols m.symbols value u → (p : Private) → In p (private_scalars m) → has_known_end p ≡ true
    → TellTurns bits m.symbols u p.loops (lasts p)

-- two stores that are alike but for the arrays and the private scalars that the program doesn't declare
abbrev pub AreSettled : ℕ → Nest → (Private → List (ℤ × ℤ)) → (Private → List ℕ) → List (List ℕ) → (List ℕ → ℤ)
    → Store → Store → Type 0
AreSettled bits m limits lasts counters value =
    AreSo bits (private_scalars m) limits lasts m.symbols value (λ z. In z counters) (λ p. In p (own_of m)) [] [] []
    (all_at [] (private_scalars m)) (λ p. In p (own_of m))

-- From stores as the loops of the nest and of the expanded one leave them, the last values of the expanded nest meet no
-- fault, and each scalar of the program holds what it holds behind the nest
abbrev pub LastValuesGoOn : Type 0
LastValuesGoOn =
    (bits : ℕ) (m : Nest) (limits : Private → List (ℤ × ℤ)) (lasts : Private → List ℕ) (counters : List (List ℕ))
    (value : List ℕ → ℤ) (trip : List ℕ → Loop → ℕ) (s : State) (u : Store) (n : ℕ)
    → IsExpandable bits m limits lasts counters value trip → TextsTell bits m lasts value → s.way ≡ Going
    → AreAlike bits m limits lasts counters value (private_scalars m) s.store u
    → Led (AreSettled bits m limits lasts counters value) s
    (does_all (sequential bits) None (block (last_values m.symbols m.line (own_of m)))
    (record s { store = u; steps = n }))
