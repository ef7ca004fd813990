-- Worked array assignments, all at once and one by one.
use Rattle.std.proofs.Common.{◌≡◌, refl, ℕ, ℤ, pos, ◌*ℤ◌, List, [], ◌∷◌, map, Result, Ok, Some}
use Rattle.tree.specs.Plain.{Expression, Logic, Reference, Binary, Section, Subscript}
use Rattle.tree.specs.Steps.{◌>>=◌}
use Rattle.tree.specs.declared.ops.Fault.{Fault}
use Rattle.tree.specs.declared.ops.Op.TheVariants.{Add, Gt}
use Rattle.tree.specs.declared.ops.Value.{Value}
use Rattle.tree.specs.declared.ops.Value.TheVariants.{Int}
use Rattle.std.specs.Prelude.{true}
use Rattle.meaning.specs.ArrayStatements.{axes_named, writes_of}
use Rattle.meaning.specs.Dialect.{fortran90}
use Rattle.tree.specs.declared.width.Width.TheVariants.{Plain}
use Rattle.meaning.specs.Store.{Store}
use Rattle.meaning.proofs.DeckWords.{n, at, part, to_part, cell}
use Rattle.meaning_laws.specs.arrays.Assignments.{elements_assigned}
use Rattle.meaning_laws.specs.arrays.Elements.{cells_read_at}
use Rattle.meaning_laws.specs.arrays.Instances.{puts, in_turn}

-- A(1:4) holds 10, 20, 30 and 40
first_of : List ℤ → ℤ
first_of [] = pos 0
first_of (z ∷ zs) = z

abbrev tens : Store
unfolding first_of
tens = record { bounds = λ x. Some ((pos 1, pos 4) ∷ []); held = λ c. Int (pos 10 *ℤ first_of c.subscripts) }

abbrev span : ℕ → ℕ → Subscript
span a b = Section (n a) (n b) (n 1)

abbrev held_in : Store → List Value
held_in s = map (λ z. s.held (cell "A" (z ∷ []))) (pos 1 ∷ pos 2 ∷ pos 3 ∷ pos 4 ∷ [])

abbrev held_at_once : Expression → Reference → Expression → Result (List Value) Fault
held_at_once mask left right = do
  ws ← writes_of (fortran90 Plain) mask left right tens
  Ok (held_in (puts ws tens))

abbrev held_in_turn : Expression → Reference → Expression → Result (List Value) Fault
held_in_turn mask left right = do
  axes ← axes_named (fortran90 Plain) left tens
  s ← in_turn (elements_assigned (fortran90 Plain) mask left right axes) tens
  Ok (held_in s)

abbrev numbers : List ℕ → List Value
numbers ks = map (λ k. Int (pos k)) ks

-- A(1:3) = A(2:4): no element reads what an earlier one has written
forward_at_once : held_at_once (Logic true) (to_part "A" (span 1 3 ∷ [])) (part "A" (span 2 4 ∷ [])) ≡ Ok (numbers (20 ∷ 30 ∷ 40 ∷ 40 ∷ []))
unfolding first_of
forward_at_once = refl

forward_in_turn : held_in_turn (Logic true) (to_part "A" (span 1 3 ∷ [])) (part "A" (span 2 4 ∷ [])) ≡ Ok (numbers (20 ∷ 30 ∷ 40 ∷ 40 ∷ []))
unfolding first_of
forward_in_turn = refl

-- A(2:4) = A(1:3): each reads what the one before it has written, and so in turn is another store
backward_at_once : held_at_once (Logic true) (to_part "A" (span 2 4 ∷ [])) (part "A" (span 1 3 ∷ [])) ≡ Ok (numbers (10 ∷ 10 ∷ 20 ∷ 30 ∷ []))
unfolding first_of
backward_at_once = refl

backward_in_turn : held_in_turn (Logic true) (to_part "A" (span 2 4 ∷ [])) (part "A" (span 1 3 ∷ [])) ≡ Ok (numbers (10 ∷ 10 ∷ 10 ∷ 10 ∷ []))
unfolding first_of
backward_in_turn = refl

-- WHERE (A(1:4) > 15) A(1:4) = A(1:4) + 1
abbrev above : Expression
above = Binary Gt (part "A" (span 1 4 ∷ [])) (n 15)

abbrev one_more : Expression
one_more = Binary Add (part "A" (span 1 4 ∷ [])) (n 1)

masked_at_once : held_at_once above (to_part "A" (span 1 4 ∷ [])) one_more ≡ Ok (numbers (10 ∷ 21 ∷ 31 ∷ 41 ∷ []))
unfolding first_of
masked_at_once = refl

masked_in_turn : held_in_turn above (to_part "A" (span 1 4 ∷ [])) one_more ≡ Ok (numbers (10 ∷ 21 ∷ 31 ∷ 41 ∷ []))
unfolding first_of
masked_in_turn = refl

-- the third element of A(2:4) + A(4) reads A(4) twice, and no other cell
one_element_read : cells_read_at (fortran90 Plain) (Binary Add (part "A" (span 2 4 ∷ [])) (at "A" (n 4 ∷ []))) (2 ∷ []) tens ≡ cell "A" (pos 4 ∷ []) ∷ cell "A" (pos 4 ∷ []) ∷ []
unfolding first_of
one_element_read = refl
