-- Trips can be counted after each move that is allowed.
use Rattle.std.proofs.Common.{◌≡◌, refl, sym, ap, ◌∙◌, subst, ◌⊎◌, inl, inr, ℕ, zero, suc, ◌-◌, ◌<◌, ◌≤◌, ℤ, pos, negsuc, ◌-ℤ◌, ◌+ℤ◌, Bool, true, false, ◌||◌, cond, Ok, Err, List, [], ◌∷◌, ◌++◌, length, map, arith}
use Rattle.std.specs.Prelude.{int_div, slice_get, slice_index, slice_range}
use Rattle.std.specs.List.{list_all}
use Rattle.std.proofs.lemmas.Int.{ints}
use Rattle.tree.specs.Operators.{fits}
use Rattle.tree.specs.Steps.{◌>>=◌}
use Rattle.tree.specs.declared.ops.Fault.TheVariants.{Overflow, TripCount}
use Rattle.meaning.specs.Value.{as_count, exact, trip_count}
use Rattle.subscripts.specs.declared.affine.Span.{Span}
use Rattle.nest.specs.declared.parts.Trip.{Trip}
use Rattle.nest_order.specs.facts.Facts.{counted}
use Rattle.nest_order.specs.orders.Lists.{Each}
use Rattle.nest_order.proofs.runs.Ending.{count_from_one, turns_to}
use Rattle.emission.proofs.EmissionForms.FormsGiven.{by_one}
use Rattle.rewrite.proofs.Values.{joined}
use Rattle.interchange.specs.Moves.{IsAllowed, LeadTo, Move, moves_to}
use Rattle.interchange.specs.Orders.{has_constant, has_turn, is_count, may_move, same_trip}
use Rattle.interchange.proofs.Moving.{Parted, first_passed, moved_parts, mover, parted, passed}
use Rattle.interchange_laws.specs.runs.Counted.{AreCountable, IsCountable}
use Rattle.interchange_laws.proofs.runs.Counted.{moved}
use Rattle.prepared_passes.proofs.ArrangedNests.Vectors.{and_both}

-- ---- a number that may be a count is counted

exact-fits : (z : ℤ) → fits 127 z ≡ true → exact z ≡ Ok z
exact-fits z h = ap (λ b. cond b (Ok z) (Err Overflow)) h

back : (t : ℤ) → (t -ℤ pos 1) +ℤ pos 1 ≡ t
back t = omega (arith, ints)

counts_by_one : (t : ℤ) (n : ℕ) → fits 127 t ≡ true → fits 127 (t -ℤ pos 1) ≡ true → as_count t ≡ Ok n → trip_count (pos 1) t (pos 1) ≡ Ok n
counts_by_one t n wide less h =
    joined (exact (t -ℤ pos 1)) (λ x. do y ← exact (x +ℤ pos 1); q ← exact (int_div y (pos 1)); as_count q) (t -ℤ pos 1) n (exact-fits (t -ℤ pos 1) less)
    (joined (exact ((t -ℤ pos 1) +ℤ pos 1)) (λ y. do q ← exact (int_div y (pos 1)); as_count q) t n (ap exact (back t) ∙ exact-fits t wide)
    (joined (exact (int_div t (pos 1))) (λ q. as_count q) t n (ap exact (by_one t) ∙ exact-fits t wide) h))

as_counted : (z : ℤ) → is_count z ≡ true → as_count z ≡ Ok (counted z)
as_counted (pos k) e = ap (λ b. cond b (Ok k) (Err TripCount)) e ∙ ap Ok (sym (ap (λ b. cond b k 0) e))
as_counted (negsuc k) e = refl

pub countable_number : (z : ℤ) → fits 127 z ≡ true → fits 127 (z -ℤ pos 1) ≡ true → is_count z ≡ true → trip_count (pos 1) z (pos 1) ≡ Ok (counted z)
countable_number z wide less e = counts_by_one z (counted z) wide less (as_counted z e)

turn_of : (z : ℤ) (n : ℕ) → has_turn z ≡ true → n ≡ turns_to z → 1 ≤ n
turn_of (pos zero) n e f = cc
turn_of (pos (suc k)) n e f = omega arith
turn_of (negsuc k) n e f = cc

-- ---- moves

map_append : (f : ℕ → ℕ) (xs ys : List ℕ) → map f (xs ++ ys) ≡ map f xs ++ map f ys
map_append f [] ys = refl
map_append f (x ∷ xs) ys = ap (λ zs. f x ∷ zs) (map_append f xs ys)

-- number: of the loop at a place of the nest as it is given
module _ (trips : List Trip) (spans : List Span) (top : ℕ → ℤ) (turns : ℕ → ℕ) (number : ℕ → ℕ)
    (constants : (k : ℕ) → has_constant is_count (slice_get spans k) ≡ true → IsCountable top turns (number k))
    (turning : (k : ℕ) → has_constant has_turn (slice_get spans k) ≡ true → has_turn (top (number k)) ≡ true)
    (equal : (j k : ℕ) → same_trip (slice_get trips j) (slice_get trips k) ≡ true → IsCountable top turns (number j) → IsCountable top turns (number k)) where
  abbrev C : ℕ → Type 0
  C = IsCountable top turns

  each_turns : (ks : List ℕ) → list_all (λ k. has_constant has_turn (slice_get spans k)) ks ≡ true → Each (λ x. C x → 1 ≤ turns x) (map number ks)
  each_turns [] e = tt
  each_turns (k ∷ ks) e =
      let h = and_both (has_constant has_turn (slice_get spans k)) (list_all (λ j. has_constant has_turn (slice_get spans j)) ks) e in
      ((λ c. turn_of (top (number k)) (turns (number k)) (turning k h.0) (count_from_one (top (number k)) (turns (number k)) c)), each_turns ks h.1)

  whole : (outer over : List ℕ) (item : ℕ) (rest : List ℕ) → map number (outer ++ (over ++ item ∷ rest)) ≡ map number outer ++ (map number over ++ number item ∷ map number rest)
  whole outer over item rest = map_append number outer (over ++ item ∷ rest) ∙ ap (λ zs. map number outer ++ zs) (map_append number over (item ∷ rest))

  after : (outer over : List ℕ) (item : ℕ) (rest : List ℕ) → map number (outer ++ (item ∷ (over ++ rest))) ≡ map number outer ++ (number item ∷ (map number over ++ map number rest))
  after outer over item rest = map_append number outer (item ∷ (over ++ rest)) ∙ ap (λ zs. map number outer ++ (number item ∷ zs)) (map_append number over rest)

  step : (order : List ℕ) (m : Move) → IsAllowed trips spans order m → AreCountable top turns (map number order) → AreCountable top turns (map number (moves_to m order))
  step order m a h =
      let low : m.to ≤ m.from = (let e : m.to < m.from = a.outwards in omega arith) in
      let d : Parted order m.to m.from = parted order m.to m.from low a.inside in
      let old : AreCountable top turns (map number d.outer ++ (map number d.over ++ number d.item ∷ map number d.back)) =
      subst (AreCountable top turns) (ap (map number) d.is ∙ whole d.outer d.over d.item d.back) h in
      subst (AreCountable top turns) (sym (ap (map number) (moved_parts m.to m.from order low a.inside) ∙ after d.outer d.over d.item d.back))
      (moved top turns (map number d.outer) (map number d.over) (number d.item) (map number d.back) (may low d.over refl a.may) old)
    where
      may : (low : m.to ≤ m.from) (over : List ℕ) → (parted order m.to m.from low a.inside).over ≡ over → may_move trips spans order m.to m.from ≡ true
          → C (number (parted order m.to m.from low a.inside).item) ⊎ (((x : ℕ) × (ys : List ℕ) × (map number (parted order m.to m.from low a.inside).over ≡ x ∷ ys) × (C x → C (number (parted order m.to m.from low a.inside).item)))
          ⊎ Each (λ x. C x → 1 ≤ turns x) (map number (parted order m.to m.from low a.inside).over))
      may low over e f = by (has_constant is_count (slice_get spans (slice_index order m.from))) refl f
        where
          item_is : slice_index order m.from ≡ (parted order m.to m.from low a.inside).item
          item_is = mover m.to m.from order low a.inside

          equal_trip : (over : List ℕ) → (parted order m.to m.from low a.inside).over ≡ over → same_trip (slice_get trips (slice_index order m.to)) (slice_get trips (slice_index order m.from)) ≡ true
              → (x : ℕ) × (ys : List ℕ) × (map number (parted order m.to m.from low a.inside).over ≡ x ∷ ys) × (C x → C (number (parted order m.to m.from low a.inside).item))
          equal_trip [] e g = absurd (let l : length (parted order m.to m.from low a.inside).over ≡ m.from - m.to = (parted order m.to m.from low a.inside).between in let z = ap length e in let less : m.to < m.from = a.outwards in omega arith)
          equal_trip (x ∷ ys) e g = (
            number x,
            map number ys,
            ap (map number) e,
            λ c. subst (λ k. C (number k)) item_is (equal (slice_index order m.to) (slice_index order m.from) g (subst (λ k. C (number k)) (sym (first_passed m.to m.from order low a.inside x ys e)) c)),
          )

          by : (b : Bool) → has_constant is_count (slice_get spans (slice_index order m.from)) ≡ b
              → b || (same_trip (slice_get trips (slice_index order m.to)) (slice_get trips (slice_index order m.from)) || list_all (λ k. has_constant has_turn (slice_get spans k)) (slice_range order m.to m.from)) ≡ true
              → C (number (parted order m.to m.from low a.inside).item) ⊎ (((x : ℕ) × (ys : List ℕ) × (map number (parted order m.to m.from low a.inside).over ≡ x ∷ ys) × (C x → C (number (parted order m.to m.from low a.inside).item)))
              ⊎ Each (λ x. C x → 1 ≤ turns x) (map number (parted order m.to m.from low a.inside).over))
          by true g h = inl (subst (λ k. C (number k)) item_is (constants (slice_index order m.from) g))
          by false g h = more (same_trip (slice_get trips (slice_index order m.to)) (slice_get trips (slice_index order m.from))) refl h
            where
              more : (b : Bool) → same_trip (slice_get trips (slice_index order m.to)) (slice_get trips (slice_index order m.from)) ≡ b
                  → b || list_all (λ k. has_constant has_turn (slice_get spans k)) (slice_range order m.to m.from) ≡ true
                  → C (number (parted order m.to m.from low a.inside).item) ⊎ (((x : ℕ) × (ys : List ℕ) × (map number (parted order m.to m.from low a.inside).over ≡ x ∷ ys) × (C x → C (number (parted order m.to m.from low a.inside).item)))
                  ⊎ Each (λ x. C x → 1 ≤ turns x) (map number (parted order m.to m.from low a.inside).over))
              more true g h = inr (inl (equal_trip over e g))
              more false g h = inr (inr (subst (λ ks. Each (λ x. C x → 1 ≤ turns x) (map number ks)) (passed m.to m.from order low a.inside) (each_turns (slice_range order m.to m.from) h)))

  pub moves_counted : (ms : List Move) (order last : List ℕ) → LeadTo trips spans ms order last → AreCountable top turns (map number order) → AreCountable top turns (map number last)
  moves_counted [] order last h c = subst (λ o. AreCountable top turns (map number o)) h c
  moves_counted (m ∷ ms) order last h c = moves_counted ms (moves_to m order) last h.1 (step order m h.0 c)
