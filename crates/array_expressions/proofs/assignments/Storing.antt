-- All elements of an array assignment are stored, one after the other.
use Rattle.std.proofs.Common.{◌≡◌, refl, sym, ap, ◌∙◌, subst, zero, suc, ℕ, ◌+◌, ◌<◌, ◌≤◌, List, [], ◌∷◌, drop, get_or, length, Result, Ok, Err, Option, arith}
use Rattle.std.proofs.lemmas.List.{at_drop_all, drop_more}
use Rattle.std.specs.List.{AllByRecursion}
use Rattle.tree.specs.declared.ops.Value.{Value}
use Rattle.meaning.specs.Dialect.{fortran90}
use Rattle.tree.specs.declared.width.Width.{Width}
use Rattle.meaning.specs.Store.{Cell}
use Rattle.meaning.specs.Run.{then, for_each, stores, counts_step, stores_element}
use Rattle.machine.specs.Moments.{Seen}
use Rattle.machine.specs.declared.progress.Halt.{Halt}
use Rattle.machine.specs.declared.progress.Left.{Left}
use Rattle.machine.specs.declared.progress.Left.TheVariants.{Halted}
use Rattle.machine.specs.Acts.{LimitedAct, Runs, Does}
use Rattle.machine.proofs.ActLaws.{Runs-then, Runs-halted, Runs-nothing, Stays}
use Rattle.machine.proofs.TurnLaws.{Stays-counts_step}
use Rattle.array_values.specs.declared.storage.slots.Slot.{Slot}
use Rattle.array_values.specs.storage.Slots.{IsWithin, SamePlaces}
use Rattle.array_values.specs.storage.Targets.{place_of}
use Rattle.array_expressions.specs.declared.assignments.moment.Moment.{Moment}
use Rattle.array_expressions.specs.assignments.Moments.{seen, slots_of}
use Rattle.array_expressions.specs.assignments.Placing.{IsAt, CountsAt}
use Rattle.array_expressions.specs.assignments.Planning.{ArePlaced}

abbrev pub left_of : (width : Width) → List (Cell × Value) → LimitedAct
left_of width ws limit = for_each ws (stores_element (fortran90 width) limit)

Stays-all : (width : Width) (ws : List (Cell × Value)) → Stays (left_of width ws)
Stays-all width [] limit s h e = refl
Stays-all width (w ∷ ws) limit s h e = ap (left_of width ws limit) (Stays-counts_step (fortran90 width) (λ limit. stores w.0 w.1) limit s h e) ∙ Stays-all width ws limit s h e

module _ (width : Width) (ws : List (Cell × Value)) (i : ℕ) (d : Cell × Value) (within : i < length ws) (input : List ℕ) (old mid : Seen) (bytes : Option (List ℕ)) where
  abbrev one : LimitedAct
  one limit = stores_element (fortran90 width) limit (get_or ws i d)

  begins : (new : Seen) (r : Result (Unit {0}) Left) → Runs (λ limit. then (one limit) (left_of width (drop (i + 1) ws) limit)) input old bytes new bytes r → Runs (left_of width (drop i ws)) input old bytes new bytes r
  begins new r h = subst (λ ws. Runs (left_of width ws) input old bytes new bytes r) (sym (drop_more ws i d within)) h

  pub element_left : (h : Halt) → Runs one input old bytes mid bytes (Err (Halted h)) → Runs (left_of width (drop i ws)) input old bytes mid bytes (Err (Halted h))
  element_left h r = begins mid (Err (Halted h)) (Runs-halted one (left_of width (drop (i + 1) ws)) input old mid bytes bytes h r (Stays-all width (drop (i + 1) ws)))

  pub element_more : (new : Seen) (r : Result (Unit {0}) Left) → Runs one input old bytes mid bytes (Ok tt) → Runs (left_of width (drop (i + 1) ws)) input mid bytes new bytes r
      → Runs (left_of width (drop i ws)) input old bytes new bytes r
  element_more new r h k = begins new r (Runs-then one (left_of width (drop (i + 1) ws)) input old mid bytes bytes new bytes r h k)

pub elements_done : (width : Width) (ws : List (Cell × Value)) (i : ℕ) (input : List ℕ) (m : Seen) (bytes : Option (List ℕ)) → length ws ≤ i → Runs (left_of width (drop i ws)) input m bytes m bytes (Ok tt)
elements_done width ws i input m bytes l = subst (λ ws. Runs (left_of width ws) input m bytes m bytes (Ok tt)) (sym (at_drop_all (λ ws. ws) ws i l)) (Runs-nothing input m bytes)

-- ---- where they stand

module _ (vs : List Slot) (slot : ℕ) where
  pub placed_count : (ws : List (Cell × Value)) (ks : List ℕ) (xs : List Value) → ArePlaced vs slot ws ks xs → length ws ≡ length ks
  placed_count [] [] [] h = refl
  placed_count [] [] (x ∷ xs) h = absurd h
  placed_count [] (k ∷ ks) xs h = absurd h
  placed_count (w ∷ ws) [] xs h = absurd h
  placed_count (w ∷ ws) (k ∷ ks) [] h = absurd h
  placed_count (w ∷ ws) (k ∷ ks) (x ∷ xs) h = ap suc (placed_count ws ks xs h.2)

  pub placed_at : (ws : List (Cell × Value)) (ks : List ℕ) (xs : List Value) (i : ℕ) (d : Cell × Value) (n : ℕ) (y : Value) → ArePlaced vs slot ws ks xs → i < length ks
      → ((get_or ws i d).1 ≡ get_or xs i y) × IsAt vs (get_or ws i d).0 (place_of slot (get_or ks i n))
  placed_at [] [] xs i d n y h l = absurd (omega arith)
  placed_at [] (k ∷ ks) xs i d n y h l = absurd h
  placed_at (w ∷ ws) [] xs i d n y h l = absurd h
  placed_at (w ∷ ws) (k ∷ ks) [] i d n y h l = absurd h
  placed_at (w ∷ ws) (k ∷ ks) (x ∷ xs) zero d n y h l = (h.0, h.1)
  placed_at (w ∷ ws) (k ∷ ks) (x ∷ xs) (suc i) d n y h l = placed_at ws ks xs i d n y h.2 (omega arith)

  pub within_at : (ks : List ℕ) (i n : ℕ) → AllByRecursion (λ k. IsWithin vs (place_of slot k)) ks → i < length ks → IsWithin vs (place_of slot (get_or ks i n))
  within_at [] i n h l = absurd (omega arith)
  within_at (k ∷ ks) zero n h l = h.0
  within_at (k ∷ ks) (suc i) n h l = within_at ks i n h.1 (omega arith)

pub same_places : (vs : List Slot) → SamePlaces vs vs
same_places vs = record { names = refl; kinds = λ x. refl; places = λ x is. refl; bounds = λ x. refl; within = λ p h. h }

pub places_over : (us vs ws : List Slot) → SamePlaces us vs → SamePlaces vs ws → SamePlaces us ws
places_over us vs ws h k = record {
  names = k.names ∙ h.names;
  kinds = λ x. k.kinds x ∙ h.kinds x;
  places = λ x is. k.places x is ∙ h.places x is;
  bounds = λ x. k.bounds x ∙ h.bounds x;
  within = λ p w. k.within p (h.within p w);
}

-- an element's value is stored where it stands
module _ (width : Width) (vs : List Slot) (slot : ℕ) (ws : List (Cell × Value)) (ks : List ℕ) (xs : List Value) (i : ℕ) (d : Cell × Value) (n : ℕ) (y : Value) (placed : ArePlaced vs slot ws ks xs) (l : i < length ks) (old new : Moment)
    (same : SamePlaces vs (slots_of old)) (r : Result (Unit {0}) Halt) where
  pub put_element : CountsAt width (place_of slot (get_or ks i n)) (get_or xs i y) old new r → Does (λ limit. stores_element (fortran90 width) limit (get_or ws i d)) (seen old) (seen new) r
  put_element h =
      let p = placed_at vs slot ws ks xs i d n y placed l in
      let c = (get_or ws i d).0 in
      subst (λ v. Does (λ limit. counts_step (fortran90 width) limit (stores c v)) (seen old) (seen new) r) (sym p.0)
      (h c (same.places c.name c.subscripts ∙ p.1))
