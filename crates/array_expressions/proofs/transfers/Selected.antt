-- The cells of a name, and where they stand.
use Rattle.std.proofs.Common.{◌≡◌, refl, sym, ap, ◌∙◌, subst, zero, suc, ℕ, ℤ, ◌<◌, List, [], ◌∷◌, map, get_or, length, Result, Ok, Err, Some, arith}
use Rattle.std.specs.List.{AllByRecursion}
use Rattle.tree.specs.Steps.{◌>>=◌}
use Rattle.tree.specs.declared.ops.Fault.{Fault}
use Rattle.meaning.specs.Dialect.{fortran90}
use Rattle.tree.specs.declared.width.Width.{Width}
use Rattle.meaning.specs.Store.{Store, Cell, stored_bounds, cells_of, column_major, numbers_from, size_of}
use Rattle.meaning.specs.Sections.{Axis, numbers_of, whole_axes}
use Rattle.meaning.specs.Extents.{elements_of}
use Rattle.meaning.specs.Run.{reads_into}
use Rattle.machine.specs.declared.progress.Halt.{Halt}
use Rattle.machine.specs.declared.progress.Halt.TheVariants.{Fault as Fault'}
use Rattle.machine.specs.Moments.{located}
use Rattle.machine.specs.Reading.{all_cells}
use Rattle.machine.specs.Statements.{DoesOver}
use Rattle.machine.specs.Storage.{offset}
use Rattle.machine.proofs.StoreLaws.{offset_below}
use Rattle.array_values.specs.declared.failure.Failure.{Failure}
use Rattle.array_values.specs.declared.failure.Failure.TheVariants as failure
use Rattle.array_values.specs.storage.array_places.Places.{somes}
use Rattle.array_values.specs.declared.storage.slots.Slot.{Slot}
use Rattle.array_values.specs.declared.storage.targets.Target.{Target}
use Rattle.array_values.specs.storage.Slots.{IsWithin, place_among, SamePlaces}
use Rattle.array_values.specs.storage.Targets.{Targets, IsTarget, axes_within, all_of, place_of}
use Rattle.array_expressions.specs.declared.assignments.causes.Stuck.{Stuck}
use Rattle.array_expressions.specs.declared.assignments.causes.Stuck.TheVariants.{Halted, Memory}
use Rattle.array_expressions.specs.declared.assignments.moment.Moment.{Moment}
use Rattle.array_expressions.specs.assignments.Causes.{at_line, AnswersAt}
use Rattle.array_expressions.specs.assignments.Moments.{seen, slots_of}
use Rattle.array_expressions.specs.assignments.Placing.{IsAt}
use Rattle.array_expressions.specs.transfers.Reading.{StandAt, AreWithin, ReadsAt}

abbrev cell : List ℕ → List ℤ → Cell
cell x is = record { name = x; subscripts = is }

whole_numbers : (bs : List (ℤ × ℤ)) → map numbers_of (whole_axes bs) ≡ map (λ b. numbers_from b.0 (size_of b)) bs
whole_numbers [] = refl
whole_numbers (b ∷ bs) = ap (λ xs. numbers_from b.0 (size_of b) ∷ xs) (whole_numbers bs)

module _ (vs : List Slot) (x : List ℕ) (slot : ℕ) (bs : List (ℤ × ℤ)) where
  stand_all : ((is : List ℤ) (k : ℕ) → offset bs is ≡ Some k → place_among vs x is ≡ Some (place_of slot k)) → (rs : List (List ℤ)) (ks : List ℕ) → map (offset bs) rs ≡ somes ks → StandAt vs slot (map (cell x) rs) ks
  stand_all at [] [] e = tt
  stand_all at [] (k ∷ ks) e = cc
  stand_all at (r ∷ rs) [] e = cc
  stand_all at (r ∷ rs) (k ∷ ks) e = (at r k (let first : offset bs r ≡ Some k = cc in first), stand_all at rs ks (let more : map (offset bs) rs ≡ somes ks = cc in more))

  within_all : ((k : ℕ) → k < elements_of bs → IsWithin vs (place_of slot k)) → (rs : List (List ℤ)) (ks : List ℕ) → map (offset bs) rs ≡ somes ks → AllByRecursion (λ k. IsWithin vs (place_of slot k)) ks
  within_all h [] [] e = tt
  within_all h [] (k ∷ ks) e = cc
  within_all h (r ∷ rs) [] e = cc
  within_all h (r ∷ rs) (k ∷ ks) e = (h k (offset_below bs r k (let first : offset bs r ≡ Some k = cc in first)), within_all h rs ks (let more : map (offset bs) rs ≡ somes ks = cc in more))

module _ (line : ℕ) (vs : List Slot) (x : List ℕ) (s : Store) where
  no_cells : (q : Result (List (ℤ × ℤ)) Fault) (f : Fault) → ◌≡◌ {A = Result (List Axis) Fault} (do bs ← q; all_of bs) (Err f) → ◌≡◌ {A = Result (List Cell) Fault} (do bs ← q; Ok (cells_of x bs)) (Err f)
  no_cells (Ok bs) f e = cc
  no_cells (Err g) f e = (let same : g ≡ f = cc in ap (λ (f : Fault). let r : Result (List Cell) Fault = Err f in r) same)

  pub cells_stuck : (r : Result Target Failure) (e : Stuck) → Err e ≡ at_line line r → Targets vs x (axes_within all_of x s) r → AnswersAt line (λ (cs : List Cell). cs) (all_cells x s) (Err e)
  cells_stuck (Ok t) e g h = cc
  cells_stuck (Err (failure.Fault f)) e g h = (let same : Halted (Fault' f line) ≡ e = cc in subst (λ e. AnswersAt line (λ (cs : List Cell). cs) (all_cells x s) (Err e)) same (sym (ap (located line) (no_cells (stored_bounds x s) f h))))
  cells_stuck (Err failure.Memory) e g h = (let same : Memory ≡ e = cc in subst (λ e. AnswersAt line (λ (cs : List Cell). cs) (all_cells x s) (Err e)) same tt)

  abbrev Given : Target → Type 0
  Given t = ((cs : List Cell) × (all_cells x s ≡ Ok cs) × StandAt vs t.slot cs t.selected.places) × AreWithin vs t

  these_cells : (q : Result (List (ℤ × ℤ)) Fault) → stored_bounds x s ≡ q → (t : Target) (axes : List Axis) → ◌≡◌ {A = Result (List Axis) Fault} (do bs ← q; all_of bs) (Ok axes) → IsTarget vs x axes t → Given t
  these_cells (Err f) b t axes e h = cc
  these_cells (Ok bs) b t axes e h =
      let same : whole_axes bs ≡ axes = cc in
      let places : map (offset h.bounds) (column_major (map (λ (b : ℤ × ℤ). numbers_from b.0 (size_of b)) bs)) ≡ somes t.selected.places =
      ap (λ ns. map (offset h.bounds) (column_major ns)) (sym (whole_numbers bs) ∙ ap (map numbers_of) same) ∙ h.selected.places in
      ((cells_of x bs, ap (λ (q : Result (List (ℤ × ℤ)) Fault). do bs ← q; Ok (cells_of x bs)) b, stand_all vs x t.slot h.bounds h.places _ t.selected.places places), within_all vs x t.slot h.bounds h.within _ t.selected.places places)

  pub cells_given : (r : Result Target Failure) (t : Target) → Ok t ≡ at_line line r → Targets vs x (axes_within all_of x s) r → Given t
  cells_given (Ok u) t g h = (let same : u ≡ t = cc in subst Given same (these_cells (stored_bounds x s) refl u h.axes h.are h.target))
  cells_given (Err (failure.Fault f)) t g h = cc
  cells_given (Err failure.Memory) t g h = cc

module _ (width : Width) (vs : List Slot) (slot : ℕ) where
  pub stand_count : (cs : List Cell) (ks : List ℕ) → StandAt vs slot cs ks → length cs ≡ length ks
  stand_count [] [] h = refl
  stand_count [] (k ∷ ks) h = absurd h
  stand_count (c ∷ cs) [] h = absurd h
  stand_count (c ∷ cs) (k ∷ ks) h = ap suc (stand_count cs ks h.1)

  stand_at : (cs : List Cell) (ks : List ℕ) (i : ℕ) (d : Cell) (n : ℕ) → StandAt vs slot cs ks → i < length ks → IsAt vs (get_or cs i d) (place_of slot (get_or ks i n))
  stand_at [] [] i d n h l = absurd (omega arith)
  stand_at [] (k ∷ ks) i d n h l = absurd h
  stand_at (c ∷ cs) [] i d n h l = absurd h
  stand_at (c ∷ cs) (k ∷ ks) zero d n h l = h.0
  stand_at (c ∷ cs) (k ∷ ks) (suc i) d n h l = stand_at cs ks i d n h.1 (omega arith)

  pub read_element : (input : List ℕ) (line : ℕ) (cs : List Cell) (ks : List ℕ) (i : ℕ) (d : Cell) (n : ℕ) → StandAt vs slot cs ks → i < length ks → (old new : Moment) → SamePlaces vs (slots_of old) → (r : Result (Unit {0}) Halt)
      → ReadsAt width input line (place_of slot (get_or ks i n)) old new r → DoesOver input (λ limit. reads_into (fortran90 width) limit line (get_or cs i d)) (seen old) (seen new) r
  read_element input line cs ks i d n h l old new same r read =
      let c = get_or cs i d in
      read c (same.places c.name c.subscripts ∙ stand_at cs ks i d n h l)
