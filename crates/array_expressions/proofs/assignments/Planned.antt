-- What an array assignment stores, stage by stage.
use Rattle.std.proofs.Common.{◌≡◌, refl, sym, ap, ◌∙◌, subst, suc, ℕ, ℤ, ◌<◌, List, [], ◌∷◌, map, length, Result, Ok, Err, Some}
use Rattle.std.specs.List.{AllByRecursion}
use Rattle.tree.specs.Steps.{◌>>=◌}
use Rattle.tree.specs.Plain as P
use Rattle.tree.specs.View.{subscript_of, reference_of}
use Rattle.tree.specs.declared.exprs.Ref.{Ref, out-Ref}
use Rattle.tree.specs.declared.exprs.Sub.{Sub}
use Rattle.tree.specs.declared.ops.Value.{Value}
use Rattle.tree.specs.declared.ops.Fault.{Fault}
use Rattle.tree.proofs.Equations.{reference_of-is}
use Rattle.meaning.specs.Dialect.{fortran90}
use Rattle.tree.specs.declared.width.Width.{Width}
use Rattle.meaning.specs.Store.{Store, Cell, stored_bounds}
use Rattle.meaning.specs.Value.{array_of, selectors}
use Rattle.meaning.specs.ArrayValues.{Elements, conform}
use Rattle.meaning.specs.ArrayStatements.{axes_named, writes_of, second}
use Rattle.meaning.specs.Sections.{Axis, Selector, extents_of, axes_selected}
use Rattle.meaning.specs.Extents.{elements_of}
use Rattle.machine.specs.Storage.{offset}
use Rattle.machine.proofs.StoreLaws.{offset_below}
use Rattle.array_values.specs.declared.failure.Failure.{Failure}
use Rattle.array_values.specs.declared.failure.Failure.TheVariants as failure
use Rattle.array_values.specs.declared.sections.Selector.{Selector as Selector'}
use Rattle.array_values.specs.declared.prepared.Prepared.{Prepared}
use Rattle.array_values.specs.Answers.{Answers}
use Rattle.array_values.specs.Arrays.{elements_in}
use Rattle.array_values.specs.Positions.{wider}
use Rattle.array_values.specs.Selections.{selector_in}
use Rattle.array_values.specs.declared.storage.array_places.writes.Writes.{Writes}
use Rattle.array_values.specs.storage.array_places.Places.{somes}
use Rattle.array_values.specs.storage.array_places.Writing.{stored_under, Stores as Stored}
use Rattle.array_values.specs.declared.storage.slots.Slot.{Slot}
use Rattle.array_values.specs.declared.storage.targets.Target.{Target}
use Rattle.array_values.specs.storage.Slots.{IsWithin, place_among}
use Rattle.array_values.specs.storage.Targets.{Targets, TargetsThese, axes_within, all_of, part_of, place_of}
use Rattle.array_expressions.specs.declared.assignments.arrays.Plan.{Plan}
use Rattle.array_expressions.specs.assignments.Planning.{ArePlaced, IsSound, Plans}

-- ---- what the left side selects

module _ (width : Width) (vs : List Slot) (s : Store) (r : Ref) where
  abbrev name : List ℕ
  name = (out-Ref r).name

  abbrev subs : P.Subscripts
  subs = P.subscripts (map subscript_of (out-Ref r).subs)

  plain : P.Reference
  plain = record { name = name; subscripts = subs }

  at_reference : (q : Result Target Failure) → Targets vs name (axes_named (fortran90 width) (record { name = name; subscripts = subs }) s) q
      → Targets vs (reference_of r).name (axes_named (fortran90 width) (reference_of r) s) q
  at_reference q h = subst (λ (p : P.Reference). Targets vs p.name (axes_named (fortran90 width) p s) q) (sym (reference_of-is r)) h

  pub all_selected : (q : Result Target Failure) → (out-Ref r).subs ≡ [] → Targets vs name (axes_within all_of name s) q
      → Targets vs (reference_of r).name (axes_named (fortran90 width) (reference_of r) s) q
  all_selected q e h = at_reference q (subst (λ ss. Targets vs name (axes_named (fortran90 width) (record { name = name; subscripts = P.subscripts (map subscript_of ss) }) s) q) (sym e) h)

  axes_part : (ss : List Sub) → (ss ≡ [] → ⊥) → (q : Result (List Selector) Fault)
      → ◌≡◌ {A = Result (List Axis) Fault} (do zs ← q; bs ← stored_bounds name s; axes_selected (P.subscripts (map subscript_of ss)) bs zs) (do zs ← q; axes_within (part_of zs) name s)
  axes_part [] n q = absurd (n refl)
  axes_part (p ∷ ps) n q = refl

  pub part_fails : (e : Failure) → ((out-Ref r).subs ≡ [] → ⊥) → Answers (λ (zs : List Selector'). map selector_in zs) (selectors (fortran90 width) subs s) (Err e)
      → Targets vs (reference_of r).name (axes_named (fortran90 width) (reference_of r) s) (Err e)
  part_fails (failure.Fault f) n h = at_reference (Err (failure.Fault f)) (ap (λ (q : Result (List Selector) Fault). do zs ← q; bs ← stored_bounds name s; axes_selected subs bs zs) h)
  part_fails failure.Memory n h = at_reference (Err failure.Memory) tt

  pub part_selected : (zs : List Selector) (q : Result Target Failure) → ((out-Ref r).subs ≡ [] → ⊥) → selectors (fortran90 width) subs s ≡ Ok zs → Targets vs name (axes_within (part_of zs) name s) q
      → Targets vs (reference_of r).name (axes_named (fortran90 width) (reference_of r) s) q
  part_selected zs q n e h = at_reference q
      (subst (λ a. Targets vs name a q) (sym (axes_part (out-Ref r).subs n (selectors (fortran90 width) subs s) ∙ ap (λ (q : Result (List Selector) Fault). do zs ← q; axes_within (part_of zs) name s) e)) h)

-- ---- the places of what is stored

module _ (vs : List Slot) (x : List ℕ) (slot : ℕ) (bs : List (ℤ × ℤ)) (at : (is : List ℤ) (k : ℕ) → offset bs is ≡ Some k → place_among vs x is ≡ Some (place_of slot k)) where
  all_placed : (ws : List (Cell × Value)) (ks : List ℕ) (xs : List Value) → AllByRecursion (λ (p : Cell × Value). p.0.name ≡ x) ws
      → map (λ (p : Cell × Value). offset bs p.0.subscripts) ws ≡ somes ks → map second ws ≡ xs → ArePlaced vs slot ws ks xs
  all_placed [] [] [] n e f = tt
  all_placed [] [] (v ∷ xs) n e f = cc
  all_placed [] (k ∷ ks) xs n e f = cc
  all_placed (w ∷ ws) [] xs n e f = cc
  all_placed (w ∷ ws) (k ∷ ks) [] n e f = cc
  all_placed (w ∷ ws) (k ∷ ks) (v ∷ xs) n e f = (
    (let same : w.1 ≡ v = cc in same),
    ap (λ y. place_among vs y w.0.subscripts) n.0 ∙ at w.0.subscripts k (let same : offset bs w.0.subscripts ≡ Some k = cc in same),
    all_placed ws ks xs n.1 (let more : map (λ (p : Cell × Value). offset bs p.0.subscripts) ws ≡ somes ks = cc in more) (let more : map second ws ≡ xs = cc in more),
  )

  all_counted : (ws : List (Cell × Value)) (ks : List ℕ) (xs : List Value) → map (λ (p : Cell × Value). offset bs p.0.subscripts) ws ≡ somes ks → map second ws ≡ xs → length xs ≡ length ks
  all_counted [] [] [] e f = refl
  all_counted [] [] (v ∷ xs) e f = cc
  all_counted [] (k ∷ ks) xs e f = cc
  all_counted (w ∷ ws) [] xs e f = cc
  all_counted (w ∷ ws) (k ∷ ks) [] e f = cc
  all_counted (w ∷ ws) (k ∷ ks) (v ∷ xs) e f = ap suc (all_counted ws ks xs (let more : map (λ (p : Cell × Value). offset bs p.0.subscripts) ws ≡ somes ks = cc in more) (let more : map second ws ≡ xs = cc in more))

  all_within : ((k : ℕ) → k < elements_of bs → IsWithin vs (place_of slot k)) → (ws : List (Cell × Value)) (ks : List ℕ)
      → map (λ (p : Cell × Value). offset bs p.0.subscripts) ws ≡ somes ks → AllByRecursion (λ k. IsWithin vs (place_of slot k)) ks
  all_within h [] [] e = tt
  all_within h [] (k ∷ ks) e = cc
  all_within h (w ∷ ws) [] e = cc
  all_within h (w ∷ ws) (k ∷ ks) e = (
    h k (offset_below bs w.0.subscripts k (let same : offset bs w.0.subscripts ≡ Some k = cc in same)),
    all_within h ws ks (let more : map (λ (p : Cell × Value). offset bs p.0.subscripts) ws ≡ somes ks = cc in more),
  )

-- ---- the stages

module _ (width : Width) (vs : List Slot) (mask : P.Expression) (left : P.Reference) (right : P.Expression) (s : Store) where
  abbrev rest_of_right : Elements Value → List Axis → List ℕ → Elements Value → Result (List (Cell × Value)) Fault
  rest_of_right m axes ns g = do _ ← conform ns g.extents; stored_under (fortran90 width) m left.name axes g

  abbrev rest_of_left : Elements Value → List Axis → List ℕ → Result (List (Cell × Value)) Fault
  rest_of_left m axes ns = do g ← array_of (fortran90 width) right s; rest_of_right m axes ns g

  abbrev rest_of_axes : Elements Value → List Axis → Result (List (Cell × Value)) Fault
  rest_of_axes m axes = do ns ← conform m.extents (extents_of axes); rest_of_left m axes ns

  abbrev rest_of_mask : Elements Value → Result (List (Cell × Value)) Fault
  rest_of_mask m = do axes ← axes_named (fortran90 width) left s; rest_of_axes m axes

  abbrev Planned : Result Plan Failure → Type 0
  Planned r = Plans vs (writes_of (fortran90 width) mask left right s) r

  -- a stage has failed
  fails : {A B : Type 0} (view : B → A) (q : Result A Fault) (k : A → Result (List (Cell × Value)) Fault) (e : Failure) → Answers view q (Err e) → Plans vs (q >>= k) (Err e)
  fails view q k (failure.Fault f) h = ap (λ r. r >>= k) h
  fails view q k failure.Memory h = tt

  -- a stage has given this
  goes : {A : Type 0} (q : Result A Fault) (k : A → Result (List (Cell × Value)) Fault) (x : A) (r : Result Plan Failure) → q ≡ Ok x → Plans vs (k x) r → Plans vs (q >>= k) r
  goes q k x r e h = subst (λ q. Plans vs (q >>= k) r) (sym e) h

  pub mask_fails : (e : Failure) → Answers elements_in (array_of (fortran90 width) mask s) (Err e) → Planned (Err e)
  mask_fails e h = fails elements_in (array_of (fortran90 width) mask s) rest_of_mask e h

  module _ (m : Prepared) (masked : array_of (fortran90 width) mask s ≡ Ok (elements_in m)) where
    with_mask : (r : Result Plan Failure) → Plans vs (rest_of_mask (elements_in m)) r → Planned r
    with_mask r h = goes (array_of (fortran90 width) mask s) rest_of_mask (elements_in m) r masked h

    pub left_fails : (e : Failure) → Targets vs left.name (axes_named (fortran90 width) left s) (Err e) → Planned (Err e)
    left_fails (failure.Fault f) h = with_mask (Err (failure.Fault f)) (ap (λ r. r >>= rest_of_axes (elements_in m)) h)
    left_fails failure.Memory h = tt

    module _ (t : Target) (targeted : TargetsThese vs left.name (axes_named (fortran90 width) left s) t) where
      with_left : (r : Result Plan Failure) → Plans vs (rest_of_axes (elements_in m) targeted.axes) r → Planned r
      with_left r h = with_mask r (goes (axes_named (fortran90 width) left s) (rest_of_axes (elements_in m)) targeted.axes r targeted.are h)

      at_extents : (ns : List ℕ) → ns ≡ t.selected.extents → ns ≡ extents_of targeted.axes
      at_extents ns e = e ∙ targeted.target.selected.extents

      pub mask_unshaped : (ms ns : List ℕ) (f : Fault) → ms ≡ (elements_in m).extents → ns ≡ t.selected.extents → conform ms ns ≡ Err f → Planned (Err (failure.Fault f))
      mask_unshaped ms ns f d e h = with_left (Err (failure.Fault f))
          (ap (λ r. r >>= rest_of_left (elements_in m) targeted.axes)
          (ap (λ xs. conform xs (extents_of targeted.axes)) (sym d) ∙ ap (conform ms) (sym (at_extents ns e)) ∙ h))

      module _ (ms ns : List ℕ) (d : ms ≡ (elements_in m).extents) (e : ns ≡ t.selected.extents) (shaped : conform ms ns ≡ Ok (wider ms ns)) where
        with_shape : (r : Result Plan Failure) → Plans vs (rest_of_left (elements_in m) targeted.axes (wider ms ns)) r → Planned r
        with_shape r h = with_left r (goes (conform (elements_in m).extents (extents_of targeted.axes)) (rest_of_left (elements_in m) targeted.axes) (wider ms ns) r
            (ap (λ xs. conform xs (extents_of targeted.axes)) (sym d) ∙ ap (conform ms) (sym (at_extents ns e)) ∙ shaped) h)

        pub right_fails : (x : Failure) → Answers elements_in (array_of (fortran90 width) right s) (Err x) → Planned (Err x)
        right_fails x h = with_shape (Err x) (fails elements_in (array_of (fortran90 width) right s) (rest_of_right (elements_in m) targeted.axes (wider ms ns)) x h)

        module _ (g : Prepared) (righted : array_of (fortran90 width) right s ≡ Ok (elements_in g)) (ws gs : List ℕ) (b : ws ≡ wider ms ns) (c : gs ≡ (elements_in g).extents) where
          with_right : (r : Result Plan Failure) → Plans vs (rest_of_right (elements_in m) targeted.axes (wider ms ns) (elements_in g)) r → Planned r
          with_right r h = with_shape r (goes (array_of (fortran90 width) right s) (rest_of_right (elements_in m) targeted.axes (wider ms ns)) (elements_in g) r righted h)

          same_shape : conform (wider ms ns) (elements_in g).extents ≡ conform ws gs
          same_shape = ap (λ xs. conform xs (elements_in g).extents) (sym b) ∙ ap (conform ws) (sym c)

          pub right_unshaped : (f : Fault) → conform ws gs ≡ Err f → Planned (Err (failure.Fault f))
          right_unshaped f h = with_right (Err (failure.Fault f)) (ap (λ (r : Result (List ℕ) Fault). do _ ← r; stored_under (fortran90 width) (elements_in m) left.name targeted.axes (elements_in g)) (same_shape ∙ h))

          module _ (os : List ℕ) (fits : conform ws gs ≡ Ok os) where
            with_all : (r : Result Plan Failure) → Plans vs (stored_under (fortran90 width) (elements_in m) left.name targeted.axes (elements_in g)) r → Planned r
            with_all r h = with_right r (goes (conform (wider ms ns) (elements_in g).extents) (λ _. stored_under (fortran90 width) (elements_in m) left.name targeted.axes (elements_in g)) os r (same_shape ∙ fits) h)

            abbrev all_stored : Result Writes Failure → Type 0
            all_stored q = Stored targeted.target.bounds left.name (stored_under (fortran90 width) (elements_in m) left.name targeted.axes (elements_in g)) q

            pub writes_fail : (x : Failure) → all_stored (Err x) → Planned (Err x)
            writes_fail (failure.Fault f) h = with_all (Err (failure.Fault f)) h
            writes_fail failure.Memory h = tt

            pub plan_is : (p : Plan) → p.slot ≡ t.slot → all_stored (Ok p.writes) → Planned (Ok p)
            plan_is p u h = with_all (Ok p) (
              h.writes,
              h.are,
              all_placed vs left.name p.slot targeted.target.bounds (λ is k e. targeted.target.places is k e ∙ ap (λ i. Some (place_of i k)) (sym u))
                  h.writes p.writes.places p.writes.values h.stored.names h.stored.places h.stored.values,
            )

            pub plan_sound : (p : Plan) → p.slot ≡ t.slot → all_stored (Ok p.writes) → IsSound vs p
            plan_sound p u h = record {
              count = all_counted vs left.name p.slot targeted.target.bounds (λ is k e. targeted.target.places is k e ∙ ap (λ i. Some (place_of i k)) (sym u))
                  h.writes p.writes.places p.writes.values h.stored.places h.stored.values;
              within = all_within vs left.name p.slot targeted.target.bounds (λ is k e. targeted.target.places is k e ∙ ap (λ i. Some (place_of i k)) (sym u))
                  (λ k l. subst (λ i. IsWithin vs (place_of i k)) (sym u) (targeted.target.within k l)) h.writes p.writes.places h.stored.places;
            }
