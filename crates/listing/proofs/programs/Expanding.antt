-- Expansion asks nothing of what stands behind a nest, and leaves no private scalar whatever stands there.
use mathlib.Core.Path.{ap₂}
use Rattle.std.proofs.Common.{◌≡◌, ℕ, List, [], ◌∷◌, ◌++◌, Option, if◌then◌else◌, ap, sym, ◌∙◌, subst, refl}
use Rattle.tree.specs.Plain.{Block}
use Rattle.nest.specs.Bodies.{Standing, nest_statements}
use Rattle.nest.specs.Plain.{Nest}
use Rattle.nest_order.specs.orders.Lists.{In}
use Rattle.nest_rewrite.specs.Assembled.{with_parts}
use Rattle.scalar_expand.specs.Expanded.{expanded, with_made_arrays}
use Rattle.scalar_expand.specs.Privates.{begun_by, names_written, private_or_none, private_among, private_scalars, privates_named}
use Rattle.scalar_expand.specs.declared.privates.Private.{Private}
use Rattle.prepared_passes.specs.expansion.Left.{NoPrivateScalarIsLeft}
use Rattle.last_values.specs.Occurrences.{stands_in_statement}

-- ---- private scalars

module _ (c : Nest) (b : Block) where
  abbrev beside : Nest
  beside = record c { after = b }

  among : (x : List ℕ) (ss : List Standing) → private_among beside x ss ≡ private_among c x ss
  among x [] = refl
  among x (s ∷ ss) =
      ap (λ (o : Option Private). if stands_in_statement x s.statement then begun_by c x s ss else o) (among x ss)

  named : (xs : List (List ℕ)) → privates_named beside xs ≡ privates_named c xs
  named [] = refl
  named (x ∷ xs) =
      ap₂ (λ (o : Option Private) (ps : List Private). private_or_none o ++ ps) (among x (nest_statements c)) (named xs)

  pub privates_beside : private_scalars beside ≡ private_scalars c
  privates_beside = named (names_written [] (nest_statements c))

  arrays_beside : (ps : List Private) → with_made_arrays beside ps ≡ record (with_made_arrays c ps) { after = (with_made_arrays beside ps).after }
  unfolding with_made_arrays with_parts
  arrays_beside ps = refl

  nest_beside : expanded beside ≡ record (expanded c) { after = (expanded beside).after }
  nest_beside =
      arrays_beside (private_scalars beside)
      ∙ ap (λ (ps : List Private). record (with_made_arrays c ps) { after = (expanded beside).after }) privates_beside

-- ---- the expanded nest

pub expanded_beside : (k c m : Nest) → k ≡ record c { after = k.after } → m ≡ expanded k
    → m ≡ record (expanded c) { after = m.after }
expanded_beside k c m same e =
    let is : m ≡ expanded (record c { after = k.after }) = e ∙ ap expanded same in
    subst (λ (j : Nest). j ≡ record (expanded c) { after = j.after }) (sym is) (nest_beside c k.after)

pub masks_kept : (c : Nest) → (expanded c).masks ≡ c.masks
unfolding with_made_arrays with_parts
masks_kept c = refl

-- ---- what is left in it

pub left_beside : (k m c j : Nest) → k ≡ record c { after = k.after } → m ≡ record j { after = m.after }
    → NoPrivateScalarIsLeft c j → NoPrivateScalarIsLeft k m
left_beside k m c e given last h =
    subst (λ (j : Nest). NoPrivateScalarIsLeft j m) (sym given)
    (subst (λ (j : Nest). NoPrivateScalarIsLeft (record c { after = k.after }) j) (sym last) by)
  where
    by : NoPrivateScalarIsLeft (record c { after = k.after }) (record e { after = m.after })
    by p i s j stands =
        let o = h p (subst (λ (ps : List Private). In p ps) (privates_beside c k.after) i) s j stands in
        record { statement = o.statement; loops = o.loops; unknown = o.unknown }
