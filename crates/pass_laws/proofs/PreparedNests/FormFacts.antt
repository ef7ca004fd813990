-- What array forms ask of prepared nests in their settings.
use Rattle.std.proofs.Common.{◌≡◌, inl, inr, refl, sym, subst, ℕ, zero, suc, ◌≤◌, ◌<◌, Bool, true, false, cond}
use Rattle.std.proofs.Common.{◌||◌, List, [], ◌∷◌, length, get_or, Option, Some, None, arith}
use Rattle.std.specs.Option.{IsSomeAnd, IfSome}
use Rattle.std.specs.Str.{bytes_eq}
use Rattle.std.proofs.lemmas.Slice.Eq.{bytes_eq-Decides}
use Rattle.array_form.specs.forms.Loops as array
use Rattle.array_form.specs.forms.Trips as form_trips
use Rattle.array_form.specs.holds.Statements.{no_statement}
use Rattle.emission.specs.emission_forms.Written.{HaveTripTexts}
use Rattle.emission.specs.emission_pieces.Nests.{loops_at}
use Rattle.linear_forms.specs.CanonicalLaws.{AreDistinct}
use Rattle.meaning.specs.Holding.{HasBounds}
use Rattle.meaning.specs.Names.{is_among}
use Rattle.meaning.specs.Typed.{declared}
use Rattle.nest.specs.Bodies.{nest_loops, nest_statements}
use Rattle.nest.specs.Plain.{Nest}
use Rattle.nest_order.specs.orders.Lists.{In}
use Rattle.nest_order.specs.shapes.Shapes.{loop_numbered, variable_of_loop}
use Rattle.pass_laws.proofs.NormalFacts.Tables.{all_in}
use Rattle.pass_laws.specs.normal_facts.Laws.{IsCounter}
use Rattle.tree.specs.Plain.{Declaration}
use Rattle.tree.specs.declared.ops.Kind.TheVariants.{Integer}
use Rattle.pass_laws.specs.prepared_nests.Laws.{PreparedNestHasFormFacts}
use Rattle.pass_laws.specs.prepared_nests.Nests.{IsPrepared, IsPreparedSymbol}
use Rattle.pass_laws.proofs.PreparedNests.Facts.{counter_at}
use Rattle.pass_laws.proofs.PreparedNests.Lists.{ordered_distinct}
use Rattle.pass_laws.proofs.PreparedNests.Ready.{round_statement}
use Rattle.pass_laws.proofs.PreparedNests.Trips.{trip_texts}

element : {X : Type 0} (xs : List X) (k : ℕ) (d : X) → k < length xs → In (get_or xs k d) xs
element [] k d g = absurd (omega (arith, g))
element (x ∷ xs) zero d g = inl refl
element (x ∷ xs) (suc k) d g = inr (element xs k d (omega (arith, g)))

among_none : (names : List (List ℕ)) (x : List ℕ) → is_among names x ≡ false → array.is_among names x ≡ false
among_none [] x h = refl
among_none (y ∷ names) x h = by (among_none names x) (bytes_eq y x) refl (bytes_eq x y) refl h
  where
    by : (is_among names x ≡ false → array.is_among names x ≡ false) → (a : Bool) → bytes_eq y x ≡ a → (b : Bool) → bytes_eq x y ≡ b
        → (b || is_among names x) ≡ false → cond a true (array.is_among names x) ≡ false
    by rest a e true f g = let no : ⊥ = cc in absurd no
    by rest false e false f g = rest g
    by rest true e false f g =
        let same : bytes_eq x y ≡ true = (bytes_eq-Decides x y).1 (sym ((bytes_eq-Decides y x).0 e)) in
        let no : ⊥ = cc in
        absurd no

pub distinct_too : (names : List (List ℕ)) → AreDistinct names → form_trips.AreDistinct names
distinct_too [] h = tt
distinct_too (x ∷ names) h = (among_none names x h.0, distinct_too names h.1)

declared_integer : (o : Option Declaration) → IsSomeAnd o IsCounter → (d : Declaration) × (o ≡ Some d) × (d.kind ≡ Integer)
declared_integer None h = absurd h
declared_integer (Some d) h = (d, refl, h.kind)

module _ (es : List Declaration) (around : List (List ℕ)) (deepest : ℕ) (m : Nest) (h : IsPrepared es around deepest m) where
  short : (x : List ℕ) → In x m.symbols → length x ≤ 6
  short x i = (all_in (IsPreparedSymbol es) m.symbols h.parts.symbols x i).name.within

  pub trips : (s : ℕ) → s < length (nest_statements m) → HaveTripTexts m.symbols [] (loops_at m s)
  trips s k =
      let r = round_statement es around deepest m h (get_or (nest_statements m) s no_statement) (element (nest_statements m) s no_statement k) in
      trip_texts m.symbols short (ordered_distinct m.symbols h.parts.ordered) es [] (loops_at m s) r.follow tt r.once

pub prepared_nest_has_form_facts : PreparedNestHasFormFacts
prepared_nest_has_form_facts es around deepest m w h set =
    let own = subst (λ ds. IsPrepared ds around deepest m) (sym set.declarations) h in
    let bounds =
    subst (λ ds. (x : List ℕ) → IfSome (declared ds x) (λ (d : Declaration). HasBounds d.extent (w.bounds x))) (sym set.declarations) set.bounds in
    record {
      symbols = distinct_too m.symbols (ordered_distinct m.symbols h.parts.ordered);
      trips = trips es around deepest m h;
      variables = λ l i. declared_integer (declared w.program.declarations (variable_of_loop (loop_numbered (nest_loops m) l)))
          (counter_at around deepest m w own bounds set.values l i);
    }
