-- What a nest with inductions substituted has of the nest.
use Rattle.std.proofs.Common.{◌≡◌, ◌⊎◌, inl, inr, refl, sym, ap, ◌∙◌, subst, ℕ, ◌+◌, Bool, true, false, cond, List, [], ◌∷◌, map, Some}
use Rattle.tree.specs.Plain.{Declaration, block}
use Rattle.nest.specs.Allocations.{block_then}
use Rattle.nest.specs.Bodies.{Standing, nest_loops, nest_statements}
use Rattle.nest.specs.Plain.{Guarded, Nest}
use Rattle.nest.specs.declared.parts.Trip.{Trip}
use Rattle.nest_order.proofs.orders.Lists.{In-append}
use Rattle.nest_order.specs.orders.Lists.{In}
use Rattle.nest_order.specs.shapes.Shapes.{IsPlain}
use Rattle.pass_laws.specs.prepared_nests.Nests.{IsPrepared}
use Rattle.statement_passes.proofs.Standings.{mapped_nest_has}
use Rattle.statement_passes.specs.Shifted.{with_nest_symbol, with_nest_symbols}
use Rattle.statement_passes.specs.Standings.{IsLoop, mapped_standings}
use Rattle.statement_passes.specs.Symbols.{place_among}
use Rattle.symbols_anew.specs.Found.{names_assigned}
use Rattle.inductions.specs.Ends.{induction_ending}
use Rattle.inductions.specs.Found.{inductions_by, inductions_of, outermost_trip}
use Rattle.inductions.specs.Nests.{induction_names, inductions_substituted, substituted_by, with_inductions}
use Rattle.inductions.specs.Putting.{grows_at, put_in, with_induction_forms}
use Rattle.inductions.specs.declared.found.Induction.{Induction}
use Rattle.prepared_passes.proofs.SubstitutedNests.Runs.{HasTrip, IsTurns, outermost_is, trip_of, turns_of}
use Rattle.prepared_passes.proofs.SubstitutedNests.WithBehind.{then_nothing}
use Rattle.prepared_passes.proofs.SymbolsAnew.Comes.{symbols_are}
use Rattle.prepared_passes.proofs.SymbolsAnew.Names.{in_more, itself}
use Rattle.prepared_passes.proofs.SymbolsAnew.Same.{all_same, assigned_in, mapped_loop}
use Rattle.prepared_passes.specs.symbols.Same.{without_trip}
use Rattle.prepared_passes.specs.symbols.Sources.{IsOfSource}

-- m is n but for its symbols, its body and what stands behind it. Its loops are those of n but for the places of symbols
-- in trips, its statements give values to names that those of n give values to, and its symbols are those of n and the
-- inductions
pub record IsSubstitutedFrom (n : Nest) (ds : List Induction) (t : Trip) (m : Nest) : Type 0 where
  pub rest : m ≡ record n { symbols = m.symbols; body = m.body; after = m.after }
  pub plain : IsPlain m.body
  pub loop : IsLoop m.body
  pub loops : map without_trip (nest_loops m) ≡ map without_trip (nest_loops n)
  pub assigned : (x : Standing) → In x (nest_statements m) → In x.statement.left.name (names_assigned n)
  pub kept : (y : List ℕ) → In y n.symbols → In y m.symbols
  pub added : (y : List ℕ) → In y (induction_names ds) → In y m.symbols
  pub new : (y : List ℕ) → In y m.symbols → In y n.symbols ⊎ In y (induction_names ds)
  pub after : m.after ≡ block_then n.after (block (map (induction_ending n.symbols n.line t) ds))

stays_among : (n : Nest) (xs : List (List ℕ)) (y : List ℕ) → In y n.symbols → In y (with_nest_symbols n xs).symbols
stays_among n [] y i = i
stays_among n (x ∷ xs) y i = stays_among (with_nest_symbol n x) xs y (in_more n.symbols (place_among n.symbols x) x y i)

all_added : (n : Nest) (xs : List (List ℕ)) (y : List ℕ) → In y xs → In y (with_nest_symbols n xs).symbols
all_added n [] y i = absurd i
all_added n (x ∷ xs) y (inl e) = stays_among (with_nest_symbol n x) xs y (subst (λ z. In z (with_nest_symbol n x).symbols) (sym e) (itself n.symbols (place_among n.symbols x) x))
all_added n (x ∷ xs) y (inr i) = all_added (with_nest_symbol n x) xs y i

module _ (counter : List ℕ) (ds : List Induction) (symbols : List (List ℕ)) where
  one_assigned : (y x : Standing) (k : ℕ) (b : Bool)
      → In x (map (λ (g : Guarded). record { loops = y.loops; statement = g }) (cond b [] (with_induction_forms counter ds symbols y.loops k y.statement ∷ [])))
      → x.statement.left.name ≡ y.statement.left.name
  one_assigned y x k true i = absurd i
  one_assigned y x k false (inl e) = ap (λ (s : Standing). s.statement.left.name) e
  one_assigned y x k false (inr i) = absurd i

  all_assigned : (k : ℕ) (ys : List Standing) (x : Standing) → In x (mapped_standings (put_in counter ds symbols) k ys)
      → In x.statement.left.name (map (λ (s : Standing). s.statement.left.name) ys)
  all_assigned k [] x i = absurd i
  all_assigned k (y ∷ ys) x i =
      by (In-append x (map (λ (g : Guarded). record { loops = y.loops; statement = g }) (put_in counter ds symbols y.loops k y.statement)) (mapped_standings (put_in counter ds symbols) (k + 1) ys) i)
      (all_assigned (k + 1) ys x)
    where
      by : In x (map (λ (g : Guarded). record { loops = y.loops; statement = g }) (put_in counter ds symbols y.loops k y.statement)) ⊎ In x (mapped_standings (put_in counter ds symbols) (k + 1) ys)
          → (In x (mapped_standings (put_in counter ds symbols) (k + 1) ys) → In x.statement.left.name (map (λ (s : Standing). s.statement.left.name) ys))
          → In x.statement.left.name (y.statement.left.name ∷ map (λ (s : Standing). s.statement.left.name) ys)
      by (inl j) more = inl (one_assigned y x k (grows_at ds k) j)
      by (inr j) more = inr (more j)

module _ (n : Nest) (plain : IsPlain n.body) (loop : IsLoop n.body) (o : List ℕ × Trip) where
  pub kept_by : (ds : List Induction) → IsSubstitutedFrom n ds o.1 (with_inductions n o ds)
  kept_by [] = record {
    rest = refl;
    plain = plain;
    loop = loop;
    loops = refl;
    assigned = assigned_in (nest_statements n);
    kept = λ y i. i;
    added = λ y i. absurd i;
    new = λ y i. inl i;
    after = sym (then_nothing n.after);
  }
  kept_by (d ∷ ds) =
      let names = induction_names (d ∷ ds) in
      let m = with_nest_symbols n names in
      let same = all_same n names plain loop in
      let has = mapped_nest_has (put_in o.0 (d ∷ ds) m.symbols) m same.loop same.plain in
      record {
        rest =
            ap (λ (k : Nest). record k {
              body = (with_inductions n o (d ∷ ds)).body;
              after = (with_inductions n o (d ∷ ds)).after;
            }) same.rest;
        plain = has.plain;
        loop = mapped_loop (put_in o.0 (d ∷ ds) m.symbols) m.body same.loop;
        loops = ap (map without_trip) has.loops ∙ same.loops;
        assigned = λ x i. same.assigned x.statement.left.name
            (all_assigned o.0 (d ∷ ds) m.symbols 0 (nest_statements m) x (subst (λ (xs : List Standing). In x xs) has.statements i));
        kept = same.kept;
        added = λ y i. all_added n names y i;
        new = λ y i. symbols_are n names y i;
        after = refl;
      }

-- ---- a prepared nest

module _ (es : List Declaration) (around : List (List ℕ)) (deepest : ℕ) (n : Nest) (h : IsPrepared es around deepest n) (source : IsOfSource es n) where
  pub turns : IsTurns n
  turns = turns_of n source.loop

  pub trip : HasTrip es n turns.loop
  trip = trip_of es around deepest n turns h

  pub outermost_there : outermost_trip n.body ≡ Some (turns.loop.variable, trip.trip)
  outermost_there = outermost_is n turns trip.trip trip.is

  pub inductions_are : inductions_of n ≡ inductions_by n (Some (turns.loop.variable, trip.trip))
  inductions_are = ap (inductions_by n) outermost_there

  substituted_is : inductions_substituted n ≡ with_inductions n (turns.loop.variable, trip.trip) (inductions_by n (Some (turns.loop.variable, trip.trip)))
  unfolding inductions_substituted
  substituted_is = ap (substituted_by n) outermost_there

  pub substituted_from : IsSubstitutedFrom n (inductions_of n) trip.trip (inductions_substituted n)
  substituted_from =
      subst (λ (ds : List Induction). IsSubstitutedFrom n ds trip.trip (inductions_substituted n)) (sym inductions_are)
      (subst (IsSubstitutedFrom n (inductions_by n (Some (turns.loop.variable, trip.trip))) trip.trip) (sym substituted_is)
      (kept_by n h.plain source.loop (turns.loop.variable, trip.trip) (inductions_by n (Some (turns.loop.variable, trip.trip)))))
