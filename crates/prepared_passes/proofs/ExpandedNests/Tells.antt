-- The texts of trips that are the same in all turns have the numbers of the last iterations.
use mathlib.Core.Path.{ap₂}
use Rattle.std.proofs.Common.{◌≡◌, ◌⊎◌, refl, sym, ap, ◌∙◌, inl, inr, subst, ℕ, zero, suc, ◌+◌, ◌≤◌, ◌<◌, ℤ, pos, negsuc, ◌+ℤ◌, true, ◌&&◌, List, [], ◌∷◌, ◌++◌, map, length, get_or, drop, Ok, Option, arith}
use Rattle.std.specs.Prelude.{int_div, int_lt, nat_le}
use Rattle.std.specs.List.{list_all}
use Rattle.std.proofs.lemmas.Bool.{leb-true}
use Rattle.std.proofs.lemmas.List.{append-nil, length-drop}
use Rattle.linear_forms.specs.Laws.{AreSized}
use Rattle.linear_forms.specs.Linear.{HaveValues, all_small, is_small, not_zero}
use Rattle.linear_forms.specs.Texts.{text_of}
use Rattle.linear_forms.proofs.Sizes.{both}
use Rattle.meaning.specs.Store.{Store}
use Rattle.meaning.specs.Value.{value_of}
use Rattle.nest.specs.Bodies.{nest_loops}
use Rattle.nest.specs.Plain.{Loop, Nest}
use Rattle.nest.specs.declared.parts.Trip.{Trip}
use Rattle.nest_order.specs.facts.Facts as facts
use Rattle.nest_order.specs.orders.Lists.{In}
use Rattle.rewrite.specs.Following.{sequential}
use Rattle.subscripts.specs.declared.affine.Affine.{Affine}
use Rattle.tree.specs.Plain.{Declaration, Expression}
use Rattle.tree.specs.declared.ops.Value.TheVariants.{Int}
use Rattle.last_values.specs.declared.normal_forms.places.Place.TheVariants as place
use Rattle.last_values.specs.normal_forms.Combinations.{number_of_place, coefficient_in}
use Rattle.last_values.specs.normal_forms.NormalLoops.{has_no_loops, is_constant, is_known, is_positive, is_undivided}
use Rattle.last_values.specs.normal_forms.Numbers.{number_of_form, products, trip_number}
use Rattle.last_values.specs.normal_forms.Texts.{quotient_text, trip_text}
use Rattle.last_values.proofs.NormalForms.Numbers.{products-alike, products-zero}
use Rattle.pass_laws.proofs.LastRuns.Forms.{At, IsKnownForm, number_size, quotient_value, text_number}
use Rattle.pass_laws.proofs.LastRuns.LastNumbers.{known_number}
use Rattle.pass_laws.proofs.LastRuns.Pieces.{none_yet}
use Rattle.pass_laws.proofs.NormalFacts.Tables.{each_asked}
use Rattle.pass_laws.proofs.NormalValues.Points.{products_same}
use Rattle.pass_laws.specs.prepared_nests.Loops.{IsPreparedLoop, IsPreparedTrip, variables_of_loops}
use Rattle.pass_laws.specs.prepared_nests.Made.{AreOf64Bits}
use Rattle.pass_laws.specs.prepared_nests.Nests.{IsPrepared}
use Rattle.pass_laws.proofs.PreparedNests.Lists.{ordered_distinct, some_of}
use Rattle.pass_laws.proofs.PreparedNests.Walks.{walked}
use Rattle.scalar_expand.specs.Endings.{HoldSymbols, TellTurns}
use Rattle.scalar_expand.specs.Numbers.{at_loops, ends_under, number_under, turns_to}
use Rattle.scalar_expand.specs.Privates.{round_loop, trip_or_none}
use Rattle.scalar_expand.specs.declared.privates.RoundLoop.{RoundLoop}
use Rattle.scalar_expand.proofs.Covers.{loops_zero}
use Rattle.prepared_passes.specs.expansion.Laws.{MayBeExpanded, PreparedTextsTell, value_among}
use Rattle.prepared_passes.proofs.ExpandedNests.Names.{start}
use Rattle.prepared_passes.proofs.ExpandedNests.Trips.{symbol_values}
use Rattle.prepared_passes.proofs.ExpandedNests.Walks.{round_in}

-- ---- forms of symbols alone

small_dropped : (d : ℕ) (cs : List ℤ) → all_small cs ≡ true → all_small (drop d cs) ≡ true
small_dropped zero [] h = refl
small_dropped zero (c ∷ cs) h = h
small_dropped (suc d) [] h = refl
small_dropped (suc d) (c ∷ cs) h = small_dropped d cs (both (is_small c) (all_small cs) h).1

known_form : (round symbols : List (List ℕ)) (last : Expression) (t : Trip) → IsPreparedTrip round symbols last t → IsKnownForm (length symbols) t.top
known_form round symbols last t p =
    let one = both (all_small p.form.coefficients) (is_small p.form.constant && nat_le (not_zero (drop (length round) p.form.coefficients)) 8) p.limited in
    let two = both (is_small p.form.constant) (nat_le (not_zero (drop (length round) p.form.coefficients)) 8) one.1 in
    let short = p.short in
    let dropped = length-drop (length round) p.form.coefficients in
    record {
      symbols = drop (length round) p.form.coefficients;
      few = omega (arith, short, dropped);
      small = small_dropped (length round) p.form.coefficients one.0;
      count = leb-true (not_zero (drop (length round) p.form.coefficients)) 8 two.1;
      syms = p.affine.symbols;
      constant = ap is_small p.affine.constant ∙ two.0;
    }

pub at_symbols : (ys : List (List ℕ)) (k : ℕ) (v : ℕ → ℤ) (i : ℕ) → i < length ys → get_or (facts.values_from v k ys ++ []) i (pos 0) ≡ v (k + i)
at_symbols [] k v i h = absurd (omega (arith, h))
at_symbols (y ∷ ys) k v zero h = ap v (let e : k ≡ k + 0 = omega arith in e)
at_symbols (y ∷ ys) k v (suc i) h = at_symbols ys (suc k) v i (omega (arith, h)) ∙ ap v (let e : suc k + i ≡ k + suc i = omega arith in e)

pub sized_symbols : (ys : List (List ℕ)) (k : ℕ) (v : ℕ → ℤ) → AreOf64Bits v → AreSized (facts.values_from v k ys)
sized_symbols [] k v h = tt
sized_symbols (y ∷ ys) k v h = (h k, sized_symbols ys (suc k) v h)

low : (z : ℤ) → int_lt (pos 0) z ≡ true → 1 ≤ turns_to z
low (pos zero) h = cc
low (pos (suc k)) h = omega arith
low (negsuc k) h = cc

module _ (symbols : List (List ℕ)) (values : ℕ → ℤ) where
  no_loops : (F : ℕ → ℤ) (a : Affine) → has_no_loops a ≡ true → products 7 0 (λ k. number_of_place a (place.Loop k)) F ≡ pos 0
  no_loops F a h = products-alike 7 0 (λ k. number_of_place a (place.Loop k)) (λ k. pos 0) F (λ k m. loops_zero a.loops k h) ∙ products-zero 7 0 F

  pub same_number : (F : ℕ → ℤ) (a : Affine) → has_no_loops a ≡ true
      → number_of_form (length symbols) none_yet (At (facts.values_from values 0 symbols ++ [])) a ≡ number_of_form (length symbols) F values a
  same_number F a h =
      ap₂ (λ p q. p +ℤ (q +ℤ a.constant)) (no_loops none_yet a h ∙ sym (no_loops F a h))
      (products_same (length symbols) 0 (λ j. coefficient_in a.syms j) (At (facts.values_from values 0 symbols ++ [])) values
      (λ i k. at_symbols symbols 0 values i (omega (arith, k)) ∙ ap values (let e : 0 + i ≡ i = omega arith in e)))

  module _ (bits : ℕ) (u : Store) (have : HaveValues symbols u (facts.values_from values 0 symbols)) (sized : AreSized (facts.values_from values 0 symbols)) (F : ℕ → ℤ) where
    trip_value : (t : Trip) (d : ℕ) → t.by ≡ pos d → 1 ≤ d → IsKnownForm (length symbols) t.top → has_no_loops t.top ≡ true
        → value_of (sequential bits) (trip_text [] symbols [] t) u ≡ Ok (Int (trip_number (length symbols) F values t))
    unfolding trip_text
    trip_value t d by some k none =
        ap (λ b. value_of (sequential bits) (quotient_text (text_of [] symbols [] t.top) b) u) by
        ∙ (quotient_value (sequential bits) (text_of [] symbols [] t.top) u (number_of_form (length symbols) none_yet (At (facts.values_from values 0 symbols ++ [])) t.top) d (omega (arith, some))
        (text_number (sequential bits) symbols [] (length symbols) t.top k u (facts.values_from values 0 symbols) [] have tt sized tt)
        (number_size (length symbols) t.top k (facts.values_from values 0 symbols ++ []) (subst AreSized (sym (append-nil (facts.values_from values 0 symbols))) sized))
        ∙ ap₂ (λ z b. Ok (Int (int_div z b))) (same_number F t.top none) (sym by))

    positive : (t : Trip) → is_positive t ≡ true → 1 ≤ turns_to (trip_number (length symbols) F values t)
    positive t h =
        let p = both (is_known t) (int_lt (pos 0) t.top.constant) h in
        let q = both (is_undivided t) (is_constant t.top) p.0 in
        subst (λ z. 1 ≤ turns_to z) (sym (known_number (length symbols) F values t q.0 q.1)) (low t.top.constant p.1)

module _ (bits : ℕ) (es : List Declaration) (around : List (List ℕ)) (deepest : ℕ) (m : Nest) (values : ℕ → ℤ) (h : IsPrepared es around deepest m) (may : MayBeExpanded es m) (sized : AreOf64Bits values) (u : Store)
    (hold : HoldSymbols m.symbols (value_among m.symbols 0 values) u) where
  abbrev Said : List ℕ → Trip → Type 0
  Said done t =
      has_no_loops t.top ≡ true
      → ((z : ℤ) × (value_of (sequential bits) (trip_text [] m.symbols [] t) u ≡ Ok (Int z)) × (turns_to z ≡ turns_to (number_under (length m.symbols) values (map pos done) t)))
      × (is_positive t ≡ true → 1 ≤ turns_to (number_under (length m.symbols) values (map pos done) t))

  said : (done : List ℕ) (o : Loop) → In o (nest_loops m) → Said done (trip_or_none o.trip)
  said done o i =
      let r = each_asked (IsPreparedLoop es m.symbols) (nest_loops m) [] m.body h.plain (walked (IsPreparedLoop es m.symbols) [] m.body h.parts.loops) o i in
      let t = some_of (IsPreparedTrip (variables_of_loops r.round) m.symbols o.last) o.trip r.asked.trip in
      subst (λ (x : Option Trip). Said done (trip_or_none x)) (sym t.is) (one (variables_of_loops r.round) o.last t.value t.has)
    where
      one : (round : List (List ℕ)) (last : Expression) (t : Trip) → IsPreparedTrip round m.symbols last t → Said done t
      one round last t p none =
          let have = symbol_values m.symbols 0 values u (ordered_distinct m.symbols h.parts.ordered) hold in
          let all = sized_symbols m.symbols 0 values sized in (
            (
              trip_number (length m.symbols) (at_loops (map pos done)) values t,
              trip_value m.symbols values bits u have all (at_loops (map pos done)) t p.divisor p.by p.positive (known_form round m.symbols last t p) none,
              refl,
            ),
            positive m.symbols values bits u have all (at_loops (map pos done)) t,
          )

  tell : (done : List ℕ) (ls : List Loop) → ((o : Loop) → In o ls → In o (nest_loops m)) → list_all (λ (l : RoundLoop). has_no_loops l.trip.top) (map round_loop ls) ≡ true
      → TellTurns bits m.symbols u (map round_loop ls) (ends_under (length m.symbols) values done (map round_loop ls))
  tell done [] inside plain = tt
  tell done (o ∷ ls) inside plain =
      let p = both (has_no_loops (trip_or_none o.trip).top) (list_all (λ (l : RoundLoop). has_no_loops l.trip.top) (map round_loop ls)) plain in
      let s = said done o (inside o (inl refl)) p.0 in
      (s.0, s.1, tell (done ++ turns_to (number_under (length m.symbols) values (map pos done) (trip_or_none o.trip)) ∷ []) ls (λ k j. inside k (inr j)) p.1)

pub prepared_texts_tell : PreparedTextsTell
prepared_texts_tell bits es around deepest m values h may sized u hold p i known =
    let s = start es around deepest m h may p i in
    subst (λ ks. TellTurns bits m.symbols u ks (ends_under (length m.symbols) values [] ks)) (sym s.loops)
    (tell bits es around deepest m values h may sized u hold [] s.standing.loops (λ o j. inside o (round_in [] m.body h.plain s.standing s.inside o j))
    (sym (ap (list_all (λ (l : RoundLoop). has_no_loops l.trip.top)) s.loops) ∙ known))
  where
    inside : (o : Loop) → In o [] ⊎ In o (nest_loops m) → In o (nest_loops m)
    inside o (inl k) = absurd k
    inside o (inr k) = k
