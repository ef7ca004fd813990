-- The names in a trip without a loop's variable are symbols.
use Rattle.std.proofs.Common.{◌≡◌, refl, sym, ap, ◌∙◌, subst, ◌⊎◌, inl, inr, ℕ, zero, suc, ℤ, pos, negsuc, true, Option, Some, None, List, [], ◌∷◌, ◌++◌, arith}
use Rattle.std.specs.List.{list_all}
use Rattle.std.specs.Option.{IsSomeAnd}
use Rattle.std.specs.Ordering.{int_eq}
use Rattle.std.proofs.lemmas.Bool.Decides.{Decides-int_eq}
use Rattle.tree.specs.Plain.{Declaration, Expression}
use Rattle.meaning.specs.Reads.{names_in}
use Rattle.linear_forms.proofs.Sizes.{both}
use Rattle.linear_forms.specs.Expressed.{variables, with_constant, with_terms}
use Rattle.linear_forms.specs.Texts.{places_behind, with_symbols}
use Rattle.last_values.specs.normal_forms.Texts.{quotient_text, trip_text}
use Rattle.nest.specs.declared.parts.Trip.{Trip}
use Rattle.nest.specs.Bodies.{loops_in_parts, loops_of}
use Rattle.nest.specs.Plain.{Choice, Jump, Label, Loop, Nest, Part, Parts, Run, Turns, no_parts, part}
use Rattle.nest_order.specs.orders.Lists.{In}
use Rattle.nest_order.specs.shapes.Shapes.{ArePlain, IsPlain}
use Rattle.interchange.specs.Arranged.{is_loop_free}
use Rattle.prepared_passes.specs.arrangement.Laws.{TripsNameSymbols}
use Rattle.pass_laws.proofs.PreparedNests.Trips.{names_of_trip}
use Rattle.pass_laws.specs.prepared_nests.Loops.{EachLoop, EachLoopIn, IsPreparedLoop, IsPreparedTrip, variables_of_loops}
use Rattle.pass_laws.specs.prepared_nests.Nests.{IsPrepared}

-- ---- a loop of a nest stands in some loops

joined : {X : Type 0} (x : X) (xs ys : List X) → In x (xs ++ ys) → In x xs ⊎ In x ys
joined x [] ys i = inr i
joined x (y ∷ xs) ys (inl e) = inl (inl e)
joined x (y ∷ xs) ys (inr i) = by (joined x xs ys i)
  where
    by : In x xs ⊎ In x ys → In x (y ∷ xs) ⊎ In x ys
    by (inl j) = inl (inr j)
    by (inr j) = inr j

module _ (Asked : List Loop → Loop → Type 0) (l : Loop) where
  abbrev Found : Type 0
  Found = (round : List Loop) × Asked round l

  mutual
    pub found_in : (ls : List Loop) (p : Part) → IsPlain p → EachLoop Asked ls p → In l (loops_of p) → Found
    found_in ls (Run s) plain h i = absurd i
    found_in ls (Turns x ps) plain h (inl e) = (ls, subst (Asked ls) (sym e) h.0)
    found_in ls (Turns x ps) plain h (inr i) = found_in_parts (ls ++ x ∷ []) ps plain.1 h.1 i
    found_in ls (Choice bs ps) plain h i = absurd plain
    found_in ls (Label n) plain h i = absurd i
    found_in ls (Jump n) plain h i = absurd i

    found_in_parts : (ls : List Loop) (ps : Parts) → ArePlain ps → EachLoopIn Asked ls ps → In l (loops_in_parts ps) → Found
    found_in_parts ls no_parts plain h i = absurd i
    found_in_parts ls (part p ps) plain h i = by (joined l (loops_of p) (loops_in_parts ps) i) (found_in ls p plain.0 h.0) (found_in_parts ls ps plain.1 h.1)
      where
        by : In l (loops_of p) ⊎ In l (loops_in_parts ps) → (In l (loops_of p) → Found) → (In l (loops_in_parts ps) → Found) → Found
        by (inl j) f g = f j
        by (inr j) f g = g j

-- ---- a text without loops

none_counts : (cs : List ℤ) (ts : List Expression) (o : Option Expression) → list_all (λ a. int_eq a (pos 0)) cs ≡ true → with_terms o cs ts ≡ o
none_counts [] ts o e = refl
none_counts (c ∷ cs) [] o e = refl
none_counts (pos zero ∷ cs) (t ∷ ts) o e = none_counts cs ts o e
none_counts (pos (suc n) ∷ cs) (t ∷ ts) o e =
    let same = (Decides-int_eq (pos (suc n)) (pos 0)).0 (both (int_eq (pos (suc n)) (pos 0)) (list_all (λ a. int_eq a (pos 0)) cs) e).0 in
    let none : suc n ≡ 0 = cc in
    absurd (omega (arith, none))
none_counts (negsuc n ∷ cs) (t ∷ ts) o e = let no : ⊥ = cc in absurd no

pub text_alone : (round symbols : List (List ℕ)) (t : Trip) → is_loop_free t ≡ true → trip_text round symbols [] t ≡ trip_text [] symbols [] t
unfolding trip_text
text_alone round symbols t e =
    ap (λ (o : Option Expression). quotient_text (with_constant (with_symbols o t.top.syms (places_behind symbols [])) t.top.constant) t.by)
    (none_counts t.top.loops (variables round) None e ∙ sym (none_counts t.top.loops [] None e))

trip_names : (round symbols : List (List ℕ)) (last : Expression) (o : Option Trip) (t : Trip) → IsSomeAnd o (IsPreparedTrip round symbols last)
    → o ≡ Some t → is_loop_free t ≡ true → (x : List ℕ) → In x (names_in last) → In x symbols
trip_names round symbols last None t h e none x i = absurd h
trip_names round symbols last (Some u) t h e none x i = by (let same : u ≡ t = cc in same)
  where
    by : u ≡ t → In x symbols
    by f =
        let text : last ≡ trip_text [] symbols [] t = h.text ∙ (ap (trip_text round symbols []) f ∙ text_alone round symbols t none) in
        names_of_trip (λ y. In y symbols) [] symbols t (λ y j. absurd j) (λ y j. j) x (subst (λ e. In x (names_in e)) text i)

pub trips_name_symbols : (es : List Declaration) (around : List (List ℕ)) (deepest : ℕ) (m : Nest) → IsPrepared es around deepest m → TripsNameSymbols m
trips_name_symbols es around deepest m h l t x i e none j =
    let f = found_in (IsPreparedLoop es m.symbols) l [] m.body h.plain h.parts.loops i in
    trip_names (variables_of_loops f.0) m.symbols l.last l.trip t f.1.trip e none x j
