-- What was made for private scalars stands in the guarded statements of an expanded nest as elements, by the variables
-- of their loops, or as scalars.
use Rattle.std.proofs.Common.{◌≡◌, inl, inr, refl, sym, ap, ◌∙◌, subst, ℕ, Bool, true, false, ◌||◌, List, [], ◌∷◌, ◌++◌}
use Rattle.std.proofs.Common.{map, reverse, Option, Some, None}
use Rattle.std.specs.List.{list_any}
use Rattle.std.specs.Option.{IsSomeAnd}
use Rattle.std.specs.Str.{bytes_eq}
use Rattle.std.proofs.lemmas.Slice.Eq.{bytes_eq-Decides}
use Rattle.array_form.specs.holds.Bounds.{is_made}
use Rattle.prepared_passes.proofs.ExpandedNests.Before.{made_scalar_there}
use Rattle.prepared_passes.proofs.ExpandedNests.GuardedNames.{all_suit, counts_by, names_scalar, read_in_all, stands}
use Rattle.prepared_passes.proofs.ExpandedNests.MadeArrays.{made_are}
use Rattle.prepared_passes.proofs.ExpandedNests.References.{ComesFrom, all_of, of_statement, read_by, scalar_has_none}
use Rattle.prepared_passes.proofs.ExpandedNests.Standings.{IsMadeOf, loops_round, statement_made}
use Rattle.prepared_passes.specs.expansion.Left.{references_touched}
use Rattle.prepared_passes.specs.expansion.Places.{IsExpandedInPlaces}
use Rattle.last_values.specs.Occurrences.{stands_in_statement}
use Rattle.meaning.specs.Typed.{declared}
use Rattle.nest.specs.Bodies.{Standing, nest_loops, nest_statements}
use Rattle.nest.specs.Plain.{Loop, Made, Nest}
use Rattle.nest_order.proofs.orders.Membership.{In-map, map-In}
use Rattle.nest_order.specs.orders.Lists.{In}
use Rattle.nest_order.specs.shapes.Shapes.{numbers_of}
use Rattle.nest_rewrite.specs.Statements.{rewritten_statement}
use Rattle.pass_laws.proofs.NormalFacts.Tables.{all_in}
use Rattle.pass_laws.proofs.PreparedNests.Lists.{distinct_too}
use Rattle.pass_laws.specs.prepared_nests.Loops.{variables_of_loops}
use Rattle.pass_laws.specs.prepared_nests.Made.{IsPreparedMade}
use Rattle.pass_laws.specs.prepared_nests.Statements.{IsPreparedStatement}
use Rattle.scalar_expand.specs.Expanded.{element, expanded, expanding, made_before, made_now, named_private, loop_subscript}
use Rattle.scalar_expand.specs.Privates.{private_scalars, round_loop}
use Rattle.scalar_expand.specs.declared.privates.Private.{Private}
use Rattle.scalar_expand.specs.declared.privates.RoundLoop.{RoundLoop}
use Rattle.scalar_expand.specs.Privates.{trip_or_none}
use Rattle.prepared_passes.specs.splitting.Elements as splitting
use Rattle.node_splitting.specs.Arrays as copies
use Rattle.tree.specs.Plain.{Declaration, Given, Program, Reference, Subscript, subscripts}
use Rattle.tree.specs.declared.width.Width.TheVariants.{Plain}

pub made_named : (ms : List Made) (y : List ℕ) → list_any (λ (c : Made). bytes_eq c.name y) ms ≡ true
    → (c : Made) × In c ms × (c.name ≡ y)
made_named [] y e = cc
made_named (c ∷ ms) y e = by (bytes_eq c.name y) refl e (λ f. made_named ms y f)
  where
    by : (b : Bool) → bytes_eq c.name y ≡ b → (b || list_any (λ (c : Made). bytes_eq c.name y) ms) ≡ true
        → (list_any (λ (c : Made). bytes_eq c.name y) ms ≡ true → (d : Made) × In d ms × (d.name ≡ y))
        → (d : Made) × In d (c ∷ ms) × (d.name ≡ y)
    by true f g r = (c, inl refl, (bytes_eq-Decides c.name y).0 f)
    by false f g r = let h = r g in (h.0, inr h.1, h.2)

-- its subscripts are the variables of some of these loops, the innermost one first
pub record IsElementIn (ls : List Loop) (r : Reference) : Type 0 where
  pub loops : List RoundLoop
  pub is : r.subscripts ≡ subscripts (reverse (map loop_subscript loops))
  pub among : (l : RoundLoop) → In l loops → In l.variable (variables_of_loops ls)

variables_round : (ls : List Loop) → map (λ (l : RoundLoop). l.variable) (map round_loop ls) ≡ variables_of_loops ls
variables_round [] = refl
variables_round (l ∷ ls) = ap (λ ys. l.variable ∷ ys) (variables_round ls)

module _ (p b a : Program) (around : List (List ℕ)) (deepest deeper : ℕ) (m : Nest)
    (x : IsExpandedInPlaces p b a around deepest deeper m) where
  abbrev ps : List Private
  ps = private_scalars m

  module _ (y z : Standing) (inside : In y (nest_statements (expanded m))) (first : In z (nest_statements m))
      (is : y ≡ record { loops = z.loops; statement = rewritten_statement (expanding (private_scalars m)) z.statement }) where
    st : IsPreparedStatement b.declarations m deepest z
    st = all_in (IsPreparedStatement b.declarations m deepest) (nest_statements m) x.before.parts.statements z first

    behind : IsPreparedStatement a.declarations (expanded m) deeper y
    behind =
        all_in (IsPreparedStatement a.declarations (expanded m) deeper) (nest_statements (expanded m))
        x.behind.parts.statements y inside

    element_is : (q : Private) → q.loops ≡ map round_loop y.loops → (r : Reference) → r ≡ element q → IsElementIn y.loops r
    element_is q loops r e = record {
      loops = q.loops;
      is = ap (λ (u : Reference). u.subscripts) e;
      among = λ l i.
          subst (In l.variable) (ap (map (λ (k : RoundLoop). k.variable)) loops ∙ variables_round y.loops)
          (map-In (λ (k : RoundLoop). k.variable) l q.loops i);
    }

    scalar_is : (r : Reference) → In r (references_touched y.statement) → (c : Made) → In c m.made
        → named_private (private_scalars m) c.name ≡ None → c.name ≡ r.name → IsElementIn y.loops r
    scalar_is r i c j none same =
        let scalar = made_scalar_there Plain p b a around deepest deeper m x c j none in
        let given = subst (λ n. IsSomeAnd (declared a.declarations n) (λ (d : Declaration). d.extent ≡ Given [])) same
        (extent_of (declared a.declarations c.name) scalar) in
        record {
          loops = [];
          is = scalar_has_none a.declarations r given
              (all_suit (private_scalars m) a.declarations (expanded m) deeper y behind r
              (read_in_all (private_scalars m) y.statement r i));
          among = λ l k. absurd k;
        }
      where
        extent_of : (o : Option Declaration) → IsSomeAnd o (λ (d : Declaration). (d.kind ≡ c.kind) × (d.extent ≡ Given []))
            → IsSomeAnd o (λ (d : Declaration). d.extent ≡ Given [])
        extent_of None h = absurd h
        extent_of (Some d) h = h.1

    either : (r : Reference) → In r (references_touched y.statement) → is_made (expanded m) r.name ≡ true → IsElementIn y.loops r
    either r i e =
        let c = made_named (expanded m).made r.name e in
        by c.0 c.1 (subst (In c.0) (made_are m) c.1) c.2
        (of_statement (private_scalars m) z.statement st.plain.0 st.plain.2 st.plain.1 r
        (subst (λ (v : Standing). In r (v.statement.left ∷ read_by (private_scalars m) v.statement)) is i))
      where
        by : (c : Made) → In c (expanded m).made
            → In c (made_before m.symbols (private_scalars m) m.made ++ made_now m.symbols (private_scalars m)) → c.name ≡ r.name
            → ComesFrom (private_scalars m) (all_of (private_scalars m) z.statement) r → IsElementIn y.loops r
        by c k j same (inl h) =
            let here = subst (λ n. stands_in_statement n z.statement ≡ true) h.name
            (stands (private_scalars m) z.statement st.plain.0 st.plain.1 st.plain.2 h.first h.inside) in
            let round = loops_round m x.before.plain (distinct_too (numbers_of (nest_loops m)) x.before.parts.once) h.scalar
            h.among z first here in
            element_is h.scalar (round ∙ ap (λ (v : Standing). map round_loop v.loops) (sym is)) r h.is
        by c k j same (inr (inl h)) =
            let n = names_scalar b.declarations around deepest m x.before x.may z first r h c j same in
            scalar_is r i c n.0 n.1 same
        by c k j same (inr (inr h)) =
            let n = counts_by b.declarations around deepest m x.before x.may h.scalar h.among h.loop h.inside in
            absurd
            ((all_in (IsPreparedMade a.declarations (expanded m).symbols deeper) (expanded m).made x.behind.parts.made c k).counter
            n.0 (same ∙ (h.name ∙ n.1)))

  pub elements_stand : (y : Standing) → In y (nest_statements (expanded m)) → ¬ (y.statement.guard ≡ None) → (r : Reference)
      → In r (references_touched y.statement) → is_made (expanded m) r.name ≡ true → IsElementIn y.loops r
  elements_stand y inside guarded r i e = by (statement_made m x.before.plain y inside)
    where
      by : IsMadeOf (expanding (private_scalars m)) (nest_statements m) y → IsElementIn y.loops r
      by (inr none) = absurd (guarded none)
      by (inl h) = either y h.first inside h.inside h.is r i e

-- ---- by the variables alone

variables_are : (ls : List RoundLoop)
    → map loop_subscript ls ≡ map copies.variable_subscript (map (λ (l : RoundLoop). l.variable) ls)
variables_are [] = refl
variables_are (l ∷ ls) = ap (λ (ss : List Subscript). loop_subscript l ∷ ss) (variables_are ls)

by_variables : (ls : List Loop) (r : Reference) → IsElementIn ls r → splitting.IsElementIn ls r
by_variables ls r h = record {
  variables = map (λ (l : RoundLoop). l.variable) h.loops;
  is = h.is ∙ ap (λ (ss : List Subscript). subscripts (reverse ss)) (variables_are h.loops);
  among = λ x i.
      let o = In-map (λ (l : RoundLoop). l.variable) x h.loops i in
      subst (λ y. In y (variables_of_loops ls)) (sym o.is) (h.among o.it o.inside);
}

-- a loop of this variable
round_named : List ℕ → RoundLoop
round_named x = record { number = 0; variable = x; trip = trip_or_none None }

named_are : (xs : List (List ℕ)) → map loop_subscript (map round_named xs) ≡ map copies.variable_subscript xs
unfolding round_named
named_are [] = refl
named_are (x ∷ xs) = ap (λ (ss : List Subscript). copies.variable_subscript x ∷ ss) (named_are xs)

pub by_loops : (ls : List Loop) (r : Reference) → splitting.IsElementIn ls r → IsElementIn ls r
unfolding round_named
by_loops ls r h = record {
  loops = map round_named h.variables;
  is = h.is ∙ ap (λ (ss : List Subscript). subscripts (reverse ss)) (sym (named_are h.variables));
  among = λ l i.
      let o = In-map round_named l h.variables i in
      subst (λ (y : RoundLoop). In y.variable (variables_of_loops ls)) (sym o.is) (h.among o.it o.inside);
}

pub expanded_nest_has_elements : (p b a : Program) (around : List (List ℕ)) (deepest deeper : ℕ) (m : Nest)
    → IsExpandedInPlaces p b a around deepest deeper m → splitting.HasElements (expanded m)
expanded_nest_has_elements p b a around deepest deeper m x y inside guarded r i e =
    by_variables y.loops r (elements_stand p b a around deepest deeper m x y inside guarded r i e)
