-- A worked nest: DO V = 1, 3 with A(V) = 2 in it, where A has the bounds 1 and 3. What is asked of a nest and its edges
-- can be met.
use Rattle.std.proofs.Common.{◌≡◌, refl, sym, ap, ◌∙◌, subst, ◌⊎◌, inl, inr, ℕ, suc, ◌<◌, ℤ, pos, List, [], ◌∷◌, length, Result, Ok, Option, Some, None, arith}
use Rattle.std.specs.Prelude.{IfSome}
use Rattle.tree.specs.OperationFaults.{kind_of}
use Rattle.tree.specs.Plain.{Number, Named, Only, no_subscripts, subscript, Given, Declaration, no_statements}
use Rattle.tree.specs.declared.ops.Kind.TheVariants.{Integer}
use Rattle.tree.specs.declared.ops.Value.{Value}
use Rattle.tree.specs.declared.ops.Value.TheVariants.{Int}
use Rattle.tree.specs.declared.ops.Fault.{Fault}
use Rattle.meaning.specs.Store.{Store, opening_bounds}
use Rattle.meaning.specs.Typed.{declared}
use Rattle.meaning.specs.Value.{trip_count}
use Rattle.nest_order.specs.orders.Graphs.{Arc, Candidate, Direction, Less, Same, Greater, Just, Place}
use Rattle.nest_order.specs.orders.Lists.{In}
use Rattle.nest_order.specs.orders.Shapes.{Single, Loop, no_shapes, shape, Stands}
use Rattle.nest_order.specs.runs.Guarded.{GuardedAssignment, at_iterations}
use Rattle.nest_order.specs.runs.Nests.{RunNest, variables_round}
use Rattle.nest_order.specs.runs.Stores.{IsNestIn, IsNestText, Setting}
use Rattle.nest_order.specs.runs.Touched.{AreEdgesOf}
use Rattle.nest_order.proofs.runs.Holding.{effect_stored, named_cell}
use Rattle.nest_order.proofs.runs.Results.{ok_same}

-- the names V and A
abbrev v : List ℕ
v = 86 ∷ []

abbrev a : List ℕ
a = 65 ∷ []

abbrev stores_two : GuardedAssignment
stores_two = record { guard = None; left = record { name = a; subscripts = subscript (Only (Named v no_subscripts)) no_subscripts }; right = Number (pos 2) }

abbrev worked : RunNest
worked = record {
  shape = Loop 1 (shape (Single 1) no_shapes);
  loops_of = λ s. 1 ∷ [];
  statement_at = λ s. stores_two;
  linear = λ s e. None;
  variable_at = λ l. v;
  trip_at = λ l. Number (pos 3);
  turns_of = λ u l is. 3;
  symbols = [];
}

abbrev declarations : List Declaration
declarations = record { name = v; kind = Integer; extent = Given [] } ∷ record { name = a; kind = Integer; extent = Given ((pos 1, pos 3) ∷ []) } ∷ []

abbrev setting : Setting
setting = record {
  program = record { name = None; declarations = declarations; body = no_statements };
  bounds = opening_bounds declarations;
  values = λ k. pos 0;
}

apart : ◌≡◌ {A = List ℕ} a v → ⊥
apart e = by (ap head e)
  where
    head : List ℕ → ℕ
    head [] = 0
    head (x ∷ xs) = x

    by : ◌≡◌ {A = ℕ} 65 86 → ⊥
    by f = omega arith

only_one : (m : ℕ) → In m (1 ∷ []) → m ≡ 1
only_one m (inl e) = e
only_one m (inr i) = absurd i

stands_in_one : (s : ℕ) (ls : List ℕ) → Stands (Loop 1 (shape (Single 1) no_shapes)) s ls → 1 ∷ [] ≡ ls
stands_in_one s [] h = absurd h
stands_in_one s (m ∷ ls) h = by ls h.1
  where
    by : (ls : List ℕ) → Stands (Single 1) s ls ⊎ ⊥ → 1 ∷ [] ≡ m ∷ ls
    by [] (inl g) = ap (λ k. k ∷ []) h.0
    by (l ∷ ls) (inl g) = absurd g
    by ls (inr g) = absurd g

worked_text : IsNestText worked
worked_text = record {
  nest = record { rising = (tt, tt); single = (tt, tt); fits = λ s ls h. stands_in_one s ls h };
  variables = λ l m i j e. only_one l i ∙ sym (only_one m j);
  own = λ s l i j k. j;
  unwritten = λ s l i j e. apart e;
  symbols = λ s x i j. absurd j;
  others = λ l x i j. absurd j;
  trips = λ round l x h i. absurd i;
  plain = λ s i. (tt, tt, (tt, tt));
}

number_known : (z : ℤ) → ◌≡◌ {A = Result ℤ Fault} (Ok (pos 3)) (Ok z) → pos 3 ≡ z
number_known z e = ok_same {F = Fault} (pos 3) z e

count_known : (k : ℕ) → trip_count (pos 1) (pos 3) (pos 1) ≡ Ok k → k ≡ 3
count_known k e = sym (ok_same {F = Fault} 3 k e)

two_known : (x : Value) → ◌≡◌ {A = Result Value Fault} (Ok (Int (pos 2))) (Ok x) → Int (pos 2) ≡ x
two_known x e = ok_same {F = Fault} (Int (pos 2)) x e

no_form : {A B : Type 0} (x : A) → ◌≡◌ {A = Option A} None (Some x) → B
no_form x e = absurd (by x e)
  where
    by : {A : Type 0} (x : A) → ◌≡◌ {A = Option A} None (Some x) → ⊥
    by x e = cc

pub worked_nest : IsNestIn 31 worked setting
worked_nest = record {
  text = worked_text;
  variables = λ l i. refl;
  integer = λ l i. refl;
  symbols = λ x i. absurd i;
  typed = λ x t c u is h e. (
      let there : Store = at_iterations (variables_round worked x.statement) x.iterations t in
      let st = effect_stored 31 stores_two there c u e in
      let name : c.name ≡ a = named_cell 31 stores_two.left there c st.place in
      subst (λ y. IfSome (declared declarations y) (λ (d : Declaration). kind_of u ≡ d.kind)) (sym name)
      (ap kind_of (sym (two_known u st.gives))));
  trips = λ round l before t z k lies within h at g e. count_known k (subst (λ y. trip_count (pos 1) y (pos 1) ≡ Ok k) (sym (number_known z g)) e);
  linear = λ x t e f z is h g. no_form f g;
}

-- ---- its edges: what isn't linear may have any value, so each instance may depend on each earlier one

abbrev left_side : Place
left_side = record { statement = 1; reference = 0 }

abbrev carried : Arc
carried = record { from = left_side; to = left_side; signs = Just Less ∷ [] }

covered : (c : Candidate) → In c.from.statement (1 ∷ []) × (c.from.reference < 1) → In c.to.statement (1 ∷ []) × (c.to.reference < 1) → length c.vector ≡ 1
    → Rattle.nest_order.specs.orders.Graphs.MayBegin c.vector c.from.statement c.to.statement → Rattle.nest_order.specs.orders.Graphs.StandsFor carried c
covered c p q len begins = (place c.from p, place c.to q, signs c.vector len begins)
  where
    made : {s t r u : ℕ} → s ≡ t → r ≡ u → ◌≡◌ {A = Place} (record { statement = s; reference = r }) (record { statement = t; reference = u })
    made e f = λ i. record { statement = e i; reference = f i }

    place : (z : Place) → In z.statement (1 ∷ []) × (z.reference < 1) → left_side ≡ z
    place z h = made (sym (only_one z.statement h.0)) (let l : z.reference < 1 = h.1 in let e : 0 ≡ z.reference = omega arith in e)

    signs : (ds : List Direction) → length ds ≡ 1 → Rattle.nest_order.specs.orders.Graphs.MayBegin ds c.from.statement c.to.statement → Rattle.nest_order.specs.orders.Graphs.Covers (Just Less ∷ []) ds
    signs [] e h = absurd (omega arith)
    signs (Less ∷ []) e h = (refl, tt)
    signs (Same ∷ []) e h = absurd (let f = only_one c.from.statement p.0 in let g = only_one c.to.statement q.0 in let l : c.from.statement < c.to.statement = h in omega arith)
    signs (Greater ∷ []) e h = absurd h
    signs (d ∷ (k ∷ ds)) e h = absurd (let f : suc (suc (length ds)) ≡ 1 = e in omega arith)

pub worked_edges : AreEdgesOf worked (carried ∷ [])
worked_edges = record {
  covered = λ c h p. (carried, inl refl, covered c h.0 h.1 h.3 h.4);
  level = λ z i. level z i;
  stands = λ z i. (record { from = left_side; to = left_side; vector = Less ∷ [] }, ((inl refl, omega arith), (inl refl, omega arith), inl refl, refl, tt), stands z i);
}
  where
    level : (z : Arc) → (z ≡ carried) ⊎ ⊥ → Rattle.nest_order.specs.orders.Graphs.HasLevel z.signs
    level z (inl e) = subst (λ (y : Arc). Rattle.nest_order.specs.orders.Graphs.HasLevel y.signs) (sym e) tt
    level z (inr i) = absurd i

    stands : (z : Arc) → (z ≡ carried) ⊎ ⊥ → Rattle.nest_order.specs.orders.Graphs.StandsFor z (record { from = left_side; to = left_side; vector = Less ∷ [] })
    stands z (inl e) = subst (λ (y : Arc). Rattle.nest_order.specs.orders.Graphs.StandsFor y (record { from = left_side; to = left_side; vector = Less ∷ [] })) (sym e) (refl, refl, (refl, tt))
    stands z (inr i) = absurd i
