-- A name that counts no loop is the variable of none of a prepared nest's loops.
use Rattle.std.proofs.Common.{◌≡◌, refl, sym, ap, ap₂, ◌∙◌, subst, inl, inr, ℕ, Bool, true, false, ◌&&◌, ◌||◌, List, []}
use Rattle.std.proofs.Common.{◌∷◌, map}
use Rattle.std.specs.Cmp.Lexicographic.{pointwise}
use Rattle.std.specs.Ordering.{int_eq}
use Rattle.std.specs.Str.{bytes_eq}
use Rattle.std.proofs.lemmas.Slice.Eq.{bytes_eq-Decides}
use Rattle.tree.specs.Plain.{Declaration}
use Rattle.meaning.specs.Store.{Cell}
use Rattle.last_values.specs.normal_forms.NormalLoops.{counter_name}
use Rattle.nest.specs.Bodies.{nest_loops}
use Rattle.nest.specs.Plain.{Loop, Nest}
use Rattle.nest_order.specs.orders.Lists.{Distinct, In}
use Rattle.nest_order.specs.orders.Shapes.{loops_of_shape}
use Rattle.nest_order.specs.runs.Guarded.{variable_cell}
use Rattle.nest_order.specs.runs.Nests.{is_one_of, is_nest_variable}
use Rattle.nest_order.specs.shapes.Shapes.{loop_numbered, numbers_of, shape_of, variable_of_loop}
use Rattle.emission.specs.graph_orders.Nests.{run_nest}
use Rattle.pass_laws.proofs.NormalFacts.LoopWalk as walk
use Rattle.pass_laws.proofs.NormalFacts.Tables.{each_asked, loop_there, loops_are, numbered}
use Rattle.pass_laws.specs.prepared_nests.After.{CountsNone}
use Rattle.pass_laws.specs.prepared_nests.Loops.{IsPreparedLoop}
use Rattle.pass_laws.specs.prepared_nests.Nests.{IsPrepared}
use Rattle.pass_laws.proofs.PreparedNests.Lists.{distinct_too}
use Rattle.pass_laws.proofs.PreparedNests.Walks.{walked}

module _ (es : List Declaration) (around : List (List ℕ)) (deepest : ℕ) (m : Nest) (h : IsPrepared es around deepest m) where
  abbrev all : List Loop
  all = nest_loops m

  once : Distinct (numbers_of all)
  once = distinct_too (numbers_of all) h.parts.once

  each_loop : walk.EachLoop (IsPreparedLoop es m.symbols) [] m.body
  each_loop = walked (IsPreparedLoop es m.symbols) [] m.body h.parts.loops

  abbrev variable_at : ℕ → List ℕ
  variable_at k = variable_of_loop (loop_numbered all k)

  -- a loop counts by the name that its number gives
  counter_of : (l : Loop) → In l all → variable_at l.number ≡ counter_name l.number
  counter_of l i =
      ap variable_of_loop (loop_there all l once i)
      ∙ (each_asked (IsPreparedLoop es m.symbols) all [] m.body h.plain each_loop l i).asked.variable

  counter_at : (k : ℕ) → In k (loops_of_shape (shape_of 0 m.body)) → variable_at k ≡ counter_name k
  counter_at k i =
      let r = numbered all k (subst (In k) (loops_are 0 m.body h.plain) i) in
      subst (λ j. variable_at j ≡ counter_name j) (sym r.number) (counter_of r.loop r.among)

  module _ (c : Cell) (none : CountsNone c.name) where
    other_name : (k : ℕ) → variable_at k ≡ counter_name k → bytes_eq (variable_at k) c.name ≡ false
    other_name k e = by (bytes_eq (variable_at k) c.name) refl
      where
        by : (b : Bool) → bytes_eq (variable_at k) c.name ≡ b → bytes_eq (variable_at k) c.name ≡ false
        by false f = f
        by true f = absurd (none k (sym ((bytes_eq-Decides (variable_at k) c.name).0 f) ∙ e))

    none_of : (ks : List ℕ) → ((k : ℕ) → In k ks → variable_at k ≡ counter_name k)
        → is_one_of (map (λ (k : ℕ). variable_cell (variable_at k)) ks) c ≡ false
    none_of [] f = refl
    none_of (k ∷ ks) f =
        ap₂ (λ a b. (a && pointwise int_eq [] c.subscripts) || b) (other_name k (f k (inl refl)))
        (none_of ks (λ j i. f j (inr i)))

    pub no_variable : is_nest_variable (run_nest m) c ≡ false
    no_variable = none_of (loops_of_shape (shape_of 0 m.body)) counter_at
