-- A statement of a nest that is asked about.
use Rattle.std.proofs.Common.{◌≡◌, ℕ, ◌+◌, ◌-◌, ◌<◌, ◌≤◌, List, map, length, get_or, Some, Result, Ok, Err, sym, ap, subst, ◌∙◌, arith}
use Rattle.std.specs.Option.{option_map}
use Rattle.std.specs.Prelude.{All, IfOk}
use Rattle.std.proofs.lemmas.List.{length-map}
use Rattle.subscripts.specs.Shapes.{IsForm}
use Rattle.tree.specs.View.{block_of, expression_of, reference_of}
use Rattle.tree.specs.declared.lists.Memory.{Memory}
use Rattle.tree.specs.declared.stmts.Block.{Block}
use Rattle.tree.specs.declared.stmts.Mark.{Mark}
use Rattle.nest.specs.Bodies as bodies
use Rattle.nest.specs.Plain.{Loop, Nest}
use Rattle.nest.specs.View.{loop_of}
use Rattle.array_form.specs.forms.Loops as forms
use Rattle.array_form.specs.forms.Statements.{array_form_of}
use Rattle.array_form.specs.holds.Statements.{statement_at}
use Rattle.array_form.specs.holds.Surroundings.{counted_loop, known_trip, surroundings_of}
use Rattle.array_form.specs.holds.View.{surroundings_view}
use Rattle.array_form.specs.declared.holds.loops.Surroundings.{Surroundings}
use Rattle.array_form.proofs.holds.Asked.{as_many, standing_at}
use Rattle.nest.specs.statement_loops.Standings.{standing_of}
use Rattle.nest.specs.declared.statement_loops.standings.Standing.{Standing}
use Rattle.array_form.specs.Loops.{AreLoopsOf, HasPlaces}
use Rattle.array_form.specs.Statement.{HasArrayForm, array_form_at}
use Rattle.array_form.proofs.SurroundingLaws.{has_places, own_loops}

pub in_range : (n : Nest) (s level : ℕ) (all : List Standing) → HasArrayForm n s level → map standing_of all ≡ bodies.nest_statements n → s - 1 < length all
in_range n s level all h e =
    let many = as_many n all e in
    let one = h.statement.from_one in
    let place = h.statement.place in
    omega arith

module _ (n : Nest) (s level : ℕ) (all : List Standing) (x : Standing) (a : Surroundings) (h : HasArrayForm n s level) (e : map standing_of all ≡ bodies.nest_statements n) (is : x ≡ get_or all (s - 1) x) where
  same : standing_of x ≡ statement_at n s
  same = standing_at n all s x e (in_range n s level all h e) is

  loops_same : map loop_of x.loops ≡ (statement_at n s).loops
  loops_same = ap (λ (y : bodies.Standing). y.loops) same

  pub places_of : surroundings_view a ≡ surroundings_of n (map loop_of x.loops) → a.loops ≡ map counted_loop (map loop_of x.loops) → HasPlaces a
  places_of v l =
      let few : length (map loop_of x.loops) ≤ 7 = subst (λ (ls : List Loop). length ls ≤ 7) (sym loops_same) h.statement.few_loops in
      has_places a n (map loop_of x.loops) v l few h.symbols

  pub loops_of : a.loops ≡ map counted_loop (map loop_of x.loops) → AreLoopsOf a a.loops
  loops_of l =
      own_loops a (map loop_of x.loops) l
      (subst (λ (ls : List Loop). All (λ (m : Loop). IsForm (length ls) (known_trip m.trip).top) ls) (sym loops_same) h.trips)

  pub from_within : a.loops ≡ map counted_loop (map loop_of x.loops) → level - 1 ≤ length a.loops
  from_within l =
      let size : length a.loops ≡ length (statement_at n s).loops = ap length l ∙ length-map (map loop_of x.loops) counted_loop ∙ ap length loops_same in
      let within = h.within in
      omega arith

  pub form_ok : (o : Result Block Memory) (mark : Mark) → surroundings_view a ≡ surroundings_of n (map loop_of x.loops)
      → mark ≡ record { nest = n.number; stmt = s; level = level }
      → IfOk o (λ b. block_of b ≡ array_form_of (surroundings_view a) ((level - 1) + 1) x.stmt.line (Some mark) (option_map expression_of x.stmt.guard) (reference_of x.stmt.left) (expression_of x.stmt.right))
      → IfOk o (λ b. block_of b ≡ array_form_at n s level)
  form_ok (Ok b) mark v m g =
      let one = h.from_one in
      let k : (level - 1) + 1 ≡ level = omega arith in
      g ∙ ap (λ (w : forms.FormSurroundings). array_form_of w ((level - 1) + 1) x.stmt.line (Some mark) (option_map expression_of x.stmt.guard) (reference_of x.stmt.left) (expression_of x.stmt.right)) v
      ∙ ap (λ j. array_form_of (surroundings_of n (map loop_of x.loops)) j x.stmt.line (Some mark) (option_map expression_of x.stmt.guard) (reference_of x.stmt.left) (expression_of x.stmt.right)) k
      ∙ ap (λ (q : Mark). array_form_of (surroundings_of n (map loop_of x.loops)) level x.stmt.line (Some q) (option_map expression_of x.stmt.guard) (reference_of x.stmt.left) (expression_of x.stmt.right)) m
      ∙ ap (λ (y : bodies.Standing). array_form_of (surroundings_of n y.loops) level y.statement.line (Some (record { nest = n.number; stmt = s; level = level })) y.statement.guard y.statement.left y.statement.right) same
  form_ok (Err m) mark v k g = g
