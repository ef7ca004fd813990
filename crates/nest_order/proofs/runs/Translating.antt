-- Recursive emission keeps the meaning of a nest, with its loops as loops or with other statements in their place.
use Rattle.std.proofs.Common.{◌≡◌, refl, sym, ap, ◌∙◌, subst, inl, inr, ℕ, zero, suc, ◌+◌, ◌≤◌, ◌<◌, ◌^◌, nat_lt, ℤ, pos, ◌+ℤ◌, Bool, true, List, [], ◌∷◌, ◌++◌, map, length, Ok, Option, Some, None, append_assoc, append-nil, arith}
use Rattle.std.proofs.Math.Pow.{pow_mono}
use Rattle.tree.specs.Plain.{Statement, statement}
use Rattle.tree.specs.declared.ops.Value.{Value}
use Rattle.tree.specs.declared.ops.Value.TheVariants.{Int}
use Rattle.tree.specs.declared.ops.Fault.{Fault}
use Rattle.meaning.specs.Run.{State, Going, Act, does, does_all, repeated, turn}
use Rattle.meaning.specs.Store.{Store, Cell, put}
use Rattle.meaning.specs.Value.{is_in_range, exact}
use Rattle.meaning_laws.specs.arrays.Instances.{after}
use Rattle.nest_order.specs.orders.Graphs.{edge_of}
use Rattle.nest_order.specs.orders.Lists.{In}
use Rattle.nest_order.specs.orders.Nests.{IsInstance}
use Rattle.nest_order.specs.orders.Orders.{runs}
use Rattle.nest_order.specs.orders.Shapes.{Shape, Single, Loop, Shapes, no_shapes, shape, statements, loops_of_shape, Instance, within_turn, turns, instances, instances_in, Within}
use Rattle.nest_order.proofs.orders.Covering.{edges_may_be}
use Rattle.nest_order.proofs.orders.Membership.{instance_stands}
use Rattle.nest_order.proofs.orders.Order.{split, joined}
use Rattle.nest_order.proofs.orders.Theorems.{arranged, emission_keeps}
use Rattle.nest_order.specs.runs.Blocks.{Layout, loop_of, or_statement, statement_of, written, written_in}
use Rattle.nest_order.specs.runs.Forms.{AreCounted, AreCountedIn, FormsAreInstances}
use Rattle.nest_order.specs.runs.Guarded.{at_iterations, dialect, effect, sequential}
use Rattle.nest_order.specs.runs.Nests.{AreAt, LoopStands, Near, RunNest, acts, effect_of, variables_round}
use Rattle.nest_order.specs.runs.Stores.{IsNestIn, Setting}
use Rattle.nest_order.specs.runs.Touched.{Touches, references_of}
use Rattle.nest_order.specs.runs.Laws.{EmissionKeepsMeaning, TranslationKeepsMeaning}
use Rattle.nest_order.proofs.runs.Results.{ok_same, runs-split, runs-map}
use Rattle.nest_order.proofs.runs.Variables.{var, variable_is, AreAt-more, AreAt-last, AreAt-put, Near-same, Near-put, Near-variable, Within-length, Within-both, put_there, place_of}
use Rattle.nest_order.proofs.runs.Alike.{effect_there, effect_near}
use Rattle.nest_order.proofs.runs.Dialects.{number_kept}
use Rattle.nest_order.proofs.runs.Going.{moved, loops_at, turns_at, Went, guarded_went, trip_bounded, small_exact}
use Rattle.nest_order.proofs.runs.Holding.{variable_inside, instance_inside}
use Rattle.nest_order.proofs.runs.Orders.{order_gives_store}
use Rattle.nest_order.proofs.runs.Passing.{acted, acting}
use Rattle.nest_order.proofs.runs.Runs.{one_more, trip, Inside, at, here, Lies, LieIn, lies_body, lies_first, lies_rest, loop_of_lying, there, fresh, at_after, Placed, placed_more, nest_lies, outermost, statement_run, statement_from}
use Rattle.nest_order.proofs.runs.Counting.{emission_lies, statement_counted, other_counted_in}

module _ (bits : ℕ) (arrays : Bool) (n : RunNest) (w : Setting) (ok : IsNestIn bits n w) (wide : 31 ≤ bits) where
  in_range : (k : ℕ) → k ≤ 2147483647 → is_in_range bits (Int (pos k)) ≡ true
  in_range k h =
      let a : 2 ^ 31 ≤ 2 ^ bits = pow_mono wide in
      let b : 2147483648 ≤ 2 ^ bits = a in
      let e : nat_lt k (2 ^ bits) ≡ true = grind arith in e

  abbrev IsIt : Instance → Type 0
  IsIt = IsInstance n.loops_of (trip bits n w ok) n.shape

  pub record Ended (round before : List ℕ) (u : Store) (s : State) : Type 0 where
    pub way : s.way ≡ Going
    pub near : Near n u s.store
    pub holds : AreAt n round before s.store
    pub inside : Inside bits n w ok s.store

  abbrev pub Back : List ℕ → List ℕ → List Instance → Act → Type 0
  Back round before xs act = (t u : Store) (s : State) → Near n t s.store → AreAt n round before s.store → Inside bits n w ok s.store → s.way ≡ Going → runs (here bits n w ok before) xs t ≡ Ok u → Ended round before u (act s)

  -- ---- a statement

  went : (x : Instance) (before : List ℕ) (t u : Store) → runs (here bits n w ok before) (x ∷ []) t ≡ Ok u
      → (o : Option (Cell × Value)) × (effect_of n (sequential bits) (at bits n w ok before x) t ≡ Ok o) × (after o t ≡ u)
  went x before t u e =
      let p = split (here bits n w ok before x t) (runs (here bits n w ok before) []) u e in
      let a = acted (sequential bits) n (at bits n w ok before x) t p.0 p.1 in
      (a.0, a.1, a.2 ∙ ok_same {F = Fault} p.0 u p.2)

  back_leaf : (z : Layout) (s : ℕ) (round before : List ℕ) → In s (statements n.shape) → n.loops_of s ≡ round → Placed bits n w ok round before
      → Back round before (record { statement = s; iterations = [] } ∷ []) (does (dialect bits arrays) None (statement_of n z s))
  back_leaf z s round before i fits placed t u q near holds inside way e =
      let a = went (record { statement = s; iterations = [] }) before t u e in
      let holds' : AreAt n (n.loops_of s) before q.store = subst (λ ls. AreAt n ls before q.store) (sym fits) holds in
      let same_t = effect_there bits n ok.text s i before t q.store near holds' in
      let same_q = effect_there bits n ok.text s i before q.store q.store (Near-same n q.store) holds' in
      let at_t = subst (λ is. effect (sequential bits) (n.statement_at s) (at_iterations (variables_round n s) is t) ≡ Ok a.0) (append-nil before) a.1 in
      let at_q : effect (sequential bits) (n.statement_at s) q.store ≡ Ok a.0 = sym same_t ∙ at_t in
      finish a.0 (same_q ∙ at_q) a.2 (guarded_went bits arrays (z.line_at s) (z.mark_at s) (n.statement_at s) q a.0 way at_q)
    where
      is_it : IsIt (record { statement = s; iterations = before })
      is_it = (i, subst (λ ls. Within (trip bits n w ok) [] ls before) (sym fits) placed.within)

      finish : (o : Option (Cell × Value)) → effect_of n (sequential bits) (record { statement = s; iterations = before }) q.store ≡ Ok o → after o t ≡ u → Went q (does (dialect bits arrays) None (statement_of n z s) q) o
          → Ended round before u (does (dialect bits arrays) None (statement_of n z s) q)
      finish None f h g = record {
        way = g.way;
        near = subst (Near n u) (sym g.store) (subst (λ v. Near n v q.store) h near);
        holds = subst (AreAt n round before) (sym g.store) holds;
        inside = subst (Inside bits n w ok) (sym g.store) inside;
      }
      finish (Some (c, v)) f h g = record {
        way = g.way;
        near = subst (Near n u) (sym g.store) (subst (λ x. Near n x (put c v q.store)) h (Near-put n c v t q.store near));
        holds = subst (AreAt n round before) (sym g.store) (at_after bits n w ok round before (record { statement = s; iterations = before }) is_it q.store c v placed.known f holds);
        inside = subst (Inside bits n w ok) (sym g.store) (instance_inside bits n w ok (record { statement = s; iterations = before }) is_it q.store c v inside f);
      }

  -- ---- instances from another store that is near

  pub record Beside (round before : List ℕ) (xs : List Instance) (u s : Store) : Type 0 where
    pub store : Store
    pub ran : runs (here bits n w ok before) xs s ≡ Ok store
    pub near : Near n u store
    pub holds : AreAt n round before store
    pub inside : Inside bits n w ok store

  beside : (round before : List ℕ) (xs : List Instance) → Placed bits n w ok round before → ((x : Instance) → In x xs → IsIt (at bits n w ok before x)) → (t u s : Store) → Near n t s → AreAt n round before s → Inside bits n w ok s
      → runs (here bits n w ok before) xs t ≡ Ok u → Beside round before xs u s
  beside round before [] placed are t u s near holds inside e = record { store = s; ran = refl; near = subst (λ v. Near n v s) (ok_same {F = Fault} t u e) near; holds = holds; inside = inside }
  beside round before (x ∷ xs) placed are t u s near holds inside e =
      let p = split (here bits n w ok before x t) (runs (here bits n w ok before) xs) u e in
      let a = acted (sequential bits) n (at bits n w ok before x) t p.0 p.1 in
      let is = are x (inl refl) in
      let same = effect_near bits n ok.text x.statement is.0 (before ++ x.iterations) t s near (Within-length (trip bits n w ok) [] (n.loops_of x.statement) (before ++ x.iterations) is.1) in
      let there : effect_of n (sequential bits) (at bits n w ok before x) s ≡ Ok a.0 = sym same ∙ a.1 in
      let step = acting (sequential bits) n (at bits n w ok before x) s a.0 there in
      let next = moves a.0 there in
      let rest = beside round before xs placed (λ y i. are y (inr i)) p.0 u (after a.0 s) (subst (λ v. Near n v (after a.0 s)) a.2 next.0) next.1 next.2 p.2 in
      record { store = rest.store; ran = joined (here bits n w ok before x s) (runs (here bits n w ok before) xs) (after a.0 s) step ∙ rest.ran; near = rest.near; holds = rest.holds; inside = rest.inside }
    where
      moves : (o : Option (Cell × Value)) → effect_of n (sequential bits) (at bits n w ok before x) s ≡ Ok o → Near n (after o t) (after o s) × AreAt n round before (after o s) × Inside bits n w ok (after o s)
      moves None f = (near, holds, inside)
      moves (Some (c, v)) f = (
        Near-put n c v t s near,
        at_after bits n w ok round before (at bits n w ok before x) (are x (inl refl)) s c v placed.known f holds,
        instance_inside bits n w ok (at bits n w ok before x) (are x (inl refl)) s c v inside f,
      )

  instances_are : (t : Shape) (round before : List ℕ) → Lies bits n w ok round t → Placed bits n w ok round before → (x : Instance) → In x (instances (trip bits n w ok) t before) → IsIt (at bits n w ok before x)
  instances_are t round before lies placed x i =
      let h = instance_stands (trip bits n w ok) t before x i in
      let a = lies.statements_there x.statement h.loops h.stands in
      (a.0, subst (λ ls. Within (trip bits n w ok) [] ls (before ++ x.iterations)) (sym a.1) (Within-both (trip bits n w ok) [] round h.loops before x.iterations placed.within h.within))

  -- ---- a loop

  module _ (line l : ℕ) (round before : List ℕ) (lies : LoopStands n.shape round l) (body : Act) (f : ℕ → List Instance) where
    in_turn : (i : ℕ) → (x : Instance) (s : Store) → here bits n w ok before (within_turn i x) s ≡ here bits n w ok (before ++ i ∷ []) x s
    in_turn i x s = ap (λ is. acts n (sequential bits) (record { statement = x.statement; iterations = is }) s) (sym (append_assoc before (i ∷ []) x.iterations))

    back_turns : (k i : ℕ) → ((j : ℕ) → i ≤ j → j < i + k → Back (round ++ l ∷ []) (before ++ j ∷ []) (f j) body) → i + k ≤ 2147483647
        → (t u : Store) (s : State) → Near n t s.store → AreAt n round before s.store → s.store.held (var n l) ≡ Int (pos i) → Inside bits n w ok s.store → s.way ≡ Going
        → runs (here bits n w ok before) (turns i k (λ i. map (within_turn i) (f i))) t ≡ Ok u → Ended round before u (repeated k (turn (dialect bits arrays) None line (n.variable_at l) (pos 1) body) s)
    back_turns zero i each top t u s near holds at_i inside way e = record { way = way; near = subst (λ v. Near n v s.store) (ok_same {F = Fault} t u e) near; holds = holds; inside = inside }
    back_turns (suc k) i each top t u s near holds at_i inside way e =
        let a = runs-split (here bits n w ok before) (map (within_turn i) (f i)) (turns (suc i) k (λ i. map (within_turn i) (f i))) t u e in
        let s1 : State = moved s (s.steps + 1) s.store in
        let b = each i (omega arith) (omega arith) t a.0 s1 near (AreAt-more n round before l i s.store holds at_i) inside refl
        (sym (runs-map (here bits n w ok before) (here bits n w ok (before ++ i ∷ [])) (within_turn i) (f i) t (in_turn i)) ∙ a.1) in
        let h = AreAt-last n round before l i (body s1).store b.holds in
        let next : pos i +ℤ pos 1 ≡ pos (suc i) = one_more i in
        let small : suc i ≤ 2147483647 = omega arith in
        let known = there bits n w ok round l lies in
        let turn_is = turns_at (dialect bits arrays) line (n.variable_at l) body s (pos i) way (body s1) refl b.way (place_of (n.variable_at l) (body s1).store (b.inside.bounds (n.variable_at l) ∙ ok.variables l known)) h.1
        (subst (λ k. exact k ≡ Ok k) (sym next) (small_exact (suc i) small)) (subst (λ k. is_in_range bits (Int k) ≡ true) (sym next) (in_range (suc i) small)) in
        let s2 : State = turn (dialect bits arrays) None line (n.variable_at l) (pos 1) body s in
        let store_is : s2.store ≡ put (var n l) (Int (pos (suc i))) (body s1).store = ap (λ (z : State). z.store) turn_is ∙ ap (λ k. put (var n l) (Int k) (body s1).store) next in
        back_turns k (suc i) (λ j a b. each j (omega arith) (omega arith)) (omega arith) a.0 u s2
        (subst (Near n a.0) (sym store_is) (Near-variable n (var n l) (Int (pos (suc i))) a.0 (body s1).store (variable_is n l known) b.near))
        (subst (AreAt n round before) (sym store_is) (AreAt-put n round before (var n l) (Int (pos (suc i))) (body s1).store (fresh bits n w ok round l lies) h.0))
        (ap (λ (z : Store). z.held (var n l)) store_is ∙ put_there (var n l) (Int (pos (suc i))) (body s1).store)
        (subst (Inside bits n w ok) (sym store_is) (variable_inside bits n w ok l known (pos (suc i)) (body s1).store (in_range (suc i) small) b.inside))
        (ap (λ (z : State). z.way) turn_is)
        a.2

  -- ---- what is written

  module _ (z : Layout) (form : List ℕ → Shape → Option Statement) (equal : FormsAreInstances bits n w arrays form) where
    mutual
      written_back : (t : Shape) (round before : List ℕ) → Lies bits n w ok round t → Placed bits n w ok round before → AreCounted bits n w round before t
          → Back round before (instances (trip bits n w ok) t before) (does (dialect bits arrays) None (written n z form round t))
      written_back (Single r) round before lies placed counted t u s near holds inside way e =
          let a = lies.statements_there r [] refl in back_leaf z r round before a.0 (a.1 ∙ append-nil round) placed t u s near holds inside way e
      written_back (Loop l ts) round before lies placed counted t u s near holds inside way e =
          let stands = loop_of_lying bits n w ok l ts round lies in
          let known = there bits n w ok round l stands in
          let c = counted.0 in
          let k = trip_bounded c.top (trip bits n w ok l before) c.counts in
          let s1 : State = moved s s.steps (put (var n l) (Int (pos 1)) s.store) in
          let same = loops_at (dialect bits arrays) (z.loop_line l) (n.variable_at l) (n.trip_at l) (written_in n z form (round ++ l ∷ []) ts) s c.top (trip bits n w ok l before) way (number_kept bits arrays s.store (n.trip_at l) c.top (c.gives s.store inside holds)) c.counts
          (place_of (n.variable_at l) s.store (inside.bounds (n.variable_at l) ∙ ok.variables l known)) (in_range 1 (omega arith)) in
          which (form round (Loop l ts)) refl
          (subst (Ended round before u) (sym same)
          (back_turns (z.loop_line l) l round before stands (does_all (dialect bits arrays) None (written_in n z form (round ++ l ∷ []) ts)) (λ i. instances_in (trip bits n w ok) ts (before ++ i ∷ [])) (trip bits n w ok l before) 1
          (λ j a b. written_back_in ts (round ++ l ∷ []) (before ++ j ∷ []) (lies_body bits n w ok l ts round lies) (placed_more bits n w ok round before l j stands placed a (omega arith)) (counted.1 j a (omega arith))) (omega arith)
          t u s1
          (Near-variable n (var n l) (Int (pos 1)) t s.store (variable_is n l known) near)
          (AreAt-put n round before (var n l) (Int (pos 1)) s.store (fresh bits n w ok round l stands) holds)
          (put_there (var n l) (Int (pos 1)) s.store) (variable_inside bits n w ok l known (pos 1) s.store (in_range 1 (omega arith)) inside) refl e))
        where
          which : (o : Option Statement) → form round (Loop l ts) ≡ o → Ended round before u (does (dialect bits arrays) None (loop_of n z l (written_in n z form (round ++ l ∷ []) ts)) s)
              → Ended round before u (does (dialect bits arrays) None (or_statement o (loop_of n z l (written_in n z form (round ++ l ∷ []) ts))) s)
          which None f d = d
          which (Some c) f d =
              let b = beside round before (instances (trip bits n w ok) (Loop l ts) before) placed (instances_are (Loop l ts) round before lies placed) t u s.store near holds inside e in
              let a = equal round before (Loop l ts) c s b.store f lies.statements_there placed.within counted inside holds way b.ran in
              record {
                way = a.0;
                near = subst (Near n u) (sym a.1) b.near;
                holds = subst (AreAt n round before) (sym a.1) b.holds;
                inside = subst (Inside bits n w ok) (sym a.1) b.inside;
              }

      pub written_back_in : (ts : Shapes) (round before : List ℕ) → LieIn bits n w ok round ts → Placed bits n w ok round before → AreCountedIn bits n w round before ts
          → Back round before (instances_in (trip bits n w ok) ts before) (does_all (dialect bits arrays) None (written_in n z form round ts))
      written_back_in no_shapes round before lies placed counted t u s near holds inside way e = record { way = way; near = subst (λ v. Near n v s.store) (ok_same {F = Fault} t u e) near; holds = holds; inside = inside }
      written_back_in (shape k ts) round before lies placed counted t u s near holds inside way e =
          let a = runs-split (here bits n w ok before) (instances (trip bits n w ok) k before) (instances_in (trip bits n w ok) ts before) t u e in
          let b = written_back k round before (lies_first bits n w ok k ts round lies) placed counted.0 t a.0 s near holds inside way a.1 in
          written_back_in ts round before (lies_rest bits n w ok k ts round lies) placed counted.1 a.0 u (does (dialect bits arrays) None (written n z form round k) s) b.near b.holds b.inside b.way a.2

pub translation_keeps_meaning : TranslationKeepsMeaning
translation_keeps_meaning bits arrays n w arcs ts y z form s wide ok complete emitted equal inside go =
    let turns_here : ℕ → List ℕ → ℕ = n.turns_of w.values in
    let way = statement_from bits n w ok y n.shape [] s go in
    let a = statement_run bits n w ok y n.shape [] [] (nest_lies bits n w ok) (outermost bits n w ok) s.store s (Near-same n s.store) tt inside go in
    let counted = statement_counted bits n w ok y n.shape [] [] (nest_lies bits n w ok) (outermost bits n w ok) s.store s (Near-same n s.store) tt inside go in
    let may = edges_may_be n.loops_of n.turns_of (λ r. length (references_of n r)) (Touches n) n.shape arcs complete in
    let whole = arranged n.loops_of turns_here n.shape ok.text.nest (map edge_of arcs) may ts emitted in
    let lies = emission_lies bits n w ok ts whole in
    let keeps = emission_keeps n.loops_of turns_here n.shape ok.text.nest (map edge_of arcs) may ts emitted in
    let run = order_gives_store bits n w ok arcs complete (instances_in turns_here ts []) keeps s.store a.store inside a.ran in
    let b = written_back_in bits arrays n w ok wide z form equal ts [] [] lies (outermost bits n w ok) (other_counted_in bits n w ok counted ts [] [] lies tt) s.store a.store s (Near-same n s.store) tt inside way run in
    record { way = b.way; near = record { bounds = λ x. sym (a.near.bounds x) ∙ b.near.bounds x; held = λ c e. sym (a.near.held c e) ∙ b.near.held c e } }

pub emission_keeps_meaning : EmissionKeepsMeaning
emission_keeps_meaning bits arrays n w arcs ts y z s wide ok complete emitted inside go =
    translation_keeps_meaning bits arrays n w arcs ts y z (λ r u. None) s wide ok complete emitted (λ round before t c s u f. no_form c f) inside go
  where
    no_form : {A : Type 0} (c : Statement) → ◌≡◌ {A = Option Statement} None (Some c) → A
    no_form c f = absurd (some_none f)
      where
        some_none : ◌≡◌ {A = Option Statement} None (Some c) → ⊥
        some_none f = cc
