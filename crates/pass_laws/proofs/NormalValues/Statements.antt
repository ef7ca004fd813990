-- An assignment with forms of the counters in the place of the loops' variables stores the same in the same cell.
use Rattle.std.proofs.Common.{◌≡◌, refl, sym, ap, ◌∙◌, subst, ℕ, ◌^◌, ◌<◌, ◌≤◌, ℤ, pos, negsuc, Bool, true, false, cond}
use Rattle.std.proofs.Common.{◌&&◌, List, [], ◌∷◌, ◌++◌, Ok, Option, Some, None, Contains, arith}
use Rattle.std.specs.Prelude.{nat_abs}
use Rattle.std.specs.Option.{option_map}
use Rattle.std.specs.Str.{bytes_eq}
use Rattle.std.specs.Cmp.Lexicographic.{pointwise}
use Rattle.std.specs.Ordering.{int_eq}
use Rattle.std.proofs.lemmas.Bool.Decides.{Decides-ltb}
use Rattle.std.proofs.Math.Nat.{pow-le-pow_right}
use Rattle.tree.specs.Operators.{fits}
use Rattle.tree.specs.declared.ops.Value.{Value}
use Rattle.tree.specs.declared.ops.Value.TheVariants.{Int}
use Rattle.tree.specs.Plain.{Expression, Reference}
use Rattle.meaning.specs.Names.{is_among}
use Rattle.meaning.specs.Store.{Store, Cell, put, same_cell, cell_at, cell_in}
use Rattle.meaning.specs.Value.{value_of, subscript_values, cell_named, is_in_range}
use Rattle.meaning.specs.Run.{State, Going, does}
use Rattle.rewrite.specs.Following.{sequential}
use Rattle.rewrite.specs.Making.{made}
use Rattle.rewrite.proofs.Replacing.{either_false}
use Rattle.rewrite.proofs.Values.{parted, joined, cell_in-named}
use Rattle.linear_forms.specs.Laws.{HoldsSized}
use Rattle.linear_forms.specs.Linear.{HaveValues}
use Rattle.nest.specs.Blocks.{guarded_statement, under_guard, assignment_of}
use Rattle.nest.specs.Plain.{Guarded}
use Rattle.nest_rewrite.specs.Statements.{rewritten_statement}
use Rattle.normal_loops.specs.Values.{with_value, in_text, statement_with_values, normal_statement}
use Rattle.nest_order.specs.runs.Guarded as effects
use Rattle.nest_order.proofs.runs.Ending.{Assigned, assigned}
use Rattle.nest_order.proofs.runs.Going.{guarded_went}
use Rattle.last_values.specs.declared.normal_forms.loops.NormalLoop.{NormalLoop}
use Rattle.last_values.specs.normal_forms.NormalLoops.{counters_of, variables_of}
use Rattle.last_values.specs.normal_forms.Texts.{variable_text}
use Rattle.pass_laws.specs.normal_values.Beside.{AreApart, IsBeside}
use Rattle.pass_laws.specs.normal_values.Laws.{StatementBeside}
use Rattle.pass_laws.proofs.NormalValues.Chains.{AreStanding, between, round_stands}
use Rattle.pass_laws.proofs.NormalValues.Counters.{apart_other, variables_apart, counters_apart, not_among}
use Rattle.pass_laws.proofs.NormalValues.Mixed.{value_mixed, subscripts_mixed}
use Rattle.pass_laws.proofs.NormalValues.Replaced.{replaced_value, replaced_subscripts, canonical_value, canonical_subscripts}

-- ---- what an assignment takes from a store

-- an assignment to the name x of the value v, at these subscripts
record Takes (bits : ℕ) (u : Store) (x : List ℕ) (v : Value) (zs : List ℤ) (g : Guarded) : Type 0 where
  unguarded : g.guard ≡ None
  name : g.left.name ≡ x
  right : value_of (sequential bits) g.right u ≡ Ok v
  subscripts : subscript_values (sequential bits) g.left.subscripts u ≡ Ok zs

module _ (bits : ℕ) (symbols : List (List ℕ)) (values : ℕ → ℤ) (apart : List ℕ → Bool) (round : List NormalLoop) (is : List ℕ) (s t : Store) (free : AreApart symbols apart round) (beside : IsBeside symbols values apart round is s t)
    (x : List ℕ) (v : Value) (zs : List ℤ) where
  abbrev between' : List NormalLoop → Store
  between' rs = between bits symbols values apart round is s t free beside rs

  with_values : (outer rs : List NormalLoop) → AreStanding bits symbols values apart round is s t free beside outer rs → (g : Guarded)
      → Takes bits (between' rs) x v zs g → Takes bits t x v zs (statement_with_values symbols outer rs g)
  with_values outer [] h g k = k
  with_values outer (r ∷ rs) h g k =
      with_values (outer ++ r ∷ []) rs h.1 (rewritten_statement (with_value symbols outer r) g) (record {
        unguarded = ap (option_map (made (with_value symbols outer r))) k.unguarded;
        name = k.name;
        right = replaced_value bits r.variable (variable_text symbols outer r) (between' (r ∷ rs)) (between' rs) h.0 g.right v k.right;
        subscripts = replaced_subscripts bits r.variable (variable_text symbols outer r) (between' (r ∷ rs)) (between' rs) h.0 g.left.subscripts zs k.subscripts;
      })

  takes_normal : (g : Guarded) → Takes bits (between' round) x v zs g → Takes bits t x v zs (normal_statement symbols round g)
  unfolding normal_statement
  takes_normal g k =
      let h = with_values [] round (round_stands bits symbols values apart round is s t free beside) g k in
      let c : Guarded = statement_with_values symbols [] round g in
      record {
        unguarded = ap (option_map (made (in_text symbols round))) h.unguarded;
        name = h.name;
        right = canonical_value bits (counters_of round) symbols t beside.sized_beside c.right v h.right;
        subscripts = canonical_subscripts bits (counters_of round) symbols t beside.sized_beside c.left.subscripts zs h.subscripts;
      }

-- ---- stores in which a cell has changed

other_values : (ys : List (List ℕ)) (xs : List ℤ) (c : Cell) (v : Value) (u : Store) → is_among ys c.name ≡ false → HaveValues ys u xs → HaveValues ys (put c v u) xs
other_values [] [] c v u h k = tt
other_values [] (x ∷ xs) c v u h k = absurd k
other_values (y ∷ ys) [] c v u h k = absurd k
other_values (y ∷ ys) (x ∷ xs) c v u h k =
    let parts = either_false (bytes_eq c.name y) (is_among ys c.name) h in
    (k.0, ap (λ b. cond (b && pointwise int_eq c.subscripts []) v (u.held (record { name = y; subscripts = [] }))) parts.0 ∙ k.1, other_values ys xs c v u parts.1 k.2)

range_size : (bits : ℕ) (z : ℤ) → bits ≤ 63 → fits bits z ≡ true → nat_abs z ≤ 2 ^ 63
range_size bits (pos k) few h = let two : 0 < 2 = omega arith in let p = pow-le-pow_right two few in let l = (Decides-ltb k (2 ^ bits)).0 h in omega (arith, p, l)
range_size bits (negsuc k) few h = let two : 0 < 2 = omega arith in let p = pow-le-pow_right two few in let l = (Decides-ltb k (2 ^ bits)).0 h in omega (arith, p, l)

sized_put : (bits : ℕ) (c : Cell) (v : Value) (u : Store) → bits ≤ 63 → is_in_range bits v ≡ true → HoldsSized u → HoldsSized (put c v u)
sized_put bits c v u few range h d z e = by (same_cell c d) e
  where
    by : (b : Bool) → cond b v (u.held d) ≡ Int z → nat_abs z ≤ 2 ^ 63
    by true g = range_size bits z few (ap (is_in_range bits) (sym g) ∙ range)
    by false g = h d z g

module _ (bits : ℕ) (symbols : List (List ℕ)) (values : ℕ → ℤ) (apart : List ℕ → Bool) (round : List NormalLoop) (is : List ℕ) (s t : Store) (free : AreApart symbols apart round) (beside : IsBeside symbols values apart round is s t) where
  put_beside : (c : Cell) (v : Value) → bits ≤ 63 → is_in_range bits v ≡ true → apart c.name ≡ false → ¬ (Contains symbols c.name) → IsBeside symbols values apart round is (put c v s) (put c v t)
  put_beside c v few range own kept = record {
    bounds = beside.bounds;
    held = λ d h. ap (cond (same_cell c d) v) (beside.held d h);
    variables = other_values (variables_of round) _ c v s (apart_other apart (variables_of round) c.name (variables_apart symbols values apart round is s t free beside) own) beside.variables;
    counters = other_values (counters_of round) _ c v t (apart_other apart (counters_of round) c.name (counters_apart symbols values apart round is s t free beside) own) beside.counters;
    known = other_values symbols _ c v s (not_among symbols c.name kept) beside.known;
    sized = sized_put bits c v s few range beside.sized;
    sized_beside = sized_put bits c v t few range beside.sized_beside;
  }

-- ---- the assignment

whole_effect : (bits : ℕ) (r : Reference) (e : Expression) (s : Store) (c : Cell) (v : Value) → value_of (sequential bits) e s ≡ Ok v → cell_named (sequential bits) r s ≡ Ok c → is_in_range bits v ≡ true
    → effects.assigned_if (sequential bits) true r e s ≡ Ok (Some (c, v))
whole_effect bits r e s c v f g h = rw (f, g, h) refl

record Stored (s t : State) (c : Cell) (v : Value) : Type 0 where
  way : t.way ≡ Going
  store : t.store ≡ put c v s.store

-- an assignment that meets no fault
stores_value : (bits : ℕ) (g : Guarded) (s : State) (v : Value) (c : Cell) → g.guard ≡ None → s.way ≡ Going → value_of (sequential bits) g.right s.store ≡ Ok v → cell_named (sequential bits) g.left s.store ≡ Ok c
    → is_in_range bits v ≡ true → Stored s (does (sequential bits) None (guarded_statement g) s) c v
stores_value bits g s v c none way value cell range =
    let went = guarded_went bits false g.line None (record { guard = None; left = g.left; right = g.right }) s (Some (c, v)) way (whole_effect bits g.left g.right s.store c v value cell range) in
    subst (λ o. Stored s (does (sequential bits) None (under_guard g.line o (assignment_of g)) s) c v) (sym none) (record { way = went.way; store = went.store })

was_assigned : (bits : ℕ) (g : Guarded) (s : State) → g.guard ≡ None → (does (sequential bits) None (guarded_statement g) s).way ≡ Going
    → Assigned bits g.left g.right s (does (sequential bits) None (guarded_statement g) s)
was_assigned bits g s none way =
    subst (λ o. (does (sequential bits) None (under_guard g.line o (assignment_of g)) s).way ≡ Going → Assigned bits g.left g.right s (does (sequential bits) None (under_guard g.line o (assignment_of g)) s))
    (sym none) (assigned bits g.line None g.left g.right s) way

pub statement_is_beside : StatementBeside
statement_is_beside bits symbols values apart round is s t g low high free suits go way =
    let a = was_assigned bits g s suits.unguarded way in
    let zs = parted (subscript_values (sequential bits) g.left.subscripts s.store) (λ zs. cell_at g.left.name zs s.store) a.cell a.place in
    let name : a.cell.name ≡ g.left.name = cell_in-named (s.store.bounds g.left.name) g.left.name zs.part a.cell zs.second in
    let beside = go.stores in
    let normal : Guarded = normal_statement symbols round g in
    let takes = takes_normal bits symbols values apart round is s.store t.store free beside g.left.name a.value zs.part g (record {
      unguarded = suits.unguarded;
      name = refl;
      right = sym (value_mixed s.store t.store apart (variables_of round) beside.bounds beside.held bits g.right suits.right) ∙ a.gives;
      subscripts = sym (subscripts_mixed s.store t.store apart (variables_of round) beside.bounds beside.held bits g.left.subscripts suits.subscripts) ∙ zs.first;
    }) in
    let same_bounds : t.store.bounds normal.left.name ≡ s.store.bounds g.left.name = ap t.store.bounds takes.name ∙ sym (beside.bounds g.left.name suits.left) in
    let found : cell_at normal.left.name zs.part t.store ≡ Ok a.cell = ap_cell normal.left.name g.left.name zs.part takes.name (t.store.bounds normal.left.name) (s.store.bounds g.left.name) same_bounds ∙ zs.second in
    let place : cell_named (sequential bits) normal.left t.store ≡ Ok a.cell = joined (subscript_values (sequential bits) normal.left.subscripts t.store) (λ zs. cell_at normal.left.name zs t.store) zs.part a.cell takes.subscripts found in
    let done = stores_value bits normal t a.value a.cell takes.unguarded go.way_beside takes.right place a.range in
    let kept = put_beside bits symbols values apart round is s.store t.store free beside a.cell a.value high a.range (ap apart name ∙ suits.left) (subst (λ y. ¬ (Contains symbols y)) (sym name) suits.kept) in
    record {
      way = way;
      way_beside = done.way;
      stores = subst (λ w. IsBeside symbols values apart round is w (does (sequential bits) None (guarded_statement normal) t).store) (sym a.store)
          (subst (λ w. IsBeside symbols values apart round is (put a.cell a.value s.store) w) (sym done.store) kept);
    }
  where
    ap_cell : (x y : List ℕ) (zs : List ℤ) → x ≡ y → (b c : Option (List (ℤ × ℤ))) → b ≡ c → cell_in b x zs ≡ cell_in c y zs
    ap_cell x y zs e b c f = ap (λ b. cell_in b x zs) f ∙ ap (λ y. cell_in c y zs) e
