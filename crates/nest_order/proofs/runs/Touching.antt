-- The cells that an instance reads and writes are cells that its references may name.
use Rattle.std.proofs.Common.{◌≡◌, refl, sym, ap, ◌∙◌, subst, ◌⊎◌, inl, inr, ℕ, suc, ◌<◌, ℤ, Bool, true, false, not, cond, List, [], ◌∷◌, ◌++◌, length, filter, Result, Ok, Err, Option, Some, None, arith}
use Rattle.tree.specs.Steps.{◌>>=◌}
use Rattle.tree.specs.Operators.{as_number}
use Rattle.tree.specs.Plain.{Expression, Number, Logic, Named as Element, Unary, Binary, Apply, Constructor, Spread, Transpose, Reshape, Reduce, Expressions, no_expressions, expression, Subscript, Only, Section, Subscripts, no_subscripts, subscript, Reference}
use Rattle.tree.specs.declared.ops.Value.{Value}
use Rattle.tree.specs.declared.ops.Value.TheVariants.{Int, Truth}
use Rattle.tree.specs.declared.ops.Fault.{Fault}
use Rattle.meaning.specs.CellsRead.{cells_read, cells_read_by_each, cells_read_by, cells_read_by_subscript, found}
use Rattle.meaning.specs.Store.{Store, Cell, cell_at}
use Rattle.meaning.specs.Value.{value_of, subscript_value, subscript_values, cell_named}
use Rattle.nest_order.specs.orders.Lists.{In}
use Rattle.nest_order.specs.orders.Nests.{IsInstance}
use Rattle.nest_order.specs.orders.Shapes.{Instance, loops_of_shape}
use Rattle.nest_order.proofs.orders.Lists.{In-left, In-right, In-append}
use Rattle.nest_order.specs.runs.Alone.{inside}
use Rattle.nest_order.specs.runs.Guarded.{GuardedAssignment, at_iterations, read_by_guard, reads, sequential, variable_cell}
use Rattle.nest_order.specs.runs.Nests.{RunNest, effect_of, is_nest_variable, reads_of, variable_of, variables_round}
use Rattle.nest_order.specs.runs.Stores.{HoldsNest, IsNestIn, Setting}
use Rattle.nest_order.specs.runs.Touched.{ArePlain, EachIsPlain, IsPlain, IsPlainAssignment, IsPlainGuard, IsPlainSubscript, MayHave, MayHaveEach, MayName, Touches, has_no_subscripts, is_loop_variable, nth_of, touched_in, references_in_each, touched_in_guard, touched_in_subscript, touched_in_subscripts, references_of, references_read}
use Rattle.nest_order.proofs.runs.Results.{both_ok, ok_same}
use Rattle.nest_order.proofs.runs.Variables.{cell_name}
use Rattle.nest_order.proofs.runs.Holding.{effect_stored}

-- the place of an element
abbrev pub IsNumbered : {X : Type 0} → List X → X → Type 0
IsNumbered xs x = (q : ℕ) × (q < length xs) × (nth_of xs q ≡ Some x)

pub number_in : {X : Type 0} (xs : List X) (x : X) → In x xs → IsNumbered xs x
number_in [] x i = absurd i
number_in (y ∷ xs) x (inl e) = (0, omega arith, ap Some (sym e))
number_in (y ∷ xs) x (inr i) = let h = number_in xs x i in (suc h.0, (let l : h.0 < length xs = h.1 in omega arith), h.2)

kept_by : {X : Type 0} (test : X → Bool) (xs : List X) (x : X) → In x xs → test x ≡ true → In x (filter test xs)
kept_by test [] x i t = absurd i
kept_by test (y ∷ xs) x (inl e) t = subst (λ b. In x (cond b (y ∷ filter test xs) (filter test xs))) (sym (ap test (sym e) ∙ t)) (inl e)
kept_by test (y ∷ xs) x (inr i) t = by (test y) (kept_by test xs x i t)
  where
    by : (b : Bool) → In x (filter test xs) → In x (cond b (y ∷ filter test xs) (filter test xs))
    by true j = inr j
    by false j = j

module _ (bits : ℕ) (n : RunNest) (v : ℕ → ℤ) (s : ℕ) (is : List ℕ) (t : Store)
    (linear : (e : Expression) (f : (ℕ → ℤ) → List ℕ → ℤ) (z : ℤ) → n.linear s e ≡ Some f → value_of (sequential bits) e t ≡ Ok (Int z) → z ≡ f v is) where
  one_may : (e : Expression) (z : ℤ) → subscript_value (sequential bits) (Only e) t ≡ Ok z → MayHave n v is (n.linear s e) z
  one_may e z h = let a = both_ok (value_of (sequential bits) e t) as_number z h in on a.0 a.1 a.2
    where
      by : (k : ℤ) → value_of (sequential bits) e t ≡ Ok (Int k) → k ≡ z → (o : Option ((ℕ → ℤ) → List ℕ → ℤ)) → n.linear s e ≡ o → MayHave n v is o z
      by k g same None f = tt
      by k g same (Some f) l = linear e f z l (g ∙ ap (λ m. Ok (Int m)) same)

      on : (x : Value) → value_of (sequential bits) e t ≡ Ok x → as_number x ≡ Ok z → MayHave n v is (n.linear s e) z
      on (Truth b) g h = cc
      on (Int k) g h = by k g (ok_same {F = Fault} k z h) (n.linear s e) refl

  subscripts_may : (ps : Subscripts) (zs : List ℤ) → subscript_values (sequential bits) ps t ≡ Ok zs → MayHaveEach n v s is ps zs
  subscripts_may no_subscripts [] e = tt
  subscripts_may no_subscripts (z ∷ zs) e = cc
  subscripts_may (subscript (Only e) ps) zs h =
      let a = both_ok (subscript_value (sequential bits) (Only e) t) (λ i. do js ← subscript_values (sequential bits) ps t; Ok (i ∷ js)) zs h in
      let b = both_ok (subscript_values (sequential bits) ps t) (λ js. Ok (a.0 ∷ js)) zs a.2 in
      subst (MayHaveEach n v s is (subscript (Only e) ps)) (ok_same {F = Fault} (a.0 ∷ b.0) zs b.2) (one_may e a.0 a.1, subscripts_may ps b.0 b.1)
  subscripts_may (subscript (Section a b c) ps) zs h = cc

  -- the cell that a reference names is one that it may name
  pub named_may : (r : Reference) (c : Cell) → cell_named (sequential bits) r t ≡ Ok c → MayName n v s is r c
  named_may r c e =
      let a = both_ok (subscript_values (sequential bits) r.subscripts t) (λ zs. cell_at r.name zs t) c e in
      let m = cell_name (t.bounds r.name) r.name a.0 c a.2 in
      record { name = m.0; subscripts = subst (MayHaveEach n v s is r.subscripts) m.1 (subscripts_may r.subscripts a.0 a.1) }

  abbrev Found : List Reference → Cell → Type 0
  Found rs c = (r : Reference) × In r rs × MayName n v s is r c

  found_left : (xs ys : List Reference) (c : Cell) → Found xs c → Found (xs ++ ys) c
  found_left xs ys c (r, i, m) = (r, In-left r xs ys i, m)

  found_right : (xs ys : List Reference) (c : Cell) → Found ys c → Found (xs ++ ys) c
  found_right xs ys c (r, i, m) = (r, In-right r xs ys i, m)

  either_found : (xs ys : List Cell) (c : Cell) (rs qs : List Reference) → In c (xs ++ ys) → (In c xs → Found rs c) → (In c ys → Found qs c) → Found (rs ++ qs) c
  either_found xs ys c rs qs i f g = by (In-append c xs ys i)
    where
      by : In c xs ⊎ In c ys → Found (rs ++ qs) c
      by (inl j) = found_left rs qs c (f j)
      by (inr j) = found_right rs qs c (g j)

  cell_found : (q : Result Cell Fault) (r : Reference) (c : Cell) → cell_named (sequential bits) r t ≡ q → In c (found q) → MayName n v s is r c
  cell_found (Err k) r c e i = absurd i
  cell_found (Ok d) r c e (inl f) = named_may r c (e ∙ ap Ok (sym f))
  cell_found (Ok d) r c e (inr i) = absurd i

  here : (x : List ℕ) (ps : Subscripts) (c : Cell) → In c (cells_read_by (sequential bits) ps t) ⊎ In c (found (cell_named (sequential bits) (record { name = x; subscripts = ps }) t)) → (In c (cells_read_by (sequential bits) ps t) → Found (touched_in_subscripts ps) c)
      → Found (record { name = x; subscripts = ps } ∷ touched_in_subscripts ps) c
  here x ps c (inl j) f = let h = f j in (h.0, inr h.1, h.2)
  here x ps c (inr j) f = (record { name = x; subscripts = ps }, inl refl, cell_found (cell_named (sequential bits) (record { name = x; subscripts = ps }) t) (record { name = x; subscripts = ps }) c refl j)

  mutual
    read_found : (e : Expression) (c : Cell) → IsPlain e → In c (cells_read (sequential bits) e t) → Found (touched_in e) c
    read_found (Number k) c p i = absurd i
    read_found (Logic b) c p i = absurd i
    read_found (Element x ps) c p i = here x ps c (In-append c (cells_read_by (sequential bits) ps t) (found (cell_named (sequential bits) (record { name = x; subscripts = ps }) t)) i) (λ j. read_found_by ps c p j)
    read_found (Unary o a) c p i = read_found a c p i
    read_found (Binary o a b) c p i = either_found (cells_read (sequential bits) a t) (cells_read (sequential bits) b t) c (touched_in a) (touched_in b) i (λ j. read_found a c p.0 j) (λ j. read_found b c p.1 j)
    read_found (Apply f es) c p i = read_found_each es c p i
    read_found (Constructor es ls) c p i = absurd p
    read_found (Spread a k e) c p i = absurd p
    read_found (Transpose a) c p i = absurd p
    read_found (Reshape a es) c p i = absurd p
    read_found (Reduce r a) c p i = absurd p

    read_found_each : (es : Expressions) (c : Cell) → EachIsPlain es → In c (cells_read_by_each (sequential bits) es t) → Found (references_in_each es) c
    read_found_each no_expressions c p i = absurd i
    read_found_each (expression e es) c p i = either_found (cells_read (sequential bits) e t) (cells_read_by_each (sequential bits) es t) c (touched_in e) (references_in_each es) i (λ j. read_found e c p.0 j) (λ j. read_found_each es c p.1 j)

    read_found_by : (ps : Subscripts) (c : Cell) → ArePlain ps → In c (cells_read_by (sequential bits) ps t) → Found (touched_in_subscripts ps) c
    read_found_by no_subscripts c p i = absurd i
    read_found_by (subscript p ps) c h i = either_found (cells_read_by_subscript (sequential bits) p t) (cells_read_by (sequential bits) ps t) c (touched_in_subscript p) (touched_in_subscripts ps) i (λ j. read_found_in p c h.0 j) (λ j. read_found_by ps c h.1 j)

    read_found_in : (p : Subscript) (c : Cell) → IsPlainSubscript p → In c (cells_read_by_subscript (sequential bits) p t) → Found (touched_in_subscript p) c
    read_found_in (Only e) c p i = read_found e c p i
    read_found_in (Section a b d) c p i = absurd p

  guard_found : (o : Option Expression) (c : Cell) → IsPlainGuard o → In c (read_by_guard (sequential bits) o t) → Found (touched_in_guard o) c
  guard_found None c p i = absurd i
  guard_found (Some e) c p i = read_found e c p i

  sides_found : (g : GuardedAssignment) (c : Cell) → IsPlainAssignment g → In c (cells_read (sequential bits) g.right t) ⊎ In c (cells_read_by (sequential bits) g.left.subscripts t) → Found (touched_in_subscripts g.left.subscripts ++ touched_in g.right) c
  sides_found g c p (inl i) = found_right (touched_in_subscripts g.left.subscripts) (touched_in g.right) c (read_found g.right c p.1 i)
  sides_found g c p (inr i) = found_left (touched_in_subscripts g.left.subscripts) (touched_in g.right) c (read_found_by g.left.subscripts c p.2 i)

  pub reads_found : (g : GuardedAssignment) (c : Cell) → IsPlainAssignment g → In c (reads (sequential bits) g t) → Found (references_read g) c
  reads_found g c p i = either_found (read_by_guard (sequential bits) g.guard t) (cells_read (sequential bits) g.right t ++ cells_read_by (sequential bits) g.left.subscripts t) c
      (touched_in_guard g.guard) (touched_in_subscripts g.left.subscripts ++ touched_in g.right) i (guard_found g.guard c p.0)
      (λ j. sides_found g c p (In-append c (cells_read (sequential bits) g.right t) (cells_read_by (sequential bits) g.left.subscripts t) j))

-- ---- instances

module _ (bits : ℕ) (n : RunNest) (w : Setting) (ok : IsNestIn bits n w) where
  abbrev IsIt : Instance → Type 0
  IsIt = IsInstance n.loops_of (n.turns_of w.values) n.shape

  abbrev there : Instance → Store → Store
  there x t = at_iterations (variables_round n x.statement) x.iterations t

  -- by a reference other than the left side, or as a loop variable
  abbrev pub ReadBy : Instance → Cell → Type 0
  ReadBy x c = ((q : ℕ) × (¬ (q ≡ 0)) × (q < length (references_of n x.statement)) × Touches n w.values q x c) ⊎ ((l : ℕ) × In l (loops_of_shape n.shape) × (c ≡ variable_of n l))

  -- by the left side
  abbrev pub WrittenBy : Instance → Cell → Type 0
  WrittenBy x c = (0 < length (references_of n x.statement)) × Touches n w.values 0 x c × ((l : ℕ) → In l (loops_of_shape n.shape) → ¬ (c ≡ variable_of n l))

  variable_named : (x : Instance) (r : Reference) (c : Cell) → is_loop_variable n r ≡ true → MayName n w.values x.statement x.iterations r c → (l : ℕ) × In l (loops_of_shape n.shape) × (c ≡ variable_of n l)
  variable_named x r c e m = by r.subscripts e m.subscripts
    where
      bare : (zs : List ℤ) → MayHaveEach n w.values x.statement x.iterations no_subscripts zs → zs ≡ []
      bare [] h = refl
      bare (z ∷ zs) h = absurd h

      by : (ps : Subscripts) → cond (has_no_subscripts ps) (is_nest_variable n (variable_cell r.name)) false ≡ true → MayHaveEach n w.values x.statement x.iterations ps c.subscripts → (l : ℕ) × In l (loops_of_shape n.shape) × (c ≡ variable_of n l)
      by no_subscripts f h =
          let v = Rattle.nest_order.proofs.runs.Variables.variable_from n (variable_cell r.name) f in
          let same : c ≡ variable_cell r.name = made m.name (bare c.subscripts h) in
          (v.0, v.1, same ∙ v.2)
        where
          made : {d : Cell} → d.name ≡ r.name → d.subscripts ≡ [] → d ≡ variable_cell r.name
          made p q = λ i. record { name = p i; subscripts = q i }
      by (subscript p ps) f h = cc

  numbered_read : (x : Instance) (c : Cell) → (r : Reference) × In r (references_read (n.statement_at x.statement)) × MayName n w.values x.statement x.iterations r c → ReadBy x c
  numbered_read x c (r, i, m) = by (is_loop_variable n r) refl
    where
      by : (b : Bool) → is_loop_variable n r ≡ b → ReadBy x c
      by true e = inr (variable_named x r c e m)
      by false e =
          let test : Reference → Bool = λ r. not (is_loop_variable n r) in
          let k = number_in (filter test (references_read (n.statement_at x.statement))) r (kept_by test (references_read (n.statement_at x.statement)) r i (ap not e)) in
          inl (suc k.0, (λ z. omega arith), (let l : k.0 < length (filter test (references_read (n.statement_at x.statement))) = k.1 in omega arith), (r, k.2, m))

  pub reading : (x : Instance) (t : Store) (c : Cell) → IsIt x → HoldsNest bits n w t → In c (reads_of n (sequential bits) x t) → ReadBy x c
  reading x t c is inside i = numbered_read x c
      (reads_found bits n w.values x.statement x.iterations (there x t) (λ e f z l g. ok.linear x t e f z is inside l g) (n.statement_at x.statement) c (ok.text.plain x.statement is.0) i)

  pub writing : (x : Instance) (t : Store) (c : Cell) (v : Value) → IsIt x → HoldsNest bits n w t → effect_of n (sequential bits) x t ≡ Ok (Some (c, v)) → WrittenBy x c
  writing x t c v is inside e = (
    omega arith,
    (
      (n.statement_at x.statement).left,
      refl,
      named_may bits n w.values x.statement x.iterations (there x t) (λ e f z l g. ok.linear x t e f z is inside l g) (n.statement_at x.statement).left c
          (effect_stored bits (n.statement_at x.statement) (there x t) c v e).place,
    ),
    Rattle.nest_order.proofs.runs.Holding.written_elsewhere bits n w ok x is t c v e,
  )
