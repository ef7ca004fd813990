-- What a rule makes of an expression has its value.
use Rattle.std.proofs.Common.{◌≡◌, refl, sym, ap, ◌∙◌, ℕ, ℤ, Bool, true, false, cond, List, [], ◌∷◌, map, Result, Ok, Err, Option, Some, None}
use Rattle.std.specs.Ordering.{int_eq}
use Rattle.std.specs.Prelude.{pos}
use Rattle.tree.specs.Operators.{apply, call, as_number, as_truth}
use Rattle.tree.specs.Steps.{◌>>=◌}
use Rattle.tree.specs.declared.ops.Fault.{Fault}
use Rattle.tree.specs.declared.ops.Fault.TheVariants.{ZeroStep, Bounds}
use Rattle.tree.specs.declared.ops.Value.{Value}
use Rattle.tree.specs.Plain.{Expression, Number, Logic, Named, Unary, Binary, Apply, Constructor, Spread, Transpose, Reshape, Reduce, Expressions, no_expressions, expression, Subscript, Only, Section, Subscripts, no_subscripts, subscript}
use Rattle.meaning.specs.Store.{Store, Cell, cell_at, cell_in, cells_of, bounds_in, is_within}
use Rattle.meaning.specs.Value.{value_of, values_of, number_of, truth_of, subscript_values, subscript_value, item_cells, item_values, increment_of}
use Rattle.rewrite.specs.Following.{sequential}
use Rattle.rewrite.specs.Making.{Making, made, made_expressions, made_subscripts, made_subscript}
use Rattle.rewrite.specs.Suits.{Suiting, Suits, SuitsEach, SuitsSubscripts, SuitsSubscript}
use Rattle.rewrite.specs.Rule.{IsRule}

-- two steps that gave y
pub record Parted {A B : Type 0} (r : Result A Fault) (f : A → Result B Fault) (y : B) : Type 0 where
  pub part : A
  pub first : r ≡ Ok part
  pub second : f part ≡ Ok y

pub parted : {A B : Type 0} (r : Result A Fault) (f : A → Result B Fault) (y : B) → ◌>>=◌ r f ≡ Ok y → Parted r f y
parted (Ok x) f y e = record { part = x; first = refl; second = e }
parted (Err g) f y e = cc

pub joined : {A B : Type 0} (r : Result A Fault) (f : A → Result B Fault) (x : A) (y : B) → r ≡ Ok x → f x ≡ Ok y → ◌>>=◌ r f ≡ Ok y
joined r f x y e g = ap (λ q. ◌>>=◌ q f) e ∙ g

-- a cell has the name that was looked up
pub cell_in-named : (b : Option (List (ℤ × ℤ))) (x : List ℕ) (is : List ℤ) (c : Cell) → cell_in b x is ≡ Ok c → c.name ≡ x
cell_in-named None x is c e = cc
cell_in-named (Some bs) x is c e = by (is_within bs is) e
  where
    by : (t : Bool) → ◌≡◌ {A = Result Cell Fault} (cond t (Ok (record { name = x; subscripts = is })) (Err Bounds)) (Ok c) → c.name ≡ x
    by true e = let same : ◌≡◌ {A = Cell} (record { name = x; subscripts = is }) c = cc in sym (ap (λ (c : Cell). c.name) same)
    by false e = cc

-- the value of a single item
pub single_item : (bits : ℕ) (e : Expression) (u : Store) (v : Value) → value_of (sequential bits) e u ≡ Ok v → item_values (sequential bits) e u ≡ Ok (v ∷ [])
single_item bits (Named x no_subscripts) u v h = by (u.bounds x) h
  where
    by : (b : Option (List (ℤ × ℤ))) → ◌≡◌ {A = Result Value Fault} (do c ← cell_in b x []; Ok (u.held c)) (Ok v)
        → ◌≡◌ {A = Result (List Value) Fault} (do cs ← (do bs ← bounds_in b; Ok (cells_of x bs)); Ok (map u.held cs)) (Ok (v ∷ []))
    by (Some []) e = let same : u.held (record { name = x; subscripts = [] }) ≡ v = cc in ap (λ w. Ok (w ∷ [])) same
    by (Some (b ∷ bs)) e = cc
    by None e = cc
single_item bits (Named x (subscript p ps)) u v h =
    let is = parted (subscript_values (sequential bits) (subscript p ps) u) (λ is. do c ← cell_at x is u; Ok (u.held c)) v h in
    let c = parted (cell_at x is.part u) (λ c. Ok (u.held c)) v is.second in
    let same : u.held c.part ≡ v = let e = c.second in cc in
    ap (λ r. do cs ← (do is ← r; c ← cell_at x is u; Ok (c ∷ [])); Ok (map u.held cs)) is.first
    ∙ ap (λ r. do cs ← (do c ← r; Ok (c ∷ [])); Ok (map u.held cs)) c.first
    ∙ ap (λ w. Ok (w ∷ [])) same
single_item bits (Number n) u v h = ap (λ r. do x ← r; Ok (x ∷ [])) h
single_item bits (Logic b) u v h = ap (λ r. do x ← r; Ok (x ∷ [])) h
single_item bits (Unary o a) u v h = ap (λ r. do x ← r; Ok (x ∷ [])) h
single_item bits (Binary o a b) u v h = ap (λ r. do x ← r; Ok (x ∷ [])) h
single_item bits (Apply f es) u v h = ap (λ r. do x ← r; Ok (x ∷ [])) h
single_item bits (Constructor es ls) u v h = cc
single_item bits (Spread b k e) u v h = cc
single_item bits (Transpose b) u v h = cc
single_item bits (Reshape b es) u v h = cc
single_item bits (Reduce r b) u v h = cc

module _ (bits : ℕ) (m : Making) (suits : Suiting) (like : Store → Store → Type 0) (rule : IsRule (sequential bits) m suits like) (s u : Store) (a : like s u) where
  mutual
    pub made-value : (e : Expression) → Suits m suits e → (v : Value) → value_of (sequential bits) e s ≡ Ok v → value_of (sequential bits) (made m e) u ≡ Ok v
    made-value (Number n) h v e = rule.value (Number n) (Number n) s u v h a e
    made-value (Logic b) h v e = rule.value (Logic b) (Logic b) s u v h a e
    made-value (Named x ps) h v e =
        let p = parted (subscript_values (sequential bits) ps s) (λ is. do c ← cell_at x is s; Ok (s.held c)) v e in
        rule.value (Named x ps) (Named x (made_subscripts m ps)) s u v h.0 a
        (joined (subscript_values (sequential bits) (made_subscripts m ps) u) (λ is. do c ← cell_at x is s; Ok (s.held c)) p.part v (made-subscripts ps h.1 p.part p.first) p.second)
    made-value (Unary o b) h v e =
        let p = parted (value_of (sequential bits) b s) (λ x. apply o x x) v e in
        rule.value (Unary o b) (Unary o (made m b)) s u v h.0 a (joined (value_of (sequential bits) (made m b) u) (λ x. apply o x x) p.part v (made-value b h.1 p.part p.first) p.second)
    made-value (Binary o b c) h v e =
        let p = parted (value_of (sequential bits) b s) (λ x. do y ← value_of (sequential bits) c s; apply o x y) v e in
        let q = parted (value_of (sequential bits) c s) (λ y. apply o p.part y) v p.second in
        rule.value (Binary o b c) (Binary o (made m b) (made m c)) s u v h.0 a
        (joined (value_of (sequential bits) (made m b) u) (λ x. do y ← value_of (sequential bits) (made m c) u; apply o x y) p.part v (made-value b h.1 p.part p.first)
        (joined (value_of (sequential bits) (made m c) u) (λ y. apply o p.part y) q.part v (made-value c h.2 q.part q.first) q.second))
    made-value (Apply f es) h v e =
        let p = parted (values_of (sequential bits) es s) (λ xs. call f xs) v e in
        rule.value (Apply f es) (Apply f (made_expressions m es)) s u v h.0 a (joined (values_of (sequential bits) (made_expressions m es) u) (λ xs. call f xs) p.part v (made-values es h.1 p.part p.first) p.second)
    made-value (Constructor es ls) h v e = cc
    made-value (Spread b k c) h v e = cc
    made-value (Transpose b) h v e = cc
    made-value (Reshape b es) h v e = cc
    made-value (Reduce r b) h v e = cc

    pub made-values : (es : Expressions) → SuitsEach m suits es → (vs : List Value) → values_of (sequential bits) es s ≡ Ok vs → values_of (sequential bits) (made_expressions m es) u ≡ Ok vs
    made-values no_expressions h vs e = e
    made-values (expression b es) h vs e =
        let p = parted (value_of (sequential bits) b s) (λ x. do xs ← values_of (sequential bits) es s; Ok (x ∷ xs)) vs e in
        let q = parted (values_of (sequential bits) es s) (λ xs. Ok (p.part ∷ xs)) vs p.second in
        joined (value_of (sequential bits) (made m b) u) (λ x. do xs ← values_of (sequential bits) (made_expressions m es) u; Ok (x ∷ xs)) p.part vs (made-value b h.0 p.part p.first)
        (joined (values_of (sequential bits) (made_expressions m es) u) (λ xs. Ok (p.part ∷ xs)) q.part vs (made-values es h.1 q.part q.first) q.second)

    pub made-subscripts : (ps : Subscripts) → SuitsSubscripts m suits ps → (is : List ℤ) → subscript_values (sequential bits) ps s ≡ Ok is → subscript_values (sequential bits) (made_subscripts m ps) u ≡ Ok is
    made-subscripts no_subscripts h is e = e
    made-subscripts (subscript b ps) h is e =
        let p = parted (subscript_value (sequential bits) b s) (λ x. do xs ← subscript_values (sequential bits) ps s; Ok (x ∷ xs)) is e in
        let q = parted (subscript_values (sequential bits) ps s) (λ xs. Ok (p.part ∷ xs)) is p.second in
        joined (subscript_value (sequential bits) (made_subscript m b) u) (λ x. do xs ← subscript_values (sequential bits) (made_subscripts m ps) u; Ok (x ∷ xs)) p.part is (made-subscript b h.0 p.part p.first)
        (joined (subscript_values (sequential bits) (made_subscripts m ps) u) (λ xs. Ok (p.part ∷ xs)) q.part is (made-subscripts ps h.1 q.part q.first) q.second)

    pub made-subscript : (b : Subscript) → SuitsSubscript m suits b → (i : ℤ) → subscript_value (sequential bits) b s ≡ Ok i → subscript_value (sequential bits) (made_subscript m b) u ≡ Ok i
    made-subscript (Only b) h i e =
        let p = parted (value_of (sequential bits) b s) as_number i e in
        joined (value_of (sequential bits) (made m b) u) as_number p.part i (made-value b h p.part p.first) p.second
    made-subscript (Section b c d) h i e = cc

  pub made-number : (e : Expression) → Suits m suits e → (z : ℤ) → number_of (sequential bits) e s ≡ Ok z → number_of (sequential bits) (made m e) u ≡ Ok z
  made-number e h z g =
      let p = parted (value_of (sequential bits) e s) as_number z g in
      joined (value_of (sequential bits) (made m e) u) as_number p.part z (made-value e h p.part p.first) p.second

  pub made-truth : (e : Expression) → Suits m suits e → (b : Bool) → truth_of (sequential bits) e s ≡ Ok b → truth_of (sequential bits) (made m e) u ≡ Ok b
  made-truth e h b g =
      let p = parted (value_of (sequential bits) e s) as_truth b g in
      joined (value_of (sequential bits) (made m e) u) as_truth p.part b (made-value e h p.part p.first) p.second

  pub made-increment : (e : Expression) → Suits m suits e → (z : ℤ) → increment_of (sequential bits) e s ≡ Ok z → increment_of (sequential bits) (made m e) u ≡ Ok z
  made-increment e h z g =
      let p = parted (number_of (sequential bits) e s) (λ z. cond (int_eq z (pos 0)) (Err ZeroStep) (Ok z)) z g in
      joined (number_of (sequential bits) (made m e) u) (λ z. cond (int_eq z (pos 0)) (Err ZeroStep) (Ok z)) p.part z (made-number e h p.part p.first) p.second

  -- an item other than a name by itself
  made-single : (e : Expression) → Suits m suits e → (vs : List Value) → ◌≡◌ {A = Result (List Value) Fault} (do x ← value_of (sequential bits) e s; Ok (x ∷ [])) (Ok vs) → item_values (sequential bits) (made m e) u ≡ Ok vs
  made-single e h vs g =
      let p = parted (value_of (sequential bits) e s) (λ x. Ok (x ∷ [])) vs g in
      let same : Ok (p.part ∷ []) ≡ Ok vs = p.second in
      single_item bits (made m e) u p.part (made-value e h p.part p.first) ∙ same

  pub made-item : (e : Expression) → Suits m suits e → (vs : List Value) → item_values (sequential bits) e s ≡ Ok vs → item_values (sequential bits) (made m e) u ≡ Ok vs
  made-item (Named x no_subscripts) h vs e = rule.printed x s u vs h.0 a e
  made-item (Named x (subscript b ps)) h vs e =
      let cs = parted (item_cells (sequential bits) x (subscript b ps) s) (λ cs. Ok (map s.held cs)) vs e in
      let is = parted (subscript_values (sequential bits) (subscript b ps) s) (λ is. do c ← cell_at x is s; Ok (c ∷ [])) cs.part cs.first in
      let c = parted (cell_at x is.part s) (λ c. Ok (c ∷ [])) cs.part is.second in
      let one : c.part ∷ [] ≡ cs.part = let e = c.second in cc in
      let all : Ok (map s.held cs.part) ≡ Ok vs = cs.second in
      made-single (Named x (subscript b ps)) h vs
      (ap (λ r. do x ← (do is ← r; c ← cell_at x is s; Ok (s.held c)); Ok (x ∷ [])) is.first
      ∙ ap (λ r. do x ← (do c ← r; Ok (s.held c)); Ok (x ∷ [])) c.first
      ∙ ap (λ cs. Ok (map s.held cs)) one ∙ all)
  made-item (Number n) h vs e = made-single (Number n) h vs e
  made-item (Logic b) h vs e = made-single (Logic b) h vs e
  made-item (Unary o b) h vs e = made-single (Unary o b) h vs e
  made-item (Binary o b c) h vs e = made-single (Binary o b c) h vs e
  made-item (Apply f es) h vs e = made-single (Apply f es) h vs e
  made-item (Constructor es ls) h vs e = cc
  made-item (Spread b k c) h vs e = cc
  made-item (Transpose b) h vs e = cc
  made-item (Reshape b es) h vs e = cc
  made-item (Reduce r b) h vs e = cc
