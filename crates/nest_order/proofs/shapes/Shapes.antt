-- What a nest stands for is what its shape stands for.
use Rattle.std.proofs.Common.{◌≡◌, refl, sym, ap, ap₂, ◌∙◌, subst, ◌⊎◌, inl, inr, ℕ, zero, suc, ◌+◌, ◌<◌, ◌≤◌, ◌==◌, ℤ, pos, Bool, true, false, cond, List, [], ◌∷◌, ◌++◌, map, length, Option, Some, None, append_assoc, append-nil, arith}
use Rattle.tree.specs.Plain.{Expression, Number, Statement, Assignment, Do, Block, statement}
use Rattle.nest_order.specs.orders.Lists.{In, Each, Pairwise, Distinct}
use Rattle.nest_order.specs.orders.Shapes.{Shape, Single, Loop, Shapes, no_shapes, shape, statements, statements_in, loops_of_shape, loops_of_shapes, Stands, StandsIn}
use Rattle.nest_order.proofs.orders.Lists.{Each-In, Each-from, In-left, In-right, In-append, Pairwise-append}
use Rattle.nest_order.proofs.orders.Membership.{map-In}
use Rattle.nest_order.specs.runs.Blocks.{Layout, guarded_statement, nest_statement, nest_block}
use Rattle.nest_order.specs.runs.Nests.{RunNest}
use Rattle.nest_order.specs.runs.Touched.{nth_of}
use Rattle.nest.specs.Blocks.{statement_of_part, block_of_parts, under_guard, numeral}
use Rattle.nest.specs.Bodies.{Standing, statements_in as standing_in, statements_in_parts, statements_of, loops_of, loops_in_parts}
use Rattle.nest.specs.Plain.{Part, Run, Turns, Choice, Label, Jump, Parts, no_parts, part}
use Rattle.nest.specs.Plain as tree
use Rattle.nest_order.specs.shapes.Shapes.{IsNormal, IsPlain, ArePlain, size_of, sizes_of, shape_of, shapes_of, numbers_of, loop_numbered, guarded_of, line_of, loops_round, variable_of_loop, trip_of_loop, nest_of, layout_of, StatementIsOfShape, ShapeIsNest}

-- ---- lists

nth-append : {X : Type 0} (front : List X) (x : X) (back : List X) → nth_of (front ++ x ∷ back) (length front) ≡ Some x
nth-append [] x back = refl
nth-append (y ∷ front) x back = nth-append front x back

length-append : {X : Type 0} (xs ys : List X) → length (xs ++ ys) ≡ length xs + length ys
length-append [] ys = omega arith
length-append (x ∷ xs) ys = let e = length-append xs ys in omega arith

map-append : {X Y : Type 0} (f : X → Y) (xs ys : List X) → map f (xs ++ ys) ≡ map f xs ++ map f ys
map-append f [] ys = refl
map-append f (x ∷ xs) ys = ap (λ zs. f x ∷ zs) (map-append f xs ys)

same_number : (n : ℕ) → (n == n) ≡ true
same_number n = grind arith

other_number : (n m : ℕ) → ¬ (n ≡ m) → (n == m) ≡ false
other_number n m h = grind arith

numbered-In : (ls : List tree.Loop) (l : tree.Loop) → Distinct (numbers_of ls) → In l ls → loop_numbered ls l.number ≡ Some l
numbered-In [] l d i = absurd i
numbered-In (m ∷ ls) l d (inl e) = subst (λ (z : tree.Loop). cond (m.number == z.number) (Some m) (loop_numbered ls z.number) ≡ Some z) (sym e) (ap (λ b. cond b (Some m) (loop_numbered ls m.number)) (same_number m.number))
numbered-In (m ∷ ls) l d (inr i) =
    let apart = Each-In (λ y. ¬ (m.number ≡ y)) (numbers_of ls) d.0 l.number (map-In (λ (z : tree.Loop). z.number) l ls i) in
    ap (λ b. cond b (Some m) (loop_numbered ls l.number)) (other_number m.number l.number apart) ∙ numbered-In ls l d.1 i

-- ---- numbers of statements

mutual
  size-is : (p : Part) (ls : List tree.Loop) → IsPlain p → length (standing_in ls p) ≡ size_of p
  size-is (Run s) ls plain = refl
  size-is (Turns l ps) ls plain = sizes-are ps (ls ++ l ∷ []) plain.1
  size-is (Choice bs ps) ls plain = absurd plain
  size-is (Label n) ls plain = absurd plain
  size-is (Jump n) ls plain = absurd plain

  sizes-are : (ps : Parts) (ls : List tree.Loop) → ArePlain ps → length (statements_in_parts ls ps) ≡ sizes_of ps
  sizes-are no_parts ls plain = refl
  sizes-are (part p ps) ls plain =
      let e = length-append (standing_in ls p) (statements_in_parts ls ps) in
      let f = size-is p ls plain.0 in
      let g = sizes-are ps ls plain.1 in
      e ∙ ap₂ (λ a b. a + b) f g

abbrev IsFrom : ℕ → ℕ → List ℕ → Type 0
IsFrom k n xs = Pairwise (λ s r. s < r) xs × Each (λ s. (k ≤ s) × (s < k + n)) xs

joined : (k n m : ℕ) (xs ys : List ℕ) → IsFrom k n xs → IsFrom (k + n) m ys → IsFrom k (n + m) (xs ++ ys)
joined k n m xs ys h g = (
  Pairwise-append (λ s r. s < r) xs ys h.0 g.0 (λ x y i j. let a = Each-In (λ s. (k ≤ s) × (s < k + n)) xs h.1 x i in let b = Each-In (λ s. (k + n ≤ s) × (s < k + n + m)) ys g.1 y j in less x y a.1 b.0),
  Each-from (λ s. (k ≤ s) × (s < k + (n + m))) (xs ++ ys) (λ s i. by s (In-append s xs ys i)),
)
  where
    less : (x y : ℕ) → x < k + n → k + n ≤ y → x < y
    less x y a b = omega arith

    left : (s : ℕ) → k ≤ s → s < k + n → (k ≤ s) × (s < k + (n + m))
    left s a b = (a, omega arith)

    right : (s : ℕ) → k + n ≤ s → s < k + n + m → (k ≤ s) × (s < k + (n + m))
    right s a b = (omega arith, omega arith)

    by : (s : ℕ) → In s xs ⊎ In s ys → (k ≤ s) × (s < k + (n + m))
    by s (inl i) = let a = Each-In (λ s. (k ≤ s) × (s < k + n)) xs h.1 s i in left s a.0 a.1
    by s (inr i) = let a = Each-In (λ s. (k + n ≤ s) × (s < k + n + m)) ys g.1 s i in right s a.0 a.1

mutual
  statements-from : (k : ℕ) (p : Part) → IsPlain p → IsFrom k (size_of p) (statements (shape_of k p))
  statements-from k (Run s) plain = ((tt, tt), ((omega arith, omega arith), tt))
  statements-from k (Turns l ps) plain = statements-from-in k ps plain.1
  statements-from k (Choice bs ps) plain = absurd plain
  statements-from k (Label n) plain = absurd plain
  statements-from k (Jump n) plain = absurd plain

  statements-from-in : (k : ℕ) (ps : Parts) → ArePlain ps → IsFrom k (sizes_of ps) (statements_in (shapes_of k ps))
  statements-from-in k no_parts plain = (tt, tt)
  statements-from-in k (part p ps) plain = joined k (size_of p) (sizes_of ps) (statements (shape_of k p)) (statements_in (shapes_of (k + size_of p) ps)) (statements-from k p plain.0) (statements-from-in (k + size_of p) ps plain.1)

-- ---- numbers of loops

mutual
  loops-are : (k : ℕ) (p : Part) → IsPlain p → loops_of_shape (shape_of k p) ≡ numbers_of (loops_of p)
  loops-are k (Run s) plain = refl
  loops-are k (Turns l ps) plain = ap (λ zs. l.number ∷ zs) (loops-are-in k ps plain.1)
  loops-are k (Choice bs ps) plain = absurd plain
  loops-are k (Label n) plain = absurd plain
  loops-are k (Jump n) plain = absurd plain

  loops-are-in : (k : ℕ) (ps : Parts) → ArePlain ps → loops_of_shapes (shapes_of k ps) ≡ numbers_of (loops_in_parts ps)
  loops-are-in k no_parts plain = refl
  loops-are-in k (part p ps) plain =
      ap₂ (λ xs ys. xs ++ ys) (loops-are k p plain.0) (loops-are-in (k + size_of p) ps plain.1) ∙ sym (map-append (λ (z : tree.Loop). z.number) (loops_of p) (loops_in_parts ps))

-- ---- the tables

module _ (line : ℕ) (body : Part) (symbols : List (List ℕ)) (linear : ℕ → Expression → Option ((ℕ → ℤ) → List ℕ → ℤ)) (turns_of : (ℕ → ℤ) → ℕ → List ℕ → ℕ) where
  abbrev n : RunNest
  n = nest_of body symbols linear turns_of

  abbrev y : Layout
  y = layout_of line body

  abbrev Known : List tree.Loop → Type 0
  Known ls = (l : tree.Loop) → In l ls → loop_numbered (loops_of body) l.number ≡ Some l

  -- the statements xs stand from the place k on in the nest's
  pub record Placed (k : ℕ) (xs : List Standing) : Type 0 where
    pub front : List Standing
    pub back : List Standing
    pub at : k ≡ length front
    pub is : statements_of body ≡ front ++ (xs ++ back)

  first_placed : (k : ℕ) (xs ys : List Standing) → Placed k (xs ++ ys) → Placed k xs
  first_placed k xs ys p = record { front = p.front; back = ys ++ p.back; at = p.at; is = p.is ∙ ap (λ zs. p.front ++ zs) (append_assoc xs ys p.back) }

  rest_placed : (k m : ℕ) (xs ys : List Standing) → length xs ≡ m → Placed k (xs ++ ys) → Placed (k + m) ys
  rest_placed k m xs ys len p = record {
    front = p.front ++ xs;
    back = p.back;
    at = (let e = length-append p.front xs in let f = p.at in omega arith);
    is = p.is ∙ (ap (λ zs. p.front ++ zs) (append_assoc xs ys p.back) ∙ sym (append_assoc p.front xs (ys ++ p.back)));
  }

  standing_there : (k : ℕ) (x : Standing) → Placed k (x ∷ []) → nth_of (statements_of body) k ≡ Some x
  standing_there k x p = ap (λ zs. nth_of zs k) p.is ∙ (ap (nth_of (p.front ++ x ∷ p.back)) p.at ∙ nth-append p.front x p.back)

  guarded_same : (s : tree.Guarded) (g : Option Expression)
      → under_guard s.line g (Assignment s.line None s.left s.right) ≡ guarded_statement s.line None (record { guard = g; left = s.left; right = s.right })
  guarded_same s None = refl
  guarded_same s (Some e) = refl

  mutual
    part_same : (p : Part) (ls : List tree.Loop) (round : List ℕ) (k : ℕ) → Placed k (standing_in ls p) → Known (loops_of p) → IsPlain p → statement_of_part line p ≡ nest_statement n y round (shape_of k p)
    part_same (Run s) ls round k placed known plain =
        let x : Standing = record { loops = ls; statement = s } in
        guarded_same s s.guard ∙ ap (λ o. guarded_statement (line_of o) None (guarded_of o)) (sym (standing_there k x placed))
    part_same (Turns l ps) ls round k placed known plain =
        let inner : Block = nest_block n y (round ++ l.number ∷ []) (shapes_of k ps) in
        ap (λ b. Do line l.variable l.first l.last (numeral l.step) b) (parts_same ps (ls ++ l ∷ []) (round ++ l.number ∷ []) k placed (λ m i. known m (inr i)) plain.1)
        ∙ (ap (λ e. Do line l.variable e l.last (numeral l.step) inner) plain.0.first
        ∙ (ap (λ z. Do line l.variable (Number (pos 1)) l.last (numeral z) inner) plain.0.step
        ∙ ap (λ o. Do line (variable_of_loop o) (Number (pos 1)) (trip_of_loop o) (Number (pos 1)) inner) (sym (known l (inl refl)))))
    part_same (Choice bs ps) ls round k placed known plain = absurd plain
    part_same (Label m) ls round k placed known plain = absurd plain
    part_same (Jump m) ls round k placed known plain = absurd plain

    parts_same : (ps : Parts) (ls : List tree.Loop) (round : List ℕ) (k : ℕ) → Placed k (statements_in_parts ls ps) → Known (loops_in_parts ps) → ArePlain ps → block_of_parts line ps ≡ nest_block n y round (shapes_of k ps)
    parts_same no_parts ls round k placed known plain = refl
    parts_same (part p ps) ls round k placed known plain = ap₂ (λ c b. statement c b)
        (part_same p ls round k (first_placed k (standing_in ls p) (statements_in_parts ls ps) placed) (λ m i. known m (In-left m (loops_of p) (loops_in_parts ps) i)) plain.0)
        (parts_same ps ls round (k + size_of p) (rest_placed k (size_of p) (standing_in ls p) (statements_in_parts ls ps) (size-is p ls plain.0) placed) (λ m i. known m (In-right m (loops_of p) (loops_in_parts ps) i)) plain.1)

  -- ---- the loops round each statement

  mutual
    part_fits : (p : Part) (ls : List tree.Loop) (k : ℕ) → Placed k (standing_in ls p) → IsPlain p → (s : ℕ) (ms : List ℕ) → Stands (shape_of k p) s ms → n.loops_of s ≡ numbers_of ls ++ ms
    part_fits (Run x) ls k placed plain s [] h =
        let e = standing_there k (record { loops = ls; statement = x }) placed in
        ap n.loops_of (sym h) ∙ (ap loops_round e ∙ sym (append-nil (numbers_of ls)))
    part_fits (Run x) ls k placed plain s (m ∷ ms) h = absurd h
    part_fits (Turns l ps) ls k placed plain s [] h = absurd h
    part_fits (Turns l ps) ls k placed plain s (m ∷ ms) h =
        parts_fit ps (ls ++ l ∷ []) k placed plain.1 s ms h.1
        ∙ (ap (λ zs. zs ++ ms) (map-append (λ (z : tree.Loop). z.number) ls (l ∷ []))
        ∙ (append_assoc (numbers_of ls) (l.number ∷ []) ms ∙ ap (λ z. numbers_of ls ++ z ∷ ms) h.0))
    part_fits (Choice bs ps) ls k placed plain s ms h = absurd plain
    part_fits (Label m) ls k placed plain s ms h = absurd plain
    part_fits (Jump m) ls k placed plain s ms h = absurd plain

    parts_fit : (ps : Parts) (ls : List tree.Loop) (k : ℕ) → Placed k (statements_in_parts ls ps) → ArePlain ps → (s : ℕ) (ms : List ℕ) → StandsIn (shapes_of k ps) s ms → n.loops_of s ≡ numbers_of ls ++ ms
    parts_fit no_parts ls k placed plain s ms h = absurd h
    parts_fit (part p ps) ls k placed plain s ms (inl h) = part_fits p ls k (first_placed k (standing_in ls p) (statements_in_parts ls ps) placed) plain.0 s ms h
    parts_fit (part p ps) ls k placed plain s ms (inr h) = parts_fit ps ls (k + size_of p) (rest_placed k (size_of p) (standing_in ls p) (statements_in_parts ls ps) (size-is p ls plain.0) placed) plain.1 s ms h

  whole : Placed 0 (statements_of body)
  whole = record { front = []; back = []; at = refl; is = sym (append-nil (statements_of body)) }

  pub statement_same : IsPlain body → Distinct (numbers_of (loops_of body)) → statement_of_part line body ≡ nest_statement n y [] (shape_of 0 body)
  statement_same plain once = part_same body [] [] 0 whole (λ l i. numbered-In (loops_of body) l once i) plain

  pub fits : IsPlain body → (s : ℕ) (ms : List ℕ) → Stands (shape_of 0 body) s ms → n.loops_of s ≡ ms
  fits plain s ms h = part_fits body [] 0 whole plain s ms h

pub statement_is_of_shape : StatementIsOfShape
statement_is_of_shape line body symbols linear turns_of plain once = statement_same line body symbols linear turns_of plain once

pub shape_is_nest : ShapeIsNest
shape_is_nest body symbols linear turns_of plain once = record {
  rising = (statements-from 0 body plain).0;
  single = subst Distinct (sym (loops-are 0 body plain)) once;
  fits = λ s ms h. fits 0 body symbols linear turns_of plain s ms h;
}
