-- The value of an expression has its kind, and so have the elements of an array.
use Rattle.std.proofs.Common.{◌≡◌, refl, sym, subst, ◌∙◌, ℕ, zero, suc, ◌^◌, ◌-◌, ℤ, pos, ◌+ℤ◌, ◌-ℤ◌, neg_ℤ, Bool, true, false, cond, Option, Some, None, IfSome, List, [], ◌∷◌, ◌++◌, map, length, Result, Ok, Err}
use Rattle.std.specs.List.{AllByRecursion, fold}
use Rattle.std.specs.Int.{int_max, int_min}
use Rattle.std.specs.Option.{IsSomeAnd}
use Rattle.tree.specs.Steps.{◌>>=◌}
use Rattle.tree.specs.Operators.{number, ranged, exact_value, on_numbers, on_truths, apply, is_neg, is_not}
use Rattle.tree.specs.Operators.{exact_of_values, as_numbers, call, fits, sum_from, reduced}
use Rattle.tree.specs.OperationFaults.{kind_of}
use Rattle.tree.specs.Plain.{Expression, Number, Logic, Named, Unary, Binary, Apply, Constructor, Spread, Transpose, Reshape, Reduce, Expressions, no_expressions, expression, Loops, no_loops, loop, Declaration, Program}
use Rattle.tree.specs.declared.ops.Kind.{Kind}
use Rattle.tree.specs.declared.ops.Kind.TheVariants.{Integer}
use Rattle.tree.specs.declared.ops.Value.{Value}
use Rattle.tree.specs.declared.ops.Value.TheVariants.{Int, Truth}
use Rattle.tree.specs.declared.ops.Fault.{Fault}
use Rattle.tree.specs.declared.ops.Fault.TheVariants.{Overflow, Shape, Bounds}
use Rattle.tree.specs.declared.ops.Op.{Op}
use Rattle.tree.specs.declared.ops.Op.TheVariants.{Pow, Mul, Div, Neg, Add, Sub, Lt, Le, Eq, Ne, Gt, Ge, Not, And, Or, Eqv, Neqv}
use Rattle.tree.specs.declared.functions.Fun.{Fun}
use Rattle.tree.specs.declared.functions.Red.{Red}
use Rattle.tree.specs.declared.functions.Red.TheVariants.{Sum, MaxVal, MinVal}
use Rattle.meaning.specs.Dialect.{Dialect}
use Rattle.meaning.specs.Store.{Store, Cell, cell_at, cell_in, stored_bounds, numbers_from}
use Rattle.tree.specs.OperatorTable.{result_kind_of}
use Rattle.meaning.specs.Typed.{declared, rank_of_extent}
use Rattle.meaning.specs.Typed90.{HasKind, AreScalars, AreLoops, IsIntegerScalar}
use Rattle.meaning.specs.ArrayValues.{Array, Elements, each, scalar_array, settled, in_whole, value_at_index, place_of, positions, conform, reshaped}
use Rattle.meaning.specs.Sections.{axes_selected, not_negative}
use Rattle.meaning.specs.Value.{value_of, values_of, array_of, arguments_of, subscript_values, selectors, with_arrays, evaluated, numbered, under, for_numbers, bound_to, joined_values, is_scalar}
use Rattle.meaning.specs.Holding.{IsStorable, HoldsProgram}
use Rattle.meaning_laws.specs.profiles.Values.{ValueHasKind, ElementsHaveKind}
use Rattle.meaning_laws.proofs.profiles.Answering.{Answers, AnyFault, AnyValue, behind, value, each_answers}
use Rattle.meaning_laws.proofs.profiles.Stores.{Fits, put_holds}

abbrev pub IsKind : Kind → Value → Type 0
IsKind k v = kind_of v ≡ k

abbrev pub Gives : {A : Type 0} → (A → Type 0) → Result A Fault → Type 0
Gives {A} P r = Answers AnyFault P r

-- any answer at all
pub any : {A : Type 0} (r : Result A Fault) → Gives AnyValue r
any (Ok x) = tt
any (Err f) = tt

abbrev pub after : {A B : Type 0} (Q : B → Type 0) (r : Result A Fault) (f : A → Result B Fault) → ((x : A) → Gives Q (f x)) → Gives Q (r >>= f)
after Q r f h = behind AnyFault AnyValue Q r f (any r) (λ x q. h x)

-- ---- operators and functions

number_is : (z : ℤ) → Gives (IsKind Integer) (number z)
number_is z = by (fits 127 z)
  where
    by : (b : Bool) → Gives (IsKind Integer) (cond b (Ok (Int z)) (Err Overflow))
    by true = refl
    by false = tt

ranged_is : (r : Result ℤ Fault) → Gives (IsKind Integer) (ranged r)
ranged_is (Ok z) = number_is z
ranged_is (Err e) = tt

on_numbers_is : (o : Op) (a b : ℤ) → Gives (IsKind (result_kind_of o)) (on_numbers o a b)
on_numbers_is Lt a b = refl
on_numbers_is Le a b = refl
on_numbers_is Eq a b = refl
on_numbers_is Ne a b = refl
on_numbers_is Gt a b = refl
on_numbers_is Ge a b = refl
on_numbers_is Pow a b = ranged_is (exact_value Pow a b)
on_numbers_is Mul a b = ranged_is (exact_value Mul a b)
on_numbers_is Div a b = ranged_is (exact_value Div a b)
on_numbers_is Neg a b = ranged_is (exact_value Neg a b)
on_numbers_is Add a b = ranged_is (exact_value Add a b)
on_numbers_is Sub a b = ranged_is (exact_value Sub a b)
on_numbers_is Not a b = tt
on_numbers_is And a b = tt
on_numbers_is Or a b = tt
on_numbers_is Eqv a b = tt
on_numbers_is Neqv a b = tt

on_truths_is : (o : Op) (a b : Bool) → Gives (IsKind (result_kind_of o)) (on_truths o a b)
on_truths_is Not a b = refl
on_truths_is And a b = refl
on_truths_is Or a b = refl
on_truths_is Eqv a b = refl
on_truths_is Neqv a b = refl
on_truths_is _ a b = tt

if_neg : (o : Op) (a : ℤ) → Gives (IsKind (result_kind_of o)) (cond (is_neg o) (on_numbers Neg a a) (Err Shape))
if_neg Neg a = on_numbers_is Neg a a
if_neg _ a = tt

if_not : (o : Op) (a : Bool) → Gives (IsKind (result_kind_of o)) (cond (is_not o) (on_truths Not a a) (Err Shape))
if_not Not a = refl
if_not _ a = tt

pub apply_is : (o : Op) (x y : Value) → Gives (IsKind (result_kind_of o)) (apply o x y)
apply_is o (Int a) (Int b) = on_numbers_is o a b
apply_is o (Truth a) (Truth b) = on_truths_is o a b
apply_is o (Int a) (Truth b) = if_neg o a
apply_is o (Truth a) (Int b) = if_not o a

pub call_is : (f : Fun) (xs : List Value) → Gives (IsKind Integer) (call f xs)
call_is f xs = ranged_is (exact_of_values f xs)

sum_is : (z : ℤ) (zs : List ℤ) → Gives (IsKind Integer) (sum_from z zs)
sum_is z [] = refl
sum_is z (x ∷ xs) = by (fits 127 (z +ℤ x)) (sum_is (z +ℤ x) xs)
  where
    by : (b : Bool) → Gives (IsKind Integer) (sum_from (z +ℤ x) xs) → Gives (IsKind Integer) (cond b (sum_from (z +ℤ x) xs) (Err Overflow))
    by true more = more
    by false more = tt

reduced_is : (bits : ℕ) (r : Red) (zs : List ℤ) → Gives (IsKind Integer) (reduced bits r zs)
reduced_is bits Sum zs = sum_is (pos 0) zs
reduced_is bits MaxVal [] = number_is (neg_ℤ (pos (2 ^ bits)))
reduced_is bits MaxVal (z ∷ zs) = number_is (fold int_max z zs)
reduced_is bits MinVal [] = number_is (pos (2 ^ bits - 1))
reduced_is bits MinVal (z ∷ zs) = number_is (fold int_min z zs)

-- ---- arrays

abbrev pub ElementsAre : Kind → Elements Value → Type 0
ElementsAre k g = (is : List ℕ) → Gives (IsKind k) (g.at is)

abbrev AllAre : Kind → List Value → Type 0
AllAre k vs = AllByRecursion (IsKind k) vs

abbrev ArrayIs : Kind → Array → Type 0
ArrayIs k a = AllAre k a.values

value_at_is : (k : Kind) (vs : List Value) (n : ℕ) → AllAre k vs → Gives (IsKind k) (value_at_index vs n)
value_at_is k [] n h = tt
value_at_is k (v ∷ vs) zero h = h.0
value_at_is k (v ∷ vs) (suc n) h = value_at_is k vs n h.1

settled_is : (k : Kind) (a : Array) → ArrayIs k a → ElementsAre k (settled a)
settled_is k a h is = value_at_is k a.values (place_of a.extents is) h

each_at : (k : Kind) (g : Elements Value) (ps : List (List ℕ)) → ElementsAre k g → Gives (AllAre k) (each g.at ps)
each_at k g [] h = tt
each_at k g (p ∷ ps) h =
    behind AnyFault (IsKind k) (AllAre k) (g.at p) (λ y. do ys ← each g.at ps; Ok (y ∷ ys)) (h p) (λ y q.
    behind AnyFault (AllAre k) (AllAre k) (each g.at ps) (λ ys. Ok (y ∷ ys)) (each_at k g ps h) (λ ys qs. (q, qs)))

whole_is : (k : Kind) (g : Elements Value) → ElementsAre k g → Gives (ArrayIs k) (in_whole g)
whole_is k g h = behind AnyFault (AllAre k) (ArrayIs k) (each g.at (positions g.extents)) (λ vs. Ok (record { extents = g.extents; values = vs })) (each_at k g (positions g.extents) h) (λ vs q. q)

evaluated_is : (k : Kind) (b : Bool) (r : Result Value Fault) (q : Result (Elements Value) Fault) → Gives (IsKind k) r → Gives (ElementsAre k) q → Gives (ArrayIs k) (evaluated b r q)
evaluated_is k true r q h g = behind AnyFault (IsKind k) (ArrayIs k) r (λ x. Ok (scalar_array x)) h (λ x p. (p, tt))
evaluated_is k false r q h g = behind AnyFault (ElementsAre k) (ArrayIs k) q in_whole g (λ x p. whole_is k x p)

reshaped_is : (k : Kind) (ns : List ℕ) (a : Array) → ArrayIs k a → Gives (ElementsAre k) (reshaped ns a)
reshaped_is k ns a h = by _
  where
    by : (b : Bool) → Gives (ElementsAre k) (cond b (Ok (settled (record { extents = ns; values = a.values }))) (Err Shape))
    by true = settled_is k (record { extents = ns; values = a.values }) h
    by false = tt

with_arrays_is : {A : Type 0} (P : A → Type 0) (b : Bool) (r : Result A Fault) → Gives P r → Gives P (with_arrays b r)
with_arrays_is P true r h = h
with_arrays_is P false r h = tt

-- ---- names

held_is : (lang : Dialect) (o : Option Declaration) (k : Kind) (P : Declaration → Type 0) (v : Value) → IfSome o (λ (e : Declaration). IsStorable lang e.kind v) → IsSomeAnd o (λ d. (k ≡ d.kind) × P d) → IsKind k v
held_is lang None k P v h g = absurd g
held_is lang (Some e) k P v h g = h.kind ∙ sym g.0

module _ (lang : Dialect) (p : Program) where
  abbrev Holds : Store → Type 0
  Holds s = HoldsProgram lang p s

  abbrev ds : List Declaration
  ds = p.declarations

  pub cell_is : (b : Option (List (ℤ × ℤ))) (x : List ℕ) (is : List ℤ) → Gives (λ (c : Cell). c.name ≡ x) (cell_in b x is)
  cell_is None x is = tt
  cell_is (Some bs) x is = by _
    where
      by : (t : Bool) → Gives (λ (c : Cell). c.name ≡ x) (cond t (Ok (record { name = x; subscripts = is })) (Err Bounds))
      by true = refl
      by false = tt

  -- what a cell of a name holds that has this kind
  held_there : (x : List ℕ) (k : Kind) (P : Declaration → Type 0) (s : Store) (c : Cell) → Holds s → IsSomeAnd (declared ds x) (λ d. (k ≡ d.kind) × P d) → c.name ≡ x → IsKind k (s.held c)
  held_there x k P s c h g e = held_is lang (declared ds x) k P (s.held c) (subst (λ y. IfSome (declared ds y) (λ (d : Declaration). IsStorable lang d.kind (s.held c))) e (h.kinds c)) g

  cells_held : (x : List ℕ) (k : Kind) (P : Declaration → Type 0) (s : Store) → Holds s → IsSomeAnd (declared ds x) (λ d. (k ≡ d.kind) × P d) → (iss : List (List ℤ))
      → AllAre k (map s.held (map (λ is. record { name = x; subscripts = is }) iss))
  cells_held x k P s h g [] = tt
  cells_held x k P s h g (is ∷ iss) = (held_there x k P s (record { name = x; subscripts = is }) h g refl, cells_held x k P s h g iss)

  -- ---- under the loops of a constructor

  pub integer_fits : (x : List ℕ) (z : ℤ) → IsIntegerScalar ds x → fits lang.bits z ≡ true → Fits lang p x (Int z)
  integer_fits x z i e = by (declared ds x) i
    where
      by : (o : Option Declaration) → IsSomeAnd o (λ d. (d.kind ≡ Integer) × (rank_of_extent d.extent ≡ 0)) → IfSome o (λ (d : Declaration). IsStorable lang d.kind (Int z))
      by None i = absurd i
      by (Some d) i = record { kind = sym i.0; within = e }

  joined_are : (k : Kind) (vss : List (List Value)) → AllByRecursion (AllAre k) vss → AllAre k (joined_values vss)
  joined_are k [] h = tt
  joined_are k (vs ∷ vss) h = appended vs h.0 (joined_are k vss h.1)
    where
      appended : (vs : List Value) → AllAre k vs → AllAre k (joined_values vss) → AllAre k (vs ++ joined_values vss)
      appended [] a b = b
      appended (v ∷ vs) a b = (a.0, appended vs a.1 b)

  one_turn : (k : Kind) (x : List ℕ) (f : Store → Result (List Value) Fault) (s : Store) → IsIntegerScalar ds x → Holds s → ((t : Store) → Holds t → Gives (AllAre k) (f t))
      → (z : ℤ) → Gives (AllAre k) (cond (fits lang.bits z) (f (bound_to x z s)) (Err Overflow))
  one_turn k x f s i h g z = by (fits lang.bits z) refl
    where
      by : (b : Bool) → fits lang.bits z ≡ b → Gives (AllAre k) (cond b (f (bound_to x z s)) (Err Overflow))
      by true e = g (bound_to x z s) (put_holds lang p (record { name = x; subscripts = [] }) (Int z) s (integer_fits x z i e) h)
      by false e = tt

  turns : (k : Kind) (x : List ℕ) (f : Store → Result (List Value) Fault) (s : Store) → IsIntegerScalar ds x → Holds s → ((t : Store) → Holds t → Gives (AllAre k) (f t))
      → (l u : ℤ) → Gives (AllAre k) (for_numbers lang.bits x l u f s)
  turns k x f s i h g l u =
      behind AnyFault (AllByRecursion (AllAre k)) (AllAre k) (each (λ z. cond (fits lang.bits z) (f (bound_to x z s)) (Err Overflow)) (numbers_from l (not_negative (u -ℤ l +ℤ pos 1)))) (λ vss. Ok (joined_values vss))
      (each_answers AnyFault AnyValue (AllAre k) _ (numbers_from l (not_negative (u -ℤ l +ℤ pos 1))) (λ z q. one_turn k x f s i h g z) (all_any _))
      (λ vss q. joined_are k vss q)
    where
      all_any : (zs : List ℤ) → AllByRecursion AnyValue zs
      all_any [] = tt
      all_any (z ∷ zs) = (tt, all_any zs)

  under_is : (k : Kind) (ls : Loops) (f : Store → Result (List Value) Fault) (s : Store) → AreLoops ds ls → Holds s → ((t : Store) → Holds t → Gives (AllAre k) (f t)) → Gives (AllAre k) (under lang ls f s)
  under_is k no_loops f s i h g = g s h
  under_is k (loop x a b ls) f s i h g =
      under_is k ls _ s i.3 h (λ t ht. after (AllAre k) (numbered (value_of lang a t)) _ (λ l. after (AllAre k) (numbered (value_of lang b t)) _ (λ u. turns k x f t i.0 ht g l u)))

  -- ---- expressions

  mutual
    pub value_is : (e : Expression) (k : Kind) (s : Store) → Holds s → HasKind ds e k → Gives (IsKind k) (value_of lang e s)
    value_is (Number n) k s h g = sym g.1
    value_is (Logic b) k s h g = sym g
    value_is (Named x ps) k s h g =
        after (IsKind k) (subscript_values lang ps s) _ (λ is. behind AnyFault (λ (c : Cell). c.name ≡ x) (IsKind k) (cell_at x is s) _ (cell_is (s.bounds x) x is) (λ c e. held_there x k _ s c h g.0 e))
    value_is (Unary o a) k s h g = subst (λ j. Gives (IsKind j) (value_of lang (Unary o a) s)) (sym g.1) (after (IsKind (result_kind_of o)) (value_of lang a s) _ (λ x. apply_is o x x))
    value_is (Binary o a b) k s h g =
        subst (λ j. Gives (IsKind j) (value_of lang (Binary o a b) s)) (sym g.1)
        (after (IsKind (result_kind_of o)) (value_of lang a s) _ (λ x. after (IsKind (result_kind_of o)) (value_of lang b s) _ (λ y. apply_is o x y)))
    value_is (Apply f es) k s h g = subst (λ j. Gives (IsKind j) (value_of lang (Apply f es) s)) (sym g.2) (after (IsKind Integer) (values_of lang es s) _ (λ xs. call_is f xs))
    value_is (Constructor es ls) k s h g = tt
    value_is (Spread a n e) k s h g = tt
    value_is (Transpose a) k s h g = tt
    value_is (Reshape a es) k s h g = tt
    value_is (Reduce r a) k s h g =
        subst (λ j. Gives (IsKind j) (value_of lang (Reduce r a) s)) (sym g.2)
        (with_arrays_is (IsKind Integer) lang.arrays _ (after (IsKind Integer) (array_of lang a s) _ (λ q. after (IsKind Integer) (in_whole q) _ (λ v. after (IsKind Integer) (as_numbers v.values) _ (λ zs. reduced_is lang.bits r zs)))))

    pub values_are : (es : Expressions) (k : Kind) (s : Store) → Holds s → AreScalars ds es k → Gives (AllAre k) (values_of lang es s)
    values_are no_expressions k s h g = tt
    values_are (expression e es) k s h g =
        behind AnyFault (IsKind k) (AllAre k) (value_of lang e s) _ (value_is e k s h g.0.0) (λ x q. behind AnyFault (AllAre k) (AllAre k) (values_of lang es s) _ (values_are es k s h g.1) (λ xs qs. (q, qs)))

    pub array_is : (e : Expression) (k : Kind) (s : Store) → Holds s → HasKind ds e k → Gives (ElementsAre k) (array_of lang e s)
    array_is (Number n) k s h g = settled_is k (scalar_array (Int n)) (sym g.1, tt)
    array_is (Logic b) k s h g = settled_is k (scalar_array (Truth b)) (sym g, tt)
    array_is (Named x ps) k s h g =
        after (ElementsAre k) (selectors lang ps s) _ (λ zs. after (ElementsAre k) (stored_bounds x s) _ (λ bs. after (ElementsAre k) (axes_selected ps bs zs) _ (λ axes.
        settled_is k _ (cells_held x k _ s h g.0 _))))
    array_is (Unary o a) k s h g =
        subst (λ j. Gives (ElementsAre j) (array_of lang (Unary o a) s)) (sym g.1)
        (after (ElementsAre (result_kind_of o)) (array_of lang a s) _ (λ q is. after (IsKind (result_kind_of o)) (q.at is) _ (λ x. apply_is o x x)))
    array_is (Binary o a b) k s h g =
        subst (λ j. Gives (ElementsAre j) (array_of lang (Binary o a b) s)) (sym g.1)
        (after (ElementsAre (result_kind_of o)) (array_of lang a s) _ (λ q. after (ElementsAre (result_kind_of o)) (array_of lang b s) _ (λ r. after (ElementsAre (result_kind_of o)) (conform q.extents r.extents) _ (λ ns is.
        after (IsKind (result_kind_of o)) (q.at is) _ (λ x. after (IsKind (result_kind_of o)) (r.at is) _ (λ y. apply_is o x y))))))
    array_is (Apply f es) k s h g =
        subst (λ j. Gives (ElementsAre j) (array_of lang (Apply f es) s)) (sym g.2)
        (after (ElementsAre Integer) (arguments_of lang es [] s) _ (λ q is. after (IsKind Integer) (q.at is) _ (λ xs. call_is f xs)))
    array_is (Constructor es ls) k s h g =
        behind AnyFault (AllAre k) (ElementsAre k) (under lang ls (values_of lang es) s) _ (under_is k ls (values_of lang es) s g.2 h (λ t ht. values_are es k t ht g.0)) (λ vs q. settled_is k (record { extents = length vs ∷ []; values = vs }) q)
    array_is (Spread a n e) k s h g =
        behind AnyFault (ArrayIs k) (ElementsAre k) (evaluated (is_scalar a s.bounds) (value_of lang a s) (array_of lang a s)) _ (evaluated_is k _ _ _ (value_is a k s h g.4) (array_is a k s h g.4))
        (λ v q. after (ElementsAre k) (numbered (value_of lang e s)) _ (λ z is. settled_is k v q _))
    array_is (Transpose a) k s h g =
        behind AnyFault (ElementsAre k) (ElementsAre k) (array_of lang a s) _ (array_is a k s h g.2) (λ q u. behind AnyFault (ArrayIs k) (ElementsAre k) (in_whole q) _ (whole_is k q u) (λ v w is. settled_is k v w _))
    array_is (Reshape a es) k s h g =
        behind AnyFault (ElementsAre k) (ElementsAre k) (array_of lang a s) _ (array_is a k s h g.4) (λ q u. behind AnyFault (ArrayIs k) (ElementsAre k) (in_whole q) _ (whole_is k q u) (λ v w.
        after (ElementsAre k) (values_of lang es s) _ (λ xs. after (ElementsAre k) (as_numbers xs) _ (λ zs. reshaped_is k _ v w))))
    array_is (Reduce r a) k s h g =
        subst (λ j. Gives (ElementsAre j) (array_of lang (Reduce r a) s)) (sym g.2)
        (after (ElementsAre Integer) (array_of lang a s) _ (λ q. after (ElementsAre Integer) (in_whole q) _ (λ v. after (ElementsAre Integer) (as_numbers v.values) _ (λ zs.
        behind AnyFault (IsKind Integer) (ElementsAre Integer) (reduced lang.bits r zs) _ (reduced_is lang.bits r zs) (λ x u. settled_is Integer (scalar_array x) (u, tt))))))

pub value_has_kind : ValueHasKind
value_has_kind lang p e k s v h g q = value AnyFault (IsKind k) (value_of lang e s) v (value_is lang p e k s h g) q

pub elements_have_kind : ElementsHaveKind
elements_have_kind lang p e k s a h g q is v r = value AnyFault (IsKind k) (a.at is) v (value AnyFault (ElementsAre k) (array_of lang e s) a (array_is lang p e k s h g) q is) r
