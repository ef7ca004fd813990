-- How many dimensions a name has, by its uses and by its bounds.
use Rattle.std.proofs.Common.{◌≡◌, ℕ, Bool, true, false, ◌&&◌, cond, List, [], ◌∷◌, ◌++◌, length, refl, sym, ap, ◌∙◌, flat_map}
use Rattle.std.specs.List.{AllByRecursion}
use Rattle.std.specs.Str.{bytes_eq}
use Rattle.tree.specs.declared.ops.Kind.{Kind}
use Rattle.tree.specs.Plain.{Expression, Number, Logic, Named, Unary, Binary, Apply, Expressions, no_expressions, expression, Subscript, Only, Subscripts, no_subscripts, subscript, Item, Single, Constant, ImpliedDo, Items, no_items, item}
use Rattle.f77_grammar.specs.declared.directions.Direction.{Direction}
use Rattle.f77_grammar.specs.declared.directions.Direction.TheVariants.{Output, Input}
use Rattle.f77_grammar.specs.Statement77.{Entity, NamedConstant, Labelled, Statement77, Program, Declare, Dimension, Constants, Assign, Test, If, ElseIf, Do, Read, Print}
use Rattle.f77_grammar.specs.program.Uses.{Role, Title, Typed, Bounded, Defined, Valued, Target, Counter, Use77, uses77_in, uses_in_arguments, uses77_in_subscripts, uses77_in_subscript, input_uses, value_uses, uses_in_item, uses_in_items, uses_in_bounds, bounded_uses, dimensioned_uses, typed_uses, defined_uses, uses77_of, uses_in_text, is_bounded, stands, dimensions_in, dimensions_of_name}
use Rattle.f77_grammar.specs.program.Limits.{entities_of, has_bounds, bounds_among, bounds_of_name}
use Rattle.f77_laws.proofs.Lists.{all_both, all_weaker, left_false, right_false}

-- ---- what stands in expressions, lists and executable statements

abbrev pub IsPlainRole : Role → Type 0
IsPlainRole (Valued n) = Unit {0}
IsPlainRole (Target n) = Unit {0}
IsPlainRole Counter = Unit {0}
IsPlainRole Title = ⊥
IsPlainRole (Typed k) = ⊥
IsPlainRole (Bounded n) = ⊥
IsPlainRole Defined = ⊥

abbrev pub IsPlainUse : Use77 → Type 0
IsPlainUse u = IsPlainRole u.role

abbrev pub ArePlain : List Use77 → Type 0
ArePlain us = AllByRecursion IsPlainUse us

abbrev plain_both : (us vs : List Use77) → ArePlain us → ArePlain vs → ArePlain (us ++ vs)
plain_both us vs h g = all_both IsPlainUse us vs h g

mutual
  pub plain_in : (e : Expression) → ArePlain (uses77_in e)
  plain_in (Number n) = tt
  plain_in (Logic b) = tt
  plain_in (Named x ps) = (tt, plain_in_subscripts ps)
  plain_in (Unary o a) = plain_in a
  plain_in (Binary o a b) = plain_both (uses77_in a) (uses77_in b) (plain_in a) (plain_in b)
  plain_in (Apply f es) = plain_in_arguments es
  plain_in e = tt

  plain_in_arguments : (es : Expressions) → ArePlain (uses_in_arguments es)
  plain_in_arguments no_expressions = tt
  plain_in_arguments (expression e es) = plain_both (uses77_in e) (uses_in_arguments es) (plain_in e) (plain_in_arguments es)

  pub plain_in_subscripts : (ps : Subscripts) → ArePlain (uses77_in_subscripts ps)
  plain_in_subscripts no_subscripts = tt
  plain_in_subscripts (subscript p ps) = plain_both (uses77_in_subscript p) (uses77_in_subscripts ps) (plain_in_subscript p) (plain_in_subscripts ps)

  plain_in_subscript : (p : Subscript) → ArePlain (uses77_in_subscript p)
  plain_in_subscript (Only e) = plain_in e
  plain_in_subscript p = tt

plain_input : (e : Expression) → ArePlain (input_uses e)
plain_input (Named x ps) = (tt, plain_in_subscripts ps)
plain_input (Number n) = tt
plain_input (Logic b) = tt
plain_input (Unary o a) = plain_in a
plain_input (Binary o a b) = plain_in (Binary o a b)
plain_input (Apply f es) = plain_in (Apply f es)
plain_input e = tt

plain_control : (a b c : Expression) → ArePlain (uses77_in a ++ uses77_in b ++ uses77_in c)
plain_control a b c = plain_both (uses77_in a ++ uses77_in b) (uses77_in c) (plain_both (uses77_in a) (uses77_in b) (plain_in a) (plain_in b)) (plain_in c)

plain_value : (d : Direction) (e : Expression) → ArePlain (value_uses d e)
plain_value Output e = plain_in e
plain_value Input e = plain_input e

mutual
  plain_item : (d : Direction) (i : Item) → ArePlain (uses_in_item d i)
  plain_item d (Single e) = plain_value d e
  plain_item d (Constant t) = tt
  plain_item d (ImpliedDo is x a b c) = plain_both (uses_in_items d is) _ (plain_items d is) (tt, plain_control a b c)

  plain_items : (d : Direction) (is : Items) → ArePlain (uses_in_items d is)
  plain_items d no_items = tt
  plain_items d (item i is) = plain_both (uses_in_item d i) (uses_in_items d is) (plain_item d i) (plain_items d is)

pub plain_in_bounds : (bs : List (Expression × Expression)) → ArePlain (uses_in_bounds bs)
plain_in_bounds [] = tt
plain_in_bounds (b ∷ bs) = plain_both (uses77_in b.0 ++ uses77_in b.1) (uses_in_bounds bs) (plain_both (uses77_in b.0) (uses77_in b.1) (plain_in b.0) (plain_in b.1)) (plain_in_bounds bs)

-- ---- uses without bounds

abbrev AreUnbounded : List Use77 → Type 0
AreUnbounded us = AllByRecursion (λ (u : Use77). is_bounded u.role ≡ false) us

unbounded_role : (r : Role) → IsPlainRole r → is_bounded r ≡ false
unbounded_role (Bounded n) h = absurd h
unbounded_role r h = refl

unbounded : (us : List Use77) → ArePlain us → AreUnbounded us
unbounded us h = all_weaker IsPlainUse (λ (u : Use77). is_bounded u.role ≡ false) (λ u. unbounded_role u.role) us h

unbounded_both : (us vs : List Use77) → AreUnbounded us → AreUnbounded vs → AreUnbounded (us ++ vs)
unbounded_both us vs h g = all_both (λ (u : Use77). is_bounded u.role ≡ false) us vs h g

defined_unbounded : (ds : List NamedConstant) → AreUnbounded (flat_map defined_uses ds)
defined_unbounded [] = tt
defined_unbounded (d ∷ ds) = (refl, unbounded_both (uses77_in d.value) (flat_map defined_uses ds) (unbounded (uses77_in d.value) (plain_in d.value)) (defined_unbounded ds))

-- ---- dimensions by uses, and `o` where no use has any

abbrev dimensions_or : List Use77 → List ℕ → ℕ → ℕ
dimensions_or [] x o = o
dimensions_or (u ∷ us) x o = dimensions_in u.role (bytes_eq u.name x) (dimensions_or us x o)

or_none : (us : List Use77) (x : List ℕ) → dimensions_or us x 0 ≡ dimensions_of_name us x
or_none [] x = refl
or_none (u ∷ us) x = ap (dimensions_in u.role (bytes_eq u.name x)) (or_none us x)

or_appended : (us vs : List Use77) (x : List ℕ) (o : ℕ) → dimensions_or (us ++ vs) x o ≡ dimensions_or us x (dimensions_or vs x o)
or_appended [] vs x o = refl
or_appended (u ∷ us) vs x o = ap (dimensions_in u.role (bytes_eq u.name x)) (or_appended us vs x o)

passed_over : (r : Role) (b : Bool) (o : ℕ) → is_bounded r ≡ false → dimensions_in r b o ≡ o
passed_over (Bounded n) b o h = absurd cc
passed_over r b o h = refl

or_unbounded : (us : List Use77) (x : List ℕ) (o : ℕ) → AreUnbounded us → dimensions_or us x o ≡ o
or_unbounded [] x o h = refl
or_unbounded (u ∷ us) x o h = passed_over u.role (bytes_eq u.name x) (dimensions_or us x o) h.0 ∙ or_unbounded us x o h.1

-- ---- dimensions by bounds

abbrev length_or : List Entity → List ℕ → ℕ → ℕ
length_or [] x o = o
length_or (e ∷ es) x o = cond (has_bounds e.bounds && bytes_eq e.name x) (length e.bounds) (length_or es x o)

length_none : (es : List Entity) (x : List ℕ) → length (bounds_among es x) ≡ length_or es x 0
length_none [] x = refl
length_none (e ∷ es) x = by (has_bounds e.bounds && bytes_eq e.name x) (length_none es x)
  where
    by : (b : Bool) → length (bounds_among es x) ≡ length_or es x 0 → length (cond b e.bounds (bounds_among es x)) ≡ cond b (length e.bounds) (length_or es x 0)
    by true more = refl
    by false more = more

length_appended : (es fs : List Entity) (x : List ℕ) (o : ℕ) → length_or (es ++ fs) x o ≡ length_or es x (length_or fs x o)
length_appended [] fs x o = refl
length_appended (e ∷ es) fs x o = ap (cond (has_bounds e.bounds && bytes_eq e.name x) (length e.bounds)) (length_appended es fs x o)

-- ---- both are one

of_bounds : (y : List ℕ) (bs : List (Expression × Expression)) (x : List ℕ) (o : ℕ) → dimensions_or (bounded_uses y bs) x o ≡ cond (has_bounds bs && bytes_eq y x) (length bs) o
of_bounds y [] x o = refl
of_bounds y (b ∷ bs) x o = by (bytes_eq y x) (or_unbounded (uses_in_bounds (b ∷ bs)) x o (unbounded (uses_in_bounds (b ∷ bs)) (plain_in_bounds (b ∷ bs))))
  where
    by : (t : Bool) → dimensions_or (uses_in_bounds (b ∷ bs)) x o ≡ o → dimensions_in (Bounded (length (b ∷ bs))) t (dimensions_or (uses_in_bounds (b ∷ bs)) x o) ≡ cond t (length (b ∷ bs)) o
    by true e = refl
    by false e = e

of_typed : (k : Kind) (es : List Entity) (x : List ℕ) (o : ℕ) → dimensions_or (flat_map (typed_uses k) es) x o ≡ length_or es x o
of_typed k [] x o = refl
of_typed k (e ∷ es) x o =
    or_appended (dimensioned_uses e) (flat_map (typed_uses k) es) x o
    ∙ of_bounds e.name e.bounds x (dimensions_or (flat_map (typed_uses k) es) x o)
    ∙ ap (cond (has_bounds e.bounds && bytes_eq e.name x) (length e.bounds)) (of_typed k es x o)

of_dimensioned : (es : List Entity) (x : List ℕ) (o : ℕ) → dimensions_or (flat_map dimensioned_uses es) x o ≡ length_or es x o
of_dimensioned [] x o = refl
of_dimensioned (e ∷ es) x o =
    or_appended (dimensioned_uses e) (flat_map dimensioned_uses es) x o
    ∙ of_bounds e.name e.bounds x (dimensions_or (flat_map dimensioned_uses es) x o)
    ∙ ap (cond (has_bounds e.bounds && bytes_eq e.name x) (length e.bounds)) (of_dimensioned es x o)

-- an executable statement
abbrev pub IsAction : Statement77 → Type 0
IsAction (Program x) = ⊥
IsAction (Declare k es) = ⊥
IsAction (Dimension es) = ⊥
IsAction (Constants ds) = ⊥
IsAction (Test c s) = IsAction s
IsAction s = Unit {0}

-- a logical IF has an executable statement in it
abbrev pub IsProper : Statement77 → Type 0
IsProper (Test c s) = IsAction s
IsProper s = Unit {0}

abbrev pub AreProper : List Labelled → Type 0
AreProper text = AllByRecursion (λ (x : Labelled). IsProper x.statement) text

pub plain_of : (s : Statement77) → IsAction s → ArePlain (uses77_of s)
plain_of (Program x) h = absurd h
plain_of (Declare k es) h = absurd h
plain_of (Dimension es) h = absurd h
plain_of (Constants ds) h = absurd h
plain_of (Assign left e) h = (tt, plain_both (uses77_in_subscripts left.subscripts) (uses77_in e) (plain_in_subscripts left.subscripts) (plain_in e))
plain_of (Test c s) h = plain_both (uses77_in c) (uses77_of s) (plain_in c) (plain_of s h)
plain_of (If c) h = plain_in c
plain_of (ElseIf c) h = plain_in c
plain_of (Do n x a b c) h = (tt, plain_control a b c)
plain_of (Read is) h = plain_items Input is
plain_of (Print is) h = plain_items Output is
plain_of s h = tt

of_statement : (s : Statement77) (x : List ℕ) (o : ℕ) → IsProper s → dimensions_or (uses77_of s) x o ≡ length_or (entities_of s) x o
of_statement (Declare k es) x o h = of_typed k es x o
of_statement (Dimension es) x o h = of_dimensioned es x o
of_statement (Program y) x o h = refl
of_statement (Constants ds) x o h = or_unbounded (flat_map defined_uses ds) x o (defined_unbounded ds)
of_statement (Test c s) x o h = or_unbounded (uses77_of (Test c s)) x o (unbounded (uses77_of (Test c s)) (plain_of (Test c s) h))
of_statement s x o h = or_unbounded (uses77_of s) x o (unbounded (uses77_of s) (plain_of s tt))

of_text : (text : List Labelled) (x : List ℕ) (o : ℕ) → AreProper text → dimensions_or (uses_in_text text) x o ≡ length_or (flat_map (λ (y : Labelled). entities_of y.statement) text) x o
of_text [] x o h = refl
of_text (y ∷ ys) x o h =
    or_appended (uses77_of y.statement) (uses_in_text ys) x o
    ∙ of_statement y.statement x (dimensions_or (uses_in_text ys) x o) h.0
    ∙ ap (length_or (entities_of y.statement) x) (of_text ys x o h.1)
    ∙ sym (length_appended (entities_of y.statement) (flat_map (λ (z : Labelled). entities_of z.statement) ys) x o)

-- the bounds that a name is given are as many as its uses say
pub number_of_bounds : (text : List Labelled) (x : List ℕ) → AreProper text → length (bounds_of_name text x) ≡ dimensions_of_name (uses_in_text text) x
number_of_bounds text x h =
    length_none (flat_map (λ (y : Labelled). entities_of y.statement) text) x ∙ sym (of_text text x 0 h) ∙ or_none (uses_in_text text) x

-- a name without bounds has no dimensions
pub no_dimensions : (us : List Use77) (x : List ℕ) → stands is_bounded us x ≡ false → dimensions_of_name us x ≡ 0
no_dimensions [] x h = refl
no_dimensions (u ∷ us) x h =
    unbounded_here u.role (bytes_eq u.name x) (dimensions_of_name us x) (left_false (is_bounded u.role && bytes_eq u.name x) (stands is_bounded us x) h)
    ∙ no_dimensions us x (right_false (is_bounded u.role && bytes_eq u.name x) (stands is_bounded us x) h)
  where
    unbounded_here : (r : Role) (b : Bool) (o : ℕ) → (is_bounded r && b) ≡ false → dimensions_in r b o ≡ o
    unbounded_here (Bounded n) true o h = absurd cc
    unbounded_here (Bounded n) false o h = refl
    unbounded_here r b o h = refl
