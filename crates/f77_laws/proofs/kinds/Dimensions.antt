-- A name that a text gives bounds has a dimension.
use Rattle.std.proofs.Common.{◌≡◌, ℕ, suc, ◌≤◌, Bool, true, false, ◌&&◌, ◌||◌, List, [], ◌∷◌, ◌++◌, length, arith, flat_map}
use Rattle.std.specs.List.{AllByRecursion}
use Rattle.std.specs.Str.{bytes_eq}
use Rattle.tree.specs.declared.ops.Kind.{Kind}
use Rattle.tree.specs.Plain.{Expression}
use Rattle.f77_grammar.specs.Statement77.{Entity, NamedConstant, Labelled, Statement77, Program, Declare, Dimension, Constants, Test}
use Rattle.f77_grammar.specs.program.Uses.{Role, Bounded, Use77, uses77_in, uses_in_bounds, bounded_uses, dimensioned_uses, typed_uses, defined_uses, uses77_of, uses_in_text, is_bounded, stands, dimensions_in, dimensions_of_name}
use Rattle.f77_laws.proofs.Lists.{all_both, all_weaker}
use Rattle.f77_laws.proofs.Dimensions.{IsPlainRole, IsPlainUse, ArePlain, IsProper, AreProper, plain_in, plain_in_bounds, plain_of}

abbrev HasDimension : Role → Type 0
HasDimension (Bounded n) = 1 ≤ n
HasDimension r = Unit {0}

abbrev pub HaveDimensions : List Use77 → Type 0
HaveDimensions us = AllByRecursion (λ (u : Use77). HasDimension u.role) us

both : (us vs : List Use77) → HaveDimensions us → HaveDimensions vs → HaveDimensions (us ++ vs)
both us vs h g = all_both (λ (u : Use77). HasDimension u.role) us vs h g

plain_role : (r : Role) → IsPlainRole r → HasDimension r
plain_role (Bounded n) h = absurd h
plain_role r h = tt

plain : (us : List Use77) → ArePlain us → HaveDimensions us
plain us h = all_weaker IsPlainUse (λ (u : Use77). HasDimension u.role) (λ u. plain_role u.role) us h

one_more : (n : ℕ) → 1 ≤ suc n
one_more n = omega arith

bounded : (x : List ℕ) (bs : List (Expression × Expression)) → HaveDimensions (bounded_uses x bs)
bounded x [] = tt
bounded x (b ∷ bs) = (one_more (length bs), plain (uses_in_bounds (b ∷ bs)) (plain_in_bounds (b ∷ bs)))

typed : (k : Kind) (es : List Entity) → HaveDimensions (flat_map (typed_uses k) es)
typed k [] = tt
typed k (e ∷ es) = (tt, both (dimensioned_uses e) (flat_map (typed_uses k) es) (bounded e.name e.bounds) (typed k es))

dimensioned : (es : List Entity) → HaveDimensions (flat_map dimensioned_uses es)
dimensioned [] = tt
dimensioned (e ∷ es) = both (dimensioned_uses e) (flat_map dimensioned_uses es) (bounded e.name e.bounds) (dimensioned es)

defined : (ds : List NamedConstant) → HaveDimensions (flat_map defined_uses ds)
defined [] = tt
defined (d ∷ ds) = (tt, both (uses77_in d.value) (flat_map defined_uses ds) (plain (uses77_in d.value) (plain_in d.value)) (defined ds))

in_statement : (c : Statement77) → IsProper c → HaveDimensions (uses77_of c)
in_statement (Program y) h = (tt, tt)
in_statement (Declare k es) h = typed k es
in_statement (Dimension es) h = dimensioned es
in_statement (Constants ds) h = defined ds
in_statement (Test c s) h = plain (uses77_of (Test c s)) (plain_of (Test c s) h)
in_statement s h = plain (uses77_of s) (plain_of s tt)

pub in_text : (text : List Labelled) → AreProper text → HaveDimensions (uses_in_text text)
in_text [] h = tt
in_text (x ∷ xs) h = both (uses77_of x.statement) (uses_in_text xs) (in_statement x.statement h.0) (in_text xs h.1)

pub some_dimension : (us : List Use77) (x : List ℕ) → HaveDimensions us → stands is_bounded us x ≡ true → 1 ≤ dimensions_of_name us x
some_dimension [] x h g = absurd cc
some_dimension (u ∷ us) x h g = by u.role (bytes_eq u.name x) (dimensions_of_name us x) (stands is_bounded us x) h.0 (some_dimension us x h.1) g
  where
    by : (r : Role) (b : Bool) (n : ℕ) (t : Bool) → HasDimension r → (t ≡ true → 1 ≤ n) → ((is_bounded r && b) || t) ≡ true → 1 ≤ dimensions_in r b n
    by (Bounded m) true n t p more g = p
    by (Bounded m) false n t p more g = more g
    by r b n t p more g = more g
