-- What the uses of a name say of it is what the definitions say.
use Rattle.std.proofs.Common.{◌≡◌, ℕ, zero, suc, ◌+◌, ◌<◌, Bool, true, false, not, ◌||◌, ◌&&◌, cond, Option, Some, None, is_some, is_none, List, [], ◌∷◌, ◌++◌, map, take, length, get_or, refl, sym, ap, subst, ◌∙◌}
use Rattle.std.specs.Option.{unwrap_or}
use Rattle.std.specs.Str.{bytes_eq}
use Rattle.std.specs.List.{list_any}
use Rattle.std.proofs.lemmas.List.{map-append}
use Rattle.tree.specs.declared.ops.Kind.{Kind}
use Rattle.tree.specs.declared.ops.Kind.TheVariants.{Integer}
use Rattle.f77_grammar.specs.program.Uses.{Role, Title, Typed, Bounded, Defined, Valued, Target, Counter, Use77, uses77_of, uses_in_text, is_title_role, stands, is_typed, is_bounded, is_defined, is_bare_role, type_of, type_in, is_variable, is_constant_name, is_array_name, is_function, kind_of_name, dimensions_of_name, dimensions_in, or_integer}
use Rattle.f77_names.specs.declared.names.Facts.{Facts}
use Rattle.f77_names.specs.declared.uses.Use.{Use as Use'}
use Rattle.meaning.specs.Names.{is_implicit_integer}
use Rattle.f77_grammar.specs.program.Declarations.{lacks_type, is_real, has_name}
use Rattle.f77_names.specs.declared.names.Names.{Names}
use Rattle.f77_names.specs.declared.known_names.KnownNames.{KnownNames}
use Rattle.f77_grammar.specs.declared.syntax.statements.Labelled.{Labelled as Labelled'}
use Rattle.f77_names.specs.NameFacts.{nothing_known, first_given, facts_with, facts_of, facts_in, AreNamesOf, is_variable_by, is_array_by, is_function_by, kind_by, dimensions_by, function_by, function_of, lacks_type_by, is_real_by, is_real_use, is_untyped_use}
use Rattle.f77_grammar.specs.syntax.Views.{text_of, labelled_of, statement_of}
use Rattle.f77_grammar.specs.syntax.Walk.{place_at}
use Rattle.f77_names.specs.UsesView.{plain_use, listed}
use Rattle.f77_names.proofs.UseLaws.{one_more}
use Rattle.tree.specs.Functions.{function_named}

-- ---- one use more

facts_append : (f : Facts) (us vs : List Use77) (x : List ℕ) → facts_of f (us ++ vs) x ≡ facts_of (facts_of f us x) vs x
facts_append f [] vs x = refl
facts_append f (u ∷ us) vs x = facts_append (cond (bytes_eq u.name x) (facts_with f u.role) f) us vs x

pub facts_more : (list : List Use') (i : ℕ) (u : Use') (x : List ℕ) → i < length list → u ≡ get_or list i u
    → facts_of nothing_known (map plain_use (take (i + 1) list)) x
    ≡ cond (bytes_eq u.name x) (facts_with (facts_of nothing_known (map plain_use (take i list)) x) (plain_use u).role) (facts_of nothing_known (map plain_use (take i list)) x)
facts_more list i u x h e =
    ap (λ us. facts_of nothing_known (map plain_use us) x) (one_more list i u h e)
    ∙ ap (λ us. facts_of nothing_known us x) (map-append plain_use (take i list) (u ∷ []))
    ∙ facts_append nothing_known (map plain_use (take i list)) (plain_use u ∷ []) x

-- the name that was noted is the one that is asked for, where the bytes are equal
pub noted : (old new : List ℕ → Facts) (name : List ℕ) (role : Role) (x : List ℕ) → ((a b : List ℕ) → bytes_eq a b ≡ true → a ≡ b)
    → new x ≡ cond (bytes_eq name x) (facts_with (old name) role) (old x) → new x ≡ cond (bytes_eq name x) (facts_with (old x) role) (old x)
noted old new name role x same e = e ∙ cases (bytes_eq name x) refl
  where
    cases : (b : Bool) → bytes_eq name x ≡ b → cond b (facts_with (old name) role) (old x) ≡ cond b (facts_with (old x) role) (old x)
    cases true h = ap (λ y. facts_with (old y) role) (same name x h)
    cases false h = refl

-- ---- what is said

pub or_false : (b : Bool) → b ≡ (b || false)
or_false true = refl
or_false false = refl

pub or_true : (b : Bool) → true ≡ (b || true)
or_true true = refl
or_true false = refl

pub constant_step : (f : Facts) (r : Role) → (facts_with f r).constant ≡ (f.constant || is_defined r)
constant_step f Defined = or_true f.constant
constant_step f Title = or_false f.constant
constant_step f (Typed k) = or_false f.constant
constant_step f (Bounded n) = or_false f.constant
constant_step f (Valued zero) = or_false f.constant
constant_step f (Valued (suc n)) = or_false f.constant
constant_step f (Target zero) = or_false f.constant
constant_step f (Target (suc n)) = or_false f.constant
constant_step f Counter = or_false f.constant

bare_step : (f : Facts) (r : Role) → (facts_with f r).bare ≡ (f.bare || is_bare_role r)
bare_step f Defined = or_false f.bare
bare_step f Title = or_false f.bare
bare_step f (Typed k) = or_false f.bare
bare_step f (Bounded n) = or_false f.bare
bare_step f (Valued zero) = or_true f.bare
bare_step f (Valued (suc n)) = or_false f.bare
bare_step f (Target zero) = or_true f.bare
bare_step f (Target (suc n)) = or_false f.bare
bare_step f Counter = or_true f.bare

given_step : {A : Type 0} (o : Option A) (x : A) → is_some (first_given o x) ≡ (is_some o || true)
given_step None x = refl
given_step (Some y) x = refl

pub bounded_step : (f : Facts) (r : Role) → is_some (facts_with f r).dimensions ≡ (is_some f.dimensions || is_bounded r)
bounded_step f (Bounded n) = given_step f.dimensions n
bounded_step f Defined = or_false (is_some f.dimensions)
bounded_step f Title = or_false (is_some f.dimensions)
bounded_step f (Typed k) = or_false (is_some f.dimensions)
bounded_step f (Valued zero) = or_false (is_some f.dimensions)
bounded_step f (Valued (suc n)) = or_false (is_some f.dimensions)
bounded_step f (Target zero) = or_false (is_some f.dimensions)
bounded_step f (Target (suc n)) = or_false (is_some f.dimensions)
bounded_step f Counter = or_false (is_some f.dimensions)

pub typed_step : (f : Facts) (r : Role) → is_some (facts_with f r).kind ≡ (is_some f.kind || is_typed r)
typed_step f (Typed k) = given_step f.kind k
typed_step f Defined = or_false (is_some f.kind)
typed_step f Title = or_false (is_some f.kind)
typed_step f (Bounded n) = or_false (is_some f.kind)
typed_step f (Valued zero) = or_false (is_some f.kind)
typed_step f (Valued (suc n)) = or_false (is_some f.kind)
typed_step f (Target zero) = or_false (is_some f.kind)
typed_step f (Target (suc n)) = or_false (is_some f.kind)
typed_step f Counter = or_false (is_some f.kind)

pub title_step : (f : Facts) (r : Role) → (facts_with f r).title ≡ (f.title || is_title_role r)
title_step f Title = or_true f.title
title_step f Defined = or_false f.title
title_step f (Typed k) = or_false f.title
title_step f (Bounded n) = or_false f.title
title_step f (Valued zero) = or_false f.title
title_step f (Valued (suc n)) = or_false f.title
title_step f (Target zero) = or_false f.title
title_step f (Target (suc n)) = or_false f.title
title_step f Counter = or_false f.title

-- a fact that a use of a role adds is known exactly where the name stands in that role
stands_as : (part : Facts → Bool) (test : Role → Bool) → ((f : Facts) (r : Role) → part (facts_with f r) ≡ (part f || test r))
    → (f : Facts) (us : List Use77) (x : List ℕ) → part (facts_of f us x) ≡ (part f || stands test us x)
stands_as part test step f [] x = or_false (part f)
stands_as part test step f (u ∷ us) x =
    stands_as part test step (cond (bytes_eq u.name x) (facts_with f u.role) f) us x ∙ cases (bytes_eq u.name x)
  where
    grouped : (a b c : Bool) → ((a || b) || c) ≡ (a || ((b && true) || c))
    grouped true b c = refl
    grouped false true c = refl
    grouped false false c = refl

    none : (a b c : Bool) → (a || c) ≡ (a || ((b && false) || c))
    none true b c = refl
    none false true c = refl
    none false false c = refl

    cases : (b : Bool) → (part (cond b (facts_with f u.role) f) || stands test us x) ≡ (part f || ((test u.role && b) || stands test us x))
    cases true = ap (λ t. t || stands test us x) (step f u.role) ∙ grouped (part f) (test u.role) (stands test us x)
    cases false = none (part f) (test u.role) (stands test us x)

pub constant_is : (us : List Use77) (x : List ℕ) → (facts_of nothing_known us x).constant ≡ stands is_defined us x
constant_is us x = stands_as (λ (f : Facts). f.constant) is_defined constant_step nothing_known us x

pub bare_is : (us : List Use77) (x : List ℕ) → (facts_of nothing_known us x).bare ≡ stands is_bare_role us x
bare_is us x = stands_as (λ (f : Facts). f.bare) is_bare_role bare_step nothing_known us x

pub bounded_is : (us : List Use77) (x : List ℕ) → is_some (facts_of nothing_known us x).dimensions ≡ stands is_bounded us x
bounded_is us x = stands_as (λ (f : Facts). is_some f.dimensions) is_bounded bounded_step nothing_known us x

pub typed_is : (us : List Use77) (x : List ℕ) → is_some (facts_of nothing_known us x).kind ≡ stands is_typed us x
typed_is us x = stands_as (λ (f : Facts). is_some f.kind) is_typed typed_step nothing_known us x

-- a name has a type exactly where it stands in a type statement
type_step : (r : Role) (b : Bool) (o : Option Kind) → is_some (type_in r b o) ≡ ((is_typed r && b) || is_some o)
type_step (Typed k) true o = refl
type_step (Typed k) false o = refl
type_step Title b o = refl
type_step (Bounded n) b o = refl
type_step Defined b o = refl
type_step (Valued n) b o = refl
type_step (Target n) b o = refl
type_step Counter b o = refl

pub type_stands : (us : List Use77) (x : List ℕ) → is_some (type_of us x) ≡ stands is_typed us x
type_stands [] x = refl
type_stands (u ∷ us) x = type_step u.role (bytes_eq u.name x) (type_of us x) ∙ ap (λ b. (is_typed u.role && bytes_eq u.name x) || b) (type_stands us x)

-- ---- what a name is

three : (a b c d a' b' c' d' : Bool) → a ≡ a' → b ≡ b' → c ≡ c' → d ≡ d' → ((a || b || c) && not d) ≡ ((a' || b' || c') && not d')
three a b c d a' b' c' d' e f g h = cc

pub variable_known : (us : List Use77) (x : List ℕ) → is_variable_by (facts_of nothing_known us x) ≡ is_variable us x
variable_known us x =
    three (is_some (facts_of nothing_known us x).kind) (is_some (facts_of nothing_known us x).dimensions) (facts_of nothing_known us x).bare (facts_of nothing_known us x).constant
    (stands is_typed us x) (stands is_bounded us x) (stands is_bare_role us x) (stands is_defined us x)
    (typed_is us x) (bounded_is us x) (bare_is us x) (constant_is us x)

pub array_known : (us : List Use77) (x : List ℕ) → is_array_by (facts_of nothing_known us x) ≡ is_array_name us x
array_known us x = ap (λ b. b && not (facts_of nothing_known us x).constant) (bounded_is us x) ∙ ap (λ b. stands is_bounded us x && not b) (constant_is us x)

pub function_known : (us : List Use77) (x : List ℕ) → is_function_by (facts_of nothing_known us x) x ≡ is_function us x
function_known us x =
    ap (λ b. is_some (function_named x) && not b && not (facts_of nothing_known us x).constant) (variable_known us x)
    ∙ ap (λ b. is_some (function_named x) && not (is_variable us x) && not b) (constant_is us x)

-- the first of two that is there
abbrev first_of : {A : Type 0} → Option A → Option A → Option A
first_of None p = p
first_of (Some y) p = Some y

kind_step : (f : Facts) (r : Role) (b : Bool) (o : Option Kind) → first_of (cond b (facts_with f r) f).kind o ≡ first_of f.kind (type_in r b o)
kind_step f (Typed k) true o = cases f.kind
  where
    cases : (p : Option Kind) → first_of (first_given p k) o ≡ first_of p (Some k)
    cases None = refl
    cases (Some j) = refl
kind_step f (Typed k) false o = refl
kind_step f Title true o = refl
kind_step f Title false o = refl
kind_step f (Bounded n) true o = refl
kind_step f (Bounded n) false o = refl
kind_step f Defined true o = refl
kind_step f Defined false o = refl
kind_step f (Valued zero) true o = refl
kind_step f (Valued (suc n)) true o = refl
kind_step f (Valued n) false o = refl
kind_step f (Target zero) true o = refl
kind_step f (Target (suc n)) true o = refl
kind_step f (Target n) false o = refl
kind_step f Counter true o = refl
kind_step f Counter false o = refl

kind_from : (f : Facts) (us : List Use77) (x : List ℕ) → (facts_of f us x).kind ≡ first_of f.kind (type_of us x)
kind_from f [] x = nothing f.kind
  where
    nothing : (p : Option Kind) → p ≡ first_of p None
    nothing None = refl
    nothing (Some k) = refl
kind_from f (u ∷ us) x = kind_from (cond (bytes_eq u.name x) (facts_with f u.role) f) us x ∙ kind_step f u.role (bytes_eq u.name x) (type_of us x)

pub kind_known : (us : List Use77) (x : List ℕ) → kind_by (facts_of nothing_known us x) ≡ kind_of_name us x
kind_known us x = ap or_integer (kind_from nothing_known us x)

abbrev number_of : Option ℕ → ℕ → ℕ
number_of None n = n
number_of (Some m) n = m

dimensions_step : (f : Facts) (r : Role) (b : Bool) (n : ℕ) → number_of (cond b (facts_with f r) f).dimensions n ≡ number_of f.dimensions (dimensions_in r b n)
dimensions_step f (Bounded m) true n = cases f.dimensions
  where
    cases : (p : Option ℕ) → number_of (first_given p m) n ≡ number_of p m
    cases None = refl
    cases (Some j) = refl
dimensions_step f (Bounded m) false n = refl
dimensions_step f Title true n = refl
dimensions_step f Title false n = refl
dimensions_step f (Typed k) true n = refl
dimensions_step f (Typed k) false n = refl
dimensions_step f Defined true n = refl
dimensions_step f Defined false n = refl
dimensions_step f (Valued zero) true n = refl
dimensions_step f (Valued (suc m)) true n = refl
dimensions_step f (Valued m) false n = refl
dimensions_step f (Target zero) true n = refl
dimensions_step f (Target (suc m)) true n = refl
dimensions_step f (Target m) false n = refl
dimensions_step f Counter true n = refl
dimensions_step f Counter false n = refl

dimensions_from : (f : Facts) (us : List Use77) (x : List ℕ) → unwrap_or (facts_of f us x).dimensions 0 ≡ number_of f.dimensions (dimensions_of_name us x)
dimensions_from f [] x = nothing f.dimensions
  where
    nothing : (p : Option ℕ) → unwrap_or p 0 ≡ number_of p 0
    nothing None = refl
    nothing (Some n) = refl
dimensions_from f (u ∷ us) x = dimensions_from (cond (bytes_eq u.name x) (facts_with f u.role) f) us x ∙ dimensions_step f u.role (bytes_eq u.name x) (dimensions_of_name us x)

pub dimensions_known : (us : List Use77) (x : List ℕ) → dimensions_by (facts_of nothing_known us x) ≡ dimensions_of_name us x
dimensions_known us x = dimensions_from nothing_known us x

pub or_integer_is : (o : Option Kind) → unwrap_or o Integer ≡ or_integer o
or_integer_is None = refl
or_integer_is (Some k) = refl

-- ---- the same of names that say what the uses say

pub variable_by_names : (names : Names) (us : List Use77) (x : List ℕ) → AreNamesOf names us → is_variable_by (facts_in names x) ≡ is_variable us x
variable_by_names names us x h = ap is_variable_by (h x) ∙ variable_known us x

pub constant_by_names : (names : Names) (us : List Use77) (x : List ℕ) → AreNamesOf names us → (facts_in names x).constant ≡ is_constant_name us x
constant_by_names names us x h = ap (λ (f : Facts). f.constant) (h x) ∙ constant_is us x

pub array_by_names : (names : Names) (us : List Use77) (x : List ℕ) → AreNamesOf names us → is_array_by (facts_in names x) ≡ is_array_name us x
array_by_names names us x h = ap is_array_by (h x) ∙ array_known us x

pub function_by_names : (names : Names) (us : List Use77) (x : List ℕ) → AreNamesOf names us → is_function_by (facts_in names x) x ≡ is_function us x
function_by_names names us x h = ap (λ f. is_function_by f x) (h x) ∙ function_known us x

pub function_of_names : (names : Names) (us : List Use77) (x : List ℕ) → AreNamesOf names us → function_by (facts_in names x) x ≡ function_of us x
function_of_names names us x h = ap (λ b. cond b (function_named x) None) (function_by_names names us x h)

pub kind_by_names : (names : Names) (us : List Use77) (x : List ℕ) → AreNamesOf names us → kind_by (facts_in names x) ≡ kind_of_name us x
kind_by_names names us x h = ap kind_by (h x) ∙ kind_known us x

pub dimensions_by_names : (names : Names) (us : List Use77) (x : List ℕ) → AreNamesOf names us → dimensions_by (facts_in names x) ≡ dimensions_of_name us x
dimensions_by_names names us x h = ap dimensions_by (h x) ∙ dimensions_known us x

-- ---- a name that would be REAL

no_type : (o : Option Kind) (p : Option Kind) → is_some o ≡ is_some p → is_none o ≡ is_none p
no_type None None h = refl
no_type (Some k) (Some j) h = refl
no_type None (Some j) h = sym h
no_type (Some k) None h = sym h

four : (a b c d a' b' c' d' n n' : Bool) → a ≡ a' → b ≡ b' → c ≡ c' → d ≡ d' → n ≡ n'
    → ((((a || b || c) && not d) || d) && n) ≡ ((((a' || b' || c') && not d') || d') && n')
four a b c d a' b' c' d' n n' e f g h m = cc

untyped_as_known : (us : List Use77) (x : List ℕ) → lacks_type_by (facts_of nothing_known us x) ≡ lacks_type us x
untyped_as_known us x =
    four (is_some (facts_of nothing_known us x).kind) (is_some (facts_of nothing_known us x).dimensions) (facts_of nothing_known us x).bare (facts_of nothing_known us x).constant
    (stands is_typed us x) (stands is_bounded us x) (stands is_bare_role us x) (stands is_defined us x)
    (is_none (facts_of nothing_known us x).kind) (is_none (type_of us x))
    (typed_is us x) (bounded_is us x) (bare_is us x) (constant_is us x)
    (no_type (facts_of nothing_known us x).kind (type_of us x) (typed_is us x ∙ sym (type_stands us x)))

real_as_known : (us : List Use77) (x : List ℕ) → is_real_by (facts_of nothing_known us x) x ≡ is_real us x
real_as_known us x = ap (λ b. b && not (is_implicit_integer x)) (untyped_as_known us x)

untyped_uses : (names : Names) (us vs : List Use77) → ((x : List ℕ) → facts_in names x ≡ facts_of nothing_known us x)
    → list_any (is_untyped_use names) vs ≡ list_any (λ (u : Use77). not (is_title_role u.role) && lacks_type us u.name) vs
untyped_uses names us [] h = refl
untyped_uses names us (v ∷ vs) h =
    ap (λ b. (not (is_title_role v.role) && b) || list_any (is_untyped_use names) vs) (ap lacks_type_by (h v.name) ∙ untyped_as_known us v.name)
    ∙ ap (λ b. (not (is_title_role v.role) && lacks_type us v.name) || b) (untyped_uses names us vs h)

real_uses : (names : Names) (us vs : List Use77) → ((x : List ℕ) → facts_in names x ≡ facts_of nothing_known us x)
    → list_any (is_real_use names) vs ≡ list_any (λ (u : Use77). not (is_title_role u.role) && is_real us u.name) vs
real_uses names us [] h = refl
real_uses names us (v ∷ vs) h =
    ap (λ b. (not (is_title_role v.role) && b) || list_any (is_real_use names) vs) (ap (λ f. is_real_by f v.name) (h v.name) ∙ real_as_known us v.name)
    ∙ ap (λ b. (not (is_title_role v.role) && is_real us v.name) || b) (real_uses names us vs h)

-- the names of a program, by its uses
pub names_known : (k : KnownNames) (us : List Use77) → listed k.uses ≡ us → AreNamesOf k.names us
names_known k us e = subst (AreNamesOf k.names) e k.known

-- what the names say of the uses in a statement is what its place says
pub real_at : (xs : List Labelled') (i : ℕ) (x : Labelled') (names : Names) (uses : List Use')
    → AreNamesOf names (uses_in_text (text_of xs)) → map plain_use uses ≡ uses77_of (statement_of x.statement)
    → list_any (is_real_use names) (map plain_use uses) ≡ has_name (is_real (uses_in_text (text_of xs))) (place_at (text_of xs) i (labelled_of x))
real_at xs i x names uses h e =
    real_uses names (uses_in_text (text_of xs)) (map plain_use uses) h
    ∙ ap (list_any (λ (u : Use77). not (is_title_role u.role) && is_real (uses_in_text (text_of xs)) u.name)) e

pub untyped_at : (xs : List Labelled') (i : ℕ) (x : Labelled') (names : Names) (uses : List Use')
    → AreNamesOf names (uses_in_text (text_of xs)) → map plain_use uses ≡ uses77_of (statement_of x.statement)
    → list_any (is_untyped_use names) (map plain_use uses) ≡ has_name (lacks_type (uses_in_text (text_of xs))) (place_at (text_of xs) i (labelled_of x))
untyped_at xs i x names uses h e =
    untyped_uses names (uses_in_text (text_of xs)) (map plain_use uses) h
    ∙ ap (list_any (λ (u : Use77). not (is_title_role u.role) && lacks_type (uses_in_text (text_of xs)) u.name)) e
