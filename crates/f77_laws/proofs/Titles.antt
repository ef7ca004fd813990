-- The name of the program is no other name.
use Rattle.std.proofs.Common.{◌≡◌, ◌⊎◌, inl, inr, ℕ, Bool, true, false, not, ◌&&◌, ◌||◌, cond, Some, ◌∙◌, List, [], ◌∷◌, ◌++◌, refl, sym, ap, subst, Contains, filter, flat_map}
use Rattle.std.specs.List.{AllByRecursion, list_any}
use Rattle.std.specs.Str.{bytes_eq}
use Rattle.std.proofs.lemmas.Bool.{or_cases}
use Rattle.tree.specs.declared.ops.Kind.{Kind}
use Rattle.tree.specs.Plain.{Expression}
use Rattle.f77_grammar.specs.Statement77.{Entity, NamedConstant, Labelled, Statement77, Program, Declare, Dimension, Constants, Test}
use Rattle.f77_grammar.specs.program.Text.{Place77, places, places_from}
use Rattle.tree.specs.declared.functions.Fun.{Fun}
use Rattle.meaning.specs.Store.{Store}
use Rattle.meaning.specs.Calls.{calls_in_block}
use Rattle.tree.specs.Functions.{function_named, name_of_function}
use Rattle.meaning.specs.SymbolicNames.{IsSymbolicName}
use Rattle.f77_grammar.specs.program.Uses.{Role, Title, Use77, use77_of, uses77_in, uses_in_bounds, bounded_uses, dimensioned_uses, typed_uses, defined_uses, uses77_of, uses_in_text, is_title_role, is_typed, is_bounded, is_defined, is_bare_role, names_that, stands, is_constant_name, is_variable, is_function}
use Rattle.f77_grammar.specs.program.Order.{is_nothing77, is_late77}
use Rattle.f77_grammar.specs.program.Declarations.{is_declared_again, is_array_or_constant, printed_by, printed_name, bears_title, uses_title, has_unknown_constant, has_misused_name}
use Rattle.f77_laws.proofs.Lists.{left_true, right_true, left_false, right_false, affirmed, not_both, all_both, all_at, all_of, all_weaker, none_any, any_true, here, there, nowhere, cases_of, found, FromFlat, from_flat, in_flat}
use Rattle.f77_grammar.specs.program.Kinds.{suits, calls_hidden}
use Rattle.f77_laws.specs.trees.Steps.{Rest, begun, rest_from, outermost_block}
use Rattle.f77_laws.specs.Source.{IsSourceCard}
use Rattle.f77_laws.proofs.Places.{place_of}
use Rattle.f77_laws.proofs.Calls.{IsHeard, IsSaid, AllIn, title_calls, rest_calls, outermost_calls}
use Rattle.f77_laws.proofs.Sound.{IsRight}
use Rattle.f77_laws.proofs.Variables.{same_name, equal_names, passed_by, use_named}
use Rattle.f77_laws.proofs.Dimensions.{IsProper, AreProper, IsPlainRole, IsPlainUse, plain_of, plain_in, plain_in_bounds}
use Rattle.f77_laws.proofs.SymbolicNames.{IsSymbolic}

abbrev IsTitled : Statement77 → List ℕ → Type 0
IsTitled (Program y) x = y ≡ x
IsTitled c x = ⊥

-- ---- the program's name stands in PROGRAM alone

abbrev AreUntitled : List Use77 → Type 0
AreUntitled us = AllByRecursion (λ (u : Use77). is_title_role u.role ≡ false) us

untitled_role : (r : Role) → IsPlainRole r → is_title_role r ≡ false
untitled_role Title h = absurd h
untitled_role r h = refl

untitled : (us : List Use77) → AllByRecursion IsPlainUse us → AreUntitled us
untitled us h = all_weaker IsPlainUse (λ (u : Use77). is_title_role u.role ≡ false) (λ u. untitled_role u.role) us h

untitled_both : (us vs : List Use77) → AreUntitled us → AreUntitled vs → AreUntitled (us ++ vs)
untitled_both us vs h g = all_both (λ (u : Use77). is_title_role u.role ≡ false) us vs h g

untitled_bounds : (x : List ℕ) (bs : List (Expression × Expression)) → AreUntitled (bounded_uses x bs)
untitled_bounds x [] = tt
untitled_bounds x (b ∷ bs) = (refl, untitled (uses_in_bounds (b ∷ bs)) (plain_in_bounds (b ∷ bs)))

untitled_typed : (k : Kind) (es : List Entity) → AreUntitled (flat_map (typed_uses k) es)
untitled_typed k [] = tt
untitled_typed k (e ∷ es) = (refl, untitled_both (dimensioned_uses e) (flat_map (typed_uses k) es) (untitled_bounds e.name e.bounds) (untitled_typed k es))

untitled_dimensioned : (es : List Entity) → AreUntitled (flat_map dimensioned_uses es)
untitled_dimensioned [] = tt
untitled_dimensioned (e ∷ es) = untitled_both (dimensioned_uses e) (flat_map dimensioned_uses es) (untitled_bounds e.name e.bounds) (untitled_dimensioned es)

untitled_defined : (ds : List NamedConstant) → AreUntitled (flat_map defined_uses ds)
untitled_defined [] = tt
untitled_defined (d ∷ ds) = (refl, untitled_both (uses77_in d.value) (flat_map defined_uses ds) (untitled (uses77_in d.value) (plain_in d.value)) (untitled_defined ds))

no_title : {P : Type 0} (us : List Use77) (u : Use77) → AreUntitled us → Contains us u → is_title_role u.role ≡ true → P
no_title us u h c e = absurd (not_both (is_title_role u.role) e (all_at (λ (v : Use77). is_title_role v.role ≡ false) us u h c))

name_of_use : (x : List ℕ) (u : Use77) → Contains (use77_of x Title ∷ []) u → use77_of x Title ≡ u
name_of_use x u c = by (cases_of (use77_of x Title) [] u c)
  where
    by : (use77_of x Title ≡ u) ⊎ Contains [] u → use77_of x Title ≡ u
    by (inl e) = e
    by (inr g) = absurd (nowhere u g)

titled : (c : Statement77) (u : Use77) → IsProper c → Contains (uses77_of c) u → is_title_role u.role ≡ true → IsTitled c u.name
titled (Program y) u p c e = ap (λ (v : Use77). v.name) (name_of_use y u c)
titled (Declare k es) u p c e = no_title (flat_map (typed_uses k) es) u (untitled_typed k es) c e
titled (Dimension es) u p c e = no_title (flat_map dimensioned_uses es) u (untitled_dimensioned es) c e
titled (Constants ds) u p c e = no_title (flat_map defined_uses ds) u (untitled_defined ds) c e
titled (Test d b) u p c e = no_title (uses77_of (Test d b)) u (untitled (uses77_of (Test d b)) (plain_of (Test d b) p)) c e
titled s u p c e = no_title (uses77_of s) u (untitled (uses77_of s) (plain_of s tt)) c e

title_alone : (c : Statement77) (x : List ℕ) (u : Use77) → IsTitled c x → Contains (uses77_of c) u → is_title_role u.role ≡ true
title_alone (Program y) x u h c = ap (λ (v : Use77). is_title_role v.role) (sym (name_of_use y u c))
title_alone c x u h g = absurd h

title_there : (c : Statement77) (x : List ℕ) → IsTitled c x → Contains (uses77_of c) (use77_of x Title)
title_there (Program y) x h = subst (λ (z : List ℕ). Contains (use77_of y Title ∷ []) (use77_of z Title)) h (here (use77_of y Title) [])
title_there c x h = absurd h

-- ---- PROGRAM is the first statement

late_title : (c : Statement77) (p : Place77) (x : List ℕ) → is_late77 c p ≡ false → is_nothing77 p.before ≡ false → IsTitled c x → ⊥
late_title (Program y) p x h g t = let e : not (is_nothing77 p.before) ≡ true = ap not g in cc
late_title c p x h g t = absurd t

abbrev IsUntitled : Labelled → Type 0
IsUntitled y = (x : List ℕ) → IsTitled y.statement x → ⊥

no_later_title : (text : List Labelled) (b : Labelled) (before xs : List Labelled) → AllByRecursion (IsRight text) (places_from (b ∷ before) xs) → AllByRecursion IsUntitled xs
no_later_title text b before [] r = tt
no_later_title text b before (x ∷ xs) r =
    (λ y t. late_title x.statement (record { before = b ∷ before; here = x; after = xs }) y r.0.order refl t, no_later_title text x (b ∷ before) xs r.1)

-- ---- no variable has its name

record IsBehind (text : List Labelled) (y : Labelled) (q : Place77) : Type 0 where
  right : IsRight text q
  behind : Contains q.before y

all_behind : (text : List Labelled) (y : Labelled) (before xs : List Labelled) → Contains before y → AllByRecursion (IsRight text) (places_from before xs) → AllByRecursion (IsBehind text y) (places_from before xs)
all_behind text y before [] c r = tt
all_behind text y before (x ∷ xs) c r = (record { right = r.0; behind = c }, all_behind text y (x ∷ before) xs (there x before y c) r.1)

-- a use of a variable, that tells it so
record IsTold (us : List Use77) (x : List ℕ) : Type 0 where
  it : Use77
  among : Contains us it
  same : it.name ≡ x
  no_title' : is_title_role it.role ≡ false

told_by : (us : List Use77) (x : List ℕ) (test : Role → Bool) → ((r : Role) → test r ≡ true → is_title_role r ≡ false) → stands test us x ≡ true → IsTold us x
told_by us x test f h =
    let g = found (λ (u : Use77). test u.role && bytes_eq u.name x) us h in
    record { it = g.it; among = g.among; same = same_name g.it.name x (right_true (test g.it.role) (bytes_eq g.it.name x) g.passes); no_title' = f g.it.role (left_true (test g.it.role) (bytes_eq g.it.name x) g.passes) }

typed_other : (r : Role) → is_typed r ≡ true → is_title_role r ≡ false
typed_other Title h = absurd cc
typed_other r h = refl

bounded_other : (r : Role) → is_bounded r ≡ true → is_title_role r ≡ false
bounded_other Title h = absurd cc
bounded_other r h = refl

bare_other : (r : Role) → is_bare_role r ≡ true → is_title_role r ≡ false
bare_other Title h = absurd cc
bare_other r h = refl

told : (us : List Use77) (x : List ℕ) → is_variable us x ≡ true → IsTold us x
told us x h = by (or_cases (stands is_typed us x || stands is_bounded us x) (stands is_bare_role us x) (left_true (stands is_typed us x || stands is_bounded us x || stands is_bare_role us x) (not (is_constant_name us x)) h))
  where
    first : (stands is_typed us x ≡ true) ⊎ (stands is_bounded us x ≡ true) → IsTold us x
    first (inl e) = told_by us x is_typed typed_other e
    first (inr e) = told_by us x is_bounded bounded_other e

    by : ((stands is_typed us x || stands is_bounded us x) ≡ true) ⊎ (stands is_bare_role us x ≡ true) → IsTold us x
    by (inl e) = first (or_cases (stands is_typed us x) (stands is_bounded us x) e)
    by (inr e) = told_by us x is_bare_role bare_other e

no_title_used : (text : List Labelled) (y : Labelled) (q : Place77) (z : Labelled) (x : List ℕ) (v : Use77) → IsBehind text y q → q.here ≡ z → IsTitled y.statement x → Contains (uses77_of z.statement) v → v.name ≡ x → is_title_role v.role ≡ false → ⊥
no_title_used text y q z x v b e t c n u =
    let g = uses_title_here in
    let k = all_at (λ (w : Use77). bears_title (uses_in_text text) (uses_in_text q.before) w ≡ false) (uses77_of q.here.statement) v
    (none_any (bears_title (uses_in_text text) (uses_in_text q.before)) (uses77_of q.here.statement) g) (subst (λ (w : Labelled). Contains (uses77_of w.statement) v) (sym e) c) in
    not_both (stands is_title_role (uses_in_text q.before) v.name) stands_there
    (left_false (stands is_title_role (uses_in_text q.before) v.name) (stands is_title_role (uses_in_text q.before) (printed_name (uses_in_text text) v)) (falls (is_title_role v.role) _ u k))
  where
    uses_title_here : uses_title (uses_in_text text) q ≡ false
    uses_title_here =
        right_false (is_declared_again is_typed q || is_declared_again is_array_or_constant q) (uses_title (uses_in_text text) q)
        (left_false (is_declared_again is_typed q || is_declared_again is_array_or_constant q || uses_title (uses_in_text text) q) (has_unknown_constant (names_that is_defined (uses_in_text q.before)) q.here.statement)
        (left_false (is_declared_again is_typed q || is_declared_again is_array_or_constant q || uses_title (uses_in_text text) q || has_unknown_constant (names_that is_defined (uses_in_text q.before)) q.here.statement)
        (has_misused_name (uses_in_text text) q.here.statement) b.right.declared))

    falls : (a c : Bool) → a ≡ false → (not a && c) ≡ false → c ≡ false
    falls true c h g = absurd cc
    falls false c h g = g

    stands_there : stands is_title_role (uses_in_text q.before) v.name ≡ true
    stands_there =
        any_true (λ (w : Use77). is_title_role w.role && bytes_eq w.name v.name) (uses_in_text q.before) (use77_of x Title) (in_flat (λ (w : Labelled). uses77_of w.statement) q.before y (use77_of x Title) b.behind (title_there y.statement x t))
        (equal_names x v.name (sym n))

-- what is called behind the title has another name
heard_behind : (text : List Labelled) (s : Store) (y : Labelled) (q : Place77) (x : List ℕ) (v : Use77) → IsBehind text y q → IsTitled y.statement x → Contains (uses77_of q.here.statement) v → is_title_role v.role ≡ false
    → IsHeard (uses_in_text text) s (λ n. n ≡ x → ⊥) v
heard_behind text s y q x v b t c u = record { heard = λ f i e n. not_both (stands is_title_role (uses_in_text q.before) (printed_name us v)) (there_too f i e n) not_there }
  where
    us : List Use77
    us = uses_in_text text

    uses_title_here : uses_title (uses_in_text text) q ≡ false
    uses_title_here =
        right_false (is_declared_again is_typed q || is_declared_again is_array_or_constant q) (uses_title (uses_in_text text) q)
        (left_false (is_declared_again is_typed q || is_declared_again is_array_or_constant q || uses_title (uses_in_text text) q) (has_unknown_constant (names_that is_defined (uses_in_text q.before)) q.here.statement)
        (left_false (is_declared_again is_typed q || is_declared_again is_array_or_constant q || uses_title (uses_in_text text) q || has_unknown_constant (names_that is_defined (uses_in_text q.before)) q.here.statement)
        (has_misused_name (uses_in_text text) q.here.statement) b.right.declared))

    falls : (a c : Bool) → a ≡ false → (not a && c) ≡ false → c ≡ false
    falls true c h g = absurd cc
    falls false c h g = g

    not_there : stands is_title_role (uses_in_text q.before) (printed_name (uses_in_text text) v) ≡ false
    not_there =
        right_false (stands is_title_role (uses_in_text q.before) v.name) (stands is_title_role (uses_in_text q.before) (printed_name (uses_in_text text) v))
        (falls (is_title_role v.role) _ u
        (all_at (λ (w : Use77). bears_title (uses_in_text text) (uses_in_text q.before) w ≡ false) (uses77_of q.here.statement) v
        (none_any (bears_title (uses_in_text text) (uses_in_text q.before)) (uses77_of q.here.statement) uses_title_here) c))

    printed : (f : Fun) → is_function (uses_in_text text) v.name ≡ true → function_named v.name ≡ Some f → printed_name (uses_in_text text) v ≡ name_of_function f
    printed f i e =
        ap (λ a. cond (not a && is_function (uses_in_text text) v.name) (printed_by (function_named v.name) v.name) v.name) u
        ∙ ap (λ b. cond b (printed_by (function_named v.name) v.name) v.name) i
        ∙ ap (λ o. printed_by o v.name) e

    stands_there : stands is_title_role (uses_in_text q.before) x ≡ true
    stands_there =
        any_true (λ (w : Use77). is_title_role w.role && bytes_eq w.name x) (uses_in_text q.before) (use77_of x Title) (in_flat (λ (w : Labelled). uses77_of w.statement) q.before y (use77_of x Title) b.behind (title_there y.statement x t))
        (equal_names x x refl)

    there_too : (f : Fun) → is_function (uses_in_text text) v.name ≡ true → function_named v.name ≡ Some f → name_of_function f ≡ x → stands is_title_role (uses_in_text q.before) (printed_name (uses_in_text text) v) ≡ true
    there_too f i e n = ap (stands is_title_role (uses_in_text q.before)) (printed f i e ∙ n) ∙ stands_there

-- the first statement has the title, if any has
title_first : (y : Labelled) (ys : List Labelled) (u : Use77) → AreProper (y ∷ ys) → AllByRecursion IsUntitled ys → Contains (uses_in_text (y ∷ ys)) u → is_title_role u.role ≡ true → IsTitled y.statement u.name
title_first y ys u p n c e = by (from_flat (λ (w : Labelled). uses77_of w.statement) (y ∷ ys) u c)
  where
    at : (f : FromFlat (λ (w : Labelled). uses77_of w.statement) (y ∷ ys) u) → IsTitled f.it.statement u.name → (y ≡ f.it) ⊎ Contains ys f.it → IsTitled y.statement u.name
    at f t (inl g) = subst (λ (w : Labelled). IsTitled w.statement u.name) (sym g) t
    at f t (inr g) = absurd (all_at IsUntitled ys f.it n g u.name t)

    by : FromFlat (λ (w : Labelled). uses77_of w.statement) (y ∷ ys) u → IsTitled y.statement u.name
    by f = at f (titled f.it.statement u (all_at (λ (w : Labelled). IsProper w.statement) (y ∷ ys) f.it p f.among) f.gives e) (cases_of y ys f.it f.among)

title_is_no_variable : (text : List Labelled) (y : Labelled) (ys : List Labelled) (x : List ℕ) → AllByRecursion (IsRight text) (places_from (y ∷ []) ys) → IsTitled y.statement x → IsTold (uses_in_text (y ∷ ys)) x → ⊥
title_is_no_variable text y ys x r t k = by (from_flat (λ (w : Labelled). uses77_of w.statement) (y ∷ ys) k.it k.among)
  where
    later : (z : Labelled) → Contains (uses77_of z.statement) k.it → Contains ys z → ⊥
    later z c m =
        let q = place_of (IsBehind text y) (y ∷ []) ys z (all_behind text y (y ∷ []) ys (here y []) r) m in
        no_title_used text y q.place z x k.it q.holds q.stands t c k.same k.no_title'

    at : (f : FromFlat (λ (w : Labelled). uses77_of w.statement) (y ∷ ys) k.it) → (y ≡ f.it) ⊎ Contains ys f.it → ⊥
    at f (inl g) = not_both (is_title_role k.it.role) (title_alone y.statement x k.it t (subst (λ (w : Labelled). Contains (uses77_of w.statement) k.it) (sym g) f.gives)) k.no_title'
    at f (inr g) = later f.it f.gives g

    by : FromFlat (λ (w : Labelled). uses77_of w.statement) (y ∷ ys) k.it → ⊥
    by f = at f (cases_of y ys f.it f.among)

-- a use as the program's name
record IsTitleUse (us : List Use77) (x : List ℕ) : Type 0 where
  it : Use77
  among : Contains us it
  same : it.name ≡ x
  title : is_title_role it.role ≡ true

title_use : (us : List Use77) (x : List ℕ) → Contains (names_that is_title_role us) x → IsTitleUse us x
title_use us x c =
    let n = use_named (filter (λ (u : Use77). is_title_role u.role) us) x c in
    let p = passed_by (λ (u : Use77). is_title_role u.role) us n.use' n.among in
    record { it = n.use'; among = p.among; same = n.same; title = p.passes }

pub no_variable : (text : List Labelled) (x : List ℕ) → AllByRecursion (IsRight text) (places text) → AreProper text → Contains (names_that is_title_role (uses_in_text text)) x → is_variable (uses_in_text text) x ≡ true → ⊥
no_variable [] x r p c h = nowhere x c
no_variable (y ∷ ys) x r p c h =
    let u = title_use (uses_in_text (y ∷ ys)) x c in
    let t = title_first y ys u.it p (no_later_title (y ∷ ys) y [] ys r.1) u.among u.title in
    title_is_no_variable (y ∷ ys) y ys x r.1 (subst (λ (z : List ℕ). IsTitled y.statement z) u.same t) (told (uses_in_text (y ∷ ys)) x h)

pub title_symbolic : (us : List Use77) (x : List ℕ) → AllByRecursion IsSymbolic us → Contains (names_that is_title_role us) x → IsSymbolicName x
title_symbolic us x h c = let u = title_use us x c in subst IsSymbolicName u.same (all_at IsSymbolic us u.it h u.among)

-- ---- no function that is called has its name

module _ (text : List Labelled) (s : Store) (y : Labelled) (x : List ℕ) (t : IsTitled y.statement x) where
  abbrev IsOther : List ℕ → Type 0
  IsOther n = n ≡ x → ⊥

  said_at : (q : Place77) → IsBehind text y q → IsProper q.here.statement → IsSourceCard q.here → IsUntitled q.here → IsSaid (uses_in_text text) s IsOther q.here.statement
  said_at q b p c n = record {
    source = c.statement;
    suits' = affirmed (suits (uses_in_text text) q.here.statement) (left_false (not (suits (uses_in_text text) q.here.statement)) (list_any (calls_hidden (uses_in_text text)) (uses77_of q.here.statement)) b.right.kinds);
    heard = all_of (IsHeard (uses_in_text text) s IsOther) (uses77_of q.here.statement) (λ v m. heard_behind text s y q x v b t m (no_title_in v m (is_title_role v.role) refl));
  }
    where
      no_title_in : (v : Use77) → Contains (uses77_of q.here.statement) v → (b : Bool) → is_title_role v.role ≡ b → is_title_role v.role ≡ false
      no_title_in v m true e = absurd (n v.name (titled q.here.statement v p m e))
      no_title_in v m false e = e

  all_said : (before xs : List Labelled) → AllByRecursion (IsBehind text y) (places_from before xs) → AreProper xs → AllByRecursion IsSourceCard xs → AllByRecursion IsUntitled xs
      → AllByRecursion (λ (z : Labelled). IsSaid (uses_in_text text) s IsOther z.statement) xs
  all_said before [] b p c n = tt
  all_said before (z ∷ zs) b p c n = (said_at (record { before = before; here = z; after = zs }) b.0 p.0 c.0 n.0, all_said (z ∷ before) zs b.1 p.1 c.1 n.1)

title_begun : (us : List Use77) (s : Store) (P : List ℕ → Type 0) (named : List ℕ) (z : Labelled) (c : Statement77) (x : List ℕ) (r : Rest) → IsTitled c x → AllIn us s P r → AllIn us s P (begun us s named z c r)
title_begun us s P named z (Program y) x r t g = title_calls us s P named z y r g
title_begun us s P named z c x r t g = absurd t

pub no_call : (s : Store) (named : List ℕ) (text : List Labelled) (x : List ℕ) → AllByRecursion (IsRight text) (places text) → AllByRecursion IsSourceCard text → AreProper text
    → Contains (names_that is_title_role (uses_in_text text)) x → Contains (calls_in_block (outermost_block (rest_from (uses_in_text text) s named text))) x → ⊥
no_call s named [] x r c p h m = nowhere x h
no_call s named (y ∷ ys) x r c p h m =
    let text : List Labelled = y ∷ ys in
    let us = uses_in_text text in
    let u = title_use us x h in
    let later = no_later_title text y [] ys r.1 in
    let t = subst (λ (z : List ℕ). IsTitled y.statement z) u.same (title_first y ys u.it p later u.among u.title) in
    let said = all_said text s y x t (y ∷ []) ys (all_behind text y (y ∷ []) ys (here y []) r.1) p.1 c.1 later in
    let P : List ℕ → Type 0 = λ n. n ≡ x → ⊥ in
    let calls = title_begun us s P named y y.statement x (rest_from us s named ys) t (rest_calls us s P named ys said) in
    all_at P (calls_in_block (outermost_block (rest_from us s named text))) x (outermost_calls us s P (rest_from us s named text) calls) m refl
