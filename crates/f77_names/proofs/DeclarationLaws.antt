-- The checks of declarations, by what the names know.
use Rattle.std.proofs.Common.{◌≡◌, ℕ, zero, suc, ◌+◌, ◌<◌, ◌==◌, Bool, true, false, not, ◌||◌, ◌&&◌, cond, is_some, is_none, List, [], ◌∷◌, ◌++◌, map, take, drop, reverse, take_all, length, ◌≤◌, get_or, refl, sym, ap, ◌∙◌, append_assoc}
use Rattle.std.specs.Str.{bytes_eq}
use Rattle.std.specs.List.{list_any}
use Rattle.std.proofs.lemmas.List.{drop_all, map-append, append-nil}
use Rattle.std.specs.Cmp.Lexicographic.{nat_list_eq_equiv}
use Rattle.tree.specs.View.{expression_of}
use Rattle.tree.specs.declared.exprs.Expr.{Expr}
use Rattle.f77_grammar.specs.Statement77.{Statement77, Declare, Dimension, Constants, Entity}
use Rattle.meaning.specs.Names.{is_among}
use Rattle.f77_grammar.specs.program.Text.{is_declaration}
use Rattle.f77_grammar.specs.program.Uses.{Role, Title, Typed, Bounded, Defined, Valued, Target, Counter, Use77, uses77_of, uses77_in, uses_in_bounds, uses_in_text, is_typed, is_defined, names_that, is_array_name}
use Rattle.f77_grammar.specs.program.Limits.{entities_of, definitions_of}
use Rattle.f77_grammar.specs.program.Declarations.{bears_title, has_repeat, is_array_or_constant, has_unknown, has_list, bounds_of_entities, defines_from_unknown, has_unknown_constant, suits_list, is_misused, is_misused_as, has_misused_name}
use Rattle.f77_grammar.specs.declared.syntax.statements.Entity.{Entity as Entity'}
use Rattle.f77_grammar.specs.declared.syntax.statements.Labelled.{Labelled as Labelled'}
use Rattle.f77_grammar.specs.syntax.Views.{text_of, statement_of, constant_of, entity_of, bounds_of}
use Rattle.f77_grammar.specs.syntax.Walk.{passed}
use Rattle.f77_grammar.proofs.syntax.Walks.{text_passed}
use Rattle.f77_names.specs.declared.names.Facts.{Facts}
use Rattle.f77_names.specs.declared.names.Names.{Names}
use Rattle.f77_names.specs.NameFacts.{nothing_known, facts_with, facts_in, AreNamesOf, dimensions_by}
use Rattle.f77_names.specs.declared.uses.Use.{Use as Use'}
use Rattle.f77_names.specs.UsesView.{role_of, plain_use}
use Rattle.f77_names.specs.Seen.{bears_title_by, HaveSeen, seen_after, defined_after, declares_again, is_again_by, is_constant_in, is_unknown_use, Define, AreDefined, suits_list_by, is_misused_by, is_misused_use, is_wrong_after}
use Rattle.f77_names.proofs.TitleLaws.{bears_same}
use Rattle.f77_names.proofs.UseLaws.{one_more}
use Rattle.f77_names.proofs.SeenLaws.{ahead_at, behind_more, again_step, seen_turned, seen_same}
use Rattle.f77_names.proofs.FactLaws.{constant_by_names, array_by_names, dimensions_by_names, or_false}
use Rattle.tree.specs.Functions.{function_named}

-- ---- names declared again

pub again_ahead : (names : Names) (seen now : List Use77) (list : List Use') (i : ℕ) (u : Use') → i < length list → u ≡ get_or list i u → HaveSeen names now
    → declares_again seen (map plain_use list) ≡ declares_again now (map plain_use (drop i list))
    → declares_again seen (map plain_use list) ≡ (is_again_by (facts_in names u.name) (role_of u.role) || declares_again (plain_use u ∷ now) (map plain_use (drop (i + 1) list)))
again_ahead names seen now list i u h e known again =
    again ∙ ap (declares_again now) (ahead_at plain_use list i u h e) ∙ again_step names now u.name (role_of u.role) (map plain_use (drop (i + 1) list)) known

pub again_ends : (seen now : List Use77) (list : List Use') (i : ℕ) → length list ≤ i
    → declares_again seen (map plain_use list) ≡ declares_again now (map plain_use (drop i list)) → false ≡ declares_again seen (map plain_use list)
again_ends seen now list i h again = sym (again ∙ ap (λ us. declares_again now (map plain_use us)) (drop_all i list h))

pub seen_ends : (names : Names) (seen : List Use77) (list : List Use') (i : ℕ) → length list ≤ i → HaveSeen names (seen_after list i seen)
    → HaveSeen names (map plain_use list ++ seen)
seen_ends names seen list i h known =
    seen_turned names (map plain_use list) seen (seen_same names (seen_after list i seen) (reverse (map plain_use list) ++ seen) (ap (λ us. reverse (map plain_use us) ++ seen) (take_all i list h)) known)

-- ---- statements

pub misused_is : (us : List Use77) (s : Statement77) → has_misused_name us s ≡ (not (is_declaration s) && list_any (is_misused us) (uses77_of s))
misused_is us (Declare k es) = refl
misused_is us (Dimension es) = refl
misused_is us (Constants ds) = refl
misused_is us s = refl

pub unknown_is : (defined : List (List ℕ)) (s : Statement77)
    → has_unknown_constant defined s ≡ (has_unknown defined (bounds_of_entities (entities_of s)) || defines_from_unknown defined (definitions_of s))
unknown_is defined (Declare k es) = or_false (has_unknown defined (bounds_of_entities es))
unknown_is defined (Dimension es) = or_false (has_unknown defined (bounds_of_entities es))
unknown_is defined (Constants ds) = refl
unknown_is defined s = refl

-- ---- the program's name

pub title_same : (before names : Names) (us seen vs : List Use77) → HaveSeen before seen → AreNamesOf names us
    → list_any (bears_title_by before names) vs ≡ list_any (bears_title us seen) vs
title_same before names us seen [] h k = refl
title_same before names us seen (v ∷ vs) h k =
    ap (λ b. b || list_any (bears_title_by before names) vs) (bears_same before names us seen v h k)
    ∙ ap (λ b. bears_title us seen v || b) (title_same before names us seen vs h k)

-- ---- names that are misused

suits_same : (names : Names) (us : List Use77) (x : List ℕ) (n : ℕ) → AreNamesOf names us → suits_list_by (facts_in names x) x n ≡ suits_list us x n
suits_same names us x zero h = refl
suits_same names us x (suc n) h =
    ap (λ b. cond b (suc n == dimensions_by (facts_in names x)) (is_some (function_named x))) (array_by_names names us x h)
    ∙ ap (λ m. cond (is_array_name us x) (suc n == m) (is_some (function_named x))) (dimensions_by_names names us x h)

misused_as : (names : Names) (us : List Use77) (x : List ℕ) (r : Role) → AreNamesOf names us → is_misused_by (facts_in names x) x r ≡ is_misused_as us x r
misused_as names us x (Valued n) h = ap not (suits_same names us x n h)
misused_as names us x (Target n) h =
    ap (λ b. not b || (facts_in names x).constant) (suits_same names us x n h)
    ∙ ap (λ b. not (suits_list us x n) || b) (constant_by_names names us x h)
misused_as names us x Title h = refl
misused_as names us x (Typed k) h = refl
misused_as names us x (Bounded n) h = refl
misused_as names us x Defined h = refl
misused_as names us x Counter h = refl

pub misused_same : (names : Names) (us vs : List Use77) → AreNamesOf names us → list_any (is_misused_use names) vs ≡ list_any (is_misused us) vs
misused_same names us [] h = refl
misused_same names us (v ∷ vs) h =
    ap (λ b. b || list_any (is_misused_use names) vs) (misused_as names us v.name v.role h)
    ∙ ap (λ b. is_misused us v || b) (misused_same names us vs h)

-- ---- constants that aren't defined before

pub unknown_same : (before own : Names) (defined : List (List ℕ)) (vs : List Use77) → Define before own defined
    → list_any (is_unknown_use before own) vs ≡ has_unknown defined vs
unknown_same before own defined [] h = refl
unknown_same before own defined (v ∷ vs) h =
    ap (λ b. (not b || (has_list v.role && is_none (function_named v.name))) || list_any (is_unknown_use before own) vs) (h v.name)
    ∙ ap (λ b. (not (is_among defined v.name) || (has_list v.role && is_none (function_named v.name))) || b) (unknown_same before own defined vs h)

pub none_own : (before own : Names) (defined : List (List ℕ)) → ((x : List ℕ) → facts_in own x ≡ nothing_known) → AreDefined before defined → Define before own defined
none_own before own defined h known x = ap (λ (f : Facts). f.constant || (facts_in before x).constant) (h x) ∙ known x

pub own_more : (before own new : Names) (defined : List (List ℕ)) (name : List ℕ)
    → ((x : List ℕ) → facts_in new x ≡ cond (bytes_eq name x) (facts_with (facts_in own name) Defined) (facts_in own x)) → Define before own defined
    → Define before new (name ∷ defined)
own_more before own new defined name e h x =
    ap (λ (f : Facts). f.constant || (facts_in before x).constant) (e x)
    ∙ cases (bytes_eq name x)
    ∙ ap (λ b. b || is_constant_in before own x) (nat_list_eq_equiv.symm name x)
    ∙ ap (λ b. bytes_eq x name || b) (h x)
  where
    cases : (b : Bool) → ((cond b (facts_with (facts_in own name) Defined) (facts_in own x)).constant || (facts_in before x).constant) ≡ (b || is_constant_in before own x)
    cases true = refl
    cases false = refl

pub unknown_ahead : (before own : Names) (defined now : List (List ℕ)) (list : List (List ℕ × Expr)) (i : ℕ) (d : List ℕ × Expr) → i < length list → d ≡ get_or list i d → Define before own now
    → defines_from_unknown defined (map constant_of list) ≡ defines_from_unknown now (map constant_of (drop i list))
    → defines_from_unknown defined (map constant_of list)
    ≡ (list_any (is_unknown_use before own) (uses77_in (expression_of d.1)) || defines_from_unknown (d.0 ∷ now) (map constant_of (drop (i + 1) list)))
unknown_ahead before own defined now list i d h e known left =
    left ∙ ap (defines_from_unknown now) (ahead_at constant_of list i d h e)
    ∙ ap (λ b. b || defines_from_unknown (d.0 ∷ now) (map constant_of (drop (i + 1) list))) (sym (unknown_same before own now (uses77_in (expression_of d.1)) known))

pub unknown_ends : (defined now : List (List ℕ)) (list : List (List ℕ × Expr)) (i : ℕ) → length list ≤ i
    → defines_from_unknown defined (map constant_of list) ≡ defines_from_unknown now (map constant_of (drop i list)) → false ≡ defines_from_unknown defined (map constant_of list)
unknown_ends defined now list i h left = sym (left ∙ ap (λ ds. defines_from_unknown now (map constant_of ds)) (drop_all i list h))

pub define_more : (before own new : Names) (list : List (List ℕ × Expr)) (i : ℕ) (d : List ℕ × Expr) (defined : List (List ℕ)) → i < length list → d ≡ get_or list i d
    → ((x : List ℕ) → facts_in new x ≡ cond (bytes_eq d.0 x) (facts_with (facts_in own d.0) Defined) (facts_in own x)) → Define before own (defined_after list i defined)
    → Define before new (defined_after list (i + 1) defined)
define_more before own new list i d defined h e noted known x =
    own_more before own new (defined_after list i defined) d.0 noted known x
    ∙ ap (λ names. is_among names x) (sym (behind_more (λ (c : List ℕ × Expr). c.0) list i d defined h e))

-- ---- bounds

entities_append : (xs ys : List Entity) → bounds_of_entities (xs ++ ys) ≡ bounds_of_entities xs ++ bounds_of_entities ys
entities_append [] ys = refl
entities_append (x ∷ xs) ys =
    ap (λ us. uses_in_bounds x.bounds ++ us) (entities_append xs ys) ∙ sym (append_assoc (uses_in_bounds x.bounds) (bounds_of_entities xs) (bounds_of_entities ys))

pub entities_more : (list : List Entity') (i : ℕ) (x : Entity') → i < length list → x ≡ get_or list i x
    → bounds_of_entities (map entity_of (take (i + 1) list)) ≡ bounds_of_entities (map entity_of (take i list)) ++ uses_in_bounds (map bounds_of x.dims)
entities_more list i x h e =
    ap (λ xs. bounds_of_entities (map entity_of xs)) (one_more list i x h e)
    ∙ ap bounds_of_entities (map-append entity_of (take i list) (x ∷ []))
    ∙ entities_append (map entity_of (take i list)) (entity_of x ∷ [])
    ∙ ap (λ us. bounds_of_entities (map entity_of (take i list)) ++ us) (append-nil (uses_in_bounds (map bounds_of x.dims)))

-- ---- both kinds of constant expressions

pub unknown_first : (defined : List (List ℕ)) (s : Statement77) (a : Bool) → a ≡ has_unknown defined (bounds_of_entities (entities_of s)) → a ≡ true → a ≡ has_unknown_constant defined s
unknown_first defined s a e h = h ∙ sym (unknown_is defined s ∙ ap (λ b. b || defines_from_unknown defined (definitions_of s)) (sym e ∙ h))

pub unknown_second : (defined : List (List ℕ)) (s : Statement77) (a d : Bool) → a ≡ has_unknown defined (bounds_of_entities (entities_of s)) → a ≡ false
    → d ≡ defines_from_unknown defined (definitions_of s) → d ≡ has_unknown_constant defined s
unknown_second defined s a d e h f = f ∙ sym (unknown_is defined s ∙ ap (λ b. b || defines_from_unknown defined (definitions_of s)) (sym e ∙ h))

-- ---- a wrong statement

fifth : (a b c d e : Bool) → e ≡ true → true ≡ (a || b || c || d || e)
fifth true b c d e h = refl
fifth false true c d e h = refl
fifth false false true d e h = refl
fifth false false false true e h = refl
fifth false false false false e h = sym h

fourth : (a b c d e : Bool) → d ≡ true → true ≡ (a || b || c || d || e)
fourth true b c d e h = refl
fourth false true c d e h = refl
fourth false false true d e h = refl
fourth false false false d e h = sym (ap (λ x. x || e) h)

third : (a b c d e : Bool) → c ≡ true → true ≡ (a || b || c || d || e)
third true b c d e h = refl
third false true c d e h = refl
third false false c d e h = sym (ap (λ x. x || d || e) h)

first_two : (a b c d e : Bool) → c ≡ false → d ≡ false → e ≡ false → (a || b) ≡ (a || b || c || d || e)
first_two true b c d e f g h = refl
first_two false true c d e f g h = refl
first_two false false c d e f g h = sym (ap (λ x. x || d || e) f ∙ ap (λ x. x || e) g ∙ h)

pub wrong_misused : (us seen : List Use77) (s : Statement77) → has_misused_name us s ≡ true → true ≡ is_wrong_after us seen s
wrong_misused us seen s h =
    fifth (has_repeat (names_that is_typed seen) (names_that is_typed (uses77_of s))) (has_repeat (names_that is_array_or_constant seen) (names_that is_array_or_constant (uses77_of s)))
    (list_any (bears_title us seen) (uses77_of s)) (has_unknown_constant (names_that is_defined seen) s) (has_misused_name us s) h

pub wrong_unknown : (us seen : List Use77) (s : Statement77) → has_unknown_constant (names_that is_defined seen) s ≡ true → true ≡ is_wrong_after us seen s
wrong_unknown us seen s h =
    fourth (has_repeat (names_that is_typed seen) (names_that is_typed (uses77_of s))) (has_repeat (names_that is_array_or_constant seen) (names_that is_array_or_constant (uses77_of s)))
    (list_any (bears_title us seen) (uses77_of s)) (has_unknown_constant (names_that is_defined seen) s) (has_misused_name us s) h

pub wrong_title : (us seen : List Use77) (s : Statement77) → list_any (bears_title us seen) (uses77_of s) ≡ true → true ≡ is_wrong_after us seen s
wrong_title us seen s h =
    third (has_repeat (names_that is_typed seen) (names_that is_typed (uses77_of s))) (has_repeat (names_that is_array_or_constant seen) (names_that is_array_or_constant (uses77_of s)))
    (list_any (bears_title us seen) (uses77_of s)) (has_unknown_constant (names_that is_defined seen) s) (has_misused_name us s) h

pub wrong_again : (us seen : List Use77) (s : Statement77) → list_any (bears_title us seen) (uses77_of s) ≡ false
    → has_unknown_constant (names_that is_defined seen) s ≡ false → has_misused_name us s ≡ false → declares_again seen (uses77_of s) ≡ is_wrong_after us seen s
wrong_again us seen s f g h =
    first_two (has_repeat (names_that is_typed seen) (names_that is_typed (uses77_of s))) (has_repeat (names_that is_array_or_constant seen) (names_that is_array_or_constant (uses77_of s)))
    (list_any (bears_title us seen) (uses77_of s)) (has_unknown_constant (names_that is_defined seen) s) (has_misused_name us s) f g h

-- what the checks of the code say of the uses in a statement

pub misused_here : (names : Names) (us : List Use77) (s : Statement77) (here : List Use') → AreNamesOf names us → map plain_use here ≡ uses77_of s
    → has_misused_name us s ≡ (not (is_declaration s) && list_any (is_misused_use names) (map plain_use here))
misused_here names us s here h e =
    misused_is us s ∙ ap (λ vs. not (is_declaration s) && list_any (is_misused us) vs) (sym e)
    ∙ ap (λ b. not (is_declaration s) && b) (sym (misused_same names us (map plain_use here) h))

pub title_here : (before names : Names) (us seen : List Use77) (s : Statement77) (here : List Use') → HaveSeen before seen → AreNamesOf names us → map plain_use here ≡ uses77_of s
    → list_any (bears_title us seen) (uses77_of s) ≡ list_any (bears_title_by before names) (map plain_use here)
title_here before names us seen s here h k e =
    ap (list_any (bears_title us seen)) (sym e) ∙ sym (title_same before names us seen (map plain_use here) h k)

-- ---- a statement more

pub text_behind : (xs : List Labelled') (i : ℕ) (x : Labelled') → i < length xs → x ≡ get_or xs i x
    → uses_in_text (passed (text_of xs) (i + 1)) ≡ uses77_of (statement_of x.statement) ++ uses_in_text (passed (text_of xs) i)
text_behind xs i x h e = ap uses_in_text (text_passed xs i x h e)
