-- The DO variables round a place, and which names are INTEGER scalar variables, as the definitions say and as is known of them.
use Rattle.std.proofs.Common.{◌≡◌, ℕ, zero, suc, ◌+◌, ◌<◌, max, nat_le, Bool, true, false, not, ◌||◌, ◌&&◌, cond, Option, Some, None, is_some, List, [], ◌∷◌, ◌++◌, length, drop, reverse, get_or, refl, sym, ap, ◌∙◌, arith}
use Rattle.std.specs.Str.{bytes_eq}
use Rattle.std.specs.List.{filter, flat_map}
use Rattle.std.proofs.lemmas.Bool.Decides.{nat_tests}
use Rattle.std.proofs.lemmas.List.Folds.{list_any-append}
use Rattle.tree.specs.Plain.{Expression, Named, Subscripts, no_subscripts, subscript, Item, Single, Constant, ImpliedDo, Items, no_items, item}
use Rattle.tree.specs.declared.ops.Kind.{Kind}
use Rattle.tree.specs.declared.ops.Kind.TheVariants.{Integer}
use Rattle.f77_grammar.specs.Statement77.{Labelled, Statement77, Assign, Do, Read, Print}
use Rattle.f77_grammar.specs.program.Text.{action, label_stands_in, ends_in, loop_ends_in}
use Rattle.meaning.specs.Names.{is_among}
use Rattle.f77_grammar.specs.program.Kinds.{same_kind}
use Rattle.f77_grammar.specs.program.Uses.{Role, Title, Typed, Bounded, Defined, Valued, Target, Counter, Use77, uses_in_text, stands, is_typed, is_bounded, is_defined, is_bare_role, type_of, type_in, or_integer}
use Rattle.f77_grammar.specs.declared.directions.Direction.{Direction}
use Rattle.f77_grammar.specs.declared.directions.Direction.TheVariants.{Output, Input}
use Rattle.f77_grammar.specs.program.DoVariables.{loop_variable, loop_variables, sets_one_of, reads_one_of, is_integer_variable, is_wrong_variable, value_sets_one_of, misuses_in_item, misuses_in_items, misuses_variable, has_wrong_do_variable}
use Rattle.f77_grammar.specs.declared.syntax.statements.Labelled.{Labelled as Labelled'}
use Rattle.f77_grammar.specs.syntax.Views.{labelled_of, text_of, statement_of}
use Rattle.f77_grammar.specs.syntax.Walk.{passed, place_at}
use Rattle.f77_grammar.proofs.syntax.Walks.{text_passed, text_left}
use Rattle.f77_structure.specs.Openings.{is_from, last_with}
use Rattle.f77_structure.proofs.Closers.{stands_after}
use Rattle.f77_names.specs.declared.names.Facts.{Facts}
use Rattle.f77_names.specs.NameFacts.{nothing_known, first_given, facts_with, facts_of, facts_in}
use Rattle.f77_names.proofs.FactLaws.{constant_is, bare_is, bounded_is, typed_is}
use Rattle.f77_structure.specs.declared.jumps.do_variables.LoopVariables.{LoopVariables}
use Rattle.f77_structure.specs.jumps.LoopVariables.{last_in, scalar_in, round_at, loop_begun, end_with, last_of}
use Rattle.f77_structure.specs.jumps.Misuses.{is_scalar_by, is_round, sets_round, reads_round, value_sets_round, is_wrong_round, misuses_item, misuses_items, misuses_statement}
use Rattle.f77_structure.specs.jumps.Targets.{later}

-- ---- loops

from_later : (j : ℕ) (a b : Option ℕ) → is_from j (later a b) ≡ (is_from j b || is_from j a)
from_later j None b = alone (is_from j b)
  where
    alone : (t : Bool) → t ≡ (t || false)
    alone true = refl
    alone false = refl
from_later j (Some i) None = refl
from_later j (Some i) (Some k) = either j i k
  where
    either : (j i k : ℕ) → nat_le j (max i k) ≡ (nat_le j k || nat_le j i)
    either j i k = grind (arith, nat_tests)

abbrev variable_in : Labelled → List (List ℕ)
variable_in s = loop_variable s.statement

one_loop : (b : Bool) (s : Labelled) (ss : List Labelled) (x : List ℕ)
    → is_among (flat_map variable_in (cond b (s ∷ ss) ss)) x ≡ ((b && is_among (loop_variable s.statement) x) || is_among (flat_map variable_in ss) x)
one_loop true s ss x = list_any-append (bytes_eq x) (loop_variable s.statement) (flat_map variable_in ss)
one_loop false s ss x = refl

loop_ends_from : (rest : List Labelled) (j : ℕ) (ends : ℕ → Option ℕ) → ((n : ℕ) → label_stands_in rest n ≡ is_from j (ends n)) → (s : Statement77) (x : List ℕ)
    → (ends_in rest s && is_among (loop_variable s) x) ≡ is_from j (end_with ends (loop_begun s) x)
loop_ends_from rest j ends h (Do (Some n) y a b c) x = ap (λ t. t && (bytes_eq x y || false)) (h n) ∙ cases (bytes_eq x y) (is_from j (ends n)) refl
  where
    cases : (b t : Bool) → is_from j (ends n) ≡ t → (t && (b || false)) ≡ is_from j (cond b (ends n) None)
    cases true true e = sym e
    cases true false e = sym e
    cases false true e = refl
    cases false false e = refl
loop_ends_from rest j ends h s x = nothing (is_among (loop_variable s) x)
  where
    nothing : (t : Bool) → (false && t) ≡ false
    nothing t = refl

-- a name is the variable of a loop round a place exactly where the last of its loops ends there or later
loops_as_last : (rest : List Labelled) (j : ℕ) (ends : ℕ → Option ℕ) → ((n : ℕ) → label_stands_in rest n ≡ is_from j (ends n)) → (ss : List Labelled) (x : List ℕ)
    → is_among (flat_map variable_in (filter (loop_ends_in rest) ss)) x ≡ is_from j (last_of ends ss x)
loops_as_last rest j ends h [] x = refl
loops_as_last rest j ends h (s ∷ ss) x =
    one_loop (loop_ends_in rest s) s (filter (loop_ends_in rest) ss) x
    ∙ ap (λ b. b || is_among (flat_map variable_in (filter (loop_ends_in rest) ss)) x) (loop_ends_from rest j ends h s.statement x)
    ∙ ap (λ b. is_from j (end_with ends (loop_begun s.statement) x) || b) (loops_as_last rest j ends h ss x)
    ∙ sym (from_later j (last_of ends ss x) (end_with ends (loop_begun s.statement) x))

-- ---- INTEGER scalar variables

abbrev or_type : Option Kind → Option Kind → Option Kind
or_type None o = o
or_type (Some k) o = Some k

typed_first : (o t : Option Kind) (k : Kind) → or_type (first_given o k) t ≡ or_type o (Some k)
typed_first None t k = refl
typed_first (Some j) t k = refl

kind_step : (f : Facts) (r : Role) (b : Bool) (t : Option Kind) → or_type (cond b (facts_with f r) f).kind t ≡ or_type f.kind (type_in r b t)
kind_step f (Typed k) true t = typed_first f.kind t k
kind_step f (Typed k) false t = refl
kind_step f Title true t = refl
kind_step f Title false t = refl
kind_step f (Bounded n) true t = refl
kind_step f (Bounded n) false t = refl
kind_step f Defined true t = refl
kind_step f Defined false t = refl
kind_step f (Valued zero) true t = refl
kind_step f (Valued zero) false t = refl
kind_step f (Valued (suc n)) true t = refl
kind_step f (Valued (suc n)) false t = refl
kind_step f (Target zero) true t = refl
kind_step f (Target zero) false t = refl
kind_step f (Target (suc n)) true t = refl
kind_step f (Target (suc n)) false t = refl
kind_step f Counter true t = refl
kind_step f Counter false t = refl

kind_after : (f : Facts) (us : List Use77) (x : List ℕ) → (facts_of f us x).kind ≡ or_type f.kind (type_of us x)
kind_after f [] x = known f.kind
  where
    known : (o : Option Kind) → o ≡ or_type o None
    known None = refl
    known (Some k) = refl
kind_after f (u ∷ us) x =
    kind_after (cond (bytes_eq u.name x) (facts_with f u.role) f) us x ∙ kind_step f u.role (bytes_eq u.name x) (type_of us x)

five : (a b c d a' b' c' d' : Bool) (k k' : Option Kind) → a ≡ a' → b ≡ b' → c ≡ c' → d ≡ d' → k ≡ k'
    → (((a || b || c) && not d) && not (b && not d) && same_kind (or_integer k) Integer) ≡ (((a' || b' || c') && not d') && not (b' && not d') && same_kind (or_integer k') Integer)
five a b c d a' b' c' d' k k' e f g h m = cc

scalar_as_known : (us : List Use77) (x : List ℕ) → is_scalar_by (facts_of nothing_known us x) ≡ is_integer_variable us x
scalar_as_known us x =
    five (is_some (facts_of nothing_known us x).kind) (is_some (facts_of nothing_known us x).dimensions) (facts_of nothing_known us x).bare (facts_of nothing_known us x).constant
    (stands is_typed us x) (stands is_bounded us x) (stands is_bare_role us x) (stands is_defined us x) (facts_of nothing_known us x).kind (type_of us x)
    (typed_is us x) (bounded_is us x) (bare_is us x) (constant_is us x) (kind_after nothing_known us x)

-- ---- statements

either_same : (a b a' b' : Bool) → a ≡ a' → b ≡ b' → (a || b) ≡ (a' || b')
either_same a b a' b' e f = ap (λ t. t || b) e ∙ ap (λ t. a' || t) f

-- the names round an item are those of `around`, and those of `lists` with those that pass `round`
abbrev RoundAs : (List ℕ → Bool) → List (List ℕ) → List (List ℕ) → Type 0
RoundAs round around lists = (x : List ℕ) → is_among around x ≡ is_round round lists x

round_more : (round : List ℕ → Bool) (around lists : List (List ℕ)) (y : List ℕ) → RoundAs round around lists → RoundAs round (y ∷ around) (lists ++ y ∷ [])
round_more round around lists y h x =
    ap (λ b. bytes_eq x y || b) (h x) ∙ regrouped (bytes_eq x y) (is_among lists x) (round x) ∙ sym (ap (λ b. b || round x) (list_any-append (bytes_eq x) lists (y ∷ [])))
  where
    regrouped : (a b c : Bool) → (a || (b || c)) ≡ ((b || (a || false)) || c)
    regrouped true true c = refl
    regrouped true false c = refl
    regrouped false true c = refl
    regrouped false false c = refl

sets_same : (round : List ℕ → Bool) (around lists : List (List ℕ)) → RoundAs round around lists → (x : List ℕ) (ps : Subscripts) → sets_one_of around x ps ≡ sets_round round lists x ps
sets_same round around lists h x no_subscripts = h x
sets_same round around lists h x (subscript p ps) = refl

reads_same : (round : List ℕ → Bool) (around lists : List (List ℕ)) → RoundAs round around lists → (e : Expression) → reads_one_of around e ≡ reads_round round lists e
reads_same round around lists h (Named x ps) = sets_same round around lists h x ps
reads_same round around lists h e = refl

module _ (us : List Use77) (scalar round : List ℕ → Bool) (known : (x : List ℕ) → scalar x ≡ is_integer_variable us x) where
  wrong_same : (around lists : List (List ℕ)) → RoundAs round around lists → (x : List ℕ) → is_wrong_variable us x around ≡ is_wrong_round scalar round x lists
  wrong_same around lists h x = either_same (not (is_integer_variable us x)) (is_among around x) (not (scalar x)) (is_round round lists x) (ap not (sym (known x))) (h x)

  value_same : (d : Direction) (around lists : List (List ℕ)) → RoundAs round around lists → (e : Expression) → value_sets_one_of d around e ≡ value_sets_round round d lists e
  value_same Output around lists h e = refl
  value_same Input around lists h e = reads_same round around lists h e

  mutual
    item_same : (d : Direction) (i : Item) (around lists : List (List ℕ)) → RoundAs round around lists → misuses_in_item us d i around ≡ misuses_item scalar round d i lists
    item_same d (Single e) around lists h = value_same d around lists h e
    item_same d (Constant t) around lists h = refl
    item_same d (ImpliedDo is x a b c) around lists h =
        either_same (is_wrong_variable us x around) (misuses_in_items us d is (x ∷ around)) (is_wrong_round scalar round x lists) (misuses_items scalar round d is (lists ++ x ∷ []))
        (wrong_same around lists h x) (items_same d is (x ∷ around) (lists ++ x ∷ []) (round_more round around lists x h))

    items_same : (d : Direction) (is : Items) (around lists : List (List ℕ)) → RoundAs round around lists → misuses_in_items us d is around ≡ misuses_items scalar round d is lists
    items_same d no_items around lists h = refl
    items_same d (item i is) around lists h =
        either_same (misuses_in_item us d i around) (misuses_in_items us d is around) (misuses_item scalar round d i lists) (misuses_items scalar round d is lists)
        (item_same d i around lists h) (items_same d is around lists h)

  statement_same : (around : List (List ℕ)) → RoundAs round around [] → (s : Statement77) → misuses_variable us s around ≡ misuses_statement scalar round s
  statement_same around h (Assign left e) = sets_same round around [] h left.name left.subscripts
  statement_same around h (Do n x a b c) = wrong_same around [] h x
  statement_same around h (Read is) = items_same Input is around [] h
  statement_same around h (Print is) = items_same Output is around [] h
  statement_same around h s = refl

-- ---- statements of the code

pub lasts_more : (xs : List Labelled') (i : ℕ) (x : Labelled') (ends : ℕ → Option ℕ) (lasts lasts' : List ℕ → Option ℕ) → i < length xs → x ≡ get_or xs i x
    → ((y : List ℕ) → lasts y ≡ last_of ends (passed (text_of xs) i) y)
    → ((y : List ℕ) → lasts' y ≡ later (lasts y) (end_with ends (loop_begun (statement_of x.statement)) y))
    → (y : List ℕ) → lasts' y ≡ last_of ends (passed (text_of xs) (i + 1)) y
lasts_more xs i x ends lasts lasts' h e f g y =
    g y ∙ ap (λ o. later o (end_with ends (loop_begun (statement_of x.statement)) y)) (f y) ∙ sym (ap (λ before. last_of ends before y) (text_passed xs i x h e))

-- what is known of the DO variables says of the next statement what its place says
pub misused_at : (xs : List Labelled') (i : ℕ) (x : Labelled') (ends : ℕ → Option ℕ) (v : LoopVariables) (s : Statement77) → i < length xs → x ≡ get_or xs i x
    → ((n : ℕ) → ends n ≡ last_with (reverse (text_of xs)) n)
    → ((y : List ℕ) → facts_in v.names.now y ≡ facts_of nothing_known (uses_in_text (text_of xs)) y)
    → ((y : List ℕ) → last_in v y ≡ last_of ends (passed (text_of xs) i) y)
    → s ≡ action (statement_of x.statement)
    → has_wrong_do_variable (uses_in_text (text_of xs)) (place_at (text_of xs) i (labelled_of x)) ≡ misuses_statement (scalar_in v) (round_at v i) s
misused_at xs i x ends v s h e l known lasts is =
    let behind : (n : ℕ) → label_stands_in (labelled_of x ∷ drop (i + 1) (text_of xs)) n ≡ is_from i (ends n) =
    λ n. ap (λ rest. label_stands_in rest n) (sym (text_left xs i x h e)) ∙ stands_after xs ends l i n in
    statement_same (uses_in_text (text_of xs)) (scalar_in v) (round_at v i) (λ y. ap is_scalar_by (known y) ∙ scalar_as_known (uses_in_text (text_of xs)) y)
    (loop_variables (place_at (text_of xs) i (labelled_of x)))
    (λ y. loops_as_last (labelled_of x ∷ drop (i + 1) (text_of xs)) i ends behind (passed (text_of xs) i) y ∙ ap (is_from i) (sym (lasts y)))
    (action (statement_of x.statement))
    ∙ ap (misuses_statement (scalar_in v) (round_at v i)) (sym is)
