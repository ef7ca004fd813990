-- The names that stand in statements are symbolic names.
use Rattle.std.proofs.Common.{◌≡◌, ℕ, true, ◌||◌, List, [], ◌∷◌, ◌++◌, refl, arith, flat_map}
use Rattle.std.specs.List.{AllByRecursion, list_all}
use Rattle.std.proofs.lemmas.Bool.{and_from, or_left}
use Rattle.tree.specs.declared.ops.Kind.{Kind}
use Rattle.tree.specs.Plain.{Expression, Number, Logic, Named, Unary, Binary, Subscript, Only, Subscripts, no_subscripts, subscript, Item, Single, Constant, ImpliedDo, Items, no_items, item}
use Rattle.f77_grammar.specs.declared.directions.Direction.{Direction}
use Rattle.f77_grammar.specs.declared.directions.Direction.TheVariants.{Output, Input}
use Rattle.f77_grammar.specs.Statement77.{Entity, NamedConstant, Labelled, Statement77, Program, ImplicitNone, Declare, Dimension, Constants, Assign, Go, Test, If, ElseIf, Else, EndIf, Do, EndDo, Continue, Stop, Read, Print, End}
use Rattle.f77_grammar.specs.expressions.Spelling as spelling
use Rattle.f77_grammar.specs.expressions.Printing.{IsSource, IsSourceSubscript, AreSource}
use Rattle.meaning.specs.SymbolicNames.{IsSymbolicName, is_letter, is_digit}
use Rattle.f77_grammar.specs.program.Uses.{Use77, use77_of, uses77_in, uses77_in_subscripts, uses77_in_subscript, value_uses, uses_in_item, uses_in_items, uses_in_bounds, bounded_uses, dimensioned_uses, typed_uses, defined_uses, uses77_of, uses_in_text}
use Rattle.f77_laws.specs.Source.{IsShallow, IsSourceValue, IsSourceItem, AreSourceItems, IsSourceEntity, IsSourceConstant, IsSourceAction, IsSourceStatement, IsSourceCard}
use Rattle.f77_laws.proofs.Lists.{all_both}
use Rattle.reading.specs.Characters as characters

-- ---- a name as it is spelled is a symbolic name

pass_all : (cs : List ℕ) → characters.Pass spelling.is_letter_or_digit cs → list_all (λ c. is_letter c || is_digit c) cs ≡ true
pass_all [] h = refl
pass_all (c ∷ cs) h = and_from (is_letter c || is_digit c) (list_all (λ d. is_letter d || is_digit d) cs) h.0 (pass_all cs h.1)

pub symbolic_name : (x : List ℕ) → spelling.IsName77 x → IsSymbolicName x
symbolic_name [] h = absurd h
symbolic_name (c ∷ cs) h = record {
  begins = h.0;
  goes_on = and_from (is_letter c || is_digit c) (list_all (λ d. is_letter d || is_digit d) cs) (or_left (is_letter c) (is_digit c) h.0) (pass_all cs h.1);
  within = (let l = h.2 in omega (arith, l));
}

-- ---- expressions

abbrev pub IsSymbolic : Use77 → Type 0
IsSymbolic u = IsSymbolicName u.name

abbrev pub AreSymbolic : List Use77 → Type 0
AreSymbolic us = AllByRecursion IsSymbolic us

abbrev both : (us vs : List Use77) → AreSymbolic us → AreSymbolic vs → AreSymbolic (us ++ vs)
both us vs h g = all_both IsSymbolic us vs h g

mutual
  names_in : (e : Expression) → IsSource e → AreSymbolic (uses77_in e)
  names_in (Number n) h = tt
  names_in (Logic b) h = tt
  names_in (Named x ps) h = (symbolic_name x h.0, names_in_subscripts ps h.1)
  names_in (Unary o a) h = names_in a h.1
  names_in (Binary o a b) h = both (uses77_in a) (uses77_in b) (names_in a h.1) (names_in b h.2)
  names_in e h = absurd h

  names_in_subscripts : (ps : Subscripts) → AreSource ps → AreSymbolic (uses77_in_subscripts ps)
  names_in_subscripts no_subscripts h = tt
  names_in_subscripts (subscript p ps) h = both (uses77_in_subscript p) (uses77_in_subscripts ps) (names_in_subscript p h.0) (names_in_subscripts ps h.1)

  names_in_subscript : (p : Subscript) → IsSourceSubscript p → AreSymbolic (uses77_in_subscript p)
  names_in_subscript (Only e) h = names_in e h
  names_in_subscript p h = absurd h

names_in_control : (a b c : Expression) → IsSource a → IsSource b → IsSource c → AreSymbolic (uses77_in a ++ uses77_in b ++ uses77_in c)
names_in_control a b c h k l = both (uses77_in a ++ uses77_in b) (uses77_in c) (both (uses77_in a) (uses77_in b) (names_in a h) (names_in b k)) (names_in c l)

names_in_value : (d : Direction) (e : Expression) → IsSourceValue d e → AreSymbolic (value_uses d e)
names_in_value Output e h = names_in e h
names_in_value Input (Named x ps) h = (symbolic_name x h.0, names_in_subscripts ps h.1)
names_in_value Input e h = absurd h

mutual
  names_in_item : (d : Direction) (i : Item) → IsSourceItem d i → AreSymbolic (uses_in_item d i)
  names_in_item d (Single e) h = names_in_value d e h
  names_in_item d (Constant t) h = tt
  names_in_item d (ImpliedDo is x a b c) h = both (uses_in_items d is) (use77_of x _ ∷ uses77_in a ++ uses77_in b ++ uses77_in c) (names_in_items d is h.5) (h.1, names_in_control a b c h.2 h.3 h.4)

  names_in_items : (d : Direction) (is : Items) → AreSourceItems d is → AreSymbolic (uses_in_items d is)
  names_in_items d no_items h = tt
  names_in_items d (item i is) h = both (uses_in_item d i) (uses_in_items d is) (names_in_item d i h.0) (names_in_items d is h.1)

-- ---- statements

names_in_bounds : (bs : List (Expression × Expression)) → AllByRecursion (λ (b : Expression × Expression). IsShallow b.0 × IsShallow b.1) bs → AreSymbolic (uses_in_bounds bs)
names_in_bounds [] h = tt
names_in_bounds (b ∷ bs) h = both (uses77_in b.0 ++ uses77_in b.1) (uses_in_bounds bs) (both (uses77_in b.0) (uses77_in b.1) (names_in b.0 h.0.0.0) (names_in b.1 h.0.1.0)) (names_in_bounds bs h.1)

names_bounded : (x : List ℕ) (bs : List (Expression × Expression)) → IsSymbolicName x → AllByRecursion (λ (b : Expression × Expression). IsShallow b.0 × IsShallow b.1) bs → AreSymbolic (bounded_uses x bs)
names_bounded x [] h g = tt
names_bounded x (b ∷ bs) h g = (h, names_in_bounds (b ∷ bs) g)

names_typed : (k : Kind) (es : List Entity) → AllByRecursion IsSourceEntity es → AreSymbolic (flat_map (typed_uses k) es)
names_typed k [] h = tt
names_typed k (e ∷ es) h = (h.0.name, both (dimensioned_uses e) (flat_map (typed_uses k) es) (names_bounded e.name e.bounds h.0.name h.0.bounds) (names_typed k es h.1))

names_dimensioned : (es : List Entity) → AllByRecursion IsSourceEntity es → AreSymbolic (flat_map dimensioned_uses es)
names_dimensioned [] h = tt
names_dimensioned (e ∷ es) h = both (dimensioned_uses e) (flat_map dimensioned_uses es) (names_bounded e.name e.bounds h.0.name h.0.bounds) (names_dimensioned es h.1)

names_defined : (ds : List NamedConstant) → AllByRecursion IsSourceConstant ds → AreSymbolic (flat_map defined_uses ds)
names_defined [] h = tt
names_defined (d ∷ ds) h = (h.0.name, both (uses77_in d.value) (flat_map defined_uses ds) (names_in d.value h.0.value.0) (names_defined ds h.1))

names_in_action : (c : Statement77) → IsSourceAction c → AreSymbolic (uses77_of c)
names_in_action (Assign left e) h = (symbolic_name left.name h.0.0.0, both (uses77_in_subscripts left.subscripts) (uses77_in e) (names_in_subscripts left.subscripts h.0.0.1) (names_in e h.1.0))
names_in_action (Go n) h = tt
names_in_action Continue h = tt
names_in_action Stop h = tt
names_in_action (Read is) h = names_in_items Input is h.0
names_in_action (Print is) h = names_in_items Output is h.0
names_in_action (Program x) h = absurd h
names_in_action ImplicitNone h = absurd h
names_in_action (Declare k es) h = absurd h
names_in_action (Dimension es) h = absurd h
names_in_action (Constants cs) h = absurd h
names_in_action (Test c t) h = absurd h
names_in_action (If c) h = absurd h
names_in_action (ElseIf c) h = absurd h
names_in_action Else h = absurd h
names_in_action EndIf h = absurd h
names_in_action (Do n x b c d) h = absurd h
names_in_action EndDo h = absurd h
names_in_action End h = absurd h

names_in_statement : (c : Statement77) → IsSourceStatement c → AreSymbolic (uses77_of c)
names_in_statement (Program x) h = (h, tt)
names_in_statement (Declare k es) h = names_typed k es h
names_in_statement (Dimension es) h = names_dimensioned es h
names_in_statement (Constants ds) h = names_defined ds h
names_in_statement (Test c s) h = both (uses77_in c) (uses77_of s) (names_in c h.0.0) (names_in_action s h.1)
names_in_statement (If c) h = names_in c h.0
names_in_statement (ElseIf c) h = names_in c h.0
names_in_statement (Do n x a b c) h = (h.1, names_in_control a b c h.2.0 h.3.0 h.4.0)
names_in_statement Else h = tt
names_in_statement EndIf h = tt
names_in_statement EndDo h = tt
names_in_statement ImplicitNone h = tt
names_in_statement End h = tt
names_in_statement (Assign left e) h = names_in_action (Assign left e) h
names_in_statement (Go n) h = tt
names_in_statement Continue h = tt
names_in_statement Stop h = tt
names_in_statement (Read is) h = names_in_action (Read is) h
names_in_statement (Print is) h = names_in_action (Print is) h

pub names_in_text : (text : List Labelled) → AllByRecursion IsSourceCard text → AreSymbolic (uses_in_text text)
names_in_text [] h = tt
names_in_text (x ∷ xs) h = both (uses77_of x.statement) (uses_in_text xs) (names_in_statement x.statement h.0.statement) (names_in_text xs h.1)
