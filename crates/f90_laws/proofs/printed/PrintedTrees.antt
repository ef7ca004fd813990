-- What is printed for an expression whose kinds suit stands for it, with arguments that may stand there, and is as deep
-- as it.
use Rattle.std.proofs.Common.{◌≡◌, refl, sym, ap, subst, ◌∙◌, arith, ℕ, ◌+◌, ◌≤◌, max, ℤ, pos, negsuc, Bool, true, false, not, ◌||◌, cond, IsTrue, Option, Some, None, List, [], ◌∷◌, codes}
use Rattle.std.specs.Prelude.{nat_le}
use Rattle.std.specs.Option.{IsSomeAnd, is_some}
use Rattle.std.specs.Str.{bytes_eq}
use Rattle.std.proofs.lemmas.Bool.{cond_both}
use mathlib.Core.Path.{ap₂}
use Rattle.tree.specs.declared.functions.Fun.{Fun}
use Rattle.tree.specs.declared.functions.Fun.TheVariants.{Abs, Mod, Max, Min}
use Rattle.tree.specs.declared.functions.Red.{Red}
use Rattle.tree.specs.declared.functions.Red.TheVariants.{Sum, MaxVal, MinVal}
use Rattle.tree.specs.declared.functions.Intrinsic.{Intrinsic}
use Rattle.tree.specs.declared.functions.Intrinsic.TheVariants.{Elemental, Reduction}
use Rattle.tree.specs.declared.ops.Op.{Op}
use Rattle.tree.specs.declared.ops.Op.TheVariants.{Neg, Not}
use Rattle.tree.specs.declared.ops.Kind.{Kind}
use Rattle.tree.specs.declared.ops.Kind.TheVariants.{Integer}
use Rattle.tree.specs.Functions.{name_of_function, name_of_reduction, intrinsic_named, suits_number}
use Rattle.tree.specs.OperatorTable.{stands_between, is_unary, operand_kind, left_least, right_least}
use Rattle.tree.specs.Plain as tree
use Rattle.tree.specs.Plain.{Expression, Expressions, Subscript, Subscripts, Loops, Declaration}
use Rattle.meaning.specs.Typed.{declared, number_of_arguments}
use Rattle.meaning.specs.Typed as typed
use Rattle.meaning.specs.Typed90 as kinds
use Rattle.meaning.specs.Typed90.{HasKind, AreArguments, AreScalars, AreSubscripts, IsSubscript, AreLoops}
use Rattle.meaning.specs.Depths as depths
use Rattle.meaning.specs.Depths.{depth_of, depth_of_each, depth_of_subscripts, depth_of_subscript, depth_under, enclosed}
use Rattle.f90_grammar.specs.Phrases.{Phrase90, Paren, Value, ListParts, One, Then, Phrases90, Sole, More, Turn, Innermost, Round, phrase_level90, phrase_depth90, depth_of_part, depth_of_parts, depth_of_values, depth_of_turn}
use Rattle.f90_grammar.specs.Phrases.{tree_of, length_of_values, AreValues, SuitsFunction, SuitsCalls, PartSuitsCalls, PartsSuitCalls, ValuesSuitCalls, TurnSuitsCalls}
use Rattle.f90_grammar.specs.Printing.{fit, unary_phrase, is_one, section_part, list_part_of, more_parts, more_arguments, more_values, rounds}
use Rattle.f90_grammar.specs.Printing.{phrase_of}
use Rattle.f90_grammar.specs.Sources.{IsLiteral, is_negating, HasSome, SuitsLoops, IsOpen, IsSource, EachIsSource}
use Rattle.f90_grammar.specs.Sources.{IsSourceSubscript, AreSource, LoopsAreSource}
use Rattle.f90_grammar.specs.Reading.{declares, function_by}
use Rattle.f90_grammar.proofs.PrintingLaws.{back}

-- ---- names of functions

declares-declared : (ds : List Declaration) (x : List ℕ) → declares ds x ≡ is_some (declared ds x)
declares-declared [] x = refl
declares-declared (d ∷ ds) x = by (bytes_eq d.name x) (declares-declared ds x)
  where
    by : (b : Bool) → declares ds x ≡ is_some (declared ds x) → (b || declares ds x) ≡ is_some (cond b (Some d) (declared ds x))
    by true e = refl
    by false e = e

some_is : {A : Type 0} → (o : Option A) (P : A → Type 0) → IsSomeAnd o P → is_some o ≡ true
some_is None P h = absurd h
some_is (Some x) P h = refl

-- a declared name isn't that of a function, and one that isn't declared is that of the function with this name
hidden : (ds : List Declaration) (x : List ℕ) (P : Declaration → Type 0) → IsSomeAnd (declared ds x) P → function_by ds x ≡ None
hidden ds x P h = by (declares ds x) (declares-declared ds x ∙ some_is (declared ds x) P h)
  where
    by : (b : Bool) → b ≡ true → cond b None (intrinsic_named x) ≡ None
    by true e = refl
    by false e = cc

called : (ds : List Declaration) (x : List ℕ) (f : Intrinsic) → declared ds x ≡ None → intrinsic_named x ≡ Some f → function_by ds x ≡ Some f
called ds x f h g = by (declares ds x) (declares-declared ds x ∙ ap is_some h)
  where
    by : (b : Bool) → b ≡ false → cond b None (intrinsic_named x) ≡ Some f
    by true e = cc
    by false e = g

function_is : (f : Fun) → intrinsic_named (name_of_function f) ≡ Some (Elemental f)
function_is Abs = refl
function_is Mod = refl
function_is Max = refl
function_is Min = refl

reduction_is : (r : Red) → intrinsic_named (name_of_reduction r) ≡ Some (Reduction r)
reduction_is Sum = refl
reduction_is MaxVal = refl
reduction_is MinVal = refl

-- ---- parts

literal : (n : ℤ) → typed.IsLiteral n → IsLiteral n
literal (pos n) h = h
literal (negsuc n) h = absurd h

negating : (o : Op) → IsTrue (is_unary o) → IsTrue (is_negating o)
negating Neg h = refl
negating Not h = refl
negating o h = cc

between : (o : Op) → IsTrue (not (is_unary o)) → IsTrue (stands_between o)
between Neg h = cc
between Not h = cc
between o h = refl

some_argument : (f : Fun) (es : Expressions) → IsTrue (suits_number f (number_of_arguments es)) → HasSome es
some_argument Abs tree.no_expressions h = cc
some_argument Mod tree.no_expressions h = cc
some_argument Max tree.no_expressions h = cc
some_argument Min tree.no_expressions h = cc
some_argument f (tree.expression e es) h = tt

some : (es : Expressions) → 1 ≤ number_of_arguments es → HasSome es
some tree.no_expressions h = absurd (omega arith)
some (tree.expression e es) h = tt

under_loops : (ls : Loops) (es : Expressions) → kinds.SuitsLoops ls (number_of_arguments es) → SuitsLoops ls es
under_loops tree.no_loops es h = some es h
under_loops (tree.loop x a b ls) tree.no_expressions h = absurd (omega arith)
under_loops (tree.loop x a b ls) (tree.expression e tree.no_expressions) h = tt
under_loops (tree.loop x a b ls) (tree.expression e (tree.expression f es)) h = absurd (omega arith)

open_at : (ss : Subscripts) (f : Option Intrinsic) → f ≡ None → IsOpen ss f
open_at tree.no_subscripts f h = tt
open_at (tree.subscript s ss) f h = h

-- ---- trees

module _ (ds : List Declaration) where
  mutual
    pub source : (e : Expression) (k : Kind) → HasKind ds e k → IsSource (function_by ds) e
    source (tree.Number n) k h = literal n h.0
    source (tree.Logic b) k h = tt
    source (tree.Named x ss) k h = (open_at ss (function_by ds x) (hidden ds x _ h.0), subscripts_source ss h.1)
    source (tree.Unary o a) k h = (negating o h.0, source a (operand_kind o) h.2)
    source (tree.Binary o a b) k h = (between o h.0, source a (operand_kind o) h.2, source b (operand_kind o) h.3)
    source (tree.Apply f es) k h =
        (called ds (name_of_function f) (Elemental f) h.1 (function_is f), some_argument f es h.0, arguments_source es h.3)
    source (tree.Constructor es ls) k h = (under_loops ls es h.1, scalars_source es k h.0, loops_source ls h.2)
    source (tree.Spread a d n) k h =
        (called ds (codes "SPREAD") _ h.0 refl, omega (arith, h.2, h.3), source a k h.4, source n Integer h.5)
    source (tree.Transpose a) k h = (called ds (codes "TRANSPOSE") _ h.0 refl, source a k h.2)
    source (tree.Reshape a es) k h =
        (called ds (codes "RESHAPE") _ h.0 refl, some es h.2, source a k h.4, scalars_source es Integer h.5)
    source (tree.Reduce r a) k h = (called ds (name_of_reduction r) (Reduction r) h.0 (reduction_is r), source a Integer h.3)

    arguments_source : (es : Expressions) → AreArguments ds es → EachIsSource (function_by ds) es
    arguments_source tree.no_expressions h = tt
    arguments_source (tree.expression e es) h = (source e Integer h.0, arguments_source es h.2)

    scalars_source : (es : Expressions) (k : Kind) → AreScalars ds es k → EachIsSource (function_by ds) es
    scalars_source tree.no_expressions k h = tt
    scalars_source (tree.expression e es) k h = (source e k h.0.0, scalars_source es k h.1)

    subscripts_source : (ss : Subscripts) → AreSubscripts ds ss → AreSource (function_by ds) ss
    subscripts_source tree.no_subscripts h = tt
    subscripts_source (tree.subscript s ss) h = (subscript_source s h.0, subscripts_source ss h.1)

    subscript_source : (s : Subscript) → IsSubscript ds s → IsSourceSubscript (function_by ds) s
    subscript_source (tree.Only e) h = source e Integer h.0
    subscript_source (tree.Section a b c) h = (source a Integer h.0.0, source b Integer h.1.0, source c Integer h.2.0)

    loops_source : (ls : Loops) → AreLoops ds ls → LoopsAreSource (function_by ds) ls
    loops_source tree.no_loops h = tt
    loops_source (tree.loop x a b ls) h = (source a Integer h.1.0, source b Integer h.2.0, loops_source ls h.3)

-- what is printed is read as the expression again
pub typed_reads_back : (ds : List Declaration) (e : Expression) (k : Kind) → HasKind ds e k → tree_of (function_by ds) (phrase_of e) ≡ e
typed_reads_back ds e k h = back (function_by ds) e (source ds e k h)

-- ---- depth

pub one_depth : (e : Expression) → is_one e ≡ true → depth_of e ≡ 0
one_depth (tree.Number n) h = refl
one_depth (tree.Logic b) h = refl
one_depth e h = absurd cc

fit_depth : (n : ℕ) (p : Phrase90) → phrase_depth90 (fit n p) ≡ enclosed n (phrase_level90 p) (phrase_depth90 p)
fit_depth n p = by (nat_le n (phrase_level90 p))
  where
    by : (b : Bool) → phrase_depth90 (cond b p (Paren p)) ≡ cond b (phrase_depth90 p) (1 + phrase_depth90 p)
    by true = refl
    by false = omega arith

unary_depth : (o : Op) (p : Phrase90) → IsTrue (is_negating o) → phrase_depth90 (unary_phrase o p) ≡ 1 + enclosed (right_least o) (phrase_level90 p) (phrase_depth90 p)
unary_depth Neg p h = let e = fit_depth 8 p in omega (arith, e)
unary_depth Not p h = let e = fit_depth 6 p in omega (arith, e)
unary_depth o p h = cc

section_depth : (t : Bool) (a b c : Phrase90) (n : ℕ) → (t ≡ true → n ≡ 0) → phrase_depth90 c ≡ n → depth_of_part (section_part t a b c) ≡ max (phrase_depth90 a) (max (phrase_depth90 b) n)
section_depth true a b c n one e = let z = one refl in omega arith
section_depth false a b c n one e = omega arith

module _ (function : List ℕ → Option Intrinsic) where
  same_level : (e : Expression) → IsSource function e → phrase_level90 (phrase_of e) ≡ depths.level e
  same_level (tree.Number n) h = refl
  same_level (tree.Logic b) h = refl
  same_level (tree.Named x tree.no_subscripts) h = refl
  same_level (tree.Named x (tree.subscript s ss)) h = refl
  same_level (tree.Unary Neg a) h = refl
  same_level (tree.Unary Not a) h = refl
  same_level (tree.Unary o a) h = let e = h.0 in absurd cc
  same_level (tree.Binary o a b) h = refl
  same_level (tree.Apply f tree.no_expressions) h = refl
  same_level (tree.Apply f (tree.expression e es)) h = refl
  same_level (tree.Constructor tree.no_expressions tree.no_loops) h = refl
  same_level (tree.Constructor (tree.expression e es) tree.no_loops) h = refl
  same_level (tree.Constructor es (tree.loop x a b ls)) h = refl
  same_level (tree.Spread a d n) h = refl
  same_level (tree.Transpose a) h = refl
  same_level (tree.Reshape a es) h = refl
  same_level (tree.Reduce r a) h = refl

  mutual
    -- what is printed for an expression is as deep as the expression
    pub printed_depth : (e : Expression) → IsSource function e → phrase_depth90 (phrase_of e) ≡ depth_of e
    printed_depth (tree.Number n) h = refl
    printed_depth (tree.Logic b) h = refl
    printed_depth (tree.Named x tree.no_subscripts) h = refl
    printed_depth (tree.Named x (tree.subscript s ss)) h =
        let p = part_depth s h.1.0 in
        let q = parts_depth (One (list_part_of s)) ss h.1.1 in
        omega arith
    printed_depth (tree.Unary o a) h =
        unary_depth o (phrase_of a) h.0 ∙ ap₂ (λ l d. 1 + enclosed (right_least o) l d) (same_level a h.1) (printed_depth a h.1)
    printed_depth (tree.Binary o a b) h =
        let l = fit_depth (left_least o) (phrase_of a) ∙ ap₂ (enclosed (left_least o)) (same_level a h.1) (printed_depth a h.1) in
        let r = fit_depth (right_least o) (phrase_of b) ∙ ap₂ (enclosed (right_least o)) (same_level b h.2) (printed_depth b h.2) in
        ap₂ (λ m n. max m n + 1) l r ∙ omega arith
    printed_depth (tree.Apply f tree.no_expressions) h = absurd h.1
    printed_depth (tree.Apply f (tree.expression e es)) h =
        let p = printed_depth e h.2.0 in
        let q = arguments_depth (One (Value (phrase_of e))) es h.2.1 in
        omega arith
    printed_depth (tree.Constructor tree.no_expressions tree.no_loops) h = absurd h.0
    printed_depth (tree.Constructor (tree.expression e es) tree.no_loops) h =
        let p = printed_depth e h.1.0 in
        let q = values_depth (Sole (phrase_of e)) es h.1.1 in
        omega arith
    printed_depth (tree.Constructor tree.no_expressions (tree.loop x a b ls)) h = absurd h.0
    printed_depth (tree.Constructor (tree.expression e tree.no_expressions) (tree.loop x a b ls)) h =
        let p = printed_depth e h.1.0 in
        let q = printed_depth a h.2.0 in
        let r = printed_depth b h.2.1 in
        let i : depth_of_turn (Innermost (phrase_of e) x (phrase_of a) (phrase_of b)) ≡ 1 + max (max (depth_of e) 0) (max (depth_of a) (depth_of b)) = omega arith in
        let t = rounds_depth (Innermost (phrase_of e) x (phrase_of a) (phrase_of b)) ls h.2.2 ∙ ap (depth_under ls) i in
        ap (λ n. n + 1) t ∙ omega arith
    printed_depth (tree.Constructor (tree.expression e (tree.expression f es)) (tree.loop x a b ls)) h = absurd h.0
    printed_depth (tree.Spread a d n) h =
        let p = printed_depth a h.2 in
        let q = printed_depth n h.3 in
        omega arith
    printed_depth (tree.Transpose a) h = let p = printed_depth a h.1 in omega arith
    printed_depth (tree.Reshape a tree.no_expressions) h = absurd h.1
    printed_depth (tree.Reshape a (tree.expression e es)) h =
        let p = printed_depth a h.2 in
        let q = printed_depth e h.3.0 in
        let r = values_depth (Sole (phrase_of e)) es h.3.1 in
        omega arith
    printed_depth (tree.Reduce r a) h = let p = printed_depth a h.1 in omega arith

    part_depth : (s : Subscript) → IsSourceSubscript function s → depth_of_part (list_part_of s) ≡ depth_of_subscript s
    part_depth (tree.Only e) h = printed_depth e h
    part_depth (tree.Section a b c) h =
        section_depth (is_one c) (phrase_of a) (phrase_of b) (phrase_of c) (depth_of c) (one_depth c) (printed_depth c h.2)
        ∙ ap₂ (λ m n. max m (max n (depth_of c))) (printed_depth a h.0) (printed_depth b h.1)

    parts_depth : (ps : ListParts) (ss : Subscripts) → AreSource function ss → depth_of_parts (more_parts ps ss) + 1 ≡ max (depth_of_parts ps + 1) (depth_of_subscripts ss)
    parts_depth ps tree.no_subscripts h = omega arith
    parts_depth ps (tree.subscript s ss) h =
        let p = part_depth s h.0 in
        let q = parts_depth (Then ps (list_part_of s)) ss h.1 in
        omega arith

    arguments_depth : (ps : ListParts) (es : Expressions) → EachIsSource function es → depth_of_parts (more_arguments ps es) ≡ max (depth_of_parts ps) (depth_of_each es)
    arguments_depth ps tree.no_expressions h = omega arith
    arguments_depth ps (tree.expression e es) h =
        let p = printed_depth e h.0 in
        let q = arguments_depth (Then ps (Value (phrase_of e))) es h.1 in
        omega arith

    values_depth : (ps : Phrases90) (es : Expressions) → EachIsSource function es → depth_of_values (more_values ps es) ≡ max (depth_of_values ps) (depth_of_each es)
    values_depth ps tree.no_expressions h = omega arith
    values_depth ps (tree.expression e es) h =
        let p = printed_depth e h.0 in
        let q = values_depth (More ps (phrase_of e)) es h.1 in
        omega arith

    rounds_depth : (t : Turn) (ls : Loops) → LoopsAreSource function ls → depth_of_turn (rounds t ls) ≡ depth_under ls (depth_of_turn t)
    rounds_depth t tree.no_loops h = refl
    rounds_depth t (tree.loop x a b ls) h =
        let p = printed_depth a h.0 in
        let q = printed_depth b h.1 in
        let i : depth_of_turn (Round t x (phrase_of a) (phrase_of b)) ≡ 1 + max (depth_of_turn t) (max (depth_of a) (depth_of b)) = omega arith in
        rounds_depth (Round t x (phrase_of a) (phrase_of b)) ls h.2 ∙ ap (depth_under ls) i

-- ---- arguments that may stand in the calls

open_call : (f : Option Intrinsic) (ps : ListParts) → f ≡ None → SuitsFunction f ps
open_call f ps e = subst (λ g. SuitsFunction g ps) (sym e) tt

known_call : (f : Option Intrinsic) (g : Intrinsic) (ps : ListParts) → f ≡ Some g → SuitsFunction (Some g) ps → SuitsFunction f ps
known_call f g ps e h = subst (λ i. SuitsFunction i ps) (sym e) h

argument_values : (ps : ListParts) (es : Expressions) → AreValues ps → AreValues (more_arguments ps es)
argument_values ps tree.no_expressions h = h
argument_values ps (tree.expression e es) h = argument_values (Then ps (Value (phrase_of e))) es h

number_of_values : (ps : Phrases90) (es : Expressions) → length_of_values (more_values ps es) ≡ length_of_values ps + number_of_arguments es
number_of_values ps tree.no_expressions = omega arith
number_of_values ps (tree.expression e es) = let n = number_of_values (More ps (phrase_of e)) es in omega arith

module _ (ds : List Declaration) where
  fit_suits : (n : ℕ) (p : Phrase90) → SuitsCalls (function_by ds) p → SuitsCalls (function_by ds) (fit n p)
  fit_suits n p h = cond_both (nat_le n (phrase_level90 p)) p (Paren p) (SuitsCalls (function_by ds)) (λ e. h) (λ e. h)

  unary_suits : (o : Op) (p : Phrase90) → SuitsCalls (function_by ds) p → SuitsCalls (function_by ds) (unary_phrase o p)
  unary_suits Not p h = fit_suits 6 p h
  unary_suits o p h = fit_suits 8 p h

  section_suits : (t : Bool) (a b c : Phrase90) → SuitsCalls (function_by ds) a → SuitsCalls (function_by ds) b → SuitsCalls (function_by ds) c → PartSuitsCalls (function_by ds) (section_part t a b c)
  section_suits true a b c h g k = (h, g)
  section_suits false a b c h g k = (h, g, k)

  mutual
    pub printed_suits : (e : Expression) (k : Kind) → HasKind ds e k → SuitsCalls (function_by ds) (phrase_of e)
    printed_suits (tree.Number n) k h = tt
    printed_suits (tree.Logic b) k h = tt
    printed_suits (tree.Named x tree.no_subscripts) k h = tt
    printed_suits (tree.Named x (tree.subscript s ss)) k h =
        (open_call (function_by ds x) (more_parts (One (list_part_of s)) ss) (hidden ds x _ h.0), parts_suit (One (list_part_of s)) ss (part_suits s h.1.0) h.1.1)
    printed_suits (tree.Unary o a) k h = unary_suits o (phrase_of a) (printed_suits a (operand_kind o) h.2)
    printed_suits (tree.Binary o a b) k h =
        (fit_suits (left_least o) (phrase_of a) (printed_suits a (operand_kind o) h.2), fit_suits (right_least o) (phrase_of b) (printed_suits b (operand_kind o) h.3))
    printed_suits (tree.Apply f tree.no_expressions) k h = tt
    printed_suits (tree.Apply f (tree.expression e es)) k h = (
      known_call (function_by ds (name_of_function f)) (Elemental f) (more_arguments (One (Value (phrase_of e))) es) (called ds (name_of_function f) (Elemental f) h.1 (function_is f))
          (argument_values (One (Value (phrase_of e))) es tt),
      arguments_suit (One (Value (phrase_of e))) es (printed_suits e Integer h.3.0) h.3.2,
    )
    printed_suits (tree.Constructor tree.no_expressions tree.no_loops) k h = tt
    printed_suits (tree.Constructor (tree.expression e es) tree.no_loops) k h = values_suit (Sole (phrase_of e)) es k (printed_suits e k h.0.0.0) h.0.1
    printed_suits (tree.Constructor tree.no_expressions (tree.loop x a b ls)) k h = absurd (under_loops (tree.loop x a b ls) tree.no_expressions h.1)
    printed_suits (tree.Constructor (tree.expression e tree.no_expressions) (tree.loop x a b ls)) k h =
        turn_suits (Innermost (phrase_of e) x (phrase_of a) (phrase_of b)) ls (printed_suits e k h.0.0.0, printed_suits a Integer h.2.1.0, printed_suits b Integer h.2.2.0) h.2.3
    printed_suits (tree.Constructor (tree.expression e (tree.expression f es)) (tree.loop x a b ls)) k h =
        absurd (under_loops (tree.loop x a b ls) (tree.expression e (tree.expression f es)) h.1)
    printed_suits (tree.Spread a d n) k h =
        (known_call (function_by ds (codes "SPREAD")) _ _ (called ds (codes "SPREAD") _ h.0 refl) (tt, tt), ((printed_suits a k h.4, tt), printed_suits n Integer h.5))
    printed_suits (tree.Transpose a) k h = (known_call (function_by ds (codes "TRANSPOSE")) _ _ (called ds (codes "TRANSPOSE") _ h.0 refl) tt, printed_suits a k h.2)
    printed_suits (tree.Reshape a tree.no_expressions) k h = absurd (some tree.no_expressions h.2)
    printed_suits (tree.Reshape a (tree.expression e es)) k h = (
      known_call (function_by ds (codes "RESHAPE")) _ _ (called ds (codes "RESHAPE") _ h.0 refl)
          (tt, omega (arith, number_of_values (Sole (phrase_of e)) es, h.3)),
      (printed_suits a k h.4, values_suit (Sole (phrase_of e)) es Integer (printed_suits e Integer h.5.0.0) h.5.1),
    )
    printed_suits (tree.Reduce r a) k h =
        (known_call (function_by ds (name_of_reduction r)) (Reduction r) _ (called ds (name_of_reduction r) (Reduction r) h.0 (reduction_is r)) tt, printed_suits a Integer h.3)

    part_suits : (s : Subscript) → IsSubscript ds s → PartSuitsCalls (function_by ds) (list_part_of s)
    part_suits (tree.Only e) h = printed_suits e Integer h.0
    part_suits (tree.Section a b c) h =
        section_suits (is_one c) (phrase_of a) (phrase_of b) (phrase_of c) (printed_suits a Integer h.0.0) (printed_suits b Integer h.1.0) (printed_suits c Integer h.2.0)

    parts_suit : (ps : ListParts) (ss : Subscripts) → PartsSuitCalls (function_by ds) ps → AreSubscripts ds ss → PartsSuitCalls (function_by ds) (more_parts ps ss)
    parts_suit ps tree.no_subscripts g h = g
    parts_suit ps (tree.subscript s ss) g h = parts_suit (Then ps (list_part_of s)) ss (g, part_suits s h.0) h.1

    arguments_suit : (ps : ListParts) (es : Expressions) → PartsSuitCalls (function_by ds) ps → AreArguments ds es → PartsSuitCalls (function_by ds) (more_arguments ps es)
    arguments_suit ps tree.no_expressions g h = g
    arguments_suit ps (tree.expression e es) g h = arguments_suit (Then ps (Value (phrase_of e))) es (g, printed_suits e Integer h.0) h.2

    values_suit : (ps : Phrases90) (es : Expressions) (k : Kind) → ValuesSuitCalls (function_by ds) ps → AreScalars ds es k → ValuesSuitCalls (function_by ds) (more_values ps es)
    values_suit ps tree.no_expressions k g h = g
    values_suit ps (tree.expression e es) k g h = values_suit (More ps (phrase_of e)) es k (g, printed_suits e k h.0.0) h.1

    turn_suits : (t : Turn) (ls : Loops) → TurnSuitsCalls (function_by ds) t → AreLoops ds ls → TurnSuitsCalls (function_by ds) (rounds t ls)
    turn_suits t tree.no_loops g h = g
    turn_suits t (tree.loop x a b ls) g h = turn_suits (Round t x (phrase_of a) (phrase_of b)) ls (g, printed_suits a Integer h.1.0, printed_suits b Integer h.2.0) h.3
