-- The text of each kind of expression.
use Rattle.std.proofs.Common.{◌≡◌, ℕ, zero, suc, length, Some, ℤ, ◌+◌, Bool, true, false, List, [], ◌∷◌, ◌++◌, map, refl, ap, sym, ◌∙◌, append-nil, append_assoc, codes, replicate}
use Rattle.std.specs.Prelude.{flat_map, decimal}
use Rattle.std.proofs.lemmas.List.{length-map}
use Rattle.std.specs.declared.boxed.Box.{Box}
use Rattle.std.specs.declared.alloc.Global.{Global}
use Rattle.tree.specs.declared.ops.Op.{Op}
use Rattle.tree.specs.declared.ops.Op.TheVariants.{Pow, Mul, Div, Neg, Add, Sub as Subtract, Lt, Le, Eq, Ne, Gt, Ge, Not, And, Or, Eqv, Neqv}
use Rattle.tree.specs.declared.functions.Fun.{Fun}
use Rattle.tree.specs.declared.functions.Red.{Red}
use Rattle.tree.specs.declared.lists.Seq.{Seq}
use Rattle.tree.specs.declared.exprs.Expr.{Expr}
use Rattle.tree.specs.declared.exprs.Expr.TheVariants as exprs
use Rattle.tree.specs.declared.exprs.Sub.{Sub}
use Rattle.tree.specs.declared.exprs.Sub.TheVariants as subs
use Rattle.tree.specs.declared.exprs.Ref.{Ref, out-Ref}
use Rattle.tree.specs.declared.exprs.Turn.{Turn, out-Turn}
use Rattle.tree.specs.Plain as P
use Rattle.tree.specs.View.{expression_of, subscript_of, reference_of, loop_of, constructor_loops, ConstructorLoop}
use Rattle.tree.specs.Functions.{name_of_function, name_of_reduction}
use Rattle.tree.specs.OperatorTable.{left_least, right_least, spelling90_of, sign_level}
use Rattle.tree.proofs.Equations.{expression_of-int, expression_of-truth, expression_of-item, expression_of-un, expression_of-bin, expression_of-call, expression_of-list, expression_of-spread, expression_of-transpose, expression_of-reshape, expression_of-reduce, subscript_of-one, subscript_of-part, reference_of-is, loop_of-is}
use Rattle.f90_grammar.specs.Words.{truth_text}
use Rattle.f90_grammar.specs.Phrases.{Phrase90, Signed, Value, ListParts, One, Then, Phrases90, Sole, More, Turn as Turns, Innermost, Round, phrase_level90}
use Rattle.f90_grammar.specs.Printing.{phrase_of, list_part_of, more_parts, more_arguments, list_of, more_values, values, first_value, constructor_phrase, rounds, is_one, section_part, fit, unary_phrase, digits_of}
use Rattle.f90_grammar.specs.PrintedForms.{reference_phrase}
use Rattle.f90_grammar.specs.PrintedText.{phrase_text, part_text, parts_text, values_text, turn_text, expression_text, separated_text, comma, in_parentheses, loop_text, sign_text}
use Rattle.f90_print.specs.Texts.{operand_text, subscript_text, listed_text, after_comma, loop_end_text, sign_of}
use Rattle.f90_print.proofs.Lists.{separated-first, listed-first}

-- ---- signs

pub unary_phrase-is : (o : Op) (p : Phrase90) → unary_phrase o p ≡ Signed (sign_of o) (fit (sign_level (sign_of o) + 1) p)
unary_phrase-is Pow p = refl
unary_phrase-is Mul p = refl
unary_phrase-is Div p = refl
unary_phrase-is Neg p = refl
unary_phrase-is Add p = refl
unary_phrase-is Subtract p = refl
unary_phrase-is Lt p = refl
unary_phrase-is Le p = refl
unary_phrase-is Eq p = refl
unary_phrase-is Ne p = refl
unary_phrase-is Gt p = refl
unary_phrase-is Ge p = refl
unary_phrase-is Not p = refl
unary_phrase-is And p = refl
unary_phrase-is Or p = refl
unary_phrase-is Eqv p = refl
unary_phrase-is Neqv p = refl

-- ---- lists of parts

parts-more : (ps : ListParts) (ss : List P.Subscript) → parts_text (more_parts ps (P.subscripts ss)) ≡ parts_text ps ++ flat_map (after_comma subscript_text) ss
parts-more ps [] = sym (append-nil (parts_text ps))
parts-more ps (s ∷ ss) = parts-more (Then ps (list_part_of s)) ss ∙ append_assoc (parts_text ps) (comma ++ subscript_text s) (flat_map (after_comma subscript_text) ss)

arguments-more : (ps : ListParts) (es : List P.Expression) → parts_text (more_arguments ps (P.expressions es)) ≡ parts_text ps ++ flat_map (after_comma expression_text) es
arguments-more ps [] = sym (append-nil (parts_text ps))
arguments-more ps (e ∷ es) = arguments-more (Then ps (Value (phrase_of e))) es ∙ append_assoc (parts_text ps) (comma ++ expression_text e) (flat_map (after_comma expression_text) es)

values-more : (ps : Phrases90) (es : List P.Expression) → values_text (more_values ps (P.expressions es)) ≡ values_text ps ++ flat_map (after_comma expression_text) es
values-more ps [] = sym (append-nil (values_text ps))
values-more ps (e ∷ es) = values-more (More ps (phrase_of e)) es ∙ append_assoc (values_text ps) (comma ++ expression_text e) (flat_map (after_comma expression_text) es)

pub named-text : (x : List ℕ) (ss : List P.Subscript) → expression_text (P.Named x (P.subscripts ss)) ≡ x ++ listed_text subscript_text ss
named-text x [] = sym (append-nil x)
named-text x (s ∷ ss) = ap (λ t. x ++ in_parentheses t) (parts-more (One (list_part_of s)) ss ∙ sym (separated-first subscript_text s ss))

pub apply-text : (f : Fun) (es : List P.Expression) → expression_text (P.Apply f (P.expressions es)) ≡ name_of_function f ++ listed_text expression_text es
apply-text f [] = sym (append-nil (name_of_function f))
apply-text f (e ∷ es) = ap (λ t. name_of_function f ++ in_parentheses t) (arguments-more (One (Value (phrase_of e))) es ∙ sym (separated-first expression_text e es))

pub values-first : (e : P.Expression) (es : List P.Expression)
    → phrase_text (values (list_of (P.expressions (e ∷ es)))) ≡ codes "(/ " ++ (separated_text expression_text (e ∷ es) ++ codes " /)")
values-first e es = ap (λ t. codes "(/ " ++ (t ++ codes " /)")) (values-more (Sole (phrase_of e)) es ∙ sym (separated-first expression_text e es))

pub values-none : phrase_text (values (list_of (P.expressions []))) ≡ truth_text false
values-none = refl

-- ---- the one value under loops

pub first_value-one : (e : P.Expression) → phrase_text (first_value (list_of (P.expressions (e ∷ [])))) ≡ expression_text e
first_value-one e = refl

pub first_value-none : phrase_text (first_value (list_of (P.expressions []))) ≡ truth_text false
first_value-none = refl

many_values : (ps : Phrases90) (p : Phrase90) (es : P.Expressions) → phrase_text (first_value (Some (more_values (More ps p) es))) ≡ truth_text false
many_values ps p P.no_expressions = refl
many_values ps p (P.expression e es) = many_values (More ps p) (phrase_of e) es

pub first_value-many : (e d : P.Expression) (es : List P.Expression) → phrase_text (first_value (list_of (P.expressions (e ∷ d ∷ es)))) ≡ truth_text false
first_value-many e d es = many_values (Sole (phrase_of e)) (phrase_of d) (P.expressions es)

-- ---- loops

openings_before : (n : ℕ) (t : List ℕ) → 40 ∷ (replicate n 40 ++ t) ≡ replicate n 40 ++ 40 ∷ t
openings_before zero t = refl
openings_before (suc n) t = ap (λ u. 40 ∷ u) (openings_before n t)

round_joined : (t c l m : List ℕ) → (40 ∷ ((t ++ (c ++ l)) ++ 41 ∷ [])) ++ m ≡ 40 ∷ (t ++ ((c ++ (l ++ 41 ∷ [])) ++ m))
round_joined t c l m = simp append_assoc

rounds-text : (t : Turns) (ls : List ConstructorLoop) → turn_text (rounds t (constructor_loops ls)) ≡ replicate (length ls) 40 ++ (turn_text t ++ flat_map loop_end_text ls)
rounds-text t [] = sym (append-nil (turn_text t))
rounds-text t (l ∷ ls) =
    rounds-text (Round t l.variable (phrase_of l.first) (phrase_of l.last)) ls
    ∙ ap (λ u. replicate (length ls) 40 ++ u) (round_joined (turn_text t) comma (loop_text l.variable (expression_text l.first) (expression_text l.last)) (flat_map loop_end_text ls))
    ∙ sym (openings_before (length ls) (turn_text t ++ flat_map loop_end_text (l ∷ ls)))

looped_joined : (r f c l m e : List ℕ) → (r ++ ((40 ∷ ((f ++ (c ++ l)) ++ 41 ∷ [])) ++ m)) ++ e ≡ r ++ 40 ∷ (f ++ (((c ++ (l ++ 41 ∷ [])) ++ m) ++ e))
looped_joined r f c l m e = simp append_assoc

pub constructor_phrase-loops : (l : ConstructorLoop) (ls : List ConstructorLoop) (es : List P.Expression)
    → phrase_text (constructor_phrase (constructor_loops (l ∷ ls)) (list_of (P.expressions es)))
    ≡ codes "(/ " ++ (replicate (length (l ∷ ls)) 40 ++ (phrase_text (first_value (list_of (P.expressions es))) ++ (flat_map loop_end_text (l ∷ ls) ++ codes " /)")))
constructor_phrase-loops l ls es =
    let p = first_value (list_of (P.expressions es)) in
    let t = loop_text l.variable (expression_text l.first) (expression_text l.last) in
    ap (λ u. codes "(/ " ++ (u ++ codes " /)")) (rounds-text (Innermost p l.variable (phrase_of l.first) (phrase_of l.last)) ls)
    ∙ ap (λ u. codes "(/ " ++ u) (looped_joined (replicate (length ls) 40) (phrase_text p) comma t (flat_map loop_end_text ls) (codes " /)")
    ∙ sym (openings_before (length ls) (phrase_text p ++ (flat_map loop_end_text (l ∷ ls) ++ codes " /)"))))

-- ---- lists of trees of the program

pub values-some : (es : List Expr) → (es ≡ [] → ⊥)
    → phrase_text (values (list_of (P.expressions (map expression_of es)))) ≡ codes "(/ " ++ (separated_text expression_text (map expression_of es) ++ codes " /)")
values-some [] h = absurd (h refl)
values-some (e ∷ es) h = values-first (expression_of e) (map expression_of es)

pub first_value-other : (es : List Expr) → (length es ≡ 1 → ⊥) → phrase_text (first_value (list_of (P.expressions (map expression_of es)))) ≡ truth_text false
first_value-other [] h = refl
first_value-other (e ∷ []) h = absurd (h refl)
first_value-other (e ∷ d ∷ es) h = first_value-many (expression_of e) (expression_of d) (map expression_of es)

pub separated-parts : (e : Expr) (es all : List Expr) → e ∷ es ≡ all
    → separated_text expression_text (map expression_of all) ≡ expression_text (expression_of e) ++ flat_map (after_comma expression_text) (map expression_of es)
separated-parts e es all h = ap (λ xs. separated_text expression_text (map expression_of xs)) (sym h) ∙ separated-first expression_text (expression_of e) (map expression_of es)

pub listed-parts : (s : Sub) (ss all : List Sub) → s ∷ ss ≡ all
    → listed_text subscript_text (map subscript_of all) ≡ 40 ∷ (subscript_text (subscript_of s) ++ (flat_map (after_comma subscript_text) (map subscript_of ss) ++ 41 ∷ []))
listed-parts s ss all h =
    ap (λ xs. listed_text subscript_text (map subscript_of xs)) (sym h) ∙ listed-first subscript_text (subscript_of s) (map subscript_of ss)
    ∙ ap (λ t. 40 ∷ t) (append_assoc (subscript_text (subscript_of s)) (flat_map (after_comma subscript_text) (map subscript_of ss)) (41 ∷ []))

pub constructor_phrase-some : (ls : List Turn) (es : List P.Expression) → (ls ≡ [] → ⊥)
    → phrase_text (constructor_phrase (constructor_loops (map loop_of ls)) (list_of (P.expressions es)))
    ≡ codes "(/ " ++ (replicate (length ls) 40 ++ (phrase_text (first_value (list_of (P.expressions es))) ++ (flat_map loop_end_text (map loop_of ls) ++ codes " /)")))
constructor_phrase-some [] es h = absurd (h refl)
constructor_phrase-some (l ∷ ls) es h =
    constructor_phrase-loops (loop_of l) (map loop_of ls) es
    ∙ ap (λ n. codes "(/ " ++ (40 ∷ (replicate n 40 ++ (phrase_text (first_value (list_of (P.expressions es))) ++ (flat_map loop_end_text (map loop_of (l ∷ ls)) ++ codes " /)"))))) (length-map ls loop_of)

-- ---- the text of a tree of the program

pub int-text : (n : ℤ) → expression_text (expression_of (exprs.Int n)) ≡ digits_of n
int-text n = ap expression_text (expression_of-int n)

pub truth-text : (b : Bool) → expression_text (expression_of (exprs.Truth b)) ≡ truth_text b
truth-text b = ap expression_text (expression_of-truth b)

pub reference-text : (r : Ref) → phrase_text (reference_phrase (reference_of r)) ≡ (out-Ref r).name ++ listed_text subscript_text (map subscript_of (out-Ref r).subs)
reference-text r = ap (λ (q : P.Reference). phrase_text (reference_phrase q)) (reference_of-is r) ∙ named-text (out-Ref r).name (map subscript_of (out-Ref r).subs)

pub item-text : (r : Ref) → expression_text (expression_of (exprs.Item r)) ≡ phrase_text (reference_phrase (reference_of r))
item-text r = ap expression_text (expression_of-item r)

pub un-text : (o : Op) (a : Box Expr Global)
    → expression_text (expression_of (exprs.Un o a)) ≡ sign_text (sign_of o) ++ operand_text (sign_level (sign_of o) + 1) (expression_of a.value)
un-text o a = ap expression_text (expression_of-un o a) ∙ ap phrase_text (unary_phrase-is o (phrase_of (expression_of a.value)))

pub bin-text : (o : Op) (a b : Box Expr Global)
    → expression_text (expression_of (exprs.Bin o a b))
    ≡ operand_text (left_least o) (expression_of a.value) ++ (32 ∷ (spelling90_of o ++ (32 ∷ operand_text (right_least o) (expression_of b.value))))
bin-text o a b = ap expression_text (expression_of-bin o a b)

pub call-text : (f : Fun) (es : Seq Expr)
    → expression_text (expression_of (exprs.Call f es)) ≡ name_of_function f ++ listed_text expression_text (map expression_of es)
call-text f es = ap expression_text (expression_of-call f es) ∙ apply-text f (map expression_of es)

pub list-text : (es : Seq Expr) (ls : Seq Turn)
    → expression_text (expression_of (exprs.List es ls)) ≡ phrase_text (constructor_phrase (constructor_loops (map loop_of ls)) (list_of (P.expressions (map expression_of es))))
list-text es ls = ap expression_text (expression_of-list es ls)

pub spread-text : (a : Box Expr Global) (d : ℕ) (n : Box Expr Global)
    → expression_text (expression_of (exprs.Spread a d n))
    ≡ codes "SPREAD(" ++ (expression_text (expression_of a.value) ++ (codes ", " ++ (decimal d ++ (codes ", " ++ (expression_text (expression_of n.value) ++ codes ")")))))
spread-text a d n = ap expression_text (expression_of-spread a d n) ∙ simp append_assoc

pub transpose-text : (a : Box Expr Global)
    → expression_text (expression_of (exprs.Transpose a)) ≡ codes "TRANSPOSE(" ++ (expression_text (expression_of a.value) ++ codes ")")
transpose-text a = ap expression_text (expression_of-transpose a)

pub reshape-text : (a : Box Expr Global) (es : Seq Expr)
    → expression_text (expression_of (exprs.Reshape a es))
    ≡ codes "RESHAPE(" ++ (expression_text (expression_of a.value) ++ (codes ", " ++ (phrase_text (values (list_of (P.expressions (map expression_of es)))) ++ codes ")")))
reshape-text a es = ap expression_text (expression_of-reshape a es) ∙ simp append_assoc

pub reduce-text : (r : Red) (a : Box Expr Global)
    → expression_text (expression_of (exprs.Reduce r a)) ≡ name_of_reduction r ++ (40 ∷ (expression_text (expression_of a.value) ++ 41 ∷ []))
reduce-text r a = ap expression_text (expression_of-reduce r a)

pub one-text : (e : Expr) → subscript_text (subscript_of (subs.One e)) ≡ expression_text (expression_of e)
one-text e = ap subscript_text (subscript_of-one e)

part_text-whole : (t : Bool) (a b c : Phrase90) → t ≡ true → part_text (section_part t a b c) ≡ phrase_text a ++ (58 ∷ phrase_text b)
part_text-whole true a b c e = refl
part_text-whole false a b c e = cc

part_text-strided : (t : Bool) (a b c : Phrase90) → t ≡ false → part_text (section_part t a b c) ≡ phrase_text a ++ (58 ∷ (phrase_text b ++ (58 ∷ phrase_text c)))
part_text-strided true a b c e = cc
part_text-strided false a b c e = refl

pub part-text : (a b c : Expr) → is_one (expression_of c) ≡ true
    → subscript_text (subscript_of (subs.Part a b c)) ≡ expression_text (expression_of a) ++ (58 ∷ expression_text (expression_of b))
part-text a b c e = ap subscript_text (subscript_of-part a b c) ∙ part_text-whole (is_one (expression_of c)) _ _ _ e

pub strided-text : (a b c : Expr) → is_one (expression_of c) ≡ false
    → subscript_text (subscript_of (subs.Part a b c))
    ≡ expression_text (expression_of a) ++ (58 ∷ (expression_text (expression_of b) ++ (58 ∷ expression_text (expression_of c))))
strided-text a b c e = ap subscript_text (subscript_of-part a b c) ∙ part_text-strided (is_one (expression_of c)) _ _ _ e

pub turn-text : (l : Turn)
    → loop_end_text (loop_of l)
    ≡ codes ", " ++ ((out-Turn l).var ++ (codes " = " ++ (expression_text (expression_of (out-Turn l).first) ++ (codes ", " ++ (expression_text (expression_of (out-Turn l).last) ++ codes ")")))))
turn-text l = ap loop_end_text (loop_of-is l) ∙ simp append_assoc

pub ruleset expression_texts = (int-text, truth-text, item-text, list-text, one-text, values-none, first_value-one)

-- ---- the root of an expression

pub constructor_phrase-level : (ls : List ConstructorLoop) (es : List P.Expression) → phrase_level90 (phrase_of (P.Constructor (P.expressions es) (constructor_loops ls))) ≡ 10
constructor_phrase-level [] [] = refl
constructor_phrase-level [] (e ∷ es) = refl
constructor_phrase-level (l ∷ ls) es = refl

pub ruleset roots = (unary_phrase-is, constructor_phrase-level)
