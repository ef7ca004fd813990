-- The texts of expressions and assignments whose names are printable.
use Rattle.std.proofs.Common.{refl, ℕ, ℤ, pos, negsuc, Bool, true, false, cond, Option, Some, None, List, ◌∷◌, ◌++◌}
use Rattle.std.proofs.Common.{codes, lit≤}
use Rattle.std.specs.Prelude.{nat_le}
use Rattle.tree.specs.Functions.{name_of_function}
use Rattle.tree.specs.OperatorTable.{Minus, Negation, left_least, right_least, spelling90_of}
use Rattle.tree.specs.Plain.{Expression, Number, Logic, Named, Unary, Binary, Apply, Constructor, Spread, Transpose}
use Rattle.tree.specs.Plain.{Reshape, Reduce, Expressions, no_expressions, expression, Subscript, Only, Section}
use Rattle.tree.specs.Plain.{Subscripts, no_subscripts, subscript}
use Rattle.tree.specs.declared.functions.Fun.{Fun}
use Rattle.tree.specs.declared.functions.Fun.TheVariants.{Abs, Mod, Max, Min}
use Rattle.tree.specs.declared.ops.Op.{Op}
use Rattle.tree.specs.declared.ops.Op.TheVariants.{Pow, Mul, Div, Neg, Add, Sub, Lt, Le, Eq, Ne, Gt, Ge}
use Rattle.tree.specs.declared.ops.Op.TheVariants.{Not, And, Or, Eqv, Neqv}
use Rattle.f90_grammar.specs.Phrases.{Phrase90, Paren, Joined, ListParts, One, Then, ListPart, Value, phrase_level90}
use Rattle.f90_grammar.specs.Printing.{phrase_of, list_part_of, printed_parts_of, more_parts, arguments, more_arguments, listed, fit}
use Rattle.f90_grammar.specs.Printing.{unary_phrase, digits_of}
use Rattle.f90_grammar.specs.PrintedForms.{reference_phrase}
use Rattle.f90_grammar.specs.PrintedText.{in_parentheses, comma, sign_text, phrase_text, part_text, parts_text}
use Rattle.f90_grammar.specs.PrintedText.{expression_text, guard_text, guarded_assignment_text}
use Rattle.f90_grammar.specs.Words.{truth_text}
use Rattle.nest.specs.Plain.{Guarded}
use Rattle.pass_laws.proofs.NormalFacts.Texts.{IsOver, EachIsOver, AreOver, OneIsOver, GuardIsOver, IsStatementOver}
use Rattle.listing_laws.proofs.notes.Printable.{ArePrintable, both, blank, word, number}

-- ---- words

operator : (o : Op) → ArePrintable (spelling90_of o)
operator Pow = word (codes "**") refl
operator Mul = word (codes "*") refl
operator Div = word (codes "/") refl
operator Neg = word (codes "-") refl
operator Add = word (codes "+") refl
operator Sub = word (codes "-") refl
operator Lt = word (codes "<") refl
operator Le = word (codes "<=") refl
operator Eq = word (codes "==") refl
operator Ne = word (codes "/=") refl
operator Gt = word (codes ">") refl
operator Ge = word (codes ">=") refl
operator Not = word (codes ".NOT.") refl
operator And = word (codes ".AND.") refl
operator Or = word (codes ".OR.") refl
operator Eqv = word (codes ".EQV.") refl
operator Neqv = word (codes ".NEQV.") refl

function : (f : Fun) → ArePrintable (name_of_function f)
function Abs = word (codes "ABS") refl
function Mod = word (codes "MOD") refl
function Max = word (codes "MAX") refl
function Min = word (codes "MIN") refl

truth : (b : Bool) → ArePrintable (truth_text b)
truth true = word (codes ".TRUE.") refl
truth false = word (codes ".FALSE.") refl

digits : (n : ℤ) → ArePrintable (digits_of n)
digits (pos n) = number n
digits (negsuc n) = tt

-- ---- phrases

abbrev IsPrinted : Phrase90 → Type 0
IsPrinted p = ArePrintable (phrase_text p)

abbrev ArePrinted : ListParts → Type 0
ArePrinted ps = ArePrintable (parts_text ps)

enclosed : (t : List ℕ) → ArePrintable t → ArePrintable (in_parentheses t)
enclosed t h = ((lit≤ tt, lit≤ tt), both t (codes ")") h (word (codes ")") refl))

fitted : (n : ℕ) (p : Phrase90) → IsPrinted p → IsPrinted (fit n p)
fitted n p h = by (nat_le n (phrase_level90 p))
  where
    by : (b : Bool) → IsPrinted (cond b p (Paren p))
    by true = h
    by false = enclosed (phrase_text p) h

negative : (p : Phrase90) → IsPrinted p → ArePrintable (sign_text Minus ++ phrase_text (fit 8 p))
negative p h = both (sign_text Minus) (phrase_text (fit 8 p)) (word (codes "-") refl) (fitted 8 p h)

signed : (o : Op) (p : Phrase90) → IsPrinted p → IsPrinted (unary_phrase o p)
signed Not p h = both (sign_text Negation) (phrase_text (fit 6 p)) (word (codes ".NOT. ") refl) (fitted 6 p h)
signed Pow p h = negative p h
signed Mul p h = negative p h
signed Div p h = negative p h
signed Neg p h = negative p h
signed Add p h = negative p h
signed Sub p h = negative p h
signed Lt p h = negative p h
signed Le p h = negative p h
signed Eq p h = negative p h
signed Ne p h = negative p h
signed Gt p h = negative p h
signed Ge p h = negative p h
signed And p h = negative p h
signed Or p h = negative p h
signed Eqv p h = negative p h
signed Neqv p h = negative p h

between : (o : Op) (a b : Phrase90) → IsPrinted a → IsPrinted b → IsPrinted (Joined o a b)
between o a b h k =
    both (phrase_text a) (32 ∷ (spelling90_of o ++ (32 ∷ phrase_text b))) h
    (blank, both (spelling90_of o) (32 ∷ phrase_text b) (operator o) (blank, k))

behind : (ps : ListParts) (p : ListPart) → ArePrinted ps → ArePrintable (part_text p) → ArePrinted (Then ps p)
behind ps p h k = both (parts_text ps) (comma ++ part_text p) h (both comma (part_text p) (word (codes ", ") refl) k)

abbrev SomePrinted : Option ListParts → Type 0
SomePrinted None = Unit {0}
SomePrinted (Some ps) = ArePrinted ps

list : (x : List ℕ) (o : Option ListParts) → ArePrintable x → SomePrinted o → IsPrinted (listed x o)
list x None h k = h
list x (Some ps) h k = both x (in_parentheses (parts_text ps)) h (enclosed (parts_text ps) k)

-- ---- expressions of printable names

mutual
  phrase : (e : Expression) → IsOver ArePrintable e → IsPrinted (phrase_of e)
  phrase (Number n) h = digits n
  phrase (Logic b) h = truth b
  phrase (Named x ss) h = list x (printed_parts_of ss) h.0 (some_parts ss h.1)
  phrase (Unary o a) h = signed o (phrase_of a) (phrase a h)
  phrase (Binary o a b) h =
      between o (fit (left_least o) (phrase_of a)) (fit (right_least o) (phrase_of b)) (fitted (left_least o) (phrase_of a) (phrase a h.0))
      (fitted (right_least o) (phrase_of b) (phrase b h.1))
  phrase (Apply f es) h = list (name_of_function f) (arguments es) (function f) (some_arguments es h)
  phrase (Constructor es ls) h = absurd h
  phrase (Spread a n e) h = absurd h
  phrase (Transpose a) h = absurd h
  phrase (Reshape a es) h = absurd h
  phrase (Reduce r a) h = absurd h

  some_parts : (ss : Subscripts) → AreOver ArePrintable ss → SomePrinted (printed_parts_of ss)
  some_parts no_subscripts h = tt
  some_parts (subscript s ss) h = further_parts (One (list_part_of s)) ss (one_part s h.0) h.1

  one_part : (s : Subscript) → OneIsOver ArePrintable s → ArePrintable (part_text (list_part_of s))
  one_part (Only e) h = phrase e h
  one_part (Section a b c) h = absurd h

  further_parts : (ps : ListParts) (ss : Subscripts) → ArePrinted ps → AreOver ArePrintable ss → ArePrinted (more_parts ps ss)
  further_parts ps no_subscripts k h = k
  further_parts ps (subscript s ss) k h = further_parts (Then ps (list_part_of s)) ss (behind ps (list_part_of s) k (one_part s h.0)) h.1

  some_arguments : (es : Expressions) → EachIsOver ArePrintable es → SomePrinted (arguments es)
  some_arguments no_expressions h = tt
  some_arguments (expression e es) h = further_arguments (One (Value (phrase_of e))) es (phrase e h.0) h.1

  further_arguments : (ps : ListParts) (es : Expressions) → ArePrinted ps → EachIsOver ArePrintable es → ArePrinted (more_arguments ps es)
  further_arguments ps no_expressions k h = k
  further_arguments ps (expression e es) k h =
      further_arguments (Then ps (Value (phrase_of e))) es (behind ps (Value (phrase_of e)) k (phrase e h.0)) h.1

pub expression_printable : (e : Expression) → IsOver ArePrintable e → ArePrintable (expression_text e)
expression_printable e h = phrase e h

-- ---- statements

guard : (o : Option Expression) → GuardIsOver ArePrintable o → ArePrintable (guard_text o)
guard None h = tt
guard (Some e) h =
    both (codes "IF ") (in_parentheses (expression_text e) ++ codes " ") (word (codes "IF ") refl)
    (both (in_parentheses (expression_text e)) (codes " ") (enclosed (expression_text e) (phrase e h)) (word (codes " ") refl))

pub statement_printable : (s : Guarded) → IsStatementOver ArePrintable s → ArePrintable (guarded_assignment_text s.guard s.left s.right)
statement_printable s h =
    let left = phrase_text (reference_phrase s.left) in
    let right = phrase_text (phrase_of s.right) in
    both (guard_text s.guard) (left ++ (codes " = " ++ right)) (guard s.guard h.guard)
    (both left (codes " = " ++ right) (phrase (Named s.left.name s.left.subscripts) (h.name, h.left))
    (both (codes " = ") right (word (codes " = ") refl) (phrase s.right h.right)))
