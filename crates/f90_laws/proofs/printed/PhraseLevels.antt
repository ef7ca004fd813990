-- What is printed for an expression whose kinds suit is an expression by the levels of its operators, and its names and
-- literals are words.
use Rattle.std.proofs.Common.{◌≡◌, refl, subst, arith, ℕ, ◌+◌, ◌<◌, ◌≤◌, ◌^◌, ℤ, pos, negsuc, Bool, true, false, not, ◌||◌, cond, IsTrue, Some, List, [], ◌∷◌, ◌++◌, codes, length}
use Rattle.std.specs.Prelude.{nat_le, decimal, ◌==◌, ◌%◌}
use Rattle.std.specs.Option.{IsSomeAnd}
use Rattle.std.specs.List.{AllByRecursion, list_all}
use Rattle.std.specs.Str.{bytes_eq}
use Rattle.std.proofs.lemmas.Bool.{cond_both, and_parts, leb-true}
use Rattle.std.proofs.lemmas.Bool.Decides.{nat_tests}
use Rattle.std.proofs.lemmas.Slice.Eq.{bytes_eq-Decides}
use Rattle.std.proofs.lemmas.Fmt.{decimal_by_steps_wide}
use Rattle.tree.specs.declared.functions.Fun.{Fun}
use Rattle.tree.specs.declared.functions.Fun.TheVariants.{Abs, Mod, Max, Min}
use Rattle.tree.specs.declared.functions.Red.{Red}
use Rattle.tree.specs.declared.functions.Red.TheVariants.{Sum, MaxVal, MinVal}
use Rattle.tree.specs.declared.ops.Op.{Op}
use Rattle.tree.specs.declared.ops.Op.TheVariants.{Pow, Neg, Sub, Lt, Le, Eq, Ne, Gt, Ge, Not, And, Or, Eqv, Neqv}
use Rattle.tree.specs.declared.ops.Kind.{Kind}
use Rattle.tree.specs.declared.ops.Kind.TheVariants.{Integer, Logical}
use Rattle.tree.specs.Functions.{name_of_function, name_of_reduction}
use Rattle.tree.specs.OperatorTable.{stands_between, is_unary, operand_kind, result_kind_of, left_least, right_least, may_follow}
use Rattle.tree.specs.Plain as tree
use Rattle.tree.specs.Plain.{Expression, Expressions, Subscript, Subscripts, Loops, Declaration}
use Rattle.meaning.specs.SymbolicNames.{IsLongName, is_letter}
use Rattle.meaning.specs.Profile90.{IsDeclaration}
use Rattle.meaning.specs.Typed.{declared, number_of_arguments, IsLiteral}
use Rattle.meaning.specs.Typed90.{HasKind, AreArguments, AreScalars, AreSubscripts, IsSubscript, AreLoops}
use Rattle.f90_grammar.specs.Words.{IsName90, goes_on90}
use Rattle.reading.specs.Characters.{IsDigits, Pass, is_digit}
use Rattle.f90_grammar.specs.Phrases.{Phrase90, Paren, Joined, Value, ListPart, ListParts, One, Then, Phrases90, Sole, More, Turn, Innermost, Round, phrase_level90, begins_with_sign90, IsExpression90, IsPart, AreParts, AreExpressions90, IsTurn}
use Rattle.f90_grammar.specs.Printing.{fit, unary_phrase, digits_of, is_one, section_part, phrase_of, list_part_of, more_parts, more_arguments, more_values, rounds}
use Rattle.f90_laws.proofs.printed.PhraseWords.{IsWorded, PartIsWorded, PartsAreWorded, ValuesAreWorded, TurnIsWorded}

-- ---- names and numbers

name_goes_on : (c : ℕ) → (is_letter c || is_digit c || c == 95) ≡ true → goes_on90 c ≡ true
name_goes_on c h = grind (arith, nat_tests)

name_passes : (cs : List ℕ) → list_all (λ c. is_letter c || is_digit c || c == 95) cs ≡ true → Pass goes_on90 cs
name_passes [] h = tt
name_passes (c ∷ cs) h = let k = and_parts (is_letter c || is_digit c || c == 95) (list_all (λ c. is_letter c || is_digit c || c == 95) cs) h in (name_goes_on c k.0, name_passes cs k.1)

pub long_name : (x : List ℕ) → IsLongName x → IsName90 x
long_name [] h = let e = h.begins in absurd cc
long_name (c ∷ cs) h =
    let within : length (c ∷ cs) ≤ 31 = h.within in
    (h.begins, name_passes cs (and_parts (is_letter c || is_digit c || c == 95) (list_all (λ c. is_letter c || is_digit c || c == 95) cs) h.goes_on).1, omega arith)

passes_test : (cs : List ℕ) → list_all goes_on90 cs ≡ true → Pass goes_on90 cs
passes_test [] h = tt
passes_test (c ∷ cs) h = let k = and_parts (goes_on90 c) (list_all goes_on90 cs) h in (k.0, passes_test cs k.1)

-- of texts that are written out
pub text_name : (c : ℕ) (cs : List ℕ) → is_letter c ≡ true → list_all goes_on90 cs ≡ true → nat_le (length cs) 30 ≡ true → IsName90 (c ∷ cs)
text_name c cs h g k = (h, passes_test cs g, leb-true (length cs) 30 k)

-- a declared name is a name
pub declared_name : (ds : List Declaration) (x : List ℕ) (P : Declaration → Type 0) → AllByRecursion IsDeclaration ds → IsSomeAnd (declared ds x) P → IsName90 x
declared_name [] x P h g = absurd g
declared_name (d ∷ ds) x P h g = by (bytes_eq d.name x) refl (declared_name ds x P h.1) g
  where
    by : (b : Bool) → bytes_eq d.name x ≡ b → (IsSomeAnd (declared ds x) P → IsName90 x) → IsSomeAnd (cond b (Some d) (declared ds x)) P → IsName90 x
    by true e more k = subst IsName90 ((bytes_eq-Decides d.name x).0 e) (long_name d.name h.0.name)
    by false e more k = more k

digit : (n : ℕ) → n < 10 → is_digit (48 + n) ≡ true
digit n h = grind (arith, nat_tests)

digits_more : (ds : List ℕ) (c : ℕ) → IsDigits ds → is_digit c ≡ true → IsDigits (ds ++ c ∷ [])
digits_more [] c h g = absurd h
digits_more (d ∷ ds) c h g = (h.0, passes ds h.1)
  where
    passes : (ds : List ℕ) → Pass is_digit ds → Pass is_digit (ds ++ c ∷ [])
    passes [] k = (g, tt)
    passes (e ∷ es) k = (k.0, passes es k.1)

pub decimal_digits : (n : ℕ) → n < 2 ^ 127 → IsDigits (decimal n)
decimal_digits n h = decimal_by_steps_wide (λ n ds. IsDigits ds) (λ n k. (digit n k, tt)) (λ n ds k d. digits_more ds (48 + n % 10) d (digit (n % 10) (omega arith))) n (omega arith)

literal_digits : (n : ℤ) → IsLiteral n → IsDigits (digits_of n)
literal_digits (pos n) h = decimal_digits n h
literal_digits (negsuc n) h = absurd h

function_name : (f : Fun) → IsName90 (name_of_function f)
function_name Abs = text_name 65 (codes "BS") refl refl refl
function_name Mod = text_name 77 (codes "OD") refl refl refl
function_name Max = text_name 77 (codes "AX") refl refl refl
function_name Min = text_name 77 (codes "IN") refl refl refl

reduction_name : (r : Red) → IsName90 (name_of_reduction r)
reduction_name Sum = text_name 83 (codes "UM") refl refl refl
reduction_name MaxVal = text_name 77 (codes "AXVAL") refl refl refl
reduction_name MinVal = text_name 77 (codes "INVAL") refl refl refl

-- ---- phrases that are expressions and whose names are names

abbrev pub IsGood : Phrase90 → Type 0
IsGood p = IsExpression90 p × IsWorded p

abbrev PartIsGood : ListPart → Type 0
PartIsGood p = IsPart p × PartIsWorded p

abbrev PartsAreGood : ListParts → Type 0
PartsAreGood ps = AreParts ps × PartsAreWorded ps

abbrev ValuesAreGood : Phrases90 → Type 0
ValuesAreGood ps = AreExpressions90 ps × ValuesAreWorded ps

abbrev TurnIsGood : Turn → Type 0
TurnIsGood t = IsTurn t × TurnIsWorded t

fit_good : (n : ℕ) (p : Phrase90) → IsGood p → IsGood (fit n p)
fit_good n p h = cond_both (nat_le n (phrase_level90 p)) p (Paren p) IsGood (λ e. h) (λ e. h)

fit_level : (n : ℕ) (p : Phrase90) → n ≤ 10 → n ≤ phrase_level90 (fit n p)
fit_level n p h = cond_both (nat_le n (phrase_level90 p)) p (Paren p) (λ q. n ≤ phrase_level90 q) (λ e. leb-true n (phrase_level90 p) e) (λ e. h)

fit_unsigned : (n : ℕ) (p : Phrase90) → begins_with_sign90 p ≡ false → begins_with_sign90 (fit n p) ≡ false
fit_unsigned n p h = cond_both (nat_le n (phrase_level90 p)) p (Paren p) (λ q. begins_with_sign90 q ≡ false) (λ e. h) (λ e. refl)

left_within : (o : Op) → left_least o ≤ 10
left_within Pow = omega arith
left_within o = omega arith

right_within : (o : Op) → right_least o ≤ 10
right_within Pow = omega arith
right_within o = omega arith

section_good : (t : Bool) (a b c : Phrase90) → IsGood a → IsGood b → IsGood c → PartIsGood (section_part t a b c)
section_good true a b c h g k = ((h.0, g.0), (h.1, g.1))
section_good false a b c h g k = ((h.0, g.0, k.0), (h.1, g.1, k.1))

-- ---- signs: no operand of a logical operator begins with one

may : (o : Op) (b : Bool) → (operand_kind o ≡ Logical → b ≡ false) → IsTrue (may_follow o b)
may o false h = refl
may Not true h = let e = h refl in absurd cc
may And true h = let e = h refl in absurd cc
may Or true h = let e = h refl in absurd cc
may Eqv true h = let e = h refl in absurd cc
may Neqv true h = let e = h refl in absurd cc
may o true h = refl

unary_good : (o : Op) (p : Phrase90) → IsTrue (is_unary o) → (operand_kind o ≡ Logical → begins_with_sign90 p ≡ false) → IsGood p → IsGood (unary_phrase o p)
unary_good Neg p h s g = let f = fit_good 8 p g in ((fit_level 8 p (omega arith), may Sub (begins_with_sign90 (fit 8 p)) (λ e. absurd cc), f.0), f.1)
unary_good Not p h s g = let f = fit_good 6 p g in ((fit_level 6 p (omega arith), may Not (begins_with_sign90 (fit 6 p)) (λ e. fit_unsigned 6 p (s refl)), f.0), f.1)
unary_good o p h s g = absurd cc

between : (o : Op) → IsTrue (not (is_unary o)) → IsTrue (stands_between o)
between Neg h = cc
between Not h = cc
between o h = refl

joined_unsigned : (o : Op) (p q : Phrase90) → Logical ≡ result_kind_of o → IsTrue (not (is_unary o)) → (operand_kind o ≡ Logical → begins_with_sign90 p ≡ false) → begins_with_sign90 (Joined o p q) ≡ false
joined_unsigned Lt p q k h s = refl
joined_unsigned Le p q k h s = refl
joined_unsigned Eq p q k h s = refl
joined_unsigned Ne p q k h s = refl
joined_unsigned Gt p q k h s = refl
joined_unsigned Ge p q k h s = refl
joined_unsigned And p q k h s = s refl
joined_unsigned Or p q k h s = s refl
joined_unsigned Eqv p q k h s = s refl
joined_unsigned Neqv p q k h s = s refl
joined_unsigned Not p q k h s = absurd cc
joined_unsigned o p q k h s = absurd cc

module _ (ds : List Declaration) where
  unsigned : (e : Expression) → HasKind ds e Logical → begins_with_sign90 (phrase_of e) ≡ false
  unsigned (tree.Number n) h = let e : Logical ≡ Integer = h.1 in absurd cc
  unsigned (tree.Logic b) h = refl
  unsigned (tree.Named x tree.no_subscripts) h = refl
  unsigned (tree.Named x (tree.subscript s ss)) h = refl
  unsigned (tree.Unary Neg a) h = let e : Logical ≡ Integer = h.1 in absurd cc
  unsigned (tree.Unary Not a) h = refl
  unsigned (tree.Unary o a) h = let e = h.0 in absurd cc
  unsigned (tree.Binary o a b) h =
      joined_unsigned o (fit (left_least o) (phrase_of a)) (fit (right_least o) (phrase_of b)) h.1 h.0
      (λ e. fit_unsigned (left_least o) (phrase_of a) (unsigned a (subst (HasKind ds a) e h.2)))
  unsigned (tree.Apply f tree.no_expressions) h = refl
  unsigned (tree.Apply f (tree.expression e es)) h = refl
  unsigned (tree.Constructor tree.no_expressions tree.no_loops) h = refl
  unsigned (tree.Constructor (tree.expression e es) tree.no_loops) h = refl
  unsigned (tree.Constructor es (tree.loop x a b ls)) h = refl
  unsigned (tree.Spread a d n) h = refl
  unsigned (tree.Transpose a) h = refl
  unsigned (tree.Reshape a es) h = refl
  unsigned (tree.Reduce r a) h = refl

-- ---- expressions

module _ (ds : List Declaration) (names : AllByRecursion IsDeclaration ds) where
  mutual
    pub good : (e : Expression) (k : Kind) → HasKind ds e k → IsGood (phrase_of e)
    good (tree.Number n) k h = (tt, literal_digits n h.0)
    good (tree.Logic b) k h = (tt, tt)
    good (tree.Named x tree.no_subscripts) k h = (tt, declared_name ds x _ names h.0)
    good (tree.Named x (tree.subscript s ss)) k h =
        let g = parts_good (One (list_part_of s)) ss (part_good s h.1.0) h.1.1 in
        (g.0, (declared_name ds x _ names h.0, g.1))
    good (tree.Unary o a) k h =
        unary_good o (phrase_of a) h.0 (λ e. unsigned ds a (subst (HasKind ds a) e h.2)) (good a (operand_kind o) h.2)
    good (tree.Binary o a b) k h =
        let l = fit_good (left_least o) (phrase_of a) (good a (operand_kind o) h.2) in
        let r = fit_good (right_least o) (phrase_of b) (good b (operand_kind o) h.3) in (
          (
            between o h.0,
            fit_level (left_least o) (phrase_of a) (left_within o),
            fit_level (right_least o) (phrase_of b) (right_within o),
            may o (begins_with_sign90 (fit (right_least o) (phrase_of b))) (λ e. fit_unsigned (right_least o) (phrase_of b) (unsigned ds b (subst (HasKind ds b) e h.3))),
            l.0,
            r.0,
          ),
          (between o h.0, l.1, r.1),
        )
    good (tree.Apply f tree.no_expressions) k h = (tt, function_name f)
    good (tree.Apply f (tree.expression e es)) k h =
        let g = arguments_good (One (Value (phrase_of e))) es (good e Integer h.3.0) h.3.2 in
        (g.0, (function_name f, g.1))
    good (tree.Constructor tree.no_expressions tree.no_loops) k h = (tt, tt)
    good (tree.Constructor (tree.expression e es) tree.no_loops) k h = values_good (Sole (phrase_of e)) es k (good e k h.0.0.0) h.0.1
    good (tree.Constructor tree.no_expressions (tree.loop x a b ls)) k h = let n : ◌≡◌ {A = ℕ} 0 1 = h.1 in absurd (omega arith)
    good (tree.Constructor (tree.expression e tree.no_expressions) (tree.loop x a b ls)) k h =
        let v = good e k h.0.0.0 in
        let p = good a Integer h.2.1.0 in
        let q = good b Integer h.2.2.0 in
        turn_good (Innermost (phrase_of e) x (phrase_of a) (phrase_of b)) ls ((v.0, p.0, q.0), (v.1, declared_name ds x _ names h.2.0, p.1, q.1)) h.2.3
    good (tree.Constructor (tree.expression e (tree.expression f es)) (tree.loop x a b ls)) k h = let n : 1 + (1 + number_of_arguments es) ≡ 1 = h.1 in absurd (omega arith)
    good (tree.Spread a d n) k h =
        let p = good a k h.4 in
        let q = good n Integer h.5 in
        (((p.0, tt), q.0), (text_name 83 (codes "PREAD") refl refl refl, ((p.1, decimal_digits d (omega (arith, h.2, h.3))), q.1)))
    good (tree.Transpose a) k h = let p = good a k h.2 in (p.0, (text_name 84 (codes "RANSPOSE") refl refl refl, p.1))
    good (tree.Reshape a tree.no_expressions) k h = let p = good a k h.4 in ((p.0, tt), (text_name 82 (codes "ESHAPE") refl refl refl, (p.1, tt)))
    good (tree.Reshape a (tree.expression e es)) k h =
        let p = good a k h.4 in
        let v = values_good (Sole (phrase_of e)) es Integer (good e Integer h.5.0.0) h.5.1 in
        ((p.0, v.0), (text_name 82 (codes "ESHAPE") refl refl refl, (p.1, v.1)))
    good (tree.Reduce r a) k h = let p = good a Integer h.3 in (p.0, (reduction_name r, p.1))

    part_good : (s : Subscript) → IsSubscript ds s → PartIsGood (list_part_of s)
    part_good (tree.Only e) h = good e Integer h.0
    part_good (tree.Section a b c) h =
        section_good (is_one c) (phrase_of a) (phrase_of b) (phrase_of c) (good a Integer h.0.0) (good b Integer h.1.0) (good c Integer h.2.0)

    parts_good : (ps : ListParts) (ss : Subscripts) → PartsAreGood ps → AreSubscripts ds ss → PartsAreGood (more_parts ps ss)
    parts_good ps tree.no_subscripts g h = g
    parts_good ps (tree.subscript s ss) g h = let p = part_good s h.0 in parts_good (Then ps (list_part_of s)) ss ((g.0, p.0), (g.1, p.1)) h.1

    arguments_good : (ps : ListParts) (es : Expressions) → PartsAreGood ps → AreArguments ds es → PartsAreGood (more_arguments ps es)
    arguments_good ps tree.no_expressions g h = g
    arguments_good ps (tree.expression e es) g h =
        let p = good e Integer h.0 in arguments_good (Then ps (Value (phrase_of e))) es ((g.0, p.0), (g.1, p.1)) h.2

    values_good : (ps : Phrases90) (es : Expressions) (k : Kind) → ValuesAreGood ps → AreScalars ds es k → ValuesAreGood (more_values ps es)
    values_good ps tree.no_expressions k g h = g
    values_good ps (tree.expression e es) k g h =
        let p = good e k h.0.0 in values_good (More ps (phrase_of e)) es k ((g.0, p.0), (g.1, p.1)) h.1

    turn_good : (t : Turn) (ls : Loops) → TurnIsGood t → AreLoops ds ls → TurnIsGood (rounds t ls)
    turn_good t tree.no_loops g h = g
    turn_good t (tree.loop x a b ls) g h =
        let p = good a Integer h.1.0 in
        let q = good b Integer h.2.0 in
        turn_good (Round t x (phrase_of a) (phrase_of b)) ls ((g.0, p.0, q.0), (g.1, declared_name ds x _ names h.0, p.1, q.1)) h.3
