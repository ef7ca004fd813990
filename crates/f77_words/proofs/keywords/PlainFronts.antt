-- The characters of a word: plain ones, and one that counts at its end.
use Rattle.std.proofs.Common.{◌≡◌, ℕ, Bool, true, false, List, [], ◌∷◌, ◌++◌, refl, ap, sym, ◌∙◌, IsTrue, codes, append-nil, arith}
use Rattle.std.specs.Prelude.{◌==◌, ◌||◌, ◌&&◌, not}
use Rattle.std.proofs.lemmas.List.{map-append}
use Rattle.std.proofs.lemmas.Bool.Decides.{nat_tests}
use Rattle.tree.specs.declared.ops.Op.{Op}
use Rattle.tree.specs.declared.ops.Op.TheVariants.{Pow, Mul, Div, Neg, Add, Sub, Lt, Le, Eq, Ne, Gt, Ge, Not, And, Or, Eqv, Neqv}
use Rattle.f77_grammar.specs.expressions.Squeezing.{Symbol77, Char, Text, Broken}
use Rattle.f77_grammar.specs.expressions.Words as words
use Rattle.f77_grammar.specs.expressions.Words.{Word77}
use Rattle.f77_grammar.specs.expressions.Spelling.{is_letter_or_digit, IsName77, Spelled77, chars77, SpelledBy77}
use Rattle.reading.specs.Characters.{is_digit, is_letter, Pass, IsDigits}
use Rattle.f77_grammar.specs.statements.Recognition as recognition
use Rattle.f77_grammar.specs.statements.Recognition.{bracket_of, bracket_in, is_equals}
use Rattle.f77_words.specs.keywords.Outside.{character_is}
use Rattle.f77_words.proofs.keywords.Marks.{Mark, Opening, Plain, mark_of, sign_of}
use Rattle.tree.specs.OperatorTable.{spelling77_of}

-- no parenthesis, comma or equals sign
abbrev pub is_plain : Symbol77 → Bool
is_plain (Char c) = not (c == 40 || c == 41 || c == 44 || c == 61)
is_plain (Text t) = true
is_plain Broken = true

abbrev pub are_plain : List Symbol77 → Bool
are_plain [] = true
are_plain (s ∷ ss) = is_plain s && are_plain ss

-- What a plain symbol does: nothing
pub record IsPlain (s : Symbol77) : Type 0 where
  pub bracket : bracket_of s ≡ recognition.Neither
  pub no_equals : is_equals s ≡ false
  pub no_sign : character_is 61 s ≡ false
  pub no_comma : character_is 44 s ≡ false

plain_by : (c : ℕ) (o p k e : Bool) → (c == 40) ≡ o → (c == 41) ≡ p → (c == 44) ≡ k → (c == 61) ≡ e → not (o || p || k || e) ≡ true → IsPlain (Char c)
plain_by c true p k e a b d f h = let z : ⊥ = cc in absurd z
plain_by c false true k e a b d f h = let z : ⊥ = cc in absurd z
plain_by c false false true e a b d f h = let z : ⊥ = cc in absurd z
plain_by c false false false true a b d f h = let z : ⊥ = cc in absurd z
plain_by c false false false false a b d f h = record { bracket = rw (a, b) refl; no_equals = f; no_sign = f; no_comma = d }

pub plain_is : (s : Symbol77) → is_plain s ≡ true → IsPlain s
plain_is (Char c) h = plain_by c (c == 40) (c == 41) (c == 44) (c == 61) refl refl refl refl h
plain_is (Text t) h = record { bracket = refl; no_equals = refl; no_sign = refl; no_comma = refl }
plain_is Broken h = record { bracket = refl; no_equals = refl; no_sign = refl; no_comma = refl }

pub both_true : (a b : Bool) → (a && b) ≡ true → (a ≡ true) × (b ≡ true)
both_true true b h = (refl, h)
both_true false b h = let z : ⊥ = cc in absurd z

letter_plain : (c : ℕ) → IsTrue (is_letter_or_digit c) → is_plain (Char c) ≡ true
letter_plain c h = grind (arith, nat_tests)

first_plain : (c : ℕ) → IsTrue (is_letter c) → is_plain (Char c) ≡ true
first_plain c h = grind (arith, nat_tests)

digit_plain : (c : ℕ) → IsTrue (is_digit c) → is_plain (Char c) ≡ true
digit_plain c h = grind (arith, nat_tests)

pass_plain : (cs : List ℕ) → Pass is_letter_or_digit cs → are_plain (chars77 cs) ≡ true
pass_plain [] h = refl
pass_plain (c ∷ cs) h = rw (letter_plain c h.0) (pass_plain cs h.1)

pub digits_pass_plain : (cs : List ℕ) → Pass is_digit cs → are_plain (chars77 cs) ≡ true
digits_pass_plain [] h = refl
digits_pass_plain (c ∷ cs) h = rw (digit_plain c h.0) (digits_pass_plain cs h.1)

pub digits_plain : (cs : List ℕ) → IsDigits cs → are_plain (chars77 cs) ≡ true
digits_plain [] h = absurd h
digits_plain (c ∷ cs) h = digits_pass_plain (c ∷ cs) h

pub name_plain : (x : List ℕ) → IsName77 x → are_plain (chars77 x) ≡ true
name_plain [] h = absurd h
name_plain (c ∷ cs) h = rw (first_plain c h.0) (pass_plain cs h.1)

-- the front of a word with this mark
pub record HasMark (front : List Symbol77) (k : Mark) : Type 0 where
  pub plain : List Symbol77
  pub same : front ≡ plain ++ sign_of k
  pub are_plain : are_plain plain ≡ true

all_plain : (front : List Symbol77) (cs : List ℕ) → front ≡ chars77 cs → are_plain (chars77 cs) ≡ true → HasMark front Plain
all_plain front cs e h = record { plain = chars77 cs; same = e ∙ sym (append-nil (chars77 cs)); are_plain = h }

of_name : (front : List Symbol77) (cs x : List ℕ) → front ≡ chars77 cs → cs ≡ x → IsName77 x → HasMark front Plain
of_name front cs x e f n = all_plain front x (e ∙ ap chars77 f) (name_plain x n)

of_head : (front : List Symbol77) (cs x : List ℕ) → front ≡ chars77 cs → cs ≡ x ++ codes "(" → IsName77 x → HasMark front Opening
of_head front cs x e f n = record { plain = chars77 x; same = e ∙ (ap chars77 f ∙ map-append Char x (codes "(")); are_plain = name_plain x n }

of_operator : (o : Op) (front : List Symbol77) (cs : List ℕ) → front ≡ chars77 cs → Spelled77 (words.Operator o) cs → HasMark front Plain
of_operator Pow front cs e s = all_plain front (spelling77_of Pow) (e ∙ ap chars77 s) refl
of_operator Mul front cs e s = all_plain front (spelling77_of Mul) (e ∙ ap chars77 s) refl
of_operator Div front cs e s = all_plain front (spelling77_of Div) (e ∙ ap chars77 s) refl
of_operator Neg front cs e s = absurd s
of_operator Add front cs e s = all_plain front (spelling77_of Add) (e ∙ ap chars77 s) refl
of_operator Sub front cs e s = all_plain front (spelling77_of Sub) (e ∙ ap chars77 s) refl
of_operator Lt front cs e s = all_plain front (spelling77_of Lt) (e ∙ ap chars77 s) refl
of_operator Le front cs e s = all_plain front (spelling77_of Le) (e ∙ ap chars77 s) refl
of_operator Eq front cs e s = all_plain front (spelling77_of Eq) (e ∙ ap chars77 s) refl
of_operator Ne front cs e s = all_plain front (spelling77_of Ne) (e ∙ ap chars77 s) refl
of_operator Gt front cs e s = all_plain front (spelling77_of Gt) (e ∙ ap chars77 s) refl
of_operator Ge front cs e s = all_plain front (spelling77_of Ge) (e ∙ ap chars77 s) refl
of_operator Not front cs e s = all_plain front (spelling77_of Not) (e ∙ ap chars77 s) refl
of_operator And front cs e s = all_plain front (spelling77_of And) (e ∙ ap chars77 s) refl
of_operator Or front cs e s = all_plain front (spelling77_of Or) (e ∙ ap chars77 s) refl
of_operator Eqv front cs e s = all_plain front (spelling77_of Eqv) (e ∙ ap chars77 s) refl
of_operator Neqv front cs e s = all_plain front (spelling77_of Neqv) (e ∙ ap chars77 s) refl

pub has_mark : (w : Word77) (front : List Symbol77) → SpelledBy77 w front → HasMark front (mark_of w)
has_mark (words.Number n) front s = all_plain front s.0 s.1 (digits_plain s.0 s.2.0)
has_mark words.Wide front s = all_plain front s.0 s.1 (digits_plain s.0 s.2.0)
has_mark (words.Truth true) front s = all_plain front (codes ".TRUE.") (s.1 ∙ ap chars77 s.2) refl
has_mark (words.Truth false) front s = all_plain front (codes ".FALSE.") (s.1 ∙ ap chars77 s.2) refl
has_mark (words.Name x) front s = of_name front s.0 x s.1 s.2.0 s.2.1
has_mark (words.Head x) front s = of_head front s.0 x s.1 s.2.0 s.2.1
has_mark (words.Operator o) front s = of_operator o front s.0 s.1 s.2
has_mark words.Open front s = record { plain = []; same = s.1 ∙ ap chars77 s.2; are_plain = refl }
has_mark words.Close front s = record { plain = []; same = s.1 ∙ ap chars77 s.2; are_plain = refl }
has_mark words.Comma front s = record { plain = []; same = s.1 ∙ ap chars77 s.2; are_plain = refl }
has_mark words.Equals front s = record { plain = []; same = s.1 ∙ ap chars77 s.2; are_plain = refl }
has_mark words.Colon front s = all_plain front (codes ":") (s.1 ∙ ap chars77 s.2) refl
has_mark (words.Constant t) front s = record { plain = Text t ∷ []; same = s; are_plain = refl }
