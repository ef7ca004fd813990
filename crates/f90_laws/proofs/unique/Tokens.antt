-- No symbols have two lists of words.
use Rattle.std.proofs.Common.{arith, ◌≡◌, ℕ, Bool, true, false, ◌||◌, List, [], ◌∷◌, ◌++◌, refl, sym, ap, subst, ◌∙◌, append_assoc, Option, Some, None, codes, ◌⊎◌, inl, inr}
use mathlib.Core.Path.{ap₂}
use Rattle.std.specs.Prelude.{◌==◌, if◌then◌else◌}
use Rattle.std.specs.Str.{bytes_eq}
use Rattle.std.proofs.lemmas.Bool.Decides.{nat_tests}
use Rattle.tree.specs.declared.ops.Op.{Op}
use Rattle.tree.specs.declared.ops.Op.TheVariants.{Pow, Mul, Div, Neg, Add, Sub, Lt, Le, Eq, Ne, Gt, Ge, Not, And, Or, Eqv, Neqv}
use Rattle.tree.specs.OperatorTable.{spelling77_of, spelling90_of}
use Rattle.f90_grammar.specs.Words as words
use Rattle.f90_grammar.specs.Words.{Word90, Symbol90, Char, Gap, Text, AreWords90, SpelledBy90, Spelled90, IsWhole90, Stops90, HasNoParenthesis, AreGaps, Begins90, IsName90, chars90, goes_on90, HasWords}
use Rattle.reading.specs.Characters.{Pass, IsDigits, is_letter, is_digit}
use Rattle.f90_laws.specs.unique.Unique.{OneWords}
use Rattle.f90_laws.proofs.unique.Symbols.{symbols_once}

record Taken : Type 0 where
  pub word : Word90
  pub rest : List Symbol90

abbrev taken : Word90 → List Symbol90 → Option Taken
taken w r = Some (record { word = w; rest = r })

-- ---- names and numbers

record Cut : Type 0 where
  pub front : List ℕ
  pub behind : List Symbol90

abbrev cut_of : List ℕ → List Symbol90 → Cut
cut_of cs ss = record { front = cs; behind = ss }

abbrev with_char : ℕ → Cut → Cut
with_char c k = cut_of (c ∷ k.front) k.behind

abbrev run : List Symbol90 → Cut
run [] = cut_of [] []
run (Char c ∷ ss) = if goes_on90 c then with_char c (run ss) else cut_of [] (Char c ∷ ss)
run (Gap ∷ ss) = cut_of [] (Gap ∷ ss)
run (Text t ∷ ss) = cut_of [] (Text t ∷ ss)

runs : (cs : List ℕ) (rest : List Symbol90) → Pass goes_on90 cs → Stops90 goes_on90 rest → run (chars90 cs ++ rest) ≡ cut_of cs rest
runs [] [] p s = refl
runs [] (Char c ∷ rest) p s = rw s refl
runs [] (Gap ∷ rest) p s = refl
runs [] (Text t ∷ rest) p s = refl
runs (c ∷ cs) rest p s = rw p.0 (ap (with_char c) (runs cs rest p.1 s))

abbrev skip : List Symbol90 → List Symbol90
skip (Gap ∷ ss) = skip ss
skip ss = ss

abbrev parenthesis : List ℕ → List Symbol90 → List Symbol90 → Option Taken
parenthesis x (Char c ∷ ss) behind = if c == 47 then taken (words.Name x) behind else taken (words.Head x) (Char c ∷ ss)
parenthesis x ss behind = taken (words.Head x) ss

abbrev name_or_head : List ℕ → List Symbol90 → List Symbol90 → Option Taken
name_or_head x (Char c ∷ ss) behind = if c == 40 then parenthesis x ss behind else taken (words.Name x) behind
name_or_head x ss behind = taken (words.Name x) behind

abbrev named : Cut → Option Taken
named k = name_or_head k.front (skip k.behind) k.behind

abbrev numbered : Cut → Option Taken
numbered k = taken (words.Digits k.front) k.behind

-- ---- signs and words between dots

abbrev pair : ℕ → Word90 → Word90 → List Symbol90 → Option Taken
pair d long short (Char c ∷ ss) = if c == d then taken long ss else taken short (Char c ∷ ss)
pair d long short ss = taken short ss

abbrev slash : List Symbol90 → Option Taken
slash (Char c ∷ ss) = if c == 61 then taken (words.Operator Ne) ss else (if c == 41 then taken words.CloseList ss
    else taken (words.Operator Div) (Char c ∷ ss))
slash ss = taken (words.Operator Div) ss

abbrev dotted_word : List ℕ → List Symbol90 → Option Taken
dotted_word x ss =
    if bytes_eq x (codes "TRUE") then taken (words.Truth true) ss else (
    if bytes_eq x (codes "FALSE") then taken (words.Truth false) ss else (
    if bytes_eq x (codes "LT") then taken (words.Operator Lt) ss else (
    if bytes_eq x (codes "LE") then taken (words.Operator Le) ss else (
    if bytes_eq x (codes "EQ") then taken (words.Operator Eq) ss else (
    if bytes_eq x (codes "NE") then taken (words.Operator Ne) ss else (
    if bytes_eq x (codes "GT") then taken (words.Operator Gt) ss else (
    if bytes_eq x (codes "GE") then taken (words.Operator Ge) ss else (
    if bytes_eq x (codes "NOT") then taken (words.Operator Not) ss else (
    if bytes_eq x (codes "AND") then taken (words.Operator And) ss else (
    if bytes_eq x (codes "OR") then taken (words.Operator Or) ss else (
    if bytes_eq x (codes "EQV") then taken (words.Operator Eqv) ss else (
    if bytes_eq x (codes "NEQV") then taken (words.Operator Neqv) ss else None))))))))))))

abbrev behind_dot : List ℕ → List Symbol90 → Option Taken
behind_dot x (Char c ∷ ss) = dotted_word x ss
behind_dot x ss = None

abbrev dotted : Cut → Option Taken
dotted k = behind_dot k.front k.behind

abbrev sign : ℕ → List Symbol90 → Option Taken
sign c ss =
    if c == 40 then pair 47 words.OpenList words.Open ss else (
    if c == 41 then taken words.Close ss else (
    if c == 44 then taken words.Comma ss else (
    if c == 61 then pair 61 (words.Operator Eq) words.Equals ss else (
    if c == 58 then pair 58 words.Colons words.Colon ss else (
    if c == 42 then pair 42 (words.Operator Pow) (words.Operator Mul) ss else (
    if c == 43 then taken (words.Operator Add) ss else (
    if c == 45 then taken (words.Operator Sub) ss else (
    if c == 60 then pair 61 (words.Operator Le) (words.Operator Lt) ss else (
    if c == 62 then pair 61 (words.Operator Ge) (words.Operator Gt) ss else (
    if c == 47 then slash ss else (
    if c == 46 then dotted (run ss) else None)))))))))))

abbrev letter_or_sign : ℕ → List Symbol90 → Option Taken
letter_or_sign c ss = if is_letter c then named (run (Char c ∷ ss)) else sign c ss

-- the first word and what stands behind it
abbrev next : List Symbol90 → Option Taken
next [] = None
next (Gap ∷ ss) = next ss
next (Text t ∷ ss) = taken (words.Constant t) ss
next (Char c ∷ ss) = if is_digit c then numbered (run (Char c ∷ ss)) else letter_or_sign c ss

-- ---- each word is the next one where it stands

chosen : (b : Bool) (x y : Option Taken) → b ≡ true → (if b then x else y) ≡ x
chosen true x y e = refl
chosen false x y e = absurd (cc)

refused : (b : Bool) (x y : Option Taken) → b ≡ false → (if b then x else y) ≡ y
refused true x y e = absurd (cc)
refused false x y e = refl

letter_on : (c : ℕ) → is_letter c ≡ true → goes_on90 c ≡ true
letter_on c h = grind (arith, nat_tests)

digit_on : (c : ℕ) → is_digit c ≡ true → goes_on90 c ≡ true
digit_on c h = grind (arith, nat_tests)

letter_no_digit : (c : ℕ) → is_letter c ≡ true → is_digit c ≡ false
letter_no_digit c h = grind (arith, nat_tests)

digits_on : (cs : List ℕ) → Pass is_digit cs → Pass goes_on90 cs
digits_on [] h = tt
digits_on (c ∷ cs) h = (digit_on c h.0, digits_on cs h.1)

number_next : (t : List ℕ) (rest : List Symbol90) → IsDigits t → Stops90 goes_on90 rest → next (chars90 t ++ rest) ≡ taken (words.Digits t) rest
number_next [] rest d s = absurd d
number_next (c ∷ cs) rest d s =
    chosen (is_digit c) (numbered (run (Char c ∷ (chars90 cs ++ rest)))) (letter_or_sign c (chars90 cs ++ rest)) d.0
    ∙ ap numbered (runs (c ∷ cs) rest (digit_on c d.0, digits_on cs d.1) s)

name_on : (x : List ℕ) → IsName90 x → Pass goes_on90 x
name_on [] h = absurd h
name_on (c ∷ cs) h = (letter_on c h.0, h.1)

name_next : (x : List ℕ) (rest : List Symbol90) → IsName90 x → Stops90 goes_on90 rest → next (chars90 x ++ rest) ≡ name_or_head x (skip rest) rest
name_next [] rest n s = absurd n
name_next (c ∷ cs) rest n s =
    refused (is_digit c) (numbered (run (Char c ∷ (chars90 cs ++ rest)))) (letter_or_sign c (chars90 cs ++ rest)) (letter_no_digit c n.0)
    ∙ (chosen (is_letter c) (named (run (Char c ∷ (chars90 cs ++ rest)))) (sign c (chars90 cs ++ rest)) n.0
    ∙ ap named (runs (c ∷ cs) rest (name_on (c ∷ cs) n) s))

listed_by : (x : List ℕ) (ss behind : List Symbol90) (r : List Symbol90) → ss ≡ Char 47 ∷ r → parenthesis x ss behind ≡ taken (words.Name x) behind
listed_by x ss behind r e = ap (λ (us : List Symbol90). parenthesis x us behind) e

forty : (c : ℕ) → (c == 40) ≡ true → c ≡ 40
forty c e = grind (arith, nat_tests)

no_parenthesis : (x : List ℕ) (ss behind : List Symbol90) → HasNoParenthesis ss → name_or_head x (skip ss) behind ≡ taken (words.Name x) behind
no_parenthesis x [] behind h = refl
no_parenthesis x (Gap ∷ ss) behind h = no_parenthesis x ss behind h
no_parenthesis x (Text t ∷ ss) behind h = refl
no_parenthesis x (Char c ∷ ss) behind h = by (c == 40) refl
  where
    by : (b : Bool) → (c == 40) ≡ b → name_or_head x (Char c ∷ ss) behind ≡ taken (words.Name x) behind
    by true e = rw e (let k = h (forty c e) in listed_by x ss behind k.0 k.1)
    by false e = rw e refl

gaps_stop : (gaps rest : List Symbol90) → AreGaps gaps → Stops90 goes_on90 (gaps ++ Char 40 ∷ rest)
gaps_stop [] rest h = refl
gaps_stop (Gap ∷ gaps) rest h = tt
gaps_stop (Char c ∷ gaps) rest h = absurd h
gaps_stop (Text t ∷ gaps) rest h = absurd h

gaps_skip : (gaps rest : List Symbol90) → AreGaps gaps → skip (gaps ++ Char 40 ∷ rest) ≡ Char 40 ∷ rest
gaps_skip [] rest h = refl
gaps_skip (Gap ∷ gaps) rest h = gaps_skip gaps rest h
gaps_skip (Char c ∷ gaps) rest h = absurd h
gaps_skip (Text t ∷ gaps) rest h = absurd h

opened : (x : List ℕ) (rest behind : List Symbol90) → Stops90 (λ c. c == 47) rest → parenthesis x rest behind ≡ taken (words.Head x) rest
opened x [] behind h = refl
opened x (Char c ∷ rest) behind h = rw h refl
opened x (Gap ∷ rest) behind h = refl
opened x (Text t ∷ rest) behind h = refl

head_next : (x : List ℕ) (gaps rest : List Symbol90) → IsName90 x → AreGaps gaps → Stops90 (λ c. c == 47) rest
    → next ((chars90 x ++ (gaps ++ Char 40 ∷ [])) ++ rest) ≡ taken (words.Head x) rest
head_next x gaps rest n g s =
    ap next (append_assoc (chars90 x) (gaps ++ Char 40 ∷ []) rest ∙ ap (λ (us : List Symbol90). chars90 x ++ us) (append_assoc gaps (Char 40 ∷ []) rest))
    ∙ (name_next x (gaps ++ Char 40 ∷ rest) n (gaps_stop gaps rest g)
    ∙ (ap (λ (us : List Symbol90). name_or_head x us (gaps ++ Char 40 ∷ rest)) (gaps_skip gaps rest g) ∙ opened x rest (gaps ++ Char 40 ∷ rest) s))

short : (d : ℕ) (v w : Word90) (rest : List Symbol90) → Stops90 (λ c. c == d) rest → pair d v w rest ≡ taken w rest
short d v w [] h = refl
short d v w (Char c ∷ rest) h = rw h refl
short d v w (Gap ∷ rest) h = refl
short d v w (Text t ∷ rest) h = refl

divided : (rest : List Symbol90) → Stops90 (λ c. (c == 61) || (c == 41)) rest → slash rest ≡ taken (words.Operator Div) rest
divided [] h = refl
divided (Char c ∷ rest) h = by (c == 61) (c == 41) refl refl
  where
    by : (a b : Bool) → (c == 61) ≡ a → (c == 41) ≡ b → slash (Char c ∷ rest) ≡ taken (words.Operator Div) (Char c ∷ rest)
    by true b e f = absurd (let k = rw e at h in cc k)
    by false true e f = absurd (let k = rw (e, f) at h in cc k)
    by false false e f = rw (e, f) refl
divided (Gap ∷ rest) h = refl
divided (Text t ∷ rest) h = refl

abbrev IsNext : Op → List ℕ → Type 0
IsNext o t = (rest : List Symbol90) → IsWhole90 (words.Operator o) rest → next (chars90 t ++ rest) ≡ taken (words.Operator o) rest

relation77 : (o : Op) → (o ≡ Neg → ⊥) → IsNext o (spelling77_of o)
relation77 Pow n rest w = refl
relation77 Mul n rest w = short 42 (words.Operator Pow) (words.Operator Mul) rest w
relation77 Div n rest w = divided rest w
relation77 Neg n rest w = absurd (n refl)
relation77 o n rest w = refl

relation90 : (o : Op) → (o ≡ Neg → ⊥) → IsNext o (spelling90_of o)
relation90 Pow n rest w = refl
relation90 Mul n rest w = short 42 (words.Operator Pow) (words.Operator Mul) rest w
relation90 Div n rest w = divided rest w
relation90 Neg n rest w = absurd (n refl)
relation90 Lt n rest w = short 61 (words.Operator Le) (words.Operator Lt) rest w
relation90 Gt n rest w = short 61 (words.Operator Ge) (words.Operator Gt) rest w
relation90 o n rest w = refl

either : (o : Op) → (o ≡ Neg → ⊥) → (cs : List ℕ) → (cs ≡ spelling90_of o) ⊎ (cs ≡ spelling77_of o) → IsNext o cs
either o n cs (inl e) = subst (IsNext o) (sym e) (relation90 o n)
either o n cs (inr e) = subst (IsNext o) (sym e) (relation77 o n)

operator_next : (o : Op) (cs : List ℕ) → words.IsOperator o cs → IsNext o cs
operator_next Neg cs h = absurd h
operator_next Pow cs h = either Pow (λ e. cc) cs h
operator_next Mul cs h = either Mul (λ e. cc) cs h
operator_next Div cs h = either Div (λ e. cc) cs h
operator_next o cs h = either o (λ e. cc) cs h

-- a word that is one text
fixed : (w : Word90) (cs t : List ℕ) (rest : List Symbol90) → cs ≡ t → next (chars90 t ++ rest) ≡ taken w rest → next (chars90 cs ++ rest) ≡ taken w rest
fixed w cs t rest e h = subst (λ (u : List ℕ). next (chars90 u ++ rest) ≡ taken w rest) (sym e) h

spelled_next : (w : Word90) (cs : List ℕ) (rest : List Symbol90) → Spelled90 w cs → IsWhole90 w rest → next (chars90 cs ++ rest) ≡ taken w rest
spelled_next (words.Digits t) cs rest h k = fixed (words.Digits t) cs t rest h.0 (number_next t rest h.1 k)
spelled_next (words.Truth true) cs rest h k = fixed (words.Truth true) cs _ rest h refl
spelled_next (words.Truth false) cs rest h k = fixed (words.Truth false) cs _ rest h refl
spelled_next (words.Name x) cs rest h k = fixed (words.Name x) cs x rest h.0 (name_next x rest h.1 k.0 ∙ no_parenthesis x rest rest k.1)
spelled_next (words.Head x) cs rest h k = absurd h
spelled_next (words.Operator o) cs rest h k = operator_next o cs h rest k
spelled_next words.Open cs rest h k = fixed words.Open cs _ rest h (short 47 words.OpenList words.Open rest k)
spelled_next words.Close cs rest h k = fixed words.Close cs _ rest h refl
spelled_next words.OpenList cs rest h k = fixed words.OpenList cs _ rest h refl
spelled_next words.CloseList cs rest h k = fixed words.CloseList cs _ rest h refl
spelled_next words.Comma cs rest h k = fixed words.Comma cs _ rest h refl
spelled_next words.Equals cs rest h k = fixed words.Equals cs _ rest h (short 61 (words.Operator Eq) words.Equals rest k)
spelled_next words.Colon cs rest h k = fixed words.Colon cs _ rest h (short 58 words.Colons words.Colon rest k)
spelled_next words.Colons cs rest h k = fixed words.Colons cs _ rest h refl
spelled_next (words.Constant t) cs rest h k = absurd h

by_chars : (w : Word90) (front rest : List Symbol90) → (cs : List ℕ) × (front ≡ chars90 cs) × Spelled90 w cs → IsWhole90 w rest → next (front ++ rest) ≡ taken w rest
by_chars w front rest h k = ap (λ (us : List Symbol90). next (us ++ rest)) h.1 ∙ spelled_next w h.0 rest h.2 k

word_next : (w : Word90) (front rest : List Symbol90) → SpelledBy90 w front → IsWhole90 w rest → next (front ++ rest) ≡ taken w rest
word_next (words.Constant t) front rest h k = ap (λ (us : List Symbol90). next (us ++ rest)) h
word_next (words.Head x) front rest h k =
    ap (λ (us : List Symbol90). next (us ++ rest)) h.1 ∙ head_next x h.0 rest h.2 h.3 k
word_next (words.Digits t) front rest h k = by_chars (words.Digits t) front rest h k
word_next (words.Truth b) front rest h k = by_chars (words.Truth b) front rest h k
word_next (words.Name x) front rest h k = by_chars (words.Name x) front rest h k
word_next (words.Operator o) front rest h k = by_chars (words.Operator o) front rest h k
word_next w front rest h k = by_chars w front rest h k

behind_gaps : (gaps ss : List Symbol90) → AreGaps gaps → next (gaps ++ ss) ≡ next ss
behind_gaps [] ss h = refl
behind_gaps (Gap ∷ gaps) ss h = behind_gaps gaps ss h
behind_gaps (Char c ∷ gaps) ss h = absurd h
behind_gaps (Text t ∷ gaps) ss h = absurd h

none_in_gaps : (ss : List Symbol90) → AreGaps ss → next ss ≡ None
none_in_gaps [] h = refl
none_in_gaps (Gap ∷ ss) h = none_in_gaps ss h
none_in_gaps (Char c ∷ ss) h = absurd h
none_in_gaps (Text t ∷ ss) h = absurd h

first : (text : List Symbol90) (w : Word90) (rest : List Symbol90) → Begins90 text w rest → next text ≡ taken w rest
first text w rest b =
    ap next b.same ∙ (behind_gaps b.gaps (b.front ++ rest) b.are_gaps ∙ word_next w b.front rest b.spelled b.whole)

-- ---- all words of a text

abbrev word_in : Word90 → Option Taken → Word90
word_in w None = w
word_in w (Some t) = t.word

abbrev rest_in : List Symbol90 → Option Taken → List Symbol90
rest_in r None = r
rest_in r (Some t) = t.rest

words_once : (ws vs : List Word90) (text : List Symbol90) → AreWords90 text ws → AreWords90 text vs → ws ≡ vs
words_once [] [] text h k = refl
words_once [] (v ∷ vs) text h k = let e : None ≡ taken v k.0 = sym (none_in_gaps text h) ∙ first text v k.0 k.1 in absurd (cc)
words_once (w ∷ ws) [] text h k = let e : None ≡ taken w h.0 = sym (none_in_gaps text k) ∙ first text w h.0 h.1 in absurd (cc)
words_once (w ∷ ws) (v ∷ vs) text h k =
    let e : taken w h.0 ≡ taken v k.0 = sym (first text w h.0 h.1) ∙ first text v k.0 k.1 in
    let r : h.0 ≡ k.0 = ap (rest_in h.0) e in
    let z : AreWords90 k.0 ws = subst (λ (us : List Symbol90). AreWords90 us ws) r h.2 in
    ap₂ (λ (a : Word90) (us : List Word90). a ∷ us) (ap (word_in w) e) (words_once ws vs k.0 z k.2)

pub one_words : OneWords
one_words cs ws vs h k =
    words_once ws vs k.0 (subst (λ (us : List Symbol90). AreWords90 us ws) (symbols_once h.1 k.1) h.2) k.2
