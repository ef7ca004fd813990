-- The word at the front of a text is the one that is found.
use Rattle.std.proofs.Common.{arith, ◌≡◌, ◌≤◌, ℕ, Bool, true, false, not, ◌||◌, cond, IsTrue, List, [], ◌∷◌, ◌++◌, length, refl, ap, sym, ◌∙◌, subst, codes, append_assoc, inl, inr, ◌⊎◌}
use Rattle.std.specs.Prelude.{Option, Some, None, ◌==◌, nat_lt}
use Rattle.std.proofs.lemmas.Bool.{cond_both, ltb-false, eqb-true, le-ltb, not-true, not_from_false, or_parts, or_from, cond-true, cond-false}
use Rattle.std.proofs.lemmas.Bool.Decides.{nat_tests}
use Rattle.tree.specs.declared.ops.Op.TheVariants.{Pow, Mul, Div, Neg, Lt, Gt}
use Rattle.tree.specs.declared.ops.Op.{Op}
use Rattle.f90_grammar.specs.Words.{Symbol90, Char, Gap, Text, goes_on90, IsName90, IsOperator, chars90, AreGaps, SpelledBy90, Spelled90, Stops90, HasNoParenthesis, IsWhole90, Begins90}
use Rattle.reading.specs.Characters.{is_digit, is_letter, Pass, IsDigits}
use Rattle.f90_grammar.specs.Words.{Word90, Digits, Truth, Name, Head, Operator, Open, Close, OpenList, CloseList, Comma, Equals, Colon, Colons, Constant}
use Rattle.f90_expressions.specs.words.Lexing.{Run, run, longer, run_of, stops, skip, Front, some, number, parenthesised, named_by, named, name, strip, Fixed, is_among, unless_barred, behind_fixed, or_else, first_of, marks, signs, dotted, either, fixed_word, word_by, word}

-- ---- tests

pub stops_true : (p : ℕ → Bool) (r : List Symbol90) → Stops90 p r → stops p r ≡ true
stops_true p [] h = refl
stops_true p (Char c ∷ ss) h = not_from_false (p c) h
stops_true p (Gap ∷ ss) h = refl
stops_true p (Text t ∷ ss) h = refl

stops_from : (p : ℕ → Bool) (r : List Symbol90) → stops p r ≡ true → Stops90 p r
stops_from p [] h = tt
stops_from p (Char c ∷ ss) h = not-true (p c) h
stops_from p (Gap ∷ ss) h = tt
stops_from p (Text t ∷ ss) h = tt

-- what is barred, one character or two
barred_one : (d : ℕ) (r : List Symbol90) → Stops90 (λ c. c == d) r → stops (is_among (d ∷ [])) r ≡ true
barred_one d [] h = refl
barred_one d (Char c ∷ ss) h = rw h refl
barred_one d (Gap ∷ ss) h = refl
barred_one d (Text t ∷ ss) h = refl

one_barred : (d : ℕ) (r : List Symbol90) → stops (is_among (d ∷ [])) r ≡ true → Stops90 (λ c. c == d) r
one_barred d [] h = tt
one_barred d (Char c ∷ ss) h = (or_parts (c == d) false (not-true ((c == d) || false) h)).0
one_barred d (Gap ∷ ss) h = tt
one_barred d (Text t ∷ ss) h = tt

barred_two : (d e : ℕ) (r : List Symbol90) → Stops90 (λ c. (c == d) || (c == e)) r → stops (is_among (d ∷ e ∷ [])) r ≡ true
barred_two d e [] h = refl
barred_two d e (Char c ∷ ss) h = let p = or_parts (c == d) (c == e) h in rw (p.0, p.1) refl
barred_two d e (Gap ∷ ss) h = refl
barred_two d e (Text t ∷ ss) h = refl

two_barred : (d e : ℕ) (r : List Symbol90) → stops (is_among (d ∷ e ∷ [])) r ≡ true → Stops90 (λ c. (c == d) || (c == e)) r
two_barred d e [] h = tt
two_barred d e (Char c ∷ ss) h =
    let p = or_parts (c == d) ((c == e) || false) (not-true ((c == d) || ((c == e) || false)) h) in
    or_from (c == d) (c == e) p.0 (or_parts (c == e) false p.1).0
two_barred d e (Gap ∷ ss) h = tt
two_barred d e (Text t ∷ ss) h = tt

free : (r : List Symbol90) → stops (is_among []) r ≡ true
free [] = refl
free (Char c ∷ ss) = refl
free (Gap ∷ ss) = refl
free (Text t ∷ ss) = refl

-- what the code does
pub unless_is : (barred : List ℕ) (r : List Symbol90) → unless_barred barred (Some r) ≡ cond (stops (is_among barred) r) (Some r) None
unless_is [] r = sym (cond-true (stops (is_among []) r) (Some r) None (free r))
unless_is (b ∷ bs) r = refl

-- ---- a word is found where it stands whole

whole_run : (p : ℕ → Bool) (a : List ℕ) (r : List Symbol90) → Pass p a → Stops90 p r → run_of p (chars90 a ++ r) ≡ run a r
whole_run p [] [] h s = refl
whole_run p [] (Char c ∷ ss) h s = rw s refl
whole_run p [] (Gap ∷ ss) h s = refl
whole_run p [] (Text t ∷ ss) h s = refl
whole_run p (c ∷ a) r h s = rw h.0 (ap (longer c) (whole_run p a r h.1 s))

letter_no_digit : (c : ℕ) → IsTrue (is_letter c) → is_digit c ≡ false
letter_no_digit c h = grind (arith, nat_tests)

letter_inner : (c : ℕ) → IsTrue (is_letter c) → IsTrue (goes_on90 c)
letter_inner c h = grind (arith, nat_tests)

no_inner : (c : ℕ) → goes_on90 c ≡ false → is_digit c ≡ false
no_inner c h = grind (arith, nat_tests)

digits_stop : (r : List Symbol90) → Stops90 goes_on90 r → Stops90 is_digit r
digits_stop [] h = tt
digits_stop (Char c ∷ ss) h = no_inner c h
digits_stop (Gap ∷ ss) h = tt
digits_stop (Text t ∷ ss) h = tt

number_is : (a : List ℕ) (r : List Symbol90) → IsDigits a → Stops90 goes_on90 r → word (chars90 a ++ r) ≡ some (Digits a) r
number_is [] r h s = absurd h
number_is (c ∷ cs) r h s =
    ap (λ (b : Bool). word_by b (is_letter c) (Char c ∷ (chars90 cs ++ r))) h.0
    ∙ (ap number (whole_run is_digit (c ∷ cs) r h (digits_stop r s))
    ∙ cond-true (stops goes_on90 r) (some (Digits (c ∷ cs)) r) None (stops_true goes_on90 r s))

short_name : (x : List ℕ) (r : List Symbol90) → length x ≤ 31 → name (run x r) ≡ named x r
short_name x r h = cond-false (nat_lt 31 (length x)) None (named x r) (le-ltb 31 (length x) h)

name_is : (x : List ℕ) (r : List Symbol90) → IsName90 x → Stops90 goes_on90 r → word (chars90 x ++ r) ≡ named x r
name_is [] r h s = absurd h
name_is (c ∷ cs) r h s =
    let l : length (c ∷ cs) ≤ 31 = omega (arith, h.2) in
    ap (λ (b : Bool). word_by b (is_letter c) (Char c ∷ (chars90 cs ++ r))) (letter_no_digit c h.0)
    ∙ (ap (λ (b : Bool). word_by false b (Char c ∷ (chars90 cs ++ r))) h.0
    ∙ (ap name (whole_run goes_on90 (c ∷ cs) r (letter_inner c h.0, h.1) s) ∙ short_name (c ∷ cs) r l))

listed : (x : List ℕ) (ss rest r : List Symbol90) → ss ≡ Char 47 ∷ r → parenthesised x ss rest ≡ some (Name x) rest
listed x ss rest r e = ap (λ (us : List Symbol90). parenthesised x us rest) e

no_parenthesis : (x : List ℕ) (ss rest : List Symbol90) → HasNoParenthesis ss → named_by x (skip ss) rest ≡ some (Name x) rest
no_parenthesis x [] rest h = refl
no_parenthesis x (Gap ∷ ss) rest h = no_parenthesis x ss rest h
no_parenthesis x (Text t ∷ ss) rest h = refl
no_parenthesis x (Char c ∷ ss) rest h = by (c == 40) refl
  where
    by : (b : Bool) → (c == 40) ≡ b → named_by x (Char c ∷ ss) rest ≡ some (Name x) rest
    by true e =
        let k = h (eqb-true c 40 e) in
        cond-true (c == 40) (parenthesised x ss rest) (some (Name x) rest) e ∙ listed x ss rest k.0 k.1
    by false e = cond-false (c == 40) (parenthesised x ss rest) (some (Name x) rest) e

gaps_stop : (gaps rest : List Symbol90) → AreGaps gaps → Stops90 goes_on90 (gaps ++ Char 40 ∷ rest)
gaps_stop [] rest h = refl
gaps_stop (Gap ∷ gaps) rest h = tt
gaps_stop (Char c ∷ gaps) rest h = absurd h
gaps_stop (Text t ∷ gaps) rest h = absurd h

pub gaps_skip : (gaps rest : List Symbol90) → AreGaps gaps → skip (gaps ++ rest) ≡ skip rest
gaps_skip [] rest h = refl
gaps_skip (Gap ∷ gaps) rest h = gaps_skip gaps rest h
gaps_skip (Char c ∷ gaps) rest h = absurd h
gaps_skip (Text t ∷ gaps) rest h = absurd h

head_is : (x : List ℕ) (gaps r : List Symbol90) → IsName90 x → AreGaps gaps → Stops90 (λ c. c == 47) r
    → word ((chars90 x ++ (gaps ++ Char 40 ∷ [])) ++ r) ≡ some (Head x) r
head_is x gaps r n g s =
    ap word (append_assoc (chars90 x) (gaps ++ Char 40 ∷ []) r ∙ ap (λ (us : List Symbol90). chars90 x ++ us) (append_assoc gaps (Char 40 ∷ []) r))
    ∙ (name_is x (gaps ++ Char 40 ∷ r) n (gaps_stop gaps r g)
    ∙ (ap (λ (us : List Symbol90). named_by x us (gaps ++ Char 40 ∷ r)) (gaps_skip gaps (Char 40 ∷ r) g)
    ∙ cond-true (stops (λ c. c == 47) r) (some (Head x) r) (some (Name x) (gaps ++ Char 40 ∷ r)) (stops_true (λ c. c == 47) r s)))

-- a word of fixed characters, with what doesn't follow it
abbrev IsFound : Word90 → List ℕ → Type 0
IsFound w a = (r : List Symbol90) → IsWhole90 w r → word (chars90 a ++ r) ≡ some w r

pow_found : (r : List Symbol90) → word (chars90 (codes "**") ++ r) ≡ some (Operator Pow) r
pow_found r = refl

mul_found : (r : List Symbol90) → Stops90 (λ c. c == 42) r → word (chars90 (codes "*") ++ r) ≡ some (Operator Mul) r
mul_found [] s = refl
mul_found (Char c ∷ ss) s = let e : (42 == c) ≡ false = grind (arith, nat_tests) in rw (e, barred_one 42 (Char c ∷ ss) s) refl
mul_found (Gap ∷ ss) s = refl
mul_found (Text t ∷ ss) s = refl

div_found : (r : List Symbol90) → Stops90 (λ c. (c == 61) || (c == 41)) r → word (chars90 (codes "/") ++ r) ≡ some (Operator Div) r
div_found [] s = refl
div_found (Char c ∷ ss) s =
    let p = or_parts (c == 61) (c == 41) s in
    let e : (61 == c) ≡ false = flip c 61 p.0 in
    let f : (41 == c) ≡ false = flip c 41 p.1 in
    rw (e, f, p.0, p.1) refl
  where
    flip : (c d : ℕ) → (c == d) ≡ false → (d == c) ≡ false
    flip c d h = grind (arith, nat_tests)
div_found (Gap ∷ ss) s = refl
div_found (Text t ∷ ss) s = refl

turn : (c d : ℕ) → (c == d) ≡ false → (d == c) ≡ false
turn c d h = grind (arith, nat_tests)

less_found : (r : List Symbol90) → Stops90 (λ c. c == 61) r → word (chars90 (codes "<") ++ r) ≡ some (Operator Lt) r
less_found [] s = refl
less_found (Char c ∷ ss) s = rw (turn c 61 s, s) refl
less_found (Gap ∷ ss) s = refl
less_found (Text t ∷ ss) s = refl

greater_found : (r : List Symbol90) → Stops90 (λ c. c == 61) r → word (chars90 (codes ">") ++ r) ≡ some (Operator Gt) r
greater_found [] s = refl
greater_found (Char c ∷ ss) s = rw (turn c 61 s, s) refl
greater_found (Gap ∷ ss) s = refl
greater_found (Text t ∷ ss) s = refl

dotted_less_found : (r : List Symbol90) → Stops90 (λ c. c == 61) r → word (chars90 (codes ".LT.") ++ r) ≡ some (Operator Lt) r
dotted_less_found [] s = refl
dotted_less_found (Char c ∷ ss) s = rw s refl
dotted_less_found (Gap ∷ ss) s = refl
dotted_less_found (Text t ∷ ss) s = refl

dotted_greater_found : (r : List Symbol90) → Stops90 (λ c. c == 61) r → word (chars90 (codes ".GT.") ++ r) ≡ some (Operator Gt) r
dotted_greater_found [] s = refl
dotted_greater_found (Char c ∷ ss) s = rw s refl
dotted_greater_found (Gap ∷ ss) s = refl
dotted_greater_found (Text t ∷ ss) s = refl

open_found : (r : List Symbol90) → Stops90 (λ c. c == 47) r → word (chars90 (codes "(") ++ r) ≡ some Open r
open_found [] s = refl
open_found (Char c ∷ ss) s = rw (turn c 47 s, s) refl
open_found (Gap ∷ ss) s = refl
open_found (Text t ∷ ss) s = refl

colon_found : (r : List Symbol90) → Stops90 (λ c. c == 58) r → word (chars90 (codes ":") ++ r) ≡ some Colon r
colon_found [] s = refl
colon_found (Char c ∷ ss) s = rw (turn c 58 s, s) refl
colon_found (Gap ∷ ss) s = refl
colon_found (Text t ∷ ss) s = refl

equals_found : (r : List Symbol90) → Stops90 (λ c. c == 61) r → word (chars90 (codes "=") ++ r) ≡ some Equals r
equals_found [] s = refl
equals_found (Char c ∷ ss) s = rw (turn c 61 s, s) refl
equals_found (Gap ∷ ss) s = refl
equals_found (Text t ∷ ss) s = refl

close_found : (r : List Symbol90) → word (chars90 (codes ")") ++ r) ≡ some Close r
close_found r = refl

either_spelling : (w : Word90) (a s t : List ℕ) → IsFound w s → IsFound w t → (a ≡ s) ⊎ (a ≡ t) → IsFound w a
either_spelling w a s t f g (inl e) = subst (IsFound w) (sym e) f
either_spelling w a s t f g (inr e) = subst (IsFound w) (sym e) g

operator_found : (o : Op) (a : List ℕ) → IsOperator o a → IsFound (Operator o) a
operator_found Neg a h = absurd h
operator_found Pow a h = either_spelling (Operator Pow) a _ _ (λ r s. pow_found r) (λ r s. pow_found r) h
operator_found Mul a h = either_spelling (Operator Mul) a _ _ (λ r s. mul_found r s) (λ r s. mul_found r s) h
operator_found Div a h = either_spelling (Operator Div) a _ _ (λ r s. div_found r s) (λ r s. div_found r s) h
operator_found Lt a h = either_spelling (Operator Lt) a _ _ (λ r s. less_found r s) (λ r s. dotted_less_found r s) h
operator_found Gt a h = either_spelling (Operator Gt) a _ _ (λ r s. greater_found r s) (λ r s. dotted_greater_found r s) h
operator_found o a h = either_spelling (Operator o) a _ _ (λ r s. refl) (λ r s. refl) h

along : (w : Word90) (a t : List ℕ) (r : List Symbol90) → a ≡ t → word (chars90 t ++ r) ≡ some w r → word (chars90 a ++ r) ≡ some w r
along w a t r e h = ap (λ (q : List ℕ). word (chars90 q ++ r)) e ∙ h

found_chars : (w : Word90) (a : List ℕ) (r : List Symbol90) → Spelled90 w a → IsWhole90 w r → word (chars90 a ++ r) ≡ some w r
found_chars (Digits t) a r h w = along (Digits t) a t r h.0 (number_is t r h.1 w)
found_chars (Truth true) a r h w = along (Truth true) a _ r h refl
found_chars (Truth false) a r h w = along (Truth false) a _ r h refl
found_chars (Name x) a r h w = along (Name x) a x r h.0 (name_is x r h.1 w.0 ∙ no_parenthesis x r r w.1)
found_chars (Head x) a r h w = absurd h
found_chars (Operator o) a r h w = operator_found o a h r w
found_chars Open a r h w = along Open a _ r h (open_found r w)
found_chars Close a r h w = along Close a _ r h (close_found r)
found_chars OpenList a r h w = along OpenList a _ r h refl
found_chars CloseList a r h w = along CloseList a _ r h refl
found_chars Comma a r h w = along Comma a _ r h refl
found_chars Equals a r h w = along Equals a _ r h (equals_found r w)
found_chars Colon a r h w = along Colon a _ r h (colon_found r w)
found_chars Colons a r h w = along Colons a _ r h refl
found_chars (Constant t) a r h w = absurd h

found : (w : Word90) (a r : List Symbol90) → SpelledBy90 w a → IsWhole90 w r → word (a ++ r) ≡ some w r
found (Constant t) a r h k = ap (λ (q : List Symbol90). word (q ++ r)) h
found (Head x) a r h k = ap (λ (q : List Symbol90). word (q ++ r)) h.1 ∙ head_is x h.0 r h.2 h.3 k
found w a r h k = ap (λ (q : List Symbol90). word (q ++ r)) h.1 ∙ found_chars w h.0 r h.2 k

-- a text that begins with a word begins with no gap
pub shown_skip : (text : List Symbol90) (f : Front) → word text ≡ Some f → skip text ≡ text
shown_skip [] f e = refl
shown_skip (Char c ∷ ss) f e = refl
shown_skip (Gap ∷ ss) f e = absurd (cc)
shown_skip (Text t ∷ ss) f e = refl

pub begun : (text : List Symbol90) (w : Word90) (rest : List Symbol90) → Begins90 text w rest → word (skip text) ≡ some w rest
begun text w rest b =
    let e = found w b.front rest b.spelled b.whole in
    ap (λ (us : List Symbol90). word (skip us)) b.same
    ∙ (ap word (gaps_skip b.gaps (b.front ++ rest) b.are_gaps ∙ shown_skip (b.front ++ rest) _ e) ∙ e)

-- ---- and what is found is a word

record Parts (p : ℕ → Bool) (text : List Symbol90) (r : Run) : Type 0 where
  same : text ≡ chars90 r.front ++ r.rest
  pass : Pass p r.front
  stop : Stops90 p r.rest

run_parts : (p : ℕ → Bool) (text : List Symbol90) → Parts p text (run_of p text)
run_parts p [] = record { same = refl; pass = tt; stop = tt }
run_parts p (Char c ∷ ss) =
    let h = run_parts p ss in
    cond_both (p c) (longer c (run_of p ss)) (run [] (Char c ∷ ss)) (λ r. Parts p (Char c ∷ ss) r)
    (λ e. record { same = ap (λ (q : List Symbol90). Char c ∷ q) h.same; pass = (e, h.pass); stop = h.stop })
    (λ e. record { same = refl; pass = tt; stop = e })
run_parts p (Gap ∷ ss) = record { same = refl; pass = tt; stop = tt }
run_parts p (Text t ∷ ss) = record { same = refl; pass = tt; stop = tt }

none_some : {P : Type 0} (w : Front) → None ≡ Some w → P
none_some w e = absurd (cc)

the_same : (v w : Front) → Some v ≡ Some w → v ≡ w
the_same v w e = cc

abbrev BeginsWith : List Symbol90 → Front → Type 0
BeginsWith text w = Begins90 text w.word w.rest

by_word : (text : List Symbol90) (t : Word90) (r : List Symbol90) (w : Front) → some t r ≡ Some w → Begins90 text t r → BeginsWith text w
by_word text t r w e h = subst (BeginsWith text) (the_same (record { word = t; rest = r }) w e) h

by_chars : (w : Word90) (cs : List ℕ) → Spelled90 w cs → SpelledBy90 w (chars90 cs)
by_chars (Constant t) cs h = absurd h
by_chars (Head x) cs h = absurd h
by_chars w cs h = (cs, refl, h)

spelled_begins : (w : Word90) (text : List Symbol90) (cs : List ℕ) (r : List Symbol90) → text ≡ chars90 cs ++ r → Spelled90 w cs → IsWhole90 w r → Begins90 text w r
spelled_begins w text cs r e s k = record {
  gaps = [];
  front = chars90 cs;
  same = e;
  are_gaps = tt;
  spelled = by_chars w cs s;
  whole = k;
}

number_by : (b : Bool) (text : List Symbol90) (r : Run) (w : Front) → stops goes_on90 r.rest ≡ b → text ≡ chars90 r.front ++ r.rest → IsDigits r.front
    → cond b (some (Digits r.front) r.rest) None ≡ Some w → BeginsWith text w
number_by true text r w e same d h =
    by_word text (Digits r.front) r.rest w h (spelled_begins (Digits r.front) text r.front r.rest same (refl, d) (stops_from goes_on90 r.rest e))
number_by false text r w e same d h = none_some w h

number_word : (c : ℕ) (ss : List Symbol90) (w : Front) → is_digit c ≡ true → number (run_of is_digit (Char c ∷ ss)) ≡ Some w → BeginsWith (Char c ∷ ss) w
number_word c ss w d h =
    let r = longer c (run_of is_digit ss) in
    let q = run_parts is_digit ss in
    let is : run_of is_digit (Char c ∷ ss) ≡ r = cond-true (is_digit c) r (run [] (Char c ∷ ss)) d in
    number_by (stops goes_on90 r.rest) (Char c ∷ ss) r w refl (ap (λ (us : List Symbol90). Char c ∷ us) q.same) (d, q.pass)
    (ap number (sym is) ∙ h)

-- what stands behind a name
data Followed (x : List ℕ) (rest behind : List Symbol90) (w : Front) : Type 0 where
  ends : HasNoParenthesis rest → some (Name x) behind ≡ Some w → Followed x rest behind w
  heads : (gaps ss : List Symbol90) → rest ≡ gaps ++ Char 40 ∷ ss → AreGaps gaps → Stops90 (λ c. c == 47) ss → some (Head x) ss ≡ Some w
      → Followed x rest behind w

slash_first : (ss : List Symbol90) → stops (λ c. c == 47) ss ≡ false → (r : List Symbol90) × (ss ≡ Char 47 ∷ r)
slash_first [] h = absurd (cc)
slash_first (Char c ∷ ss) h = by (c == 47) refl h
  where
    by : (b : Bool) → (c == 47) ≡ b → not b ≡ false → (r : List Symbol90) × (Char c ∷ ss ≡ Char 47 ∷ r)
    by true e k = (ss, ap (λ (q : ℕ). Char q ∷ ss) (eqb-true c 47 e))
    by false e k = absurd (cc)
slash_first (Gap ∷ ss) h = absurd (cc)
slash_first (Text t ∷ ss) h = absurd (cc)

forty_not : (c : ℕ) → (c == 40) ≡ false → c ≡ 40 → ⊥
forty_not c h e = let k : (c == 40) ≡ true = ap (λ (x : ℕ). x == 40) e in absurd (cc)

at_parenthesis : (b : Bool) (x : List ℕ) (c : ℕ) (ss behind : List Symbol90) (w : Front) → c ≡ 40 → stops (λ c. c == 47) ss ≡ b
    → cond b (some (Head x) ss) (some (Name x) behind) ≡ Some w → Followed x (Char c ∷ ss) behind w
at_parenthesis true x c ss behind w e k h =
    heads [] ss (ap (λ (q : ℕ). Char q ∷ ss) e) tt (stops_from (λ c. c == 47) ss k) h
at_parenthesis false x c ss behind w e k h = ends (λ f. slash_first ss k) h

at_char : (b : Bool) (x : List ℕ) (c : ℕ) (ss behind : List Symbol90) (w : Front) → (c == 40) ≡ b
    → cond b (parenthesised x ss behind) (some (Name x) behind) ≡ Some w → Followed x (Char c ∷ ss) behind w
at_char true x c ss behind w e h = at_parenthesis (stops (λ c. c == 47) ss) x c ss behind w (eqb-true c 40 e) refl h
at_char false x c ss behind w e h = ends (λ f. absurd (forty_not c e f)) h

past_gap : (x : List ℕ) (ss behind : List Symbol90) (w : Front) → Followed x ss behind w → Followed x (Gap ∷ ss) behind w
past_gap x ss behind w (ends h e) = ends h e
past_gap x ss behind w (heads gaps us e g s h) = heads (Gap ∷ gaps) us (ap (λ (q : List Symbol90). Gap ∷ q) e) g s h

followed : (x : List ℕ) (rest behind : List Symbol90) (w : Front) → named_by x (skip rest) behind ≡ Some w → Followed x rest behind w
followed x [] behind w h = ends tt h
followed x (Gap ∷ ss) behind w h = past_gap x ss behind w (followed x ss behind w h)
followed x (Text t ∷ ss) behind w h = ends tt h
followed x (Char c ∷ ss) behind w h = at_char (c == 40) x c ss behind w refl h

named_word : (x : List ℕ) (r text : List Symbol90) (w : Front) → text ≡ chars90 x ++ r → IsName90 x → Stops90 goes_on90 r → Followed x r r w → BeginsWith text w
named_word x r text w same n s (ends h e) = by_word text (Name x) r w e (spelled_begins (Name x) text x r same (refl, n) (s, h))
named_word x r text w same n s (heads gaps ss e g k h) =
    by_word text (Head x) ss w h (record {
      gaps = [];
      front = chars90 x ++ (gaps ++ Char 40 ∷ []);
      same = same ∙ (ap (λ (us : List Symbol90). chars90 x ++ us) (e ∙ sym (append_assoc gaps (Char 40 ∷ []) ss))
          ∙ sym (append_assoc (chars90 x) (gaps ++ Char 40 ∷ []) ss));
      are_gaps = tt;
      spelled = (gaps, refl, n, g);
      whole = k;
    })

name_by : (b : Bool) (c : ℕ) (ss : List Symbol90) (r : Run) (w : Front) → nat_lt 31 (length r.front) ≡ b → Char c ∷ ss ≡ chars90 r.front ++ r.rest
    → (length r.front ≤ 31 → IsName90 r.front) → Stops90 goes_on90 r.rest → cond b None (named r.front r.rest) ≡ Some w → BeginsWith (Char c ∷ ss) w
name_by true c ss r w e same n s h = none_some w h
name_by false c ss r w e same n s h =
    named_word r.front r.rest (Char c ∷ ss) w same (n (ltb-false 31 (length r.front) e)) s (followed r.front r.rest r.rest w h)

name_word : (c : ℕ) (ss : List Symbol90) (w : Front) → is_letter c ≡ true → name (run_of goes_on90 (Char c ∷ ss)) ≡ Some w → BeginsWith (Char c ∷ ss) w
name_word c ss w d h =
    let r = longer c (run_of goes_on90 ss) in
    let q = run_parts goes_on90 ss in
    let is : run_of goes_on90 (Char c ∷ ss) ≡ r = cond-true (goes_on90 c) r (run [] (Char c ∷ ss)) (letter_inner c d) in
    name_by (nat_lt 31 (length r.front)) c ss r w refl (ap (λ (us : List Symbol90). Char c ∷ us) q.same)
    (λ l. (d, q.pass, omega (arith, l))) q.stop (ap name (sym is) ∙ h)

-- ---- words of fixed characters

abbrev IsGood : Fixed → Type 0
IsGood f = Spelled90 f.word f.spelling × ((r : List Symbol90) → stops (is_among f.barred) r ≡ true → IsWhole90 f.word r)

abbrev AreGood : List Fixed → Type 0
AreGood [] = Unit {0}
AreGood (f ∷ fs) = IsGood f × AreGood fs

marks_good : AreGood marks
marks_good = (
  (refl, λ r s. tt),
  (
    (refl, λ r s. one_barred 47 r s),
    (
      (refl, λ r s. tt),
      (
        (refl, λ r s. tt),
        (
          (refl, λ r s. tt),
          (
            (refl, λ r s. tt),
            ((refl, λ r s. one_barred 58 r s), ((refl, λ r s. one_barred 61 r s), tt)),
          ),
        ),
      ),
    ),
  ),
)

signs_good : AreGood signs
signs_good = (
  (inl refl, λ r s. tt),
  (
    (inl refl, λ r s. one_barred 42 r s),
    (
      (inl refl, λ r s. tt),
      (
        (inl refl, λ r s. two_barred 61 41 r s),
        (
          (inl refl, λ r s. tt),
          (
            (inl refl, λ r s. tt),
            (
              (inl refl, λ r s. tt),
              (
                (inl refl, λ r s. one_barred 61 r s),
                ((inl refl, λ r s. tt), ((inl refl, λ r s. one_barred 61 r s), ((inl refl, λ r s. tt), tt))),
              ),
            ),
          ),
        ),
      ),
    ),
  ),
)

dotted_good : AreGood dotted
dotted_good = (
  (refl, λ r s. tt),
  (
    (refl, λ r s. tt),
    (
      (inr refl, λ r s. one_barred 61 r s),
      (
        (inr refl, λ r s. tt),
        (
          (inr refl, λ r s. tt),
          (
            (inr refl, λ r s. tt),
            (
              (inr refl, λ r s. one_barred 61 r s),
              (
                (inr refl, λ r s. tt),
                (
                  (inr refl, λ r s. tt),
                  (
                    (inr refl, λ r s. tt),
                    ((inr refl, λ r s. tt), ((inr refl, λ r s. tt), ((inr refl, λ r s. tt), tt))),
                  ),
                ),
              ),
            ),
          ),
        ),
      ),
    ),
  ),
)

strip_same : (w : List ℕ) (text rest : List Symbol90) → strip w text ≡ Some rest → text ≡ chars90 w ++ rest
strip_same [] text rest e = cc
strip_same (w ∷ ws) [] rest e = absurd (cc)
strip_same (w ∷ ws) (Char c ∷ ss) rest e =
    cond_both (w == c) (strip ws ss) None (λ o. o ≡ Some rest → Char c ∷ ss ≡ Char w ∷ (chars90 ws ++ rest))
    (λ k f. let m : w ≡ c = eqb-true w c k in let n = strip_same ws ss rest f in cc)
    (λ k f. absurd (cc)) e
strip_same (w ∷ ws) (Gap ∷ ss) rest e = absurd (cc)
strip_same (w ∷ ws) (Text t ∷ ss) rest e = absurd (cc)

record IsBehind (f : Fixed) (text rest : List Symbol90) : Type 0 where
  same : text ≡ chars90 f.spelling ++ rest
  unbarred : stops (is_among f.barred) rest ≡ true

behind_by : (b : Bool) (f : Fixed) (text r rest : List Symbol90) → strip f.spelling text ≡ Some r → stops (is_among f.barred) r ≡ b
    → cond b (Some r) None ≡ Some rest → IsBehind f text rest
behind_by true f text r rest e k h =
    let w : r ≡ rest = cc in
    record { same = strip_same f.spelling text rest (e ∙ h); unbarred = ap (stops (is_among f.barred)) (sym w) ∙ k }
behind_by false f text r rest e k h = absurd (cc)

unless_none : (barred : List ℕ) → unless_barred barred None ≡ None
unless_none [] = refl
unless_none (b ∷ bs) = refl

behind_is : (f : Fixed) (text rest : List Symbol90) (o : Option (List Symbol90)) → strip f.spelling text ≡ o → unless_barred f.barred o ≡ Some rest → IsBehind f text rest
behind_is f text rest None e h = absurd (let k = unless_none f.barred in cc)
behind_is f text rest (Some r) e h = behind_by (stops (is_among f.barred) r) f text r rest e refl (sym (unless_is f.barred r) ∙ h)

or_else_word : (o : Option (List Symbol90)) (f : Fixed) (next : Option Front) (text : List Symbol90) (w : Front)
    → ((rest : List Symbol90) → o ≡ Some rest → IsBehind f text rest) → IsGood f → (next ≡ Some w → BeginsWith text w) → or_else o f.word next ≡ Some w
    → BeginsWith text w
or_else_word (Some rest) f next text w b g later e =
    let k = b rest refl in
    by_word text f.word rest w e (spelled_begins f.word text f.spelling rest k.same g.0 (g.1 rest k.unbarred))
or_else_word None f next text w b g later e = later e

first_word : (fs : List Fixed) (text : List Symbol90) (w : Front) → AreGood fs → first_of fs text ≡ Some w → BeginsWith text w
first_word [] text w h e = none_some w e
first_word (f ∷ fs) text w h e =
    or_else_word (behind_fixed f.spelling f.barred text) f (first_of fs text) text w (λ rest k. behind_is f text rest (strip f.spelling text) refl k) h.0
    (λ k. first_word fs text w h.1 k) e

either_word : (o next : Option Front) (text : List Symbol90) (w : Front) → (o ≡ Some w → BeginsWith text w) → (next ≡ Some w → BeginsWith text w)
    → either o next ≡ Some w → BeginsWith text w
either_word (Some f) next text w h k e = h e
either_word None next text w h k e = k e

is_fixed : (text : List Symbol90) (w : Front) → fixed_word text ≡ Some w → BeginsWith text w
is_fixed text w e =
    either_word (first_of marks text) (either (first_of signs text) (first_of dotted text)) text w (first_word marks text w marks_good)
    (λ k. either_word (first_of signs text) (first_of dotted text) text w (first_word signs text w signs_good) (first_word dotted text w dotted_good) k) e

word_by_is : (d l : Bool) (c : ℕ) (ss : List Symbol90) (w : Front) → is_digit c ≡ d → is_letter c ≡ l → word_by d l (Char c ∷ ss) ≡ Some w → BeginsWith (Char c ∷ ss) w
word_by_is true l c ss w d k e = number_word c ss w d e
word_by_is false true c ss w d k e = name_word c ss w k e
word_by_is false false c ss w d k e = is_fixed (Char c ∷ ss) w e

pub is_word : (text : List Symbol90) (w : Front) → word text ≡ Some w → Begins90 text w.word w.rest
is_word [] w e = none_some w e
is_word (Char c ∷ ss) w e = word_by_is (is_digit c) (is_letter c) c ss w refl refl e
is_word (Gap ∷ ss) w e = none_some w e
is_word (Text t ∷ ss) w e =
    by_word (Text t ∷ ss) (Constant t) ss w e (record { gaps = []; front = Text t ∷ []; same = refl; are_gaps = tt; spelled = refl; whole = tt })
