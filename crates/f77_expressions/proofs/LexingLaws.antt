-- The word at the front of a text is the one that is found.
use Rattle.std.proofs.Common.{arith, ◌≡◌, ◌<◌, ◌≤◌, ◌^◌, ℕ, ℤ, pos, Bool, true, false, IsTrue, List, [], ◌∷◌, ◌++◌, length, refl, ap, sym, ◌∙◌, subst, codes, append_assoc}
use Rattle.std.specs.Prelude.{Option, Some, None, ◌==◌, ◌||◌, nat_lt}
use Rattle.std.proofs.lemmas.List.{map-append}
use Rattle.std.proofs.lemmas.Bool.{cond_both, ltb-true, ltb-false, eqb-true, lt-ltb, le-ltb}
use Rattle.std.proofs.lemmas.Bool.Decides.{nat_tests}
use Rattle.tree.specs.declared.ops.Op.TheVariants.{Pow, Mul, Neg}
use Rattle.f77_grammar.specs.expressions.Squeezing.{Symbol77, Char, Text, Broken}
use Rattle.f77_grammar.specs.expressions.Words.{Word77, Number, Wide, Truth, Name, Head, Operator, Constant}
use Rattle.f77_grammar.specs.expressions.Spelling.{is_letter_or_digit, Stops77, value, IsName77, Spelled77, chars77, SpelledBy77, goes_on77, IsWhole77, Begins77}
use Rattle.reading.specs.Characters.{is_digit, is_letter, Pass, IsDigits}
use Rattle.f77_expressions.specs.Lexing.{Run, longer, run_of, Front, some, literal, named, named_by, word_by, name, strip, or_else, first_of, operators, marks, either, word}

whole_run : (p : ℕ → Bool) (a : List ℕ) (r : List Symbol77) → Pass p a → Stops77 p r → run_of p (chars77 a ++ r) ≡ record { front = a; rest = r }
whole_run p [] [] h s = refl
whole_run p [] (Char c ∷ ss) h s = rw s refl
whole_run p [] (t ∷ ss) h s = refl
whole_run p (c ∷ a) r h s = rw h.0 (ap (longer c) (whole_run p a r h.1 s))

-- a letter is no digit
or_false : (a b : Bool) → (a || b) ≡ false → (a ≡ false) × (b ≡ false)
or_false true b h = cc
or_false false b h = (refl, h)

letter_no_digit : (c : ℕ) → IsTrue (is_letter c) → is_digit c ≡ false
letter_no_digit c h = grind (arith, nat_tests)

letter_inner : (c : ℕ) → IsTrue (is_letter c) → IsTrue (is_letter_or_digit c)
letter_inner c h = grind (arith, nat_tests)

not_inner : (c : ℕ) → goes_on77 c ≡ false → (is_letter_or_digit c ≡ false) × ((c == 40) ≡ false)
not_inner c h = or_false (is_letter_or_digit c) (c == 40) h

inner_stops : (r : List Symbol77) → Stops77 goes_on77 r → Stops77 is_letter_or_digit r
inner_stops [] h = tt
inner_stops (Char c ∷ ss) h = (not_inner c h).0
inner_stops (s ∷ ss) h = tt

named_end : (x : List ℕ) (r : List Symbol77) → Stops77 goes_on77 r → named x r ≡ some (Name x) r
named_end x [] h = refl
named_end x (Char c ∷ ss) h = ap (λ (b : Bool). named_by b x c ss) (not_inner c h).1
named_end x (s ∷ ss) h = refl

star_end : (r : List Symbol77) → Stops77 (λ c. c == 42) r → word (Char 42 ∷ r) ≡ some (Operator Mul) r
star_end [] h = refl
star_end (Char c ∷ ss) h = let e : (42 == c) ≡ false = grind (arith, nat_tests) in rw e refl
star_end (s ∷ ss) h = refl

literal_is : (a : List ℕ) (r : List Symbol77) → IsDigits a → Stops77 is_digit r → word (chars77 a ++ r) ≡ literal (record { front = a; rest = r })
literal_is [] r h s = absurd h
literal_is (c ∷ cs) r h s = ap (λ (b : Bool). word_by b (is_letter c) (Char c ∷ (chars77 cs ++ r))) h.0 ∙ ap literal (whole_run is_digit (c ∷ cs) r h s)

short_name : (x : List ℕ) (r : List Symbol77) → length x ≤ 6 → name (record { front = x; rest = r }) ≡ named x r
short_name x r h = let e : nat_lt 6 (length x) ≡ false = grind (arith, nat_tests) in rw e refl

name_is : (x : List ℕ) (r : List Symbol77) → IsName77 x → Stops77 is_letter_or_digit r → word (chars77 x ++ r) ≡ named x r
name_is [] r h s = absurd h
name_is (c ∷ cs) r h s =
    ap (λ (b : Bool). word_by b (is_letter c) (Char c ∷ (chars77 cs ++ r))) (letter_no_digit c h.0)
    ∙ (ap (λ (b : Bool). word_by false b (Char c ∷ (chars77 cs ++ r))) h.0
    ∙ (ap name (whole_run is_letter_or_digit (c ∷ cs) r (letter_inner c h.0, h.1) s) ∙ short_name (c ∷ cs) r (omega (arith, h.2))))

head_is : (x : List ℕ) (r : List Symbol77) → IsName77 x → word (chars77 (x ++ codes "(") ++ r) ≡ some (Head x) r
head_is x r h =
    ap (λ (q : List Symbol77). word (q ++ r)) (map-append Char x (codes "("))
    ∙ (ap word (append_assoc (chars77 x) (Char 40 ∷ []) r) ∙ name_is x (Char 40 ∷ r) h refl)

narrow : (n : ℤ) (a : List ℕ) (r : List Symbol77) → n ≡ pos (value a) → value a < 2 ^ 127 → literal (record { front = a; rest = r }) ≡ some (Number n) r
narrow n a r e h = let k : nat_lt (value a) (2 ^ 127) ≡ true = lt-ltb _ _ h in rw (k, e) refl

wide : (a : List ℕ) (r : List Symbol77) → 2 ^ 127 ≤ value a → literal (record { front = a; rest = r }) ≡ some Wide r
wide a r h = let k : nat_lt (value a) (2 ^ 127) ≡ false = le-ltb _ _ h in rw k refl

found_chars : (w : Word77) (a : List ℕ) (r : List Symbol77) → Spelled77 w a → IsWhole77 w r → word (chars77 a ++ r) ≡ some w r
found_chars (Number n) a r h w = literal_is a r h.0 w ∙ narrow n a r h.1 h.2
found_chars Wide a r h w = literal_is a r h.0 w ∙ wide a r h.1
found_chars (Truth true) a r h w = ap (λ (q : List ℕ). word (chars77 q ++ r)) h
found_chars (Truth false) a r h w = ap (λ (q : List ℕ). word (chars77 q ++ r)) h
found_chars (Name x) a r h w = ap (λ (q : List ℕ). word (chars77 q ++ r)) h.0 ∙ (name_is x r h.1 (inner_stops r w) ∙ named_end x r w)
found_chars (Head x) a r h w = ap (λ (q : List ℕ). word (chars77 q ++ r)) h.0 ∙ head_is x r h.1
found_chars (Operator Neg) a r h w = absurd h
found_chars (Operator Mul) a r h w = ap (λ (q : List ℕ). word (chars77 q ++ r)) h ∙ star_end r w
found_chars (Operator o) a r h w = ap (λ (q : List ℕ). word (chars77 q ++ r)) h
found_chars (Constant t) a r h w = absurd h
found_chars t a r h w = ap (λ (q : List ℕ). word (chars77 q ++ r)) h

-- a word is found where it stands whole
pub found : (w : Word77) (a r : List Symbol77) → SpelledBy77 w a → IsWhole77 w r → word (a ++ r) ≡ some w r
found (Constant t) a r h k = ap (λ (q : List Symbol77). word (q ++ r)) h
found w a r h k = ap (λ (q : List Symbol77). word (q ++ r)) h.1 ∙ found_chars w h.0 r h.2 k

pub begun : (text : List Symbol77) (w : Word77) (rest : List Symbol77) → Begins77 text w rest → word text ≡ some w rest
begun text w rest b = ap word b.same ∙ found w b.front rest b.spelled b.whole

-- ---- and what is found is a word

record Parts (p : ℕ → Bool) (text : List Symbol77) (r : Run) : Type 0 where
  same : text ≡ chars77 r.front ++ r.rest
  pass : Pass p r.front
  stop : Stops77 p r.rest

run_parts : (p : ℕ → Bool) (text : List Symbol77) → Parts p text (run_of p text)
run_parts p [] = record { same = refl; pass = tt; stop = tt }
run_parts p (Char c ∷ ss) =
    let h = run_parts p ss in
    cond_both (p c) (longer c (run_of p ss)) (record { front = []; rest = Char c ∷ ss }) (λ r. Parts p (Char c ∷ ss) r)
    (λ e. record { same = ap (λ (q : List Symbol77). Char c ∷ q) h.same; pass = (e, h.pass); stop = h.stop })
    (λ e. record { same = refl; pass = tt; stop = e })
run_parts p (s ∷ ss) = record { same = refl; pass = tt; stop = tt }

none_some : {P : Type 0} (w : Front) → None ≡ Some w → P
none_some w e = cc

the_same : (v w : Front) → Some v ≡ Some w → v ≡ w
the_same v w e = cc

abbrev BeginsWith : List Symbol77 → Front → Type 0
BeginsWith text w = Begins77 text w.word w.rest

by_word : (text : List Symbol77) (t : Word77) (r : List Symbol77) (w : Front) → some t r ≡ Some w → BeginsWith text (record { word = t; rest = r }) → BeginsWith text w
by_word text t r w e h = subst (BeginsWith text) (the_same _ w e) h

literal_word : (c : ℕ) (ss : List Symbol77) (w : Front) → is_digit c ≡ true → literal (run_of is_digit (Char c ∷ ss)) ≡ Some w → BeginsWith (Char c ∷ ss) w
literal_word c ss w d =
    let r = longer c (run_of is_digit ss) in
    let h = run_parts is_digit ss in
    let is : run_of is_digit (Char c ∷ ss) ≡ r = rw d refl in
    let same : Char c ∷ ss ≡ chars77 r.front ++ r.rest = ap (λ (q : List Symbol77). Char c ∷ q) h.same in
    rw is (cond_both (nat_lt (value r.front) (2 ^ 127)) (Number (pos (value r.front))) Wide (λ t. some t r.rest ≡ Some w → BeginsWith (Char c ∷ ss) w)
    (λ e k. by_word _ _ _ w k (record { front = chars77 r.front; same = same; spelled = (r.front, refl, ((d, h.pass), refl, ltb-true _ _ e)); whole = h.stop }))
    (λ e k. by_word _ _ _ w k (record { front = chars77 r.front; same = same; spelled = (r.front, refl, ((d, h.pass), ltb-false _ _ e)); whole = h.stop })))

goes_not : (c : ℕ) → is_letter_or_digit c ≡ false → (c == 40) ≡ false → goes_on77 c ≡ false
goes_not c h k = rw (h, k) refl

head_same : (x : List ℕ) (c : ℕ) (ss : List Symbol77) → c ≡ 40 → chars77 x ++ Char c ∷ ss ≡ chars77 (x ++ codes "(") ++ ss
head_same x c ss e =
    ap (λ (q : ℕ). chars77 x ++ Char q ∷ ss) e
    ∙ (sym (append_assoc (chars77 x) (Char 40 ∷ []) ss) ∙ ap (λ (q : List Symbol77). q ++ ss) (sym (map-append Char x (codes "("))))

named_by_word : (b : Bool) (x : List ℕ) (c : ℕ) (ss text : List Symbol77) (w : Front) → (c == 40) ≡ b → text ≡ chars77 x ++ Char c ∷ ss → IsName77 x → is_letter_or_digit c ≡ false
    → named_by b x c ss ≡ Some w → BeginsWith text w
named_by_word true x c ss text w k same n s e =
    by_word text _ _ w e (record { front = chars77 (x ++ codes "("); same = same ∙ head_same x c ss (eqb-true c 40 k); spelled = (x ++ codes "(", refl, (refl, n)); whole = tt })
named_by_word false x c ss text w k same n s e =
    by_word text _ _ w e (record { front = chars77 x; same = same; spelled = (x, refl, (refl, n)); whole = goes_not c s k })

named_word : (x : List ℕ) (r text : List Symbol77) (w : Front) → text ≡ chars77 x ++ r → IsName77 x → Stops77 is_letter_or_digit r → named x r ≡ Some w → BeginsWith text w
named_word x [] text w same n s e = by_word text _ _ w e (record { front = chars77 x; same = same; spelled = (x, refl, (refl, n)); whole = tt })
named_word x (Char c ∷ ss) text w same n s e = named_by_word (c == 40) x c ss text w refl same n s e
named_word x (t ∷ ss) text w same n s e = by_word text _ _ w e (record { front = chars77 x; same = same; spelled = (x, refl, (refl, n)); whole = tt })

name_word : (c : ℕ) (ss : List Symbol77) (w : Front) → is_letter c ≡ true → name (run_of is_letter_or_digit (Char c ∷ ss)) ≡ Some w → BeginsWith (Char c ∷ ss) w
name_word c ss w d =
    let r = longer c (run_of is_letter_or_digit ss) in
    let h = run_parts is_letter_or_digit ss in
    let in_c : is_letter_or_digit c ≡ true = letter_inner c d in
    let is : run_of is_letter_or_digit (Char c ∷ ss) ≡ r = rw in_c refl in
    rw is (cond_both (nat_lt 6 (length r.front)) None (named r.front r.rest) (λ o. o ≡ Some w → BeginsWith (Char c ∷ ss) w)
    (λ e k. none_some w k)
    (λ e k. named_word r.front r.rest (Char c ∷ ss) w (ap (λ (q : List Symbol77). Char c ∷ q) h.same) (d, h.pass, omega (arith, ltb-false _ _ e)) h.stop k))

abbrev IsFixed : Word77 → Type 0
IsFixed (Number n) = ⊥
IsFixed Wide = ⊥
IsFixed (Name x) = ⊥
IsFixed (Head x) = ⊥
IsFixed (Constant x) = ⊥
IsFixed t = Unit {0}

abbrev AreFixed : List (List ℕ × Word77) → Type 0
AreFixed [] = Unit {0}
AreFixed (w ∷ ws) = Spelled77 w.1 w.0 × IsFixed w.1 × AreFixed ws

operators_fixed : AreFixed operators
operators_fixed = (refl, tt, (refl, tt, (refl, tt, (refl, tt, (refl, tt, (refl, tt, (refl, tt, (refl, tt, (refl, tt, (refl, tt, (refl, tt, (refl, tt, (refl, tt, (refl, tt, (refl, tt, (refl, tt, tt))))))))))))))))

marks_fixed : AreFixed marks
marks_fixed = (refl, tt, (refl, tt, (refl, tt, (refl, tt, (refl, tt, (refl, tt, (refl, tt, tt)))))))

strip_same : (w : List ℕ) (text rest : List Symbol77) → strip w text ≡ Some rest → text ≡ chars77 w ++ rest
strip_same [] text rest e = cc
strip_same (w ∷ ws) [] rest e = cc
strip_same (w ∷ ws) (Char c ∷ ss) rest e =
    cond_both (w == c) (strip ws ss) None (λ o. o ≡ Some rest → Char c ∷ ss ≡ Char w ∷ (chars77 ws ++ rest))
    (λ k f. let m : w ≡ c = eqb-true w c k in let n = strip_same ws ss rest f in cc)
    (λ k f. cc) e
strip_same (w ∷ ws) (t ∷ ss) rest e = cc

record IsFixedWord (text : List Symbol77) (w : Front) : Type 0 where
  front : List ℕ
  same : text ≡ chars77 front ++ w.rest
  spelled : Spelled77 w.word front
  is_fixed : IsFixed w.word

or_else_word : (o : Option (List Symbol77)) (t : Word77) (next : Option Front) (text : List Symbol77) (front : List ℕ) (w : Front) → ((rest : List Symbol77) → o ≡ Some rest → text ≡ chars77 front ++ rest)
    → Spelled77 t front → IsFixed t → (next ≡ Some w → IsFixedWord text w) → or_else o t next ≡ Some w → IsFixedWord text w
or_else_word (Some rest) t next text front w same s f later e =
    subst (IsFixedWord text) (the_same _ w e) (record { front = front; same = same rest refl; spelled = s; is_fixed = f })
or_else_word None t next text front w same s f later e = later e

first_word : (ws : List (List ℕ × Word77)) (text : List Symbol77) (w : Front) → AreFixed ws → first_of ws text ≡ Some w → IsFixedWord text w
first_word [] text w h e = none_some w e
first_word (v ∷ ws) text w h e =
    or_else_word (strip v.0 text) v.1 (first_of ws text) text v.0 w (λ rest k. strip_same v.0 text rest k) h.0 h.1 (λ k. first_word ws text w h.2 k) e

either_word : (o next : Option Front) (text : List Symbol77) (w : Front) → (o ≡ Some w → IsFixedWord text w) → (next ≡ Some w → IsFixedWord text w) → either o next ≡ Some w → IsFixedWord text w
either_word (Some f) next text w h k e = h e
either_word None next text w h k e = k e

mul_pow : {P : Type 0} (r s : List Symbol77) → some (Operator Mul) r ≡ some (Operator Pow) s → P
mul_pow r s e =
    let q : Operator Mul ≡ Operator Pow = ap (λ (w : Front). w.word) (the_same _ _ e) in
    let z : ⊥ = cc in absurd z

star_by : (b : Bool) (c : ℕ) (ss : List Symbol77) → (c == 42) ≡ b → word (Char 42 ∷ (Char c ∷ ss)) ≡ some (Operator Mul) (Char c ∷ ss) → b ≡ false
star_by true c ss k e =
    let m : 42 ≡ c = sym (eqb-true c 42 k) in
    mul_pow (Char c ∷ ss) ss (sym e ∙ ap (λ (q : ℕ). word (Char 42 ∷ (Char q ∷ ss))) (sym m))
star_by false c ss k e = refl

star_whole : (r : List Symbol77) → word (Char 42 ∷ r) ≡ some (Operator Mul) r → Stops77 (λ c. c == 42) r
star_whole [] e = tt
star_whole (Char c ∷ ss) e = star_by (c == 42) c ss refl e
star_whole (s ∷ ss) e = tt

fixed_whole : (t : Word77) (front : List ℕ) (r text : List Symbol77) → IsFixed t → Spelled77 t front → text ≡ chars77 front ++ r → word text ≡ some t r → IsWhole77 t r
fixed_whole (Operator Mul) front r text f s same e =
    star_whole r (ap word (ap (λ (q : List ℕ). chars77 q ++ r) (sym s) ∙ sym same) ∙ e)
fixed_whole (Number n) front r text f s same e = absurd f
fixed_whole Wide front r text f s same e = absurd f
fixed_whole (Name x) front r text f s same e = absurd f
fixed_whole t front r text f s same e = tt

by_chars : (w : Word77) (cs : List ℕ) → Spelled77 w cs → SpelledBy77 w (chars77 cs)
by_chars (Constant t) cs h = absurd h
by_chars w cs h = (cs, refl, h)

word_by_is : (d l : Bool) (c : ℕ) (ss : List Symbol77) (w : Front) → is_digit c ≡ d → is_letter c ≡ l → word_by d l (Char c ∷ ss) ≡ Some w → BeginsWith (Char c ∷ ss) w
word_by_is true l c ss w d k e = literal_word c ss w d e
word_by_is false true c ss w d k e = name_word c ss w k e
word_by_is false false c ss w d k e =
    let f = either_word (first_of operators (Char c ∷ ss)) (first_of marks (Char c ∷ ss)) (Char c ∷ ss) w (first_word operators _ w operators_fixed) (first_word marks _ w marks_fixed) e in
    let n : word (Char c ∷ ss) ≡ Some w = ap (λ (b : Bool). word_by b (is_letter c) (Char c ∷ ss)) d ∙ (ap (λ (b : Bool). word_by false b (Char c ∷ ss)) k ∙ e) in
    record { front = chars77 f.front; same = f.same; spelled = by_chars w.word f.front f.spelled; whole = fixed_whole w.word f.front w.rest (Char c ∷ ss) f.is_fixed f.spelled f.same n }

pub is_word : (text : List Symbol77) (w : Front) → word text ≡ Some w → Begins77 text w.word w.rest
is_word [] w e = none_some w e
is_word (Char c ∷ ss) w e = word_by_is (is_digit c) (is_letter c) c ss w refl refl e
is_word (Text t ∷ ss) w e = by_word (Text t ∷ ss) _ _ w e (record { front = Text t ∷ []; same = refl; spelled = refl; whole = tt })
is_word (Broken ∷ ss) w e = none_some w e
