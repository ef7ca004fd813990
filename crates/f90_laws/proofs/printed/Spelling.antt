-- How words follow one another in a text, in which they end where the next one lets them.
use Rattle.std.proofs.Common.{◌≡◌, refl, sym, ap, subst, ◌∙◌, arith, ℕ, ◌≤◌, Bool, true, false, not, ◌&&◌, ◌||◌, cond, IsTrue, List, [], ◌∷◌, ◌++◌, append_assoc, append-nil, codes}
use Rattle.std.specs.Prelude.{nat_le, ◌==◌}
use Rattle.std.specs.List.{AllByRecursion, list_all}
use Rattle.std.proofs.lemmas.Bool.{and_parts, and_from, or_parts}
use Rattle.std.proofs.lemmas.Bool.Decides.{nat_tests}
use Rattle.f90_grammar.specs.FreeForm.{has_comment, is_open_behind}
use Rattle.f90_grammar.specs.Words as words
use Rattle.f90_grammar.specs.Words.{Word90, Symbol90, Char, Gap, Text, Symbols, AreWords90, SpelledBy90, IsWhole90, Stops90, HasNoParenthesis, AreGaps, Begins90, IsName90, chars90, goes_on90}
use Rattle.reading.specs.Characters.{IsEnded, Pass, upper, is_letter, is_digit}
use Rattle.reading.specs.Characters as characters
use Rattle.f90_grammar.specs.Words.Symbols.{nothing, blank, character, constant}

-- ---- characters of words: none of them is a blank, an exclamation mark, an apostrophe or a small letter

abbrev pub is_plain : ℕ → Bool
is_plain c = nat_le 34 c && (nat_le c 96 && not (c == 39))

record IsPlain (c : ℕ) : Type 0 where
  low : 34 ≤ c
  high : c ≤ 96
  other : (c == 39) ≡ false

plain : (c : ℕ) → is_plain c ≡ true → IsPlain c
plain c h = record { low = grind (arith, nat_tests); high = grind (arith, nat_tests); other = grind (arith, nat_tests) }

upper_plain : (c : ℕ) → c ≤ 96 → upper c ≡ c
upper_plain c h = grind (arith, nat_tests)

not_32 : (c : ℕ) → 34 ≤ c → (c == 32) ≡ false
not_32 c h = grind (arith, nat_tests)

not_10 : (c : ℕ) → 34 ≤ c → (c == 10) ≡ false
not_10 c h = grind (arith, nat_tests)

not_33 : (c : ℕ) → 34 ≤ c → (c == 33) ≡ false
not_33 c h = grind (arith, nat_tests)

pub plain_symbols : (cs rest : List ℕ) (ss : List Symbol90) → list_all is_plain cs ≡ true → Symbols rest ss → Symbols (cs ++ rest) (chars90 cs ++ ss)
plain_symbols [] rest ss h r = r
plain_symbols (c ∷ cs) rest ss h r =
    let both = and_parts (is_plain c) (list_all is_plain cs) h in
    let k = plain c both.0 in
    subst (λ u. Symbols (c ∷ (cs ++ rest)) (Char u ∷ (chars90 cs ++ ss))) (upper_plain c k.high)
    (character c (not_32 c k.low) (not_10 c k.low) k.other (plain_symbols cs rest ss both.1 r))

-- ---- texts without comments, in which no constant stays open

abbrev pub IsPrintable : ℕ → Type 0
IsPrintable c = (32 ≤ c) × (c ≤ 126)

pub record IsTidy (cs : List ℕ) : Type 0 where
  pub printable : AllByRecursion IsPrintable cs
  pub comment : (rest : List ℕ) → has_comment false (cs ++ rest) ≡ has_comment false rest
  pub open_behind : (rest : List ℕ) → is_open_behind false (cs ++ rest) ≡ is_open_behind false rest

pub all_append : {A : Type 0} → (P : A → Type 0) (xs ys : List A) → AllByRecursion P xs → AllByRecursion P ys → AllByRecursion P (xs ++ ys)
all_append P [] ys h g = g
all_append P (x ∷ xs) ys h g = (h.0, all_append P xs ys h.1 g)

pub tidy_append : (xs ys : List ℕ) → IsTidy xs → IsTidy ys → IsTidy (xs ++ ys)
tidy_append xs ys h g = record {
  printable = all_append IsPrintable xs ys h.printable g.printable;
  comment = λ rest. ap (has_comment false) (append_assoc xs ys rest) ∙ (h.comment (ys ++ rest) ∙ g.comment rest);
  open_behind = λ rest. ap (is_open_behind false) (append_assoc xs ys rest) ∙ (h.open_behind (ys ++ rest) ∙ g.open_behind rest);
}

pub nothing_tidy : IsTidy []
nothing_tidy = record { printable = tt; comment = λ rest. refl; open_behind = λ rest. refl }

one_comment : (c : ℕ) (rest : List ℕ) (a b : Bool) → a ≡ false → b ≡ false → (a || has_comment (cond b true false) rest) ≡ has_comment false rest
one_comment c rest false false h g = refl
one_comment c rest true b h g = cc
one_comment c rest a true h g = cc

one_open : (rest : List ℕ) (b : Bool) → b ≡ false → is_open_behind (cond b true false) rest ≡ is_open_behind false rest
one_open rest false g = refl
one_open rest true g = cc

pub one_tidy : (c : ℕ) (cs : List ℕ) → IsPrintable c → (c == 33) ≡ false → (c == 39) ≡ false → IsTidy cs → IsTidy (c ∷ cs)
one_tidy c cs p m a h = record {
  printable = (p, h.printable);
  comment = λ rest. one_comment c (cs ++ rest) (c == 33) (c == 39) m a ∙ h.comment rest;
  open_behind = λ rest. one_open (cs ++ rest) (c == 39) a ∙ h.open_behind rest;
}

pub plain_tidy : (cs : List ℕ) → list_all is_plain cs ≡ true → IsTidy cs
plain_tidy [] h = nothing_tidy
plain_tidy (c ∷ cs) h =
    let both = and_parts (is_plain c) (list_all is_plain cs) h in
    let k = plain c both.0 in
    let low : 34 ≤ c = k.low in
    let high : c ≤ 96 = k.high in
    one_tidy c cs (omega arith, omega arith) (not_33 c k.low) k.other (plain_tidy cs both.1)

-- ---- what may follow a word

-- Anywhere asks nothing. At Start no character stands that a parenthesis, a colon or an operator before it takes to
-- itself, at Inside none that a parenthesis does, at Beyond none that a colon does. At Named no parenthesis stands, be it
-- behind blanks; at After the word before ends, and has no parenthesis of its own
pub data Place : Type 0 where
  Anywhere : Place
  Start : Place
  Inside : Place
  Beyond : Place
  Named : Place
  After : Place

abbrev pub is_joint : ℕ → Bool
is_joint c = (c == 41) || ((c == 42) || ((c == 47) || ((c == 58) || (c == 61))))

abbrev pub Follows : Place → List ℕ → List Symbol90 → Type 0
Follows Anywhere cs ss = Unit {0}
Follows Start cs ss = Stops90 is_joint ss
Follows Inside cs ss = Stops90 (λ c. c == 47) ss
Follows Beyond cs ss = Stops90 (λ c. c == 58) ss
Follows Named cs ss = HasNoParenthesis ss
Follows After cs ss = IsEnded cs × Stops90 goes_on90 ss × HasNoParenthesis ss

-- the characters have the words, and may stand there
pub record Stands (p : Place) (cs : List ℕ) (ws : List Word90) : Type 0 where
  pub symbols : List Symbol90
  pub are : Symbols cs symbols
  pub in_words : AreWords90 symbols ws
  pub follows : Follows p cs symbols

-- the characters are those of the words, wherever what comes behind them may stand at the place `from`; all may stand at
-- the place `to`
pub record Leads (from to : Place) (cs : List ℕ) (ws : List Word90) : Type 0 where
  pub stands : (rest : List ℕ) (more : List Word90) → Stands from rest more → Stands to (cs ++ rest) (ws ++ more)
  pub tidy : IsTidy cs

pub join : {a b c : Place} {f g : List ℕ} {us vs : List Word90} → Leads b c f us → Leads a b g vs → Leads a c (f ++ g) (us ++ vs)
join {a} {b} {c} {f} {g} {us} {vs} k l = record {
  stands = λ rest more s.
      subst (λ cs. Stands c cs ((us ++ vs) ++ more)) (sym (append_assoc f g rest))
      (subst (λ ws. Stands c (f ++ (g ++ rest)) ws) (sym (append_assoc us vs more))
      (k.stands (g ++ rest) (vs ++ more) (l.stands rest more s)));
  tidy = tidy_append f g k.tidy l.tidy;
}

pub no_words : {p : Place} → Leads p p [] []
no_words = record { stands = λ rest more s. s; tidy = nothing_tidy }

-- ---- blanks

gap_words : (ss : List Symbol90) (ws : List Word90) → AreWords90 ss ws → AreWords90 (Gap ∷ ss) ws
gap_words ss [] h = h
gap_words ss (w ∷ ws) h =
    (h.0, record { gaps = Gap ∷ h.1.gaps; front = h.1.front; same = ap (λ t. Gap ∷ t) h.1.same; are_gaps = h.1.are_gaps; spelled = h.1.spelled; whole = h.1.whole }, h.2)

spaced : (p q : Place) → ((rest : List ℕ) (ss : List Symbol90) → Follows p rest ss → Follows q (32 ∷ rest) (Gap ∷ ss)) → Leads p q (codes " ") []
spaced p q f = record {
  stands = λ rest more s. record { symbols = Gap ∷ s.symbols; are = blank s.are; in_words = gap_words s.symbols more s.in_words; follows = f rest s.symbols s.follows };
  tidy = one_tidy 32 [] (omega arith, omega arith) refl refl nothing_tidy;
}

pub start_blank : {p : Place} → Leads p Start (codes " ") []
start_blank {p} = spaced p Start (λ rest ss f. tt)

pub after_blank : Leads Named After (codes " ") []
after_blank = spaced Named After (λ rest ss f. (refl, tt, f))

-- ---- words

pub word : (p q : Place) (w : Word90) (cs : List ℕ) → list_all is_plain cs ≡ true → SpelledBy90 w (chars90 cs)
    → ((rest : List ℕ) (ss : List Symbol90) → Follows p rest ss → IsWhole90 w ss)
    → ((rest : List ℕ) (ss : List Symbol90) → Follows q (cs ++ rest) (chars90 cs ++ ss)) → Leads p q cs (w ∷ [])
word p q w cs are_plain spelled whole follows = record {
  stands = λ rest more s. record {
    symbols = chars90 cs ++ s.symbols;
    are = plain_symbols cs rest s.symbols are_plain s.are;
    in_words = (s.symbols, record { gaps = []; front = chars90 cs; same = refl; are_gaps = tt; spelled = spelled; whole = whole rest s.symbols s.follows }, s.in_words);
    follows = follows rest s.symbols;
  };
  tidy = plain_tidy cs are_plain;
}

pub stops_too : (p q : ℕ → Bool) → ((c : ℕ) → p c ≡ false → q c ≡ false) → (ss : List Symbol90) → Stops90 p ss → Stops90 q ss
stops_too p q f [] h = tt
stops_too p q f (Char c ∷ ss) h = f c h
stops_too p q f (Gap ∷ ss) h = tt
stops_too p q f (Text t ∷ ss) h = tt

unjoint : (q : ℕ → Bool) → ((c : ℕ) → is_joint c ≡ false → q c ≡ false) → (rest : List ℕ) (ss : List Symbol90) → Follows Start rest ss → Stops90 q ss
unjoint q f rest ss h = stops_too is_joint q f ss h

pub joint_41 : (c : ℕ) → is_joint c ≡ false → (c == 41) ≡ false
joint_41 c h = (or_parts (c == 41) _ h).0

pub joint_42 : (c : ℕ) → is_joint c ≡ false → (c == 42) ≡ false
joint_42 c h = (or_parts (c == 42) _ (or_parts (c == 41) _ h).1).0

pub joint_47 : (c : ℕ) → is_joint c ≡ false → (c == 47) ≡ false
joint_47 c h = (or_parts (c == 47) _ (or_parts (c == 42) _ (or_parts (c == 41) _ h).1).1).0

pub joint_58 : (c : ℕ) → is_joint c ≡ false → (c == 58) ≡ false
joint_58 c h = (or_parts (c == 58) _ (or_parts (c == 47) _ (or_parts (c == 42) _ (or_parts (c == 41) _ h).1).1).1).0

pub joint_61 : (c : ℕ) → is_joint c ≡ false → (c == 61) ≡ false
joint_61 c h = (or_parts (c == 58) (c == 61) (or_parts (c == 47) _ (or_parts (c == 42) _ (or_parts (c == 41) _ h).1).1).1).1

pub no_open : (c : ℕ) (ss : List Symbol90) → (c == 40) ≡ false → c ≡ 40 → (rest : List Symbol90) × (ss ≡ Char 47 ∷ rest)
no_open c ss h e = absurd (grind (arith, nat_tests))

pub inside : {p : Place} {cs : List ℕ} {ws : List Word90} → Leads p Start cs ws → Leads p Inside cs ws
inside l = record {
  stands = λ rest more s. (let t = l.stands rest more s in record { symbols = t.symbols; are = t.are; in_words = t.in_words; follows = unjoint (λ c. c == 47) joint_47 rest t.symbols t.follows });
  tidy = l.tidy;
}

comma_follows : (q : Place) (rest : List ℕ) (ss : List Symbol90) → Follows q (44 ∷ rest) (Char 44 ∷ ss)
comma_follows Anywhere rest ss = tt
comma_follows Start rest ss = refl
comma_follows Inside rest ss = refl
comma_follows Beyond rest ss = refl
comma_follows Named rest ss = no_open 44 ss refl
comma_follows After rest ss = (refl, refl, no_open 44 ss refl)

pub comma_word : {p q : Place} → Leads p q (codes ", ") (words.Comma ∷ [])
comma_word {p} {q} = join (word Start q words.Comma (codes ",") refl (codes ",", refl, refl) (λ rest ss f. tt) (λ rest ss. comma_follows q rest ss)) start_blank

pub colon_word : Leads Start After (codes ":") (words.Colon ∷ [])
colon_word = word Start After words.Colon (codes ":") refl (codes ":", refl, refl) (unjoint (λ c. c == 58) joint_58) (λ rest ss. (refl, refl, no_open 58 ss refl))

pub open_word : Leads Start Start (codes "(") (words.Open ∷ [])
open_word = word Start Start words.Open (codes "(") refl (codes "(", refl, refl) (unjoint (λ c. c == 47) joint_47) (λ rest ss. refl)

pub close_word : {p : Place} → Leads p After (codes ")") (words.Close ∷ [])
close_word {p} = word p After words.Close (codes ")") refl (codes ")", refl, refl) (λ rest ss f. tt) (λ rest ss. (refl, refl, no_open 41 ss refl))

pub close_beyond : {p : Place} → Leads p Beyond (codes ")") (words.Close ∷ [])
close_beyond {p} = word p Beyond words.Close (codes ")") refl (codes ")", refl, refl) (λ rest ss f. tt) (λ rest ss. refl)

pub open_list : {p : Place} → Leads p Start (codes "(/ ") (words.OpenList ∷ [])
open_list {p} = join (word Start Start words.OpenList (codes "(/") refl (codes "(/", refl, refl) (λ rest ss f. tt) (λ rest ss. refl)) start_blank

pub close_list : {p : Place} → Leads p After (codes " /)") (words.CloseList ∷ [])
close_list {p} = join after_blank (word p Named words.CloseList (codes "/)") refl (codes "/)", refl, refl) (λ rest ss f. tt) (λ rest ss. no_open 47 (Char 41 ∷ ss) refl))

pub equals_word : {p : Place} → Leads p After (codes " = ") (words.Equals ∷ [])
equals_word {p} =
    join after_blank (join (word Start Named words.Equals (codes "=") refl (codes "=", refl, refl) (unjoint (λ c. c == 61) joint_61) (λ rest ss. no_open 61 ss refl)) start_blank)

pub colons_word : {p : Place} → Leads p After (codes " :: ") (words.Colons ∷ [])
colons_word {p} = join after_blank (join (word Start Named words.Colons (codes "::") refl (codes "::", refl, refl) (λ rest ss f. tt) (λ rest ss. no_open 58 (Char 58 ∷ ss) refl)) start_blank)

-- ---- names and numbers

abbrev pub IsFirst : Place → Type 0
IsFirst After = ⊥
IsFirst _ = Unit {0}

-- a letter or a digit
abbrev pub is_wordy : ℕ → Bool
is_wordy c = is_letter c || is_digit c

wordy_joint : (c : ℕ) → is_wordy c ≡ true → is_joint c ≡ false
wordy_joint c h = grind (arith, nat_tests)

wordy_open : (c : ℕ) → is_wordy c ≡ true → (c == 40) ≡ false
wordy_open c h = grind (arith, nat_tests)

wordy_letter : (c : ℕ) → IsTrue (is_letter c) → is_wordy c ≡ true
wordy_letter c h = grind (arith, nat_tests)

wordy_digit : (c : ℕ) → IsTrue (is_digit c) → is_wordy c ≡ true
wordy_digit c h = grind (arith, nat_tests)

goes_on_plain : (c : ℕ) → goes_on90 c ≡ true → is_plain c ≡ true
goes_on_plain c h = grind (arith, nat_tests)

digit_goes_on : (c : ℕ) → is_digit c ≡ true → goes_on90 c ≡ true
digit_goes_on c h = grind (arith, nat_tests)

letter_goes_on : (c : ℕ) → is_letter c ≡ true → goes_on90 c ≡ true
letter_goes_on c h = grind (arith, nat_tests)

passes_plain : (cs : List ℕ) → Pass goes_on90 cs → list_all is_plain cs ≡ true
passes_plain [] h = refl
passes_plain (c ∷ cs) h = and_from (is_plain c) (list_all is_plain cs) (goes_on_plain c h.0) (passes_plain cs h.1)

digits_plain : (cs : List ℕ) → Pass is_digit cs → list_all is_plain cs ≡ true
digits_plain [] h = refl
digits_plain (c ∷ cs) h = and_from (is_plain c) (list_all is_plain cs) (goes_on_plain c (digit_goes_on c h.0)) (digits_plain cs h.1)

name_plain : (x : List ℕ) → IsName90 x → list_all is_plain x ≡ true
name_plain [] h = absurd h
name_plain (c ∷ cs) h = and_from (is_plain c) (list_all is_plain cs) (goes_on_plain c (letter_goes_on c h.0)) (passes_plain cs h.1)

wordy_follows : (q : Place) → IsFirst q → (c : ℕ) (rest : List ℕ) (ss : List Symbol90) → is_wordy c ≡ true → Follows q (c ∷ rest) (Char c ∷ ss)
wordy_follows Anywhere f c rest ss h = tt
wordy_follows Start f c rest ss h = wordy_joint c h
wordy_follows Inside f c rest ss h = joint_47 c (wordy_joint c h)
wordy_follows Beyond f c rest ss h = joint_58 c (wordy_joint c h)
wordy_follows Named f c rest ss h = no_open c ss (wordy_open c h)
wordy_follows After f c rest ss h = absurd f

name_follows : (q : Place) → IsFirst q → (x : List ℕ) → IsName90 x → (rest : List ℕ) (ss : List Symbol90) → Follows q (x ++ rest) (chars90 x ++ ss)
name_follows q f [] h rest ss = absurd h
name_follows q f (c ∷ cs) h rest ss = wordy_follows q f c (cs ++ rest) (chars90 cs ++ ss) (wordy_letter c h.0)

pub name_word : (q : Place) → IsFirst q → (x : List ℕ) → IsName90 x → Leads After q x (words.Name x ∷ [])
name_word q f x h = word After q (words.Name x) x (name_plain x h) (x, refl, (refl, h)) (λ rest ss g. (g.1, g.2)) (name_follows q f x h)

pub digits_word : (q : Place) → IsFirst q → (t : List ℕ) → characters.IsDigits t → Leads After q t (words.Digits t ∷ [])
digits_word q f [] h = absurd h
digits_word q f (c ∷ cs) h =
    word After q (words.Digits (c ∷ cs)) (c ∷ cs) (and_from (is_plain c) (list_all is_plain cs) (goes_on_plain c (digit_goes_on c h.0)) (digits_plain cs h.1))
    (c ∷ cs, refl, (refl, h)) (λ rest ss g. g.1) (λ rest ss. wordy_follows q f c (cs ++ rest) (chars90 cs ++ ss) (wordy_digit c h.0))

-- a name and the parenthesis behind it, with blanks between them
head_with : (p q : Place) (bs : List ℕ) (gs : List Symbol90) (x t : List ℕ) (us : List Word90) → IsFirst q → AreGaps gs
    → ((cs : List ℕ) (ss : List Symbol90) → Symbols cs ss → Symbols (bs ++ cs) (gs ++ ss))
    → IsTidy (bs ++ 40 ∷ []) → IsName90 x → Leads p Inside t us → Leads p q (x ++ (bs ++ (40 ∷ t))) (words.Head x ∷ us)
head_with p q bs gs x t us f gaps blanks tidy h l = record {
  stands = λ rest more s. (let i = l.stands rest more s in record {
    symbols = chars90 x ++ (gs ++ (Char 40 ∷ i.symbols));
    are =
        subst (λ cs. Symbols cs (chars90 x ++ (gs ++ (Char 40 ∷ i.symbols)))) (sym (append_assoc x (bs ++ (40 ∷ t)) rest ∙ ap (λ r. x ++ r) (append_assoc bs (40 ∷ t) rest)))
        (plain_symbols x (bs ++ (40 ∷ (t ++ rest))) (gs ++ (Char 40 ∷ i.symbols)) (name_plain x h) (blanks _ _ (character 40 refl refl refl i.are)));
    in_words = (
      i.symbols,
      record {
        gaps = [];
        front = chars90 x ++ (gs ++ Char 40 ∷ []);
        same = sym (append_assoc (chars90 x) (gs ++ Char 40 ∷ []) i.symbols ∙ ap (λ r. chars90 x ++ r) (append_assoc gs (Char 40 ∷ []) i.symbols));
        are_gaps = tt;
        spelled = (gs, refl, h, gaps);
        whole = i.follows;
      },
      i.in_words,
    );
    follows =
        subst (λ cs. Follows q cs (chars90 x ++ (gs ++ (Char 40 ∷ i.symbols)))) (sym (append_assoc x (bs ++ (40 ∷ t)) rest))
        (name_follows q f x h ((bs ++ (40 ∷ t)) ++ rest) (gs ++ (Char 40 ∷ i.symbols)));
  });
  tidy = tidy_append x (bs ++ (40 ∷ t)) (plain_tidy x (name_plain x h)) (subst IsTidy (append_assoc bs (40 ∷ []) t) (tidy_append (bs ++ 40 ∷ []) t tidy l.tidy));
}

pub head_word : {p : Place} {t : List ℕ} {us : List Word90} → (q : Place) → IsFirst q → (x : List ℕ) → IsName90 x → Leads p Inside t us → Leads p q (x ++ (40 ∷ t)) (words.Head x ∷ us)
head_word {p} {t} {us} q f x h l = head_with p q [] [] x t us f tt (λ cs ss s. s) (plain_tidy (codes "(") refl) h l

pub spaced_head : {p : Place} {t : List ℕ} {us : List Word90} → (q : Place) → IsFirst q → (x : List ℕ) → IsName90 x → Leads p Inside t us → Leads p q (x ++ (codes " (" ++ t)) (words.Head x ∷ us)
spaced_head {p} {t} {us} q f x h l =
    head_with p q (codes " ") (Gap ∷ []) x t us f tt (λ cs ss s. blank s) (one_tidy 32 (codes "(") (omega arith, omega arith) refl refl (plain_tidy (codes "(") refl)) h l

-- ---- a whole text

end_follows : (p : Place) → Follows p [] []
end_follows Anywhere = tt
end_follows Start = tt
end_follows Inside = tt
end_follows Beyond = tt
end_follows Named = tt
end_follows After = (tt, tt, tt)

pub has_words : {p q : Place} {cs : List ℕ} {ws : List Word90} → Leads p q cs ws → words.HasWords cs ws
has_words {p} {q} {cs} {ws} l =
    let s = l.stands [] [] (record { symbols = []; are = nothing; in_words = tt; follows = end_follows p }) in
    let e = subst (λ t. Stands q t (ws ++ [])) (append-nil cs) s in
    let f = subst (λ u. Stands q cs u) (append-nil ws) e in
    (f.symbols, f.are, f.in_words)

pub no_comment : {cs : List ℕ} → IsTidy cs → has_comment false cs ≡ false
no_comment {cs} t = ap (has_comment false) (sym (append-nil cs)) ∙ t.comment []

pub closed : {cs : List ℕ} → IsTidy cs → is_open_behind false cs ≡ false
closed {cs} t = ap (is_open_behind false) (sym (append-nil cs)) ∙ t.open_behind []
