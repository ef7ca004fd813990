-- Names and labels at the front of a text.
use Rattle.std.proofs.Common.{◌≡◌, ℕ, ◌+◌, ◌-◌, ◌*◌, ◌^◌, ◌<◌, ◌≤◌, Bool, true, false, List, [], ◌∷◌, ◌++◌, length, refl, ap, sym, ◌∙◌, subst, append_assoc, IsTrue, arith, length-append, add-one, lit<}
use Rattle.std.proofs.Math.Nat.{pow-le-pow_right, pow-succ'}
use Rattle.std.proofs.lemmas.List.{map-append}
use Rattle.std.proofs.lemmas.List.Sums.{fold-append}
use Rattle.std.proofs.lemmas.Bool.Decides.{nat_tests}
use Rattle.f77_grammar.specs.expressions.Squeezing.{Symbol77, Char}
use Rattle.f77_grammar.specs.expressions.Spelling.{is_letter_or_digit, IsName77, value, chars77, Stops77}
use Rattle.reading.specs.Characters.{is_digit, is_letter, Pass, IsDigits}
use Rattle.f77_grammar.specs.statements.Recognition.{BeginsWithLetter}
use Rattle.f77_words.specs.keywords.Fronts.{IsLabelled, IsNamed}

-- ---- characters at the front that pass a test

same_first : (c d : ℕ) (r s : List Symbol77) → Char c ∷ r ≡ Char d ∷ s → c ≡ d
same_first c d r s e = cc

same_rest : (c d : ℕ) (r s : List Symbol77) → Char c ∷ r ≡ Char d ∷ s → r ≡ s
same_rest c d r s e = cc

pub run_within : (p : ℕ → Bool) (a b : List ℕ) (r s : List Symbol77) → Pass p a → Stops77 p s → chars77 a ++ r ≡ chars77 b ++ s → length a ≤ length b
run_within p [] b r s h t e = omega arith
run_within p (c ∷ a) [] r s h t e =
    let k : p c ≡ false = subst (Stops77 p) (sym e) t in let z : ⊥ = cc (k, h.0) in absurd z
run_within p (c ∷ a) (d ∷ b) r s h t e = let l : length a ≤ length b = run_within p a b r s h.1 t (same_rest c d _ _ e) in omega arith

pub run_same : (p : ℕ → Bool) (a b : List ℕ) (r s : List Symbol77) → Pass p a → Pass p b → Stops77 p r → Stops77 p s → chars77 a ++ r ≡ chars77 b ++ s → (a ≡ b) × (r ≡ s)
run_same p [] [] r s h k t u e = (refl, e)
run_same p [] (d ∷ b) r s h k t u e = absurd (omega (arith, run_within p (d ∷ b) [] s r k t (sym e)))
run_same p (c ∷ a) [] r s h k t u e = absurd (omega (arith, run_within p (c ∷ a) [] r s h u e))
run_same p (c ∷ a) (d ∷ b) r s h k t u e =
    let q = run_same p a b r s h.1 k.1 t u (same_rest c d _ _ e) in
    let f : c ≡ d = same_first c d _ _ e in let g : a ≡ b = q.0 in (cc, q.1)

pub pass_push : (p : ℕ → Bool) (a : List ℕ) (c : ℕ) → Pass p a → IsTrue (p c) → Pass p (a ++ c ∷ [])
pass_push p [] c h k = (k, tt)
pass_push p (d ∷ a) c h k = (h.0, pass_push p a c h.1 k)

-- so many characters have been read
pub record IsReadTo (p : ℕ → Bool) (text rest : List Symbol77) (count : ℕ) : Type 0 where
  pub front : List ℕ
  pub same : text ≡ chars77 front ++ rest
  pub passes : Pass p front
  pub many : length front ≡ count

pub same_push : (a : List ℕ) (c : ℕ) (text rest ss : List Symbol77) → text ≡ chars77 a ++ rest → rest ≡ Char c ∷ ss → text ≡ chars77 (a ++ c ∷ []) ++ ss
same_push a c text rest ss e f =
    e ∙ (ap (λ (q : List Symbol77). chars77 a ++ q) f ∙ (sym (append_assoc (chars77 a) (Char c ∷ []) ss) ∙ ap (λ (q : List Symbol77). q ++ ss) (sym (map-append Char a (c ∷ [])))))

abbrev pub read_nothing : (p : ℕ → Bool) (text : List Symbol77) → IsReadTo p text text 0
read_nothing p text = record { front = []; same = refl; passes = tt; many = refl }

abbrev pub read_more : (p : ℕ → Bool) (text rest ss : List Symbol77) (count c : ℕ) → rest ≡ Char c ∷ ss → IsTrue (p c) → IsReadTo p text rest count → IsReadTo p text ss (count + 1)
read_more p text rest ss count c e h k = record {
  front = k.front ++ c ∷ [];
  same = same_push k.front c text rest ss k.same e;
  passes = pass_push p k.front c k.passes h;
  many = omega (arith, length-append k.front (c ∷ []), k.many);
}

-- ---- labels

pub record IsNumberTo (text rest : List Symbol77) (count number : ℕ) : Type 0 where
  pub read : IsReadTo is_digit text rest count
  pub value_is : value read.front ≡ number
  pub below : number < 10 ^ count

pub number_nothing : (text : List Symbol77) → IsNumberTo text text 0 0
number_nothing text = record { read = read_nothing is_digit text; value_is = refl; below = lit< tt }

value_push : (a : List ℕ) (c : ℕ) → value (a ++ c ∷ []) ≡ 10 * value a + (c - 48)
value_push a c = fold-append (λ (n d : ℕ). 10 * n + (d - 48)) 0 a (c ∷ [])

digit_value : (c : ℕ) → IsTrue (is_digit c) → (48 ≤ c) × (c ≤ 57)
digit_value c h = (grind (arith, nat_tests), grind (arith, nat_tests))

pub number_more : (text rest ss : List Symbol77) (count number c : ℕ) → rest ≡ Char c ∷ ss → IsTrue (is_digit c) → IsNumberTo text rest count number
    → IsNumberTo text ss (count + 1) (10 * number + (c - 48))
number_more text rest ss count number c e h k =
    let d = digit_value c h in
    let low : 48 ≤ c = d.0 in
    let high : c ≤ 57 = d.1 in
    let b : number < 10 ^ count = k.below in
    let s : 10 ^ (count + 1) ≡ 10 * 10 ^ count = rw (add-one, pow-succ') refl in
    record {
      read = read_more is_digit text rest ss count c e h k.read;
      value_is = value_push k.read.front c ∙ ap (λ (n : ℕ). 10 * n + (c - 48)) k.value_is;
      below = rw s (omega arith);
    }

-- a number of at most five digits
pub number_small : (text rest : List Symbol77) (count number : ℕ) → IsNumberTo text rest count number → count ≤ 5 → number < 100000
number_small text rest count number k l =
    let b : number < 10 ^ count = k.below in
    let m : 10 ^ count ≤ 10 ^ 5 = pow-le-pow_right {n = 10} (lit< tt) l in
    let s : 10 ^ 5 ≡ 100000 = refl in omega arith

is_digits : (a : List ℕ) → Pass is_digit a → 0 < length a → IsDigits a
is_digits [] h l = absurd (omega arith)
is_digits (c ∷ a) h l = h

pub digits_pass : (a : List ℕ) → IsDigits a → Pass is_digit a
digits_pass [] h = absurd h
digits_pass (c ∷ a) h = h

pub some_digits : (a : List ℕ) → IsDigits a → 0 < length a
some_digits [] h = absurd h
some_digits (c ∷ a) h = omega arith

pub labelled : (text rest : List Symbol77) (count number : ℕ) → IsNumberTo text rest count number → count ≤ 5 → 0 < count → Stops77 is_digit rest → IsLabelled text number rest
labelled text rest count number k l m s = record {
  label = k.read.front;
  is_label = (is_digits k.read.front k.read.passes (omega (arith, k.read.many)), omega (arith, k.read.many));
  same = k.read.same;
  number_is = k.value_is;
  whole = s;
}

pub label_only : (text rest rest' : List Symbol77) (count number number' : ℕ) → IsNumberTo text rest count number → Stops77 is_digit rest → IsLabelled text number' rest' → (number ≡ number') × (rest ≡ rest')
label_only text rest rest' count number number' k s h =
    let q = run_same is_digit k.read.front h.label rest rest' k.read.passes (digits_pass h.label h.is_label.0) s h.whole (sym k.read.same ∙ h.same) in
    (sym k.value_is ∙ (ap value q.0 ∙ h.number_is), q.1)

pub no_digits : (text rest rest' : List Symbol77) (count number number' : ℕ) → IsNumberTo text rest count number → Stops77 is_digit rest → count ≡ 0 → IsLabelled text number' rest' → ⊥
no_digits text rest rest' count number number' k s z h =
    let l : length h.label ≤ length k.read.front =
    run_within is_digit h.label k.read.front rest' rest (digits_pass h.label h.is_label.0) s (sym h.same ∙ k.read.same) in
    let m : 0 < length h.label = some_digits h.label h.is_label.0 in omega (arith, k.read.many)

pub many_digits : (text rest ss rest' : List Symbol77) (count number number' c : ℕ) → IsNumberTo text rest count number → count ≡ 5 → rest ≡ Char c ∷ ss → IsTrue (is_digit c) → IsLabelled text number' rest' → ⊥
many_digits text rest ss rest' count number number' c k f e d h =
    let more = read_more is_digit text rest ss count c e d k.read in
    let l : length more.front ≤ length h.label = run_within is_digit more.front h.label ss rest' more.passes h.whole (sym more.same ∙ h.same) in
    let m : length h.label ≤ 5 = h.is_label.1 in omega (arith, more.many)

-- ---- names

letter_inner : (c : ℕ) → IsTrue (is_letter c) → IsTrue (is_letter_or_digit c)
letter_inner c h = grind (arith, nat_tests)

name_pass : (x : List ℕ) → IsName77 x → Pass is_letter_or_digit x
name_pass [] h = absurd h
name_pass (c ∷ cs) h = (letter_inner c h.0, h.1)

name_length : (x : List ℕ) → IsName77 x → length x ≤ 6
name_length [] h = absurd h
name_length (c ∷ cs) h = omega (arith, h.2)

is_name : (x : List ℕ) (text rest : List Symbol77) → text ≡ chars77 x ++ rest → BeginsWithLetter text → Stops77 is_letter_or_digit rest → Pass is_letter_or_digit x → length x ≤ 6 → IsName77 x
is_name [] text [] e b s p l = subst BeginsWithLetter e b
is_name [] text (Char c ∷ ss) e b s p l =
    let k : is_letter c ≡ true = subst BeginsWithLetter e b in let m = letter_inner c k in let z : ⊥ = cc in absurd z
is_name [] text (t ∷ ss) e b s p l = subst BeginsWithLetter e b
is_name (c ∷ cs) text rest e b s p l = (subst BeginsWithLetter e b, p.1, omega arith)

pub named : (text rest : List Symbol77) (count : ℕ) → IsReadTo is_letter_or_digit text rest count → count ≤ 6 → BeginsWithLetter text → Stops77 is_letter_or_digit rest → IsNamed text rest
named text rest count k l b s = record { name = k.front; is_name = is_name k.front text rest k.same b s k.passes (omega (arith, k.many)); same = k.same; whole = s }

pub name_only : (text rest rest' : List Symbol77) (count : ℕ) → IsReadTo is_letter_or_digit text rest count → Stops77 is_letter_or_digit rest → IsNamed text rest' → rest ≡ rest'
name_only text rest rest' count k s h =
    (run_same is_letter_or_digit k.front h.name rest rest' k.passes (name_pass h.name h.is_name) s h.whole (sym k.same ∙ h.same)).1

pub long_name : (text rest ss rest' : List Symbol77) (count c : ℕ) → IsReadTo is_letter_or_digit text rest count → count ≡ 6 → rest ≡ Char c ∷ ss → IsTrue (is_letter_or_digit c) → IsNamed text rest' → ⊥
long_name text rest ss rest' count c k f e d h =
    let more = read_more is_letter_or_digit text rest ss count c e d k in
    let l : length more.front ≤ length h.name = run_within is_letter_or_digit more.front h.name ss rest' more.passes h.whole (sym more.same ∙ h.same) in
    let m : length h.name ≤ 6 = name_length h.name h.is_name in omega (arith, more.many)

begins_by : (x : List ℕ) (text rest : List Symbol77) → text ≡ chars77 x ++ rest → IsName77 x → BeginsWithLetter text
begins_by [] text rest e h = absurd h
begins_by (c ∷ cs) text rest e h = subst BeginsWithLetter (sym e) h.0

pub no_name : (text rest : List Symbol77) → (BeginsWithLetter text → ⊥) → IsNamed text rest → ⊥
no_name text rest n h = n (begins_by h.name text rest h.same h.is_name)
