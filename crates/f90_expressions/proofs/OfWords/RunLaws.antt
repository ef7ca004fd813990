-- Digits, names and words of fixed characters, character by character.
use Rattle.std.proofs.Common.{arith, ◌≡◌, ◌<◌, ◌≤◌, ℕ, ◌+◌, Bool, true, IsTrue, List, [], ◌∷◌, ◌++◌, length, refl, ap, sym, ◌∙◌, subst, append_assoc, append-nil, suc, length-append, drop, get_or, drop-cons, add-one}
use Rattle.std.specs.Prelude.{◌==◌, None}
use Rattle.std.specs.List.{list_all}
use Rattle.std.specs.Char.{is_ascii_alphabetic}
use Rattle.std.proofs.lemmas.Bool.{cond_both}
use Rattle.std.proofs.lemmas.Bool.Decides.{nat_tests}
use Rattle.tree.specs.Names as names
use Rattle.f90_grammar.specs.Words.{Symbol90, Char, goes_on90, Stops90}
use Rattle.reading.specs.Characters.{is_letter, Pass}
use Rattle.f90_expressions.specs.words.Fronts.{BeginsWithLetter, IsOther}
use Rattle.f90_expressions.specs.words.Lexing.{Run, run, run_of, longer, strip}

run_char : (p : ℕ → Bool) (c : ℕ) (ss : List Symbol90) → IsTrue (p c) → run_of p (Char c ∷ ss) ≡ longer c (run_of p ss)
run_char p c ss h = rw h refl

run_step : (p : ℕ → Bool) (rest : List Symbol90) (c : ℕ) (ss : List Symbol90) → rest ≡ Char c ∷ ss → IsTrue (p c) → run_of p rest ≡ longer c (run_of p ss)
run_step p rest c ss e h = ap (run_of p) e ∙ run_char p c ss h

run_stop : (p : ℕ → Bool) (rest : List Symbol90) → Stops90 p rest → run_of p rest ≡ run [] rest
run_stop p [] h = refl
run_stop p (Char c ∷ ss) h = rw h refl
run_stop p (s ∷ ss) h = refl

-- what was read of a run, and what is left of it
pub record IsReadTo (p : ℕ → Bool) (read : List ℕ) (text rest : List Symbol90) : Type 0 where
  pub same : run_of p text ≡ run (read ++ (run_of p rest).front) (run_of p rest).rest

pub read_none : (p : ℕ → Bool) (text : List Symbol90) → IsReadTo p [] text text
read_none p text = record { same = refl }

pub read_more : (p : ℕ → Bool) (read : List ℕ) (text rest ss : List Symbol90) (c : ℕ) → rest ≡ Char c ∷ ss → IsTrue (p c) → IsReadTo p read text rest
    → IsReadTo p (read ++ c ∷ []) text ss
read_more p read text rest ss c e i h =
    let s = run_step p rest c ss e i in
    let k : Run = run_of p ss in
    record {
      same = h.same ∙ (ap (λ (r : Run). run (read ++ r.front) r.rest) s
          ∙ ap (λ (f : List ℕ). run f k.rest) (sym (append_assoc read (c ∷ []) k.front)));
    }

-- at its end
pub read_all : (p : ℕ → Bool) (read : List ℕ) (text rest : List Symbol90) → Stops90 p rest → IsReadTo p read text rest → run_of p text ≡ run read rest
read_all p read text rest s h =
    let k = run_stop p rest s in
    h.same ∙ (ap (λ (r : Run). run (read ++ r.front) r.rest) k ∙ ap (λ (f : List ℕ). run f rest) (append-nil read))

pub ruleset numbering = (read_none, read_more, read_all)

-- one character too many for a name
pub read_long : (read : List ℕ) (text rest ss : List Symbol90) (c : ℕ) → rest ≡ Char c ∷ ss → IsTrue (goes_on90 c) → IsReadTo goes_on90 read text rest
    → 31 ≤ length read → 31 < length (run_of goes_on90 text).front
read_long read text rest ss c e p h l =
    let s = run_step goes_on90 rest c ss e p in
    let k : length (run_of goes_on90 text).front ≡ length (read ++ (run_of goes_on90 rest).front) = ap (λ (r : Run). length r.front) h.same in
    let m : length (run_of goes_on90 rest).front ≡ suc (length (run_of goes_on90 ss).front) = ap (λ (r : Run). length r.front) s in
    omega (arith, length-append read (run_of goes_on90 rest).front)

-- ---- it is a name

run_pass : (p : ℕ → Bool) (text : List Symbol90) → Pass p (run_of p text).front
run_pass p [] = tt
run_pass p (Char c ∷ ss) = cond_both (p c) (longer c (run_of p ss)) (run [] (Char c ∷ ss)) (λ r. Pass p r.front) (λ e. (e, run_pass p ss)) (λ e. tt)
run_pass p (s ∷ ss) = tt

inner_byte : (c : ℕ) → IsTrue (goes_on90 c) → IsTrue (names.is_name_byte c)
inner_byte c h = grind (arith, nat_tests)

letter_begins : (c : ℕ) → IsTrue (is_letter c) → IsTrue (is_ascii_alphabetic c)
letter_begins c h = grind (arith, nat_tests)

inner_bytes : (cs : List ℕ) → Pass goes_on90 cs → IsTrue (list_all names.is_name_byte cs)
inner_bytes [] h = refl
inner_bytes (c ∷ cs) h = rw (inner_byte c h.0) (inner_bytes cs h.1)

letter_inner : (c : ℕ) → IsTrue (is_letter c) → IsTrue (goes_on90 c)
letter_inner c h = grind (arith, nat_tests)

name_of : (c : ℕ) (cs : List ℕ) → IsTrue (is_letter c) → Pass goes_on90 cs → length (c ∷ cs) ≤ 31 → names.IsName (c ∷ cs)
name_of c cs b p l = record { begins = letter_begins c b; goes_on = inner_bytes (c ∷ cs) (letter_inner c b, p); within = omega arith }

pub is_name : (text : List Symbol90) (read : List ℕ) → BeginsWithLetter text → read ≡ (run_of goes_on90 text).front → length read ≤ 31 → names.IsName read
is_name [] read b e l = absurd b
is_name (Char c ∷ ss) read b e l =
    let k : read ≡ c ∷ (run_of goes_on90 ss).front = e ∙ ap (λ (r : Run). r.front) (run_step goes_on90 (Char c ∷ ss) c ss refl (letter_inner c b)) in
    subst names.IsName (sym k) (name_of c _ b (run_pass goes_on90 ss) (omega (arith, ap length k)))
is_name (s ∷ ss) read b e l = absurd b

pub ruleset naming = (read_none, read_more, read_all, read_long, is_name)

-- ---- a word of fixed characters

other_strip : (w : ℕ) (ws : List ℕ) (text : List Symbol90) → IsOther w text → strip (w ∷ ws) text ≡ None
other_strip w ws [] h = refl
other_strip w ws (Char c ∷ ss) h = rw h refl
other_strip w ws (s ∷ ss) h = refl

pub strip_stop : (word : List ℕ) (i : ℕ) (text : List Symbol90) → i < length word → IsOther (get_or word i 0) text → strip (drop i word) text ≡ None
strip_stop word i text l h = ap (λ (q : List ℕ). strip q text) (drop-cons word i 0 l) ∙ other_strip (get_or word i 0) _ text h

same_test : (w : ℕ) → (w == w) ≡ true
same_test w = grind (arith, nat_tests)

pub strip_more : (word : List ℕ) (i : ℕ) (text ss : List Symbol90) → i < length word → text ≡ Char (get_or word i 0) ∷ ss → strip (drop i word) text ≡ strip (drop (i + 1) word) ss
strip_more word i text ss l e =
    ap (λ (q : List ℕ). strip q text) (drop-cons word i 0 l)
    ∙ (ap (strip (get_or word i 0 ∷ drop (suc i) word)) e ∙ rw (same_test (get_or word i 0), add-one) refl)

pub ruleset stripping = (strip_stop, strip_more)
