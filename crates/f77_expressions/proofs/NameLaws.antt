-- A name, character by character.
use Rattle.std.proofs.Common.{arith, ◌≡◌, ◌<◌, ◌≤◌, ℕ, ◌+◌, Bool, true, IsTrue, List, [], ◌∷◌, ◌++◌, length, refl, ap, sym, ◌∙◌, subst, append_assoc, append-nil, suc, length-append, drop, get_or, drop-cons, add-one}
use Rattle.std.specs.Prelude.{◌==◌, None}
use Rattle.std.specs.List.{list_all}
use Rattle.std.specs.Char.{is_ascii_alphabetic}
use Rattle.std.proofs.lemmas.Bool.{cond_both}
use Rattle.std.proofs.lemmas.Bool.Decides.{nat_tests}
use Rattle.tree.specs.Names as names
use Rattle.f77_grammar.specs.expressions.Squeezing.{Symbol77, Char}
use Rattle.f77_grammar.specs.expressions.Spelling.{is_letter_or_digit, Stops77}
use Rattle.reading.specs.Characters.{is_letter, Pass}
use Rattle.f77_expressions.specs.Fronts.{BeginsWithLetter, IsOther}
use Rattle.f77_expressions.specs.Lexing.{Run, run_of, longer, strip}
use Rattle.f77_expressions.proofs.LiteralLaws.{run_step, run_stop}

-- the letters and digits that were read, and those of a rest
pub record IsReadTo (read : List ℕ) (text rest : List Symbol77) : Type 0 where
  pub same : run_of is_letter_or_digit text ≡ record { front = read ++ (run_of is_letter_or_digit rest).front; rest = (run_of is_letter_or_digit rest).rest }

pub read_more : (read : List ℕ) (text rest ss : List Symbol77) (c : ℕ) → rest ≡ Char c ∷ ss → IsTrue (is_letter_or_digit c) → IsReadTo read text rest → IsReadTo (read ++ c ∷ []) text ss
read_more read text rest ss c e p h =
    let s = run_step is_letter_or_digit rest c ss e p in
    let k : Run = run_of is_letter_or_digit ss in
    record {
      same = h.same ∙ (ap (λ (r : Run). let q : Run = record { front = read ++ r.front; rest = r.rest } in q) s
          ∙ ap (λ (f : List ℕ). let q : Run = record { front = f; rest = k.rest } in q) (sym (append_assoc read (c ∷ []) k.front)));
    }

pub read_none : (text : List Symbol77) → IsReadTo [] text text
read_none text = record { same = refl }

-- at the end of the letters and digits
pub read_all : (read : List ℕ) (text rest : List Symbol77) → Stops77 is_letter_or_digit rest → IsReadTo read text rest → run_of is_letter_or_digit text ≡ record { front = read; rest = rest }
read_all read text rest s h =
    let k = run_stop is_letter_or_digit rest s in
    h.same ∙ (ap (λ (r : Run). let q : Run = record { front = read ++ r.front; rest = r.rest } in q) k
    ∙ ap (λ (f : List ℕ). let q : Run = record { front = f; rest = rest } in q) (append-nil read))

-- one character too many
pub read_long : (read : List ℕ) (text rest ss : List Symbol77) (c : ℕ) → rest ≡ Char c ∷ ss → IsTrue (is_letter_or_digit c) → IsReadTo read text rest → 6 ≤ length read → 6 < length (run_of is_letter_or_digit text).front
read_long read text rest ss c e p h l =
    let s = run_step is_letter_or_digit rest c ss e p in
    let k : length (run_of is_letter_or_digit text).front ≡ length (read ++ (run_of is_letter_or_digit rest).front) = ap (λ (r : Run). length r.front) h.same in
    let m : length (run_of is_letter_or_digit rest).front ≡ suc (length (run_of is_letter_or_digit ss).front) = ap (λ (r : Run). length r.front) s in
    omega (arith, length-append read (run_of is_letter_or_digit rest).front)

-- ---- it is a name

run_pass : (p : ℕ → Bool) (text : List Symbol77) → Pass p (run_of p text).front
run_pass p [] = tt
run_pass p (Char c ∷ ss) = cond_both (p c) (longer c (run_of p ss)) (record { front = []; rest = Char c ∷ ss }) (λ r. Pass p r.front) (λ e. (e, run_pass p ss)) (λ e. tt)
run_pass p (s ∷ ss) = tt

inner_byte : (c : ℕ) → IsTrue (is_letter_or_digit c) → IsTrue (names.is_name_byte c)
inner_byte c h = grind (arith, nat_tests)

letter_begins : (c : ℕ) → IsTrue (is_letter c) → IsTrue (is_ascii_alphabetic c)
letter_begins c h = grind (arith, nat_tests)

inner_bytes : (cs : List ℕ) → Pass is_letter_or_digit cs → IsTrue (list_all names.is_name_byte cs)
inner_bytes [] h = refl
inner_bytes (c ∷ cs) h = rw (inner_byte c h.0) (inner_bytes cs h.1)

letter_inner : (c : ℕ) → IsTrue (is_letter c) → IsTrue (is_letter_or_digit c)
letter_inner c h = grind (arith, nat_tests)

name_of : (c : ℕ) (cs : List ℕ) → IsTrue (is_letter c) → Pass is_letter_or_digit cs → length (c ∷ cs) ≤ 6 → names.IsName (c ∷ cs)
name_of c cs b p l = record { begins = letter_begins c b; goes_on = inner_bytes (c ∷ cs) (letter_inner c b, p); within = omega arith }

pub is_name : (text : List Symbol77) (read : List ℕ) → BeginsWithLetter text → read ≡ (run_of is_letter_or_digit text).front → length read ≤ 6 → names.IsName read
is_name [] read b e l = absurd b
is_name (Char c ∷ ss) read b e l =
    let k : read ≡ c ∷ (run_of is_letter_or_digit ss).front = e ∙ ap (λ (r : Run). r.front) (run_step is_letter_or_digit (Char c ∷ ss) c ss refl (letter_inner c b)) in
    subst names.IsName (sym k) (name_of c _ b (run_pass is_letter_or_digit ss) (omega (arith, ap length k)))
is_name (s ∷ ss) read b e l = absurd b

pub ruleset naming = (read_more, read_none, read_all, read_long, is_name)

-- ---- a word of fixed characters

other_strip : (w : ℕ) (ws : List ℕ) (text : List Symbol77) → IsOther w text → strip (w ∷ ws) text ≡ None
other_strip w ws [] h = refl
other_strip w ws (Char c ∷ ss) h = rw h refl
other_strip w ws (s ∷ ss) h = refl

pub strip_stop : (word : List ℕ) (i : ℕ) (text : List Symbol77) → i < length word → IsOther (get_or word i 0) text → strip (drop i word) text ≡ None
strip_stop word i text l h = ap (λ (q : List ℕ). strip q text) (drop-cons word i 0 l) ∙ other_strip (get_or word i 0) _ text h

same_test : (w : ℕ) → (w == w) ≡ true
same_test w = grind (arith, nat_tests)

pub strip_more : (word : List ℕ) (i : ℕ) (text ss : List Symbol77) → i < length word → text ≡ Char (get_or word i 0) ∷ ss → strip (drop i word) text ≡ strip (drop (i + 1) word) ss
strip_more word i text ss l e =
    ap (λ (q : List ℕ). strip q text) (drop-cons word i 0 l)
    ∙ (ap (strip (get_or word i 0 ∷ drop (suc i) word)) e ∙ rw (same_test (get_or word i 0), add-one) refl)

pub ruleset stripping = (strip_stop, strip_more)
