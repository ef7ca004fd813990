-- The loops that haven't ended, as the definitions find them and as a stack keeps them.
use Rattle.std.proofs.Common.{◌≡◌, ℕ, zero, suc, ◌+◌, ◌-◌, ◌<◌, ◌≤◌, nat_lt, nat_le, Bool, true, false, ◌||◌, ◌&&◌, cond, Option, Some, None, is_some, List, [], ◌∷◌, ◌++◌, length, take, drop, reverse, length-drop, refl, sym, ap, ◌∙◌, arith}
use Rattle.std.specs.List.{list_any, AllByRecursion}
use Rattle.std.proofs.Math.Seq.{take-append_seam}
use Rattle.std.proofs.lemmas.List.{take-append-drop, reverse-append, length-reverse}
use Rattle.std.proofs.lemmas.Bool.Decides.{nat_tests}
use Rattle.f77_grammar.specs.Statement77.{Labelled, Statement77, Do}
use Rattle.f77_grammar.specs.program.Text.{label_stands_in, bears, ends_in, loop_ends_in}
use Rattle.f77_grammar.specs.program.Nesting.{is_do_of, begins_loop, since_do}
use Rattle.f77_structure.specs.declared.openings.OpenLoop.{OpenLoop}
use Rattle.f77_structure.specs.Forms.{form_of}
use Rattle.f77_structure.proofs.LabelLaws.{any_reversed}
use Rattle.f77_structure.specs.Openings.{trimmed, opened, end_of, loops_of, last_with, or_here, first_do, nearest_at, is_behind, is_from}

-- ---- a loop that begins among the nearest m of len statements, and ends at the j-th statement or later

abbrev pub is_alive : ℕ → ℕ → ℕ → OpenLoop → Bool
is_alive m j len e = nat_le len (e.at + m) && nat_le j e.end

abbrev pub any_alive : ℕ → ℕ → ℕ → List OpenLoop → Bool
any_alive m j len es = list_any (is_alive m j len) es

abbrev pub AllBelow : ℕ → List OpenLoop → Type 0
AllBelow len es = AllByRecursion (λ (e : OpenLoop). e.at < len) es

dead : (m j len at end : ℕ) → end < j → (nat_le len (at + m) && nat_le j end) ≡ false
dead m j len at end h = grind (arith, nat_tests)

trimmed_away : (m j k len : ℕ) (e : OpenLoop) (es : List OpenLoop) (b : Bool) → k ≤ j → nat_lt e.end k ≡ b
    → any_alive m j len (trimmed k es) ≡ any_alive m j len es
    → any_alive m j len (cond b (trimmed k es) (e ∷ es)) ≡ any_alive m j len (e ∷ es)
trimmed_away m j k len e es true h g ih =
    ih ∙ ap (λ b. b || any_alive m j len es) (sym (dead m j len e.at e.end (let lt : e.end < k = grind (arith, nat_tests) in omega arith)))
trimmed_away m j k len e es false h g ih = refl

-- what is taken off the stack isn't alive any more
alive_trimmed : (m j k len : ℕ) (es : List OpenLoop) → k ≤ j → any_alive m j len (trimmed k es) ≡ any_alive m j len es
alive_trimmed m j k len [] h = refl
alive_trimmed m j k len (e ∷ es) h = trimmed_away m j k len e es (nat_lt e.end k) h refl (alive_trimmed m j k len es h)

alive_shift : (m j len at end : ℕ) → (nat_le len (at + m) && nat_le j end) ≡ (nat_le (suc len) (at + suc m) && nat_le j end)
alive_shift m j len at end = grind (arith, nat_tests)

alive_more : (m j len : ℕ) (es : List OpenLoop) → any_alive m j len es ≡ any_alive (suc m) j (suc len) es
alive_more m j len [] = refl
alive_more m j len (e ∷ es) =
    ap (λ b. b || any_alive m j len es) (alive_shift m j len e.at e.end)
    ∙ ap (λ b. is_alive (suc m) j (suc len) e || b) (alive_more m j len es)

not_alive : (j len at end : ℕ) → at < len → (nat_le len (at + 0) && nat_le j end) ≡ false
not_alive j len at end h = grind (arith, nat_tests)

none_alive : (j len : ℕ) (es : List OpenLoop) → AllBelow len es → false ≡ any_alive 0 j len es
none_alive j len [] h = refl
none_alive j len (e ∷ es) h = none_alive j len es h.1 ∙ ap (λ b. b || any_alive 0 j len es) (sym (not_alive j len e.at e.end h.0))

-- ---- the stack has what it has in the order of the text

abbrev pub InOrder : List OpenLoop → Type 0
InOrder [] = Unit {0}
InOrder (e ∷ es) = AllBelow e.at es × InOrder es

below_trimmed : (len k : ℕ) (es : List OpenLoop) → AllBelow len es → AllBelow len (trimmed k es)
below_trimmed len k [] h = h
below_trimmed len k (e ∷ es) h = cases (nat_lt e.end k) (below_trimmed len k es h.1)
  where
    cases : (b : Bool) → AllBelow len (trimmed k es) → AllBelow len (cond b (trimmed k es) (e ∷ es))
    cases true rest = rest
    cases false rest = h

order_trimmed : (k : ℕ) (es : List OpenLoop) → InOrder es → InOrder (trimmed k es)
order_trimmed k [] h = h
order_trimmed k (e ∷ es) h = cases (nat_lt e.end k) (order_trimmed k es h.1)
  where
    cases : (b : Bool) → InOrder (trimmed k es) → InOrder (cond b (trimmed k es) (e ∷ es))
    cases true rest = rest
    cases false rest = h

below_suc : (len : ℕ) (es : List OpenLoop) → AllBelow len es → AllBelow (suc len) es
below_suc len [] h = h
below_suc len (e ∷ es) h = (let lt : e.at < len = h.0 in omega arith, below_suc len es h.1)

below_opened : (len : ℕ) (end : Option ℕ) (es : List OpenLoop) → AllBelow len es → AllBelow (suc len) (opened len end es)
below_opened len None es h = below_suc len es h
below_opened len (Some e) es h = (omega arith, below_suc len es h)

order_opened : (len : ℕ) (end : Option ℕ) (es : List OpenLoop) → AllBelow len es → InOrder es → InOrder (opened len end es)
order_opened len None es h g = g
order_opened len (Some e) es h g = (h, g)

pub loops_below : (ends : ℕ → Option ℕ) (xs : List Labelled) → AllBelow (length xs) (loops_of ends xs)
loops_below ends [] = tt
loops_below ends (x ∷ xs) =
    below_opened (length xs) (end_of (form_of x.statement) ends) (trimmed (length xs + 1) (loops_of ends xs)) (below_trimmed (length xs) (length xs + 1) (loops_of ends xs) (loops_below ends xs))

pub loops_in_order : (ends : ℕ → Option ℕ) (xs : List Labelled) → InOrder (loops_of ends xs)
loops_in_order ends [] = tt
loops_in_order ends (x ∷ xs) =
    order_opened (length xs) (end_of (form_of x.statement) ends) (trimmed (length xs + 1) (loops_of ends xs))
    (below_trimmed (length xs) (length xs + 1) (loops_of ends xs) (loops_below ends xs)) (order_trimmed (length xs + 1) (loops_of ends xs) (loops_in_order ends xs))

-- ---- a loop is open exactly where the stack has one alive

alive_opened : (m j len : ℕ) (o : Option ℕ) (es : List OpenLoop) → any_alive (suc m) j (suc len) (opened len o es) ≡ (is_from j o || any_alive (suc m) j (suc len) es)
alive_opened m j len None es = refl
alive_opened m j len (Some e) es = ap (λ b. b || any_alive (suc m) j (suc len) es) (here_alive m j len e)
  where
    here_alive : (m j len e : ℕ) → (nat_le (suc len) (len + suc m) && nat_le j e) ≡ nat_le j e
    here_alive m j len e = grind (arith, nat_tests)

ends_from : (rest : List Labelled) (j : ℕ) (ends : ℕ → Option ℕ) → ((n : ℕ) → label_stands_in rest n ≡ is_from j (ends n)) → (s : Statement77) → ends_in rest s ≡ is_from j (end_of (form_of s) ends)
ends_from rest j ends h (Do (Some n) x a b c) = h n
ends_from rest j ends h s = refl

pub loop_as_kept : (rest : List Labelled) (j : ℕ) (ends : ℕ → Option ℕ) → ((n : ℕ) → label_stands_in rest n ≡ is_from j (ends n))
    → (xs : List Labelled) (m : ℕ) → length xs ≤ j → list_any (loop_ends_in rest) (take m xs) ≡ any_alive m j (length xs) (loops_of ends xs)
loop_as_kept rest j ends h xs zero l = none_alive j (length xs) (loops_of ends xs) (loops_below ends xs)
loop_as_kept rest j ends h [] (suc m) l = refl
loop_as_kept rest j ends h (x ∷ xs) (suc m) l =
    let shorter : length xs ≤ j = omega arith in
    let trims : length xs + 1 ≤ j = omega arith in
    ap (λ b. b || list_any (loop_ends_in rest) (take m xs)) (ends_from rest j ends h x.statement)
    ∙ ap (λ b. is_from j (end_of (form_of x.statement) ends) || b)
    (loop_as_kept rest j ends h xs m shorter
    ∙ sym (alive_trimmed m j (length xs + 1) (length xs) (loops_of ends xs) trims)
    ∙ alive_more m j (length xs) (trimmed (length xs + 1) (loops_of ends xs)))
    ∙ sym (alive_opened m j (length xs) (end_of (form_of x.statement) ends) (trimmed (length xs + 1) (loops_of ends xs)))

-- ---- the one that was opened last decides

abbrev decides : ℕ → ℕ → Option ℕ → Bool
decides m len None = false
decides m len (Some at) = nat_le len (at + m)

all_before : (m j len at : ℕ) (es : List OpenLoop) → AllBelow at es → nat_le len (at + m) ≡ false → any_alive m j len es ≡ false
all_before m j len at [] h g = refl
all_before m j len at (e ∷ es) h g =
    ap (λ b. b || any_alive m j len es) (further m j len at e.at e.end h.0 g) ∙ all_before m j len at es h.1 g
  where
    further : (m j len at at' end : ℕ) → at' < at → nat_le len (at + m) ≡ false → (nat_le len (at' + m) && nat_le j end) ≡ false
    further m j len at at' end h g = grind (arith, nat_tests)

first_decides : (m j len : ℕ) (e : OpenLoop) (es : List OpenLoop) → AllBelow e.at es → nat_lt e.end j ≡ false → (t : Bool) → nat_le len (e.at + m) ≡ t
    → any_alive m j len (e ∷ es) ≡ t
first_decides m j len e es h g true f = ap (λ b. b || any_alive m j len es) (both m j len e.at e.end f g)
  where
    both : (m j len at end : ℕ) → nat_le len (at + m) ≡ true → nat_lt end j ≡ false → (nat_le len (at + m) && nat_le j end) ≡ true
    both m j len at end f g = grind (arith, nat_tests)
first_decides m j len e es h g false f =
    ap (λ b. (b && nat_le j e.end) || any_alive m j len es) f ∙ all_before m j len e.at es h f

pub last_decides : (m j len : ℕ) (es : List OpenLoop) → InOrder es → any_alive m j len es ≡ decides m len (nearest_at (trimmed j es))
last_decides m j len [] h = refl
last_decides m j len (e ∷ es) h = cases (nat_lt e.end j) refl (last_decides m j len es h.1)
  where
    cases : (b : Bool) → nat_lt e.end j ≡ b → any_alive m j len es ≡ decides m len (nearest_at (trimmed j es)) → any_alive m j len (e ∷ es) ≡ decides m len (nearest_at (cond b (trimmed j es) (e ∷ es)))
    cases true g rest = ap (λ b. b || any_alive m j len es) (dead m j len e.at e.end (let lt : e.end < j = grind (arith, nat_tests) in lt)) ∙ rest
    cases false g rest = first_decides m j len e es h.0 g (nat_le len (e.at + m)) refl

since_decides : (len a : ℕ) (o : Option ℕ) → a < len → decides (len - suc a) len o ≡ is_behind o a
since_decides len a None h = refl
since_decides len a (Some k) h = grind (arith, nat_tests)

-- a loop among the statements behind the a-th is open exactly where the last one on the stack begins there
pub open_since : (rest : List Labelled) (j : ℕ) (ends : ℕ → Option ℕ) → ((n : ℕ) → label_stands_in rest n ≡ is_from j (ends n))
    → (xs : List Labelled) (a : ℕ) → length xs ≤ j → a < length xs
    → list_any (loop_ends_in rest) (take (length xs - suc a) xs) ≡ is_behind (nearest_at (trimmed j (loops_of ends xs))) a
open_since rest j ends h xs a l lt =
    loop_as_kept rest j ends h xs (length xs - suc a) l
    ∙ last_decides (length xs - suc a) j (length xs) (loops_of ends xs) (loops_in_order ends xs)
    ∙ since_decides (length xs) a (nearest_at (trimmed j (loops_of ends xs))) lt

-- ---- the last statement with a label

pub last_below : (xs : List Labelled) (n a : ℕ) → last_with xs n ≡ Some a → a < length xs
last_below [] n a h = cc
last_below (x ∷ xs) n a h = cases (bears n x) (last_below xs n a) h
  where
    cases : (b : Bool) → (last_with xs n ≡ Some a → a < length xs) → cond b (Some (length xs)) (last_with xs n) ≡ Some a → a < suc (length xs)
    cases true ih h = let e : length xs ≡ a = cc in omega arith
    cases false ih h = let lt : a < length xs = ih h in omega arith

decides_more : (m len : ℕ) (o : Option ℕ) → decides m len o ≡ decides (suc m) (suc len) o
decides_more m len None = refl
decides_more m len (Some a) = grind (arith, nat_tests)

decides_none : (len : ℕ) (o : Option ℕ) → ((a : ℕ) → o ≡ Some a → a < len) → false ≡ decides 0 len o
decides_none len None h = refl
decides_none len (Some a) h = let lt : a < len = h a refl in grind (arith, nat_tests)

stands_within : (xs : List Labelled) (m n : ℕ) → label_stands_in (take m xs) n ≡ decides m (length xs) (last_with xs n)
stands_within xs zero n = decides_none (length xs) (last_with xs n) (last_below xs n)
stands_within [] (suc m) n = refl
stands_within (x ∷ xs) (suc m) n = cases (bears n x) (stands_within xs m n)
  where
    cases : (b : Bool) → label_stands_in (take m xs) n ≡ decides m (length xs) (last_with xs n)
        → (b || label_stands_in (take m xs) n) ≡ decides (suc m) (suc (length xs)) (cond b (Some (length xs)) (last_with xs n))
    cases true ih = here (length xs) m
      where
        here : (L m : ℕ) → true ≡ nat_le (suc L) (L + suc m)
        here L m = grind (arith, nat_tests)
    cases false ih = ih ∙ decides_more m (length xs) (last_with xs n)

left_reversed : (text : List Labelled) (j : ℕ) → reverse (drop j text) ≡ take (length text - j) (reverse text)
left_reversed text j =
    let whole : reverse text ≡ reverse (drop j text) ++ reverse (take j text) = ap reverse (sym (take-append-drop j text)) ∙ reverse-append (take j text) (drop j text) in
    let long : length (reverse (drop j text)) ≡ length text - j = length-reverse (drop j text) ∙ length-drop j text in
    sym (ap (λ k. take k (reverse text)) (sym long) ∙ ap (take (length (reverse (drop j text)))) whole ∙ take-append_seam (reverse (drop j text)) (reverse (take j text)))

from_decides : (len j : ℕ) (o : Option ℕ) → ((a : ℕ) → o ≡ Some a → a < len) → decides (len - j) len o ≡ is_from j o
from_decides len j None h = refl
from_decides len j (Some a) h = let lt : a < len = h a refl in from a lt
  where
    from : (a : ℕ) → a < len → nat_le len (a + (len - j)) ≡ nat_le j a
    from a lt = grind (arith, nat_tests)

-- a label stands among the statements from the j-th on exactly where the last one that bears it is one of these
pub stands_from : (text : List Labelled) (j n : ℕ) → label_stands_in (drop j text) n ≡ is_from j (last_with (reverse text) n)
stands_from text j n =
    let len : length (reverse text) ≡ length text = length-reverse text in
    sym (any_reversed (bears n) (drop j text))
    ∙ ap (λ xs. label_stands_in xs n) (left_reversed text j)
    ∙ stands_within (reverse text) (length text - j) n
    ∙ ap (λ l. decides (length text - j) l (last_with (reverse text) n)) len
    ∙ from_decides (length text) j (last_with (reverse text) n) (λ a h. let lt : a < length (reverse text) = last_below (reverse text) n a h in omega arith)

-- ---- the first DO with a label

pub first_do_is : (n : ℕ) (xs : List Labelled) → list_any (begins_loop n) xs ≡ is_some (first_do xs n)
first_do_is n [] = refl
first_do_is n (x ∷ xs) = cases (first_do xs n) (is_do_of n x.statement) (first_do_is n xs)
  where
    cases : (o : Option ℕ) (b : Bool) → list_any (begins_loop n) xs ≡ is_some o → (b || list_any (begins_loop n) xs) ≡ is_some (or_here o b (length xs))
    cases (Some k) true h = refl
    cases (Some k) false h = h
    cases None true h = refl
    cases None false h = h

pub first_do_below : (n : ℕ) (xs : List Labelled) (k : ℕ) → first_do xs n ≡ Some k → k < length xs
first_do_below n [] k h = cc
first_do_below n (x ∷ xs) k h = cases (first_do xs n) (is_do_of n x.statement) (first_do_below n xs) h
  where
    cases : (o : Option ℕ) (b : Bool) → ((k : ℕ) → o ≡ Some k → k < length xs) → or_here o b (length xs) ≡ Some k → k < suc (length xs)
    cases (Some i) b ih h = let lt : i < length xs = ih i refl in let e : i ≡ k = cc in omega arith
    cases None true ih h = let e : length xs ≡ k = cc in omega arith
    cases None false ih h = cc

pub since_do_is : (n : ℕ) (xs : List Labelled) (k : ℕ) → first_do xs n ≡ Some k → since_do n xs ≡ take (length xs - suc k) xs
since_do_is n [] k h = cc
since_do_is n (x ∷ xs) k h = cases (first_do xs n) (is_do_of n x.statement) (first_do_is n xs) (first_do_below n xs) (since_do_is n xs) h
  where
    cases : (o : Option ℕ) (b : Bool) → list_any (begins_loop n) xs ≡ is_some o → ((k : ℕ) → o ≡ Some k → k < length xs)
        → ((k : ℕ) → o ≡ Some k → since_do n xs ≡ take (length xs - suc k) xs) → or_here o b (length xs) ≡ Some k
        → cond (list_any (begins_loop n) xs) (x ∷ since_do n xs) [] ≡ take (suc (length xs) - suc k) (x ∷ xs)
    cases (Some i) b some lt ih h =
        let below : i < length xs = lt i refl in
        let same : i ≡ k = cc in
        let size : suc (length xs - suc i) ≡ suc (length xs) - suc k = omega arith in
        ap (λ t. cond t (x ∷ since_do n xs) []) some ∙ ap (λ t. x ∷ t) (ih i refl) ∙ ap (λ l. take l (x ∷ xs)) size
    cases None true none lt ih h =
        let same : length xs ≡ k = cc in
        let size : 0 ≡ suc (length xs) - suc k = omega arith in
        ap (λ t. cond t (x ∷ since_do n xs) []) none ∙ ap (λ l. take l (x ∷ xs)) size
    cases None false none lt ih h = cc
