-- Which cause of a refusal is answered is found by going through the lines once for each cause.
use Rattle.std.proofs.Common.{arith, ◌≡◌, ℕ, ◌+◌, ◌^◌, ◌<◌, ◌≤◌, List, [], ◌∷◌, ◌++◌, length, Bool, true, false, cond, refl, ap, sym, ◌∙◌, subst, inl, inr, ◌⊎◌, Option, None, Some, IsTrue}
use Rattle.std.specs.Prelude.{not, ◌&&◌, ◌||◌, ◌==◌, nat_lt, fold, filter, if◌then◌else◌, is_none}
use Rattle.std.specs.List.{list_any, list_all}
use Rattle.std.specs.Str.Lines.{lines}
use Rattle.std.proofs.lemmas.Bool.{and_parts, and_from, not-true, not_from_false, cond-true, cond-false, or_cases, or_left, or_right, eqb-true, ltb-true, ltb-false, both_ways, cases_lt}
use Rattle.std.proofs.lemmas.List.Sums.{fold-append}
use Rattle.tree.specs.declared.refusals.Refusal.{Refusal}
use Rattle.f77_grammar.proofs.Answered.{answered_by}
use Rattle.tree.specs.Causes.{number_of_cause, word_of_cause, refusal_at}
use Rattle.tree.specs.declared.refusals.Cause.TheVariants as causes'
use Rattle.f77_grammar.specs.Cards.{Line, LineCause, cause_of_line, IsWrong, HasCardCause, RefusedCards, is_comment, is_initial, is_continuation, is_bad_byte77, is_tab, is_label_character, label_field, statement_field, numbered_lines, statement_lines, statement_lines_from}
use Rattle.reading.specs.Characters.{is_blank}
use Rattle.f77_grammar.specs.Cards.LineCause.{BadByte, Tab, LineForm, ManyLines}
use Rattle.f77_grammar.specs.Cards.IsWrong.{HoldsBadByte, HoldsTab, HasNoInitialLine, HasLabelField, HasNoLabel, HasNoStatement, IsTwentieth}
use Rattle.f77_grammar.specs.Cards.HasCardCause.{TooLong, AtLine}

abbrev number_of : LineCause → ℕ
number_of c = number_of_cause (cause_of_line c)

no_word : (c : LineCause) → word_of_cause (cause_of_line c) ≡ 0
no_word BadByte = refl
no_word Tab = refl
no_word LineForm = refl
no_word ManyLines = refl

-- ---- how many continuation lines a statement has so far; None before the first initial line

abbrev pub one_more : Option ℕ → Option ℕ
one_more None = None
one_more (Some n) = Some (n + 1)

abbrev pub after_line : Option ℕ → Line → Option ℕ
after_line place line = if is_initial line then Some 0 else one_more place

abbrev pub place_after : Option ℕ → List Line → Option ℕ
place_after place ls = fold after_line place ls

-- the lines end in an initial line and n continuation lines
record EndsIn (ls : List Line) (n : ℕ) : Type 0 where
  front : List Line
  initial : Line
  others : List Line
  split : ls ≡ front ++ initial ∷ others
  begins : IsTrue (is_initial initial)
  goes_on : IsTrue (list_all is_continuation others)
  count : length others ≡ n

-- the lines are continuation lines after m others
record GoesOn (place : Option ℕ) (ls : List Line) (n : ℕ) : Type 0 where
  before : ℕ
  place_is : place ≡ Some before
  all : IsTrue (list_all is_continuation ls)
  count : before + length ls ≡ n

EndsIn-cons : (l : Line) (ls : List Line) (n : ℕ) → EndsIn ls n → EndsIn (l ∷ ls) n
EndsIn-cons l ls n e = record { front = l ∷ e.front; initial = e.initial; others = e.others; split = ap (λ xs. l ∷ xs) e.split; begins = e.begins; goes_on = e.goes_on; count = e.count }

after-initial : (place : Option ℕ) (l : Line) → is_initial l ≡ true → after_line place l ≡ Some 0
after-initial place l e = cond-true (is_initial l) _ _ e

after-continuation : (place : Option ℕ) (l : Line) → is_initial l ≡ false → after_line place l ≡ one_more place
after-continuation place l e = cond-false (is_initial l) _ _ e

one_more-Some : (place : Option ℕ) (n : ℕ) → one_more place ≡ Some n → (m : ℕ) × (place ≡ Some m) × (m + 1 ≡ n)
one_more-Some None n e = absurd cc
one_more-Some (Some m) n e = (m, refl, cc)

place_cases-initial : (l : Line) (ls : List Line) (n : ℕ) → is_initial l ≡ true → GoesOn (Some 0) ls n ⊎ EndsIn ls n → EndsIn (l ∷ ls) n
place_cases-initial l ls n e (inl g) =
    let zero_before : 0 ≡ g.before = cc (g.place_is) in
    record { front = []; initial = l; others = ls; split = refl; begins = e; goes_on = g.all; count = omega (arith, zero_before, g.count) }
place_cases-initial l ls n e (inr h) = EndsIn-cons l ls n h

place_cases-continuation : (place : Option ℕ) (l : Line) (ls : List Line) (n : ℕ) → is_initial l ≡ false → GoesOn (one_more place) ls n ⊎ EndsIn ls n
    → GoesOn place (l ∷ ls) n ⊎ EndsIn (l ∷ ls) n
place_cases-continuation place l ls n e (inl g) =
    let m = one_more-Some place g.before g.place_is in
    inl (record { before = m.0; place_is = m.1; all = and_from (is_continuation l) (list_all is_continuation ls) (not_from_false (is_initial l) e) g.all; count = omega (arith, m.2, g.count) })
place_cases-continuation place l ls n e (inr h) = inr (EndsIn-cons l ls n h)

place_cases_by : (b : Bool) (place : Option ℕ) (l : Line) (ls : List Line) (n : ℕ) → is_initial l ≡ b
    → (GoesOn (cond b (Some 0) (one_more place)) ls n ⊎ EndsIn ls n) → GoesOn place (l ∷ ls) n ⊎ EndsIn (l ∷ ls) n
place_cases_by true place l ls n e h = inr (place_cases-initial l ls n e h)
place_cases_by false place l ls n e h = place_cases-continuation place l ls n e h

place_cases : (place : Option ℕ) (ls : List Line) (n : ℕ) → place_after place ls ≡ Some n → GoesOn place ls n ⊎ EndsIn ls n
place_cases place [] n e = inl (record { before = n; place_is = e; all = refl; count = omega arith })
place_cases place (l ∷ ls) n e = place_cases_by (is_initial l) place l ls n refl (place_cases (after_line place l) ls n e)

-- what the place says
place_of-Some : (ls : List Line) (n : ℕ) → place_after None ls ≡ Some n → EndsIn ls n
place_of-Some ls n e = elim (place_cases None ls n e) [ inl g ↦ absurd (let h = g.place_is in cc) | inr h ↦ h ]

place-continuations : (m : ℕ) (ls : List Line) → IsTrue (list_all is_continuation ls) → place_after (Some m) ls ≡ Some (m + length ls)
place-continuations m [] h = ap Some (omega arith)
place-continuations m (l ∷ ls) h =
    let p = and_parts (is_continuation l) (list_all is_continuation ls) h in
    ap (λ place. place_after place ls) (after-continuation (Some m) l (not-true (is_initial l) p.0)) ∙ place-continuations (m + 1) ls p.1 ∙ ap Some (omega arith)

place-EndsIn : (ls : List Line) (n : ℕ) → EndsIn ls n → place_after None ls ≡ Some n
place-EndsIn ls n e =
    ap (place_after None) e.split ∙ fold-append after_line None e.front (e.initial ∷ e.others)
    ∙ ap (λ place. place_after place e.others) (after-initial (place_after None e.front) e.initial e.begins)
    ∙ place-continuations 0 e.others e.goes_on ∙ ap Some (omega (arith, e.count))

place-none : (ls : List Line) → IsTrue (list_all is_continuation ls) → place_after None ls ≡ None
place-none [] h = refl
place-none (l ∷ ls) h =
    let p = and_parts (is_continuation l) (list_all is_continuation ls) h in
    ap (λ place. place_after place ls) (after-continuation None l (not-true (is_initial l) p.0)) ∙ place-none ls p.1

-- once there is an initial line, the place is a number
place_stays_by : (b : Bool) (m : ℕ) (ls : List Line) → ((k : ℕ) → place_after (Some k) ls ≡ None → ⊥) → place_after (cond b (Some 0) (Some (m + 1))) ls ≡ None → ⊥
place_stays_by true m ls h = h 0
place_stays_by false m ls h = h (m + 1)

place_stays : (ls : List Line) (m : ℕ) → place_after (Some m) ls ≡ None → ⊥
place_stays [] m e = cc
place_stays (l ∷ ls) m e = place_stays_by (is_initial l) m ls (place_stays ls) e

place_of-None_by : (b : Bool) (l : Line) (ls : List Line) → is_initial l ≡ b → (place_after None ls ≡ None → IsTrue (list_all is_continuation ls))
    → place_after (cond b (Some 0) None) ls ≡ None → IsTrue (list_all is_continuation (l ∷ ls))
place_of-None_by true l ls e h none = absurd (place_stays ls 0 none)
place_of-None_by false l ls e h none = and_from (is_continuation l) (list_all is_continuation ls) (not_from_false (is_initial l) e) (h none)

place_of-None : (ls : List Line) → place_after None ls ≡ None → IsTrue (list_all is_continuation ls)
place_of-None [] e = refl
place_of-None (l ∷ ls) e = place_of-None_by (is_initial l) l ls refl (place_of-None ls) e

-- ---- whether a cause holds at a line

abbrev pub is_full : Option ℕ → Bool
is_full None = false
is_full (Some n) = n == 19

abbrev pub is_wrong_initial : Line → Bool
is_wrong_initial line = not (list_all is_label_character (label_field line)) || list_all is_blank (statement_field line)

abbrev pub is_wrong_continuation : Option ℕ → Line → Bool
is_wrong_continuation place line = is_none place || not (list_all is_blank (label_field line))

abbrev pub is_wrong : LineCause → Option ℕ → Line → Bool
is_wrong BadByte place line = list_any is_bad_byte77 line.columns
is_wrong Tab place line = list_any is_tab line.columns
is_wrong LineForm place line = if is_initial line then is_wrong_initial line else is_wrong_continuation place line
is_wrong ManyLines place line = is_continuation line && is_full place

none_from_is_none : (place : Option ℕ) → is_none place ≡ true → place ≡ None
none_from_is_none None e = refl
none_from_is_none (Some n) e = cc

full_from_is_full : (place : Option ℕ) → is_full place ≡ true → place ≡ Some 19
full_from_is_full None e = cc
full_from_is_full (Some n) e = ap Some (eqb-true n 19 e)

IsWrong-initial : (before : List Line) (line : Line) → IsTrue (is_initial line) → is_wrong_initial line ≡ true → IsWrong before line LineForm
IsWrong-initial before line i e =
    elim (or_cases (not (list_all is_label_character (label_field line))) (list_all is_blank (statement_field line)) e) [ inl h ↦ HasNoLabel i h | inr h ↦ HasNoStatement i h ]

IsWrong-continuation : (before : List Line) (line : Line) → IsTrue (is_continuation line) → is_wrong_continuation (place_after None before) line ≡ true → IsWrong before line LineForm
IsWrong-continuation before line i e =
    elim (or_cases (is_none (place_after None before)) (not (list_all is_blank (label_field line))) e) [
      | inl h ↦ HasNoInitialLine i (place_of-None before (none_from_is_none (place_after None before) h))
      | inr h ↦ HasLabelField i h
    ]

IsWrong-form_by : (b : Bool) (before : List Line) (line : Line) → is_initial line ≡ b
    → cond b (is_wrong_initial line) (is_wrong_continuation (place_after None before) line) ≡ true → IsWrong before line LineForm
IsWrong-form_by true before line i e = IsWrong-initial before line i e
IsWrong-form_by false before line i e = IsWrong-continuation before line (not_from_false (is_initial line) i) e

IsWrong-many : (before : List Line) (line : Line) → (is_continuation line && is_full (place_after None before)) ≡ true → IsWrong before line ManyLines
IsWrong-many before line e =
    let p = and_parts (is_continuation line) (is_full (place_after None before)) e in
    let s = place_of-Some before 19 (full_from_is_full (place_after None before) p.1) in
    IsTwentieth s.front s.initial s.others s.split s.begins s.goes_on s.count p.0

pub IsWrong-from_test : (c : LineCause) (before : List Line) (line : Line) → is_wrong c (place_after None before) line ≡ true → IsWrong before line c
IsWrong-from_test BadByte before line e = HoldsBadByte e
IsWrong-from_test Tab before line e = HoldsTab e
IsWrong-from_test LineForm before line e = IsWrong-form_by (is_initial line) before line refl e
IsWrong-from_test ManyLines before line e = IsWrong-many before line e

form_initial : (place : Option ℕ) (line : Line) → IsTrue (is_initial line) → is_wrong_initial line ≡ true → is_wrong LineForm place line ≡ true
form_initial place line i e = cond-true (is_initial line) _ _ i ∙ e

form_continuation : (place : Option ℕ) (line : Line) → IsTrue (is_continuation line) → is_wrong_continuation place line ≡ true → is_wrong LineForm place line ≡ true
form_continuation place line i e = cond-false (is_initial line) _ _ (not-true (is_initial line) i) ∙ e

pub test_from_IsWrong : (c : LineCause) (before : List Line) (line : Line) → IsWrong before line c → is_wrong c (place_after None before) line ≡ true
test_from_IsWrong _ before line (HoldsBadByte h) = h
test_from_IsWrong _ before line (HoldsTab h) = h
test_from_IsWrong _ before line (HasNoInitialLine i h) =
    form_continuation (place_after None before) line i (or_left (is_none (place_after None before)) _ (ap is_none (place-none before h)))
test_from_IsWrong _ before line (HasLabelField i h) =
    form_continuation (place_after None before) line i (or_right (is_none (place_after None before)) _ h)
test_from_IsWrong _ before line (HasNoLabel i h) = form_initial (place_after None before) line i (or_left _ _ h)
test_from_IsWrong _ before line (HasNoStatement i h) = form_initial (place_after None before) line i (or_right _ _ h)
test_from_IsWrong _ before line (IsTwentieth front initial others split begins goes_on count i) =
    let e : place_after None before ≡ Some 19 = place-EndsIn before 19 (record { front = front; initial = initial; others = others; split = split; begins = begins; goes_on = goes_on; count = count }) in
    and_from (is_continuation line) (is_full (place_after None before)) i (ap is_full e)

-- ---- the first line at which a cause holds

abbrev pub first_wrong : LineCause → Option ℕ → List Line → Option ℕ
first_wrong c place [] = None
first_wrong c place (l ∷ ls) = if is_wrong c place l then Some l.number else first_wrong c (after_line place l) ls

-- the cause holds at a line with the number k
record IsFound (c : LineCause) (place : Option ℕ) (ls : List Line) (k : ℕ) : Type 0 where
  before : List Line
  line : Line
  after : List Line
  split : ls ≡ before ++ line ∷ after
  wrong : is_wrong c (place_after place before) line ≡ true
  number : line.number ≡ k

IsFound-cons : (c : LineCause) (place : Option ℕ) (l : Line) (ls : List Line) (k : ℕ) → IsFound c (after_line place l) ls k → IsFound c place (l ∷ ls) k
IsFound-cons c place l ls k f = record { before = l ∷ f.before; line = f.line; after = f.after; split = ap (λ xs. l ∷ xs) f.split; wrong = f.wrong; number = f.number }

IsFound-here : (c : LineCause) (place : Option ℕ) (l : Line) (ls : List Line) → is_wrong c place l ≡ true → IsFound c place (l ∷ ls) l.number
IsFound-here c place l ls e = record { before = []; line = l; after = ls; split = refl; wrong = e; number = refl }

IsFound-cases_by : (c : LineCause) (place : Option ℕ) (l : Line) (ls before : List Line) (line : Line) (after : List Line) (k : ℕ) → l ∷ ls ≡ before ++ line ∷ after
    → is_wrong c (place_after place before) line ≡ true → line.number ≡ k → (is_wrong c place l ≡ true × (l.number ≡ k)) ⊎ IsFound c (after_line place l) ls k
IsFound-cases_by c place l ls [] line after k e w n =
    let same : line ≡ l = cc in
    inl (subst (λ (x : Line). is_wrong c place x ≡ true) same w, subst (λ (x : Line). x.number ≡ k) same n)
IsFound-cases_by c place l ls (b ∷ bs) line after k e w n =
    let same : b ≡ l = cc in
    let rest : ls ≡ bs ++ line ∷ after = cc in
    inr (record { before = bs; line = line; after = after; split = rest; wrong = subst (λ (x : Line). is_wrong c (place_after (after_line place x) bs) line ≡ true) same w; number = n })

IsFound-cases : (c : LineCause) (place : Option ℕ) (l : Line) (ls : List Line) (k : ℕ) → IsFound c place (l ∷ ls) k
    → (is_wrong c place l ≡ true × (l.number ≡ k)) ⊎ IsFound c (after_line place l) ls k
IsFound-cases c place l ls k f = IsFound-cases_by c place l ls f.before f.line f.after k f.split f.wrong f.number

IsFound-none : (c : LineCause) (place : Option ℕ) (k : ℕ) (before : List Line) (line : Line) (after : List Line) → [] ≡ before ++ line ∷ after → ⊥
IsFound-none c place k [] line after e = cc
IsFound-none c place k (b ∷ bs) line after e = cc

-- ---- numbers rise

abbrev RiseFrom : ℕ → List Line → Type 0
RiseFrom n [] = Unit {0}
RiseFrom n (l ∷ ls) = (n ≤ l.number) × RiseFrom (l.number + 1) ls

RiseFrom-less : (m n : ℕ) (ls : List Line) → m ≤ n → RiseFrom n ls → RiseFrom m ls
RiseFrom-less m n [] h r = tt
RiseFrom-less m n (l ∷ ls) h r = (omega (arith, r.0), r.1)

RiseFrom-numbered : (n : ℕ) (xs : List (List ℕ)) → RiseFrom n (numbered_lines n xs)
RiseFrom-numbered n [] = tt
RiseFrom-numbered n (x ∷ xs) = (omega arith, RiseFrom-numbered (n + 1) xs)

RiseFrom-filter_by : (b : Bool) (p : Line → Bool) (n : ℕ) (l : Line) (ls : List Line) → n ≤ l.number → RiseFrom (l.number + 1) (filter p ls) → RiseFrom n (cond b (l ∷ filter p ls) (filter p ls))
RiseFrom-filter_by true p n l ls h r = (h, r)
RiseFrom-filter_by false p n l ls h r = RiseFrom-less n (l.number + 1) (filter p ls) (omega (arith, h)) r

RiseFrom-filter : (p : Line → Bool) (n : ℕ) (ls : List Line) → RiseFrom n ls → RiseFrom n (filter p ls)
RiseFrom-filter p n [] r = tt
RiseFrom-filter p n (l ∷ ls) r = RiseFrom-filter_by (p l) p n l ls r.0 (RiseFrom-filter p (l.number + 1) ls r.1)

RiseFrom-statement_lines : (n : ℕ) (text : List ℕ) → RiseFrom n (statement_lines_from n text)
unfolding statement_lines_from
RiseFrom-statement_lines n text = RiseFrom-filter (λ line. not (is_comment line.columns)) n (numbered_lines n (lines text)) (RiseFrom-numbered n (lines text))

RiseFrom-IsFound : (c : LineCause) (place : Option ℕ) (n k : ℕ) (ls : List Line) → RiseFrom n ls → IsFound c place ls k → n ≤ k
RiseFrom-IsFound c place n k [] r f = absurd (IsFound-none c place k f.before f.line f.after f.split)
RiseFrom-IsFound c place n k (l ∷ ls) r f =
    elim (IsFound-cases c place l ls k f) [ inl h ↦ omega (arith, r.0, h.1) | inr g ↦ omega (arith, r.0, RiseFrom-IsFound c (after_line place l) (l.number + 1) k ls r.1 g) ]

-- ---- what the first line says

first_wrong-Some_by : (b : Bool) (c : LineCause) (place : Option ℕ) (l : Line) (ls : List Line) (k : ℕ) → is_wrong c place l ≡ b
    → (first_wrong c (after_line place l) ls ≡ Some k → IsFound c (after_line place l) ls k)
    → cond b (Some l.number) (first_wrong c (after_line place l) ls) ≡ Some k → IsFound c place (l ∷ ls) k
first_wrong-Some_by true c place l ls k w h e =
    let same : l.number ≡ k = cc in
    subst (IsFound c place (l ∷ ls)) same (IsFound-here c place l ls w)
first_wrong-Some_by false c place l ls k w h e = IsFound-cons c place l ls k (h e)

first_wrong-Some : (c : LineCause) (place : Option ℕ) (ls : List Line) (k : ℕ) → first_wrong c place ls ≡ Some k → IsFound c place ls k
first_wrong-Some c place [] k e = cc
first_wrong-Some c place (l ∷ ls) k e = first_wrong-Some_by (is_wrong c place l) c place l ls k refl (first_wrong-Some c (after_line place l) ls k) e

first_wrong-None_by : (b : Bool) (c : LineCause) (place : Option ℕ) (l : Line) (ls : List Line) (j : ℕ) → is_wrong c place l ≡ b
    → (first_wrong c (after_line place l) ls ≡ None → IsFound c (after_line place l) ls j → ⊥)
    → cond b (Some l.number) (first_wrong c (after_line place l) ls) ≡ None → (is_wrong c place l ≡ true × (l.number ≡ j)) ⊎ IsFound c (after_line place l) ls j → ⊥
first_wrong-None_by true c place l ls j w h e f = cc
first_wrong-None_by false c place l ls j w h e (inl f) = both_ways (is_wrong c place l) w f.0
first_wrong-None_by false c place l ls j w h e (inr f) = h e f

first_wrong-None : (c : LineCause) (place : Option ℕ) (ls : List Line) (j : ℕ) → first_wrong c place ls ≡ None → IsFound c place ls j → ⊥
first_wrong-None c place [] j e f = IsFound-none c place j f.before f.line f.after f.split
first_wrong-None c place (l ∷ ls) j e f =
    first_wrong-None_by (is_wrong c place l) c place l ls j refl (first_wrong-None c (after_line place l) ls j) e (IsFound-cases c place l ls j f)

first_wrong-least_by : (b : Bool) (c : LineCause) (place : Option ℕ) (l : Line) (ls : List Line) (j k : ℕ) → is_wrong c place l ≡ b → RiseFrom (l.number + 1) ls
    → (first_wrong c (after_line place l) ls ≡ Some k → IsFound c (after_line place l) ls j → k ≤ j)
    → cond b (Some l.number) (first_wrong c (after_line place l) ls) ≡ Some k → (is_wrong c place l ≡ true × (l.number ≡ j)) ⊎ IsFound c (after_line place l) ls j → k ≤ j
first_wrong-least_by true c place l ls j k w r h e (inl f) =
    let same : l.number ≡ k = cc in omega (arith, same, f.1)
first_wrong-least_by true c place l ls j k w r h e (inr f) =
    let same : l.number ≡ k = cc in omega (arith, same, RiseFrom-IsFound c (after_line place l) (l.number + 1) j ls r f)
first_wrong-least_by false c place l ls j k w r h e (inl f) = absurd (both_ways (is_wrong c place l) w f.0)
first_wrong-least_by false c place l ls j k w r h e (inr f) = h e f

first_wrong-least : (c : LineCause) (place : Option ℕ) (n : ℕ) (ls : List Line) (j k : ℕ) → RiseFrom n ls → first_wrong c place ls ≡ Some k → IsFound c place ls j → k ≤ j
first_wrong-least c place n [] j k r e f = cc
first_wrong-least c place n (l ∷ ls) j k r e f =
    first_wrong-least_by (is_wrong c place l) c place l ls j k refl r.1 (first_wrong-least c (after_line place l) (l.number + 1) ls j k r.1) e (IsFound-cases c place l ls j f)

-- ---- the refusal that is answered

abbrev pub found_or : LineCause → Option ℕ → Option Refusal → Option Refusal
found_or c None more = more
found_or c (Some k) more = Some (refusal_at (cause_of_line c) k)

-- the first line of the first of these causes that holds
abbrev pub first_cause : List LineCause → List Line → Option Refusal
first_cause [] ls = None
first_cause (c ∷ cs) ls = found_or c (first_wrong c None ls) (first_cause cs ls)

abbrev pub causes : List LineCause
causes = BadByte ∷ Tab ∷ LineForm ∷ ManyLines ∷ []

unfoldable pub refusal_of : List ℕ → Option Refusal
refusal_of text = if nat_lt (2 ^ 20) (length text) then Some (refusal_at causes'.TooLong 0) else first_cause causes (statement_lines text)

-- of the answers to each cause, the first
record IsFirst (answer : LineCause → Option ℕ) (r : Refusal) : Type 0 where
  cause : LineCause
  line : ℕ
  found : answer cause ≡ Some line
  is : r ≡ refusal_at (cause_of_line cause) line
  earlier : (d : LineCause) → number_of d < number_of cause → answer d ≡ None

abbrev first_of : (LineCause → Option ℕ) → List LineCause → Option Refusal
first_of answer [] = None
first_of answer (c ∷ cs) = found_or c (answer c) (first_of answer cs)

first_cause_is : (cs : List LineCause) (ls : List Line) → first_cause cs ls ≡ first_of (λ c. first_wrong c None ls) cs
first_cause_is [] ls = refl
first_cause_is (c ∷ cs) ls = ap (found_or c (first_wrong c None ls)) (first_cause_is cs ls)

module _ (answer : LineCause → Option ℕ) (r : Refusal) where
  before_many : (d : LineCause) → answer BadByte ≡ None → answer Tab ≡ None → answer LineForm ≡ None → number_of d < 5 → answer d ≡ None
  before_many BadByte p q s h = p
  before_many Tab p q s h = q
  before_many LineForm p q s h = s
  before_many ManyLines p q s h = absurd (omega (arith, h))

  before_form : (d : LineCause) → answer BadByte ≡ None → answer Tab ≡ None → number_of d < 4 → answer d ≡ None
  before_form BadByte p q h = p
  before_form Tab p q h = q
  before_form LineForm p q h = absurd (omega (arith, h))
  before_form ManyLines p q h = absurd (omega (arith, h))

  before_tab : (d : LineCause) → answer BadByte ≡ None → number_of d < 3 → answer d ≡ None
  before_tab BadByte p h = p
  before_tab Tab p h = absurd (omega (arith, h))
  before_tab LineForm p h = absurd (omega (arith, h))
  before_tab ManyLines p h = absurd (omega (arith, h))

  before_bad : (d : LineCause) → number_of d < 2 → answer d ≡ None
  before_bad BadByte h = absurd (omega (arith, h))
  before_bad Tab h = absurd (omega (arith, h))
  before_bad LineForm h = absurd (omega (arith, h))
  before_bad ManyLines h = absurd (omega (arith, h))

  at_many : (a : Option ℕ) → answer ManyLines ≡ a → answer BadByte ≡ None → answer Tab ≡ None → answer LineForm ≡ None → found_or ManyLines a None ≡ Some r → IsFirst answer r
  at_many None e p q s h = cc
  at_many (Some k) e p q s h = record { cause = ManyLines; line = k; found = e; is = cc; earlier = λ d g. before_many d p q s g }

  at_form : (a : Option ℕ) → answer LineForm ≡ a → answer BadByte ≡ None → answer Tab ≡ None → found_or LineForm a (found_or ManyLines (answer ManyLines) None) ≡ Some r → IsFirst answer r
  at_form None e p q h = at_many (answer ManyLines) refl p q e h
  at_form (Some k) e p q h = record { cause = LineForm; line = k; found = e; is = cc; earlier = λ d g. before_form d p q g }

  at_tab : (a : Option ℕ) → answer Tab ≡ a → answer BadByte ≡ None → found_or Tab a (found_or LineForm (answer LineForm) (found_or ManyLines (answer ManyLines) None)) ≡ Some r → IsFirst answer r
  at_tab None e p h = at_form (answer LineForm) refl p e h
  at_tab (Some k) e p h = record { cause = Tab; line = k; found = e; is = cc; earlier = λ d g. before_tab d p g }

  at_bad : (a : Option ℕ) → answer BadByte ≡ a → found_or BadByte a (first_of answer (Tab ∷ LineForm ∷ ManyLines ∷ [])) ≡ Some r → IsFirst answer r
  at_bad None e h = at_tab (answer Tab) refl e h
  at_bad (Some k) e h = record { cause = BadByte; line = k; found = e; is = cc; earlier = λ d g. before_bad d g }

first_of-Some : (answer : LineCause → Option ℕ) (r : Refusal) → first_of answer causes ≡ Some r → IsFirst answer r
first_of-Some answer r h = at_bad answer r (answer BadByte) refl h

found_or-None : (c : LineCause) (a : Option ℕ) (more : Option Refusal) → found_or c a more ≡ None → (a ≡ None) × (more ≡ None)
found_or-None c None more e = (refl, e)
found_or-None c (Some k) more e = cc

first_of-None : (answer : LineCause → Option ℕ) → first_of answer causes ≡ None → (c : LineCause) → answer c ≡ None
first_of-None answer e BadByte = (found_or-None BadByte (answer BadByte) _ e).0
first_of-None answer e Tab = (found_or-None Tab (answer Tab) _ (found_or-None BadByte (answer BadByte) _ e).1).0
first_of-None answer e LineForm =
    (found_or-None LineForm (answer LineForm) _ (found_or-None Tab (answer Tab) _ (found_or-None BadByte (answer BadByte) _ e).1).1).0
first_of-None answer e ManyLines =
    (found_or-None ManyLines (answer ManyLines) None (found_or-None LineForm (answer LineForm) _ (found_or-None Tab (answer Tab) _ (found_or-None BadByte (answer BadByte) _ e).1).1).1).0

-- ---- from the answers to the causes

-- what a cause that holds is
abbrev HoldsAs : List ℕ → Refusal → Type 0
HoldsAs text s = ((2 ^ 20 < length text) × (s ≡ refusal_at causes'.TooLong 0)) ⊎ ((c : LineCause) × (k : ℕ) × IsFound c None (statement_lines text) k × (s ≡ refusal_at (cause_of_line c) k))

HasCause-cases : (text : List ℕ) (s : Refusal) → HasCardCause text s → HoldsAs text s
HasCause-cases text _ (TooLong h) = inl (h, refl)
HasCause-cases text _ (AtLine c before line after e w) =
    inr (c, line.number, record { before = before; line = line; after = after; split = e; wrong = test_from_IsWrong c before line w; number = refl }, refl)

HasCause-IsFound : (text : List ℕ) (c : LineCause) (k : ℕ) → IsFound c None (statement_lines text) k → HasCardCause text (refusal_at (cause_of_line c) k)
HasCause-IsFound text c k f =
    subst (λ n. HasCardCause text (refusal_at (cause_of_line c) n)) f.number (AtLine c f.before f.line f.after f.split (IsWrong-from_test c f.before f.line f.wrong))

same_cause : (c d : LineCause) → number_of c ≡ number_of d → c ≡ d
same_cause BadByte BadByte e = refl
same_cause BadByte Tab e = absurd (omega (arith, e))
same_cause BadByte LineForm e = absurd (omega (arith, e))
same_cause BadByte ManyLines e = absurd (omega (arith, e))
same_cause Tab BadByte e = absurd (omega (arith, e))
same_cause Tab Tab e = refl
same_cause Tab LineForm e = absurd (omega (arith, e))
same_cause Tab ManyLines e = absurd (omega (arith, e))
same_cause LineForm BadByte e = absurd (omega (arith, e))
same_cause LineForm Tab e = absurd (omega (arith, e))
same_cause LineForm LineForm e = refl
same_cause LineForm ManyLines e = absurd (omega (arith, e))
same_cause ManyLines BadByte e = absurd (omega (arith, e))
same_cause ManyLines Tab e = absurd (omega (arith, e))
same_cause ManyLines LineForm e = absurd (omega (arith, e))
same_cause ManyLines ManyLines e = refl

line_number_least : (c : LineCause) → 2 ≤ number_of c
line_number_least BadByte = omega arith
line_number_least Tab = omega arith
line_number_least LineForm = omega arith
line_number_least ManyLines = omega arith

-- no lesser line and no lesser word
follows : (r s : Refusal) → r.line ≤ s.line → r.word ≤ s.word → (r.line < s.line) ⊎ ((r.line ≡ s.line) × (r.word ≤ s.word))
follows r s h g = elim (cases_lt r.line s.line) [ inl lt ↦ inl lt | inr le ↦ inr (omega arith, g) ]

too_long_first : (text : List ℕ) → 2 ^ 20 < length text → RefusedCards text (refusal_at causes'.TooLong 0)
too_long_first text h = answered_by (HasCardCause text) (refusal_at causes'.TooLong 0) (TooLong h) (λ s g. least s (HasCause-cases text s g)) (λ s g e. follows (refusal_at causes'.TooLong 0) s (omega arith) (omega arith))
  where
    least : (s : Refusal) → HoldsAs text s → 1 ≤ s.number
    least s (inl g) = omega (arith, ap (λ (x : Refusal). x.number) g.1)
    least s (inr g) = omega (arith, ap (λ (x : Refusal). x.number) g.3, line_number_least g.0)

module _ (text : List ℕ) (short : length text ≤ 2 ^ 20) (r : Refusal) (f : IsFirst (λ c. first_wrong c None (statement_lines text)) r) where
  least_number : (s : Refusal) → HoldsAs text s → number_of f.cause ≤ s.number
  least_number s (inl g) = absurd (omega (arith, g.0, short))
  least_number s (inr g) =
      elim (cases_lt (number_of g.0) (number_of f.cause)) [
        | inl lt ↦ absurd (first_wrong-None g.0 None (statement_lines text) g.1 (f.earlier g.0 lt) g.2)
        | inr le ↦ omega (arith, le, ap (λ (x : Refusal). x.number) g.3)
      ]

  first_number : (s : Refusal) → HoldsAs text s → s.number ≡ number_of f.cause → f.line ≤ s.line
  first_number s (inl g) e = absurd (omega (arith, g.0, short))
  first_number s (inr g) e =
      let same : g.0 ≡ f.cause = same_cause g.0 f.cause (omega (arith, e, ap (λ (x : Refusal). x.number) g.3)) in
      let found : IsFound f.cause None (statement_lines text) g.1 = subst (λ (c : LineCause). IsFound c None (statement_lines text) g.1) same g.2 in
      omega (arith, first_wrong-least f.cause None 1 (statement_lines text) g.1 f.line (RiseFrom-statement_lines 1 text) f.found found, ap (λ (x : Refusal). x.line) g.3)

  first_answered : RefusedCards text (refusal_at (cause_of_line f.cause) f.line)
  first_answered =
      answered_by (HasCardCause text) (refusal_at (cause_of_line f.cause) f.line)
      (HasCause-IsFound text f.cause f.line (first_wrong-Some f.cause None (statement_lines text) f.line f.found))
      (λ s g. least_number s (HasCause-cases text s g))
      (λ s g e. follows (refusal_at (cause_of_line f.cause) f.line) s (first_number s (HasCause-cases text s g) e) (let w = no_word f.cause in omega (arith, w)))

-- ---- the answer to a text

refusal_of-Some_by : (b : Bool) (text : List ℕ) (r : Refusal) → nat_lt (2 ^ 20) (length text) ≡ b → cond b (Some (refusal_at causes'.TooLong 0)) (first_cause causes (statement_lines text)) ≡ Some r → RefusedCards text r
refusal_of-Some_by true text r long e =
    let same : refusal_at causes'.TooLong 0 ≡ r = cc in
    subst (RefusedCards text) same (too_long_first text (ltb-true (2 ^ 20) (length text) long))
refusal_of-Some_by false text r short e =
    let f : IsFirst (λ c. first_wrong c None (statement_lines text)) r = first_of-Some (λ c. first_wrong c None (statement_lines text)) r (sym (first_cause_is causes (statement_lines text)) ∙ e) in
    subst (RefusedCards text) (sym f.is) (first_answered text (ltb-false (2 ^ 20) (length text) short) r f)

pub refusal_of-Some : (text : List ℕ) (r : Refusal) → refusal_of text ≡ Some r → RefusedCards text r
unfolding refusal_of
refusal_of-Some text r e = refusal_of-Some_by (nat_lt (2 ^ 20) (length text)) text r refl e

none_holds : (text : List ℕ) → length text ≤ 2 ^ 20 → ((c : LineCause) → first_wrong c None (statement_lines text) ≡ None) → (s : Refusal) → HoldsAs text s → ⊥
none_holds text short none s (inl g) = omega (arith, g.0, short)
none_holds text short none s (inr g) = first_wrong-None g.0 None (statement_lines text) g.1 (none g.0) g.2

refusal_of-None_by : (b : Bool) (text : List ℕ) → nat_lt (2 ^ 20) (length text) ≡ b → cond b (Some (refusal_at causes'.TooLong 0)) (first_cause causes (statement_lines text)) ≡ None → (s : Refusal) → HasCardCause text s → ⊥
refusal_of-None_by true text long e s h = cc
refusal_of-None_by false text short e s h =
    none_holds text (ltb-false (2 ^ 20) (length text) short)
    (first_of-None (λ c. first_wrong c None (statement_lines text)) (sym (first_cause_is causes (statement_lines text)) ∙ e)) s (HasCause-cases text s h)

pub refusal_of-None : (text : List ℕ) → refusal_of text ≡ None → (s : Refusal) → HasCardCause text s → ⊥
unfolding refusal_of
refusal_of-None text e s h = refusal_of-None_by (nat_lt (2 ^ 20) (length text)) text refl e s h
