-- The word of a statement, or of its inner statement.
use Rattle.std.proofs.Common.{◌≡◌, ℕ, zero, suc, ◌<◌, Bool, true, false, List, [], ◌∷◌, ◌++◌, length, refl, ap, sym, ◌∙◌, subst, codes, arith}
use Rattle.std.specs.Prelude.{Option, Some, None, IfSome, is_some}
use Rattle.std.proofs.lemmas.List.{length-map}
use Rattle.f77_grammar.specs.expressions.Squeezing.{Symbol77}
use Rattle.f77_grammar.specs.expressions.Spelling.{chars77}
use Rattle.f77_grammar.specs.statements.Recognition as recognition
use Rattle.f77_grammar.specs.statements.Recognition.{Halves, Bracket, Opening, Closing, Neither, bracket_of, with_symbol, cut_by, cut_from, cut_at_close, has_equals_outside, IsConditional, IsOfKeyword, IsArithmeticIf, IsComputedGoTo, IsAssignedGoTo, BeginsImplicitNone, HasWord, words_left_out}
use Rattle.f77_expressions.specs.Symbols.{symbol_of, symbols_of}
use Rattle.f77_expressions.specs.declared.symbols.Symbol.{Symbol as Symbol'}
use Rattle.f77_words.specs.keywords.FormsLeftOut as forms
use Rattle.f77_words.specs.keywords.FormsLeftOut.{IsFormLeftOut}
use Rattle.f77_expressions.specs.Lexing.{strip}
use Rattle.f77_words.specs.keywords.Listed.{begins_with, listed}
use Rattle.f77_words.proofs.keywords.ListedLaws.{listed_found, listed_only, no_if_listed, no_go_to_listed}
use Rattle.f77_words.proofs.keywords.Stripping.{strip_same, stripped}

-- ---- a text has one condition

tail : List Symbol77 → List Symbol77
tail [] = []
tail (s ∷ ss) = ss

same_opened : (a b : List Symbol77) → chars77 (codes "IF(") ++ a ≡ chars77 (codes "IF(") ++ b → a ≡ b
unfolding tail
same_opened a b e = ap (λ (q : List Symbol77). tail (tail (tail q))) e

same_halves : (h k : Halves) → Some h ≡ Some k → h ≡ k
same_halves h k e = cc

same_rest : (text a b c d : List Symbol77) → IsConditional text a b → IsConditional text c d → b ≡ d
same_rest text a b c d h k =
    let o : h.opened ≡ k.opened = same_opened h.opened k.opened (sym h.begins ∙ k.begins) in
    let e = same_halves (record { inside = a; behind = b }) (record { inside = c; behind = d }) (sym h.cut ∙ (ap cut_at_close o ∙ k.cut)) in
    ap (λ (q : Halves). q.behind) e

-- ---- the inner statement's word

abbrev Then : List Symbol77
Then = chars77 (codes "THEN")

inner_has : {text : List Symbol77} {w : ℕ} → HasWord text w → (condition rest : List Symbol77) → IsConditional text condition rest → HasWord rest w × (rest ≡ Then → ⊥)
inner_has (recognition.BeginsWith word number text behind k c e i) condition rest h = absurd (k.unconditional condition rest h)
inner_has (recognition.ArithmeticIf text k f) condition rest h = absurd (k.unconditional condition rest h)
inner_has (recognition.ComputedGoTo text k f) condition rest h = absurd (k.unconditional condition rest h)
inner_has (recognition.AssignedGoTo text k f) condition rest h = absurd (k.unconditional condition rest h)
inner_has (recognition.Inner text c r number k n w) condition rest h =
    let e : r ≡ rest = same_rest text c r condition rest k h in
    (subst (λ (q : List Symbol77). HasWord q number) e w, λ t. n (e ∙ t))

-- two texts have the same words
pub record IsInnerOf (text rest : List Symbol77) : Type 0 where
  pub up : (w : ℕ) → HasWord rest w → HasWord text w
  pub down : (w : ℕ) → HasWord text w → HasWord rest w

pub inner_begun : (text : List Symbol77) → IsInnerOf text text
inner_begun text = record { up = λ w h. h; down = λ w h. h }

pub inner_more : (text rest condition inner : List Symbol77) → IsInnerOf text rest → IsConditional rest condition inner → (inner ≡ chars77 (codes "THEN") → ⊥) → IsInnerOf text inner
inner_more text rest condition inner h k n = record {
  up = λ w i. h.up w (recognition.Inner rest condition inner w k n i);
  down = λ w i. (inner_has (h.down w i) condition inner k).0;
}

pub no_inner : (text rest condition inner : List Symbol77) → IsInnerOf text rest → IsConditional rest condition inner → inner ≡ chars77 (codes "THEN") → (w : ℕ) → HasWord text w → ⊥
no_inner text rest condition inner h k e w i = (inner_has (h.down w i) condition inner k).1 e

-- ---- the inner statement is shorter

with_some : (s : Symbol77) (o : Option Halves) (h : Halves) → with_symbol s o ≡ Some h → (k : Halves) × (o ≡ Some k) × (h.behind ≡ k.behind)
with_some s None h e = let z : ⊥ = cc in absurd z
with_some s (Some k) h e =
    let f = same_halves (record { inside = s ∷ k.inside; behind = k.behind }) h e in (k, refl, sym (ap (λ (q : Halves). q.behind) f))

shorter_with : (s : Symbol77) (ss : List Symbol77) (n : ℕ) (h : Halves) → ((m : ℕ) (k : Halves) → cut_from ss m ≡ Some k → length k.behind < length ss) → with_symbol s (cut_from ss n) ≡ Some h → length h.behind < suc (length ss)
shorter_with s ss n h on e =
    let k = with_some s (cut_from ss n) h e in
    let l : length k.0.behind < length ss = on n k.0 k.1 in
    let f : length h.behind ≡ length k.0.behind = ap length k.2 in omega arith

shorter_by : (b : Bracket) (s : Symbol77) (ss : List Symbol77) (n : ℕ) (h : Halves) → ((m : ℕ) (k : Halves) → cut_from ss m ≡ Some k → length k.behind < length ss)
    → cut_by b s ss (cut_from ss) n ≡ Some h → length h.behind < suc (length ss)
shorter_by Opening s ss n h on e = shorter_with s ss (suc n) h on e
shorter_by Neither s ss n h on e = shorter_with s ss n h on e
shorter_by Closing s ss zero h on e =
    let f = same_halves (record { inside = []; behind = ss }) h e in
    let g : length ss ≡ length h.behind = ap (λ (q : Halves). length q.behind) f in omega arith
shorter_by Closing s ss (suc n) h on e = shorter_with s ss n h on e

cut_shorter : (text : List Symbol77) (n : ℕ) (h : Halves) → cut_from text n ≡ Some h → length h.behind < length text
cut_shorter [] n h e = let z : ⊥ = cc in absurd z
cut_shorter (s ∷ ss) n h e = shorter_by (bracket_of s) s ss n h (λ m k f. cut_shorter ss m k f) e

pub inner_shorter : (xs ys : List Symbol') (condition : List Symbol77) → IsConditional (symbols_of xs) condition (symbols_of ys) → length ys < length xs
inner_shorter xs ys condition h =
    let a : length xs ≡ length (symbols_of xs) = sym (length-map xs symbol_of) in
    let b : length ys ≡ length (symbols_of ys) = sym (length-map ys symbol_of) in
    let c : length (symbols_of xs) ≡ suc (suc (suc (length h.opened))) = ap length h.begins in
    let d : length (symbols_of ys) < length h.opened = cut_shorter h.opened 0 (record { inside = condition; behind = symbols_of ys }) h.cut in
    omega arith

-- ---- the word of a keyword

pub of_keyword : {text : List Symbol77} {w : ℕ} → HasWord text w → ((condition rest : List Symbol77) → IsConditional text condition rest → ⊥) → IsOfKeyword text
of_keyword (recognition.BeginsWith word number text behind k c e i) n = k
of_keyword (recognition.ArithmeticIf text k f) n = k
of_keyword (recognition.ComputedGoTo text k f) n = k
of_keyword (recognition.AssignedGoTo text k f) n = k
of_keyword (recognition.Inner text c r number k t w) n = absurd (n c r k)

-- a word of the list, or a form
pub data IsListedOrFormed (text : List Symbol77) (w : ℕ) : Type 0 where
  Listed : listed words_left_out text ≡ Some w → IsListedOrFormed text w
  Formed : listed words_left_out text ≡ None → IsFormLeftOut text w → IsListedOrFormed text w

assigned_begins : (text : List Symbol77) → IsAssignedGoTo text → (rest : List Symbol77) × (text ≡ chars77 (codes "GOTO") ++ rest)
assigned_begins text (recognition.Alone name n e) = (_, e)
assigned_begins text (recognition.WithLabels name comma first others list n l e) = (_, e)

pub has_keyword : {text : List Symbol77} {w : ℕ} → HasWord text w → ((condition rest : List Symbol77) → IsConditional text condition rest → ⊥) → IsListedOrFormed text w
has_keyword (recognition.BeginsWith word number text behind k c e i) n = Listed (listed_only text number (record { word = word; rest = behind; contained = c; same = e }))
has_keyword (recognition.ArithmeticIf text k f) n = Formed (no_if_listed text f.opened f.begins) (forms.ArithmeticIf f)
has_keyword (recognition.ComputedGoTo text k f) n = Formed (no_go_to_listed text _ f.written) (forms.ComputedGoTo f)
has_keyword (recognition.AssignedGoTo text k f) n = let b = assigned_begins text f in Formed (no_go_to_listed text b.0 b.1) (forms.AssignedGoTo f)
has_keyword (recognition.Inner text c r number k t w) n = absurd (n c r k)

-- ---- IMPLICIT NONE

none_some : (rest : List Symbol77) → Some rest ≡ None → ⊥
none_some rest e = cc

no_if_implicit : (text opened : List Symbol77) → text ≡ chars77 (codes "IF(") ++ opened → BeginsImplicitNone text → ⊥
no_if_implicit text opened e h = none_some h.0 (sym (stripped (codes "IMPLICITNONE") text h.0 h.1) ∙ ap (strip (codes "IMPLICITNONE")) e)

no_go_to_implicit : (text rest : List Symbol77) → text ≡ chars77 (codes "GOTO") ++ rest → BeginsImplicitNone text → ⊥
no_go_to_implicit text rest e h = none_some h.0 (sym (stripped (codes "IMPLICITNONE") text h.0 h.1) ∙ ap (strip (codes "IMPLICITNONE")) e)

-- what begins with IMPLICIT NONE has no word
pub no_implicit_none : {text : List Symbol77} {w : ℕ} → HasWord text w → ((condition rest : List Symbol77) → IsConditional text condition rest → ⊥) → BeginsImplicitNone text → ⊥
no_implicit_none (recognition.BeginsWith word number text behind k c e i) n h = i h
no_implicit_none (recognition.ArithmeticIf text k f) n h = no_if_implicit text f.opened f.begins h
no_implicit_none (recognition.ComputedGoTo text k f) n h = no_go_to_implicit text _ f.written h
no_implicit_none (recognition.AssignedGoTo text k f) n h = let b = assigned_begins text f in no_go_to_implicit text b.0 b.1 h
no_implicit_none (recognition.Inner text c r number k t w) n h = absurd (n c r k)

stripped_is : (text : List Symbol77) (o : Option (List Symbol77)) → strip (codes "IMPLICITNONE") text ≡ o → begins_with (codes "IMPLICITNONE") text ≡ true → BeginsImplicitNone text
stripped_is text (Some rest) e h = (rest, strip_same (codes "IMPLICITNONE") text rest e)
stripped_is text None e h = let z : false ≡ true = ap is_some (sym e) ∙ h in let y : ⊥ = cc in absurd y

pub implicit_none_refused : (text : List Symbol77) (w : ℕ) (b : Bool) → b ≡ begins_with (codes "IMPLICITNONE") text → b ≡ true
    → ((condition rest : List Symbol77) → IsConditional text condition rest → ⊥) → HasWord text w → ⊥
implicit_none_refused text w b e t n h = no_implicit_none h n (stripped_is text (strip (codes "IMPLICITNONE") text) refl (sym e ∙ t))

pub no_implicit_begins : (text : List Symbol77) (b : Bool) → b ≡ begins_with (codes "IMPLICITNONE") text → b ≡ false → BeginsImplicitNone text → ⊥
no_implicit_begins text b e f h =
    let z : true ≡ false = sym (ap is_some (stripped (codes "IMPLICITNONE") text h.0 h.1)) ∙ (sym e ∙ f) in cc

pub listed_word_is : (text : List Symbol77) (w : ℕ) → IsOfKeyword text → (BeginsImplicitNone text → ⊥) → Some w ≡ listed words_left_out text → HasWord text w
listed_word_is text w k n e =
    let l = listed_found words_left_out text w (sym e) in recognition.BeginsWith l.word w text l.rest k l.contained l.same n

some_none : (w : ℕ) → Some w ≡ None → ⊥
some_none w e = cc

pub listed_word_only : (text : List Symbol77) (v w : ℕ) → Some v ≡ listed words_left_out text → IsListedOrFormed text w → Some v ≡ Some w
listed_word_only text v w e (Listed f) = e ∙ f
listed_word_only text v w e (Formed f g) = absurd (some_none v (e ∙ f))

pub form_is : {text : List Symbol77} {w : ℕ} → IsOfKeyword text → IsFormLeftOut text w → HasWord text w
form_is {text = text} k (forms.ArithmeticIf f) = recognition.ArithmeticIf text k f
form_is {text = text} k (forms.ComputedGoTo f) = recognition.ComputedGoTo text k f
form_is {text = text} k (forms.AssignedGoTo f) = recognition.AssignedGoTo text k f

pub form_of_keyword : (text : List Symbol77) (w : ℕ) → None ≡ listed words_left_out text → IsListedOrFormed text w → IsFormLeftOut text w
form_of_keyword text w e (Listed f) = absurd (some_none w (sym f ∙ sym e))
form_of_keyword text w e (Formed f g) = g

pub true_false : (b : Bool) → b ≡ true → b ≡ false → ⊥
true_false b e f = let z : true ≡ false = sym e ∙ f in cc

pub no_equals_sign : (text : List Symbol77) (w : ℕ) (b : Bool) → b ≡ has_equals_outside text 0 → b ≡ true → ((condition rest : List Symbol77) → IsConditional text condition rest → ⊥) → HasWord text w → ⊥
no_equals_sign text w b e t n h = true_false b t (e ∙ (of_keyword h n).no_equals)

pub form_words : (text : List Symbol77) (o : Option ℕ) → IsOfKeyword text → IfSome o (λ w. IsFormLeftOut text w) → IfSome o (λ w. HasWord text w)
form_words text None k h = tt
form_words text (Some w) k h = form_is k h
