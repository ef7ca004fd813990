-- Words are one list of PRINT or READ, or none.
use Rattle.std.proofs.Common.{◌≡◌, ◌≤◌, ◌<◌, inl, inr, ℕ, zero, suc, ◌+◌, ◌*◌, List, [], ◌∷◌, ◌++◌, length, max, refl, ap, sym, ◌∙◌, subst, arith, true, false, Bool}
use Rattle.std.specs.Prelude.{◌⊎◌, Option, Some, None, if◌then◌else◌}
use Rattle.std.proofs.lemmas.List.{length-append}
use Rattle.tree.specs.Plain.{Item, Single, Constant, ImpliedDo, items}
use Rattle.f77_grammar.specs.expressions.Words as words
use Rattle.f77_grammar.specs.expressions.Words.{Word77}
use Rattle.f77_grammar.specs.expressions.Phrases.{written77}
use Rattle.f77_grammar.specs.statements.Items.{ItemPhrases77, AreItems77, written_items77, item_trees77, items_depth77}
use Rattle.f77_grammar.specs.declared.directions.Direction.{Direction}
use Rattle.f77_grammar.specs.declared.directions.Direction.TheVariants.{Output, Input}
use Rattle.f77_expressions.specs.Reader as expressions
use Rattle.f77_expressions.specs.Reader.{Operand, Read, capped, deeper}
use Rattle.f77_expressions.proofs.Sound.{read_is}
use Rattle.f77_words.specs.lists.Reader.{Frame, State, Wants, Done, Step, Go, Stop, Fail, none, put, opens, may_stand, value, text, simple, open_list, begin_by, Bound, given, last_part, ReadControl, with_step, with_last, behind_first, with_first, control, begins_control, ended, repeat, behind_comma, whole, follow, step, start, Path, here, Reaches}
use Rattle.f77_words.proofs.lists.Paths.{one_more, reaches}
use Rattle.f77_words.proofs.lists.Complete.{filled, filled_none}
use Rattle.f77_words.proofs.lists.ListLaws.{end_is}
use Rattle.f77_words.proofs.lists.Sound.{FoundList, list_found}

-- ---- each step leaves fewer words, or as many and an item more

abbrev size : State → ℕ
size (Wants fs ws) = 2 * length ws + 1
size (Done fs ws) = 2 * length ws

abbrev Shrinks : ℕ → Step → Type 0
Shrinks n (Go s) = size s < n
Shrinks n (Stop f) = Unit {0}
Shrinks n Fail = Unit {0}

by_test : (n : ℕ) (b : Bool) (s : Step) → Shrinks n s → Shrinks n (if b then s else Fail)
by_test n true s h = h
by_test n false s h = tt

read_rest : (ws : List Word77) (r : Read) → expressions.read ws ≡ Some r → length r.rest ≤ length ws
read_rest ws r e =
    let k = read_is ws r e in
    let l : length (written77 k.phrase ++ r.rest) ≡ length ws = ap length k.text_is in
    omega (arith, length-append (written77 k.phrase) r.rest)

put_shrinks : (i : Item) (d : ℕ) (fs : List Frame) (ws : List Word77) (n : ℕ) → 2 * length ws < n → Shrinks n (put i d fs ws)
put_shrinks i d [] ws n l = tt
put_shrinks i d (f ∷ fs) ws n l = l

value_shrinks : (d : Direction) (ws : List Word77) (fs : List Frame) (o : Option Read) → expressions.read ws ≡ o → Shrinks (2 * length ws + 1) (value d ws fs o)
value_shrinks d ws fs None e = tt
value_shrinks d ws fs (Some r) e =
    let l = read_rest ws r e in
    by_test (2 * length ws + 1) (may_stand d ws r.operand) (put (Single r.operand.tree) r.operand.depth fs r.rest) (put_shrinks (Single r.operand.tree) r.operand.depth fs r.rest (2 * length ws + 1) (omega arith))

text_shrinks : (d : Direction) (t : List ℕ) (fs : List Frame) (ws : List Word77) (n : ℕ) → 2 * length ws < n → Shrinks n (text d t fs ws)
text_shrinks Output t fs ws n l = put_shrinks (Constant t) 0 fs ws n l
text_shrinks Input t fs ws n l = tt

simple_shrinks : (d : Direction) (fs : List Frame) (ws : List Word77) → Shrinks (2 * length ws + 1) (simple d fs ws)
simple_shrinks d fs [] = value_shrinks d [] fs (expressions.read []) refl
simple_shrinks d fs (words.Constant t ∷ ws) = text_shrinks d t fs ws (2 * length (words.Constant t ∷ ws) + 1) (omega arith)
simple_shrinks d fs (w ∷ ws) = value_shrinks d (w ∷ ws) fs (expressions.read (w ∷ ws)) refl

open_shrinks : (fs : List Frame) (ws : List Word77) → Shrinks (2 * length ws + 1) (open_list fs ws)
open_shrinks fs [] = tt
open_shrinks fs (w ∷ ws) = omega arith

begin_shrinks : (d : Direction) (b : Bool) (fs : List Frame) (ws : List Word77) → Shrinks (2 * length ws + 1) (begin_by d b fs ws)
begin_shrinks d true fs ws = open_shrinks fs ws
begin_shrinks d false fs ws = simple_shrinks d fs ws

-- ---- a DO variable with its parameters

abbrev IsBoundIn : ℕ → Option Bound → Type 0
IsBoundIn n None = Unit {0}
IsBoundIn n (Some b) = length b.rest ≤ n

abbrev IsControlIn : ℕ → Option ReadControl → Type 0
IsControlIn n None = Unit {0}
IsControlIn n (Some k) = length k.rest ≤ n

given_in : (ws : List Word77) (o : Option Read) (n : ℕ) → expressions.read ws ≡ o → length ws ≤ n → IsBoundIn n (given o)
given_in ws None n e l = tt
given_in ws (Some r) n e l = (let k = read_rest ws r e in omega (arith, k, l))

last_in : (ws : List Word77) (n : ℕ) → length ws ≤ n → IsBoundIn n (last_part ws)
last_in [] n l = l
last_in (words.Comma ∷ ws) n l = given_in ws (expressions.read ws) n refl (omega arith)
last_in (w ∷ ws) n l = l

step_in : (x : List ℕ) (a b : Operand) (o : Option Bound) (n : ℕ) → IsBoundIn n o → IsControlIn n (with_step x a b o)
step_in x a b None n h = tt
step_in x a b (Some c) n h = h

with_last_in : (x : List ℕ) (a : Operand) (ws : List Word77) (o : Option Read) (n : ℕ) → expressions.read ws ≡ o → length ws ≤ n → IsControlIn n (with_last x a o)
with_last_in x a ws None n e l = tt
with_last_in x a ws (Some r) n e l = (let k = read_rest ws r e in step_in x a r.operand (last_part r.rest) n (last_in r.rest n (omega arith)))

behind_first_in : (x : List ℕ) (a : Operand) (ws : List Word77) (n : ℕ) → length ws ≤ n → IsControlIn n (behind_first x a ws)
behind_first_in x a [] n l = tt
behind_first_in x a (words.Comma ∷ ws) n l = with_last_in x a ws (expressions.read ws) n refl (omega arith)
behind_first_in x a (w ∷ ws) n l = tt

first_in : (x : List ℕ) (ws : List Word77) (o : Option Read) (n : ℕ) → expressions.read ws ≡ o → length ws ≤ n → IsControlIn n (with_first x o)
first_in x ws None n e l = tt
first_in x ws (Some r) n e l = (let k = read_rest ws r e in behind_first_in x r.operand r.rest n (omega arith))

control_in : (ws : List Word77) (n : ℕ) → length ws ≤ n → IsControlIn n (control ws)
control_in [] n l = tt
control_in (words.Name x ∷ []) n l = tt
control_in (words.Name x ∷ (words.Equals ∷ ws)) n l = first_in x ws (expressions.read ws) n refl (omega arith)
control_in (words.Name x ∷ (w ∷ ws)) n l = tt
control_in (w ∷ ws) n l = tt

ended_shrinks : (fs : List Frame) (k : ReadControl) (ws : List Word77) (n : ℕ) → 2 * length ws < n → Shrinks n (ended fs k ws)
ended_shrinks [] k ws n l = tt
ended_shrinks (f ∷ fs) k [] n l = tt
ended_shrinks (f ∷ fs) k (words.Close ∷ ws) n l =
    put_shrinks (ImpliedDo (items f.items) k.variable k.first k.last k.step) (deeper (max f.depth k.depth)) fs ws n (omega arith)
ended_shrinks (f ∷ fs) k (w ∷ ws) n l = tt

repeat_shrinks : (fs : List Frame) (o : Option ReadControl) (n m : ℕ) → IsControlIn m o → 2 * m < n → Shrinks n (repeat fs o)
repeat_shrinks fs None n m h l = tt
repeat_shrinks fs (Some k) n m h l = ended_shrinks fs k k.rest n (omega arith)

-- ---- what follows an item

behind_shrinks : (fs : List Frame) (ws : List Word77) (b : Bool) → Shrinks (2 * length ws + 2) (behind_comma fs ws b)
behind_shrinks fs ws true = repeat_shrinks fs (control ws) (2 * length ws + 2) (length ws) (control_in ws (length ws) (omega arith)) (omega arith)
behind_shrinks fs ws false = omega arith

whole_shrinks : (fs : List Frame) (n : ℕ) → Shrinks n (whole fs)
whole_shrinks [] n = tt
whole_shrinks (f ∷ []) n = tt
whole_shrinks (f ∷ (g ∷ fs)) n = tt

fewer : (n m : ℕ) (s : Step) → n ≤ m → Shrinks n s → Shrinks m s
fewer n m (Go s) l h = omega arith
fewer n m (Stop f) l h = tt
fewer n m Fail l h = tt

follow_shrinks : (fs : List Frame) (ws : List Word77) → Shrinks (2 * length ws) (follow fs ws)
follow_shrinks fs [] = whole_shrinks fs 0
follow_shrinks fs (words.Comma ∷ ws) = fewer (2 * length ws + 2) (2 * length (words.Comma ∷ ws)) (behind_comma fs ws (begins_control ws)) (omega arith) (behind_shrinks fs ws (begins_control ws))
follow_shrinks fs (w ∷ ws) = tt

step_shrinks : (d : Direction) (s : State) → Shrinks (size s) (step d s)
step_shrinks d (Wants fs ws) = begin_shrinks d (opens ws) fs ws
step_shrinks d (Done fs ws) = follow_shrinks fs ws

-- ---- so steps come to an end

abbrev Ending : Direction → List Word77 → Type 0
Ending d ws = ((f : Frame) × Reaches d ws (Stop f)) ⊎ Reaches d ws Fail

module _ (d : Direction) (ws : List Word77) where
  by_step : (s : State) → Path d (start ws) s → (st : Step) → step d s ≡ st → ((t : State) → size t < size s → Path d (start ws) t → Ending d ws) → Ending d ws
  by_step s p (Go t) e on = on t (subst (Shrinks (size s)) e (step_shrinks d s)) (one_more d (start ws) s t p e)
  by_step s p (Stop f) e on = inl (f, reaches d ws s (Stop f) p e)
  by_step s p Fail e on = inr (reaches d ws s Fail p e)

  within : (n : ℕ) (s : State) → size s ≤ n → Path d (start ws) s → Ending d ws
  within zero s l p = by_step s p (step d s) refl (λ t k q. absurd (omega arith))
  within (suc n) s l p = by_step s p (step d s) refl (λ t k q. within n t (omega arith) q)

one_frame : (f g : Frame) → Stop f ≡ Stop g → f ≡ g
one_frame f g e = cc

fail_stop : (f : Frame) → Fail ≡ Stop f → ⊥
fail_stop f e = cc

pub record AreItemsThere (d : Direction) (ws : List Word77) : Type 0 where
  pub phrases : ItemPhrases77
  pub good : AreItems77 d phrases
  pub same : ws ≡ written_items77 phrases
  pub only : (is : ItemPhrases77) → AreItems77 d is → ws ≡ written_items77 is → (item_trees77 phrases ≡ item_trees77 is) × (capped (items_depth77 phrases) ≡ capped (items_depth77 is))

abbrev pub ItemsOf : Direction → List Word77 → Type 0
ItemsOf d ws = AreItemsThere d ws ⊎ ((is : ItemPhrases77) → AreItems77 d is → ws ≡ written_items77 is → ⊥)

pub items_of : (d : Direction) (ws : List Word77) → ItemsOf d ws
items_of d ws = by (within d ws (size (start ws)) (start ws) (omega arith) (here (start ws)))
  where
    alike : (f : Frame) (k : FoundList d ws f) → Reaches d ws (Stop f) → (is : ItemPhrases77) → AreItems77 d is → ws ≡ written_items77 is
        → (item_trees77 k.phrases ≡ item_trees77 is) × (capped (items_depth77 k.phrases) ≡ capped (items_depth77 is))
    alike f k h is g e =
        let q : filled k.phrases none ≡ filled is none = sym k.frame_is ∙ one_frame _ _ (end_is d ws (Stop f) is h tt g e) in
        let s = sym (filled_none k.phrases) ∙ q ∙ filled_none is in
        (ap (λ (x : Frame). x.items) s, ap (λ (x : Frame). x.depth) s)

    by : Ending d ws → ItemsOf d ws
    by (inl h) =
        let k = list_found d ws h.1.state h.0 h.1.path h.1.ends in
        inl (record { phrases = k.phrases; good = k.good; same = k.same; only = alike h.0 k h.1 })
    by (inr h) = inr (λ is g e. fail_stop _ (end_is d ws Fail is h tt g e))
