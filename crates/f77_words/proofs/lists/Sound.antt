-- What is read is a list.
use Rattle.std.proofs.Common.{arith, ◌≡◌, ℕ, max, Bool, true, false, List, [], ◌∷◌, ◌++◌, refl, ap, sym, ◌∙◌, subst, append_assoc, append-nil}
use Rattle.std.specs.Prelude.{Option, Some, None}
use Rattle.std.proofs.lemmas.Bool.{cond_both}
use Rattle.tree.specs.Plain.{Single, Constant, ImpliedDo, items}
use Rattle.f77_grammar.specs.expressions.Phrases.{Phrase77, IsExpression77, written77}
use Rattle.f77_grammar.specs.expressions.Words as words
use Rattle.f77_grammar.specs.expressions.Words.{Word77}
use Rattle.f77_grammar.specs.statements.Controls.{Control, IsStep77, IsControl, written_step77, written_bounds77, written_control}
use Rattle.f77_grammar.specs.statements.Items.{ItemPhrase77, ItemPhrases77, Value, Text, Loop, Sole, More, MayStand77, IsItem77, AreItems77, written_item77, written_items77, item_tree77}
use Rattle.f77_grammar.specs.declared.directions.Direction.{Direction}
use Rattle.f77_grammar.specs.declared.directions.Direction.TheVariants.{Output, Input}
use Rattle.f77_expressions.specs.Reader as expressions
use Rattle.f77_expressions.specs.Reader.{Operand, Read, deeper}
use Rattle.f77_expressions.proofs.Complete.{operand_of}
use Rattle.f77_expressions.proofs.Sound.{Found, read_is}
use Rattle.f77_words.specs.lists.Reader.{Frame, State, Wants, Done, Step, Go, Stop, Fail, none, added, put, opens, may_stand, value, text, simple, open_list, begin_by, Bound, bound_of, given, no_step, last_part, ReadControl, control_with, with_step, with_last, behind_first, with_first, control, ended, repeat, behind_comma, whole, follow, step, start, Path, here, onward}
use Rattle.f77_words.proofs.lists.Neutral.{stands_reference}
use Rattle.f77_words.proofs.lists.Complete.{capped, all_of, filled, filled_none, bound, no_bound, control_of, loop_deep}

-- The words of what is open: under a list, and where an item is due.
mutual
  data Under (d : Direction) : List Frame → List Word77 → Type 0 where
    bottom : Under d [] []
    within : (fs : List Frame) (front : List Word77) → Due d fs front → Under d fs (front ++ words.Open ∷ [])

  data Due (d : Direction) : List Frame → List Word77 → Type 0 where
    first : (fs : List Frame) (front : List Word77) → Under d fs front → Due d (none ∷ fs) front
    next : (is : ItemPhrases77) (f : Frame) (fs : List Frame) (front : List Word77) → Under d fs front → AreItems77 d is → f ≡ filled is none
        → Due d (f ∷ fs) ((front ++ written_items77 is) ++ words.Comma ∷ [])

-- where an item has been read
record Ready (d : Direction) (fs : List Frame) (front : List Word77) : Type 0 where
  phrases : ItemPhrases77
  inner : Frame
  outer : List Frame
  before : List Word77
  under : Under d outer before
  good : AreItems77 d phrases
  inner_is : inner ≡ filled phrases none
  frames_is : fs ≡ inner ∷ outer
  front_is : front ≡ before ++ written_items77 phrases

abbrev StateStands : Direction → List Word77 → State → Type 0
StateStands d all (Wants fs ws) = (front : List Word77) × Due d fs front × (front ++ ws ≡ all)
StateStands d all (Done fs ws) = (front : List Word77) × Ready d fs front × (front ++ ws ≡ all)

-- a list in the words, of which the frame was made
pub record FoundList (d : Direction) (all : List Word77) (f : Frame) : Type 0 where
  pub phrases : ItemPhrases77
  pub good : AreItems77 d phrases
  pub same : all ≡ written_items77 phrases
  pub frame_is : f ≡ filled phrases none

abbrev StepStands : Direction → List Word77 → Step → Type 0
StepStands d all (Go s) = StateStands d all s
StepStands d all (Stop f) = FoundList d all f
StepStands d all Fail = Unit {0}

-- ---- an item

more_words : (front a b ws : List Word77) (w : Word77) → (((front ++ a) ++ w ∷ []) ++ b) ++ ws ≡ (front ++ (a ++ w ∷ b)) ++ ws
more_words front a b ws w = simp append_assoc

put_stands : (d : Direction) (all : List Word77) (i : ItemPhrase77) (fs : List Frame) (front ws : List Word77) → Due d fs front → IsItem77 d i → (front ++ written_item77 i) ++ ws ≡ all
    → StepStands d all (put (item_tree77 i) (capped i) fs ws)
put_stands d all i _ front ws (first fs _ u) g e = (
  front ++ written_item77 i,
  record { phrases = Sole i; inner = added (item_tree77 i) (capped i) none; outer = fs; before = front; under = u; good = g; inner_is = refl; frames_is = refl; front_is = refl },
  e,
)
put_stands d all i _ _ ws (next is f fs front u gs k) g e = (
  front ++ written_items77 (More is i),
  record {
    phrases = More is i;
    inner = added (item_tree77 i) (capped i) f;
    outer = fs;
    before = front;
    under = u;
    good = (gs, g);
    inner_is = ap (added (item_tree77 i) (capped i)) k;
    frames_is = refl;
    front_is = refl;
  },
  sym (more_words front (written_items77 is) (written_item77 i) ws words.Comma) ∙ e,
)

reference_of : (d : Direction) (ws rest : List Word77) (m : Operand) (p : Phrase77) → m ≡ operand_of p → written77 p ++ rest ≡ ws → may_stand d ws m ≡ true → MayStand77 d p
reference_of Output ws rest m p e w h = tt
reference_of Input ws rest m p e w h =
    stands_reference p rest (subst (λ (q : List Word77). may_stand Input q (operand_of p) ≡ true) (sym w) (subst (λ (o : Operand). may_stand Input ws o ≡ true) e h))

found_stands : (d : Direction) (all ws : List Word77) (fs : List Frame) (front : List Word77) (r : Read) → Due d fs front → front ++ ws ≡ all → Found ws r
    → may_stand d ws r.operand ≡ true → StepStands d all (put (Single r.operand.tree) r.operand.depth fs r.rest)
found_stands d all ws fs front r u e found h =
    let p = found.phrase in
    let m : MayStand77 d p = reference_of d ws r.rest r.operand p found.operand_is found.text_is h in
    let w : (front ++ written77 p) ++ r.rest ≡ all = append_assoc front (written77 p) r.rest ∙ (ap (λ (q : List Word77). front ++ q) found.text_is ∙ e) in
    subst (λ (o : Operand). StepStands d all (put (Single o.tree) o.depth fs r.rest)) (sym found.operand_is) (put_stands d all (Value p) fs front r.rest u (found.good, m) w)

value_stands : (d : Direction) (all ws : List Word77) (fs : List Frame) (front : List Word77) (o : Option Read) → Due d fs front → front ++ ws ≡ all → expressions.read ws ≡ o
    → StepStands d all (value d ws fs o)
value_stands d all ws fs front None u e k = tt
value_stands d all ws fs front (Some r) u e k =
    cond_both (may_stand d ws r.operand) (put (Single r.operand.tree) r.operand.depth fs r.rest) Fail (StepStands d all)
    (λ h. found_stands d all ws fs front r u e (read_is ws r k) h) (λ h. tt)

text_stands : (d : Direction) (all : List Word77) (t : List ℕ) (fs : List Frame) (front ws : List Word77) → Due d fs front → front ++ words.Constant t ∷ ws ≡ all → StepStands d all (text d t fs ws)
text_stands Output all t fs front ws u e =
    subst (λ (n : ℕ). StepStands Output all (put (Constant t) n fs ws)) (omega arith) (put_stands Output all (Text t) fs front ws u refl (append_assoc front (words.Constant t ∷ []) ws ∙ e))
text_stands Input all t fs front ws u e = tt

simple_stands : (d : Direction) (all ws : List Word77) (fs : List Frame) (front : List Word77) → Due d fs front → front ++ ws ≡ all → StepStands d all (simple d fs ws)
simple_stands d all [] fs front u e = value_stands d all [] fs front _ u e refl
simple_stands d all (words.Constant t ∷ ws) fs front u e = text_stands d all t fs front ws u e
simple_stands d all (w ∷ ws) fs front u e = value_stands d all (w ∷ ws) fs front _ u e refl

open_stands : (d : Direction) (all ws : List Word77) (fs : List Frame) (front : List Word77) → Due d fs front → front ++ ws ≡ all → opens ws ≡ true → StepStands d all (open_list fs ws)
open_stands d all [] fs front u e h = tt
open_stands d all (words.Open ∷ ws) fs front u e h = (front ++ words.Open ∷ [], first fs _ (within fs front u), append_assoc front (words.Open ∷ []) ws ∙ e)
open_stands d all (w ∷ ws) fs front u e h = cc

begin_stands : (d : Direction) (b : Bool) (all ws : List Word77) (fs : List Frame) (front : List Word77) → Due d fs front → front ++ ws ≡ all → opens ws ≡ b → StepStands d all (begin_by d b fs ws)
begin_stands d true all ws fs front u e h = open_stands d all ws fs front u e h
begin_stands d false all ws fs front u e h = simple_stands d all ws fs front u e

-- ---- a DO variable with its parameters

record FoundStep (ws : List Word77) (c : Bound) : Type 0 where
  phrase : Option Phrase77
  good : IsStep77 phrase
  is : c ≡ bound phrase c.rest
  text_is : ws ≡ written_step77 phrase ++ c.rest

given_found : (ws : List Word77) (o : Option Read) (c : Bound) → expressions.read ws ≡ o → given o ≡ Some c → FoundStep (words.Comma ∷ ws) c
given_found ws None c k h = cc
given_found ws (Some r) c k h =
    let f = read_is ws r k in
    let q : bound_of r ≡ c = cc in
    subst (FoundStep (words.Comma ∷ ws)) q (record {
      phrase = Some f.phrase;
      good = f.good;
      is = ap (λ (o : Operand). let b : Bound = record { tree = o.tree; depth = o.depth; rest = r.rest } in b) f.operand_is;
      text_is = ap (λ (q : List Word77). words.Comma ∷ q) (sym f.text_is);
    })

none_found : (ws : List Word77) (c : Bound) → Some (no_step ws) ≡ Some c → FoundStep ws c
none_found ws c h =
    let q : no_step ws ≡ c = cc in subst (FoundStep ws) q (record { phrase = None; good = tt; is = no_bound ws; text_is = refl })

last_found : (ws : List Word77) (c : Bound) → last_part ws ≡ Some c → FoundStep ws c
last_found [] c h = none_found [] c h
last_found (words.Comma ∷ ws) c h = given_found ws _ c refl h
last_found (w ∷ ws) c h = none_found (w ∷ ws) c h

pub record FoundControl (ws : List Word77) (k : ReadControl) : Type 0 where
  pub control : Control
  pub good : IsControl control
  pub is : k ≡ control_of control k.rest
  pub text_is : ws ≡ written_control control ++ k.rest

bounds_words : (a b c r : List Word77) (w : Word77) → a ++ w ∷ (b ++ (c ++ r)) ≡ (a ++ w ∷ (b ++ c)) ++ r
bounds_words a b c r w = simp append_assoc

control_same : (x : List ℕ) (m n p q : Operand) (c e : Bound) → m ≡ p → n ≡ q → c ≡ e → control_with x m n c ≡ control_with x p q e
control_same x m n p q c e f g h = rw (f, g, h) refl

step_found : (x : List ℕ) (p q : Phrase77) (m n : Operand) (ws tail rest : List Word77) (o : Option Bound) (b : ReadControl) → IsExpression77 p → IsExpression77 q → m ≡ operand_of p → n ≡ operand_of q
    → written77 p ++ words.Comma ∷ tail ≡ ws → written77 q ++ rest ≡ tail → last_part rest ≡ o → with_step x m n o ≡ Some b → FoundControl (words.Name x ∷ (words.Equals ∷ ws)) b
step_found x p q m n ws tail rest None b g h e k w v l s = cc
step_found x p q m n ws tail rest (Some c) b g h e k w v l s =
    let f = last_found rest c l in
    let same : control_with x m n c ≡ b = cc in
    let found : Control = record { variable = x; first = p; last = q; step = f.phrase } in
    let text : ws ≡ written_bounds77 found ++ c.rest = sym w ∙ (ap (λ (y : List Word77). written77 p ++ words.Comma ∷ y) (sym v ∙ ap (λ (y : List Word77). written77 q ++ y) f.text_is)
    ∙ bounds_words (written77 p) (written77 q) (written_step77 f.phrase) c.rest words.Comma) in
    subst (FoundControl (words.Name x ∷ (words.Equals ∷ ws))) same (record {
      control = found;
      good = (g, h, f.good);
      is = control_same x m n (operand_of p) (operand_of q) c (bound f.phrase c.rest) e k f.is;
      text_is = ap (λ (y : List Word77). words.Name x ∷ (words.Equals ∷ y)) text;
    })

second_found : (x : List ℕ) (p : Phrase77) (m : Operand) (ws tail : List Word77) (o : Option Read) (b : ReadControl) → IsExpression77 p → m ≡ operand_of p → written77 p ++ words.Comma ∷ tail ≡ ws
    → expressions.read tail ≡ o → with_last x m o ≡ Some b → FoundControl (words.Name x ∷ (words.Equals ∷ ws)) b
second_found x p m ws tail None b g e w k h = cc
second_found x p m ws tail (Some r) b g e w k h =
    let f = read_is tail r k in step_found x p f.phrase m r.operand ws tail r.rest _ b g f.good e f.operand_is w f.text_is refl h

behind_found : (x : List ℕ) (p : Phrase77) (m : Operand) (ws rest : List Word77) (b : ReadControl) → IsExpression77 p → m ≡ operand_of p → written77 p ++ rest ≡ ws → behind_first x m rest ≡ Some b
    → FoundControl (words.Name x ∷ (words.Equals ∷ ws)) b
behind_found x p m ws [] b g e w h = cc
behind_found x p m ws (words.Comma ∷ tail) b g e w h = second_found x p m ws tail _ b g e w refl h
behind_found x p m ws (v ∷ rest) b g e w h = cc

first_found : (x : List ℕ) (ws : List Word77) (o : Option Read) (b : ReadControl) → expressions.read ws ≡ o → with_first x o ≡ Some b → FoundControl (words.Name x ∷ (words.Equals ∷ ws)) b
first_found x ws None b k h = cc
first_found x ws (Some r) b k h = let f = read_is ws r k in behind_found x f.phrase r.operand ws r.rest b f.good f.operand_is f.text_is h

pub control_found : (ws : List Word77) (b : ReadControl) → control ws ≡ Some b → FoundControl ws b
control_found [] b h = cc
control_found (words.Name x ∷ []) b h = cc
control_found (words.Name x ∷ (words.Equals ∷ ws)) b h = first_found x ws _ b refl h
control_found (words.Name x ∷ (w ∷ ws)) b h = cc
control_found (w ∷ ws) b h = cc

-- ---- the end of an implied DO list

loop_words : (front is c r : List Word77) → (front ++ words.Open ∷ (is ++ words.Comma ∷ (c ++ words.Close ∷ []))) ++ r ≡ ((front ++ words.Open ∷ []) ++ is) ++ words.Comma ∷ (c ++ words.Close ∷ r)
loop_words front is c r = simp append_assoc

abbrev put_loop : Frame → ReadControl → List Frame → List Word77 → Step
put_loop f k fs r = put (ImpliedDo (items f.items) k.variable k.first k.last k.step) (deeper (max f.depth k.depth)) fs r

loop_same : (is : ItemPhrases77) (f : Frame) (k : ReadControl) (fs : List Frame) (r : List Word77) (q : Control) → f ≡ filled is none → k ≡ control_of q k.rest
    → put_loop f k fs r ≡ put (item_tree77 (Loop is q)) (capped (Loop is q)) fs r
loop_same is f k fs r q e h =
    ap (λ (g : Frame). put_loop g k fs r) (e ∙ filled_none is)
    ∙ (ap (λ (c : ReadControl). put_loop (all_of is) c fs r) h ∙ ap (λ (n : ℕ). put (item_tree77 (Loop is q)) n fs r) (loop_deep is q))

loop_stands : (d : Direction) (all : List Word77) (is : ItemPhrases77) (f : Frame) (fs : List Frame) (before ws r : List Word77) (k : ReadControl)
    → Under d fs before → AreItems77 d is → f ≡ filled is none → (before ++ written_items77 is) ++ words.Comma ∷ ws ≡ all → FoundControl ws k → k.rest ≡ words.Close ∷ r
    → StepStands d all (put_loop f k fs r)
loop_stands d all is f _ _ ws r k bottom gs g e q h = tt
loop_stands d all is f fs _ ws r k (within _ front u) gs g e q h =
    let w : (front ++ written_item77 (Loop is q.control)) ++ r ≡ all = loop_words front (written_items77 is) (written_control q.control) r
    ∙ (ap (λ (y : List Word77). ((front ++ words.Open ∷ []) ++ written_items77 is) ++ words.Comma ∷ y) (ap (λ (y : List Word77). written_control q.control ++ y) (sym h) ∙ sym q.text_is) ∙ e) in
    subst (StepStands d all) (sym (loop_same is f k fs r q.control g q.is)) (put_stands d all (Loop is q.control) fs front r u (gs, q.good) w)

ended_stands : (d : Direction) (all : List Word77) (is : ItemPhrases77) (f : Frame) (fs : List Frame) (before ws r : List Word77) (k : ReadControl)
    → Under d fs before → AreItems77 d is → f ≡ filled is none → (before ++ written_items77 is) ++ words.Comma ∷ ws ≡ all → FoundControl ws k → k.rest ≡ r
    → StepStands d all (ended (f ∷ fs) k r)
ended_stands d all is f fs before ws [] k u gs g e q h = tt
ended_stands d all is f fs before ws (words.Close ∷ r) k u gs g e q h = loop_stands d all is f fs before ws r k u gs g e q h
ended_stands d all is f fs before ws (w ∷ r) k u gs g e q h = tt

repeat_stands : (d : Direction) (all : List Word77) (is : ItemPhrases77) (f : Frame) (fs : List Frame) (before ws : List Word77) (o : Option ReadControl)
    → Under d fs before → AreItems77 d is → f ≡ filled is none → (before ++ written_items77 is) ++ words.Comma ∷ ws ≡ all → control ws ≡ o → StepStands d all (repeat (f ∷ fs) o)
repeat_stands d all is f fs before ws None u gs g e h = tt
repeat_stands d all is f fs before ws (Some k) u gs g e h = ended_stands d all is f fs before ws k.rest k u gs g e (control_found ws k h) refl

-- ---- what follows an item

comma_stands : (d : Direction) (all : List Word77) (is : ItemPhrases77) (f : Frame) (fs : List Frame) (before ws : List Word77) (b : Bool)
    → Under d fs before → AreItems77 d is → f ≡ filled is none → (before ++ written_items77 is) ++ words.Comma ∷ ws ≡ all → StepStands d all (behind_comma (f ∷ fs) ws b)
comma_stands d all is f fs before ws true u gs k e = repeat_stands d all is f fs before ws _ u gs k e refl
comma_stands d all is f fs before ws false u gs k e =
    ((before ++ written_items77 is) ++ words.Comma ∷ [], next is f fs before u gs k, append_assoc (before ++ written_items77 is) (words.Comma ∷ []) ws ∙ e)

nothing_before : (d : Direction) (fs : List Frame) (before : List Word77) → Under d fs before → fs ≡ [] → before ≡ []
nothing_before d _ _ bottom e = refl
nothing_before d _ _ (within _ _ (first _ _ _)) e = cc
nothing_before d _ _ (within _ _ (next _ _ _ _ _ _ _)) e = cc

whole_stands : (d : Direction) (all : List Word77) (is : ItemPhrases77) (f : Frame) (fs : List Frame) (before : List Word77)
    → Under d fs before → AreItems77 d is → f ≡ filled is none → (before ++ written_items77 is) ++ [] ≡ all → StepStands d all (whole (f ∷ fs))
whole_stands d all is f [] before u gs k e =
    let z = nothing_before d [] before u refl in
    record { phrases = is; good = gs; same = sym (ap (λ (q : List Word77). q ++ written_items77 is) (sym z) ∙ (sym (append-nil (before ++ written_items77 is)) ∙ e)); frame_is = k }
whole_stands d all is f (g ∷ fs) before u gs k e = tt

follow_stands : (d : Direction) (all ws : List Word77) (is : ItemPhrases77) (f : Frame) (fs : List Frame) (before : List Word77)
    → Under d fs before → AreItems77 d is → f ≡ filled is none → (before ++ written_items77 is) ++ ws ≡ all → StepStands d all (follow (f ∷ fs) ws)
follow_stands d all [] is f fs before u gs k e = whole_stands d all is f fs before u gs k e
follow_stands d all (words.Comma ∷ ws) is f fs before u gs k e = comma_stands d all is f fs before ws _ u gs k e
follow_stands d all (w ∷ ws) is f fs before u gs k e = tt

step_stands : (d : Direction) (all : List Word77) (s : State) → StateStands d all s → StepStands d all (step d s)
step_stands d all (Wants fs ws) h = begin_stands d _ all ws fs h.0 h.1 h.2 refl
step_stands d all (Done fs ws) h =
    let r = h.1 in
    subst (λ (q : List Frame). StepStands d all (follow q ws)) (sym r.frames_is)
    (follow_stands d all ws r.phrases r.inner r.outer r.before r.under r.good r.inner_is (ap (λ (q : List Word77). q ++ ws) (sym r.front_is) ∙ h.2))

path_stands : (d : Direction) (all : List Word77) (s t : State) → Path d s t → StateStands d all s → StateStands d all t
path_stands d all s t (here _) h = h
path_stands d all s t (onward _ u _ e p) h = path_stands d all u t p (subst (StepStands d all) e (step_stands d all s h))

-- What is read is a list.
pub list_found : (d : Direction) (ws : List Word77) (s : State) (f : Frame) → Path d (start ws) s → step d s ≡ Stop f → FoundList d ws f
list_found d ws s f p e = subst (StepStands d ws) e (step_stands d ws s (path_stands d ws (start ws) s p ([], first [] [] bottom, refl)))
