-- Every list is read.
use Rattle.std.proofs.Common.{arith, ◌≡◌, ℕ, max, min, pos, Bool, true, false, List, [], ◌∷◌, ◌++◌, refl, ap, sym, ◌∙◌, subst, append_assoc, append-nil}
use Rattle.std.specs.Prelude.{Option, Some, None}
use Rattle.std.proofs.lemmas.Bool.{both_ways}
use Rattle.tree.specs.Plain.{Number, Item, Single, Constant}
use Rattle.f77_grammar.specs.expressions.Phrases.{Phrase77, IsExpression77, written77, tree77_of, phrase_depth77}
use Rattle.f77_grammar.specs.expressions.Words as words
use Rattle.f77_grammar.specs.expressions.Words.{Word77}
use Rattle.f77_grammar.specs.statements.Controls.{Control, IsStep77, IsControl, written_step77, written_control, step_tree77, step_depth77}
use Rattle.f77_grammar.specs.statements.Items.{ItemPhrase77, ItemPhrases77, Value, Text, Loop, Sole, More, MayStand77, IsItem77, AreItems77, written_item77, written_items77, item_tree77, item_trees77, item_depth77, items_depth77}
use Rattle.f77_grammar.specs.declared.directions.Direction.{Direction}
use Rattle.f77_grammar.specs.declared.directions.Direction.TheVariants.{Output, Input}
use Rattle.f77_expressions.specs.Reader as expressions
use Rattle.f77_expressions.specs.Reader.{Read, deeper}
use Rattle.f77_expressions.specs.Reading.{Ends}
use Rattle.f77_expressions.proofs.Complete.{operand_of, is_read}
use Rattle.f77_words.specs.lists.Reader.{Frame, State, Wants, Done, Go, none, added, put, may_stand, value, begin_by, Bound, ReadControl, no_step, last_part, control_with, with_step, with_last, with_first, given, repeat, begins_control, behind_comma, control, step, start, Path, here, onward}
use Rattle.f77_words.proofs.lists.Neutral.{loop_end, list_opens, value_opens_not, value_simple, item_controls_not, reference_stands, IsNoEquals}
use Rattle.f77_words.proofs.lists.Paths.{joined, one_more}

-- a comma or the end of the words stands behind an item
abbrev pub IsSeparated : List Word77 → Type 0
IsSeparated [] = Unit {0}
IsSeparated (words.Comma ∷ ws) = Unit {0}
IsSeparated ws = ⊥

separated_ends : (r : List Word77) → IsSeparated r → Ends r
separated_ends [] h = tt
separated_ends (words.Comma ∷ r) h = tt
separated_ends (w ∷ r) h = absurd h

no_equals : (r : List Word77) → IsSeparated r → IsNoEquals r
no_equals [] h = tt
no_equals (words.Comma ∷ r) h = tt
no_equals (w ∷ r) h = absurd h

abbrev pub capped : ItemPhrase77 → ℕ
capped i = min (item_depth77 i) 401

-- a list with items
abbrev pub filled : ItemPhrases77 → Frame → Frame
filled (Sole i) f = added (item_tree77 i) (capped i) f
filled (More is i) f = added (item_tree77 i) (capped i) (filled is f)

abbrev frame : List Item → ℕ → Frame
frame is d = record { items = is; depth = d }

abbrev pub all_of : ItemPhrases77 → Frame
all_of is = frame (item_trees77 is) (min (items_depth77 is) 401)

pub filled_none : (is : ItemPhrases77) → filled is none ≡ all_of is
filled_none (Sole i) = ap (frame (item_tree77 i ∷ [])) (omega arith)
filled_none (More is i) =
    ap (added (item_tree77 i) (capped i)) (filled_none is)
    ∙ ap (frame (item_trees77 is ++ item_tree77 i ∷ [])) (omega arith)

-- ---- an expression

stands : (d : Direction) (p : Phrase77) (r : List Word77) → MayStand77 d p → may_stand d (written77 p ++ r) (operand_of p) ≡ true
stands Output p r m = refl
stands Input p r m = reference_stands p r m

value_put : (d : Direction) (ws : List Word77) (fs : List Frame) (r : Read) → may_stand d ws r.operand ≡ true
    → value d ws fs (Some r) ≡ put (Single r.operand.tree) r.operand.depth fs r.rest
value_put d ws fs r h = rw h refl

value_step : (d : Direction) (p : Phrase77) (f : Frame) (fs : List Frame) (r : List Word77) → IsExpression77 p → MayStand77 d p → Ends r
    → step d (Wants (f ∷ fs) (written77 p ++ r)) ≡ Go (Done (added (Single (tree77_of p)) (min (phrase_depth77 p) 401) f ∷ fs) r)
value_step d p f fs r g m e =
    let ws = written77 p ++ r in
    let found : Read = record { operand = operand_of p; rest = r } in
    ap (λ (b : Bool). begin_by d b (f ∷ fs) ws) (value_opens_not p r)
    ∙ (value_simple d (f ∷ fs) p r
    ∙ (ap (value d ws (f ∷ fs)) (is_read p r g e)
    ∙ value_put d ws (f ∷ fs) found (stands d p r m)))

-- ---- a DO variable with its parameters

-- what may stand behind it
abbrev pub EndsControl : List Word77 → Type 0
EndsControl [] = Unit {0}
EndsControl (words.Close ∷ ws) = Unit {0}
EndsControl ws = ⊥

control_ends : (r : List Word77) → EndsControl r → Ends r
control_ends [] h = tt
control_ends (words.Close ∷ r) h = tt
control_ends (w ∷ r) h = absurd h

step_ends : (c : Option Phrase77) (r : List Word77) → EndsControl r → Ends (written_step77 c ++ r)
step_ends None r h = control_ends r h
step_ends (Some p) r h = tt

abbrev pub bound : Option Phrase77 → List Word77 → Bound
bound c r = record { tree = step_tree77 c; depth = min (step_depth77 c) 401; rest = r }

pub no_bound : (r : List Word77) → no_step r ≡ bound None r
no_bound r = ap (λ (n : ℕ). let b : Bound = record { tree = Number (pos 1); depth = n; rest = r } in b) (omega arith)

last_read : (c : Option Phrase77) (r : List Word77) → IsStep77 c → EndsControl r → last_part (written_step77 c ++ r) ≡ Some (bound c r)
last_read None [] h e = ap Some (no_bound [])
last_read None (words.Close ∷ r) h e = ap Some (no_bound (words.Close ∷ r))
last_read None (w ∷ r) h e = absurd e
last_read (Some p) r h e = ap given (is_read p r h (control_ends r e))

abbrev pub control_of : Control → List Word77 → ReadControl
control_of k r = control_with k.variable (operand_of k.first) (operand_of k.last) (bound k.step r)

pub control_is_read : (k : Control) (r : List Word77) → IsControl k → EndsControl r → control (written_control k ++ r) ≡ Some (control_of k r)
control_is_read k r h e =
    let tail = (written77 k.last ++ written_step77 k.step) ++ r in
    ap (λ (q : List Word77). with_first k.variable (expressions.read q)) (append_assoc (written77 k.first) (words.Comma ∷ (written77 k.last ++ written_step77 k.step)) r)
    ∙ (ap (with_first k.variable) (is_read k.first (words.Comma ∷ tail) h.0 tt)
    ∙ (ap (λ (q : List Word77). with_last k.variable (operand_of k.first) (expressions.read q)) (append_assoc (written77 k.last) (written_step77 k.step) r)
    ∙ (ap (with_last k.variable (operand_of k.first)) (is_read k.last (written_step77 k.step ++ r) h.1 (step_ends k.step r e))
    ∙ ap (with_step k.variable (operand_of k.first) (operand_of k.last)) (last_read k.step r h.2 e))))

pub loop_deep : (is : ItemPhrases77) (k : Control) → deeper (max (min (items_depth77 is) 401) (control_of k []).depth) ≡ capped (Loop is k)
loop_deep is k = omega arith

-- ---- items

opens_step : (d : Direction) (is : ItemPhrases77) (fs : List Frame) (r : List Word77)
    → step d (Wants fs (words.Open ∷ (written_items77 is ++ words.Comma ∷ r))) ≡ Go (Wants (none ∷ fs) (written_items77 is ++ words.Comma ∷ r))
opens_step d is fs r = ap (λ (b : Bool). begin_by d b fs (words.Open ∷ (written_items77 is ++ words.Comma ∷ r))) (list_opens is r)

comma_step : (d : Direction) (fs : List Frame) (ws : List Word77) → begins_control ws ≡ false → step d (Done fs (words.Comma ∷ ws)) ≡ Go (Wants fs ws)
comma_step d fs ws e = ap (behind_comma fs ws) e

close_step : (d : Direction) (is : ItemPhrases77) (k : Control) (f : Frame) (fs : List Frame) (r : List Word77) → IsControl k
    → step d (Done (filled is none ∷ f ∷ fs) (words.Comma ∷ ((written_control k ++ words.Close ∷ []) ++ r)))
    ≡ Go (Done (added (item_tree77 (Loop is k)) (capped (Loop is k)) f ∷ fs) r)
close_step d is k f fs r h =
    ap (λ (q : List Word77). repeat (filled is none ∷ f ∷ fs) (control q)) (append_assoc (written_control k) (words.Close ∷ []) r)
    ∙ (ap (repeat (filled is none ∷ f ∷ fs)) (control_is_read k (words.Close ∷ r) h tt)
    ∙ (ap (λ (g : Frame). repeat (g ∷ f ∷ fs) (Some (control_of k (words.Close ∷ r)))) (filled_none is)
    ∙ ap (λ (n : ℕ). Go (Done (added (item_tree77 (Loop is k)) n f ∷ fs) r)) (loop_deep is k)))

text_step : (d : Direction) (t : List ℕ) (f : Frame) (fs : List Frame) (r : List Word77) → IsItem77 d (Text t)
    → step d (Wants (f ∷ fs) (words.Constant t ∷ r)) ≡ Go (Done (added (Constant t) (capped (Text t)) f ∷ fs) r)
text_step Output t f fs r h = ap (λ (n : ℕ). Go (Done (added (Constant t) n f ∷ fs) r)) (omega arith)
text_step Input t f fs r h = absurd (both_ways false refl h)

abbrev ItemRead : Direction → ItemPhrase77 → Frame → List Frame → List Word77 → List Word77 → Type 0
ItemRead d i f fs r ws = Path d (Wants (f ∷ fs) ws) (Done (added (item_tree77 i) (capped i) f ∷ fs) r)

abbrev ItemsRead : Direction → ItemPhrases77 → Frame → List Frame → List Word77 → List Word77 → Type 0
ItemsRead d is f fs r ws = Path d (Wants (f ∷ fs) ws) (Done (filled is f ∷ fs) r)

one_step : (d : Direction) (s t : State) → step d s ≡ Go t → Path d s t
one_step d s t e = onward s t t e (here t)

mutual
  item_reads : (i : ItemPhrase77) (d : Direction) (f : Frame) (fs : List Frame) (r : List Word77) → IsItem77 d i → IsSeparated r → ItemRead d i f fs r (written_item77 i ++ r)
  item_reads (Value p) d f fs r h s = one_step d _ _ (value_step d p f fs r h.0 h.1 (separated_ends r s))
  item_reads (Text t) d f fs r h s = one_step d _ _ (text_step d t f fs r h)
  item_reads (Loop is k) d f fs r h s =
      let behind = (written_control k ++ words.Close ∷ []) ++ r in
      subst (λ (q : List Word77). ItemRead d (Loop is k) f fs r (words.Open ∷ q)) (sym (append_assoc (written_items77 is) (loop_end k) r))
      (onward _ _ _ (opens_step d is (f ∷ fs) behind)
      (one_more d _ _ _ (items_read is d none (f ∷ fs) (words.Comma ∷ behind) h.0 tt) (close_step d is k f fs r h.1)))

  items_read : (is : ItemPhrases77) (d : Direction) (f : Frame) (fs : List Frame) (r : List Word77) → AreItems77 d is → IsSeparated r → ItemsRead d is f fs r (written_items77 is ++ r)
  items_read (Sole i) d f fs r h s = item_reads i d f fs r h s
  items_read (More is i) d f fs r h s =
      subst (ItemsRead d (More is i) f fs r) (sym (append_assoc (written_items77 is) (words.Comma ∷ written_item77 i) r))
      (joined d _ _ _ (items_read is d f fs (words.Comma ∷ (written_item77 i ++ r)) h.0 tt)
      (onward _ _ _ (comma_step d (filled is f ∷ fs) (written_item77 i ++ r) (item_controls_not i r (no_equals r s)))
      (item_reads i d (filled is f) fs r h.1 s)))

-- Each list is read.
pub list_is_read : (d : Direction) (is : ItemPhrases77) → AreItems77 d is → Path d (start (written_items77 is)) (Done (filled is none ∷ []) [])
list_is_read d is h = subst (λ (q : List Word77). Path d (start q) (Done (filled is none ∷ []) [])) (append-nil (written_items77 is)) (items_read is d none [] [] h tt)
