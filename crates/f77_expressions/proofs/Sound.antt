-- What is read is an expression.
use Rattle.std.proofs.Common.{arith, ◌≡◌, ◌≤◌, ℕ, ◌+◌, Bool, true, List, [], ◌∷◌, ◌++◌, inl, inr, max, min, refl, ap, sym, ◌∙◌, subst, IsTrue, append_assoc}
use Rattle.std.specs.Prelude.{Option, Some, None, ◌&&◌, nat_le}
use Rattle.std.proofs.lemmas.Bool.{cond_both, cases_lt, and_parts, leb-true}
use Rattle.tree.specs.declared.ops.Op.{Op}
use Rattle.tree.specs.declared.ops.Op.TheVariants.{Pow, Add, Sub, Not}
use Rattle.tree.specs.Plain.{Subscript, Only}
use Rattle.f77_grammar.specs.expressions.Words.{Word77}
use Rattle.f77_grammar.specs.expressions.Words as words
use Rattle.tree.specs.OperatorTable.{Sign, Plus, Minus, Negation, level_of, left_least, right_least, stands_between, sign_level}
use Rattle.f77_grammar.specs.expressions.Phrases.{Phrase77, Phrases77, phrase_level77, depths, tree77_of, trees77_of, written77, written_list, IsExpression77, Literal, WideLiteral, Truth, Name, Listed, Paren, Signed, Joined, One, Then}
use Rattle.f77_expressions.proofs.Placing.{IsGrouped, AreGrouped, are_placed, is_placed, is_expression}
use Rattle.f77_expressions.specs.Reader.{Operand, Frame, State, Wants, Has, Step, Go, Stop, Fail, Read, run, step, went, begin, go_on, begin_sign, close, least, join, shut, part, halt, Before, After, Within, Among, Held, into, stopped, checked, placed_alone, read}
use Rattle.reading.specs.Signs.{sign_of, sign_word}
use Rattle.f77_expressions.proofs.Complete.{operand_of, stays, closes, signed_is, joined_is, paren_is, same_operand}

-- The words of what is open.
data Stands : List Frame → List Word77 → Type 0 where
  bottom : Stands [] []
  before : (s : Sign) (fs : List Frame) (text : List Word77) → Stands fs text → least fs ≤ sign_level s
      → Stands (Before s ∷ fs) (text ++ words.Operator (sign_word s) ∷ [])
  after : (o : Op) (m : Operand) (a : Phrase77) (fs : List Frame) (text : List Word77) → Stands fs text → least fs ≤ level_of o
      → IsTrue (stands_between o) → left_least o ≤ phrase_level77 a → IsGrouped a → m ≡ operand_of a
      → Stands (After o m ∷ fs) ((text ++ written77 a) ++ words.Operator o ∷ [])
  within : (fs : List Frame) (text : List Word77) → Stands fs text → Stands (Within ∷ fs) (text ++ words.Open ∷ [])
  first : (x : List ℕ) (fs : List Frame) (text : List Word77) → Stands fs text → Stands (Among x [] 0 true ∷ fs) (text ++ words.Head x ∷ [])
  next : (x : List ℕ) (ps : Phrases77) (picks : List Subscript) (deep : ℕ) (placed : Bool) (fs : List Frame) (text : List Word77) → Stands fs text
      → AreGrouped ps → picks ≡ trees77_of ps → deep ≡ min (depths ps) 401 → placed ≡ are_placed ps
      → Stands (Among x picks deep placed ∷ fs) ((text ++ words.Head x ∷ written_list ps) ++ words.Comma ∷ [])

-- an begin within what is open
record InPlace (fs : List Frame) (m : Operand) (text : List Word77) : Type 0 where
  phrase : Phrase77
  front : List Word77
  stands : Stands fs front
  good : IsGrouped phrase
  fits : least fs ≤ phrase_level77 phrase
  operand_is : m ≡ operand_of phrase
  text_is : front ++ written77 phrase ≡ text

abbrev StateStands : State → List Word77 → Type 0
StateStands (Wants fs) text = Stands fs text
StateStands (Has fs m) text = InPlace fs m text

abbrev StepStands : Step → Word77 → List Word77 → Type 0
StepStands (Go s) t text = StateStands s (text ++ t ∷ [])
StepStands (Stop m) t text = InPlace [] m text
StepStands Fail t text = Unit {0}

-- applying what binds more tightly leaves the words
record Applied (n : ℕ) (h : Held) (text : List Word77) : Type 0 where
  place : InPlace h.frames h.operand text
  loose : least h.frames ≤ n

stay : (n : ℕ) (fs : List Frame) (m : Operand) (text : List Word77) → InPlace fs m text → least fs ≤ n → Applied n (close n fs m) text
stay n fs m text o l = subst (λ (h : Held). Applied n h text) (sym (stays n fs m l)) (record { place = o; loose = l })

here : {fs : List Frame} {text : List Word77} → Stands fs text → (p : Phrase77) → IsGrouped p → least fs ≤ phrase_level77 p → InPlace fs (operand_of p) (text ++ written77 p)
here h p g l = record { phrase = p; front = _; stands = h; good = g; fits = l; operand_is = refl; text_is = refl }

moved : (n : ℕ) (h k : Held) (a b : List Word77) → h ≡ k → a ≡ b → Applied n h a → Applied n k b
moved n h k a b e f x = subst (λ (q : Held). Applied n q b) e (subst (λ (q : List Word77). Applied n h q) f x)

applies : (n : ℕ) {fs : List Frame} {text : List Word77} → Stands fs text → (p : Phrase77) → IsGrouped p → least fs ≤ phrase_level77 p
    → Applied n (close n fs (operand_of p)) (text ++ written77 p)
applies n bottom p g l = stay n [] (operand_of p) _ (here bottom p g l) (omega arith)
applies n (before s fs text h k) p g l =
    elim (cases_lt n (sign_level s + 1)) [
      | inl lt ↦ moved n _ _ _ _ (ap (close n fs) (sym (signed_is s p)) ∙ sym (closes n (Before s) fs (operand_of p) lt)) (sym (append_assoc text (words.Operator (sign_word s) ∷ []) (written77 p)))
          (applies n h (Signed s p) (l, g) k)
      | inr ge ↦ stay n _ (operand_of p) _ (here (before s fs text h k) p g l) ge
    ]
applies n (after o m a fs text h k j i e is) p g l =
    elim (cases_lt n (right_least o)) [
      | inl lt ↦ moved n _ _ _ _
          (ap (close n fs) (sym (joined_is o a p)) ∙ ap (λ (q : Operand). close n fs (into (After o q) (operand_of p))) (sym is) ∙ sym (closes n (After o m) fs (operand_of p) lt))
          (sym (append_assoc text (written77 a) (words.Operator o ∷ written77 p)) ∙ sym (append_assoc (text ++ written77 a) (words.Operator o ∷ []) (written77 p)))
          (applies n h (Joined o a p) (j, i, l, e, g) k)
      | inr ge ↦ stay n _ (operand_of p) _ (here (after o m a fs text h k j i e is) p g l) ge
    ]
applies n (within fs text h) p g l = stay n _ (operand_of p) _ (here (within fs text h) p g l) (omega arith)
applies n (first x fs text h) p g l = stay n _ (operand_of p) _ (here (first x fs text h) p g l) (omega arith)
applies n (next x ps picks deep placed fs text h gs is ds gp) p g l = stay n _ (operand_of p) _ (here (next x ps picks deep placed fs text h gs is ds gp) p g l) (omega arith)

applied : (n : ℕ) (fs : List Frame) (m : Operand) (text : List Word77) → InPlace fs m text → Applied n (close n fs m) text
applied n fs m text o = moved n _ _ _ _ (ap (close n fs) (sym o.operand_is)) o.text_is (applies n o.stands o.phrase o.good o.fits)

least_ten : (fs : List Frame) → least fs ≤ 10
least_ten [] = omega arith
least_ten (Before Plus ∷ fs) = omega arith
least_ten (Before Minus ∷ fs) = omega arith
least_ten (Before Negation ∷ fs) = omega arith
least_ten (After Pow m ∷ fs) = omega arith
least_ten (After o m ∷ fs) = omega arith
least_ten (Within ∷ fs) = omega arith
least_ten (Among x ps d g ∷ fs) = omega arith

-- a sign
sign_step : (s : Sign) (fs : List Frame) (text : List Word77) → Stands fs text → StepStands (begin_sign fs (Some s)) (words.Operator (sign_word s)) text
sign_step s fs text h = cond_both (nat_le (least fs) (sign_level s)) _ _ (λ q. StepStands q (words.Operator (sign_word s)) text)
    (λ e. before s fs text h (leb-true _ _ e)) (λ e. tt)

signs : (o : Op) (fs : List Frame) (text : List Word77) → Stands fs text → StepStands (begin_sign fs (sign_of o)) (words.Operator o) text
signs Add fs text h = sign_step Plus fs text h
signs Sub fs text h = sign_step Minus fs text h
signs Not fs text h = sign_step Negation fs text h
signs o fs text h = tt

leaf_step : (p : Phrase77) (t : Word77) (fs : List Frame) (text : List Word77) → Stands fs text → written77 p ≡ t ∷ [] → IsGrouped p → phrase_level77 p ≡ 10 → InPlace fs (operand_of p) (text ++ t ∷ [])
leaf_step p t fs text h w g l = subst (λ (q : List Word77). InPlace fs (operand_of p) (text ++ q)) w (here h p g (omega (arith, least_ten fs)))

begin_step : (t : Word77) (fs : List Frame) (text : List Word77) → Stands fs text → StepStands (begin fs t) t text
begin_step (words.Number n) fs text h = leaf_step (Literal n) _ fs text h refl tt refl
begin_step words.Wide fs text h = leaf_step WideLiteral _ fs text h refl tt refl
begin_step (words.Truth b) fs text h = leaf_step (Truth b) _ fs text h refl tt refl
begin_step (words.Name x) fs text h = leaf_step (Name x) _ fs text h refl tt refl
begin_step (words.Head x) fs text h = first x fs text h
begin_step (words.Operator o) fs text h = signs o fs text h
begin_step words.Open fs text h = within fs text h
begin_step t fs text h = tt

join_step : (o : Op) (h : Held) (text : List Word77) → Applied (level_of o) h text → StepStands (join o h) (words.Operator o) text
join_step o h text a =
    let d = a.place in
    cond_both (stands_between o && nat_le (left_least o) h.operand.level) _ _ (λ q. StepStands q (words.Operator o) text)
    (λ e. let both = and_parts (stands_between o) (nat_le (left_least o) h.operand.level) e in
    let fits : left_least o ≤ phrase_level77 d.phrase = omega (arith, leb-true _ _ both.1, ap (λ (q : Operand). q.level) d.operand_is) in
    subst (λ (q : List Word77). Stands (After o h.operand ∷ h.frames) (q ++ words.Operator o ∷ [])) d.text_is
    (after o h.operand d.phrase h.frames d.front d.stands a.loose both.0 fits d.good d.operand_is))
    (λ e. tt)

-- the words of a list so far
listed_words : (a b c : List Word77) (t u : Word77) → ((a ++ t ∷ b) ++ u ∷ []) ++ c ≡ a ++ (t ∷ (b ++ u ∷ c))
listed_words a b c t u = simp append_assoc

closed_words : (a b : List Word77) (t u : Word77) → ((a ++ t ∷ []) ++ b) ++ u ∷ [] ≡ a ++ (t ∷ (b ++ u ∷ []))
closed_words a b t u = simp append_assoc

shut_at : {fs : List Frame} {front : List Word77} → Stands fs front → (p : Phrase77) → IsGrouped p → StepStands (shut fs (operand_of p)) words.Close (front ++ written77 p)
shut_at bottom p g = here bottom p g (omega arith)
shut_at (before s fs text h k) p g = tt
shut_at (after o m a fs text h k j i e is) p g = tt
shut_at (within fs text h) p g =
    record { phrase = Paren p; front = text; stands = h; good = g; fits = least_ten fs; operand_is = paren_is p; text_is = sym (closed_words text (written77 p) words.Open words.Close) }
shut_at (first x fs text h) p g =
    record {
      phrase = Listed x (One p);
      front = text;
      stands = h;
      good = g;
      fits = least_ten fs;
      operand_is = same_operand _ _ _ _ _ _ (omega arith);
      text_is = sym (closed_words text (written77 p) (words.Head x) words.Close);
    }
shut_at (next x ps picks deep placed fs text h gs is ds gp) p g =
    record {
      phrase = Listed x (Then ps p);
      front = text;
      stands = h;
      good = (gs, g);
      fits = least_ten fs;
      operand_is = rw (is, ds, gp) (same_operand _ _ _ _ _ _ (omega arith));
      text_is = sym (ap (λ (q : List Word77). q ++ words.Close ∷ []) (listed_words text (written_list ps) (written77 p) (words.Head x) words.Comma)
          ∙ append_assoc text (words.Head x ∷ (written_list ps ++ words.Comma ∷ written77 p)) (words.Close ∷ []));
    }

part_at : {fs : List Frame} {front : List Word77} → Stands fs front → (p : Phrase77) → IsGrouped p → StepStands (part fs (operand_of p)) words.Comma (front ++ written77 p)
part_at bottom p g = here bottom p g (omega arith)
part_at (before s fs text h k) p g = tt
part_at (after o m a fs text h k j i e is) p g = tt
part_at (within fs text h) p g = tt
part_at (first x fs text h) p g =
    subst (λ (q : List Word77). Stands (Among x (Only (tree77_of p) ∷ []) (max 0 (operand_of p).depth) (is_placed p) ∷ fs) (q ++ words.Comma ∷ [])) (sym (append_assoc text (words.Head x ∷ []) (written77 p)))
    (next x (One p) (Only (tree77_of p) ∷ []) (max 0 (operand_of p).depth) (is_placed p) fs text h g refl (omega arith) refl)
part_at (next x ps picks deep placed fs text h gs is ds gp) p g =
    subst (λ (q : List Word77). Stands (Among x (picks ++ Only (tree77_of p) ∷ []) (max deep (operand_of p).depth) (placed && is_placed p) ∷ fs) (q ++ words.Comma ∷ [])) (sym (listed_words text (written_list ps) (written77 p) (words.Head x) words.Comma))
    (next x (Then ps p) (picks ++ Only (tree77_of p) ∷ []) (max deep (operand_of p).depth) (placed && is_placed p) fs text h (gs, g) (rw is refl) (rw ds (omega arith)) (rw gp refl))

halt_at : {fs : List Frame} {front : List Word77} (t : Word77) → Stands fs front → (p : Phrase77) → IsGrouped p → StepStands (halt fs (operand_of p)) t (front ++ written77 p)
halt_at t bottom p g = here bottom p g (omega arith)
halt_at t (before s fs text h k) p g = tt
halt_at t (after o m a fs text h k j i e is) p g = tt
halt_at t (within fs text h) p g = tt
halt_at t (first x fs text h) p g = tt
halt_at t (next x ps picks deep placed fs text h gs is ds gp) p g = tt

-- a step at an begin, from one at its words
at_place : (f : List Frame → Operand → Step) (t : Word77) (fs : List Frame) (m : Operand) (text : List Word77) → InPlace fs m text
    → ((gs : List Frame) (front : List Word77) → Stands gs front → (p : Phrase77) → IsGrouped p → StepStands (f gs (operand_of p)) t (front ++ written77 p))
    → StepStands (f (close 0 fs m).frames (close 0 fs m).operand) t text
at_place f t fs m text o each =
    let a = applied 0 fs m text o in
    let d = a.place in
    let k : StepStands (f (close 0 fs m).frames (operand_of d.phrase)) t (d.front ++ written77 d.phrase) = each _ d.front d.stands d.phrase d.good in
    subst (λ (q : List Word77). StepStands (f (close 0 fs m).frames (close 0 fs m).operand) t q) d.text_is
    (subst (λ (q : Operand). StepStands (f (close 0 fs m).frames q) t (d.front ++ written77 d.phrase)) (sym d.operand_is) k)

go_on_step : (t : Word77) (fs : List Frame) (m : Operand) (text : List Word77) → InPlace fs m text → StepStands (go_on fs m t) t text
go_on_step (words.Operator o) fs m text h = join_step o _ text (applied (level_of o) fs m text h)
go_on_step words.Close fs m text h = at_place shut words.Close fs m text h (λ _ _. shut_at)
go_on_step words.Comma fs m text h = at_place part words.Comma fs m text h (λ _ _. part_at)
go_on_step words.Equals fs m text h = at_place halt words.Equals fs m text h (λ _ _. halt_at words.Equals)
go_on_step words.Colon fs m text h = at_place halt words.Colon fs m text h (λ _ _. halt_at words.Colon)
go_on_step t fs m text h = tt

-- words that are grouped as an expression at the front of words, and the rest
record Grouped (text : List Word77) (r : Read) : Type 0 where
  phrase : Phrase77
  good : IsGrouped phrase
  operand_is : r.operand ≡ operand_of phrase
  text_is : written77 phrase ++ r.rest ≡ text

from_bottom : {fs : List Frame} {front : List Word77} → Stands fs front → fs ≡ [] → front ≡ []
from_bottom bottom e = refl
from_bottom (before s fs text h k) e = cc
from_bottom (after o m a fs text h k j i g is) e = cc
from_bottom (within fs text h) e = cc
from_bottom (first x fs text h) e = cc
from_bottom (next x ps picks deep placed fs text h gs is ds gp) e = cc

found : (m : Operand) (text rest whole : List Word77) → InPlace [] m text → text ++ rest ≡ whole → Grouped whole (record { operand = m; rest = rest })
found m text rest whole o e =
    let z : o.front ≡ [] = from_bottom o.stands refl in
    let w : written77 o.phrase ≡ text = ap (λ (q : List Word77). q ++ written77 o.phrase) (sym z) ∙ o.text_is in
    record { phrase = o.phrase; good = o.good; operand_is = o.operand_is; text_is = ap (λ (q : List Word77). q ++ rest) w ∙ e }

step_stands : (s : State) (t : Word77) (text : List Word77) → StateStands s text → StepStands (step s t) t text
step_stands (Wants fs) t text h = begin_step t fs text h
step_stands (Has fs m) t text h = go_on_step t fs m text h

went_found : (st : Step) (t : Word77) (ts text whole : List Word77) (r : Read) → StepStands st t text → text ++ t ∷ ts ≡ whole
    → ((s : State) → StateStands s (text ++ t ∷ []) → run ts s ≡ Some r → Grouped whole r) → went st t ts (run ts) ≡ Some r → Grouped whole r
went_found (Go s) t ts text whole r h w each e = each s h e
went_found (Stop m) t ts text whole r h w each e =
    let q : ◌≡◌ {A = Read} (record { operand = m; rest = t ∷ ts }) r = cc in subst (Grouped whole) q (found m text (t ∷ ts) whole h w)
went_found Fail t ts text whole r h w each e = cc

ended_found : (st : Step) (t : Word77) (text whole : List Word77) (r : Read) → StepStands st t text → text ++ [] ≡ whole → stopped st [] ≡ Some r → Grouped whole r
ended_found (Go s) t text whole r h w e = cc
ended_found (Stop m) t text whole r h w e =
    let q : ◌≡◌ {A = Read} (record { operand = m; rest = [] }) r = cc in subst (Grouped whole) q (found m text [] whole h w)
ended_found Fail t text whole r h w e = cc

sound : (ts : List Word77) (s : State) (text whole : List Word77) (r : Read) → StateStands s text → text ++ ts ≡ whole → run ts s ≡ Some r → Grouped whole r
sound [] (Wants fs) text whole r h w e = cc
sound [] (Has fs m) text whole r h w e =
    ended_found (halt (close 0 fs m).frames (close 0 fs m).operand) words.Equals text whole r (at_place halt words.Equals fs m text h (λ _ _. halt_at words.Equals)) w e
sound (t ∷ ts) s text whole r h w e =
    went_found (step s t) t ts text whole r (step_stands s t text h) w
    (λ s2 h2 e2. sound ts s2 (text ++ t ∷ []) whole r h2 (append_assoc text (t ∷ []) ts ∙ w) e2) e

-- an expression at the front of words, and the rest
pub record Found (text : List Word77) (r : Read) : Type 0 where
  pub phrase : Phrase77
  pub good : IsExpression77 phrase
  pub operand_is : r.operand ≡ operand_of phrase
  pub text_is : written77 phrase ++ r.rest ≡ text

found_of : (text : List Word77) (r : Read) → Grouped text r → IsTrue r.operand.placed → Found text r
found_of text r g h =
    let k : IsTrue (is_placed g.phrase) = sym (ap (λ (m : Operand). m.placed) g.operand_is) ∙ h in
    record { phrase = g.phrase; good = is_expression g.phrase g.good k; operand_is = g.operand_is; text_is = g.text_is }

placed_found : (text : List Word77) (s r : Read) → Grouped text s → placed_alone s ≡ Some r → Found text r
placed_found text s r g e =
    cond_both s.operand.placed (Some s) None (λ (q : Option Read). q ≡ Some r → Found text r)
    (λ h k. let q : s ≡ r = cc in subst (Found text) q (found_of text s g h)) (λ h k. cc) e

checked_found : (text : List Word77) (o : Option Read) (r : Read) → ((s : Read) → o ≡ Some s → Grouped text s) → checked o ≡ Some r → Found text r
checked_found text None r h e = cc
checked_found text (Some s) r h e = placed_found text s r (h s refl) e

-- What is read at the front is an expression, with the rest behind it.
pub read_is : (ts : List Word77) (r : Read) → read ts ≡ Some r → Found ts r
read_is ts r e = checked_found ts (run ts (Wants [])) r (λ s k. sound ts (Wants []) [] ts s bottom refl k) e
