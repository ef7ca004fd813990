-- What is read is an expression.
use Rattle.std.proofs.Common.{arith, ◌≡◌, ◌≤◌, ℕ, ◌+◌, Bool, true, false, List, [], ◌∷◌, ◌++◌, inl, inr, max, refl, ap, sym, ◌∙◌, subst, IsTrue, append_assoc, cond}
use mathlib.Core.Path.{ap₂}
use Rattle.std.specs.Prelude.{Option, Some, None, ◌&&◌, nat_le, is_some}
use Rattle.std.proofs.lemmas.Bool.{cond_both, cases_lt, leb-true}
use Rattle.tree.specs.declared.ops.Op.{Op}
use Rattle.tree.specs.declared.ops.Op.TheVariants.{Pow, Add, Sub, Not}
use Rattle.tree.specs.OperatorTable.{Sign, Plus, Minus, Negation, level_of, left_least, right_least, stands_between, sign_level}
use Rattle.f90_grammar.specs.Words.{Word90}
use Rattle.f90_grammar.specs.Words as words
use Rattle.f90_grammar.specs.Phrases as phrases
use Rattle.f90_grammar.specs.Phrases.{Phrase90, ListPart, Value, Range, Strided, ListParts, Phrases90, Turn, phrase_level90, phrase_depth90, written90, written_part, written_parts, written_values, written_turn, IsExpression90, depth_of_part, depth_of_parts, depth_of_values, depth_of_turn}
use Rattle.f90_expressions.specs.Flat as flats
use Rattle.f90_expressions.specs.Flat.{Node, flat, flat_part, flat_parts, flat_values, flat_turn, placed, placed_part, placed_parts, placed_values, placed_turn}
use Rattle.f90_expressions.specs.Machine.{Info, counted, deeper, info_of, primary, signed, joined, enclosed, Frame, Before, After, Within, Among, From, By, Items, First, Last, State, Wants, Has, HasTurn, WantsName, WantsEquals, Step, Go, Stop, Fail, Read, run, step, went, stopped, begin, begin_sign, go_on, after_turn, loop_round, end_looped, take_name, take_equals, close, Held, halted, halt, least, join, turn_node, shut, part, colon, shut_list}
use Rattle.reading.specs.Signs.{sign_of, sign_word}
use Rattle.f90_expressions.proofs.Stacks.{stays, closes}
use Rattle.f90_expressions.proofs.Complete.{signed_is, joined_is, enclosed_is, counted_max}
use Rattle.f90_expressions.proofs.Placing.{IsGrouped, IsGroupedPart, AreGroupedParts, AreGroupedValues, IsGroupedTurn, is_expression}

-- ---- parts so far

abbrev parts_text : Option ListParts → List Word90
parts_text None = []
parts_text (Some ps) = written_parts ps ++ words.Comma ∷ []

abbrev parts_nodes : Option ListParts → List Node
parts_nodes None = []
parts_nodes (Some ps) = flat_parts ps

abbrev parts_depth : Option ListParts → ℕ
parts_depth None = 0
parts_depth (Some ps) = counted (depth_of_parts ps)

abbrev parts_placed : Option ListParts → Bool
parts_placed None = true
parts_placed (Some ps) = placed_parts ps

abbrev PartsGrouped : Option ListParts → Type 0
PartsGrouped None = Unit {0}
PartsGrouped (Some ps) = AreGroupedParts ps

abbrev with_part : Option ListParts → ListPart → ListParts
with_part None p = phrases.One p
with_part (Some ps) p = phrases.Then ps p

with_text : (ps : Option ListParts) (p : ListPart) → written_parts (with_part ps p) ≡ parts_text ps ++ written_part p
with_text None p = refl
with_text (Some ps) p = sym (append_assoc (written_parts ps) (words.Comma ∷ []) (written_part p))

with_nodes : (ps : Option ListParts) (p : ListPart) → flat_parts (with_part ps p) ≡ parts_nodes ps ++ flat_part p
with_nodes None p = refl
with_nodes (Some ps) p = refl

with_depth : (ps : Option ListParts) (p : ListPart) → counted (depth_of_parts (with_part ps p)) ≡ max (parts_depth ps) (counted (depth_of_part p))
with_depth None p = omega arith
with_depth (Some ps) p = counted_max (depth_of_parts ps) (depth_of_part p)

with_placed : (ps : Option ListParts) (p : ListPart) → placed_parts (with_part ps p) ≡ (parts_placed ps && placed_part p)
with_placed None p = refl
with_placed (Some ps) p = refl

with_grouped : (ps : Option ListParts) (p : ListPart) → PartsGrouped ps → IsGroupedPart p → AreGroupedParts (with_part ps p)
with_grouped None p h g = g
with_grouped (Some ps) p h g = (h, g)

-- ---- values so far

abbrev values_text : Option Phrases90 → List Word90
values_text None = []
values_text (Some ps) = written_values ps ++ words.Comma ∷ []

abbrev values_nodes : Option Phrases90 → List Node
values_nodes None = []
values_nodes (Some ps) = flat_values ps

abbrev values_depth : Option Phrases90 → ℕ
values_depth None = 0
values_depth (Some ps) = counted (depth_of_values ps)

abbrev values_placed : Option Phrases90 → Bool
values_placed None = true
values_placed (Some ps) = placed_values ps

abbrev ValuesGrouped : Option Phrases90 → Type 0
ValuesGrouped None = Unit {0}
ValuesGrouped (Some ps) = AreGroupedValues ps

abbrev with_value : Option Phrases90 → Phrase90 → Phrases90
with_value None p = phrases.Sole p
with_value (Some ps) p = phrases.More ps p

value_text : (ps : Option Phrases90) (p : Phrase90) → written_values (with_value ps p) ≡ values_text ps ++ written90 p
value_text None p = refl
value_text (Some ps) p = sym (append_assoc (written_values ps) (words.Comma ∷ []) (written90 p))

value_nodes : (ps : Option Phrases90) (p : Phrase90) → flat_values (with_value ps p) ≡ values_nodes ps ++ flat p
value_nodes None p = refl
value_nodes (Some ps) p = refl

value_depth : (ps : Option Phrases90) (p : Phrase90) → counted (depth_of_values (with_value ps p)) ≡ max (values_depth ps) (counted (phrase_depth90 p))
value_depth None p = omega arith
value_depth (Some ps) p = counted_max (depth_of_values ps) (phrase_depth90 p)

value_placed : (ps : Option Phrases90) (p : Phrase90) → placed_values (with_value ps p) ≡ (values_placed ps && placed p)
value_placed None p = refl
value_placed (Some ps) p = refl

value_grouped : (ps : Option Phrases90) (p : Phrase90) → ValuesGrouped ps → IsGrouped p → AreGroupedValues (with_value ps p)
value_grouped None p h g = g
value_grouped (Some ps) p h g = (h, g)

-- ---- what stands under a loop

data Body : Type 0 where
  Of : Phrase90 → Body
  Nested : Turn → Body

abbrev is_nested : Body → Bool
is_nested (Of p) = false
is_nested (Nested t) = true

abbrev body_text : Body → List Word90
body_text (Of p) = written90 p
body_text (Nested t) = written_turn t

abbrev body_nodes : Body → List Node
body_nodes (Of p) = flat p
body_nodes (Nested t) = flat_turn t

abbrev body_depth : Body → ℕ
body_depth (Of p) = counted (phrase_depth90 p)
body_depth (Nested t) = counted (depth_of_turn t)

abbrev body_placed : Body → Bool
body_placed (Of p) = placed p
body_placed (Nested t) = placed_turn t

abbrev BodyGrouped : Body → Type 0
BodyGrouped (Of p) = IsGrouped p
BodyGrouped (Nested t) = IsGroupedTurn t

abbrev closed_turn : Body → List ℕ → Phrase90 → Phrase90 → Turn
closed_turn (Of p) x a b = phrases.Innermost p x a b
closed_turn (Nested t) x a b = phrases.Round t x a b

turn_text : (body : Body) (x : List ℕ) (a b : Phrase90) → written_turn (closed_turn body x a b)
    ≡ words.Open ∷ (body_text body ++ words.Comma ∷ (words.Name x ∷ (words.Equals ∷ (written90 a ++ words.Comma ∷ (written90 b ++ words.Close ∷ [])))))
turn_text (Of p) x a b = refl
turn_text (Nested t) x a b = refl

turn_nodes : (body : Body) (x : List ℕ) (a b : Phrase90) → flat_turn (closed_turn body x a b)
    ≡ body_nodes body ++ (flat a ++ (flat b ++ turn_node (is_nested body) x ∷ []))
turn_nodes (Of p) x a b = refl
turn_nodes (Nested t) x a b = refl

turn_depth : (body : Body) (x : List ℕ) (a b : Phrase90) → counted (depth_of_turn (closed_turn body x a b))
    ≡ deeper (max (max (body_depth body) (counted (phrase_depth90 a))) (counted (phrase_depth90 b)))
turn_depth (Of p) x a b = omega arith
turn_depth (Nested t) x a b = omega arith

turn_placed : (body : Body) (x : List ℕ) (a b : Phrase90) → placed_turn (closed_turn body x a b) ≡ ((body_placed body && placed a) && placed b)
turn_placed (Of p) x a b = refl
turn_placed (Nested t) x a b = refl

turn_grouped : (body : Body) (x : List ℕ) (a b : Phrase90) → BodyGrouped body → IsGrouped a → IsGrouped b → IsGroupedTurn (closed_turn body x a b)
turn_grouped (Of p) x a b g h k = (g, h, k)
turn_grouped (Nested t) x a b g h k = (g, h, k)

-- ---- the words and the nodes of what is open

abbrev opened : Body → List Word90 → List Word90
opened body text = words.Open ∷ (body_text body ++ words.Comma ∷ text)

data Stands : List Frame → List Word90 → List Node → Type 0 where
  bottom : Stands [] [] []
  before : (s : Sign) (fs : List Frame) (front text : List Word90) (ns : List Node) → Stands fs front ns → least fs ≤ sign_level s
      → text ≡ front ++ words.Operator (sign_word s) ∷ [] → Stands (Before s ∷ fs) text ns
  after : (o : Op) (m : Info) (a : Phrase90) (fs : List Frame) (front text : List Word90) (fns ns : List Node) → Stands fs front fns → least fs ≤ level_of o
      → IsTrue (stands_between o) → left_least o ≤ phrase_level90 a → IsGrouped a → m ≡ info_of a
      → text ≡ front ++ (written90 a ++ words.Operator o ∷ []) → ns ≡ fns ++ flat a → Stands (After o m ∷ fs) text ns
  within : (fs : List Frame) (front text : List Word90) (ns : List Node) → Stands fs front ns → text ≡ front ++ words.Open ∷ [] → Stands (Within ∷ fs) text ns
  among : (x : List ℕ) (ps : Option ListParts) (d : ℕ) (g : Bool) (fs : List Frame) (front text : List Word90) (fns ns : List Node) → Stands fs front fns
      → PartsGrouped ps → d ≡ parts_depth ps → g ≡ parts_placed ps
      → text ≡ front ++ (words.Head x ∷ parts_text ps) → ns ≡ fns ++ (flats.Begin ∷ parts_nodes ps) → Stands (Among x d g ∷ fs) text ns
  from : (x : List ℕ) (ps : Option ListParts) (a : Phrase90) (d : ℕ) (g : Bool) (fs : List Frame) (front text : List Word90) (fns ns : List Node) → Stands fs front fns
      → PartsGrouped ps → IsGrouped a → d ≡ max (parts_depth ps) (counted (phrase_depth90 a)) → g ≡ (parts_placed ps && placed a)
      → text ≡ front ++ (words.Head x ∷ (parts_text ps ++ (written90 a ++ words.Colon ∷ [])))
      → ns ≡ fns ++ (flats.Begin ∷ (parts_nodes ps ++ flat a)) → Stands (From x d g ∷ fs) text ns
  by : (x : List ℕ) (ps : Option ListParts) (a b : Phrase90) (d : ℕ) (g : Bool) (fs : List Frame) (front text : List Word90) (fns ns : List Node) → Stands fs front fns
      → PartsGrouped ps → IsGrouped a → IsGrouped b → d ≡ max (max (parts_depth ps) (counted (phrase_depth90 a))) (counted (phrase_depth90 b))
      → g ≡ ((parts_placed ps && placed a) && placed b)
      → text ≡ front ++ (words.Head x ∷ (parts_text ps ++ (written90 a ++ words.Colon ∷ (written90 b ++ words.Colon ∷ []))))
      → ns ≡ fns ++ (flats.Begin ∷ (parts_nodes ps ++ (flat a ++ flat b))) → Stands (By x d g ∷ fs) text ns
  items : (ps : Option Phrases90) (k : Bool) (d : ℕ) (g : Bool) (fs : List Frame) (front text : List Word90) (fns ns : List Node) → Stands fs front fns
      → ValuesGrouped ps → k ≡ is_some ps → d ≡ values_depth ps → g ≡ values_placed ps
      → text ≡ front ++ (words.OpenList ∷ values_text ps) → ns ≡ fns ++ (flats.Begin ∷ values_nodes ps) → Stands (Items k d g ∷ fs) text ns
  first : (body : Body) (k : Bool) (x : List ℕ) (d : ℕ) (g : Bool) (fs : List Frame) (front text : List Word90) (fns ns : List Node) → Stands fs front fns
      → BodyGrouped body → k ≡ is_nested body → d ≡ body_depth body → g ≡ body_placed body
      → text ≡ front ++ opened body (words.Name x ∷ (words.Equals ∷ [])) → ns ≡ fns ++ body_nodes body → Stands (First k x d g ∷ fs) text ns
  last : (body : Body) (a : Phrase90) (k : Bool) (x : List ℕ) (d : ℕ) (g : Bool) (fs : List Frame) (front text : List Word90) (fns ns : List Node) → Stands fs front fns
      → BodyGrouped body → IsGrouped a → k ≡ is_nested body → d ≡ max (body_depth body) (counted (phrase_depth90 a)) → g ≡ (body_placed body && placed a)
      → text ≡ front ++ opened body (words.Name x ∷ (words.Equals ∷ (written90 a ++ words.Comma ∷ [])))
      → ns ≡ fns ++ (body_nodes body ++ flat a) → Stands (Last k x d g ∷ fs) text ns

-- an operand within what is open
record InPlace (fs : List Frame) (m : Info) (text : List Word90) (ns : List Node) : Type 0 where
  phrase : Phrase90
  front : List Word90
  nodes : List Node
  stands : Stands fs front nodes
  good : IsGrouped phrase
  fits : least fs ≤ phrase_level90 phrase
  info_is : m ≡ info_of phrase
  text_is : front ++ written90 phrase ≡ text
  nodes_are : nodes ++ flat phrase ≡ ns

-- a turn within what is open
record TurnInPlace (fs : List Frame) (d : ℕ) (g : Bool) (text : List Word90) (ns : List Node) : Type 0 where
  turn : Turn
  front : List Word90
  nodes : List Node
  stands : Stands fs front nodes
  good : IsGroupedTurn turn
  depth_is : d ≡ counted (depth_of_turn turn)
  placed_is : g ≡ placed_turn turn
  text_is : front ++ written_turn turn ≡ text
  nodes_are : nodes ++ flat_turn turn ≡ ns

-- what stands under a loop, before the loop's variable or its equals sign
record BodyInPlace (fs : List Frame) (k : Bool) (d : ℕ) (g : Bool) (more text : List Word90) (ns : List Node) : Type 0 where
  body : Body
  front : List Word90
  nodes : List Node
  stands : Stands fs front nodes
  good : BodyGrouped body
  nested_is : k ≡ is_nested body
  depth_is : d ≡ body_depth body
  placed_is : g ≡ body_placed body
  text_is : front ++ opened body more ≡ text
  nodes_are : nodes ++ body_nodes body ≡ ns

abbrev StateStands : State → List Word90 → List Node → Type 0
StateStands (Wants fs) text ns = Stands fs text ns
StateStands (Has fs m) text ns = InPlace fs m text ns
StateStands (HasTurn fs d g) text ns = TurnInPlace fs d g text ns
StateStands (WantsName fs k d g) text ns = BodyInPlace fs k d g [] text ns
StateStands (WantsEquals fs k x d g) text ns = BodyInPlace fs k d g (words.Name x ∷ []) text ns

abbrev StepStands : Step → Word90 → List Word90 → Type 0
StepStands (Go s ns) t text = StateStands s (text ++ t ∷ []) ns
StepStands (Stop m ns) t text = InPlace [] m text ns
StepStands Fail t text = Unit {0}

-- ---- applying what binds more tightly leaves the words

record Applied (n : ℕ) (h : Held) (text : List Word90) : Type 0 where
  place : InPlace h.frames h.info text h.nodes
  loose : least h.frames ≤ n

here : (fs : List Frame) (text : List Word90) (ns : List Node) → Stands fs text ns → (p : Phrase90) → IsGrouped p → least fs ≤ phrase_level90 p
    → InPlace fs (info_of p) (text ++ written90 p) (ns ++ flat p)
here fs text ns h p g l = record {
  phrase = p;
  front = text;
  nodes = ns;
  stands = h;
  good = g;
  fits = l;
  info_is = refl;
  text_is = refl;
  nodes_are = refl;
}

stay : (n : ℕ) (fs : List Frame) (m : Info) (text : List Word90) (ns : List Node) → InPlace fs m text ns → least fs ≤ n → Applied n (close n fs m ns) text
stay n fs m text ns o l = subst (λ (h : Held). Applied n h text) (sym (stays n fs m ns l)) (record { place = o; loose = l })

moved : (n : ℕ) (h k : Held) (a b : List Word90) → h ≡ k → a ≡ b → Applied n h a → Applied n k b
moved n h k a b e f x = subst (λ (q : Held). Applied n q b) e (subst (λ (q : List Word90). Applied n h q) f x)

close_same : (n : ℕ) (fs : List Frame) (m k : Info) (ns ms : List Node) → m ≡ k → ns ≡ ms → close n fs m ns ≡ close n fs k ms
close_same n fs m k ns ms e f = ap₂ (λ (x : Info) (us : List Node). close n fs x us) e f

applies : (n : ℕ) {fs : List Frame} {text : List Word90} {ns : List Node} → Stands fs text ns → (p : Phrase90) → IsGrouped p → least fs ≤ phrase_level90 p
    → Applied n (close n fs (info_of p) (ns ++ flat p)) (text ++ written90 p)
applies n bottom p g l = stay n [] (info_of p) _ _ (here [] [] [] bottom p g l) (omega arith)
applies n (before s fs front text ns h k e) p g l =
    elim (cases_lt n (sign_level s + 1)) [
      | inl lt ↦ moved n _ _ _ _
          (close_same n fs (info_of (phrases.Signed s p)) (signed s (info_of p)) (ns ++ flat (phrases.Signed s p)) ((ns ++ flat p) ++ flats.Prefix s ∷ [])
          (sym (signed_is s p)) (sym (append_assoc ns (flat p) (flats.Prefix s ∷ [])))
          ∙ sym (closes n (Before s) fs (info_of p) (ns ++ flat p) lt))
          (sym (append_assoc front (words.Operator (sign_word s) ∷ []) (written90 p)) ∙ ap (λ (q : List Word90). q ++ written90 p) (sym e))
          (applies n h (phrases.Signed s p) (l, g) k)
      | inr ge ↦ stay n _ (info_of p) _ _ (here _ text ns (before s fs front text ns h k e) p g l) ge
    ]
applies n (after o m a fs front text fns ns h k j i u is e f) p g l =
    elim (cases_lt n (right_least o)) [
      | inl lt ↦ moved n _ _ _ _
          (close_same n fs (info_of (phrases.Joined o a p)) (joined o m (info_of p)) (fns ++ flat (phrases.Joined o a p)) ((ns ++ flat p) ++ flats.Infix o ∷ [])
          (sym (joined_is o a p) ∙ ap (λ (q : Info). joined o q (info_of p)) (sym is))
          (sym (ap (λ (q : List Node). (q ++ flat p) ++ flats.Infix o ∷ []) f ∙ joined_nodes fns (flat a) (flat p) (flats.Infix o)))
          ∙ sym (closes n (After o m) fs (info_of p) (ns ++ flat p) lt))
          (sym (ap (λ (q : List Word90). q ++ written90 p) e ∙ joined_words front (written90 a) (written90 p) (words.Operator o)))
          (applies n h (phrases.Joined o a p) (j, i, l, u, g) k)
      | inr ge ↦ stay n _ (info_of p) _ _ (here _ text ns (after o m a fs front text fns ns h k j i u is e f) p g l) ge
    ]
  where
    joined_nodes : (xs ys zs : List Node) (z : Node) → ((xs ++ ys) ++ zs) ++ z ∷ [] ≡ xs ++ (ys ++ (zs ++ z ∷ []))
    joined_nodes xs ys zs z = simp append_assoc

    joined_words : (xs ys zs : List Word90) (z : Word90) → (xs ++ (ys ++ z ∷ [])) ++ zs ≡ xs ++ (ys ++ z ∷ zs)
    joined_words xs ys zs z = simp append_assoc
applies n (within fs front text ns h e) p g l = stay n _ (info_of p) _ _ (here _ text ns (within fs front text ns h e) p g l) (omega arith)
applies n (among x ps d g fs front text fns ns h k a b e f) p q l =
    stay n _ (info_of p) _ _ (here _ text ns (among x ps d g fs front text fns ns h k a b e f) p q l) (omega arith)
applies n (from x ps a d g fs front text fns ns h k i b c e f) p q l =
    stay n _ (info_of p) _ _ (here _ text ns (from x ps a d g fs front text fns ns h k i b c e f) p q l) (omega arith)
applies n (by x ps a b d g fs front text fns ns h k i j c u e f) p q l =
    stay n _ (info_of p) _ _ (here _ text ns (by x ps a b d g fs front text fns ns h k i j c u e f) p q l) (omega arith)
applies n (items ps t d g fs front text fns ns h k a b c e f) p q l =
    stay n _ (info_of p) _ _ (here _ text ns (items ps t d g fs front text fns ns h k a b c e f) p q l) (omega arith)
applies n (first body t x d g fs front text fns ns h k a b c e f) p q l =
    stay n _ (info_of p) _ _ (here _ text ns (first body t x d g fs front text fns ns h k a b c e f) p q l) (omega arith)
applies n (last body a t x d g fs front text fns ns h k i b c u e f) p q l =
    stay n _ (info_of p) _ _ (here _ text ns (last body a t x d g fs front text fns ns h k i b c u e f) p q l) (omega arith)

applied : (n : ℕ) (fs : List Frame) (m : Info) (text : List Word90) (ns : List Node) → InPlace fs m text ns → Applied n (close n fs m ns) text
applied n fs m text ns o =
    moved n _ _ _ _ (close_same n fs (info_of o.phrase) m (o.nodes ++ flat o.phrase) ns (sym o.info_is) o.nodes_are) o.text_is
    (applies n o.stands o.phrase o.good o.fits)

least_ten : (fs : List Frame) → least fs ≤ 10
least_ten [] = omega arith
least_ten (Before Plus ∷ fs) = omega arith
least_ten (Before Minus ∷ fs) = omega arith
least_ten (Before Negation ∷ fs) = omega arith
least_ten (After Pow m ∷ fs) = omega arith
least_ten (After o m ∷ fs) = omega arith
least_ten (f ∷ fs) = omega arith

-- ---- where an operand is due

sign_step : (s : Sign) (fs : List Frame) (text : List Word90) (ns : List Node) → Stands fs text ns
    → StepStands (begin_sign fs (Some s) ns) (words.Operator (sign_word s)) text
sign_step s fs text ns h = cond_both (nat_le (least fs) (sign_level s)) _ _ (λ (q : Step). StepStands q (words.Operator (sign_word s)) text)
    (λ e. before s fs text (text ++ words.Operator (sign_word s) ∷ []) ns h (leb-true _ _ e) refl) (λ e. tt)

signs : (o : Op) (fs : List Frame) (text : List Word90) (ns : List Node) → Stands fs text ns → StepStands (begin_sign fs (sign_of o) ns) (words.Operator o) text
signs Add fs text ns h = sign_step Plus fs text ns h
signs Sub fs text ns h = sign_step Minus fs text ns h
signs Not fs text ns h = sign_step Negation fs text ns h
signs o fs text ns h = tt

leaf : (p : Phrase90) (t : Word90) (n : Node) (fs : List Frame) (text : List Word90) (ns : List Node) → Stands fs text ns → written90 p ≡ t ∷ [] → flat p ≡ n ∷ []
    → IsGrouped p → phrase_level90 p ≡ 10 → info_of p ≡ primary → InPlace fs primary (text ++ t ∷ []) (ns ++ n ∷ [])
leaf p t n fs text ns h w f g l e = record {
  phrase = p;
  front = text;
  nodes = ns;
  stands = h;
  good = g;
  fits = omega (arith, l, least_ten fs);
  info_is = sym e;
  text_is = ap (λ (q : List Word90). text ++ q) w;
  nodes_are = ap (λ (q : List Node). ns ++ q) f;
}

begin_step : (t : Word90) (fs : List Frame) (text : List Word90) (ns : List Node) → Stands fs text ns → StepStands (begin fs t ns) t text
begin_step (words.Digits t) fs text ns h = leaf (phrases.Literal t) (words.Digits t) (flats.Digits t) fs text ns h refl refl tt refl refl
begin_step (words.Truth b) fs text ns h = leaf (phrases.Truth b) (words.Truth b) (flats.Truth b) fs text ns h refl refl tt refl refl
begin_step (words.Name x) fs text ns h = leaf (phrases.Name x) (words.Name x) (flats.Name x) fs text ns h refl refl tt refl refl
begin_step (words.Head x) fs text ns h = among x None 0 true fs text _ ns _ h tt refl refl refl refl
begin_step (words.Operator o) fs text ns h = signs o fs text ns h
begin_step words.Open fs text ns h = within fs text _ ns h refl
begin_step words.OpenList fs text ns h = items None false 0 true fs text _ ns _ h tt refl refl refl refl refl
begin_step t fs text ns h = tt

-- ---- an operator behind an operand

join_step : (o : Op) (h : Held) (text : List Word90) → IsTrue (stands_between o) → Applied (level_of o) h text → StepStands (join o h) (words.Operator o) text
join_step o h text j a =
    let d = a.place in
    cond_both (nat_le (left_least o) h.info.level) _ _ (λ (q : Step). StepStands q (words.Operator o) text)
    (λ e. let fits : left_least o ≤ phrase_level90 d.phrase = omega (arith, leb-true _ _ e, ap (λ (q : Info). q.level) d.info_is) in
    after o h.info d.phrase h.frames d.front (text ++ words.Operator o ∷ []) d.nodes h.nodes d.stands a.loose j fits d.good d.info_is
    (ap (λ (q : List Word90). q ++ words.Operator o ∷ []) (sym d.text_is) ∙ append_assoc d.front (written90 d.phrase) (words.Operator o ∷ [])) (sym d.nodes_are))
    (λ e. tt)

-- ---- what ends a part

-- a list that its last part ends
ends_list : (x : List ℕ) (ps : Option ListParts) (p : ListPart) (d : ℕ) (g : Bool) (fs : List Frame) (front text : List Word90) (fns ns : List Node) → Stands fs front fns
    → PartsGrouped ps → IsGroupedPart p → d ≡ max (parts_depth ps) (counted (depth_of_part p)) → g ≡ (parts_placed ps && placed_part p)
    → text ≡ front ++ (words.Head x ∷ ((parts_text ps ++ written_part p) ++ words.Close ∷ []))
    → ns ≡ fns ++ (flats.Begin ∷ ((parts_nodes ps ++ flat_part p) ++ flats.Listed x ∷ [])) → InPlace fs (enclosed d g) text ns
ends_list x ps p d g fs front text fns ns h k q a b e f = record {
  phrase = phrases.Listed x (with_part ps p);
  front = front;
  nodes = fns;
  stands = h;
  good = with_grouped ps p k q;
  fits = least_ten fs;
  info_is = ap₂ enclosed (a ∙ sym (with_depth ps p)) (b ∙ sym (with_placed ps p)) ∙ enclosed_is (depth_of_parts (with_part ps p)) (placed_parts (with_part ps p));
  text_is = ap (λ (q : List Word90). front ++ (words.Head x ∷ (q ++ words.Close ∷ []))) (with_text ps p) ∙ sym e;
  nodes_are = ap (λ (q : List Node). fns ++ (flats.Begin ∷ (q ++ flats.Listed x ∷ []))) (with_nodes ps p) ∙ sym f;
}

-- a list that goes on behind a part
goes_on_list : (x : List ℕ) (ps : Option ListParts) (p : ListPart) (d : ℕ) (g : Bool) (fs : List Frame) (front text : List Word90) (fns ns : List Node) → Stands fs front fns
    → PartsGrouped ps → IsGroupedPart p → d ≡ max (parts_depth ps) (counted (depth_of_part p)) → g ≡ (parts_placed ps && placed_part p)
    → text ≡ front ++ (words.Head x ∷ ((parts_text ps ++ written_part p) ++ words.Comma ∷ []))
    → ns ≡ fns ++ (flats.Begin ∷ (parts_nodes ps ++ flat_part p)) → Stands (Among x d g ∷ fs) text ns
goes_on_list x ps p d g fs front text fns ns h k q a b e f =
    among x (Some (with_part ps p)) d g fs front text fns ns h (with_grouped ps p k q) (a ∙ sym (with_depth ps p)) (b ∙ sym (with_placed ps p))
    (e ∙ ap (λ (q : List Word90). front ++ (words.Head x ∷ (q ++ words.Comma ∷ []))) (sym (with_text ps p)))
    (f ∙ ap (λ (q : List Node). fns ++ (flats.Begin ∷ q)) (sym (with_nodes ps p)))

-- words and nodes in other groups; `t` ends the part
value_words : (front ps p : List Word90) (x t : Word90) → ((front ++ (x ∷ ps)) ++ p) ++ t ∷ [] ≡ front ++ (x ∷ ((ps ++ p) ++ t ∷ []))
value_words front ps p x t = simp append_assoc

range_words : (front ps a b : List Word90) (x c t : Word90) → ((front ++ (x ∷ (ps ++ (a ++ c ∷ [])))) ++ b) ++ t ∷ [] ≡ front ++ (x ∷ ((ps ++ (a ++ c ∷ b)) ++ t ∷ []))
range_words front ps a b x c t = simp append_assoc

strided_words : (front ps a b s : List Word90) (x c t : Word90) → ((front ++ (x ∷ (ps ++ (a ++ c ∷ (b ++ c ∷ []))))) ++ s) ++ t ∷ []
    ≡ front ++ (x ∷ ((ps ++ (a ++ c ∷ (b ++ c ∷ s))) ++ t ∷ []))
strided_words front ps a b s x c t = simp append_assoc

value_ends : (fns ps p : List Node) (b m l : Node) → ((fns ++ (b ∷ ps)) ++ p) ++ m ∷ l ∷ [] ≡ fns ++ (b ∷ ((ps ++ (p ++ m ∷ [])) ++ l ∷ []))
value_ends fns ps p b m l = simp append_assoc

range_ends : (fns ps p q : List Node) (b m l : Node) → ((fns ++ (b ∷ (ps ++ p))) ++ q) ++ m ∷ l ∷ [] ≡ fns ++ (b ∷ ((ps ++ (p ++ (q ++ m ∷ []))) ++ l ∷ []))
range_ends fns ps p q b m l = simp append_assoc

strided_ends : (fns ps p q r : List Node) (b m l : Node) → ((fns ++ (b ∷ (ps ++ (p ++ q)))) ++ r) ++ m ∷ l ∷ []
    ≡ fns ++ (b ∷ ((ps ++ (p ++ (q ++ (r ++ m ∷ [])))) ++ l ∷ []))
strided_ends fns ps p q r b m l = simp append_assoc

value_goes : (fns ps p : List Node) (b m : Node) → ((fns ++ (b ∷ ps)) ++ p) ++ m ∷ [] ≡ fns ++ (b ∷ (ps ++ (p ++ m ∷ [])))
value_goes fns ps p b m = simp append_assoc

range_goes : (fns ps p q : List Node) (b m : Node) → ((fns ++ (b ∷ (ps ++ p))) ++ q) ++ m ∷ [] ≡ fns ++ (b ∷ (ps ++ (p ++ (q ++ m ∷ []))))
range_goes fns ps p q b m = simp append_assoc

strided_goes : (fns ps p q r : List Node) (b m : Node) → ((fns ++ (b ∷ (ps ++ (p ++ q)))) ++ r) ++ m ∷ [] ≡ fns ++ (b ∷ (ps ++ (p ++ (q ++ (r ++ m ∷ [])))))
strided_goes fns ps p q r b m = simp append_assoc

and_assoc : (a b c : Bool) → ((a && b) && c) ≡ (a && (b && c))
and_assoc true b c = refl
and_assoc false b c = refl

four_and : (g a b c : Bool) → (((g && a) && b) && c) ≡ (g && ((a && b) && c))
four_and true a b c = refl
four_and false a b c = refl

range_max : (m : ℕ) (d : ℕ) (a b : Phrase90) → d ≡ max m (counted (phrase_depth90 a)) → max d (counted (phrase_depth90 b)) ≡ max m (counted (depth_of_part (Range a b)))
range_max m d a b e = omega (arith, e)

strided_max : (m d : ℕ) (a b c : Phrase90) → d ≡ max (max m (counted (phrase_depth90 a))) (counted (phrase_depth90 b)) → max d (counted (phrase_depth90 c)) ≡ max m (counted (depth_of_part (Strided a b c)))
strided_max m d a b c e = omega (arith, e)

-- the text before a part, and then the part and what ends it
along : (text prior : List Word90) (p : List Word90) (t : Word90) → text ≡ prior → (text ++ p) ++ t ∷ [] ≡ (prior ++ p) ++ t ∷ []
along text prior p t e = ap (λ (q : List Word90). (q ++ p) ++ t ∷ []) e

nodes_along : (ns prior more : List Node) (p : List Node) → ns ≡ prior → (ns ++ p) ++ more ≡ (prior ++ p) ++ more
nodes_along ns prior more p e = ap (λ (q : List Node). (q ++ p) ++ more) e

paren_words : (front p : List Word90) (a b : Word90) → ((front ++ a ∷ []) ++ p) ++ b ∷ [] ≡ front ++ (a ∷ (p ++ b ∷ []))
paren_words front p a b = simp append_assoc

turn_words : (front body a b : List Word90) (o c x e u t : Word90) → ((front ++ (o ∷ (body ++ c ∷ (x ∷ (e ∷ (a ++ u ∷ [])))))) ++ b) ++ t ∷ []
    ≡ front ++ (o ∷ (body ++ c ∷ (x ∷ (e ∷ (a ++ u ∷ (b ++ t ∷ []))))))
turn_words front body a b o c x e u t = simp append_assoc

turn_ends : (fns body a b : List Node) (n : Node) → ((fns ++ (body ++ a)) ++ b) ++ n ∷ [] ≡ fns ++ (body ++ (a ++ (b ++ n ∷ [])))
turn_ends fns body a b n = simp append_assoc

shut_at : {fs : List Frame} {text : List Word90} {ns : List Node} → Stands fs text ns → (p : Phrase90) → IsGrouped p
    → StepStands (shut fs (info_of p) (ns ++ flat p)) words.Close (text ++ written90 p)
shut_at bottom p q = here [] [] [] bottom p q (omega arith)
shut_at (before s fs front text ns h k e) p q = tt
shut_at (after o m a fs front text fns ns h k j i u is e f) p q = tt
shut_at (within fs front text ns h e) p q = record {
  phrase = phrases.Paren p;
  front = front;
  nodes = ns;
  stands = h;
  good = q;
  fits = least_ten fs;
  info_is = enclosed_is (phrase_depth90 p) (placed p);
  text_is = sym (along text (front ++ words.Open ∷ []) (written90 p) words.Close e ∙ paren_words front (written90 p) words.Open words.Close);
  nodes_are = sym (append_assoc ns (flat p) (flats.Parenthesis ∷ []));
}
shut_at (among x ps d g fs front text fns ns h k a b e f) p q =
    ends_list x ps (Value p) (max d (counted (phrase_depth90 p))) (g && placed p) fs front _ fns _ h k q (ap (λ (n : ℕ). max n (counted (phrase_depth90 p))) a)
    (ap (λ (c : Bool). c && placed p) b)
    (along text (front ++ (words.Head x ∷ parts_text ps)) (written90 p) words.Close e ∙ value_words front (parts_text ps) (written90 p) (words.Head x) words.Close)
    (nodes_along ns (fns ++ (flats.Begin ∷ parts_nodes ps)) (flats.One ∷ flats.Listed x ∷ []) (flat p) f
    ∙ value_ends fns (parts_nodes ps) (flat p) flats.Begin flats.One (flats.Listed x))
shut_at (from x ps a d g fs front text fns ns h k i b c e f) p q =
    ends_list x ps (Range a p) (max d (counted (phrase_depth90 p))) (g && placed p) fs front _ fns _ h k (i, q) (range_max (parts_depth ps) d a p b)
    (ap (λ (u : Bool). u && placed p) c ∙ and_assoc (parts_placed ps) (placed a) (placed p))
    (along text _ (written90 p) words.Close e ∙ range_words front (parts_text ps) (written90 a) (written90 p) (words.Head x) words.Colon words.Close)
    (nodes_along ns _ (flats.Bounds ∷ flats.Listed x ∷ []) (flat p) f ∙ range_ends fns (parts_nodes ps) (flat a) (flat p) flats.Begin flats.Bounds (flats.Listed x))
shut_at (by x ps a b d g fs front text fns ns h k i j c u e f) p q =
    ends_list x ps (Strided a b p) (max d (counted (phrase_depth90 p))) (g && placed p) fs front _ fns _ h k (i, j, q) (strided_max (parts_depth ps) d a b p c)
    (ap (λ (v : Bool). v && placed p) u ∙ four_and (parts_placed ps) (placed a) (placed b) (placed p))
    (along text _ (written90 p) words.Close e ∙ strided_words front (parts_text ps) (written90 a) (written90 b) (written90 p) (words.Head x) words.Colon words.Close)
    (nodes_along ns _ (flats.Stride ∷ flats.Listed x ∷ []) (flat p) f
    ∙ strided_ends fns (parts_nodes ps) (flat a) (flat b) (flat p) flats.Begin flats.Stride (flats.Listed x))
shut_at (items ps t d g fs front text fns ns h k a b c e f) p q = tt
shut_at (first body t x d g fs front text fns ns h k a b c e f) p q = tt
shut_at (last body a t x d g fs front text fns ns h k i b c u e f) p q = record {
  turn = closed_turn body x a p;
  front = front;
  nodes = fns;
  stands = h;
  good = turn_grouped body x a p k i q;
  depth_is = ap (λ (n : ℕ). deeper (max n (counted (phrase_depth90 p)))) c ∙ sym (turn_depth body x a p);
  placed_is = ap (λ (v : Bool). v && placed p) u ∙ sym (turn_placed body x a p);
  text_is = ap (λ (v : List Word90). front ++ v) (turn_text body x a p)
      ∙ sym (along text _ (written90 p) words.Close e
      ∙ turn_words front (body_text body) (written90 a) (written90 p) words.Open words.Comma (words.Name x) words.Equals words.Comma words.Close);
  nodes_are = ap (λ (v : List Node). fns ++ v) (turn_nodes body x a p)
      ∙ sym (nodes_along ns _ (turn_node t x ∷ []) (flat p) f
      ∙ (turn_ends fns (body_nodes body) (flat a) (flat p) (turn_node t x)
      ∙ ap (λ (v : Bool). fns ++ (body_nodes body ++ (flat a ++ (flat p ++ turn_node v x ∷ [])))) b));
}

first_words : (front body a : List Word90) (o c x e t : Word90) → ((front ++ (o ∷ (body ++ c ∷ (x ∷ (e ∷ []))))) ++ a) ++ t ∷ []
    ≡ front ++ (o ∷ (body ++ c ∷ (x ∷ (e ∷ (a ++ t ∷ [])))))
first_words front body a o c x e t = simp append_assoc

value_list : (front ps p : List Word90) (x t : Word90) → ((front ++ (x ∷ ps)) ++ p) ++ t ∷ [] ≡ front ++ (x ∷ ((ps ++ p) ++ t ∷ []))
value_list front ps p x t = simp append_assoc

value_list_nodes : (fns ps p : List Node) (b : Node) → (fns ++ (b ∷ ps)) ++ p ≡ fns ++ (b ∷ (ps ++ p))
value_list_nodes fns ps p b = simp append_assoc

part_at : {fs : List Frame} {text : List Word90} {ns : List Node} → Stands fs text ns → (p : Phrase90) → IsGrouped p
    → StepStands (part fs (info_of p) (ns ++ flat p)) words.Comma (text ++ written90 p)
part_at bottom p q = here [] [] [] bottom p q (omega arith)
part_at (before s fs front text ns h k e) p q = tt
part_at (after o m a fs front text fns ns h k j i u is e f) p q = tt
part_at (within fs front text ns h e) p q = record {
  body = Of p;
  front = front;
  nodes = ns;
  stands = h;
  good = q;
  nested_is = refl;
  depth_is = refl;
  placed_is = refl;
  text_is = sym (along text (front ++ words.Open ∷ []) (written90 p) words.Comma e ∙ paren_words front (written90 p) words.Open words.Comma);
  nodes_are = refl;
}
part_at (among x ps d g fs front text fns ns h k a b e f) p q =
    goes_on_list x ps (Value p) (max d (counted (phrase_depth90 p))) (g && placed p) fs front _ fns _ h k q (ap (λ (n : ℕ). max n (counted (phrase_depth90 p))) a)
    (ap (λ (c : Bool). c && placed p) b)
    (along text (front ++ (words.Head x ∷ parts_text ps)) (written90 p) words.Comma e ∙ value_words front (parts_text ps) (written90 p) (words.Head x) words.Comma)
    (nodes_along ns (fns ++ (flats.Begin ∷ parts_nodes ps)) (flats.One ∷ []) (flat p) f ∙ value_goes fns (parts_nodes ps) (flat p) flats.Begin flats.One)
part_at (from x ps a d g fs front text fns ns h k i b c e f) p q =
    goes_on_list x ps (Range a p) (max d (counted (phrase_depth90 p))) (g && placed p) fs front _ fns _ h k (i, q) (range_max (parts_depth ps) d a p b)
    (ap (λ (u : Bool). u && placed p) c ∙ and_assoc (parts_placed ps) (placed a) (placed p))
    (along text _ (written90 p) words.Comma e ∙ range_words front (parts_text ps) (written90 a) (written90 p) (words.Head x) words.Colon words.Comma)
    (nodes_along ns _ (flats.Bounds ∷ []) (flat p) f ∙ range_goes fns (parts_nodes ps) (flat a) (flat p) flats.Begin flats.Bounds)
part_at (by x ps a b d g fs front text fns ns h k i j c u e f) p q =
    goes_on_list x ps (Strided a b p) (max d (counted (phrase_depth90 p))) (g && placed p) fs front _ fns _ h k (i, j, q) (strided_max (parts_depth ps) d a b p c)
    (ap (λ (v : Bool). v && placed p) u ∙ four_and (parts_placed ps) (placed a) (placed b) (placed p))
    (along text _ (written90 p) words.Comma e ∙ strided_words front (parts_text ps) (written90 a) (written90 b) (written90 p) (words.Head x) words.Colon words.Comma)
    (nodes_along ns _ (flats.Stride ∷ []) (flat p) f ∙ strided_goes fns (parts_nodes ps) (flat a) (flat b) (flat p) flats.Begin flats.Stride)
part_at (items ps t d g fs front text fns ns h k a b c e f) p q =
    items (Some (with_value ps p)) true (max d (counted (phrase_depth90 p))) (g && placed p) fs front _ fns _ h (value_grouped ps p k q) refl
    (ap (λ (n : ℕ). max n (counted (phrase_depth90 p))) b ∙ sym (value_depth ps p)) (ap (λ (v : Bool). v && placed p) c ∙ sym (value_placed ps p))
    (along text _ (written90 p) words.Comma e ∙ (value_list front (values_text ps) (written90 p) words.OpenList words.Comma
    ∙ ap (λ (v : List Word90). front ++ (words.OpenList ∷ (v ++ words.Comma ∷ []))) (sym (value_text ps p))))
    (ap (λ (v : List Node). v ++ flat p) f ∙ (value_list_nodes fns (values_nodes ps) (flat p) flats.Begin
    ∙ ap (λ (v : List Node). fns ++ (flats.Begin ∷ v)) (sym (value_nodes ps p))))
part_at (first body t x d g fs front text fns ns h k a b c e f) p q =
    last body p t x (max d (counted (phrase_depth90 p))) (g && placed p) fs front _ fns _ h k q a (ap (λ (n : ℕ). max n (counted (phrase_depth90 p))) b)
    (ap (λ (v : Bool). v && placed p) c)
    (along text _ (written90 p) words.Comma e ∙ first_words front (body_text body) (written90 p) words.Open words.Comma (words.Name x) words.Equals words.Comma)
    (ap (λ (v : List Node). v ++ flat p) f ∙ append_assoc fns (body_nodes body) (flat p))
part_at (last body a t x d g fs front text fns ns h k i b c u e f) p q = tt

colon_words : (front ps p : List Word90) (x t : Word90) → ((front ++ (x ∷ ps)) ++ p) ++ t ∷ [] ≡ front ++ (x ∷ (ps ++ (p ++ t ∷ [])))
colon_words front ps p x t = simp append_assoc

colons_words : (front ps a p : List Word90) (x c t : Word90) → ((front ++ (x ∷ (ps ++ (a ++ c ∷ [])))) ++ p) ++ t ∷ [] ≡ front ++ (x ∷ (ps ++ (a ++ c ∷ (p ++ t ∷ []))))
colons_words front ps a p x c t = simp append_assoc

colons_nodes : (fns ps a p : List Node) (b : Node) → (fns ++ (b ∷ (ps ++ a))) ++ p ≡ fns ++ (b ∷ (ps ++ (a ++ p)))
colons_nodes fns ps a p b = simp append_assoc

colon_at : {fs : List Frame} {text : List Word90} {ns : List Node} → Stands fs text ns → (p : Phrase90) → IsGrouped p
    → StepStands (colon fs (info_of p) (ns ++ flat p)) words.Colon (text ++ written90 p)
colon_at bottom p q = here [] [] [] bottom p q (omega arith)
colon_at (before s fs front text ns h k e) p q = tt
colon_at (after o m a fs front text fns ns h k j i u is e f) p q = tt
colon_at (within fs front text ns h e) p q = tt
colon_at (among x ps d g fs front text fns ns h k a b e f) p q =
    from x ps p (max d (counted (phrase_depth90 p))) (g && placed p) fs front _ fns _ h k q (ap (λ (n : ℕ). max n (counted (phrase_depth90 p))) a) (ap (λ (v : Bool). v && placed p) b)
    (along text _ (written90 p) words.Colon e ∙ colon_words front (parts_text ps) (written90 p) (words.Head x) words.Colon)
    (ap (λ (v : List Node). v ++ flat p) f ∙ value_list_nodes fns (parts_nodes ps) (flat p) flats.Begin)
colon_at (from x ps a d g fs front text fns ns h k i b c e f) p q =
    by x ps a p (max d (counted (phrase_depth90 p))) (g && placed p) fs front _ fns _ h k i q (ap (λ (n : ℕ). max n (counted (phrase_depth90 p))) b) (ap (λ (v : Bool). v && placed p) c)
    (along text _ (written90 p) words.Colon e ∙ colons_words front (parts_text ps) (written90 a) (written90 p) (words.Head x) words.Colon words.Colon)
    (ap (λ (v : List Node). v ++ flat p) f ∙ colons_nodes fns (parts_nodes ps) (flat a) (flat p) flats.Begin)
colon_at (by x ps a b d g fs front text fns ns h k i j c u e f) p q = tt
colon_at (items ps t d g fs front text fns ns h k a b c e f) p q = tt
colon_at (first body t x d g fs front text fns ns h k a b c e f) p q = tt
colon_at (last body a t x d g fs front text fns ns h k i b c u e f) p q = tt

values_ends : (fns ps p : List Node) (b v : Node) → ((fns ++ (b ∷ ps)) ++ p) ++ v ∷ [] ≡ fns ++ (b ∷ ((ps ++ p) ++ v ∷ []))
values_ends fns ps p b v = simp append_assoc

shut_list_at : {fs : List Frame} {text : List Word90} {ns : List Node} → Stands fs text ns → (p : Phrase90) → IsGrouped p
    → StepStands (shut_list fs (info_of p) (ns ++ flat p)) words.CloseList (text ++ written90 p)
shut_list_at bottom p q = here [] [] [] bottom p q (omega arith)
shut_list_at (before s fs front text ns h k e) p q = tt
shut_list_at (after o m a fs front text fns ns h k j i u is e f) p q = tt
shut_list_at (within fs front text ns h e) p q = tt
shut_list_at (among x ps d g fs front text fns ns h k a b e f) p q = tt
shut_list_at (from x ps a d g fs front text fns ns h k i b c e f) p q = tt
shut_list_at (by x ps a b d g fs front text fns ns h k i j c u e f) p q = tt
shut_list_at (items ps t d g fs front text fns ns h k a b c e f) p q = record {
  phrase = phrases.Values (with_value ps p);
  front = front;
  nodes = fns;
  stands = h;
  good = value_grouped ps p k q;
  fits = least_ten fs;
  info_is = ap₂ enclosed (ap (λ (n : ℕ). max n (counted (phrase_depth90 p))) b ∙ sym (value_depth ps p)) (ap (λ (v : Bool). v && placed p) c ∙ sym (value_placed ps p))
      ∙ enclosed_is (depth_of_values (with_value ps p)) (placed_values (with_value ps p));
  text_is = ap (λ (v : List Word90). front ++ (words.OpenList ∷ (v ++ words.CloseList ∷ []))) (value_text ps p)
      ∙ sym (along text _ (written90 p) words.CloseList e ∙ value_list front (values_text ps) (written90 p) words.OpenList words.CloseList);
  nodes_are = ap (λ (v : List Node). fns ++ (flats.Begin ∷ (v ++ flats.Values ∷ []))) (value_nodes ps p)
      ∙ sym (nodes_along ns _ (flats.Values ∷ []) (flat p) f ∙ values_ends fns (values_nodes ps) (flat p) flats.Begin flats.Values);
}
shut_list_at (first body t x d g fs front text fns ns h k a b c e f) p q = tt
shut_list_at (last body a t x d g fs front text fns ns h k i b c u e f) p q = tt

halt_at : {fs : List Frame} {text : List Word90} {ns : List Node} (t : Word90) → Stands fs text ns → (p : Phrase90) → IsGrouped p
    → StepStands (halt fs (info_of p) (ns ++ flat p)) t (text ++ written90 p)
halt_at t bottom p q = here [] [] [] bottom p q (omega arith)
halt_at t (before s fs front text ns h k e) p q = tt
halt_at t (after o m a fs front text fns ns h k j i u is e f) p q = tt
halt_at t (within fs front text ns h e) p q = tt
halt_at t (among x ps d g fs front text fns ns h k a b e f) p q = tt
halt_at t (from x ps a d g fs front text fns ns h k i b c e f) p q = tt
halt_at t (by x ps a b d g fs front text fns ns h k i j c u e f) p q = tt
halt_at t (items ps k d g fs front text fns ns h i a b c e f) p q = tt
halt_at t (first body k x d g fs front text fns ns h i a b c e f) p q = tt
halt_at t (last body a k x d g fs front text fns ns h i j b c u e f) p q = tt

-- a step at an operand, from one at its words
at_place : (f : List Frame → Info → List Node → Step) (t : Word90) (fs : List Frame) (m : Info) (text : List Word90) (ns : List Node) → InPlace fs m text ns
    → ((gs : List Frame) (front : List Word90) (us : List Node) → Stands gs front us → (p : Phrase90) → IsGrouped p
    → StepStands (f gs (info_of p) (us ++ flat p)) t (front ++ written90 p))
    → StepStands (f (close 0 fs m ns).frames (close 0 fs m ns).info (close 0 fs m ns).nodes) t text
at_place f t fs m text ns o each =
    let a = applied 0 fs m text ns o in
    let d = a.place in
    let h = close 0 fs m ns in
    let k : StepStands (f h.frames (info_of d.phrase) (d.nodes ++ flat d.phrase)) t (d.front ++ written90 d.phrase)
    = each h.frames d.front d.nodes d.stands d.phrase d.good in
    subst (λ (q : List Word90). StepStands (f h.frames h.info h.nodes) t q) d.text_is
    (subst (λ (q : List Node). StepStands (f h.frames h.info q) t (d.front ++ written90 d.phrase)) d.nodes_are
    (subst (λ (q : Info). StepStands (f h.frames q (d.nodes ++ flat d.phrase)) t (d.front ++ written90 d.phrase)) (sym d.info_is) k))

operator_step : (b : Bool) (o : Op) (fs : List Frame) (m : Info) (text : List Word90) (ns : List Node) → stands_between o ≡ b → InPlace fs m text ns
    → StepStands (cond b (join o (close (level_of o) fs m ns)) (halted (close 0 fs m ns))) (words.Operator o) text
operator_step true o fs m text ns e h = join_step o (close (level_of o) fs m ns) text e (applied (level_of o) fs m text ns h)
operator_step false o fs m text ns e h = at_place halt (words.Operator o) fs m text ns h (λ gs front us s p q. halt_at (words.Operator o) s p q)

halt_step : (t : Word90) (fs : List Frame) (m : Info) (text : List Word90) (ns : List Node) → InPlace fs m text ns → StepStands (halted (close 0 fs m ns)) t text
halt_step t fs m text ns h = at_place halt t fs m text ns h (λ gs front us s p q. halt_at t s p q)

go_on_step : (t : Word90) (fs : List Frame) (m : Info) (text : List Word90) (ns : List Node) → InPlace fs m text ns → StepStands (go_on fs m t ns) t text
go_on_step (words.Operator o) fs m text ns h = operator_step (stands_between o) o fs m text ns refl h
go_on_step words.Close fs m text ns h = at_place shut words.Close fs m text ns h (λ gs front us s p q. shut_at s p q)
go_on_step words.Comma fs m text ns h = at_place part words.Comma fs m text ns h (λ gs front us s p q. part_at s p q)
go_on_step words.Colon fs m text ns h = at_place colon words.Colon fs m text ns h (λ gs front us s p q. colon_at s p q)
go_on_step words.CloseList fs m text ns h = at_place shut_list words.CloseList fs m text ns h (λ gs front us s p q. shut_list_at s p q)
go_on_step (words.Digits u) fs m text ns h = halt_step (words.Digits u) fs m text ns h
go_on_step (words.Truth b) fs m text ns h = halt_step (words.Truth b) fs m text ns h
go_on_step (words.Name x) fs m text ns h = halt_step (words.Name x) fs m text ns h
go_on_step (words.Head x) fs m text ns h = halt_step (words.Head x) fs m text ns h
go_on_step words.Open fs m text ns h = halt_step words.Open fs m text ns h
go_on_step words.OpenList fs m text ns h = halt_step words.OpenList fs m text ns h
go_on_step words.Equals fs m text ns h = halt_step words.Equals fs m text ns h
go_on_step words.Colons fs m text ns h = halt_step words.Colons fs m text ns h
go_on_step (words.Constant u) fs m text ns h = halt_step (words.Constant u) fs m text ns h

-- ---- turns

nested_words : (front t : List Word90) (o c : Word90) → ((front ++ o ∷ []) ++ t) ++ c ∷ [] ≡ front ++ (o ∷ (t ++ c ∷ []))
nested_words front t o c = simp append_assoc

-- a loop round a turn: the parenthesis before the turn begins its own turn
loop_at : {fs : List Frame} {text : List Word90} {ns : List Node} → Stands fs text ns → (t : Turn) (d : ℕ) (g : Bool) → IsGroupedTurn t
    → d ≡ counted (depth_of_turn t) → g ≡ placed_turn t → StepStands (loop_round fs d g (ns ++ flat_turn t)) words.Comma (text ++ written_turn t)
loop_at bottom t d g q a b = tt
loop_at (before s fs front text ns h k e) t d g q a b = tt
loop_at (after o m p fs front text fns ns h k j i u is e f) t d g q a b = tt
loop_at (within fs front text ns h e) t d g q a b = record {
  body = Nested t;
  front = front;
  nodes = ns;
  stands = h;
  good = q;
  nested_is = refl;
  depth_is = a;
  placed_is = b;
  text_is = sym (along text (front ++ words.Open ∷ []) (written_turn t) words.Comma e ∙ nested_words front (written_turn t) words.Open words.Comma);
  nodes_are = refl;
}
loop_at (among x ps d g fs front text fns ns h k a b e f) t dd gg q aa bb = tt
loop_at (from x ps p d g fs front text fns ns h k i b c e f) t dd gg q aa bb = tt
loop_at (by x ps p b d g fs front text fns ns h k i j c u e f) t dd gg q aa bb = tt
loop_at (items ps k d g fs front text fns ns h i a b c e f) t dd gg q aa bb = tt
loop_at (first body k x d g fs front text fns ns h i a b c e f) t dd gg q aa bb = tt
loop_at (last body p k x d g fs front text fns ns h i j b c u e f) t dd gg q aa bb = tt

-- a constructor that is a turn
looped_at : {fs : List Frame} {text : List Word90} {ns : List Node} → Stands fs text ns → (t : Turn) (d : ℕ) (g : Bool) → IsGroupedTurn t
    → d ≡ counted (depth_of_turn t) → g ≡ placed_turn t → StepStands (end_looped fs d g (ns ++ flat_turn t)) words.CloseList (text ++ written_turn t)
looped_at bottom t d g q a b = tt
looped_at (before s fs front text ns h k e) t d g q a b = tt
looped_at (after o m p fs front text fns ns h k j i u is e f) t d g q a b = tt
looped_at (within fs front text ns h e) t d g q a b = tt
looped_at (among x ps d g fs front text fns ns h k a b e f) t dd gg q aa bb = tt
looped_at (from x ps p d g fs front text fns ns h k i b c e f) t dd gg q aa bb = tt
looped_at (by x ps p b d g fs front text fns ns h k i j c u e f) t dd gg q aa bb = tt
looped_at (items None true d g fs front text fns ns h i a b c e f) t dd gg q aa bb = tt
looped_at (items (Some ps) true d g fs front text fns ns h i a b c e f) t dd gg q aa bb = tt
looped_at (items (Some ps) false d g fs front text fns ns h i a b c e f) t dd gg q aa bb = absurd (cc)
looped_at (items None false d g fs front text fns ns h i a b c e f) t dd gg q aa bb = record {
  phrase = phrases.Looped t;
  front = front;
  nodes = fns;
  stands = h;
  good = q;
  fits = least_ten fs;
  info_is = ap₂ enclosed aa bb ∙ enclosed_is (depth_of_turn t) (placed_turn t);
  text_is = sym (along text (front ++ words.OpenList ∷ []) (written_turn t) words.CloseList e
      ∙ nested_words front (written_turn t) words.OpenList words.CloseList);
  nodes_are = sym (nodes_along ns (fns ++ flats.Begin ∷ []) (flats.Looped ∷ []) (flat_turn t) f
      ∙ nested_nodes fns (flat_turn t) flats.Begin flats.Looped);
}
  where
    nested_nodes : (us vs : List Node) (b l : Node) → ((us ++ b ∷ []) ++ vs) ++ l ∷ [] ≡ us ++ (b ∷ (vs ++ l ∷ []))
    nested_nodes us vs b l = simp append_assoc
looped_at (first body k x d g fs front text fns ns h i a b c e f) t dd gg q aa bb = tt
looped_at (last body p k x d g fs front text fns ns h i j b c u e f) t dd gg q aa bb = tt

after_step : (t : Word90) (fs : List Frame) (d : ℕ) (g : Bool) (text : List Word90) (ns : List Node) → TurnInPlace fs d g text ns
    → StepStands (after_turn fs d g t ns) t text
after_step words.Comma fs d g text ns o =
    subst (λ (q : List Word90). StepStands (loop_round fs d g ns) words.Comma q) o.text_is
    (subst (λ (q : List Node). StepStands (loop_round fs d g q) words.Comma (o.front ++ written_turn o.turn)) o.nodes_are
    (loop_at o.stands o.turn d g o.good o.depth_is o.placed_is))
after_step words.CloseList fs d g text ns o =
    subst (λ (q : List Word90). StepStands (end_looped fs d g ns) words.CloseList q) o.text_is
    (subst (λ (q : List Node). StepStands (end_looped fs d g q) words.CloseList (o.front ++ written_turn o.turn)) o.nodes_are
    (looped_at o.stands o.turn d g o.good o.depth_is o.placed_is))
after_step t fs d g text ns o = tt

name_words : (front body : List Word90) (o c x : Word90) → (front ++ (o ∷ (body ++ c ∷ []))) ++ x ∷ [] ≡ front ++ (o ∷ (body ++ c ∷ (x ∷ [])))
name_words front body o c x = simp append_assoc

equals_words : (front body : List Word90) (o c x e : Word90) → (front ++ (o ∷ (body ++ c ∷ (x ∷ [])))) ++ e ∷ [] ≡ front ++ (o ∷ (body ++ c ∷ (x ∷ (e ∷ []))))
equals_words front body o c x e = simp append_assoc

name_step : (t : Word90) (fs : List Frame) (k : Bool) (d : ℕ) (g : Bool) (text : List Word90) (ns : List Node) → BodyInPlace fs k d g [] text ns
    → StepStands (take_name fs k d g t ns) t text
name_step (words.Name x) fs k d g text ns o = record {
  body = o.body;
  front = o.front;
  nodes = o.nodes;
  stands = o.stands;
  good = o.good;
  nested_is = o.nested_is;
  depth_is = o.depth_is;
  placed_is = o.placed_is;
  text_is = sym (name_words o.front (body_text o.body) words.Open words.Comma (words.Name x)) ∙ ap (λ (q : List Word90). q ++ words.Name x ∷ []) o.text_is;
  nodes_are = o.nodes_are;
}
name_step t fs k d g text ns o = tt

equals_step : (t : Word90) (fs : List Frame) (k : Bool) (x : List ℕ) (d : ℕ) (g : Bool) (text : List Word90) (ns : List Node)
    → BodyInPlace fs k d g (words.Name x ∷ []) text ns → StepStands (take_equals fs k x d g t ns) t text
equals_step words.Equals fs k x d g text ns o =
    first o.body k x d g fs o.front (text ++ words.Equals ∷ []) o.nodes ns o.stands o.good o.nested_is o.depth_is o.placed_is
    (ap (λ (q : List Word90). q ++ words.Equals ∷ []) (sym o.text_is) ∙ equals_words o.front (body_text o.body) words.Open words.Comma (words.Name x) words.Equals)
    (sym o.nodes_are)
equals_step t fs k x d g text ns o = tt

-- ---- the whole run

step_stands : (s : State) (t : Word90) (text : List Word90) (ns : List Node) → StateStands s text ns → StepStands (step s t ns) t text
step_stands (Wants fs) t text ns h = begin_step t fs text ns h
step_stands (Has fs m) t text ns h = go_on_step t fs m text ns h
step_stands (HasTurn fs d g) t text ns h = after_step t fs d g text ns h
step_stands (WantsName fs k d g) t text ns h = name_step t fs k d g text ns h
step_stands (WantsEquals fs k x d g) t text ns h = equals_step t fs k x d g text ns h

-- words that are grouped as an expression at the front of words, and the rest
record Grouped (text : List Word90) (r : Read) : Type 0 where
  phrase : Phrase90
  good : IsGrouped phrase
  info_is : r.info ≡ info_of phrase
  nodes_are : r.nodes ≡ flat phrase
  text_is : written90 phrase ++ r.rest ≡ text

record IsBottom (front : List Word90) (ns : List Node) : Type 0 where
  words_are : front ≡ []
  nodes_are : ns ≡ []

from_bottom : {fs : List Frame} {front : List Word90} {ns : List Node} → Stands fs front ns → fs ≡ [] → IsBottom front ns
from_bottom bottom e = record { words_are = refl; nodes_are = refl }
from_bottom (before s fs front text ns h k e) z = absurd (cc)
from_bottom (after o m a fs front text fns ns h k j i u is e f) z = absurd (cc)
from_bottom (within fs front text ns h e) z = absurd (cc)
from_bottom (among x ps d g fs front text fns ns h k a b e f) z = absurd (cc)
from_bottom (from x ps p d g fs front text fns ns h k i b c e f) z = absurd (cc)
from_bottom (by x ps p b d g fs front text fns ns h k i j c u e f) z = absurd (cc)
from_bottom (items ps k d g fs front text fns ns h i a b c e f) z = absurd (cc)
from_bottom (first body k x d g fs front text fns ns h i a b c e f) z = absurd (cc)
from_bottom (last body p k x d g fs front text fns ns h i j b c u e f) z = absurd (cc)

abbrev read_at : Info → List Node → List Word90 → Read
read_at m ns rest = record { info = m; nodes = ns; rest = rest }

found : (m : Info) (ns : List Node) (text rest whole : List Word90) → InPlace [] m text ns → text ++ rest ≡ whole → Grouped whole (read_at m ns rest)
found m ns text rest whole o e =
    let z = from_bottom o.stands refl in
    let w : written90 o.phrase ≡ text = ap (λ (q : List Word90). q ++ written90 o.phrase) (sym z.words_are) ∙ o.text_is in
    let v : flat o.phrase ≡ ns = ap (λ (q : List Node). q ++ flat o.phrase) (sym z.nodes_are) ∙ o.nodes_are in
    record { phrase = o.phrase; good = o.good; info_is = o.info_is; nodes_are = sym v; text_is = ap (λ (q : List Word90). q ++ rest) w ∙ e }

went_found : (st : Step) (t : Word90) (ts text whole : List Word90) (r : Read) → StepStands st t text → text ++ t ∷ ts ≡ whole
    → ((s : State) (ns : List Node) → StateStands s (text ++ t ∷ []) ns → run ts s ns ≡ Some r → Grouped whole r) → went st t ts (run ts) ≡ Some r → Grouped whole r
went_found (Go s ns) t ts text whole r h w each e = each s ns h e
went_found (Stop m ns) t ts text whole r h w each e =
    let q : read_at m ns (t ∷ ts) ≡ r = cc in subst (Grouped whole) q (found m ns text (t ∷ ts) whole h w)
went_found Fail t ts text whole r h w each e = absurd (cc)

ended_found : (st : Step) (t : Word90) (text whole : List Word90) (r : Read) → StepStands st t text → text ++ [] ≡ whole → stopped st [] ≡ Some r → Grouped whole r
ended_found (Go s ns) t text whole r h w e = absurd (cc)
ended_found (Stop m ns) t text whole r h w e =
    let q : read_at m ns [] ≡ r = cc in subst (Grouped whole) q (found m ns text [] whole h w)
ended_found Fail t text whole r h w e = absurd (cc)

sound : (ts : List Word90) (s : State) (text whole : List Word90) (ns : List Node) (r : Read) → StateStands s text ns → text ++ ts ≡ whole → run ts s ns ≡ Some r
    → Grouped whole r
sound [] (Wants fs) text whole ns r h w e = absurd (cc)
sound [] (HasTurn fs d g) text whole ns r h w e = absurd (cc)
sound [] (WantsName fs k d g) text whole ns r h w e = absurd (cc)
sound [] (WantsEquals fs k x d g) text whole ns r h w e = absurd (cc)
sound [] (Has fs m) text whole ns r h w e =
    ended_found (halted (close 0 fs m ns)) words.Equals text whole r (halt_step words.Equals fs m text ns h) w e
sound (t ∷ ts) s text whole ns r h w e =
    went_found (step s t ns) t ts text whole r (step_stands s t text ns h) w
    (λ s2 ns2 h2 e2. sound ts s2 (text ++ t ∷ []) whole ns2 r h2 (append_assoc text (t ∷ []) ts ∙ w) e2) e

-- an expression at the front of words, and the rest
pub record Found (text : List Word90) (r : Read) : Type 0 where
  pub phrase : Phrase90
  pub good : IsExpression90 phrase
  pub info_is : r.info ≡ info_of phrase
  pub nodes_are : r.nodes ≡ flat phrase
  pub text_is : written90 phrase ++ r.rest ≡ text

found_of : (text : List Word90) (r : Read) → Grouped text r → r.info.placed ≡ true → Found text r
found_of text r g h =
    let k : placed g.phrase ≡ true = sym (ap (λ (m : Info). m.placed) g.info_is) ∙ h in
    record { phrase = g.phrase; good = is_expression g.phrase g.good k; info_is = g.info_is; nodes_are = g.nodes_are; text_is = g.text_is }

-- What is read at the front is an expression, with the rest behind it.
pub run_found : (ts : List Word90) (r : Read) → run ts (Wants []) [] ≡ Some r → r.info.placed ≡ true → Found ts r
run_found ts r e h = found_of ts r (sound ts (Wants []) [] ts [] r bottom refl e) h
