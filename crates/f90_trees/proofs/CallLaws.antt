-- The list of an expression tells whether its calls have arguments that may stand there.
use Rattle.std.proofs.Common.{arith, ◌≡◌, ℕ, ◌+◌, Bool, true, false, ◌&&◌, cond, List, [], ◌∷◌, ◌++◌, refl, ap, sym, ◌∙◌, append_assoc, append-nil, Option, Some, None, leb-true, le-leb}
use Rattle.std.proofs.lemmas.Bool.{and_parts, and_from, cond-true, cond-false}
use Rattle.tree.specs.declared.functions.Intrinsic.{Intrinsic}
use Rattle.tree.specs.declared.functions.Intrinsic.TheVariants.{Elemental, Reduction, Spread, Transpose, Reshape}
use Rattle.f90_grammar.specs.Phrases as phrases
use Rattle.f90_grammar.specs.Phrases.{Phrase90, SuitsFunction, AreValues, HasLiteralDimension, IsShape, SuitsCalls, PartSuitsCalls, PartsSuitCalls, ValuesSuitCalls, TurnSuitsCalls, length_of_values}
use Rattle.f90_expressions.specs.Flat as flats
use Rattle.f90_expressions.specs.Flat.{Node, flat, flat_part, flat_parts, flat_values, flat_turn}
use Rattle.f90_trees.specs.Calls.{Shape, Listing, Other, shape_of, Entry, Value, Part, Mark, Turn, Parts, parts_above, Count, count_above, counted, is_value, are_values, is_literal, is_short_list, has_dimension, has_shape, suits, listed, checked_on, check_all, ListTellsCalls}

-- ---- the shapes of parts

abbrev pub part_shape : phrases.ListPart → Option Shape
part_shape (phrases.Value p) = Some (shape_of p)
part_shape (phrases.Range a b) = None
part_shape (phrases.Strided a b c) = None

abbrev pub part_shapes : phrases.ListParts → List (Option Shape)
part_shapes (phrases.One p) = part_shape p ∷ []
part_shapes (phrases.Then ps p) = part_shapes ps ++ part_shape p ∷ []

and_assoc : (a b c : Bool) → ((a && b) && c) ≡ (a && (b && c))
and_assoc true b c = refl
and_assoc false b c = refl

and_true : (b : Bool) → (b && true) ≡ b
and_true true = refl
and_true false = refl

values_last : (ss : List (Option Shape)) (s : Option Shape) → are_values (ss ++ s ∷ []) ≡ (are_values ss && is_value s)
values_last [] s = and_true (is_value s)
values_last (t ∷ ss) s = ap (λ (b : Bool). is_value t && b) (values_last ss s) ∙ sym (and_assoc (is_value t) (are_values ss) (is_value s))

values_suit : (ps : phrases.ListParts) → are_values (part_shapes ps) ≡ true → AreValues ps
values_suit (phrases.One (phrases.Value p)) h = tt
values_suit (phrases.One (phrases.Range a b)) h = absurd (cc)
values_suit (phrases.One (phrases.Strided a b c)) h = absurd (cc)
values_suit (phrases.Then ps (phrases.Value p)) h =
    values_suit ps (and_parts (are_values (part_shapes ps)) true (sym (values_last (part_shapes ps) (Some (shape_of p))) ∙ h)).0
values_suit (phrases.Then ps (phrases.Range a b)) h =
    let k = and_parts (are_values (part_shapes ps)) false (sym (values_last (part_shapes ps) None) ∙ h) in absurd (let e = k.1 in cc)
values_suit (phrases.Then ps (phrases.Strided a b c)) h =
    let k = and_parts (are_values (part_shapes ps)) false (sym (values_last (part_shapes ps) None) ∙ h) in absurd (let e = k.1 in cc)

suit_values : (ps : phrases.ListParts) → AreValues ps → are_values (part_shapes ps) ≡ true
suit_values (phrases.One (phrases.Value p)) h = refl
suit_values (phrases.One (phrases.Range a b)) h = absurd h
suit_values (phrases.One (phrases.Strided a b c)) h = absurd h
suit_values (phrases.Then ps (phrases.Value p)) h =
    values_last (part_shapes ps) (Some (shape_of p)) ∙ and_from (are_values (part_shapes ps)) true (suit_values ps h) refl
suit_values (phrases.Then ps (phrases.Range a b)) h = absurd h
suit_values (phrases.Then ps (phrases.Strided a b c)) h = absurd h

-- ---- lists of some length

long_dimension : (ss : List (Option Shape)) (a b c d : Option Shape) → has_dimension ((((ss ++ a ∷ []) ++ b ∷ []) ++ c ∷ []) ++ d ∷ []) ≡ true
long_dimension [] a b c d = refl
long_dimension (x ∷ []) a b c d = refl
long_dimension (x ∷ y ∷ []) a b c d = refl
long_dimension (x ∷ y ∷ z ∷ []) a b c d = refl
long_dimension (x ∷ y ∷ z ∷ w ∷ ss) a b c d = refl

long_shape : (ss : List (Option Shape)) (a b c : Option Shape) → has_shape (((ss ++ a ∷ []) ++ b ∷ []) ++ c ∷ []) ≡ true
long_shape [] a b c = refl
long_shape (x ∷ []) a b c = refl
long_shape (x ∷ y ∷ []) a b c = refl
long_shape (x ∷ y ∷ z ∷ ss) a b c = refl

record Last (ps : phrases.ListParts) : Type 0 where
  front : List (Option Shape)
  last : Option Shape
  same : part_shapes ps ≡ front ++ last ∷ []

last_of : (ps : phrases.ListParts) → Last ps
last_of (phrases.One p) = record { front = []; last = part_shape p; same = refl }
last_of (phrases.Then ps p) = record { front = part_shapes ps; last = part_shape p; same = refl }

dimension_long : (ps : phrases.ListParts) (p q r : phrases.ListPart) → has_dimension (part_shapes (phrases.Then (phrases.Then (phrases.Then ps p) q) r)) ≡ true
dimension_long ps p q r =
    let l = last_of ps in
    ap (λ (ss : List (Option Shape)). has_dimension (((ss ++ part_shape p ∷ []) ++ part_shape q ∷ []) ++ part_shape r ∷ [])) l.same
    ∙ long_dimension l.front l.last (part_shape p) (part_shape q) (part_shape r)

shape_long : (ps : phrases.ListParts) (p q : phrases.ListPart) → has_shape (part_shapes (phrases.Then (phrases.Then ps p) q)) ≡ true
shape_long ps p q =
    let l = last_of ps in
    ap (λ (ss : List (Option Shape)). has_shape ((ss ++ part_shape p ∷ []) ++ part_shape q ∷ [])) l.same
    ∙ long_shape l.front l.last (part_shape p) (part_shape q)

-- ---- the second argument of SPREAD, and of RESHAPE

literal_second : (p q r : phrases.ListPart) → is_literal (part_shape q) ≡ true → HasLiteralDimension (phrases.Then (phrases.Then (phrases.One p) q) r)
literal_second p (phrases.Value (phrases.Literal t)) r h = tt
literal_second p (phrases.Value (phrases.Values vs)) r h = absurd (cc)
literal_second p (phrases.Value v) r h = absurd (cc)
literal_second p (phrases.Range a b) r h = absurd (cc)
literal_second p (phrases.Strided a b c) r h = absurd (cc)

second_literal : (p q r : phrases.ListPart) → HasLiteralDimension (phrases.Then (phrases.Then (phrases.One p) q) r) → is_literal (part_shape q) ≡ true
second_literal p (phrases.Value (phrases.Literal t)) r h = refl
second_literal p (phrases.Value (phrases.Values vs)) r h = absurd h
second_literal p (phrases.Value v) r h = absurd h
second_literal p (phrases.Range a b) r h = absurd h
second_literal p (phrases.Strided a b c) r h = absurd h

dimension_suits : (ps : phrases.ListParts) → has_dimension (part_shapes ps) ≡ true → HasLiteralDimension ps
dimension_suits (phrases.One p) h = tt
dimension_suits (phrases.Then (phrases.One p) q) h = tt
dimension_suits (phrases.Then (phrases.Then (phrases.One p) q) r) h = literal_second p q r h
dimension_suits (phrases.Then (phrases.Then (phrases.Then ps p) q) r) h = tt

suit_dimension : (ps : phrases.ListParts) → HasLiteralDimension ps → has_dimension (part_shapes ps) ≡ true
suit_dimension (phrases.One p) h = refl
suit_dimension (phrases.Then (phrases.One p) q) h = refl
suit_dimension (phrases.Then (phrases.Then (phrases.One p) q) r) h = second_literal p q r h
suit_dimension (phrases.Then (phrases.Then (phrases.Then ps p) q) r) h = dimension_long ps p q r

short_second : (p q : phrases.ListPart) → is_short_list (part_shape q) ≡ true → IsShape (phrases.Then (phrases.One p) q)
short_second p (phrases.Value (phrases.Values vs)) h = leb-true (length_of_values vs) 7 h
short_second p (phrases.Value (phrases.Literal t)) h = absurd (cc)
short_second p (phrases.Value v) h = absurd (cc)
short_second p (phrases.Range a b) h = absurd (cc)
short_second p (phrases.Strided a b c) h = absurd (cc)

second_short : (p q : phrases.ListPart) → IsShape (phrases.Then (phrases.One p) q) → is_short_list (part_shape q) ≡ true
second_short p (phrases.Value (phrases.Values vs)) h = le-leb (length_of_values vs) 7 h
second_short p (phrases.Value (phrases.Literal t)) h = absurd h
second_short p (phrases.Value v) h = absurd h
second_short p (phrases.Range a b) h = absurd h
second_short p (phrases.Strided a b c) h = absurd h

shape_suits : (ps : phrases.ListParts) → has_shape (part_shapes ps) ≡ true → IsShape ps
shape_suits (phrases.One p) h = tt
shape_suits (phrases.Then (phrases.One p) q) h = short_second p q h
shape_suits (phrases.Then (phrases.Then ps p) q) h = tt

suit_shape : (ps : phrases.ListParts) → IsShape ps → has_shape (part_shapes ps) ≡ true
suit_shape (phrases.One p) h = refl
suit_shape (phrases.Then (phrases.One p) q) h = second_short p q h
suit_shape (phrases.Then (phrases.Then ps p) q) h = shape_long ps p q

function_suits : (f : Option Intrinsic) (ps : phrases.ListParts) → suits f (part_shapes ps) ≡ true → SuitsFunction f ps
function_suits None ps h = tt
function_suits (Some Spread) ps h =
    let k = and_parts (are_values (part_shapes ps)) (has_dimension (part_shapes ps)) h in (values_suit ps k.0, dimension_suits ps k.1)
function_suits (Some Reshape) ps h =
    let k = and_parts (are_values (part_shapes ps)) (has_shape (part_shapes ps)) h in (values_suit ps k.0, shape_suits ps k.1)
function_suits (Some Transpose) ps h = values_suit ps h
function_suits (Some (Elemental g)) ps h = values_suit ps h
function_suits (Some (Reduction g)) ps h = values_suit ps h

suit_function : (f : Option Intrinsic) (ps : phrases.ListParts) → SuitsFunction f ps → suits f (part_shapes ps) ≡ true
suit_function None ps h = refl
suit_function (Some Spread) ps h = and_from (are_values (part_shapes ps)) (has_dimension (part_shapes ps)) (suit_values ps h.0) (suit_dimension ps h.1)
suit_function (Some Reshape) ps h = and_from (are_values (part_shapes ps)) (has_shape (part_shapes ps)) (suit_values ps h.0) (suit_shape ps h.1)
suit_function (Some Transpose) ps h = suit_values ps h
suit_function (Some (Elemental g)) ps h = suit_values ps h
suit_function (Some (Reduction g)) ps h = suit_values ps h

-- ---- the stack

abbrev pub parts_on : List (Option Shape) → List Entry → List Entry
parts_on [] st = st
parts_on (s ∷ ss) st = parts_on ss (Part s ∷ st)

parts_on-last : (ss : List (Option Shape)) (s : Option Shape) (st : List Entry) → parts_on (ss ++ s ∷ []) st ≡ Part s ∷ parts_on ss st
parts_on-last [] s st = refl
parts_on-last (t ∷ ss) s st = parts_on-last ss s (Part t ∷ st)

parts_taken : (ss taken : List (Option Shape)) (st : List Entry) → parts_above (parts_on ss st) taken ≡ parts_above st (ss ++ taken)
parts_taken [] taken st = refl
parts_taken (s ∷ ss) taken st = parts_taken ss taken (Part s ∷ st)

abbrev values_on : phrases.Phrases90 → List Entry → List Entry
values_on (phrases.Sole p) st = Value (shape_of p) ∷ st
values_on (phrases.More ps p) st = Value (shape_of p) ∷ values_on ps st

values_counted : (ps : phrases.Phrases90) (st : List Entry) (n : ℕ) → count_above (values_on ps st) n ≡ count_above st (n + length_of_values ps)
values_counted (phrases.Sole p) st n = refl
values_counted (phrases.More ps p) st n = values_counted ps st (n + 1) ∙ ap (count_above st) (omega arith)

-- two conditions, one within the other
both : {A : Type 0} (a b : Bool) (x : Option A) → cond a (cond b x None) None ≡ cond (a && b) x None
both true b x = refl
both false b x = refl

within : {A : Type 0} (a : Bool) (x y : Option A) → x ≡ y → cond a x None ≡ cond a y None
within a x y e = ap (λ (o : Option _). cond a o None) e

module _ (f : List ℕ → Option Intrinsic) where
  abbrev mutual
    pub good : Phrase90 → Bool
    good (phrases.Literal t) = true
    good (phrases.Truth b) = true
    good (phrases.Name x) = true
    good (phrases.Listed x ps) = good_parts ps && suits (f x) (part_shapes ps)
    good (phrases.Paren p) = good p
    good (phrases.Signed s p) = good p
    good (phrases.Joined o a b) = good a && good b
    good (phrases.Values ps) = good_values ps
    good (phrases.Looped t) = good_turn t

    good_part : phrases.ListPart → Bool
    good_part (phrases.Value p) = good p
    good_part (phrases.Range a b) = good a && good b
    good_part (phrases.Strided a b c) = good a && (good b && good c)

    pub good_parts : phrases.ListParts → Bool
    good_parts (phrases.One p) = good_part p
    good_parts (phrases.Then ps p) = good_parts ps && good_part p

    good_values : phrases.Phrases90 → Bool
    good_values (phrases.Sole p) = good p
    good_values (phrases.More ps p) = good_values ps && good p

    good_turn : phrases.Turn → Bool
    good_turn (phrases.Innermost p x a b) = good p && (good a && good b)
    good_turn (phrases.Round t x a b) = good_turn t && (good a && good b)

  grouped : (a b r : List Node) (st : List Entry) → check_all f ((a ++ b) ++ r) st ≡ check_all f (a ++ (b ++ r)) st
  grouped a b r st = ap (λ (q : List Node). check_all f q st) (append_assoc a b r)

  ends_by : (b : Bool) (r : List Node) (st : List Entry)
      → checked_on f (cond b (Some (Value Other ∷ st)) None) (check_all f r) ≡ cond b (check_all f r (Value Other ∷ st)) None
  ends_by true r st = refl
  ends_by false r st = refl

  ends_list : (x : List ℕ) (ss : List (Option Shape)) (r : List Node) (st : List Entry)
      → check_all f (flats.Listed x ∷ r) (parts_on ss (Mark ∷ st)) ≡ cond (suits (f x) ss) (check_all f r (Value Other ∷ st)) None
  ends_list x ss r st =
      ap (λ (o : Option Parts). checked_on f (listed (f x) o) (check_all f r)) (parts_taken ss [] (Mark ∷ st))
      ∙ (ap (λ (q : List (Option Shape)). checked_on f (cond (suits (f x) q) (Some (Value Other ∷ st)) None) (check_all f r)) (append-nil ss)
      ∙ ends_by (suits (f x) ss) r st)

  ends_values : (ps : phrases.Phrases90) (r : List Node) (st : List Entry)
      → check_all f (flats.Values ∷ r) (values_on ps (Mark ∷ st)) ≡ check_all f r (Value (Listing (length_of_values ps)) ∷ st)
  ends_values ps r st =
      ap (λ (o : Option Count). checked_on f (counted o) (check_all f r)) (values_counted ps (Mark ∷ st) 0)
      ∙ ap (λ (n : ℕ). check_all f r (Value (Listing n) ∷ st)) (omega arith)

  abbrev IsTold : Phrase90 → Type 0
  IsTold p = (r : List Node) (st : List Entry) → check_all f (flat p ++ r) st ≡ cond (good p) (check_all f r (Value (shape_of p) ∷ st)) None

  -- two phrases one after the other, and what follows them
  tells_two : (a b : Phrase90) (n : Node) (r : List Node) (st : List Entry) → IsTold a → IsTold b
      → check_all f ((flat a ++ (flat b ++ n ∷ [])) ++ r) st
      ≡ cond (good a && good b) (check_all f (n ∷ r) (Value (shape_of b) ∷ (Value (shape_of a) ∷ st))) None
  tells_two a b n r st h k =
      grouped (flat a) (flat b ++ n ∷ []) r st
      ∙ (h ((flat b ++ n ∷ []) ++ r) st
      ∙ (within (good a) _ _ (grouped (flat b) (n ∷ []) r (Value (shape_of a) ∷ st) ∙ k (n ∷ r) (Value (shape_of a) ∷ st))
      ∙ both (good a) (good b) _))

  mutual
    tells : (p : Phrase90) (r : List Node) (st : List Entry) → check_all f (flat p ++ r) st ≡ cond (good p) (check_all f r (Value (shape_of p) ∷ st)) None
    tells (phrases.Literal t) r st = refl
    tells (phrases.Truth b) r st = refl
    tells (phrases.Name x) r st = refl
    tells (phrases.Listed x ps) r st =
        grouped (flat_parts ps) (flats.Listed x ∷ []) r (Mark ∷ st)
        ∙ (tells_parts ps (flats.Listed x ∷ r) (Mark ∷ st)
        ∙ (within (good_parts ps) _ _ (ends_list x (part_shapes ps) r st) ∙ both (good_parts ps) (suits (f x) (part_shapes ps)) _))
    tells (phrases.Paren p) r st = grouped (flat p) (flats.Parenthesis ∷ []) r st ∙ tells p (flats.Parenthesis ∷ r) st
    tells (phrases.Signed s p) r st = grouped (flat p) (flats.Prefix s ∷ []) r st ∙ tells p (flats.Prefix s ∷ r) st
    tells (phrases.Joined o a b) r st = tells_two a b (flats.Infix o) r st (λ q us. tells a q us) (λ q us. tells b q us)
    tells (phrases.Values ps) r st =
        grouped (flat_values ps) (flats.Values ∷ []) r (Mark ∷ st)
        ∙ (tells_values ps (flats.Values ∷ r) (Mark ∷ st) ∙ within (good_values ps) _ _ (ends_values ps r st))
    tells (phrases.Looped t) r st = grouped (flat_turn t) (flats.Looped ∷ []) r (Mark ∷ st) ∙ tells_turn t (flats.Looped ∷ r) (Mark ∷ st)

    tells_part : (p : phrases.ListPart) (r : List Node) (st : List Entry) → check_all f (flat_part p ++ r) st ≡ cond (good_part p) (check_all f r (Part (part_shape p) ∷ st)) None
    tells_part (phrases.Value p) r st = grouped (flat p) (flats.One ∷ []) r st ∙ tells p (flats.One ∷ r) st
    tells_part (phrases.Range a b) r st = tells_two a b flats.Bounds r st (λ q us. tells a q us) (λ q us. tells b q us)
    tells_part (phrases.Strided a b c) r st =
        grouped (flat a) (flat b ++ (flat c ++ flats.Stride ∷ [])) r st
        ∙ (tells a ((flat b ++ (flat c ++ flats.Stride ∷ [])) ++ r) st
        ∙ (within (good a) _ _ (tells_two b c flats.Stride r (Value (shape_of a) ∷ st) (λ q us. tells b q us) (λ q us. tells c q us)) ∙ both (good a) (good b && good c) _))

    tells_parts : (ps : phrases.ListParts) (r : List Node) (st : List Entry) → check_all f (flat_parts ps ++ r) st ≡ cond (good_parts ps) (check_all f r (parts_on (part_shapes ps) st)) None
    tells_parts (phrases.One p) r st = tells_part p r st
    tells_parts (phrases.Then ps p) r st =
        grouped (flat_parts ps) (flat_part p) r st
        ∙ (tells_parts ps (flat_part p ++ r) st
        ∙ (within (good_parts ps) _ _ (tells_part p r (parts_on (part_shapes ps) st)
        ∙ within (good_part p) _ _ (ap (check_all f r) (sym (parts_on-last (part_shapes ps) (part_shape p) st))))
        ∙ both (good_parts ps) (good_part p) _))

    tells_values : (ps : phrases.Phrases90) (r : List Node) (st : List Entry) → check_all f (flat_values ps ++ r) st ≡ cond (good_values ps) (check_all f r (values_on ps st)) None
    tells_values (phrases.Sole p) r st = tells p r st
    tells_values (phrases.More ps p) r st =
        grouped (flat_values ps) (flat p) r st
        ∙ (tells_values ps (flat p ++ r) st ∙ (within (good_values ps) _ _ (tells p r (values_on ps st)) ∙ both (good_values ps) (good p) _))

    tells_turn : (t : phrases.Turn) (r : List Node) (st : List Entry) → check_all f (flat_turn t ++ r) st ≡ cond (good_turn t) (check_all f r (Turn ∷ st)) None
    tells_turn (phrases.Innermost p x a b) r st =
        grouped (flat p) (flat a ++ (flat b ++ flats.Inner x ∷ [])) r st
        ∙ (tells p ((flat a ++ (flat b ++ flats.Inner x ∷ [])) ++ r) st
        ∙ (within (good p) _ _ (tells_two a b (flats.Inner x) r (Value (shape_of p) ∷ st) (λ q us. tells a q us) (λ q us. tells b q us)) ∙ both (good p) (good a && good b) _))
    tells_turn (phrases.Round t x a b) r st =
        grouped (flat_turn t) (flat a ++ (flat b ++ flats.Outer x ∷ [])) r st
        ∙ (tells_turn t ((flat a ++ (flat b ++ flats.Outer x ∷ [])) ++ r) st
        ∙ (within (good_turn t) _ _ (tells_two a b (flats.Outer x) r (Turn ∷ st) (λ q us. tells a q us) (λ q us. tells b q us)) ∙ both (good_turn t) (good a && good b) _))

  -- ---- which calls suit

  mutual
    pub suit : (p : Phrase90) → good p ≡ true → SuitsCalls f p
    suit (phrases.Literal t) h = tt
    suit (phrases.Truth b) h = tt
    suit (phrases.Name x) h = tt
    suit (phrases.Listed x ps) h =
        let k = and_parts (good_parts ps) (suits (f x) (part_shapes ps)) h in (function_suits (f x) ps k.1, suit_parts ps k.0)
    suit (phrases.Paren p) h = suit p h
    suit (phrases.Signed s p) h = suit p h
    suit (phrases.Joined o a b) h = let k = and_parts (good a) (good b) h in (suit a k.0, suit b k.1)
    suit (phrases.Values ps) h = suit_all ps h
    suit (phrases.Looped t) h = suit_turn t h

    suit_part : (p : phrases.ListPart) → good_part p ≡ true → PartSuitsCalls f p
    suit_part (phrases.Value p) h = suit p h
    suit_part (phrases.Range a b) h = let k = and_parts (good a) (good b) h in (suit a k.0, suit b k.1)
    suit_part (phrases.Strided a b c) h =
        let k = and_parts (good a) (good b && good c) h in
        let m = and_parts (good b) (good c) k.1 in (suit a k.0, suit b m.0, suit c m.1)

    pub suit_parts : (ps : phrases.ListParts) → good_parts ps ≡ true → PartsSuitCalls f ps
    suit_parts (phrases.One p) h = suit_part p h
    suit_parts (phrases.Then ps p) h = let k = and_parts (good_parts ps) (good_part p) h in (suit_parts ps k.0, suit_part p k.1)

    suit_all : (ps : phrases.Phrases90) → good_values ps ≡ true → ValuesSuitCalls f ps
    suit_all (phrases.Sole p) h = suit p h
    suit_all (phrases.More ps p) h = let k = and_parts (good_values ps) (good p) h in (suit_all ps k.0, suit p k.1)

    suit_turn : (t : phrases.Turn) → good_turn t ≡ true → TurnSuitsCalls f t
    suit_turn (phrases.Innermost p x a b) h =
        let k = and_parts (good p) (good a && good b) h in
        let m = and_parts (good a) (good b) k.1 in (suit p k.0, suit a m.0, suit b m.1)
    suit_turn (phrases.Round t x a b) h =
        let k = and_parts (good_turn t) (good a && good b) h in
        let m = and_parts (good a) (good b) k.1 in (suit_turn t k.0, suit a m.0, suit b m.1)

  mutual
    pub is_good : (p : Phrase90) → SuitsCalls f p → good p ≡ true
    is_good (phrases.Literal t) h = refl
    is_good (phrases.Truth b) h = refl
    is_good (phrases.Name x) h = refl
    is_good (phrases.Listed x ps) h = and_from (good_parts ps) (suits (f x) (part_shapes ps)) (are_good ps h.1) (suit_function (f x) ps h.0)
    is_good (phrases.Paren p) h = is_good p h
    is_good (phrases.Signed s p) h = is_good p h
    is_good (phrases.Joined o a b) h = and_from (good a) (good b) (is_good a h.0) (is_good b h.1)
    is_good (phrases.Values ps) h = all_good ps h
    is_good (phrases.Looped t) h = turn_good t h

    part_good : (p : phrases.ListPart) → PartSuitsCalls f p → good_part p ≡ true
    part_good (phrases.Value p) h = is_good p h
    part_good (phrases.Range a b) h = and_from (good a) (good b) (is_good a h.0) (is_good b h.1)
    part_good (phrases.Strided a b c) h =
        and_from (good a) (good b && good c) (is_good a h.0) (and_from (good b) (good c) (is_good b h.1) (is_good c h.2))

    pub are_good : (ps : phrases.ListParts) → PartsSuitCalls f ps → good_parts ps ≡ true
    are_good (phrases.One p) h = part_good p h
    are_good (phrases.Then ps p) h = and_from (good_parts ps) (good_part p) (are_good ps h.0) (part_good p h.1)

    all_good : (ps : phrases.Phrases90) → ValuesSuitCalls f ps → good_values ps ≡ true
    all_good (phrases.Sole p) h = is_good p h
    all_good (phrases.More ps p) h = and_from (good_values ps) (good p) (all_good ps h.0) (is_good p h.1)

    turn_good : (t : phrases.Turn) → TurnSuitsCalls f t → good_turn t ≡ true
    turn_good (phrases.Innermost p x a b) h =
        and_from (good p) (good a && good b) (is_good p h.0) (and_from (good a) (good b) (is_good a h.1) (is_good b h.2))
    turn_good (phrases.Round t x a b) h =
        and_from (good_turn t) (good a && good b) (turn_good t h.0) (and_from (good a) (good b) (is_good a h.1) (is_good b h.2))

  pub told : (p : Phrase90) → check_all f (flat p) [] ≡ cond (good p) (Some (Value (shape_of p) ∷ [])) None
  told p = ap (λ (q : List Node). check_all f q []) (sym (append-nil (flat p))) ∙ tells p [] []

  unsuited : (b : Bool) (p : Phrase90) → good p ≡ b → (SuitsCalls f p → ⊥) → good p ≡ false
  unsuited true p e n = absurd (n (suit p e))
  unsuited false p e n = e

pub list_tells : ListTellsCalls
list_tells f p = record {
  suit = λ h. told f p ∙ cond-true (good f p) (Some (Value (shape_of p) ∷ [])) None (is_good f p h);
  others = λ n. told f p ∙ cond-false (good f p) (Some (Value (shape_of p) ∷ [])) None (unsuited f (good f p) p refl n);
}

pub parts_told : (f : List ℕ → Option Intrinsic) (ps : phrases.ListParts)
    → check_all f (flats.Begin ∷ flat_parts ps) [] ≡ cond (good_parts f ps) (Some (parts_on (part_shapes ps) (Mark ∷ []))) None
parts_told f ps = ap (λ (q : List Node). check_all f q (Mark ∷ [])) (sym (append-nil (flat_parts ps))) ∙ tells_parts f ps [] (Mark ∷ [])
