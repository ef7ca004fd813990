-- The parts of a straight nest, with how the forms of its loops were made.
use mathlib.Core.Path.{ap₂}
use Rattle.std.proofs.Common.{◌≡◌, refl, sym, ap, ◌∙◌, ℕ, zero, suc, ◌+◌, ◌<◌, ℤ, pos, negsuc, neg_ℤ, Bool, true, false}
use Rattle.std.proofs.Common.{cond, ◌&&◌, not, List, [], ◌∷◌, ◌++◌, map, length, Option, Some, None, arith}
use Rattle.std.specs.Prelude.{is_some, nat_abs, nat_lt}
use Rattle.std.specs.List.{All}
use Rattle.std.proofs.lemmas.Bool.Decides.{Decides-ltb}
use Rattle.std.proofs.lemmas.List.{map-append}
use Rattle.std.proofs.lemmas.List.Elements.{All-head, All-tail}
use Rattle.tree.specs.Plain.{Expression}
use Rattle.last_values.specs.declared.behind.NestedLoop.{NestedLoop}
use Rattle.linear_forms.specs.Linear.{Form, form_of, is_small}
use Rattle.linear_forms.proofs.Sizes.{both}
use Rattle.normal_loops.specs.Loops.{nested, nested_in_parts, nested_loops, with_loop}
use Rattle.normal_loops.specs.Normal.{are_normal, is_normal}
use Rattle.nest_order.specs.orders.Lists.{Each}
use Rattle.nest.specs.Bodies.{Standing, statements_in, statements_in_parts}
use Rattle.nest.specs.Plain.{Loop, Part, Run, Turns, Choice, Label, Jump, Parts, no_parts, part}
use Rattle.nest.specs.declared.parts.Trip.{Trip}
use Rattle.last_values.specs.normal_forms.Combinations.{affine_of, combination, times}
use Rattle.last_values.specs.normal_forms.NormalLoops.{bound_form, forms_by_first, forms_by_trip, forms_of, is_suitable, is_zero}
use Rattle.last_values.specs.normal_forms.NormalLoops.{loop_form, normal_loop, plus_multiple, plus_number, sign_of, trip_by}
use Rattle.last_values.specs.normal_forms.NormalLoops.{trip_form, trip_of, variables_of, with_counters, with_forms}
use Rattle.last_values.specs.normal_forms.Steps.{◌>>=◌}
use Rattle.last_values.specs.declared.normal_forms.combinations.Multiple.{Multiple}
use Rattle.last_values.specs.declared.normal_forms.loops.NormalLoop.{NormalLoop}
use Rattle.pass_laws.specs.normal_runs.Sources.{AreStraight, IsStraight}
use Rattle.nest.specs.statement_loops.Names.{is_among}
use Rattle.subscripts.specs.declared.affine.Affine.{Affine}
use Rattle.pass_laws.proofs.LastRuns.Pieces.{Piece, Pieces, assignment, turning, none, next, IsLoop, IsMade}

-- ---- steps that have a result

record Step {A B : Type 0} (o : Option A) (f : A → Option B) (y : B) : Type 0 where
  result : A
  is : o ≡ Some result
  then : f result ≡ Some y

step : {A B : Type 0} (o : Option A) (f : A → Option B) (y : B) → (o >>= f) ≡ Some y → Step o f y
step None f y h = cc
step (Some x) f y h = record { result = x; is = refl; then = h }

same_some : {A : Type 0} (x y : A) → ◌≡◌ {A = Option A} (Some x) (Some y) → x ≡ y
same_some x y h = cc

-- what is known of a loop's form from 1 by 1
record IsNormal (symbols : List (List ℕ)) (round : List NormalLoop) (l : Loop) (r : NormalLoop) : Type 0 where
  deep : length round < 7
  made : IsMade (length symbols) r
  variable : r.variable ≡ l.variable
  step : r.step ≡ l.step
  lower : Form
  lower_is : form_of (variables_of round) symbols l.first ≡ Some lower
  upper : Form
  upper_is : form_of (variables_of round) symbols l.last ≡ Some upper

record HasBound (symbols : List (List ℕ)) (round : List NormalLoop) (e : Expression) (a : Affine) : Type 0 where
  form : Form
  form_is : form_of (variables_of round) symbols e ≡ Some form
  terms : List Multiple
  sum : combination (length symbols) terms ≡ Some a

module _ (symbols : List (List ℕ)) (round : List NormalLoop) (l : Loop) where
  abbrev n : ℕ
  n = length symbols

  has_bound : (e : Expression) (more : List Multiple) (a : Affine) → bound_form symbols round e more ≡ Some a → HasBound symbols round e a
  unfolding bound_form
  has_bound e more a h =
      let s = step (form_of (variables_of round) symbols e) (λ f. combination n (with_counters round (affine_of (length round) f) ++ more)) a h in
      record { form = s.result; form_is = s.is; terms = with_counters round (affine_of (length round) s.result) ++ more; sum = s.then }

  abbrev after_end : Affine → Affine → Affine → Trip → Affine → Option NormalLoop
  after_end first below value trip end = Some (with_forms l first below value trip end)

  abbrev after_trip : Affine → Affine → Affine → Trip → Option NormalLoop
  after_trip first below value trip = plus_multiple (n + 1) first l.step (trip_form n trip) >>= after_end first below value trip

  abbrev after_top : Affine → Affine → Affine → Affine → Option NormalLoop
  after_top first below value top = trip_by n l.step top >>= after_trip first below value

  abbrev after_value : Affine → Affine → Affine → Option NormalLoop
  after_value first below value = bound_form symbols round l.last (times (negsuc 0) below ∷ []) >>= after_top first below value

  abbrev after_below : Affine → Affine → Option NormalLoop
  after_below first below = plus_multiple n below l.step (loop_form (length round)) >>= after_value first below

  abbrev after_first : Affine → Option NormalLoop
  after_first first = plus_number n first (neg_ℤ l.step) >>= after_below first

  abbrev from_first : Option NormalLoop
  from_first = bound_form symbols round l.first [] >>= after_first

  positive_size : (z : ℤ) → is_zero z ≡ false → 0 < nat_abs z
  positive_size (pos zero) h = cc
  positive_size (pos (suc k)) h = omega arith
  positive_size (negsuc k) h = omega arith

  made_of : (r : NormalLoop) → is_zero l.step ≡ false → length round < 7 → from_first ≡ Some r → IsNormal symbols round l r
  made_of r some deep h =
      let s1 = step (bound_form symbols round l.first []) after_first r h in
      let s2 = step (plus_number n s1.result (neg_ℤ l.step)) (after_below s1.result) r s1.then in
      let s3 = step (plus_multiple n s2.result l.step (loop_form (length round))) (after_value s1.result s2.result) r s2.then in
      let s4 = step (bound_form symbols round l.last (times (negsuc 0) s2.result ∷ [])) (after_top s1.result s2.result s3.result) r s3.then in
      let s5 = step (trip_by n l.step s4.result) (after_trip s1.result s2.result s3.result) r s4.then in
      let s6 = step (plus_multiple (n + 1) s1.result l.step (trip_form n s5.result)) (after_end s1.result s2.result s3.result s5.result) r s5.then in
      let s7 = step (combination n (times (sign_of l.step) s4.result ∷ [])) (λ top. Some (trip_of top (pos (nat_abs l.step)))) s5.result s5.is in
      let is : NormalLoop = with_forms l s1.result s2.result s3.result s5.result s6.result in
      let same : is ≡ r = same_some is r s6.then in
      let b1 = has_bound l.first [] s1.result s1.is in
      let b2 = has_bound l.last (times (negsuc 0) s2.result ∷ []) s4.result s4.is in
      record {
        deep = deep;
        made = record {
          first_terms = b1.terms;
          first = b1.sum ∙ ap (λ (q : NormalLoop). Some q.first) same;
          top = s7.result;
          top_terms = times (sign_of l.step) s4.result ∷ [];
          top_is = s7.is;
          divisor = nat_abs l.step;
          trip = ap (λ (q : NormalLoop). q.trip) (sym same) ∙ sym (same_some (trip_of s7.result (pos (nat_abs l.step))) s5.result s7.then);
          positive = positive_size l.step some;
        };
        variable = ap (λ (q : NormalLoop). q.variable) (sym same);
        step = ap (λ (q : NormalLoop). q.step) (sym same);
        lower = b1.form;
        lower_is = b1.form_is;
        upper = b2.form;
        upper_is = b2.form_is;
      }

  not_false : (b : Bool) → not b ≡ true → b ≡ false
  not_false true h = cc
  not_false false h = refl

  normal_is : (r : NormalLoop) → normal_loop symbols round l ≡ Some r → IsNormal symbols round l r
  unfolding normal_loop forms_of forms_by_first forms_by_trip
  normal_is r h = by (is_suitable l.step round) refl h
    where
      by : (b : Bool) → is_suitable l.step round ≡ b → cond b from_first None ≡ Some r → IsNormal symbols round l r
      by true e k =
          let p = both (not (is_zero l.step)) (is_small l.step && nat_lt (length round) 7) e in
          let q = both (is_small l.step) (nat_lt (length round) 7) p.1 in
          made_of r (not_false (is_zero l.step) p.0) ((Decides-ltb (length round) 7).0 q.1) k
      by false e k = let no : ⊥ = cc in absurd no

-- ---- parts

-- the variables of loops
abbrev pub names_of : List Loop → List (List ℕ)
names_of ls = map (λ (l : Loop). l.variable) ls

-- one loop more round, in the nest and in its normal form
same_more : (round : List NormalLoop) (ls : List Loop) (r : NormalLoop) (l : Loop) → r.variable ≡ l.variable → variables_of round ≡ names_of ls → variables_of (round ++ r ∷ []) ≡ names_of (ls ++ l ∷ [])
same_more round ls r l e h =
    map-append (λ (q : NormalLoop). q.variable) round (r ∷ []) ∙ (ap₂ (λ ys y. ys ++ y ∷ []) h e ∙ sym (map-append (λ (k : Loop). k.variable) ls (l ∷ [])))

pub each_of_all : {X : Type 0} (P : X → Type 0) (xs : List X) → All P xs → Each P xs
each_of_all P [] h = tt
each_of_all P (x ∷ xs) h = (All-head P x xs h, each_of_all P xs (All-tail P x xs h))

pub each_front : {X : Type 0} (P : X → Type 0) (xs ys : List X) → Each P (xs ++ ys) → Each P xs
each_front P [] ys h = tt
each_front P (x ∷ xs) ys h = (h.0, each_front P xs ys h.1)

pub each_rest : {X : Type 0} (P : X → Type 0) (xs ys : List X) → Each P (xs ++ ys) → Each P ys
each_rest P [] ys h = h
each_rest P (x ∷ xs) ys h = each_rest P xs ys h.1

module _ (keeps : List ℕ → Bool) where
  -- what is asked of the statements, which store in no variable of a loop round them
  pub record IsOutside (s : Standing) : Type 0 where
    pub kept : keeps s.statement.left.name ≡ false
    pub free : is_among (names_of s.loops) s.statement.left.name ≡ false

module _ (symbols : List (List ℕ)) where
  -- and of the loops
  pub record IsOwn (m : NestedLoop) : Type 0 where
    pub own : is_among (variables_of m.round) m.turns.variable ≡ false
    pub apart : is_among symbols m.turns.variable ≡ false

  loop_is : (round : List NormalLoop) (l : Loop) (r : NormalLoop) → normal_loop symbols round l ≡ Some r → IsOwn (record { round = round; turns = r }) → IsLoop symbols round l r
  loop_is round l r h o =
      let m = normal_is symbols round l r h in
      record {
        is = h;
        deep = m.deep;
        made = m.made;
        variable = m.variable;
        step = m.step;
        lower = m.lower;
        lower_is = m.lower_is;
        upper = m.upper;
        upper_is = m.upper_is;
        own = ap (is_among (variables_of round)) (sym m.variable) ∙ o.own;
        apart = ap (is_among symbols) (sym m.variable) ∙ o.apart;
      }

module _ (symbols : List (List ℕ)) (keeps : List ℕ → Bool) where
  mutual
    pub piece_of : (round : List NormalLoop) (ls : List Loop) (p : Part) → variables_of round ≡ names_of ls → is_normal symbols round p ≡ true → IsStraight p → Each (IsOutside keeps) (statements_in ls p)
        → Each (IsOwn symbols) (nested_loops symbols round p) → Piece symbols keeps round p
    piece_of round ls (Run g) same n s k o = assignment s.unguarded k.0.kept (ap (λ ys. is_among ys g.left.name) same ∙ k.0.free)
    piece_of round ls (Turns l ps) same n s k o =
        by (λ r e n o. pieces_of (round ++ r ∷ []) (ls ++ l ∷ []) ps (same_more round ls r l e same) n s k o) (normal_loop symbols round l) refl n o
      where
        by : ((r : NormalLoop) → r.variable ≡ l.variable → are_normal symbols (round ++ r ∷ []) ps ≡ true → Each (IsOwn symbols) (nested_in_parts symbols (round ++ r ∷ []) ps) → Pieces symbols keeps (round ++ r ∷ []) ps)
            → (q : Option NormalLoop) → normal_loop symbols round l ≡ q → (is_some q && are_normal symbols (with_loop round q) ps) ≡ true
            → Each (IsOwn symbols) (nested round q ++ nested_in_parts symbols (with_loop round q) ps) → Piece symbols keeps round (Turns l ps)
        by more None e n o = let no : ⊥ = cc in absurd no
        by more (Some r) e n o = let h = loop_is symbols round l r e o.0 in turning r h (more r h.variable n o.1)
    piece_of round ls (Choice bs ps) same n s k o = absurd s
    piece_of round ls (Label j) same n s k o = absurd s
    piece_of round ls (Jump j) same n s k o = absurd s

    pub pieces_of : (round : List NormalLoop) (ls : List Loop) (ps : Parts) → variables_of round ≡ names_of ls → are_normal symbols round ps ≡ true → AreStraight ps → Each (IsOutside keeps) (statements_in_parts ls ps)
        → Each (IsOwn symbols) (nested_in_parts symbols round ps) → Pieces symbols keeps round ps
    pieces_of round ls no_parts same n s k o = none
    pieces_of round ls (part p ps) same n s k o =
        let q = both (is_normal symbols round p) (are_normal symbols round ps) n in
        next (piece_of round ls p same q.0 s.0 (each_front (IsOutside keeps) (statements_in ls p) (statements_in_parts ls ps) k) (each_front (IsOwn symbols) (nested_loops symbols round p) (nested_in_parts symbols round ps) o))
        (pieces_of round ls ps same q.1 s.1 (each_rest (IsOutside keeps) (statements_in ls p) (statements_in_parts ls ps) k) (each_rest (IsOwn symbols) (nested_loops symbols round p) (nested_in_parts symbols round ps) o))
