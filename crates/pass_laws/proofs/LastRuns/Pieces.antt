-- Straight parts of a nest with the forms of their loops, and what a loop variable is after them.
use Rattle.std.proofs.Common.{◌≡◌, refl, sym, ap, ◌∙◌, ◌⊎◌, inl, inr, ℕ, zero, suc, ◌≤◌, ◌<◌, ℤ, pos, ◌+ℤ◌, ◌*ℤ◌}
use Rattle.std.proofs.Common.{Bool, true, false, cond, ◌&&◌, ◌||◌, List, [], ◌∷◌, ◌++◌, drop, get_or, length, Option}
use Rattle.std.proofs.Common.{Some, None, arith}
use Rattle.std.specs.Prelude.{◌==◌, int_div}
use Rattle.std.specs.List.{list_all}
use Rattle.std.specs.Str.{bytes_eq}
use Rattle.std.proofs.lemmas.Bool.Decides.{Decides-int_eq}
use Rattle.tree.specs.declared.ops.Value.{Value}
use Rattle.tree.specs.declared.ops.Value.TheVariants.{Int}
use Rattle.meaning.specs.Value.{is_in_range}
use Rattle.rewrite.proofs.Replacing.{bytes_eq-false}
use Rattle.linear_forms.specs.Linear.{Form, form_of}
use Rattle.linear_forms.proofs.Sizes.{both}
use Rattle.nest.specs.Plain.{Guarded, Loop, Part, Run, Turns, Parts, no_parts, part}
use Rattle.nest_order.proofs.runs.Ending.{turns_to}
use Rattle.nest_order.proofs.runs.Results.{true_false}
use Rattle.last_values.specs.normal_forms.Combinations.{coefficient_in, combination}
use Rattle.last_values.specs.normal_forms.LastValues.{has_plain_trip}
use Rattle.last_values.specs.normal_forms.NormalLoops.{is_zero, normal_loop, trip_of, variables_of}
use Rattle.last_values.specs.normal_forms.Numbers.{number_of_form, products, trip_number}
use Rattle.last_values.proofs.NormalForms.Numbers.{products-alike, products-zero}
use Rattle.last_values.specs.declared.normal_forms.combinations.Multiple.{Multiple}
use Rattle.last_values.specs.declared.normal_forms.loops.NormalLoop.{NormalLoop}
use Rattle.nest.specs.statement_loops.Names.{is_among}
use Rattle.subscripts.specs.declared.affine.Affine.{Affine}

-- ---- iterations

-- the loop at place d is in this iteration
abbrev pub with_iteration : ℕ → ℤ → (ℕ → ℤ) → ℕ → ℤ
with_iteration d i at k = cond (k == d) i (at k)

abbrev pub none_yet : ℕ → ℤ
none_yet k = pos 0

-- the same in the loops before place d
abbrev pub Agree : ℕ → (ℕ → ℤ) → (ℕ → ℤ) → Type 0
Agree d at its = (k : ℕ) → k < d → its k ≡ at k

abbrev pub has_turn : ℕ → Bool
has_turn zero = false
has_turn (suc k) = true

abbrev pub if_so : Bool → Option ℤ → Option ℤ
if_so true o = o
if_so false o = None

-- the later one where there is one
abbrev pub or_before : Option ℤ → Option ℤ → Option ℤ
or_before (Some z) o = Some z
or_before None o = o

abbrev pub value_or : Option ℤ → Value → Value
value_or (Some z) v = Int z
value_or None v = v

-- ---- loops

-- how the forms of a loop were made
pub record IsMade (n : ℕ) (r : NormalLoop) : Type 0 where
  pub first_terms : List Multiple
  pub first : combination n first_terms ≡ Some r.first
  pub top : Affine
  pub top_terms : List Multiple
  pub top_is : combination n top_terms ≡ Some top
  pub divisor : ℕ
  pub trip : r.trip ≡ trip_of top (pos divisor)
  pub positive : 0 < divisor

module _ (symbols : List (List ℕ)) where
  pub record IsLoop (round : List NormalLoop) (l : Loop) (r : NormalLoop) : Type 0 where
    pub is : normal_loop symbols round l ≡ Some r
    pub deep : length round < 7
    pub made : IsMade (length symbols) r
    pub variable : r.variable ≡ l.variable
    pub step : r.step ≡ l.step
    pub lower : Form
    pub lower_is : form_of (variables_of round) symbols l.first ≡ Some lower
    pub upper : Form
    pub upper_is : form_of (variables_of round) symbols l.last ≡ Some upper
    pub own : is_among (variables_of round) l.variable ≡ false
    pub apart : is_among symbols l.variable ≡ false

module _ (symbols : List (List ℕ)) (keeps : List ℕ → Bool) where
  mutual
    pub data Piece : List NormalLoop → Part → Type 0 where
      assignment : {round : List NormalLoop} {g : Guarded} → g.guard ≡ None → keeps g.left.name ≡ false → is_among (variables_of round) g.left.name ≡ false → Piece round (Run g)
      turning : {round : List NormalLoop} {l : Loop} {ps : Parts} → (r : NormalLoop) → IsLoop symbols round l r → Pieces (round ++ r ∷ []) ps → Piece round (Turns l ps)

    pub data Pieces : List NormalLoop → Parts → Type 0 where
      none : {round : List NormalLoop} → Pieces round no_parts
      next : {round : List NormalLoop} {p : Part} {ps : Parts} → Piece round p → Pieces round ps → Pieces round (part p ps)

-- ---- numbers

module _ (n : ℕ) (values : ℕ → ℤ) where
  abbrev pub Number : (ℕ → ℤ) → Affine → ℤ
  Number at a = number_of_form n at values a

  abbrev pub top : (ℕ → ℤ) → NormalLoop → ℤ
  top at r = trip_number n at values r.trip

  abbrev pub count : (ℕ → ℤ) → NormalLoop → ℕ
  count at r = turns_to (top at r)

  -- behind the last turn
  abbrev pub end : (ℕ → ℤ) → NormalLoop → ℤ
  end at r = Number at r.first +ℤ r.step *ℤ pos (count at r)

  -- in its last turn
  abbrev pub in_last : ℕ → (ℕ → ℤ) → NormalLoop → ℕ → ℤ
  in_last d at r = with_iteration d (pos (count at r)) at

module _ (symbols : List (List ℕ)) (keeps : List ℕ → Bool) (values : ℕ → ℤ) where
  abbrev n : ℕ
  n = length symbols

  -- what the variable x is after it, where it is set
  module _ (x : List ℕ) where
    abbrev pub set_by : (ℕ → ℤ) → NormalLoop → Option ℤ
    set_by at r = cond (bytes_eq r.variable x) (Some (end n values at r)) None

    abbrev mutual
      pub after : {round : List NormalLoop} {p : Part} → Piece symbols keeps round p → (ℕ → ℤ) → Option ℤ
      after (assignment u f free) at = None
      after (turning {round} r h more) at = or_before (if_so (has_turn (count n values at r)) (after_all more (in_last n values (length round) at r))) (set_by at r)

      pub after_all : {round : List NormalLoop} {ps : Parts} → Pieces symbols keeps round ps → (ℕ → ℤ) → Option ℤ
      after_all none at = None
      after_all (next e more) at = or_before (after_all more at) (after e at)

  -- what a run has shown of a loop
  pub record IsRun (bits : ℕ) (bounds : List ℕ → Option (List (ℤ × ℤ))) (at : ℕ → ℤ) (r : NormalLoop) : Type 0 where
    pub few : count n values at r ≤ 2147483646
    pub first : is_in_range bits (Int (Number n values at r.first)) ≡ true
    pub end : is_in_range bits (Int (end n values at r)) ≡ true
    pub scalar : bounds r.variable ≡ Some []

  module _ (bits : ℕ) (bounds : List ℕ → Option (List (ℤ × ℤ))) where
    -- of each loop that is executed in the last turns of those round it
    abbrev mutual
      pub Ran : {round : List NormalLoop} {p : Part} → Piece symbols keeps round p → (ℕ → ℤ) → Type 0
      Ran (assignment u f free) at = Unit {0}
      Ran (turning {round} r h more) at = IsRun bits bounds at r × (has_turn (count n values at r) ≡ true → RanAll more (in_last n values (length round) at r))

      pub RanAll : {round : List NormalLoop} {ps : Parts} → Pieces symbols keeps round ps → (ℕ → ℤ) → Type 0
      RanAll none at = Unit {0}
      RanAll (next e more) at = Ran e at × RanAll more at

  module _ (x : List ℕ) where
    -- a variable of the loops round it isn't set
    among_more : (round : List NormalLoop) (r : NormalLoop) → is_among (variables_of round) x ≡ true → is_among (variables_of (round ++ r ∷ [])) x ≡ true
    among_more [] r h = cc
    among_more (q ∷ qs) r h = by (bytes_eq q.variable x) h (among_more qs r)
      where
        by : (b : Bool) → (b || is_among (variables_of qs) x) ≡ true → (is_among (variables_of qs) x ≡ true → is_among (variables_of (qs ++ r ∷ [])) x ≡ true) → (b || is_among (variables_of (qs ++ r ∷ [])) x) ≡ true
        by true h k = refl
        by false h k = k h

    pub among_last : (round : List NormalLoop) (r : NormalLoop) → bytes_eq r.variable x ≡ true → is_among (variables_of (round ++ r ∷ [])) x ≡ true
    among_last [] r h = ap (λ b. b || false) h
    among_last (q ∷ qs) r h = or_true (bytes_eq q.variable x) (is_among (variables_of (qs ++ r ∷ [])) x) (among_last qs r h)
      where
        or_true : (b c : Bool) → c ≡ true → (b || c) ≡ true
        or_true true c e = refl
        or_true false c e = e

    if_none : (b : Bool) → if_so b None ≡ None
    if_none true = refl
    if_none false = refl

    another : (round : List NormalLoop) (l : Loop) (r : NormalLoop) → IsLoop symbols round l r → is_among (variables_of round) x ≡ true → bytes_eq r.variable x ≡ false
    another round l r h i = bytes_eq-false r.variable x (λ e. true_false (sym i ∙ (ap (is_among (variables_of round)) (sym e ∙ h.variable) ∙ h.own)))

    mutual
      pub unset : {round : List NormalLoop} {p : Part} → (e : Piece symbols keeps round p) → is_among (variables_of round) x ≡ true → (at : ℕ → ℤ) → after x e at ≡ None
      unset (assignment u f free) i at = refl
      unset (turning {round} {l} r h more) i at =
          ap (λ o. or_before (if_so (has_turn (count n values at r)) o) (set_by x at r)) (unset_all more (among_more round r i) (in_last n values (length round) at r))
          ∙ (ap (λ o. or_before o (set_by x at r)) (if_none (has_turn (count n values at r))) ∙ ap (λ b. cond b (Some (end n values at r)) None) (another round l r h i))

      pub unset_all : {round : List NormalLoop} {ps : Parts} → (e : Pieces symbols keeps round ps) → is_among (variables_of round) x ≡ true → (at : ℕ → ℤ) → after_all x e at ≡ None
      unset_all none i at = refl
      unset_all (next e more) i at = ap (λ o. or_before o (after x e at)) (unset_all more i at) ∙ unset e i at

    -- ---- loops with one trip, whatever the iterations of the loops round them are

    abbrev pub plain : List NormalLoop → Bool
    plain round = list_all has_plain_trip (drop 1 round)

    abbrev mutual
      pub IsPlainFor : {round : List NormalLoop} {p : Part} → Piece symbols keeps round p → Type 0
      IsPlainFor (assignment u f free) = Unit {0}
      IsPlainFor (turning {round} r h more) = (bytes_eq r.variable x ≡ true → plain round ≡ true) × ArePlainFor more

      pub ArePlainFor : {round : List NormalLoop} {ps : Parts} → Pieces symbols keeps round ps → Type 0
      ArePlainFor none = Unit {0}
      ArePlainFor (next e more) = IsPlainFor e × ArePlainFor more

    all_parted : (rs : List NormalLoop) (r : NormalLoop) → list_all has_plain_trip (rs ++ r ∷ []) ≡ true → (list_all has_plain_trip rs ≡ true) × (has_plain_trip r ≡ true)
    all_parted [] r h = (refl, (both (has_plain_trip r) true h).0)
    all_parted (q ∷ qs) r h =
        let p = both (has_plain_trip q) (list_all has_plain_trip (qs ++ r ∷ [])) h in
        let more = all_parted qs r p.1 in
        (ap (λ b. b && list_all has_plain_trip qs) p.0 ∙ more.0, more.1)

    plain_front : (round : List NormalLoop) (r : NormalLoop) → plain (round ++ r ∷ []) ≡ true → plain round ≡ true
    plain_front [] r h = refl
    plain_front (q ∷ qs) r h = (all_parted qs r h).0

    plain_last : (round : List NormalLoop) (r : NormalLoop) → 0 < length round → plain (round ++ r ∷ []) ≡ true → has_plain_trip r ≡ true
    plain_last [] r l h = absurd (omega (arith, l))
    plain_last (q ∷ qs) r l h = (all_parted qs r h).1

    loops_zero : (zs : List ℤ) (k : ℕ) → list_all is_zero zs ≡ true → get_or zs k (pos 0) ≡ pos 0
    loops_zero [] k h = refl
    loops_zero (z ∷ zs) zero h = (Decides-int_eq z (pos 0)).0 (both (is_zero z) (list_all is_zero zs) h).0
    loops_zero (z ∷ zs) (suc k) h = loops_zero zs k (both (is_zero z) (list_all is_zero zs) h).1

    no_loops : (r : NormalLoop) (at : ℕ → ℤ) → has_plain_trip r ≡ true → products 7 0 (λ k. get_or r.trip.top.loops k (pos 0)) at ≡ pos 0
    no_loops r at h = products-alike 7 0 (λ k. get_or r.trip.top.loops k (pos 0)) (λ k. pos 0) at (λ k m. loops_zero r.trip.top.loops k h) ∙ products-zero 7 0 at

    pub plain_top : (r : NormalLoop) (at its : ℕ → ℤ) → has_plain_trip r ≡ true → top n values at r ≡ top n values its r
    plain_top r at its h =
        ap (λ z. int_div (z +ℤ (products n 0 (λ j. coefficient_in r.trip.top.syms j) values +ℤ r.trip.top.constant)) r.trip.by) (no_loops r at h ∙ sym (no_loops r its h))

    some_of : (a b : Option ℤ) (z : ℤ) → or_before a b ≡ Some z → (a ≡ Some z) ⊎ (b ≡ Some z)
    some_of (Some y) b z h = inl h
    some_of None b z h = inr h

    some_if : (b : Bool) (o : Option ℤ) (z : ℤ) → if_so b o ≡ Some z → o ≡ Some z
    some_if true o z h = h
    some_if false o z h = let no : ⊥ = cc in absurd no

    none_some : {C : Type 0} (z : ℤ) → ◌≡◌ {A = Option ℤ} None (Some z) → C
    none_some z h = let no : ⊥ = cc in absurd no

    mutual
      pub set_plain : {round : List NormalLoop} {p : Part} → (e : Piece symbols keeps round p) → IsPlainFor e → (at : ℕ → ℤ) (z : ℤ) → after x e at ≡ Some z → plain round ≡ true
      set_plain (assignment u f free) i at z h = none_some z h
      set_plain (turning {round} r q more) i at z h =
          elim (some_of (if_so (has_turn (count n values at r)) (after_all x more (in_last n values (length round) at r))) (set_by x at r) z h) as (λ w. plain round ≡ true) [
            | inl k ↦ plain_front round r (set_all_plain more i.1 (in_last n values (length round) at r) z (some_if (has_turn (count n values at r)) (after_all x more (in_last n values (length round) at r)) z k))
            | inr k ↦ i.0 (is_x (bytes_eq r.variable x) k)
          ]
        where
          is_x : (b : Bool) → cond b (Some (end n values at r)) None ≡ Some z → b ≡ true
          is_x true k = refl
          is_x false k = none_some z k

      pub set_all_plain : {round : List NormalLoop} {ps : Parts} → (e : Pieces symbols keeps round ps) → ArePlainFor e → (at : ℕ → ℤ) (z : ℤ) → after_all x e at ≡ Some z → plain round ≡ true
      set_all_plain none i at z h = none_some z h
      set_all_plain {round} (next e more) i at z h =
          elim (some_of (after_all x more at) (after x e at) z h) as (λ w. plain round ≡ true) [
            | inl k ↦ set_all_plain more i.1 at z k
            | inr k ↦ set_plain e i.0 at z k
          ]

    none_of : (a b : Option ℤ) → or_before a b ≡ None → (a ≡ None) × (b ≡ None)
    none_of (Some y) b h = let no : ⊥ = cc in absurd no
    none_of None b h = (refl, h)

    -- by the results of the inner parts, in two iterations
    inner_none : (b c : Bool) (o p : Option ℤ) → (o ≡ None → p ≡ None) → ((z : ℤ) → p ≡ Some z → b ≡ c) → if_so b o ≡ None → if_so c p ≡ None
    inner_none b c o None same plain h = if_none c
    inner_none true c None (Some z) same plain h = none_some z (sym (same refl))
    inner_none true c (Some y) (Some z) same plain h = none_some y (sym h)
    inner_none false true o (Some z) same plain h = absurd (true_false (sym (plain z refl)))
    inner_none false false o (Some z) same plain h = refl

    pub longer : (round : List NormalLoop) (r : NormalLoop) → 0 < length (round ++ r ∷ [])
    longer [] r = omega arith
    longer (q ∷ qs) r = omega arith

    -- whether it is set doesn't depend on the iterations of the loops round it
    mutual
      pub alike_set : {round : List NormalLoop} {p : Part} → (e : Piece symbols keeps round p) → IsPlainFor e → 0 < length round → (at its : ℕ → ℤ) → after x e at ≡ None → after x e its ≡ None
      alike_set (assignment u f free) i d at its h = refl
      alike_set (turning {round} r q more) i d at its h =
          let inner = after_all x more (in_last n values (length round) at r) in
          let others = after_all x more (in_last n values (length round) its r) in
          let p = none_of (if_so (has_turn (count n values at r)) (after_all x more (in_last n values (length round) at r))) (set_by x at r) h in
          let set : set_by x its r ≡ None = unset_too (bytes_eq r.variable x) p.1 in
          ap (λ o. or_before o (set_by x its r))
          (inner_none (has_turn (count n values at r)) (has_turn (count n values its r)) (after_all x more (in_last n values (length round) at r)) (after_all x more (in_last n values (length round) its r))
          (alike_all_set more i.1 (longer round r) (in_last n values (length round) at r) (in_last n values (length round) its r))
          (λ z k. ap (λ t. has_turn (turns_to t)) (plain_top r at its (plain_last round r d (set_all_plain more i.1 (in_last n values (length round) its r) z k))))
          p.0)
          ∙ set
        where
          unset_too : (b : Bool) → cond b (Some (end n values at r)) None ≡ None → cond b (Some (end n values its r)) None ≡ None
          unset_too true k = none_some (end n values at r) (sym k)
          unset_too false k = refl

      pub alike_all_set : {round : List NormalLoop} {ps : Parts} → (e : Pieces symbols keeps round ps) → ArePlainFor e → 0 < length round → (at its : ℕ → ℤ) → after_all x e at ≡ None → after_all x e its ≡ None
      alike_all_set none i d at its h = refl
      alike_all_set (next e more) i d at its h =
          let p = none_of (after_all x more at) (after x e at) h in
          ap (λ o. or_before o (after x e its)) (alike_all_set more i.1 d at its p.0) ∙ alike_set e i.0 d at its p.1
