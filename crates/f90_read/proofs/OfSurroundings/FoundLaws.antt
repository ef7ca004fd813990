-- The first statement that doesn't suit the blocks round it.
use Rattle.std.proofs.Common.{arith, zero, suc, ◌≡◌, ◌+◌, ◌<◌, ◌≤◌, ℕ, Bool, true, false, ◌||◌, Option, Some, None, List, [], ◌∷◌, ◌++◌, take, drop, length, ap, refl, sym, subst, ◌∙◌, ◌⊎◌, inl, inr}
use Rattle.std.specs.Prelude.{min}
use Rattle.std.specs.List.{AllByRecursion}
use Rattle.std.proofs.Math.Seq.{take-append_seam}
use Rattle.std.proofs.lemmas.Bool.{cases_lt, false_from_ne_true, or_parts, or_cases, or_left, or_right}
use Rattle.tree.specs.declared.functions.Intrinsic.{Intrinsic}
use Rattle.tree.specs.Plain.{Declaration}
use Rattle.meaning.specs.Names.{is_among}
use Rattle.f90_laws.specs.blocks.Places.{SuitsPlace, surroundings_of, loop_variables, labels_ahead}
use Rattle.f90_grammar.specs.Blocks.{Placed}
use Rattle.f90_grammar.specs.Order.{Place90, IsPlaceIn, opened_behind, opened_by}
use Rattle.f90_names.specs.kinds.declarations.Names.{AreNamesOf}
use Rattle.f90_names.specs.declared.kinds.declarations.names.Names.{Names}
use Rattle.f90_blocks.specs.places.First.{IsFirstPlace, FindsFirst}
use Rattle.f90_read.specs.surroundings.Lists.{scalar_in}
use Rattle.f90_read.specs.surroundings.Misuses.{misuses_at}
use Rattle.f90_read.specs.surroundings.Jumps.{jumps_wrongly_at}
use Rattle.f90_read.specs.surroundings.Misplaced.{earlier, AreProper, IsWrittenOut}
use Rattle.f90_read.proofs.OfSurroundings.LoopLaws.{opened_next}
use Rattle.f90_read.proofs.OfSurroundings.NameLaws.{Refutes, ArePlain}
use Rattle.f90_read.proofs.OfSurroundings.PlaceLaws.{NoneBefore, is_in_text, numbered, within, place_at}
use Rattle.f90_read.proofs.OfSurroundings.SuitLaws.{form_right, plain_next}

-- ---- the earlier of two

module _ (ps : List Placed) (p q : Place90 → Bool) where
  abbrev pub Passes : (Place90 → Bool) → Place90 → Type 0
  Passes r o = r o ≡ true

  abbrev pub one_passes : Place90 → Type 0
  one_passes o = (p o || q o) ≡ true

  of_left : (i : ℕ) → IsFirstPlace ps (Passes p) i → ((o : Place90) → IsPlaceIn ps o → q o ≡ true → i ≤ length o.before) → IsFirstPlace ps one_passes i
  of_left i f g = record {
    place = f.place;
    in_text = f.in_text;
    holds = or_left (p f.place) (q f.place) f.holds;
    number = f.number;
    first = λ o k h. elim (or_cases (p o) (q o) h) [ inl x ↦ f.first o k x | inr y ↦ g o k y ];
  }

  of_right : (i : ℕ) → IsFirstPlace ps (Passes q) i → ((o : Place90) → IsPlaceIn ps o → p o ≡ true → i ≤ length o.before) → IsFirstPlace ps one_passes i
  of_right i f g = record {
    place = f.place;
    in_text = f.in_text;
    holds = or_right (p f.place) (q f.place) f.holds;
    number = f.number;
    first = λ o k h. elim (or_cases (p o) (q o) h) [ inl x ↦ g o k x | inr y ↦ f.first o k y ];
  }

  pub earlier_of : (a b : Option ℕ) → FindsFirst ps (Passes p) a → FindsFirst ps (Passes q) b → FindsFirst ps one_passes (earlier a b)
  earlier_of None None f g = λ o k h. elim (or_cases (p o) (q o) h) [ inl x ↦ f o k x | inr y ↦ g o k y ]
  earlier_of None (Some j) f g = of_right j g (λ o k h. absurd (f o k h))
  earlier_of (Some i) None f g = of_left i f (λ o k h. absurd (g o k h))
  earlier_of (Some i) (Some j) f g =
      elim (cases_lt i j) [
        | inl l ↦ let e : i ≡ min i j = omega arith in
            subst (IsFirstPlace ps one_passes) e (of_left i f (λ o k h. let m = g.first o k h in omega (arith, m)))
        | inr l ↦ let e : j ≡ min i j = omega arith in
            subst (IsFirstPlace ps one_passes) e (of_right j g (λ o k h. let m = f.first o k h in omega (arith, m)))
      ]

-- ---- what is wrong

written_at : (before : List Placed) (p : Placed) (after : List Placed) → AllByRecursion IsWrittenOut (before ++ p ∷ after) → IsWrittenOut p
written_at [] p after h = h.0
written_at (q ∷ before) p after h = written_at before p after h.1

next : (ps : List Placed) (i : ℕ) → i < length ps → (p : Placed) × (rest : List Placed) × (drop i ps ≡ p ∷ rest)
next [] i l = absurd (omega arith)
next (p ∷ ps) zero l = (p, ps, refl)
next (p ∷ ps) (suc i) l = next ps i (omega arith)

module _ (names : Names) (ds : List Declaration) (function : List ℕ → Option Intrinsic) (of : AreNamesOf names ds) (proper : AreProper ds function) (ps : List Placed) where
  abbrev pub wrong_at : Place90 → Bool
  wrong_at p = misuses_at (scalar_in names) p || jumps_wrongly_at p

  abbrev pub Wrong : Place90 → Type 0
  Wrong p = wrong_at p ≡ true

  abbrev pub Unsuited : Place90 → Type 0
  Unsuited p = SuitsPlace ds function p.here.form (surroundings_of p) → ⊥

  plain_behind : (n : ℕ) → NoneBefore ps Wrong n → (i : ℕ) → i ≤ n → i ≤ length ps → ArePlain function (loop_variables (opened_behind [] (take i ps)))
  plain_behind n none zero l k = tt
  plain_behind n none (suc i) l k =
      let m = next ps i (omega arith) in
      let a = plain_behind n none i (omega arith) (omega arith) in
      let s : length (take i ps) ≡ i = numbered ps i m.0 m.1 m.2 in
      let w : wrong_at (place_at ps i m.0 m.1) ≡ false
      = false_from_ne_true (wrong_at (place_at ps i m.0 m.1)) (none (place_at ps i m.0 m.1) (is_in_text ps i m.0 m.1 m.2) (omega (arith, s))) in
      let g : misuses_at (scalar_in names) (place_at ps i m.0 m.1) ≡ false = (or_parts _ (jumps_wrongly_at (place_at ps i m.0 m.1)) w).0 in
      subst (λ os. ArePlain function (loop_variables os)) (sym (opened_next ps i m.0 m.1 [] m.2))
      (plain_next names ds function of proper m.0.form (opened_behind [] (take i ps)) a g)

  right_at : (n : ℕ) → NoneBefore ps Wrong n → AllByRecursion IsWrittenOut ps → (q : Place90) → IsPlaceIn ps q → length q.before ≤ n
      → Refutes (wrong_at q) (SuitsPlace ds function q.here.form (surroundings_of q))
  right_at n none h q o l =
      let w = written_at q.before q.here q.after (subst (AllByRecursion IsWrittenOut) o h) in
      let t : take (length q.before) ps ≡ q.before = ap (take (length q.before)) o ∙ take-append_seam q.before (q.here ∷ q.after) in
      let k : length q.before < length ps = within ps q o in
      let a = subst (λ b. ArePlain function (loop_variables (opened_behind [] b))) t (plain_behind n none (length q.before) l (omega arith)) in
      form_right names ds function of proper (loop_variables (opened_behind [] q.before)) q.here.form w.0 (labels_ahead q.after 0) w.1 a

  pub unsuited : (found : Option ℕ) → AllByRecursion IsWrittenOut ps → FindsFirst ps Wrong found → FindsFirst ps Unsuited found
  unsuited None h f = λ q o u.
      u ((right_at (length ps) (λ r k l w. f r k w) h q o (let k = within ps q o in omega (arith, k))).holds (false_from_ne_true (wrong_at q) (f q o)))
  unsuited (Some n) h f =
      let none : NoneBefore ps Wrong n = λ q o l w. let k = f.first q o w in omega (arith, k) in
      record {
        place = f.place;
        in_text = f.in_text;
        holds = (right_at n none h f.place f.in_text (omega (arith, f.number))).fails f.holds;
        number = f.number;
        first = λ q o u. elim (cases_lt (length q.before) n) [
          | inl l ↦ absurd (u ((right_at n none h q o (omega arith)).holds (false_from_ne_true (wrong_at q) (none q o l))))
          | inr l ↦ l
        ];
      }

  pub first_unsuited : (a b found : Option ℕ) → found ≡ earlier a b → FindsFirst ps (λ p. misuses_at (scalar_in names) p ≡ true) a
      → FindsFirst ps (λ p. jumps_wrongly_at p ≡ true) b → AllByRecursion IsWrittenOut ps → FindsFirst ps Unsuited found
  first_unsuited a b found e f g h =
      subst (FindsFirst ps Unsuited) (sym e) (unsuited (earlier a b) h (earlier_of ps (misuses_at (scalar_in names)) jumps_wrongly_at a b f g))
