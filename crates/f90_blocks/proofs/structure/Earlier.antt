-- The first place at which one of two things holds.
use Rattle.std.proofs.Common.{◌≡◌, ⊎_elim, ℕ, ◌<◌, ◌≤◌, min, Bool, true, false, ◌||◌, Option, Some, None, List}
use Rattle.std.proofs.Common.{length, refl, arith, IsTrue}
use Rattle.std.proofs.lemmas.Bool.{cases_lt}
use Rattle.f90_grammar.specs.Blocks.{Placed}
use Rattle.f90_grammar.specs.Order.{Place90, IsPlaceIn}
use Rattle.f90_blocks.specs.places.First.{FindsFirst, IsFirstPlace}

left_or : (a b : Bool) → IsTrue a → IsTrue (a || b)
left_or true b h = refl
left_or false b h = absurd (cc)

right_or : (a b : Bool) → IsTrue b → IsTrue (a || b)
right_or true b h = refl
right_or false b h = h

either : {C : Type 0} (a b : Bool) → IsTrue (a || b) → (IsTrue a → C) → (IsTrue b → C) → C
either true b h f g = f refl
either false b h f g = g h

module _ (ps : List Placed) (f g : Place90 → Bool) where
  abbrev Both : Place90 → Type 0
  Both p = IsTrue (f p || g p)

  -- nothing of the other stands before
  abbrev NoneBefore : (Place90 → Bool) → ℕ → Type 0
  NoneBefore test i = (q : Place90) → IsPlaceIn ps q → IsTrue (test q) → i ≤ length q.before

  left_first : (i : ℕ) → IsFirstPlace ps (λ p. IsTrue (f p)) i → NoneBefore g i → IsFirstPlace ps Both i
  left_first i h later = record {
    place = h.place;
    in_text = h.in_text;
    holds = left_or (f h.place) (g h.place) h.holds;
    number = h.number;
    first = λ q here k. either (f q) (g q) k (h.first q here) (later q here);
  }

  right_first : (i : ℕ) → IsFirstPlace ps (λ p. IsTrue (g p)) i → NoneBefore f i → IsFirstPlace ps Both i
  right_first i h later = record {
    place = h.place;
    in_text = h.in_text;
    holds = right_or (f h.place) (g h.place) h.holds;
    number = h.number;
    first = λ q here k. either (f q) (g q) k (later q here) (h.first q here);
  }

  abbrev First : Option ℕ → Option ℕ → Option ℕ → Type 0
  First a b c = FindsFirst ps (λ p. IsTrue (f p)) a → FindsFirst ps (λ p. IsTrue (g p)) b → FindsFirst ps Both c

  pub no_left : (b : Option ℕ) → First None b b
  no_left (Some j) none h = right_first j h (λ q here k. absurd (none q here k))
  no_left None none h = λ q here k. either (f q) (g q) k (none q here) (h q here)

  pub no_right : (i : ℕ) → First (Some i) None (Some i)
  no_right i h none = left_first i h (λ q here k. absurd (none q here k))

  least : (i j : ℕ) → i ≤ j → min i j ≡ i
  least i j h = omega arith

  least_right : (i j : ℕ) → j ≤ i → min i j ≡ j
  least_right i j h = omega arith

  first_of : (i j : ℕ) → IsFirstPlace ps (λ p. IsTrue (f p)) i → IsFirstPlace ps (λ p. IsTrue (g p)) j → i ≤ j
      → IsFirstPlace ps Both (min i j)
  first_of i j h k l = rw (least i j l) (left_first i h
      (λ q here t. let m : j ≤ length q.before = k.first q here t in omega arith))

  second_of : (i j : ℕ) → IsFirstPlace ps (λ p. IsTrue (f p)) i → IsFirstPlace ps (λ p. IsTrue (g p)) j → j ≤ i
      → IsFirstPlace ps Both (min i j)
  second_of i j h k l = rw (least_right i j l)
      (right_first j k (λ q here t. let m : i ≤ length q.before = h.first q here t in omega arith))

  pub one_of_two : (i j : ℕ) → First (Some i) (Some j) (Some (min i j))
  one_of_two i j h k = ⊎_elim (λ (l : i < j). first_of i j h k (omega arith)) (λ (l : j ≤ i). second_of i j h k l)
      (cases_lt i j)

pub ruleset earlier_laws = (no_left, no_right, one_of_two)
