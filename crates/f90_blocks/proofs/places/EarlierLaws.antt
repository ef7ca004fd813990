-- The first place at which one of two things holds.
use Rattle.std.proofs.Common.{◌≡◌, ◌⊎◌, inl, inr, ⊎_elim, ℕ, ◌<◌, ◌≤◌, min, Option, Some, None, List, length, arith}
use Rattle.std.specs.Prelude.{◌↔◌}
use Rattle.std.proofs.lemmas.Bool.{cases_lt}
use Rattle.f90_grammar.specs.Blocks.{Placed}
use Rattle.f90_grammar.specs.Order.{Place90, IsPlaceIn}
use Rattle.f90_blocks.specs.places.First.{FindsFirst, IsFirstPlace, earlier}

module _ (ps : List Placed) (F G : Place90 → Type 0) where
  abbrev Either : Place90 → Type 0
  Either p = F p ⊎ G p

  -- nothing of the other stands before
  abbrev NoneBefore : (Place90 → Type 0) → ℕ → Type 0
  NoneBefore H i = (q : Place90) → IsPlaceIn ps q → H q → i ≤ length q.before

  left_first : (i : ℕ) → IsFirstPlace ps F i → NoneBefore G i → IsFirstPlace ps Either i
  left_first i h later = record {
    place = h.place;
    in_text = h.in_text;
    holds = inl h.holds;
    number = h.number;
    first = λ q here k. ⊎_elim (λ (f : F q). h.first q here f) (λ (g : G q). later q here g) k;
  }

  right_first : (i : ℕ) → IsFirstPlace ps G i → NoneBefore F i → IsFirstPlace ps Either i
  right_first i h later = record {
    place = h.place;
    in_text = h.in_text;
    holds = inr h.holds;
    number = h.number;
    first = λ q here k. ⊎_elim (λ (f : F q). later q here f) (λ (g : G q). h.first q here g) k;
  }

  abbrev First : Option ℕ → Option ℕ → Option ℕ → Type 0
  First a b c = FindsFirst ps F a → FindsFirst ps G b → FindsFirst ps Either c

  no_left : (b : Option ℕ) → First None b b
  no_left (Some j) none h = right_first j h (λ q here k. absurd (none q here k))
  no_left None none h = λ q here k. ⊎_elim (λ (f : F q). none q here f) (λ (g : G q). h q here g) k

  no_right : (i : ℕ) → First (Some i) None (Some i)
  no_right i h none = left_first i h (λ q here k. absurd (none q here k))

  least : (i j : ℕ) → i ≤ j → min i j ≡ i
  least i j h = omega arith

  least_right : (i j : ℕ) → j ≤ i → min i j ≡ j
  least_right i j h = omega arith

  first_of : (i j : ℕ) → IsFirstPlace ps F i → IsFirstPlace ps G j → i ≤ j → IsFirstPlace ps Either (min i j)
  first_of i j h k l = rw (least i j l) (left_first i h (λ q here t. let m : j ≤ length q.before = k.first q here t in
      omega arith))

  second_of : (i j : ℕ) → IsFirstPlace ps F i → IsFirstPlace ps G j → j ≤ i → IsFirstPlace ps Either (min i j)
  second_of i j h k l = rw (least_right i j l) (right_first j k
      (λ q here t. let m : i ≤ length q.before = h.first q here t in omega arith))

  one_of_two : (i j : ℕ) → First (Some i) (Some j) (Some (min i j))
  one_of_two i j h k = ⊎_elim (λ (l : i < j). first_of i j h k (omega arith)) (λ (l : j ≤ i). second_of i j h k l)
      (cases_lt i j)

  pub first_of_two : (a b : Option ℕ) → FindsFirst ps F a → FindsFirst ps G b → FindsFirst ps Either (earlier a b)
  first_of_two None b h k = no_left b h k
  first_of_two (Some i) None h k = no_right i h k
  first_of_two (Some i) (Some j) h k = one_of_two i j h k

  -- the first place of the one is that of the other where both hold at the same places
  pub same_first : (a : Option ℕ) → ((p : Place90) → F p ↔ G p) → FindsFirst ps F a → FindsFirst ps G a
  same_first None same none = λ q here g. none q here ((same q).1 g)
  same_first (Some i) same h = record {
    place = h.place;
    in_text = h.in_text;
    holds = (same h.place).0 h.holds;
    number = h.number;
    first = λ q here g. h.first q here ((same q).1 g);
  }
