-- What is marked in the bodies of the loops of a block is marked in the block.
use Rattle.std.proofs.Common.{◌⊎◌, inl, inr, sym, subst, ℕ, zero, suc, ◌+◌, List, [], ◌∷◌}
use Rattle.std.proofs.Common.{◌++◌}
use Rattle.std.proofs.Common.{map}
use Rattle.std.proofs.lemmas.List.{map-append}
use Rattle.tree.specs.Plain.{Statement, Assignment, Where, If, Do, Label, GoTo, Stop, Read, Print, Allocate}
use Rattle.tree.specs.Plain.{Deallocate}
use Rattle.tree.specs.Plain.{Arms, no_arms, arm, Block, no_statements, statement}
use Rattle.nest_order.specs.orders.Lists.{In}
use Rattle.nest_order.proofs.orders.Lists.{In-append, In-left, In-right}
use Rattle.nest_order.proofs.orders.Membership.{In-map, map-In}
use Rattle.emission.specs.emission_marks.Marks.{HasMarked, Marked, Otherwise, Round, Turning, Under, bodies, bodies_at}
use Rattle.emission.specs.emission_marks.Marks.{bodies_in}
use Rattle.emission.specs.emission_marks.Marks.{bodies_under, marked, marked_in, marked_under}
use Rattle.emission.proofs.EmissionMarks.Blocks.{number_of, numbers_in, same_numbers}
use Rattle.emission.proofs.EmissionMarks.Lists.{among, contained, in_flat}

pub has_number : (b : Block) (s : ℕ) → HasMarked b s → In (s + 1) (numbers_in [] b)
has_number b s h =
    subst (λ m. In m (numbers_in [] b)) h.number
    (map-In number_of h.it (marked_in [] b) (among (marked_in [] b) h.it h.among))

pub number_has : (b : Block) (s : ℕ) → In (s + 1) (numbers_in [] b) → HasMarked b s
number_has b s i =
    let x = In-map number_of (s + 1) (marked_in [] b) i in
    record { it = x.it; among = contained (marked_in [] b) x.it x.inside; number = sym x.is }

in_first : (xs ys : List Marked) (m : ℕ) → In m (map number_of xs) → In m (map number_of (xs ++ ys))
in_first xs ys m i = subst (In m) (sym (map-append number_of xs ys)) (In-left m (map number_of xs) (map number_of ys) i)

in_second : (xs ys : List Marked) (m : ℕ) → In m (map number_of ys) → In m (map number_of (xs ++ ys))
in_second xs ys m i =
    subst (In m) (sym (map-append number_of xs ys)) (In-right m (map number_of xs) (map number_of ys) i)

-- either way
one_of : (y : Block) (first second : List Block) (xs ys : List Marked) (m : ℕ) → In y first ⊎ In y second
    → (In y first → In m (map number_of xs)) → (In y second → In m (map number_of ys)) → In m (map number_of (xs ++ ys))
one_of y first second xs ys m (inl i) f g = in_first xs ys m (f i)
one_of y first second xs ys m (inr i) f g = in_second xs ys m (g i)

mutual
  in_statement : (c : Statement) (round : List Round) (y : Block) (m : ℕ) → In m (numbers_in [] y) → In y (bodies c)
      → In m (map number_of (marked round c))
  in_statement (Assignment line mark left right) round y m h i = absurd i
  in_statement (Where line mark mask left right) round y m h i = absurd i
  in_statement (If line arms other) round y m h i =
      one_of y (bodies_under arms) (bodies_in other) (marked_under round arms)
      (marked_in (round ++ Otherwise ∷ []) other) m
      (In-append y (bodies_under arms) (bodies_in other) i) (in_arms arms round y m h)
      (in_block other (round ++ Otherwise ∷ []) y m h)
  in_statement (Do line x first last step body) round y m h (inl e) =
      subst (In m) (same_numbers body [] (round ++ Turning x first last step ∷ []))
      (subst (λ z. In m (numbers_in [] z)) e h)
  in_statement (Do line x first last step body) round y m h (inr i) = absurd i
  in_statement (Label k) round y m h i = absurd i
  in_statement (GoTo line k) round y m h i = absurd i
  in_statement (Stop line) round y m h i = absurd i
  in_statement (Read line is) round y m h i = absurd i
  in_statement (Print line is) round y m h i = absurd i
  in_statement (Allocate line x es) round y m h i = absurd i
  in_statement (Deallocate line x) round y m h i = absurd i

  in_arms : (arms : Arms) (round : List Round) (y : Block) (m : ℕ) → In m (numbers_in [] y) → In y (bodies_under arms)
      → In m (map number_of (marked_under round arms))
  in_arms no_arms round y m h i = absurd i
  in_arms (arm test body arms) round y m h i =
      one_of y (bodies_in body) (bodies_under arms) (marked_in (round ++ Under test ∷ []) body)
      (marked_under round arms) m
      (In-append y (bodies_in body) (bodies_under arms) i) (in_block body (round ++ Under test ∷ []) y m h)
      (in_arms arms round y m h)

  pub in_block : (b : Block) (round : List Round) (y : Block) (m : ℕ) → In m (numbers_in [] y) → In y (bodies_in b)
      → In m (numbers_in round b)
  in_block no_statements round y m h i = absurd i
  in_block (statement c cs) round y m h i =
      one_of y (bodies c) (bodies_in cs) (marked round c) (marked_in round cs) m
      (In-append y (bodies c) (bodies_in cs) i) (in_statement c round y m h) (in_block cs round y m h)

pub in_body : (k : ℕ) (b y : Block) (m : ℕ) → In y (bodies_at k b) → In m (numbers_in [] y) → In m (numbers_in [] b)
in_body zero b y m (inl e) h = subst (λ z. In m (numbers_in [] z)) e h
in_body zero b y m (inr i) h = absurd i
in_body (suc k) b y m i h =
    let z = in_flat (bodies_at k) (bodies_in b) y i in in_block b [] z.0 m (in_body k z.0 y m z.2 h) z.1
