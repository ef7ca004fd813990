-- The statements of a part stand one after another among those of the nest.
use Rattle.std.proofs.Common.{◌≡◌, ◌⊎◌, inl, inr, refl, sym, ap, ◌∙◌, subst, ℕ, zero, suc, ◌+◌, ◌<◌, ◌≤◌, false, Some, List, [], ◌∷◌, ◌++◌, length, append-nil, append_assoc, arith}
use Rattle.std.specs.Prelude.{⊤, slice_get}
use Rattle.std.proofs.lemmas.List.{length-append}
use Rattle.nest.specs.Bodies.{Standing, statements_in, statements_in_parts}
use Rattle.nest.specs.Plain.{Choice, Jump, Label, Loop, Part, Parts, Run, Turns, no_parts, part}
use Rattle.nest_order.specs.orders.Lists.{In}
use Rattle.nest_order.specs.shapes.Shapes.{ArePlain, IsPlain}
use Rattle.nest_steps.specs.Mapped.{count_in, count_of}
use Rattle.inductions.specs.Growing.{is_outermost}

-- ---- how many

mutual
  pub counted : (ls : List Loop) (p : Part) → IsPlain p → length (statements_in ls p) ≡ count_of p
  counted ls (Run g) h = refl
  counted ls (Turns l ps) h = counted_in (ls ++ l ∷ []) ps h.1
  counted ls (Choice bs ps) h = absurd h
  counted ls (Label n) h = absurd h
  counted ls (Jump n) h = absurd h

  pub counted_in : (ls : List Loop) (ps : Parts) → ArePlain ps → length (statements_in_parts ls ps) ≡ count_in ps
  counted_in ls no_parts h = refl
  counted_in ls (part p ps) h =
      let both = length-append (statements_in ls p) (statements_in_parts ls ps) in
      let one = counted ls p h.0 in
      let more = counted_in ls ps h.1 in
      omega (arith, both, one, more)

-- ---- where

-- these statements stand from the k-th on
abbrev pub StandFrom : List Standing → ℕ → List Standing → Type 0
StandFrom ss k [] = ⊤
StandFrom ss k (x ∷ xs) = (slice_get ss k ≡ Some x) × StandFrom ss (k + 1) xs

pub stand_front : (ss : List Standing) (k : ℕ) (xs ys : List Standing) → StandFrom ss k (xs ++ ys) → StandFrom ss k xs
stand_front ss k [] ys h = tt
stand_front ss k (x ∷ xs) ys h = (h.0, stand_front ss (k + 1) xs ys h.1)

pub stand_rest : (ss : List Standing) (k : ℕ) (xs ys : List Standing) → StandFrom ss k (xs ++ ys) → StandFrom ss (k + length xs) ys
stand_rest ss k [] ys h = subst (λ j. StandFrom ss j ys) (let e : k ≡ k + 0 = omega arith in e) h
stand_rest ss k (x ∷ xs) ys h =
    subst (λ j. StandFrom ss j ys) (let e : (k + 1) + length xs ≡ k + suc (length xs) = omega arith in e) (stand_rest ss (k + 1) xs ys h.1)

got_at : (xs : List Standing) (y : Standing) (ys : List Standing) → slice_get (xs ++ y ∷ ys) (length xs) ≡ Some y
got_at [] y ys = refl
got_at (x ∷ xs) y ys = got_at xs y ys

stand_behind : (xs ys : List Standing) → StandFrom (xs ++ ys) (length xs) ys
stand_behind xs [] = tt
stand_behind xs (y ∷ ys) =
    let more = length-append xs (y ∷ []) in (
      got_at xs y ys,
      subst (λ zs. StandFrom zs (length xs + 1) ys) (append_assoc xs (y ∷ []) ys)
          (subst (λ j. StandFrom ((xs ++ y ∷ []) ++ ys) j ys) more (stand_behind (xs ++ y ∷ []) ys)),
    )

pub stand_all : (ss : List Standing) → StandFrom ss 0 ss
stand_all ss = stand_behind [] ss

-- one of them
pub record StandsAmong (ss xs : List Standing) (j : ℕ) : Type 0 where
  pub standing : Standing
  pub among : In standing xs
  pub there : slice_get ss j ≡ Some standing

pub one_of : (ss : List Standing) (k : ℕ) (xs : List Standing) → StandFrom ss k xs → (j : ℕ) → k ≤ j → j < k + length xs → StandsAmong ss xs j
one_of ss k [] h j from below = absurd (omega (arith, from, below))
one_of ss k (x ∷ xs) h j from below = by (split j k from) (λ l. one_of ss (k + 1) xs h.1 j l (omega (arith, below)))
  where
    split : (j k : ℕ) → k ≤ j → (k ≡ j) ⊎ (k + 1 ≤ j)
    split zero zero h = inl refl
    split zero (suc k) h = absurd (omega (arith, h))
    split (suc j) zero h = inr (omega arith)
    split (suc j) (suc k) h = more (split j k (omega (arith, h)))
      where
        more : (k ≡ j) ⊎ (k + 1 ≤ j) → (suc k ≡ suc j) ⊎ (suc k + 1 ≤ suc j)
        more (inl e) = inl (ap suc e)
        more (inr l) = inr (omega (arith, l))

    by : (k ≡ j) ⊎ (k + 1 ≤ j) → (k + 1 ≤ j → StandsAmong ss xs j) → StandsAmong ss (x ∷ xs) j
    by (inl e) more = record { standing = x; among = inl refl; there = subst (λ i. slice_get ss i ≡ Some x) e h.0 }
    by (inr l) more = let r = more l in record { standing = r.standing; among = inr r.among; there = r.there }

-- ---- the loops round them

-- they begin with these
pub record Begins (ls ms : List Loop) : Type 0 where
  pub more : List Loop
  pub are : ms ≡ ls ++ more

further : (ls ms ns : List Loop) → Begins (ls ++ ms) ns → Begins ls ns
further ls ms ns b = record { more = ms ++ b.more; are = b.are ∙ append_assoc ls ms b.more }

in_either : (x : Standing) (xs ys : List Standing) → In x (xs ++ ys) → In x xs ⊎ In x ys
in_either x [] ys i = inr i
in_either x (y ∷ xs) ys (inl e) = inl (inl e)
in_either x (y ∷ xs) ys (inr i) = by (in_either x xs ys i)
  where
    by : In x xs ⊎ In x ys → In x (y ∷ xs) ⊎ In x ys
    by (inl j) = inl (inr j)
    by (inr j) = inr j

mutual
  pub loops_begin : (ls : List Loop) (p : Part) → IsPlain p → (x : Standing) → In x (statements_in ls p) → Begins ls x.loops
  loops_begin ls (Run g) h x (inl e) = record { more = []; are = ap (λ (y : Standing). y.loops) e ∙ sym (append-nil ls) }
  loops_begin ls (Run g) h x (inr i) = absurd i
  loops_begin ls (Turns l ps) h x i = further ls (l ∷ []) x.loops (loops_begin_in (ls ++ l ∷ []) ps h.1 x i)
  loops_begin ls (Choice bs ps) h x i = absurd h
  loops_begin ls (Label n) h x i = absurd h
  loops_begin ls (Jump n) h x i = absurd h

  pub loops_begin_in : (ls : List Loop) (ps : Parts) → ArePlain ps → (x : Standing) → In x (statements_in_parts ls ps) → Begins ls x.loops
  loops_begin_in ls no_parts h x i = absurd i
  loops_begin_in ls (part p ps) h x i =
      by (in_either x (statements_in ls p) (statements_in_parts ls ps) i) (λ j. loops_begin ls p h.0 x j) (λ j. loops_begin_in ls ps h.1 x j)
    where
      by : In x (statements_in ls p) ⊎ In x (statements_in_parts ls ps) → (In x (statements_in ls p) → Begins ls x.loops)
          → (In x (statements_in_parts ls ps) → Begins ls x.loops) → Begins ls x.loops
      by (inl j) f g = f j
      by (inr j) f g = g j

-- what stands in an inner loop doesn't stand in the outermost one's own body
pub inner_is_not : (o l : Loop) (ls ms : List Loop) → Begins ((o ∷ ls) ++ l ∷ []) ms → is_outermost ms ≡ false
inner_is_not o l ls ms b = ap is_outermost b.are ∙ by ls
  where
    by : (ls : List Loop) → is_outermost (o ∷ ((ls ++ l ∷ []) ++ b.more)) ≡ false
    by [] = refl
    by (m ∷ ls) = refl
