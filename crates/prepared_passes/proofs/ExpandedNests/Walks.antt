-- The loops of a prepared nest, each under those round it.
use Rattle.std.proofs.Common.{◌≡◌, ◌⊎◌, inl, inr, refl, sym, subst, ℕ, List, [], ◌∷◌, ◌++◌, append_assoc}
use Rattle.std.proofs.lemmas.List.{map-append}
use Rattle.components.proofs.ListLaws.{Each-append}
use Rattle.components.specs.Lists as lists
use Rattle.nest.specs.Bodies.{Standing, loops_in_parts, loops_of, statements_in, statements_in_parts}
use Rattle.nest.specs.Plain.{Loop, Part, Run, Turns, Choice, Label, Jump, Parts, no_parts, part}
use Rattle.nest_order.specs.orders.Lists.{Distinct, In}
use Rattle.nest_order.specs.orders.Lists as order_lists
use Rattle.nest_order.proofs.orders.Lists as orders
use Rattle.nest_order.proofs.orders.Lists.{In-append, In-left, In-right}
use Rattle.nest_order.proofs.orders.Once.{Pairwise-right}
use Rattle.nest_order.specs.shapes.Shapes.{ArePlain, IsNormal, IsPlain, numbers_of}
use Rattle.tree.specs.Plain.{Declaration}
use Rattle.pass_laws.specs.prepared_nests.Loops.{EachLoop, EachLoopIn, IsPreparedLoop}
use Rattle.pass_laws.proofs.PreparedNests.Trips.{BearsNumber, bears_number}
use Rattle.pass_laws.proofs.PreparedNests.Walks.{AreOnce, once_before}
use Rattle.scalar_expand.specs.Flow as flow

once_first : (ls xs ys : List Loop) → AreOnce (ls ++ (xs ++ ys)) → AreOnce (ls ++ xs)
once_first ls xs ys d = once_before (ls ++ xs) ys (subst AreOnce (sym (append_assoc ls xs ys)) d)

once_last : (ls xs ys : List Loop) → AreOnce (ls ++ (xs ++ ys)) → AreOnce (ls ++ ys)
once_last [] xs ys d = Pairwise-right (λ x y. ¬ (x ≡ y)) (numbers_of xs) (numbers_of ys) (subst Distinct (map-append (λ (l : Loop). l.number) xs ys) d)
once_last (l ∷ ls) xs ys d = (without (λ k. ¬ (l.number ≡ k)) ls d.0, once_last ls xs ys d.1)
  where
    without : (P : ℕ → Type 0) (ms : List Loop) → order_lists.Each P (numbers_of (ms ++ (xs ++ ys))) → order_lists.Each P (numbers_of (ms ++ ys))
    without P [] h = orders.Each-right P (numbers_of xs) (numbers_of ys) (subst (order_lists.Each P) (map-append (λ (l : Loop). l.number) xs ys) h)
    without P (m ∷ ms) h = (h.0, without P ms h.1)

-- what is known of a loop under those round it
pub record Under (es : List Declaration) (symbols : List (List ℕ)) (all ls : List Loop) (l : Loop) : Type 0 where
  pub prepared : IsPreparedLoop es symbols ls l
  pub once : AreOnce (ls ++ l ∷ [])
  pub outer : (o : Loop) → In o ls → In o all
  pub inside : In l all
  pub named : lists.Each BearsNumber ls

module _ (es : List Declaration) (symbols : List (List ℕ)) (all : List Loop) (Asked : List Loop → Loop → Type 0) (make : (ls : List Loop) (l : Loop) → IsNormal l → Under es symbols all ls l → Asked ls l) where
  mutual
    pub each : (ls : List Loop) (q : Part) → IsPlain q → EachLoop (IsPreparedLoop es symbols) ls q → AreOnce (ls ++ loops_of q) → ((o : Loop) → In o ls → In o all) → ((o : Loop) → In o (loops_of q) → In o all)
        → lists.Each BearsNumber ls → flow.EachLoop Asked ls q
    each ls (Run g) plain h once outer inner named = tt
    each ls (Turns l qs) plain h once outer inner named = (
      make ls l plain.0 (record { prepared = h.0; once = once_before (ls ++ l ∷ []) (loops_in_parts qs) once'; outer = outer; inside = inner l (inl refl); named = named }),
      each_in (ls ++ l ∷ []) qs plain.1 h.1 once' (λ o i. by o (In-append o ls (l ∷ []) i)) (λ o i. inner o (inr i)) (Each-append BearsNumber ls (l ∷ []) named (bears_number es symbols ls l h.0, tt)),
    )
      where
        once' : AreOnce ((ls ++ l ∷ []) ++ loops_in_parts qs)
        once' = subst AreOnce (sym (append_assoc ls (l ∷ []) (loops_in_parts qs))) once

        by : (o : Loop) → In o ls ⊎ In o (l ∷ []) → In o all
        by o (inl j) = outer o j
        by o (inr (inl e)) = inner o (inl e)
        by o (inr (inr j)) = absurd j
    each ls (Choice bs qs) plain h once outer inner named = absurd plain
    each ls (Label k) plain h once outer inner named = absurd plain
    each ls (Jump k) plain h once outer inner named = absurd plain

    each_in : (ls : List Loop) (qs : Parts) → ArePlain qs → EachLoopIn (IsPreparedLoop es symbols) ls qs → AreOnce (ls ++ loops_in_parts qs) → ((o : Loop) → In o ls → In o all)
        → ((o : Loop) → In o (loops_in_parts qs) → In o all) → lists.Each BearsNumber ls → flow.EachLoopIn Asked ls qs
    each_in ls no_parts plain h once outer inner named = tt
    each_in ls (part q qs) plain h once outer inner named = (
      each ls q plain.0 h.0 (once_first ls (loops_of q) (loops_in_parts qs) once) outer (λ o i. inner o (In-left o (loops_of q) (loops_in_parts qs) i)) named,
      each_in ls qs plain.1 h.1 (once_last ls (loops_of q) (loops_in_parts qs) once) outer (λ o i. inner o (In-right o (loops_of q) (loops_in_parts qs) i)) named,
    )

-- ---- the loops round a statement

mutual
  pub round_in : (ls : List Loop) (q : Part) → IsPlain q → (s : Standing) → In s (statements_in ls q) → (o : Loop) → In o s.loops → In o ls ⊎ In o (loops_of q)
  round_in ls (Run g) plain s (inl e) o i = inl (subst (λ (t : Standing). In o t.loops) e i)
  round_in ls (Run g) plain s (inr j) o i = absurd j
  round_in ls (Turns l qs) plain s j o i = by (round_in_parts (ls ++ l ∷ []) qs plain.1 s j o i)
    where
      front : In o ls ⊎ In o (l ∷ []) → In o ls ⊎ In o (l ∷ loops_in_parts qs)
      front (inl k) = inl k
      front (inr (inl e)) = inr (inl e)
      front (inr (inr k)) = absurd k

      by : In o (ls ++ l ∷ []) ⊎ In o (loops_in_parts qs) → In o ls ⊎ In o (l ∷ loops_in_parts qs)
      by (inl k) = front (In-append o ls (l ∷ []) k)
      by (inr k) = inr (inr k)
  round_in ls (Choice bs qs) plain s j o i = absurd plain
  round_in ls (Label k) plain s j o i = absurd plain
  round_in ls (Jump k) plain s j o i = absurd plain

  round_in_parts : (ls : List Loop) (qs : Parts) → ArePlain qs → (s : Standing) → In s (statements_in_parts ls qs) → (o : Loop) → In o s.loops → In o ls ⊎ In o (loops_in_parts qs)
  round_in_parts ls no_parts plain s j o i = absurd j
  round_in_parts ls (part q qs) plain s j o i =
      by (In-append s (statements_in ls q) (statements_in_parts ls qs) j) (λ k. round_in ls q plain.0 s k o i) (λ k. round_in_parts ls qs plain.1 s k o i)
    where
      first : In o ls ⊎ In o (loops_of q) → In o ls ⊎ In o (loops_of q ++ loops_in_parts qs)
      first (inl k) = inl k
      first (inr k) = inr (In-left o (loops_of q) (loops_in_parts qs) k)

      later : In o ls ⊎ In o (loops_in_parts qs) → In o ls ⊎ In o (loops_of q ++ loops_in_parts qs)
      later (inl k) = inl k
      later (inr k) = inr (In-right o (loops_of q) (loops_in_parts qs) k)

      by : In s (statements_in ls q) ⊎ In s (statements_in_parts ls qs) → (In s (statements_in ls q) → In o ls ⊎ In o (loops_of q)) → (In s (statements_in_parts ls qs) → In o ls ⊎ In o (loops_in_parts qs))
          → In o ls ⊎ In o (loops_of q ++ loops_in_parts qs)
      by (inl k) f g = first (f k)
      by (inr k) f g = later (g k)
