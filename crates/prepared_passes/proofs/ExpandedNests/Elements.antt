-- Elements with a subscript for each loop, the innermost one first.
use Rattle.std.proofs.Common.{◌≡◌, ◌⊎◌, inl, inr, refl, sym, ap, ◌∙◌, ℕ, ◌+◌, ◌≤◌, max, List, [], ◌∷◌, ◌++◌, map, reverse, length, Option, Some, None, arith}
use Rattle.std.specs.Option.{IsSomeAnd}
use mathlib.Core.List.{reverse_aux}
use Rattle.meaning.specs.Depths.{depth_of, depth_of_subscripts}
use Rattle.meaning.specs.Reads.{names_in, names_in_subscripts}
use Rattle.meaning.specs.Typed.{declared, number_of_subscripts, rank_of_extent}
use Rattle.meaning.specs.Typed90.{AreSubscripts, IsScalar, SuitsDimensions, rank_of, rank_of_subscripts}
use Rattle.nest_order.proofs.orders.Lists.{In-append}
use Rattle.nest_order.specs.orders.Lists.{In}
use Rattle.pass_laws.specs.normal_facts.Laws.{IsCounter}
use Rattle.tree.specs.Plain.{Declaration, Expression, Named, Only, Subscript, Subscripts, no_subscripts, subscript, subscripts}
use Rattle.tree.specs.declared.ops.Kind.{Kind}
use Rattle.tree.specs.declared.ops.Kind.TheVariants.{Integer}
use Rattle.scalar_expand.specs.declared.privates.RoundLoop.{RoundLoop}

-- in one of two lists
pub either_in : (x : List ℕ) (xs ys : List (List ℕ)) (B : Type 0) → (In x xs → B) → (In x ys → B) → In x (xs ++ ys) → B
either_in x xs ys B f g i = by (In-append x xs ys i)
  where
    by : In x xs ⊎ In x ys → B
    by (inl j) = f j
    by (inr j) = g j

module _ (g : RoundLoop → Subscript) where
  onto : (P : List Subscript → Type 0) (ls : List RoundLoop) → ((l : RoundLoop) → In l ls → (qs : List Subscript) → P qs → P (g l ∷ qs)) → (qs : List Subscript) → P qs → P (reverse_aux (map g ls) qs)
  onto P [] f qs h = h
  onto P (l ∷ ls) f qs h = onto P ls (λ k i. f k (inr i)) (g l ∷ qs) (f l (inl refl) qs h)

  -- what each of the subscripts keeps
  pub each_subscript : (P : List Subscript → Type 0) (ls : List RoundLoop) → P [] → ((l : RoundLoop) → In l ls → (qs : List Subscript) → P qs → P (g l ∷ qs)) → P (reverse (map g ls))
  each_subscript P ls h f = onto P ls f [] h

  counted_onto : (ls : List RoundLoop) (qs : List Subscript) → number_of_subscripts (subscripts (reverse_aux (map g ls) qs)) ≡ length ls + number_of_subscripts (subscripts qs)
  counted_onto [] qs = omega arith
  counted_onto (l ∷ ls) qs = let more = counted_onto ls (g l ∷ qs) in omega (arith, more)

  pub as_many : (ls : List RoundLoop) → number_of_subscripts (subscripts (reverse (map g ls))) ≡ length ls
  as_many ls = let all = counted_onto ls [] in omega (arith, all)

suits : (ss : Subscripts) (n : ℕ) → number_of_subscripts ss ≡ n → SuitsDimensions ss n
suits no_subscripts n e = tt
suits (subscript q qs) n e = e

-- ---- an element by the declarations

pub counter_scalar : (fs : List Declaration) (x : List ℕ) → IsSomeAnd (declared fs x) IsCounter → IsScalar fs (Named x no_subscripts) Integer
counter_scalar fs x h = ((kind (declared fs x) h, tt), rank (declared fs x) h)
  where
    kind : (o : Option Declaration) → IsSomeAnd o IsCounter → IsSomeAnd o (λ (d : Declaration). (Integer ≡ d.kind) × Unit {0})
    kind None h = absurd h
    kind (Some d) h = (sym h.kind, tt)

    rank : (o : Option Declaration) → IsSomeAnd o IsCounter → ◌≡◌ {A = ℕ} (elim o [ None ↦ 0 | Some d ↦ rank_of_extent d.extent ]) 0
    rank None h = absurd h
    rank (Some d) h = ap rank_of_extent h.scalar

module _ (fs : List Declaration) (f : RoundLoop → Expression) where
  abbrev at : List RoundLoop → Subscripts
  at ls = subscripts (reverse (map (λ (l : RoundLoop). Only (f l)) ls))

  pub element_scalar : (x : List ℕ) (k : Kind) (ls : List RoundLoop) → IsSomeAnd (declared fs x) (λ (d : Declaration). (d.kind ≡ k) × (rank_of_extent d.extent ≡ length ls))
      → ((l : RoundLoop) → In l ls → IsScalar fs (f l) Integer) → IsScalar fs (Named x (at ls)) k
  element_scalar x k ls h each = ((by (declared fs x) h, all.0), rank (at ls) (many ∙ sym (named (declared fs x) h)) all.1)
    where
      many : number_of_subscripts (at ls) ≡ length ls
      many = as_many (λ (l : RoundLoop). Only (f l)) ls

      both : (a b : ℕ) → a ≡ 0 → b ≡ 0 → a + b ≡ 0
      both a b e g = omega (arith, e, g)

      low : (a : ℕ) → a ≡ 0 → a ≤ 1
      low a e = omega (arith, e)

      all : AreSubscripts fs (at ls) × (rank_of_subscripts fs (at ls) ≡ 0)
      all = each_subscript (λ (l : RoundLoop). Only (f l)) (λ (qs : List Subscript). AreSubscripts fs (subscripts qs) × (rank_of_subscripts fs (subscripts qs) ≡ 0)) ls (tt, refl)
          (λ l i qs r. ((((each l i).0, low (rank_of fs (f l)) (each l i).1), r.0), both (rank_of fs (f l)) (rank_of_subscripts fs (subscripts qs)) (each l i).1 r.1))

      by : (o : Option Declaration) → IsSomeAnd o (λ (d : Declaration). (d.kind ≡ k) × (rank_of_extent d.extent ≡ length ls)) → IsSomeAnd o (λ (d : Declaration). (k ≡ d.kind) × SuitsDimensions (at ls) (rank_of_extent d.extent))
      by None g = absurd g
      by (Some d) g = (sym g.0, suits (at ls) (rank_of_extent d.extent) (many ∙ sym g.1))

      named : (o : Option Declaration) → IsSomeAnd o (λ (d : Declaration). (d.kind ≡ k) × (rank_of_extent d.extent ≡ length ls)) → ◌≡◌ {A = ℕ} (elim o [ None ↦ 0 | Some d ↦ rank_of_extent d.extent ]) (length ls)
      named None g = absurd g
      named (Some d) g = g.1

      rank : (ss : Subscripts) → number_of_subscripts ss ≡ elim (declared fs x) [ None ↦ 0 | Some d ↦ rank_of_extent d.extent ] → rank_of_subscripts fs ss ≡ 0 → rank_of fs (Named x ss) ≡ 0
      rank no_subscripts e g = sym e
      rank (subscript q qs) e g = g

  pub element_deep : (n : ℕ) (ls : List RoundLoop) → ((l : RoundLoop) → In l ls → depth_of (f l) ≤ n) → depth_of_subscripts (at ls) ≤ 1 + n
  element_deep n ls each =
      each_subscript (λ (l : RoundLoop). Only (f l)) (λ (qs : List Subscript). depth_of_subscripts (subscripts qs) ≤ 1 + n) ls (omega arith)
      (λ l i qs h. (let d = each l i in most (depth_of (f l)) (depth_of_subscripts (subscripts qs)) n d h))
    where
      most : (a b n : ℕ) → a ≤ n → b ≤ 1 + n → max (1 + a) b ≤ 1 + n
      most a b n h k = omega (arith, h, k)

  pub element_names : (P : List ℕ → Type 0) (ls : List RoundLoop) → ((l : RoundLoop) → In l ls → (y : List ℕ) → In y (names_in (f l)) → P y) → (y : List ℕ) → In y (names_in_subscripts (at ls)) → P y
  element_names P ls each =
      each_subscript (λ (l : RoundLoop). Only (f l)) (λ (qs : List Subscript). (y : List ℕ) → In y (names_in_subscripts (subscripts qs)) → P y) ls (λ y i. absurd i)
      (λ l i qs h y j. either_in y (names_in (f l)) (names_in_subscripts (subscripts qs)) (P y) (λ k. each l i y k) (λ k. h y k) j)
