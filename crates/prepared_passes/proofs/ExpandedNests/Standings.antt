-- The statements of an expanded nest, and the loops round private scalars.
use Rattle.std.proofs.Common.{◌≡◌, ◌⊎◌, inl, inr, refl, sym, ap, ap₂, ◌∙◌, subst, ℕ, Bool, true, false, cond, List, [], ◌∷◌, ◌++◌, map, Option, Some, None}
use Rattle.std.proofs.lemmas.List.{append_assoc}
use Rattle.nest.specs.Bodies.{Standing, nest_loops, nest_statements, statements_in, statements_in_parts}
use Rattle.nest.specs.Plain.{Choice, Jump, Label, Loop, Nest, Part, Parts, Run, Turns, no_parts, part, parts}
use Rattle.nest_order.proofs.orders.Lists.{In-append, In-left, In-right}
use Rattle.nest_order.specs.orders.Lists.{Distinct, In}
use Rattle.nest_order.specs.shapes.Shapes.{ArePlain, IsPlain, loop_numbered, numbers_of}
use Rattle.nest_rewrite.specs.Assembled.{with_parts}
use Rattle.nest_rewrite.specs.Statements.{rewritten_statement}
use Rattle.pass_laws.proofs.NormalFacts.Tables.{loop_there}
use Rattle.rewrite.specs.Making.{Making}
use Rattle.scalar_expand.proofs.PrivateLaws.{First, Stands, first_begins, further_stays, has_first, in_middle, numbers_round}
use Rattle.scalar_expand.proofs.Theorems.{in_privates}
use Rattle.scalar_expand.specs.Expanded.{copied, copies_in, expanded, expanded_part, expanded_parts, expanding, is_copied_in, with_made_arrays}
use Rattle.scalar_expand.specs.Laws.{own_of}
use Rattle.scalar_expand.specs.Privates.{names_written, private_among, private_scalars, round_loop}
use Rattle.scalar_expand.specs.declared.privates.Private.{Private}
use Rattle.prepared_passes.proofs.ExpandedNests.Walks.{round_in}

-- ---- statements

-- one of these, rewritten
pub record IsRewritten (m : Making) (zs : List Standing) (y : Standing) : Type 0 where
  pub first : Standing
  pub inside : In first zs
  pub is : y ≡ record { loops = first.loops; statement = rewritten_statement m first.statement }

-- or a copy, which has no guard
abbrev pub IsMadeOf : Making → List Standing → Standing → Type 0
IsMadeOf m zs y = IsRewritten m zs y ⊎ (y.statement.guard ≡ None)

in_both : (ls : List Loop) (xs ys : List Part) (y : Standing) → In y (statements_in_parts ls (parts (xs ++ ys)))
    → In y (statements_in_parts ls (parts xs)) ⊎ In y (statements_in_parts ls (parts ys))
in_both ls [] ys y i = inr i
in_both ls (x ∷ xs) ys y i = by (In-append y (statements_in ls x) (statements_in_parts ls (parts (xs ++ ys))) i) (λ j. in_both ls xs ys y j)
  where
    by : In y (statements_in ls x) ⊎ In y (statements_in_parts ls (parts (xs ++ ys)))
        → (In y (statements_in_parts ls (parts (xs ++ ys))) → In y (statements_in_parts ls (parts xs)) ⊎ In y (statements_in_parts ls (parts ys)))
        → In y (statements_in ls x ++ statements_in_parts ls (parts xs)) ⊎ In y (statements_in_parts ls (parts ys))
    by (inl j) f = inl (In-left y (statements_in ls x) (statements_in_parts ls (parts xs)) j)
    by (inr j) f = on (f j)
      where
        on : In y (statements_in_parts ls (parts xs)) ⊎ In y (statements_in_parts ls (parts ys))
            → In y (statements_in ls x ++ statements_in_parts ls (parts xs)) ⊎ In y (statements_in_parts ls (parts ys))
        on (inl k) = inl (In-right y (statements_in ls x) (statements_in_parts ls (parts xs)) k)
        on (inr k) = inr k

copy_alone : (line n : ℕ) (ls : List Loop) (os : List Private) (y : Standing) → In y (statements_in_parts ls (parts (copies_in line n os))) → y.statement.guard ≡ None
copy_alone line n ls [] y i = absurd i
copy_alone line n ls (p ∷ os) y i = by (is_copied_in n p) i (λ j. copy_alone line n ls os y j)
  where
    by : (b : Bool) → In y (statements_in_parts ls (parts (cond b (Run (copied line p) ∷ []) [] ++ copies_in line n os)))
        → (In y (statements_in_parts ls (parts (copies_in line n os))) → y.statement.guard ≡ None) → y.statement.guard ≡ None
    by true (inl e) f = ap (λ (z : Standing). z.statement.guard) e
    by true (inr j) f = f j
    by false j f = f j

module _ (line : ℕ) (m : Making) (own : List Private) where
  more : (xs zs : List Standing) (y : Standing) → ((x : Standing) → In x xs → In x zs) → IsMadeOf m xs y → IsMadeOf m zs y
  more xs zs y f (inl h) = inl (record { first = h.first; inside = f h.first h.inside; is = h.is })
  more xs zs y f (inr h) = inr h

  mutual
    of_part : (ls : List Loop) (q : Part) → IsPlain q → (y : Standing) → In y (statements_in ls (expanded_part line m own q)) → IsMadeOf m (statements_in ls q) y
    of_part ls (Run g) plain y (inl e) = inl (record { first = record { loops = ls; statement = g }; inside = inl refl; is = e })
    of_part ls (Run g) plain y (inr j) = absurd j
    of_part ls (Turns l qs) plain y i =
        by (in_both (ls ++ l ∷ []) (expanded_parts line m own qs) (copies_in line l.number own) y i) (λ j. of_parts (ls ++ l ∷ []) qs plain.1 y j)
      where
        by : In y (statements_in_parts (ls ++ l ∷ []) (parts (expanded_parts line m own qs))) ⊎ In y (statements_in_parts (ls ++ l ∷ []) (parts (copies_in line l.number own)))
            → (In y (statements_in_parts (ls ++ l ∷ []) (parts (expanded_parts line m own qs))) → IsMadeOf m (statements_in_parts (ls ++ l ∷ []) qs) y) → IsMadeOf m (statements_in_parts (ls ++ l ∷ []) qs) y
        by (inl j) f = f j
        by (inr j) f = inr (copy_alone line l.number (ls ++ l ∷ []) own y j)
    of_part ls (Choice bs qs) plain y i = absurd plain
    of_part ls (Label k) plain y i = absurd plain
    of_part ls (Jump k) plain y i = absurd plain

    of_parts : (ls : List Loop) (qs : Parts) → ArePlain qs → (y : Standing) → In y (statements_in_parts ls (parts (expanded_parts line m own qs))) → IsMadeOf m (statements_in_parts ls qs) y
    of_parts ls no_parts plain y i = absurd i
    of_parts ls (part q qs) plain y i =
        by (In-append y (statements_in ls (expanded_part line m own q)) (statements_in_parts ls (parts (expanded_parts line m own qs))) i) (λ j. of_part ls q plain.0 y j) (λ j. of_parts ls qs plain.1 y j)
      where
        by : In y (statements_in ls (expanded_part line m own q)) ⊎ In y (statements_in_parts ls (parts (expanded_parts line m own qs)))
            → (In y (statements_in ls (expanded_part line m own q)) → IsMadeOf m (statements_in ls q) y) → (In y (statements_in_parts ls (parts (expanded_parts line m own qs))) → IsMadeOf m (statements_in_parts ls qs) y)
            → IsMadeOf m (statements_in ls q ++ statements_in_parts ls qs) y
        by (inl j) f g = more (statements_in ls q) (statements_in ls q ++ statements_in_parts ls qs) y (λ x k. In-left x (statements_in ls q) (statements_in_parts ls qs) k) (f j)
        by (inr j) f g = more (statements_in_parts ls qs) (statements_in ls q ++ statements_in_parts ls qs) y (λ x k. In-right x (statements_in ls q) (statements_in_parts ls qs) k) (g j)

pub body_is : (m : Nest) → nest_statements (expanded m) ≡ statements_in [] (expanded_part m.line (expanding (private_scalars m)) (own_of m) m.body)
unfolding with_made_arrays with_parts
body_is m = refl

pub statement_made : (m : Nest) → IsPlain m.body → (y : Standing) → In y (nest_statements (expanded m)) → IsMadeOf (expanding (private_scalars m)) (nest_statements m) y
statement_made m plain y i = of_part m.line (expanding (private_scalars m)) (own_of m) [] m.body plain y (subst (In y) (body_is m) i)

-- ---- loops

numbers-round : (os : List Loop) → numbers_round (map round_loop os) ≡ numbers_of os
numbers-round [] = refl
numbers-round (o ∷ os) = ap (λ ns. o.number ∷ ns) (numbers-round os)

-- loops that have numbers of their own are the same where these are
same_loops : (all : List Loop) → Distinct (numbers_of all) → (ls ks : List Loop) → ((o : Loop) → In o ls → In o all) → ((o : Loop) → In o ks → In o all) → numbers_of ls ≡ numbers_of ks → ls ≡ ks
same_loops all once [] [] f g e = refl
same_loops all once [] (k ∷ ks) f g e = cc
same_loops all once (l ∷ ls) [] f g e = cc
same_loops all once (l ∷ ls) (k ∷ ks) f g e =
    let head : l.number ≡ k.number = cc in
    let tail : numbers_of ls ≡ numbers_of ks = cc in
    ap₂ (λ (o : Loop) (os : List Loop). o ∷ os)
    (one (sym (loop_there all l once (f l (inl refl))) ∙ (ap (loop_numbered all) head ∙ loop_there all k once (g k (inl refl)))))
    (same_loops all once ls ks (λ o i. f o (inr i)) (λ o i. g o (inr i)) tail)
  where
    one : ◌≡◌ {A = Option Loop} (Some l) (Some k) → l ≡ k
    one h = cc

module _ (m : Nest) (plain : IsPlain m.body) (once : Distinct (numbers_of (nest_loops m))) where
  outer : (y : Standing) → In y (nest_statements m) → (o : Loop) → In o y.loops → In o (nest_loops m)
  outer y i o j = by (round_in [] m.body plain y i o j)
    where
      by : In o [] ⊎ In o (nest_loops m) → In o (nest_loops m)
      by (inl k) = absurd k
      by (inr k) = k

  -- a private scalar's loops are those round each statement in which it stands
  pub loops_round : (p : Private) → In p (private_scalars m) → (y : Standing) → In y (nest_statements m) → Stands p.name y → p.loops ≡ map round_loop y.loops
  loops_round p i y j st = by (In-append y f.before (f.standing ∷ f.behind) (subst (In y) f.splits j))
    where
      known : private_among m p.name (nest_statements m) ≡ Some p
      known = in_privates m (names_written [] (nest_statements m)) p i

      f : First m p.name p (nest_statements m)
      f = has_first m p.name p (nest_statements m) known

      here : In f.standing (nest_statements m)
      here = subst (In f.standing) (sym f.splits) (in_middle f.before f.standing f.behind)

      start : p.loops ≡ map round_loop f.standing.loops
      start = (first_begins m p.name p f.before f.standing f.behind (ap (private_among m p.name) (sym f.splits) ∙ known) f.none f.stands).1.loops

      same : numbers_of f.standing.loops ≡ numbers_of y.loops → p.loops ≡ map round_loop y.loops
      same e = start ∙ ap (map round_loop) (same_loops (nest_loops m) once f.standing.loops y.loops (outer f.standing here) (outer y j) e)

      split : (ss : List Standing) → In y ss → (xs : List Standing) × (zs : List Standing) × (ss ≡ xs ++ y ∷ zs)
      split [] k = absurd k
      split (s ∷ ss) (inl e) = ([], ss, ap (λ t. t ∷ ss) (sym e))
      split (s ∷ ss) (inr k) = let r = split ss k in (s ∷ r.0, r.1, ap (λ ts. s ∷ ts) r.2)

      behind : In y f.behind → p.loops ≡ map round_loop y.loops
      behind k =
          let r = split f.behind k in
          let whole : nest_statements m ≡ (f.before ++ f.standing ∷ r.0) ++ y ∷ r.1
          = f.splits ∙ (ap (λ ts. f.before ++ f.standing ∷ ts) r.2 ∙ sym (append_assoc f.before (f.standing ∷ r.0) (y ∷ r.1))) in
          same (sym (numbers-round f.standing.loops) ∙ (ap numbers_round (sym start)
          ∙ further_stays m p.name p (f.before ++ f.standing ∷ r.0) y r.1 (ap (private_among m p.name) (sym whole) ∙ known) f.standing (in_middle f.before f.standing r.0) f.stands st))

      by : In y f.before ⊎ In y (f.standing ∷ f.behind) → p.loops ≡ map round_loop y.loops
      by (inl k) = let no : true ≡ false = sym st ∙ f.none y k in cc
      by (inr (inl e)) = start ∙ ap (λ (z : Standing). map round_loop z.loops) (sym e)
      by (inr (inr k)) = behind k
