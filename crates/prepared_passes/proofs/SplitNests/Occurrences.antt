-- The references of statements whose reads are copied, and of the copies: those of the statement, and elements.
use mathlib.Core.List.{reverse_aux}
use Rattle.std.proofs.Common.{◌≡◌, ◌⊎◌, inl, inr, refl, ap, ◌∙◌, subst, ℕ, ◌+◌, ◌≤◌, ◌<◌, Bool, true, false, not, ◌&&◌, List, [], ◌∷◌, ◌++◌, map, reverse, length, length-append, arith}
use Rattle.nest.specs.Plain.{Guarded, Loop, Nest}
use Rattle.nest_order.proofs.orders.Lists.{In-append, In-left, In-right}
use Rattle.nest_order.specs.orders.Lists.{In}
use Rattle.nest_order.specs.runs.Touched.{touched_in, references_in_each, touched_in_guard, touched_in_subscripts}
use Rattle.prepared_passes.specs.expansion.Left.{references_touched}
use Rattle.tree.specs.Plain.{Apply, Binary, Constructor, Expression, Expressions, Logic, Named, Number, Only, Reduce, Reference}
use Rattle.tree.specs.Plain.{Reshape, Section, Spread, Subscript, Subscripts, Transpose, Unary, expression, no_expressions}
use Rattle.tree.specs.Plain.{no_subscripts, subscript, subscripts}
use Rattle.node_splitting.specs.Arrays.{variable_subscript}
use Rattle.node_splitting.specs.Counts.{count, count_subscript, first_in_left, first_in_right}
use Rattle.node_splitting.specs.Reads.{read_as_expression, behind, but_whole, read_copied, is_copied, itself_or, read_or, reads_in, reads_in_left, reads_in_right, reads_in_statement, reads_of, reads_of_all, reads_of_subscript, split_in, split_of, split_of_all, split_statement}
use Rattle.prepared_passes.proofs.SplitNests.Reading.{Passes, all_read, all_read_in, among_true}
use Rattle.prepared_passes.proofs.SplitNests.Standings.{IsCopy}

-- ---- subscripts that are variables of loops stay, and nothing in them is copied

module _ (loops : List (List ℕ)) (may : ℕ → Bool) (element : ℕ → Reference) where
  not_copied : (q : ℕ) (v : List ℕ) → In v loops → is_copied loops may q v no_subscripts ≡ false
  not_copied q v i = ap (λ b. not b && may q) (among_true loops v i)

  abbrev Stays : List Subscript → Type 0
  Stays ss = (q c : ℕ) → split_in loops may element q c (subscripts ss) ≡ subscripts ss

  abbrev HasNone : List Subscript → Type 0
  HasNone ss = (q : ℕ) → reads_in loops may q (subscripts ss) ≡ []

  stays_onto : (vs : List (List ℕ)) (ss : List Subscript) → ((v : List ℕ) → In v vs → In v loops) → Stays ss → Stays (reverse_aux (map variable_subscript vs) ss)
  stays_onto [] ss f h = h
  stays_onto (v ∷ vs) ss f h = stays_onto vs (variable_subscript v ∷ ss) (λ w i. f w (inr i)) (λ q c. one q c)
    where
      one : (q c : ℕ) → split_in loops may element q c (subscripts (variable_subscript v ∷ ss)) ≡ subscripts (variable_subscript v ∷ ss)
      one q c =
          ap (λ b. subscript (Only (read_or b (element c) (Named v no_subscripts)))
          (split_in loops may element (q + count_subscript loops (variable_subscript v)) (c + length (reads_of_subscript loops may q (variable_subscript v))) (subscripts ss)))
          (not_copied q v (f v (inl refl)))
          ∙ ap (subscript (variable_subscript v)) (h (q + count_subscript loops (variable_subscript v)) (c + length (reads_of_subscript loops may q (variable_subscript v))))

  pub variables_stay : (vs : List (List ℕ)) → ((v : List ℕ) → In v vs → In v loops) → (q c : ℕ)
      → split_in loops may element q c (subscripts (reverse (map variable_subscript vs))) ≡ subscripts (reverse (map variable_subscript vs))
  variables_stay vs f = stays_onto vs [] f (λ q c. refl)

  none_onto : (vs : List (List ℕ)) (ss : List Subscript) → ((v : List ℕ) → In v vs → In v loops) → HasNone ss → HasNone (reverse_aux (map variable_subscript vs) ss)
  none_onto [] ss f h = h
  none_onto (v ∷ vs) ss f h = none_onto vs (variable_subscript v ∷ ss) (λ w i. f w (inr i)) (λ q. one q)
    where
      one : (q : ℕ) → reads_in loops may q (subscripts (variable_subscript v ∷ ss)) ≡ []
      one q =
          ap (λ b. itself_or b (record { name = v; subscripts = no_subscripts }) [] ++ reads_in loops may (q + count_subscript loops (variable_subscript v)) (subscripts ss)) (not_copied q v (f v (inl refl)))
          ∙ h (q + count_subscript loops (variable_subscript v))

  pub variables_have_none : (vs : List (List ℕ)) → ((v : List ℕ) → In v vs → In v loops) → (q : ℕ) → reads_in loops may q (subscripts (reverse (map variable_subscript vs))) ≡ []
  variables_have_none vs f = none_onto vs [] f (λ q. refl)

  -- ---- what stands where reads were copied

  -- one of these, with its subscripts split
  pub record IsSplitOf (rs : List Reference) (r : Reference) : Type 0 where
    pub first : Reference
    pub inside : In first rs
    pub name : r.name ≡ first.name
    pub place : ℕ
    pub from : ℕ
    pub subscripts : r.subscripts ≡ split_in loops may element place from first.subscripts

  -- or a reference of an element, whose number is in these limits
  pub record IsOfElement (low high : ℕ) (r : Reference) : Type 0 where
    pub number : ℕ
    pub least : low ≤ number
    pub below : number < high
    pub among : In r (touched_in (read_as_expression (element number)))

  abbrev pub CameFrom : ℕ → ℕ → List Reference → Reference → Type 0
  CameFrom low high rs r = IsSplitOf rs r ⊎ IsOfElement low high r

  more : (low high a b : ℕ) → low ≤ a → b ≤ high → (rs us : List Reference) (r : Reference) → ((x : Reference) → In x rs → In x us) → CameFrom a b rs r → CameFrom low high us r
  more low high a b least most rs us r f (inl h) = inl (record { first = h.first; inside = f h.first h.inside; name = h.name; place = h.place; from = h.from; subscripts = h.subscripts })
  more low high a b least most rs us r f (inr h) =
      let one = h.least in
      let two = h.below in
      inr (record { number = h.number; least = omega (arith, least, one); below = omega (arith, most, two); among = h.among })

  of_two : (c : ℕ) (reads1 reads2 : List Reference) (xs ys rs us : List Reference) (r : Reference) → (In r xs → CameFrom c (c + length reads1) rs r)
      → (In r ys → CameFrom (c + length reads1) ((c + length reads1) + length reads2) us r) → In r (xs ++ ys) → CameFrom c (c + length (reads1 ++ reads2)) (rs ++ us) r
  of_two c reads1 reads2 xs ys rs us r f g i = by (In-append r xs ys i)
    where
      by : In r xs ⊎ In r ys → CameFrom c (c + length (reads1 ++ reads2)) (rs ++ us) r
      by (inl j) =
          let all = length-append reads1 reads2 in
          more c (c + length (reads1 ++ reads2)) c (c + length reads1) (omega arith) (omega (arith, all)) rs (rs ++ us) r (λ x k. In-left x rs us k) (f j)
      by (inr j) =
          let all = length-append reads1 reads2 in
          more c (c + length (reads1 ++ reads2)) (c + length reads1) ((c + length reads1) + length reads2) (omega arith) (omega (arith, all)) us (rs ++ us) r (λ x k. In-right x rs us k) (g j)

  named : (b : Bool) (q c : ℕ) (x : List ℕ) (ss : Subscripts) (r : Reference)
      → (In r (touched_in_subscripts (split_in loops may element q c ss)) → CameFrom c (c + length (reads_in loops may q ss)) (touched_in_subscripts ss) r)
      → In r (touched_in (read_or b (element c) (Named x (split_in loops may element q c ss))))
      → CameFrom c (c + length (itself_or b (record { name = x; subscripts = ss }) (reads_in loops may q ss))) (touched_in (Named x ss)) r
  named true q c x ss r h i = inr (record { number = c; least = omega arith; below = omega arith; among = i })
  named false q c x ss r h (inl e) = inl (record {
    first = record { name = x; subscripts = ss };
    inside = inl refl;
    name = ap (λ (z : Reference). z.name) e;
    place = q;
    from = c;
    subscripts = ap (λ (z : Reference). z.subscripts) e;
  })
  named false q c x ss r h (inr i) =
      more c (c + length (reads_in loops may q ss)) c (c + length (reads_in loops may q ss)) (omega arith) (omega arith) (touched_in_subscripts ss) (touched_in (Named x ss)) r (λ y k. inr k) (h i)

  mutual
    pub of_split : (q c : ℕ) (e : Expression) (r : Reference) → In r (touched_in (split_of loops may element q c e)) → CameFrom c (c + length (reads_of loops may q e)) (touched_in e) r
    of_split q c (Number n) r i = absurd i
    of_split q c (Logic b) r i = absurd i
    of_split q c (Named x ss) r i =
        named (is_copied loops may q x ss) (behind loops may q x ss) c x ss r (λ j. of_split_in (behind loops may q x ss) c ss r j) i
    of_split q c (Unary o a) r i = of_split q c a r i
    of_split q c (Binary o a b) r i =
        of_two c (reads_of loops may q a) (reads_of loops may (q + count loops a) b)
        (touched_in (split_of loops may element q c a)) (touched_in (split_of loops may element (q + count loops a) (c + length (reads_of loops may q a)) b))
        (touched_in a) (touched_in b) r (λ j. of_split q c a r j) (λ j. of_split (q + count loops a) (c + length (reads_of loops may q a)) b r j) i
    of_split q c (Apply f es) r i = of_split_all q c es r i
    of_split q c (Constructor es ls) r i = absurd i
    of_split q c (Spread a n e) r i = absurd i
    of_split q c (Transpose a) r i = absurd i
    of_split q c (Reshape a es) r i = absurd i
    of_split q c (Reduce o a) r i = absurd i

    of_split_all : (q c : ℕ) (es : Expressions) (r : Reference) → In r (references_in_each (split_of_all loops may element q c es))
        → CameFrom c (c + length (reads_of_all loops may q es)) (references_in_each es) r
    of_split_all q c no_expressions r i = absurd i
    of_split_all q c (expression e es) r i =
        of_two c (reads_of loops may q e) (reads_of_all loops may (q + count loops e) es)
        (touched_in (split_of loops may element q c e)) (references_in_each (split_of_all loops may element (q + count loops e) (c + length (reads_of loops may q e)) es))
        (touched_in e) (references_in_each es) r (λ j. of_split q c e r j) (λ j. of_split_all (q + count loops e) (c + length (reads_of loops may q e)) es r j) i

    pub of_split_in : (q c : ℕ) (ss : Subscripts) (r : Reference) → In r (touched_in_subscripts (split_in loops may element q c ss))
        → CameFrom c (c + length (reads_in loops may q ss)) (touched_in_subscripts ss) r
    of_split_in q c no_subscripts r i = absurd i
    of_split_in q c (subscript (Only e) ss) r i =
        of_two c (reads_of loops may q e) (reads_in loops may (q + count loops e) ss)
        (touched_in (split_of loops may element q c e)) (touched_in_subscripts (split_in loops may element (q + count loops e) (c + length (reads_of loops may q e)) ss))
        (touched_in e) (touched_in_subscripts ss) r (λ j. of_split q c e r j) (λ j. of_split_in (q + count loops e) (c + length (reads_of loops may q e)) ss r j) i
    of_split_in q c (subscript (Section a b d) ss) r i =
        of_two c [] (reads_in loops may (q + count_subscript loops (Section a b d)) ss) []
        (touched_in_subscripts (split_in loops may element (q + count_subscript loops (Section a b d)) (c + 0) ss))
        [] (touched_in_subscripts ss) r (λ j. absurd j) (λ j. of_split_in (q + count_subscript loops (Section a b d)) (c + 0) ss r j) i

-- ---- reads

module _ (rs : List Reference) where
  abbrev AllThere : List Reference → Type 0
  AllThere xs = (r : Reference) → In r xs → In r rs

  references_pass : Passes (λ e. AllThere (touched_in e)) (λ es. AllThere (references_in_each es)) (λ ss. AllThere (touched_in_subscripts ss))
  references_pass = record {
    named = λ x ss h y i. h y (inr i);
    unary = λ o a h. h;
    binary = λ o a b h. (λ y i. h y (In-left y (touched_in a) (touched_in b) i), λ y i. h y (In-right y (touched_in a) (touched_in b) i));
    apply = λ f es h. h;
    each = λ e es h. (λ y i. h y (In-left y (touched_in e) (references_in_each es) i), λ y i. h y (In-right y (touched_in e) (references_in_each es) i));
    only = λ e ss h y i. h y (In-left y (touched_in e) (touched_in_subscripts ss) i);
    more = λ e ss h y i. h y (In-right y (touched_in e) (touched_in_subscripts ss) i);
    section = λ a b c ss h. h;
  }

-- ---- statements

module _ (loops : List (List ℕ)) (may : ℕ → Bool) (element : ℕ → Reference) (g : Guarded) where
  abbrev allowed : ℕ → Bool
  allowed = but_whole loops may g

  in_guard : (r : Reference) → In r (touched_in_guard g.guard) → In r (references_touched g)
  in_guard r i = inr (In-left r (touched_in_guard g.guard) (touched_in_subscripts g.left.subscripts ++ touched_in g.right) i)

  in_subscripts : (r : Reference) → In r (touched_in_subscripts g.left.subscripts) → In r (references_touched g)
  in_subscripts r i =
      inr (In-right r (touched_in_guard g.guard) (touched_in_subscripts g.left.subscripts ++ touched_in g.right)
      (In-left r (touched_in_subscripts g.left.subscripts) (touched_in g.right) i))

  in_right : (r : Reference) → In r (touched_in g.right) → In r (references_touched g)
  in_right r i =
      inr (In-right r (touched_in_guard g.guard) (touched_in_subscripts g.left.subscripts ++ touched_in g.right)
      (In-right r (touched_in_subscripts g.left.subscripts) (touched_in g.right) i))

  -- a reference of the statement as it was, one with its subscripts split, or one of an element
  abbrev pub StoodIn : ℕ → Reference → Type 0
  StoodIn c r = In r (references_touched g) ⊎ CameFrom loops (but_whole loops may g) element c (c + length (reads_in_statement loops may g)) (references_touched g) r

  -- a reference of what is copied stands in the statement
  pub read_there : (x : Reference) → In x (reads_in_statement loops may g) → (r : Reference) → In r (touched_in (read_as_expression x)) → In r (references_touched g)
  read_there x i r j = by (In-append x (reads_in_left loops may g) (reads_in_right loops may g) i)
    where
      by : In x (reads_in_left loops may g) ⊎ In x (reads_in_right loops may g) → In r (references_touched g)
      by (inl k) =
          (all_read_in loops (but_whole loops may g) (λ e. AllThere (references_touched g) (touched_in e)) (λ es. AllThere (references_touched g) (references_in_each es))
          (λ ss. AllThere (references_touched g) (touched_in_subscripts ss)) (references_pass (references_touched g)) (first_in_left loops g) g.left.subscripts (λ y h. in_subscripts y h) x k).good r j
      by (inr k) =
          (all_read loops (but_whole loops may g) (λ e. AllThere (references_touched g) (touched_in e)) (λ es. AllThere (references_touched g) (references_in_each es))
          (λ ss. AllThere (references_touched g) (touched_in_subscripts ss)) (references_pass (references_touched g)) (first_in_right loops g) g.right (λ y h. in_right y h) x k).good r j

  -- the references of a copy
  pub of_copy : (c j : ℕ) → c ≤ j → j < c + length (reads_in_statement loops may g) → (x : Reference) → In x (reads_in_statement loops may g) → (r : Reference)
      → In r (references_touched (read_copied element g j x)) → StoodIn c r
  of_copy c j least below x i r (inl e) = inr (inr (record { number = j; least = least; below = below; among = inl e }))
  of_copy c j least below x i r (inr h) = by (In-append r (touched_in_guard g.guard) (touched_in_subscripts (element j).subscripts ++ touched_in (read_as_expression x)) h)
    where
      rest : In r (touched_in_subscripts (element j).subscripts) ⊎ In r (touched_in (read_as_expression x)) → StoodIn c r
      rest (inl k) = inr (inr (record { number = j; least = least; below = below; among = inr k }))
      rest (inr k) = inl (read_there x i r k)

      by : In r (touched_in_guard g.guard) ⊎ In r (touched_in_subscripts (element j).subscripts ++ touched_in (read_as_expression x)) → StoodIn c r
      by (inl k) = inl (in_guard r k)
      by (inr k) = rest (In-append r (touched_in_subscripts (element j).subscripts) (touched_in (read_as_expression x)) k)

  abbrev left_now : ℕ → Subscripts
  left_now c = split_in loops (but_whole loops may g) element (first_in_left loops g) c g.left.subscripts

  abbrev right_now : ℕ → Expression
  right_now c = split_of loops (but_whole loops may g) element (first_in_right loops g) (c + length (reads_in_left loops may g)) g.right

  -- and of the statement with what is read in their place
  pub of_statement : (c : ℕ) (r : Reference) → In r (references_touched (split_statement loops may g element c)) → StoodIn c r
  of_statement c r (inl e) = inr (inl (record {
    first = g.left;
    inside = inl refl;
    name = ap (λ (z : Reference). z.name) e;
    place = first_in_left loops g;
    from = c;
    subscripts = ap (λ (z : Reference). z.subscripts) e;
  }))
  of_statement c r (inr h) = by (In-append r (touched_in_guard g.guard) (touched_in_subscripts (left_now c) ++ touched_in (right_now c)) h)
    where
      rest : In r (touched_in_subscripts (left_now c) ++ touched_in (right_now c)) → CameFrom loops (but_whole loops may g) element c (c + length (reads_in_statement loops may g)) (touched_in_subscripts g.left.subscripts ++ touched_in g.right) r
      rest k =
          of_two loops (but_whole loops may g) element c (reads_in_left loops may g) (reads_in_right loops may g) (touched_in_subscripts (left_now c)) (touched_in (right_now c))
          (touched_in_subscripts g.left.subscripts) (touched_in g.right) r
          (λ j. of_split_in loops (but_whole loops may g) element (first_in_left loops g) c g.left.subscripts r j)
          (λ j. of_split loops (but_whole loops may g) element (first_in_right loops g) (c + length (reads_in_left loops may g)) g.right r j) k

      there : (y : Reference) → In y (touched_in_subscripts g.left.subscripts ++ touched_in g.right) → In y (references_touched g)
      there y i = inr (In-right y (touched_in_guard g.guard) (touched_in_subscripts g.left.subscripts ++ touched_in g.right) i)

      by : In r (touched_in_guard g.guard) ⊎ In r (touched_in_subscripts (left_now c) ++ touched_in (right_now c)) → StoodIn c r
      by (inl k) = inl (in_guard r k)
      by (inr k) =
          inr (more loops (but_whole loops may g) element c (c + length (reads_in_statement loops may g)) c (c + length (reads_in_statement loops may g)) (omega arith) (omega arith)
          (touched_in_subscripts g.left.subscripts ++ touched_in g.right) (references_touched g) r there (rest k))

  -- of whichever it is
  pub raw_stood : (n : Nest) (ls : List Loop) (c : ℕ) (raw : Guarded) → IsCopy n ls element g c (reads_in_statement loops may g) raw ⊎ (raw ≡ split_statement loops may g element c)
      → (r : Reference) → In r (references_touched raw) → StoodIn c r
  raw_stood n ls c raw (inl k) r i = of_copy c k.number k.low k.high k.read k.among r (subst (λ (x : Guarded). In r (references_touched x)) k.is i)
  raw_stood n ls c raw (inr e) r i = of_statement c r (subst (λ (x : Guarded). In r (references_touched x)) e i)

  pub raw_guard : (n : Nest) (ls : List Loop) (c : ℕ) (raw : Guarded) → IsCopy n ls element g c (reads_in_statement loops may g) raw ⊎ (raw ≡ split_statement loops may g element c)
      → raw.guard ≡ g.guard
  raw_guard n ls c raw (inl k) = ap (λ (x : Guarded). x.guard) k.is
  raw_guard n ls c raw (inr e) = ap (λ (x : Guarded). x.guard) e
