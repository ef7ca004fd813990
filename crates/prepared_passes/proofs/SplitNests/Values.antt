-- Values where reads are copied, whichever these are.
use Rattle.std.proofs.Common.{◌≡◌, sym, ap, ◌∙◌, subst, ℕ, suc, ◌+◌, ℤ, Bool, true, false, List, [], ◌∷◌, ◌++◌, length, Ok, arith}
use Rattle.std.specs.List.{AllByRecursion}
use Rattle.tree.specs.Operators.{apply, call, as_number}
use Rattle.tree.specs.Plain.{Expression, Number, Logic, Named, Unary, Binary, Apply, Constructor, Spread, Transpose, Reshape, Reduce, Expressions, no_expressions, expression, Only, Section, Subscripts, no_subscripts, subscript, Reference}
use Rattle.tree.specs.Steps.{◌>>=◌}
use Rattle.tree.specs.declared.ops.Value.{Value}
use Rattle.meaning.specs.Reads.{names_in, names_in_each, names_in_subscripts}
use Rattle.meaning.specs.Store.{Store, Cell, cell_at, cell_in}
use Rattle.meaning.specs.Value.{value_of, values_of, subscript_values, subscript_value}
use Rattle.meaning.proofs.CellFrame.{first_part, second_part}
use Rattle.rewrite.specs.Following.{sequential}
use Rattle.rewrite.proofs.Values.{parted, joined, cell_in-named}
use Rattle.node_splitting.specs.Counts.{count}
use Rattle.node_splitting.specs.Reads.{read_as_expression, behind, is_copied, itself_or, read_or, reads_in, reads_of, reads_of_all, split_in, split_of, split_of_all}

module _ (bits : ℕ) (s u : Store) where
  -- a name that both stores have alike
  pub record IsSame (x : List ℕ) : Type 0 where
    pub bounds : s.bounds x ≡ u.bounds x
    pub held : (c : Cell) → c.name ≡ x → s.held c ≡ u.held c

  -- an element of a name that both have
  pub same_element : (x : List ℕ) (ps qs : Subscripts) → IsSame x
      → ((is : List ℤ) → subscript_values (sequential bits) ps s ≡ Ok is → subscript_values (sequential bits) qs u ≡ Ok is)
      → (v : Value) → value_of (sequential bits) (Named x ps) s ≡ Ok v → value_of (sequential bits) (Named x qs) u ≡ Ok v
  same_element x ps qs same more v e =
      let p = parted (subscript_values (sequential bits) ps s) (λ is. do c ← cell_at x is s; Ok (s.held c)) v e in
      let c = parted (cell_at x p.part s) (λ c. Ok (s.held c)) v p.second in
      let name = cell_in-named (s.bounds x) x p.part c.part c.first in
      joined (subscript_values (sequential bits) qs u) (λ is. do c ← cell_at x is u; Ok (u.held c)) p.part v (more p.part p.first)
      (joined (cell_at x p.part u) (λ c. Ok (u.held c)) c.part v (ap (λ b. cell_in b x p.part) (sym same.bounds) ∙ c.first)
      (ap Ok (sym (same.held c.part name)) ∙ c.second))

pub both_parts : {A : Type 0} (P : A → Type 0) (xs ys : List A) → AllByRecursion P xs → AllByRecursion P ys → AllByRecursion P (xs ++ ys)
both_parts P [] ys h k = k
both_parts P (x ∷ xs) ys h k = (h.0, both_parts P xs ys h.1 k)

module _ (bits : ℕ) (element : ℕ → Reference) (s u : Store) where
  -- the copies from a number on have the values of what they copy
  abbrev pub AreCopied : ℕ → List Reference → Type 0
  AreCopied c [] = Unit {0}
  AreCopied c (r ∷ rs) =
      ((v : Value) → value_of (sequential bits) (read_as_expression r) s ≡ Ok v → value_of (sequential bits) (read_as_expression (element c)) u ≡ Ok v) × AreCopied (suc c) rs

  pub first_copies : (c : ℕ) (xs ys : List Reference) → AreCopied c (xs ++ ys) → AreCopied c xs
  first_copies c [] ys h = tt
  first_copies c (x ∷ xs) ys h = (h.0, first_copies (suc c) xs ys h.1)

  pub second_copies : (c : ℕ) (xs ys : List Reference) → AreCopied c (xs ++ ys) → AreCopied (c + length xs) ys
  second_copies c [] ys h = let e : c ≡ c + 0 = omega arith in subst (λ m. AreCopied m ys) e h
  second_copies c (x ∷ xs) ys h =
      let e : suc c + length xs ≡ c + length (x ∷ xs) = omega arith in
      subst (λ m. AreCopied m ys) e (second_copies (suc c) xs ys h.1)

-- ---- the statement has its values

module _ (bits : ℕ) (loops : List (List ℕ)) (may : ℕ → Bool) (element : ℕ → Reference) (s u : Store) where
  abbrev Same : List ℕ → Type 0
  Same = IsSame bits s u

  abbrev Copied : ℕ → List Reference → Type 0
  Copied = AreCopied bits element s u

  chosen : (b : Bool) (c : ℕ) (x : List ℕ) (ps qs : Subscripts) (rest : List Reference) → Copied c (itself_or b (record { name = x; subscripts = ps }) rest) → Same x
      → (Copied c rest → (is : List ℤ) → subscript_values (sequential bits) ps s ≡ Ok is → subscript_values (sequential bits) qs u ≡ Ok is)
      → (v : Value) → value_of (sequential bits) (Named x ps) s ≡ Ok v → value_of (sequential bits) (read_or b (element c) (Named x qs)) u ≡ Ok v
  chosen true c x ps qs rest h same more v e = h.0 v e
  chosen false c x ps qs rest h same more v e = same_element bits s u x ps qs same (more h) v e

  mutual
    pub split_value : (q c : ℕ) (e : Expression) → AllByRecursion Same (names_in e) → Copied c (reads_of loops may q e)
        → (v : Value) → value_of (sequential bits) e s ≡ Ok v → value_of (sequential bits) (split_of loops may element q c e) u ≡ Ok v
    split_value q c (Number n) a h v e = e
    split_value q c (Logic b) a h v e = e
    split_value q c (Named x ps) a h v e =
        chosen (is_copied loops may q x ps) c x ps (split_in loops may element (behind loops may q x ps) c ps) (reads_in loops may (behind loops may q x ps) ps) h a.0
        (λ k. split_subscript_values (behind loops may q x ps) c ps a.1 k) v e
    split_value q c (Unary o a') a h v e =
        let p = parted (value_of (sequential bits) a' s) (λ x. apply o x x) v e in
        joined (value_of (sequential bits) (split_of loops may element q c a') u) (λ x. apply o x x) p.part v (split_value q c a' a h p.part p.first) p.second
    split_value q c (Binary o a' b) a h v e =
        let q2 = q + count loops a' in
        let c2 = c + length (reads_of loops may q a') in
        let p = parted (value_of (sequential bits) a' s) (λ x. do y ← value_of (sequential bits) b s; apply o x y) v e in
        let r = parted (value_of (sequential bits) b s) (λ y. apply o p.part y) v p.second in
        joined (value_of (sequential bits) (split_of loops may element q c a') u) (λ x. do y ← value_of (sequential bits) (split_of loops may element q2 c2 b) u; apply o x y) p.part v
        (split_value q c a' (first_part Same (names_in a') (names_in b) a) (first_copies bits element s u c (reads_of loops may q a') (reads_of loops may q2 b) h) p.part p.first)
        (joined (value_of (sequential bits) (split_of loops may element q2 c2 b) u) (λ y. apply o p.part y) r.part v
        (split_value q2 c2 b (second_part Same (names_in a') (names_in b) a) (second_copies bits element s u c (reads_of loops may q a') (reads_of loops may q2 b) h) r.part r.first) r.second)
    split_value q c (Apply f es) a h v e =
        let p = parted (values_of (sequential bits) es s) (λ xs. call f xs) v e in
        joined (values_of (sequential bits) (split_of_all loops may element q c es) u) (λ xs. call f xs) p.part v (split_values q c es a h p.part p.first) p.second
    split_value q c (Constructor es ls) a h v e = cc
    split_value q c (Spread a' k b) a h v e = cc
    split_value q c (Transpose a') a h v e = cc
    split_value q c (Reshape a' es) a h v e = cc
    split_value q c (Reduce r a') a h v e = cc

    split_values : (q c : ℕ) (es : Expressions) → AllByRecursion Same (names_in_each es) → Copied c (reads_of_all loops may q es)
        → (vs : List Value) → values_of (sequential bits) es s ≡ Ok vs → values_of (sequential bits) (split_of_all loops may element q c es) u ≡ Ok vs
    split_values q c no_expressions a h vs e = e
    split_values q c (expression b es) a h vs e =
        let q2 = q + count loops b in
        let c2 = c + length (reads_of loops may q b) in
        let p = parted (value_of (sequential bits) b s) (λ x. do xs ← values_of (sequential bits) es s; Ok (x ∷ xs)) vs e in
        let r = parted (values_of (sequential bits) es s) (λ xs. Ok (p.part ∷ xs)) vs p.second in
        joined (value_of (sequential bits) (split_of loops may element q c b) u) (λ x. do xs ← values_of (sequential bits) (split_of_all loops may element q2 c2 es) u; Ok (x ∷ xs)) p.part vs
        (split_value q c b (first_part Same (names_in b) (names_in_each es) a) (first_copies bits element s u c (reads_of loops may q b) (reads_of_all loops may q2 es) h) p.part p.first)
        (joined (values_of (sequential bits) (split_of_all loops may element q2 c2 es) u) (λ xs. Ok (p.part ∷ xs)) r.part vs
        (split_values q2 c2 es (second_part Same (names_in b) (names_in_each es) a) (second_copies bits element s u c (reads_of loops may q b) (reads_of_all loops may q2 es) h) r.part r.first) r.second)

    pub split_subscript_values : (q c : ℕ) (ps : Subscripts) → AllByRecursion Same (names_in_subscripts ps) → Copied c (reads_in loops may q ps)
        → (is : List ℤ) → subscript_values (sequential bits) ps s ≡ Ok is → subscript_values (sequential bits) (split_in loops may element q c ps) u ≡ Ok is
    split_subscript_values q c no_subscripts a h is e = e
    split_subscript_values q c (subscript (Only b) ps) a h is e =
        let q2 = q + count loops b in
        let c2 = c + length (reads_of loops may q b) in
        let p = parted (subscript_value (sequential bits) (Only b) s) (λ x. do xs ← subscript_values (sequential bits) ps s; Ok (x ∷ xs)) is e in
        let r = parted (subscript_values (sequential bits) ps s) (λ xs. Ok (p.part ∷ xs)) is p.second in
        let w = parted (value_of (sequential bits) b s) as_number p.part p.first in
        joined (subscript_value (sequential bits) (Only (split_of loops may element q c b)) u) (λ x. do xs ← subscript_values (sequential bits) (split_in loops may element q2 c2 ps) u; Ok (x ∷ xs)) p.part is
        (joined (value_of (sequential bits) (split_of loops may element q c b) u) as_number w.part p.part
        (split_value q c b (first_part Same (names_in b) (names_in_subscripts ps) a) (first_copies bits element s u c (reads_of loops may q b) (reads_in loops may q2 ps) h) w.part w.first) w.second)
        (joined (subscript_values (sequential bits) (split_in loops may element q2 c2 ps) u) (λ xs. Ok (p.part ∷ xs)) r.part is
        (split_subscript_values q2 c2 ps (second_part Same (names_in b) (names_in_subscripts ps) a) (second_copies bits element s u c (reads_of loops may q b) (reads_in loops may q2 ps) h) r.part r.first) r.second)
    split_subscript_values q c (subscript (Section l m n) ps) a h is e = cc

-- ---- where the statement has its value, so has all that is copied

module _ (bits : ℕ) (s : Store) where
  abbrev pub HasValue : Reference → Type 0
  HasValue r = (v : Value) × (value_of (sequential bits) (read_as_expression r) s ≡ Ok v)

module _ (bits : ℕ) (loops : List (List ℕ)) (may : ℕ → Bool) (s : Store) where
  abbrev Has : Reference → Type 0
  Has = HasValue bits s

  itself_or_inside : (b : Bool) (r : Reference) (rest : List Reference) → Has r → AllByRecursion Has rest → AllByRecursion Has (itself_or b r rest)
  itself_or_inside true r rest h k = (h, tt)
  itself_or_inside false r rest h k = k

  mutual
    pub reads_have_values : (q : ℕ) (e : Expression) (v : Value) → value_of (sequential bits) e s ≡ Ok v → AllByRecursion Has (reads_of loops may q e)
    reads_have_values q (Number n) v e = tt
    reads_have_values q (Logic b) v e = tt
    reads_have_values q (Named x ps) v e =
        let p = parted (subscript_values (sequential bits) ps s) (λ is. do c ← cell_at x is s; Ok (s.held c)) v e in
        itself_or_inside (is_copied loops may q x ps) (record { name = x; subscripts = ps }) (reads_in loops may (behind loops may q x ps) ps) (v, e)
        (subscript_reads_have_values (behind loops may q x ps) ps p.part p.first)
    reads_have_values q (Unary o a) v e = let p = parted (value_of (sequential bits) a s) (λ x. apply o x x) v e in reads_have_values q a p.part p.first
    reads_have_values q (Binary o a b) v e =
        let p = parted (value_of (sequential bits) a s) (λ x. do y ← value_of (sequential bits) b s; apply o x y) v e in
        let r = parted (value_of (sequential bits) b s) (λ y. apply o p.part y) v p.second in
        both_parts Has (reads_of loops may q a) (reads_of loops may (q + count loops a) b) (reads_have_values q a p.part p.first) (reads_have_values (q + count loops a) b r.part r.first)
    reads_have_values q (Apply f es) v e = let p = parted (values_of (sequential bits) es s) (λ xs. call f xs) v e in each_reads_have_values q es p.part p.first
    reads_have_values q (Constructor es ls) v e = tt
    reads_have_values q (Spread a k b) v e = tt
    reads_have_values q (Transpose a) v e = tt
    reads_have_values q (Reshape a es) v e = tt
    reads_have_values q (Reduce r a) v e = tt

    each_reads_have_values : (q : ℕ) (es : Expressions) (vs : List Value) → values_of (sequential bits) es s ≡ Ok vs → AllByRecursion Has (reads_of_all loops may q es)
    each_reads_have_values q no_expressions vs e = tt
    each_reads_have_values q (expression b es) vs e =
        let p = parted (value_of (sequential bits) b s) (λ x. do xs ← values_of (sequential bits) es s; Ok (x ∷ xs)) vs e in
        let r = parted (values_of (sequential bits) es s) (λ xs. Ok (p.part ∷ xs)) vs p.second in
        both_parts Has (reads_of loops may q b) (reads_of_all loops may (q + count loops b) es) (reads_have_values q b p.part p.first) (each_reads_have_values (q + count loops b) es r.part r.first)

    pub subscript_reads_have_values : (q : ℕ) (ps : Subscripts) (is : List ℤ) → subscript_values (sequential bits) ps s ≡ Ok is → AllByRecursion Has (reads_in loops may q ps)
    subscript_reads_have_values q no_subscripts is e = tt
    subscript_reads_have_values q (subscript (Only b) ps) is e =
        let p = parted (subscript_value (sequential bits) (Only b) s) (λ x. do xs ← subscript_values (sequential bits) ps s; Ok (x ∷ xs)) is e in
        let r = parted (subscript_values (sequential bits) ps s) (λ xs. Ok (p.part ∷ xs)) is p.second in
        let w = parted (value_of (sequential bits) b s) as_number p.part p.first in
        both_parts Has (reads_of loops may q b) (reads_in loops may (q + count loops b) ps) (reads_have_values q b w.part w.first)
        (subscript_reads_have_values (q + count loops b) ps r.part r.first)
    subscript_reads_have_values q (subscript (Section l m n) ps) is e = cc
