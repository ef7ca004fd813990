-- What holds of an expression, and of what stands in it, holds of each read of it that is copied.
use Rattle.std.proofs.Common.{◌≡◌, ◌⊎◌, inl, inr, refl, sym, ap, subst, ℕ, suc, ◌+◌, Bool, true, false, not, ◌&&◌, ◌||◌, List, [], ◌∷◌, ◌++◌, length, arith}
use Rattle.std.specs.Prelude.{is_some, ◌==◌}
use Rattle.std.specs.Str.{bytes_eq}
use Rattle.std.proofs.lemmas.Slice.Eq.{bytes_eq-Decides}
use Rattle.tree.specs.Plain.{Expression, Number, Logic, Named, Unary, Binary, Apply, Constructor, Spread, Transpose, Reshape, Reduce, Expressions, no_expressions, expression, Only, Section, Subscripts, no_subscripts, subscript, Reference}
use Rattle.tree.specs.declared.ops.Op.{Op}
use Rattle.tree.specs.declared.functions.Fun.{Fun}
use Rattle.meaning.specs.Reads.{names_in, names_in_each, names_in_subscripts}
use Rattle.nest_order.proofs.orders.Lists.{In-append, In-left, In-right}
use Rattle.nest_order.specs.orders.Lists.{In}
use Rattle.dependence_graph.specs.declared.graphs.Place.{Place}
use Rattle.dependence_graph.specs.nest_graph.References.{is_among}
use Rattle.nest.specs.Plain.{Guarded, Loop}
use Rattle.node_splitting.specs.Arrays.{extents_over}
use Rattle.node_splitting.specs.Counts.{count, count_subscript, first_in_left, first_in_right, is_counter, is_item, variables_from_outside}
use Rattle.node_splitting.specs.Reads.{read_as_expression, behind, but_whole, is_copied, itself_or, reads_in, reads_in_left, reads_in_right, reads_in_statement, reads_of, reads_of_all}
use Rattle.node_splitting.specs.Split.{may_in}

pub both_true : (a b : Bool) → (a && b) ≡ true → (a ≡ true) × (b ≡ true)
both_true true b e = (refl, e)
both_true false b e = cc

pub not_true : (a : Bool) → not a ≡ true → a ≡ false
not_true true e = cc
not_true false e = refl

pub among_true : (ys : List (List ℕ)) (x : List ℕ) → In x ys → is_among ys x ≡ true
among_true [] x i = absurd i
among_true (y ∷ ys) x (inl e) = ap (λ b. b || is_among ys x) ((bytes_eq-Decides y x).1 (sym e))
among_true (y ∷ ys) x (inr i) = by (bytes_eq y x) (among_true ys x i)
  where
    by : (b : Bool) → is_among ys x ≡ true → (b || is_among ys x) ≡ true
    by true h = refl
    by false h = h

-- what goes from an expression to what stands in it
pub record Passes (Good : Expression → Type 0) (GoodEach : Expressions → Type 0) (GoodIn : Subscripts → Type 0) : Type 0 where
  pub named : (x : List ℕ) (ss : Subscripts) → Good (Named x ss) → GoodIn ss
  pub unary : (o : Op) (a : Expression) → Good (Unary o a) → Good a
  pub binary : (o : Op) (a b : Expression) → Good (Binary o a b) → Good a × Good b
  pub apply : (f : Fun) (es : Expressions) → Good (Apply f es) → GoodEach es
  pub each : (e : Expression) (es : Expressions) → GoodEach (expression e es) → Good e × GoodEach es
  pub only : (e : Expression) (ss : Subscripts) → GoodIn (subscript (Only e) ss) → Good e
  pub more : (e : Expression) (ss : Subscripts) → GoodIn (subscript (Only e) ss) → GoodIn ss
  pub section : (a b c : Expression) (ss : Subscripts) → GoodIn (subscript (Section a b c) ss) → GoodIn ss

module _ (loops : List (List ℕ)) (may : ℕ → Bool) (Good : Expression → Type 0) (GoodEach : Expressions → Type 0) (GoodIn : Subscripts → Type 0) (passes : Passes Good GoodEach GoodIn) where
  -- a read that is copied
  pub record IsRead (r : Reference) : Type 0 where
    pub good : Good (read_as_expression r)
    pub counts_none : is_counter loops r.name r.subscripts ≡ false
    pub number : ℕ
    pub allowed : may number ≡ true

  abbrev AllRead : List Reference → Type 0
  AllRead rs = (r : Reference) → In r rs → IsRead r

  joined : (xs ys : List Reference) → AllRead xs → AllRead ys → AllRead (xs ++ ys)
  joined xs ys f g r i = by (In-append r xs ys i)
    where
      by : In r xs ⊎ In r ys → IsRead r
      by (inl j) = f r j
      by (inr j) = g r j

  itself : (q : ℕ) (x : List ℕ) (ss : Subscripts) (b : Bool) (inside : List Reference) → is_copied loops may q x ss ≡ b → Good (Named x ss) → AllRead inside
      → AllRead (itself_or b (record { name = x; subscripts = ss }) inside)
  itself q x ss false inside e g f r i = f r i
  itself q x ss true inside e g f r (inr i) = absurd i
  itself q x ss true inside e g f r (inl h) =
      let b = both_true (not (is_counter loops x ss)) (may q) e in
      subst IsRead (sym h) (record { good = g; counts_none = not_true (is_counter loops x ss) b.0; number = q; allowed = b.1 })

  mutual
    pub all_read : (q : ℕ) (e : Expression) → Good e → (r : Reference) → In r (reads_of loops may q e) → IsRead r
    all_read q (Number n) g r i = absurd i
    all_read q (Logic b) g r i = absurd i
    all_read q (Named x ss) g r i =
        itself q x ss (is_copied loops may q x ss) (reads_in loops may (behind loops may q x ss) ss) refl g (all_read_in (behind loops may q x ss) ss (passes.named x ss g)) r i
    all_read q (Unary o a) g r i = all_read q a (passes.unary o a g) r i
    all_read q (Binary o a b) g r i =
        let h = passes.binary o a b g in
        joined (reads_of loops may q a) (reads_of loops may (q + count loops a) b) (all_read q a h.0) (all_read (q + count loops a) b h.1) r i
    all_read q (Apply f es) g r i = all_read_each q es (passes.apply f es g) r i
    all_read q (Constructor es ls) g r i = absurd i
    all_read q (Spread a n e) g r i = absurd i
    all_read q (Transpose a) g r i = absurd i
    all_read q (Reshape a es) g r i = absurd i
    all_read q (Reduce o a) g r i = absurd i

    all_read_each : (q : ℕ) (es : Expressions) → GoodEach es → (r : Reference) → In r (reads_of_all loops may q es) → IsRead r
    all_read_each q no_expressions g r i = absurd i
    all_read_each q (expression e es) g r i =
        let h = passes.each e es g in
        joined (reads_of loops may q e) (reads_of_all loops may (q + count loops e) es) (all_read q e h.0) (all_read_each (q + count loops e) es h.1) r i

    pub all_read_in : (q : ℕ) (ss : Subscripts) → GoodIn ss → (r : Reference) → In r (reads_in loops may q ss) → IsRead r
    all_read_in q no_subscripts g r i = absurd i
    all_read_in q (subscript (Only e) ss) g r i =
        joined (reads_of loops may q e) (reads_in loops may (q + count loops e) ss) (all_read q e (passes.only e ss g)) (all_read_in (q + count loops e) ss (passes.more e ss g)) r i
    all_read_in q (subscript (Section a b c) ss) g r i = all_read_in (q + count_subscript loops (Section a b c)) ss (passes.section a b c ss g) r i

-- ---- names

module _ (N : List ℕ → Type 0) where
  abbrev AllNamed : List (List ℕ) → Type 0
  AllNamed xs = (x : List ℕ) → In x xs → N x

  names_pass : Passes (λ e. AllNamed (names_in e)) (λ es. AllNamed (names_in_each es)) (λ ss. AllNamed (names_in_subscripts ss))
  names_pass = record {
    named = λ x ss h y i. h y (inr i);
    unary = λ o a h. h;
    binary = λ o a b h. (λ y i. h y (In-left y (names_in a) (names_in b) i), λ y i. h y (In-right y (names_in a) (names_in b) i));
    apply = λ f es h. h;
    each = λ e es h. (λ y i. h y (In-left y (names_in e) (names_in_each es) i), λ y i. h y (In-right y (names_in e) (names_in_each es) i));
    only = λ e ss h y i. h y (In-left y (names_in e) (names_in_subscripts ss) i);
    more = λ e ss h y i. h y (In-right y (names_in e) (names_in_subscripts ss) i);
    section = λ a b c ss h y i. h y (In-right y _ (names_in_subscripts ss) i);
  }

module _ (loops : List (List ℕ)) (may : ℕ → Bool) where
  pub read_names : (q : ℕ) (e : Expression) (r : Reference) → In r (reads_of loops may q e) → (x : List ℕ) → In x (names_in (read_as_expression r)) → In x (names_in e)
  read_names q e r i =
      (all_read loops may (λ a. AllNamed (λ x. In x (names_in e)) (names_in a)) (λ es. AllNamed (λ x. In x (names_in e)) (names_in_each es))
      (λ ss. AllNamed (λ x. In x (names_in e)) (names_in_subscripts ss)) (names_pass (λ x. In x (names_in e))) q e (λ x j. j) r i).good

  pub read_names_in : (q : ℕ) (ss : Subscripts) (r : Reference) → In r (reads_in loops may q ss) → (x : List ℕ) → In x (names_in (read_as_expression r)) → In x (names_in_subscripts ss)
  read_names_in q ss r i =
      (all_read_in loops may (λ a. AllNamed (λ x. In x (names_in_subscripts ss)) (names_in a)) (λ es. AllNamed (λ x. In x (names_in_subscripts ss)) (names_in_each es))
      (λ qs. AllNamed (λ x. In x (names_in_subscripts ss)) (names_in_subscripts qs)) (names_pass (λ x. In x (names_in_subscripts ss))) q ss (λ x j. j) r i).good

-- ---- reads are copied where the loops have extents

module _ (may : Place → Bool) (n : ℕ) (ls : List Loop) (k : ℕ) (g : Guarded) where
  abbrev allowed_now : ℕ → Bool
  allowed_now = but_whole (variables_from_outside ls) (may_in may n ls k) g

  trivial : Passes (λ e. Unit {0}) (λ es. Unit {0}) (λ ss. Unit {0})
  trivial = record {
    named = λ x ss h. tt;
    unary = λ o a h. tt;
    binary = λ o a b h. (tt, tt);
    apply = λ f es h. tt;
    each = λ e es h. (tt, tt);
    only = λ e ss h. tt;
    more = λ e ss h. tt;
    section = λ a b c ss h. tt;
  }

  pub extents_there : (r : Reference) → In r (reads_in_statement (variables_from_outside ls) (may_in may n ls k) g) → is_some (extents_over n ls) ≡ true
  extents_there r i = by (In-append r (reads_in_left (variables_from_outside ls) (may_in may n ls k) g) (reads_in_right (variables_from_outside ls) (may_in may n ls k) g) i)
    where
      some : (q : ℕ) → but_whole (variables_from_outside ls) (may_in may n ls k) g q ≡ true → is_some (extents_over n ls) ≡ true
      some q e =
          (both_true (is_some (extents_over n ls)) (may (record { stmt = k; at = q }))
          (both_true (may_in may n ls k q) (not (is_item g.right && (q == first_in_right (variables_from_outside ls) g))) e).0).0

      by : In r (reads_in_left (variables_from_outside ls) (may_in may n ls k) g) ⊎ In r (reads_in_right (variables_from_outside ls) (may_in may n ls k) g) → is_some (extents_over n ls) ≡ true
      by (inl j) =
          let h = all_read_in (variables_from_outside ls) (but_whole (variables_from_outside ls) (may_in may n ls k) g) (λ e. Unit {0}) (λ es. Unit {0}) (λ ss. Unit {0}) trivial
          (first_in_left (variables_from_outside ls) g) g.left.subscripts tt r j in
          some h.number h.allowed
      by (inr j) =
          let h = all_read (variables_from_outside ls) (but_whole (variables_from_outside ls) (may_in may n ls k) g) (λ e. Unit {0}) (λ es. Unit {0}) (λ ss. Unit {0}) trivial
          (first_in_right (variables_from_outside ls) g) g.right tt r j in
          some h.number h.allowed

-- ---- one after another

-- each read with its number
abbrev pub AreAt : (ℕ → Reference → Type 0) → ℕ → List Reference → Type 0
AreAt P c [] = Unit {0}
AreAt P c (r ∷ rs) = P c r × AreAt P (suc c) rs

pub first_at : (P : ℕ → Reference → Type 0) (c : ℕ) (xs ys : List Reference) → AreAt P c (xs ++ ys) → AreAt P c xs
first_at P c [] ys h = tt
first_at P c (x ∷ xs) ys h = (h.0, first_at P (suc c) xs ys h.1)

pub second_at : (P : ℕ → Reference → Type 0) (c : ℕ) (xs ys : List Reference) → AreAt P c (xs ++ ys) → AreAt P (c + length xs) ys
second_at P c [] ys h = let e : c ≡ c + 0 = omega arith in subst (λ m. AreAt P m ys) e h
second_at P c (x ∷ xs) ys h =
    let e : suc c + length xs ≡ c + length (x ∷ xs) = omega arith in
    subst (λ m. AreAt P m ys) e (second_at P (suc c) xs ys h.1)
