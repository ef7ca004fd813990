-- Names that stand in statements that read, and give values to, such names alone.
use Rattle.std.proofs.Common.{◌≡◌, ◌⊎◌, inl, inr, sym, ap, ◌∙◌, subst, ℕ, List, [], ◌∷◌, ◌++◌}
use Rattle.std.specs.List.{AllByRecursion}
use Rattle.tree.specs.Plain.{Allocate, Apply, Assignment, Binary, Block, Constructor, Deallocate, Do, Expression, Expressions, GoTo, If, Label, Logic, Loops, Named, Number, Only, Print, Read, Reduce, Reshape, Section, Spread, Statement, Stop, Subscript, Subscripts, Transpose, Unary, Where, arm, expression, loop, no_arms, no_expressions, no_loops, no_statements, no_subscripts, statement, subscript}
use Rattle.meaning.specs.Reads.{names_in, names_in_block, names_in_statement, names_in_subscripts}
use Rattle.nest_order.proofs.orders.Lists.{In-append}
use Rattle.nest_order.specs.orders.Lists.{In}
use Rattle.rewrite.specs.Names.{uses_in, uses_in_block, uses_in_expressions, uses_in_loops, uses_in_statement, uses_in_subscript, uses_in_subscripts}
use Rattle.rewrite.specs.declared.uses.Use.{Use}
use Rattle.rewrite.specs.declared.uses.Way.{Way}
use Rattle.rewrite.specs.declared.uses.Way.TheVariants.{Reads, Writes}
use Rattle.prepared_passes.specs.expansion.Runs.{AreFree, IsFree}

-- ---- expressions are read

abbrev AllRead : List Use → Type 0
AllRead us = (u : Use) → In u us → u.way ≡ Reads

none_read : AllRead []
none_read u i = absurd i

both_read : (us vs : List Use) → AllRead us → AllRead vs → AllRead (us ++ vs)
both_read us vs f g u i = by (In-append u us vs i)
  where
    by : In u us ⊎ In u vs → u.way ≡ Reads
    by (inl j) = f u j
    by (inr j) = g u j

one_read : (x : List ℕ) (us : List Use) → AllRead us → AllRead (record { name = x; way = Reads } ∷ us)
one_read x us f u (inl e) = ap (λ (v : Use). v.way) e
one_read x us f u (inr i) = f u i

mutual
  all_read : (e : Expression) → AllRead (uses_in e)
  all_read (Number n) = none_read
  all_read (Logic b) = none_read
  all_read (Named x ps) = one_read x (uses_in_subscripts ps) (subscripts_read ps)
  all_read (Unary o a) = all_read a
  all_read (Binary o a b) = both_read (uses_in a) (uses_in b) (all_read a) (all_read b)
  all_read (Apply f es) = each_read es
  all_read (Constructor es ls) = both_read (uses_in_expressions es) (uses_in_loops ls) (each_read es) (loops_read ls)
  all_read (Spread a d n) = both_read (uses_in a) (uses_in n) (all_read a) (all_read n)
  all_read (Transpose a) = all_read a
  all_read (Reshape a es) = both_read (uses_in a) (uses_in_expressions es) (all_read a) (each_read es)
  all_read (Reduce r a) = all_read a

  each_read : (es : Expressions) → AllRead (uses_in_expressions es)
  each_read no_expressions = none_read
  each_read (expression e es) = both_read (uses_in e) (uses_in_expressions es) (all_read e) (each_read es)

  subscripts_read : (ps : Subscripts) → AllRead (uses_in_subscripts ps)
  subscripts_read no_subscripts = none_read
  subscripts_read (subscript p ps) = both_read (uses_in_subscript p) (uses_in_subscripts ps) (subscript_read p) (subscripts_read ps)

  subscript_read : (p : Subscript) → AllRead (uses_in_subscript p)
  subscript_read (Only e) = all_read e
  subscript_read (Section a b c) = both_read (uses_in a ++ uses_in b) (uses_in c) (both_read (uses_in a) (uses_in b) (all_read a) (all_read b)) (all_read c)

  loops_read : (ls : Loops) → AllRead (uses_in_loops ls)
  loops_read no_loops = none_read
  loops_read (loop x a b ls) = both_read (uses_in a ++ uses_in b) (uses_in_loops ls) (both_read (uses_in a) (uses_in b) (all_read a) (all_read b)) (loops_read ls)

-- ---- statements

all_at : (P : List ℕ → Type 0) (xs : List (List ℕ)) → AllByRecursion P xs → (x : List ℕ) → In x xs → P x
all_at P [] h x i = absurd i
all_at P (y ∷ xs) h x (inl e) = subst P (sym e) h.0
all_at P (y ∷ xs) h x (inr i) = all_at P xs h.1 x i

module _ (R : List ℕ → Type 0) (W : List ℕ → Expression → Type 0) where
  joined : (P : List ℕ → Type 0) (xs ys : List (List ℕ)) → ((y : List ℕ) → In y xs → P y) → ((y : List ℕ) → In y ys → P y) → (y : List ℕ) → In y (xs ++ ys) → P y
  joined P xs ys f g y i = by (In-append y xs ys i)
    where
      by : In y xs ⊎ In y ys → P y
      by (inl j) = f y j
      by (inr j) = g y j

  none : (P : List ℕ → Type 0) (y : List ℕ) → In y [] → P y
  none P y i = absurd i

  module _ (more : (x : List ℕ) (e : Expression) → W x e → R x) where
    mutual
      one_named : (c : Statement) → IsFree R W c → (y : List ℕ) → In y (names_in_statement c) → R y
      one_named (Assignment line mark left right) h y (inl e) = subst R (sym e) (more left.name right h.0)
      one_named (Assignment line mark left right) h y (inr i) =
          joined R (names_in_subscripts left.subscripts) (names_in right) (λ z j. all_at R (names_in_subscripts left.subscripts) h.1 z j) (λ z j. all_at R (names_in right) h.2 z j) y i
      one_named (If line (arm test body no_arms) no_statements) h y i =
          joined R ((names_in test ++ names_in_block body) ++ []) [] (joined R (names_in test ++ names_in_block body) []
          (joined R (names_in test) (names_in_block body) (λ z j. all_at R (names_in test) h.0.0 z j) (all_named body h.0.1)) (none R)) (none R) y i
      one_named (If line no_arms other) h y i = absurd h.0
      one_named (If line (arm test body (arm t b ms)) other) h y i = absurd h.0.2
      one_named (If line (arm test body no_arms) (statement c cs)) h y i = absurd h.1
      one_named (Where line mark mask left right) h y i = absurd h
      one_named (Do line x first last step body) h y i = absurd h
      one_named (Label n) h y i = absurd h
      one_named (GoTo line n) h y i = absurd h
      one_named (Stop line) h y i = absurd h
      one_named (Read line is) h y i = absurd h
      one_named (Print line is) h y i = absurd h
      one_named (Allocate line x es) h y i = absurd h
      one_named (Deallocate line x) h y i = absurd h

      pub all_named : (b : Block) → AreFree R W b → (y : List ℕ) → In y (names_in_block b) → R y
      all_named no_statements h y i = absurd i
      all_named (statement c cs) h y i = joined R (names_in_statement c) (names_in_block cs) (one_named c h.0) (all_named cs h.1) y i

  -- what is written
  abbrev IsGiven : Use → Type 0
  IsGiven u = u.way ≡ Writes → (e : Expression) × W u.name e

  abbrev AllGiven : List Use → Type 0
  AllGiven us = (u : Use) → In u us → IsGiven u

  both_given : (us vs : List Use) → AllGiven us → AllGiven vs → AllGiven (us ++ vs)
  both_given us vs f g u i = by (In-append u us vs i)
    where
      by : In u us ⊎ In u vs → IsGiven u
      by (inl j) = f u j
      by (inr j) = g u j

  read_given : (us : List Use) → AllRead us → AllGiven us
  read_given us f u i e = let bad : ◌≡◌ {A = Way} Reads Writes = sym (f u i) ∙ e in let no : ⊥ = cc in absurd no

  none_given : AllGiven []
  none_given u i = absurd i

  mutual
    one_given : (c : Statement) → IsFree R W c → AllGiven (uses_in_statement c)
    one_given (Assignment line mark left right) h =
        both_given (record { name = left.name; way = Writes } ∷ uses_in_subscripts left.subscripts) (uses_in right) target (read_given (uses_in right) (all_read right))
      where
        target : AllGiven (record { name = left.name; way = Writes } ∷ uses_in_subscripts left.subscripts)
        target u (inl q) e = (right, subst (λ (v : Use). W v.name right) (sym q) h.0)
        target u (inr i) e = read_given (uses_in_subscripts left.subscripts) (subscripts_read left.subscripts) u i e
    one_given (If line (arm test body no_arms) no_statements) h =
        both_given ((uses_in test ++ uses_in_block body) ++ []) [] (both_given (uses_in test ++ uses_in_block body) []
        (both_given (uses_in test) (uses_in_block body) (read_given (uses_in test) (all_read test)) (all_given body h.0.1)) none_given) none_given
    one_given (If line no_arms other) h = absurd h.0
    one_given (If line (arm test body (arm t b ms)) other) h = absurd h.0.2
    one_given (If line (arm test body no_arms) (statement c cs)) h = absurd h.1
    one_given (Where line mark mask left right) h = absurd h
    one_given (Do line x first last step body) h = absurd h
    one_given (Label n) h = absurd h
    one_given (GoTo line n) h = absurd h
    one_given (Stop line) h = absurd h
    one_given (Read line is) h = absurd h
    one_given (Print line is) h = absurd h
    one_given (Allocate line x es) h = absurd h
    one_given (Deallocate line x) h = absurd h

    pub all_given : (b : Block) → AreFree R W b → (u : Use) → In u (uses_in_block b) → u.way ≡ Writes → (e : Expression) × W u.name e
    all_given no_statements h = none_given
    all_given (statement c cs) h = both_given (uses_in_statement c) (uses_in_block cs) (one_given c h.0) (all_given cs h.1)
