-- What becomes of the trees of a program's loops.
use Rattle.std.proofs.Common.{◌≡◌, ℕ, List, [], ◌∷◌, ◌++◌, map, refl, sym, ap, ap₂, ◌∙◌, append_assoc}
use Rattle.std.proofs.lemmas.List.{append-nil, map-append}
use Rattle.tree.specs.Plain as P
use Rattle.tree.specs.Plain.{Statement, block}
use Rattle.tree.specs.View.{expression_of, statement_of, tested_of, block_of, arms, Tested}
use Rattle.tree.specs.declared.names.Name.{Name}
use Rattle.tree.specs.declared.lists.Seq.{Seq}
use Rattle.tree.specs.declared.exprs.Expr.{Expr}
use Rattle.tree.specs.declared.stmts.Stmt.{Stmt}
use Rattle.tree.specs.declared.stmts.Stmt.TheVariants as stmts
use Rattle.tree.specs.declared.stmts.Arm.{Arm, out-Arm}
use Rattle.tree.specs.declared.stmts.Block.{Block, out-Block}
use Rattle.tree.proofs.Equations.{statement_equations, statement_of-if, statement_of-do, tested_of-is, block_of-is, block_of-made}
use Rattle.index_split.specs.Filled.{after_loop, answer_at, filled, filled_arm, filled_arms, filled_each, filled_in, filled_list, filled_loop, next, used, used_arms, used_block, used_each, used_list}
use Rattle.index_split.specs.declared.answers.Answer.{Answer}

module _ (as' : List Answer) where
  -- ---- lists of statements and of arms

  used_each_is : (i : ℕ) (ts : List Tested) → used_arms as' i (arms ts) ≡ used_each as' i ts
  used_each_is i [] = refl
  used_each_is i (t ∷ ts) = used_each_is (used_block as' i t.body) ts

  used_list_is : (i : ℕ) (cs : List Statement) → used_block as' i (block cs) ≡ used_list as' i cs
  used_list_is i [] = refl
  used_list_is i (c ∷ cs) = used_list_is (used as' i c) cs

  used_list-append : (i : ℕ) (cs ds : List Statement) → used_list as' i (cs ++ ds) ≡ used_list as' (used_list as' i cs) ds
  used_list-append i [] ds = refl
  used_list-append i (c ∷ cs) ds = used_list-append (used as' i c) cs ds

  used_each-append : (i : ℕ) (ts us : List Tested) → used_each as' i (ts ++ us) ≡ used_each as' (used_each as' i ts) us
  used_each-append i [] us = refl
  used_each-append i (t ∷ ts) us = used_each-append (used_block as' i t.body) ts us

  filled_each_is : (i : ℕ) (ts : List Tested) → filled_arms as' i (arms ts) ≡ arms (filled_each as' i ts)
  filled_each_is i [] = refl
  filled_each_is i (t ∷ ts) = ap (P.arm t.test (block (filled_in as' i t.body))) (filled_each_is (used_block as' i t.body) ts)

  filled_list_is : (i : ℕ) (cs : List Statement) → filled_in as' i (block cs) ≡ filled_list as' i cs
  filled_list_is i [] = refl
  filled_list_is i (c ∷ cs) = ap (λ ds. filled as' i c ++ ds) (filled_list_is (used as' i c) cs)

  filled_list-append : (i : ℕ) (cs ds : List Statement) → filled_list as' i (cs ++ ds) ≡ filled_list as' i cs ++ filled_list as' (used_list as' i cs) ds
  filled_list-append i [] ds = refl
  filled_list-append i (c ∷ cs) ds =
      ap (λ es. filled as' i c ++ es) (filled_list-append (used as' i c) cs ds)
      ∙ sym (append_assoc (filled as' i c) (filled_list as' (used as' i c) cs) (filled_list as' (used_list as' (used as' i c) cs) ds))

  filled_each-append : (i : ℕ) (ts us : List Tested) → filled_each as' i (ts ++ us) ≡ filled_each as' i ts ++ filled_each as' (used_each as' i ts) us
  filled_each-append i [] us = refl
  filled_each-append i (t ∷ ts) us = ap (λ es. filled_arm as' i t ∷ es) (filled_each-append (used_block as' i t.body) ts us)

  -- ---- statements

  pub filled-if : (i line : ℕ) (ts : Seq Arm) (other : Block) → filled as' i (statement_of (stmts.If line ts other))
      ≡ P.If line (arms (filled_each as' i (map tested_of ts))) (block (filled_in as' (used_each as' i (map tested_of ts)) (block_of other))) ∷ []
  filled-if i line ts other =
      ap (filled as' i) (statement_of-if line ts other)
      ∙ ap (λ us. P.If line us (block (filled_in as' (used_arms as' i (arms (map tested_of ts))) (block_of other))) ∷ []) (filled_each_is i (map tested_of ts))
      ∙ ap (λ n. P.If line (arms (filled_each as' i (map tested_of ts))) (block (filled_in as' n (block_of other))) ∷ []) (used_each_is i (map tested_of ts))

  pub filled-do : (i line : ℕ) (x : Name) (a b c : Expr) (body : Block) → filled as' i (statement_of (stmts.Do line x a b c body))
      ≡ filled_loop as' (answer_at as' i) line x (expression_of a) (expression_of b) (expression_of c) (block_of body) (block (filled_in as' (next as' i) (block_of body)))
  filled-do i line x a b c body = ap (filled as' i) (statement_of-do line x a b c body)

  pub filled-arm : (i : ℕ) (a : Arm) → filled_arm as' i (tested_of a)
      ≡ record { test = expression_of (out-Arm a).test; body = block (filled_in as' i (block_of (out-Arm a).body)) }
  filled-arm i a = ap (filled_arm as' i) (tested_of-is a)

  pub filled-block : (i : ℕ) (b : Block) → filled_in as' i (block_of b) ≡ filled_list as' i (map statement_of (out-Block b).stmts)
  filled-block i b = ap (filled_in as' i) (block_of-is b) ∙ filled_list_is i (map statement_of (out-Block b).stmts)

  pub used-if : (i line : ℕ) (ts : Seq Arm) (other : Block) → used as' i (statement_of (stmts.If line ts other))
      ≡ used_block as' (used_each as' i (map tested_of ts)) (block_of other)
  used-if i line ts other = ap (used as' i) (statement_of-if line ts other) ∙ ap (λ n. used_block as' n (block_of other)) (used_each_is i (map tested_of ts))

  pub used-do : (i line : ℕ) (x : Name) (a b c : Expr) (body : Block) → used as' i (statement_of (stmts.Do line x a b c body))
      ≡ after_loop as' (answer_at as' i) (next as' i) (used_block as' (next as' i) (block_of body))
  used-do i line x a b c body = ap (used as' i) (statement_of-do line x a b c body)

  pub used-arm : (i : ℕ) (a : Arm) → used_block as' i (tested_of a).body ≡ used_block as' i (block_of (out-Arm a).body)
  used-arm i a = ap (λ (t : Tested). used_block as' i t.body) (tested_of-is a)

  pub used-block : (i : ℕ) (b : Block) → used_block as' i (block_of b) ≡ used_list as' i (map statement_of (out-Block b).stmts)
  used-block i b = ap (used_block as' i) (block_of-is b) ∙ used_list_is i (map statement_of (out-Block b).stmts)

-- ---- one more of a list

pub list-more : (as' : List Answer) (i n : ℕ) (done : List Stmt) (s : Stmt) (made new : List Stmt) → map statement_of made ≡ filled_list as' i (map statement_of done)
    → n ≡ used_list as' i (map statement_of done) → map statement_of new ≡ map statement_of made ++ filled as' n (statement_of s)
    → map statement_of new ≡ filled_list as' i (map statement_of (done ++ s ∷ []))
list-more as' i n done s made new h number e =
    let cs = map statement_of done in
    e ∙ ap₂ (λ (ds : List Statement) (k : ℕ). ds ++ filled as' k (statement_of s)) h number
    ∙ ap (λ (ds : List Statement). filled_list as' i cs ++ ds) (sym (append-nil (filled as' (used_list as' i cs) (statement_of s))))
    ∙ sym (filled_list-append as' i cs (statement_of s ∷ [])) ∙ ap (filled_list as' i) (sym (map-append statement_of done (s ∷ [])))

pub list-number : (as' : List Answer) (i n m : ℕ) (done : List Stmt) (s : Stmt) → n ≡ used_list as' i (map statement_of done) → m ≡ used as' n (statement_of s)
    → m ≡ used_list as' i (map statement_of (done ++ s ∷ []))
list-number as' i n m done s h e =
    e ∙ ap (λ (k : ℕ). used as' k (statement_of s)) h ∙ sym (used_list-append as' i (map statement_of done) (statement_of s ∷ []))
    ∙ ap (used_list as' i) (sym (map-append statement_of done (s ∷ [])))

pub each-more : (as' : List Answer) (i n : ℕ) (done : List Arm) (a b : Arm) (made new : List Arm) → map tested_of made ≡ filled_each as' i (map tested_of done)
    → n ≡ used_each as' i (map tested_of done) → tested_of b ≡ filled_arm as' n (tested_of a) → new ≡ made ++ b ∷ []
    → map tested_of new ≡ filled_each as' i (map tested_of (done ++ a ∷ []))
each-more as' i n done a b made new h number e now =
    let ts = map tested_of done in
    ap (map tested_of) now ∙ map-append tested_of made (b ∷ [])
    ∙ ap₂ (λ (us : List Tested) (t : Tested). us ++ t ∷ []) h (e ∙ ap (λ (k : ℕ). filled_arm as' k (tested_of a)) number)
    ∙ sym (filled_each-append as' i ts (tested_of a ∷ [])) ∙ ap (filled_each as' i) (sym (map-append tested_of done (a ∷ [])))

pub each-number : (as' : List Answer) (i n m : ℕ) (done : List Arm) (a : Arm) → n ≡ used_each as' i (map tested_of done) → m ≡ used_block as' n (tested_of a).body
    → m ≡ used_each as' i (map tested_of (done ++ a ∷ []))
each-number as' i n m done a h e =
    e ∙ ap (λ (k : ℕ). used_block as' k (tested_of a).body) h ∙ sym (used_each-append as' i (map tested_of done) (tested_of a ∷ []))
    ∙ ap (used_each as' i) (sym (map-append tested_of done (a ∷ [])))

pub ruleset fill_laws = (statement_equations, used-if, used-do, used-arm, filled-if, filled-do, filled-arm, map-append)

pub ruleset list_laws = (list-more, list-number, each-more, each-number)

pub ruleset block_laws = (used-block, filled-block, block_of-made)
