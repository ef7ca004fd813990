-- Statements in the place of loops, in the trees of a program.
use Rattle.std.proofs.Common.{◌≡◌, ℕ, Option, Some, None, Result, Ok, Err, OnOk, List, [], ◌∷◌, ◌++◌, map, refl, sym}
use Rattle.std.proofs.Common.{ap, ap₂, subst, ◌∙◌, append_assoc}
use Rattle.std.proofs.lemmas.List.{append-nil, map-append}
use Rattle.tree.specs.Plain as P
use Rattle.tree.specs.Plain.{Statement, block}
use Rattle.tree.specs.View.{expression_of, statement_of, tested_of, block_of, arms, Tested}
use Rattle.tree.specs.declared.names.Name.{Name}
use Rattle.tree.specs.declared.lists.Seq.{Seq}
use Rattle.tree.specs.declared.exprs.Expr.{Expr}
use Rattle.tree.specs.declared.stmts.Stmt.{Stmt}
use Rattle.tree.specs.declared.stmts.Stmt.TheVariants as stmts
use Rattle.tree.specs.declared.stmts.Arm.{Arm, out-Arm}
use Rattle.tree.specs.declared.stmts.Block.{Block, out-Block}
use Rattle.tree.proofs.Equations.{statement_equations, statement_of-assign, statement_of-masked, statement_of-if}
use Rattle.tree.proofs.Equations.{statement_of-do, statement_of-label, statement_of-go, statement_of-stop}
use Rattle.tree.proofs.Equations.{statement_of-read, statement_of-print, statement_of-allocate}
use Rattle.tree.proofs.Equations.{statement_of-deallocate, tested_of-is, block_of-is, block_of-made}
use Rattle.find_nests.specs.nest_parts.Numbers.{next_loop_number, number_after, after_arms, after_block}
use Rattle.find_nests.specs.nest_parts.Lists.{after_each, after_list}
use Rattle.find_nests.proofs.NestParts.PartLaws.{number_after-if, number_after-do, number_after-arm, number_after-block, after_each_is}
use Rattle.translation.specs.loop_placing.Placing.{block_at, instead, placed_statement, placed_arm, placed_arms, placed_each, placed_in}
use Rattle.translation.specs.loop_placing.Placing.{placed_list, statements_of_block}

-- ---- lists of statements and of arms

statements_in_block : (cs : List Statement) → statements_of_block (block cs) ≡ cs
statements_in_block [] = refl
statements_in_block (c ∷ cs) = ap (λ ds. c ∷ ds) (statements_in_block cs)

pub statements-of : (b : Block) → statements_of_block (block_of b) ≡ map statement_of (out-Block b).stmts
statements-of b = ap statements_of_block (block_of-is b) ∙ statements_in_block (map statement_of (out-Block b).stmts)

after_list-append : (k : ℕ) (cs ds : List Statement) → after_list k (cs ++ ds) ≡ after_list (after_list k cs) ds
after_list-append k [] ds = refl
after_list-append k (c ∷ cs) ds = after_list-append (number_after k c) cs ds

after_each-append : (k : ℕ) (ts us : List Tested) → after_each k (ts ++ us) ≡ after_each (after_each k ts) us
after_each-append k [] us = refl
after_each-append k (t ∷ ts) us = after_each-append (after_block k t.body) ts us

module _ (bs : List (Option P.Block)) where
  placed_each_is : (k : ℕ) (ts : List Tested) → placed_arms bs k (arms ts) ≡ arms (placed_each bs k ts)
  placed_each_is k [] = refl
  placed_each_is k (t ∷ ts) = ap (P.arm t.test (block (placed_in bs k t.body))) (placed_each_is (after_block k t.body) ts)

  placed_list_is : (k : ℕ) (cs : List Statement) → placed_in bs k (block cs) ≡ placed_list bs k cs
  placed_list_is k [] = refl
  placed_list_is k (c ∷ cs) = ap (λ ds. placed_statement bs k c ++ ds) (placed_list_is (number_after k c) cs)

  placed_list-append : (k : ℕ) (cs ds : List Statement) → placed_list bs k (cs ++ ds) ≡ placed_list bs k cs ++ placed_list bs (after_list k cs) ds
  placed_list-append k [] ds = refl
  placed_list-append k (c ∷ cs) ds =
      ap (λ es. placed_statement bs k c ++ es) (placed_list-append (number_after k c) cs ds)
      ∙ sym (append_assoc (placed_statement bs k c) (placed_list bs (number_after k c) cs) (placed_list bs (after_list (number_after k c) cs) ds))

  placed_each-append : (k : ℕ) (ts us : List Tested) → placed_each bs k (ts ++ us) ≡ placed_each bs k ts ++ placed_each bs (after_each k ts) us
  placed_each-append k [] us = refl
  placed_each-append k (t ∷ ts) us = ap (λ es. placed_arm bs k t ∷ es) (placed_each-append (after_block k t.body) ts us)

  -- ---- statements

  pub placed_statement-if : (k line : ℕ) (ts : Seq Arm) (other : Block) → placed_statement bs k (statement_of (stmts.If line ts other))
      ≡ P.If line (arms (placed_each bs k (map tested_of ts))) (block (placed_in bs (after_each k (map tested_of ts)) (block_of other))) ∷ []
  placed_statement-if k line ts other =
      ap (placed_statement bs k) (statement_of-if line ts other)
      ∙ ap (λ as'. P.If line as' (block (placed_in bs (after_arms k (arms (map tested_of ts))) (block_of other))) ∷ []) (placed_each_is k (map tested_of ts))
      ∙ ap (λ n. P.If line (arms (placed_each bs k (map tested_of ts))) (block (placed_in bs n (block_of other))) ∷ []) (after_each_is k (map tested_of ts))

  pub placed_statement-do : (k line : ℕ) (x : Name) (a b c : Expr) (body : Block) → placed_statement bs k (statement_of (stmts.Do line x a b c body))
      ≡ instead bs (block_at bs (next_loop_number k)) (P.Do line x (expression_of a) (expression_of b) (expression_of c) (block (placed_in bs (next_loop_number k) (block_of body))))
  placed_statement-do k line x a b c body = ap (placed_statement bs k) (statement_of-do line x a b c body)

  pub placed_statement-arm : (k : ℕ) (a : Arm) → placed_arm bs k (tested_of a)
      ≡ record { test = expression_of (out-Arm a).test; body = block (placed_in bs k (block_of (out-Arm a).body)) }
  placed_statement-arm k a = ap (placed_arm bs k) (tested_of-is a)

  pub placed_statement-block : (k : ℕ) (b : Block) → placed_in bs k (block_of b) ≡ placed_list bs k (map statement_of (out-Block b).stmts)
  placed_statement-block k b = ap (placed_in bs k) (block_of-is b) ∙ placed_list_is k (map statement_of (out-Block b).stmts)

-- ---- one more of a list

pub list-more : (bs : List (Option P.Block)) (k n : ℕ) (done : List Stmt) (s : Stmt) (made new : List Stmt) → map statement_of made ≡ placed_list bs k (map statement_of done)
    → n ≡ after_list k (map statement_of done) → map statement_of new ≡ map statement_of made ++ placed_statement bs n (statement_of s)
    → map statement_of new ≡ placed_list bs k (map statement_of (done ++ s ∷ []))
list-more bs k n done s made new h number e =
    let cs = map statement_of done in
    e ∙ ap₂ (λ (ds : List Statement) (i : ℕ). ds ++ placed_statement bs i (statement_of s)) h number
    ∙ ap (λ (ds : List Statement). placed_list bs k cs ++ ds) (sym (append-nil (placed_statement bs (after_list k cs) (statement_of s))))
    ∙ sym (placed_list-append bs k cs (statement_of s ∷ [])) ∙ ap (placed_list bs k) (sym (map-append statement_of done (s ∷ [])))

pub list-number : (k n m : ℕ) (done : List Stmt) (s : Stmt) → n ≡ after_list k (map statement_of done) → m ≡ number_after n (statement_of s)
    → m ≡ after_list k (map statement_of (done ++ s ∷ []))
list-number k n m done s h e =
    e ∙ ap (λ (i : ℕ). number_after i (statement_of s)) h ∙ sym (after_list-append k (map statement_of done) (statement_of s ∷ []))
    ∙ ap (after_list k) (sym (map-append statement_of done (s ∷ [])))

pub each-more : (bs : List (Option P.Block)) (k n : ℕ) (done : List Arm) (a b : Arm) (made new : List Arm) → map tested_of made ≡ placed_each bs k (map tested_of done)
    → n ≡ after_each k (map tested_of done) → tested_of b ≡ placed_arm bs n (tested_of a) → new ≡ made ++ b ∷ []
    → map tested_of new ≡ placed_each bs k (map tested_of (done ++ a ∷ []))
each-more bs k n done a b made new h number e now =
    let ts = map tested_of done in
    ap (map tested_of) now ∙ map-append tested_of made (b ∷ [])
    ∙ ap₂ (λ (us : List Tested) (t : Tested). us ++ t ∷ []) h (e ∙ ap (λ (i : ℕ). placed_arm bs i (tested_of a)) number)
    ∙ sym (placed_each-append bs k ts (tested_of a ∷ [])) ∙ ap (placed_each bs k) (sym (map-append tested_of done (a ∷ [])))

pub each-number : (k n m : ℕ) (done : List Arm) (a : Arm) → n ≡ after_each k (map tested_of done) → m ≡ after_block n (tested_of a).body
    → m ≡ after_each k (map tested_of (done ++ a ∷ []))
each-number k n m done a h e =
    e ∙ ap (λ (i : ℕ). after_block i (tested_of a).body) h ∙ sym (after_each-append k (map tested_of done) (tested_of a ∷ []))
    ∙ ap (after_each k) (sym (map-append tested_of done (a ∷ [])))

pub ruleset append_laws = (statements-of, map-append, append_assoc, append-nil)

pub ruleset place_laws = (statement_equations, number_after-if, number_after-do, number_after-arm, placed_statement-if, placed_statement-do, placed_statement-arm, map-append)

pub ruleset list_laws = (list-more, list-number, each-more, each-number)

pub ruleset block_laws = (number_after-block, placed_statement-block, block_of-made)
