-- Statements in the place of loops, node by node.
use Rattle.std.proofs.Common.{◌≡◌, refl, sym, ap, ap₂, ◌∙◌, ℕ, Bool, List, [], ◌∷◌, ◌++◌, map, append_assoc, Option, Result}
use Rattle.std.specs.Prelude.{IfOk, OnOk}
use Rattle.std.specs.List.{flat_map}
use Rattle.std.proofs.lemmas.List.{append-nil, map-append}
use Rattle.tree.specs.Plain as P
use Rattle.tree.specs.Plain.{Statement, block}
use Rattle.tree.specs.View.{expression_of, statement_of, tested_of, block_of, arms, Tested}
use Rattle.tree.specs.declared.names.Name.{Name}
use Rattle.tree.specs.declared.lists.Seq.{Seq}
use Rattle.tree.specs.declared.exprs.Expr.{Expr}
use Rattle.tree.specs.declared.stmts.Stmt.TheVariants as stmts
use Rattle.tree.specs.declared.stmts.Arm.{Arm, out-Arm}
use Rattle.tree.specs.declared.stmts.Block.{Block, out-Block}
use Rattle.tree.proofs.Equations.{statement_equations, statement_of-if, statement_of-do, tested_of-is, block_of-is, block_of-made}
use Rattle.tree.specs.declared.functions.Red.{Red}
use Rattle.tree.specs.declared.stmts.Mark.{Mark}
use Rattle.meaning.specs.Names.{is_among}
use Rattle.reductions.specs.Finding.{Context, context_by, reducible}
use Rattle.reductions.specs.Reading.{read_in_block}
use Rattle.reductions.proofs.NameLaws.{context_same, if_ok, on_ok}
use Rattle.reductions.specs.Reduced.{done_in, done_in_arm, done_in_arms, done_in_block, done_or, done_within, formed_or}
use Rattle.reductions.specs.Reduced.{reduced, reduced_arm, reduced_arms, reduced_block, with_body}

module _ (w : Context) where
  reduced_each_arm : (ts : List Tested) → reduced_arms w (arms ts) ≡ arms (map (reduced_arm w) ts)
  reduced_each_arm [] = refl
  reduced_each_arm (t ∷ ts) = ap (P.arm t.test (reduced_block w t.body)) (reduced_each_arm ts)

  done_each_arm : (ts : List Tested) → done_in_arms w (arms ts) ≡ flat_map (done_in_arm w) ts
  done_each_arm [] = refl
  done_each_arm (t ∷ ts) = ap (λ ds. done_in_block w t.body ++ ds) (done_each_arm ts)

  reduced_each : (cs : List Statement) → reduced_block w (block cs) ≡ block (map (reduced w) cs)
  reduced_each [] = refl
  reduced_each (c ∷ cs) = ap (P.statement (reduced w c)) (reduced_each cs)

  done_each : (cs : List Statement) → done_in_block w (block cs) ≡ flat_map (done_in w) cs
  done_each [] = refl
  done_each (c ∷ cs) = ap (λ ds. done_in w c ++ ds) (done_each cs)

  -- ---- statements

  pub reduced-if : (line : ℕ) (ts : Seq Arm) (other : Block) → reduced w (statement_of (stmts.If line ts other))
      ≡ P.If line (arms (map (reduced_arm w) (map tested_of ts))) (reduced_block w (block_of other))
  reduced-if line ts other =
      ap (reduced w) (statement_of-if line ts other) ∙ ap (λ as'. P.If line as' (reduced_block w (block_of other))) (reduced_each_arm (map tested_of ts))

  pub done-if : (line : ℕ) (ts : Seq Arm) (other : Block) → done_in w (statement_of (stmts.If line ts other))
      ≡ flat_map (done_in_arm w) (map tested_of ts) ++ done_in_block w (block_of other)
  done-if line ts other = ap (done_in w) (statement_of-if line ts other) ∙ ap (λ ds. ds ++ done_in_block w (block_of other)) (done_each_arm (map tested_of ts))

  loop_is : (line : ℕ) (x : Name) (a b c : Expr) (body : Block) (d : Statement) → d ≡ P.Do line x (expression_of a) (expression_of b) (expression_of c) (block_of body)
      → (reduced w d ≡ formed_or w (reducible w d) (with_body w d)) × (done_in w d ≡ done_or w (reducible w d) (done_within w d))
  loop_is line x a b c body d e =
      (ap (reduced w) e ∙ sym (ap (λ f. formed_or w (reducible w f) (with_body w f)) e), ap (done_in w) e ∙ sym (ap (λ f. done_or w (reducible w f) (done_within w f)) e))

  pub reduced-do : (line : ℕ) (x : Name) (a b c : Expr) (body : Block) → reduced w (statement_of (stmts.Do line x a b c body))
      ≡ formed_or w (reducible w (statement_of (stmts.Do line x a b c body))) (with_body w (statement_of (stmts.Do line x a b c body)))
  reduced-do line x a b c body = (loop_is line x a b c body (statement_of (stmts.Do line x a b c body)) (statement_of-do line x a b c body)).0

  pub done-do : (line : ℕ) (x : Name) (a b c : Expr) (body : Block) → done_in w (statement_of (stmts.Do line x a b c body))
      ≡ done_or w (reducible w (statement_of (stmts.Do line x a b c body))) (done_within w (statement_of (stmts.Do line x a b c body)))
  done-do line x a b c body = (loop_is line x a b c body (statement_of (stmts.Do line x a b c body)) (statement_of-do line x a b c body)).1

  pub body-do : (line : ℕ) (x : Name) (a b c : Expr) (body : Block) → with_body w (statement_of (stmts.Do line x a b c body))
      ≡ P.Do line x (expression_of a) (expression_of b) (expression_of c) (reduced_block w (block_of body))
  body-do line x a b c body = ap (with_body w) (statement_of-do line x a b c body)

  pub within-do : (line : ℕ) (x : Name) (a b c : Expr) (body : Block) → done_within w (statement_of (stmts.Do line x a b c body)) ≡ done_in_block w (block_of body)
  within-do line x a b c body = ap (done_within w) (statement_of-do line x a b c body)

  pub reduced-arm : (a : Arm) → reduced_arm w (tested_of a) ≡ record { test = expression_of (out-Arm a).test; body = reduced_block w (block_of (out-Arm a).body) }
  reduced-arm a = ap (reduced_arm w) (tested_of-is a)

  pub done-arm : (a : Arm) → done_in_arm w (tested_of a) ≡ done_in_block w (block_of (out-Arm a).body)
  done-arm a = ap (done_in_arm w) (tested_of-is a)

  pub reduced-block : (b : Block) → reduced_block w (block_of b) ≡ block (map (reduced w) (map statement_of (out-Block b).stmts))
  reduced-block b = ap (reduced_block w) (block_of-is b) ∙ reduced_each (map statement_of (out-Block b).stmts)

  pub done-block : (b : Block) → done_in_block w (block_of b) ≡ flat_map (done_in w) (map statement_of (out-Block b).stmts)
  done-block b = ap (done_in_block w) (block_of-is b) ∙ done_each (map statement_of (out-Block b).stmts)

-- ---- with the names that a block reads as a list

abbrev pub context_with : List P.Declaration → Option (List ℕ) → List (List ℕ) → Context
context_with ds title ks = record { declarations = ds; title = title; reads = is_among ks }

module _ (ds : List P.Declaration) (title : Option (List ℕ)) (ks : List (List ℕ)) (b : P.Block) (same : (x : List ℕ) → is_among ks x ≡ is_among (read_in_block b) x) where
  pub body_same : {A E : Type 0} (view : A → P.Block) (r : Result A E) → IfOk r (λ new. view new ≡ reduced_block (context_with ds title ks) b) → IfOk r (λ new. view new ≡ reduced_block (context_by ds title b) b)
  body_same view r h = if_ok r (λ new. view new ≡ reduced_block (context_with ds title ks) b) (λ new. view new ≡ reduced_block (context_by ds title b) b)
      (λ new e. e ∙ ap (λ (w : Context). reduced_block w b) (context_same ds title ks b same)) h

  pub done_same : {A E : Type 0} (r : Result A E) (old new : List (Mark × Red)) → OnOk r (new ≡ old ++ done_in_block (context_with ds title ks) b) → OnOk r (new ≡ old ++ done_in_block (context_by ds title b) b)
  done_same r old new h = on_ok r (new ≡ old ++ done_in_block (context_with ds title ks) b) (new ≡ old ++ done_in_block (context_by ds title b) b)
      (λ e. e ∙ ap (λ (w : Context). old ++ done_in_block w b) (context_same ds title ks b same)) h

pub ruleset reduced_laws = (statement_equations, reduced-if, done-if, reduced-do, done-do, body-do, within-do, reduced-arm, done-arm, map-append, append_assoc, append-nil)

pub ruleset block_laws = (reduced-block, done-block, block_of-made)
