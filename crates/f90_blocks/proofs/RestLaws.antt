-- What the code holds, as the rest of a block and the blocks round it.
use Rattle.std.proofs.Common.{◌≡◌, ◌∙◌, ap, sym, subst, refl, ℕ, Bool, true, false, cond, Result, IfOk, Option, Some}
use Rattle.std.proofs.Common.{None, List, [], ◌∷◌, ◌++◌, map, reverse}
use Rattle.std.proofs.lemmas.List.{map-append, reverse-append}
use Rattle.std.specs.declared.alloc.Global.{Global}
use Rattle.std.specs.declared.vec.Vec.{Vec}
use Rattle.tree.specs.Plain as plain
use Rattle.tree.specs.View.{Tested, expression_of, statement_of, tested_of, block_of, arms}
use Rattle.tree.specs.declared.exprs.Expr.{Expr}
use Rattle.tree.specs.declared.lists.Memory.{Memory}
use Rattle.tree.specs.declared.lists.Seq.{Seq}
use Rattle.tree.specs.declared.stmts.Stmt.{Stmt}
use Rattle.tree.specs.declared.stmts.Stmt.TheVariants as stmts
use Rattle.tree.specs.declared.stmts.Arm.{Arm, roll-Arm}
use Rattle.tree.specs.declared.stmts.Block.{Block, roll-Block}
use Rattle.tree.proofs.Equations.{statement_of-if, statement_of-do, statement_of-label, tested_of-made}
use Rattle.tree.proofs.Equations.{block_of-made}
use Rattle.f90_blocks.specs.declared.open.Open.{Open}
use Rattle.f90_blocks.specs.declared.open.Open.TheVariants as opens
use Rattle.f90_blocks.specs.declared.open.Rest.{Rest}
use Rattle.f90_blocks.specs.Rests.{Ended, EndedIf, EndedDo, Shows, block_seen, open_seen, opens_seen, with_label}

map_reversed : {A B : Type 0} (f : A → B) (xs : List A) → map f (reverse xs) ≡ reverse (map f xs)
map_reversed f [] = refl
map_reversed f (x ∷ xs) =
    ap (map f) (reverse-append (x ∷ []) xs) ∙ map-append f (reverse xs) (x ∷ [])
    ∙ ap (λ ys. ys ++ f x ∷ []) (map_reversed f xs) ∙ sym (reverse-append (f x ∷ []) (map f xs))

last_first : {A B : Type 0} (f : A → B) (xs ys : List A) (x : A) → ys ≡ xs ++ x ∷ []
    → reverse (map f ys) ≡ f x ∷ reverse (map f xs)
last_first f xs ys x e = ap (λ zs. reverse (map f zs)) e ∙ ap reverse (map-append f xs (x ∷ []))
    ∙ reverse-append (map f xs) (f x ∷ [])

-- ---- statements

pub turned_is : (ss ts : List Stmt) (seq : Seq Stmt) → ts ≡ reverse ss → seq ≡ ts
    → block_of (roll-Block (record { stmts = seq })) ≡ block_seen ss
turned_is ss ts seq e g = block_of-made seq ∙ ap (λ us. plain.block (map statement_of us)) (g ∙ e)
    ∙ ap plain.block (map_reversed statement_of ss)

pub one_more : (ss ts : List Stmt) (s : Stmt) → ts ≡ ss ++ s ∷ []
    → block_seen ts ≡ plain.statement (statement_of s) (block_seen ss)
one_more ss ts s e = ap plain.block (last_first statement_of ss ts s e)

pub none_seen : (ss : List Stmt) → ss ≡ [] → block_seen ss ≡ plain.no_statements
none_seen ss e = ap block_seen e

pub one_opened : (os ps : List Open) (o : Open) → ps ≡ os ++ o ∷ [] → opens_seen ps ≡ open_seen o ∷ opens_seen os
one_opened os ps o e = last_first open_seen os ps o e

-- an arm before the later ones
arm_before : (later more : List Arm) (c : Expr) (b : Block) (p : plain.Block)
    → more ≡ later ++ roll-Arm (record { test = c; body = b }) ∷ [] → block_of b ≡ p
    → arms (reverse (map tested_of more)) ≡ plain.arm (expression_of c) p (arms (reverse (map tested_of later)))
arm_before later more c b p e g =
    ap arms (last_first tested_of later more (roll-Arm (record { test = c; body = b })) e)
    ∙ ap (λ (t : Tested). plain.arm t.test t.body (arms (reverse (map tested_of later)))) (tested_of-made c b)
    ∙ ap (λ k. plain.arm (expression_of c) k (arms (reverse (map tested_of later)))) g

-- ---- blocks

-- the innermost block that is open
pub record Innermost (os : List Open) (o : Open) (e : Ended) (es : List Ended) : Type 0 where
  pub first : open_seen o ≡ e
  pub rest : opens_seen os ≡ es

pub innermost : (all os : List Open) (o : Open) (e : Ended) (es : List Ended) → all ≡ os ++ o ∷ []
    → opens_seen all ≡ e ∷ es → Innermost os o e es
innermost all os o e es q h =
    let k : open_seen o ∷ opens_seen os ≡ e ∷ es = sym (one_opened os all o q) ∙ h in
    record { first = cc; rest = cc }

module _ (all os : List Open) (l : Vec Arm Global) (o : Block) (v : Vec Stmt Global) (later : plain.Arms)
    (other behind : plain.Block) (es : List Ended) where
  pub record IsIf : Type 0 where
    pub later_is : arms (reverse (map tested_of l.items)) ≡ later
    pub other_is : block_of o ≡ other
    pub behind_is : block_seen v.items ≡ behind
    pub rest : opens_seen os ≡ es

  pub is_if : all ≡ os ++ opens.If l o v ∷ [] → opens_seen all ≡ EndedIf later other behind ∷ es → IsIf
  is_if q h =
      let i = innermost all os (opens.If l o v) (EndedIf later other behind) es q h in
      let k : EndedIf (arms (reverse (map tested_of l.items))) (block_of o) (block_seen v.items)
      ≡ EndedIf later other behind = i.first in
      record { later_is = cc; other_is = cc; behind_is = cc; rest = i.rest }

  pub else_shows : (r : Rest) (p : Block) (b : plain.Block) → all ≡ os ++ opens.If l o v ∷ []
      → opens_seen all ≡ EndedIf later other behind ∷ es
      → block_of p ≡ b → r.opened.items ≡ os ++ opens.If l p v ∷ [] → r.stmts.items ≡ []
      → Shows r plain.no_statements (EndedIf later b behind ∷ es)
  else_shows r p b q h g k n =
      let i = is_if q h in
      let a = i.later_is in
      let c = i.behind_is in
      let d = i.rest in
      let f : opens_seen r.opened.items
      ≡ EndedIf (arms (reverse (map tested_of l.items))) (block_of p) (block_seen v.items) ∷ opens_seen os =
      one_opened os r.opened.items (opens.If l p v) k in
      record { block = none_seen r.stmts.items n; round = cc }

  pub arm_shows : (r : Rest) (p : Block) (b : plain.Block) (m : Vec Arm Global) (c : Expr)
      → all ≡ os ++ opens.If l o v ∷ [] → opens_seen all ≡ EndedIf later other behind ∷ es
      → block_of p ≡ b → m.items ≡ l.items ++ roll-Arm (record { test = c; body = p }) ∷ []
      → r.opened.items ≡ os ++ opens.If m o v ∷ [] → r.stmts.items ≡ []
      → Shows r plain.no_statements (EndedIf (plain.arm (expression_of c) b later) other behind ∷ es)
  arm_shows r p b m c q h g j k n =
      let i = is_if q h in
      let a = i.later_is in
      let x = i.behind_is in
      let y = i.other_is in
      let d = i.rest in
      let w = arm_before l.items m.items c p b j g in
      let f : opens_seen r.opened.items
      ≡ EndedIf (arms (reverse (map tested_of m.items))) (block_of o) (block_seen v.items) ∷ opens_seen os =
      one_opened os r.opened.items (opens.If m o v) k in
      record { block = none_seen r.stmts.items n; round = cc }

  pub if_shows : (r : Rest) (p : Block) (b : plain.Block) (line : ℕ) (more turned : List Arm) (ts : Seq Arm) (c : Expr)
      → all ≡ os ++ opens.If l o v ∷ []
      → opens_seen all ≡ EndedIf later other behind ∷ es → block_of p ≡ b
      → more ≡ l.items ++ roll-Arm (record { test = c; body = p }) ∷ [] → turned ≡ reverse more → ts ≡ turned
      → r.stmts.items ≡ v.items ++ stmts.If line ts o ∷ [] → r.opened.items ≡ os
      → Shows r (plain.statement (plain.If line (plain.arm (expression_of c) b later) other) behind) es
  if_shows r p b line more turned ts c q h g j t s k n =
      let i = is_if q h in
      let a = i.later_is in
      let x = i.behind_is in
      let y = i.other_is in
      let w = arm_before l.items more c p b j g in
      let u : arms (map tested_of ts) ≡ arms (reverse (map tested_of more)) = ap (λ us. arms (map tested_of us)) (s ∙ t)
      ∙ ap arms (map_reversed tested_of more) in
      let z = statement_of-if line ts o in
      let d = one_more v.items r.stmts.items (stmts.If line ts o) k in
      record { block = cc; round = ap opens_seen n ∙ i.rest }

pub do_shows : (all os : List Open) (v : Vec Stmt Global) (behind : plain.Block) (es : List Ended) (r : Rest)
    (p : Block) (b : plain.Block) (line : ℕ) (x : List ℕ) (f g s : Expr)
    → all ≡ os ++ opens.Do v ∷ [] → opens_seen all ≡ EndedDo behind ∷ es → block_of p ≡ b
    → r.stmts.items ≡ v.items ++ stmts.Do line x f g s p ∷ [] → r.opened.items ≡ os
    → Shows r (plain.statement (plain.Do line x (expression_of f) (expression_of g) (expression_of s) b) behind) es
do_shows all os v behind es r p b line x f g s q h k n m =
    let i = innermost all os (opens.Do v) (EndedDo behind) es q h in
    let j : EndedDo (block_seen v.items) ≡ EndedDo behind = i.first in
    let z = statement_of-do line x f g s p in
    let d = one_more v.items r.stmts.items (stmts.Do line x f g s p) n in
    record { block = cc; round = ap opens_seen m ∙ i.rest }

pub end_if_shows : (r : Rest) (ss : List Stmt) (os : List Open) (l : Vec Arm Global) (o : Block) (v : Vec Stmt Global)
    → r.opened.items ≡ os ++ opens.If l o v ∷ [] → l.items ≡ []
    → block_of o ≡ plain.no_statements → v.items ≡ ss → r.stmts.items ≡ []
    → Shows r plain.no_statements (EndedIf plain.no_arms plain.no_statements (block_seen ss) ∷ opens_seen os)
end_if_shows r ss os l o v e none g s n = record {
  block = none_seen r.stmts.items n;
  round = one_opened os r.opened.items (opens.If l o v) e
      ∙ ap (λ (ts : List Arm). EndedIf (arms (reverse (map tested_of ts))) (block_of o)
      (block_seen v.items) ∷ opens_seen os) none
      ∙ ap (λ b. EndedIf plain.no_arms b (block_seen v.items) ∷ opens_seen os) g
      ∙ ap (λ us. EndedIf plain.no_arms plain.no_statements (block_seen us) ∷ opens_seen os) s;
}

pub end_do_shows : (r : Rest) (ss : List Stmt) (os : List Open) (v : Vec Stmt Global)
    → r.opened.items ≡ os ++ opens.Do v ∷ [] → v.items ≡ ss → r.stmts.items ≡ []
    → Shows r plain.no_statements (EndedDo (block_seen ss) ∷ opens_seen os)
end_do_shows r ss os v e s n =
    record {
      block = none_seen r.stmts.items n;
      round = one_opened os r.opened.items (opens.Do v) e
          ∙ ap (λ us. EndedDo (block_seen us) ∷ opens_seen os) s;
    }

-- ---- a logical IF

pub test_is : (line : ℕ) (c : Expr) (done : plain.Block) (body other : Block) (none ts : Seq Arm) → block_of body ≡ done
    → none ≡ []
    → ts ≡ none ++ roll-Arm (record { test = c; body = body }) ∷ [] → block_of other ≡ plain.no_statements
    → statement_of (stmts.If line ts other)
    ≡ plain.If line (plain.arm (expression_of c) done plain.no_arms) plain.no_statements
test_is line c done body other none ts h n e o =
    statement_of-if line ts other
    ∙ ap (λ us. plain.If line (arms (map tested_of us)) (block_of other))
    (e ∙ ap (λ us. us ++ roll-Arm (record { test = c; body = body }) ∷ []) n)
    ∙ ap (λ (t : Tested). plain.If line (plain.arm t.test t.body plain.no_arms) (block_of other))
    (tested_of-made c body)
    ∙ ap (λ k. plain.If line (plain.arm (expression_of c) k plain.no_arms) (block_of other)) h
    ∙ ap (λ k. plain.If line (plain.arm (expression_of c) done plain.no_arms) k) o

-- ---- a label before the block

pub label_shows : (has : ℕ → Bool) (label : Option ℕ) (n : ℕ) (b : plain.Block) (es : List Ended)
    (r : Result Rest Memory) → label ≡ Some n → has n ≡ true
    → IfOk r (λ x. Shows x (plain.statement (statement_of (stmts.Label n)) b) es)
    → IfOk r (λ x. Shows x (with_label has label b) es)
label_shows has label n b es r e h told =
    subst (λ c. IfOk r (λ (x : Rest). Shows x c es))
    (ap (λ c. plain.statement c b) (statement_of-label n)
    ∙ sym (ap (λ l. with_label has l b) e ∙ ap (λ t. cond t (plain.statement (plain.Label n) b) b) h)) told

pub unlabelled : (has : ℕ → Bool) (label : Option ℕ) (n : ℕ) (b : plain.Block) → label ≡ Some n → has n ≡ false
    → b ≡ with_label has label b
unlabelled has label n b e h = sym
    (ap (λ l. with_label has l b) e ∙ ap (λ t. cond t (plain.statement (plain.Label n) b) b) h)

pub no_label : (has : ℕ → Bool) (label : Option ℕ) (b : plain.Block) → label ≡ None → b ≡ with_label has label b
no_label has label b e = sym (ap (λ l. with_label has l b) e)

pub ruleset label_laws = (unlabelled, no_label)
