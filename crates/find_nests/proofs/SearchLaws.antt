-- What is found in lists of statements and of arms.
use Rattle.std.proofs.Common.{◌≡◌, ℕ, Bool, true, false, Option, Some, None, List, [], ◌∷◌, ◌++◌, map, refl, sym, ap, ◌∙◌, append_assoc, cond, drop, drop-cons, suc, add-one, get_or, length, ◌+◌, ◌<◌, ◌≤◌, arith, is_some}
use Rattle.std.specs.List.{filter}
use Rattle.std.proofs.lemmas.List.{append-nil, map-append, length-map}
use Rattle.tree.specs.Plain as P
use Rattle.tree.specs.Plain.{Statement, Program, Declaration, block}
use Rattle.rewrite.specs.Names.{names_written_in}
use Rattle.nest_reasons.specs.Symbols.{is_symbol, symbols_of}
use Rattle.tree.specs.View.{expression_of, statement_of, tested_of, block_of, arms, Tested}
use Rattle.tree.specs.declared.names.Name.{Name}
use Rattle.tree.specs.declared.lists.Seq.{Seq}
use Rattle.tree.specs.declared.exprs.Expr.{Expr}
use Rattle.tree.specs.declared.stmts.Stmt.{Stmt}
use Rattle.tree.specs.declared.stmts.Stmt.TheVariants as stmts
use Rattle.tree.specs.declared.stmts.Arm.{Arm}
use Rattle.tree.specs.declared.stmts.Block.{Block, out-Block}
use Rattle.tree.proofs.Equations.{statement_equations, statement_of-if, statement_of-do, block_of-is}
use Rattle.find_nests.specs.nest_parts.Numbers.{next_loop_number, number_after, after_arms, after_block}
use Rattle.find_nests.specs.nest_parts.Lists.{after_each, after_list}
use Rattle.find_nests.proofs.NestParts.PartLaws.{part_laws, after_each_is, number_after-block}
use Rattle.find_nests.specs.declared.reasons.Reason.{Reason}
use Rattle.find_nests.specs.Reasons.{reason_over}
use Rattle.find_nests.specs.Loops.{SourceLoop, Numbered}
use Rattle.find_nests.specs.LookedAt.{reason_of}
use Rattle.find_nests.specs.declared.search.Found.{Found as Found'}
use Rattle.find_nests.specs.declared.search.Found.TheVariants as found
use Rattle.nest.specs.declared.nests.Nest.{Nest as Nest'}
use Rattle.nest.specs.Plain.{Nest, Part, Made}
use Rattle.nest.specs.View.{nest_of}
use Rattle.find_nests.specs.Found.{Found, InNest, Kept, found_as, found_among, nests_with, nest_of_loop, body_of}
use Rattle.find_nests.specs.View.{found_of}
use Rattle.find_nests.specs.Walk.{outermost_in, outermost_in_arms, outermost_in_block, outermost_list, outermost_each, nests_among}

-- ---- lists of loops

pub found-append : (p : Program) (n : ℕ) (xs ys : List Numbered)
    → found_among p n (xs ++ ys) ≡ found_among p n xs ++ found_among p (nests_among p.declarations n xs) ys
found-append p n [] ys = refl
found-append p n (x ∷ xs) ys =
    ap (λ fs. found_as p n x (reason_of p.declarations x.loop) ∷ fs) (found-append p (nests_with n (reason_of p.declarations x.loop)) xs ys)

pub nests-append : (ds : List Declaration) (n : ℕ) (xs ys : List Numbered)
    → nests_among ds n (xs ++ ys) ≡ nests_among ds (nests_among ds n xs) ys
nests-append ds n [] ys = refl
nests-append ds n (x ∷ xs) ys = nests-append ds (nests_with n (reason_of ds x.loop)) xs ys

-- ---- lists of statements and of arms

module _ (ds : List Declaration) where
  pub each_arm : (k : ℕ) (ts : List Tested) → outermost_in_arms ds k (arms ts) ≡ outermost_each ds k ts
  each_arm k [] = refl
  each_arm k (t ∷ ts) = ap (λ ls. outermost_in_block ds k t.body ++ ls) (each_arm (after_block k t.body) ts)

  pub each_statement : (k : ℕ) (cs : List Statement) → outermost_in_block ds k (block cs) ≡ outermost_list ds k cs
  each_statement k [] = refl
  each_statement k (c ∷ cs) = ap (λ ls. outermost_in ds k c ++ ls) (each_statement (number_after k c) cs)

  pub loops-block : (k : ℕ) (b : Block) → outermost_in_block ds k (block_of b) ≡ outermost_list ds k (map statement_of (out-Block b).stmts)
  loops-block k b = ap (outermost_in_block ds k) (block_of-is b) ∙ each_statement k (map statement_of (out-Block b).stmts)

  pub loops-if : (k line : ℕ) (ts : Seq Arm) (other : Block) → outermost_in ds k (statement_of (stmts.If line ts other))
      ≡ outermost_each ds k (map tested_of ts) ++ outermost_in_block ds (after_each k (map tested_of ts)) (block_of other)
  loops-if k line ts other =
      ap (outermost_in ds k) (statement_of-if line ts other)
      ∙ ap (λ ls. ls ++ outermost_in_block ds (after_arms k (arms (map tested_of ts))) (block_of other)) (each_arm k (map tested_of ts))
      ∙ ap (λ n. outermost_each ds k (map tested_of ts) ++ outermost_in_block ds n (block_of other)) (after_each_is k (map tested_of ts))

-- ---- a loop

abbrev pub made_nest : Program → Numbered → ℕ → Part → List Declaration → List (List ℕ) → List Made → P.Block → Nest
made_nest p l number body declarations symbols made after = record {
  number = number;
  line = l.loop.line;
  title = p.name;
  body = body;
  declarations = declarations;
  symbols = symbols;
  made = made;
  after = after;
  masks = 0;
  copies = 0;
}

module _ (p : Program) (k m line : ℕ) (x : Name) (a b c : Expr) (body : Block) where
  abbrev source : SourceLoop
  source = record { line = line; variable = x; first = expression_of a; last = expression_of b; step = expression_of c; body = block_of body }

  abbrev numbered : Numbered
  numbered = record { before = k; loop = source }

  abbrev turns : Statement
  turns = statement_of (stmts.Do line x a b c body)

  abbrev inside : List Numbered
  inside = outermost_in_block p.declarations (next_loop_number k) (block_of body)

  abbrev reason : Option Reason
  reason = reason_over (symbols_of p.declarations x (block_of body)) turns

  reason-is : reason ≡ reason_of p.declarations source
  reason-is = ap (reason_over (symbols_of p.declarations x (block_of body))) (statement_of-do line x a b c body)

  loops-do : outermost_in p.declarations k turns ≡ numbered ∷ cond (is_some (reason_of p.declarations source)) inside []
  loops-do = ap (outermost_in p.declarations k) (statement_of-do line x a b c body)

  abbrev found_with : Option Reason → List Found
  found_with o = found_as p m numbered o ∷ found_among p (nests_with m o) (cond (is_some o) inside [])

  found-do : (o : Option Reason) → o ≡ reason → found_among p m (outermost_in p.declarations k turns) ≡ found_with o
  found-do o e = ap (found_among p m) loops-do ∙ ap found_with (sym (e ∙ reason-is))

  abbrev nests_then : Option Reason → ℕ
  nests_then o = nests_among p.declarations (nests_with m o) (cond (is_some o) inside [])

  nests-do : (o : Option Reason) → o ≡ reason → nests_among p.declarations m (outermost_in p.declarations k turns) ≡ nests_then o
  nests-do o e = ap (nests_among p.declarations m) loops-do ∙ ap nests_then (sym (e ∙ reason-is))

  pub nest-found : (old new : List Found) → None ≡ reason → new ≡ old ++ InNest (nest_of_loop p (next_loop_number m) numbered) ∷ []
      → new ≡ old ++ found_among p m (outermost_in p.declarations k turns)
  nest-found old new e h = h ∙ ap (λ fs. old ++ fs) (sym (found-do None e))

  pub nest-nests : None ≡ reason → next_loop_number m ≡ nests_among p.declarations m (outermost_in p.declarations k turns)
  nest-nests e = sym (nests-do None e)

  pub kept-found : (r : Reason) (old more new : List Found) → Some r ≡ reason → more ≡ old ++ Kept line r ∷ []
      → new ≡ more ++ found_among p m inside → new ≡ old ++ found_among p m (outermost_in p.declarations k turns)
  kept-found r old more new e one rest =
      rest ∙ ap (λ fs. fs ++ found_among p m inside) one ∙ append_assoc old (Kept line r ∷ []) (found_among p m inside)
      ∙ ap (λ fs. old ++ fs) (sym (found-do (Some r) e))

  pub kept-nests : (r : Reason) → Some r ≡ reason → nests_among p.declarations m inside ≡ nests_among p.declarations m (outermost_in p.declarations k turns)
  kept-nests r e = sym (nests-do (Some r) e)

fewer : {A : Type 0} (f : A → Bool) (xs : List A) → length (filter f xs) ≤ length xs
fewer f [] = omega arith
fewer f (x ∷ xs) = by (f x) (fewer f xs)
  where
    by : (b : Bool) → length (filter f xs) ≤ length xs → length (cond b (x ∷ filter f xs) (filter f xs)) ≤ length (x ∷ xs)
    by true h = omega (arith, h)
    by false h = omega (arith, h)

-- the symbols are among the declarations
pub few_symbols : (ds : List Declaration) (x : List ℕ) (b : P.Block) → length (symbols_of ds x b) ≤ length ds
few_symbols ds x b =
    let mapped = length-map (filter (is_symbol x (names_written_in b)) ds) (λ (d : Declaration). d.name) in
    let less = fewer (is_symbol x (names_written_in b)) ds in
    omega (arith, mapped, less)

-- a nest by what it has
pub nest-is : (p : Program) (n : ℕ) (l : Numbered) (number : ℕ) (body : Part) (declarations : List Declaration) (symbols : List (List ℕ)) (made : List Made) (after : P.Block)
    → number ≡ n → body ≡ body_of l → declarations ≡ p.declarations → symbols ≡ symbols_of p.declarations l.loop.variable l.loop.body → made ≡ [] → after ≡ P.no_statements
    → made_nest p l number body declarations symbols made after ≡ nest_of_loop p n l
nest-is p n l number body ds symbols made after e f g h i j =
    ap (λ x. made_nest p l x body ds symbols made after) e
    ∙ ap (λ x. made_nest p l n x ds symbols made after) f
    ∙ ap (λ x. made_nest p l n (body_of l) x symbols made after) g
    ∙ ap (λ x. made_nest p l n (body_of l) p.declarations x made after) h
    ∙ ap (λ x. made_nest p l n (body_of l) p.declarations (symbols_of p.declarations l.loop.variable l.loop.body) x after) i
    ∙ ap (λ x. made_nest p l n (body_of l) p.declarations (symbols_of p.declarations l.loop.variable l.loop.body) [] x) j

-- one more that is found
pub one_nest : (fs new : List Found') (m : Nest') (q : Nest) → nest_of m ≡ q → new ≡ fs ++ found.Nest m ∷ [] → map found_of new ≡ map found_of fs ++ InNest q ∷ []
one_nest fs new m q e h = ap (map found_of) h ∙ map-append found_of fs (found.Nest m ∷ []) ∙ ap (λ x. map found_of fs ++ InNest x ∷ []) e

pub one_kept : (fs new : List Found') (line : ℕ) (r : Reason) → new ≡ fs ++ found.Kept line r ∷ [] → map found_of new ≡ map found_of fs ++ Kept line r ∷ []
one_kept fs new line r h = ap (map found_of) h ∙ map-append found_of fs (found.Kept line r ∷ [])

-- ---- what is left of a list that is gone through

-- what was found so far, with what is found in the statements that are left
pub record Between (p : Program) (ss : List Stmt) (k n : ℕ) (first : List Found) (i l m : ℕ) (fs : List Found) : Type 0 where
  pub found : fs ++ found_among p m (outermost_list p.declarations l (map statement_of (drop i ss)))
      ≡ first ++ found_among p n (outermost_list p.declarations k (map statement_of ss))
  pub nests : nests_among p.declarations m (outermost_list p.declarations l (map statement_of (drop i ss)))
      ≡ nests_among p.declarations n (outermost_list p.declarations k (map statement_of ss))
  pub loops : after_list l (map statement_of (drop i ss)) ≡ after_list k (map statement_of ss)

-- the same of arms
pub record BetweenArms (p : Program) (as' : List Arm) (k n : ℕ) (first : List Found) (i l m : ℕ) (fs : List Found) : Type 0 where
  pub found : fs ++ found_among p m (outermost_each p.declarations l (map tested_of (drop i as')))
      ≡ first ++ found_among p n (outermost_each p.declarations k (map tested_of as'))
  pub nests : nests_among p.declarations m (outermost_each p.declarations l (map tested_of (drop i as')))
      ≡ nests_among p.declarations n (outermost_each p.declarations k (map tested_of as'))
  pub loops : after_each l (map tested_of (drop i as')) ≡ after_each k (map tested_of as')

-- one statement more
module _ (p : Program) (ss : List Stmt) (k n : ℕ) (first fs gs : List Found) (i l m l' m' : ℕ) (s : Stmt) where
  abbrev ds : List Declaration
  ds = p.declarations

  abbrev here : List Numbered
  here = outermost_in ds l (statement_of s)

  abbrev rest : List Statement
  rest = map statement_of (drop (i + 1) ss)

  pub next_statement : i < length ss → s ≡ get_or ss i s → Between p ss k n first i l m fs → gs ≡ fs ++ found_among p m here → m' ≡ nests_among ds m here
      → l' ≡ number_after l (statement_of s) → Between p ss k n first (i + 1) l' m' gs
  next_statement h e b g f a =
      let left : map statement_of (drop i ss) ≡ statement_of s ∷ rest =
      ap (map statement_of) (drop-cons ss i s h ∙ ap (λ x. x ∷ drop (suc i) ss) (sym e) ∙ ap (λ j. s ∷ drop j ss) (sym (add-one i))) in
      record {
        found =
            ap (λ x. x ++ found_among p m' (outermost_list ds l' rest)) g
            ∙ ap (λ x. (fs ++ found_among p m here) ++ found_among p x (outermost_list ds l' rest)) f
            ∙ ap (λ x. (fs ++ found_among p m here) ++ found_among p (nests_among ds m here) (outermost_list ds x rest)) a
            ∙ append_assoc fs (found_among p m here) (found_among p (nests_among ds m here) (outermost_list ds (number_after l (statement_of s)) rest))
            ∙ ap (λ x. fs ++ x) (sym (found-append p m here (outermost_list ds (number_after l (statement_of s)) rest)))
            ∙ ap (λ x. fs ++ found_among p m (outermost_list ds l x)) (sym left)
            ∙ b.found;
        nests =
            ap (λ x. nests_among ds x (outermost_list ds l' rest)) f
            ∙ ap (λ x. nests_among ds (nests_among ds m here) (outermost_list ds x rest)) a
            ∙ sym (nests-append ds m here (outermost_list ds (number_after l (statement_of s)) rest))
            ∙ ap (λ x. nests_among ds m (outermost_list ds l x)) (sym left)
            ∙ b.nests;
        loops = ap (λ x. after_list x rest) a ∙ ap (after_list l) (sym left) ∙ b.loops;
      }

-- one arm more
module _ (p : Program) (ss : List Arm) (k n : ℕ) (first fs gs : List Found) (i l m l' m' : ℕ) (s : Arm) where
  abbrev ds' : List Declaration
  ds' = p.declarations

  abbrev body : P.Block
  body = (tested_of s).body

  abbrev here' : List Numbered
  here' = outermost_in_block ds' l body

  abbrev rest' : List Tested
  rest' = map tested_of (drop (i + 1) ss)

  pub next_arm : i < length ss → s ≡ get_or ss i s → BetweenArms p ss k n first i l m fs → gs ≡ fs ++ found_among p m here' → m' ≡ nests_among ds' m here'
      → l' ≡ after_block l body → BetweenArms p ss k n first (i + 1) l' m' gs
  next_arm h e b g f a =
      let left : map tested_of (drop i ss) ≡ tested_of s ∷ rest' =
      ap (map tested_of) (drop-cons ss i s h ∙ ap (λ x. x ∷ drop (suc i) ss) (sym e) ∙ ap (λ j. s ∷ drop j ss) (sym (add-one i))) in
      record {
        found =
            ap (λ x. x ++ found_among p m' (outermost_each ds' l' rest')) g
            ∙ ap (λ x. (fs ++ found_among p m here') ++ found_among p x (outermost_each ds' l' rest')) f
            ∙ ap (λ x. (fs ++ found_among p m here') ++ found_among p (nests_among ds' m here') (outermost_each ds' x rest')) a
            ∙ append_assoc fs (found_among p m here') (found_among p (nests_among ds' m here') (outermost_each ds' (after_block l body) rest'))
            ∙ ap (λ x. fs ++ x) (sym (found-append p m here' (outermost_each ds' (after_block l body) rest')))
            ∙ ap (λ x. fs ++ found_among p m (outermost_each ds' l x)) (sym left)
            ∙ b.found;
        nests =
            ap (λ x. nests_among ds' x (outermost_each ds' l' rest')) f
            ∙ ap (λ x. nests_among ds' (nests_among ds' m here') (outermost_each ds' x rest')) a
            ∙ sym (nests-append ds' m here' (outermost_each ds' (after_block l body) rest'))
            ∙ ap (λ x. nests_among ds' m (outermost_each ds' l x)) (sym left)
            ∙ b.nests;
        loops = ap (λ x. after_each x rest') a ∙ ap (after_each l) (sym left) ∙ b.loops;
      }

pub ruleset search_laws = (statement_equations, part_laws, loops-if, found-append, nests-append, append_assoc, append-nil)

pub ruleset block_laws = (loops-block, number_after-block)
