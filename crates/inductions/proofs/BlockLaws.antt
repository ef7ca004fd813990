-- A block with further statements behind it, and nests with inductions.
use Rattle.std.proofs.Common.{◌≡◌, ℕ, subst, Result, Ok, Err, IfOk, List, [], ◌∷◌, ◌++◌, map, refl, sym, ap, ◌∙◌}
use Rattle.std.proofs.lemmas.List.{map-append}
use Rattle.tree.specs.Plain as P
use Rattle.tree.specs.View.{block_of, statement_of}
use Rattle.tree.specs.declared.stmts.Block.{Block, out-Block, roll-Block}
use Rattle.tree.specs.declared.stmts.Stmt.{Stmt}
use Rattle.tree.proofs.Equations.{block_of-is, block_of-made}
use Rattle.nest.specs.Allocations.{block_then}
use Rattle.nest.specs.Plain.{Nest}
use Rattle.nest.specs.declared.parts.Trip.{Trip}
use Rattle.statement_passes.specs.Shifted.{with_nest_symbols}
use Rattle.inductions.specs.Laws.{NoneIsWritten}
use Rattle.inductions.specs.Nests.{endings, induction_names, inductions_substituted, with_inductions_put, with_inductions}
use Rattle.inductions.specs.declared.found.Induction.{Induction}
use Rattle.inductions.proofs.NotWritten.{no_induction_is_written}

one_behind : (cs ds : List P.Statement) → block_then (P.block cs) (P.block ds) ≡ P.block (cs ++ ds)
one_behind [] ds = refl
one_behind (c ∷ cs) ds = ap (P.statement c) (one_behind cs ds)

pub more-is : (a : Block) (more all : List Stmt) → all ≡ (out-Block a).stmts ++ more
    → block_of (roll-Block (record { stmts = all })) ≡ block_then (block_of a) (P.block (map statement_of more))
more-is a more all e =
    block_of-made all ∙ ap (λ us. P.block (map statement_of us)) e
    ∙ ap P.block (map-append statement_of (out-Block a).stmts more)
    ∙ sym (ap (λ b. block_then b (P.block (map statement_of more))) (block_of-is a) ∙ one_behind (map statement_of (out-Block a).stmts) (map statement_of more))

pub with-some : (n : Nest) (o : List ℕ × Trip) (ds : List Induction) → (ds ≡ [] → ⊥)
    → with_inductions n o ds ≡ with_inductions_put o.0 ds (block_then n.after (endings n o.1 ds)) (with_nest_symbols n (induction_names ds))
with-some n o [] h = absurd (h refl)
with-some n o (d ∷ ds) h = refl

-- where it is the nest with inductions substituted, none of them is written
pub unwritten-in : {A E : Type 0} (r : Result A E) (f : A → Nest) (n : Nest) → IfOk r (λ new. f new ≡ inductions_substituted n) → IfOk r (λ new. NoneIsWritten n (f new))
unwritten-in (Ok x) f n h = subst (NoneIsWritten n) (sym h) (no_induction_is_written n)
unwritten-in (Err e) f n h = h

pub ruleset nest_laws = (with-some)

pub ruleset block_laws = (more-is, block_of-is, block_of-made)
