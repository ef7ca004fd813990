-- What stands in array form in the place of a loop: one statement, in its further loops.
use Rattle.std.proofs.Common.{◌≡◌, refl, ap, ◌∙◌, ℕ, suc, ◌<◌, ◌≤◌, nat_lt, Bool, true, false, cond, List, [], ◌∷◌}
use Rattle.std.proofs.Common.{◌++◌, length, Option, Some, None, arith}
use Rattle.std.specs.Str.{bytes_eq}
use Rattle.std.proofs.lemmas.Slice.Eq.{bytes_eq-Decides}
use Rattle.tree.specs.Plain.{Statement, Block, no_statements, statement}
use Rattle.dependence_graph.specs.declared.graphs.Edge.{Edge}
use Rattle.dependence_graph.specs.declared.graphs.Hold.{Hold}
use Rattle.emission.specs.emission_pieces.Levels.{may_be_formed}
use Rattle.emission.specs.emission_pieces.Pieces.{formed_block}
use Rattle.emission.specs.emission_pieces.Shapes.{numbers_at}
use Rattle.emission.proofs.EmissionPieces.Lists.{both_true}
use Rattle.nest_order.specs.orders.Shapes.{Shape, Single, Loop, Shapes, no_shapes, shape}
use Rattle.nest_order.specs.runs.Alone.{chain}
use Rattle.nest.specs.Bodies.{nest_statements}
use Rattle.nest.specs.Plain.{Nest}
use Rattle.emission.specs.emission_forms.Forms.{Lone, within, lone_in, lone_among, only_in, stands_in, may_stand, form_of_lone}
use Rattle.emission.specs.emission_forms.Forms.{formed}

some_same : {X : Type 0} (a b : X) → Some a ≡ Some b → a ≡ b
some_same a b e = cc

nothing_is : {X : Type 0} (a : X) → ◌≡◌ {A = Option X} None (Some a) → ⊥
nothing_is a e = cc

-- ---- a shape with one statement is a chain

abbrev chain_of : Lone → Shape
chain_of x = chain x.loops x.statement

in_one_more : (l : ℕ) (ts : Shapes) (o : Option Lone) (x : Lone) → within l o ≡ Some x → ((y : Lone) → o ≡ Some y → ts ≡ shape (chain_of y) no_shapes) → Loop l ts ≡ chain_of x
in_one_more l ts None x e f = absurd (nothing_is x e)
in_one_more l ts (Some y) x e f = ap (λ us. Loop l us) (f y refl) ∙ ap chain_of (some_same (record { loops = l ∷ y.loops; statement = y.statement }) x e)

mutual
  lone_chain : (t : Shape) (x : Lone) → lone_in t ≡ Some x → t ≡ chain_of x
  lone_chain (Single s) x e = ap chain_of (some_same (record { loops = []; statement = s }) x e)
  lone_chain (Loop l ts) x e = in_one_more l ts (lone_among ts) x e (λ y f. lone_chain_among ts y f)

  lone_chain_among : (ts : Shapes) (x : Lone) → lone_among ts ≡ Some x → ts ≡ shape (chain_of x) no_shapes
  lone_chain_among no_shapes x e = absurd (nothing_is x e)
  lone_chain_among (shape t no_shapes) x e = ap (λ u. shape u no_shapes) (lone_chain t x e)
  lone_chain_among (shape t (shape u us)) x e = absurd (nothing_is x e)

in_some : (l : ℕ) (o : Option Lone) (x : Lone) → within l o ≡ Some x → 1 ≤ length x.loops
in_some l None x e = absurd (nothing_is x e)
in_some l (Some y) x e = let f : suc (length y.loops) ≡ length x.loops = ap (λ (z : Lone). length z.loops) (some_same (record { loops = l ∷ y.loops; statement = y.statement }) x e) in omega arith

-- ---- its form

only_block : (b : Block) (c : Statement) → only_in b ≡ Some c → b ≡ statement c no_statements
only_block no_statements c e = absurd (nothing_is c e)
only_block (statement d no_statements) c e = ap (λ z. statement z no_statements) (some_same d c e)
only_block (statement d (statement f fs)) c e = absurd (nothing_is c e)

-- c stands for the statement of the chain t, which may be formed there
pub record IsFormed (n : Nest) (edges : List Edge) (holds : List Hold) (outer : List ℕ) (t : Shape) (c : Statement) : Type 0 where
  pub inner : List ℕ
  pub number : ℕ
  pub is_chain : t ≡ chain inner number
  pub some : 1 ≤ length inner
  pub within : number < length (nest_statements n)
  pub loops : numbers_at n number ≡ outer ++ inner
  pub may : may_be_formed edges holds (suc (length outer)) number ≡ true
  pub form : formed_block n (suc (length outer)) number ≡ statement c no_statements

less : (s m : ℕ) → nat_lt s m ≡ true → s < m
less s m e = grind arith

module _ (n : Nest) (edges : List Edge) (holds : List Hold) (outer : List ℕ) (t : Shape) (c : Statement) where
  formed_so : (x : Lone) → lone_in t ≡ Some x → 1 ≤ length x.loops → (b : Bool) → may_stand n edges holds outer x ≡ b
      → cond b (only_in (formed_block n (suc (length outer)) x.statement)) None ≡ Some c → IsFormed n edges holds outer t c
  formed_so x q some false m e = absurd (nothing_is c e)
  formed_so x q some true m e =
      let may = both_true (stands_in n edges holds outer x) (may_be_formed edges holds (suc (length outer)) x.statement) m in
      let stands = both_true (nat_lt x.statement (length (nest_statements n))) (bytes_eq (numbers_at n x.statement) (outer ++ x.loops)) may.0 in
      record {
        inner = x.loops;
        number = x.statement;
        is_chain = lone_chain t x q;
        some = some;
        within = less x.statement (length (nest_statements n)) stands.0;
        loops = (bytes_eq-Decides (numbers_at n x.statement) (outer ++ x.loops)).0 stands.1;
        may = may.1;
        form = only_block (formed_block n (suc (length outer)) x.statement) c e;
      }

  formed_by : (o : Option Lone) → lone_in t ≡ o → ((x : Lone) → o ≡ Some x → 1 ≤ length x.loops) → form_of_lone n edges holds outer o ≡ Some c → IsFormed n edges holds outer t c
  formed_by None q some e = absurd (nothing_is c e)
  formed_by (Some x) q some e = formed_so x q (some x refl) (may_stand n edges holds outer x) refl e

pub formed_is : (n : Nest) (edges : List Edge) (holds : List Hold) (outer : List ℕ) (t : Shape) (c : Statement) → formed n edges holds outer t ≡ Some c → IsFormed n edges holds outer t c
formed_is n edges holds outer (Single s) c e = absurd (nothing_is c e)
formed_is n edges holds outer (Loop l ts) c e =
    formed_by n edges holds outer (Loop l ts) c (lone_in (Loop l ts)) refl (λ x q. in_some l (lone_among ts) x q) e
