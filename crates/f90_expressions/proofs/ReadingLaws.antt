-- Reading by the machine, in the words of the grammar.
use Rattle.std.proofs.Common.{◌≡◌, List, [], ◌++◌, Bool, true, false, ap, sym, ◌∙◌, subst, Some, None, Err}
use Rattle.std.specs.Prelude.{Option}
use Rattle.f90_grammar.specs.Phrases.{Phrase90, IsExpression90, written90}
use Rattle.f90_grammar.specs.Words.{Word90}
use Rattle.f90_laws.specs.unique.Unique.{EndsExpression}
use Rattle.reading.specs.declared.stops.Stop.{Stop}
use Rattle.reading.specs.declared.stops.Stop.TheVariants.{Syntax, Memory}
use Rattle.f90_expressions.specs.declared.nodes.Node as code
use Rattle.f90_expressions.specs.declared.nodes.Expression.{Expression}
use Rattle.f90_expressions.specs.declared.operands.Operand.{Operand}
use Rattle.f90_expressions.specs.Flat.{Node, flat}
use Rattle.f90_expressions.specs.Machine.{Info, Read, Wants, run, answer, info_of}
use Rattle.f90_expressions.specs.Reading.{IsMadeOf, Begins, Gives}
use Rattle.f90_expressions.specs.Views.{info_seen, nodes_seen, Lacks}
use Rattle.f90_expressions.proofs.Complete.{is_run}
use Rattle.f90_expressions.proofs.Placing.{are_placed}
use Rattle.f90_expressions.proofs.Sound.{run_found}

abbrev read_at : Info → List Node → List Word90 → Read
read_at m ns rest = record { info = m; nodes = ns; rest = rest }

the_same : (a b : Read) → Some a ≡ Some b → a ≡ b
the_same a b e = cc

none_some : {P : Type 0} (a : Read) (o : Option Read) → o ≡ None → o ≡ Some a → P
none_some a o e f = absurd (cc)

clash : {P : Type 0} (b : Bool) → b ≡ true → b ≡ false → P
clash b h k = absurd (cc)

made : (e : Expression) (m : Operand) (ns : List code.Node) (p : Phrase90) → e.nodes ≡ ns → e.depth ≡ m.depth → info_seen m ≡ info_of p → nodes_seen ns ≡ flat p
    → IsMadeOf e p
made e m ns p a b i f = record { nodes = ap nodes_seen a ∙ f; depth = b ∙ ap (λ (x : Info). x.depth) i }

pub found_by : (ws : List Word90) (e : Expression) (m : Operand) (ns : List code.Node) (rest : List Word90)
    → run ws (Wants []) [] ≡ answer (info_seen m) (nodes_seen ns) rest → m.placed ≡ true → e.nodes ≡ ns → e.depth ≡ m.depth → Begins ws e rest
found_by ws e m ns rest h g a b =
    let f = run_found ws (read_at (info_seen m) (nodes_seen ns) rest) h g in
    record { phrase = f.phrase; good = f.good; is = made e m ns f.phrase a b f.info_is f.nodes_are; same = sym f.text_is }

-- the list of a run begins empty
pub started : (ws : List Word90) (ns : List code.Node) (r : Option Read) → ns ≡ [] → run ws (Wants []) (nodes_seen ns) ≡ r → run ws (Wants []) [] ≡ r
started ws ns r e h = ap (λ (us : List code.Node). run ws (Wants []) (nodes_seen us)) (sym e) ∙ h

pub lacks : (stop : Stop) (ws : List Word90) (ns : List code.Node) → ns ≡ [] → Lacks stop (run ws (Wants []) (nodes_seen ns)) → Lacks stop (run ws (Wants []) [])
lacks stop ws ns e h = subst (λ (us : List code.Node). Lacks stop (run ws (Wants []) (nodes_seen us))) e h

again : (ws : List Word90) (p : Phrase90) (rest : List Word90) → IsExpression90 p → EndsExpression rest → ws ≡ written90 p ++ rest
    → run ws (Wants []) [] ≡ answer (info_of p) (flat p) rest
again ws p rest g e w = ap (λ (q : List Word90). run q (Wants []) []) w ∙ is_run p rest [] g e

record SameRead (m k : Info) (ns us : List Node) (r s : List Word90) : Type 0 where
  info_is : m ≡ k
  nodes_are : ns ≡ us
  rest_is : r ≡ s

same_read : (m k : Info) (ns us : List Node) (r s : List Word90) → answer m ns r ≡ answer k us s → SameRead m k ns us r s
same_read m k ns us r s e =
    let q = the_same (read_at m ns r) (read_at k us s) e in
    record { info_is = ap (λ (x : Read). x.info) q; nodes_are = ap (λ (x : Read). x.nodes) q; rest_is = ap (λ (x : Read). x.rest) q }

pub only_by : (ws : List Word90) (e : Expression) (m : Operand) (ns : List code.Node) (rest : List Word90) (p : Phrase90) (more : List Word90)
    → run ws (Wants []) [] ≡ answer (info_seen m) (nodes_seen ns) rest → e.nodes ≡ ns → e.depth ≡ m.depth
    → IsExpression90 p → EndsExpression more → ws ≡ written90 p ++ more → IsMadeOf e p × (rest ≡ more)
only_by ws e m ns rest p more h a b g x w =
    let s = same_read (info_seen m) (info_of p) (nodes_seen ns) (flat p) rest more (sym h ∙ again ws p more g x w) in
    (made e m ns p a b s.info_is s.nodes_are, s.rest_is)

pub unplaced : {P : Type 0} (ws : List Word90) (m : Operand) (ns : List code.Node) (rest : List Word90) (p : Phrase90) (more : List Word90)
    → run ws (Wants []) [] ≡ answer (info_seen m) (nodes_seen ns) rest → m.placed ≡ false
    → IsExpression90 p → EndsExpression more → ws ≡ written90 p ++ more → P
unplaced ws m ns rest p more h k g x w =
    let s = same_read (info_seen m) (info_of p) (nodes_seen ns) (flat p) rest more (sym h ∙ again ws p more g x w) in
    clash m.placed (ap (λ (i : Info). i.placed) s.info_is ∙ are_placed p g) k

pub error_by : (stop : Stop) (ws : List Word90) (p : Phrase90) (more : List Word90) → Lacks stop (run ws (Wants []) [])
    → IsExpression90 p → EndsExpression more → ws ≡ written90 p ++ more → Gives (Err stop) p more
error_by Syntax ws p more h g x w = none_some (read_at (info_of p) (flat p) more) (run ws (Wants []) []) h (again ws p more g x w)
error_by Memory ws p more h g x w = tt
