-- References at the front of words.
use Rattle.std.proofs.Common.{◌≡◌, ℕ, List, ◌++◌, ap, sym, ◌∙◌, refl, true}
use Rattle.tree.specs.Plain.{Expression, Named, Reference}
use Rattle.tree.specs.View.{expression_of, reference_of}
use Rattle.tree.specs.declared.exprs.Ref.{Ref}
use Rattle.tree.proofs.Equations.{expression_of-int, expression_of-truth, expression_of-item, expression_of-un, expression_of-bin, expression_of-call}
use Rattle.tree.proofs.Equations.{expression_of-list, expression_of-spread, expression_of-transpose, expression_of-reshape, expression_of-reduce}
use Rattle.f77_grammar.specs.expressions.Phrases.{Phrase77, Literal, WideLiteral, Truth, Name, Listed, Paren, Signed, Joined, written77, tree77_of}
use Rattle.f77_grammar.specs.expressions.Words.{Word77}
use Rattle.f77_grammar.specs.statements.Items.{IsReference77}
use Rattle.reading.specs.Signs.{reference_in}
use Rattle.f77_expressions.specs.declared.operands.Operand.{Operand}
use Rattle.f77_expressions.specs.Reading as reading
use Rattle.f77_expressions.specs.Reading.{Ends, IsMadeOf, Gives}
use Rattle.f77_expressions.specs.TokenFronts.{begins_with_name}
use Rattle.f77_statement.specs.Parts.{IsItem, IsReferenceOf, BeginsWithReference}

pub ruleset items = (
  expression_of-int,
  expression_of-truth,
  expression_of-item,
  expression_of-un,
  expression_of-bin,
  expression_of-call,
  expression_of-list,
  expression_of-spread,
  expression_of-transpose,
  expression_of-reshape,
  expression_of-reduce,
)

-- what begins with a name and stands for a reference has neither a sign nor parentheses
pub is_bare : (p : Phrase77) (rest : List Word77) (r : Reference) → begins_with_name (written77 p ++ rest) ≡ true → IsItem (tree77_of p) r → IsReference77 p
is_bare (Literal n) rest r b e = cc
is_bare WideLiteral rest r b e = cc
is_bare (Truth t) rest r b e = cc
is_bare (Name x) rest r b e = tt
is_bare (Listed x ps) rest r b e = tt
is_bare (Paren p) rest r b e = cc
is_bare (Signed s p) rest r b e = cc
is_bare (Joined o p q) rest r b e = cc

pub names_begin : (p : Phrase77) (rest : List Word77) → IsReference77 p → begins_with_name (written77 p ++ rest) ≡ true
names_begin (Name x) rest h = refl
names_begin (Listed x ps) rest h = refl
names_begin p rest h = absurd h

pub named_is : (p : Phrase77) → IsReference77 p → tree77_of p ≡ Named (reference_in (tree77_of p)).name (reference_in (tree77_of p)).subscripts
named_is (Name x) h = refl
named_is (Listed x ps) h = refl
named_is p h = absurd h

same_reference : (e : Expression) (r : Reference) → IsItem e r → r ≡ reference_in e
same_reference e r h = sym (ap reference_in h)

made_reference : (m : Operand) (p : Phrase77) (r : Ref) (d : ℕ) → IsMadeOf m p → IsItem (expression_of m.tree) (reference_of r) → d ≡ m.depth → IsReferenceOf r d p
made_reference m p r d is e k = record { tree = same_reference _ _ e ∙ ap reference_in is.tree; depth = k ∙ is.depth }

pub reference_found : (ws rest : List Word77) (m : Operand) (r : Ref) (d : ℕ) → begins_with_name ws ≡ true → reading.Begins ws m rest
    → IsItem (expression_of m.tree) (reference_of r) → d ≡ m.depth → BeginsWithReference ws r d rest
reference_found ws rest m r d b h e k =
    record { phrase = h.phrase; bare = is_bare h.phrase rest (reference_of r) (sym (ap begins_with_name h.same) ∙ b) (sym h.is.tree ∙ e); good = h.good; is = made_reference m h.phrase r d h.is e k; same = h.same }

pub ruleset references = (reference_found)
