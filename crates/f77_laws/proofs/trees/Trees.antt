-- The tree of a text.
use Rattle.std.proofs.Common.{◌≡◌, List, [], refl, sym, ap, subst, ◌∙◌}
use Rattle.meaning.specs.Dialect.{Dialect}
use Rattle.tree.specs.Plain as tree
use Rattle.tree.specs.Plain.{Program}
use Rattle.f77_grammar.specs.Statement77.{Labelled}
use Rattle.f77_grammar.specs.program.Uses.{uses_in_text}
use Rattle.f77_grammar.specs.program.Limits.{constants_of}
use Rattle.f77_grammar.specs.program.Tree.{targets}
use Rattle.f77_laws.specs.trees.Steps.{rest_from, tree_of}
use Rattle.f77_grammar.specs.program.Program77.{findings, ReadsStatements}
use Rattle.f77_laws.specs.trees.Laws.{OneBlock, OneTree, SomeTree, TreesAreOne, ReadIsComputed}
use Rattle.f77_grammar.specs.program.Blocks.{IsTreeOf}
use Rattle.f77_laws.proofs.trees.Begun.{made_in, block_is_made, block_of_made}
use Rattle.f77_laws.proofs.trees.Sound.{well_nested}
use Rattle.f77_laws.proofs.trees.Formed.{text_formed}

pub one_block : OneBlock
one_block us s named text cs ds h k = block_is_made us s named text cs h ∙ sym (block_is_made us s named text ds k)

same_program : (p q : Program) → p.name ≡ q.name → p.declarations ≡ q.declarations → p.body ≡ q.body → p ≡ q
same_program p q name declarations body =
    ap (λ x. record { name = x; declarations = p.declarations; body = p.body }) name
    ∙ ap (λ ds. record { name = q.name; declarations = ds; body = p.body }) declarations
    ∙ ap (λ b. record { name = q.name; declarations = q.declarations; body = b }) body

pub is_tree : (d : Dialect) (text : List Labelled) (p : Program) → IsTreeOf d text p → p ≡ tree_of d text
is_tree d text p h =
    let us = uses_in_text text in
    let s = constants_of d text in
    let named = targets text in
    let made = block_is_made us s named text h.body h.formed in
    let body = h.is_body ∙ ap tree.block made ∙ sym (block_of_made us s named (rest_from us s named text)) in
    same_program p (tree_of d text) h.name h.declarations body

pub one_tree : OneTree
one_tree d text p q h k = is_tree d text p h ∙ sym (is_tree d text q k)

pub some_tree : SomeTree
some_tree d text h =
    let us = uses_in_text text in
    let s = constants_of d text in
    let named = targets text in
    record {
      name = refl;
      declarations = refl;
      body = made_in us s named (rest_from us s named text);
      formed = text_formed us s named text h;
      is_body = block_of_made us s named (rest_from us s named text);
    }

pub trees_are_one : TreesAreOne
trees_are_one d text p h =
    (is_tree d text p, λ e. subst (λ (q : Program). IsTreeOf d text q) (sym e) (some_tree d text h))

-- ---- the program that is read

pub read_tree : (d : Dialect) (text : List Labelled) (p : Program) → ReadsStatements d text p → p ≡ tree_of d text
read_tree d text p h = is_tree d text p h.formed

pub tree_is_read : (d : Dialect) (text : List Labelled) (p : Program) → findings d text ≡ [] → p ≡ tree_of d text → ReadsStatements d text p
tree_is_read d text p sound e = record { sound = sound; formed = (trees_are_one d text p (well_nested d text sound)).1 e }

pub one_read : (d : Dialect) (text : List Labelled) (p q : Program) → ReadsStatements d text p → ReadsStatements d text q → p ≡ q
one_read d text p q h k = one_tree d text p q h.formed k.formed

pub read_is_computed : ReadIsComputed
read_is_computed d text p = (λ h. (h.sound, read_tree d text p h), λ h. tree_is_read d text p h.0 h.1)
