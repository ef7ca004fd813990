-- What the parts of a statement are resolved to, by the names and symbolic constants of a program.
use Rattle.std.specs.Prelude.{List}
use Rattle.tree.specs.Plain as plain
use Rattle.tree.specs.Plain.{Expression, Subscript, Reference}
use Rattle.tree.specs.View.{expression_of, subscript_of, reference_of, item_of}
use Rattle.tree.specs.declared.exprs.Expr.{Expr}
use Rattle.tree.specs.declared.exprs.Ref.{Ref}
use Rattle.tree.specs.declared.exprs.Sub.{Sub}
use Rattle.tree.specs.declared.stmts.Item.{Item}
use Rattle.meaning.specs.Store.{Store}
use Rattle.f77_grammar.specs.program.Uses.{Use77}
use Rattle.f77_grammar.specs.declared.directions.Direction.{Direction}
use Rattle.f77_grammar.specs.program.Tree as tree
use Rattle.f77_names.specs.constants.Constants.{store_of}
use Rattle.f77_names.specs.UsesView.{listed}
use Rattle.f77_tree.specs.declared.resolver.Resolver.{Resolver}

-- the uses of names in the program
abbrev pub known_uses : Resolver → List Use77
known_uses r = listed r.names.now.uses

-- a store in which its symbolic constants have their values
abbrev pub known_store : Resolver → Store
known_store r = store_of r.constants.now

abbrev pub resolved_by : Resolver → Expr → Expression
resolved_by r e = tree.resolved (known_uses r) (known_store r) (expression_of e)

abbrev pub subscript_by : Resolver → Sub → Subscript
subscript_by r p = tree.resolved_subscript (known_uses r) (known_store r) (subscript_of p)

abbrev pub reference_by : Resolver → Ref → Reference
reference_by r q = tree.resolved_reference (known_uses r) (known_store r) (reference_of q)

abbrev pub read_by : Resolver → Expr → Expression
read_by r e = tree.resolved_input (known_uses r) (known_store r) (expression_of e)

abbrev pub value_by : Resolver → Direction → Expr → Expression
value_by r d e = tree.resolved_value (known_uses r) (known_store r) d (expression_of e)

abbrev pub item_by : Resolver → Direction → Item → plain.Item
item_by r d i = tree.resolved_item (known_uses r) (known_store r) d (item_of i)
