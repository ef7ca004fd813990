-- Trees that were brought into canonical text, and what is known of them.
use Rattle.std.specs.Prelude.{◌≡◌, Option, Some, None, ℕ, ◌≤◌, Bool, nat_le, ◌&&◌, if◌then◌else◌, List, ◌++◌, map}
use Rattle.std.specs.Prelude.{length}
use Rattle.std.specs.List.{list_any, flat_map}
use Rattle.tree.specs.Arguments.{added, finished}
use Rattle.tree.specs.Limits.{nest_depth}
use Rattle.tree.specs.Plain.{Expression, Apply, Subscript, Reference, expressions}
use Rattle.tree.specs.View.{ConstructorLoop, expression_of, loop_of, reference_of, subscript_of}
use Rattle.tree.specs.declared.arguments.Arguments.{Arguments}
use Rattle.tree.specs.declared.exprs.Expr.{Expr}
use Rattle.tree.specs.declared.exprs.Ref.{Ref}
use Rattle.tree.specs.declared.exprs.Sub.{Sub}
use Rattle.tree.specs.declared.exprs.Turn.{Turn}
use Rattle.tree.specs.declared.functions.Fun.{Fun}
use Rattle.tree.specs.declared.lists.Seq.{Seq}
use Rattle.tree.specs.declared.ops.Value.{Value}
use Rattle.meaning.specs.Names.{is_among}
use Rattle.rewrite.specs.Making as making
use Rattle.rewrite.specs.MadeBlocks as made_blocks
use Rattle.rewrite.specs.Names.{mentions, uses_in, uses_in_subscript, uses_in_subscripts}
use Rattle.rewrite.specs.NamesAlong.{uses_in_loop}
use Rattle.rewrite.specs.declared.uses.Use.{Use}
use Rattle.linear_forms.specs.Canonical.{canonising}
use Rattle.linear_forms.specs.Linear.{constant_value, known}
use Rattle.linear_forms.specs.Parts.{IsPartOf}
use Rattle.linear_forms.specs.declared.forms.Part.{Part}
use Rattle.subscripts.specs.declared.affine.Affine.{Affine}
use Rattle.form_rules.specs.declared.nodes.Written.{Written}
use Rattle.form_rules.specs.declared.nodes.WrittenList.{WrittenList}
use Rattle.form_rules.specs.declared.nodes.WrittenArguments.{WrittenArguments}

-- the variable of a loop is one of the names that stand so
abbrev pub stands_in : List (List ℕ) → List Use → Bool
stands_in loops us = list_any (λ (u : Use). is_among loops u.name) us

-- ---- arguments, one at a time

-- what the function was given, with one argument more, where each is constant
abbrev pub with_constant : Fun → Option Arguments → Option Value → Option Arguments
with_constant f (Some given) (Some v) = Some (added f given v)
with_constant f (Some given) None = None
with_constant f None c = None

abbrev pub call_of : Fun → Option Arguments → Option Value
call_of f (Some given) = known (finished f given)
call_of f None = None

-- ---- what is written

-- a node is to be the text of its form where the variable of a loop stood in it, and there are at most 7 loops
abbrev pub form_to_write : Bool → ℕ → Option Affine → Option Affine
form_to_write had_loop n form = if had_loop && nat_le n nest_depth then form else None

module _ (loops symbols : List (List ℕ)) where
  -- x is e with its parts written; what is known of it is so
  pub record IsReady (e : Expression) (x : Expr) (had_loop : Bool) (part : Part) : Type 0 where
    pub made : expression_of x ≡ made_blocks.made_inside (canonising loops symbols) e
    pub stands : had_loop ≡ mentions loops e
    pub known : length loops ≤ 7 → IsPartOf (length loops) (loops ++ symbols) (expression_of x) part

  -- the expression is what is made of e
  pub record IsWritten (e : Expression) (w : Written) : Type 0 where
    pub made : expression_of w.expr ≡ making.made (canonising loops symbols) e
    pub stands : w.had_loop ≡ mentions loops e
    pub known : length loops ≤ 7 → IsPartOf (length loops) (loops ++ symbols) (expression_of w.expr) w.part

  pub record AreWritten (es : List Expression) (list : WrittenList) : Type 0 where
    pub made : map expression_of list.exprs ≡ map (making.made (canonising loops symbols)) es
    pub stands : list.had_loop ≡ stands_in loops (flat_map uses_in es)

  pub record AreArguments (f : Fun) (es : List Expression) (arguments : WrittenArguments) : Type 0 where
    pub list : AreWritten es arguments.list
    pub constant : length loops ≤ 7
        → call_of f arguments.given ≡ constant_value (Apply f (expressions (map expression_of arguments.list.exprs)))

  pub record SameLoop (l : ConstructorLoop) (turn : Turn) (had_loop : Bool) : Type 0 where
    pub made : loop_of turn ≡ made_blocks.made_loop (canonising loops symbols) l
    pub stands : had_loop ≡ stands_in loops (uses_in_loop l)

  pub record SameLoops (ls : List ConstructorLoop) (turns : Seq Turn) (had_loop : Bool) : Type 0 where
    pub made : map loop_of turns ≡ map (made_blocks.made_loop (canonising loops symbols)) ls
    pub stands : had_loop ≡ stands_in loops (flat_map uses_in_loop ls)

  pub record SameSubscript (p : Subscript) (sub : Sub) (had_loop : Bool) : Type 0 where
    pub made : subscript_of sub ≡ making.made_subscript (canonising loops symbols) p
    pub stands : had_loop ≡ stands_in loops (uses_in_subscript p)

  pub record SameSubscripts (ps : List Subscript) (subs : Seq Sub) (had_loop : Bool) : Type 0 where
    pub made : map subscript_of subs ≡ map (making.made_subscript (canonising loops symbols)) ps
    pub stands : had_loop ≡ stands_in loops (flat_map uses_in_subscript ps)

  pub record SameParts (r : Reference) (item : Ref) (had_loop : Bool) : Type 0 where
    pub made : reference_of item ≡ making.made_parts (canonising loops symbols) r
    pub stands : had_loop ≡ stands_in loops (uses_in_subscripts r.subscripts)
