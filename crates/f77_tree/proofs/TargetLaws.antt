-- The labels that a GO TO names, and the labels before statements.
use Rattle.std.proofs.Common.{◌≡◌, ◌∙◌, ap, sym, refl, ℕ, ◌+◌, ◌<◌, ◌≤◌, ◌==◌, Bool, true, false, ◌||◌, cond, Option, Some, List, [], ◌∷◌, ◌++◌, length, get_or, take, drop, append_assoc, append-nil, take_all}
use Rattle.std.specs.declared.boxed.Box.{Box}
use Rattle.std.specs.declared.alloc.Global.{Global}
use Rattle.std.specs.List.{list_any}
use Rattle.std.proofs.lemmas.List.{drop_all}
use Rattle.std.proofs.lemmas.List.Folds.{list_any-append}
use Rattle.tree.specs.Plain.{Label}
use Rattle.tree.specs.declared.names.Name.{Name}
use Rattle.tree.specs.declared.ops.Kind.{Kind}
use Rattle.tree.specs.declared.lists.Seq.{Seq}
use Rattle.tree.specs.declared.exprs.Expr.{Expr}
use Rattle.tree.specs.declared.exprs.Ref.{Ref}
use Rattle.tree.specs.declared.stmts.Item.{Item}
use Rattle.tree.proofs.Equations.{statement_of-label}
use Rattle.f77_grammar.specs.program.Text.{action}
use Rattle.f77_grammar.specs.program.Tree as tree
use Rattle.f77_grammar.specs.declared.syntax.statements.Entity.{Entity}
use Rattle.f77_grammar.specs.declared.syntax.statements.Stmt77.{Stmt77}
use Rattle.f77_grammar.specs.declared.syntax.statements.Stmt77.TheVariants as stmts
use Rattle.f77_grammar.specs.declared.syntax.statements.Labelled.{Labelled}
use Rattle.f77_grammar.specs.syntax.Views.{statement_of, text_of}
use Rattle.f77_grammar.proofs.syntax.Equations.{statement_of-program, statement_of-implicit_none, statement_of-declare, statement_of-dimension, statement_of-constants, statement_of-assign, statement_of-go, statement_of-test, statement_of-if, statement_of-else_if, statement_of-else, statement_of-end_if, statement_of-do, statement_of-end_do, statement_of-continue, statement_of-stop, statement_of-read, statement_of-print, statement_of-end}
use Rattle.f77_grammar.proofs.syntax.Walks.{text_left, text_through}
use Rattle.f77_names.proofs.UseLaws.{one_more}

pub target-go : (n : ℕ) → tree.target (statement_of (stmts.Go n)) ≡ n ∷ []
target-go n = ap tree.target (statement_of-go n)

pub target-program : (x : Name) → tree.target (statement_of (stmts.Program x)) ≡ []
target-program x = ap tree.target (statement_of-program x)

pub target-implicit_none : tree.target (statement_of stmts.ImplicitNone) ≡ []
target-implicit_none = ap tree.target statement_of-implicit_none

pub target-declare : (k : Kind) (es : Seq Entity) → tree.target (statement_of (stmts.Declare k es)) ≡ []
target-declare k es = ap tree.target (statement_of-declare k es)

pub target-dimension : (es : Seq Entity) → tree.target (statement_of (stmts.Dimension es)) ≡ []
target-dimension es = ap tree.target (statement_of-dimension es)

pub target-constants : (ds : Seq (Name × Expr)) → tree.target (statement_of (stmts.Constants ds)) ≡ []
target-constants ds = ap tree.target (statement_of-constants ds)

pub target-assign : (left : Ref) (e : Expr) → tree.target (statement_of (stmts.Assign left e)) ≡ []
target-assign left e = ap tree.target (statement_of-assign left e)

pub target-test : (c : Expr) (inner : Box Stmt77 Global) → tree.target (statement_of (stmts.Test c inner)) ≡ []
target-test c inner = ap tree.target (statement_of-test c inner)

pub target-if : (c : Expr) → tree.target (statement_of (stmts.If c)) ≡ []
target-if c = ap tree.target (statement_of-if c)

pub target-else_if : (c : Expr) → tree.target (statement_of (stmts.ElseIf c)) ≡ []
target-else_if c = ap tree.target (statement_of-else_if c)

pub target-else : tree.target (statement_of stmts.Else) ≡ []
target-else = ap tree.target statement_of-else

pub target-end_if : tree.target (statement_of stmts.EndIf) ≡ []
target-end_if = ap tree.target statement_of-end_if

pub target-do : (n : Option ℕ) (x : Name) (a b c : Expr) → tree.target (statement_of (stmts.Do n x a b c)) ≡ []
target-do n x a b c = ap tree.target (statement_of-do n x a b c)

pub target-end_do : tree.target (statement_of stmts.EndDo) ≡ []
target-end_do = ap tree.target statement_of-end_do

pub target-continue : tree.target (statement_of stmts.Continue) ≡ []
target-continue = ap tree.target statement_of-continue

pub target-stop : tree.target (statement_of stmts.Stop) ≡ []
target-stop = ap tree.target statement_of-stop

pub target-read : (is : Seq Item) → tree.target (statement_of (stmts.Read is)) ≡ []
target-read is = ap tree.target (statement_of-read is)

pub target-print : (is : Seq Item) → tree.target (statement_of (stmts.Print is)) ≡ []
target-print is = ap tree.target (statement_of-print is)

pub target-end : tree.target (statement_of stmts.End) ≡ []
target-end = ap tree.target statement_of-end

pub ruleset target_laws = (target-go, target-program, target-implicit_none, target-declare, target-dimension, target-constants, target-assign, target-test, target-if, target-else_if, target-else, target-end_if, target-do, target-end_do, target-continue, target-stop, target-read, target-print, target-end)

-- ---- all of them

pub targets_more : (xs : List Labelled) (i : ℕ) (x : Labelled) (old new here : List ℕ) → i < length xs → x ≡ get_or xs i x
    → here ≡ tree.target (action (statement_of x.statement)) → new ≡ old ++ here
    → tree.targets (text_of xs) ≡ old ++ tree.targets (drop i (text_of xs)) → tree.targets (text_of xs) ≡ new ++ tree.targets (drop (i + 1) (text_of xs))
targets_more xs i x old new here h k one e before =
    before ∙ ap (λ ts. old ++ tree.targets ts) (text_left xs i x h k)
    ∙ sym (append_assoc old (tree.target (action (statement_of x.statement))) (tree.targets (drop (i + 1) (text_of xs))))
    ∙ ap (λ ns. ns ++ tree.targets (drop (i + 1) (text_of xs))) (sym (e ∙ ap (λ ns. old ++ ns) one))

pub targets_end : (xs : List Labelled) (i : ℕ) (list : List ℕ) → length xs ≤ i
    → tree.targets (text_of xs) ≡ list ++ tree.targets (drop i (text_of xs)) → list ≡ tree.targets (text_of xs)
targets_end xs i list h before = sym (before ∙ ap (λ ts. list ++ tree.targets ts) (drop_all i (text_of xs) (text_through xs i h)) ∙ append-nil list)

or_last : (a b : Bool) → (b || a) ≡ (a || (b || false))
or_last true true = refl
or_last true false = refl
or_last false true = refl
or_last false false = refl

pub set_more : (has has' : ℕ → Bool) (xs : List ℕ) (i : ℕ) (x : ℕ) → i < length xs → x ≡ get_or xs i x
    → ((n : ℕ) → has' n ≡ ((x == n) || has n)) → ((n : ℕ) → has n ≡ list_any (λ m. m == n) (take i xs)) → (n : ℕ) → has' n ≡ list_any (λ m. m == n) (take (i + 1) xs)
set_more has has' xs i x h k new old n =
    new n ∙ ap (λ b. (x == n) || b) (old n) ∙ or_last (list_any (λ m. m == n) (take i xs)) (x == n)
    ∙ sym (ap (list_any (λ m. m == n)) (one_more xs i x h k) ∙ list_any-append (λ m. m == n) (take i xs) (x ∷ []))

pub set_end : (has : ℕ → Bool) (xs : List ℕ) (i : ℕ) → length xs ≤ i → ((n : ℕ) → has n ≡ list_any (λ m. m == n) (take i xs)) → (n : ℕ) → has n ≡ list_any (λ m. m == n) xs
set_end has xs i h old n = old n ∙ ap (list_any (λ m. m == n)) (take_all i xs h)

-- ---- labels before statements

pub mark-named : (named : List ℕ) (n : ℕ) → list_any (λ m. m == n) named ≡ true → tree.label_before named (Some n) ≡ Label n ∷ []
mark-named named n h = ap (λ b. cond b (Label n ∷ []) []) h

pub mark-other : (named : List ℕ) (n : ℕ) → list_any (λ m. m == n) named ≡ false → tree.label_before named (Some n) ≡ []
mark-other named n h = ap (λ b. cond b (Label n ∷ []) []) h

pub ruleset mark_laws = (statement_of-label, mark-named, mark-other)
