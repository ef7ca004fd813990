-- The text of each kind of statement.
use Rattle.std.proofs.Common.{◌≡◌, ℕ, List, [], ◌∷◌, ◌++◌, map, refl, ap, sym, ◌∙◌, append-nil, append_assoc, codes, Option, length, ◌<◌, ◌^◌, arith}
use Rattle.std.specs.Prelude.{flat_map, decimal}
use Rattle.std.proofs.lemmas.Fmt.{decimal_nonempty}
use Rattle.std.proofs.lemmas.Grind.{flat_map-append}
use Rattle.tree.specs.declared.lists.Seq.{Seq}
use Rattle.tree.specs.declared.exprs.Expr.{Expr}
use Rattle.tree.specs.declared.exprs.Ref.{Ref}
use Rattle.tree.specs.declared.stmts.Item.{Item}
use Rattle.tree.specs.declared.stmts.Mark.{Mark}
use Rattle.tree.specs.declared.stmts.Stmt.{Stmt}
use Rattle.tree.specs.declared.stmts.Stmt.TheVariants as stmts
use Rattle.tree.specs.declared.stmts.Arm.{Arm, out-Arm}
use Rattle.tree.specs.declared.stmts.Block.{Block, out-Block}
use Rattle.tree.specs.Plain as P
use Rattle.tree.specs.View.{expression_of, reference_of, item_of, statement_of, tested_of, block_of, arms, Tested}
use Rattle.tree.proofs.Equations.{statement_of-assign, statement_of-masked, statement_of-if, statement_of-do, statement_of-label, statement_of-go, statement_of-stop, statement_of-read, statement_of-print, statement_of-allocate, statement_of-deallocate, tested_of-is, block_of-is}
use Rattle.f90_grammar.specs.Forms as forms
use Rattle.f90_grammar.specs.Printing.{phrase_of}
use Rattle.f90_grammar.specs.PrintedForms.{Printed, unmarked, reference_phrase, phrases_of, step_phrase, read_form, print_form, item_phrases, printed_statement, printed_block, printed_arms, printed_if, printed_else}
use Rattle.f90_grammar.specs.PrintedText.{with_line_feed, mark_lines, lines_of_text, form_text, items_text, labelled_text}
use Rattle.f90_print.specs.Texts.{lines_text, statement_lines, form_lines, printed_text, statement_text, block_text, else_text, arm_text}

-- ---- one statement

sole : (f : forms.Form90) → flat_map printed_text (unmarked f ∷ []) ≡ form_lines f
unfolding statement_lines
sole f = append-nil (form_lines f)

marked : (m : Option Mark) (f : forms.Form90) → printed_text (record { mark = m; form = f }) ++ [] ≡ lines_text (mark_lines m) ++ form_lines f
unfolding statement_lines
marked m f = append-nil (printed_text (record { mark = m; form = f })) ∙ flat_map-append with_line_feed (mark_lines m) (lines_of_text (form_text f))

pub assign-text : (line : ℕ) (m : Option Mark) (left : Ref) (right : Expr)
    → statement_text (statement_of (stmts.Assign line m left right))
    ≡ lines_text (mark_lines m) ++ form_lines (forms.Assign (reference_phrase (reference_of left)) (phrase_of (expression_of right)))
assign-text line m left right =
    ap statement_text (statement_of-assign line m left right) ∙ marked m (forms.Assign (reference_phrase (reference_of left)) (phrase_of (expression_of right)))

pub where-text : (line : ℕ) (m : Option Mark) (mask : Expr) (left : Ref) (right : Expr)
    → statement_text (statement_of (stmts.Masked line m mask left right))
    ≡ lines_text (mark_lines m) ++ form_lines (forms.Where (phrase_of (expression_of mask)) (reference_phrase (reference_of left)) (phrase_of (expression_of right)))
where-text line m mask left right =
    ap statement_text (statement_of-masked line m mask left right)
    ∙ marked m (forms.Where (phrase_of (expression_of mask)) (reference_phrase (reference_of left)) (phrase_of (expression_of right)))

pub label-text : (n : ℕ) → statement_text (statement_of (stmts.Label n)) ≡ form_lines (forms.Continue (decimal n))
label-text n = ap statement_text (statement_of-label n) ∙ sole (forms.Continue (decimal n))

pub go-text : (line n : ℕ) → statement_text (statement_of (stmts.Go line n)) ≡ form_lines (forms.Go (decimal n))
go-text line n = ap statement_text (statement_of-go line n) ∙ sole (forms.Go (decimal n))

pub stop-text : (line : ℕ) → statement_text (statement_of (stmts.Stop line)) ≡ codes "STOP\n"
unfolding statement_lines
stop-text line = ap statement_text (statement_of-stop line)

pub read-text : (line : ℕ) (is : Seq Item) → statement_text (statement_of (stmts.Read line is)) ≡ form_lines (read_form (P.items (map item_of is)))
read-text line is = ap statement_text (statement_of-read line is) ∙ sole (read_form (P.items (map item_of is)))

pub print-text : (line : ℕ) (is : Seq Item) → statement_text (statement_of (stmts.Print line is)) ≡ form_lines (print_form (P.items (map item_of is)))
print-text line is = ap statement_text (statement_of-print line is) ∙ sole (print_form (P.items (map item_of is)))

pub allocate-text : (line : ℕ) (x : List ℕ) (es : Seq Expr)
    → statement_text (statement_of (stmts.Allocate line x es)) ≡ form_lines (forms.Allocate x (phrases_of (P.expressions (map expression_of es))))
allocate-text line x es = ap statement_text (statement_of-allocate line x es) ∙ sole (forms.Allocate x (phrases_of (P.expressions (map expression_of es))))

pub deallocate-text : (line : ℕ) (x : List ℕ) → statement_text (statement_of (stmts.Deallocate line x)) ≡ form_lines (forms.Deallocate x)
deallocate-text line x = ap statement_text (statement_of-deallocate line x) ∙ sole (forms.Deallocate x)

-- ---- loops

pub do-text : (line : ℕ) (x : List ℕ) (a b c : Expr) (body : Block)
    → statement_text (statement_of (stmts.Do line x a b c body))
    ≡ form_lines (forms.Do x (phrase_of (expression_of a)) (phrase_of (expression_of b)) (step_phrase (expression_of c))) ++ (block_text (block_of body) ++ codes "END DO\n")
unfolding statement_lines
do-text line x a b c body =
    ap statement_text (statement_of-do line x a b c body)
    ∙ ap (λ t. form_lines (forms.Do x (phrase_of (expression_of a)) (phrase_of (expression_of b)) (step_phrase (expression_of c))) ++ t)
    (flat_map-append printed_text (printed_block (block_of body)) (unmarked forms.EndDo ∷ []))

-- ---- blocks and arms

block_text-statements : (ss : List P.Statement) → block_text (P.block ss) ≡ flat_map statement_text ss
block_text-statements [] = refl
block_text-statements (s ∷ ss) = flat_map-append printed_text (printed_statement s) (printed_block (P.block ss)) ∙ ap (λ t. statement_text s ++ t) (block_text-statements ss)

pub block-text : (b : Block) → block_text (block_of b) ≡ flat_map statement_text (map statement_of (out-Block b).stmts)
block-text b = ap block_text (block_of-is b) ∙ block_text-statements (map statement_of (out-Block b).stmts)

arms-text : (ts : List Tested) → flat_map printed_text (printed_arms (arms ts)) ≡ flat_map arm_text ts
unfolding statement_lines
arms-text [] = refl
arms-text (t ∷ ts) =
    ap (λ u. form_lines (forms.ElseIf (phrase_of t.test)) ++ u)
    (flat_map-append printed_text (printed_block t.body) (printed_arms (arms ts)) ∙ ap (λ u. block_text t.body ++ u) (arms-text ts))
    ∙ sym (append_assoc (form_lines (forms.ElseIf (phrase_of t.test))) (block_text t.body) (flat_map arm_text ts))

pub arm-text : (a : Arm) → arm_text (tested_of a) ≡ form_lines (forms.ElseIf (phrase_of (expression_of (out-Arm a).test))) ++ block_text (block_of (out-Arm a).body)
arm-text a = ap arm_text (tested_of-is a)

if_text-arms : (t : Tested) (ts : List Tested) (other : List Printed)
    → flat_map printed_text (printed_if (arms (t ∷ ts)) other)
    ≡ form_lines (forms.If (phrase_of t.test)) ++ (block_text t.body ++ (flat_map arm_text ts ++ (flat_map printed_text other ++ codes "END IF\n")))
unfolding statement_lines
if_text-arms t ts other =
    ap (λ u. form_lines (forms.If (phrase_of t.test)) ++ u)
    (flat_map-append printed_text (printed_block t.body) (printed_arms (arms ts) ++ (other ++ unmarked forms.EndIf ∷ []))
    ∙ ap (λ u. block_text t.body ++ u)
    (flat_map-append printed_text (printed_arms (arms ts)) (other ++ unmarked forms.EndIf ∷ [])
    ∙ (λ i. arms-text ts i ++ flat_map-append printed_text other (unmarked forms.EndIf ∷ []) i)))

pub if-text : (line : ℕ) (a : Arm) (more : List Arm) (all : Seq Arm) (other : Block) → a ∷ more ≡ all
    → statement_text (statement_of (stmts.If line all other))
    ≡ form_lines (forms.If (phrase_of (expression_of (out-Arm a).test)))
    ++ (block_text (block_of (out-Arm a).body) ++ (flat_map arm_text (map tested_of more) ++ (else_text (block_of other) ++ codes "END IF\n")))
unfolding statement_lines
if-text line a more all other h =
    ap statement_text (statement_of-if line all other)
    ∙ ap (λ xs. statement_text (P.If line (arms (map tested_of xs)) (block_of other))) (sym h)
    ∙ if_text-arms (tested_of a) (map tested_of more) (printed_else (block_of other))
    ∙ ap (λ (t : Tested). form_lines (forms.If (phrase_of t.test)) ++ (block_text t.body ++ (flat_map arm_text (map tested_of more) ++ (else_text (block_of other) ++ codes "END IF\n")))) (tested_of-is a)

pub no_arms-text : (line : ℕ) (all : Seq Arm) (other : Block) → all ≡ [] → statement_text (statement_of (stmts.If line all other)) ≡ []
unfolding statement_lines
no_arms-text line all other h =
    ap statement_text (statement_of-if line all other) ∙ ap (λ xs. statement_text (P.If line (arms (map tested_of xs)) (block_of other))) h

-- ---- an ELSE part

else_text-some : (ss : List Stmt) → (ss ≡ [] → ⊥) → else_text (P.block (map statement_of ss)) ≡ codes "ELSE\n" ++ block_text (P.block (map statement_of ss))
unfolding statement_lines
else_text-some [] h = absurd (h refl)
else_text-some (s ∷ ss) h = refl

pub else-text : (b : Block) → ((out-Block b).stmts ≡ [] → ⊥) → else_text (block_of b) ≡ codes "ELSE\n" ++ block_text (block_of b)
else-text b h =
    ap else_text (block_of-is b) ∙ else_text-some (out-Block b).stmts h ∙ ap (λ (c : P.Block). codes "ELSE\n" ++ block_text c) (sym (block_of-is b))

pub no_else-text : (b : Block) → (out-Block b).stmts ≡ [] → else_text (block_of b) ≡ []
unfolding statement_lines
no_else-text b h = ap else_text (block_of-is b) ∙ ap (λ ss. else_text (P.block (map statement_of ss))) h

-- ---- READ and PRINT

pub read-some : (is : List Item) → (is ≡ [] → ⊥) → form_text (read_form (P.items (map item_of is))) ≡ codes "READ *, " ++ items_text (item_phrases (P.items (map item_of is)))
read-some [] h = absurd (h refl)
read-some (i ∷ is) h = refl

pub print-some : (is : List Item) → (is ≡ [] → ⊥) → form_text (print_form (P.items (map item_of is))) ≡ codes "PRINT *, " ++ items_text (item_phrases (P.items (map item_of is)))
print-some [] h = absurd (h refl)
print-some (i ∷ is) h = refl

pub read-none : (is : List Item) → is ≡ [] → form_lines (read_form (P.items (map item_of is))) ≡ codes "READ *\n"
unfolding statement_lines
read-none is h = ap (λ xs. form_lines (read_form (P.items (map item_of xs)))) h

pub print-none : (is : List Item) → is ≡ [] → form_lines (print_form (P.items (map item_of is))) ≡ codes "PRINT *\n"
unfolding statement_lines
print-none is h = ap (λ xs. form_lines (print_form (P.items (map item_of xs)))) h

-- ---- CONTINUE

labelled-some : (t : List ℕ) → 0 < length t → labelled_text t ≡ t ++ codes " CONTINUE"
labelled-some [] h = absurd (omega arith)
labelled-some (c ∷ cs) h = refl

pub continue-text : (n : ℕ) → n < 2 ^ 64 → labelled_text (decimal n) ≡ decimal n ++ codes " CONTINUE"
continue-text n h = labelled-some (decimal n) (decimal_nonempty n h)

pub ruleset statement_texts = (label-text, go-text, stop-text, read-text, print-text, allocate-text, deallocate-text)
