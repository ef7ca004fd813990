-- A statement that gathers by its form is a loop that gathers.
use Rattle.std.proofs.Common.{◌≡◌, refl, sym, ap, ap₂, ◌∙◌, subst, ℕ, ℤ, pos, Bool, true, false, ◌&&◌, cond, List, Option, Some, None}
use Rattle.std.specs.Option.{option_map}
use Rattle.std.specs.Ordering.{int_eq}
use Rattle.std.proofs.lemmas.Bool.Decides.{Decides-int_eq}
use Rattle.tree.specs.Plain.{Expression, Number, Logic, Named, Unary, Binary, Apply, Constructor, Spread, Transpose, Reshape, Reduce, Expressions, no_expressions, expression, Reference}
use Rattle.tree.specs.Plain.{Statement, Assignment, Where, If, Do, Label, GoTo, Stop, Read, Print, Allocate, Deallocate, Block, no_statements, statement}
use Rattle.tree.specs.declared.functions.Fun.{Fun}
use Rattle.tree.specs.declared.functions.Fun.TheVariants.{Abs, Mod, Max, Min}
use Rattle.tree.specs.declared.ops.Op.{Op}
use Rattle.tree.specs.declared.ops.Op.TheVariants.{Pow, Mul, Div, Neg, Add, Sub, Lt, Le, Eq, Ne, Gt, Ge, Not, And, Or, Eqv, Neqv}
use Rattle.tree.specs.declared.stmts.Mark.{Mark}
use Rattle.meaning.specs.Value.{named}
use Rattle.reductions.specs.declared.gathering.Gathering.{Gathering}
use Rattle.reductions.specs.declared.gathering.Gathering.TheVariants.{Adds, Takes, Greatest, Least}
use Rattle.reductions.specs.Finding.{Context, FoundLoop, Marked, Operand, beside, found_in, found_with, gathered, gathered_by, gathered_in_call, is_one, is_reducible, loop_in, marked_assignment, of_two, reducible, single, taken_from}
use Rattle.reductions.specs.Gathering.{Lines, Loop, in_turn, loop_of, two}
use Rattle.reductions.specs.Same.{is_reference}
use Rattle.reduction_laws.proofs.blocks.Sameness.{both, reference_is}

some_same : {A : Type 0} (a b : A) → ◌≡◌ {A = Option A} (Some a) (Some b) → a ≡ b
some_same a b e = cc

no_some : {A : Type 0} (a : A) → ◌≡◌ {A = Option A} None (Some a) → ⊥
no_some a e = cc

-- what an answer of a test is
if_some : {A : Type 0} (b : Bool) (a o : A) → cond b (Some a) None ≡ Some o → (b ≡ true) × (a ≡ o)
if_some true a o e = (refl, some_same a o e)
if_some false a o e = absurd (no_some o e)

-- ---- right sides

beside_is : (x : Reference) (behind before : Gathering) (form : Expression → Expression → Expression) (a b : Expression) (o : Operand)
    → ((e : Expression) → form (named x) e ≡ in_turn behind (named x) e) → ((e : Expression) → form e (named x) ≡ in_turn before (named x) e)
    → beside x behind before a b ≡ Some o → form a b ≡ in_turn o.how (named x) o.value
beside_is x behind before form a b o first second e = by (is_reference x a) refl e
  where
    later : (c : Bool) → is_reference x b ≡ c → cond c (Some (let p : Operand = record { how = before; value = a } in p)) None ≡ Some o → form a b ≡ in_turn o.how (named x) o.value
    later c g e =
        let h = if_some c (let p : Operand = record { how = before; value = a } in p) o e in
        ap (form a) (reference_is x b (g ∙ h.0)) ∙ (second a ∙ ap (λ (p : Operand). in_turn p.how (named x) p.value) h.1)

    by : (c : Bool) → is_reference x a ≡ c → cond c (Some (let p : Operand = record { how = behind; value = b } in p)) (cond (is_reference x b) (Some (let p : Operand = record { how = before; value = a } in p)) None) ≡ Some o
        → form a b ≡ in_turn o.how (named x) o.value
    by true g e =
        ap (λ c. form c b) (reference_is x a g) ∙ (first b ∙ ap (λ (p : Operand). in_turn p.how (named x) p.value) (some_same (let p : Operand = record { how = behind; value = b } in p) o e))
    by false g e = later (is_reference x b) refl e

taken_is : (x : Reference) (a b : Expression) (o : Operand) → taken_from x a b ≡ Some o → Binary Sub a b ≡ in_turn o.how (named x) o.value
taken_is x a b o e =
    let h = if_some (is_reference x a) (let p : Operand = record { how = Takes; value = b } in p) o e in
    ap (λ c. Binary Sub c b) (reference_is x a h.0) ∙ ap (λ (p : Operand). in_turn p.how (named x) p.value) h.1

by_operator : (x : Reference) (q : Op) (a b : Expression) (o : Operand) → gathered_by x q a b ≡ Some o → Binary q a b ≡ in_turn o.how (named x) o.value
by_operator x Add a b o e = beside_is x (Adds false) (Adds true) (Binary Add) a b o (λ c. refl) (λ c. refl) e
by_operator x Sub a b o e = taken_is x a b o e
by_operator x Pow a b o e = absurd (no_some o e)
by_operator x Mul a b o e = absurd (no_some o e)
by_operator x Div a b o e = absurd (no_some o e)
by_operator x Neg a b o e = absurd (no_some o e)
by_operator x Lt a b o e = absurd (no_some o e)
by_operator x Le a b o e = absurd (no_some o e)
by_operator x Eq a b o e = absurd (no_some o e)
by_operator x Ne a b o e = absurd (no_some o e)
by_operator x Gt a b o e = absurd (no_some o e)
by_operator x Ge a b o e = absurd (no_some o e)
by_operator x Not a b o e = absurd (no_some o e)
by_operator x And a b o e = absurd (no_some o e)
by_operator x Or a b o e = absurd (no_some o e)
by_operator x Eqv a b o e = absurd (no_some o e)
by_operator x Neqv a b o e = absurd (no_some o e)

by_two : (x : Reference) (behind before : Gathering) (f : Fun) (es : Expressions) (o : Operand)
    → ((e : Expression) → Apply f (two (named x) e) ≡ in_turn behind (named x) e) → ((e : Expression) → Apply f (two e (named x)) ≡ in_turn before (named x) e)
    → of_two x behind before es ≡ Some o → Apply f es ≡ in_turn o.how (named x) o.value
by_two x behind before f no_expressions o first second e = absurd (no_some o e)
by_two x behind before f (expression a no_expressions) o first second e = absurd (no_some o e)
by_two x behind before f (expression a (expression b no_expressions)) o first second e = beside_is x behind before (λ c d. Apply f (two c d)) a b o first second e
by_two x behind before f (expression a (expression b (expression c es))) o first second e = absurd (no_some o e)

by_function : (x : Reference) (f : Fun) (es : Expressions) (o : Operand) → gathered_in_call x f es ≡ Some o → Apply f es ≡ in_turn o.how (named x) o.value
by_function x Max es o e = by_two x (Greatest false) (Greatest true) Max es o (λ c. refl) (λ c. refl) e
by_function x Min es o e = by_two x (Least false) (Least true) Min es o (λ c. refl) (λ c. refl) e
by_function x Abs es o e = absurd (no_some o e)
by_function x Mod es o e = absurd (no_some o e)

gathered_is : (x : Reference) (e : Expression) (o : Operand) → gathered x e ≡ Some o → e ≡ in_turn o.how (named x) o.value
gathered_is x (Binary q a b) o e = by_operator x q a b o e
gathered_is x (Apply f es) o e = by_function x f es o e
gathered_is x (Number n) o e = absurd (no_some o e)
gathered_is x (Logic b) o e = absurd (no_some o e)
gathered_is x (Named y ps) o e = absurd (no_some o e)
gathered_is x (Unary q a) o e = absurd (no_some o e)
gathered_is x (Constructor es ls) o e = absurd (no_some o e)
gathered_is x (Spread a k c) o e = absurd (no_some o e)
gathered_is x (Transpose a) o e = absurd (no_some o e)
gathered_is x (Reshape a es) o e = absurd (no_some o e)
gathered_is x (Reduce r a) o e = absurd (no_some o e)

-- ---- loops

one_is : (e : Expression) → is_one e ≡ true → e ≡ Number (pos 1)
one_is (Number n) e = ap Number ((Decides-int_eq n (pos 1)).0 e)
one_is (Logic b) e = cc
one_is (Named y ps) e = cc
one_is (Unary q a) e = cc
one_is (Binary q a b) e = cc
one_is (Apply f es) e = cc
one_is (Constructor es ls) e = cc
one_is (Spread a k c) e = cc
one_is (Transpose a) e = cc
one_is (Reshape a es) e = cc
one_is (Reduce r a) e = cc

assignment_is : (c : Statement) (m : Marked) → marked_assignment c ≡ Some m → c ≡ Assignment m.line (Some m.mark) m.left m.right
assignment_is (Assignment line (Some mark) left right) m e =
    ap (λ (q : Marked). Assignment q.line (Some q.mark) q.left q.right) (some_same (let q : Marked = record { line = line; mark = mark; left = left; right = right } in q) m e)
assignment_is (Assignment line None left right) m e = absurd (no_some m e)
assignment_is (Where line mark k left right) m e = absurd (no_some m e)
assignment_is (If line arms other) m e = absurd (no_some m e)
assignment_is (Do line x a b c body) m e = absurd (no_some m e)
assignment_is (Label n) m e = absurd (no_some m e)
assignment_is (GoTo line n) m e = absurd (no_some m e)
assignment_is (Stop line) m e = absurd (no_some m e)
assignment_is (Read line is) m e = absurd (no_some m e)
assignment_is (Print line is) m e = absurd (no_some m e)
assignment_is (Allocate line x es) m e = absurd (no_some m e)
assignment_is (Deallocate line x) m e = absurd (no_some m e)

single_is : (b : Block) (m : Marked) → single b ≡ Some m → b ≡ statement (Assignment m.line (Some m.mark) m.left m.right) no_statements
single_is no_statements m e = absurd (no_some m e)
single_is (statement c no_statements) m e = ap (λ d. statement d no_statements) (assignment_is c m e)
single_is (statement c (statement d ds)) m e = absurd (no_some m e)

-- the loop's own lines
abbrev pub lines_at : FoundLoop → Lines
lines_at f = record { loop_line = f.loop_line; line = f.line; mark = Some f.mark }

abbrev whole : ℕ → List ℕ → Expression → Block → Statement
whole line i t body = Do line i (Number (pos 1)) t (Number (pos 1)) body

found_is : (line : ℕ) (i : List ℕ) (t : Expression) (body : Block) (f : FoundLoop) → found_in line i t body ≡ Some f → whole line i t body ≡ loop_of (lines_at f) f.loop
found_is line i t body f e = by (single body) refl e
  where
    with_operand : (m : Marked) → single body ≡ Some m → (o : Option Operand) → gathered m.left m.right ≡ o → option_map (found_with line i t m) o ≡ Some f → whole line i t body ≡ loop_of (lines_at f) f.loop
    with_operand m s None g e = absurd (no_some f e)
    with_operand m s (Some o) g e =
        ap (whole line i t) (single_is body m s)
        ∙ (ap (λ r. whole line i t (statement (Assignment m.line (Some m.mark) m.left r) no_statements)) (gathered_is m.left m.right o g)
        ∙ ap (λ (h : FoundLoop). loop_of (lines_at h) h.loop) (some_same (found_with line i t m o) f e))

    by : (s : Option Marked) → single body ≡ s → elim s [ None ↦ None | Some m ↦ option_map (found_with line i t m) (gathered m.left m.right) ] ≡ Some f → whole line i t body ≡ loop_of (lines_at f) f.loop
    by None s e = absurd (no_some f e)
    by (Some m) s e = with_operand m s (gathered m.left m.right) refl e

loop_is : (line : ℕ) (i : List ℕ) (a t c : Expression) (body : Block) (f : FoundLoop) → loop_in (Do line i a t c body) ≡ Some f → Do line i a t c body ≡ loop_of (lines_at f) f.loop
loop_is line i a t c body f e = by (is_one a && is_one c) refl e
  where
    by : (b : Bool) → (is_one a && is_one c) ≡ b → cond b (found_in line i t body) None ≡ Some f → Do line i a t c body ≡ loop_of (lines_at f) f.loop
    by true g e = let h = both (is_one a) (is_one c) g in ap₂ (λ p q. Do line i p t q body) (one_is a h.0) (one_is c h.1) ∙ found_is line i t body f e
    by false g e = absurd (no_some f e)

-- what is known of a reducible loop
pub record IsFound (w : Context) (c : Statement) (f : FoundLoop) : Type 0 where
  pub is : c ≡ loop_of (lines_at f) f.loop
  pub reducible : is_reducible w f.loop ≡ true

pub reducible_is : (w : Context) (line : ℕ) (i : List ℕ) (a t c : Expression) (body : Block) (f : FoundLoop) → reducible w (Do line i a t c body) ≡ Some f → IsFound w (Do line i a t c body) f
reducible_is w line i a t c body f e = by (loop_in (Do line i a t c body)) refl e
  where
    by : (o : Option FoundLoop) → loop_in (Do line i a t c body) ≡ o → elim o [ None ↦ None | Some g ↦ cond (is_reducible w g.loop) (Some g) None ] ≡ Some f → IsFound w (Do line i a t c body) f
    by None g e = absurd (no_some f e)
    by (Some h) g e =
        let k = if_some (is_reducible w h.loop) h f e in
        record { is = loop_is line i a t c body f (g ∙ ap Some k.1); reducible = ap (λ (q : FoundLoop). is_reducible w q.loop) (sym k.1) ∙ k.0 }
