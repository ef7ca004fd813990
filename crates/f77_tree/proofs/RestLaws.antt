-- Blocks as they grow to the front.
use Rattle.std.proofs.Common.{◌≡◌, ◌∙◌, ap, sym, refl, ℕ, true, false, cond, Result, Ok, Err, IfOk, Some, None, List, [], ◌∷◌, ◌++◌, map, reverse, append_assoc, append-nil}
use Rattle.std.proofs.lemmas.List.{map-append, reverse-append}
use Rattle.tree.specs.Plain as plain
use Rattle.tree.specs.View.{Tested, expression_of, statement_of, tested_of, block_of, arms}
use Rattle.tree.specs.declared.exprs.Expr.{Expr}
use Rattle.tree.specs.declared.stmts.Stmt.{Stmt}
use Rattle.tree.specs.declared.stmts.Stmt.TheVariants as stmts
use Rattle.tree.specs.declared.stmts.Arm.{Arm, roll-Arm}
use Rattle.tree.specs.declared.stmts.Block.{Block, roll-Block}
use Rattle.tree.specs.declared.lists.Seq.{Seq}
use Rattle.tree.proofs.Equations.{statement_of-if, statement_of-do, tested_of-made, block_of-made}
use Rattle.f77_grammar.specs.program.Text.{is_label}
use Rattle.f77_laws.specs.trees.Steps as steps
use Rattle.f77_tree.specs.declared.rests.Piece.{Piece}
use Rattle.f77_tree.specs.declared.rests.OpenIf.{OpenIf}
use Rattle.f77_tree.specs.Rests.{piece_of, pieces_in, made_by, later_arms, rest_with}

pub pieces_more : (ps ps' : List Piece) (p : Piece) → ps' ≡ ps ++ p ∷ [] → pieces_in ps' ≡ piece_of p ∷ pieces_in ps
pieces_more ps ps' p e = ap pieces_in e ∙ ap reverse (map-append piece_of ps (p ∷ [])) ∙ reverse-append (map piece_of ps) (piece_of p ∷ [])

-- a block IF more
opened : (ps : List steps.Piece) (fs fs' : List OpenIf) (f : OpenIf) → fs' ≡ fs ++ f ∷ []
    → rest_with ps (reverse fs') ≡ steps.InArm ps (arms (reverse (map tested_of f.later.items))) (block_of f.other) (rest_with (pieces_in f.after.items) (reverse fs))
opened ps fs fs' f e = ap (rest_with ps) (ap reverse e ∙ reverse-append fs (f ∷ []))

preceded_with : (p : steps.Piece) (ps : List steps.Piece) (fs : List OpenIf) → rest_with (p ∷ ps) fs ≡ steps.preceded p (rest_with ps fs)
preceded_with p ps [] = refl
preceded_with p ps (f ∷ fs) = refl

pub precede_is : (ps ps' : List Piece) (p : Piece) (fs : List OpenIf) → ps' ≡ ps ++ p ∷ []
    → rest_with (pieces_in ps') (reverse fs) ≡ steps.preceded (piece_of p) (rest_with (pieces_in ps) (reverse fs))
precede_is ps ps' p fs e = ap (λ qs. rest_with qs (reverse fs)) (pieces_more ps ps' p e) ∙ preceded_with (piece_of p) (pieces_in ps) (reverse fs)

-- where no block IF is open
pub outermost_is : (step : steps.Rest → steps.Rest) (ps : List Piece) (fs fs' : List OpenIf) → ((qs : List steps.Piece) → step (steps.Outermost qs) ≡ steps.Outermost qs)
    → fs ≡ [] → fs' ≡ [] → rest_with (pieces_in ps) (reverse fs') ≡ step (rest_with (pieces_in ps) (reverse fs))
outermost_is step ps fs fs' same e e' =
    ap (λ gs. rest_with (pieces_in ps) (reverse gs)) e' ∙ sym (same (pieces_in ps)) ∙ ap (λ gs. step (rest_with (pieces_in ps) (reverse gs))) (sym e)

pub end_is : (ps none : List Piece) (fs fs' : List OpenIf) (f : OpenIf) → none ≡ [] → fs' ≡ fs ++ f ∷ [] → f.later.items ≡ [] → block_of f.other ≡ plain.no_statements → f.after.items ≡ ps
    → rest_with (pieces_in none) (reverse fs') ≡ steps.arm_ended (rest_with (pieces_in ps) (reverse fs))
end_is ps none fs fs' f nothing e later other after =
    ap (λ qs. rest_with (pieces_in qs) (reverse fs')) nothing ∙ opened [] fs fs' f e
    ∙ ap (λ (ts : List Arm). steps.InArm [] (arms (reverse (map tested_of ts))) (block_of f.other) (rest_with (pieces_in f.after.items) (reverse fs))) later
    ∙ ap (λ b. steps.InArm [] plain.no_arms b (rest_with (pieces_in f.after.items) (reverse fs))) other
    ∙ ap (λ qs. steps.InArm [] plain.no_arms plain.no_statements (rest_with (pieces_in qs) (reverse fs))) after

pub else_is : (ps none : List Piece) (fs fs1 fs2 : List OpenIf) (f g : OpenIf) → none ≡ [] → fs ≡ fs1 ++ f ∷ [] → fs2 ≡ fs1 ++ g ∷ []
    → g.later.items ≡ f.later.items → block_of g.other ≡ steps.block_of (pieces_in ps) → g.after.items ≡ f.after.items
    → rest_with (pieces_in none) (reverse fs2) ≡ steps.else_begun (rest_with (pieces_in ps) (reverse fs))
else_is ps none fs fs1 fs2 f g nothing was now later other after =
    ap (λ qs. rest_with (pieces_in qs) (reverse fs2)) nothing ∙ opened [] fs1 fs2 g now
    ∙ ap (λ ts. steps.InArm [] (arms (reverse (map tested_of ts))) (block_of g.other) (rest_with (pieces_in g.after.items) (reverse fs1))) later
    ∙ ap (λ b. steps.InArm [] (arms (reverse (map tested_of f.later.items))) b (rest_with (pieces_in g.after.items) (reverse fs1))) other
    ∙ ap (λ qs. steps.InArm [] (arms (reverse (map tested_of f.later.items))) (steps.block_of (pieces_in ps)) (rest_with (pieces_in qs) (reverse fs1))) after
    ∙ sym (ap steps.else_begun (opened (pieces_in ps) fs1 fs f was))

-- an arm before the later ones
pub arm_before : (later later' : List Arm) (c : Expr) (b : Block) (ps : List steps.Piece) → later' ≡ later ++ roll-Arm (record { test = c; body = b }) ∷ [] → block_of b ≡ steps.block_of ps
    → arms (reverse (map tested_of later')) ≡ plain.arm (expression_of c) (steps.block_of ps) (arms (reverse (map tested_of later)))
arm_before later later' c b ps e body =
    ap (λ ts. arms (reverse (map tested_of ts))) e
    ∙ ap (λ ts. arms (reverse ts)) (map-append tested_of later (roll-Arm (record { test = c; body = b }) ∷ []))
    ∙ ap arms (reverse-append (map tested_of later) (tested_of (roll-Arm (record { test = c; body = b })) ∷ []))
    ∙ ap (λ (t : Tested). plain.arm t.test t.body (arms (reverse (map tested_of later)))) (tested_of-made c b)
    ∙ ap (λ k. plain.arm (expression_of c) k (arms (reverse (map tested_of later)))) body

pub arm_is : (ps none : List Piece) (fs fs1 fs2 : List OpenIf) (f g : OpenIf) (c : Expr) → none ≡ [] → fs ≡ fs1 ++ f ∷ [] → fs2 ≡ fs1 ++ g ∷ []
    → later_arms g ≡ plain.arm (expression_of c) (steps.block_of (pieces_in ps)) (later_arms f) → g.other ≡ f.other → g.after.items ≡ f.after.items
    → rest_with (pieces_in none) (reverse fs2) ≡ steps.arm_begun (expression_of c) (rest_with (pieces_in ps) (reverse fs))
arm_is ps none fs fs1 fs2 f g c nothing was now before other after =
    ap (λ qs. rest_with (pieces_in qs) (reverse fs2)) nothing ∙ opened [] fs1 fs2 g now
    ∙ ap (λ ts. steps.InArm [] ts (block_of g.other) (rest_with (pieces_in g.after.items) (reverse fs1))) before
    ∙ ap (λ k. steps.InArm [] (plain.arm (expression_of c) (steps.block_of (pieces_in ps)) (later_arms f)) (block_of k) (rest_with (pieces_in g.after.items) (reverse fs1))) other
    ∙ ap (λ qs. steps.InArm [] (plain.arm (expression_of c) (steps.block_of (pieces_in ps)) (later_arms f)) (block_of f.other) (rest_with (pieces_in qs) (reverse fs1))) after
    ∙ sym (ap (steps.arm_begun (expression_of c)) (opened (pieces_in ps) fs1 fs f was))

map_reversed : {A B : Type 0} (f : A → B) (xs : List A) → map f (reverse xs) ≡ reverse (map f xs)
map_reversed f [] = refl
map_reversed f (x ∷ xs) =
    ap (map f) (reverse-append (x ∷ []) xs) ∙ map-append f (reverse xs) (x ∷ [])
    ∙ ap (λ ys. ys ++ f x ∷ []) (map_reversed f xs) ∙ sym (reverse-append (f x ∷ []) (map f xs))

pub if_is : (ps : List Piece) (fs fs1 : List OpenIf) (f g : OpenIf) (line : ℕ) (mark made : List Stmt) (turned : List Arm) (ts : Seq Arm) (c : Expr)
    → fs ≡ fs1 ++ f ∷ [] → later_arms g ≡ plain.arm (expression_of c) (steps.block_of (pieces_in ps)) (later_arms f) → g.other ≡ f.other → g.after.items ≡ f.after.items
    → turned ≡ reverse g.later.items → ts ≡ turned → made ≡ mark ++ stmts.If line ts g.other ∷ []
    → steps.preceded (record { ends = None; made = map statement_of made }) (rest_with (pieces_in g.after.items) (reverse fs1))
    ≡ steps.if_begun line (map statement_of mark) (expression_of c) (rest_with (pieces_in ps) (reverse fs))
if_is ps fs fs1 f g line mark made turned ts c was before other after around same e =
    ap (λ ms. steps.preceded (record { ends = None; made = ms }) (rest_with (pieces_in g.after.items) (reverse fs1)))
    (ap (map statement_of) e ∙ map-append statement_of mark (stmts.If line ts g.other ∷ [])
    ∙ ap (λ t. map statement_of mark ++ t ∷ [])
    (statement_of-if line ts g.other
    ∙ ap (λ us. plain.If line us (block_of g.other))
    (ap (λ us. arms (map tested_of us)) (same ∙ around) ∙ ap arms (map_reversed tested_of g.later.items) ∙ before)
    ∙ ap (λ k. plain.If line all (block_of k)) other))
    ∙ ap (λ qs. steps.preceded (record { ends = None; made = map statement_of mark ++ plain.If line all (block_of f.other) ∷ [] }) (rest_with (pieces_in qs) (reverse fs1))) after
    ∙ sym (ap (steps.if_begun line (map statement_of mark) (expression_of c)) (opened (pieces_in ps) fs1 fs f was))
  where
    all : plain.Arms
    all = plain.arm (expression_of c) (steps.block_of (pieces_in ps)) (later_arms f)

-- ---- the pieces of a loop

pub loop_goes_on : (n : ℕ) (ps ps' : List Piece) (p : Piece) (ss ss' : List Stmt) (all : List plain.Statement) → ps ≡ ps' ++ p ∷ [] → ss' ≡ ss ++ p.made.items → is_label n p.ends ≡ false
    → all ≡ map statement_of ss ++ made_by (steps.up_to n (pieces_in ps)) → all ≡ map statement_of ss' ++ made_by (steps.up_to n (pieces_in ps'))
loop_goes_on n ps ps' p ss ss' all e k h before =
    before
    ∙ ap (λ qs. map statement_of ss ++ made_by (steps.up_to n qs)) (pieces_more ps' ps p e)
    ∙ ap (λ b. map statement_of ss ++ (map statement_of p.made.items ++ made_by (cond b [] (steps.up_to n (pieces_in ps'))))) h
    ∙ sym (append_assoc (map statement_of ss) (map statement_of p.made.items) (made_by (steps.up_to n (pieces_in ps'))))
    ∙ ap (λ ts. ts ++ made_by (steps.up_to n (pieces_in ps'))) (sym (ap (map statement_of) k ∙ map-append statement_of ss p.made.items))

pub loop_stops : (n : ℕ) (ps ps' : List Piece) (p : Piece) (ss ss' : List Stmt) (all : List plain.Statement) → ps ≡ ps' ++ p ∷ [] → ss' ≡ ss ++ p.made.items → is_label n p.ends ≡ true
    → all ≡ map statement_of ss ++ made_by (steps.up_to n (pieces_in ps)) → map statement_of ss' ≡ all
loop_stops n ps ps' p ss ss' all e k h before =
    sym (before
    ∙ ap (λ qs. map statement_of ss ++ made_by (steps.up_to n qs)) (pieces_more ps' ps p e)
    ∙ ap (λ b. map statement_of ss ++ (map statement_of p.made.items ++ made_by (cond b [] (steps.up_to n (pieces_in ps'))))) h
    ∙ ap (λ ts. map statement_of ss ++ ts) (append-nil (map statement_of p.made.items))
    ∙ sym (ap (map statement_of) k ∙ map-append statement_of ss p.made.items))

pub loop_out : (n : ℕ) (ps : List Piece) (ss : List Stmt) (all : List plain.Statement) → ps ≡ []
    → all ≡ map statement_of ss ++ made_by (steps.up_to n (pieces_in ps)) → map statement_of ss ≡ all
loop_out n ps ss all e before = sym (before ∙ ap (λ qs. map statement_of ss ++ made_by (steps.up_to n (pieces_in qs))) e ∙ append-nil (map statement_of ss))

pub beyond_goes_on : (n : ℕ) (ps ps' : List Piece) (p : Piece) (rest : List steps.Piece) → ps ≡ ps' ++ p ∷ [] → is_label n p.ends ≡ false
    → rest ≡ steps.beyond n (pieces_in ps) → rest ≡ steps.beyond n (pieces_in ps')
beyond_goes_on n ps ps' p rest e h before =
    before ∙ ap (steps.beyond n) (pieces_more ps' ps p e) ∙ ap (λ b. cond b (pieces_in ps') (steps.beyond n (pieces_in ps'))) h

pub beyond_stops : (n : ℕ) (ps ps' : List Piece) (p : Piece) (rest : List steps.Piece) → ps ≡ ps' ++ p ∷ [] → is_label n p.ends ≡ true
    → rest ≡ steps.beyond n (pieces_in ps) → pieces_in ps' ≡ rest
beyond_stops n ps ps' p rest e h before =
    sym (before ∙ ap (steps.beyond n) (pieces_more ps' ps p e) ∙ ap (λ b. cond b (pieces_in ps') (steps.beyond n (pieces_in ps'))) h)

pub beyond_out : (n : ℕ) (ps ps' : List Piece) (rest : List steps.Piece) → ps ≡ [] → ps' ≡ [] → rest ≡ steps.beyond n (pieces_in ps) → pieces_in ps' ≡ rest
beyond_out n ps ps' rest e e' before = ap pieces_in e' ∙ sym (before ∙ ap (λ qs. steps.beyond n (pieces_in qs)) e)

loop_with : (make : plain.Block → plain.Statement) (mark : List plain.Statement) (n : ℕ) (ps : List steps.Piece) (fs : List OpenIf)
    → rest_with (steps.loop_in make mark n ps) fs ≡ steps.loop_begun make mark n (rest_with ps fs)
loop_with make mark n ps [] = refl
loop_with make mark n ps (f ∷ fs) = refl

pub loop_is : (n line : ℕ) (x : List ℕ) (a b c : Expr) (ps left ps' : List Piece) (fs : List OpenIf) (p : Piece) (mark body : List Stmt) (ss : Seq Stmt)
    → map statement_of body ≡ made_by (steps.up_to n (pieces_in ps)) → pieces_in left ≡ steps.beyond n (pieces_in ps) → ss ≡ body
    → p.ends ≡ Some n → p.made.items ≡ mark ++ stmts.Do line x a b c (roll-Block (record { stmts = ss })) ∷ [] → ps' ≡ left ++ p ∷ []
    → rest_with (pieces_in ps') (reverse fs)
    ≡ steps.loop_begun (plain.Do line x (expression_of a) (expression_of b) (expression_of c)) (map statement_of mark) n (rest_with (pieces_in ps) (reverse fs))
loop_is n line x a b c ps left ps' fs p mark body ss inner outer same ends made more =
    ap (λ qs. rest_with qs (reverse fs))
    (pieces_more left ps' p more ∙ ap (λ q. q ∷ pieces_in left) (piece_like p n (map statement_of mark ++ plain.Do line x (expression_of a) (expression_of b) (expression_of c) (steps.block_of (steps.up_to n (pieces_in ps))) ∷ []) ends all)
    ∙ ap (λ qs. record { ends = Some n; made = map statement_of mark ++ plain.Do line x (expression_of a) (expression_of b) (expression_of c) (steps.block_of (steps.up_to n (pieces_in ps))) ∷ [] } ∷ qs) outer)
    ∙ loop_with (plain.Do line x (expression_of a) (expression_of b) (expression_of c)) (map statement_of mark) n (pieces_in ps) (reverse fs)
  where
    piece_like : (p : Piece) (n : ℕ) (made : List plain.Statement) → p.ends ≡ Some n → map statement_of p.made.items ≡ made → piece_of p ≡ (let q : steps.Piece = record { ends = Some n; made = made } in q)
    piece_like p n made e k = ap (λ l. let q : steps.Piece = record { ends = l; made = map statement_of p.made.items } in q) e ∙ ap (λ m. let q : steps.Piece = record { ends = Some n; made = m } in q) k

    all : map statement_of p.made.items ≡ map statement_of mark ++ plain.Do line x (expression_of a) (expression_of b) (expression_of c) (steps.block_of (steps.up_to n (pieces_in ps))) ∷ []
    all =
        ap (map statement_of) made ∙ map-append statement_of mark (stmts.Do line x a b c (roll-Block (record { stmts = ss })) ∷ [])
        ∙ ap (λ t. map statement_of mark ++ t ∷ [])
        (statement_of-do line x a b c (roll-Block (record { stmts = ss }))
        ∙ ap (plain.Do line x (expression_of a) (expression_of b) (expression_of c)) (block_of-made ss ∙ ap (λ ts. plain.block (map statement_of ts)) same ∙ ap plain.block inner))

-- ---- all pieces of a block

pub block_goes_on : (ps ps' : List Piece) (p : Piece) (ss ss' : List Stmt) (all : List plain.Statement) → ps ≡ ps' ++ p ∷ [] → ss' ≡ ss ++ p.made.items
    → all ≡ map statement_of ss ++ made_by (pieces_in ps) → all ≡ map statement_of ss' ++ made_by (pieces_in ps')
block_goes_on ps ps' p ss ss' all e k before =
    before
    ∙ ap (λ qs. map statement_of ss ++ made_by qs) (pieces_more ps' ps p e)
    ∙ sym (append_assoc (map statement_of ss) (map statement_of p.made.items) (made_by (pieces_in ps')))
    ∙ ap (λ ts. ts ++ made_by (pieces_in ps')) (sym (ap (map statement_of) k ∙ map-append statement_of ss p.made.items))

pub block_out : (ps ps' : List Piece) (ss : List Stmt) (ts : Seq Stmt) → ps' ≡ [] → ts ≡ ss
    → made_by (pieces_in ps) ≡ map statement_of ss ++ made_by (pieces_in ps') → block_of (roll-Block (record { stmts = ts })) ≡ steps.block_of (pieces_in ps)
block_out ps ps' ss ts e k before =
    block_of-made ts ∙ ap (λ us. plain.block (map statement_of us)) k
    ∙ ap plain.block (sym (before ∙ ap (λ qs. map statement_of ss ++ made_by (pieces_in qs)) e ∙ append-nil (map statement_of ss)))

outermost_with : (ps : List steps.Piece) (fs : List OpenIf) → steps.outermost_block (rest_with ps fs) ≡ steps.block_of ps
outermost_with ps [] = refl
outermost_with ps (f ∷ fs) = refl

pub finish_is : (ps : List Piece) (fs : List OpenIf) (b : plain.Block) → b ≡ steps.block_of (pieces_in ps) → b ≡ steps.outermost_block (rest_with (pieces_in ps) (reverse fs))
finish_is ps fs b e = e ∙ sym (outermost_with (pieces_in ps) (reverse fs))

-- what holds of a result follows from what was said of it
pub ok_follows : {A E : Type 0} (P Q : A → Type 0) (r : Result A E) → ((x : A) → P x → Q x) → IfOk r P → IfOk r Q
ok_follows P Q (Ok x) f h = f x h
ok_follows P Q (Err e) f h = h
