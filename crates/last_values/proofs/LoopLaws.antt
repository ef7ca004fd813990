-- Lists of loops that are gone through.
use Rattle.std.proofs.Common.{◌≡◌, ℕ, ◌+◌, ◌<◌, ◌≤◌, Bool, false, List, [], ◌∷◌, ◌++◌, map, take, length, get_or, refl, ap, sym, ◌∙◌}
use Rattle.std.proofs.lemmas.Grind.{flat_map-append}
use Rattle.std.proofs.lemmas.List.{append-nil, map-append, take_all}
use Rattle.std.proofs.lemmas.List.Folds.{list_all_at}
use Rattle.std.specs.List.{flat_map, list_all}
use Rattle.tree.specs.Plain.{Statement, block}
use Rattle.tree.specs.View.{statement_of, block_of}
use Rattle.tree.specs.declared.lists.Seq.{Seq}
use Rattle.tree.specs.declared.stmts.Block.{roll-Block}
use Rattle.tree.proofs.Equations.{block_of-made}
use Rattle.nest.specs.Plain.{Part}
use Rattle.tree.specs.declared.stmts.Stmt.{Stmt}
use Rattle.nest.proofs.statement_loops.StandingLaws.{one_more}
use Rattle.last_values.specs.declared.behind.NestedLoop.{NestedLoop}
use Rattle.last_values.specs.ValuesBehind.{left_behind, values_behind}

-- one of them fails
pub fails_at : {A : Type 0} (p : A → Bool) (list all : List A) (i : ℕ) (x : A) (r : Bool)
    → list ≡ all → i < length list → x ≡ get_or list i x → r ≡ p x → r ≡ false → false ≡ list_all p all
fails_at p list all i x r same h e is f =
    sym (ap (list_all p) (sym same) ∙ list_all_at p list i x h (ap p (sym e) ∙ sym is ∙ f))

flat_more : {A B : Type 0} (f : A → List B) (list : List A) (i : ℕ) (x : A) → i < length list → x ≡ get_or list i x
    → flat_map f (take (i + 1) list) ≡ flat_map f (take i list) ++ f x
flat_more f list i x h e =
    ap (flat_map f) (one_more list i x h e) ∙ flat_map-append f (take i list) (x ∷ [])
    ∙ ap (λ us. flat_map f (take i list) ++ us) (append-nil (f x))

-- the statements of one more are added
pub statements_more : {A : Type 0} (f : A → List Statement) (list : List A) (i : ℕ) (x : A) (old new left : List Stmt)
    → i < length list → x ≡ get_or list i x → map statement_of old ≡ flat_map f (take i list)
    → map statement_of left ≡ f x → new ≡ old ++ left → map statement_of new ≡ flat_map f (take (i + 1) list)
statements_more f list i x old new left h e before here now =
    ap (map statement_of) now ∙ map-append statement_of old left ∙ ap (λ us. us ++ map statement_of left) before
    ∙ ap (λ us. flat_map f (take i list) ++ us) here ∙ sym (flat_more f list i x h e)

-- the block of all statements that were added
pub block_behind : {A : Type 0} (f : A → List Statement) (list all : List A) (i : ℕ) (ss : List Stmt) (ts : Seq Stmt)
    → list ≡ all → length list ≤ i → map statement_of ss ≡ flat_map f (take i list) → ts ≡ ss
    → block_of (roll-Block (record { stmts = ts })) ≡ block (flat_map f all)
block_behind f list all i ss ts same h before now =
    block_of-made ts ∙ ap (λ (us : List Stmt). block (map statement_of us)) now
    ∙ ap block (before ∙ ap (flat_map f) (take_all i list h ∙ same))

pub values_behind_is : (symbols : List (List ℕ)) (line : ℕ) (ls : List NestedLoop) (p : Part) → values_behind symbols line ls p ≡ block (flat_map (left_behind symbols line ls p) ls)
unfolding values_behind
values_behind_is symbols line ls p = refl
