-- Which names are looked for hangs on IMPLICIT NONE.
use Rattle.std.proofs.Common.{◌≡◌, ℕ, suc, Bool, true, false, not, ◌&&◌, ◌||◌, cond, Option, Some, None, Result, Ok, Err, IfOk, List, [], ◌∷◌, ◌+◌, ◌<◌, ◌≤◌, length, get_or, drop, refl, sym, ap, ◌∙◌}
use Rattle.std.proofs.lemmas.List.{drop_all}
use Rattle.tree.specs.declared.lists.Memory.{Memory}
use Rattle.f77_grammar.specs.Statement77.{Labelled}
use Rattle.f77_grammar.specs.program.Text.{Place77, places, is_implicit_none}
use Rattle.f77_grammar.specs.program.Uses.{Use77}
use Rattle.f77_grammar.specs.program.Declarations.{has_implicit_none, has_name, is_real, lacks_type, has_real_name, has_untyped_name}
use Rattle.f77_grammar.specs.syntax.First.{index_from, first_index}
use Rattle.f77_grammar.specs.syntax.Views.{statement_of, text_of}
use Rattle.f77_grammar.specs.declared.syntax.statements.Labelled.{Labelled as Labelled'}
use Rattle.f77_grammar.proofs.syntax.Walks.{text_left, text_through}

-- ---- IMPLICIT NONE is looked for from the first statement on

pub none_here : (xs : List Labelled') (i : ℕ) (x : Labelled') → i < length xs → x ≡ get_or xs i x → is_implicit_none (statement_of x.statement) ≡ true
    → has_implicit_none (drop i (text_of xs)) ≡ true
none_here xs i x h e t = ap has_implicit_none (text_left xs i x h e) ∙ ap (λ b. b || has_implicit_none (drop (i + 1) (text_of xs))) t

pub none_more : (xs : List Labelled') (i : ℕ) (x : Labelled') → i < length xs → x ≡ get_or xs i x → is_implicit_none (statement_of x.statement) ≡ false
    → has_implicit_none (drop i (text_of xs)) ≡ has_implicit_none (drop (i + 1) (text_of xs))
none_more xs i x h e t = ap has_implicit_none (text_left xs i x h e) ∙ ap (λ b. b || has_implicit_none (drop (i + 1) (text_of xs))) t

pub none_left : (xs : List Labelled') (i : ℕ) → length xs ≤ i → has_implicit_none (drop i (text_of xs)) ≡ false
none_left xs i h = ap has_implicit_none (drop_all i (text_of xs) (text_through xs i h))

-- ---- a first place by another test

none_passes : (test : Place77 → Bool) (i : ℕ) (ps : List Place77) → ((p : Place77) → test p ≡ false) → index_from test i ps ≡ None
none_passes test i [] h = refl
none_passes test i (p ∷ ps) h = ap (λ b. cond b (Some i) (index_from test (suc i) ps)) (h p) ∙ none_passes test (suc i) ps h

same_index : (f g : Place77 → Bool) (i : ℕ) (ps : List Place77) → ((p : Place77) → f p ≡ g p) → index_from f i ps ≡ index_from g i ps
same_index f g i [] h = refl
same_index f g i (p ∷ ps) h =
    ap (λ b. cond b (Some i) (index_from f (suc i) ps)) (h p) ∙ ap (cond (g p) (Some i)) (same_index f g (suc i) ps h)

-- ---- beside IMPLICIT NONE no name would be REAL

pub real_beside_none : (text : List Labelled) (us : List Use77) → has_implicit_none text ≡ true → None ≡ first_index (has_real_name text us) text
real_beside_none text us e =
    sym (none_passes (has_real_name text us) 0 (places text) (λ p. ap (λ b. not b && has_name (is_real us) p) e))

pub real_without : (text : List Labelled) (us : List Use77) (o : Result (Option ℕ) Memory) → has_implicit_none text ≡ false
    → IfOk o (λ place. place ≡ first_index (has_name (is_real us)) text) → IfOk o (λ place. place ≡ first_index (has_real_name text us) text)
real_without text us (Ok place) e h =
    h ∙ same_index (has_name (is_real us)) (has_real_name text us) 0 (places text) (λ p. sym (ap (λ b. not b && has_name (is_real us) p) e))
real_without text us (Err m) e h = tt

-- ---- without it no name needs a type

pub untyped_without : (text : List Labelled) (us : List Use77) → has_implicit_none text ≡ false → None ≡ first_index (has_untyped_name text us) text
untyped_without text us e =
    sym (none_passes (has_untyped_name text us) 0 (places text) (λ p. ap (λ b. b && has_name (lacks_type us) p) e))

pub untyped_beside_none : (text : List Labelled) (us : List Use77) (o : Result (Option ℕ) Memory) → has_implicit_none text ≡ true
    → IfOk o (λ place. place ≡ first_index (has_name (lacks_type us)) text) → IfOk o (λ place. place ≡ first_index (has_untyped_name text us) text)
untyped_beside_none text us (Ok place) e h =
    h ∙ same_index (has_name (lacks_type us)) (has_untyped_name text us) 0 (places text) (λ p. sym (ap (λ b. b && has_name (lacks_type us) p) e))
untyped_beside_none text us (Err m) e h = tt
