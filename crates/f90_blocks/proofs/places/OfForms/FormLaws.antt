-- Statements with their forms.
use Rattle.std.proofs.Common.{◌≡◌, ◌+◌, ◌<◌, ℕ, List, [], ◌∷◌, ◌++◌, ◌≤◌, drop, length, get_or, ap, sym, subst, ◌∙◌, append_assoc, append-nil, Option, Some, None, Result, Ok, Err}
use Rattle.tree.specs.declared.lists.Memory.{Memory}
use Rattle.f90_grammar.specs.Forms.{Form90, IsWritten90}
use Rattle.f90_grammar.specs.FreeForm.{FreeStatement}
use Rattle.f90_grammar.specs.Refusals.{IsFormOf90}
use Rattle.f90_grammar.specs.Words.{Word90, HasWords}
use Rattle.f90_statement.specs.Views.{AreOf}
use Rattle.f90_statement.specs.declared.nodes.Statement.{Statement}
use Rattle.f90_lines.specs.Views.{statement_seen, statements_seen}
use Rattle.f90_lines.specs.declared.readings.Statement as written
use Rattle.std.proofs.lemmas.List.{drop_more, drop_all}
use Rattle.f90_blocks.specs.places.forms.Forms.{IsFormIn, ReadsForm, ReadsWords}

-- the characters of the statement have these words, and no others
abbrev IsOnly : List ℕ → List Word90 → Type 0
IsOnly cs ws = (vs : List Word90) → HasWords cs vs → ws ≡ vs

pub form_at : (r : Result (Option Statement) Memory) (s : FreeStatement) (cs : List ℕ) (ws : List Word90) → cs ≡ s.chars → HasWords cs ws → IsOnly cs ws → ReadsWords ws r
    → ReadsForm s r
form_at (Ok (Some made)) s cs ws e h o k =
    record { form = k.form; is_of = k.is_of; of = (ws, subst (λ (c : List ℕ). HasWords c ws) e h, k.written) }
form_at (Ok None) s cs ws e h o k =
    λ f g. k f (subst (λ (v : List Word90). IsWritten90 f v) (sym (o g.0 (subst (λ (c : List ℕ). HasWords c g.0) (sym e) g.1))) g.2)
form_at (Err e) s cs ws q h o k = tt

pub no_words : (s : FreeStatement) (cs : List ℕ) → cs ≡ s.chars → ((vs : List Word90) → HasWords cs vs → ⊥) → (f : Form90) → IsFormOf90 s f → ⊥
no_words s cs e o f g = o g.0 (subst (λ (c : List ℕ). HasWords c g.0) (sym e) g.1)

pub ruleset forms = (form_at, no_words)

-- ---- all of them

-- these are the forms of the statements before those that are left
abbrev pub ReadSoFar : List FreeStatement → List FreeStatement → List (Option Statement) → Type 0
ReadSoFar all left read = (rest : List (Option Statement)) → AreOf IsFormIn rest left → AreOf IsFormIn (read ++ rest) all

pub one_more : (all more : List FreeStatement) (s : FreeStatement) (read : List (Option Statement)) (made : Option Statement) → ReadSoFar all (s ∷ more) read → IsFormIn made s
    → ReadSoFar all more (read ++ made ∷ [])
one_more all more s read made h k rest a =
    subst (λ (q : List (Option Statement)). AreOf IsFormIn q all) (sym (append_assoc read (made ∷ []) rest)) (h (made ∷ rest) (k, a))

pub all_read : (all left : List FreeStatement) (read : List (Option Statement)) → left ≡ [] → ReadSoFar all left read → AreOf IsFormIn read all
all_read all left read e h =
    subst (λ (q : List (Option Statement)). AreOf IsFormIn q all) (append-nil read) (h [] (subst (λ (l : List FreeStatement). AreOf IsFormIn [] l) (sym e) tt))

pub left_at : (xs : List written.Statement) (i : ℕ) (x : written.Statement) → i < length xs → get_or xs i x ≡ x
    → statements_seen (drop i xs) ≡ statement_seen x ∷ statements_seen (drop (i + 1) xs)
left_at xs i x l g = ap statements_seen (drop_more xs i x l ∙ ap (λ (y : written.Statement). y ∷ drop (i + 1) xs) g)

pub none_left : (xs : List written.Statement) (i : ℕ) → length xs ≤ i → statements_seen (drop i xs) ≡ []
none_left xs i l = ap statements_seen (drop_all i xs l)
