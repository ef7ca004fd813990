-- Which names are functions where those that a text declares are none.
use Rattle.std.proofs.Common.{◌≡◌, ◌⊎◌, inl, inr, ◌+◌, ◌<◌, ◌≤◌, ℕ, Bool, cond, List, [], ◌∷◌, ◌++◌, drop, length}
use Rattle.std.proofs.Common.{get_or, map, flat_map, Contains, refl, ap, sym, subst, ◌∙◌, append_assoc, append-nil}
use Rattle.std.proofs.Common.{Option, Some, None}
use mathlib.Core.Path.{ap₂}
use Rattle.std.specs.Prelude.{◌↔◌}
use Rattle.std.specs.Str.{bytes_eq}
use Rattle.std.proofs.lemmas.List.{drop_more, drop_all}
use Rattle.tree.specs.declared.functions.Intrinsic.{Intrinsic}
use Rattle.tree.specs.declared.ops.Kind.{Kind}
use Rattle.f90_grammar.specs.Forms as forms
use Rattle.f90_grammar.specs.Forms.{Form90}
use Rattle.f90_grammar.specs.FreeForm.{FreeStatement}
use Rattle.f90_grammar.specs.Refusals.{IsFormOf90, IsDeclaredIn}
use Rattle.f90_laws.proofs.readings.Lists.{here, there, nowhere, cases_of, in_flat, from_flat}
use Rattle.f90_laws.proofs.unique.Statements.{one_statement}
use Rattle.f90_trees.specs.Hiding.{function_in, without}
use Rattle.f90_trees.specs.declared.functions.Functions.{Functions}
use Rattle.f90_trees.proofs.HidingLaws.{hidden_push}
use Rattle.f90_statement.specs.Views.{AreOf, IsEntityOf, IsActionOf, IsStatementOf}
use Rattle.f90_statement.specs.declared.nodes.Action.{Action}
use Rattle.f90_statement.specs.declared.nodes.Action.TheVariants.{Assign, Go, Continue, Stop, Read, Print}
use Rattle.f90_statement.specs.declared.nodes.Entity.{Entity}
use Rattle.f90_statement.specs.declared.nodes.Statement.{Statement}
use Rattle.f90_statement.specs.declared.nodes.Statement.TheVariants.{Declare, Act}
use Rattle.f90_blocks.specs.places.forms.Forms.{IsFormIn}
use Rattle.f90_names.specs.calls.Hiding.{Hides, HidesDeclared, IsWithout, declared_by, names_of}

abbrev pub declared_names : List (Option Statement) → List (List ℕ)
declared_names forms = flat_map declared_by forms

-- ---- name by name

-- these names are left of those that are to be hidden
abbrev pub NamesLeft : List (List ℕ) → List (List ℕ) → Functions → Type 0
NamesLeft all left fs = (hidden : List (List ℕ)) × (all ≡ hidden ++ left) × IsWithout hidden fs

pub one_hides : (x : List ℕ) (fs gs : Functions) → ((z : List ℕ) → function_in gs z ≡ without x (function_in fs) z)
    → Hides (x ∷ []) fs gs
one_hides x fs gs h xs k z =
    h z ∙ (ap (λ (i : Option Intrinsic). cond (bytes_eq z x) None i) (k z) ∙ sym (hidden_push xs x z))

pub none_hides : (fs : Functions) → Hides [] fs fs
none_hides fs xs k = subst (λ (ys : List (List ℕ)). IsWithout ys fs) (sym (append-nil xs)) k

pub left_more : (all front left : List (List ℕ)) (fs gs : Functions) → NamesLeft all (front ++ left) fs
    → Hides front fs gs → NamesLeft all left gs
left_more all front left fs gs h k = (h.0 ++ front, h.1 ∙ sym (append_assoc h.0 front left), k h.0 h.2)

pub left_none : (all : List (List ℕ)) (fs : Functions) → NamesLeft all [] fs → IsWithout all fs
left_none all fs h = subst (λ (ys : List (List ℕ)). IsWithout ys fs) (sym (h.1 ∙ append-nil h.0)) h.2

pub left_at : (all : List (List ℕ)) (es : List Entity) (i : ℕ) (e : Entity) (fs gs : Functions) → i < length es
    → get_or es i e ≡ e
    → NamesLeft all (names_of (drop i es)) fs → ((z : List ℕ) → function_in gs z ≡ without e.name (function_in fs) z)
    → NamesLeft all (names_of (drop (i + 1) es)) gs
left_at all es i e fs gs l g h k =
    left_more all (e.name ∷ []) (names_of (drop (i + 1) es)) fs gs
    (subst (λ (q : List Entity). NamesLeft all (names_of q) fs)
    (drop_more es i e l ∙ ap (λ (y : Entity). y ∷ drop (i + 1) es) g) h)
    (one_hides e.name fs gs k)

pub left_ended : (all : List (List ℕ)) (es : List Entity) (i : ℕ) (fs : Functions) → length es ≤ i
    → NamesLeft all (names_of (drop i es)) fs → IsWithout all fs
left_ended all es i fs l h =
    left_none all fs (subst (λ (q : List Entity). NamesLeft all (names_of q) fs) (drop_all i es l) h)

pub declared_at : (all : List (List ℕ)) (forms : List (Option Statement)) (i : ℕ) (form : Option Statement)
    (fs gs : Functions) → i < length forms → get_or forms i form ≡ form
    → NamesLeft all (declared_names (drop i forms)) fs → Hides (declared_by form) fs gs
    → NamesLeft all (declared_names (drop (i + 1) forms)) gs
declared_at all forms i form fs gs l g h k =
    left_more all (declared_by form) (declared_names (drop (i + 1) forms)) fs gs
    (subst (λ (q : List (Option Statement)). NamesLeft all (declared_names q) fs)
    (drop_more forms i form l ∙ ap (λ (y : Option Statement). y ∷ drop (i + 1) forms) g) h)
    k

declared_ended : (all : List (List ℕ)) (os : List (Option Statement)) (i : ℕ) (fs : Functions) → length os ≤ i
    → NamesLeft all (declared_names (drop i os)) fs → IsWithout all fs
declared_ended all os i fs l h =
    left_none all fs (subst (λ (q : List (Option Statement)). NamesLeft all (declared_names q) fs) (drop_all i os l) h)

-- ---- the declared names are those of the statements

record HasStatement (ss : List FreeStatement) (o : Option Statement) : Type 0 where
  pub it : FreeStatement
  pub among : Contains ss it
  pub is : IsFormIn o it

has_statement : (os : List (Option Statement)) (ss : List FreeStatement) (o : Option Statement) → AreOf IsFormIn os ss
    → Contains os o → HasStatement ss o
has_statement [] ss o a c = absurd (nowhere o c)
has_statement (q ∷ os) [] o a c = absurd a
has_statement (q ∷ os) (s ∷ ss) o a c = by (has_statement os ss o a.1) (cases_of q os o c)
  where
    by : (Contains os o → HasStatement ss o) → (q ≡ o) ⊎ Contains os o → HasStatement (s ∷ ss) o
    by more (inl e) = record { it = s; among = here s ss; is = subst (λ (r : Option Statement). IsFormIn r s) e a.0 }
    by more (inr d) = let r = more d in record { it = r.it; among = there s ss r.it r.among; is = r.is }

record HasRead (os : List (Option Statement)) (s : FreeStatement) : Type 0 where
  pub it : Option Statement
  pub among : Contains os it
  pub is : IsFormIn it s

has_read : (os : List (Option Statement)) (ss : List FreeStatement) (s : FreeStatement) → AreOf IsFormIn os ss
    → Contains ss s → HasRead os s
has_read os [] s a c = absurd (nowhere s c)
has_read [] (t ∷ ss) s a c = absurd a
has_read (o ∷ os) (t ∷ ss) s a c = by (has_read os ss s a.1) (cases_of t ss s c)
  where
    by : (Contains ss s → HasRead os s) → (t ≡ s) ⊎ Contains ss s → HasRead (o ∷ os) s
    by more (inl e) = record { it = o; among = here o os; is = subst (λ (r : FreeStatement). IsFormIn o r) e a.0 }
    by more (inr d) = let r = more d in record { it = r.it; among = there o os r.it r.among; is = r.is }

same_names : (es : List Entity) (ds : List forms.EntityForm90) → AreOf IsEntityOf es ds
    → names_of es ≡ map (λ (d : forms.EntityForm90). d.name) ds
same_names [] [] a = refl
same_names [] (d ∷ ds) a = absurd a
same_names (e ∷ es) [] a = absurd a
same_names (e ∷ es) (d ∷ ds) a = ap₂ (λ (x : List ℕ) (xs : List (List ℕ)). x ∷ xs) a.0.name (same_names es ds a.1)

declares_form : (ss : List FreeStatement) (s : FreeStatement) (k : Kind) (b : Bool) (es : List Entity) (f : Form90)
    (x : List ℕ) → Contains ss s → IsStatementOf (Declare k b es) f
    → IsFormOf90 s f → Contains (names_of es) x → IsDeclaredIn ss x
declares_form ss s k b es (forms.Declare l a ds) x m is of c = record {
  statement = s;
  stands = m;
  kind = l;
  allocatable = a;
  entities = ds;
  form = of;
  name = subst (λ (q : List (List ℕ)). Contains q x) (same_names es ds is.2) c;
}
declares_form ss s k b es f x m is of c = absurd is

by_statement : (ss : List FreeStatement) (s : FreeStatement) (o : Option Statement) (x : List ℕ) → Contains ss s
    → IsFormIn o s → Contains (declared_by o) x → IsDeclaredIn ss x
by_statement ss s (Some (Declare k b es)) x m is c = declares_form ss s k b es is.form x m is.is_of is.of c
by_statement ss s o x m is c = absurd (nowhere x c)

no_action : (a : Action) (k : Kind) (b : Bool) (ds : List forms.EntityForm90) → IsActionOf a (forms.Declare k b ds) → ⊥
no_action (Assign l r) k b ds h = h
no_action (Go n) k b ds h = h
no_action Continue k b ds h = h
no_action Stop k b ds h = h
no_action (Read (Some l)) k b ds h = h
no_action (Read None) k b ds h = h
no_action (Print (Some l)) k b ds h = h
no_action (Print None) k b ds h = h

in_declaration : (made : Statement) (k : Kind) (b : Bool) (ds : List forms.EntityForm90) (x : List ℕ)
    → IsStatementOf made (forms.Declare k b ds) → Contains (map (λ (d : forms.EntityForm90). d.name) ds) x
    → Contains (declared_by (Some made)) x
in_declaration (Declare l a es) k b ds x is c =
    subst (λ (q : List (List ℕ)). Contains q x) (sym (same_names es ds is.2)) c
in_declaration (Act a) k b ds x is c = absurd (no_action a k b ds is)
in_declaration made k b ds x is c = absurd is

declared_in : (ss : List FreeStatement) (x : List ℕ) (i : IsDeclaredIn ss x) (o : Option Statement)
    → IsFormIn o i.statement → Contains (declared_by o) x
declared_in ss x i None h = absurd (h (forms.Declare i.kind i.allocatable i.entities) i.form)
declared_in ss x i (Some made) h =
    let e : h.form ≡ forms.Declare i.kind i.allocatable i.entities = one_statement i.statement h.form _ h.of i.form in
    in_declaration made i.kind i.allocatable i.entities x (subst (λ (f : Form90). IsStatementOf made f) e h.is_of) i.name

pub names_declared : (os : List (Option Statement)) (ss : List FreeStatement) → AreOf IsFormIn os ss → (x : List ℕ)
    → Contains (declared_names os) x ↔ IsDeclaredIn ss x
names_declared os ss a x = (
  λ c.
      let f = from_flat declared_by os x c in
      let s = has_statement os ss f.it a f.among in
      by_statement ss s.it f.it x s.among s.is f.gives,
  λ i.
      let o = has_read os ss i.statement a i.stands in
      in_flat declared_by os o.it x o.among (declared_in ss x i o.it o.is),
)

pub hidden_all : (os : List (Option Statement)) (i : ℕ) (fs : Functions) (ss : List FreeStatement) → length os ≤ i
    → NamesLeft (declared_names os) (declared_names (drop i os)) fs
    → AreOf IsFormIn os ss → HidesDeclared ss (function_in fs)
hidden_all os i fs ss l h a = record {
  declared = declared_names os;
  are_declared = names_declared os ss a;
  same = declared_ended (declared_names os) os i fs l h;
}
