-- Which names are functions in the statements of a text.
use Rattle.std.proofs.Common.{◌≡◌, ℕ, ◌+◌, ◌<◌, ◌≤◌, Bool, true, false, ◌||◌, cond, List, [], ◌∷◌, drop, length}
use Rattle.std.proofs.Common.{get_or, map, flat_map, refl, ap, sym, subst, ◌∙◌, Some, None}
use mathlib.Core.Path.{ap₂}
use Rattle.std.specs.Str.{bytes_eq}
use Rattle.std.proofs.lemmas.List.{drop_more, drop_all}
use Rattle.std.proofs.lemmas.List.Folds.{list_any-append}
use Rattle.std.proofs.lemmas.Slice.Eq.{bytes_eq-Decides}
use Rattle.tree.specs.Functions.{intrinsic_named}
use Rattle.tree.specs.Plain.{Declaration}
use Rattle.tree.specs.declared.ops.Kind.{Kind}
use Rattle.meaning.specs.Names.{is_among}
use Rattle.f90_grammar.specs.Blocks as grammar
use Rattle.f90_grammar.specs.Declared.{declarations_of, declarations_in}
use Rattle.f90_grammar.specs.Forms as forms
use Rattle.f90_grammar.specs.Forms.{Form90}
use Rattle.f90_grammar.specs.Reading.{declares, entity_declaration}
use Rattle.f90_trees.specs.declared.functions.Functions.{Functions}
use Rattle.f90_statement.specs.Views.{AreOf, IsEntityOf, IsStatementOf}
use Rattle.f90_statement.specs.declared.nodes.Entity.{Entity}
use Rattle.f90_statement.specs.declared.nodes.Statement.{Statement}
use Rattle.f90_statement.specs.declared.nodes.Statement.TheVariants.{Declare}
use Rattle.f90_blocks.specs.places.forms.Places.{IsPlacedOf}
use Rattle.f90_blocks.specs.declared.places.forms.placing.Placed.{Placed}
use Rattle.f90_names.proofs.kinds.OfDeclarations.EntryLaws.{is_declaration, declares_nothing}
use Rattle.f90_names.specs.calls.Hiding.{Hides, declared_by, names_of}
use Rattle.f90_names.proofs.calls.HidingLaws.{NamesLeft, left_more, left_none}
use Rattle.f90_read.specs.Checks.{AreFunctionsOf}

-- the names that the statements declare
abbrev pub all_declared : List Placed → List (List ℕ)
all_declared ks = flat_map (λ (k : Placed). declared_by (Some k.statement)) ks

pub declared_at : (all : List (List ℕ)) (ks : List Placed) (i : ℕ) (k : Placed) (fs gs : Functions) → i < length ks
    → get_or ks i k ≡ k
    → NamesLeft all (all_declared (drop i ks)) fs → Hides (declared_by (Some k.statement)) fs gs
    → NamesLeft all (all_declared (drop (i + 1) ks)) gs
declared_at all ks i k fs gs l g h j =
    left_more all (declared_by (Some k.statement)) (all_declared (drop (i + 1) ks)) fs gs
    (subst (λ (q : List Placed). NamesLeft all (all_declared q) fs)
    (drop_more ks i k l ∙ ap (λ (y : Placed). y ∷ drop (i + 1) ks) g) h)
    j

-- ---- the names are those that are declared

told_alike : (b c : Bool) → (b ≡ true → c ≡ true) → (c ≡ true → b ≡ true) → b ≡ c
told_alike true c f g = sym (f refl)
told_alike false false f g = refl
told_alike false true f g = g refl

turned : (x y : List ℕ) → bytes_eq x y ≡ bytes_eq y x
turned x y =
    told_alike (bytes_eq x y) (bytes_eq y x) (λ e. (bytes_eq-Decides y x).1 (sym ((bytes_eq-Decides x y).0 e)))
    (λ e. (bytes_eq-Decides x y).1 (sym ((bytes_eq-Decides y x).0 e)))

entities_declare : (k : Kind) (a : Bool) (es : List Entity) (gs : List forms.EntityForm90) (x : List ℕ)
    → AreOf IsEntityOf es gs
    → is_among (names_of es) x ≡ declares (map (entity_declaration k a) gs) x
entities_declare k a [] [] x h = refl
entities_declare k a [] (g ∷ gs) x h = absurd h
entities_declare k a (e ∷ es) [] x h = absurd h
entities_declare k a (e ∷ es) (g ∷ gs) x h =
    ap₂ (λ (b c : Bool). b || c) (turned x e.name ∙ ap (λ (y : List ℕ). bytes_eq y x) h.0.name)
    (entities_declare k a es gs x h.1)

no_names : (s : Statement) → is_declaration s ≡ false → declared_by (Some s) ≡ []
no_names (Declare k a es) n = cc
no_names s n = refl

statement_declares : (s : Statement) (f : Form90) (x : List ℕ) → IsStatementOf s f
    → is_among (declared_by (Some s)) x ≡ declares (declarations_in f) x
statement_declares (Declare k a es) (forms.Declare l b gs) x h = entities_declare l b es gs x h.2
statement_declares (Declare k a es) f x h = absurd h
statement_declares s f x h = others (is_declaration s) refl
  where
    others : (b : Bool) → is_declaration s ≡ b → is_among (declared_by (Some s)) x ≡ declares (declarations_in f) x
    others false e = ap (λ (xs : List (List ℕ)). is_among xs x) (no_names s e)
        ∙ ap (λ (ds : List Declaration). declares ds x) (sym (declares_nothing s f e h))
    others true e = cc

all_declare : (ks : List Placed) (ps : List grammar.Placed) (x : List ℕ) → AreOf IsPlacedOf ks ps
    → is_among (all_declared ks) x ≡ declares (declarations_of ps) x
all_declare [] [] x h = refl
all_declare [] (p ∷ ps) x h = absurd h
all_declare (k ∷ ks) [] x h = absurd h
all_declare (k ∷ ks) (p ∷ ps) x h =
    list_any-append (bytes_eq x) (declared_by (Some k.statement)) (all_declared ks)
    ∙ (ap₂ (λ (b c : Bool). b || c) (statement_declares k.statement p.form x h.0.is) (all_declare ks ps x h.1)
    ∙ sym (list_any-append (λ (d : Declaration). bytes_eq d.name x) (declarations_in p.form) (declarations_of ps)))

pub hidden_all : (ks : List Placed) (ps : List grammar.Placed) (i : ℕ) (fs : Functions) → length ks ≤ i
    → NamesLeft (all_declared ks) (all_declared (drop i ks)) fs
    → AreOf IsPlacedOf ks ps → AreFunctionsOf ps fs
hidden_all ks ps i fs l h a x =
    left_none (all_declared ks) fs (subst (λ (q : List Placed). NamesLeft (all_declared ks) (all_declared q) fs)
    (drop_all i ks l) h) x
    ∙ ap (λ (b : Bool). cond b None (intrinsic_named x)) (all_declare ks ps x a)
