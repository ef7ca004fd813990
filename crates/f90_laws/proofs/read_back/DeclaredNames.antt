-- The names that a text's statements declare are those that their forms declare.
use Rattle.std.proofs.Common.{◌≡◌, ◌⊎◌, inl, inr, refl, sym, ap, subst, ℕ, Bool, true, false, cond, Option, None, List, [], ◌∷◌, map, Contains}
use Rattle.std.specs.Prelude.{◌↔◌}
use Rattle.std.specs.Str.{bytes_eq}
use Rattle.std.proofs.lemmas.Slice.Eq.{bytes_eq-Decides}
use mathlib.Core.Path.{fun_ext}
use Rattle.tree.specs.Functions.{intrinsic_named}
use Rattle.tree.specs.Plain.{Declaration}
use Rattle.tree.specs.declared.ops.Kind.{Kind}
use Rattle.tree.specs.declared.stmts.Mark.{Mark}
use Rattle.meaning.specs.Names.{is_among}
use Rattle.f90_grammar.specs.FreeForm.{FreeStatement}
use Rattle.f90_grammar.specs.Forms as forms
use Rattle.f90_grammar.specs.Forms.{Form90, EntityForm90}
use Rattle.f90_grammar.specs.Blocks.{Placed}
use Rattle.f90_grammar.specs.Reading.{HaveForms, takes_mark, last_mark, mark_left_over, declares, entity_declaration}
use Rattle.f90_grammar.specs.Declared.{declarations_in, declarations_of, functions_in}
use Rattle.f90_grammar.specs.Refusals.{IsFormOf90, IsDeclaredIn, functions_but}
use Rattle.f90_laws.proofs.readings.Lists.{here, there, nowhere, cases_of, any_true, found, in_flat, from_flat}
use Rattle.f90_laws.proofs.unique.Statements.{one_statement}

-- ---- statements and their forms

pub record HasPlaced (ps : List Placed) (s : FreeStatement) : Type 0 where
  pub it : Placed
  pub among : Contains ps it
  pub form : IsFormOf90 s it.form

pub has_placed : (m : Option Mark) (ss : List FreeStatement) (ps : List Placed) (s : FreeStatement) → HaveForms m ss ps → Contains ss s
    → HasPlaced ps s
has_placed m [] ps s h k = absurd (nowhere s k)
has_placed m (t ∷ ts) [] s h k = absurd h
has_placed m (t ∷ ts) (p ∷ ps) s h k =
    by (has_placed (last_mark (mark_left_over (takes_mark p.form) (last_mark m t.ahead)) t.within) ts ps s h.3) (cases_of t ts s k)
  where
    by : (Contains ts s → HasPlaced ps s) → (t ≡ s) ⊎ Contains ts s → HasPlaced (p ∷ ps) s
    by more (inl e) = record { it = p; among = here p ps; form = subst (λ (u : FreeStatement). IsFormOf90 u p.form) e h.2 }
    by more (inr c) = let r = more c in record { it = r.it; among = there p ps r.it r.among; form = r.form }

record HasStatement (ss : List FreeStatement) (p : Placed) : Type 0 where
  pub it : FreeStatement
  pub among : Contains ss it
  pub form : IsFormOf90 it p.form

has_statement : (m : Option Mark) (ss : List FreeStatement) (ps : List Placed) (p : Placed) → HaveForms m ss ps → Contains ps p
    → HasStatement ss p
has_statement m ss [] p h k = absurd (nowhere p k)
has_statement m [] (q ∷ qs) p h k = absurd h
has_statement m (t ∷ ts) (q ∷ qs) p h k =
    by (has_statement (last_mark (mark_left_over (takes_mark q.form) (last_mark m t.ahead)) t.within) ts qs p h.3) (cases_of q qs p k)
  where
    by : (Contains qs p → HasStatement ts p) → (q ≡ p) ⊎ Contains qs p → HasStatement (t ∷ ts) p
    by more (inl e) = record { it = t; among = here t ts; form = subst (λ (u : Placed). IsFormOf90 t u.form) e h.2 }
    by more (inr c) = let r = more c in record { it = r.it; among = there t ts r.it r.among; form = r.form }

-- ---- the names of entities

name_to : (k : Kind) (a : Bool) (es : List EntityForm90) (d : Declaration) → Contains (map (entity_declaration k a) es) d
    → Contains (map (λ (e : EntityForm90). e.name) es) d.name
name_to k a [] d h = absurd (nowhere d h)
name_to k a (e ∷ es) d h = by (name_to k a es d) (cases_of (entity_declaration k a e) (map (entity_declaration k a) es) d h)
  where
    by : (Contains (map (entity_declaration k a) es) d → Contains (map (λ (e : EntityForm90). e.name) es) d.name)
        → (entity_declaration k a e ≡ d) ⊎ Contains (map (entity_declaration k a) es) d
        → Contains (map (λ (e : EntityForm90). e.name) (e ∷ es)) d.name
    by more (inl g) =
        subst (λ (c : Declaration). Contains (map (λ (e : EntityForm90). e.name) (e ∷ es)) c.name) g (here e.name (map (λ (e : EntityForm90). e.name) es))
    by more (inr c) = there e.name (map (λ (e : EntityForm90). e.name) es) d.name (more c)

record Declares (ds : List Declaration) (x : List ℕ) : Type 0 where
  pub it : Declaration
  pub among : Contains ds it
  pub name : it.name ≡ x

name_from : (k : Kind) (a : Bool) (es : List EntityForm90) (x : List ℕ) → Contains (map (λ (e : EntityForm90). e.name) es) x
    → Declares (map (entity_declaration k a) es) x
name_from k a [] x h = absurd (nowhere x h)
name_from k a (e ∷ es) x h = by (name_from k a es x) (cases_of e.name (map (λ (e : EntityForm90). e.name) es) x h)
  where
    by : (Contains (map (λ (e : EntityForm90). e.name) es) x → Declares (map (entity_declaration k a) es) x)
        → (e.name ≡ x) ⊎ Contains (map (λ (e : EntityForm90). e.name) es) x → Declares (map (entity_declaration k a) (e ∷ es)) x
    by more (inl g) =
        record { it = entity_declaration k a e; among = here (entity_declaration k a e) (map (entity_declaration k a) es); name = g }
    by more (inr c) =
        let r = more c in
        record { it = r.it; among = there (entity_declaration k a e) (map (entity_declaration k a) es) r.it r.among; name = r.name }

-- ---- what is declared by a form

declared_by : (ss : List FreeStatement) (s : FreeStatement) (f : Form90) (d : Declaration) → Contains ss s → IsFormOf90 s f
    → Contains (declarations_in f) d → IsDeclaredIn ss d.name
declared_by ss s (forms.Declare k a es) d h w c =
    record { statement = s; stands = h; kind = k; allocatable = a; entities = es; form = w; name = name_to k a es d c }
declared_by ss s f d h w c = absurd (nowhere d c)

-- ---- the statements and their forms declare the same names

module _ (ss : List FreeStatement) (ps : List Placed) (h : HaveForms None ss ps) where
  to_text : (x : List ℕ) → declares (declarations_of ps) x ≡ true → IsDeclaredIn ss x
  to_text x e =
      let d = found (λ (d : Declaration). bytes_eq d.name x) (declarations_of ps) e in
      let p = from_flat (λ (p : Placed). declarations_in p.form) ps d.it d.among in
      let s = has_statement None ss ps p.it h p.among in
      subst (IsDeclaredIn ss) ((bytes_eq-Decides d.it.name x).0 d.passes) (declared_by ss s.it p.it.form d.it s.among s.form p.gives)

  from_text : (x : List ℕ) → IsDeclaredIn ss x → declares (declarations_of ps) x ≡ true
  from_text x i =
      let f = forms.Declare i.kind i.allocatable i.entities in
      let p = has_placed None ss ps i.statement h i.stands in
      let e : f ≡ p.it.form = one_statement i.statement f p.it.form i.form p.form in
      let d = name_from i.kind i.allocatable i.entities x i.name in
      let c : Contains (declarations_in p.it.form) d.it = subst (λ (g : Form90). Contains (declarations_in g) d.it) e d.among in
      any_true (λ (d : Declaration). bytes_eq d.name x) (declarations_of ps) d.it
      (in_flat (λ (p : Placed). declarations_in p.form) ps p.it d.it p.among c)
      ((bytes_eq-Decides d.it.name x).1 d.name)

  module _ (names : List (List ℕ)) (are : (x : List ℕ) → Contains names x ↔ IsDeclaredIn ss x) where
    to_names : (x : List ℕ) → declares (declarations_of ps) x ≡ true → is_among names x ≡ true
    to_names x e = any_true (bytes_eq x) names x ((are x).1 (to_text x e)) ((bytes_eq-Decides x x).1 refl)

    from_names : (x : List ℕ) → is_among names x ≡ true → declares (declarations_of ps) x ≡ true
    from_names x e =
        let n = found (bytes_eq x) names e in
        from_text x ((are x).0 (subst (Contains names) (sym ((bytes_eq-Decides x n.it).0 n.passes)) n.among))

    same_test : (x : List ℕ) → declares (declarations_of ps) x ≡ is_among names x
    same_test x = both (declares (declarations_of ps) x) (is_among names x) (to_names x) (from_names x)
      where
        both : (a b : Bool) → (a ≡ true → b ≡ true) → (b ≡ true → a ≡ true) → a ≡ b
        both true b f g = sym (f refl)
        both false true f g = g refl
        both false false f g = refl

    pub same_functions : functions_in ps ≡ functions_but names
    same_functions = fun_ext (λ x. ap (λ b. cond b None (intrinsic_named x)) (same_test x))
