-- Type declarations.
use Rattle.std.proofs.Common.{arith, ◌≡◌, ℕ, Bool, true, false, List, [], ◌∷◌, ◌++◌, ap, refl, sym, subst, ◌∙◌, append-nil, Err, codes}
use Rattle.std.specs.Borrow.{Bor}
use Rattle.std.specs.Prelude.{IsTrue}
use Rattle.tree.specs.declared.ops.Kind.{Kind}
use Rattle.tree.specs.declared.ops.Kind.TheVariants.{Integer, Logical}
use Rattle.f90_grammar.specs.Forms as forms
use Rattle.f90_grammar.specs.Forms.{Form90, IsWritten90, IsEntity90, written_entity90, separated90, attribute}
use Rattle.reading.specs.Characters.{IsList, keyword_of}
use Rattle.f90_grammar.specs.Words as words
use Rattle.f90_grammar.specs.Words.{Word90}
use Rattle.f90_expressions.specs.words.Tokens.{words_of}
use Rattle.f90_expressions.specs.declared.words.tokens.Token.{Token}
use Rattle.reading.specs.declared.stops.Stop.{Stop}
use Rattle.reading.specs.declared.stops.Stop.TheVariants.{Syntax, Memory}
use Rattle.f90_statement.specs.Kinds.{is_declaration}
use Rattle.f90_statement.specs.Reading.{BeginsWithList, IsForm, ReadsStatement, EndsList, Given}
use Rattle.f90_statement.specs.Views.{AreOf, IsEntityOf, IsStatementOf}
use Rattle.f90_statement.specs.declared.nodes.Entity.{Entity}
use Rattle.f90_statement.specs.declared.nodes.Statement.TheVariants as statements

abbrev typed : Kind → List Word90 → List Word90
typed k us = words.Name (keyword_of k) ∷ us

abbrev listed : Bool → List Word90 → List Word90
listed a us = attribute a ++ words.Colons ∷ us

abbrev first_code : List Word90 → ℕ
first_code (words.Name (c ∷ cs) ∷ ws) = c
first_code ws = 0

other_code : (a b : ℕ) → a ≡ 73 → b ≡ 76 → a ≡ b → ⊥
other_code a b e f h = omega arith

behind_type : (k l : Kind) (us vs : List Word90) → typed k us ≡ typed l vs → (k ≡ l) × (us ≡ vs)
behind_type Integer Integer us vs e = (refl, cc)
behind_type Logical Logical us vs e = (refl, cc)
behind_type Integer Logical us vs e = absurd (other_code 73 76 refl refl (ap first_code e))
behind_type Logical Integer us vs e = absurd (other_code 73 76 refl refl (ap first_code (sym e)))

behind_attribute : (a b : Bool) (us vs : List Word90) → listed a us ≡ listed b vs → (a ≡ b) × (us ≡ vs)
behind_attribute true true us vs e = (refl, cc)
behind_attribute false false us vs e = (refl, cc)
behind_attribute true false us vs e = absurd (cc)
behind_attribute false true us vs e = absurd (cc)

pub declared : (ws us vs rest : List Word90) (k : Kind) (a : Bool) (made : List Entity) → ws ≡ typed k us → us ≡ listed a vs
    → BeginsWithList IsEntityOf (IsEntity90 a) written_entity90 vs made rest → rest ≡ [] → IsForm IsStatementOf is_declaration ws (statements.Declare k a made)
declared ws us vs rest k a made e q h n = record {
  form = forms.Declare k a h.part;
  is_of = (refl, refl, h.is_of);
  written = (e ∙ ap (typed k) (q ∙ ap (listed a) (h.same ∙ (ap (λ (z : List Word90). separated90 written_entity90 h.part ++ z) n ∙ append-nil (separated90 written_entity90 h.part)))), h.is_good);
  among = refl;
}

abbrev HasNoEntities : Bool → List Word90 → Type 0
HasNoEntities a vs = (es : List forms.EntityForm90) → IsList (IsEntity90 a) es → vs ≡ separated90 written_entity90 es → ⊥

no_entities : (ws us vs : List Word90) (k : Kind) (a : Bool) → ws ≡ typed k us → us ≡ listed a vs → HasNoEntities a vs
    → (f : Form90) → IsWritten90 f ws → IsTrue (is_declaration f) → ⊥
no_entities ws us vs k a e q o (forms.Declare l b es) w t =
    let f = behind_type k l us (listed b (separated90 written_entity90 es)) (sym e ∙ w.0) in
    let s = behind_attribute a b vs (separated90 written_entity90 es) (sym q ∙ f.1) in
    o es (subst (λ (c : Bool). IsList (IsEntity90 c) es) (sym s.0) w.1) s.1
no_entities ws us vs k a e q o f w t = cc

whole : (es : List forms.EntityForm90) (vs : List Word90) → vs ≡ separated90 written_entity90 es → vs ≡ separated90 written_entity90 es ++ []
whole es vs e = e ∙ sym (append-nil (separated90 written_entity90 es))

pub longer : (ws us vs rest : List Word90) (k : Kind) (a : Bool) (made : List Entity) → ws ≡ typed k us → us ≡ listed a vs
    → ((es : List forms.EntityForm90) (last : List Word90) → IsList (IsEntity90 a) es → EndsList last → vs ≡ separated90 written_entity90 es ++ last
    → AreOf IsEntityOf made es × (rest ≡ last)) → (rest ≡ [] → ⊥)
    → (f : Form90) → IsWritten90 f ws → IsTrue (is_declaration f) → ⊥
longer ws us vs rest k a made e q o n = no_entities ws us vs k a e q (λ es g h. n (o es [] g tt (whole es vs h)).1)

pub undeclared : (ws us vs : List Word90) (k : Kind) (a : Bool) (stop : Stop) → ws ≡ typed k us → us ≡ listed a vs
    → ((es : List forms.EntityForm90) (last : List Word90) → IsList (IsEntity90 a) es → EndsList last → vs ≡ separated90 written_entity90 es ++ last
    → Given (Err stop) (λ (r : List Entity × Bor (List Token)). AreOf IsEntityOf r.0 es × (words_of r.1.now ≡ last))) → ReadsStatement is_declaration ws (Err stop)
undeclared ws us vs k a Syntax e q o = no_entities ws us vs k a e q (λ es g h. o es [] g tt (whole es vs h))
undeclared ws us vs k a Memory e q o = tt

pub no_attribute : (ws us : List Word90) (k : Kind) → ws ≡ typed k us → ((a : Bool) (vs : List Word90) → us ≡ listed a vs → ⊥)
    → (f : Form90) → IsWritten90 f ws → IsTrue (is_declaration f) → ⊥
no_attribute ws us k e o (forms.Declare l b es) w t =
    o b (separated90 written_entity90 es) (behind_type k l us (listed b (separated90 written_entity90 es)) (sym e ∙ w.0)).1
no_attribute ws us k e o f w t = cc

pub no_type : (ws : List Word90) → ((k : Kind) (us : List Word90) → ws ≡ typed k us → ⊥)
    → (f : Form90) → IsWritten90 f ws → IsTrue (is_declaration f) → ⊥
no_type ws o (forms.Declare l b es) w t = o l (listed b (separated90 written_entity90 es)) w.0
no_type ws o f w t = cc

pub ruleset declarations = (declared, longer, undeclared, no_attribute, no_type)

pub no_allocatable : (ws us : List Word90) → ws ≡ words.Comma ∷ us → ((q : List Word90) → us ≡ words.Name (codes "ALLOCATABLE") ∷ q → ⊥)
    → (a : Bool) (rest : List Word90) → ws ≡ listed a rest → ⊥
no_allocatable ws us e o true rest h = o (words.Colons ∷ rest) (behind (words.Name (codes "ALLOCATABLE") ∷ (words.Colons ∷ rest)) (sym e ∙ h))
  where
    behind : (vs : List Word90) → words.Comma ∷ us ≡ words.Comma ∷ vs → us ≡ vs
    behind vs q = cc
no_allocatable ws us e o false rest h = other (sym e ∙ h)
  where
    other : words.Comma ∷ us ≡ words.Colons ∷ rest → ⊥
    other q = cc

pub ruleset attributes = (no_allocatable)
