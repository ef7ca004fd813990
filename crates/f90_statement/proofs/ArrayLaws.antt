-- WHERE, ALLOCATE and DEALLOCATE.
use Rattle.std.proofs.Common.{◌≡◌, ℕ, List, [], ◌∷◌, ◌++◌, ap, refl, sym, ◌∙◌, Err, codes}
use Rattle.std.specs.Borrow.{Bor}
use Rattle.std.specs.Prelude.{IsTrue}
use Rattle.f90_grammar.specs.Forms as forms
use Rattle.f90_grammar.specs.Forms.{Form90, IsWritten90, separated90, written_extent}
use Rattle.reading.specs.Characters.{IsList}
use Rattle.f90_grammar.specs.Phrases.{Phrase90, IsExpression90, written90}
use Rattle.f90_grammar.specs.Words as words
use Rattle.f90_grammar.specs.Words.{Word90}
use Rattle.f90_expressions.specs.words.Tokens.{words_of}
use Rattle.f90_expressions.specs.declared.words.tokens.Token.{Token}
use Rattle.reading.specs.declared.stops.Stop.{Stop}
use Rattle.reading.specs.declared.stops.Stop.TheVariants.{Syntax, Memory}
use Rattle.f90_expressions.specs.Reading.{IsMadeOf}
use Rattle.f90_expressions.specs.declared.nodes.Expression.{Expression}
use Rattle.f90_statement.specs.Fronts.{begun_allocate}
use Rattle.f90_statement.specs.Kinds.{is_where, is_allocate, is_deallocate}
use Rattle.f90_statement.specs.Reading.{IsForm, ReadsStatement, BeginsWithCondition, BeginsWithList, HasSides, AreSides, ReadsSides, EndsList, Given, closed}
use Rattle.f90_statement.specs.Views.{AreOf, IsStatementOf}
use Rattle.f90_statement.specs.declared.nodes.Statement.TheVariants as statements
use Rattle.f90_statement.proofs.BlockLaws.{FailsCondition, IsOnlyCondition}

-- ---- WHERE

abbrev masked : List Word90 → List Word90
masked us = words.Head (codes "WHERE") ∷ us

abbrev sides_of : Phrase90 → Phrase90 → List Word90
sides_of l r = written90 l ++ words.Equals ∷ written90 r

pub where_is : (ws us vs : List Word90) (m l r : Expression) → ws ≡ masked us → BeginsWithCondition us m vs → HasSides vs (l, r)
    → IsForm IsStatementOf is_where ws (statements.Where m l r)
where_is ws us vs m l r e h k = record {
  form = forms.Where h.phrase k.left k.right;
  is_of = (h.is, k.is_left, k.is_right);
  written = (e ∙ ap masked (h.same ∙ ap (closed h.phrase) k.are.same), h.good, k.are.reference, k.are.left, k.are.right);
  among = refl;
}

behind_where : (us vs : List Word90) → masked us ≡ masked vs → us ≡ vs
behind_where us vs e = cc

no_sides : (ws us vs : List Word90) (m : Expression) → ws ≡ masked us → IsOnlyCondition us m vs → ((l r : Phrase90) → AreSides vs l r → ⊥)
    → (f : Form90) → IsWritten90 f ws → IsTrue (is_where f) → ⊥
no_sides ws us vs m e o n (forms.Where p l r) w t =
    let k = o p (sides_of l r) w.1 (behind_where us (closed p (sides_of l r)) (sym e ∙ w.0)) in
    n l r (record { same = k.1; reference = w.2; left = w.3; right = w.4 })
no_sides ws us vs m e o n f w t = cc

pub sides_lost : (ws us vs : List Word90) (m : Expression) (stop : Stop) → ws ≡ masked us → IsOnlyCondition us m vs → ReadsSides vs (Err stop)
    → ReadsStatement is_where ws (Err stop)
sides_lost ws us vs m Syntax e o n = no_sides ws us vs m e o n
sides_lost ws us vs m Memory e o n = tt

no_mask : (ws us : List Word90) → ws ≡ masked us → ((p : Phrase90) (last : List Word90) → IsExpression90 p → us ≡ closed p last → ⊥)
    → (f : Form90) → IsWritten90 f ws → IsTrue (is_where f) → ⊥
no_mask ws us e o (forms.Where p l r) w t = o p (sides_of l r) w.1 (behind_where us (closed p (sides_of l r)) (sym e ∙ w.0))
no_mask ws us e o f w t = cc

pub mask_lost : (ws us : List Word90) (stop : Stop) → ws ≡ masked us → FailsCondition stop us → ReadsStatement is_where ws (Err stop)
mask_lost ws us Syntax e o = no_mask ws us e o
mask_lost ws us Memory e o = tt

pub no_where : (ws : List Word90) → ((us : List Word90) → ws ≡ masked us → ⊥) → (f : Form90) → IsWritten90 f ws → IsTrue (is_where f) → ⊥
no_where ws o (forms.Where p l r) w t = o (closed p (sides_of l r)) w.0
no_where ws o f w t = cc

pub ruleset wheres = (where_is, sides_lost, mask_lost, no_where)

-- ---- ALLOCATE

abbrev ending : List Word90
ending = words.Close ∷ (words.Close ∷ [])

abbrev Extents : List Word90 → List Expression → List Word90 → Type 0
Extents us made rest = BeginsWithList IsMadeOf IsExpression90 written_extent us made rest

abbrev IsOnlyExtents : List Word90 → List Expression → List Word90 → Type 0
IsOnlyExtents us made rest = (ps : List Phrase90) (last : List Word90) → IsList IsExpression90 ps → EndsList last → us ≡ separated90 written_extent ps ++ last
    → AreOf IsMadeOf made ps × (rest ≡ last)

pub allocate_is : (ws us rest : List Word90) (x : List ℕ) (made : List Expression) → ws ≡ begun_allocate x us → Extents us made rest → rest ≡ ending
    → IsForm IsStatementOf is_allocate ws (statements.Allocate x made)
allocate_is ws us rest x made e h n =
    record {
      form = forms.Allocate x h.part;
      is_of = (refl, h.is_of);
      written = (e ∙ ap (begun_allocate x) (h.same ∙ ap (λ (z : List Word90). separated90 written_extent h.part ++ z) n), h.is_good);
      among = refl;
    }

behind_allocate : (x y : List ℕ) (us vs : List Word90) → begun_allocate x us ≡ begun_allocate y vs → us ≡ vs
behind_allocate x y us vs e = cc

no_extents : (ws us : List Word90) (x : List ℕ) → ws ≡ begun_allocate x us
    → ((ps : List Phrase90) → IsList IsExpression90 ps → us ≡ separated90 written_extent ps ++ ending → ⊥)
    → (f : Form90) → IsWritten90 f ws → IsTrue (is_allocate f) → ⊥
no_extents ws us x e o (forms.Allocate y ps) w t = o ps w.1 (behind_allocate x y us (separated90 written_extent ps ++ ending) (sym e ∙ w.0))
no_extents ws us x e o f w t = cc

pub unended : (ws us rest : List Word90) (x : List ℕ) (made : List Expression) → ws ≡ begun_allocate x us → IsOnlyExtents us made rest → (rest ≡ ending → ⊥)
    → (f : Form90) → IsWritten90 f ws → IsTrue (is_allocate f) → ⊥
unended ws us rest x made e o n = no_extents ws us x e (λ ps g h. n (o ps ending g tt h).1)

pub extents_lost : (ws us : List Word90) (x : List ℕ) (stop : Stop) → ws ≡ begun_allocate x us
    → ((ps : List Phrase90) (last : List Word90) → IsList IsExpression90 ps → EndsList last → us ≡ separated90 written_extent ps ++ last
    → Given (Err stop) (λ (r : List Expression × Bor (List Token)). AreOf IsMadeOf r.0 ps × (words_of r.1.now ≡ last)))
    → ReadsStatement is_allocate ws (Err stop)
extents_lost ws us x Syntax e o = no_extents ws us x e (λ ps g h. o ps ending g tt h)
extents_lost ws us x Memory e o = tt

pub no_allocate : (ws : List Word90) → ((x : List ℕ) (us : List Word90) → ws ≡ begun_allocate x us → ⊥) → (f : Form90) → IsWritten90 f ws → IsTrue (is_allocate f) → ⊥
no_allocate ws o (forms.Allocate x ps) w t = o x (separated90 written_extent ps ++ ending) w.0
no_allocate ws o f w t = cc

pub ruleset allocations = (allocate_is, unended, extents_lost, no_allocate)

-- ---- DEALLOCATE

abbrev freed : List Word90 → List Word90
freed us = words.Head (codes "DEALLOCATE") ∷ us

pub deallocate_is : (ws us : List Word90) (x : List ℕ) → ws ≡ freed us → us ≡ words.Name x ∷ (words.Close ∷ [])
    → IsForm IsStatementOf is_deallocate ws (statements.Deallocate x)
deallocate_is ws us x e h = record { form = forms.Deallocate x; is_of = refl; written = e ∙ ap freed h; among = refl }

behind_deallocate : (us vs : List Word90) → freed us ≡ freed vs → us ≡ vs
behind_deallocate us vs e = cc

pub no_freed : (ws us : List Word90) → ws ≡ freed us → ((x : List ℕ) → us ≡ words.Name x ∷ (words.Close ∷ []) → ⊥)
    → (f : Form90) → IsWritten90 f ws → IsTrue (is_deallocate f) → ⊥
no_freed ws us e o (forms.Deallocate x) w t = o x (behind_deallocate us (words.Name x ∷ (words.Close ∷ [])) (sym e ∙ w))
no_freed ws us e o f w t = cc

pub no_deallocate : (ws : List Word90) → ((us : List Word90) → ws ≡ freed us → ⊥) → (f : Form90) → IsWritten90 f ws → IsTrue (is_deallocate f) → ⊥
no_deallocate ws o (forms.Deallocate x) w t = o (words.Name x ∷ (words.Close ∷ [])) w
no_deallocate ws o f w t = cc

pub ruleset deallocations = (deallocate_is, no_freed, no_deallocate)
