-- No words are those of two forms.
use Rattle.std.proofs.Common.{◌≡◌, ℕ, Bool, true, false, List, [], ◌∷◌, ◌++◌, refl, sym, ap, subst, ◌∙◌, Option, Some, None}
use mathlib.Core.Path.{ap₂}
use Rattle.tree.specs.declared.ops.Kind.{Kind}
use Rattle.f90_grammar.specs.Words.{Word90}
use Rattle.f90_grammar.specs.Words as words
use Rattle.f90_grammar.specs.Phrases.{Phrase90, IsExpression90, written90}
use Rattle.f90_grammar.specs.Items.{Input, Output, written_bounds90}
use Rattle.f90_grammar.specs.Forms.{Form90, Declare, Assign, Where, Test, If, ElseIf, Do, Go, Read, Print, Allocate, Deallocate, EndProgram, IsInner90, IsWritten90, IsEntity90, EntityForm90, attribute, separated90, written_entity90, written_extent, IsNamed}
use Rattle.reading.specs.Characters.{IsList}
use Rattle.f90_laws.specs.unique.Unique.{OneForm}
use Rattle.f90_laws.proofs.unique.Phrase.{one_phrase}
use Rattle.f90_laws.proofs.unique.Lists.{EndsItem, ends_expression, list_once}
use Rattle.f90_laws.proofs.unique.Items.{one_items, bounds_once}
use Rattle.f90_laws.proofs.unique.Declarations.{entities_once}
use Rattle.f90_laws.proofs.unique.Classes.{Class, Titled, Untyped, Declared, Assigned, Masked, Tested, BeginsIf, BeginsElseIf, BeginsElse, EndsIf, BeginsDo, EndsDo, Continued, Goes, Stopped, ReadsItems, ReadsNothing, PrintsItems, PrintsNothing, Allocates, Deallocates, Ends, EndsProgram, Unknown, class_of}
use Rattle.f90_laws.proofs.unique.Told.{Told, told, then_word}

whole : (p q : Phrase90) → IsExpression90 p → IsExpression90 q → written90 p ≡ written90 q → p ≡ q
whole p q h k e = (one_phrase p q [] [] h k tt tt (ap (λ (ws : List Word90). ws ++ []) e)).0

conditions_once : (p q : Phrase90) (r s : List Word90) → IsExpression90 p → IsExpression90 q
    → written90 p ++ words.Close ∷ r ≡ written90 q ++ words.Close ∷ s → (p ≡ q) × (r ≡ s)
conditions_once p q r s h k e =
    let o = one_phrase p q (words.Close ∷ r) (words.Close ∷ s) h k tt tt e in
    (o.0, cc o.1)

assignments_once : (l r m q : Phrase90) → IsExpression90 l → IsExpression90 r → IsExpression90 m → IsExpression90 q
    → written90 l ++ words.Equals ∷ written90 r ≡ written90 m ++ words.Equals ∷ written90 q → (l ≡ m) × (r ≡ q)
assignments_once l r m q hl hr km kq e =
    let o = one_phrase l m (words.Equals ∷ written90 r) (words.Equals ∷ written90 q) hl km tt tt e in
    (o.0, whole r q hr kq (cc o.1))

declarations_once : (k : Kind) (a b : Bool) (es fs : List EntityForm90) → IsList (IsEntity90 a) es → IsList (IsEntity90 b) fs
    → attribute a ++ words.Colons ∷ separated90 written_entity90 es ≡ attribute b ++ words.Colons ∷ separated90 written_entity90 fs
    → Declare k a es ≡ Declare k b fs
declarations_once k true true es fs h g e = ap (λ (x : List EntityForm90). Declare k true x) (entities_once true es fs h g (cc e))
declarations_once k false false es fs h g e = ap (λ (x : List EntityForm90). Declare k false x) (entities_once false es fs h g (cc e))
declarations_once k true false es fs h g e = absurd (cc)
declarations_once k false true es fs h g e = absurd (cc)

extent_once : (p q : Phrase90) (r s : List Word90) → IsExpression90 p → IsExpression90 q → EndsItem r → EndsItem s
    → written_extent p ++ r ≡ written_extent q ++ s → (p ≡ q) × (r ≡ s)
extent_once p q r s h k a b e = one_phrase p q r s h k (ends_expression r a) (ends_expression s b) (cc e)

extents_once : (es fs : List Phrase90) → IsList IsExpression90 es → IsList IsExpression90 fs
    → separated90 written_extent es ++ words.Close ∷ (words.Close ∷ []) ≡ separated90 written_extent fs ++ words.Close ∷ (words.Close ∷ []) → es ≡ fs
extents_once es fs h k e =
    (list_once written_extent IsExpression90 es fs (words.Close ∷ (words.Close ∷ [])) (words.Close ∷ (words.Close ∷ []))
    (λ p g q r s m i j z. extent_once p q r s g m i j z) h k tt tt (λ p m g i z. cc) (λ p m g i z. cc) e).0

names_once : (x y : Option (List ℕ)) → IsNamed x ≡ IsNamed y → x ≡ y
names_once None None e = refl
names_once None (Some y) e = absurd (cc)
names_once (Some x) None e = absurd (cc)
names_once (Some x) (Some y) e = cc

-- ---- statements behind IF (..) come first

abbrev OneInner : Type 0
OneInner = (f g : Form90) (ws : List Word90) → IsInner90 f → IsInner90 g → IsWritten90 f ws → IsWritten90 g ws → f ≡ g

abbrev Spare : Class → Type 0
Spare (Tested ws) = OneInner
Spare c = Unit {0}

inner_spare : (c : Class) (f : Form90) → IsInner90 f → Told c f → Spare c
inner_spare (Tested ws) f i t = absurd (subst (λ (x : Form90). IsInner90 x) t.3 i)
inner_spare c f i t = tt

tests_once : (ws : List Word90) (f g : Form90) → OneInner → Told (Tested ws) f → Told (Tested ws) g → f ≡ g
tests_once ws f g o h k =
    let t = conditions_once h.0 k.0 h.2 k.2 h.5 k.5 (sym h.4 ∙ k.4) in
    let w : IsWritten90 k.1 h.2 = subst (λ (vs : List Word90). IsWritten90 k.1 vs) (sym t.1) k.6 in
    h.3 ∙ (ap₂ (λ (p : Phrase90) (i : Form90). Test p i) t.0 (o h.1 k.1 h.2 h.7 k.7 h.6 w) ∙ sym k.3)

wheres_once : (ws : List Word90) (f g : Form90) → Told (Masked ws) f → Told (Masked ws) g → f ≡ g
wheres_once ws f g h k =
    let t = conditions_once h.0 k.0 (written90 h.1 ++ words.Equals ∷ written90 h.2) (written90 k.1 ++ words.Equals ∷ written90 k.2) h.5 k.5 (sym h.4 ∙ k.4) in
    let u = assignments_once h.1 h.2 k.1 k.2 h.6 h.7 k.6 k.7 t.1 in
    h.3 ∙ (same h.0 k.0 h.1 k.1 h.2 k.2 t.0 u.0 u.1 ∙ sym k.3)
  where
    same : (m n l p r q : Phrase90) → m ≡ n → l ≡ p → r ≡ q → Where m l r ≡ Where n p q
    same m n l p r q a b c = cc

loops_once : (ws : List Word90) (f g : Form90) → Told (BeginsDo ws) f → Told (BeginsDo ws) g → f ≡ g
loops_once ws f g h k =
    let e = sym h.5 ∙ k.5 in
    let v : written_bounds90 h.1 h.2 h.3 ≡ written_bounds90 k.1 k.2 k.3 = cc e in
    let w : written_bounds90 h.1 h.2 h.3 ++ [] ≡ written_bounds90 k.1 k.2 k.3 ++ [] = ap (λ (us : List Word90). us ++ []) v in
    let t = bounds_once h.1 h.2 k.1 k.2 h.3 k.3 [] [] h.6 h.7 h.8 k.6 k.7 k.8 tt tt w in
    h.4 ∙ (same h.0 k.0 h.1 k.1 h.2 k.2 h.3 k.3 (cc e) t.lower t.upper t.stride ∙ sym k.4)
  where
    same : (x y : List ℕ) (a b c d : Phrase90) (m n : Option Phrase90) → x ≡ y → a ≡ b → c ≡ d → m ≡ n → Do x a c m ≡ Do y b d n
    same x y a b c d m n p q r s = cc

once : (c : Class) (f g : Form90) → Spare c → Told c f → Told c g → f ≡ g
once (Titled x) f g o h k = h ∙ sym k
once Untyped f g o h k = h ∙ sym k
once (Declared c ws) f g o h k = h.2 ∙ (declarations_once c h.0 k.0 h.1 k.1 h.4 k.4 (sym h.3 ∙ k.3) ∙ sym k.2)
once (Assigned ws) f g o h k =
    let t = assignments_once h.0 h.1 k.0 k.1 h.4 h.5 k.4 k.5 (sym h.3 ∙ k.3) in
    h.2 ∙ (ap₂ (λ (l r : Phrase90). Assign l r) t.0 t.1 ∙ sym k.2)
once (Masked ws) f g o h k = wheres_once ws f g h k
once (Tested ws) f g o h k = tests_once ws f g o h k
once (BeginsIf ws) f g o h k = h.1 ∙ (ap If (conditions_once h.0 k.0 then_word then_word h.3 k.3 (sym h.2 ∙ k.2)).0 ∙ sym k.1)
once (BeginsElseIf ws) f g o h k = h.1 ∙ (ap ElseIf (conditions_once h.0 k.0 then_word then_word h.3 k.3 (sym h.2 ∙ k.2)).0 ∙ sym k.1)
once BeginsElse f g o h k = h ∙ sym k
once EndsIf f g o h k = h ∙ sym k
once (BeginsDo ws) f g o h k = loops_once ws f g h k
once EndsDo f g o h k = h ∙ sym k
once (Continued x) f g o h k = h ∙ sym k
once (Goes ws) f g o h k =
    let e = sym h.2 ∙ k.2 in
    let v : h.0 ≡ k.0 = cc e in
    h.1 ∙ (ap Go v ∙ sym k.1)
once Stopped f g o h k = h ∙ sym k
once (ReadsItems ws) f g o h k = h.1 ∙ (ap Read (one_items Input Input h.0 k.0 h.3 k.3 (sym h.2 ∙ k.2)) ∙ sym k.1)
once ReadsNothing f g o h k = h ∙ sym k
once (PrintsItems ws) f g o h k = h.1 ∙ (ap Print (one_items Output Output h.0 k.0 h.3 k.3 (sym h.2 ∙ k.2)) ∙ sym k.1)
once PrintsNothing f g o h k = h ∙ sym k
once (Allocates ws) f g o h k =
    let e = sym h.3 ∙ k.3 in
    let v : h.0 ≡ k.0 = cc e in
    h.2 ∙ (ap₂ (λ (x : List ℕ) (es : List Phrase90). Allocate x es) v (extents_once h.1 k.1 h.4 k.4 (cc e)) ∙ sym k.2)
once (Deallocates ws) f g o h k =
    let e = sym h.2 ∙ k.2 in
    let v : h.0 ≡ k.0 = cc e in
    h.1 ∙ (ap Deallocate v ∙ sym k.1)
once Ends f g o h k = h ∙ sym k
once (EndsProgram ws) f g o h k = h.1 ∙ (ap EndProgram (names_once h.0 k.0 (sym h.2 ∙ k.2)) ∙ sym k.1)
once Unknown f g o h k = absurd h

one_inner : OneInner
one_inner f g ws i j h k = once (class_of ws) f g (inner_spare (class_of ws) f i (told f ws h)) (told f ws h) (told g ws k)

spared : (c : Class) → Spare c
spared (Tested ws) = one_inner
spared c = tt

pub one_form : OneForm
one_form f g ws h k = once (class_of ws) f g (spared (class_of ws)) (told f ws h) (told g ws k)
