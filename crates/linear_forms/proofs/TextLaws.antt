-- The parts of a text by the signs of their numbers.
use Rattle.std.proofs.Common.{◌≡◌, refl, sym, ap, ◌∙◌, subst, ℕ, zero, suc, ℤ, pos, negsuc, Option, Some, None, List, [], ◌∷◌, ◌≤ℤ◌, ◌<ℤ◌, arith}
use Rattle.std.proofs.Common.{Result, Ok, Err}
use Rattle.std.specs.Prelude.{unsigned_abs, IfOk, slice_get}
use Rattle.tree.specs.declared.exprs.Expr.{Expr}
use Rattle.tree.specs.declared.lists.Memory.{Memory}
use Rattle.linear_forms.specs.Texts.{with_place, with_symbols, places_behind}
use Rattle.linear_forms.specs.View.{text_so_far}
use Rattle.std.proofs.lemmas.Int.{ints}
use Rattle.std.proofs.Common.{map, length, ◌-◌}
use Rattle.tree.specs.Plain.{Expression, Number, Unary, Binary, Named, Reference, subscripts}
use Rattle.tree.specs.View.{expression_of, subscript_of}
use Rattle.tree.specs.declared.lists.Seq.{Seq}
use Rattle.tree.specs.declared.exprs.Expr.TheVariants as exprs
use Rattle.tree.specs.declared.exprs.Ref.{roll-Ref}
use Rattle.tree.specs.declared.exprs.Sub.{Sub as Part}
use Rattle.tree.proofs.Equations.{expression_of-item, reference_of-made}
use Rattle.tree.specs.declared.ops.Op.TheVariants.{Neg, Add, Sub}
use Rattle.linear_forms.specs.Expressed.{term, plus_term, minus_term, with_term, with_constant, variable}

pub term_zero : (o : Option Expression) (c : ℤ) (t : Expression) → c ≡ pos 0 → with_term o c t ≡ o
term_zero o c t h = ap (λ c. with_term o c t) h

pub term_plus : (o : Option Expression) (c : ℤ) (t : Expression) → pos 0 <ℤ c → with_term o c t ≡ Some (plus_term o (term (unsigned_abs c) t))
term_plus o (pos zero) t h = absurd (omega (arith, ints, h))
term_plus o (pos (suc n)) t h = refl
term_plus o (negsuc n) t h = absurd (omega (arith, ints, h))

pub term_minus : (o : Option Expression) (c : ℤ) (t : Expression) → (c ≡ pos 0 → ⊥) → c ≤ℤ pos 0 → with_term o c t ≡ Some (minus_term o (term (unsigned_abs c) t))
term_minus o (pos zero) t g h = absurd (g refl)
term_minus o (pos (suc n)) t g h = absurd (omega (arith, ints, h))
term_minus o (negsuc n) t g h = refl

pub ruleset term_laws = (term_zero, term_plus, term_minus)

pub constant_alone : (k : ℤ) → pos 0 ≤ℤ k → with_constant None k ≡ Number (pos (unsigned_abs k))
constant_alone (pos n) h = refl
constant_alone (negsuc n) h = absurd (omega (arith, ints, h))

pub constant_negative : (k : ℤ) → k <ℤ pos 0 → with_constant None k ≡ Unary Neg (Number (pos (unsigned_abs k)))
constant_negative (pos n) h = absurd (omega (arith, ints, h))
constant_negative (negsuc n) h = refl

pub constant_zero : (e : Expression) (k : ℤ) → k ≡ pos 0 → with_constant (Some e) k ≡ e
constant_zero e k h = ap (with_constant (Some e)) h

pub constant_plus : (e : Expression) (k : ℤ) → pos 0 <ℤ k → with_constant (Some e) k ≡ Binary Add e (Number (pos (unsigned_abs k)))
constant_plus e (pos zero) h = absurd (omega (arith, ints, h))
constant_plus e (pos (suc n)) h = refl
constant_plus e (negsuc n) h = absurd (omega (arith, ints, h))

pub constant_minus : (e : Expression) (k : ℤ) → (k ≡ pos 0 → ⊥) → k ≤ℤ pos 0 → with_constant (Some e) k ≡ Binary Sub e (Number (pos (unsigned_abs k)))
constant_minus e (pos zero) g h = absurd (g refl)
constant_minus e (pos (suc n)) g h = absurd (omega (arith, ints, h))
constant_minus e (negsuc n) g h = refl

pub ruleset constant_laws = (constant_alone, constant_negative, constant_zero, constant_plus, constant_minus)

pub bare_is : (x : List ℕ) (ss : Seq Part) → ss ≡ [] → expression_of (exprs.Item (roll-Ref (record { name = x; subs = ss }))) ≡ variable x
bare_is x ss e =
    expression_of-item (roll-Ref (record { name = x; subs = ss })) ∙ (ap (λ (t : Reference). Named t.name t.subscripts) (reference_of-made x ss)
    ∙ ap (λ (ss : List Part). Named x (subscripts (map subscript_of ss))) e)

pub symbols_more : (r : Result (Option Expr) Memory) (o p : Option Expression) (terms ts : List (ℕ × ℤ)) (t : ℕ × ℤ) (all : List Expression) → terms ≡ t ∷ ts
    → p ≡ with_place o t.1 (slice_get all t.0) → IfOk r (λ x. text_so_far x ≡ with_symbols p ts all) → IfOk r (λ x. text_so_far x ≡ with_symbols o terms all)
symbols_more (Ok x) o p terms ts t all e g h = h ∙ (ap (λ q. with_symbols q ts all) g ∙ sym (ap (λ l. with_symbols o l all) e))
symbols_more (Err m) o p terms ts t all e g h = h

pub placed : (r : Result (Option Expr) Memory) (x : Option Expr) (o : Option Expression) (c : ℤ) (n m : Option Expression) → r ≡ Ok x → n ≡ m → IfOk r (λ x. text_so_far x ≡ with_place o c n) → text_so_far x ≡ with_place o c m
placed r x o c n m e g h = subst (λ (r : Result (Option Expr) Memory). IfOk r (λ x. text_so_far x ≡ with_place o c n)) e h ∙ ap (with_place o c) g

-- ---- what stands for a place

pub named-place : (ns : List (List ℕ)) (ts : List Expression) (k : ℕ) (x : List ℕ) → slice_get ns k ≡ Some x → slice_get (places_behind ns ts) k ≡ Some (variable x)
named-place [] ts k x h = cc
named-place (n ∷ ns) ts zero x h = let same : n ≡ x = cc in ap (λ x. Some (variable x)) same
named-place (n ∷ ns) ts (suc k) x h = named-place ns ts k x h

pub trip-place : (ns : List (List ℕ)) (ts : List Expression) (k : ℕ) → slice_get ns k ≡ None → slice_get (places_behind ns ts) k ≡ slice_get ts (k - length ns)
trip-place [] ts k h = let same : k ≡ k - 0 = omega arith in ap (slice_get ts) same
trip-place (n ∷ ns) ts zero h = cc
trip-place (n ∷ ns) ts (suc k) h = let same : k - length ns ≡ suc k - suc (length ns) = omega arith in trip-place ns ts k h ∙ ap (slice_get ts) same

pub mapped-place : (ts : List Expr) (k : ℕ) → slice_get (map expression_of ts) k ≡ text_so_far (slice_get ts k)
mapped-place [] k = refl
mapped-place (t ∷ ts) zero = refl
mapped-place (t ∷ ts) (suc k) = mapped-place ts k

-- the place of a symbol, of a trip, or of neither
pub place_named : (ns : List (List ℕ)) (ts : List Expr) (k : ℕ) (x : List ℕ) (e : Expr) → slice_get ns k ≡ Some x → expression_of e ≡ variable x
    → text_so_far (Some e) ≡ slice_get (places_behind ns (map expression_of ts)) k
place_named ns ts k x e h g = ap Some g ∙ sym (named-place ns (map expression_of ts) k x h)

pub place_of_trip : (ns : List (List ℕ)) (ts : List Expr) (k : ℕ) (r : Result (Option Expr) Memory) → slice_get ns k ≡ None
    → IfOk r (λ o. text_so_far o ≡ text_so_far (slice_get ts (k - length ns))) → IfOk r (λ o. text_so_far o ≡ slice_get (places_behind ns (map expression_of ts)) k)
place_of_trip ns ts k (Ok o) h g = g ∙ (sym (mapped-place ts (k - length ns)) ∙ sym (trip-place ns (map expression_of ts) k h))
place_of_trip ns ts k (Err m) h g = g
