-- The loops of a pairing, looked at one after the other.
use Rattle.std.proofs.Common.{◌≡◌, ℕ, ◌+◌, ◌<◌, ◌≤◌, ◌⊎◌, true, false, cond, ◌&&◌, Bool, zero, suc, refl, ap, arith, sym, ◌∙◌, inl, inr, subst}
use Rattle.std.specs.Prelude.{ℤ, pos, negsuc}
use Rattle.std.proofs.lemmas.Bool.{cases_eq}
use Rattle.subscripts.specs.Classes.{Loop, Shared, First, Second, IsLoopOf, Matters, first_of, second_of}
use Rattle.subscripts.specs.Cuts.{is_zero}
use Rattle.subscripts.specs.Found.{HasFound, IsFoundAmong, IsTheOne, MattersSo, AreSeveral, one_more, with_loop}
use Rattle.subscripts.specs.declared.classes.Found.{Found}
use Rattle.subscripts.specs.declared.classes.Found.TheVariants.{Nothing, One, Several}
use Rattle.subscripts.specs.declared.pairing.Pairing.{Pairing}

abbrev pub place_of : Loop → ℕ
place_of (Shared k) = k
place_of (First k) = k
place_of (Second k) = k

-- T is S and the loop l of the pairing
pub record IsMore (p : Pairing) (S T : Loop → Type 0) (l : Loop) : Type 0 where
  pub loop : IsLoopOf p l
  pub fresh : S l → ⊥
  pub here : T l
  pub kept : (m : Loop) → S m → T m
  pub only : (m : Loop) → IsLoopOf p m → T m → S m ⊎ (m ≡ l)

pub zero_is : (z : ℤ) → is_zero z ≡ true → z ≡ pos 0
zero_is (pos zero) e = refl
zero_is (pos (suc n)) e = absurd (cc)
zero_is (negsuc n) e = absurd (cc)

pub is_zero-zero : (z : ℤ) → z ≡ pos 0 → is_zero z ≡ true
is_zero-zero z e = ap is_zero e

-- a loop without a coefficient changes nothing
idle : (p : Pairing) (S T : Loop → Type 0) (l : Loop) (f : Found) → IsMore p S T l → (Matters p l → ⊥) → IsFoundAmong p S f → IsFoundAmong p T f
idle p S T l Nothing h n g = λ m t k. elim (h.only m k.loop t) [ inl s ↦ g m s k | inr e ↦ n (subst (λ x. Matters p x) e k) ]
idle p S T l (One a b) h n g = (
  g.0,
  record {
    seen = h.kept g.0 g.1.seen;
    so = g.1.so;
    alone = λ m t k. elim (h.only m k.loop t) [ inl s ↦ g.1.alone m s k | inr e ↦ absurd (n (subst (λ x. Matters p x) e k)) ];
  },
)
idle p S T l Several h n g = g

-- the same loops of the pairing looked at
widened : (p : Pairing) (S T : Loop → Type 0) (f : Found) → ((m : Loop) → IsLoopOf p m → T m → S m) → ((m : Loop) → S m → T m) → IsFoundAmong p S f → IsFoundAmong p T f
widened p S T Nothing back forth g = λ m t k. g m (back m k.loop t) k
widened p S T (One a b) back forth g =
    (g.0, record { seen = forth g.0 g.1.seen; so = g.1.so; alone = λ m t k. g.1.alone m (back m k.loop t) k })
widened p S T Several back forth g = g

first_more : (p : Pairing) (S T : Loop → Type 0) (l : Loop) (a b : ℤ) → IsMore p S T l → MattersSo p l a b → IsFoundAmong p S Nothing → IsFoundAmong p T (One a b)
first_more p S T l a b h s g = (
  l,
  record {
    seen = h.here;
    so = s;
    alone = λ m t k. elim (h.only m k.loop t) [ inl u ↦ absurd (g m u k) | inr e ↦ e ];
  },
)

second_more : (p : Pairing) (S T : Loop → Type 0) (l : Loop) (a b c d : ℤ) → IsMore p S T l → MattersSo p l a b → IsFoundAmong p S (One c d) → IsFoundAmong p T Several
second_more p S T l a b c d h s g = (g.0, (l, record { first = g.1.so.matters; second = s.matters; differ = λ e. h.fresh (subst S e g.1.seen) }))

more : (p : Pairing) (S T : Loop → Type 0) (l : Loop) (f : Found) (a b : ℤ) → IsMore p S T l → MattersSo p l a b → IsFoundAmong p S f → IsFoundAmong p T (one_more f a b)
more p S T l Nothing a b h s g = first_more p S T l a b h s g
more p S T l (One c d) a b h s g = second_more p S T l a b c d h s g
more p S T l Several a b h s g = g

matters_so : (p : Pairing) (l : Loop) → IsLoopOf p l → (first_of p l ≡ pos 0 → second_of p l ≡ pos 0 → ⊥) → MattersSo p l (first_of p l) (second_of p l)
matters_so p l h n = record { matters = record { loop = h; some = n }; first = refl; second = refl }

by_tests : (p : Pairing) (S T : Loop → Type 0) (l : Loop) (f : Found) (x y : Bool) → is_zero (first_of p l) ≡ x → is_zero (second_of p l) ≡ y
    → IsMore p S T l → IsFoundAmong p S f → IsFoundAmong p T (cond (x && y) f (one_more f (first_of p l) (second_of p l)))
by_tests p S T l f true true d e h g = idle p S T l f h (λ m. m.some (zero_is (first_of p l) d) (zero_is (second_of p l) e)) g
by_tests p S T l f true false d e h g = more p S T l f (first_of p l) (second_of p l) h (matters_so p l h.loop (λ u v. let w = is_zero-zero (second_of p l) v in cc)) g
by_tests p S T l f false y d e h g = more p S T l f (first_of p l) (second_of p l) h (matters_so p l h.loop (λ u v. let w = is_zero-zero (first_of p l) u in cc)) g

-- one more loop looked at
pub looked_at : (p : Pairing) (S T : Loop → Type 0) (l : Loop) (f : Found) → IsMore p S T l → IsFoundAmong p S f → IsFoundAmong p T (with_loop f (first_of p l) (second_of p l))
looked_at p S T l f h g = by_tests p S T l f (is_zero (first_of p l)) (is_zero (second_of p l)) refl refl h g

-- ---- place by place

-- the loops in the places before k
abbrev pub IsBefore : ℕ → Loop → Type 0
IsBefore k l = place_of l < k

-- those, and the first reference's own loop at k
abbrev pub IsBeforeSecond : ℕ → Loop → Type 0
IsBeforeSecond k l = IsBefore k l ⊎ (l ≡ First k)

pub shared_next : (p : Pairing) (k : ℕ) → k < p.common → IsMore p (IsBefore k) (IsBefore (k + 1)) (Shared k)
shared_next p k l = record {
  loop = l;
  fresh = λ h. omega arith;
  here = omega arith;
  kept = λ m h. omega arith;
  only = λ m h t. elim m as (λ x. IsLoopOf p x → IsBefore (k + 1) x → IsBefore k x ⊎ (x ≡ Shared k)) [
    | Shared j ↦ λ a b. elim (cases_eq j k) [ inl e ↦ inr (ap (λ i. Shared i) e) | inr n ↦ inl (omega arith) ]
    | First j ↦ λ a b. inl (omega arith)
    | Second j ↦ λ a b. inl (omega arith)
  ] h t;
}

pub first_next : (p : Pairing) (k : ℕ) → p.common ≤ k → k < 7 → IsMore p (IsBefore k) (IsBeforeSecond k) (First k)
first_next p k l m = record {
  loop = (l, m);
  fresh = λ h. omega arith;
  here = inr refl;
  kept = λ m h. inl h;
  only = λ m h t. t;
}

pub second_next : (p : Pairing) (k : ℕ) → p.common ≤ k → k < 7 → IsMore p (IsBeforeSecond k) (IsBefore (k + 1)) (Second k)
second_next p k l m = record {
  loop = (l, m);
  fresh = λ h. elim h [ inl a ↦ omega arith | inr e ↦ cc ];
  here = omega arith;
  kept = λ m h. elim h [ inl a ↦ omega arith | inr e ↦ rw e (omega arith) ];
  only = λ m h t. elim m as (λ x. IsLoopOf p x → IsBefore (k + 1) x → IsBeforeSecond k x ⊎ (x ≡ Second k)) [
    | Shared j ↦ λ a b. inl (inl (omega arith))
    | First j ↦ λ a b. elim (cases_eq j k) [ inl e ↦ inl (inr (ap (λ i. First i) e)) | inr n ↦ inl (inl (omega arith)) ]
    | Second j ↦ λ a b. elim (cases_eq j k) [ inl e ↦ inr (ap (λ i. Second i) e) | inr n ↦ inl (inl (omega arith)) ]
  ] h t;
}

pub shared_loop : (p : Pairing) (k : ℕ) (f : Found) → k < p.common → IsFoundAmong p (IsBefore k) f → IsFoundAmong p (IsBefore (k + 1)) (with_loop f (first_of p (Shared k)) (second_of p (Shared k)))
shared_loop p k f l g = looked_at p (IsBefore k) (IsBefore (k + 1)) (Shared k) f (shared_next p k l) g

pub own_loops : (p : Pairing) (k : ℕ) (f : Found) → p.common ≤ k → k < 7 → IsFoundAmong p (IsBefore k) f
    → IsFoundAmong p (IsBefore (k + 1)) (with_loop (with_loop f (first_of p (First k)) (pos 0)) (pos 0) (second_of p (Second k)))
own_loops p k f l m g =
    looked_at p (IsBeforeSecond k) (IsBefore (k + 1)) (Second k) (with_loop f (first_of p (First k)) (pos 0)) (second_next p k l m)
    (looked_at p (IsBefore k) (IsBeforeSecond k) (First k) f (first_next p k l m) g)

-- all loops have been looked at
pub all_seen : (p : Pairing) (n : ℕ) (f : Found) → p.common ≤ n → 7 ≤ n → IsFoundAmong p (IsBefore n) f → HasFound p f
all_seen p n f l m g = widened p (IsBefore n) (λ x. Unit {0}) f (λ x h t. elim x as (λ y. IsLoopOf p y → IsBefore n y) [ Shared j ↦ λ a. omega arith | First j ↦ λ a. omega arith | Second j ↦ λ a. omega arith ] h) (λ x t. tt) g
