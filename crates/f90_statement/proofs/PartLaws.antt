-- Conditions, the sides of assignments, extents.
use Rattle.std.proofs.Common.{◌≡◌, Bool, true, false, List, [], ◌∷◌, ◌++◌, ap, sym, ◌∙◌, append-nil, Err, codes}
use Rattle.std.specs.Prelude.{IsTrue, ◌↔◌}
use Rattle.f90_grammar.specs.Forms.{written_extent}
use Rattle.f90_grammar.specs.Items.{IsReference90}
use Rattle.f90_grammar.specs.Phrases.{Phrase90, IsExpression90, written90}
use Rattle.f90_grammar.specs.Words as words
use Rattle.f90_grammar.specs.Words.{Word90}
use Rattle.f90_laws.specs.unique.Unique.{EndsExpression}
use Rattle.reading.specs.declared.stops.Stop.{Stop}
use Rattle.reading.specs.declared.stops.Stop.TheVariants.{Syntax, Memory}
use Rattle.f90_expressions.specs.Reading as reading
use Rattle.f90_expressions.specs.Reading.{IsMadeOf, Gives}
use Rattle.f90_expressions.specs.declared.nodes.Expression.{Expression}
use Rattle.f90_statement.specs.Reading.{Begins, BeginsWithCondition, EndsItem, IsThe, Given, AreSides, HasSides, ReadsSides, HasRight, ReadsRight, closed}

abbrev pub IsOnlyExpression : List Word90 → Expression → List Word90 → Type 0
IsOnlyExpression ws e rest = (p : Phrase90) (last : List Word90) → IsExpression90 p → EndsExpression last → ws ≡ written90 p ++ last → IsMadeOf e p × (rest ≡ last)

abbrev pub FailsAt : Stop → List Word90 → Type 0
FailsAt stop ws = (p : Phrase90) (last : List Word90) → IsExpression90 p → EndsExpression last → ws ≡ written90 p ++ last → Gives (Err stop) p last

-- ---- conditions

pub condition_found : (ws us rest : List Word90) (e : Expression) → reading.Begins ws e us → us ≡ words.Close ∷ rest → BeginsWithCondition ws e rest
condition_found ws us rest e h c = record { phrase = h.phrase; is = h.is; good = h.good; same = h.same ∙ ap (λ (q : List Word90). written90 h.phrase ++ q) c }

behind_close : (us vs : List Word90) → words.Close ∷ us ≡ words.Close ∷ vs → us ≡ vs
behind_close us vs e = cc

pub condition_only : (ws us rest : List Word90) (e : Expression) → IsOnlyExpression ws e us → us ≡ words.Close ∷ rest
    → (p : Phrase90) (last : List Word90) → IsExpression90 p → ws ≡ closed p last → IsMadeOf e p × (rest ≡ last)
condition_only ws us rest e o c p last g h =
    let f = o p (words.Close ∷ last) g tt h in
    (f.0, behind_close rest last (sym c ∙ f.1))

pub condition_open : (ws us : List Word90) (e : Expression) → IsOnlyExpression ws e us → ((q : List Word90) → us ≡ words.Close ∷ q → ⊥)
    → (p : Phrase90) (last : List Word90) → IsExpression90 p → ws ≡ closed p last → ⊥
condition_open ws us e o n p last g h = n last (o p (words.Close ∷ last) g tt h).1

pub condition_err : {A : Type 0} (P : A → Type 0) (ws : List Word90) (stop : Stop) → FailsAt stop ws
    → (p : Phrase90) (last : List Word90) → IsExpression90 p → ws ≡ closed p last → Given (Err stop) P
condition_err P ws Syntax o p last g h = o p (words.Close ∷ last) g tt h
condition_err P ws Memory o p last g h = tt

pub ruleset conditions = (condition_found, condition_only, condition_open, condition_err)

-- ---- the sides of an assignment

whole : (p : Phrase90) (ws us : List Word90) → ws ≡ words.Equals ∷ us → ws ≡ words.Equals ∷ written90 p → us ≡ written90 p ++ []
whole p ws us e f = let k : words.Equals ∷ us ≡ words.Equals ∷ written90 p = sym e ∙ f in let m : us ≡ written90 p = cc in m ∙ sym (append-nil (written90 p))

pub right_found : (ws us rest : List Word90) (e : Expression) → ws ≡ words.Equals ∷ us → reading.Begins us e rest → rest ≡ [] → HasRight ws e
right_found ws us rest e q h n = record {
  right = h.phrase;
  good = h.good;
  is = h.is;
  same = q ∙ ap (λ (v : List Word90). words.Equals ∷ v) (h.same ∙ (ap (λ (v : List Word90). written90 h.phrase ++ v) n ∙ append-nil (written90 h.phrase)));
}

pub right_longer : (ws us rest : List Word90) (e : Expression) → ws ≡ words.Equals ∷ us → IsOnlyExpression us e rest → (rest ≡ [] → ⊥)
    → (r : Phrase90) → IsExpression90 r → ws ≡ words.Equals ∷ written90 r → ⊥
right_longer ws us rest e q o n r g h = n (o r [] g tt (whole r ws us q h)).1

pub right_err : (ws us : List Word90) (stop : Stop) → ws ≡ words.Equals ∷ us → FailsAt stop us → ReadsRight ws (Err stop)
right_err ws us Syntax q o = λ r g h. o r [] g tt (whole r ws us q h)
right_err ws us Memory q o = tt

pub no_right : (ws : List Word90) → ((q : List Word90) → ws ≡ words.Equals ∷ q → ⊥) → (r : Phrase90) → IsExpression90 r → ws ≡ words.Equals ∷ written90 r → ⊥
no_right ws n r g h = n (written90 r) h

pub ruleset rights = (right_found, right_longer, right_err, no_right)

abbrev TellsReference : Bool → Expression → Type 0
TellsReference b e = (p : Phrase90) → IsMadeOf e p → IsTrue b ↔ IsReference90 p

clash : (b : Bool) → b ≡ true → b ≡ false → ⊥
clash b h k = cc

pub sides_found : (ws us : List Word90) (l r : Expression) (b : Bool) → reading.Begins ws l us → TellsReference b l → b ≡ true → HasRight us r → HasSides ws (l, r)
sides_found ws us l r b h t e k = record {
  left = h.phrase;
  right = k.right;
  are = record {
    same = h.same ∙ ap (λ (q : List Word90). written90 h.phrase ++ q) k.same;
    reference = (t h.phrase h.is).0 e;
    left = h.good;
    right = k.good;
  };
  is_left = h.is;
  is_right = k.is;
}

pub sides_unfit : (ws us : List Word90) (e : Expression) (b : Bool) → IsOnlyExpression ws e us → TellsReference b e → b ≡ false → (l r : Phrase90) → AreSides ws l r → ⊥
sides_unfit ws us e b o t k l r s =
    clash b ((t l (o l (words.Equals ∷ written90 r) s.left tt s.same).0).1 s.reference) k

pub sides_err : (ws us : List Word90) (e : Expression) (stop : Stop) → IsOnlyExpression ws e us → ReadsRight us (Err stop) → ReadsSides ws (Err stop)
sides_err ws us e Syntax o h = λ l r s. h r s.right (o l (words.Equals ∷ written90 r) s.left tt s.same).1
sides_err ws us e Memory o h = tt

pub sides_lost : (ws : List Word90) (stop : Stop) → FailsAt stop ws → ReadsSides ws (Err stop)
sides_lost ws Syntax o = λ l r s. o l (words.Equals ∷ written90 r) s.left tt s.same
sides_lost ws Memory o = tt

pub ruleset sides = (sides_found, sides_unfit, sides_err, sides_lost)

-- ---- extents

ends : (last : List Word90) → EndsItem last → EndsExpression last
ends [] h = tt
ends (words.Operator o ∷ ws) h = absurd h
ends (w ∷ ws) h = tt

behind_one : (us vs : List Word90) → words.Digits (codes "1") ∷ (words.Colon ∷ us) ≡ words.Digits (codes "1") ∷ (words.Colon ∷ vs) → us ≡ vs
behind_one us vs e = cc

pub extent_found : (ws us rest : List Word90) (e : Expression) → ws ≡ words.Digits (codes "1") ∷ (words.Colon ∷ us) → reading.Begins us e rest
    → Begins IsMadeOf IsExpression90 written_extent ws e rest
extent_found ws us rest e q h = record {
  part = h.phrase;
  is_of = h.is;
  is_good = h.good;
  same = q ∙ ap (λ (v : List Word90). words.Digits (codes "1") ∷ (words.Colon ∷ v)) h.same;
}

pub extent_only : (ws us rest : List Word90) (e : Expression) → ws ≡ words.Digits (codes "1") ∷ (words.Colon ∷ us) → IsOnlyExpression us e rest
    → (p : Phrase90) (last : List Word90) → IsExpression90 p → EndsItem last → ws ≡ written_extent p ++ last → IsThe IsMadeOf IsExpression90 written_extent p last e rest
extent_only ws us rest e q o p last g i h = o p last g (ends last i) (behind_one us (written90 p ++ last) (sym q ∙ h))

pub extent_err : {A : Type 0} (P : A → Type 0) (ws us : List Word90) (stop : Stop) → ws ≡ words.Digits (codes "1") ∷ (words.Colon ∷ us) → FailsAt stop us
    → (p : Phrase90) (last : List Word90) → IsExpression90 p → EndsItem last → ws ≡ written_extent p ++ last → Given (Err stop) P
extent_err P ws us Syntax q o p last g i h = o p last g (ends last i) (behind_one us (written90 p ++ last) (sym q ∙ h))
extent_err P ws us Memory q o p last g i h = tt

pub no_extent : (ws : List Word90) → ((q : List Word90) → ws ≡ words.Digits (codes "1") ∷ (words.Colon ∷ q) → ⊥)
    → (p : Phrase90) (last : List Word90) → ws ≡ written_extent p ++ last → ⊥
no_extent ws n p last h = n (written90 p ++ last) h

pub ruleset extents = (extent_found, extent_only, extent_err, no_extent)
