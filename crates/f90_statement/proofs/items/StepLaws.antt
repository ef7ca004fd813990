-- What stands in front of a list's words, one part at a time.
use Rattle.std.proofs.Common.{arith, ◌≡◌, ◌<◌, ℕ, zero, suc, Bool, true, false, List, [], ◌∷◌, ◌++◌, length, refl, ap, sym, subst, ◌∙◌, Option}
use Rattle.f90_grammar.specs.Words as words
use Rattle.f90_grammar.specs.Words.{Word90}
use Rattle.f90_grammar.specs.Phrases as phrases
use Rattle.f90_grammar.specs.Phrases.{Phrase90, IsExpression90, written90}
use Rattle.f90_grammar.specs.Items as items
use Rattle.f90_grammar.specs.Items.{Direction, MayStand90, TakesText, written_bounds90}
use Rattle.f90_laws.specs.unique.Unique.{EndsExpression}
use Rattle.f90_laws.proofs.unique.Phrase.{one_phrase}
use Rattle.f90_laws.proofs.unique.Items.{bounds_once}
use Rattle.f90_statement.specs.items.parts.Bounds.{AreBounds}
use Rattle.f90_statement.specs.items.Commas.{has_comma}
use Rattle.f90_statement.specs.items.Flat.{Node, Of, Text, Begin, Turns}
use Rattle.f90_statement.specs.items.Following.{Follows, Fronts}
use Rattle.f90_statement.specs.items.Views.{IsValueFront}
use Rattle.f90_statement.proofs.items.CommaLaws.{no_list, no_text}
use Rattle.f90_statement.proofs.items.FollowLaws.{follows_end, no_equals, list_has_comma}

clash : {P : Type 0} (b : Bool) → b ≡ true → b ≡ false → P
clash b h k = absurd (cc)

-- ---- an item that is an expression

abbrev pub IsOnly : List Word90 → List Word90 → Type 0
IsOnly ws rest = (q : Phrase90) (us : List Word90) → IsExpression90 q → EndsExpression us → ws ≡ written90 q ++ us → rest ≡ us

abbrev pub IsNone : List Word90 → Type 0
IsNone ws = (q : Phrase90) (us : List Word90) → IsExpression90 q → EndsExpression us → ws ≡ written90 q ++ us → ⊥

pub record OneValue (d : Direction) (n : ℕ) (p : Phrase90) (rest : List Word90) (ns : List Node) : Type 0 where
  pub more : List Node
  pub same : ns ≡ Of p ∷ more
  pub goes : Follows d false n rest more
  pub may : MayStand90 d p

value_on : (d : Direction) (n : ℕ) (ws : List Word90) (p : Phrase90) (rest : List Word90) → IsExpression90 p → ws ≡ written90 p ++ rest → IsOnly ws rest → IsValueFront ws
    → (ns : List Node) → Follows d true n ws ns → OneValue d n p rest ns
value_on d n ws p rest g e only v (Of q ∷ ns) h =
    let x = follows_end d n h.0 ns h.4 in
    let f : rest ≡ h.0 = only q h.0 h.2 x h.1 in
    let o = one_phrase p q rest h.0 g h.2 (subst EndsExpression (sym f) x) x (sym e ∙ h.1) in
    record {
      more = ns;
      same = ap (λ (z : Phrase90). Of z ∷ ns) (sym o.0);
      goes = subst (λ (us : List Word90). Follows d false n us ns) (sym f) h.4;
      may = subst (λ (z : Phrase90). MayStand90 d z) (sym o.0) h.3;
    }
value_on d n ws p rest g e only v (Text t ∷ ns) h = absurd (v.no_text t h.0 h.1)
value_on d n ws p rest g e only v (Begin ∷ ns) h =
    clash (has_comma h.0 0) (list_has_comma d true (suc n) h.0 ns h.2 0 (omega arith)) (v.no_list h.0 h.1)
value_on d n ws p rest g e only v (Turns x a b c ∷ ns) h = absurd h
value_on d n ws p rest g e only v [] h = absurd h

pub value_fronts : (d : Direction) (n : ℕ) (ws : List Word90) (p : Phrase90) (rest : List Word90) → IsExpression90 p → ws ≡ written90 p ++ rest → IsOnly ws rest → IsValueFront ws
    → MayStand90 d p → Fronts d true n ws (Of p) false n rest
value_fronts d n ws p rest g e only v m = record {
  back = λ ns h. (rest, e, g, m, h);
  on = λ ns h. let o = value_on d n ws p rest g e only v ns h in (o.more, o.same, o.goes);
}

pub value_none : (d : Direction) (n : ℕ) (ws : List Word90) → IsNone ws → IsValueFront ws → (ns : List Node) → Follows d true n ws ns → ⊥
value_none d n ws none v (Of q ∷ ns) h = none q h.0 h.2 (follows_end d n h.0 ns h.4) h.1
value_none d n ws none v (Text t ∷ ns) h = v.no_text t h.0 h.1
value_none d n ws none v (Begin ∷ ns) h =
    clash (has_comma h.0 0) (list_has_comma d true (suc n) h.0 ns h.2 0 (omega arith)) (v.no_list h.0 h.1)
value_none d n ws none v (Turns x a b c ∷ ns) h = h
value_none d n ws none v [] h = h

pub value_refused : (d : Direction) (n : ℕ) (ws : List Word90) (p : Phrase90) (rest : List Word90) → IsExpression90 p → ws ≡ written90 p ++ rest → IsOnly ws rest → IsValueFront ws
    → (MayStand90 d p → ⊥) → (ns : List Node) → Follows d true n ws ns → ⊥
value_refused d n ws p rest g e only v r ns h = r (value_on d n ws p rest g e only v ns h).may

-- ---- a character constant

pub text_fronts : (n : ℕ) (ws : List Word90) (t : List ℕ) (rest : List Word90) → ws ≡ words.Constant t ∷ rest → Fronts items.Output true n ws (Text t) false n rest
text_fronts n ws t rest e = record { back = λ ns h. (rest, e, tt, h); on = on }
  where
    on : (ns : List Node) → Follows items.Output true n ws ns → (more : List Node) × (ns ≡ Text t ∷ more) × Follows items.Output false n rest more
    on (Of q ∷ ns) h = no_text q h.0 rest t (sym h.1 ∙ e)
    on (Text u ∷ ns) h =
        let f : words.Constant u ∷ h.0 ≡ words.Constant t ∷ rest = sym h.1 ∙ e in
        let a : u ≡ t = cc f in
        let b : h.0 ≡ rest = cc f in
        (ns, ap (λ (z : List ℕ). Text z ∷ ns) a, subst (λ (us : List Word90). Follows items.Output false n us ns) b h.3)
    on (Begin ∷ ns) h = let f = sym h.1 ∙ e in absurd (cc f)
    on (Turns x a b c ∷ ns) h = absurd h
    on [] h = absurd h

pub text_none : (n : ℕ) (ws : List Word90) (t : List ℕ) (rest : List Word90) → ws ≡ words.Constant t ∷ rest → (ns : List Node) → Follows items.Input true n ws ns → ⊥
text_none n ws t rest e (Of q ∷ ns) h = no_text q h.0 rest t (sym h.1 ∙ e)
text_none n ws t rest e (Text u ∷ ns) h = h.2
text_none n ws t rest e (Begin ∷ ns) h = let f = sym h.1 ∙ e in cc f
text_none n ws t rest e (Turns x a b c ∷ ns) h = h
text_none n ws t rest e [] h = h

-- ---- the beginning of an implied DO list

pub list_fronts : (d : Direction) (n : ℕ) (ws rest : List Word90) → ws ≡ words.Open ∷ rest → has_comma rest 0 ≡ true → Fronts d true n ws Begin true (suc n) rest
list_fronts d n ws rest e m = record { back = λ ns h. (rest, e, h); on = on }
  where
    on : (ns : List Node) → Follows d true n ws ns → (more : List Node) × (ns ≡ Begin ∷ more) × Follows d true (suc n) rest more
    on (Of q ∷ ns) h = clash (has_comma rest 0) m (no_list q h.0 rest (sym h.1 ∙ e))
    on (Text u ∷ ns) h = let f = sym h.1 ∙ e in absurd (cc f)
    on (Begin ∷ ns) h =
        let f : words.Open ∷ h.0 ≡ words.Open ∷ rest = sym h.1 ∙ e in
        let b : h.0 ≡ rest = cc f in
        (ns, refl, subst (λ (us : List Word90). Follows d true (suc n) us ns) b h.2)
    on (Turns x a b c ∷ ns) h = absurd h
    on [] h = absurd h

-- ---- a comma before an item

abbrev pub IsNoTurn : ℕ → List Word90 → Type 0
IsNoTurn n us = (x : List ℕ) (vs : List Word90) → 0 < n → us ≡ words.Name x ∷ (words.Equals ∷ vs) → ⊥

comma_back : (d : Direction) (n : ℕ) (us : List Word90) (ns : List Node) → Follows d true n us ns → Follows d false n (words.Comma ∷ us) ns
comma_back d n us (Of p ∷ ns) h = (h.0, ap (λ (q : List Word90). words.Comma ∷ q) h.1, h.2, h.3, h.4)
comma_back d n us (Text t ∷ ns) h = (h.0, ap (λ (q : List Word90). words.Comma ∷ q) h.1, h.2, h.3)
comma_back d n us (Begin ∷ ns) h = (h.0, ap (λ (q : List Word90). words.Comma ∷ q) h.1, h.2)
comma_back d n us (Turns x a b c ∷ ns) h = absurd h
comma_back d n us [] h = absurd h

behind_comma : (us vs : List Word90) → words.Comma ∷ us ≡ words.Comma ∷ vs → us ≡ vs
behind_comma us vs e = cc

comma_on : (d : Direction) (n : ℕ) (us : List Word90) (ns : List Node) → IsNoTurn n us → Follows d false n (words.Comma ∷ us) ns → Follows d true n us ns
comma_on d n us (Of p ∷ ns) t h = (h.0, behind_comma us (written90 p ++ h.0) h.1, h.2, h.3, h.4)
comma_on d n us (Text s ∷ ns) t h = (h.0, behind_comma us (words.Constant s ∷ h.0) h.1, h.2, h.3)
comma_on d n us (Begin ∷ ns) t h = (h.0, behind_comma us (words.Open ∷ h.0) h.1, h.2)
comma_on d zero us (Turns x a b c ∷ ns) t h = absurd h
comma_on d (suc n) us (Turns x a b c ∷ ns) t h =
    absurd (t x (written_bounds90 a b c ++ words.Close ∷ h.0) (omega arith) (behind_comma us (words.Name x ∷ (words.Equals ∷ (written_bounds90 a b c ++ words.Close ∷ h.0))) h.1))
comma_on d zero us [] t h = absurd (cc)
comma_on d (suc n) us [] t h = absurd h

pub comma_fronts : (d : Direction) (n : ℕ) (us : List Word90) (part : Node) (next : Bool) (m : ℕ) (rest : List Word90) → IsNoTurn n us
    → Fronts d true n us part next m rest → Fronts d false n (words.Comma ∷ us) part next m rest
comma_fronts d n us part next m rest t f = record {
  back = λ ns h. comma_back d n us (part ∷ ns) (f.back ns h);
  on = λ ns h. f.on ns (comma_on d n us ns t h);
}

pub comma_none : (d : Direction) (n : ℕ) (us : List Word90) → IsNoTurn n us → ((ns : List Node) → Follows d true n us ns → ⊥)
    → (ns : List Node) → Follows d false n (words.Comma ∷ us) ns → ⊥
comma_none d n us t none ns h = none ns (comma_on d n us ns t h)

-- without a comma nothing goes on
pub no_comma : (d : Direction) (n : ℕ) (ws : List Word90) → 0 < length ws → ((us : List Word90) → ws ≡ words.Comma ∷ us → ⊥) → (ns : List Node) → Follows d false n ws ns → ⊥
no_comma d n ws l none (Of p ∷ ns) h = none (written90 p ++ h.0) h.1
no_comma d n ws l none (Text t ∷ ns) h = none (words.Constant t ∷ h.0) h.1
no_comma d n ws l none (Begin ∷ ns) h = none (words.Open ∷ h.0) h.1
no_comma d zero ws l none (Turns x a b c ∷ ns) h = h
no_comma d (suc n) ws l none (Turns x a b c ∷ ns) h = none (words.Name x ∷ (words.Equals ∷ (written_bounds90 a b c ++ words.Close ∷ h.0))) h.1
no_comma d zero ws l none [] h = let e : length ws ≡ 0 = ap (length {A = Word90}) h in omega arith
no_comma d (suc n) ws l none [] h = h

-- ---- the end of an implied DO list

abbrev pub control_front : List ℕ → List Word90 → List Word90
control_front x us = words.Comma ∷ (words.Name x ∷ (words.Equals ∷ us))

-- no item is the variable
not_item : (d : Direction) (n : ℕ) (x : List ℕ) (us : List Word90) (ns : List Node) (p : Phrase90) (vs : List Word90) → IsExpression90 p → Follows d false n vs ns
    → control_front x us ≡ words.Comma ∷ (written90 p ++ vs) → ⊥
not_item d n x us ns p vs g h e =
    let o = one_phrase (phrases.Name x) p (words.Equals ∷ us) vs tt g tt (follows_end d n vs ns h) (behind_comma (words.Name x ∷ (words.Equals ∷ us)) (written90 p ++ vs) e) in
    no_equals d n vs us ns h (sym o.1)

abbrev pub IsOnlyBounds : List Word90 → List Word90 → Type 0
IsOnlyBounds us rest = (a b : Phrase90) (c : Option Phrase90) (vs : List Word90) → AreBounds a b c → us ≡ written_bounds90 a b c ++ words.Close ∷ vs → rest ≡ words.Close ∷ vs

abbrev pub NoBounds : List Word90 → Type 0
NoBounds us = (a b : Phrase90) (c : Option Phrase90) (vs : List Word90) → AreBounds a b c → us ≡ written_bounds90 a b c ++ words.Close ∷ vs → ⊥

control_tail : (x y : List ℕ) (us vs : List Word90) → control_front x us ≡ control_front y vs → us ≡ vs
control_tail x y us vs e = cc

control_name : (x y : List ℕ) (us vs : List Word90) → control_front x us ≡ control_front y vs → x ≡ y
control_name x y us vs e = cc

pub control_fronts : (d : Direction) (n : ℕ) (x : List ℕ) (us : List Word90) (a b : Phrase90) (c : Option Phrase90) (rest : List Word90) → AreBounds a b c
    → us ≡ written_bounds90 a b c ++ words.Close ∷ rest → IsOnlyBounds us (words.Close ∷ rest)
    → Fronts d false (suc n) (control_front x us) (Turns x a b c) false n rest
control_fronts d n x us a b c rest g e only = record {
  back = λ ns h. (rest, ap (control_front x) e, g, h);
  on = on;
}
  where
    on : (ns : List Node) → Follows d false (suc n) (control_front x us) ns → (more : List Node) × (ns ≡ Turns x a b c ∷ more) × Follows d false n rest more
    on (Of p ∷ ns) h = absurd (not_item d (suc n) x us ns p h.0 h.2 h.4 h.1)
    on (Text t ∷ ns) h = let f = h.1 in absurd (cc)
    on (Begin ∷ ns) h = let f = h.1 in absurd (cc)
    on (Turns y p q r ∷ ns) h =
        let f = control_tail x y us (written_bounds90 p q r ++ words.Close ∷ h.0) h.1 in
        let s : words.Close ∷ rest ≡ words.Close ∷ h.0 = only p q r h.0 h.2 f in
        let k : rest ≡ h.0 = cc s in
        let o = bounds_once a b p q c r (words.Close ∷ rest) (words.Close ∷ h.0) g.first g.last g.step h.2.first h.2.last h.2.step tt tt (sym e ∙ f) in
        (ns, same x y a p b q c r ns (control_name x y us _ h.1) o.lower o.upper o.stride, subst (λ (vs : List Word90). Follows d false n vs ns) (sym k) h.3)
      where
        same : (x y : List ℕ) (a p b q : Phrase90) (c r : Option Phrase90) (ns : List Node) → x ≡ y → a ≡ p → b ≡ q → c ≡ r → Turns y p q r ∷ ns ≡ Turns x a b c ∷ ns
        same x y a p b q c r ns i j k l = cc
    on [] h = absurd h

pub control_none : (d : Direction) (n : ℕ) (x : List ℕ) (us : List Word90) → NoBounds us → (ns : List Node) → Follows d false n (control_front x us) ns → ⊥
control_none d n x us none (Of p ∷ ns) h = not_item d n x us ns p h.0 h.2 h.4 h.1
control_none d n x us none (Text t ∷ ns) h = let f = h.1 in cc
control_none d n x us none (Begin ∷ ns) h = let f = h.1 in cc
control_none d zero x us none (Turns y p q r ∷ ns) h = h
control_none d (suc n) x us none (Turns y p q r ∷ ns) h =
    none p q r h.0 h.2 (control_tail x y us (written_bounds90 p q r ++ words.Close ∷ h.0) h.1)
control_none d zero x us none [] h = cc
control_none d (suc n) x us none [] h = h
