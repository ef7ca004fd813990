-- Where private scalars stand.
use Rattle.std.proofs.Common.{◌≡◌, refl, sym, ap, ap₂, ◌∙◌, inl, inr, subst, ℕ, Bool, true, false, not, ◌&&◌, ◌||◌, cond, List, [], ◌∷◌, ◌++◌, map, Option, Some, None}
use Rattle.std.specs.Prelude.{◌==◌}
use Rattle.std.specs.List.{list_all}
use Rattle.std.specs.Str.{bytes_eq}
use Rattle.std.proofs.lemmas.Bool.{eqb-true}
use Rattle.std.proofs.lemmas.Slice.Eq.{bytes_eq-Decides}
use Rattle.tree.specs.Plain.{Expression}
use Rattle.tree.specs.declared.ops.Kind.{Kind}
use Rattle.meaning.specs.Reads.{names_in, names_in_subscripts}
use Rattle.nest.specs.Bodies.{Standing}
use Rattle.nest.specs.Plain.{Guarded, Loop, Nest}
use Rattle.nest.specs.declared.parts.Trip.{Trip}
use Rattle.nest.specs.statement_loops.Names.{is_among}
use Rattle.nest_order.specs.orders.Lists.{In}
use Rattle.nest_order.specs.runs.Guarded.{names_of_guard}
use Rattle.last_values.specs.Occurrences.{stands_in, stands_in_guard, stands_in_left, stands_in_statement}
use Rattle.last_values.specs.normal_forms.Steps.{◌>>=◌}
use Rattle.scalar_expand.specs.Extents.{extents_of_trips}
use Rattle.scalar_expand.specs.Privates.{are_same_loops, expanded_name, begins_anew, begun_by, has_no_guard, private_over, private_among, round_loop, scalar_kind, stands_only_in, trips_of}
use Rattle.scalar_expand.specs.declared.privates.Private.{Private}
use Rattle.scalar_expand.specs.declared.privates.RoundLoop.{RoundLoop}

-- ---- truth values

pub both_true : (a b : Bool) → (a && b) ≡ true → (a ≡ true) × (b ≡ true)
both_true true b e = (refl, e)
both_true false b e = cc

pub not_true : (a : Bool) → not a ≡ true → a ≡ false
not_true true e = cc
not_true false e = refl

or_left : (a b : Bool) → a ≡ true → (a || b) ≡ true
or_left a b e = ap (λ c. c || b) e

or_right : (a b : Bool) → b ≡ true → (a || b) ≡ true
or_right true b e = refl
or_right false b e = e

-- ---- names that stand in a statement

among : (zs : List (List ℕ)) (z : List ℕ) → In z zs → is_among zs z ≡ true
among [] z i = absurd i
among (y ∷ zs) z (inl e) = or_left (bytes_eq y z) (is_among zs z) ((bytes_eq-Decides y z).1 (sym e))
among (y ∷ zs) z (inr i) = or_right (bytes_eq y z) (is_among zs z) (among zs z i)

pub in_guard : (g : Guarded) (z : List ℕ) → In z (names_of_guard g.guard) → stands_in_statement z g ≡ true
in_guard g z i = or_left (stands_in_guard z g.guard) (stands_in_left z g.left || stands_in z g.right) (by g.guard i)
  where
    by : (o : Option Expression) → In z (names_of_guard o) → stands_in_guard z o ≡ true
    by None i = absurd i
    by (Some e) i = among (names_in e) z i

pub in_right : (g : Guarded) (z : List ℕ) → In z (names_in g.right) → stands_in_statement z g ≡ true
in_right g z i = or_right (stands_in_guard z g.guard) (stands_in_left z g.left || stands_in z g.right) (or_right (stands_in_left z g.left) (stands_in z g.right) (among (names_in g.right) z i))

pub in_left : (g : Guarded) (z : List ℕ) → In z (g.left.name ∷ names_in_subscripts g.left.subscripts) → stands_in_statement z g ≡ true
in_left g z i = or_right (stands_in_guard z g.guard) (stands_in_left z g.left || stands_in z g.right) (or_left (stands_in_left z g.left) (stands_in z g.right) (among (g.left.name ∷ names_in_subscripts g.left.subscripts) z i))

-- what a statement that begins anew is
pub record Anew (x : List ℕ) (g : Guarded) : Type 0 where
  pub left : g.left.name ≡ x
  pub guard : g.guard ≡ None
  pub right : ¬ In x (names_in g.right)

pub anew : (x : List ℕ) (g : Guarded) → begins_anew x g ≡ true → Anew x g
anew x g e =
    let one = both_true (bytes_eq g.left.name x) (has_no_guard g.guard && not (stands_in x g.right)) e in
    let two = both_true (has_no_guard g.guard) (not (stands_in x g.right)) one.1 in
    record {
      left = (bytes_eq-Decides g.left.name x).0 one.0;
      guard = none g.guard two.0;
      right = λ i. (let bad : true ≡ false = sym (among (names_in g.right) x i) ∙ not_true (stands_in x g.right) two.1 in cc);
    }
  where
    none : (o : Option Expression) → has_no_guard o ≡ true → o ≡ None
    none None e = refl
    none (Some e) f = cc

-- ---- loops of one list of numbers

abbrev pub numbers_round : List RoundLoop → List ℕ
numbers_round ls = map (λ (l : RoundLoop). l.number) ls

abbrev pub numbers_of : List Loop → List ℕ
numbers_of ls = map (λ (l : Loop). l.number) ls

same_numbers : (ls ks : List Loop) → are_same_loops ls ks ≡ true → numbers_round (map round_loop ks) ≡ numbers_of ls
same_numbers [] [] e = refl
same_numbers [] (k ∷ ks) e = cc
same_numbers (l ∷ ls) [] e = cc
same_numbers (l ∷ ls) (k ∷ ks) e =
    let both = both_true (l.number == k.number) (are_same_loops ls ks) e in
    ap₂ (λ (n : ℕ) (ns : List ℕ). n ∷ ns) (sym (eqb-true l.number k.number both.0)) (same_numbers ls ks both.1)

-- ---- what is private

pub record Over (m : Nest) (x : List ℕ) (ls : List RoundLoop) (p : Private) : Type 0 where
  pub name : p.name ≡ x
  pub array : p.array ≡ expanded_name m.number x
  pub loops : p.loops ≡ ls
  pub kind : scalar_kind m x ≡ Some p.kind
  pub extents : extents_of_trips (Rattle.std.specs.Prelude.length m.symbols) (trips_of ls) ≡ Some p.extents

over : (m : Nest) (x : List ℕ) (ls : List RoundLoop) (p : Private) → private_over m x ls ≡ Some p → Over m x ls p
over m x ls p e = by (scalar_kind m x) refl (extents_of_trips (Rattle.std.specs.Prelude.length m.symbols) (trips_of ls)) refl e
  where
    by : (k : Option Kind) → scalar_kind m x ≡ k → (o : Option (List Trip)) → extents_of_trips (Rattle.std.specs.Prelude.length m.symbols) (trips_of ls) ≡ o
        → (do kind ← k; extents ← o; let r : Option Private = Some (record { name = x; array = expanded_name m.number x; kind = kind; loops = ls; extents = extents }) in r) ≡ Some p → Over m x ls p
    by None f o g h = cc
    by (Some k) f None g h = cc
    by (Some k) f (Some es) g h =
        let same : record { name = x; array = expanded_name m.number x; kind = k; loops = ls; extents = es } ≡ p = some p h in
        subst (Over m x ls) same (record { name = refl; array = refl; loops = refl; kind = f; extents = g })
      where
        some : (p : Private) → Some (record { name = x; array = expanded_name m.number x; kind = k; loops = ls; extents = es }) ≡ Some p → record { name = x; array = expanded_name m.number x; kind = k; loops = ls; extents = es } ≡ p
        some p h = cc

abbrev pub Stands : List ℕ → Standing → Type 0
Stands x s = stands_in_statement x s.statement ≡ true

abbrev pub StandsInNone : List ℕ → List Standing → Type 0
StandsInNone x ss = (s : Standing) → In s ss → stands_in_statement x s.statement ≡ false

pub in_middle : (before : List Standing) (y : Standing) (behind : List Standing) → In y (before ++ y ∷ behind)
in_middle [] y behind = inl refl
in_middle (b ∷ before) y behind = inr (in_middle before y behind)

module _ (m : Nest) (x : List ℕ) (p : Private) where
  begun : (s : Standing) (ss : List Standing) → begun_by m x s ss ≡ Some p → (begins_anew x s.statement ≡ true) × (list_all (stands_only_in x s.loops) ss ≡ true) × Over m x (map round_loop s.loops) p
  begun s ss e = by (begins_anew x s.statement) refl (list_all (stands_only_in x s.loops) ss) refl e
    where
      by : (a : Bool) → begins_anew x s.statement ≡ a → (b : Bool) → list_all (stands_only_in x s.loops) ss ≡ b → cond (a && b) (private_over m x (map round_loop s.loops)) None ≡ Some p
          → (begins_anew x s.statement ≡ true) × (list_all (stands_only_in x s.loops) ss ≡ true) × Over m x (map round_loop s.loops) p
      by true f true g h = (f, g, over m x (map round_loop s.loops) p h)
      by true f false g h = cc
      by false f b g h = cc

  only : (ls : List Loop) (ss : List Standing) → list_all (stands_only_in x ls) ss ≡ true → (y : Standing) → In y ss → Stands x y → are_same_loops y.loops ls ≡ true
  only ls [] e y i st = absurd i
  only ls (s ∷ ss) e y i st = by (both_true (stands_only_in x ls s) (list_all (stands_only_in x ls) ss) e) i (λ f j. only ls ss f y j st)
    where
      here : (a b : Bool) → a ≡ true → (not a || b) ≡ true → b ≡ true
      here true b e f = f
      here false b e f = cc

      by : (stands_only_in x ls s ≡ true) × (list_all (stands_only_in x ls) ss ≡ true) → In y (s ∷ ss) → (list_all (stands_only_in x ls) ss ≡ true → In y ss → are_same_loops y.loops ls ≡ true) → are_same_loops y.loops ls ≡ true
      by b (inl f) r = subst (λ (z : Standing). are_same_loops z.loops ls ≡ true) (sym f) (here (stands_in_statement x s.statement) (are_same_loops s.loops ls) (subst (Stands x) f st) b.0)
      by b (inr j) r = r b.1 j

  -- the first statement in which it stands begins anew with it, in its loops
  pub first_begins : (before : List Standing) (y : Standing) (behind : List Standing) → private_among m x (before ++ y ∷ behind) ≡ Some p → StandsInNone x before → Stands x y
      → Anew x y.statement × Over m x (map round_loop y.loops) p
  first_begins [] y behind e none st = by (stands_in_statement x y.statement) st e
    where
      by : (b : Bool) → b ≡ true → cond b (begun_by m x y behind) (private_among m x behind) ≡ Some p → Anew x y.statement × Over m x (map round_loop y.loops) p
      by true f g = let h = begun y behind g in (anew x y.statement h.0, h.2)
      by false f g = cc
  first_begins (b ∷ before) y behind e none st = by (stands_in_statement x b.statement) (none b (inl refl)) e (λ f. first_begins before y behind f (λ s i. none s (inr i)) st)
    where
      by : (c : Bool) → c ≡ false → cond c (begun_by m x b (before ++ y ∷ behind)) (private_among m x (before ++ y ∷ behind)) ≡ Some p
          → (private_among m x (before ++ y ∷ behind) ≡ Some p → Anew x y.statement × Over m x (map round_loop y.loops) p) → Anew x y.statement × Over m x (map round_loop y.loops) p
      by true f g r = cc
      by false f g r = r g

  -- a further one is in the same loops
  pub further_stays : (before : List Standing) (y : Standing) (behind : List Standing) → private_among m x (before ++ y ∷ behind) ≡ Some p → (b : Standing) → In b before → Stands x b → Stands x y
      → numbers_round p.loops ≡ numbers_of y.loops
  further_stays [] y behind e b i sb st = absurd i
  further_stays (a ∷ before) y behind e b i sb st = by (stands_in_statement x a.statement) refl e i (λ f j. further_stays before y behind f b j sb st)
    where
      by : (c : Bool) → stands_in_statement x a.statement ≡ c → cond c (begun_by m x a (before ++ y ∷ behind)) (private_among m x (before ++ y ∷ behind)) ≡ Some p → In b (a ∷ before)
          → (private_among m x (before ++ y ∷ behind) ≡ Some p → In b before → numbers_round p.loops ≡ numbers_of y.loops) → numbers_round p.loops ≡ numbers_of y.loops
      by true f g j r =
          let h = begun a (before ++ y ∷ behind) g in
          ap numbers_round h.2.loops ∙ same_numbers y.loops a.loops (only a.loops (before ++ y ∷ behind) h.1 y (in_middle before y behind) st)
      by false f g (inl e) r = let bad : true ≡ false = sym sb ∙ (ap (λ (s : Standing). stands_in_statement x s.statement) e ∙ f) in cc
      by false f g (inr j) r = r g j

  -- there is a first one
  pub record First (ss : List Standing) : Type 0 where
    pub before : List Standing
    pub standing : Standing
    pub behind : List Standing
    pub splits : ss ≡ before ++ standing ∷ behind
    pub none : StandsInNone x before
    pub stands : Stands x standing

  pub has_first : (ss : List Standing) → private_among m x ss ≡ Some p → First ss
  has_first [] e = let bad : ◌≡◌ {A = Option Private} None (Some p) = e in cc
  has_first (s ∷ ss) e = by (stands_in_statement x s.statement) refl e (λ f. has_first ss f)
    where
      by : (c : Bool) → stands_in_statement x s.statement ≡ c → cond c (begun_by m x s ss) (private_among m x ss) ≡ Some p → (private_among m x ss ≡ Some p → First ss) → First (s ∷ ss)
      by true f g r = record { before = []; standing = s; behind = ss; splits = refl; none = λ t i. absurd i; stands = f }
      by false f g r =
          let more = r g in
          record { before = s ∷ more.before; standing = more.standing; behind = more.behind; splits = ap (λ ts. s ∷ ts) more.splits; none = none' more; stands = more.stands }
        where
          none' : (more : First ss) → StandsInNone x (s ∷ more.before)
          none' more t (inl e) = ap (λ (z : Standing). stands_in_statement x z.statement) e ∙ f
          none' more t (inr i) = more.none t i
