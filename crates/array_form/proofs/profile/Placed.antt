-- Where an array form is placed: constructors over loops, SPREAD and TRANSPOSE, with their kinds, ranks and depths.
use Rattle.std.proofs.Common.{◌≡◌, refl, sym, ◌∙◌, subst, ℕ, suc, ◌+◌, ◌<◌, ◌≤◌, max, Bool, true, false, cond, ◌&&◌}
use Rattle.std.proofs.Common.{List, [], ◌∷◌, map, length, Contains, arith}
use Rattle.std.specs.Cmp.Lexicographic.{as_long}
use Rattle.std.specs.Str.{bytes_eq}
use Rattle.std.proofs.lemmas.Bool.{both_ways}
use Rattle.std.proofs.lemmas.List.{length-map}
use Rattle.std.proofs.lemmas.List.Elements.{Contains-append_left}
use Rattle.tree.specs.declared.ops.Kind.{Kind}
use Rattle.tree.specs.declared.ops.Kind.TheVariants.{Integer}
use Rattle.tree.specs.Plain.{Expression, Constructor, Spread, Transpose, no_expressions, expression, expressions}
use Rattle.tree.specs.Plain.{Declaration}
use Rattle.meaning.specs.Depths.{level, depth_of, depth_of_each, depth_under}
use Rattle.meaning.specs.Typed.{number_of_arguments}
use Rattle.meaning.specs.Typed90.{HasKind, AreScalars, AreLoops, rank_of}
use Rattle.linear_forms.proofs.Sizes.{both}
use Rattle.meaning_laws.proofs.arrays.Members.{here, there}
use Rattle.array_form.specs.forms.Forms.{form_trip_text, loops_over, constructed, spread_over, placed_expression}
use Rattle.array_form.specs.forms.Loops.{FormLoop, FormSurroundings, form_variables_of, form_names_of, is_among, loops_among, same_loops}
use Rattle.array_form.specs.forms.Loops.{is_part_of, is_exchange_of}
use Rattle.array_form.proofs.forms.Values.{variable_in}
use Rattle.array_form.specs.profile.Settings.{IsWritable}
use Rattle.array_form.proofs.profile.Among.{no_more_among, stands_in}
use Rattle.array_form.proofs.profile.Texts.{number_is, trip_of_loop}

-- ---- lists of loops that are as long

variables_long : (ls : List FormLoop) → length (form_variables_of ls) ≡ length ls
variables_long ls = length-map ls (λ (l : FormLoop). l.variable)

same_long : (ls ms : List FormLoop) → same_loops ls ms ≡ true → length ls ≡ length ms
same_long ls ms e =
    sym (variables_long ls) ∙ (as_long bytes_eq (form_variables_of ls) (form_variables_of ms) e ∙ variables_long ms)

record AreTwo (D hs : List FormLoop) : Type 0 where
  first : length D ≡ 2
  second : length hs ≡ 2

exchange_two : (D hs : List FormLoop) → is_exchange_of D hs ≡ true → AreTwo D hs
exchange_two [] hs e = absurd (both_ways false refl e)
exchange_two (l ∷ []) hs e = absurd (both_ways false refl e)
exchange_two (l ∷ m ∷ []) hs e = record { first = refl; second = sym (same_long (m ∷ l ∷ []) hs e) }
exchange_two (l ∷ m ∷ n ∷ D) hs e = absurd (both_ways false refl e)

module _ (ds : List Declaration) (a : FormSurroundings) (w : IsWritable ds a) where
  abbrev pub Within : List FormLoop → Type 0
  Within D = (l : FormLoop) → Contains D l → Contains a.loops l

  within_rest : (l : FormLoop) (D : List FormLoop) → Within (l ∷ D) → Within D
  within_rest l D h m c = h m (there l D m c)

  -- a form of this rank, at most so deep, without an operator outside
  pub record IsPlaced (k : Kind) (dimensions most : ℕ) (F : Expression) : Type 0 where
    pub kind : HasKind ds F k
    pub rank : rank_of ds F ≡ dimensions
    pub depth : depth_of F ≤ most
    pub binds : level F ≡ 10

  -- ---- constructors

  loops_are : (D : List FormLoop) → Within D → AreLoops ds (loops_over (form_names_of a) D)
  loops_are [] h = tt
  loops_are (l ∷ D) h =
      let c = h l (here l D) in
      let one = number_is ds 1 (omega arith) in
      let last = trip_of_loop ds a w l c in
      let v = Contains-append_left (form_variables_of a.loops) a.symbols l.variable (variable_in a.loops l c) in
      (w.integers l.variable v, (one.kind, one.rank), (last.kind, last.rank), loops_are D (within_rest l D h))

  abbrev trip : FormLoop → Expression
  trip l = form_trip_text (form_names_of a) l.trip

  depth_of_loops : (D : List FormLoop) (n m : ℕ) → Within D → n ≤ m → 21 ≤ m
      → depth_under (loops_over (form_names_of a) D) n ≤ m + length D
  depth_of_loops [] n m h k i = omega (arith, k)
  depth_of_loops (l ∷ D) n m h k i =
      let inner = 1 + max n (max 0 (depth_of (trip l))) in
      let first = trip_of_loop ds a w l (h l (here l D)) in
      more (depth_under (loops_over (form_names_of a) D) inner)
      (depth_of_loops D inner (m + 1) (within_rest l D h) (deep (depth_of (trip l)) first.depth) (omega (arith, i)))
    where
      more : (d : ℕ) → d ≤ (m + 1) + length D → d ≤ m + suc (length D)
      more d j = omega (arith, j)

      deep : (t : ℕ) → t ≤ 21 → 1 + max n (max 0 t) ≤ m + 1
      deep t j = omega (arith, i, j, k)

  abbrev trips : List FormLoop → List Expression
  trips D = map (λ (l : FormLoop). form_trip_text (form_names_of a) l.trip) D

  number_of_trips : (D : List FormLoop) → number_of_arguments (expressions (trips D)) ≡ length D
  number_of_trips [] = refl
  number_of_trips (l ∷ D) = let more = number_of_trips D in omega (arith, more)

  trips_are : (D : List FormLoop) → Within D → AreScalars ds (expressions (trips D)) Integer
  trips_are [] h = tt
  trips_are (l ∷ D) h =
      let i = trip_of_loop ds a w l (h l (here l D)) in ((i.kind, i.rank), trips_are D (within_rest l D h))

  depth_of_trips : (D : List FormLoop) → Within D → depth_of_each (expressions (trips D)) ≤ 21
  depth_of_trips [] h = omega arith
  depth_of_trips (l ∷ D) h =
      let first = trip_of_loop ds a w l (h l (here l D)) in
      both_deep (depth_of (trip l)) (depth_of_each (expressions (trips D))) first.depth (depth_of_trips D (within_rest l D h))
    where
      both_deep : (p q : ℕ) → p ≤ 21 → q ≤ 21 → max p q ≤ 21
      both_deep p q j k = omega (arith, j, k)

  abbrev list_over : List FormLoop → Expression → Expression
  list_over D e = Constructor (expression e no_expressions) (loops_over (form_names_of a) D)

  list_kind : (l : FormLoop) (D : List FormLoop) (e : Expression) (k : Kind) → Within (l ∷ D) → HasKind ds e k
      → rank_of ds e ≡ 0 → HasKind ds (list_over (l ∷ D) e) k
  list_kind l D e k h t r = (((t, r), tt), refl, loops_are (l ∷ D) h)

  list_depth : (D : List FormLoop) (e : Expression) → Within D → length D ≤ 7 → depth_of (list_over D e) ≤ depth_of e + 29
  list_depth D e h few = after (depth_under (loops_over (form_names_of a) D) (max (depth_of e) 0))
      (depth_of_loops D (max (depth_of e) 0) (depth_of e + 21) h (below (depth_of e)) (omega arith))
    where
      below : (d : ℕ) → max d 0 ≤ d + 21
      below d = omega arith

      after : (n : ℕ) → n ≤ (depth_of e + 21) + length D → 1 + n ≤ depth_of e + 29
      after n j = omega (arith, j, few)

  pub constructed_is : (D : List FormLoop) (e : Expression) (k : Kind) → 1 ≤ length D → Within D → length D ≤ 7
      → HasKind ds e k → rank_of ds e ≡ 0
      → IsPlaced k (length D) (depth_of e + 30) (constructed (form_names_of a) D e)
  constructed_is [] e k some h few t r = absurd (omega (arith, some))
  constructed_is (l ∷ []) e k some h few t r = record {
    kind = list_kind l [] e k h t r;
    rank = refl;
    depth = more (depth_of (list_over (l ∷ []) e)) (list_depth (l ∷ []) e h few);
    binds = refl;
  }
    where
      more : (n : ℕ) → n ≤ depth_of e + 29 → n ≤ depth_of e + 30
      more n j = omega (arith, j)
  constructed_is (l ∷ m ∷ D) e k some h few t r =
      let whole = l ∷ m ∷ D in
      let n = number_of_trips whole in
      let least = subst (λ (n : ℕ). 1 ≤ n) (sym n) some in
      let most = subst (λ (n : ℕ). n ≤ 7) (sym n) few in
      record {
        kind = (w.reshape, omega arith, least, most, list_kind l (m ∷ D) e k h t r, trips_are whole h);
        rank = n;
        depth = deep (depth_of (list_over whole e)) (depth_of_each (expressions (trips whole)))
            (list_depth whole e h few) (depth_of_trips whole h);
        binds = refl;
      }
    where
      deep : (p q : ℕ) → p ≤ depth_of e + 29 → q ≤ 21 → 1 + max p (1 + q) ≤ depth_of e + 30
      deep p q i j = omega (arith, i, j)

  -- ---- SPREAD over the loops of D that aren't among `hs`; `count` of them are, of n

  record IsSpread (k : Kind) (dimensions most count n : ℕ) (F : Expression) : Type 0 where
    kind : HasKind ds F k
    rank : rank_of ds F + count ≡ dimensions + n
    depth : depth_of F + count ≤ most + n
    binds : level F ≡ 10

  one_of_them : (k : Kind) (r most c n : ℕ) (F : Expression) → IsSpread k r most c n F
      → IsSpread k r most (suc c) (suc n) F
  one_of_them k r most c n F s = record {
    kind = s.kind;
    rank = same (rank_of ds F) s.rank;
    depth = more (depth_of F) s.depth;
    binds = s.binds;
  }
    where
      same : (x : ℕ) → x + c ≡ r + n → x + suc c ≡ r + suc n
      same x e = omega (arith, e)

      more : (x : ℕ) → x + c ≤ most + n → x + suc c ≤ most + suc n
      more x e = omega (arith, e)

  one_further : (k : Kind) (r most c n : ℕ) (F : Expression) → IsSpread k (r + 1) (most + 1) c n F
      → IsSpread k r most c (suc n) F
  one_further k r most c n F s = record {
    kind = s.kind;
    rank = same (rank_of ds F) s.rank;
    depth = more (depth_of F) s.depth;
    binds = s.binds;
  }
    where
      same : (x : ℕ) → x + c ≡ (r + 1) + n → x + c ≡ r + suc n
      same x e = omega (arith, e)

      more : (x : ℕ) → x + c ≤ (most + 1) + n → x + c ≤ most + suc n
      more x e = omega (arith, e)

  abbrev count : List FormLoop → List FormLoop → ℕ
  count hs D = length (loops_among D (form_variables_of hs))

  module _ (hs : List FormLoop) (free : a.may_spread ≡ true) where
    -- from the place `at` on
    abbrev Spreads : List FormLoop → ℕ → Expression → Kind → ℕ → Type 0
    Spreads D at e k most =
        at + count hs D ≤ rank_of ds e + 1 → rank_of ds e + length D ≤ 7 + count hs D → HasKind ds e k
        → depth_of e ≤ most
        → IsSpread k (rank_of ds e) most (count hs D) (length D) (spread_over (form_names_of a) hs at D e)

    spread_is : (D : List FormLoop) (at : ℕ) (e : Expression) (k : Kind) (most : ℕ) → Within D → 1 ≤ at → 21 ≤ most
        → level e ≡ 10 → Spreads D at e k most
    spread_is [] at e k most h one room own place few t deep =
        record { kind = t; rank = refl; depth = same (depth_of e) deep; binds = own }
      where
        same : (x : ℕ) → x ≤ most → x + 0 ≤ most + 0
        same x j = omega (arith, j)
    spread_is (l ∷ D) at e k most h one room own place few t deep =
        by (is_among (form_variables_of hs) l.variable) place few
        (spread_is D (at + 1) e k most (within_rest l D h) (omega (arith, one)) room own)
        (spread_is D (at + 1) (Spread e at (trip l)) k (most + 1) (within_rest l D h) (omega (arith, one))
        (omega (arith, room)) refl)
      where
        them : List FormLoop
        them = loops_among D (form_variables_of hs)

        by : (b : Bool) → at + length (cond b (l ∷ them) them) ≤ rank_of ds e + 1
            → rank_of ds e + suc (length D) ≤ 7 + length (cond b (l ∷ them) them)
            → Spreads D (at + 1) e k most → Spreads D (at + 1) (Spread e at (trip l)) k (most + 1)
            → IsSpread k (rank_of ds e) most (length (cond b (l ∷ them) them)) (suc (length D))
            (spread_over (form_names_of a) hs (at + 1) D (cond b e (Spread e at (trip l))))
        by true p f stays goes =
            one_of_them k (rank_of ds e) most (count hs D) (length D) (spread_over (form_names_of a) hs (at + 1) D e)
            (stays (first (count hs D) p) (second (count hs D) f) t deep)
          where
            first : (c : ℕ) → at + suc c ≤ rank_of ds e + 1 → (at + 1) + c ≤ rank_of ds e + 1
            first c j = omega (arith, j)

            second : (c : ℕ) → rank_of ds e + suc (length D) ≤ 7 + suc c → rank_of ds e + length D ≤ 7 + c
            second c j = omega (arith, j)
        by false p f stays goes =
            let i = trip_of_loop ds a w l (h l (here l D)) in
            let less = no_more_among (stands_in (form_variables_of hs)) D in
            one_further k (rank_of ds e) most (count hs D) (length D)
            (spread_over (form_names_of a) hs (at + 1) D (Spread e at (trip l)))
            (goes (first (count hs D) p) (second (count hs D) f)
            (w.spread free, one, high (count hs D) p, low (count hs D) less f, t, i.kind, i.rank)
            (deeper (depth_of (trip l)) i.depth))
          where
            high : (c : ℕ) → at + c ≤ rank_of ds e + 1 → at ≤ rank_of ds e + 1
            high c j = omega (arith, j)

            low : (c : ℕ) → c ≤ length D → rank_of ds e + suc (length D) ≤ 7 + c → rank_of ds e < 7
            low c i j = omega (arith, i, j)

            first : (c : ℕ) → at + c ≤ rank_of ds e + 1 → (at + 1) + c ≤ (rank_of ds e + 1) + 1
            first c j = omega (arith, j)

            second : (c : ℕ) → rank_of ds e + suc (length D) ≤ 7 + c → (rank_of ds e + 1) + length D ≤ 7 + c
            second c j = omega (arith, j)

            deeper : (q : ℕ) → q ≤ 21 → 1 + max (depth_of e) q ≤ most + 1
            deeper q j = omega (arith, deep, room, j)

  -- ---- what is placed

  pub placed_is : (D hs : List FormLoop) (plain e : Expression) (k : Kind) (most : ℕ) → 1 ≤ length D → Within D
      → length D ≤ 7 → 1 ≤ length hs → 20 ≤ most
      → IsPlaced k (length hs) (most + 1) plain → HasKind ds e k → rank_of ds e ≡ 0 → depth_of e + 30 ≤ most + 1
      → IsPlaced k (length D) (most + length D) (placed_expression a D hs plain e)
  placed_is D hs plain e k most some h few one room p t r deep = first (same_loops D hs) refl
    where
      as_it_is : same_loops D hs ≡ true → IsPlaced k (length D) (most + length D) plain
      as_it_is q = record {
        kind = p.kind;
        rank = p.rank ∙ sym (same_long D hs q);
        depth = more (depth_of plain) p.depth;
        binds = p.binds;
      }
        where
          more : (x : ℕ) → x ≤ most + 1 → x ≤ most + length D
          more x j = omega (arith, j, some)

      spread : a.may_spread ≡ true → is_part_of D hs ≡ true
          → IsPlaced k (length D) (most + length D) (spread_over (form_names_of a) hs 1 D plain)
      spread free q =
          let c = count hs D in
          let spreaded = spread_over (form_names_of a) hs 1 D plain in
          let many : count hs D ≡ length hs = same_long (loops_among D (form_variables_of hs)) hs q in
          let s = spread_is hs free D 1 plain k (most + 1) h (omega arith) (omega (arith, room)) p.binds
          (place (count hs D) (rank_of ds plain) many p.rank) (fit (count hs D) (rank_of ds plain) many p.rank)
          p.kind p.depth in
          record {
            kind = s.kind;
            rank = whole c (rank_of ds plain) (rank_of ds spreaded) many p.rank s.rank;
            depth = less c (depth_of spreaded) many s.depth;
            binds = s.binds;
          }
        where
          place : (c x : ℕ) → c ≡ length hs → x ≡ length hs → 1 + c ≤ x + 1
          place c x i j = omega (arith, i, j)

          fit : (c x : ℕ) → c ≡ length hs → x ≡ length hs → x + length D ≤ 7 + c
          fit c x i j = omega (arith, i, j, few)

          whole : (c x y : ℕ) → c ≡ length hs → x ≡ length hs → y + c ≡ x + length D → y ≡ length D
          whole c x y i j e = omega (arith, i, j, e)

          less : (c x : ℕ) → c ≡ length hs → x + c ≤ (most + 1) + length D → x ≤ most + length D
          less c x i j = omega (arith, i, j, one)

      exchanged : is_exchange_of D hs ≡ true → IsPlaced k (length D) (most + length D) (Transpose plain)
      exchanged q =
          let two = exchange_two D hs q in
          record {
            kind = (w.transpose, p.rank ∙ two.second, p.kind);
            rank = sym two.first;
            depth = more (depth_of plain) p.depth two.first;
            binds = refl;
          }
        where
          more : (x : ℕ) → x ≤ most + 1 → length D ≡ 2 → 1 + x ≤ most + length D
          more x i j = omega (arith, i, j)

      built : IsPlaced k (length D) (most + length D) (constructed (form_names_of a) D e)
      built =
          let c = constructed_is D e k some h few t r in
          record {
            kind = c.kind;
            rank = c.rank;
            depth = more (depth_of (constructed (form_names_of a) D e)) c.depth;
            binds = c.binds;
          }
        where
          more : (x : ℕ) → x ≤ depth_of e + 30 → x ≤ most + length D
          more x j = omega (arith, j, deep, some)

      list : Expression
      list = constructed (form_names_of a) D e

      third : (b : Bool) → is_exchange_of D hs ≡ b
          → IsPlaced k (length D) (most + length D) (cond b (Transpose plain) list)
      third true q = exchanged q
      third false q = built

      otherwise : Expression
      otherwise = cond (is_exchange_of D hs) (Transpose plain) list

      second : (b : Bool) → (a.may_spread && is_part_of D hs) ≡ b
          → IsPlaced k (length D) (most + length D) (cond b (spread_over (form_names_of a) hs 1 D plain) otherwise)
      second true q = let parts = both a.may_spread (is_part_of D hs) q in spread parts.0 parts.1
      second false q = third (is_exchange_of D hs) refl

      further : Expression
      further = cond (a.may_spread && is_part_of D hs) (spread_over (form_names_of a) hs 1 D plain) otherwise

      first : (b : Bool) → same_loops D hs ≡ b → IsPlaced k (length D) (most + length D) (cond b plain further)
      first true q = as_it_is q
      first false q = second (a.may_spread && is_part_of D hs) refl
