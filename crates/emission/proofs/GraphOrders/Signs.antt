-- The signs of an arc: their level, and what they cover.
use Rattle.std.proofs.Common.{◌≡◌, ℕ, zero, suc, ◌+◌, ◌<◌, List, [], ◌∷◌, ◌++◌, length, get_or, map, take}
use Rattle.std.proofs.Common.{refl, sym, ap, subst, ◌∙◌, inl, inr, arith}
use Rattle.subscripts.specs.declared.affine.Dir.{Dir}
use Rattle.subscripts.specs.declared.affine.Dir.TheVariants.{Lt, Eq, Gt, Any}
use Rattle.std.specs.List.{AllZip}
use Rattle.dependence_graph.specs.nest_graph.Vectors.{Allows}
use Rattle.nest_order.specs.orders.Graphs.{Direction, Less, Same, Greater, Sign, Just, Covers, HasLevel, MayBegin, level_after}
use Rattle.nest_order.specs.orders.Nests.{Carried, Independent}
use Rattle.emission.specs.graph_orders.Arcs.{sign_of}

abbrev pub signs : ℕ → List Dir → List Sign
signs c ds = map sign_of (take c ds)

-- the first of c directions other than `=` is `<`
pub record IsLed (c : ℕ) (ds : List Dir) : Type 0 where
  pub at : ℕ
  pub inside : at < c
  pub before : (m : ℕ) → m < at → get_or ds m Any ≡ Eq
  pub less : get_or ds at Any ≡ Lt

-- or all of them are `=`
abbrev pub IsEqual : ℕ → List Dir → Type 0
IsEqual c ds = (m : ℕ) → m < c → get_or ds m Any ≡ Eq

-- ---- levels

led_level : (j c k : ℕ) (ds : List Dir) → k < c → ((m : ℕ) → m < k → get_or ds m Any ≡ Eq) → get_or ds k Any ≡ Lt
    → level_after j (signs c ds) ≡ Carried (j + k)
led_level j c k [] i before less = cc
led_level j zero k (d ∷ ds) i before less = absurd (omega arith)
led_level j (suc c) zero (d ∷ ds) i before less =
    ap (λ z. level_after j (sign_of z ∷ signs c ds)) less ∙ (let e : j ≡ j + 0 = omega arith in ap Carried e)
led_level j (suc c) (suc k) (d ∷ ds) i before less =
    ap (λ z. level_after j (sign_of z ∷ signs c ds)) (before 0 (omega arith))
    ∙ (led_level (suc j) c k ds (omega arith) (λ m h. before (suc m) (omega arith)) less
    ∙ (let e : suc j + k ≡ j + suc k = omega arith in ap Carried e))

pub level_led : (c : ℕ) (ds : List Dir) (h : IsLed c ds) → level_after 0 (signs c ds) ≡ Carried h.at
level_led c ds h =
    led_level 0 c h.at ds h.inside h.before h.less ∙ (let e : 0 + h.at ≡ h.at = omega arith in ap Carried e)

equal_level : (j c : ℕ) (ds : List Dir) → IsEqual c ds → level_after j (signs c ds) ≡ Independent
equal_level j zero ds h = refl
equal_level j (suc c) [] h = refl
equal_level j (suc c) (d ∷ ds) h =
    ap (λ z. level_after j (sign_of z ∷ signs c ds)) (h 0 (omega arith))
    ∙ equal_level (suc j) c ds (λ m g. h (suc m) (omega arith))

pub level_equal : (c : ℕ) (ds : List Dir) → IsEqual c ds → level_after 0 (signs c ds) ≡ Independent
level_equal c ds h = equal_level 0 c ds h

led_has : (c k : ℕ) (ds : List Dir) → k < c → ((m : ℕ) → m < k → get_or ds m Any ≡ Eq) → get_or ds k Any ≡ Lt
    → HasLevel (signs c ds)
led_has c k [] i before less = cc
led_has zero k (d ∷ ds) i before less = absurd (omega arith)
led_has (suc c) zero (d ∷ ds) i before less = subst (λ z. HasLevel (sign_of z ∷ signs c ds)) (sym less) tt
led_has (suc c) (suc k) (d ∷ ds) i before less =
    subst (λ z. HasLevel (sign_of z ∷ signs c ds)) (sym (before 0 (omega arith)))
    (led_has c k ds (omega arith) (λ m h. before (suc m) (omega arith)) less)

pub has_led : (c : ℕ) (ds : List Dir) → IsLed c ds → HasLevel (signs c ds)
has_led c ds h = led_has c h.at ds h.inside h.before h.less

pub has_equal : (c : ℕ) (ds : List Dir) → IsEqual c ds → HasLevel (signs c ds)
has_equal zero ds h = tt
has_equal (suc c) [] h = tt
has_equal (suc c) (d ∷ ds) h =
    subst (λ z. HasLevel (sign_of z ∷ signs c ds)) (sym (h 0 (omega arith)))
    (has_equal c ds (λ m g. h (suc m) (omega arith)))

-- ---- a vector that they cover, with `>` for `*`

abbrev pub direction_of : Dir → Direction
direction_of Lt = Less
direction_of Eq = Same
direction_of Gt = Greater
direction_of Any = Greater

abbrev pub directions : ℕ → List Dir → List Direction
directions c ds = map direction_of (take c ds)

covers_one : (d : Dir) (ss : List Sign) (es : List Direction) → Covers ss es → Covers (sign_of d ∷ ss) (direction_of d ∷ es)
covers_one Lt ss es h = (refl, h)
covers_one Eq ss es h = (refl, h)
covers_one Gt ss es h = (refl, h)
covers_one Any ss es h = h

pub covers_own : (c : ℕ) (ds : List Dir) → Covers (signs c ds) (directions c ds)
covers_own zero ds = tt
covers_own (suc c) [] = tt
covers_own (suc c) (d ∷ ds) = covers_one d (signs c ds) (directions c ds) (covers_own c ds)

led_begins : (c k : ℕ) (ds : List Dir) (s r : ℕ) → k < c → ((m : ℕ) → m < k → get_or ds m Any ≡ Eq) → get_or ds k Any ≡ Lt
    → MayBegin (directions c ds) s r
led_begins c k [] s r i before less = cc
led_begins zero k (d ∷ ds) s r i before less = absurd (omega arith)
led_begins (suc c) zero (d ∷ ds) s r i before less =
    subst (λ z. MayBegin (direction_of z ∷ directions c ds) s r) (sym less) tt
led_begins (suc c) (suc k) (d ∷ ds) s r i before less =
    subst (λ z. MayBegin (direction_of z ∷ directions c ds) s r) (sym (before 0 (omega arith)))
    (led_begins c k ds s r (omega arith) (λ m h. before (suc m) (omega arith)) less)

pub begins_led : (c : ℕ) (ds : List Dir) (s r : ℕ) → IsLed c ds → MayBegin (directions c ds) s r
begins_led c ds s r h = led_begins c h.at ds s r h.inside h.before h.less

pub begins_equal : (c : ℕ) (ds : List Dir) (s r : ℕ) → IsEqual c ds → s < r → MayBegin (directions c ds) s r
begins_equal zero ds s r h less = less
begins_equal (suc c) [] s r h less = less
begins_equal (suc c) (d ∷ ds) s r h less =
    subst (λ z. MayBegin (direction_of z ∷ directions c ds) s r) (sym (h 0 (omega arith)))
    (begins_equal c ds s r (λ m g. h (suc m) (omega arith)) less)

-- ---- vectors that they allow

abbrev pub dir_of : Direction → Dir
dir_of Less = Lt
dir_of Same = Eq
dir_of Greater = Gt

same_sign : (v : Direction) → sign_of (dir_of v) ≡ Just v
same_sign Less = refl
same_sign Same = refl
same_sign Greater = refl

allowed_one : (d : Dir) (v : Direction) (ss : List Sign) (vs : List Direction) → Allows d (dir_of v) → Covers ss vs
    → Covers (sign_of d ∷ ss) (v ∷ vs)
allowed_one d v ss vs (inl e) h = subst (λ z. Covers (sign_of z ∷ ss) (v ∷ vs)) (sym e) h
allowed_one d v ss vs (inr e) h = subst (λ z. Covers (z ∷ ss) (v ∷ vs)) (sym (ap sign_of e ∙ same_sign v)) (refl, h)

pub covers_for : (vs : List Direction) (ds rest : List Dir) → AllZip Allows ds (map dir_of vs) → Covers (signs (length ds) (ds ++ rest)) vs
covers_for [] [] rest h = tt
covers_for (v ∷ vs) [] rest h = absurd h
covers_for [] (d ∷ ds) rest h = absurd h
covers_for (v ∷ vs) (d ∷ ds) rest h = allowed_one d v (signs (length ds) (ds ++ rest)) vs h.0 (covers_for vs ds rest h.1)
