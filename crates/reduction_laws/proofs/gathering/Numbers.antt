-- Numbers that are gathered one after another.
use Rattle.std.proofs.Common.{◌≡◌, refl, ap, ◌∙◌, ℕ, ◌+◌, ◌≤◌, ◌<◌, ◌^◌, ℤ, pos, negsuc, ◌+ℤ◌, ◌-ℤ◌, Bool, true, false, cond, List, [], ◌∷◌, Result, Ok, Err, arith}
use Rattle.std.specs.Prelude.{◌≤ℤ◌, int_lt}
use Rattle.std.specs.Int.{int_max, int_min}
use Rattle.std.specs.List.{fold}
use Rattle.std.proofs.lemmas.Int.{ints, clamps}
use Rattle.std.proofs.lemmas.Bool.Decides.{Decides-ltb}
use Rattle.std.proofs.Math.Nat.{pow-le-pow_right}
use Rattle.tree.specs.Operators.{fits, number, reduced, sum_from}
use Rattle.tree.specs.declared.ops.Value.{Value}
use Rattle.tree.specs.declared.ops.Value.TheVariants.{Int}
use Rattle.tree.specs.declared.ops.Fault.{Fault}
use Rattle.tree.specs.declared.ops.Fault.TheVariants.{Overflow}
use Rattle.tree.specs.declared.functions.Red.{Red}
use Rattle.tree.specs.declared.functions.Red.TheVariants.{Sum, MaxVal, MinVal}
use Rattle.reductions.specs.declared.gathering.Gathering.{Gathering}
use Rattle.reductions.specs.declared.gathering.Gathering.TheVariants.{Adds, Takes, Greatest, Least}

-- -2 ^ n to 2 ^ n - 1, with a power m
pub record Between (m : ℕ) (z : ℤ) : Type 0 where
  pub low : pos 0 ≤ℤ (z +ℤ pos m)
  pub high : (z +ℤ pos 1) ≤ℤ pos m

pub between : (n : ℕ) (z : ℤ) → fits n z ≡ true → Between (2 ^ n) z
between n (pos k) e = let h : k < 2 ^ n = (Decides-ltb k (2 ^ n)).0 e in record { low = omega (arith, ints); high = omega (arith, ints, h) }
between n (negsuc k) e = let h : k < 2 ^ n = (Decides-ltb k (2 ^ n)).0 e in record { low = omega (arith, ints, h); high = omega (arith, ints) }

pub within : (n : ℕ) (z : ℤ) → Between (2 ^ n) z → fits n z ≡ true
within n (pos k) h = (Decides-ltb k (2 ^ n)).1 (let a = h.high in omega (arith, ints, a))
within n (negsuc k) h = (Decides-ltb k (2 ^ n)).1 (let a = h.low in omega (arith, ints, a))

pub power_fits : (b c : ℕ) → b ≤ c → 2 ^ b ≤ 2 ^ c
power_fits b c h = pow-le-pow_right (let t : 1 ≤ 2 = omega arith in t) h

pub wider : (b c : ℕ) (z : ℤ) → b ≤ c → fits b z ≡ true → fits c z ≡ true
wider b c z h e = let p = power_fits b c h in let w = between b z e in let l = w.low in let k = w.high in
    within c z (record { low = omega (arith, ints, p, l); high = omega (arith, ints, p, k) })

-- the difference of two numbers of 64 bits and a sign is within 128 bits
pub difference_fits : (b : ℕ) (x y z : ℤ) → b ≤ 64 → fits b x ≡ true → fits b y ≡ true → x ≡ y +ℤ z → fits 127 z ≡ true
difference_fits b x y z h e f g =
    let p = power_fits b 64 h in
    let q : 2 ^ 64 + 2 ^ 64 ≤ 2 ^ 127 = omega arith in
    let u = between b x e in let v = between b y f in
    let ul = u.low in let uh = u.high in let vl = v.low in let vh = v.high in
    within 127 z (record { low = omega (arith, ints, p, q, ul, uh, vl, vh, g); high = omega (arith, ints, p, q, ul, uh, vl, vh, g) })

-- ---- one turn, and all turns

abbrev pub step : Gathering → ℤ → ℤ → ℤ
step (Adds turned) a z = a +ℤ z
step Takes a z = a -ℤ z
step (Greatest turned) a z = int_max a z
step (Least turned) a z = int_min a z

abbrev pub total : Gathering → ℤ → List ℤ → ℤ
total g a zs = fold (step g) a zs

-- each number that is stored is in range
abbrev pub AllFit : ℕ → Gathering → ℤ → List ℤ → Type 0
AllFit b g a [] = Unit {0}
AllFit b g a (z ∷ zs) = (fits b (step g a z) ≡ true) × AllFit b g (step g a z) zs

abbrev pub EachFits : List ℤ → Type 0
EachFits [] = Unit {0}
EachFits (z ∷ zs) = (fits 127 z ≡ true) × EachFits zs

pub total_fits : (b : ℕ) (g : Gathering) (a : ℤ) (zs : List ℤ) → fits b a ≡ true → AllFit b g a zs → fits b (total g a zs) ≡ true
total_fits b g a [] e h = e
total_fits b g a (z ∷ zs) e h = total_fits b g (step g a z) zs h.0 h.1

abbrev pub Reduced : ℕ → Red → Gathering → ℤ → ℤ → List ℤ → Type 0
Reduced b r g a z zs = (n : ℤ) × (reduced b r (z ∷ zs) ≡ Ok (Int n)) × (total g a (z ∷ zs) ≡ step g a n)

added : (b : ℕ) (t : Bool) (a c acc : ℤ) (zs : List ℤ) → b ≤ 64 → fits b a ≡ true → acc ≡ a +ℤ c → AllFit b (Adds t) acc zs
    → (n : ℤ) × (sum_from c zs ≡ Ok (Int n)) × (total (Adds t) acc zs ≡ a +ℤ n)
added b t a c acc [] low e s h = (c, refl, s)
added b t a c acc (z ∷ zs) low e s h =
    let more : acc +ℤ z ≡ a +ℤ (c +ℤ z) = omega (arith, ints, s) in
    let fit : fits 127 (c +ℤ z) ≡ true = difference_fits b (acc +ℤ z) a (c +ℤ z) low h.0 e more in
    let rest = added b t a (c +ℤ z) (acc +ℤ z) zs low e more h.1 in
    (rest.0, ap (λ b. let r : Result Value Fault = cond b (sum_from (c +ℤ z) zs) (Err Overflow) in r) fit ∙ rest.1, rest.2)

taken : (b : ℕ) (a c acc : ℤ) (zs : List ℤ) → b ≤ 64 → fits b a ≡ true → acc ≡ a -ℤ c → AllFit b Takes acc zs
    → (n : ℤ) × (sum_from c zs ≡ Ok (Int n)) × (total Takes acc zs ≡ a -ℤ n)
taken b a c acc [] low e s h = (c, refl, s)
taken b a c acc (z ∷ zs) low e s h =
    let more : acc -ℤ z ≡ a -ℤ (c +ℤ z) = omega (arith, ints, s) in
    let back : a ≡ (acc -ℤ z) +ℤ (c +ℤ z) = omega (arith, ints, s) in
    let fit : fits 127 (c +ℤ z) ≡ true = difference_fits b a (acc -ℤ z) (c +ℤ z) low e h.0 back in
    let rest = taken b a (c +ℤ z) (acc -ℤ z) zs low e more h.1 in
    (rest.0, ap (λ b. let r : Result Value Fault = cond b (sum_from (c +ℤ z) zs) (Err Overflow) in r) fit ∙ rest.1, rest.2)

max_assoc : (a b c : ℤ) → int_max (int_max a b) c ≡ int_max a (int_max b c)
max_assoc a b c = omega (arith, ints, clamps)

min_assoc : (a b c : ℤ) → int_min (int_min a b) c ≡ int_min a (int_min b c)
min_assoc a b c = omega (arith, ints, clamps)

pub max_turned : (a b : ℤ) → int_max a b ≡ int_max b a
max_turned a b = omega (arith, ints, clamps)

pub min_turned : (a b : ℤ) → int_min a b ≡ int_min b a
min_turned a b = omega (arith, ints, clamps)

greatest : (a z : ℤ) (zs : List ℤ) → fold int_max (int_max a z) zs ≡ int_max a (fold int_max z zs)
greatest a z [] = refl
greatest a z (y ∷ zs) = ap (λ m. fold int_max m zs) (max_assoc a z y) ∙ greatest a (int_max z y) zs

least : (a z : ℤ) (zs : List ℤ) → fold int_min (int_min a z) zs ≡ int_min a (fold int_min z zs)
least a z [] = refl
least a z (y ∷ zs) = ap (λ m. fold int_min m zs) (min_assoc a z y) ∙ least a (int_min z y) zs

max_fits : (a b : ℤ) → fits 127 a ≡ true → fits 127 b ≡ true → fits 127 (int_max a b) ≡ true
max_fits a b e f = by (int_lt b a)
  where
    by : (t : Bool) → fits 127 (cond t a b) ≡ true
    by true = e
    by false = f

min_fits : (a b : ℤ) → fits 127 a ≡ true → fits 127 b ≡ true → fits 127 (int_min a b) ≡ true
min_fits a b e f = by (int_lt b a)
  where
    by : (t : Bool) → fits 127 (cond t b a) ≡ true
    by true = f
    by false = e

all_max_fits : (a : ℤ) (zs : List ℤ) → fits 127 a ≡ true → EachFits zs → fits 127 (fold int_max a zs) ≡ true
all_max_fits a [] e h = e
all_max_fits a (z ∷ zs) e h = all_max_fits (int_max a z) zs (max_fits a z e h.0) h.1

all_min_fits : (a : ℤ) (zs : List ℤ) → fits 127 a ≡ true → EachFits zs → fits 127 (fold int_min a zs) ≡ true
all_min_fits a [] e h = e
all_min_fits a (z ∷ zs) e h = all_min_fits (int_min a z) zs (min_fits a z e h.0) h.1

pub numbered_by : (z : ℤ) → fits 127 z ≡ true → number z ≡ Ok (Int z)
numbered_by z e = ap (λ b. let r : Result Value Fault = cond b (Ok (Int z)) (Err Overflow) in r) e

abbrev pub red_of : Gathering → Red
red_of (Adds t) = Sum
red_of Takes = Sum
red_of (Greatest t) = MaxVal
red_of (Least t) = MinVal

-- at least one number
pub reduces : (b : ℕ) (g : Gathering) (a z : ℤ) (zs : List ℤ) → b ≤ 64 → fits b a ≡ true → AllFit b g a (z ∷ zs) → EachFits (z ∷ zs) → Reduced b (red_of g) g a z zs
reduces b (Adds t) a z zs low e h k = added b t a (pos 0) a (z ∷ zs) low e (omega (arith, ints)) h
reduces b Takes a z zs low e h k = taken b a (pos 0) a (z ∷ zs) low e (omega (arith, ints)) h
reduces b (Greatest t) a z zs low e h k = (fold int_max z zs, numbered_by (fold int_max z zs) (all_max_fits z zs k.0 k.1), greatest a z zs)
reduces b (Least t) a z zs low e h k = (fold int_min z zs, numbered_by (fold int_min z zs) (all_min_fits z zs k.0 k.1), least a z zs)
