-- Each entry is read from its text.
use Rattle.std.proofs.Common.{◌≡◌, ℕ, ℤ, Option, Some, None, List, [], ◌∷◌, ◌++◌, refl, sym, ap, subst, ◌∙◌, append_assoc, codes, decimal, arith}
use Rattle.std.specs.Fmt.{signed_decimal}
use Rattle.std.specs.List.{AllByRecursion, flat_map}
use Rattle.subscripts.specs.declared.affine.Dir.{Dir}
use Rattle.subscripts.specs.declared.affine.Dir.TheVariants.{Lt, Eq, Gt, Any}
use Rattle.subscripts.specs.declared.verdict.Test.{Test}
use Rattle.subscripts.specs.declared.verdict.Test.TheVariants.{Trip, Scalar, Ziv, Strong, WeakZero, Crossing, Siv, Delta}
use Rattle.subscripts.specs.declared.verdict.Test.TheVariants.{Gcd, Range, Miv, Unknown}
use Rattle.dependence_graph.specs.declared.graphs.Dep.{Dep}
use Rattle.dependence_graph.specs.declared.graphs.Dep.TheVariants.{Flow, Anti, Output}
use Rattle.dependence_graph.specs.declared.graphs.Hold.{Hold}
use Rattle.dependence_graph.specs.declared.graphs.HoldReason.{HoldReason}
use Rattle.dependence_graph.specs.declared.graphs.HoldReason.TheVariants.{Form, Triangle, Bounds}
use Rattle.listing.specs.graphs.Words.{kind_word, test_word, hold_word, direction_sign}
use Rattle.listing.specs.graphs.Lines.{Dependence, Meeting, NestEntry, LoopEntry, StatementEntry, EdgeEntry, DropEntry, HoldEntry, CycleEntry, KeepEntry, entry_text, tuple_text, statement_name, place_text, dependence_text, level_text, meeting_text, walk_text}
use Rattle.std.proofs.lemmas.List.{append-nil}
use Rattle.listing_laws.specs.reader.Listable.{IsSmall, IsSmallInteger, Lacks, IsWord, IsListableDependence, IsListableHold, IsListablePair}
use Rattle.listing_laws.specs.reader.Laws.{EntryIsRead}
use Rattle.listing_laws.specs.reader.Reader.{word, rest, last_word, before_last, tuple, number_read, signed_number_read, value_with_text, dependence_kinds, tests, hold_reasons, sign, statement_number_read, place, level_read, meeting, dependence, behind_dependence, kind_in, edge_read, drop_with, hold_read, nest_in, loop_in, statement_in, edge_in, drop_in, hold_in, cycle_in, keep_in, walk_in}
use Rattle.listing_laws.proofs.reader.Parts.{IsReadBetween, until-then, until-all, rest_behind-then, rest_behind-all, lacks-append, last-word, before-last, split-list, tuple-read}
use Rattle.listing_laws.proofs.reader.Numbers.{number_read-lacks, number_read-is, number_read-between, signed-between, statement-lacks, statement-read, statement-between, place-lacks, place-read, level_read-is, level_read-lacks}

-- ---- words

kind-read : (k : Dep) → value_with_text kind_word dependence_kinds (kind_word k) ≡ Some k
kind-read Flow = refl
kind-read Anti = refl
kind-read Output = refl

test-read : (t : Test) → value_with_text test_word tests (test_word t) ≡ Some t
test-read Trip = refl
test-read Scalar = refl
test-read Ziv = refl
test-read Strong = refl
test-read WeakZero = refl
test-read Crossing = refl
test-read Siv = refl
test-read Delta = refl
test-read Gcd = refl
test-read Range = refl
test-read Miv = refl
test-read Unknown = refl

reason-read : (r : HoldReason) → value_with_text hold_word hold_reasons (hold_word r) ≡ Some r
reason-read Form = refl
reason-read Triangle = refl
reason-read Bounds = refl

kind-lacks : (k : Dep) → IsWord (kind_word k)
kind-lacks Flow = (refl, (refl, (refl, (refl, tt))))
kind-lacks Anti = (refl, (refl, (refl, (refl, tt))))
kind-lacks Output = (refl, (refl, (refl, (refl, (refl, (refl, tt))))))

test-lacks : (t : Test) → IsWord (test_word t)
test-lacks Trip = (refl, (refl, (refl, (refl, tt))))
test-lacks Scalar = (refl, (refl, (refl, (refl, (refl, (refl, tt))))))
test-lacks Ziv = (refl, (refl, (refl, tt)))
test-lacks Strong = (refl, (refl, (refl, (refl, (refl, (refl, tt))))))
test-lacks WeakZero = (refl, (refl, (refl, (refl, (refl, (refl, (refl, (refl, tt))))))))
test-lacks Crossing = (refl, (refl, (refl, (refl, (refl, (refl, (refl, (refl, tt))))))))
test-lacks Siv = (refl, (refl, (refl, tt)))
test-lacks Delta = (refl, (refl, (refl, (refl, (refl, tt)))))
test-lacks Gcd = (refl, (refl, (refl, tt)))
test-lacks Range = (refl, (refl, (refl, (refl, (refl, tt)))))
test-lacks Miv = (refl, (refl, (refl, tt)))
test-lacks Unknown = (refl, (refl, (refl, (refl, (refl, (refl, (refl, tt)))))))

-- ---- lists

sign-lacks : (d : Dir) → Lacks 32 (direction_sign d)
sign-lacks Lt = (refl, tt)
sign-lacks Eq = (refl, tt)
sign-lacks Gt = (refl, tt)
sign-lacks Any = (refl, tt)

sign-between : (d : Dir) → IsReadBetween 44 direction_sign sign d
sign-between Lt = record { lacks = (refl, tt); some = omega arith; back = refl }
sign-between Eq = record { lacks = (refl, tt); some = omega arith; back = refl }
sign-between Gt = record { lacks = (refl, tt); some = omega arith; back = refl }
sign-between Any = record { lacks = (refl, tt); some = omega arith; back = refl }

each : {A : Type 0} {P Q : A → Type 0} → ((x : A) → P x → Q x) → (xs : List A) → AllByRecursion P xs → AllByRecursion Q xs
each f [] hs = tt
each f (x ∷ xs) hs = (f x hs.0, each f xs hs.1)

whatever : {A : Type 0} {Q : A → Type 0} → ((x : A) → Q x) → (xs : List A) → AllByRecursion Q xs
whatever f [] = tt
whatever f (x ∷ xs) = (f x, whatever f xs)

more-lacks : {A : Type 0} (text : A → List ℕ) (xs : List A) → AllByRecursion (λ x. Lacks 32 (text x)) xs
    → Lacks 32 (flat_map (λ y. codes "," ++ text y) xs ++ codes ")")
more-lacks text [] hs = (refl, tt)
more-lacks text (x ∷ xs) hs =
    subst (Lacks 32) (sym (append_assoc (codes "," ++ text x) (flat_map (λ y. codes "," ++ text y) xs) (codes ")")))
    (refl, lacks-append 32 (text x) (flat_map (λ y. codes "," ++ text y) xs ++ codes ")") hs.0 (more-lacks text xs hs.1))

tuple-lacks : {A : Type 0} (text : A → List ℕ) (xs : List A) → AllByRecursion (λ x. Lacks 32 (text x)) xs → IsWord (tuple_text text xs)
tuple-lacks text [] hs = (refl, (refl, tt))
tuple-lacks text (x ∷ xs) hs =
    (refl, lacks-append 32 (text x) (flat_map (λ y. codes "," ++ text y) xs ++ codes ")") hs.0 (more-lacks text xs hs.1))

numbers-lack : (ns : List ℕ) → AllByRecursion IsSmall ns → IsWord (tuple_text decimal ns)
numbers-lack ns hs = tuple-lacks decimal ns (each (λ n h. number_read-lacks 32 n (omega arith) h) ns hs)

numbers-read : (ns : List ℕ) → AllByRecursion IsSmall ns → tuple number_read (tuple_text decimal ns) ≡ ns
numbers-read ns hs = tuple-read decimal number_read ns (each (λ n h. number_read-between 44 n (omega arith) h) ns hs)

integers-lack : (zs : List ℤ) → AllByRecursion IsSmallInteger zs → IsWord (tuple_text signed_decimal zs)
integers-lack zs hs = tuple-lacks signed_decimal zs (each (λ z h. (signed-between 32 z (omega arith) h).lacks) zs hs)

integers-read : (zs : List ℤ) → AllByRecursion IsSmallInteger zs → tuple signed_number_read (tuple_text signed_decimal zs) ≡ zs
integers-read zs hs = tuple-read signed_decimal signed_number_read zs (each (λ z h. signed-between 44 z (omega arith) h) zs hs)

signs-lack : (ds : List Dir) → IsWord (tuple_text direction_sign ds)
signs-lack ds = tuple-lacks direction_sign ds (whatever sign-lacks ds)

signs-read : (ds : List Dir) → tuple sign (tuple_text direction_sign ds) ≡ ds
signs-read ds = tuple-read direction_sign sign ds (whatever sign-between ds)

-- ---- pairs of iterations

opened : (zs : List ℤ) (b : List ℕ) → meeting (tuple_text signed_decimal zs ++ 32 ∷ b) ≡ Some (record {
  first = tuple signed_number_read (word (tuple_text signed_decimal zs ++ 32 ∷ b));
  second = tuple signed_number_read (rest (tuple_text signed_decimal zs ++ 32 ∷ b));
})
opened [] b = refl
opened (z ∷ zs) b = refl

meeting-read : (o : Option Meeting) → IsListablePair o → meeting (meeting_text o) ≡ o
meeting-read None h = refl
meeting-read (Some m) h =
    let a = tuple_text signed_decimal m.first in
    let b = tuple_text signed_decimal m.second in
    opened m.first b
    ∙ ap (λ u. Some (record { first = tuple signed_number_read u; second = tuple signed_number_read (rest (a ++ 32 ∷ b)) }))
    (until-then 32 a b (integers-lack m.first h.first))
    ∙ ap (λ u. Some (record { first = tuple signed_number_read a; second = tuple signed_number_read u }))
    (rest_behind-then 32 a b (integers-lack m.first h.first))
    ∙ ap (λ u. Some (record { first = u; second = tuple signed_number_read b })) (integers-read m.first h.first)
    ∙ ap (λ u. Some (record { first = m.first; second = u })) (integers-read m.second h.second)

-- ---- dependences

-- five words, and what stands behind them
abbrev five : (p q k a s m : List ℕ) → List ℕ
five p q k a s m = p ++ (32 ∷ (q ++ (32 ∷ (k ++ (32 ∷ (a ++ (32 ∷ (s ++ (32 ∷ m)))))))))

flat : (p q k a s m : List ℕ) → (p ++ (32 ∷ (q ++ (32 ∷ (k ++ (32 ∷ (a ++ (32 ∷ s)))))))) ++ (32 ∷ m) ≡ five p q k a s m
flat p q k a s m = simp append_assoc

record AreWords (p q k a s : List ℕ) : Type 0 where
  first : IsWord p
  second : IsWord q
  third : IsWord k
  fourth : IsWord a
  fifth : IsWord s

record AreFive (t p q k a s m : List ℕ) : Type 0 where
  first : word t ≡ p
  second : word (rest t) ≡ q
  third : word (rest (rest t)) ≡ k
  fourth : word (rest (rest (rest t))) ≡ a
  fifth : word (rest (rest (rest (rest t)))) ≡ s
  last : behind_dependence t ≡ m

five-read : (p q k a s m : List ℕ) → AreWords p q k a s → AreFive (five p q k a s m) p q k a s m
five-read p q k a s m h =
    let t4 = s ++ (32 ∷ m) in
    let t3 = a ++ (32 ∷ t4) in
    let t2 = k ++ (32 ∷ t3) in
    let t1 = q ++ (32 ∷ t2) in
    let r1 : rest (five p q k a s m) ≡ t1 = rest_behind-then 32 p t1 h.first in
    let r2 : rest (rest (five p q k a s m)) ≡ t2 = ap rest r1 ∙ rest_behind-then 32 q t2 h.second in
    let r3 : rest (rest (rest (five p q k a s m))) ≡ t3 = ap rest r2 ∙ rest_behind-then 32 k t3 h.third in
    let r4 : rest (rest (rest (rest (five p q k a s m)))) ≡ t4 = ap rest r3 ∙ rest_behind-then 32 a t4 h.fourth in
    record {
      first = until-then 32 p t1 h.first;
      second = ap word r1 ∙ until-then 32 q t2 h.second;
      third = ap word r2 ∙ until-then 32 k t3 h.third;
      fourth = ap word r3 ∙ until-then 32 a t4 h.fourth;
      fifth = ap word r4 ∙ until-then 32 s m h.fifth;
      last = ap rest r4 ∙ rest_behind-then 32 s m h.fifth;
    }

-- a dependence's text, with more behind it
abbrev with_more : Dependence → List ℕ → List ℕ
with_more d m = five (place_text d.from) (place_text d.to) (kind_word d.kind) d.array (tuple_text direction_sign d.directions) m

flat-dependence : (d : Dependence) (m : List ℕ) → dependence_text d ++ (32 ∷ m) ≡ with_more d m
flat-dependence d m = flat (place_text d.from) (place_text d.to) (kind_word d.kind) d.array (tuple_text direction_sign d.directions) m

fields : (d : Dependence) (m : List ℕ) → IsListableDependence d
    → AreFive (with_more d m) (place_text d.from) (place_text d.to) (kind_word d.kind) d.array (tuple_text direction_sign d.directions) m
fields d m h =
    five-read (place_text d.from) (place_text d.to) (kind_word d.kind) d.array (tuple_text direction_sign d.directions) m (record {
      first = place-lacks d.from h.from;
      second = place-lacks d.to h.to;
      third = kind-lacks d.kind;
      fourth = h.array;
      fifth = signs-lack d.directions;
    })

abbrev dependence_with : List ℕ → List ℕ → Dep → List ℕ → List ℕ → Dependence
dependence_with p q kind a s = record { from = place p; to = place q; kind = kind; array = a; directions = tuple sign s }

dependence-read : (d : Dependence) (m : List ℕ) → IsListableDependence d → dependence (with_more d m) d.kind ≡ d
dependence-read d m h =
    let f = fields d m h in
    let t = with_more d m in
    ap (λ p. dependence_with p (word (rest t)) d.kind (word (rest (rest (rest t)))) (word (rest (rest (rest (rest t)))))) f.first
    ∙ ap (λ q. dependence_with (place_text d.from) q d.kind (word (rest (rest (rest t)))) (word (rest (rest (rest (rest t)))))) f.second
    ∙ ap (λ a. dependence_with (place_text d.from) (place_text d.to) d.kind a (word (rest (rest (rest (rest t)))))) f.fourth
    ∙ ap (λ s. dependence_with (place_text d.from) (place_text d.to) d.kind d.array s) f.fifth
    ∙ ap (λ p. record { from = p; to = place (place_text d.to); kind = d.kind; array = d.array; directions = tuple sign (tuple_text direction_sign d.directions) })
    (place-read d.from h.from)
    ∙ ap (λ q. record { from = d.from; to = q; kind = d.kind; array = d.array; directions = tuple sign (tuple_text direction_sign d.directions) })
    (place-read d.to h.to)
    ∙ ap (λ s. record { from = d.from; to = d.to; kind = d.kind; array = d.array; directions = s }) (signs-read d.directions)

kind-in : (d : Dependence) (m : List ℕ) → IsListableDependence d → kind_in (with_more d m) ≡ Some d.kind
kind-in d m h = ap (value_with_text kind_word dependence_kinds) (fields d m h).third ∙ kind-read d.kind

-- ---- entries

nest-read : (n line : ℕ) → IsSmall n → IsSmall line → nest_in (decimal n ++ (codes " LINE " ++ decimal line)) ≡ Some (NestEntry n line)
nest-read n line h k =
    let t = codes "LINE " ++ decimal line in
    let w = number_read-lacks 32 n (omega arith) h in
    ap (λ u. Some (NestEntry (number_read u) (number_read (rest (rest (decimal n ++ 32 ∷ t)))))) (until-then 32 (decimal n) t w)
    ∙ ap (λ i. Some (NestEntry i (number_read (rest (rest (decimal n ++ 32 ∷ t)))))) (number_read-is n h)
    ∙ ap (λ u. Some (NestEntry n (number_read (rest u)))) (rest_behind-then 32 (decimal n) t w)
    ∙ ap (λ i. Some (NestEntry n i)) (number_read-is line k)

loop-end : (trip : List ℕ) (outer : ℕ) → trip ++ (codes " IN " ++ decimal outer) ≡ (trip ++ codes " IN") ++ (32 ∷ decimal outer)
loop-end trip outer = sym (append_assoc trip (codes " IN") (32 ∷ decimal outer))

loop-read : (n : ℕ) (x trip : List ℕ) (outer : ℕ) → IsSmall n → IsWord x → IsSmall outer
    → loop_in (decimal n ++ (32 ∷ (x ++ (codes " TRIP " ++ (trip ++ (codes " IN " ++ decimal outer)))))) ≡ Some (LoopEntry n x trip outer)
loop-read n x trip outer h w k =
    let u = trip ++ (codes " IN " ++ decimal outer) in
    let t2 = codes "TRIP " ++ u in
    let t1 = x ++ (32 ∷ t2) in
    let t = decimal n ++ (32 ∷ t1) in
    let v = number_read-lacks 32 n (omega arith) h in
    let o = number_read-lacks 32 outer (omega arith) k in
    let r1 : rest t ≡ t1 = rest_behind-then 32 (decimal n) t1 v in
    let r2 : rest (rest t) ≡ t2 = ap rest r1 ∙ rest_behind-then 32 x t2 w in
    let r3 : rest (rest (rest t)) ≡ u = ap rest r2 in
    let b : before_last (before_last (rest (rest (rest t)))) ≡ trip =
    ap (λ e. before_last (before_last e)) (r3 ∙ loop-end trip outer)
    ∙ ap before_last (before-last (trip ++ codes " IN") (decimal outer) o)
    ∙ before-last trip (codes "IN") (refl, (refl, tt)) in
    let l : number_read (last_word (rest (rest (rest t)))) ≡ outer =
    ap (λ e. number_read (last_word e)) (r3 ∙ loop-end trip outer)
    ∙ ap number_read (last-word (trip ++ codes " IN") (decimal outer) o) ∙ number_read-is outer k in
    let m : number_read (word t) ≡ n = ap number_read (until-then 32 (decimal n) t1 v) ∙ number_read-is n h in
    let y : word (rest t) ≡ x = ap word r1 ∙ until-then 32 x t2 w in
    ap (λ i. Some (LoopEntry i (word (rest t)) (before_last (before_last (rest (rest (rest t))))) (number_read (last_word (rest (rest (rest t))))))) m
    ∙ ap (λ z. Some (LoopEntry n z (before_last (before_last (rest (rest (rest t))))) (number_read (last_word (rest (rest (rest t))))))) y
    ∙ ap (λ z. Some (LoopEntry n x z (number_read (last_word (rest (rest (rest t))))))) b
    ∙ ap (λ i. Some (LoopEntry n x trip i)) l

statement-entry-read : (s : ℕ) (loops : List ℕ) (text : List ℕ) → IsSmall s → AllByRecursion IsSmall loops
    → statement_in (statement_name s ++ (32 ∷ (tuple_text decimal loops ++ (32 ∷ text)))) ≡ Some (StatementEntry s loops text)
statement-entry-read s loops text h hs =
    let t1 = tuple_text decimal loops ++ (32 ∷ text) in
    let t = statement_name s ++ (32 ∷ t1) in
    let v = statement-lacks 32 s (omega arith) h in
    let r1 : rest t ≡ t1 = rest_behind-then 32 (statement_name s) t1 v in
    let m : statement_number_read (word t) ≡ s = ap statement_number_read (until-then 32 (statement_name s) t1 v) ∙ statement-read s h in
    let n : tuple number_read (word (rest t)) ≡ loops =
    ap (λ u. tuple number_read (word u)) r1 ∙ ap (tuple number_read) (until-then 32 (tuple_text decimal loops) text (numbers-lack loops hs))
    ∙ numbers-read loops hs in
    let z : rest (rest t) ≡ text = ap rest r1 ∙ rest_behind-then 32 (tuple_text decimal loops) text (numbers-lack loops hs) in
    ap (λ i. Some (StatementEntry i (tuple number_read (word (rest t))) (rest (rest t)))) m
    ∙ ap (λ ns. Some (StatementEntry s ns (rest (rest t)))) n
    ∙ ap (λ u. Some (StatementEntry s loops u)) z

drop-read : (d : Dependence) (test : Test) → IsListableDependence d
    → drop_in (dependence_text d ++ (32 ∷ test_word test)) ≡ Some (DropEntry d test)
drop-read d test h =
    let t = with_more d (test_word test) in
    ap drop_in (flat-dependence d (test_word test))
    ∙ ap (λ k. drop_with t k (value_with_text test_word tests (behind_dependence t))) (kind-in d (test_word test) h)
    ∙ ap (λ u. drop_with t (Some d.kind) (value_with_text test_word tests u)) (fields d (test_word test) h).last
    ∙ ap (drop_with t (Some d.kind)) (test-read test)
    ∙ ap (λ e. Some (DropEntry e test)) (dependence-read d (test_word test) h)

edge-read : (d : Dependence) (k : ℕ) (test : Test) (pair : Option Meeting) → IsListableDependence d → IsSmall k → IsListablePair pair
    → edge_in (dependence_text d ++ (32 ∷ (level_text k ++ (32 ∷ (test_word test ++ (32 ∷ meeting_text pair)))))) ≡ Some (EdgeEntry d k test pair)
edge-read d k test pair h small p =
    let m2 = meeting_text pair in
    let m1 = test_word test ++ (32 ∷ m2) in
    let m = level_text k ++ (32 ∷ m1) in
    let t = with_more d m in
    let b = (fields d m h).last in
    let r1 : rest (behind_dependence t) ≡ m1 = ap rest b ∙ rest_behind-then 32 (level_text k) m1 (level_read-lacks k small) in
    let v : level_read (word (behind_dependence t)) ≡ k =
    ap (λ u. level_read (word u)) b ∙ ap level_read (until-then 32 (level_text k) m1 (level_read-lacks k small)) ∙ level_read-is k small in
    let w : value_with_text test_word tests (word (rest (behind_dependence t))) ≡ Some test =
    ap (λ u. value_with_text test_word tests (word u)) r1 ∙ ap (value_with_text test_word tests) (until-then 32 (test_word test) m2 (test-lacks test)) ∙ test-read test in
    let z : meeting (rest (rest (behind_dependence t))) ≡ pair =
    ap (λ u. meeting (rest u)) r1 ∙ ap meeting (rest_behind-then 32 (test_word test) m2 (test-lacks test)) ∙ meeting-read pair p in
    ap edge_in (flat-dependence d m)
    ∙ ap (λ o. edge_read t o (value_with_text test_word tests (word (rest (behind_dependence t))))) (kind-in d m h)
    ∙ ap (edge_read t (Some d.kind)) w
    ∙ ap (λ e. Some (EdgeEntry e (level_read (word (behind_dependence t))) test (meeting (rest (rest (behind_dependence t)))))) (dependence-read d m h)
    ∙ ap (λ i. Some (EdgeEntry d i test (meeting (rest (rest (behind_dependence t)))))) v
    ∙ ap (λ o. Some (EdgeEntry d k test o)) z

hold-read : (h : Hold) → IsListableHold h
    → hold_in (statement_name h.stmt ++ (32 ∷ (decimal h.level ++ (32 ∷ hold_word h.reason)))) ≡ Some (HoldEntry h)
hold-read h k =
    let t1 = decimal h.level ++ (32 ∷ hold_word h.reason) in
    let t = statement_name h.stmt ++ (32 ∷ t1) in
    let v = statement-lacks 32 h.stmt (omega arith) k.statement in
    let l = number_read-lacks 32 h.level (omega arith) k.level in
    let r1 : rest t ≡ t1 = rest_behind-then 32 (statement_name h.stmt) t1 v in
    let m : statement_number_read (word t) ≡ h.stmt = ap statement_number_read (until-then 32 (statement_name h.stmt) t1 v) ∙ statement-read h.stmt k.statement in
    let n : number_read (word (rest t)) ≡ h.level =
    ap (λ u. number_read (word u)) r1 ∙ ap number_read (until-then 32 (decimal h.level) (hold_word h.reason) l) ∙ number_read-is h.level k.level in
    let z : value_with_text hold_word hold_reasons (rest (rest t)) ≡ Some h.reason =
    ap (λ u. value_with_text hold_word hold_reasons (rest u)) r1
    ∙ ap (value_with_text hold_word hold_reasons) (rest_behind-then 32 (decimal h.level) (hold_word h.reason) l) ∙ reason-read h.reason in
    ap (hold_read t) z
    ∙ ap (λ i. Some (HoldEntry (record { stmt = i; level = number_read (word (rest t)); reason = h.reason }))) m
    ∙ ap (λ i. Some (HoldEntry (record { stmt = h.stmt; level = i; reason = h.reason }))) n

cycle-read : (k : ℕ) (ss : List ℕ) → IsSmall k → AllByRecursion IsSmall ss → cycle_in (decimal k ++ walk_text ss) ≡ Some (CycleEntry k ss)
cycle-read k [] h hs =
    let v = number_read-lacks 32 k (omega arith) h in
    ap cycle_in (append-nil (decimal k))
    ∙ ap (λ u. Some (CycleEntry (number_read u) (walk_in (rest (decimal k))))) (until-all 32 (decimal k) v)
    ∙ ap (λ i. Some (CycleEntry i (walk_in (rest (decimal k))))) (number_read-is k h)
    ∙ ap (λ u. Some (CycleEntry k (walk_in u))) (rest_behind-all 32 (decimal k) v)
cycle-read k (s ∷ ss) h hs =
    let v = number_read-lacks 32 k (omega arith) h in
    let t1 = statement_name s ++ flat_map (λ y. 32 ∷ statement_name y) ss in
    ap (λ u. Some (CycleEntry (number_read u) (walk_in (rest (decimal k ++ 32 ∷ t1))))) (until-then 32 (decimal k) t1 v)
    ∙ ap (λ i. Some (CycleEntry i (walk_in (rest (decimal k ++ 32 ∷ t1))))) (number_read-is k h)
    ∙ ap (λ u. Some (CycleEntry k (walk_in u))) (rest_behind-then 32 (decimal k) t1 v)
    ∙ ap (λ us. Some (CycleEntry k us))
    (split-list 32 statement_name statement_number_read s ss (statement-between 32 s (omega arith) hs.0)
    (each (λ i small. statement-between 32 i (omega arith) small) ss hs.1))

keep-read : (line : ℕ) (reason : List ℕ) → IsSmall line → keep_in (decimal line ++ (32 ∷ reason)) ≡ Some (KeepEntry line reason)
keep-read line reason h =
    let v = number_read-lacks 32 line (omega arith) h in
    ap (λ u. Some (KeepEntry (number_read u) (rest (decimal line ++ 32 ∷ reason)))) (until-then 32 (decimal line) reason v)
    ∙ ap (λ i. Some (KeepEntry i (rest (decimal line ++ 32 ∷ reason)))) (number_read-is line h)
    ∙ ap (λ u. Some (KeepEntry line u)) (rest_behind-then 32 (decimal line) reason v)

pub entry-is-read : EntryIsRead
unfolding entry_text
entry-is-read (NestEntry n line) h = nest-read n line h.0 h.1
entry-is-read (LoopEntry n x trip outer) h = loop-read n x trip outer h.0 h.1.0 h.1.1
entry-is-read (StatementEntry s loops text) h = statement-entry-read s loops text h.0 h.1
entry-is-read (EdgeEntry d k test pair) h = edge-read d k test pair h.0 h.1.0 h.1.1
entry-is-read (DropEntry d test) h = drop-read d test h
entry-is-read (HoldEntry a) h = hold-read a h
entry-is-read (CycleEntry k ss) h = cycle-read k ss h.0 h.1
entry-is-read (KeepEntry line reason) h = keep-read line reason h
