-- How what a machine does is put together, as acts are.
use Rattle.std.proofs.Common.{◌≡◌, refl, sym, ap, ◌∙◌, subst, ℕ, ◌+◌, ◌<◌, Bool, true, false, List, ◌++◌, drop, Result, Ok, Err, Option, Some, append_assoc, arith}
use Rattle.std.specs.Io.KnownBytes.{append_known}
use Rattle.tree.specs.Plain.{Declaration}
use Rattle.tree.specs.declared.ops.Value.{Value}
use Rattle.tree.specs.declared.ops.Fault.{Fault}
use Rattle.tree.specs.declared.ops.Fault.TheVariants.{Overflow}
use Rattle.meaning.specs.Dialect.{Dialect}
use Rattle.meaning.specs.Store.{Store, Cell, put}
use Rattle.meaning.specs.Value.{is_in_range}
use Rattle.meaning.specs.Cuts.{IsAtMost}
use Rattle.meaning.specs.Texts.{without_cr}
use Rattle.meaning.specs.Run.{State, Act, Going, Failed, Cut, then, either, goes, while_going, on_way, answered, evaluates, stores, counts_step, checks_range, is_allowed, nothing}
use Rattle.machine.specs.Moments.{Seen}
use Rattle.machine.specs.declared.progress.Halt.{Halt}
use Rattle.machine.specs.declared.progress.Halt.TheVariants.{Jump, Stop, Fault as Fault', Limit}
use Rattle.machine.specs.declared.progress.Left.{Left}
use Rattle.machine.specs.declared.progress.Left.TheVariants.{Halted, Unwritten}
use Rattle.machine.specs.Storage.{place}
use Rattle.machine.specs.Stored.{Finds}
use Rattle.machine.specs.declared.progress.Progress.{Progress}
use Rattle.machine.specs.Moments.{Stands, way_of, CountsStep, located, chosen, checked}
use Rattle.machine.specs.Acts.{LimitedAct, Ended, Outcome, Same, HasCut, Elsewhere, all_set, Runs}
use Rattle.std.proofs.lemmas.Bool.Decides.{Decides-ltb}
use Rattle.std.proofs.Common.{◌≤◌, [], ◌∷◌, ℤ, None}
use Rattle.tree.specs.declared.ops.Value.TheVariants.{Int}
use Rattle.std.specs.Prelude.{IfOk}

-- the outcome at an equal moment
pub at_same : (names : List Declaration) (limit : Option ℕ) (input : List ℕ) (base : Option (List ℕ)) (m : Seen) (now : Option (List ℕ)) (r : Result (Unit {0}) Left) {s t : State}
    → t ≡ s → Outcome names limit input base m now r s → Outcome names limit input base m now r t
at_same names limit input base m now r e h = subst (Outcome names limit input base m now r) (sym e) h

-- ---- under other limits

-- an act that is the same there
pub elsewhere_same : (base : Option (List ℕ)) (m : Seen) (now : Option (List ℕ)) (r : Result (Unit {0}) Left) (f g : LimitedAct) (limit : Option ℕ) (s : State)
    → ((l : Option ℕ) → g l s ≡ f l s) → Elsewhere base m now r f limit s → Elsewhere base m now r g limit s
elsewhere_same base m now r f g limit s e h = by r h
  where
    one : Same f limit s → Same g limit s
    one h = record {
      later = subst (λ (t : State). s.steps ≤ t.steps) (sym (e limit)) h.later;
      within = λ q. subst (λ (t : State). IsAtMost t.steps limit) (sym (e limit)) (h.within q);
      same = λ n l. e (Some n) ∙ h.same n (subst (λ (t : State). t.steps ≤ n) (e limit) l) ∙ sym (e limit);
    }

    by : (r : Result (Unit {0}) Left) → Elsewhere base m now r f limit s → Elsewhere base m now r g limit s
    by (Ok x) h = one h
    by (Err (Halted (Jump n))) h = one h
    by (Err (Halted Stop)) h = one h
    by (Err (Halted (Fault' q line))) h = one h
    by (Err (Halted Limit)) h = tt
    by (Err Unwritten) h = record {
      count = h.count;
      later = h.later;
      within = h.within;
      steps = ap (λ (t : State). t.steps) (e (Some h.count)) ∙ h.steps;
      set = h.set;
      store = ap (λ (t : State). t.store) (e (Some h.count)) ∙ h.store;
      part = h.part;
      more = h.more;
      text = ap (λ (t : State). t.written) (e (Some h.count)) ∙ h.text;
      taken = h.taken;
    }

pub elsewhere_halted : (base : Option (List ℕ)) (m : Seen) (now : Option (List ℕ)) (h : Halt) (f : LimitedAct) (limit : Option ℕ) (s : State)
    → Same f limit s → Elsewhere base m now (Err (Halted h)) f limit s
elsewhere_halted base m now (Jump n) f limit s h = h
elsewhere_halted base m now Stop f limit s h = h
elsewhere_halted base m now (Fault' q line) f limit s h = h
elsewhere_halted base m now Limit f limit s h = tt

-- an act that leads from another moment with as many steps
pub elsewhere_at : (base : Option (List ℕ)) (m : Seen) (now : Option (List ℕ)) (r : Result (Unit {0}) Left) (f : LimitedAct) (limit : Option ℕ) (s t : State)
    → t.steps ≡ s.steps → Elsewhere base m now r f limit t → Elsewhere base m now r (λ l u. f l t) limit s
elsewhere_at base m now r f limit s t e h = by r h
  where
    one : Same f limit t → Same (λ l u. f l t) limit s
    one h = record {
      later = subst (λ n. n ≤ (f limit t).steps) e h.later;
      within = λ q. h.within (subst (λ n. IsAtMost n limit) (sym e) q);
      same = h.same;
    }

    by : (r : Result (Unit {0}) Left) → Elsewhere base m now r f limit t → Elsewhere base m now r (λ l u. f l t) limit s
    by (Ok x) h = one h
    by (Err (Halted (Jump n))) h = one h
    by (Err (Halted Stop)) h = one h
    by (Err (Halted (Fault' q line))) h = one h
    by (Err (Halted Limit)) h = tt
    by (Err Unwritten) h = record {
      count = h.count;
      later = subst (λ n. n ≤ h.count) e h.later;
      within = λ q. h.within (subst (λ n. IsAtMost n limit) (sym e) q);
      steps = h.steps;
      set = h.set;
      store = h.store;
      part = h.part;
      more = h.more;
      text = h.text;
      taken = h.taken;
    }

-- an act that counts no step, and no limit
pub steady : (f : Act) (limit : Option ℕ) (s : State) → (f s).steps ≡ s.steps → Same (λ l. f) limit s
steady f limit s e = record { later = omega (arith, e); within = λ q. subst (λ n. IsAtMost n limit) (sym e) q; same = λ n l. refl }

-- an act that is begun on the way that goes on
pub begun : (k : Act) (s : State) → s.way ≡ Going → while_going k s ≡ k s
unfolding while_going
begun k s e = ap (λ w. on_way w k s) e

-- ---- nothing, and ends

ended : (names : List Declaration) (limit : Option ℕ) (input : List ℕ) (base : Option (List ℕ)) (m : Seen) (now : Option (List ℕ)) (h : Halt) (s : State)
    → Stands names limit input m Going s → now ≡ append_known base s.written → Ended names limit input base m now (way_of h) (goes (way_of h) s)
ended names limit input base m now h s d e = record {
  stands = record { names_are = d.names_are; store = d.store; input_left = d.input_left; had_value = d.had_value; steps = d.steps; way_is = refl };
  taken = e;
}

pub Runs-goes : (input : List ℕ) (m : Seen) (now : Option (List ℕ)) (h : Halt) → Runs (λ limit. goes (way_of h)) input m now m now (Err (Halted h))
unfolding Runs
Runs-goes input m now h names limit base s d e = (ended names limit input base m now h s d e, elsewhere_halted base m now h (λ l. goes (way_of h)) limit s (steady (goes (way_of h)) limit s refl))

pub Runs-nothing : (input : List ℕ) (m : Seen) (now : Option (List ℕ)) → Runs (λ limit. nothing) input m now m now (Ok tt)
unfolding Runs
Runs-nothing input m now names limit base s d e = (record { stands = d; taken = e }, steady nothing limit s refl)

-- ---- steps

step_taken : (lang : Dialect) (act : LimitedAct) (limit : Option ℕ) (s : State) → s.way ≡ Going → is_allowed limit s.steps ≡ true
    → counts_step lang limit (act limit) s ≡ act limit (record s { steps = s.steps + 1 })
unfolding counts_step
step_taken lang act limit s w p =
    begun (λ s. either (is_allowed limit s.steps) (λ t. act limit (record t { steps = t.steps + 1 })) (goes Cut) s) s w
    ∙ ap (λ t. either t (λ t. act limit (record t { steps = t.steps + 1 })) (goes Cut) s) p

allowed : (n k : ℕ) → k + 1 ≤ n → is_allowed (Some n) k ≡ true
allowed n k l = (Decides-ltb k n).1 (omega arith)

within_step : (limit : Option ℕ) (k : ℕ) → is_allowed limit k ≡ true → IsAtMost (k + 1) limit
within_step None k e = tt
within_step (Some n) k e = (let l = (Decides-ltb k n).0 e in omega arith)

module _ (lang : Dialect) (act : LimitedAct) (base : Option (List ℕ)) (m : Seen) (now : Option (List ℕ)) (limit : Option ℕ) (s : State) (w : s.way ≡ Going) (p : is_allowed limit s.steps ≡ true) where
  same_step : Same act limit (record s { steps = s.steps + 1 }) → Same (λ l. counts_step lang l (act l)) limit s
  same_step h = record {
    later = subst (λ (t : State). s.steps ≤ t.steps) (sym (step_taken lang act limit s w p)) (let l = h.later in omega arith);
    within = λ q. subst (λ (t : State). IsAtMost t.steps limit) (sym (step_taken lang act limit s w p)) (h.within (within_step limit s.steps p));
    same = λ n l.
        let k : (act limit (record s { steps = s.steps + 1 })).steps ≤ n = subst (λ (t : State). t.steps ≤ n) (step_taken lang act limit s w p) l in
        step_taken lang act (Some n) s w (allowed n s.steps (let j = h.later in omega arith)) ∙ h.same n k ∙ sym (step_taken lang act limit s w p);
  }

  elsewhere_step : (r : Result (Unit {0}) Left) → Elsewhere base m now r act limit (record s { steps = s.steps + 1 }) → Elsewhere base m now r (λ l. counts_step lang l (act l)) limit s
  elsewhere_step (Ok x) h = same_step h
  elsewhere_step (Err (Halted (Jump n))) h = same_step h
  elsewhere_step (Err (Halted Stop)) h = same_step h
  elsewhere_step (Err (Halted (Fault' q line))) h = same_step h
  elsewhere_step (Err (Halted Limit)) h = tt
  elsewhere_step (Err Unwritten) h =
      let e = step_taken lang act (Some h.count) s w (allowed h.count s.steps (let l = h.later in omega arith)) in
      record {
        count = h.count;
        later = (let l = h.later in omega arith);
        within = λ q. h.within (within_step limit s.steps p);
        steps = ap (λ (t : State). t.steps) e ∙ h.steps;
        set = h.set;
        store = ap (λ (t : State). t.store) e ∙ h.store;
        part = h.part;
        more = h.more;
        text = ap (λ (t : State). t.written) e ∙ h.text;
        taken = h.taken;
      }

module _ (lang : Dialect) (act : LimitedAct) (input : List ℕ) (old mid new : Seen) (before now : Option (List ℕ)) (r : Result (Unit {0}) Left) where
  pub Runs-counts_step : CountsStep old mid (Ok tt) → Runs act input mid before new now r → Runs (λ limit. counts_step lang limit (act limit)) input old before new now r
  unfolding Runs CountsStep
  Runs-counts_step c h names limit base s d e =
      let p = c names limit input s d in
      let k = h names limit base (record s { steps = s.steps + 1 }) p.1 e in
      (at_same names limit input base new now r (step_taken lang act limit s d.way_is p.0) k.0, elsewhere_step lang act base new now limit s d.way_is p.0 r k.1)

pub Runs-cut : (lang : Dialect) (act : LimitedAct) (input : List ℕ) (old new : Seen) (now : Option (List ℕ)) (h : Halt) → CountsStep old new (Err h)
    → Runs (λ limit. counts_step lang limit (act limit)) input old now new now (Err (Halted h))
unfolding Runs CountsStep counts_step
Runs-cut lang act input old new now h c names limit base s d e =
    subst (λ h. Ended names limit input base new now (way_of h) (counts_step lang limit (act limit) s) × Elsewhere base new now (Err (Halted h)) (λ l. counts_step lang l (act l)) limit s) (sym c.0) (
      subst (λ m. Ended names limit input base m now Cut (counts_step lang limit (act limit) s)) (sym c.1)
          (subst (Ended names limit input base old now Cut)
          (sym (begun (λ s. either (is_allowed limit s.steps) (λ t. act limit (record t { steps = t.steps + 1 })) (goes Cut) s) s d.way_is
          ∙ ap (λ t. either t (λ t. act limit (record t { steps = t.steps + 1 })) (goes Cut) s) (c.2 names limit input s d)))
          (ended names limit input base old now Limit s d e)),
      tt,
    )

-- ---- questions about the store

found : {A : Type 0} (line : ℕ) (q : Result A Fault) (x : A) → Ok x ≡ located line q → q ≡ Ok x
found line (Ok y) x e = cc
found line (Err f) x e = cc

pub Runs-evaluates : {A : Type 0} (line : ℕ) (f : Store → Result A Fault) (x : A) (k : A → LimitedAct) (input : List ℕ) (old new : Seen) (before now : Option (List ℕ)) (r : Result (Unit {0}) Left)
    → Ok x ≡ located line (f old.store) → Runs (k x) input old before new now r → Runs (λ limit. evaluates line f (λ x. k x limit)) input old before new now r
unfolding Runs evaluates
Runs-evaluates line f x k input old new before now r e h names limit base s d b =
    let at : (l : Option ℕ) → evaluates line f (λ x. k x l) s ≡ k x l s = λ l.
    begun (λ s. answered line (f s.store) (λ x. k x l) s) s d.way_is
    ∙ ap (λ q. answered line q (λ x. k x l) s) (ap f d.store ∙ found line (f old.store) x e) in
    let q = h names limit base s d b in
    (at_same names limit input base new now r (at limit) q.0, elsewhere_same base new now r (k x) (λ l. evaluates line f (λ x. k x l)) limit s at q.1)

fault_gives : {A : Type 0} (line : ℕ) (q : Result A Fault) (h : Halt) (k : A → Act) (s : State) → Err h ≡ located line q → answered line q k s ≡ goes (way_of h) s
fault_gives line (Ok x) h k s e = cc
fault_gives line (Err f) h k s e = (let same : h ≡ Fault' f line = cc in ap (λ h. goes (way_of h) s) (sym same))

pub Runs-fault : {A : Type 0} (line : ℕ) (f : Store → Result A Fault) (h : Halt) (k : A → LimitedAct) (input : List ℕ) (old : Seen) (now : Option (List ℕ))
    → Err h ≡ located line (f old.store) → Runs (λ limit. evaluates line f (λ x. k x limit)) input old now old now (Err (Halted h))
unfolding Runs evaluates
Runs-fault line f h k input old now e names limit base s d b =
    let at : (l : Option ℕ) → evaluates line f (λ x. k x l) s ≡ goes (way_of h) s = λ l.
    begun (λ s. answered line (f s.store) (λ x. k x l) s) s d.way_is
    ∙ ap (λ q. answered line q (λ x. k x l) s) (ap f d.store)
    ∙ fault_gives line (f old.store) h (λ x. k x l) s e in (
      at_same names limit input base old now (Err (Halted h)) (at limit) (ended names limit input base old now h s d b),
      elsewhere_same base old now (Err (Halted h)) (λ l. goes (way_of h)) (λ l. evaluates line f (λ x. k x l)) limit s at
          (elsewhere_halted base old now h (λ l. goes (way_of h)) limit s (steady (goes (way_of h)) limit s refl)),
    )

-- ---- what is stored

in_range_gives : (line : ℕ) (t : Bool) (x : Unit {0}) (act : Act) (s : State) → Ok x ≡ located line (chosen t) → either t act (goes (Failed Overflow line)) s ≡ act s
in_range_gives line true x act s e = refl
in_range_gives line false x act s e = cc

pub Runs-in_range : (lang : Dialect) (line : ℕ) (v : Value) (act : LimitedAct) (input : List ℕ) (old new : Seen) (before now : Option (List ℕ)) (r : Result (Unit {0}) Left) (x : Unit {0})
    → Ok x ≡ located line (checked lang.bits v) → Runs act input old before new now r → Runs (λ limit. checks_range lang limit line v (act limit)) input old before new now r
unfolding Runs checks_range
Runs-in_range lang line v act input old new before now r x e h names limit base s d b =
    let at : (l : Option ℕ) → checks_range lang l line v (act l) s ≡ act l s = λ l.
    begun (either (is_in_range lang.bits v) (act l) (goes (Failed Overflow line))) s d.way_is ∙ in_range_gives line (is_in_range lang.bits v) x (act l) s e in
    let q = h names limit base s d b in
    (at_same names limit input base new now r (at limit) q.0, elsewhere_same base new now r act (λ l. checks_range lang l line v (act l)) limit s at q.1)

out_of_range_gives : (line : ℕ) (t : Bool) (h : Halt) (act : Act) (s : State) → Err h ≡ located line (chosen t) → either t act (goes (Failed Overflow line)) s ≡ goes (way_of h) s
out_of_range_gives line true h act s e = cc
out_of_range_gives line false h act s e = (let same : h ≡ Fault' Overflow line = cc in ap (λ h. goes (way_of h) s) (sym same))

pub Runs-out_of_range : (lang : Dialect) (line : ℕ) (v : Value) (h : Halt) (act : LimitedAct) (input : List ℕ) (old : Seen) (now : Option (List ℕ))
    → Err h ≡ located line (checked lang.bits v) → Runs (λ limit. checks_range lang limit line v (act limit)) input old now old now (Err (Halted h))
unfolding Runs checks_range
Runs-out_of_range lang line v h act input old now e names limit base s d b =
    let at : (l : Option ℕ) → checks_range lang l line v (act l) s ≡ goes (way_of h) s = λ l.
    begun (either (is_in_range lang.bits v) (act l) (goes (Failed Overflow line))) s d.way_is ∙ out_of_range_gives line (is_in_range lang.bits v) h (act l) s e in (
      at_same names limit input base old now (Err (Halted h)) (at limit) (ended names limit input base old now h s d b),
      elsewhere_same base old now (Err (Halted h)) (λ l. goes (way_of h)) (λ l. checks_range lang l line v (act l)) limit s at
          (elsewhere_halted base old now h (λ l. goes (way_of h)) limit s (steady (goes (way_of h)) limit s refl)),
    )

pub Runs-stores : (c : Cell) (v : Value) (input : List ℕ) (old new : Seen) (now : Option (List ℕ))
    → new.names ≡ old.names → new.store ≡ put c v old.store → new.progress ≡ old.progress
    → Runs (λ limit. stores c v) input old now new now (Ok tt)
unfolding Runs stores
Runs-stores c v input old new now a b e names limit base s d t = (
  at_same names limit input base new now (Ok tt) (begun (λ s. record s { store = put c v s.store }) s d.way_is)
      (record {
        stands = record {
          names_are = a ∙ d.names_are;
          store = ap (put c v) d.store ∙ sym b;
          input_left = d.input_left ∙ ap (λ (p : Progress). without_cr (drop p.at input)) (sym e);
          had_value = d.had_value ∙ ap (λ (p : Progress). p.had_value) (sym e);
          steps = ap (λ (p : Progress). p.left) e ∙ d.steps;
          way_is = d.way_is;
        };
        taken = t;
      }),
  steady (stores c v) limit s (ap (λ (t : State). t.steps) (begun (λ s. record s { store = put c v s.store }) s d.way_is)),
)

-- ---- places of cells

pub found_cell : (ds : List Declaration) (line : ℕ) (q : Result Cell Fault) (p : Result ℕ Fault) (k : ℕ) → Finds ds q p → Ok k ≡ located line p
    → (c : Cell) × (Ok c ≡ located line q) × (place ds c.name c.subscripts ≡ Some k)
found_cell ds line (Ok c) (Ok j) k f e = (c, refl, f ∙ ap (λ n. let o : Option ℕ = Some n in o) (let same : j ≡ k = cc in same))
found_cell ds line (Ok c) (Err g) k f e = absurd f
found_cell ds line (Err g) (Ok j) k f e = absurd f
found_cell ds line (Err g) (Err h) k f e = cc

pub missed_cell : (ds : List Declaration) (line : ℕ) (q : Result Cell Fault) (p : Result ℕ Fault) (h : Halt) → Finds ds q p → Err h ≡ located line p → Err h ≡ located line q
missed_cell ds line (Ok c) (Ok j) h f e = cc
missed_cell ds line (Ok c) (Err g) h f e = absurd f
missed_cell ds line (Err g) (Ok j) h f e = absurd f
missed_cell ds line (Err g) (Err i) h f e = (let same : h ≡ Fault' i line = cc in ap (λ (h : Halt). let r : Result Cell Halt = Err h in r) (same ∙ ap (λ f. Fault' f line) (sym f)))

-- ---- one after the other

-- an act that does nothing on a way that has ended
abbrev pub Stays : LimitedAct → Type 0
Stays act = (limit : Option ℕ) (s : State) (h : Halt) → s.way ≡ way_of h → act limit s ≡ s

-- What is done with no step left: nothing that was written is taken back, and nothing is stored but variables of loops
pub record Idle (s t : State) : Type 0 where
  pub steps : t.steps ≡ s.steps
  pub set : List (List ℕ × ℤ)
  pub store : t.store ≡ all_set set s.store
  pub more : List ℕ
  pub text : t.written ≡ s.written ++ more

abbrev pub Idles : LimitedAct → Type 0
Idles act = (s : State) → Idle s (act (Some s.steps) s)

-- an act that takes back nothing that was written
pub record Extends (act : LimitedAct) : Type 0 where
  pub adds : (limit : Option ℕ) (s : State) → (more : List ℕ) × ((act limit s).written ≡ s.written ++ more)
  pub idles : Idles act

set_more : (ws us : List (List ℕ × ℤ)) (s : Store) → all_set (ws ++ us) s ≡ all_set us (all_set ws s)
set_more [] us s = refl
set_more (w ∷ ws) us s = set_more ws us (put (record { name = w.0; subscripts = [] }) (Int w.1) s)

pub idle_twice : (s t u : State) → Idle s t → Idle t u → Idle s u
idle_twice s t u h k = record {
  steps = k.steps ∙ h.steps;
  set = h.set ++ k.set;
  store = k.store ∙ ap (all_set k.set) h.store ∙ sym (set_more h.set k.set s.store);
  more = h.more ++ k.more;
  text = k.text ∙ ap (λ w. w ++ k.more) h.text ∙ append_assoc s.written h.more k.more;
}

module _ (f g : LimitedAct) (base : Option (List ℕ)) (m : Seen) (now : Option (List ℕ)) (limit : Option ℕ) (s : State) where
  same_then : Same f limit s → Same g limit (f limit s) → Same (λ l. then (f l) (g l)) limit s
  same_then h k = record {
    later = (let a = h.later in let b = k.later in omega arith);
    within = λ q. k.within (h.within q);
    same = λ n l. ap (g (Some n)) (h.same n (let b = k.later in omega arith)) ∙ k.same n l;
  }

  pub elsewhere_then : (r : Result (Unit {0}) Left) → Same f limit s → Elsewhere base m now r g limit (f limit s) → Elsewhere base m now r (λ l. then (f l) (g l)) limit s
  elsewhere_then (Ok x) h k = same_then h k
  elsewhere_then (Err (Halted (Jump n))) h k = same_then h k
  elsewhere_then (Err (Halted Stop)) h k = same_then h k
  elsewhere_then (Err (Halted (Fault' q line))) h k = same_then h k
  elsewhere_then (Err (Halted Limit)) h k = tt
  elsewhere_then (Err Unwritten) h k =
      let e : g (Some k.count) (f (Some k.count) s) ≡ g (Some k.count) (f limit s) = ap (g (Some k.count)) (h.same k.count k.later) in
      record {
        count = k.count;
        later = (let a = h.later in let b = k.later in omega arith);
        within = λ q. k.within (h.within q);
        steps = ap (λ (t : State). t.steps) e ∙ k.steps;
        set = k.set;
        store = ap (λ (t : State). t.store) e ∙ k.store;
        part = k.part;
        more = k.more;
        text = ap (λ (t : State). t.written) e ∙ k.text;
        taken = k.taken;
      }

  -- the second one stays where the first one led
  same_stays : Same f limit s → ((l : Option ℕ) → g l (f limit s) ≡ f limit s) → Same (λ l. then (f l) (g l)) limit s
  same_stays h k = record {
    later = subst (λ (t : State). s.steps ≤ t.steps) (sym (k limit)) h.later;
    within = λ q. subst (λ (t : State). IsAtMost t.steps limit) (sym (k limit)) (h.within q);
    same = λ n l. ap (g (Some n)) (h.same n (subst (λ (t : State). t.steps ≤ n) (k limit) l)) ∙ k (Some n) ∙ sym (k limit);
  }

  pub elsewhere_stays : (h : Halt) → Elsewhere base m now (Err (Halted h)) f limit s → ((l : Option ℕ) → g l (f limit s) ≡ f limit s)
      → Elsewhere base m now (Err (Halted h)) (λ l. then (f l) (g l)) limit s
  elsewhere_stays (Jump n) h k = same_stays h k
  elsewhere_stays Stop h k = same_stays h k
  elsewhere_stays (Fault' q line) h k = same_stays h k
  elsewhere_stays Limit h k = tt

  -- a write of the first one failed
  pub cut_then : HasCut base m now f limit s → Idles g → HasCut base m now (λ l. then (f l) (g l)) limit s
  cut_then h k =
      let t = f (Some h.count) s in
      let i : Idle t (g (Some h.count) t) = subst (λ n. Idle t (g (Some n) t)) h.steps (k t) in
      record {
        count = h.count;
        later = h.later;
        within = h.within;
        steps = i.steps ∙ h.steps;
        set = h.set ++ i.set;
        store = i.store ∙ ap (all_set i.set) h.store ∙ sym (set_more h.set i.set m.store);
        part = h.part;
        more = h.more ++ i.more;
        text = i.text ∙ ap (λ w. w ++ i.more) h.text ∙ append_assoc h.part h.more i.more;
        taken = h.taken;
      }

module _ (f g : LimitedAct) (input : List ℕ) (old mid : Seen) (before now : Option (List ℕ)) where
  pub Runs-then : (new : Seen) (after : Option (List ℕ)) (r : Result (Unit {0}) Left) → Runs f input old before mid now (Ok tt) → Runs g input mid now new after r
      → Runs (λ limit. then (f limit) (g limit)) input old before new after r
  unfolding Runs
  Runs-then new after r h k names limit base s d b =
      let e = h names limit base s d b in
      let q = k names limit base (f limit s) e.0.stands e.0.taken in
      (q.0, elsewhere_then f g base new after limit s r e.1 q.1)

  pub Runs-halted : (h : Halt) → Runs f input old before mid now (Err (Halted h)) → Stays g → Runs (λ limit. then (f limit) (g limit)) input old before mid now (Err (Halted h))
  unfolding Runs
  Runs-halted h k stays names limit base s d b =
      let e = k names limit base s d b in (
        subst (Ended names limit input base mid now (way_of h)) (sym (stays limit (f limit s) h e.0.stands.way_is)) e.0,
        elsewhere_stays f g base mid now limit s h e.1 (λ l. stays l (f limit s) h e.0.stands.way_is),
      )

  pub Runs-unwritten : Runs f input old before mid now (Err Unwritten) → Extends g → Runs (λ limit. then (f limit) (g limit)) input old before mid now (Err Unwritten)
  unfolding Runs
  Runs-unwritten k extends names limit base s d b =
      let e = k names limit base s d b in
      let m = extends.adds limit (f limit s) in (
        record { names_are = e.0.names_are; front = e.0.front; rest = e.0.rest ++ m.0; whole = m.1 ∙ ap (λ t. t ++ m.0) e.0.whole ∙ append_assoc e.0.front e.0.rest m.0; taken = e.0.taken },
        cut_then f g base mid now limit s e.1 extends.idles,
      )

pub ended_way : (k : Act) (s : State) (h : Halt) → s.way ≡ way_of h → while_going k s ≡ s
unfolding while_going
ended_way k s (Jump n) e = ap (λ w. on_way w k s) e
ended_way k s Stop e = ap (λ w. on_way w k s) e
ended_way k s (Fault' f line) e = ap (λ w. on_way w k s) e
ended_way k s Limit e = ap (λ w. on_way w k s) e

pub Stays-evaluates : {A : Type 0} (line : ℕ) (f : Store → Result A Fault) (k : A → LimitedAct) → Stays (λ limit. evaluates line f (λ x. k x limit))
unfolding evaluates
Stays-evaluates line f k limit s h e = ended_way (λ s. answered line (f s.store) (λ x. k x limit) s) s h e

pub within_located : (line n k : ℕ) (q : Result ℕ Fault) → IfOk q (λ k. k < n) → Ok k ≡ located line q → k < n
within_located line n k (Ok j) h e = (let same : j ≡ k = cc in omega arith)
within_located line n k (Err f) h e = cc
