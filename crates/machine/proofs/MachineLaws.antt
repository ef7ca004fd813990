-- Whole runs.
use Rattle.std.proofs.Common.{◌≡◌, refl, sym, ap, ◌∙◌, subst, ℕ, ◌-◌, List, [], Result, Ok, Err, Option, Some, None, append-nil, arith}
use Rattle.std.specs.Prelude.{IsSome}
use Rattle.std.specs.Io.KnownBytes.{append_known}
use Rattle.tree.specs.Plain.{Declaration, Program, Block}
use Rattle.meaning.specs.Dialect.{Dialect}
use Rattle.meaning.specs.Store.{Store}
use Rattle.meaning.specs.Sequential.{ending, end_of}
use Rattle.meaning.specs.Jumps.{AllJumpsForward}
use Rattle.meaning.specs.Run.{State, Way, Going, opening_state, does_all, run}
use Rattle.meaning.specs.declared.End.{End}
use Rattle.meaning.proofs.Arriving.{every_run_ends}
use Rattle.machine.specs.Moments.{Seen}
use Rattle.machine.specs.declared.progress.Halt.TheVariants.{Jump, Stop, Fault as Fault', Limit}
use Rattle.machine.specs.declared.progress.Left.{Left}
use Rattle.machine.specs.declared.progress.Left.TheVariants.{Halted, Unwritten}
use Rattle.machine.specs.Storage.{opening_of}
use Rattle.machine.specs.Moments.{seen_at, begun_at, steps_left, way_of}
use Rattle.meaning.specs.declared.End.TheVariants.{WriteFault}
use Rattle.machine.specs.Acts.{Elsewhere}
use Rattle.machine.proofs.BlockLaws.{none_least}
use Rattle.machine.specs.Acts.{Ended, Outcome, Runs}
use Rattle.machine.specs.Endings.{IsOpening, EndsWith, Ends, ended, IsLeftAt}

whole : (limit : Option ℕ) → limit ≡ steps_left limit 0
whole None = refl
whole (Some n) = ap (λ k. let o : Option ℕ = Some k in o) (let e : n ≡ n - 0 = omega arith in e)

pub opens : (ds : List Declaration) (s : Store) (limit : Option ℕ) → s ≡ opening_of ds → IsOpening limit (seen_at ds s (begun_at limit))
unfolding IsOpening
opens ds s limit e p input n = record {
  names_are = n;
  store = sym (e ∙ ap opening_of n);
  input_left = refl;
  had_value = refl;
  steps = whole limit;
  way_is = refl;
}

with_nothing : (bytes : Option (List ℕ)) → bytes ≡ append_known bytes []
with_nothing None = refl
with_nothing (Some xs) = ap (λ ys. let o : Option (List ℕ) = Some ys in o) (sym (append-nil xs))

ends_with : (names : List Declaration) (limit : Option ℕ) (input : List ℕ) (base : Option (List ℕ)) (m : Seen) (now : Option (List ℕ)) (way : Way) (s : State) (e : End) → end_of way ≡ Some e → Ended names limit input base m now way s → EndsWith s m base now e
ends_with names limit input base m now way s e f h = record {
  ending = ap end_of h.stands.way_is ∙ f;
  store = sym h.stands.store;
  taken = h.taken;
}

no_jump : (n : ℕ) (s : State) → IsSome (ending s) → s.way ≡ way_of (Jump n) → ⊥
no_jump n s h e = (let t = subst (λ w. IsSome (end_of w)) e h in cc)

pub ends : (names : List Declaration) (limit : Option ℕ) (input : List ℕ) (base : Option (List ℕ)) (m : Seen) (now : Option (List ℕ)) (r : Result (Unit {0}) Left) (s : State) → IsSome (ending s)
    → Outcome names limit input base m now r s → Ends names s m base now (ended r)
ends names limit input base m now (Ok x) s k h = ends_with names limit input base m now Going s _ refl h
ends names limit input base m now (Err (Halted (Jump n))) s k h = absurd (no_jump n s k h.stands.way_is)
ends names limit input base m now (Err (Halted Stop)) s k h = ends_with names limit input base m now (way_of Stop) s _ refl h
ends names limit input base m now (Err (Halted (Fault' f line))) s k h = ends_with names limit input base m now (way_of (Fault' f line)) s _ refl h
ends names limit input base m now (Err (Halted Limit)) s k h = ends_with names limit input base m now (way_of Limit) s _ refl h
ends names limit input base m now (Err Unwritten) s k h = h

pub runs_to_end : (lang : Dialect) (p : Program) (limit : Option ℕ) (input : List ℕ) (old new : Seen) (b : Block) (before now : Option (List ℕ)) (r : Result (Unit {0}) Left) → old.names ≡ p.declarations → b ≡ p.body → AllJumpsForward p
    → IsOpening limit old → Runs (λ limit. does_all lang limit b) input old before new now r → Ends p.declarations (run lang limit p input) new before now (ended r)
unfolding IsOpening Runs
runs_to_end lang p limit input old new b before now r n e f o h =
    ends p.declarations limit input before new now r (run lang limit p input) (every_run_ends lang limit p input f)
    (subst (λ b. Outcome p.declarations limit input before new now r (does_all lang limit b (opening_state p input))) e
    (h p.declarations limit before (opening_state p input) (o p input n) (with_nothing before)).0)

left_names : (names : List Declaration) (limit : Option ℕ) (input : List ℕ) (base : Option (List ℕ)) (m : Seen) (now : Option (List ℕ)) (r : Result (Unit {0}) Left) (s : State) → Outcome names limit input base m now r s → m.names ≡ names
left_names names limit input base m now (Ok x) s h = h.stands.names_are
left_names names limit input base m now (Err (Halted t)) s h = h.stands.names_are
left_names names limit input base m now (Err Unwritten) s h = h.names_are

-- the names stay
pub keeps_names : (lang : Dialect) (p : Program) (limit : Option ℕ) (input : List ℕ) (old new : Seen) (b : Block) (before now : Option (List ℕ)) (r : Result (Unit {0}) Left) → old.names ≡ p.declarations
    → IsOpening limit old → Runs (λ limit. does_all lang limit b) input old before new now r → new.names ≡ p.declarations
unfolding IsOpening Runs
keeps_names lang p limit input old new b before now r n o h =
    left_names p.declarations limit input before new now r (does_all lang limit b (opening_state p input)) (h p.declarations limit before (opening_state p input) (o p input n) (with_nothing before)).0

left_after : (lang : Dialect) (p : Program) (limit : Option ℕ) (input : List ℕ) (m : Seen) (before now : Option (List ℕ)) (r : Result (Unit {0}) Left)
    → Elsewhere before m now r (λ l. does_all lang l p.body) limit (opening_state p input) → ended r ≡ WriteFault → IsLeftAt lang limit p input m.store before now
left_after lang p limit input m before now (Ok x) h e = cc
left_after lang p limit input m before now (Err (Halted (Jump n))) h e = cc
left_after lang p limit input m before now (Err (Halted Stop)) h e = cc
left_after lang p limit input m before now (Err (Halted (Fault' f line))) h e = cc
left_after lang p limit input m before now (Err (Halted Limit)) h e = cc
left_after lang p limit input m before now (Err Unwritten) h e = record {
  count = h.count;
  within = h.within (none_least limit);
  set = h.set;
  store = h.store;
  part = h.part;
  more = h.more;
  text = h.text;
  taken = h.taken;
}

-- the store after a failed write
pub left_at : (lang : Dialect) (p : Program) (limit : Option ℕ) (input : List ℕ) (old new : Seen) (b : Block) (before now : Option (List ℕ)) (r : Result (Unit {0}) Left) → old.names ≡ p.declarations → b ≡ p.body
    → IsOpening limit old → Runs (λ limit. does_all lang limit b) input old before new now r → ended r ≡ WriteFault → IsLeftAt lang limit p input new.store before now
unfolding IsOpening Runs
left_at lang p limit input old new b before now r n e o h w =
    left_after lang p limit input new before now r
    (subst (λ b. Elsewhere before new now r (λ l. does_all lang l b) limit (opening_state p input)) e
    (h p.declarations limit before (opening_state p input) (o p input n) (with_nothing before)).1) w
