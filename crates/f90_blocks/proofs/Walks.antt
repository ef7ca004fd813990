-- The walk over the statements, from the last one back.
use Rattle.std.proofs.Common.{◌≡◌, ◌∙◌, ap, sym, subst, refl, ℕ, Bool, true, false, cond, Option, Some, None, List, []}
use Rattle.std.proofs.Common.{◌∷◌, ◌++◌, append_assoc, append-nil}
use Rattle.std.specs.List.{filter, list_any}
use Rattle.tree.specs.Plain as tree
use Rattle.tree.specs.declared.functions.Intrinsic.{Intrinsic}
use Rattle.f90_laws.specs.blocks.Blocks.{name_target}
use Rattle.f90_grammar.specs.Forms as forms
use Rattle.f90_grammar.specs.Forms.{Form90}
use Rattle.f90_grammar.specs.Blocks.{Placed, IsSimple, AreBlock90}
use Rattle.f90_grammar.specs.Blocks.IsSimple.{assigns, masks, goes, stops, reads, reads_nothing, prints, prints_nothing}
use Rattle.f90_grammar.specs.Blocks.IsSimple.{allocates, deallocates}
use Rattle.f90_grammar.specs.Blocks.AreBlock90.{nothing}
use Rattle.f90_grammar.specs.Order.{Opened, Place90, IsInOrder, is_executable90, opened_by, opened_behind}
use Rattle.f90_statement.specs.Views.{AreOf}
use Rattle.f90_blocks.specs.statement_trees.Trees.{IsTreeOf, IsTreeIn}
use Rattle.f90_blocks.specs.declared.statement_trees.nodes.StatementTree.{StatementTree}
use Rattle.f90_blocks.specs.declared.statement_trees.nodes.StatementTree.TheVariants.{Simple, Test, If, ElseIf, Else, EndIf}
use Rattle.f90_blocks.specs.declared.statement_trees.nodes.StatementTree.TheVariants.{Do, EndDo, Continue}
use Rattle.f90_blocks.specs.declared.nodes.Treed.{Treed}
use Rattle.f90_blocks.specs.declared.open.Rest.{Rest}
use Rattle.f90_blocks.specs.Rests.{Ended, IsRest, Shows, Stands, IsNext, block_seen, opens_seen}
use Rattle.f90_blocks.specs.Targets.{target_at, names}
use Rattle.f90_blocks.specs.Treed.{IsTreedOf, MarksAreTaken}
use Rattle.f90_blocks.proofs.Closed.{closed, opened_one, right_at}
use Rattle.f90_blocks.proofs.Named.{targets_named}
use Rattle.f90_blocks.proofs.Steps.{shown}

abbrev executables : List Placed → List Placed
executables ps = filter (λ (p : Placed). is_executable90 p.form) ps

-- the last of them, and those before it
pub record Split (function : List ℕ → Option Intrinsic) (ts : List Treed) (t : Treed) (ps : List Placed) : Type 0 where
  pub front : List Placed
  pub last : Placed
  pub same : ps ≡ front ++ last ∷ []
  pub are : AreOf (IsTreedOf function) ts front
  pub is : IsTreedOf function t last

split : (function : List ℕ → Option Intrinsic) (ts : List Treed) (t : Treed) (ps : List Placed)
    → AreOf (IsTreedOf function) (ts ++ t ∷ []) ps → Split function ts t ps
split function [] t (p ∷ []) a = record { front = []; last = p; same = refl; are = tt; is = a.0 }
split function [] t (p ∷ (q ∷ ps)) a = absurd a.1
split function [] t [] a = absurd a
split function (u ∷ ts) t (p ∷ ps) a =
    let s = split function ts t ps a.1 in
    record { front = p ∷ s.front; last = s.last; same = ap (λ qs. p ∷ qs) s.same; are = (a.0, s.are); is = s.is }
split function (u ∷ ts) t [] a = absurd a

none_are : (function : List ℕ → Option Intrinsic) (ps : List Placed) → AreOf (IsTreedOf function) [] ps → ps ≡ []
none_are function [] a = refl
none_are function (p ∷ ps) a = absurd a

simple_runs : (function : List ℕ → Option Intrinsic) (p : Placed) (c : tree.Statement)
    → IsSimple function (λ n. false) p c → is_executable90 p.form ≡ true
simple_runs function p c (assigns line m l r) = refl
simple_runs function p c (masks line m q l r) = refl
simple_runs function p c (goes line digits) = refl
simple_runs function p c (stops line) = refl
simple_runs function p c (reads line is) = refl
simple_runs function p c (reads_nothing line) = refl
simple_runs function p c (prints line is) = refl
simple_runs function p c (prints_nothing line) = refl
simple_runs function p c (allocates line x es) = refl
simple_runs function p c (deallocates line x) = refl

runs : (function : List ℕ → Option Intrinsic) (p : Placed) (t : StatementTree) → IsTreeOf function p t
    → is_executable90 p.form ≡ true
runs function p (Simple s) h = simple_runs function p _ h
runs function p (Test e s) h = ap is_executable90 h.2
runs function p (If e) h = ap (λ (x : Placed). is_executable90 x.form) h.1
runs function p (ElseIf e) h = ap (λ (x : Placed). is_executable90 x.form) h.1
runs function p Else h = ap (λ (x : Placed). is_executable90 x.form) h
runs function p EndIf h = ap (λ (x : Placed). is_executable90 x.form) h
runs function p (Do x a b c) h = ap (λ (x : Placed). is_executable90 x.form) h.3
runs function p EndDo h = ap (λ (x : Placed). is_executable90 x.form) h
runs function p (Continue None) h = ap (λ (x : Placed). is_executable90 x.form) h
runs function p (Continue (Some n)) h = ap (λ (x : Placed). is_executable90 x.form) h.2

idle_opens : (f : Form90) (os : List Opened) → is_executable90 f ≡ false → opened_by f os ≡ os
idle_opens (forms.Program x) os e = refl
idle_opens forms.ImplicitNone os e = refl
idle_opens (forms.Declare k a es) os e = refl
idle_opens forms.End os e = refl
idle_opens (forms.EndProgram x) os e = refl
idle_opens f os e = absurd cc

abbrev kept : Bool → Placed → List Placed → List Placed
kept b p ps = cond b (p ∷ ps) ps

-- the statements are those that are still to come, of which the last one comes first, and those behind them, of which
-- this has been made
pub record Walked (function : List ℕ → Option Intrinsic) (ps : List Placed) (ts : List Treed) (r : Rest) : Type 0 where
  pub front : List Placed
  pub behind : List Placed
  pub same : ps ≡ front ++ behind
  pub are : AreOf (IsTreedOf function) ts front
  pub stands : Stands function (name_target ps) (opened_behind [] front) (executables behind) r

abbrev pub Walks : List Treed → List Treed → Rest → Type 0
Walks all ts r = (function : List ℕ → Option Intrinsic) (ps : List Placed) → AreOf (IsTreedOf function) all ps
    → IsInOrder ps → MarksAreTaken ps → name_target ps 0 ≡ false
    → Walked function ps ts r

pub begins : (all ts : List Treed) (r : Rest) → ts ≡ all → Shows r tree.no_statements [] → Walks all ts r
begins all ts r e s function ps are order marks z =
    record {
      front = ps;
      behind = [];
      same = sym (append-nil ps);
      are = subst (λ us. AreOf (IsTreedOf function) us ps) (sym e) are;
      stands = subst (λ os. Stands function (name_target ps) os [] r) (sym (closed ps order))
          (shown function (name_target ps) [] [] tree.no_statements [] r nothing s);
    }

-- the statement that comes next
pub record Comes (function : List ℕ → Option Intrinsic) (ps : List Placed) (ts : List Treed) (t : Treed) (r : Rest) :
    Type 0 where
  pub front : List Placed
  pub here : Placed
  pub behind : List Placed
  pub same : ps ≡ front ++ here ∷ behind
  pub are : AreOf (IsTreedOf function) ts front
  pub is : IsTreedOf function t here
  pub stands : Stands function (name_target ps) (opened_by here.form (opened_behind [] front)) (executables behind) r

comes : (function : List ℕ → Option Intrinsic) (ps : List Placed) (us ts : List Treed) (t : Treed) (r : Rest)
    → us ≡ ts ++ t ∷ [] → Walked function ps us r → Comes function ps ts t r
comes function ps us ts t r e w =
    let s = split function ts t w.front (subst (λ vs. AreOf (IsTreedOf function) vs w.front) e w.are) in
    record {
      front = s.front;
      here = s.last;
      behind = w.behind;
      same = w.same ∙ ap (λ qs. qs ++ w.behind) s.same ∙ append_assoc s.front (s.last ∷ []) w.behind;
      are = s.are;
      is = s.is;
      stands = subst (λ os. Stands function (name_target ps) os (executables w.behind) r)
          (ap (opened_behind []) s.same ∙ opened_one [] s.front s.last) w.stands;
    }

-- what is said of a statement with its tree before all that; `has` says which labels are targets
abbrev pub Begun : ℕ → StatementTree → (ℕ → Bool) → Rest → Rest → Type 0
Begun line t has r s = (function : List ℕ → Option Intrinsic) (is_target : ℕ → Bool) (os : List Opened) (p : Placed)
    (ps : List Placed)
    → ((n : ℕ) → has n ≡ is_target n) → is_target 0 ≡ false → IsNext function os line t p
    → Stands function is_target (opened_by p.form os) ps r
    → Stands function is_target os (p ∷ ps) s

abbrev pub HasTargets : List Treed → (ℕ → Bool) → Type 0
HasTargets all has = (n : ℕ) → has n ≡ list_any (λ (t : Treed). names (target_at t) n) all

pub walks_on : (all us ts : List Treed) (t : Treed) (r s : Rest) (line : ℕ) (tree : StatementTree) (has : ℕ → Bool)
    → us ≡ ts ++ t ∷ [] → t.line ≡ line → t.tree ≡ Some tree
    → HasTargets all has → Begun line tree has r s → Walks all us r → Walks all ts s
walks_on all us ts t r s line tree has e on_line some targets begun walks function ps are order marks z =
    let w = comes function ps us ts t r e (walks function ps are order marks z) in
    let is : IsTreeOf function w.here tree = subst (λ o. IsTreeIn function o w.here) some w.is.is in
    let os = opened_behind [] w.front in
    let here : Place90 = record { before = w.front; here = w.here; after = w.behind } in
    let next : IsNext function os line tree w.here = record {
      on_line = sym on_line ∙ w.is.line;
      is = is;
      mark = marks here w.same;
      fits = (right_at ps order here w.same).fits;
    } in
    let stands = begun function (name_target ps) os w.here (executables w.behind)
    (λ n. targets n ∙ targets_named function n all ps are) z next w.stands in
    record {
      front = w.front;
      behind = w.here ∷ w.behind;
      same = w.same;
      are = w.are;
      stands = subst (λ qs. Stands function (name_target ps) os qs s)
          (sym (ap (λ b. kept b w.here (executables w.behind)) (runs function w.here tree is))) stands;
    }

pub walks_past : (all us ts : List Treed) (t : Treed) (r : Rest) → us ≡ ts ++ t ∷ [] → t.tree ≡ None → Walks all us r
    → Walks all ts r
walks_past all us ts t r e no_tree walks function ps are order marks z =
    let w = comes function ps us ts t r e (walks function ps are order marks z) in
    let idle : is_executable90 w.here.form ≡ false = subst (λ o. IsTreeIn function o w.here) no_tree w.is.is in
    let os = opened_behind [] w.front in
    record {
      front = w.front;
      behind = w.here ∷ w.behind;
      same = w.same;
      are = w.are;
      stands =
          subst (λ qs. Stands function (name_target ps) os qs r)
          (sym (ap (λ b. kept b w.here (executables w.behind)) idle))
          (subst (λ o. Stands function (name_target ps) o (executables w.behind) r) (idle_opens w.here.form os idle)
          w.stands);
    }

outermost : (function : List ℕ → Option Intrinsic) (is_target : ℕ → Bool) (ps : List Placed) (b : tree.Block)
    (es : List Ended) → IsRest function is_target [] ps b es
    → AreBlock90 function is_target ps b
outermost function is_target ps b [] h = h
outermost function is_target ps b (e ∷ es) h = absurd h

pub walks_end : (all ts : List Treed) (r : Rest) (b : tree.Block) → ts ≡ [] → b ≡ block_seen r.stmts.items
    → Walks all ts r
    → (function : List ℕ → Option Intrinsic) (ps : List Placed) → AreOf (IsTreedOf function) all ps → IsInOrder ps
    → MarksAreTaken ps → name_target ps 0 ≡ false
    → AreBlock90 function (name_target ps) (executables ps) b
walks_end all ts r b e g walks function ps are order marks z =
    let w = walks function ps are order marks z in
    let none : w.front ≡ [] = none_are function w.front (subst (λ us. AreOf (IsTreedOf function) us w.front) e w.are) in
    let all_behind : w.behind ≡ ps = sym (w.same ∙ ap (λ qs. qs ++ w.behind) none) in
    let stands = subst (λ qs. Stands function (name_target ps) [] (executables qs) r) all_behind
    (subst (λ qs. Stands function (name_target ps) (opened_behind [] qs) (executables w.behind) r) none w.stands) in
    subst (λ c. AreBlock90 function (name_target ps) (executables ps) c) (sym g)
    (outermost function (name_target ps) (executables ps) (block_seen r.stmts.items) (opens_seen r.opened.items) stands)
