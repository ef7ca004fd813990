-- What stands behind the loops goes on alike from stores that differ in inductions alone.
use Rattle.std.proofs.Common.{◌≡◌, refl, sym, ap, ◌∙◌, ℕ, ℤ, Bool, true, false, List, [], ◌∷◌, ◌++◌, Result, Ok, None}
use Rattle.std.specs.List.{AllByRecursion}
use Rattle.tree.specs.Operators.{as_truth}
use Rattle.tree.specs.Plain.{Allocate, Assignment, Block, Deallocate, Do, Expression, GoTo, If, Label, Print, Read, Reference, Statement, Stop, Where, arm, no_arms, no_statements, statement}
use Rattle.tree.specs.Steps.{◌>>=◌}
use Rattle.tree.specs.declared.ops.Fault.{Fault}
use Rattle.tree.specs.declared.ops.Value.{Value}
use Rattle.meaning.specs.Reads.{names_in, names_in_block, names_in_statement, names_in_subscripts}
use Rattle.meaning.specs.Run.{does, does_all}
use Rattle.meaning.specs.Store.{Cell, Store, cell_at, cell_in, put}
use Rattle.meaning.specs.Value.{cell_named, is_in_range, subscript_values, truth_of, value_of}
use Rattle.rewrite.specs.Following.{sequential}
use Rattle.rewrite.specs.Names.{uses_in, uses_in_block, uses_in_statement}
use Rattle.rewrite.specs.declared.uses.Use.{Use}
use Rattle.rewrite.specs.declared.uses.Way.TheVariants.{Writes}
use Rattle.rewrite.proofs.Acts.{Stays-does_all}
use Rattle.rewrite.proofs.Values.{cell_in-named, joined, parted}
use Rattle.nest_steps.specs.Leading.{Leads}
use Rattle.nest_steps.proofs.Acts.{Lands, Leads-assignment, Leads-chooses, Leads-from, Leads-nothing, Leads-then}
use Rattle.pass_laws.specs.prepared_nests.After.{AreEndings, IsEnding}
use Rattle.statement_passes.proofs.Alike.{Alike, subscripts_alike, value_alike}
use Rattle.inductions.specs.Stores.{AreApart}
use Rattle.inductions.specs.Together.{is_own}
use Rattle.inductions.specs.declared.found.Induction.{Induction}

all_left : {A : Type 0} (P : A → Type 0) (xs ys : List A) → AllByRecursion P (xs ++ ys) → AllByRecursion P xs
all_left P [] ys h = tt
all_left P (x ∷ xs) ys h = (h.0, all_left P xs ys h.1)

all_right : {A : Type 0} (P : A → Type 0) (xs ys : List A) → AllByRecursion P (xs ++ ys) → AllByRecursion P ys
all_right P [] ys h = h
all_right P (x ∷ xs) ys h = all_right P xs ys h.1

module _ (bits : ℕ) (ds : List Induction) (start : List ℕ → ℤ) (kept : List ℕ → Bool) (base : Store) (v : Induction → ℤ)
    (put_both : (c : Cell) (w : Value) (s u : Store) → is_own ds c.name ≡ false → kept c.name ≡ false → is_in_range bits w ≡ true
    → AreApart bits ds start kept base v s u
    → AreApart bits ds start kept base v (put c w s) (put c w u)) where
  abbrev Apart : Store → Store → Type 0
  Apart = AreApart bits ds start kept base v

  abbrev Other : List ℕ → Type 0
  Other x = is_own ds x ≡ false

  -- what is written is no symbol
  abbrev Fair : Use → Type 0
  Fair q = q.way ≡ Writes → kept q.name ≡ false

  alike : (s u : Store) → AreApart bits ds start kept base v s u → (xs : List (List ℕ)) → AllByRecursion (λ x. is_own ds x ≡ false) xs → AllByRecursion (Alike bits s u) xs
  alike s u a [] h = tt
  alike s u a (x ∷ xs) h = (
    (a.bounds x, λ is c e. a.held c (ap (is_own ds) (cell_in-named (s.bounds x) x is c e) ∙ h.0)),
    alike s u a xs h.1,
  )

  same_value : (e : Expression) → AllByRecursion (λ x. is_own ds x ≡ false) (names_in e) → (s u : Store) → AreApart bits ds start kept base v s u
      → value_of (sequential bits) e s ≡ value_of (sequential bits) e u
  same_value e h s u a = value_alike bits s u e (alike s u a (names_in e) h)

  lands : (r : Reference) → is_own ds r.name ≡ false → kept r.name ≡ false → AllByRecursion (λ x. is_own ds x ≡ false) (names_in_subscripts r.subscripts)
      → (s u : Store) → AreApart bits ds start kept base v s u → (w : Value) (c : Cell) → cell_named (sequential bits) r s ≡ Ok c
      → Lands bits (AreApart bits ds start kept base v) s u r c w
  lands r own free h s u a w c e =
      let zs = parted (subscript_values (sequential bits) r.subscripts s) (λ zs. cell_at r.name zs s) c e in
      let name : c.name ≡ r.name = cell_in-named (s.bounds r.name) r.name zs.part c zs.second in
      record {
        cell = c;
        named = joined (subscript_values (sequential bits) r.subscripts u) (λ zs. cell_at r.name zs u) zs.part c
            (sym (subscripts_alike bits s u r.subscripts (alike s u a (names_in_subscripts r.subscripts) h)) ∙ zs.first)
            (ap (λ b. cell_in b r.name zs.part) (sym (a.bounds r.name)) ∙ zs.second);
        put = λ range. put_both c w s u (ap (is_own ds) name ∙ own) (ap kept name ∙ free) range a;
      }

  mutual
    one_leads : (c : Statement) → IsEnding c → AllByRecursion (λ x. is_own ds x ≡ false) (names_in_statement c) → AllByRecursion Fair (uses_in_statement c)
        → Leads (AreApart bits ds start kept base v) (AreApart bits ds start kept base v) (does (sequential bits) None c) (does (sequential bits) None c)
    one_leads (Assignment line mark left right) k h w =
        Leads-assignment bits Apart Apart line line mark mark left left right right
        (λ s u a x f. sym (same_value right (all_right Other (names_in_subscripts left.subscripts) (names_in right) h.1) s u a) ∙ f)
        (λ s u a x f c e. lands left h.0 (w.0 refl) (all_left Other (names_in_subscripts left.subscripts) (names_in right) h.1) s u a x c e)
    one_leads (If line (arm test body no_arms) no_statements) k h w =
        let names = all_left Other ((names_in test ++ names_in_block body) ++ []) [] h in
        let first = all_left Other (names_in test ++ names_in_block body) [] names in
        let uses = all_left Fair ((uses_in test ++ uses_in_block body) ++ []) [] w in
        let second = all_left Fair (uses_in test ++ uses_in_block body) [] uses in
        Leads-chooses bits Apart Apart line line test test body body
        (λ s u a x f. ap (λ (r : Result Value Fault). do y ← r; as_truth y) (sym (same_value test (all_left Other (names_in test) (names_in_block body) first) s u a)) ∙ f)
        (Leads-from Apart (λ s u. Apart s u × (truth_of (sequential bits) test s ≡ Ok true)) Apart _ _ (λ s u a. a.0)
        (all_lead body k.0.0 (all_right Other (names_in test) (names_in_block body) first) (all_right Fair (uses_in test) (uses_in_block body) second)))
        (λ s u a f. a)
    one_leads (If line no_arms other) k h w = absurd k.0
    one_leads (If line (arm test body (arm t b more)) other) k h w = absurd k.0.1
    one_leads (If line (arm test body no_arms) (statement c cs)) k h w = absurd k.1
    one_leads (Where line mark mask left right) k h w = absurd k
    one_leads (Do line x first last step body) k h w = absurd k
    one_leads (Label n) k h w = absurd k
    one_leads (GoTo line n) k h w = absurd k
    one_leads (Stop line) k h w = absurd k
    one_leads (Read line is) k h w = absurd k
    one_leads (Print line is) k h w = absurd k
    one_leads (Allocate line x es) k h w = absurd k
    one_leads (Deallocate line x) k h w = absurd k

    pub all_lead : (b : Block) → AreEndings b → AllByRecursion (λ x. is_own ds x ≡ false) (names_in_block b) → AllByRecursion (λ (q : Use). q.way ≡ Writes → kept q.name ≡ false) (uses_in_block b)
        → Leads (AreApart bits ds start kept base v) (AreApart bits ds start kept base v) (does_all (sequential bits) None b) (does_all (sequential bits) None b)
    all_lead no_statements k h w = Leads-nothing Apart
    all_lead (statement c cs) k h w =
        Leads-then Apart Apart Apart _ _ _ _ (one_leads c k.0 (all_left Other (names_in_statement c) (names_in_block cs) h) (all_left Fair (uses_in_statement c) (uses_in_block cs) w))
        (Stays-does_all (sequential bits) None cs)
        (all_lead cs k.1 (all_right Other (names_in_statement c) (names_in_block cs) h) (all_right Fair (uses_in_statement c) (uses_in_block cs) w))
