-- The statements, the loops and the symbols of a nest that is found.
use Rattle.std.proofs.Common.{◌≡◌, refl, sym, ap, ◌∙◌, subst, inl, ℕ, ◌+◌, ◌≤◌, ◌<◌, Bool, true, false, cond, ◌&&◌, not}
use Rattle.std.proofs.Common.{List, [], ◌∷◌, ◌++◌, length, Option, Some, None, Contains, arith}
use Rattle.std.specs.List.{list_any}
use Rattle.std.specs.Option.{IsSomeAnd}
use Rattle.std.specs.Prelude.{nat_lt}
use Rattle.std.specs.Str.{bytes_eq}
use Rattle.std.proofs.lemmas.Bool.Decides.{Decides-ltb}
use Rattle.components.specs.Lists.{Each}
use Rattle.components.proofs.ListLaws.{Each-append}
use Rattle.find_nests.proofs.FoundLaws.{found_nest_is_loop}
use Rattle.find_nests.specs.Found.{InNest, found_in}
use Rattle.find_nests.specs.Loops.{SourceLoop, SurroundedLoop, loops_in, loops_in_arms, loops_in_block}
use Rattle.meaning.specs.Blocks.{Surroundings, outermost, within_loop, before_labels, labels_of}
use Rattle.meaning.specs.Dialect.{Dialect}
use Rattle.meaning.specs.Profile77 as source
use Rattle.meaning.specs.Profile77.{IsProgram77}
use Rattle.meaning.specs.Profile90 as target
use Rattle.meaning.specs.Typed77 as source_kinds
use Rattle.meaning.specs.Typed90.{IsIntegerScalar}
use Rattle.meaning.specs.Typed.{declared}
use Rattle.meaning.specs.Value.{named}
use Rattle.rewrite.specs.Names.{use_of, uses_in, uses_in_block, uses_in_arms, uses_in_control, uses_in_statement}
use Rattle.rewrite.specs.Names.{names_standing, names_written_in}
use Rattle.rewrite.specs.declared.uses.Use.{Use}
use Rattle.rewrite.specs.declared.uses.Way.TheVariants.{Writes}
use Rattle.tree.specs.Plain.{Expression, Number, Logic, Named, Unary, Binary, Apply, Constructor, Spread, Transpose}
use Rattle.tree.specs.Plain.{Reshape, Reduce, Expressions, no_expressions, expression, Subscript, Only, Section}
use Rattle.tree.specs.Plain.{Subscripts, no_subscripts, subscript, Reference, Statement, Assignment, Where, If, Do}
use Rattle.tree.specs.Plain.{Label, GoTo, Stop, Read, Print, Allocate, Deallocate, Arms, no_arms, arm, Block}
use Rattle.tree.specs.Plain.{no_statements, statement, Declaration, Program}
use Rattle.tree.specs.declared.ops.Kind.{Kind}
use Rattle.tree.specs.declared.ops.Kind.TheVariants.{Integer}
use Rattle.tree.specs.OperatorTable.{operand_kind}
use Rattle.linear_forms.proofs.Sizes.{both}
use Rattle.linear_forms.specs.CanonicalLaws.{AreDistinct}
use Rattle.nest_order.proofs.orders.Lists.{In-left, In-right}
use Rattle.nest_order.specs.orders.Lists.{In}
use Rattle.find_nests.specs.nest_parts.Numbers.{next_loop_number, number_after, after_arms, after_block}
use Rattle.find_nests.specs.nest_parts.Statements.{parts_of, branches_of, parts_of_block}
use Rattle.nest_reasons.specs.Symbols.{is_integer, is_scalar_extent, is_integer_scalar, is_symbol, symbols_of}
use Rattle.nest.specs.Plain.{Loop, Guarded, Nest, Part, parts}
use Rattle.meaning_laws.proofs.profiles.Lists.{all_at}
use Rattle.meaning_laws.proofs.profiles.Names.{found, once}
use Rattle.meaning_laws.proofs.profiles.Programs.{kept_declaration, source_with_made_names}
use Rattle.meaning_laws.specs.profiles.Profiles.{AddMadeNames}
use Rattle.pass_laws.proofs.ReadyNests.Lists.{Each-Contains}
use Rattle.pass_laws.proofs.ReadyNests.Walk.{EachIn, EachInParts, EachInBranches}
use Rattle.pass_laws.proofs.NormalFacts.FoundSymbols.{not_yes, apart, repeated, standing_free, chosen, chosen_once, IsSymbolIn}
use Rattle.pass_laws.proofs.NormalFacts.FoundSymbols.{integer_is, scalar_is}
use Rattle.pass_laws.proofs.NormalFacts.StatementKinds.{HasKinds}
use Rattle.pass_laws.proofs.NormalFacts.Texts.{IsOver, EachIsOver, AreOver, OneIsOver, IsStatementOver}

-- a name as a source has it
abbrev pub IsShort : List ℕ → Type 0
IsShort x = length x ≤ 6

-- ---- by the declarations of the program

module _ (ds : List Declaration) (short : (x : List ℕ) (d : Declaration) → declared ds x ≡ Some d → IsShort x) where
  named_short : (x : List ℕ) (P : Declaration → Type 0) → IsSomeAnd (declared ds x) P → IsShort x
  named_short x P h = by (declared ds x) refl h
    where
      by : (o : Option Declaration) → declared ds x ≡ o → IsSomeAnd o P → IsShort x
      by None e g = absurd g
      by (Some d) e g = short x d e

  mutual
    over : (e : Expression) (k : Kind) → source_kinds.HasKind ds e k → IsOver IsShort e
    over (Number n) k h = tt
    over (Logic b) k h = tt
    over (Named x ss) k h = (named_short x _ h.0, over_in ss h.1)
    over (Unary o a) k h = over a (operand_kind o) h.2
    over (Binary o a b) k h = (over a (operand_kind o) h.2, over b (operand_kind o) h.3)
    over (Apply f es) k h = over_each es h.3
    over (Constructor es ls) k h = absurd h
    over (Spread a n e) k h = absurd h
    over (Transpose a) k h = absurd h
    over (Reshape a es) k h = absurd h
    over (Reduce r a) k h = absurd h

    over_each : (es : Expressions) → source_kinds.AreArguments ds es → EachIsOver IsShort es
    over_each no_expressions h = tt
    over_each (expression e es) h = (over e Integer h.0, over_each es h.1)

    over_in : (ss : Subscripts) → source_kinds.AreSubscripts ds ss → AreOver IsShort ss
    over_in no_subscripts h = tt
    over_in (subscript s ss) h = (over_one s h.0, over_in ss h.1)

    over_one : (s : Subscript) → source_kinds.IsSubscript ds s → OneIsOver IsShort s
    over_one (Only e) h = over e Integer h
    over_one (Section a b s) h = absurd h

  assigned_over : (line : ℕ) (left : Reference) (right : Expression) (w : Surroundings) → source.IsAssignment ds left right w
      → IsStatementOver IsShort (record { line = line; guard = None; left = left; right = right })
  assigned_over line left right w h = by (declared ds left.name) refl h.0
    where
      by : (o : Option Declaration) → declared ds left.name ≡ o
          → IsSomeAnd o (λ (d : Declaration). source_kinds.IsWhole ds (Named left.name left.subscripts) d.kind × source_kinds.IsWhole ds right d.kind)
          → IsStatementOver IsShort (record { line = line; guard = None; left = left; right = right })
      by None e g = absurd g
      by (Some d) e g =
          let l = over (Named left.name left.subscripts) d.kind g.0.suits in
          record { guard = tt; name = l.0; left = l.1; right = over right d.kind g.1.suits }

-- ---- statements and loops of the source

-- names as in a source, the right side of the kind of the left one, which is no symbol
pub record IsSource (es : List Declaration) (symbols : List (List ℕ)) (s : Guarded) : Type 0 where
  pub over : IsStatementOver IsShort s
  pub kinds : HasKinds es s
  pub free : ¬ (In s.left.name symbols)

pub record IsSourceLoop (es : List Declaration) (symbols : List (List ℕ)) (l : Loop) : Type 0 where
  pub short : IsShort l.variable
  pub integer : IsIntegerScalar es l.variable
  pub free : ¬ (In l.variable symbols)
  pub number : l.number ≤ 4294967295

next_small : (k : ℕ) → k ≤ 4294967295 → next_loop_number k ≤ 4294967295
next_small k h = by (nat_lt k 4294967295) refl
  where
    by : (b : Bool) → nat_lt k 4294967295 ≡ b → cond b (k + 1) k ≤ 4294967295
    by true e = let less : k < 4294967295 = (Decides-ltb k 4294967295).0 e in omega (arith, less)
    by false e = h

mutual
  after_small : (k : ℕ) (c : Statement) → k ≤ 4294967295 → number_after k c ≤ 4294967295
  after_small k (Assignment l mark left right) h = h
  after_small k (Where l mark mask left right) h = h
  after_small k (If l arms other) h = after_block_small (after_arms k arms) other (after_arms_small k arms h)
  after_small k (Do l x a b c body) h = after_block_small (next_loop_number k) body (next_small k h)
  after_small k (Label n) h = h
  after_small k (GoTo l n) h = h
  after_small k (Stop l) h = h
  after_small k (Read l is) h = h
  after_small k (Print l is) h = h
  after_small k (Allocate l x es) h = h
  after_small k (Deallocate l x) h = h

  after_arms_small : (k : ℕ) (arms : Arms) → k ≤ 4294967295 → after_arms k arms ≤ 4294967295
  after_arms_small k no_arms h = h
  after_arms_small k (arm test body arms) h = after_arms_small (after_block k body) arms (after_block_small k body h)

  after_block_small : (k : ℕ) (b : Block) → k ≤ 4294967295 → after_block k b ≤ 4294967295
  after_block_small k no_statements h = h
  after_block_small k (statement c cs) h = after_block_small (number_after k c) cs (after_small k c h)

module _ (ds es : List Declaration) (short : (x : List ℕ) (d : Declaration) → declared ds x ≡ Some d → IsShort x) where
  -- ---- all loops of a program

  pub record IsProgramLoop (q : SurroundedLoop) : Type 0 where
    pub around : Surroundings
    pub variable : source_kinds.IsDoVariable ds q.loop.loop.variable around.variables
    pub integer : IsIntegerScalar es q.loop.loop.variable
    pub body : source.IsBlock ds q.loop.loop.body (within_loop q.loop.loop.variable around)
    pub target : target.IsBlock es q.loop.loop.body (within_loop q.loop.loop.variable around)
    pub before : q.loop.before ≤ 4294967295

  mutual
    loops_are : (k : ℕ) (around : List SourceLoop) (c : Statement) (w : Surroundings) → source.IsStatement ds c w → target.IsStatement es c w → k ≤ 4294967295
        → Each IsProgramLoop (loops_in k around c)
    loops_are k around (Assignment l mark left right) w h g m = tt
    loops_are k around (Where l mark mask left right) w h g m = tt
    loops_are k around (If l arms other) w h g m =
        Each-append IsProgramLoop (loops_in_arms k around arms) (loops_in_block (after_arms k arms) around other)
        (loops_are_arms k around arms w h.2 g.2 m) (loops_are_block (after_arms k arms) around other w h.3 g.3 (after_arms_small k arms m))
    loops_are k around (Do l x a b c body) w h g m = (
      record { around = w; variable = h.1; integer = g.1.integer; body = h.5; target = g.5; before = m },
      loops_are_block (next_loop_number k) (around ++ record { line = l; variable = x; first = a; last = b; step = c; body = body } ∷ []) body (within_loop x w) h.5 g.5 (next_small k m),
    )
    loops_are k around (Label n) w h g m = tt
    loops_are k around (GoTo l n) w h g m = tt
    loops_are k around (Stop l) w h g m = tt
    loops_are k around (Read l is) w h g m = tt
    loops_are k around (Print l is) w h g m = tt
    loops_are k around (Allocate l x vs) w h g m = tt
    loops_are k around (Deallocate l x) w h g m = tt

    loops_are_arms : (k : ℕ) (around : List SourceLoop) (arms : Arms) (w : Surroundings) → source.AreArms ds arms w → target.AreArms es arms w → k ≤ 4294967295
        → Each IsProgramLoop (loops_in_arms k around arms)
    loops_are_arms k around no_arms w h g m = tt
    loops_are_arms k around (arm test body arms) w h g m =
        Each-append IsProgramLoop (loops_in_block k around body) (loops_in_arms (after_block k body) around arms)
        (loops_are_block k around body w h.1 g.1 m) (loops_are_arms (after_block k body) around arms w h.2 g.2 (after_block_small k body m))

    loops_are_block : (k : ℕ) (around : List SourceLoop) (b : Block) (w : Surroundings) → source.IsBlock ds b w → target.IsBlock es b w → k ≤ 4294967295
        → Each IsProgramLoop (loops_in_block k around b)
    loops_are_block k around no_statements w h g m = tt
    loops_are_block k around (statement c cs) w h g m =
        Each-append IsProgramLoop (loops_in k around c) (loops_in_block (number_after k c) around cs)
        (loops_are k around c (before_labels (labels_of cs) w) h.0 g.0 m) (loops_are_block (number_after k c) around cs w h.1 g.1 (after_small k c m))

  -- ---- what stands in one of them, in which no symbol is written

  module _ (symbols : List (List ℕ)) where
    abbrev Unwritten : List Use → Type 0
    Unwritten us = (u : Use) → In u us → u.way ≡ Writes → ¬ (In u.name symbols)

    first_of : (us vs : List Use) → Unwritten (us ++ vs) → Unwritten us
    first_of us vs f u i = f u (In-left u us vs i)

    rest_of : (us vs : List Use) → Unwritten (us ++ vs) → Unwritten vs
    rest_of us vs f u i = f u (In-right u us vs i)

    abbrev Statements : List Part → Type 0
    Statements ps = EachInParts (IsSource es symbols) (IsSourceLoop es symbols) (parts ps)

    assigned : (line : ℕ) (left : Reference) (right : Expression) (w : Surroundings) → source.IsAssignment ds left right w → target.IsAssignment es left right w → ¬ (In left.name symbols)
        → IsSource es symbols (record { line = line; guard = None; left = left; right = right })
    assigned line left right w h g free = record { over = assigned_over ds short line left right w h; kinds = by (declared es left.name) refl g.0; free = free }
      where
        by : (o : Option Declaration) → declared es left.name ≡ o
            → IsSomeAnd o (λ (d : Declaration). target.IsWhole es (named left) d.kind × target.IsWhole es right d.kind)
            → HasKinds es (record { line = line; guard = None; left = left; right = right })
        by None e k = absurd k
        by (Some d) e k = record { declaration = d; found = e; right = k.1.suits }

    loop_is : (k : ℕ) (x : List ℕ) (z : Loop) (w : List (List ℕ)) → z.variable ≡ x → z.number ≡ next_loop_number k → k ≤ 4294967295 → source_kinds.IsDoVariable ds x w → IsIntegerScalar es x
        → ¬ (In x symbols) → IsSourceLoop es symbols z
    loop_is k x z w e f m h g free =
        let small = next_small k m in
        record {
          short = subst IsShort (sym e) (named_short ds short x _ h.integer.0);
          integer = subst (IsIntegerScalar es) (sym e) g;
          free = subst (λ (y : List ℕ). ¬ (In y symbols)) (sym e) free;
          number = omega (arith, f, small);
        }

    followed : (ps qs : List Part) → Statements ps → Statements qs → Statements (ps ++ qs)
    followed [] qs h k = k
    followed (p ∷ ps) qs h k = (h.0, followed ps qs h.1 k)

    mutual
      parts_are : (k : ℕ) (c : Statement) (w : Surroundings) → source.IsStatement ds c w → target.IsStatement es c w → Unwritten (uses_in_statement c) → k ≤ 4294967295 → Statements (parts_of k c)
      parts_are k (Assignment l mark left right) w h g f m = (assigned l left right w h.2 g.1 (f (use_of left.name Writes) (inl refl) refl), tt)
      parts_are k (Where l mark mask left right) w h g f m = absurd h
      parts_are k (If l arms other) w h g f m = (
        (
          parts_are_arms k arms w h.2 g.2 (first_of (uses_in_arms arms) (uses_in_block other) f) m,
          parts_are_block (after_arms k arms) other w h.3 g.3 (rest_of (uses_in_arms arms) (uses_in_block other) f) (after_arms_small k arms m),
        ),
        tt,
      )
      parts_are k (Do l x a b c body) w h g f m = (
        (
          loop_is k x _ w.variables refl refl m h.1 g.1.integer (f (use_of x Writes) (inl refl) refl),
          parts_are_block (next_loop_number k) body (within_loop x w) h.5 g.5 (rest_of (uses_in_control x a b c) (uses_in_block body) f) (next_small k m),
        ),
        tt,
      )
      parts_are k (Label n) w h g f m = (tt, tt)
      parts_are k (GoTo l n) w h g f m = (tt, tt)
      parts_are k (Stop l) w h g f m = tt
      parts_are k (Read l is) w h g f m = tt
      parts_are k (Print l is) w h g f m = tt
      parts_are k (Allocate l x vs) w h g f m = absurd h
      parts_are k (Deallocate l x) w h g f m = absurd h

      parts_are_arms : (k : ℕ) (arms : Arms) (w : Surroundings) → source.AreArms ds arms w → target.AreArms es arms w → Unwritten (uses_in_arms arms) → k ≤ 4294967295
          → EachInBranches (IsSource es symbols) (IsSourceLoop es symbols) (branches_of k arms)
      parts_are_arms k no_arms w h g f m = tt
      parts_are_arms k (arm test body arms) w h g f m =
          let own = first_of (uses_in test ++ uses_in_block body) (uses_in_arms arms) f in (
            parts_are_block k body w h.1 g.1 (rest_of (uses_in test) (uses_in_block body) own) m,
            parts_are_arms (after_block k body) arms w h.2 g.2 (rest_of (uses_in test ++ uses_in_block body) (uses_in_arms arms) f) (after_block_small k body m),
          )

      parts_are_block : (k : ℕ) (b : Block) (w : Surroundings) → source.IsBlock ds b w → target.IsBlock es b w → Unwritten (uses_in_block b) → k ≤ 4294967295 → Statements (parts_of_block k b)
      parts_are_block k no_statements w h g f m = tt
      parts_are_block k (statement c cs) w h g f m =
          followed (parts_of k c) (parts_of_block (number_after k c) cs)
          (parts_are k c (before_labels (labels_of cs) w) h.0 g.0 (first_of (uses_in_statement c) (uses_in_block cs) f) m)
          (parts_are_block (number_after k c) cs w h.1 g.1 (rest_of (uses_in_statement c) (uses_in_block cs) f) (after_small k c m))

-- ---- a nest that is found

pub record IsFoundBody (es : List Declaration) (n : Nest) : Type 0 where
  pub body : EachIn (IsSource es n.symbols) (IsSourceLoop es n.symbols) n.body
  pub symbols : (y : List ℕ) → In y n.symbols → IsSymbolIn es y × IsShort y
  pub distinct : AreDistinct n.symbols

module _ (d : Dialect) (p : Program) (es : List Declaration) (is : IsProgram77 d p) (made : AddMadeNames p.declarations es) where
  abbrev ds : List Declaration
  ds = p.declarations

  short_names : (x : List ℕ) (c : Declaration) → declared ds x ≡ Some c → IsShort x
  short_names x c e =
      let f = found ds x c e in
      let it = all_at (source.IsDeclaration d) ds c is.declarations.each f.among in
      subst IsShort f.name it.name.within

  module _ (x : List ℕ) (body : Block) where
    abbrev test : Declaration → Bool
    test = is_symbol x (names_written_in body)

    symbol_parts : (c : Declaration) → test c ≡ true → (is_integer_scalar c ≡ true) × ((bytes_eq c.name x ≡ false) × (list_any (bytes_eq c.name) (names_written_in body) ≡ false))
    symbol_parts c h =
        let p = both (is_integer_scalar c) (not (bytes_eq c.name x) && not (list_any (bytes_eq c.name) (names_written_in body))) h in
        let q = both (not (bytes_eq c.name x)) (not (list_any (bytes_eq c.name) (names_written_in body))) p.1 in
        (p.0, (not_yes (bytes_eq c.name x) q.0, not_yes (list_any (bytes_eq c.name) (names_written_in body)) q.1))

    symbol_is : (y : List ℕ) → In y (symbols_of ds x body) → IsSymbolIn es y × IsShort y
    symbol_is y i =
        let c = chosen test ds y i in
        let q = symbol_parts c.declaration c.passes in
        let k = both (is_integer c.declaration.kind) (is_scalar_extent c.declaration.extent) q.0 in
        let here : declared ds y ≡ Some c.declaration = ap (declared ds) c.name ∙ once ds c.declaration is.declarations.ordered c.among in (
          record {
            declaration = c.declaration;
            found = kept_declaration ds es made y c.declaration here;
            kind = integer_is c.declaration.kind k.0;
            scalar = scalar_is c.declaration.extent k.1;
          },
          short_names y c.declaration here,
        )

    variable_free : ¬ (In x (symbols_of ds x body))
    variable_free i =
        let c = chosen test ds x i in
        let q = symbol_parts c.declaration c.passes in
        apart c.declaration.name x q.1.0 (sym c.name)

    unwritten : (u : Use) → In u (uses_in_block body) → u.way ≡ Writes → ¬ (In u.name (symbols_of ds x body))
    unwritten u i w j =
        let c = chosen test ds u.name j in
        let q = symbol_parts c.declaration c.passes in
        standing_free c.declaration.name (uses_in_block body) (repeated c.declaration.name (names_standing Writes (uses_in_block body)) q.1.1) u i w (sym c.name)

  pub found_body : (n : Nest) → Contains (found_in p) (InNest n) → IsFoundBody es n
  found_body n h =
      let f = found_nest_is_loop p n h in
      let whole = source_with_made_names d p es is made in
      let q = Each-Contains (IsProgramLoop ds es short_names) (loops_in_block 0 [] p.body) f.loop
      (loops_are_block ds es short_names 0 [] p.body outermost is.statements whole.statements (omega arith)) f.stands in
      let x = f.loop.loop.loop.variable in
      let body = f.loop.loop.loop.body in
      subst (IsFoundBody es) (sym f.is)
      (record {
        body = (
          loop_is ds es short_names (symbols_of ds x body) f.loop.loop.before x _ q.around.variables refl refl q.before q.variable q.integer (variable_free x body),
          parts_are_block ds es short_names (symbols_of ds x body) (next_loop_number f.loop.loop.before) body (within_loop x q.around) q.body q.target (unwritten x body) (next_small f.loop.loop.before q.before),
        );
        symbols = symbol_is x body;
        distinct = chosen_once (test x body) ds is.declarations.ordered;
      })
