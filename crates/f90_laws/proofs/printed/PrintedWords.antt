-- Each statement of a printed program has the words of its form.
use Rattle.std.proofs.Common.{◌≡◌, refl, subst, arith, ℕ, ◌<◌, ◌≤◌, Bool, true, false, cond, Option, Some, None, List, [], ◌∷◌, ◌++◌, length, map, codes, Contains}
use Rattle.std.specs.Option.{IfSome, IsSomeAnd}
use Rattle.std.specs.List.{AllByRecursion}
use Rattle.std.specs.Str.{bytes_eq}
use Rattle.std.proofs.lemmas.List.Elements.{All-contains, All-from_recursion}
use Rattle.std.proofs.lemmas.Fmt.{length-decimal-le_wide}
use Rattle.std.specs.Prelude.{decimal}
use Rattle.tree.specs.declared.ops.Kind.{Kind}
use Rattle.tree.specs.declared.ops.Kind.TheVariants.{Integer, Logical}
use Rattle.tree.specs.Plain as tree
use Rattle.tree.specs.Plain.{Expression, Expressions, Subscripts, Reference, Items, Statement, Arms, Block, Extent, Given, Later, Declaration, Program}
use Rattle.tree.specs.Limits.{array_dimensions}
use Rattle.meaning.specs.SymbolicNames.{IsLongName}
use Rattle.meaning.specs.Typed.{declared}
use Rattle.meaning.specs.Typed90.{AreScalars}
use Rattle.meaning.specs.Items90.{AreOutputItems, AreInputItems}
use Rattle.meaning.specs.Value.{named}
use Rattle.meaning.specs.Blocks.{Surroundings, outermost, within_loop, before_labels, label_of, labels_of}
use Rattle.meaning.specs.Labels.{IsLabel}
use Rattle.meaning.specs.Profile90.{IsDeclaration, IsExtent, IsAssignment, IsAllocation, IsStatement, IsBlock, AreArms}
use Rattle.f90_grammar.specs.Words.{IsName90}
use Rattle.f90_grammar.specs.Items.{IsReference90}
use Rattle.f90_grammar.specs.Forms as forms
use Rattle.f90_grammar.specs.Printing.{phrase_of}
use Rattle.f90_grammar.specs.PrintedForms.{Printed, reference_phrase, phrases_of, step_phrase, item_phrases, read_form, print_form, printed_title_of, printed_statement, printed_if, printed_arms, printed_else, printed_block, printed_declaration}
use Rattle.f90_laws.specs.printed.Spelled.{IsSpelled, PrintedIsSpelled}
use Rattle.f90_laws.proofs.printed.Spelling.{all_append}
use Rattle.f90_laws.proofs.printed.PhraseLevels.{IsGood, good, text_name, long_name, declared_name, decimal_digits}
use Rattle.f90_laws.proofs.printed.ItemWords.{step_good, input_items, output_items}
use Rattle.f90_laws.proofs.printed.FormWords.{program_spelled, implicit_none, else_spelled, end_if, end_do, stop_spelled, end_spelled, continue_spelled, go_spelled, assign_spelled, where_spelled, if_spelled, else_if_spelled, do_spelled, read_spelled, print_spelled, read_nothing, print_nothing, declaration_spelled, allocate_spelled, deallocate_spelled}

-- ---- parts

abbrev pub AreSpelled : List Printed → Type 0
AreSpelled ps = AllByRecursion (λ (s : Printed). IsSpelled s.form) ps

both : (ps qs : List Printed) → AreSpelled ps → AreSpelled qs → AreSpelled (ps ++ qs)
both ps qs h g = all_append (λ (s : Printed). IsSpelled s.form) ps qs h g

from_some : {A : Type 0} → (o : Option A) (P : A → Type 0) (R : Type 0) → ((x : A) → o ≡ Some x → P x → R) → IsSomeAnd o P → R
from_some None P R f h = absurd h
from_some (Some x) P R f h = f x refl h

is_reference : (r : Reference) (ss : Subscripts) → IsReference90 (phrase_of (tree.Named r.name ss))
is_reference r tree.no_subscripts = tt
is_reference r (tree.subscript s ss) = tt

label_length : (n : ℕ) → n < 100000 → length (decimal n) ≤ 5
label_length n h = length-decimal-le_wide 5 n (omega arith) h (omega arith)

extent_within : (e : Extent) (n : ℕ) → IsExtent e → e ≡ Later n → (1 ≤ n) × (n ≤ array_dimensions)
extent_within (Given bs) n h e = absurd cc
extent_within (Later m) n h e = let same : m ≡ n = cc in (omega (arith, h.0), omega (arith, h.1))

declaration_of : (ds : List Declaration) (x : List ℕ) (d : Declaration) → AllByRecursion IsDeclaration ds → declared ds x ≡ Some d → IsDeclaration d
declaration_of [] x d h e = absurd cc
declaration_of (f ∷ ds) x d h e = by (bytes_eq f.name x) (declaration_of ds x d h.1) e
  where
    by : (b : Bool) → (declared ds x ≡ Some d → IsDeclaration d) → cond b (Some f) (declared ds x) ≡ Some d → IsDeclaration d
    by true more k = let same : f ≡ d = cc in subst IsDeclaration same h.0
    by false more k = more k

-- ---- labels

label_good : (ds : List Declaration) (c : Statement) (w : Surroundings) → IsStatement ds c w → AllByRecursion IsLabel (label_of c)
label_good ds (tree.Label n) w h = (h, tt)
label_good ds (tree.Stop line) w h = tt
label_good ds c w h = tt

labels_good : (ds : List Declaration) (cs : Block) (w : Surroundings) → IsBlock ds cs w → AllByRecursion IsLabel (labels_of cs)
labels_good ds tree.no_statements w h = tt
labels_good ds (tree.statement c cs) w h =
    all_append IsLabel (label_of c) (labels_of cs) (label_good ds c (before_labels (labels_of cs) w) h.0) (labels_good ds cs w h.1)

is_label : (ns : List ℕ) (n : ℕ) → AllByRecursion IsLabel ns → Contains ns n → IsLabel n
is_label ns n h c = All-contains IsLabel ns n (All-from_recursion IsLabel ns h) c

-- ---- statements

module _ (ds : List Declaration) (each : AllByRecursion IsDeclaration ds) where
  phrases_good : (es : Expressions) (k : Kind) → AreScalars ds es k → AllByRecursion IsGood (phrases_of es)
  phrases_good tree.no_expressions k h = tt
  phrases_good (tree.expression e es) k h = (good ds each e k h.0.0, phrases_good es k h.1)

  left_good : (left : Reference) (right : Expression) (w : Surroundings) → IsAssignment ds left right w → IsGood (reference_phrase left)
  left_good left right w h = from_some (declared ds left.name) _ (IsGood (reference_phrase left)) (λ d e k. good ds each (named left) d.kind k.0.suits) h.0

  right_good : (left : Reference) (right : Expression) (w : Surroundings) → IsAssignment ds left right w → IsGood (phrase_of right)
  right_good left right w h = from_some (declared ds left.name) _ (IsGood (phrase_of right)) (λ d e k. good ds each right d.kind k.1.suits) h.0

  allocation : (x : List ℕ) (es : Expressions) → IsAllocation ds x es → IsSpelled (forms.Allocate x (phrases_of es))
  allocation x tree.no_expressions h =
      from_some (declared ds x) _ _ (λ d e k. absurd (omega (arith, (extent_within d.extent 0 (declaration_of ds x d each e).extent k).0))) h.0
  allocation x (tree.expression f es) h =
      allocate_spelled x (phrase_of f) (phrases_of es) (declared_name ds x _ each h.0) (phrases_good (tree.expression f es) Integer h.1)

  read : (is : Items) (around : List (List ℕ)) → AreInputItems ds is around → IsSpelled (read_form is)
  read tree.no_items w h = read_nothing
  read (tree.item i is) w h = read_spelled (item_phrases (tree.item i is)) (input_items ds each i is w h)

  print : (is : Items) (around : List (List ℕ)) → AreOutputItems ds is around → IsSpelled (print_form is)
  print tree.no_items w h = print_nothing
  print (tree.item i is) w h = print_spelled (item_phrases (tree.item i is)) (output_items ds each i is w h)

  mutual
    statement : (c : Statement) (w : Surroundings) → AllByRecursion IsLabel w.ahead → IsStatement ds c w → AreSpelled (printed_statement c)
    statement (tree.Assignment line mark left right) w a h =
        (assign_spelled (reference_phrase left) (phrase_of right) (is_reference left left.subscripts) (left_good left right w h.1) (right_good left right w h.1), tt)
    statement (tree.Where line mark mask left right) w a h =
        (where_spelled (phrase_of mask) (reference_phrase left) (phrase_of right) (good ds each mask Logical h.1.0.suits) (is_reference left left.subscripts) (left_good left right w h.2) (right_good left right w h.2), tt)
    statement (tree.If line arms other) w a h = first_arm arms (printed_else other) w a h.2 (otherwise other w a h.3)
    statement (tree.Do line x f t s body) w a h = (
      do_spelled x (phrase_of f) (phrase_of t) (step_phrase s) (declared_name ds x _ each h.1.integer) (good ds each f Integer h.2.suits.0) (good ds each t Integer h.3.suits.0) (step_good s (good ds each s Integer h.4.suits.0)),
      both (printed_block body) _ (block body (within_loop x w) a h.5) (end_do, tt),
    )
    statement (tree.Label n) w a h = (continue_spelled (decimal n) (decimal_digits n (omega (arith, h.1))) (label_length n h.1), tt)
    statement (tree.GoTo line n) w a h =
        let l = is_label w.ahead n a h.1 in
        (go_spelled (decimal n) (decimal_digits n (omega (arith, l.1))) (label_length n l.1), tt)
    statement (tree.Stop line) w a h = (stop_spelled, tt)
    statement (tree.Read line is) w a h = (read is w.variables h.1, tt)
    statement (tree.Print line is) w a h = (print is w.variables h.1, tt)
    statement (tree.Allocate line x es) w a h = (allocation x es h.1, tt)
    statement (tree.Deallocate line x) w a h = (deallocate_spelled x (declared_name ds x _ each h.1), tt)

    first_arm : (arms : Arms) (other : List Printed) (w : Surroundings) → AllByRecursion IsLabel w.ahead → AreArms ds arms w → AreSpelled other → AreSpelled (printed_if arms other)
    first_arm tree.no_arms other w a h g = tt
    first_arm (tree.arm test body more) other w a h g = (
      if_spelled (phrase_of test) (good ds each test Logical h.0.suits.0),
      both (printed_block body) _ (block body w a h.1) (both (printed_arms more) _ (further_arms more w a h.2) (both other _ g (end_if, tt))),
    )

    further_arms : (arms : Arms) (w : Surroundings) → AllByRecursion IsLabel w.ahead → AreArms ds arms w → AreSpelled (printed_arms arms)
    further_arms tree.no_arms w a h = tt
    further_arms (tree.arm test body more) w a h =
        (else_if_spelled (phrase_of test) (good ds each test Logical h.0.suits.0), both (printed_block body) _ (block body w a h.1) (further_arms more w a h.2))

    otherwise : (b : Block) (w : Surroundings) → AllByRecursion IsLabel w.ahead → IsBlock ds b w → AreSpelled (printed_else b)
    otherwise tree.no_statements w a h = tt
    otherwise (tree.statement c cs) w a h = (
      else_spelled,
      both (printed_statement c) (printed_block cs)
          (statement c (before_labels (labels_of cs) w) (all_append IsLabel (labels_of cs) w.ahead (labels_good ds cs w h.1) a) h.0)
          (block cs w a h.1),
    )

    block : (b : Block) (w : Surroundings) → AllByRecursion IsLabel w.ahead → IsBlock ds b w → AreSpelled (printed_block b)
    block tree.no_statements w a h = tt
    block (tree.statement c cs) w a h =
        both (printed_statement c) (printed_block cs)
        (statement c (before_labels (labels_of cs) w) (all_append IsLabel (labels_of cs) w.ahead (labels_good ds cs w h.1) a) h.0)
        (block cs w a h.1)

-- ---- programs

title_name : (o : Option (List ℕ)) → IfSome o IsLongName → IsName90 (printed_title_of o)
title_name None h = text_name 70 (codes "V_PROGRAM") refl refl refl
title_name (Some x) h = long_name x h

declarations : (ds : List Declaration) → AllByRecursion IsDeclaration ds → AreSpelled (map printed_declaration ds)
declarations [] h = tt
declarations (d ∷ ds) h = (declaration_spelled d.kind d.name d.extent (long_name d.name h.0.name) h.0.extent, declarations ds h.1)

pub printed_is_spelled : PrintedIsSpelled
printed_is_spelled p h = (
  program_spelled (printed_title_of p.name) (title_name p.name h.name),
  (
    implicit_none,
    both (map printed_declaration p.declarations) _ (declarations p.declarations h.declarations.each)
        (both (printed_block p.body) _ (block p.declarations h.declarations.each p.body outermost tt h.statements) (end_spelled, tt)),
  ),
)
