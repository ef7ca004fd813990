use Rattle.std.proofs.Common.{◌≡◌, ℕ, ◌+◌, ◌<◌, ◌==◌, length, get_or, Bool, ◌||◌, List, sym, ap, ◌∙◌, arith}
use Rattle.std.specs.List.{list_any}
use Rattle.f77_grammar.specs.Statement77.{Labelled}
use Rattle.f77_grammar.specs.program.Order.{is_out_of_order, is_executable77, follows_title, is_nothing77}
use Rattle.f77_grammar.specs.declared.syntax.statements.Labelled.{Labelled as Labelled'}
use Rattle.f77_structure.specs.Forms.{form_of, is_late_form, is_executable_form, follows_title_form}
use Rattle.f77_grammar.specs.syntax.Views.{text_of, labelled_of, statement_of}
use Rattle.f77_grammar.specs.syntax.Walk.{passed, place_at}
use Rattle.f77_structure.proofs.ByForm.{is_late77-form, is_executable77-form, follows_title-form}
use Rattle.f77_grammar.proofs.syntax.Walks.{search_goes_on, search_stops_at, search_ends, first_at, text_passed}
use Rattle.f77_structure.proofs.order.out_of_order.Goals as goal

-- what is known of the statements passed says of a statement what its place says
late_at : (xs : List Labelled') (i : ℕ) (x : Labelled') (more executable : Bool) → i < length xs
    → more ≡ list_any (λ (y : Labelled). follows_title y.statement) (passed (text_of xs) i)
    → executable ≡ list_any (λ (y : Labelled). is_executable77 y.statement) (passed (text_of xs) i)
    → is_late_form (form_of (statement_of x.statement)) (i == 0) more executable ≡ is_out_of_order (place_at (text_of xs) i (labelled_of x))
late_at xs i x more executable h m e =
    ap (λ b. is_late_form (form_of (statement_of x.statement)) b more executable) (first_at xs i h)
    ∙ ap (λ b. is_late_form (form_of (statement_of x.statement)) (is_nothing77 (passed (text_of xs) i)) b executable) m
    ∙ ap (is_late_form (form_of (statement_of x.statement)) (is_nothing77 (passed (text_of xs) i)) (list_any (λ (y : Labelled). follows_title y.statement) (passed (text_of xs) i))) e
    ∙ sym (is_late77-form (statement_of x.statement) (place_at (text_of xs) i (labelled_of x)))

more_more : (xs : List Labelled') (i : ℕ) (x : Labelled') (more : Bool) → i < length xs → x ≡ get_or xs i x
    → more ≡ list_any (λ (y : Labelled). follows_title y.statement) (passed (text_of xs) i)
    → (follows_title_form (form_of (statement_of x.statement)) || more) ≡ list_any (λ (y : Labelled). follows_title y.statement) (passed (text_of xs) (i + 1))
more_more xs i x more h e old =
    ap (λ b. b || more) (sym (follows_title-form (statement_of x.statement)))
    ∙ ap (λ b. follows_title (statement_of x.statement) || b) old
    ∙ sym (ap (list_any (λ (y : Labelled). follows_title y.statement)) (text_passed xs i x h e))

executable_more : (xs : List Labelled') (i : ℕ) (x : Labelled') (executable : Bool) → i < length xs → x ≡ get_or xs i x
    → executable ≡ list_any (λ (y : Labelled). is_executable77 y.statement) (passed (text_of xs) i)
    → (is_executable_form (form_of (statement_of x.statement)) || executable) ≡ list_any (λ (y : Labelled). is_executable77 y.statement) (passed (text_of xs) (i + 1))
executable_more xs i x executable h e old =
    ap (λ b. b || executable) (sym (is_executable77-form (statement_of x.statement)))
    ∙ ap (λ b. is_executable77 (statement_of x.statement) || b) old
    ∙ sym (ap (list_any (λ (y : Labelled). is_executable77 y.statement)) (text_passed xs i x h e))

pub returns-then-is_late : goal.returns-then-is_late
returns-then-is_late c =
    search_stops_at is_out_of_order c.args.text.now c.loop-i.i c.index-text-i.result (omega arith) c.index-text-i.is
    (sym (late_at c.args.text.now c.loop-i.i c.index-text-i.result c.loop-i.more c.loop-i.executable (omega arith) c.loop-i.invariant.more c.loop-i.invariant.executable)
    ∙ sym (c.is_late.ensures ∙ ap (λ f. is_late_form f (c.loop-i.i == 0) c.loop-i.more c.loop-i.executable) c.of-form.ensures) ∙ c.if-is_late.true)
    c.loop-i.invariant.searched

pub loop-i-preserved : goal.loop-i-preserved
loop-i-preserved c = record {
  searched = search_goes_on is_out_of_order c.args.text.now c.loop-i.i c.index-text-i.result (omega arith) c.index-text-i.is
      (sym (late_at c.args.text.now c.loop-i.i c.index-text-i.result c.loop-i.more c.loop-i.executable (omega arith) c.loop-i.invariant.more c.loop-i.invariant.executable)
      ∙ sym (c.is_late.ensures ∙ ap (λ f. is_late_form f (c.loop-i.i == 0) c.loop-i.more c.loop-i.executable) c.of-form.ensures) ∙ c.if-is_late.false)
      c.loop-i.invariant.searched;
  more = c.follows_title_or-more.ensures ∙ ap (λ f. follows_title_form f || c.loop-i.more) c.of-form.ensures
      ∙ more_more c.args.text.now c.loop-i.i c.index-text-i.result c.loop-i.more (omega arith) c.index-text-i.is c.loop-i.invariant.more;
  executable = c.is_executable_or-executable.ensures ∙ ap (λ f. is_executable_form f || c.loop-i.executable) c.of-form.ensures
      ∙ executable_more c.args.text.now c.loop-i.i c.index-text-i.result c.loop-i.executable (omega arith) c.index-text-i.is c.loop-i.invariant.executable;
}

pub returns : goal.returns
returns c = search_ends is_out_of_order c.args.text.now c.loop-i.i (omega arith) c.loop-i.invariant.searched
