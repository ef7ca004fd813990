use Rattle.std.proofs.Common.{arith, ◌≡◌, ◌<◌, ◌≤◌, List, [], ◌∷◌, ◌++◌, length, get_or, subst, sym, rules}
use Rattle.f90_blocks.specs.declared.nodes.Treed.{Treed}
use Rattle.f90_blocks.specs.Treed.{IsTreedOf}
use Rattle.f90_grammar.specs.Blocks.{Placed}
use Rattle.f90_grammar.specs.Reading.{function_by}
use Rattle.f90_statement.specs.Views.{AreOf}
use Rattle.f90_blocks.specs.places.forms.Places.{IsPlacedOf}
use Rattle.f90_blocks.proofs.StatementTrees.LoopLaws.{passed, ended, one_of, are_more}
use Rattle.f90_read.proofs.F90Suits.Texts.{IsGoodPlaced, TreesUpTo, trees_begun}
use Rattle.f90_read.proofs.f90_suits.treed.trees.Goals as goal

pub adding-init : goal.adding-init
adding-init c ps ds a r s =
    subst (λ (ts : List Treed). TreesUpTo ds c.args.text.now ps ts 0) (sym c.new-made.ensures)
    (trees_begun c.args.functions.now ds c.args.text.now ps a r s)

pub treed-requires : goal.treed-requires
treed-requires c =
    let l : c.adding.placed-index < length c.args.text.now = first_of (omega arith, search rules) in
    let g : get_or c.args.text.now c.adding.placed-index c.placed-item.result ≡ c.placed-item.result = first_of
    (cc, search rules) in
    one_of IsPlacedOf c.args.text.now c.adding.placed-index c.placed-item.result c.requires.all l g c.requires.are_of

pub adding-preserved : goal.adding-preserved
adding-preserved c ps ds a r s =
    let l : c.adding.placed-index < length c.args.text.now = first_of (omega arith, search rules) in
    let g : get_or c.args.text.now c.adding.placed-index c.placed-item.result ≡ c.placed-item.result = first_of
    (cc, search rules) in
    passed (IsGoodPlaced ds)
    (λ (done : List Placed). AreOf (IsTreedOf (function_by ds)) c.adding.made done)
    (λ (done : List Placed). AreOf (IsTreedOf (function_by ds)) c.push.new.self done)
    c.args.text.now c.adding.placed-index c.placed-item.result ps l g
    (λ done p k h.
    subst (λ (ts : List Treed). AreOf (IsTreedOf (function_by ds)) ts (done ++ p ∷ [])) (sym c.in_ok-push.ensures.ok)
    (are_more (IsTreedOf (function_by ds)) c.adding.made done _ p h
    (c.in_ok-treed.ensures p ds k.0 r.of_text k.1.0 k.1.1)))
    (c.adding.invariant ps ds a r s)

pub returns : goal.returns
returns c ps ds a r s =
    let l : length c.args.text.now ≤ c.adding.placed-index = first_of (omega arith, search rules) in
    ended (IsGoodPlaced ds) _ c.args.text.now c.adding.placed-index ps l (c.adding.invariant ps ds a r s)
