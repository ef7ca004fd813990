use Rattle.std.proofs.Common.{◌≡◌, ℕ, ◌+◌, ◌-◌, drop, cond, Some, sym, ap, ◌∙◌, arith}
use Rattle.f77_grammar.specs.program.Text.{places_from}
use Rattle.f77_grammar.specs.program.Jumps.{has_wrong_jump}
use Rattle.f77_grammar.specs.syntax.First.{index_from}
use Rattle.f77_grammar.specs.syntax.Views.{text_of, statement_of}
use Rattle.f77_grammar.specs.syntax.Walk.{passed}
use Rattle.f77_grammar.specs.program.Text.{action}
use Rattle.f77_structure.specs.Forms.{form_of}
use Rattle.f77_structure.specs.LabelPlaces.{place_of}
use Rattle.f77_structure.proofs.LeftOpen.{found_back}
use Rattle.f77_structure.specs.jumps.LabelTargets.{target_in}
use Rattle.f77_structure.specs.jumps.Targets.{first_target}
use Rattle.f77_structure.proofs.jumps.Leads.{targets_fit, behind_more, jump_at}
use Rattle.f77_structure.proofs.jumps.jumps.wrong_jump.Goals as goal

pub index-requires : goal.index-requires
index-requires c = omega (arith, targets_fit c.args.text.now (place_of c.args.ends.now) c.in_ok-targets.targets.items c.in_ok-targets.ensures)

pub loop-i-preserved : goal.loop-i-preserved
loop-i-preserved c =
    let back : c.loop-i.i ≡ c.loop-i.i - 1 + 1 = omega arith in
    let behind : (n : ℕ) → target_in c.loop-i.behind n ≡ first_target (place_of c.args.ends.now) (passed (text_of c.args.text.now) (c.loop-i.i - 1 + 1)) (drop (c.loop-i.i - 1 + 1) (text_of c.args.text.now)) n =
    λ n. c.loop-i.invariant.behind n ∙ ap (λ j. first_target (place_of c.args.ends.now) (passed (text_of c.args.text.now) j) (drop j (text_of c.args.text.now)) n) back in
    let later : c.loop-i.found ≡ index_from has_wrong_jump (c.loop-i.i - 1 + 1) (places_from (passed (text_of c.args.text.now) (c.loop-i.i - 1 + 1)) (drop (c.loop-i.i - 1 + 1) (text_of c.args.text.now))) =
    c.loop-i.invariant.found ∙ ap (λ j. index_from has_wrong_jump j (places_from (passed (text_of c.args.text.now) j) (drop j (text_of c.args.text.now)))) back in
    let form : c.of-form.result ≡ form_of (action (statement_of c.index-text-i.result.statement)) = c.of-form.ensures ∙ ap form_of c.action.ensures in
    record {
      within = omega arith;
      behind = behind_more c.args.text.now (c.loop-i.i - 1) c.index-text-i.result (place_of c.args.ends.now) c.in_ok-targets.targets.items c.index.result.now (target_in c.loop-i.behind) (target_in c.put.new.self)
          (omega arith) c.index-text-i.is c.in_ok-targets.ensures c.index.ensures behind c.in_ok-put.ensures;
      found = c.here_if-found.ensures
          ∙ ap (λ b. cond b (Some (c.loop-i.i - 1)) c.loop-i.found)
          (c.refuse.ensures
          ∙ sym (jump_at c.args.text.now (c.loop-i.i - 1) c.index-text-i.result (place_of c.args.ends.now) (target_in c.loop-i.behind) c.of-form.result (omega arith) c.index-text-i.is c.requires behind form))
          ∙ found_back has_wrong_jump c.args.text.now (c.loop-i.i - 1) c.index-text-i.result c.loop-i.found (omega arith) c.index-text-i.is later;
    }
