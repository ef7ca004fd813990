use Rattle.std.proofs.Common.{Bool, ◌||◌}
use Rattle.f90_grammar.specs.Order.{Place90, title_in_text, is_misnamed, is_late90, ends_wrongly, closes_wrongly, blocks_round}
use Rattle.f90_grammar.specs.Order.{stays_open90}
use Rattle.f90_blocks.proofs.structure.disorder.first_disordered.Goals as goal

pub returns : goal.returns
returns c ps a =
    let misnamed : Place90 → Bool = λ p. is_misnamed (title_in_text ps) p.here.form in
    let late : Place90 → Bool = λ p. is_late90 p.here.form p.before in
    let ended : Place90 → Bool = λ p. ends_wrongly p.here.form p.after in
    let closed : Place90 → Bool = λ p. closes_wrongly p.here.form (blocks_round p) in
    let left : Place90 → Bool = λ p. stays_open90 p.here.form p.after in
    let of_two = c.earlier-late.ensures ps misnamed late (c.first_misnamed.ensures ps a) (c.first_late.ensures ps a) in
    let of_three = c.earlier-outside.ensures ps (λ p. misnamed p || late p) ended of_two
    (c.first_wrong_end.ensures ps a) in
    let of_four = c.earlier-inside.ensures ps (λ p. (misnamed p || late p) || ended p) closed of_three
    (c.in_ok-closed.ensures ps a) in
    c.earlier.ensures ps (λ p. ((misnamed p || late p) || ended p) || closed p) left of_four (c.first_open.ensures ps a)
