use Rattle.split_laws.proofs.CutLoops.{loops_over_pieces_run_as_loop}
use Rattle.split_laws.proofs.splitting.cut_loop_runs_as_loop.Goals as goal

pub returns : goal.returns
returns c = loops_over_pieces_run_as_loop
