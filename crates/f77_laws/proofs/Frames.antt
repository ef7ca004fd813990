-- The block IFs and loops round a place between two statements, the innermost first.
pub use Rattle.f77_laws.proofs.trees.Frames.{Loop, Frames, Base, Inner, pushed, closed, top_closed, frames}
pub use Rattle.f77_laws.proofs.trees.Frames.{open_ifs_in, had_else, IsEmptyTop, names_in, variables, depth, top_kept}
pub use Rattle.f77_laws.proofs.trees.Frames.{variables_are_open, depth_pushed, depth_within, ended}
