pub mod dep_graph
pub mod loop_spans
pub mod nest_graph
pub mod nest_ready
pub mod nest_references
pub mod worked_graphs
