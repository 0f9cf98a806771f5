use Rattle.std.proofs.Common.{is_some, sym, ap, ◌∙◌}
use Rattle.output_chain.proofs.Tallies.{free_there, made_in}
use Rattle.output_chain.proofs.cells.make.Goals as goal

pub unwrap-cell-requires : goal.unwrap-cell-requires
unwrap-cell-requires c = ap is_some c.free.ensures ∙ free_there c.args.pool.now c.requires

pub returns : goal.returns
returns c f = made_in f c.args.pool.now c.unwrap-cell.result c.args.output (sym c.free.ensures ∙ c.unwrap-cell.ensures)
