use Rattle.std.proofs.Common.{◌≡◌, length, arith, rules}
use Rattle.output_chain.specs.Laws.{kept_lawful, new_model, new_untouched}
use Rattle.output_chain.specs.Models.{fundings_of}
use Rattle.output_chain.specs.Steps.{funded, pooled_by}
use Rattle.output_chain.proofs.Tallies.{only_fundings}
use Rattle.output_chain.proofs.chain.OutputChain.funded.Goals as goal

pub invariant_of-result-2 : goal.invariant_of-result-2
invariant_of-result-2 c =
    let ts = c.args.roots in
    let pool = c.make_all.new.pool in
    let k = funded ts pool (search rules) (omega arith) (only_fundings pool (fundings_of ts) c.fundings.result c.funding_outputs.result c.make_all.ensures c.funding_outputs.ensures c.fundings.ensures) in
    record { eight = k.eight; room = k.room; pooled = pooled_by 0 ts pool k.exact; backed = k.backed }

pub returns : goal.returns
returns c =
    let ts = c.args.roots in
    let pool = c.make_all.new.pool in
    let exact = only_fundings pool (fundings_of ts) c.fundings.result c.funding_outputs.result c.make_all.ensures c.funding_outputs.ensures c.fundings.ensures in
    let eight : length ts ≡ 8 = search rules in
    record {
      model = λ s m. new_model ts pool exact eight s m.fundings m.delays;
      lawful = kept_lawful 0 ts pool (omega arith) (funded ts pool eight (omega arith) exact);
      untouched = new_untouched ts pool exact;
    }
