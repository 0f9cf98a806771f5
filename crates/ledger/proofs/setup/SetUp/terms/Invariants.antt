use Rattle.std.proofs.Common.{◌≡◌, true, map, length, take}
use Rattle.std.specs.List.{list_all}
use Rattle.ledger.specs.SetUps.{good_delay, good_funding, delay_made, funding_made, funding_in, blocks_in}
use Rattle.ledger.proofs.setup.SetUp.terms.Given as goal

abbrev pub invariant-loop-i : goal.invariant-loop-i
invariant-loop-i l =
    record {
      long : length l.made ≡ 8;
      good_fundings : list_all good_funding (take l.i l.self.fundings) ≡ true;
      good_delays : list_all good_delay (take l.i l.self.delays) ≡ true;
      fundings : map funding_in (take l.i l.made) ≡ map (funding_made true) (take l.i l.self.fundings);
      delays : map blocks_in (take l.i l.made) ≡ map (delay_made true) (take l.i l.self.delays);
    }
