use Rattle.account.specs.Accounts.{Sums, Bounded}
use Rattle.account.proofs.account.account_of.Given as goal

abbrev pub invariant-loop-place : goal.invariant-loop-place
invariant-loop-place g l = record { sums : Sums l.account (g.L.Ledger.model l.ledger) l.place; bounded : Bounded l.account l.place }
