use Rattle.std.proofs.Common.{rules}
use Rattle.ledger.proofs.SettingUp.{delays_tried}
use Rattle.ledger.proofs.setting.delays_of.Goals as goal

pub returns : goal.returns
returns c = let t = delays_tried _ (λ p x r q h. search rules) c.args.given.now c.told-given c.try_map.result c.try_map.ensures.ok c.try_map.ensures.err in record { answer = t.answer; value = t.value }
