-- A watch is replaced.
use Rattle.std.proofs.Common.{◌≡◌, ℕ, Bool, map, get_or, set, Option, refl}
use Rattle.std.proofs.lemmas.List.{map-set}
use Rattle.std.proofs.Math.Seq.{map-set_same}
use Rattle.state.specs.declared.update.Update.{Update}
use Rattle.tower.specs.declared.tower.Tower.{Tower}
use Rattle.tower.specs.declared.tower.Watch.{Watch}
use Rattle.tower.specs.Towers.{newest_of, marks_of}

abbrev watch : Option Update → Bool → Watch
watch o b = record { newest = o; marked = b }

-- what replaces a field of each
pub ruleset sets = (map-set)

-- and what keeps it
module _ (t : Tower) (p : ℕ) where
  pub newest_stay : (d : Watch) (b : Bool) → map {B = Option Update} (λ (w : Watch). w.newest) (set t.watches p (watch (get_or t.watches p d).newest b)) ≡ newest_of t
  newest_stay d b = map-set_same (λ (w : Watch). w.newest) t.watches p (watch (get_or t.watches p d).newest b) d refl

  pub marks_stay : (d : Watch) (o : Option Update) → map {B = Bool} (λ (w : Watch). w.marked) (set t.watches p (watch o (get_or t.watches p d).marked)) ≡ marks_of t
  marks_stay d o = map-set_same (λ (w : Watch). w.marked) t.watches p (watch o (get_or t.watches p d).marked) d refl
