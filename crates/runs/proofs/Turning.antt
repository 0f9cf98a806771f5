-- One call more of a list.
use Rattle.std.proofs.Common.{◌≡◌, ℕ, ◌+◌, ◌<◌, List, length, get_or, set, take, Some, Option, sym, refl, ◌∙◌, subst}
use Rattle.std.proofs.Math.Seq.{map-set_same}
use Rattle.std.proofs.lemmas.List.{take_more_set}
use Rattle.eltoo.specs.declared.call.Call.{Call}
use Rattle.eltoo.specs.declared.turn.Turn.{Turn}
use Rattle.eltoo.specs.Lists.{calls_of, Performs}
use Rattle.eltoo.specs.Stations.{StationModel}
use Rattle.eltoo.specs.Steps.{Answer, Own, Step}
use Rattle.eltoo.proofs.Performing.{performs_more}

-- a turn with its answer
abbrev pub made : Turn → Option Answer → Turn
made x o = record { call = x.call; answer = o }

pub calls_stay : (ts : List Turn) (i : ℕ) (d : Turn) (o : Option Answer) (cs : List Call) → calls_of ts ≡ cs → calls_of (set ts i (made (get_or ts i d) o)) ≡ cs
calls_stay ts i d o cs e = map-set_same (λ (x : Turn). x.call) ts i (made (get_or ts i d) o) d refl ∙ e

pub performs_next : (own : Own) (s t u : StationModel) (ts : List Turn) (i : ℕ) (d : Turn) (a : Answer) → i < length ts → Performs own s (take i ts) t → Step own t (get_or ts i d).call a u → Performs own s (take (i + 1) (set ts i (made (get_or ts i d) (Some a)))) u
performs_next own s t u ts i d a lt p st =
    subst (λ (v : List Turn). Performs own s v u) (sym (take_more_set ts i (made (get_or ts i d) (Some a)) lt)) (performs_more own s t u (take i ts) (made (get_or ts i d) (Some a)) a p refl st)
