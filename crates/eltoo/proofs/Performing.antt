-- A list of calls goes on with every run that led to it.
use Rattle.std.proofs.Common.{◌≡◌, List, [], ◌∷◌, ◌++◌, map, reverse, Some, Option, sym, refl, ap, ◌∙◌, subst, append_assoc, append-nil, rules}
use mathlib.Core.List.{reverse-cons}
use Rattle.seal.specs.Registers.{RowGives}
use Rattle.eltoo.specs.declared.turn.Turn.{Turn}
use Rattle.eltoo.specs.Stations.{StationModel}
use Rattle.eltoo.specs.Steps.{Answer, Own, Step}
use Rattle.eltoo.specs.Runs.{Entry, Run, origin}
use Rattle.eltoo.specs.Safety.{NoneGood, Starts}
use Rattle.eltoo.specs.Lists.{Performs, turn_of, Story, Performed, WholeRun, WholeFreshRun}
use Rattle.eltoo.proofs.Safely.{safe, safe_fresh}

-- one call more at the end
pub performs_more : (own : Own) (s t u : StationModel) (ts : List Turn) (x : Turn) (a : Answer) → Performs own s ts t → x.answer ≡ Some a → Step own t x.call a u → Performs own s (ts ++ (x ∷ [])) u
performs_more own s t u [] x a p e st = search rules
performs_more own s t u (y ∷ ts) x a p e st = (p.0, p.1, p.2, p.3, performs_more own p.1 t u ts x a p.4 e st)

-- a list of calls goes on with a run
pub story : (own : Own) (s t : StationModel) (ts : List Turn) → Performs own s ts t → (es : List Entry) → Run own es s → Story own (origin es s) (reverse ts ++ map turn_of es) t
story own s t [] p es r = subst (Story own (origin es s) (map turn_of es)) (sym p) (record { entries = es; run = r; begun = refl; turns = refl; holds = safe own es s r })
story own s t (x ∷ ts) p es r =
    let e : Entry = record { before = s; call = x.call; answer = p.0; after = p.1 } in
    let w = story own p.1 t ts p.4 (e ∷ es) (r, p.3, refl) in
    let same : turn_of e ≡ x = ap (λ (o : Option Answer). let y : Turn = record { call = x.call; answer = o } in y) (sym p.2) in
    record {
      entries = w.entries;
      run = w.run;
      begun = w.begun;
      turns = w.turns ∙ ap (λ (y : Turn). reverse ts ++ (y ∷ map turn_of es)) same ∙ sym (append_assoc (reverse ts) (x ∷ []) (map turn_of es)) ∙ ap (λ (v : List Turn). v ++ map turn_of es) (sym (reverse-cons x ts));
      holds = w.holds;
    }

pub performed : (own : Own) (s t : StationModel) (ts : List Turn) → Performs own s ts t → Performed own s ts t
performed own s t ts p = record { steps = p; whole = story own s t ts p }

-- from a set-up on
pub whole_run : (own : Own) (s t : StationModel) (ts : List Turn) → Starts own s → Performed own s ts t → WholeRun own s ts t
whole_run own s t ts starts p law bare = subst (λ (v : List Turn). Story own s v t) (append-nil (reverse ts)) (p.whole [] (starts law bare))

pub whole_fresh : (s t : StationModel) (ts : List Turn) → NoneGood s.seals → WholeRun RowGives s ts t → WholeFreshRun s ts t
whole_fresh s t ts none whole law bare =
    let w = whole law bare in
    record { story = w; fresh = safe_fresh w.entries t w.run (subst (λ (y : StationModel). NoneGood y.seals) (sym w.begun) none) }
