-- A ledger of roots alone.
use Rattle.std.proofs.Common.{◌≡◌, ℕ, zero, suc, ◌<◌, ◌≤◌, Bool, false, not, ltb, List, [], ◌∷◌, map, length, get_or, set, Some, Ok, Err, Result, sym, ap, ◌∙◌, subst, arith}
use Rattle.std.proofs.lemmas.List.{get_or-map, length-map, map-set, set-get_or}
use Rattle.std.proofs.lemmas.Bool.Decides.{nat_tests}
use Rattle.state.specs.declared.refusal.Refusal.{Refusal}
use Rattle.state.specs.declared.state.State.{State}
use Rattle.state.specs.Limits.{max_height, min_delay, max_delay}
use Rattle.state.specs.Refusals.{first, Leaves}
use Rattle.state.proofs.Checking.{passed_over}
use Rattle.ledger.specs.declared.root.Root.{Root}
use Rattle.ledger.specs.declared.view.View.{View}
use Rattle.ledger.specs.Laws.{max_places, Laid, Tied}
use Rattle.ledger.specs.Model.{Model, Place, Stage, nowhere, place_at, value_of, value_by, PlaceShows}
use Rattle.ledger.specs.Roots.{root, rooted}
use Rattle.ledger.specs.Steps.{Does, is_none, worth, staged, with_stage, place_checks, post_stage_checks, posted_stage, settle_stage_checks, settled_stage, post_checks, post_next, settle_checks, settle_next}

module _ (h : ℕ) (rs : List Root) where
  abbrev m : Model
  m = rooted h rs

  root_count : length m.places ≡ length rs
  root_count = length-map rs root

  -- what holds of every root holds of every place
  every : (P : Place → Type 0) → ((r : Root) → P (root r)) → (p : ℕ) → p < length m.places → P (place_at m p)
  every P all p l = each rs p l
    where
      each : (xs : List Root) (p : ℕ) → p < length (map root xs) → P (get_or (map root xs) p nowhere)
      each [] p l = absurd (omega arith)
      each (x ∷ xs) zero l = all x
      each (x ∷ xs) (suc p) l = each xs p (omega arith)

  pub rooted_laid : h ≤ max_height → length rs ≤ max_places → Laid m
  rooted_laid low few =
      record {
        few = omega (arith, root_count);
        low = low;
        tied = λ p l. every (λ q. Tied q.parent q.funding p) (λ r. r.capped) p l;
        waits = λ p l. every (λ q. (min_delay ≤ q.delay) × (q.delay ≤ max_delay)) (λ r. (r.row.delay.low, r.row.delay.high)) p l;
      }

  module _ (p : ℕ) (old : Root) (within : p < length rs) (there : get_or rs p old ≡ old) where
    pub root_at : place_at m p ≡ root old
    root_at = get_or-map root rs p old nowhere within ∙ ap root there

    pub root_value : value_of m p ≡ Some old.funding
    root_value = ap (λ (q : Place). value_by m.places q.parent q.funding) root_at

    pub root_shows : (v : View) → PlaceShows v (Some old.funding) (root old) → PlaceShows v (value_of m p) (place_at m p)
    root_shows v e = subst (PlaceShows v (value_of m p)) (sym root_at) (subst (λ o. PlaceShows v o (root old)) (sym root_value) e)

    -- the answer at a place is that of its root, and so is what is made of it
    answers_at : (checks : ℕ → Place → List (Bool × ℕ)) → first (place_checks m p (checks (worth (value_of m p)) (place_at m p))) ≡ first (checks old.funding (root old))
    answers_at checks =
        let rest = checks (worth (value_of m p)) (place_at m p) in
        let here : not (ltb p (length m.places)) ≡ false = grind (arith, nat_tests, root_count) in
        passed_over (not (ltb p (length m.places))) 1 ((is_none (value_of m p), 4) ∷ rest) here
        ∙ passed_over (is_none (value_of m p)) 4 rest (ap is_none root_value)
        ∙ ap (λ o. first (checks (worth o) (place_at m p))) root_value
        ∙ ap (λ (q : Place). first (checks old.funding q)) root_at

    next_at : (new : Root) (s : Stage) → root new ≡ staged (root old) s → rooted h (set rs p new) ≡ with_stage m p s
    next_at new s e =
        ap (λ (ps : List Place). record { height = h; places = ps })
        (map-set root rs p new ∙ ap (set m.places p) (e ∙ ap (λ (q : Place). staged q s) (sym root_at)))

    leaves_at : {A : Type 0} (r : Result A Refusal) (new : Root) (s : Stage) → Leaves r (root old) (root new) (λ _. root new ≡ staged (root old) s)
        → Leaves r m (rooted h (set rs p new)) (λ _. rooted h (set rs p new) ≡ with_stage m p s)
    leaves_at (Ok x) new s e = next_at new s e
    leaves_at (Err x) new s e =
        ap (λ (ps : List Place). record { height = h; places = ps })
        (map-set root rs p new ∙ ap (set m.places p) (e ∙ sym root_at) ∙ set-get_or m.places p nowhere)

  -- the step of a root is the step of its ledger
  pub root_posts : (x : State) (old new : Root) → x.place < length rs → get_or rs x.place old ≡ old → {A : Type 0} (r : Result A Refusal)
      → Does r (root old) (root new) (post_stage_checks old.funding (root old).stage x) (staged (root old) (posted_stage x h))
      → Does r m (rooted h (set rs x.place new)) (post_checks m x) (post_next m x)
  root_posts x old new l e r d =
      record {
        answers = d.answers ∙ sym (answers_at x.place old l e (λ v q. post_stage_checks v q.stage x));
        leaves = leaves_at x.place old l e r new (posted_stage x h) d.leaves;
      }

  pub root_settles : (p : ℕ) (old new : Root) → p < length rs → get_or rs p old ≡ old → {A : Type 0} (r : Result A Refusal)
      → Does r (root old) (root new) (settle_stage_checks (root old).stage (root old).delay h) (staged (root old) (settled_stage (root old).stage))
      → Does r m (rooted h (set rs p new)) (settle_checks m p) (settle_next m p)
  root_settles p old new l e r d =
      let here = root_at p old l e in
      record {
        answers = d.answers ∙ sym (answers_at p old l e (λ _ q. settle_stage_checks q.stage q.delay h));
        leaves =
            subst (λ (q : Place). Leaves r m (rooted h (set rs p new)) (λ _. rooted h (set rs p new) ≡ with_stage m p (settled_stage q.stage))) (sym here)
            (leaves_at p old l e r new (settled_stage (root old).stage) d.leaves);
      }
