-- One visit more of a round.
use Rattle.std.proofs.Common.{◌≡◌, ℕ, ◌+◌, ◌*◌, ◌≤◌, Bool, List, Some, None, Option, Ok, Err, Result, sym, refl, ap, ◌∙◌, add-one, arith}
use Rattle.std.proofs.lemmas.List.{length-set}
use Rattle.std.proofs.lemmas.Bool.{cond_both}
use Rattle.state.specs.declared.refusal.Refusal.{Refusal}
use Rattle.state.specs.declared.update.Update.{Update}
use Rattle.state.specs.Refusals.{first}
use Rattle.ledger.specs.Model.{Model, place_at}
use Rattle.ledger.specs.Steps.{staged, posted_stage, settled_stage, post_checks, post_next, settle_checks, settle_next}
use Rattle.eltoo.specs.declared.answer.Counts.{Counts}
use Rattle.eltoo.specs.Rounds.{Tour, is_accepted, one_post, one_settlement, tried, wants_post, wants_settle, tried_post, tried_settle, visit, visits, starting}
use Rattle.eltoo.specs.Stations.{count, newest_at}
use Rattle.tower.specs.declared.visiting.Visit.{Visit}
use Rattle.tower.specs.Tours.{toured, noted, with_visit}

-- a round that began at the ledger m, after n visits: the ledger now, and the counts
pub record Midway (ks : List Bool) (t : List (Option Update)) (m : Model) (n : ℕ) (now : Model) (c : Counts) : Type 0 where
  pub tour : toured now c ≡ visits ks t n (starting m)
  pub places : count now ≡ count m
  pub posts : c.posts ≤ n
  pub settlements : c.settlements ≤ n
  pub refusals : c.refusals ≤ 2 * n

-- a call in a round keeps the count of places
tried_places : (checks : List (Bool × ℕ)) (next : Model) (more : Counts → Counts) (w : Tour) → count next ≡ count w.ledger → count (tried checks next more w).ledger ≡ count w.ledger
tried_places checks next more w same = cond_both (is_accepted (first checks)) _ _ (λ (v : Tour). count v.ledger ≡ count w.ledger) (λ _. same) (λ _. refl)

visit_places : (ks : List Bool) (o : Option Update) (p : ℕ) (w : Tour) → count (visit ks o p w).ledger ≡ count w.ledger
visit_places ks None p w = refl
visit_places ks (Some u) p w = settled (tried_post ks p u.state w) ∙ posted
  where
    posted : count (tried_post ks p u.state w).ledger ≡ count w.ledger
    posted =
        cond_both (wants_post ks w.ledger p u.state) (tried (post_checks w.ledger u.state) (post_next w.ledger u.state) one_post w) w (λ (v : Tour). count v.ledger ≡ count w.ledger)
        (λ _. tried_places (post_checks w.ledger u.state) (post_next w.ledger u.state) one_post w (length-set w.ledger.places u.state.place (staged (place_at w.ledger u.state.place) (posted_stage u.state w.ledger.height))))
        (λ _. refl)

    settled : (v : Tour) → count (tried_settle p v).ledger ≡ count v.ledger
    settled v =
        cond_both (wants_settle v.ledger p) (tried (settle_checks v.ledger p) (settle_next v.ledger p) one_settlement v) v (λ (z : Tour). count z.ledger ≡ count v.ledger)
        (λ _. tried_places (settle_checks v.ledger p) (settle_next v.ledger p) one_settlement v (length-set v.ledger.places p (staged (place_at v.ledger p) (settled_stage (place_at v.ledger p).stage))))
        (λ _. refl)

-- one visit adds one post, one settlement and two refusals at most
pub record Near (c d : Counts) : Type 0 where
  pub posts : d.posts ≤ c.posts + 1
  pub settlements : d.settlements ≤ c.settlements + 1
  pub refusals : d.refusals ≤ c.refusals + 2

near : (p s : Option (Result Unit Refusal)) (c : Counts) → Near c (noted one_settlement s (noted one_post p c))
near None None c = record { posts = omega arith; settlements = omega arith; refusals = omega arith }
near None (Some (Ok x)) c = record { posts = omega arith; settlements = omega arith; refusals = omega arith }
near None (Some (Err e)) c = record { posts = omega arith; settlements = omega arith; refusals = omega arith }
near (Some (Ok y)) None c = record { posts = omega arith; settlements = omega arith; refusals = omega arith }
near (Some (Ok y)) (Some (Ok x)) c = record { posts = omega arith; settlements = omega arith; refusals = omega arith }
near (Some (Ok y)) (Some (Err e)) c = record { posts = omega arith; settlements = omega arith; refusals = omega arith }
near (Some (Err f)) None c = record { posts = omega arith; settlements = omega arith; refusals = omega arith }
near (Some (Err f)) (Some (Ok x)) c = record { posts = omega arith; settlements = omega arith; refusals = omega arith }
near (Some (Err f)) (Some (Err e)) c = record { posts = omega arith; settlements = omega arith; refusals = omega arith }

pub midway_next : (ks : List Bool) (t : List (Option Update)) (m : Model) (n : ℕ) (now next : Model) (v : Visit) (c d : Counts) → d ≡ with_visit v c → ((k : Counts) → toured next (with_visit v k) ≡ visit ks (newest_at t n) n (toured now k)) → Midway ks t m n now c → Midway ks t m (n + 1) next d
midway_next ks t m n now next v c d same tour mid =
    let few = near v.post v.settlement c in
    let e : toured next d ≡ visit ks (newest_at t n) n (toured now c) = ap (toured next) same ∙ tour c in
    record {
      tour = e ∙ ap (visit ks (newest_at t n) n) mid.tour ∙ sym (ap (λ j. visits ks t j (starting m)) (add-one n));
      places = ap (λ (w : Tour). count w.ledger) e ∙ visit_places ks (newest_at t n) n (toured now c) ∙ mid.places;
      posts = omega (arith, few.posts, mid.posts, ap (λ (w : Counts). w.posts) same);
      settlements = omega (arith, few.settlements, mid.settlements, ap (λ (w : Counts). w.settlements) same);
      refusals = omega (arith, few.refusals, mid.refusals, ap (λ (w : Counts). w.refusals) same);
    }
