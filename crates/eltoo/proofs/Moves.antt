-- The steps of a host keep the layout; what a settlement does to each place.
use Rattle.std.proofs.Common.{◌≡◌, ℕ, ◌<◌, ◌⊎◌, length, Some, None, Option, sym, refl, ap, ◌∙◌, inl, inr, rules}
use Rattle.std.proofs.lemmas.Bool.{cases_eq}
use Rattle.state.specs.declared.state.State.{State}
use Rattle.state.specs.Limits.{parties}
use Rattle.state.specs.Refusals.{accepted, first}
use Rattle.ledger.specs.declared.view.Parent.{Parent}
use Rattle.ledger.specs.Laws.{Laid, Lawful, child}
use Rattle.ledger.specs.Model.{Model, Place, Stage, fresh, place_at, shut, idle, status}
use Rattle.ledger.specs.Steps.{staged, with_stage, post_checks, post_next, settle_checks, settle_next, advance_next}
use Rattle.ledger.proofs.Changing.{layout, count_is}

-- two ledgers with the same layout
pub record Alike (m n : Model) : Type 0 where
  pub counts : length n.places ≡ length m.places
  pub layouts : (c : ℕ) → staged (place_at n c) fresh ≡ staged (place_at m c) fresh

pub alike_same : (m : Model) → Alike m m
alike_same m = record { counts = refl; layouts = λ c. refl }

pub alike_then : {m n k : Model} → Alike m n → Alike n k → Alike m k
alike_then a b = record { counts = b.counts ∙ a.counts; layouts = λ c. b.layouts c ∙ a.layouts c }

pub alike_back : {m n : Model} → Alike m n → Alike n m
alike_back a = record { counts = sym a.counts; layouts = λ c. sym (a.layouts c) }

pub parent_same : {m n : Model} → Alike m n → (c : ℕ) → (place_at n c).parent ≡ (place_at m c).parent
parent_same a c = ap (λ (y : Place). y.parent) (a.layouts c)

pub delay_same : {m n : Model} → Alike m n → (c : ℕ) → (place_at n c).delay ≡ (place_at m c).delay
delay_same a c = ap (λ (y : Place). y.delay) (a.layouts c)

staged_alike : (m : Model) (p : ℕ) (s : Stage) → p < length m.places → Alike m (with_stage m p s)
staged_alike m p s lt = record { counts = count_is m p s lt; layouts = layout m p s lt }

pub post_alike : (m : Model) (x : State) → first (post_checks m x) ≡ accepted → Alike m (post_next m x)
post_alike m x h = search rules

pub settle_alike : (m : Model) (p : ℕ) → first (settle_checks m p) ≡ accepted → Alike m (settle_next m p)
settle_alike m p h = search rules

pub advance_alike : (m : Model) (k : ℕ) → Alike m (advance_next m k)
advance_alike m k = record { counts = refl; layouts = λ c. refl }

-- a parent's number is lower, and an index is below eight
pub parent_below : (m : Model) → Laid m → (c q i : ℕ) → c < length m.places → (place_at m c).parent ≡ child q i → (q < c) × (i < parties)
parent_below m laid c q i lt e = search rules

-- what the settlement of p does to a place: it is p itself, or a child that was shut and opens, or it is as it was
pub data SettleWay (m : Model) (p c : ℕ) : Type 0 where
  itself : c ≡ p → SettleWay m p c
  opens : (c ≡ p → ⊥) → status m c ≡ shut → status (settle_next m p) c ≡ idle → SettleWay m p c
  stays : (c ≡ p → ⊥) → status (settle_next m p) c ≡ status m c → SettleWay m p c

pub settle_way : (m : Model) → Lawful m → (p : ℕ) → first (settle_checks m p) ≡ accepted → (c : ℕ) → c < length m.places → SettleWay m p c
settle_way m law p h c lt = go (cases_eq c p) (place_at m c).parent refl
  where
    go : (c ≡ p) ⊎ (c ≡ p → ⊥) → (o : Option Parent) → (place_at m c).parent ≡ o → SettleWay m p c
    go (inl e) o i = itself e
    go (inr ne) None i = search rules
    go (inr ne) (Some u) i = at (cases_eq u.place p)
      where
        at : (u.place ≡ p) ⊎ (u.place ≡ p → ⊥) → SettleWay m p c
        at (inl e) = search rules
        at (inr e) = search rules
