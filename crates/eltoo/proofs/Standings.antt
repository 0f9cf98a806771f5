-- What the checks of a host say of what a place shows, in a lawful ledger.
use Rattle.std.proofs.Common.{◌≡◌, ℕ, ◌<◌, ◌≤◌, Bool, false, not, eqb, ltb, List, [], ◌∷◌, length, Some, None, sum, Option, sym, refl, ap, ◌∙◌, arith, rules}
use Rattle.std.proofs.lemmas.Bool.{eq-eqb, lt-ltb, lt-leb, ltb-false}
use Rattle.state.specs.declared.state.State.{State}
use Rattle.state.specs.Refusals.{accepted, first}
use Rattle.state.proofs.Checking.{Passed, passed_over}
use Rattle.ledger.specs.Laws.{Backed, Lawful}
use Rattle.ledger.specs.Model.{Model, Stage, fresh, holds, done, place_at, value_of, Status, shut, idle, posted, settled, status, status_by}
use Rattle.ledger.specs.Steps.{due_at, is_none, worth, is_done, not_newer, settle_stage_checks, post_checks, settle_checks}
use Rattle.ledger.proofs.Changing.{reached}

-- a place is in one of four standings
pub four : (A : Type 0) (st : Status) → (st ≡ shut → A) → (st ≡ idle → A) → ((n h : ℕ) (a : List ℕ) → st ≡ posted n h a → A) → ((n : ℕ) (a : List ℕ) → st ≡ settled n a → A) → A
four A shut s i p d = s refl
four A idle s i p d = i refl
four A (posted n h a) s i p d = p n h a refl
four A (settled n a) s i p d = d n a refl

-- what a place holds, by what it shows
stage_posted : (v : Option ℕ) (s : Stage) (n h : ℕ) (a : List ℕ) → status_by v s ≡ posted n h a → s ≡ holds n h a
stage_posted None fresh n h a e = cc
stage_posted (Some v) fresh n h a e = cc
stage_posted v (holds k t b) n h a e = cc
stage_posted v (done k b) n h a e = cc

-- a place posted since h, in a lawful ledger: that height has been
pub dated : (m : Model) → Lawful m → (p n h : ℕ) (a : List ℕ) → p < length m.places → status m p ≡ posted n h a → h ≤ m.height
dated m law p n h a lt e = go (place_at m p).stage (stage_posted (value_of m p) (place_at m p).stage n h a e) (law.backed p lt)
  where
    go : (s : Stage) → s ≡ holds n h a → Backed (value_of m p) s m.height → h ≤ m.height
    go fresh i b = search rules
    go (holds k t c) i b = let same : t ≡ h = cc in omega (arith, b.2)
    go (done k c) i b = search rules

-- an accepted post
pub record PostTaken (m : Model) (x : State) : Type 0 where
  pub within : x.place < length m.places
  pub unsettled : (n : ℕ) (a : List ℕ) → status m x.place ≡ settled n a → ⊥
  pub newer : (n h : ℕ) (a : List ℕ) → status m x.place ≡ posted n h a → n < x.number.value

pub post_taken : (m : Model) (x : State) → first (post_checks m x) ≡ accepted → PostTaken m x
post_taken m x h = search rules
  where
    not_settled : (v : Option ℕ) (s : Stage) → is_done s ≡ false → (n : ℕ) (a : List ℕ) → status_by v s ≡ settled n a → ⊥
    not_settled None fresh d n a e = cc
    not_settled (Some v) fresh d n a e = cc
    not_settled v (holds k t c) d n a e = cc
    not_settled v (done k c) d n a e = cc

    above : (v : Option ℕ) (s : Stage) → not_newer s x.number.value ≡ false → (n h : ℕ) (a : List ℕ) → status_by v s ≡ posted n h a → n < x.number.value
    above None fresh d n h a e = cc
    above (Some v) fresh d n h a e = cc
    above v (holds k t c) d n h a e = search rules
    above v (done k c) d n h a e = cc

-- checks that all pass are accepted
pub all_pass : (cs : List (Bool × ℕ)) → Passed cs → first cs ≡ accepted
all_pass [] t = refl
all_pass (c ∷ cs) t = passed_over c.0 c.1 cs t.0 ∙ all_pass cs t.1

-- a post that is accepted: the state adds up to the value, and the place is open or posted with a lower number
pub can_post : (m : Model) (x : State) → x.place < length m.places → value_of m x.place ≡ Some (sum x.amounts) → ((n : ℕ) (a : List ℕ) → status m x.place ≡ settled n a → ⊥) → ((n h : ℕ) (a : List ℕ) → status m x.place ≡ posted n h a → n < x.number.value) → first (post_checks m x) ≡ accepted
can_post m x lt value unsettled newer =
    let there : not (ltb x.place (length m.places)) ≡ false = ap not (lt-ltb x.place (length m.places) lt) in
    let valued : is_none (value_of m x.place) ≡ false = ap is_none value in
    let adds : not (eqb (sum x.amounts) (worth (value_of m x.place))) ≡ false = ap not (eq-eqb (sum x.amounts) (worth (value_of m x.place)) (sym (ap worth value))) in
    all_pass (post_checks m x) (there, (valued, (live (value_of m x.place) (place_at m x.place).stage unsettled, (adds, (above (value_of m x.place) (place_at m x.place).stage newer, tt)))))
  where
    live : (v : Option ℕ) (s : Stage) → ((n : ℕ) (a : List ℕ) → status_by v s ≡ settled n a → ⊥) → is_done s ≡ false
    live v fresh u = refl
    live v (holds k t c) u = refl
    live v (done k c) u = absurd (u k c refl)

    above : (v : Option ℕ) (s : Stage) → ((n h : ℕ) (a : List ℕ) → status_by v s ≡ posted n h a → n < x.number.value) → not_newer s x.number.value ≡ false
    above v fresh u = refl
    above v (holds k t c) u = lt-leb x.number.value k (u k t c refl)
    above v (done k c) u = refl

-- an accepted settlement
pub record SettleTaken (m : Model) (p : ℕ) : Type 0 where
  pub within : p < length m.places
  pub number : ℕ
  pub since : ℕ
  pub amounts : List ℕ
  pub shown : status m p ≡ posted number since amounts
  pub due : due_at number since (place_at m p).delay ≤ m.height

pub settle_taken : (m : Model) (p : ℕ) → first (settle_checks m p) ≡ accepted → SettleTaken m p
settle_taken m p h =
    let r = reached m p (settle_stage_checks (place_at m p).stage (place_at m p).delay m.height) refl h in
    go (place_at m p).stage refl r.within r.passed
  where
    go : (s : Stage) → (place_at m p).stage ≡ s → p < length m.places → Passed (settle_stage_checks s (place_at m p).delay m.height) → SettleTaken m p
    go fresh i lt c = search rules
    go (holds k t a) i lt c =
        record { within = lt; number = k; since = t; amounts = a; shown = ap (status_by (value_of m p)) i; due = ltb-false m.height (due_at k t (place_at m p).delay) c.1.1.0 }
    go (done k a) i lt c = search rules

-- a settlement that is accepted: the place is posted and due
pub can_settle : (m : Model) → Lawful m → (p n h : ℕ) (a : List ℕ) → p < length m.places → status m p ≡ posted n h a → due_at n h (place_at m p).delay ≤ m.height → first (settle_checks m p) ≡ accepted
can_settle m law p n h a lt e due = search rules
  where
    valued : (s : Stage) → s ≡ holds n h a → Backed (value_of m p) s m.height → value_of m p ≡ Some (sum a)
    valued fresh i b = search rules
    valued (holds k t c) i b = search rules
    valued (done k c) i b = search rules
