-- A factory as it is made.
use Rattle.std.proofs.Common.{◌≡◌, ℕ, zero, suc, ◌<◌, ◌≤◌, Bool, true, false, List, [], ◌∷◌, ◌++◌, map, length, get_or, Ok, Err, Some, None, Option, Result, is_none, sym, refl, ap, ◌∙◌, subst, arith}
use Rattle.std.specs.Result.{result_ok}
use Rattle.std.proofs.lemmas.Bool.{false≢true}
use Rattle.std.proofs.lemmas.Simd.{map-map}
use Rattle.std.proofs.lemmas.Bool.Decides.{nat_tests}
use Rattle.ledger.specs.declared.row.Row.{Row}
use Rattle.ledger.specs.Laws.{Lawful, Untouched, child, has_children}
use Rattle.ledger.specs.Model.{Model, Place, Stage, fresh}
use Rattle.ledger.specs.Rows.{stage_of}
use Rattle.ledger.specs.SetUps.{blocks_of, delay_made, figures, open_figures, new_figures}
use Rattle.state.specs.declared.quantity.Delay.{Delay}
use Rattle.ledger.proofs.Offspring.{no_child}
use Rattle.state.specs.declared.refusal.Refusal.{Refusal}
use Rattle.factory.specs.declared.children.Children.{Children}
use Rattle.factory.specs.Extending.{children, max_below, fits, extended, founds, new_children, founded_by, founded, Founds}
use Rattle.factory.specs.Laying.{ext_lawful, ext_untouched}

-- new rows are new children, and hold no state
new_children_lem : (seat i : ℕ) (rows : List Row) (ds : List ℕ) → map figures rows ≡ map (new_figures true) ds → children seat i rows ≡ new_children seat i ds
new_children_lem seat i [] [] h = refl
new_children_lem seat i [] (d ∷ ds) h = let z : ◌≡◌ {A = ℕ} 0 1 = cc in absurd (omega arith)
new_children_lem seat i (r ∷ rows) [] h = let z : ◌≡◌ {A = ℕ} 0 1 = cc in absurd (omega arith)
new_children_lem seat i (r ∷ rows) (d ∷ ds) h =
    let rest : map figures rows ≡ map (new_figures true) ds = cc in
    let first : figures r ≡ new_figures true d = cc in
    ap (λ (x : ℕ × Stage). record { parent = child seat i; delay = x.0; funding = 0; stage = x.1 } ∷ children seat (suc i) rows) first
    ∙ ap (λ (ps : List Place). record { parent = child seat i; delay = delay_made true d; funding = 0; stage = fresh } ∷ ps) (new_children_lem seat (suc i) rows ds rest)

new_fresh : (good : Bool) (rows : List Row) (ds : List ℕ) → map figures rows ≡ map (new_figures good) ds → (d : Row) (i : ℕ) → i < length rows → stage_of (get_or rows i d) ≡ fresh
new_fresh good [] ds h d i l = absurd (omega arith)
new_fresh good (r ∷ rows) [] h d i l = let z : ◌≡◌ {A = ℕ} 0 1 = cc in absurd (omega arith)
new_fresh good (r ∷ rows) (x ∷ ds) h d zero l = let first : figures r ≡ new_figures good x = cc in ap (λ (y : ℕ × Stage). y.1) first
new_fresh good (r ∷ rows) (x ∷ ds) h d (suc i) l = new_fresh good rows ds (cc) d i (omega arith)

-- what an accepted set-up says
record Accepted (m : Model) (seat : ℕ) : Type 0 where
  seated : seat < length m.places
  leaf : has_children seat m.places ≡ false
  room : length m.places ≤ max_below

accepted_parts : (m : Model) (seat : ℕ) (ds : List ℕ) → founds m seat ds ≡ true → Accepted m seat
accepted_parts m seat ds e = record { seated = grind (arith, nat_tests); leaf = grind (arith, nat_tests); room = grind (arith, nat_tests) }

pub made_fits : (r : Result Children Refusal) (m : Model) (seat : ℕ) (ds : List ℕ) → Founds r m seat ds → fits (result_ok r) m ≡ true
made_fits (Ok c) m seat ds f = let a = accepted_parts m seat ds f.0 in let s : c.seat ≡ seat = f.1 in let seated = a.seated in let room = a.room in grind (arith, nat_tests)
made_fits (Err e) m seat ds f = refl

pub made_start : (r : Result Children Refusal) (m : Model) (seat : ℕ) (ds : List ℕ) → Founds r m seat ds → extended (result_ok r) m ≡ founded m seat ds
made_start (Ok c) m seat ds f =
    ap (λ (ps : List Place). record { height = m.height; places = m.places ++ ps }) (ap (λ s. children s 0 c.rows) f.1 ∙ new_children_lem seat 0 c.rows ds f.2)
    ∙ ap (λ b. founded_by b m seat ds) (sym f.0)
made_start (Err e) m seat ds f = ap (λ b. founded_by b m seat ds) (sym f)

pub made_lawful : (r : Result Children Refusal) (m : Model) (seat : ℕ) (ds : List ℕ) → Founds r m seat ds → Lawful m → Lawful (extended (result_ok r) m)
made_lawful (Err e) m seat ds f law = law
made_lawful (Ok c) m seat ds f law = go c.rows refl
  where
    a : Accepted m seat
    a = accepted_parts m seat ds f.0

    go : (rows : List Row) → rows ≡ c.rows → Lawful (extended (Some c) m)
    go [] s = absurd (omega (arith, ap length s, c.long))
    go (r ∷ rows) s = ext_lawful c.seat c.rows m law.laid a.room (subst (λ k. k < length m.places) (sym f.1) a.seated) c.long r law (no_child c.seat m.places (ap (λ k. has_children k m.places) f.1 ∙ a.leaf)) (new_fresh true c.rows ds f.2 r)

pub made_untouched : (r : Result Children Refusal) (m : Model) (seat : ℕ) (ds : List ℕ) → Founds r m seat ds → Lawful m → Untouched m → Untouched (extended (result_ok r) m)
made_untouched (Err e) m seat ds f law u = u
made_untouched (Ok c) m seat ds f law u = go c.rows refl
  where
    a : Accepted m seat
    a = accepted_parts m seat ds f.0

    go : (rows : List Row) → rows ≡ c.rows → Untouched (extended (Some c) m)
    go [] s = absurd (omega (arith, ap length s, c.long))
    go (r ∷ rows) s = ext_untouched c.seat c.rows m law.laid a.room (subst (λ k. k < length m.places) (sym f.1) a.seated) c.long r law (no_child c.seat m.places (ap (λ k. has_children k m.places) f.1 ∙ a.leaf)) (new_fresh true c.rows ds f.2 r) u

pub open_given : (ds : List Delay) (rows : List Row) (given : List ℕ) → map figures rows ≡ map (λ d. open_figures (blocks_of d)) ds → map blocks_of ds ≡ map (delay_made true) given → map figures rows ≡ map (new_figures true) given
open_given ds rows given r d = r ∙ sym (map-map open_figures blocks_of ds) ∙ ap (map open_figures) d ∙ map-map open_figures (delay_made true) given

-- The same of a set-up that is accepted, in place of no children.

pub found_start : (c : Children) (m : Model) (seat : ℕ) (ds : List ℕ) → Founds (Ok c) m seat ds → extended (Some c) m ≡ founded m seat ds
found_start c m seat ds f = made_start (Ok c) m seat ds f

pub found_lawful : (o : Option Children) (c : Children) (m : Model) (seat : ℕ) (ds : List ℕ) → is_none o ≡ true → Founds (Ok c) m seat ds → Lawful (extended o m) → Lawful (extended (Some c) m)
found_lawful None c m seat ds e f law = made_lawful (Ok c) m seat ds f law
found_lawful (Some d) c m seat ds e f law = absurd (false≢true e)

pub found_untouched : (o : Option Children) (c : Children) (m : Model) (seat : ℕ) (ds : List ℕ) → is_none o ≡ true → Founds (Ok c) m seat ds → Lawful (extended o m) → Untouched (extended o m) → Untouched (extended (Some c) m)
found_untouched None c m seat ds e f law u = made_untouched (Ok c) m seat ds f law u
found_untouched (Some d) c m seat ds e f law u = absurd (false≢true e)
