-- Tallies of a pool, and what a write changes.
use Rattle.std.proofs.Common.{◌≡◌, ℕ, suc, ◌+◌, ◌<◌, true, cond, not, List, [], ◌∷◌, map, length, get_or, set, is_some, Some, None, position, sum_by, Option, refl, ap, ◌∙◌, arith}
use Rattle.std.specs.List.{position_or_len, range_with_len, slice_index}
use Rattle.std.proofs.lemmas.Bool.{lt-ltb}
use Rattle.std.proofs.lemmas.List.Quantifiers.{position-Some}
use Rattle.std.proofs.lemmas.List.Sums.{sum_by-set, sum_by-cons}
use Rattle.output_chain.specs.declared.output.Output.{Output}
use Rattle.ledger.specs.Model.{fresh}
use Rattle.output_chain.specs.Reading.{Exact}
use Rattle.output_chain.specs.Coins.{Coin, funding, coin_of, in_cell, tally, each}

-- how many outputs there are
pub each_one : (xs : List Coin) → sum_by each xs ≡ length xs
each_one [] = refl
each_one (x ∷ xs) =
    let e = sum_by-cons each x xs in
    let r = each_one xs in
    omega (arith, e, r)

free_first : (cells : List (Option Output)) → tally cells each < length cells → position_or_len (λ cell. not (is_some cell)) cells < length cells
free_first [] h = absurd (omega arith)
free_first (None ∷ rest) h = omega arith
free_first (Some o ∷ rest) h =
    let e = sum_by-cons (in_cell each) (Some o) rest in
    let r = free_first rest (omega (arith, e, h)) in
    omega (arith, r)

-- a pool with fewer outputs than cells has a free cell
pub free_there : (cells : List (Option Output)) → tally cells each < length cells → is_some (position (λ cell. not (is_some cell)) cells) ≡ true
free_there cells h =
    let i = position_or_len (λ (cell : Option Output). not (is_some cell)) cells in
    ap (λ b. is_some (cond b (Some i) None)) (lt-ltb i (length cells) (free_first cells h))

free_none : (f : Coin → ℕ) (cell : Option Output) → not (is_some cell) ≡ true → in_cell f cell ≡ 0
free_none f None e = refl
free_none f (Some o) e = absurd cc

-- an output that is made in a free cell
pub made_in : (f : Coin → ℕ) (cells : List (Option Output)) (i : ℕ) (o : Output) → position (λ cell. not (is_some cell)) cells ≡ Some i → tally (set cells i (Some o)) f ≡ tally cells f + f (coin_of o)
made_in f cells i o e =
    let p = position-Some (λ (cell : Option Output). not (is_some cell)) cells i None e in
    let s = sum_by-set (in_cell f) cells i (Some o) None p.0 in
    let z = free_none f (get_or cells i None) p.1 in
    omega (arith, s, z)

-- a tally of a pool in which each cell has 0
pub none_in : (f : Coin → ℕ) (cells : List (Option Output)) → ((i : ℕ) → i < length cells → in_cell f (get_or cells i None) ≡ 0) → tally cells f ≡ 0
none_in f [] h = refl
none_in f (x ∷ rest) h =
    let e = sum_by-cons (in_cell f) x rest in
    let z = h 0 (omega arith) in
    let r = none_in f rest (λ i l. h (suc i) (omega arith)) in
    omega (arith, e, z, r)

-- a new pool that holds the funding outputs
pub only_fundings : (cells : List (Option Output)) (vs ws : List ℕ) (made : List Output) → ((f : Coin → ℕ) → tally cells f ≡ 0 + sum_by f (map coin_of made)) → map coin_of made ≡ map (λ p. funding p (slice_index ws p)) (range_with_len 0 8) → ws ≡ vs
    → Exact cells vs (λ _. fresh)
only_fundings cells vs ws made h e same f =
    let a = h f in
    let b = ap (sum_by f) (e ∙ ap (λ (us : List ℕ). map (λ p. funding p (slice_index us p)) (range_with_len 0 8)) same) in
    omega (arith, a, b)
