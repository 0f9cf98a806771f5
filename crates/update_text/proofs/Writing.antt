use Rattle.std.proofs.Common.{Bor, Iter, Option, Some, map, ◌≡◌, ℕ, zero, suc, ◌+◌, ◌-◌, ◌<◌, ◌≤◌, Bool, true, ◌&&◌, leb, List, [], ◌∷◌, ◌++◌, length, get_or, take, drop, decimal, sym, refl, ap, ◌∙◌, append_assoc, arith, length-append}
use Rattle.std.proofs.lemmas.Bool.Decides.{nat_tests}
use borrow.Rule.Slice.PartMut.{put_mid}
use Rattle.std.proofs.lemmas.List.{length-map, take_more, length-take}
use Rattle.std.proofs.lemmas.Iterator.{zips}
use Rattle.std.proofs.lemmas.Slice.Zip.{zip_turn}
use Rattle.std.specs.declared.iter.Zip.{Zip}
use Rattle.std.proofs.lemmas.Grind.{common_steps}
use Rattle.std.specs.Iterator.{Yields}
use Rattle.std.specs.Iterator.Adapters.{zip_first, zip_second}
use Rattle.std.specs.Slice.Iter.{iter_rest}
use Rattle.std.proofs.iter.Yields.{fronts}
use Rattle.update_text.specs.Line.{line, lines, keys}
use Rattle.update_text.proofs.Runs.{key_now, lines_push, shorter}
use Rattle.update_text.proofs.Placing.{line_length, then_more}

lines_step : (vs : List ℕ) (i : ℕ) → i < length vs → i < length keys → lines keys (take (i + 1) vs) ≡ lines keys (take i vs) ++ line (get_or keys i []) (get_or vs i 0)
lines_step vs i l m = grind (arith, common_steps, take_more, lines_push, length-take)

pub lines_le : (vs : List ℕ) (n : ℕ) → length (lines keys (take n vs)) ≤ length (lines keys vs)
lines_le vs n = let s = shorter keys vs [] n in grind (arith, common_steps)

-- what is known of line i, counted from 0, while the lines before it stand already
pub record NextLine (vs key : List ℕ) (v i : ℕ) : Type 0 where
  pub inside : i < length vs
  pub keyed : i < length keys
  pub is : key ≡ get_or keys i []
  pub value : v ≡ get_or vs i 0
  pub more : length (lines keys (take (i + 1) vs)) ≡ length (lines keys (take i vs)) + (length key + length (decimal v) + 1)
  pub begins : length (lines keys (take i vs)) ≤ length (lines keys vs)
  pub ends : length (lines keys (take (i + 1) vs)) ≤ length (lines keys vs)

next_line : (vs key : List ℕ) (v i : ℕ) → i < length vs → i < length keys → key ≡ get_or keys i [] → v ≡ get_or vs i 0 → NextLine vs key v i
next_line vs key v i l m ek ev =
    let k = ap length ek in
    let w = ap (λ n. length (decimal n)) ev in
    let a = ap length (lines_step vs i l m) in
    let b = length-append (lines keys (take i vs)) (line (get_or keys i []) (get_or vs i 0)) in
    let d = line_length (get_or keys i []) (get_or vs i 0) in
    record { inside = l; keyed = m; is = ek; value = ev; more = omega arith; begins = lines_le vs i; ends = lines_le vs (i + 1) }

-- the line of this turn of a loop over the keys and the values
pub this_line : (vs : List ℕ) (xs : List (Bor (Bor (List ℕ)) × Bor ℕ)) (s t u : Zip (Iter (Bor (List ℕ))) (Iter ℕ)) (r : Option (Bor (Bor (List ℕ)) × Bor ℕ)) (p : Bor (Bor (List ℕ)) × Bor ℕ)
    → map (λ k. k.now) (iter_rest (zip_first s)) ≡ keys → iter_rest (zip_second s) ≡ vs → Yields (zips fronts fronts) s xs t → r ≡ Some p → zips fronts fronts t r u
    → NextLine vs p.0.now.now p.1.now (length xs)
this_line vs xs s t u r p ek ev y is steps =
    let K = iter_rest (zip_first s) in
    let z = zip_turn K vs xs s t u r refl ev y p is steps in
    let n = ap length ek in
    let m = length-map K (λ k. k.now) in
    let key = ap (λ b. b.now) (z.2 p.0.now) ∙ key_now K (length xs) p.0.now z.0 ∙ ap (λ ks. get_or ks (length xs) []) ek in
    next_line vs p.0.now.now p.1.now (length xs) z.1 (omega arith) key (z.3 0)

-- every key has at most seven bytes, by a test over the list
abbrev short : List (List ℕ) → Bool
short [] = true
short (k ∷ ks) = leb (length k) 7 && short ks

short_each : (ks : List (List ℕ)) (i : ℕ) → short ks ≡ true → length (get_or ks i []) ≤ 7
short_each [] i h = omega arith
short_each (k ∷ ks) zero h = grind (arith, nat_tests)
short_each (k ∷ ks) (suc i) h = short_each ks i (grind (arith, nat_tests))

pub key_short : (i : ℕ) → length (get_or keys i []) ≤ 7
unfolding keys
key_short i = short_each keys i refl

-- the next line is written at `at`
pub place_line : (old mid part vs key : List ℕ) (v pos at i b : ℕ) → NextLine vs key v i → pos ≤ length old → at ≡ pos + length (lines keys (take i vs))
    → b ≡ length key + length (decimal v) + 1
    → mid ≡ (take pos old ++ lines keys (take i vs)) ++ drop at old
    → part ≡ line key v ++ drop b (take (length mid - at) (drop at mid))
    → put_mid at (length mid - at) mid part ≡ (take pos old ++ lines keys (take (i + 1) vs)) ++ drop (at + b) old
place_line old mid part vs key v pos at i b next inside ea eb em ep =
    let front = take pos old ++ lines keys (take i vs) in
    let new = line key v in
    let fl : at ≡ length front = omega (arith, length-append (take pos old) (lines keys (take i vs)), length-take pos old) in
    let nl : b ≡ length new = omega (arith, line_length key v) in
    let s : lines keys (take (i + 1) vs) ≡ lines keys (take i vs) ++ new = lines_step vs i next.inside next.keyed ∙ ap (λ k. lines keys (take i vs) ++ line k (get_or vs i 0)) (sym next.is) ∙ ap (λ n. lines keys (take i vs) ++ line key n) (sym next.value) in
    then_more old mid part front new at b fl nl em ep ∙ ap (λ xs. xs ++ drop (at + b) old) (append_assoc (take pos old) (lines keys (take i vs)) new ∙ ap (λ xs. take pos old ++ xs) (sym s))

pub place_none : (old : List ℕ) (pos : ℕ) → (pos ≡ pos + length (lines keys [])) × (old ≡ (take pos old ++ lines keys []) ++ drop pos old)
unfolding keys
place_none old pos = (omega arith, grind (arith, common_steps))
