use Rattle.std.proofs.Common.{◌≡◌, ℕ, zero, suc, ◌+◌, ◌-◌, ◌*◌, ◌/◌, ◌<◌, ◌≤◌, List, [], ◌∷◌, ◌++◌, map, length, get_or, drop, set, replicate, fold, Fits, w64, refl, ap, ◌∙◌, arith}
use Rattle.std.specs.Int.{from_le_bytes, to_le_bytes}
use Rattle.std.proofs.lemmas.Nat.{from_le_bytes-to_le_bytes_8}
use Rattle.std.specs.Simd.{first_chunks}
use Rattle.std.proofs.lemmas.List.{drop_all, drop-replicate, append_assoc, length-append, length-replicate, replicate_more, set_at}
use Rattle.siphash.specs.declared.Lanes.{Lanes}
use Rattle.siphash.specs.Sip.{compress, finalize, little_endian, whole_words, left_over, last_word, word_bytes}

-- ---- the number of eight bytes

number_at : (xs : List ℕ) (i : ℕ) → little_endian (drop i xs) ≡ get_or xs i 0 + 256 * little_endian (drop (suc i) xs)
unfolding little_endian
number_at [] zero = refl
number_at [] (suc i) = refl
number_at (x ∷ xs) zero = refl
number_at (x ∷ xs) (suc i) = number_at xs i

pub eight_bytes : (xs : List ℕ) → length xs ≡ 8 → little_endian xs ≡ from_le_bytes w64 xs
unfolding little_endian
eight_bytes xs h =
    let none = drop_all 8 xs (omega arith) in
    omega (
      arith,
      number_at xs 0,
      number_at xs 1,
      number_at xs 2,
      number_at xs 3,
      number_at xs 4,
      number_at xs 5,
      number_at xs 6,
      number_at xs 7,
      ap little_endian none,
    )

-- ---- words and their bytes

length_words : (ws : List ℕ) → length (word_bytes ws) ≡ 8 * length ws
unfolding word_bytes
length_words [] = refl
length_words (w ∷ ws) = omega (arith, length_words ws)

-- eight bytes at a time the bytes of words are the words
chunks_of_words : (ws : List ℕ) → ((i : ℕ) → Fits w64 (get_or ws i 0)) → map little_endian (first_chunks 8 (length ws) (word_bytes ws)) ≡ ws
unfolding word_bytes
chunks_of_words [] fits = refl
chunks_of_words (w ∷ ws) fits =
    let here = fits 0 in
    let back = eight_bytes (to_le_bytes w64 w) refl ∙ from_le_bytes-to_le_bytes_8 w (omega arith) in
    let more = chunks_of_words ws (λ i. fits (suc i)) in
    cc

whole : (ws : List ℕ) → ((i : ℕ) → Fits w64 (get_or ws i 0)) → whole_words (word_bytes ws) ≡ ws
whole ws fits =
    let count : length (word_bytes ws) / 8 ≡ length ws = omega (arith, length_words ws) in
    ap (λ k. map little_endian (first_chunks 8 k (word_bytes ws))) count ∙ chunks_of_words ws fits

nothing_left : (ws : List ℕ) → left_over (word_bytes ws) ≡ []
nothing_left ws =
    let n : length (word_bytes ws) ≤ length (word_bytes ws) / 8 * 8 = omega (arith, length_words ws) in
    drop_all (length (word_bytes ws) / 8 * 8) (word_bytes ws) n

-- the hash of words is that of their bytes
pub hash_of_words : (s : Lanes) (ws : List ℕ) → ((i : ℕ) → Fits w64 (get_or ws i 0))
    → finalize (compress (fold compress s ws) (last_word [] (8 * length ws)))
    ≡ finalize (compress (fold compress s (whole_words (word_bytes ws))) (last_word (left_over (word_bytes ws)) (length (word_bytes ws))))
hash_of_words s ws fits = cc (whole ws fits, nothing_left ws, length_words ws)

-- ---- the last word

-- eight zeros, over the first of which the bytes `rest` are written, and over the last the byte b
pub padded : (xs rest : List ℕ) (k b : ℕ) → xs ≡ rest → k ≡ length rest → length rest < 8
    → set (xs ++ drop k (replicate 8 0)) 7 b ≡ (rest ++ replicate (7 - length rest) 0) ++ (b ∷ [])
padded xs rest k b e h lt =
    let m : 8 - length rest ≡ 7 - length rest + 1 = omega arith in
    let n : length (rest ++ replicate (7 - length rest) 0) ≡ 7 = simp (length-append, length-replicate) (omega arith) in
    rw (e, h, drop-replicate {X = ℕ}, m, ← replicate_more {X = ℕ} (7 - length rest) 0, ← append_assoc) (set_at (rest ++ replicate (7 - length rest) 0) 0 [] b 7 n)
