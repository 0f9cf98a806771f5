use Rattle.std.specs.Prelude.{ℕ, ◌+◌, ◌-◌, ◌*◌, ◌/◌, ◌%◌, ◌^◌, List, [], ◌∷◌, ◌++◌, map, length, drop, replicate, fold, bit_or, bit_xor}
use Rattle.std.specs.Int.{w64, to_le_bytes}
use Rattle.std.specs.List.{flat_map}
use Rattle.std.specs.Simd.{first_chunks}
use Rattle.siphash.specs.declared.Lanes.{Lanes}

-- the sum of two words modulo 2^64
abbrev pub add : ℕ → ℕ → ℕ
add a b = (a + b) % 2 ^ 64

-- a word rotated to the left by k bits, where k is 1 to 63
abbrev pub rotl : ℕ → ℕ → ℕ
rotl k x = bit_or ((x * 2 ^ k) % 2 ^ 64) (x / 2 ^ (64 - k))

-- one sip round over the four lanes
unfoldable pub sip_round : Lanes → Lanes
sip_round s =
    let a0 = add s.v0 s.v1 in
    let a1 = bit_xor (rotl 13 s.v1) a0 in
    let b0 = rotl 32 a0 in
    let a2 = add s.v2 s.v3 in
    let a3 = bit_xor (rotl 16 s.v3) a2 in
    let c0 = add b0 a3 in
    let c3 = bit_xor (rotl 21 a3) c0 in
    let b2 = add a2 a1 in
    let c1 = bit_xor (rotl 17 a1) b2 in
    let c2 = rotl 32 b2 in
    record { v0 = c0; v1 = c1; v2 = c2; v3 = c3 }

-- initialization: the lanes of a key's two words, each with its constant
unfoldable pub initial : ℕ → ℕ → Lanes
initial k0 k1 =
    record {
      v0 = bit_xor k0 0x736f6d6570736575;
      v1 = bit_xor k1 0x646f72616e646f6d;
      v2 = bit_xor k0 0x6c7967656e657261;
      v3 = bit_xor k1 0x7465646279746573;
    }

-- compression of one message word: two sip rounds, the word before them in v3 and after them in v0
unfoldable pub compress : Lanes → ℕ → Lanes
compress s m =
    let t = sip_round (sip_round (record { v0 = s.v0; v1 = s.v1; v2 = s.v2; v3 = bit_xor s.v3 m })) in
    record { v0 = bit_xor t.v0 m; v1 = t.v1; v2 = t.v2; v3 = t.v3 }

-- finalization: ff into v2, four sip rounds, and the four lanes in one word
unfoldable pub finalize : Lanes → ℕ
finalize s =
    let t = sip_round (sip_round (sip_round (sip_round (record { v0 = s.v0; v1 = s.v1; v2 = bit_xor s.v2 0xff; v3 = s.v3 })))) in
    bit_xor (bit_xor (bit_xor t.v0 t.v1) t.v2) t.v3

-- the number that bytes stand for, least byte first
unfoldable pub little_endian : List ℕ → ℕ
little_endian [] = 0
little_endian (b ∷ bs) = b + 256 * little_endian bs

-- the whole words of a message: each eight bytes in order, as a number
abbrev pub whole_words : List ℕ → List ℕ
whole_words bytes = map little_endian (first_chunks 8 (length bytes / 8) bytes)

-- the bytes of a message that are left over after its whole words, fewer than eight
abbrev pub left_over : List ℕ → List ℕ
left_over bytes = drop (length bytes / 8 * 8) bytes

-- the last message word: the bytes left over, zeros up to seven bytes, and the message's length modulo 256 as the top byte
unfoldable pub last_word : List ℕ → ℕ → ℕ
last_word rest len = little_endian ((rest ++ replicate (7 - length rest) 0) ++ (len % 256 ∷ []))

-- SipHash-2-4 of a message of bytes, under the key words k0 and k1
abbrev pub sip_hash : ℕ → ℕ → List ℕ → ℕ
sip_hash k0 k1 bytes = finalize (compress (fold compress (initial k0 k1) (whole_words bytes)) (last_word (left_over bytes) (length bytes)))

-- the bytes of 64-bit words: the eight bytes of each, least byte first
unfoldable pub word_bytes : List ℕ → List ℕ
word_bytes ws = flat_map (to_le_bytes w64) ws
