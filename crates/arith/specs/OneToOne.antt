-- `mix64` is one-to-one on the numbers below 2 ^ 64, since each of its steps can be undone; so is a key's hash under one seed.
-- Assumes nothing.
use Rattle.std.specs.Prelude.{◌≡◌, ℕ, ◌+◌, ◌*◌, ◌/◌, ◌%◌, ◌^◌, ◌<◌, bit_xor, refl}
use Rattle.std.proofs.Common.{sym, ap, ◌∙◌, mod-lt, mod-eq_of_lt, div-le_self, mul_assoc, mul-one, arith, pow_pos, shr-shr}
use Rattle.std.proofs.Math.Nat.{div-eq_of_lt}
use Rattle.std.proofs.lemmas.Nat.{xor_shr, xor_lt}
use Rattle.std.specs.Int.Bits.{xor_zero_r}
use Rattle.words.specs.Modulo.{mod_mul_mod, mul_mod_mod}
use Rattle.words.specs.Xor.{xor_cancel_right}
use Rattle.arith.specs.Steps.{xorshift, times}
use Rattle.arith.specs.Murmur3.{mix64_of, hash_of}

-- ---- the steps

pub xorshift-lt : (k x : ℕ) → x < 2 ^ 64 → xorshift k x < 2 ^ 64
unfolding xorshift
xorshift-lt k x h = xor_lt 64 x (x / 2 ^ k) h (omega (arith, div-le_self x (2 ^ k)))

pub times-lt : (c x : ℕ) → times c x < 2 ^ 64
unfolding times
times-lt c x = mod-lt (x * c) (pow_pos 64)

-- a shift by half of the digits or more, twice
xorshift_undone : (k x : ℕ) → x < 2 ^ (k + k) → xorshift k (xorshift k x) ≡ x
unfolding xorshift
xorshift_undone k x h =
    ap (bit_xor (bit_xor x (x / 2 ^ k))) (xor_shr x (x / 2 ^ k) k ∙ ap (bit_xor (x / 2 ^ k)) (shr-shr x k k ∙ div-eq_of_lt h) ∙ xor_zero_r (x / 2 ^ k))
    ∙ xor_cancel_right x (x / 2 ^ k)

-- a factor c, and then one d whose product with c is 1 modulo 2 ^ 64
times_undone : (c d x : ℕ) → (c * d) % 2 ^ 64 ≡ 1 → x < 2 ^ 64 → times d (times c x) ≡ x
unfolding times
times_undone c d x e h =
    mod_mul_mod (2 ^ 64) (x * c) d
    ∙ ap (λ (n : ℕ). n % 2 ^ 64) (mul_assoc x c d)
    ∙ sym (mul_mod_mod (2 ^ 64) x (c * d))
    ∙ ap (λ (n : ℕ). (x * n) % 2 ^ 64) e
    ∙ ap (λ (n : ℕ). n % 2 ^ 64) (mul-one x)
    ∙ mod-eq_of_lt h

-- ---- the mix, step by step back

-- the key whose mix it is
unfoldable pub unmix64_of : ℕ → ℕ
unmix64_of mixed = xorshift 33 (times 0x4f74430c22a54005 (xorshift 33 (times 0x9cb4b2f8129337db (xorshift 33 mixed))))

pub mix64_undone : (key : ℕ) → key < 2 ^ 64 → unmix64_of (mix64_of key) ≡ key
unfolding mix64_of unmix64_of
mix64_undone key h =
    ap (λ (x : ℕ). xorshift 33 (times 0x4f74430c22a54005 (xorshift 33 (times 0x9cb4b2f8129337db x)))) (xorshift_undone 33 fourth (omega (arith, times-lt 0xc4ceb9fe1a85ec53 third)))
    ∙ ap (λ (x : ℕ). xorshift 33 (times 0x4f74430c22a54005 (xorshift 33 x))) (times_undone 0xc4ceb9fe1a85ec53 0x9cb4b2f8129337db third refl (xorshift-lt 33 second (times-lt 0xff51afd7ed558ccd first)))
    ∙ ap (λ (x : ℕ). xorshift 33 (times 0x4f74430c22a54005 x)) (xorshift_undone 33 second (omega (arith, times-lt 0xff51afd7ed558ccd first)))
    ∙ ap (xorshift 33) (times_undone 0xff51afd7ed558ccd 0x4f74430c22a54005 first refl (xorshift-lt 33 key h))
    ∙ xorshift_undone 33 key (omega arith)
  where
    first : ℕ
    first = xorshift 33 key

    second : ℕ
    second = times 0xff51afd7ed558ccd first

    third : ℕ
    third = xorshift 33 second

    fourth : ℕ
    fourth = times 0xc4ceb9fe1a85ec53 third

pub mix64_one_to_one : (j k : ℕ) → j < 2 ^ 64 → k < 2 ^ 64 → mix64_of j ≡ mix64_of k → j ≡ k
mix64_one_to_one j k hj hk e = sym (mix64_undone j hj) ∙ ap unmix64_of e ∙ mix64_undone k hk

-- ---- the hash of a key

pub mix64_lt : (key : ℕ) → mix64_of key < 2 ^ 64
unfolding mix64_of
mix64_lt key = xorshift-lt 33 _ (times-lt 0xc4ceb9fe1a85ec53 _)

pub hash-lt : (key seed : ℕ) → hash_of key seed < 2 ^ 64
unfolding hash_of
hash-lt key seed = mix64_lt ((key + seed) % 2 ^ 64)

-- two keys have one hash under a seed only where they are equal
pub hash_one_to_one : (seed j k : ℕ) → seed < 2 ^ 64 → j < 2 ^ 64 → k < 2 ^ 64 → hash_of j seed ≡ hash_of k seed → j ≡ k
unfolding hash_of
hash_one_to_one seed j k hs hj hk e =
    let sums : (j + seed) % 2 ^ 64 ≡ (k + seed) % 2 ^ 64 = mix64_one_to_one ((j + seed) % 2 ^ 64) ((k + seed) % 2 ^ 64) (mod-lt (j + seed) (pow_pos 64)) (mod-lt (k + seed) (pow_pos 64)) e in
    omega arith
