-- Powers of powers. Assumes nothing.
use Rattle.std.specs.Prelude.{◌≡◌, ℕ, zero, suc, ◌*◌, ◌^◌}
use Rattle.std.proofs.Common.{sym, ap, ◌∙◌, mul_comm, mul-suc, mul-zero, one-mul, pow-suc, pow-add}
use Rattle.std.proofs.Math.Nat.{pow-zero}

pub pow_one : (x : ℕ) → x ^ 1 ≡ x
pow_one x = pow-suc x 0 ∙ ap (λ (y : ℕ). y * x) (pow-zero x) ∙ one-mul x

pub pow_mul : (x a b : ℕ) → x ^ (a * b) ≡ (x ^ a) ^ b
pow_mul x a zero = ap (λ (y : ℕ). x ^ y) (mul-zero a) ∙ pow-zero x ∙ sym (pow-zero (x ^ a))
pow_mul x a (suc b) =
    ap (λ (y : ℕ). x ^ y) (mul-suc a b) ∙ pow-add x (a * b) a ∙ ap (λ (y : ℕ). y * x ^ a) (pow_mul x a b) ∙ sym (pow-suc (x ^ a) b)

pub pow_swap : (x a b : ℕ) → (x ^ a) ^ b ≡ (x ^ b) ^ a
pow_swap x a b = sym (pow_mul x a b) ∙ ap (λ (y : ℕ). x ^ y) (mul_comm a b) ∙ pow_mul x b a
