-- `floor_div` is the floor and `modulo` the remainder that is not below zero, and no other number is. Assumes nothing.
use Rattle.std.specs.Prelude.{◌≡◌, refl, ℕ, zero, suc, ◌+◌, ◌-◌, ◌*◌, ◌/◌, ◌%◌, ◌≤◌, ◌<◌, ℤ, pos, negsuc, neg_ℤ, nat_abs, ◌+ℤ◌, ◌*ℤ◌, ◌≤ℤ◌, ◌<ℤ◌}
use Rattle.std.proofs.Common.{sym, ap, ◌∙◌, zero-mul, suc-mul, mod-lt, mod-eq_of_lt, div-add-mod', div-mul-le_self, arith, lt-ltb, leb→le, le→leb, ltb→lt, lt→ltb}
use Rattle.std.proofs.Math.Nat.{mul-add-mod_self_right, div-eq_of_lt-le}
use Rattle.std.proofs.Math.IntN.{suc_ℤ, +ℤ_one, pos-ne-negsuc}
use Rattle.flush.specs.Floor.{floor_div, modulo, IsFloor, IsModulo}

-- ---- minus x beside -(n + 1)

reaches : (x n : ℕ) → n < x → neg_ℤ (pos x) ≤ℤ negsuc n
reaches zero n h = absurd (omega arith)
reaches (suc x) n h = record { le = le→leb n x (omega arith) }

reached : (x n : ℕ) → neg_ℤ (pos x) ≤ℤ negsuc n → n < x
reached zero n h = absurd h.le
reached (suc x) n h = let k = leb→le n x h.le in omega arith

passes : (x n : ℕ) → x ≤ n → negsuc n <ℤ neg_ℤ (pos x)
passes zero n h = record { lt = tt }
passes (suc x) n h = record { lt = lt→ltb x n h }

passed : (x n : ℕ) → negsuc n <ℤ neg_ℤ (pos x) → x ≤ n
passed zero n h = omega arith
passed (suc x) n h = ltb→lt x n h.lt

never_below : (x n : ℕ) → pos n <ℤ neg_ℤ (pos x) → ⊥
never_below zero n h = let k = ltb→lt n zero h.lt in omega arith
never_below (suc x) n h = h.lt

-- -(k + 1) + 1, times d, is minus k × d
next_up : (k d : ℕ) → (negsuc k +ℤ pos 1) *ℤ pos d ≡ neg_ℤ (pos (k * d))
next_up k d = ap (λ (z : ℤ). z *ℤ pos d) (+ℤ_one (negsuc k)) ∙ by k
  where
    by : (k : ℕ) → suc_ℤ (negsuc k) *ℤ pos d ≡ neg_ℤ (pos (k * d))
    by zero = simp (zero-mul d)
    by (suc k) = refl

-- ---- the floor

one_more : (k : ℕ) → k + 1 ≡ suc k
one_more k = omega arith

next-quotient : (n d : ℕ) → 0 < d → n < suc (n / d) * d
next-quotient n d h = omega (arith, suc-mul (n / d) d, div-add-mod' n d, mod-lt n h)

pub is_floor : (s : ℤ) (d : ℕ) → 0 < d → IsFloor s d (floor_div s d)
is_floor (pos n) d h = record {
  reached = record { le = le→leb (n / d * d) n (div-mul-le_self n d) };
  not_passed = record { lt = rw (one_more (n / d)) (lt→ltb n (suc (n / d) * d) (next-quotient n d h)) };
}
is_floor (negsuc n) d h = record {
  reached = reaches (suc (n / d) * d) n (next-quotient n d h);
  not_passed = rw (next_up (n / d) d) (passes (n / d * d) n (div-mul-le_self n d));
}

pub only_floor : (s : ℤ) (d : ℕ) (q : ℤ) → IsFloor s d q → q ≡ floor_div s d
only_floor (pos n) d (pos k) f =
    ap pos (sym (div-eq_of_lt-le {k = k} d (leb→le (k * d) n f.reached.le) (ltb→lt n ((k + 1) * d) f.not_passed.lt)))
only_floor (pos n) d (negsuc k) f = absurd (never_below (k * d) n (rw (next_up k d) at f.not_passed))
only_floor (negsuc n) d (pos k) f = absurd f.reached.le
only_floor (negsuc n) d (negsuc k) f =
    ap negsuc (sym (div-eq_of_lt-le {k = k} d (passed (k * d) n (rw (next_up k d) at f.not_passed)) (rw (one_more k) (reached (suc k * d) n f.reached))))

-- ---- what it leaves

-- minus x, and r more than that, where r is below x
add_rest : (x n r : ℕ) → n + r + 1 ≡ x → neg_ℤ (pos x) +ℤ pos r ≡ negsuc n
add_rest zero n r e = absurd (omega arith)
add_rest (suc x) n r e = simp (lt-ltb r (suc x) (omega arith)) (ap negsuc (omega arith))

rest_added : (x r : ℕ) (s : ℤ) → r < x → neg_ℤ (pos x) +ℤ pos r ≡ s → s ≡ negsuc (x - r - 1)
rest_added x r s h e = sym e ∙ add_rest x (x - r - 1) r (omega arith)

pub is_modulo : (s : ℤ) (d : ℕ) → 0 < d → IsModulo s d (modulo s d)
is_modulo (pos n) d h = record { below = mod-lt n h; times = pos (n / d); is = ap pos (div-add-mod' n d) }
is_modulo (negsuc n) d h =
    let m = mod-lt n h in
    record {
      below = omega arith;
      times = negsuc (n / d);
      is = add_rest (suc (n / d) * d) n (d - 1 - n % d) (omega (arith, suc-mul (n / d) d, div-add-mod' n d));
    }

pub only_modulo : (s : ℤ) (d r : ℕ) → IsModulo s d r → r ≡ modulo s d
only_modulo s d r m = by s m.times m.is
  where
    below : r < d
    below = m.below

    -- of q × d + k, with k below d, it is k
    left : (q k n : ℕ) → k < d → q * d + k ≡ n → n % d ≡ k
    left q k n h e = ap (λ (x : ℕ). x % d) (sym e) ∙ mul-add-mod_self_right q d k ∙ mod-eq_of_lt h

    by : (s times : ℤ) → times *ℤ pos d +ℤ pos r ≡ s → r ≡ modulo s d
    by (pos n) (pos q) e = sym (left q r n below (ap nat_abs e))
    by (pos n) (negsuc q) e = absurd (pos-ne-negsuc n _ (rest_added (suc q * d) r (pos n) (omega (arith, suc-mul q d, below)) e))
    by (negsuc n) (pos q) e = absurd (pos-ne-negsuc (q * d + r) n e)
    by (negsuc n) (negsuc q) e =
        let m = ap nat_abs (rest_added (suc q * d) r (negsuc n) (omega (arith, suc-mul q d, below)) e) in
        let k = left q (d - 1 - r) n (omega (arith, below)) (omega (arith, suc-mul q d, below, m)) in
        omega (arith, below, k)
